use Rattle.std.proofs.Common.{◌≡◌, ◌+◌, ◌<◌, ◌≤◌, ◌∙◌, ap, sym, length, take, get_or, [], ◌∷◌, ◌++◌, Some, None, true, refl, arith, length-set}
use Rattle.std.proofs.lemmas.List.{length_push}
use Rattle.zio_types.specs.Choices.{no_place}
use Rattle.zio_mirror.proofs.PlanLemmas.{length-children}
use Rattle.zio_trace.specs.Calls.{answered_at}
use Rattle.zio_cksum.specs.Blocks.{all_errors, blame}
use Rattle.zio_parts.specs.CopyReads.{Reading, left_of_read, order_at}
use Rattle.zio_parts.specs.contracts.copy_read.CopyRead.{the_view}
use Rattle.zio_parts.proofs.FieldLemmas.{failed_more, good_with, no_some, leaf_is, place_is}
use Rattle.zio_parts.proofs.ReadLemmas.{IsTrying, child_is, errors_more, good_heard, leaf_heard, may_try, more_left, none_left, place_heard}
use Rattle.zio_parts.proofs.copy_read.CopyRead.hear_read.Goals as goal
use Rattle.zio_parts.proofs.copy_read.CopyRead.hear_read.Goals.{in-Some-1, in-None-1}

pub answer-requires : goal.answer-requires
answer-requires c = may_try c.self.inside.leaves c.self.invariant.leaf_errors c.self.invariant.room

pub answer-requires-in-Some : goal.answer-requires-in-Some
answer-requires-in-Some c =
    let x = c.self.inside in
    let i = c.self.invariant in
    let out : x.is_out ≡ true = rw (← c.self.view_is) at c.requires.is_out in
    let orders : length x.copies.order ≡ length x.places = ap length i.order ∙ length-children (length x.places) in
    let reads = i.reads out in
    may_try x.copies i.errors (omega (arith, reads.1, i.tried))

pub invariant_of-self-in_default : goal.invariant_of-self-in_default
invariant_of-self-in_default c =
    let x = c.self.inside in
    let i = c.self.invariant in
    let errors : all_errors c.answer.new.self.answers ≡ true = ap all_errors c.answer.ensures.answers ∙ errors_more x.leaves.answers c.in-Err.error i.leaf_errors in
    let orders : length c.answer.new.self.order ≡ length x.leaves.order = ap length c.answer.ensures.order in
    let counts : length c.answer.new.self.answers ≡ length x.leaves.answers + 1 = ap length c.answer.ensures.answers ∙ length_push x.leaves.answers (Some c.in-Err.error) in
    let child : c.child_to_try-child.result ≡ get_or x.leaves.order x.failures 0 =
    c.child_to_try-child.ensures ∙ child_is x.leaves i.leaf_errors i.room ∙ ap (λ n. get_or x.leaves.order n 0) (sym i.failures) in
    record {
      some = i.some;
      few = i.few;
      order = i.order;
      errors = i.errors;
      tried = i.tried;
      within = i.within;
      leaf_errors = errors;
      room = more_left c.answer.new.self errors (sym c.all_failed.ensures ∙ c.in_default.is);
      most = omega (arith, i.most);
      failures = omega (arith, i.failures);
      failed_room = length-set x.failed x.failures _ ∙ i.failed_room;
      failed = failed_more x.failures x.failed x.leaves.order c.child_to_try-child.result i.failed_room (omega (arith, i.failures, i.room)) i.most i.failed child
          ∙ ap (take (x.failures + 1)) (sym c.answer.ensures.order);
      reads = λ e. absurd (cc);
      found = i.found;
      mends = i.mends;
      handed = i.handed;
      waits = i.waits;
    }

pub invariant_of-self-in-Some : goal.invariant_of-self-in-Some
invariant_of-self-in-Some c =
    let x = c.self.inside in
    let i = c.self.invariant in
    let out : x.is_out ≡ true = rw (← c.self.view_is) at c.requires.is_out in
    let reads = i.reads out in
    let none : x.good ≡ None = reads.0 in
    let errors : all_errors c.answer-in-Some.new.self.answers ≡ true = ap all_errors c.answer-in-Some.ensures.answers ∙ errors_more x.copies.answers c.in-Some.worst i.errors in
    let counts : length c.answer-in-Some.new.self.answers ≡ length x.copies.answers + 1 = ap length c.answer-in-Some.ensures.answers ∙ length_push x.copies.answers (Some c.in-Some.worst) in
    let empty : length c.plan_at-self-inside.result.answers ≡ 0 = ap length c.plan_at-self-inside.ensures.answers in
    record {
      some = i.some;
      few = i.few;
      order = c.answer-in-Some.ensures.order ∙ i.order;
      errors = errors;
      tried = omega (arith, i.tried);
      within = omega (arith, reads.1);
      leaf_errors = ap all_errors c.plan_at-self-inside.ensures.answers;
      room = omega (arith, c.plan_at-self-inside.ensures.least);
      most = c.plan_at-self-inside.ensures.most;
      failures = sym empty;
      failed_room = length-set x.failed x.failures _ ∙ i.failed_room;
      failed = refl;
      reads = λ e. absurd (cc);
      found = λ some. absurd (no_some x.good none some);
      mends = i.mends;
      handed = i.handed;
      waits = i.waits;
    }

pub returns-in-Ok-clause-left : goal.returns-in-Ok-clause-left
returns-in-Ok-clause-left c = λ s good answer e is.
    let x = c.self.inside in
    let i = c.self.invariant in
    let out : x.is_out ≡ true = rw (← c.self.view_is) at c.requires.is_out in
    let reads = i.reads out in
    let v : Reading = the_view x in
    let trying : IsTrying v = record { none_good = reads.0; place_left = omega (arith, reads.1, i.tried); leaf_left = i.room } in
    let handed : x.handed ≡ 0 = i.waits reads.0 in
    let left : left_of_read s good (good_with v c.in-Ok.bytes (take x.handed x.mends)) ≡ answered_at 0 answer (left_of_read s good c.args.self.now) =
    ap (λ n. left_of_read s good (good_with v c.in-Ok.bytes (take n x.mends))) handed
    ∙ good_heard s good v answer c.in-Ok.bytes trying (is ∙ c.in-Ok.is)
    ∙ ap (λ y. answered_at 0 answer (left_of_read s good y)) c.self.view_is in
    elim c.match-self.branch [ in-Some-1 w ↦ ap (left_of_read s good) w.self-is ∙ left | in-None-1 w ↦ ap (left_of_read s good) w.self-is ∙ left ]

pub returns-in_default-clause-left : goal.returns-in_default-clause-left
returns-in_default-clause-left c = λ s good answer e is.
    let x = c.self.inside in
    let i = c.self.invariant in
    let out : x.is_out ≡ true = rw (← c.self.view_is) at c.requires.is_out in
    let reads = i.reads out in
    let v : Reading = the_view x in
    let trying : IsTrying v = record { none_good = reads.0; place_left = omega (arith, reads.1, i.tried); leaf_left = i.room } in
    ap (left_of_read s good) (leaf_is v c.in-Err.error c.answer.new.self c.answer.ensures.order c.answer.ensures.answers)
    ∙ leaf_heard s good v answer c.in-Err.error trying (is ∙ c.in-Err.is)
    ∙ ap (λ y. answered_at 0 answer (left_of_read s good y)) c.self.view_is

pub returns-in-Some-clause-left : goal.returns-in-Some-clause-left
returns-in-Some-clause-left c = λ s good answer e is.
    let x = c.self.inside in
    let i = c.self.invariant in
    let out : x.is_out ≡ true = rw (← c.self.view_is) at c.requires.is_out in
    let reads = i.reads out in
    let v : Reading = the_view x in
    let trying : IsTrying v = record { none_good = reads.0; place_left = omega (arith, reads.1, i.tried); leaf_left = i.room } in
    let errors : all_errors c.answer.new.self.answers ≡ true = ap all_errors c.answer.ensures.answers ∙ errors_more x.leaves.answers c.in-Err.error i.leaf_errors in
    let all = none_left c.answer.new.self c.in-Some.worst errors (sym c.all_failed.ensures ∙ c.in-Some.is) in
    let orders : length c.answer.new.self.order ≡ length x.leaves.order = ap length c.answer.ensures.order in
    let counts : length c.answer.new.self.answers ≡ length x.leaves.answers + 1 = ap length c.answer.ensures.answers ∙ length_push x.leaves.answers (Some c.in-Err.error) in
    let past : length x.leaves.order ≤ length x.leaves.answers + 1 = omega (arith, all.0) in
    let worst : c.in-Some.worst ≡ blame (x.leaves.answers ++ Some c.in-Err.error ∷ []) = all.1 ∙ ap blame c.answer.ensures.answers in
    let places : length c.as_slice.result.now ≡ length x.places = ap length c.as_slice.ensures in
    let order : length x.copies.answers + 1 < length x.places → c.plan_at-self-inside.result.order ≡ order_at s.tops (get_or x.places (length x.copies.answers + 1) no_place) =
    λ l. c.plan_at-self-inside.ensures.order (omega (arith, i.tried))
    ∙ ap (λ ps. order_at c.args.tops.now (get_or ps (x.tried + 1) no_place)) c.as_slice.ensures
    ∙ ap (λ n. order_at c.args.tops.now (get_or x.places (n + 1) no_place)) i.tried
    ∙ ap (λ ts. order_at ts (get_or x.places (length x.copies.answers + 1) no_place)) (sym e) in
    ap (left_of_read s good) (place_is v c.in-Some.worst c.answer-in-Some.new.self c.plan_at-self-inside.result c.answer-in-Some.ensures.order c.answer-in-Some.ensures.answers c.plan_at-self-inside.ensures.answers)
    ∙ place_heard s good v answer c.in-Err.error c.in-Some.worst c.plan_at-self-inside.result.order trying (is ∙ c.in-Err.is) past worst order
    ∙ ap (λ y. answered_at 0 answer (left_of_read s good y)) c.self.view_is
