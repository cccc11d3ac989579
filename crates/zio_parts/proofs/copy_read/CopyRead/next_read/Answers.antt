use Rattle.std.proofs.Common.{◌≡◌, ◌≤◌, ◌∙◌, ap, sym, subst, length, get_or, None, Err, arith}
use Rattle.zio_types.specs.Choices.{no_place}
use Rattle.zio_mirror.proofs.PlanLemmas.{length-children}
use Rattle.zio_parts.specs.CopyReads.{AllowsRead, Reading, ShowsRead, leaf_at}
use Rattle.zio_parts.specs.declared.copies.Target.{Target}
use Rattle.zio_parts.specs.declared.copy_read.ReadStep.TheVariants.{Fetch, Retry, End}
use Rattle.zio_parts.specs.contracts.copy_read.CopyRead.{the_view}
use Rattle.zio_parts.proofs.FieldLemmas.{quiet}
use Rattle.zio_parts.proofs.ReadLemmas.{again_left, bad_left, child_is, fetch_allowed, fetch_shown, more_left, none_left, quiet_out}
use Rattle.zio_parts.proofs.copy_read.CopyRead.next_read.Goals as goal

pub returns-then-self-clause-shows : goal.returns-then-self-clause-shows
returns-then-self-clause-shows c = λ s good e.
    let x = c.self.inside in
    let i = c.self.invariant in
    let v : Reading = the_view x in
    let none : x.good ≡ None = rw (← c.self.view_is) at c.requires in
    let all = none_left x.copies c.in-Some.error i.errors (sym c.all_failed.ensures ∙ c.in-Some.is) in
    let orders : length x.copies.order ≡ length x.places = ap length i.order ∙ length-children (length x.places) in
    let past : length x.places ≤ length x.copies.answers = omega (arith, all.0) in
    let still = quiet x.is_out _ x.tried (length x.places) i.reads (omega (arith, i.tried)) in
    subst (λ (y : Reading). ShowsRead s good y (End (Err c.in-Some.error))) c.self.view_is (quiet_out v none still, bad_left s good v c.in-Some.error none past c.if-self.true all.1)

pub returns-in-Some-clause-shows : goal.returns-in-Some-clause-shows
returns-in-Some-clause-shows c = λ s good e.
    let x = c.self.inside in
    let i = c.self.invariant in
    let v : Reading = the_view x in
    let none : x.good ≡ None = rw (← c.self.view_is) at c.requires in
    let all = none_left x.copies c.in-Some.error i.errors (sym c.all_failed.ensures ∙ c.in-Some.is) in
    let orders : length x.copies.order ≡ length x.places = ap length i.order ∙ length-children (length x.places) in
    let past : length x.places ≤ length x.copies.answers = omega (arith, all.0) in
    let still = quiet x.is_out _ x.tried (length x.places) i.reads (omega (arith, i.tried)) in
    subst (λ (y : Reading). ShowsRead s good y Retry) c.self.view_is (quiet_out v none still, c.if-self.false, none, again_left s good v none past c.if-self.false)

pub bounds-as_slice-self-inside : goal.bounds-as_slice-self-inside
bounds-as_slice-self-inside c =
    let x = c.self.inside in
    let i = c.self.invariant in
    let more = more_left x.copies i.errors (sym c.all_failed.ensures ∙ c.in_default.is) in
    let orders : length x.copies.order ≡ length x.places = ap length i.order ∙ length-children (length x.places) in
    let same : length c.as_slice.result.now ≡ length x.places = ap length c.as_slice.ensures in
    omega (arith, more, i.tried)

pub returns-clause-shows : goal.returns-clause-shows
returns-clause-shows c = λ s good e.
    let x = c.self.inside in
    let i = c.self.invariant in
    let v : Reading = the_view x in
    let none : x.good ≡ None = rw (← c.self.view_is) at c.requires in
    let more = more_left x.copies i.errors (sym c.all_failed.ensures ∙ c.in_default.is) in
    let orders : length x.copies.order ≡ length x.places = ap length i.order ∙ length-children (length x.places) in
    let place : get_or c.as_slice.result.now x.tried no_place ≡ get_or x.places (length x.copies.answers) no_place =
    ap (λ ps. get_or ps x.tried no_place) c.as_slice.ensures ∙ ap (λ n. get_or x.places n no_place) i.tried in
    let child : c.child_to_try.result ≡ get_or x.leaves.order (length x.leaves.answers) 0 = c.child_to_try.ensures ∙ child_is x.leaves i.leaf_errors i.room in
    let leaf : c.leaf_at-leaf.result ≡ leaf_at c.args.tops.now (get_or x.places (length x.copies.answers) no_place) (get_or x.leaves.order (length x.leaves.answers) 0) =
    c.leaf_at-leaf.ensures ∙ ap (λ p. leaf_at c.args.tops.now p c.child_to_try.result) place ∙ ap (leaf_at c.args.tops.now (get_or x.places (length x.copies.answers) no_place)) child in
    let target : Target = record { place = get_or c.as_slice.result.now x.tried no_place; leaf = c.leaf_at-leaf.result } in
    subst (λ (y : Reading). ShowsRead s good y (Fetch target)) c.self.view_is
    (fetch_shown s c.args.tops.now good v target (record { none_good = none; place_left = omega (arith, more); leaf_left = i.room }) c.if-self-2.false e place leaf)

pub returns-clause-allows : goal.returns-clause-allows
returns-clause-allows c =
    let x = c.self.inside in
    let i = c.self.invariant in
    let v : Reading = the_view x in
    let none : x.good ≡ None = rw (← c.self.view_is) at c.requires in
    let more = more_left x.copies i.errors (sym c.all_failed.ensures ∙ c.in_default.is) in
    let orders : length x.copies.order ≡ length x.places = ap length i.order ∙ length-children (length x.places) in
    let target : Target = record { place = get_or c.as_slice.result.now x.tried no_place; leaf = c.leaf_at-leaf.result } in
    subst (λ (y : Reading). AllowsRead c.args.tops.now y (Fetch target)) c.self.view_is
    (fetch_allowed v (record { none_good = none; place_left = omega (arith, more, i.tried); leaf_left = i.room }) c.if-self-2.false)
