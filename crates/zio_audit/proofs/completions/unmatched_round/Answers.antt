use Rattle.std.proofs.Common.{◌+◌, List, [], ap, sym, ◌∙◌, subst, length, arith}
use Rattle.std.specs.List.{list_all}
use Rattle.zio_spelled.specs.declared.rounds.RoundJournal.{RoundJournal}
use Rattle.zio_audit.specs.Completions.{completions_from}
use Rattle.zio_audit.specs.declared.marks.Mark.{Mark}
use Rattle.zio_audit.specs.Marks.{is_settled, meet_each}
use Rattle.zio_audit.specs.Verdicts.{orders_of}
use Rattle.zio_audit.proofs.CompletionLemmas.{AreTables, IsExact, all_settled_is, few_rounds, met_by, step_met, step_unmet, unmet, unmet_by, written}
use Rattle.zio_audit.proofs.completions.unmatched_round.Goals as goal

pub returns-then-not-meet_round : goal.returns-then-not-meet_round
returns-then-not-meet_round c =
    let tables : AreTables c.args.items.now c.args.due.now c.table_len-len.result c.in_ok-marks.marks.items c.in_ok-parents.parents.items =
    record { below = c.table_len-len.ensures; long = c.in_ok-marks.ensures.0; each = c.in_ok-marks.ensures.1; known = c.in_ok-parents.ensures.1 } in
    let l = c.loop-parents in
    let next = rw c.in-Some.is at c.in_ok-journal.ensures.next in
    unmet c.args.items.now c.args.due.now c.table_len-len.result c.in_ok-marks.marks.items c.in_ok-parents.parents.items (orders_of c.args.journals) c.requires tables
    (l.invariant.met
    ∙ ap (λ (js : List RoundJournal). meet_each c.in_ok-parents.parents.items l.marks.items (completions_from [] (l.round + 1) (orders_of js))) next
    ∙ step_unmet c.in_ok-parents.parents.items l.marks.items c.in-Some.journal.order (orders_of c.next.new.self) l.round
    (unmet_by c.deref.result.now c.in_ok-parents.parents.items c.deref_mut.result.now l.marks.items c.as_slice.result.now c.in-Some.journal.order (l.round + 1)
    c.deref.ensures.value c.deref_mut.ensures.value c.as_slice.ensures c.if-not-meet_round.ensures))

pub loop-parents-preserved : goal.loop-parents-preserved
loop-parents-preserved c =
    let l = c.loop-parents in
    let next = rw c.in-Some.is at c.in_ok-journal.ensures.next in
    let long = ap length next in
    let many = l.invariant.many in
    let now = c.next.ensures.few in
    record {
      many = omega arith;
      few = λ more. few_rounds l.round (length l.later) (length c.args.journals) many now l.invariant.few;
      met = l.invariant.met
          ∙ ap (λ (js : List RoundJournal). meet_each c.in_ok-parents.parents.items l.marks.items (completions_from [] (l.round + 1) (orders_of js))) next
          ∙ step_met c.in_ok-parents.parents.items l.marks.items c.meet_round.new.marks c.in-Some.journal.order (orders_of c.next.new.self) l.round
          (met_by c.deref.result.now c.in_ok-parents.parents.items c.deref_mut.result.now l.marks.items c.meet_round.new.marks c.as_slice.result.now c.in-Some.journal.order (l.round + 1)
          c.deref.ensures.value c.deref_mut.ensures.value c.as_slice.ensures c.if-not-meet_round.ensures)
          ∙ sym (ap (λ (ms : List Mark). meet_each c.in_ok-parents.parents.items ms (completions_from [] (l.round + 1 + 1) (orders_of c.next.new.self)))
          (written l.marks.len c.meet_round.new.marks l.marks.items
          (c.meet_round.auto.marks ∙ ap length c.deref_mut.ensures.value) (sym (ap length c.deref_mut.ensures.value) ∙ c.deref_mut.ensures.len)));
    }

pub returns : goal.returns
returns c =
    let tables : AreTables c.args.items.now c.args.due.now c.table_len-len.result c.in_ok-marks.marks.items c.in_ok-parents.parents.items =
    record { below = c.table_len-len.ensures; long = c.in_ok-marks.ensures.0; each = c.in_ok-marks.ensures.1; known = c.in_ok-parents.ensures.1 } in
    let l = c.loop-parents in
    let ends = rw c.in_default.is at c.in_ok-journal.ensures.next in
    subst (IsExact c.args.items.now c.args.due.now (orders_of c.args.journals)) (sym (c.least_due-2.ensures ∙ ap (λ ms. list_all is_settled ms) c.deref-2.ensures.value))
    (all_settled_is c.args.items.now c.args.due.now c.table_len-len.result c.in_ok-marks.marks.items l.marks.items c.in_ok-parents.parents.items (orders_of c.args.journals) c.requires tables
    (l.invariant.met
    ∙ ap (λ (js : List RoundJournal). meet_each c.in_ok-parents.parents.items l.marks.items (completions_from [] (l.round + 1) (orders_of js))) ends.0))
