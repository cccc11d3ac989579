use Rattle.std.proofs.Common.{◌≡◌, ◌∷◌, List, [], ap, sym, subst, length, arith}
use Rattle.std.specs.List.{AllByRecursion}
use Rattle.zio_spelled.specs.declared.rounds.RoundJournal.{RoundJournal}
use Rattle.zio_audit.proofs.CompletionLemmas.{few_rounds}
use Rattle.zio_audit.proofs.run.round_behind.Goals as goal

abbrev NoneIn : List RoundJournal → Type 0
NoneIn journals = AllByRecursion (λ (j : RoundJournal). j.entries ≡ []) journals

pub loop-journal-preserved : goal.loop-journal-preserved
loop-journal-preserved c =
    let l = c.loop-journal in
    let next : l.later ≡ c.in-Some.journal ∷ c.next.new.self = rw c.in-Some.is at c.in_ok-journal.ensures.next in
    let long = ap length next in
    let many = l.invariant.many in
    let now = c.next.ensures.few in
    let none : c.in-Some.journal.entries ≡ [] = c.is_empty.ensures.0 c.if-not-is_empty.false in
    record {
      many = omega arith;
      few = λ more. few_rounds l.more (length l.later) _ many now l.invariant.few;
      on = λ all. (subst NoneIn next (l.invariant.on all)).1;
      back = λ later. l.invariant.back (subst NoneIn (sym next) (none, later));
    }
