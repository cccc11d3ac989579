use Rattle.std.proofs.Common.{◌≡◌, ◌+◌, ◌<◌, ◌^◌, [], length}
use Rattle.std.specs.List.{AllByRecursion}
use Rattle.zio_spelled.specs.declared.rounds.RoundJournal.{RoundJournal}
use Rattle.zio_audit.proofs.run.round_behind.Given as goal

abbrev pub invariant-loop-journal : goal.invariant-loop-journal
invariant-loop-journal l = record {
  many : l.more + length l.later ≡ length l.initial.later;
  few : 0 < l.more → length l.initial.later < 2 ^ 32;
  on : AllByRecursion (λ (j : RoundJournal). j.entries ≡ []) l.initial.later → AllByRecursion (λ (j : RoundJournal). j.entries ≡ []) l.later;
  back : AllByRecursion (λ (j : RoundJournal). j.entries ≡ []) l.later → AllByRecursion (λ (j : RoundJournal). j.entries ≡ []) l.initial.later;
}

abbrev pub decreases-loop-journal : goal.decreases-loop-journal
decreases-loop-journal l = length l.later
