use Rattle.std.proofs.Common.{◌≡◌, drop, find}
use Rattle.zio_vqueue.specs.Classes.{classes}
use Rattle.zio_vqueue.specs.Spots.{is_due_by}
use Rattle.zio_vqueue.proofs.index.first_due.Given as goal

-- the classes so far aren't due
abbrev pub invariant-loop-prio : goal.invariant-loop-prio
invariant-loop-prio l = find (is_due_by l.waiting l.active l.limits) (drop l.prio-index classes) ≡ find (is_due_by l.waiting l.active l.limits) classes
