use Rattle.std.proofs.Common.{◌≡◌, take}
use Rattle.std.specs.Prelude.{is_none}
use Rattle.std.specs.List.{list_all}
use Rattle.zio_audit.specs.Marks.{is_settled}
use Rattle.zio_audit.proofs.marks.least_due.Given as goal

abbrev pub invariant-loop-mark : goal.invariant-loop-mark
invariant-loop-mark l = is_none l.least ≡ list_all is_settled (take l.mark-index l.marks)
