-- Parts that are written as tasks: which of those that are out may have told a pointer.
use Rattle.std.specs.Prelude.{List, Option, Some, None}
use Rattle.std.specs.List.{AllByRecursion}
use Rattle.zio_blkptr.specs.declared.pointer.Bp.{Bp}
use Rattle.zio_trace.specs.Tasks.{Task, WritePart}
use Rattle.zio_trace.specs.Underway.{Call}

-- the task writes a part
abbrev pub IsPart : Task → Type 0
IsPart (WritePart attempt p sum copies levels path bytes) = Unit {0}
IsPart _ = ⊥

-- what told a pointer writes a part
abbrev pub IsToldByPart : Option (Option Bp) → Task → Type 0
IsToldByPart None op = Unit {0}
IsToldByPart (Some pointer) op = IsPart op

abbrev pub AreToldByParts : List Call → Type 0
AreToldByParts outs = AllByRecursion (λ (c : Call). IsToldByPart c.told c.op.op) outs
