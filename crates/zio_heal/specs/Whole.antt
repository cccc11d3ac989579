-- Operations of a write that came to no error, down to its pieces. A write to a single leaf may have failed: in a
-- mirror one leaf of a place is enough.
use Rattle.std.specs.Prelude.{◌≡◌, None}
use Rattle.std.specs.List.{AllByRecursion}
use Rattle.zio_trace.specs.Programs.{Deed}
use Rattle.zio_trace.specs.RoundTraces.{Trace}
use Rattle.zio_trace.specs.Tasks.{Find, Leaf, Task, Value, WriteCopies, WritePart, stored, wrote}

-- the write of a part, or of a piece's copies, has no error
abbrev pub IsWhole : Task → Value → Type 0
IsWhole (WritePart attempt p sum copies levels path bytes) value = (stored value).error ≡ None
IsWhole (WriteCopies bytes places) value = wrote value ≡ None
IsWhole (Find ask) value = Unit {0}
IsWhole (Leaf act) value = Unit {0}
IsWhole _ value = ⊥

-- each of these is so
abbrev pub AreWhole : Trace → Type 0
AreWhole ds = AllByRecursion (λ (d : Deed Task Value). IsWhole d.op d.answer) ds
