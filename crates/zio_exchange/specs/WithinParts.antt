-- What a node may do within its own part, without a child.
use Rattle.zio_trace.specs.Tasks.{ReadCopies, ReadHeads, ReadTree, Task, WriteCopies}
use Rattle.zio_frames.specs.Moves.{Did, Opened}

abbrev pub IsDoneWithin : Task → Type 0
IsDoneWithin (ReadCopies repair test len places) = Unit {0}
IsDoneWithin (WriteCopies bytes places) = Unit {0}
IsDoneWithin (ReadHeads look levels path bp) = Unit {0}
IsDoneWithin (ReadTree tree) = Unit {0}
IsDoneWithin _ = ⊥

-- a part that began within is one of these
abbrev pub OpensWithin : Did → Type 0
OpensWithin (Opened op) = IsDoneWithin op
OpensWithin _ = Unit {0}
