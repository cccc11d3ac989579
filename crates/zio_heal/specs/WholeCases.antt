-- Operations of a write that came to no error, and such that came to one.
use Rattle.std.specs.Prelude.{[], ◌∷◌, replicate, false, Option, Some, None, Ok, Err}
use Rattle.zio_types.specs.declared.error.Errno.{Errno}
use Rattle.zio_types.specs.declared.error.Errno.TheVariants.{Io, Nospc}
use Rattle.zio_blkptr.specs.declared.pointer.SumKind.TheVariants.{Fletcher4}
use Rattle.zio_trace.specs.Leaves.{Store}
use Rattle.zio_trace.specs.Tasks.{Find, Found, Got, Leaf, StoredAs, Task, WriteCopies, WritePart, Wrote}
use Rattle.zio_trace.specs.TraceExamples.{ask_of_x, copy_of_x, place_of_x}
use Rattle.zio_heal.specs.DisciplineCases.{over_child}
use Rattle.zio_heal.specs.GivenCases.{reading_x}
use Rattle.zio_heal.specs.Whole.{IsWhole}

abbrev pub writing_x : Task
writing_x = WriteCopies (replicate 512 65) (place_of_x ∷ [])

abbrev pub CopiesWritten : Type 0
CopiesWritten = IsWhole writing_x (Wrote None)

abbrev pub CopiesFailed : Type 0
CopiesFailed = IsWhole writing_x (Wrote (Some Io)) → ⊥

-- the write of a part of 512 bytes, that came to this error or none, without a pointer
abbrev pub part_with : Option Errno → Type 0
part_with error =
    IsWhole (WritePart 0 (over_child None) Fletcher4 1 8 [] (replicate 512 65))
    (StoredAs (record { error = error; pointer = None; heads = [] }))

abbrev pub PartWritten : Type 0
PartWritten = part_with None

abbrev pub PartFailed : Type 0
PartFailed = part_with (Some Nospc) → ⊥

-- one leaf of a mirror may fail, and so may an ask
abbrev pub LeafMayFail : Type 0
LeafMayFail = IsWhole (Leaf (Store false (replicate 512 65) copy_of_x)) (Got (Err Io))

abbrev pub AskMayBeRefused : Type 0
AskMayBeRefused = IsWhole (Find ask_of_x) (Found None)

-- a write reads nothing
abbrev pub ReadIsNoWrite : Type 0
ReadIsNoWrite = IsWhole reading_x (Got (Ok (replicate 512 65))) → ⊥
