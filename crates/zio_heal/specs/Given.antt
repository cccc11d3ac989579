-- That each copy which a run accepts holds the bytes that its block's write gave for that place. A sum is of 32 bytes,
-- so other bytes might have it too; a run in which that never happened meets this.
use Rattle.std.specs.Prelude.{◌≡◌, ℕ, List, [], ◌∷◌, ◌++◌, map, if◌then◌else◌, Option, Some, None, Ok, Err}
use Rattle.std.specs.Cmp.Lexicographic.{pointwise}
use Rattle.std.specs.List.{flat_map}
use Rattle.zio_types.specs.declared.place.Place.{Place}
use Rattle.zio_types.specs.Choices.{Choice}
use Rattle.zio_places.specs.Ordered.{is_same_place}
use Rattle.zio_script.specs.declared.script.Script.{Script}
use Rattle.zio_cksum.specs.Images.{Images}
use Rattle.zio_gang.specs.Attempts.{Terms}
use Rattle.zio_gang.specs.Rounds.{Binding}
use Rattle.zio_gang.specs.Runs.{State, plan_of, run_script, terms_of}
use Rattle.zio_trace.specs.Leaves.{Answer}
use Rattle.zio_trace.specs.Programs.{Deed}
use Rattle.zio_trace.specs.RoundTraces.{is_single_or_piece, task_trace}
use Rattle.zio_trace.specs.RunTraces.{InRound, in_round, whole_trace}
use Rattle.zio_trace.specs.Tasks.{BodyOf, ClaimedBy, KeptAs, ReadCopies, ReadTree, Task, Test, Value, WriteCopies, got}

-- operations of a run with their answers, in turn
abbrev pub Deeds : Type 0
Deeds = List (Deed InRound Value)

-- ---- what was given

-- the bytes that a task writes at exactly these places, or else what was given before
abbrev pub given_by : Task → List Place → Option (List ℕ) → Option (List ℕ)
given_by (WriteCopies bytes at) places before = if pointwise is_same_place at places then Some bytes else before
given_by _ places before = before

-- the bytes that the last of these deeds to write at exactly these places gave, or else what was given before
abbrev pub given_after : Option (List ℕ) → Deeds → List Place → Option (List ℕ)
given_after before [] places = before
given_after before (d ∷ ds) places = given_after (given_by d.op.task places before) ds places

-- the bytes that were given for these places last
abbrev pub given_in : Deeds → List Place → Option (List ℕ)
given_in ds places = given_after None ds places

-- ---- what was accepted

-- an error, or these bytes
abbrev pub IsAsGiven : Option (List ℕ) → Answer → Type 0
IsAsGiven given (Ok bytes) = given ≡ Some bytes
IsAsGiven given (Err e) = Unit {0}

-- the copies of a body give what was given for them; a header that is kept is compared byte by byte
abbrev pub IsTrueOf : Test → Option (List ℕ) → Answer → Type 0
IsTrueOf (BodyOf bp) given answer = IsAsGiven given answer
IsTrueOf (KeptAs kept) given answer = Unit {0}
IsTrueOf (ClaimedBy bp) given answer = Unit {0}

-- a read of a body's copies gives the bytes that were given for its places before, or an error
abbrev pub IsTrueRead : Deeds → Task → Value → Type 0
IsTrueRead before (ReadCopies repair test len places) value = IsTrueOf test (given_in before places) (got value)
IsTrueRead before _ value = Unit {0}

-- each of these deeds in turn, behind those before them
abbrev pub AreTrueReads : Deeds → Deeds → Type 0
AreTrueReads before [] = Unit {0}
AreTrueReads before (d ∷ ds) = IsTrueRead before d.op.task d.answer × AreTrueReads (before ++ d ∷ []) ds

-- ---- a run

-- a read of each bound block over the last images, as it goes at the last resume point
abbrev pub reads_at : List Choice → Terms → State → Deeds
reads_at journal t st =
    flat_map (λ (b : Binding). map (in_round t) (task_trace is_single_or_piece journal t (ReadTree b.tree) st.images))
    st.bound

-- the reads of all blocks that are bound in the end
abbrev pub last_reads : Script → Images → List Choice → Deeds
last_reads script images journal =
    let last : State = (run_script script images journal).state in
    reads_at journal (terms_of (plan_of script images journal) last) last

-- In the run, and in a last read of each block that is bound in the end, every copy of a body that is accepted holds
-- what was given for its places.
-- Rule: healing faults.
abbrev pub AcceptsWhatWasGiven : Script → Images → List Choice → Type 0
AcceptsWhatWasGiven script images journal =
    AreTrueReads [] (whole_trace is_single_or_piece script images journal ++ last_reads script images journal)
