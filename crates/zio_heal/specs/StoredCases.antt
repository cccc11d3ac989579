-- Runs that store as a plain store does, with a fault that heals and without, and one that doesn't.
use Rattle.std.specs.Prelude.{ℕ, List, [], ◌∷◌, codes, replicate, Some, None, Ok, Err}
use Rattle.zio_types.specs.declared.error.Errno.TheVariants.{Io}
use Rattle.zio_types.specs.Choices.{Choice}
use Rattle.zio_blkptr.specs.declared.pointer.SumKind.TheVariants.{Fletcher4}
use Rattle.zio_faults.specs.declared.table.FaultKind.TheVariants.{Eio}
use Rattle.zio_faults.specs.declared.table.On.TheVariants.{Write as OnWrite}
use Rattle.zio_script.specs.declared.script.Request.{Request}
use Rattle.zio_script.specs.declared.script.Script.{Script}
use Rattle.zio_gang.specs.Runs.{plan_of, run_script}
use Rattle.zio_trace.specs.TraceExamples.{ask_of_x, finds_x, next_place, two_sectors}
use Rattle.zio_heal.specs.HealedCases.{faulty, items_of, over_one_leaf}
use Rattle.zio_heal.specs.PlainStore.{Plain, Reply, Store, no_contents, with_content}
use Rattle.zio_heal.specs.StoreCases.{asked, gave, reads}
use Rattle.zio_heal.specs.StoredPlainly.{IsPlainCourse, IsStoredPlainly, ReadsAlike}

-- the write of x finds the first sector in this round and attempt
abbrev pub finds_first : ℕ → ℕ → Choice
finds_first round attempt = record {
  asked = record ask_of_x { key = record ask_of_x.key { round = round; attempt = attempt } };
  places = next_place ∷ [];
}

-- until the first clear the write fails, and the read's batch is held behind it
abbrev pub faulty_script : Script
faulty_script = over_one_leaf (faulty OnWrite Eio 1 ∷ []) (items_of Fletcher4)

-- four attempts before the clear, and one after it
abbrev pub five_choices : List Choice
five_choices = finds_first 1 0 ∷ finds_first 1 1 ∷ finds_first 1 2 ∷ finds_first 1 3 ∷ finds_first 2 0 ∷ []

abbrev pub FaultHeals : Type 0
FaultHeals = IsStoredPlainly faulty_script two_sectors five_choices

-- without its row, and at another place
abbrev pub SameWithoutFault : Type 0
SameWithoutFault = IsStoredPlainly (over_one_leaf [] (items_of Fletcher4)) two_sectors finds_x

-- with a row that no clear ends the write stays suspended
abbrev pub LastingFaultLeaves : Type 0
LastingFaultLeaves =
    IsStoredPlainly (over_one_leaf (faulty OnWrite Eio 9 ∷ []) (items_of Fletcher4)) two_sectors five_choices → ⊥

-- ---- what such a run must have

-- the run without its row, with these requests and beside this plain store
abbrev pub beside : List Request → Plain → Type 0
beside requests plain =
    IsPlainCourse (plan_of (over_one_leaf [] (items_of Fletcher4)) two_sectors finds_x) requests plain
    (run_script (over_one_leaf [] (items_of Fletcher4)) two_sectors finds_x)

abbrev pub both_replies : List Reply
both_replies = gave 1 0 (replicate 512 65) ∷ gave 2 0 (replicate 512 65) ∷ []

abbrev pub only_x : List ℕ → Store
only_x bytes = with_content (codes "x") (Some (record { front = 0; bytes = bytes })) no_contents

abbrev pub ReplyIsMissing : Type 0
ReplyIsMissing = beside [] (record { replies = []; store = only_x (replicate 512 65) }) → ⊥

abbrev pub RequestDidntEnd : Type 0
RequestDidntEnd =
    beside (asked 3 (reads (codes "x")) ∷ []) (record { replies = both_replies; store = only_x (replicate 512 65) }) → ⊥

abbrev pub NameIsLeftOver : Type 0
NameIsLeftOver = beside [] (record { replies = both_replies; store = no_contents }) → ⊥

abbrev pub ContentIsAnother : Type 0
ContentIsAnother = beside [] (record { replies = both_replies; store = only_x (replicate 512 66) }) → ⊥

-- a block that can't be read, and one of a name without content
abbrev pub UnreadIsntAlike : Type 0
UnreadIsntAlike = ReadsAlike (Err Io) (Some (record { front = 0; bytes = replicate 512 65 })) → ⊥

abbrev pub NoContentIsntAlike : Type 0
NoContentIsntAlike = ReadsAlike (Ok (replicate 512 65)) None → ⊥
