-- What the laws of healing ask for, a run with a fault that has all of it, and requests with one reply in two runs.
use Rattle.std.specs.Prelude.{ℕ, ◌+◌, ◌^◌, List, [], ◌∷◌, ◌++◌, codes, replicate}
use Rattle.zio_types.specs.declared.error.Errno.TheVariants.{Noent}
use Rattle.zio_types.specs.declared.place.Place.{Place}
use Rattle.zio_types.specs.declared.place.Top.{Top}
use Rattle.zio_types.specs.Choices.{Choice}
use Rattle.zio_blkptr.specs.declared.pointer.SumKind.TheVariants.{Fletcher4}
use Rattle.zio_faults.specs.declared.table.FaultKind.TheVariants.{Eio}
use Rattle.zio_faults.specs.declared.table.On.TheVariants.{Write as OnWrite}
use Rattle.zio_script.specs.declared.script.Script.{Script}
use Rattle.zio_script.specs.Grammar.{IsScriptOf}
use Rattle.zio_cksum.specs.Images.{Images}
use Rattle.zio_trace.specs.TraceExamples.{ask_of_x}
use Rattle.zio_heal.specs.AlikeCases.{read_ended, read_failed}
use Rattle.zio_heal.specs.HealedCases.{faulty, items_of, over_one_leaf}
use Rattle.zio_heal.specs.SameAnswers.{HaveOneReply, IsHealingRun}
use Rattle.zio_heal.specs.StoreCases.{failed, gave, letters}
use Rattle.zio_heal.specs.StoredPlainly.{FitPointers, IsStoredPlainly}

-- ---- sectors

-- one leaf of so many sectors
abbrev pub top_with : ℕ → List Top
top_with sectors = record { leaves = 0 ∷ []; sectors = sectors; unit = 1 } ∷ []

abbrev pub SectorsFit : Type 0
SectorsFit = FitPointers (top_with (2 ^ 48))

abbrev pub OneMoreDoesnt : Type 0
OneMoreDoesnt = FitPointers (top_with (2 ^ 48 + 1)) → ⊥

-- ---- all premises

-- until the clear no sector of the leaf takes a write
abbrev pub wide_script : Script
wide_script = over_one_leaf (record (faulty OnWrite Eio 1) { len = 2048 } ∷ []) (items_of Fletcher4)

-- it is what this text tells
abbrev pub wide_text : List ℕ
wide_text =
    codes "top 0\nfault 0 write 0 2048 0 1 eio\n"
    ++ codes "1 write x fletcher4 1 sync fill 41 512\ngo\n2 read x sync must\ngo\nclear\n"

abbrev pub WideScriptIsRead : Type 0
WideScriptIsRead = IsScriptOf wide_text wide_script

abbrev pub four_sectors : Images
four_sectors = replicate 2048 0 ∷ []

abbrev pub sector_at : ℕ → Place
sector_at sector = record { top = 0; sector = sector; sectors = 1 }

-- the write of x finds this sector in this round and attempt
abbrev pub finds_at : ℕ → ℕ → ℕ → Choice
finds_at round attempt sector = record {
  asked = record ask_of_x { key = record ask_of_x.key { round = round; attempt = attempt } };
  places = sector_at sector ∷ [];
}

-- each attempt of the first round finds a sector of its own, and all are free in the second
abbrev pub wide_choices : List Choice
wide_choices = finds_at 1 0 0 ∷ finds_at 1 1 1 ∷ finds_at 1 2 2 ∷ finds_at 1 3 3 ∷ finds_at 2 0 0 ∷ []

abbrev pub FaultMeetsPremises : Type 0
FaultMeetsPremises = IsHealingRun wide_script four_sectors wide_choices

-- so the law speaks of it
abbrev pub WideFaultHeals : Type 0
WideFaultHeals = IsStoredPlainly wide_script four_sectors wide_choices

-- two attempts of a round can't have one sector
abbrev pub SameSectorIsntLawful : Type 0
SameSectorIsntLawful =
    IsHealingRun wide_script four_sectors
    (finds_at 1 0 0 ∷ finds_at 1 1 0 ∷ finds_at 1 2 2 ∷ finds_at 1 3 3 ∷ finds_at 2 0 0 ∷ [])
    → ⊥

-- ---- two runs

abbrev pub SameReadTwice : Type 0
SameReadTwice = HaveOneReply (gave 2 0 (letters (codes "ab")) ∷ []) read_ended read_ended

-- an error in one run alone
abbrev pub ErrorInOneRun : Type 0
ErrorInOneRun =
    HaveOneReply (gave 2 0 (letters (codes "ab")) ∷ failed 2 Noent ∷ []) read_ended (read_failed Noent) → ⊥
