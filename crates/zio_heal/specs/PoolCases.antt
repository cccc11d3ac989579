-- Pools, sizes and writes that placed writes stand on, and such that they don't.
use Rattle.std.specs.Prelude.{ℕ, List, [], ◌∷◌, None}
use Rattle.zio_types.specs.declared.place.Top.{Top}
use Rattle.zio_types.specs.Choices.{Choice}
use Rattle.zio_script.specs.declared.script.Work.TheVariants.{Null}
use Rattle.zio_gang.specs.Attempts.{Pending}
use Rattle.zio_trace.specs.RoundExamples.{asking}
use Rattle.zio_trace.specs.TraceExamples.{ask_of_x, finds_x}
use Rattle.zio_heal.specs.Pools.{IsBlockSize, IsPool, IsWriting, NoSmallRefused}

-- ---- pools

-- tops of two sectors and this unit, over leaves of two sectors
abbrev pub top_of : ℕ → List ℕ → Top
top_of unit leaves = record { leaves = leaves; sectors = 2; unit = unit }

abbrev pub is_pool : List Top → Type 0
is_pool tops = IsPool (λ leaf. 1024) tops

abbrev pub MirrorIsAPool : Type 0
MirrorIsAPool = is_pool (top_of 2 (0 ∷ 1 ∷ []) ∷ [])

-- a leaf stands in two tops
abbrev pub SharedLeafIsnt : Type 0
SharedLeafIsnt = is_pool (top_of 1 (0 ∷ []) ∷ top_of 1 (0 ∷ []) ∷ []) → ⊥

-- or twice in one
abbrev pub LeafTwiceIsnt : Type 0
LeafTwiceIsnt = is_pool (top_of 1 (0 ∷ 0 ∷ []) ∷ []) → ⊥

-- a leaf has fewer sectors than its top
abbrev pub ShortLeafIsnt : Type 0
ShortLeafIsnt = is_pool (record { leaves = 0 ∷ []; sectors = 3; unit = 1 } ∷ []) → ⊥

-- three sectors are no unit
abbrev pub OddUnitIsnt : Type 0
OddUnitIsnt = is_pool (top_of 3 (0 ∷ []) ∷ []) → ⊥

-- a top has a leaf
abbrev pub NoLeafIsnt : Type 0
NoLeafIsnt = is_pool (top_of 1 [] ∷ []) → ⊥

-- ---- sizes and writes

abbrev pub OneSectorIsASize : Type 0
OneSectorIsASize = IsBlockSize 512

abbrev pub NothingIsnt : Type 0
NothingIsnt = IsBlockSize 0 → ⊥

abbrev pub HalfASectorIsnt : Type 0
HalfASectorIsnt = IsBlockSize 768 → ⊥

abbrev pub TooLargeIsnt : Type 0
TooLargeIsnt = IsBlockSize 1049088 → ⊥

-- a request of the second batch
abbrev pub asked : Pending
asked = asking 1 Null None

abbrev pub ThreeCopiesAreWritten : Type 0
ThreeCopiesAreWritten = IsWriting asked 3

abbrev pub FourArent : Type 0
FourArent = IsWriting asked 4 → ⊥

abbrev pub NoneIsnt : Type 0
NoneIsnt = IsWriting asked 0 → ⊥

-- a pointer's birth isn't zero
abbrev pub NoBirthIsnt : Type 0
NoBirthIsnt = IsWriting (record asked { birth = 0 }) 1 → ⊥

-- ---- refusals

-- a refusal of so many bytes
abbrev pub refused : ℕ → Choice
refused size = record { asked = record ask_of_x { size = size }; places = [] }

abbrev pub FoundIsFine : Type 0
FoundIsFine = NoSmallRefused finds_x

-- what is larger becomes a gang
abbrev pub LargeMayBeRefused : Type 0
LargeMayBeRefused = NoSmallRefused (refused 1024 ∷ [])

abbrev pub SmallMayNot : Type 0
SmallMayNot = NoSmallRefused (refused 512 ∷ []) → ⊥
