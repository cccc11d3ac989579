-- Contents of a body and of a gang of two members, and bytes that aren't.
use Rattle.std.specs.Prelude.{◌≡◌, ℕ, zero, suc, List, [], ◌∷◌, ◌++◌, replicate, true, Some, None}
use Rattle.zio_types.specs.declared.place.Place.{Place}
use Rattle.zio_types.specs.Choices.{no_place}
use Rattle.zio_blkptr.specs.declared.pointer.Bp.{Bp}
use Rattle.zio_cksum.specs.Headers.{header_of}
use Rattle.zio_gang.specs.declared.tree.Head.{Head}
use Rattle.zio_gang.specs.declared.tree.Tree.{Tree}
use Rattle.zio_trace.specs.BlockCopies.{Copies, body_copies, head_copies}
use Rattle.zio_trace.specs.RoundExamples.{block_of_x}
use Rattle.zio_trace.specs.TraceExamples.{next_place, place_of_x, pointer_of_x, two_sectors}
use Rattle.zio_heal.specs.Contents.{EachPiece, IsGivenGood, IsGivenIn, IsGood, IsHeld}
use Rattle.zio_heal.specs.CopyCases.{setting_at}
use Rattle.zio_heal.specs.GivenCases.{wrote_at}

-- ---- a gang

-- one sector of the top
abbrev pub sector : ℕ → Place
sector n = record { top = 0; sector = n; sectors = 1 }

-- a member of one sector there
abbrev pub member : ℕ → Bp
member n = record pointer_of_x { places = sector n ∷ no_place ∷ no_place ∷ [] }

-- the header of members at sectors 1 and 2
abbrev pub header : List ℕ
header = header_of (Some (member 1) ∷ Some (member 2) ∷ None ∷ []) (sector 0) 1

abbrev pub gang_over : List Head → Tree
gang_over heads = record {
  bp = record pointer_of_x { places = sector 0 ∷ no_place ∷ no_place ∷ []; gang = true; size = 1024 };
  heads = heads;
}

abbrev pub gang : Tree
gang = gang_over (record { path = []; bytes = header } ∷ [])

abbrev pub letters : ℕ → List ℕ
letters byte = replicate 512 byte

-- what lies at each sector
abbrev pub bytes_in : ℕ → List ℕ
bytes_in zero = header
bytes_in (suc zero) = letters 65
bytes_in (suc (suc n)) = letters 66

abbrev pub first_of : List Place → ℕ
first_of [] = 0
first_of (p ∷ places) = p.sector

-- these bytes lie at the first of the places
abbrev pub LieThere : Copies → List ℕ → Type 0
LieThere c bytes = bytes ≡ bytes_in (first_of c.places)

abbrev pub GangHasPieces : Type 0
GangHasPieces = EachPiece LieThere gang (letters 65 ++ letters 66)

-- the first member has the front
abbrev pub TurnedHasnt : Type 0
TurnedHasnt = EachPiece LieThere gang (letters 66 ++ letters 65) → ⊥

-- no byte is left behind the members
abbrev pub LongerHasnt : Type 0
LongerHasnt = EachPiece LieThere gang (letters 65 ++ letters 66 ++ 0 ∷ []) → ⊥

-- without its header a gang isn't whole
abbrev pub HeadlessHasnt : Type 0
HeadlessHasnt = EachPiece LieThere (gang_over []) (letters 65 ++ letters 66) → ⊥

-- ---- good bytes

abbrev pub BodyIsGood : Type 0
BodyIsGood = EachPiece IsGood block_of_x (letters 65)

abbrev pub ShortIsnt : Type 0
ShortIsnt = IsGood (body_copies pointer_of_x) (65 ∷ []) → ⊥

-- only the kept header is good
abbrev pub KeptIsGood : Type 0
KeptIsGood = IsGood (head_copies (record { path = []; bytes = letters 65 } ∷ []) [] pointer_of_x) (letters 65)

abbrev pub OtherHeaderIsnt : Type 0
OtherHeaderIsnt = IsGood (head_copies (record { path = []; bytes = letters 65 } ∷ []) [] pointer_of_x) (letters 66) → ⊥

-- ---- held and given

abbrev pub ZerosAreHeld : Type 0
ZerosAreHeld = IsHeld (setting_at 0 []) two_sectors (body_copies pointer_of_x) (letters 0)

abbrev pub LettersArent : Type 0
LettersArent = IsHeld (setting_at 0 []) two_sectors (body_copies pointer_of_x) (letters 65) → ⊥

abbrev pub WrittenIsGiven : Type 0
WrittenIsGiven = IsGivenIn (wrote_at (place_of_x ∷ []) 65 []) (body_copies pointer_of_x) (letters 65)

abbrev pub ElsewhereIsnt : Type 0
ElsewhereIsnt = IsGivenIn (wrote_at (next_place ∷ []) 65 []) (body_copies pointer_of_x) (letters 65) → ⊥

abbrev pub GivenIsGood : Type 0
GivenIsGood = IsGivenGood (wrote_at (place_of_x ∷ []) 65 []) (body_copies pointer_of_x) (letters 65)

-- what was given isn't always as long as the pointer says
abbrev pub GivenMayBeShort : Type 0
GivenMayBeShort =
    IsGivenGood (wrote_at (place_of_x ∷ []) 65 []) (record (body_copies pointer_of_x) { len = 1024 }) (letters 65) → ⊥
