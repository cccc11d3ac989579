-- Small runs with their reports, and what an audit says of each: a report that is spoiled in one place gets the first of
-- all reasons that apply.
use Prim.Native.String.{String}
use Rattle.std.specs.Prelude.{ℕ, ◌*◌, List, [], ◌∷◌, ◌++◌, replicate, codes}
use Rattle.std.specs.List.{flat_map}
use Rattle.zio_cksum.specs.Images.{Images}
use Rattle.zio_audit.specs.declared.verdict.Verdict.TheVariants.{Yes, No}
use Rattle.zio_audit.specs.Verdicts.{Case, IsVerdict}

-- the lines of a text
abbrev pub lines : List String → List ℕ
lines [] = []
lines (text ∷ texts) = codes text ++ 10 ∷ lines texts

-- so many sectors of one byte
abbrev pub sector_of : ℕ → List ℕ
sector_of byte = replicate 512 byte

-- ---- a write of one sector, on a leaf of two sectors and three bytes

abbrev pub write_text : List ℕ
write_text = lines ("top 0" ∷ "1 write x off 1 sync fill 41 512" ∷ "go" ∷ [])

-- the bytes behind the last whole sector belong to the image
abbrev pub leaf_with : List ℕ → List ℕ → List ℕ → List ℕ
leaf_with first second tail = first ++ second ++ tail

abbrev pub empty_leaf : Images
empty_leaf = leaf_with (sector_of 0) (sector_of 0) (1 ∷ 2 ∷ 3 ∷ []) ∷ []

abbrev pub written_leaf : Images
written_leaf = leaf_with (sector_of 0) (sector_of 65) (1 ∷ 2 ∷ 3 ∷ []) ∷ []

-- the run with this report, with what it shows of the write, its entry and its order
abbrev pub write_report : List String → List ℕ
write_report shown = lines ("pool 1 1" ∷ "round 1 batch 1 point 0" ∷ []) ++ lines shown ++ lines ("end 0" ∷ [])

abbrev pub of_write : List String → Images → Case
of_write shown after = record { script = write_text; report = write_report shown; before = empty_leaf; after = after }

-- the true report of the run
abbrev pub TrueReportIsYes : Type 0
TrueReportIsYes = IsVerdict (of_write ("1 write x ok 512" ∷ "take 1 0 - body 512 1 0:1" ∷ "order 1" ∷ []) written_leaf) Yes

-- the text is lawful, but the image has the bytes elsewhere
abbrev pub OtherPlaceIsNo : Type 0
OtherPlaceIsNo = IsVerdict (of_write ("1 write x ok 512" ∷ "take 1 0 - body 512 1 0:0" ∷ "order 1" ∷ []) written_leaf) (No 6)

-- one byte behind the last whole sector is another
abbrev pub TailsAreCompared : Type 0
TailsAreCompared =
    IsVerdict (of_write ("1 write x ok 512" ∷ "take 1 0 - body 512 1 0:1" ∷ "order 1" ∷ []) (leaf_with (sector_of 0) (sector_of 65) (1 ∷ 2 ∷ 4 ∷ []) ∷ [])) (No 6)

-- the text is wrong, and so are the images
abbrev pub TextComesBeforeImages : Type 0
TextComesBeforeImages = IsVerdict (of_write ("1 write x ok 1024" ∷ "take 1 0 - body 512 1 0:1" ∷ "order 1" ∷ []) empty_leaf) (No 5)

-- the entry isn't refused, but its line says so
abbrev pub MarksAreText : Type 0
MarksAreText = IsVerdict (of_write ("1 write x ok 512" ∷ "take 1 0 - body 512 1 0:1 refused" ∷ "order 1" ∷ []) written_leaf) (No 5)

-- a line that begins with a blank is none of the journal
abbrev pub BlankBeginsNoEntry : Type 0
BlankBeginsNoEntry =
    IsVerdict (of_write ("1 write x ok 512" ∷ "take 1 0 - body 512 1 0:1" ∷ " take 1" ∷ "order 1" ∷ []) written_leaf) (No 5)

-- the order is left out, and the text is wrong
abbrev pub OrderLeftOut : Type 0
OrderLeftOut = IsVerdict (of_write ("1 write x ok 1024" ∷ "take 1 0 - body 512 1 0:1" ∷ []) written_leaf) (No 4)

-- the request completes in a round that wasn't run
abbrev pub LaterRoundCompletes : Type 0
LaterRoundCompletes =
    IsVerdict (of_write ("1 write x ok 512" ∷ "take 1 0 - body 512 1 0:1" ∷ "round 2 clear point 1" ∷ "order 1" ∷ []) written_leaf) (No 4)

-- so is a round too many alone a difference of the text
abbrev pub RoundTooMany : Type 0
RoundTooMany =
    IsVerdict (of_write ("1 write x ok 512" ∷ "take 1 0 - body 512 1 0:1" ∷ "order 1" ∷ "round 2 clear point 1" ∷ []) written_leaf) (No 5)

-- the place lies behind the last whole sector, and the order is left out
abbrev pub PlaceOutside : Type 0
PlaceOutside = IsVerdict (of_write ("1 write x ok 512" ∷ "take 1 0 - body 512 1 0:2" ∷ []) written_leaf) (No 3)

-- an entry of a round that wasn't run
abbrev pub LaterRoundHasAnEntry : Type 0
LaterRoundHasAnEntry =
    IsVerdict (of_write ("1 write x ok 512" ∷ "take 1 0 - body 512 1 0:1" ∷ "order 1" ∷ "round 2 clear point 1" ∷ "take 1 0 - body 512 1 0:0" ∷ []) written_leaf) (No 3)

-- a run is free
abbrev pub RefusedWithRoom : Type 0
RefusedWithRoom = IsVerdict (of_write ("1 write x ENOSPC" ∷ "take 1 0 - body 512 1 refused" ∷ "order 1" ∷ []) empty_leaf) (No 3)

-- a number begins with a zero, and there is no entry that was asked for
abbrev pub NumberIsSpoiled : Type 0
NumberIsSpoiled = IsVerdict (of_write ("1 write x ok 512" ∷ "take 1 0 - body 512 1 0:01" ∷ "order 1" ∷ []) written_leaf) (No 2)

-- an entry stands before every round
abbrev pub EntryBeforeRounds : Type 0
EntryBeforeRounds =
    IsVerdict (record { script = write_text; report = lines ("take 1 0 - body 512 1 0:1" ∷ []); before = empty_leaf; after = written_leaf }) (No 2)

-- the script is none, and the report has a spoiled line
abbrev pub NoScript : Type 0
NoScript = IsVerdict (record { script = codes "go"; report = lines ("take" ∷ []); before = empty_leaf; after = written_leaf }) (No 1)

-- a top names a leaf without an image
abbrev pub LeafWithoutImage : Type 0
LeafWithoutImage = IsVerdict (record { script = codes "top 1"; report = lines ("take" ∷ []); before = empty_leaf; after = written_leaf }) (No 1)

-- ---- a read with its bytes or without

abbrev pub read_text : List ℕ
read_text = lines ("top 0" ∷ "1 write x off 1 sync fill 41 512" ∷ "go" ∷ "2 read x sync" ∷ "go" ∷ [])

-- the report with these bytes behind the line of the read
abbrev pub of_read : List ℕ → Case
of_read shown = record {
  script = read_text;
  report =
      lines ("pool 1 1" ∷ "round 1 batch 1 point 0" ∷ "1 write x ok 512" ∷ "take 1 0 - body 512 1 0:1" ∷ "order 1" ∷ "round 2 batch 2 point 0" ∷ [])
      ++ codes "2 read x ok 512 20a0a0a080:83878787040:16439b9b85580:2d92628254f020" ++ shown ++ 10 ∷ lines ("order 2" ∷ "end 0" ∷ []);
  before = empty_leaf;
  after = written_leaf;
}

-- the word in front of the bytes, and a sector of them
abbrev pub bytes_shown : ℕ → List ℕ
bytes_shown sectors = codes " data " ++ flat_map (λ (byte : ℕ). codes "41") (replicate (512 * sectors) 65)

abbrev pub ReportWithoutBytesIsYes : Type 0
ReportWithoutBytesIsYes = IsVerdict (of_read []) Yes

abbrev pub ReportWithBytesIsYes : Type 0
ReportWithBytesIsYes = IsVerdict (of_read (bytes_shown 1)) Yes

-- one byte more than was read
abbrev pub OtherBytesAreNo : Type 0
OtherBytesAreNo = IsVerdict (of_read (bytes_shown 1 ++ codes "41")) (No 5)

-- ---- a null under another

abbrev pub of_family : String → Case
of_family order = record {
  script = lines ("top 0" ∷ "1 null" ∷ "2 null under 1" ∷ "go" ∷ []);
  report = lines ("pool 1 1" ∷ "round 1 batch 1 point 0" ∷ "1 null ok" ∷ "2 null ok" ∷ order ∷ "end 0" ∷ []);
  before = empty_leaf;
  after = empty_leaf;
}

abbrev pub ChildComesFirst : Type 0
ChildComesFirst = IsVerdict (of_family "order 2 1") Yes

-- the parent completes before its child
abbrev pub ParentBeforeChild : Type 0
ParentBeforeChild = IsVerdict (of_family "order 1 2") (No 4)

-- a request completes twice
abbrev pub CompletesTwice : Type 0
CompletesTwice = IsVerdict (of_family "order 2 2 1") (No 4)
