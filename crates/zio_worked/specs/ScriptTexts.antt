-- Texts of scripts: what they are, or their first faulty line with the least why.
use Prim.Native.String.{String}
use Rattle.std.specs.Prelude.{◌≡◌, ◌<◌, ℕ, List, [], ◌∷◌, ◌++◌, map, length, replicate, option_map, Bool, true, false, Option, Some, None, is_some, codes}
use Rattle.std.specs.List.{flat_map}
use Rattle.zio_types.specs.declared.request.Kind.TheVariants.{Null as NullKind}
use Rattle.zio_types.specs.declared.request.Prio.TheVariants.{Scrub, SyncWrite, AsyncWrite}
use Rattle.zio_blkptr.specs.declared.pointer.SumKind.TheVariants.{Off, Fletcher4, Sha256}
use Rattle.zio_faults.specs.declared.table.FaultKind.TheVariants.{Eio, Flip, Gone}
use Rattle.zio_faults.specs.declared.table.On.TheVariants.{Write as OnWrite, Any}
use Rattle.zio_script.specs.declared.read.TheConstants.{SCRIPT_LEN_MAX}
use Rattle.zio_script.specs.declared.script.Body.TheVariants.{Hex, Fill, Seq}
use Rattle.zio_script.specs.declared.script.Failmode.TheVariants.{Wait, Continue}
use Rattle.zio_script.specs.declared.script.Item.{Item}
use Rattle.zio_script.specs.declared.script.Item.TheVariants.{Request as RequestItem, Go, Clear}
use Rattle.zio_script.specs.declared.script.Request.{Request}
use Rattle.zio_script.specs.declared.script.Script.{Script}
use Rattle.zio_script.specs.declared.script.TopLine.{TopLine}
use Rattle.zio_script.specs.declared.why.Why.{Why}
use Rattle.zio_script.specs.declared.why.Why.TheVariants.{Limit}
use Rattle.zio_script.specs.declared.script.Work.TheVariants.{Null, Read, Write, Claim}
use Rattle.zio_script.specs.Grammar.{IsFaultOf, IsScriptOf, fault_at, fault_of, script_of, begun_with}
use Rattle.zio_script.specs.Lines.{NewRequest, FaultLine, ClearLine}
use Rattle.zio_script.specs.Requests.{requests_of}
use Rattle.zio_script.specs.Whys.{are_too_large, breaks_limit, least_why, refuses_child, sizes_with, whys_of}
use Rattle.zio_worked.specs.Scripts.{fault_at as row_at, in_first_pass, lines}

-- ---- words for cases

-- a text with its first faulty line and the least why
pub record Faulty : Type 0 where
  pub text : List ℕ
  pub line : ℕ
  pub why : ℕ

abbrev pub faulty_text : List ℕ → ℕ → ℕ → Faulty
faulty_text text line why = record { text = text; line = line; why = why }

abbrev pub faulty : List String → ℕ → ℕ → Faulty
faulty texts line why = faulty_text (lines texts) line why

-- the same behind the line `top 0`
abbrev pub in_top : List String → ℕ → ℕ → Faulty
in_top texts line why = faulty ("top 0" ∷ texts) line why

abbrev pub AreFaulty : List Faulty → Type 0
AreFaulty cases = map (λ (c : Faulty). fault_of c.text) cases ≡ map (λ (c : Faulty). Some (fault_at c.line c.why)) cases

abbrev pub are_accepted : List (List ℕ) → List Bool
are_accepted texts = map (λ text. is_some (script_of text)) texts

abbrev pub AreAccepted : List (List ℕ) → Type 0
AreAccepted texts = are_accepted texts ≡ map (λ text. true) texts

-- a claim of 64 bytes 0x44 and 64 bytes 0x11
abbrev pub claim_line : String → List ℕ
claim_line words = codes words ++ replicate 128 0x34 ++ replicate 128 0x31 ++ 10 ∷ []

-- a top of these leaves, whose sectors have so many of 512 bytes
abbrev pub top_of : List ℕ → ℕ → TopLine
top_of leaves unit = record { leaves = leaves; unit = unit }

-- ---- texts that are accepted

abbrev pub TopAloneIsAScript : Type 0
TopAloneIsAScript =
    IsScriptOf (codes "top 0") (record { failmode = Wait; tops = top_of (0 ∷ []) 1 ∷ []; faults = []; items = [] })

abbrev pub whole_text : List ℕ
whole_text =
    lines (
    "failmode continue"
    ∷ "top 0 1"
    ∷ "top 2 sector 4096"
    ∷ "fault 1 write 512 1024 0 3 flip first"
    ∷ "fault 2 any 0 268435456 1 65535 gone"
    ∷ "3 null canfail"
    ∷ "5 write a_1 fletcher4 2 async fill Fe 700 under 3 must"
    ∷ "7 read b scrub under 3"
    ∷ "go"
    ∷ "clear" ∷ [])
    ++ claim_line "8 claim c " ++ codes "go"

-- every line stands in the script, with the flags that a line doesn't say
abbrev pub WholeScriptIsRead : Type 0
WholeScriptIsRead = IsScriptOf whole_text (record {
  failmode = Continue;
  tops = top_of (0 ∷ 1 ∷ []) 1 ∷ top_of (2 ∷ []) 8 ∷ [];
  faults = in_first_pass (row_at 1 OnWrite 512 1024 0 3 Flip) ∷ row_at 2 Any 0 268435456 1 65535 Gone ∷ [];
  items =
      RequestItem (record { number = 3; work = Null; under = None; canfail = true })
      ∷ RequestItem (record {
        number = 5;
        work = Write (codes "a_1") Fletcher4 2 AsyncWrite (Fill 0xfe 700);
        under = Some 3;
        canfail = false;
      })
      ∷ RequestItem (record { number = 7; work = Read (codes "b") Scrub; under = Some 3; canfail = true })
      ∷ Go
      ∷ Clear
      ∷ RequestItem (record {
        number = 8;
        work = Claim (codes "c") (replicate 64 0x44 ++ replicate 64 0x11);
        under = None;
        canfail = true;
      })
      ∷ Go ∷ [];
})

-- the size of a sector, in sectors of 512 bytes; the words win over leaves
abbrev pub TopsHaveUnits : Type 0
TopsHaveUnits =
    option_map (λ (script : Script). script.tops) (script_of (
    lines (
    "top 0"
    ∷ "top 1 sector 512"
    ∷ "top 2 3 sector 1024"
    ∷ "top 4 5 6 sector 2048"
    ∷ "top 7 8 9 10 sector 4096"
    ∷ "top 11 12 13 14" ∷ [])))
    ≡ Some (
    top_of (0 ∷ []) 1
    ∷ top_of (1 ∷ []) 1
    ∷ top_of (2 ∷ 3 ∷ []) 2
    ∷ top_of (4 ∷ 5 ∷ 6 ∷ []) 4
    ∷ top_of (7 ∷ 8 ∷ 9 ∷ 10 ∷ []) 8
    ∷ top_of (11 ∷ 12 ∷ 13 ∷ 14 ∷ []) 1 ∷ [])

abbrev pub canfail_of : Item → List Bool
canfail_of (RequestItem r) = r.canfail ∷ []
canfail_of Go = []
canfail_of Clear = []

abbrev pub flags_of : Option Script → List Bool
flags_of None = []
flags_of (Some script) = flat_map canfail_of script.items

-- of roots a read and a claim may fail
abbrev pub RootsHaveTheirFlags : Type 0
RootsHaveTheirFlags =
    flags_of (script_of (
    lines (
    "top 0"
    ∷ "1 null"
    ∷ "2 read a sync"
    ∷ "3 write b off 1 sync fill 00 1"
    ∷ "4 free c"
    ∷ "5 read d sync must"
    ∷ "6 free e canfail"
    ∷ "go" ∷ [])
    ++ claim_line "7 claim f " ++ lines ("go" ∷ [])))
    ≡ false ∷ true ∷ false ∷ false ∷ false ∷ true ∷ true ∷ []

-- no child of a request that may not fail may fail; of the others' children only a read may
abbrev pub ChildrenHaveTheirFlags : Type 0
ChildrenHaveTheirFlags =
    flags_of (script_of (
    lines (
    "top 0"
    ∷ "1 null must"
    ∷ "2 read a sync under 1"
    ∷ "3 null canfail"
    ∷ "4 read b async under 3"
    ∷ "5 null under 3"
    ∷ "6 write c off 1 async data 00 under 3"
    ∷ "7 read d scrub under 5"
    ∷ "8 free e under 4 canfail"
    ∷ "go" ∷ [])))
    ≡ false ∷ false ∷ true ∷ true ∷ false ∷ false ∷ false ∷ true ∷ []

-- digits of either case, numbers of 64 bits, and every class of a write
abbrev pub BodiesAreRead : Type 0
BodiesAreRead =
    option_map (λ (script : Script). map (λ (r : Request). r.work) (requests_of script.items)) (script_of (
    lines (
    "top 0"
    ∷ "1 write a off 1 sync data 00fFAb"
    ∷ "2 write b sha256 3 async seq 18446744073709551615 1048576"
    ∷ "3 write c fletcher4 2 sync fill aB 1"
    ∷ "go" ∷ [])))
    ≡ Some (
    Write (codes "a") Off 1 SyncWrite (Hex (0 ∷ 255 ∷ 171 ∷ []))
    ∷ Write (codes "b") Sha256 3 AsyncWrite (Seq 18446744073709551615 1048576)
    ∷ Write (codes "c") Fletcher4 2 SyncWrite (Fill 171 1) ∷ [])

-- any blanks, tabs and carriage returns part words, and no newline has to come last
abbrev pub BlanksPartWords : Type 0
BlanksPartWords =
    script_of (codes "  top\t0 \t1\r\n\t \r\n 1  null\r\ngo")
    ≡ script_of (lines ("top 0 1" ∷ "1 null" ∷ "go" ∷ []))

-- what may stand at the edge of each range
abbrev pub EdgesAreAccepted : Type 0
EdgesAreAccepted = AreAccepted (
    lines ("top 15" ∷ "fault 15 read 268435456 268435456 65534 65535 eio first" ∷ "65535 null" ∷ "go" ∷ [])
    ∷ lines (
    "top 0 1 2 3 sector 4096"
    ∷ "top 4" ∷ "top 5" ∷ "top 6" ∷ "top 7" ∷ "top 8" ∷ "top 9" ∷ "top 10"
    ∷ "1 write abcdefghijklm_89 off 3 sync seq 0 1048576"
    ∷ "go" ∷ "clear" ∷ "clear" ∷ []) ∷ [])

-- reads of one batch may name one block, unless a row is `first` or `flip`
abbrev pub ReadsMayShareABlock : Type 0
ReadsMayShareABlock = AreAccepted (
    lines ("top 0" ∷ "1 read x sync" ∷ "2 read x sync" ∷ "go" ∷ [])
    ∷ lines ("top 0" ∷ "1 read x sync" ∷ "2 null canfail" ∷ "3 read x async under 2" ∷ "4 read x scrub under 1" ∷ "go" ∷ [])
    ∷ lines (
    "top 0 1"
    ∷ "fault 0 write 0 65536 0 1 eio"
    ∷ "1 write x sha256 1 sync fill 41 512"
    ∷ "go"
    ∷ "clear"
    ∷ "2 read x sync"
    ∷ "3 read x sync"
    ∷ "go" ∷ [])
    ∷ lines ("top 0" ∷ "fault 0 read 0 1 0 1 gone" ∷ "1 read x sync" ∷ "2 read x sync" ∷ "go" ∷ [])
    ∷ lines ("top 0" ∷ "fault 0 any 0 1 0 1 flip" ∷ "1 read x sync" ∷ "go" ∷ "2 read x sync" ∷ "go" ∷ []) ∷ [])

-- a block may be named again in the next batch, `must` may stand under what may fail, and children may stand deep
abbrev pub OthersAreAccepted : Type 0
OthersAreAccepted = AreAccepted (
    lines ("top 0" ∷ "1 read x sync" ∷ "go" ∷ "2 read x sync" ∷ "go" ∷ [])
    ∷ lines ("top 0" ∷ "1 null canfail" ∷ "2 read x sync under 1 must" ∷ "go" ∷ [])
    ∷ lines ("top 0" ∷ "1 read x sync" ∷ "2 free y under 1" ∷ "3 write z off 1 sync data 00 under 1" ∷ "go" ∷ [])
    ∷ lines ("failmode panic" ∷ "top 0" ∷ "clear" ∷ "# the end" ∷ [])
    ∷ (lines ("top 0" ∷ "1 null" ∷ "go" ∷ []) ++ claim_line "2 claim x " ++ lines ("go" ∷ "3 free x" ∷ "go" ∷ [])) ∷ [])

-- ---- why 1: words

-- no shape has these words
abbrev pub WordsHaveToFit : Type 0
WordsHaveToFit = AreFaulty (
    faulty_text (codes "top 0\n1 wri") 2 1
    ∷ in_top ("1 NULL" ∷ []) 2 1
    ∷ in_top ("1 read x" ∷ []) 2 1
    ∷ in_top ("1 write x md5 1 sync fill 00 1" ∷ []) 2 1
    ∷ in_top ("1 write x off 1 scrub fill 00 1" ∷ []) 2 1
    ∷ in_top ("1 write x off 1 sync fill 00" ∷ []) 2 1
    ∷ in_top ("1 write x off 1 sync zero 1" ∷ []) 2 1
    ∷ in_top ("1 read x sync must under 1" ∷ []) 2 1
    ∷ in_top ("1 null over 1" ∷ []) 2 1
    ∷ in_top ("1 null must canfail" ∷ []) 2 1
    ∷ in_top ("1 claim x 00 must" ∷ []) 2 1 ∷ [])

abbrev pub OtherLinesHaveToFit : Type 0
OtherLinesHaveToFit = AreFaulty (
    faulty ("top" ∷ []) 1 1
    ∷ faulty ("top 0 1 2 3 4" ∷ []) 1 1
    ∷ faulty ("top 0 1 2 3 4 sector 512" ∷ []) 1 1
    ∷ faulty ("top 0 1 sector 512 2" ∷ []) 1 1
    ∷ faulty ("failmode stop" ∷ []) 1 1
    ∷ faulty ("failmode wait wait" ∷ []) 1 1
    ∷ in_top ("fault 0 read 0 1 0 eio" ∷ []) 2 1
    ∷ in_top ("fault 0 read 0 1 0 1 eio last" ∷ []) 2 1
    ∷ in_top ("fault 0 free 0 1 0 1 eio" ∷ []) 2 1
    ∷ in_top ("go now" ∷ []) 2 1
    ∷ in_top ("clear 1" ∷ []) 2 1
    ∷ in_top ("Go" ∷ []) 2 1 ∷ [])

-- ---- why 2: numbers

-- decimal digits without a leading zero, below 2 ^ 64
abbrev pub NumbersAreDecimal : Type 0
NumbersAreDecimal = AreFaulty (
    faulty ("top 00" ∷ []) 1 2
    ∷ faulty ("top +1" ∷ []) 1 2
    ∷ faulty ("top 0x1" ∷ []) 1 2
    ∷ faulty ("top 18446744073709551616" ∷ []) 1 2
    ∷ faulty ("top 18446744073709551615" ∷ []) 1 3
    ∷ faulty ("top 0 sector 0512" ∷ []) 1 2
    ∷ faulty ("top 0 sector x" ∷ []) 1 2
    ∷ faulty ("top 0 sector 18446744073709551616" ∷ []) 1 2
    ∷ in_top ("fault 0 read 0 1 0 1. eio" ∷ []) 2 2
    ∷ in_top ("01 null" ∷ []) 2 2
    ∷ in_top ("1 null under x" ∷ []) 2 2
    ∷ in_top ("1 null under must" ∷ []) 2 2
    ∷ in_top ("1 write x off one sync fill 00 1" ∷ []) 2 2
    ∷ in_top ("1 write x off 1 sync fill 00 0512" ∷ []) 2 2
    ∷ in_top ("1 write x off 1 sync seq 18446744073709551616 1" ∷ []) 2 2 ∷ [])

-- an even number of hexadecimal digits, exactly two in HH; of a claim's pointer the digits count before the length
abbrev pub DigitsComeInPairs : Type 0
DigitsComeInPairs = AreFaulty (
    in_top ("1 write x off 1 sync data 4" ∷ []) 2 2
    ∷ in_top ("1 write x off 1 sync data 4g" ∷ []) 2 2
    ∷ in_top ("1 write x off 1 sync fill 4 1" ∷ []) 2 2
    ∷ in_top ("1 write x off 1 sync fill 4142 1" ∷ []) 2 2
    ∷ in_top ("1 write x off 1 sync fill G0 1" ∷ []) 2 2
    ∷ in_top ("1 claim x 0g" ∷ []) 2 2
    ∷ in_top ("1 claim x 000" ∷ []) 2 2
    ∷ in_top ("1 claim x 00" ∷ []) 2 3
    ∷ faulty_text (lines ("top 0" ∷ []) ++ codes "1 claim x 00" ++ claim_line "") 2 3 ∷ [])

-- where `sector` doesn't stand before the last word, or no leaf before it, it is a leaf that is no number
abbrev pub SectorMayBeALeaf : Type 0
SectorMayBeALeaf = AreFaulty (
    faulty ("top 0 sector" ∷ []) 1 2
    ∷ faulty ("top sector" ∷ []) 1 2
    ∷ faulty ("top sector 512" ∷ []) 1 2
    ∷ faulty ("top 0 1 2 sector" ∷ []) 1 2
    ∷ faulty ("top 0 sector 512 1" ∷ []) 1 2
    ∷ faulty ("top sector sector 512" ∷ []) 1 2
    ∷ faulty ("top 0 sector 512 sector 512" ∷ []) 1 2 ∷ [])

-- a word in capitals is any word, so these are requests whose N is no number
abbrev pub LinesMayHaveTwoShapes : Type 0
LinesMayHaveTwoShapes = AreFaulty (
    faulty ("go null" ∷ []) 1 2
    ∷ faulty ("clear free x" ∷ []) 1 2
    ∷ faulty ("failmode null" ∷ []) 1 2
    ∷ faulty ("top null" ∷ []) 1 2
    ∷ faulty ("top read x sync" ∷ []) 1 2
    ∷ faulty ("top write x off 1 sync fill 00 1" ∷ []) 1 2
    ∷ faulty ("fault null" ∷ []) 1 2
    ∷ faulty ("fault write any off 1 sync data eio" ∷ []) 1 2 ∷ [])

-- ---- why 3: limits

abbrev pub NumbersHaveRanges : Type 0
NumbersHaveRanges = AreFaulty (
    faulty ("top 16" ∷ []) 1 3
    ∷ faulty ("top 0 sector 768" ∷ []) 1 3
    ∷ faulty ("top 0 sector 0" ∷ []) 1 3
    ∷ faulty ("top 0 1 sector 256" ∷ []) 1 3
    ∷ faulty ("top 0 1 sector 8192" ∷ []) 1 3
    ∷ in_top ("0 null" ∷ []) 2 3
    ∷ in_top ("65536 null" ∷ []) 2 3
    ∷ in_top ("1 null" ∷ "2 null under 0" ∷ []) 3 3
    ∷ in_top ("1 null" ∷ "2 null under 65536" ∷ []) 3 3
    ∷ in_top ("1 write x off 0 sync fill 00 1" ∷ []) 2 3
    ∷ in_top ("1 write x off 4 sync fill 00 1" ∷ []) 2 3
    ∷ in_top ("1 write x off 1 sync fill 00 0" ∷ []) 2 3
    ∷ in_top ("1 write x fletcher4 1 async fill 41 1048577" ∷ []) 2 3
    ∷ in_top ("1 write x off 1 sync seq 0 1048577" ∷ []) 2 3 ∷ [])

abbrev pub FaultsHaveRanges : Type 0
FaultsHaveRanges = AreFaulty (
    in_top ("fault 16 read 0 1 0 1 eio" ∷ []) 2 3
    ∷ in_top ("fault 0 read 268435457 1 0 1 eio" ∷ []) 2 3
    ∷ in_top ("fault 0 read 0 0 0 1 eio" ∷ []) 2 3
    ∷ in_top ("fault 0 read 0 268435457 0 1 eio" ∷ []) 2 3
    ∷ in_top ("fault 0 read 0 1 65535 65535 eio" ∷ []) 2 3
    ∷ in_top ("fault 0 read 0 1 0 65536 eio" ∷ []) 2 3
    ∷ in_top ("fault 0 read 0 1 0 0 eio" ∷ []) 2 3
    ∷ in_top ("fault 0 read 0 1 5 5 eio" ∷ []) 2 3 ∷ [])

-- eight tops, and one more
abbrev pub TopsAreCounted : Type 0
TopsAreCounted = AreFaulty (
    faulty (
    "top 0" ∷ "top 1" ∷ "top 2" ∷ "top 3" ∷ "top 4" ∷ "top 5" ∷ "top 6" ∷ "top 7" ∷ "top 8" ∷ []) 9 3 ∷ [])

-- the script of `top 0` with these faults and items
abbrev pub script_with : ℕ → List Item → Script
script_with faults items = record {
  failmode = Wait;
  tops = top_of (0 ∷ []) 1 ∷ [];
  faults = replicate faults (row_at 0 Any 0 1 0 1 Eio);
  items = items;
}

abbrev pub fault_line_why : ℕ → Option Why
fault_line_why faults = least_why (whys_of (begun_with (script_with faults [])) (FaultLine (row_at 0 Any 0 1 0 1 Eio)))

abbrev pub FaultsAreCounted : Type 0
FaultsAreCounted = map fault_line_why (255 ∷ 256 ∷ []) ≡ None ∷ Some Limit ∷ []

abbrev pub clear_line_why : ℕ → Option Why
clear_line_why clears = least_why (whys_of (begun_with (script_with 0 (replicate clears Clear))) ClearLine)

abbrev pub ClearsAreCounted : Type 0
ClearsAreCounted = map clear_line_why (65533 ∷ 65534 ∷ []) ≡ None ∷ Some Limit ∷ []

abbrev pub null_request : ℕ → Option ℕ → Bool → Request
null_request number under canfail = record { number = number; work = Null; under = under; canfail = canfail }

abbrev pub null_asked : NewRequest
null_asked = record { number = 9; work = Null; under = None; flag = None }

abbrev pub RequestsAreCounted : Type 0
RequestsAreCounted =
    map (λ n. breaks_limit (replicate n (null_request 1 None false)) null_asked) (1023 ∷ 1024 ∷ []) ≡ false ∷ true ∷ []

-- a child's pointer takes 128 bytes of its parent; a child that is too much is the faulty line, whatever else it is
abbrev pub PointersTakeRoom : Type 0
PointersTakeRoom = AreFaulty (
    in_top ("1 write a off 1 sync fill 00 1048576" ∷ "2 write b off 1 sync fill 00 1 under 1" ∷ []) 3 3
    ∷ in_top ("2 write a off 1 sync fill 00 1048576" ∷ "1 write b off 1 sync fill 00 1 under 2" ∷ []) 3 3
    ∷ in_top ("1 write a off 1 sync fill 00 1048576" ∷ "2 null under 1" ∷ []) 3 8
    ∷ in_top ("1 write a off 1 sync fill 00 1048576" ∷ "1 write b off 1 sync fill 00 1 under 3" ∷ []) 3 4
    ∷ in_top (
    "1 write a off 1 sync fill 00 1048448"
    ∷ "2 write b off 1 sync fill 00 1048576 under 1"
    ∷ "3 write c off 1 sync fill 00 1 under 1" ∷ []) 4 3 ∷ [])

abbrev pub write_request : ℕ → ℕ → Option ℕ → Request
write_request number len under = record {
  number = number;
  work = Write (codes "x") Off 1 SyncWrite (Fill 0 len);
  under = under;
  canfail = false;
}

-- 512 bytes and two pointers are 768, so 1,024; one byte is a sector; a null has no size
abbrev pub SizesArePadded : Type 0
SizesArePadded =
    sizes_with (
    write_request 1 512 None
    ∷ write_request 2 512 (Some 1)
    ∷ null_request 3 None false ∷ []) (write_request 4 1 (Some 1))
    ≡ 1024 ∷ 512 ∷ 0 ∷ 512 ∷ []

-- 16 writes of 1,048,576 bytes are 16 MiB
abbrev pub BatchHasALimit : Type 0
BatchHasALimit =
    are_too_large (replicate 16 1048576) ∷ are_too_large (512 ∷ replicate 16 1048576) ∷ are_too_large (1049088 ∷ []) ∷ []
    ≡ false ∷ true ∷ true ∷ []

-- a text of more than 16 MiB, whatever it is
abbrev pub LongTextsAreRefused : Type 0
LongTextsAreRefused =
    (text : List ℕ) → SCRIPT_LEN_MAX < length text → IsFaultOf text (fault_at 0 3)

-- ---- why 4: order

abbrev pub LinesHaveAnOrder : Type 0
LinesHaveAnOrder = AreFaulty (
    in_top ("failmode wait" ∷ []) 2 4
    ∷ faulty ("failmode wait" ∷ "failmode wait" ∷ []) 2 4
    ∷ in_top ("fault 0 any 0 1 0 1 eio" ∷ "top 1" ∷ []) 3 4
    ∷ in_top ("clear" ∷ "top 1" ∷ []) 3 4
    ∷ in_top ("1 null" ∷ "go" ∷ "fault 0 any 0 1 0 1 eio" ∷ []) 4 4
    ∷ faulty ("fault 0 any 0 1 0 1 eio" ∷ "top 0" ∷ []) 1 4
    ∷ faulty ("1 null" ∷ []) 1 4
    ∷ faulty ("failmode wait" ∷ "go" ∷ []) 2 4
    ∷ faulty ("clear" ∷ []) 1 4 ∷ [])

-- over batches too
abbrev pub NumbersRise : Type 0
NumbersRise = AreFaulty (
    in_top ("2 null" ∷ "2 null" ∷ []) 3 4
    ∷ in_top ("2 null" ∷ "go" ∷ "1 null" ∷ []) 4 4
    ∷ in_top ("1 null" ∷ "3 null" ∷ "2 null" ∷ "go" ∷ []) 4 4 ∷ [])

abbrev pub BatchesAreEnded : Type 0
BatchesAreEnded = AreFaulty (
    in_top ("1 null" ∷ []) 3 4
    ∷ faulty_text (codes "top 0\n1 null") 3 4
    ∷ faulty_text (codes "top 0\n1 null\n ") 4 4
    ∷ in_top ("1 null" ∷ "# no go" ∷ "" ∷ []) 5 4
    ∷ in_top ("go" ∷ []) 2 4
    ∷ in_top ("1 null" ∷ "go" ∷ "go" ∷ []) 4 4
    ∷ in_top ("1 null" ∷ "clear" ∷ "go" ∷ []) 3 4 ∷ [])

-- ---- whys 5 and 6: names

abbrev pub NamesHaveTheirCharacters : Type 0
NamesHaveTheirCharacters = AreFaulty (
    in_top ("1 read X sync" ∷ []) 2 5
    ∷ in_top ("1 free a-b" ∷ []) 2 5
    ∷ in_top ("1 write abcdefghijklmnopq off 1 sync data 00" ∷ []) 2 5
    ∷ faulty_text (lines ("top 0" ∷ []) ++ claim_line "1 claim x{ ") 2 5 ∷ [])

-- a name again, where one of the lines is no read
abbrev pub NamesStandOnce : Type 0
NamesStandOnce = AreFaulty (
    in_top ("1 read x sync" ∷ "2 free x" ∷ []) 3 6
    ∷ in_top ("1 write x off 1 sync data 00" ∷ "2 read x sync" ∷ []) 3 6
    ∷ in_top ("1 read x sync" ∷ "2 read x sync" ∷ "3 write x off 1 sync data 00" ∷ []) 4 6
    ∷ in_top ("1 write x off 1 sync data 00" ∷ "2 read xx sync" ∷ "3 free x" ∷ []) 4 6
    ∷ faulty_text (lines ("top 0" ∷ "1 read x sync" ∷ []) ++ claim_line "2 claim x ") 3 6 ∷ [])

-- a row that is `first` or `flip`, whatever else it is, tells reads apart
abbrev pub RowsMayTellReadsApart : Type 0
RowsMayTellReadsApart = AreFaulty (
    faulty (
    "top 0 1"
    ∷ "fault 0 write 0 65536 0 1 eio first"
    ∷ "1 write x sha256 1 sync fill 41 512"
    ∷ "go"
    ∷ "clear"
    ∷ "2 read x sync"
    ∷ "3 read x sync"
    ∷ "go" ∷ []) 7 6
    ∷ faulty (
    "top 0 1"
    ∷ "fault 0 any 0 1 0 1 eio"
    ∷ "fault 1 write 0 1 9 10 flip"
    ∷ "1 read x sync"
    ∷ "2 read x scrub" ∷ []) 5 6
    ∷ in_top ("fault 0 read 0 1 0 1 gone first" ∷ "1 read x sync" ∷ "2 read x sync" ∷ []) 4 6 ∷ [])

-- ---- whys 7 and 8: parents

-- a null or a free may not fail, if its line doesn't say; a read's default is its parent's
abbrev pub FlagsFollowParents : Type 0
FlagsFollowParents = AreFaulty (
    in_top ("1 null must" ∷ "2 read x sync under 1 canfail" ∷ "go" ∷ []) 3 7
    ∷ in_top ("1 null" ∷ "2 null under 1 canfail" ∷ []) 3 7
    ∷ in_top ("1 null" ∷ "2 read x sync under 1" ∷ "3 null under 2 canfail" ∷ []) 4 7
    ∷ in_top ("1 null canfail" ∷ "2 null under 1" ∷ "3 null under 2 canfail" ∷ []) 4 7
    ∷ in_top ("1 free x" ∷ "2 null under 1 canfail" ∷ []) 3 7 ∷ [])

-- a parent that may fail, or isn't there, leaves the flag alone
abbrev pub OnlyAParentIsWrong : Type 0
OnlyAParentIsWrong = AreFaulty (
    in_top ("1 free x canfail" ∷ "2 null under 1 canfail" ∷ []) 3 8
    ∷ in_top ("1 null" ∷ "go" ∷ "2 null under 1 canfail" ∷ []) 4 8
    ∷ faulty_text (lines ("top 0" ∷ []) ++ claim_line "1 claim x " ++ lines ("2 null under 1 canfail" ∷ [])) 3 8 ∷ [])

abbrev pub ParentsStandBefore : Type 0
ParentsStandBefore = AreFaulty (
    in_top ("1 null under 1" ∷ []) 2 8
    ∷ in_top ("1 null under 2" ∷ "2 null" ∷ []) 2 8
    ∷ in_top ("1 null" ∷ "go" ∷ "2 null under 1" ∷ []) 4 8
    ∷ in_top ("1 free x" ∷ "2 null under 1" ∷ []) 3 8
    ∷ in_top ("1 write x off 1 sync data 00" ∷ "2 read y sync under 1" ∷ []) 3 8
    ∷ in_top ("5 write x off 1 sync fill 00 1048576 under 5" ∷ []) 2 8 ∷ [])

abbrev pub ClaimsStandAlone : Type 0
ClaimsStandAlone = AreFaulty (
    faulty_text (lines ("top 0" ∷ "1 null" ∷ []) ++ claim_line "2 claim x ") 3 8
    ∷ faulty_text (lines ("top 0" ∷ []) ++ claim_line "1 claim x " ++ lines ("2 null" ∷ [])) 3 8
    ∷ faulty_text (lines ("top 0" ∷ []) ++ claim_line "1 claim x " ++ claim_line "2 claim y ") 3 8 ∷ [])

abbrev pub chain : List String
chain =
    "1 null" ∷ "2 null under 1" ∷ "3 null under 2" ∷ "4 null under 3" ∷ "5 null under 4" ∷ "6 null under 5"
    ∷ "7 null under 6" ∷ "8 null under 7" ∷ "9 null under 8" ∷ "10 null under 9" ∷ "11 null under 10"
    ∷ "12 null under 11" ∷ "13 null under 12" ∷ "14 null under 13" ∷ "15 null under 14" ∷ "16 null under 15" ∷ []

-- 16 is the depth of the last of these
abbrev pub DepthHasALimit : Type 0
DepthHasALimit = AreFaulty (
    in_top (chain ++ "17 null under 16" ∷ []) 18 8
    ∷ in_top (chain ++ "17 null under 15" ∷ []) 19 4 ∷ [])

-- 255 children, and one more
abbrev pub ChildrenAreCounted : Type 0
ChildrenAreCounted =
    map (λ n. refuses_child (replicate n (null_request 2 (Some 1) false)) NullKind (Some (null_request 1 None false))) (254 ∷ 255 ∷ [])
    ≡ false ∷ true ∷ []

-- ---- why 9: the pool

abbrev pub TopsAreWanted : Type 0
TopsAreWanted = AreFaulty (
    faulty_text [] 1 9
    ∷ faulty ("" ∷ []) 2 9
    ∷ faulty ("# nothing" ∷ []) 2 9
    ∷ faulty_text (codes "failmode wait") 2 9 ∷ [])

abbrev pub LeavesStandOnce : Type 0
LeavesStandOnce = AreFaulty (
    faulty ("top 0 0" ∷ []) 1 9
    ∷ faulty ("top 0 1" ∷ "top 2 1" ∷ []) 2 9
    ∷ in_top ("fault 1 any 0 1 0 1 eio" ∷ []) 2 9 ∷ [])

-- ---- which fault counts

-- comments and lines without words
abbrev pub SkippedLinesAreCounted : Type 0
SkippedLinesAreCounted = AreFaulty (
    faulty_text (codes "# a\n\n \t\r\n\ttop\t0  \r\n#\n  #1 null\n1 wri") 7 1
    ∷ faulty ("# failmode" ∷ "failmode wait" ∷ "" ∷ "top 0" ∷ "#" ∷ "top 0" ∷ []) 6 9
    ∷ faulty ("top 0 # 1" ∷ []) 1 2 ∷ [])

-- the first faulty line, also where a later one has a lesser why
abbrev pub FirstLineCounts : Type 0
FirstLineCounts = AreFaulty (
    faulty ("top 0 0" ∷ "wri" ∷ []) 1 9
    ∷ in_top ("1 null under 2" ∷ "0 null" ∷ []) 2 8 ∷ [])

-- two whys on one line
abbrev pub LeastWhyCounts : Type 0
LeastWhyCounts = AreFaulty (
    faulty ("top 16 x" ∷ []) 1 2
    ∷ faulty ("top 0 0 16" ∷ []) 1 3
    ∷ faulty ("top 0 0 sector 768" ∷ []) 1 3
    ∷ faulty ("fault 16 any 0 1 0 1 eio" ∷ []) 1 3
    ∷ faulty ("fault 0 any 0 1 0 1 eio" ∷ []) 1 4
    ∷ in_top ("fault 0 any 0 1 0 1 eio" ∷ "top 0" ∷ []) 3 4
    ∷ in_top ("0 read X sync" ∷ []) 2 3
    ∷ in_top ("1 read x sync" ∷ "1 read x sync" ∷ []) 3 4
    ∷ in_top ("1 null" ∷ "2 read X sync under 1 canfail" ∷ []) 3 5
    ∷ in_top ("1 null" ∷ "2 read x sync" ∷ "3 free x under 1 canfail" ∷ []) 4 6
    ∷ in_top ("1 read x sync" ∷ "2 free x under 3" ∷ []) 3 6
    ∷ in_top ("1 free x" ∷ "2 null under 1 canfail" ∷ []) 3 7 ∷ [])
