-- Short words for scripts over small images, and what a run of one shows and leaves.
use Prim.Native.String.{String}
use Rattle.std.specs.Prelude.{ℕ, ◌*◌, List, [], ◌∷◌, ◌++◌, length, filter, replicate, Bool, true, false, Option, Some, None, codes, ◌==◌, option_map, map}
use Rattle.std.specs.List.{flat_map}
use Rattle.zio_types.specs.declared.error.Errno.{Errno}
use Rattle.zio_types.specs.declared.journal.Completion.{Completion}
use Rattle.zio_types.specs.declared.journal.Role.{Role}
use Rattle.zio_types.specs.declared.place.Place.{Place}
use Rattle.zio_types.specs.declared.request.Prio.TheVariants.{SyncRead, SyncWrite}
use Rattle.zio_types.specs.Choices.{Ask, Choice}
use Rattle.zio_types.specs.Places.{sector_size}
use Rattle.zio_blkptr.specs.declared.pointer.Bp.{Bp}
use Rattle.zio_blkptr.specs.declared.pointer.SumKind.{SumKind}
use Rattle.zio_blkptr.specs.Pointers.{word}
use Rattle.zio_faults.specs.declared.table.FaultKind.{FaultKind}
use Rattle.zio_faults.specs.declared.table.On.{On}
use Rattle.zio_faults.specs.declared.table.Row.{Row}
use Rattle.zio_script.specs.declared.script.Body.{Body}
use Rattle.zio_script.specs.declared.script.Body.TheVariants.{Fill}
use Rattle.zio_script.specs.declared.script.Failmode.{Failmode}
use Rattle.zio_script.specs.declared.script.Item.{Item}
use Rattle.zio_script.specs.declared.script.Item.TheVariants.{Request as RequestLine, Go, Clear}
use Rattle.zio_script.specs.declared.script.Script.{Script}
use Rattle.zio_script.specs.declared.script.TopLine.{TopLine}
use Rattle.zio_script.specs.declared.script.Work.TheVariants.{Null, Read, Write, Free, Claim}
use Rattle.zio_cksum.specs.Images.{Images}
use Rattle.zio_gang.specs.Attempts.{Ended}
use Rattle.zio_gang.specs.Runs.{Course, Round, run_script, ending, rounds_of}
use Rattle.zio_gang.specs.declared.tree.Tree.{Tree}
use Rattle.zio_gang.specs.Rounds.{Bound, block_of, used_places}
use Rattle.zio_report.specs.declared.report.Show.TheVariants.{Report}
use Rattle.zio_report.specs.Reports.{run_text, all_ended}

-- ---- requests

abbrev pub write_body : ℕ → List ℕ → SumKind → ℕ → Body → Item
write_body number name sum copies body = RequestLine (record {
  number = number;
  work = Write name sum copies SyncWrite body;
  under = None;
  canfail = false;
})

-- a write of one byte, so many times
abbrev pub write : ℕ → List ℕ → SumKind → ℕ → ℕ → ℕ → Item
write number name sum copies byte len = write_body number name sum copies (Fill byte len)

abbrev pub read : ℕ → List ℕ → Item
read number name = RequestLine (record { number = number; work = Read name SyncRead; under = None; canfail = true })

abbrev pub free : ℕ → List ℕ → Item
free number name = RequestLine (record { number = number; work = Free name; under = None; canfail = false })

abbrev pub claim : ℕ → List ℕ → List ℕ → Item
claim number name pointer = RequestLine (record { number = number; work = Claim name pointer; under = None; canfail = true })

abbrev pub null : ℕ → Item
null number = RequestLine (record { number = number; work = Null; under = None; canfail = false })

abbrev pub under_it : Option ℕ → Bool → Item → Item
under_it parent canfail (RequestLine r) = RequestLine (record r { under = parent; canfail = canfail })
under_it parent canfail Go = Go
under_it parent canfail Clear = Clear

-- the request stands under another and may not fail, or stands under none and may fail, or may not
abbrev pub under : ℕ → Item → Item
under parent item = under_it (Some parent) false item

abbrev pub can_fail : Item → Item
can_fail item = under_it None true item

abbrev pub must : Item → Item
must item = under_it None false item

abbrev pub can_fail_under : ℕ → Item → Item
can_fail_under parent item = under_it (Some parent) true item

-- ---- images, rows and choices

-- so many zeros
abbrev pub zeros : ℕ → List ℕ
zeros len = replicate len 0

-- so many sectors of one byte
abbrev pub sectors_of : ℕ → ℕ → List ℕ
sectors_of sectors byte = replicate (512 * sectors) byte

-- the leaves of the tops: one top of leaf 0, one of leaves 0 and 1, and two of one leaf each
abbrev pub one_leaf : List (List ℕ)
one_leaf = (0 ∷ []) ∷ []

abbrev pub mirror : List (List ℕ)
mirror = (0 ∷ 1 ∷ []) ∷ []

abbrev pub two_tops : List (List ℕ)
two_tops = (0 ∷ []) ∷ (1 ∷ []) ∷ []

-- a fault over so many bytes of a leaf, from there on
abbrev pub fault_at : ℕ → On → ℕ → ℕ → ℕ → ℕ → FaultKind → Row
fault_at leaf on at len from until kind = record {
  leaf = leaf;
  on = on;
  at = at;
  len = len;
  from = from;
  until = until;
  kind = kind;
  first = false;
}

-- a fault over the first 64 KiB of a leaf
abbrev pub fault : ℕ → On → ℕ → ℕ → FaultKind → Row
fault leaf on from until kind = fault_at leaf on 0 65536 from until kind

-- the same in first passes alone
abbrev pub in_first_pass : Row → Row
in_first_pass r = record r { first = true }

abbrev pub place : ℕ → ℕ → ℕ → Place
place top sector sectors = record { top = top; sector = sector; sectors = sectors }

abbrev pub completion : ℕ → ℕ → Option Errno → Completion
completion request round error = record { request = request; round = round; error = error }

-- what was found for a request in a round and an attempt, at a path and a role
abbrev pub choice : ℕ → ℕ → ℕ → List ℕ → Role → ℕ → ℕ → List Place → Choice
choice request round attempt path role size copies places = record {
  asked = record {
    key = record { request = request; round = round; attempt = attempt; path = path; role = role };
    size = size;
    copies = copies;
  };
  places = places;
}

abbrev pub script_over : Failmode → List TopLine → List Row → List Item → Script
script_over failmode tops rows items = record { failmode = failmode; tops = tops; faults = rows; items = items }

-- a top of these leaves whose unit is one sector
abbrev pub top_line : List ℕ → TopLine
top_line leaves = record { leaves = leaves; unit = 1 }

abbrev pub script : Failmode → List (List ℕ) → List Row → List Item → Script
script failmode tops rows items = script_over failmode (map top_line tops) rows items

-- the same over so many sectors, from this one on
abbrev pub fault_over : ℕ → On → ℕ → ℕ → ℕ → ℕ → FaultKind → Row
fault_over leaf on sector sectors from until kind =
    fault_at leaf on (sector * sector_size) (sectors * sector_size) from until kind

-- each word as eight bytes
abbrev pub word_bytes : List ℕ → List ℕ
word_bytes words = flat_map word words

-- the checksum of a pointer that has none
abbrev pub no_sum : List ℕ
no_sum = 0 ∷ 0 ∷ 0 ∷ 0 ∷ []

-- the pointer that has these six words for its places, then its properties, its birth and its checksum
abbrev pub pointer_with : List ℕ → ℕ → ℕ → List ℕ → List ℕ
pointer_with places properties birth sum = word_bytes (places ++ properties ∷ 0 ∷ 0 ∷ 0 ∷ birth ∷ 1 ∷ sum)

-- a pointer without a checksum, of birth 1, to copies of one sector each on top 0
abbrev pub one_copy_at : ℕ → List ℕ
one_copy_at a = pointer_with (1 ∷ a ∷ 0 ∷ 0 ∷ 0 ∷ 0 ∷ []) 0x8000020200000000 1 no_sum

abbrev pub two_copies_at : ℕ → ℕ → List ℕ
two_copies_at a b = pointer_with (1 ∷ a ∷ 1 ∷ b ∷ 0 ∷ 0 ∷ []) 0x8000020200000000 1 no_sum

abbrev pub three_copies_at : ℕ → ℕ → ℕ → List ℕ
three_copies_at a b c = pointer_with (1 ∷ a ∷ 1 ∷ b ∷ 1 ∷ c ∷ []) 0x8000020200000000 1 no_sum

-- the gang header that has the bytes of three pointers, and its checksum
abbrev pub header_with : List ℕ → List ℕ → List ℕ
header_with pointers sum = pointers ++ zeros 88 ++ word_bytes (0x0210da7ab10c7a11 ∷ sum)

-- ---- what a run shows and leaves

abbrev pub is_request : Item → Bool
is_request (RequestLine r) = true
is_request Go = false
is_request Clear = false

abbrev pub shown : Script → Images → List Choice → List Completion → Bool → Bool → Course → List ℕ
shown s images choices completions journal bytes course =
    run_text (Report journal bytes)
    (record { tops = length s.tops; images = length images; requests = length (filter is_request s.items) })
    (record { choices = choices; completions = completions }) course.events (ending course.state)

-- the plain report of a script over these images, under these choices
abbrev pub report : Script → Images → List Choice → List ℕ
report s images choices = shown s images choices [] false false (run_script s images choices)

-- the images after the run
abbrev pub images_after : Script → Images → List Choice → Images
images_after s images choices = (run_script s images choices).state.images

-- the report and the images after the run
pub record Outcome : Type 0 where
  pub text : List ℕ
  pub images : Images

abbrev pub outcome_of : Script → Images → List Choice → Course → Outcome
outcome_of s images choices course = record {
  text = shown s images choices [] false false course;
  images = course.state.images;
}

abbrev pub outcome : Script → Images → List Choice → Outcome
outcome s images choices = outcome_of s images choices (run_script s images choices)

-- the report with the journal's choices and completions
abbrev pub report_with_journal : Script → Images → List Choice → List Completion → List ℕ
report_with_journal s images choices completions =
    shown s images choices completions true false (run_script s images choices)

-- the report with the bytes of reads
abbrev pub report_with_data : Script → Images → List Choice → List ℕ
report_with_data s images choices = shown s images choices [] false true (run_script s images choices)

-- the names that are bound after the run
abbrev pub bound_after_run : Script → Images → List Choice → Bound
bound_after_run s images choices = (run_script s images choices).state.bound

-- the pointer of a block, and the places of all blocks, after the run
abbrev pub pointer_after : Script → Images → List Choice → List ℕ → Option Bp
pointer_after s images choices name =
    option_map (λ (tree : Tree). tree.bp) (block_of (bound_after_run s images choices) name)

abbrev pub used_after : Script → Images → List Choice → List Place
used_after s images choices = used_places (bound_after_run s images choices)

-- the lines of a text
abbrev pub lines : List String → List ℕ
lines [] = []
lines (text ∷ texts) = codes text ++ 10 ∷ lines texts

-- the rounds of the run
abbrev pub rounds_in : Script → Images → List Choice → List Round
rounds_in s images choices = rounds_of ((run_script s images choices).events)

-- what the run asked for, in the order of its rounds
abbrev pub asks_in : Script → Images → List Choice → List Ask
asks_in s images choices = flat_map (λ (round : Round). round.asks) (rounds_in s images choices)

-- the bytes that the read of this number gave in the run
abbrev pub bytes_read : Script → Images → List Choice → ℕ → List ℕ
bytes_read s images choices number =
    flat_map (λ (e : Ended). e.bytes)
    (filter (λ (e : Ended). e.request.number == number) (all_ended ((run_script s images choices).events)))
