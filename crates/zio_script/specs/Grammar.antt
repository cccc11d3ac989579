-- Which texts are scripts, and the first faulty line of those that aren't, with the least why: docs/FORMATS.md, "Script".
use Rattle.std.specs.Prelude.{◌≡◌, ℕ, ◌+◌, ◌/◌, List, [], ◌∷◌, ◌++◌, length, Bool, true, false, nat_le, Option, Some, None, Result, Ok, Err}
use Rattle.std.specs.Result.{result_ok, result_err}
use Rattle.zio_script.specs.declared.read.TheConstants.{SCRIPT_LEN_MAX}
use Rattle.zio_script.specs.declared.script.Item.{Item}
use Rattle.zio_script.specs.declared.script.Item.TheVariants.{Request as RequestItem, Go, Clear}
use Rattle.zio_script.specs.declared.script.Script.{Script}
use Rattle.zio_script.specs.declared.script.ScriptFault.{ScriptFault}
use Rattle.zio_script.specs.declared.why.Why.{Why}
use Rattle.zio_script.specs.declared.why.Why.TheVariants.{Word as NoShape, Number, Limit}
use Rattle.zio_types.specs.Places.{sector_size}
use Rattle.zio_script.specs.Lines.{ScriptLine, FailmodeLine, LeavesLine, FaultLine, RequestLine, GoLine, ClearLine, Shape, shape_of, line_of}
use Rattle.zio_script.specs.Whys.{Before, nothing_before, open_batch, request_in, why_number, whys_of, whys_at_end, least_why}
use Rattle.zio_script.specs.Words.{Word, is_skipped, lines_of, words_of}

-- ---- the script of the lines

-- a line stands before now
abbrev pub begun_with : Script → Before
begun_with script = record { begun = true; script = script }

-- one more item
abbrev pub with_item : Script → Item → Before
with_item script item = begun_with (record script { items = script.items ++ item ∷ [] })

-- the script so far, with a line that has no fault
abbrev pub script_with : Script → ScriptLine → Before
script_with script (FailmodeLine mode) = begun_with (record script { failmode = mode })
script_with script (LeavesLine leaves sector) =
    begun_with (record script { tops = script.tops ++ record { leaves = leaves; unit = sector / sector_size } ∷ [] })
script_with script (FaultLine row) = begun_with (record script { faults = script.faults ++ row ∷ [] })
script_with script (RequestLine asked) = with_item script (RequestItem (request_in (open_batch script) asked))
script_with script GoLine = with_item script Go
script_with script ClearLine = with_item script Clear

-- a why that applies, or else the value
abbrev pub unless_why : {X : Type 0} → Option Why → X → Result X Why
unless_why None x = Ok x
unless_why (Some why) x = Err why

-- Number where a number or a hexadecimal word is wrong, else the least of the others
abbrev pub after_line : Before → Option ScriptLine → Result Before Why
after_line before None = Err Number
after_line before (Some line) = unless_why (least_why (whys_of before line)) (script_with before.script line)

-- Word where the line has no shape
abbrev pub after_shape : Before → Option Shape → Result Before Why
after_shape before None = Err NoShape
after_shape before (Some shape) = after_line before (line_of shape)

-- a skipped line changes nothing
abbrev pub unless_skipped : Bool → Before → Result Before Why → Result Before Why
unless_skipped true before after = Ok before
unless_skipped false before after = after

-- the script after one more line, or the line's least why
abbrev pub after_words : Before → List Word → Result Before Why
after_words before words = unless_skipped (is_skipped words) before (after_shape before (shape_of words))

-- ---- texts

-- a faulty line and the number of its why
abbrev pub fault_at : ℕ → ℕ → ScriptFault
fault_at line number = record { line = line; why = number }

-- the same by the why
abbrev pub fault_for : ℕ → Why → ScriptFault
fault_for line why = fault_at line (why_number why)

-- the rest is read only after a line without a fault
abbrev pub read_on : ℕ → Result Before Why → (Before → Result Script ScriptFault) → Result Script ScriptFault
read_on line (Err why) rest = Err (fault_for line why)
read_on line (Ok before) rest = rest before

-- a fault at the end stands at the number after the last line
abbrev pub ended : ℕ → Option Why → Script → Result Script ScriptFault
ended line None script = Ok script
ended line (Some why) script = Err (fault_for line why)

-- the lines from this number on, after those before
unfoldable pub read_lines : ℕ → List Word → Before → Result Script ScriptFault
read_lines n [] before = ended n (least_why (whys_at_end before.script)) before.script
read_lines n (line ∷ lines) before = read_on n (after_words before (words_of line)) (read_lines (n + 1) lines)

-- a text that is too long is Limit at line 0
abbrev pub read_short : Bool → List ℕ → Result Script ScriptFault
read_short false text = Err (fault_for 0 Limit)
read_short true text = read_lines 1 (lines_of text) nothing_before

-- the script that a text is, or its first faulty line with the least why
abbrev pub reading : List ℕ → Result Script ScriptFault
reading text = read_short (nat_le (length text) SCRIPT_LEN_MAX) text

-- the script that a text is, if it has no fault
abbrev pub script_of : List ℕ → Option Script
script_of text = result_ok (reading text)

-- the fault of a text, if it is no script
abbrev pub fault_of : List ℕ → Option ScriptFault
fault_of text = result_err (reading text)

-- the text is this script
abbrev pub IsScriptOf : List ℕ → Script → Type 0
IsScriptOf text script = reading text ≡ Ok script

-- the text has this first faulty line, with this least why
abbrev pub IsFaultOf : List ℕ → ScriptFault → Type 0
IsFaultOf text fault = reading text ≡ Err fault
