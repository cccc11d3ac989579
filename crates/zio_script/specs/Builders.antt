-- What the reader keeps of the lines so far, of any form, and how it stands to their script: the reader's own words, and
-- nothing that has to be believed.
use Rattle.std.specs.Prelude.{◌≡◌, ◌≤◌, ◌<◌, ◌+◌, ℕ, List, length, slice_index_or, Bool, true, false, ◌||◌, Option, Some, None, Ok, Err, nat_le, sum}
use Rattle.std.specs.Prelude.{count_by}
use Rattle.zio_script.specs.declared.builder.Builder.{Builder}
use Rattle.zio_script.specs.declared.refusal.Refusal.{Refusal}
use Rattle.zio_script.specs.declared.refusal.Refusal.TheVariants.{Faulty, Memory}
use Rattle.zio_script.specs.declared.refusal.LineFault.{LineFault}
use Rattle.zio_script.specs.declared.refusal.LineFault.TheVariants.{NoShape, NoNumber, Memory as WantsMemory}
use Rattle.zio_script.specs.declared.limits.TheConstants.{CLEARS_MAX}
use Rattle.zio_script.specs.declared.script.Request.{Request}
use Rattle.zio_script.specs.declared.script.Script.{Script}
use Rattle.zio_script.specs.declared.script.ScriptError.{ScriptError}
use Rattle.zio_script.specs.declared.script.ScriptError.TheVariants.{Fault, Memory as NoMemory}
use Rattle.zio_script.specs.declared.why.Why.TheVariants.{Word as HasNoShape, Number}
use Rattle.zio_script.specs.Accepted.{IsOrderlyScript}
use Rattle.zio_script.specs.Grammar.{IsFaultOf, after_words, ended, fault_for, read_lines, script_with}
use Rattle.zio_script.specs.Lines.{ScriptLine, NewRequest}
use Rattle.zio_script.specs.OpenBatches.{IsBatch, IsStand, IsStandWithin}
use Rattle.zio_script.specs.Requests.{name_of}
use Rattle.zio_script.specs.declared.open_batch.Stand.{Stand}
use Rattle.zio_script.specs.Whys.{Before, Check, all_leaves, breaks_limit, falls_back, fits_work, is_misnamed, request_in, sizes_with, is_among, is_clear, least_why, nothing_before, open_batch, request_whys, tells_reads_apart, whys_at_end, whys_of}
use Rattle.zio_script.specs.Words.{Word, is_empty, lines_of}

-- ---- the script of the lines so far

abbrev pub script_of : Builder → Script
script_of b = record { failmode = b.failmode; tops = b.tops; faults = b.faults; items = b.items }

-- what stands before the next line
abbrev pub before_of : Builder → Before
before_of b = record { begun = b.begun; script = script_of b }

-- the requests since the last `go`
abbrev pub batch_of : Builder → List Request
batch_of b = open_batch (script_of b)

-- the leaves are those that are marked
abbrev pub Sees : List Bool → List ℕ → Type 0
Sees seen leaves = (n : ℕ) → n < 16 → slice_index_or seen n false ≡ is_among leaves n

-- what is kept says of the script what it means
pub record IsKept (b : Builder) : Type 0 where
  pub batch : IsBatch b.apart (batch_of b) b.batch
  pub orderly : IsOrderlyScript (script_of b)
  pub apart : b.apart ≡ tells_reads_apart (script_of b)
  pub seen : Sees b.seen (all_leaves (script_of b))
  pub last : (n : ℕ) → 1 ≤ n → falls_back (script_of b) n ≡ nat_le n b.last
  pub clears : b.clears ≡ count_by is_clear b.items
  pub most : b.clears ≤ CLEARS_MAX

-- ---- one line more

-- the line has no fault, and makes this
pub record AddsLine (old : Builder) (line : ScriptLine) (new : Builder) : Type 0 where
  pub none : least_why (whys_of (before_of old) line) ≡ None
  pub next : script_with (script_of old) line ≡ before_of new

-- the least why of the line; memory may always be wanting
abbrev pub IsLineWhy : Builder → ScriptLine → Refusal → Type 0
IsLineWhy b line (Faulty why) = least_why (whys_of (before_of b) line) ≡ Some why
IsLineWhy b line Memory = Unit {0}

-- the words make this
abbrev pub AddsWords : Builder → List Word → Builder → Type 0
AddsWords old words new = after_words (before_of old) words ≡ Ok (before_of new)

-- the least why of the words
abbrev pub IsWordsWhy : Builder → List Word → Refusal → Type 0
IsWordsWhy b words (Faulty why) = after_words (before_of b) words ≡ Err why
IsWordsWhy b words Memory = Unit {0}

-- the whys of a request
abbrev pub request_whys_of : Builder → NewRequest → List Check
request_whys_of b asked = request_whys (script_of b) (batch_of b) asked

-- a line's request, of the request that it makes
abbrev pub asked_of : Request → Option Bool → NewRequest
asked_of r flag = record { number = r.number; work = r.work; under = r.under; flag = flag }

-- whether a request breaks a limit, and the sizes of the batch with it
abbrev pub AreLimited : List Request → NewRequest → Option ℕ → Type 0
AreLimited batch asked None = breaks_limit batch asked ≡ true
AreLimited batch asked (Some size) =
    (breaks_limit batch asked ≡ false) × (size ≡ sum (sizes_with batch (request_in batch asked)))

-- a request to which no why below 6 applies
pub record IsNamed (b : Builder) (r : Request) (flag : Option Bool) (stand : Stand) (size : ℕ) : Type 0 where
  pub within : breaks_limit (batch_of b) (asked_of r flag) ≡ false
  pub above : (is_empty b.tops || falls_back (script_of b) r.number) ≡ false
  pub named : is_misnamed (name_of r.work) ≡ false
  pub made : request_in (batch_of b) (asked_of r flag) ≡ r
  pub stands : IsStand (batch_of b) b.batch r.under stand
  pub sized : size ≡ sum (sizes_with (batch_of b) r)
  pub last : b.last < r.number
  pub fits : fits_work r.work ≡ true
  pub inside : IsStandWithin b.batch stand

-- ---- refusals

-- a refusal as a reason, at a line
abbrev pub error_at : ℕ → Refusal → ScriptError
error_at line (Faulty why) = Fault (fault_for line why)
error_at line Memory = NoMemory

-- the why of words that are no line
abbrev pub refusal_of : LineFault → Refusal
refusal_of NoShape = Faulty HasNoShape
refusal_of NoNumber = Faulty Number
refusal_of WantsMemory = Memory

-- ---- the text

-- the lines up to the rest make the script so far
pub record IsReadTo (text : List ℕ) (line : ℕ) (rest : List ℕ) (b : Builder) : Type 0 where
  pub kept : IsKept b
  pub same : read_lines 1 (lines_of text) nothing_before ≡ read_lines line (lines_of rest) (before_of b)
  pub near : line + length rest ≤ 1 + length text

-- what is wrong at the end, at this line
abbrev pub IsEndWhy : Builder → ℕ → ScriptError → Type 0
IsEndWhy b line (Fault fault) = ended line (least_why (whys_at_end (script_of b))) (script_of b) ≡ Err fault
IsEndWhy b line NoMemory = Unit {0}

-- the script
abbrev pub IsEnd : Builder → ℕ → Script → Type 0
IsEnd b line script = ended line (least_why (whys_at_end (script_of b))) (script_of b) ≡ Ok script

-- why a text is no script; memory may always be wanting
abbrev pub IsReason : List ℕ → ScriptError → Type 0
IsReason text (Fault fault) = IsFaultOf text fault
IsReason text NoMemory = Unit {0}
