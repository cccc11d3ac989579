-- The text of one round. docs/FORMATS.md, "Report".
use Rattle.std.specs.Prelude.{◌≡◌, ℕ, ◌%◌, List, [], ◌∷◌, ◌++◌, length, slice_index, Bool, true, false, Option, Some, None, decimal, codes}
use Rattle.std.specs.Fmt.{radix_digits}
use Rattle.std.specs.List.{flat_map, AllByRecursion}
use Rattle.hex.specs.Hex.{encode_lower}
use Rattle.zio_types.specs.declared.error.Errno.{Errno}
use Rattle.zio_types.specs.declared.error.Errno.TheVariants.{Nxio, Cksum, Io, Nospc, Inval, Exist, Noent}
use Rattle.zio_types.specs.declared.journal.Completion.{Completion}
use Rattle.zio_types.specs.declared.journal.Role.{Role}
use Rattle.zio_types.specs.declared.journal.Role.TheVariants.{Body, Head}
use Rattle.zio_types.specs.declared.place.Place.{Place}
use Rattle.zio_types.specs.declared.request.Kind.{Kind}
use Rattle.zio_types.specs.declared.request.Kind.TheVariants.{Null, Read, Write, Free, Claim}
use Rattle.zio_types.specs.Choices.{Choice, is_refused}
use Rattle.zio_cksum.specs.Sums.{fletcher4}
use Rattle.zio_report.specs.declared.report.ReportLine.{ReportLine}
use Rattle.zio_report.specs.declared.report.LineResult.{LineResult}
use Rattle.zio_report.specs.declared.report.LineResult.TheVariants.{Suspended, Failed, Done, Sized, Bytes}
use Rattle.zio_report.specs.declared.report.RoundHead.{RoundHead}
use Rattle.zio_report.specs.declared.report.Show.{Show}
use Rattle.zio_report.specs.declared.report.Show.TheVariants.{Report, Summary}

-- ---- words

-- the text as a line, which ends with a newline
abbrev pub as_line : List ℕ → List ℕ
as_line text = text ++ 10 ∷ []

-- a blank and a word
abbrev pub spaced : List ℕ → List ℕ
spaced text = 32 ∷ text

-- the word of a request kind
abbrev pub kind_text : Kind → List ℕ
kind_text Null = codes "null"
kind_text Read = codes "read"
kind_text Write = codes "write"
kind_text Free = codes "free"
kind_text Claim = codes "claim"

-- the name of an error
abbrev pub errno_text : Errno → List ℕ
errno_text Nxio = codes "ENXIO"
errno_text Cksum = codes "ECKSUM"
errno_text Io = codes "EIO"
errno_text Nospc = codes "ENOSPC"
errno_text Inval = codes "EINVAL"
errno_text Exist = codes "EEXIST"
errno_text Noent = codes "ENOENT"

-- the word for what an entry asks for: a body or a header
abbrev pub role_text : Role → List ℕ
role_text Body = codes "body"
role_text Head = codes "head"

-- the text where the test says so, else nothing
abbrev pub when : Bool → List ℕ → List ℕ
when true text = text
when false text = []

-- ---- the head of a round

-- the batch of a round, or the word of a clear's round
abbrev pub batch_text : Option ℕ → List ℕ
batch_text None = codes "clear"
batch_text (Some batch) = codes "batch " ++ decimal batch

-- the line at the head of a round
abbrev pub head_text : RoundHead → List ℕ
head_text head =
    as_line (codes "round " ++ decimal head.round ++ spaced (batch_text head.batch) ++ codes " point " ++ decimal head.point)

-- ---- requests

-- a number in lower-case hexadecimal, without leading zeros
abbrev pub hexadecimal : ℕ → List ℕ
hexadecimal n = radix_digits 16 false n

-- the four sums of fletcher4 with colons between them
abbrev pub sums_text : List ℕ → List ℕ
sums_text sums =
    hexadecimal (slice_index sums 0) ++ codes ":" ++ hexadecimal (slice_index sums 1) ++ codes ":"
    ++ hexadecimal (slice_index sums 2) ++ codes ":" ++ hexadecimal (slice_index sums 3)

-- what a line says of its request: suspended, an error, or ok with what there is to tell
abbrev pub result_text : Bool → LineResult → List ℕ
result_text with_bytes Suspended = codes "suspended"
result_text with_bytes (Failed e) = errno_text e
result_text with_bytes Done = codes "ok"
result_text with_bytes (Sized size) = codes "ok " ++ decimal size
result_text with_bytes (Bytes bytes) =
    codes "ok " ++ decimal (length bytes) ++ spaced (sums_text (fletcher4 bytes))
    ++ when with_bytes (codes " data " ++ encode_lower bytes)

-- the bytes of a read are whole sectors
abbrev pub IsWhole : LineResult → Type 0
IsWhole Suspended = Unit {0}
IsWhole (Failed e) = Unit {0}
IsWhole Done = Unit {0}
IsWhole (Sized size) = Unit {0}
IsWhole (Bytes bytes) = length bytes % 512 ≡ 0

-- so it is with each of the lines
abbrev pub AreWhole : List ReportLine → Type 0
AreWhole lines = AllByRecursion (λ (l : ReportLine). IsWhole l.result) lines

-- the name of a request that has one
abbrev pub name_text : Option (List ℕ) → List ℕ
name_text None = []
name_text (Some name) = spaced name

-- the line of one request
abbrev pub line_text : Bool → ReportLine → List ℕ
line_text with_bytes line =
    as_line (decimal line.number ++ spaced (kind_text line.kind) ++ name_text line.name
    ++ spaced (result_text with_bytes line.result))

-- ---- the journal

-- the steps of a path with points between them
abbrev pub joined_steps : List ℕ → List ℕ
joined_steps [] = []
joined_steps (step ∷ []) = decimal step
joined_steps (step ∷ next ∷ steps) = decimal step ++ codes "." ++ joined_steps (next ∷ steps)

-- a path, or a dash for that of the whole block
abbrev pub path_text : List ℕ → List ℕ
path_text [] = codes "-"
path_text (step ∷ steps) = joined_steps (step ∷ steps)

-- a place: its top and its first sector
abbrev pub place_text : Place → List ℕ
place_text p = spaced (decimal p.top ++ codes ":" ++ decimal p.sector)

-- the line of one entry
abbrev pub choice_text : Choice → List ℕ
choice_text c =
    as_line (codes "take " ++ decimal c.asked.key.request ++ spaced (decimal c.asked.key.attempt)
    ++ spaced (path_text c.asked.key.path) ++ spaced (role_text c.asked.key.role) ++ spaced (decimal c.asked.size)
    ++ spaced (decimal c.asked.copies) ++ flat_map place_text c.places ++ when (is_refused c) (codes " refused"))

-- the requests that completed, or no line where none did
abbrev pub order_text : List Completion → List ℕ
order_text [] = []
order_text (c ∷ cs) = as_line (codes "order" ++ flat_map (λ (d : Completion). spaced (decimal d.request)) (c ∷ cs))

-- the lines of a round's entries, and that of its completions
abbrev pub journal_text : List Choice → List Completion → List ℕ
journal_text choices completions = flat_map choice_text choices ++ order_text completions

-- ---- the round

-- the text of a round: its head, its requests, and with the journal its choices and completions; a summary shows none
abbrev pub round_text : Show → RoundHead → List ReportLine → List Choice → List Completion → List ℕ
round_text (Report journal bytes) head lines choices completions =
    head_text head ++ flat_map (line_text bytes) lines ++ when journal (journal_text choices completions)
round_text Summary head lines choices completions = []
