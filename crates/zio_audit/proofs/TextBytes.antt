-- Whether a report shows the bytes of reads: by the number of blanks in the lines without the journal.
use Rattle.std.proofs.Common.{◌≡◌, ◌<◌, append_assoc, ◌≤◌, ◌+◌, ◌==◌, ◌++◌, ℕ, List, [], ◌∷◌, length, map, refl, sym, ap, ◌∙◌, Bool, true, false, ◌||◌, cond, count_by, arith, nat_le, le-leb, Option, Some, None}
use Rattle.std.specs.Prelude.{◌↔◌, codes, decimal, slice_index}
use Rattle.std.specs.List.{AllByRecursion, flat_map, list_any}
use Rattle.std.proofs.lemmas.Bool.{false_from_ne_true, leb-true, ne_eqb, or_parts, true≢false}
use Rattle.std.proofs.lemmas.List.Folds.{list_any-append}
use Rattle.std.proofs.lemmas.List.Sums.{sum_by-append, sum_by-cons}
use Rattle.hex.specs.Hex.{encode_lower}
use Rattle.zio_types.specs.declared.error.Errno.{Errno}
use Rattle.zio_types.specs.declared.error.Errno.TheVariants.{Nxio, Cksum, Io, Nospc, Inval, Exist, Noent}
use Rattle.zio_types.specs.declared.request.Kind.{Kind}
use Rattle.zio_types.specs.declared.request.Kind.TheVariants.{Null, Read, Write, Free, Claim}
use Rattle.zio_types.specs.declared.journal.Journal.{Journal}
use Rattle.zio_script.specs.declared.script.Script.{Script}
use Rattle.zio_script.specs.Grammar.{IsScriptOf}
use Rattle.zio_script.specs.Words.{Word}
use Rattle.zio_cksum.specs.Images.{Images}
use Rattle.zio_cksum.specs.Sums.{fletcher4}
use Rattle.zio_gang.specs.declared.ending.Ending.{Ending}
use Rattle.zio_gang.specs.Journals.{choices_in, completions_in}
use Rattle.zio_gang.specs.Runs.{Event, ending}
use Rattle.zio_gang.specs.Runs.Event.{RanRound, HeldBatch}
use Rattle.zio_report.specs.declared.report.LineResult.{LineResult}
use Rattle.zio_report.specs.declared.report.LineResult.TheVariants.{Suspended, Failed, Done, Sized, Bytes}
use Rattle.zio_report.specs.declared.report.ReportLine.{ReportLine}
use Rattle.zio_report.specs.declared.report.RoundHead.{RoundHead}
use Rattle.zio_report.specs.declared.report.Show.TheVariants.{Report}
use Rattle.zio_report.specs.Lines.{as_line, batch_text, errno_text, head_text, hexadecimal, journal_text, kind_text, line_text, name_text, result_text, spaced, sums_text}
use Rattle.zio_report.specs.Meanings.{course_of, records_of, run_size_of}
use Rattle.zio_report.specs.Reports.{Records, RunSize, end_code, end_text, event_text, head_of, held_text, pool_text, run_text, lines_of as lines_in}
use Rattle.zio_spelled.proofs.PartLemmas.{Dark}
use Rattle.zio_audit.specs.Putting.{plain_lines}
use Rattle.zio_audit.specs.Texts.{is_bytes_line, shows_bytes, text_of_run}
use Rattle.zio_audit.specs.Verdicts.{IsTextOf}
use Rattle.zio_audit.proofs.TextWords.{HasWordName, decimal_dark, sixteens}
use Rattle.zio_audit.proofs.TextLines.{AreToldFrom, end_line, event_lines, head_line, held_line, lines_behind, pool_line, request_line}
use Rattle.zio_audit.proofs.TextNames.{script_named, told_run}
use Rattle.zio_audit.proofs.TextReads.{run_kept}

-- how many blanks a text has
abbrev pub blanks : List ℕ → ℕ
blanks text = count_by (λ c. c == 32) text

-- two texts have the blanks of both
blanks_both : (a b : List ℕ) → blanks (a ++ b) ≡ blanks a + blanks b
blanks_both a b = sum_by-append (λ c. cond (c == 32) 1 0) a b

-- none in a dark text
blanks_dark : (text : List ℕ) → Dark text → blanks text ≡ 0
blanks_dark [] dark = refl
blanks_dark (c ∷ cs) dark =
    let above : 32 < c = dark.0 in
    sum_by-cons (λ x. cond (x == 32) 1 0) c cs ∙ ap (λ b. cond b 1 0 + blanks cs) (ne_eqb c 32 (λ same. omega arith)) ∙ omega (arith, blanks_dark cs dark.1)

-- ---- the words of a request's line

-- a kind stands behind a blank and has none
blanks_kind : (kind : Kind) → blanks (spaced (kind_text kind)) ≡ 1
blanks_kind Null = refl
blanks_kind Read = refl
blanks_kind Write = refl
blanks_kind Free = refl
blanks_kind Claim = refl

-- the name of an error has none
blanks_errno : (e : Errno) → blanks (errno_text e) ≡ 0
blanks_errno Nxio = refl
blanks_errno Cksum = refl
blanks_errno Io = refl
blanks_errno Nospc = refl
blanks_errno Inval = refl
blanks_errno Exist = refl
blanks_errno Noent = refl

-- nor has a number
blanks_number : (n : ℕ) → blanks (decimal n) ≡ 0
blanks_number n = blanks_dark (decimal n) (decimal_dark n)

-- nor one in hexadecimal
blanks_sum : (n : ℕ) → blanks (hexadecimal n) ≡ 0
blanks_sum n = blanks_dark (hexadecimal n) (sixteens n)

-- a colon adds none
colon_blanks : (a b : List ℕ) → blanks (a ++ codes ":" ++ b) ≡ blanks a + blanks b
colon_blanks a b =
    let colon : blanks (codes ":") ≡ 0 = refl in
    omega (arith, blanks_both (a ++ codes ":") b, blanks_both a (codes ":"))

-- the sums of a read have none
blanks_sums : (sums : List ℕ) → blanks (sums_text sums) ≡ 0
blanks_sums sums =
    let a = hexadecimal (slice_index sums 0) in
    let b = hexadecimal (slice_index sums 1) in
    let c = hexadecimal (slice_index sums 2) in
    let d = hexadecimal (slice_index sums 3) in
    omega (
      arith,
      colon_blanks (a ++ codes ":" ++ b ++ codes ":" ++ c) d,
      colon_blanks (a ++ codes ":" ++ b) c,
      colon_blanks a b,
      blanks_sum (slice_index sums 0),
      blanks_sum (slice_index sums 1),
      blanks_sum (slice_index sums 2),
      blanks_sum (slice_index sums 3),
    )

-- a word behind a blank has one more
spaced_blanks : (text : List ℕ) → blanks (spaced text) ≡ 1 + blanks text
spaced_blanks text = sum_by-cons (λ x. cond (x == 32) 1 0) 32 text

-- a name has one at most, that before it
blanks_name : (name : Option Word) → HasWordName name → blanks (name_text name) ≤ 1
blanks_name None dark = let none : blanks [] ≡ 0 = refl in omega arith
blanks_name (Some name) dark = omega (arith, spaced_blanks name, blanks_dark name dark)

-- a size behind its word has one
sized_blanks : (n : ℕ) → blanks (codes "ok " ++ decimal n) ≡ 1
sized_blanks n =
    let ok : blanks (codes "ok ") ≡ 1 = refl in
    omega (arith, blanks_both (codes "ok ") (decimal n), blanks_number n)

-- what is told of a read without its bytes has two
found_blanks : (bytes : List ℕ) → blanks (codes "ok " ++ decimal (length bytes) ++ spaced (sums_text (fletcher4 bytes))) ≡ 2
found_blanks bytes =
    omega (
      arith,
      blanks_both (codes "ok " ++ decimal (length bytes)) (spaced (sums_text (fletcher4 bytes))),
      sized_blanks (length bytes),
      spaced_blanks (sums_text (fletcher4 bytes)),
      blanks_sums (fletcher4 bytes),
    )

-- without its bytes a result has few
few_blanks : (result : LineResult) → blanks (result_text false result) ≤ 2
few_blanks Suspended = let none : blanks (codes "suspended") ≡ 0 = refl in omega arith
few_blanks (Failed e) = omega (arith, blanks_errno e)
few_blanks Done = let none : blanks (codes "ok") ≡ 0 = refl in omega arith
few_blanks (Sized size) = omega (arith, sized_blanks size)
few_blanks (Bytes bytes) =
    let end : blanks [] ≡ 0 = refl in
    omega (arith, blanks_both (codes "ok " ++ decimal (length bytes) ++ spaced (sums_text (fletcher4 bytes))) [], found_blanks bytes)

-- with them it has more
more_blanks : (bytes : List ℕ) → 4 ≤ blanks (result_text true (Bytes bytes))
more_blanks bytes =
    let shown = codes " data " ++ encode_lower bytes in
    let mark : blanks (codes " data ") ≡ 2 = refl in
    omega (
      arith,
      blanks_both (codes "ok " ++ decimal (length bytes) ++ spaced (sums_text (fletcher4 bytes))) shown,
      found_blanks bytes,
      blanks_both (codes " data ") (encode_lower bytes),
    )

-- the line of a request has two beside those of its name and result
line_blanks : (number : ℕ) (kind : Kind) (name : Option Word) (text : List ℕ) → blanks (decimal number ++ spaced (kind_text kind) ++ name_text name ++ spaced text) ≡ 2 + (blanks (name_text name) + blanks text)
line_blanks number kind name text =
    omega (
      arith,
      blanks_both (decimal number ++ spaced (kind_text kind) ++ name_text name) (spaced text),
      blanks_both (decimal number ++ spaced (kind_text kind)) (name_text name),
      blanks_both (decimal number) (spaced (kind_text kind)),
      blanks_number number,
      blanks_kind kind,
      spaced_blanks text,
    )

-- five blanks are too few
few : (n : ℕ) → n ≤ 5 → nat_le 6 n ≡ false
few n small = false_from_ne_true (nat_le 6 n) (λ is. let large : 6 ≤ n = leb-true 6 n is in absurd (omega arith))

-- ---- the lines of a run

-- so few has the line of a request without bytes
request_few : (line : ReportLine) → HasWordName line.name → is_bytes_line (request_line false line) ≡ false
request_few line dark =
    few (blanks (request_line false line)) (omega (arith, line_blanks line.number line.kind line.name (result_text false line.result), blanks_name line.name dark, few_blanks line.result))

-- the batch of a round has one at most
batch_blanks : (batch : Option ℕ) → blanks (batch_text batch) ≤ 1
batch_blanks None = let none : blanks (codes "clear") ≡ 0 = refl in omega arith
batch_blanks (Some batch) =
    let one : blanks (codes "batch ") ≡ 1 = refl in
    omega (arith, blanks_both (codes "batch ") (decimal batch), blanks_number batch)

-- the head of a round has too few
head_few : (head : RoundHead) → is_bytes_line (head_line head) ≡ false
head_few head =
    let first : blanks (codes "round ") ≡ 1 = refl in
    let last : blanks (codes " point ") ≡ 2 = refl in
    let round = codes "round " ++ decimal head.round in
    let batch = spaced (batch_text head.batch) in
    few (blanks (head_line head)) (omega (
      arith,
      blanks_both (round ++ batch ++ codes " point ") (decimal head.point),
      blanks_both (round ++ batch) (codes " point "),
      blanks_both round batch,
      blanks_both (codes "round ") (decimal head.round),
      blanks_number head.round,
      blanks_number head.point,
      spaced_blanks (batch_text head.batch),
      batch_blanks head.batch,
    ))

-- so has the first line
pool_few : (n : RunSize) → is_bytes_line (pool_line n) ≡ false
pool_few n =
    let first : blanks (codes "pool ") ≡ 1 = refl in
    let next : blanks (codes " ") ≡ 1 = refl in
    few (blanks (pool_line n)) (omega (
      arith,
      blanks_both (codes "pool " ++ decimal n.tops ++ codes " ") (decimal n.images),
      blanks_both (codes "pool " ++ decimal n.tops) (codes " "),
      blanks_both (codes "pool ") (decimal n.tops),
      blanks_number n.tops,
      blanks_number n.images,
    ))

-- so has that of a held batch
held_few : (batch : ℕ) → is_bytes_line (held_line batch) ≡ false
held_few batch =
    let first : blanks (codes "held ") ≡ 1 = refl in
    few (blanks (held_line batch)) (omega (arith, blanks_both (codes "held ") (decimal batch), blanks_number batch))

-- so has the last
end_few : (ending : Ending) → is_bytes_line (end_line ending) ≡ false
end_few ending =
    let first : blanks (codes "end ") ≡ 1 = refl in
    few (blanks (end_line ending)) (omega (arith, blanks_both (codes "end ") (decimal (end_code ending)), blanks_number (end_code ending)))

-- where neither passes none does
first_none : (a b : Bool) → a ≡ false → b ≡ false → (a || b) ≡ false
first_none a b none other = ap (λ c. c || b) none ∙ other

-- so have the lines of all requests
requests_few : (lines : List ReportLine) → AllByRecursion (λ (l : ReportLine). HasWordName l.name) lines → list_any is_bytes_line (map (request_line false) lines) ≡ false
requests_few [] named = refl
requests_few (line ∷ lines) named =
    first_none (is_bytes_line (request_line false line)) (list_any is_bytes_line (map (request_line false) lines)) (request_few line named.0) (requests_few lines named.1)

-- without the bytes no line shows them
events_few : (number : ℕ) (events : List Event) (ending : Ending) → AreToldFrom number events → list_any is_bytes_line (lines_behind false events ending) ≡ false
events_few number [] ending told = first_none (is_bytes_line (end_line ending)) false (end_few ending) refl
events_few number (HeldBatch batch ∷ events) ending told =
    first_none (is_bytes_line (held_line batch)) (list_any is_bytes_line (lines_behind false events ending)) (held_few batch) (events_few number events ending told)
events_few number (RanRound round ∷ events) ending told =
    let requests = map (request_line false) (lines_in round) in
    first_none (is_bytes_line (head_line (head_of round))) (list_any is_bytes_line ((requests ++ flat_map (event_lines false) events) ++ end_line ending ∷ [])) (head_few (head_of round))
    (ap (list_any is_bytes_line) (append_assoc requests (flat_map (event_lines false) events) (end_line ending ∷ []))
    ∙ list_any-append is_bytes_line requests (lines_behind false events ending)
    ∙ first_none (list_any is_bytes_line requests) (list_any is_bytes_line (lines_behind false events ending)) (requests_few (lines_in round) told.1.0)
    (events_few (number + 1) events ending told.1.1))

-- where no line shows bytes the result has none
result_same : (number : ℕ) (kind : Kind) (name : Option Word) (result : LineResult)
    → is_bytes_line (decimal number ++ spaced (kind_text kind) ++ name_text name ++ spaced (result_text true result)) ≡ false → result_text true result ≡ result_text false result
result_same number kind name Suspended none = refl
result_same number kind name (Failed e) none = refl
result_same number kind name Done none = refl
result_same number kind name (Sized size) none = refl
result_same number kind name (Bytes bytes) none =
    let line = decimal number ++ spaced (kind_text kind) ++ name_text name ++ spaced (result_text true (Bytes bytes)) in
    let many : 6 ≤ blanks line = omega (arith, line_blanks number kind name (result_text true (Bytes bytes)), more_blanks bytes) in
    absurd (true≢false (sym (le-leb 6 (blanks line) many) ∙ none))

-- nor have the results of all requests
requests_same : (lines : List ReportLine) → list_any is_bytes_line (map (request_line true) lines) ≡ false → flat_map (line_text true) lines ≡ flat_map (line_text false) lines
requests_same [] none = refl
requests_same (line ∷ lines) none =
    let parts = or_parts (is_bytes_line (request_line true line)) (list_any is_bytes_line (map (request_line true) lines)) none in
    λ i. as_line (decimal line.number ++ spaced (kind_text line.kind) ++ name_text line.name ++ spaced (result_same line.number line.kind line.name line.result parts.0 i))
    ++ requests_same lines parts.1 i

-- so the text of all events is the same without them
events_same : (j : Records) (events : List Event) (ending : Ending) → list_any is_bytes_line (lines_behind true events ending) ≡ false
    → flat_map (event_text (Report true true) j) events ≡ flat_map (event_text (Report true false) j) events
events_same j [] ending none = refl
events_same j (HeldBatch batch ∷ events) ending none =
    let parts = or_parts (is_bytes_line (held_line batch)) (list_any is_bytes_line (lines_behind true events ending)) none in
    ap (λ (rest : List ℕ). held_text batch ++ rest) (events_same j events ending parts.1)
events_same j (RanRound round ∷ events) ending none =
    let requests = map (request_line true) (lines_in round) in
    let journal = journal_text (choices_in round.number j.choices) (completions_in round.number j.completions) in
    let behind = or_parts (is_bytes_line (head_line (head_of round))) (list_any is_bytes_line ((requests ++ flat_map (event_lines true) events) ++ end_line ending ∷ [])) none in
    let parts = or_parts (list_any is_bytes_line requests) (list_any is_bytes_line (lines_behind true events ending))
    (sym (list_any-append is_bytes_line requests (lines_behind true events ending))
    ∙ ap (list_any is_bytes_line) (sym (append_assoc requests (flat_map (event_lines true) events) (end_line ending ∷ []))) ∙ behind.1) in
    λ i. (head_text (head_of round) ++ requests_same (lines_in round) parts.0 i ++ journal) ++ events_same j events ending parts.1 i

-- ---- the law

-- the text with bytes or without is that which its lines tell
told_text : (n : RunSize) (j : Records) (events : List Event) (ending : Ending) (report : List ℕ) (bytes shown : Bool) → AreToldFrom 1 events → shows_bytes report ≡ shown
    → report ≡ run_text (Report true bytes) n j events ending → report ≡ run_text (Report true shown) n j events ending
told_text n j events ending report true true told is text = text
told_text n j events ending report false false told is text = text
told_text n j events ending report false true told is text =
    let lines = ap plain_lines text ∙ run_kept false n j events ending told in
    absurd (true≢false (sym is ∙ ap (list_any is_bytes_line) lines
    ∙ first_none (is_bytes_line (pool_line n)) (list_any is_bytes_line (lines_behind false events ending)) (pool_few n) (events_few 1 events ending told)))
told_text n j events ending report true false told is text =
    let lines = ap plain_lines text ∙ run_kept true n j events ending told in
    let parts = or_parts (is_bytes_line (pool_line n)) (list_any is_bytes_line (lines_behind true events ending)) (sym (ap (list_any is_bytes_line) lines) ∙ is) in
    text ∙ ap (λ (told_lines : List ℕ). pool_text n.tops n.images ++ told_lines ++ end_text ending) (events_same j events ending parts.1)

-- a report is the text of a run exactly where it is the one that its lines tell
pub bytes_told : (text : List ℕ) (script : Script) (images : Images) (j : Journal) (report : List ℕ) → IsScriptOf text script
    → IsTextOf script images j report ↔ (report ≡ text_of_run true (shows_bytes report) script images j)
bytes_told text script images j report is = (
  (λ h. told_text (run_size_of script images) (records_of j) (course_of script images j).events (ending (course_of script images j).state) report h.bytes (shows_bytes report)
      (told_run script images j.places (script_named text script is)) refl h.text),
  (λ same. record { bytes = shows_bytes report; text = same }),
)
