-- The lines that a run prints without its journal: what words begin them, and that their text is the run's.
use Rattle.std.proofs.Common.{◌≡◌, ◌<◌, ◌≤◌, ◌+◌, ◌==◌, ◌++◌, ℕ, List, [], ◌∷◌, map, refl, sym, ap, ◌∙◌, Bool, false, ◌||◌, arith, append_assoc}
use Rattle.std.specs.Prelude.{codes, decimal}
use Rattle.std.specs.List.{AllByRecursion, flat_map}
use Rattle.std.proofs.lemmas.Bool.{false_from_ne_true, ne_eqb}
use Rattle.std.proofs.lemmas.List.{append-nil}
use Rattle.std.proofs.lemmas.List.Concat.{flat_map-append}
use Rattle.std.proofs.lemmas.List.Elements.{All-from_recursion}
use Rattle.std.proofs.lemmas.List.Splits.{slice_split_at}
use Rattle.std.proofs.lemmas.Slice.Eq.{bytes_eq-Decides}
use Rattle.zio_script.specs.Words.{Word, is_word}
use Rattle.zio_gang.specs.declared.ending.Ending.{Ending}
use Rattle.zio_gang.specs.Runs.{Event, Round}
use Rattle.zio_gang.specs.Runs.Event.{RanRound, HeldBatch}
use Rattle.zio_report.specs.declared.report.ReportLine.{ReportLine}
use Rattle.zio_report.specs.declared.report.RoundHead.{RoundHead}
use Rattle.zio_report.specs.declared.report.Show.TheVariants.{Report}
use Rattle.zio_report.specs.Lines.{as_line, batch_text, head_text, kind_text, line_text, name_text, result_text, spaced}
use Rattle.zio_report.specs.Reports.{Records, RunSize, end_code, end_text, event_text, head_of, held_text, pool_text, run_text, lines_of as lines_in}
use Rattle.zio_spelled.specs.Spelled.{first_of, first_word, is_journal, is_round}
use Rattle.zio_audit.specs.Putting.{is_close}
use Rattle.zio_audit.specs.Texts.{text_of_lines}
use Rattle.zio_audit.proofs.TextWords.{IsOneLine, IsFigure, HasWordName, figures, free_batch, free_both, free_codes, free_decimal, free_kind, free_name, free_result}

-- ---- the lines

-- the line at the head of a round
abbrev pub head_line : RoundHead → Word
head_line head = codes "round " ++ decimal head.round ++ spaced (batch_text head.batch) ++ codes " point " ++ decimal head.point

-- the line of one request
abbrev pub request_line : Bool → ReportLine → Word
request_line bytes line =
    decimal line.number ++ spaced (kind_text line.kind) ++ name_text line.name ++ spaced (result_text bytes line.result)

-- the first line
abbrev pub pool_line : RunSize → Word
pool_line n = codes "pool " ++ decimal n.tops ++ codes " " ++ decimal n.images

-- the line of a held batch
abbrev pub held_line : ℕ → Word
held_line batch = codes "held " ++ decimal batch

-- the last line
abbrev pub end_line : Ending → Word
end_line ending = codes "end " ++ decimal (end_code ending)

-- the lines of a round without its journal, or of a held batch
abbrev pub event_lines : Bool → Event → List Word
event_lines bytes (RanRound round) = head_line (head_of round) ∷ map (request_line bytes) (lines_in round)
event_lines bytes (HeldBatch batch) = held_line batch ∷ []

-- those behind the first, up to the last
abbrev pub lines_behind : Bool → List Event → Ending → List Word
lines_behind bytes events ending = flat_map (event_lines bytes) events ++ end_line ending ∷ []

-- the names of the round's requests are words
abbrev pub AreNamed : Round → Type 0
AreNamed round = AllByRecursion (λ (l : ReportLine). HasWordName l.name) (lines_in round)

-- the rounds are numbered one after another from this number on, and names are words
abbrev pub AreToldFrom : ℕ → List Event → Type 0
AreToldFrom n [] = Unit {0}
AreToldFrom n (RanRound round ∷ events) = (round.number ≡ n) × (AreNamed round × AreToldFrom (n + 1) events)
AreToldFrom n (HeldBatch batch ∷ events) = AreToldFrom n events

-- ---- what begins them

-- the head of a round is one line
pub free_head : (head : RoundHead) → IsOneLine (head_line head)
free_head head =
    let round = codes "round " ++ decimal head.round in
    let batch = spaced (batch_text head.batch) in
    free_both (round ++ batch ++ codes " point ") (decimal head.point)
    (free_both (round ++ batch) (codes " point ")
    (free_both round batch (free_both (codes "round ") (decimal head.round) (free_codes (codes "round ") refl) (free_decimal head.round)) (refl, free_batch head.batch))
    (free_codes (codes " point ") refl))
    (free_decimal head.point)

-- so is the first line
pub free_pool : (n : RunSize) → IsOneLine (pool_line n)
free_pool n =
    free_both (codes "pool " ++ decimal n.tops ++ codes " ") (decimal n.images)
    (free_both (codes "pool " ++ decimal n.tops) (codes " ") (free_both (codes "pool ") (decimal n.tops) (free_codes (codes "pool ") refl) (free_decimal n.tops)) (free_codes (codes " ") refl))
    (free_decimal n.images)

-- so is that of a held batch
pub free_held : (batch : ℕ) → IsOneLine (held_line batch)
free_held batch = free_both (codes "held ") (decimal batch) (free_codes (codes "held ") refl) (free_decimal batch)

-- so is the last
pub free_end : (ending : Ending) → IsOneLine (end_line ending)
free_end ending = free_both (codes "end ") (decimal (end_code ending)) (free_codes (codes "end ") refl) (free_decimal (end_code ending))

-- the line of a request is one line
free_request : (bytes : Bool) (line : ReportLine) → HasWordName line.name → IsOneLine (request_line bytes line)
free_request bytes line one =
    let number = decimal line.number in
    let kind = spaced (kind_text line.kind) in
    let name = name_text line.name in
    let result = spaced (result_text bytes line.result) in
    free_both (number ++ kind ++ name) result
    (free_both (number ++ kind) name (free_both number kind (free_decimal line.number) (refl, free_kind line.kind)) (free_name line.name one))
    (refl, free_result bytes line.result)

-- equal words have equal first bytes
heads : (x c : ℕ) (xs cs : Word) → ◌≡◌ {A = List ℕ} (x ∷ xs) (c ∷ cs) → x ≡ c
heads x c xs cs same = cc

-- a word that begins with a letter is no number
no_number : (x : ℕ) (xs word : Word) → 57 < x → AllByRecursion IsFigure word → is_word (x ∷ xs) word ≡ false
no_number x xs [] above all = refl
no_number x xs (c ∷ cs) above all =
    let low : c ≤ 57 = all.0.1 in
    false_from_ne_true (is_word (x ∷ xs) (c ∷ cs)) (λ is.
    let same : x ≡ c = heads x c xs cs ((bytes_eq-Decides (x ∷ xs) (c ∷ cs)).0 is) in
    absurd (omega arith))

-- no blank stands among digits
free_blank : (word : Word) → AllByRecursion IsFigure word → AllByRecursion (λ c. (c == 32) ≡ false) word
free_blank [] all = tt
free_blank (c ∷ cs) all =
    let low : 48 ≤ c = all.0.0 in
    (ne_eqb c 32 (λ same. omega arith), free_blank cs all.1)

-- digits before a blank are the first word
first_figures : (word rest : Word) → AllByRecursion IsFigure word → first_word (word ++ 32 ∷ rest) ≡ word
first_figures word rest all =
    ap first_of (slice_split_at (λ c. c == 32) word 32 rest (All-from_recursion (λ c. (c == 32) ≡ false) word (free_blank word all)) refl)

-- the first word of a request's line is its number
first_number : (bytes : Bool) (line : ReportLine) → first_word (request_line bytes line) ≡ decimal line.number
first_number bytes line =
    let number = decimal line.number in
    let kind = spaced (kind_text line.kind) in
    let name = name_text line.name in
    let result = spaced (result_text bytes line.result) in
    ap first_word (append_assoc (number ++ kind) name result ∙ append_assoc number kind (name ++ result))
    ∙ first_figures number (kind_text line.kind ++ (name ++ result)) (figures line.number)

-- the line of a request is one line, and neither a head, nor a close, nor one of the journal
pub record IsPlain (line : Word) : Type 0 where
  pub free : IsOneLine line
  pub round : is_round line ≡ false
  pub close : is_close line ≡ false
  pub journal : is_journal line ≡ false

-- it is none that begins with a letter
by_word : (x : ℕ) (xs : Word) (bytes : Bool) (line : ReportLine) → 57 < x → is_word (x ∷ xs) (first_word (request_line bytes line)) ≡ false
by_word x xs bytes line above = ap (is_word (x ∷ xs)) (first_number bytes line) ∙ no_number x xs (decimal line.number) above (figures line.number)

-- where neither is so, not one of both is
neither : (a b : Bool) → a ≡ false → b ≡ false → (a || b) ≡ false
neither a b first second = ap (λ c. c || b) first ∙ second

-- the line of a request is plain
pub plain_request : (bytes : Bool) (line : ReportLine) → HasWordName line.name → IsPlain (request_line bytes line)
plain_request bytes line one = record {
  free = free_request bytes line one;
  round = by_word 114 (codes "ound") bytes line (omega arith);
  close = neither (is_word (codes "held") (first_word (request_line bytes line))) (is_word (codes "end") (first_word (request_line bytes line)))
      (by_word 104 (codes "eld") bytes line (omega arith)) (by_word 101 (codes "nd") bytes line (omega arith));
  journal = neither (is_word (codes "take") (first_word (request_line bytes line))) (is_word (codes "order") (first_word (request_line bytes line)))
      (by_word 116 (codes "ake") bytes line (omega arith)) (by_word 111 (codes "rder") bytes line (omega arith));
}

-- so are those of all requests
pub plain_requests : (bytes : Bool) (lines : List ReportLine) → AllByRecursion (λ (l : ReportLine). HasWordName l.name) lines → AllByRecursion IsPlain (map (request_line bytes) lines)
plain_requests bytes [] named = tt
plain_requests bytes (line ∷ lines) named = (plain_request bytes line named.0, plain_requests bytes lines named.1)

-- ---- their text

-- the lines of requests make their text
pub requests_text : (bytes : Bool) (lines : List ReportLine) → text_of_lines (map (request_line bytes) lines) ≡ flat_map (line_text bytes) lines
requests_text bytes [] = refl
requests_text bytes (line ∷ lines) = ap (λ (rest : List ℕ). line_text bytes line ++ rest) (requests_text bytes lines)

-- the lines of an event make its text without the journal
lines_text : (bytes : Bool) (j : Records) (event : Event) → text_of_lines (event_lines bytes event) ≡ event_text (Report false bytes) j event
lines_text bytes j (RanRound round) =
    ap (λ (rest : List ℕ). head_text (head_of round) ++ rest) (requests_text bytes (lines_in round))
    ∙ sym (append-nil (head_text (head_of round) ++ flat_map (line_text bytes) (lines_in round)))
lines_text bytes j (HeldBatch batch) = append-nil (held_text batch)

-- so do those of all events
events_text : (bytes : Bool) (j : Records) (events : List Event) → text_of_lines (flat_map (event_lines bytes) events) ≡ flat_map (event_text (Report false bytes) j) events
events_text bytes j [] = refl
events_text bytes j (event ∷ events) =
    flat_map-append as_line (event_lines bytes event) (flat_map (event_lines bytes) events)
    ∙ ap (λ (rest : List ℕ). text_of_lines (event_lines bytes event) ++ rest) (events_text bytes j events)
    ∙ ap (λ (front : List ℕ). front ++ flat_map (event_text (Report false bytes) j) events) (lines_text bytes j event)

-- the lines of a run without its journal make its text
pub run_lines_text : (bytes : Bool) (n : RunSize) (j : Records) (events : List Event) (ending : Ending)
    → text_of_lines (pool_line n ∷ lines_behind bytes events ending) ≡ run_text (Report false bytes) n j events ending
run_lines_text bytes n j events ending =
    let pool = pool_text n.tops n.images in
    let told = flat_map (event_text (Report false bytes) j) events in
    ap (λ (rest : List ℕ). pool ++ rest)
    (flat_map-append as_line (flat_map (event_lines bytes) events) (end_line ending ∷ [])
    ∙ ap (λ (front : List ℕ). front ++ (end_text ending ++ [])) (events_text bytes j events)
    ∙ ap (λ (end : List ℕ). told ++ end) (append-nil (end_text ending)))
    ∙ sym (append_assoc pool told (end_text ending))
