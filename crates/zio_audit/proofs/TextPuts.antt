-- Texts of journals put in among the lines of a run make the run's text with its journal.
use Rattle.std.proofs.Common.{◌≡◌, ◌≤◌, ◌+◌, ◌++◌, ℕ, List, [], ◌∷◌, map, refl, sym, ap, ◌∙◌, Bool, true, arith, append_assoc}
use Rattle.std.specs.List.{AllByRecursion, flat_map}
use Rattle.std.proofs.lemmas.List.{append-nil}
use Rattle.zio_script.specs.Words.{Word}
use Rattle.zio_gang.specs.declared.ending.Ending.{Ending}
use Rattle.zio_gang.specs.Journals.{choices_in, completions_in}
use Rattle.zio_gang.specs.Runs.{Event}
use Rattle.zio_gang.specs.Runs.Event.{RanRound, HeldBatch}
use Rattle.zio_report.specs.declared.report.Show.TheVariants.{Report}
use Rattle.zio_report.specs.Lines.{as_line, head_text, journal_text, line_text}
use Rattle.zio_report.specs.Reports.{Records, RunSize, end_text, event_text, head_of, held_text, pool_text, run_text, lines_of as lines_in}
use Rattle.zio_spelled.specs.Rounds.{others_of}
use Rattle.zio_spelled.specs.Spelled.{first_of}
use Rattle.zio_audit.specs.Putting.{put_in}
use Rattle.zio_audit.specs.Texts.{text_of_lines}
use Rattle.zio_audit.proofs.PutLemmas.{put_close, put_plain, put_round}
use Rattle.zio_audit.proofs.TextLines.{AreToldFrom, IsPlain, end_line, event_lines, head_line, held_line, lines_behind, plain_requests, pool_line, request_line, requests_text}

-- ---- the texts of journals

-- the text of the journal of the round with this number
abbrev pub journal_in : Records → ℕ → List ℕ
journal_in j number = journal_text (choices_in number j.choices) (completions_in number j.completions)

-- these are the texts of the journals of rounds from this number on, and those of later rounds are empty
abbrev pub AreTexts : Records → ℕ → List (List ℕ) → Type 0
AreTexts j number [] = (other : ℕ) → number ≤ other → journal_in j other ≡ []
AreTexts j number (text ∷ texts) = (journal_in j number ≡ text) × AreTexts j (number + 1) texts

-- the first of the texts is that of this round
pub first_text : (j : Records) (number : ℕ) (texts : List (List ℕ)) → AreTexts j number texts → first_of texts ≡ journal_in j number
first_text j number [] are = sym (are number (omega arith))
first_text j number (text ∷ texts) are = sym are.0

-- the others are those of the later rounds
pub later_texts : (j : Records) (number : ℕ) (texts : List (List ℕ)) → AreTexts j number texts → AreTexts j (number + 1) (others_of texts)
later_texts j number [] are = λ other above. are other (omega arith)
later_texts j number (text ∷ texts) are = are.1

-- ---- putting them in

-- lines that are neither heads nor closes change nothing
put_lines : (later : List (List ℕ)) (held : List ℕ) (lines more : List Word) → AllByRecursion IsPlain lines → put_in later held (lines ++ more) ≡ text_of_lines lines ++ put_in later held more
put_lines later held [] more plain = refl
put_lines later held (line ∷ lines) more plain =
    put_plain later held line (lines ++ more) plain.0.round plain.0.close
    ∙ ap (λ (rest : List ℕ). as_line line ++ rest) (put_lines later held lines more plain.1)
    ∙ sym (append_assoc (as_line line) (text_of_lines lines) (put_in later held more))

-- what stands behind the first line
abbrev pub text_behind : Bool → Records → List Event → Ending → List ℕ
text_behind bytes j events ending = flat_map (event_text (Report true bytes) j) events ++ end_text ending

-- the texts of the journals put in among the lines of events make their text
put_events : (bytes : Bool) (j : Records) (number : ℕ) (later : List (List ℕ)) (held : List ℕ) (events : List Event) (ending : Ending)
    → AreToldFrom number events → AreTexts j number later → put_in later held (lines_behind bytes events ending) ≡ held ++ text_behind bytes j events ending
put_events bytes j number later held [] ending told are =
    put_close later held (end_line ending) [] refl refl ∙ ap (λ (rest : List ℕ). held ++ rest) (append-nil (end_text ending))
put_events bytes j number later held (HeldBatch batch ∷ events) ending told are =
    put_close later held (held_line batch) (lines_behind bytes events ending) refl refl
    ∙ ap (λ (rest : List ℕ). held ++ (held_text batch ++ rest)) (put_events bytes j number later [] events ending told are)
    ∙ ap (λ (rest : List ℕ). held ++ rest) (sym (append_assoc (held_text batch) (flat_map (event_text (Report true bytes) j) events) (end_text ending)))
put_events bytes j number later held (RanRound round ∷ events) ending told are =
    let head = head_text (head_of round) in
    let lines = map (request_line bytes) (lines_in round) in
    let shown = flat_map (line_text bytes) (lines_in round) in
    let journal = journal_in j round.number in
    let more = flat_map (event_text (Report true bytes) j) events in
    let rest = text_behind bytes j events ending in
    let first : first_of later ≡ journal = first_text j number later are ∙ ap (journal_in j) (sym told.0) in
    let behind : put_in (others_of later) (first_of later) (lines_behind bytes events ending) ≡ journal ++ rest =
    put_events bytes j (number + 1) (others_of later) (first_of later) events ending told.1.1 (later_texts j number later are) ∙ ap (λ (text : List ℕ). text ++ rest) first in
    let requests : put_in (others_of later) (first_of later) (lines ++ lines_behind bytes events ending) ≡ shown ++ (journal ++ rest) =
    put_lines (others_of later) (first_of later) lines (lines_behind bytes events ending) (plain_requests bytes (lines_in round) told.1.0)
    ∙ (λ i. requests_text bytes (lines_in round) i ++ behind i) in
    ap (put_in later held) (append_assoc (event_lines bytes (RanRound round)) (flat_map (event_lines bytes) events) (end_line ending ∷ []))
    ∙ put_round later held (head_line (head_of round)) (lines ++ lines_behind bytes events ending) refl
    ∙ ap (λ (text : List ℕ). held ++ (head ++ text)) requests
    ∙ ap (λ (text : List ℕ). held ++ text) (regroup head shown journal more (end_text ending))
  where
    regroup : (h s j m e : List ℕ) → h ++ (s ++ (j ++ (m ++ e))) ≡ (((h ++ s) ++ j) ++ m) ++ e
    regroup h s j m e = sym (append_assoc ((h ++ s) ++ j) m e ∙ append_assoc (h ++ s) j (m ++ e) ∙ append_assoc h s (j ++ (m ++ e)))

-- the text of a run with its journal is that of its lines without, with the texts of its journals put in
pub put_in_run : (bytes : Bool) (n : RunSize) (j : Records) (later : List (List ℕ)) (events : List Event) (ending : Ending) → AreToldFrom 1 events → AreTexts j 1 later
    → put_in later [] (pool_line n ∷ lines_behind bytes events ending) ≡ run_text (Report true bytes) n j events ending
put_in_run bytes n j later events ending told are =
    let pool = pool_text n.tops n.images in
    put_plain later [] (pool_line n) (lines_behind bytes events ending) refl refl
    ∙ ap (λ (rest : List ℕ). pool ++ rest) (put_events bytes j 1 later [] events ending told are)
    ∙ sym (append_assoc pool (flat_map (event_text (Report true bytes) j) events) (end_text ending))
