-- What the lines of a run's text are, and that a report is this text exactly where its journals are put in among such lines.
use Rattle.std.proofs.Common.{◌≡◌, ◌+◌, ◌==◌, ◌++◌, ℕ, List, [], ◌∷◌, map, refl, sym, ap, subst, ◌∙◌, Bool, true, false, cond, append_assoc}
use Rattle.std.specs.Prelude.{◌↔◌, codes, decimal, not}
use Rattle.std.specs.List.{AllByRecursion, flat_map, onto_first, slice_split}
use Rattle.std.proofs.lemmas.List.{append-nil}
use Rattle.zio_types.specs.declared.journal.Completion.{Completion}
use Rattle.zio_types.specs.declared.journal.Role.{Role}
use Rattle.zio_types.specs.declared.journal.Role.TheVariants.{Body, Head}
use Rattle.zio_types.specs.declared.place.Place.{Place}
use Rattle.zio_types.specs.Choices.{Choice, is_refused}
use Rattle.zio_script.specs.Words.{Word, lines_of, without_empty_end}
use Rattle.zio_cksum.proofs.AllLemmas.{all_append, all_filter, all_weaker}
use Rattle.zio_gang.specs.declared.ending.Ending.{Ending}
use Rattle.zio_gang.specs.Runs.{Event}
use Rattle.zio_gang.specs.Runs.Event.{RanRound, HeldBatch}
use Rattle.zio_report.specs.declared.report.ReportLine.{ReportLine}
use Rattle.zio_report.specs.declared.report.Show.TheVariants.{Report}
use Rattle.zio_report.specs.Lines.{as_line, choice_text, head_text, joined_steps, journal_text, line_text, order_text, path_text, place_text, role_text, spaced, when}
use Rattle.zio_report.specs.Reports.{Records, RunSize, end_text, event_text, head_of, held_text, pool_text, run_text, lines_of as lines_in}
use Rattle.zio_spelled.specs.Spelled.{is_journal, take_text}
use Rattle.zio_spelled.proofs.PartLemmas.{line_then}
use Rattle.zio_audit.specs.Putting.{plain_lines, put_in}
use Rattle.zio_audit.specs.Texts.{plain_text, text_of_lines}
use Rattle.zio_audit.proofs.PutLemmas.{journal_line, line_more, plain_line}
use Rattle.zio_audit.proofs.TextWords.{HasWordName, IsOneLine, free_both, free_codes, free_decimal, free_when}
use Rattle.zio_audit.proofs.TextLines.{AreToldFrom, IsPlain, end_line, event_lines, free_end, free_head, free_held, free_pool, head_line, held_line, lines_behind, plain_request, plain_requests, pool_line, request_line, run_lines_text}
use Rattle.zio_audit.proofs.TextPuts.{AreTexts, journal_in, put_in_run, text_behind}

-- ---- the lines of a journal

-- no newline stands in a text with a word behind it
free_word : (front word : List ℕ) → IsOneLine front → IsOneLine word → IsOneLine (front ++ spaced word)
free_word front word free other = free_both front (spaced word) free (refl, other)

-- nor in the steps of a path
free_steps : (step : ℕ) (steps : List ℕ) → IsOneLine (joined_steps (step ∷ steps))
free_steps step [] = free_decimal step
free_steps step (next ∷ steps) =
    free_both (decimal step ++ codes ".") (joined_steps (next ∷ steps)) (free_both (decimal step) (codes ".") (free_decimal step) (free_codes (codes ".") refl)) (free_steps next steps)

-- nor in a path
free_path : (path : List ℕ) → IsOneLine (path_text path)
free_path [] = free_codes (codes "-") refl
free_path (step ∷ steps) = free_steps step steps

-- nor in a role
free_role : (role : Role) → IsOneLine (role_text role)
free_role Body = free_codes (codes "body") refl
free_role Head = free_codes (codes "head") refl

-- nor in places
free_places : (places : List Place) → IsOneLine (flat_map place_text places)
free_places [] = tt
free_places (p ∷ places) =
    free_both (place_text p) (flat_map place_text places)
    (refl, free_both (decimal p.top ++ codes ":") (decimal p.sector) (free_both (decimal p.top) (codes ":") (free_decimal p.top) (free_codes (codes ":") refl)) (free_decimal p.sector))
    (free_places places)

-- the line of an entry is one line
pub free_take : (marked : Bool) (c : Choice) → IsOneLine (take_text marked c)
free_take marked c =
    let n = codes "take " ++ decimal c.asked.key.request in
    let a = n ++ spaced (decimal c.asked.key.attempt) in
    let p = a ++ spaced (path_text c.asked.key.path) in
    let r = p ++ spaced (role_text c.asked.key.role) in
    let s = r ++ spaced (decimal c.asked.size) in
    let k = s ++ spaced (decimal c.asked.copies) in
    let free_n : IsOneLine n = free_both (codes "take ") (decimal c.asked.key.request) (free_codes (codes "take ") refl) (free_decimal c.asked.key.request) in
    let free_a : IsOneLine a = free_word n (decimal c.asked.key.attempt) free_n (free_decimal c.asked.key.attempt) in
    let free_p : IsOneLine p = free_word a (path_text c.asked.key.path) free_a (free_path c.asked.key.path) in
    let free_r : IsOneLine r = free_word p (role_text c.asked.key.role) free_p (free_role c.asked.key.role) in
    let free_s : IsOneLine s = free_word r (decimal c.asked.size) free_r (free_decimal c.asked.size) in
    let free_k : IsOneLine k = free_word s (decimal c.asked.copies) free_s (free_decimal c.asked.copies) in
    free_both (k ++ flat_map place_text c.places) (when marked (codes " refused"))
    (free_both k (flat_map place_text c.places) free_k (free_places c.places))
    (free_when marked (codes " refused") (free_codes (codes " refused") refl))

-- nor in the numbers of completions
free_numbers : (completions : List Completion) → IsOneLine (flat_map (λ (d : Completion). spaced (decimal d.request)) completions)
free_numbers [] = tt
free_numbers (d ∷ completions) =
    free_both (spaced (decimal d.request)) (flat_map (λ (e : Completion). spaced (decimal e.request)) completions) (refl, free_decimal d.request) (free_numbers completions)

-- so is that of completions
pub free_order : (completions : List Completion) → IsOneLine (codes "order" ++ flat_map (λ (d : Completion). spaced (decimal d.request)) completions)
free_order completions =
    free_both (codes "order") (flat_map (λ (d : Completion). spaced (decimal d.request)) completions) (free_codes (codes "order") refl) (free_numbers completions)

-- ---- the plain lines of a text

-- a line is the first of a text that begins with it
lines_at : (line more : List ℕ) → IsOneLine line → lines_of (as_line line ++ more) ≡ line ∷ lines_of more
lines_at line more free = ap lines_of (line_more line more) ∙ line_then line more free

-- a line of the journal is passed over
pub passed_over : (line more : List ℕ) → IsOneLine line → is_journal line ≡ true → plain_lines (as_line line ++ more) ≡ plain_lines more
passed_over line more free journal = journal_line line (as_line line ++ more) more (lines_at line more free) journal

-- another line is kept
pub kept_line : (line more : List ℕ) → IsOneLine line → is_journal line ≡ false → plain_lines (as_line line ++ more) ≡ line ∷ plain_lines more
kept_line line more free other = plain_line line (as_line line ++ more) more (lines_at line more free) other

-- the lines of entries are passed over
choices_passed : (choices : List Choice) (more : List ℕ) → plain_lines (flat_map choice_text choices ++ more) ≡ plain_lines more
choices_passed [] more = refl
choices_passed (c ∷ choices) more =
    ap plain_lines (append_assoc (choice_text c) (flat_map choice_text choices) more)
    ∙ passed_over (take_text (is_refused c) c) (flat_map choice_text choices ++ more) (free_take (is_refused c) c) refl
    ∙ choices_passed choices more

-- so is that of completions
order_passed : (completions : List Completion) (more : List ℕ) → plain_lines (order_text completions ++ more) ≡ plain_lines more
order_passed [] more = refl
order_passed (d ∷ completions) more =
    passed_over (codes "order" ++ flat_map (λ (e : Completion). spaced (decimal e.request)) (d ∷ completions)) more (free_order (d ∷ completions)) refl

-- the lines of a journal are passed over
pub journal_passed : (choices : List Choice) (completions : List Completion) (more : List ℕ) → plain_lines (journal_text choices completions ++ more) ≡ plain_lines more
journal_passed choices completions more =
    ap plain_lines (append_assoc (flat_map choice_text choices) (order_text completions) more)
    ∙ choices_passed choices (order_text completions ++ more) ∙ order_passed completions more

-- the lines of requests are kept
requests_kept : (bytes : Bool) (lines : List ReportLine) (more : List ℕ) → AllByRecursion (λ (l : ReportLine). HasWordName l.name) lines
    → plain_lines (flat_map (line_text bytes) lines ++ more) ≡ map (request_line bytes) lines ++ plain_lines more
requests_kept bytes [] more named = refl
requests_kept bytes (line ∷ lines) more named =
    let plain = plain_request bytes line named.0 in
    ap plain_lines (append_assoc (line_text bytes line) (flat_map (line_text bytes) lines) more)
    ∙ kept_line (request_line bytes line) (flat_map (line_text bytes) lines ++ more) plain.free plain.journal
    ∙ ap (λ (rest : List Word). request_line bytes line ∷ rest) (requests_kept bytes lines more named.1)

-- those of events are kept without the journals
events_kept : (bytes : Bool) (j : Records) (number : ℕ) (events : List Event) (ending : Ending) → AreToldFrom number events
    → plain_lines (text_behind bytes j events ending) ≡ lines_behind bytes events ending
events_kept bytes j number [] ending told =
    ap plain_lines (sym (append-nil (end_text ending))) ∙ kept_line (end_line ending) [] (free_end ending) refl
events_kept bytes j number (HeldBatch batch ∷ events) ending told =
    ap plain_lines (append_assoc (held_text batch) (flat_map (event_text (Report true bytes) j) events) (end_text ending))
    ∙ kept_line (held_line batch) (text_behind bytes j events ending) (free_held batch) refl
    ∙ ap (λ (rest : List Word). held_line batch ∷ rest) (events_kept bytes j number events ending told)
events_kept bytes j number (RanRound round ∷ events) ending told =
    let head = head_text (head_of round) in
    let shown = flat_map (line_text bytes) (lines_in round) in
    let journal = journal_in j round.number in
    let more = flat_map (event_text (Report true bytes) j) events in
    let rest = text_behind bytes j events ending in
    ap plain_lines (regroup head shown journal more (end_text ending))
    ∙ kept_line (head_line (head_of round)) (shown ++ (journal ++ rest)) (free_head (head_of round)) refl
    ∙ ap (λ (lines : List Word). head_line (head_of round) ∷ lines)
    (requests_kept bytes (lines_in round) (journal ++ rest) told.1.0
    ∙ ap (λ (lines : List Word). map (request_line bytes) (lines_in round) ++ lines)
    (journal_passed _ _ rest ∙ events_kept bytes j (number + 1) events ending told.1.1)
    ∙ sym (append_assoc (map (request_line bytes) (lines_in round)) (flat_map (event_lines bytes) events) (end_line ending ∷ [])))
  where
    regroup : (h s j m e : List ℕ) → (((h ++ s) ++ j) ++ m) ++ e ≡ h ++ (s ++ (j ++ (m ++ e)))
    regroup h s j m e = append_assoc ((h ++ s) ++ j) m e ∙ append_assoc (h ++ s) j (m ++ e) ∙ append_assoc h s (j ++ (m ++ e))

-- the plain lines of a run's text with its journal are those that a run prints without
pub run_kept : (bytes : Bool) (n : RunSize) (j : Records) (events : List Event) (ending : Ending) → AreToldFrom 1 events
    → plain_lines (run_text (Report true bytes) n j events ending) ≡ pool_line n ∷ lines_behind bytes events ending
run_kept bytes n j events ending told =
    let pool = pool_text n.tops n.images in
    ap plain_lines (append_assoc pool (flat_map (event_text (Report true bytes) j) events) (end_text ending))
    ∙ kept_line (pool_line n) (text_behind bytes j events ending) (free_pool n) refl
    ∙ ap (λ (rest : List Word). pool_line n ∷ rest) (events_kept bytes j 1 events ending told)

-- ---- lines and their text

-- a byte that is no newline, in front of the first line
onto_free : (c : ℕ) (parts : List Word) → (c == 10) ≡ false → AllByRecursion IsOneLine parts → AllByRecursion IsOneLine (onto_first c parts)
onto_free c [] other free = ((other, tt), tt)
onto_free c (part ∷ parts) other free = ((other, free.0), free.1)

-- a byte, in front of lines
cut_free : (cut : Bool) (c : ℕ) (parts : List Word) → (c == 10) ≡ cut → AllByRecursion IsOneLine parts → AllByRecursion IsOneLine (cond cut ([] ∷ parts) (onto_first c parts))
cut_free true c parts is free = (tt, free)
cut_free false c parts is free = onto_free c parts is free

-- no newline stands between newlines
parts_free : (text : List ℕ) → AllByRecursion IsOneLine (slice_split (λ c. c == 10) text)
parts_free [] = (tt, tt)
parts_free (c ∷ cs) = cut_free (c == 10) c (slice_split (λ d. d == 10) cs) refl (parts_free cs)

-- nor without the end
end_left : (lines : List Word) → AllByRecursion IsOneLine lines → AllByRecursion IsOneLine (without_empty_end lines)
end_left [] free = tt
end_left ([] ∷ []) free = tt
end_left ([] ∷ next ∷ lines) free = (tt, end_left (next ∷ lines) free.1)
end_left ((c ∷ cs) ∷ lines) free = (free.0, end_left lines free.1)

-- no newline stands in a line of a text
pub lines_free : (text : List ℕ) → AllByRecursion IsOneLine (lines_of text)
lines_free text = end_left (slice_split (λ c. c == 10) text) (parts_free text)

-- nor in a line without the journal
plain_free : (report : List ℕ) → AllByRecursion IsOneLine (plain_lines report)
plain_free report =
    all_filter IsOneLine (λ (l : Word). not (is_journal l)) (lines_of report)
    (all_weaker IsOneLine (λ (l : Word). not (is_journal l) ≡ true → IsOneLine l) (lines_of report) (λ l free is. free) (lines_free report))

-- the lines of the text of lines are these
pub lines_back : (lines : List Word) → AllByRecursion IsOneLine lines → lines_of (text_of_lines lines) ≡ lines
lines_back [] free = refl
lines_back (line ∷ lines) free = lines_at line (text_of_lines lines) free.0 ∙ ap (λ (rest : List Word). line ∷ rest) (lines_back lines free.1)

-- the lines of events are lines
events_free : (bytes : Bool) (number : ℕ) (events : List Event) (ending : Ending) → AreToldFrom number events → AllByRecursion IsOneLine (lines_behind bytes events ending)
events_free bytes number [] ending told = (free_end ending, tt)
events_free bytes number (HeldBatch batch ∷ events) ending told = (free_held batch, events_free bytes number events ending told)
events_free bytes number (RanRound round ∷ events) ending told =
    let requests = map (request_line bytes) (lines_in round) in (
      free_head (head_of round),
      subst (AllByRecursion IsOneLine) (sym (append_assoc requests (flat_map (event_lines bytes) events) (end_line ending ∷ [])))
          (all_append IsOneLine requests (lines_behind bytes events ending)
          (all_weaker IsPlain IsOneLine requests (λ l plain. plain.free) (plain_requests bytes (lines_in round) told.1.0))
          (events_free bytes (number + 1) events ending told.1.1)),
    )

-- ---- the law

-- a report is the text of a run with its journal exactly where its plain lines are those of the run, and the texts of the
-- journals are put in among them
pub put_in_is_text : (bytes : Bool) (n : RunSize) (j : Records) (later : List (List ℕ)) (events : List Event) (ending : Ending) (report : List ℕ)
    → AreToldFrom 1 events → AreTexts j 1 later
    → ((report ≡ put_in later [] (plain_lines report)) × (plain_text report ≡ run_text (Report false bytes) n j events ending))
    ↔ (report ≡ run_text (Report true bytes) n j events ending)
put_in_is_text bytes n j later events ending report told are =
    let lines = pool_line n ∷ lines_behind bytes events ending in
    let put : put_in later [] lines ≡ run_text (Report true bytes) n j events ending = put_in_run bytes n j later events ending told are in
    let text : text_of_lines lines ≡ run_text (Report false bytes) n j events ending = run_lines_text bytes n j events ending in
    let free : AllByRecursion IsOneLine lines = (free_pool n, events_free bytes 1 events ending told) in (
      (λ h.
          let same : plain_lines report ≡ lines = sym (lines_back (plain_lines report) (plain_free report)) ∙ ap lines_of (h.1 ∙ sym text) ∙ lines_back lines free in
          h.0 ∙ ap (put_in later []) same ∙ put),
      (λ h.
          let same : plain_lines report ≡ lines = ap plain_lines h ∙ run_kept bytes n j events ending told in
          (h ∙ sym put ∙ ap (put_in later []) (sym same), ap text_of_lines same ∙ text)),
    )
