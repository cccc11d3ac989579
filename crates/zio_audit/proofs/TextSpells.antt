-- The text of a run with its journal spells, round by round, what the journal has of the round.
use Rattle.std.proofs.Common.{◌≡◌, ◌<◌, ◌+◌, ◌^◌, ◌++◌, ℕ, List, [], ◌∷◌, length, map, filter, refl, sym, ap, subst, ◌∙◌, Bool, true, false, arith, append_assoc, cond}
use Rattle.std.specs.Prelude.{codes, decimal}
use Rattle.std.specs.List.{AllByRecursion, AllZip, flat_map, list_any, onto_first, slice_split}
use Rattle.std.proofs.lemmas.Bool.{or_parts}
use Rattle.std.proofs.lemmas.List.{append-nil}
use Rattle.std.proofs.lemmas.List.Concat.{flat_map-append}
use Rattle.std.proofs.lemmas.List.Elements.{filter-append}
use Rattle.std.proofs.lemmas.List.Splits.{length-slice_split, slice_split-cons_no}
use Rattle.zio_types.specs.declared.journal.Completion.{Completion}
use Rattle.zio_types.specs.declared.place.TopSize.{TopSize}
use Rattle.zio_types.specs.Choices.{Choice, is_refused}
use Rattle.zio_script.specs.Words.{Word, lines_of}
use Rattle.zio_cksum.proofs.AllLemmas.{all_append, all_weaker}
use Rattle.zio_gang.specs.declared.ending.Ending.{Ending}
use Rattle.zio_gang.specs.Journals.{choices_in, completions_in}
use Rattle.zio_gang.specs.Runs.{Event, Round, rounds_of}
use Rattle.zio_gang.specs.Runs.Event.{RanRound, HeldBatch}
use Rattle.zio_report.specs.declared.report.Show.TheVariants.{Report}
use Rattle.zio_report.specs.Lines.{as_line, choice_text, head_text, journal_text, line_text, order_text, spaced}
use Rattle.zio_report.specs.Reports.{Records, RunSize, end_text, event_text, head_of, held_text, pool_text, run_text, lines_of as lines_in}
use Rattle.zio_spelled.specs.declared.rounds.RoundJournal.{RoundJournal}
use Rattle.zio_spelled.specs.Laws.{requests_of}
use Rattle.zio_spelled.specs.Rounds.{AreJournals, IsRoundJournal, IsSpelled, others_of, parts_by_round}
use Rattle.zio_spelled.specs.Spelled.{ChoiceFits, IsOrder, IsTake, completed, first_of, is_journal, is_order, is_round, is_take, take_text}
use Rattle.zio_spelled.proofs.PrintLemmas.{printed_round}
use Rattle.zio_audit.specs.Texts.{journal_at, journals_from, text_of_lines}
use Rattle.zio_audit.proofs.TextWords.{IsOneLine}
use Rattle.zio_audit.proofs.TextLines.{AreToldFrom, IsPlain, end_line, free_end, free_head, free_held, free_pool, head_line, held_line, plain_requests, pool_line, request_line, requests_text}
use Rattle.zio_audit.proofs.TextReads.{free_order, free_take, lines_back}

-- ---- all lines of a run

-- the line of an entry
abbrev pub choice_line : Choice → Word
choice_line c = take_text (is_refused c) c

-- the line of completions, if there are any
abbrev pub order_lines : List Completion → List Word
order_lines [] = []
order_lines (d ∷ completions) = (codes "order" ++ flat_map (λ (e : Completion). spaced (decimal e.request)) (d ∷ completions)) ∷ []

-- the lines of a round's journal
abbrev pub journal_lines : List Choice → List Completion → List Word
journal_lines choices completions = map choice_line choices ++ order_lines completions

-- the lines of a round with its journal, or of a held batch
abbrev pub shown_lines : Bool → Records → Event → List Word
shown_lines bytes j (RanRound round) =
    head_line (head_of round)
    ∷ (map (request_line bytes) (lines_in round) ++ journal_lines (choices_in round.number j.choices) (completions_in round.number j.completions))
shown_lines bytes j (HeldBatch batch) = held_line batch ∷ []

-- those behind the first, up to the last
abbrev pub shown_behind : Bool → Records → List Event → Ending → List Word
shown_behind bytes j events ending = flat_map (shown_lines bytes j) events ++ end_line ending ∷ []

-- the lines of entries make their text
choices_lines : (choices : List Choice) → text_of_lines (map choice_line choices) ≡ flat_map choice_text choices
choices_lines [] = refl
choices_lines (c ∷ choices) = ap (λ (rest : List ℕ). choice_text c ++ rest) (choices_lines choices)

-- so does that of completions
orders_text : (completions : List Completion) → text_of_lines (order_lines completions) ≡ order_text completions
orders_text [] = refl
orders_text (d ∷ completions) = append-nil (order_text (d ∷ completions))

-- so do those of a journal
journal_lines_text : (choices : List Choice) (completions : List Completion) → text_of_lines (journal_lines choices completions) ≡ journal_text choices completions
journal_lines_text choices completions =
    flat_map-append as_line (map choice_line choices) (order_lines completions) ∙ (λ i. choices_lines choices i ++ orders_text completions i)

-- so do those of an event
event_lines_text : (bytes : Bool) (j : Records) (event : Event) → text_of_lines (shown_lines bytes j event) ≡ event_text (Report true bytes) j event
event_lines_text bytes j (RanRound round) =
    let head = head_text (head_of round) in
    let requests = map (request_line bytes) (lines_in round) in
    let choices = choices_in round.number j.choices in
    let completions = completions_in round.number j.completions in
    ap (λ (rest : List ℕ). head ++ rest)
    (flat_map-append as_line requests (journal_lines choices completions) ∙ (λ i. requests_text bytes (lines_in round) i ++ journal_lines_text choices completions i))
    ∙ sym (append_assoc head (flat_map (line_text bytes) (lines_in round)) (journal_text choices completions))
event_lines_text bytes j (HeldBatch batch) = append-nil (held_text batch)

-- so do those of all events
events_lines_text : (bytes : Bool) (j : Records) (events : List Event) → text_of_lines (flat_map (shown_lines bytes j) events) ≡ flat_map (event_text (Report true bytes) j) events
events_lines_text bytes j [] = refl
events_lines_text bytes j (event ∷ events) =
    flat_map-append as_line (shown_lines bytes j event) (flat_map (shown_lines bytes j) events)
    ∙ (λ i. event_lines_text bytes j event i ++ events_lines_text bytes j events i)

-- all lines make the text
shown_text : (bytes : Bool) (n : RunSize) (j : Records) (events : List Event) (ending : Ending)
    → text_of_lines (pool_line n ∷ shown_behind bytes j events ending) ≡ run_text (Report true bytes) n j events ending
shown_text bytes n j events ending =
    let pool = pool_text n.tops n.images in
    let told = flat_map (event_text (Report true bytes) j) events in
    ap (λ (rest : List ℕ). pool ++ rest)
    (flat_map-append as_line (flat_map (shown_lines bytes j) events) (end_line ending ∷ [])
    ∙ (λ i. events_lines_text bytes j events i ++ append-nil (end_text ending) i))
    ∙ sym (append_assoc pool told (end_text ending))

-- no newline stands in the lines of entries
choices_free : (choices : List Choice) → AllByRecursion IsOneLine (map choice_line choices)
choices_free [] = tt
choices_free (c ∷ choices) = (free_take (is_refused c) c, choices_free choices)

-- nor in that of completions
orders_free : (completions : List Completion) → AllByRecursion IsOneLine (order_lines completions)
orders_free [] = tt
orders_free (d ∷ completions) = (free_order (d ∷ completions), tt)

-- nor in those of a journal
journal_free : (choices : List Choice) (completions : List Completion) → AllByRecursion IsOneLine (journal_lines choices completions)
journal_free choices completions = all_append IsOneLine (map choice_line choices) (order_lines completions) (choices_free choices) (orders_free completions)

-- nor in any behind the first
shown_free : (bytes : Bool) (j : Records) (number : ℕ) (events : List Event) (ending : Ending) → AreToldFrom number events → AllByRecursion IsOneLine (shown_behind bytes j events ending)
shown_free bytes j number [] ending told = (free_end ending, tt)
shown_free bytes j number (HeldBatch batch ∷ events) ending told = (free_held batch, shown_free bytes j number events ending told)
shown_free bytes j number (RanRound round ∷ events) ending told =
    let requests = map (request_line bytes) (lines_in round) in
    let journal = journal_lines (choices_in round.number j.choices) (completions_in round.number j.completions) in (
      free_head (head_of round),
      subst (AllByRecursion IsOneLine) (sym (append_assoc (requests ++ journal) (flat_map (shown_lines bytes j) events) (end_line ending ∷ [])))
          (all_append IsOneLine (requests ++ journal) (shown_behind bytes j events ending)
          (all_append IsOneLine requests journal (all_weaker IsPlain IsOneLine requests (λ l plain. plain.free) (plain_requests bytes (lines_in round) told.1.0))
          (journal_free (choices_in round.number j.choices) (completions_in round.number j.completions)))
          (shown_free bytes j (number + 1) events ending told.1.1)),
    )

-- ---- the lines of a round

-- lines that are none of the journal
abbrev AreOther : List Word → Type 0
AreOther lines = AllByRecursion (λ (l : Word). is_journal l ≡ false) lines

-- of lines that fail none is kept
none_kept : (p : Word → Bool) (lines : List Word) → AllByRecursion (λ (l : Word). p l ≡ false) lines → filter p lines ≡ []
none_kept p [] none = refl
none_kept p (line ∷ lines) none = ap (λ b. cond b (line ∷ filter p lines) (filter p lines)) none.0 ∙ none_kept p lines none.1

-- lines that fail around others are passed over
around_kept : (p : Word → Bool) (front lines behind : List Word) → AllByRecursion (λ (l : Word). p l ≡ false) front → AllByRecursion (λ (l : Word). p l ≡ false) behind
    → filter p ((front ++ lines) ++ behind) ≡ filter p lines
around_kept p front lines behind none others =
    filter-append p (front ++ lines) behind
    ∙ (λ i. filter-append p front lines i ++ none_kept p behind others i)
    ∙ append-nil (filter p front ++ filter p lines)
    ∙ ap (λ (kept : List Word). kept ++ filter p lines) (none_kept p front none)

-- of other lines none is that of an entry
other_takes : (lines : List Word) → AreOther lines → AllByRecursion (λ (l : Word). is_take l ≡ false) lines
other_takes lines other = all_weaker (λ (l : Word). is_journal l ≡ false) (λ (l : Word). is_take l ≡ false) lines (λ l none. (or_parts (is_take l) (is_order l) none).0) other

-- nor that of completions
other_orders : (lines : List Word) → AreOther lines → AllByRecursion (λ (l : Word). is_order l ≡ false) lines
other_orders lines other = all_weaker (λ (l : Word). is_journal l ≡ false) (λ (l : Word). is_order l ≡ false) lines (λ l none. (or_parts (is_take l) (is_order l) none).1) other

-- lines around those of a journal spell nothing
around_journal : (tops : List TopSize) (number : ℕ) (front lines behind : List Word) (j : RoundJournal) → AreOther front → AreOther behind → IsRoundJournal tops number lines j
    → IsRoundJournal tops number ((front ++ lines) ++ behind) j
around_journal tops number front lines behind j none others is = record {
  entries = subst (λ (ls : List Word). AllZip (IsTake tops number) ls j.entries) (sym (around_kept is_take front lines behind (other_takes front none) (other_takes behind others))) is.entries;
  orders = is.orders;
  order_lines = subst (λ (ls : List Word). AllZip IsOrder ls is.orders) (sym (around_kept is_order front lines behind (other_orders front none) (other_orders behind others))) is.order_lines;
  order_is = is.order_is;
}

-- of a round the entries fit their types and have the sectors of their size, and the numbers of completions fit
pub record IsGoodRound (tops : List TopSize) (j : Records) (number : ℕ) : Type 0 where
  pub fits : AllByRecursion ChoiceFits (choices_in number j.choices)
  pub sized : AllByRecursion (λ (c : Choice). c ≡ completed tops number c) (choices_in number j.choices)
  pub numbers : AllByRecursion (λ n. n < 2 ^ 32) (requests_of (completions_in number j.completions))

-- the lines of a journal spell what it has of the round
printed_lines : (tops : List TopSize) (j : Records) (number : ℕ) → IsGoodRound tops j number
    → IsRoundJournal tops number (journal_lines (choices_in number j.choices) (completions_in number j.completions)) (journal_at j number)
printed_lines tops j number good =
    let choices = choices_in number j.choices in
    let completions = completions_in number j.completions in
    subst (λ (ls : List Word). IsRoundJournal tops number ls (journal_at j number))
    (ap lines_of (sym (journal_lines_text choices completions)) ∙ lines_back (journal_lines choices completions) (journal_free choices completions))
    (printed_round tops number choices completions good.fits good.sized good.numbers)

-- ---- rounds

-- parts have a first
some_first : (parts : List (List Word)) → 0 < length parts → parts ≡ first_of parts ∷ others_of parts
some_first [] some = absurd (omega arith)
some_first (part ∷ parts) some = refl

-- a text's lines have a part before the first head
parts_there : (lines : List Word) → slice_split is_round lines ≡ first_of (slice_split is_round lines) ∷ others_of (slice_split is_round lines)
parts_there lines = some_first (slice_split is_round lines) (omega (arith, length-slice_split is_round lines))

-- lines that are no heads stand before the first head behind them
no_heads : (front lines : List Word) → AllByRecursion (λ (l : Word). is_round l ≡ false) front
    → slice_split is_round (front ++ lines) ≡ (front ++ first_of (slice_split is_round lines)) ∷ others_of (slice_split is_round lines)
no_heads [] lines none = parts_there lines
no_heads (line ∷ front) lines none = slice_split-cons_no is_round line (front ++ lines) none.0 ∙ ap (onto_first line) (no_heads front lines none.1)

-- the line of an entry is no head
choices_no_heads : (choices : List Choice) → AllByRecursion (λ (l : Word). is_round l ≡ false) (map choice_line choices)
choices_no_heads [] = tt
choices_no_heads (c ∷ choices) = (refl, choices_no_heads choices)

-- nor is that of completions
orders_no_heads : (completions : List Completion) → AllByRecursion (λ (l : Word). is_round l ≡ false) (order_lines completions)
orders_no_heads [] = tt
orders_no_heads (d ∷ completions) = (refl, tt)

-- the lines before the first round are none of the journal, and those of the rounds spell so many journals from this number on
record IsParted (tops : List TopSize) (j : Records) (number : ℕ) (lines : List Word) (rounds : ℕ) : Type 0 where
  none : AreOther (first_of (slice_split is_round lines))
  spells : AreJournals tops number (others_of (slice_split is_round lines)) (journals_from j number rounds)

-- the lines of a run are so
parted : (tops : List TopSize) (bytes : Bool) (j : Records) (number : ℕ) (events : List Event) (ending : Ending) → AreToldFrom number events
    → AllByRecursion (λ (round : Round). IsGoodRound tops j round.number) (rounds_of events) → IsParted tops j number (shown_behind bytes j events ending) (length (rounds_of events))
parted tops bytes j number [] ending told good = record { none = (refl, tt); spells = tt }
parted tops bytes j number (HeldBatch batch ∷ events) ending told good =
    let rest = shown_behind bytes j events ending in
    let later = parted tops bytes j number events ending told good in
    let parts = no_heads (held_line batch ∷ []) rest (refl, tt) in
    record {
      none = subst (λ (ps : List (List Word)). AreOther (first_of ps)) (sym parts) (refl, later.none);
      spells = subst (λ (ps : List (List Word)). AreJournals tops number (others_of ps) (journals_from j number (length (rounds_of events)))) (sym parts) later.spells;
    }
parted tops bytes j number (RanRound round ∷ events) ending told good =
    let requests = map (request_line bytes) (lines_in round) in
    let journal = journal_lines (choices_in round.number j.choices) (completions_in round.number j.completions) in
    let rest = shown_behind bytes j events ending in
    let later = parted tops bytes j (number + 1) events ending told.1.1 good.1 in
    let plain = plain_requests bytes (lines_in round) told.1.0 in
    let heads : AllByRecursion (λ (l : Word). is_round l ≡ false) (requests ++ journal) =
    all_append (λ (l : Word). is_round l ≡ false) requests journal (all_weaker IsPlain (λ (l : Word). is_round l ≡ false) requests (λ l p. p.round) plain)
    (all_append (λ (l : Word). is_round l ≡ false) (map choice_line (choices_in round.number j.choices)) (order_lines (completions_in round.number j.completions))
    (choices_no_heads (choices_in round.number j.choices)) (orders_no_heads (completions_in round.number j.completions))) in
    let before = first_of (slice_split is_round rest) in
    let here : IsRoundJournal tops round.number ((requests ++ journal) ++ before) (journal_at j round.number) =
    around_journal tops round.number requests journal before (journal_at j round.number)
    (all_weaker IsPlain (λ (l : Word). is_journal l ≡ false) requests (λ l p. p.journal) plain) later.none (printed_lines tops j round.number good.0) in
    let numbered : IsRoundJournal tops number ((requests ++ journal) ++ before) (journal_at j number) =
    subst (λ (n : ℕ). IsRoundJournal tops n ((requests ++ journal) ++ before) (journal_at j n)) told.0 here in
    let parts : slice_split is_round (shown_behind bytes j (RanRound round ∷ events) ending) ≡ [] ∷ (((requests ++ journal) ++ before) ∷ others_of (slice_split is_round rest)) =
    ap (slice_split is_round) (append_assoc (shown_lines bytes j (RanRound round)) (flat_map (shown_lines bytes j) events) (end_line ending ∷ []))
    ∙ ap (λ (ps : List (List Word)). [] ∷ ps) (no_heads (requests ++ journal) rest heads) in
    record {
      none = subst (λ (ps : List (List Word)). AreOther (first_of ps)) (sym parts) tt;
      spells = subst (λ (ps : List (List Word)). AreJournals tops number (others_of ps) (journals_from j number (length (rounds_of (RanRound round ∷ events))))) (sym parts) (numbered, later.spells);
    }

-- of other lines none is of the journal
none_any : (lines : List Word) → AreOther lines → list_any is_journal lines ≡ false
none_any [] other = refl
none_any (line ∷ lines) other = rw other.0 (none_any lines other.1)

-- the text of a run with its journal spells what the journal has of each round
pub run_spells : (tops : List TopSize) (bytes : Bool) (n : RunSize) (j : Records) (events : List Event) (ending : Ending) → AreToldFrom 1 events
    → AllByRecursion (λ (round : Round). IsGoodRound tops j round.number) (rounds_of events)
    → IsSpelled tops (run_text (Report true bytes) n j events ending) (journals_from j 1 (length (rounds_of events)))
run_spells tops bytes n j events ending told good =
    let rest = shown_behind bytes j events ending in
    let lines : lines_of (run_text (Report true bytes) n j events ending) ≡ pool_line n ∷ rest =
    ap lines_of (sym (shown_text bytes n j events ending)) ∙ lines_back (pool_line n ∷ rest) (free_pool n, shown_free bytes j 1 events ending told) in
    let parts : parts_by_round (run_text (Report true bytes) n j events ending) ≡ (pool_line n ∷ first_of (slice_split is_round rest)) ∷ others_of (slice_split is_round rest) =
    ap (slice_split is_round) lines ∙ no_heads (pool_line n ∷ []) rest (refl, tt) in
    let is = parted tops bytes j 1 events ending told good in
    record {
      before = ap (λ (ps : List (List Word)). list_any is_journal (first_of ps)) parts ∙ none_any (pool_line n ∷ first_of (slice_split is_round rest)) (refl, is.none);
      rounds = subst (λ (ps : List (List Word)). AreJournals tops 1 (others_of ps) (journals_from j 1 (length (rounds_of events)))) (sym parts) is.spells;
    }
