-- What is read back of a run's text is the run's journal, round by round.
use Rattle.std.proofs.Common.{◌≡◌, ◌<◌, ◌≤◌, ◌+◌, ◌%◌, ◌==◌, ◌^◌, ◌++◌, ℕ, zero, suc, List, [], ◌∷◌, length, map, filter, refl, sym, ap, subst, ◌∙◌, true, cond, arith, ⊎_elim, ◌⊎◌, inl, inr, eqb-true, ne_eqb, Option, Some, None, Contains}
use Rattle.std.specs.Prelude.{IsTrue, slice_get}
use Rattle.std.specs.List.{AllByRecursion, list_any}
use Rattle.std.proofs.lemmas.Bool.{and_parts, cases_order, or_cases, true≢false}
use Rattle.zio_types.specs.declared.journal.Completion.{Completion}
use Rattle.zio_types.specs.declared.journal.Journal.{Journal}
use Rattle.zio_types.specs.declared.place.Place.{Place}
use Rattle.zio_types.specs.declared.place.TopSize.{TopSize}
use Rattle.zio_types.specs.Choices.{Choice, taken_by}
use Rattle.zio_types.specs.Places.{AreCopies, fits_on, sectors_on}
use Rattle.zio_script.specs.declared.script.Request.{Request}
use Rattle.zio_cksum.proofs.AllLemmas.{all_contained, all_filter, all_map, all_weaker}
use Rattle.zio_gang.specs.Journals.{AreChoicesOf, AreCompletions, AreLawful, choices_in, completions_in, is_round_of}
use Rattle.zio_gang.specs.Runs.{Event, Round, rounds_of}
use Rattle.zio_gang.specs.Runs.Event.{RanRound, HeldBatch}
use Rattle.zio_report.specs.Meanings.{records_of}
use Rattle.zio_report.specs.Reports.{Records}
use Rattle.zio_spelled.specs.Laws.{requests_of}
use Rattle.zio_spelled.specs.Spelled.{ChoiceFits, completed, sectors_there, sized_place}
use Rattle.zio_audit.specs.Completions.{completion_spelled, completions_from}
use Rattle.zio_audit.specs.Texts.{FitsTypes, journal_at, journals_from}
use Rattle.zio_audit.specs.Verdicts.{entries_of, orders_of}
use Rattle.zio_audit.proofs.CompletionLemmas.{spelled_is}
use Rattle.zio_audit.proofs.Members.{contains_kept}
use Rattle.zio_audit.proofs.TextLines.{AreToldFrom}
use Rattle.zio_audit.proofs.TextRounds.{AreInRounds, later_completions, later_entries, no_earlier, no_earlier_completion, own_completions, own_entries}
use Rattle.zio_audit.proofs.TextSpells.{IsGoodRound}

-- ---- entries that are lawful have the sectors of their size

-- a place that fits has the sectors of its size
sized_by : (o : Option TopSize) (size : ℕ) (p : Place) → IsTrue (fits_on size p o) → p.sectors ≡ sectors_there o size
sized_by None size p fits = absurd (true≢false (sym fits))
sized_by (Some top) size p fits = eqb-true p.sectors (sectors_on top size) (and_parts (p.sector % top.unit == 0) (p.sectors == sectors_on top size) fits).1

-- so have the places of all copies
copies_sized : (tops : List TopSize) (used : List Place) (size : ℕ) (earlier places : List Place) → AreCopies tops used size earlier places → places ≡ map (sized_place tops size) places
copies_sized tops used size earlier [] are = refl
copies_sized tops used size earlier (p ∷ places) are =
    let here : p ≡ sized_place tops size p = ap (λ (n : ℕ). record p { sectors = n }) (sized_by (slice_get tops p.top) size p are.0.fits) in
    λ i. here i ∷ copies_sized tops used size (earlier ++ p ∷ []) places are.1 i

-- an entry of the round
one_sized : (tops : List TopSize) (number : ℕ) (c : Choice) → c.asked.key.round ≡ number → c.places ≡ map (sized_place tops c.asked.size) c.places → c ≡ completed tops number c
one_sized tops number c round places = λ i. record { asked = record c.asked { key = record c.asked.key { round = round i } }; places = places i }

-- so have those of lawful entries
lawful_sized : (tops : List TopSize) (number : ℕ) (used : List Place) (choices : List Choice) → AllByRecursion (λ (c : Choice). c.asked.key.round ≡ number) choices → AreLawful tops used choices
    → AllByRecursion (λ (c : Choice). c ≡ completed tops number c) choices
lawful_sized tops number used [] rounds lawful = tt
lawful_sized tops number used (c ∷ choices) rounds lawful = (
  one_sized tops number c rounds.0 (copies_sized tops used c.asked.size [] c.places lawful.0.copies),
  lawful_sized tops number (taken_by c ++ used) choices rounds.1 lawful.1,
)

-- the choices of a round are of this round
pub choices_round : (number : ℕ) (entries : List Choice) → AllByRecursion (λ (c : Choice). c.asked.key.round ≡ number) (choices_in number entries)
choices_round number entries =
    all_filter (λ (c : Choice). c.asked.key.round ≡ number) (λ (c : Choice). c.asked.key.round == number) entries (go entries)
  where
    go : (cs : List Choice) → AllByRecursion (λ (c : Choice). (c.asked.key.round == number) ≡ true → c.asked.key.round ≡ number) cs
    go [] = tt
    go (c ∷ cs) = ((λ is. eqb-true c.asked.key.round number is), go cs)

-- a round with lawful entries whose numbers fit is good
good_round : (tops : List TopSize) (j : Journal) (round : Round) → FitsTypes j → AreChoicesOf tops round.used round.asks (choices_in round.number j.places) → IsGoodRound tops (records_of j) round.number
good_round tops j round fits are = record {
  fits = all_filter ChoiceFits (λ (c : Choice). c.asked.key.round == round.number) j.places
      (all_weaker ChoiceFits (λ (c : Choice). (c.asked.key.round == round.number) ≡ true → ChoiceFits c) j.places (λ c h is. h) fits.entries);
  sized = lawful_sized tops round.number round.used (choices_in round.number j.places) (choices_round round.number j.places) are.lawful;
  numbers = all_map (λ n. n < 2 ^ 32) (λ (d : Completion). d.request) (completions_in round.number j.completions)
      (all_filter (λ (d : Completion). d.request < 2 ^ 32) (λ (d : Completion). d.round == round.number) j.completions
      (all_weaker (λ (d : Completion). d.request < 2 ^ 32) (λ (d : Completion). (d.round == round.number) ≡ true → d.request < 2 ^ 32) j.completions (λ d h is. h) fits.completions));
}

-- where entries are lawful and numbers fit, each round is good
pub good_rounds : (tops : List TopSize) (j : Journal) (rounds : List Round) → FitsTypes j
    → AllByRecursion (λ (round : Round). AreChoicesOf tops round.used round.asks (choices_in round.number j.places)) rounds
    → AllByRecursion (λ (round : Round). IsGoodRound tops (records_of j) round.number) rounds
good_rounds tops j rounds fits each =
    all_weaker (λ (round : Round). AreChoicesOf tops round.used round.asks (choices_in round.number j.places)) (λ (round : Round). IsGoodRound tops (records_of j) round.number) rounds
    (λ round are. good_round tops j round fits are) each

-- ---- the rounds of what is read back

-- the number is that of one of so many rounds from the first on
pub record IsWithin (first rounds number : ℕ) : Type 0 where
  pub low : first ≤ number
  pub high : number < first + rounds

-- it is, or it isn't
pub within_cases : (first rounds number : ℕ) → IsWithin first rounds number ⊎ ((number < first) ⊎ (first + rounds ≤ number))
within_cases first rounds number =
    ⊎_elim
    (λ (low : number < first). inr (inl low))
    (λ (above : first ≤ number).
    ⊎_elim (λ (high : number < first + rounds). inl (record { low = above; high = high })) (λ (past : first + rounds ≤ number). inr (inr past)) (cases_of number (first + rounds)))
    (cases_of number first)
  where
    cases_of : (a b : ℕ) → (a < b) ⊎ (b ≤ a)
    cases_of a b =
        ⊎_elim (λ (same : a ≡ b). inr (omega arith)) (λ apart. ⊎_elim (λ (less : a < b). inl less) (λ (more : b < a). inr (omega arith)) apart) (cases_order a b)

-- rounds that are told have the numbers from the first on
told_within : (first number : ℕ) (events : List Event) → AreToldFrom first events → list_any (is_round_of number) (rounds_of events) ≡ true → IsWithin first (length (rounds_of events)) number
told_within first number [] told is = absurd (true≢false (sym is))
told_within first number (HeldBatch batch ∷ events) told is = told_within first number events told is
told_within first number (RanRound round ∷ events) told is =
    ⊎_elim
    (λ (here : (round.number == number) ≡ true).
    let same : round.number ≡ number = eqb-true round.number number here in
    let numbered : round.number ≡ first = told.0 in
    record { low = omega arith; high = omega arith })
    (λ (there : list_any (is_round_of number) (rounds_of events) ≡ true).
    let later = told_within (first + 1) number events told.1.1 there in
    let low : first + 1 ≤ number = later.low in
    let high : number < (first + 1) + length (rounds_of events) = later.high in
    record { low = omega arith; high = omega arith })
    (or_cases (round.number == number) (list_any (is_round_of number) (rounds_of events)) is)

-- what belongs to a round that is told has one of their numbers
pub all_within : (events : List Event) {X : Type 0} (round_of : X → ℕ) (xs : List X) → AreToldFrom 1 events
    → AllByRecursion (λ x. IsTrue (list_any (is_round_of (round_of x)) (rounds_of events))) xs → AllByRecursion (λ x. IsWithin 1 (length (rounds_of events)) (round_of x)) xs
all_within events round_of [] told all = tt
all_within events round_of (x ∷ xs) told all = (told_within 1 (round_of x) events told all.0, all_within events round_of xs told all.1)

-- none is of another round
none_outside : (rounds number : ℕ) {X : Type 0} (round_of : X → ℕ) (xs : List X) → (IsWithin 1 rounds number → ⊥) → AllByRecursion (λ x. IsWithin 1 rounds (round_of x)) xs
    → filter (λ x. round_of x == number) xs ≡ []
none_outside rounds number round_of [] outside all = refl
none_outside rounds number round_of (x ∷ xs) outside all =
    ap (λ b. cond b (x ∷ filter (λ y. round_of y == number) xs) (filter (λ y. round_of y == number) xs))
    (ne_eqb (round_of x) number (λ same. outside (subst (IsWithin 1 rounds) same all.0)))
    ∙ none_outside rounds number round_of xs outside all.1

-- so many journals as rounds
pub count_from : (j : Records) (number rounds : ℕ) → length (journals_from j number rounds) ≡ rounds
count_from j number zero = refl
count_from j number (suc rounds) = let more : length (journals_from j (number + 1) rounds) ≡ rounds = count_from j (number + 1) rounds in omega arith

-- what a journal has of a round is of this round
pub from_in_rounds : (j : Records) (first rounds : ℕ) → AreInRounds first (journals_from j first rounds)
from_in_rounds j first zero = tt
from_in_rounds j first (suc rounds) = (choices_round first j.choices, from_in_rounds j (first + 1) rounds)

-- no entry is of a later round
no_later : (j : Records) (first rounds number : ℕ) → first + rounds ≤ number → choices_in number (entries_of (journals_from j first rounds)) ≡ []
no_later j first zero number past = refl
no_later j first (suc rounds) number past =
    later_entries first number (journal_at j first) (journals_from j (first + 1) rounds) (omega arith) (from_in_rounds j first (suc rounds)) ∙ no_later j (first + 1) rounds number (omega arith)

-- of one of the rounds they are those of the journal
entries_within : (j : Records) (first rounds number : ℕ) → IsWithin first rounds number → choices_in number (entries_of (journals_from j first rounds)) ≡ choices_in number j.choices
entries_within j first zero number within =
    let low : first ≤ number = within.low in
    let high : number < first + zero = within.high in
    absurd (omega arith)
entries_within j first (suc rounds) number within =
    let low : first ≤ number = within.low in
    let high : number < first + suc rounds = within.high in
    ⊎_elim
    (λ (same : first ≡ number).
    subst (λ n. choices_in n (entries_of (journals_from j first (suc rounds))) ≡ choices_in n j.choices) same
    (own_entries first (journal_at j first) (journals_from j (first + 1) rounds) (from_in_rounds j first (suc rounds))))
    (λ apart.
    ⊎_elim
    (λ (below : first < number).
    later_entries first number (journal_at j first) (journals_from j (first + 1) rounds) below (from_in_rounds j first (suc rounds))
    ∙ entries_within j (first + 1) rounds number (record { low = omega arith; high = omega arith }))
    (λ (above : number < first). absurd (omega arith)) apart)
    (cases_order first number)

-- the entries that are read back are those of the journal in each round
pub entries_back : (j : Journal) (rounds : ℕ) → AllByRecursion (λ (c : Choice). IsWithin 1 rounds c.asked.key.round) j.places → (number : ℕ)
    → choices_in number (entries_of (journals_from (records_of j) 1 rounds)) ≡ choices_in number j.places
entries_back j rounds all number =
    ⊎_elim
    (λ (within : IsWithin 1 rounds number). entries_within (records_of j) 1 rounds number within)
    (λ outside.
    ⊎_elim
    (λ (low : number < 1).
    no_earlier number 1 (journals_from (records_of j) 1 rounds) low (from_in_rounds (records_of j) 1 rounds)
    ∙ sym (none_outside rounds number (λ (c : Choice). c.asked.key.round) j.places (λ w. let at : 1 ≤ number = w.low in omega arith) all))
    (λ (past : 1 + rounds ≤ number).
    no_later (records_of j) 1 rounds number past
    ∙ sym (none_outside rounds number (λ (c : Choice). c.asked.key.round) j.places (λ w. let at : number < 1 + rounds = w.high in omega arith) all)) outside)
    (within_cases 1 rounds number)

-- ---- completions

-- completions of a round that are spelled by their requests are spelled so
respelled : (rounds : List Round) (number : ℕ) (cs : List Completion) → AllByRecursion (λ (c : Completion). (c.round ≡ number) × (completion_spelled rounds c.round c.request ≡ c)) cs
    → map (completion_spelled rounds number) (requests_of cs) ≡ cs
respelled rounds number [] all = refl
respelled rounds number (c ∷ cs) all =
    λ i. (ap (λ n. completion_spelled rounds n c.request) (sym all.0.0) ∙ all.0.1) i ∷ respelled rounds number cs all.1 i

-- completions of a round are spelled by their requests
pub own_back : (requests : List Request) (rounds : List Round) (cs : List Completion) (number : ℕ) → AreCompletions requests rounds cs
    → map (completion_spelled rounds number) (requests_of (completions_in number cs)) ≡ completions_in number cs
own_back requests rounds cs number are =
    respelled rounds number (completions_in number cs)
    (all_weaker (Contains (completions_in number cs)) (λ (c : Completion). (c.round ≡ number) × (completion_spelled rounds c.round c.request ≡ c)) (completions_in number cs)
    (λ c there.
    let kept = contains_kept (λ (d : Completion). d.round == number) cs c there in
    (eqb-true c.round number kept.1, spelled_is requests rounds cs c are kept.0))
    (all_contained (completions_in number cs)))

-- no completion is of a later round
no_later_completion : (ran : List Round) (j : Records) (first rounds number : ℕ) → first + rounds ≤ number → completions_in number (completions_from ran first (orders_of (journals_from j first rounds))) ≡ []
no_later_completion ran j first zero number past = refl
no_later_completion ran j first (suc rounds) number past =
    later_completions ran first number (requests_of (completions_in first j.completions)) (orders_of (journals_from j (first + 1) rounds)) (omega arith)
    ∙ no_later_completion ran j (first + 1) rounds number (omega arith)

-- of one of the rounds they are spelled by the requests of the journal
completions_within : (ran : List Round) (j : Records) (first rounds number : ℕ) → IsWithin first rounds number
    → completions_in number (completions_from ran first (orders_of (journals_from j first rounds))) ≡ map (completion_spelled ran number) (requests_of (completions_in number j.completions))
completions_within ran j first zero number within =
    let low : first ≤ number = within.low in
    let high : number < first + zero = within.high in
    absurd (omega arith)
completions_within ran j first (suc rounds) number within =
    let low : first ≤ number = within.low in
    let high : number < first + suc rounds = within.high in
    let order = requests_of (completions_in first j.completions) in
    let later = orders_of (journals_from j (first + 1) rounds) in
    ⊎_elim
    (λ (same : first ≡ number).
    subst (λ n. completions_in n (completions_from ran first (order ∷ later)) ≡ map (completion_spelled ran n) (requests_of (completions_in n j.completions))) same
    (own_completions ran first order later))
    (λ apart.
    ⊎_elim
    (λ (below : first < number).
    later_completions ran first number order later below ∙ completions_within ran j (first + 1) rounds number (record { low = omega arith; high = omega arith }))
    (λ (above : number < first). absurd (omega arith)) apart)
    (cases_order first number)

-- the completions that are read back are those of the journal in each round
pub completions_back : (requests : List Request) (ran : List Round) (j : Journal) (rounds : ℕ) → AreCompletions requests ran j.completions
    → AllByRecursion (λ (c : Completion). IsWithin 1 rounds c.round) j.completions → (number : ℕ)
    → completions_in number (completions_from ran 1 (orders_of (journals_from (records_of j) 1 rounds))) ≡ completions_in number j.completions
completions_back requests ran j rounds are all number =
    ⊎_elim
    (λ (within : IsWithin 1 rounds number). completions_within ran (records_of j) 1 rounds number within ∙ own_back requests ran j.completions number are)
    (λ outside.
    ⊎_elim
    (λ (low : number < 1).
    no_earlier_completion ran number 1 (orders_of (journals_from (records_of j) 1 rounds)) low
    ∙ sym (none_outside rounds number (λ (c : Completion). c.round) j.completions (λ w. let at : 1 ≤ number = w.low in omega arith) all))
    (λ (past : 1 + rounds ≤ number).
    no_later_completion ran (records_of j) 1 rounds number past
    ∙ sym (none_outside rounds number (λ (c : Completion). c.round) j.completions (λ w. let at : number < 1 + rounds = w.high in omega arith) all)) outside)
    (within_cases 1 rounds number)
