-- The entries that a report spells of a round are those of its number among all that it spells.
use Rattle.std.proofs.Common.{◌≡◌, ◌+◌, ◌-◌, ◌<◌, ◌≤◌, ℕ, zero, suc, List, [], ◌∷◌, ◌++◌, Bool, true, false, cond, ◌==◌, refl, sym, ap, ◌∙◌, arith, eq-eqb, slice_get}
use Rattle.std.specs.List.{AllByRecursion, AllZip, flat_map}
use Rattle.std.proofs.lemmas.Bool.{cond-false, cond-true, eqb-true, false_from_ne_true}
use Rattle.std.proofs.lemmas.List.{append-nil}
use Rattle.std.proofs.lemmas.Option.{slice_get_past}
use Rattle.zio_types.specs.declared.place.TopSize.{TopSize}
use Rattle.zio_types.specs.Choices.{Choice}
use Rattle.zio_script.specs.Words.{Word}
use Rattle.zio_gang.specs.Journals.{choices_in}
use Rattle.zio_spelled.specs.declared.rounds.RoundJournal.{RoundJournal}
use Rattle.zio_spelled.specs.Rounds.{AreJournals}
use Rattle.zio_spelled.specs.Spelled.{IsTake}
use Rattle.zio_audit.specs.Replays.{entries_if, entries_in}

-- they have its number
own_round : (tops : List TopSize) (n : ℕ) (lines : List Word) (es : List Choice) → AllZip (IsTake tops n) lines es → AllByRecursion (λ (c : Choice). c.asked.key.round ≡ n) es
own_round tops n [] [] h = tt
own_round tops n [] (e ∷ es) h = absurd h
own_round tops n (l ∷ lines) [] h = absurd h
own_round tops n (l ∷ lines) (e ∷ es) h = (ap (λ (c : Choice). c.asked.key.round) h.0.whole, own_round tops n lines es h.1)

choices_behind : (n : ℕ) (xs ys : List Choice) → choices_in n (xs ++ ys) ≡ choices_in n xs ++ choices_in n ys
choices_behind n [] ys = refl
choices_behind n (x ∷ xs) ys = by (x.asked.key.round == n) (choices_behind n xs ys)
  where
    by : (t : Bool) → choices_in n (xs ++ ys) ≡ choices_in n xs ++ choices_in n ys
        → cond t (x ∷ choices_in n (xs ++ ys)) (choices_in n (xs ++ ys)) ≡ cond t (x ∷ choices_in n xs) (choices_in n xs) ++ choices_in n ys
    by true h = ap (λ (zs : List Choice). x ∷ zs) h
    by false h = h

all_own : (n : ℕ) (es : List Choice) → AllByRecursion (λ (c : Choice). c.asked.key.round ≡ n) es → choices_in n es ≡ es
all_own n [] h = refl
all_own n (e ∷ es) h =
    cond-true (e.asked.key.round == n) (e ∷ choices_in n es) (choices_in n es) (eq-eqb e.asked.key.round n h.0) ∙ ap (λ (zs : List Choice). e ∷ zs) (all_own n es h.1)

none_own : (n m : ℕ) (es : List Choice) → ((m ≡ n) → ⊥) → AllByRecursion (λ (c : Choice). c.asked.key.round ≡ m) es → choices_in n es ≡ []
none_own n m [] other h = refl
none_own n m (e ∷ es) other h =
    cond-false (e.asked.key.round == n) (e ∷ choices_in n es) (choices_in n es)
    (false_from_ne_true (e.asked.key.round == n) (λ same. other (sym h.0 ∙ eqb-true e.asked.key.round n same))) ∙ none_own n m es other h.1

abbrev spelled : List RoundJournal → List Choice
spelled journals = flat_map (λ (j : RoundJournal). j.entries) journals

-- rounds before the first of them have none
none_before : (tops : List TopSize) (from n : ℕ) (rounds : List (List Word)) (journals : List RoundJournal) → AreJournals tops from rounds journals → n < from → choices_in n (spelled journals) ≡ []
none_before tops from n [] [] h before = refl
none_before tops from n [] (j ∷ journals) h before = absurd h
none_before tops from n (r ∷ rounds) [] h before = absurd h
none_before tops from n (r ∷ rounds) (j ∷ journals) h before =
    choices_behind n j.entries (spelled journals)
    ∙ (λ i. none_own n from j.entries (λ same. let no : n < n = omega (arith, same) in omega arith) (own_round tops from _ j.entries h.0.entries) i
    ++ none_before tops (from + 1) n rounds journals h.1 (omega arith) i)

-- and each has those of its line
choices_at : (tops : List TopSize) (from : ℕ) (rounds : List (List Word)) (journals : List RoundJournal) → AreJournals tops from rounds journals → (k : ℕ)
    → choices_in (from + k) (spelled journals) ≡ entries_if (slice_get journals k)
choices_at tops from [] [] h k = sym (ap entries_if (slice_get_past [] k (omega arith)))
choices_at tops from [] (j ∷ journals) h k = absurd h
choices_at tops from (r ∷ rounds) [] h k = absurd h
choices_at tops from (r ∷ rounds) (j ∷ journals) h zero =
    let here : from + 0 ≡ from = omega arith in
    choices_behind (from + 0) j.entries (spelled journals)
    ∙ (λ i. (ap (λ m. choices_in m j.entries) here ∙ all_own from j.entries (own_round tops from _ j.entries h.0.entries)) i
    ++ none_before tops (from + 1) (from + 0) rounds journals h.1 (omega arith) i)
    ∙ append-nil j.entries
choices_at tops from (r ∷ rounds) (j ∷ journals) h (suc k) =
    let next : from + suc k ≡ (from + 1) + k = omega arith in
    choices_behind (from + suc k) j.entries (spelled journals)
    ∙ (λ i. none_own (from + suc k) from j.entries (λ same. omega (arith, same)) (own_round tops from _ j.entries h.0.entries) i
    ++ (ap (λ m. choices_in m (spelled journals)) next ∙ choices_at tops (from + 1) rounds journals h.1 k) i)

-- The entries that are spelled of a round are those of its number, from 1 on.
pub choices_spelled : (tops : List TopSize) (rounds : List (List Word)) (journals : List RoundJournal) → AreJournals tops 1 rounds journals → (n : ℕ) → 1 ≤ n
    → choices_in n (flat_map (λ (j : RoundJournal). j.entries) journals) ≡ entries_in journals n
choices_spelled tops rounds journals h n some =
    let same : n ≡ 1 + (n - 1) = omega (arith, some) in
    ap (λ m. choices_in m (spelled journals)) same ∙ choices_at tops 1 rounds journals h (n - 1)
