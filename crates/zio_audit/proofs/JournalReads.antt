-- The journals of a report's rounds, read one after another.
use Rattle.std.proofs.Common.{◌≡◌, ◌+◌, ◌-◌, ◌≤◌, ◌<◌, ◌^◌, ℕ, zero, suc, List, [], ◌∷◌, length, drop, true, slice_get, Some, None, refl, sym, ap, subst, ◌∙◌, arith, add-one}
use Rattle.std.specs.List.{list_all}
use Rattle.zio_types.specs.declared.place.TopSize.{TopSize}
use Rattle.zio_types.specs.Places.{is_lawful_top}
use Rattle.zio_script.specs.Words.{Word}
use Rattle.zio_spelled.specs.declared.count.TheConstants.{REPORT_LEN_MAX}
use Rattle.zio_spelled.specs.declared.rounds.RoundJournal.{RoundJournal}
use Rattle.zio_spelled.specs.Reading.{lines_onto, no_lines}
use Rattle.zio_spelled.specs.Rounds.{AreJournals, IsRoundJournal, IsSpelled, lines_of_rounds}
use Rattle.zio_spelled.specs.Spelled.{first_of}
use Rattle.zio_spelled.proofs.CountLemmas.{few_rounds}
use Rattle.zio_spelled.proofs.RoundLemmas.{round_read}
use Rattle.zio_audit.specs.Journals.{AreKept, journal_or_none, journals_from}
use Rattle.zio_audit.specs.Replays.{entries_if}

-- what is read of rounds is what they spell
pub read_is : (tops : List TopSize) (number : ℕ) (rounds : List (List Word)) (journals : List RoundJournal) → AreJournals tops number rounds journals → journals_from tops number rounds ≡ journals
read_is tops number [] [] are = refl
read_is tops number [] (j ∷ journals) are = absurd are
read_is tops number (lines ∷ rounds) [] are = absurd are
read_is tops number (lines ∷ rounds) (j ∷ journals) are =
    let here : journal_or_none (lines_onto tops number no_lines lines) ≡ j = ap journal_or_none (round_read tops number lines j are.0) in
    let later : journals_from tops (number + 1) rounds ≡ journals = read_is tops (number + 1) rounds journals are.1 in
    λ i. here i ∷ later i

-- so where a report spells journals, it spells those that are read of it
pub read_spelled : (tops : List TopSize) (report : List ℕ) → (journals : List RoundJournal) × IsSpelled tops report journals → IsSpelled tops report (journals_from tops 1 (lines_of_rounds report))
read_spelled tops report spelled =
    subst (IsSpelled tops report) (sym (read_is tops 1 (lines_of_rounds report) spelled.0 spelled.1.rounds)) spelled.1

-- ---- all rounds

pub kept_of : (tops : List TopSize) (report : List ℕ) (left : List (List Word)) → list_all is_lawful_top tops ≡ true → length report ≤ REPORT_LEN_MAX → left ≡ lines_of_rounds report
    → (journals : List RoundJournal) × IsSpelled tops report journals → AreKept tops 0 left
kept_of tops report left lawful short is spelled =
    let few : length (lines_of_rounds report) ≤ length report + 2 = few_rounds report in
    let long : length left ≡ length (lines_of_rounds report) = ap length is in
    record {
      lawful = lawful;
      few = omega (arith, few, long, short);
      spelled = subst (λ (rounds : List (List Word)). AreJournals tops 1 rounds (journals_from tops 1 rounds)) (sym is)
          (subst (λ (js : List RoundJournal). AreJournals tops 1 (lines_of_rounds report) js) (sym (read_is tops 1 (lines_of_rounds report) spelled.0 spelled.1.rounds)) spelled.1.rounds);
    }

pub all_are : (tops : List TopSize) (report : List ℕ) (left : List (List Word)) → left ≡ lines_of_rounds report → (journals : List RoundJournal) → IsSpelled tops report journals → journals_from tops 1 left ≡ journals
all_are tops report left is journals spelled = ap (journals_from tops 1) is ∙ read_is tops 1 (lines_of_rounds report) journals spelled.rounds

-- ---- the next round

module _ (tops : List TopSize) (read : ℕ) (left next : List (List Word)) (lines : List Word) (is : left ≡ lines ∷ next) where
  pub kept_next : AreKept tops read left → AreKept tops (read + 1) next
  kept_next kept =
      let long : length left ≡ suc (length next) = ap length is in
      let few : read + 1 + length left < 2 ^ 32 = kept.few in
      record {
        lawful = kept.lawful;
        few = omega arith;
        spelled = (subst (λ (rounds : List (List Word)). AreJournals tops (read + 1) rounds (journals_from tops (read + 1) rounds)) is kept.spelled).1;
      }

  pub next_is : (journal : RoundJournal) → IsRoundJournal tops (read + 1) lines journal → journals_from tops (read + 1) left ≡ journal ∷ journals_from tops (read + 1 + 1) next
  next_is journal spelled =
      ap (journals_from tops (read + 1)) is
      ∙ ap (λ (j : RoundJournal). j ∷ journals_from tops (read + 1 + 1) next) (ap journal_or_none (round_read tops (read + 1) lines journal spelled))

-- a round that is left spells a journal
pub one_spelled : (tops : List TopSize) (read : ℕ) (left : List (List Word)) → AreKept tops read left → ((journal : RoundJournal) → ¬ IsRoundJournal tops (read + 1) (first_of left) journal) → ⊥
one_spelled tops read [] kept none = none no_lines (record { entries = tt; orders = []; order_lines = tt; order_is = refl })
one_spelled tops read (lines ∷ left) kept none = none (journal_or_none (lines_onto tops (read + 1) no_lines lines)) kept.spelled.0

pub none_left : (tops : List TopSize) (number : ℕ) (left : List (List Word)) → left ≡ [] → journals_from tops number left ≡ []
none_left tops number left is = ap (journals_from tops number) is

pub few_left : (tops : List TopSize) (number : ℕ) (left : List (List Word)) → length (journals_from tops number left) ≡ length left
few_left tops number [] = refl
few_left tops number (lines ∷ left) = ap suc (few_left tops (number + 1) left)

-- ---- rounds by their numbers

next_at : (n : ℕ) (all : List RoundJournal) (j : RoundJournal) (next : List RoundJournal) → drop n all ≡ j ∷ next → (slice_get all n ≡ Some j) × (drop (suc n) all ≡ next)
next_at zero [] j next is = absurd (cc)
next_at (suc n) [] j next is = absurd (cc)
next_at zero (k ∷ all) j next is = (cc, cc)
next_at (suc n) (k ∷ all) j next is = next_at n all j next is

none_at : (n : ℕ) (all : List RoundJournal) → drop n all ≡ [] → (slice_get all n ≡ None) × (drop (suc n) all ≡ [])
none_at zero [] is = (refl, refl)
none_at (suc n) [] is = (refl, refl)
none_at zero (k ∷ all) is = absurd (cc)
none_at (suc n) (k ∷ all) is = none_at n all is

-- the round behind so many others
pub one_behind : (all left next : List RoundJournal) (n : ℕ) (j : RoundJournal) → left ≡ drop n all → left ≡ j ∷ next → (j.entries ≡ entries_if (slice_get all n)) × (next ≡ drop (n + 1) all)
one_behind all left next n j left_is more =
    let at = next_at n all j next (sym left_is ∙ more) in
    (sym (ap entries_if at.0), sym (ap (λ (k : ℕ). drop k all) (add-one n) ∙ at.1))

pub none_behind : (all left next : List RoundJournal) (n : ℕ) → left ≡ drop n all → left ≡ [] → next ≡ [] → ([] ≡ entries_if (slice_get all n)) × (next ≡ drop (n + 1) all)
none_behind all left next n left_is none end =
    let at = none_at n all (sym left_is ∙ none) in
    (sym (ap entries_if at.0), end ∙ sym (ap (λ (k : ℕ). drop k all) (add-one n) ∙ at.1))

drop_empty : (n : ℕ) (none : List RoundJournal) → none ≡ [] → drop n none ≡ []
drop_empty zero none is = is
drop_empty (suc n) none is = ap (drop (suc n)) is

pub drop_more : (n m k : ℕ) (all : List RoundJournal) → k ≡ n + m → drop m (drop n all) ≡ drop k all
drop_more zero m k all is = let same : m ≡ k = omega arith in ap (λ (i : ℕ). drop i all) same
drop_more (suc n) m k [] is = drop_empty m [] refl ∙ sym (drop_empty k [] refl)
drop_more (suc n) m zero (j ∷ all) is = absurd (omega arith)
drop_more (suc n) m (suc k) (j ∷ all) is = drop_more n m k all (omega arith)

pub get_dropped : (n m k : ℕ) (all : List RoundJournal) → k ≡ n + m → slice_get (drop n all) m ≡ slice_get all k
get_dropped zero m k all is = let same : m ≡ k = omega arith in ap (slice_get all) same
get_dropped (suc n) m k [] is = refl
get_dropped (suc n) m zero (j ∷ all) is = absurd (omega arith)
get_dropped (suc n) m (suc k) (j ∷ all) is = get_dropped n m k all (omega arith)

-- ---- skipping

pub skipped_one : (all left next : List RoundJournal) (j : RoundJournal) (rounds n : ℕ) → drop rounds all ≡ drop n left → 0 < n → left ≡ j ∷ next → drop rounds all ≡ drop (n - 1) next
skipped_one all left next j rounds zero is some more = absurd (omega arith)
skipped_one all left next j rounds (suc n) is some more = is ∙ ap (drop (suc n)) more ∙ ap (λ (k : ℕ). drop k next) (let e : n ≡ suc n - 1 = omega arith in e)

pub skipped_all : (all left : List RoundJournal) (rounds n : ℕ) → drop rounds all ≡ drop n left → left ≡ [] → left ≡ drop rounds all
skipped_all all left rounds n is none = none ∙ sym (is ∙ drop_empty n left none)
