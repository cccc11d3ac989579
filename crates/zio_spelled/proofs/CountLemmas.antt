-- The rounds of a report that are read one after another.
use Rattle.std.proofs.Common.{◌≡◌, ◌≤◌, ◌+◌, ◌==◌, ℕ, List, [], ◌∷◌, length, refl, sym, ap, subst, ◌∙◌, true, false, arith}
use Rattle.std.specs.List.{list_any, slice_split}
use Rattle.std.specs.Prelude.{count_by}
use Rattle.std.proofs.lemmas.List.Splits.{length-slice_split}
use Rattle.std.proofs.lemmas.List.Sums.{count_by-le-length}
use Rattle.zio_types.specs.declared.place.TopSize.{TopSize}
use Rattle.zio_script.specs.Words.{Word, lines_of, without_empty_end}
use Rattle.zio_spelled.specs.declared.rounds.RoundJournal.{RoundJournal}
use Rattle.zio_spelled.specs.Reading.{no_lines}
use Rattle.zio_spelled.specs.Rounds.{AreJournals, IsRoundJournal, IsSpelled, lines_before, lines_of_rounds, others_of, parts_by_round}
use Rattle.zio_spelled.specs.Spelled.{first_of, is_journal, is_round}

-- the rounds from this number on spell journals
abbrev pub HaveJournals : List TopSize → ℕ → List (List Word) → Type 0
HaveJournals tops round rounds = (journals : List RoundJournal) × AreJournals tops round rounds journals

-- so many rounds of all were read: the others spell journals exactly where all do
pub record IsCounted (tops : List TopSize) (all : List (List Word)) (count : ℕ) (left : List (List Word)) : Type 0 where
  pub whole : count + length left ≡ length all
  pub on : HaveJournals tops (count + 1) left → HaveJournals tops 1 all
  pub back : HaveJournals tops 1 all → HaveJournals tops (count + 1) left

pub none_counted : (tops : List TopSize) (all left : List (List Word)) → left ≡ all → IsCounted tops all 0 left
none_counted tops all left same = record {
  whole = omega (arith, ap length same);
  on = λ have. subst (λ (rounds : List (List Word)). HaveJournals tops 1 rounds) same have;
  back = λ have. subst (λ (rounds : List (List Word)). HaveJournals tops 1 rounds) (sym same) have;
}

behind_first : (tops : List TopSize) (round : ℕ) (lines : List Word) (left : List (List Word)) → HaveJournals tops round (lines ∷ left) → HaveJournals tops (round + 1) left
behind_first tops round lines left ([], are) = absurd are
behind_first tops round lines left (j ∷ journals, are) = (journals, are.1)

-- one round more
pub one_counted : (tops : List TopSize) (all : List (List Word)) (count : ℕ) (left next : List (List Word)) (j : RoundJournal) → IsCounted tops all count left
    → left ≡ first_of left ∷ next → IsRoundJournal tops (count + 1) (first_of left) j → IsCounted tops all (count + 1) next
one_counted tops all count left next j counted parts is =
    let long : length left ≡ length (first_of left ∷ next) = ap length parts in
    let whole : count + length left ≡ length all = counted.whole in
    record {
      whole = omega arith;
      on = λ have. counted.on (subst (λ (rounds : List (List Word)). HaveJournals tops (count + 1) rounds) (sym parts) (j ∷ have.0, (is, have.1)));
      back = λ have. behind_first tops (count + 1) (first_of left) next (subst (λ (rounds : List (List Word)). HaveJournals tops (count + 1) rounds) parts (counted.back have));
    }

-- all were read
pub all_counted : (tops : List TopSize) (text : List ℕ) (count : ℕ) (left : List (List Word)) → list_any is_journal (lines_before text) ≡ false
    → IsCounted tops (lines_of_rounds text) count left → left ≡ [] → (count ≡ length (lines_of_rounds text)) × ((journals : List RoundJournal) × IsSpelled tops text journals)
all_counted tops text count left before counted end =
    let none : length left ≡ 0 = ap length end in
    let whole : count + length left ≡ length (lines_of_rounds text) = counted.whole in
    let have = counted.on (subst (λ (rounds : List (List Word)). HaveJournals tops (count + 1) rounds) (sym end) ([], tt)) in
    (omega arith, (have.0, record { before = before; rounds = have.1 }))

at_first : (tops : List TopSize) (round : ℕ) (left : List (List Word)) → HaveJournals tops round left → (j : RoundJournal) × IsRoundJournal tops round (first_of left) j
at_first tops round [] have = (no_lines, record { entries = tt; orders = []; order_lines = tt; order_is = refl })
at_first tops round (lines ∷ left) ([], are) = absurd are
at_first tops round (lines ∷ left) (j ∷ journals, are) = (j, are.0)

-- a round that spells no journal
pub none_spelled : (tops : List TopSize) (text : List ℕ) (count : ℕ) (left : List (List Word)) → IsCounted tops (lines_of_rounds text) count left
    → ((j : RoundJournal) → ¬ IsRoundJournal tops (count + 1) (first_of left) j) → (journals : List RoundJournal) → ¬ IsSpelled tops text journals
none_spelled tops text count left counted none journals spelled =
    let first = at_first tops (count + 1) left (counted.back (journals, spelled.rounds)) in
    none first.0 first.1

true_false : true ≡ false → ⊥
true_false same = cc

-- a line of the journal before all rounds
pub none_before : (tops : List TopSize) (text : List ℕ) → list_any is_journal (lines_before text) ≡ true → (journals : List RoundJournal) → ¬ IsSpelled tops text journals
none_before tops text is journals spelled = true_false (sym is ∙ spelled.before)

fewer_lines : (lines : List Word) → length (without_empty_end lines) ≤ length lines
fewer_lines [] = omega arith
fewer_lines ([] ∷ []) = omega arith
fewer_lines ([] ∷ next ∷ lines) =
    let fewer : length (without_empty_end (next ∷ lines)) ≤ length (next ∷ lines) = fewer_lines (next ∷ lines) in
    omega arith
fewer_lines ((c ∷ cs) ∷ lines) =
    let fewer : length (without_empty_end lines) ≤ length lines = fewer_lines lines in
    omega arith

others_fewer : (parts : List (List Word)) → length (others_of parts) ≤ length parts
others_fewer [] = omega arith
others_fewer (part ∷ parts) = omega arith

-- a report has no more rounds than bytes, and two
pub few_rounds : (text : List ℕ) → length (lines_of_rounds text) ≤ length text + 2
few_rounds text =
    let lines : length (lines_of text) ≤ length (slice_split (λ c. c == 10) text) = fewer_lines (slice_split (λ c. c == 10) text) in
    let cuts : length (slice_split (λ c. c == 10) text) ≡ count_by (λ c. c == 10) text + 1 = length-slice_split (λ c. c == 10) text in
    let marks : count_by (λ c. c == 10) text ≤ length text = count_by-le-length (λ c. c == 10) text in
    let parts : length (parts_by_round text) ≡ count_by is_round (lines_of text) + 1 = length-slice_split is_round (lines_of text) in
    let heads : count_by is_round (lines_of text) ≤ length (lines_of text) = count_by-le-length is_round (lines_of text) in
    let others : length (lines_of_rounds text) ≤ length (parts_by_round text) = others_fewer (parts_by_round text) in
    omega arith
