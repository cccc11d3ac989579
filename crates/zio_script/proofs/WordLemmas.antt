-- The first line of a text, the parts of a line, and the numbers that digits spell.
use Rattle.std.proofs.Common.{◌≡◌, ◌≢◌, ◌<◌, ◌≤◌, ◌+◌, ◌-◌, ◌*◌, ◌^◌, ◌%◌, ◌==◌, ◌∷◌, [], ℕ, List, Bool, true, false, length, get_or, take, drop, refl, sym, ap, ◌∙◌, arith, None, Result, Ok, Err, inl, inr, ltb-true}
use Rattle.std.specs.Prelude.{option_and_then}
use Rattle.std.specs.Char.{digit_value, is_ascii_digit, is_digit}
use Rattle.std.specs.List.{list_all, slice_split, position_or_len, before_first, after_first}
use Rattle.std.specs.Result.{result_ok}
use Rattle.std.specs.Str.Parse.{AllDigits, digits_value}
use Rattle.std.proofs.lemmas.Bool.{and_parts, cases_eq, eq-eqb, ne_eqb}
use Rattle.std.proofs.lemmas.Bool.Decides.{nat_tests}
use Rattle.std.proofs.lemmas.List.{length-take-le}
use Rattle.std.proofs.lemmas.List.Folds.{list_all_more}
use Rattle.std.proofs.lemmas.List.Splits.{slice_split_none, slice_split_first, length-slice_split}
use Rattle.std.proofs.lemmas.List.Sums.{position_or_len_is}
use Rattle.std.proofs.lemmas.List.Elements.{All-from_get_or}
use Rattle.std.proofs.lemmas.List.Sums.{AllPass-from_list_all}
use Rattle.std.proofs.lemmas.Int.Digits.{digits_value_more}
use Rattle.std.proofs.lemmas.Str.{digit_value_digit}
use Rattle.std.proofs.lemmas.Str.Parse.{IsNumeralModel, digit_from_value, digits_value-take-le, digits_value_short, numerals_by_value, tells_digits}
use Rattle.hex.specs.Hex.{decode_of, decode_sized}
use Rattle.hex.proofs.HexLemmas.{decode_of-ok, decode_sized-odd, decode_sized-other, decode_sized-twice}
use Rattle.hex.specs.declared.error.FromHexError.{FromHexError}
use Rattle.zio_script.specs.Words.{Word, byte_of, lines_of, single, without_empty_end}

-- ---- lines

abbrev pub ends_line : ℕ → Bool
ends_line c = c == 10

without_empty_end-more : (line : Word) (lines : List Word) → 0 < length lines → without_empty_end (line ∷ lines) ≡ line ∷ without_empty_end lines
without_empty_end-more line [] some = absurd (omega arith)
without_empty_end-more [] (next ∷ lines) some = refl
without_empty_end-more (c ∷ cs) (next ∷ lines) some = refl

pub first_line : (text : List ℕ) (end : ℕ) → end < length text → get_or text end 0 ≡ 10 → ((k : ℕ) → k < end → get_or text k 0 ≢ 10)
    → lines_of text ≡ take end text ∷ lines_of (drop (end + 1) text)
first_line text end inside here before =
    let place : position_or_len ends_line text ≡ end =
    position_or_len_is ends_line text end 0 (omega arith) (λ k below. ne_eqb (get_or text k 0) 10 (before k below)) (λ _. eq-eqb (get_or text end 0) 10 here) in
    let parts : slice_split ends_line text ≡ before_first ends_line text ∷ slice_split ends_line (after_first ends_line text) =
    slice_split_first ends_line text 0 (omega arith) in
    let cut : slice_split ends_line text ≡ take end text ∷ slice_split ends_line (drop (end + 1) text) =
    parts ∙ ap (λ (n : ℕ). take n text ∷ slice_split ends_line (drop (n + 1) text)) place in
    ap without_empty_end cut ∙ without_empty_end-more (take end text) (slice_split ends_line (drop (end + 1) text)) (omega (arith, length-slice_split ends_line (drop (end + 1) text)))

without_empty_end-only : (line : Word) → 0 < length line → without_empty_end (line ∷ []) ≡ line ∷ []
without_empty_end-only [] some = absurd (omega arith)
without_empty_end-only (c ∷ cs) some = refl

pub only_line : (text : List ℕ) → 0 < length text → ((k : ℕ) → k < length text → get_or text k 0 ≢ 10) → lines_of text ≡ text ∷ []
only_line text some none =
    ap without_empty_end (slice_split_none ends_line text (All-from_get_or (λ c. ends_line c ≡ false) text 0 (λ k below. ne_eqb (get_or text k 0) 10 (none k below))))
    ∙ without_empty_end-only text some

-- ---- decimal digits

-- the value of the digits up to one, and the whole value is no less
pub record IsTurn (digits : List ℕ) (i value digit : ℕ) : Type 0 where
  pub is_digit : 48 ≤ digit
  pub next : value * 10 + (digit - 48) ≡ digits_value 10 (take (i + 1) digits)
  pub below : value * 10 + (digit - 48) ≤ digits_value 10 digits

pub digits_turn : (digits : List ℕ) (i value : ℕ) → list_all (λ c. is_digit c 10) digits ≡ true → i < length digits
    → value ≡ digits_value 10 (take i digits) → IsTurn digits i value (get_or digits i 0)
digits_turn digits i value all inside is =
    let digit : digit_value (get_or digits i 0) < 10 = ltb-true _ _ (AllPass-from_list_all (λ c. is_digit c 10) digits all i 0 inside) in
    let spelled : digit_value (get_or digits i 0) + 48 ≡ get_or digits i 0 = digit_value_digit (get_or digits i 0) (digit_from_value (get_or digits i 0) digit) in
    let more = digits_value_more 10 digits i inside in
    let whole = digits_value-take-le 10 digits (i + 1) (omega arith) in
    let next : value * 10 + (get_or digits i 0 - 48) ≡ digits_value 10 (take (i + 1) digits) = rw is (omega arith) in
    record { is_digit = omega arith; next = next; below = omega arith }

-- ---- a word whose number fits, whatever its digits are

abbrev pub is_decimal : ℕ → Bool
is_decimal c = is_digit c 10

all_digits : (word : Word) → list_all is_decimal word ≡ true → AllDigits 10 word
all_digits [] all = tt
all_digits (c ∷ cs) all = (ltb-true _ _ (and_parts _ _ all).0, all_digits cs (and_parts _ _ all).1)

decimals : IsNumeralModel (AllDigits 10) (digits_value 10)
decimals = numerals_by_value (AllDigits 10) tells_digits

pub short_value : (k : ℕ) (word : Word) → list_all is_decimal word ≡ true → length word ≤ k → digits_value 10 word < 10 ^ k
short_value k word all short = digits_value_short decimals word k (all_digits word all) short

-- one digit more: the value before it leaves room for it
pub record IsShortTurn (word : Word) (i value : ℕ) : Type 0 where
  pub room : value < 1000000000000000000
  pub digit : get_or word i 0 < 58
  pub all : list_all is_decimal (take (i + 1) word) ≡ true
  pub next : value * 10 + (get_or word i 0 - 48) ≡ digits_value 10 (take (i + 1) word)

decimal_of : (c : ℕ) → is_ascii_digit c ≡ true → (is_decimal c ≡ true) × (digit_value c ≡ c - 48) × (c < 58)
decimal_of c is =
    let low : 48 ≤ c = grind (arith, nat_tests) in
    let high : c ≤ 57 = grind (arith, nat_tests) in
    (grind (arith, nat_tests), grind (arith, nat_tests), omega arith)

pub short_turn : (word : Word) (i value : ℕ) → list_all is_decimal (take i word) ≡ true → value ≡ digits_value 10 (take i word) → i < length word → length word ≤ 19
    → is_ascii_digit (get_or word i 0) ≡ true → IsShortTurn word i value
short_turn word i value all is inside short digit =
    let parts = decimal_of (get_or word i 0) digit in
    let same : digit_value (get_or word i 0) ≡ get_or word i 0 - 48 = parts.1 in
    let len : length (take i word) ≡ i = length-take-le i word (omega arith) in
    let below = short_value 18 (take i word) all (omega arith) in
    record {
      room = omega arith;
      digit = parts.2;
      all = list_all_more is_decimal word i 0 inside ∙ (rw (all, parts.0) refl);
      next = rw (digits_value_more 10 word i inside) (omega arith);
    }

-- ---- hexadecimal digits

single-other : (bytes : List ℕ) → length bytes ≢ 1 → single bytes ≡ None
single-other [] other = refl
single-other (byte ∷ []) other = absurd (other refl)
single-other (byte ∷ next ∷ bytes) other = refl

-- what decodes to more or fewer bytes than one is not a byte
not_single : (word : Word) (r : Result (List ℕ) FromHexError) → decode_of word ≡ r → length word ≢ 2 → option_and_then single (result_ok r) ≡ None
not_single word (Ok bytes) is other =
    let len : length word ≡ 2 * length bytes = (decode_of-ok word bytes is).2 in
    single-other bytes (λ one. other (omega arith))
not_single word (Err e) is other = refl

sized_other : (word : Word) → length word ≢ 2 → result_ok (decode_sized word 1) ≡ None
sized_other word other =
    elim (cases_eq (length word % 2) 1) [
      | inl odd ↦ ap result_ok (decode_sized-odd word 1 odd)
      | inr even ↦
          let zero_left : length word % 2 ≡ 0 = omega arith in
          ap result_ok (decode_sized-other word 1 zero_left (λ half. other (omega arith)))
    ]

-- two digits and no more are decoded into room for one byte
pub byte_of_sized : (word : Word) → byte_of word ≡ option_and_then single (result_ok (decode_sized word 1))
byte_of_sized word =
    elim (cases_eq (length word) 2) [
      | inl two ↦ ap (λ (r : Result (List ℕ) FromHexError). option_and_then single (result_ok r)) (sym (decode_sized-twice word 1 two))
      | inr other ↦ not_single word (decode_of word) refl other ∙ sym (ap (option_and_then single) (sized_other word other))
    ]
