-- Numerals as words: a number's digits are solid, spell the number, and begin no other word.
use Rattle.std.proofs.Common.{◌≡◌, ◌<◌, ◌≤◌, ◌^◌, ℕ, zero, suc, List, [], ◌∷◌, length, get_or, refl, ap, Bool, true, false, not, ◌&&◌, nat_lt, nat_le, Some, arith}
use Rattle.std.specs.Prelude.{decimal}
use Rattle.std.specs.Char.{digit_value, is_digit}
use Rattle.std.specs.List.{list_all}
use Rattle.std.specs.Str.Parse.{AllDigits}
use Rattle.std.proofs.lemmas.Bool.{and_from, and_parts, false_from_ne_true, le-leb, lt-leb, lt-ltb, ltb-true, ne_eqb}
use Rattle.std.proofs.lemmas.Fmt.{decimal_digit, decimal_is_IsNumeral, decimal_nonempty, first_decimal, length-decimal-le}
use Rattle.std.proofs.lemmas.Slice.Eq.{bytes_eq-Decides}
use Rattle.std.proofs.lemmas.Str.Parse.{digit_from_value}
use Rattle.zio_script.specs.Words.{Word, has_leading_zero, is_comment, is_empty, is_name, is_name_char, is_numeral, is_word, number}
use Rattle.zio_gen.proofs.WordLemmas.{is_dark, is_solid}

-- the word begins with a digit or another byte between `#` and the letters
abbrev pub begins_low : Word → Bool
begins_low [] = false
begins_low (c ∷ cs) = nat_lt 35 c && nat_lt c 58

-- ---- words that begin so

pub no_comment : (word : Word) → begins_low word ≡ true → is_comment word ≡ false
no_comment [] low = refl
no_comment (c ∷ cs) low =
    let above : 35 < c = ltb-true 35 c (and_parts (nat_lt 35 c) (nat_lt c 58) low).0 in
    ne_eqb c 35 (λ e. omega arith)

heads : (x c : ℕ) (xs cs : Word) → ◌≡◌ {A = List ℕ} (x ∷ xs) (c ∷ cs) → x ≡ c
heads x c xs cs same = cc

other_word : (x : ℕ) (xs word : Word) → 57 < x → begins_low word ≡ true → x ∷ xs ≡ word → ⊥
other_word x xs [] high low same = cc
other_word x xs (c ∷ cs) high low same =
    let below : c < 58 = ltb-true c 58 (and_parts (nat_lt 35 c) (nat_lt c 58) low).1 in
    let first : x ≡ c = heads x c xs cs same in
    omega arith

-- it is no word that begins with a letter
pub no_word : (x : ℕ) (xs word : Word) → 57 < x → begins_low word ≡ true → is_word (x ∷ xs) word ≡ false
no_word x xs word high low =
    false_from_ne_true (is_word (x ∷ xs) word) (λ is. other_word x xs word high low ((bytes_eq-Decides (x ∷ xs) word).0 is))

-- ---- digits

digits_pass : (p : ℕ → Bool) → ((c : ℕ) → digit_value c < 10 → p c ≡ true) → (digits : List ℕ) → AllDigits 10 digits → list_all p digits ≡ true
digits_pass p each [] all = refl
digits_pass p each (c ∷ cs) all = rw (each c all.0, digits_pass p each cs all.1) refl

digits_of : (n : ℕ) → n < 2 ^ 64 → AllDigits 10 (decimal n)
digits_of n fits = (decimal_is_IsNumeral n fits).0.1

digit_dark : (c : ℕ) → digit_value c < 10 → is_dark c ≡ true
digit_dark c digit = let range = digit_from_value c digit in lt-ltb 32 c (omega arith)

digit_named : (c : ℕ) → digit_value c < 10 → is_name_char c ≡ true
digit_named c digit =
    let range = digit_from_value c digit in
    let low : nat_le 97 c ≡ false = lt-leb 97 c (omega arith) in
    rw (low, le-leb 48 c (omega arith), le-leb c 57 (omega arith)) refl

some_digits : (digits : List ℕ) → 0 < length digits → not (is_empty digits) ≡ true
some_digits [] some = absurd (omega arith)
some_digits (c ∷ cs) some = refl

pub solid_decimal : (n : ℕ) → n < 2 ^ 64 → is_solid (decimal n) ≡ true
solid_decimal n fits =
    and_from (not (is_empty (decimal n))) (list_all is_dark (decimal n))
    (some_digits (decimal n) (decimal_nonempty n fits)) (digits_pass is_dark digit_dark (decimal n) (digits_of n fits))

low_digits : (digits : List ℕ) → 0 < length digits → AllDigits 10 digits → begins_low digits ≡ true
low_digits [] some all = absurd (omega arith)
low_digits (c ∷ cs) some all =
    let range = digit_from_value c all.0 in
    and_from (nat_lt 35 c) (nat_lt c 58) (lt-ltb 35 c (omega arith)) (lt-ltb c 58 (omega arith))

pub low_decimal : (n : ℕ) → n < 2 ^ 64 → begins_low (decimal n) ≡ true
low_decimal n fits = low_digits (decimal n) (decimal_nonempty n fits) (digits_of n fits)

-- ---- numbers

no_zero : (digits : List ℕ) → 48 < get_or digits 0 0 → has_leading_zero digits ≡ false
no_zero [] above = refl
no_zero (c ∷ cs) above = rw (ne_eqb c 48 (λ e. omega arith)) refl

no_leading_zero : (n : ℕ) → n < 2 ^ 64 → has_leading_zero (decimal n) ≡ false
no_leading_zero zero fits = ap has_leading_zero (decimal_digit 0 (omega arith))
no_leading_zero (suc n) fits = no_zero (decimal (suc n)) (first_decimal (suc n) (omega arith) fits)

numeral_decimal : (n : ℕ) → n < 2 ^ 64 → is_numeral (decimal n) ≡ true
numeral_decimal n fits =
    rw (
      some_digits (decimal n) (decimal_nonempty n fits),
      digits_pass (λ c. is_digit c 10) (λ c digit. lt-ltb (digit_value c) 10 digit) (decimal n) (digits_of n fits),
      no_leading_zero n fits,
    ) refl

-- a number's digits spell the number
pub number_decimal : (n : ℕ) → n < 2 ^ 64 → number (decimal n) ≡ Some n
number_decimal n fits =
    rw (numeral_decimal n fits, (decimal_is_IsNumeral n fits).1, lt-ltb n (2 ^ 64) fits) refl

-- ---- names

-- `b` and a number
abbrev pub name_of_block : ℕ → Word
name_of_block block = 98 ∷ decimal block

pub solid_name : (block : ℕ) → block < 2 ^ 64 → is_solid (name_of_block block) ≡ true
solid_name block fits = digits_pass is_dark digit_dark (decimal block) (digits_of block fits)

pub short_number : (n : ℕ) → n < 10 ^ 5 → length (decimal n) ≤ 5
short_number n few = length-decimal-le 5 n (omega arith) few (omega arith)

pub named : (block : ℕ) → block < 10 ^ 5 → is_name (name_of_block block) ≡ true
named block few =
    let short : length (decimal block) ≤ 5 = short_number block few in
    rw (le-leb 1 (length (name_of_block block)) (omega arith), le-leb (length (name_of_block block)) 16 (omega arith), digits_pass is_name_char digit_named (decimal block) (digits_of block (omega arith))) refl
