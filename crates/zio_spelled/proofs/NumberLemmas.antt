-- Numerals: a number's digits are the only word that spells it.
use Rattle.std.proofs.Common.{◌≡◌, ◌<◌, ◌≤◌, ◌^◌, ◌==◌, ◌++◌, ℕ, zero, suc, List, [], ◌∷◌, length, get_or, refl, sym, ap, ◌∙◌, Bool, true, false, not, ◌&&◌, nat_lt, Some, arith, ltb-true}
use Rattle.std.specs.Prelude.{decimal}
use Rattle.std.specs.Bool.{then_some}
use Rattle.std.specs.Char.{digit_value, is_digit}
use Rattle.std.specs.List.{list_all}
use Rattle.std.specs.Str.Parse.{AllDigits, digits_value}
use Rattle.std.proofs.lemmas.Bool.{and_from, and_parts, eq-eqb, false_from_ne_true, lt-ltb, ne_eqb}
use Rattle.std.proofs.lemmas.Fmt.{decimal_digit, decimal_is_IsNumeral, decimal_nonempty, first_decimal, decimal-digits_value}
use Rattle.std.proofs.lemmas.Slice.Eq.{bytes_eq-Decides}
use Rattle.std.proofs.lemmas.Str.Parse.{IsNumeralModel, digit_from_value, numerals_by_value, tells_digits}
use Rattle.zio_script.specs.Words.{Word, has_leading_zero, is_empty, is_numeral, is_word}
use Rattle.zio_spelled.specs.Reading.{number_below}
use Rattle.zio_spelled.proofs.PartLemmas.{Dark, Free}

-- the byte is no decimal digit
abbrev pub IsOther : ℕ → Type 0
IsOther x = (c : ℕ) → 48 ≤ c → c ≤ 57 → c ≡ x → ⊥

abbrev is_decimal : ℕ → Bool
is_decimal c = is_digit c 10

-- ---- digits

digits_pass : (digits : List ℕ) → AllDigits 10 digits → list_all is_decimal digits ≡ true
digits_pass [] all = refl
digits_pass (c ∷ cs) all = and_from (is_decimal c) (list_all is_decimal cs) (lt-ltb (digit_value c) 10 all.0) (digits_pass cs all.1)

pub digits_of : (n : ℕ) → n < 2 ^ 64 → AllDigits 10 (decimal n)
digits_of n fits = (decimal_is_IsNumeral n fits).0.1

free_digits : (x : ℕ) → IsOther x → (digits : List ℕ) → AllDigits 10 digits → Free x digits
free_digits x other [] all = tt
free_digits x other (c ∷ cs) all =
    let range = digit_from_value c all.0 in
    (ne_eqb c x (λ e. other c (omega arith) (omega arith) e), free_digits x other cs all.1)

-- another byte doesn't occur in a number
pub free_decimal : (x n : ℕ) → IsOther x → n < 2 ^ 64 → Free x (decimal n)
free_decimal x n other fits = free_digits x other (decimal n) (digits_of n fits)

dark_digits : (digits : List ℕ) → AllDigits 10 digits → Dark digits
dark_digits [] all = tt
dark_digits (c ∷ cs) all =
    let range = digit_from_value c all.0 in
    (omega arith, dark_digits cs all.1)

-- a number is dark
pub dark_decimal : (n : ℕ) → n < 2 ^ 64 → Dark (decimal n)
dark_decimal n fits = dark_digits (decimal n) (digits_of n fits)

heads : (x c : ℕ) (xs cs : Word) → ◌≡◌ {A = List ℕ} (x ∷ xs) (c ∷ cs) → x ≡ c
heads x c xs cs same = cc

other_digits : (x : ℕ) (xs digits rest : Word) → IsOther x → 0 < length digits → AllDigits 10 digits → x ∷ xs ≡ digits ++ rest → ⊥
other_digits x xs [] rest other some all same = absurd (omega arith)
other_digits x xs (c ∷ cs) rest other some all same =
    let range = digit_from_value c all.0 in
    other c (omega arith) (omega arith) (sym (heads x c xs (cs ++ rest) same))

-- a word that begins with another byte is none that begins with a number
pub other_word : (x : ℕ) (xs : Word) (n : ℕ) (rest : Word) → IsOther x → n < 2 ^ 64 → is_word (x ∷ xs) (decimal n ++ rest) ≡ false
other_word x xs n rest other fits =
    false_from_ne_true (is_word (x ∷ xs) (decimal n ++ rest))
    (λ is. other_digits x xs (decimal n) rest other (decimal_nonempty n fits) (digits_of n fits) ((bytes_eq-Decides (x ∷ xs) (decimal n ++ rest)).0 is))

-- ---- numerals

some_digits : (digits : List ℕ) → 0 < length digits → not (is_empty digits) ≡ true
some_digits [] some = absurd (omega arith)
some_digits (c ∷ cs) some = refl

no_zero : (digits : List ℕ) → 48 < get_or digits 0 0 → has_leading_zero digits ≡ false
no_zero [] above = refl
no_zero (c ∷ cs) above = rw (ne_eqb c 48 (λ e. omega arith)) refl

no_leading_zero : (n : ℕ) → n < 2 ^ 64 → has_leading_zero (decimal n) ≡ false
no_leading_zero zero fits = ap has_leading_zero (decimal_digit 0 (omega arith))
no_leading_zero (suc n) fits = no_zero (decimal (suc n)) (first_decimal (suc n) (omega arith) fits)

numeral_decimal : (n : ℕ) → n < 2 ^ 64 → is_numeral (decimal n) ≡ true
numeral_decimal n fits =
    rw (some_digits (decimal n) (decimal_nonempty n fits), digits_pass (decimal n) (digits_of n fits), no_leading_zero n fits) refl

-- a number's digits spell the number
pub number_of_decimal : (limit n : ℕ) → n < limit → limit ≤ 2 ^ 64 → number_below limit (decimal n) ≡ Some n
number_of_decimal limit n below small =
    let fits : n < 2 ^ 64 = omega arith in
    rw (numeral_decimal n fits, (decimal_is_IsNumeral n fits).1, lt-ltb n limit below) refl

-- ---- a word that spells a number

then_some_is : {X : Type 0} (b : Bool) (x y : X) → then_some b x ≡ Some y → (b ≡ true) × (x ≡ y)
then_some_is true x y is = (refl, cc)
then_some_is false x y is = cc

not_empty : (word : Word) → not (is_empty word) ≡ true → 0 < length word
not_empty [] some = cc
not_empty (c ∷ cs) some = omega arith

zeros_clash : (b : Bool) → b ≡ true → not (b && true) ≡ true → ⊥
zeros_clash true is h = cc
zeros_clash false is h = cc

lone_zero : (word : Word) → not (has_leading_zero word) ≡ true → get_or word 0 0 ≡ 48 → length word ≡ 1
lone_zero [] none first = absurd (omega arith)
lone_zero (c ∷ []) none first = refl
lone_zero (c ∷ next ∷ cs) none first = absurd (zeros_clash (c == 48) (eq-eqb c 48 first) none)

all_digits : (word : Word) → list_all is_decimal word ≡ true → AllDigits 10 word
all_digits [] all = tt
all_digits (c ∷ cs) all =
    let parts = and_parts (is_decimal c) (list_all is_decimal cs) all in
    (ltb-true (digit_value c) 10 parts.0, all_digits cs parts.1)

decimals : IsNumeralModel (AllDigits 10) (digits_value 10)
decimals = numerals_by_value (AllDigits 10) tells_digits

-- a word that spells a number below the limit
pub record IsSpelledBy (limit : ℕ) (word : Word) (n : ℕ) : Type 0 where
  pub word_is : word ≡ decimal n
  pub below : n < limit

-- the word is the number's digits
pub decimal_of_number : (limit : ℕ) (word : Word) (n : ℕ) → limit ≤ 2 ^ 64 → number_below limit word ≡ Some n → IsSpelledBy limit word n
decimal_of_number limit word n small is =
    let parts = then_some_is (is_numeral word && nat_lt (digits_value 10 word) limit) (digits_value 10 word) n is in
    let tests = and_parts (is_numeral word) (nat_lt (digits_value 10 word) limit) parts.0 in
    let numeral = and_parts (not (is_empty word) && list_all is_decimal word) (not (has_leading_zero word)) tests.0 in
    let digits = and_parts (not (is_empty word)) (list_all is_decimal word) numeral.0 in
    let below : digits_value 10 word < limit = ltb-true (digits_value 10 word) limit tests.1 in
    let whole : decimal (digits_value 10 word) ≡ word =
    decimal-digits_value decimals word (all_digits word digits.1) (not_empty word digits.0) (lone_zero word numeral.1) (omega arith) in
    let value : digits_value 10 word ≡ n = parts.1 in
    record { word_is = sym whole ∙ ap decimal value; below = omega arith }
