-- Words that are numerals.
use Rattle.std.proofs.Common.{◌≡◌, ◌≢◌, ◌<◌, ◌≤◌, ◌^◌, ℕ, zero, suc, List, [], ◌∷◌, length, get_or, Bool, true, false, Option, Some, None, Result, Ok, Err, refl, sym, ap, ◌∙◌, subst, arith, ◌&&◌, nat_le}
use Rattle.std.specs.Prelude.{decimal, codes, MatchOption, bytes_eq}
use Rattle.std.specs.Result.{result_ok}
use Rattle.std.specs.Char.{digit_value}
use Rattle.std.specs.Str.Parse.{AllDigits, ParsesUnsigned, digits_value}
use Rattle.std.proofs.lemmas.Bool.{le-leb, leb-true}
use Rattle.std.proofs.lemmas.Slice.Eq.{bytes_eq-Decides}
use Rattle.std.proofs.lemmas.Fmt.{decimal-digits_value, decimal_digit, decimal_injective, decimal_is_IsNumeral, first_decimal, parse-decimal}
use Rattle.std.proofs.lemmas.Str.Parse.{IsNumeralModel, digit_from_value, numerals_by_value, parse_plain, tells_digits}
use Rattle.zio_command.specs.Words.{begins_with_digit}

decimals : IsNumeralModel (AllDigits 10) (digits_value 10)
decimals = numerals_by_value (AllDigits 10) tells_digits

and_first : (a b : Bool) → (a && b) ≡ true → (a ≡ true) × (b ≡ true)
and_first true b h = (refl, h)
and_first false b h = absurd (let no : false ≡ true = h in cc)

both : (a b : Bool) → a ≡ true → b ≡ true → (a && b) ≡ true
both a b h k = rw h k

first_digit : (bs : List ℕ) → begins_with_digit bs ≡ true → (48 < get_or bs 0 0) × (0 < length bs)
first_digit [] h = absurd (let no : false ≡ true = h in cc)
first_digit (c ∷ cs) h =
    let low : 49 ≤ c = leb-true 49 c (and_first (nat_le 49 c) (nat_le c 57) h).0 in
    (omega arith, omega arith)

-- what was read of such a word is what it spells
spelled : (E : Type 0) (bs : List ℕ) (n : ℕ) → begins_with_digit bs ≡ true → ParsesUnsigned {E = E} 64 10 bs (Ok n) → (bs ≡ decimal n) × (n < 2 ^ 64)
spelled E bs n begins parses =
    let first = first_digit bs begins in
    let no_plus : get_or bs 0 0 ≢ 43 = omega arith in
    let read = parse_plain decimals {E = E} 64 bs (Ok n) parses no_plus in
    let fits : digits_value 10 bs < 2 ^ 64 = read.0.2 in
    let value : n ≡ digits_value 10 bs = read.1 in
    (sym (ap decimal value ∙ decimal-digits_value decimals bs read.0.0 first.1 (λ nil. absurd (omega arith)) (omega arith)), omega arith)

-- and where nothing was read it spells no number
not_spelled : (E : Type 0) (bs : List ℕ) (e : E) (n : ℕ) → n < 2 ^ 64 → ParsesUnsigned {E = E} 64 10 bs (Err e) → bs ≡ decimal n → ⊥
not_spelled E bs e n fits parses same =
    let read : Err e ≡ Ok n = parse-decimal 64 n bs (Err e) fits (omega arith) same parses in
    cc

digit_high : (c : ℕ) → digit_value c < 10 → c ≤ 57
digit_high c digit = let range = digit_from_value c digit in omega arith

starts : (bs : List ℕ) → 48 < get_or bs 0 0 → AllDigits 10 bs → begins_with_digit bs ≡ true
starts [] low all = absurd (omega arith)
starts (c ∷ cs) low all =
    let high : c ≤ 57 = digit_high c all.0 in
    both (nat_le 49 c) (nat_le c 57) (le-leb 49 c low) (le-leb c 57 high)

-- a word that begins otherwise spells none
pub no_digit : (bs : List ℕ) (n : ℕ) → bytes_eq bs (codes "0") ≡ false → begins_with_digit bs ≡ false → n < 2 ^ 64 → bs ≡ decimal n → ⊥
no_digit bs zero other begins fits same =
    let is : bs ≡ codes "0" = same ∙ decimal_digit 0 (omega arith) in
    let yes : bytes_eq bs (codes "0") ≡ true = (bytes_eq-Decides bs (codes "0")).1 is in
    let no : false ≡ true = sym other ∙ yes in
    cc
no_digit bs (suc n) other begins fits same =
    let low : 48 < get_or (decimal (suc n)) 0 0 = first_decimal (suc n) (omega arith) (omega arith) in
    let digits = (decimal_is_IsNumeral (suc n) (omega arith)).0 in
    let is : begins_with_digit bs ≡ true = subst (λ (xs : List ℕ). begins_with_digit xs ≡ true) (sym same) (starts (decimal (suc n)) low digits.1) in
    let no : false ≡ true = sym begins ∙ is in
    cc

pub read_number : {E : Type 0} (bs : List ℕ) (r : Result ℕ E) → begins_with_digit bs ≡ true → ParsesUnsigned 64 10 bs r
    → MatchOption (result_ok r) ((n : ℕ) → n < 2 ^ 64 → bs ≢ decimal n) (λ n. (bs ≡ decimal n) × (n < 2 ^ 64))
read_number {E} bs (Ok n) begins parses = spelled E bs n begins parses
read_number {E} bs (Err e) begins parses = λ n fits same. not_spelled E bs e n fits parses same

pub zero_word : (bs : List ℕ) (b : Bool) → b ≡ bytes_eq bs (codes "0") → b ≡ true → (bs ≡ decimal 0) × (0 < 2 ^ 64)
zero_word bs b e h = ((bytes_eq-Decides bs (codes "0")).0 (sym e ∙ h) ∙ sym (decimal_digit 0 (omega arith)), omega arith)

-- a numeral is read as its number
pub number_is : (word : List ℕ) (read : Option ℕ) (n : ℕ) → MatchOption read ((m : ℕ) → m < 2 ^ 64 → word ≢ decimal m) (λ m. (word ≡ decimal m) × (m < 2 ^ 64))
    → n < 2 ^ 64 → word ≡ decimal n → read ≡ Some n
number_is word None n is fits same = absurd (is n fits same)
number_is word (Some m) n is fits same = ap Some (decimal_injective m n is.1 fits (sym is.0 ∙ same))
