-- The line of completions is read exactly where it is the text of some requests.
use Rattle.std.proofs.Common.{◌≡◌, ◌<◌, ◌^◌, ◌++◌, ℕ, List, [], ◌∷◌, length, refl, sym, ap, subst, ◌∙◌, true, Option, Some, None, arith, append_assoc}
use Rattle.std.specs.Prelude.{MatchOption, codes, decimal, map, not}
use Rattle.std.specs.Bool.{then_some}
use Rattle.std.specs.List.{AllByRecursion, flat_map}
use Rattle.std.proofs.lemmas.List.{append-nil}
use Rattle.zio_script.specs.Lines.{◌>>=◌}
use Rattle.zio_script.specs.Words.{Word, is_empty}
use Rattle.zio_report.specs.Lines.{spaced}
use Rattle.zio_spelled.specs.Spelled.{IsOrder, order_line, parts_of}
use Rattle.zio_spelled.specs.Reading.{behind, number_in, numbers_onto, order_in}
use Rattle.zio_spelled.proofs.PartLemmas.{Dark, Free, dark_from, free_all, free_append, free_joined, free_of_dark, joined, same_parts, split_joined}
use Rattle.zio_spelled.proofs.NumberLemmas.{dark_decimal, decimal_of_number, number_of_decimal}
use Rattle.zio_spelled.proofs.WordLemmas.{bind_some, cons_same, none_is, then_some_is}
use Rattle.zio_spelled.proofs.ShapeLemmas.{behind_by}

orders_joined : (numbers : List ℕ) → flat_map (λ n. spaced (decimal n)) numbers ≡ joined 32 (map decimal numbers)
orders_joined [] = refl
orders_joined (n ∷ numbers) = ap (λ (rest : List ℕ). spaced (decimal n) ++ rest) (orders_joined numbers)

dark_numbers : (numbers : List ℕ) → AllByRecursion (λ n. n < 2 ^ 32) numbers → AllByRecursion Dark (map decimal numbers)
dark_numbers [] fits = tt
dark_numbers (n ∷ numbers) fits =
    let below : n < 2 ^ 32 = fits.0 in
    (dark_decimal n (omega arith), dark_numbers numbers fits.1)

pub order_parts : (numbers : List ℕ) → AllByRecursion (λ n. n < 2 ^ 32) numbers → parts_of (order_line numbers) ≡ codes "order" ∷ map decimal numbers
order_parts numbers fits =
    ap (λ (rest : List ℕ). parts_of (codes "order" ++ rest)) (orders_joined numbers)
    ∙ split_joined 32 (codes "order") (map decimal numbers) (free_of_dark 32 (omega arith) (codes "order") (dark_from (codes "order") refl))
    (free_all 32 (omega arith) (map decimal numbers) (dark_numbers numbers fits))

-- a newline doesn't occur in the line
pub order_one_line : (numbers : List ℕ) → AllByRecursion (λ n. n < 2 ^ 32) numbers → Free 10 (order_line numbers)
order_one_line numbers fits =
    subst (λ (rest : List ℕ). Free 10 (codes "order" ++ rest)) (sym (orders_joined numbers))
    (free_append 10 (codes "order") (joined 32 (map decimal numbers)) (free_of_dark 10 (omega arith) (codes "order") (dark_from (codes "order") refl)) (free_joined (map decimal numbers) (dark_numbers numbers fits)))

-- the numbers of these words were put behind the others
pub record AreNumbers (numbers : List ℕ) (words : List Word) (all : List ℕ) : Type 0 where
  pub more : List ℕ
  pub words_are : words ≡ map decimal more
  pub whole : all ≡ numbers ++ more
  pub fits : AllByRecursion (λ n. n < 2 ^ 32) more
  pub some : 0 < length all

some_numbers : (numbers : List ℕ) → not (is_empty numbers) ≡ true → 0 < length numbers
some_numbers [] some = cc
some_numbers (n ∷ numbers) some = omega arith

numbers_are : (numbers : List ℕ) (words : List Word) (all : List ℕ) → numbers_onto numbers words ≡ Some all → AreNumbers numbers words all
numbers_are numbers [] all is =
    let end = then_some_is (not (is_empty numbers)) numbers all is in
    let some : 0 < length numbers = some_numbers numbers end.0 in
    record {
      more = [];
      words_are = refl;
      whole = sym end.1 ∙ sym (append-nil numbers);
      fits = tt;
      some = subst (λ (ns : List ℕ). 0 < length ns) end.1 some;
    }
numbers_are numbers (word ∷ words) all is =
    bind_some (number_in word) (λ n. numbers_onto (numbers ++ n ∷ []) words) all is (λ n first rest.
    let spelled = decimal_of_number (2 ^ 32) word n (omega arith) first in
    let others = numbers_are (numbers ++ n ∷ []) words all rest in
    record {
      more = n ∷ others.more;
      words_are = cons_same word (decimal n) words (map decimal others.more) spelled.word_is others.words_are;
      whole = others.whole ∙ append_assoc numbers (n ∷ []) others.more;
      fits = (spelled.below, others.fits);
      some = others.some;
    })

not_empty : (numbers : List ℕ) → 0 < length numbers → not (is_empty numbers) ≡ true
not_empty [] some = absurd (omega arith)
not_empty (n ∷ numbers) some = refl

numbers_read : (numbers more : List ℕ) → AllByRecursion (λ n. n < 2 ^ 32) more → 0 < length (numbers ++ more) → numbers_onto numbers (map decimal more) ≡ Some (numbers ++ more)
numbers_read numbers [] fits some =
    let same : numbers ++ [] ≡ numbers = append-nil numbers in
    let there : 0 < length numbers = subst (λ (ns : List ℕ). 0 < length ns) same some in
    ap (λ b. then_some b numbers) (not_empty numbers there) ∙ ap Some (sym same)
numbers_read numbers (n ∷ more) fits some =
    let below : n < 2 ^ 32 = fits.0 in
    let same = append_assoc numbers (n ∷ []) more in
    let next = numbers_read (numbers ++ n ∷ []) more fits.1 (subst (λ (ns : List ℕ). 0 < length ns) (sym same) some) in
    ap (λ (o : Option ℕ). o >>= λ m. numbers_onto (numbers ++ m ∷ []) (map decimal more)) (number_of_decimal (2 ^ 32) n below (omega arith))
    ∙ next ∙ ap Some same

pub line_is_order : (line : Word) (numbers : List ℕ) → order_in line ≡ Some numbers → IsOrder line numbers
line_is_order line numbers is =
    let found = behind_by (codes "order") (numbers_onto []) (parts_of line) numbers is in
    let are = numbers_are [] found.0 numbers found.2 in
    let fits : AllByRecursion (λ n. n < 2 ^ 32) numbers = subst (λ (ns : List ℕ). AllByRecursion (λ n. n < 2 ^ 32) ns) (sym are.whole) are.fits in
    record {
      text = same_parts 32 line (order_line numbers)
          (found.1 ∙ ap (λ (ws : List Word). codes "order" ∷ ws) (are.words_are ∙ ap (map decimal) (sym are.whole)) ∙ sym (order_parts numbers fits));
      fits = fits;
      some = are.some;
    }

pub order_line_read : (line : Word) (numbers : List ℕ) → IsOrder line numbers → order_in line ≡ Some numbers
order_line_read line numbers order =
    ap (λ (l : Word). behind (codes "order") (numbers_onto []) (parts_of l)) order.text
    ∙ ap (behind (codes "order") (numbers_onto [])) (order_parts numbers order.fits)
    ∙ numbers_read [] numbers order.fits order.some

-- the line spells the numbers that are read, or none
pub order_exact : (line : Word) (o : Option (List ℕ)) → o ≡ order_in line → MatchOption o ((numbers : List ℕ) → ¬ IsOrder line numbers) (λ numbers. IsOrder line numbers)
order_exact line None is = λ numbers order. none_is numbers (is ∙ order_line_read line numbers order)
order_exact line (Some numbers) is = line_is_order line numbers (sym is)
