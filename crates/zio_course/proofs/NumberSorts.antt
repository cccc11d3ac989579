-- Requests that finished, put in the order of their numbers.
use Rattle.std.proofs.Common.{◌≡◌, ◌≢◌, ℕ, suc, ◌+◌, ◌<◌, ◌≤◌, List, [], ◌∷◌, length, map, cond, get_or, Bool, true, false, ◌==◌, eqb, eq-eqb, refl, sym, ap, ◌∙◌, arith}
use Rattle.std.specs.Prelude.{Contains, IsPermutation}
use Rattle.std.specs.List.{AllByRecursion}
use Rattle.std.specs.List.Sorted.{IsNonDecreasingBy}
use Rattle.std.proofs.lemmas.List.Elements.{All-from_recursion, recursion_from_All}
use Rattle.std.proofs.lemmas.List.Sorted.{All-permutation, IsPermutation-map, IsPermutation-sym, sum_by-IsPermutation}
use Rattle.std.proofs.lemmas.List.Sums.{sum_by-cons}
use Rattle.zio_cksum.proofs.AllLemmas.{all_contained, all_weaker}
use Rattle.zio_gang.specs.ByNumber.{merge_by}
use Rattle.zio_gang.proofs.FateLemmas.{tally}
use Rattle.zio_course.specs.declared.runner.RequestEnd.{RequestEnd}
use Rattle.zio_course.specs.Runners.{AreRisingFrom, is_numbered}
use Rattle.zio_course.proofs.SortLemmas.{IsOneOf, IsRisingBy, one_if, one_itself, sorted_is}
use Rattle.zio_course.proofs.NumberCounts.{counted, ends_numbers}

abbrev number : RequestEnd → ℕ
number f = f.request

pub all_moved : {X : Type 0} (P : X → Type 0) (xs ys : List X) → IsPermutation xs ys → AllByRecursion P xs → AllByRecursion P ys
all_moved P xs ys moved h = recursion_from_All P ys (All-permutation P xs ys moved (All-from_recursion P xs h))

counted_more : (n x : ℕ) (xs : List ℕ) → counted n (x ∷ xs) ≡ cond {A = ℕ} (x == n) 1 0 + counted n xs
counted_more n x xs = sum_by-cons (λ m. cond {A = ℕ} (is_numbered n m) 1 0) x xs

pub counted_moved : (n : ℕ) (xs ys : List RequestEnd) → IsPermutation xs ys → counted n (ends_numbers ys) ≡ counted n (ends_numbers xs)
counted_moved n xs ys moved = sum_by-IsPermutation (λ m. cond {A = ℕ} (is_numbered n m) 1 0) (ends_numbers xs) (ends_numbers ys) (IsPermutation-map number xs ys moved)

above : (n : ℕ) (xs : List RequestEnd) → ((j : ℕ) (d : RequestEnd) → j < length xs → n ≤ number (get_or xs j d)) → counted n (ends_numbers xs) ≤ 0 → AllByRecursion (λ (y : RequestEnd). n < number y) xs
above n [] h c = tt
above n (y ∷ ys) h c =
    let all = counted_more n y.request (ends_numbers ys) in
    let other : y.request ≢ n = λ e. (let one : cond {A = ℕ} (y.request == n) 1 0 ≡ 1 = ap (λ b. cond {A = ℕ} b 1 0) (eq-eqb y.request n e) in omega arith) in
    let low : n ≤ y.request = h 0 y (omega arith) in
    (omega arith, above n ys (λ j d lt. h (suc j) d (omega arith)) (omega arith))

pub rising_by : (xs : List RequestEnd) → IsNonDecreasingBy number xs → ((n : ℕ) → counted n (ends_numbers xs) ≤ 1) → IsRisingBy number xs
rising_by [] h once = tt
rising_by (x ∷ xs) h once = (
  above x.request xs (λ j d lt. h 0 (suc j) d (omega arith) (omega arith))
      (let all = counted_more x.request x.request (ends_numbers xs) in
      let one : cond {A = ℕ} (x.request == x.request) 1 0 ≡ 1 = ap (λ b. cond {A = ℕ} b 1 0) (eq-eqb x.request x.request refl) in
      let most = once x.request in omega arith),
  rising_by xs (λ i j d le lt. h (suc i) (suc j) d (omega arith) (omega arith))
      (λ n. (let all = counted_more n x.request (ends_numbers xs) in let most = once n in omega arith)),
)

rising_from : (least : ℕ) (xs : List RequestEnd) → AllByRecursion (λ (y : RequestEnd). least ≤ number y) xs → IsRisingBy number xs → AreRisingFrom least (ends_numbers xs)
rising_from least [] h r = tt
rising_from least (x ∷ xs) h r = (h.0, rising_from (x.request + 1) xs (all_weaker (λ (y : RequestEnd). x.request < number y) (λ (y : RequestEnd). x.request + 1 ≤ number y) xs (λ y lt. omega arith) r.0) r.1)

all_low : (xs : List RequestEnd) → AllByRecursion (λ (y : RequestEnd). 0 ≤ number y) xs
all_low [] = tt
all_low (x ∷ xs) = (omega arith, all_low xs)

pub numbers_rise : (xs : List RequestEnd) → IsRisingBy number xs → AreRisingFrom 0 (ends_numbers xs)
numbers_rise xs r = rising_from 0 xs (all_low xs) r

one_if_is : (b : Bool) → one_if b ≡ cond {A = ℕ} b 1 0
one_if_is true = refl
one_if_is false = refl

tally_is : (n : ℕ) (xs : List RequestEnd) → tally (λ (x : RequestEnd). one_if (eqb (number x) n)) xs ≡ counted n (ends_numbers xs)
tally_is n [] = refl
tally_is n (x ∷ xs) =
    ap (λ m. m + tally (λ (y : RequestEnd). one_if (eqb (number y) n)) xs) (one_if_is (eqb x.request n)) ∙ ap (λ m. cond {A = ℕ} (eqb x.request n) 1 0 + m) (tally_is n xs)
    ∙ sym (counted_more n x.request (ends_numbers xs))

-- a sort by number is the merge by number
pub merged_is : (xs ys : List RequestEnd) → IsPermutation xs ys → IsRisingBy number ys → ys ≡ merge_by number xs []
merged_is xs ys moved rising =
    sym (sorted_is number ys xs rising (all_moved (λ x. IsOneOf x ys) ys xs (IsPermutation-sym xs ys moved) (one_itself ys))
    (λ n. tally_is n xs ∙ sym (counted_moved n xs ys moved) ∙ sym (tally_is n ys)))

-- the same items, one list's in the other
pub all_there : {X Y : Type 0} (f : X → Y) (xs ys : List X) → IsPermutation xs ys → AllByRecursion (Contains (map f ys)) (map f xs)
all_there f xs ys moved = all_moved (Contains (map f ys)) (map f ys) (map f xs) (IsPermutation-sym (map f xs) (map f ys) (IsPermutation-map f xs ys moved)) (all_contained (map f ys))
