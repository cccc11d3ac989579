-- The members of a gang add up to its block, in whole sectors, and don't grow.
use Rattle.std.proofs.Common.{◌≡◌, ℕ, zero, suc, ◌+◌, ◌-◌, ◌*◌, ◌/◌, ◌%◌, ◌<◌, ◌≤◌, List, [], ◌∷◌, length, sum, filter, AllPairs, Bool, true, false, cond, nat_lt, refl, sym, ap, ◌∙◌, subst, arith, ltb-true, ltb-false}
use Rattle.std.specs.List.{AllByRecursion}
use Rattle.std.proofs.lemmas.List.Elements.{All-from_recursion}
use Rattle.std.proofs.lemmas.List.Sums.{sum_by-cons}
use Rattle.zio_cksum.proofs.AllLemmas.{all_filter, all_weaker}
use Rattle.zio_cksum.specs.Headers.{first_size, second_size, third_size, split_sizes}

-- ---- what a filter keeps

-- each number is at least as large as those behind it
abbrev Falls : List ℕ → Type 0
Falls [] = Unit {0}
Falls (x ∷ xs) = AllByRecursion (λ y. y ≤ x) xs × Falls xs

-- a filter keeps the order
falls_cond : (t : Bool) (x : ℕ) (xs : List ℕ) → AllByRecursion (λ y. y ≤ x) xs → Falls xs → Falls (cond t (x ∷ xs) xs)
falls_cond true x xs a h = (a, h)
falls_cond false x xs a h = h

falls_filter : (test : ℕ → Bool) (xs : List ℕ) → Falls xs → Falls (filter test xs)
falls_filter test [] h = tt
falls_filter test (x ∷ xs) h =
    falls_cond (test x) x (filter test xs)
    (all_filter (λ y. y ≤ x) test xs (all_weaker (λ y. y ≤ x) (λ y. test y ≡ true → y ≤ x) xs (λ y p e. p) h.0))
    (falls_filter test xs h.1)

-- so of any two items the later is at most the earlier
pairs_fall : (xs : List ℕ) → Falls xs → AllPairs (λ a b. b ≤ a) xs
pairs_fall [] h i j d lt in' = absurd (omega arith)
pairs_fall (x ∷ xs) h zero zero d lt in' = absurd (omega arith)
pairs_fall (x ∷ xs) h zero (suc j) d lt in' = All-from_recursion (λ y. y ≤ x) xs h.0 j d (omega arith)
pairs_fall (x ∷ xs) h (suc i) zero d lt in' = absurd (omega arith)
pairs_fall (x ∷ xs) h (suc i) (suc j) d lt in' = pairs_fall xs h.1 i j d (omega arith) (omega arith)

sum_cond : (t : Bool) (x : ℕ) (xs : List ℕ) → (t ≡ false → x ≡ 0) → sum (cond t (x ∷ xs) xs) ≡ x + sum xs
sum_cond true x xs z = sum_by-cons (λ y. y) x xs
sum_cond false x xs z = let e : x ≡ 0 = z refl in omega arith

-- what a filter drops adds nothing, where all that it drops is 0
sum_filter : (xs : List ℕ) → sum (filter (λ n. nat_lt 0 n) xs) ≡ sum xs
sum_filter [] = refl
sum_filter (x ∷ xs) =
    let e : sum (cond (nat_lt 0 x) (x ∷ filter (λ n. nat_lt 0 n) xs) (filter (λ n. nat_lt 0 n) xs)) ≡ x + sum (filter (λ n. nat_lt 0 n) xs) =
    sum_cond (nat_lt 0 x) x (filter (λ n. nat_lt 0 n) xs) (λ z. let l : x ≤ 0 = ltb-false 0 x z in omega arith) in
    let r : sum (filter (λ n. nat_lt 0 n) xs) ≡ sum xs = sum_filter xs in
    let s : sum (x ∷ xs) ≡ x + sum xs = sum_by-cons (λ y. y) x xs in
    omega arith

-- a filter keeps no more than there is
length_cond : {X : Type 0} (t : Bool) (x : X) (xs : List X) → length (cond t (x ∷ xs) xs) ≤ suc (length xs)
length_cond true x xs = omega arith
length_cond false x xs = omega arith

length_filter : {X : Type 0} (test : X → Bool) (xs : List X) → length (filter test xs) ≤ length xs
length_filter test [] = omega arith
length_filter test (x ∷ xs) = omega (arith, length_cond (test x) x (filter test xs), length_filter test xs)

-- ---- the three sizes

-- the first member has a third of the sectors, rounded up
first_is : (k : ℕ) → first_size (512 * k) ≡ 512 * ((k + 2) / 3)
first_is k = omega arith

-- half of what is left, rounded up
half_is : (r : ℕ) → (512 * r / 2 + 511) / 512 * 512 ≡ 512 * ((r + 1) / 2)
half_is r = omega arith

-- whole sectors stay as they are
whole_is : (r : ℕ) → (512 * r + 511) / 512 * 512 ≡ 512 * r
whole_is r = omega arith

-- the sizes in sectors
record Shares (size a b c : ℕ) : Type 0 where
  first : first_size size ≡ 512 * a
  second : second_size size ≡ 512 * b
  third : third_size size ≡ 512 * c
  total : 512 * (a + b + c) ≡ size
  first_second : b ≤ a
  second_third : c ≤ b

-- a number of whole sectors is shared so: a third, half of the rest, and the rest, the first two rounded up
shares_of : (k a b c : ℕ) → a ≡ (k + 2) / 3 → b ≡ (k - a + 1) / 2 → c ≡ k - a - b → Shares (512 * k) a b c
shares_of k a b c ea eb ec =
    let f : first_size (512 * k) ≡ 512 * a = first_is k ∙ ap (λ n. 512 * n) (sym ea) in
    let left : 512 * k - first_size (512 * k) ≡ 512 * (k - a) = omega arith in
    let s : second_size (512 * k) ≡ 512 * b =
    ap (λ n. (n / 2 + 511) / 512 * 512) left ∙ half_is (k - a) ∙ ap (λ n. 512 * n) (sym eb) in
    let last : 512 * k - first_size (512 * k) - second_size (512 * k) ≡ 512 * c = omega arith in
    let t : third_size (512 * k) ≡ 512 * c = ap (λ n. (n + 511) / 512 * 512) last ∙ whole_is c in
    record {
      first = f;
      second = s;
      third = t;
      total = omega arith;
      first_second = omega arith;
      second_third = omega arith;
    }

-- some numbers of sectors for the three
record Sizes (size : ℕ) : Type 0 where
  a : ℕ
  b : ℕ
  c : ℕ
  shares : Shares size a b c

-- each number of whole sectors has them
sizes_of : (size : ℕ) → size % 512 ≡ 0 → Sizes size
sizes_of size h =
    let k : ℕ = size / 512 in
    let e : 512 * k ≡ size = omega arith in
    let P : ℕ → Type 0 = λ n. Shares n ((k + 2) / 3) ((k - (k + 2) / 3 + 1) / 2) (k - (k + 2) / 3 - (k - (k + 2) / 3 + 1) / 2) in
    record {
      a = (k + 2) / 3;
      b = (k - (k + 2) / 3 + 1) / 2;
      c = k - (k + 2) / 3 - (k - (k + 2) / 3 + 1) / 2;
      shares = subst P e (shares_of k _ _ _ refl refl refl);
    }

-- the sizes with those of nothing
abbrev all_sizes : ℕ → List ℕ
all_sizes size = first_size size ∷ second_size size ∷ third_size size ∷ []

-- ---- the law's clauses

sum_sizes : (size : ℕ) → Sizes size → sum (all_sizes size) ≡ size
sum_sizes size w = omega (arith, w.shares.first, w.shares.second, w.shares.third, w.shares.total)

pub total_law : (size : ℕ) → size % 512 ≡ 0 → sum (split_sizes size) ≡ size
total_law size h = sum_filter (all_sizes size) ∙ sum_sizes size (sizes_of size h)

pub whole_law : (size : ℕ) → size % 512 ≡ 0 → AllByRecursion (λ n. (0 < n) × (n % 512 ≡ 0)) (split_sizes size)
whole_law size h =
    let w = sizes_of size h in
    all_filter (λ n. (0 < n) × (n % 512 ≡ 0)) (λ n. nat_lt 0 n) (all_sizes size) (
      (λ t. (ltb-true 0 (first_size size) t, omega (arith, w.shares.first))),
      (
        (λ t. (ltb-true 0 (second_size size) t, omega (arith, w.shares.second))),
        ((λ t. (ltb-true 0 (third_size size) t, omega (arith, w.shares.third))), tt),
      ),
    )

pub falling_law : (size : ℕ) → size % 512 ≡ 0 → AllPairs (λ a b. b ≤ a) (split_sizes size)
falling_law size h =
    let w = sizes_of size h in
    let ab : second_size size ≤ first_size size = omega (arith, w.shares.first, w.shares.second, w.shares.first_second) in
    let bc : third_size size ≤ second_size size = omega (arith, w.shares.second, w.shares.third, w.shares.second_third) in
    let ac : third_size size ≤ first_size size = omega arith in
    pairs_fall (split_sizes size) (falls_filter (λ n. nat_lt 0 n) (all_sizes size) ((ab, (ac, tt)), ((bc, tt), (tt, tt))))

-- of two sectors or more a third, rounded up, is less than all
third_smaller : (size : ℕ) → size % 512 ≡ 0 → 512 < size → first_size size < size
third_smaller size h more = omega arith

pub smaller_law : (size : ℕ) → size % 512 ≡ 0 → 512 < size → AllByRecursion (λ n. n < size) (split_sizes size)
smaller_law size h more =
    let w = sizes_of size h in
    let a : first_size size < size = third_smaller size h more in
    let b : second_size size < size = omega (arith, w.shares.first, w.shares.second, w.shares.first_second) in
    let c : third_size size < size = omega (arith, w.shares.second, w.shares.third, w.shares.second_third) in
    all_filter (λ n. n < size) (λ n. nat_lt 0 n) (all_sizes size)
    ((λ _. a), ((λ _. b), ((λ _. c), tt)))

pub few_law : (size : ℕ) → length (split_sizes size) ≤ 3
few_law size = length_filter (λ n. nat_lt 0 n) (all_sizes size)
