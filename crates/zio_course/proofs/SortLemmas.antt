-- Items in the order of their numbers: a list of the items of a rising one is put in order as that.
use Rattle.std.proofs.Common.{◌≡◌, ℕ, ◌+◌, ◌<◌, ◌≤◌, List, [], ◌∷◌, ◌++◌, map, Bool, true, false, eqb, eqb-true, eq-eqb, refl, sym, ap, ◌∙◌, subst, inl, inr, ◌⊎◌, arith}
use Rattle.std.specs.Prelude.{nat_le}
use Rattle.std.specs.List.{AllByRecursion}
use Rattle.std.proofs.lemmas.Bool.{false_from_ne_true, le-leb, lt-leb}
use Rattle.zio_cksum.proofs.AllLemmas.{all_weaker}
use Rattle.zio_gang.specs.ByNumber.{insert_by, insert_if, merge_by}
use Rattle.zio_gang.proofs.FateLemmas.{tally, tally-append}

-- ---- items of a list

-- the item is one of these
abbrev pub IsOneOf : {X : Type 0} → X → List X → Type 0
IsOneOf x [] = ⊥
IsOneOf x (y ∷ ys) = (y ≡ x) ⊎ IsOneOf x ys

pub one_all : {X : Type 0} (P : X → Type 0) (x : X) (xs : List X) → AllByRecursion P xs → IsOneOf x xs → P x
one_all P x [] all at = absurd at
one_all P x (y ∷ ys) all (inl same) = subst P same all.0
one_all P x (y ∷ ys) all (inr at) = one_all P x ys all.1 at

pub all_one : {X : Type 0} (P : X → Type 0) (xs : List X) → ((x : X) → IsOneOf x xs → P x) → AllByRecursion P xs
all_one P [] each = tt
all_one P (x ∷ xs) each = (each x (inl refl), all_one P xs (λ y at. each y (inr at)))

pub one_left : {X : Type 0} (x : X) (xs ys : List X) → IsOneOf x xs → IsOneOf x (xs ++ ys)
one_left x [] ys at = absurd at
one_left x (z ∷ xs) ys (inl same) = inl same
one_left x (z ∷ xs) ys (inr at) = inr (one_left x xs ys at)

pub one_right : {X : Type 0} (x : X) (xs ys : List X) → IsOneOf x ys → IsOneOf x (xs ++ ys)
one_right x [] ys at = at
one_right x (z ∷ xs) ys at = inr (one_right x xs ys at)

pub one_map : {X Y : Type 0} (f : X → Y) (x : X) (xs : List X) → IsOneOf x xs → IsOneOf (f x) (map f xs)
one_map f x [] at = absurd at
one_map f x (y ∷ ys) (inl same) = inl (ap f same)
one_map f x (y ∷ ys) (inr at) = inr (one_map f x ys at)

pub one_itself : {X : Type 0} (xs : List X) → AllByRecursion (λ x. IsOneOf x xs) xs
one_itself xs = all_one (λ x. IsOneOf x xs) xs (λ x at. at)

-- one where the test holds
abbrev pub one_if : Bool → ℕ
one_if true = 1
one_if false = 0

module _ {X : Type 0} (number : X → ℕ) where
  -- how many of the items have the number
  abbrev pub counted : ℕ → List X → ℕ
  counted n xs = tally (λ x. one_if (eqb (number x) n)) xs

  -- each number is below those behind it
  abbrev pub IsRisingBy : List X → Type 0
  IsRisingBy [] = Unit {0}
  IsRisingBy (x ∷ xs) = AllByRecursion (λ y. number x < number y) xs × IsRisingBy xs

  all_insert_if : (b : Bool) (P : X → Type 0) (x y : X) (ys inserted : List X) → P x → AllByRecursion P (y ∷ ys) → AllByRecursion P inserted
      → AllByRecursion P (insert_if b x y ys inserted)
  all_insert_if true P x y ys inserted p h k = (p, h)
  all_insert_if false P x y ys inserted p h k = (h.0, k)

  all_insert : (P : X → Type 0) (x : X) (xs : List X) → P x → AllByRecursion P xs → AllByRecursion P (insert_by number x xs)
  all_insert P x [] p h = (p, tt)
  all_insert P x (y ∷ ys) p h =
      all_insert_if (nat_le (number x) (number y)) P x y ys (insert_by number x ys) p h (all_insert P x ys p h.1)

  -- what holds of all holds of all in order
  pub all_merge : (P : X → Type 0) (xs : List X) → AllByRecursion P xs → AllByRecursion P (merge_by number xs [])
  all_merge P [] h = tt
  all_merge P (x ∷ xs) h = all_insert P x (merge_by number xs []) h.0 (all_merge P xs h.1)

  one_insert_if : (b : Bool) (z x y : X) (ys inserted : List X) → (x ≡ z) ⊎ IsOneOf z (y ∷ ys) → ((x ≡ z) ⊎ IsOneOf z ys → IsOneOf z inserted)
      → IsOneOf z (insert_if b x y ys inserted)
  one_insert_if true z x y ys inserted (inl same) later = inl same
  one_insert_if true z x y ys inserted (inr at) later = inr at
  one_insert_if false z x y ys inserted (inl same) later = inr (later (inl same))
  one_insert_if false z x y ys inserted (inr (inl same)) later = inl same
  one_insert_if false z x y ys inserted (inr (inr at)) later = inr (later (inr at))

  one_insert : (z x : X) (xs : List X) → (x ≡ z) ⊎ IsOneOf z xs → IsOneOf z (insert_by number x xs)
  one_insert z x [] (inl same) = inl same
  one_insert z x [] (inr at) = absurd at
  one_insert z x (y ∷ ys) at = one_insert_if (nat_le (number x) (number y)) z x y ys (insert_by number x ys) at (λ here. one_insert z x ys here)

  -- each item stands there in order too
  pub one_merge : (z : X) (xs : List X) → IsOneOf z xs → IsOneOf z (merge_by number xs [])
  one_merge z [] at = absurd at
  one_merge z (x ∷ xs) (inl same) = one_insert z x (merge_by number xs []) (inl same)
  one_merge z (x ∷ xs) (inr at) = one_insert z x (merge_by number xs []) (inr (one_merge z xs at))

  insert_first : (x : X) (xs : List X) → AllByRecursion (λ y. number x < number y) xs → insert_by number x xs ≡ x ∷ xs
  insert_first x [] h = refl
  insert_first x (y ∷ ys) h =
      let below : number x < number y = h.0 in
      ap (λ (b : Bool). insert_if b x y ys (insert_by number x ys)) (le-leb (number x) (number y) (omega arith))

  insert_behind : (x m : X) (xs : List X) → number m < number x → insert_by number x (m ∷ xs) ≡ m ∷ insert_by number x xs
  insert_behind x m xs h = ap (λ (b : Bool). insert_if b x m xs (insert_by number x xs)) (lt-leb (number x) (number m) h)

  -- wherever the lowest one stands, it comes first
  merge_first : (m : X) (xs ys : List X) → AllByRecursion (λ y. number m < number y) (xs ++ ys)
      → merge_by number (xs ++ m ∷ ys) [] ≡ m ∷ merge_by number (xs ++ ys) []
  merge_first m [] ys h = insert_first m (merge_by number ys []) (all_merge (λ y. number m < number y) ys h)
  merge_first m (x ∷ xs) ys h =
      ap (insert_by number x) (merge_first m xs ys h.1) ∙ insert_behind x m (merge_by number (xs ++ ys) []) h.0

  -- ---- a list of the items of a rising one

  -- an item of this number stands between these
  record Split (n : ℕ) (xs : List X) : Type 0 where
    front : List X
    item : X
    back : List X
    whole : xs ≡ front ++ item ∷ back
    is : number item ≡ n

  split_if : (b : Bool) (n : ℕ) (x : X) (xs : List X) → eqb (number x) n ≡ b → 1 ≤ one_if b + counted n xs → (1 ≤ counted n xs → Split n xs) → Split n (x ∷ xs)
  split_if true n x xs e some later = record { front = []; item = x; back = xs; whole = refl; is = eqb-true (number x) n e }
  split_if false n x xs e some later =
      let s = later (omega arith) in
      record { front = x ∷ s.front; item = s.item; back = s.back; whole = ap (λ (ys : List X). x ∷ ys) s.whole; is = s.is }

  split_at : (n : ℕ) (xs : List X) → 1 ≤ counted n xs → Split n xs
  split_at n [] some = absurd (omega arith)
  split_at n (x ∷ xs) some = split_if (eqb (number x) n) n x xs refl some (λ more. split_at n xs more)

  none_above : (n : ℕ) (xs : List X) → AllByRecursion (λ y. n < number y) xs → counted n xs ≡ 0
  none_above n [] h = refl
  none_above n (x ∷ xs) h =
      let other : eqb (number x) n ≡ false = false_from_ne_true (eqb (number x) n) (λ same. let is : number x ≡ n = eqb-true (number x) n same in let low : n < number x = h.0 in omega arith) in
      let here : one_if (eqb (number x) n) ≡ 0 = ap (λ (b : Bool). one_if b) other in
      let there : counted n xs ≡ 0 = none_above n xs h.1 in
      omega arith

  -- an item is counted among those that it is one of
  counted_one : (x : X) (xs : List X) → IsOneOf x xs → 1 ≤ counted (number x) xs
  counted_one x [] at = absurd at
  counted_one x (y ∷ ys) (inl same) =
      let here : one_if (eqb (number y) (number x)) ≡ 1 = ap (λ (b : Bool). one_if b) (eq-eqb (number y) (number x) (ap number same)) in omega arith
  counted_one x (y ∷ ys) (inr at) = let there : 1 ≤ counted (number x) ys = counted_one x ys at in omega arith

  above_rest : (m x : X) (ms : List X) → AllByRecursion (λ y. number m < number y) ms → IsOneOf x ms → number m < number x
  above_rest m x ms h at = one_all (λ y. number m < number y) x ms h at

  -- A list whose items are those of a rising one, each as often, is put in order as that one.
  pub sorted_is : (ms xs : List X) → IsRisingBy ms → AllByRecursion (λ x. IsOneOf x ms) xs → ((n : ℕ) → counted n xs ≡ counted n ms) → merge_by number xs [] ≡ ms
  sorted_is [] [] rising all same = refl
  sorted_is [] (x ∷ xs) rising all same = absurd all.0
  sorted_is (m ∷ ms) xs rising all same =
      let none : counted (number m) ms ≡ 0 = none_above (number m) ms rising.0 in
      let own : one_if (eqb (number m) (number m)) ≡ 1 = ap (λ (b : Bool). one_if b) (eq-eqb (number m) (number m) refl) in
      let some : 1 ≤ counted (number m) xs = let e = same (number m) in omega arith in
      let s : Split (number m) xs = split_at (number m) xs some in
      let all_split : AllByRecursion (λ x. IsOneOf x (m ∷ ms)) (s.front ++ s.item ∷ s.back) = subst (AllByRecursion (λ x. IsOneOf x (m ∷ ms))) s.whole all in
      let rest : AllByRecursion (λ x. IsOneOf x (m ∷ ms)) (s.front ++ s.back) = all_without (λ x. IsOneOf x (m ∷ ms)) s.front s.item s.back all_split in
      let item_is : m ≡ s.item = first_of m s.item ms rising.0 (one_all (λ x. IsOneOf x (m ∷ ms)) s.item (s.front ++ s.item ∷ s.back) all_split (one_right s.item s.front (s.item ∷ s.back) (inl refl))) s.is in
      let counts : (n : ℕ) → counted n xs ≡ one_if (eqb (number m) n) + counted n (s.front ++ s.back) = λ n. count_split n xs m s.front s.item s.back s.whole item_is in
      let fewer : (n : ℕ) → counted n (s.front ++ s.back) ≡ counted n ms = λ n. (let a = counts n in let b = same n in omega arith) in
      let without : counted (number m) (s.front ++ s.back) ≡ 0 = fewer (number m) ∙ none in
      let others : AllByRecursion (λ x. IsOneOf x ms) (s.front ++ s.back) = all_one (λ x. IsOneOf x ms) (s.front ++ s.back) (λ x at.
      other_of m x ms (one_all (λ y. IsOneOf y (m ∷ ms)) x (s.front ++ s.back) rest at) (λ is. (
      let some_there : 1 ≤ counted (number x) (s.front ++ s.back) = counted_one x (s.front ++ s.back) at in
      let here : counted (number x) (s.front ++ s.back) ≡ 0 = subst (λ (y : X). counted (number y) (s.front ++ s.back) ≡ 0) is without in omega arith))) in
      ap (λ (ys : List X). merge_by number ys []) (s.whole ∙ ap (λ (y : X). s.front ++ y ∷ s.back) (sym item_is))
      ∙ (merge_first m s.front s.back (all_weaker (λ x. IsOneOf x ms) (λ y. number m < number y) (s.front ++ s.back) (λ x at. above_rest m x ms rising.0 at) others)
      ∙ ap (λ (ys : List X). m ∷ ys) (sorted_is ms (s.front ++ s.back) rising.1 others fewer))
    where
      all_without : (P : X → Type 0) (xs1 : List X) (x : X) (bs : List X) → AllByRecursion P (xs1 ++ x ∷ bs) → AllByRecursion P (xs1 ++ bs)
      all_without P [] x bs h = h.1
      all_without P (a ∷ xs1) x bs h = (h.0, all_without P xs1 x bs h.1)

      first_of : (m x : X) (ms : List X) → AllByRecursion (λ y. number m < number y) ms → IsOneOf x (m ∷ ms) → number x ≡ number m → m ≡ x
      first_of m x ms above (inl is) e = is
      first_of m x ms above (inr at) e = absurd (let low : number m < number x = above_rest m x ms above at in omega arith)

      other_of : (m x : X) (ms : List X) → IsOneOf x (m ∷ ms) → (m ≡ x → ⊥) → IsOneOf x ms
      other_of m x ms (inl is) differs = absurd (differs is)
      other_of m x ms (inr at) differs = at

      count_split : (n : ℕ) (ys : List X) (m : X) (xs1 : List X) (x : X) (bs : List X) → ys ≡ xs1 ++ x ∷ bs → m ≡ x
          → counted n ys ≡ one_if (eqb (number m) n) + counted n (xs1 ++ bs)
      count_split n ys m xs1 x bs whole is =
          let weight : X → ℕ = λ (y : X). one_if (eqb (number y) n) in
          let a : counted n ys ≡ counted n (xs1 ++ x ∷ bs) = ap (counted n) whole in
          let b : tally weight (xs1 ++ x ∷ bs) ≡ tally weight xs1 + tally weight (x ∷ bs) = tally-append weight xs1 (x ∷ bs) in
          let c : tally weight (xs1 ++ bs) ≡ tally weight xs1 + tally weight bs = tally-append weight xs1 bs in
          let d : one_if (eqb (number x) n) ≡ one_if (eqb (number m) n) = ap weight (sym is) in
          omega arith

-- items that are made of others with their numbers are put in order as those are
module _ {X Y : Type 0} (number : X → ℕ) (key : Y → ℕ) (f : X → Y) (same : (x : X) → key (f x) ≡ number x) where
  insert_map_if : (b : Bool) (x y : X) (ys inserted : List X) (more : List Y) → more ≡ map f inserted
      → insert_if b (f x) (f y) (map f ys) more ≡ map f (insert_if b x y ys inserted)
  insert_map_if true x y ys inserted more h = refl
  insert_map_if false x y ys inserted more h = ap (λ (zs : List Y). f y ∷ zs) h

  insert_map : (x : X) (xs : List X) → insert_by key (f x) (map f xs) ≡ map f (insert_by number x xs)
  insert_map x [] = refl
  insert_map x (y ∷ ys) =
      ap (λ (n : ℕ). insert_if (nat_le n (key (f y))) (f x) (f y) (map f ys) (insert_by key (f x) (map f ys))) (same x)
      ∙ (ap (λ (n : ℕ). insert_if (nat_le (number x) n) (f x) (f y) (map f ys) (insert_by key (f x) (map f ys))) (same y)
      ∙ insert_map_if (nat_le (number x) (number y)) x y ys (insert_by number x ys) (insert_by key (f x) (map f ys)) (insert_map x ys))

  pub merge_map : (xs : List X) → merge_by key (map f xs) [] ≡ map f (merge_by number xs [])
  merge_map [] = refl
  merge_map (x ∷ xs) = ap (insert_by key (f x)) (merge_map xs) ∙ insert_map x (merge_by number xs [])
