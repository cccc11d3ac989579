-- Deeds whose numbers are all places of a history, each once, are the history by rising numbers.
use Rattle.std.proofs.Common.{◌≡◌, ◌≢◌, ℕ, zero, suc, ◌+◌, ◌<◌, ◌≤◌, List, [], ◌∷◌, length, drop, slice_get, Some, Bool, true, false, nat_le, refl, sym, ap, ◌∙◌, arith}
use Rattle.std.specs.List.{AllByRecursion}
use Rattle.std.proofs.lemmas.Bool.{leb-false, leb-true}
use Rattle.std.proofs.lemmas.Option.{slice_get_within}
use Rattle.zio_trace.specs.Orders.{Stamped, deeds_in, put_if, put_by, by_stamp, Once}
use Rattle.zio_trace.specs.Programs.{Deed}
use Rattle.zio_trace.proofs.OrderLemmas.{all_by_stamp}

module _ {Op Ans : Type 0} where
  -- each number is above the one before, and the first is at least this
  abbrev From : ℕ → List (Stamped Op Ans) → Type 0
  From n [] = Unit {0}
  From n (x ∷ xs) = (n ≤ x.stamp) × From (suc x.stamp) xs

  put_from_if : (b : Bool) (n : ℕ) (x y : Stamped Op Ans) (ys : List (Stamped Op Ans)) → nat_le x.stamp y.stamp ≡ b → n ≤ x.stamp → x.stamp ≢ y.stamp → From n (y ∷ ys) → (suc y.stamp ≤ x.stamp → From (suc y.stamp) (put_by x ys)) → From n (put_if b x y ys (put_by x ys))
  put_from_if true n x y ys e low ne h rest = let le : x.stamp ≤ y.stamp = leb-true x.stamp y.stamp e in (low, (omega arith, h.1))
  put_from_if false n x y ys e low ne h rest = let gt : y.stamp < x.stamp = leb-false x.stamp y.stamp e in (h.0, rest gt)

  put_from : (n : ℕ) (x : Stamped Op Ans) (ys : List (Stamped Op Ans)) → n ≤ x.stamp → AllByRecursion (λ (y : Stamped Op Ans). x.stamp ≢ y.stamp) ys → From n ys → From n (put_by x ys)
  put_from n x [] low ne h = (low, tt)
  put_from n x (y ∷ ys) low ne h = put_from_if (nat_le x.stamp y.stamp) n x y ys refl low ne.0 h (λ gt. put_from (suc y.stamp) x ys gt ne.1 h.1)

  by_stamp_from : (xs : List (Stamped Op Ans)) → Once xs → From 0 (by_stamp xs)
  by_stamp_from [] once = tt
  by_stamp_from (x ∷ xs) once =
      put_from 0 x (by_stamp xs) (omega arith) (all_by_stamp (λ (y : Stamped Op Ans). x.stamp ≢ y.stamp) xs once.0) (by_stamp_from xs once.1)

  length_put_if : (b : Bool) (x y : Stamped Op Ans) (ys placed : List (Stamped Op Ans)) → length placed ≡ suc (length ys) → length (put_if b x y ys placed) ≡ suc (suc (length ys))
  length_put_if true x y ys placed e = refl
  length_put_if false x y ys placed e = ap suc e

  length_put : (x : Stamped Op Ans) (ys : List (Stamped Op Ans)) → length (put_by x ys) ≡ suc (length ys)
  length_put x [] = refl
  length_put x (y ∷ ys) = length_put_if (nat_le x.stamp y.stamp) x y ys (put_by x ys) (length_put x ys)

  length_by_stamp : (xs : List (Stamped Op Ans)) → length (by_stamp xs) ≡ length xs
  length_by_stamp [] = refl
  length_by_stamp (x ∷ xs) = length_put x (by_stamp xs) ∙ ap suc (length_by_stamp xs)

  -- there is room for as many numbers
  from_room : (n m : ℕ) (xs : List (Stamped Op Ans)) → n ≤ m → From n xs → AllByRecursion (λ (x : Stamped Op Ans). x.stamp < m) xs → n + length xs ≤ m
  from_room n m [] low h below = omega arith
  from_room n m (x ∷ xs) low h below =
      let rest : suc x.stamp + length xs ≤ m = from_room (suc x.stamp) m xs below.0 h.1 below.1 in
      let first : n ≤ x.stamp = h.0 in
      omega arith

  drop_one : (history : List (Deed Op Ans)) (n : ℕ) (d : Deed Op Ans) → slice_get history n ≡ Some d → drop n history ≡ d ∷ drop (suc n) history
  drop_one [] n d h = absurd (cc)
  drop_one (x ∷ xs) zero d h = let e : x ≡ d = cc in ap (λ (y : Deed Op Ans). y ∷ xs) e
  drop_one (x ∷ xs) (suc n) d h = drop_one xs n d h

  drop_all : (history : List (Deed Op Ans)) (n : ℕ) → length history ≤ n → [] ≡ drop n history
  drop_all [] zero h = refl
  drop_all [] (suc n) h = refl
  drop_all (x ∷ xs) zero h = absurd (omega arith)
  drop_all (x ∷ xs) (suc n) h = drop_all xs n (omega arith)

  from_all : (history : List (Deed Op Ans)) (n : ℕ) (xs : List (Stamped Op Ans)) → n + length xs ≡ length history → From n xs → AllByRecursion (λ (x : Stamped Op Ans). slice_get history x.stamp ≡ Some x.deed) xs → AllByRecursion (λ (x : Stamped Op Ans). x.stamp < length history) xs → deeds_in xs ≡ drop n history
  from_all history n [] e h stands below = drop_all history n (omega arith)
  from_all history n (x ∷ xs) e h stands below =
      let room : suc x.stamp + length xs ≤ length history = from_room (suc x.stamp) (length history) xs below.0 h.1 below.1 in
      let low : n ≤ x.stamp = h.0 in
      let is : x.stamp ≡ n = omega arith in
      let rest : deeds_in xs ≡ drop (suc x.stamp) history = from_all history (suc x.stamp) xs (omega arith) h.1 stands.1 below.1 in
      ap (λ (ds : List (Deed Op Ans)). x.deed ∷ ds) rest ∙ sym (drop_one history x.stamp x.deed stands.0) ∙ ap (λ (k : ℕ). drop k history) is

  within : (history : List (Deed Op Ans)) (xs : List (Stamped Op Ans)) → AllByRecursion (λ (x : Stamped Op Ans). slice_get history x.stamp ≡ Some x.deed) xs → AllByRecursion (λ (x : Stamped Op Ans). x.stamp < length history) xs
  within history [] h = tt
  within history (x ∷ xs) h = (slice_get_within history x.stamp x.deed h.0, within history xs h.1)

  -- what receipts show of a history, where they have as many different numbers as it has deeds
  pub history_by_stamp : (history : List (Deed Op Ans)) (xs : List (Stamped Op Ans)) → AllByRecursion (λ (x : Stamped Op Ans). slice_get history x.stamp ≡ Some x.deed) xs → Once xs → length xs ≡ length history → deeds_in (by_stamp xs) ≡ history
  history_by_stamp history xs stands once e =
      from_all history 0 (by_stamp xs) (omega (arith, length_by_stamp xs)) (by_stamp_from xs once)
      (all_by_stamp (λ (x : Stamped Op Ans). slice_get history x.stamp ≡ Some x.deed) xs stands)
      (all_by_stamp (λ (x : Stamped Op Ans). x.stamp < length history) xs (within history xs stands))
