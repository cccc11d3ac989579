-- Orders of deeds: which may change places, and lists in which those that conflict stand as they were done.
use Rattle.std.specs.Prelude.{◌≡◌, ◌≢◌, ℕ, ◌<◌, nat_le, List, [], ◌∷◌, length, map, slice_get, Some, Bool, true, false, ◌⊎◌}
use Rattle.std.specs.List.{AllByRecursion}
use Rattle.zio_cksum.specs.Images.{Images}
use Rattle.zio_trace.specs.Programs.{Meaning, Deed}

-- Operations that are apart may change places over sound images, where they lie on these: neither tells the other's
-- answer, and both leave the same.
pub record Commute {Op Ans : Type 0} (means : Meaning Op Ans) (Sound : Images → Type 0) (Lies : Op → Type 0) (Apart : Op → Op → Type 0) : Type 0 where
  pub turned : (a b : Op) → Apart a b → Apart b a
  pub sound : (a : Op) (images : Images) → Sound images → Lies a → Sound (means a images).images
  pub answer : (a b : Op) (images : Images) → Apart a b → Sound images → Lies a → Lies b → (means b (means a images).images).value ≡ (means b images).value
  pub images : (a b : Op) (images : Images) → Apart a b → Sound images → Lies a → Lies b → (means b (means a images).images).images ≡ (means a (means b images).images).images

-- a deed with its number in the history
pub record Stamped (Op Ans : Type 0) : Type 0 where
  pub stamp : ℕ
  pub deed : Deed Op Ans

abbrev pub deeds_in : {Op Ans : Type 0} → List (Stamped Op Ans) → List (Deed Op Ans)
deeds_in {Op} {Ans} xs = map (λ (x : Stamped Op Ans). x.deed) xs

abbrev pub put_if : {Op Ans : Type 0} → Bool → Stamped Op Ans → Stamped Op Ans → List (Stamped Op Ans) → List (Stamped Op Ans) → List (Stamped Op Ans)
put_if true x y ys placed = x ∷ y ∷ ys
put_if false x y ys placed = y ∷ placed

abbrev pub put_by : {Op Ans : Type 0} → Stamped Op Ans → List (Stamped Op Ans) → List (Stamped Op Ans)
put_by x [] = x ∷ []
put_by x (y ∷ ys) = put_if (nat_le x.stamp y.stamp) x y ys (put_by x ys)

-- the same by rising numbers
abbrev pub by_stamp : {Op Ans : Type 0} → List (Stamped Op Ans) → List (Stamped Op Ans)
by_stamp [] = []
by_stamp (x ∷ xs) = put_by x (by_stamp xs)

-- these may change places, or the first was done first
abbrev pub RisesTo : {Op Ans : Type 0} → (Op → Op → Type 0) → Stamped Op Ans → Stamped Op Ans → Type 0
RisesTo Apart x y = Apart x.deed.op y.deed.op ⊎ (x.stamp < y.stamp)

-- two that may not change places stand as they were done
abbrev pub Rise : {Op Ans : Type 0} → (Op → Op → Type 0) → List (Stamped Op Ans) → Type 0
Rise Apart [] = Unit {0}
Rise Apart (x ∷ xs) = AllByRecursion (RisesTo Apart x) xs × Rise Apart xs

-- no number twice
abbrev pub Once : {Op Ans : Type 0} → List (Stamped Op Ans) → Type 0
Once [] = Unit {0}
Once {Op} {Ans} (x ∷ xs) = AllByRecursion (λ (y : Stamped Op Ans). x.stamp ≢ y.stamp) xs × Once xs

-- The list has the deeds of the history in another order: each stands in the history at its number, no number stands
-- twice, there are as many, and two that conflict stand as they were done.
pub record IsOrderOf {Op Ans : Type 0} (Apart : Op → Op → Type 0) (history : List (Deed Op Ans)) (xs : List (Stamped Op Ans)) : Type 0 where
  pub stand : AllByRecursion (λ (x : Stamped Op Ans). slice_get history x.stamp ≡ Some x.deed) xs
  pub once : Once xs
  pub all : length xs ≡ length history
  pub rise : Rise Apart xs
