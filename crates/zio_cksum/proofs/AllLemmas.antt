-- What holds of each item of a list, by recursion: after a filter, a map, a cut and a join.
use Rattle.std.proofs.Common.{◌≡◌, ℕ, zero, suc, List, [], ◌∷◌, ◌++◌, take, drop, map, filter, flat_map, Bool, true, false, cond, refl, Contains}
use Rattle.std.specs.List.{AllByRecursion}
use Rattle.std.proofs.lemmas.List.Elements.{All-from_recursion, recursion_from_All, All-contains, All-contains_itself, Contains-append_left, Contains-append_right}

all_cond : {X : Type 0} (P : X → Type 0) (t : Bool) (x : X) (xs : List X) → (t ≡ true → P x) → AllByRecursion P xs → AllByRecursion P (cond t (x ∷ xs) xs)
all_cond P true x xs p h = (p refl, h)
all_cond P false x xs p h = h

-- of a filtered list all holds that holds of each item that passes
pub all_filter : {X : Type 0} (P : X → Type 0) (test : X → Bool) (xs : List X) → AllByRecursion (λ x. test x ≡ true → P x) xs → AllByRecursion P (filter test xs)
all_filter P test [] h = tt
all_filter P test (x ∷ xs) h = all_cond P (test x) x (filter test xs) h.0 (all_filter P test xs h.1)

pub all_weaker : {X : Type 0} (P Q : X → Type 0) (xs : List X) → ((x : X) → P x → Q x) → AllByRecursion P xs → AllByRecursion Q xs
all_weaker P Q [] f h = tt
all_weaker P Q (x ∷ xs) f h = (f x h.0, all_weaker P Q xs f h.1)

pub all_true : {X : Type 0} (P : X → Type 0) (xs : List X) → ((x : X) → P x) → AllByRecursion P xs
all_true P [] f = tt
all_true P (x ∷ xs) f = (f x, all_true P xs f)

pub all_append : {X : Type 0} (P : X → Type 0) (xs ys : List X) → AllByRecursion P xs → AllByRecursion P ys → AllByRecursion P (xs ++ ys)
all_append P [] ys h k = k
all_append P (x ∷ xs) ys h k = (h.0, all_append P xs ys h.1 k)

pub all_take : {X : Type 0} (P : X → Type 0) (n : ℕ) (xs : List X) → AllByRecursion P xs → AllByRecursion P (take n xs)
all_take P zero xs h = tt
all_take P (suc n) [] h = tt
all_take P (suc n) (x ∷ xs) h = (h.0, all_take P n xs h.1)

pub all_drop : {X : Type 0} (P : X → Type 0) (n : ℕ) (xs : List X) → AllByRecursion P xs → AllByRecursion P (drop n xs)
all_drop P zero xs h = h
all_drop P (suc n) [] h = tt
all_drop P (suc n) (x ∷ xs) h = all_drop P n xs h.1

-- of a mapped list holds what holds of the images
pub all_map : {X Y : Type 0} (P : Y → Type 0) (f : X → Y) (xs : List X) → AllByRecursion (λ x. P (f x)) xs → AllByRecursion P (map f xs)
all_map P f [] h = tt
all_map P f (x ∷ xs) h = (h.0, all_map P f xs h.1)

pub all_unmap : {X Y : Type 0} (P : Y → Type 0) (f : X → Y) (xs : List X) → AllByRecursion P (map f xs) → AllByRecursion (λ x. P (f x)) xs
all_unmap P f [] h = tt
all_unmap P f (x ∷ xs) h = (h.0, all_unmap P f xs h.1)

-- what holds of each item holds of one that the list contains
pub all_contains : {X : Type 0} (P : X → Type 0) (xs : List X) (x : X) → AllByRecursion P xs → Contains xs x → P x
all_contains P xs x h c = All-contains P xs x (All-from_recursion P xs h) c

-- a list contains its items
pub all_contained : {X : Type 0} (xs : List X) → AllByRecursion (Contains xs) xs
all_contained xs = recursion_from_All (Contains xs) xs (All-contains_itself xs)

-- lists joined end to end contain each item of each part
pub all_parts : {X Y : Type 0} (f : X → List Y) (xs : List X) → AllByRecursion (λ x. AllByRecursion (Contains (flat_map f xs)) (f x)) xs
all_parts f [] = tt
all_parts f (x ∷ xs) = (
  all_weaker (Contains (f x)) (Contains (flat_map f (x ∷ xs))) (f x) (λ y c. Contains-append_left (f x) (flat_map f xs) y c) (all_contained (f x)),
  all_weaker (λ z. AllByRecursion (Contains (flat_map f xs)) (f z)) (λ z. AllByRecursion (Contains (flat_map f (x ∷ xs))) (f z)) xs
      (λ z h. all_weaker (Contains (flat_map f xs)) (Contains (flat_map f (x ∷ xs))) (f z) (λ y c. Contains-append_right (f x) (flat_map f xs) y c) h)
      (all_parts f xs),
)
