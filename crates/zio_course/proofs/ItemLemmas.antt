-- Items of lists that are joined, mapped or filtered.
use Rattle.std.proofs.Common.{◌≡◌, List, [], ◌∷◌, ◌++◌, map, filter, flat_map, cond, Bool, true, false, ◌||◌, ◌⊎◌, inl, inr, refl, sym, ap, ◌∙◌, subst}
use Rattle.std.specs.Prelude.{Contains, length}
use Rattle.std.specs.List.{list_any}
use Rattle.std.proofs.lemmas.List.{length-map}
use Rattle.zio_cksum.proofs.AllLemmas.{all_contained, all_contains}
use Rattle.zio_course.proofs.SortLemmas.{IsOneOf, one_all, one_itself, one_left, one_right}

pub found_one : {X : Type 0} (x : X) (xs : List X) → Contains xs x → IsOneOf x xs
found_one x xs c = all_contains (λ y. IsOneOf y xs) xs x (one_itself xs) c

pub one_found : {X : Type 0} (x : X) (xs : List X) → IsOneOf x xs → Contains xs x
one_found x xs at = one_all (Contains xs) x xs (all_contained xs) at

pub one_either : {X : Type 0} (x : X) (xs ys : List X) → IsOneOf x (xs ++ ys) → IsOneOf x xs ⊎ IsOneOf x ys
one_either x [] ys at = inr at
one_either x (z ∷ xs) ys (inl same) = inl (inl same)
one_either x (z ∷ xs) ys (inr at) = behind (one_either x xs ys at)
  where
    behind : IsOneOf x xs ⊎ IsOneOf x ys → IsOneOf x (z ∷ xs) ⊎ IsOneOf x ys
    behind (inl front) = inl (inr front)
    behind (inr back) = inr back

-- an item of joined lists is one of a part
pub record IsPart {X Y : Type 0} (parts : X → List Y) (xs : List X) (y : Y) : Type 0 where
  pub of : X
  pub at : IsOneOf of xs
  pub there : IsOneOf y (parts of)

pub part_of : {X Y : Type 0} (parts : X → List Y) (xs : List X) (y : Y) → IsOneOf y (flat_map parts xs) → IsPart parts xs y
part_of parts [] y at = absurd at
part_of parts (x ∷ xs) y at = which (one_either y (parts x) (flat_map parts xs) at) (λ back. part_of parts xs y back)
  where
    which : IsOneOf y (parts x) ⊎ IsOneOf y (flat_map parts xs) → (IsOneOf y (flat_map parts xs) → IsPart parts xs y) → IsPart parts (x ∷ xs) y
    which (inl front) rest = record { of = x; at = inl refl; there = front }
    which (inr back) rest = let k = rest back in record { of = k.of; at = inr k.at; there = k.there }

pub of_part : {X Y : Type 0} (parts : X → List Y) (xs : List X) (x : X) (y : Y) → IsOneOf x xs → IsOneOf y (parts x) → IsOneOf y (flat_map parts xs)
of_part parts [] x y at there = absurd at
of_part parts (z ∷ xs) x y (inl same) there = one_left y (parts z) (flat_map parts xs) (subst (λ w. IsOneOf y (parts w)) (sym same) there)
of_part parts (z ∷ xs) x y (inr at) there = one_right y (parts z) (flat_map parts xs) (of_part parts xs x y at there)

-- an item of a mapped list is the image of one
pub record IsImage {X Y : Type 0} (f : X → Y) (xs : List X) (y : Y) : Type 0 where
  pub of : X
  pub at : IsOneOf of xs
  pub is : f of ≡ y

pub image_of : {X Y : Type 0} (f : X → Y) (xs : List X) (y : Y) → IsOneOf y (map f xs) → IsImage f xs y
image_of f [] y at = absurd at
image_of f (x ∷ xs) y (inl same) = record { of = x; at = inl refl; is = same }
image_of f (x ∷ xs) y (inr at) = let k = image_of f xs y at in record { of = k.of; at = inr k.at; is = k.is }

pub filtered_in : {X : Type 0} (test : X → Bool) (xs : List X) (x : X) → IsOneOf x xs → test x ≡ true → IsOneOf x (filter test xs)
filtered_in test [] x at e = absurd at
filtered_in test (z ∷ xs) x (inl same) e = kept (test z) (ap test same ∙ e)
  where
    kept : (b : Bool) → b ≡ true → IsOneOf x (cond b (z ∷ filter test xs) (filter test xs))
    kept true k = inl same
    kept false k = absurd (cc)
filtered_in test (z ∷ xs) x (inr at) e = kept (test z) (filtered_in test xs x at e)
  where
    kept : (b : Bool) → IsOneOf x (filter test xs) → IsOneOf x (cond b (z ∷ filter test xs) (filter test xs))
    kept true k = inr k
    kept false k = k

pub filtered_out : {X : Type 0} (test : X → Bool) (xs : List X) (x : X) → IsOneOf x (filter test xs) → IsOneOf x xs × (test x ≡ true)
filtered_out test [] x at = absurd at
filtered_out test (z ∷ xs) x at = kept (test z) refl (λ k. filtered_out test xs x k) at
  where
    kept : (b : Bool) → test z ≡ b → (IsOneOf x (filter test xs) → IsOneOf x xs × (test x ≡ true)) → IsOneOf x (cond b (z ∷ filter test xs) (filter test xs)) → IsOneOf x (z ∷ xs) × (test x ≡ true)
    kept true e rest (inl same) = (inl same, ap test (sym same) ∙ e)
    kept true e rest (inr k) = let r = rest k in (inr r.0, r.1)
    kept false e rest k = let r = rest k in (inr r.0, r.1)

-- one that passes a test
pub any_in : {X : Type 0} (test : X → Bool) (xs : List X) (x : X) → IsOneOf x xs → test x ≡ true → list_any test xs ≡ true
any_in test [] x at e = absurd at
any_in test (z ∷ xs) x (inl same) e = ap (λ b. b || list_any test xs) (ap test same ∙ e)
any_in test (z ∷ xs) x (inr at) e = behind (test z) (any_in test xs x at e)
  where
    behind : (b : Bool) → list_any test xs ≡ true → (b || list_any test xs) ≡ true
    behind true k = refl
    behind false k = k

pub record IsPassed {X : Type 0} (test : X → Bool) (xs : List X) : Type 0 where
  pub one : X
  pub at : IsOneOf one xs
  pub is : test one ≡ true

pub any_out : {X : Type 0} (test : X → Bool) (xs : List X) → list_any test xs ≡ true → IsPassed test xs
any_out test [] e = absurd (cc)
any_out test (z ∷ xs) e = which (test z) refl (λ h. any_out test xs h) e
  where
    which : (b : Bool) → test z ≡ b → (list_any test xs ≡ true → IsPassed test xs) → (b || list_any test xs) ≡ true → IsPassed test (z ∷ xs)
    which true k rest h = record { one = z; at = inl refl; is = k }
    which false k rest h = let r = rest h in record { one = r.one; at = inr r.at; is = r.is }

pub none_passes : {X : Type 0} (test : X → Bool) (xs : List X) → ((x : X) → IsOneOf x xs → test x ≡ true → ⊥) → list_any test xs ≡ false
none_passes test xs fails = go (list_any test xs) refl
  where
    go : (b : Bool) → list_any test xs ≡ b → list_any test xs ≡ false
    go true e = let k = any_out test xs e in absurd (fails k.one k.at k.is)
    go false e = e

pub same_length : {A B : Type 0} (f : A → B) (xs ys : List A) → map f ys ≡ map f xs → length ys ≡ length xs
same_length f xs ys e = sym (length-map ys f) ∙ ap length e ∙ length-map xs f
