-- What lists contain, after a filter, a map and a join, and what a test of some item tells.
use Rattle.std.proofs.Common.{◌≡◌, List, [], ◌∷◌, map, filter, flat_map, Bool, true, false, cond, Contains, ◌⊎◌, inl, inr, ⊎_elim, refl, sym, ap, subst, ◌∙◌}
use Rattle.std.specs.List.{AllByRecursion, list_any}
use Rattle.std.proofs.lemmas.Bool.{cond-true, or_left, or_right, or_cases, true≢false}
use Rattle.std.proofs.lemmas.List.Elements.{Contains-append_cases, Contains-append_left, Contains-append_right, Contains-push, Contains-push_cases}
use Rattle.zio_cksum.proofs.AllLemmas.{all_contained, all_contains, all_weaker}

pub contains_first : {X : Type 0} (x : X) (xs : List X) → Contains (x ∷ xs) x
contains_first x xs = Contains-append_left (x ∷ []) xs x (Contains-push [] x)

pub contains_later : {X : Type 0} (x : X) (xs : List X) (y : X) → Contains xs y → Contains (x ∷ xs) y
contains_later x xs y c = Contains-append_right (x ∷ []) xs y c

pub none_contained : {X : Type 0} (x : X) → Contains [] x → ⊥
none_contained x c = all_contains (λ z. ⊥) [] x tt c

pub contained_cases : {X : Type 0} (x : X) (xs : List X) (y : X) → Contains (x ∷ xs) y → (x ≡ y) ⊎ Contains xs y
contained_cases x xs y c =
    ⊎_elim (λ one. ⊎_elim (λ (none : Contains [] y). absurd (none_contained y none)) (λ e. inl e) (Contains-push_cases [] x y one)) (λ rest. inr rest) (Contains-append_cases (x ∷ []) xs y c)

-- what holds of each that a list contains holds of all of it
pub all_of : {X : Type 0} (P : X → Type 0) (xs : List X) → ((x : X) → Contains xs x → P x) → AllByRecursion P xs
all_of P xs f = all_weaker (Contains xs) P xs f (all_contained xs)

-- ---- a map and a join

pub contains_mapped : {X Y : Type 0} (f : X → Y) (xs : List X) (y : Y) → Contains (map f xs) y → (x : X) × Contains xs x × (f x ≡ y)
contains_mapped f [] y c = absurd (none_contained y c)
contains_mapped f (x ∷ xs) y c =
    ⊎_elim
    (λ (e : f x ≡ y). (x, contains_first x xs, e))
    (λ (there : Contains (map f xs) y). let k = contains_mapped f xs y there in (k.0, contains_later x xs k.0 k.1, k.2))
    (contained_cases (f x) (map f xs) y c)

pub map_contains : {X Y : Type 0} (f : X → Y) (xs : List X) (x : X) → Contains xs x → Contains (map f xs) (f x)
map_contains f [] x c = absurd (none_contained x c)
map_contains f (y ∷ ys) x c =
    ⊎_elim
    (λ (e : y ≡ x). subst (λ z. Contains (f y ∷ map f ys) (f z)) e (contains_first (f y) (map f ys)))
    (λ (there : Contains ys x). contains_later (f y) (map f ys) (f x) (map_contains f ys x there))
    (contained_cases y ys x c)

pub contains_flat : {X Y : Type 0} (f : X → List Y) (xs : List X) (y : Y) → Contains (flat_map f xs) y → (x : X) × Contains xs x × Contains (f x) y
contains_flat f [] y c = absurd (none_contained y c)
contains_flat f (x ∷ xs) y c =
    ⊎_elim
    (λ (here : Contains (f x) y). (x, contains_first x xs, here))
    (λ (there : Contains (flat_map f xs) y). let k = contains_flat f xs y there in (k.0, contains_later x xs k.0 k.1, k.2))
    (Contains-append_cases (f x) (flat_map f xs) y c)

pub flat_contains : {X Y : Type 0} (f : X → List Y) (xs : List X) (x : X) (y : Y) → Contains xs x → Contains (f x) y → Contains (flat_map f xs) y
flat_contains f [] x y c d = absurd (none_contained x c)
flat_contains f (z ∷ zs) x y c d =
    ⊎_elim
    (λ (e : z ≡ x). Contains-append_left (f z) (flat_map f zs) y (subst (λ w. Contains (f w) y) (sym e) d))
    (λ (there : Contains zs x). Contains-append_right (f z) (flat_map f zs) y (flat_contains f zs x y there d))
    (contained_cases z zs x c)

-- ---- a filter

kept_parts : {X : Type 0} (t : Bool) (x y : X) (xs ys : List X) → Contains (cond t (x ∷ ys) ys) y → ((t ≡ true) × (x ≡ y)) ⊎ Contains ys y
kept_parts true x y xs ys c = ⊎_elim (λ e. inl (refl, e)) (λ k. inr k) (contained_cases x ys y c)
kept_parts false x y xs ys c = inr c

-- what a filter keeps was there, and passes
pub contains_kept : {X : Type 0} (test : X → Bool) (xs : List X) (x : X) → Contains (filter test xs) x → Contains xs x × (test x ≡ true)
contains_kept test [] x c = absurd (none_contained x c)
contains_kept test (y ∷ ys) x c =
    ⊎_elim
    (λ here. (subst (Contains (y ∷ ys)) here.1 (contains_first y ys), ap test (sym here.1) ∙ here.0))
    (λ (there : Contains (filter test ys) x). let k = contains_kept test ys x there in (contains_later y ys x k.0, k.1))
    (kept_parts (test y) y x ys (filter test ys) c)

kept_later : {X : Type 0} (t : Bool) (x y : X) (ys : List X) → Contains ys y → Contains (cond t (x ∷ ys) ys) y
kept_later true x y ys c = contains_later x ys y c
kept_later false x y ys c = c

pub kept_contains : {X : Type 0} (test : X → Bool) (xs : List X) (x : X) → Contains xs x → test x ≡ true → Contains (filter test xs) x
kept_contains test [] x c passes = absurd (none_contained x c)
kept_contains test (y ∷ ys) x c passes =
    ⊎_elim
    (λ (e : y ≡ x).
    subst (λ zs. Contains zs x) (sym (cond-true (test y) (y ∷ filter test ys) (filter test ys) (ap test e ∙ passes)))
    (subst (Contains (y ∷ filter test ys)) e (contains_first y (filter test ys))))
    (λ (there : Contains ys x). kept_later (test y) y x (filter test ys) (kept_contains test ys x there passes))
    (contained_cases y ys x c)

-- ---- a test of some item

pub any_contained : {X : Type 0} (test : X → Bool) (xs : List X) → list_any test xs ≡ true → (x : X) × Contains xs x × (test x ≡ true)
any_contained test [] e = absurd (true≢false (sym e))
any_contained test (x ∷ xs) e =
    ⊎_elim
    (λ here. (x, contains_first x xs, here))
    (λ there. let k = any_contained test xs there in (k.0, contains_later x xs k.0 k.1, k.2))
    (or_cases (test x) (list_any test xs) e)

pub contained_any : {X : Type 0} (test : X → Bool) (xs : List X) (x : X) → Contains xs x → test x ≡ true → list_any test xs ≡ true
contained_any test [] x c passes = absurd (none_contained x c)
contained_any test (y ∷ ys) x c passes =
    ⊎_elim
    (λ (e : y ≡ x). or_left (test y) (list_any test ys) (ap test e ∙ passes))
    (λ (there : Contains ys x). or_right (test y) (list_any test ys) (contained_any test ys x there passes))
    (contained_cases y ys x c)
