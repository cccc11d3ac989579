-- What one more leaves of a list, and of tests that are joined by `or`.
use Rattle.std.proofs.Common.{◌≡◌, ◌≤◌, ◌+◌, ℕ, List, [], ◌∷◌, ◌++◌, fold, refl, sym, ap, Bool, true, false, cond, ◌||◌, ◌&&◌, nat_le, arith}
use Rattle.std.proofs.lemmas.Bool.{le-leb, leb-true}
use Rattle.std.specs.List.{AllByRecursion, list_any}
use Rattle.zio_script.specs.declared.script.Item.{Item}
use Rattle.zio_script.specs.declared.script.Item.TheVariants.{Request as RequestItem, Go, Clear}
use Rattle.zio_script.specs.declared.script.Request.{Request}
use Rattle.zio_script.specs.Requests.{requests_of}

-- ---- lists

pub requests-append : (items more : List Item) → requests_of (items ++ more) ≡ requests_of items ++ requests_of more
requests-append [] more = refl
requests-append (RequestItem r ∷ items) more = ap (λ (rs : List Request). r ∷ rs) (requests-append items more)
requests-append (Go ∷ items) more = requests-append items more
requests-append (Clear ∷ items) more = requests-append items more

pub all_more : {X : Type 0} (P : X → Type 0) (xs : List X) (x : X) → AllByRecursion P xs → P x → AllByRecursion P (xs ++ x ∷ [])
all_more P [] x all here = (here, tt)
all_more P (y ∷ xs) x all here = (all.0, all_more P xs x all.1 here)

pub or_left_false : (a b : Bool) → (a || b) ≡ false → a ≡ false
or_left_false false b e = refl
or_left_false true b e = e

pub or_right_false : (a b : Bool) → (a || b) ≡ false → b ≡ false
or_right_false false b e = e
or_right_false true false e = refl
or_right_false true true e = e

pub none_passes : {X : Type 0} (p : X → Bool) (xs : List X) → list_any p xs ≡ false → AllByRecursion (λ x. p x ≡ false) xs
none_passes p [] e = tt
none_passes p (x ∷ xs) e = (or_left_false (p x) (list_any p xs) e, none_passes p xs (or_right_false (p x) (list_any p xs) e))

pub any_none : {X : Type 0} (p : X → Bool) (xs : List X) → AllByRecursion (λ x. p x ≡ false) xs → list_any p xs ≡ false
any_none p [] all = refl
any_none p (x ∷ xs) all = rw all.0 (any_none p xs all.1)

pub counts_none : {X : Type 0} (p : X → Bool) (n : ℕ) (xs : List X) → AllByRecursion (λ x. p x ≡ false) xs
    → fold (λ a x. a + cond (p x) 1 0) n xs ≡ n
counts_none p n [] all = refl
counts_none p n (x ∷ xs) all =
    let same : n + cond (p x) 1 0 ≡ n = rw all.0 (omega arith) in
    rw same (counts_none p n xs all.1)

-- ---- tests

pub three_false : (a b c : Bool) → (a || b || c) ≡ false → (a ≡ false) × ((b ≡ false) × (c ≡ false))
three_false false false false e = (refl, (refl, refl))
three_false false false true e = let no : ⊥ = cc in absurd no
three_false false true c e = let no : ⊥ = cc in absurd no
three_false true b c e = let no : ⊥ = cc in absurd no

pub or_false : (a : Bool) → (a || false) ≡ a
or_false false = refl
or_false true = refl

pub or_moved : (kind name others : Bool) → (kind && name || others) ≡ (others || (name && kind || false))
or_moved false false others = sym (or_false others)
or_moved false true others = sym (or_false others)
or_moved true false others = sym (or_false others)
or_moved true true false = refl
or_moved true true true = refl

-- with the test of the earlier ones
rises_by : (n last number : ℕ) → last + 1 ≤ number → (b : Bool) → nat_le n last ≡ b → (b || (nat_le n number || false)) ≡ nat_le n number
rises_by n last number above false is = or_false (nat_le n number)
rises_by n last number above true is =
    let low : n ≤ last = leb-true n last is in
    sym (le-leb n number (omega arith))

pub rises_to : (n last number : ℕ) → last + 1 ≤ number → (nat_le n last || (nat_le n number || false)) ≡ nat_le n number
rises_to n last number above = rises_by n last number above (nat_le n last) refl
