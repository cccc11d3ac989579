-- Places of which no two meet are no more than the sectors of the tops that they lie in.
use Rattle.std.proofs.Common.{◌≡◌, ℕ, zero, suc, ◌+◌, ◌*◌, ◌<◌, ◌≤◌, List, [], ◌∷◌, length, filter, cond, Bool, true, false, not, ◌==◌, nat_le, Contains, ◌⊎◌, inl, inr, ⊎_elim, refl, sym, ap, subst, ◌∙◌, arith, eqb-true, leb-true}
use Rattle.std.specs.List.{AllByRecursion}
use Rattle.std.proofs.lemmas.Bool.{cases_lt}
use Rattle.zio_types.specs.declared.place.Place.{Place}
use Rattle.zio_types.specs.Places.{end_of}
use Rattle.zio_cksum.proofs.AllLemmas.{all_contains, all_filter, all_weaker}
use Rattle.zio_trace.specs.TreeOrders.{Pairs}
use Rattle.zio_trace.proofs.ListLemmas.{contains_first, contains_later}
use Rattle.zio_trace.proofs.PairLemmas.{all_of, pairs_stronger}
use Rattle.zio_trace.proofs.PlaceLemmas.{DontMeet}

-- ---- lists

all_low : {X : Type 0} (low : X → Bool) (xs : List X) → AllByRecursion (λ (x : X). low x ≡ true) xs → filter low xs ≡ xs
all_low low [] h = refl
all_low {X} low (x ∷ xs) h =
    ap (λ (t : Bool). cond t (x ∷ filter low xs) (filter low xs)) h.0 ∙ ap (λ (ys : List X). x ∷ ys) (all_low low xs h.1)

is_low : (t : Bool) → (t ≡ false → ⊥) → t ≡ true
is_low true never = refl
is_low false never = absurd (never refl)

-- where two that aren't low can't be in a relation, all but one are low
one_more : {X : Type 0} (R : X → X → Type 0) (low : X → Bool) (xs : List X)
    → ((x y : X) → Contains xs x → Contains xs y → low x ≡ false → low y ≡ false → R x y → ⊥) → Pairs R xs → length xs ≤ length (filter low xs) + 1
one_more R low [] never h = omega arith
one_more {X} R low (x ∷ xs) never h = by (low x) refl (one_more R low xs (λ a b ca cb. never a b (contains_later x xs a ca) (contains_later x xs b cb)) h.1)
  where
    others : low x ≡ false → AllByRecursion (λ (y : X). low y ≡ true) xs
    others e =
        all_of (λ (y : X). low y ≡ true) xs
        (λ y c. is_low (low y) (λ f. never x y (contains_first x xs) (contains_later x xs y c) e f (all_contains (R x) xs y h.0 c)))

    by : (t : Bool) → low x ≡ t → length xs ≤ length (filter low xs) + 1 → length (x ∷ xs) ≤ length (cond t (x ∷ filter low xs) (filter low xs)) + 1
    by true e rest = omega arith
    by false e rest = let same : length (filter low xs) ≡ length xs = ap (λ (ys : List X). length ys) (all_low low xs (others e)) in omega arith

filtered : {X : Type 0} (P : X → Type 0) (test : X → Bool) (xs : List X) → AllByRecursion P xs → AllByRecursion P (filter test xs)
filtered {X} P test xs h = all_filter P test xs (all_weaker P (λ (x : X). test x ≡ true → P x) xs (λ x p e. p) h)

pairs_filter : {X : Type 0} (R : X → X → Type 0) (test : X → Bool) (xs : List X) → Pairs R xs → Pairs R (filter test xs)
pairs_filter R test [] h = tt
pairs_filter R test (x ∷ xs) h = by (test x) (filtered (R x) test xs h.0) (pairs_filter R test xs h.1)
  where
    by : (t : Bool) → AllByRecursion (R x) (filter test xs) → Pairs R (filter test xs) → Pairs R (cond t (x ∷ filter test xs) (filter test xs))
    by true first rest = (first, rest)
    by false first rest = rest

split_length : {X : Type 0} (test : X → Bool) (xs : List X) → length xs ≡ length (filter test xs) + length (filter (λ (x : X). not (test x)) xs)
split_length test [] = refl
split_length {X} test (x ∷ xs) = by (test x) (split_length test xs)
  where
    by : (t : Bool) → length xs ≡ length (filter test xs) + length (filter (λ (y : X). not (test y)) xs)
        → length (x ∷ xs) ≡ length (cond t (x ∷ filter test xs) (filter test xs))
        + length (cond (not t) (x ∷ filter (λ (y : X). not (test y)) xs) (filter (λ (y : X). not (test y)) xs))
    by true e = omega arith
    by false e = omega arith

-- ---- one top

abbrev Far : Place → Place → Type 0
Far p q = (end_of p ≤ q.sector) ⊎ (end_of q ≤ p.sector)

-- the place has sectors, which lie below this one
record IsWithin (n : ℕ) (p : Place) : Type 0 where
  some : 0 < p.sectors
  low : end_of p ≤ n

above : (a n : ℕ) → nat_le a n ≡ false → n < a
above a n e =
    ⊎_elim (λ (l : n < a). l) (λ (l : a ≤ n). absurd (let low : nat_le a n ≡ true = search (arith, l) in let no : ⊥ = cc in no)) (cases_lt n a)

in_range : (n : ℕ) (ps : List Place) → AllByRecursion (IsWithin n) ps → Pairs Far ps → length ps ≤ n
in_range zero [] h k = omega arith
in_range zero (p ∷ ps) h k = let a = h.0.some in let b = h.0.low in absurd (omega arith)
in_range (suc n) ps h k =
    let low : Place → Bool = λ p. nat_le (end_of p) n in
    let rest = in_range n (filter low ps)
    (all_filter (IsWithin n) low ps
    (all_weaker (IsWithin (suc n)) (λ (p : Place). low p ≡ true → IsWithin n p) ps (λ p w e. record { some = w.some; low = leb-true (end_of p) n e }) h))
    (pairs_filter Far low ps k) in
    let one = one_more Far low ps
    (λ p q cp cq a b far. last p q (all_contains (IsWithin (suc n)) ps p h cp) (all_contains (IsWithin (suc n)) ps q h cq) (above (end_of p) n a) (above (end_of q) n b) far) k in
    omega (arith, rest, one)
  where
    last : (p q : Place) → IsWithin (suc n) p → IsWithin (suc n) q → n < end_of p → n < end_of q → Far p q → ⊥
    last p q a b c d (inl far) = let x = b.some in let y = b.low in absurd (omega arith)
    last p q a b c d (inr far) = let x = a.some in let y = a.low in absurd (omega arith)

-- ---- all tops

-- the sectors of tops below this number
abbrev pub sum_below : (ℕ → ℕ) → ℕ → ℕ
sum_below f zero = 0
sum_below f (suc t) = sum_below f t + f t

-- the place lies in one of so many tops, of so many sectors each
pub record IsOn (f : ℕ → ℕ) (t : ℕ) (p : Place) : Type 0 where
  pub top : p.top < t
  pub some : 0 < p.sectors
  pub low : end_of p ≤ f p.top

not_same : (a b : ℕ) → not (a == b) ≡ true → a < suc b → a < b
not_same a b e l = search (arith, e, l)

pub on_tops : (f : ℕ → ℕ) (t : ℕ) (ps : List Place) → AllByRecursion (IsOn f t) ps → Pairs DontMeet ps → length ps ≤ sum_below f t
on_tops f zero [] h k = omega arith
on_tops f zero (p ∷ ps) h k = let a = h.0.top in absurd (omega arith)
on_tops f (suc t) ps h k =
    let here : Place → Bool = λ p. p.top == t in
    let mine : AllByRecursion (λ (p : Place). p.top ≡ t) (filter here ps) =
    all_filter (λ (p : Place). p.top ≡ t) here ps (all_weaker (IsOn f (suc t)) (λ (p : Place). here p ≡ true → p.top ≡ t) ps (λ p o e. eqb-true p.top t e) h) in
    let a = in_range (f t) (filter here ps)
    (all_filter (IsWithin (f t)) here ps
    (all_weaker (IsOn f (suc t)) (λ (p : Place). here p ≡ true → IsWithin (f t) p) ps
    (λ p o e. record { some = o.some; low = subst (λ (i : ℕ). end_of p ≤ f i) (eqb-true p.top t e) o.low }) h))
    (pairs_stronger Far DontMeet (filter here ps)
    (λ p q cp cq d. far p q (all_contains (λ (x : Place). x.top ≡ t) (filter here ps) p mine cp) (all_contains (λ (x : Place). x.top ≡ t) (filter here ps) q mine cq) d)
    (pairs_filter DontMeet here ps k)) in
    let b = on_tops f t (filter (λ (p : Place). not (here p)) ps)
    (all_filter (IsOn f t) (λ (p : Place). not (here p)) ps
    (all_weaker (IsOn f (suc t)) (λ (p : Place). not (here p) ≡ true → IsOn f t p) ps
    (λ p o e. record { top = not_same p.top t e o.top; some = o.some; low = o.low }) h))
    (pairs_filter DontMeet (λ (p : Place). not (here p)) ps k) in
    omega (arith, a, b, split_length here ps)
  where
    far : (p q : Place) → p.top ≡ t → q.top ≡ t → DontMeet p q → Far p q
    far p q e g (inl ne) = absurd (ne (e ∙ sym g))
    far p q e g (inr d) = d

pub sum_small : (f : ℕ → ℕ) (t : ℕ) → ((i : ℕ) → f i ≤ 524288) → sum_below f t ≤ t * 524288
sum_small f zero h = omega arith
sum_small f (suc t) h = omega (arith, sum_small f t h, h t)
