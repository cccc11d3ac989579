-- A place that is still to be asked isn't done yet.
use Rattle.std.proofs.Common.{◌≡◌, ℕ, zero, suc, ◌+◌, ◌≤◌, Bool, true, false, cond, List, [], ◌∷◌, ◌++◌, refl, sym, ap, ◌∙◌, subst, arith}
use Rattle.std.specs.List.{AllByRecursion}
use Rattle.zio_trace.specs.Programs.{Deed}
use Rattle.zio_trace.specs.Oracles.{weigh, ops_of, AreOnce, Ascends, InOrder}
use Rattle.zio_trace.specs.Labels.{Labelled, Earlier, same_number, same_at, same_place}
use Rattle.zio_trace.proofs.LabelLemmas.{same_itself, at_is, below_itself}

abbrev pub one_if : Bool → ℕ
one_if true = 1
one_if false = 0

abbrev pub here : {Op : Type 0} → Labelled Op → Labelled Op → ℕ
here x y = one_if (same_place x y)

number_turned : (m n : ℕ) → same_number m n ≡ same_number n m
number_turned zero zero = refl
number_turned zero (suc n) = refl
number_turned (suc m) zero = refl
number_turned (suc m) (suc n) = number_turned m n

at_turned : (ms ns : List ℕ) → same_at ms ns ≡ same_at ns ms
at_turned [] [] = refl
at_turned [] (n ∷ ns) = refl
at_turned (m ∷ ms) [] = refl
at_turned (m ∷ ms) (n ∷ ns) = λ i. cond (number_turned m n i) (at_turned ms ns i) false

-- places behind are others
none_behind : {Op : Type 0} (x : Labelled Op) (ys : List (Labelled Op)) → AllByRecursion (λ y. same_place x y ≡ false) ys → weigh (here x) ys ≡ 0
none_behind x [] h = refl
none_behind x (y ∷ ys) h =
    let e : here x y ≡ 0 = ap one_if h.0 in let f : weigh (here x) ys ≡ 0 = none_behind x ys h.1 in omega arith

false_if : (b : Bool) → (b ≡ true → ⊥) → b ≡ false
false_if true h = absurd (h refl)
false_if false h = refl

others : {Op : Type 0} (x y : Labelled Op) (ys : List (Labelled Op)) → x.at ≡ y.at → AllByRecursion (Earlier y) ys → AllByRecursion (λ z. same_place x z ≡ false) ys
others x y [] e h = tt
others {Op} x y (z ∷ zs) e h = (
  false_if (same_place x z) (λ k. below_itself z.at (subst (λ (ns : List ℕ). Earlier (record { at = ns; op = y.op }) z) (sym e ∙ at_is x.at z.at k) h.0)),
  others x y zs e h.1,
)

most_if : {Op : Type 0} (b : Bool) (x y : Labelled Op) (ys : List (Labelled Op)) → same_place x y ≡ b → AllByRecursion (Earlier y) ys → weigh (here x) ys ≤ 1 → one_if b + weigh (here x) ys ≤ 1
most_if true x y ys e h k =
    let f : weigh (here x) ys ≡ 0 = none_behind x ys (others x y ys (at_is x.at y.at e) h) in omega arith
most_if false x y ys e h k = omega arith

-- one place is asked once
pub at_most_once : {Op : Type 0} (x : Labelled Op) (ys : List (Labelled Op)) → Ascends Earlier ys → weigh (here x) ys ≤ 1
at_most_once x [] h = omega arith
at_most_once x (y ∷ ys) h = most_if (same_place x y) x y ys refl h.0 (at_most_once x ys h.1)

none_if : (b : Bool) (n : ℕ) → one_if b + n ≡ 0 → (b ≡ false) × (n ≡ 0)
none_if true n h = absurd (omega arith)
none_if false n h = (refl, omega arith)

pub none_done : {Op Ans : Type 0} (x : Labelled Op) (ds : List (Deed (Labelled Op) Ans)) → weigh (here x) (ops_of ds) ≡ 0 → AllByRecursion (λ (d : Deed (Labelled Op) Ans). same_place d.op x ≡ false) ds
none_done x [] h = tt
none_done x (d ∷ ds) h =
    let r = none_if (same_place x d.op) (weigh (here x) (ops_of ds)) h in
    (at_turned d.op.at x.at ∙ r.0, none_done x ds r.1)

pub once_more : {Op Ans : Type 0} (d : Deed (Labelled Op) Ans) (ds : List (Deed (Labelled Op) Ans)) → AreOnce same_place ds → AllByRecursion (λ (e : Deed (Labelled Op) Ans). same_place e.op d.op ≡ false) ds → AreOnce same_place (ds ++ d ∷ [])
once_more d [] h k = (tt, tt)
once_more {Op} {Ans} d (e ∷ ds) h k = (both ds h.0, once_more d ds h.1 k.1)
  where
    both : (es : List (Deed (Labelled Op) Ans)) → AllByRecursion (λ (f : Deed (Labelled Op) Ans). same_place e.op f.op ≡ false) es → AllByRecursion (λ (f : Deed (Labelled Op) Ans). same_place e.op f.op ≡ false) (es ++ d ∷ [])
    both [] l = (k.0, tt)
    both (f ∷ es) l = (l.0, both es l.1)

-- a deed that is done last stands in order, where what stands behind it in the work is apart
pub order_more : {Op Ans : Type 0} (Before Apart : Op → Op → Type 0) (d : Deed Op Ans) (ds : List (Deed Op Ans)) → InOrder Before Apart ds → AllByRecursion (λ (e : Deed Op Ans). Before d.op e.op → Apart e.op d.op) ds → InOrder Before Apart (ds ++ d ∷ [])
order_more Before Apart d [] h k = (tt, tt)
order_more {Op} {Ans} Before Apart d (e ∷ ds) h k = (both ds h.0, order_more Before Apart d ds h.1 k.1)
  where
    both : (es : List (Deed Op Ans)) → AllByRecursion (λ (f : Deed Op Ans). Before f.op e.op → Apart e.op f.op) es → AllByRecursion (λ (f : Deed Op Ans). Before f.op e.op → Apart e.op f.op) (es ++ d ∷ [])
    both [] l = (k.0, tt)
    both (f ∷ es) l = (l.0, both es l.1)

pub here_itself : {Op : Type 0} (x : Labelled Op) → here x x ≡ 1
here_itself x = ap one_if (same_itself x)
