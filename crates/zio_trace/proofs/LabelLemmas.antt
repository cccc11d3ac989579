-- Operations with their places: they mean the same, their plans end, and they are asked in the order of their places.
use Rattle.std.proofs.Common.{◌≡◌, ℕ, zero, suc, ◌<◌, ◌≤◌, Bool, true, false, cond, Contains, List, [], ◌∷◌, ◌++◌, inl, inr, refl, sym, ap, ◌∙◌, subst, append_assoc, arith}
use Rattle.std.specs.List.{AllByRecursion}
use Rattle.zio_cksum.specs.Images.{Images}
use Rattle.zio_cksum.proofs.AllLemmas.{all_append, all_weaker, all_contains}
use Rattle.zio_trace.specs.Labels.{Labelled, labelled, ways_at, means_at, Below, Earlier, IsUnder, same_number, same_at, same_place}
use Rattle.zio_trace.specs.Oracles.{Ways, Oracle, IsOracle, asked_in, Ascends, IsTest}
use Rattle.zio_trace.specs.Programs.{Done, Meaning, Program, Ends, Asks, behind, run}
use Rattle.zio_trace.specs.Traces.{Mentions, Grounded, Bottom, Above}

pub labelled_run : {Op Ans A : Type 0} (means : Meaning Op Ans) (at : List ℕ) (n : ℕ) (p : Program Op Ans A) (images : Images) → run (means_at means) (labelled at n p) images ≡ run means p images
labelled_run means at n (Ends a) images = refl
labelled_run means at n (Asks op more) images =
    let d : Done _ = means op images in
    ap (behind d.asks) (labelled_run means at (suc n) (more d.value) d.images)

mentions_labelled : {Op Ans A : Type 0} (at : List ℕ) (n : ℕ) (p : Program Op Ans A) (q : Labelled Op) → Mentions (labelled at n p) q → Mentions p q.op
mentions_labelled at n (Ends a) q m = absurd m
mentions_labelled at n (Asks op more) q (inl e) = inl (ap (λ (x : Labelled _). x.op) e)
mentions_labelled at n (Asks op more) q (inr m) = inr (m.0, mentions_labelled at (suc n) (more m.0) q m.1)

ground_at : {Op Ans : Type 0} (ways : Ways Op Ans) (at : List ℕ) (op : Op) → Grounded ways.plan ways.single op → Grounded (ways_at ways).plan (ways_at ways).single (record { at = at; op = op })
ground_at ways at op (Bottom e) = Bottom e
ground_at ways at op (Above e below) = Above e (λ q m. ground_at ways q.at q.op (below q.op (mentions_labelled at 0 (ways.plan op) q m)))

pub ground_labelled : {Op Ans : Type 0} (ways : Ways Op Ans) → ((op : Op) → Grounded ways.plan ways.single op) → (x : Labelled Op) → Grounded (ways_at ways).plan (ways_at ways).single x
ground_labelled ways ground x = ground_at ways x.at x.op (ground x.op)

-- ---- the order of places

below_under : (at : List ℕ) (m n : ℕ) (xs ys : List ℕ) → m < n → Below (at ++ m ∷ xs) (at ++ n ∷ ys)
below_under [] m n xs ys h = inl h
below_under (a ∷ at) m n xs ys h = inr (refl, below_under at m n xs ys h)

-- in the part of this operation
abbrev pub InPart : {Op : Type 0} → List ℕ → Labelled Op → Type 0
InPart at x = (below : List ℕ) × (x.at ≡ at ++ below)

abbrev pub Under : {Op : Type 0} → List ℕ → ℕ → Labelled Op → Type 0
Under at n x = IsUnder at n x.at

pub sooner : {Op : Type 0} (at : List ℕ) (n : ℕ) (x y : Labelled Op) → InPart (at ++ n ∷ []) x → Under at (suc n) y → Earlier x y
sooner at n x y h k =
    let a : x.at ≡ at ++ n ∷ h.0 = h.1 ∙ append_assoc at (n ∷ []) h.0 in
    let less : n < k.number = let f : suc n ≤ k.number = k.from in omega arith in
    subst (λ (xs : List ℕ). Below xs y.at) (sym a) (subst (Below (at ++ n ∷ h.0)) (sym k.is) (below_under at n k.number h.0 k.below less))

pub under_part : {Op : Type 0} (at : List ℕ) (n : ℕ) (x : Labelled Op) → InPart (at ++ n ∷ []) x → Under at n x
under_part at n x h = record { number = n; below = h.0; from = omega arith; is = h.1 ∙ append_assoc at (n ∷ []) h.0 }

pub under_less : {Op : Type 0} (at : List ℕ) (n : ℕ) (x : Labelled Op) → Under at (suc n) x → Under at n x
under_less at n x h = record { number = h.number; below = h.below; from = let f : suc n ≤ h.number = h.from in omega arith; is = h.is }

pub part_under : {Op : Type 0} (at : List ℕ) (n : ℕ) (x : Labelled Op) → Under at n x → InPart at x
part_under at n x h = (h.number ∷ h.below, h.is)

all_cross : {X : Type 0} (R : X → X → Type 0) (P Q : X → Type 0) → ((x y : X) → P x → Q y → R x y) → (x : X) (ys : List X) → P x → AllByRecursion Q ys → AllByRecursion (R x) ys
all_cross R P Q h x [] p k = tt
all_cross R P Q h x (y ∷ ys) p k = (h x y p k.0, all_cross R P Q h x ys p k.1)

pub ascends_append : {Op : Type 0} (Before : Op → Op → Type 0) (P Q : Op → Type 0) → ((x y : Op) → P x → Q y → Before x y) → (xs ys : List Op) → Ascends Before xs → Ascends Before ys → AllByRecursion P xs → AllByRecursion Q ys → Ascends Before (xs ++ ys)
ascends_append Before P Q h [] ys a b p q = b
ascends_append Before P Q h (x ∷ xs) ys a b p q =
    (all_append (Before x) xs ys a.0 (all_cross Before P Q h x ys p.0 q), ascends_append Before P Q h xs ys a.1 b p.1 q)

-- what an operation comes to stands in its part, in order
pub record IsPart {Op : Type 0} (at : List ℕ) (ops : List (Labelled Op)) : Type 0 where
  pub part : AllByRecursion (InPart at) ops
  pub ascends : Ascends Earlier ops

pub record IsRest {Op : Type 0} (at : List ℕ) (n : ℕ) (ops : List (Labelled Op)) : Type 0 where
  pub under : AllByRecursion (Under at n) ops
  pub ascends : Ascends Earlier ops

pub program_rest : {Op Ans A : Type 0} (o : Oracle (Labelled Op) Ans) (at : List ℕ) (n : ℕ) (p : Program Op Ans A) → ((q : Labelled Op) → Mentions p q.op → IsPart q.at (o.asked q)) → IsRest at n (asked_in o (labelled at n p))
program_rest o at n (Ends a) h = record { under = tt; ascends = tt }
program_rest {Op} o at n (Asks op more) h =
    let x : Labelled Op = record { at = at ++ n ∷ []; op = op } in
    let first : IsPart (at ++ n ∷ []) (o.asked x) = h x (inl refl) in
    let rest : IsRest at (suc n) (asked_in o (labelled at (suc n) (more (o.answer x)))) = program_rest o at (suc n) (more (o.answer x)) (λ q m. h q (inr (o.answer x, m))) in
    record {
      under = all_append (Under at n) (o.asked x) (asked_in o (labelled at (suc n) (more (o.answer x)))) (all_weaker (InPart (at ++ n ∷ [])) (Under at n) (o.asked x) (under_part at n) first.part) (all_weaker (Under at (suc n)) (Under at n) (asked_in o (labelled at (suc n) (more (o.answer x)))) (under_less at n) rest.under);
      ascends = ascends_append Earlier (InPart (at ++ n ∷ [])) (Under at (suc n)) (sooner at n) (o.asked x) (asked_in o (labelled at (suc n) (more (o.answer x)))) first.ascends rest.ascends first.part rest.under;
    }

pub op_part : {Op Ans : Type 0} (ways : Ways Op Ans) (o : Oracle (Labelled Op) Ans) → IsOracle (ways_at ways) o → (op : Op) → Grounded ways.plan ways.single op → (at : List ℕ) → IsPart at (o.asked (record { at = at; op = op }))
op_part {Op} ways o is op (Bottom e) at =
    subst (IsPart at) (sym (is.itself (record { at = at; op = op }) e)) (record { part = (([], whole at), tt); ascends = (tt, tt) })
  where
    whole : (xs : List ℕ) → xs ≡ xs ++ []
    whole [] = refl
    whole (x ∷ xs) = ap (λ (ys : List ℕ). x ∷ ys) (whole xs)
op_part {Op} ways o is op (Above e below) at =
    let rest : IsRest at 0 (asked_in o (labelled at 0 (ways.plan op))) = program_rest o at 0 (ways.plan op) (λ q m. op_part ways o is q.op (below q.op m) q.at) in
    subst (IsPart at) (sym (is.asked (record { at = at; op = op }) e))
    (record { part = all_weaker (Under at 0) (InPart at) (asked_in o (labelled at 0 (ways.plan op))) (part_under at 0) rest.under; ascends = rest.ascends })

-- a program's operations are asked in the order of their places
pub asked_ascend : {Op Ans A : Type 0} (ways : Ways Op Ans) (ground : (op : Op) → Grounded ways.plan ways.single op) (o : Oracle (Labelled Op) Ans) (p : Program Op Ans A) → IsOracle (ways_at ways) o → Ascends Earlier (asked_in o (labelled [] 0 p))
asked_ascend ways ground o p is = (program_rest o [] 0 p (λ q m. op_part ways o is q.op (ground q.op) q.at)).ascends

-- ---- the test of places

pub number_itself : (n : ℕ) → same_number n n ≡ true
number_itself zero = refl
number_itself (suc n) = number_itself n

pub number_is : (m n : ℕ) → same_number m n ≡ true → m ≡ n
number_is zero zero h = refl
number_is zero (suc n) h = absurd (cc)
number_is (suc m) zero h = absurd (cc)
number_is (suc m) (suc n) h = ap suc (number_is m n h)

pub at_itself : (ns : List ℕ) → same_at ns ns ≡ true
at_itself [] = refl
at_itself (n ∷ ns) = ap (λ (b : Bool). cond b (same_at ns ns) false) (number_itself n) ∙ at_itself ns

at_if : (b : Bool) (m n : ℕ) (ms ns : List ℕ) → same_number m n ≡ b → cond b (same_at ms ns) false ≡ true → (same_at ms ns ≡ true → ms ≡ ns) → m ∷ ms ≡ n ∷ ns
at_if true m n ms ns e h rest = let x : m ≡ n = number_is m n e in let y : ms ≡ ns = rest h in cc
at_if false m n ms ns e h rest = absurd (cc)

pub at_is : (ms ns : List ℕ) → same_at ms ns ≡ true → ms ≡ ns
at_is [] [] h = refl
at_is [] (n ∷ ns) h = absurd (cc)
at_is (m ∷ ms) [] h = absurd (cc)
at_is (m ∷ ms) (n ∷ ns) h = at_if (same_number m n) m n ms ns refl h (at_is ms ns)

pub same_itself : {Op : Type 0} (x : Labelled Op) → same_place x x ≡ true
same_itself x = at_itself x.at

pub below_itself : (ns : List ℕ) → Below ns ns → ⊥
below_itself [] h = h
below_itself (n ∷ ns) (inl h) = omega arith
below_itself (n ∷ ns) (inr h) = below_itself ns h.1

abbrev Alike : {Op : Type 0} → Labelled Op → Labelled Op → Type 0
Alike a b = a.at ≡ b.at → a ≡ b

alike_apart : {Op : Type 0} (a b : Labelled Op) → Earlier a b → Alike a b × Alike b a
alike_apart a b k = (
  λ f. absurd (below_itself b.at (subst (λ (ns : List ℕ). Below ns b.at) f k)),
  λ f. absurd (below_itself b.at (subst (λ (ns : List ℕ). Below ns b.at) (sym f) k)),
)

alike_head : {Op : Type 0} (a : Labelled Op) (xs bs : List (Labelled Op)) → AllByRecursion (Earlier a) bs → AllByRecursion (λ b. AllByRecursion (Alike b) xs) bs → AllByRecursion (λ b. AllByRecursion (Alike b) (a ∷ xs)) bs
alike_head a xs [] l m = tt
alike_head a xs (b ∷ bs) l m = (((alike_apart a b l.0).1, m.0), alike_head a xs bs l.1 m.1)

alike_each : {Op : Type 0} (xs : List (Labelled Op)) → Ascends Earlier xs → AllByRecursion (λ a. AllByRecursion (Alike a) xs) xs
alike_each [] k = tt
alike_each (a ∷ xs) k =
    ((λ f. refl, all_weaker (Earlier a) (Alike a) xs (λ b l. (alike_apart a b l).0) k.0), alike_head a xs xs k.0 (alike_each xs k.1))

-- of those that ascend, one place is one operation
one_place : {Op : Type 0} (ops : List (Labelled Op)) (x y : Labelled Op) → Ascends Earlier ops → Contains ops x → Contains ops y → x.at ≡ y.at → x ≡ y
one_place ops x y h cx cy e =
    all_contains (Alike x) ops y (all_contains (λ a. AllByRecursion (Alike a) ops) ops x (alike_each ops h) cx) cy e

pub test_among : {Op : Type 0} (ops : List (Labelled Op)) → Ascends Earlier ops → IsTest same_place (Contains ops)
test_among ops h = record { itself = same_itself; is = λ x y cx cy e. one_place ops x y h cx cy (at_is x.at y.at e) }
