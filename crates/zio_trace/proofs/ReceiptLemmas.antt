-- What a node has grows by what its calls gave.
use Rattle.std.proofs.Common.{◌≡◌, ℕ, zero, suc, ◌+◌, Bool, true, false, List, [], ◌∷◌, ◌++◌, Some, Contains, refl, sym, ap, ◌∙◌, subst, arith}
use Rattle.std.specs.List.{AllByRecursion}
use Rattle.zio_cksum.proofs.AllLemmas.{all_append, all_weaker, all_contained, all_contains}
use Rattle.zio_trace.specs.Programs.{Program, Ends, Asks, Deed}
use Rattle.zio_trace.specs.Calls.{answered_at}
use Rattle.zio_trace.specs.Oracles.{Ways, Oracle, asked_in, Agrees, Sure, weigh, ops_of, AreOnce}
use Rattle.zio_trace.specs.Labels.{Labelled, labelled, ways_at, same_place}
use Rattle.zio_trace.specs.Going.{nth_asked}
use Rattle.zio_trace.specs.Receipts.{OfEnded, Has, Gave}
use Rattle.zio_trace.proofs.StepLemmas.{heard_answered}
use Rattle.zio_trace.proofs.LabelLemmas.{at_is}

ops_append : {Op Ans : Type 0} (ds es : List (Deed Op Ans)) → ops_of (ds ++ es) ≡ ops_of ds ++ ops_of es
ops_append [] es = refl
ops_append (d ∷ ds) es = ap (λ (ops : List _). d.op ∷ ops) (ops_append ds es)

weigh_append : {X : Type 0} (w : X → ℕ) (xs ys : List X) → weigh w (xs ++ ys) ≡ weigh w xs + weigh w ys
weigh_append w [] ys = omega arith
weigh_append w (x ∷ xs) ys = let e : weigh w (xs ++ ys) ≡ weigh w xs + weigh w ys = weigh_append w xs ys in omega arith

all_front : {X : Type 0} (P : X → Type 0) (xs ys : List X) → AllByRecursion P (xs ++ ys) → AllByRecursion P xs
all_front P [] ys h = tt
all_front P (x ∷ xs) ys h = (h.0, all_front P xs ys h.1)

all_back : {X : Type 0} (P : X → Type 0) (xs ys : List X) → AllByRecursion P (xs ++ ys) → AllByRecursion P ys
all_back P [] ys h = h
all_back P (x ∷ xs) ys h = all_back P xs ys h.1

-- an answer that comes takes its part out of what is asked
asked_answered : {Op Ans A : Type 0} (o : Oracle Op Ans) (n : ℕ) (v : Ans) (p : Program Op Ans A) (x : Op) → nth_asked o n p ≡ Some x → o.answer x ≡ v → (w : Op → ℕ) → weigh w (asked_in o p) ≡ weigh w (o.asked x) + weigh w (asked_in o (answered_at n v p))
asked_answered o n v (Ends a) x h e w = absurd (cc)
asked_answered o zero v (Asks op more) x h e w =
    let is : op ≡ x = cc in
    let f : weigh w (o.asked op ++ asked_in o (more (o.answer op))) ≡ weigh w (o.asked op) + weigh w (asked_in o (more (o.answer op))) = weigh_append w (o.asked op) (asked_in o (more (o.answer op))) in
    let g : weigh w (o.asked op) ≡ weigh w (o.asked x) = ap (λ (y : _). weigh w (o.asked y)) is in
    let k : weigh w (asked_in o (more (o.answer op))) ≡ weigh w (asked_in o (more v)) = ap (λ (u : _). weigh w (asked_in o (more u))) (ap (λ (y : _). o.answer y) is ∙ e) in
    omega arith
asked_answered o (suc n) v (Asks op more) x h e w =
    let f : weigh w (o.asked op ++ asked_in o (more (o.answer op))) ≡ weigh w (o.asked op) + weigh w (asked_in o (more (o.answer op))) = weigh_append w (o.asked op) (asked_in o (more (o.answer op))) in
    let g : weigh w (o.asked op ++ asked_in o (answered_at n v (more (o.answer op)))) ≡ weigh w (o.asked op) + weigh w (asked_in o (answered_at n v (more (o.answer op)))) = weigh_append w (o.asked op) (asked_in o (answered_at n v (more (o.answer op)))) in
    let k : weigh w (asked_in o (more (o.answer op))) ≡ weigh w (o.asked x) + weigh w (asked_in o (answered_at n v (more (o.answer op)))) = asked_answered o n v (more (o.answer op)) x h e w in
    omega arith

all_answered : {Op Ans A : Type 0} (o : Oracle Op Ans) (P : Op → Type 0) (n : ℕ) (v : Ans) (p : Program Op Ans A) (x : Op) → nth_asked o n p ≡ Some x → o.answer x ≡ v → AllByRecursion P (asked_in o p) → AllByRecursion P (o.asked x) × AllByRecursion P (asked_in o (answered_at n v p))
all_answered o P n v (Ends a) x h e k = absurd (cc)
all_answered o P zero v (Asks op more) x h e k =
    let is : op ≡ x = cc in (
      subst (λ (y : _). AllByRecursion P (o.asked y)) is (all_front P (o.asked op) (asked_in o (more (o.answer op))) k),
      subst (λ (u : _). AllByRecursion P (asked_in o (more u))) (ap (λ (y : _). o.answer y) is ∙ e) (all_back P (o.asked op) (asked_in o (more (o.answer op))) k),
    )
all_answered o P (suc n) v (Asks op more) x h e k =
    let r = all_answered o P n v (more (o.answer op)) x h e (all_back P (o.asked op) (asked_in o (more (o.answer op))) k) in
    (r.0, all_append P (o.asked op) (asked_in o (answered_at n v (more (o.answer op)))) (all_front P (o.asked op) (asked_in o (more (o.answer op))) k) r.1)

-- deeds of different parts
once_both : {Op Ans : Type 0} (ds es : List (Deed (Labelled Op) Ans)) → AreOnce same_place ds → AreOnce same_place es → AllByRecursion (λ (d : Deed (Labelled Op) Ans). AllByRecursion (λ (e : Deed (Labelled Op) Ans). same_place d.op e.op ≡ false) es) ds → AreOnce same_place (ds ++ es)
once_both [] es h k l = k
once_both {Op} {Ans} (d ∷ ds) es h k l = (all_append (λ (e : Deed (Labelled Op) Ans). same_place d.op e.op ≡ false) ds es h.0 l.0, once_both ds es h.1 k l.1)

part_number : (at : List ℕ) (m n : ℕ) (xs ys : List ℕ) → at ++ m ∷ xs ≡ at ++ n ∷ ys → m ≡ n
part_number [] m n xs ys h = cc
part_number (a ∷ at) m n xs ys h = let e : at ++ m ∷ xs ≡ at ++ n ∷ ys = cc in part_number at m n xs ys e

false_if : (b : Bool) → (b ≡ true → ⊥) → b ≡ false
false_if true h = absurd (h refl)
false_if false h = refl

-- deeds of parts that had ended, and of one that had not
pub parts_differ : {Op Ans : Type 0} (at : List ℕ) (HasEnded : ℕ → Type 0) (n : ℕ) (ds es : List (Deed (Labelled Op) Ans)) → (HasEnded n → ⊥) → AllByRecursion (OfEnded at HasEnded) ds → AllByRecursion (OfEnded at (λ m. m ≡ n)) es → AllByRecursion (λ (d : Deed (Labelled Op) Ans). AllByRecursion (λ (e : Deed (Labelled Op) Ans). same_place d.op e.op ≡ false) es) ds
parts_differ {Op} {Ans} at HasEnded n ds es never h k =
    all_weaker (OfEnded at HasEnded) (λ (d : Deed (Labelled Op) Ans). AllByRecursion (λ (e : Deed (Labelled Op) Ans). same_place d.op e.op ≡ false) es) ds
    (λ d a. all_weaker (OfEnded at (λ m. m ≡ n)) (λ (e : Deed (Labelled Op) Ans). same_place d.op e.op ≡ false) es
    (λ e b. false_if (same_place d.op e.op) (λ s. never (subst HasEnded (part_number at a.0 b.0 a.1 b.1 (sym a.2 ∙ at_is d.op.at e.op.at s ∙ b.2) ∙ b.3) a.3))) k)
    h

module _ {Op Ans : Type 0} (ways : Ways Op Ans) where
  left_agrees : (o : Oracle (Labelled Op) Ans) (ds es : List (Deed (Labelled Op) Ans)) → Agrees o (ds ++ es) → Agrees o ds × Agrees o es
  left_agrees o ds es h = (all_front (λ (e : Deed (Labelled Op) Ans). o.answer e.op ≡ e.answer) ds es h, all_back (λ (e : Deed (Labelled Op) Ans). o.answer e.op ≡ e.answer) ds es h)

  -- nothing is done yet
  pub has_begun : {A : Type 0} (whole : Program (Labelled Op) Ans A) → Has ways [] whole whole
  has_begun whole = record {
    knows = λ o is agrees. refl;
    all = λ o is agrees w. omega arith;
    within = λ o is agrees. all_contained (asked_in o whole);
    once = tt;
    single = tt;
  }

  -- an operation that is done at once gave its answer
  pub gave_itself : (op : Labelled Op) (v : Ans) → ways.single op.op ≡ true → Gave ways op v (record { op = op; answer = v } ∷ [])
  gave_itself op v e = record {
    known = λ o is agrees. agrees.0;
    all = λ o is agrees w. ap (weigh w) (is.itself op e);
    once = (tt, tt);
    single = (e, tt);
    within = λ o is agrees. subst (λ (xs : List (Labelled Op)). AllByRecursion (Contains (o.asked op)) xs) (is.itself op e) (all_contained (o.asked op));
  }

  -- What a call gave arrives, by whichever deeds, and these are the node's.
  pub has_more : {A : Type 0} (ds es : List (Deed (Labelled Op) Ans)) (x : Labelled Op) (whole rest : Program (Labelled Op) Ans A) (n : ℕ) (v : Ans)
      → Has ways ds whole rest → Gave ways x v es → Sure (ways_at ways) ds (λ o. nth_asked o n rest ≡ Some x)
      → AllByRecursion (λ (d : Deed (Labelled Op) Ans). AllByRecursion (λ (e : Deed (Labelled Op) Ans). same_place d.op e.op ≡ false) es) ds
      → Has ways (ds ++ es) whole (answered_at n v rest)
  has_more ds es x whole rest n v h gave nth differ = record {
    knows = λ o is agrees.
        let a = left_agrees o ds es agrees in
        heard_answered o n v rest x (nth o is a.0) (gave.known o is a.1) ∙ h.knows o is a.0;
    all = λ o is agrees w.
        let a = left_agrees o ds es agrees in
        let e : weigh w (asked_in o whole) ≡ weigh w (ops_of ds) + weigh w (asked_in o rest) = h.all o is a.0 w in
        let f : weigh w (asked_in o rest) ≡ weigh w (o.asked x) + weigh w (asked_in o (answered_at n v rest)) = asked_answered o n v rest x (nth o is a.0) (gave.known o is a.1) w in
        let g : weigh w (o.asked x) ≡ weigh w (ops_of es) = gave.all o is a.1 w in
        let k : weigh w (ops_of (ds ++ es)) ≡ weigh w (ops_of ds) + weigh w (ops_of es) = ap (weigh w) (ops_append ds es) ∙ weigh_append w (ops_of ds) (ops_of es) in
        omega arith;
    within = λ o is agrees.
        let a = left_agrees o ds es agrees in
        let C : Labelled Op → Type 0 = Contains (asked_in o whole) in
        let old : AllByRecursion C (ops_of ds ++ asked_in o rest) = h.within o is a.0 in
        let r = all_answered o C n v rest x (nth o is a.0) (gave.known o is a.1) (all_back C (ops_of ds) (asked_in o rest) old) in
        let new : AllByRecursion C (ops_of es) = all_weaker (Contains (o.asked x)) C (ops_of es) (λ y c. all_contains C (o.asked x) y r.0 c) (gave.within o is a.1) in
        subst (λ (xs : List (Labelled Op)). AllByRecursion C (xs ++ asked_in o (answered_at n v rest))) (sym (ops_append ds es))
        (all_append C (ops_of ds ++ ops_of es) (asked_in o (answered_at n v rest)) (all_append C (ops_of ds) (ops_of es) (all_front C (ops_of ds) (asked_in o rest) old) new) r.1);
    once = once_both ds es h.once gave.once differ;
    single = all_append (λ (d : Deed (Labelled Op) Ans). ways.single d.op.op ≡ true) ds es h.single gave.single;
  }

  -- and a node whose plan ends gave its value
  pub has_ended : (ds : List (Deed (Labelled Op) Ans)) (op : Labelled Op) (v : Ans) → ways.single op.op ≡ false → Has ways ds (labelled op.at 0 (ways.plan op.op)) (Ends v) → Gave ways op v ds
  has_ended ds op v e h =
      let whole : Program (Labelled Op) Ans Ans = labelled op.at 0 (ways.plan op.op) in
      record {
        known = λ o is agrees. is.answer op e ∙ sym (h.knows o is agrees);
        all = λ o is agrees w. let f : weigh w (asked_in o whole) ≡ weigh w (ops_of ds) + 0 = h.all o is agrees w in let g : weigh w (o.asked op) ≡ weigh w (asked_in o whole) = ap (weigh w) (is.asked op e) in omega arith;
        once = h.once;
        single = h.single;
        within = λ o is agrees. subst (λ (xs : List (Labelled Op)). AllByRecursion (Contains xs) (ops_of ds)) (sym (is.asked op e)) (all_front (Contains (asked_in o whole)) (ops_of ds) [] (h.within o is agrees));
      }
