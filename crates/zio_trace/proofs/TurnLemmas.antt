-- What the definitions do in turn is a history of a round.
use Rattle.std.proofs.Common.{◌≡◌, ℕ, suc, Bool, true, false, List, [], ◌∷◌, ◌++◌, Contains, inl, inr, refl, sym, ap, ◌∙◌, subst, append-nil, arith}
use Rattle.std.specs.List.{AllByRecursion}
use Rattle.zio_types.specs.Choices.{Choice}
use Rattle.zio_cksum.specs.Images.{Images}
use Rattle.zio_cksum.proofs.AllLemmas.{all_append, all_contained, all_weaker}
use Rattle.zio_gang.specs.Attempts.{Terms}
use Rattle.zio_trace.specs.Conflicts.{TaskLies}
use Rattle.zio_trace.specs.Families.{Forest}
use Rattle.zio_trace.specs.Labels.{Below, Earlier, Labelled, labelled, means_at, same_place, ways_at}
use Rattle.zio_trace.specs.Oracles.{Agrees, AreOnce, Ascends, InOrder, IsOracle, Oracle, Ways, asked_in, heard, ops_of, weigh}
use Rattle.zio_trace.specs.Programs.{Asks, Deed, Done, Ends, Happen, Meaning, Program, run}
use Rattle.zio_trace.specs.RoundRules.{mend_task, task_rules, task_ways}
use Rattle.zio_trace.specs.Rounds.{plan_round}
use Rattle.zio_trace.specs.Rules.{IsDone}
use Rattle.zio_trace.specs.Tasks.{Find, Task, Value, means}
use Rattle.zio_trace.specs.Traces.{Above, Bottom, Grounded, Mentions}
use Rattle.zio_trace.proofs.GroundLemmas.{task_ground}
use Rattle.zio_trace.proofs.LabelLemmas.{InPart, IsPart, IsRest, Under, ascends_append, at_is, below_itself, part_under, sooner, under_less, under_part}
use Rattle.zio_trace.proofs.ListLemmas.{all_front, all_rest}
use Rattle.zio_trace.proofs.RequestLemmas.{plan_run}
use Rattle.zio_trace.proofs.TraceLemmas.{happen_join}

ops_append : {Op Ans : Type 0} (ds es : List (Deed Op Ans)) → ops_of (ds ++ es) ≡ ops_of ds ++ ops_of es
ops_append [] es = refl
ops_append (d ∷ ds) es = ap (λ (ops : List _). d.op ∷ ops) (ops_append ds es)

module _ {Op Ans : Type 0} (ways : Ways Op Ans) (gives : Meaning Op Ans) (law : (op : Op) (images : Images) → run gives (ways.plan op) images ≡ gives op images) where
  -- the single operations of an operation at its place, in turn
  pub record PartDone (x : Labelled Op) (images : Images) : Type 0 where
    pub ds : List (Deed (Labelled Op) Ans)
    pub happen : Happen (means_at gives) ds images (gives x.op images).images
    pub known : (o : Oracle (Labelled Op) Ans) → IsOracle (ways_at ways) o → Agrees o ds → (o.answer x ≡ (gives x.op images).value) × (o.asked x ≡ ops_of ds)
    pub part : IsPart x.at (ops_of ds)
    pub single : AllByRecursion (λ (d : Deed (Labelled Op) Ans). ways.single d.op.op ≡ true) ds

  -- and of a program, from its nth on
  pub record RestDone {A : Type 0} (at : List ℕ) (n : ℕ) (p : Program Op Ans A) (images : Images) : Type 0 where
    pub ds : List (Deed (Labelled Op) Ans)
    pub happen : Happen (means_at gives) ds images (run gives p images).images
    pub known : (o : Oracle (Labelled Op) Ans) → IsOracle (ways_at ways) o → Agrees o ds → (heard o (labelled at n p) ≡ (run gives p images).value) × (asked_in o (labelled at n p) ≡ ops_of ds)
    pub rest : IsRest at n (ops_of ds)
    pub single : AllByRecursion (λ (d : Deed (Labelled Op) Ans). ways.single d.op.op ≡ true) ds

  pub rest_done : {A : Type 0} (at : List ℕ) (n : ℕ) (p : Program Op Ans A) (images : Images) → ((q : Op) → Mentions p q → (at : List ℕ) (now : Images) → PartDone (record { at = at; op = q }) now) → RestDone at n p images
  rest_done at n (Ends a) images h = record { ds = []; happen = refl; known = λ o is agrees. (refl, refl); rest = record { under = tt; ascends = tt }; single = tt }
  rest_done {A} at n (Asks op more) images h =
      let x : Labelled Op = record { at = at ++ n ∷ []; op = op } in
      let now : Done Ans = gives op images in
      let first : PartDone x images = h op (inl refl) (at ++ n ∷ []) images in
      let later : RestDone at (suc n) (more now.value) now.images = rest_done at (suc n) (more now.value) now.images (λ q m. h q (inr (now.value, m))) in
      let joined : IsRest at n (ops_of first.ds ++ ops_of later.ds) = record {
        under = all_append (Under at n) (ops_of first.ds) (ops_of later.ds) (all_weaker (InPart (at ++ n ∷ [])) (Under at n) (ops_of first.ds) (under_part at n) first.part.part) (all_weaker (Under at (suc n)) (Under at n) (ops_of later.ds) (under_less at n) later.rest.under);
        ascends = ascends_append Earlier (InPart (at ++ n ∷ [])) (Under at (suc n)) (sooner at n) (ops_of first.ds) (ops_of later.ds) first.part.ascends later.rest.ascends first.part.part later.rest.under;
      } in
      record {
        ds = first.ds ++ later.ds;
        happen = happen_join (means_at gives) first.ds later.ds images now.images (run gives (more now.value) now.images).images first.happen later.happen;
        known = λ o is agrees.
            let k = first.known o is (all_front (λ (d : Deed (Labelled Op) Ans). o.answer d.op ≡ d.answer) first.ds later.ds agrees) in
            let l = later.known o is (all_rest (λ (d : Deed (Labelled Op) Ans). o.answer d.op ≡ d.answer) first.ds later.ds agrees) in (
              ap (λ (w : Ans). heard o (labelled at (suc n) (more w))) k.0 ∙ l.0,
              (λ i. k.1 i ++ (ap (λ (w : Ans). asked_in o (labelled at (suc n) (more w))) k.0 ∙ l.1) i) ∙ sym (ops_append first.ds later.ds),
            );
        rest = subst (IsRest at n) (sym (ops_append first.ds later.ds)) joined;
        single = all_append (λ (d : Deed (Labelled Op) Ans). ways.single d.op.op ≡ true) first.ds later.ds first.single later.single;
      }

  pub part_done : (op : Op) → Grounded ways.plan ways.single op → (at : List ℕ) (images : Images) → PartDone (record { at = at; op = op }) images
  part_done op (Bottom e) at images = record {
    ds = record { op = record { at = at; op = op }; answer = (gives op images).value } ∷ [];
    happen = (refl, refl);
    known = λ o is agrees. (agrees.0, is.itself (record { at = at; op = op }) e);
    part = record { part = (([], sym (append-nil at)), tt); ascends = (tt, tt) };
    single = (e, tt);
  }
  part_done op (Above e below) at images =
      let x : Labelled Op = record { at = at; op = op } in
      let r : RestDone at 0 (ways.plan op) images = rest_done at 0 (ways.plan op) images (λ q m. part_done q (below q m)) in
      record {
        ds = r.ds;
        happen = subst (λ (i : Images). Happen (means_at gives) r.ds images i) (ap (λ (d : Done Ans). d.images) (law op images)) r.happen;
        known = λ o is agrees.
            let k = r.known o is agrees in
            (is.answer x e ∙ k.0 ∙ ap (λ (d : Done Ans). d.value) (law op images), is.asked x e ∙ k.1);
        part = record { part = all_weaker (Under at 0) (InPart at) (ops_of r.ds) (part_under at 0) r.rest.under; ascends = r.rest.ascends };
        single = r.single;
      }

-- ---- in turn is in order

below_both : (xs ys : List ℕ) → Below xs ys → Below ys xs → ⊥
below_both [] [] h k = h
below_both [] (y ∷ ys) h k = h
below_both (x ∷ xs) [] h k = h
below_both (x ∷ xs) (y ∷ ys) (inl h) (inl k) = omega arith
below_both (x ∷ xs) (y ∷ ys) (inl h) (inr k) = let e : y ≡ x = k.0 in omega arith
below_both (x ∷ xs) (y ∷ ys) (inr h) (inl k) = let e : x ≡ y = h.0 in omega arith
below_both (x ∷ xs) (y ∷ ys) (inr h) (inr k) = below_both xs ys h.1 k.1

other_place : {Op : Type 0} (b : Bool) (x y : Labelled Op) → same_place x y ≡ b → Earlier x y → b ≡ false
other_place true x y e h = absurd (below_itself y.at (subst (λ (ns : List ℕ). Below ns y.at) (at_is x.at y.at e) h))
other_place false x y e h = refl

all_ops : {Op Ans : Type 0} (P : Op → Type 0) (ds : List (Deed Op Ans)) → AllByRecursion P (ops_of ds) → AllByRecursion (λ (d : Deed Op Ans). P d.op) ds
all_ops P [] h = tt
all_ops P (d ∷ ds) h = (h.0, all_ops P ds h.1)

once_in_turn : {Op Ans : Type 0} (ds : List (Deed (Labelled Op) Ans)) → Ascends Earlier (ops_of ds) → AreOnce same_place ds
once_in_turn [] h = tt
once_in_turn {Op} {Ans} (d ∷ ds) h =
    (all_weaker (λ (e : Deed (Labelled Op) Ans). Earlier d.op e.op) (λ (e : Deed (Labelled Op) Ans). same_place d.op e.op ≡ false) ds (λ e k. other_place (same_place d.op e.op) d.op e.op refl k) (all_ops (Earlier d.op) ds h.0), once_in_turn ds h.1)

order_in_turn : {Op Ans : Type 0} (Apart : Op → Op → Type 0) (ds : List (Deed (Labelled Op) Ans)) → Ascends Earlier (ops_of ds) → InOrder Earlier (λ x y. Apart x.op y.op) ds
order_in_turn Apart [] h = tt
order_in_turn {Op} {Ans} Apart (d ∷ ds) h =
    (all_weaker (λ (e : Deed (Labelled Op) Ans). Earlier d.op e.op) (λ (e : Deed (Labelled Op) Ans). Earlier e.op d.op → Apart d.op.op e.op.op) ds (λ e k l. absurd (below_both d.op.at e.op.at k l)) (all_ops (Earlier d.op) ds h.0), order_in_turn Apart ds h.1)

fits_in_turn : (j : List Choice) (t : Terms) (o : Task) (v : Value) (images : Images) → (means j t o images).value ≡ v → mend_task j o v ≡ v
fits_in_turn j t (Find a) v images h = h
fits_in_turn j t _ v images h = refl

all_fit : (j : List Choice) (t : Terms) (ds : List (Deed (Labelled Task) Value)) (before after : Images) → Happen (means_at (means j t)) ds before after → AllByRecursion (λ (d : Deed (Labelled Task) Value). mend_task j d.op.op d.answer ≡ d.answer) ds
all_fit j t [] before after h = tt
all_fit j t (d ∷ ds) before after h = (fits_in_turn j t d.op.op d.answer before h.0, all_fit j t ds (means j t d.op.op before).images after h.1)

-- Each round has a history: what its plan does where it runs alone.
pub round_in_turn : (j : List Choice) (t : Terms) (sizes : ℕ → ℕ) (f : Forest) (before : Images) → (history : List (Deed (Labelled Task) Value)) × Happen (means_at (means j t)) history before (run (means j t) (plan_round f) before).images
    × (AllByRecursion (λ (d : Deed (Labelled Task) Value). TaskLies sizes d.op.op) history → IsDone (task_rules j t sizes) (plan_round f) history (run (means j t) (plan_round f) before).value)
round_in_turn j t sizes f before =
    let r : RestDone (task_ways j t) (means j t) (plan_run j t) [] 0 (plan_round f) before = rest_done (task_ways j t) (means j t) (plan_run j t) [] 0 (plan_round f) before (λ q m. part_done (task_ways j t) (means j t) (plan_run j t) q (task_ground t q)) in (
      r.ds,
      r.happen,
      λ lies. record {
        known = λ o is agrees. (r.known o is agrees).0;
        all = λ o is agrees w. ap (weigh w) (r.known o is agrees).1;
        within = λ o is agrees. subst (λ (ops : List (Labelled Task)). AllByRecursion (Contains ops) (ops_of r.ds)) (sym (r.known o is agrees).1) (all_contained (ops_of r.ds));
        once = once_in_turn r.ds r.rest.ascends;
        single = r.single;
        fit = all_fit j t r.ds before (run (means j t) (plan_round f) before).images r.happen;
        order = order_in_turn _ r.ds r.rest.ascends;
        lies = lies;
      },
    )
