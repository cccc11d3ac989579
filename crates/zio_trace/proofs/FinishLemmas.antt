-- A leaf's operation is done, and the round's end.
use Rattle.std.proofs.Common.{◌≡◌, ℕ, ◌+◌, ◌≤◌, true, false, List, [], ◌∷◌, ◌++◌, Contains, refl, sym, ap, ◌∙◌, subst, arith}
use Rattle.std.specs.List.{AllByRecursion}
use Rattle.zio_cksum.proofs.AllLemmas.{all_append, all_weaker}
use Rattle.zio_trace.specs.Programs.{Program, Ends, Asks, Deed}
use Rattle.zio_trace.specs.Oracles.{Oracle, IsOracle, heard, asked_in, Agrees, Sure, weigh, ops_of}
use Rattle.zio_trace.specs.Labels.{Labelled, labelled, ways_at, Earlier, same_place}
use Rattle.zio_trace.specs.Going.{asked_behind, Slot, todo_of, Knows, AskedWithin, weigh_slots, IsGoing}
use Rattle.zio_trace.proofs.OracleLemmas.{sure_more}
use Rattle.zio_trace.proofs.LabelLemmas.{asked_ascend}
use Rattle.zio_trace.proofs.StepLemmas.{behind_none}
use Rattle.zio_trace.proofs.OnceLemmas.{here, at_most_once, none_done, once_more, order_more, here_itself}
use Rattle.zio_trace.proofs.DoneLemmas.{some_oracle}
use Rattle.zio_trace.specs.Rules.{Rules, AreLawful, IsDoneBy}

ops_append : {Op Ans : Type 0} (ds es : List (Deed Op Ans)) → ops_of (ds ++ es) ≡ ops_of ds ++ ops_of es
ops_append [] es = refl
ops_append (d ∷ ds) es = ap (λ (ops : List _). d.op ∷ ops) (ops_append ds es)

weigh_append : {X : Type 0} (w : X → ℕ) (xs ys : List X) → weigh w (xs ++ ys) ≡ weigh w xs + weigh w ys
weigh_append w [] ys = omega arith
weigh_append w (x ∷ xs) ys = let e : weigh w (xs ++ ys) ≡ weigh w xs + weigh w ys = weigh_append w xs ys in omega arith

all_front : {X : Type 0} (P : X → Type 0) (xs ys : List X) → AllByRecursion P (xs ++ ys) → AllByRecursion P xs
all_front P [] ys h = tt
all_front P (x ∷ xs) ys h = (h.0, all_front P xs ys h.1)

all_back : {X : Type 0} (P : X → Type 0) (xs ys : List X) → AllByRecursion P (xs ++ ys) → AllByRecursion P ys
all_back P [] ys h = h
all_back P (x ∷ xs) ys h = all_back P xs ys h.1

module _ {Op Ans A : Type 0} (r : Rules Op Ans) (l : AreLawful r) (Passes : Labelled Op → Labelled Op → Type 0) (p : Program Op Ans A) where
  abbrev Going : List (Deed (Labelled Op) Ans) → List (Slot Op Ans) → Program (Labelled Op) Ans A → ℕ → Type 0
  Going = IsGoing r.ways Passes r.Lies r.mend p

  -- A node does an operation at once, of which nothing else that is out knows. It wasn't done before.
  pub going_does : (ds : List (Deed (Labelled Op) Ans)) (s : Slot Op Ans) (slots : List (Slot Op Ans)) (root : Program (Labelled Op) Ans A) (outs : ℕ) (x : Labelled Op) (more : Ans → Program (Labelled Op) Ans Ans) (v : Ans)
      → Going ds (s ∷ slots) root outs → s.outs ≡ 0 → s.rest ≡ Asks x more → r.ways.single x.op ≡ true → r.Lies x.op → r.mend x.op v ≡ v
      → AllByRecursion (λ (e : Deed (Labelled Op) Ans). Earlier x e.op → Passes e.op x) ds
      → Going (ds ++ record { op = x; answer = v } ∷ []) (record s { rest = more v } ∷ slots) root outs
  going_does ds s slots root outs x more v h none rest single lies fit clear =
      let d : Deed (Labelled Op) Ans = record { op = x; answer = v } in
      let new : Slot Op Ans = record s { rest = more v } in
      let old_of : (o : Oracle (Labelled Op) Ans) → Agrees o (ds ++ d ∷ []) → Agrees o ds = λ o agrees. all_front (λ (e : Deed (Labelled Op) Ans). o.answer e.op ≡ e.answer) ds (d ∷ []) agrees in
      let answer : (o : Oracle (Labelled Op) Ans) → Agrees o (ds ++ d ∷ []) → o.answer x ≡ v = λ o agrees. (all_back (λ (e : Deed (Labelled Op) Ans). o.answer e.op ≡ e.answer) ds (d ∷ []) agrees).0 in
      let old_todo : (o : Oracle (Labelled Op) Ans) → IsOracle (ways_at r.ways) o → todo_of o s ≡ x ∷ asked_in o (more (o.answer x)) =
      λ o is. (λ i. asked_behind o (none i) (rest i)) ∙ ap (λ (ops : List (Labelled Op)). ops ++ asked_in o (more (o.answer x))) (is.itself x single) in
      let split : (o : Oracle (Labelled Op) Ans) → IsOracle (ways_at r.ways) o → Agrees o (ds ++ d ∷ []) → todo_of o s ≡ x ∷ todo_of o new =
      λ o is agrees. old_todo o is ∙ ap (λ (a : Ans). x ∷ asked_in o (more a)) (answer o agrees) ∙ ap (λ (ops : List (Labelled Op)). x ∷ ops) (sym (behind_none o (more v))) ∙ ap (λ (k : ℕ). x ∷ asked_behind o k (more v)) (sym none) in
      let some = some_oracle r l ds (λ y. v) h.once h.single h.fit in
      let o0 : Oracle (Labelled Op) Ans = some.0 in
      let ops : List (Labelled Op) = asked_in o0 (labelled [] 0 p) in
      let most : weigh (here x) ops ≤ 1 = at_most_once x ops (asked_ascend r.ways l.ground o0 p some.1) in
      let all : weigh (here x) ops ≡ weigh (here x) (ops_of ds) + ((weigh (here x) (todo_of o0 s) + weigh_slots o0 (here x) slots) + weigh (here x) (asked_behind o0 outs root)) = h.todo o0 some.1 some.2 (here x) in
      let now : weigh (here x) (todo_of o0 s) ≡ here x x + weigh (here x) (asked_in o0 (more (o0.answer x))) = ap (weigh (here x)) (old_todo o0 some.1) in
      let one : here x x ≡ 1 = here_itself x in
      let fresh : weigh (here x) (ops_of ds) ≡ 0 = omega arith in
      let not_done : AllByRecursion (λ (e : Deed (Labelled Op) Ans). same_place e.op x ≡ false) ds = none_done x ds fresh in
      record {
        knows = (
          λ o is agrees. ap (λ (a : Ans). heard o (more a)) (sym (answer o agrees)) ∙ sym (ap (heard o) rest) ∙ h.knows.0 o is (old_of o agrees),
          all_weaker (Knows r.ways ds) (Knows r.ways (ds ++ d ∷ [])) slots (λ q k. sure_more (ways_at r.ways) (λ o. heard o q.rest ≡ o.answer q.op) ds (d ∷ []) k) h.knows.1,
        );
        ends = sure_more (ways_at r.ways) (λ o. heard o root ≡ heard o (labelled [] 0 p)) ds (d ∷ []) h.ends;
        todo = λ o is agrees w.
            let before : weigh w (asked_in o (labelled [] 0 p)) ≡ weigh w (ops_of ds) + ((weigh w (todo_of o s) + weigh_slots o w slots) + weigh w (asked_behind o outs root)) = h.todo o is (old_of o agrees) w in
            let e : weigh w (todo_of o s) ≡ w x + weigh w (todo_of o new) = ap (weigh w) (split o is agrees) in
            let f : weigh w (ops_of (ds ++ d ∷ [])) ≡ weigh w (ops_of ds) + (w x + 0) = ap (weigh w) (ops_append ds (d ∷ [])) ∙ weigh_append w (ops_of ds) (x ∷ []) in
            omega arith;
        inside = (
          λ o is agrees. (subst (AskedWithin p o) (split o is agrees) (h.inside.0 o is (old_of o agrees))).1,
          all_weaker (λ (q : Slot Op Ans). Sure (ways_at r.ways) ds (λ o. AskedWithin p o (todo_of o q))) (λ (q : Slot Op Ans). Sure (ways_at r.ways) (ds ++ d ∷ []) (λ o. AskedWithin p o (todo_of o q))) slots (λ q k. sure_more (ways_at r.ways) (λ o. AskedWithin p o (todo_of o q)) ds (d ∷ []) k) h.inside.1,
        );
        left = sure_more (ways_at r.ways) (λ o. AskedWithin p o (asked_behind o outs root)) ds (d ∷ []) h.left;
        within = λ o is agrees.
            subst (AskedWithin p o) (sym (ops_append ds (d ∷ [])))
            (all_append (Contains (asked_in o (labelled [] 0 p))) (ops_of ds) (x ∷ []) (h.within o is (old_of o agrees)) ((subst (AskedWithin p o) (split o is agrees) (h.inside.0 o is (old_of o agrees))).0, tt));
        once = once_more d ds h.once not_done;
        single = all_append (λ (e : Deed (Labelled Op) Ans). r.ways.single e.op.op ≡ true) ds (d ∷ []) h.single (single, tt);
        fit = all_append (λ (e : Deed (Labelled Op) Ans). r.mend e.op.op e.answer ≡ e.answer) ds (d ∷ []) h.fit (fit, tt);
        order = order_more Earlier Passes d ds h.order clear;
        lies = all_append (λ (e : Deed (Labelled Op) Ans). r.Lies e.op.op) ds (d ∷ []) h.lies (lies, tt);
      }

  -- nothing is in flight, and the round's program has ended
  pub going_ends : (ds : List (Deed (Labelled Op) Ans)) (value : A) (outs : ℕ) → Going ds [] (Ends value) outs → IsDoneBy r Passes p ds value
  going_ends ds value outs h = record {
    known = λ o is agrees. sym (h.ends o is agrees);
    all = λ o is agrees w. let e : weigh w (asked_in o (labelled [] 0 p)) ≡ weigh w (ops_of ds) + (0 + 0) = h.todo o is agrees w in omega arith;
    within = h.within;
    once = h.once;
    single = h.single;
    fit = h.fit;
    order = h.order;
    lies = h.lies;
  }
