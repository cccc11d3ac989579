-- Each step keeps what a round in the middle keeps, and at its end it is done.
use Rattle.std.proofs.Common.{◌≡◌, ℕ, suc, ◌+◌, ◌≤◌, List, [], ◌∷◌, ◌++◌, Some, refl, sym, ap, ◌∙◌, subst, arith}
use Rattle.std.specs.List.{AllByRecursion}
use Rattle.zio_cksum.proofs.AllLemmas.{all_contained}
use Rattle.zio_trace.specs.Programs.{Program, Ends, Deed}
use Rattle.zio_trace.specs.Calls.{answered_at}
use Rattle.zio_trace.specs.Oracles.{Ways, Oracle, IsOracle, heard, asked_in, Agrees, Sure, weigh, ops_of}
use Rattle.zio_trace.specs.Labels.{Labelled, labelled, ways_at}
use Rattle.zio_trace.specs.Going.{nth_asked, asked_behind, Slot, todo_of, Knows, IsFresh, AskedWithin, weigh_slots, IsGoing}
use Rattle.zio_trace.proofs.StepLemmas.{behind_none, behind_next, heard_answered, behind_answered}

module _ {Op Ans A : Type 0} (ways : Ways Op Ans) (Passes : Labelled Op → Labelled Op → Type 0) (Lies : Op → Type 0) (mend : Op → Ans → Ans) (p : Program Op Ans A) where
  abbrev Going : List (Deed (Labelled Op) Ans) → List (Slot Op Ans) → Program (Labelled Op) Ans A → ℕ → Type 0
  Going = IsGoing ways Passes Lies mend p

  front : (P : Labelled Op → Type 0) (xs ys : List (Labelled Op)) → AllByRecursion P (xs ++ ys) → AllByRecursion P xs
  front P [] ys h = tt
  front P (x ∷ xs) ys h = (h.0, front P xs ys h.1)

  back : (P : Labelled Op → Type 0) (xs ys : List (Labelled Op)) → AllByRecursion P (xs ++ ys) → AllByRecursion P ys
  back P [] ys h = h
  back P (x ∷ xs) ys h = back P xs ys h.1

  weigh_append : (w : Labelled Op → ℕ) (xs ys : List (Labelled Op)) → weigh w (xs ++ ys) ≡ weigh w xs + weigh w ys
  weigh_append w [] ys = omega arith
  weigh_append w (x ∷ xs) ys = let e : weigh w (xs ++ ys) ≡ weigh w xs + weigh w ys = weigh_append w xs ys in omega arith

  -- nothing is done, and all is to be asked
  pub going_begins : Going [] [] (labelled [] 0 p) 0
  going_begins = record {
    knows = tt;
    ends = λ o is agrees. refl;
    todo = λ o is agrees w. let e : weigh w (asked_behind o 0 (labelled [] 0 p)) ≡ weigh w (asked_in o (labelled [] 0 p)) = ap (weigh w) (behind_none o (labelled [] 0 p)) in omega arith;
    inside = tt;
    left = λ o is agrees. subst (AskedWithin p o) (sym (behind_none o (labelled [] 0 p))) (all_contained (asked_in o (labelled [] 0 p)));
    within = λ o is agrees. tt;
    once = tt;
    single = tt;
    fit = tt;
    order = tt;
    lies = tt;
  }

  -- a node hands out its next operation
  pub going_grows : (ds : List (Deed (Labelled Op) Ans)) (s child : Slot Op Ans) (slots : List (Slot Op Ans)) (root : Program (Labelled Op) Ans A) (outs : ℕ)
      → Going ds (s ∷ slots) root outs → Sure (ways_at ways) ds (λ o. nth_asked o s.outs s.rest ≡ Some child.op) → IsFresh ways ds child
      → Going ds (child ∷ record s { outs = suc s.outs } ∷ slots) root outs
  going_grows ds s child slots root outs h next fresh =
      let split : (o : Oracle (Labelled Op) Ans) → IsOracle (ways_at ways) o → Agrees o ds → todo_of o s ≡ todo_of o child ++ asked_behind o (suc s.outs) s.rest =
      λ o is agrees. behind_next o s.outs s.rest child.op (next o is agrees) ∙ ap (λ (xs : List (Labelled Op)). xs ++ asked_behind o (suc s.outs) s.rest) (sym (fresh o is agrees).1) in
      record {
        knows = (λ o is agrees. (fresh o is agrees).0, (h.knows.0, h.knows.1));
        ends = h.ends;
        todo = λ o is agrees w.
            let all : weigh w (asked_in o (labelled [] 0 p)) ≡ weigh w (ops_of ds) + ((weigh w (todo_of o s) + weigh_slots o w slots) + weigh w (asked_behind o outs root)) = h.todo o is agrees w in
            let e : weigh w (todo_of o s) ≡ weigh w (todo_of o child) + weigh w (asked_behind o (suc s.outs) s.rest) = ap (weigh w) (split o is agrees) ∙ weigh_append w (todo_of o child) (asked_behind o (suc s.outs) s.rest) in
            omega arith;
        inside = (
          λ o is agrees. front _ (todo_of o child) (asked_behind o (suc s.outs) s.rest) (subst (AskedWithin p o) (split o is agrees) (h.inside.0 o is agrees)),
          (λ o is agrees. back _ (todo_of o child) (asked_behind o (suc s.outs) s.rest) (subst (AskedWithin p o) (split o is agrees) (h.inside.0 o is agrees)), h.inside.1),
        );
        left = h.left;
        within = h.within;
        once = h.once;
        single = h.single;
        fit = h.fit;
        order = h.order;
        lies = h.lies;
      }

  -- and so does the round itself
  pub going_roots : (ds : List (Deed (Labelled Op) Ans)) (child : Slot Op Ans) (slots : List (Slot Op Ans)) (root : Program (Labelled Op) Ans A) (outs : ℕ)
      → Going ds slots root outs → Sure (ways_at ways) ds (λ o. nth_asked o outs root ≡ Some child.op) → IsFresh ways ds child
      → Going ds (child ∷ slots) root (suc outs)
  going_roots ds child slots root outs h next fresh =
      let split : (o : Oracle (Labelled Op) Ans) → IsOracle (ways_at ways) o → Agrees o ds → asked_behind o outs root ≡ todo_of o child ++ asked_behind o (suc outs) root =
      λ o is agrees. behind_next o outs root child.op (next o is agrees) ∙ ap (λ (xs : List (Labelled Op)). xs ++ asked_behind o (suc outs) root) (sym (fresh o is agrees).1) in
      record {
        knows = (λ o is agrees. (fresh o is agrees).0, h.knows);
        ends = h.ends;
        todo = λ o is agrees w.
            let all : weigh w (asked_in o (labelled [] 0 p)) ≡ weigh w (ops_of ds) + (weigh_slots o w slots + weigh w (asked_behind o outs root)) = h.todo o is agrees w in
            let e : weigh w (asked_behind o outs root) ≡ weigh w (todo_of o child) + weigh w (asked_behind o (suc outs) root) = ap (weigh w) (split o is agrees) ∙ weigh_append w (todo_of o child) (asked_behind o (suc outs) root) in
            omega arith;
        inside = (λ o is agrees. front _ (todo_of o child) (asked_behind o (suc outs) root) (subst (AskedWithin p o) (split o is agrees) (h.left o is agrees)), h.inside);
        left = λ o is agrees. back _ (todo_of o child) (asked_behind o (suc outs) root) (subst (AskedWithin p o) (split o is agrees) (h.left o is agrees));
        within = h.within;
        once = h.once;
        single = h.single;
        fit = h.fit;
        order = h.order;
        lies = h.lies;
      }

  -- a node ended, and its value arrives at the node above, where it is the nth that is out
  pub going_arrives : (ds : List (Deed (Labelled Op) Ans)) (s q : Slot Op Ans) (slots : List (Slot Op Ans)) (root : Program (Labelled Op) Ans A) (outs : ℕ) (v : Ans) (n m : ℕ)
      → Going ds (s ∷ q ∷ slots) root outs → s.rest ≡ Ends v → q.outs ≡ suc m → n ≤ m → Sure (ways_at ways) ds (λ o. nth_asked o n q.rest ≡ Some s.op)
      → Going ds (record { op = q.op; rest = answered_at n v q.rest; outs = m } ∷ slots) root outs
  going_arrives ds s q slots root outs v n m h ended out le nth =
      let value : (o : Oracle (Labelled Op) Ans) → IsOracle (ways_at ways) o → Agrees o ds → o.answer s.op ≡ v =
      λ o is agrees. sym (h.knows.0 o is agrees) ∙ ap (heard o) ended in
      let none : (o : Oracle (Labelled Op) Ans) → todo_of o s ≡ [] = λ o. ap (asked_behind o s.outs) ended in
      let same : (o : Oracle (Labelled Op) Ans) → IsOracle (ways_at ways) o → Agrees o ds → asked_behind o m (answered_at n v q.rest) ≡ todo_of o q =
      λ o is agrees. behind_answered o n m v q.rest s.op (nth o is agrees) (value o is agrees) le ∙ ap (λ (k : ℕ). asked_behind o k q.rest) (sym out) in
      record {
        knows = (λ o is agrees. heard_answered o n v q.rest s.op (nth o is agrees) (value o is agrees) ∙ h.knows.1.0 o is agrees, h.knows.1.1);
        ends = h.ends;
        todo = λ o is agrees w.
            let all : weigh w (asked_in o (labelled [] 0 p)) ≡ weigh w (ops_of ds) + ((weigh w (todo_of o s) + (weigh w (todo_of o q) + weigh_slots o w slots)) + weigh w (asked_behind o outs root)) = h.todo o is agrees w in
            let e : weigh w (todo_of o s) ≡ 0 = ap (weigh w) (none o) in
            let f : weigh w (asked_behind o m (answered_at n v q.rest)) ≡ weigh w (todo_of o q) = ap (weigh w) (same o is agrees) in
            omega arith;
        inside = (λ o is agrees. subst (AskedWithin p o) (sym (same o is agrees)) (h.inside.1.0 o is agrees), h.inside.1.1);
        left = h.left;
        within = h.within;
        once = h.once;
        single = h.single;
        fit = h.fit;
        order = h.order;
        lies = h.lies;
      }

  -- or at the round itself
  pub going_roots_end : (ds : List (Deed (Labelled Op) Ans)) (s : Slot Op Ans) (slots : List (Slot Op Ans)) (root : Program (Labelled Op) Ans A) (v : Ans) (n m : ℕ)
      → Going ds (s ∷ slots) root (suc m) → s.rest ≡ Ends v → n ≤ m → Sure (ways_at ways) ds (λ o. nth_asked o n root ≡ Some s.op)
      → Going ds slots (answered_at n v root) m
  going_roots_end ds s slots root v n m h ended le nth =
      let value : (o : Oracle (Labelled Op) Ans) → IsOracle (ways_at ways) o → Agrees o ds → o.answer s.op ≡ v =
      λ o is agrees. sym (h.knows.0 o is agrees) ∙ ap (heard o) ended in
      let none : (o : Oracle (Labelled Op) Ans) → todo_of o s ≡ [] = λ o. ap (asked_behind o s.outs) ended in
      let same : (o : Oracle (Labelled Op) Ans) → IsOracle (ways_at ways) o → Agrees o ds → asked_behind o m (answered_at n v root) ≡ asked_behind o (suc m) root =
      λ o is agrees. behind_answered o n m v root s.op (nth o is agrees) (value o is agrees) le in
      record {
        knows = h.knows.1;
        ends = λ o is agrees. heard_answered o n v root s.op (nth o is agrees) (value o is agrees) ∙ h.ends o is agrees;
        todo = λ o is agrees w.
            let all : weigh w (asked_in o (labelled [] 0 p)) ≡ weigh w (ops_of ds) + ((weigh w (todo_of o s) + weigh_slots o w slots) + weigh w (asked_behind o (suc m) root)) = h.todo o is agrees w in
            let e : weigh w (todo_of o s) ≡ 0 = ap (weigh w) (none o) in
            let f : weigh w (asked_behind o m (answered_at n v root)) ≡ weigh w (asked_behind o (suc m) root) = ap (weigh w) (same o is agrees) in
            omega arith;
        inside = h.inside.1;
        left = λ o is agrees. subst (AskedWithin p o) (sym (same o is agrees)) (h.left o is agrees);
        within = h.within;
        once = h.once;
        single = h.single;
        fit = h.fit;
        order = h.order;
        lies = h.lies;
      }

  -- ---- in whatever order the nodes are listed

  all_to_front : {X : Type 0} (P : X → Type 0) (xs : List X) (y : X) (ys : List X) → AllByRecursion P (xs ++ y ∷ ys) → AllByRecursion P (y ∷ xs ++ ys)
  all_to_front P [] y ys h = h
  all_to_front P (x ∷ xs) y ys h = let k : AllByRecursion P (y ∷ xs ++ ys) = all_to_front P xs y ys h.1 in (k.0, (h.0, k.1))

  all_from_front : {X : Type 0} (P : X → Type 0) (xs : List X) (y : X) (ys : List X) → AllByRecursion P (y ∷ xs ++ ys) → AllByRecursion P (xs ++ y ∷ ys)
  all_from_front P [] y ys h = h
  all_from_front P (x ∷ xs) y ys h = (h.1.0, all_from_front P xs y ys (h.0, h.1.1))

  weigh_front : (o : Oracle (Labelled Op) Ans) (w : Labelled Op → ℕ) (xs : List (Slot Op Ans)) (y : Slot Op Ans) (ys : List (Slot Op Ans)) → weigh_slots o w (xs ++ y ∷ ys) ≡ weigh_slots o w (y ∷ xs ++ ys)
  weigh_front o w [] y ys = refl
  weigh_front o w (x ∷ xs) y ys = let e : weigh_slots o w (xs ++ y ∷ ys) ≡ weigh w (todo_of o y) + weigh_slots o w (xs ++ ys) = weigh_front o w xs y ys in omega arith

  pub going_to_front : (ds : List (Deed (Labelled Op) Ans)) (xs : List (Slot Op Ans)) (y : Slot Op Ans) (ys : List (Slot Op Ans)) (root : Program (Labelled Op) Ans A) (outs : ℕ) → Going ds (xs ++ y ∷ ys) root outs → Going ds (y ∷ xs ++ ys) root outs
  going_to_front ds xs y ys root outs h = record {
    knows = all_to_front (Knows ways ds) xs y ys h.knows;
    todo = λ o is agrees w. h.todo o is agrees w ∙ ap (λ (n : ℕ). weigh w (ops_of ds) + (n + weigh w (asked_behind o outs root))) (weigh_front o w xs y ys);
    inside = all_to_front (λ (s : Slot Op Ans). Sure (ways_at ways) ds (λ o. AskedWithin p o (todo_of o s))) xs y ys h.inside;
    ends = h.ends;
    left = h.left;
    within = h.within;
    once = h.once;
    single = h.single;
    fit = h.fit;
    order = h.order;
    lies = h.lies;
  }

  pub going_from_front : (ds : List (Deed (Labelled Op) Ans)) (xs : List (Slot Op Ans)) (y : Slot Op Ans) (ys : List (Slot Op Ans)) (root : Program (Labelled Op) Ans A) (outs : ℕ) → Going ds (y ∷ xs ++ ys) root outs → Going ds (xs ++ y ∷ ys) root outs
  going_from_front ds xs y ys root outs h = record {
    knows = all_from_front (Knows ways ds) xs y ys h.knows;
    todo = λ o is agrees w. h.todo o is agrees w ∙ ap (λ (n : ℕ). weigh w (ops_of ds) + (n + weigh w (asked_behind o outs root))) (sym (weigh_front o w xs y ys));
    inside = all_from_front (λ (s : Slot Op Ans). Sure (ways_at ways) ds (λ o. AskedWithin p o (todo_of o s))) xs y ys h.inside;
    ends = h.ends;
    left = h.left;
    within = h.within;
    once = h.once;
    single = h.single;
    fit = h.fit;
    order = h.order;
    lies = h.lies;
  }
