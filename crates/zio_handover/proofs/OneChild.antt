-- The histories of one vdev child and its owner's wait: just one of the two is woken.
use Rattle.std.proofs.Common.{◌≡◌, ◌≢◌, ℕ, zero, suc, Bool, true, false, ◌&&◌, not, IsTrue, List, [], ◌∷◌, ◌++◌, refl, ap, sym, ◌∙◌, subst, inl, inr, ◌⊎◌, ⊎_elim, Result, Ok, Err, MatchResult, MatchOption, Option, Some, ◌<◌}
use Rattle.atomic_table.specs.Seated.{TableId}
use Rattle.zio_latch.specs.declared.arrived.Parked.{Parked}
use Rattle.zio_latch.specs.declared.arrived.Receipt.{Receipt}
use Rattle.zio_latch.specs.declared.arrived.Woken.{Woken}
use Rattle.zio_latch.specs.declared.owner.Owner.{Owner}
use Rattle.zio_latch.specs.declared.child.Child.{Child}
use Rattle.zio_latch.specs.Added.{IsNextOf}
use Rattle.zio_latch.specs.Kids.{live_count}
use Rattle.zio_types.specs.Machine as machine
use Rattle.zio_latch.specs.Calls.{capacity, history, kids, latch_of as owners_latch, latch_shown, shown}
use Rattle.zio_latch.specs.Wakes.{IsWait, capacity_of, history_at, latch_of}
use Rattle.std.proofs.Math.Bool.{and-false}
use Rattle.zio_types.specs.declared.request.ChildKind.{ChildKind}
use Rattle.zio_types.specs.declared.request.ChildKind.TheVariants.{Vdev, Gang, Logical}
use Rattle.zio_types.specs.declared.request.Phase.{Phase}
use Rattle.zio_types.specs.declared.request.Phase.TheVariants.{Ready, Done}
use Rattle.zio_types.specs.Machine.{Machine, after, marked_at, owes_at, same_kind, wakes}
use Rattle.zio_latch.specs.declared.view.Event.{Event}
use Rattle.zio_latch.specs.declared.view.Kid.{Kid}
use Rattle.zio_latch.specs.declared.view.Event.TheVariants.{Added, Gave, Waited}
use Rattle.zio_latch.specs.History.{AreLawful, AreOfOne, AreValues, ChildStep, IsLawful, OwnerStep, count_at, count_event, led, may_come, state_of, value_event}
use Rattle.zio_latch.proofs.Histories.{value_marks, waited_children}
use Rattle.zio_handover.specs.One.{IsOwnersWait, one_child}

abbrev G : Event
G = Gave Done Vdev 0

abbrev DoneFirst : List machine.Child → Type 0
DoneFirst [] = ⊥
DoneFirst (c ∷ cs) = c.done ≡ true

done_added : (cs : List machine.Child) (x : machine.Child) → DoneFirst cs → DoneFirst (cs ++ x ∷ [])
done_added [] x d = absurd d
done_added (c ∷ cs) x d = d

done_marked : (p : Phase) (n : ℕ) (cs : List machine.Child) → DoneFirst cs → DoneFirst (marked_at p n cs)
done_marked p n [] d = absurd d
done_marked Ready zero (c ∷ cs) d = d
done_marked Done zero (c ∷ cs) d = refl
done_marked p (suc n) (c ∷ cs) d = d

-- a child that is done stays so
done_after : (e : Event) (m : Machine) → DoneFirst m.children → DoneFirst (after (count_event e) m).children
done_after (Added k) m d = done_added m.children _ d
done_after (Gave p k n) m d = subst DoneFirst (sym (value_marks p k n m)) (done_marked p n m.children d)
done_after (Waited k p qs) m d = subst DoneFirst (sym (waited_children k p qs m)) d

not_owed : (cs : List machine.Child) → DoneFirst cs → IsTrue (owes_at Vdev Done 0 cs) → ⊥
not_owed [] d h = d
not_owed (c ∷ cs) d h = let e : false ≡ true = sym (ap (λ (b : Bool). same_kind c.kind Vdev && not b) d ∙ and-false (same_kind c.kind Vdev)) ∙ h in cc

-- a done child gives no value
no_more : (m : Machine) (es : List Event) → DoneFirst m.children → AreLawful m (es ++ G ∷ []) → ⊥
no_more m [] d l = not_owed m.children d l.0
no_more m (e ∷ es) d l = no_more (after (count_event e) m) es (done_after e m d) l.1

abbrev m1 : Machine
m1 = state_of one_child

abbrev m2 : Machine
m2 = after (count_event G) m1

none_owed : (k : ChildKind) (p : Phase) (n : ℕ) → owes_at k p n m2.children ≡ false
none_owed Vdev Ready zero = refl
none_owed Vdev Done zero = refl
none_owed Gang p zero = refl
none_owed Logical p zero = refl
none_owed k p (suc n) = refl

gave_none : (p : Phase) (k : ChildKind) (n : ℕ) → IsTrue (may_come (Gave p k n) m2) → ⊥
gave_none Ready k n h = let e : false ≡ true = sym (none_owed k Ready n) ∙ h in cc
gave_none Done k n h = let e : false ≡ true = sym (none_owed k Done n) ∙ h in cc

module _ (ks : List Kid) where
  abbrev pub W : Event
  W = Waited Vdev Done ks

  abbrev m3 : Machine
  m3 = after (count_event W) m1

  -- before the wait the child gave its value or didn't
  values_are : (rest : List Event) → AreValues rest → AreLawful m1 (rest ++ W ∷ []) → (rest ≡ []) ⊎ (rest ≡ G ∷ [])
  values_are [] v l = inl refl
  values_are (Added k ∷ es) v l = let e : false ≡ true = v.0 in cc
  values_are (Waited k p qs ∷ es) v l = let e : false ≡ true = v.0 in cc
  values_are (Gave Ready Vdev zero ∷ es) v l = let e : false ≡ true = l.0 in cc
  values_are (Gave Ready Gang zero ∷ es) v l = let e : false ≡ true = l.0 in cc
  values_are (Gave Ready Logical zero ∷ es) v l = let e : false ≡ true = l.0 in cc
  values_are (Gave Done Gang zero ∷ es) v l = let e : false ≡ true = l.0 in cc
  values_are (Gave Done Logical zero ∷ es) v l = let e : false ≡ true = l.0 in cc
  values_are (Gave Ready k (suc n) ∷ es) v l = let e : false ≡ true = l.0 in cc
  values_are (Gave Done k (suc n) ∷ es) v l = let e : false ≡ true = l.0 in cc
  values_are (Gave Done Vdev zero ∷ []) v l = inr refl
  values_are (Gave Done Vdev zero ∷ Added k ∷ es) v l = let e : false ≡ true = v.1.0 in cc
  values_are (Gave Done Vdev zero ∷ Waited k p qs ∷ es) v l = let e : false ≡ true = v.1.0 in cc
  values_are (Gave Done Vdev zero ∷ Gave p k n ∷ es) v l = absurd (gave_none p k n l.1.0)

  abbrev Wakes : Machine → Bool → Type 0
  Wakes m b = wakes (value_event Done Vdev 0) m ≡ b

  -- ---- neither is woken

  stalled : (r : List Event) → AreLawful m3 (r ++ G ∷ []) → Wakes (led m3 r) false → ⊥
  stalled [] l w = let e : true ≡ false = w in cc
  stalled (Added k ∷ r) l w = let e : false ≡ true = l.0 in cc
  stalled (Waited k p qs ∷ r) l w = let e : false ≡ true = l.0 in cc
  stalled (Gave Ready Vdev zero ∷ r) l w = let e : false ≡ true = l.0 in cc
  stalled (Gave Ready Gang zero ∷ r) l w = let e : false ≡ true = l.0 in cc
  stalled (Gave Ready Logical zero ∷ r) l w = let e : false ≡ true = l.0 in cc
  stalled (Gave Done Gang zero ∷ r) l w = let e : false ≡ true = l.0 in cc
  stalled (Gave Done Logical zero ∷ r) l w = let e : false ≡ true = l.0 in cc
  stalled (Gave Ready k (suc n) ∷ r) l w = let e : false ≡ true = l.0 in cc
  stalled (Gave Done k (suc n) ∷ r) l w = let e : false ≡ true = l.0 in cc
  stalled (Gave Done Vdev zero ∷ r) l w = no_more (after (count_event G) m3) r refl l.1

  waits_first : (r : List Event) (t : List Event) → AreLawful m1 (r ++ G ∷ []) → Wakes (led m1 r) false → W ∷ t ≡ r ++ G ∷ [] → ⊥
  waits_first [] t l w e = cc
  waits_first (x ∷ r) t l w e =
      let same : x ≡ W = cc in
      stalled r (subst (λ (z : Event). AreLawful (after (count_event z) m1) (r ++ G ∷ [])) same l.1) (subst (λ (z : Event). Wakes (led (after (count_event z) m1) r) false) same w)

  gives_first : (r t : List Event) → (r ++ G ∷ []) ++ t ≡ W ∷ [] → ⊥
  gives_first [] t e = cc
  gives_first (x ∷ []) t e = cc
  gives_first (x ∷ y ∷ r) t e = cc

  tails : (x y : Event) (xs ys : List Event) → ◌≡◌ {A = List Event} (x ∷ xs) (y ∷ ys) → xs ≡ ys
  tails x y xs ys e = cc

  lost_by : (rest r : List Event) → (rest ≡ []) ⊎ (rest ≡ G ∷ []) → count_at Vdev Done (one_child ++ (rest ++ W ∷ [])) ≢ 0 → AreLawful m1 (r ++ G ∷ []) → Wakes (led m1 r) false
      → AreOfOne (one_child ++ (rest ++ W ∷ [])) (one_child ++ (r ++ G ∷ [])) → ⊥
  lost_by rest r (inr e) some_ l w order = subst (λ (z : List Event). count_at Vdev Done (one_child ++ (z ++ W ∷ [])) ≢ 0 → ⊥) (sym e) (λ h. h refl) some_
  lost_by rest r (inl e) some_ l w order = subst (λ (z : List Event). AreOfOne (one_child ++ (z ++ W ∷ [])) (one_child ++ (r ++ G ∷ [])) → ⊥) (sym e)
      (λ o. ⊎_elim (λ p. waits_first r p.0 l w (tails _ _ _ _ p.1)) (λ p. gives_first r p.0 (tails _ _ _ _ p.1)) o) order

  -- ---- both are woken

  gave_first : (r t : List Event) → AreLawful m1 (r ++ G ∷ []) → G ∷ W ∷ t ≡ r ++ G ∷ [] → ⊥
  gave_first [] t l e = cc
  gave_first (x ∷ r) t l e = let same : x ≡ G = cc in no_more m2 r refl (subst (λ (z : Event). AreLawful (after (count_event z) m1) (r ++ G ∷ [])) same l.1)

  gave_then : (r t : List Event) → AreLawful m1 (r ++ G ∷ []) → Wakes (led m1 r) true → (r ++ G ∷ []) ++ t ≡ G ∷ W ∷ [] → ⊥
  gave_then [] t l w e = let h : false ≡ true = w in cc
  gave_then (x ∷ r) t l w e = let same : x ≡ G = cc in no_more m2 r refl (subst (λ (z : Event). AreLawful (after (count_event z) m1) (r ++ G ∷ [])) same l.1)

  both_by : (rest r : List Event) → (rest ≡ []) ⊎ (rest ≡ G ∷ []) → count_at Vdev Done (one_child ++ (rest ++ W ∷ [])) ≡ 0 → AreLawful m1 (r ++ G ∷ []) → Wakes (led m1 r) true
      → AreOfOne (one_child ++ (rest ++ W ∷ [])) (one_child ++ (r ++ G ∷ [])) → ⊥
  both_by rest r (inl e) none_ l w order = subst (λ (z : List Event). count_at Vdev Done (one_child ++ (z ++ W ∷ [])) ≡ 0 → ⊥) (sym e) (λ h. cc) none_
  both_by rest r (inr e) none_ l w order = subst (λ (z : List Event). AreOfOne (one_child ++ (z ++ W ∷ [])) (one_child ++ (r ++ G ∷ [])) → ⊥) (sym e)
      (λ o. ⊎_elim (λ p. gave_first r p.0 l (tails _ _ _ _ p.1)) (λ p. gave_then r p.0 l w (tails _ _ _ _ p.1)) o) order

  -- ---- the two steps

  abbrev pub Step : List Event → List Event → List Event → List Event → Bool → Type 0
  Step lw lc rest r b = (lw ≡ one_child ++ (rest ++ W ∷ [])) × (lc ≡ one_child ++ (r ++ G ∷ [])) × ((rest ≡ []) ⊎ (rest ≡ G ∷ [])) × AreLawful m1 (r ++ G ∷ []) × Wakes (led m1 r) b

  steps : (lw lc : List Event) (b : Bool) (o : OwnerStep W one_child lw) (c : ChildStep Done Vdev 0 one_child lc b) → Step lw lc o.since.0 c.since.0 b
  steps lw lc b o c =
      let wi : lw ≡ one_child ++ (o.since.0 ++ W ∷ []) = o.later_is ∙ ap (λ (l : List Event). l ++ W ∷ []) (sym o.since.2) in
      let ci : lc ≡ one_child ++ (c.since.0 ++ G ∷ []) = c.later_is ∙ ap (λ (l : List Event). l ++ G ∷ []) (sym c.since.1) in
      let wl : IsLawful (one_child ++ (o.since.0 ++ W ∷ [])) = subst IsLawful wi o.lawful in
      let cl : IsLawful (one_child ++ (c.since.0 ++ G ∷ [])) = subst IsLawful ci c.lawful in
      (wi, ci, values_are o.since.0 o.since.1 wl.1, cl.1, subst (λ (l : List Event). Wakes (state_of l) b) (sym c.since.1) c.wake)

  pub not_lost : (lw lc : List Event) → OwnerStep W one_child lw → count_at Vdev Done lw ≢ 0 → ChildStep Done Vdev 0 one_child lc false → AreOfOne lw lc → ⊥
  not_lost lw lc o some_ c order =
      let s = steps lw lc false o c in
      lost_by o.since.0 c.since.0 s.2 (subst (λ (l : List Event). count_at Vdev Done l ≢ 0) s.0 some_) s.3 s.4 (subst (λ (z : List Event × List Event). AreOfOne z.0 z.1) (λ i. (s.0 i, s.1 i)) order)

  pub not_both : (lw lc : List Event) → OwnerStep W one_child lw → count_at Vdev Done lw ≡ 0 → ChildStep Done Vdev 0 one_child lc true → AreOfOne lw lc → ⊥
  not_both lw lc o none_ c order =
      let s = steps lw lc true o c in
      both_by o.since.0 c.since.0 s.2 (subst (λ (l : List Event). count_at Vdev Done l ≡ 0) s.0 none_) s.3 s.4 (subst (λ (z : List Event × List Event). AreOfOne z.0 z.1) (λ i. (s.0 i, s.1 i)) order)

-- ---- the first child

first_by : (rest : List Event) → AreValues rest → IsLawful (rest ++ Added Vdev ∷ []) → rest ≡ []
first_by [] v l = refl
first_by (Added k ∷ es) v l = let e : false ≡ true = v.0 in cc
first_by (Waited k p qs ∷ es) v l = let e : false ≡ true = v.0 in cc
first_by (Gave Ready k n ∷ es) v l = let e : false ≡ true = l.0 in cc
first_by (Gave Done k n ∷ es) v l = let e : false ≡ true = l.0 in cc

pub first_added : (known later : List Event) → known ≡ [] → OwnerStep (Added Vdev) known later → later ≡ one_child
first_added known later e step =
    let is : later ≡ step.since.0 ++ Added Vdev ∷ [] = step.later_is ∙ ap (λ (l : List Event). l ++ Added Vdev ∷ []) (sym step.since.2 ∙ ap (λ (l : List Event). l ++ step.since.0) e) in
    is ∙ ap (λ (l : List Event). l ++ Added Vdev ∷ []) (first_by step.since.0 step.since.1 (subst IsLawful is step.lawful))

-- ---- answers by cases

module _ {N R V : Type 0} where
  pub ended_is : (r : Result (Woken N R V) Receipt) (t u : TableId) (k : ChildKind) (n : ℕ) (known : List Event) → k ≡ Vdev → n ≡ 0 → known ≡ one_child → u ≡ t
      → MatchResult r (λ w. ChildStep Done k n known (history_at w.arrived) true) (λ x. ChildStep Done k n known (shown x) false)
      → MatchResult r (λ w. latch_of w.arrived ≡ u) (λ x. latch_shown x ≡ u)
      → MatchResult r (λ w. (latch_of w.arrived ≡ t) × ChildStep Done Vdev 0 one_child (history_at w.arrived) true) (λ x. (latch_shown x ≡ t) × ChildStep Done Vdev 0 one_child (shown x) false)
  ended_is (Ok w) t u k n known a b c d came latch = (latch ∙ d, subst (λ (z : ChildKind × (ℕ × List Event)). ChildStep Done z.0 z.1.0 z.1.1 (history_at w.arrived) true) (λ i. (a i, (b i, c i))) came)
  ended_is (Err x) t u k n known a b c d came latch = (latch ∙ d, subst (λ (z : ChildKind × (ℕ × List Event)). ChildStep Done z.0 z.1.0 z.1.1 (shown x) false) (λ i. (a i, (b i, c i))) came)

  pub waited_is : (r : Result (Woken N R V) Parked) (o : Owner N R V) (t : TableId) (cap : ℕ) → history o ≡ one_child → owners_latch o ≡ t
      → MatchResult r (λ w. IsWait Vdev Done o (history_at w.arrived) × (count_at Vdev Done (history_at w.arrived) ≡ 0)) (λ p. IsWait Vdev Done o (shown p.receipt) × (count_at Vdev Done (shown p.receipt) ≢ 0))
      → MatchResult r (λ w. (latch_of w.arrived ≡ owners_latch o) × (capacity_of w.arrived ≡ cap)) (λ p. latch_shown p.receipt ≡ owners_latch o)
      → MatchResult r (λ w. (latch_of w.arrived ≡ t) × IsOwnersWait (history_at w.arrived) × (count_at Vdev Done (history_at w.arrived) ≡ 0)) (λ p. (latch_shown p.receipt ≡ t) × IsOwnersWait (shown p.receipt) × (count_at Vdev Done (shown p.receipt) ≢ 0))
  waited_is (Ok w) o t cap h l found latch = (latch.0 ∙ l, (kids o, subst (λ (k : List Event). OwnerStep (Waited Vdev Done (kids o)) k (history_at w.arrived)) h found.0.step), found.1)
  waited_is (Err p) o t cap h l found latch = (latch ∙ l, (kids o, subst (λ (k : List Event). OwnerStep (Waited Vdev Done (kids o)) k (shown p.receipt)) h found.0.step), found.1)

  abbrev Ended : TableId → Result (Woken N R V) Receipt → Type 0
  Ended t r = MatchResult r (λ w. (latch_of w.arrived ≡ t) × ChildStep Done Vdev 0 one_child (history_at w.arrived) true) (λ x. (latch_shown x ≡ t) × ChildStep Done Vdev 0 one_child (shown x) false)

  abbrev WaitedFor : TableId → Result (Woken N R V) Parked → Type 0
  WaitedFor t r = MatchResult r (λ w. (latch_of w.arrived ≡ t) × IsOwnersWait (history_at w.arrived) × (count_at Vdev Done (history_at w.arrived) ≡ 0)) (λ p. (latch_shown p.receipt ≡ t) × IsOwnersWait (shown p.receipt) × (count_at Vdev Done (shown p.receipt) ≢ 0))

  pub no_one : (t : TableId) (ended : Result (Woken N R V) Receipt) (waited : Result (Woken N R V) Parked) (x : Receipt) (p : Parked) → ended ≡ Err x → waited ≡ Err p → Ended t ended → WaitedFor t waited
      → AreOfOne (shown p.receipt) (shown x) → ⊥
  no_one t ended waited x p a b e w order = let f = subst (Ended t) a e in let v = subst (WaitedFor t) b w in not_lost v.1.0 (shown p.receipt) (shown x) v.1.1 v.2 f.1 order

  pub no_two : (t : TableId) (ended : Result (Woken N R V) Receipt) (waited : Result (Woken N R V) Parked) (x y : Woken N R V) → ended ≡ Ok x → waited ≡ Ok y → Ended t ended → WaitedFor t waited
      → AreOfOne (history_at y.arrived) (history_at x.arrived) → ⊥
  no_two t ended waited x y a b e w order = let f = subst (Ended t) a e in let v = subst (WaitedFor t) b w in not_both v.1.0 (history_at y.arrived) (history_at x.arrived) v.1.1 v.2 f.1 order

  abbrev pub Next : Owner N R V → Owner N R V → Option (Child N R V) → Type 0
  Next old new a = MatchOption a ((live_count (kids old) ≡ capacity old) × (kids new ≡ kids old) × (history new ≡ history old)) (λ x. (live_count (kids old) < capacity old) × IsNextOf old Vdev 7 x new)

  pub next_of : (old new : Owner N R V) (a : Option (Child N R V)) (child : Child N R V) → a ≡ Some child → Next old new a → IsNextOf old Vdev 7 child new
  next_of old new a child is m = (subst (Next old new) is m).1
