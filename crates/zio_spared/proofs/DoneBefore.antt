-- What one part asks stands in turn: where an operation of it is done or in flight, each read that it asks before is
-- done.
use Rattle.std.proofs.Common.{◌≡◌, ℕ, zero, suc, ◌+◌, ◌<◌, ◌≤◌, List, [], ◌∷◌, ◌++◌, length, map, Bool, true, false, Option, Contains, ◌⊎◌, inl, inr, ⊎_elim, refl, sym, ap, ◌∙◌, subst, arith}
use Rattle.std.specs.List.{AllByRecursion}
use Rattle.zio_types.specs.Choices.{Choice}
use Rattle.zio_cksum.specs.Images.{Images}
use Rattle.zio_cksum.proofs.AllLemmas.{all_contained, all_contains, all_unmap, all_weaker}
use Rattle.zio_trace.specs.Clearings.{AreClear, Away, FreeOf, Holds, Seat}
use Rattle.zio_trace.specs.Conflicts.{is_single}
use Rattle.zio_trace.specs.Engines.{MayDo, reach_in}
use Rattle.zio_trace.specs.Entries.{any_ways}
use Rattle.zio_trace.specs.Going.{asked_behind, todo_of, weigh_slots}
use Rattle.zio_trace.specs.Keys.{bit}
use Rattle.zio_trace.specs.Labels.{Earlier, Labelled, labelled, same_place, ways_at}
use Rattle.zio_trace.specs.Oracles.{Agrees, IsOracle, Oracle, asked_in, ops_of, weigh}
use Rattle.zio_trace.specs.Passing.{Passes, Stores, parent_at}
use Rattle.zio_trace.specs.Programs.{Asks, Deed, Ends, Program}
use Rattle.zio_trace.specs.RoundRules.{task_ways}
use Rattle.zio_trace.specs.Tasks.{Task, Value}
use Rattle.zio_trace.specs.Underway.{Comes, Flight, IsFlying, IsUnderway, State, WasHandedOut, Work, plan_each, seat_of, slot_of}
use Rattle.zio_trace.specs.Views.{NumberedFrom, left_behind}
use Rattle.zio_trace.proofs.ChoiceLemmas.{contained_cases}
use Rattle.zio_trace.proofs.GroundLemmas.{task_ground}
use Rattle.zio_trace.proofs.LabelLemmas.{Under, asked_ascend, at_is, op_part, program_rest, same_itself, test_among}
use Rattle.zio_trace.proofs.ListLemmas.{contains_first, contains_later}
use Rattle.zio_trace.proofs.PairLemmas.{all_of}
use Rattle.zio_trace.proofs.ReaderHistory.{parent_part}
use Rattle.zio_trace.proofs.RoundEnds.{any_oracle}
use Rattle.zio_trace.proofs.UnderwayDone.{own_within}
use Rattle.zio_spared.proofs.CountLemmas.{one_of, positive, weighs_one}

-- ---- weights

abbrev here : Labelled Task → Labelled Task → ℕ
here q y = bit (same_place y q)

-- one of these stands at that place
abbrev IsAtPlace : List (Labelled Task) → Labelled Task → Type 0
IsAtPlace ys q = (y : Labelled Task) × Contains ys y × (same_place y q ≡ true)

at_place : (ys : List (Labelled Task)) (q : Labelled Task) → 1 ≤ weigh (here q) ys → IsAtPlace ys q
at_place ys q h = one_of (λ (y : Labelled Task). same_place y q) ys h

-- one of those in flight still has it to do
in_flight : (o : Oracle (Labelled Task) Value) (q : Labelled Task) (flights : List Flight) → 1 ≤ weigh_slots o (here q) (map slot_of flights)
    → (y : Flight) × Contains flights y × IsAtPlace (todo_of o (slot_of y)) q
in_flight o q [] h = absurd (omega arith)
in_flight o q (y ∷ flights) h = by_weight (weigh (here q) (todo_of o (slot_of y))) refl h (λ k. in_flight o q flights k)
  where
    by_weight : (n : ℕ) → weigh (here q) (todo_of o (slot_of y)) ≡ n → 1 ≤ n + weigh_slots o (here q) (map slot_of flights)
        → (1 ≤ weigh_slots o (here q) (map slot_of flights) → (x : Flight) × Contains flights x × IsAtPlace (todo_of o (slot_of x)) q)
        → (x : Flight) × Contains (y ∷ flights) x × IsAtPlace (todo_of o (slot_of x)) q
    by_weight zero e le later = let k = later (omega arith) in (k.0, contains_later y flights k.0 k.1, k.2)
    by_weight (suc n) e le later = (y, contains_first y flights, at_place (todo_of o (slot_of y)) q (omega arith))

-- ---- places

-- A place behind another of its part stands in each part in which that stands, from there on.
beside : (xs at : List ℕ) (number i m : ℕ) (below : List ℕ) → at ++ i ∷ [] ≡ xs ++ number ∷ below → i ≤ m → (n : ℕ) × (rest : List ℕ) × (at ++ m ∷ [] ≡ xs ++ n ∷ rest) × (number ≤ n)
beside [] [] number i m below e le = let is : i ≡ number = cc in (m, [], refl, omega arith)
beside [] (a ∷ at) number i m below e le = let is : a ≡ number = cc in (a, at ++ m ∷ [], refl, omega arith)
beside (x ∷ xs) [] number i m below e le = absurd (none xs (let k : [] ≡ xs ++ number ∷ below = cc in k))
  where
    none : (ys : List ℕ) → [] ≡ ys ++ number ∷ below → ⊥
    none [] f = cc
    none (y ∷ ys) f = cc
beside (x ∷ xs) (a ∷ at) number i m below e le =
    let is : a ≡ x = cc in
    let rest : at ++ i ∷ [] ≡ xs ++ number ∷ below = cc in
    let k = beside xs at number i m below rest le in
    (k.0, k.1, (λ j. is j ∷ k.2 j), k.3)

behind_left : {A : Type 0} (o : Oracle (Labelled Task) Value) (n : ℕ) (p : Program (Labelled Task) Value A) → asked_behind o n p ≡ asked_in o (left_behind o n p)
behind_left o zero (Ends a) = refl
behind_left o zero (Asks op more) = refl
behind_left o (suc n) (Ends a) = refl
behind_left o (suc n) (Asks op more) = behind_left o n (more (o.answer op))

-- ---- work that is under way

module _ (w : Work) (before : Option Images) (s : State) (under : IsUnderway w before s) (j : List Choice) (comes : Comes w s.entries j) (o : Oracle (Labelled Task) Value) (is : IsOracle (ways_at (task_ways j w.terms)) o) (agrees : Agrees o s.deeds) where
  -- all that is asked
  abbrev pub asked : List (Labelled Task)
  asked = asked_in o (labelled [] 0 (plan_each w.tasks))

  any : IsOracle (ways_at (any_ways w.terms)) o
  any = any_oracle j w.terms o is

  one_at : (x y : Labelled Task) → Contains asked x → Contains asked y → same_place x y ≡ true → x ≡ y
  one_at = (test_among asked (asked_ascend (task_ways j w.terms) (task_ground w.terms) o (plan_each w.tasks) is)).is

  under_rest : {A : Type 0} (at : List ℕ) (n : ℕ) (p : Program (Labelled Task) Value A) → NumberedFrom at n p → AllByRecursion (Under at n) (asked_in o p)
  under_rest {A} at n p h =
      subst (λ (r : Program (Labelled Task) Value A). AllByRecursion (Under at n) (asked_in o r)) (sym h.1)
      (program_rest o at n h.0 (λ x m. op_part (task_ways j w.terms) o is x.op (task_ground w.terms x.op) x.at)).under

  -- what is known of an operation that was done, or is in flight
  pub record IsThere (x : Labelled Task) : Type 0 where
    pub held : AllByRecursion (λ (y : Flight). Holds (seat_of y) x.at) s.flights
    pub passes : AllByRecursion (λ (y : Flight). is_single y.op.op ≡ true → Earlier y.op x → Passes w.terms.setting w.shared x y.op) s.flights
    pub below : WasHandedOut s.next x.at

  abbrev seats : List (Seat Task)
  seats = map seat_of s.flights

  are_clear : AreClear (reach_in j w.terms w.shared) s.deeds seats
  are_clear = (under.clear j comes).clear

  own : (y : Labelled Task) → is_single y.op ≡ true → MayDo j w.terms y y
  own y single = record { within = own_within w j y.op single; at = inl refl }

  pub deeds_there : AllByRecursion (λ (d : Deed (Labelled Task) Value). IsThere d.op) s.deeds
  deeds_there =
      all_of (λ (d : Deed (Labelled Task) Value). IsThere d.op) s.deeds
      (λ d cd. record {
        held =
            all_unmap (λ (seat : Seat Task). Holds seat d.op.at) seat_of s.flights
            (all_weaker (λ (seat : Seat Task). AllByRecursion (λ (e : Deed (Labelled Task) Value). Holds seat e.op.at) s.deeds) (λ (seat : Seat Task). Holds seat d.op.at) seats
            (λ seat h. all_contains (λ (e : Deed (Labelled Task) Value). Holds seat e.op.at) s.deeds d h cd) are_clear.done);
        passes =
            all_weaker (λ (y : Flight). AllByRecursion (λ (e : Deed (Labelled Task) Value). Earlier y.op e.op → Away (reach_in j w.terms w.shared) y.op e.op) s.deeds) _ s.flights
            (λ y h single l. all_contains (λ (e : Deed (Labelled Task) Value). Earlier y.op e.op → Away (reach_in j w.terms w.shared) y.op e.op) s.deeds d h cd l y.op (own y.op single))
            (all_unmap (λ (seat : Seat Task). AllByRecursion (λ (e : Deed (Labelled Task) Value). Earlier seat.op e.op → Away (reach_in j w.terms w.shared) seat.op e.op) s.deeds) seat_of s.flights are_clear.clear);
        below = all_contains (λ (e : Deed (Labelled Task) Value). WasHandedOut s.next e.op.at) s.deeds d under.done_below cd;
      })

  seated : (x : Flight) → Contains s.flights x → Contains seats (seat_of x)
  seated x c = all_contains (λ (y : Flight). Contains seats (seat_of y)) s.flights x (all_unmap (Contains seats) seat_of s.flights (all_contained seats)) c

  pub flight_there : (x : Flight) → Contains s.flights x → is_single x.op.op ≡ true → IsThere x.op
  flight_there x c single = record {
    held =
        all_unmap (λ (seat : Seat Task). Holds seat x.op.at) seat_of s.flights
        (all_weaker (λ (seat : Seat Task). AllByRecursion (λ (q : Seat Task). Holds seat q.op.at) seats) (λ (seat : Seat Task). Holds seat x.op.at) seats
        (λ seat h. all_contains (λ (q : Seat Task). Holds seat q.op.at) seats (seat_of x) h (seated x c)) are_clear.flying);
    passes =
        all_weaker (λ (y : Flight). AllByRecursion (FreeOf (reach_in j w.terms w.shared) (seat_of y)) seats) _ s.flights
        (λ y h first l. all_contains (FreeOf (reach_in j w.terms w.shared) (seat_of y)) seats (seat_of x) h (seated x c) l x.op (own x.op single) y.op (own y.op first))
        (all_unmap (λ (seat : Seat Task). AllByRecursion (FreeOf (reach_in j w.terms w.shared) seat) seats) seat_of s.flights are_clear.free);
    below = all_contains (λ (y : Flight). WasHandedOut s.next y.op.at) s.flights x under.flown_below c;
  }

  -- ---- what is still to be asked

  module _ (x q : Labelled Task) (at : List ℕ) (i m : ℕ) (there : IsThere x) (listed : Contains asked q) (q_at : q.at ≡ at ++ i ∷ []) (x_at : x.at ≡ at ++ m ∷ []) (le : i ≤ m) (earlier : Earlier q x) where
    abbrev Done : Type 0
    Done = Contains (ops_of s.deeds) q ⊎ Stores q.op

    passes_by : Passes w.terms.setting w.shared x q → Done
    passes_by (inl h) = inr (h.1 (ap parent_at x_at ∙ parent_part at m ∙ sym (ap parent_at q_at ∙ parent_part at i))).1
    passes_by (inr h) = absurd (h.0 (ap parent_at x_at ∙ parent_part at m ∙ sym (ap parent_at q_at ∙ parent_part at i)))

    -- a single operation in flight, which is this one
    is_single_one : (y : Flight) → Contains s.flights y → is_single y.op.op ≡ true → y.op ≡ q → Done
    is_single_one y c single same =
        passes_by
        (subst (Passes w.terms.setting w.shared x) same
        (all_contains (λ (z : Flight). is_single z.op.op ≡ true → Earlier z.op x → Passes w.terms.setting w.shared x z.op) s.flights y there.passes c single
        (subst (λ (z : Labelled Task). Earlier z x) (sym same) earlier)))

    single_todo : (y : Flight) (z : Labelled Task) → is_single y.op.op ≡ true → IsFlying w.terms s.deeds y → Contains (todo_of o (slot_of y)) z → y.op ≡ z
    single_todo y z single flying c =
        let k = flying.single single in
        let now : Contains (asked_behind o 0 y.rest) z = subst (λ (n : ℕ). Contains (asked_behind o n y.rest) z) (ap length k.0) c in
        ⊎_elim
        (λ (e : y.rest ≡ Asks y.op (λ v. Ends v)).
        let one : Contains (o.asked y.op ++ []) z = subst (λ (p : Program (Labelled Task) Value Value). Contains (asked_behind o 0 p) z) e now in
        let is_op : Contains (y.op ∷ []) z = subst (λ (xs : List (Labelled Task)). Contains (xs ++ []) z) (is.itself y.op single) one in
        ⊎_elim (λ (same : y.op ≡ z). same) (λ (none : Contains [] z). absurd (all_contains (λ (v : Labelled Task). ⊥) [] z tt none)) (contained_cases y.op [] z is_op))
        (λ (e : (v : Value) × (y.rest ≡ Ends v)).
        absurd (all_contains (λ (v : Labelled Task). ⊥) [] z tt (subst (λ (p : Program (Labelled Task) Value Value). Contains (asked_behind o 0 p) z) e.1 now)))
        k.1

    -- a part that hasn't asked it yet holds nothing behind it
    not_behind : (ys : List ℕ) (next : ℕ) (z : Labelled Task) → Under ys next z → same_place z q ≡ true → ((n : ℕ) (rest : List ℕ) → x.at ≡ ys ++ n ∷ rest → n < next) → ⊥
    not_behind ys next z under_it same held =
        let from : next ≤ under_it.number = under_it.from in
        let k = beside ys at under_it.number i m under_it.below (sym q_at ∙ sym (at_is z.at q.at same) ∙ under_it.is) le in
        let less : k.0 < next = held k.0 k.1 (x_at ∙ k.2) in
        let more : under_it.number ≤ k.0 = k.3 in
        omega arith

    todo_listed : (y : Flight) (z : Labelled Task) → Contains s.flights y → Contains (todo_of o (slot_of y)) z → Contains asked z
    todo_listed y z c cz =
        all_contains (Contains asked) (todo_of o (slot_of y)) z
        (all_contains (λ (x : Flight). AllByRecursion (Contains asked) (todo_of o (slot_of x))) s.flights y
        (all_weaker (λ (x : Flight). (o : Oracle (Labelled Task) Value) → IsOracle (ways_at (any_ways w.terms)) o → Agrees o s.deeds → AllByRecursion (Contains (asked_in o (labelled [] 0 (plan_each w.tasks)))) (todo_of o (slot_of x)))
        (λ (x : Flight). AllByRecursion (Contains asked) (todo_of o (slot_of x))) s.flights (λ x h. h o any agrees) (all_unmap _ slot_of s.flights under.going.inside)) c) cz

    still : (y : Flight) (z : Labelled Task) (b : Bool) → is_single y.op.op ≡ b → Contains s.flights y → Contains (todo_of o (slot_of y)) z → same_place z q ≡ true → Done
    still y z true single c cz same =
        is_single_one y c single
        (single_todo y z single (all_contains (IsFlying w.terms s.deeds) s.flights y under.flying c) cz ∙ one_at z q (todo_listed y z c cz) listed same)
    still y z false many c cz same =
        let left = (all_contains (IsFlying w.terms s.deeds) s.flights y under.flying c).left many o any agrees in
        let behind : Under y.op.at y.next z =
        all_contains (Under y.op.at y.next) (asked_in o (left_behind o (length y.outs) y.rest)) z (under_rest y.op.at y.next (left_behind o (length y.outs) y.rest) left.numbered)
        (subst (λ (xs : List (Labelled Task)). Contains xs z) (behind_left o (length y.outs) y.rest) cz) in
        absurd (not_behind y.op.at y.next z behind same (λ n rest e. all_contains (λ (v : Flight). Holds (seat_of v) x.at) s.flights y there.held c n rest e))

    at_root : (z : Labelled Task) → Contains (asked_behind o (length s.outs) s.root) z → same_place z q ≡ true → Done
    at_root z cz same =
        let behind : Under [] s.next z =
        all_contains (Under [] s.next) (asked_in o (left_behind o (length s.outs) s.root)) z (under_rest [] s.next (left_behind o (length s.outs) s.root) (under.root o any agrees).numbered)
        (subst (λ (xs : List (Labelled Task)). Contains xs z) (behind_left o (length s.outs) s.root) cz) in
        absurd
        (not_behind [] s.next z behind same
        (λ n rest e.
        let is_out : x.at ≡ there.below.0 ∷ there.below.1 = there.below.2 in
        let number : there.below.0 ≡ n = let both : there.below.0 ∷ there.below.1 ≡ n ∷ rest = sym is_out ∙ e in cc in
        let out : suc there.below.0 ≤ s.next = there.below.3 in
        omega arith))

    was_done : IsAtPlace (ops_of s.deeds) q → Done
    was_done h = inl (subst (Contains (ops_of s.deeds)) (one_at h.0 q (all_contains (Contains asked) (ops_of s.deeds) h.0 (under.going.within o any agrees) h.1) listed h.2) h.1)

    -- It was done, or it is a write.
    pub done_before : Done
    done_before =
        let all : weigh (here q) asked ≡ weigh (here q) (ops_of s.deeds) + (weigh_slots o (here q) (map slot_of s.flights) + weigh (here q) (asked_behind o (length s.outs) s.root)) =
        under.going.todo o any agrees (here q) in
        let some : 1 ≤ weigh (here q) asked = weighs_one (λ (y : Labelled Task). same_place y q) asked q listed (same_itself q) in
        ⊎_elim
        (λ (none : weigh (here q) (ops_of s.deeds) ≡ 0).
        ⊎_elim
        (λ (idle : weigh_slots o (here q) (map slot_of s.flights) ≡ 0).
        let root = at_place (asked_behind o (length s.outs) s.root) q (omega arith) in
        at_root root.0 root.1 root.2)
        (λ (busy : 1 ≤ weigh_slots o (here q) (map slot_of s.flights)).
        let k = in_flight o q s.flights busy in
        still k.0 k.2.0 (is_single k.0.op.op) refl k.1 k.2.1 k.2.2)
        (positive (weigh_slots o (here q) (map slot_of s.flights))))
        (λ (done : 1 ≤ weigh (here q) (ops_of s.deeds)). was_done (at_place (ops_of s.deeds) q done))
        (positive (weigh (here q) (ops_of s.deeds)))
