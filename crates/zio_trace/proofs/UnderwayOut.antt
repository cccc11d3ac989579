-- The work begins, tasks and operations are handed out, and those in flight are listed anew.
use Rattle.std.proofs.Common.{◌≡◌, ℕ, suc, ◌≤◌, false, List, [], ◌∷◌, ◌++◌, length, map, Option, Some, IfSome, Contains, IsPermutation, refl, sym, ap, ◌∙◌, subst, arith}
use Rattle.std.proofs.lemmas.List.Sorted.{IsPermutation-map}
use Rattle.std.specs.List.{AllByRecursion}
use Rattle.zio_types.specs.Choices.{Choice}
use Rattle.zio_cksum.specs.Images.{Images}
use Rattle.zio_cksum.proofs.AllLemmas.{all_contains, all_map, all_unmap, all_weaker}
use Rattle.zio_trace.specs.Clearings.{Free, Holds, Seat}
use Rattle.zio_trace.specs.Conflicts.{TaskLies, is_single}
use Rattle.zio_trace.specs.Engines.{reach_in}
use Rattle.zio_trace.specs.Entries.{any_ways}
use Rattle.zio_trace.specs.Footprints.{FitsTask, Within}
use Rattle.zio_trace.specs.Going.{IsGoing, Slot, nth_asked}
use Rattle.zio_trace.specs.Labels.{IsIn, Labelled, labelled}
use Rattle.zio_trace.specs.Oracles.{Oracle}
use Rattle.zio_trace.specs.Passing.{Passes}
use Rattle.zio_trace.specs.Plans.{plan}
use Rattle.zio_trace.specs.Programs.{Deed, Program}
use Rattle.zio_trace.specs.Tasks.{Task, Value}
use Rattle.zio_trace.specs.Underway.{Call, Comes, Flight, IsFlying, IsSound, IsUnderway, Known, StandsInTask, StandsWithin, State, WasHandedOut, Work, at_start, call_of, calls_in, flight_of, flying_now, ops_out, part_of, plan_each, root_out, seat_of, slot_of, with_out}
use Rattle.zio_trace.specs.Views.{nth}
use Rattle.zio_trace.proofs.AnyOrder.{all_permuted, clear_permuted, going_permuted}
use Rattle.zio_trace.proofs.ClearLemmas.{clear_grows}
use Rattle.zio_trace.proofs.ClearTasks.{clear_task, free_at, task_called}
use Rattle.zio_trace.proofs.DoneLemmas.{stays_labelled}
use Rattle.zio_trace.proofs.FlightLemmas.{Deeds, flight_fresh, flying_begins, flying_next, flying_out}
use Rattle.zio_trace.proofs.GoingLemmas.{going_begins, going_grows, going_roots}
use Rattle.zio_trace.proofs.LeftLemmas.{asked_call, calls_stay, left_begins, left_next, left_out, one_longer}
use Rattle.zio_trace.proofs.LinkLemmas.{linked_out, linked_permuted, linked_task}
use Rattle.zio_trace.proofs.ListLemmas.{all_lists}
use Rattle.zio_trace.proofs.MoreDone.{comes_at_all, some_any, some_under, starts_at}
use Rattle.zio_trace.proofs.NestLemmas.{nested_out, nested_permuted, nested_task, same_head}
use Rattle.zio_trace.proofs.ReachLemmas.{reach_below}
use Rattle.zio_trace.proofs.RequestFootprints.{tasks_stay}
use Rattle.zio_trace.proofs.RoundEnds.{any_oracle}

-- these are in flight
pub with_flights : (w : Work) (before : Option Images) (s : State) (flights : List Flight) → IsUnderway w before s → s.flights ≡ flights → IsUnderway w before (flying_now s flights)
with_flights w before s flights h e = subst (λ (xs : List Flight). IsUnderway w before (flying_now s xs)) e h

module _ (w : Work) (before : Option Images) where
  abbrev pub Going : Deeds → List (Slot Task Value) → Program (Labelled Task) Value (List Value) → ℕ → Type 0
  Going = IsGoing (any_ways w.terms) (Passes w.terms.setting w.shared) (TaskLies w.sizes) (λ op v. v) (plan_each w.tasks)

  abbrev pub whole : Program (Labelled Task) Value (List Value)
  whole = labelled [] 0 (plan_each w.tasks)

  pub work_begins : (images : Images) → IfSome before (λ (b : Images). b ≡ images) → IsUnderway w before (at_start w images)
  work_begins images is = record {
    going = going_begins (any_ways w.terms) (Passes w.terms.setting w.shared) (TaskLies w.sizes) (λ op v. v) (plan_each w.tasks);
    flying = tt;
    root = λ o is agrees. left_begins o [] (plan_each w.tasks);
    linked = λ w. refl;
    done_below = tt;
    flown_below = tt;
    clear = λ j comes. record { clear = record { clear = tt; done = tt; free = tt; flying = tt; differ = tt }; nested = record { within = tt; whole = tt } };
    recorded = refl;
    lawful = tt;
    distinct = tt;
    pass = starts_at w.terms before images is;
  }

  -- ---- in any order

  pub work_permuted : (s : State) (flights : List Flight) → IsUnderway w before s → IsPermutation s.flights flights → IsUnderway w before (flying_now s flights)
  work_permuted s flights h p = record {
    going = going_permuted (any_ways w.terms) (Passes w.terms.setting w.shared) (TaskLies w.sizes) (λ op v. v) (plan_each w.tasks) s.deeds (map slot_of s.flights) (map slot_of flights) s.root (length s.outs) (IsPermutation-map slot_of s.flights flights p) h.going;
    flying = all_permuted (IsFlying w.terms s.deeds) s.flights flights p h.flying;
    root = h.root;
    linked = linked_permuted s.flights flights s.outs p h.linked;
    done_below = h.done_below;
    flown_below = all_permuted (λ (x : Flight). WasHandedOut s.next x.op.at) s.flights flights p h.flown_below;
    clear = λ j comes. record {
      clear = clear_permuted (reach_in j w.terms w.shared) s.deeds (map seat_of s.flights) (map seat_of flights) (IsPermutation-map seat_of s.flights flights p) (h.clear j comes).clear;
      nested = nested_permuted j w s.flights flights p (h.clear j comes).nested;
    };
    recorded = h.recorded;
    lawful = h.lawful;
    distinct = h.distinct;
    pass = h.pass;
  }

  -- ---- a task is handed out

  handed_later : (next : ℕ) (x : List ℕ) → WasHandedOut next x → WasHandedOut (suc next) x
  handed_later next x h = (h.0, h.1, h.2, let l : suc h.0 ≤ next = h.3 in omega arith)

  -- what was handed out is free of the next task
  free_of_next : (j : List Choice) (next : ℕ) (op : Task) (x : Flight) → IsSound w → Comes w [] j → nth next w.tasks ≡ Some op → StandsInTask j w x → WasHandedOut next x.op.at → Free (reach_in j w.terms w.shared) x.op (part_of [] next op)
  free_of_next j next op x sound comes is h k =
      let same : h.0 ≡ k.0 = same_head h.0 k.0 h.1 k.1 (sym h.3 ∙ k.2) in
      let l : suc k.0 ≤ next = k.3 in
      let free = free_at j w h.0 next h.2 op (sound.free j comes) h.4 is (omega arith) in
      λ d m b n. free d m b (h.5 b n)

  pub work_next : (s : State) (op : Task) → IsSound w → IsUnderway w before s → Known w s (λ o. (y : Labelled Task) × (nth_asked o (length s.outs) s.root ≡ Some y) × (y.op ≡ op)) → IsUnderway w before (root_out w s op)
  work_next s op sound h next =
      let new : Flight = flight_of w.terms (part_of [] s.next op) in
      let asked : Known w s (λ o. nth_asked o (length s.outs) s.root ≡ Some (part_of [] s.next op)) =
      λ o is agrees. left_next o [] whole s.root s.outs s.next op (h.root o is agrees) (next o is agrees) in
      let some = some_any w s.deeds h.going.once h.going.single in
      let is : nth s.next w.tasks ≡ Some op =
      task_called some.0 w.tasks s.next op
      (all_contains (Contains (calls_in some.0 whole)) (calls_in some.0 s.root) (part_of [] s.next op) (h.root some.0 some.1 some.2).called (asked_call some.0 (length s.outs) s.root (part_of [] s.next op) (asked some.0 some.1 some.2))) in
      record {
        going = subst (Going s.deeds (slot_of new ∷ map slot_of s.flights) s.root) (sym (one_longer s.outs (call_of [] s.next op)))
            (going_roots (any_ways w.terms) (Passes w.terms.setting w.shared) (TaskLies w.sizes) (λ op v. v) (plan_each w.tasks) s.deeds (slot_of new) (map slot_of s.flights) s.root (length s.outs) h.going asked (flight_fresh w.terms s.deeds (part_of [] s.next op)));
        flying = (flying_begins w.terms s.deeds (part_of [] s.next op), h.flying);
        root = λ o ways agrees. left_out o [] whole s.root s.outs s.next op (h.root o ways agrees) (asked o ways agrees);
        linked = linked_task w.terms s.next op s.flights s.outs h.linked;
        done_below = all_weaker (λ (d : Deed (Labelled Task) Value). WasHandedOut s.next d.op.at) (λ (d : Deed (Labelled Task) Value). WasHandedOut (suc s.next) d.op.at) s.deeds (λ d k. handed_later s.next d.op.at k) h.done_below;
        flown_below = (
          (s.next, [], refl, omega arith),
          all_weaker (λ (x : Flight). WasHandedOut s.next x.op.at) (λ (x : Flight). WasHandedOut (suc s.next) x.op.at) s.flights (λ x k. handed_later s.next x.op.at k) h.flown_below,
        );
        clear = λ j comes.
            let k = h.clear j comes in
            record {
              clear = clear_task (reach_in j w.terms w.shared) s.deeds s.next op (map seat_of s.flights) k.clear h.done_below
                  (all_map (λ (q : Seat Task). WasHandedOut s.next q.op.at) seat_of s.flights h.flown_below)
                  (all_map (λ (q : Seat Task). Free (reach_in j w.terms w.shared) q.op (part_of [] s.next op)) seat_of s.flights
                  (all_lists (StandsInTask j w) (λ (x : Flight). WasHandedOut s.next x.op.at) (λ (x : Flight). Free (reach_in j w.terms w.shared) x.op (part_of [] s.next op)) s.flights
                  (λ x l m. free_of_next j s.next op x sound (comes_at_all w s.entries j comes) is l m) k.nested.whole h.flown_below));
              nested = nested_task j w s.next op s.flights is h.flown_below k.nested;
            };
        recorded = h.recorded;
        lawful = h.lawful;
        distinct = h.distinct;
        pass = h.pass;
      }

  -- ---- an operation of one in flight is handed out

  -- it stays within what the whole may do
  part_stays : (ds : Deeds) (j : List Choice) (x : Flight) (op : Task) (o : Oracle (Labelled Task) Value) → ((q : Labelled Task) → FitsTask j w.terms q.op (o.answer q))
      → AllByRecursion (Contains (calls_in o (labelled x.op.at 0 (plan w.terms x.op.op)))) (calls_in o x.rest) → nth_asked o (length x.outs) x.rest ≡ Some (part_of x.op.at x.next op)
      → (d : Task) → Within j w.terms op d → Within j w.terms x.op.op d
  part_stays ds j x op o fits called asked =
      let c : Labelled Task = part_of x.op.at x.next op in
      let p : Program (Labelled Task) Value Value = labelled x.op.at 0 (plan w.terms x.op.op) in
      let Stay : Task → Type 0 = λ q. (d : Task) → Within j w.terms q d → Within j w.terms x.op.op d in
      let listed : Contains (calls_in o p) c = all_contains (Contains (calls_in o p)) (calls_in o x.rest) c called (asked_call o (length x.outs) x.rest c asked) in
      all_contains (λ (q : Labelled Task). Stay q.op) (calls_in o p) c
      (calls_stay (λ (q : Labelled Task). FitsTask j w.terms q.op) (λ (q : Labelled Task). Stay q.op) (FitsTask j w.terms x.op.op) o p (stays_labelled (FitsTask j w.terms) Stay (FitsTask j w.terms x.op.op) x.op.at 0 (plan w.terms x.op.op) (tasks_stay j w.terms x.op.op)) fits)
      listed

  pub work_out : (s : State) (x : Flight) (others : List Flight) (op : Task) → IsUnderway w before (flying_now s (x ∷ others)) → is_single x.op.op ≡ false
      → Known w s (λ o. (y : Labelled Task) × (nth_asked o (length x.outs) x.rest ≡ Some y) × (y.op ≡ op))
      → ((j : List Choice) → Comes w s.entries j → AllByRecursion (λ (c : Call). Free (reach_in j w.terms w.shared) c.op (part_of x.op.at x.next op)) x.outs)
      → IsUnderway w before (flying_now s (flight_of w.terms (part_of x.op.at x.next op) ∷ with_out x op ∷ others))
  work_out s x others op h many next free =
      let new : Flight = flight_of w.terms (part_of x.op.at x.next op) in
      let asked : Known w s (λ o. nth_asked o (length x.outs) x.rest ≡ Some (part_of x.op.at x.next op)) = flying_next w.terms s.deeds x op many h.flying.0 next in
      record {
        going = subst (λ (n : ℕ). Going s.deeds (slot_of new ∷ record { op = x.op; rest = x.rest; outs = n } ∷ map slot_of others) s.root (length s.outs)) (sym (one_longer x.outs (call_of x.op.at x.next op)))
            (going_grows (any_ways w.terms) (Passes w.terms.setting w.shared) (TaskLies w.sizes) (λ op v. v) (plan_each w.tasks) s.deeds (slot_of x) (slot_of new) (map slot_of others) s.root (length s.outs) h.going asked (flight_fresh w.terms s.deeds (part_of x.op.at x.next op)));
        flying = (flying_begins w.terms s.deeds (part_of x.op.at x.next op), (flying_out w.terms s.deeds x op many h.flying.0 asked, h.flying.1));
        root = h.root;
        linked = linked_out w.terms x op others s.outs h.linked;
        done_below = h.done_below;
        flown_below = (
          let k = h.flown_below.0 in (k.0, k.1 ++ x.next ∷ [], ap (λ (xs : List ℕ). xs ++ x.next ∷ []) k.2, k.3),
          h.flown_below,
        );
        clear = λ j comes.
            let k = h.clear j comes in
            let some = some_under w s.deeds s.entries j h.going.once h.going.single h.recorded comes in
            let any = any_oracle j w.terms some.0 some.1 in
            let stays : (d : Task) → Within j w.terms op d → Within j w.terms x.op.op d =
            part_stays s.deeds j x op some.0 some.1.fits (h.flying.0.left many some.0 any some.2).called (asked some.0 any some.2) in
            let out : AllByRecursion (λ (y : Labelled Task). Free (reach_in j w.terms w.shared) y new.op) (ops_out x.outs) =
            all_map (λ (y : Labelled Task). Free (reach_in j w.terms w.shared) y new.op) (λ (c : Call). c.op) x.outs (free j comes) in
            record {
              clear = clear_grows (reach_in j w.terms w.shared) s.deeds (seat_of x) op (map seat_of others) k.clear (reach_below j w.terms x.op x.next op stays)
                  (all_map (λ (q : Seat Task). (n : ℕ) (below : List ℕ) → IsIn x.op.at n below q.op.at → Free (reach_in j w.terms w.shared) q.op new.op) seat_of others
                  (all_weaker (StandsWithin j w.terms x) (λ (q : Flight). (n : ℕ) (below : List ℕ) → IsIn x.op.at n below q.op.at → Free (reach_in j w.terms w.shared) q.op new.op) others
                  (λ q l n below i. let c = l n below i in let f = all_contains (λ (y : Labelled Task). Free (reach_in j w.terms w.shared) y new.op) (ops_out x.outs) c.0 out c.1 in λ d m b r. f d m b (c.3 b r)) k.nested.within.0.1));
              nested = nested_out j w x op others (reach_below j w.terms x.op x.next op stays)
                  (all_unmap (λ (q : Seat Task). Holds (seat_of x) q.op.at) seat_of others k.clear.flying.0.1)
                  (all_unmap (λ (q : Seat Task). x.op.at ≡ q.op.at → ⊥) seat_of others k.clear.differ.0) k.nested;
            };
        recorded = h.recorded;
        lawful = h.lawful;
        distinct = h.distinct;
        pass = h.pass;
      }
