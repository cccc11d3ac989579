-- A node tells early which pointer its value has, its value arrives where it is waited for, and the work ends.
use Rattle.std.proofs.Common.{◌≡◌, ℕ, List, [], ◌∷◌, length, map, Some, Option, Contains, sym, ap, ◌∙◌, subst}
use Rattle.std.proofs.lemmas.List.Sorted.{IsPermutation-middle}
use Rattle.zio_blkptr.specs.declared.pointer.Bp.{Bp}
use Rattle.zio_cksum.specs.Images.{Images}
use Rattle.zio_cksum.proofs.AllLemmas.{all_unmap}
use Rattle.zio_trace.specs.Calls.{answered_at}
use Rattle.zio_trace.specs.Clearings.{Seat}
use Rattle.zio_trace.specs.Conflicts.{TaskLies}
use Rattle.zio_trace.specs.Engines.{reach_in}
use Rattle.zio_trace.specs.Entries.{any_rules, any_ways}
use Rattle.zio_trace.specs.Labels.{Labelled}
use Rattle.zio_trace.specs.Oracles.{heard}
use Rattle.zio_trace.specs.Passing.{Passes}
use Rattle.zio_trace.specs.Programs.{Ends, Program}
use Rattle.zio_trace.specs.Rules.{IsDoneBy}
use Rattle.zio_trace.specs.Tasks.{Task, Value}
use Rattle.zio_trace.specs.Underway.{Call, Flight, IsUnderway, Known, State, Work, after_task, early, flying_now, plan_each, seat_of, slot_of, with_answer, with_told}
use Rattle.zio_trace.specs.Views.{nth, telling, without}
use Rattle.zio_trace.proofs.ClearLemmas.{clear_ends}
use Rattle.zio_trace.proofs.FinishLemmas.{going_ends}
use Rattle.zio_trace.proofs.FlightLemmas.{flying_asked, flying_ended, flying_hears, flying_tells}
use Rattle.zio_trace.proofs.GoingLemmas.{going_arrives, going_roots_end}
use Rattle.zio_trace.proofs.LeftLemmas.{left_answered, one_shorter, telling_length, telling_ops}
use Rattle.zio_trace.proofs.LinkLemmas.{linked_ends, linked_hears, linked_same}
use Rattle.zio_trace.proofs.MoreDone.{some_any}
use Rattle.zio_trace.proofs.NestLemmas.{nested_ends, nested_hears, nested_same}
use Rattle.zio_trace.proofs.OnceKeys.{any_laws}
use Rattle.zio_trace.proofs.UnderwayOut.{Going, whole, work_permuted}
use Rattle.zio_trace.proofs.ViewLemmas.{stand_nth}

module _ (w : Work) (before : Option Images) where
  -- ---- what is told early

  told_first : (s : State) (q : Flight) (others : List Flight) (n : ℕ) (c : Call) (r : Option Bp) → IsUnderway w before (flying_now s (q ∷ others)) → nth n q.outs ≡ Some c → Known w s (λ o. early (o.answer c.op) ≡ r)
      → IsUnderway w before (flying_now s (with_told q n r ∷ others))
  told_first s q others n c r h out is = record {
    going = subst (λ (k : ℕ). Going w before s.deeds (record { op = q.op; rest = q.rest; outs = k } ∷ map slot_of others) s.root (length s.outs)) (sym (telling_length n r q.outs)) h.going;
    flying = (flying_tells w.terms s.deeds q n c r h.flying.0 out is, h.flying.1);
    root = h.root;
    linked = linked_same q q.rest (telling n r q.outs) q.next others s.outs (telling_ops n r q.outs) h.linked;
    done_below = h.done_below;
    flown_below = h.flown_below;
    clear = λ j comes.
        let k = h.clear j comes in
        record { clear = k.clear; nested = nested_same j w q q.rest (telling n r q.outs) q.next others (λ d m. subst (λ (xs : List (Labelled Task)). Contains xs d) (sym (telling_ops n r q.outs)) m) k.nested };
    recorded = h.recorded;
    lawful = h.lawful;
    distinct = h.distinct;
    pass = h.pass;
  }

  turned : (s : State) (x q : Flight) (others : List Flight) → IsUnderway w before (flying_now s (x ∷ q ∷ others)) → IsUnderway w before (flying_now s (q ∷ x ∷ others))
  turned s x q others h = work_permuted w before (flying_now s (x ∷ q ∷ others)) (q ∷ x ∷ others) h (IsPermutation-middle (x ∷ []) q others)

  pub work_tells : (s : State) (x q : Flight) (others : List Flight) (n : ℕ) (c : Call) (r : Option Bp) → IsUnderway w before (flying_now s (x ∷ q ∷ others)) → nth n q.outs ≡ Some c → c.op ≡ x.op
      → Known w s (λ o. early (heard o x.rest) ≡ r) → IsUnderway w before (flying_now s (x ∷ with_told q n r ∷ others))
  work_tells s x q others n c r h out is told =
      turned s (with_told q n r) x others
      (told_first s q (x ∷ others) n c r (turned s x q others h) out
      (λ o ways agrees. ap (λ (y : Labelled Task). early (o.answer y)) is ∙ sym (ap early (h.going.knows.0 o ways agrees)) ∙ told o ways agrees))

  -- ---- one has ended

  -- nothing is out of it, and its value is known
  nothing_out : (s : State) (x : Flight) (others : List Flight) (v : Value) → IsUnderway w before (flying_now s (x ∷ others)) → x.rest ≡ Ends v → x.outs ≡ []
  nothing_out s x others v h ended =
      let some = some_any w s.deeds h.going.once h.going.single in
      flying_ended w.terms s.deeds x v some.0 h.flying.0 ended some.1 some.2

  value_known : (s : State) (x : Flight) (others : List Flight) (c : Call) (v : Value) → IsUnderway w before (flying_now s (x ∷ others)) → x.rest ≡ Ends v → c.op ≡ x.op → Known w s (λ o. o.answer c.op ≡ v)
  value_known s x others c v h ended is = λ o ways agrees. ap (λ (y : Labelled Task). o.answer y) is ∙ sym (h.going.knows.0 o ways agrees) ∙ ap (heard o) ended

  pub work_arrives : (s : State) (x q : Flight) (others : List Flight) (n : ℕ) (c : Call) (v : Value) → IsUnderway w before (flying_now s (x ∷ q ∷ others)) → x.rest ≡ Ends v → nth n q.outs ≡ Some c → c.op ≡ x.op
      → IsUnderway w before (flying_now s (with_answer q n v ∷ others))
  work_arrives s x q others n c v h ended out is =
      let none : x.outs ≡ [] = nothing_out s x (q ∷ others) v h ended in
      let shorter = one_shorter n q.outs c out in
      record {
        going = going_arrives (any_ways w.terms) (Passes w.terms.setting w.shared) (TaskLies w.sizes) (λ op v. v) (plan_each w.tasks) s.deeds (slot_of x) (slot_of q) (map slot_of others) s.root (length s.outs) v n (length (without n q.outs))
            h.going ended shorter.0 shorter.1 (λ o ways agrees. flying_asked w.terms s.deeds q n c h.flying.1.0 out o ways agrees ∙ ap (λ (y : Labelled Task). Some y) is);
        flying = (flying_hears w.terms s.deeds q n c v h.flying.1.0 out (value_known s x (q ∷ others) c v h ended is), h.flying.1.1);
        root = h.root;
        linked = linked_hears x q (answered_at n v q.rest) n c others s.outs none out is h.linked;
        done_below = h.done_below;
        flown_below = h.flown_below.1;
        clear = λ j comes.
            let k = h.clear j comes in
            record {
              clear = clear_ends (reach_in j w.terms w.shared) s.deeds (seat_of x) (seat_of q ∷ map seat_of others) k.clear;
              nested = nested_hears j w x q (answered_at n v q.rest) n c others none out is (all_unmap (λ (y : Seat Task). x.op.at ≡ y.op.at → ⊥) seat_of (q ∷ others) k.clear.differ.0) k.nested;
            };
        recorded = h.recorded;
        lawful = h.lawful;
        distinct = h.distinct;
        pass = h.pass;
      }

  pub work_task_ends : (s : State) (x : Flight) (others : List Flight) (n : ℕ) (c : Call) (v : Value) → IsUnderway w before (flying_now s (x ∷ others)) → x.rest ≡ Ends v → nth n s.outs ≡ Some c → c.op ≡ x.op
      → IsUnderway w before (after_task s others n v)
  work_task_ends s x others n c v h ended out is =
      let none : x.outs ≡ [] = nothing_out s x others v h ended in
      let shorter = one_shorter n s.outs c out in
      record {
        going = going_roots_end (any_ways w.terms) (Passes w.terms.setting w.shared) (TaskLies w.sizes) (λ op v. v) (plan_each w.tasks) s.deeds (slot_of x) (map slot_of others) s.root v n (length (without n s.outs))
            (subst (Going w before s.deeds (map slot_of (x ∷ others)) s.root) shorter.0 h.going) ended shorter.1
            (λ o ways agrees. stand_nth o s.outs s.root n c (h.root o ways agrees).first out ∙ ap (λ (y : Labelled Task). Some y) is);
        flying = h.flying.1;
        root = λ o ways agrees. left_answered o [] (whole w before) s.root s.outs s.next n c v (h.root o ways agrees) out (value_known s x others c v h ended is o ways agrees);
        linked = linked_ends x n c others s.outs none out is h.linked;
        done_below = h.done_below;
        flown_below = h.flown_below.1;
        clear = λ j comes.
            let k = h.clear j comes in
            record { clear = clear_ends (reach_in j w.terms w.shared) s.deeds (seat_of x) (map seat_of others) k.clear; nested = nested_ends j w x others k.nested };
        recorded = h.recorded;
        lawful = h.lawful;
        distinct = h.distinct;
        pass = h.pass;
      }

  -- ---- all have ended

  pub work_ends : (s : State) (values : List Value) → IsUnderway w before s → s.flights ≡ [] → s.root ≡ Ends values
      → IsDoneBy (any_rules w.terms w.sizes) (Passes w.terms.setting w.shared) (plan_each w.tasks) s.deeds values
  work_ends s values h none ended =
      going_ends (any_rules w.terms w.sizes) (any_laws w.terms w.sizes) (Passes w.terms.setting w.shared) (plan_each w.tasks) s.deeds values (length s.outs)
      (subst (λ (p : Program (Labelled Task) Value (List Value)). Going w before s.deeds [] p (length s.outs)) ended
      (subst (λ (flights : List Flight). Going w before s.deeds (map slot_of flights) s.root (length s.outs)) none h.going))
