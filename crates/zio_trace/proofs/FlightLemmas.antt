-- A node in flight, from one move to the next.
use Rattle.std.proofs.Common.{◌≡◌, ℕ, List, [], ◌++◌, length, Bool, true, false, cond, Option, Some, inl, inr, refl, sym, ap, ◌∙◌, subst, append-nil}
use Rattle.zio_blkptr.specs.declared.pointer.Bp.{Bp}
use Rattle.zio_gang.specs.Attempts.{Terms}
use Rattle.zio_trace.specs.Conflicts.{is_single}
use Rattle.zio_trace.specs.Entries.{any_ways}
use Rattle.zio_trace.specs.Going.{IsFresh, asked_behind, nth_asked}
use Rattle.zio_trace.specs.Labels.{Labelled, labelled, ways_at}
use Rattle.zio_trace.specs.Oracles.{IsOracle, Oracle, Agrees, heard}
use Rattle.zio_trace.specs.Plans.{plan}
use Rattle.zio_trace.specs.Programs.{Asks, Deed, Ends, Program}
use Rattle.zio_trace.specs.Tasks.{Task, Value}
use Rattle.zio_trace.specs.Underway.{Call, Flight, IsFlying, IsLeft, KnownBy, early, flight_of, part_of, plan_at, slot_of, with_answer, with_out, with_told}
use Rattle.zio_trace.specs.Views.{nth}
use Rattle.zio_trace.proofs.LeftLemmas.{left_answered, left_begins, left_next, left_out, left_tells, none_out, stand_ended}
use Rattle.zio_trace.proofs.OracleLemmas.{sure_more}
use Rattle.zio_trace.proofs.StepLemmas.{behind_none}
use Rattle.zio_trace.proofs.ViewLemmas.{stand_nth}

abbrev pub Deeds : Type 0
Deeds = List (Deed (Labelled Task) Value)

-- what a node has to do before anything is done
abbrev plan_if : Bool → Terms → Labelled Task → Program (Labelled Task) Value Value
plan_if b t x = cond b (Asks x (λ v. Ends v)) (labelled x.at 0 (plan t x.op))

pub plan_single : (t : Terms) (x : Labelled Task) → is_single x.op ≡ true → plan_at t x ≡ Asks x (λ v. Ends v)
plan_single t x e = ap (λ (b : Bool). plan_if b t x) e

pub plan_whole : (t : Terms) (x : Labelled Task) → is_single x.op ≡ false → plan_at t x ≡ labelled x.at 0 (plan t x.op)
plan_whole t x e = ap (λ (b : Bool). plan_if b t x) e

not_both : (task : Task) → is_single task ≡ true → is_single task ≡ false → ⊥
not_both task e f = cc

-- ---- a new one

fresh_by : (t : Terms) (ds : Deeds) (x : Labelled Task) (b : Bool) → is_single x.op ≡ b → IsFresh (any_ways t) ds (slot_of (flight_of t x))
fresh_by t ds x true e = λ o is agrees. (
  ap (heard o) (plan_single t x e),
  ap (asked_behind o 0) (plan_single t x e) ∙ append-nil (o.asked x),
)
fresh_by t ds x false e = λ o is agrees. (
  ap (heard o) (plan_whole t x e) ∙ sym (is.answer x e),
  ap (asked_behind o 0) (plan_whole t x e) ∙ behind_none o (labelled x.at 0 (plan t x.op)) ∙ sym (is.asked x e),
)

pub flight_fresh : (t : Terms) (ds : Deeds) (x : Labelled Task) → IsFresh (any_ways t) ds (slot_of (flight_of t x))
flight_fresh t ds x = fresh_by t ds x (is_single x.op) refl

pub flying_begins : (t : Terms) (ds : Deeds) (x : Labelled Task) → IsFlying t ds (flight_of t x)
flying_begins t ds x = record {
  single = λ e. (refl, inl (plan_single t x e));
  left = λ e o is agrees.
      let whole : Program (Labelled Task) Value Value = labelled x.at 0 (plan t x.op) in
      subst (λ (p : Program (Labelled Task) Value Value). IsLeft o x.at whole p [] 0) (sym (plan_whole t x e)) (left_begins o x.at (plan t x.op));
}

-- ---- more is done

pub flying_more : (t : Terms) (ds es : Deeds) (x : Flight) → IsFlying t ds x → IsFlying t (ds ++ es) x
flying_more t ds es x h = record {
  single = h.single;
  left = λ e. sure_more (ways_at (any_ways t)) (λ o. IsLeft o x.op.at (labelled x.op.at 0 (plan t x.op.op)) x.rest x.outs x.next) ds es (h.left e);
}

-- it did its operation
pub flying_did : (t : Terms) (ds : Deeds) (x : Flight) (v : Value) → is_single x.op.op ≡ true → IsFlying t ds (record { op = x.op; rest = Ends v; outs = []; next = x.next })
flying_did t ds x v e = record { single = λ f. (refl, inr (v, refl)); left = λ f. absurd (not_both x.op.op e f) }

-- ---- its operations

-- the next that it asks has its place
pub flying_next : (t : Terms) (ds : Deeds) (x : Flight) (op : Task) → is_single x.op.op ≡ false → IsFlying t ds x
    → KnownBy t ds (λ o. (y : Labelled Task) × (nth_asked o (length x.outs) x.rest ≡ Some y) × (y.op ≡ op))
    → KnownBy t ds (λ o. nth_asked o (length x.outs) x.rest ≡ Some (part_of x.op.at x.next op))
flying_next t ds x op e h next = λ o is agrees. left_next o x.op.at (labelled x.op.at 0 (plan t x.op.op)) x.rest x.outs x.next op (h.left e o is agrees) (next o is agrees)

pub flying_out : (t : Terms) (ds : Deeds) (x : Flight) (op : Task) → is_single x.op.op ≡ false → IsFlying t ds x
    → KnownBy t ds (λ o. nth_asked o (length x.outs) x.rest ≡ Some (part_of x.op.at x.next op)) → IsFlying t ds (with_out x op)
flying_out t ds x op e h next = record {
  single = λ f. absurd (not_both x.op.op f e);
  left = λ f o is agrees. left_out o x.op.at (labelled x.op.at 0 (plan t x.op.op)) x.rest x.outs x.next op (h.left e o is agrees) (next o is agrees);
}

-- a single operation has none out
none_single : (t : Terms) (ds : Deeds) (q : Flight) (n : ℕ) (c : Call) → IsFlying t ds q → nth n q.outs ≡ Some c → is_single q.op.op ≡ true → ⊥
none_single t ds q n c h e f = none_out n c (subst (λ (cs : List Call). nth n cs ≡ Some c) (h.single f).0 e)

pub flying_tells : (t : Terms) (ds : Deeds) (q : Flight) (n : ℕ) (c : Call) (r : Option Bp) → IsFlying t ds q → nth n q.outs ≡ Some c → KnownBy t ds (λ o. early (o.answer c.op) ≡ r)
    → IsFlying t ds (with_told q n r)
flying_tells t ds q n c r h e is = record {
  single = λ f. absurd (none_single t ds q n c h e f);
  left = λ f o ways agrees. left_tells o q.op.at (labelled q.op.at 0 (plan t q.op.op)) q.rest q.outs q.next n c r (h.left f o ways agrees) e (is o ways agrees);
}

pub flying_hears : (t : Terms) (ds : Deeds) (q : Flight) (n : ℕ) (c : Call) (v : Value) → IsFlying t ds q → nth n q.outs ≡ Some c → KnownBy t ds (λ o. o.answer c.op ≡ v)
    → IsFlying t ds (with_answer q n v)
flying_hears t ds q n c v h e is = record {
  single = λ f. absurd (none_single t ds q n c h e f);
  left = λ f o ways agrees. left_answered o q.op.at (labelled q.op.at 0 (plan t q.op.op)) q.rest q.outs q.next n c v (h.left f o ways agrees) e (is o ways agrees);
}

-- the nth that is out is the nth that is asked
asked_by_kind : (t : Terms) (ds : Deeds) (q : Flight) (n : ℕ) (c : Call) (b : Bool) → is_single q.op.op ≡ b → IsFlying t ds q → nth n q.outs ≡ Some c → KnownBy t ds (λ o. nth_asked o n q.rest ≡ Some c.op)
asked_by_kind t ds q n c true f h e = λ o ways agrees. absurd (none_single t ds q n c h e f)
asked_by_kind t ds q n c false f h e = λ o ways agrees. stand_nth o q.outs q.rest n c (h.left f o ways agrees).first e

pub flying_asked : (t : Terms) (ds : Deeds) (q : Flight) (n : ℕ) (c : Call) → IsFlying t ds q → nth n q.outs ≡ Some c → KnownBy t ds (λ o. nth_asked o n q.rest ≡ Some c.op)
flying_asked t ds q n c h e = asked_by_kind t ds q n c (is_single q.op.op) refl h e

-- nothing is out of one that has ended, by whatever oracle there is
ended_by_kind : (t : Terms) (ds : Deeds) (x : Flight) (v : Value) (o : Oracle (Labelled Task) Value) (b : Bool) → is_single x.op.op ≡ b → IsFlying t ds x → x.rest ≡ Ends v → IsOracle (ways_at (any_ways t)) o → Agrees o ds → x.outs ≡ []
ended_by_kind t ds x v o true f h e is agrees = (h.single f).0
ended_by_kind t ds x v o false f h e is agrees =
    let left : IsLeft o x.op.at (labelled x.op.at 0 (plan t x.op.op)) (Ends v) x.outs x.next =
    subst (λ (p : Program (Labelled Task) Value Value). IsLeft o x.op.at (labelled x.op.at 0 (plan t x.op.op)) p x.outs x.next) e (h.left f o is agrees) in
    stand_ended o x.outs v left.first

pub flying_ended : (t : Terms) (ds : Deeds) (x : Flight) (v : Value) (o : Oracle (Labelled Task) Value) → IsFlying t ds x → x.rest ≡ Ends v → IsOracle (ways_at (any_ways t)) o → Agrees o ds → x.outs ≡ []
flying_ended t ds x v o h e is agrees = ended_by_kind t ds x v o (is_single x.op.op) refl h e is agrees
