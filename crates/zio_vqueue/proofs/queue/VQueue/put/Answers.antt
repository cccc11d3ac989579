use Rattle.std.proofs.Common.{◌∙◌, ◌+◌, ap, subst, sym, ◌∷◌, [], arith}
use Rattle.std.specs.Map.{values_of}
use Rattle.zio_vqueue.specs.Spots.{AreBefore, AreCounted, ops_at, timed_of}
use Rattle.zio_vqueue.proofs.CountLemmas.{counted_below, counted_in}
use Rattle.zio_vqueue.proofs.GatherLemmas.{values-append}
use Rattle.zio_vqueue.proofs.IndexLemmas.{before_next}
use Rattle.zio_vqueue.proofs.queue.VQueue.put.Goals as goal

pub invariant_of-self-2 : goal.invariant_of-self-2
invariant_of-self-2 c = record {
  indexed = c.enter.ensures.indexed;
  counted = rw c.class_number.ensures.value (counted_in c.self.inside.waiting (ops_at c.next_time.new.spots.entries) (ops_at c.enter.new.spots.entries) c.args.op (subst (AreCounted c.self.inside.waiting) (sym c.next_time.ensures.same) c.self.invariant.counted)
      (ap values_of c.in_ok-enter.ensures.ok ∙ values-append (timed_of c.next_time.new.spots.entries) ((c.in_ok-time.time, c.args.op) ∷ [])));
  before = subst (AreBefore (c.in_ok-time.time + 1)) (sym c.in_ok-enter.ensures.ok)
      (before_next c.in_ok-time.time c.args.op (timed_of c.next_time.new.spots.entries) c.in_ok-time.ensures.before);
  admitted = c.self.invariant.admitted;
}

pub overflow_add-self : goal.overflow_add-self
overflow_add-self c =
    rw c.class_number.ensures.value (omega (
      arith,
      c.in_ok-time.ensures.fits,
      counted_below c.in_ok-time.time c.self.inside.waiting (timed_of c.next_time.new.spots.entries) c.args.op.prio
          (subst (AreCounted c.self.inside.waiting) (sym c.next_time.ensures.same) c.self.invariant.counted) c.next_time.ensures.indexed.timed c.in_ok-time.ensures.before,
    ))
