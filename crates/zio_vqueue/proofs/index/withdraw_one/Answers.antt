use Rattle.std.proofs.Common.{◌≡◌, sym, ◌∙◌, subst, ap, List, ℕ}
use Rattle.std.specs.BTreeMap.{is_at}
use Rattle.std.specs.Map.{remove_entry, values_of}
use Rattle.std.specs.Ordering.{nat_cmp}
use Rattle.zio_vqueue.specs.declared.op.Op.{Op}
use Rattle.zio_vqueue.specs.Spots.{AreBefore, at_time, timed_of}
use Rattle.zio_vqueue.proofs.ByTimeLemmas.{at_time-remove, indexed_taken, indexed_timed, timed_is}
use Rattle.zio_vqueue.proofs.CountLemmas.{counted_out, counted_some}
use Rattle.zio_vqueue.proofs.IndexLemmas.{before-remove_entry, values-remove_entry}
use Rattle.zio_vqueue.proofs.index.withdraw_one.Goals as goal

pub overflow_sub-waiting : goal.overflow_sub-waiting
overflow_sub-waiting c = rw c.class_number.ensures.value (counted_some c.args.waiting.now (timed_of c.args.spots.now.entries) c.args.time c.args.op.now c.requires.counted c.requires.indexed.apart c.requires.there)

pub returns : goal.returns
returns c =
    let es : List (ℕ × Op) = timed_of c.args.spots.now.entries in
    let taken = indexed_taken es c.args.spots.now.entries c.unshelve.new.spots.entries c.args.time c.args.op.now c.requires.indexed c.requires.there c.unshelve.ensures.ordered c.unshelve.ensures.cleared in
    let told : timed_of c.unshelve.new.spots.entries ≡ remove_entry (is_at (nat_cmp c.args.time)) es = timed_is _ _ taken in
    let left = ap values_of told ∙ values-remove_entry es c.args.time c.args.op.now c.requires.indexed.apart c.requires.there in
    record {
      queued = left;
      times = λ t. ap (λ (xs : List (ℕ × Op)). at_time xs t) told ∙ at_time-remove c.args.time t es c.requires.indexed.timed;
      before = λ t h. subst (AreBefore t) (sym told) (before-remove_entry _ t es h);
      indexed = indexed_timed _ _ taken;
      counted = rw c.class_number.ensures.value (counted_out c.args.waiting.now es (timed_of c.unshelve.new.spots.entries) c.args.time c.args.op.now c.requires.counted c.requires.indexed.apart c.requires.there left);
    }
