use Rattle.std.proofs.Common.{◌≡◌, ◌<◌, ℕ, false, length}
use Rattle.std.specs.Prelude.{slice_index_or}
use Rattle.zio_scrub.specs.Queues.{no_waits}
use Rattle.zio_scrub.proofs.WaitLemmas.{has_group}
use Rattle.zio_scrub.proofs.queues.Queues.next.Given as goal

abbrev pub invariant-loop-leaf : goal.invariant-loop-leaf
invariant-loop-leaf l = record {
  same : l.self.leaves.items ≡ l.fn.self.leaves.items;
  end : l.leaf-end ≡ length l.fn.self.leaves.items;
}

abbrev pub invariant-loop-leaf-2 : goal.invariant-loop-leaf-2
invariant-loop-leaf-2 l = record {
  same : l.self.leaves.items ≡ l.fn.self.leaves.items;
  end : l.leaf-end ≡ length l.fn.self.leaves.items;
  none : (k : ℕ) → k < l.leaf → has_group (slice_index_or l.fn.self.leaves.items k no_waits) ≡ false;
}
