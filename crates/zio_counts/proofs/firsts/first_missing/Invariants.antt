use Rattle.std.proofs.Common.{length, ◌-◌, ◌≡◌, ◌≤◌, ◌<◌, false, ℕ, slice_index_or}
use Rattle.zio_counts.specs.declared.child.Child.{Child}
use Rattle.zio_counts.specs.Broods.{misses}
use Rattle.zio_counts.proofs.firsts.first_missing.Given as goal

abbrev pub invariant-loop-at : goal.invariant-loop-at
invariant-loop-at g l = record {
  within : l.at ≤ length l.children;
  before : (k : ℕ) (d : Child g.row.R.Denot g.row.V.Denot) → k < l.at → misses l.kind l.phase (slice_index_or l.children k d) ≡ false;
}

abbrev pub decreases-loop-at : goal.decreases-loop-at
decreases-loop-at g l = length l.children - l.at
