use Rattle.std.proofs.Common.{◌≡◌, ◌+◌, ◌++◌, length}
use Rattle.zio_turns.proofs.line.put_all.Given as goal

abbrev pub invariant-loop-value : goal.invariant-loop-value
invariant-loop-value l =
    (l.table.waiting ++ l.ring.items ≡ l.fn.table.waiting ++ l.fn.ring.items)
    × (l.table.size ≡ l.fn.table.size)
    × (l.table.used + length l.ring.items ≡ l.fn.table.used + length l.fn.ring.items)

abbrev pub decreases-loop-value : goal.decreases-loop-value
decreases-loop-value l = length l.ring.items
