use Rattle.std.proofs.Common.{◌≡◌, take}
use Rattle.std.specs.Map.{values_of}
use Rattle.zio_vqueue.proofs.queue.group_of.Given as goal

-- the members so far are in
abbrev pub invariant-loop-op : goal.invariant-loop-op
invariant-loop-op l = l.ops ≡ values_of (take l.op-index l.members)
