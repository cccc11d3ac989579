use Rattle.std.proofs.Common.{◌≡◌, filter, take}
use Rattle.zio_stages.specs.HeadsWorks.{is_under}
use Rattle.zio_stages.proofs.heads.heads_under.Given as goal

abbrev pub invariant-loop-head : goal.invariant-loop-head
invariant-loop-head l = l.under.items ≡ filter (is_under l.path) (take l.head-index l.heads)
