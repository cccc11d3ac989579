use Rattle.std.proofs.Common.{◌≡◌, drop}
use Rattle.zio_gang.specs.Trees.{kept_at}
use Rattle.zio_stages.proofs.heads.kept_at.Given as goal

-- none of the headers so far stands at the path
abbrev pub invariant-loop-head : goal.invariant-loop-head
invariant-loop-head l = kept_at (drop l.head-index l.heads) l.path ≡ kept_at l.heads l.path
