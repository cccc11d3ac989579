use Rattle.std.proofs.Common.{◌≤◌, List, length, subst, sym}
use Rattle.zio_blkptr.specs.declared.pointer.Bp.{Bp}
use Rattle.zio_disks.proofs.TreeLemmas.{few_members}
use Rattle.zio_disks.proofs.claim.members_in.Goals as goal

pub returns-in-Ok-clause-few : goal.returns-in-Ok-clause-few
returns-in-Ok-clause-few c = subst (λ (ms : List Bp). length ms ≤ 3) (sym c.in-Ok.ensures) (few_members c.args.header.now)
