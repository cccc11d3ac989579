use Rattle.std.proofs.Common.{map, cond, subst}
use Rattle.zio_types.specs.Places.{sector_size}
use Rattle.zio_blkptr.specs.declared.pointer.Bp.{Bp}
use Rattle.zio_blkptr.specs.Pointers.{places_of}
use Rattle.zio_cksum.specs.Frames.{spots_of}
use Rattle.zio_disks.specs.Disks.{LieOn}
use Rattle.zio_disks.proofs.TreeLemmas.{pointer_lies}
use Rattle.zio_disks.proofs.claim.read_header.Goals as goal

pub read_block-requires-clause-lies : goal.read_block-requires-clause-lies
read_block-requires-clause-lies g c =
    let bp : Bp = c.args.bp.now in
    subst (λ t. LieOn (map g.D.Disk.bytes c.args.disks.now) (cond t sector_size bp.size) (spots_of c.args.setting.now (places_of bp))) c.requires.gang
    (pointer_lies c.args.setting.now (map g.D.Disk.bytes c.args.disks.now) bp c.requires.bears (record { ok = c.requires.valid; inside = c.requires.inside }))
