use Rattle.std.proofs.Common.{◌-◌, ◌<◌, Contains, List, length, map, get_or, take, drop, subst, sym, arith, rules}
use Rattle.std.specs.List.{AllByRecursion}
use Rattle.std.proofs.lemmas.Result.{IfOk-weaker}
use Rattle.zio_types.specs.declared.place.Place.{Place}
use Rattle.zio_cksum.specs.Blocks.{in_turn, leaves_of, repaired, spot_in}
use Rattle.zio_cksum.specs.Images.{Images, Spot, write_leaf}
use Rattle.zio_disks.specs.Disks.{LieOn, Tell, repairs_in}
use Rattle.zio_disks.proofs.DiskLemmas.{handles_err, handles_none, handles_ok, handles_then, handles_wider}
use Rattle.zio_disks.proofs.ReadLemmas.{first_among, first_repaired, here_among, later_among, later_repaired, first_repairs_lie, later_repairs_lie}
use Rattle.zio_disks.proofs.read.+repair.Goals as goal

pub returns-in_default-clause-handled : goal.returns-in_default-clause-handled
returns-in_default-clause-handled g t c =
    handles_none g.D.Disk.bytes g.D.Disk.faults g.D.Disk.faults_at_fetch g.D.Disk.home g.D.Disk.image g.D.Disk.sound g.D.Disk.went _ _ c.args.disks.now (λ e. cc)

pub returns-in_err-write_leaves-clause-handled : goal.returns-in_err-write_leaves-clause-handled
returns-in_err-write_leaves-clause-handled g t c =
    handles_err _ c.from_residual.ensures.1
    (handles_wider (repairs_in c.args.setting.now c.args.places.now c.args.before c.args.failed.now)
    (here_among c.args.setting.now c.args.places.now (record { top = 0; sector = 0; sectors = 0 }) c.args.before c.args.failed.now c.in-len1-up.len_at_least c.if-before-eq0.true) c.in_err-write_leaves.ensures.handled)

pub returns-then-before-eq0-clause-handled : goal.returns-then-before-eq0-clause-handled
returns-then-before-eq0-clause-handled g t c =
    handles_ok _
    (handles_wider (repairs_in c.args.setting.now c.args.places.now c.args.before c.args.failed.now)
    (here_among c.args.setting.now c.args.places.now (record { top = 0; sector = 0; sectors = 0 }) c.args.before c.args.failed.now c.in-len1-up.len_at_least c.if-before-eq0.true) c.in_ok-write_leaves.ensures.handled)

pub returns-then-before-eq0-clause-told : goal.returns-then-before-eq0-clause-told
returns-then-before-eq0-clause-told g t c images tell =
    subst (Tell g.D.Disk.image c.write_leaves.new.disks)
    (first_repaired c.args.setting.now c.args.retry c.args.bytes.now c.args.places.now (record { top = 0; sector = 0; sectors = 0 }) c.args.before c.args.failed.now images
    c.in-len1-up.len_at_least c.if-before-eq0.true)
    (c.in_ok-write_leaves.ensures.told images tell).1

pub write_leaves-requires-2-clause-lies : goal.write_leaves-requires-2-clause-lies
write_leaves-requires-2-clause-lies g t c =
    let no = c.if-before-eq0.false in
    let some : 0 < c.args.before = omega arith in
    let place : Place = get_or c.args.places.now 0 (record { top = 0; sector = 0; sectors = 0 }) in
    subst (λ ls. LieOn (map g.D.Disk.bytes c.args.disks.now) (length c.args.bytes.now) (map (spot_in place) ls)) (sym c.leaves-leaves.ensures)
    (first_repairs_lie c.args.setting.now (map g.D.Disk.bytes c.args.disks.now) (length c.args.bytes.now) c.args.places.now (record { top = 0; sector = 0; sectors = 0 }) c.args.before c.args.failed.now
    c.in-len1-up.len_at_least some c.requires.lies)

pub repair-requires : goal.repair-requires
repair-requires g t c κs within =
    let no = c.if-before-eq0.false in
    let some : 0 < c.args.before = omega arith in (
      search rules,
      (
        search rules,
        (
          c.requires.rows,
          later_repairs_lie c.args.setting.now (map g.D.Disk.bytes c.args.disks.now) (map g.D.Disk.bytes c.write_leaves-2.new.disks) (length c.args.bytes.now) c.args.places.now
              (record { top = 0; sector = 0; sectors = 0 }) c.args.before c.args.failed.now c.in-len1-up.len_at_least some c.in_ok-write_leaves-2.ensures.handled.same.sizes c.requires.lies,
        ),
      ),
    )

pub returns-in_err-write_leaves-2-clause-handled : goal.returns-in_err-write_leaves-2-clause-handled
returns-in_err-write_leaves-2-clause-handled g t c =
    let no = c.if-before-eq0.false in
    let some : 0 < c.args.before = omega arith in
    let spots : List Spot = repairs_in c.args.setting.now c.args.places.now c.args.before c.args.failed.now in
    let first : AllByRecursion (Contains spots) (map (spot_in (get_or c.args.places.now 0 (record { top = 0; sector = 0; sectors = 0 }))) c.leaves-leaves.result.now) =
    subst (λ ls. AllByRecursion (Contains spots) (map (spot_in (get_or c.args.places.now 0 (record { top = 0; sector = 0; sectors = 0 }))) ls)) (sym c.leaves-leaves.ensures)
    (first_among c.args.setting.now c.args.places.now (record { top = 0; sector = 0; sectors = 0 }) c.args.before c.args.failed.now c.in-len1-up.len_at_least some) in
    handles_err _ c.from_residual-in_err-write_leaves-2.ensures.1 (handles_wider spots first c.in_err-write_leaves-2.ensures.handled)

pub returns-clause-told : goal.returns-clause-told
returns-clause-told g t c =
    let no = c.if-before-eq0.false in
    let some : 0 < c.args.before = omega arith in
    let place : Place = get_or c.args.places.now 0 (record { top = 0; sector = 0; sectors = 0 }) in
    let after : Images → Images = λ images. (in_turn (write_leaf c.args.setting.now c.args.retry c.args.bytes.now) (map (spot_in place) (leaves_of c.args.setting.now place)) images).images in
    IfOk-weaker c.repair.result
    (λ _. (images : Images) → Tell g.D.Disk.image c.write_leaves-2.new.disks images → Tell g.D.Disk.image c.repair.new.disks
    (repaired c.args.setting.now c.args.retry c.args.bytes.now (repairs_in c.args.setting.now (take (length c.args.places.now - 1) (drop 1 c.args.places.now)) (c.args.before - 1) c.args.failed.now) images))
    (λ _. (images : Images) → Tell g.D.Disk.image c.args.disks.now images → Tell g.D.Disk.image c.repair.new.disks
    (repaired c.args.setting.now c.args.retry c.args.bytes.now (repairs_in c.args.setting.now c.args.places.now c.args.before c.args.failed.now) images))
    (λ _ h images tell.
    subst (Tell g.D.Disk.image c.repair.new.disks)
    (later_repaired c.args.setting.now c.args.retry c.args.bytes.now c.args.places.now (record { top = 0; sector = 0; sectors = 0 }) c.args.before c.args.failed.now images
    c.in-len1-up.len_at_least some)
    (h (after images)
    (subst (λ ls. Tell g.D.Disk.image c.write_leaves-2.new.disks (in_turn (write_leaf c.args.setting.now c.args.retry c.args.bytes.now) (map (spot_in place) ls) images).images)
    c.leaves-leaves.ensures (c.in_ok-write_leaves-2.ensures.told images tell).1)))
    c.repair.ensures.told

pub returns-clause-handled : goal.returns-clause-handled
returns-clause-handled g t c =
    let no = c.if-before-eq0.false in
    let some : 0 < c.args.before = omega arith in
    let spots : List Spot = repairs_in c.args.setting.now c.args.places.now c.args.before c.args.failed.now in
    let first : AllByRecursion (Contains spots) (map (spot_in (get_or c.args.places.now 0 (record { top = 0; sector = 0; sectors = 0 }))) c.leaves-leaves.result.now) =
    subst (λ ls. AllByRecursion (Contains spots) (map (spot_in (get_or c.args.places.now 0 (record { top = 0; sector = 0; sectors = 0 }))) ls)) (sym c.leaves-leaves.ensures)
    (first_among c.args.setting.now c.args.places.now (record { top = 0; sector = 0; sectors = 0 }) c.args.before c.args.failed.now c.in-len1-up.len_at_least some) in
    handles_then (handles_wider spots first c.in_ok-write_leaves-2.ensures.handled)
    (handles_wider spots (later_among c.args.setting.now c.args.places.now (record { top = 0; sector = 0; sectors = 0 }) c.args.before c.args.failed.now c.in-len1-up.len_at_least some) c.repair.ensures.handled)
