use Rattle.std.proofs.Common.{List, get_or, length, map, subst, sym, rules}
use Rattle.std.specs.List.{AllByRecursion}
use Rattle.std.proofs.Common.{Contains}
use Rattle.zio_types.specs.declared.place.Place.{Place}
use Rattle.zio_disks.proofs.WriteLemmas.{first_place_among, head_lies, other_places_among, rest_lies}
use Rattle.zio_cksum.specs.Blocks.{spot_in}
use Rattle.zio_cksum.specs.Frames.{spots_of}
use Rattle.zio_cksum.specs.Images.{Spot}
use Rattle.zio_disks.specs.Disks.{LieOn}
use Rattle.zio_disks.proofs.DiskLemmas.{handles_none, handles_ok, handles_err, handles_then, handles_wider}
use Rattle.zio_disks.proofs.write.+write_pass.Goals as goal

pub write_leaves-requires-clause-lies : goal.write_leaves-requires-clause-lies
write_leaves-requires-clause-lies g t c =
    subst (λ ls. LieOn (map g.D.Disk.bytes c.args.disks.now) (length c.args.bytes.now) (map (spot_in (get_or c.args.places.now 0 (record { top = 0; sector = 0; sectors = 0 }))) ls)) (sym c.leaves-leaves.ensures)
    (head_lies c.args.setting.now (map g.D.Disk.bytes c.args.disks.now) (length c.args.bytes.now) c.args.places.now (record { top = 0; sector = 0; sectors = 0 }) c.in-len1-up.len_at_least c.requires.lies)

pub write_pass-requires : goal.write_pass-requires
write_pass-requires g t c κs within = (
  search rules,
  (
    search rules,
    (
      c.requires.rows,
      rest_lies c.args.setting.now (map g.D.Disk.bytes c.args.disks.now) (map g.D.Disk.bytes c.write_leaves.new.disks) (length c.args.bytes.now) c.args.places.now
          c.in-len1-up.len_at_least c.in_ok-error-in-len1-up.ensures.handled.same.sizes c.requires.lies,
    ),
  ),
)

pub returns-in_err-error-in-len1-up-clause-handled :
    goal.returns-in_err-error-in-len1-up-clause-handled
returns-in_err-error-in-len1-up-clause-handled g t c =
    let any : Place = record { top = 0; sector = 0; sectors = 0 } in
    let spots : List Spot = spots_of c.args.setting.now c.args.places.now in
    let first : AllByRecursion (Contains spots) (map (spot_in (get_or c.args.places.now 0 any)) c.leaves-leaves.result.now) =
    subst (λ ls. AllByRecursion (Contains spots) (map (spot_in (get_or c.args.places.now 0 any)) ls)) (sym c.leaves-leaves.ensures)
    (first_place_among c.args.setting.now c.args.places.now any c.in-len1-up.len_at_least) in
    handles_err _ c.from_residual.ensures.1 (handles_wider spots first c.in_err-error-in-len1-up.ensures.handled)

pub returns-in_err-others-in-len1-up-clause-handled :
    goal.returns-in_err-others-in-len1-up-clause-handled
returns-in_err-others-in-len1-up-clause-handled g t c =
    let any : Place = record { top = 0; sector = 0; sectors = 0 } in
    let spots : List Spot = spots_of c.args.setting.now c.args.places.now in
    let first : AllByRecursion (Contains spots) (map (spot_in (get_or c.args.places.now 0 any)) c.leaves-leaves.result.now) =
    subst (λ ls. AllByRecursion (Contains spots) (map (spot_in (get_or c.args.places.now 0 any)) ls)) (sym c.leaves-leaves.ensures)
    (first_place_among c.args.setting.now c.args.places.now any c.in-len1-up.len_at_least) in
    handles_then (handles_wider spots first c.in_ok-error-in-len1-up.ensures.handled)
    (handles_err _ c.from_residual-in_err-others-in-len1-up.ensures.1
    (handles_wider spots (other_places_among c.args.setting.now c.args.places.now c.in-len1-up.len_at_least) c.in_err-others-in-len1-up.ensures.handled))

pub returns-in-empty-clause-handled : goal.returns-in-empty-clause-handled
returns-in-empty-clause-handled g t c =
    handles_none g.D.Disk.bytes g.D.Disk.faults g.D.Disk.faults_at_fetch g.D.Disk.home g.D.Disk.image g.D.Disk.sound g.D.Disk.went _ _ c.args.disks.now (λ e. cc)

pub returns-in_ok-others-in-len1-up-clause-handled :
    goal.returns-in_ok-others-in-len1-up-clause-handled
returns-in_ok-others-in-len1-up-clause-handled g t c =
    let any : Place = record { top = 0; sector = 0; sectors = 0 } in
    let spots : List Spot = spots_of c.args.setting.now c.args.places.now in
    let first : AllByRecursion (Contains spots) (map (spot_in (get_or c.args.places.now 0 any)) c.leaves-leaves.result.now) =
    subst (λ ls. AllByRecursion (Contains spots) (map (spot_in (get_or c.args.places.now 0 any)) ls)) (sym c.leaves-leaves.ensures)
    (first_place_among c.args.setting.now c.args.places.now any c.in-len1-up.len_at_least) in
    handles_then (handles_wider spots first c.in_ok-error-in-len1-up.ensures.handled)
    (handles_ok _ (handles_wider spots (other_places_among c.args.setting.now c.args.places.now c.in-len1-up.len_at_least) c.in_ok-others-in-len1-up.ensures.handled))
