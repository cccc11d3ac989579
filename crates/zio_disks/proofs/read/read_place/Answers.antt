use Rattle.std.proofs.Common.{◌≡◌, ℕ, Contains, List, map, length, take, None, false, unwrap_or, Result, ap, subst, sym, ◌∙◌}
use Rattle.std.specs.List.{AllByRecursion}
use Rattle.std.proofs.lemmas.Result.{err_from_is_err_and}
use Rattle.zio_types.specs.declared.error.Errno.{Errno}
use Rattle.zio_types.specs.declared.error.Errno.TheVariants.{Nxio}
use Rattle.zio_cksum.specs.Blocks.{blame, first_good, judged, leaves_of, read_order, spot_in}
use Rattle.zio_cksum.specs.Headers.{offset_of}
use Rattle.zio_cksum.specs.Images.{Spot, read_leaf}
use Rattle.zio_disks.specs.Copies.{good_by}
use Rattle.zio_disks.specs.Disks.{LieOn, found_if}
use Rattle.zio_disks.proofs.DiskLemmas.{handles_none}
use Rattle.zio_disks.proofs.ReadLemmas.{order_lies, taken_among}
use Rattle.zio_disks.proofs.read.read_place.Goals as goal

pub returns-in_err-order-clause-handled : goal.returns-in_err-order-clause-handled
returns-in_err-order-clause-handled g c =
    let p = err_from_is_err_and c.from_residual.result c.from_residual.ensures.1 in
    let is = p.1 in
    let same = p.2 in
    let memory = c.in_err-order.ensures.err in
    handles_none g.D.Disk.bytes g.D.Disk.faults g.D.Disk.faults_at_fetch g.D.Disk.home g.D.Disk.image g.D.Disk.sound g.D.Disk.went _ _ c.args.disks.now (λ e. cc)

pub first_good-requires-clause-lies : goal.first_good-requires-clause-lies
first_good-requires-clause-lies g c =
    let offset : ℕ = offset_of c.args.place.now in
    let leaves : List ℕ = leaves_of c.args.setting.now c.args.place.now in
    let order : c.as_slice.result.now ≡ read_order offset leaves =
    c.as_slice.ensures ∙ c.in_ok-order.ensures.ok ∙ ap (read_order offset) c.leaves.ensures in
    subst (λ ls. LieOn (map g.D.Disk.bytes c.args.disks.now) (length c.args.buffer.now) (map (spot_in c.args.place.now) ls)) (sym order)
    (order_lies (map g.D.Disk.bytes c.args.disks.now) (length c.args.buffer.now) c.args.place.now offset leaves c.requires.lies)

pub returns-clause-among : goal.returns-clause-among
returns-clause-among g c =
    let offset : ℕ = offset_of c.args.place.now in
    let leaves : List ℕ = leaves_of c.args.setting.now c.args.place.now in
    let spots : List Spot = map (spot_in c.args.place.now) leaves in
    let count : ℕ = c.in_ok-tried.tried.failed in
    let failed : c.from_vec.result ≡ take count (read_order offset leaves) =
    c.from_vec.ensures ∙ c.truncate.ensures.items ∙ ap (take count) (c.into_vec-failed.ensures ∙ c.in_ok-order.ensures.ok ∙ ap (read_order offset) c.leaves.ensures) in
    subst (λ ls. AllByRecursion (Contains spots) (map (spot_in c.args.place.now) ls)) (sym failed) (taken_among c.args.place.now count offset leaves)

pub returns-then-not-found-clause-told : goal.returns-then-not-found-clause-told
returns-then-not-found-clause-told g c images tell =
    let offset : ℕ = offset_of c.args.place.now in
    let leaves : List ℕ = leaves_of c.args.setting.now c.args.place.now in
    let read : ℕ → Result (List ℕ) Errno = λ leaf. judged (good_by c.args.good.now) (read_leaf c.args.setting.now c.args.retry images (length c.args.buffer.now) (spot_in c.args.place.now leaf)) in
    let order : c.as_slice.result.now ≡ read_order offset leaves =
    c.as_slice.ensures ∙ c.in_ok-order.ensures.ok ∙ ap (read_order offset) c.leaves.ensures in
    let tried = c.in_ok-tried.ensures.told images tell in
    let none : c.in_ok-tried.tried.found ≡ false = c.if-not-found.true in (
      subst (λ ls. (None ≡ (first_good read ls).found) × (c.unwrap_or.result ≡ blame (first_good read ls).errors)) order
          (sym (ap (λ f. found_if f c.first_good.new.buffer) none) ∙ tried.0, c.unwrap_or.ensures ∙ ap (λ w. unwrap_or w Nxio) tried.2),
      tried.3,
    )
