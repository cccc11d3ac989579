use Rattle.std.proofs.Common.{◌≡◌, ◌≤◌, true, ℕ, List, Contains, IfOk, Option, Ok, Result, IsTrue, length, map, cond, option_copied, refl, subst, sym, ap, ◌∙◌}
use Rattle.std.specs.List.{AllByRecursion}
use Rattle.std.proofs.lemmas.Result.{IfOk-weaker}
use Rattle.zio_types.specs.declared.error.Errno.{Errno}
use Rattle.zio_types.specs.Places.{sector_size}
use Rattle.zio_blkptr.specs.declared.pointer.Bp.{Bp}
use Rattle.zio_blkptr.specs.Pointers.{places_of}
use Rattle.zio_cksum.specs.Blocks.{Read, good_kept, read_block}
use Rattle.zio_cksum.specs.Frames.{spots_of}
use Rattle.zio_cksum.specs.Headers.{members_of}
use Rattle.zio_cksum.specs.Images.{Images}
use Rattle.zio_cksum.proofs.AllLemmas.{all_contains}
use Rattle.zio_gang.specs.Trees.{kept_at, sizes_of, tree_places, tree_pointers}
use Rattle.zio_disks.specs.Disks.{LieOn, Tell, found_with}
use Rattle.zio_disks.specs.Kept.{AreNamedAt}
use Rattle.zio_disks.specs.Trees.{IsPlacedIn, members_in}
use Rattle.zio_disks.proofs.DiskLemmas.{handles_after, handles_err, handles_ok, handles_wider}
use Rattle.zio_disks.proofs.TreeLemmas.{few_members, good_members, is_kept, pointer_among, pointer_lies}
use Rattle.zio_disks.proofs.trees.read_members.Goals as goal

pub read_block-requires-clause-lies : goal.read_block-requires-clause-lies
read_block-requires-clause-lies g c =
    let bp : Bp = c.args.bp.now in
    let placed : IsPlacedIn (sizes_of c.args.setting.now.tops) bp =
    all_contains (IsPlacedIn (sizes_of c.args.setting.now.tops)) (tree_pointers c.args.tree.now) bp c.requires.placed c.requires.listed in
    subst (λ t. LieOn (map g.D.Disk.bytes c.args.disks.now) (cond t sector_size bp.size) (spots_of c.args.setting.now (places_of bp))) c.requires.gang
    (pointer_lies c.args.setting.now (map g.D.Disk.bytes c.args.disks.now) bp c.requires.bears placed)

pub returns-in_err-read-clause-handled : goal.returns-in_err-read-clause-handled
returns-in_err-read-clause-handled g c =
    handles_err _ c.from_residual.ensures.1
    (handles_wider (spots_of c.args.setting.now (tree_places c.args.tree.now)) (pointer_among c.args.setting.now c.args.tree.now c.args.bp.now c.requires.listed) c.in_err-read.ensures.handled)

pub returns-in-Some-clause-handled : goal.returns-in-Some-clause-handled
returns-in-Some-clause-handled g c =
    handles_ok _
    (handles_wider (spots_of c.args.setting.now (tree_places c.args.tree.now)) (pointer_among c.args.setting.now c.args.tree.now c.args.bp.now c.requires.listed) c.in_ok-read.ensures.handled)

pub returns-in-None-clause-handled : goal.returns-in-None-clause-handled
returns-in-None-clause-handled g c =
    handles_after c.named.result c.named.ensures.err
    (handles_wider (spots_of c.args.setting.now (tree_places c.args.tree.now)) (pointer_among c.args.setting.now c.args.tree.now c.args.bp.now c.requires.listed) c.in_ok-read.ensures.handled)

pub returns-in-None-clause-told : goal.returns-in-None-clause-told
returns-in-None-clause-told g c =
    IfOk-weaker c.named.result _ _
    (λ (found : Result (List Bp) Errno) (is : found ≡ members_in (Ok c.read_block.new.buffer)) (images : Images) (tell : Tell g.D.Disk.image c.args.disks.now images).
    (let read : Option (List ℕ) → Read = λ k. read_block c.args.setting.now true (good_kept k) images sector_size (places_of c.args.bp.now) in
    let told : (found_with c.in_ok-read.read c.read_block.new.buffer ≡ (read (option_copied c.head.result)).found) × Tell g.D.Disk.image c.read_block.new.disks (read (option_copied c.head.result)).images =
    c.in_ok-read.ensures.told images tell in
    let good : Ok c.read_block.new.buffer ≡ (read (option_copied c.head.result)).found =
    ap (λ (o : Option Errno). found_with o c.read_block.new.buffer) (sym c.in-None.is) ∙ told.0 in
    subst (λ k. (found ≡ members_in (read k).found) × Tell g.D.Disk.image c.read_block.new.disks (read k).images) c.head.ensures
    (is ∙ ap members_in good, told.1)))
    c.named.ensures.ok

pub returns-in-None-clause-listed : goal.returns-in-None-clause-listed
returns-in-None-clause-listed g c =
    let good : IsTrue (good_kept (kept_at c.args.tree.now.heads c.args.path.now) c.read_block.new.buffer) =
    subst (λ k. IsTrue (good_kept k c.read_block.new.buffer)) c.head.ensures (c.in_ok-read.ensures.good c.in-None.is) in
    let all : AllByRecursion (Contains (tree_pointers c.args.tree.now)) (members_of c.read_block.new.buffer) =
    good_members c.args.tree.now c.args.path.now c.read_block.new.buffer good in
    IfOk-weaker c.named.result _ _
    (λ (found : Result (List Bp) Errno) (is : found ≡ members_in (Ok c.read_block.new.buffer)).
    subst (λ r. IfOk r (λ ms. AllByRecursion (Contains (tree_pointers c.args.tree.now)) ms)) (sym is) all)
    c.named.ensures.ok

pub returns-in-None-clause-few : goal.returns-in-None-clause-few
returns-in-None-clause-few g c =
    IfOk-weaker c.named.result _ _
    (λ (found : Result (List Bp) Errno) (is : found ≡ members_in (Ok c.read_block.new.buffer)).
    subst (λ r. IfOk r (λ ms. length ms ≤ 3)) (sym is) (few_members c.read_block.new.buffer))
    c.named.ensures.ok

pub returns-in-None-clause-kept : goal.returns-in-None-clause-kept
returns-in-None-clause-kept g c =
    let good : IsTrue (good_kept (kept_at c.args.tree.now.heads c.args.path.now) c.read_block.new.buffer) =
    subst (λ k. IsTrue (good_kept k c.read_block.new.buffer)) c.head.ensures (c.in_ok-read.ensures.good c.in-None.is) in
    IfOk-weaker c.named.result _ _
    (λ (found : Result (List Bp) Errno) (is : found ≡ members_in (Ok c.read_block.new.buffer)).
    subst (λ r. IfOk r (AreNamedAt c.args.tree.now.heads c.args.path.now)) (sym is)
    (record { header = c.read_block.new.buffer; found = is_kept (kept_at c.args.tree.now.heads c.args.path.now) c.read_block.new.buffer good; named = refl }))
    c.named.ensures.ok
