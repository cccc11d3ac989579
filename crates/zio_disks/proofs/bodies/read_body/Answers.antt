use Rattle.std.proofs.Common.{◌≡◌, ℕ, ◌++◌, List, [], ◌∷◌, Ok, Err, Option, length, map, cond, take, true, subst, sym, ap, refl, ◌∙◌, arith}
use Rattle.std.proofs.lemmas.Result.{err_from_is_err_and}
use Rattle.zio_types.specs.declared.error.Errno.{Errno}
use Rattle.zio_types.specs.Places.{sector_size}
use Rattle.zio_blkptr.specs.declared.pointer.Bp.{Bp}
use Rattle.zio_blkptr.specs.Pointers.{places_of}
use Rattle.zio_cksum.specs.Blocks.{Read, good_body, read_block}
use Rattle.zio_cksum.specs.Frames.{spots_of}
use Rattle.zio_cksum.proofs.AllLemmas.{all_contains}
use Rattle.zio_gang.specs.Trees.{sizes_of, tree_places, tree_pointers}
use Rattle.zio_disks.specs.Disks.{LieOn, Tell, found_with}
use Rattle.zio_disks.specs.Trees.{IsPlacedIn}
use Rattle.zio_disks.proofs.DiskLemmas.{handles_err, handles_none, handles_ok, handles_wider}
use Rattle.zio_disks.proofs.TreeLemmas.{pointer_among, pointer_lies}
use Rattle.zio_disks.proofs.bodies.read_body.Goals as goal

take_front : (n : ℕ) (xs ys : List ℕ) → n ≡ length xs → take n (xs ++ ys) ≡ xs
take_front n xs ys e = ap (λ k. take k (xs ++ ys)) e ∙ all xs ys
  where
    all : (xs ys : List ℕ) → take (length xs) (xs ++ ys) ≡ xs
    all [] ys = refl
    all (x ∷ xs) ys = ap (λ zs. x ∷ zs) (all xs ys)

pub returns-in_err-bytes-clause-handled : goal.returns-in_err-bytes-clause-handled
returns-in_err-bytes-clause-handled g c =
    let p = err_from_is_err_and c.from_residual.result c.from_residual.ensures.1 in
    let is = p.1 in
    let same = p.2 in
    let memory = c.in_err-bytes.ensures.err in
    handles_none g.D.Disk.bytes g.D.Disk.faults g.D.Disk.faults_at_fetch g.D.Disk.home g.D.Disk.image g.D.Disk.sound g.D.Disk.went _ _ c.args.disks.now (λ e. cc)

pub read_block-requires-clause-lies : goal.read_block-requires-clause-lies
read_block-requires-clause-lies g c =
    let bp : Bp = c.args.bp.now in
    let placed : IsPlacedIn (sizes_of c.args.setting.now.tops) bp =
    all_contains (IsPlacedIn (sizes_of c.args.setting.now.tops)) (tree_pointers c.args.tree.now) bp c.requires.placed c.requires.listed.listed in
    let len : c.in_ok-bytes.bytes.len ≡ bp.size = c.in_ok-bytes.ensures.ok in
    let given = c.as_mut_slice.ensures.len in
    let size : bp.size ≡ length c.as_mut_slice.result.now = omega arith in
    subst (λ n. LieOn (map g.D.Disk.bytes c.args.disks.now) n (spots_of c.args.setting.now (places_of bp))) size
    (subst (λ t. LieOn (map g.D.Disk.bytes c.args.disks.now) (cond t sector_size bp.size) (spots_of c.args.setting.now (places_of bp))) c.requires.listed.plain
    (pointer_lies c.args.setting.now (map g.D.Disk.bytes c.args.disks.now) bp c.requires.bears placed))

pub returns-in-None-clause-told : goal.returns-in-None-clause-told
returns-in-None-clause-told g c images tell =
    let read : ℕ → Read = λ n. read_block c.args.setting.now true (good_body c.args.bp.now) images n (places_of c.args.bp.now) in
    let len : c.in_ok-bytes.bytes.len ≡ c.args.bp.now.size = c.in_ok-bytes.ensures.ok in
    let kept = c.read_block.auto.buffer in
    let given = c.as_mut_slice.ensures.len in
    let size : length c.as_mut_slice.result.now ≡ c.args.bp.now.size = omega arith in
    let whole : c.in_ok-bytes.bytes.len ≡ length c.read_block.new.buffer = omega arith in
    let told : (found_with c.in_ok-read_block.field-0 c.read_block.new.buffer ≡ (read (length c.as_mut_slice.result.now)).found) × Tell g.D.Disk.image c.read_block.new.disks (read (length c.as_mut_slice.result.now)).images =
    (c.in_ok-read_block.ensures).told images tell in
    subst (λ n. (Ok c.from_vec.result ≡ (read n).found) × Tell g.D.Disk.image c.read_block.new.disks (read n).images) size (
      ap Ok (c.from_vec.ensures ∙ take_front c.in_ok-bytes.bytes.len c.read_block.new.buffer _ whole)
          ∙ ap (λ (o : Option Errno). found_with o c.read_block.new.buffer) (sym c.in-None.is) ∙ told.0,
      told.1,
    )

pub returns-in-Some-clause-told : goal.returns-in-Some-clause-told
returns-in-Some-clause-told g c images tell =
    let read : ℕ → Read = λ n. read_block c.args.setting.now true (good_body c.args.bp.now) images n (places_of c.args.bp.now) in
    let len : c.in_ok-bytes.bytes.len ≡ c.args.bp.now.size = c.in_ok-bytes.ensures.ok in
    let given = c.as_mut_slice.ensures.len in
    let size : length c.as_mut_slice.result.now ≡ c.args.bp.now.size = omega arith in
    let told : (found_with c.in_ok-read_block.field-0 c.read_block.new.buffer ≡ (read (length c.as_mut_slice.result.now)).found) × Tell g.D.Disk.image c.read_block.new.disks (read (length c.as_mut_slice.result.now)).images =
    (c.in_ok-read_block.ensures).told images tell in
    subst (λ n. (Err c.in-Some.error ≡ (read n).found) × Tell g.D.Disk.image c.read_block.new.disks (read n).images) size (
      ap (λ (o : Option Errno). found_with o c.read_block.new.buffer) (sym c.in-Some.is) ∙ told.0,
      told.1,
    )

pub returns-in-None-clause-handled : goal.returns-in-None-clause-handled
returns-in-None-clause-handled g c =
    handles_ok _
    (handles_wider (spots_of c.args.setting.now (tree_places c.args.tree.now)) (pointer_among c.args.setting.now c.args.tree.now c.args.bp.now c.requires.listed.listed) c.in_ok-read_block.ensures.handled)

pub returns-in-Some-clause-handled : goal.returns-in-Some-clause-handled
returns-in-Some-clause-handled g c =
    handles_ok _
    (handles_wider (spots_of c.args.setting.now (tree_places c.args.tree.now)) (pointer_among c.args.setting.now c.args.tree.now c.args.bp.now c.requires.listed.listed) c.in_ok-read_block.ensures.handled)

pub returns-in_err-read_block-clause-handled : goal.returns-in_err-read_block-clause-handled
returns-in_err-read_block-clause-handled g c =
    handles_err _ c.from_residual-in_err-read_block.ensures.1
    (handles_wider (spots_of c.args.setting.now (tree_places c.args.tree.now)) (pointer_among c.args.setting.now c.args.tree.now c.args.bp.now c.requires.listed.listed) c.in_err-read_block.ensures.handled)
