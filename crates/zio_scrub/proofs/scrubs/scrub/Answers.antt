use Rattle.std.proofs.Common.{◌≡◌, ◌<◌, ◌^◌, List, [], length, map, sym, subst, ap, ◌∙◌, arith}
use Rattle.std.specs.List.{flat_map}
use Rattle.zio_gang.specs.Pieces.{Piece as Seen}
use Rattle.zio_disks.specs.Disks.{Tell}
use Rattle.zio_disks.proofs.DiskLemmas.{handles_err, handles_none, handles_ok, handles_then, handles_wider, not_device}
use Rattle.zio_groups.proofs.CoverLemmas.{memory_on, told_size}
use Rattle.zio_trace.specs.Leaves.{HaveSizes}
use Rattle.zio_scrub.specs.declared.repairs.Repair.{Repair}
use Rattle.zio_scrub.specs.Pieces.{all_seen, trees_of}
use Rattle.zio_scrub.specs.Scrubs.{all_lost, all_repairs, copies_of, error_of, failed_in, mend, pieces_in, repaired_in, scrub_blocks, spots_in}
use Rattle.zio_scrub.proofs.MendSteps.{size_at}
use Rattle.zio_scrub.proofs.ReadablePieces.{pieces_readable}
use Rattle.zio_scrub.proofs.WholeScrubs.{few_blocks, repairs_apart, repairs_spots, trees_length, whole_good, whole_is}
use Rattle.zio_scrub.proofs.scrubs.scrub.Goals as goal

pub returns-in_err-pieces-clause-handled : goal.returns-in_err-pieces-clause-handled
returns-in_err-pieces-clause-handled g c =
    handles_none g.D.Disk.bytes g.D.Disk.faults g.D.Disk.faults_at_fetch g.D.Disk.home g.D.Disk.image g.D.Disk.sound g.D.Disk.went _ c.from_residual.result c.args.disks.now
    (not_device c.from_residual.result (memory_on c.from_residual.result _ c.from_residual.ensures.1 c.in_err-pieces.ensures.err))

pub read_pieces-requires-clause-readable : goal.read_pieces-requires-clause-readable
read_pieces-requires-clause-readable g c =
    pieces_readable c.args.setting.now (map g.D.Disk.bytes c.args.disks.now) (trees_of c.args.bound.now) c.as_slice.result.now c.requires.can
    (ap all_seen c.as_slice.ensures ∙ c.in_ok-pieces.ensures.ok)

pub returns-in_err-reading-clause-handled : goal.returns-in_err-reading-clause-handled
returns-in_err-reading-clause-handled g c =
    handles_wider {spots = []} (spots_in c.args.setting.now (trees_of c.args.bound.now)) tt
    (handles_err c.from_residual-in_err-reading.result c.from_residual-in_err-reading.ensures.1 c.in_err-reading.ensures.handled)

pub returns-in_err-mended-clause-handled : goal.returns-in_err-mended-clause-handled
returns-in_err-mended-clause-handled g c =
    let all = spots_in c.args.setting.now (trees_of c.args.bound.now) in
    handles_then {spots = all} (handles_wider {spots = []} all tt c.in_ok-reading.ensures.handled)
    (handles_err c.from_residual-in_err-mended.result c.from_residual-in_err-mended.ensures.1
    (handles_wider all
    (repairs_spots c.args.setting.now (trees_of c.args.bound.now) c.as_slice.result.now c.in_ok-reading.reading.repairs
    (ap all_seen c.as_slice.ensures ∙ c.in_ok-pieces.ensures.ok) c.in_ok-reading.ensures.among)
    c.in_err-mended.ensures.handled))

pub overflow_cast-result : goal.overflow_cast-result
overflow_cast-result g c =
    let few : length (trees_of c.args.bound.now) < 2 ^ 32 =
    few_blocks c.args.setting.now (map g.D.Disk.bytes c.args.disks.now) (trees_of c.args.bound.now) c.requires.can c.as_slice.result.now
    (ap all_seen c.as_slice.ensures ∙ c.in_ok-pieces.ensures.ok) c.in_ok-reading.ensures.some in
    omega (arith, trees_length c.args.bound.now)

pub returns-clause-told : goal.returns-clause-told
unfolding scrub_blocks
returns-clause-told g c = λ images told.
    let s = c.args.setting.now in
    let trees = trees_of c.args.bound.now in
    let sizes = map g.D.Disk.bytes c.args.disks.now in
    let seen : all_seen c.as_slice.result.now ≡ pieces_in trees = ap all_seen c.as_slice.ensures ∙ c.in_ok-pieces.ensures.ok in
    let read = c.in_ok-reading.ensures.told images told in
    let repairs : c.in_ok-reading.reading.repairs ≡ all_repairs s images (pieces_in trees) = read.0 ∙ ap (all_repairs s images) seen in
    let lost : c.in_ok-reading.reading.lost ≡ all_lost s images (pieces_in trees) = read.1 ∙ ap (all_lost s images) seen in
    let have : HaveSizes (size_at sizes) images =
    λ leaf. told_size g.D.Disk.bytes g.D.Disk.image g.met.D.Disk.has_size c.args.disks.now images leaf told in
    let is = whole_is s sizes trees c.requires.can images have in
    let after : Tell g.D.Disk.image c.mend.new.disks (mend s c.in_ok-reading.reading.repairs images).images =
    c.in_ok-mended.ensures.told images read.2 (repairs_apart s sizes trees c.requires.can images c.in_ok-reading.reading.repairs repairs) in (
      record {
        blocks = sym (trees_length c.args.bound.now);
        copies = c.in_ok-reading.ensures.copies ∙ ap (λ (ps : List Seen). length (flat_map (copies_of s) ps)) seen ∙ sym is.copies_are;
        repaired = c.in_ok-mended.ensures.repaired ∙ ap (λ (rs : List Repair). repaired_in (map (error_of s) rs)) repairs ∙ sym is.repaired_are;
        failed = c.in_ok-mended.ensures.failed ∙ ap (λ (rs : List Repair). failed_in (map (error_of s) rs)) repairs ∙ sym is.failed_are;
        lost = lost ∙ sym is.lost_are;
      },
      subst (Tell g.D.Disk.image c.mend.new.disks) (ap (λ (rs : List Repair). (mend s rs images).images) repairs ∙ sym is.images_are) after,
    )

pub returns-clause-good : goal.returns-clause-good
returns-clause-good g c = λ quiet images told.
    whole_good c.args.setting.now (map g.D.Disk.bytes c.args.disks.now) (trees_of c.args.bound.now) c.requires.can images quiet
    (λ leaf. told_size g.D.Disk.bytes g.D.Disk.image g.met.D.Disk.has_size c.args.disks.now images leaf told)

pub returns-clause-handled : goal.returns-clause-handled
returns-clause-handled g c =
    let all = spots_in c.args.setting.now (trees_of c.args.bound.now) in
    handles_then {spots = all} (handles_wider {spots = []} all tt c.in_ok-reading.ensures.handled)
    (handles_ok _
    (handles_wider all
    (repairs_spots c.args.setting.now (trees_of c.args.bound.now) c.as_slice.result.now c.in_ok-reading.reading.repairs
    (ap all_seen c.as_slice.ensures ∙ c.in_ok-pieces.ensures.ok) c.in_ok-reading.ensures.among)
    c.in_ok-mended.ensures.handled))
