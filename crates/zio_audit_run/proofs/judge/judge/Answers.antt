use Rattle.std.proofs.Common.{◌≡◌, ◌≤◌, ◌+◌, ◌-◌, ◌*◌, ℕ, List, length, map, take, refl, sym, ap, ◌∙◌, subst, arith}
use Rattle.std.specs.Prelude.{slice_range}
use Rattle.std.proofs.lemmas.List.{length-map}
use Rattle.zio_cksum.specs.Images.{Images}
use Rattle.zio_disks.proofs.DiskLemmas.{handles_after, handles_err, handles_ok, handles_then, tell_length}
use Rattle.zio_audit_run.specs.Files.{case_of}
use Rattle.zio_audit_run.proofs.JudgeLemmas.{front_may, whole_case}
use Rattle.zio_audit_run.proofs.judge.judge.Goals as goal

pub judge_rounds-requires-clause-may : goal.judge_rounds-requires-clause-may
judge_rounds-requires-clause-may g c =
    let count = c.requires.count in
    let sizes = map g.D.Disk.bytes c.args.disks.now in
    let many : length sizes ≡ length c.args.disks.now = length-map c.args.disks.now g.D.Disk.bytes in
    let first : (2 + c.images_among-images.result) - 0 ≡ 2 + count.images = omega arith in
    front_may c.in_ok-files.files.items sizes count.images (omega (arith, count.all)) count.few c.requires.fit
    (c.in_ok-files.ensures.sizes ∙ ap (λ (m : ℕ). take m sizes) first)

pub returns-clause-seen : goal.returns-clause-seen
returns-clause-seen g c =
    let count = c.requires.count in
    let disks = c.args.disks.now in
    let mid = c.read_files.new.disks in
    let sizes : map g.D.Disk.bytes mid ≡ map g.D.Disk.bytes disks = c.in_ok-files.ensures.handled.same.sizes in
    let at : 2 + c.images_among-images.result ≡ 2 + count.images = omega arith in
    let files = c.in_ok-files.files.items in
    let after = c.in_ok-after.after.items in
    let whole = whole_case g.D.Disk.bytes g.D.Disk.image disks files after count.images count.all count.few c.requires.fit
    (c.in_ok-files.ensures.sizes ∙ ap (λ (m : ℕ). slice_range (map g.D.Disk.bytes disks) 0 m) at)
    (c.in_ok-after.ensures.sizes ∙ (λ i. slice_range (sizes i) (at i) (length disks)))
    (tell_length g.D.Disk.image disks)
    (λ images tell. c.in_ok-files.ensures.told images tell ∙ ap (λ (m : ℕ). slice_range images 0 m) at)
    (λ images tell. c.in_ok-after.ensures.told images (c.read_files.ensures.still images tell) ∙ (λ i. slice_range images (at i) (length disks))) in
    let said = c.seen_with.ensures (case_of files after) (sym c.as_slice.ensures.value) (c.in-Ok.ensures after) in
    (case_of files after, whole.read, whole.may, said.0, said.1)

pub returns-clause-handled : goal.returns-clause-handled
returns-clause-handled g c = handles_ok _ (handles_then c.in_ok-files.ensures.handled c.in_ok-after.ensures.handled)

pub returns-in_err-files-clause-handled : goal.returns-in_err-files-clause-handled
returns-in_err-files-clause-handled g c = handles_err _ c.from_residual.ensures.1 c.in_err-files.ensures.handled

pub returns-in-Err-clause-handled : goal.returns-in-Err-clause-handled
returns-in-Err-clause-handled g c = handles_after _ refl c.in_ok-files.ensures.handled

pub returns-in_err-after-clause-handled : goal.returns-in_err-after-clause-handled
returns-in_err-after-clause-handled g c =
    handles_err _ c.from_residual-in_err-after.ensures.1 (handles_then c.in_ok-files.ensures.handled c.in_err-after.ensures.handled)

pub returns-clause-still : goal.returns-clause-still
returns-clause-still g c images tell = c.read_files-2.ensures.still images (c.read_files.ensures.still images tell)
