use Rattle.std.proofs.Common.{◌≡◌, ◌<◌, ◌≤◌, ℕ, List, [], ◌∷◌, ◌++◌, Ok, get_or, length, map, refl, sym, ap, subst, ◌∙◌, arith}
use Rattle.std.specs.Prelude.{slice_range}
use Rattle.std.proofs.lemmas.List.{length-map}
use Rattle.zio_disks.proofs.DiskLemmas.{handles_after, handles_err, handles_none, handles_ok, handles_then, tell_length}
use Rattle.zio_audit_run.proofs.ReadLemmas.{files_more, part_none, sizes_more}
use Rattle.zio_audit_run.proofs.read.read_files.Goals as goal

pub loop-k-init : goal.loop-k-init
loop-k-init g c = record {
  told = λ images tell. c.new-files.ensures.items ∙ sym (part_none images c.args.first);
  sizes = ap (λ fs. map (length {A = ℕ}) fs) c.new-files.ensures.items ∙ sym (part_none (map g.D.Disk.bytes c.args.disks.now) c.args.first);
  behind = omega arith;
  ahead = omega (arith, c.requires.order);
  still = λ images tell. tell;
  handled = handles_none g.D.Disk.bytes g.D.Disk.faults g.D.Disk.faults_at_fetch g.D.Disk.home g.D.Disk.image g.D.Disk.sound g.D.Disk.went [] (Ok 0) c.args.disks.now (λ e. cc);
}

pub returns-in_err-bytes-clause-handled : goal.returns-in_err-bytes-clause-handled
returns-in_err-bytes-clause-handled g c =
    handles_err _ c.from_residual.ensures.1 (handles_then c.loop-k.invariant.handled c.in_err-bytes.ensures.handled)

pub returns-then-is_err-clause-handled : goal.returns-then-is_err-clause-handled
returns-then-is_err-clause-handled g c =
    handles_after _ refl (handles_then c.loop-k.invariant.handled c.in_ok-bytes.ensures.handled)

pub loop-k-preserved : goal.loop-k-preserved
loop-k-preserved g c =
    let same = c.loop-k.invariant.handled.same in
    let sizes : map g.D.Disk.bytes c.loop-k.disks ≡ map g.D.Disk.bytes c.args.disks.now = same.sizes in
    let within : c.loop-k.k < length (map g.D.Disk.bytes c.args.disks.now) = omega (arith, length-map c.args.disks.now g.D.Disk.bytes) in
    let behind : c.args.first ≤ c.loop-k.k = c.loop-k.invariant.behind in
    let pushed : c.push.new.self.items ≡ c.loop-k.files.items ++ c.in_ok-bytes.bytes ∷ [] = (rw c.if-is_err.ensures.negation at c.push.ensures.items) in
    record {
      told = λ images tell.
          (let many : length images ≡ length c.args.disks.now = tell_length g.D.Disk.image c.args.disks.now images tell in
          let there : c.loop-k.k < length images = omega arith in
          pushed ∙ files_more c.loop-k.files.items images c.args.first c.loop-k.k c.in_ok-bytes.bytes behind there (c.loop-k.invariant.told images tell)
          (c.in_ok-bytes.ensures.told images (c.loop-k.invariant.still images tell)));
      sizes =
          ap (λ fs. map (length {A = ℕ}) fs) pushed
          ∙ sizes_more c.loop-k.files.items (map g.D.Disk.bytes c.args.disks.now) c.args.first c.loop-k.k c.in_ok-bytes.bytes behind within c.loop-k.invariant.sizes
          (subst (λ (ns : List ℕ). length c.in_ok-bytes.bytes ≡ get_or ns c.loop-k.k 0) sizes c.in_ok-bytes.ensures.size);
      behind = omega arith;
      ahead = omega arith;
      still = λ images tell. c.read_file.ensures.still images (c.loop-k.invariant.still images tell);
      handled = handles_ok 0 (handles_then c.loop-k.invariant.handled c.in_ok-bytes.ensures.handled);
    }

pub returns-clause-told : goal.returns-clause-told
returns-clause-told g c images tell =
    let ended : c.loop-k.k ≡ c.args.end = omega (arith, c.loop-k.invariant.ahead) in
    c.loop-k.invariant.told images tell ∙ ap (λ (m : ℕ). slice_range images c.args.first m) ended

pub returns-clause-sizes : goal.returns-clause-sizes
returns-clause-sizes g c =
    let ended : c.loop-k.k ≡ c.args.end = omega (arith, c.loop-k.invariant.ahead) in
    c.loop-k.invariant.sizes ∙ ap (λ (m : ℕ). slice_range (map g.D.Disk.bytes c.args.disks.now) c.args.first m) ended
