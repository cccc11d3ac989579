use Rattle.std.proofs.Common.{◌≡◌, Err, Ok, Result, inl, inr, length, map, ap, sym, subst, ◌∙◌}
use Rattle.std.proofs.lemmas.List.{length-map}
use Rattle.std.specs.Prelude.{IfErr, IfOk}
use Rattle.zio_gang.specs.Trees.{sizes_of}
use Rattle.zio_disks.proofs.DiskLemmas.{same_itself, same_then}
use Rattle.zio_disks.specs.Whole.{IsWholeTree}
use Rattle.zio_command.specs.Seen.{sink_by}
use Rattle.zio_command.specs.Tops.{HaveImages, leaves_of}
use Rattle.zio_command.proofs.RoundsLemmas.{told_sizes}
use Rattle.zio_command.proofs.ScrubLemmas.{behind_over}
use Rattle.zio_command.proofs.scrub.run_and_scrub.Goals as goal

at_ok : {T E : Type 0} (P : T → Type 0) (r : Result T E) (x : T) → r ≡ Ok x → IfOk r P → P x
at_ok P r x is h = subst (λ q. IfOk q P) is h

at_err : {T E : Type 0} (P : E → Type 0) (r : Result T E) (e : E) → r ≡ Err e → IfErr r P → P e
at_err P r e is h = subst (λ q. IfErr q P) is h

pub returns-in-Ok-ended-clause-outcome : goal.returns-in-Ok-ended-clause-outcome
returns-in-Ok-ended-clause-outcome g c =
    let seen = sink_by g.O.Sink.holds g.O.Sink.faults in
    let old = c.args.disks.items in
    let ran = c.run_pool-ended in
    let end = c.in-Ok-ended.end in
    let sizes : length (map g.D.Disk.bytes c.as_slice.result.now) ≡ length old = length-map c.as_slice.result.now g.D.Disk.bytes ∙ ap length c.as_slice.ensures.value in
    behind_over g.D.Disk.bytes g.D.Disk.faults g.D.Disk.image c.args.show.now c.args.script.now end old ran.result.1.items c.scrub_behind.result.1.items
    (seen c.args.out.now) (seen ran.new.out) (seen c.scrub_behind.new.out) c.args.journal.now ran.new.journal IsWholeTree (sizes_of c.in-Ok.setting.tops)
    (subst (λ n. HaveImages n (leaves_of c.args.script.now.tops)) sizes c.in-Ok.ensures.setting.leaves)
    (at_ok _ ran.result.0 end c.in-Ok-ended.is ran.ensures.bound) (at_ok _ ran.result.0 end c.in-Ok-ended.is ran.ensures.placed)
    (λ before tells. told_sizes g.D.Disk.bytes g.D.Disk.image g.met.D.Disk.has_size old before tells ∙ sym ran.ensures.same.sizes)
    (at_ok _ ran.result.0 end c.in-Ok-ended.is ran.ensures.whole) c.scrub_behind.result.0 c.scrub_behind.ensures.behind

pub returns-in-Ok-ended-clause-same : goal.returns-in-Ok-ended-clause-same
returns-in-Ok-ended-clause-same g c =
    same_then g.D.Disk.bytes g.D.Disk.faults g.D.Disk.faults_at_fetch g.D.Disk.home g.D.Disk.image g.D.Disk.sound c.args.disks.items
    c.run_pool-ended.result.1.items c.scrub_behind.result.1.items c.run_pool-ended.ensures.same c.scrub_behind.ensures.same

pub returns-in-Err-clause-outcome : goal.returns-in-Err-clause-outcome
returns-in-Err-clause-outcome g c =
    let old = c.args.disks.items in
    let sizes : length (map g.D.Disk.bytes c.as_slice.result.now) ≡ length old = length-map c.as_slice.result.now g.D.Disk.bytes ∙ ap length c.as_slice.ensures.value in
    let have = subst (λ n. HaveImages n (leaves_of c.args.script.now.tops)) sizes c.in-Ok.ensures.setting.leaves in
    elim (at_err _ c.run_pool-ended.result.0 c.in-Err.fault c.in-Err.is c.run_pool-ended.ensures.cut) [
      | inl cut ↦ inl (have, inl cut)
      | inr unbegun ↦ inr unbegun
    ]

pub returns-in-Err-Leaf-clause-same : goal.returns-in-Err-Leaf-clause-same
returns-in-Err-Leaf-clause-same g c = same_itself g.D.Disk.bytes g.D.Disk.faults g.D.Disk.faults_at_fetch g.D.Disk.home g.D.Disk.image g.D.Disk.sound c.args.disks.items

pub returns-in-Err-Memory-clause-same : goal.returns-in-Err-Memory-clause-same
returns-in-Err-Memory-clause-same g c = same_itself g.D.Disk.bytes g.D.Disk.faults g.D.Disk.faults_at_fetch g.D.Disk.home g.D.Disk.image g.D.Disk.sound c.args.disks.items
