use Rattle.std.proofs.Common.{◌≡◌, ◌∙◌, ◌≤◌, ℕ, List, [], length, map, Result, Ok, Err, IfOk, arith, replicate, None, Option, sym, subst, ap}
use Rattle.std.specs.List.{AllByRecursion}
use Rattle.std.proofs.lemmas.Result.{IfOk-weaker}
use Rattle.zio_disks.proofs.DiskLemmas.{handles_after, handles_none, not_device}
use Rattle.zio_disks.specs.declared.setting.Stop.{Stop}
use Rattle.zio_groups.proofs.CoverLemmas.{memory_on}
use Rattle.zio_scrub.specs.declared.heard.Mark.TheVariants.{Out}
use Rattle.zio_scrub.specs.declared.heard.Source.{Source}
use Rattle.zio_scrub.specs.declared.layout.CopyAt.{CopyAt}
use Rattle.zio_scrub.specs.declared.reads.Reading.{Reading}
use Rattle.zio_scrub.specs.Layouts.{FitsQueue}
use Rattle.zio_scrub.specs.Queues.{HaveAll}
use Rattle.zio_scrub.specs.Reads.{IsReadOf, leaf_at}
use Rattle.zio_scrub.proofs.LayoutLemmas.{layout_sound}
use Rattle.zio_scrub.proofs.PieceSteps.{copies_count, copies_fit, copies_lie, copies_on, fresh_heard, fresh_out, fresh_true, repairs_among, repairs_on}
use Rattle.zio_scrub.proofs.reads.read_pieces.Goals as goal

pub returns-in_err-layout-clause-handled : goal.returns-in_err-layout-clause-handled
returns-in_err-layout-clause-handled g c =
    handles_none g.D.Disk.bytes g.D.Disk.faults g.D.Disk.faults_at_fetch g.D.Disk.home g.D.Disk.image g.D.Disk.sound g.D.Disk.went [] c.from_residual.result c.args.disks.now
    (not_device c.from_residual.result (memory_on c.from_residual.result _ c.from_residual.ensures.1 c.in_err-layout.ensures.err))

pub queued-requires : goal.queued-requires
queued-requires g c = record {
  fit = subst (AllByRecursion (λ (x : CopyAt). FitsQueue (length c.args.disks.now) x.spot)) (sym c.as_slice.ensures)
      (copies_fit g.D.Disk.bytes c.args.disks.now c.in_ok-layout.layout.copies
      (copies_on c.args.setting.now (map g.D.Disk.bytes c.args.disks.now) c.args.pieces.now c.in_ok-layout.layout c.requires.readable c.in_ok-layout.ensures.ok));
}

pub returns-in_err-queues-clause-handled : goal.returns-in_err-queues-clause-handled
returns-in_err-queues-clause-handled g c =
    handles_none g.D.Disk.bytes g.D.Disk.faults g.D.Disk.faults_at_fetch g.D.Disk.home g.D.Disk.image g.D.Disk.sound g.D.Disk.went [] _ c.args.disks.now
    (not_device _ (memory_on _ _ c.from_residual-in_err-queues.ensures.1 c.in_err-queues.ensures.err))

pub returns-in_err-heard-clause-handled : goal.returns-in_err-heard-clause-handled
returns-in_err-heard-clause-handled g c =
    handles_none g.D.Disk.bytes g.D.Disk.faults g.D.Disk.faults_at_fetch g.D.Disk.home g.D.Disk.image g.D.Disk.sound g.D.Disk.went [] _ c.args.disks.now
    (not_device _ (memory_on _ _ c.from_residual-in_err-heard.ensures.1 c.in_err-heard.ensures.err))

pub read_all-requires-clause-sound : goal.read_all-requires-clause-sound
read_all-requires-clause-sound g c =
    layout_sound c.args.setting.now (map g.D.Disk.bytes c.args.disks.now) c.args.pieces.now c.in_ok-layout.layout c.requires.readable c.in_ok-layout.ensures.ok

pub read_all-requires-clause-lies : goal.read_all-requires-clause-lies
read_all-requires-clause-lies g c =
    copies_lie (map g.D.Disk.bytes c.args.disks.now) c.in_ok-layout.layout.copies
    (copies_on c.args.setting.now (map g.D.Disk.bytes c.args.disks.now) c.args.pieces.now c.in_ok-layout.layout c.requires.readable c.in_ok-layout.ensures.ok)

pub read_all-requires-clause-out : goal.read_all-requires-clause-out
read_all-requires-clause-out g c =
    fresh_out c.in_ok-layout.layout c.in_ok-heard.heard c.in_ok-queues.queues.leaves.items
    (c.in_ok-heard.ensures.marks ∙ ap (λ (n : ℕ). replicate n Out) c.len.ensures)
    (subst (λ (cs : List CopyAt). HaveAll (IsReadOf cs) (leaf_at cs) (length cs) c.in_ok-queues.queues.leaves.items) c.as_slice.ensures c.in_ok-queues.ensures.wait)

pub read_all-requires-clause-heard : goal.read_all-requires-clause-heard
read_all-requires-clause-heard g c =
    fresh_heard c.in_ok-layout.layout c.in_ok-heard.heard (c.in_ok-heard.ensures.marks ∙ ap (λ (n : ℕ). replicate n Out) c.len.ensures)
    (c.in_ok-heard.ensures.sources ∙ ap (λ (n : ℕ). replicate {A = Option Source} n None) c.len-2.ensures)

pub gather-requires-clause-sound : goal.gather-requires-clause-sound
gather-requires-clause-sound g c =
    layout_sound c.args.setting.now (map g.D.Disk.bytes c.args.disks.now) c.args.pieces.now c.in_ok-layout.layout c.requires.readable c.in_ok-layout.ensures.ok

pub returns-clause-told : goal.returns-clause-told
returns-clause-told g c =
    IfOk-weaker c.gather.result _ _
    (λ reading h images told.
    let t = c.in_ok-read_all.ensures.told images told in
    let r = h c.args.setting.now images c.args.pieces.now c.in_ok-layout.ensures.ok
    (t.1 (fresh_true c.args.setting.now images c.in_ok-layout.layout c.in_ok-heard.heard (c.in_ok-heard.ensures.marks ∙ ap (λ (n : ℕ). replicate n Out) c.len.ensures)
    (c.in_ok-heard.ensures.sources ∙ ap (λ (n : ℕ). replicate {A = Option Source} n None) c.len-2.ensures))) in
    (r.0, r.1, t.0)) c.gather.ensures.told

pub returns-clause-copies : goal.returns-clause-copies
returns-clause-copies g c =
    IfOk-weaker c.gather.result _ _ (λ reading h. h ∙ copies_count c.args.setting.now c.args.pieces.now c.in_ok-layout.layout c.in_ok-layout.ensures.ok) c.gather.ensures.copies

pub returns-clause-few : goal.returns-clause-few
returns-clause-few g c = two_of c.gather.result c.gather.ensures.copies c.gather.ensures.few
  where
    two_of : (r : Result Reading Stop) → IfOk r (λ reading. reading.copies ≡ length c.in_ok-layout.layout.copies)
        → IfOk r (λ reading. length reading.repairs ≤ length c.in_ok-layout.layout.copies) → IfOk r (λ reading. length reading.repairs ≤ reading.copies)
    two_of (Ok reading) h k = omega arith
    two_of (Err e) h k = tt

pub returns-clause-fits : goal.returns-clause-fits
returns-clause-fits g c =
    IfOk-weaker c.gather.result _ _
    (λ reading h. repairs_on (map g.D.Disk.bytes c.args.disks.now) c.in_ok-layout.layout reading.repairs
    (copies_on c.args.setting.now (map g.D.Disk.bytes c.args.disks.now) c.args.pieces.now c.in_ok-layout.layout c.requires.readable c.in_ok-layout.ensures.ok) h)
    c.gather.ensures.from

pub returns-clause-among : goal.returns-clause-among
returns-clause-among g c =
    IfOk-weaker c.gather.result _ _
    (λ reading h. repairs_among c.args.setting.now c.args.pieces.now c.in_ok-layout.layout reading.repairs c.in_ok-layout.ensures.ok h) c.gather.ensures.from

pub returns-clause-handled : goal.returns-clause-handled
returns-clause-handled g c = handles_after c.gather.result c.gather.ensures.err c.in_ok-read_all.ensures.handled
