use Rattle.std.proofs.Common.{◌≡◌, ◌≢◌, ◌+◌, ◌<◌, ℕ, List, Ok, Err, Result, length, map, true, sym, subst, ap, ◌∙◌}
use Rattle.std.specs.Prelude.{is_some, slice_index_or}
use Rattle.std.specs.List.{AllByRecursion}
use Rattle.zio_vqueue.specs.Queues.{eligible}
use Rattle.zio_disks.specs.declared.setting.Stop.{Stop}
use Rattle.zio_disks.specs.declared.setting.Stop.TheVariants.{Device}
use Rattle.zio_disks.proofs.DiskLemmas.{handles_err, handles_none, handles_ok, handles_then, handles_wider, not_device}
use Rattle.zio_groups.specs.declared.waiting.Answered.{Answered}
use Rattle.zio_groups.specs.Issued.{EndsOn}
use Rattle.zio_groups.specs.LeafQueues.{Waits, queue_of}
use Rattle.zio_groups.proofs.CoverLemmas.{memory_on, told_size}
use Rattle.zio_scrub.specs.Queues.{AllWait, IsOrdered, no_waits, waiting_at, waiting_count}
use Rattle.zio_scrub.specs.Repairs.{IsRepairOf, errors_of, spots_of_all}
use Rattle.zio_scrub.specs.Scrubs.{failed_in, repaired_in}
use Rattle.zio_scrub.proofs.MendSteps.{AreCounted, IsUnderWay, counted_first, counted_last, counted_next, counted_room, ends_on, fit_queues, spots_among, under_way_first, under_way_last, under_way_next}
use Rattle.zio_scrub.proofs.WaitLemmas.{still_waits}
use Rattle.zio_scrub.proofs.repairs.mend.Goals as goal

no_device : ◌≢◌ {A = Result (Unit {0}) Stop} (Ok tt) (Err Device)
no_device e = absurd (cc)

pub queued-requires-clause-fits : goal.queued-requires-clause-fits
queued-requires-clause-fits g c = fit_queues g.D.Disk.bytes c.args.disks.now c.args.repairs c.requires.fits

pub returns-in_err-queues-clause-handled : goal.returns-in_err-queues-clause-handled
returns-in_err-queues-clause-handled g c =
    handles_none g.D.Disk.bytes g.D.Disk.faults g.D.Disk.faults_at_fetch g.D.Disk.home g.D.Disk.image g.D.Disk.sound g.D.Disk.went
    (spots_of_all c.args.repairs) c.from_residual.result c.args.disks.now
    (not_device c.from_residual.result (memory_on c.from_residual.result _ c.from_residual.ensures.1 c.in_err-queues.ensures.err))

pub loop-leaf-init : goal.loop-leaf-init
loop-leaf-init g c =
    let s = c.args.setting.now in
    let wait = c.in_ok-queues.ensures.wait in
    record {
      all = wait.all;
      order = c.in_ok-queues.ensures.order;
      counted = counted_first s c.args.repairs c.in_ok-queues.queues.leaves.items wait;
      told = λ images told pairs. under_way_first g.D.Disk.image s (map g.D.Disk.bytes c.args.disks.now) c.args.repairs c.in_ok-queues.queues.leaves.items
          images c.args.disks.now wait
          (λ leaf. told_size g.D.Disk.bytes g.D.Disk.image g.met.D.Disk.has_size c.args.disks.now images leaf told) told;
      handled = handles_none g.D.Disk.bytes g.D.Disk.faults g.D.Disk.faults_at_fetch g.D.Disk.home g.D.Disk.image g.D.Disk.sound g.D.Disk.went
          (spots_of_all c.args.repairs) (Ok tt) c.args.disks.now no_device;
    }

pub next-requires : goal.next-requires
next-requires g c = record { order = c.loop-leaf.invariant.order }

pub issue-requires-clause-there : goal.issue-requires-clause-there
issue-requires-clause-there g c = subst (λ (qs : List Waits). c.in-Some.leaf < length qs) (sym c.in-Some.ensures.same) c.in-Some.ensures.leaf

pub issue-requires-clause-order : goal.issue-requires-clause-order
issue-requires-clause-order g c = subst (AllByRecursion IsOrdered) (sym c.in-Some.ensures.same) c.loop-leaf.invariant.order

pub issue-requires-clause-eligible : goal.issue-requires-clause-eligible
issue-requires-clause-eligible g c =
    subst (λ (qs : List Waits). is_some (eligible (queue_of (slice_index_or qs c.in-Some.leaf no_waits))) ≡ true) (sym c.in-Some.ensures.same)
    c.in-Some.ensures.eligible

pub issue-requires-clause-lies : goal.issue-requires-clause-lies
issue-requires-clause-lies g c =
    subst (λ (sizes : List ℕ). AllWait (EndsOn sizes) c.next.new.self.leaves.items) (sym c.loop-leaf.invariant.handled.same.sizes)
    (ends_on (map g.D.Disk.bytes c.args.disks.now) c.args.repairs c.next.new.self.leaves.items c.requires.fits
    (subst (AllWait (IsRepairOf c.args.repairs)) (sym c.in-Some.ensures.same) c.loop-leaf.invariant.all))

pub returns-in_err-answers-clause-handled : goal.returns-in_err-answers-clause-handled
returns-in_err-answers-clause-handled g c =
    let all : AllWait (IsRepairOf c.args.repairs) c.next.new.self.leaves.items =
    subst (AllWait (IsRepairOf c.args.repairs)) (sym c.in-Some.ensures.same) c.loop-leaf.invariant.all in
    handles_then {spots = spots_of_all c.args.repairs} c.loop-leaf.invariant.handled
    (handles_err c.from_residual-in_err-answers.result c.from_residual-in_err-answers.ensures.1
    (handles_wider (spots_of_all c.args.repairs)
    (spots_among c.args.repairs c.in-Some.leaf (waiting_at c.next.new.self.leaves.items c.in-Some.leaf) (all c.in-Some.leaf))
    c.in_err-answers.ensures.handled))

pub count-requires : goal.count-requires
count-requires g c =
    let qs = c.next.new.self.leaves.items in
    let all : AllWait (IsRepairOf c.args.repairs) qs =
    subst (AllWait (IsRepairOf c.args.repairs)) (sym c.in-Some.ensures.same) c.loop-leaf.invariant.all in
    let counted : AreCounted c.args.setting.now c.args.repairs qs c.loop-leaf.mended.repaired c.loop-leaf.mended.failed =
    subst (λ (xs : List Waits). AreCounted c.args.setting.now c.args.repairs xs c.loop-leaf.mended.repaired c.loop-leaf.mended.failed)
    (sym c.in-Some.ensures.same) c.loop-leaf.invariant.counted in
    subst (λ (xs : List Answered). c.loop-leaf.mended.repaired + c.loop-leaf.mended.failed + length xs < 18446744073709551616) (sym c.as_slice.ensures)
    (counted_room g.D.Disk.image c.args.setting.now c.args.repairs c.in-Some.leaf qs c.issue.new.self.leaves.items c.loop-leaf.disks c.issue.new.disks
    c.in_ok-answers.answers c.loop-leaf.mended.repaired c.loop-leaf.mended.failed all c.in_ok-answers.ensures.issued counted c.requires.few)

pub loop-leaf-smaller : goal.loop-leaf-smaller
loop-leaf-smaller g c =
    subst (λ (qs : List Waits). waiting_count c.issue.new.self.leaves.items < waiting_count qs) c.in-Some.ensures.same
    c.in_ok-answers.ensures.issued.fewer

pub loop-leaf-preserved : goal.loop-leaf-preserved
loop-leaf-preserved g c =
    let s = c.args.setting.now in
    let qs = c.next.new.self.leaves.items in
    let now = c.issue.new.self.leaves.items in
    let all : AllWait (IsRepairOf c.args.repairs) qs =
    subst (AllWait (IsRepairOf c.args.repairs)) (sym c.in-Some.ensures.same) c.loop-leaf.invariant.all in
    let counted : AreCounted s c.args.repairs qs c.loop-leaf.mended.repaired c.loop-leaf.mended.failed =
    subst (λ (xs : List Waits). AreCounted s c.args.repairs xs c.loop-leaf.mended.repaired c.loop-leaf.mended.failed)
    (sym c.in-Some.ensures.same) c.loop-leaf.invariant.counted in
    let issued = c.in_ok-answers.ensures.issued in
    record {
      all = still_waits g.D.Disk.image s (IsRepairOf c.args.repairs) c.in-Some.leaf qs now c.loop-leaf.disks c.issue.new.disks c.in_ok-answers.answers all issued;
      order = c.in_ok-answers.ensures.order;
      counted = counted_next g.D.Disk.image s c.args.repairs c.in-Some.leaf qs now c.loop-leaf.disks c.issue.new.disks c.in_ok-answers.answers
          c.loop-leaf.mended.repaired c.loop-leaf.mended.failed c.count.new.self.repaired c.count.new.self.failed all issued counted
          (c.count.ensures.repaired ∙ ap (λ (xs : List Answered). c.loop-leaf.mended.repaired + repaired_in (errors_of xs)) c.as_slice.ensures)
          (c.count.ensures.failed ∙ ap (λ (xs : List Answered). c.loop-leaf.mended.failed + failed_in (errors_of xs)) c.as_slice.ensures);
      told = λ images told pairs.
          under_way_next g.D.Disk.image s (map g.D.Disk.bytes c.args.disks.now) c.args.repairs c.in-Some.leaf qs now images c.loop-leaf.disks
          c.issue.new.disks c.in_ok-answers.answers c.requires.fits pairs all issued
          (subst (λ (xs : List Waits). IsUnderWay g.D.Disk.image s (map g.D.Disk.bytes c.args.disks.now) c.args.repairs xs images c.loop-leaf.disks)
          (sym c.in-Some.ensures.same) (c.loop-leaf.invariant.told images told pairs));
      handled = handles_then {spots = spots_of_all c.args.repairs} c.loop-leaf.invariant.handled
          (handles_ok tt (handles_wider (spots_of_all c.args.repairs)
          (spots_among c.args.repairs c.in-Some.leaf (waiting_at qs c.in-Some.leaf) (all c.in-Some.leaf)) c.in_ok-answers.ensures.handled));
    }

pub returns-clause-repaired : goal.returns-clause-repaired
returns-clause-repaired g c =
    (counted_last c.args.setting.now c.args.repairs c.loop-leaf.queues.leaves.items c.loop-leaf.mended.repaired c.loop-leaf.mended.failed
    c.in_default.ensures.leaf c.loop-leaf.invariant.counted).0

pub returns-clause-failed : goal.returns-clause-failed
returns-clause-failed g c =
    (counted_last c.args.setting.now c.args.repairs c.loop-leaf.queues.leaves.items c.loop-leaf.mended.repaired c.loop-leaf.mended.failed
    c.in_default.ensures.leaf c.loop-leaf.invariant.counted).1

pub returns-clause-told : goal.returns-clause-told
returns-clause-told g c = λ images told pairs.
    under_way_last g.D.Disk.image c.args.setting.now (map g.D.Disk.bytes c.args.disks.now) c.args.repairs c.loop-leaf.queues.leaves.items images
    c.loop-leaf.disks c.in_default.ensures.leaf (c.loop-leaf.invariant.told images told pairs)

pub returns-clause-handled : goal.returns-clause-handled
returns-clause-handled g c = handles_ok _ c.loop-leaf.invariant.handled
