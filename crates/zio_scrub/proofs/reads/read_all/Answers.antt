use Rattle.std.proofs.Common.{◌≡◌, ◌≢◌, ◌∙◌, ◌<◌, ℕ, List, [], Ok, Err, Result, Contains, length, map, true, sym, subst}
use Rattle.std.specs.Prelude.{is_some, slice_index_or}
use Rattle.std.specs.List.{AllByRecursion}
use Rattle.zio_vqueue.specs.Queues.{eligible}
use Rattle.zio_cksum.specs.Images.{Spot}
use Rattle.zio_disks.specs.declared.setting.Stop.{Stop}
use Rattle.zio_disks.specs.declared.setting.Stop.TheVariants.{Device}
use Rattle.zio_disks.proofs.DiskLemmas.{handles_err, handles_none, handles_ok, handles_then, handles_wider}
use Rattle.zio_groups.specs.Issued.{EndsOn}
use Rattle.zio_groups.specs.LeafQueues.{Waits, queue_of}
use Rattle.zio_scrub.specs.Queues.{AllWait, IsOrdered, no_waits, waiting_at, waiting_count}
use Rattle.zio_scrub.specs.Reads.{AreOut, IsReadOf, mark_at}
use Rattle.zio_scrub.proofs.ReadSteps.{ends_on, group_told, no_spots, none_left, read_group}
use Rattle.zio_scrub.proofs.WaitLemmas.{still_waits}
use Rattle.zio_scrub.proofs.reads.read_all.Goals as goal

no_device : ◌≢◌ {A = Result (Unit {0}) Stop} (Ok tt) (Err Device)
no_device e = absurd (cc)

pub loop-leaf-init : goal.loop-leaf-init
loop-leaf-init g c = record {
  all = c.requires.wait;
  order = c.requires.order;
  out = c.requires.out;
  heard = c.requires.heard;
  told = λ images told. (told, λ h. h);
  handled = handles_none g.D.Disk.bytes g.D.Disk.faults g.D.Disk.faults_at_fetch g.D.Disk.home g.D.Disk.image g.D.Disk.sound g.D.Disk.went
      [] (Ok tt) c.args.disks.now no_device;
}

pub next-requires : goal.next-requires
next-requires g c = record { order = c.loop-leaf.invariant.order }

pub issue-requires-clause-there : goal.issue-requires-clause-there
issue-requires-clause-there g c = subst (λ (qs : List Waits). c.in-Some.leaf < length qs) (sym c.in-Some.ensures.same) c.in-Some.ensures.leaf

pub issue-requires-clause-order : goal.issue-requires-clause-order
issue-requires-clause-order g c = subst (AllByRecursion IsOrdered) (sym c.in-Some.ensures.same) c.loop-leaf.invariant.order

pub issue-requires-clause-eligible : goal.issue-requires-clause-eligible
issue-requires-clause-eligible g c =
    subst (λ (qs : List Waits). is_some (eligible (queue_of (slice_index_or qs c.in-Some.leaf no_waits))) ≡ true) (sym c.in-Some.ensures.same)
    c.in-Some.ensures.eligible

pub issue-requires-clause-lies : goal.issue-requires-clause-lies
issue-requires-clause-lies g c =
    subst (λ (sizes : List ℕ). AllWait (EndsOn sizes) c.next.new.self.leaves.items) (sym c.loop-leaf.invariant.handled.same.sizes)
    (ends_on (map g.D.Disk.bytes c.args.disks.now) c.args.layout.now.copies c.next.new.self.leaves.items c.requires.lies
    (subst (AllWait (IsReadOf c.args.layout.now.copies)) (sym c.in-Some.ensures.same) c.loop-leaf.invariant.all))

pub returns-in_err-answers-clause-handled : goal.returns-in_err-answers-clause-handled
returns-in_err-answers-clause-handled g c =
    let all : AllWait (IsReadOf c.args.layout.now.copies) c.next.new.self.leaves.items =
    subst (AllWait (IsReadOf c.args.layout.now.copies)) (sym c.in-Some.ensures.same) c.loop-leaf.invariant.all in
    handles_then {spots = []} c.loop-leaf.invariant.handled
    (handles_err c.from_residual.result c.from_residual.ensures.1
    (handles_wider [] (subst (λ (spots : List Spot). AllByRecursion (Contains []) spots)
    (sym (no_spots c.args.layout.now.copies c.in-Some.leaf (waiting_at c.next.new.self.leaves.items c.in-Some.leaf) (all c.in-Some.leaf))) tt)
    c.in_err-answers.ensures.handled))

pub hear_all-requires-clause-hearable : goal.hear_all-requires-clause-hearable
hear_all-requires-clause-hearable g c =
    let qs = c.next.new.self.leaves.items in
    let all : AllWait (IsReadOf c.args.layout.now.copies) qs =
    subst (AllWait (IsReadOf c.args.layout.now.copies)) (sym c.in-Some.ensures.same) c.loop-leaf.invariant.all in
    let out : AreOut c.args.layout.now.copies (mark_at c.loop-leaf.heard) qs =
    subst (AreOut c.args.layout.now.copies (mark_at c.loop-leaf.heard)) (sym c.in-Some.ensures.same) c.loop-leaf.invariant.out in
    (read_group g.D.Disk.image c.args.setting.now c.args.layout.now c.in-Some.leaf (mark_at c.loop-leaf.heard) qs c.issue.new.self.leaves.items
    c.loop-leaf.disks c.issue.new.disks c.in_ok-answers.answers all out c.in_ok-answers.ensures.issued).hearable

pub loop-leaf-smaller : goal.loop-leaf-smaller
loop-leaf-smaller g c =
    subst (λ (qs : List Waits). waiting_count c.issue.new.self.leaves.items < waiting_count qs) c.in-Some.ensures.same
    c.in_ok-answers.ensures.issued.fewer

pub loop-leaf-preserved : goal.loop-leaf-preserved
loop-leaf-preserved g c =
    let s = c.args.setting.now in
    let qs = c.next.new.self.leaves.items in
    let now = c.issue.new.self.leaves.items in
    let all : AllWait (IsReadOf c.args.layout.now.copies) qs =
    subst (AllWait (IsReadOf c.args.layout.now.copies)) (sym c.in-Some.ensures.same) c.loop-leaf.invariant.all in
    let out : AreOut c.args.layout.now.copies (mark_at c.loop-leaf.heard) qs =
    subst (AreOut c.args.layout.now.copies (mark_at c.loop-leaf.heard)) (sym c.in-Some.ensures.same) c.loop-leaf.invariant.out in
    let issued = c.in_ok-answers.ensures.issued in
    let group = read_group g.D.Disk.image s c.args.layout.now c.in-Some.leaf (mark_at c.loop-leaf.heard) qs now
    c.loop-leaf.disks c.issue.new.disks c.in_ok-answers.answers all out issued in
    record {
      all = still_waits g.D.Disk.image s (IsReadOf c.args.layout.now.copies) c.in-Some.leaf qs now c.loop-leaf.disks c.issue.new.disks c.in_ok-answers.answers all issued;
      order = c.in_ok-answers.ensures.order;
      out = λ t l. group.outs t l ∙ sym (c.hear_all.ensures.marks t);
      heard = c.hear_all.ensures.heard;
      told = λ images told.
          let so = c.loop-leaf.invariant.told images told in
          let next = group_told g.D.Disk.image s c.args.layout.now c.in-Some.leaf qs now c.loop-leaf.disks c.issue.new.disks c.in_ok-answers.answers images
          c.requires.sound all issued so.0 in
          (next.1, λ h. c.hear_all.ensures.told s images next.0 (so.1 h));
      handled = handles_then {spots = []} c.loop-leaf.invariant.handled
          (handles_ok tt (handles_wider [] (subst (λ (spots : List Spot). AllByRecursion (Contains []) spots)
          (sym (no_spots c.args.layout.now.copies c.in-Some.leaf (waiting_at qs c.in-Some.leaf) (all c.in-Some.leaf))) tt) c.in_ok-answers.ensures.handled));
    }

pub returns-clause-all : goal.returns-clause-all
returns-clause-all g c = record {
  heard = c.loop-leaf.invariant.heard;
  none_out = λ t l. sym (c.loop-leaf.invariant.out t l) ∙ none_left c.args.layout.now.copies c.loop-leaf.queues.leaves.items t c.in_default.ensures.leaf;
}

pub returns-clause-told : goal.returns-clause-told
returns-clause-told g c = c.loop-leaf.invariant.told

pub returns-clause-handled : goal.returns-clause-handled
returns-clause-handled g c = handles_ok _ c.loop-leaf.invariant.handled
