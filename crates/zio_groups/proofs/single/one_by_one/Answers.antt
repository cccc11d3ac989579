use Rattle.std.proofs.Common.{◌≡◌, ◌≢◌, ℕ, ◌+◌, ◌++◌, ◌∷◌, [], List, Ok, Err, Result, Contains, map, take, sym, subst, ap}
use Rattle.std.specs.List.{AllByRecursion}
use Rattle.zio_cksum.specs.Images.{Setting}
use Rattle.zio_disks.specs.Disks.{Tell}
use Rattle.zio_disks.specs.declared.setting.Stop.{Stop}
use Rattle.zio_disks.specs.declared.setting.Stop.TheVariants.{Device}
use Rattle.zio_disks.proofs.DiskLemmas.{handles_after, handles_err, handles_none, handles_ok, handles_then, handles_wider, not_device}
use Rattle.zio_groups.specs.declared.waiting.QueuedOp.{QueuedOp}
use Rattle.zio_groups.specs.Issued.{AreWhole, EndsOn, all_issued, head_of, written_spots}
use Rattle.zio_groups.proofs.CoverLemmas.{memory_on}
use Rattle.zio_groups.proofs.IssueLemmas.{all_at, contains_at, heads_more, left_more, spots_among, taken_more, told_more, whole_more}
use Rattle.zio_groups.proofs.single.one_by_one.Goals as goal

no_device : ◌≢◌ {A = Result (Unit {0}) Stop} (Ok tt) (Err Device)
no_device e = absurd (cc)

pub loop-member-init : goal.loop-member-init
loop-member-init g c = (
  λ images told. (c.in_ok-answers.ensures.ok, told),
  λ images. ap (map head_of) c.in_ok-answers.ensures.ok,
  subst (AreWhole []) (sym c.in_ok-answers.ensures.ok) tt,
  handles_none g.D.Disk.bytes g.D.Disk.faults g.D.Disk.faults_at_fetch g.D.Disk.home g.D.Disk.image g.D.Disk.sound g.D.Disk.went (written_spots c.args.leaf c.args.members.now) (Ok tt) c.args.disks.now no_device,
)

pub returns-in_err-answers-clause-handled : goal.returns-in_err-answers-clause-handled
returns-in_err-answers-clause-handled g c =
    handles_none g.D.Disk.bytes g.D.Disk.faults g.D.Disk.faults_at_fetch g.D.Disk.home g.D.Disk.image g.D.Disk.sound g.D.Disk.went (written_spots c.args.leaf c.args.members.now) c.from_residual.result c.args.disks.now
    (not_device c.from_residual.result (memory_on c.from_residual.result _ c.from_residual.ensures.1 c.in_err-answers.ensures.err))

pub issue_one-requires-clause-lies : goal.issue_one-requires-clause-lies
issue_one-requires-clause-lies g c =
    subst (λ (sizes : List ℕ). EndsOn sizes c.args.leaf c.member-item.result) (sym c.loop-member.invariant.3.same.sizes)
    (all_at (EndsOn (map g.D.Disk.bytes c.args.disks.now) c.args.leaf) c.args.members.now c.loop-member.member-index c.member-item.result c.loop-member-test.true c.member-item.is c.requires.lies)

pub returns-in_err-answer-clause-handled : goal.returns-in_err-answer-clause-handled
returns-in_err-answer-clause-handled g c =
    let ws : List QueuedOp = c.args.members.now in
    let among : AllByRecursion (Contains (written_spots c.args.leaf ws)) (written_spots c.args.leaf (c.member-item.result ∷ [])) =
    spots_among c.args.leaf ws (c.member-item.result ∷ []) (contains_at ws c.loop-member.member-index c.member-item.result c.loop-member-test.true c.member-item.is, tt) in
    handles_then {spots = written_spots c.args.leaf ws} c.loop-member.invariant.3 (handles_err c.from_residual-in_err-answer.result c.from_residual-in_err-answer.ensures.1 (handles_wider (written_spots c.args.leaf ws) among c.in_err-answer.ensures.handled))

pub returns-in_err-add-clause-handled : goal.returns-in_err-add-clause-handled
returns-in_err-add-clause-handled g c =
    let ws : List QueuedOp = c.args.members.now in
    let among : AllByRecursion (Contains (written_spots c.args.leaf ws)) (written_spots c.args.leaf (c.member-item.result ∷ [])) =
    spots_among c.args.leaf ws (c.member-item.result ∷ []) (contains_at ws c.loop-member.member-index c.member-item.result c.loop-member-test.true c.member-item.is, tt) in
    handles_after c.from_residual-in_err-add.result (memory_on c.from_residual-in_err-add.result _ c.from_residual-in_err-add.ensures.1 c.in_err-add.ensures.err)
    (handles_then {spots = written_spots c.args.leaf ws} c.loop-member.invariant.3 (handles_wider (written_spots c.args.leaf ws) among c.in_ok-answer.ensures.handled))

pub loop-member-preserved : goal.loop-member-preserved
loop-member-preserved g c =
    let s : Setting = c.args.setting.now in
    let leaf : ℕ = c.args.leaf in
    let ws : List QueuedOp = c.args.members.now in
    let i : ℕ = c.loop-member.member-index in
    let w : QueuedOp = c.member-item.result in
    let more : take (i + 1) ws ≡ take i ws ++ w ∷ [] = taken_more ws i w c.loop-member-test.true c.member-item.is in
    let among : AllByRecursion (Contains (written_spots leaf ws)) (written_spots leaf (w ∷ [])) = spots_among leaf ws (w ∷ []) (contains_at ws i w c.loop-member-test.true c.member-item.is, tt) in (
      λ images told.
          let before = c.loop-member.invariant.0 images told in
          let after = c.in_ok-answer.ensures.told ((all_issued s leaf (take i ws) images).images) before.1 in (
            told_more s leaf (take i ws) (take (i + 1) ws) w images c.loop-member.answers c.add.new.items c.in_ok-answer.answer more c.in_ok-add.ensures.ok before.0 after.0,
            subst (Tell g.D.Disk.image c.issue_one.new.disks) (sym (left_more s leaf (take i ws) (take (i + 1) ws) w images more)) after.1,
          ),
      λ images.
          heads_more s leaf (take i ws) (take (i + 1) ws) w images c.loop-member.answers c.add.new.items c.in_ok-answer.answer more c.in_ok-add.ensures.ok (c.loop-member.invariant.1 images)
          (c.in_ok-answer.ensures.head ((all_issued s leaf (take i ws) images).images)),
      whole_more (take i ws) (take (i + 1) ws) w c.loop-member.answers c.add.new.items c.in_ok-answer.answer more c.in_ok-add.ensures.ok c.loop-member.invariant.2 c.in_ok-answer.ensures.whole,
      handles_then {spots = written_spots leaf ws} c.loop-member.invariant.3 (handles_ok tt (handles_wider (written_spots leaf ws) among c.in_ok-answer.ensures.handled)),
    )
