use Rattle.std.proofs.Common.{◌≡◌, ◌∷◌, [], get_or, length, refl, subst, set}
use Rattle.zio_outside.specs.Crash.{written_of}
use Rattle.zio_cksum.specs.Images.{Spot, with_bytes}
use Rattle.zio_disks.specs.Disks.{Tell, TellOutside}
use Rattle.zio_disks.proofs.DiskLemmas.{handles_none, handles_one, lies_in, stored_outside, stored_there, writes_ranges}
use Rattle.zio_disks.proofs.leaf.store.Goals as goal

pub returns-then-leaf-disks-clause-handled : goal.returns-then-leaf-disks-clause-handled
returns-then-leaf-disks-clause-handled g c =
    handles_none g.D.Disk.bytes g.D.Disk.faults g.D.Disk.faults_at_fetch g.D.Disk.home g.D.Disk.image g.D.Disk.sound g.D.Disk.went (c.args.spot.now ∷ []) _ c.args.disks.now (λ e. cc)

pub returns-in-Ok-clause-told : goal.returns-in-Ok-clause-told
returns-in-Ok-clause-told g c images tell =
    let spot : Spot = record { leaf = c.spot.inside.leaf; at = c.spot.inside.at; span = c.spot.inside.span } in
    let view : spot ≡ c.args.spot.now = c.spot.view_is in
    let stored : Tell g.D.Disk.image (set c.args.disks.now c.spot.inside.leaf c.write_at.new.self) (with_bytes images spot c.args.bytes.now) =
    stored_there g.D.Disk.image c.args.disks.now images spot c.args.bytes.now c.index-disks-leaf.result c.write_at.new.self c.if-leaf-disks.false c.in-Ok.ensures.ok tell in
    (refl, subst (λ (s : Spot). Tell g.D.Disk.image (set c.args.disks.now c.spot.inside.leaf c.write_at.new.self) (with_bytes images s c.args.bytes.now)) view stored)

pub returns-in-Ok-clause-handled : goal.returns-in-Ok-clause-handled
returns-in-Ok-clause-handled g c =
    let spot : Spot = record { leaf = c.spot.inside.leaf; at = c.spot.inside.at; span = c.spot.inside.span } in
    let outside : TellOutside g.D.Disk.image (c.args.spot.now ∷ []) c.args.disks.now (set c.args.disks.now c.spot.inside.leaf c.write_at.new.self) =
    stored_outside g.D.Disk.image g.D.Disk.bytes c.args.disks.now spot c.args.spot.now (length c.args.bytes.now) c.index-disks-leaf.result c.write_at.new.self c.spot.view_is c.if-leaf-disks.false
    (g.met.D.Disk.has_size (get_or c.args.disks.now c.spot.inside.leaf c.index-disks-leaf.result)) c.requires.whole c.requires.lies (λ content told. (c.args.bytes.now, refl, c.in-Ok.ensures.ok content told)) in
    handles_one g.D.Disk.bytes g.D.Disk.faults g.D.Disk.faults_at_fetch g.D.Disk.home g.D.Disk.image g.D.Disk.sound g.D.Disk.went (c.args.spot.now ∷ []) _ c.args.disks.now c.spot.inside.leaf c.index-disks-leaf.result c.write_at.new.self
    c.if-leaf-disks.false c.in-Ok.ensures.bytes c.in-Ok.ensures.at_fetch c.in-Ok.ensures.home (λ content told. (_, c.in-Ok.ensures.ok content told)) c.in-Ok.ensures.sound c.in-Ok.ensures.count.ok (λ e. cc) (λ other. c.in-Ok.ensures.count.ok) outside
    (writes_ranges g.D.Disk.went (c.args.spot.now ∷ []) c.spot.inside.leaf (written_of spot.at (length c.args.bytes.now)) (get_or c.args.disks.now c.spot.inside.leaf c.index-disks-leaf.result) c.write_at.new.self g.met.D.Disk.went_then c.in-Ok.ensures.went
    (lies_in spot c.args.spot.now (length c.args.bytes.now) c.spot.view_is c.requires.whole, tt))

pub returns-in-Err-clause-handled : goal.returns-in-Err-clause-handled
returns-in-Err-clause-handled g c =
    let spot : Spot = record { leaf = c.spot.inside.leaf; at = c.spot.inside.at; span = c.spot.inside.span } in
    let outside : TellOutside g.D.Disk.image (c.args.spot.now ∷ []) c.args.disks.now (set c.args.disks.now c.spot.inside.leaf c.write_at.new.self) =
    stored_outside g.D.Disk.image g.D.Disk.bytes c.args.disks.now spot c.args.spot.now (length c.args.bytes.now) c.index-disks-leaf.result c.write_at.new.self c.spot.view_is c.if-leaf-disks.false
    (g.met.D.Disk.has_size (get_or c.args.disks.now c.spot.inside.leaf c.index-disks-leaf.result)) c.requires.whole c.requires.lies c.in-Err.ensures.failed in
    handles_one g.D.Disk.bytes g.D.Disk.faults g.D.Disk.faults_at_fetch g.D.Disk.home g.D.Disk.image g.D.Disk.sound g.D.Disk.went (c.args.spot.now ∷ []) _ c.args.disks.now c.spot.inside.leaf c.index-disks-leaf.result c.write_at.new.self
    c.if-leaf-disks.false c.in-Err.ensures.bytes c.in-Err.ensures.at_fetch c.in-Err.ensures.home (λ content told. (let torn = c.in-Err.ensures.failed content told in (_, torn.2))) c.in-Err.ensures.sound tt (λ e. c.in-Err.ensures.count.failed) (λ other. absurd (other refl)) outside
    (writes_ranges g.D.Disk.went (c.args.spot.now ∷ []) c.spot.inside.leaf (written_of spot.at (length c.args.bytes.now)) (get_or c.args.disks.now c.spot.inside.leaf c.index-disks-leaf.result) c.write_at.new.self g.met.D.Disk.went_then c.in-Err.ensures.went
    (lies_in spot c.args.spot.now (length c.args.bytes.now) c.spot.view_is c.requires.whole, tt))
