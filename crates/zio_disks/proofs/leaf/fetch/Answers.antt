use Rattle.std.proofs.Common.{◌≡◌, ◌<◌, List, ℕ, [], get_or, length, take, drop, refl, ap, subst, ◌∙◌}
use Rattle.zio_cksum.specs.Images.{Spot, bytes_at, image_of}
use Rattle.zio_disks.proofs.DiskLemmas.{handles_one, kept_outside, tell_at, tell_kept, spot_within, writes_ranges}
use Rattle.zio_disks.proofs.leaf.fetch.Goals as goal

pub returns-in-Ok-clause-told : goal.returns-in-Ok-clause-told
returns-in-Ok-clause-told g c images tell =
    let spot : Spot = record { leaf = c.spot.inside.leaf; at = c.spot.inside.at; span = c.spot.inside.span } in
    let view : spot ≡ c.args.spot.now = c.spot.view_is in
    let within : c.spot.inside.leaf < length c.args.disks.now = spot_within g.D.Disk.bytes c.args.disks.now spot c.args.spot.now (length c.args.buffer.now) view c.requires.some c.requires.lies in
    let there : List ℕ = drop spot.at (image_of images spot.leaf) in
    let read : c.read_at.new.buffer ≡ take (length c.read_at.new.buffer) there =
    c.in-Ok.ensures.read (image_of images spot.leaf) (tell_at g.D.Disk.image c.args.disks.now images spot.leaf c.index-disks-leaf.result tell within) in
    let kept : length c.read_at.new.buffer ≡ length c.args.buffer.now = c.read_at.auto.buffer in (
      subst (λ (s : Spot). c.read_at.new.buffer ≡ bytes_at images s (length c.args.buffer.now)) view (read ∙ ap (λ n. take n there) kept),
      tell_kept g.D.Disk.image c.args.disks.now images spot.leaf c.index-disks-leaf.result c.read_at.new.self c.in-Ok.ensures.image tell,
    )

pub returns-in-Ok-clause-handled : goal.returns-in-Ok-clause-handled
returns-in-Ok-clause-handled g c =
    let within = spot_within g.D.Disk.bytes c.args.disks.now (record { leaf = c.spot.inside.leaf; at = c.spot.inside.at; span = c.spot.inside.span }) c.args.spot.now (length c.args.buffer.now) c.spot.view_is c.requires.some c.requires.lies in
    handles_one g.D.Disk.bytes g.D.Disk.faults g.D.Disk.faults_at_fetch g.D.Disk.home g.D.Disk.image g.D.Disk.sound g.D.Disk.went [] _ c.args.disks.now c.spot.inside.leaf c.index-disks-leaf.result c.read_at.new.self
    within c.in-Ok.ensures.bytes c.in-Ok.ensures.at_fetch c.in-Ok.ensures.home (λ content told. (content, (c.in-Ok.ensures.image content).0 told)) c.in-Ok.ensures.sound c.in-Ok.ensures.count.ok (λ e. cc) (λ other. c.in-Ok.ensures.count.ok)
    (kept_outside g.D.Disk.image [] c.args.disks.now c.spot.inside.leaf c.index-disks-leaf.result c.read_at.new.self c.in-Ok.ensures.image)
    (writes_ranges g.D.Disk.went [] c.spot.inside.leaf [] (get_or c.args.disks.now c.spot.inside.leaf c.index-disks-leaf.result) c.read_at.new.self g.met.D.Disk.went_then c.in-Ok.ensures.went tt)

pub returns-in-Err-clause-handled : goal.returns-in-Err-clause-handled
returns-in-Err-clause-handled g c =
    let within = spot_within g.D.Disk.bytes c.args.disks.now (record { leaf = c.spot.inside.leaf; at = c.spot.inside.at; span = c.spot.inside.span }) c.args.spot.now (length c.args.buffer.now) c.spot.view_is c.requires.some c.requires.lies in
    handles_one g.D.Disk.bytes g.D.Disk.faults g.D.Disk.faults_at_fetch g.D.Disk.home g.D.Disk.image g.D.Disk.sound g.D.Disk.went [] _ c.args.disks.now c.spot.inside.leaf c.index-disks-leaf.result c.read_at.new.self
    within c.in-Err.ensures.bytes c.in-Err.ensures.at_fetch c.in-Err.ensures.home (λ content told. (content, (c.in-Err.ensures.image content).0 told)) c.in-Err.ensures.sound tt (λ e. c.in-Err.ensures.count.failed) (λ other. absurd (other refl))
    (kept_outside g.D.Disk.image [] c.args.disks.now c.spot.inside.leaf c.index-disks-leaf.result c.read_at.new.self c.in-Err.ensures.image)
    (writes_ranges g.D.Disk.went [] c.spot.inside.leaf [] (get_or c.args.disks.now c.spot.inside.leaf c.index-disks-leaf.result) c.read_at.new.self g.met.D.Disk.went_then c.in-Err.ensures.went tt)
