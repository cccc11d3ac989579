use Rattle.std.proofs.Common.{map, sym, subst}
use Rattle.zio_cksum.specs.Images.{Setting}
use Rattle.zio_outside.specs.Outside.{Keeps}
use Rattle.zio_disks.proofs.DiskLemmas.{same_itself}
use Rattle.zio_disks.specs.Whole.{IsWholeTree}
use Rattle.zio_scrub.specs.Pieces.{trees_of}
use Rattle.zio_command.specs.Grounds.{IsSettingOf}
use Rattle.zio_command.specs.Seen.{sink_by}
use Rattle.zio_command.proofs.ScrubLemmas.{all_scrubbed, blocks_in, cut_scrub, over_blocks, pool_at}
use Rattle.zio_command.proofs.scrub.scrub_bound.Goals as goal

pub scrub_pool-requires-clause-can : goal.scrub_pool-requires-clause-can
scrub_pool-requires-clause-can g c =
    let sizes = map g.D.Disk.bytes c.args.disks.now in
    let s : Setting = record { tops = c.setting.inside.tops; rows = c.setting.inside.table.rows; point = c.setting.inside.point } in
    let at : Setting = record { tops = c.setting.inside.tops; rows = c.setting.inside.table.rows; point = c.args.point } in
    let is : IsSettingOf c.args.script.now sizes s = subst (λ (k : Setting). IsSettingOf c.args.script.now sizes k) (sym c.setting.view_is) c.in-Ok.ensures.setting in
    c.blocks_of_a_pool_can_be_scrubbed.ensures at sizes (trees_of c.args.bound.now) (pool_at s sizes c.args.point is.pool c.requires.measured)
    (blocks_in at c.args.bound.now (over_blocks c.args.script.now sizes s IsWholeTree c.args.bound.now is c.requires.pool))

pub returns-in-Ok-clause-whole : goal.returns-in-Ok-clause-whole
returns-in-Ok-clause-whole g c =
    let seen = sink_by g.O.Sink.holds g.O.Sink.faults in
    let sizes = map g.D.Disk.bytes c.args.disks.now in
    let s : Setting = record { tops = c.setting.inside.tops; rows = c.setting.inside.table.rows; point = c.setting.inside.point } in
    let is : IsSettingOf c.args.script.now sizes s = subst (λ (k : Setting). IsSettingOf c.args.script.now sizes k) (sym c.setting.view_is) c.in-Ok.ensures.setting in
    let ran = c.scrub_pool.ensures in
    all_scrubbed g.D.Disk.bytes g.D.Disk.faults g.D.Disk.faults_at_fetch g.D.Disk.home g.D.Disk.image g.D.Disk.sound g.D.Disk.went c.args.script.now s c.args.point
    (trees_of c.args.bound.now) c.args.disks.now c.scrub_pool.new.disks (seen c.args.out.now) (seen c.scrub_pool.new.out) is c.scrub_pool.result ran.told ran.good ran.steady
    ran.handled

pub returns-in-Ok-clause-stopped : goal.returns-in-Ok-clause-stopped
returns-in-Ok-clause-stopped g c =
    let seen = sink_by g.O.Sink.holds g.O.Sink.faults in
    let sizes = map g.D.Disk.bytes c.args.disks.now in
    let s : Setting = record { tops = c.setting.inside.tops; rows = c.setting.inside.table.rows; point = c.setting.inside.point } in
    let is : IsSettingOf c.args.script.now sizes s = subst (λ (k : Setting). IsSettingOf c.args.script.now sizes k) (sym c.setting.view_is) c.in-Ok.ensures.setting in
    let ran = c.scrub_pool.ensures in
    cut_scrub g.D.Disk.bytes g.D.Disk.faults g.D.Disk.faults_at_fetch g.D.Disk.home g.D.Disk.image g.D.Disk.sound g.D.Disk.went c.args.script.now s c.args.point
    (trees_of c.args.bound.now) c.args.disks.now c.scrub_pool.new.disks (seen c.args.out.now) (seen c.scrub_pool.new.out) is c.scrub_pool.result ran.front
    (λ other err. subst (λ o. Keeps (g.O.Sink.holds c.args.out.now) (g.O.Sink.holds o)) (sym (ran.unwritten other err)) (λ x. (λ h. h, λ h. h))) ran.rose ran.handled

pub returns-clause-same : goal.returns-clause-same
returns-clause-same g c = same_itself g.D.Disk.bytes g.D.Disk.faults g.D.Disk.faults_at_fetch g.D.Disk.home g.D.Disk.image g.D.Disk.sound c.args.disks.now
