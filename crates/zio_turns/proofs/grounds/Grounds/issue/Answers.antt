use Rattle.std.proofs.Common.{◌≡◌, ◌++◌, ap, drop, length, map, rules, take, ◌∙◌}
use Rattle.std.proofs.lemmas.List.{take_at}
use Rattle.zio_turns.proofs.ReadyLemmas.{ready_issued_if}
use Rattle.zio_turns.proofs.grounds.Grounds.issue.Goals as goal

pub returns-clause-ready_still : goal.returns-clause-ready_still
returns-clause-ready_still g c =
    let disks = c.args.self.now.disks in
    let back : take disks.len (c.issue.new.disks ++ drop (length c.issue.new.disks) disks.items) ≡ c.issue.new.disks =
    take_at c.issue.new.disks (drop (length c.issue.new.disks) disks.items) disks.len (search rules) in
    let lent : c.as_mut_slice.result.now ≡ disks.items = search rules in
    ready_issued_if g.D.Disk.image c.args.self.now.setting c.args.self.now.setting.rows
    (map g.D.Disk.bytes disks.items) _ _ _ _ _ _ c.issue.result c.issue.ensures.issued c.issue.ensures.order_still
    (ap (map g.D.Disk.bytes) back ∙ (c.issue.ensures.handled.same.sizes ∙ ap (map g.D.Disk.bytes) lent)) c.requires.ready
