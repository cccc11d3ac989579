use Rattle.zio_graph.proofs.Grounds.{lawful_tops, new_ready}
use Rattle.zio_graph.proofs.graph.Graph.new.Goals as goal

pub new-requires-clause-lawful : goal.new-requires-clause-lawful
new-requires-clause-lawful g c = lawful_tops c.args.tops c.args.setting c.requires.tops _ c.requires.can

pub invariant_of-result : goal.invariant_of-result
invariant_of-result g c = λ running.
    new_ready g.D.Disk.bytes c.args.setting c.args.disks.items c.args.tops c.in_ok-grounds.grounds c.requires.tops c.requires.can
    (record {
      setting = c.in_ok-grounds.ensures.setting;
      disks_are = c.in_ok-grounds.ensures.disks;
      tops_are = c.in_ok-grounds.ensures.tops;
      space = c.in_ok-grounds.ensures.space;
      leaves = c.in_ok-grounds.ensures.leaves;
      ready = c.in_ok-grounds.ensures.ready;
    })
