use Rattle.std.proofs.Common.{Option, ap, arith}
use Rattle.zio_stages.specs.declared.write_io.WriteIo.{WriteIo}
use Rattle.zio_nodes.specs.Bounds.{write_left}
use Rattle.zio_nodes.proofs.PartBounds.{same_share}
use Rattle.zio_nodes.proofs.PartHearing.{hears_early, member_stands}
use Rattle.zio_nodes.proofs.part_at.PartAt.arrive_ready.Goals as goal

pub arrive_ready-requires-clause-hears : goal.arrive_ready-requires-clause-hears
arrive_ready-requires-clause-hears c = hears_early c.args.self.now c.args.child c.requires.awaited

pub returns-clause-heard : goal.returns-clause-heard
returns-clause-heard c = λ t st d h. c.arrive_ready.ensures.told t st d h.is h.there

pub returns-clause-over : goal.returns-clause-over
returns-clause-over c = λ tops h.
    let at = c.args.self.now in
    record {
      tops_are = h.tops_are;
      units = h.units;
      over = c.arrive_ready.ensures.over tops h.over;
      stands = member_stands tops at.stage at.is_due at.node.work c.arrive_ready.new.self.work h.stands c.arrive_ready.ensures.far c.arrive_ready.ensures.io;
    }

pub returns-clause-left : goal.returns-clause-left
returns-clause-left c =
    let w = c.args.self.now.node.work in
    let new = c.arrive_ready.new.self.work in
    let share = same_share w.own.part new.own.part c.arrive_ready.ensures.far.many c.arrive_ready.ensures.far.path in
    let io = ap (λ (i : Option WriteIo). write_left c.args.self.now.stage i) c.arrive_ready.ensures.io in
    omega (arith, share, io)
