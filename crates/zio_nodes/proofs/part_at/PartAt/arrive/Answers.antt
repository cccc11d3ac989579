use Rattle.std.proofs.Common.{Option, ap, arith, inl, inr, subst, sym}
use Rattle.zio_types.specs.declared.error.Errno.{Errno}
use Rattle.zio_trace.specs.Tasks.{Value}
use Rattle.zio_frames.specs.Moves.{heard_of}
use Rattle.zio_exchange.specs.Outcomes.{IsOutcome}
use Rattle.zio_stages.specs.PartNodes.{HearsValueAt, IsAnsweredBy, IsPartNode}
use Rattle.zio_stages.specs.Sealed.{Outcome}
use Rattle.zio_stages.specs.declared.part.PartOwn.{PartOwn}
use Rattle.zio_stages.specs.declared.write_io.WriteIo.{WriteIo}
use Rattle.zio_nodes.specs.Bounds.{write_left}
use Rattle.zio_nodes.proofs.PartBounds.{part_share, same_share, same_write}
use Rattle.zio_nodes.proofs.PartHearing.{IsHeardPart, hears_found, hears_leaf_or_member, hears_stored, leaf_stands, member_stands}
use Rattle.zio_nodes.proofs.part_at.PartAt.arrive.Goals as goal

pub unreachable-requires : goal.unreachable-requires
unreachable-requires c =
    let heard : IsHeardPart c.args.outcome = hears_leaf_or_member c.args.tops.now c.args.self.now c.args.child c.args.outcome c.requires.awaited in
    elim c.in-Finished.is [
      | inl f ↦ subst IsHeardPart f.1 heard
      | inr r ↦ elim r [ inl a ↦ subst IsHeardPart a.3 heard | inr w ↦ subst IsHeardPart w.1 heard ]
    ]

pub arrive_leaf-requires-clause-hears : goal.arrive_leaf-requires-clause-hears
arrive_leaf-requires-clause-hears c =
    subst (λ (e : Option Errno). HearsValueAt (IsAnsweredBy e) c.args.self.now.node c.args.child) (sym c.error_of.ensures)
    (hears_found c.args.tops.now c.args.self.now c.args.child c.args.outcome c.in-Found.found c.in-Found.is c.requires.awaited)

pub arrive_stored-requires : goal.arrive_stored-requires
arrive_stored-requires c = hears_stored c.args.tops.now c.args.self.now c.args.child c.args.outcome c.in-Stored.stored c.in-Stored.is c.requires.awaited

pub returns-in-Found-clause-heard : goal.returns-in-Found-clause-heard
returns-in-Found-clause-heard c = λ t st d op v h.
    let shows = subst (λ (o : Outcome). IsOutcome t op o v) c.in-Found.is h.shows in
    subst (λ (u : Value). IsPartNode t c.arrive_leaf.new.self (heard_of st c.args.child d u)) (sym shows.1)
    (c.arrive_leaf.ensures.heard t st d c.in-Found.found (sym c.error_of.ensures) h.there h.now.is)

pub returns-in-Stored-clause-heard : goal.returns-in-Stored-clause-heard
returns-in-Stored-clause-heard c = λ t st d op v h.
    let shows = subst (λ (o : Outcome). IsOutcome t op o v) c.in-Stored.is h.shows in
    subst (λ (u : Value). IsPartNode t c.arrive_stored.new.self (heard_of st c.args.child d u)) (sym shows.1)
    (c.arrive_stored.ensures.heard t st d h.now.is h.there)

pub returns-in-Found-clause-over : goal.returns-in-Found-clause-over
returns-in-Found-clause-over c =
    let at = c.args.self.now in
    let h = c.requires.over in
    let e = c.arrive_leaf.ensures in
    record {
      tops_are = h.tops_are;
      units = h.units;
      over = e.over c.args.tops.now h.over;
      stands = leaf_stands c.args.tops.now at.stage at.is_due at.node.work c.arrive_leaf.new.self.work h.stands e.own e.out;
    }

pub returns-in-Stored-clause-over : goal.returns-in-Stored-clause-over
returns-in-Stored-clause-over c =
    let at = c.args.self.now in
    let h = c.requires.over in
    let e = c.arrive_stored.ensures in
    record {
      tops_are = h.tops_are;
      units = h.units;
      over = e.over c.args.tops.now h.over;
      stands = member_stands c.args.tops.now at.stage at.is_due at.node.work c.arrive_stored.new.self.work h.stands e.far e.io;
    }

pub returns-in-Found-clause-left : goal.returns-in-Found-clause-left
returns-in-Found-clause-left c =
    let at = c.args.self.now in
    let e = c.arrive_leaf.ensures in
    let new = c.arrive_leaf.new.self in
    let own = ap (λ (o : PartOwn). part_share o.part) e.own in
    let write = same_write at.stage at.node.work.io new.work.io e.count e.pass in
    omega (arith, own, write)

pub returns-in-Stored-clause-left : goal.returns-in-Stored-clause-left
returns-in-Stored-clause-left c =
    let at = c.args.self.now in
    let e = c.arrive_stored.ensures in
    let share = same_share at.node.work.own.part c.arrive_stored.new.self.work.own.part e.far.many e.far.path in
    let io = ap (λ (i : Option WriteIo). write_left at.stage i) e.io in
    omega (arith, share, io)
