use Rattle.std.proofs.Common.{arith, ap, subst, All}
use Rattle.zio_book.specs.Books.{IsPassOf, passes_of}
use Rattle.zio_book.proofs.Steps.{gathers}
use Rattle.zio_book.proofs.Closing.{all_init, gather_first, gather_next}
use Rattle.zio_book.proofs.book.Book.gather.Goals as goal

pub loop-seat-init : goal.loop-seat-init
loop-seat-init g c = gather_first c.args.self.now c.args.passes.items c.pop.new.self.items c.in-Some.field-0 (passes_of c.args.self.now) c.in-Some.ensures.items c.requires.counted c.requires.own

pub join_seat-requires : goal.join_seat-requires
join_seat-requires g c =
    let sized = c.args.self.now.sized in
    let x = c.in-Some-pop.field-0 in
    let own = all_init (IsPassOf c.args.self.now) c.pop-in-loop-seat.new.self.items x (subst (All (IsPassOf c.args.self.now)) c.in-Some-pop.ensures.items c.loop-seat.invariant.2) in (
      c.loop-seat.invariant.0.table,
      own.1.table,
      own.1.free,
      omega arith,
      gathers g.H.Held.gives c.args.self.now.table.shared.key _ c.loop-seat.all.me.0 _ x.seat.me.0 (ap (λ v. v.busy) c.loop-seat.invariant.0.view) (ap (λ v. v.inside) c.loop-seat.invariant.0.view) (ap (λ v. v.busy) own.1.view) (ap (λ v. v.inside) own.1.view),
    )

pub loop-seat-preserved : goal.loop-seat-preserved
loop-seat-preserved g c =
    gather_next c.args.self.now c.loop-seat.passes.items c.pop-in-loop-seat.new.self.items c.args.passes.items c.in-Some-pop.field-0 c.loop-seat.all c.join_seat.new.seat (passes_of c.args.self.now) c.in-Some-pop.ensures.items c.loop-seat.invariant.0 c.loop-seat.invariant.1 c.loop-seat.invariant.2
    c.loop-seat.invariant.3 c.loop-seat.invariant.4 c.join_seat.ensures.0 c.join_seat.ensures.2
