use Rattle.std.proofs.Common.{◌≡◌, ◌<◌, ◌^◌, ◌++◌, ◌∷◌, [], length, arith, ap, ◌∙◌, sym, refl, Some, None}
use mathlib.Core.Option.{none}
use Rattle.atomic_table.specs.Table.{step}
use Rattle.zio_book.specs.declared.view.WithHistory.{WithHistory}
use Rattle.zio_book.proofs.Seats.{taken, back, unchanged_inside, counted, count_seat, acted_inside}
use Rattle.zio_book.proofs.book.Book.perform.Goals as goal

pub take_out-kept-requires-clause-slot : goal.take_out-kept-requires-clause-slot
take_out-kept-requires-clause-slot g c = (c.enter.ensures.inside.0, ap (λ m. m.1) c.enter.ensures.inside.2)

pub leave-requires-clause-inside : goal.leave-requires-clause-inside
leave-requires-clause-inside g c =
    let k = c.take_out-kept.result in
    let t = taken g.H.Held.gives g.H.Held.fits c.args.self.now c.args.seat.now c.enter.new.seat k c.enter.ensures.inside c.take_out-kept.ensures.kept in
    let e = back g.H.Held.gives g.H.Held.fits c.args.self.now c.args.seat.now.me.0 c.enter.new.seat.me c.take_out-kept.new.seat.me c.put_back.new.seat.me t.0 k.notes.items None _ _ t.1 c.take_out-kept.ensures.me c.put_back.ensures.me in
    unchanged_inside g.H.Held.gives g.H.Held.fits c.args.self.now c.args.seat.now c.put_back.new.seat _ t.0 k.notes.items k.held c.requires e c.reserve.ensures.items refl t.2

pub fetch_add-number-requires : goal.fetch_add-number-requires
fetch_add-number-requires g c =
    let sized = c.args.self.now.sized in
    let k = c.take_out-kept.result in
    let note = c.act-reply.result.1 in
    let t = taken g.H.Held.gives g.H.Held.fits c.args.self.now c.args.seat.now c.enter.new.seat k c.enter.ensures.inside c.take_out-kept.ensures.kept in
    let kept : WithHistory g.row.H.Denot g.row.H-Note.Denot = record { held = c.act-reply.new.self; notes = c.push_reserved.new.self } in
    let e = back g.H.Held.gives g.H.Held.fits c.args.self.now c.args.seat.now.me.0 c.enter.new.seat.me c.take_out-kept.new.seat.me c.put_back-2.new.seat.me t.0 k.notes.items None (Some kept) ((0, Some k) ∷ []) t.1 c.take_out-kept.ensures.me c.put_back-2.ensures.me in
    let notes : kept.notes.items ≡ k.notes.items ++ note ∷ [] = c.push_reserved.ensures.items ∙ ap (λ l. l ++ note ∷ []) c.reserve.ensures.items in
    let small : length kept.notes.items < 2 ^ 64 = omega arith in (
      c.put_back-2.ensures.table ∙ c.take_out-kept.ensures.table ∙ c.enter.ensures.table ∙ c.requires.table,
      omega arith,
      count_seat g.H.Held.gives c.args.self.now _ _ c.put_back-2.new.seat.me kept note (ap (λ m. m.1) e) (ap (λ m. m.0.inside) e) (notes ∙ ap (λ m. m.0.log ++ note ∷ []) (sym e)) small,
    )

pub leave-requires-2-clause-inside : goal.leave-requires-2-clause-inside
leave-requires-2-clause-inside g c =
    let k = c.take_out-kept.result in
    let note = c.act-reply.result.1 in
    let t = taken g.H.Held.gives g.H.Held.fits c.args.self.now c.args.seat.now c.enter.new.seat k c.enter.ensures.inside c.take_out-kept.ensures.kept in
    let kept : WithHistory g.row.H.Denot g.row.H-Note.Denot = record { held = c.act-reply.new.self; notes = c.push_reserved.new.self } in
    let e = back g.H.Held.gives g.H.Held.fits c.args.self.now c.args.seat.now.me.0 c.enter.new.seat.me c.take_out-kept.new.seat.me c.put_back-2.new.seat.me t.0 k.notes.items None (Some kept) ((0, Some k) ∷ []) t.1 c.take_out-kept.ensures.me c.put_back-2.ensures.me in
    let notes : kept.notes.items ≡ k.notes.items ++ note ∷ [] = c.push_reserved.ensures.items ∙ ap (λ l. l ++ note ∷ []) c.reserve.ensures.items in
    let n = counted g.H.Held.gives g.H.Held.fits c.args.self.now c.args.seat.now.me.0 c.put_back-2.new.seat.me c.fetch_add-number.new.seat.me t.0 c.fetch_add-number.result k.notes.items kept note (step 0 2 1 0 none) e notes c.fetch_add-number.ensures.2 in
    acted_inside g.H.Held.gives g.H.Held.fits c.args.self.now c.args.seat.now c.fetch_add-number.new.seat kept t.0 k.notes.items note k.held c.requires n.0 notes t.2 c.act-reply.ensures.gives
