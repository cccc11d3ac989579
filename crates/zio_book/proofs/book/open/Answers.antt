use Rattle.std.proofs.Common.{◌≡◌, ◌++◌, ◌∷◌, [], arith, ap, ◌∙◌, sym, subst, Some, List, Option}
use Rattle.atomic_table.specs.Table.{opening}
use Rattle.zio_book.specs.declared.view.WithHistory.{WithHistory}
use Rattle.zio_book.specs.declared.view.Birth.{Birth}
use Rattle.zio_book.specs.Rule.{idle, Booked}
use Rattle.zio_book.proofs.Steps.{begins}
use Rattle.zio_book.proofs.book.open.Goals as goal

pub new-requires-2 : goal.new-requires-2
new-requires-2 g c =
    let kept : WithHistory g.row.H.Denot g.row.H-Note.Denot = record { held = c.args.held; notes = c.new.result } in
    let about : Birth g.row.H.Denot = record { first = c.of.result; passes = c.args.passes } in
    let items : c.push.new.self.items ≡ Some kept ∷ [] = c.in_default.ensures.items ∙ ap (λ l. l ++ Some kept ∷ []) c.new-slots.ensures.items in
    subst (λ (l : List (Option (WithHistory g.row.H.Denot g.row.H-Note.Denot))). Booked g.H.Held.gives about (opening (0 ∷ 0 ∷ 0 ∷ []) l (idle c.args.passes [] [] (Some c.of.result.value)))) (sym items)
    (begins g.H.Held.gives about kept c.new.ensures.items (sym c.of.ensures) (omega arith))
