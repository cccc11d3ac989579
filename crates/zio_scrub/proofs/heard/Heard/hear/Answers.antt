use Rattle.std.proofs.Common.{◌<◌, List, length, get_or, sym, subst, ap}
use Rattle.zio_scrub.specs.declared.layout.CopyAt.{CopyAt}
use Rattle.zio_scrub.specs.declared.layout.Numbered.{Numbered}
use Rattle.zio_scrub.specs.Reads.{IsAt, no_numbered}
use Rattle.zio_scrub.proofs.HearLemmas.{at_default, at_same}
use Rattle.zio_scrub.proofs.heard.Heard.hear.Goals as goal

pub hear_of-requires-clause-copy : goal.hear_of-requires-clause-copy
hear_of-requires-clause-copy c = λ copy at.
    let cs = c.as_slice.result.now in
    let inside : c.args.answer.ticket < length cs = subst (λ (xs : List CopyAt). c.args.answer.ticket < length xs) (sym c.as_slice.ensures) c.requires.hearable.there in
    let here : IsAt cs c.args.answer.ticket copy = subst (λ (xs : List CopyAt). IsAt xs c.args.answer.ticket copy) (sym c.as_slice.ensures) at in
    ap (λ (x : CopyAt). x.piece) (at_same cs c.args.answer.ticket copy _ here (at_default cs c.args.answer.ticket _ inside))

pub hear_of-requires-clause-piece : goal.hear_of-requires-clause-piece
hear_of-requires-clause-piece c =
    let cs = c.as_slice.result.now in
    let ps = c.as_slice-2.result.now in
    let inside : c.args.answer.ticket < length cs = subst (λ (xs : List CopyAt). c.args.answer.ticket < length xs) (sym c.as_slice.ensures) c.requires.hearable.there in
    let copy = get_or cs c.args.answer.ticket c.index-as_slice-answer.result in
    let at : IsAt c.args.layout.now.copies c.args.answer.ticket copy =
    subst (λ (xs : List CopyAt). IsAt xs c.args.answer.ticket copy) c.as_slice.ensures (at_default cs c.args.answer.ticket c.index-as_slice-answer.result inside) in
    let below : copy.piece < length ps = subst (λ (xs : List Numbered). copy.piece < length xs) (sym c.as_slice-2.ensures) (c.requires.sound.piece c.args.answer.ticket copy at) in
    subst (λ (xs : List Numbered). IsAt xs copy.piece (get_or ps copy.piece no_numbered)) c.as_slice-2.ensures (at_default ps copy.piece no_numbered below)
