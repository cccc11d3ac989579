use Rattle.std.proofs.Common.{List, ap, sym, subst, ◌∙◌}
use Rattle.std.specs.Prelude.{Contains, IsTrue}
use Rattle.std.specs.List.{AllByRecursion}
use Rattle.zio_types.specs.declared.place.Place.{Place}
use Rattle.zio_types.specs.Places.{are_apart}
use Rattle.zio_blocks.specs.Choosers.{AreLeft}
use Rattle.zio_plain.proofs.GroundGiven.{gave_back, taken_apart, taken_live}
use Rattle.zio_plain.proofs.ground.GroundOwnWork.give_back.Goals as goal

pub give_back-requires-clause-live : goal.give_back-requires-clause-live
give_back-requires-clause-live g c =
    subst (AllByRecursion (Contains (g.C.Chooser.live c.args.self.now.chooser))) (sym c.as_slice.ensures) (taken_live c.requires.1.1)

pub give_back-requires-clause-apart : goal.give_back-requires-clause-apart
give_back-requires-clause-apart g c = ap are_apart c.as_slice.ensures ∙ taken_apart c.requires.1.1

pub returns-then-not-is_empty-clause-moves : goal.returns-then-not-is_empty-clause-moves
returns-then-not-is_empty-clause-moves g c = λ named before h.
    let chooser = c.give_back.new.self in
    gave_back (g.C.Chooser.sizes chooser) (g.C.Chooser.used chooser) (g.C.Chooser.live chooser) (g.C.Chooser.given chooser)
    (λ none. (let empty : IsTrue c.is_empty.result = c.is_empty.ensures.1 none in let some = c.if-not-is_empty.true in cc))
    (subst (λ (ps : List Place). AreLeft (g.C.Chooser.live c.args.self.now.chooser) ps (g.C.Chooser.live chooser)) c.as_slice.ensures c.give_back.ensures.live)
    c.give_back.ensures.used c.give_back.ensures.held c.give_back.ensures.given c.give_back.ensures.sizes h
