use Rattle.std.proofs.Common.{take, sym, subst, ◌∙◌}
use Rattle.std.proofs.lemmas.Bool.{false≢true}
use Rattle.std.proofs.lemmas.List.{take_all, take_more}
use Rattle.zio_blocks.specs.Choosers.{AreLeft}
use Rattle.zio_blocks.proofs.ChooserLemmas.{GaveBack, gave_more, next_live}
use Rattle.zio_blocks.proofs.chooser.SpaceChooser.give_back.Goals as goal

pub prove-unreachable-requires : goal.prove-unreachable-requires
prove-unreachable-requires c =
    let there = next_live c.args.self.now c.loop-place.self c.args.places.now c.loop-place.place-index _ c.loop-place.invariant c.loop-place-test.true c.requires.live c.requires.apart in
    false≢true (sym c.if-prove.true ∙ c.is_live.ensures.live.1 there)

pub loop-place-preserved : goal.loop-place-preserved
loop-place-preserved c =
    let there = next_live c.args.self.now c.loop-place.self c.args.places.now c.loop-place.place-index _ c.loop-place.invariant c.loop-place-test.true c.requires.live c.requires.apart in
    subst (GaveBack c.args.self.now c.give_back.new.self) (sym (take_more c.args.places.now c.loop-place.place-index _ c.loop-place-test.true))
    (gave_more c.args.self.now c.loop-place.self c.give_back.new.self (take c.loop-place.place-index c.args.places.now) _ c.loop-place.invariant c.is_live.ensures.sound there
    c.give_back.ensures.live c.give_back.ensures.pending c.give_back.ensures.sizes c.give_back.ensures.entries c.give_back.ensures.sound)

pub returns-clause-live : goal.returns-clause-live
returns-clause-live c =
    subst (λ given. AreLeft c.args.self.now.live given c.loop-place.self.live)
    (take_all c.loop-place.place-index c.args.places.now c.loop-place-test.false) c.loop-place.invariant.left
