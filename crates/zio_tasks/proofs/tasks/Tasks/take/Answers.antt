use Rattle.std.proofs.Common.{◌≡◌, ℕ, MatchOption, subst, refl, slice_set}
use Rattle.zio_tasks.specs.Hands.{WasHolding, WasOldest}
use Rattle.zio_tasks.specs.Rule.{after_take}
use Rattle.zio_tasks.specs.Team.{hands_of, hand_at}
use Rattle.zio_tasks.proofs.Passes.{take_pass, take_task, with_part}
use Rattle.zio_tasks.proofs.tasks.Tasks.take.Goals as goal

pub returns-clause-pass : goal.returns-clause-pass
returns-clause-pass g c = (
  take_pass c.args.self.now c.args.pass.now c.place-place.result c.index.result.now c.index_mut.result.now c.take_from.new.part c.requires c.place-place.ensures.within c.index.ensures c.index_mut.ensures.value c.take_from.ensures.seat c.take_from.result c.take_from.ensures.hand,
  refl,
)

pub returns-clause-task : goal.returns-clause-task
returns-clause-task g c =
    let P : ℕ → Type 0 = λ i. MatchOption c.take_from.result ((hands_of (with_part c.args.pass.now c.place-place.result c.take_from.new.part) ≡ hands_of c.args.pass.now) × WasHolding 0 c.args.self.now.passes (hand_at i c.args.pass.now))
    (λ x. (k : ℕ) × (hands_of (with_part c.args.pass.now c.place-place.result c.take_from.new.part) ≡ slice_set (hands_of c.args.pass.now) i (after_take k x (hand_at i c.args.pass.now))) × WasOldest k x c.args.self.now.passes (hand_at i c.args.pass.now)) in
    subst P c.place-place.ensures.is
    (take_task c.args.self.now c.args.pass.now c.place-place.result c.index.result.now c.index_mut.result.now c.take_from.new.part c.requires c.place-place.ensures.within c.index.ensures c.index_mut.ensures.value c.take_from.ensures.seat c.take_from.result c.take_from.ensures.hand)
