use Rattle.std.proofs.Common.{arith, subst, MatchOption}
use Rattle.zio_tasks.specs.Team.{IsSettled, TakesOldest}
use Rattle.zio_tasks.proofs.Settling.{settled_passes, settled_task, lent_parts}
use Rattle.zio_tasks.proofs.tasks.Tasks.settle.Goals as goal

pub index-requires : goal.index-requires
index-requires g c = let h = (lent_parts c.args.self.now c.place-place.result c.args.passes.now c.gather-all.new.passes c.requires c.place-place.ensures.within c.gather-all.auto.passes c.gather-all.ensures.passes).0 in omega arith

pub deal-requires-clause-place : goal.deal-requires-clause-place
deal-requires-clause-place g c = (lent_parts c.args.self.now c.place-place.result c.args.passes.now c.gather-all.new.passes c.requires c.place-place.ensures.within c.gather-all.auto.passes c.gather-all.ensures.passes).0

pub deal-requires-clause-passes : goal.deal-requires-clause-passes
deal-requires-clause-passes g c = (lent_parts c.args.self.now c.place-place.result c.args.passes.now c.gather-all.new.passes c.requires c.place-place.ensures.within c.gather-all.auto.passes c.gather-all.ensures.passes).1

pub returns-clause-passes : goal.returns-clause-passes
returns-clause-passes g c =
    settled_passes c.args.self.now c.place-place.result c.args.passes.now c.gather-all.new.passes c.deal.new.passes c.requires c.place-place.ensures.within c.gather-all.result c.take_whole-task.new.part c.gather-all.ensures.hands
    c.gather-all.auto.passes c.deal.auto.passes c.gather-all.ensures.passes c.deal.ensures c.take_whole-task.result c.take_whole-task.ensures.hand

pub returns-clause-task : goal.returns-clause-task
returns-clause-task g c =
    subst (λ i. MatchOption c.take_whole-task.result (IsSettled c.args.self.now.passes i c.args.passes.now c.deal.new.passes) (λ x. TakesOldest c.args.self.now.passes i x c.args.passes.now c.deal.new.passes)) c.place-place.ensures.is
    (settled_task c.args.self.now c.place-place.result c.args.passes.now c.gather-all.new.passes c.deal.new.passes c.requires c.place-place.ensures.within c.gather-all.result c.take_whole-task.new.part c.gather-all.ensures.hands
    c.gather-all.auto.passes c.deal.auto.passes c.gather-all.ensures.passes c.deal.ensures c.take_whole-task.result c.take_whole-task.ensures.hand)
