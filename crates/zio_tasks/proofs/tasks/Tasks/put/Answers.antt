use Rattle.std.proofs.Common.{◌≡◌, ℕ, MatchResult, subst, refl, slice_set}
use Rattle.zio_tasks.specs.Hands.{WasHolding}
use Rattle.zio_tasks.specs.Rule.{after_put}
use Rattle.zio_tasks.specs.Team.{hands_of, hand_at}
use Rattle.zio_tasks.proofs.Passes.{put_pass, put_task, with_part}
use Rattle.zio_tasks.proofs.tasks.Tasks.put.Goals as goal

pub returns-clause-pass : goal.returns-clause-pass
returns-clause-pass g c = (
  put_pass c.args.self.now c.args.pass.now c.place-place.result c.index.result.now c.index_mut.result.now c.put_in.new.part c.requires c.place-place.ensures.within c.index.ensures c.index_mut.ensures.value c.put_in.ensures.seat c.put_in.result c.args.task c.put_in.ensures.hand,
  refl,
)

pub returns-clause-task : goal.returns-clause-task
returns-clause-task g c =
    let P : ℕ → Type 0 = λ i. MatchResult c.put_in.result (λ _. hands_of (with_part c.args.pass.now c.place-place.result c.put_in.new.part) ≡ slice_set (hands_of c.args.pass.now) i (after_put c.args.task (hand_at i c.args.pass.now)))
    (λ y. (y ≡ c.args.task) × (hands_of (with_part c.args.pass.now c.place-place.result c.put_in.new.part) ≡ hands_of c.args.pass.now) × WasHolding c.args.self.now.room c.args.self.now.passes (hand_at i c.args.pass.now)) in
    subst P c.place-place.ensures.is
    (put_task c.args.self.now c.args.pass.now c.place-place.result c.index.result.now c.index_mut.result.now c.put_in.new.part c.requires c.place-place.ensures.within c.index.ensures c.index_mut.ensures.value c.put_in.ensures.seat c.put_in.result c.args.task c.put_in.ensures.hand)
