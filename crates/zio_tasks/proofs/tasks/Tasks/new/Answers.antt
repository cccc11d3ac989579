use Rattle.std.proofs.Common.{◌≡◌, ℕ, length, ◌∙◌, ap, arith, sym, subst, slice_index_or}
use lib.ListN.{take, drop}
use mathlib.Core.List.{◌++◌}
use Rattle.zio_tasks.specs.declared.tasks.Tasks.{Tasks}
use Rattle.zio_tasks.specs.Team.{IsNew, IsRecruit}
use Rattle.zio_tasks.proofs.Recruits.{written_back, queue_joined, ready}
use Rattle.zio_tasks.proofs.tasks.Tasks.new.Goals as goal

pub loop-preserved : goal.loop-preserved
loop-preserved g c =
    let len : c.loop.team.len ≡ length c.loop.team.items = omega arith in
    let d = c.in_ok-queue.ensures in
    let same : length c.join_all.new.team ≡ length c.loop.team.items = c.join_all.auto.team ∙ ap length c.as_mut_slice.ensures.value in
    let back : take c.loop.team.len (c.join_all.new.team ++ drop (length c.join_all.new.team) c.loop.team.items) ≡ c.join_all.new.team =
    ap (λ (n : ℕ). take n (c.join_all.new.team ++ drop (length c.join_all.new.team) c.loop.team.items)) len ∙ written_back c.join_all.new.team c.loop.team.items same in
    queue_joined c.args.room c.args.passes c.loop.counter c.loop.queues.items c.push.new.self.items c.in_ok-queue.queue c.loop.team.items c.as_mut_slice.result.now c.join_all.new.team
    (take c.loop.team.len (c.join_all.new.team ++ drop (length c.join_all.new.team) c.loop.team.items))
    d.0 c.loop.invariant.0 c.loop.invariant.1 c.as_mut_slice.ensures.value c.in_ok-push.ensures.items back c.join_all.auto.team c.loop.invariant.2 c.in_ok-join_all.ensures

pub returns-clause-idle : goal.returns-clause-idle
returns-clause-idle g c =
    let ten : c.loop.counter ≡ 10 = omega arith in
    λ k d h.
    let tasks : Tasks g.row.T.Denot = record { queues = c.loop.queues; room = c.args.room; passes = c.args.passes } in
    let is : IsRecruit c.args.room c.args.passes 10 k c.loop.queues.items (slice_index_or c.loop.team.items k d) =
    subst (λ n. IsRecruit c.args.room c.args.passes n k c.loop.queues.items (slice_index_or c.loop.team.items k d)) ten (c.loop.invariant.2 k d h) in
    subst (λ l. IsNew tasks k (slice_index_or l k d)) (sym c.from_vec.ensures) (ready tasks k (slice_index_or c.loop.team.items k d) (c.loop.invariant.0 ∙ ten) is)
