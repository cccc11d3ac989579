use Rattle.std.proofs.Common.{◌≡◌, ℕ, false, IfOk, IfSome, OnErr, Option, Result, Some, None, Ok, Err, refl, ap, ◌∙◌}
use Rattle.zio_vqueue.specs.declared.op.Group.{Group}
use Rattle.zio_vqueue.specs.Groups.{after_take}
use Rattle.zio_vqueue.specs.Queues.{Queue, eligible, is_queued}
use Rattle.zio_vqueue.proofs.IndexLemmas.{queued_without}
use Rattle.zio_tests.proofs.queues.Numbered.take.Goals as goal

-- whatever is taken, a ticket that isn't queued stays so
unqueued : {E : Type 0} (ticket : ℕ) (r : Result (Option Group) E) (old new : Queue) → IfOk r (λ (taken : Option Group). IfSome taken (λ (group : Group). new ≡ after_take old group)) →
    (r ≡ Ok None → (eligible old ≡ None) × (new ≡ old)) → OnErr r (new ≡ old) → is_queued ticket old.queued ≡ false → is_queued ticket new.queued ≡ false
unqueued ticket (Ok (Some group)) old new taken none err h = ap (λ (q : Queue). is_queued ticket q.queued) taken ∙ queued_without ticket group.ops old.queued h
unqueued ticket (Ok None) old new taken none err h = ap (λ (q : Queue). is_queued ticket q.queued) ((none refl).1) ∙ h
unqueued ticket (Err e) old new taken none err h = ap (λ (q : Queue). is_queued ticket q.queued) err ∙ h

pub invariant_of-self : goal.invariant_of-self
invariant_of-self c = record {
  fresh = λ ticket above. unqueued ticket c.take.result c.args.self.now.queue c.take.new.self c.take.ensures.taken c.take.ensures.none c.take.ensures.err (c.args.self.now.fresh ticket above);
}
