use Rattle.std.proofs.Common.{◌≡◌, IfSome, Option, ap, subst, ◌∙◌}
use Rattle.zio_vqueue.specs.declared.op.Group.{Group}
use Rattle.zio_vqueue.specs.Groups.{after_take}
use Rattle.zio_vqueue.specs.Queues.{Queue, is_queued}
use Rattle.zio_vqueue.proofs.IndexLemmas.{queued_without}
use Rattle.zio_bench.proofs.queue.Numbered.take.Goals as goal

pub invariant_of-self-then-active-gt0 : goal.invariant_of-self-then-active-gt0
invariant_of-self-then-active-gt0 c =
    let q : Queue = c.args.self.now.queue in
    let taken : c.take.new.self ≡ after_take q c.in-Some.group =
    subst (λ (r : Option Group). IfSome r (λ (group : Group). c.take.new.self ≡ after_take q group)) c.in-Some.is c.in_ok-group.ensures.taken in
    record {
      fresh = λ ticket above.
          ap (λ (p : Queue). is_queued ticket p.queued) c.done.ensures ∙ ap (λ (p : Queue). is_queued ticket p.queued) taken
          ∙ queued_without ticket c.in-Some.group.ops q.queued (c.args.self.now.fresh ticket above);
    }

pub invariant_of-self-else-active-gt0 : goal.invariant_of-self-else-active-gt0
invariant_of-self-else-active-gt0 c =
    let q : Queue = c.args.self.now.queue in
    let taken : c.take.new.self ≡ after_take q c.in-Some.group =
    subst (λ (r : Option Group). IfSome r (λ (group : Group). c.take.new.self ≡ after_take q group)) c.in-Some.is c.in_ok-group.ensures.taken in
    record {
      fresh = λ ticket above. ap (λ (p : Queue). is_queued ticket p.queued) taken ∙ queued_without ticket c.in-Some.group.ops q.queued (c.args.self.now.fresh ticket above);
    }
