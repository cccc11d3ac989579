use Rattle.std.proofs.Common.{◌≡◌, ◌∙◌, ◌+◌, ◌<◌, refl, ap, sym, subst, Some, List, arith, length}
use Rattle.std.specs.Map.{values_of}
use Rattle.zio_vqueue.specs.declared.op.Op.{Op}
use Rattle.zio_vqueue.specs.declared.spots.Spot.{Spot}
use Rattle.zio_vqueue.specs.Groups.{IsNextGroup, IsRun, IsSpanOf, gap_max}
use Rattle.zio_vqueue.specs.Queues.{AreApart, Queue, active_of, eligible}
use Rattle.zio_vqueue.specs.Spots.{AllFit, AreThere, at_time, first_served, ops_at, timed_of}
use Rattle.zio_vqueue.proofs.MemberLemmas.{members_apart, members_run, members_there}
use Rattle.zio_vqueue.proofs.ServeLemmas.{eligible_alike, there_all, there_served}
use Rattle.zio_vqueue.proofs.TakeLemmas.{admitted_set, all_fit_there, eligible_due, fit_there, members_some, next_group, served_some}
use Rattle.zio_vqueue.proofs.queue.VQueue.take.Goals as goal

pub returns-in_default-clause-none : goal.returns-in_default-clause-none
returns-in_default-clause-none c = λ _.
    let q : Queue = record { queued = ops_at c.self.inside.spots.entries; active = c.self.inside.active; last = c.self.inside.last } in
    (ap eligible (sym c.self.view_is) ∙ sym (c.eligible.ensures ∙ eligible_alike q c.self.inside.waiting c.self.invariant.counted) ∙ c.in_default.is, refl)

pub returns-in_default-first_served-clause-none : goal.returns-in_default-first_served-clause-none
returns-in_default-first_served-clause-none c = λ _.
    let q : Queue = record { queued = ops_at c.self.inside.spots.entries; active = c.self.inside.active; last = c.self.inside.last } in
    let e : eligible q ≡ Some c.in-Some.prio =
    sym (c.eligible.ensures ∙ eligible_alike q c.self.inside.waiting c.self.invariant.counted) ∙ c.in-Some.is in
    absurd (served_some q c.in-Some.prio (timed_of c.self.inside.spots.entries) c.self.inside.spots.entries refl c.self.invariant.indexed e (sym c.first_served.ensures ∙ c.in_default-first_served.is))

pub gather-requires-clause-first : goal.gather-requires-clause-first
gather-requires-clause-first c =
    fit_there (timed_of c.self.inside.spots.entries) c.in-Some-first_served.spot.time c.in-Some-first_served.first c.self.invariant.indexed.fit
    (there_served c.in-Some.prio c.self.inside.last _ c.self.inside.spots.entries (c.in-Some-first_served.spot, c.in-Some-first_served.first) c.self.invariant.indexed
    (sym c.first_served.ensures ∙ c.in-Some-first_served.is))

pub gather-requires-clause-fit : goal.gather-requires-clause-fit
gather-requires-clause-fit c =
    all_fit_there (timed_of c.self.inside.spots.entries) c.self.inside.spots.entries c.self.invariant.indexed.fit (there_all (timed_of c.self.inside.spots.entries) c.self.inside.spots.entries c.self.invariant.indexed)

pub group_of-requires-clause-some : goal.group_of-requires-clause-some
group_of-requires-clause-some c =
    subst (λ (ms : List (Spot × Op)). 0 < length ms) (sym c.deref.ensures.value)
    (members_some c.self.inside.spots.entries c.in_ok-members.members.items c.in-Some-first_served.spot.time c.in-Some-first_served.first c.in_ok-members.ensures)

pub group_of-requires-clause-fit : goal.group_of-requires-clause-fit
group_of-requires-clause-fit c =
    let there : at_time (timed_of c.self.inside.spots.entries) c.in-Some-first_served.spot.time ≡ Some c.in-Some-first_served.first =
    there_served c.in-Some.prio c.self.inside.last _ c.self.inside.spots.entries (c.in-Some-first_served.spot, c.in-Some-first_served.first) c.self.invariant.indexed
    (sym c.first_served.ensures ∙ c.in-Some-first_served.is) in
    subst AllFit (sym c.deref.ensures.value)
    (all_fit_there (timed_of c.self.inside.spots.entries) c.in_ok-members.members.items c.self.invariant.indexed.fit
    (members_there (timed_of c.self.inside.spots.entries) c.self.inside.spots.entries c.in_ok-members.members.items c.in-Some-first_served.spot.time c.in-Some-first_served.first c.self.invariant.indexed there
    c.in_ok-members.ensures))

pub group_of-requires-clause-run : goal.group_of-requires-clause-run
group_of-requires-clause-run c = (
  gap_max c.in-Some-first_served.first.write,
  subst (λ (ms : List (Spot × Op)). IsRun (gap_max c.in-Some-first_served.first.write) (values_of ms)) (sym c.deref.ensures.value)
      (members_run c.self.inside.spots.entries c.in_ok-members.members.items c.in-Some-first_served.spot.time c.in-Some-first_served.first c.in_ok-members.ensures),
)

pub withdraw-requires-clause-there : goal.withdraw-requires-clause-there
withdraw-requires-clause-there c =
    let there : at_time (timed_of c.self.inside.spots.entries) c.in-Some-first_served.spot.time ≡ Some c.in-Some-first_served.first =
    there_served c.in-Some.prio c.self.inside.last _ c.self.inside.spots.entries (c.in-Some-first_served.spot, c.in-Some-first_served.first) c.self.invariant.indexed
    (sym c.first_served.ensures ∙ c.in-Some-first_served.is) in
    subst (AreThere (timed_of c.self.inside.spots.entries)) (sym c.deref-2.ensures.value)
    (members_there (timed_of c.self.inside.spots.entries) c.self.inside.spots.entries c.in_ok-members.members.items c.in-Some-first_served.spot.time c.in-Some-first_served.first c.self.invariant.indexed there
    c.in_ok-members.ensures)

pub withdraw-requires-clause-apart : goal.withdraw-requires-clause-apart
withdraw-requires-clause-apart c =
    let there : at_time (timed_of c.self.inside.spots.entries) c.in-Some-first_served.spot.time ≡ Some c.in-Some-first_served.first =
    there_served c.in-Some.prio c.self.inside.last _ c.self.inside.spots.entries (c.in-Some-first_served.spot, c.in-Some-first_served.first) c.self.invariant.indexed
    (sym c.first_served.ensures ∙ c.in-Some-first_served.is) in
    subst (λ (ms : List (Spot × Op)). AreApart (values_of ms)) (sym c.deref-2.ensures.value)
    (members_apart (timed_of c.self.inside.spots.entries) c.self.inside.spots.entries c.in_ok-members.members.items c.in-Some-first_served.spot.time c.in-Some-first_served.first c.self.invariant.indexed there
    c.in_ok-members.ensures)

pub invariant_of-self : goal.invariant_of-self
invariant_of-self c =
    let q : Queue = record { queued = ops_at c.self.inside.spots.entries; active = c.self.inside.active; last = c.self.inside.last } in
    let e : eligible q ≡ Some c.in-Some.prio =
    sym (c.eligible.ensures ∙ eligible_alike q c.self.inside.waiting c.self.invariant.counted) ∙ c.in-Some.is in
    record {
      indexed = c.withdraw.ensures.indexed;
      counted = c.withdraw.ensures.counted;
      before = c.withdraw.ensures.before c.self.inside.next c.self.invariant.before;
      admitted = rw c.class_number.ensures.value (admitted_set c.self.inside.active c.in-Some.prio (active_of q c.in-Some.prio + 1)
          (omega (arith, (eligible_due q c.in-Some.prio e).1)) c.self.invariant.admitted);
    }

pub returns-clause-group : goal.returns-clause-group
returns-clause-group c =
    let q : Queue = record { queued = ops_at c.self.inside.spots.entries; active = c.self.inside.active; last = c.self.inside.last } in
    let e : eligible q ≡ Some c.in-Some.prio =
    sym (c.eligible.ensures ∙ eligible_alike q c.self.inside.waiting c.self.invariant.counted) ∙ c.in-Some.is in
    subst (λ (x : Queue). IsNextGroup x c.in_ok-group.group) c.self.view_is
    (next_group q (timed_of c.self.inside.spots.entries) c.self.inside.spots.entries c.in_ok-members.members.items c.in-Some-first_served.spot c.in-Some-first_served.first c.in_ok-group.group refl
    c.self.invariant.indexed (e ∙ ap Some (sym c.in_ok-group.ensures.prio))
    (subst (λ p. first_served p c.self.inside.last c.self.inside.spots.entries ≡ Some (c.in-Some-first_served.spot, c.in-Some-first_served.first)) (sym c.in_ok-group.ensures.prio)
    (sym c.first_served.ensures ∙ c.in-Some-first_served.is))
    c.in_ok-members.ensures (c.in_ok-group.ensures.ops ∙ ap values_of c.deref.ensures.value)
    (subst (λ (ms : List (Spot × Op)). IsSpanOf c.in_ok-group.group (values_of ms)) c.deref.ensures.value c.in_ok-group.ensures.span))
