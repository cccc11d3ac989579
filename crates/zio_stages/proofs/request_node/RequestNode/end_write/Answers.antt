use Rattle.std.proofs.Common.{sym, subst}
use Rattle.std.specs.Prelude.{IsPermutation}
use Rattle.zio_trace.specs.Tasks.{Stored}
use Rattle.zio_exchange.specs.Outcomes.{places_in, stored_places}
use Rattle.zio_stages.specs.RequestNodes.{IsOwnOver}
use Rattle.zio_stages.specs.RequestWrites.{IsEndOf}
use Rattle.zio_stages.specs.declared.request_node.Own.{Own}
use Rattle.zio_stages.proofs.PartPlaces.{part_places}
use Rattle.zio_stages.proofs.RequestWriteLemmas.{stored_at, stored_over, write_in}
use Rattle.zio_stages.proofs.request_node.RequestNode.end_write.Goals as goal

pub take_stored-requires : goal.take_stored-requires
take_stored-requires c = record { end = (subst IsEndOf c.in-Write.is c.requires).0 }

pub returns-clause-ends : goal.returns-clause-ends
returns-clause-ends c = λ t st h.
    let r = c.args.self.now in
    let w = c.in-Write.field-0 in
    let end = subst IsEndOf c.in-Write.is c.requires in
    let own = write_in t r st w h c.in-Write.is in
    stored_at t r st w c.of.result _ h own end.1 (c.in_ok-stored.ensures.ended t own.part h.own_asked h.own_slots own.is.own) c.of.ensures.own
    (subst (λ (left : Stored). IsPermutation (places_in h.own_asked h.own_slots) (stored_places left)) (sym c.in_ok-stored.ensures.exact)
    (part_places t w.work.own own.part h.own_asked h.own_slots end.0 own.is.own))

pub returns-clause-over : goal.returns-clause-over
returns-clause-over c = λ tops over.
    let family = c.args.self.now.family in
    let end = subst IsEndOf c.in-Write.is c.requires in
    (stored_over tops c.in-Write.field-0 family end.1 (subst (λ (o : Own). IsOwnOver tops o family) c.in-Write.is over), c.of.ensures.going)
