use Rattle.std.proofs.Common.{◌≡◌, List, subst, sym}
use Rattle.std.specs.Prelude.{IsPermutation}
use Rattle.std.proofs.lemmas.Result.{IfOk-weaker}
use Rattle.zio_types.specs.declared.place.Place.{Place}
use Rattle.zio_gang.specs.Attempts.{Terms}
use Rattle.zio_trace.specs.Programs.{Ends}
use Rattle.zio_trace.specs.Tasks.{Stored, StoredAs, Task}
use Rattle.zio_frames.specs.Slots.{AllHeard, Slot, left_behind_slots}
use Rattle.zio_parts.specs.Parts.{stored_by}
use Rattle.zio_parts.specs.declared.parts.StoredPart.{StoredPart}
use Rattle.zio_exchange.specs.Outcomes.{places_in, stored_as, stored_places}
use Rattle.zio_stages.specs.PartOwns.{IsPartOwn, WrittenPart, part_plan}
use Rattle.zio_stages.proofs.PartNodeLemmas.{ends_node, holds_node}
use Rattle.zio_stages.proofs.PartPlaces.{part_places}
use Rattle.zio_stages.proofs.part_node.PartNode.take_stored.Goals as goal

pub returns-clause-ended : goal.returns-clause-ended
returns-clause-ended c =
    let node = c.args.self.now in
    IfOk-weaker c.take_stored.result
    (λ (stored : StoredPart). (t : Terms) (o : WrittenPart) (asked : List Task) (slots : List Slot) → IsPartOwn t node.work.own o asked slots → AllHeard slots × (left_behind_slots slots (part_plan t o) ≡ Ends (StoredAs (stored_as stored))))
    _ (λ stored ended t st h. ends_node t node st _ c.requires.none h (ended t h.part h.at.asked h.at.slots h.at.work.own)) c.take_stored.ensures.ended

pub returns-clause-places : goal.returns-clause-places
returns-clause-places c =
    let node = c.args.self.now in
    IfOk-weaker c.take_stored.result (λ (stored : StoredPart). stored_as stored ≡ stored_by node.work.own.part) _
    (λ stored exact t st h.
    subst (λ (ps : List Place). IsPermutation ps (stored_places (stored_as stored))) (sym (holds_node t node st h))
    (subst (λ (x : Stored). IsPermutation (places_in h.at.asked h.at.slots) (stored_places x)) (sym exact)
    (part_places t node.work.own h.part h.at.asked h.at.slots c.requires.end h.at.work.own)))
    c.take_stored.ensures.exact
