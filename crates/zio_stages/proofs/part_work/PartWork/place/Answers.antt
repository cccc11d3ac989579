use Rattle.std.proofs.Common.{◌∷◌, [], ap, refl, sym, subst, arith}
use Rattle.std.specs.Prelude.{IsTrue}
use Rattle.zio_types.specs.Choices.{Ask}
use Rattle.zio_blkptr.specs.Pointers.{valid}
use Rattle.zio_trace.specs.Tasks.{Find}
use Rattle.zio_parts.specs.Parts.{PartWriting, is_head_due, pointer_over}
use Rattle.zio_exchange.specs.SpaceCalls.{Placed}
use Rattle.zio_stages.specs.PartOwns.{PartAsks}
use Rattle.zio_stages.specs.declared.part_work.PartWork.{PartWork}
use Rattle.zio_stages.proofs.FoundPlaces.{if_chosen}
use Rattle.zio_stages.proofs.PartIos.{no_io}
use Rattle.zio_stages.proofs.PartMoves.{chose_at}
use Rattle.zio_stages.proofs.PartPlacing.{asks_less, over_placed}
use Rattle.zio_stages.proofs.part_work.PartWork.place.Goals as goal

pub found-requires-clause-few : goal.found-requires-clause-few
found-requires-clause-few g c =
    let few = c.in_ok-entry.ensures.answers.few in
    let same = ap (λ (a : Ask). a.copies) c.in_ok-entry.ensures.asked in
    omega (arith, few, same, c.in-Some.ensures.three)

pub hear_places-requires-clause-valid : goal.hear_places-requires-clause-valid
hear_places-requires-clause-valid g c =
    let entry = c.in_ok-entry.entry in
    let x = c.args.self.now.own.part in
    let few = c.in_ok-entry.ensures.answers.few in
    let same = ap (λ (a : Ask). a.copies) c.in_ok-entry.ensures.asked in
    if_chosen (λ ps. IsTrue (valid (pointer_over x (is_head_due x.placing) ps))) entry c.found.result c.found.ensures
    (λ enough. c.in-Some.ensures.valid _ entry c.requires.tops c.requires.units c.in_ok-entry.ensures.answers (ap (λ (a : Ask). a.size) c.in_ok-entry.ensures.asked)
    (omega (arith, enough, same, c.in-Some.ensures.one)) (omega (arith, few, same, c.in-Some.ensures.three)))

pub returns-clause-does : goal.returns-clause-does
returns-clause-does g c =
    let w = c.args.self.now in
    let entry = c.in_ok-entry.entry in (
      Placed entry ∷ [],
      c.in_ok-entry.ensures.made,
      λ t f o front family st is h over.
          chose_at t w _ family f o front st entry c.found.result is h (no_io _ w.own.part w.io family c.in-Some.ensures.own over.io)
          (subst (λ (a : Ask). PartAsks t o h.slots (Find a)) (sym c.in_ok-entry.ensures.asked) (c.in-Some.ensures.asks t o h.asked h.slots h.work.own))
          c.found.ensures (c.hear_places.ensures.heard t o h.asked h.slots entry.asked h.work.own) refl refl
          (ap (λ (x : PartWriting). x.own) c.hear_places.ensures.exact),
      (tt, tt),
    )

pub returns-clause-over : goal.returns-clause-over
returns-clause-over g c = λ family h.
    let w = c.args.self.now in
    let entry = c.in_ok-entry.entry in
    let few = c.in_ok-entry.ensures.answers.few in
    let same = ap (λ (a : Ask). a.copies) c.in_ok-entry.ensures.asked in
    let sized = ap (λ (a : Ask). a.size) c.in_ok-entry.ensures.asked in
    over_placed _ w _ family entry c.found.result c.hear_places.ensures.exact refl refl c.found.ensures c.requires.tops c.requires.units c.in_ok-entry.ensures.answers
    (omega (arith, sized, c.in-Some.ensures.small)) (omega (arith, few, same, c.in-Some.ensures.three)) h

pub returns-clause-left : goal.returns-clause-left
returns-clause-left g c =
    let w = c.args.self.now in
    let v : PartWork = record { own = c.hear_places.new.self; bytes = w.bytes; io = w.io; prio = w.prio; role = w.role } in
    asks_less w v c.found.result c.in-Some.ensures.due c.hear_places.ensures.exact
