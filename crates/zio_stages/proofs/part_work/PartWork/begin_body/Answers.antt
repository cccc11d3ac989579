use Rattle.std.proofs.Common.{◌≡◌, ◌∙◌, ap, refl, sym, subst, true}
use Rattle.zio_trace.specs.Tasks.{WriteCopies}
use Rattle.zio_frames.specs.Frames.{fresh_frame}
use Rattle.zio_parts.specs.Parts.{PartWriting, places_at}
use Rattle.zio_parts.specs.PartWrites.{handed_by, is_due, with_own}
use Rattle.zio_parts.specs.declared.parts.OwnWrite.TheVariants.{Out as OwnOut}
use Rattle.zio_stages.specs.WriteIos.{IsWriteIo}
use Rattle.zio_stages.proofs.PartIos.{over_begins}
use Rattle.zio_stages.proofs.PartMoves.{begins_at}
use Rattle.zio_stages.proofs.PartSteps.{body_next}
use Rattle.zio_stages.proofs.part_work.PartWork.begin_body.Goals as goal

pub returns-clause-does : goal.returns-clause-does
returns-clause-does c = λ t f o front family st is h.
    let w = c.args.self.now in
    let x = w.own.part in
    let due : is_due x.own ≡ true = ap is_due (body_next x.placing x c.requires.next.is).due in
    let now : c.hand_out_body.new.self.part ≡ with_own x OwnOut = c.hand_out_body.ensures.exact ∙ ap (λ s. handed_by s x) (sym c.requires.next.is) in
    let ps : c.from_vec.result ≡ places_at x.placing = c.from_vec.ensures ∙ c.in_ok-places.ensures.items ∙ c.places.ensures in
    begins_at t w _ family f o front st o.bytes (places_at x.placing) c.new.result is h c.requires.none (c.hand_out_body.ensures.out t o h.asked h.slots h.work.own) (sym (h.work.bytes due)) refl
    (ap (λ (y : PartWriting). is_due y.own) now)
    (subst (λ p. IsWriteIo t o.bytes c.new.result (fresh_frame (WriteCopies o.bytes p))) ps (c.new.ensures.fresh t o.bytes))

pub returns-clause-over : goal.returns-clause-over
returns-clause-over c = λ tops family h.
    let w = c.args.self.now in
    let x = w.own.part in
    let now : c.hand_out_body.new.self.part ≡ with_own x OwnOut = c.hand_out_body.ensures.exact ∙ ap (λ s. handed_by s x) (sym c.requires.next.is) in
    let ps : c.from_vec.result ≡ places_at x.placing = c.from_vec.ensures ∙ c.in_ok-places.ensures.items ∙ c.places.ensures in
    over_begins tops w _ family c.new.result c.from_vec.result c.requires.none h now refl ps c.new.ensures.over
