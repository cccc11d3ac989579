use Rattle.std.proofs.Common.{◌≡◌, ◌∙◌, ap, refl, sym, subst}
use Rattle.zio_trace.specs.Tasks.{WriteCopies}
use Rattle.zio_frames.specs.Frames.{fresh_frame}
use Rattle.zio_parts.specs.Parts.{PartWriting, places_at}
use Rattle.zio_parts.specs.PartWrites.{handed_by, is_due, with_own}
use Rattle.zio_parts.specs.declared.parts.OwnWrite.TheVariants.{Out as OwnOut}
use Rattle.zio_stages.specs.PartWorks.{IsNoLessFar}
use Rattle.zio_stages.specs.WriteIos.{IsWriteIo}
use Rattle.zio_stages.proofs.PartFar.{far_own}
use Rattle.zio_stages.proofs.PartIos.{over_begins}
use Rattle.zio_stages.proofs.PartMoves.{begins_at}
use Rattle.zio_stages.proofs.part_work.PartWork.begin_header.Goals as goal

pub returns-clause-does : goal.returns-clause-does
returns-clause-does c = λ t f o front family st is h.
    let w = c.args.self.now in
    let x = w.own.part in
    let header = c.hand_out_header-header.result in
    let now : c.hand_out_header-header.new.self.part ≡ with_own x OwnOut = c.hand_out_header-header.ensures.exact ∙ ap (λ s. handed_by s x) (sym c.requires.next.is) in
    let ps : c.from_vec.result ≡ places_at x.placing = c.from_vec.ensures ∙ c.in_ok-places.ensures.items ∙ c.places.ensures in
    begins_at t w _ family f o front st header (places_at x.placing) c.new.result is h c.requires.none (c.hand_out_header-header.ensures.out t o h.asked h.slots h.work.own) (c.alone.ensures ∙ c.filled.ensures) refl
    (ap (λ (y : PartWriting). is_due y.own) now)
    (subst (λ p. IsWriteIo t header c.new.result (fresh_frame (WriteCopies header p))) ps (c.new.ensures.fresh t header))

pub returns-clause-over : goal.returns-clause-over
returns-clause-over c = λ tops family h.
    let w = c.args.self.now in
    let x = w.own.part in
    let now : c.hand_out_header-header.new.self.part ≡ with_own x OwnOut = c.hand_out_header-header.ensures.exact ∙ ap (λ s. handed_by s x) (sym c.requires.next.is) in
    let ps : c.from_vec.result ≡ places_at x.placing = c.from_vec.ensures ∙ c.in_ok-places.ensures.items ∙ c.places.ensures in
    over_begins tops w _ family c.new.result c.from_vec.result c.requires.none h now refl ps c.new.ensures.over

pub returns-clause-far : goal.returns-clause-far
returns-clause-far c =
    let x = c.args.self.now.own.part in
    let now : c.hand_out_header-header.new.self.part ≡ with_own x OwnOut = c.hand_out_header-header.ensures.exact ∙ ap (λ s. handed_by s x) (sym c.requires.next.is) in
    subst (IsNoLessFar x) (sym now) (far_own x OwnOut refl)
