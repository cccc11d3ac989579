use Rattle.std.proofs.Common.{◌≡◌, List, Option, sym, ap, subst, ◌∙◌}
use Rattle.std.specs.Prelude.{IfSome, IsTrue}
use Rattle.zio_blkptr.specs.declared.pointer.Bp.{Bp}
use Rattle.zio_blkptr.specs.Pointers.{FitsTypes, valid}
use Rattle.zio_gang.specs.Attempts.{Terms}
use Rattle.zio_trace.specs.Programs.{Ends}
use Rattle.zio_trace.specs.Tasks.{Stored, StoredAs, Task}
use Rattle.zio_frames.specs.Slots.{AllHeard, Slot, left_behind_slots}
use Rattle.zio_parts.specs.Parts.{PartWriting, stored_by}
use Rattle.zio_parts.specs.declared.parts.StoredPart.{StoredPart}
use Rattle.zio_exchange.specs.Outcomes.{stored_as}
use Rattle.zio_stages.specs.PartOwns.{IsPartOwn, WrittenPart, part_plan}
use Rattle.zio_stages.proofs.PartKept.{kept_stored}
use Rattle.zio_stages.proofs.PartOwnMoves.{left_behind_of, own_ended}
use Rattle.zio_stages.proofs.part.PartOwn.take_stored.Goals as goal

-- what the part that was taken out left
left_by : (taken part : PartWriting) (stored : StoredPart) → taken ≡ part → stored.error ≡ (stored_by taken).error
    → stored.pointer ≡ (stored_by taken).pointer → stored.heads ≡ (stored_by taken).heads → stored_as stored ≡ stored_by part
left_by taken part stored is error pointer heads =
    left_behind_of (stored_by taken) stored (λ x. x ≡ stored_by part) (ap stored_by is) error pointer heads

pub returns-in-Ok-clause-exact : goal.returns-in-Ok-clause-exact
returns-in-Ok-clause-exact c =
    left_by c.replace.result c.args.self.now.part c.in-Ok.stored c.replace.ensures.value c.in-Ok.ensures.error c.in-Ok.ensures.pointer c.in-Ok.ensures.heads

pub returns-in-Ok-clause-ended : goal.returns-in-Ok-clause-ended
returns-in-Ok-clause-ended c =
    let w = c.args.self.now in
    let Left : Stored → Type 0 = λ x. (t : Terms) (o : WrittenPart) (asked : List Task) (slots : List Slot) → IsPartOwn t w o asked slots →
    AllHeard slots × (left_behind_slots slots (part_plan t o) ≡ Ends (StoredAs x)) in
    subst Left (sym (returns-in-Ok-clause-exact c)) (λ t o asked slots h. own_ended t w o asked slots c.requires h)

pub returns-in-Ok-clause-valid : goal.returns-in-Ok-clause-valid
returns-in-Ok-clause-valid c =
    subst (λ (p : Option Bp). IfSome p (λ bp. IsTrue (valid bp)))
    (c.pointer-told.ensures.stored ∙ ap (λ (x : Stored). x.pointer) (sym (returns-in-Ok-clause-exact c))) c.pointer-told.ensures.valid

pub returns-in-Ok-clause-kept : goal.returns-in-Ok-clause-kept
returns-in-Ok-clause-kept c =
    kept_stored c.args.self.now.part c.in-Ok.stored (returns-in-Ok-clause-exact c) (
      subst (λ (p : Option Bp). IfSome p FitsTypes) c.pointer-told.ensures.stored c.fits_types.ensures,
      subst (λ (p : Option Bp). IfSome p (λ bp. IsTrue (valid bp))) c.pointer-told.ensures.stored c.pointer-told.ensures.valid,
    )
