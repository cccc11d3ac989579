use Rattle.std.proofs.Common.{ℕ, List, Some, None, true, sym, ◌≡◌, ◌∙◌, subst, refl}
use Rattle.zio_gang.specs.HeaderFaults.{Holds, is_garbled}
use Rattle.zio_gang.proofs.HeaderLemmas.{vacant_slot, present_slot, garbled_slot}
use Rattle.zio_gang.proofs.faults.member_at.Goals as goal

pub returns-then-is_vacant : goal.returns-then-is_vacant
returns-then-is_vacant c =
    subst (λ (slot : List ℕ). Holds slot None) c.slot_at-slot.ensures
    (vacant_slot c.slot_at-slot.result.now (sym c.is_vacant.ensures ∙ c.if-is_vacant.true))

pub returns-in-Ok : goal.returns-in-Ok
returns-in-Ok c =
    subst (λ (slot : List ℕ). Holds slot (Some c.in-Ok.bp)) c.slot_at-slot.ensures
    (present_slot c.slot_at-slot.result.now c.in-Ok.bp (sym c.is_vacant.ensures ∙ c.if-is_vacant.false) c.in-Ok.ensures.pointer)

pub returns-in-Err : goal.returns-in-Err
returns-in-Err c = (
  subst (λ (slot : List ℕ). is_garbled slot ≡ true) c.slot_at-slot.ensures
      (garbled_slot c.slot_at-slot.result.now (sym c.is_vacant.ensures ∙ c.if-is_vacant.false) c.in-Err.ensures.pointer),
  refl,
)
