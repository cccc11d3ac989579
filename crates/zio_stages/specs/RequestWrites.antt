-- A write in an attempt: which stage it may be in.
use Rattle.std.specs.Prelude.{◌≡◌, List, None, IfSome, true}
use Rattle.zio_types.specs.declared.place.Top.{Top}
use Rattle.zio_parts.specs.PartWrites.{is_ready, step_of}
use Rattle.zio_parts.specs.declared.parts.PartStep.TheVariants.{End}
use Rattle.zio_stages.specs.PartOwns.{ShowsOwn}
use Rattle.zio_stages.specs.NodeIos.{IsWriteDue}
use Rattle.zio_stages.specs.PartWorks.{IsIssued, IsMemberNext, IsPlaced, IsWritten, asks_left}
use Rattle.zio_stages.specs.declared.own_write.OwnWrite.{OwnWrite}
use Rattle.zio_stages.specs.declared.request_node.Own.{Own}
use Rattle.zio_stages.specs.declared.request_node.Own.TheVariants.{Claim, Due, Found, Free, Over, Read, Stored, Write}

-- ---- its stages

-- its block is written, and this holds of that
abbrev pub IsWriteWith : (OwnWrite → Type 0) → Own → Type 0
IsWriteWith P Due = ⊥
IsWriteWith P (Write w) = P w
IsWriteWith P (Stored b) = ⊥
IsWriteWith P (Read w) = ⊥
IsWriteWith P (Free w) = ⊥
IsWriteWith P (Claim w) = ⊥
IsWriteWith P (Found own) = ⊥
IsWriteWith P Over = ⊥

abbrev pub IsWrite : Own → Type 0
IsWrite own = IsWriteWith (λ (w : OwnWrite). Unit {0}) own

-- its places were asked for, its members handed out, and its own copies not begun
abbrev pub IsPlacedWrite : Own → Type 0
IsPlacedWrite own = IsWriteWith (λ (w : OwnWrite). IsPlaced (step_of w.work.own.part) × (w.work.io ≡ None)) own

-- no places are to be asked for any more
abbrev pub HasAsked : Own → Type 0
HasAsked own = IsWriteWith (λ (w : OwnWrite). asks_left w.work.own.part.placing ≡ 0) own

-- a member is to be handed out
abbrev pub IsMemberDue : Own → Type 0
IsMemberDue own = IsWriteWith (λ (w : OwnWrite). IsMemberNext (step_of w.work.own.part)) own

-- its own copies are written, or it has no place
abbrev pub IsWrittenWrite : Own → Type 0
IsWrittenWrite own = IsWriteWith (λ (w : OwnWrite). IsWritten w.work) own

-- all of it ended
abbrev pub IsEndOf : Own → Type 0
IsEndOf own = IsWriteWith (λ (w : OwnWrite). ShowsOwn w.work.own End × (w.work.io ≡ None)) own

-- its content is set, and its own copies not begun
abbrev pub IsBegunWrite : Own → Type 0
IsBegunWrite own = IsWriteWith (λ (w : OwnWrite). w.work.io ≡ None) own

-- its pointer is known
abbrev pub IsReadyWrite : Own → Type 0
IsReadyWrite own = IsWriteWith (λ (w : OwnWrite). is_ready w.work.own.part ≡ true) own

-- its own copies were begun, or it has no place
abbrev pub IsIssuedWrite : Own → Type 0
IsIssuedWrite own = IsWriteWith (λ (w : OwnWrite). IsIssued w.work.own.part) own

-- none of its operations on leaves is out, and none can be handed out in this pass
abbrev pub IsDueWrite : List Top → Own → Type 0
IsDueWrite tops own = IsWriteWith (λ (w : OwnWrite). IfSome w.work.io (IsWriteDue tops)) own

-- Whichever stage the first may be in, the second may be.
pub record KeepsStages (a b : Own) : Type 0 where
  pub begun : IsBegunWrite a → IsBegunWrite b
  pub placed : IsPlacedWrite a → IsPlacedWrite b
  pub ready : IsReadyWrite a → IsReadyWrite b
  pub issued : IsIssuedWrite a → IsIssuedWrite b
  pub due : (tops : List Top) → IsDueWrite tops a → IsDueWrite tops b
  pub written : IsWrittenWrite a → IsWrittenWrite b
