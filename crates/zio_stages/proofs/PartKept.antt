-- What a part that was written leaves: a pointer that a header can name, and no headers where there is none.
use Rattle.std.proofs.Common.{◌≡◌, Option, refl, subst, sym}
use Rattle.std.specs.Prelude.{IfSome, IsTrue}
use Rattle.zio_blkptr.specs.declared.pointer.Bp.{Bp}
use Rattle.zio_blkptr.specs.Pointers.{FitsTypes, valid}
use Rattle.zio_trace.specs.Tasks.{Stored}
use Rattle.zio_parts.specs.Parts.{PartWriting, stored_at}
use Rattle.zio_parts.specs.declared.parts.Placing.{Placing}
use Rattle.zio_parts.specs.declared.parts.Placing.TheVariants.{Body, Head as HeadDue, Whole, Gang, Nowhere}
use Rattle.zio_parts.specs.declared.parts.StoredPart.{StoredPart}
use Rattle.zio_exchange.specs.Outcomes.{IsKept, stored_as}

abbrev IsNamed : Option Bp → Type 0
IsNamed pointer = IfSome pointer FitsTypes × IfSome pointer (λ bp. IsTrue (valid bp))

kept_at : (placing : Placing) (x : PartWriting) → IsNamed (stored_at placing x).pointer → IsKept (stored_at placing x).pointer (stored_at placing x).heads
kept_at Body x h = refl
kept_at HeadDue x h = refl
kept_at (Whole places) x h = h
kept_at (Gang places) x h = h
kept_at Nowhere x h = refl

pub kept_stored : (x : PartWriting) (stored : StoredPart) → stored_as stored ≡ stored_at x.placing x → IsNamed (stored_at x.placing x).pointer
    → IsKept stored.pointer stored.heads
kept_stored x stored is h =
    subst (λ (s : Stored). IsKept s.pointer s.heads) (sym is) (kept_at x.placing x h)
