-- The write of a whole block as a request's own work: what the block's write asks and tells, the request's own work does.
use Rattle.std.proofs.Common.{◌≡◌, ℕ, zero, suc, List, [], ◌∷◌, length, Bool, true, false, nat_le, Option, Some, None, refl, sym, ap, ◌∙◌, subst}
use Rattle.zio_types.specs.declared.place.Place.{Place}
use Rattle.zio_types.specs.Places.{sector_size}
use Rattle.zio_blkptr.specs.declared.pointer.Bp.{Bp}
use Rattle.zio_blkptr.specs.declared.pointer.SumKind.{SumKind}
use Rattle.zio_script.specs.declared.script.Work.{Work}
use Rattle.zio_cksum.specs.Headers.{split_sizes}
use Rattle.zio_gang.specs.Attempts.{Pending, Terms, writing_of}
use Rattle.zio_gang.specs.Writes.{Writing, cut, pointer_to}
use Rattle.zio_trace.specs.Plans.{TaskPlan, gang_stored, header_over, own_stored, plan_body, plan_gang, plan_gang_unless, plan_members, plan_own, plan_write}
use Rattle.zio_trace.specs.Programs.{Ends, Asks, ◌>>=◌, ask}
use Rattle.zio_trace.specs.Tasks.{OwnGot, Stored, StoredAs, Task, Value, WriteCopies, WritePart, found, nowhere, stored, wrote}
use Rattle.zio_trace.specs.Underway.{early}
use Rattle.zio_frames.specs.Answering.{EndsAnswered, NextAnswered}
use Rattle.zio_frames.specs.Slots.{Slot, left_behind_slots, told_in}
use Rattle.zio_stages.specs.OwnParts.{Follows, Foretells}
use Rattle.zio_stages.specs.WrittenBlocks.{IsBlockOf}
use Rattle.zio_stages.specs.PartOwns.{WrittenPart, part_plan}
use Rattle.zio_stages.proofs.EndsWhatever.{EndsSo, so_behind, so_then}
use Rattle.zio_stages.proofs.Within.{ends_first, left_turned, next_within}

-- ---- a block's write ends with what was stored

abbrev IsStored : Value → Type 0
IsStored v = (x : Stored) × (v ≡ StoredAs x)

gang_stores : (places : Option (List Place)) (w : Writing) (below : List ℕ → List ℕ → TaskPlan Value) (path bytes : List ℕ)
    → EndsSo IsStored (plan_gang places w below path bytes)
gang_stores None w below path bytes = (nowhere, refl)
gang_stores (Some places) w below path bytes =
    so_then IsStored (plan_members below path 0 (cut (split_sizes (length bytes)) bytes))
    (λ m. ask (WriteCopies (header_over w places m) places) >>= λ v. Ends (StoredAs (gang_stored w path bytes places m (wrote v))))
    (λ m v. (gang_stored w path bytes places m (wrote v), refl))

refused_stores : (small : Bool) (w : Writing) (below : List ℕ → List ℕ → TaskPlan Value) (path bytes : List ℕ)
    → EndsSo IsStored (plan_gang_unless small w below path bytes)
refused_stores true w below path bytes = (nowhere, refl)
refused_stores false w below path bytes = λ v. gang_stores (found v) w below path bytes

body_stores : (places : Option (List Place)) (w : Writing) (below : List ℕ → List ℕ → TaskPlan Value) (path bytes : List ℕ)
    → EndsSo IsStored (plan_body places w below path bytes)
body_stores (Some places) w below path bytes = λ v. (record { error = wrote v; pointer = Some (pointer_to w places false bytes); heads = [] }, refl)
body_stores None w below path bytes = refused_stores (nat_le (length bytes) sector_size) w below path bytes

write_stores : (t : Terms) (attempt : ℕ) (p : Pending) (sum : SumKind) (copies levels : ℕ) (path bytes : List ℕ)
    → EndsSo IsStored (plan_write t attempt p sum copies levels path bytes)
write_stores t attempt p sum copies zero path bytes =
    λ v. body_stores (found v) (writing_of t attempt p sum copies) (λ below part. Ends (StoredAs nowhere)) path bytes
write_stores t attempt p sum copies (suc levels) path bytes =
    λ v. body_stores (found v) (writing_of t attempt p sum copies) (λ below part. ask (WritePart attempt p sum copies levels below part)) path bytes

pub part_stores : (t : Terms) (o : WrittenPart) → EndsSo IsStored (part_plan t o)
part_stores t o = write_stores t o.attempt o.pending o.sum_kind o.copies o.levels o.path o.bytes

-- ---- whatever both say of an end

pub ends_both : {A : Type 0} (P Q : A → Type 0) (outs : List (Option (Option Bp))) (p : TaskPlan A) → EndsAnswered P outs p → EndsSo Q p
    → EndsAnswered (λ a. P a × Q a) outs p
ends_both P Q [] (Ends a) e s = (e, s)
ends_both P Q (told ∷ outs) (Ends a) e s = (e, s)
ends_both P Q [] (Asks op more) e s = λ v kind. ends_both P Q [] (more v) (e v kind) (s v)
ends_both P Q (told ∷ outs) (Asks op more) e s = λ v kind fits. ends_both P Q outs (more v) (e v kind fits) (s v)

stored_early : (pointer : Option Bp) (v : Value) → (early v ≡ pointer) × IsStored v → (own_stored (stored v)).pointer ≡ pointer
stored_early pointer v h =
    ap (λ (u : Value). (own_stored (stored u)).pointer) h.1.1 ∙ (sym (ap early h.1.1) ∙ h.0)

-- ---- a request's own work is that of its block

-- the block's write, as the request's own work has it
abbrev pub of_block : Terms → WrittenPart → TaskPlan OwnGot
of_block t o = part_plan t o >>= λ v. Ends (own_stored (stored v))

pub own_is_block : (t : Terms) (attempt : ℕ) (p : Pending) (pointers : List (Option Bp)) (o : WrittenPart) → IsBlockOf attempt p pointers o
    → plan_own t attempt p p.request.work pointers ≡ of_block t o
own_is_block t attempt p pointers o h =
    ap (λ (w : Work). plan_own t attempt p w pointers) h.work ∙ ap (λ (x : WrittenPart). of_block t x) (sym h.part)

pub follows_block : (t : Terms) (part : Task) (front : List Slot) (attempt : ℕ) (p : Pending) (pointers : List (Option Bp)) (o : WrittenPart)
    → IsBlockOf attempt p pointers o → Follows t part front (plan_own t attempt p p.request.work pointers) → Follows t part front (part_plan t o)
follows_block t part front attempt p pointers o h follows slots op next =
    follows slots op
    (subst (λ (q : TaskPlan OwnGot). NextAnswered (told_in slots) (left_behind_slots slots q) op) (sym (own_is_block t attempt p pointers o h))
    (next_within slots (part_plan t o) (λ v. Ends (own_stored (stored v))) op next))

pub foretells_block : (t : Terms) (part : Task) (front : List Slot) (attempt : ℕ) (p : Pending) (pointers : List (Option Bp)) (o : WrittenPart)
    → IsBlockOf attempt p pointers o → Foretells t part front (λ (own : OwnGot). own.pointer) (plan_own t attempt p p.request.work pointers)
    → Foretells t part front early (part_plan t o)
foretells_block t part front attempt p pointers o h tells slots pointer ends =
    tells slots pointer
    (subst (λ (q : TaskPlan OwnGot). EndsAnswered (λ (own : OwnGot). own.pointer ≡ pointer) (told_in slots) (left_behind_slots slots q))
    (sym (own_is_block t attempt p pointers o h))
    (subst (λ (q : TaskPlan OwnGot). EndsAnswered (λ (own : OwnGot). own.pointer ≡ pointer) (told_in slots) q)
    (sym (left_turned slots (part_plan t o) (λ v. own_stored (stored v))))
    (ends_first (λ (v : Value). (early v ≡ pointer) × IsStored v) (λ (own : OwnGot). own.pointer ≡ pointer) (told_in slots)
    (left_behind_slots slots (part_plan t o)) (λ v. own_stored (stored v)) (stored_early pointer)
    (ends_both (λ (v : Value). early v ≡ pointer) IsStored (told_in slots) (left_behind_slots slots (part_plan t o)) ends
    (so_behind IsStored slots (part_plan t o) (part_stores t o))))))

pub own_is_stored : (t : Terms) (attempt : ℕ) (p : Pending) (pointers : List (Option Bp)) (o : WrittenPart) (slots : List Slot) (x : Stored)
    → IsBlockOf attempt p pointers o → left_behind_slots slots (part_plan t o) ≡ Ends (StoredAs x)
    → left_behind_slots slots (plan_own t attempt p p.request.work pointers) ≡ Ends (own_stored x)
own_is_stored t attempt p pointers o slots x h ends =
    ap (left_behind_slots slots) (own_is_block t attempt p pointers o h)
    ∙ left_turned slots (part_plan t o) (λ v. own_stored (stored v))
    ∙ ap (λ (q : TaskPlan Value). q >>= λ v. Ends (own_stored (stored v))) ends
