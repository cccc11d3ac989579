-- Parts of the work that are out: what may be asked beside them, one more, and one that tells or is answered.
use Rattle.std.proofs.Common.{◌≡◌, ℕ, zero, suc, List, [], ◌∷◌, ◌++◌, length, set, slice_get, Option, Some, Result, Ok, Err, sym, subst, ◌∙◌, arith, length-append, length-set}
use Rattle.std.specs.Prelude.{OnOk}
use Rattle.zio_blkptr.specs.declared.pointer.Bp.{Bp}
use Rattle.zio_gang.specs.Attempts.{Terms}
use Rattle.zio_trace.specs.Plans.{TaskPlan, plan}
use Rattle.zio_trace.specs.Tasks.{Leaf, Find, ReadCopies, WriteCopies, WritePart, ReadHeads, ReadTree, TakePlaces, Attempt, Settle, Task, Value}
use Rattle.zio_frames.specs.Answering.{NextAnswered}
use Rattle.zio_frames.specs.Frames.{Frame, left_of}
use Rattle.zio_frames.specs.Moves.{AsksNext, GoesBeside, GoesBesideAll}
use Rattle.zio_frames.specs.Slots.{AsksBehindSlots, Heard, IsOut, Slot, told_in}
use Rattle.zio_stages.specs.PartsOut.{ArePartsOut, IsPartOp}
use Rattle.zio_stages.proofs.Asking.{asks_next}

goes_beside : (q op : Task) → IsPartOp q → GoesBeside q op
goes_beside (Leaf act) op h = absurd h
goes_beside (Find a) op h = absurd h
goes_beside (ReadCopies repair test len places) op h = tt
goes_beside (WriteCopies bytes places) op h = tt
goes_beside (WritePart attempt p sum copies levels path bytes) op h = tt
goes_beside (ReadHeads look levels path bp) op h = tt
goes_beside (ReadTree tree) op h = tt
goes_beside (TakePlaces tree) op h = absurd h
goes_beside (Attempt attempt p kids) op h = tt
goes_beside (Settle p kids) op h = tt

pub beside_parts : (op : Task) (asked : List Task) (slots : List Slot) → ArePartsOut asked slots → GoesBesideAll op asked slots
beside_parts op [] slots h = tt
beside_parts op (q ∷ asked) [] h = tt
beside_parts op (q ∷ asked) (Heard v ∷ slots) h = beside_parts op asked slots h
beside_parts op (q ∷ asked) (IsOut told ∷ slots) h = (goes_beside q op h.0, beside_parts op asked slots h.1)

-- ---- one more

pub part_out : (op : Task) (told : Option (Option Bp)) (asked : List Task) (slots : List Slot) → length asked ≡ length slots → IsPartOp op
    → ArePartsOut asked slots → ArePartsOut (asked ++ op ∷ []) (slots ++ IsOut told ∷ [])
part_out op told [] [] l is h = (is, tt)
part_out op told [] (s ∷ slots) l is h = absurd (omega arith)
part_out op told (q ∷ asked) [] l is h = absurd (omega arith)
part_out op told (q ∷ asked) (Heard v ∷ slots) l is h = part_out op told asked slots (omega arith) is h
part_out op told (q ∷ asked) (IsOut b ∷ slots) l is h = (h.0, part_out op told asked slots (omega arith) is h.1)

pub one_had : (op : Task) (v : Value) (asked : List Task) (slots : List Slot) → length asked ≡ length slots → ArePartsOut asked slots
    → ArePartsOut (asked ++ op ∷ []) (slots ++ Heard v ∷ [])
one_had op v [] [] l h = tt
one_had op v [] (s ∷ slots) l h = absurd (omega arith)
one_had op v (q ∷ asked) [] l h = absurd (omega arith)
one_had op v (q ∷ asked) (Heard w ∷ slots) l h = one_had op v asked slots (omega arith) h
one_had op v (q ∷ asked) (IsOut b ∷ slots) l h = (h.0, one_had op v asked slots (omega arith) h.1)

pub more_full : {X Y : Type 0} (asked : List X) (slots : List Y) (op : X) (slot : Y) → length asked ≡ length slots
    → length (asked ++ op ∷ []) ≡ length (slots ++ slot ∷ [])
more_full asked slots op slot l = omega (arith, length-append asked (op ∷ []), length-append slots (slot ∷ []))

pub set_full : {X Y : Type 0} (asked : List X) (slots : List Y) (n : ℕ) (slot : Y) → length asked ≡ length slots
    → length asked ≡ length (set slots n slot)
set_full asked slots n slot l = l ∙ sym (length-set slots n slot)

-- ---- one that is out goes on

pub part_heard : (n : ℕ) (v : Value) (asked : List Task) (slots : List Slot) → ArePartsOut asked slots → ArePartsOut asked (set slots n (Heard v))
part_heard n v [] slots h = tt
part_heard n v (q ∷ asked) [] h = tt
part_heard zero v (q ∷ asked) (Heard w ∷ slots) h = h
part_heard zero v (q ∷ asked) (IsOut told ∷ slots) h = h.1
part_heard (suc n) v (q ∷ asked) (Heard w ∷ slots) h = part_heard n v asked slots h
part_heard (suc n) v (q ∷ asked) (IsOut told ∷ slots) h = (h.0, part_heard n v asked slots h.1)

pub part_told : (n : ℕ) (told out : Option (Option Bp)) (asked : List Task) (slots : List Slot) → slice_get slots n ≡ Some (IsOut out)
    → ArePartsOut asked slots → ArePartsOut asked (set slots n (IsOut told))
part_told n told out [] slots e h = tt
part_told n told out (q ∷ asked) [] e h = tt
part_told zero told out (q ∷ asked) (Heard w ∷ slots) e h = absurd (cc)
part_told zero told out (q ∷ asked) (IsOut b ∷ slots) e h = h
part_told (suc n) told out (q ∷ asked) (Heard w ∷ slots) e h = part_told n told out asked slots e h
part_told (suc n) told out (q ∷ asked) (IsOut b ∷ slots) e h = (h.0, part_told n told out asked slots e h.1)

-- ---- what is asked next

pub asks_work : (t : Terms) (x : Frame) (slots : List Slot) (p : TaskPlan Value) (op : Task) → x.slots ≡ slots → p ≡ plan t x.op
    → ArePartsOut x.asked x.slots → AsksBehindSlots slots p op → AsksNext t x op
asks_work t x slots p op same whole parts h =
    let mine : AsksBehindSlots x.slots p op = subst (λ s. AsksBehindSlots s p op) (sym same) h in
    asks_next t x op (subst (λ q. AsksBehindSlots x.slots q op) whole mine) (beside_parts op x.asked x.slots parts)

-- what its plan asks next may be asked beside parts
pub asks_beside : (t : Terms) (x : Frame) (op : Task) → NextAnswered (told_in x.slots) (left_of t x) op → ArePartsOut x.asked x.slots → AsksNext t x op
asks_beside t x op next parts = record { next = next; beside = beside_parts op x.asked x.slots parts }

-- ---- where there was memory

pub on_both : {T E P Q R : Type 0} (r : Result T E) → (P → Q → R) → OnOk r P → OnOk r Q → OnOk r R
on_both (Ok x) f p q = f p q
on_both (Err e) f p q = tt
