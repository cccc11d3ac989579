-- A part under way as a node in flight: nothing is done, one more of its operations is out, one told, and one was answered.
use Rattle.std.proofs.Common.{◌≡◌, ℕ, suc, ◌+◌, List, [], ◌∷◌, ◌++◌, length, slice_set, Bool, true, false, cond, Option, Some, None, refl, sym, ap, ◌∙◌, arith, length-append}
use Rattle.std.proofs.lemmas.List.{length-set}
use Rattle.zio_blkptr.specs.declared.pointer.Bp.{Bp}
use Rattle.zio_gang.specs.Attempts.{Terms}
use Rattle.zio_trace.specs.Conflicts.{is_single}
use Rattle.zio_trace.specs.Labels.{Labelled}
use Rattle.zio_trace.specs.Plans.{plan}
use Rattle.zio_trace.specs.Programs.{Asks, Ends, Program}
use Rattle.zio_trace.specs.Tasks.{Attempt, Find, Leaf, ReadCopies, ReadHeads, ReadTree, Settle, TakePlaces, Task, Value, WriteCopies, WritePart}
use Rattle.zio_trace.specs.Underway.{call_of, flight_of, plan_at, with_answer, with_out, with_told}
use Rattle.zio_trace.specs.Views.{bare}
use Rattle.zio_trace.proofs.ViewLemmas.{bare_ends, bare_labelled}
use Rattle.zio_frames.specs.Frames.{Frame, flight_at, fresh_frame, left_of, outs_from, with_asked, with_slot}
use Rattle.zio_frames.specs.Slots.{Heard, IsOut, Slot, left_behind_slots, outs_before}
use Rattle.zio_frames.proofs.OutLemmas.{out_gone, out_told, outs_more}
use Rattle.zio_frames.proofs.SlotMoves.{IsOutAt, slots_heard, slots_more, slots_told}

first_next : (b : Bool) → ◌≡◌ {A = ℕ} 0 (cond b 0 0)
first_next true = refl
first_next false = refl

-- nothing is done
pub flight_begins : (t : Terms) (at : List ℕ) (op : Task)
    → flight_of t (record { at = at; op = op }) ≡ flight_at t at (fresh_frame op)
flight_begins t at op = λ i. record {
  op = record { at = at; op = op };
  rest = plan_at t (record { at = at; op = op });
  outs = [];
  next = first_next (is_single op) i;
}

-- ---- one more is out

next_is : (x : Frame) → is_single x.op ≡ false → cond (is_single x.op) 0 (length x.slots) ≡ length x.slots
next_is x e = ap (λ (b : Bool). cond b 0 (length x.slots)) e

pub next_whole : (t : Terms) (at : List ℕ) (x : Frame) → is_single x.op ≡ false → (flight_at t at x).next ≡ length x.slots
next_whole t at x e = next_is x e

pub flight_out : (t : Terms) (at : List ℕ) (x : Frame) (op : Task) → is_single x.op ≡ false → length x.asked ≡ length x.slots
    → with_out (flight_at t at x) op ≡ flight_at t at (with_asked x op (IsOut None))
flight_out t at x op e l =
    let p : Program (Labelled Task) Value Value = plan_at t (record { at = at; op = x.op }) in
    let rest : left_behind_slots x.slots p ≡ left_behind_slots (x.slots ++ IsOut None ∷ []) p = sym (slots_more x.slots p) in
    let number : 0 + length x.slots ≡ length x.slots = omega arith in
    let outs : outs_from at 0 x.asked x.slots ++ call_of at (cond (is_single x.op) 0 (length x.slots)) op ∷ [] ≡ outs_from at 0
    (x.asked ++ op ∷ []) (x.slots ++ IsOut None ∷ []) =
    ap (λ n. outs_from at 0 x.asked x.slots ++ call_of at n op ∷ []) (next_is x e ∙ sym number)
    ∙ sym (outs_more at 0 x.asked x.slots op l) in
    let longer : length (x.slots ++ IsOut None ∷ []) ≡ length x.slots + 1 = length-append x.slots (IsOut None ∷ []) in
    let now : cond (is_single x.op) 0 (length x.slots) ≡ length x.slots = next_is x e in
    let later : cond (is_single x.op) 0 (length (x.slots ++ IsOut None ∷ [])) ≡ length (x.slots ++ IsOut None ∷ []) =
    next_is (with_asked x op (IsOut None)) e in
    let next : suc (cond (is_single x.op) 0 (length x.slots)) ≡ cond (is_single x.op) 0 (length (x.slots ++ IsOut None ∷ [])) =
    omega arith in
    λ i. record { op = record { at = at; op = x.op }; rest = rest i; outs = outs i; next = next i }

-- ---- one told, and one was answered

same_next : (x : Frame) (n : ℕ) (slot : Slot)
    → cond (is_single x.op) 0 (length x.slots) ≡ cond (is_single x.op) 0 (length (slice_set x.slots n slot))
same_next x n slot = ap (λ k. cond (is_single x.op) 0 k) (sym (length-set x.slots n slot))

pub flight_told : (t : Terms) (at : List ℕ) (x : Frame) (n : ℕ) (pointer : Option Bp) → IsOutAt n x.slots
    → with_told (flight_at t at x) (outs_before n x.slots) pointer ≡ flight_at t at (with_slot x n (IsOut (Some pointer)))
flight_told t at x n pointer h =
    let p : Program (Labelled Task) Value Value = plan_at t (record { at = at; op = x.op }) in
    let rest : left_behind_slots x.slots p ≡ left_behind_slots (slice_set x.slots n (IsOut (Some pointer))) p =
    sym (slots_told n (Some pointer) x.slots p h) in
    let outs = out_told at 0 n x.asked x.slots pointer h in
    let next = same_next x n (IsOut (Some pointer)) in
    λ i. record { op = record { at = at; op = x.op }; rest = rest i; outs = outs i; next = next i }

pub flight_heard : (t : Terms) (at : List ℕ) (x : Frame) (n : ℕ) (v : Value) → IsOutAt n x.slots
    → with_answer (flight_at t at x) (outs_before n x.slots) v ≡ flight_at t at (with_slot x n (Heard v))
flight_heard t at x n v h =
    let p : Program (Labelled Task) Value Value = plan_at t (record { at = at; op = x.op }) in
    let rest = slots_heard n v x.slots p h in
    let outs = out_gone at 0 n x.asked x.slots v h in
    let next = same_next x n (Heard v) in
    λ i. record { op = record { at = at; op = x.op }; rest = rest i; outs = outs i; next = next i }

-- ---- what is left of it

pub bare_behind : {A : Type 0} (slots : List Slot) (p : Program (Labelled Task) Value A)
    → bare (left_behind_slots slots p) ≡ left_behind_slots slots (bare p)
bare_behind [] p = refl
bare_behind (x ∷ slots) (Ends a) = refl
bare_behind (Heard v ∷ slots) (Asks x more) = bare_behind slots (more v)
bare_behind (IsOut told ∷ slots) (Asks x more) = λ i. Asks x.op (λ v. bare_behind slots (more v) i)

bare_plan : (t : Terms) (at : List ℕ) (op : Task) → bare (plan_at t (record { at = at; op = op })) ≡ plan t op
bare_plan t at (Leaf act) = refl
bare_plan t at (Find a) = refl
bare_plan t at (TakePlaces tree) = refl
bare_plan t at (ReadCopies repair test len places) = bare_labelled at 0 (plan t (ReadCopies repair test len places))
bare_plan t at (WriteCopies bytes places) = bare_labelled at 0 (plan t (WriteCopies bytes places))
bare_plan t at (WritePart attempt p sum copies levels path bytes) =
    bare_labelled at 0 (plan t (WritePart attempt p sum copies levels path bytes))
bare_plan t at (ReadHeads look levels path bp) = bare_labelled at 0 (plan t (ReadHeads look levels path bp))
bare_plan t at (ReadTree tree) = bare_labelled at 0 (plan t (ReadTree tree))
bare_plan t at (Attempt attempt p kids) = bare_labelled at 0 (plan t (Attempt attempt p kids))
bare_plan t at (Settle p kids) = bare_labelled at 0 (plan t (Settle p kids))

pub bare_rest : (t : Terms) (at : List ℕ) (x : Frame) → bare (flight_at t at x).rest ≡ left_of t x
bare_rest t at x =
    bare_behind x.slots (plan_at t (record { at = at; op = x.op })) ∙ ap (left_behind_slots x.slots) (bare_plan t at x.op)

pub rest_ends : (t : Terms) (at : List ℕ) (x : Frame) (v : Value) → left_of t x ≡ Ends v → (flight_at t at x).rest ≡ Ends v
rest_ends t at x v e = bare_ends (flight_at t at x).rest v (bare_rest t at x ∙ e)
