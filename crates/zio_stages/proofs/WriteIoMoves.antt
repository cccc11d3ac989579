-- The write of a block's copies by operations on leaves: what each call leaves of the part's plan.
use Rattle.std.proofs.Common.{◌≡◌, ℕ, ◌+◌, ◌*◌, ◌<◌, ◌≤◌, List, [], ◌∷◌, length, map, slice_get, Bool, true, false, Option, Some, None, refl, sym, ap, subst, ◌∙◌, arith, length-append, length-set}
use Rattle.zio_types.specs.declared.error.Errno.{Errno}
use Rattle.zio_types.specs.declared.place.Place.{Place}
use Rattle.zio_types.specs.declared.place.Top.{Top}
use Rattle.zio_types.specs.declared.request.Prio.{Prio}
use Rattle.zio_types.specs.Errors.{worst_error}
use Rattle.zio_cksum.specs.Blocks.{spot_in}
use Rattle.zio_cksum.specs.Images.{Setting}
use Rattle.zio_gang.specs.Attempts.{Terms}
use Rattle.zio_trace.specs.Calls.{NextIs, answered_at}
use Rattle.zio_trace.specs.CopyPrograms.{Program, place_error, pass_writing, places_writing, store_each}
use Rattle.zio_trace.specs.Leaves.{Answer, LeafOp, Store}
use Rattle.zio_trace.specs.Plans.{TaskPlan, plan}
use Rattle.zio_trace.specs.Programs.{Ends, ◌>>=◌}
use Rattle.zio_trace.specs.Tasks.{Got, Leaf, Task, Value, WriteCopies, Wrote}
use Rattle.zio_trace.specs.Underway.{early}
use Rattle.zio_frames.specs.Frames.{Frame, fresh_frame, left_of, with_asked, with_slot}
use Rattle.zio_frames.specs.Slots.{Heard, IsOut, told_in}
use Rattle.zio_frames.proofs.SlotMoves.{slots_heard, slots_more}
use Rattle.zio_parts.specs.Answered.{AsksBehind, out_before, out_count}
use Rattle.zio_parts.specs.Copies.{AreMirrored, copies_at, leaves_at, spot_at}
use Rattle.zio_parts.specs.CopyWrites.{AllowsWrite, ShowsWrite, Writing, fresh_write, left_of_write, write_again, write_handed, write_heard, writes_of}
use Rattle.zio_parts.specs.LeafPlans.{writing_plan}
use Rattle.zio_parts.specs.declared.copies.Target.{Target}
use Rattle.zio_parts.specs.declared.copy_write.WriteStep.{WriteStep}
use Rattle.zio_parts.specs.declared.copy_write.WriteStep.TheVariants.{Store as StoreStep, Wait as WaitStep, Retry as RetryStep, End as EndStep}
use Rattle.zio_parts.proofs.PlanLemmas.{planned_answered, planned_next}
use Rattle.zio_parts.proofs.WantedLemmas.{copies_few}
use Rattle.zio_stages.specs.LeafWorks.{IsLeafWork, IsQueuedAs}
use Rattle.zio_stages.specs.LeavesOut.{AsksLeaves, IsWriteIn}
use Rattle.zio_stages.specs.WriteIos.{AsksOfWrite, IsWriteIo, IsWriteOver, IsWriteStep, ShowsOuts, io_of, outs_in}
use Rattle.zio_stages.specs.declared.leaf.LeafWork.{LeafWork}
use Rattle.zio_stages.specs.declared.write_io.IoStep.TheVariants.{Child, End, Retry}
use Rattle.zio_stages.specs.declared.write_io.WriteIo.{WriteIo}
use Rattle.zio_stages.proofs.Asking.{next_answered}
use Rattle.zio_stages.proofs.LeafAsks.{ended_asks}
use Rattle.zio_stages.proofs.OutLemmas.{all_heard, fresh_leaves, leaves_anew, leaves_before, leaves_beside, leaves_heard, leaves_more, leaves_out, write_leaf}
use Rattle.zio_stages.proofs.WriteIoLemmas.{Shown, outs_below, outs_counted, outs_get, outs_more, outs_set, setting_over, write_told}

-- ---- steps

pub write_heard_all : (t : Terms) (bytes : List ℕ) (w : WriteIo) (x : Frame) → out_count (writes_of w.write) ≡ 0 → IsWriteIo t bytes w x → ShowsOuts End x
write_heard_all t bytes w x none h = all_heard (IsWriteIn w.write.retry) w.base (outs_in w.write.answers) x h.leaves (outs_counted w.write.answers ∙ none)

pub step_outs : (t : Terms) (bytes : List ℕ) (w : WriteIo) (x : Frame) (step : WriteStep) → ShowsWrite t.setting bytes w.write step → IsWriteIo t bytes w x → ShowsOuts (io_of step) x
step_outs t bytes w x (StoreStep target) h is = tt
step_outs t bytes w x WaitStep h is = omega (arith, write_told t bytes w x is, h.0)
step_outs t bytes w x RetryStep h is = write_heard_all t bytes w x h.0 is
step_outs t bytes w x (EndStep e) h is = write_heard_all t bytes w x h.0 is

-- ---- nothing of it is written

pub write_fresh : (t : Terms) (bytes : List ℕ) (places : List Place) (prio : Prio)
    → IsWriteIo t bytes (record { write = fresh_write places; prio = prio; base = 0; asked = 0 }) (fresh_frame (WriteCopies bytes places))
write_fresh t bytes places prio = record { op = refl; left = refl; leaves = fresh_leaves (IsWriteIn false) (WriteCopies bytes places); counted = refl }

-- ---- one more is out

pub write_asks_next : (t : Terms) (bytes : List ℕ) (w : WriteIo) (x : Frame) (target : Target) (child : LeafWork) → IsWriteIo t bytes w x → ShowsWrite t.setting bytes w.write (StoreStep target)
    → IsLeafWork t child (fresh_frame (Leaf (Store w.write.retry bytes (spot_at target))))
    → IsQueuedAs w.prio false child → AsksOfWrite t bytes x child w
write_asks_next t bytes w x target child h shows fresh queued =
    let act : LeafOp = Store w.write.retry bytes (spot_at target) in
    let p : Program (Option Errno) = left_of_write t.setting bytes w.write in
    let asks : AsksBehind (length (told_in x.slots)) p act = subst (λ n. AsksBehind n p act) (sym (write_told t bytes w x h)) shows in
    let next : NextIs early (told_in x.slots) (left_of t x) (Leaf act) =
    subst (λ (q : TaskPlan Value). NextIs early (told_in x.slots) q (Leaf act)) (sym h.left) (planned_next Wrote (told_in x.slots) p act asks) in
    record {
      act = act;
      next = record { next = next_answered _ _ _ next; beside = leaves_beside w.write.retry w.base (outs_in w.write.answers) x bytes (spot_at target) h.leaves };
      child_is = fresh;
      queued = queued;
      is_now = refl;
    }

pub write_handed_out : (t : Terms) (bytes : List ℕ) (w : WriteIo) (x : Frame) (op : Task) → IsWriteIo t bytes w x → IsWriteIn w.write.retry op
    → left_of_write t.setting bytes (write_handed w.write) ≡ left_of_write t.setting bytes w.write
    → IsWriteIo t bytes (record { write = write_handed w.write; prio = w.prio; base = w.base; asked = w.asked + 1 }) (with_asked x op (IsOut None))
write_handed_out t bytes w x op h is left =
    let P : Task → Type 0 = IsWriteIn w.write.retry in
    record {
      op = h.op;
      left = slots_more x.slots (plan t x.op) ∙ h.left ∙ ap writing_plan (sym left);
      leaves = subst (λ outs. AsksLeaves P w.base outs (with_asked x op (IsOut None))) (sym (outs_more w.write.answers)) (leaves_more P w.base (outs_in w.write.answers) x op h.leaves is);
      counted = ap (λ n. n + 1) h.counted ∙ sym (length-append x.slots (IsOut None ∷ []));
    }

room_from : (tops : List Top) (x : Writing) (first : WriteStep) → Child ≡ io_of first → AllowsWrite tops x first → length x.answers < length (copies_at tops x.places)
room_from tops x (StoreStep target) e h = h
room_from tops x WaitStep e h = absurd (cc)
room_from tops x RetryStep e h = absurd (cc)
room_from tops x (EndStep f) e h = absurd (cc)

-- where a write is to be handed out fewer are than there are copies
pub write_room : (tops : List Top) (w : WriteIo) → IsWriteStep tops w Child → length w.write.answers < length (copies_at tops w.write.places)
write_room tops w h = room_from tops w.write h.step h.is h.allows

-- ---- one is answered

pub write_hears : (t : Terms) (bytes : List ℕ) (w : WriteIo) (x : Frame) (n m : ℕ) (a : Answer) (error : Option Errno) → n ≡ w.base + m → slice_get w.write.answers m ≡ Some None
    → left_of_write t.setting bytes (write_heard w.write m error) ≡ answered_at (out_before m (writes_of w.write)) a (left_of_write t.setting bytes w.write) → IsWriteIo t bytes w x
    → IsWriteIo t bytes (record { write = write_heard w.write m error; prio = w.prio; base = w.base; asked = w.asked }) (with_slot x n (Heard (Got a)))
write_hears t bytes w x n m a error at is left h =
    let P : Task → Type 0 = IsWriteIn w.write.retry in
    let outs : List Bool = outs_in w.write.answers in
    let is_out : slice_get outs m ≡ Some true = outs_get w.write.answers m is in
    let p : Program (Option Errno) = left_of_write t.setting bytes w.write in
    let v : Value = Got a in
    record {
      op = h.op;
      left =
          sym (slots_heard n v x.slots (plan t x.op) (leaves_out P w.base outs x n m at is_out h.leaves))
          ∙ ap (answered_at _ v) h.left
          ∙ ap (λ k. answered_at k v (writing_plan p)) (leaves_before P w.base outs x n m at h.leaves ∙ outs_below m w.write.answers)
          ∙ planned_answered Wrote (out_before m (writes_of w.write)) v p
          ∙ ap writing_plan (sym left);
      leaves = subst (λ os. AsksLeaves P w.base os (with_slot x n (Heard v))) (sym (outs_set w.write.answers m error)) (leaves_heard P w.base outs x n m v at is_out h.leaves);
      counted = h.counted ∙ sym (length-set x.slots n (Heard v));
    }

-- ---- the second pass

retry_from : (tops : List Top) (x : Writing) (first : WriteStep) → Retry ≡ io_of first → Shown tops x first → Shown tops x RetryStep
retry_from tops x (StoreStep target) e h = absurd (cc)
retry_from tops x WaitStep e h = absurd (cc)
retry_from tops x RetryStep e h = h
retry_from tops x (EndStep f) e h = absurd (cc)

pub write_over_again : (tops : List Top) (w : WriteIo) → IsWriteOver tops w → IsWriteStep tops w Retry → IsWriteOver tops (record { write = write_again w.write; prio = w.prio; base = w.asked; asked = w.asked })
write_over_again tops w over step =
    let due = retry_from tops w.write step.step step.is step.shows (setting_over tops) [] refl in
    let most : length (copies_at tops w.write.places) ≤ 4 * length w.write.places = copies_few tops w.write.places over.places.mirrored in
    record {
      places = over.places;
      within = omega arith;
      counted = omega arith;
      first = λ e. absurd (cc);
      passes = omega (arith, over.counted, over.first due.1, over.within, over.places.few);
    }

pub write_goes_again : (t : Terms) (bytes : List ℕ) (tops : List Top) (w : WriteIo) (x : Frame) → t.setting.tops ≡ tops → IsWriteStep tops w Retry → IsWriteIo t bytes w x
    → IsWriteIo t bytes (record { write = write_again w.write; prio = w.prio; base = w.asked; asked = w.asked }) x
write_goes_again t bytes tops w x e step h =
    let due = retry_from tops w.write step.step step.is step.shows t.setting bytes e in
    record {
      op = h.op;
      left = h.left ∙ ap writing_plan (sym due.2);
      leaves = leaves_anew (IsWriteIn w.write.retry) (IsWriteIn true) w.base w.asked (outs_in w.write.answers) x (write_leaf w.write.retry) (outs_counted w.write.answers ∙ due.0) h.counted h.leaves;
      counted = h.counted;
    }

-- ---- its end

end_from : (tops : List Top) (x : Writing) (first : WriteStep) → End ≡ io_of first → Shown tops x first → (e : Option Errno) × Shown tops x (EndStep e)
end_from tops x (StoreStep target) e h = absurd (cc)
end_from tops x WaitStep e h = absurd (cc)
end_from tops x RetryStep e h = absurd (cc)
end_from tops x (EndStep f) e h = (f, h)

-- a pass over places with leaves doesn't end at once
leaves_ask : (s : Setting) (bytes : List ℕ) (p : Place) (ps : List Place) (leaves : List ℕ) (e : Option Errno) → 1 ≤ length leaves
    → ((store_each true bytes [] (map (spot_in p) leaves) >>= λ errors. Ends (place_error errors)) >>= λ error. places_writing s true bytes (worst_error None error) ps) ≡ Ends e → ⊥
leaves_ask s bytes p ps [] e some is = absurd (omega arith)
leaves_ask s bytes p ps (leaf ∷ leaves) e some is = absurd (cc)

pass_ends : (s : Setting) (bytes : List ℕ) (places : List Place) (e : Option Errno) → AreMirrored s.tops places → pass_writing s true bytes places ≡ Ends e → pass_writing s true bytes places ≡ Ends None
pass_ends s bytes [] e m is = refl
pass_ends s bytes (p ∷ ps) e m is = absurd (leaves_ask s bytes p ps (leaves_at s.tops p) e m.0.least is)

none_left : (tops : List Top) (x : Writing) (step : WriteStep) (e : Option Errno) → AreMirrored tops x.places → Shown tops x (EndStep e) → ((error : Option Errno) → step ≡ EndStep error → ⊥) → Shown tops x step
    → (s : Setting) (bytes : List ℕ) → s.tops ≡ tops → left_of_write s bytes x ≡ Ends None
none_left tops x (StoreStep target) e m h not k s bytes same =
    absurd (ended_asks (out_count (writes_of x)) (left_of_write s bytes x) e (Store x.retry bytes (spot_at target)) (h s bytes same).1 (k s bytes same))
none_left tops x WaitStep e m h not k s bytes same =
    let some : 0 < out_count (writes_of x) = (k s bytes same).0 in
    let none : out_count (writes_of x) ≡ 0 = (h s bytes same).0 in
    absurd (omega arith)
none_left tops x RetryStep e m h not k s bytes same =
    let again : pass_writing s true bytes x.places ≡ left_of_write s bytes x = (k s bytes same).2 in
    sym again ∙ pass_ends s bytes x.places e (subst (λ ts. AreMirrored ts x.places) (sym same) m) (again ∙ (h s bytes same).1)
none_left tops x (EndStep f) e m h not k s bytes same = absurd (not f refl)

pub write_ends : (t : Terms) (bytes : List ℕ) (w : WriteIo) (x : Frame) (error : Option Errno) → IsWriteIo t bytes w x → left_of_write t.setting bytes w.write ≡ Ends error → left_of t x ≡ Ends (Wrote error)
write_ends t bytes w x error h e = h.left ∙ ap writing_plan e

-- no other step is shown where it ended, unless it writes nowhere
pub write_ends_well : (t : Terms) (bytes : List ℕ) (tops : List Top) (w : WriteIo) (x : Frame) (step : WriteStep) → t.setting.tops ≡ tops → AreMirrored tops w.write.places → IsWriteStep tops w End
    → ((error : Option Errno) → step ≡ EndStep error → ⊥) → Shown tops w.write step → IsWriteIo t bytes w x → left_of t x ≡ Ends (Wrote None)
write_ends_well t bytes tops w x step e m end not shows h =
    let ended = end_from tops w.write end.step end.is end.shows in
    write_ends t bytes w x None h (none_left tops w.write step ended.0 m ended.1 not shows t.setting bytes e)
