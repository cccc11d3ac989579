-- Reads of copies and walks over headers have no pointer, whatever they are answered.
use Rattle.std.proofs.Common.{◌≡◌, ℕ, zero, suc, List, Bool, true, false, Option, Some, None, Ok, Err, refl, sym, ap, ◌∙◌, subst}
use Rattle.zio_types.specs.declared.error.Errno.{Errno}
use Rattle.zio_types.specs.declared.error.Errno.TheVariants.{Cksum}
use Rattle.zio_types.specs.declared.place.Place.{Place}
use Rattle.zio_blkptr.specs.declared.pointer.Bp.{Bp}
use Rattle.zio_cksum.specs.Headers.{members_of}
use Rattle.zio_gang.specs.Attempts.{Terms}
use Rattle.zio_trace.specs.CopyPrograms.{block_reading}
use Rattle.zio_trace.specs.Leaves.{Answer}
use Rattle.zio_trace.specs.Plans.{TaskPlan, by_leaves, head_task, plan, plan_below, plan_found, plan_pointer, stopped, under_head}
use Rattle.zio_trace.specs.Programs.{Ends, ◌>>=◌, ask}
use Rattle.zio_trace.specs.Tasks.{Got, Look, ReadCopies, ReadHeads, Task, Test, Value, WalkedBy, good_by, got, visit_of}
use Rattle.zio_trace.specs.Underway.{early}
use Rattle.zio_frames.specs.Frames.{Frame, Stack}
use Rattle.zio_frames.specs.Moves.{WillHave}
use Rattle.zio_frames.specs.Slots.{left_behind_slots, told_in}
use Rattle.zio_stages.specs.CopiesNodes.{IsCopiesNode}
use Rattle.zio_stages.specs.HeadsNodes.{IsHeadsNode}
use Rattle.zio_stages.specs.declared.copies_node.CopiesNode.{CopiesNode}
use Rattle.zio_stages.specs.declared.heads_node.HeadsNode.{HeadsNode}
use Rattle.zio_parts.specs.HeadWalks.{look_of}
use Rattle.zio_stages.proofs.CopiesNodeLemmas.{own_frame}
use Rattle.zio_stages.proofs.EndsWhatever.{EndsSo, so_answered, so_behind, so_then}

abbrev NoPointer : Value → Type 0
NoPointer v = early v ≡ None

found_none : (down : List ℕ → Bp → Task) (path : List ℕ) (found : Answer) → EndsSo NoPointer (plan_found down path found)
found_none down path (Err e) = refl
found_none down path (Ok bytes) = so_then NoPointer (plan_below down path 0 (members_of bytes)) (λ w. Ends (WalkedBy (under_head path bytes w))) (λ w. refl)

pointer_none : (judged : Option Errno) (gang : Bool) (bp : Bp) (follow : TaskPlan Value) → EndsSo NoPointer follow → EndsSo NoPointer (plan_pointer judged gang bp follow)
pointer_none (Some e) gang bp follow h = refl
pointer_none None false bp follow h = refl
pointer_none None true bp follow h = h

walk_none : (t : Terms) (look : Look) (levels : ℕ) (path : List ℕ) (bp : Bp) → EndsSo NoPointer (plan t (ReadHeads look levels path bp))
walk_none t look zero path bp = pointer_none ((visit_of t.setting look).judge bp) bp.gang bp (Ends (WalkedBy (stopped Cksum))) refl
walk_none t look (suc levels) path bp =
    pointer_none ((visit_of t.setting look).judge bp) bp.gang bp (ask (head_task look path bp) >>= λ v. plan_found (ReadHeads look levels) path (got v))
    (λ v. found_none (ReadHeads look levels) path (got v))

copies_none : (t : Terms) (repair : Bool) (test : Test) (len : ℕ) (places : List Place) → EndsSo NoPointer (plan t (ReadCopies repair test len places))
copies_none t repair test len places = so_then NoPointer (by_leaves (block_reading t.setting repair (good_by test) len places)) (λ a. Ends (Got a)) (λ a. refl)

will_none : (t : Terms) (x : Frame) (op : Task) → x.op ≡ op → EndsSo NoPointer (plan t op) → WillHave t x None
will_none t x op is h =
    so_answered NoPointer (told_in x.slots) (left_behind_slots x.slots (plan t x.op))
    (so_behind NoPointer x.slots (plan t x.op) (subst (λ (q : Task). EndsSo NoPointer (plan t q)) (sym is) h))

pub heads_have_none : (t : Terms) (node : HeadsNode) (st : Stack) → IsHeadsNode t node st → WillHave t st.outer None
heads_have_none t node st h =
    let w = node.work.walk in
    let look : Look = look_of w.claim h.part.heads in
    will_none t st.outer (ReadHeads look w.levels w.path w.bp) h.part.op (walk_none t look w.levels w.path w.bp)

pub copies_have_none : (t : Terms) (node : CopiesNode) (st : Stack) → IsCopiesNode t node st → WillHave t st.outer None
copies_have_none t node st h =
    let own = own_frame st.outer st.inner h.asks in
    let w = node.io.read in
    will_none t st.outer (ReadCopies w.repair node.io.check w.len w.places)
    (ap (λ (x : Frame). x.op) (sym own.1) ∙ h.part.op) (copies_none t w.repair node.io.check w.len w.places)
