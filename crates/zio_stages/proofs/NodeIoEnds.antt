-- A read or a write of copies that a node does within its own part: how it begins and ends.
use Rattle.std.proofs.Common.{◌≡◌, ℕ, List, Option, Some, inr, refl, sym, ap, ◌∙◌}
use Rattle.zio_types.specs.declared.error.Errno.{Errno}
use Rattle.zio_types.specs.declared.place.Top.{Top}
use Rattle.zio_gang.specs.Attempts.{Terms}
use Rattle.zio_trace.specs.Leaves.{Answer}
use Rattle.zio_trace.specs.Programs.{Ends}
use Rattle.zio_trace.specs.Tasks.{Got, Task, Wrote}
use Rattle.zio_frames.specs.Frames.{Child, Frame, Inner, Stack, asking, asking_in, fresh_frame, left_of}
use Rattle.zio_frames.specs.Moves.{Closed, Does, closed, opened}
use Rattle.zio_frames.specs.Slots.{told_in}
use Rattle.zio_stages.specs.NodeIos.{IsReadAt, IsWriteAt, NoneSits, SitsOn}
use Rattle.zio_stages.specs.ReadIos.{IsReadIo, IsReadOutIn, IsReadStep}
use Rattle.zio_stages.specs.WriteIos.{IsOutIn, IsWriteIo, IsWriteStep}
use Rattle.zio_stages.specs.declared.family.Layer.TheVariants.{Within}
use Rattle.zio_stages.specs.declared.read_io.ReadIo.{ReadIo}
use Rattle.zio_stages.specs.declared.write_io.IoStep.TheVariants.{End}
use Rattle.zio_stages.specs.declared.write_io.WriteIo.{WriteIo}
use Rattle.zio_stages.proofs.NodeIoLemmas.{none_sits}
use Rattle.zio_stages.proofs.OutMoves.{read_idle, read_quiet, write_idle, write_quiet}
use Rattle.zio_stages.proofs.ReadIoLemmas.{read_heard}
use Rattle.zio_stages.proofs.WriteIoMoves.{write_heard_all}

-- ---- it begins

pub read_opens : (t : Terms) (w : ReadIo) (family : List Child) (st : Stack) (op : Task) → family ≡ st.children → IsReadIo t w (fresh_frame op) → IsReadAt t Within w family (opened st op)
read_opens t w family st op e h = record { children = e; asks = tt; part = h }

pub write_opens : (t : Terms) (bytes : List ℕ) (w : WriteIo) (family : List Child) (st : Stack) (op : Task) → family ≡ st.children → IsWriteIo t bytes w (fresh_frame op)
    → IsWriteAt t bytes Within w family (opened st op)
write_opens t bytes w family st op e h = record { children = e; asks = tt; part = h }

-- ---- it ends

-- none of its children is left
pub read_leaves_none : (tops : List Top) (w : ReadIo) (family : List Child) → IsReadStep tops w End → SitsOn Within (IsReadOutIn w) family → NoneSits Within family
read_leaves_none tops w family end h = none_sits Within (IsReadOutIn w) family (read_idle tops w (inr end)) h

pub write_leaves_none : (tops : List Top) (w : WriteIo) (family : List Child) → IsWriteStep tops w End → SitsOn Within (IsOutIn w) family → NoneSits Within family
write_leaves_none tops w family end h = none_sits Within (IsOutIn w) family (write_idle tops w (inr end)) h

inner_frame : (outer : Frame) (inner : Option Inner) (i : Inner) → inner ≡ Some i → asking_in outer inner ≡ i.frame
inner_frame outer inner i e = ap (asking_in outer) e

pub read_closes : (t : Terms) (tops : List Top) (w : ReadIo) (family : List Child) (st : Stack) (i : Inner) (a : Answer) → st.inner ≡ Some i → IsReadAt t Within w family st → IsReadStep tops w End
    → left_of t (asking st) ≡ Ends (Got a) → Does t (Closed (Got a)) st (closed st i (Got a))
read_closes t tops w family st i a e h end left =
    let is : asking st ≡ i.frame = inner_frame st.outer st.inner i e in
    (i, e, ap (λ (x : Frame). told_in x.slots) (sym is) ∙ read_heard t w (asking st) (read_quiet tops w (inr end)) h.part, ap (left_of t) (sym is) ∙ left, refl)

pub write_closes : (t : Terms) (bytes : List ℕ) (tops : List Top) (w : WriteIo) (family : List Child) (st : Stack) (i : Inner) (error : Option Errno) → st.inner ≡ Some i → IsWriteAt t bytes Within w family st
    → IsWriteStep tops w End → left_of t (asking st) ≡ Ends (Wrote error) → Does t (Closed (Wrote error)) st (closed st i (Wrote error))
write_closes t bytes tops w family st i error e h end left =
    let is : asking st ≡ i.frame = inner_frame st.outer st.inner i e in
    (i, e, ap (λ (x : Frame). told_in x.slots) (sym is) ∙ write_heard_all t bytes w (asking st) (write_quiet tops w (inr end)) h.part, ap (left_of t) (sym is) ∙ left, refl)
