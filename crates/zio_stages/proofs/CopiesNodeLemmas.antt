-- A node that reads a block's copies: how many children it may have, and its end.
use Rattle.std.proofs.Common.{◌≡◌, ℕ, ◌≤◌, List, [], length, Bool, true, false, Option, Some, None, inr, refl, sym, ap, ◌∙◌, arith}
use Rattle.zio_types.specs.declared.place.Top.{Top}
use Rattle.zio_gang.specs.Attempts.{Terms}
use Rattle.zio_trace.specs.Leaves.{Answer}
use Rattle.zio_trace.specs.Programs.{Ends}
use Rattle.zio_trace.specs.Tasks.{Got}
use Rattle.zio_frames.specs.Frames.{Child, Frame, Inner, Stack, asking, asking_in, left_of}
use Rattle.zio_frames.specs.Moves.{IsEnded}
use Rattle.zio_frames.specs.Slots.{told_in}
use Rattle.zio_stages.specs.NodeIos.{IsAsking, IsReadAt, NoneSits}
use Rattle.zio_stages.specs.ReadIos.{IsReadOver, IsReadStep, outs_when}
use Rattle.zio_stages.specs.declared.family.Layer.TheVariants.{Own}
use Rattle.zio_stages.specs.declared.read_io.ReadIo.{ReadIo}
use Rattle.zio_stages.specs.declared.write_io.IoStep.TheVariants.{End}
use Rattle.zio_stages.proofs.OutMoves.{read_quiet}
use Rattle.zio_stages.proofs.ReadIoLemmas.{read_heard}

outs_few : (good : Option (List ℕ)) (is_out : Bool) (mends : List Bool) → length mends ≤ 12 → length (outs_when good is_out mends) ≤ 12
outs_few None true mends h = omega arith
outs_few None false mends h = omega arith
outs_few (Some bytes) is_out mends h = h

-- two passes over twelve copies, and a repair of each
pub asked_few : (tops : List Top) (w : ReadIo) → IsReadOver tops w → w.asked ≤ 36
asked_few tops w h = omega (arith, h.counted, h.tried, outs_few w.read.good w.read.is_out w.read.mends h.mends)

pub own_frame : (outer : Frame) (inner : Option Inner) → IsAsking Own inner → (inner ≡ None) × (asking_in outer inner ≡ outer)
own_frame outer None h = (refl, refl)
own_frame outer (Some i) h = absurd h

pub read_node_ends : (t : Terms) (tops : List Top) (w : ReadIo) (family : List Child) (st : Stack) (a : Answer) → IsReadAt t Own w family st → IsReadStep tops w End → left_of t (asking st) ≡ Ends (Got a) → IsEnded t st (Got a)
read_node_ends t tops w family st a h end left =
    let own = own_frame st.outer st.inner h.asks in
    let heard = read_heard t w (asking st) (read_quiet tops w (inr end)) h.part in
    record {
      alone = own.0;
      heard = ap (λ (x : Frame). told_in x.slots) (sym own.1) ∙ heard;
      value = ap (left_of t) (sym own.1) ∙ left;
    }

pub none_yet : NoneSits Own []
none_yet = λ k n c e goes at. absurd (cc)
