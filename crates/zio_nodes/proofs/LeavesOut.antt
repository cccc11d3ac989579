-- How many operations on leaves a node has out.
use Rattle.std.proofs.Common.{◌≡◌, ℕ, suc, ◌≤◌, List, [], ◌∷◌, length, Bool, true, false, Option, Some, None, ap, arith}
use Rattle.zio_types.specs.declared.error.Errno.{Errno}
use Rattle.zio_types.specs.declared.place.Top.{Top}
use Rattle.zio_trace.specs.Keys.{bit}
use Rattle.zio_frames.specs.Frames.{Child}
use Rattle.zio_parts.specs.Parts.{PartWriting}
use Rattle.zio_parts.proofs.WantedLemmas.{copies_few}
use Rattle.zio_stages.specs.OwnReads.{IsOwnOver as IsBodyOver}
use Rattle.zio_stages.specs.PartWorks.{IsIoOver}
use Rattle.zio_stages.specs.ReadIos.{IsReadOver, outs_of_read, outs_when}
use Rattle.zio_stages.specs.RequestNodes.{IsOwnOver}
use Rattle.zio_stages.specs.WriteIos.{outs_in}
use Rattle.zio_stages.specs.declared.own_read.BodyIo.{BodyIo}
use Rattle.zio_stages.specs.declared.read_io.ReadIo.{ReadIo}
use Rattle.zio_stages.specs.declared.request_node.Own.{Own}
use Rattle.zio_stages.specs.declared.request_node.Own.TheVariants.{Claim, Due, Found, Free, Over, Read, Stored, Write}
use Rattle.zio_stages.specs.declared.tree.TreeWork.{TreeWork}
use Rattle.zio_stages.specs.declared.write_io.WriteIo.{WriteIo}
use Rattle.zio_nodes.specs.Nodes.{IsNodeOver}
use Rattle.zio_nodes.specs.Stalls.{leaves_out, outs_among, outs_of, outs_of_body, outs_of_write}
use Rattle.zio_nodes.specs.declared.node.Node.{Node}
use Rattle.zio_nodes.specs.declared.node.Node.TheVariants.{Copies, Empty, Heads, Leaf, Part, Request, Tree}

bit_few : (b : Bool) → bit b ≤ 1
bit_few true = omega arith
bit_few false = omega arith

outs_few : (outs : List Bool) → outs_among outs ≤ length outs
outs_few [] = omega arith
outs_few (out ∷ outs) = omega (arith, bit_few out, outs_few outs)

-- ---- a write

answers_many : (answers : List (Option (Option Errno))) → length (outs_in answers) ≡ length answers
answers_many [] = omega arith
answers_many (None ∷ answers) = ap suc (answers_many answers)
answers_many (Some e ∷ answers) = ap suc (answers_many answers)

write_outs : (tops : List Top) (x : PartWriting) (io : Option WriteIo) (family : List Child) → IsIoOver tops x io family → outs_of_write io ≤ 12
write_outs tops x None family h = omega arith
write_outs tops x (Some io) family h =
    omega (
      arith,
      outs_few (outs_in io.write.answers),
      answers_many io.write.answers,
      h.1.within,
      h.1.places.few,
      copies_few tops io.write.places h.1.places.mirrored,
    )

-- ---- a read

read_many : (good : Option (List ℕ)) (is_out : Bool) (mends : List Bool) → length mends ≤ 12 → length (outs_when good is_out mends) ≤ 12
read_many None true mends h = omega arith
read_many None false mends h = omega arith
read_many (Some bytes) is_out mends h = h

read_outs : (tops : List Top) (w : ReadIo) → IsReadOver tops w → outs_among (outs_of_read w) ≤ 12
read_outs tops w h = omega (arith, outs_few (outs_of_read w), read_many w.read.good w.read.is_out w.read.mends h.mends)

body_outs : (tops : List Top) (tree : TreeWork) (body : Option BodyIo) (family : List Child) → IsBodyOver tops tree body family → outs_of_body body ≤ 12
body_outs tops tree None family h = omega arith
body_outs tops tree (Some b) family h = read_outs tops b.io h.over

-- ---- a node

own_outs : (tops : List Top) (own : Own) (family : List Child) → IsOwnOver tops own family → outs_of own ≤ 12
own_outs tops Due family h = omega arith
own_outs tops (Write w) family h = write_outs tops w.work.own.part w.work.io family h.io
own_outs tops (Stored b) family h = omega arith
own_outs tops (Read w) family h = body_outs tops w.tree w.body family h.0
own_outs tops (Free w) family h = omega arith
own_outs tops (Claim w) family h = omega arith
own_outs tops (Found own) family h = omega arith
own_outs tops Over family h = omega arith

pub few_out : (tops : List Top) (node : Node) → IsNodeOver tops node → leaves_out node ≤ 12
few_out tops (Leaf at) h = omega arith
few_out tops (Copies at) h = read_outs tops at.node.io h.over.over
few_out tops (Heads at) h = omega arith
few_out tops (Part at) h = write_outs tops at.node.work.own.part at.node.work.io at.node.family h.over.io
few_out tops (Tree at) h = omega arith
few_out tops (Request at) h = own_outs tops at.node.own at.node.family h.over.own
few_out tops Empty h = omega arith
