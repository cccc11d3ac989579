-- The read of a block's copies as a node at a stage.
use Rattle.std.specs.Prelude.{◌≡◌, List, Bool, true, false}
use Rattle.std.specs.List.{AllByRecursion}
use Rattle.zio_types.specs.declared.place.Top.{Top}
use Rattle.zio_masks.specs.declared.stage.Stage.{Stage}
use Rattle.zio_masks.specs.declared.stage.Stage.TheVariants.{Start, ReadBpInit, Ready, VdevIoStart, VdevIoDone, VdevIoAssess, ChecksumVerify, Done}
use Rattle.zio_gang.specs.Attempts.{Terms}
use Rattle.zio_trace.specs.Leaves.{Answer}
use Rattle.zio_trace.specs.Tasks.{Got}
use Rattle.zio_frames.specs.Frames.{Stack}
use Rattle.zio_frames.specs.Slots.{Heard, IsOut, Slot}
use Rattle.zio_stages.specs.CopiesNodes.{IsCopiesNode, IsCopiesOver}
use Rattle.zio_stages.specs.NodeIos.{IsReadDue}
use Rattle.zio_stages.specs.ReadIos.{IsReadStep}
use Rattle.zio_stages.specs.declared.read_io.ReadIo.{ReadIo}
use Rattle.zio_stages.specs.declared.write_io.IoStep.TheVariants.{Child, End}
use Rattle.zio_nodes.specs.declared.copies_at.CopiesAt.{CopiesAt}

-- what was heard of an operation is a leaf's answer
abbrev pub IsAnswerIn : Slot → Type 0
IsAnswerIn (IsOut told) = Unit {0}
IsAnswerIn (Heard v) = (a : Answer) × (v ≡ Got a)

-- The node's part is the read, which heard answers of leaves.
pub record IsCopiesAt (t : Terms) (at : CopiesAt) (st : Stack) : Type 0 where
  pub read : IsCopiesNode t at.node st
  pub answers : AllByRecursion IsAnswerIn st.outer.slots

-- Over these tops, how far the read is at each stage, and whether an operation on a leaf may be due. It stands at no other stage.
abbrev pub ReadStands : List Top → Stage → Bool → ReadIo → Type 0
ReadStands tops Start is_due io = is_due ≡ true
ReadStands tops ReadBpInit is_due io = is_due ≡ true
ReadStands tops Ready is_due io = is_due ≡ true
ReadStands tops VdevIoStart is_due io = is_due ≡ true
ReadStands tops VdevIoDone is_due io = is_due ≡ false → IsReadStep tops io Child → ⊥
ReadStands tops VdevIoAssess is_due io = IsReadDue tops io
ReadStands tops ChecksumVerify is_due io = IsReadStep tops io End
ReadStands tops Done is_due io = IsReadStep tops io End
ReadStands tops _ is_due io = ⊥

-- what its fields owe to each other and to the tops
pub record IsCopiesAtOver (tops : List Top) (at : CopiesAt) : Type 0 where
  pub over : IsCopiesOver tops at.node
  pub stands : ReadStands tops at.stage at.is_due at.node.io
