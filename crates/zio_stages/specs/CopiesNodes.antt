-- A node that reads a block's copies.
use Rattle.std.specs.Prelude.{◌≡◌, List, length}
use Rattle.zio_types.specs.declared.place.Top.{Top}
use Rattle.zio_gang.specs.Attempts.{Terms}
use Rattle.zio_frames.specs.Frames.{Stack}
use Rattle.zio_stages.specs.NodeIos.{IsReadAt, SitsOn}
use Rattle.zio_stages.specs.ReadIos.{IsReadOutIn, IsReadOver}
use Rattle.zio_stages.specs.declared.copies_node.CopiesNode.{CopiesNode}
use Rattle.zio_stages.specs.declared.family.Layer.TheVariants.{Own}

-- The node's own part is its read, and its children do what that asked.
abbrev pub IsCopiesNode : Terms → CopiesNode → Stack → Type 0
IsCopiesNode t node st = IsReadAt t Own node.io node.family st

-- what its fields owe to each other and to the tops
pub record IsCopiesOver (tops : List Top) (node : CopiesNode) : Type 0 where
  pub over : IsReadOver tops node.io
  pub sits : SitsOn Own (IsReadOutIn node.io) node.family
  pub count : length node.family ≡ node.io.asked
