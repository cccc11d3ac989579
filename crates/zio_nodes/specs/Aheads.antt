-- What was reckoned of a node before its turn.
use Rattle.std.specs.Prelude.{◌≡◌, ℕ, List, false}
use Rattle.zio_types.specs.declared.request.Kind.TheVariants.{Write}
use Rattle.zio_masks.specs.declared.stage.Stage.TheVariants.{VdevIoDone, WriteCompress}
use Rattle.zio_script.specs.Requests.{kind_of}
use Rattle.zio_stages.specs.BlocksAhead.{IsBlockAhead}
use Rattle.zio_stages.specs.LeafWorks.{IsSumAhead}
use Rattle.zio_stages.specs.declared.request_write.Block.{Block}
use Rattle.zio_nodes.specs.Stalls.{OweNone}
use Rattle.zio_nodes.specs.declared.ahead.Ahead.{Ahead}
use Rattle.zio_nodes.specs.declared.ahead.Ahead.TheVariants.{OfRead, OfWrite}
use Rattle.zio_nodes.specs.declared.leaf_at.LeafAt.{LeafAt}
use Rattle.zio_nodes.specs.declared.node.Node.{Node}
use Rattle.zio_nodes.specs.declared.node.Node.TheVariants.{Leaf, Request}
use Rattle.zio_nodes.specs.declared.request_at.RequestAt.{RequestAt}

-- It is a write at WriteCompress, whose children owe that stage nothing, and this is its block.
pub record FitsBlock (at : RequestAt) (block : Block) : Type 0 where
  pub stage : at.stage ≡ WriteCompress
  pub kind : kind_of at.node.waiting.request.work ≡ Write
  pub none : OweNone WriteCompress at.node.family
  pub is : IsBlockAhead at.node block

-- Its leaf answered, and this is the checksum of what was read.
pub record FitsSum (at : LeafAt) (words : List ℕ) : Type 0 where
  pub stage : at.stage ≡ VdevIoDone
  pub back : at.is_out ≡ false
  pub is : IsSumAhead at.work words

abbrev pub FitsRequest : RequestAt → Ahead → Type 0
FitsRequest at (OfWrite block) = FitsBlock at block
FitsRequest at (OfRead words) = ⊥

abbrev pub FitsLeaf : LeafAt → Ahead → Type 0
FitsLeaf at (OfWrite block) = ⊥
FitsLeaf at (OfRead words) = FitsSum at words

abbrev pub FitsNode : Node → Ahead → Type 0
FitsNode (Request at) ahead = FitsRequest at ahead
FitsNode (Leaf at) ahead = FitsLeaf at ahead
FitsNode _ ahead = ⊥
