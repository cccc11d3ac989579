-- The block of a write that was reckoned before its stage.
use Rattle.std.specs.Prelude.{◌≡◌, List, None}
use Rattle.zio_types.specs.declared.place.Top.{Top}
use Rattle.zio_gang.specs.Attempts.{Terms}
use Rattle.zio_children.specs.RequestKids.{pointers_of}
use Rattle.zio_exchange.specs.Waits.{pending_of}
use Rattle.zio_frames.specs.Frames.{Child, Stack}
use Rattle.zio_stages.specs.NodeIos.{NoneSits}
use Rattle.zio_stages.specs.OwnWrites.{IsBlockAt, IsIdleAt}
use Rattle.zio_stages.specs.PartWorks.{Front, IsPartOver}
use Rattle.zio_stages.specs.WrittenBlocks.{HaveAllTold}
use Rattle.zio_stages.specs.declared.family.Layer.TheVariants.{Within}
use Rattle.zio_stages.specs.declared.request_node.RequestNode.{RequestNode}
use Rattle.zio_stages.specs.declared.request_write.Block.{Block}

-- The request's children all told their pointers. This is the block of its write, whose content begins with these, and
-- of which nothing is asked.
pub record IsBlockAhead (r : RequestNode) (block : Block) : Type 0 where
  pub told : HaveAllTold r.kids.kids
  pub is : (t : Terms) (f : Front) (family : List Child) (st : Stack) → t.round ≡ r.round → IsIdleAt family f st
      → IsBlockAt t block.work family f r.attempt (pending_of r.waiting) (pointers_of r.kids.kids) st
  pub over : (tops : List Top) (family : List Child) → NoneSits Within family → IsPartOver tops block.work family
  pub none : block.work.io ≡ None
