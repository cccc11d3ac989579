-- A free's own work behind other operations of its node's part: the walk over the block's headers, and then its places are given
-- back, of which the plan tells nothing.
use Rattle.std.specs.Prelude.{◌≡◌, List, [], ◌∷◌, Option, None}
use Rattle.zio_types.specs.Errors.{worst_of}
use Rattle.zio_blkptr.specs.declared.pointer.Bp.{Bp}
use Rattle.zio_gang.specs.declared.tree.Tree.{Tree}
use Rattle.zio_trace.specs.Tasks.{Task, Walked, WalkedBy}
use Rattle.zio_frames.specs.Frames.{Child, Stack}
use Rattle.zio_frames.specs.Slots.{Heard, IsOut, Slot}
use Rattle.zio_stages.specs.OwnParts.{IsBehind}
use Rattle.zio_stages.specs.TreeWorks.{heads_task}
use Rattle.zio_stages.specs.declared.own_free.FreeWalk.{FreeWalk}
use Rattle.zio_stages.specs.declared.own_free.FreeWalk.TheVariants.{Due, Out, Ended}

-- the walk over the headers is so far
abbrev pub IsFreeWalk : Tree → FreeWalk → List Task → List Slot → Type 0
IsFreeWalk tree Due asked slots = (asked ≡ []) × (slots ≡ [])
IsFreeWalk tree Out asked slots = (told : Option (Option Bp)) × (asked ≡ heads_task tree ∷ []) × (slots ≡ IsOut told ∷ [])
IsFreeWalk tree (Ended error) asked slots =
    (walked : Walked) × (asked ≡ heads_task tree ∷ []) × (slots ≡ Heard (WalkedBy walked) ∷ []) × (error ≡ worst_of walked.errors)

-- Behind the operations in front its node's part asked these of the free of this block, and they are so far.
pub record IsOwnFree (now : FreeWalk) (family : List Child) (tree : Tree) (front_asked : List Task) (front : List Slot) (st : Stack) : Type 0 where
  pub asked : List Task
  pub slots : List Slot
  pub children : family ≡ st.children
  pub behind : IsBehind front_asked front asked slots st
  pub walk : IsFreeWalk tree now asked slots
  pub alone : st.inner ≡ None
