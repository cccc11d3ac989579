-- An operation on a leaf as a node at a stage.
use Rattle.std.specs.Prelude.{◌≡◌, [], Bool, true, false, None}
use Rattle.zio_masks.specs.declared.stage.Stage.{Stage}
use Rattle.zio_masks.specs.declared.stage.Stage.TheVariants.{VdevIoStart, VdevIoDone, VdevIoAssess, Done}
use Rattle.zio_gang.specs.Attempts.{Terms}
use Rattle.zio_frames.specs.Frames.{Stack}
use Rattle.zio_stages.specs.LeafWorks.{IsAnswered, IsDue, IsLeafWork}
use Rattle.zio_stages.specs.declared.leaf.LeafWork.{LeafWork}
use Rattle.zio_stages.specs.declared.leaf.Progress.TheVariants.{Out}
use Rattle.zio_nodes.specs.declared.leaf_at.LeafAt.{LeafAt}

-- what is done of it where it goes to its leaf: its leaf has it, or nothing
abbrev pub IsAskedOrDue : Bool → LeafWork → Type 0
IsAskedOrDue true work = work.stage ≡ Out
IsAskedOrDue false work = IsDue work

-- What is done of it at each stage, and whether its leaf has it. It stands at no other stage.
abbrev pub LeafStands : Stage → Bool → LeafWork → Type 0
LeafStands VdevIoStart is_out work = IsAskedOrDue is_out work
LeafStands VdevIoDone is_out work = IsAnswered work
LeafStands VdevIoAssess is_out work = IsAnswered work
LeafStands Done is_out work = IsAnswered work
LeafStands _ is_out work = ⊥

-- The node's part is the operation, which is so far at its stage, and it has no children.
pub record IsLeafAt (t : Terms) (node : LeafAt) (st : Stack) : Type 0 where
  pub stands : LeafStands node.stage node.is_out node.work
  pub alone : st.inner ≡ None
  pub childless : st.children ≡ []
  pub part : IsLeafWork t node.work st.outer
