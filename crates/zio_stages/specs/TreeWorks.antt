-- The read of a block as a part of a larger plan: the walk over its headers, and then its bodies.
use Rattle.std.specs.Prelude.{◌≡◌, List, [], ◌∷◌, ◌++◌, length, true, None, Result, Ok, Err}
use Rattle.zio_types.specs.declared.error.Errno.{Errno}
use Rattle.zio_blkptr.specs.declared.pointer.Bp.{Bp}
use Rattle.zio_blkptr.specs.Pointers.{places_of}
use Rattle.zio_gang.specs.declared.tree.Tree.{Tree}
use Rattle.zio_gang.specs.Trees.{header_levels_max}
use Rattle.zio_trace.specs.Plans.{plan_tree}
use Rattle.zio_trace.specs.Tasks.{BodyOf, ByKept, ReadCopies, ReadHeads, Task, Walked, WalkedBy}
use Rattle.zio_frames.specs.Answering.{NextAnswered}
use Rattle.zio_frames.specs.Slots.{Heard, IsOut, Slot, left_behind_slots, told_in}
use Rattle.zio_parts.specs.TreeReads.{Reading, bodies_or, reading_from, slots_of}
use Rattle.zio_parts.specs.declared.tree_read.Phase.{Phase}
use Rattle.zio_parts.specs.declared.tree_read.Phase.TheVariants.{Unread, Out, Failed, Found}
use Rattle.zio_stages.specs.PartsOut.{ArePartsOut}
use Rattle.zio_stages.specs.declared.tree.TreeWork.{TreeWork}

-- the walk over a block's headers, and the read of a body
abbrev pub heads_task : Tree → Task
heads_task tree = ReadHeads (ByKept tree.heads) header_levels_max [] tree.bp

abbrev pub body_task : Bp → Task
body_task bp = ReadCopies true (BodyOf bp) bp.size (places_of bp)

-- the walk that was heard stands before the bodies
abbrev pub walk_before : Phase → Walked → List Slot
walk_before Unread walked = []
walk_before Out walked = []
walk_before (Failed error) walked = Heard (WalkedBy walked) ∷ []
walk_before Found walked = Heard (WalkedBy walked) ∷ []

-- the bodies that it knows of once a walk left this
abbrev pub bodies_if : Result (List Bp) Errno → List Bp → List Bp
bodies_if (Ok bodies) before = bodies
bodies_if (Err e) before = before

abbrev pub bodies_after : List Bp → Walked → List Bp
bodies_after before walked = bodies_if (bodies_or walked) before

-- all that its plan asked, where the walk left this if it was heard
abbrev pub slots_with : Walked → Reading → List Slot
slots_with walked x = walk_before x.phase walked ++ slots_of x

-- It is so far in the read of this block, whose plan asked these so far. The walk left this, once it was heard.
pub record IsTreeWork (w : TreeWork) (tree : Tree) (asked : List Task) (slots : List Slot) : Type 0 where
  pub walked : Walked
  pub bp : w.read.bp ≡ tree.bp
  pub shown : slots ≡ slots_with walked w.read
  pub left : reading_from tree.heads w.read ≡ left_behind_slots (walk_before w.read.phase walked) (plan_tree tree)
  pub full : length asked ≡ length slots
  pub out : ArePartsOut asked slots

-- its plan asks this behind what is out, whatever that is answered
abbrev pub TreeAsks : Tree → List Slot → Task → Type 0
TreeAsks tree slots op = NextAnswered (told_in slots) (left_behind_slots slots (plan_tree tree)) op

-- the operation is asked next, and is out then
abbrev pub HandsRead : TreeWork → Tree → List Task → List Slot → Task → Type 0
HandsRead now tree asked slots op = TreeAsks tree slots op × IsTreeWork now tree (asked ++ op ∷ []) (slots ++ IsOut None ∷ [])

-- the walk is asked next, first of all, and left this at once
pub record WalksRead (now : TreeWork) (tree : Tree) (asked : List Task) (slots : List Slot) (walked : Walked) : Type 0 where
  pub first : asked ≡ []
  pub asks : TreeAsks tree slots (heads_task tree)
  pub after : IsTreeWork now tree (asked ++ heads_task tree ∷ []) (slots ++ Heard (WalkedBy walked) ∷ [])
