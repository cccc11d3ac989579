-- What the write of a request's block came to, and the places of that block, which may go back.
use Rattle.std.specs.Prelude.{◌≡◌, ℕ, ◌≤◌, List, length, Option, None, IfSome, IsPermutation, IsTrue, option_to_list}
use Rattle.std.specs.List.{flat_map}
use Rattle.zio_types.specs.declared.place.Place.{Place}
use Rattle.zio_blkptr.specs.Pointers.{valid}
use Rattle.zio_gang.specs.declared.tree.Tree.{Tree}
use Rattle.zio_gang.specs.Attempts.{Pending, Terms}
use Rattle.zio_gang.specs.Trees.{tree_places}
use Rattle.zio_trace.specs.Plans.{own_stored}
use Rattle.zio_trace.specs.Programs.{Ends}
use Rattle.zio_trace.specs.Tasks.{OwnGot, Stored, StoredAs, Task}
use Rattle.zio_children.specs.RequestKids.{KidsUnderWay, pointers_of}
use Rattle.zio_frames.specs.Frames.{Stack}
use Rattle.zio_frames.specs.Slots.{AllHeard, Slot, left_behind_slots}
use Rattle.zio_exchange.specs.Outcomes.{places_in, stored_places}
use Rattle.zio_stages.specs.PartOwns.{IsPartOwn, WrittenPart, part_plan}
use Rattle.zio_stages.specs.WrittenBlocks.{HaveAllTold, IsBlockOf}
use Rattle.zio_stages.specs.declared.part.PartOwn.{PartOwn}
use Rattle.zio_stages.specs.declared.stored_block.StoredBlock.{StoredBlock}

-- the places of the block that it made
abbrev pub block_places : Option Tree → List Place
block_places tree = flat_map tree_places (option_to_list tree)

-- Its children told which pointers they will have, and its block, written over these, came to this. All places that came on the
-- way are in that.
pub record IsStoredOwn (t : Terms) (own : OwnGot) (attempt : ℕ) (p : Pending) (x : KidsUnderWay) (asked : List Task) (slots : List Slot)
    (st : Stack) : Type 0 where
  pub told : HaveAllTold x
  pub alone : st.inner ≡ None
  pub part : WrittenPart
  pub block : IsBlockOf attempt p (pointers_of x) part
  pub was : PartOwn
  pub is : IsPartOwn t was part asked slots
  pub heard : AllHeard slots
  pub left : Stored
  pub value : left_behind_slots slots (part_plan t part) ≡ Ends (StoredAs left)
  pub came_to : own ≡ own_stored left
  pub places : IsPermutation (places_in asked slots) (stored_places left)

-- where its block's places are listed they are those, of which so many went back
pub record IsGoingBack (x : StoredBlock) : Type 0 where
  pub places : IfSome x.places (λ ps. ps ≡ block_places x.own.tree)
  pub given : x.given ≤ length (block_places x.own.tree)
  pub valid : IfSome x.own.tree (λ tree. IsTrue (valid tree.bp))
