-- The requests of a tree by list, as a request's children's trees are split off it and what is left of them is put together.
use Rattle.std.specs.Prelude.{◌≡◌, List, [], ◌∷◌, ◌++◌, length, map, Option, is_some}
use Rattle.std.specs.List.{AllByRecursion}
use Rattle.zio_gang.specs.Attempts.{has_bits}
use Rattle.zio_children.specs.RequestKids.{AreHanded, bits_by, child_of, finished_in}
use Rattle.zio_children.specs.declared.kids.Kid.{Kid}
use Rattle.zio_exchange.specs.Wholes.{joined}
use Rattle.zio_exchange.specs.declared.waiting.UnfinishedRequest.{UnfinishedRequest}
use Rattle.zio_stages.specs.ClosedRequests.{Again, Closed, Finished}
use Rattle.zio_stages.specs.KidPointers.{HasValid, HaveValidPointers}
use Rattle.zio_stages.specs.KidTrees.{KidsHeld, trees_left}
use Rattle.zio_stages.specs.declared.request_node.RequestNode.{RequestNode}

-- the list is the trees that are due, and the request behind them, and nothing is left of any
pub record IsListOf (ws : List UnfinishedRequest) (w : UnfinishedRequest) (x : KidsHeld) : Type 0 where
  pub list : ws ≡ joined x.due ++ w ∷ []
  pub none : trees_left x.again ≡ []

-- a tree is left of each child that goes again, and of no other
abbrev pub AreMarked : List Kid → List (Option (List UnfinishedRequest)) → Type 0
AreMarked [] [] = Unit {0}
AreMarked [] (a ∷ again) = ⊥
AreMarked (k ∷ kids) [] = ⊥
AreMarked (k ∷ kids) (a ∷ again) = (has_bits (bits_by k.state) ≡ is_some a) × AreMarked kids again

-- as many children as the request counts haven't finished, none of them goes again, and those that were handed out are
pub record AreBegun (w : UnfinishedRequest) (x : KidsHeld) : Type 0 where
  pub count : length x.kids.kids ≡ w.unfinished
  pub marked : AreMarked x.kids.kids x.again
  pub handed : AreHanded x.kids.handed x.kids.kids

-- both hold the same trees
pub record HoldTheSame (x y : KidsHeld) : Type 0 where
  pub due : y.due ≡ x.due
  pub again : y.again ≡ x.again

-- the first of the trees that are due is this one, which is held no longer
pub record HoldsBut (ws : List UnfinishedRequest) (x y : KidsHeld) : Type 0 where
  pub due : x.due ≡ ws ∷ y.due
  pub again : y.again ≡ x.again

-- The list is what is left of the children's trees, and the same request behind them, with the children that finished. Where
-- these have valid pointers it keeps valid ones.
pub record IsLeftList (ws : List UnfinishedRequest) (w : UnfinishedRequest) (x : KidsHeld) : Type 0 where
  pub root : UnfinishedRequest
  pub list : ws ≡ joined (trees_left x.again) ++ root ∷ []
  pub request : root.request ≡ w.request
  pub birth : root.birth ≡ w.birth
  pub block : root.block ≡ w.block
  pub unfinished : root.unfinished ≡ length (trees_left x.again)
  pub kept : map child_of root.kept ≡ finished_in x.kids
  pub valid : HaveValidPointers x.kids → AllByRecursion HasValid root.kept

abbrev pub LeavesList : RequestNode → Closed → Type 0
LeavesList r (Finished waiting error own) = waiting ≡ r.waiting
LeavesList r (Again bits whole own) = IsLeftList whole r.waiting r.kids
