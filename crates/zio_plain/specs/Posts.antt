-- The order of attempts: each request stands right behind the trees of its children.
use Rattle.std.specs.Prelude.{◌≡◌, ◌+◌, ◌≤◌, List, [], ◌∷◌, length, map, take, drop, reverse, Some, IfSome, is_some, option_to_list}
use Rattle.std.specs.List.{AllByRecursion, flat_map}
use Rattle.zio_blkptr.specs.declared.pointer.TheConstants.{BLOCK_SIZE_MAX}
use Rattle.zio_script.specs.declared.limits.TheConstants.{CHILDREN_MAX}
use Rattle.zio_script.specs.declared.script.Request.{Request}
use Rattle.zio_script.specs.Accepted.{IsInRange}
use Rattle.zio_script.specs.Requests.{needs_block}
use Rattle.zio_script.specs.Whys.{size_with}
use Rattle.zio_gang.specs.Attempts.{Pending}
use Rattle.zio_gang.specs.declared.tree.Tree.{Tree}
use Rattle.zio_course.specs.Runners.{AreRisingFrom, joined_trees, numbers_of, root_of}
use Rattle.zio_plain.specs.declared.waiting.Handed.{Handed}
use Rattle.zio_plain.specs.declared.waiting.Waiting.{Waiting}
use Rattle.zio_plain.specs.Waits.{HasPointer, pending_of, pendings}

abbrev pub requests_in : List Waiting → List Request
requests_in tree = map (λ (w : Waiting). w.request) tree

-- the children of a request among those that have been met and whose parents haven't, the last first; by number
abbrev pub children_in : Waiting → List Waiting → List Waiting
children_in w met = reverse (take w.unfinished met)

-- what was met last are the request's children
pub record IsOver (w : Waiting) (met : List Waiting) : Type 0 where
  pub enough : w.unfinished ≤ length met
  pub under : AllByRecursion (λ (r : Request). r.under ≡ Some w.request.number) (requests_in (children_in w met))
  pub rising : AreRisingFrom 0 (numbers_of (requests_in (children_in w met)))

-- each request stands behind its children, where these were met before
abbrev pub AreBehindChildren : List Waiting → List Waiting → Type 0
AreBehindChildren met [] = Unit {0}
AreBehindChildren met (w ∷ ws) = IsOver w met × AreBehindChildren (w ∷ drop w.unfinished met) ws

-- those that have been met and whose parents haven't, the last first
abbrev pub met_after : List Waiting → List Waiting → List Waiting
met_after met [] = met
met_after met (w ∷ ws) = met_after (w ∷ drop w.unfinished met) ws

-- A request within its ranges and limits, with its block exactly where it is a read or a free, and whose kept children have
-- valid pointers.
pub record IsSound (fits : Tree → Type 0) (w : Waiting) : Type 0 where
  pub range : IsInRange w.request
  pub some : 1 ≤ w.birth
  pub block_is : is_some w.block ≡ needs_block w.request.work
  pub fit : IfSome w.block fits
  pub few : length w.kept + w.unfinished ≤ CHILDREN_MAX
  pub size : size_with (length w.kept + w.unfinished) w.request.work ≤ BLOCK_SIZE_MAX
  pub pointers : AllByRecursion HasPointer w.kept

-- one tree: the root is the one whose parent isn't met
pub record IsOneTree (fits : Tree → Type 0) (tree : List Waiting) : Type 0 where
  pub ordered : AreBehindChildren [] tree
  pub root : Waiting
  pub alone : met_after [] tree ≡ root ∷ []
  pub sound : AllByRecursion (IsSound fits) tree

-- some trees, one after another
pub record AreTrees (fits : Tree → Type 0) (trees : List (List Pending)) (all : List Waiting) : Type 0 where
  pub same : pendings all ≡ joined_trees trees
  pub ordered : AreBehindChildren [] all
  pub roots : map pending_of (reverse (met_after [] all)) ≡ flat_map (λ tree. option_to_list (root_of tree)) trees
  pub sound : AllByRecursion (IsSound fits) all

-- what was handed on, by these requests
abbrev pub AreHandedBy : List Handed → List Waiting → Type 0
AreHandedBy [] [] = Unit {0}
AreHandedBy [] (m ∷ ms) = ⊥
AreHandedBy (h ∷ hs) [] = ⊥
AreHandedBy (h ∷ hs) (m ∷ ms) = (h.under ≡ m.request.under) × AreHandedBy hs ms
