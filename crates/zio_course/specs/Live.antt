-- The places in use are those of the blocks that are bound.
use Rattle.std.specs.Prelude.{◌≡◌, ℕ, List, Bool, true, false, Option, Some, None, IfSome, Contains}
use Rattle.std.specs.List.{AllByRecursion}
use Rattle.zio_types.specs.declared.error.Errno.{Errno}
use Rattle.zio_types.specs.declared.place.Place.{Place}
use Rattle.zio_types.specs.Places.{are_apart, meets}
use Rattle.zio_script.specs.declared.script.Request.{Request}
use Rattle.zio_script.specs.Accepted.{AreRising, NameApart}
use Rattle.zio_script.specs.Requests.{makes_block, name_of, needs_block}
use Rattle.zio_gang.specs.declared.tree.Tree.{Tree}
use Rattle.zio_gang.specs.Attempts.{Pending}
use Rattle.zio_gang.specs.Rounds.{block_if, passes}
use Rattle.zio_gang.specs.Trees.{tree_places}
use Rattle.zio_course.specs.Forests.{names_of}
use Rattle.zio_course.specs.Names.{is_some_name, named_in}
use Rattle.zio_course.specs.Runners.{joined_trees}

-- a place of a bound block
pub record IsBoundPlace (bound : List (List ℕ × Tree)) (p : Place) : Type 0 where
  pub name : List ℕ
  pub tree : Tree
  pub is : named_in bound name ≡ Some tree
  pub at : Contains (tree_places tree) p

-- The places of all bound blocks are in use, and no others; two names have no place in common; and no two places of a block
-- meet, nor places of the blocks of two names.
pub record IsLive (live : List Place) (bound : List (List ℕ × Tree)) : Type 0 where
  pub there : (name : List ℕ) → IfSome (named_in bound name) (λ tree. AllByRecursion (Contains live) (tree_places tree))
  pub back : (p : Place) → Contains live p → IsBoundPlace bound p
  pub apart : (n m : List ℕ) (t u : Tree) (p : Place) → named_in bound n ≡ Some t → named_in bound m ≡ Some u
      → Contains (tree_places t) p → Contains (tree_places u) p → n ≡ m
  pub own : (name : List ℕ) → IfSome (named_in bound name) (λ tree. are_apart (tree_places tree) ≡ true)
  pub between : (n m : List ℕ) (t u : Tree) (p q : Place) → named_in bound n ≡ Some t → named_in bound m ≡ Some u
      → Contains (tree_places t) p → Contains (tree_places u) q → meets p q ≡ true → n ≡ m

-- What is known of the trees of a round: their requests are some of these, by number and apart by names, which admission let
-- run; each has the block that its name has where it needs one, and its name has none where it makes one.
pub record IsRoundOver (apart : Bool) (bound : List (List ℕ × Tree)) (error : ℕ → Option Errno) (requests : List Request) (trees : List (List Pending)) : Type 0 where
  pub rising : AreRising requests
  pub names : NameApart apart requests
  pub inside : AllByRecursion (λ (p : Pending). Contains requests p.request) (joined_trees trees)
  pub free : AllByRecursion (λ (p : Pending). error p.request.number ≡ None) (joined_trees trees)
  pub blocks : AllByRecursion (λ (p : Pending). p.block ≡ block_if (needs_block p.request.work) (name_of p.request.work) (names_of bound)) (joined_trees trees)
  pub lacks : AllByRecursion (λ (p : Pending). makes_block p.request.work ≡ true → passes (is_some_name bound) (name_of p.request.work) ≡ false) (joined_trees trees)
