-- Trees of requests as the engine keeps them between rounds.
use Rattle.std.specs.Prelude.{◌≡◌, ℕ, ◌+◌, ◌^◌, ◌<◌, ◌≤◌, List, length, true, Some, IfSome, is_some}
use Rattle.std.specs.List.{AllByRecursion}
use Rattle.zio_blkptr.specs.declared.pointer.Bp.{Bp}
use Rattle.zio_blkptr.specs.declared.pointer.TheConstants.{BLOCK_SIZE_MAX}
use Rattle.zio_blkptr.specs.Pointers.{FitsTypes}
use Rattle.zio_script.specs.Accepted.{IsInRange}
use Rattle.zio_script.specs.Requests.{kind_of, needs_block}
use Rattle.zio_script.specs.Whys.{size_with}
use Rattle.zio_gang.specs.declared.tree.Tree.{Tree}
use Rattle.zio_gang.specs.Attempts.{Child, Pending}
use Rattle.zio_gang.specs.Pointers.{IsNoneOrValid}
use Rattle.zio_trace.specs.Families.{Forest, NoTrees, TreeOf}
use Rattle.zio_disks.specs.Whole.{IsWholeTree}
use Rattle.zio_children.specs.declared.kept.KeptChild.{KeptChild}
use Rattle.zio_sound.specs.Linked.{AreLinked}
use Rattle.zio_exchange.specs.Wholes.{IsTreeOf, trees_in}
use Rattle.zio_exchange.specs.declared.waiting.UnfinishedRequest.{UnfinishedRequest}
use Rattle.zio_nodes.specs.TreeAts.{is_childless}

-- a pointer as it is held has room for three places
abbrev pub HasThree : Bp → Type 0
HasThree bp = length bp.places ≡ 3

-- A request within its ranges and limits, under which so many trees stand: its block is there exactly where it is a read or a
-- free, and is whole; the children that it keeps have valid pointers, which fit their types; and a free or a claim has none.
pub record IsSoundPending (unfinished : ℕ) (p : Pending) : Type 0 where
  pub range : IsInRange p.request
  pub some : 1 ≤ p.birth
  pub born : p.birth < 2 ^ 32
  pub block_is : is_some p.block ≡ needs_block p.request.work
  pub whole : IfSome p.block IsWholeTree
  pub three : IfSome p.block (λ (tree : Tree). HasThree tree.bp)
  pub size : size_with (unfinished + length p.kept) p.request.work ≤ BLOCK_SIZE_MAX
  pub alone : is_childless (kind_of p.request.work) ≡ true → unfinished + length p.kept ≡ 0
  pub pointers : AllByRecursion (λ (c : Child). IsNoneOrValid c.pointer) p.kept
  pub types : AllByRecursion (λ (c : Child). IfSome c.pointer FitsTypes) p.kept

-- so is each request of these trees
abbrev pub AreSound : Forest → Type 0
AreSound NoTrees = Unit {0}
AreSound (TreeOf p kids others) = IsSoundPending (trees_in kids) p × AreSound kids × AreSound others

-- The list is one tree, whose requests are sound and stand under their parents.
pub record IsEngineTree (ws : List UnfinishedRequest) : Type 0 where
  pub root : Pending
  pub kids : Forest
  pub is : IsTreeOf ws root kids
  pub linked : AreLinked (Some root.request.number) kids
  pub sound : AreSound (TreeOf root kids NoTrees)

-- A request no larger than a block with a pointer for each of its children, of which those that finished have valid pointers, and
-- a free or a claim has none.
pub record IsWithinLimits (w : UnfinishedRequest) : Type 0 where
  pub size : size_with (w.unfinished + length w.kept) w.request.work ≤ BLOCK_SIZE_MAX
  pub alone : is_childless (kind_of w.request.work) ≡ true → w.unfinished + length w.kept ≡ 0
  pub pointers : AllByRecursion (λ (c : KeptChild). IsNoneOrValid c.pointer) w.kept
