-- The walk of a claim: what it comes to before its places are asked for, and what it adds on the way.
use Rattle.std.specs.Prelude.{◌≡◌, ℕ, List, [], ◌++◌, Option, Some, None, Err}
use Rattle.std.specs.List.{flat_map, AllByRecursion}
use Rattle.zio_types.specs.declared.error.Errno.{Errno}
use Rattle.zio_types.specs.declared.error.Errno.TheVariants.{Inval}
use Rattle.zio_types.specs.declared.place.TopSize.{TopSize}
use Rattle.zio_blkptr.specs.declared.pointer.Bp.{Bp}
use Rattle.zio_blkptr.specs.Pointers.{pointer_of}
use Rattle.zio_cksum.specs.Headers.{members_of}
use Rattle.zio_cksum.specs.Images.{Images, Setting}
use Rattle.zio_gang.specs.declared.tree.Head.{Head}
use Rattle.zio_gang.specs.Trees.{Claimed, Walk, claim_visit, unless_errors, walk_tree}
use Rattle.zio_disks.specs.Whole.{IsFitting}

-- the tree of a pointer and of the headers that its walk read, or the worst of the walk's errors
abbrev pub tree_walked : Bp → Walk → Claimed
tree_walked bp w = record {
  tree = unless_errors w.errors (record { bp = bp; heads = w.heads });
  images = w.images;
}

-- the same by the pointer that the bytes spell, EINVAL where they spell none
abbrev pub walked_from : Setting → Option Bp → Images → Claimed
walked_from s None images = record { tree = Err Inval; images = images }
walked_from s (Some bp) images = tree_walked bp (walk_tree (claim_visit s) bp images)

-- what a claim comes to, whether its places are free or not
-- Rule: claim.
unfoldable pub claim_walk : Setting → List ℕ → Images → Claimed
claim_walk s bytes images = walked_from s (pointer_of bytes) images

-- These are the headers under some pointers, and of those pointers and the headers' members each place is inside its top
-- and fits.
pub record AreRead (tops : List TopSize) (pointers : List Bp) (are_under : List Head → Type 0) (heads : List Head) : Type 0 where
  pub under : are_under heads
  pub own : AllByRecursion (IsFitting tops) pointers
  pub below : AllByRecursion (IsFitting tops) (flat_map (λ (h : Head). members_of h.bytes) heads)

-- A walk puts errors and headers behind those before; where it puts no error, these headers are read.
pub record AddsTo (are_read : List Head → Type 0) (errors_old errors_new : List (Option Errno)) (heads_old heads_new : List Head) : Type 0 where
  pub errors : List (Option Errno)
  pub heads : List Head
  pub errors_behind : errors_new ≡ errors_old ++ errors
  pub heads_behind : heads_new ≡ heads_old ++ heads
  pub read : errors ≡ [] → are_read heads
