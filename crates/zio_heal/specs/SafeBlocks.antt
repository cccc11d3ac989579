-- What is safe between two rounds of a run: the bound blocks, each with its content.
use Rattle.std.specs.Prelude.{ℕ, List}
use Rattle.std.specs.List.{AllByRecursion}
use Rattle.zio_types.specs.declared.place.Place.{Place}
use Rattle.zio_cksum.specs.Images.{Images, Setting}
use Rattle.zio_gang.specs.declared.tree.Tree.{Tree}
use Rattle.zio_gang.specs.Rounds.{Binding, Bound, NamesOnce, used_places}
use Rattle.zio_gang.specs.Trees.{sizes_of, tree_places}
use Rattle.zio_trace.specs.BlockCopies.{Copies}
use Rattle.zio_trace.specs.Separate.{NoneMeet}
use Rattle.zio_trace.specs.SoundRounds.{IsOwnBlock}
use Rattle.zio_trace.specs.TreeOrders.{Pairs}
use Rattle.zio_heal.specs.Contents.{EachPiece, IsGivenIn, IsHeld}
use Rattle.zio_heal.specs.Given.{Deeds}

-- a piece with these bytes: a copy is held, and these deeds gave them last
pub record IsSafe (s : Setting) (images : Images) (ds : Deeds) (c : Copies) (bytes : List ℕ) : Type 0 where
  pub held : IsHeld s images c bytes
  pub given : IsGivenIn ds c bytes

-- a block whose places are in use, with all pieces of this content
pub record IsSafeBlock (s : Setting) (images : Images) (ds : Deeds) (used : List Place) (tree : Tree) (content : List ℕ) : Type 0 where
  pub own : IsOwnBlock (sizes_of s.tops) used tree
  pub pieces : EachPiece (IsSafe s images ds) tree content

-- the content of each name
abbrev pub Contents : Type 0
Contents = List ℕ → List ℕ

-- no place of the one block meets one of the other
abbrev pub BindingsApart : Binding → Binding → Type 0
BindingsApart a b = NoneMeet (tree_places a.tree) (tree_places b.tree)

-- Each bound block is safe with the content of its name, and no two of them have a place in common.
pub record AreSafe (s : Setting) (images : Images) (ds : Deeds) (contents : Contents) (bound : Bound) : Type 0 where
  pub once : NamesOnce bound
  pub blocks : AllByRecursion (λ (b : Binding). IsSafeBlock s images ds (used_places bound) b.tree (contents b.name)) bound
  pub apart : Pairs BindingsApart bound
