-- The trees of a round in another order.
use Rattle.std.specs.Prelude.{◌≡◌, ℕ, List, [], ◌∷◌, ◌++◌, None, IsPermutation, true}
use Rattle.std.specs.List.{AllByRecursion}
use Rattle.zio_types.specs.Choices.{Choice}
use Rattle.zio_gang.specs.Attempts.{Terms, Pending}
use Rattle.zio_gang.specs.Rounds.{Ran}
use Rattle.zio_trace.specs.Conflicts.{TaskLies, TasksApart, is_single}
use Rattle.zio_trace.specs.Families.{AreUnder, Forest, NoTrees, TreeOf, flat}
use Rattle.zio_trace.specs.Footprints.{OfTree}
use Rattle.zio_trace.specs.Tasks.{Task}

-- a tree: its root, and the trees under it
pub record Root : Type 0 where
  pub p : Pending
  pub kids : Forest

-- its requests, in the order of attempts
abbrev pub flat_root : Root → List Pending
flat_root r = flat r.kids ++ r.p ∷ []

-- each request stands under its parent, and no number stands twice
abbrev pub IsTree : Root → Type 0
IsTree r = AreUnder None (TreeOf r.p r.kids NoTrees)

-- no operation of the one conflicts with one of the other
abbrev pub TreesApart : List Choice → Terms → Root → Root → Type 0
TreesApart journal t a b =
    (d e : Task) → OfTree journal t (a.p ∷ flat a.kids) d → OfTree journal t (b.p ∷ flat b.kids) e → TasksApart d e

-- each of its operations on a leaf lies there
abbrev pub TreeLies : List Choice → Terms → (ℕ → ℕ) → Root → Type 0
TreeLies journal t sizes r =
    (d : Task) → is_single d ≡ true → OfTree journal t (r.p ∷ flat r.kids) d → TaskLies sizes d

-- each is so with each behind it
abbrev pub Pairs : {X : Type 0} → (X → X → Type 0) → List X → Type 0
Pairs R [] = Unit {0}
Pairs R (x ∷ xs) = AllByRecursion (R x) xs × Pairs R xs

-- What running trees left in one order and in another: the same images, and in some order the same requests that ended,
-- the same trees that are left and the same asks.
pub record AreAlike (a b : Ran) : Type 0 where
  pub images : b.images ≡ a.images
  pub ended : IsPermutation a.ended b.ended
  pub left : IsPermutation a.left b.left
  pub asks : IsPermutation a.asks b.asks
