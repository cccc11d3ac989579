-- Rounds whose trees are over different blocks, beside a lawful journal.
use Rattle.std.specs.Prelude.{◌≡◌, ◌≢◌, ℕ, ◌*◌, ◌≤◌, List, ◌∷◌, false, Option, Some, None, IfSome, IsTrue, Contains, slice_get}
use Rattle.std.specs.List.{AllByRecursion}
use Rattle.zio_types.specs.declared.place.Place.{Place}
use Rattle.zio_types.specs.declared.place.Top.{Top}
use Rattle.zio_types.specs.declared.place.TopSize.{TopSize}
use Rattle.zio_types.specs.Choices.{Choice}
use Rattle.zio_types.specs.Places.{is_inside, meets, sector_size}
use Rattle.zio_blkptr.specs.Pointers.{places_of}
use Rattle.zio_script.specs.declared.script.Work.{Work}
use Rattle.zio_script.specs.declared.script.Work.TheVariants.{Null, Read as WorkRead, Write, Free, Claim}
use Rattle.zio_cksum.specs.Blocks.{leaves_of_top}
use Rattle.zio_gang.specs.declared.tree.Tree.{Tree}
use Rattle.zio_gang.specs.Attempts.{Terms, Pending}
use Rattle.zio_gang.specs.Journals.{AreLawful, choices_in}
use Rattle.zio_gang.specs.Pieces.{Piece, pieces_of}
use Rattle.zio_gang.specs.Trees.{sizes_of, tree_places}
use Rattle.zio_trace.specs.Families.{flat}
use Rattle.zio_trace.specs.TreeOrders.{Pairs, Root}

-- no leaf stands in two tops
abbrev pub LeavesOnce : List Top → Type 0
LeavesOnce tops = (i k : ℕ) → i ≢ k →
    AllByRecursion (λ (l : ℕ). AllByRecursion (λ (m : ℕ). l ≢ m) (leaves_of_top (slice_get tops k))) (leaves_of_top (slice_get tops i))

-- each leaf of a top has its sectors
abbrev pub LeavesHold : (ℕ → ℕ) → List Top → Type 0
LeavesHold sizes tops = (i : ℕ) → IfSome (slice_get tops i) (λ (top : Top). AllByRecursion (λ (l : ℕ). top.sectors * sector_size ≤ sizes l) top.leaves)

-- the places have room for so many bytes
abbrev pub HaveRoomFor : ℕ → List Place → Type 0
HaveRoomFor size places = AllByRecursion (λ (p : Place). size ≤ p.sectors * sector_size) places

-- A block's places are in use and inside their tops, and each copy of a piece has room for it.
pub record IsSoundBlock (sizes : List TopSize) (used : List Place) (tree : Tree) : Type 0 where
  pub in_use : AllByRecursion (Contains used) (tree_places tree)
  pub inside : AllByRecursion (λ (p : Place). IsTrue (is_inside sizes p)) (tree_places tree)
  pub room : AllByRecursion (λ (x : Piece). HaveRoomFor x.size (places_of x.pointer)) (pieces_of tree)

-- no place of the one meets one of the other
abbrev pub NoneMeet : List Place → List Place → Type 0
NoneMeet ps qs = AllByRecursion (λ (p : Place). AllByRecursion (λ (q : Place). meets p q ≡ false) qs) ps

abbrev pub BlocksApart : Option Tree → Option Tree → Type 0
BlocksApart None other = Unit {0}
BlocksApart (Some tree) None = Unit {0}
BlocksApart (Some tree) (Some other) = NoneMeet (tree_places tree) (tree_places other)

abbrev pub IsNoClaim : Work → Type 0
IsNoClaim Null = Unit {0}
IsNoClaim (WorkRead name prio) = Unit {0}
IsNoClaim (Write name sum copies prio body) = Unit {0}
IsNoClaim (Free name) = Unit {0}
IsNoClaim (Claim name pointer) = ⊥

-- a request that is no claim, whose block is sound if it names one
pub record IsSoundRequest (t : Terms) (p : Pending) : Type 0 where
  pub no_claim : IsNoClaim p.request.work
  pub block : IfSome p.block (λ (tree : Tree). IsSoundBlock (sizes_of t.setting.tops) t.used tree)

-- all requests of a tree
abbrev pub requests_in : Root → List Pending
requests_in r = r.p ∷ flat r.kids

-- their requests have different numbers, and the blocks that they name are apart
abbrev pub AreOverDifferentBlocks : Root → Root → Type 0
AreOverDifferentBlocks a b =
    AllByRecursion (λ (p : Pending). AllByRecursion (λ (q : Pending). (p.request.number ≢ q.request.number) × BlocksApart p.block q.block) (requests_in b)) (requests_in a)

-- The trees are over different blocks, on tops whose leaves hold them, under a journal whose choices are lawful.
pub record AreSeparate (journal : List Choice) (t : Terms) (sizes : ℕ → ℕ) (trees : List Root) : Type 0 where
  pub once : LeavesOnce t.setting.tops
  pub hold : LeavesHold sizes t.setting.tops
  pub lawful : AreLawful (sizes_of t.setting.tops) t.used (choices_in t.round journal)
  pub sound : AllByRecursion (λ (r : Root). AllByRecursion (IsSoundRequest t) (requests_in r)) trees
  pub different : Pairs AreOverDifferentBlocks trees
