-- Whole blocks: a pointer with exactly the headers that it needs.
use Rattle.std.specs.Prelude.{◌≡◌, ℕ, zero, suc, ◌+◌, List, [], ◌∷◌, ◌++◌, Bool, true, false, IsTrue}
use Rattle.std.specs.List.{list_all, AllByRecursion}
use Rattle.zio_types.specs.declared.place.TopSize.{TopSize}
use Rattle.zio_blkptr.specs.declared.pointer.Bp.{Bp}
use Rattle.zio_blkptr.specs.Pointers.{places_of, valid}
use Rattle.zio_cksum.specs.Blocks.{good_claimed}
use Rattle.zio_cksum.specs.Headers.{members_of}
use Rattle.zio_gang.specs.declared.tree.Head.{Head}
use Rattle.zio_gang.specs.declared.tree.Tree.{Tree}
use Rattle.zio_gang.specs.Trees.{header_levels_max, is_claimable, piece_size, tree_pointers}

-- These are the headers under the first member, and then those under the others.
pub record AreUnderFirst (first : List Head → Type 0) (others : List Head → Type 0) (heads : List Head) : Type 0 where
  pub front : List Head
  pub back : List Head
  pub joined : heads ≡ front ++ back
  pub under_first : first front
  pub under_others : others back

-- the headers under members in order, numbered from n
abbrev pub AreUnderMembers : (List ℕ → Bp → List Head → Type 0) → List ℕ → ℕ → List Bp → List Head → Type 0
AreUnderMembers under path n [] heads = heads ≡ []
AreUnderMembers under path n (m ∷ ms) heads =
    AreUnderFirst (under (path ++ n ∷ []) m) (AreUnderMembers under path (n + 1) ms) heads

-- The headers of a gang: its own at its path, which is one for its first place, its birth and its size, and those under
-- the members that it names.
pub record AreUnderGang (under : List ℕ → Bp → List Head → Type 0) (path : List ℕ) (bp : Bp) (heads : List Head) : Type 0 where
  pub head : Head
  pub rest : List Head
  pub first : heads ≡ head ∷ rest
  pub at : head.path ≡ path
  pub good : IsTrue (good_claimed bp head.bytes)
  pub members : AreUnderMembers under path 0 (members_of head.bytes) rest

-- a pointer that is no gang has no header
abbrev pub AreUnderIf : Bool → Type 0 → List Head → Type 0
AreUnderIf true gang heads = gang
AreUnderIf false gang heads = heads ≡ []

-- These are the headers from a valid pointer at a path down, each before those under it and members in order. As many
-- levels may follow as the first argument says.
abbrev pub AreUnder : ℕ → List ℕ → Bp → List Head → Type 0
AreUnder zero path bp heads = IsTrue (valid bp) × AreUnderIf bp.gang ⊥ heads
AreUnder (suc levels) path bp heads = IsTrue (valid bp) × AreUnderIf bp.gang (AreUnderGang (AreUnder levels) path bp heads) heads

-- The block has the headers that its pointer and those headers ask for, and no other.
abbrev pub IsWholeTree : Tree → Type 0
IsWholeTree tree = AreUnder header_levels_max [] tree.bp tree.heads

-- each place of the pointer is inside its top and fits its piece
abbrev pub IsFitting : List TopSize → Bp → Type 0
IsFitting tops bp = IsTrue (list_all (is_claimable tops (piece_size bp)) (places_of bp))

-- so is each of all pointers of the block
abbrev pub IsFittingTree : List TopSize → Tree → Type 0
IsFittingTree tops tree = AllByRecursion (IsFitting tops) (tree_pointers tree)
