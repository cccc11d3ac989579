-- A block from its one part.
use Rattle.std.proofs.Common.{◌≡◌, ℕ, ◌<◌, List, [], ◌++◌, length, drop, refl, sym, ap, subst, ◌∙◌, Option, Some, None, IfSome}
use Rattle.std.specs.Prelude.{option_map, IsPermutation}
use Rattle.std.specs.List.{AllByRecursion, flat_map}
use Rattle.zio_types.specs.declared.error.Errno.{Errno}
use Rattle.zio_types.specs.declared.error.Errno.TheVariants.{Nospc}
use Rattle.zio_types.specs.declared.place.Place.{Place}
use Rattle.zio_types.specs.declared.place.TopSize.{TopSize}
use Rattle.zio_blkptr.specs.declared.pointer.Bp.{Bp}
use Rattle.zio_types.specs.Choices.{Choice}
use Rattle.zio_types.specs.Errors.{rank}
use Rattle.zio_blkptr.specs.Pointers.{places_of}
use Rattle.zio_cksum.specs.Images.{Images}
use Rattle.zio_gang.specs.Attempts.{placed_tree}
use Rattle.zio_gang.specs.Writes.{Placed, Writing, place_block, place_part}
use Rattle.zio_gang.specs.declared.tree.Head.{Head}
use Rattle.zio_gang.specs.declared.tree.Tree.{Tree}
use Rattle.zio_gang.specs.Trees.{tree_places, tree_pointers}
use Rattle.zio_disks.specs.Whole.{AreUnder, IsWholeTree}
use Rattle.zio_blocks.specs.Blocks.{Places}
use Rattle.zio_blocks.specs.Laid.{IsLaid, places_if, pointers_in}
use Rattle.zio_blocks.specs.Parts.{IsMade, TellsPart}
use Rattle.zio_blocks.specs.declared.pieces.Part.{Part}
use Rattle.zio_blocks.specs.declared.place.PlacedBlock.{PlacedBlock}

-- the tree of the pointer, if there is one, with these headers
abbrev pub tree_with : List Head → Option Bp → Option Tree
tree_with heads pointer = option_map (λ (bp : Bp). record { bp = bp; heads = heads }) pointer

tree_is : (pointer : Option Bp) (placed : Placed) → tree_with placed.heads pointer ≡ placed_tree pointer placed
tree_is None placed = refl
tree_is (Some bp) placed = refl

-- what the one part tells is what the block tells
pub block_told : {D : Type 0} (image : D → List ℕ → Type 0) (w : Writing) (bytes : List ℕ) (images : Images) (part : Part) (none heads : List Head) (placed : PlacedBlock) (entries : List Choice) (new : List D) → none ≡ []
    → placed.error ≡ part.error → placed.tree ≡ tree_with heads part.pointer
    → TellsPart image (λ journal. place_part 8 journal w [] bytes images) [] part none heads entries new
    → Places image w bytes images placed entries new
block_told image w bytes images part none heads placed entries new empty error tree tells = record {
  after = tells.after;
  told = tells.told;
  meant = λ journal answers.
      (let p : Placed = place_block journal w bytes images in
      let h = tells.meant journal answers in
      let own : heads ≡ p.heads = h.heads ∙ ap (λ (hs : List Head). hs ++ p.heads) empty in
      record {
        error = error ∙ h.error;
        tree = tree
            ∙ (λ j. tree_with (own j) (h.pointer j))
            ∙ tree_is p.pointer p;
        asks = h.asks;
        after_is = h.after_is;
      });
}

-- ---- where no image is told

-- What a block's tree is: its pointers are made, its places are those that were taken, and it is whole unless a part has none.
pub record IsLaidTree (tops : List TopSize) (len : ℕ) (error : Option Errno) (taken : List Place) (tree : Tree) : Type 0 where
  pub made : AllByRecursion (IsMade tops) (tree_pointers tree)
  pub size : tree.bp.size ≡ len
  pub places : IsPermutation (tree_places tree) taken
  pub whole : rank error < rank (Some Nospc) → IsWholeTree tree

tree_laid : (tops : List TopSize) (len : ℕ) (error : Option Errno) (taken : List Place) (heads : List Head) (pointer : Option Bp)
    → IfSome pointer (IsMade tops) → IfSome pointer (λ (bp : Bp). bp.size ≡ len) → AllByRecursion (IsMade tops) (pointers_in heads)
    → IsPermutation (places_if pointer ++ flat_map places_of (pointers_in heads)) taken
    → (rank error < rank (Some Nospc) → IfSome pointer (λ (bp : Bp). AreUnder 8 [] bp heads))
    → IfSome (tree_with heads pointer) (IsLaidTree tops len error taken)
tree_laid tops len error taken heads None made size named places whole = tt
tree_laid tops len error taken heads (Some bp) made size named places whole = record { made = (made, named); size = size; places = places; whole = whole }

-- what stands behind no headers are all
behind_none : (none heads : List Head) → none ≡ [] → drop (length none) heads ≡ heads
behind_none none heads empty = ap (λ (hs : List Head). drop (length hs) heads) empty

pub block_laid : (tops : List TopSize) (len : ℕ) (part : Part) (none heads : List Head) (taken : List Place) (placed : PlacedBlock) → none ≡ []
    → placed.error ≡ part.error → placed.tree ≡ tree_with heads part.pointer
    → IsLaid tops 8 [] len part (drop (length none) heads) taken → IfSome placed.tree (IsLaidTree tops len placed.error taken)
block_laid tops len part none heads taken placed empty error tree h =
    let laid : IsLaid tops 8 [] len part heads taken = subst (λ (hs : List Head). IsLaid tops 8 [] len part hs taken) (behind_none none heads empty) h in
    subst (λ (o : Option Tree). IfSome o (IsLaidTree tops len placed.error taken)) (sym tree)
    (subst (λ (e : Option Errno). IfSome (tree_with heads part.pointer) (IsLaidTree tops len e taken)) (sym error)
    (tree_laid tops len part.error taken heads part.pointer laid.made laid.size laid.named laid.places laid.whole))

no_tree : (heads : List Head) (pointer : Option Bp) → tree_with heads pointer ≡ None → pointer ≡ None
no_tree heads None e = refl
no_tree heads (Some bp) e = absurd (cc)

-- a block without a tree took nothing
pub block_nowhere : (tops : List TopSize) (len : ℕ) (part : Part) (all heads : List Head) (taken : List Place) (placed : PlacedBlock)
    → placed.error ≡ part.error → placed.tree ≡ tree_with heads part.pointer
    → IsLaid tops 8 [] len part all taken → placed.tree ≡ None → (taken ≡ []) × (placed.error ≡ Some Nospc)
block_nowhere tops len part all heads taken placed error tree laid none =
    let h = laid.nowhere (no_tree heads part.pointer (sym tree ∙ none)) in
    (h.0, error ∙ h.1)
