-- Blocks whose pointers are valid have room for their pieces.
use Rattle.std.proofs.Common.{◌≡◌, ℕ, zero, suc, ◌+◌, ◌*◌, ◌/◌, ◌%◌, ◌≤◌, List, [], ◌∷◌, ◌++◌, Bool, true, false, cond, ◌||◌, ◌==◌, IsTrue, Contains, ◌⊎◌, inl, inr, ⊎_elim, refl, ap, eqb-true, arith}
use Rattle.std.proofs.lemmas.Bool.{and_parts}
use Rattle.std.specs.List.{AllByRecursion, list_all}
use Rattle.zio_types.specs.declared.place.Place.{Place}
use Rattle.zio_types.specs.declared.place.TopSize.{TopSize}
use Rattle.zio_types.specs.Places.{is_inside, sector_size}
use Rattle.zio_blkptr.specs.declared.pointer.Bp.{Bp}
use Rattle.zio_blkptr.specs.Pointers.{is_block_size, is_present, is_rounding_of, places_of, sectors_stored, valid}
use Rattle.zio_cksum.proofs.AllLemmas.{all_append, all_contains, all_weaker}
use Rattle.zio_gang.specs.declared.tree.Head.{Head}
use Rattle.zio_gang.specs.declared.tree.Tree.{Tree}
use Rattle.zio_gang.specs.Pieces.{Parts, Piece, below_piece, head_piece, members_kept, no_parts, parts_from, parts_if, parts_of, parts_of_members, pieces_of}
use Rattle.zio_gang.specs.Trees.{header_levels_max, kept_at, tree_places, tree_pointers}
use Rattle.zio_trace.specs.Separate.{HaveRoomFor, IsSoundBlock}
use Rattle.zio_trace.proofs.ListLemmas.{all_lists}
use Rattle.zio_trace.proofs.SeparateLemmas.{pieces_among}

either : (a b : Bool) → (a || b) ≡ true → (a ≡ true) ⊎ (b ≡ true)
either true b e = inl refl
either false b e = inr e

-- a rounding is no less
rounded_more : (sectors n : ℕ) → is_rounding_of sectors n ≡ true → n ≤ sectors
rounded_more sectors n e =
    ⊎_elim
    (λ (h : (sectors == (n + 0) / 1 * 1) ≡ true). let is : sectors ≡ (n + 0) / 1 * 1 = eqb-true sectors _ h in omega arith)
    (λ rest. ⊎_elim
    (λ (h : (sectors == (n + 1) / 2 * 2) ≡ true). let is : sectors ≡ (n + 1) / 2 * 2 = eqb-true sectors _ h in omega arith)
    (λ more. ⊎_elim
    (λ (h : (sectors == (n + 3) / 4 * 4) ≡ true). let is : sectors ≡ (n + 3) / 4 * 4 = eqb-true sectors _ h in omega arith)
    (λ last. ⊎_elim
    (λ (h : (sectors == (n + 7) / 8 * 8) ≡ true). let is : sectors ≡ (n + 7) / 8 * 8 = eqb-true sectors _ h in omega arith)
    (λ (none : false ≡ true). absurd (cc))
    (either _ _ last)) (either _ _ more)) (either _ _ rest)) (either _ _ e)

present_all : (bp : Bp) (ps : List Place) → list_all (is_present bp) ps ≡ true → AllByRecursion (λ (p : Place). sectors_stored bp ≤ p.sectors) ps
present_all bp [] e = tt
present_all bp (p ∷ ps) e =
    let both = and_parts (is_present bp p) (list_all (is_present bp) ps) e in
    (rounded_more p.sectors (sectors_stored bp) (and_parts _ _ (and_parts _ _ both.0).0).0, present_all bp ps both.1)

-- ---- the sizes of pieces

-- the piece takes no more than its pointer stores
abbrev IsSized : Piece → Type 0
IsSized x = IsTrue (valid x.pointer) → x.size ≤ sectors_stored x.pointer * sector_size

abbrev BothSized : Parts → Type 0
BothSized parts = AllByRecursion IsSized parts.heads × AllByRecursion IsSized parts.bodies

whole_sectors : (bp : Bp) → IsTrue (valid bp) → bp.size % sector_size ≡ 0
whole_sectors bp v =
    let front = and_parts _ _ v in
    let size = and_parts _ (is_block_size bp.size) front.0 in
    eqb-true (bp.size % sector_size) 0 (and_parts _ _ (and_parts _ _ size.1).0).0

body_sized : (bp : Bp) → bp.gang ≡ false → IsTrue (valid bp) → bp.size ≤ sectors_stored bp * sector_size
body_sized bp e v =
    let even : bp.size % 512 ≡ 0 = whole_sectors bp v in
    let stored : sectors_stored bp ≡ bp.size / 512 = ap (λ (b : Bool). cond b 1 (bp.size / 512)) e in
    omega arith

if_sized : (gang : Bool) (bp : Bp) (parts : Parts) → bp.gang ≡ gang → (bp.gang ≡ true → BothSized parts) → BothSized (parts_if gang bp parts)
if_sized true bp parts e h = h e
if_sized false bp parts e h = (tt, ((λ v. body_sized bp e v), tt))

head_sized : (bp : Bp) → bp.gang ≡ true → sector_size ≤ sectors_stored bp * sector_size
head_sized bp e =
    let stored : sectors_stored bp ≡ 1 = ap (λ (b : Bool). cond b 1 (bp.size / 512)) e in
    omega arith

members_sized : (parts : List ℕ → Bp → Parts) → ((path : List ℕ) (bp : Bp) → BothSized (parts path bp)) → (path : List ℕ) (n : ℕ) (ms : List Bp) → BothSized (parts_of_members parts path n ms)
members_sized parts one path n [] = (tt, tt)
members_sized parts one path n (m ∷ ms) =
    let first = one (path ++ n ∷ []) m in
    let rest = members_sized parts one path (n + 1) ms in
    (all_append _ (parts (path ++ n ∷ []) m).heads _ first.0 rest.0, all_append _ (parts (path ++ n ∷ []) m).bodies _ first.1 rest.1)

from_sized : (levels : ℕ) (heads : List Head) (path : List ℕ) (bp : Bp) → BothSized (parts_from levels heads path bp)
unfolding parts_from
from_sized zero heads path bp = if_sized bp.gang bp no_parts refl (λ e. (tt, tt))
from_sized (suc levels) heads path bp =
    let members : Parts = parts_of_members (parts_from levels heads) path 0 (members_kept (kept_at heads path)) in
    let below = members_sized (parts_from levels heads) (from_sized levels heads) path 0 (members_kept (kept_at heads path)) in
    if_sized bp.gang bp (below_piece (head_piece heads path bp) members) refl (λ e. (((λ v. head_sized bp e), below.0), below.1))

piece_room : (x : Piece) → IsTrue (valid x.pointer) → IsSized x → HaveRoomFor x.size (places_of x.pointer)
piece_room x v sized =
    let most : x.size ≤ sectors_stored x.pointer * 512 = sized v in
    let front = and_parts _ _ v in
    let size = and_parts _ (is_block_size x.pointer.size) front.0 in
    let absent = and_parts _ _ size.0 in
    let present = and_parts _ (list_all (is_present x.pointer) (places_of x.pointer)) absent.0 in
    all_weaker (λ (p : Place). sectors_stored x.pointer ≤ p.sectors) _ (places_of x.pointer) (λ p h. omega (arith, most, h)) (present_all x.pointer (places_of x.pointer) present.1)

pub valid_sound : (sizes : List TopSize) (used : List Place) (tree : Tree) → AllByRecursion (λ (bp : Bp). IsTrue (valid bp)) (tree_pointers tree) → AllByRecursion (Contains used) (tree_places tree)
    → AllByRecursion (λ (p : Place). IsTrue (is_inside sizes p)) (tree_places tree) → IsSoundBlock sizes used tree
valid_sound sizes used tree valids in_use inside =
    let sized = from_sized header_levels_max tree.heads [] tree.bp in
    record {
      in_use = in_use;
      inside = inside;
      room = all_lists (λ (x : Piece). Contains (tree_pointers tree) x.pointer) IsSized (λ (x : Piece). HaveRoomFor x.size (places_of x.pointer)) (pieces_of tree)
          (λ x c s. piece_room x (all_contains (λ (bp : Bp). IsTrue (valid bp)) (tree_pointers tree) x.pointer valids c) s)
          (pieces_among tree) (all_append IsSized (parts_of tree).heads (parts_of tree).bodies sized.0 sized.1);
    }
