-- The pieces of blocks that can be scrubbed can be read, and each has a copy.
use Rattle.std.proofs.Common.{◌≡◌, ℕ, zero, suc, ◌+◌, ◌/◌, ◌^◌, ◌<◌, ◌≤◌, List, [], ◌∷◌, ◌++◌, length, length-append, map, get_or, slice_get, option_copied, Bool, true, false, ◌&&◌, cond, nat_lt, Option, Some, None, IfSome, option_map, IsTrue, Contains, refl, sym, ap, subst, arith}
use Rattle.std.specs.List.{AllByRecursion, flat_map}
use Rattle.std.proofs.lemmas.Bool.{and_parts}
use Rattle.std.proofs.lemmas.List.{length-map}
use Rattle.std.proofs.lemmas.Option.{slice_get-map}
use Rattle.zio_types.specs.declared.place.Place.{Place}
use Rattle.zio_types.specs.declared.place.Top.{Top}
use Rattle.zio_types.specs.declared.place.TopSize.{TopSize}
use Rattle.zio_types.specs.Places.{end_of, is_below, is_inside, sector_size}
use Rattle.zio_blkptr.specs.declared.pointer.Bp.{Bp}
use Rattle.zio_blkptr.specs.Pointers.{is_present, is_rounding_of, places_of, sectors_stored, valid}
use Rattle.zio_blkptr.proofs.PointerLemmas.{valid_parts}
use Rattle.zio_blkptr.proofs.Roundings.{near_by_rounding}
use Rattle.zio_cksum.specs.Blocks.{leaves_of, leaves_of_top, spot_in}
use Rattle.zio_cksum.specs.Frames.{spots_of}
use Rattle.zio_cksum.specs.Images.{Setting, Spot}
use Rattle.zio_cksum.proofs.AllLemmas.{all_append, all_contains, all_map, all_true, all_unmap, all_weaker}
use Rattle.zio_cksum.proofs.PlaceSets.{all_pass}
use Rattle.zio_gang.specs.declared.tree.Head.{Head}
use Rattle.zio_gang.specs.declared.tree.Tree.{Tree}
use Rattle.zio_gang.specs.Pieces.{Parts, Piece as Seen, below_piece, head_piece, members_kept, no_parts, parts_from, parts_if, parts_of, parts_of_members, pieces_of}
use Rattle.zio_gang.specs.Trees.{header_levels_max, kept_at, piece_size, size_of, sizes_of, tree_places, tree_pointers}
use Rattle.zio_disks.specs.Trees.{BearsTops, IsPlacedIn, IsPlacedTree}
use Rattle.zio_disks.proofs.TreeLemmas.{pointer_lies}
use Rattle.zio_trace.proofs.ListLemmas.{all_lists}
use Rattle.zio_trace.proofs.PlaceLemmas.{below_sectors}
use Rattle.zio_trace.proofs.SeparateLemmas.{pieces_among}
use Rattle.zio_trace.proofs.SpotLemmas.{AllInside}
use Rattle.zio_scrub.specs.declared.pieces.Piece.{Piece}
use Rattle.zio_scrub.specs.Layouts.{IsCopyOn, IsReadable}
use Rattle.zio_scrub.specs.Pieces.{CanScrub, IsScrubTop, all_seen, seen, seen_if}
use Rattle.zio_scrub.specs.Scrubs.{copies_of, pieces_in}

-- ---- how many bytes a piece has

abbrev AreSized : List Seen → Type 0
AreSized ps = AllByRecursion (λ (p : Seen). p.size ≡ piece_size p.pointer) ps

abbrev PartsSized : Parts → Type 0
PartsSized parts = AreSized parts.heads × AreSized parts.bodies

stored : (t : Bool) (bp : Bp) → bp.gang ≡ t → cond t sector_size bp.size ≡ piece_size bp
stored t bp e = ap (λ (b : Bool). cond b sector_size bp.size) (sym e)

if_sized : (t : Bool) (bp : Bp) (parts : Parts) → bp.gang ≡ t → (bp.gang ≡ true → PartsSized parts) → PartsSized (parts_if t bp parts)
if_sized true bp parts e h = h e
if_sized false bp parts e h = (tt, (stored false bp e, tt))

members_sized : (parts : List ℕ → Bp → Parts) → ((path : List ℕ) (bp : Bp) → PartsSized (parts path bp)) → (path : List ℕ) (n : ℕ) (ms : List Bp)
    → PartsSized (parts_of_members parts path n ms)
members_sized parts one path n [] = (tt, tt)
members_sized parts one path n (m ∷ ms) =
    let first = one (path ++ n ∷ []) m in
    let rest = members_sized parts one path (n + 1) ms in
    (all_append _ (parts (path ++ n ∷ []) m).heads _ first.0 rest.0, all_append _ (parts (path ++ n ∷ []) m).bodies _ first.1 rest.1)

from_sized : (levels : ℕ) (heads : List Head) (path : List ℕ) (bp : Bp) → PartsSized (parts_from levels heads path bp)
unfolding parts_from
from_sized zero heads path bp = if_sized bp.gang bp no_parts refl (λ e. (tt, tt))
from_sized (suc levels) heads path bp =
    let members : List Bp = members_kept (kept_at heads path) in
    let below = members_sized (parts_from levels heads) (from_sized levels heads) path 0 members in
    if_sized bp.gang bp (below_piece (head_piece heads path bp) (parts_of_members (parts_from levels heads) path 0 members)) refl
    (λ e. ((stored true bp e, below.0), below.1))

sized : (tree : Tree) → AreSized (pieces_of tree)
sized tree =
    let h = from_sized header_levels_max tree.heads [] tree.bp in
    all_append (λ (p : Seen). p.size ≡ piece_size p.pointer) (parts_of tree).heads (parts_of tree).bodies h.0 h.1

-- ---- the copies of a pointer

-- a queue can take it
record Fits (u : Spot) : Type 0 where
  some : 0 < u.span
  small : u.span < 2 ^ 32
  device : u.at + u.span ≤ 2 ^ 48

all_spots : (P : Spot → Type 0) (s : Setting) (ps : List Place) → AllByRecursion (λ (p : Place). AllByRecursion P (map (spot_in p) (leaves_of s p))) ps
    → AllByRecursion P (spots_of s ps)
all_spots P s [] h = tt
all_spots P s (p ∷ ps) h = all_append P (map (spot_in p) (leaves_of s p)) (spots_of s ps) h.0 (all_spots P s ps h.1)

few_sectors : (gang : Bool) (size sectors : ℕ) → size ≤ 1048576 → IsTrue (is_rounding_of sectors (cond gang 1 (size / 512))) → sectors < 2 ^ 23
few_sectors true size sectors low h = let near = near_by_rounding sectors 1 h in omega arith
few_sectors false size sectors low h = let near = near_by_rounding sectors (size / 512) h in omega arith

short_top : (tops : List Top) (i : ℕ) → AllByRecursion IsScrubTop tops → IfSome (slice_get tops i) IsScrubTop
short_top [] i h = tt
short_top (t ∷ ts) zero h = h.0
short_top (t ∷ ts) (suc i) h = short_top ts i h.1

ends_low : (p : Place) (top : Option Top) → IfSome top IsScrubTop → IfSome (option_map size_of top) (λ (x : TopSize). end_of p ≤ x.sectors)
    → is_below p (option_map size_of top) ≡ true → end_of p ≤ 2 ^ 39
ends_low p None short below inside = absurd (cc)
ends_low p (Some top) short below inside = let a = short.short in omega arith

place_fits : (s : Setting) (bp : Bp) (p : Place) → AllByRecursion IsScrubTop s.tops → bp.size ≤ 1048576 → IsTrue (is_present bp p)
    → IsTrue (is_inside (sizes_of s.tops) p) → AllByRecursion Fits (map (spot_in p) (leaves_of s p))
place_fits s bp p tops low present inside =
    let two = and_parts (is_rounding_of p.sectors (sectors_stored bp) && nat_lt p.top (2 ^ 24)) (nat_lt p.sector (2 ^ 48)) present in
    let one = and_parts (is_rounding_of p.sectors (sectors_stored bp)) (nat_lt p.top (2 ^ 24)) two.0 in
    let few : p.sectors < 2 ^ 23 = few_sectors bp.gang bp.size p.sectors low one.0 in
    let is : slice_get (sizes_of s.tops) p.top ≡ option_map size_of (slice_get s.tops p.top) = slice_get-map size_of s.tops p.top in
    let below : is_below p (option_map size_of (slice_get s.tops p.top)) ≡ true = subst (λ (o : Option TopSize). is_below p o ≡ true) is inside in
    let both = below_sectors p (option_map size_of (slice_get s.tops p.top)) below in
    let some : 0 < p.sectors = both.0 in
    let end : end_of p ≤ 2 ^ 39 = ends_low p (slice_get s.tops p.top) (short_top s.tops p.top tops) both.1 below in
    all_map Fits (spot_in p) (leaves_of s p)
    (all_true (λ (leaf : ℕ). Fits (spot_in p leaf)) (leaves_of s p)
    (λ leaf. record { some = omega arith; small = omega arith; device = omega arith }))

pointer_fits : (s : Setting) (bp : Bp) → AllByRecursion IsScrubTop s.tops → IsPlacedIn (sizes_of s.tops) bp → AllByRecursion Fits (spots_of s (places_of bp))
pointer_fits s bp tops placed =
    let parts = valid_parts bp placed.ok in
    all_spots Fits s (places_of bp)
    (all_lists (λ (p : Place). IsTrue (is_present bp p)) (λ (p : Place). IsTrue (is_inside (sizes_of s.tops) p))
    (λ (p : Place). AllByRecursion Fits (map (spot_in p) (leaves_of s p))) (places_of bp)
    (λ p present inside. place_fits s bp p tops parts.size.high present inside)
    (all_pass (is_present bp) (places_of bp) parts.present) (all_pass (is_inside (sizes_of s.tops)) (places_of bp) placed.inside))

pointer_copies : (s : Setting) (sizes : List ℕ) (bp : Bp) (size : ℕ) → BearsTops s sizes → AllByRecursion IsScrubTop s.tops
    → IsPlacedIn (sizes_of s.tops) bp → size ≡ piece_size bp → AllByRecursion (IsCopyOn sizes size) (spots_of s (places_of bp))
pointer_copies s sizes bp size bears tops placed e =
    subst (λ (n : ℕ). AllByRecursion (IsCopyOn sizes n) (spots_of s (places_of bp))) (sym e)
    (all_lists (λ (u : Spot). (piece_size bp ≤ u.span) × (u.at + u.span ≤ get_or sizes u.leaf 0)) Fits (IsCopyOn sizes (piece_size bp)) (spots_of s (places_of bp))
    (λ u lies fits. record { some = fits.some; room = lies.0; small = fits.small; device = fits.device; lies = lies.1 })
    (pointer_lies s sizes bp bears placed) (pointer_fits s bp tops placed))

-- ---- the pieces

-- its pointer is valid and inside, and its copies lie on the disks
pub record IsSeenReadable (s : Setting) (sizes : List ℕ) (p : Seen) : Type 0 where
  pub placed : IsPlacedIn (sizes_of s.tops) p.pointer
  pub spots : AllByRecursion (IsCopyOn sizes p.size) (copies_of s p)

tree_readable : (s : Setting) (sizes : List ℕ) (tree : Tree) → BearsTops s sizes → AllByRecursion IsScrubTop s.tops → IsPlacedTree (sizes_of s.tops) tree
    → AllByRecursion (IsSeenReadable s sizes) (pieces_of tree)
tree_readable s sizes tree bears tops placed =
    all_lists (λ (p : Seen). Contains (tree_pointers tree) p.pointer) (λ (p : Seen). p.size ≡ piece_size p.pointer) (IsSeenReadable s sizes) (pieces_of tree)
    (λ p among size.
    let in_tops : IsPlacedIn (sizes_of s.tops) p.pointer = all_contains (IsPlacedIn (sizes_of s.tops)) (tree_pointers tree) p.pointer placed among in
    record { placed = in_tops; spots = pointer_copies s sizes p.pointer p.size bears tops in_tops size })
    (pieces_among tree) (sized tree)

pub all_readable : (s : Setting) (sizes : List ℕ) (trees : List Tree) → BearsTops s sizes → AllByRecursion IsScrubTop s.tops
    → AllByRecursion (IsPlacedTree (sizes_of s.tops)) trees → AllByRecursion (IsSeenReadable s sizes) (pieces_in trees)
all_readable s sizes [] bears tops placed = tt
all_readable s sizes (tree ∷ trees) bears tops placed =
    all_append (IsSeenReadable s sizes) (pieces_of tree) (pieces_in trees) (tree_readable s sizes tree bears tops placed.0)
    (all_readable s sizes trees bears tops placed.1)

seen_pointer : (piece : Piece) → (seen piece).pointer ≡ piece.pointer
seen_pointer piece = by piece.pointer.gang
  where
    by : (t : Bool) → (seen_if t piece.pointer (option_copied piece.kept)).pointer ≡ piece.pointer
    by true = refl
    by false = refl

-- so can be those that the code holds
pub pieces_readable : (s : Setting) (sizes : List ℕ) (trees : List Tree) (pieces : List Piece) → CanScrub s sizes trees → all_seen pieces ≡ pieces_in trees
    → AllByRecursion (IsReadable s sizes) pieces
pieces_readable s sizes trees pieces can e =
    all_weaker (λ (p : Piece). IsSeenReadable s sizes (seen p)) (IsReadable s sizes) pieces
    (λ p h. record { ok = subst (λ (bp : Bp). IsTrue (valid bp)) (seen_pointer p) h.placed.ok; spots = h.spots })
    (all_unmap (IsSeenReadable s sizes) seen pieces
    (subst (AllByRecursion (IsSeenReadable s sizes)) (sym e) (all_readable s sizes trees can.bears can.tops can.placed)))

-- ---- all places of the blocks are inside

places_inside : (tops : List TopSize) (bps : List Bp) → AllByRecursion (IsPlacedIn tops) bps
    → AllByRecursion (λ (p : Place). IsTrue (is_inside tops p)) (flat_map places_of bps)
places_inside tops [] h = tt
places_inside tops (bp ∷ bps) h =
    all_append (λ (p : Place). IsTrue (is_inside tops p)) (places_of bp) (flat_map places_of bps)
    (all_pass (is_inside tops) (places_of bp) h.0.inside) (places_inside tops bps h.1)

pub all_inside : (s : Setting) (trees : List Tree) → AllByRecursion (IsPlacedTree (sizes_of s.tops)) trees → AllInside s (flat_map tree_places trees)
all_inside s [] h = tt
all_inside s (tree ∷ trees) h =
    all_append (λ (p : Place). IsTrue (is_inside (sizes_of s.tops) p)) (tree_places tree) (flat_map tree_places trees)
    (places_inside (sizes_of s.tops) (tree_pointers tree) h.0) (all_inside s trees h.1)

-- ---- there are no more blocks than copies

-- each has a place
abbrev pub HavePlaces : List Seen → Type 0
HavePlaces ps = AllByRecursion (λ (p : Seen). 1 ≤ length (places_of p.pointer)) ps

pub seen_places : (pieces : List Piece) (ps : List Seen) → all_seen pieces ≡ ps → AllByRecursion (λ (p : Piece). 1 ≤ length (places_of p.pointer)) pieces → HavePlaces ps
seen_places pieces ps e h =
    subst HavePlaces e
    (all_map (λ (p : Seen). 1 ≤ length (places_of p.pointer)) seen pieces
    (all_weaker (λ (p : Piece). 1 ≤ length (places_of p.pointer)) (λ (p : Piece). 1 ≤ length (places_of (seen p).pointer)) pieces
    (λ p k. subst (λ (bp : Bp). 1 ≤ length (places_of bp)) (sym (seen_pointer p)) k) h))

top_some : (p : Place) (top : Option Top) → IfSome top IsScrubTop → is_below p (option_map size_of top) ≡ true → 1 ≤ length (leaves_of_top top)
top_some p None short inside = absurd (cc)
top_some p (Some top) short inside = let a = short.some in omega arith

place_some : (s : Setting) (p : Place) → AllByRecursion IsScrubTop s.tops → IsTrue (is_inside (sizes_of s.tops) p) → 1 ≤ length (map (spot_in p) (leaves_of s p))
place_some s p tops inside =
    let is : slice_get (sizes_of s.tops) p.top ≡ option_map size_of (slice_get s.tops p.top) = slice_get-map size_of s.tops p.top in
    let some = top_some p (slice_get s.tops p.top) (short_top s.tops p.top tops) (subst (λ (o : Option TopSize). is_below p o ≡ true) is inside) in
    omega (arith, length-map (leaves_of s p) (spot_in p))

pointer_some : (s : Setting) (places : List Place) → AllByRecursion IsScrubTop s.tops → AllInside s places → 1 ≤ length places → 1 ≤ length (spots_of s places)
pointer_some s [] tops inside some = absurd (omega arith)
pointer_some s (p ∷ ps) tops inside some =
    let here = place_some s p tops inside.0 in
    omega (arith, length-append (map (spot_in p) (leaves_of s p)) (spots_of s ps))

pieces_some : (s : Setting) (sizes : List ℕ) (ps : List Seen) → AllByRecursion IsScrubTop s.tops → AllByRecursion (IsSeenReadable s sizes) ps → HavePlaces ps
    → length ps ≤ length (flat_map (copies_of s) ps)
pieces_some s sizes [] tops h k = omega arith
pieces_some s sizes (p ∷ ps) tops h k =
    let here = pointer_some s (places_of p.pointer) tops (all_pass (is_inside (sizes_of s.tops)) (places_of p.pointer) h.0.placed.inside) k.0 in
    let rest = pieces_some s sizes ps tops h.1 k.1 in
    omega (arith, length-append (copies_of s p) (flat_map (copies_of s) ps))

some_if : (t : Bool) (bp : Bp) (head : Seen) (parts : Parts)
    → 1 ≤ length ((parts_if t bp (below_piece head parts)).heads ++ (parts_if t bp (below_piece head parts)).bodies)
some_if true bp head parts = omega arith
some_if false bp head parts = omega arith

some_from : (levels : ℕ) (heads : List Head) (path : List ℕ) (bp : Bp)
    → 1 ≤ length ((parts_from (suc levels) heads path bp).heads ++ (parts_from (suc levels) heads path bp).bodies)
unfolding parts_from
some_from levels heads path bp =
    some_if bp.gang bp (head_piece heads path bp) (parts_of_members (parts_from levels heads) path 0 (members_kept (kept_at heads path)))

tree_some : (tree : Tree) → 1 ≤ length (pieces_of tree)
tree_some tree = some_from 7 tree.heads [] tree.bp

trees_some : (trees : List Tree) → length trees ≤ length (pieces_in trees)
trees_some [] = omega arith
trees_some (tree ∷ trees) =
    let here = tree_some tree in
    let rest = trees_some trees in
    omega (arith, length-append (pieces_of tree) (pieces_in trees))

pub blocks_few : (s : Setting) (sizes : List ℕ) (trees : List Tree) → CanScrub s sizes trees → HavePlaces (pieces_in trees) → length trees < 2 ^ 32
blocks_few s sizes trees can places =
    let few = can.few in
    omega (arith, trees_some trees, pieces_some s sizes (pieces_in trees) can.tops (all_readable s sizes trees can.bears can.tops can.placed) places)
