-- The blocks of a pool can be scrubbed.
use Rattle.std.proofs.Common.{◌≡◌, ℕ, zero, suc, ◌*◌, ◌<◌, ◌≤◌, ◌^◌, List, [], ◌∷◌, length, length-append, map, get_or, slice_get, true, Option, Some, None, option_map, IsTrue, ap, subst, arith}
use Rattle.std.specs.List.{AllByRecursion, flat_map}
use Rattle.std.proofs.lemmas.List.{length-map}
use Rattle.std.proofs.lemmas.Option.{slice_get-map}
use Rattle.zio_types.specs.declared.place.Place.{Place}
use Rattle.zio_types.specs.declared.place.Top.{Top}
use Rattle.zio_types.specs.declared.place.TopSize.{TopSize}
use Rattle.zio_types.specs.Places.{end_of, is_below, is_inside}
use Rattle.zio_blkptr.specs.declared.pointer.Bp.{Bp}
use Rattle.zio_blkptr.specs.Pointers.{places_of, valid}
use Rattle.zio_cksum.specs.Blocks.{leaves_of, leaves_of_top, spot_in}
use Rattle.zio_cksum.specs.Frames.{spots_of}
use Rattle.zio_cksum.specs.Headers.{members_of}
use Rattle.zio_cksum.specs.Images.{Setting, Spot}
use Rattle.zio_cksum.proofs.AllLemmas.{all_append, all_contains, all_weaker}
use Rattle.zio_cksum.proofs.PlaceSets.{pass_all}
use Rattle.zio_gang.specs.declared.tree.Head.{Head}
use Rattle.zio_gang.specs.declared.tree.Tree.{Tree}
use Rattle.zio_gang.specs.Trees.{size_of, sizes_of, tree_places, tree_pointers}
use Rattle.zio_disks.specs.Trees.{HasSectors, IsPlacedIn, IsPlacedTree}
use Rattle.zio_disks.proofs.ClaimLemmas.{members_valid}
use Rattle.zio_trace.proofs.ListLemmas.{all_front, all_lists, all_rest}
use Rattle.zio_trace.proofs.PairLemmas.{all_of}
use Rattle.zio_trace.proofs.PlaceLemmas.{below_sectors}
use Rattle.zio_trace.proofs.SpotLemmas.{AllInside}
use Rattle.zio_scrub.specs.Pieces.{CanScrub, IsScrubTop}
use Rattle.zio_scrub.specs.Pools.{AreBlocksIn, HasLeaves, IsPool}
use Rattle.zio_scrub.specs.Scrubs.{pieces_in, spots_in}
use Rattle.zio_scrub.proofs.ClearPieces.{all_pairs, piece_places, places_in, same_spots}
use Rattle.zio_scrub.proofs.PackedPlaces.{IsOn, on_tops, sum_small}

-- ---- tops

small_at : (sizes : List ℕ) (i : ℕ) → AllByRecursion (λ (n : ℕ). n ≤ 2 ^ 28) sizes → get_or sizes i 0 ≤ 2 ^ 28
small_at [] i h = omega arith
small_at (n ∷ ns) zero h = h.0
small_at (n ∷ ns) (suc i) h = small_at ns i h.1

-- a top's sectors
small_top : (sizes : List ℕ) (top : Top) (leaves : List ℕ) → AllByRecursion (λ (n : ℕ). n ≤ 2 ^ 28) sizes → 1 ≤ length leaves
    → AllByRecursion (λ (leaf : ℕ). top.sectors * 512 ≤ get_or sizes leaf 0) leaves → top.sectors ≤ 524288
small_top sizes top [] small some h = absurd (omega arith)
small_top sizes top (leaf ∷ leaves) small some h = let a = h.0 in omega (arith, small_at sizes leaf small)

-- leaves, and few sectors
record IsSmall (top : Top) : Type 0 where
  some : 1 ≤ length top.leaves
  few : length top.leaves ≤ 4
  sectors : top.sectors ≤ 524288

small_tops : (s : Setting) (sizes : List ℕ) → IsPool s sizes → AllByRecursion IsSmall s.tops
small_tops s sizes pool =
    all_lists HasLeaves (HasSectors sizes) IsSmall s.tops
    (λ top l h. record { some = l.some; few = l.few; sectors = small_top sizes top top.leaves pool.small l.some h }) pool.leaves pool.bears.tops

abbrev sectors_of : Option Top → ℕ
sectors_of None = 0
sectors_of (Some top) = top.sectors

abbrev sectors_at : List Top → ℕ → ℕ
sectors_at tops i = sectors_of (slice_get tops i)

few_sectors : (tops : List Top) (i : ℕ) → AllByRecursion IsSmall tops → sectors_at tops i ≤ 524288
few_sectors [] i h = omega arith
few_sectors (top ∷ tops) zero h = h.0.sectors
few_sectors (top ∷ tops) (suc i) h = few_sectors tops i h.1

few_leaves : (tops : List Top) (i : ℕ) → AllByRecursion IsSmall tops → length (leaves_of_top (slice_get tops i)) ≤ 4
few_leaves [] i h = omega arith
few_leaves (top ∷ tops) zero h = h.0.few
few_leaves (top ∷ tops) (suc i) h = few_leaves tops i h.1

-- ---- places

at_top : (tops : List Top) (i : ℕ) (p : Place) → is_below p (option_map size_of (slice_get tops i)) ≡ true → (i < length tops) × (end_of p ≤ sectors_at tops i)
at_top [] i p h = absurd (let no : ⊥ = cc in no)
at_top (top ∷ tops) zero p h = (omega arith, (below_sectors p (Some (size_of top)) h).1)
at_top (top ∷ tops) (suc i) p h = let rest = at_top tops i p h in let low = rest.0 in (omega arith, rest.1)

is_on : (s : Setting) (p : Place) → IsTrue (is_inside (sizes_of s.tops) p) → IsOn (sectors_at s.tops) (length s.tops) p
is_on s p inside =
    let below : is_below p (option_map size_of (slice_get s.tops p.top)) ≡ true =
    subst (λ (o : Option TopSize). is_below p o ≡ true) (slice_get-map size_of s.tops p.top) inside in
    let at = at_top s.tops p.top p below in
    record { top = at.0; some = (below_sectors p (option_map size_of (slice_get s.tops p.top)) below).0; low = at.1 }

few_spots : (s : Setting) (ps : List Place) → AllByRecursion IsSmall s.tops → length (spots_of s ps) ≤ 4 * length ps
few_spots s [] h = omega arith
few_spots s (p ∷ ps) h =
    omega (arith, few_spots s ps h, few_leaves s.tops p.top h, length-map (leaves_of s p) (spot_in p), length-append (map (spot_in p) (leaves_of s p)) (spots_of s ps))

few_copies : (s : Setting) (sizes : List ℕ) (trees : List Tree) → IsPool s sizes → AreBlocksIn s trees → length (spots_in s trees) < 2 ^ 32
few_copies s sizes trees pool blocks =
    let ps : List Place = piece_places (pieces_in trees) in
    let tops = small_tops s sizes pool in
    let inside : AllInside s ps =
    all_of (λ (p : Place). IsTrue (is_inside (sizes_of s.tops) p)) ps
    (λ p c. all_contains (λ (q : Place). IsTrue (is_inside (sizes_of s.tops) q)) (flat_map tree_places trees) p blocks.inside (places_in trees p c)) in
    let on = all_weaker (λ (p : Place). IsTrue (is_inside (sizes_of s.tops) p)) (IsOn (sectors_at s.tops) (length s.tops)) ps (is_on s) inside in
    let packed = on_tops (sectors_at s.tops) (length s.tops) ps on (all_pairs s trees blocks.inside blocks.apart) in
    let sum = sum_small (sectors_at s.tops) (length s.tops) (λ i. few_sectors s.tops i tops) in
    let few = pool.few in
    let spots = few_spots s ps tops in
    let same = ap (λ (us : List Spot). length us) (same_spots s trees) in
    omega (arith, packed, sum, spots, same)

-- ---- blocks

unflat : {X Y : Type 0} (f : X → List Y) (P : Y → Type 0) (xs : List X) → AllByRecursion P (flat_map f xs) → AllByRecursion (λ (x : X). AllByRecursion P (f x)) xs
unflat f P [] h = tt
unflat f P (x ∷ xs) h = (all_front P (f x) (flat_map f xs) h, unflat f P xs (all_rest P (f x) (flat_map f xs) h))

heads_valid : (heads : List Head) → AllByRecursion (λ (m : Bp). IsTrue (valid m)) (flat_map (λ (h : Head). members_of h.bytes) heads)
heads_valid [] = tt
heads_valid (h ∷ heads) =
    all_append (λ (m : Bp). IsTrue (valid m)) (members_of h.bytes) (flat_map (λ (x : Head). members_of x.bytes) heads) (members_valid h.bytes) (heads_valid heads)

placed_tree : (tops : List TopSize) (tree : Tree) → IsTrue (valid tree.bp) → AllByRecursion (λ (p : Place). IsTrue (is_inside tops p)) (tree_places tree) → IsPlacedTree tops tree
placed_tree tops tree ok inside =
    all_lists (λ (m : Bp). IsTrue (valid m)) (λ (m : Bp). AllByRecursion (λ (p : Place). IsTrue (is_inside tops p)) (places_of m)) (IsPlacedIn tops) (tree_pointers tree)
    (λ m v i. record { ok = v; inside = pass_all (is_inside tops) (places_of m) i })
    (ok, heads_valid tree.heads) (unflat places_of (λ (p : Place). IsTrue (is_inside tops p)) (tree_pointers tree) inside)

pub pool_scrub : (s : Setting) (sizes : List ℕ) (trees : List Tree) → IsPool s sizes → AreBlocksIn s trees → CanScrub s sizes trees
pool_scrub s sizes trees pool blocks = record {
  bears = pool.bears;
  tops = all_weaker IsSmall IsScrubTop s.tops (λ top h. let a = h.some in let b = h.sectors in record { some = omega arith; short = omega arith }) (small_tops s sizes pool);
  leaves_once = pool.leaves_once;
  leaves_differ = pool.leaves_differ;
  placed = all_lists (λ (tree : Tree). IsTrue (valid tree.bp)) (λ (tree : Tree). AllByRecursion (λ (p : Place). IsTrue (is_inside (sizes_of s.tops) p)) (tree_places tree))
      (IsPlacedTree (sizes_of s.tops)) trees (λ tree v i. placed_tree (sizes_of s.tops) tree v i) blocks.valid
      (unflat tree_places (λ (p : Place). IsTrue (is_inside (sizes_of s.tops) p)) trees blocks.inside);
  apart = blocks.apart;
  few = few_copies s sizes trees pool blocks;
}
