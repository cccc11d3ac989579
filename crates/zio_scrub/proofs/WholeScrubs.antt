-- A scrub of blocks that can be scrubbed, from what is known of them.
use Rattle.std.proofs.Common.{◌≡◌, ℕ, ◌<◌, ◌^◌, List, length, map, false, Contains, sym, ap, subst, arith}
use Rattle.std.specs.List.{AllByRecursion, flat_map}
use Rattle.std.proofs.lemmas.List.{length-map}
use Rattle.zio_cksum.specs.Images.{Images, Setting, Spot}
use Rattle.zio_cksum.proofs.AllLemmas.{all_map, all_weaker}
use Rattle.zio_gang.specs.declared.bound.Bound.{Bound}
use Rattle.zio_gang.specs.declared.tree.Tree.{Tree}
use Rattle.zio_gang.specs.Pieces.{Piece as Seen}
use Rattle.zio_trace.specs.Leaves.{AreClear, Fetch, HaveSizes, LiesOn}
use Rattle.zio_trace.specs.TreeOrders.{Pairs}
use Rattle.zio_scrub.specs.declared.pieces.Piece.{Piece}
use Rattle.zio_scrub.specs.declared.repairs.Repair.{Repair}
use Rattle.zio_scrub.specs.Ends.{AreMended, NoRowHolds}
use Rattle.zio_scrub.specs.Layouts.{HasPlace, IsCopyOn, copies_of_all}
use Rattle.zio_scrub.specs.Pieces.{CanScrub, all_seen, trees_of}
use Rattle.zio_scrub.specs.Repairs.{ClearOf, spots_of_all}
use Rattle.zio_scrub.specs.Scrubs.{PieceLies, ScrubIs, all_repairs, copies_of, pieces_in, scrub_blocks, spots_in}
use Rattle.zio_scrub.proofs.ClearPieces.{repairs_clear, spots_apart}
use Rattle.zio_scrub.proofs.MendLemmas.{scrub_is}
use Rattle.zio_scrub.proofs.MendSteps.{size_at}
use Rattle.zio_scrub.proofs.MendedPieces.{all_mended}
use Rattle.zio_scrub.proofs.ReadablePieces.{IsSeenReadable, all_inside, all_readable, blocks_few, seen_places}

lies_of : (s : Setting) (sizes : List ℕ) (p : Seen) (us : List Spot) → AllByRecursion (IsCopyOn sizes p.size) us
    → AllByRecursion (λ (u : Spot). LiesOn (size_at sizes) (Fetch false p.size u)) us
lies_of s sizes p us h =
    all_weaker (IsCopyOn sizes p.size) (λ (u : Spot). LiesOn (size_at sizes) (Fetch false p.size u)) us (λ u k. record { room = k.room; lies = k.lies }) h

module _ (s : Setting) (sizes : List ℕ) (trees : List Tree) (can : CanScrub s sizes trees) where
  pairs : Pairs AreClear (spots_in s trees)
  pairs = spots_apart s trees can.leaves_once can.leaves_differ (all_inside s trees can.placed) can.apart

  lies : AllByRecursion (PieceLies (size_at sizes) s) (pieces_in trees)
  lies =
      all_weaker (IsSeenReadable s sizes) (PieceLies (size_at sizes) s) (pieces_in trees) (λ p h. lies_of s sizes p (copies_of s p) h.spots)
      (all_readable s sizes trees can.bears can.tops can.placed)

  pub whole_is : (images : Images) → HaveSizes (size_at sizes) images → ScrubIs s images (pieces_in trees)
  whole_is images have = scrub_is s (size_at sizes) images (pieces_in trees) have lies pairs

  pub whole_good : (images : Images) → NoRowHolds s → HaveSizes (size_at sizes) images → AreMended s trees images (scrub_blocks s trees images).images
  unfolding scrub_blocks
  whole_good images quiet have = all_mended s (size_at sizes) (pieces_in trees) images quiet have lies pairs

  pub repairs_apart : (images : Images) (repairs : List Repair) → repairs ≡ all_repairs s images (pieces_in trees) → Pairs ClearOf repairs
  repairs_apart images repairs e = subst (Pairs ClearOf) (sym e) (repairs_clear s images (pieces_in trees) pairs)

  pub few_blocks : (pieces : List Piece) → all_seen pieces ≡ pieces_in trees → AllByRecursion HasPlace pieces → length trees < 2 ^ 32
  few_blocks pieces e h = blocks_few s sizes trees can (seen_places pieces (pieces_in trees) e h)

-- the spots of repairs that are among all copies
pub repairs_spots : (s : Setting) (trees : List Tree) (pieces : List Piece) (repairs : List Repair) → all_seen pieces ≡ pieces_in trees
    → AllByRecursion (λ (r : Repair). Contains (copies_of_all s pieces) r.spot) repairs → AllByRecursion (Contains (spots_in s trees)) (spots_of_all repairs)
repairs_spots s trees pieces repairs e h =
    subst (λ (ps : List Seen). AllByRecursion (Contains (flat_map (copies_of s) ps)) (spots_of_all repairs)) e
    (all_map (Contains (copies_of_all s pieces)) (λ (r : Repair). r.spot) repairs h)

pub trees_length : (bound : List Bound) → length (trees_of bound) ≡ length bound
trees_length bound = length-map bound (λ (b : Bound). b.tree)

pub sizes_length : {D : Type 0} (bytes : D → ℕ) (old new : List D) → map bytes new ≡ map bytes old → length new ≡ length old
sizes_length bytes old new e =
    let l = ap (λ (ns : List ℕ). length ns) e in
    omega (arith, length-map new bytes, length-map old bytes)
