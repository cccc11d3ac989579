-- What a scrub of pieces comes to, as repairs over the images before.
use Rattle.std.proofs.Common.{◌≡◌, ℕ, ◌+◌, ◌≤◌, List, [], ◌∷◌, ◌++◌, length, length-append, map, true, false, Option, Some, None, Result, Ok, Err, Contains, inr, refl, sym, ap, ◌∙◌, arith}
use Rattle.std.specs.List.{AllByRecursion, flat_map}
use Rattle.zio_types.specs.declared.error.Errno.{Errno}
use Rattle.zio_cksum.specs.Blocks.{judged}
use Rattle.zio_cksum.specs.Images.{Images, Setting, Spot, image_of, met, padded_to, read_leaf, write_leaf}
use Rattle.zio_cksum.proofs.AllLemmas.{all_contained, all_weaker}
use Rattle.zio_gang.specs.Pieces.{Piece}
use Rattle.zio_trace.specs.Leaves.{AreClear, Fetch, HaveSizes, LeafOp, LiesOn, Store}
use Rattle.zio_trace.specs.TreeOrders.{Pairs}
use Rattle.zio_trace.proofs.LeafLemmas.{leaves_commute, met_answer}
use Rattle.zio_trace.proofs.PairLemmas.{pairs_across, pairs_rest}
use Rattle.zio_scrub.specs.declared.repairs.Repair.{Repair}
use Rattle.zio_scrub.specs.Scrubs.{PieceLies, ScrubIs, all_lost, all_repairs, bad_among, bad_if, copies_of, copy_read, error_of, failed_in, first_found, lost_of, lost_with, mend, one_failed, one_written, repaired_in, repairs_of, repairs_with, scrub_pieces, total}

-- ---- reads that are the same

abbrev Reads : Type 0
Reads = Spot → Result (List ℕ) Errno

bad_cons : (f g : Result (List ℕ) Errno) (spot : Spot) (xs ys : List Spot) → f ≡ g → xs ≡ ys → bad_if f spot xs ≡ bad_if g spot ys
bad_cons f g spot xs ys e h = cc

reads_same : (f g : Reads) (spots : List Spot) → AllByRecursion (λ (u : Spot). f u ≡ g u) spots
    → (map f spots ≡ map g spots) × (bad_among f spots ≡ bad_among g spots)
reads_same f g [] h = (refl, refl)
reads_same f g (u ∷ us) h =
    let rest = reads_same f g us h.1 in
    let first : f u ≡ g u = h.0 in
    let a : map f us ≡ map g us = rest.0 in
    (cc, bad_cons (f u) (g u) u (bad_among f us) (bad_among g us) first rest.1)

-- ---- spots of repairs

bad_by : (P : Spot → Type 0) (r : Result (List ℕ) Errno) (u : Spot) (rest : List Spot) → P u → AllByRecursion P rest → AllByRecursion P (bad_if r u rest)
bad_by P (Ok bytes) u rest h k = k
bad_by P (Err e) u rest h k = (h, k)

bad_in : (P : Spot → Type 0) (read : Reads) (spots : List Spot) → AllByRecursion P spots → AllByRecursion P (bad_among read spots)
bad_in P read [] h = tt
bad_in P read (u ∷ us) h = bad_by P (read u) u (bad_among read us) h.0 (bad_in P read us h.1)

with_in : (P : Spot → Type 0) (found : Option (List ℕ)) (bad : List Spot) → AllByRecursion P bad
    → AllByRecursion (λ (r : Repair). P r.spot) (repairs_with found bad)
with_in P None bad h = tt
with_in P (Some bytes) [] h = tt
with_in P (Some bytes) (u ∷ us) h = (h.0, with_in P (Some bytes) us h.1)

pub repairs_in : (P : Spot → Type 0) (s : Setting) (images : Images) (p : Piece) → AllByRecursion P (copies_of s p)
    → AllByRecursion (λ (r : Repair). P r.spot) (repairs_of s images p)
repairs_in P s images p h =
    with_in P (first_found (map (copy_read s images p) (copies_of s p))) (bad_among (copy_read s images p) (copies_of s p))
    (bad_in P (copy_read s images p) (copies_of s p) h)

-- ---- writes elsewhere

abbrev pub FitsOn : Images → Spot → Type 0
FitsOn images spot = spot.at + spot.span ≤ length (image_of images spot.leaf)

abbrev pub sizes_in : Images → ℕ → ℕ
sizes_in images leaf = length (image_of images leaf)

abbrev pub as_store : Repair → LeafOp
as_store r = Store false r.bytes r.spot

-- a read is the same after writes that are clear of it
pub mend_elsewhere : (s : Setting) (sizes : ℕ → ℕ) (rs : List Repair) (images : Images) (len : ℕ) (u : Spot)
    → HaveSizes sizes images → LiesOn sizes (Fetch false len u) → AllByRecursion (λ (r : Repair). LiesOn sizes (as_store r)) rs
    → AllByRecursion (λ (r : Repair). AreClear r.spot u) rs
    → read_leaf s false (mend s rs images).images len u ≡ read_leaf s false images len u
mend_elsewhere s sizes [] images len u have lies all clear = refl
mend_elsewhere s sizes (r ∷ rs) images len u have lies all clear =
    let c = leaves_commute s sizes in
    let now : Images = (write_leaf s false r.bytes images r.spot).images in
    mend_elsewhere s sizes rs now len u (c.sound (as_store r) images have all.0) lies all.1 clear.1
    ∙ c.answer (as_store r) (Fetch false len u) images (inr clear.0) have all.0 lies

pub mend_sizes : (s : Setting) (sizes : ℕ → ℕ) (rs : List Repair) (images : Images) → HaveSizes sizes images
    → AllByRecursion (λ (r : Repair). LiesOn sizes (as_store r)) rs → HaveSizes sizes (mend s rs images).images
mend_sizes s sizes [] images have all = have
mend_sizes s sizes (r ∷ rs) images have all =
    mend_sizes s sizes rs (write_leaf s false r.bytes images r.spot).images
    ((leaves_commute s sizes).sound (as_store r) images have all.0) all.1

-- ---- repairs in turn

pub mend_images : (s : Setting) (xs ys : List Repair) (images : Images)
    → (mend s (xs ++ ys) images).images ≡ (mend s ys (mend s xs images).images).images
mend_images s [] ys images = refl
mend_images s (x ∷ xs) ys images = mend_images s xs ys (write_leaf s false x.bytes images x.spot).images

pub errors_are : (s : Setting) (rs : List Repair) (images : Images) → (mend s rs images).errors ≡ map (error_of s) rs
errors_are s [] images = refl
errors_are s (r ∷ rs) images =
    let first : (write_leaf s false r.bytes images r.spot).error ≡ error_of s r =
    met_answer (met s false true r.spot) images [] r.spot (padded_to r.spot.span r.bytes) in
    let rest = errors_are s rs (write_leaf s false r.bytes images r.spot).images in
    cc

-- ---- pieces

pub lies_as_store : (sizes : ℕ → ℕ) (s : Setting) (images : Images) (p : Piece) → PieceLies sizes s p
    → AllByRecursion (λ (r : Repair). LiesOn sizes (as_store r)) (repairs_of s images p)
lies_as_store sizes s images p h =
    all_weaker (λ (r : Repair). LiesOn sizes (Fetch false p.size r.spot)) (λ (r : Repair). LiesOn sizes (as_store r)) (repairs_of s images p)
    (λ r l. record { room = omega arith; lies = l.lies })
    (repairs_in (λ (u : Spot). LiesOn sizes (Fetch false p.size u)) s images p h)

-- what a piece asks for is the same after repairs that are clear of its copies
pub piece_same : (s : Setting) (sizes : ℕ → ℕ) (rs : List Repair) (images : Images) (q : Piece) → HaveSizes sizes images → PieceLies sizes s q
    → AllByRecursion (λ (r : Repair). LiesOn sizes (as_store r)) rs
    → AllByRecursion (λ (u : Spot). AllByRecursion (λ (r : Repair). AreClear r.spot u) rs) (copies_of s q)
    → (map (copy_read s (mend s rs images).images q) (copies_of s q) ≡ map (copy_read s images q) (copies_of s q))
    × (bad_among (copy_read s (mend s rs images).images q) (copies_of s q) ≡ bad_among (copy_read s images q) (copies_of s q))
piece_same s sizes rs images q have lies all clear =
    reads_same (copy_read s (mend s rs images).images q) (copy_read s images q) (copies_of s q) (each (copies_of s q) lies clear)
  where
    each : (us : List Spot) → AllByRecursion (λ (u : Spot). LiesOn sizes (Fetch false q.size u)) us
        → AllByRecursion (λ (u : Spot). AllByRecursion (λ (r : Repair). AreClear r.spot u) rs) us
        → AllByRecursion (λ (u : Spot). copy_read s (mend s rs images).images q u ≡ copy_read s images q u) us
    each [] l c = tt
    each (u ∷ us) l c = (ap (judged q.good) (mend_elsewhere s sizes rs images q.size u have l.0 all c.0), each us l.1 c.1)

pieces_same : (s : Setting) (sizes : ℕ → ℕ) (rs : List Repair) (images : Images) (qs : List Piece) → HaveSizes sizes images
    → AllByRecursion (PieceLies sizes s) qs → AllByRecursion (λ (r : Repair). LiesOn sizes (as_store r)) rs
    → AllByRecursion (λ (u : Spot). AllByRecursion (λ (r : Repair). AreClear r.spot u) rs) (flat_map (copies_of s) qs)
    → (all_repairs s (mend s rs images).images qs ≡ all_repairs s images qs) × (all_lost s (mend s rs images).images qs ≡ all_lost s images qs)
pieces_same s sizes rs images [] have lies all clear = (refl, refl)
pieces_same s sizes rs images (q ∷ qs) have lies all clear =
    let here = piece_same s sizes rs images q have lies.0 all (front (copies_of s q) (flat_map (copies_of s) qs) clear) in
    let rest = pieces_same s sizes rs images qs have lies.1 all (back (copies_of s q) (flat_map (copies_of s) qs) clear) in
    let reads : map (copy_read s (mend s rs images).images q) (copies_of s q) ≡ map (copy_read s images q) (copies_of s q) = here.0 in
    let bad : bad_among (copy_read s (mend s rs images).images q) (copies_of s q) ≡ bad_among (copy_read s images q) (copies_of s q) = here.1 in
    let mine : repairs_of s (mend s rs images).images q ≡ repairs_of s images q = cc in
    let lost : lost_of s (mend s rs images).images q ≡ lost_of s images q =
    ap (λ (reads : List (Result (List ℕ) Errno)). lost_with (first_found reads) (length (copies_of s q))) reads in
    ((λ i. mine i ++ rest.0 i), (λ i. lost i + rest.1 i))
  where
    P : Spot → Type 0
    P = λ (u : Spot). AllByRecursion (λ (r : Repair). AreClear r.spot u) rs

    front : (xs ys : List Spot) → AllByRecursion P (xs ++ ys) → AllByRecursion P xs
    front [] ys h = tt
    front (x ∷ xs) ys h = (h.0, front xs ys h.1)

    back : (xs ys : List Spot) → AllByRecursion P (xs ++ ys) → AllByRecursion P ys
    back [] ys h = h
    back (x ∷ xs) ys h = back xs ys h.1

counts_join : (f : Option Errno → ℕ) (s : Setting) (rs qs : List Repair) (images : Images) (n : ℕ)
    → n ≡ total f (map (error_of s) qs)
    → total f (mend s rs images).errors + n ≡ total f (map (error_of s) (rs ++ qs))
counts_join f s [] qs images n e = omega (arith, e)
counts_join f s (r ∷ rs) qs images n e =
    let rest = counts_join f s rs qs (write_leaf s false r.bytes images r.spot).images n e in
    let first : (write_leaf s false r.bytes images r.spot).error ≡ error_of s r =
    met_answer (met s false true r.spot) images [] r.spot (padded_to r.spot.span r.bytes) in
    let same : f (write_leaf s false r.bytes images r.spot).error ≡ f (error_of s r) = ap f first in
    omega (arith, rest, same)

-- The pieces in turn come to the repairs that the images before ask for, one after another.
pub scrub_is : (s : Setting) (sizes : ℕ → ℕ) (images : Images) (ps : List Piece) → HaveSizes sizes images
    → AllByRecursion (PieceLies sizes s) ps → Pairs AreClear (flat_map (copies_of s) ps) → ScrubIs s images ps
scrub_is s sizes images [] have lies pairs =
    record { images_are = refl; copies_are = refl; repaired_are = refl; failed_are = refl; lost_are = refl }
scrub_is s sizes images (p ∷ ps) have lies pairs =
    let rs : List Repair = repairs_of s images p in
    let qs : List Repair = all_repairs s images ps in
    let now : Images = (mend s rs images).images in
    let stores = lies_as_store sizes s images p lies.0 in
    let clear : AllByRecursion (λ (u : Spot). AllByRecursion (λ (r : Repair). AreClear r.spot u) rs) (flat_map (copies_of s) ps) =
    all_weaker (λ (u : Spot). Contains (flat_map (copies_of s) ps) u) (λ (u : Spot). AllByRecursion (λ (r : Repair). AreClear r.spot u) rs)
    (flat_map (copies_of s) ps)
    (λ u cu. all_weaker (λ (r : Repair). Contains (copies_of s p) r.spot) (λ (r : Repair). AreClear r.spot u) rs
    (λ r ct. pairs_across AreClear (copies_of s p) (flat_map (copies_of s) ps) r.spot u pairs ct cu)
    (repairs_in (λ (t : Spot). Contains (copies_of s p) t) s images p (all_contained (copies_of s p))))
    (all_contained (flat_map (copies_of s) ps)) in
    let same = pieces_same s sizes rs images ps have lies.1 stores clear in
    let rest = scrub_is s sizes now ps (mend_sizes s sizes rs images have stores) lies.1
    (pairs_rest AreClear (copies_of s p) (flat_map (copies_of s) ps) pairs) in
    record {
      images_are = rest.images_are ∙ ap (λ (q : List Repair). (mend s q now).images) same.0 ∙ sym (mend_images s rs qs images);
      copies_are = omega (arith, rest.copies_are, length-append (copies_of s p) (flat_map (copies_of s) ps));
      repaired_are = counts_join one_written s rs qs images (scrub_pieces s ps now).repaired
          (rest.repaired_are ∙ ap (λ (q : List Repair). repaired_in (map (error_of s) q)) same.0);
      failed_are = counts_join one_failed s rs qs images (scrub_pieces s ps now).failed
          (rest.failed_are ∙ ap (λ (q : List Repair). failed_in (map (error_of s) q)) same.0);
      lost_are = (λ i. lost_of s images p + rest.lost_are i) ∙ (λ i. lost_of s images p + same.1 i);
    }
