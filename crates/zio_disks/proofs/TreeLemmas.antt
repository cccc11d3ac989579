-- Where a block's copies lie, what its kept headers name, and a walk over them step by step.
use Rattle.std.proofs.Common.{◌≡◌, ℕ, zero, suc, ◌+◌, ◌-◌, ◌*◌, ◌/◌, ◌%◌, ◌^◌, ◌<◌, ◌≤◌, List, [], ◌∷◌, ◌++◌, length, map, get_or, take, drop, Contains, Bool, true, false, ◌&&◌, cond, Option, Some, None, Result, Ok, Err, OnOk, IfOk, IsTrue, nat_lt, nat_le, find, option_map, bytes_eq, slice_get, refl, sym, ap, subst, ◌∙◌, arith, leb-true}
use Rattle.std.specs.List.{AllByRecursion, cons_option, flat_map, list_all}
use Rattle.std.proofs.lemmas.Grind.{flat_map-append}
use Rattle.std.proofs.lemmas.Bool.{and_parts}
use Rattle.std.proofs.lemmas.Slice.Eq.{bytes_eq-Decides}
use Rattle.zio_types.specs.declared.error.Errno.{Errno}
use Rattle.zio_types.specs.declared.error.Errno.TheVariants.{Cksum}
use Rattle.zio_types.specs.declared.place.Place.{Place}
use Rattle.zio_types.specs.declared.place.Top.{Top}
use Rattle.zio_types.specs.Places.{end_of, is_below, is_inside, sector_size}
use Rattle.zio_blkptr.specs.declared.pointer.Bp.{Bp}
use Rattle.zio_blkptr.specs.Pointers.{is_present, is_rounding_of, places_of, pointer_of, sectors_stored}
use Rattle.zio_blkptr.proofs.PointerLemmas.{valid_parts}
use Rattle.zio_blkptr.proofs.Roundings.{near_by_rounding}
use Rattle.zio_cksum.specs.Blocks.{good_kept, leaves_of, leaves_of_top, read_block, spot_in}
use Rattle.zio_cksum.specs.Frames.{spots_of}
use Rattle.zio_cksum.specs.Headers.{members_of}
use Rattle.zio_cksum.specs.Images.{Images, Setting, Spot}
use Rattle.zio_cksum.proofs.AllLemmas.{all_append, all_contains, all_map, all_weaker}
use Rattle.zio_gang.specs.declared.tree.Head.{Head}
use Rattle.zio_gang.specs.declared.tree.Tree.{Tree}
use Rattle.zio_gang.specs.Trees.{Walk, body_walk, kept_at, kept_visit, piece_size, size_of, sizes_of, stopped_walk, then_walk, tree_places, tree_pointers, walk, walk_members, walk_pointer, walk_read}
use Rattle.zio_disks.specs.Disks.{LieOn}
use Rattle.zio_disks.specs.Trees.{BearsTops, HasSectors, IsPlacedIn, members_in}
use Rattle.zio_disks.proofs.WriteLemmas.{among_then, contains_left, contains_right, lies, rest_of}

-- ---- where a pointer's copies lie

inside_top : (sizes : List ℕ) (tops : List Top) (i : ℕ) (p : Place) → AllByRecursion (HasSectors sizes) tops → IsTrue (is_below p (slice_get (map size_of tops) i))
    → AllByRecursion (λ leaf. end_of p * sector_size ≤ get_or sizes leaf 0) (leaves_of_top (slice_get tops i))
inside_top sizes [] i p h inside = absurd (let f = inside in cc)
inside_top sizes (top ∷ tops) zero p h inside =
    let below : end_of p ≤ top.sectors = leb-true (end_of p) top.sectors (and_parts (nat_lt 0 p.sectors) (nat_le (end_of p) top.sectors) inside).1 in
    all_weaker (λ leaf. top.sectors * sector_size ≤ get_or sizes leaf 0) (λ leaf. end_of p * sector_size ≤ get_or sizes leaf 0) top.leaves
    (λ leaf has. omega arith) h.0
inside_top sizes (top ∷ tops) (suc i) p h inside = inside_top sizes tops i p h.1 inside

place_lies : (s : Setting) (sizes : List ℕ) (len : ℕ) (p : Place) → BearsTops s sizes → len ≤ p.sectors * sector_size → IsTrue (is_inside (sizes_of s.tops) p)
    → LieOn sizes len (map (spot_in p) (leaves_of s p))
place_lies s sizes len p bears long inside =
    all_map (lies sizes len) (spot_in p) (leaves_of s p)
    (all_weaker (λ leaf. end_of p * sector_size ≤ get_or sizes leaf 0) (λ leaf. lies sizes len (spot_in p leaf)) (leaves_of s p)
    (λ leaf ends. (long, omega arith))
    (inside_top sizes s.tops p.top p bears.tops inside))

stored_room : (gang : Bool) (size sectors : ℕ) → size % 512 ≡ 0 → IsTrue (is_rounding_of sectors (cond gang 1 (size / 512))) → cond gang sector_size size ≤ sectors * sector_size
stored_room true size sectors whole h = let near = near_by_rounding sectors 1 h in omega arith
stored_room false size sectors whole h = let near = near_by_rounding sectors (size / 512) h in omega arith

places_lie : (s : Setting) (sizes : List ℕ) (bp : Bp) (places : List Place) → BearsTops s sizes → bp.size % 512 ≡ 0
    → IsTrue (list_all (is_present bp) places) → IsTrue (list_all (is_inside (sizes_of s.tops)) places) → LieOn sizes (piece_size bp) (spots_of s places)
places_lie s sizes bp [] bears whole present inside = tt
places_lie s sizes bp (p ∷ places) bears whole present inside =
    let here = and_parts (is_present bp p) (list_all (is_present bp) places) present in
    let within = and_parts (is_inside (sizes_of s.tops) p) (list_all (is_inside (sizes_of s.tops)) places) inside in
    let two = and_parts (is_rounding_of p.sectors (sectors_stored bp) && nat_lt p.top (2 ^ 24)) (nat_lt p.sector (2 ^ 48)) here.0 in
    let one = and_parts (is_rounding_of p.sectors (sectors_stored bp)) (nat_lt p.top (2 ^ 24)) two.0 in
    all_append (lies sizes (piece_size bp)) (map (spot_in p) (leaves_of s p)) (spots_of s places)
    (place_lies s sizes (piece_size bp) p bears (stored_room bp.gang bp.size p.sectors whole one.0) within.0)
    (places_lie s sizes bp places bears whole here.1 within.1)

pub pointer_lies : (s : Setting) (sizes : List ℕ) (bp : Bp) → BearsTops s sizes → IsPlacedIn (sizes_of s.tops) bp → LieOn sizes (piece_size bp) (spots_of s (places_of bp))
pointer_lies s sizes bp bears placed =
    let parts = valid_parts bp placed.ok in
    places_lie s sizes bp (places_of bp) bears parts.size.whole parts.present placed.inside

-- ---- the spots of a block's pointers

spots_append : (s : Setting) (xs ys : List Place) → spots_of s (xs ++ ys) ≡ spots_of s xs ++ spots_of s ys
spots_append s xs ys = flat_map-append (λ p. map (spot_in p) (leaves_of s p)) xs ys

pub pointers_among : (s : Setting) (bps : List Bp) → AllByRecursion (λ bp. AllByRecursion (Contains (spots_of s (flat_map places_of bps))) (spots_of s (places_of bp))) bps
pointers_among s [] = tt
pointers_among s (bp ∷ bps) =
    let here : List Spot = spots_of s (places_of bp) in
    let rest : List Spot = spots_of s (flat_map places_of bps) in
    let all : List Spot = spots_of s (flat_map places_of (bp ∷ bps)) in
    let is : here ++ rest ≡ all = sym (spots_append s (places_of bp) (flat_map places_of bps)) in (
      subst (λ spots. AllByRecursion (Contains spots) here) is (contains_left here rest),
      all_weaker (λ b. AllByRecursion (Contains rest) (spots_of s (places_of b))) (λ b. AllByRecursion (Contains all) (spots_of s (places_of b))) bps
          (λ b h. among_then (spots_of s (places_of b)) rest all h (subst (λ spots. AllByRecursion (Contains spots) rest) is (contains_right here rest)))
          (pointers_among s bps),
    )

pub pointer_among : (s : Setting) (tree : Tree) (bp : Bp) → Contains (tree_pointers tree) bp → AllByRecursion (Contains (spots_of s (tree_places tree))) (spots_of s (places_of bp))
pointer_among s tree bp c =
    all_contains (λ b. AllByRecursion (Contains (spots_of s (tree_places tree))) (spots_of s (places_of b))) (tree_pointers tree) bp (pointers_among s (tree_pointers tree)) c

-- ---- what a kept header names

abbrev members_under : List Head → List Bp
members_under heads = flat_map (λ (h : Head). members_of h.bytes) heads

kept_if : (t : Bool) (head : Head) (heads : List Head) (rest : Option Head) (bytes : List ℕ) → option_map (λ (h : Head). h.bytes) (cond t (Some head) rest) ≡ Some bytes
    → (option_map (λ (h : Head). h.bytes) rest ≡ Some bytes → AllByRecursion (Contains (members_under heads)) (members_of bytes))
    → AllByRecursion (Contains (members_under (head ∷ heads))) (members_of bytes)
kept_if true head heads rest bytes e later =
    let same : head.bytes ≡ bytes = cc in
    subst (λ bs. AllByRecursion (Contains (members_under (head ∷ heads))) (members_of bs)) same (contains_left (members_of head.bytes) (members_under heads))
kept_if false head heads rest bytes e later =
    among_then (members_of bytes) (members_under heads) (members_under (head ∷ heads)) (later e) (contains_right (members_of head.bytes) (members_under heads))

kept_members : (heads : List Head) (path bytes : List ℕ) → kept_at heads path ≡ Some bytes → AllByRecursion (Contains (members_under heads)) (members_of bytes)
kept_members [] path bytes e = absurd (let f = e in cc)
kept_members (head ∷ heads) path bytes e =
    kept_if (bytes_eq head.path path) head heads (find (λ (h : Head). bytes_eq h.path path) heads) bytes e (kept_members heads path bytes)

pub is_kept : (kept : Option (List ℕ)) (bytes : List ℕ) → IsTrue (good_kept kept bytes) → kept ≡ Some bytes
is_kept None bytes h = absurd (let f = h in cc)
is_kept (Some kept) bytes h = ap Some ((bytes_eq-Decides kept bytes).0 h)

-- the members of a header that equals the kept one are pointers of the block
pub good_members : (tree : Tree) (path bytes : List ℕ) → IsTrue (good_kept (kept_at tree.heads path) bytes) → AllByRecursion (Contains (tree_pointers tree)) (members_of bytes)
good_members tree path bytes h =
    among_then (members_of bytes) (members_under tree.heads) (tree_pointers tree)
    (kept_members tree.heads path bytes (is_kept (kept_at tree.heads path) bytes h)) (contains_right (tree.bp ∷ []) (members_under tree.heads))

-- ---- a walk step by step

pub walk_body : (levels : ℕ) (s : Setting) (heads : List Head) (path : List ℕ) (bp : Bp) (images : Images) → bp.gang ≡ false
    → walk levels (kept_visit s heads) path bp images ≡ body_walk bp images
unfolding walk
walk_body zero s heads path bp images g = ap (λ t. walk_pointer None t bp (stopped_walk Cksum) images) g
walk_body (suc levels) s heads path bp images g =
    ap (λ t. walk_pointer None t bp (λ now. walk_read (walk levels (kept_visit s heads)) path ((kept_visit s heads).read_head path bp now)) images) g

pub walk_deep : (levels : ℕ) (s : Setting) (heads : List Head) (path : List ℕ) (bp : Bp) (images : Images) → bp.gang ≡ true → levels ≡ 0
    → walk levels (kept_visit s heads) path bp images ≡ stopped_walk Cksum images
unfolding walk
walk_deep zero s heads path bp images g e = ap (λ t. walk_pointer None t bp (stopped_walk Cksum) images) g
walk_deep (suc levels) s heads path bp images g e = absurd (omega arith)

pub walk_gang : (levels : ℕ) (s : Setting) (heads : List Head) (path : List ℕ) (bp : Bp) (images : Images) → bp.gang ≡ true → 0 < levels
    → walk levels (kept_visit s heads) path bp images
    ≡ walk_read (walk (levels - 1) (kept_visit s heads)) path (read_block s true (good_kept (kept_at heads path)) images sector_size (places_of bp))
unfolding walk
walk_gang zero s heads path bp images g e = absurd (omega arith)
walk_gang (suc levels) s heads path bp images g e =
    let less : levels ≡ suc levels - 1 = omega arith in
    ap (λ t. walk_pointer None t bp (λ now. walk_read (walk levels (kept_visit s heads)) path ((kept_visit s heads).read_head path bp now)) images) g
    ∙ ap (λ n. walk_read (walk n (kept_visit s heads)) path (read_block s true (good_kept (kept_at heads path)) images sector_size (places_of bp))) less

-- a walk below a header that failed, or whose members are these
pub walk_failed : (below : List ℕ → Bp → Images → Walk) (path : List ℕ) (found : Result (List ℕ) Errno) (images : Images) (e : Errno) → Err e ≡ members_in found
    → walk_read below path (record { found = found; images = images }) ≡ stopped_walk e images
walk_failed below path (Ok bytes) images e is = absurd (let f = is in cc)
walk_failed below path (Err f) images e is = let same : f ≡ e = cc in ap (λ x. stopped_walk x images) same

pub record BelowHead (w m : Walk) : Type 0 where
  pub errors : w.errors ≡ m.errors
  pub bodies : w.bodies ≡ m.bodies
  pub images : w.images ≡ m.images

pub walk_below : (below : List ℕ → Bp → Images → Walk) (path : List ℕ) (found : Result (List ℕ) Errno) (images : Images) (members : List Bp) → Ok members ≡ members_in found
    → BelowHead (walk_read below path (record { found = found; images = images })) (walk_members below path 0 members images)
walk_below below path (Ok bytes) images members is =
    let same : members_of bytes ≡ members = cc in
    subst (λ ms. BelowHead (walk_read below path (record { found = Ok bytes; images = images })) (walk_members below path 0 ms images)) same
    (record { errors = refl; bodies = refl; images = refl })
walk_below below path (Err f) images members is = absurd (let g = is in cc)

-- the first member, and then the others
pub walk_first : (below : List ℕ → Bp → Images → Walk) (path : List ℕ) (n : ℕ) (members : List Bp) (any : Bp) (images : Images) → 1 ≤ length members
    → walk_members below path n members images
    ≡ then_walk (below (path ++ n ∷ []) (get_or members 0 any) images) (walk_members below path (n + 1) (take (length members - 1) (drop 1 members)))
walk_first below path n [] any images some = absurd (omega arith)
walk_first below path n (m ∷ ms) any images some =
    ap (λ rest. then_walk (below (path ++ n ∷ []) m images) (walk_members below path (n + 1) rest)) (sym (rest_of m ms))

-- ---- how many members a header names

few_three : (x y z : Option Bp) → length (cons_option x (cons_option y (cons_option z []))) ≤ 3
few_three None None None = omega arith
few_three None None (Some z) = omega arith
few_three None (Some y) None = omega arith
few_three None (Some y) (Some z) = omega arith
few_three (Some x) None None = omega arith
few_three (Some x) None (Some z) = omega arith
few_three (Some x) (Some y) None = omega arith
few_three (Some x) (Some y) (Some z) = omega arith

pub few_members : (bytes : List ℕ) → length (members_of bytes) ≤ 3
few_members bytes = few_three (pointer_of (take 128 bytes)) (pointer_of (take 128 (drop 128 bytes))) (pointer_of (take 128 (drop 256 bytes)))

-- a fact of a result without an error, and what follows from it
pub on_if : {A E P : Type 0} {Q : A → Type 0} (r : Result A E) → OnOk r P → (P → (x : A) → Q x) → IfOk r Q
on_if (Ok x) p f = f p x
on_if (Err e) p f = tt
