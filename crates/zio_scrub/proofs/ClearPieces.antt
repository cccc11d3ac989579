-- No two copies of the pieces of blocks have a byte in common, nor have two repairs.
use Rattle.std.proofs.Common.{◌≡◌, ℕ, zero, suc, ◌+◌, List, [], ◌∷◌, ◌++◌, map, Bool, true, false, ◌&&◌, not, Option, Some, None, Result, Ok, Err, Contains, refl, sym, ap, subst, ◌∙◌}
use Rattle.std.specs.List.{AllByRecursion, flat_map}
use Rattle.std.proofs.lemmas.Bool.{and_parts}
use Rattle.std.proofs.lemmas.Grind.{flat_map-append}
use Rattle.zio_types.specs.declared.error.Errno.{Errno}
use Rattle.zio_types.specs.declared.place.Place.{Place}
use Rattle.zio_types.specs.Places.{are_apart, is_free, meets}
use Rattle.zio_blkptr.specs.declared.pointer.Bp.{Bp}
use Rattle.zio_blkptr.specs.Pointers.{places_of}
use Rattle.zio_cksum.specs.Blocks.{leaves_of, spot_in}
use Rattle.zio_cksum.specs.Frames.{spots_of}
use Rattle.zio_cksum.specs.Images.{Images, Setting, Spot}
use Rattle.zio_cksum.proofs.AllLemmas.{all_contained, all_contains, all_map, all_weaker}
use Rattle.zio_gang.specs.declared.tree.Head.{Head}
use Rattle.zio_gang.specs.declared.tree.Tree.{Tree}
use Rattle.zio_gang.specs.Pieces.{Parts, Piece, below_piece, head_piece, members_kept, no_parts, parts_from, parts_if, parts_of, parts_of_members, pieces_of}
use Rattle.zio_gang.specs.Trees.{header_levels_max, kept_at, tree_places, tree_pointers}
use Rattle.zio_trace.specs.BlockCopies.{Copies, Groups, below_copies, copies_from, copies_of as groups_in, groups_if, groups_of, groups_of_members, head_copies, no_groups}
use Rattle.zio_trace.specs.Leaves.{AreClear}
use Rattle.zio_trace.specs.Separate.{LeavesOnce}
use Rattle.zio_trace.specs.SoundRounds.{LeavesDiffer}
use Rattle.zio_trace.specs.TreeOrders.{Pairs}
use Rattle.zio_trace.proofs.ChoiceLemmas.{meets_none}
use Rattle.zio_trace.proofs.ListLemmas.{all_front, all_rest}
use Rattle.zio_trace.proofs.OwnBlocks.{block_apart, piece_own}
use Rattle.zio_trace.proofs.PairLemmas.{Across, all_of, contains_flat, flat_contains, pairs_across, pairs_append, pairs_each, pairs_flat, pairs_lists, pairs_stronger}
use Rattle.zio_trace.proofs.PlaceLemmas.{DontMeet, inside_dont}
use Rattle.zio_trace.proofs.SeparateLemmas.{pieces_among}
use Rattle.zio_trace.proofs.SpotLemmas.{AllInside, own_spots}
use Rattle.zio_scrub.specs.declared.repairs.Repair.{Repair}
use Rattle.zio_scrub.specs.Repairs.{ClearOf}
use Rattle.zio_scrub.specs.Scrubs.{all_repairs, bad_among, bad_if, copies_of, copy_read, first_found, pieces_in, repairs_of, repairs_with, spots_in}
use Rattle.zio_scrub.proofs.MendLemmas.{repairs_in}

-- ---- where the pieces of a block lie

abbrev pub piece_places : List Piece → List Place
piece_places ps = flat_map (λ (p : Piece). places_of p.pointer) ps

abbrev copy_places : List Copies → List Place
copy_places cs = flat_map (λ (c : Copies). c.places) cs

-- the pieces lie where the copies that are read of a block do
abbrev Same : Parts → Groups → Type 0
Same parts groups = (piece_places parts.heads ≡ copy_places groups.heads) × (piece_places parts.bodies ≡ copy_places groups.bodies)

both_same : (xs ys : List Piece) (cs ds : List Copies) → piece_places xs ≡ copy_places cs → piece_places ys ≡ copy_places ds
    → piece_places (xs ++ ys) ≡ copy_places (cs ++ ds)
both_same xs ys cs ds e f =
    flat_map-append (λ (p : Piece). places_of p.pointer) xs ys ∙ (λ i. e i ++ f i) ∙ sym (flat_map-append (λ (c : Copies). c.places) cs ds)

if_same : (gang : Bool) (bp : Bp) (parts : Parts) (groups : Groups) → Same parts groups → Same (parts_if gang bp parts) (groups_if gang bp groups)
if_same true bp parts groups h = h
if_same false bp parts groups h = (refl, refl)

members_same : (parts : List ℕ → Bp → Parts) (groups : List ℕ → Bp → Groups) → ((path : List ℕ) (bp : Bp) → Same (parts path bp) (groups path bp))
    → (path : List ℕ) (n : ℕ) (ms : List Bp) → Same (parts_of_members parts path n ms) (groups_of_members groups path n ms)
members_same parts groups one path n [] = (refl, refl)
members_same parts groups one path n (m ∷ ms) =
    let first = one (path ++ n ∷ []) m in
    let rest = members_same parts groups one path (n + 1) ms in (
      both_same (parts (path ++ n ∷ []) m).heads _ (groups (path ++ n ∷ []) m).heads _ first.0 rest.0,
      both_same (parts (path ++ n ∷ []) m).bodies _ (groups (path ++ n ∷ []) m).bodies _ first.1 rest.1,
    )

from_same : (levels : ℕ) (heads : List Head) (path : List ℕ) (bp : Bp) → Same (parts_from levels heads path bp) (copies_from levels heads path bp)
unfolding parts_from copies_from
from_same zero heads path bp = if_same bp.gang bp no_parts no_groups (refl, refl)
from_same (suc levels) heads path bp =
    let members : List Bp = members_kept (kept_at heads path) in
    let h = members_same (parts_from levels heads) (copies_from levels heads) (from_same levels heads) path 0 members in
    if_same bp.gang bp (below_piece (head_piece heads path bp) (parts_of_members (parts_from levels heads) path 0 members))
    (below_copies (head_copies heads path bp) (groups_of_members (copies_from levels heads) path 0 members))
    (ap (λ (ps : List Place). places_of bp ++ ps) h.0, h.1)

same_places : (tree : Tree) → piece_places (pieces_of tree) ≡ copy_places (groups_in tree)
same_places tree =
    let h = from_same header_levels_max tree.heads [] tree.bp in
    both_same (parts_of tree).heads (parts_of tree).bodies (groups_of tree).heads (groups_of tree).bodies h.0 h.1

-- no two places of a block's pieces meet
tree_pairs : (s : Setting) (tree : Tree) → AllInside s (tree_places tree) → are_apart (tree_places tree) ≡ true
    → Pairs DontMeet (piece_places (pieces_of tree))
tree_pairs s tree inside own =
    subst (Pairs DontMeet) (sym (same_places tree))
    (pairs_flat DontMeet (λ (c : Copies). c.places) (groups_in tree) (block_apart s tree inside own)
    (all_of (λ (c : Copies). Pairs DontMeet c.places) (groups_in tree) (piece_own s tree inside own)))

-- ---- where those of all blocks lie

place_in : (tree : Tree) (p : Place) → Contains (piece_places (pieces_of tree)) p → Contains (tree_places tree) p
place_in tree p c =
    let x = contains_flat (λ (q : Piece). places_of q.pointer) (pieces_of tree) p c in
    flat_contains places_of (tree_pointers tree) x.0.pointer p
    (all_contains (λ (q : Piece). Contains (tree_pointers tree) q.pointer) (pieces_of tree) x.0 (pieces_among tree) x.1) x.2

pub places_in : (trees : List Tree) (p : Place) → Contains (piece_places (pieces_in trees)) p → Contains (flat_map tree_places trees) p
places_in trees p c =
    let x = contains_flat (λ (q : Piece). places_of q.pointer) (pieces_in trees) p c in
    let t = contains_flat pieces_of trees x.0 x.1 in
    flat_contains tree_places trees t.0 p t.1
    (place_in t.0 p (flat_contains (λ (q : Piece). places_of q.pointer) (pieces_of t.0) x.0 p t.2 x.2))

front_apart : (xs ys : List Place) → are_apart (xs ++ ys) ≡ true → are_apart xs ≡ true
front_apart [] ys h = refl
front_apart (x ∷ xs) ys h =
    let both = and_parts (is_free (xs ++ ys) x) (are_apart (xs ++ ys)) h in
    both_true (is_free xs x) (are_apart xs) (free_front xs ys x both.0) (front_apart xs ys both.1)
  where
    both_true : (a b : Bool) → a ≡ true → b ≡ true → (a && b) ≡ true
    both_true a b e f = (λ i. e i && f i)

    free_front : (xs ys : List Place) (x : Place) → is_free (xs ++ ys) x ≡ true → is_free xs x ≡ true
    free_front [] ys x h = refl
    free_front (y ∷ xs) ys x h =
        let both = and_parts (not (meets x y)) (is_free (xs ++ ys) x) h in
        both_true (not (meets x y)) (is_free xs x) both.0 (free_front xs ys x both.1)

rest_apart : (xs ys : List Place) → are_apart (xs ++ ys) ≡ true → are_apart ys ≡ true
rest_apart [] ys h = h
rest_apart (x ∷ xs) ys h = rest_apart xs ys (and_parts (is_free (xs ++ ys) x) (are_apart (xs ++ ys)) h).1

apart_pairs : (ps : List Place) → are_apart ps ≡ true → Pairs (λ (p q : Place). meets p q ≡ false) ps
apart_pairs [] h = tt
apart_pairs (p ∷ ps) h = let both = and_parts (is_free ps p) (are_apart ps) h in (meets_none ps p both.0, apart_pairs ps both.1)

dont_pairs : (s : Setting) (ps : List Place) → AllInside s ps → are_apart ps ≡ true → Pairs DontMeet ps
dont_pairs s ps inside apart =
    pairs_stronger DontMeet (λ (p q : Place). meets p q ≡ false) ps
    (λ p q cp cq none. inside_dont s p q (all_contains _ ps p inside cp) (all_contains _ ps q inside cq) none) (apart_pairs ps apart)

pub all_pairs : (s : Setting) (trees : List Tree) → AllInside s (flat_map tree_places trees) → are_apart (flat_map tree_places trees) ≡ true
    → Pairs DontMeet (piece_places (pieces_in trees))
all_pairs s [] inside apart = tt
all_pairs s (tree ∷ trees) inside apart =
    let here : List Place = tree_places tree in
    let rest : List Place = flat_map tree_places trees in
    subst (Pairs DontMeet) (sym (flat_map-append (λ (p : Piece). places_of p.pointer) (pieces_of tree) (pieces_in trees)))
    (pairs_append DontMeet (piece_places (pieces_of tree)) (piece_places (pieces_in trees))
    (tree_pairs s tree (all_front _ here rest inside) (front_apart here rest apart))
    (all_pairs s trees (all_rest _ here rest inside) (rest_apart here rest apart))
    (λ p q cp cq. pairs_across DontMeet here rest p q (dont_pairs s (here ++ rest) inside apart) (place_in tree p cp) (places_in trees q cq)))

-- ---- copies

flat_flat : {X Y Z : Type 0} (f : X → List Y) (g : Y → List Z) (xs : List X) → flat_map (λ (x : X). flat_map g (f x)) xs ≡ flat_map g (flat_map f xs)
flat_flat f g [] = refl
flat_flat {Z = Z} f g (x ∷ xs) =
    ap (λ (zs : List Z). flat_map g (f x) ++ zs) (flat_flat f g xs) ∙ sym (flat_map-append g (f x) (flat_map f xs))

pub same_spots : (s : Setting) (trees : List Tree) → spots_in s trees ≡ spots_of s (piece_places (pieces_in trees))
same_spots s trees = flat_flat (λ (p : Piece). places_of p.pointer) (λ (p : Place). map (spot_in p) (leaves_of s p)) (pieces_in trees)

pub spots_apart : (s : Setting) (trees : List Tree) → LeavesOnce s.tops → LeavesDiffer s.tops → AllInside s (flat_map tree_places trees)
    → are_apart (flat_map tree_places trees) ≡ true → Pairs AreClear (spots_in s trees)
spots_apart s trees once twice inside apart =
    subst (Pairs AreClear) (sym (same_spots s trees))
    (own_spots s (piece_places (pieces_in trees)) once twice (all_pairs s trees inside apart))

-- ---- repairs

bad_pairs : (R : Spot → Spot → Type 0) (read : Spot → Result (List ℕ) Errno) (us : List Spot) → Pairs R us → Pairs R (bad_among read us)
bad_pairs R read [] h = tt
bad_pairs R read (u ∷ us) h = by (read u) (all_bad us h.0) (bad_pairs R read us h.1)
  where
    all_if : (r : Result (List ℕ) Errno) (v : Spot) (vs : List Spot) → R u v → AllByRecursion (R u) vs → AllByRecursion (R u) (bad_if r v vs)
    all_if (Ok b) v vs a h = h
    all_if (Err e) v vs a h = (a, h)

    all_bad : (vs : List Spot) → AllByRecursion (R u) vs → AllByRecursion (R u) (bad_among read vs)
    all_bad [] h = tt
    all_bad (v ∷ vs) h = all_if (read v) v (bad_among read vs) h.0 (all_bad vs h.1)

    by : (r : Result (List ℕ) Errno) → AllByRecursion (R u) (bad_among read us) → Pairs R (bad_among read us) → Pairs R (bad_if r u (bad_among read us))
    by (Ok b) first rest = rest
    by (Err e) first rest = (first, rest)

with_pairs : (found : Option (List ℕ)) (bad : List Spot) → Pairs AreClear bad → Pairs ClearOf (repairs_with found bad)
with_pairs None bad h = tt
with_pairs (Some bytes) [] h = tt
with_pairs (Some bytes) (u ∷ us) h =
    (all_map (ClearOf (record { spot = u; bytes = bytes })) (λ (v : Spot). record { spot = v; bytes = bytes }) us h.0, with_pairs (Some bytes) us h.1)

-- the repairs of all pieces are clear of each other
pub repairs_clear : (s : Setting) (images : Images) (ps : List Piece) → Pairs AreClear (flat_map (copies_of s) ps) → Pairs ClearOf (all_repairs s images ps)
repairs_clear s images ps pairs =
    pairs_flat ClearOf (repairs_of s images) ps
    (pairs_stronger (Across ClearOf (repairs_of s images)) (Across AreClear (copies_of s)) ps
    (λ x y cx cy far r q cr cq. far r.spot q.spot (at x r cr) (at y q cq))
    (pairs_lists AreClear (copies_of s) ps pairs))
    (all_weaker (λ (x : Piece). Pairs AreClear (copies_of s x)) (λ (x : Piece). Pairs ClearOf (repairs_of s images x)) ps
    (λ x own. with_pairs (first_found (map (copy_read s images x) (copies_of s x))) (bad_among (copy_read s images x) (copies_of s x))
    (bad_pairs AreClear (copy_read s images x) (copies_of s x) own))
    (pairs_each AreClear (copies_of s) ps pairs))
  where
    at : (x : Piece) (r : Repair) → Contains (repairs_of s images x) r → Contains (copies_of s x) r.spot
    at x r c =
        all_contains (λ (q : Repair). Contains (copies_of s x) q.spot) (repairs_of s images x) r
        (repairs_in (Contains (copies_of s x)) s images x (all_contained (copies_of s x))) c
