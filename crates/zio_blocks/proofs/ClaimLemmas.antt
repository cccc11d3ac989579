-- A block whose places fit can be claimed, and what a claim comes to after its walk.
use Rattle.std.proofs.Common.{◌≡◌, ℕ, ◌/◌, ◌%◌, List, [], ◌∷◌, ap, refl, sym, subst, ◌∙◌, eq-eqb, eqb-true, IfOk, IsTrue}
use Rattle.std.specs.Prelude.{Bool, true, false, Option, Some, None, Result, Ok, Err, ◌==◌}
use Rattle.std.specs.List.{AllByRecursion, flat_map, list_all}
use Rattle.std.proofs.lemmas.Bool.{and_from, and_parts, false≢true}
use Rattle.std.proofs.lemmas.List.Folds.{list_all-append}
use Rattle.std.proofs.lemmas.Result.{IfOk-weaker}
use Rattle.zio_types.specs.declared.error.Errno.{Errno}
use Rattle.zio_types.specs.declared.place.Place.{Place}
use Rattle.zio_types.specs.declared.place.TopSize.{TopSize}
use Rattle.zio_types.specs.Places.{fits_on, fits_size, is_aligned, is_aligned_on, is_inside, rounded_to, sector_size}
use Rattle.zio_places.specs.Spaces.{are_on_tops, is_on_top}
use Rattle.zio_places.proofs.UnitLemmas.{rounded-whole}
use Rattle.zio_blkptr.specs.declared.pointer.Bp.{Bp}
use Rattle.zio_blkptr.specs.Pointers.{places_of, pointer_of}
use Rattle.zio_cksum.specs.Images.{Images, Setting}
use Rattle.zio_gang.specs.declared.tree.Tree.{Tree}
use Rattle.zio_gang.specs.Trees.{Claimed, Walk, claim_pointer, claim_tree, claim_visit, claimed_found, claimed_free, is_claimable, piece_size, tree_places, tree_pointers, unless_errors, walk_tree}
use Rattle.zio_disks.specs.Claims.{claim_walk, walked_from}
use Rattle.zio_disks.specs.Whole.{IsFitting, IsFittingTree}

-- ---- places that fit lie on their tops

aligned_on : (size : ℕ) (p : Place) (o : Option TopSize) → IsTrue (fits_on size p o) → is_aligned_on p o ≡ true
aligned_on size p None h = absurd (false≢true h)
aligned_on size p (Some top) h =
    let taken : ℕ = rounded_to top.unit (size / sector_size) in
    let f = and_parts (p.sector % top.unit == 0) (p.sectors == taken) h in
    and_from (p.sector % top.unit == 0) (p.sectors % top.unit == 0) f.0
    (eq-eqb (p.sectors % top.unit) 0 (ap (λ n. n % top.unit) (eqb-true p.sectors taken f.1) ∙ rounded-whole top.unit (size / sector_size)))

places_on_tops : (tops : List TopSize) (size : ℕ) (places : List Place) → IsTrue (list_all (is_claimable tops size) places) → are_on_tops tops places ≡ true
places_on_tops tops size [] h = refl
places_on_tops tops size (p ∷ ps) h =
    let both = and_parts (is_claimable tops size p) (list_all (is_claimable tops size) ps) h in
    let here = and_parts (is_inside tops p) (fits_size tops size p) both.0 in
    and_from (is_on_top tops p) (are_on_tops tops ps)
    (and_from (is_inside tops p) (is_aligned tops p) here.0 (aligned_on size p _ here.1))
    (places_on_tops tops size ps both.1)

pointers_on_tops : (tops : List TopSize) (bps : List Bp) → AllByRecursion (IsFitting tops) bps → are_on_tops tops (flat_map places_of bps) ≡ true
pointers_on_tops tops [] h = refl
pointers_on_tops tops (bp ∷ bps) h =
    list_all-append (is_on_top tops) (places_of bp) (flat_map places_of bps)
    ∙ and_from (are_on_tops tops (places_of bp)) (are_on_tops tops (flat_map places_of bps)) (places_on_tops tops (piece_size bp) (places_of bp) h.0) (pointers_on_tops tops bps h.1)

pub tree_on_tops : (tops : List TopSize) (tree : Tree) → IsFittingTree tops tree → are_on_tops tops (tree_places tree) ≡ true
tree_on_tops tops tree h = pointers_on_tops tops (tree_pointers tree) h

-- ---- after the walk

-- What a claim comes to, by what its walk came to.
pub record FollowsOn (used : List Place) (walked claimed : Claimed) : Type 0 where
  pub good : (tree : Tree) → Ok tree ≡ walked.tree → claimed.tree ≡ claimed_free used tree
  pub bad : (e : Errno) → Err e ≡ walked.tree → claimed.tree ≡ Err e
  pub images : claimed.images ≡ walked.images

found_good : (used : List Place) (errors : List (Option Errno)) (walked tree : Tree) → Ok tree ≡ unless_errors errors walked → claimed_found used errors walked ≡ claimed_free used tree
found_good used [] walked tree e = let same : walked ≡ tree = cc in ap (claimed_free used) same
found_good used (x ∷ xs) walked tree e = absurd (let f = e in cc)

found_bad : (used : List Place) (errors : List (Option Errno)) (walked : Tree) (error : Errno) → Err error ≡ unless_errors errors walked → claimed_found used errors walked ≡ Err error
found_bad used [] walked error e = absurd (let f = e in cc)
found_bad used (x ∷ xs) walked error e = sym e

follows_from : (s : Setting) (used : List Place) (o : Option Bp) (images : Images) → FollowsOn used (walked_from s o images) (claim_pointer s used o images)
follows_from s used None images = record {
  good = λ tree e. absurd (let f = e in cc);
  bad = λ error e. sym e;
  images = refl;
}
follows_from s used (Some bp) images =
    let w : Walk = walk_tree (claim_visit s) bp images in
    let tree : Tree = record { bp = bp; heads = w.heads } in
    record {
      good = λ t e. found_good used w.errors tree t e;
      bad = λ error e. found_bad used w.errors tree error e;
      images = refl;
    }

pub follows : (s : Setting) (used : List Place) (bytes : List ℕ) (images : Images) → FollowsOn used (claim_walk s bytes images) (claim_tree s used bytes images)
unfolding claim_walk claim_tree
follows s used bytes images = follows_from s used (pointer_of bytes) images

-- ---- the block that was walked is the one that is claimed

pub tree_keeps : {E F G : Type 0} (P : Tree → Type 0) (walked : Result Tree E) (tree : Tree) (answer : Result (Result Tree F) G) → walked ≡ Ok tree → IfOk walked P
    → IfOk answer (λ found. IfOk found (λ claimed. claimed ≡ tree)) → IfOk answer (λ found. IfOk found P)
tree_keeps P walked tree answer is h same =
    let here : P tree = subst (λ r. IfOk r P) is h in
    IfOk-weaker answer _ _ (λ found f. IfOk-weaker found _ _ (λ t (e : t ≡ tree). subst P (sym e) here) f) same

-- a test that doesn't fail
pub passes : (t : Bool) → (t ≡ false → ⊥) → t ≡ true
passes true _ = refl
passes false never = absurd (never refl)
