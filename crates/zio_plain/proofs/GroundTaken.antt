-- Places of own work: those of a block, and those that entries took.
use Rattle.std.proofs.Common.{◌≡◌, List, [], ◌∷◌, ◌++◌, Bool, refl, sym, subst}
use Rattle.std.specs.Prelude.{true, false, cond, Contains, IsPermutation, IsTrue, Option, Some, None, IfSome}
use Rattle.std.specs.List.{AllByRecursion, flat_map, list_all}
use Rattle.std.proofs.lemmas.Bool.{and_parts}
use Rattle.std.proofs.lemmas.List.{append-nil}
use Rattle.std.proofs.lemmas.List.Sorted.{IsPermutation-refl}
use Rattle.zio_types.specs.declared.place.Place.{Place}
use Rattle.zio_types.specs.declared.place.TopSize.{TopSize}
use Rattle.zio_types.specs.Choices.{Choice, is_refused, taken_by}
use Rattle.zio_types.specs.Places.{SamePlaces, are_apart, are_open, is_free, is_inside}
use Rattle.zio_blkptr.specs.declared.pointer.Bp.{Bp}
use Rattle.zio_blkptr.specs.Pointers.{places_of}
use Rattle.zio_cksum.proofs.AllLemmas.{all_contained, all_contains, all_weaker}
use Rattle.zio_gang.specs.declared.tree.Tree.{Tree}
use Rattle.zio_gang.specs.Trees.{tree_places, tree_pointers}
use Rattle.zio_disks.specs.Trees.{IsPlacedIn, IsPlacedTree}
use Rattle.zio_blocks.specs.Choosers.{IsFound, IsFoundEntry, taken_by_all}
use Rattle.zio_cksum.proofs.PlaceSets.{all_pass, pass_all}
use Rattle.zio_course.specs.Runners.{places_of_block}
use Rattle.zio_plain.specs.GroundPlaces.{inside_append}

pub same_places : (xs : List Place) → SamePlaces xs xs
same_places xs p = (λ h. h, λ h. h)

pub inside_among : (sizes : List TopSize) (xs ys : List Place) → ((p : Place) → Contains ys p → Contains xs p) → IsTrue (list_all (is_inside sizes) xs) → IsTrue (list_all (is_inside sizes) ys)
inside_among sizes xs ys within h =
    pass_all (is_inside sizes) ys
    (all_weaker (Contains ys) (λ p. IsTrue (is_inside sizes p)) ys (λ p c. all_contains (λ q. IsTrue (is_inside sizes q)) xs p (all_pass (is_inside sizes) xs h) (within p c)) (all_contained ys))

placed_inside : (sizes : List TopSize) (bps : List Bp) → AllByRecursion (IsPlacedIn sizes) bps → IsTrue (list_all (is_inside sizes) (flat_map places_of bps))
placed_inside sizes [] h = refl
placed_inside sizes (bp ∷ bps) h = inside_append sizes (places_of bp) (flat_map places_of bps) h.0.inside (placed_inside sizes bps h.1)

pub tree_inside : (sizes : List TopSize) (tree : Tree) → IsPlacedTree sizes tree → IsTrue (list_all (is_inside sizes) (tree_places tree))
tree_inside sizes tree h = placed_inside sizes (tree_pointers tree) h

-- ---- places that entries took

inside_if : (sizes : List TopSize) (t : Bool) (places : List Place) → IsTrue (list_all (is_inside sizes) places) → IsTrue (list_all (is_inside sizes) (cond t [] places))
inside_if sizes true places h = refl
inside_if sizes false places h = h

pub taken_inside : (sizes : List TopSize) (es : List Choice) → AllByRecursion (IsFoundEntry sizes) es → IsTrue (list_all (is_inside sizes) (taken_by_all es))
taken_inside sizes [] found = refl
taken_inside sizes (e ∷ es) found =
    inside_append sizes (taken_by e) (taken_by_all es)
    (inside_if sizes (is_refused e) e.places
    (pass_all (is_inside sizes) e.places (all_weaker (IsFound sizes e.asked.size) (λ p. IsTrue (is_inside sizes p)) e.places (λ p h. h.inside) found.0.each)))
    (taken_inside sizes es found.1)

pub taken_free : (used : List Place) (es : List Choice) → are_open used (taken_by_all es) ≡ true → AllByRecursion (λ (p : Place). IsTrue (is_free used p)) (taken_by_all es)
taken_free used es opened = all_pass (is_free used) (taken_by_all es) (and_parts (list_all (is_free used) (taken_by_all es)) (are_apart (taken_by_all es)) opened).0

-- ---- the places of a block

pub one_block : (tree : Tree) → places_of_block (Some tree) ≡ tree_places tree
one_block tree = append-nil (tree_places tree)

-- the block's places are those that were taken
pub block_moved : (block : Option Tree) (taken : List Place) → IfSome block (λ tree. IsPermutation (tree_places tree) taken) → (block ≡ None → taken ≡ []) → IsPermutation (places_of_block block) taken
block_moved (Some tree) taken h none = subst (λ (ps : List Place). IsPermutation ps taken) (sym (one_block tree)) h
block_moved None taken h none = subst (λ (ps : List Place). IsPermutation [] ps) (sym (none refl)) (IsPermutation-refl [])
