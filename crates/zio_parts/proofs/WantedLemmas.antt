-- The copies that a good read rewrites, one by one.
use Rattle.std.proofs.Common.{◌≡◌, ℕ, zero, suc, ◌+◌, ◌-◌, ◌*◌, ◌<◌, ◌≤◌, List, [], ◌∷◌, ◌++◌, length, map, get_or, take, drop, slice_get, Option, Some, None, refl, sym, ap, ◌∙◌, arith, append_assoc, length-append, length-take}
use Rattle.std.proofs.lemmas.List.{length-map, take_rest}
use Rattle.std.proofs.lemmas.Option.{slice_get-get_or, slice_get_past}
use Rattle.zio_types.specs.declared.place.Place.{Place}
use Rattle.zio_types.specs.declared.place.Top.{Top}
use Rattle.zio_types.specs.Choices.{no_place}
use Rattle.zio_cksum.specs.Blocks.{spot_in}
use Rattle.zio_cksum.specs.Images.{Spot}
use Rattle.zio_parts.specs.Copies.{AreMirrored, copies_at, leaves_at}
use Rattle.zio_parts.specs.CopyReads.{leaf_at, repairs_from}
use Rattle.zio_parts.proofs.AnsweredLemmas.{get_map}

get_left : {X : Type 0} (xs ys : List X) (n : ℕ) (x : X) → slice_get xs n ≡ Some x → slice_get (xs ++ ys) n ≡ Some x
get_left [] ys n x e = absurd (cc)
get_left (y ∷ xs) ys zero x e = e
get_left (y ∷ xs) ys (suc n) x e = get_left xs ys n x e

get_right : {X : Type 0} (xs ys : List X) (n m : ℕ) → n ≡ length xs + m → slice_get (xs ++ ys) n ≡ slice_get ys m
get_right [] ys n m e = let same : n ≡ m = omega arith in ap (slice_get ys) same
get_right (x ∷ xs) ys zero m e = absurd (omega arith)
get_right (x ∷ xs) ys (suc n) m e = get_right xs ys n m (omega arith)

-- at the place with the good copy
at_first : (tops : List Top) (places : List Place) (tried : ℕ) (failed : List ℕ) (n : ℕ) → 1 ≤ length places → tried ≡ 0 →
    slice_get (repairs_from tops places tried failed) n ≡ slice_get (map (spot_in (get_or places 0 no_place)) (map (leaf_at tops (get_or places 0 no_place)) failed)) n
at_first tops [] tried failed n h e = absurd (omega arith)
at_first tops (p ∷ ps) tried failed n h e = ap (λ t. slice_get (repairs_from tops (p ∷ ps) t failed) n) e

pub nth_failed : (tops : List Top) (places : List Place) (tried : ℕ) (failed : List ℕ) (n leaf : ℕ) → 1 ≤ length places → tried ≡ 0 → n < length failed →
    leaf ≡ leaf_at tops (get_or places 0 no_place) (get_or failed n 0) → Some (spot_in (get_or places 0 no_place) leaf) ≡ slice_get (repairs_from tops places tried failed) n
nth_failed tops places tried failed n leaf h e l is =
    let p : Place = get_or places 0 no_place in
    ap (λ x. Some (spot_in p x)) is
    ∙ sym (get_map (spot_in p) (map (leaf_at tops p) failed) n (leaf_at tops p (get_or failed n 0)) (get_map (leaf_at tops p) failed n (get_or failed n 0) (slice_get-get_or failed n 0 l)))
    ∙ sym (at_first tops places tried failed n h e)

pub nth_none : (tops : List Top) (places : List Place) (tried : ℕ) (failed : List ℕ) (n : ℕ) → 1 ≤ length places → tried ≡ 0 → length failed ≤ n →
    None ≡ slice_get (repairs_from tops places tried failed) n
nth_none tops places tried failed n h e l =
    let p : Place = get_or places 0 no_place in
    let spots : List Spot = map (spot_in p) (map (leaf_at tops p) failed) in
    let len : length spots ≡ length failed = length-map (map (leaf_at tops p) failed) (spot_in p) ∙ length-map failed (leaf_at tops p) in
    sym (at_first tops places tried failed n h e ∙ slice_get_past spots n (omega arith))

-- at the places before it
before : (tops : List Top) (p : Place) (ps : List Place) (k : ℕ) (failed : List ℕ) →
    repairs_from tops (p ∷ ps) (suc k) failed ≡ map (spot_in p) (leaves_at tops p) ++ repairs_from tops ps k failed
before tops p ps k failed = append_assoc (map (spot_in p) (leaves_at tops p)) (copies_at tops (take k ps)) _

pub nth_before : (tops : List Top) (places : List Place) (tried : ℕ) (failed leaves : List ℕ) (n : ℕ) → 1 ≤ length places → (tried ≡ 0 → ⊥) → leaves ≡ leaves_at tops (get_or places 0 no_place) →
    n < length leaves → Some (spot_in (get_or places 0 no_place) (get_or leaves n 0)) ≡ slice_get (repairs_from tops places tried failed) n
nth_before tops [] tried failed leaves n h some is l = absurd (omega arith)
nth_before tops (p ∷ ps) zero failed leaves n h some is l = absurd (some refl)
nth_before tops (p ∷ ps) (suc k) failed leaves n h some is l =
    let here : slice_get (map (spot_in p) (leaves_at tops p)) n ≡ Some (spot_in p (get_or leaves n 0)) =
    ap (λ ls. slice_get (map (spot_in p) ls) n) (sym is) ∙ get_map (spot_in p) leaves n (get_or leaves n 0) (slice_get-get_or leaves n 0 l) in
    sym (ap (λ spots. slice_get spots n) (before tops p ps k failed) ∙ get_left (map (spot_in p) (leaves_at tops p)) (repairs_from tops ps k failed) n _ here)

pub nth_behind : (tops : List Top) (places : List Place) (tried : ℕ) (failed leaves : List ℕ) (n : ℕ) (found : Option Spot) → 1 ≤ length places → (tried ≡ 0 → ⊥) →
    leaves ≡ leaves_at tops (get_or places 0 no_place) → length leaves ≤ n →
    found ≡ slice_get (repairs_from tops (take (length places - 1) (drop 1 places)) (tried - 1) failed) (n - length leaves) → found ≡ slice_get (repairs_from tops places tried failed) n
nth_behind tops [] tried failed leaves n found h some is l e = absurd (omega arith)
nth_behind tops (p ∷ ps) zero failed leaves n found h some is l e = absurd (some refl)
nth_behind tops (p ∷ ps) (suc k) failed leaves n found h some is l e =
    let same : suc k - 1 ≡ k = omega arith in
    let len : length (map (spot_in p) (leaves_at tops p)) ≡ length leaves = length-map (leaves_at tops p) (spot_in p) ∙ ap length (sym is) in
    e
    ∙ ap (λ qs. slice_get (repairs_from tops qs (suc k - 1) failed) (n - length leaves)) (take_rest (p ∷ ps) 1)
    ∙ ap (λ t. slice_get (repairs_from tops ps t failed) (n - length leaves)) same
    ∙ sym (get_right (map (spot_in p) (leaves_at tops p)) (repairs_from tops ps k failed) n (n - length leaves) (omega arith))
    ∙ ap (λ spots. slice_get spots n) (sym (before tops p ps k failed))

-- ---- they are few

pub copies_few : (tops : List Top) (places : List Place) → AreMirrored tops places → length (copies_at tops places) ≤ 4 * length places
copies_few tops [] h = omega arith
copies_few tops (p ∷ ps) h =
    let most : length (leaves_at tops p) ≤ 4 = h.0.most in
    let others : length (copies_at tops ps) ≤ 4 * length ps = copies_few tops ps h.1 in
    let mine : length (map (spot_in p) (leaves_at tops p)) ≡ length (leaves_at tops p) = length-map (leaves_at tops p) (spot_in p) in
    let all : length (copies_at tops (p ∷ ps)) ≡ length (map (spot_in p) (leaves_at tops p)) + length (copies_at tops ps) = length-append (map (spot_in p) (leaves_at tops p)) (copies_at tops ps) in
    omega arith

take_mirrored : (tops : List Top) (n : ℕ) (places : List Place) → AreMirrored tops places → AreMirrored tops (take n places)
take_mirrored tops zero [] h = h
take_mirrored tops zero (p ∷ ps) h = tt
take_mirrored tops (suc n) [] h = h
take_mirrored tops (suc n) (p ∷ ps) h = (h.0, take_mirrored tops n ps h.1)

pub repairs_few : (tops : List Top) (places : List Place) (tried : ℕ) (failed : List ℕ) → AreMirrored tops places → length places ≤ 3 → tried < length places → length failed ≤ 4 →
    length (repairs_from tops places tried failed) ≤ 12
repairs_few tops places tried failed h few l some =
    let p : Place = get_or places tried no_place in
    let before_ : length (copies_at tops (take tried places)) ≤ 4 * length (take tried places) = copies_few tops (take tried places) (take_mirrored tops tried places h) in
    let mine : length (map (spot_in p) (map (leaf_at tops p) failed)) ≡ length failed = length-map (map (leaf_at tops p) failed) (spot_in p) ∙ length-map failed (leaf_at tops p) in
    let all : length (repairs_from tops places tried failed) ≡ length (copies_at tops (take tried places)) + length (map (spot_in p) (map (leaf_at tops p) failed)) =
    length-append (copies_at tops (take tried places)) (map (spot_in p) (map (leaf_at tops p) failed)) in
    omega (arith, length-take tried places)
