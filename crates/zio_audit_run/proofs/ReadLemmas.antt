-- What is read of disks, one after another.
use Rattle.std.proofs.Common.{◌≡◌, ◌<◌, ◌≤◌, ◌+◌, ◌-◌, ℕ, List, [], ◌∷◌, ◌++◌, get_or, length, map, take, drop, sym, ap, ◌∙◌, subst, arith}
use Rattle.std.specs.Prelude.{slice_range}
use Rattle.std.proofs.lemmas.List.{get_or-drop, length-drop, length-take-le, map-append, take-append-drop, take_all, take_more}
use Rattle.std.proofs.Math.Seq.{take-append_seam}
use Rattle.zio_cksum.specs.Images.{Images, image_of}

-- a front of its own length is the whole
pub front_all : {X : Type 0} (n : ℕ) (xs ys : List X) → length xs ≡ n → take n (xs ++ ys) ≡ xs
front_all n xs ys e = subst (λ (k : ℕ). take k (xs ++ ys) ≡ xs) e (take-append_seam xs ys)

-- ---- a part of a list

part_more : {X : Type 0} (xs : List X) (first k : ℕ) (d : X) → first ≤ k → k < length xs → slice_range xs first (k + 1) ≡ slice_range xs first k ++ get_or xs k d ∷ []
part_more xs first k d behind within =
    let n : ℕ = k - first in
    let more : (k + 1) - first ≡ n + 1 = omega arith in
    let long = length-drop first xs in
    let at : first + n ≡ k = omega arith in
    ap (λ (m : ℕ). take m (drop first xs)) more
    ∙ (take_more (drop first xs) n d (omega arith)
    ∙ ap (λ y. take n (drop first xs) ++ y ∷ []) (get_or-drop first xs n d ∙ ap (λ (m : ℕ). get_or xs m d) at))

pub part_none : {X : Type 0} (xs : List X) (first : ℕ) → slice_range xs first first ≡ []
part_none xs first = let none : first - first ≡ 0 = omega arith in ap (λ (m : ℕ). take m (drop first xs)) none

pub part_long : {X : Type 0} (xs : List X) (first end : ℕ) → first ≤ end → end ≤ length xs → length (slice_range xs first end) ≡ end - first
part_long xs first end order within = length-take-le (end - first) (drop first xs) (let long = length-drop first xs in omega arith)

-- the part before a place, and the part from there to the end
pub both_parts : {X : Type 0} (xs : List X) (at end : ℕ) → at ≤ end → length xs ≡ end → slice_range xs 0 at ++ slice_range xs at end ≡ xs
both_parts xs at end within all =
    let zeroth : at - 0 ≡ at = omega arith in
    let long = length-drop at xs in
    ap (λ (m : ℕ). take m xs ++ slice_range xs at end) zeroth
    ∙ (ap (λ ys. take at xs ++ ys) (take_all (end - at) (drop at xs) (omega arith)) ∙ take-append-drop at xs)

-- ---- files

pub files_more : (files images : Images) (first k : ℕ) (bytes : List ℕ) → first ≤ k → k < length images → files ≡ slice_range images first k → bytes ≡ image_of images k
    → files ++ bytes ∷ [] ≡ slice_range images first (k + 1)
files_more files images first k bytes behind within front here =
    ap (λ (fs : Images). fs ++ bytes ∷ []) front
    ∙ (ap (λ (b : List ℕ). slice_range images first k ++ b ∷ []) here ∙ sym (part_more images first k [] behind within))

pub sizes_more : (files : Images) (sizes : List ℕ) (first k : ℕ) (bytes : List ℕ) → first ≤ k → k < length sizes → map (length {A = ℕ}) files ≡ slice_range sizes first k
    → length bytes ≡ get_or sizes k 0 → map (length {A = ℕ}) (files ++ bytes ∷ []) ≡ slice_range sizes first (k + 1)
sizes_more files sizes first k bytes behind within front here =
    map-append (length {A = ℕ}) files (bytes ∷ [])
    ∙ (ap (λ (ns : List ℕ). ns ++ length bytes ∷ []) front
    ∙ (ap (λ (n : ℕ). slice_range sizes first k ++ n ∷ []) here ∙ sym (part_more sizes first k 0 behind within)))
