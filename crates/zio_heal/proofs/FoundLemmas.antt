-- With no row met, a read finds a copy that is there in its first pass.
use Rattle.std.proofs.Common.{◌≡◌, ℕ, ◌/◌, ◌%◌, List, [], ◌∷◌, length, map, take, drop, Bool, true, false, Option, Some, None, Result, Ok, Err, IsSome, IsOk, Contains, ◌⊎◌, inl, inr, ⊎_elim, refl, sym, ap, ◌∙◌, subst}
use Rattle.std.proofs.lemmas.List.{take-append-drop}
use Rattle.std.proofs.lemmas.List.Elements.{Contains-append_cases, Contains-append_left, Contains-append_right}
use Rattle.zio_types.specs.declared.error.Errno.{Errno}
use Rattle.zio_types.specs.declared.place.Place.{Place}
use Rattle.zio_cksum.specs.Blocks.{Pass, Tried, first_good, first_pass_with, judged, judged_by, leaves_of, passed_with, read_block, read_order, read_pass, read_place, rotated, spot_in, then_others, turn_size}
use Rattle.zio_cksum.specs.Frames.{spots_of}
use Rattle.zio_cksum.specs.Headers.{offset_of}
use Rattle.zio_cksum.specs.Images.{Images, Setting, Spot, bytes_at, read_leaf}
use Rattle.zio_cksum.proofs.AllLemmas.{all_contains}
use Rattle.zio_trace.proofs.ChoiceLemmas.{contained_cases}
use Rattle.zio_trace.proofs.SpotLemmas.{IsCopy, is_copy}
use Rattle.zio_heal.specs.Copies.{HasCopy, IsPastFaults}
use Rattle.zio_heal.proofs.FaultLemmas.{read_there}

-- ---- one of several candidates

-- a candidate is found, the first or another
one_found : {C : Type 0} (c : C) (r : Result (List ℕ) Errno) (others : Tried C) → IsOk r ⊎ IsSome others.found → IsSome (then_others c r others).found
one_found c (Ok bytes) others h = refl
one_found c (Err e) others h = ⊎_elim (λ (ok : false ≡ true). absurd (cc)) (λ (is : IsSome others.found). is) h

some_found : {C : Type 0} (read : C → Result (List ℕ) Errno) (cs : List C) (c : C) → Contains cs c → IsOk (read c) → IsSome (first_good read cs).found
some_found read [] c listed ok = absurd (all_contains (λ x. ⊥) [] c tt listed)
some_found read (x ∷ xs) c listed ok =
    one_found x (read x) (first_good read xs)
    (⊎_elim (λ (is : x ≡ c). inl (subst (λ y. IsOk (read y)) (sym is) ok)) (λ (later : Contains xs c). inr (some_found read xs c later ok))
    (contained_cases x xs c listed))

-- a list that is turned has the same items
in_rotated : (n : ℕ) (xs : List ℕ) (x : ℕ) → Contains xs x → Contains (rotated n xs) x
in_rotated n xs x c =
    ⊎_elim
    (λ (front : Contains (take n xs) x). Contains-append_right (drop n xs) (take n xs) x front)
    (λ (rest : Contains (drop n xs) x). Contains-append_left (drop n xs) (take n xs) x rest)
    (Contains-append_cases (take n xs) (drop n xs) x (subst (λ (ys : List ℕ). Contains ys x) (sym (take-append-drop n xs)) c))

-- ---- one place, and one pass

-- good bytes pass
judged_ok : (b : Bool) (bytes : List ℕ) → b ≡ true → IsOk (judged_by b bytes)
judged_ok true bytes h = refl
judged_ok false bytes h = absurd (cc)

leaf_ok : (s : Setting) (good : List ℕ → Bool) (images : Images) (bytes : List ℕ) (t : Spot) → IsPastFaults s → good bytes ≡ true → bytes_at images t (length bytes) ≡ bytes → IsOk (judged good (read_leaf s false images (length bytes) t))
leaf_ok s good images bytes t past is at =
    let there : read_leaf s false images (length bytes) t ≡ Ok bytes = read_there s false images (length bytes) t past ∙ ap Ok at in
    subst (λ (r : Result (List ℕ) Errno). IsOk (judged good r)) (sym there) (judged_ok (good bytes) bytes is)

place_found : (s : Setting) (good : List ℕ → Bool) (images : Images) (bytes : List ℕ) (p : Place) (leaf : ℕ) → IsPastFaults s → good bytes ≡ true → Contains (leaves_of s p) leaf → bytes_at images (spot_in p leaf) (length bytes) ≡ bytes → IsSome (read_place s false good images (length bytes) p).found
place_found s good images bytes p leaf past is listed at =
    some_found (λ (l : ℕ). judged good (read_leaf s false images (length bytes) (spot_in p l))) (read_order (offset_of p) (leaves_of s p)) leaf
    (in_rotated (offset_of p / turn_size % length (leaves_of s p)) (leaves_of s p) leaf listed)
    (leaf_ok s good images bytes (spot_in p leaf) past is at)

passed_found : (found : Option (List ℕ)) (bad all : List Spot) (tried : Tried ℕ) (others : Pass) → IsSome found ⊎ IsSome others.found → IsSome (passed_with found bad all tried others).found
passed_found (Some bytes) bad all tried others h = refl
passed_found None bad all tried others h = ⊎_elim (λ (some : false ≡ true). absurd (cc)) (λ (is : IsSome others.found). is) h

pass_found : (s : Setting) (good : List ℕ → Bool) (images : Images) (len : ℕ) (ps : List Place) (p : Place) → Contains ps p → IsSome (read_place s false good images len p).found → IsSome (read_pass s false good images len ps).found
pass_found s good images len [] p listed found = absurd (all_contains (λ (x : Place). ⊥) [] p tt listed)
pass_found s good images len (q ∷ qs) p listed found =
    let tried : Tried ℕ = read_place s false good images len q in
    passed_found tried.found (map (spot_in q) tried.failed) (map (spot_in q) (leaves_of s q)) tried (read_pass s false good images len qs)
    (⊎_elim (λ (is : q ≡ p). inl (subst (λ (x : Place). IsSome (read_place s false good images len x).found) (sym is) found))
    (λ (later : Contains qs p). inr (pass_found s good images len qs p later found))
    (contained_cases q qs p listed))

-- ---- the read

first_ok : (found : Option (List ℕ)) (s : Setting) (repair : Bool) (images : Images) (pass : Pass) (pass_in : Bool → Pass) → IsSome found → IsOk (first_pass_with found s repair images pass pass_in).found
first_ok (Some bytes) s repair images pass pass_in h = refl
first_ok None s repair images pass pass_in h = absurd (cc)

pub first_law : (s : Setting) (good : List ℕ → Bool) (images : Images) (bytes : List ℕ) (places : List Place) → IsPastFaults s → HasCopy (spots_of s places) bytes images → good bytes ≡ true → IsSome (read_pass s false good images (length bytes) places).found
first_law s good images bytes places past copy is =
    let from : IsCopy s places copy.spot = is_copy s places copy.spot copy.listed in
    let at : bytes_at images (spot_in from.place from.leaf) (length bytes) ≡ bytes =
    ap (λ (t : Spot). bytes_at images t (length bytes)) from.is ∙ copy.there in
    pass_found s good images (length bytes) places from.place from.listed
    (place_found s good images bytes from.place from.leaf past is from.mirrored at)

pub found_law : (s : Setting) (repair : Bool) (good : List ℕ → Bool) (images : Images) (bytes : List ℕ) (places : List Place) → IsPastFaults s → HasCopy (spots_of s places) bytes images → good bytes ≡ true → IsOk (read_block s repair good images (length bytes) places).found
found_law s repair good images bytes places past copy is =
    let pass : Pass = read_pass s false good images (length bytes) places in
    first_ok pass.found s repair images pass (λ retry. read_pass s retry good images (length bytes) places)
    (first_law s good images bytes places past copy is)
