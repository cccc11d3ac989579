-- Bytes that are written over others: how many there are after, and which stay.
use Rattle.std.proofs.Common.{◌≡◌, ◌≢◌, ℕ, zero, suc, ◌+◌, ◌-◌, ◌<◌, ◌≤◌, List, [], ◌∷◌, ◌++◌, length, set, take, drop, map, replicate, slice_get, ◌⊎◌, inl, inr, ⊎_elim, refl, ap, ◌∙◌, arith, length-append, length-take, length-drop, get_or-set_other, get_or-set_same}
use Rattle.std.proofs.lemmas.Bool.{cases_lt}
use Rattle.std.proofs.lemmas.List.{length-map, length-replicate, set_past}
use Rattle.zio_faults.specs.declared.table.Hit.{Hit}
use Rattle.zio_faults.specs.Hits.{flipped, inverted}
use Rattle.zio_cksum.specs.Images.{Images, overwritten, image_of, padded_to}

-- ---- an item by its place

slice_get-append_left : {X : Type 0} (xs ys : List X) (i : ℕ) → i < length xs → slice_get (xs ++ ys) i ≡ slice_get xs i
slice_get-append_left [] ys i h = absurd (omega arith)
slice_get-append_left (x ∷ xs) ys zero h = refl
slice_get-append_left (x ∷ xs) ys (suc i) h = slice_get-append_left xs ys i (omega arith)

slice_get-append_right : {X : Type 0} (xs ys : List X) (i : ℕ) → length xs ≤ i → slice_get (xs ++ ys) i ≡ slice_get ys (i - length xs)
slice_get-append_right [] ys i h = let e : i ≡ i - 0 = omega arith in ap (slice_get ys) e
slice_get-append_right (x ∷ xs) ys zero h = absurd (omega arith)
slice_get-append_right (x ∷ xs) ys (suc i) h =
    let e : i - length xs ≡ suc i - suc (length xs) = omega arith in
    slice_get-append_right xs ys i (omega arith) ∙ ap (slice_get ys) e

slice_get-take : {X : Type 0} (n : ℕ) (xs : List X) (i : ℕ) → i < n → slice_get (take n xs) i ≡ slice_get xs i
slice_get-take zero xs i h = absurd (omega arith)
slice_get-take (suc n) [] i h = refl
slice_get-take (suc n) (x ∷ xs) zero h = refl
slice_get-take (suc n) (x ∷ xs) (suc i) h = slice_get-take n xs i (omega arith)

slice_get-drop : {X : Type 0} (n : ℕ) (xs : List X) (i j : ℕ) → j ≡ n + i → slice_get (drop n xs) i ≡ slice_get xs j
slice_get-drop zero xs i j h = let e : i ≡ j = omega arith in ap (slice_get xs) e
slice_get-drop (suc n) [] i j h = refl
slice_get-drop (suc n) (x ∷ xs) i zero h = absurd (omega arith)
slice_get-drop (suc n) (x ∷ xs) i (suc j) h = slice_get-drop n xs i j (omega arith)

-- ---- bytes that are written over as many

pub length-overwritten : (image : List ℕ) (at : ℕ) (bytes : List ℕ) → at + length bytes ≤ length image → length (overwritten image at bytes) ≡ length image
length-overwritten image at bytes h =
    omega (arith, length-append (take at image ++ bytes) (drop (at + length bytes) image), length-append (take at image) bytes, length-take at image, length-drop (at + length bytes) image)

overwritten_before : (image : List ℕ) (at : ℕ) (bytes : List ℕ) (i : ℕ) → at + length bytes ≤ length image → i < at → slice_get (overwritten image at bytes) i ≡ slice_get image i
overwritten_before image at bytes i h before =
    let short : length (take at image) ≡ at = omega (arith, length-take at image) in
    let both : length (take at image ++ bytes) ≡ at + length bytes = omega (arith, length-append (take at image) bytes) in
    slice_get-append_left (take at image ++ bytes) (drop (at + length bytes) image) i (omega arith)
    ∙ slice_get-append_left (take at image) bytes i (omega arith)
    ∙ slice_get-take at image i before

overwritten_behind : (image : List ℕ) (at : ℕ) (bytes : List ℕ) (i : ℕ) → at + length bytes ≤ length image → at + length bytes ≤ i → slice_get (overwritten image at bytes) i ≡ slice_get image i
overwritten_behind image at bytes i h behind =
    let short : length (take at image) ≡ at = omega (arith, length-take at image) in
    let both : length (take at image ++ bytes) ≡ at + length bytes = omega (arith, length-append (take at image) bytes) in
    slice_get-append_right (take at image ++ bytes) (drop (at + length bytes) image) i (omega arith)
    ∙ slice_get-drop (at + length bytes) image (i - length (take at image ++ bytes)) i (omega arith)

outside_cases : (from to i : ℕ) → ¬ ((from ≤ i) × (i < to)) → (i < from) ⊎ (to ≤ i)
outside_cases from to i out = ⊎_elim inl (λ l. ⊎_elim (λ m. absurd (out (l, m))) inr (cases_lt i to)) (cases_lt i from)

-- each byte stays that doesn't stand where others are written
pub overwritten_outside : (image : List ℕ) (at : ℕ) (bytes : List ℕ) (i : ℕ) → at + length bytes ≤ length image → ¬ ((at ≤ i) × (i < at + length bytes)) → slice_get (overwritten image at bytes) i ≡ slice_get image i
overwritten_outside image at bytes i h out =
    ⊎_elim (λ l. overwritten_before image at bytes i h l)
    (λ l. overwritten_behind image at bytes i h l) (outside_cases at (at + length bytes) i out)

-- ---- bytes with zeros behind them

-- they fill the place
pub length-padded_to : (span : ℕ) (bytes : List ℕ) → length (padded_to span bytes) ≡ span
length-padded_to span bytes =
    let zeros : List ℕ = replicate (span - length bytes) 0 in
    omega (arith, length-take span (bytes ++ zeros), length-append bytes zeros, length-replicate {A = ℕ} (span - length bytes) 0)

-- ---- bytes with some of them inverted

pub length-flipped : (at : ℕ) (hit : Hit) (bytes : List ℕ) → length (flipped at hit bytes) ≡ length bytes
length-flipped at hit bytes =
    let a : ℕ = hit.at - at in
    omega (
      arith,
      length-append (take a bytes ++ map inverted (take hit.len (drop a bytes))) (drop (a + hit.len) bytes),
      length-append (take a bytes) (map inverted (take hit.len (drop a bytes))),
      length-map (take hit.len (drop a bytes)) inverted,
      length-take a bytes,
      length-take hit.len (drop a bytes),
      length-drop a bytes,
      length-drop (a + hit.len) bytes,
    )

-- ---- one leaf's image among all

-- another leaf's image stays
pub image_of_other : (images : Images) (leaf other : ℕ) (image : List ℕ) → other ≢ leaf → image_of (set images leaf image) other ≡ image_of images other
image_of_other images leaf other image ne = get_or-set_other images leaf other image [] ne

-- a leaf that is there gets the image
pub image_of_same : (images : Images) (leaf : ℕ) (image : List ℕ) → leaf < length images → image_of (set images leaf image) leaf ≡ image
image_of_same images leaf image h = get_or-set_same images leaf image [] h

-- for a leaf that isn't there all images stay
pub images_past : (images : Images) (leaf : ℕ) (image : List ℕ) → length images ≤ leaf → set images leaf image ≡ images
images_past images leaf image h = set_past images leaf image h
