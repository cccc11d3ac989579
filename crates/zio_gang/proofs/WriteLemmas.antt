-- The bytes of a header, as they are written part by part.
use Rattle.std.proofs.Common.{◌≡◌, ℕ, ◌+◌, List, [], ◌∷◌, ◌++◌, length, take, drop, replicate, get_or, Option, None, refl, ap, sym, ◌∙◌, arith, append_assoc, length-append}
use Rattle.std.proofs.lemmas.List.{append-nil}
use Rattle.std.specs.List.{flat_map}
use Rattle.zio_types.specs.declared.place.Place.{Place}
use Rattle.zio_blkptr.specs.declared.pointer.Bp.{Bp}
use Rattle.zio_blkptr.specs.Pointers.{word}
use Rattle.zio_cksum.specs.Headers.{header_magic, header_front, header_of, gang_sum_of, member_bytes}
use Rattle.zio_cksum.proofs.HeaderLemmas.{take-front, drop-front}
use Rattle.zio_gang.proofs.HeaderLemmas.{gang_sum_of-front}

-- the three members' bytes
flat_three : (ms : List (Option Bp)) → length ms ≡ 3
    → flat_map member_bytes ms ≡ member_bytes (get_or ms 0 None) ++ (member_bytes (get_or ms 1 None) ++ (member_bytes (get_or ms 2 None) ++ []))
flat_three [] h = absurd (omega arith)
flat_three (x ∷ []) h = absurd (omega (arith, h))
flat_three (x ∷ y ∷ []) h = absurd (omega (arith, h))
flat_three (x ∷ y ∷ z ∷ []) h = refl
flat_three (x ∷ y ∷ z ∷ w ∷ ms) h = absurd (omega (arith, h))

-- a part that is written behind a front
put_part : (n : ℕ) (front old part rest : List ℕ) → length front ≡ n → length part ≡ length old
    → take n (front ++ (old ++ rest)) ++ part ++ drop (n + length part) (front ++ (old ++ rest)) ≡ (front ++ part) ++ rest
put_part n front old part rest at_front at_part =
    let kept : take n (front ++ (old ++ rest)) ≡ front = take-front n front (old ++ rest) at_front in
    let both : length (front ++ old) ≡ n + length part = omega (arith, length-append front old) in
    let left : drop (n + length part) (front ++ (old ++ rest)) ≡ rest =
    ap (drop (n + length part)) (sym (append_assoc front old rest)) ∙ drop-front (n + length part) (front ++ old) rest both in
    λ j. kept j ++ part ++ left j

-- the front of a header, whose sum is zeros still: the members' bytes and then the magic are written over zeros
pub front_written : (ms : List (Option Bp)) (x y z pointers magic first second : List ℕ) → length ms ≡ 3
    → x ≡ member_bytes (get_or ms 0 None) → y ≡ member_bytes (get_or ms 1 None) → z ≡ member_bytes (get_or ms 2 None)
    → pointers ≡ x ++ (y ++ (z ++ [])) → length pointers ≡ 384 → magic ≡ word header_magic
    → first ≡ take 0 (replicate 512 0) ++ pointers ++ drop (0 + length pointers) (replicate 512 0)
    → second ≡ take 472 first ++ magic ++ drop (472 + length magic) first
    → second ≡ header_front ms ++ replicate 32 0
front_written ms x y z pointers magic first second three at_x at_y at_z flat long at_magic at_first at_second =
    let members : pointers ≡ flat_map member_bytes ms =
    flat ∙ (λ j. at_x j ++ (at_y j ++ (at_z j ++ []))) ∙ sym (flat_three ms three) in
    let left : drop (0 + length pointers) (replicate 512 0) ≡ replicate 88 0 ++ (replicate 8 0 ++ replicate 32 0) =
    ap (λ n. drop (0 + n) (replicate 512 0)) long in
    let whole : first ≡ (pointers ++ replicate 88 0) ++ (replicate 8 0 ++ replicate 32 0) =
    at_first ∙ ap (λ r. pointers ++ r) left ∙ sym (append_assoc pointers (replicate 88 0) (replicate 8 0 ++ replicate 32 0)) in
    let front : length (pointers ++ replicate 88 0) ≡ 472 = length-append pointers (replicate 88 0) ∙ ap (λ n. n + 88) long in
    let old : List ℕ = replicate 8 0 in
    let eight : length magic ≡ length old = ap length at_magic in
    at_second
    ∙ ap (λ t. take 472 t ++ magic ++ drop (472 + length magic) t) whole
    ∙ put_part 472 (pointers ++ replicate 88 0) (replicate 8 0) magic (replicate 32 0) front eight
    ∙ (λ j. ((members j ++ replicate 88 0) ++ at_magic j) ++ replicate 32 0)

-- the whole header: the sum is written over the zeros
pub sum_written : (ms : List (Option Bp)) (place : Place) (birth : ℕ) (bytes words sum whole : List ℕ)
    → length bytes ≡ 512 → bytes ≡ header_front ms ++ replicate 32 0
    → words ≡ gang_sum_of bytes place birth → sum ≡ flat_map word words → length sum ≡ 32
    → whole ≡ take 480 bytes ++ sum ++ drop (480 + length sum) bytes
    → whole ≡ header_of ms place birth
sum_written ms place birth bytes words sum whole long at_bytes at_words at_sum sum_long at_whole =
    let front : length (header_front ms) ≡ 480 = omega (arith, ap length at_bytes, length-append (header_front ms) (replicate 32 0)) in
    let again : take 480 (header_front ms) ≡ header_front ms =
    ap (take 480) (sym (append-nil (header_front ms))) ∙ take-front 480 (header_front ms) [] front in
    let same : gang_sum_of bytes place birth ≡ gang_sum_of (header_front ms) place birth =
    gang_sum_of-front place birth bytes (header_front ms)
    (ap (take 480) at_bytes ∙ take-front 480 (header_front ms) (replicate 32 0) front ∙ sym again) in
    let over : bytes ≡ header_front ms ++ (replicate 32 0 ++ []) = at_bytes in
    at_whole
    ∙ ap (λ t. take 480 t ++ sum ++ drop (480 + length sum) t) over
    ∙ put_part 480 (header_front ms) (replicate 32 0) sum [] front sum_long
    ∙ append-nil (header_front ms ++ sum)
    ∙ ap (λ t. header_front ms ++ t) (at_sum ∙ ap (flat_map word) (at_words ∙ same))
