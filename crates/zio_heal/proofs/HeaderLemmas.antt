-- A gang's header has the bytes of one sector, and names the members that it was written for.
use Rattle.std.proofs.Common.{◌≡◌, ℕ, zero, suc, ◌-◌, ◌*◌, ◌≤◌, List, [], ◌∷◌, length, map, replicate, Option, Some, None, refl, length-append, arith}
use Rattle.std.specs.List.{AllByRecursion, flat_map}
use Rattle.std.proofs.lemmas.List.{length-map}
use Rattle.zio_types.specs.declared.place.Place.{Place}
use Rattle.zio_types.specs.Filled.{filled_to, length-filled_to}
use Rattle.zio_blkptr.specs.declared.pointer.Bp.{Bp}
use Rattle.zio_blkptr.specs.declared.pointer.SumKind.TheVariants.{Sha256}
use Rattle.zio_blkptr.specs.Pointers.{word}
use Rattle.zio_blkptr.proofs.PointerLemmas.{length-spelling}
use Rattle.zio_cksum.specs.Headers.{gang_sum_of, header_front, header_magic, header_of, member_bytes, members_max}
use Rattle.zio_cksum.proofs.AllLemmas.{all_append}
use Rattle.zio_heal.proofs.PointerLemmas.{IsSpelled}
use Rattle.zio_heal.proofs.SumLemmas.{sum_four}

abbrev IsSlot : Option Bp → Type 0
IsSlot o = length (member_bytes o) ≡ 128

slots_long : (ms : List (Option Bp)) → AllByRecursion IsSlot ms → length (flat_map member_bytes ms) ≡ 128 * length ms
slots_long [] h = refl
slots_long (m ∷ ms) h =
    let one : length (member_bytes m) ≡ 128 = h.0 in
    let more : length (flat_map member_bytes ms) ≡ 128 * length ms = slots_long ms h.1 in
    omega (arith, length-append (member_bytes m) (flat_map member_bytes ms))

words_long : (ws : List ℕ) → length (flat_map word ws) ≡ 8 * length ws
words_long [] = refl
words_long (w ∷ ws) =
    let one : length (word w) ≡ 8 = refl in
    let more : length (flat_map word ws) ≡ 8 * length ws = words_long ws in
    omega (arith, length-append (word w) (flat_map word ws))

of_three : (ms : List (Option Bp)) (place : Place) (birth : ℕ) → length ms ≡ 3 → AllByRecursion IsSlot ms → length (header_of ms place birth) ≡ 512
of_three ms place birth three slots =
    let front : List ℕ = header_front ms in
    let sum : List ℕ = gang_sum_of front place birth in
    let members : length (flat_map member_bytes ms) ≡ 128 * length ms = slots_long ms slots in
    let words : length (flat_map word sum) ≡ 8 * length sum = words_long sum in
    let four : length sum ≡ 4 = sum_four Sha256 _ in
    let filler : length {A = ℕ} (replicate 88 0) ≡ 88 = refl in
    let magic : length (word header_magic) ≡ 8 = refl in
    omega (arith, length-append {A = ℕ})

some_slots : (bps : List Bp) → AllByRecursion IsSpelled bps → AllByRecursion IsSlot (map Some bps)
some_slots [] h = tt
some_slots (b ∷ bps) h = (length-spelling b h.0.types h.0.ok, some_slots bps h.1)

no_slots : (n : ℕ) → AllByRecursion IsSlot (replicate n None)
no_slots zero = tt
no_slots (suc n) = (refl, no_slots n)

-- the header of three members at most
pub header_long : (bps : List Bp) (place : Place) (birth : ℕ) → length bps ≤ 3 → AllByRecursion IsSpelled bps → length (header_of (filled_to None members_max (map Some bps)) place birth) ≡ 512
header_long bps place birth few h =
    let long : length (map Some bps) ≡ length bps = length-map bps Some in
    of_three (filled_to None members_max (map Some bps)) place birth
    (length-filled_to None 3 (map Some bps) (omega arith))
    (all_append IsSlot (map Some bps) (replicate (3 - length (map Some bps)) None) (some_slots bps h) (no_slots (3 - length (map Some bps))))
