-- The parts of a pointer's words, as the faults read them: of the word of properties, and of the two words of a place.
use Rattle.std.proofs.Common.{◌≡◌, ℕ, ◌+◌, ◌*◌, ◌/◌, ◌%◌, ◌^◌, ◌<◌, Bool, ◌&&◌, ◌||◌, ◌==◌, nat_lt, IsTrue, ⊎_elim, ap, sym, ◌∙◌, subst, arith, eqb-true, eq-eqb, ltb-true, lt-ltb}
use Rattle.std.proofs.lemmas.Bool.{and_parts, and_from, or_cases}
use Rattle.zio_types.specs.declared.place.Place.{Place}
use Rattle.zio_blkptr.specs.declared.pointer.TheConstants.{SECTOR_END}
use Rattle.zio_blkptr.specs.Pointers.{bit, is_rounding_of, sum_number, sum_of_number}
use Rattle.zio_blkptr.specs.Faults.{bits, logical_size, physical_size, compression, embedded, checksum, content_type, level, encrypted, dedup, byte_order, place_sectors, grid, above_top, place_sector, gang_bit, is_sum_number, has_fixed_properties, is_place_of}
use Rattle.zio_blkptr.proofs.Fields.{bit_small}
use Rattle.zio_blkptr.proofs.PointerLemmas.{IsInRange, first_of, second_of}

-- the lowest bits
pub bits_low : (w n : ℕ) → bits w 0 n ≡ w % 2 ^ n
bits_low w n = let e : w / 1 ≡ w = omega arith in ap (λ x. x % 2 ^ n) e

-- ---- the word of properties

-- All of a word of properties: both sizes are n, the checksum is s, and the rest has its fixed values.
pub record PropertyParts (w n s : ℕ) : Type 0 where
  pub logical : logical_size w ≡ n
  pub physical : physical_size w ≡ n
  pub compressed : compression w ≡ 2
  pub embeds : embedded w ≡ 0
  pub sum : checksum w ≡ s
  pub content : content_type w ≡ 0
  pub levels : level w ≡ 0
  pub encrypts : encrypted w ≡ 0
  pub dedups : dedup w ≡ 0
  pub order : byte_order w ≡ 1

-- a size in sectors less 1 and a checksum's number are read from the word that they make
pub parts_read : (n s : ℕ) → n < 2 ^ 16 → s < 16 → PropertyParts (n + n * 2 ^ 16 + 2 * 2 ^ 32 + s * 2 ^ 40 + 2 ^ 63) n s
parts_read n s small few = record {
  logical = omega arith;
  physical = omega arith;
  compressed = omega arith;
  embeds = omega arith;
  sum = omega arith;
  content = omega arith;
  levels = omega arith;
  encrypts = omega arith;
  dedups = omega arith;
  order = omega arith;
}

-- a word that has these parts is the one that they make
pub parts_make : (w n s : ℕ) → w < 2 ^ 64 → PropertyParts w n s → w ≡ n + n * 2 ^ 16 + 2 * 2 ^ 32 + s * 2 ^ 40 + 2 ^ 63
parts_make w n s fits h =
    let a : w ≡ n + 2 ^ 16 * (w / 2 ^ 16) = omega (arith, h.logical) in
    let b : w / 2 ^ 16 ≡ n + 2 ^ 16 * (w / 2 ^ 32) = omega (arith, h.physical) in
    let c : w / 2 ^ 32 ≡ 2 + 2 ^ 7 * (w / 2 ^ 39) = omega (arith, h.compressed) in
    let d : w / 2 ^ 39 ≡ 2 * (w / 2 ^ 40) = omega (arith, h.embeds) in
    let e : w / 2 ^ 40 ≡ s + 2 ^ 8 * (w / 2 ^ 48) = omega (arith, h.sum) in
    let f : w / 2 ^ 48 ≡ 2 ^ 8 * (w / 2 ^ 56) = omega (arith, h.content) in
    let g : w / 2 ^ 56 ≡ 2 ^ 5 * (w / 2 ^ 61) = omega (arith, h.levels) in
    let i : w / 2 ^ 61 ≡ 2 * (w / 2 ^ 62) = omega (arith, h.encrypts) in
    let j : w / 2 ^ 62 ≡ 2 * (w / 2 ^ 63) = omega (arith, h.dedups) in
    let k : w / 2 ^ 63 ≡ 1 = omega (arith, h.order) in
    omega arith

-- ---- its tests

seven_parts : (a b c d e f g : Bool) → IsTrue (a && b && c && d && e && f && g)
    → IsTrue a × IsTrue b × IsTrue c × IsTrue d × IsTrue e × IsTrue f × IsTrue g
seven_parts a b c d e f g h =
    let six = and_parts (a && b && c && d && e && f) g h in
    let five = and_parts (a && b && c && d && e) f six.0 in
    let four = and_parts (a && b && c && d) e five.0 in
    let three = and_parts (a && b && c) d four.0 in
    let two = and_parts (a && b) c three.0 in
    let one = and_parts a b two.0 in
    (one.0, one.1, two.1, three.1, four.1, five.1, six.1)

-- The fixed parts of a word of properties.
pub record FixedParts (w : ℕ) : Type 0 where
  pub compressed : compression w ≡ 2
  pub embeds : embedded w ≡ 0
  pub sum : IsTrue (is_sum_number (checksum w))
  pub content : content_type w ≡ 0
  pub levels : level w ≡ 0
  pub encrypts : encrypted w ≡ 0
  pub dedups : dedup w ≡ 0

pub fixed_parts : (w : ℕ) → IsTrue (has_fixed_properties w) → FixedParts w
fixed_parts w h =
    let all = seven_parts (compression w == 2) (embedded w == 0) (is_sum_number (checksum w)) (content_type w == 0) (level w == 0) (encrypted w == 0) (dedup w == 0) h in
    record {
      compressed = eqb-true (compression w) 2 all.0;
      embeds = eqb-true (embedded w) 0 all.1;
      sum = all.2;
      content = eqb-true (content_type w) 0 all.3;
      levels = eqb-true (level w) 0 all.4;
      encrypts = eqb-true (encrypted w) 0 all.5;
      dedups = eqb-true (dedup w) 0 all.6;
    }

pub fixed_pass : (w : ℕ) → FixedParts w → IsTrue (has_fixed_properties w)
fixed_pass w h =
    let a = compression w == 2 in
    let b = embedded w == 0 in
    let c = is_sum_number (checksum w) in
    let d = content_type w == 0 in
    let e = level w == 0 in
    let f = encrypted w == 0 in
    let two = and_from a b (eq-eqb (compression w) 2 h.compressed) (eq-eqb (embedded w) 0 h.embeds) in
    let three = and_from (a && b) c two h.sum in
    let four = and_from (a && b && c) d three (eq-eqb (content_type w) 0 h.content) in
    let five = and_from (a && b && c && d) e four (eq-eqb (level w) 0 h.levels) in
    let six = and_from (a && b && c && d && e) f five (eq-eqb (encrypted w) 0 h.encrypts) in
    and_from (a && b && c && d && e && f) (dedup w == 0) six (eq-eqb (dedup w) 0 h.dedups)

-- a checksum's number is that of the checksum that it stands for
pub sum_again : (s : ℕ) → IsTrue (is_sum_number s) → sum_number (sum_of_number s) ≡ s
sum_again s h =
    ⊎_elim (λ front. ⊎_elim (λ t. let e = eqb-true s 2 t in ap (λ n. sum_number (sum_of_number n)) e ∙ sym e)
    (λ t. let e = eqb-true s 7 t in ap (λ n. sum_number (sum_of_number n)) e ∙ sym e) (or_cases (s == 2) (s == 7) front))
    (λ t. let e = eqb-true s 8 t in ap (λ n. sum_number (sum_of_number n)) e ∙ sym e)
    (or_cases (s == 2 || s == 7) (s == 8) h)

-- ---- the words of a place

-- Two words of a place that stores so many sectors, with this gang bit: they are what their parts make.
pub record IsPlaceOf (stored gang u v : ℕ) : Type 0 where
  pub counted : IsTrue (is_rounding_of (u % 2 ^ 24) stored)
  pub first : u % 2 ^ 24 + u / 2 ^ 32 % 2 ^ 24 * 2 ^ 32 ≡ u
  pub sector : v % 2 ^ 63 < 2 ^ 48
  pub second : v % 2 ^ 63 + gang * 2 ^ 63 ≡ v
  pub own : gang_bit v ≡ gang

pub IsPlaceOf-from : (stored gang u v : ℕ) → u < 2 ^ 64 → v < 2 ^ 64 → IsTrue (is_place_of stored gang u v)
    → IsPlaceOf stored gang u v
IsPlaceOf-from stored gang u v at_u at_v h =
    let rounded = is_rounding_of (place_sectors u) stored in
    let small = nat_lt (place_sector v) SECTOR_END in
    let four = and_parts (rounded && grid u == 0 && above_top u == 0 && small) (gang_bit v == gang) h in
    let three = and_parts (rounded && grid u == 0 && above_top u == 0) small four.0 in
    let two = and_parts (rounded && grid u == 0) (above_top u == 0) three.0 in
    let one = and_parts rounded (grid u == 0) two.0 in
    let no_grid = eqb-true (grid u) 0 one.1 in
    let none_above = eqb-true (above_top u) 0 two.1 in
    let sector = ltb-true (place_sector v) SECTOR_END three.1 in
    let bit_is = eqb-true (gang_bit v) gang four.1 in
    record {
      counted = subst (λ n. IsTrue (is_rounding_of n stored)) (bits_low u 24) one.0;
      first = omega (arith, no_grid, none_above);
      sector = omega (arith, sector);
      second = omega (arith, bit_is);
      own = bit_is;
    }

-- The parts of the words of a place in range.
record PlaceParts (p : Place) (b u v : ℕ) : Type 0 where
  counted : place_sectors u ≡ p.sectors
  no_grid : grid u ≡ 0
  none_above : above_top u ≡ 0
  sector : place_sector v < 2 ^ 48
  gang : gang_bit v ≡ b

place_parts : (p : Place) (b : ℕ) → p.sectors < 2 ^ 24 → p.top < 2 ^ 24 → p.sector < 2 ^ 48 → b < 2
    → PlaceParts p b (p.sectors + p.top * 2 ^ 32) (p.sector + b * 2 ^ 63)
place_parts p b sectors top sector small = record {
  counted = omega arith;
  no_grid = omega arith;
  none_above = omega arith;
  sector = omega arith;
  gang = omega arith;
}

-- so many sectors are read from a place's first word
pub sectors_read : (gang : Bool) (p : Place) → IsInRange p → place_sectors (first_of p) ≡ p.sectors
sectors_read gang p h = (place_parts p (bit gang) h.sectors h.top h.sector (bit_small gang)).counted

-- and the gang bit from its second
pub gang_read_back : (gang : Bool) (p : Place) → IsInRange p → gang_bit (second_of gang p) ≡ bit gang
gang_read_back gang p h = (place_parts p (bit gang) h.sectors h.top h.sector (bit_small gang)).gang

-- the words of a place in range pass
pub is_place_of-words : (gang : Bool) (p : Place) (stored b : ℕ) → IsInRange p → IsTrue (is_rounding_of p.sectors stored)
    → bit gang ≡ b → IsTrue (is_place_of stored b (first_of p) (second_of gang p))
is_place_of-words gang p stored b h counted is =
    let u = first_of p in
    let v = second_of gang p in
    let parts = place_parts p (bit gang) h.sectors h.top h.sector (bit_small gang) in
    let rounded = is_rounding_of (place_sectors u) stored in
    let small = nat_lt (place_sector v) SECTOR_END in
    let at_rounded : IsTrue rounded = subst (λ n. IsTrue (is_rounding_of n stored)) (sym parts.counted) counted in
    let one = and_from rounded (grid u == 0) at_rounded (eq-eqb (grid u) 0 parts.no_grid) in
    let two = and_from (rounded && grid u == 0) (above_top u == 0) one (eq-eqb (above_top u) 0 parts.none_above) in
    let three = and_from (rounded && grid u == 0 && above_top u == 0) small two
    (lt-ltb (place_sector v) SECTOR_END parts.sector) in
    and_from (rounded && grid u == 0 && above_top u == 0 && small) (gang_bit v == b) three
    (eq-eqb (gang_bit v) b (parts.gang ∙ is))
