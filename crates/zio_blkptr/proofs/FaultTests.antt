-- The tests for faults as tests of a pointer's words, and what no fault says of the words.
use Rattle.std.proofs.Common.{◌≡◌, ℕ, ◌+◌, ◌*◌, ◌<◌, ◌≤◌, List, Bool, true, false, not, ◌&&◌, ◌||◌, ◌==◌, cond, nat_lt, nat_le, IsTrue, Option, Some, None, refl, sym, arith, eqb-true, ltb-true, leb-true}
use Rattle.std.proofs.lemmas.Bool.{and_parts, eqb-false}
use Rattle.std.proofs.lemmas.Option.{none-some}
use Rattle.zio_blkptr.specs.declared.pointer.BpFault.{BpFault}
use Rattle.zio_blkptr.specs.declared.pointer.BpFault.TheVariants.{Order, Field, Size, Dva}
use Rattle.zio_blkptr.specs.declared.pointer.TheConstants.{BLOCK_SIZE_MAX}
use Rattle.zio_blkptr.specs.Pointers.{word_of}
use Rattle.zio_blkptr.specs.Faults.{logical_size, physical_size, byte_order, place_sectors, gang_bit, sectors_at, is_place_of, is_no_place, has_fixed_properties, are_fixed_words, has_fitting_size, has_order_fault, has_field_fault, has_size_fault, has_dva_fault, has_places_in_front, are_good_places, is_good_place, first_fault}
use Rattle.zio_blkptr.proofs.FaultParts.{FixedParts, fixed_parts}

-- ---- the four tests

-- the first of four faults whose test passes
abbrev pub first_of_four : Bool → Bool → Bool → Bool → Option BpFault
first_of_four order field size dva =
    cond order (Some Order) (cond field (Some Field) (cond size (Some Size) (cond dva (Some Dva) None)))

pub none_of_four : (order field size dva : Bool) → first_of_four order field size dva ≡ None
    → (order ≡ false) × (field ≡ false) × (size ≡ false) × (dva ≡ false)
none_of_four true field size dva e = absurd (none-some Order (sym e))
none_of_four false true size dva e = absurd (none-some Field (sym e))
none_of_four false false true dva e = absurd (none-some Size (sym e))
none_of_four false false false true e = absurd (none-some Dva (sym e))
none_of_four false false false false e = (refl, refl, refl, refl)

not-false : (b : Bool) → not b ≡ false → b ≡ true
not-false true e = refl
not-false false e = sym e

-- ---- the tests of the places, on their words and the word of properties

-- a place's first word has sectors
abbrev pub holds_sectors : ℕ → Bool
holds_sectors u = nat_lt 0 (place_sectors u)

-- two words of a place that is there and right, or of none
abbrev pub is_good : ℕ → ℕ → ℕ → ℕ → Bool
is_good stored gang u v = cond (holds_sectors u) (is_place_of stored gang u v) (is_no_place u v)

abbrev pub in_front : ℕ → ℕ → ℕ → Bool
in_front u0 u1 u2 = holds_sectors u0 && (holds_sectors u1 || not (holds_sectors u2))

abbrev pub all_good : ℕ → ℕ → ℕ → ℕ → ℕ → ℕ → ℕ → Bool
all_good u0 v0 u1 v1 u2 v2 w =
    is_good (sectors_at v0 w) (gang_bit v0) u0 v0 && is_good (sectors_at v1 w) (gang_bit v0) u1 v1
    && is_good (sectors_at v2 w) (gang_bit v0) u2 v2

-- ---- what bytes without a fault hold

-- The words that vary pass all tests, and the birth is there.
pub record Passes (u0 v0 u1 v1 u2 v2 w birth : ℕ) : Type 0 where
  pub order : byte_order w ≡ 1
  pub fixed : FixedParts w
  pub same : logical_size w ≡ physical_size w
  pub small : (logical_size w + 1) * 512 ≤ BLOCK_SIZE_MAX
  pub born : 0 < birth
  pub front : IsTrue (in_front u0 u1 u2)
  pub first : IsTrue (is_good (sectors_at v0 w) (gang_bit v0) u0 v0)
  pub second : IsTrue (is_good (sectors_at v1 w) (gang_bit v0) u1 v1)
  pub third : IsTrue (is_good (sectors_at v2 w) (gang_bit v0) u2 v2)

-- The words that are fixed.
pub record Fixed (bytes : List ℕ) : Type 0 where
  pub seven : word_of bytes 7 ≡ 0
  pub eight : word_of bytes 8 ≡ 0
  pub nine : word_of bytes 9 ≡ 0
  pub fill : word_of bytes 11 ≡ 1

fixed_words : (seven eight nine birth fill : ℕ) → IsTrue (are_fixed_words seven eight nine birth fill)
    → (seven ≡ 0) × (eight ≡ 0) × (nine ≡ 0) × (0 < birth) × (fill ≡ 1)
fixed_words seven eight nine birth fill h =
    let four = and_parts (seven == 0 && eight == 0 && nine == 0 && nat_lt 0 birth) (fill == 1) h in
    let three = and_parts (seven == 0 && eight == 0 && nine == 0) (nat_lt 0 birth) four.0 in
    let two = and_parts (seven == 0 && eight == 0) (nine == 0) three.0 in
    let one = and_parts (seven == 0) (eight == 0) two.0 in
    (eqb-true seven 0 one.0, eqb-true eight 0 one.1, eqb-true nine 0 two.1, ltb-true 0 birth three.1, eqb-true fill 1 four.1)

order_is : (w : ℕ) → (byte_order w == 0) ≡ false → byte_order w ≡ 1
order_is w h = let ne : byte_order w ≡ 0 → ⊥ = eqb-false (byte_order w) 0 h in omega arith

-- what no fault says of the words
pub passes_from : (bytes : List ℕ) → first_fault bytes ≡ None
    → Passes (word_of bytes 0) (word_of bytes 1) (word_of bytes 2) (word_of bytes 3) (word_of bytes 4) (word_of bytes 5) (word_of bytes 6) (word_of bytes 10)
    × Fixed bytes
passes_from bytes e =
    let w = word_of bytes 6 in
    let four = none_of_four (has_order_fault bytes) (has_field_fault bytes) (has_size_fault bytes) (has_dva_fault bytes) e in
    let values = are_fixed_words (word_of bytes 7) (word_of bytes 8) (word_of bytes 9) (word_of bytes 10) (word_of bytes 11) in
    let field = and_parts (has_fixed_properties w) values (not-false (has_fixed_properties w && values) four.1) in
    let fixed = fixed_words (word_of bytes 7) (word_of bytes 8) (word_of bytes 9) (word_of bytes 10) (word_of bytes 11) field.1 in
    let size = and_parts (logical_size w == physical_size w) (nat_le ((logical_size w + 1) * 512) BLOCK_SIZE_MAX) (not-false (has_fitting_size w) four.2) in
    let places = and_parts (has_places_in_front bytes) (are_good_places bytes) (not-false (has_places_in_front bytes && are_good_places bytes) four.3) in
    let two = and_parts (is_good_place bytes 0 && is_good_place bytes 1) (is_good_place bytes 2) places.1 in
    let one = and_parts (is_good_place bytes 0) (is_good_place bytes 1) two.0 in (
      record {
        order = order_is w four.0;
        fixed = fixed_parts w field.0;
        same = eqb-true (logical_size w) (physical_size w) size.0;
        small = leb-true ((logical_size w + 1) * 512) BLOCK_SIZE_MAX size.1;
        born = fixed.3;
        front = places.0;
        first = one.0;
        second = one.1;
        third = two.1;
      },
      record { seven = fixed.0; eight = fixed.1; nine = fixed.2; fill = fixed.4 },
    )
