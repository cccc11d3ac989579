-- What stands in the fields of the numbers that a pointer is spelled by: a place's two words, and the word of
-- properties.
use Rattle.std.proofs.Common.{◌≡◌, ℕ, ◌+◌, ◌-◌, ◌*◌, ◌/◌, ◌%◌, ◌^◌, ◌<◌, ◌≤◌, List, Bool, true, false, refl, ap, sym, ◌∙◌, arith, ◌==◌}
use Rattle.zio_types.specs.declared.place.Place.{Place}
use Rattle.zio_blkptr.specs.Pointers.{bit, place_field, word_of, sum_number, sum_of_number}
use Rattle.zio_blkptr.specs.declared.pointer.SumKind.{SumKind}
use Rattle.zio_blkptr.specs.declared.pointer.SumKind.TheVariants.{Off, Fletcher4, Sha256}
use Rattle.zio_blkptr.specs.declared.pointer.TheConstants.{BLOCK_SIZE_MAX}

-- The place is what stands in these two words, and both fit.
pub record PlaceWords (p : Place) (u v : ℕ) : Type 0 where
  pub top : u / 2 ^ 32 % 2 ^ 24 ≡ p.top
  pub sector : v % 2 ^ 63 ≡ p.sector
  pub sectors : u % 2 ^ 24 ≡ p.sectors
  pub first_fits : u < 2 ^ 64
  pub second_fits : v < 2 ^ 64

pub bit_small : (gang : Bool) → bit gang < 2
bit_small false = omega arith
bit_small true = omega arith

-- all that `PlaceWords` says of a place in range, with its gang bit as a number
present : (p : Place) (b : ℕ) → p.sectors < 2 ^ 24 → p.top < 2 ^ 24 → p.sector < 2 ^ 48 → b < 2
    → PlaceWords p (p.sectors + p.top * 2 ^ 32) (p.sector + b * 2 ^ 63)
present p b sectors top sector small = record {
  top = omega arith;
  sector = omega arith;
  sectors = omega arith;
  first_fits = omega arith;
  second_fits = omega arith;
}

-- a place in range is what its spelling's words hold
pub PlaceWords-present : (gang : Bool) (p : Place) → p.sectors < 2 ^ 24 → p.top < 2 ^ 24 → p.sector < 2 ^ 48
    → PlaceWords p (p.sectors + p.top * 2 ^ 32) (p.sector + bit gang * 2 ^ 63)
PlaceWords-present gang p sectors top sector = present p (bit gang) sectors top sector (bit_small gang)

-- two words of 0 hold the absent place
pub PlaceWords-absent : (p : Place) → p.sectors ≡ 0 → p.top ≡ 0 → p.sector ≡ 0 → PlaceWords p 0 0
PlaceWords-absent p sectors top sector = record {
  top = sym top;
  sector = sym sector;
  sectors = sym sectors;
  first_fits = omega arith;
  second_fits = omega arith;
}

-- place i of bytes whose words are these
pub place_field-words : (bytes : List ℕ) (i : ℕ) (p : Place) (u v : ℕ) → PlaceWords p u v
    → word_of bytes (2 * i) ≡ u → word_of bytes (2 * i + 1) ≡ v → place_field bytes i ≡ p
place_field-words bytes i p u v holds first second =
    let top = ap (λ n. n / 2 ^ 32 % 2 ^ 24) first ∙ holds.top in
    let sector = ap (λ n. n % 2 ^ 63) second ∙ holds.sector in
    let sectors = ap (λ n. n % 2 ^ 24) first ∙ holds.sectors in
    λ j. record { top = top j; sector = sector j; sectors = sectors j }

-- bit 63 above the sector
gang_bit : (sector b : ℕ) → sector < 2 ^ 48 → b < 2 → (sector + b * 2 ^ 63) / 2 ^ 63 ≡ b
gang_bit sector b fits small = omega arith

pub bit_is_one : (gang : Bool) → (bit gang == 1) ≡ gang
bit_is_one false = refl
bit_is_one true = refl

-- the top bit of a place's second word says whether it is a gang's
pub gang_read : (sector : ℕ) (gang : Bool) → sector < 2 ^ 48 → ((sector + bit gang * 2 ^ 63) / 2 ^ 63 == 1) ≡ gang
gang_read sector gang fits = ap (λ n. n == 1) (gang_bit sector (bit gang) fits (bit_small gang)) ∙ bit_is_one gang

-- ---- the word of properties, of a size in sectors less 1 and a checksum's number

-- its lowest 16 bits are the size
size_part : (n s : ℕ) → n < 2 ^ 16 → s < 16 → (n + n * 2 ^ 16 + 2 * 2 ^ 32 + s * 2 ^ 40 + 2 ^ 63) % 2 ^ 16 ≡ n
size_part n s small few = omega arith

-- its bits 40 to 47 are the checksum's number
sum_part : (n s : ℕ) → n < 2 ^ 16 → s < 16 → (n + n * 2 ^ 16 + 2 * 2 ^ 32 + s * 2 ^ 40 + 2 ^ 63) / 2 ^ 40 % 2 ^ 8 ≡ s
sum_part n s small few = omega arith

fits_part : (n s : ℕ) → n < 2 ^ 16 → s < 16 → n + n * 2 ^ 16 + 2 * 2 ^ 32 + s * 2 ^ 40 + 2 ^ 63 < 2 ^ 64
fits_part n s small few = omega arith

-- The size is of whole sectors, up to the largest block's.
pub record IsSize (size : ℕ) : Type 0 where
  pub whole : size % 512 ≡ 0
  pub low : 512 ≤ size
  pub high : size ≤ BLOCK_SIZE_MAX

-- a size in sectors less 1 has 16 bits
pub few_sectors : (size : ℕ) → IsSize size → size / 512 - 1 < 2 ^ 16
few_sectors size h = omega arith

pub sum_small : (sum : SumKind) → sum_number sum < 16
sum_small Off = omega arith
sum_small Fletcher4 = omega arith
sum_small Sha256 = omega arith

-- a checksum's number says which it is
pub sum_number_read : (sum : SumKind) → sum_of_number (sum_number sum) ≡ sum
sum_number_read Off = refl
sum_number_read Fletcher4 = refl
sum_number_read Sha256 = refl

-- a size is its sectors less 1, and 1, in bytes
pub size_again : (size : ℕ) → IsSize size → (size / 512 - 1 + 1) * 512 ≡ size
size_again size h = omega arith

-- the word of properties of a pointer with this size and checksum
abbrev pub properties_of : ℕ → SumKind → ℕ
properties_of size sum = (size / 512 - 1) + (size / 512 - 1) * 2 ^ 16 + 2 * 2 ^ 32 + sum_number sum * 2 ^ 40 + 2 ^ 63

-- the word of properties fits
pub properties-fit : (size : ℕ) (sum : SumKind) → IsSize size → properties_of size sum < 2 ^ 64
properties-fit size sum h = fits_part (size / 512 - 1) (sum_number sum) (few_sectors size h) (sum_small sum)

-- it says the size
pub size_read : (size : ℕ) (sum : SumKind) → IsSize size → (properties_of size sum % 2 ^ 16 + 1) * 512 ≡ size
size_read size sum h =
    ap (λ n. (n + 1) * 512) (size_part (size / 512 - 1) (sum_number sum) (few_sectors size h) (sum_small sum)) ∙ size_again size h

-- it says the checksum
pub sum_read : (size : ℕ) (sum : SumKind) → IsSize size → sum_of_number (properties_of size sum / 2 ^ 40 % 2 ^ 8) ≡ sum
sum_read size sum h =
    ap sum_of_number (sum_part (size / 512 - 1) (sum_number sum) (few_sectors size h) (sum_small sum)) ∙ sum_number_read sum
