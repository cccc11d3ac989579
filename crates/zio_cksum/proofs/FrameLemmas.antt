-- What one write to a leaf leaves alone, and one after another.
use Rattle.std.proofs.Common.{◌≡◌, ℕ, ◌+◌, ◌<◌, ◌≤◌, List, length, map, set, slice_get, Bool, true, Option, Some, None, Contains, ⊎_elim, refl, sym, ap, ◌∙◌, subst, arith}
use Rattle.std.specs.List.{AllByRecursion}
use Rattle.std.proofs.lemmas.Bool.{cases_eq, cases_lt}
use Rattle.zio_faults.specs.declared.table.Hit.{Hit}
use Rattle.zio_faults.specs.declared.table.FaultKind.{FaultKind}
use Rattle.zio_faults.specs.declared.table.FaultKind.TheVariants.{Eio, Gone, Flip}
use Rattle.zio_faults.specs.Hits.{flipped}
use Rattle.zio_cksum.specs.Images.{Images, Setting, Spot, image_of, overwritten, with_bytes, faulty_write, write_met, write_leaf, met, padded_to}
use Rattle.zio_types.specs.declared.place.Place.{Place}
use Rattle.zio_cksum.specs.Blocks.{spot_in, leaves_of}
use Rattle.zio_cksum.specs.Frames.{FitSpots, SameOutside, spots_of}
use Rattle.zio_cksum.proofs.AllLemmas.{all_contains, all_weaker, all_parts}
use Rattle.zio_cksum.proofs.ByteLemmas.{length-padded_to, length-overwritten, overwritten_outside, length-flipped, image_of_other, image_of_same, images_past}

-- ---- images that are the same outside some spots

-- images are as they were
pub same_itself : (spots : List Spot) (images : Images) → SameOutside spots images images
same_itself spots images = record { sizes = λ leaf. refl; bytes = λ leaf at out. refl }

-- one change after another
pub same_then : (spots : List Spot) (a b c : Images) → SameOutside spots a b → SameOutside spots b c → SameOutside spots a c
same_then spots a b c h k = record {
  sizes = λ leaf. k.sizes leaf ∙ h.sizes leaf;
  bytes = λ leaf at out. k.bytes leaf at out ∙ h.bytes leaf at out;
}

-- equal images are the same
same_equal : (spots : List Spot) (a b : Images) → b ≡ a → SameOutside spots a b
same_equal spots a b e = record {
  sizes = λ leaf. ap (λ (i : Images). length (image_of i leaf)) e;
  bytes = λ leaf at out. ap (λ (i : Images). slice_get (image_of i leaf) at) e;
}

-- what fits the images fits those that have their sizes
pub fit_same : (spots all : List Spot) (old new : Images) → SameOutside all old new → FitSpots spots old → FitSpots spots new
fit_same spots all old new h =
    all_weaker (λ (spot : Spot). spot.at + spot.span ≤ length (image_of old spot.leaf)) (λ (spot : Spot). spot.at + spot.span ≤ length (image_of new spot.leaf)) spots
    (λ spot fit. omega (arith, h.sizes spot.leaf))

-- one of the spots has so many bytes of its image
pub spot_fits : (spots : List Spot) (images : Images) (spot : Spot) → FitSpots spots images → Contains spots spot → spot.at + spot.span ≤ length (image_of images spot.leaf)
spot_fits spots images spot fit c =
    all_contains (λ (t : Spot). t.at + t.span ≤ length (image_of images t.leaf)) spots spot fit c

-- ---- one write

-- a leaf that is there gets the bytes
with_bytes_there : (spots : List Spot) (images : Images) (spot : Spot) (bytes : List ℕ) → Contains spots spot → length bytes ≡ spot.span → spot.at + spot.span ≤ length (image_of images spot.leaf) → spot.leaf < length images → SameOutside spots images (with_bytes images spot bytes)
with_bytes_there spots images spot bytes c e fit there =
    let image : List ℕ = overwritten (image_of images spot.leaf) spot.at bytes in
    let same : image_of (set images spot.leaf image) spot.leaf ≡ image = image_of_same images spot.leaf image there in
    let fits : spot.at + length bytes ≤ length (image_of images spot.leaf) = omega arith in
    record {
      sizes = λ leaf.
          ⊎_elim
          (λ (is : leaf ≡ spot.leaf).
          let P : ℕ → Type 0 = λ n. length (image_of (set images spot.leaf image) n) ≡ length (image_of images n) in
          subst P (sym is) (ap length same ∙ length-overwritten (image_of images spot.leaf) spot.at bytes fits))
          (λ (ne : leaf ≡ spot.leaf → ⊥). ap length (image_of_other images spot.leaf leaf image ne))
          (cases_eq leaf spot.leaf);
      bytes = λ leaf at out.
          ⊎_elim
          (λ (is : leaf ≡ spot.leaf).
          let P : ℕ → Type 0 = λ n. slice_get (image_of (set images spot.leaf image) n) at ≡ slice_get (image_of images n) at in
          subst P (sym is)
          (ap (λ i. slice_get i at) same
          ∙ overwritten_outside (image_of images spot.leaf) spot.at bytes at fits
          (λ within. out (record { spot = spot; listed = c; same_leaf = sym is; from = within.0; below = omega (arith, within.1) }))))
          (λ (ne : leaf ≡ spot.leaf → ⊥). ap (λ i. slice_get i at) (image_of_other images spot.leaf leaf image ne))
          (cases_eq leaf spot.leaf);
    }

-- bytes that are stored at one of the spots change nothing outside the spots
with_bytes_same : (spots : List Spot) (images : Images) (spot : Spot) (bytes : List ℕ) → Contains spots spot → length bytes ≡ spot.span → spot.at + spot.span ≤ length (image_of images spot.leaf) → SameOutside spots images (with_bytes images spot bytes)
with_bytes_same spots images spot bytes c e fit =
    ⊎_elim (λ there. with_bytes_there spots images spot bytes c e fit there)
    (λ past. same_equal spots images (with_bytes images spot bytes) (images_past images spot.leaf (overwritten (image_of images spot.leaf) spot.at bytes) past))
    (cases_lt spot.leaf (length images))

-- a faulty write stores nothing, or as many bytes with some of them turned
faulty_same : (kind : FaultKind) (hit : Hit) (spots : List Spot) (images : Images) (spot : Spot) (bytes : List ℕ) → Contains spots spot → length bytes ≡ spot.span → spot.at + spot.span ≤ length (image_of images spot.leaf) → SameOutside spots images ((faulty_write kind hit images spot bytes).images)
faulty_same Eio hit spots images spot bytes c e fit = same_itself spots images
faulty_same Gone hit spots images spot bytes c e fit = same_itself spots images
faulty_same Flip hit spots images spot bytes c e fit =
    with_bytes_same spots images spot (flipped spot.at hit bytes) c (length-flipped spot.at hit bytes ∙ e) fit

met_same : (hit : Option Hit) (spots : List Spot) (images : Images) (spot : Spot) (bytes : List ℕ) → Contains spots spot → length bytes ≡ spot.span → spot.at + spot.span ≤ length (image_of images spot.leaf) → SameOutside spots images ((write_met hit images spot bytes).images)
met_same None spots images spot bytes c e fit = with_bytes_same spots images spot bytes c e fit
met_same (Some hit) spots images spot bytes c e fit = faulty_same hit.kind hit spots images spot bytes c e fit

-- whatever row it meets, a write to one of the spots changes nothing outside the spots
pub write_same : (spots : List Spot) (s : Setting) (retry : Bool) (bytes : List ℕ) (images : Images) (spot : Spot) → FitSpots spots images → Contains spots spot → SameOutside spots images ((write_leaf s retry bytes images spot).images)
write_same spots s retry bytes images spot fit c =
    met_same (met s retry true spot) spots images spot (padded_to spot.span bytes) c (length-padded_to spot.span bytes)
    (spot_fits spots images spot fit c)

-- ---- the spots of places

-- the place's spots are among these
abbrev pub AreAmong : List Spot → Setting → Place → Type 0
AreAmong spots s p = AllByRecursion (Contains spots) (map (spot_in p) (leaves_of s p))

-- the spots of places are those of each
pub places_among : (s : Setting) (places : List Place) → AllByRecursion (AreAmong (spots_of s places) s) places
places_among s places = all_parts (λ p. map (spot_in p) (leaves_of s p)) places
