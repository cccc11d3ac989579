-- Where the headers of a walk may be read: places of valid pointers, on tops with leaves.
use Rattle.std.proofs.Common.{◌≡◌, ℕ, zero, suc, ◌+◌, ◌-◌, ◌*◌, ◌/◌, ◌%◌, ◌^◌, ◌<◌, ◌≤◌, List, [], ◌∷◌, length, Bool, true, false, cond, ◌&&◌, ◌==◌, nat_lt, Option, Some, None, slice_get, IsTrue, refl, ap, ◌∙◌, arith, eqb-true}
use Rattle.std.specs.Prelude.{filter}
use Rattle.std.specs.List.{AllByRecursion, list_all}
use Rattle.std.proofs.lemmas.Bool.{and_parts, and_from, eq-eqb}
use Rattle.std.proofs.lemmas.Nat.{mod-mul-add}
use Rattle.std.proofs.Math.Nat.{mod-zero}
use Rattle.zio_types.specs.declared.place.Place.{Place}
use Rattle.zio_types.specs.declared.place.Top.{Top}
use Rattle.zio_types.specs.declared.place.TopSize.{TopSize}
use Rattle.zio_types.specs.Places.{fits_on, fits_size, is_aligned_on, is_below, is_inside, sector_size, sectors_on}
use Rattle.zio_blkptr.specs.declared.pointer.Bp.{Bp}
use Rattle.zio_blkptr.specs.declared.pointer.TheConstants.{SECTOR_END, TOP_END}
use Rattle.zio_blkptr.specs.Pointers.{is_present, is_rounding_of, places_of, sectors_stored, valid}
use Rattle.zio_blkptr.proofs.Fields.{IsSize}
use Rattle.zio_blkptr.proofs.PointerLemmas.{IsInRange-from, valid_parts}
use Rattle.zio_blkptr.proofs.Roundings.{near_by_rounding}
use Rattle.zio_cksum.proofs.AllLemmas.{all_filter, all_weaker}
use Rattle.zio_cksum.specs.Blocks.{leaves_of_top}
use Rattle.zio_gang.specs.Trees.{inval_unless, is_claimable, piece_size, sizes_of}
use Rattle.zio_parts.specs.Copies.{AreMirrored}
use Rattle.zio_exchange.specs.SpaceCalls.{LieOnTops}
use Rattle.zio_stages.specs.HeadsNodes.{HasLeaves, LiesOn}
use Rattle.zio_stages.specs.HeadsWorks.{claim_error}
use Rattle.zio_stages.specs.Tops.{AreTops, IsTop}
use Rattle.zio_stages.specs.WriteIos.{AreIoPlaces, AreShort}

-- ---- a valid pointer's places can be read

few_sectors : (gang : Bool) (size n : ℕ) → IsSize size → IsTrue (is_rounding_of n (cond gang 1 (size / 512))) → n < 2 ^ 23
few_sectors true size n h e = let near = near_by_rounding n 1 e in omega arith
few_sectors false size n h e = let near = near_by_rounding n (size / 512) e in omega arith

is_short : (bp : Bp) (p : Place) → IsSize bp.size → IsTrue (is_present bp p) → p.sectors * sector_size < 2 ^ 32
is_short bp p size h =
    let rounded = is_rounding_of p.sectors (sectors_stored bp) in
    let two = and_parts (rounded && nat_lt p.top TOP_END) (nat_lt p.sector SECTOR_END) h in
    let one = and_parts rounded (nat_lt p.top TOP_END) two.0 in
    let few : p.sectors < 2 ^ 23 = few_sectors bp.gang bp.size p.sectors size one.0 in
    omega arith

all_short : (bp : Bp) (ps : List Place) → IsSize bp.size → IsTrue (list_all (is_present bp) ps) → AreShort ps
all_short bp [] size h = tt
all_short bp (p ∷ ps) size h =
    let parts = and_parts (is_present bp p) (list_all (is_present bp) ps) h in
    (is_short bp p size parts.0, all_short bp ps size parts.1)

all_mirrored : (tops : List Top) (bp : Bp) (ps : List Place) → IsSize bp.size → IsTrue (list_all (is_present bp) ps) → AllByRecursion (HasLeaves tops) ps → AreMirrored tops ps
all_mirrored tops bp [] size h on = tt
all_mirrored tops bp (p ∷ ps) size h on =
    let parts = and_parts (is_present bp p) (list_all (is_present bp) ps) h in
    let sector : p.sector < 2 ^ 48 = (IsInRange-from bp p size parts.0).sector in
    (record { least = on.0.least; most = on.0.most; fits = omega arith }, all_mirrored tops bp ps size parts.1 on.1)

pub io_places : (tops : List Top) (bp : Bp) → IsTrue (valid bp) → LiesOn tops bp → length (places_of bp) ≡ bp.count → AreIoPlaces tops (places_of bp)
io_places tops bp ok on count =
    let parts = valid_parts bp ok in
    record {
      few = omega (arith, parts.high, count);
      mirrored = all_mirrored tops bp (places_of bp) parts.size parts.present on;
      short = all_short bp (places_of bp) parts.size parts.present;
    }

pub some_places : (bp : Bp) → IsTrue (valid bp) → length (places_of bp) ≡ bp.count → 0 < length (places_of bp)
some_places bp ok count = omega (arith, (valid_parts bp ok).low, count)

-- ---- places that can be claimed

mod-mul : (a u : ℕ) → a * u % u ≡ 0
mod-mul a zero = mod-zero (a * zero) ∙ omega arith
mod-mul a (suc u) =
    let whole : a * suc u ≡ a * suc u + 0 = omega arith in
    ap (λ n. n % suc u) whole ∙ mod-mul-add a (suc u) 0 (omega arith)

aligned_on : (size : ℕ) (p : Place) (top : Option TopSize) → IsTrue (fits_on size p top) → IsTrue (is_aligned_on p top)
aligned_on size p None h = h
aligned_on size p (Some top) h =
    let parts = and_parts (p.sector % top.unit == 0) (p.sectors == sectors_on top size) h in
    let n : ℕ = size / sector_size in
    let is : p.sectors ≡ sectors_on top size = eqb-true p.sectors (sectors_on top size) parts.1 in
    let whole : p.sectors % top.unit ≡ 0 = ap (λ k. k % top.unit) is ∙ mod-mul ((n + (top.unit - 1)) / top.unit) top.unit in
    and_from (p.sector % top.unit == 0) (p.sectors % top.unit == 0) parts.0 (eq-eqb (p.sectors % top.unit) 0 whole)

pub claimable_lies : (tops : List TopSize) (size : ℕ) (ps : List Place) → IsTrue (list_all (is_claimable tops size) ps) → LieOnTops tops ps
claimable_lies tops size [] h = tt
claimable_lies tops size (p ∷ ps) h =
    let parts = and_parts (is_claimable tops size p) (list_all (is_claimable tops size) ps) h in
    let here = and_parts (is_inside tops p) (fits_size tops size p) parts.0 in
    ((here.0, aligned_on size p (slice_get tops p.top) here.1), claimable_lies tops size ps parts.1)

below_leaves : (p : Place) (n : ℕ) (tops : List Top) → AllByRecursion IsTop tops → IsTrue (is_below p (slice_get (sizes_of tops) n))
    → (1 ≤ length (leaves_of_top (slice_get tops n))) × (length (leaves_of_top (slice_get tops n)) ≤ 4)
below_leaves p n [] each h = absurd (cc)
below_leaves p zero (top ∷ tops) each h = (each.0.some, each.0.few)
below_leaves p (suc n) (top ∷ tops) each h = below_leaves p n tops each.1 h

claimable_leaves : (tops : List Top) (size : ℕ) (ps : List Place) → AreTops tops → IsTrue (list_all (is_claimable (sizes_of tops) size) ps) → AllByRecursion (HasLeaves tops) ps
claimable_leaves tops size [] are h = tt
claimable_leaves tops size (p ∷ ps) are h =
    let parts = and_parts (is_claimable (sizes_of tops) size p) (list_all (is_claimable (sizes_of tops) size) ps) h in
    let here = and_parts (is_inside (sizes_of tops) p) (fits_size (sizes_of tops) size p) parts.0 in
    let leaves = below_leaves p p.top tops are.each here.0 in
    (record { least = leaves.0; most = leaves.1 }, claimable_leaves tops size ps are parts.1)

judged_true : (b : Bool) → inval_unless b ≡ None → IsTrue b
judged_true true e = refl
judged_true false e = absurd (cc)

-- a claim's pointer without error
pub claim_passes : (tops : List Top) (bp : Bp) → claim_error tops bp ≡ None → IsTrue (list_all (is_claimable (sizes_of tops) (piece_size bp)) (places_of bp))
claim_passes tops bp e = judged_true (list_all (is_claimable (sizes_of tops) (piece_size bp)) (places_of bp)) e

pub claim_lies : (tops : List Top) (bp : Bp) → AreTops tops → claim_error tops bp ≡ None → LiesOn tops bp
claim_lies tops bp are e = claimable_leaves tops (piece_size bp) (places_of bp) are (claim_passes tops bp e)

-- ---- headers that a test keeps

pub all_kept : {X : Type 0} (P : X → Type 0) (f : X → Bool) (xs : List X) → AllByRecursion P xs → AllByRecursion P (filter f xs)
all_kept {X} P f xs h = all_filter P f xs (all_weaker P (λ (x : X). f x ≡ true → P x) xs (λ x p e. p) h)
