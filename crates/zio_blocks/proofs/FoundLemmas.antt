-- The pointers to what lies at the places of an entry.
use Rattle.std.proofs.Common.{◌≡◌, ℕ, zero, suc, ◌+◌, ◌-◌, ◌/◌, ◌%◌, ◌<◌, ◌≤◌, List, [], ◌∷◌, length, map, drop, get_or, replicate, inl, inr, refl, ap, subst, ◌∙◌, arith, eq-eqb, eqb-true, leb-true, le-leb, lt-ltb, IsTrue}
use Rattle.std.specs.Prelude.{Bool, true, false, cond, ◌&&◌, ◌||◌, ◌==◌, min, nat_le, nat_lt, slice_get}
use Rattle.std.specs.List.{AllByRecursion, list_all}
use Rattle.std.proofs.Math.Seq.{take-append_seam, drop-append_seam}
use Rattle.std.proofs.lemmas.Bool.{and_from, and_parts, false≢true, ltb-false, ltb-true, or_cases}
use Rattle.zio_types.specs.declared.place.Place.{Place}
use Rattle.zio_types.specs.declared.place.Top.{Top}
use Rattle.zio_types.specs.declared.place.TopSize.{TopSize}
use Rattle.zio_types.specs.Choices.{Ask, Choice, is_refused, no_place}
use Rattle.zio_types.specs.Places.{IsLawfulChoice, end_of, fits_on, fits_size, is_below, is_inside, is_lawful_top, is_unit, rounded_to, sector_size}
use Rattle.zio_blkptr.specs.declared.pointer.Bp.{Bp}
use Rattle.zio_blkptr.specs.declared.pointer.TheConstants.{SECTOR_END, TOP_END}
use Rattle.zio_blkptr.specs.Pointers.{FitsTypes, is_absent, is_block_size, is_present, is_rounding_of, places_of, sectors_stored}
use Rattle.zio_cksum.specs.Frames.{spots_of}
use Rattle.zio_cksum.specs.Images.{Setting}
use Rattle.zio_gang.specs.Trees.{is_claimable, piece_size, size_of, sizes_of}
use Rattle.zio_gang.specs.Writes.{Writing, head_ask, pointer_to}
use Rattle.zio_disks.specs.Disks.{LieOn}
use Rattle.zio_disks.specs.Trees.{BearsTops}
use Rattle.zio_disks.proofs.TreeLemmas.{pointer_lies}
use Rattle.zio_blocks.specs.Blocks.{HavePointers}
use Rattle.zio_blocks.specs.Choosers.{IsFound, IsFoundEntry}
use Rattle.zio_blocks.specs.EntryLaws.{found_all}
use Rattle.zio_blocks.specs.Parts.{IsMade}

-- ---- a place that was found

or_left : (a b : Bool) → a ≡ true → a || b ≡ true
or_left true b e = refl
or_left false b e = absurd (false≢true e)

or_right : (a b : Bool) → b ≡ true → a || b ≡ true
or_right true b e = refl
or_right false b e = e

is_one : (sectors unit one n : ℕ) → (unit == one) ≡ true → sectors ≡ rounded_to unit n → (sectors == rounded_to one n) ≡ true
is_one sectors unit one n at is = eq-eqb sectors (rounded_to one n) (is ∙ ap (λ u. rounded_to u n) (eqb-true unit one at))

-- so many sectors by a lawful unit are a rounding
rounding_by : (unit n sectors : ℕ) → is_unit unit ≡ true → sectors ≡ rounded_to unit n → is_rounding_of sectors n ≡ true
rounding_by unit n sectors h is =
    let r1 = sectors == rounded_to 1 n in
    let r2 = sectors == rounded_to 2 n in
    let r4 = sectors == rounded_to 4 n in
    let r8 = sectors == rounded_to 8 n in
    elim (or_cases (((unit == 1) || (unit == 2)) || (unit == 4)) (unit == 8) h) [
      | inl less ↦
          elim (or_cases ((unit == 1) || (unit == 2)) (unit == 4) less) [
            | inl few ↦ elim (or_cases (unit == 1) (unit == 2) few) [
              | inl one ↦ or_left r1 (r2 || (r4 || (r8 || false))) (is_one sectors unit 1 n one is)
              | inr two ↦ or_right r1 (r2 || (r4 || (r8 || false))) (or_left r2 (r4 || (r8 || false)) (is_one sectors unit 2 n two is))
            ]
            | inr four ↦ or_right r1 (r2 || (r4 || (r8 || false))) (or_right r2 (r4 || (r8 || false)) (or_left r4 (r8 || false) (is_one sectors unit 4 n four is)))
          ]
      | inr eight ↦ or_right r1 (r2 || (r4 || (r8 || false))) (or_right r2 (r4 || (r8 || false)) (or_right r4 (r8 || false) (or_left r8 false (is_one sectors unit 8 n eight is))))
    ]

-- What a place that was found is: a rounding of what it holds, on one of the tops, below the end of what a pointer spells.
record IsThere (tops size : ℕ) (p : Place) (at : ℕ) : Type 0 where
  pub rounding : is_rounding_of p.sectors (size / sector_size) ≡ true
  pub top : at < tops
  pub sector : p.sector < SECTOR_END

there : (tops : List Top) (i size : ℕ) (p : Place) → AllByRecursion (λ (top : Top). IsTrue (is_lawful_top (size_of top))) tops → AllByRecursion (λ (top : Top). top.sectors ≤ SECTOR_END) tops
    → IsTrue (fits_on size p (slice_get (map size_of tops) i)) → IsTrue (is_below p (slice_get (map size_of tops) i)) → IsThere (length tops) size p i
there [] i size p lawful short fits below = absurd (false≢true fits)
there (top ∷ tops) zero size p lawful short fits below =
    let f = and_parts (p.sector % top.unit == 0) (p.sectors == rounded_to top.unit (size / sector_size)) fits in
    let b = and_parts (nat_lt 0 p.sectors) (nat_le (end_of p) top.sectors) below in
    let unit = and_parts (is_unit top.unit) (top.sectors % top.unit == 0) lawful.0 in
    let some : 0 < p.sectors = ltb-true 0 p.sectors b.0 in
    let end : end_of p ≤ top.sectors = leb-true (end_of p) top.sectors b.1 in
    let most : top.sectors ≤ SECTOR_END = short.0 in
    record {
      rounding = rounding_by top.unit (size / sector_size) p.sectors unit.0 (eqb-true p.sectors (rounded_to top.unit (size / sector_size)) f.1);
      top = omega arith;
      sector = omega arith;
    }
there (top ∷ tops) (suc i) size p lawful short fits below =
    let h = there tops i size p lawful.1 short.1 fits below in
    record { rounding = h.rounding; top = omega (arith, h.top); sector = h.sector }

-- ---- the places of an entry

all_present : (tops : List Top) (bp : Bp) (size : ℕ) (places : List Place) → HavePointers tops → sectors_stored bp ≡ size / sector_size → AllByRecursion (IsFound (sizes_of tops) size) places → list_all (is_present bp) places ≡ true
all_present tops bp size [] have stored h = refl
all_present tops bp size (p ∷ places) have stored h =
    let t = there tops p.top size p have.lawful have.short h.0.fits h.0.inside in
    let few = have.few in
    and_from (is_present bp p) (list_all (is_present bp) places)
    (and_from (is_rounding_of p.sectors (sectors_stored bp) && nat_lt p.top TOP_END) (nat_lt p.sector SECTOR_END)
    (and_from (is_rounding_of p.sectors (sectors_stored bp)) (nat_lt p.top TOP_END)
    (ap (is_rounding_of p.sectors) stored ∙ t.rounding) (lt-ltb p.top TOP_END (omega (arith, t.top, few))))
    (lt-ltb p.sector SECTOR_END t.sector))
    (all_present tops bp size places have stored h.1)

all_inside : (tops : List TopSize) (size : ℕ) (places : List Place) → AllByRecursion (IsFound tops size) places → list_all (is_inside tops) places ≡ true
all_inside tops size [] h = refl
all_inside tops size (p ∷ places) h = and_from (is_inside tops p) (list_all (is_inside tops) places) h.0.inside (all_inside tops size places h.1)

all_claimable : (tops : List TopSize) (size : ℕ) (places : List Place) → AllByRecursion (IsFound tops size) places → list_all (is_claimable tops size) places ≡ true
all_claimable tops size [] h = refl
all_claimable tops size (p ∷ places) h =
    and_from (is_claimable tops size p) (list_all (is_claimable tops size) places) (and_from (is_inside tops p) (fits_size tops size p) h.0.inside h.0.fits) (all_claimable tops size places h.1)

all_absent : (n : ℕ) → list_all is_absent (replicate n no_place) ≡ true
all_absent zero = refl
all_absent (suc n) = all_absent n

-- What an entry with all its copies is.
pub record IsWholeEntry (tops : List TopSize) (size : ℕ) (places : List Place) : Type 0 where
  pub one : 1 ≤ length places
  pub three : length places ≤ 3
  pub each : AllByRecursion (IsFound tops size) places

pub whole_found : (tops : List TopSize) (e : Choice) (size : ℕ) → IsFoundEntry tops e → is_refused e ≡ false → 1 ≤ e.asked.copies → e.asked.copies ≤ 3 → e.asked.size ≡ size → IsWholeEntry tops size e.places
whole_found tops e size entry found one three is =
    let enough : e.asked.copies ≤ length e.places = ltb-false (length e.places) e.asked.copies found in
    let most = entry.most in
    record {
      one = omega (arith, enough, one);
      three = omega (arith, most, three);
      each = subst (λ n. AllByRecursion (IsFound tops n) e.places) is entry.each;
    }

-- a lawful one is such
pub whole_entry : (tops : List TopSize) (used : List Place) (e : Choice) (size : ℕ) → IsLawfulChoice tops used e → is_refused e ≡ false → 1 ≤ e.asked.copies → e.asked.copies ≤ 3 → e.asked.size ≡ size → IsWholeEntry tops size e.places
whole_entry tops used e size lawful = whole_found tops e size (found_all tops used (e ∷ []) (lawful, tt)).0

-- the places of such a pointer
pub places_of_pointer : (w : Writing) (places : List Place) (gang : Bool) (bytes : List ℕ) → places_of (pointer_to w places gang bytes) ≡ places
places_of_pointer w places gang bytes = take-append_seam places (replicate (3 - length places) no_place)

stored_is : (w : Writing) (places : List Place) (gang : Bool) (bytes : List ℕ) (size : ℕ) → cond gang 512 (length bytes) ≡ size → sectors_stored (pointer_to w places gang bytes) ≡ size / sector_size
stored_is w places true bytes size e = ap (λ n. n / sector_size) e
stored_is w places false bytes size e = ap (λ n. n / sector_size) e

-- a pointer to what lies at the places of such an entry
pub made_pointer : (tops : List Top) (w : Writing) (places : List Place) (gang : Bool) (bytes : List ℕ) (size : ℕ) → HavePointers tops → IsWholeEntry (sizes_of tops) size places → cond gang 512 (length bytes) ≡ size
    → 0 < length bytes → length bytes % 512 ≡ 0 → length bytes ≤ 1048576 → 1 ≤ w.birth → FitsTypes (pointer_to w places gang bytes) → IsMade (sizes_of tops) (pointer_to w places gang bytes)
made_pointer tops w places gang bytes size have entry is some whole most born types =
    let bp : Bp = pointer_to w places gang bytes in
    let at : places_of bp ≡ places = places_of_pointer w places gang bytes in
    let present : list_all (is_present bp) (places_of bp) ≡ true =
    ap (list_all (is_present bp)) at ∙ all_present tops bp size places have (stored_is w places gang bytes size is) entry.each in
    let absent : list_all is_absent (drop bp.count bp.places) ≡ true =
    ap (list_all is_absent) (drop-append_seam places (replicate (3 - length places) no_place)) ∙ all_absent (3 - length places) in
    let sized : is_block_size (length bytes) ≡ true =
    and_from ((length bytes % sector_size == 0) && nat_le sector_size (length bytes)) (nat_le (length bytes) 1048576)
    (and_from (length bytes % sector_size == 0) (nat_le sector_size (length bytes)) (eq-eqb (length bytes % 512) 0 whole) (le-leb 512 (length bytes) (omega arith)))
    (le-leb (length bytes) 1048576 most) in
    record {
      types = types;
      ok = and_from _ _ (and_from _ _ (and_from _ _ (and_from _ _ (and_from _ _ (le-leb 1 (length places) entry.one) (le-leb (length places) 3 entry.three)) present) absent) sized) (le-leb 1 w.birth born);
      inside = ap (list_all (is_inside (sizes_of tops))) at ∙ all_inside (sizes_of tops) size places entry.each;
      fitting = ap (λ n. list_all (is_claimable (sizes_of tops) n) (places_of bp)) is ∙ ap (list_all (is_claimable (sizes_of tops) size)) at ∙ all_claimable (sizes_of tops) size places entry.each;
    }

-- the copies at these places lie on the disks
pub entry_lies : (s : Setting) (sizes : List ℕ) (w : Writing) (places : List Place) (gang : Bool) (bytes : List ℕ) (size : ℕ) → BearsTops s sizes → cond gang 512 (length bytes) ≡ size → IsMade (sizes_of s.tops) (pointer_to w places gang bytes)
    → LieOn sizes size (spots_of s places)
entry_lies s sizes w places gang bytes size bears is made =
    let bp : Bp = pointer_to w places gang bytes in
    subst (λ n. LieOn sizes n (spots_of s places)) is
    (subst (λ ps. LieOn sizes (piece_size bp) (spots_of s ps)) (places_of_pointer w places gang bytes)
    (pointer_lies s sizes bp bears (record { ok = made.ok; inside = made.inside })))

-- the first place of such an entry can be spelled
pub first_sector : (tops : List Top) (size : ℕ) (places : List Place) → HavePointers tops → IsWholeEntry (sizes_of tops) size places → (get_or places 0 no_place).sector < SECTOR_END
first_sector tops size places have entry = at places entry.one entry.each where
  at : (ps : List Place) → 1 ≤ length ps → AllByRecursion (IsFound (sizes_of tops) size) ps → (get_or ps 0 no_place).sector < SECTOR_END
  at [] one each = absurd (omega arith)
  at (p ∷ ps) one each = (there tops p.top size p have.lawful have.short each.0.fits each.0.inside).sector

-- the entry of a gang's header
pub head_entry : (tops : List TopSize) (w : Writing) (path : List ℕ) (e : Choice) → IsFoundEntry tops e → is_refused e ≡ false → e.asked ≡ head_ask w path → 1 ≤ w.copies → IsWholeEntry tops 512 e.places
head_entry tops w path e entry found asked one =
    let copies : e.asked.copies ≡ min (w.copies + 1) 3 = ap (λ (a : Ask). a.copies) asked in
    whole_found tops e 512 entry found (omega arith) (omega arith) (ap (λ (a : Ask). a.size) asked)
