-- Places that were found for an ask: what a pointer to them is, and that they can be written.
use Rattle.std.proofs.Common.{◌≡◌, ℕ, zero, suc, ◌+◌, ◌-◌, ◌/◌, ◌%◌, ◌^◌, ◌<◌, ◌≤◌, List, [], ◌∷◌, length, map, drop, replicate, Option, Some, ◌⊎◌, inl, inr, refl, sym, ap, subst, ◌∙◌, arith, eq-eqb, eqb-true, leb-true, le-leb, lt-ltb, IsTrue}
use Rattle.std.specs.Prelude.{Bool, true, false, cond, ◌&&◌, ◌||◌, ◌==◌, IfSome, nat_le, nat_lt, slice_get}
use Rattle.std.specs.List.{AllByRecursion, list_all}
use Rattle.std.proofs.Math.Seq.{take-append_seam, drop-append_seam}
use Rattle.std.proofs.lemmas.Bool.{and_from, and_parts, false≢true, ltb-false, ltb-true, or_cases}
use Rattle.zio_types.specs.declared.place.Place.{Place}
use Rattle.zio_types.specs.declared.place.Top.{Top}
use Rattle.zio_types.specs.declared.place.TopSize.{TopSize}
use Rattle.zio_types.specs.Choices.{Choice, no_place}
use Rattle.zio_types.specs.Places.{end_of, fits_on, fits_size, is_below, is_inside, is_unit, rounded_to, sector_size, sectors_on}
use Rattle.zio_blkptr.specs.declared.pointer.Bp.{Bp}
use Rattle.zio_blkptr.specs.declared.pointer.TheConstants.{SECTOR_END, TOP_END}
use Rattle.zio_blkptr.specs.Pointers.{is_absent, is_block_size, is_present, is_rounding_of, places_of, sectors_stored, valid}
use Rattle.zio_cksum.specs.Blocks.{leaves_of_top}
use Rattle.zio_gang.specs.Trees.{size_of, sizes_of}
use Rattle.zio_gang.specs.Writes.{places_chosen, places_unless}
use Rattle.zio_parts.specs.Copies.{AreMirrored}
use Rattle.zio_parts.specs.Parts.{PartWriting, pointer_over}
use Rattle.zio_exchange.specs.SpaceCalls.{IsAnswerFor}
use Rattle.zio_stages.specs.PartWorks.{HaveUnits}
use Rattle.zio_stages.specs.Tops.{AreTops, IsTop}
use Rattle.zio_stages.specs.WriteIos.{AreIoPlaces, AreShort}

-- ---- a unit

-- one of the four
unit_cases : (unit : ℕ) → is_unit unit ≡ true → (unit ≡ 1) ⊎ ((unit ≡ 2) ⊎ ((unit ≡ 4) ⊎ (unit ≡ 8)))
unit_cases unit h = elim (or_cases (((unit == 1) || (unit == 2)) || (unit == 4)) (unit == 8) h) [
  | inl less ↦ elim (or_cases ((unit == 1) || (unit == 2)) (unit == 4) less) [
    | inl few ↦ elim (or_cases (unit == 1) (unit == 2) few) [
      | inl one ↦ inl (eqb-true unit 1 one)
      | inr two ↦ inr (inl (eqb-true unit 2 two))
    ]
    | inr four ↦ inr (inr (inl (eqb-true unit 4 four)))
  ]
  | inr eight ↦ inr (inr (inr (eqb-true unit 8 eight)))
]

or_left : (a b : Bool) → a ≡ true → a || b ≡ true
or_left true b e = refl
or_left false b e = absurd (false≢true e)

or_right : (a b : Bool) → b ≡ true → a || b ≡ true
or_right true b e = refl
or_right false b e = e

-- so many sectors by such a unit are a rounding, and few more
record IsRounded (n sectors : ℕ) : Type 0 where
  pub is : is_rounding_of sectors n ≡ true
  pub few : sectors ≤ n + 7

rounded_by : (unit n sectors : ℕ) → (unit ≡ 1) ⊎ ((unit ≡ 2) ⊎ ((unit ≡ 4) ⊎ (unit ≡ 8))) → sectors ≡ rounded_to unit n → IsRounded n sectors
rounded_by unit n sectors (inl one) e =
    let is : sectors ≡ rounded_to 1 n = e ∙ ap (λ u. rounded_to u n) one in
    record { is = or_left (sectors == rounded_to 1 n) _ (eq-eqb sectors (rounded_to 1 n) is); few = omega arith }
rounded_by unit n sectors (inr (inl two)) e =
    let is : sectors ≡ rounded_to 2 n = e ∙ ap (λ u. rounded_to u n) two in
    record { is = or_right (sectors == rounded_to 1 n) _ (or_left (sectors == rounded_to 2 n) _ (eq-eqb sectors (rounded_to 2 n) is)); few = omega arith }
rounded_by unit n sectors (inr (inr (inl four))) e =
    let is : sectors ≡ rounded_to 4 n = e ∙ ap (λ u. rounded_to u n) four in
    record {
      is = or_right (sectors == rounded_to 1 n) _ (or_right (sectors == rounded_to 2 n) _ (or_left (sectors == rounded_to 4 n) _ (eq-eqb sectors (rounded_to 4 n) is)));
      few = omega arith;
    }
rounded_by unit n sectors (inr (inr (inr eight))) e =
    let is : sectors ≡ rounded_to 8 n = e ∙ ap (λ u. rounded_to u n) eight in
    record {
      is = or_right (sectors == rounded_to 1 n) _ (or_right (sectors == rounded_to 2 n) _ (or_right (sectors == rounded_to 4 n) _ (or_left (sectors == rounded_to 8 n) false (eq-eqb sectors (rounded_to 8 n) is))));
      few = omega arith;
    }

-- ---- a place

-- What a place that was found is: a rounding of what it holds, on one of the tops, with leaves there.
record IsThere (many size : ℕ) (p : Place) (at : ℕ) (leaves : List ℕ) : Type 0 where
  pub rounded : IsRounded (size / sector_size) p.sectors
  pub top : at < many
  pub sector : p.sector < 2 ^ 39
  pub some : 1 ≤ length leaves
  pub few : length leaves ≤ 4

there : (tops : List Top) (i size : ℕ) (p : Place) → AllByRecursion IsTop tops → HaveUnits tops → IsTrue (fits_on size p (slice_get (map size_of tops) i)) → IsTrue (is_below p (slice_get (map size_of tops) i))
    → IsThere (length tops) size p i (leaves_of_top (slice_get tops i))
there [] i size p each units fits below = absurd (false≢true fits)
there (top ∷ tops) zero size p each units fits below =
    let f = and_parts (p.sector % top.unit == 0) (p.sectors == sectors_on (size_of top) size) fits in
    let b = and_parts (nat_lt 0 p.sectors) (nat_le (end_of p) top.sectors) below in
    let some : 0 < p.sectors = ltb-true 0 p.sectors b.0 in
    let end : end_of p ≤ top.sectors = leb-true (end_of p) top.sectors b.1 in
    let most : top.sectors ≤ 2 ^ 39 = each.0.sectors in
    record {
      rounded = rounded_by top.unit (size / sector_size) p.sectors (unit_cases top.unit units.0) (eqb-true p.sectors (sectors_on (size_of top) size) f.1);
      top = omega arith;
      sector = omega arith;
      some = each.0.some;
      few = each.0.few;
    }
there (top ∷ tops) (suc i) size p each units fits below =
    let h = there tops i size p each.1 units.1 fits below in
    record { rounded = h.rounded; top = omega (arith, h.top); sector = h.sector; some = h.some; few = h.few }

-- ---- all of them

-- they are inside their tops and fit the size
abbrev pub AreFound : List TopSize → ℕ → List Place → Type 0
AreFound tops size places = AllByRecursion (λ (p : Place). IsTrue (is_inside tops p)) places × AllByRecursion (λ (p : Place). IsTrue (fits_size tops size p)) places

all_present : (tops : List Top) (bp : Bp) (size : ℕ) (places : List Place) → AreTops tops → HaveUnits tops → sectors_stored bp ≡ size / sector_size
    → AllByRecursion (λ (p : Place). IsTrue (is_inside (sizes_of tops) p)) places → AllByRecursion (λ (p : Place). IsTrue (fits_size (sizes_of tops) size p)) places → list_all (is_present bp) places ≡ true
all_present tops bp size [] are units stored inside fit = refl
all_present tops bp size (p ∷ places) are units stored inside fit =
    let t = there tops p.top size p are.each units fit.0 inside.0 in
    and_from (is_present bp p) (list_all (is_present bp) places)
    (and_from (is_rounding_of p.sectors (sectors_stored bp) && nat_lt p.top TOP_END) (nat_lt p.sector SECTOR_END)
    (and_from (is_rounding_of p.sectors (sectors_stored bp)) (nat_lt p.top TOP_END)
    (ap (is_rounding_of p.sectors) stored ∙ t.rounded.is) (lt-ltb p.top TOP_END (omega (arith, t.top, are.few))))
    (lt-ltb p.sector SECTOR_END (omega (arith, t.sector))))
    (all_present tops bp size places are units stored inside.1 fit.1)

all_absent : (n : ℕ) → list_all is_absent (replicate n no_place) ≡ true
all_absent zero = refl
all_absent (suc n) = all_absent n

stored_is : (x : PartWriting) (places : List Place) (gang : Bool) (size : ℕ) → cond gang 512 x.size ≡ size → sectors_stored (pointer_over x gang places) ≡ size / sector_size
stored_is x places true size e = ap (λ n. n / sector_size) e
stored_is x places false size e = ap (λ n. n / sector_size) e

-- the pointer to such places is valid
pub pointer_valid : (tops : List Top) (x : PartWriting) (gang : Bool) (entry : Choice) (size : ℕ) → AreTops tops → HaveUnits tops → IsAnswerFor (sizes_of tops) entry → entry.asked.size ≡ size → cond gang 512 x.size ≡ size
    → 0 < x.size → x.size % 512 ≡ 0 → x.size ≤ 1048576 → 1 ≤ x.write.birth → 1 ≤ length entry.places → length entry.places ≤ 3 → IsTrue (valid (pointer_over x gang entry.places))
pointer_valid tops x gang entry size are units answer sized is some whole most born one three =
    let places = entry.places in
    let bp : Bp = pointer_over x gang places in
    let at : places_of bp ≡ places = take-append_seam places (replicate (3 - length places) no_place) in
    let fit : AllByRecursion (λ (p : Place). IsTrue (fits_size (sizes_of tops) size p)) places = subst (λ n. AllByRecursion (λ (p : Place). IsTrue (fits_size (sizes_of tops) n p)) places) sized answer.fit in
    let present : list_all (is_present bp) (places_of bp) ≡ true =
    ap (list_all (is_present bp)) at ∙ all_present tops bp size places are units (stored_is x places gang size is) answer.inside fit in
    let absent : list_all is_absent (drop bp.count bp.places) ≡ true =
    ap (list_all is_absent) (drop-append_seam places (replicate (3 - length places) no_place)) ∙ all_absent (3 - length places) in
    let block : is_block_size x.size ≡ true =
    and_from ((x.size % sector_size == 0) && nat_le sector_size x.size) (nat_le x.size 1048576)
    (and_from (x.size % sector_size == 0) (nat_le sector_size x.size) (eq-eqb (x.size % 512) 0 whole) (le-leb 512 x.size (omega arith)))
    (le-leb x.size 1048576 most) in
    and_from _ _ (and_from _ _ (and_from _ _ (and_from _ _ (and_from _ _ (le-leb 1 (length places) one) (le-leb (length places) 3 three)) present) absent) block) (le-leb 1 x.write.birth born)

-- ---- as they are written

mirrored : (tops : List Top) (size : ℕ) (places : List Place) → AreTops tops → HaveUnits tops → AllByRecursion (λ (p : Place). IsTrue (is_inside (sizes_of tops) p)) places
    → AllByRecursion (λ (p : Place). IsTrue (fits_size (sizes_of tops) size p)) places → AreMirrored tops places
mirrored tops size [] are units inside fit = tt
mirrored tops size (p ∷ places) are units inside fit =
    let t = there tops p.top size p are.each units fit.0 inside.0 in
    (record { least = t.some; most = t.few; fits = omega (arith, t.sector) }, mirrored tops size places are units inside.1 fit.1)

short : (tops : List Top) (size : ℕ) (places : List Place) → AreTops tops → HaveUnits tops → size ≤ 1048576 → AllByRecursion (λ (p : Place). IsTrue (is_inside (sizes_of tops) p)) places
    → AllByRecursion (λ (p : Place). IsTrue (fits_size (sizes_of tops) size p)) places → AreShort places
short tops size [] are units small inside fit = tt
short tops size (p ∷ places) are units small inside fit =
    let t = there tops p.top size p are.each units fit.0 inside.0 in
    (omega (arith, t.rounded.few), short tops size places are units small inside.1 fit.1)

pub io_places : (tops : List Top) (entry : Choice) → AreTops tops → HaveUnits tops → IsAnswerFor (sizes_of tops) entry → entry.asked.size ≤ 1048576 → length entry.places ≤ 3 → AreIoPlaces tops entry.places
io_places tops entry are units answer small three = record {
  few = three;
  mirrored = mirrored tops entry.asked.size entry.places are units answer.inside answer.fit;
  short = short tops entry.asked.size entry.places are units small answer.inside answer.fit;
}

-- ---- the answer to an ask

chosen_if : (P : List Place → Type 0) (entry : Choice) (b : Bool) → nat_lt (length entry.places) entry.asked.copies ≡ b → (entry.asked.copies ≤ length entry.places → P entry.places) → IfSome (places_unless b entry) P
chosen_if P entry true e h = tt
chosen_if P entry false e h = h (ltb-false (length entry.places) entry.asked.copies e)

-- what holds of all the places of an entry that has all its copies
pub if_chosen : (P : List Place → Type 0) (entry : Choice) (places : Option (List Place)) → places ≡ places_chosen entry.asked.copies (Some entry) → (entry.asked.copies ≤ length entry.places → P entry.places) → IfSome places P
if_chosen P entry places e h = subst (λ o. IfSome o P) (sym e) (chosen_if P entry (nat_lt (length entry.places) entry.asked.copies) refl h)
