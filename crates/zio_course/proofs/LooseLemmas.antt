-- Images that changed only at places that weren't in use, or are named: a byte that isn't loose stayed.
use Rattle.std.proofs.Common.{◌≡◌, ℕ, ◌+◌, ◌*◌, ◌/◌, ◌<◌, ◌≤◌, List, map, length, true, false, ◌⊎◌, inl, inr, refl, sym, ap, ◌∙◌, subst, arith}
use Rattle.std.specs.Prelude.{Contains, IsTrue, Option, Some, None, nat_le, nat_lt, not, ◌==◌, ◌&&◌, option_map, slice_get}
use Rattle.std.specs.List.{AllByRecursion, list_all, list_any}
use Rattle.std.proofs.lemmas.Bool.{and_from, and_parts, eq-eqb, eqb-true, false≢true, le-leb, leb-true, lt-ltb, ltb-true}
use Rattle.std.proofs.lemmas.Option.{slice_get-map}
use Rattle.zio_types.specs.declared.place.Place.{Place}
use Rattle.zio_types.specs.declared.place.Top.{Top}
use Rattle.zio_types.specs.declared.place.TopSize.{TopSize}
use Rattle.zio_types.specs.Places.{SamePlaces, end_of, is_below, is_free, is_inside, meets, sector_size}
use Rattle.zio_cksum.specs.Blocks.{leaves_of, leaves_of_top, spot_in}
use Rattle.zio_cksum.specs.Frames.{IsCovered, spots_of}
use Rattle.zio_cksum.specs.Images.{Images, Setting, Spot}
use Rattle.zio_cksum.proofs.AllLemmas.{all_contains}
use Rattle.zio_gang.specs.Trees.{size_of, sizes_of}
use Rattle.zio_places.specs.Tables.{covers}
use Rattle.zio_places.proofs.PlaceLemmas.{covers-from, covers-parts, meets-from}
use Rattle.zio_cksum.proofs.PlaceSets.{all_pass}
use Rattle.zio_course.specs.Runners.{DiffersLoose, IsLoose, has_sector}
use Rattle.zio_course.proofs.SortLemmas.{IsOneOf, one_all}
use Rattle.zio_course.specs.Changes.{ChangedAt}
use Rattle.zio_course.proofs.ItemLemmas.{any_in, found_one, image_of, none_passes, one_found, part_of}

-- the top on which a place lies
pub record IsOn (o : Option Top) (p : Place) : Type 0 where
  pub here : Top
  pub is : o ≡ Some here
  pub ends : end_of p ≤ here.sectors

on_top : (o : Option Top) (p : Place) → is_below p (option_map size_of o) ≡ true → IsOn o p
on_top None p h = absurd (false≢true h)
on_top (Some top) p h = record {
  here = top;
  is = refl;
  ends = leb-true (end_of p) top.sectors (and_parts (nat_lt 0 p.sectors) (nat_le (end_of p) top.sectors) h).1;
}

pub on_its_top : (tops : List Top) (p : Place) → is_inside (sizes_of tops) p ≡ true → IsOn (slice_get tops p.top) p
on_its_top tops p h = on_top (slice_get tops p.top) p (ap (is_below p) (sym (slice_get-map size_of tops p.top)) ∙ h)

-- the sector of a byte of the place
at_sector : (p : Place) (at : ℕ) → p.sector * sector_size ≤ at → at < p.sector * sector_size + p.sectors * sector_size → (p.sector ≤ at / sector_size) × (at / sector_size < end_of p)
at_sector p at from below = (omega (arith, from, below), omega (arith, from, below))

has_sector_from : (p : Place) (sector : ℕ) → p.sector ≤ sector → sector < end_of p → has_sector p.top sector p ≡ true
has_sector_from p sector from below =
    and_from ((p.top == p.top) && nat_le p.sector sector) (nat_lt sector (end_of p))
    (and_from (p.top == p.top) (nat_le p.sector sector) (eq-eqb p.top p.top refl) (le-leb p.sector sector from)) (lt-ltb sector (end_of p) below)

-- a place that has the sector covers it
covers_there : (p : Place) (top sector : ℕ) → has_sector top sector p ≡ true → covers p top sector ≡ true
covers_there p top sector h =
    let parts = and_parts ((p.top == top) && nat_le p.sector sector) (nat_lt sector (end_of p)) h in
    let front = and_parts (p.top == top) (nat_le p.sector sector) parts.0 in
    covers-from p top sector (eqb-true p.top top front.0) (leb-true p.sector sector front.1) (ltb-true sector (end_of p) parts.1)

-- a place with one of the sectors of another place meets it
met_there : (p q : Place) (sector : ℕ) → has_sector p.top sector p ≡ true → has_sector p.top sector q ≡ true → meets p q ≡ true
met_there p q sector here there =
    let on : q.top ≡ p.top = (covers-parts q p.top sector (covers_there q p.top sector there)).top in
    meets-from p q sector (subst (λ t. covers p t sector ≡ true) (sym on) (covers_there p p.top sector here))
    (subst (λ t. covers q t sector ≡ true) (sym on) (covers_there q p.top sector there))

free_there : (used live : List Place) (p : Place) (sector : ℕ) → SamePlaces used live → is_free used p ≡ true → has_sector p.top sector p ≡ true → list_any (has_sector p.top sector) live ≡ false
free_there used live p sector same free here =
    none_passes (has_sector p.top sector) live
    (λ q at there.
    let met : meets p q ≡ true = met_there p q sector here there in
    let apart : not (meets p q) ≡ true = all_contains (λ r. IsTrue (not (meets p r))) used q (all_pass (λ r. not (meets p r)) used free) ((same q).1 (one_found q live at)) in
    false≢true (ap not (sym met) ∙ apart))

covered_loose : (s : Setting) (used live named places : List Place) (leaf at : ℕ) → SamePlaces used live → IsTrue (list_all (is_inside (sizes_of s.tops)) places)
    → AllByRecursion (λ (p : Place). Contains named p ⊎ IsTrue (is_free used p)) places → IsCovered (spots_of s places) leaf at → IsLoose s.tops live named leaf at
covered_loose s used live named places leaf at same inside may c =
    let part = part_of (λ p. map (spot_in p) (leaves_of s p)) places c.spot (found_one c.spot (spots_of s places) c.listed) in
    let p : Place = part.of in
    let image = image_of (spot_in p) (leaves_of s p) c.spot part.there in
    let on = on_its_top s.tops p (one_all (λ q. IsTrue (is_inside (sizes_of s.tops) q)) p places (all_pass (is_inside (sizes_of s.tops)) places inside) part.at) in
    let from : p.sector * sector_size ≤ at = subst (λ n. n ≤ at) (ap (λ (spot : Spot). spot.at) (sym image.is)) c.from in
    let below : at < p.sector * sector_size + p.sectors * sector_size = subst (λ (spot : Spot). at < spot.at + spot.span) (sym image.is) c.below in
    let sector = at_sector p at from below in
    let has : has_sector p.top (at / sector_size) p ≡ true = has_sector_from p (at / sector_size) sector.0 sector.1 in
    let leaf_is : image.of ≡ leaf = ap (λ (spot : Spot). spot.leaf) image.is ∙ c.same_leaf in record {
      top = p.top;
      here = on.here;
      top_is = on.is;
      leaf_is = one_found leaf on.here.leaves (subst (λ l. IsOneOf l on.here.leaves) leaf_is (subst (λ ls. IsOneOf image.of ls) (ap leaves_of_top on.is) image.at));
      below = omega (arith, sector.1, on.ends);
      loose = which p has (one_all (λ (q : Place). Contains named q ⊎ IsTrue (is_free used q)) p places may part.at);
    }
  where
    which : (p : Place) → has_sector p.top (at / sector_size) p ≡ true → Contains named p ⊎ IsTrue (is_free used p)
        → (list_any (has_sector p.top (at / sector_size)) live ≡ false) ⊎ (list_any (has_sector p.top (at / sector_size)) named ≡ true)
    which p has (inl there) = inr (any_in (has_sector p.top (at / sector_size)) named p (found_one p named there) has)
    which p has (inr free) = inl (free_there used live p (at / sector_size) same free has)

pub changed_loose : (s : Setting) (sizes : List TopSize) (used live named : List Place) (before after : Images) → sizes ≡ sizes_of s.tops → SamePlaces used live → length after ≡ length before
    → ChangedAt s sizes used named before after → DiffersLoose s.tops live named before after
changed_loose s sizes used live named before after sizes_are same count h = record {
  count = count;
  sizes = h.same.sizes;
  bytes = λ leaf at tight. h.same.bytes leaf at
      (λ c. tight (covered_loose s used live named h.places leaf at same (subst (λ ts. IsTrue (list_all (is_inside ts) h.places)) sizes_are h.inside) h.may c));
}

pub unchanged : (tops : List Top) (live named : List Place) (images : Images) → DiffersLoose tops live named images images
unchanged tops live named images = record { count = refl; sizes = λ leaf. refl; bytes = λ leaf at tight. refl }
