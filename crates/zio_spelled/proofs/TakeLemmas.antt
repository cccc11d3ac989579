-- What the reader of an entry's line needs: units, and places and steps that are put behind others.
use Rattle.std.proofs.Common.{◌≡◌, ◌<◌, ◌≤◌, ◌∷◌, [], ℕ, zero, suc, List, true, sym, ap, ◌∙◌, arith, Some}
use Rattle.std.specs.Prelude.{slice_get}
use Rattle.std.specs.List.{list_all}
use Rattle.std.proofs.lemmas.Bool.{and_parts}
use Rattle.std.proofs.lemmas.Bool.Decides.{nat_tests}
use Rattle.zio_types.specs.declared.place.TopSize.{TopSize}
use Rattle.zio_types.specs.Places.{is_lawful_top, is_unit}

range_of : (n : ℕ) → is_unit n ≡ true → (0 < n) × (n ≤ 8)
range_of n is = (grind (arith, nat_tests), grind (arith, nat_tests))

pub unit_above : (top : TopSize) → is_lawful_top top ≡ true → 0 < top.unit
unit_above top lawful = (range_of top.unit (and_parts _ _ lawful).0).0

pub unit_below : (top : TopSize) → is_lawful_top top ≡ true → top.unit ≤ 8
unit_below top lawful = (range_of top.unit (and_parts _ _ lawful).0).1

-- a top of the list is lawful where all are
pub lawful_at : (tops : List TopSize) (i : ℕ) (top : TopSize) → list_all is_lawful_top tops ≡ true → slice_get tops i ≡ Some top → is_lawful_top top ≡ true
lawful_at [] i top all there = cc
lawful_at (t ∷ ts) zero top all there =
    let same : t ≡ top = cc in
    ap is_lawful_top (sym same) ∙ (and_parts (is_lawful_top t) (list_all is_lawful_top ts) all).0
lawful_at (t ∷ ts) (suc i) top all there = lawful_at ts i top (and_parts (is_lawful_top t) (list_all is_lawful_top ts) all).1 there
