-- What a valid pointer says of its places.
use Rattle.std.proofs.Common.{◌<◌, ◌^◌, Bool, true, false, ◌&&◌, IsTrue}
use Rattle.std.specs.List.{AllByRecursion}
use Rattle.std.proofs.lemmas.Bool.{ltb-true}
use Rattle.zio_types.specs.declared.place.Place.{Place}
use Rattle.zio_blkptr.specs.declared.pointer.Bp.{Bp}
use Rattle.zio_blkptr.specs.Pointers.{is_present, places_of, valid}
use Rattle.zio_cksum.proofs.PlaceSets.{all_pass}
use Rattle.zio_cksum.proofs.AllLemmas.{all_weaker}

pub both : (a b : Bool) → IsTrue (a && b) → IsTrue a × IsTrue b
both true true h = (h, h)
both true false h = let no : ⊥ = cc in absurd no
both false b h = let no : ⊥ = cc in absurd no

pub present : (bp : Bp) → IsTrue (valid bp) → AllByRecursion (λ (p : Place). IsTrue (is_present bp p)) (places_of bp)
present bp h = all_pass (is_present bp) (places_of bp) (both _ _ (both _ _ (both _ _ (both _ _ h).0).0).0).1

pub low_sectors : (bp : Bp) → IsTrue (valid bp) → AllByRecursion (λ (p : Place). p.sector < 2 ^ 48) (places_of bp)
low_sectors bp h = all_weaker (λ (p : Place). IsTrue (is_present bp p)) (λ (p : Place). p.sector < 2 ^ 48) (places_of bp)
    (λ p q. ltb-true _ _ (both _ _ q).1) (present bp h)
