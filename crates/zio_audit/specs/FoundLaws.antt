-- What answers meet that are given one after another: answers behind them meet it too.
use Rattle.std.proofs.Common.{List, ◌++◌, ap, ◌∙◌}
use Rattle.std.proofs.lemmas.List.Concat.{flat_map-append}
use Rattle.std.proofs.lemmas.List.Elements.{Contains-append_left, Contains-append_right}
use Rattle.zio_types.specs.declared.place.Place.{Place}
use Rattle.zio_types.specs.declared.place.TopSize.{TopSize}
use Rattle.zio_types.specs.Choices.{Choice, taken_by}
use Rattle.zio_types.specs.Places.{SamePlaces, are_open}
use Rattle.zio_cksum.proofs.AllLemmas.{all_append}
use Rattle.zio_blocks.specs.Choosers.{IsFoundEntry, taken_by_all}
use Rattle.zio_plain.specs.GroundPlaces.{open_then}
use Rattle.zio_audit.specs.Replays.{AreFound}

pub found_then : (tops : List TopSize) (before now : List Place) (entries more : List Choice) → AreFound tops before entries → SamePlaces now (taken_by_all entries ++ before) → AreFound tops now more
    → AreFound tops before (entries ++ more)
found_then tops before now entries more h same k = record {
  each = all_append (IsFoundEntry tops) entries more h.each k.each;
  free = ap (are_open before) (flat_map-append taken_by entries more)
      ∙ open_then before now (taken_by_all entries) (taken_by_all more) h.free k.free
      (λ p there. (same p).1 (Contains-append_right (taken_by_all entries) before p there))
      (λ p there. (same p).1 (Contains-append_left (taken_by_all entries) before p there));
}
