-- What answers by a report meet: others behind them meet it too.
use Rattle.std.proofs.Common.{◌≡◌, List, [], ◌∷◌, ◌++◌, Bool, true, false, ◌&&◌, cond, Option, Some, None, refl, sym, ap, ◌∙◌}
use Rattle.std.specs.List.{list_all}
use Rattle.zio_types.specs.declared.place.Place.{Place}
use Rattle.zio_types.specs.declared.place.TopSize.{TopSize}
use Rattle.zio_types.specs.Choices.{Ask, Choice, taken_by}
use Rattle.zio_types.specs.Places.{SamePlaces, are_apart, are_open, is_free}
use Rattle.zio_cksum.proofs.PlaceSets.{SamePlaces-back, SamePlaces-behind, SamePlaces-then, free_same}
use Rattle.zio_blocks.specs.Choosers.{taken_by_all}
use Rattle.zio_blocks.specs.EntryLaws.{SamePlaces-swap}
use Rattle.zio_spelled.specs.declared.rounds.RoundJournal.{RoundJournal}
use Rattle.zio_audit.specs.FoundLaws.{found_then}
use Rattle.zio_audit.specs.Replays.{AreReplayed, AreReplies, entries_in, is_found, recorded_for, reply_by, unplaced}

either_true : (a b : Bool) → (a ≡ true → b ≡ true) → (b ≡ true → a ≡ true) → a ≡ b
either_true true b h k = sym (h refl)
either_true false true h k = k refl
either_true false false h k = refl

-- what is open doesn't depend on the order of the places in use
pub open_same : (xs ys places : List Place) → SamePlaces xs ys → are_open xs places ≡ are_open ys places
open_same xs ys places same =
    λ i. list_all (λ p. either_true (is_free xs p) (is_free ys p) (free_same xs ys p same) (free_same ys xs p (SamePlaces-back xs ys same)) i) places && are_apart places

reply_same : (tops : List TopSize) (xs ys : List Place) (ask : Ask) (o : Option Choice) → SamePlaces xs ys → reply_by tops xs ask o ≡ reply_by tops ys ask o
reply_same tops xs ys ask None same = refl
reply_same tops xs ys ask (Some c) same = ap (λ (t : Bool). cond (is_found tops c && t) c (unplaced ask)) (open_same xs ys (taken_by c) same)

replies_same : (journals : List RoundJournal) (tops : List TopSize) (xs ys : List Place) (cs : List Choice) → SamePlaces xs ys → AreReplies journals tops xs cs → AreReplies journals tops ys cs
replies_same journals tops xs ys [] same h = tt
replies_same journals tops xs ys (c ∷ cs) same h = (
  h.0,
  h.1 ∙ reply_same tops xs ys c.asked (recorded_for (entries_in journals c.asked.key.round) c.asked) same,
  replies_same journals tops (taken_by c ++ xs) (taken_by c ++ ys) cs (SamePlaces-behind xs ys (taken_by c) same) h.2,
)

replies_then : (journals : List RoundJournal) (tops : List TopSize) (before now : List Place) (cs more : List Choice) → AreReplies journals tops before cs → SamePlaces now (taken_by_all cs ++ before)
    → AreReplies journals tops now more → AreReplies journals tops before (cs ++ more)
replies_then journals tops before now [] more h same k = replies_same journals tops now before more same k
replies_then journals tops before now (c ∷ cs) more h same k = (
  h.0,
  h.1,
  replies_then journals tops (taken_by c ++ before) now cs more h.2
      (SamePlaces-then now ((taken_by c ++ taken_by_all cs) ++ before) (taken_by_all cs ++ (taken_by c ++ before)) same
      (SamePlaces-back (taken_by_all cs ++ (taken_by c ++ before)) ((taken_by c ++ taken_by_all cs) ++ before) (SamePlaces-swap (taken_by c) (taken_by_all cs) before))) k,
)

pub replayed_then : (journals : List RoundJournal) (tops : List TopSize) (before now : List Place) (entries more : List Choice) → AreReplayed journals tops before entries
    → SamePlaces now (taken_by_all entries ++ before) → AreReplayed journals tops now more → AreReplayed journals tops before (entries ++ more)
replayed_then journals tops before now entries more h same k = record {
  found = found_then tops before now entries more h.found same k.found;
  replies = replies_then journals tops before now entries more h.replies same k.replies;
}
