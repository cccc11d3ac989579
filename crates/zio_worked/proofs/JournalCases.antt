use Rattle.std.proofs.Common.{◌&&◌, [], ◌∷◌, true≢false, refl, sym, take, drop, arith, lit<, ◌==◌}
use Rattle.zio_types.specs.declared.journal.Role.TheVariants.{Body, Head}
use Rattle.zio_types.specs.declared.place.TopSize.{TopSize}
use Rattle.zio_types.specs.Choices.{Ask, same_key}
use Rattle.zio_worked.proofs.Absent.{not_contained}
use Rattle.zio_worked.proofs.Evaluation.{evaluation}
use Rattle.zio_worked.proofs.LawfulChoices.{are_lawful-sound}
use Rattle.zio_worked.specs.LawfulJournals.{pair_script, for_x, for_y, second_attempt, half_of_y, PairIsLawful, OtherOrderIsLawful, KeyNotAskedFor, KeyTwice, AskWithoutChoice, OtherSize, RoundThatWasNotRun, PlaceOfAnother, PlaceOutside, PlaceTooShort, TooManyPlaces, RefusedWithRoom, PlaceOfBoundBlock, PlaceFreedInTheRound, PlaceOfEarlierAttempt, GivenBackIsLawful, CopyOnUsedTop, SecondCopyIsLawful, RefusedIsLawful, GangIsLawful, RefusedBeforeTheLast, WholeUnitIsLawful, PlaceBetweenUnits, PlaceOfPartOfAUnit, PlaceOfTwoUnits, CopiesThatMeet, RefusedBehindACopy}
use Rattle.zio_worked.specs.Scripts.{choice, place, zeros, asks_in}
use Rattle.zio_worked.specs.Suspension.{four_attempts, gang_choices}

-- a top of eight sectors, each placed alone
abbrev eight_sectors : TopSize
eight_sectors = record { sectors = 8; unit = 1 }

pub pair_is_lawful : PairIsLawful
unfolding evaluation
pair_is_lawful = record {
  of_rounds = (refl, (refl, tt));
  each = (
    record {
      distinct = ((refl, tt), (tt, tt));
      asked = ((0, lit< tt, refl), ((1, lit< tt, refl), tt));
      answered = ((0, lit< tt, refl), ((1, lit< tt, refl), tt));
      lawful = are_lawful-sound (eight_sectors ∷ []) [] (for_x ∷ for_y ∷ []) refl;
    },
    tt,
  );
}

pub other_order_is_lawful : OtherOrderIsLawful
unfolding evaluation
other_order_is_lawful = record {
  of_rounds = (refl, (refl, tt));
  each = (
    record {
      distinct = ((refl, tt), (tt, tt));
      asked = ((1, lit< tt, refl), ((0, lit< tt, refl), tt));
      answered = ((1, lit< tt, refl), ((0, lit< tt, refl), tt));
      lawful = are_lawful-sound (eight_sectors ∷ []) [] (for_y ∷ for_x ∷ []) refl;
    },
    tt,
  );
}

pub key_not_asked_for : KeyNotAskedFor
unfolding evaluation
key_not_asked_for h =
    not_contained (λ (ask : Ask). same_key second_attempt.asked.key ask.key)
    (asks_in pair_script (zeros 4096 ∷ []) (for_x ∷ for_y ∷ second_attempt ∷ []))
    second_attempt.asked refl refl h.each.0.asked.1.1.0

pub key_twice : KeyTwice
unfolding evaluation
key_twice h = true≢false h.each.0.distinct.0.1.0

pub ask_without_choice : AskWithoutChoice
unfolding evaluation
ask_without_choice h =
    not_contained (λ (ask : Ask). same_key for_y.asked.key ask.key) (for_x.asked ∷ []) for_y.asked refl refl h.each.0.answered.1.0

pub other_size : OtherSize
unfolding evaluation
other_size h =
    not_contained (λ (ask : Ask). same_key half_of_y.asked.key ask.key && ask.size == 512)
    (asks_in pair_script (zeros 4096 ∷ []) (for_x ∷ half_of_y ∷ [])) half_of_y.asked refl refl h.each.0.asked.1.0

pub round_that_was_not_run : RoundThatWasNotRun
unfolding evaluation
round_that_was_not_run h = true≢false (sym h.of_rounds.1.1.0)

pub place_of_another : PlaceOfAnother
unfolding evaluation
place_of_another h = true≢false (sym h.each.0.lawful.1.0.copies.0.free)

pub place_outside : PlaceOutside
unfolding evaluation
place_outside h = true≢false (sym h.each.0.lawful.1.0.copies.0.inside)

pub place_too_short : PlaceTooShort
unfolding evaluation
place_too_short h = true≢false (sym h.each.0.lawful.1.0.copies.0.fits)

pub too_many_places : TooManyPlaces
unfolding evaluation
too_many_places h = omega (arith, h.each.0.lawful.0.found)

pub refused_with_room : RefusedWithRoom
unfolding evaluation
refused_with_room h = h.each.0.lawful.1.0.refused (lit< tt) 0 (record { place = place 0 1 2; there = refl; fits = refl; inside = refl; free = refl })

pub place_of_bound_block : PlaceOfBoundBlock
unfolding evaluation
place_of_bound_block h = true≢false (sym h.each.1.0.lawful.0.copies.0.free)

pub place_freed_in_the_round : PlaceFreedInTheRound
unfolding evaluation
place_freed_in_the_round h = true≢false (sym h.each.1.0.lawful.0.copies.0.free)

pub place_of_earlier_attempt : PlaceOfEarlierAttempt
unfolding evaluation
place_of_earlier_attempt h = true≢false (sym h.each.0.lawful.1.0.copies.0.free)

pub given_back_is_lawful : GivenBackIsLawful
unfolding evaluation
given_back_is_lawful = record {
  of_rounds = (refl, (refl, (refl, (refl, (refl, tt)))));
  each = (
    record {
      distinct = ((refl, (refl, (refl, tt))), ((refl, (refl, tt)), ((refl, tt), (tt, tt))));
      asked = ((0, lit< tt, refl), ((1, lit< tt, refl), ((2, lit< tt, refl), ((3, lit< tt, refl), tt))));
      answered = ((0, lit< tt, refl), ((1, lit< tt, refl), ((2, lit< tt, refl), ((3, lit< tt, refl), tt))));
      lawful = are_lawful-sound (eight_sectors ∷ []) [] four_attempts refl;
    },
    (
      record {
        distinct = (tt, tt);
        asked = ((0, lit< tt, refl), tt);
        answered = ((0, lit< tt, refl), tt);
        lawful = are_lawful-sound (eight_sectors ∷ []) [] (choice 1 2 0 [] Body 512 1 (place 0 0 1 ∷ []) ∷ []) refl;
      },
      tt,
    ),
  );
}

pub copy_on_used_top : CopyOnUsedTop
unfolding evaluation
copy_on_used_top h = h.each.0.lawful.0.copies.1.0.spread refl 1 refl (record { place = place 1 0 1; there = refl; fits = refl; inside = refl; free = refl })

pub second_copy_is_lawful : SecondCopyIsLawful
unfolding evaluation
second_copy_is_lawful = record {
  of_rounds = (refl, (refl, tt));
  each = (
    record {
      distinct = (tt, tt);
      asked = ((0, lit< tt, refl), tt);
      answered = ((0, lit< tt, refl), tt);
      lawful = are_lawful-sound (eight_sectors ∷ eight_sectors ∷ []) [] (choice 1 1 0 [] Body 4096 1 (place 1 0 8 ∷ []) ∷ []) refl;
    },
    (
      record {
        distinct = (tt, tt);
        asked = ((0, lit< tt, refl), tt);
        answered = ((0, lit< tt, refl), tt);
        lawful = are_lawful-sound (eight_sectors ∷ eight_sectors ∷ []) (place 1 0 8 ∷ []) (choice 2 2 0 [] Body 512 2 (place 0 0 1 ∷ place 0 4 1 ∷ []) ∷ []) refl;
      },
      tt,
    ),
  );
}

pub refused_is_lawful : RefusedIsLawful
unfolding evaluation
refused_is_lawful = record {
  of_rounds = (refl, (refl, (refl, (refl, (refl, tt)))));
  each = (
    record {
      distinct = (tt, tt);
      asked = ((0, lit< tt, refl), tt);
      answered = ((0, lit< tt, refl), tt);
      lawful = are_lawful-sound (eight_sectors ∷ []) [] (choice 1 1 0 [] Body 3584 1 (place 0 0 7 ∷ []) ∷ []) refl;
    },
    (
      record {
        distinct = ((refl, (refl, tt)), ((refl, tt), (tt, tt)));
        asked = ((0, lit< tt, refl), ((1, lit< tt, refl), ((2, lit< tt, refl), tt)));
        answered = ((0, lit< tt, refl), ((1, lit< tt, refl), ((2, lit< tt, refl), tt)));
        lawful = are_lawful-sound (eight_sectors ∷ []) (place 0 0 7 ∷ []) (
            choice 3 2 0 [] Body 1024 1 []
            ∷ choice 3 2 0 [] Head 512 2 (place 0 7 1 ∷ [])
            ∷ choice 2 2 0 [] Body 512 1 (place 0 7 1 ∷ []) ∷ []) refl;
      },
      (
        record { distinct = tt; asked = tt; answered = tt; lawful = tt },
        (
          record {
            distinct = (tt, tt);
            asked = ((0, lit< tt, refl), tt);
            answered = ((0, lit< tt, refl), tt);
            lawful = are_lawful-sound (eight_sectors ∷ []) (place 0 0 7 ∷ []) (choice 5 4 0 [] Body 512 1 (place 0 7 1 ∷ []) ∷ []) refl;
          },
          tt,
        ),
      ),
    ),
  );
}

pub gang_is_lawful : GangIsLawful
unfolding evaluation
gang_is_lawful = record {
  of_rounds = (refl, (refl, (refl, (refl, (refl, (refl, (refl, (refl, tt))))))));
  each = (
    record {
      distinct = ((refl, (refl, (refl, tt))), ((refl, (refl, tt)), ((refl, tt), (tt, tt))));
      asked = ((0, lit< tt, refl), ((1, lit< tt, refl), ((2, lit< tt, refl), ((3, lit< tt, refl), tt))));
      answered = ((0, lit< tt, refl), ((1, lit< tt, refl), ((2, lit< tt, refl), ((3, lit< tt, refl), tt))));
      lawful = are_lawful-sound (eight_sectors ∷ []) [] (take 4 gang_choices) refl;
    },
    (
      record {
        distinct = ((refl, (refl, (refl, tt))), ((refl, (refl, tt)), ((refl, tt), (tt, tt))));
        asked = ((0, lit< tt, refl), ((1, lit< tt, refl), ((2, lit< tt, refl), ((3, lit< tt, refl), tt))));
        answered = ((0, lit< tt, refl), ((1, lit< tt, refl), ((2, lit< tt, refl), ((3, lit< tt, refl), tt))));
        lawful = are_lawful-sound (eight_sectors ∷ [])
            (place 0 7 1 ∷ place 0 5 1 ∷ place 0 3 1 ∷ place 0 1 1 ∷ [])
            (drop 4 gang_choices) refl;
      },
      tt,
    ),
  );
}

pub refused_before_the_last : RefusedBeforeTheLast
unfolding evaluation
refused_before_the_last h =
    h.each.1.0.lawful.1.0.refused (lit< tt) 0 (record { place = place 0 7 1; there = refl; fits = refl; inside = refl; free = refl })

pub whole_unit_is_lawful : WholeUnitIsLawful
unfolding evaluation
whole_unit_is_lawful = record {
  of_rounds = (refl, tt);
  each = (
    record {
      distinct = (tt, tt);
      asked = ((0, lit< tt, refl), tt);
      answered = ((0, lit< tt, refl), tt);
      lawful =
          are_lawful-sound (record { sectors = 16; unit = 8 } ∷ []) []
          (choice 1 1 0 [] Body 512 1 (place 0 8 8 ∷ []) ∷ []) refl;
    },
    tt,
  );
}

pub place_between_units : PlaceBetweenUnits
unfolding evaluation
place_between_units h = true≢false (sym h.each.0.lawful.0.copies.0.fits)

pub place_of_part_of_a_unit : PlaceOfPartOfAUnit
unfolding evaluation
place_of_part_of_a_unit h = true≢false (sym h.each.0.lawful.0.copies.0.fits)

pub place_of_two_units : PlaceOfTwoUnits
unfolding evaluation
place_of_two_units h = true≢false (sym h.each.0.lawful.0.copies.0.fits)

pub copies_that_meet : CopiesThatMeet
unfolding evaluation
copies_that_meet h = true≢false (sym h.each.0.lawful.0.copies.1.0.free)

pub refused_behind_a_copy : RefusedBehindACopy
unfolding evaluation
refused_behind_a_copy h =
    h.each.0.lawful.0.refused (lit< tt) 0 (record { place = place 0 4 1; there = refl; fits = refl; inside = refl; free = refl })
