use Rattle.zio_worked.proofs.JournalCases.{pair_is_lawful, other_order_is_lawful, key_not_asked_for, key_twice, ask_without_choice, other_size, round_that_was_not_run, place_of_another, place_outside, place_too_short, too_many_places, refused_with_room, place_of_bound_block, place_freed_in_the_round, place_of_earlier_attempt, given_back_is_lawful, copy_on_used_top, second_copy_is_lawful, refused_is_lawful, gang_is_lawful, refused_before_the_last, whole_unit_is_lawful, place_between_units, place_of_part_of_a_unit, place_of_two_units, copies_that_meet, refused_behind_a_copy}
use Rattle.zio_worked.proofs.journals.lawful_journals_answer_what_is_asked.Goals as goal

pub returns : goal.returns
returns c = record {
  pair_is_lawful = pair_is_lawful;
  other_order_is_lawful = other_order_is_lawful;
  key_not_asked_for = key_not_asked_for;
  key_twice = key_twice;
  ask_without_choice = ask_without_choice;
  other_size = other_size;
  round_that_was_not_run = round_that_was_not_run;
  place_of_another = place_of_another;
  place_outside = place_outside;
  place_too_short = place_too_short;
  too_many_places = too_many_places;
  refused_with_room = refused_with_room;
  place_of_bound_block = place_of_bound_block;
  place_freed_in_the_round = place_freed_in_the_round;
  place_of_earlier_attempt = place_of_earlier_attempt;
  given_back_is_lawful = given_back_is_lawful;
  copy_on_used_top = copy_on_used_top;
  second_copy_is_lawful = second_copy_is_lawful;
  refused_is_lawful = refused_is_lawful;
  gang_is_lawful = gang_is_lawful;
  refused_before_the_last = refused_before_the_last;
  whole_unit_is_lawful = whole_unit_is_lawful;
  place_between_units = place_between_units;
  place_of_part_of_a_unit = place_of_part_of_a_unit;
  place_of_two_units = place_of_two_units;
  copies_that_meet = copies_that_meet;
  refused_behind_a_copy = refused_behind_a_copy;
}
