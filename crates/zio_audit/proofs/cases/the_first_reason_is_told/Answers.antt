use Rattle.zio_audit.proofs.WorkedRuns.{blank_begins_no_entry, completes_twice, entry_before_rounds, later_round_completes, later_round_has_an_entry, leaf_without_image, marks_are_text, no_script_case, number_is_spoiled, order_left_out, other_bytes_are_no, other_place_is_no, parent_before_child, place_outside, refused_with_room, round_too_many, tails_are_compared, text_comes_before_images}
use Rattle.zio_audit.proofs.cases.the_first_reason_is_told.Goals as goal

pub returns : goal.returns
returns c = record {
  no_script = no_script_case;
  leaf_without_image = leaf_without_image;
  number_is_spoiled = number_is_spoiled;
  entry_before_rounds = entry_before_rounds;
  place_outside = place_outside;
  refused_with_room = refused_with_room;
  later_round_has_an_entry = later_round_has_an_entry;
  order_left_out = order_left_out;
  parent_before_child = parent_before_child;
  completes_twice = completes_twice;
  later_round_completes = later_round_completes;
  text_comes_before_images = text_comes_before_images;
  marks_are_text = marks_are_text;
  blank_begins_no_entry = blank_begins_no_entry;
  round_too_many = round_too_many;
  other_bytes = other_bytes_are_no;
  other_place = other_place_is_no;
  tails = tails_are_compared;
}
