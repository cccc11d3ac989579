-- The worked cases, evaluated.
use Rattle.std.proofs.Common.{◌≡◌, ◌<◌, ◌++◌, ◌==◌, ℕ, List, [], ◌∷◌, Bool, true, false, None, Some, refl, sym, ap, get_or, subst, lit<, lit≤, true≢false, arith}
use Rattle.std.specs.Prelude.{codes}
use Rattle.zio_types.specs.declared.journal.Role.TheVariants.{Body}
use Rattle.zio_types.specs.declared.request.Prio.TheVariants.{SyncRead, SyncWrite}
use Rattle.zio_types.specs.declared.place.TopSize.{TopSize}
use Rattle.zio_types.specs.Choices.{Choice}
use Rattle.zio_blkptr.specs.declared.pointer.SumKind.TheVariants.{Off}
use Rattle.zio_script.specs.declared.script.Body.TheVariants.{Fill}
use Rattle.zio_script.specs.declared.script.Failmode.TheVariants.{Wait}
use Rattle.zio_script.specs.declared.script.Item.{Item}
use Rattle.zio_script.specs.declared.script.Item.TheVariants.{Request as RequestLine, Go}
use Rattle.zio_script.specs.declared.script.Script.{Script}
use Rattle.zio_script.specs.declared.script.Work.TheVariants.{Null, Read, Write}
use Rattle.zio_script.specs.Grammar.{IsScriptOf}
use Rattle.zio_cksum.specs.Images.{Images, image_of}
use Rattle.zio_report.specs.declared.report.Show.TheVariants.{Report}
use Rattle.zio_report.specs.Meanings.{course_of, records_of, run_size_of}
use Rattle.zio_report.specs.Reports.{run_text}
use Rattle.zio_gang.specs.Runs.{ending}
use Rattle.zio_spelled.specs.declared.rounds.RoundJournal.{RoundJournal}
use Rattle.zio_spelled.proofs.OrderLemmas.{line_is_order}
use Rattle.zio_spelled.proofs.ShapeLemmas.{line_is_no_take, line_is_take}
use Rattle.zio_audit.specs.Verdicts.{HasCompletions, HaveImages, HasLawfulEntries, IsReadAs, IsScriptIn, IsTextOf, journal_spelled}
use Rattle.zio_audit.specs.Worked.{BlankBeginsNoEntry, ChildComesFirst, CompletesTwice, EntryBeforeRounds, LaterRoundCompletes, LaterRoundHasAnEntry, LeafWithoutImage, MarksAreText, NoScript, NumberIsSpoiled, OrderLeftOut, OtherBytesAreNo, OtherPlaceIsNo, ParentBeforeChild, PlaceOutside, RefusedWithRoom, ReportWithBytesIsYes, ReportWithoutBytesIsYes, RoundTooMany, TailsAreCompared, TextComesBeforeImages, TrueReportIsYes, bytes_shown, empty_leaf, leaf_with, lines, of_family, of_read, of_write, sector_of, write_text, written_leaf}
use Rattle.zio_audit.proofs.Evaluation.{evaluation}
use Rattle.zio_audit.proofs.Members.{none_contained}
use Rattle.zio_audit.proofs.VerdictLemmas.{fails, no_completions, no_images, no_lines, no_places, no_script, no_text, order_shaped, other_shaped, take_shaped, same_script, yes}

-- ---- what the cases are read as

abbrev script_of : List Item → Script
script_of items = record { failmode = Wait; tops = record { leaves = 0 ∷ []; unit = 1 } ∷ []; faults = []; items = items }

abbrev write_item : Item
write_item = RequestLine (record { number = 1; work = Write (codes "x") Off 1 SyncWrite (Fill 65 512); under = None; canfail = false })

abbrev two_sectors : List TopSize
two_sectors = record { sectors = 2; unit = 1 } ∷ []

-- the entry of the write in this round, at this sector
abbrev entry_in : ℕ → ℕ → Choice
entry_in round sector = record {
  asked = record { key = record { request = 1; round = round; attempt = 0; path = []; role = Body }; size = 512; copies = 1 };
  places = record { top = 0; sector = sector; sectors = 1 } ∷ [];
}

abbrev refused_entry : Choice
refused_entry = record {
  asked = record { key = record { request = 1; round = 1; attempt = 0; path = []; role = Body }; size = 512; copies = 1 };
  places = [];
}

-- ---- true report is yes

true_report_is_yes_script : IsScriptIn (of_write ("1 write x ok 512" ∷ "take 1 0 - body 512 1 0:1" ∷ "order 1" ∷ []) written_leaf) (script_of (write_item ∷ Go ∷ []))
unfolding evaluation
true_report_is_yes_script = record { accepted = refl; images = ((lit< tt, tt), tt) }

abbrev true_report_is_yes_journals : List RoundJournal
true_report_is_yes_journals = record { entries = (entry_in 1 1) ∷ []; order = 1 ∷ [] } ∷ []

true_report_is_yes_read : IsReadAs (of_write ("1 write x ok 512" ∷ "take 1 0 - body 512 1 0:1" ∷ "order 1" ∷ []) written_leaf) (script_of (write_item ∷ Go ∷ [])) true_report_is_yes_journals
unfolding evaluation
true_report_is_yes_read = record { script_is = true_report_is_yes_script; spelled = record { before = refl; rounds = (record { entries = (line_is_take two_sectors 1 (codes "take 1 0 - body 512 1 0:1") (entry_in 1 1) refl, tt); orders = (1 ∷ []) ∷ []; order_lines = (line_is_order (codes "order 1") (1 ∷ []) refl, tt); order_is = refl }, tt) } }

true_report_is_yes_places : HasLawfulEntries (script_of (write_item ∷ Go ∷ [])) ((of_write ("1 write x ok 512" ∷ "take 1 0 - body 512 1 0:1" ∷ "order 1" ∷ []) written_leaf)).before (journal_spelled (script_of (write_item ∷ Go ∷ [])) ((of_write ("1 write x ok 512" ∷ "take 1 0 - body 512 1 0:1" ∷ "order 1" ∷ []) written_leaf)).before true_report_is_yes_journals)
unfolding evaluation
true_report_is_yes_places = record {
  of_rounds = (refl, tt);
  each = (
    record {
      distinct = (tt, tt);
      asked = ((0, lit< tt, refl), tt);
      answered = ((0, lit< tt, refl), tt);
      lawful = (
        record {
          found = lit≤ tt;
          copies = (record { fits = refl; inside = refl; free = refl; spread = λ e. absurd (true≢false (sym e)) }, tt);
          refused = λ few top run. absurd (omega arith);
        },
        tt,
      );
    },
    tt,
  );
}

true_report_is_yes_completions : HasCompletions (script_of (write_item ∷ Go ∷ [])) ((of_write ("1 write x ok 512" ∷ "take 1 0 - body 512 1 0:1" ∷ "order 1" ∷ []) written_leaf)).before (journal_spelled (script_of (write_item ∷ Go ∷ [])) ((of_write ("1 write x ok 512" ∷ "take 1 0 - body 512 1 0:1" ∷ "order 1" ∷ []) written_leaf)).before true_report_is_yes_journals)
unfolding evaluation
true_report_is_yes_completions = record { of_rounds = (refl, tt); each = (record { finished = ((0, lit< tt, refl), tt); all = ((0, lit< tt, refl), tt) }, tt); once = (tt, tt); after_children = (tt, tt) }

true_report_is_yes_text : IsTextOf (script_of (write_item ∷ Go ∷ [])) ((of_write ("1 write x ok 512" ∷ "take 1 0 - body 512 1 0:1" ∷ "order 1" ∷ []) written_leaf)).before (journal_spelled (script_of (write_item ∷ Go ∷ [])) ((of_write ("1 write x ok 512" ∷ "take 1 0 - body 512 1 0:1" ∷ "order 1" ∷ []) written_leaf)).before true_report_is_yes_journals) ((of_write ("1 write x ok 512" ∷ "take 1 0 - body 512 1 0:1" ∷ "order 1" ∷ []) written_leaf)).report
unfolding evaluation
true_report_is_yes_text = record { bytes = false; text = refl }

true_report_is_yes_images : ((of_write ("1 write x ok 512" ∷ "take 1 0 - body 512 1 0:1" ∷ "order 1" ∷ []) written_leaf)).after ≡ (course_of (script_of (write_item ∷ Go ∷ [])) ((of_write ("1 write x ok 512" ∷ "take 1 0 - body 512 1 0:1" ∷ "order 1" ∷ []) written_leaf)).before (journal_spelled (script_of (write_item ∷ Go ∷ [])) ((of_write ("1 write x ok 512" ∷ "take 1 0 - body 512 1 0:1" ∷ "order 1" ∷ []) written_leaf)).before true_report_is_yes_journals)).state.images
unfolding evaluation
true_report_is_yes_images = refl

pub true_report_is_yes : TrueReportIsYes
unfolding evaluation
true_report_is_yes = yes (of_write ("1 write x ok 512" ∷ "take 1 0 - body 512 1 0:1" ∷ "order 1" ∷ []) written_leaf) ((script_of (write_item ∷ Go ∷ [])), true_report_is_yes_script) (record { before = refl; each = (other_shaped (codes "pool 1 1") refl refl, (other_shaped (codes "round 1 batch 1 point 0") refl refl, (other_shaped (codes "1 write x ok 512") refl refl, (take_shaped two_sectors 1 (codes "take 1 0 - body 512 1 0:1") (entry_in 1 1) (line_is_take two_sectors 1 (codes "take 1 0 - body 512 1 0:1") (entry_in 1 1) refl) refl, (order_shaped (codes "order 1") (1 ∷ []) (line_is_order (codes "order 1") (1 ∷ []) refl) refl, (other_shaped (codes "end 0") refl refl, tt)))))) }) (record { script = (script_of (write_item ∷ Go ∷ [])); journals = true_report_is_yes_journals; read = true_report_is_yes_read; stands = true_report_is_yes_places }) (record { script = (script_of (write_item ∷ Go ∷ [])); journals = true_report_is_yes_journals; read = true_report_is_yes_read; stands = true_report_is_yes_completions }) (record { script = (script_of (write_item ∷ Go ∷ [])); journals = true_report_is_yes_journals; read = true_report_is_yes_read; stands = true_report_is_yes_text }) (record { script = (script_of (write_item ∷ Go ∷ [])); journals = true_report_is_yes_journals; read = true_report_is_yes_read; stands = true_report_is_yes_images })

-- ---- other place is no

other_place_is_no_script : IsScriptIn (of_write ("1 write x ok 512" ∷ "take 1 0 - body 512 1 0:0" ∷ "order 1" ∷ []) written_leaf) (script_of (write_item ∷ Go ∷ []))
unfolding evaluation
other_place_is_no_script = record { accepted = refl; images = ((lit< tt, tt), tt) }

abbrev other_place_is_no_journals : List RoundJournal
other_place_is_no_journals = record { entries = (entry_in 1 0) ∷ []; order = 1 ∷ [] } ∷ []

other_place_is_no_read : IsReadAs (of_write ("1 write x ok 512" ∷ "take 1 0 - body 512 1 0:0" ∷ "order 1" ∷ []) written_leaf) (script_of (write_item ∷ Go ∷ [])) other_place_is_no_journals
unfolding evaluation
other_place_is_no_read = record { script_is = other_place_is_no_script; spelled = record { before = refl; rounds = (record { entries = (line_is_take two_sectors 1 (codes "take 1 0 - body 512 1 0:0") (entry_in 1 0) refl, tt); orders = (1 ∷ []) ∷ []; order_lines = (line_is_order (codes "order 1") (1 ∷ []) refl, tt); order_is = refl }, tt) } }

other_place_is_no_places : HasLawfulEntries (script_of (write_item ∷ Go ∷ [])) ((of_write ("1 write x ok 512" ∷ "take 1 0 - body 512 1 0:0" ∷ "order 1" ∷ []) written_leaf)).before (journal_spelled (script_of (write_item ∷ Go ∷ [])) ((of_write ("1 write x ok 512" ∷ "take 1 0 - body 512 1 0:0" ∷ "order 1" ∷ []) written_leaf)).before other_place_is_no_journals)
unfolding evaluation
other_place_is_no_places = record {
  of_rounds = (refl, tt);
  each = (
    record {
      distinct = (tt, tt);
      asked = ((0, lit< tt, refl), tt);
      answered = ((0, lit< tt, refl), tt);
      lawful = (
        record {
          found = lit≤ tt;
          copies = (record { fits = refl; inside = refl; free = refl; spread = λ e. absurd (true≢false (sym e)) }, tt);
          refused = λ few top run. absurd (omega arith);
        },
        tt,
      );
    },
    tt,
  );
}

other_place_is_no_completions : HasCompletions (script_of (write_item ∷ Go ∷ [])) ((of_write ("1 write x ok 512" ∷ "take 1 0 - body 512 1 0:0" ∷ "order 1" ∷ []) written_leaf)).before (journal_spelled (script_of (write_item ∷ Go ∷ [])) ((of_write ("1 write x ok 512" ∷ "take 1 0 - body 512 1 0:0" ∷ "order 1" ∷ []) written_leaf)).before other_place_is_no_journals)
unfolding evaluation
other_place_is_no_completions = record { of_rounds = (refl, tt); each = (record { finished = ((0, lit< tt, refl), tt); all = ((0, lit< tt, refl), tt) }, tt); once = (tt, tt); after_children = (tt, tt) }

other_place_is_no_text : IsTextOf (script_of (write_item ∷ Go ∷ [])) ((of_write ("1 write x ok 512" ∷ "take 1 0 - body 512 1 0:0" ∷ "order 1" ∷ []) written_leaf)).before (journal_spelled (script_of (write_item ∷ Go ∷ [])) ((of_write ("1 write x ok 512" ∷ "take 1 0 - body 512 1 0:0" ∷ "order 1" ∷ []) written_leaf)).before other_place_is_no_journals) ((of_write ("1 write x ok 512" ∷ "take 1 0 - body 512 1 0:0" ∷ "order 1" ∷ []) written_leaf)).report
unfolding evaluation
other_place_is_no_text = record { bytes = false; text = refl }

pub other_place_is_no : OtherPlaceIsNo
unfolding evaluation
other_place_is_no = no_images (of_write ("1 write x ok 512" ∷ "take 1 0 - body 512 1 0:0" ∷ "order 1" ∷ []) written_leaf) ((script_of (write_item ∷ Go ∷ [])), other_place_is_no_script) (record { before = refl; each = (other_shaped (codes "pool 1 1") refl refl, (other_shaped (codes "round 1 batch 1 point 0") refl refl, (other_shaped (codes "1 write x ok 512") refl refl, (take_shaped two_sectors 1 (codes "take 1 0 - body 512 1 0:0") (entry_in 1 0) (line_is_take two_sectors 1 (codes "take 1 0 - body 512 1 0:0") (entry_in 1 0) refl) refl, (order_shaped (codes "order 1") (1 ∷ []) (line_is_order (codes "order 1") (1 ∷ []) refl) refl, (other_shaped (codes "end 0") refl refl, tt)))))) }) (record { script = (script_of (write_item ∷ Go ∷ [])); journals = other_place_is_no_journals; read = other_place_is_no_read; stands = other_place_is_no_places }) (record { script = (script_of (write_item ∷ Go ∷ [])); journals = other_place_is_no_journals; read = other_place_is_no_read; stands = other_place_is_no_completions }) (record { script = (script_of (write_item ∷ Go ∷ [])); journals = other_place_is_no_journals; read = other_place_is_no_read; stands = other_place_is_no_text }) (fails (of_write ("1 write x ok 512" ∷ "take 1 0 - body 512 1 0:0" ∷ "order 1" ∷ []) written_leaf) (script_of (write_item ∷ Go ∷ [])) other_place_is_no_journals (λ script images j. ((of_write ("1 write x ok 512" ∷ "take 1 0 - body 512 1 0:0" ∷ "order 1" ∷ []) written_leaf)).after ≡ (course_of script images j).state.images) other_place_is_no_read (λ h. let e : 0 ≡ 65 = ap (λ (images : Images). get_or (image_of images 0) 0 0) h in absurd (omega arith)))

-- ---- tails are compared

tails_are_compared_script : IsScriptIn (of_write ("1 write x ok 512" ∷ "take 1 0 - body 512 1 0:1" ∷ "order 1" ∷ []) (leaf_with (sector_of 0) (sector_of 65) (1 ∷ 2 ∷ 4 ∷ []) ∷ [])) (script_of (write_item ∷ Go ∷ []))
unfolding evaluation
tails_are_compared_script = record { accepted = refl; images = ((lit< tt, tt), tt) }

abbrev tails_are_compared_journals : List RoundJournal
tails_are_compared_journals = record { entries = (entry_in 1 1) ∷ []; order = 1 ∷ [] } ∷ []

tails_are_compared_read : IsReadAs (of_write ("1 write x ok 512" ∷ "take 1 0 - body 512 1 0:1" ∷ "order 1" ∷ []) (leaf_with (sector_of 0) (sector_of 65) (1 ∷ 2 ∷ 4 ∷ []) ∷ [])) (script_of (write_item ∷ Go ∷ [])) tails_are_compared_journals
unfolding evaluation
tails_are_compared_read = record { script_is = tails_are_compared_script; spelled = record { before = refl; rounds = (record { entries = (line_is_take two_sectors 1 (codes "take 1 0 - body 512 1 0:1") (entry_in 1 1) refl, tt); orders = (1 ∷ []) ∷ []; order_lines = (line_is_order (codes "order 1") (1 ∷ []) refl, tt); order_is = refl }, tt) } }

tails_are_compared_places : HasLawfulEntries (script_of (write_item ∷ Go ∷ [])) ((of_write ("1 write x ok 512" ∷ "take 1 0 - body 512 1 0:1" ∷ "order 1" ∷ []) (leaf_with (sector_of 0) (sector_of 65) (1 ∷ 2 ∷ 4 ∷ []) ∷ []))).before (journal_spelled (script_of (write_item ∷ Go ∷ [])) ((of_write ("1 write x ok 512" ∷ "take 1 0 - body 512 1 0:1" ∷ "order 1" ∷ []) (leaf_with (sector_of 0) (sector_of 65) (1 ∷ 2 ∷ 4 ∷ []) ∷ []))).before tails_are_compared_journals)
unfolding evaluation
tails_are_compared_places = record {
  of_rounds = (refl, tt);
  each = (
    record {
      distinct = (tt, tt);
      asked = ((0, lit< tt, refl), tt);
      answered = ((0, lit< tt, refl), tt);
      lawful = (
        record {
          found = lit≤ tt;
          copies = (record { fits = refl; inside = refl; free = refl; spread = λ e. absurd (true≢false (sym e)) }, tt);
          refused = λ few top run. absurd (omega arith);
        },
        tt,
      );
    },
    tt,
  );
}

tails_are_compared_completions : HasCompletions (script_of (write_item ∷ Go ∷ [])) ((of_write ("1 write x ok 512" ∷ "take 1 0 - body 512 1 0:1" ∷ "order 1" ∷ []) (leaf_with (sector_of 0) (sector_of 65) (1 ∷ 2 ∷ 4 ∷ []) ∷ []))).before (journal_spelled (script_of (write_item ∷ Go ∷ [])) ((of_write ("1 write x ok 512" ∷ "take 1 0 - body 512 1 0:1" ∷ "order 1" ∷ []) (leaf_with (sector_of 0) (sector_of 65) (1 ∷ 2 ∷ 4 ∷ []) ∷ []))).before tails_are_compared_journals)
unfolding evaluation
tails_are_compared_completions = record { of_rounds = (refl, tt); each = (record { finished = ((0, lit< tt, refl), tt); all = ((0, lit< tt, refl), tt) }, tt); once = (tt, tt); after_children = (tt, tt) }

tails_are_compared_text : IsTextOf (script_of (write_item ∷ Go ∷ [])) ((of_write ("1 write x ok 512" ∷ "take 1 0 - body 512 1 0:1" ∷ "order 1" ∷ []) (leaf_with (sector_of 0) (sector_of 65) (1 ∷ 2 ∷ 4 ∷ []) ∷ []))).before (journal_spelled (script_of (write_item ∷ Go ∷ [])) ((of_write ("1 write x ok 512" ∷ "take 1 0 - body 512 1 0:1" ∷ "order 1" ∷ []) (leaf_with (sector_of 0) (sector_of 65) (1 ∷ 2 ∷ 4 ∷ []) ∷ []))).before tails_are_compared_journals) ((of_write ("1 write x ok 512" ∷ "take 1 0 - body 512 1 0:1" ∷ "order 1" ∷ []) (leaf_with (sector_of 0) (sector_of 65) (1 ∷ 2 ∷ 4 ∷ []) ∷ []))).report
unfolding evaluation
tails_are_compared_text = record { bytes = false; text = refl }

pub tails_are_compared : TailsAreCompared
unfolding evaluation
tails_are_compared = no_images (of_write ("1 write x ok 512" ∷ "take 1 0 - body 512 1 0:1" ∷ "order 1" ∷ []) (leaf_with (sector_of 0) (sector_of 65) (1 ∷ 2 ∷ 4 ∷ []) ∷ [])) ((script_of (write_item ∷ Go ∷ [])), tails_are_compared_script) (record { before = refl; each = (other_shaped (codes "pool 1 1") refl refl, (other_shaped (codes "round 1 batch 1 point 0") refl refl, (other_shaped (codes "1 write x ok 512") refl refl, (take_shaped two_sectors 1 (codes "take 1 0 - body 512 1 0:1") (entry_in 1 1) (line_is_take two_sectors 1 (codes "take 1 0 - body 512 1 0:1") (entry_in 1 1) refl) refl, (order_shaped (codes "order 1") (1 ∷ []) (line_is_order (codes "order 1") (1 ∷ []) refl) refl, (other_shaped (codes "end 0") refl refl, tt)))))) }) (record { script = (script_of (write_item ∷ Go ∷ [])); journals = tails_are_compared_journals; read = tails_are_compared_read; stands = tails_are_compared_places }) (record { script = (script_of (write_item ∷ Go ∷ [])); journals = tails_are_compared_journals; read = tails_are_compared_read; stands = tails_are_compared_completions }) (record { script = (script_of (write_item ∷ Go ∷ [])); journals = tails_are_compared_journals; read = tails_are_compared_read; stands = tails_are_compared_text }) (fails (of_write ("1 write x ok 512" ∷ "take 1 0 - body 512 1 0:1" ∷ "order 1" ∷ []) (leaf_with (sector_of 0) (sector_of 65) (1 ∷ 2 ∷ 4 ∷ []) ∷ [])) (script_of (write_item ∷ Go ∷ [])) tails_are_compared_journals (λ script images j. ((of_write ("1 write x ok 512" ∷ "take 1 0 - body 512 1 0:1" ∷ "order 1" ∷ []) (leaf_with (sector_of 0) (sector_of 65) (1 ∷ 2 ∷ 4 ∷ []) ∷ []))).after ≡ (course_of script images j).state.images) tails_are_compared_read (λ h. let e : 4 ≡ 3 = ap (λ (images : Images). get_or (image_of images 0) 1026 0) h in absurd (omega arith)))

-- ---- text comes before images

text_comes_before_images_script : IsScriptIn (of_write ("1 write x ok 1024" ∷ "take 1 0 - body 512 1 0:1" ∷ "order 1" ∷ []) empty_leaf) (script_of (write_item ∷ Go ∷ []))
unfolding evaluation
text_comes_before_images_script = record { accepted = refl; images = ((lit< tt, tt), tt) }

abbrev text_comes_before_images_journals : List RoundJournal
text_comes_before_images_journals = record { entries = (entry_in 1 1) ∷ []; order = 1 ∷ [] } ∷ []

text_comes_before_images_read : IsReadAs (of_write ("1 write x ok 1024" ∷ "take 1 0 - body 512 1 0:1" ∷ "order 1" ∷ []) empty_leaf) (script_of (write_item ∷ Go ∷ [])) text_comes_before_images_journals
unfolding evaluation
text_comes_before_images_read = record { script_is = text_comes_before_images_script; spelled = record { before = refl; rounds = (record { entries = (line_is_take two_sectors 1 (codes "take 1 0 - body 512 1 0:1") (entry_in 1 1) refl, tt); orders = (1 ∷ []) ∷ []; order_lines = (line_is_order (codes "order 1") (1 ∷ []) refl, tt); order_is = refl }, tt) } }

text_comes_before_images_places : HasLawfulEntries (script_of (write_item ∷ Go ∷ [])) ((of_write ("1 write x ok 1024" ∷ "take 1 0 - body 512 1 0:1" ∷ "order 1" ∷ []) empty_leaf)).before (journal_spelled (script_of (write_item ∷ Go ∷ [])) ((of_write ("1 write x ok 1024" ∷ "take 1 0 - body 512 1 0:1" ∷ "order 1" ∷ []) empty_leaf)).before text_comes_before_images_journals)
unfolding evaluation
text_comes_before_images_places = record {
  of_rounds = (refl, tt);
  each = (
    record {
      distinct = (tt, tt);
      asked = ((0, lit< tt, refl), tt);
      answered = ((0, lit< tt, refl), tt);
      lawful = (
        record {
          found = lit≤ tt;
          copies = (record { fits = refl; inside = refl; free = refl; spread = λ e. absurd (true≢false (sym e)) }, tt);
          refused = λ few top run. absurd (omega arith);
        },
        tt,
      );
    },
    tt,
  );
}

text_comes_before_images_completions : HasCompletions (script_of (write_item ∷ Go ∷ [])) ((of_write ("1 write x ok 1024" ∷ "take 1 0 - body 512 1 0:1" ∷ "order 1" ∷ []) empty_leaf)).before (journal_spelled (script_of (write_item ∷ Go ∷ [])) ((of_write ("1 write x ok 1024" ∷ "take 1 0 - body 512 1 0:1" ∷ "order 1" ∷ []) empty_leaf)).before text_comes_before_images_journals)
unfolding evaluation
text_comes_before_images_completions = record { of_rounds = (refl, tt); each = (record { finished = ((0, lit< tt, refl), tt); all = ((0, lit< tt, refl), tt) }, tt); once = (tt, tt); after_children = (tt, tt) }

pub text_comes_before_images : TextComesBeforeImages
unfolding evaluation
text_comes_before_images = no_text (of_write ("1 write x ok 1024" ∷ "take 1 0 - body 512 1 0:1" ∷ "order 1" ∷ []) empty_leaf) ((script_of (write_item ∷ Go ∷ [])), text_comes_before_images_script) (record { before = refl; each = (other_shaped (codes "pool 1 1") refl refl, (other_shaped (codes "round 1 batch 1 point 0") refl refl, (other_shaped (codes "1 write x ok 1024") refl refl, (take_shaped two_sectors 1 (codes "take 1 0 - body 512 1 0:1") (entry_in 1 1) (line_is_take two_sectors 1 (codes "take 1 0 - body 512 1 0:1") (entry_in 1 1) refl) refl, (order_shaped (codes "order 1") (1 ∷ []) (line_is_order (codes "order 1") (1 ∷ []) refl) refl, (other_shaped (codes "end 0") refl refl, tt)))))) }) (record { script = (script_of (write_item ∷ Go ∷ [])); journals = text_comes_before_images_journals; read = text_comes_before_images_read; stands = text_comes_before_images_places }) (record { script = (script_of (write_item ∷ Go ∷ [])); journals = text_comes_before_images_journals; read = text_comes_before_images_read; stands = text_comes_before_images_completions }) (fails (of_write ("1 write x ok 1024" ∷ "take 1 0 - body 512 1 0:1" ∷ "order 1" ∷ []) empty_leaf) (script_of (write_item ∷ Go ∷ [])) text_comes_before_images_journals (λ script images j. IsTextOf script images j ((of_write ("1 write x ok 1024" ∷ "take 1 0 - body 512 1 0:1" ∷ "order 1" ∷ []) empty_leaf)).report) text_comes_before_images_read (λ h. let e : 49 ≡ 53 = ap (λ (t : List ℕ). get_or t 46 0) h.text in absurd (omega arith)))

-- ---- marks are text

marks_are_text_script : IsScriptIn (of_write ("1 write x ok 512" ∷ "take 1 0 - body 512 1 0:1 refused" ∷ "order 1" ∷ []) written_leaf) (script_of (write_item ∷ Go ∷ []))
unfolding evaluation
marks_are_text_script = record { accepted = refl; images = ((lit< tt, tt), tt) }

abbrev marks_are_text_journals : List RoundJournal
marks_are_text_journals = record { entries = (entry_in 1 1) ∷ []; order = 1 ∷ [] } ∷ []

marks_are_text_read : IsReadAs (of_write ("1 write x ok 512" ∷ "take 1 0 - body 512 1 0:1 refused" ∷ "order 1" ∷ []) written_leaf) (script_of (write_item ∷ Go ∷ [])) marks_are_text_journals
unfolding evaluation
marks_are_text_read = record { script_is = marks_are_text_script; spelled = record { before = refl; rounds = (record { entries = (line_is_take two_sectors 1 (codes "take 1 0 - body 512 1 0:1 refused") (entry_in 1 1) refl, tt); orders = (1 ∷ []) ∷ []; order_lines = (line_is_order (codes "order 1") (1 ∷ []) refl, tt); order_is = refl }, tt) } }

marks_are_text_places : HasLawfulEntries (script_of (write_item ∷ Go ∷ [])) ((of_write ("1 write x ok 512" ∷ "take 1 0 - body 512 1 0:1 refused" ∷ "order 1" ∷ []) written_leaf)).before (journal_spelled (script_of (write_item ∷ Go ∷ [])) ((of_write ("1 write x ok 512" ∷ "take 1 0 - body 512 1 0:1 refused" ∷ "order 1" ∷ []) written_leaf)).before marks_are_text_journals)
unfolding evaluation
marks_are_text_places = record {
  of_rounds = (refl, tt);
  each = (
    record {
      distinct = (tt, tt);
      asked = ((0, lit< tt, refl), tt);
      answered = ((0, lit< tt, refl), tt);
      lawful = (
        record {
          found = lit≤ tt;
          copies = (record { fits = refl; inside = refl; free = refl; spread = λ e. absurd (true≢false (sym e)) }, tt);
          refused = λ few top run. absurd (omega arith);
        },
        tt,
      );
    },
    tt,
  );
}

marks_are_text_completions : HasCompletions (script_of (write_item ∷ Go ∷ [])) ((of_write ("1 write x ok 512" ∷ "take 1 0 - body 512 1 0:1 refused" ∷ "order 1" ∷ []) written_leaf)).before (journal_spelled (script_of (write_item ∷ Go ∷ [])) ((of_write ("1 write x ok 512" ∷ "take 1 0 - body 512 1 0:1 refused" ∷ "order 1" ∷ []) written_leaf)).before marks_are_text_journals)
unfolding evaluation
marks_are_text_completions = record { of_rounds = (refl, tt); each = (record { finished = ((0, lit< tt, refl), tt); all = ((0, lit< tt, refl), tt) }, tt); once = (tt, tt); after_children = (tt, tt) }

pub marks_are_text : MarksAreText
unfolding evaluation
marks_are_text = no_text (of_write ("1 write x ok 512" ∷ "take 1 0 - body 512 1 0:1 refused" ∷ "order 1" ∷ []) written_leaf) ((script_of (write_item ∷ Go ∷ [])), marks_are_text_script) (record { before = refl; each = (other_shaped (codes "pool 1 1") refl refl, (other_shaped (codes "round 1 batch 1 point 0") refl refl, (other_shaped (codes "1 write x ok 512") refl refl, (take_shaped two_sectors 1 (codes "take 1 0 - body 512 1 0:1 refused") (entry_in 1 1) (line_is_take two_sectors 1 (codes "take 1 0 - body 512 1 0:1 refused") (entry_in 1 1) refl) refl, (order_shaped (codes "order 1") (1 ∷ []) (line_is_order (codes "order 1") (1 ∷ []) refl) refl, (other_shaped (codes "end 0") refl refl, tt)))))) }) (record { script = (script_of (write_item ∷ Go ∷ [])); journals = marks_are_text_journals; read = marks_are_text_read; stands = marks_are_text_places }) (record { script = (script_of (write_item ∷ Go ∷ [])); journals = marks_are_text_journals; read = marks_are_text_read; stands = marks_are_text_completions }) (fails (of_write ("1 write x ok 512" ∷ "take 1 0 - body 512 1 0:1 refused" ∷ "order 1" ∷ []) written_leaf) (script_of (write_item ∷ Go ∷ [])) marks_are_text_journals (λ script images j. IsTextOf script images j ((of_write ("1 write x ok 512" ∷ "take 1 0 - body 512 1 0:1 refused" ∷ "order 1" ∷ []) written_leaf)).report) marks_are_text_read (λ h. let e : 32 ≡ 10 = ap (λ (t : List ℕ). get_or t 75 0) h.text in absurd (omega arith)))

-- ---- blank begins no entry

blank_begins_no_entry_script : IsScriptIn (of_write ("1 write x ok 512" ∷ "take 1 0 - body 512 1 0:1" ∷ " take 1" ∷ "order 1" ∷ []) written_leaf) (script_of (write_item ∷ Go ∷ []))
unfolding evaluation
blank_begins_no_entry_script = record { accepted = refl; images = ((lit< tt, tt), tt) }

abbrev blank_begins_no_entry_journals : List RoundJournal
blank_begins_no_entry_journals = record { entries = (entry_in 1 1) ∷ []; order = 1 ∷ [] } ∷ []

blank_begins_no_entry_read : IsReadAs (of_write ("1 write x ok 512" ∷ "take 1 0 - body 512 1 0:1" ∷ " take 1" ∷ "order 1" ∷ []) written_leaf) (script_of (write_item ∷ Go ∷ [])) blank_begins_no_entry_journals
unfolding evaluation
blank_begins_no_entry_read = record { script_is = blank_begins_no_entry_script; spelled = record { before = refl; rounds = (record { entries = (line_is_take two_sectors 1 (codes "take 1 0 - body 512 1 0:1") (entry_in 1 1) refl, tt); orders = (1 ∷ []) ∷ []; order_lines = (line_is_order (codes "order 1") (1 ∷ []) refl, tt); order_is = refl }, tt) } }

blank_begins_no_entry_places : HasLawfulEntries (script_of (write_item ∷ Go ∷ [])) ((of_write ("1 write x ok 512" ∷ "take 1 0 - body 512 1 0:1" ∷ " take 1" ∷ "order 1" ∷ []) written_leaf)).before (journal_spelled (script_of (write_item ∷ Go ∷ [])) ((of_write ("1 write x ok 512" ∷ "take 1 0 - body 512 1 0:1" ∷ " take 1" ∷ "order 1" ∷ []) written_leaf)).before blank_begins_no_entry_journals)
unfolding evaluation
blank_begins_no_entry_places = record {
  of_rounds = (refl, tt);
  each = (
    record {
      distinct = (tt, tt);
      asked = ((0, lit< tt, refl), tt);
      answered = ((0, lit< tt, refl), tt);
      lawful = (
        record {
          found = lit≤ tt;
          copies = (record { fits = refl; inside = refl; free = refl; spread = λ e. absurd (true≢false (sym e)) }, tt);
          refused = λ few top run. absurd (omega arith);
        },
        tt,
      );
    },
    tt,
  );
}

blank_begins_no_entry_completions : HasCompletions (script_of (write_item ∷ Go ∷ [])) ((of_write ("1 write x ok 512" ∷ "take 1 0 - body 512 1 0:1" ∷ " take 1" ∷ "order 1" ∷ []) written_leaf)).before (journal_spelled (script_of (write_item ∷ Go ∷ [])) ((of_write ("1 write x ok 512" ∷ "take 1 0 - body 512 1 0:1" ∷ " take 1" ∷ "order 1" ∷ []) written_leaf)).before blank_begins_no_entry_journals)
unfolding evaluation
blank_begins_no_entry_completions = record { of_rounds = (refl, tt); each = (record { finished = ((0, lit< tt, refl), tt); all = ((0, lit< tt, refl), tt) }, tt); once = (tt, tt); after_children = (tt, tt) }

pub blank_begins_no_entry : BlankBeginsNoEntry
unfolding evaluation
blank_begins_no_entry = no_text (of_write ("1 write x ok 512" ∷ "take 1 0 - body 512 1 0:1" ∷ " take 1" ∷ "order 1" ∷ []) written_leaf) ((script_of (write_item ∷ Go ∷ [])), blank_begins_no_entry_script) (record { before = refl; each = (other_shaped (codes "pool 1 1") refl refl, (other_shaped (codes "round 1 batch 1 point 0") refl refl, (other_shaped (codes "1 write x ok 512") refl refl, (take_shaped two_sectors 1 (codes "take 1 0 - body 512 1 0:1") (entry_in 1 1) (line_is_take two_sectors 1 (codes "take 1 0 - body 512 1 0:1") (entry_in 1 1) refl) refl, (other_shaped (codes " take 1") refl refl, (order_shaped (codes "order 1") (1 ∷ []) (line_is_order (codes "order 1") (1 ∷ []) refl) refl, (other_shaped (codes "end 0") refl refl, tt))))))) }) (record { script = (script_of (write_item ∷ Go ∷ [])); journals = blank_begins_no_entry_journals; read = blank_begins_no_entry_read; stands = blank_begins_no_entry_places }) (record { script = (script_of (write_item ∷ Go ∷ [])); journals = blank_begins_no_entry_journals; read = blank_begins_no_entry_read; stands = blank_begins_no_entry_completions }) (fails (of_write ("1 write x ok 512" ∷ "take 1 0 - body 512 1 0:1" ∷ " take 1" ∷ "order 1" ∷ []) written_leaf) (script_of (write_item ∷ Go ∷ [])) blank_begins_no_entry_journals (λ script images j. IsTextOf script images j ((of_write ("1 write x ok 512" ∷ "take 1 0 - body 512 1 0:1" ∷ " take 1" ∷ "order 1" ∷ []) written_leaf)).report) blank_begins_no_entry_read (λ h. let e : 32 ≡ 111 = ap (λ (t : List ℕ). get_or t 76 0) h.text in absurd (omega arith)))

-- ---- order left out

order_left_out_script : IsScriptIn (of_write ("1 write x ok 1024" ∷ "take 1 0 - body 512 1 0:1" ∷ []) written_leaf) (script_of (write_item ∷ Go ∷ []))
unfolding evaluation
order_left_out_script = record { accepted = refl; images = ((lit< tt, tt), tt) }

abbrev order_left_out_journals : List RoundJournal
order_left_out_journals = record { entries = (entry_in 1 1) ∷ []; order = [] } ∷ []

order_left_out_read : IsReadAs (of_write ("1 write x ok 1024" ∷ "take 1 0 - body 512 1 0:1" ∷ []) written_leaf) (script_of (write_item ∷ Go ∷ [])) order_left_out_journals
unfolding evaluation
order_left_out_read = record { script_is = order_left_out_script; spelled = record { before = refl; rounds = (record { entries = (line_is_take two_sectors 1 (codes "take 1 0 - body 512 1 0:1") (entry_in 1 1) refl, tt); orders = []; order_lines = tt; order_is = refl }, tt) } }

order_left_out_places : HasLawfulEntries (script_of (write_item ∷ Go ∷ [])) ((of_write ("1 write x ok 1024" ∷ "take 1 0 - body 512 1 0:1" ∷ []) written_leaf)).before (journal_spelled (script_of (write_item ∷ Go ∷ [])) ((of_write ("1 write x ok 1024" ∷ "take 1 0 - body 512 1 0:1" ∷ []) written_leaf)).before order_left_out_journals)
unfolding evaluation
order_left_out_places = record {
  of_rounds = (refl, tt);
  each = (
    record {
      distinct = (tt, tt);
      asked = ((0, lit< tt, refl), tt);
      answered = ((0, lit< tt, refl), tt);
      lawful = (
        record {
          found = lit≤ tt;
          copies = (record { fits = refl; inside = refl; free = refl; spread = λ e. absurd (true≢false (sym e)) }, tt);
          refused = λ few top run. absurd (omega arith);
        },
        tt,
      );
    },
    tt,
  );
}

pub order_left_out : OrderLeftOut
unfolding evaluation
order_left_out = no_completions (of_write ("1 write x ok 1024" ∷ "take 1 0 - body 512 1 0:1" ∷ []) written_leaf) ((script_of (write_item ∷ Go ∷ [])), order_left_out_script) (record { before = refl; each = (other_shaped (codes "pool 1 1") refl refl, (other_shaped (codes "round 1 batch 1 point 0") refl refl, (other_shaped (codes "1 write x ok 1024") refl refl, (take_shaped two_sectors 1 (codes "take 1 0 - body 512 1 0:1") (entry_in 1 1) (line_is_take two_sectors 1 (codes "take 1 0 - body 512 1 0:1") (entry_in 1 1) refl) refl, (other_shaped (codes "end 0") refl refl, tt))))) }) (record { script = (script_of (write_item ∷ Go ∷ [])); journals = order_left_out_journals; read = order_left_out_read; stands = order_left_out_places }) (fails (of_write ("1 write x ok 1024" ∷ "take 1 0 - body 512 1 0:1" ∷ []) written_leaf) (script_of (write_item ∷ Go ∷ [])) order_left_out_journals HasCompletions order_left_out_read (λ h. none_contained (record { request = 1; round = 1; error = None }) h.each.0.all.0))

-- ---- later round completes

later_round_completes_script : IsScriptIn (of_write ("1 write x ok 512" ∷ "take 1 0 - body 512 1 0:1" ∷ "round 2 clear point 1" ∷ "order 1" ∷ []) written_leaf) (script_of (write_item ∷ Go ∷ []))
unfolding evaluation
later_round_completes_script = record { accepted = refl; images = ((lit< tt, tt), tt) }

abbrev later_round_completes_journals : List RoundJournal
later_round_completes_journals = record { entries = (entry_in 1 1) ∷ []; order = [] } ∷ record { entries = []; order = 1 ∷ [] } ∷ []

later_round_completes_read : IsReadAs (of_write ("1 write x ok 512" ∷ "take 1 0 - body 512 1 0:1" ∷ "round 2 clear point 1" ∷ "order 1" ∷ []) written_leaf) (script_of (write_item ∷ Go ∷ [])) later_round_completes_journals
unfolding evaluation
later_round_completes_read = record { script_is = later_round_completes_script; spelled = record { before = refl; rounds = (record { entries = (line_is_take two_sectors 1 (codes "take 1 0 - body 512 1 0:1") (entry_in 1 1) refl, tt); orders = []; order_lines = tt; order_is = refl }, (record { entries = tt; orders = (1 ∷ []) ∷ []; order_lines = (line_is_order (codes "order 1") (1 ∷ []) refl, tt); order_is = refl }, tt)) } }

later_round_completes_places : HasLawfulEntries (script_of (write_item ∷ Go ∷ [])) ((of_write ("1 write x ok 512" ∷ "take 1 0 - body 512 1 0:1" ∷ "round 2 clear point 1" ∷ "order 1" ∷ []) written_leaf)).before (journal_spelled (script_of (write_item ∷ Go ∷ [])) ((of_write ("1 write x ok 512" ∷ "take 1 0 - body 512 1 0:1" ∷ "round 2 clear point 1" ∷ "order 1" ∷ []) written_leaf)).before later_round_completes_journals)
unfolding evaluation
later_round_completes_places = record {
  of_rounds = (refl, tt);
  each = (
    record {
      distinct = (tt, tt);
      asked = ((0, lit< tt, refl), tt);
      answered = ((0, lit< tt, refl), tt);
      lawful = (
        record {
          found = lit≤ tt;
          copies = (record { fits = refl; inside = refl; free = refl; spread = λ e. absurd (true≢false (sym e)) }, tt);
          refused = λ few top run. absurd (omega arith);
        },
        tt,
      );
    },
    tt,
  );
}

pub later_round_completes : LaterRoundCompletes
unfolding evaluation
later_round_completes = no_completions (of_write ("1 write x ok 512" ∷ "take 1 0 - body 512 1 0:1" ∷ "round 2 clear point 1" ∷ "order 1" ∷ []) written_leaf) ((script_of (write_item ∷ Go ∷ [])), later_round_completes_script) (record { before = refl; each = (other_shaped (codes "pool 1 1") refl refl, (other_shaped (codes "round 1 batch 1 point 0") refl refl, (other_shaped (codes "1 write x ok 512") refl refl, (take_shaped two_sectors 1 (codes "take 1 0 - body 512 1 0:1") (entry_in 1 1) (line_is_take two_sectors 1 (codes "take 1 0 - body 512 1 0:1") (entry_in 1 1) refl) refl, (other_shaped (codes "round 2 clear point 1") refl refl, (order_shaped (codes "order 1") (1 ∷ []) (line_is_order (codes "order 1") (1 ∷ []) refl) refl, (other_shaped (codes "end 0") refl refl, tt))))))) }) (record { script = (script_of (write_item ∷ Go ∷ [])); journals = later_round_completes_journals; read = later_round_completes_read; stands = later_round_completes_places }) (fails (of_write ("1 write x ok 512" ∷ "take 1 0 - body 512 1 0:1" ∷ "round 2 clear point 1" ∷ "order 1" ∷ []) written_leaf) (script_of (write_item ∷ Go ∷ [])) later_round_completes_journals HasCompletions later_round_completes_read (λ h. true≢false (sym h.of_rounds.0)))

-- ---- round too many

round_too_many_script : IsScriptIn (of_write ("1 write x ok 512" ∷ "take 1 0 - body 512 1 0:1" ∷ "order 1" ∷ "round 2 clear point 1" ∷ []) written_leaf) (script_of (write_item ∷ Go ∷ []))
unfolding evaluation
round_too_many_script = record { accepted = refl; images = ((lit< tt, tt), tt) }

abbrev round_too_many_journals : List RoundJournal
round_too_many_journals = record { entries = (entry_in 1 1) ∷ []; order = 1 ∷ [] } ∷ record { entries = []; order = [] } ∷ []

round_too_many_read : IsReadAs (of_write ("1 write x ok 512" ∷ "take 1 0 - body 512 1 0:1" ∷ "order 1" ∷ "round 2 clear point 1" ∷ []) written_leaf) (script_of (write_item ∷ Go ∷ [])) round_too_many_journals
unfolding evaluation
round_too_many_read = record { script_is = round_too_many_script; spelled = record { before = refl; rounds = (record { entries = (line_is_take two_sectors 1 (codes "take 1 0 - body 512 1 0:1") (entry_in 1 1) refl, tt); orders = (1 ∷ []) ∷ []; order_lines = (line_is_order (codes "order 1") (1 ∷ []) refl, tt); order_is = refl }, (record { entries = tt; orders = []; order_lines = tt; order_is = refl }, tt)) } }

round_too_many_places : HasLawfulEntries (script_of (write_item ∷ Go ∷ [])) ((of_write ("1 write x ok 512" ∷ "take 1 0 - body 512 1 0:1" ∷ "order 1" ∷ "round 2 clear point 1" ∷ []) written_leaf)).before (journal_spelled (script_of (write_item ∷ Go ∷ [])) ((of_write ("1 write x ok 512" ∷ "take 1 0 - body 512 1 0:1" ∷ "order 1" ∷ "round 2 clear point 1" ∷ []) written_leaf)).before round_too_many_journals)
unfolding evaluation
round_too_many_places = record {
  of_rounds = (refl, tt);
  each = (
    record {
      distinct = (tt, tt);
      asked = ((0, lit< tt, refl), tt);
      answered = ((0, lit< tt, refl), tt);
      lawful = (
        record {
          found = lit≤ tt;
          copies = (record { fits = refl; inside = refl; free = refl; spread = λ e. absurd (true≢false (sym e)) }, tt);
          refused = λ few top run. absurd (omega arith);
        },
        tt,
      );
    },
    tt,
  );
}

round_too_many_completions : HasCompletions (script_of (write_item ∷ Go ∷ [])) ((of_write ("1 write x ok 512" ∷ "take 1 0 - body 512 1 0:1" ∷ "order 1" ∷ "round 2 clear point 1" ∷ []) written_leaf)).before (journal_spelled (script_of (write_item ∷ Go ∷ [])) ((of_write ("1 write x ok 512" ∷ "take 1 0 - body 512 1 0:1" ∷ "order 1" ∷ "round 2 clear point 1" ∷ []) written_leaf)).before round_too_many_journals)
unfolding evaluation
round_too_many_completions = record { of_rounds = (refl, tt); each = (record { finished = ((0, lit< tt, refl), tt); all = ((0, lit< tt, refl), tt) }, tt); once = (tt, tt); after_children = (tt, tt) }

pub round_too_many : RoundTooMany
unfolding evaluation
round_too_many = no_text (of_write ("1 write x ok 512" ∷ "take 1 0 - body 512 1 0:1" ∷ "order 1" ∷ "round 2 clear point 1" ∷ []) written_leaf) ((script_of (write_item ∷ Go ∷ [])), round_too_many_script) (record { before = refl; each = (other_shaped (codes "pool 1 1") refl refl, (other_shaped (codes "round 1 batch 1 point 0") refl refl, (other_shaped (codes "1 write x ok 512") refl refl, (take_shaped two_sectors 1 (codes "take 1 0 - body 512 1 0:1") (entry_in 1 1) (line_is_take two_sectors 1 (codes "take 1 0 - body 512 1 0:1") (entry_in 1 1) refl) refl, (order_shaped (codes "order 1") (1 ∷ []) (line_is_order (codes "order 1") (1 ∷ []) refl) refl, (other_shaped (codes "round 2 clear point 1") refl refl, (other_shaped (codes "end 0") refl refl, tt))))))) }) (record { script = (script_of (write_item ∷ Go ∷ [])); journals = round_too_many_journals; read = round_too_many_read; stands = round_too_many_places }) (record { script = (script_of (write_item ∷ Go ∷ [])); journals = round_too_many_journals; read = round_too_many_read; stands = round_too_many_completions }) (fails (of_write ("1 write x ok 512" ∷ "take 1 0 - body 512 1 0:1" ∷ "order 1" ∷ "round 2 clear point 1" ∷ []) written_leaf) (script_of (write_item ∷ Go ∷ [])) round_too_many_journals (λ script images j. IsTextOf script images j ((of_write ("1 write x ok 512" ∷ "take 1 0 - body 512 1 0:1" ∷ "order 1" ∷ "round 2 clear point 1" ∷ []) written_leaf)).report) round_too_many_read (λ h. let e : 114 ≡ 101 = ap (λ (t : List ℕ). get_or t 84 0) h.text in absurd (omega arith)))

-- ---- place outside

place_outside_script : IsScriptIn (of_write ("1 write x ok 512" ∷ "take 1 0 - body 512 1 0:2" ∷ []) written_leaf) (script_of (write_item ∷ Go ∷ []))
unfolding evaluation
place_outside_script = record { accepted = refl; images = ((lit< tt, tt), tt) }

abbrev place_outside_journals : List RoundJournal
place_outside_journals = record { entries = (entry_in 1 2) ∷ []; order = [] } ∷ []

place_outside_read : IsReadAs (of_write ("1 write x ok 512" ∷ "take 1 0 - body 512 1 0:2" ∷ []) written_leaf) (script_of (write_item ∷ Go ∷ [])) place_outside_journals
unfolding evaluation
place_outside_read = record { script_is = place_outside_script; spelled = record { before = refl; rounds = (record { entries = (line_is_take two_sectors 1 (codes "take 1 0 - body 512 1 0:2") (entry_in 1 2) refl, tt); orders = []; order_lines = tt; order_is = refl }, tt) } }

pub place_outside : PlaceOutside
unfolding evaluation
place_outside = no_places (of_write ("1 write x ok 512" ∷ "take 1 0 - body 512 1 0:2" ∷ []) written_leaf) ((script_of (write_item ∷ Go ∷ [])), place_outside_script) (record { before = refl; each = (other_shaped (codes "pool 1 1") refl refl, (other_shaped (codes "round 1 batch 1 point 0") refl refl, (other_shaped (codes "1 write x ok 512") refl refl, (take_shaped two_sectors 1 (codes "take 1 0 - body 512 1 0:2") (entry_in 1 2) (line_is_take two_sectors 1 (codes "take 1 0 - body 512 1 0:2") (entry_in 1 2) refl) refl, (other_shaped (codes "end 0") refl refl, tt))))) }) (fails (of_write ("1 write x ok 512" ∷ "take 1 0 - body 512 1 0:2" ∷ []) written_leaf) (script_of (write_item ∷ Go ∷ [])) place_outside_journals HasLawfulEntries place_outside_read (λ h. true≢false (sym h.each.0.lawful.0.copies.0.inside)))

-- ---- later round has an entry

later_round_has_an_entry_script : IsScriptIn (of_write ("1 write x ok 512" ∷ "take 1 0 - body 512 1 0:1" ∷ "order 1" ∷ "round 2 clear point 1" ∷ "take 1 0 - body 512 1 0:0" ∷ []) written_leaf) (script_of (write_item ∷ Go ∷ []))
unfolding evaluation
later_round_has_an_entry_script = record { accepted = refl; images = ((lit< tt, tt), tt) }

abbrev later_round_has_an_entry_journals : List RoundJournal
later_round_has_an_entry_journals = record { entries = (entry_in 1 1) ∷ []; order = 1 ∷ [] } ∷ record { entries = (entry_in 2 0) ∷ []; order = [] } ∷ []

later_round_has_an_entry_read : IsReadAs (of_write ("1 write x ok 512" ∷ "take 1 0 - body 512 1 0:1" ∷ "order 1" ∷ "round 2 clear point 1" ∷ "take 1 0 - body 512 1 0:0" ∷ []) written_leaf) (script_of (write_item ∷ Go ∷ [])) later_round_has_an_entry_journals
unfolding evaluation
later_round_has_an_entry_read = record { script_is = later_round_has_an_entry_script; spelled = record { before = refl; rounds = (record { entries = (line_is_take two_sectors 1 (codes "take 1 0 - body 512 1 0:1") (entry_in 1 1) refl, tt); orders = (1 ∷ []) ∷ []; order_lines = (line_is_order (codes "order 1") (1 ∷ []) refl, tt); order_is = refl }, (record { entries = (line_is_take two_sectors 2 (codes "take 1 0 - body 512 1 0:0") (entry_in 2 0) refl, tt); orders = []; order_lines = tt; order_is = refl }, tt)) } }

pub later_round_has_an_entry : LaterRoundHasAnEntry
unfolding evaluation
later_round_has_an_entry = no_places (of_write ("1 write x ok 512" ∷ "take 1 0 - body 512 1 0:1" ∷ "order 1" ∷ "round 2 clear point 1" ∷ "take 1 0 - body 512 1 0:0" ∷ []) written_leaf) ((script_of (write_item ∷ Go ∷ [])), later_round_has_an_entry_script) (record { before = refl; each = (other_shaped (codes "pool 1 1") refl refl, (other_shaped (codes "round 1 batch 1 point 0") refl refl, (other_shaped (codes "1 write x ok 512") refl refl, (take_shaped two_sectors 1 (codes "take 1 0 - body 512 1 0:1") (entry_in 1 1) (line_is_take two_sectors 1 (codes "take 1 0 - body 512 1 0:1") (entry_in 1 1) refl) refl, (order_shaped (codes "order 1") (1 ∷ []) (line_is_order (codes "order 1") (1 ∷ []) refl) refl, (other_shaped (codes "round 2 clear point 1") refl refl, (take_shaped two_sectors 2 (codes "take 1 0 - body 512 1 0:0") (entry_in 2 0) (line_is_take two_sectors 2 (codes "take 1 0 - body 512 1 0:0") (entry_in 2 0) refl) refl, (other_shaped (codes "end 0") refl refl, tt)))))))) }) (fails (of_write ("1 write x ok 512" ∷ "take 1 0 - body 512 1 0:1" ∷ "order 1" ∷ "round 2 clear point 1" ∷ "take 1 0 - body 512 1 0:0" ∷ []) written_leaf) (script_of (write_item ∷ Go ∷ [])) later_round_has_an_entry_journals HasLawfulEntries later_round_has_an_entry_read (λ h. true≢false (sym h.of_rounds.1.0)))

-- ---- refused with room

refused_with_room_script : IsScriptIn (of_write ("1 write x ENOSPC" ∷ "take 1 0 - body 512 1 refused" ∷ "order 1" ∷ []) empty_leaf) (script_of (write_item ∷ Go ∷ []))
unfolding evaluation
refused_with_room_script = record { accepted = refl; images = ((lit< tt, tt), tt) }

abbrev refused_with_room_journals : List RoundJournal
refused_with_room_journals = record { entries = refused_entry ∷ []; order = 1 ∷ [] } ∷ []

refused_with_room_read : IsReadAs (of_write ("1 write x ENOSPC" ∷ "take 1 0 - body 512 1 refused" ∷ "order 1" ∷ []) empty_leaf) (script_of (write_item ∷ Go ∷ [])) refused_with_room_journals
unfolding evaluation
refused_with_room_read = record { script_is = refused_with_room_script; spelled = record { before = refl; rounds = (record { entries = (line_is_take two_sectors 1 (codes "take 1 0 - body 512 1 refused") refused_entry refl, tt); orders = (1 ∷ []) ∷ []; order_lines = (line_is_order (codes "order 1") (1 ∷ []) refl, tt); order_is = refl }, tt) } }

pub refused_with_room : RefusedWithRoom
unfolding evaluation
refused_with_room = no_places (of_write ("1 write x ENOSPC" ∷ "take 1 0 - body 512 1 refused" ∷ "order 1" ∷ []) empty_leaf) ((script_of (write_item ∷ Go ∷ [])), refused_with_room_script) (record { before = refl; each = (other_shaped (codes "pool 1 1") refl refl, (other_shaped (codes "round 1 batch 1 point 0") refl refl, (other_shaped (codes "1 write x ENOSPC") refl refl, (take_shaped two_sectors 1 (codes "take 1 0 - body 512 1 refused") refused_entry (line_is_take two_sectors 1 (codes "take 1 0 - body 512 1 refused") refused_entry refl) refl, (order_shaped (codes "order 1") (1 ∷ []) (line_is_order (codes "order 1") (1 ∷ []) refl) refl, (other_shaped (codes "end 0") refl refl, tt)))))) }) (fails (of_write ("1 write x ENOSPC" ∷ "take 1 0 - body 512 1 refused" ∷ "order 1" ∷ []) empty_leaf) (script_of (write_item ∷ Go ∷ [])) refused_with_room_journals HasLawfulEntries refused_with_room_read (λ h. h.each.0.lawful.0.refused (lit< tt) 0 (record { place = record { top = 0; sector = 0; sectors = 1 }; there = refl; fits = refl; inside = refl; free = refl })))

-- ---- number is spoiled

number_is_spoiled_script : IsScriptIn (of_write ("1 write x ok 512" ∷ "take 1 0 - body 512 1 0:01" ∷ "order 1" ∷ []) written_leaf) (script_of (write_item ∷ Go ∷ []))
unfolding evaluation
number_is_spoiled_script = record { accepted = refl; images = ((lit< tt, tt), tt) }

pub number_is_spoiled : NumberIsSpoiled
unfolding evaluation
number_is_spoiled = no_lines (of_write ("1 write x ok 512" ∷ "take 1 0 - body 512 1 0:01" ∷ "order 1" ∷ []) written_leaf) ((script_of (write_item ∷ Go ∷ [])), number_is_spoiled_script) (λ h. line_is_no_take [] 0 (codes "take 1 0 - body 512 1 0:01") refl (h.each.1.1.1.0.take refl))

-- ---- entry before rounds

entry_before_rounds_script : IsScriptIn (record { script = write_text; report = lines ("take 1 0 - body 512 1 0:1" ∷ []); before = empty_leaf; after = written_leaf }) (script_of (write_item ∷ Go ∷ []))
unfolding evaluation
entry_before_rounds_script = record { accepted = refl; images = ((lit< tt, tt), tt) }

pub entry_before_rounds : EntryBeforeRounds
unfolding evaluation
entry_before_rounds = no_lines (record { script = write_text; report = lines ("take 1 0 - body 512 1 0:1" ∷ []); before = empty_leaf; after = written_leaf }) ((script_of (write_item ∷ Go ∷ [])), entry_before_rounds_script) (λ h. true≢false h.before)

-- ---- no script

pub no_script_case : NoScript
unfolding evaluation
no_script_case = no_script (record { script = codes "go"; report = lines ("take" ∷ []); before = empty_leaf; after = written_leaf }) (λ h. let e = h.1.accepted in absurd (cc))

-- ---- a leaf without an image

one_top : Script
one_top = record { failmode = Wait; tops = record { leaves = 1 ∷ []; unit = 1 } ∷ []; faults = []; items = [] }

top_one : IsScriptOf (codes "top 1") one_top
unfolding evaluation one_top
top_one = refl

pub leaf_without_image : LeafWithoutImage
unfolding one_top
leaf_without_image = no_script (record { script = codes "top 1"; report = lines ("take" ∷ []); before = empty_leaf; after = written_leaf })
    (λ h. let is = same_script h.0 one_top (codes "top 1") h.1.accepted top_one in
    let have = subst (λ (s : Script). HaveImages empty_leaf s.tops) is h.1.images in absurd (one_below have.0.0))
  where
    one_below : 1 < 1 → ⊥
    one_below e = absurd (omega arith)

-- ---- report without bytes is yes

report_without_bytes_is_yes_script : IsScriptIn (of_read []) (script_of (write_item ∷ Go ∷ RequestLine (record { number = 2; work = Read (codes "x") SyncRead; under = None; canfail = true }) ∷ Go ∷ []))
unfolding evaluation
report_without_bytes_is_yes_script = record { accepted = refl; images = ((lit< tt, tt), tt) }

abbrev report_without_bytes_is_yes_journals : List RoundJournal
report_without_bytes_is_yes_journals = record { entries = (entry_in 1 1) ∷ []; order = 1 ∷ [] } ∷ record { entries = []; order = 2 ∷ [] } ∷ []

report_without_bytes_is_yes_read : IsReadAs (of_read []) (script_of (write_item ∷ Go ∷ RequestLine (record { number = 2; work = Read (codes "x") SyncRead; under = None; canfail = true }) ∷ Go ∷ [])) report_without_bytes_is_yes_journals
unfolding evaluation
report_without_bytes_is_yes_read = record { script_is = report_without_bytes_is_yes_script; spelled = record { before = refl; rounds = (record { entries = (line_is_take two_sectors 1 (codes "take 1 0 - body 512 1 0:1") (entry_in 1 1) refl, tt); orders = (1 ∷ []) ∷ []; order_lines = (line_is_order (codes "order 1") (1 ∷ []) refl, tt); order_is = refl }, (record { entries = tt; orders = (2 ∷ []) ∷ []; order_lines = (line_is_order (codes "order 2") (2 ∷ []) refl, tt); order_is = refl }, tt)) } }

report_without_bytes_is_yes_places : HasLawfulEntries (script_of (write_item ∷ Go ∷ RequestLine (record { number = 2; work = Read (codes "x") SyncRead; under = None; canfail = true }) ∷ Go ∷ [])) ((of_read [])).before (journal_spelled (script_of (write_item ∷ Go ∷ RequestLine (record { number = 2; work = Read (codes "x") SyncRead; under = None; canfail = true }) ∷ Go ∷ [])) ((of_read [])).before report_without_bytes_is_yes_journals)
unfolding evaluation
report_without_bytes_is_yes_places = record {
  of_rounds = (refl, tt);
  each = (
    record {
      distinct = (tt, tt);
      asked = ((0, lit< tt, refl), tt);
      answered = ((0, lit< tt, refl), tt);
      lawful = (
        record {
          found = lit≤ tt;
          copies = (record { fits = refl; inside = refl; free = refl; spread = λ e. absurd (true≢false (sym e)) }, tt);
          refused = λ few top run. absurd (omega arith);
        },
        tt,
      );
    },
    (record { distinct = tt; asked = tt; answered = tt; lawful = tt }, tt),
  );
}

report_without_bytes_is_yes_completions : HasCompletions (script_of (write_item ∷ Go ∷ RequestLine (record { number = 2; work = Read (codes "x") SyncRead; under = None; canfail = true }) ∷ Go ∷ [])) ((of_read [])).before (journal_spelled (script_of (write_item ∷ Go ∷ RequestLine (record { number = 2; work = Read (codes "x") SyncRead; under = None; canfail = true }) ∷ Go ∷ [])) ((of_read [])).before report_without_bytes_is_yes_journals)
unfolding evaluation
report_without_bytes_is_yes_completions = record {
  of_rounds = (refl, (refl, tt));
  each = (record { finished = ((0, lit< tt, refl), tt); all = ((0, lit< tt, refl), tt) }, (record { finished = ((0, lit< tt, refl), tt); all = ((0, lit< tt, refl), tt) }, tt));
  once = ((refl, tt), (tt, tt));
  after_children = ((refl, tt), (tt, tt));
}

report_without_bytes_is_yes_text : IsTextOf (script_of (write_item ∷ Go ∷ RequestLine (record { number = 2; work = Read (codes "x") SyncRead; under = None; canfail = true }) ∷ Go ∷ [])) ((of_read [])).before (journal_spelled (script_of (write_item ∷ Go ∷ RequestLine (record { number = 2; work = Read (codes "x") SyncRead; under = None; canfail = true }) ∷ Go ∷ [])) ((of_read [])).before report_without_bytes_is_yes_journals) ((of_read [])).report
unfolding evaluation
report_without_bytes_is_yes_text = record { bytes = false; text = refl }

report_without_bytes_is_yes_images : ((of_read [])).after ≡ (course_of (script_of (write_item ∷ Go ∷ RequestLine (record { number = 2; work = Read (codes "x") SyncRead; under = None; canfail = true }) ∷ Go ∷ [])) ((of_read [])).before (journal_spelled (script_of (write_item ∷ Go ∷ RequestLine (record { number = 2; work = Read (codes "x") SyncRead; under = None; canfail = true }) ∷ Go ∷ [])) ((of_read [])).before report_without_bytes_is_yes_journals)).state.images
unfolding evaluation
report_without_bytes_is_yes_images = refl

pub report_without_bytes_is_yes : ReportWithoutBytesIsYes
unfolding evaluation
report_without_bytes_is_yes = yes (of_read []) ((script_of (write_item ∷ Go ∷ RequestLine (record { number = 2; work = Read (codes "x") SyncRead; under = None; canfail = true }) ∷ Go ∷ [])), report_without_bytes_is_yes_script) (record { before = refl; each = (other_shaped (codes "pool 1 1") refl refl, (other_shaped (codes "round 1 batch 1 point 0") refl refl, (other_shaped (codes "1 write x ok 512") refl refl, (take_shaped two_sectors 1 (codes "take 1 0 - body 512 1 0:1") (entry_in 1 1) (line_is_take two_sectors 1 (codes "take 1 0 - body 512 1 0:1") (entry_in 1 1) refl) refl, (order_shaped (codes "order 1") (1 ∷ []) (line_is_order (codes "order 1") (1 ∷ []) refl) refl, (other_shaped (codes "round 2 batch 2 point 0") refl refl, (other_shaped (codes "2 read x ok 512 20a0a0a080:83878787040:16439b9b85580:2d92628254f020") refl refl, (order_shaped (codes "order 2") (2 ∷ []) (line_is_order (codes "order 2") (2 ∷ []) refl) refl, (other_shaped (codes "end 0") refl refl, tt))))))))) }) (record { script = (script_of (write_item ∷ Go ∷ RequestLine (record { number = 2; work = Read (codes "x") SyncRead; under = None; canfail = true }) ∷ Go ∷ [])); journals = report_without_bytes_is_yes_journals; read = report_without_bytes_is_yes_read; stands = report_without_bytes_is_yes_places }) (record { script = (script_of (write_item ∷ Go ∷ RequestLine (record { number = 2; work = Read (codes "x") SyncRead; under = None; canfail = true }) ∷ Go ∷ [])); journals = report_without_bytes_is_yes_journals; read = report_without_bytes_is_yes_read; stands = report_without_bytes_is_yes_completions }) (record { script = (script_of (write_item ∷ Go ∷ RequestLine (record { number = 2; work = Read (codes "x") SyncRead; under = None; canfail = true }) ∷ Go ∷ [])); journals = report_without_bytes_is_yes_journals; read = report_without_bytes_is_yes_read; stands = report_without_bytes_is_yes_text }) (record { script = (script_of (write_item ∷ Go ∷ RequestLine (record { number = 2; work = Read (codes "x") SyncRead; under = None; canfail = true }) ∷ Go ∷ [])); journals = report_without_bytes_is_yes_journals; read = report_without_bytes_is_yes_read; stands = report_without_bytes_is_yes_images })

-- ---- report with bytes is yes

report_with_bytes_is_yes_script : IsScriptIn (of_read (bytes_shown 1)) (script_of (write_item ∷ Go ∷ RequestLine (record { number = 2; work = Read (codes "x") SyncRead; under = None; canfail = true }) ∷ Go ∷ []))
unfolding evaluation
report_with_bytes_is_yes_script = record { accepted = refl; images = ((lit< tt, tt), tt) }

abbrev report_with_bytes_is_yes_journals : List RoundJournal
report_with_bytes_is_yes_journals = record { entries = (entry_in 1 1) ∷ []; order = 1 ∷ [] } ∷ record { entries = []; order = 2 ∷ [] } ∷ []

report_with_bytes_is_yes_read : IsReadAs (of_read (bytes_shown 1)) (script_of (write_item ∷ Go ∷ RequestLine (record { number = 2; work = Read (codes "x") SyncRead; under = None; canfail = true }) ∷ Go ∷ [])) report_with_bytes_is_yes_journals
unfolding evaluation
report_with_bytes_is_yes_read = record { script_is = report_with_bytes_is_yes_script; spelled = record { before = refl; rounds = (record { entries = (line_is_take two_sectors 1 (codes "take 1 0 - body 512 1 0:1") (entry_in 1 1) refl, tt); orders = (1 ∷ []) ∷ []; order_lines = (line_is_order (codes "order 1") (1 ∷ []) refl, tt); order_is = refl }, (record { entries = tt; orders = (2 ∷ []) ∷ []; order_lines = (line_is_order (codes "order 2") (2 ∷ []) refl, tt); order_is = refl }, tt)) } }

report_with_bytes_is_yes_places : HasLawfulEntries (script_of (write_item ∷ Go ∷ RequestLine (record { number = 2; work = Read (codes "x") SyncRead; under = None; canfail = true }) ∷ Go ∷ [])) ((of_read (bytes_shown 1))).before (journal_spelled (script_of (write_item ∷ Go ∷ RequestLine (record { number = 2; work = Read (codes "x") SyncRead; under = None; canfail = true }) ∷ Go ∷ [])) ((of_read (bytes_shown 1))).before report_with_bytes_is_yes_journals)
unfolding evaluation
report_with_bytes_is_yes_places = record {
  of_rounds = (refl, tt);
  each = (
    record {
      distinct = (tt, tt);
      asked = ((0, lit< tt, refl), tt);
      answered = ((0, lit< tt, refl), tt);
      lawful = (
        record {
          found = lit≤ tt;
          copies = (record { fits = refl; inside = refl; free = refl; spread = λ e. absurd (true≢false (sym e)) }, tt);
          refused = λ few top run. absurd (omega arith);
        },
        tt,
      );
    },
    (record { distinct = tt; asked = tt; answered = tt; lawful = tt }, tt),
  );
}

report_with_bytes_is_yes_completions : HasCompletions (script_of (write_item ∷ Go ∷ RequestLine (record { number = 2; work = Read (codes "x") SyncRead; under = None; canfail = true }) ∷ Go ∷ [])) ((of_read (bytes_shown 1))).before (journal_spelled (script_of (write_item ∷ Go ∷ RequestLine (record { number = 2; work = Read (codes "x") SyncRead; under = None; canfail = true }) ∷ Go ∷ [])) ((of_read (bytes_shown 1))).before report_with_bytes_is_yes_journals)
unfolding evaluation
report_with_bytes_is_yes_completions = record {
  of_rounds = (refl, (refl, tt));
  each = (record { finished = ((0, lit< tt, refl), tt); all = ((0, lit< tt, refl), tt) }, (record { finished = ((0, lit< tt, refl), tt); all = ((0, lit< tt, refl), tt) }, tt));
  once = ((refl, tt), (tt, tt));
  after_children = ((refl, tt), (tt, tt));
}

report_with_bytes_is_yes_text : IsTextOf (script_of (write_item ∷ Go ∷ RequestLine (record { number = 2; work = Read (codes "x") SyncRead; under = None; canfail = true }) ∷ Go ∷ [])) ((of_read (bytes_shown 1))).before (journal_spelled (script_of (write_item ∷ Go ∷ RequestLine (record { number = 2; work = Read (codes "x") SyncRead; under = None; canfail = true }) ∷ Go ∷ [])) ((of_read (bytes_shown 1))).before report_with_bytes_is_yes_journals) ((of_read (bytes_shown 1))).report
unfolding evaluation
report_with_bytes_is_yes_text = record { bytes = true; text = refl }

report_with_bytes_is_yes_images : ((of_read (bytes_shown 1))).after ≡ (course_of (script_of (write_item ∷ Go ∷ RequestLine (record { number = 2; work = Read (codes "x") SyncRead; under = None; canfail = true }) ∷ Go ∷ [])) ((of_read (bytes_shown 1))).before (journal_spelled (script_of (write_item ∷ Go ∷ RequestLine (record { number = 2; work = Read (codes "x") SyncRead; under = None; canfail = true }) ∷ Go ∷ [])) ((of_read (bytes_shown 1))).before report_with_bytes_is_yes_journals)).state.images
unfolding evaluation
report_with_bytes_is_yes_images = refl

pub report_with_bytes_is_yes : ReportWithBytesIsYes
unfolding evaluation
report_with_bytes_is_yes = yes (of_read (bytes_shown 1)) ((script_of (write_item ∷ Go ∷ RequestLine (record { number = 2; work = Read (codes "x") SyncRead; under = None; canfail = true }) ∷ Go ∷ [])), report_with_bytes_is_yes_script) (record { before = refl; each = (other_shaped (codes "pool 1 1") refl refl, (other_shaped (codes "round 1 batch 1 point 0") refl refl, (other_shaped (codes "1 write x ok 512") refl refl, (take_shaped two_sectors 1 (codes "take 1 0 - body 512 1 0:1") (entry_in 1 1) (line_is_take two_sectors 1 (codes "take 1 0 - body 512 1 0:1") (entry_in 1 1) refl) refl, (order_shaped (codes "order 1") (1 ∷ []) (line_is_order (codes "order 1") (1 ∷ []) refl) refl, (other_shaped (codes "round 2 batch 2 point 0") refl refl, (other_shaped (codes "2 read x ok 512 20a0a0a080:83878787040:16439b9b85580:2d92628254f020" ++ bytes_shown 1) refl refl, (order_shaped (codes "order 2") (2 ∷ []) (line_is_order (codes "order 2") (2 ∷ []) refl) refl, (other_shaped (codes "end 0") refl refl, tt))))))))) }) (record { script = (script_of (write_item ∷ Go ∷ RequestLine (record { number = 2; work = Read (codes "x") SyncRead; under = None; canfail = true }) ∷ Go ∷ [])); journals = report_with_bytes_is_yes_journals; read = report_with_bytes_is_yes_read; stands = report_with_bytes_is_yes_places }) (record { script = (script_of (write_item ∷ Go ∷ RequestLine (record { number = 2; work = Read (codes "x") SyncRead; under = None; canfail = true }) ∷ Go ∷ [])); journals = report_with_bytes_is_yes_journals; read = report_with_bytes_is_yes_read; stands = report_with_bytes_is_yes_completions }) (record { script = (script_of (write_item ∷ Go ∷ RequestLine (record { number = 2; work = Read (codes "x") SyncRead; under = None; canfail = true }) ∷ Go ∷ [])); journals = report_with_bytes_is_yes_journals; read = report_with_bytes_is_yes_read; stands = report_with_bytes_is_yes_text }) (record { script = (script_of (write_item ∷ Go ∷ RequestLine (record { number = 2; work = Read (codes "x") SyncRead; under = None; canfail = true }) ∷ Go ∷ [])); journals = report_with_bytes_is_yes_journals; read = report_with_bytes_is_yes_read; stands = report_with_bytes_is_yes_images })

-- ---- child comes first

child_comes_first_script : IsScriptIn (of_family "order 2 1") (script_of (RequestLine (record { number = 1; work = Null; under = None; canfail = false }) ∷ RequestLine (record { number = 2; work = Null; under = Some 1; canfail = false }) ∷ Go ∷ []))
unfolding evaluation
child_comes_first_script = record { accepted = refl; images = ((lit< tt, tt), tt) }

abbrev child_comes_first_journals : List RoundJournal
child_comes_first_journals = record { entries = []; order = 2 ∷ 1 ∷ [] } ∷ []

child_comes_first_read : IsReadAs (of_family "order 2 1") (script_of (RequestLine (record { number = 1; work = Null; under = None; canfail = false }) ∷ RequestLine (record { number = 2; work = Null; under = Some 1; canfail = false }) ∷ Go ∷ [])) child_comes_first_journals
unfolding evaluation
child_comes_first_read = record { script_is = child_comes_first_script; spelled = record { before = refl; rounds = (record { entries = tt; orders = (2 ∷ 1 ∷ []) ∷ []; order_lines = (line_is_order (codes "order 2 1") (2 ∷ 1 ∷ []) refl, tt); order_is = refl }, tt) } }

child_comes_first_places : HasLawfulEntries (script_of (RequestLine (record { number = 1; work = Null; under = None; canfail = false }) ∷ RequestLine (record { number = 2; work = Null; under = Some 1; canfail = false }) ∷ Go ∷ [])) ((of_family "order 2 1")).before (journal_spelled (script_of (RequestLine (record { number = 1; work = Null; under = None; canfail = false }) ∷ RequestLine (record { number = 2; work = Null; under = Some 1; canfail = false }) ∷ Go ∷ [])) ((of_family "order 2 1")).before child_comes_first_journals)
unfolding evaluation
child_comes_first_places = record { of_rounds = tt; each = (record { distinct = tt; asked = tt; answered = tt; lawful = tt }, tt) }

child_comes_first_completions : HasCompletions (script_of (RequestLine (record { number = 1; work = Null; under = None; canfail = false }) ∷ RequestLine (record { number = 2; work = Null; under = Some 1; canfail = false }) ∷ Go ∷ [])) ((of_family "order 2 1")).before (journal_spelled (script_of (RequestLine (record { number = 1; work = Null; under = None; canfail = false }) ∷ RequestLine (record { number = 2; work = Null; under = Some 1; canfail = false }) ∷ Go ∷ [])) ((of_family "order 2 1")).before child_comes_first_journals)
unfolding evaluation
child_comes_first_completions = record {
  of_rounds = (refl, (refl, tt));
  each = (record { finished = ((0, lit< tt, refl), ((1, lit< tt, refl), tt)); all = ((0, lit< tt, refl), ((1, lit< tt, refl), tt)) }, tt);
  once = ((refl, tt), (tt, tt));
  after_children = ((refl, tt), (tt, tt));
}

child_comes_first_text : IsTextOf (script_of (RequestLine (record { number = 1; work = Null; under = None; canfail = false }) ∷ RequestLine (record { number = 2; work = Null; under = Some 1; canfail = false }) ∷ Go ∷ [])) ((of_family "order 2 1")).before (journal_spelled (script_of (RequestLine (record { number = 1; work = Null; under = None; canfail = false }) ∷ RequestLine (record { number = 2; work = Null; under = Some 1; canfail = false }) ∷ Go ∷ [])) ((of_family "order 2 1")).before child_comes_first_journals) ((of_family "order 2 1")).report
unfolding evaluation
child_comes_first_text = record { bytes = false; text = refl }

child_comes_first_images : ((of_family "order 2 1")).after ≡ (course_of (script_of (RequestLine (record { number = 1; work = Null; under = None; canfail = false }) ∷ RequestLine (record { number = 2; work = Null; under = Some 1; canfail = false }) ∷ Go ∷ [])) ((of_family "order 2 1")).before (journal_spelled (script_of (RequestLine (record { number = 1; work = Null; under = None; canfail = false }) ∷ RequestLine (record { number = 2; work = Null; under = Some 1; canfail = false }) ∷ Go ∷ [])) ((of_family "order 2 1")).before child_comes_first_journals)).state.images
unfolding evaluation
child_comes_first_images = refl

pub child_comes_first : ChildComesFirst
unfolding evaluation
child_comes_first = yes (of_family "order 2 1") ((script_of (RequestLine (record { number = 1; work = Null; under = None; canfail = false }) ∷ RequestLine (record { number = 2; work = Null; under = Some 1; canfail = false }) ∷ Go ∷ [])), child_comes_first_script) (record { before = refl; each = (other_shaped (codes "pool 1 1") refl refl, (other_shaped (codes "round 1 batch 1 point 0") refl refl, (other_shaped (codes "1 null ok") refl refl, (other_shaped (codes "2 null ok") refl refl, (order_shaped (codes "order 2 1") (2 ∷ 1 ∷ []) (line_is_order (codes "order 2 1") (2 ∷ 1 ∷ []) refl) refl, (other_shaped (codes "end 0") refl refl, tt)))))) }) (record { script = (script_of (RequestLine (record { number = 1; work = Null; under = None; canfail = false }) ∷ RequestLine (record { number = 2; work = Null; under = Some 1; canfail = false }) ∷ Go ∷ [])); journals = child_comes_first_journals; read = child_comes_first_read; stands = child_comes_first_places }) (record { script = (script_of (RequestLine (record { number = 1; work = Null; under = None; canfail = false }) ∷ RequestLine (record { number = 2; work = Null; under = Some 1; canfail = false }) ∷ Go ∷ [])); journals = child_comes_first_journals; read = child_comes_first_read; stands = child_comes_first_completions }) (record { script = (script_of (RequestLine (record { number = 1; work = Null; under = None; canfail = false }) ∷ RequestLine (record { number = 2; work = Null; under = Some 1; canfail = false }) ∷ Go ∷ [])); journals = child_comes_first_journals; read = child_comes_first_read; stands = child_comes_first_text }) (record { script = (script_of (RequestLine (record { number = 1; work = Null; under = None; canfail = false }) ∷ RequestLine (record { number = 2; work = Null; under = Some 1; canfail = false }) ∷ Go ∷ [])); journals = child_comes_first_journals; read = child_comes_first_read; stands = child_comes_first_images })

-- ---- parent before child

parent_before_child_script : IsScriptIn (of_family "order 1 2") (script_of (RequestLine (record { number = 1; work = Null; under = None; canfail = false }) ∷ RequestLine (record { number = 2; work = Null; under = Some 1; canfail = false }) ∷ Go ∷ []))
unfolding evaluation
parent_before_child_script = record { accepted = refl; images = ((lit< tt, tt), tt) }

abbrev parent_before_child_journals : List RoundJournal
parent_before_child_journals = record { entries = []; order = 1 ∷ 2 ∷ [] } ∷ []

parent_before_child_read : IsReadAs (of_family "order 1 2") (script_of (RequestLine (record { number = 1; work = Null; under = None; canfail = false }) ∷ RequestLine (record { number = 2; work = Null; under = Some 1; canfail = false }) ∷ Go ∷ [])) parent_before_child_journals
unfolding evaluation
parent_before_child_read = record { script_is = parent_before_child_script; spelled = record { before = refl; rounds = (record { entries = tt; orders = (1 ∷ 2 ∷ []) ∷ []; order_lines = (line_is_order (codes "order 1 2") (1 ∷ 2 ∷ []) refl, tt); order_is = refl }, tt) } }

parent_before_child_places : HasLawfulEntries (script_of (RequestLine (record { number = 1; work = Null; under = None; canfail = false }) ∷ RequestLine (record { number = 2; work = Null; under = Some 1; canfail = false }) ∷ Go ∷ [])) ((of_family "order 1 2")).before (journal_spelled (script_of (RequestLine (record { number = 1; work = Null; under = None; canfail = false }) ∷ RequestLine (record { number = 2; work = Null; under = Some 1; canfail = false }) ∷ Go ∷ [])) ((of_family "order 1 2")).before parent_before_child_journals)
unfolding evaluation
parent_before_child_places = record { of_rounds = tt; each = (record { distinct = tt; asked = tt; answered = tt; lawful = tt }, tt) }

pub parent_before_child : ParentBeforeChild
unfolding evaluation
parent_before_child = no_completions (of_family "order 1 2") ((script_of (RequestLine (record { number = 1; work = Null; under = None; canfail = false }) ∷ RequestLine (record { number = 2; work = Null; under = Some 1; canfail = false }) ∷ Go ∷ [])), parent_before_child_script) (record { before = refl; each = (other_shaped (codes "pool 1 1") refl refl, (other_shaped (codes "round 1 batch 1 point 0") refl refl, (other_shaped (codes "1 null ok") refl refl, (other_shaped (codes "2 null ok") refl refl, (order_shaped (codes "order 1 2") (1 ∷ 2 ∷ []) (line_is_order (codes "order 1 2") (1 ∷ 2 ∷ []) refl) refl, (other_shaped (codes "end 0") refl refl, tt)))))) }) (record { script = (script_of (RequestLine (record { number = 1; work = Null; under = None; canfail = false }) ∷ RequestLine (record { number = 2; work = Null; under = Some 1; canfail = false }) ∷ Go ∷ [])); journals = parent_before_child_journals; read = parent_before_child_read; stands = parent_before_child_places }) (fails (of_family "order 1 2") (script_of (RequestLine (record { number = 1; work = Null; under = None; canfail = false }) ∷ RequestLine (record { number = 2; work = Null; under = Some 1; canfail = false }) ∷ Go ∷ [])) parent_before_child_journals HasCompletions parent_before_child_read (λ h. true≢false h.after_children.0.0))

-- ---- completes twice

completes_twice_script : IsScriptIn (of_family "order 2 2 1") (script_of (RequestLine (record { number = 1; work = Null; under = None; canfail = false }) ∷ RequestLine (record { number = 2; work = Null; under = Some 1; canfail = false }) ∷ Go ∷ []))
unfolding evaluation
completes_twice_script = record { accepted = refl; images = ((lit< tt, tt), tt) }

abbrev completes_twice_journals : List RoundJournal
completes_twice_journals = record { entries = []; order = 2 ∷ 2 ∷ 1 ∷ [] } ∷ []

completes_twice_read : IsReadAs (of_family "order 2 2 1") (script_of (RequestLine (record { number = 1; work = Null; under = None; canfail = false }) ∷ RequestLine (record { number = 2; work = Null; under = Some 1; canfail = false }) ∷ Go ∷ [])) completes_twice_journals
unfolding evaluation
completes_twice_read = record { script_is = completes_twice_script; spelled = record { before = refl; rounds = (record { entries = tt; orders = (2 ∷ 2 ∷ 1 ∷ []) ∷ []; order_lines = (line_is_order (codes "order 2 2 1") (2 ∷ 2 ∷ 1 ∷ []) refl, tt); order_is = refl }, tt) } }

completes_twice_places : HasLawfulEntries (script_of (RequestLine (record { number = 1; work = Null; under = None; canfail = false }) ∷ RequestLine (record { number = 2; work = Null; under = Some 1; canfail = false }) ∷ Go ∷ [])) ((of_family "order 2 2 1")).before (journal_spelled (script_of (RequestLine (record { number = 1; work = Null; under = None; canfail = false }) ∷ RequestLine (record { number = 2; work = Null; under = Some 1; canfail = false }) ∷ Go ∷ [])) ((of_family "order 2 2 1")).before completes_twice_journals)
unfolding evaluation
completes_twice_places = record { of_rounds = tt; each = (record { distinct = tt; asked = tt; answered = tt; lawful = tt }, tt) }

pub completes_twice : CompletesTwice
unfolding evaluation
completes_twice = no_completions (of_family "order 2 2 1") ((script_of (RequestLine (record { number = 1; work = Null; under = None; canfail = false }) ∷ RequestLine (record { number = 2; work = Null; under = Some 1; canfail = false }) ∷ Go ∷ [])), completes_twice_script) (record { before = refl; each = (other_shaped (codes "pool 1 1") refl refl, (other_shaped (codes "round 1 batch 1 point 0") refl refl, (other_shaped (codes "1 null ok") refl refl, (other_shaped (codes "2 null ok") refl refl, (order_shaped (codes "order 2 2 1") (2 ∷ 2 ∷ 1 ∷ []) (line_is_order (codes "order 2 2 1") (2 ∷ 2 ∷ 1 ∷ []) refl) refl, (other_shaped (codes "end 0") refl refl, tt)))))) }) (record { script = (script_of (RequestLine (record { number = 1; work = Null; under = None; canfail = false }) ∷ RequestLine (record { number = 2; work = Null; under = Some 1; canfail = false }) ∷ Go ∷ [])); journals = completes_twice_journals; read = completes_twice_read; stands = completes_twice_places }) (fails (of_family "order 2 2 1") (script_of (RequestLine (record { number = 1; work = Null; under = None; canfail = false }) ∷ RequestLine (record { number = 2; work = Null; under = Some 1; canfail = false }) ∷ Go ∷ [])) completes_twice_journals HasCompletions completes_twice_read (λ h. true≢false h.once.0.0))

-- ---- other bytes are no

other_bytes_are_no_script : IsScriptIn (of_read (bytes_shown 1 ++ codes "41")) (script_of (write_item ∷ Go ∷ RequestLine (record { number = 2; work = Read (codes "x") SyncRead; under = None; canfail = true }) ∷ Go ∷ []))
unfolding evaluation
other_bytes_are_no_script = record { accepted = refl; images = ((lit< tt, tt), tt) }

abbrev other_bytes_are_no_journals : List RoundJournal
other_bytes_are_no_journals = record { entries = (entry_in 1 1) ∷ []; order = 1 ∷ [] } ∷ record { entries = []; order = 2 ∷ [] } ∷ []

other_bytes_are_no_read : IsReadAs (of_read (bytes_shown 1 ++ codes "41")) (script_of (write_item ∷ Go ∷ RequestLine (record { number = 2; work = Read (codes "x") SyncRead; under = None; canfail = true }) ∷ Go ∷ [])) other_bytes_are_no_journals
unfolding evaluation
other_bytes_are_no_read = record { script_is = other_bytes_are_no_script; spelled = record { before = refl; rounds = (record { entries = (line_is_take two_sectors 1 (codes "take 1 0 - body 512 1 0:1") (entry_in 1 1) refl, tt); orders = (1 ∷ []) ∷ []; order_lines = (line_is_order (codes "order 1") (1 ∷ []) refl, tt); order_is = refl }, (record { entries = tt; orders = (2 ∷ []) ∷ []; order_lines = (line_is_order (codes "order 2") (2 ∷ []) refl, tt); order_is = refl }, tt)) } }

other_bytes_are_no_places : HasLawfulEntries (script_of (write_item ∷ Go ∷ RequestLine (record { number = 2; work = Read (codes "x") SyncRead; under = None; canfail = true }) ∷ Go ∷ [])) ((of_read (bytes_shown 1 ++ codes "41"))).before (journal_spelled (script_of (write_item ∷ Go ∷ RequestLine (record { number = 2; work = Read (codes "x") SyncRead; under = None; canfail = true }) ∷ Go ∷ [])) ((of_read (bytes_shown 1 ++ codes "41"))).before other_bytes_are_no_journals)
unfolding evaluation
other_bytes_are_no_places = record {
  of_rounds = (refl, tt);
  each = (
    record {
      distinct = (tt, tt);
      asked = ((0, lit< tt, refl), tt);
      answered = ((0, lit< tt, refl), tt);
      lawful = (
        record {
          found = lit≤ tt;
          copies = (record { fits = refl; inside = refl; free = refl; spread = λ e. absurd (true≢false (sym e)) }, tt);
          refused = λ few top run. absurd (omega arith);
        },
        tt,
      );
    },
    (record { distinct = tt; asked = tt; answered = tt; lawful = tt }, tt),
  );
}

other_bytes_are_no_completions : HasCompletions (script_of (write_item ∷ Go ∷ RequestLine (record { number = 2; work = Read (codes "x") SyncRead; under = None; canfail = true }) ∷ Go ∷ [])) ((of_read (bytes_shown 1 ++ codes "41"))).before (journal_spelled (script_of (write_item ∷ Go ∷ RequestLine (record { number = 2; work = Read (codes "x") SyncRead; under = None; canfail = true }) ∷ Go ∷ [])) ((of_read (bytes_shown 1 ++ codes "41"))).before other_bytes_are_no_journals)
unfolding evaluation
other_bytes_are_no_completions = record {
  of_rounds = (refl, (refl, tt));
  each = (record { finished = ((0, lit< tt, refl), tt); all = ((0, lit< tt, refl), tt) }, (record { finished = ((0, lit< tt, refl), tt); all = ((0, lit< tt, refl), tt) }, tt));
  once = ((refl, tt), (tt, tt));
  after_children = ((refl, tt), (tt, tt));
}

other_bytes : (bytes : Bool) → ((of_read (bytes_shown 1 ++ codes "41"))).report ≡ run_text (Report true bytes) (run_size_of (script_of (write_item ∷ Go ∷ RequestLine (record { number = 2; work = Read (codes "x") SyncRead; under = None; canfail = true }) ∷ Go ∷ [])) ((of_read (bytes_shown 1 ++ codes "41"))).before) (records_of (journal_spelled (script_of (write_item ∷ Go ∷ RequestLine (record { number = 2; work = Read (codes "x") SyncRead; under = None; canfail = true }) ∷ Go ∷ [])) ((of_read (bytes_shown 1 ++ codes "41"))).before other_bytes_are_no_journals)) (course_of (script_of (write_item ∷ Go ∷ RequestLine (record { number = 2; work = Read (codes "x") SyncRead; under = None; canfail = true }) ∷ Go ∷ [])) ((of_read (bytes_shown 1 ++ codes "41"))).before (journal_spelled (script_of (write_item ∷ Go ∷ RequestLine (record { number = 2; work = Read (codes "x") SyncRead; under = None; canfail = true }) ∷ Go ∷ [])) ((of_read (bytes_shown 1 ++ codes "41"))).before other_bytes_are_no_journals)).events (ending (course_of (script_of (write_item ∷ Go ∷ RequestLine (record { number = 2; work = Read (codes "x") SyncRead; under = None; canfail = true }) ∷ Go ∷ [])) ((of_read (bytes_shown 1 ++ codes "41"))).before (journal_spelled (script_of (write_item ∷ Go ∷ RequestLine (record { number = 2; work = Read (codes "x") SyncRead; under = None; canfail = true }) ∷ Go ∷ [])) ((of_read (bytes_shown 1 ++ codes "41"))).before other_bytes_are_no_journals)).state) → ⊥
unfolding evaluation
other_bytes false is = true≢false (sym (ap (λ (t : List ℕ). get_or t 175 0 == 10) is))
other_bytes true is = true≢false (sym (ap (λ (t : List ℕ). get_or t 1205 0 == 10) is))

pub other_bytes_are_no : OtherBytesAreNo
unfolding evaluation
other_bytes_are_no = no_text (of_read (bytes_shown 1 ++ codes "41")) ((script_of (write_item ∷ Go ∷ RequestLine (record { number = 2; work = Read (codes "x") SyncRead; under = None; canfail = true }) ∷ Go ∷ [])), other_bytes_are_no_script) (record { before = refl; each = (other_shaped (codes "pool 1 1") refl refl, (other_shaped (codes "round 1 batch 1 point 0") refl refl, (other_shaped (codes "1 write x ok 512") refl refl, (take_shaped two_sectors 1 (codes "take 1 0 - body 512 1 0:1") (entry_in 1 1) (line_is_take two_sectors 1 (codes "take 1 0 - body 512 1 0:1") (entry_in 1 1) refl) refl, (order_shaped (codes "order 1") (1 ∷ []) (line_is_order (codes "order 1") (1 ∷ []) refl) refl, (other_shaped (codes "round 2 batch 2 point 0") refl refl, (other_shaped (codes "2 read x ok 512 20a0a0a080:83878787040:16439b9b85580:2d92628254f020" ++ (bytes_shown 1 ++ codes "41")) refl refl, (order_shaped (codes "order 2") (2 ∷ []) (line_is_order (codes "order 2") (2 ∷ []) refl) refl, (other_shaped (codes "end 0") refl refl, tt))))))))) }) (record { script = (script_of (write_item ∷ Go ∷ RequestLine (record { number = 2; work = Read (codes "x") SyncRead; under = None; canfail = true }) ∷ Go ∷ [])); journals = other_bytes_are_no_journals; read = other_bytes_are_no_read; stands = other_bytes_are_no_places }) (record { script = (script_of (write_item ∷ Go ∷ RequestLine (record { number = 2; work = Read (codes "x") SyncRead; under = None; canfail = true }) ∷ Go ∷ [])); journals = other_bytes_are_no_journals; read = other_bytes_are_no_read; stands = other_bytes_are_no_completions }) (fails (of_read (bytes_shown 1 ++ codes "41")) (script_of (write_item ∷ Go ∷ RequestLine (record { number = 2; work = Read (codes "x") SyncRead; under = None; canfail = true }) ∷ Go ∷ [])) other_bytes_are_no_journals (λ script images j. IsTextOf script images j ((of_read (bytes_shown 1 ++ codes "41"))).report) other_bytes_are_no_read (λ h. other_bytes h.bytes h.text))
