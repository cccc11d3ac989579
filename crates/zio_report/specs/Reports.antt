-- The text of a whole run. docs/FORMATS.md, "Report".
use Rattle.std.specs.Prelude.{ℕ, ◌-◌, List, [], ◌++◌, length, map, filter, sum_by, Option, Some, None, is_none, is_some, decimal, codes}
use Rattle.std.specs.List.{flat_map}
use Rattle.zio_types.specs.declared.error.Errno.{Errno}
use Rattle.zio_types.specs.declared.journal.Completion.{Completion}
use Rattle.zio_types.specs.declared.request.Kind.{Kind}
use Rattle.zio_types.specs.declared.request.Kind.TheVariants.{Null, Read, Write, Free, Claim}
use Rattle.zio_types.specs.Choices.{Choice}
use Rattle.zio_script.specs.Requests.{kind_of, name_of}
use Rattle.zio_gang.specs.declared.ending.Ending.{Ending}
use Rattle.zio_gang.specs.declared.ending.Ending.TheVariants.{Complete, Panic, Left}
use Rattle.zio_gang.specs.declared.tree.Tree.{Tree}
use Rattle.zio_gang.specs.Attempts.{Ended, Pending}
use Rattle.zio_gang.specs.ByNumber.{merge_by}
use Rattle.zio_gang.specs.Journals.{choices_in, completions_in}
use Rattle.zio_gang.specs.Runs.{Event, Round, rounds_of}
use Rattle.zio_gang.specs.Runs.Event.{RanRound, HeldBatch}
use Rattle.zio_report.specs.declared.report.ReportLine.{ReportLine}
use Rattle.zio_report.specs.declared.report.LineResult.{LineResult}
use Rattle.zio_report.specs.declared.report.LineResult.TheVariants.{Suspended, Failed, Done, Sized, Bytes}
use Rattle.zio_report.specs.declared.report.RoundHead.{RoundHead}
use Rattle.zio_report.specs.declared.report.Show.{Show}
use Rattle.zio_report.specs.declared.report.Show.TheVariants.{Report, Summary}
use Rattle.zio_report.specs.Lines.{as_line, round_text}

-- ---- the lines of a round

-- the size of the block that a write made
abbrev pub sized_by : Option Tree → LineResult
sized_by None = Done
sized_by (Some tree) = Sized tree.bp.size

-- what is shown of a request that finished without error
abbrev pub good_result : Kind → Ended → LineResult
good_result Null e = Done
good_result Read e = Bytes e.bytes
good_result Write e = sized_by e.tree
good_result Free e = Done
good_result Claim e = Done

-- what is shown of a request that finished: its error, or what it has to tell
abbrev pub result_with : Option Errno → Ended → LineResult
result_with None e = good_result (kind_of e.request.work) e
result_with (Some error) e = Failed error

-- the line of a request that finished
abbrev pub line_of_ended : Ended → ReportLine
line_of_ended e = record {
  number = e.request.number;
  kind = kind_of e.request.work;
  name = name_of e.request.work;
  result = result_with e.error e;
}

-- the line of a request that is left
abbrev pub line_of_pending : Pending → ReportLine
line_of_pending p = record {
  number = p.request.number;
  kind = kind_of p.request.work;
  name = name_of p.request.work;
  result = Suspended;
}

-- lines in the order of their requests' numbers
abbrev pub by_number : List ReportLine → List ReportLine
by_number lines = merge_by (λ (l : ReportLine). l.number) lines []

-- every request that was in the round, by number: those that finished in it, and those that are left of its trees
abbrev pub lines_of : Round → List ReportLine
lines_of round = by_number (map line_of_ended round.ended ++ flat_map (map line_of_pending) round.left)

-- what the head of a round tells
abbrev pub head_of : Round → RoundHead
head_of round = record { round = round.number; batch = round.batch; point = round.point }

-- ---- the report

-- the first line: how many tops and images there are
abbrev pub pool_text : ℕ → ℕ → List ℕ
pool_text tops images = as_line (codes "pool " ++ decimal tops ++ codes " " ++ decimal images)

-- the line of a held batch
abbrev pub held_text : ℕ → List ℕ
held_text batch = as_line (codes "held " ++ decimal batch)

-- the code of an ending, which is also the program's status
abbrev pub end_code : Ending → ℕ
end_code Complete = 0
end_code Panic = 4
end_code Left = 9

-- the last line
abbrev pub end_text : Ending → List ℕ
end_text ending = as_line (codes "end " ++ decimal (end_code ending))

-- what a journal holds, without the number of its rounds
pub record Records : Type 0 where
  pub choices : List Choice
  pub completions : List Completion

-- the text of a round or of a held batch
abbrev pub event_text : Show → Records → Event → List ℕ
event_text show j (RanRound round) =
    round_text show (head_of round) (lines_of round) (choices_in round.number j.choices) (completions_in round.number j.completions)
event_text show j (HeldBatch batch) = held_text batch

-- ---- the summary

-- all requests that finished
abbrev pub all_ended : List Event → List Ended
all_ended events = flat_map (λ (round : Round). round.ended) (rounds_of events)

-- those without error
abbrev pub good_ended : List Event → List Ended
good_ended events = filter (λ (e : Ended). is_none e.error) (all_ended events)

-- those with an error
abbrev pub bad_ended : List Event → List Ended
bad_ended events = filter (λ (e : Ended). is_some e.error) (all_ended events)

-- the script's requests, those that finished without and with an error, those that didn't complete, and the bytes of
-- the reads without error
abbrev pub summary_text : ℕ → List Event → Ending → List ℕ
summary_text requests events ending =
    as_line (codes "requests " ++ decimal requests)
    ++ as_line (codes "ok " ++ decimal (length (good_ended events)))
    ++ as_line (codes "failed " ++ decimal (length (bad_ended events)))
    ++ as_line (codes "left " ++ decimal (requests - length (all_ended events)))
    ++ as_line (codes "read " ++ decimal (sum_by (λ (e : Ended). length e.bytes) (good_ended events)))
    ++ end_text ending

-- ---- the whole text

-- what the text of a run is about: how many tops, images and requests there are
pub record RunSize : Type 0 where
  pub tops : ℕ
  pub images : ℕ
  pub requests : ℕ

-- the text up to the end line: the pool, and each round and held batch in turn
abbrev pub text_so_far : Show → RunSize → Records → List Event → List ℕ
text_so_far (Report journal bytes) n j events = pool_text n.tops n.images ++ flat_map (event_text (Report journal bytes) j) events
text_so_far Summary n j events = []

-- the whole text of a run
abbrev pub run_text : Show → RunSize → Records → List Event → Ending → List ℕ
run_text (Report journal bytes) n j events ending = text_so_far (Report journal bytes) n j events ++ end_text ending
run_text Summary n j events ending = summary_text n.requests events ending
