-- The next round of a course, and what is known beside it.
use Rattle.std.specs.Prelude.{◌≡◌, ℕ, List, Option, Contains, count_by}
use Rattle.std.specs.List.{AllByRecursion}
use Rattle.zio_types.specs.declared.journal.Completion.{Completion}
use Rattle.zio_types.specs.Choices.{Choice}
use Rattle.zio_types.specs.Places.{SamePlaces}
use Rattle.zio_script.specs.declared.script.Failmode.{Failmode}
use Rattle.zio_script.specs.declared.script.Request.{Request}
use Rattle.zio_script.specs.Accepted.{AreRising}
use Rattle.zio_cksum.specs.Images.{Images}
use Rattle.zio_gang.specs.declared.tree.Tree.{Tree}
use Rattle.zio_gang.specs.Attempts.{Pending}
use Rattle.zio_gang.specs.Journals.{AreChoicesOf, AreCompletionsOf}
use Rattle.zio_gang.specs.Rounds.{block_of, used_places}
use Rattle.zio_gang.specs.Runs.{Plan, Round, State}
use Rattle.zio_gang.specs.Trees.{sizes_of}
use Rattle.zio_report.specs.declared.report.ReportLine.{ReportLine}
use Rattle.zio_report.specs.Reports.{head_of, lines_of}
use Rattle.zio_course.specs.Names.{named_in}
use Rattle.zio_course.specs.Runners.{Standing, is_numbered, numbers_of, requests_in}

-- The requests of suspended trees, by number: none more and none less.
pub record AreUnfinished (suspended : List (List Pending)) (unfinished : List Request) : Type 0 where
  pub rising : AreRising unfinished
  pub among : AllByRecursion (Contains unfinished) (requests_in suspended)
  pub each : (n : ℕ) → count_by (is_numbered n) (numbers_of (requests_in suspended)) ≡ count_by (is_numbered n) (numbers_of unfinished)

-- a plan has the tops and the fault table of a runner
pub record IsPlanOf (s : Standing) (failmode : Failmode) (plan : Plan) : Type 0 where
  pub tops : plan.tops ≡ s.tops
  pub rows : plan.rows ≡ s.rows
  pub failmode_is : plan.failmode ≡ failmode

-- A course's state is what is known of a runner, of the bound names and of what is suspended.
pub record IsAt (s : Standing) (bound : List (List ℕ × Tree)) (suspended : List (List Pending)) (rounds point : ℕ) (images : Images) (st : State) : Type 0 where
  pub names : (name : List ℕ) → block_of st.bound name ≡ named_in bound name
  pub used : SamePlaces (used_places st.bound) s.live
  pub suspended_is : st.suspended ≡ suspended
  pub rounds_is : st.rounds ≡ rounds
  pub point_is : st.point ≡ point
  pub images_are : st.images ≡ images

-- A round of a course has this number, these lines, what is left of its trees, these images and bound names after it, and
-- these are its choices and completions.
pub record IsNextRound (s : Standing) (number point : ℕ) (batch : Option ℕ) (lines : List ReportLine) (choices : List Choice) (done : List Completion) (left : List (List Pending)) (after : Images) (bound : List (List ℕ × Tree)) (round : Round) : Type 0 where
  pub head : head_of round ≡ record { round = number; batch = batch; point = point }
  pub lines_are : lines_of round ≡ lines
  pub left_is : round.left ≡ left
  pub images_are : round.images ≡ after
  pub names : (name : List ℕ) → block_of round.bound name ≡ named_in bound name
  pub choices_are : AreChoicesOf (sizes_of s.tops) round.used round.asks choices
  pub completions_are : AreCompletionsOf round.number round.ended done
