-- A whole round in the journal.
use Rattle.std.specs.Prelude.{◌≡◌, ℕ, ◌+◌, ◌⊎◌, List, ◌++◌, map, reverse, Option, false}
use Rattle.zio_types.specs.declared.error.Errno.{Errno}
use Rattle.zio_types.specs.declared.journal.Completion.{Completion}
use Rattle.zio_types.specs.declared.journal.Journal.{Journal}
use Rattle.zio_script.specs.declared.script.Request.{Request}
use Rattle.zio_cksum.specs.Images.{Images}
use Rattle.zio_gang.specs.declared.tree.Tree.{Tree}
use Rattle.zio_gang.specs.Attempts.{Pending, Terms}
use Rattle.zio_gang.specs.Rounds.{block_of, bound_after}
use Rattle.zio_report.specs.declared.report.ReportLine.{ReportLine}
use Rattle.zio_course.specs.declared.runner.RequestEnd.{RequestEnd}
use Rattle.zio_course.specs.declared.runner.Stop.{Stop}
use Rattle.zio_course.specs.declared.runner.Stop.TheVariants.{Memory}
use Rattle.zio_course.specs.Answered.{answered_in}
use Rattle.zio_course.specs.Forests.{names_of}
use Rattle.zio_course.specs.Names.{named_in}
use Rattle.zio_course.specs.Runners.{DiffersInRound, IsCutRound, IsRound, IsRoundEnd, SeenEnd, Standing, StandsAfter, Stopping}
use Rattle.zio_course.specs.Told.{ended_told, line_told}

-- The journal has the round's entries, the completions of what was answered and then the round's, and one round more; and
-- these finished, and these are left.
pub record IsEntered (answered : List Completion) (old new : Journal) (end : SeenEnd) (finished : List RequestEnd) (left : List (List Pending)) : Type 0 where
  pub places : new.places ≡ old.places ++ end.entries
  pub completions : new.completions ≡ old.completions ++ (answered ++ end.completions)
  pub rounds : new.rounds ≡ old.rounds + 1
  pub finished_is : finished ≡ end.finished
  pub left_is : left ≡ end.left

-- The round of a batch: in the journal behind the completions of what admission answered, the lines of its requests by
-- number, and the bound names after it.
pub record IsBatchRun (error : ℕ → Option Errno) (requests : List Request) (old_bound new_bound : List (List ℕ × Tree)) (old new : Journal) (end : SeenEnd) (lines : List ReportLine) (left : List (List Pending)) : Type 0 where
  pub journal : IsEntered (reverse (answered_in error (old.rounds + 1) requests)) old new end end.finished left
  pub lines_are : lines ≡ map (line_told error end.finished) requests
  pub bound_is : (name : List ℕ) → named_in new_bound name ≡ block_of (bound_after (ended_told error end.finished requests) (names_of old_bound)) name

-- What a round leaves that was cut short. Before it ran, for want of memory: all is as it was. While it ran: the journal is as
-- it was, and the images differ loosely. Behind it, for want of memory: the whole round is in the journal and in the images.
abbrev pub IsCutShort : Standing → Standing → Stopping → Stop → Terms → List (List Pending) → List Completion → Journal → Journal → Images → Images → Type 0
IsCutShort s now w stop t trees answered old new before after =
    ((stop ≡ Memory) × (w.stopped ≡ false) × (new ≡ old) × (after ≡ before))
    ⊎ ((new ≡ old) × IsCutRound stop w t trees before after × DiffersInRound s trees before after)
    ⊎ ((stop ≡ Memory) × (w.stopped ≡ false) × (end : SeenEnd) × IsEntered answered old new end end.finished end.left × IsRoundEnd s (old.rounds + 1) trees end
    × StandsAfter s now (old.rounds + 1) trees end × IsRound t trees before after end)
