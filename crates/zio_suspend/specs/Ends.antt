-- What is written before the first line of a script and behind the last.
use Rattle.std.specs.Prelude.{ℕ, ◌+◌, ◌-◌, List, ◌++◌, Bool, true, false, decimal, codes}
use Rattle.zio_gang.specs.declared.ending.Ending.{Ending}
use Rattle.zio_gang.specs.declared.ending.Ending.TheVariants.{Panic}
use Rattle.zio_gang.specs.Runs.{left_if}
use Rattle.zio_report.specs.declared.report.Show.{Show}
use Rattle.zio_report.specs.declared.report.Show.TheVariants.{Report, Summary}
use Rattle.zio_report.specs.Lines.{as_line}
use Rattle.zio_report.specs.Reports.{end_text}
use Rattle.zio_course.specs.declared.fold.Tally.{Tally}

-- a panic, or how a run ended that left something or nothing
abbrev pub ending_with : Bool → Bool → Ending
ending_with true left = Panic
ending_with false left = left_if left

-- the summary of a script with so many requests, of which these finished
abbrev pub counts_text : ℕ → Tally → Ending → List ℕ
counts_text requests t ending =
    as_line (codes "requests " ++ decimal requests)
    ++ as_line (codes "ok " ++ decimal t.good)
    ++ as_line (codes "failed " ++ decimal t.bad)
    ++ as_line (codes "left " ++ decimal (requests - (t.good + t.bad)))
    ++ as_line (codes "read " ++ decimal t.read)
    ++ end_text ending

-- what is written behind the last round: the end line of a report, or the summary
abbrev pub last_text : Show → ℕ → Tally → Ending → List ℕ
last_text (Report journal bytes) requests t ending = end_text ending
last_text Summary requests t ending = counts_text requests t ending
