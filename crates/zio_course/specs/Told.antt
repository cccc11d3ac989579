-- What is told of each request of a round: by what answered it, by what finished with its number, or that it waits.
use Rattle.std.specs.Prelude.{◌≡◌, ℕ, List, [], ◌∷◌, find, cond, Option, Some, None, ◌==◌, ◌⊎◌}
use Rattle.std.specs.List.{flat_map}
use Rattle.zio_types.specs.declared.error.Errno.{Errno}
use Rattle.zio_script.specs.declared.script.Item.{Item}
use Rattle.zio_script.specs.declared.script.Item.TheVariants.{Request as RequestLine, Go, Clear}
use Rattle.zio_script.specs.declared.script.Request.{Request}
use Rattle.zio_script.specs.Requests.{kind_of, name_of}
use Rattle.zio_gang.specs.Attempts.{Ended}
use Rattle.zio_gang.specs.Rounds.{answered_with}
use Rattle.zio_report.specs.declared.report.ReportLine.{ReportLine}
use Rattle.zio_report.specs.declared.report.LineResult.TheVariants.{Suspended}
use Rattle.zio_report.specs.Reports.{line_of_ended}
use Rattle.zio_course.specs.declared.runner.RequestEnd.{RequestEnd}

-- what finished with this number
abbrev pub finish_of : List RequestEnd → ℕ → Option RequestEnd
finish_of finished n = find (λ (f : RequestEnd). f.request == n) finished

-- the request as it finished
abbrev pub ended_as : Request → RequestEnd → Ended
ended_as r f = record { request = r; error = f.error; bytes = f.bytes; tree = f.tree }

abbrev pub line_waiting : Request → ReportLine
line_waiting r = record { number = r.number; kind = kind_of r.work; name = name_of r.work; result = Suspended }

-- the line of a request that was answered with an error, finished, or waits
abbrev pub line_by : Option Errno → Option RequestEnd → Request → ReportLine
line_by (Some e) f r = line_of_ended (answered_with e r)
line_by None None r = line_waiting r
line_by None (Some f) r = line_of_ended (ended_as r f)

-- the request's end, if it ran and finished
abbrev pub ended_by : Option Errno → Option RequestEnd → Request → List Ended
ended_by (Some e) f r = []
ended_by None None r = []
ended_by None (Some f) r = ended_as r f ∷ []

-- the same by what answered each number, and by what finished
abbrev pub line_told : (ℕ → Option Errno) → List RequestEnd → Request → ReportLine
line_told error finished r = line_by (error r.number) (finish_of finished r.number) r

-- the ends of those that ran and finished, by number
abbrev pub ended_told : (ℕ → Option Errno) → List RequestEnd → List Request → List Ended
ended_told error finished requests = flat_map (λ (r : Request). ended_by (error r.number) (finish_of finished r.number) r) requests

-- what finished is of some of these requests, in their order
abbrev pub AreFinishedOf : List Request → List RequestEnd → Type 0
AreFinishedOf [] [] = Unit {0}
AreFinishedOf [] (f ∷ fs) = ⊥
AreFinishedOf (r ∷ rs) [] = Unit {0}
AreFinishedOf (r ∷ rs) (f ∷ fs) = ((f.request ≡ r.number) × AreFinishedOf rs fs) ⊎ AreFinishedOf rs (f ∷ fs)

-- ---- one after another

-- the next that finished, if it has this number, and what is left then
abbrev pub next_of : List RequestEnd → ℕ → Option RequestEnd
next_of [] n = None
next_of (f ∷ fs) n = cond (f.request == n) (Some f) None

abbrev pub rest_of : List RequestEnd → ℕ → List RequestEnd
rest_of [] n = []
rest_of (f ∷ fs) n = cond (f.request == n) fs (f ∷ fs)

abbrev pub next_if : Option Errno → List RequestEnd → ℕ → Option RequestEnd
next_if None left n = next_of left n
next_if (Some e) left n = None

abbrev pub rest_if : Option Errno → List RequestEnd → ℕ → List RequestEnd
rest_if None left n = rest_of left n
rest_if (Some e) left n = left

-- what a line of the script adds to the lines of the round
abbrev pub lines_by : (ℕ → Option Errno) → List RequestEnd → Item → List ReportLine
lines_by error left (RequestLine r) = line_by (error r.number) (next_if (error r.number) left r.number) r ∷ []
lines_by error left Go = []
lines_by error left Clear = []

abbrev pub left_by : (ℕ → Option Errno) → List RequestEnd → Item → List RequestEnd
left_by error left (RequestLine r) = rest_if (error r.number) left r.number
left_by error left Go = left
left_by error left Clear = left

abbrev pub ends_by : (ℕ → Option Errno) → List RequestEnd → Item → List Ended
ends_by error left (RequestLine r) = ended_by (error r.number) (next_if (error r.number) left r.number) r
ends_by error left Go = []
ends_by error left Clear = []

-- ---- requests of suspended trees

-- nothing is answered before the round of a clear
abbrev pub no_error : ℕ → Option Errno
no_error n = None
