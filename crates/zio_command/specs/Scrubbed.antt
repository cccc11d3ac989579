-- What a run comes to whose pool is scrubbed behind it: its report with a line for the scrub, and the images that the scrub
-- leaves. After a panic nothing is scrubbed.
use Rattle.std.specs.Prelude.{◌≡◌, ◌≢◌, ℕ, List, [], ◌++◌, map, take, bytes_eq}
use Rattle.std.specs.List.{IsDistinct}
use Rattle.std.specs.List.Sorted.{IsNonDecreasingBy}
use Rattle.zio_types.specs.declared.journal.Journal.{Journal}
use Rattle.zio_outside.specs.Outside.{Appends}
use Rattle.zio_script.specs.declared.script.Script.{Script}
use Rattle.zio_cksum.specs.Frames.{SameOutside}
use Rattle.zio_cksum.specs.Images.{Images, Setting}
use Rattle.zio_gang.specs.declared.bound.Bound.{Bound}
use Rattle.zio_gang.specs.declared.ending.Ending.{Ending}
use Rattle.zio_gang.specs.declared.ending.Ending.TheVariants.{Complete, Panic, Left}
use Rattle.zio_gang.specs.declared.tree.Tree.{Tree}
use Rattle.zio_gang.specs.Rounds.{block_of}
use Rattle.zio_report.specs.declared.report.RunFault.{RunFault}
use Rattle.zio_report.specs.declared.report.RunFault.TheVariants.{Device, Sink, Memory}
use Rattle.zio_report.specs.declared.report.Show.{Show}
use Rattle.zio_report.specs.Meanings.{IsWholeRun, course_of, run_size_of, tops_of}
use Rattle.zio_course.specs.Names.{byte_order, named_in, pairs_of}
use Rattle.zio_scrub.specs.Ends.{AreMended, NoRowHolds}
use Rattle.zio_scrub.specs.Lines.{scrub_line}
use Rattle.zio_scrub.specs.Pieces.{trees_of}
use Rattle.zio_scrub.specs.Scrubs.{Scrubbed, scrub_blocks, spots_in}

-- ---- the blocks that a run leaves bound

-- the script's tops over these images and its fault rows, at a resume point
abbrev pub setting_at : Script → Images → ℕ → Setting
setting_at script before point = record { tops = tops_of script before; rows = script.faults; point = point }

-- so at that of the run's last state
abbrev pub setting_left : Script → Images → Journal → Setting
setting_left script before journal = setting_at script before (course_of script before journal).state.point

-- Blocks by their names, each name once, in the order of the names' bytes: those that are bound in the run's last state.
pub record AreLeftBound (script : Script) (before : Images) (journal : Journal) (blocks : List Bound) : Type 0 where
  pub named : (name : List ℕ) → named_in (pairs_of blocks) name ≡ block_of (course_of script before journal).state.bound name
  pub once : IsDistinct bytes_eq (map (λ (b : Bound). b.name) blocks)
  pub order : IsNonDecreasingBy (λ (e : List ℕ × Tree). byte_order e.0) (pairs_of blocks)

-- ---- their scrub

-- what the scrub of these blocks comes to, over the images that the run left
abbrev pub scrub_left : Script → Images → Journal → List Bound → Images → Scrubbed
scrub_left script before journal blocks ran = scrub_blocks (setting_left script before journal) (trees_of blocks) ran

-- The scrub leaves the images of the definition, and its line has the definition's numbers. Where no row holds at the
-- resume point, each copy of a piece that had a good one is good afterwards.
pub record IsScrubBehind (script : Script) (before : Images) (journal : Journal) (ran after : Images) (line : List ℕ) : Type 0 where
  pub blocks : List Bound
  pub bound : AreLeftBound script before journal blocks
  pub images : after ≡ (scrub_left script before journal blocks ran).images
  pub line_is : line ≡ scrub_line (trees_of blocks) (scrub_left script before journal blocks ran)
  pub good : NoRowHolds (setting_left script before journal) → AreMended (setting_left script before journal) (trees_of blocks) ran after

-- after a panic nothing is scrubbed, and there is no line
abbrev pub IsBehind : Ending → Script → Images → Journal → Images → Images → List ℕ → Type 0
IsBehind Complete script before journal ran after line = IsScrubBehind script before journal ran after line
IsBehind Panic script before journal ran after line = (after ≡ ran) × (line ≡ [])
IsBehind Left script before journal ran after line = IsScrubBehind script before journal ran after line

-- What a script means that is run and scrubbed behind it, over the images before: some images are stored after it, and
-- the sink has what it had before, the report and the scrub's line.
pub record IsScrubbedRun (stored : Images → Type 0) (show : Show) (script : Script) (ending : Ending) (old new : List ℕ → Type 0) (journal : Journal) (before : Images) : Type 0 where
  -- the images that the run left, and its report
  pub ran : Images
  pub report : List ℕ
  pub after : Images
  pub line : List ℕ
  pub whole : IsWholeRun show (run_size_of script before) script before journal ran report ending
  pub behind : IsBehind ending script before journal ran after line
  pub stores : stored after
  pub written : Appends old new (report ++ line)

-- ---- a scrub that was cut short

-- The images differ from those that the run left at most in copies of the blocks; where the sink failed all was scrubbed.
abbrev pub AreStoppedImages : RunFault → Setting → List Tree → Images → Images → Type 0
AreStoppedImages Device s trees ran after = SameOutside (spots_in s trees) ran after
AreStoppedImages Sink s trees ran after = after ≡ (scrub_blocks s trees ran).images
AreStoppedImages Memory s trees ran after = SameOutside (spots_in s trees) ran after

-- the whole report is written, and where the sink failed a front of the scrub's line
abbrev pub IsStoppedText : RunFault → (List ℕ → Type 0) → (List ℕ → Type 0) → List ℕ → List ℕ → Type 0
IsStoppedText Device old new report line = Appends old new report
IsStoppedText Sink old new report line = (held : List ℕ) → old held → (n : ℕ) × new (held ++ report ++ take n line)
IsStoppedText Memory old new report line = Appends old new report

-- The run came to its end and to no panic, and the scrub behind it was cut short.
pub record IsStoppedScrub (stored : Images → Type 0) (show : Show) (script : Script) (fault : RunFault) (old new : List ℕ → Type 0) (journal : Journal) (before : Images) : Type 0 where
  pub ending : Ending
  -- the images that the run left, and its report
  pub ran : Images
  pub report : List ℕ
  pub after : Images
  pub blocks : List Bound
  pub whole : IsWholeRun show (run_size_of script before) script before journal ran report ending
  pub no_panic : ending ≢ Panic
  pub bound : AreLeftBound script before journal blocks
  pub images : AreStoppedImages fault (setting_left script before journal) (trees_of blocks) ran after
  pub stores : stored after
  pub written : IsStoppedText fault old new report (scrub_line (trees_of blocks) (scrub_left script before journal blocks ran))
