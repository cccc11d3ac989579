-- What a command asks for, and how its call ends.
use Rattle.std.specs.Prelude.{◌≡◌, ◌⊎◌, ℕ, List, [], Bool, true, false, Option, None}
use Rattle.zio_types.specs.declared.journal.Journal.{Journal}
use Rattle.zio_outside.specs.Outside.{Keeps, Rose}
use Rattle.zio_script.specs.declared.script.Script.{Script}
use Rattle.zio_script.specs.Grammar.{IsScriptOf}
use Rattle.zio_report.specs.declared.report.Show.TheVariants.{Summary}
use Rattle.zio_gen.specs.Generated.{script_text}
use Rattle.zio_command.specs.declared.mode.RunMode.{RunMode}
use Rattle.zio_command.specs.declared.words.Command.{Command}
use Rattle.zio_command.specs.declared.words.Command.TheVariants.{Run, Scrub, Gen, Load}
use Rattle.zio_command.specs.Causes.{AreUntouched}
use Rattle.zio_command.specs.Codes.{RunEnds, ScriptEnds}
use Rattle.zio_command.specs.Modes.{running, scrubbing}
use Rattle.zio_command.specs.Outcomes.{Ends}
use Rattle.zio_command.specs.Seen.{ShelfSeen, SinkSeen, SourceSeen}

-- ---- what a command asks for

-- it runs a script over images
abbrev pub runs : Command → Bool
runs (Run workers picks show names) = true
runs (Scrub picks names) = true
runs (Gen seed n) = false
runs (Load seed n names) = true

-- it reads the source
abbrev pub reads : Command → Bool
reads (Run workers picks show names) = true
reads (Scrub picks names) = true
reads (Gen seed n) = false
reads (Load seed n names) = false

-- the script's text: what the source tells, or what is generated
abbrev pub told_by : (List ℕ → Type 0) → Command → List ℕ → Type 0
told_by left (Run workers picks show names) text = left text
told_by left (Scrub picks names) text = left text
told_by left (Gen seed n) text = ⊥
told_by left (Load seed n names) text = text ≡ script_text seed n

-- how it is run
abbrev pub mode_of : Command → RunMode
mode_of (Run workers picks show names) = running show
mode_of (Scrub picks names) = scrubbing
mode_of (Gen seed n) = running Summary
mode_of (Load seed n names) = running Summary

-- the seed of the picks, where one is asked for
abbrev pub picks_of : Command → Option ℕ
picks_of (Run workers picks show names) = picks
picks_of (Scrub picks names) = picks
picks_of (Gen seed n) = None
picks_of (Load seed n names) = None

-- the names of the images
abbrev pub image_names : Command → List (List ℕ)
image_names (Run workers picks show names) = names
image_names (Scrub picks names) = names
image_names (Gen seed n) = []
image_names (Load seed n names) = names

-- ---- how its call ends

-- the source failed, and nothing was written
pub record WasUnread (old_source new_source : SourceSeen) (old_sink new_sink : SinkSeen) (old new : ShelfSeen) (old_journal journal : Journal) : Type 0 where
  pub rose : Rose old_source.faults new_source.faults
  pub nothing : Keeps old_sink.holds new_sink.holds
  pub untouched : AreUntouched old new
  pub unentered : journal ≡ old_journal

-- How the call of a command ends. A script that is read ends as its run does, or with code 5 where the source failed; `gen`
-- ends with its text, which is a script; and `load` as the run of that script.
abbrev pub CommandEnds : Command → SourceSeen → SourceSeen → SinkSeen → SinkSeen → ShelfSeen → ShelfSeen → Journal → Journal → ℕ → Type 0
CommandEnds (Run workers picks show names) old_source new_source old_sink new_sink old new old_journal journal code =
    ((code ≡ 5) × WasUnread old_source new_source old_sink new_sink old new old_journal journal)
    ⊎ RunEnds old_source.left (running show) names old_sink new_sink old new old_journal journal code
CommandEnds (Scrub picks names) old_source new_source old_sink new_sink old new old_journal journal code =
    ((code ≡ 5) × WasUnread old_source new_source old_sink new_sink old new old_journal journal)
    ⊎ RunEnds old_source.left scrubbing names old_sink new_sink old new old_journal journal code
CommandEnds (Gen seed n) old_source new_source old_sink new_sink old new old_journal journal code =
    Ends 0 (script_text seed n) code old_sink.faults new_sink.faults old_sink.holds new_sink.holds
CommandEnds (Load seed n names) old_source new_source old_sink new_sink old new old_journal journal code =
    (script : Script) × IsScriptOf (script_text seed n) script
    × ScriptEnds (running Summary) script names old_sink new_sink old new old_journal journal code
