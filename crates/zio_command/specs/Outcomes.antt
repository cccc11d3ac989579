-- The texts that a run prints beside its report, how it ends where a text was due, and what is read of a source.
use Rattle.std.specs.Prelude.{◌≡◌, ℕ, zero, suc, ◌+◌, ◌≤◌, List, ◌++◌, drop, take, ◌⊎◌, decimal, codes}
use Rattle.zio_outside.specs.Outside.{Appends, AppendsFront, Keeps, Rose, counted}
use Rattle.zio_script.specs.declared.script.ScriptFault.{ScriptFault}
use Rattle.zio_script.specs.declared.read.TheConstants.{SCRIPT_LEN_MAX}
use Rattle.zio_report.specs.declared.report.RunFault.{RunFault}
use Rattle.zio_report.specs.declared.report.RunFault.TheVariants.{Device, Sink, Memory}
use Rattle.zio_report.specs.Lines.{as_line, spaced}
use Rattle.zio_command.specs.declared.image.TheConstants.{IMAGE_LEN_MAX, IMAGE_LEN_MIN}

-- ---- what is read

-- what is read of a text: all of it, or as much as shows that it is too long
pub record IsReadOf (text bytes : List ℕ) : Type 0 where
  pub read : bytes ≡ take (SCRIPT_LEN_MAX + 1) text

-- what is left of a text once it was read: nothing, or what is behind so much
abbrev pub rest_of : List ℕ → List ℕ
rest_of text = drop (SCRIPT_LEN_MAX + 1) text

-- ---- images

-- a size in bytes that an image may have
pub record HasLawfulSize (bytes : ℕ) : Type 0 where
  pub low : IMAGE_LEN_MIN ≤ bytes
  pub high : bytes ≤ IMAGE_LEN_MAX

-- ---- texts

-- the words aren't a command
abbrev pub words_line : List ℕ
words_line = codes "words\n"

-- the first faulty line of a text, with the number of its why
abbrev pub script_line : ScriptFault → List ℕ
script_line fault = as_line (codes "script " ++ decimal fault.line ++ spaced (decimal fault.why))

-- a leaf that has no image of a lawful size
abbrev pub images_line : ℕ → List ℕ
images_line leaf = as_line (codes "images " ++ decimal leaf)

-- ---- ends

-- every request completed, the run ended in a panic, or something is left
abbrev pub IsEnding : ℕ → Type 0
IsEnding code = (code ≡ 0) ⊎ (code ≡ 4) ⊎ (code ≡ 9)

-- the codes of a call on one thread
abbrev pub IsSerialCode : ℕ → Type 0
IsSerialCode code = IsEnding code ⊎ (code ≡ 1) ⊎ (code ≡ 2) ⊎ (code ≡ 3) ⊎ (code ≡ 5) ⊎ (code ≡ 6) ⊎ (code ≡ 7) ⊎ (code ≡ 8)

-- the code of a run that was cut short by this
abbrev pub cut_code : RunFault → ℕ
cut_code Device = 7
cut_code Sink = 6
cut_code Memory = 8

-- How a call ends where this text was due with this code: so, or with a front of the text and code 6 where the sink's
-- count rose, or with nothing and code 8.
pub record Ends (due : ℕ) (text : List ℕ) (code old_faults new_faults : ℕ) (old new : List ℕ → Type 0) : Type 0 where
  pub codes_are : (code ≡ due) ⊎ (code ≡ 6) ⊎ (code ≡ 8)
  pub written : code ≡ due → Appends old new text
  pub steady : code ≡ due → new_faults ≡ old_faults
  pub failed : code ≡ 6 → Rose old_faults new_faults
  pub front : code ≡ 6 → AppendsFront old new text
  pub nothing : code ≡ 8 → Keeps old new

-- ---- counts of disks that left the shelf and came home

-- a count that went up so many times, by one each time
abbrev pub counted_times : ℕ → ℕ → ℕ
counted_times zero count = count
counted_times (suc times) count = counted (counted_times times count)

-- as many disks came home as were handed out
pub record IsEachBack (old_fetches new_fetches old_returns new_returns : ℕ) : Type 0 where
  pub times : ℕ
  pub fetched : new_fetches ≡ counted_times times old_fetches
  pub returned : new_returns ≡ counted_times times old_returns
