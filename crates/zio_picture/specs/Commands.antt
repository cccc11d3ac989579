-- The words of the program. docs/FORMATS.md, "Picture".
use Rattle.std.specs.Prelude.{ℕ, List, [], ◌∷◌, Bool, true, false, not, ◌&&◌, ◌||◌, ◌==◌, cond, Option, Some, None, codes, bytes_eq}
use Rattle.zio_drawing.specs.declared.picture.Form.{Form}
use Rattle.zio_drawing.specs.declared.picture.Form.TheVariants.{Svg, Html}
use Rattle.zio_picture.specs.declared.about.Drawn.{Drawn}
use Rattle.zio_picture.specs.declared.about.Question.{Question}
use Rattle.zio_picture.specs.declared.about.Question.TheVariants.{Help, Version}

-- the word alone is a question
abbrev pub asked_by_word : List ℕ → Option Question
asked_by_word word =
    cond (bytes_eq word (codes "--help") || bytes_eq word (codes "-h")) (Some Help)
    (cond (bytes_eq word (codes "--version")) (Some Version) None)

abbrev pub asked_by : List (List ℕ) → Option Question
asked_by [] = None
asked_by (word ∷ []) = asked_by_word word
asked_by (word ∷ other ∷ words) = None

-- a file's name isn't empty and doesn't begin as an option does
abbrev pub is_file : List ℕ → Bool
is_file [] = false
is_file (c ∷ cs) = not (c == 45)

-- what is to be drawn, without where its words lie in memory
pub record Files : Type 0 where
  pub form : Form
  pub script : List ℕ
  pub report : List ℕ

abbrev pub files_of : Drawn → Files
files_of drawn = record { form = drawn.form; script = drawn.script.now; report = drawn.report.now }

abbrev pub files_by : Form → List ℕ → List ℕ → Option Files
files_by form script report =
    cond (is_file script && is_file report) (Some (record { form = form; script = script; report = report })) None

-- `[--html] SCRIPT REPORT`
abbrev pub drawn_by : List (List ℕ) → Option Files
drawn_by [] = None
drawn_by (word ∷ []) = None
drawn_by (script ∷ report ∷ []) = files_by Svg script report
drawn_by (option ∷ script ∷ report ∷ []) = cond (bytes_eq option (codes "--html")) (files_by Html script report) None
drawn_by (option ∷ script ∷ report ∷ word ∷ words) = None
