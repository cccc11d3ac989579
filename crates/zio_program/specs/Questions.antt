-- The words that the program answers itself.
use Rattle.std.specs.Prelude.{ℕ, List, [], ◌∷◌, Bool, ◌&&◌, ◌||◌, Option, Some, None, codes, bytes_eq, if◌then◌else◌}
use Rattle.zio_program.specs.declared.about.Question.{Question}
use Rattle.zio_program.specs.declared.about.Question.TheVariants.{Help, Version}

abbrev pub is_help : List ℕ → Bool
is_help word = bytes_eq word (codes "--help") || bytes_eq word (codes "-h")

abbrev pub asked_by_one : List ℕ → Option Question
asked_by_one word = if is_help word then Some Help else (if bytes_eq word (codes "--version") then Some Version else None)

abbrev pub asked_by_two : List ℕ → List ℕ → Option Question
asked_by_two first word = if bytes_eq first (codes "run") && is_help word then Some Help else None

-- `--help` or `-h`, alone or behind `run`, and `--version` alone
abbrev pub asked_by : List (List ℕ) → Option Question
asked_by [] = None
asked_by (word ∷ []) = asked_by_one word
asked_by (first ∷ word ∷ []) = asked_by_two first word
asked_by (first ∷ second ∷ third ∷ words) = None

-- `--help`, `-h` or `--version`, alone
abbrev pub asked_alone : List (List ℕ) → Option Question
asked_alone [] = None
asked_alone (word ∷ []) = asked_by_one word
asked_alone (first ∷ second ∷ words) = None
