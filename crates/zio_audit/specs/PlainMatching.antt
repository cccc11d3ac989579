-- What a matcher of a report's plain text tells of the bytes that it was given: what is left of the text behind them.
use Rattle.std.specs.Prelude.{◌≡◌, ℕ, List, [], ◌∷◌, ◌++◌, length, Option, Some, None, option_map}
use Rattle.zio_report.specs.Lines.{as_line}
use Rattle.zio_audit.specs.declared.plain_matcher.PlainMatcher.{PlainMatcher}
use Rattle.zio_audit.specs.declared.plain_matcher.Rest.{Rest}
use Rattle.zio_audit.specs.Texts.{plain_text}

-- the text begins with these bytes
abbrev pub IsFrontOf : List ℕ → List ℕ → Type 0
IsFrontOf held text = (rest : List ℕ) × (text ≡ held ++ rest)

-- the text is what came and then what is left of it, or where nothing is left to compare other bytes came
abbrev pub IsLeftOf : List ℕ → Option (List ℕ) → List ℕ → Type 0
IsLeftOf text None held = ¬ IsFrontOf held text
IsLeftOf text (Some rest) held = text ≡ held ++ rest

-- the rest of a line has its newline
abbrev pub line_left : Option (List ℕ) → List ℕ
line_left None = []
line_left (Some line) = as_line line

-- what is left of a plain text: the rest of the line that is begun, and the plain lines behind it
abbrev pub text_left : Rest → List ℕ
text_left rest = line_left (option_map (λ l. l.now) rest.line) ++ plain_text rest.behind.now

-- what a matcher has left to compare
abbrev pub left_of : PlainMatcher → Option (List ℕ)
left_of m = option_map text_left m.rest

-- The text that is compared, its length before it, and behind it what came. A sink's clauses say what it holds and nothing
-- else of it, so a matcher holds this: who gave the text finds it there again.
abbrev pub compared : List ℕ → List ℕ → List ℕ
compared text came = length text ∷ (text ++ came)

-- the matcher holds such a list, and has left of the text what didn't come
pub record HoldsCompared (m : PlainMatcher) (held : List ℕ) : Type 0 where
  pub text : List ℕ
  pub came : List ℕ
  pub held_is : held ≡ compared text came
  pub left : IsLeftOf text (left_of m) came
