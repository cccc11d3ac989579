-- Laws of the escapes.
use Rattle.std.specs.Prelude.{◌≡◌, ℕ, List, [], ◌∷◌, Bool, true, false, not, ◌&&◌, ◌||◌, ◌==◌, bytes_eq, codes}
use Rattle.std.specs.List.{concat, list_all, list_any}
use Rattle.zio_markup.specs.Escapes.{escaped, is_printable}

-- a character that markup gives a meaning, but for the ampersand
abbrev pub is_markup : ℕ → Bool
is_markup c = (c == 60) || (c == 62) || (c == 34) || (c == 39)

-- a character that stands for itself
abbrev pub is_plain : ℕ → Bool
is_plain c = is_printable c && not (c == 38) && not (is_markup c)

-- the references that XML and HTML share
abbrev pub references : List (List ℕ)
references = codes "&lt;" ∷ codes "&gt;" ∷ codes "&amp;" ∷ codes "&quot;" ∷ codes "&apos;" ∷ []

-- a character that stands for itself, or a reference
abbrev pub is_datum : List ℕ → Bool
is_datum [] = false
is_datum (c ∷ []) = is_plain c
is_datum (c ∷ d ∷ cs) = list_any (bytes_eq (c ∷ d ∷ cs)) references

-- a text of such pieces
pub record IsCharacterData (text : List ℕ) : Type 0 where
  pub pieces : List (List ℕ)
  pub joined : text ≡ concat pieces
  pub each : list_all is_datum pieces ≡ true

-- whatever stands in the input
abbrev pub EscapedIsCharacterData : Type 0
EscapedIsCharacterData = (text : List ℕ) → IsCharacterData (escaped text)

-- no tag and no end of an attribute
abbrev pub EscapedHasNoMarkup : Type 0
EscapedHasNoMarkup = (text : List ℕ) → list_any is_markup (escaped text) ≡ false

-- a few by hand: printable text is itself, a tag is none, a byte that can't be printed is a question mark
pub record WorkedEscapes : Type 0 where
  pub itself : escaped (codes "1 read x sync") ≡ codes "1 read x sync"
  pub tag : escaped (codes "<a b=\"c\">&'") ≡ codes "&lt;a b=&quot;c&quot;&gt;&amp;&apos;"
  pub other : escaped (9 ∷ 10 ∷ 0 ∷ 127 ∷ 195 ∷ 164 ∷ []) ≡ codes " ?????"
