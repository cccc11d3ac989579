-- What becomes of text from outside in a picture. docs/FORMATS.md, "Picture".
use Rattle.std.specs.Prelude.{ℕ, List, [], ◌∷◌, Bool, cond, ◌&&◌, ◌==◌, nat_le, codes}
use Rattle.std.specs.List.{flat_map}

-- a blank to a tilde
abbrev pub is_printable : ℕ → Bool
is_printable c = nat_le 32 c && nat_le c 126

-- what stands for a byte: a reference for those that markup gives a meaning, a blank for a tab, the byte itself where it
-- can be printed, and else a question mark
abbrev pub escape_of : ℕ → List ℕ
escape_of c =
    cond (c == 60) (codes "&lt;")
    (cond (c == 62) (codes "&gt;")
    (cond (c == 38) (codes "&amp;")
    (cond (c == 34) (codes "&quot;")
    (cond (c == 39) (codes "&apos;")
    (cond (c == 9) (codes " ")
    (cond (is_printable c) (c ∷ [])
    (codes "?")))))))

-- the same of each byte of a text
abbrev pub escaped : List ℕ → List ℕ
escaped text = flat_map escape_of text
