-- What a contract sees of maps and sets by their keys.
use Rattle.std.specs.Prelude.{ℕ, List, [], ◌∷◌, Bool, false, ◌||◌, Option, Some, None, is_some, ◌==◌, bytes_eq, cond, map}
use Rattle.std.specs.Int.{from_be_bytes, w128}
use Rattle.zio_types.specs.Filled.{filled_to}
use Rattle.zio_gang.specs.declared.bound.Bound.{Bound}
use Rattle.zio_gang.specs.declared.tree.Tree.{Tree}

-- the value of a name among entries by name
abbrev pub named_in : {X : Type 0} → List (List ℕ × X) → List ℕ → Option X
named_in [] name = None
named_in (e ∷ es) name = cond (bytes_eq e.0 name) (Some e.1) (named_in es name)

-- the name is one of these
abbrev pub is_name_in : List (List ℕ) → List ℕ → Bool
is_name_in [] name = false
is_name_in (n ∷ names) name = bytes_eq n name || is_name_in names name

-- the list of a number among entries by number, none where it has no entry
abbrev pub listed_in : {X : Type 0} → List (ℕ × List X) → ℕ → List X
listed_in [] number = []
listed_in (e ∷ es) number = cond (number == e.0) e.1 (listed_in es number)

-- the name has an entry
abbrev pub is_some_name : {X : Type 0} → List (List ℕ × X) → List ℕ → Bool
is_some_name entries name = is_some (named_in entries name)

-- names with their blocks as entries by name
abbrev pub pairs_of : List Bound → List (List ℕ × Tree)
pairs_of blocks = map (λ (b : Bound). (b.name, b.tree)) blocks

-- The bytes of a name as digits to the base 256, the first one the highest, with zeros behind them up to 16 bytes: by
-- these numbers names stand in the order of their bytes.
abbrev pub byte_order : List ℕ → ℕ
byte_order name = from_be_bytes w128 (filled_to 0 16 name)
