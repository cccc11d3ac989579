-- The way from a block to a gang member under it: the members' numbers, outermost first.
use Rattle.std.specs.Prelude.{ℕ, List, [], ◌∷◌, ◌++◌, Option, nat_lt, length}
use Rattle.std.specs.Bool.{then_some}

-- how many steps a path has at most
abbrev pub path_steps_max : ℕ
path_steps_max = 8

-- the path to a member of the gang at this path, none where that path is full
abbrev pub child_path : List ℕ → ℕ → Option (List ℕ)
child_path path member = then_some (nat_lt (length path) path_steps_max) (path ++ member ∷ [])
