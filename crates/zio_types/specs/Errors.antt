-- The order of errors, by which several become one.
use Rattle.std.specs.Prelude.{ℕ, List, [], ◌∷◌, Bool, true, false, Option, Some, None, nat_lt}
use Rattle.zio_types.specs.declared.error.Errno.{Errno}
use Rattle.zio_types.specs.declared.error.Errno.TheVariants.{Nxio, Cksum, Io, Nospc, Inval, Exist, Noent}

-- how bad an error is; none is the least
-- Rule: error rank.
abbrev pub rank : Option Errno → ℕ
rank None = 0
rank (Some Nxio) = 1
rank (Some Cksum) = 2
rank (Some Io) = 3
rank (Some Nospc) = 4
rank (Some Inval) = 5
rank (Some Exist) = 6
rank (Some Noent) = 7

-- the second where the first ranks below it
abbrev pub second_if : Bool → Option Errno → Option Errno → Option Errno
second_if true a b = b
second_if false a b = a

-- the error of the greater rank
-- Rule: error rank.
abbrev pub worst_error : Option Errno → Option Errno → Option Errno
worst_error a b = second_if (nat_lt (rank a) (rank b)) a b

-- the worst of a list, none where the list is empty
abbrev pub worst_of : List (Option Errno) → Option Errno
worst_of [] = None
worst_of (e ∷ es) = worst_error e (worst_of es)
