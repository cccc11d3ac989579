-- The errors in the order of their ranks, and the worst of some.
use Rattle.std.specs.Prelude.{◌≡◌, [], ◌∷◌, map, Some, None}
use Rattle.zio_types.specs.declared.error.Errno.TheVariants.{Nxio, Cksum, Io, Nospc, Inval, Exist, Noent}
use Rattle.zio_types.specs.Errors.{rank, worst_error, worst_of}

-- the seven errors from the mildest to the worst, behind none
abbrev pub ErrorsRankInOrder : Type 0
ErrorsRankInOrder =
    map rank
    (None ∷ Some Nxio ∷ Some Cksum ∷ Some Io ∷ Some Nospc ∷ Some Inval ∷ Some Exist ∷ Some Noent ∷ [])
    ≡ 0 ∷ 1 ∷ 2 ∷ 3 ∷ 4 ∷ 5 ∷ 6 ∷ 7 ∷ []

-- the worst of two stands on either side
abbrev pub WorseOfTwo : Type 0
WorseOfTwo =
    worst_error (Some Io) (Some Cksum) ∷ worst_error (Some Cksum) (Some Io) ∷ worst_error None (Some Nxio)
    ∷ worst_error (Some Nxio) None ∷ []
    ≡ Some Io ∷ Some Io ∷ Some Nxio ∷ Some Nxio ∷ []

-- the worst of a list stands anywhere in it
abbrev pub WorstOfMany : Type 0
WorstOfMany = worst_of (Some Cksum ∷ None ∷ Some Nospc ∷ Some Io ∷ Some Nospc ∷ None ∷ []) ≡ Some Nospc

abbrev pub NoneOfNone : Type 0
NoneOfNone = worst_of (None ∷ None ∷ []) ≡ None

abbrev pub NoneOfNothing : Type 0
NoneOfNothing = worst_of [] ≡ None
