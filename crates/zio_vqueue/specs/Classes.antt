-- The classes of a device queue: their order, and how many groups of each may be active.
use Rattle.std.specs.Prelude.{ℕ, List, [], ◌∷◌, Bool, true, false}
use Rattle.zio_types.specs.declared.request.Prio.{Prio}
use Rattle.zio_types.specs.declared.request.Prio.TheVariants.{SyncRead, SyncWrite, AsyncRead, AsyncWrite, Scrub}

-- the classes in the order in which they are served
-- Rule: queue classes.
abbrev pub classes : List Prio
classes = SyncRead ∷ SyncWrite ∷ AsyncRead ∷ AsyncWrite ∷ Scrub ∷ []

-- a class's place in that order
abbrev pub class_number : Prio → ℕ
class_number SyncRead = 0
class_number SyncWrite = 1
class_number AsyncRead = 2
class_number AsyncWrite = 3
class_number Scrub = 4

-- active groups of a class below which it is served before any class that has its minimum
-- Rule: queue classes.
abbrev pub minimum_of : Prio → ℕ
minimum_of SyncRead = 10
minimum_of SyncWrite = 10
minimum_of AsyncRead = 1
minimum_of AsyncWrite = 2
minimum_of Scrub = 1

-- the most active groups of a class
-- Rule: queue classes.
abbrev pub maximum_of : Prio → ℕ
maximum_of SyncRead = 10
maximum_of SyncWrite = 10
maximum_of AsyncRead = 3
maximum_of AsyncWrite = 10
maximum_of Scrub = 3

-- a class whose operations are served in the order of putting
abbrev pub is_sync : Prio → Bool
is_sync SyncRead = true
is_sync SyncWrite = true
is_sync AsyncRead = false
is_sync AsyncWrite = false
is_sync Scrub = false
