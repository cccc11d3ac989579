-- How queued operations are found: each stands at a spot on each shelf that it is sought on, and its spots bear its time of putting.
use Rattle.std.specs.Prelude.{◌≡◌, ℕ, ◌<◌, ◌≤◌, List, [], ◌∷◌, ◌++◌, Bool, true, false, ◌&&◌, ◌||◌, not, Option, Some, None, ◌==◌, cond, get_or, All, length, nat_le, nat_lt, filter, slice_get, count_by}
use Rattle.std.specs.Map.{lookup, values_of, keys_of}
use Rattle.std.specs.BTreeMap.{insert_entry, is_at}
use Rattle.std.specs.List.Sorted.{IsStrictlySortedBy}
use Rattle.std.specs.Ordering.{is_lt, nat_cmp, ordering_then}
use Rattle.std.specs.declared.cmp.Ordering.{Ordering}
use Rattle.zio_types.specs.declared.request.Prio.{Prio}
use Rattle.zio_vqueue.specs.declared.op.Op.{Op}
use Rattle.zio_vqueue.specs.declared.spots.Spot.{Spot}
use Rattle.zio_vqueue.specs.Classes.{class_number, is_sync, maximum_of}
use Rattle.zio_vqueue.specs.Queues.{AreApart, FitsDevice, end_of, is_in_class, or_else, turn_in}
use Rattle.zio_vqueue.specs.Groups.{IsRun, gap_max, last_of}

-- spots by shelf, then by rank, then by time
abbrev pub spot_cmp : Spot → Spot → Ordering
spot_cmp a b = ordering_then (nat_cmp a.shelf b.shelf) (ordering_then (nat_cmp a.rank b.rank) (nat_cmp a.time b.time))

-- the shelf of those that read or write and repair alike and may be joined
abbrev pub join_shelf : Bool → Bool → ℕ
join_shelf false false = 5
join_shelf false true = 6
join_shelf true false = 7
join_shelf true true = 8

-- where an operation that was put at a time is sought: on its class's shelf, and where it may be joined by its offset
abbrev pub class_spot : ℕ → Op → Spot
class_spot time o = record { shelf = class_number o.prio; rank = turn_in (is_sync o.prio) o; time = time }

abbrev pub join_spot : ℕ → Op → Spot
join_spot time o = record { shelf = join_shelf o.write o.flags.repair; rank = o.at; time = time }

abbrev pub is_spot : Spot → Spot → Bool
is_spot a b = a.shelf == b.shelf && (a.rank == b.rank && a.time == b.time)

-- one of these is the spot q
abbrev pub is_sought_at : ℕ → Op → Spot → Bool
is_sought_at time o q = is_spot (class_spot time o) q || (not o.flags.dont_aggregate && is_spot (join_spot time o) q)

-- an operation, where it is sought at this spot
abbrev pub kept_at : Spot → Option Op → Option Op
kept_at q None = None
kept_at q (Some o) = cond (is_sought_at q.time o q) (Some o) None

abbrev pub at_time : List (ℕ × Op) → ℕ → Option Op
at_time es time = lookup (is_at (nat_cmp time)) es

abbrev pub at_spot : List (Spot × Op) → Spot → Option Op
at_spot fs q = lookup (is_at (spot_cmp q)) fs

-- the operations by time stand at their spots, and nothing else stands anywhere
abbrev pub IsShelved : List (ℕ × Op) → List (Spot × Op) → Type 0
IsShelved es fs = (q : Spot) → at_spot fs q ≡ kept_at q (at_time es q.time)

-- the operations by time and by spots, each with a ticket of its own
pub record IsIndexed (es : List (ℕ × Op)) (fs : List (Spot × Op)) : Type 0 where
  pub timed : IsStrictlySortedBy nat_cmp (keys_of es)
  pub sorted : IsStrictlySortedBy spot_cmp (keys_of fs)
  pub shelved : IsShelved es fs
  pub apart : AreApart (values_of es)
  pub fit : All FitsDevice (values_of es)

-- the operations by time, those at some spots put in at the times that these bear
abbrev pub timed_over : List (Spot × Op) → List (ℕ × Op) → List (ℕ × Op)
timed_over [] es = es
timed_over (f ∷ fs) es = timed_over fs (insert_entry nat_cmp es f.0.time f.1)

-- the operations that stand at spots, by the times that these bear
abbrev pub timed_of : List (Spot × Op) → List (ℕ × Op)
timed_of fs = timed_over fs []

-- the operations that stand at spots, in the order of putting
abbrev pub ops_at : List (Spot × Op) → List Op
ops_at fs = values_of (timed_of fs)

-- all were put before a time
abbrev pub AreBefore : ℕ → List (ℕ × Op) → Type 0
AreBefore time [] = Unit {0}
AreBefore time (e ∷ es) = (e.0 < time) × AreBefore time es

-- the members stand at their times
abbrev pub AreThere : List (ℕ × Op) → List (Spot × Op) → Type 0
AreThere es [] = Unit {0}
AreThere es (m ∷ ms) = (at_time es m.0.time ≡ Some m.1) × AreThere es ms

-- the entries of a shelf from a rank on
abbrev pub is_on_shelf : ℕ → ℕ → Spot × Op → Bool
is_on_shelf shelf rank f = f.0.shelf == shelf && nat_le rank f.0.rank

-- the first entry of a shelf from a rank on
abbrev pub first_on : ℕ → ℕ → List (Spot × Op) → Option (Spot × Op)
first_on shelf rank fs = slice_get (filter (is_on_shelf shelf rank) fs) 0

-- where a class is served from
abbrev pub start_of : Bool → ℕ → ℕ
start_of true last = 0
start_of false last = last

-- the entry of a class that is served first
abbrev pub first_served : Prio → ℕ → List (Spot × Op) → Option (Spot × Op)
first_served prio last fs = or_else (first_on (class_number prio) (start_of (is_sync prio) last) fs) (first_on (class_number prio) 0 fs)

-- how many of the operations are in each class, by its number
pub record AreCounted (waiting : List ℕ) (ops : List Op) : Type 0 where
  pub room : length waiting ≡ 5
  pub counts : (prio : Prio) → get_or waiting (class_number prio) 0 ≡ count_by (is_in_class prio) ops

-- a class has waiting operations by these counts, and fewer active groups than the limit
abbrev pub is_due_by : List ℕ → List ℕ → List ℕ → Prio → Bool
is_due_by waiting active limits prio =
    nat_lt 0 (get_or waiting (class_number prio) 0) && nat_lt (get_or active (class_number prio) 0) (get_or limits (class_number prio) 0)

-- no class has more active groups than its maximum
pub record AreAdmitted (active : List ℕ) : Type 0 where
  pub room : length active ≡ 5
  pub below : (prio : Prio) → get_or active (class_number prio) 0 ≤ maximum_of prio

-- all operations end on the device
abbrev pub AllFit : List (Spot × Op) → Type 0
AllFit fs = All FitsDevice (values_of fs)

-- the entries of a spot's shelf before it, and those after it
abbrev pub is_below : Spot → Spot × Op → Bool
is_below from f = f.0.shelf == from.shelf && is_lt (spot_cmp f.0 from)

abbrev pub is_above : Spot → Spot × Op → Bool
is_above from f = f.0.shelf == from.shelf && is_lt (spot_cmp from f.0)

abbrev pub below_spot : Spot → List (Spot × Op) → List (Spot × Op)
below_spot from fs = filter (is_below from) fs

abbrev pub above_spot : Spot → List (Spot × Op) → List (Spot × Op)
above_spot from fs = filter (is_above from) fs

-- the end of the entries below an operation that are the longest run with it
pub record IsRunBelow (gap : ℕ) (first : Op) (fs : List (Spot × Op)) (found : List (Spot × Op)) : Type 0 where
  pub left : List (Spot × Op)
  pub parts : fs ≡ left ++ found
  pub run : IsRun gap (values_of found ++ first ∷ [])
  pub stop : (rest : List (Spot × Op)) (f : Spot × Op) → left ≡ rest ++ f ∷ [] → IsRun gap (f.1 ∷ values_of found ++ first ∷ []) → ⊥

-- members and the beginning of the entries above them that is the longest run with them
pub record IsRunAbove (gap : ℕ) (members : List (Spot × Op)) (fs : List (Spot × Op)) (found : List (Spot × Op)) : Type 0 where
  pub more : List (Spot × Op)
  pub left : List (Spot × Op)
  pub found_is : found ≡ members ++ more
  pub parts : fs ≡ more ++ left
  pub run : IsRun gap (values_of found)
  pub stop : (f : Spot × Op) (rest : List (Spot × Op)) → left ≡ f ∷ rest → IsRun gap (values_of found ++ f.1 ∷ []) → ⊥

-- the offset of the lowest of the operations and one above them
abbrev pub IsLowOf : ℕ → List Op → Op → Type 0
IsLowOf low [] first = low ≡ first.at
IsLowOf low (o ∷ os) first = low ≡ o.at

-- the longest run around an operation that was put at a time
pub record AreJoined (time : ℕ) (first : Op) (fs : List (Spot × Op)) (members : List (Spot × Op)) : Type 0 where
  pub lower : List (Spot × Op)
  pub downward : IsRunBelow (gap_max first.write) first (below_spot (join_spot time first) fs) lower
  pub upward : IsRunAbove (gap_max first.write) (lower ++ (join_spot time first, first) ∷ []) (above_spot (join_spot time first) fs) members

-- the entries around the one that was put at a time, taken by the rules of a group
pub record AreGathered (time : ℕ) (first : Op) (fs : List (Spot × Op)) (members : List (Spot × Op)) : Type 0 where
  pub alone : first.flags.dont_aggregate ≡ true → members ≡ (join_spot time first, first) ∷ []
  pub joined : first.flags.dont_aggregate ≡ false → AreJoined time first fs members

-- members so far, from the offset low to the end high, and the entries above them that are left
pub record IsRising (gap low high : ℕ) (members : List (Spot × Op)) (fs : List (Spot × Op)) (found left : List (Spot × Op)) : Type 0 where
  pub more : List (Spot × Op)
  pub head : Op
  pub others : List Op
  pub found_is : found ≡ members ++ more
  pub parts : fs ≡ more ++ left
  pub values : values_of found ≡ head ∷ others
  pub run : IsRun gap (head ∷ others)
  pub low_is : low ≡ head.at
  pub high_is : high ≡ end_of (last_of head others)

-- what the fields of a queue keep
pub record IsKept (fs : List (Spot × Op)) (waiting : List ℕ) (next : ℕ) (active : List ℕ) : Type 0 where
  pub indexed : IsIndexed (timed_of fs) fs
  pub counted : AreCounted waiting (ops_at fs)
  pub before : AreBefore next (timed_of fs)
  pub admitted : AreAdmitted active
