-- The list of a node's children: which of them has which value, and which is the first without one.
use Rattle.std.specs.Prelude.{◌≡◌, ℕ, ◌+◌, ◌<◌, List, length, slice_set, slice_index_or, Bool, false, ◌&&◌, not, cond, Option, Some, None, is_none, ◌==◌}
use Rattle.std.specs.List.{position_or_len}
use Rattle.zio_types.specs.declared.request.ChildKind.{ChildKind}
use Rattle.zio_types.specs.declared.request.ChildKind.TheVariants.{Vdev, Gang, Logical}
use Rattle.zio_types.specs.declared.request.Phase.{Phase}
use Rattle.zio_types.specs.declared.request.Phase.TheVariants.{Ready, Done}
use Rattle.zio_types.specs.Machine.{is_count, is_vdev, same_kind}
use Rattle.zio_counts.specs.declared.child.Child.{Child}
use Rattle.zio_counts.specs.declared.firsts.Firsts.{Firsts}

-- a child as it is added
abbrev pub new_child : {R V : Type 0} → ChildKind → ℕ → Child R V
new_child kind label = record { kind = kind; label = label; ready = None; done = None }

-- the child is of the kind, and has no value for the phase; a vdev child has no ready value to hand in
abbrev pub misses : {R V : Type 0} → ChildKind → Phase → Child R V → Bool
misses kind Ready child = same_kind child.kind kind && (not (is_vdev kind) && is_none child.ready)
misses kind Done child = same_kind child.kind kind && is_none child.done

-- the child exists, and is to hand in a value for the phase
abbrev pub awaits : {R V : Type 0} → Phase → Option (Child R V) → Bool
awaits phase None = false
awaits Ready (Some child) = not (is_vdev child.kind) && is_none child.ready
awaits Done (Some child) = is_none child.done

abbrev pub has_label : {R V : Type 0} → ℕ → Child R V → Bool
has_label label child = child.label == label

-- ---- how they are kept

-- the first child of each kind without a value for each phase, or the number of all
abbrev pub firsts_of : {R V : Type 0} → List (Child R V) → Firsts
firsts_of children = record {
  vdev_done = position_or_len (misses Vdev Done) children;
  gang_ready = position_or_len (misses Gang Ready) children;
  gang_done = position_or_len (misses Gang Done) children;
  logical_ready = position_or_len (misses Logical Ready) children;
  logical_done = position_or_len (misses Logical Done) children;
}

abbrev pub first_of : ChildKind → Phase → ℕ → Firsts → ℕ
first_of Vdev Ready count firsts = count
first_of Vdev Done count firsts = firsts.vdev_done
first_of Gang Ready count firsts = firsts.gang_ready
first_of Gang Done count firsts = firsts.gang_done
first_of Logical Ready count firsts = firsts.logical_ready
first_of Logical Done count firsts = firsts.logical_done

abbrev pub with_first : ChildKind → Phase → ℕ → Firsts → Firsts
with_first Vdev Ready first firsts = firsts
with_first Vdev Done first firsts = record firsts { vdev_done = first }
with_first Gang Ready first firsts = record firsts { gang_ready = first }
with_first Gang Done first firsts = record firsts { gang_done = first }
with_first Logical Ready first firsts = record firsts { logical_ready = first }
with_first Logical Done first firsts = record firsts { logical_done = first }

-- the first child without a value, once a child that misses it or doesn't stands behind so many
abbrev pub stepped : Bool → ℕ → ℕ → ℕ
stepped misses count first = cond (first == count) (count + cond misses 0 1) first

-- the firsts, once a child of this kind without values stands behind so many
abbrev pub all_stepped : ChildKind → ℕ → Firsts → Firsts
all_stepped kind count firsts = record {
  vdev_done = stepped (same_kind kind Vdev) count firsts.vdev_done;
  gang_ready = stepped (same_kind kind Gang) count firsts.gang_ready;
  gang_done = stepped (same_kind kind Gang) count firsts.gang_done;
  logical_ready = stepped (same_kind kind Logical) count firsts.logical_ready;
  logical_done = stepped (same_kind kind Logical) count firsts.logical_done;
}

-- since the firsts were found, the child of this number got its value for the phase
pub record IsPassed {R V : Type 0} (kind : ChildKind) (phase : Phase) (at : ℕ) (firsts : Firsts) (children : List (Child R V)) : Type 0 where
  pub before : List (Child R V)
  pub child : Child R V
  pub within : at < length before
  pub now : children ≡ slice_set before at child
  pub was : firsts ≡ firsts_of before
  pub got : misses kind phase child ≡ false
  pub others : (other : ChildKind) (mark : Phase) → is_count kind phase (record { kind = other; phase = mark }) ≡ false →
      misses other mark child ≡ misses other mark (slice_index_or before at child)
