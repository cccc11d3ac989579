-- A walk that is put together in vectors that have room for all of it.
use Rattle.std.specs.Prelude.{◌≡◌, ℕ, ◌+◌, ◌-◌, ◌^◌, ◌≤◌, length, min, vec_capacity}
use Rattle.zio_trace.specs.Tasks.{Walked}
use Rattle.zio_parts.specs.declared.gathered.Gathered.{Gathered}
use Rattle.zio_parts.specs.declared.walked.Counts.{Counts}

-- what was put together so far
abbrev pub gathered : Gathered → Walked
gathered g = record { errors = g.errors.items; bodies = g.bodies.items; heads = g.heads.items }

-- there is room for such a walk
pub record FitsIn (w : Walked) (g : Gathered) : Type 0 where
  pub errors : length w.errors ≤ vec_capacity g.errors
  pub bodies : length w.bodies ≤ vec_capacity g.bodies
  pub heads : length w.heads ≤ vec_capacity g.heads

-- as much as before
pub record KeepsRoom (old new : Gathered) : Type 0 where
  pub errors : vec_capacity old.errors ≤ vec_capacity new.errors
  pub bodies : vec_capacity old.bodies ≤ vec_capacity new.bodies
  pub heads : vec_capacity old.heads ≤ vec_capacity new.heads

-- so many, or the most that can be counted
abbrev pub as_counted : ℕ → ℕ
as_counted n = min n (2 ^ 64 - 1)

-- so many items are those of the walk, and one header more, as far as they can be counted
pub record IsRoomFor (w : Walked) (c : Counts) : Type 0 where
  pub errors : c.errors ≡ as_counted (length w.errors)
  pub bodies : c.bodies ≡ as_counted (length w.bodies)
  pub heads : c.heads ≡ as_counted (length w.heads + 1)
