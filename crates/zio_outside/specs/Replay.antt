-- What a disk in memory with a volatile cache kept at each moment, by a replay of its calls.
use Rattle.std.specs.Prelude.{◌≡◌, ℕ, zero, suc, ◌≤◌, List, [], ◌∷◌, ◌++◌, length, take, drop}
use Rattle.zio_outside.specs.Crash.{IsCrash}
use Rattle.zio_outside.specs.declared.mem_sync_disk.Recorded.{Recorded}
use Rattle.zio_outside.specs.declared.mem_sync_disk.Recorded.TheVariants.{Read, Write, Sync, FailedSync}
use Rattle.zio_outside.specs.declared.written.Written.{Written}

-- the ranges written since the image was stable, after one more call
abbrev pub ranges_after : List Written → Recorded → List Written
ranges_after ranges Read = ranges
ranges_after ranges (Write range) = ranges ++ range ∷ []
ranges_after ranges Sync = []
ranges_after ranges FailedSync = ranges

-- the same after these calls, in their order
abbrev pub replayed : List Written → List Recorded → List Written
replayed ranges [] = ranges
replayed ranges (call ∷ calls) = replayed (ranges_after ranges call) calls

-- how many of these calls made the image stable
abbrev pub syncs_of : List Recorded → ℕ
syncs_of [] = 0
syncs_of (Read ∷ calls) = syncs_of calls
syncs_of (Write range ∷ calls) = syncs_of calls
syncs_of (Sync ∷ calls) = suc (syncs_of calls)
syncs_of (FailedSync ∷ calls) = syncs_of calls

-- the ranges of the writes among these calls, in their order
abbrev pub ranges_of : List Recorded → List Written
ranges_of [] = []
ranges_of (Read ∷ calls) = ranges_of calls
ranges_of (Write range ∷ calls) = range ∷ ranges_of calls
ranges_of (Sync ∷ calls) = ranges_of calls
ranges_of (FailedSync ∷ calls) = ranges_of calls

-- The stable image at a moment since which so many syncs succeeded. The disk has its last two stable images; of those
-- before it tells the size alone.
abbrev pub WasStable : List ℕ → List ℕ → ℕ → List ℕ → Type 0
WasStable stable before zero image = image ≡ stable
WasStable stable before (suc zero) image = image ≡ before
WasStable stable before (suc (suc more)) image = length image ≡ length stable

-- A crash at some moment from this one on might have left this. A moment is a number of calls.
pub record LeftSince (calls : List Recorded) (stable before : List ℕ) (from : ℕ) (content : List ℕ) : Type 0 where
  pub moment : ℕ
  pub since : from ≤ moment
  pub made : moment ≤ length calls
  pub stable_then : List ℕ
  pub was : WasStable stable before (syncs_of (drop moment calls)) stable_then
  pub crash : IsCrash stable_then (replayed [] (take moment calls)) content
