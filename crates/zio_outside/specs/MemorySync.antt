-- What a clause sees of a disk in memory with a volatile cache.
use Rattle.std.specs.Prelude.{◌≡◌, ℕ, ◌-◌, List, ◌++◌, length, Option}
use Rattle.zio_outside.specs.Crash.{IsPart}
use Rattle.zio_outside.specs.Memory.{disk_image, disk_faults, disk_faults_at_fetch, disk_home, disk_fails, disk_calls, disk_reads, disk_writes, HandedOut}
use Rattle.zio_outside.specs.Replay.{LeftSince, ranges_of, syncs_of}
use Rattle.zio_outside.specs.declared.mem_sync_disk.MemSyncDisk.{MemSyncDisk}
use Rattle.zio_outside.specs.declared.mem_sync_disk.Recorded.{Recorded}
use Rattle.zio_outside.specs.declared.written.Written.{Written}

abbrev pub sync_image : MemSyncDisk → List ℕ
sync_image d = disk_image d.disk

abbrev pub sync_stable : MemSyncDisk → List ℕ
sync_stable d = d.stable.items

-- the stable image before the last sync that succeeded
abbrev pub sync_before : MemSyncDisk → List ℕ
sync_before d = d.before.items

-- the ranges written since the image was stable, in the order of writing
abbrev pub sync_ranges : MemSyncDisk → List Written
sync_ranges d = d.ranges.items

-- its calls within the room
abbrev pub sync_log : MemSyncDisk → List Recorded
sync_log d = d.log.items

-- for how many more calls the record has room
abbrev pub sync_left : MemSyncDisk → ℕ
sync_left d = d.room - length (sync_log d)

abbrev pub sync_faults : MemSyncDisk → ℕ
sync_faults d = disk_faults d.disk

abbrev pub sync_faults_at_fetch : MemSyncDisk → ℕ
sync_faults_at_fetch d = disk_faults_at_fetch d.disk

-- the name under which a shelf handed it out, if one did
abbrev pub sync_home : MemSyncDisk → Option (List ℕ)
sync_home d = disk_home d.disk

-- the numbers of its reads, writes and syncs that fail
abbrev pub sync_fails : MemSyncDisk → List ℕ
sync_fails d = disk_fails d.disk

-- how many reads, writes and syncs were made within the room
abbrev pub sync_calls : MemSyncDisk → ℕ
sync_calls d = disk_calls d.disk

abbrev pub sync_reads : MemSyncDisk → ℕ
sync_reads d = disk_reads d.disk

abbrev pub sync_writes : MemSyncDisk → ℕ
sync_writes d = disk_writes d.disk

-- it keeps this stable image and these ranges
abbrev pub SyncKeeps : MemSyncDisk → List ℕ → List Written → Type 0
SyncKeeps d stable ranges = (stable ≡ sync_stable d) × (ranges ≡ sync_ranges d)

-- from the one state to the other no sync succeeded, and the writes were some of those asked
pub record SyncWent (asked : List Written) (old new : MemSyncDisk) : Type 0 where
  pub calls : List Recorded
  pub log : sync_log new ≡ sync_log old ++ calls
  pub unsynced : syncs_of calls ≡ 0
  pub part : IsPart (ranges_of calls) asked
  pub stable : sync_stable new ≡ sync_stable old
  pub before : sync_before new ≡ sync_before old

abbrev pub sync_moment : MemSyncDisk → ℕ
sync_moment d = length (sync_log d)

abbrev pub SyncLeftSince : MemSyncDisk → ℕ → List ℕ → Type 0
SyncLeftSince d = LeftSince (sync_log d) (sync_stable d) (sync_before d)

-- a disk was handed out under a name, and is otherwise as it was
pub record SyncHandedOut (was out : MemSyncDisk) (name : List ℕ) : Type 0 where
  pub disk : HandedOut was.disk out.disk name
  pub stable : sync_stable out ≡ sync_stable was
  pub ranges : sync_ranges out ≡ sync_ranges was
  pub left : sync_left out ≡ sync_left was
