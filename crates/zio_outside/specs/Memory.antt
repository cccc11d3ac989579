-- What a clause sees of the sources, sinks and disks in memory. They tell all of it.
use Rattle.std.specs.Prelude.{◌≡◌, ℕ, ◌+◌, ◌-◌, ◌<◌, ◌≤◌, min, List, [], length, drop, Option, Some}
use Rattle.std.proofs.Common.{arith}
use Rattle.zio_outside.specs.Outside.{count_max}
use Rattle.zio_outside.specs.declared.mem_stream.MemSource.{MemSource}
use Rattle.zio_outside.specs.declared.mem_stream.MemSink.{MemSink}
use Rattle.zio_outside.specs.declared.mem_disk.MemDisk.{MemDisk}

-- content that is told: these bytes and no others
abbrev pub told : List ℕ → List ℕ → Type 0
told content bytes = bytes ≡ content

-- no call is to fail, and none has failed
pub record IsSteady (fails : List ℕ) (faults : ℕ) : Type 0 where
  pub unlisted : fails ≡ []
  pub faultless : faults ≡ 0

pub IsSteady-below_max : (fails : List ℕ) (faults : ℕ) → IsSteady fails faults → faults < count_max
IsSteady-below_max fails faults steady = omega (arith, steady.faultless)

-- ---- a source

abbrev pub source_left : MemSource → List ℕ
source_left s = drop s.moved s.bytes

abbrev pub source_faults : MemSource → ℕ
source_faults s = s.calls.faults

-- the numbers of its calls that fail
abbrev pub source_fails : MemSource → List ℕ
source_fails s = s.calls.fails

-- how many calls were made
abbrev pub source_calls : MemSource → ℕ
source_calls s = s.calls.made

abbrev pub IsSoundSource : MemSource → Type 0
IsSoundSource s = IsSteady (source_fails s) (source_faults s)

-- ---- a sink

abbrev pub sink_held : MemSink → List ℕ
sink_held s = s.held.items

-- in bytes
abbrev pub sink_room : MemSink → ℕ
sink_room s = s.room

abbrev pub sink_faults : MemSink → ℕ
sink_faults s = s.calls.faults

-- the numbers of its calls that fail
abbrev pub sink_fails : MemSink → List ℕ
sink_fails s = s.calls.fails

-- how many calls were made
abbrev pub sink_calls : MemSink → ℕ
sink_calls s = s.calls.made

-- a sink is sound for as many bytes as its room has left
pub record IsSoundSink (s : MemSink) (more : ℕ) : Type 0 where
  pub steady : IsSteady (sink_fails s) (sink_faults s)
  pub fits : length (sink_held s) + more ≤ sink_room s

pub IsSoundSink-fewer : (s : MemSink) (fewer room : ℕ) → fewer ≤ room → IsSoundSink s room
    → IsSoundSink s fewer
IsSoundSink-fewer s fewer room less sound = record {
  steady = sound.steady;
  fits = let fits = sound.fits in omega arith;
}

-- ---- a disk

abbrev pub disk_image : MemDisk → List ℕ
disk_image d = d.image.items

abbrev pub disk_faults : MemDisk → ℕ
disk_faults d = d.calls.faults

abbrev pub disk_faults_at_fetch : MemDisk → ℕ
disk_faults_at_fetch d = d.faults_at_fetch

-- the name under which a shelf handed it out, if one did
abbrev pub disk_home : MemDisk → Option (List ℕ)
disk_home d = d.home

-- the numbers of its reads and writes that fail
abbrev pub disk_fails : MemDisk → List ℕ
disk_fails d = d.calls.fails

-- how many reads and writes were made
abbrev pub disk_calls : MemDisk → ℕ
disk_calls d = d.calls.made

abbrev pub disk_reads : MemDisk → ℕ
disk_reads d = d.reads

abbrev pub disk_writes : MemDisk → ℕ
disk_writes d = d.writes

abbrev pub IsSoundDisk : MemDisk → Type 0
IsSoundDisk d = IsSteady (disk_fails d) (disk_faults d)

-- a disk was handed out under a name, and is otherwise as it was
pub record HandedOut (was out : MemDisk) (name : List ℕ) : Type 0 where
  pub home : disk_home out ≡ Some name
  pub faults : disk_faults out ≡ min (disk_faults was) (count_max - 1)
  pub at_fetch : disk_faults_at_fetch out ≡ disk_faults out
  pub image : disk_image out ≡ disk_image was
  pub fails : disk_fails out ≡ disk_fails was
  pub calls : disk_calls out ≡ disk_calls was
  pub reads : disk_reads out ≡ disk_reads was
  pub writes : disk_writes out ≡ disk_writes was

-- a call changed nothing but what is counted
pub record IsSameButCalls (old new : MemDisk) : Type 0 where
  pub image : disk_image new ≡ disk_image old
  pub home : disk_home new ≡ disk_home old
  pub at_fetch : disk_faults_at_fetch new ≡ disk_faults_at_fetch old
  pub fails : disk_fails new ≡ disk_fails old
