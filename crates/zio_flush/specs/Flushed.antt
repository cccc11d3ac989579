-- An engine that flushes, as contracts see it.
use Rattle.std.specs.Prelude.{◌≡◌, ◌≢◌, ℕ, List, cond, Bool, true, false}
use Rattle.zio_outside.specs.declared.written.Written.{Written}
use Rattle.zio_cksum.specs.Images.{Images}
use Rattle.zio_disks.specs.Disks.{Tell}
use Rattle.zio_graph.specs.Graphs.{SeenGraph}
use Rattle.zio_graph.specs.Stable.{AreStable}

-- as its engine; a flush that failed stops it too
abbrev pub seen_flushing : {D : Type 0} → SeenGraph D → Bool → SeenGraph D
seen_flushing g failed = record {
  setting = g.setting;
  disks = g.disks;
  live = g.live;
  last = g.last;
  stopped = cond failed true g.stopped;
}

-- where it ran a round and wasn't stopped, the images that are told are stable
abbrev pub IsFlushed : {D : Type 0} → (D → List ℕ → Type 0) → (D → List ℕ → List Written → Type 0) → SeenGraph D → Type 0
IsFlushed {D = D} image keeps g = g.last ≢ 0 → g.stopped ≡ false → (images : Images) → Tell {D = D} image g.disks images →
    AreStable {D = D} keeps g.disks images
