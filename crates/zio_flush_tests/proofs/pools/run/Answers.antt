use Rattle.std.proofs.Common.{◌≡◌, ℕ, List, length, map, ap, sym, subst, ◌∙◌}
use Rattle.zio_outside.specs.Memory.{told}
use Rattle.zio_outside.specs.MemorySync.{sync_image}
use Rattle.zio_outside.specs.declared.mem_sync_disk.MemSyncDisk.{MemSyncDisk}
use Rattle.zio_cksum.specs.Images.{Images}
use Rattle.zio_disks.specs.Disks.{Tell}
use Rattle.zio_gang.specs.Runs.{top_of}
use Rattle.zio_graph.specs.Graphs.{SeenGraph}
use Rattle.zio_command.specs.Grounds.{IsSettingOf}
use Rattle.zio_command.proofs.RoundsLemmas.{told_sizes}
use Rattle.zio_run.proofs.EngineLemmas.{can_run}
use Rattle.zio_flush_tests.proofs.pools.run.Goals as goal

abbrev disk_len : MemSyncDisk → ℕ
disk_len d = length (sync_image d)

abbrev disk_tells : MemSyncDisk → List ℕ → Type 0
disk_tells d = told (sync_image d)

has_size : (d : MemSyncDisk) (content : List ℕ) → disk_tells d content → length content ≡ disk_len d
has_size d content h = ap length h

pub new-requires-clause-can : goal.new-requires-clause-can
new-requires-clause-can c =
    let is : IsSettingOf c.in-Ok.script (map disk_len c.in_ok-disks.disks.items) c.in-Ok-pool_over.setting =
    subst (λ (ds : List MemSyncDisk). IsSettingOf c.in-Ok.script (map disk_len ds) c.in-Ok-pool_over.setting)
    c.as_slice.ensures.value c.in-Ok-pool_over.ensures.setting in
    can_run c.in-Ok-pool_over.setting (map disk_len c.in_ok-disks.disks.items) is.pool

pub run_pool-ended-requires-clause-tops : goal.run_pool-ended-requires-clause-tops
run_pool-ended-requires-clause-tops c =
    let is : IsSettingOf c.in-Ok.script (map disk_len c.in_ok-disks.disks.items) c.in-Ok-pool_over.setting =
    subst (λ (ds : List MemSyncDisk). IsSettingOf c.in-Ok.script (map disk_len ds) c.in-Ok-pool_over.setting)
    c.as_slice.ensures.value c.in-Ok-pool_over.ensures.setting in
    subst
    (λ (q : SeenGraph MemSyncDisk). (before : Images) → Tell disk_tells q.disks before
    → q.setting.tops ≡ map (top_of before) c.in-Ok.script.tops)
    (sym (c.over-engine.ensures ∙ c.in-Ok-new.ensures.ok))
    (λ before tells. is.tops before (told_sizes disk_len disk_tells has_size c.in_ok-disks.disks.items before tells))
