use Rattle.zio_outside.specs.declared.mem_sync_disk.Recorded.TheVariants.{Read}
use Rattle.zio_outside.proofs.SyncLemmas.{replayed-more, IsCrash-same}
use Rattle.zio_outside.proofs.mem_sync_disk.MemSyncDiskDisk.read_at.Goals as goal

pub invariant_of-self-2-clause-replays : goal.invariant_of-self-2-clause-replays
invariant_of-self-2-clause-replays c = replayed-more _ _ Read _ c.args.self.now.replays c.add.ensures.items

pub invariant_of-self-2-clause-kept : goal.invariant_of-self-2-clause-kept
invariant_of-self-2-clause-kept c = IsCrash-same _ _ _ _ c.read_at.ensures.image c.args.self.now.kept
