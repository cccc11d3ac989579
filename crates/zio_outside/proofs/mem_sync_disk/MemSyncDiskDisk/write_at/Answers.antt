use Rattle.std.proofs.Common.{◌∙◌}
use Rattle.zio_outside.specs.declared.mem_sync_disk.Recorded.TheVariants.{Write}
use Rattle.zio_outside.proofs.ContentLemmas.{on_err, TearsAt-same}
use Rattle.zio_outside.proofs.SyncLemmas.{replayed-more, IsCrash-written}
use Rattle.zio_outside.proofs.mem_sync_disk.MemSyncDiskDisk.write_at.Goals as goal

pub returns-then-is_full-clause-failed : goal.returns-then-is_full-clause-failed
returns-then-is_full-clause-failed c = on_err _ (TearsAt-same _ _ _ _ c.refuse_write.ensures.same.image c.requires)

pub invariant_of-self-2-clause-replays : goal.invariant_of-self-2-clause-replays
invariant_of-self-2-clause-replays c =
    c.add-2.ensures.items ∙ replayed-more _ _ (Write _) _ c.args.self.now.replays c.add.ensures.items

pub invariant_of-self-2-clause-kept : goal.invariant_of-self-2-clause-kept
invariant_of-self-2-clause-kept c =
    IsCrash-written c.write_at.result _ _ _ _ _ _ _ c.write_at.ensures.ok c.write_at.ensures.kept c.requires c.add-2.ensures.items c.args.self.now.kept
