use Rattle.std.proofs.Common.{ℕ, Vec, ap, ◌∙◌, inl}
use Rattle.std.specs.declared.alloc.Global.{Global}
use Rattle.zio_outside.specs.declared.mem_sync_disk.Recorded.TheVariants.{Sync, FailedSync}
use Rattle.zio_outside.proofs.SyncLemmas.{replayed-more, IsCrash-same, IsCrash-stable, failed_crash, failed_earlier, synced_crash, synced_earlier}
use Rattle.zio_outside.proofs.mem_sync_disk.MemSyncDiskSyncDisk.sync.Goals as goal

pub invariant_of-self-then-is_err-clause-replays : goal.invariant_of-self-then-is_err-clause-replays
invariant_of-self-then-is_err-clause-replays c = replayed-more _ _ FailedSync _ c.args.self.now.replays c.add.ensures.items

pub invariant_of-self-then-is_err-clause-kept : goal.invariant_of-self-then-is_err-clause-kept
invariant_of-self-then-is_err-clause-kept c =
    IsCrash-same _ _ _ _ c.begin.ensures.same.image c.args.self.now.kept

pub returns-then-is_err-clause-crash : goal.returns-then-is_err-clause-crash
returns-then-is_err-clause-crash c asked earlier content went left =
    inl (failed_crash c.args.self.now _ earlier asked content c.add.ensures.items went left)

pub returns-then-is_err-clause-earlier : goal.returns-then-is_err-clause-earlier
returns-then-is_err-clause-earlier c t content left = failed_earlier c.args.self.now _ t content c.add.ensures.items left

pub invariant_of-self-2-clause-replays : goal.invariant_of-self-2-clause-replays
invariant_of-self-2-clause-replays c =
    c.clear.ensures.items ∙ replayed-more _ _ Sync _ c.args.self.now.replays c.add-2.ensures.items

pub invariant_of-self-2-clause-kept : goal.invariant_of-self-2-clause-kept
invariant_of-self-2-clause-kept c = IsCrash-stable _ _ _ (c.copy_from_slice.ensures.items ∙ c.image.ensures)

pub returns-clause-crash : goal.returns-clause-crash
returns-clause-crash c asked earlier content went left =
    let stable = c.copy_from_slice.ensures.items ∙ (c.image.ensures ∙ c.begin.ensures.same.image) in
    let before = ap (λ (v : Vec ℕ Global). v.items) c.swap.ensures.y_after in
    synced_crash c.args.self.now _ _ _ earlier asked content c.add-2.ensures.items stable before went left

pub returns-clause-earlier : goal.returns-clause-earlier
returns-clause-earlier c t content left =
    let stable = c.copy_from_slice.ensures.items ∙ (c.image.ensures ∙ c.begin.ensures.same.image) in
    let before = ap (λ (v : Vec ℕ Global). v.items) c.swap.ensures.y_after in
    synced_earlier c.args.self.now _ _ _ t content c.add-2.ensures.items stable before left
