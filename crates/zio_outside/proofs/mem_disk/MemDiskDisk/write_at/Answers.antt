use Rattle.zio_outside.proofs.ContentLemmas.{on_err, TearsAt-kept}
use Rattle.zio_outside.proofs.mem_disk.MemDiskDisk.write_at.Goals as goal

pub returns-in_err-begin-clause-failed : goal.returns-in_err-begin-clause-failed
returns-in_err-begin-clause-failed c = on_err _ (TearsAt-kept _ _ _ c.requires)
