use Rattle.zio_outside.proofs.ContentLemmas.{on_err, AppendsFront-kept}
use Rattle.zio_outside.proofs.mem_stream.MemSinkSink.write.Goals as goal

pub returns-then-piece-self-clause-failed : goal.returns-then-piece-self-clause-failed
returns-then-piece-self-clause-failed c = on_err _ (AppendsFront-kept _ _)
