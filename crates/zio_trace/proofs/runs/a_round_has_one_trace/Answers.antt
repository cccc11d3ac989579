use Rattle.zio_trace.proofs.FamilyTraces.{round_made, round_only}
use Rattle.zio_trace.proofs.FinerTraces.{round_finer}
use Rattle.zio_trace.proofs.runs.a_round_has_one_trace.Goals as goal

pub returns : goal.returns
returns c = record { made = round_made; finer = λ stops j t trees images h. round_finer stops h j t trees images; only = round_only }
