use Rattle.zio_trace.specs.Families.{NoTrees}
use Rattle.zio_trace.specs.Tasks.{Attempt, attempted}
use Rattle.zio_sound.proofs.Leaving.{claim_quiet}
use Rattle.zio_sound.proofs.Oracled.{attempt_at}
use Rattle.zio_sound.proofs.claims_never_go_again.Goals as goal

pub returns : goal.returns
returns c = λ journal t o at attempt p h claim.
    claim_quiet t p (attempted (o.answer (record { at = at; op = Attempt attempt p NoTrees }))) claim (attempt_at journal t o h p NoTrees attempt at)
