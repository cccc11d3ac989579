use Rattle.zio_audit.proofs.putting.PutIn.of.Goals as goal

pub returns : goal.returns
returns c = λ later. (λ h. h, λ h. h)
