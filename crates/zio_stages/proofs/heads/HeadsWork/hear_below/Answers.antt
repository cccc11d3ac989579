use Rattle.std.proofs.Common.{◌-◌, arith, refl}
use Rattle.zio_stages.specs.declared.heads.HeadsWork.{HeadsWork}
use Rattle.zio_stages.proofs.HeadsLemmas.{below_heard}
use Rattle.zio_stages.proofs.heads.HeadsWork.hear_below.Goals as goal

pub returns-clause-heard : goal.returns-clause-heard
returns-clause-heard c = λ t x h.
    let now : HeadsWork = record { walk = c.hear_member.new.self; heads = c.args.self.now.heads } in
    below_heard t c.args.self.now now (c.args.n - 1) c.args.n c.args.walked x (omega arith) c.hear_member.ensures.heard c.hear_member.ensures.slots refl h
