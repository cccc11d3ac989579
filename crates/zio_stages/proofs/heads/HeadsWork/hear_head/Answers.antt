use Rattle.std.proofs.Common.{refl}
use Rattle.zio_stages.specs.declared.heads.HeadsWork.{HeadsWork}
use Rattle.zio_stages.proofs.HeadsLemmas.{head_heard, out_header}
use Rattle.zio_stages.proofs.PartsOutLemmas.{on_both}
use Rattle.zio_stages.proofs.heads.HeadsWork.hear_head.Goals as goal

pub returns-clause-heard : goal.returns-clause-heard
returns-clause-heard c =
    let now : HeadsWork = record { walk = c.hear_head.new.self; heads = c.args.self.now.heads } in
    let out = out_header c.args.self.now.walk.header c.args.self.now.walk.members c.requires in
    on_both c.hear_head.result (λ is slots t x h. head_heard t c.args.self.now now c.args.found x out is slots refl h) c.hear_head.ensures.heard c.hear_head.ensures.slots
