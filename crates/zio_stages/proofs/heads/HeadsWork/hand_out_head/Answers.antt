use Rattle.std.proofs.Common.{refl}
use Rattle.zio_stages.specs.declared.heads.HeadsWork.{HeadsWork}
use Rattle.zio_stages.proofs.HeadsLemmas.{head_handed}
use Rattle.zio_stages.proofs.heads.HeadsWork.hand_out_head.Goals as goal

pub returns-clause-hands : goal.returns-clause-hands
returns-clause-hands c = λ t x h.
    let now : HeadsWork = record { walk = c.hand_out_head.new.self; heads = c.args.self.now.heads } in
    head_handed t c.args.self.now now c.head_read-read.result x c.requires c.head_read-read.ensures.of c.hand_out_head.ensures.handed c.hand_out_head.ensures.slots refl h
