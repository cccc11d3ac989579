use Rattle.std.proofs.Common.{◌∙◌, ap}
use Rattle.zio_trace.specs.Plans.{plan}
use Rattle.zio_trace.specs.Tasks.{ReadHeads}
use Rattle.zio_parts.specs.HeadWalks.{fresh_walk, look_of}
use Rattle.zio_stages.specs.declared.heads.HeadsWork.{HeadsWork}
use Rattle.zio_stages.proofs.HeadsLemmas.{below_handed}
use Rattle.zio_stages.proofs.heads.HeadsWork.hand_out_below.Goals as goal

pub returns-clause-hands : goal.returns-clause-hands
returns-clause-hands c = λ t x tops h.
    let m = c.args.member in
    let walk = c.walk_below-walk.result in
    let now : HeadsWork = record { walk = c.hand_out_member.new.self; heads = c.drop_under.new.heads } in
    let child : HeadsWork = record { walk = walk; heads = c.args.heads } in
    below_handed t c.args.self.now now child m walk.judged x c.requires.step
    c.hand_out_member.ensures.handed c.hand_out_member.ensures.slots c.drop_under.ensures
    (c.walk_below-walk.ensures.fresh ∙ ap (λ b. fresh_walk b m.levels m.path m.bp walk.judged) c.is_claim.ensures)
    (λ heads. c.walk_below-walk.ensures.left t heads tops ∙ ap (λ b. plan t (ReadHeads (look_of b heads) m.levels m.path m.bp)) c.is_claim.ensures)
    c.requires.under h

pub returns-clause-below : goal.returns-clause-below
returns-clause-below c =
    let m = c.args.member in
    c.walk_below-walk.ensures.fresh ∙ ap (λ b. fresh_walk b m.levels m.path m.bp c.walk_below-walk.result.judged) c.is_claim.ensures

pub returns-clause-judged : goal.returns-clause-judged
returns-clause-judged c = λ yes. c.walk_below-walk.ensures.judged (c.is_claim.ensures ∙ yes)
