use Rattle.std.proofs.Common.{[], ap, sym, ◌∙◌}
use Rattle.std.proofs.lemmas.Result.{IfOk-weaker}
use Rattle.zio_gang.specs.Trees.{header_levels_max}
use Rattle.zio_trace.specs.Plans.{plan}
use Rattle.zio_trace.specs.Tasks.{ByClaim, ReadHeads}
use Rattle.zio_stages.proofs.AtOnce.{if_some_then}
use Rattle.zio_stages.proofs.at_once.claim_at_once.Goals as goal

pub returns-clause-ends : goal.returns-clause-ends
returns-clause-ends c =
    IfOk-weaker c.left_at_once.result _ _ (λ left h. if_some_then left _ _ (λ walked ends t tops.
    ap (λ path. plan t (ReadHeads ByClaim header_levels_max path c.args.bp)) (sym c.root.ensures) ∙ sym (c.claimed-walk.ensures.left t [] tops) ∙ ends []) h) c.left_at_once.ensures.ends
