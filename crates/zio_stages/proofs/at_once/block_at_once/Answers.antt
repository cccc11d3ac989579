use Rattle.std.proofs.Common.{[], ap, sym, ◌∙◌}
use Rattle.std.proofs.lemmas.Result.{IfOk-weaker}
use Rattle.zio_gang.specs.Trees.{header_levels_max}
use Rattle.zio_trace.specs.Plans.{plan}
use Rattle.zio_trace.specs.Tasks.{ByKept, ReadHeads}
use Rattle.zio_stages.proofs.AtOnce.{body_alone, if_some_then}
use Rattle.zio_stages.proofs.at_once.block_at_once.Goals as goal

pub returns-clause-body : goal.returns-clause-body
returns-clause-body c =
    IfOk-weaker c.left_at_once.result _ _ (λ left h. if_some_then left _ _ (λ walked ends.
    body_alone c.args.bp c.kept-walk.result walked _ c.kept-walk.ensures.fresh (ends [])) h) c.left_at_once.ensures.ends

pub returns-clause-ends : goal.returns-clause-ends
returns-clause-ends c =
    IfOk-weaker c.left_at_once.result _ _ (λ left h. if_some_then left _ _ (λ walked ends t heads.
    ap (λ path. plan t (ReadHeads (ByKept heads) header_levels_max path c.args.bp)) (sym c.root.ensures) ∙ sym (c.kept-walk.ensures.left t heads) ∙ ends heads) h) c.left_at_once.ensures.ends
