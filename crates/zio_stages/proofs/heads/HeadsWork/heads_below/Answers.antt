use Rattle.std.proofs.Common.{◌∙◌, ap, filter}
use Rattle.std.proofs.lemmas.Result.{IfOk-weaker}
use Rattle.zio_stages.specs.HeadsWorks.{is_under}
use Rattle.zio_stages.proofs.heads.HeadsWork.heads_below.Goals as goal

pub returns : goal.returns
returns c = IfOk-weaker c.heads_under.result _ _ (λ under h. h ∙ ap (λ hs. filter (is_under c.args.path.now) hs) c.as_slice.ensures.value) c.heads_under.ensures
