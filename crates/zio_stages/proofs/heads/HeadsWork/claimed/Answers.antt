use Rattle.std.proofs.Common.{true, []}
use Rattle.zio_stages.specs.declared.heads.HeadsWork.{HeadsWork}
use Rattle.zio_stages.proofs.HeadsLemmas.{fresh_heads, none_kept}
use Rattle.zio_stages.proofs.heads.HeadsWork.claimed.Goals as goal

pub returns-clause-fresh : goal.returns-clause-fresh
returns-clause-fresh c = λ t tops.
    let w : HeadsWork = record { walk = c.claimed.result; heads = c.new.result } in
    fresh_heads t w true c.args.levels c.args.path c.args.bp c.claimed.result.judged [] c.claimed.ensures.fresh (c.claimed.ensures.left t [] tops)
    (none_kept c.new.result.items c.args.path 0 c.new.ensures.items)
