use Rattle.std.proofs.Common.{[]}
use Rattle.std.proofs.lemmas.Result.{IfOk-weaker, on_err_weaker}
use Rattle.zio_stages.proofs.PartMoves.{does_map}
use Rattle.zio_stages.proofs.PartNodeLemmas.{err_always}
use Rattle.zio_stages.proofs.part_work.PartWork.vdev_io_start.Goals as goal

pub returns-clause-starts : goal.returns-clause-starts
returns-clause-starts c =
    IfOk-weaker c.next_leaf.result _ _
    (λ leaf call. λ t f o front st e is h. does_map t st [] _ _ (λ mid at. call t f o mid e at) (c.begin.ensures.does t f o front c.args.family.now st is h))
    c.next_leaf.ensures.starts

pub returns-clause-err : goal.returns-clause-err
returns-clause-err c =
    on_err_weaker c.next_leaf.result
    (λ call. λ t f o front st is h. does_map t st [] _ _ (λ mid at. call t f o mid at) (c.begin.ensures.does t f o front c.args.family.now st is h))
    c.next_leaf.ensures.err

pub returns-in_err-begin-clause-err : goal.returns-in_err-begin-clause-err
returns-in_err-begin-clause-err c = err_always c.from_residual.result _ (λ t f o front st is h. c.begin.ensures.does t f o front c.args.family.now st is h)
