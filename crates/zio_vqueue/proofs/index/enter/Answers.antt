use Rattle.zio_vqueue.specs.Spots.{timed_of}
use Rattle.zio_vqueue.proofs.ByTimeLemmas.{indexed_put, indexed_timed, indexed_undone, timed_is}
use Rattle.zio_vqueue.proofs.index.enter.Goals as goal

pub returns-in-Ok-clause-ok : goal.returns-in-Ok-clause-ok
returns-in-Ok-clause-ok c =
    timed_is _ _
    (indexed_put (timed_of c.args.spots.now.entries) c.args.spots.now.entries c.shelve.new.spots.entries c.args.time c.args.op c.requires.indexed c.requires.fits c.requires.apart c.requires.later c.shelve.ensures.ordered
    c.in-Ok.ensures.ok)

pub returns-in-Ok-clause-indexed : goal.returns-in-Ok-clause-indexed
returns-in-Ok-clause-indexed c =
    indexed_timed _ _
    (indexed_put (timed_of c.args.spots.now.entries) c.args.spots.now.entries c.shelve.new.spots.entries c.args.time c.args.op c.requires.indexed c.requires.fits c.requires.apart c.requires.later c.shelve.ensures.ordered
    c.in-Ok.ensures.ok)

pub returns-in-Err-clause-err : goal.returns-in-Err-clause-err
returns-in-Err-clause-err c =
    timed_is _ _
    (indexed_undone (timed_of c.args.spots.now.entries) c.args.spots.now.entries c.shelve.new.spots.entries c.unshelve.new.spots.entries c.args.time c.args.op c.requires.indexed c.requires.later c.unshelve.ensures.ordered
    c.in-Err.ensures.err c.unshelve.ensures.cleared)

pub returns-in-Err-clause-indexed : goal.returns-in-Err-clause-indexed
returns-in-Err-clause-indexed c =
    indexed_timed _ _
    (indexed_undone (timed_of c.args.spots.now.entries) c.args.spots.now.entries c.shelve.new.spots.entries c.unshelve.new.spots.entries c.args.time c.args.op c.requires.indexed c.requires.later c.unshelve.ensures.ordered
    c.in-Err.ensures.err c.unshelve.ensures.cleared)
