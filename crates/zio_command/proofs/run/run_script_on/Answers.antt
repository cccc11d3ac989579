use Rattle.std.proofs.Common.{inr, refl, subst}
use Rattle.zio_command.specs.Outcomes.{Ends, images_line}
use Rattle.zio_command.specs.Seen.{shelf_by, sink_by}
use Rattle.zio_command.proofs.EndLemmas.{cut_ends, cut_no_ending, ended_ends, line_no_ending, unfit_ends}
use Rattle.zio_command.proofs.run.run_script_on.Goals as goal

pub returns-in-Ended-clause-ends : goal.returns-in-Ended-clause-ends
returns-in-Ended-clause-ends g c =
    let sink = sink_by g.O.Sink.holds g.O.Sink.faults in
    let saw = shelf_by g.H.Shelf.tells g.H.Shelf.image g.H.Shelf.out g.H.Shelf.faults g.H.Shelf.disk_faults g.H.Shelf.fetches g.H.Shelf.returns g.H.Shelf.last_size in
    ended_ends c.args.mode.now c.args.script.now c.args.names.now (sink c.args.out.now) (sink c.run_on_shelf.new.out)
    (saw c.args.shelf.now) (saw c.run_on_shelf.new.shelf) c.args.journal.now c.run_on_shelf.new.journal c.in-Ended.ending c.code_of.result
    c.code_of.ensures c.in-Ended.ensures.outcome

pub returns-in-Unfit-clause-ends : goal.returns-in-Unfit-clause-ends
returns-in-Unfit-clause-ends g c =
    let sink = sink_by g.O.Sink.holds g.O.Sink.faults in
    let saw = shelf_by g.H.Shelf.tells g.H.Shelf.image g.H.Shelf.out g.H.Shelf.faults g.H.Shelf.disk_faults g.H.Shelf.fetches g.H.Shelf.returns g.H.Shelf.last_size in
    unfit_ends c.args.mode.now c.args.script.now c.args.names.now (sink c.args.out.now) (sink c.refuse_image.new.out)
    (saw c.args.shelf.now) (saw c.run_on_shelf.new.shelf) c.args.journal.now c.run_on_shelf.new.journal c.in-Unfit.leaf c.refuse_image.result.code
    c.in-Unfit.ensures.outcome
    (subst (λ o. Ends 3 (images_line c.in-Unfit.leaf) c.refuse_image.result.code (g.O.Sink.faults o) (g.O.Sink.faults c.refuse_image.new.out) (g.O.Sink.holds o) (g.O.Sink.holds c.refuse_image.new.out))
    (c.in-Unfit.ensures.unwritten c.in-Unfit.leaf refl) c.refuse_image.ensures)

pub returns-in-Cut-clause-ends : goal.returns-in-Cut-clause-ends
returns-in-Cut-clause-ends g c =
    let sink = sink_by g.O.Sink.holds g.O.Sink.faults in
    let saw = shelf_by g.H.Shelf.tells g.H.Shelf.image g.H.Shelf.out g.H.Shelf.faults g.H.Shelf.disk_faults g.H.Shelf.fetches g.H.Shelf.returns g.H.Shelf.last_size in
    cut_ends c.args.mode.now c.args.script.now c.args.names.now (sink c.args.out.now) (sink c.run_on_shelf.new.out)
    (saw c.args.shelf.now) (saw c.run_on_shelf.new.shelf) c.args.journal.now c.run_on_shelf.new.journal c.in-Cut.fault c.code_for.result
    c.code_for.ensures c.in-Cut.ensures.outcome

pub returns-in-Ended-clause-left : goal.returns-in-Ended-clause-left
returns-in-Ended-clause-left g c plain e tells = c.run_on_shelf.ensures.left plain c.in-Ended.ending c.in-Ended.is tells

pub returns-in-Unfit-clause-left : goal.returns-in-Unfit-clause-left
returns-in-Unfit-clause-left g c plain e tells = absurd (line_no_ending 3 c.refuse_image.result.code (inr refl) c.refuse_image.ensures.codes_are e)

pub returns-in-Cut-clause-left : goal.returns-in-Cut-clause-left
returns-in-Cut-clause-left g c plain e tells = absurd (cut_no_ending c.in-Cut.fault c.code_for.result c.code_for.ensures e)
