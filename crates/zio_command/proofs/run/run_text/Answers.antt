use Rattle.std.proofs.Common.{◌≡◌, List, ℕ, inl, inr, refl, sym, subst}
use Rattle.zio_script.specs.Grammar.{IsFaultOf, IsScriptOf}
use Rattle.zio_command.specs.Codes.RunEnds.{AsScript, Wanting}
use Rattle.zio_command.specs.Seen.{shelf_by, sink_by}
use Rattle.zio_command.proofs.CommandLemmas.{script_never, untouched_itself, wanting}
use Rattle.zio_command.proofs.EndLemmas.{line_no_ending, no_ending, refused_ends}
use Rattle.zio_command.proofs.TripLemmas.{KeepOthers-itself}
use Rattle.zio_command.proofs.run.run_text.Goals as goal

pub run_script_on-requires-clause-script : goal.run_script_on-requires-clause-script
run_script_on-requires-clause-script g c = (c.args.text.now, c.in-Ok.ensures.script)

pub returns-in-Ok-clause-ends : goal.returns-in-Ok-clause-ends
returns-in-Ok-clause-ends g c =
    AsScript c.in-Ok.script (λ text is. subst (λ (t : List ℕ). IsScriptOf t c.in-Ok.script) (sym is) c.in-Ok.ensures.script) c.run_script_on.ensures.ends

pub returns-in-Ok-clause-unfetched : goal.returns-in-Ok-clause-unfetched
returns-in-Ok-clause-unfetched g c two = absurd (script_never c.run_script_on.ensures.ends 2 two (inr (inl refl)))

pub returns-in-Err-Fault-clause-left : goal.returns-in-Err-Fault-clause-left
returns-in-Err-Fault-clause-left g c plain e tells = absurd (line_no_ending 2 c.refuse_script.result.code (inl refl) c.refuse_script.ensures.codes_are e)

pub returns-in-Err-Memory-clause-left : goal.returns-in-Err-Memory-clause-left
returns-in-Err-Memory-clause-left g c plain e tells = absurd (no_ending 8 8 e refl (inr (inr (inr (inr (inr (inr refl)))))))

pub returns-in-Err-Fault-clause-ends : goal.returns-in-Err-Fault-clause-ends
returns-in-Err-Fault-clause-ends g c =
    let sink = sink_by g.O.Sink.holds g.O.Sink.faults in
    let saw = shelf_by g.H.Shelf.tells g.H.Shelf.image g.H.Shelf.out g.H.Shelf.faults g.H.Shelf.disk_faults g.H.Shelf.fetches g.H.Shelf.returns g.H.Shelf.last_size in
    let reason = rw c.in-Err-Fault.field-0-is at c.in-Err-Fault.ensures.fault in
    let ends = rw c.in-Err-Fault.fault-is at c.refuse_script.ensures in
    let fault = c.in-Err-Fault.fault in
    refused_ends (λ told. told ≡ c.args.text.now) c.args.mode.now c.args.names.now (sink c.args.out.now) (sink c.refuse_script.new.out)
    (saw c.args.shelf.now) (saw c.args.shelf.now) c.args.journal.now c.args.journal.now fault c.refuse_script.result.code
    (λ text is. subst (λ (t : List ℕ). IsFaultOf t fault) (sym is) reason) (untouched_itself (saw c.args.shelf.now)) refl ends

pub returns-in-Err-Memory-clause-ends : goal.returns-in-Err-Memory-clause-ends
returns-in-Err-Memory-clause-ends g c =
    let sink = sink_by g.O.Sink.holds g.O.Sink.faults in
    let saw = shelf_by g.H.Shelf.tells g.H.Shelf.image g.H.Shelf.out g.H.Shelf.faults g.H.Shelf.disk_faults g.H.Shelf.fetches g.H.Shelf.returns g.H.Shelf.last_size in
    Wanting refl (wanting (sink c.args.out.now) (saw c.args.shelf.now) c.args.journal.now)

pub returns-in-Err-Fault-clause-home : goal.returns-in-Err-Fault-clause-home
returns-in-Err-Fault-clause-home g c tells = KeepOthers-itself c.args.names.now (g.H.Shelf.image c.args.shelf.now) (g.H.Shelf.out c.args.shelf.now)

pub returns-in-Err-Memory-clause-home : goal.returns-in-Err-Memory-clause-home
returns-in-Err-Memory-clause-home g c tells = KeepOthers-itself c.args.names.now (g.H.Shelf.image c.args.shelf.now) (g.H.Shelf.out c.args.shelf.now)
