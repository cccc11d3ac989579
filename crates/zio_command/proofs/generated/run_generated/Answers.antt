use Rattle.std.proofs.Common.{◌≡◌, List, ℕ, ap, inr, refl, sym, ◌∙◌, subst}
use Rattle.zio_gen.specs.Generated.{script_text}
use Rattle.zio_report.specs.declared.report.Show.TheVariants.{Summary}
use Rattle.zio_script.specs.Grammar.{IsScriptOf}
use Rattle.zio_command.specs.declared.mode.RunMode.{RunMode}
use Rattle.zio_command.specs.Codes.{RunEnds}
use Rattle.zio_command.specs.Codes.ScriptEnds.{Wanting}
use Rattle.zio_command.specs.Modes.{running}
use Rattle.zio_command.specs.Seen.{shelf_by, sink_by}
use Rattle.zio_command.proofs.CommandLemmas.{wanting}
use Rattle.zio_command.proofs.EndLemmas.{known_ends, no_ending}
use Rattle.zio_command.proofs.TripLemmas.{KeepOthers-itself}
use Rattle.zio_command.proofs.generated.run_generated.Goals as goal

pub returns-in-Ok-clause-ends : goal.returns-in-Ok-clause-ends
returns-in-Ok-clause-ends g c =
    let sink = sink_by g.O.Sink.holds g.O.Sink.faults in
    let saw = shelf_by g.H.Shelf.tells g.H.Shelf.image g.H.Shelf.out g.H.Shelf.faults g.H.Shelf.disk_faults g.H.Shelf.fetches g.H.Shelf.returns g.H.Shelf.last_size in
    let script = c.generated_scripts_are_accepted.ensures c.args.seed c.args.n c.ranges.seed.fits c.requires.size.low c.requires.size.high in
    let z : c.as_bytes.result.now ≡ script_text c.args.seed c.args.n = c.as_bytes.ensures.value ∙ (c.as_str.ensures ∙ c.in-Ok.ensures) in
    let accepted = subst (λ (ts : List ℕ). IsScriptOf ts script.0) (sym z) script.1 in (
      script.0,
      script.1,
      known_ends c.as_bytes.result.now (running Summary) script.0 c.args.names.now (sink c.args.out.now) (sink c.run_text.new.out) (saw c.args.shelf.now) (saw c.run_text.new.shelf)
          c.args.journal.now c.run_text.new.journal c.run_text.result.code accepted (subst (λ (m : RunMode). RunEnds (λ told. told ≡ c.as_bytes.result.now) m c.args.names.now (sink c.args.out.now) (sink c.run_text.new.out) (saw c.args.shelf.now) (saw c.run_text.new.shelf) c.args.journal.now c.run_text.new.journal c.run_text.result.code) c.running.ensures c.run_text.ensures.ends),
    )

pub returns-in-Ok-clause-left : goal.returns-in-Ok-clause-left
returns-in-Ok-clause-left g c e tells = c.run_text.ensures.left (ap (λ (m : RunMode). m.scrubs) c.running.ensures) e tells

pub returns-in-Err-clause-left : goal.returns-in-Err-clause-left
returns-in-Err-clause-left g c e tells = absurd (no_ending 8 8 e refl (inr (inr (inr (inr (inr (inr refl)))))))

pub returns-in-Err-clause-ends : goal.returns-in-Err-clause-ends
returns-in-Err-clause-ends g c =
    let sink = sink_by g.O.Sink.holds g.O.Sink.faults in
    let saw = shelf_by g.H.Shelf.tells g.H.Shelf.image g.H.Shelf.out g.H.Shelf.faults g.H.Shelf.disk_faults g.H.Shelf.fetches g.H.Shelf.returns g.H.Shelf.last_size in
    let script = c.generated_scripts_are_accepted.ensures c.args.seed c.args.n c.ranges.seed.fits c.requires.size.low c.requires.size.high in
    (script.0, script.1, Wanting refl (wanting (sink c.args.out.now) (saw c.args.shelf.now) c.args.journal.now))

pub returns-in-Err-clause-home : goal.returns-in-Err-clause-home
returns-in-Err-clause-home g c tells = KeepOthers-itself c.args.names.now (g.H.Shelf.image c.args.shelf.now) (g.H.Shelf.out c.args.shelf.now)
