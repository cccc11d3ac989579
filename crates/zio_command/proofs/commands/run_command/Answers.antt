use Rattle.std.proofs.Common.{◌≡◌, ◌⊎◌, inl, inr, refl, true, false, sym, ap, ◌∙◌, subst}
use Rattle.zio_gen.specs.Generated.{script_text}
use Rattle.zio_script.specs.declared.script.Script.{Script}
use Rattle.zio_script.specs.Grammar.{IsScriptOf}
use Rattle.zio_report.specs.declared.report.Show.TheVariants.{Summary}
use Rattle.zio_command.specs.declared.mode.RunMode.{RunMode}
use Rattle.zio_command.specs.declared.words.Command.{Command}
use Rattle.zio_command.specs.Codes.{RunEnds, ScriptEnds}
use Rattle.zio_command.specs.Commands.{CommandEnds, WasUnread, image_names, mode_of, reads, runs}
use Rattle.zio_command.specs.Modes.{running, scrubbing}
use Rattle.zio_command.specs.Seen.{shelf_by, sink_by, source_by}
use Rattle.zio_command.specs.Shelves.{AreLeft}
use Rattle.zio_command.specs.Words.{AreImages, IsLawfulCommand}
use Rattle.zio_command.proofs.CommandLemmas.{script_never}
use Rattle.zio_command.proofs.commands.run_command.Goals as goal

pub run_source-requires-clause-names : goal.run_source-requires-clause-names
run_source-requires-clause-names g c =
    subst (λ ns. AreImages ns) (sym c.as_slice.ensures) (subst IsLawfulCommand c.in-Run.is c.requires.command)

pub run_generated-requires-clause-names : goal.run_generated-requires-clause-names
run_generated-requires-clause-names g c =
    subst (λ ns. AreImages ns) (sym c.as_slice-in-Load.ensures) (subst IsLawfulCommand c.in-Load.is c.requires.command).1

pub returns-in-Run-clause-ends : goal.returns-in-Run-clause-ends
returns-in-Run-clause-ends g c =
    let source = source_by g.S.Source.left g.S.Source.faults in
    let sink = sink_by g.O.Sink.holds g.O.Sink.faults in
    let saw = shelf_by g.H.Shelf.tells g.H.Shelf.image g.H.Shelf.out g.H.Shelf.faults g.H.Shelf.disk_faults g.H.Shelf.fetches g.H.Shelf.returns g.H.Shelf.last_size in
    let old = saw c.args.shelf.now in
    let new = saw c.run_source.new.shelf in
    let out = sink c.args.out.now in
    let wrote = sink c.run_source.new.out in
    let before = c.args.journal.now in
    let journal = c.run_source.new.journal in
    let code = c.run_source.result.code in
    let unread = (code ≡ 5) × WasUnread (source c.args.script.now) (source c.run_source.new.script) out wrote old new before journal in
    let ends : unread ⊎ RunEnds (g.S.Source.left c.args.script.now) (running c.in-Run.show) c.in-Run.images out wrote old new before journal code =
    subst (λ (m : RunMode). unread ⊎ RunEnds (g.S.Source.left c.args.script.now) m c.in-Run.images out wrote old new before journal code) c.running.ensures
    (subst (λ ns. unread ⊎ RunEnds (g.S.Source.left c.args.script.now) c.running.result ns out wrote old new before journal code) c.as_slice.ensures c.run_source.ensures.ends) in
    subst (λ (x : Command). CommandEnds x (source c.args.script.now) (source c.run_source.new.script) out wrote old new before journal code) (sym c.in-Run.is) ends

pub returns-in-Scrub-clause-ends : goal.returns-in-Scrub-clause-ends
returns-in-Scrub-clause-ends g c =
    let source = source_by g.S.Source.left g.S.Source.faults in
    let sink = sink_by g.O.Sink.holds g.O.Sink.faults in
    let saw = shelf_by g.H.Shelf.tells g.H.Shelf.image g.H.Shelf.out g.H.Shelf.faults g.H.Shelf.disk_faults g.H.Shelf.fetches g.H.Shelf.returns g.H.Shelf.last_size in
    let old = saw c.args.shelf.now in
    let new = saw c.run_source-in-Scrub.new.shelf in
    let out = sink c.args.out.now in
    let wrote = sink c.run_source-in-Scrub.new.out in
    let before = c.args.journal.now in
    let journal = c.run_source-in-Scrub.new.journal in
    let code = c.run_source-in-Scrub.result.code in
    let unread = (code ≡ 5) × WasUnread (source c.args.script.now) (source c.run_source-in-Scrub.new.script) out wrote old new before journal in
    let ends : unread ⊎ RunEnds (g.S.Source.left c.args.script.now) scrubbing c.in-Scrub.images out wrote old new before journal code =
    subst (λ (m : RunMode). unread ⊎ RunEnds (g.S.Source.left c.args.script.now) m c.in-Scrub.images out wrote old new before journal code) c.scrubbing.ensures
    (subst (λ ns. unread ⊎ RunEnds (g.S.Source.left c.args.script.now) c.scrubbing.result ns out wrote old new before journal code) c.as_slice-in-Scrub.ensures c.run_source-in-Scrub.ensures.ends) in
    subst (λ (x : Command). CommandEnds x (source c.args.script.now) (source c.run_source-in-Scrub.new.script) out wrote old new before journal code) (sym c.in-Scrub.is) ends

pub returns-in-Gen-clause-ends : goal.returns-in-Gen-clause-ends
returns-in-Gen-clause-ends g c =
    let source = source_by g.S.Source.left g.S.Source.faults in
    let sink = sink_by g.O.Sink.holds g.O.Sink.faults in
    let saw = shelf_by g.H.Shelf.tells g.H.Shelf.image g.H.Shelf.out g.H.Shelf.faults g.H.Shelf.disk_faults g.H.Shelf.fetches g.H.Shelf.returns g.H.Shelf.last_size in
    let old = saw c.args.shelf.now in
    subst (λ (x : Command). CommandEnds x (source c.args.script.now) (source c.args.script.now) (sink c.args.out.now) (sink c.write_generated.new.out) old old
    c.args.journal.now c.args.journal.now c.write_generated.result.code) (sym c.in-Gen.is) c.write_generated.ensures

pub returns-clause-ends : goal.returns-clause-ends
returns-clause-ends g c =
    let source = source_by g.S.Source.left g.S.Source.faults in
    let sink = sink_by g.O.Sink.holds g.O.Sink.faults in
    let saw = shelf_by g.H.Shelf.tells g.H.Shelf.image g.H.Shelf.out g.H.Shelf.faults g.H.Shelf.disk_faults g.H.Shelf.fetches g.H.Shelf.returns g.H.Shelf.last_size in
    let old = saw c.args.shelf.now in
    let new = saw c.run_generated.new.shelf in
    let out = sink c.args.out.now in
    let wrote = sink c.run_generated.new.out in
    let before = c.args.journal.now in
    let journal = c.run_generated.new.journal in
    let code = c.run_generated.result.code in
    let text = script_text c.in-Load.seed c.in-Load.n in
    let ends : (script : Script) × IsScriptOf text script × ScriptEnds (running Summary) script c.in-Load.images out wrote old new before journal code =
    subst (λ ns. (script : Script) × IsScriptOf text script × ScriptEnds (running Summary) script ns out wrote old new before journal code)
    c.as_slice-in-Load.ensures c.run_generated.ensures.ends in
    subst (λ (x : Command). CommandEnds x (source c.args.script.now) (source c.args.script.now) out wrote old new before journal code) (sym c.in-Load.is) ends

pub returns-in-Run-clause-left : goal.returns-in-Run-clause-left
returns-in-Run-clause-left g c r plain e tells =
    let left = c.run_source.ensures.left (ap (λ (m : RunMode). m.scrubs) c.running.ensures) e tells in
    let image = g.H.Shelf.image c.run_source.new.shelf in
    let keeps = g.H.Shelf.keeps c.run_source.new.shelf in
    let leaves = g.E.Engines.leaves c.run_source.new.journal.rounds in
    subst (λ (x : Command). AreLeft g.H.Disk.Disk.image g.H.Disk.Disk.keeps leaves (image_names x) image keeps) (sym c.in-Run.is)
    (subst (λ ns. AreLeft g.H.Disk.Disk.image g.H.Disk.Disk.keeps leaves ns image keeps) c.as_slice.ensures left)

pub returns-in-Scrub-clause-left : goal.returns-in-Scrub-clause-left
returns-in-Scrub-clause-left g c r plain e tells = let no : true ≡ false = ap (λ (x : Command). (mode_of x).scrubs) (sym c.in-Scrub.is) ∙ plain in cc

pub returns-in-Gen-clause-left : goal.returns-in-Gen-clause-left
returns-in-Gen-clause-left g c r plain e tells = let no : false ≡ true = ap (λ (x : Command). runs x) (sym c.in-Gen.is) ∙ r in cc

pub returns-clause-left : goal.returns-clause-left
returns-clause-left g c r plain e tells =
    let left = c.run_generated.ensures.left e tells in
    let image = g.H.Shelf.image c.run_generated.new.shelf in
    let keeps = g.H.Shelf.keeps c.run_generated.new.shelf in
    let leaves = g.E.Engines.leaves c.run_generated.new.journal.rounds in
    subst (λ (x : Command). AreLeft g.H.Disk.Disk.image g.H.Disk.Disk.keeps leaves (image_names x) image keeps) (sym c.in-Load.is)
    (subst (λ ns. AreLeft g.H.Disk.Disk.image g.H.Disk.Disk.keeps leaves ns image keeps) c.as_slice-in-Load.ensures left)

pub returns-in-Gen-clause-rest : goal.returns-in-Gen-clause-rest
returns-in-Gen-clause-rest g c r five eight text told = let no : false ≡ true = ap (λ (x : Command). reads x) (sym c.in-Gen.is) ∙ r in cc

pub returns-clause-rest : goal.returns-clause-rest
returns-clause-rest g c r five eight text told = let no : false ≡ true = ap (λ (x : Command). reads x) (sym c.in-Load.is) ∙ r in cc

pub returns-clause-unfetched : goal.returns-clause-unfetched
returns-clause-unfetched g c codes = elim codes [
  | inl two ↦ absurd (script_never c.run_generated.ensures.ends.2 2 two (inr (inl refl)))
  | inr five ↦ absurd (script_never c.run_generated.ensures.ends.2 5 five (inr (inr refl)))
]
