use Rattle.std.proofs.Common.{◌≡◌, Err, List, ℕ, ap, inl, inr, refl, subst}
use Rattle.zio_command.specs.declared.source.ReadFault.{ReadFault}
use Rattle.zio_script.specs.Grammar.{IsFaultOf, IsScriptOf}
use Rattle.zio_command.specs.Codes.RunEnds.{Wanting}
use Rattle.zio_command.specs.Seen.{shelf_by, sink_by}
use Rattle.zio_command.proofs.CommandLemmas.{run_never, untouched_itself, wanting}
use Rattle.zio_command.proofs.EndLemmas.{ends_retold, no_ending}
use Rattle.zio_command.proofs.ScriptLemmas.{IsFaultOf-read, IsScriptOf-read}
use Rattle.zio_command.proofs.TripLemmas.{KeepOthers-itself}
use Rattle.zio_command.proofs.commands.run_source.Goals as goal

pub returns-in-Ok-clause-ends : goal.returns-in-Ok-clause-ends
returns-in-Ok-clause-ends g c =
    let sink = sink_by g.O.Sink.holds g.O.Sink.faults in
    let saw = shelf_by g.H.Shelf.tells g.H.Shelf.image g.H.Shelf.out g.H.Shelf.faults g.H.Shelf.disk_faults g.H.Shelf.fetches g.H.Shelf.returns g.H.Shelf.last_size in
    let read = c.as_slice.result.now in
    let bytes = c.in-Ok.bytes.items in
    inr (ends_retold (λ told. told ≡ read) (g.S.Source.left c.args.script.now) c.args.mode.now c.args.names.now (sink c.args.out.now) (sink c.run_text.new.out)
    (saw c.args.shelf.now) (saw c.run_text.new.shelf) c.args.journal.now c.run_text.new.journal c.run_text.result.code
    (λ script is text told. IsScriptOf-read text bytes script (c.in-Ok.ensures.read text told)
    (subst (λ (ts : List ℕ). IsScriptOf ts script) c.as_slice.ensures.value (is read refl)))
    (λ fault is text told. IsFaultOf-read text bytes fault (c.in-Ok.ensures.read text told)
    (subst (λ (ts : List ℕ). IsFaultOf ts fault) c.as_slice.ensures.value (is read refl)))
    c.run_text.ensures.ends)

pub returns-in-Ok-clause-unfetched : goal.returns-in-Ok-clause-unfetched
returns-in-Ok-clause-unfetched g c codes = elim codes [
  | inl two ↦ c.run_text.ensures.unfetched two
  | inr five ↦ absurd (run_never c.run_text.ensures.ends 5 five (inr refl))
]

pub returns-in-Err-Failed-clause-ends : goal.returns-in-Err-Failed-clause-ends
returns-in-Err-Failed-clause-ends g c =
    let saw = shelf_by g.H.Shelf.tells g.H.Shelf.image g.H.Shelf.out g.H.Shelf.faults g.H.Shelf.disk_faults g.H.Shelf.fetches g.H.Shelf.returns g.H.Shelf.last_size in
    inl (
      refl,
      record {
        rose = c.in-Err-Failed.ensures.failed (ap (λ (f : ReadFault). Err f) c.in-Err-Failed.field-0-is);
        nothing = λ x. (λ h. h, λ h. h);
        untouched = untouched_itself (saw c.args.shelf.now);
        unentered = refl;
      },
    )

pub returns-in-Err-Memory-clause-ends : goal.returns-in-Err-Memory-clause-ends
returns-in-Err-Memory-clause-ends g c =
    let sink = sink_by g.O.Sink.holds g.O.Sink.faults in
    let saw = shelf_by g.H.Shelf.tells g.H.Shelf.image g.H.Shelf.out g.H.Shelf.faults g.H.Shelf.disk_faults g.H.Shelf.fetches g.H.Shelf.returns g.H.Shelf.last_size in
    inr (Wanting refl (wanting (sink c.args.out.now) (saw c.args.shelf.now) c.args.journal.now))

pub returns-in-Err-Failed-clause-left : goal.returns-in-Err-Failed-clause-left
returns-in-Err-Failed-clause-left g c plain e tells = absurd (no_ending 5 5 e refl (inr (inr (inr (inl refl)))))

pub returns-in-Err-Memory-clause-left : goal.returns-in-Err-Memory-clause-left
returns-in-Err-Memory-clause-left g c plain e tells = absurd (no_ending 8 8 e refl (inr (inr (inr (inr (inr (inr refl)))))))

pub returns-in-Err-Failed-clause-source_steady : goal.returns-in-Err-Failed-clause-source_steady
returns-in-Err-Failed-clause-source_steady g c e = absurd (no_ending 5 5 e refl (inr (inr (inr (inl refl)))))

pub returns-in-Err-Memory-clause-source_steady : goal.returns-in-Err-Memory-clause-source_steady
returns-in-Err-Memory-clause-source_steady g c e = absurd (no_ending 8 8 e refl (inr (inr (inr (inr (inr (inr refl)))))))

pub returns-in-Err-Failed-clause-home : goal.returns-in-Err-Failed-clause-home
returns-in-Err-Failed-clause-home g c tells = KeepOthers-itself c.args.names.now (g.H.Shelf.image c.args.shelf.now) (g.H.Shelf.out c.args.shelf.now)

pub returns-in-Err-Memory-clause-home : goal.returns-in-Err-Memory-clause-home
returns-in-Err-Memory-clause-home g c tells = KeepOthers-itself c.args.names.now (g.H.Shelf.image c.args.shelf.now) (g.H.Shelf.out c.args.shelf.now)
