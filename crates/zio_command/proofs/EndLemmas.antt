-- How the run of a text ends, by its code.
use Rattle.std.proofs.Common.{◌≡◌, ℕ, List, ◌⊎◌, inl, inr, refl, sym, ◌∙◌, subst, arith}
use Rattle.zio_types.specs.declared.journal.Journal.{Journal}
use Rattle.zio_script.specs.declared.script.Script.{Script}
use Rattle.zio_script.specs.declared.script.ScriptFault.{ScriptFault}
use Rattle.zio_script.specs.Grammar.{IsScriptOf}
use Rattle.zio_gang.specs.declared.ending.Ending.{Ending}
use Rattle.zio_gang.specs.declared.ending.Ending.TheVariants.{Complete, Panic, Left}
use Rattle.zio_report.specs.declared.report.RunFault.{RunFault}
use Rattle.zio_report.specs.declared.report.RunFault.TheVariants.{Device, Sink, Memory}
use Rattle.zio_report.specs.Reports.{end_code}
use Rattle.zio_command.specs.declared.mode.RunMode.{RunMode}
use Rattle.zio_command.specs.declared.outcome.RunOutcome.TheVariants.{Ended, Unfit, Cut}
use Rattle.zio_command.specs.Causes.{AreUntouched}
use Rattle.zio_command.specs.Codes.{CameOut, HasRun, IsFaultTold, IsScriptTold, RunEnds, ScriptEnds}
use Rattle.zio_command.specs.Codes.RunEnds.{AsScript, Refused, RefusedCut, Wanting}
use Rattle.zio_command.specs.Codes.ScriptEnds.{Ran, CutShort, NoImage, NoImageCut, Wanting as WantingFirst}
use Rattle.zio_command.specs.Outcomes.{Ends, IsEnding, cut_code, images_line, script_line}
use Rattle.zio_command.specs.Seen.{ShelfSeen, SinkSeen}
use Rattle.zio_command.proofs.ScriptLemmas.{no_script, one_script}

-- ---- codes

pub ending_code : (ending : Ending) → IsEnding (end_code ending)
ending_code Complete = inl refl
ending_code Panic = inr (inl refl)
ending_code Left = inr (inr refl)

-- a code of a run to its end is no other
ending_not : (code n : ℕ) → IsEnding code → code ≡ n → (n ≡ 0 → ⊥) → (n ≡ 4 → ⊥) → (n ≡ 9 → ⊥) → ⊥
ending_not code n (inl e) is a b c = a (sym is ∙ e)
ending_not code n (inr (inl e)) is a b c = b (sym is ∙ e)
ending_not code n (inr (inr e)) is a b c = c (sym is ∙ e)

pub no_ending : (code n : ℕ) → IsEnding code → code ≡ n → (n ≡ 1) ⊎ (n ≡ 2) ⊎ (n ≡ 3) ⊎ (n ≡ 5) ⊎ (n ≡ 6) ⊎ (n ≡ 7) ⊎ (n ≡ 8) → ⊥
no_ending code n e is (inl h) = ending_not code n e is (λ k. omega arith) (λ k. omega arith) (λ k. omega arith)
no_ending code n e is (inr (inl h)) = ending_not code n e is (λ k. omega arith) (λ k. omega arith) (λ k. omega arith)
no_ending code n e is (inr (inr (inl h))) = ending_not code n e is (λ k. omega arith) (λ k. omega arith) (λ k. omega arith)
no_ending code n e is (inr (inr (inr (inl h)))) = ending_not code n e is (λ k. omega arith) (λ k. omega arith) (λ k. omega arith)
no_ending code n e is (inr (inr (inr (inr (inl h))))) = ending_not code n e is (λ k. omega arith) (λ k. omega arith) (λ k. omega arith)
no_ending code n e is (inr (inr (inr (inr (inr (inl h)))))) = ending_not code n e is (λ k. omega arith) (λ k. omega arith) (λ k. omega arith)
no_ending code n e is (inr (inr (inr (inr (inr (inr h)))))) = ending_not code n e is (λ k. omega arith) (λ k. omega arith) (λ k. omega arith)

-- the codes of a run that was cut short
cut_is : (fault : RunFault) → (cut_code fault ≡ 6) ⊎ (cut_code fault ≡ 7) ⊎ (cut_code fault ≡ 8)
cut_is Device = inr (inl refl)
cut_is Sink = inl refl
cut_is Memory = inr (inr refl)

pub cut_no_ending : (fault : RunFault) (code : ℕ) → code ≡ cut_code fault → IsEnding code → ⊥
cut_no_ending Device code is e = no_ending code 7 e is (inr (inr (inr (inr (inr (inl refl))))))
cut_no_ending Sink code is e = no_ending code 6 e is (inr (inr (inr (inr (inl refl)))))
cut_no_ending Memory code is e = no_ending code 8 e is (inr (inr (inr (inr (inr (inr refl))))))

-- nor is that of a line for which a script or an image is refused
pub line_no_ending : (due code : ℕ) → (due ≡ 2) ⊎ (due ≡ 3) → (code ≡ due) ⊎ (code ≡ 6) ⊎ (code ≡ 8) → IsEnding code → ⊥
line_no_ending due code (inl two) (inl is) e = no_ending code 2 e (is ∙ two) (inr (inl refl))
line_no_ending due code (inr three) (inl is) e = no_ending code 3 e (is ∙ three) (inr (inr (inl refl)))
line_no_ending due code which (inr (inl six)) e = no_ending code 6 e six (inr (inr (inr (inr (inl refl)))))
line_no_ending due code which (inr (inr eight)) e = no_ending code 8 e eight (inr (inr (inr (inr (inr (inr refl))))))

-- ---- from an outcome to a code

pub ended_ends : (mode : RunMode) (script : Script) (names : List (List ℕ)) (old_sink new_sink : SinkSeen) (old new : ShelfSeen) (old_journal journal : Journal) (ending : Ending) (code : ℕ)
    → code ≡ end_code ending → CameOut mode script names old_sink new_sink old new old_journal journal (Ended ending)
    → ScriptEnds mode script names old_sink new_sink old new old_journal journal code
ended_ends mode script names old_sink new_sink old new old_journal journal ending code is ran =
    Ran (subst IsEnding (sym is) (ending_code ending))
    (subst (λ (n : ℕ). HasRun mode script names n old_sink new_sink old new journal) (sym is) ran)

pub cut_ends : (mode : RunMode) (script : Script) (names : List (List ℕ)) (old_sink new_sink : SinkSeen) (old new : ShelfSeen) (old_journal journal : Journal) (fault : RunFault) (code : ℕ)
    → code ≡ cut_code fault → CameOut mode script names old_sink new_sink old new old_journal journal (Cut fault)
    → ScriptEnds mode script names old_sink new_sink old new old_journal journal code
cut_ends mode script names old_sink new_sink old new old_journal journal fault code is (inl cut) = CutShort fault is cut
cut_ends mode script names old_sink new_sink old new old_journal journal fault code is (inr (memory, unbegun)) =
    WantingFirst (is ∙ (let e : fault ≡ Memory = memory in subst (λ (f : RunFault). cut_code f ≡ 8) (sym e) refl)) unbegun

pub unfit_ends : (mode : RunMode) (script : Script) (names : List (List ℕ)) (old_sink new_sink : SinkSeen) (old new : ShelfSeen) (old_journal journal : Journal) (leaf code : ℕ)
    → CameOut mode script names old_sink new_sink old new old_journal journal (Unfit leaf)
    → Ends 3 (images_line leaf) code old_sink.faults new_sink.faults old_sink.holds new_sink.holds
    → ScriptEnds mode script names old_sink new_sink old new old_journal journal code
unfit_ends mode script names old_sink new_sink old new old_journal journal leaf code (cause, untouched, unentered) ends = elim ends.codes_are [
  | inl three ↦ NoImage three (record {
    leaf = leaf;
    cause = cause;
    written = ends.written three;
    steady = ends.steady three;
    untouched = untouched;
    unentered = unentered;
  })
  | inr (inl six) ↦ NoImageCut leaf six cause (record {
    written = ends.front six;
    rose = ends.failed six;
    untouched = untouched;
    unentered = unentered;
  })
  | inr (inr eight) ↦ WantingFirst eight (record { nothing = ends.nothing eight; untouched = untouched; unentered = unentered })
]

pub refused_ends : (told : List ℕ → Type 0) (mode : RunMode) (names : List (List ℕ)) (old_sink new_sink : SinkSeen) (old new : ShelfSeen) (old_journal journal : Journal) (fault : ScriptFault) (code : ℕ)
    → IsFaultTold told fault → AreUntouched old new → journal ≡ old_journal
    → Ends 2 (script_line fault) code old_sink.faults new_sink.faults old_sink.holds new_sink.holds
    → RunEnds told mode names old_sink new_sink old new old_journal journal code
refused_ends told mode names old_sink new_sink old new old_journal journal fault code faulty untouched unentered ends = elim ends.codes_are [
  | inl two ↦ Refused two (record {
    fault = fault;
    faulty = faulty;
    written = ends.written two;
    steady = ends.steady two;
    untouched = untouched;
    unentered = unentered;
  })
  | inr (inl six) ↦ RefusedCut fault six faulty (record {
    written = ends.front six;
    rose = ends.failed six;
    untouched = untouched;
    unentered = unentered;
  })
  | inr (inr eight) ↦ Wanting eight (record { nothing = ends.nothing eight; untouched = untouched; unentered = unentered })
]

-- the same of other texts, which are read as those
pub ends_retold : (told other : List ℕ → Type 0) (mode : RunMode) (names : List (List ℕ)) (old_sink new_sink : SinkSeen) (old new : ShelfSeen) (old_journal journal : Journal) (code : ℕ)
    → ((script : Script) → IsScriptTold told script → IsScriptTold other script) → ((fault : ScriptFault) → IsFaultTold told fault → IsFaultTold other fault)
    → RunEnds told mode names old_sink new_sink old new old_journal journal code → RunEnds other mode names old_sink new_sink old new old_journal journal code
ends_retold told other mode names old_sink new_sink old new old_journal journal code scripts faults (AsScript script is ends) = AsScript script (scripts script is) ends
ends_retold told other mode names old_sink new_sink old new old_journal journal code scripts faults (Refused two was) = Refused two (record {
  fault = was.fault;
  faulty = faults was.fault was.faulty;
  written = was.written;
  steady = was.steady;
  untouched = was.untouched;
  unentered = was.unentered;
})
ends_retold told other mode names old_sink new_sink old new old_journal journal code scripts faults (RefusedCut fault six is cut) = RefusedCut fault six (faults fault is) cut
ends_retold told other mode names old_sink new_sink old new old_journal journal code scripts faults (Wanting eight was) = Wanting eight was

-- of a text that is known to be a script, as the script's run does
pub known_ends : (text : List ℕ) (mode : RunMode) (script : Script) (names : List (List ℕ)) (old_sink new_sink : SinkSeen) (old new : ShelfSeen) (old_journal journal : Journal) (code : ℕ)
    → IsScriptOf text script → RunEnds (λ told. told ≡ text) mode names old_sink new_sink old new old_journal journal code
    → ScriptEnds mode script names old_sink new_sink old new old_journal journal code
known_ends text mode script names old_sink new_sink old new old_journal journal code accepted (AsScript other is ends) =
    subst (λ (x : Script). ScriptEnds mode x names old_sink new_sink old new old_journal journal code) (one_script text other script (is text refl) accepted) ends
known_ends text mode script names old_sink new_sink old new old_journal journal code accepted (Refused two was) =
    absurd (no_script text script was.fault accepted (was.faulty text refl))
known_ends text mode script names old_sink new_sink old new old_journal journal code accepted (RefusedCut fault six is cut) =
    absurd (no_script text script fault accepted (is text refl))
known_ends text mode script names old_sink new_sink old new old_journal journal code accepted (Wanting eight was) = WantingFirst eight was
