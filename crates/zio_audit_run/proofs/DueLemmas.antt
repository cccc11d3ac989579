-- What is due for the files that a shelf tells comes, where no count of its faults rose.
use Rattle.std.proofs.Common.{◌≡◌, ◌+◌, ◌*◌, ℕ, List, [], ◌∷◌, length, inl, inr, sym, ap, ◌∙◌, subst, arith}
use Rattle.std.proofs.lemmas.List.{length-map}
use Rattle.std.specs.List.{AllByRecursion}
use Rattle.zio_outside.specs.Outside.{Appends, Rose}
use Rattle.zio_audit.specs.declared.verdict.Verdict.{Verdict}
use Rattle.zio_audit.specs.declared.verdict.Verdict.TheVariants.{Yes, No}
use Rattle.zio_audit.specs.Verdicts.{Case, IsVerdict}
use Rattle.zio_audit.proofs.AnswerLemmas.{one_verdict}
use Rattle.zio_command.specs.Outcomes.{Ends}
use Rattle.zio_command.specs.Seen.{ShelfSeen, SinkSeen}
use Rattle.zio_command.proofs.TripLemmas.{tell_each_one}
use Rattle.zio_audit_run.specs.Causes.{IsFileCause, WasJudged}
use Rattle.zio_audit_run.specs.Codes.{AuditEnds, IsDue, IsTold, WasCut, WasWritten, files_line, verdict_code, verdict_line}
use Rattle.zio_audit_run.specs.Codes.AuditEnds.{Judged, Blamed, JudgedCut, BlamedCut, Stopped, Wanting}
use Rattle.zio_audit_run.specs.Codes.IsDue.{OfFile, OfVerdict}
use Rattle.zio_audit_run.specs.Files.{AreFit, IsUnfit, TellCase, files_in, sizes_in}
use Rattle.zio_audit_run.specs.Words.{NameAudit}
use Rattle.zio_audit_run.proofs.CodeLemmas.{ends_told}
use Rattle.zio_audit_run.proofs.SizeLemmas.{fit_not, may_fit, one_case, one_unfit}

-- ---- how a call ends where a line was due

pub written_ends : (due : ℕ) (line : List ℕ) (code : ℕ) (old new : SinkSeen) → code ≡ due → (due ≡ 6 → ⊥) → (due ≡ 8 → ⊥) → WasWritten line old new
    → Ends due line code old.faults new.faults old.holds new.holds
written_ends due line code old new is six eight was = record {
  codes_are = inl is;
  written = λ e. was.written;
  steady = λ e. was.steady;
  failed = λ e. absurd (six (sym is ∙ e));
  front = λ e. absurd (six (sym is ∙ e));
  nothing = λ e. absurd (eight (sym is ∙ e));
}

pub cut_ends : (due : ℕ) (line : List ℕ) (code : ℕ) (old new : SinkSeen) → code ≡ 6 → (due ≡ 6 → ⊥) → WasCut line old new
    → Ends due line code old.faults new.faults old.holds new.holds
cut_ends due line code old new is six was = record {
  codes_are = inr (inl is);
  written = λ e. absurd (six (sym e ∙ is));
  steady = λ e. absurd (six (sym e ∙ is));
  failed = λ e. was.rose;
  front = λ e. was.front;
  nothing = λ e. absurd (omega arith);
}

pub wanting_ends : (due : ℕ) (line : List ℕ) (code : ℕ) (old new : SinkSeen) → code ≡ 8 → (due ≡ 8 → ⊥)
    → ((held : List ℕ) → old.holds held → new.holds held) → ((held : List ℕ) → new.holds held → old.holds held)
    → Ends due line code old.faults new.faults old.holds new.holds
wanting_ends due line code old new is eight there back = record {
  codes_are = inr (inr is);
  written = λ e. absurd (eight (sym e ∙ is));
  steady = λ e. absurd (eight (sym e ∙ is));
  failed = λ e. absurd (omega arith);
  front = λ e. absurd (omega arith);
  nothing = λ e x. (there x, back x);
}

-- ---- what is due

verdict_not_six : (verdict : Verdict) → verdict_code verdict ≡ 6 → ⊥
verdict_not_six Yes e = omega arith
verdict_not_six (No why) e = omega arith

verdict_not_eight : (verdict : Verdict) → verdict_code verdict ≡ 8 → ⊥
verdict_not_eight Yes e = omega arith
verdict_not_eight (No why) e = omega arith

pub due_not_six : (c : Case) (due : ℕ) (line : List ℕ) → IsDue c due line → due ≡ 6 → ⊥
due_not_six c due line (OfFile k unfit is line_is) six = omega arith
due_not_six c due line (OfVerdict verdict may it is line_is) six = verdict_not_six verdict (sym is ∙ six)

pub due_not_eight : (c : Case) (due : ℕ) (line : List ℕ) → IsDue c due line → due ≡ 8 → ⊥
due_not_eight c due line (OfFile k unfit is line_is) eight = omega arith
due_not_eight c due line (OfVerdict verdict may it is line_is) eight = verdict_not_eight verdict (sym is ∙ eight)

-- the code and the line that are due are these
pub record AreThese (due : ℕ) (line : List ℕ) (code : ℕ) (text : List ℕ) : Type 0 where
  pub code_is : due ≡ code
  pub line_is : line ≡ text

due_verdict : (c : Case) (due : ℕ) (line : List ℕ) (verdict : Verdict) → IsDue c due line → AreFit (sizes_in c) → IsVerdict c verdict
    → AreThese due line (verdict_code verdict) (verdict_line verdict)
due_verdict c due line verdict (OfFile k unfit is line_is) fit it = absurd (fit_not (sizes_in c) k fit unfit)
due_verdict c due line verdict (OfVerdict other may other_it is line_is) fit it =
    let same : other ≡ verdict = one_verdict c other verdict other_it it in
    record { code_is = is ∙ ap verdict_code same; line_is = line_is ∙ ap verdict_line same }

due_file : (c : Case) (due : ℕ) (line : List ℕ) (k : ℕ) → IsDue c due line → IsUnfit (sizes_in c) k → AreThese due line 3 (files_line k)
due_file c due line k (OfFile j unfit is line_is) it =
    record { code_is = is; line_is = line_is ∙ ap files_line (one_unfit (sizes_in c) j k unfit it) }
due_file c due line k (OfVerdict verdict may it is line_is) unfit = absurd (fit_not (sizes_in c) k (may_fit c may) unfit)

-- ---- the files that the shelf tells

-- the case that was read is the one that is told
pub read_is : (names : List (List ℕ)) (old new : ShelfSeen) (verdict : Verdict) (c : Case) → ((name a b : List ℕ) → old.image name a → old.image name b → a ≡ b)
    → old.tells → TellCase old.image names c → (judged : WasJudged names verdict old new) → judged.read ≡ c
read_is names old new verdict c one tells told judged =
    let read = judged.read in
    let pairs : length read.after ≡ length read.before =
    sym (length-map read.after (length {A = ℕ})) ∙ (ap length judged.may.pairs ∙ length-map read.before (length {A = ℕ})) in
    one_case read c pairs told.pairs (tell_each_one old.image one names (files_in read) (files_in c) (judged.files.told tells) told.each)

judged_due : (names : List (List ℕ)) (old new : ShelfSeen) (verdict : Verdict) (c : Case) (due : ℕ) (line : List ℕ)
    → ((name a b : List ℕ) → old.image name a → old.image name b → a ≡ b) → old.tells → TellCase old.image names c
    → WasJudged names verdict old new → IsDue c due line → AreThese due line (verdict_code verdict) (verdict_line verdict)
judged_due names old new verdict c due line one tells told judged is =
    let same = read_is names old new verdict c one tells told judged in
    due_verdict c due line verdict is (subst (λ (d : Case). AreFit (sizes_in d)) same judged.files.fit)
    (subst (λ (d : Case). IsVerdict d verdict) same judged.is)

blamed_due : (names : List (List ℕ)) (old new : ShelfSeen) (k : ℕ) (c : Case) (due : ℕ) (line : List ℕ) → old.tells → TellCase old.image names c
    → (Rose old.faults new.faults → ⊥) → IsFileCause names old new k → IsDue c due line → AreThese due line 3 (files_line k)
blamed_due names old new k c due line tells told calm (inl unfetched) is = absurd (calm unfetched.rose)
blamed_due names old new k c due line tells told calm (inr place) is =
    due_file c due line k is (subst (λ (sizes : List ℕ). IsUnfit sizes k) (place.measured.told (files_in c) tells told.each) place.unfit)

-- what is due comes, or the sink failed on it, or memory was wanting
pub due_comes : (names : List (List ℕ)) (old_sink new_sink : SinkSeen) (old new : ShelfSeen) (code : ℕ) (c : Case) (due : ℕ) (line : List ℕ)
    → ((name a b : List ℕ) → old.image name a → old.image name b → a ≡ b) → old.tells → TellCase old.image names c → IsDue c due line
    → (Rose old.faults new.faults → ⊥) → (Rose old.disk_faults new.disk_faults → ⊥) → AuditEnds names old_sink new_sink old new code
    → Ends due line code old_sink.faults new_sink.faults old_sink.holds new_sink.holds
due_comes names old_sink new_sink old new code c due line one tells told is calm quiet (Judged verdict code_is judged was) =
    let these = judged_due names old new verdict c due line one tells told judged is in
    written_ends due line code old_sink new_sink (code_is ∙ sym these.code_is) (due_not_six c due line is) (due_not_eight c due line is)
    (subst (λ (text : List ℕ). WasWritten text old_sink new_sink) (sym these.line_is) was)
due_comes names old_sink new_sink old new code c due line one tells told is calm quiet (Blamed k code_is cause was) =
    let these = blamed_due names old new k c due line tells told calm cause is in
    written_ends due line code old_sink new_sink (code_is ∙ sym these.code_is) (due_not_six c due line is) (due_not_eight c due line is)
    (subst (λ (text : List ℕ). WasWritten text old_sink new_sink) (sym these.line_is) was)
due_comes names old_sink new_sink old new code c due line one tells told is calm quiet (JudgedCut verdict code_is judged was) =
    let these = judged_due names old new verdict c due line one tells told judged is in
    cut_ends due line code old_sink new_sink code_is (due_not_six c due line is)
    (subst (λ (text : List ℕ). WasCut text old_sink new_sink) (sym these.line_is) was)
due_comes names old_sink new_sink old new code c due line one tells told is calm quiet (BlamedCut k code_is cause was) =
    let these = blamed_due names old new k c due line tells told calm cause is in
    cut_ends due line code old_sink new_sink code_is (due_not_six c due line is)
    (subst (λ (text : List ℕ). WasCut text old_sink new_sink) (sym these.line_is) was)
due_comes names old_sink new_sink old new code c due line one tells told is calm quiet (Stopped code_is stopped nothing) = absurd (quiet stopped.rose)
due_comes names old_sink new_sink old new code c due line one tells told is calm quiet (Wanting code_is nothing) =
    wanting_ends due line code old_sink new_sink code_is (due_not_eight c due line is) (λ x. (nothing x).0) (λ x. (nothing x).1)

-- ---- the verdict that was told

pub told_verdict : (names : List (List ℕ)) (old_sink new_sink : SinkSeen) (old new : ShelfSeen) (code : ℕ) (c : Case)
    → ((name a b : List ℕ) → old.image name a → old.image name b → a ≡ b) → AuditEnds names old_sink new_sink old new code → IsTold code
    → old.tells → TellCase old.image names c → (verdict : Verdict) × IsVerdict c verdict × (code ≡ verdict_code verdict)
    × Appends old_sink.holds new_sink.holds (verdict_line verdict)
told_verdict names old_sink new_sink old new code c one ends is tells told =
    let was = ends_told names old_sink new_sink old new code ends is in
    (was.verdict, subst (λ (d : Case). IsVerdict d was.verdict) (read_is names old new was.verdict c one tells told was.judged) was.judged.is, was.code_is, was.was.written)

-- ---- a sound shelf

-- names of an audit aren't none
pub some_sound : (sound : List ℕ → Type 0) (names : List (List ℕ)) → NameAudit names → AllByRecursion sound names → (name : List ℕ) × sound name
some_sound sound [] named all = absurd (let l : 0 ≡ 2 + 2 * named.count.images = named.count.all in omega arith)
some_sound sound (name ∷ names) named all = (name, all.0)
