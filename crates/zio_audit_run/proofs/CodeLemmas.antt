-- How an audit ends, by how it came out and how its line was taken.
use Rattle.std.proofs.Common.{◌≡◌, ◌≢◌, ℕ, List, inl, inr, sym, ◌∙◌, arith}
use Rattle.zio_audit.specs.declared.verdict.Verdict.{Verdict}
use Rattle.zio_audit.specs.declared.verdict.Verdict.TheVariants.{Yes, No}
use Rattle.zio_command.specs.Outcomes.{Ends}
use Rattle.zio_command.specs.Seen.{ShelfSeen, SinkSeen}
use Rattle.zio_audit_run.specs.Causes.{IsFileCause, WasJudged}
use Rattle.zio_audit_run.specs.Codes.{AuditEnds, IsAuditCode, IsTold, WasWritten, files_line, verdict_code, verdict_line}
use Rattle.zio_audit_run.specs.Codes.AuditEnds.{Judged, Blamed, JudgedCut, BlamedCut, Stopped, Wanting}

pub judged_ends : (names : List (List ℕ)) (old_sink new_sink : SinkSeen) (old new : ShelfSeen) (verdict : Verdict) (code : ℕ) → WasJudged names verdict old new
    → Ends (verdict_code verdict) (verdict_line verdict) code old_sink.faults new_sink.faults old_sink.holds new_sink.holds
    → AuditEnds names old_sink new_sink old new code
judged_ends names old_sink new_sink old new verdict code judged ends = elim ends.codes_are [
  | inl due ↦ Judged verdict due judged (record { written = ends.written due; steady = ends.steady due })
  | inr (inl six) ↦ JudgedCut verdict six judged (record { front = ends.front six; rose = ends.failed six })
  | inr (inr eight) ↦ Wanting eight (ends.nothing eight)
]

pub blamed_ends : (names : List (List ℕ)) (old_sink new_sink : SinkSeen) (old new : ShelfSeen) (k code : ℕ) → IsFileCause names old new k
    → Ends 3 (files_line k) code old_sink.faults new_sink.faults old_sink.holds new_sink.holds
    → AuditEnds names old_sink new_sink old new code
blamed_ends names old_sink new_sink old new k code cause ends = elim ends.codes_are [
  | inl three ↦ Blamed k three cause (record { written = ends.written three; steady = ends.steady three })
  | inr (inl six) ↦ BlamedCut k six cause (record { front = ends.front six; rose = ends.failed six })
  | inr (inr eight) ↦ Wanting eight (ends.nothing eight)
]

verdict_told : (verdict : Verdict) (code : ℕ) → code ≡ verdict_code verdict → IsTold code
verdict_told Yes code is = inl is
verdict_told (No why) code is = inr is

pub ends_code : (names : List (List ℕ)) (old_sink new_sink : SinkSeen) (old new : ShelfSeen) (code : ℕ)
    → AuditEnds names old_sink new_sink old new code → IsAuditCode code
ends_code names old_sink new_sink old new code (Judged verdict is judged written) = inl (verdict_told verdict code is)
ends_code names old_sink new_sink old new code (Blamed k is cause written) = inr (inr (inl is))
ends_code names old_sink new_sink old new code (JudgedCut verdict is judged cut) = inr (inr (inr (inl is)))
ends_code names old_sink new_sink old new code (BlamedCut k is cause cut) = inr (inr (inr (inl is)))
ends_code names old_sink new_sink old new code (Stopped is stopped nothing) = inr (inr (inr (inr (inl is))))
ends_code names old_sink new_sink old new code (Wanting is nothing) = inr (inr (inr (inr (inr is))))

-- a code at which the verdict was told is no other
pub told_not : (code n : ℕ) → IsTold code → code ≡ n → n ≢ 0 → n ≢ 10 → ⊥
told_not code n (inl zeroth) is first second = first (sym is ∙ zeroth)
told_not code n (inr tenth) is first second = second (sym is ∙ tenth)

-- code 1 is that of the words alone
pub ends_not_one : (names : List (List ℕ)) (old_sink new_sink : SinkSeen) (old new : ShelfSeen) (code : ℕ)
    → AuditEnds names old_sink new_sink old new code → code ≡ 1 → ⊥
ends_not_one names old_sink new_sink old new code (Judged verdict is judged written) one =
    told_not code 1 (verdict_told verdict code is) one (λ e. omega arith) (λ e. omega arith)
ends_not_one names old_sink new_sink old new code (Blamed k is cause written) one = omega arith
ends_not_one names old_sink new_sink old new code (JudgedCut verdict is judged cut) one = omega arith
ends_not_one names old_sink new_sink old new code (BlamedCut k is cause cut) one = omega arith
ends_not_one names old_sink new_sink old new code (Stopped is stopped nothing) one = omega arith
ends_not_one names old_sink new_sink old new code (Wanting is nothing) one = omega arith

-- where the verdict was told, it was this, and no count of the sink or the shelf rose
pub record WasTold (names : List (List ℕ)) (old_sink new_sink : SinkSeen) (old new : ShelfSeen) (code : ℕ) : Type 0 where
  pub verdict : Verdict
  pub code_is : code ≡ verdict_code verdict
  pub judged : WasJudged names verdict old new
  pub was : WasWritten (verdict_line verdict) old_sink new_sink

pub ends_told : (names : List (List ℕ)) (old_sink new_sink : SinkSeen) (old new : ShelfSeen) (code : ℕ)
    → AuditEnds names old_sink new_sink old new code → IsTold code → WasTold names old_sink new_sink old new code
ends_told names old_sink new_sink old new code (Judged verdict is judged written) told =
    record { verdict = verdict; code_is = is; judged = judged; was = written }
ends_told names old_sink new_sink old new code (Blamed k is cause written) told = absurd (told_not code 3 told is (λ e. omega arith) (λ e. omega arith))
ends_told names old_sink new_sink old new code (JudgedCut verdict is judged cut) told = absurd (told_not code 6 told is (λ e. omega arith) (λ e. omega arith))
ends_told names old_sink new_sink old new code (BlamedCut k is cause cut) told = absurd (told_not code 6 told is (λ e. omega arith) (λ e. omega arith))
ends_told names old_sink new_sink old new code (Stopped is stopped nothing) told = absurd (told_not code 7 told is (λ e. omega arith) (λ e. omega arith))
ends_told names old_sink new_sink old new code (Wanting is nothing) told = absurd (told_not code 8 told is (λ e. omega arith) (λ e. omega arith))

-- then the code is the verdict's
pub told_code : (verdict : Verdict) (code : ℕ) (old new : SinkSeen) → Ends (verdict_code verdict) (verdict_line verdict) code old.faults new.faults old.holds new.holds
    → IsTold code → code ≡ verdict_code verdict
told_code verdict code old new ends told = elim ends.codes_are [
  | inl due ↦ due
  | inr (inl six) ↦ absurd (told_not code 6 told six (λ e. omega arith) (λ e. omega arith))
  | inr (inr eight) ↦ absurd (told_not code 8 told eight (λ e. omega arith) (λ e. omega arith))
]

-- and where a file was blamed nothing of a verdict was told
pub blamed_untold : (k code : ℕ) (old new : SinkSeen) → Ends 3 (files_line k) code old.faults new.faults old.holds new.holds → IsTold code → ⊥
blamed_untold k code old new ends told = elim ends.codes_are [
  | inl three ↦ told_not code 3 told three (λ e. omega arith) (λ e. omega arith)
  | inr (inl six) ↦ told_not code 6 told six (λ e. omega arith) (λ e. omega arith)
  | inr (inr eight) ↦ told_not code 8 told eight (λ e. omega arith) (λ e. omega arith)
]
