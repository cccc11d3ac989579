use Rattle.std.proofs.Common.{◌≡◌, ℕ, List, [], ◌∷◌, ◌++◌, length, Option, Some, None, cond, eqb, ap, subst, sym, ◌∙◌, arith, length-append}
use Rattle.std.proofs.lemmas.List.{length-map}
use Rattle.std.specs.Map.{lookup}
use Rattle.zio_script.specs.declared.script.Request.{Request}
use Rattle.zio_gang.specs.Rounds.{with_request}
use Rattle.zio_course.specs.declared.admission.Admission.{Admission}
use Rattle.zio_course.specs.declared.admission.Rules.{Rules}
use Rattle.zio_course.specs.Admissions.{IsAdmission, joined_at, rules_in}
use Rattle.zio_course.proofs.AdmissionLemmas.{admission_child, admission_none, admission_root}
use Rattle.zio_course.proofs.admission.Admission.add.Goals as goal
use Rattle.zio_course.proofs.admission.Admission.add.Goals.{in-None+in_ok-push-in-None, in-Some+in-Some-get}

pub returns-in_default : goal.returns-in_default
returns-in_default c waits awaited bound trees found coming is =
    let r : Request = c.args.request.now in
    let old : List (ℕ × ℕ) = c.args.self.now.slots.entries in
    let none : lookup (eqb c.in-Some.parent) old ≡ None = sym c.in_default.ensures.value in
    subst (λ (under : Option ℕ). IsAdmission waits awaited bound (with_request under r trees) old c.args.self.now.rules.items) (sym c.in-Some.is)
    (admission_none waits awaited bound r trees old old c.args.self.now.rules.items c.args.self.now.rules.items c.in-Some.parent is none)

pub returns : goal.returns
returns c waits awaited bound trees found coming is =
    let r : Request = c.args.request.now in
    let old : List (ℕ × ℕ) = c.args.self.now.slots.entries in
    let rules : List Rules = c.args.self.now.rules.items in
    let new : List (ℕ × ℕ) = c.insert.new.self.entries in
    let after : List Rules = c.match-request.self.rules.items in
    elim c.match-request.branch [
      | in-None+in_ok-push-in-None w ↦
          (let slot : c.match-request.slot ≡ length trees =
          omega (arith, w.slot-is, w.len.ensures, ap length w.in_ok-push-in-None.ensures.items, length-append rules (c.args.rules ∷ []), ap length is.rules_are, length-map trees (rules_in waits awaited bound)) in
          let noted : (n : ℕ) → lookup (eqb n) new ≡ cond (eqb r.number n) (Some (length trees)) (lookup (eqb n) old) =
          λ n. c.in_ok-insert.ensures.updates.0 n
          ∙ (ap (λ (s : Admission). cond (eqb r.number n) (Some c.match-request.slot) (lookup (eqb n) s.slots.entries)) w.self-is
          ∙ ap (λ (k : ℕ). cond (eqb r.number n) (Some k) (lookup (eqb n) old)) slot) in
          subst (λ (under : Option ℕ). IsAdmission waits awaited bound (with_request under r trees) new after) (sym w.in-None.is)
          (admission_root waits awaited bound r trees old new rules after coming is noted
          (ap (λ (s : Admission). s.rules.items) w.self-is ∙ (w.in_ok-push-in-None.ensures.items ∙ ap (λ (x : Rules). rules ++ x ∷ []) found))))
      | in-Some+in-Some-get w ↦
          (let slot : ℕ = w.in-Some-get.slot.now in
          let noted : (n : ℕ) → lookup (eqb n) new ≡ cond (eqb r.number n) (Some slot) (lookup (eqb n) old) =
          λ n. c.in_ok-insert.ensures.updates.0 n
          ∙ (ap (λ (s : Admission). cond (eqb r.number n) (Some c.match-request.slot) (lookup (eqb n) s.slots.entries)) w.self-is
          ∙ ap (λ (k : ℕ). cond (eqb r.number n) (Some k) (lookup (eqb n) old)) w.slot-is) in
          subst (λ (under : Option ℕ). IsAdmission waits awaited bound (with_request under r trees) new after) (sym w.in-Some.is)
          (admission_child waits awaited bound r trees old new rules after w.in-Some.parent slot coming is (sym w.in-Some-get.ensures.value) noted
          (ap (λ (s : Admission). s.rules.items) w.self-is ∙ (w.join_at.ensures ∙ ap (λ (x : Rules). joined_at rules slot x) found))))
    ]
