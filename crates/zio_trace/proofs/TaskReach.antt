-- What a task comes to stays within the task, whichever operations are taken as single ones.
use Rattle.std.proofs.Common.{◌≡◌, ℕ, suc, List, [], ◌∷◌, ◌++◌, Bool, true, false, inl, inr, refl, sym, subst}
use Rattle.std.specs.List.{AllByRecursion}
use Rattle.zio_types.specs.Choices.{Choice}
use Rattle.zio_cksum.proofs.AllLemmas.{all_append, all_weaker}
use Rattle.zio_gang.specs.Attempts.{Terms}
use Rattle.zio_trace.specs.Footprints.{FitsTask, Stays}
use Rattle.zio_trace.specs.Labels.{Labelled, labelled, ways_at}
use Rattle.zio_trace.specs.Oracles.{IsOracle, Oracle, Ways, asked_in}
use Rattle.zio_trace.specs.Plans.{TaskPlan, plan}
use Rattle.zio_trace.specs.Programs.{Asks, Ends}
use Rattle.zio_trace.specs.Tasks.{Task, Value}
use Rattle.zio_trace.specs.Traces.{Above, Bottom, Grounded, Mentions}
use Rattle.zio_trace.specs.Underway.{plan_each}
use Rattle.zio_trace.proofs.FootprintLemmas.{stays-then}

abbrev pub ways_by : List Choice → Terms → (Task → Bool) → Ways Task Value
ways_by j t single = record { plan = plan t; single = single; Fits = FitsTask j t }

-- what the task may do may be done by whatever asks it
abbrev pub StaysWithin : List Choice → Terms → (Task → Task → Type 0) → Task → Type 0
StaysWithin j t W q = Stays (FitsTask j t) (λ (r : Task). (d : Task) → W r d → W q d) (FitsTask j t q) (plan t q)

module _ (j : List Choice) (t : Terms) (single : Task → Bool) (W : Task → Task → Type 0) (itself : (q : Task) → single q ≡ true → W q q) (stays : (q : Task) → single q ≡ false → StaysWithin j t W q)
    (ground : (q : Task) → Grounded (plan t) single q) (o : Oracle (Labelled Task) Value) (is : IsOracle (ways_at (ways_by j t single)) o) where
  -- what an operation comes to
  abbrev Reaches : Labelled Task → Type 0
  Reaches q = AllByRecursion (λ (x : Labelled Task). W q.op x.op) (o.asked q)

  program_reaches : {A : Type 0} (P : Task → Type 0) (Q : A → Type 0) (at : List ℕ) (n : ℕ) (p : TaskPlan A) → Stays (FitsTask j t) (λ (q : Task). (d : Task) → W q d → P d) Q p → ((q : Labelled Task) → Mentions p q.op → Reaches q)
      → AllByRecursion (λ (x : Labelled Task). P x.op) (asked_in o (labelled at n p))
  program_reaches P Q at n (Ends a) h k = tt
  program_reaches P Q at n (Asks op more) h k =
      let x : Labelled Task = record { at = at ++ n ∷ []; op = op } in
      all_append (λ (y : Labelled Task). P y.op) (o.asked x) (asked_in o (labelled at (suc n) (more (o.answer x))))
      (all_weaker (λ (y : Labelled Task). W op y.op) (λ (y : Labelled Task). P y.op) (o.asked x) (λ y w. h.0 y.op w) (k x (inl refl)))
      (program_reaches P Q at (suc n) (more (o.answer x)) (h.1 (o.answer x) (is.fits x)) (λ q m. k q (inr (o.answer x, m))))

  op_reaches : (q : Task) → Grounded (plan t) single q → (at : List ℕ) → Reaches (record { at = at; op = q })
  op_reaches q (Bottom e) at =
      let x : Labelled Task = record { at = at; op = q } in
      subst (AllByRecursion (λ (y : Labelled Task). W q y.op)) (sym (is.itself x e)) (itself q e, tt)
  op_reaches q (Above e below) at =
      let x : Labelled Task = record { at = at; op = q } in
      subst (AllByRecursion (λ (y : Labelled Task). W q y.op)) (sym (is.asked x e))
      (program_reaches (W q) (FitsTask j t q) at 0 (plan t q) (stays q e) (λ r m. op_reaches r.op (below r.op m) r.at))

  stays_each : (P : Task → Type 0) (qs : List Task) → AllByRecursion (λ (q : Task). (d : Task) → W q d → P d) qs → Stays (FitsTask j t) (λ (q : Task). (d : Task) → W q d → P d) (λ (vs : List Value). Unit {0}) (plan_each qs)
  stays_each P [] h = tt
  stays_each P (q ∷ qs) h =
      (h.0, λ v fits. stays-then (FitsTask j t) (λ (r : Task). (d : Task) → W r d → P d) (λ (vs : List Value). Unit {0}) (λ (vs : List Value). Unit {0}) (plan_each qs) _ (stays_each P qs h.1) (λ vs u. tt))

  -- What holds of all that some tasks may do holds of what they come to.
  pub tasks_reach : (P : Task → Type 0) (qs : List Task) → AllByRecursion (λ (q : Task). (d : Task) → W q d → P d) qs → AllByRecursion (λ (x : Labelled Task). P x.op) (asked_in o (labelled [] 0 (plan_each qs)))
  tasks_reach P qs h =
      program_reaches P (λ (vs : List Value). Unit {0}) [] 0 (plan_each qs) (stays_each P qs h) (λ q m. op_reaches q.op (ground q.op) q.at)
