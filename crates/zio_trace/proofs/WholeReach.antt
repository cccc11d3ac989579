-- What a task comes to where a read of copies with repairs is one operation stays within the task.
use Rattle.std.proofs.Common.{◌≡◌, List, [], Bool, true, false, refl}
use Rattle.std.specs.List.{AllByRecursion}
use Rattle.zio_types.specs.Choices.{Choice}
use Rattle.zio_gang.specs.Attempts.{Terms}
use Rattle.zio_trace.specs.Conflicts.{is_single}
use Rattle.zio_trace.specs.Footprints.{IsReading, WithinWhole}
use Rattle.zio_trace.specs.Labels.{Labelled, labelled, ways_at}
use Rattle.zio_trace.specs.Oracles.{IsOracle, Oracle, asked_in}
use Rattle.zio_trace.specs.Plans.{plan}
use Rattle.zio_trace.specs.Tasks.{Find, Leaf, ReadCopies, TakePlaces, Task, Value}
use Rattle.zio_trace.specs.Together.{atom_ways, is_atom}
use Rattle.zio_trace.specs.Traces.{Above, Bottom, Grounded, Mentions}
use Rattle.zio_trace.specs.Underway.{plan_each}
use Rattle.zio_trace.proofs.GroundLemmas.{task_ground}
use Rattle.zio_trace.proofs.RequestFootprints.{NoReading, tasks_stay_by}
use Rattle.zio_trace.proofs.TaskReach.{tasks_reach as reach_by}

no_reading : (q : Task) → is_atom q ≡ false → NoReading q
no_reading (ReadCopies true test len places) e = absurd (cc)
no_reading _ e = tt

atom_single : (q : Task) → is_single q ≡ true → is_atom q ≡ true
atom_single (Leaf op) e = refl
atom_single (Find a) e = refl
atom_single (TakePlaces tree) e = refl
atom_single _ e = absurd (cc)

module _ (j : List Choice) (t : Terms) where
  itself : (q : Task) → is_atom q ≡ true → WithinWhole j t q q
  itself (Leaf op) e = refl
  itself (Find a) e = refl
  itself (TakePlaces tree) e = refl
  itself (ReadCopies true test len places) e = refl
  itself _ e = absurd (cc)

  ground : (q : Task) → Grounded (plan t) is_single q → Grounded (plan t) is_atom q
  ground q (Bottom e) = Bottom (atom_single q e)
  ground q (Above e below) = by_atom (is_atom q) refl (λ r m. ground r (below r m))
    where
      by_atom : (b : Bool) → is_atom q ≡ b → ((r : Task) → Mentions (plan t q) r → Grounded (plan t) is_atom r) → Grounded (plan t) is_atom q
      by_atom true is rest = Bottom is
      by_atom false is rest = Above is rest

  -- What holds of all that some tasks may come to holds of what they come to.
  pub tasks_reach : (o : Oracle (Labelled Task) Value) → IsOracle (ways_at (atom_ways j t)) o → (P : Task → Type 0) (qs : List Task) → AllByRecursion (λ (q : Task). (d : Task) → WithinWhole j t q d → P d) qs
      → AllByRecursion (λ (x : Labelled Task). P x.op) (asked_in o (labelled [] 0 (plan_each qs)))
  tasks_reach o is =
      reach_by j t is_atom (WithinWhole j t) itself (λ q e. tasks_stay_by IsReading j t q (no_reading q e)) (λ q. ground q (task_ground t q)) o is
