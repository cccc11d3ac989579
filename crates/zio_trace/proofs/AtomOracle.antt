-- An oracle for tasks of which reads with repairs are taken as one operation.
use Rattle.std.proofs.Common.{◌≡◌, true, List, [], refl}
use Rattle.std.specs.List.{AllByRecursion}
use Rattle.zio_types.specs.Choices.{Choice}
use Rattle.zio_gang.specs.Attempts.{Terms}
use Rattle.zio_trace.specs.Conflicts.{is_single}
use Rattle.zio_trace.specs.Footprints.{FitsTask, Within}
use Rattle.zio_trace.specs.Labels.{Labelled, labelled, ways_at}
use Rattle.zio_trace.specs.Oracles.{IsOracle, Oracle, Ways, asked_in, heard}
use Rattle.zio_trace.specs.Plans.{plan}
use Rattle.zio_trace.specs.Programs.{Program}
use Rattle.zio_trace.specs.RoundRules.{task_ways}
use Rattle.zio_trace.specs.Tasks.{Find, Leaf, TakePlaces, Task, Value}
use Rattle.zio_trace.specs.Together.{atom_ways, is_atom}
use Rattle.zio_trace.specs.Traces.{Grounded}
use Rattle.zio_trace.proofs.AtomLemmas.{IsAsFine, ProgramAsFine, all_parts, ground_atoms, op_as_fine, program_as_fine}
use Rattle.zio_trace.proofs.DoneLemmas.{op_singles, program_singles, stays_labelled}
use Rattle.zio_trace.proofs.GroundLemmas.{task_ground}
use Rattle.zio_trace.proofs.LabelLemmas.{IsRest, ground_labelled, op_part, program_rest}
use Rattle.zio_trace.proofs.OracleExists.{oracle, oracle_at, oracle_is}
use Rattle.zio_trace.proofs.RequestFootprints.{tasks_stay}

single_atom : (task : Task) → is_single task ≡ true → is_atom task ≡ true
single_atom (Leaf op) e = refl
single_atom (Find a) e = refl
single_atom (TakePlaces tree) e = refl
single_atom _ e = absurd (cc)

pub atom_ground : (j : List Choice) (t : Terms) (x : Labelled Task) → Grounded (ways_at (atom_ways j t)).plan (ways_at (atom_ways j t)).single x
atom_ground j t x = ground_labelled (atom_ways j t) (λ op. ground_atoms (plan t) is_single is_atom single_atom op (task_ground t op)) x

-- the same answers, and the same is asked, part by part
pub record IsAtomic {A : Type 0} (j : List Choice) (t : Terms) (o : Oracle (Labelled Task) Value) (p : Program Task Value A) : Type 0 where
  pub atoms : Oracle (Labelled Task) Value
  pub is : IsOracle (ways_at (atom_ways j t)) atoms
  pub answer : (x : Labelled Task) → atoms.answer x ≡ o.answer x
  pub value : heard atoms (labelled [] 0 p) ≡ heard o (labelled [] 0 p)
  pub parts : asked_in o (labelled [] 0 p) ≡ all_parts o (asked_in atoms (labelled [] 0 p))
  pub each : AllByRecursion (λ (x : Labelled Task). is_atom x.op ≡ true) (asked_in atoms (labelled [] 0 p))
  pub rest : IsRest [] 0 (asked_in atoms (labelled [] 0 p))

pub atoms_of : {A : Type 0} (j : List Choice) (t : Terms) (o : Oracle (Labelled Task) Value) (p : Program Task Value A) → IsOracle (ways_at (task_ways j t)) o → IsAtomic j t o p
atoms_of {A} j t o p is =
    let ways : Ways (Labelled Task) Value = ways_at (atom_ways j t) in
    let ground : (x : Labelled Task) → Grounded ways.plan ways.single x = atom_ground j t in
    let c : Oracle (Labelled Task) Value = oracle ways ground (λ x. o.answer x) in
    let c_is : IsOracle ways c =
    oracle_is ways ground (λ x. o.answer x) (λ x y. (d : Task) → Within j t y.op d → Within j t x.op d)
    (λ x. stays_labelled (FitsTask j t) (λ q. (d : Task) → Within j t q d → Within j t x.op d) (FitsTask j t x.op) x.at 0 (plan t x.op) (tasks_stay j t x.op))
    (λ x e. is.fits x) in
    let fine : (x : Labelled Task) → IsAsFine o c x =
    λ x. op_as_fine (ways_at (task_ways j t)) ways (λ y. refl) (λ y e. single_atom y.op e) o c is c_is (λ y e. oracle_at ways ground (λ z. o.answer z) y e) x (ground x) in
    let whole : ProgramAsFine o c (labelled [] 0 p) = program_as_fine o c (labelled [] 0 p) (λ q m. fine q) in
    record {
      atoms = c;
      is = c_is;
      answer = λ x. (fine x).answer;
      value = whole.value;
      parts = whole.parts;
      each = program_singles ways.single c (labelled [] 0 p) (λ q m. op_singles ways c c_is q (ground q));
      rest = program_rest c [] 0 p (λ q m. op_part (atom_ways j t) c c_is q.op (ground_atoms (plan t) is_single is_atom single_atom q.op (task_ground t q.op)) q.at);
    }
