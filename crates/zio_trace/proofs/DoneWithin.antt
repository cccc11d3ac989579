-- What was done by work under way is what its tasks may do.
use Rattle.std.proofs.Common.{◌≡◌, ℕ, List, [], ◌∷◌, cond, Bool, true, false, Option, Contains, refl, ap, ◌∙◌, eq-eqb}
use Rattle.std.specs.List.{AllByRecursion}
use Rattle.zio_types.specs.declared.place.Place.{Place}
use Rattle.zio_types.specs.Choices.{Choice, is_refused, taken_by}
use Rattle.zio_cksum.specs.Images.{Images}
use Rattle.zio_cksum.proofs.AllLemmas.{all_contains, all_weaker}
use Rattle.zio_gang.specs.Journals.{choices_in}
use Rattle.zio_gang.specs.Trees.{sizes_of}
use Rattle.zio_trace.specs.Conflicts.{is_single}
use Rattle.zio_trace.specs.Entries.{Recorded, RecordedBy}
use Rattle.zio_trace.specs.Footprints.{Within}
use Rattle.zio_trace.specs.Labels.{Labelled, labelled}
use Rattle.zio_trace.specs.Oracles.{asked_in, ops_of}
use Rattle.zio_trace.specs.Programs.{Deed}
use Rattle.zio_trace.specs.Stopped.{IsOfTasks, places_taken}
use Rattle.zio_trace.specs.Tasks.{Find, Task, Value}
use Rattle.zio_trace.specs.Underway.{Comes, IsUnderway, State, Work, plan_each}
use Rattle.zio_trace.proofs.ChoiceLemmas.{IsPlaced, lawful_placed}
use Rattle.zio_trace.proofs.DoneLemmas.{all_ops}
use Rattle.zio_trace.proofs.GroundLemmas.{task_ground}
use Rattle.zio_trace.proofs.MoreDone.{some_under}
use Rattle.zio_trace.proofs.PairLemmas.{all_of, contains_flat}
use Rattle.zio_trace.proofs.RequestFootprints.{tasks_stay}
use Rattle.zio_trace.proofs.RoundEnds.{any_oracle}
use Rattle.zio_trace.proofs.TaskReach.{tasks_reach}
use Rattle.zio_trace.proofs.UnderwayDone.{own_within}

-- Each deed is one that some task may do.
pub deeds_within : (w : Work) (before : Option Images) (s : State) (j : List Choice) → IsUnderway w before s → Comes w s.entries j → AllByRecursion (λ (d : Deed (Labelled Task) Value). IsOfTasks j w d.op.op) s.deeds
deeds_within w before s j under comes =
    let some = some_under w s.deeds s.entries j under.going.once under.going.single under.recorded comes in
    let asked : List (Labelled Task) = asked_in some.0 (labelled [] 0 (plan_each w.tasks)) in
    let all : AllByRecursion (λ (x : Labelled Task). IsOfTasks j w x.op) asked =
    tasks_reach j w.terms is_single (Within j w.terms) (own_within w j) (λ q e. tasks_stay j w.terms q) (task_ground w.terms) some.0 some.1 (IsOfTasks j w) w.tasks
    (all_of (λ (q : Task). (d : Task) → Within j w.terms q d → IsOfTasks j w d) w.tasks (λ q c d m. (q, c, m))) in
    all_ops (λ (x : Labelled Task). IsOfTasks j w x.op) s.deeds
    (all_weaker (Contains asked) (λ (x : Labelled Task). IsOfTasks j w x.op) (ops_of s.deeds) (λ x c. all_contains (λ (y : Labelled Task). IsOfTasks j w y.op) asked x all c)
    (under.going.within some.0 (any_oracle j w.terms some.0 some.1) some.2))

-- ---- places that were taken

taken_if : (P : Place → Type 0) (refused : Bool) (places : List Place) (p : Place) → AllByRecursion P places → Contains (cond refused [] places) p → P p
taken_if P true places p h c = absurd (all_contains (λ (q : Place). ⊥) [] p tt c)
taken_if P false places p h c = all_contains P places p h c

-- they are inside their tops, and free beside those in use
pub taken_placed : (w : Work) (before : Option Images) (s : State) (p : Place) → IsUnderway w before s → Contains (places_taken s.entries) p → IsPlaced (sizes_of w.terms.setting.tops) w.terms.used p
taken_placed w before s p under c =
    let one : (x : Choice) × Contains s.entries x × Contains (taken_by x) p = contains_flat taken_by s.entries p c in
    taken_if (IsPlaced (sizes_of w.terms.setting.tops) w.terms.used) (is_refused one.0) one.0.places p
    (all_contains (λ (x : Choice). AllByRecursion (IsPlaced (sizes_of w.terms.setting.tops) w.terms.used) x.places) s.entries one.0 (lawful_placed (sizes_of w.terms.setting.tops) w.terms.used s.entries under.lawful) one.1) one.2

-- ---- entries of a round

-- an ask is of the round
abbrev pub AsksIn : ℕ → Task → Type 0
AsksIn n (Find a) = a.key.round ≡ n
AsksIn n _ = Unit {0}

recorded_by : (n : ℕ) (task : Task) (v : Value) (later : List Choice → Type 0) → AsksIn n task → ((cs : List Choice) → later cs → AllByRecursion (λ (c : Choice). c.asked.key.round ≡ n) cs)
    → (cs : List Choice) → RecordedBy task v later cs → AllByRecursion (λ (c : Choice). c.asked.key.round ≡ n) cs
recorded_by n (Find a) v later asks rest [] h = absurd h
recorded_by n (Find a) v later asks rest (c ∷ cs) h = (ap (λ a. a.key.round) h.0 ∙ asks, rest cs h.2)
recorded_by n _ v later asks rest cs h = rest cs h

recorded_in : (n : ℕ) (ds : List (Deed (Labelled Task) Value)) (cs : List Choice) → AllByRecursion (λ (d : Deed (Labelled Task) Value). AsksIn n d.op.op) ds → Recorded ds cs → AllByRecursion (λ (c : Choice). c.asked.key.round ≡ n) cs
recorded_in n [] [] h r = tt
recorded_in n [] (c ∷ cs) h r = absurd (cc)
recorded_in n (d ∷ ds) cs h r = recorded_by n d.op.op d.answer (Recorded ds) h.0 (λ xs k. recorded_in n ds xs h.1 k) cs r

all_kept : (n : ℕ) (cs : List Choice) → AllByRecursion (λ (c : Choice). c.asked.key.round ≡ n) cs → choices_in n cs ≡ cs
all_kept n [] h = refl
all_kept n (c ∷ cs) h =
    ap (λ (kept : Bool). cond kept (c ∷ choices_in n cs) (choices_in n cs)) (eq-eqb c.asked.key.round n h.0) ∙ ap (λ (xs : List Choice). c ∷ xs) (all_kept n cs h.1)

-- Where all asks are of the round, so are the entries.
pub entries_in_round : (n : ℕ) (ds : List (Deed (Labelled Task) Value)) (cs : List Choice) → AllByRecursion (λ (d : Deed (Labelled Task) Value). AsksIn n d.op.op) ds → Recorded ds cs → choices_in n cs ≡ cs
entries_in_round n ds cs h r = all_kept n cs (recorded_in n ds cs h r)
