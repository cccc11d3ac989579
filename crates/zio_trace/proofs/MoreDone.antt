-- One more deed: its entries, the images that it leaves, and that no key is asked for twice.
use Rattle.std.proofs.Common.{◌≡◌, ℕ, ◌+◌, ◌≤◌, true, List, [], ◌∷◌, ◌++◌, Option, Some, None, IfSome, refl, sym, ap, ◌∙◌, subst, append_assoc, arith}
use Rattle.std.specs.List.{AllByRecursion}
use Rattle.zio_types.specs.declared.journal.Key.{Key}
use Rattle.zio_types.specs.Choices.{Choice}
use Rattle.zio_cksum.proofs.AllLemmas.{all_true}
use Rattle.zio_cksum.specs.Images.{Images}
use Rattle.zio_gang.specs.Attempts.{Terms}
use Rattle.zio_gang.specs.Journals.{HaveDistinctKeys, asks_of}
use Rattle.zio_gang.specs.Trees.{sizes_of}
use Rattle.zio_trace.specs.Conflicts.{TaskLies, is_single}
use Rattle.zio_trace.specs.Entries.{AnswersOnLeaf, Pass, PassBy, PassIf, Recorded, RecordedBy, any_rules, any_ways}
use Rattle.zio_trace.specs.Going.{IsGoing, Slot, asked_behind, weigh_slots}
use Rattle.zio_trace.specs.Keys.{key_weight}
use Rattle.zio_trace.specs.Labels.{Labelled, labelled, same_place, ways_at}
use Rattle.zio_trace.specs.Oracles.{AreOnce, Agrees, IsOracle, Oracle, asked_in, ops_of, weigh}
use Rattle.zio_trace.specs.Programs.{Deed, Program}
use Rattle.zio_trace.specs.RoundRules.{task_rules, task_ways}
use Rattle.zio_trace.specs.Leaves.{Answer, LeafOp}
use Rattle.zio_trace.specs.Tasks.{Find, Got, Leaf, Taken, Task, Value}
use Rattle.zio_trace.specs.Traces.{asked_by}
use Rattle.zio_trace.specs.Underway.{Comes, Work, plan_each}
use Rattle.zio_trace.proofs.DoneLemmas.{some_oracle}
use Rattle.zio_trace.proofs.EntryLemmas.{answered_whichever}
use Rattle.zio_trace.proofs.FlightLemmas.{Deeds}
use Rattle.zio_trace.proofs.OnceKeys.{any_laws, recorded_distinct}
use Rattle.zio_trace.proofs.RoundDone.{task_laws}
use Rattle.zio_trace.proofs.RoundEnds.{fit_all}

-- ---- entries

recorded_by : (task : Task) (u : Value) (later now : List Choice → Type 0) (more : List Choice) → ((cs : List Choice) → later cs → now (cs ++ more))
    → (cs : List Choice) → RecordedBy task u later cs → RecordedBy task u now (cs ++ more)
recorded_by (Find a) u later now more f [] h = absurd h
recorded_by (Find a) u later now more f (c ∷ cs) h = (h.0, h.1, f cs h.2)
recorded_by _ u later now more f cs h = f cs h

pub recorded_more : (ds : Deeds) (d : Deed (Labelled Task) Value) (cs more : List Choice) → Recorded ds cs → RecordedBy d.op.op d.answer (λ xs. xs ≡ []) more → Recorded (ds ++ d ∷ []) (cs ++ more)
recorded_more [] d cs more h k = subst (λ (xs : List Choice). RecordedBy d.op.op d.answer (Recorded []) (xs ++ more)) (sym h) k
recorded_more (e ∷ ds) d cs more h k = recorded_by e.op.op e.answer (Recorded ds) (Recorded (ds ++ d ∷ [])) more (λ xs l. recorded_more ds d xs more l k) cs h

-- ---- images

pass_by : (t : Terms) (task : Task) (u : Value) (later now : Images → Images → Type 0) (before mid after : Images) → ((images : Images) → later images mid → now images after)
    → PassBy t task u later before mid → PassBy t task u now before after
pass_by t (Find a) u later now before mid after f h = f before h
pass_by t _ u later now before mid after f h = (h.0, f _ h.1)

pub pass_more : (t : Terms) (ds : Deeds) (d : Deed (Labelled Task) Value) (before mid after : Images) → Pass t ds before mid → PassBy t d.op.op d.answer (λ i k. i ≡ k) mid after → Pass t (ds ++ d ∷ []) before after
pass_more t [] d before mid after h k = subst (λ (i : Images). PassBy t d.op.op d.answer (Pass t []) i after) (sym h) k
pass_more t (e ∷ ds) d before mid after h k = pass_by t e.op.op e.answer (Pass t ds) (Pass t (ds ++ d ∷ [])) before mid after (λ images l. pass_more t ds d images mid after l k) h

-- the images before are those at the start, where they are told
pub starts_at : (t : Terms) (before : Option Images) (images : Images) → IfSome before (λ (b : Images). b ≡ images) → PassIf t [] before images
starts_at t None images h = tt
starts_at t (Some b) images h = h

-- one deed leads from these images to those, where any are told
abbrev pub PassByIf : Terms → Option Images → Task → Value → Images → Images → Type 0
PassByIf t None task v mid after = Unit {0}
PassByIf t (Some before) task v mid after = PassBy t task v (λ i k. i ≡ k) mid after

pub pass_more_if : (t : Terms) (ds : Deeds) (d : Deed (Labelled Task) Value) (before : Option Images) (mid after : Images) → PassIf t ds before mid → PassByIf t before d.op.op d.answer mid after → PassIf t (ds ++ d ∷ []) before after
pass_more_if t ds d None mid after h k = tt
pass_more_if t ds d (Some before) mid after h k = pass_more t ds d before mid after h k

-- what leads there whichever images are told
pub pass_by_any : (t : Terms) (before : Option Images) (task : Task) (v : Value) (mid after : Images) → PassBy t task v (λ i k. i ≡ k) mid after → PassByIf t before task v mid after
pass_by_any t None task v mid after h = tt
pass_by_any t (Some before) task v mid after h = h

pub pass_on_leaf : (t : Terms) (before : Option Images) (act : LeafOp) (images : Images) (a : Answer) (after : Images) → AnswersOnLeaf t before act images a after → PassByIf t before (Leaf act) (Got a) images after
pass_on_leaf t None act images a after h = tt
pass_on_leaf t (Some before) act images a after h = (ap Got (sym h.0), sym h.1)

-- ---- oracles

-- some oracle agrees with what was done, whatever the answers to asks
pub some_any : (w : Work) (ds : Deeds) → AreOnce same_place ds → AllByRecursion (λ (d : Deed (Labelled Task) Value). is_single d.op.op ≡ true) ds
    → (o : Oracle (Labelled Task) Value) × IsOracle (ways_at (any_ways w.terms)) o × Agrees o ds
some_any w ds once single = some_oracle (any_rules w.terms w.sizes) (any_laws w.terms w.sizes) ds (λ x. Taken true) once single (all_true _ ds (λ d. refl))

-- and one under each journal that may come
pub some_under : (w : Work) (ds : Deeds) (entries j : List Choice) → AreOnce same_place ds → AllByRecursion (λ (d : Deed (Labelled Task) Value). is_single d.op.op ≡ true) ds
    → Recorded ds entries → Comes w entries j → (o : Oracle (Labelled Task) Value) × IsOracle (ways_at (task_ways j w.terms)) o × Agrees o ds
some_under w ds entries j once single recorded comes =
    some_oracle (task_rules j w.terms w.sizes) (task_laws j w.terms w.sizes) ds (λ x. Taken true) once single
    (fit_all j ds (answered_whichever (sizes_of w.terms.setting.tops) w.terms.used ds entries j recorded comes))

-- ---- keys

abbrev by_key : Key → Labelled Task → ℕ
by_key k x = weigh (key_weight k) (asked_by x.op)

pub going_distinct : (w : Work) (Passes : Labelled Task → Labelled Task → Type 0) (ds : Deeds) (slots : List (Slot Task Value)) (root : Program (Labelled Task) Value (List Value)) (outs : ℕ) (entries : List Choice)
    → ((k : Key) (o : Oracle (Labelled Task) Value) → IsOracle (ways_at (any_ways w.terms)) o → weigh (by_key k) (asked_in o (labelled [] 0 (plan_each w.tasks))) ≤ 1)
    → IsGoing (any_ways w.terms) Passes (TaskLies w.sizes) (λ op v. v) (plan_each w.tasks) ds slots root outs → Recorded ds entries → HaveDistinctKeys (asks_of entries)
going_distinct w Passes ds slots root outs entries once h recorded =
    let some = some_any w ds h.once h.single in
    recorded_distinct ds entries recorded (λ k.
    let l : weigh (by_key k) (asked_in some.0 (labelled [] 0 (plan_each w.tasks))) ≤ 1 = once k some.0 some.1 in
    let e : weigh (by_key k) (asked_in some.0 (labelled [] 0 (plan_each w.tasks)))
    ≡ weigh (by_key k) (ops_of ds) + (weigh_slots some.0 (by_key k) slots + weigh (by_key k) (asked_behind some.0 outs root)) = h.todo some.0 some.1 some.2 (by_key k) in
    omega arith)

-- ---- fewer journals come

pub comes_sooner : (w : Work) (entries more j : List Choice) → Comes w (entries ++ more) j → Comes w entries j
comes_sooner w entries more j h = record { later = more ++ h.later; is = h.is ∙ append_assoc entries more h.later; distinct = h.distinct; lawful = h.lawful }

pub comes_at_all : (w : Work) (entries j : List Choice) → Comes w entries j → Comes w [] j
comes_at_all w entries j h = record { later = j; is = refl; distinct = h.distinct; lawful = h.lawful }
