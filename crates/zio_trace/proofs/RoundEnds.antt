-- A round's end: what was done by rules that know no journal was done under the entries.
use Rattle.std.proofs.Common.{◌≡◌, ℕ, true, List, [], ◌∷◌, Contains, refl, sym, ap, ◌∙◌, subst}
use Rattle.std.specs.List.{AllByRecursion}
use Rattle.std.proofs.lemmas.List.Elements.{Contains-append_left, Contains-append_right}
use Rattle.zio_types.specs.Choices.{Ask, Choice}
use Rattle.zio_cksum.specs.Images.{Images}
use Rattle.zio_cksum.proofs.AllLemmas.{all_append, all_contained, all_contains, all_weaker}
use Rattle.zio_gang.specs.Attempts.{Terms}
use Rattle.zio_gang.specs.Journals.{HaveDistinctKeys, asks_of, choices_in}
use Rattle.zio_trace.specs.Conflicts.{TasksApart, is_single}
use Rattle.zio_trace.specs.Entries.{AnsweredBy, AnswersBy, IsSettledByEntries, Pass, PassBy, Recorded, any_rules, any_ways}
use Rattle.zio_trace.specs.Families.{Forest}
use Rattle.zio_trace.specs.Keys.{NumbersOnce}
use Rattle.zio_trace.specs.Labels.{Labelled, means_at, ways_at}
use Rattle.zio_trace.specs.Leaves.{HaveSizes}
use Rattle.zio_trace.specs.Oracles.{IsOracle, Oracle, ops_of, weigh}
use Rattle.zio_trace.specs.Programs.{Deed, Done, Happen, Program}
use Rattle.zio_trace.specs.RoundRules.{asks_in, mend_task, task_rules, task_ways}
use Rattle.zio_trace.specs.Rounds.{AreTrees, Round, plan_round}
use Rattle.zio_trace.specs.Rules.{IsDone, IsDoneBy}
use Rattle.zio_trace.specs.Tasks.{Find, Leaf, TakePlaces, Task, Value, means}
use Rattle.zio_trace.specs.Traces.{asked_by}
use Rattle.zio_trace.proofs.AskLemmas.{asks_recorded}
use Rattle.zio_trace.proofs.DoneLemmas.{IsAlone, done_alone}
use Rattle.zio_trace.proofs.EntryLemmas.{answered_by_journal}
use Rattle.zio_trace.proofs.OnceKeys.{done_distinct}
use Rattle.zio_trace.proofs.RoundDone.{oracle_asks, shuffled_asks, task_laws}
use Rattle.zio_trace.proofs.WholeRound.{settles_each}

-- ---- from any journal to this one

-- an oracle of this journal is one of any
pub any_oracle : (j : List Choice) (t : Terms) (o : Oracle (Labelled Task) Value) → IsOracle (ways_at (task_ways j t)) o → IsOracle (ways_at (any_ways t)) o
any_oracle j t o is = record { fits = λ x. tt; itself = is.itself; answer = is.answer; asked = is.asked }

fit_one : (j : List Choice) (task : Task) (v : Value) → AnswersBy j task v → mend_task j task v ≡ v
fit_one j (Find x) v a = sym a
fit_one j _ v a = refl

pub fit_all : (j : List Choice) (ds : List (Deed (Labelled Task) Value)) → AnsweredBy j ds → AllByRecursion (λ (d : Deed (Labelled Task) Value). mend_task j d.op.op d.answer ≡ d.answer) ds
fit_all j [] k = tt
fit_all j (d ∷ ds) k = (fit_one j d.op.op d.answer k.0, fit_all j ds k.1)

pub done_under : {A : Type 0} (j : List Choice) (t : Terms) (sizes : ℕ → ℕ) (Passes : Labelled Task → Labelled Task → Type 0) (p : Program Task Value A) (history : List (Deed (Labelled Task) Value)) (value : A) → IsDoneBy (any_rules t sizes) Passes p history value → AnsweredBy j history → IsDoneBy (task_rules j t sizes) Passes p history value
done_under j t sizes Passes p history value h k = record {
  known = λ o is agrees. h.known o (any_oracle j t o is) agrees;
  all = λ o is agrees. h.all o (any_oracle j t o is) agrees;
  within = λ o is agrees. h.within o (any_oracle j t o is) agrees;
  once = h.once;
  single = h.single;
  fit = fit_all j history k;
  order = h.order;
  lies = h.lies;
}

pass_one : (j : List Choice) (t : Terms) (task : Task) (v : Value) (later now : Images → Images → Type 0) (before after : Images) → is_single task ≡ true → AnswersBy j task v → ((images : Images) → later images after → now images after) → PassBy t task v later before after
    → ((means j t task before).value ≡ v) × now (means j t task before).images after
pass_one j t (Leaf op) v later now before after e a f h = (h.0, f _ h.1)
pass_one j t (Find x) v later now before after e a f h = (sym a, f before h)
pass_one j t (TakePlaces tree) v later now before after e a f h = (h.0, f _ h.1)
pass_one j t _ v later now before after e a f h = absurd (cc)

pub pass_under : (j : List Choice) (t : Terms) (ds : List (Deed (Labelled Task) Value)) (before after : Images) → AllByRecursion (λ (d : Deed (Labelled Task) Value). is_single d.op.op ≡ true) ds → AnsweredBy j ds → Pass t ds before after → Happen (means_at (means j t)) ds before after
pass_under j t [] before after e a h = h
pass_under j t (d ∷ ds) before after e a h =
    pass_one j t d.op.op d.answer (Pass t ds) (Happen (means_at (means j t)) ds) before after e.0 a.0 (λ images k. pass_under j t ds images after e.1 a.1 k) h

-- ---- asks

contained_asks : (ops : List (Labelled Task)) (x : Labelled Task) → Contains ops x → AllByRecursion (Contains (asks_in ops)) (asked_by x.op)
contained_asks ops x c = all_contains (λ (y : Labelled Task). AllByRecursion (Contains (asks_in ops)) (asked_by y.op)) ops x (each ops) c
  where
    each : (ys : List (Labelled Task)) → AllByRecursion (λ (y : Labelled Task). AllByRecursion (Contains (asks_in ys)) (asked_by y.op)) ys
    each [] = tt
    each (y ∷ ys) = (
      all_weaker (Contains (asked_by y.op)) (Contains (asks_in (y ∷ ys))) (asked_by y.op) (λ a k. Contains-append_left (asked_by y.op) (asks_in ys) a k) (all_contained (asked_by y.op)),
      all_weaker (λ (z : Labelled Task). AllByRecursion (Contains (asks_in ys)) (asked_by z.op)) (λ (z : Labelled Task). AllByRecursion (Contains (asks_in (y ∷ ys))) (asked_by z.op)) ys
          (λ z h. all_weaker (Contains (asks_in ys)) (Contains (asks_in (y ∷ ys))) (asked_by z.op) (λ a k. Contains-append_right (asked_by y.op) (asks_in ys) a k) h) (each ys),
    )

pub contain_asks : (ops xs : List (Labelled Task)) → AllByRecursion (Contains ops) xs → AllByRecursion (Contains (asks_in ops)) (asks_in xs)
contain_asks ops [] h = tt
contain_asks ops (x ∷ xs) h = all_append (Contains (asks_in ops)) (asked_by x.op) (asks_in xs) (contained_asks ops x h.0) (contain_asks ops xs h.1)

-- ---- the end

pub settled_by_entries : (j : List Choice) (t : Terms) (sizes : ℕ → ℕ) (f : Forest) (history : List (Deed (Labelled Task) Value)) (value : Round) (before after : Images) (entries : List Choice)
    → AreTrees f → NumbersOnce f → IsDone (any_rules t sizes) (plan_round f) history value → HaveSizes sizes before → Pass t history before after
    → Recorded history entries → choices_in t.round j ≡ entries → IsSettledByEntries j t f entries value before after
settled_by_entries j t sizes f history value before after entries trees numbers done have pass recorded of_round =
    let distinct : HaveDistinctKeys (asks_of entries) = done_distinct t sizes f history value entries numbers done recorded in
    let answered : AnsweredBy j history = answered_by_journal t.round j history entries of_round recorded distinct in
    let alone : IsAlone (task_rules j t sizes) (plan_round f) history value before after =
    done_alone (task_rules j t sizes) (task_laws j t sizes) (plan_round f) history value before after (done_under j t sizes (λ x y. TasksApart x.op y.op) (plan_round f) history value done answered) have (pass_under j t history before after done.single answered pass) in
    let same : asks_in (ops_of history) ≡ asks_of entries = asks_recorded history entries recorded in
    record {
      asks = asks_in alone.ops;
      is =
          ap (λ (d : Done Round). record { left = d.value.left; ended = d.value.ended; asks = d.asks; images = d.images })
          (sym (settles_each j t f before trees) ∙ alone.gives
          ∙ ap (λ (asks : List Ask). record { value = value; asks = asks; images = after }) (oracle_asks j t alone.oracle alone.ops before alone.single));
      as_often = λ w. shuffled_asks alone.ops (ops_of history) alone.all w ∙ ap (weigh w) same;
      choices = λ lawful. record {
        distinct = distinct;
        asked = subst (λ (xs : List Ask). AllByRecursion (Contains (asks_in alone.ops)) xs) same (contain_asks alone.ops (ops_of history) alone.within);
        answered = subst (λ (xs : List Ask). AllByRecursion (Contains xs) (asks_in alone.ops)) same (contain_asks (ops_of history) alone.ops alone.back);
        lawful = lawful;
      };
    }
