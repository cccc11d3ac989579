-- Work whose tasks were done in any order, where nobody shares a piece; and the entries of what was done.
use Rattle.std.proofs.Common.{◌≡◌, ℕ, List, [], ◌∷◌, Contains, inl, inr, refl, sym, ap, ◌∙◌, subst}
use Rattle.std.specs.List.{AllByRecursion}
use Rattle.zio_types.specs.Choices.{Ask, Choice}
use Rattle.zio_cksum.specs.Images.{Images, Setting}
use Rattle.zio_cksum.proofs.AllLemmas.{all_contains}
use Rattle.zio_gang.specs.Attempts.{Terms}
use Rattle.zio_gang.specs.Journals.{HaveDistinctKeys, asks_of, choices_in}
use Rattle.zio_trace.specs.Conflicts.{TasksApart}
use Rattle.zio_trace.specs.Entries.{AnsweredBy, IsSettledByEntries, Pass, Recorded, any_rules}
use Rattle.zio_trace.specs.Families.{Forest, NoTrees, TreeOf}
use Rattle.zio_trace.specs.Labels.{Earlier, Labelled}
use Rattle.zio_trace.specs.Leaves.{HaveSizes}
use Rattle.zio_trace.specs.Oracles.{InOrder, Shuffled, ops_of, weigh}
use Rattle.zio_trace.specs.Passing.{Copies, Passes}
use Rattle.zio_trace.specs.Programs.{Asks, Deed, Done, Ends, Program, behind, run, ◌>>=◌}
use Rattle.zio_trace.specs.RoundRules.{asks_in, task_rules}
use Rattle.zio_trace.specs.Rounds.{AreTrees, Round, add_tree, plan_round, settles}
use Rattle.zio_trace.specs.Rules.{IsDoneBy}
use Rattle.zio_trace.specs.Tasks.{Settle, Task, Value, means, settled}
use Rattle.zio_trace.specs.Together.{IsAsInTurn, round_of}
use Rattle.zio_trace.specs.Underway.{Work, plan_each}
use Rattle.zio_trace.proofs.AskLemmas.{asks_recorded}
use Rattle.zio_trace.proofs.DoneLemmas.{IsAlone, done_alone}
use Rattle.zio_trace.proofs.EntryLemmas.{answered_by_journal}
use Rattle.zio_trace.proofs.RoundDone.{oracle_asks, shuffled_asks, task_laws}
use Rattle.zio_trace.proofs.RoundEnds.{contain_asks, done_under, pass_under}
use Rattle.zio_trace.proofs.WholeRound.{settles_each}

-- ---- where nobody shares

apart_if_none : (s : Setting) (shared : List Copies) (x y : Labelled Task) → shared ≡ [] → Passes s shared x y → TasksApart x.op y.op
apart_if_none s shared x y e (inl h) = h.0
apart_if_none s shared x y e (inr h) =
    absurd (all_contains (λ (c : Copies). ⊥) [] h.1.0 tt (subst (λ (cs : List Copies). Contains cs h.1.0) e h.1.1))

weaker_order : (P Q : Labelled Task → Labelled Task → Type 0) → ((x y : Labelled Task) → P x y → Q x y) → (ds : List (Deed (Labelled Task) Value)) → InOrder Earlier P ds → InOrder Earlier Q ds
weaker_order P Q f [] h = tt
weaker_order P Q f (d ∷ ds) h = (each ds h.0, weaker_order P Q f ds h.1)
  where
    each : (es : List (Deed (Labelled Task) Value)) → AllByRecursion (λ (e : Deed (Labelled Task) Value). Earlier e.op d.op → P d.op e.op) es → AllByRecursion (λ (e : Deed (Labelled Task) Value). Earlier e.op d.op → Q d.op e.op) es
    each [] k = tt
    each (e ∷ es) k = ((λ l. f d.op e.op (k.0 l)), each es k.1)

pub in_order_as : {A : Type 0} (t : Terms) (sizes : ℕ → ℕ) (j : List Choice) (P Q : Labelled Task → Labelled Task → Type 0) → ((x y : Labelled Task) → P x y → Q x y) → (p : Program Task Value A) (ds : List (Deed (Labelled Task) Value)) (value : A)
    → IsDoneBy (task_rules j t sizes) P p ds value → IsDoneBy (task_rules j t sizes) Q p ds value
in_order_as t sizes j P Q f p ds value h = record {
  known = h.known;
  all = h.all;
  within = h.within;
  once = h.once;
  single = h.single;
  fit = h.fit;
  order = weaker_order P Q f ds h.order;
  lies = h.lies;
}

-- ---- what is asked, and the entries

-- these operations are asked alone, as often as they were done
pub record AreAsked (ops : List (Labelled Task)) (ds : List (Deed (Labelled Task) Value)) : Type 0 where
  pub all : Shuffled ops (ops_of ds)
  pub within : AllByRecursion (Contains ops) (ops_of ds)
  pub back : AllByRecursion (Contains (ops_of ds)) ops

pub as_in_turn : (j : List Choice) (w : Work) (values : List Value) (history : List (Deed (Labelled Task) Value)) (before after : Images) (entries : List Choice) (ops : List (Labelled Task))
    → Recorded history entries → HaveDistinctKeys (asks_of entries) → AreAsked ops history
    → run (means j w.terms) (plan_each w.tasks) before ≡ record { value = values; asks = asks_in ops; images = after } → IsAsInTurn j w entries values before after
as_in_turn j w values history before after entries ops recorded distinct asked gives =
    let same : asks_in (ops_of history) ≡ asks_of entries = asks_recorded history entries recorded in
    record {
      asks = asks_in ops;
      is = gives;
      as_often = λ v. shuffled_asks ops (ops_of history) asked.all v ∙ ap (weigh v) same;
      choices = λ lawful. record {
        distinct = distinct;
        asked = subst (λ (xs : List Ask). AllByRecursion (Contains (asks_in ops)) xs) same (contain_asks ops (ops_of history) asked.within);
        answered = subst (λ (xs : List Ask). AllByRecursion (Contains xs) (asks_in ops)) same (contain_asks (ops_of history) ops asked.back);
        lawful = lawful;
      };
    }

pub none_shared : (j : List Choice) (w : Work) (values : List Value) (history : List (Deed (Labelled Task) Value)) (before after : Images) (entries : List Choice) → w.shared ≡ []
    → IsDoneBy (any_rules w.terms w.sizes) (Passes w.terms.setting w.shared) (plan_each w.tasks) history values → HaveSizes w.sizes before → Pass w.terms history before after
    → Recorded history entries → HaveDistinctKeys (asks_of entries) → choices_in w.terms.round j ≡ entries → IsAsInTurn j w entries values before after
none_shared j w values history before after entries none done have pass recorded distinct of_round =
    let answered : AnsweredBy j history = answered_by_journal w.terms.round j history entries of_round recorded distinct in
    let under = done_under j w.terms w.sizes (Passes w.terms.setting w.shared) (plan_each w.tasks) history values done answered in
    let apart = in_order_as w.terms w.sizes j (Passes w.terms.setting w.shared) (λ x y. TasksApart x.op y.op) (λ x y h. apart_if_none w.terms.setting w.shared x y none h) (plan_each w.tasks) history values under in
    let alone : IsAlone (task_rules j w.terms w.sizes) (plan_each w.tasks) history values before after =
    done_alone (task_rules j w.terms w.sizes) (task_laws j w.terms w.sizes) (plan_each w.tasks) history values before after apart have (pass_under j w.terms history before after done.single answered pass) in
    as_in_turn j w values history before after entries alone.ops recorded distinct
    (record { all = alone.all; within = alone.within; back = alone.back })
    (alone.gives ∙ ap (λ (asks : List Ask). record { value = values; asks = asks; images = after }) (oracle_asks j w.terms alone.oracle alone.ops before alone.single))

-- ---- a round

abbrev map_done : {A B : Type 0} → (A → B) → Done A → Done B
map_done f d = record { value = f d.value; asks = d.asks; images = d.images }

run_map : {A B : Type 0} (j : List Choice) (t : Terms) (f : A → B) (p : Program Task Value A) (images : Images) → run (means j t) (p >>= λ a. Ends (f a)) images ≡ map_done f (run (means j t) p images)
run_map j t f (Ends a) images = refl
run_map j t f (Asks op more) images =
    ap (behind (means j t op images).asks) (run_map j t f (more (means j t op images).value) (means j t op images).images)

-- the round's program ends as the tasks do
round_each : (j : List Choice) (t : Terms) (f : Forest) (images : Images) → run (means j t) (plan_round f) images ≡ map_done round_of (run (means j t) (plan_each (settles f)) images)
round_each j t NoTrees images = refl
round_each j t (TreeOf p kids others) images =
    let first : Done Value = means j t (Settle p kids) images in
    let each : Done (List Value) = run (means j t) (plan_each (settles others)) first.images in
    ap (behind first.asks)
    (run_map j t (λ (o : Round). add_tree (settled first.value) o) (plan_round others) first.images
    ∙ ap (map_done (λ (o : Round). add_tree (settled first.value) o)) (round_each j t others first.images)
    ∙ ap (map_done round_of) (sym (run_map j t (λ (vs : List Value). first.value ∷ vs) (plan_each (settles others)) first.images)))

pub round_as_in_turn : (j : List Choice) (w : Work) (f : Forest) (values : List Value) (before after : Images) (entries : List Choice) → AreTrees f → w.tasks ≡ settles f → IsAsInTurn j w entries values before after → IsSettledByEntries j w.terms f entries (round_of values) before after
round_as_in_turn j w f values before after entries trees tasks turn = record {
  asks = turn.asks;
  is = ap (λ (d : Done Round). record { left = d.value.left; ended = d.value.ended; asks = d.asks; images = d.images })
      (sym (settles_each j w.terms f before trees) ∙ round_each j w.terms f before
      ∙ ap (map_done round_of) (ap (λ (qs : List Task). run (means j w.terms) (plan_each qs) before) (sym tasks) ∙ turn.is));
  as_often = turn.as_often;
  choices = turn.choices;
}
