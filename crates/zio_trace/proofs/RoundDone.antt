-- What an engine did in a round, in whatever order, is what settling each tree leaves.
use Rattle.std.proofs.Common.{◌≡◌, ℕ, ◌+◌, true, List, [], ◌∷◌, ◌++◌, refl, sym, ap, ◌∙◌, subst, arith}
use Rattle.std.specs.List.{AllByRecursion}
use Rattle.zio_types.specs.Choices.{Ask, Choice}
use Rattle.zio_cksum.specs.Images.{Images}
use Rattle.zio_gang.specs.Attempts.{Terms}
use Rattle.zio_trace.specs.Conflicts.{is_single}
use Rattle.zio_trace.specs.Families.{Forest}
use Rattle.zio_trace.specs.Footprints.{FitsTask}
use Rattle.zio_trace.specs.Labels.{Labelled, means_at}
use Rattle.zio_trace.specs.Leaves.{HaveSizes}
use Rattle.zio_trace.specs.Oracles.{Oracle, Shuffled, deeds_as, ops_of, weigh}
use Rattle.zio_trace.specs.Programs.{Deed, Done, Happen, asks_of}
use Rattle.zio_trace.specs.RoundRules.{IsSettled, asks_in, mend_task, task_rules}
use Rattle.zio_trace.specs.Rounds.{AreTrees, Round, plan_round}
use Rattle.zio_trace.specs.Rules.{AreLawful, IsDone}
use Rattle.zio_trace.specs.Tasks.{Find, Leaf, TakePlaces, Task, Value, means}
use Rattle.zio_trace.specs.Traces.{asked_by}
use Rattle.zio_trace.proofs.DoneLemmas.{done_alone}
use Rattle.zio_trace.proofs.GroundLemmas.{task_ground}
use Rattle.zio_trace.proofs.RequestFootprints.{tasks_stay}
use Rattle.zio_trace.proofs.RequestLemmas.{plan_run}
use Rattle.zio_trace.proofs.RoundLemmas.{tasks_commute}
use Rattle.zio_trace.proofs.WholeRound.{settles_each}
use Rattle.zio_trace.proofs.WholeTraces.{single_asks}

mended_task : (j : List Choice) (t : Terms) (task : Task) (v : Value) → is_single task ≡ true → FitsTask j t task (mend_task j task v)
mended_task j t (Leaf op) v e = tt
mended_task j t (Find a) v e = refl
mended_task j t (TakePlaces tree) v e = tt
mended_task j t _ v e = absurd (cc)

pub task_laws : (j : List Choice) (t : Terms) (sizes : ℕ → ℕ) → AreLawful (task_rules j t sizes)
task_laws j t sizes = record {
  ground = task_ground t;
  law = plan_run j t;
  commute = tasks_commute j t sizes;
  stays = tasks_stay j t;
  mended = mended_task j t;
}

-- ---- asks

pub weigh_append : {X : Type 0} (w : X → ℕ) (xs ys : List X) → weigh w (xs ++ ys) ≡ weigh w xs + weigh w ys
weigh_append w [] ys = omega arith
weigh_append w (x ∷ xs) ys = let e : weigh w (xs ++ ys) ≡ weigh w xs + weigh w ys = weigh_append w xs ys in omega arith

pub weigh_asks : (w : Ask → ℕ) (ops : List (Labelled Task)) → weigh w (asks_in ops) ≡ weigh (λ (x : Labelled Task). weigh w (asked_by x.op)) ops
weigh_asks w [] = refl
weigh_asks w (x ∷ xs) =
    let e : weigh w (asks_in xs) ≡ weigh (λ (y : Labelled Task). weigh w (asked_by y.op)) xs = weigh_asks w xs in
    weigh_append w (asked_by x.op) (asks_in xs) ∙ ap (λ (n : ℕ). weigh w (asked_by x.op) + n) e

-- what is asked as often has the same asks as often
pub shuffled_asks : (xs ys : List (Labelled Task)) → Shuffled xs ys → Shuffled (asks_in xs) (asks_in ys)
shuffled_asks xs ys h w = weigh_asks w xs ∙ h (λ (x : Labelled Task). weigh w (asked_by x.op)) ∙ sym (weigh_asks w ys)

-- what single operations ask doesn't depend on the images
pub oracle_asks : (j : List Choice) (t : Terms) (o : Oracle (Labelled Task) Value) (ops : List (Labelled Task)) (images : Images) → AllByRecursion (λ (x : Labelled Task). is_single x.op ≡ true) ops → asks_of (means_at (means j t)) (deeds_as o ops) images ≡ asks_in ops
oracle_asks j t o [] images single = refl
oracle_asks j t o (x ∷ xs) images single = λ i. single_asks j t x.op images single.0 i ++ oracle_asks j t o xs (means j t x.op images).images single.1 i

-- Whatever the order in which a round's deeds were done, each tree is settled as it is alone, and the images are those.
pub settled_in_any_order : (j : List Choice) (t : Terms) (sizes : ℕ → ℕ) (f : Forest) (history : List (Deed (Labelled Task) Value)) (value : Round) (before after : Images)
    → AreTrees f → IsDone (task_rules j t sizes) (plan_round f) history value → HaveSizes sizes before → Happen (means_at (means j t)) history before after
    → IsSettled j t f history value before after
settled_in_any_order j t sizes f history value before after trees done have happen =
    let alone = done_alone (task_rules j t sizes) (task_laws j t sizes) (plan_round f) history value before after done have happen in
    let asks : List Ask = asks_of (means_at (means j t)) (deeds_as alone.oracle alone.ops) before in
    record {
      asks = asks;
      is = ap (λ (d : Done Round). record { left = d.value.left; ended = d.value.ended; asks = d.asks; images = d.images }) (sym (settles_each j t f before trees) ∙ alone.gives);
      as_often = subst (λ (xs : List Ask). Shuffled xs (asks_in (ops_of history))) (sym (oracle_asks j t alone.oracle alone.ops before alone.single)) (shuffled_asks alone.ops (ops_of history) alone.all);
    }
