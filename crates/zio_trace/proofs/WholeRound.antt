-- What an engine did in a round, in whatever order, is what settling each tree leaves.
use Rattle.std.proofs.Common.{◌≡◌, ℕ, List, refl, sym, ap, ◌∙◌}
use Rattle.std.specs.List.{AllByRecursion}
use Rattle.zio_cksum.specs.Images.{Images}
use Rattle.zio_types.specs.Choices.{Choice}
use Rattle.zio_gang.specs.Attempts.{Terms, Settled as TreeSettled, reexecutions_max}
use Rattle.zio_gang.specs.Rounds.{then_trees, settle_each}
use Rattle.zio_trace.specs.Conflicts.{TasksApart, TaskLies}
use Rattle.zio_trace.specs.Families.{Forest, NoTrees, TreeOf}
use Rattle.zio_trace.specs.Leaves.{HaveSizes}
use Rattle.zio_trace.specs.Orders.{Stamped, deeds_in, IsOrderOf}
use Rattle.zio_trace.specs.Plans.{plan}
use Rattle.zio_trace.specs.Programs.{Done, run, behind, Deed, Does, Made, Happen, asks_of}
use Rattle.zio_trace.specs.Rounds.{Round, add_tree, trees_in, AreTrees, plan_round, as_round}
use Rattle.zio_trace.specs.Tasks.{Task, Value, means, AllEnded, settle_root}
use Rattle.zio_trace.proofs.RequestLemmas.{plan_run}
use Rattle.zio_trace.proofs.RoundLemmas.{tasks_commute, round_run}
use Rattle.zio_trace.proofs.SettleLemmas.{tree_settles}
use Rattle.zio_trace.proofs.TaskLemmas.{made_of}

-- the round's program, run alone, settles each tree
pub settles_each : (j : List Choice) (t : Terms) (f : Forest) (images : Images) → AreTrees f → run (means j t) (plan_round f) images ≡ as_round (settle_each j t (trees_in f) images)
unfolding settle_each
settles_each j t NoTrees images h = refl
settles_each j t (TreeOf p kids others) images h =
    let e : AllEnded = settle_root reexecutions_max j t 0 p kids images in
    ap (behind e.asks) (made_of j t (plan_round others) (λ o. add_tree e.value o) e.images _ (settles_each j t others e.images h.1))
    ∙ ap (λ (s : TreeSettled). as_round (then_trees s (settle_each j t (trees_in others)))) (sym (tree_settles reexecutions_max j t 0 p kids images h.0))

-- Whatever the order in which the round's deeds were done, each tree is settled as it is alone, and the images are those.
pub round_is_settled : (j : List Choice) (t : Terms) (sizes : ℕ → ℕ) (f : Forest) (calls history : List (Deed Task Value)) (xs : List (Stamped Task Value)) (value : Round) (before after : Images)
    → AreTrees f → Does (plan_round f) calls value → Made (plan t) calls (deeds_in xs) → IsOrderOf TasksApart history xs
    → AllByRecursion (λ (x : Stamped Task Value). TaskLies sizes x.deed.op) xs → HaveSizes sizes before → Happen (means j t) history before after
    → settle_each j t (trees_in f) before ≡ record { left = value.left; ended = value.ended; asks = asks_of (means j t) calls before; images = after }
round_is_settled j t sizes f calls history xs value before after trees does made shows lies have happen =
    let whole : as_round (settle_each j t (trees_in f) before) ≡ record { value = value; asks = asks_of (means j t) calls before; images = after } =
    sym (settles_each j t f before trees)
    ∙ round_run (means j t) (plan t) (HaveSizes sizes) (TaskLies sizes) TasksApart (plan_run j t) (tasks_commute j t sizes) (plan_round f) calls history xs value before after does made shows lies have happen in
    ap (λ (d : Done Round). record { left = d.value.left; ended = d.value.ended; asks = d.asks; images = d.images }) whole
