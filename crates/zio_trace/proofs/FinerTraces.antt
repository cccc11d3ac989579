-- The trace that stops above single operations is made of the trace of single operations.
use Rattle.std.proofs.Common.{ℕ, zero, suc, ◌+◌, Bool, true, false, List, [], ◌∷◌}
use Rattle.zio_types.specs.Choices.{Choice}
use Rattle.zio_cksum.specs.Images.{Images}
use Rattle.zio_gang.specs.Attempts.{Attempt, Attempted, Pending, Return, Terms, attempt_one, attempt_tree, now_alone, reexecutions_max, root_bits, settle}
use Rattle.zio_trace.specs.Conflicts.{is_single}
use Rattle.zio_trace.specs.Plans.{plan, plan_own}
use Rattle.zio_trace.specs.Programs.{Deed, Made, NoneMade}
use Rattle.zio_trace.specs.RoundTraces.{StopsAtSingles, again_if, again_trace, attempt_trace, is_single_or_piece, levels_max, own_trace, pointers_after, round_trace, settle_trace, task_trace}
use Rattle.zio_trace.specs.Tasks.{Find, Leaf, TakePlaces, Task, Value, means}
use Rattle.zio_trace.proofs.DownLemmas.{down_finer, each_finer}
use Rattle.zio_trace.proofs.RequestLemmas.{plan_run}
use Rattle.zio_trace.proofs.TraceLemmas.{made-append}

module _ (stops : Task → Bool) (h : StopsAtSingles stops) (j : List Choice) (t : Terms) where
  attempt_finer : (attempt : ℕ) (tree : List Pending) (returns : List Return) (images : Images) → Made (plan t) (attempt_trace stops j t attempt tree returns images) (attempt_trace is_single j t attempt tree returns images)
  attempt_finer attempt [] returns images = NoneMade
  attempt_finer attempt (p ∷ ps) returns images =
      let one : Attempted = attempt_one j t attempt p returns images in
      made-append (plan t) (own_trace stops j t attempt p (pointers_after p returns) images) (attempt_trace stops j t attempt ps (one.return ∷ returns) one.images)
      (own_trace is_single j t attempt p (pointers_after p returns) images) (attempt_trace is_single j t attempt ps (one.return ∷ returns) one.images)
      (each_finer (means j t) (plan t) stops is_single h (task_trace stops j t) (task_trace is_single j t) (down_finer (means j t) (plan t) stops is_single h (plan_run j t) levels_max)
      (plan_own t attempt p p.request.work (pointers_after p returns)) images)
      (attempt_finer attempt ps (one.return ∷ returns) one.images)

  again_finer : (now : Bool) (a : Attempt) (trace finer : List Pending → Images → List (Deed Task Value)) → Made (plan t) (trace a.again a.images) (finer a.again a.images) → Made (plan t) (again_if now a trace) (again_if now a finer)
  again_finer true a trace finer made = made
  again_finer false a trace finer made = NoneMade

  settle_finer : (more attempt : ℕ) (tree : List Pending) (images : Images) → Made (plan t) (settle_trace more stops j t attempt tree images) (settle_trace more is_single j t attempt tree images)
  settle_finer zero attempt tree images = attempt_finer attempt tree [] images
  settle_finer (suc more) attempt tree images =
      let a : Attempt = attempt_tree j t attempt tree images in
      made-append (plan t) (attempt_trace stops j t attempt tree [] images) (again_trace a (settle_trace more stops j t (attempt + 1)))
      (attempt_trace is_single j t attempt tree [] images) (again_trace a (settle_trace more is_single j t (attempt + 1)))
      (attempt_finer attempt tree [] images)
      (again_finer (now_alone (root_bits a.returns)) a (settle_trace more stops j t (attempt + 1)) (settle_trace more is_single j t (attempt + 1)) (settle_finer more (attempt + 1) a.again a.images))

  pub round_finer : (trees : List (List Pending)) (images : Images) → Made (plan t) (round_trace stops j t trees images) (round_trace is_single j t trees images)
  round_finer [] images = NoneMade
  round_finer (tree ∷ trees) images =
      let now : Images = (settle j t tree images).images in
      made-append (plan t) (settle_trace reexecutions_max stops j t 0 tree images) (round_trace stops j t trees now) (settle_trace reexecutions_max is_single j t 0 tree images) (round_trace is_single j t trees now)
      (settle_finer reexecutions_max 0 tree images) (round_finer trees now)

-- ---- where traces stop

pub singles_stop : StopsAtSingles is_single
singles_stop o e = e

pub pieces_stop : StopsAtSingles is_single_or_piece
pieces_stop (Leaf act) e = e
pieces_stop (Find a) e = e
pieces_stop (TakePlaces tree) e = e
pieces_stop _ e = absurd (cc)
