-- A round's trace leads from the images before the round to those after it, and asks for what the round asks for.
use Rattle.std.proofs.Common.{◌≡◌, ℕ, zero, suc, ◌+◌, Bool, true, false, List, [], ◌∷◌, ◌++◌, Option, refl, sym, subst, append-nil}
use Rattle.zio_types.specs.declared.request.Bits.{Bits}
use Rattle.zio_types.specs.Choices.{Ask, Choice}
use Rattle.zio_blkptr.specs.declared.pointer.Bp.{Bp}
use Rattle.zio_cksum.specs.Images.{Images}
use Rattle.zio_cksum.proofs.AllLemmas.{all_append}
use Rattle.zio_gang.specs.Attempts.{Attempt, Attempted, Child, Own, Pending, Return, Settled, Terms, attempt_each, attempt_one, closed_if, now_alone, own_work, reexecutions_max, root_bits, settle, settle_from, settled_if}
use Rattle.zio_gang.specs.Rounds.{Ran, settle_each}
use Rattle.zio_trace.specs.Plans.{plan, plan_own}
use Rattle.zio_trace.specs.Programs.{Deed, Done, run}
use Rattle.zio_trace.specs.RoundTraces.{LeadsBy, StopsAtSingles, again_if, attempt_trace, levels_max, own_trace, pointers_after, round_trace, settle_trace, task_trace}
use Rattle.zio_trace.specs.Tasks.{OwnGot, Task, Value, means}
use Rattle.zio_trace.proofs.DownLemmas.{Gives, Reaches, down_gives, down_stops, each_gives, each_stops, gives_join}
use Rattle.zio_trace.proofs.LevelLemmas.{own_reached}
use Rattle.zio_trace.proofs.RequestLemmas.{own_run, plan_run}

module _ (stops : Task → Bool) (j : List Choice) (t : Terms) where
  abbrev Leads : List (Deed Task Value) → Images → Images → List Ask → Type 0
  Leads = LeadsBy stops j t

  leads_join : (ds es : List (Deed Task Value)) (before mid after : Images) (xs ys : List Ask) → Leads ds before mid xs → Leads es mid after ys → Leads (ds ++ es) before after (xs ++ ys)
  leads_join ds es before mid after xs ys d e =
      let both : Gives (means j t) (plan t) stops (ds ++ es) before after (xs ++ ys) =
      gives_join (means j t) (plan t) stops ds es before mid after xs ys (record { happen = d.happen; asked = d.asked }) (record { happen = e.happen; asked = e.asked }) in
      record { happen = both.happen; stop = all_append (λ (x : Deed Task Value). stops x.op ≡ true) ds es d.stop e.stop; asked = both.asked }

  -- ---- one request

  own_leads : StopsAtSingles stops → (attempt : ℕ) (p : Pending) (pointers : List (Option Bp)) (images : Images)
      → Leads (own_trace stops j t attempt p pointers images) images (own_work j t attempt p p.request.work pointers images).images (own_work j t attempt p p.request.work pointers images).asks
  own_leads h attempt p pointers images =
      let ds : List (Deed Task Value) = own_trace stops j t attempt p pointers images in
      let gives : Gives (means j t) (plan t) stops ds images (run (means j t) (plan_own t attempt p p.request.work pointers) images).images (run (means j t) (plan_own t attempt p p.request.work pointers) images).asks =
      each_gives (means j t) (plan t) stops (task_trace stops j t) (down_gives (means j t) (plan t) stops (plan_run j t) levels_max) (plan_own t attempt p p.request.work pointers) images in
      let work : Gives (means j t) (plan t) stops ds images (own_work j t attempt p p.request.work pointers images).images (own_work j t attempt p p.request.work pointers images).asks =
      subst (λ (d : Done OwnGot). Gives (means j t) (plan t) stops ds images d.images d.asks) (own_run j t attempt p p.request.work pointers images) gives in
      record {
        happen = work.happen;
        stop =
            each_stops (means j t) (plan t) stops (task_trace stops j t) (Reaches (means j t) (plan t) stops levels_max) (down_stops (means j t) (plan t) stops levels_max)
            (plan_own t attempt p p.request.work pointers) images (own_reached stops j t h attempt p p.request.work pointers);
        asked = work.asked;
      }

  closed_leads : (again : Bool) (p : Pending) (own : Own) (bits : Bits) (kept : List Child) (ds : List (Deed Task Value)) (images : Images)
      → Leads ds images own.images own.asks → Leads ds images (closed_if again p own bits kept).images (closed_if again p own bits kept).asks
  closed_leads true p own bits kept ds images h = h
  closed_leads false p own bits kept ds images h = h

  one_leads : StopsAtSingles stops → (attempt : ℕ) (p : Pending) (returns : List Return) (images : Images)
      → Leads (own_trace stops j t attempt p (pointers_after p returns) images) images (attempt_one j t attempt p returns images).images (attempt_one j t attempt p returns images).asks
  one_leads h attempt p returns images =
      closed_leads _ p (own_work j t attempt p p.request.work (pointers_after p returns) images) _ _
      (own_trace stops j t attempt p (pointers_after p returns) images) images (own_leads h attempt p (pointers_after p returns) images)

  -- ---- a tree

  each_leads : StopsAtSingles stops → (attempt : ℕ) (tree : List Pending) (returns : List Return) (images : Images)
      → Leads (attempt_trace stops j t attempt tree returns images) images (attempt_each j t attempt tree returns images).images (attempt_each j t attempt tree returns images).asks
  unfolding attempt_each
  each_leads h attempt [] returns images = record { happen = refl; stop = tt; asked = refl }
  each_leads h attempt (p ∷ ps) returns images =
      let one : Attempted = attempt_one j t attempt p returns images in
      let rest : Attempt = attempt_each j t attempt ps (one.return ∷ returns) one.images in
      leads_join (own_trace stops j t attempt p (pointers_after p returns) images) (attempt_trace stops j t attempt ps (one.return ∷ returns) one.images)
      images one.images rest.images one.asks rest.asks (one_leads h attempt p returns images) (each_leads h attempt ps (one.return ∷ returns) one.images)

  again_leads : (now : Bool) (a : Attempt) (ds : List (Deed Task Value)) (images : Images) (trace : List Pending → Images → List (Deed Task Value)) (again : List Pending → Images → Settled)
      → Leads ds images a.images a.asks → Leads (trace a.again a.images) a.images (again a.again a.images).images (again a.again a.images).asks
      → Leads (ds ++ again_if now a trace) images (settled_if now a again).images (settled_if now a again).asks
  again_leads true a ds images trace again first later =
      leads_join ds (trace a.again a.images) images a.images (again a.again a.images).images a.asks (again a.again a.images).asks first later
  again_leads false a ds images trace again first later =
      subst (λ (xs : List (Deed Task Value)). Leads xs images a.images a.asks) (sym (append-nil ds)) first

  settle_leads : StopsAtSingles stops → (more attempt : ℕ) (tree : List Pending) (images : Images)
      → Leads (settle_trace more stops j t attempt tree images) images (settle_from more j t attempt tree images).images (settle_from more j t attempt tree images).asks
  unfolding settle_from
  settle_leads h zero attempt tree images = each_leads h attempt tree [] images
  settle_leads h (suc more) attempt tree images =
      let a : Attempt = attempt_each j t attempt tree [] images in
      again_leads (now_alone (root_bits a.returns)) a (attempt_trace stops j t attempt tree [] images) images
      (settle_trace more stops j t (attempt + 1)) (settle_from more j t (attempt + 1))
      (each_leads h attempt tree [] images) (settle_leads h more (attempt + 1) a.again a.images)

  -- ---- a round

  pub round_leads : StopsAtSingles stops → (trees : List (List Pending)) (images : Images)
      → Leads (round_trace stops j t trees images) images (settle_each j t trees images).images (settle_each j t trees images).asks
  unfolding settle_each
  round_leads h [] images = record { happen = refl; stop = tt; asked = refl }
  round_leads h (tree ∷ trees) images =
      let s : Settled = settle j t tree images in
      let rest : Ran = settle_each j t trees s.images in
      leads_join (settle_trace reexecutions_max stops j t 0 tree images) (round_trace stops j t trees s.images) images s.images rest.images s.asks rest.asks
      (settle_leads h reexecutions_max 0 tree images) (round_leads h trees s.images)
