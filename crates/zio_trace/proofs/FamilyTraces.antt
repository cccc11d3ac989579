-- The plan of a round is made of the round's trace, and of no other list of single operations that happens.
use Rattle.std.proofs.Common.{◌≡◌, ℕ, zero, suc, ◌+◌, Bool, true, false, List, [], ◌∷◌, ◌++◌, map, Option, Some, None, refl, sym, ap, ◌∙◌, subst, append_assoc, append-nil}
use Rattle.std.specs.List.{AllByRecursion}
use Rattle.zio_types.specs.Choices.{Choice}
use Rattle.zio_blkptr.specs.declared.pointer.Bp.{Bp}
use Rattle.zio_cksum.specs.Images.{Images}
use Rattle.zio_gang.specs.Attempts.{Attempt, Attempted, Child, Pending, Return, Terms, attempt_each, attempt_one, attempt_with, children_of, insert_children, judged_own, now_alone, reexecutions_max, settle}
use Rattle.zio_trace.specs.Conflicts.{is_single}
use Rattle.zio_trace.specs.Families.{AreUnder, Forest, Grown, NoTrees, Rooted, TreeOf, attempt_forest, attempt_root, flat, root_left}
use Rattle.zio_trace.specs.Plans.{Kids, TaskPlan, add_kid, add_settled, bare, one_of, plan, plan_again, plan_kids, plan_left, plan_own, plan_root, plan_settle}
use Rattle.zio_trace.specs.Programs.{Asks, Deed, Does, Done, Ends, Happen, Made, Meaning, NoneMade, Program, ◌>>=◌, ask, deeds_of, run}
use Rattle.zio_trace.specs.RoundTraces.{again_if, again_trace, attempt_trace, deed_of, levels_max, own_trace, pointers_after, round_trace, settle_trace, task_trace}
use Rattle.zio_trace.specs.Rounds.{AreTrees, Round, add_tree, plan_round, trees_in}
use Rattle.zio_trace.specs.Tasks.{Attempt as AttemptOf, AttemptedBy, Find, Leaf, One, Settle, Settled, SettledBy, TakePlaces, Task, Value, means, settle_root}
use Rattle.zio_trace.proofs.DownLemmas.{by_plan, down_made, each_made}
use Rattle.zio_trace.proofs.FamilyLemmas.{FlatRun, Fresh, flat_run, fresh_behind, nothing_handed, root_hears}
use Rattle.zio_trace.proofs.GroundLemmas.{task_ground}
use Rattle.zio_trace.proofs.ListLemmas.{all_front, all_rest}
use Rattle.zio_trace.proofs.OnlyLemmas.{does_own, each_only, ground_only}
use Rattle.zio_trace.proofs.ProgramLemmas.{made_happen}
use Rattle.zio_trace.proofs.RequestLemmas.{as_kids, kids_run, plan_run}
use Rattle.zio_trace.proofs.RoundTraceLemmas.{round_leads}
use Rattle.zio_trace.proofs.SettleLemmas.{alone, alone_attempted, root_flat, root_under, tree_settles}
use Rattle.zio_trace.proofs.TraceLemmas.{made-append}

-- ---- the deeds of programs one after another

deeds_then : {Op Ans A B : Type 0} (means : Meaning Op Ans) (p : Program Op Ans A) (next : A → Program Op Ans B) (images : Images)
    → deeds_of means (p >>= next) images ≡ deeds_of means p images ++ deeds_of means (next (run means p images).value) (run means p images).images
deeds_then means (Ends a) next images = refl
deeds_then means (Asks op more) next images =
    ap (λ (ds : List (Deed _ _)). deed_of means op images ∷ ds) (deeds_then means (more (means op images).value) next (means op images).images)

deeds_last : {Op Ans A B : Type 0} (means : Meaning Op Ans) (p : Program Op Ans A) (g : A → B) (images : Images) → deeds_of means (p >>= λ a. Ends (g a)) images ≡ deeds_of means p images
deeds_last means (Ends a) g images = refl
deeds_last means (Asks op more) g images =
    ap (λ (ds : List (Deed _ _)). deed_of means op images ∷ ds) (deeds_last means (more (means op images).value) g (means op images).images)

module _ (stops : Task → Bool) (j : List Choice) (t : Terms) where
  abbrev M : List (Deed Task Value) → List (Deed Task Value) → Type 0
  M = Made (plan t)

  abbrev deeds : {A : Type 0} → TaskPlan A → Images → List (Deed Task Value)
  deeds = deeds_of (means j t)

  -- ---- an attempt by families

  abbrev heard_pointers : Pending → List Return → List (Option Bp)
  heard_pointers p heard = map (λ (c : Child). c.pointer) (insert_children (children_of heard) p.kept)

  abbrev forest_trace : ℕ → Forest → Images → List (Deed Task Value)
  forest_trace attempt NoTrees images = []
  forest_trace attempt (TreeOf p kids others) images =
      let g : Grown = attempt_forest j t attempt kids images in
      forest_trace attempt kids images
      ++ (own_trace stops j t attempt p (heard_pointers p g.returns) g.images ++ forest_trace attempt others (attempt_root j t attempt p kids images).images)

  trace_append : (attempt : ℕ) (xs ys : List Pending) (rs : List Return) (images : Images) → attempt_trace stops j t attempt (xs ++ ys) rs images
      ≡ attempt_trace stops j t attempt xs rs images ++ attempt_trace stops j t attempt ys (attempt_each j t attempt xs rs images).returns (attempt_each j t attempt xs rs images).images
  unfolding attempt_each
  trace_append attempt [] ys rs images = refl
  trace_append attempt (p ∷ xs) ys rs images =
      let one : Attempted = attempt_one j t attempt p rs images in
      let own : List (Deed Task Value) = own_trace stops j t attempt p (pointers_after p rs) images in
      ap (λ (ds : List (Deed Task Value)). own ++ ds) (trace_append attempt xs ys (one.return ∷ rs) one.images)
      ∙ sym (append_assoc own (attempt_trace stops j t attempt xs (one.return ∷ rs) one.images) _)

  flat_trace : (attempt : ℕ) (u : Option ℕ) (f : Forest) (rs : List Return) (images : Images) → AreUnder u f → Fresh rs (flat f) → attempt_trace stops j t attempt (flat f) rs images ≡ forest_trace attempt f images
  flat_trace attempt u NoTrees rs images h fresh = refl
  flat_trace attempt u (TreeOf p kids others) rs images h fresh =
      let own : ℕ = p.request.number in
      let front : Fresh rs (flat kids) = all_front _ (flat kids) (p ∷ flat others) fresh in
      let rest : Fresh rs (p ∷ flat others) = all_rest _ (flat kids) (p ∷ flat others) fresh in
      let k : FlatRun j t attempt kids rs images = flat_run j t attempt (Some own) kids rs images h.1 front in
      let g : Grown = attempt_forest j t attempt kids images in
      let r : Rooted = attempt_root j t attempt p kids images in
      trace_append attempt (flat kids) (p ∷ flat others) rs images
      ∙ ap (λ (a : Attempt). attempt_trace stops j t attempt (flat kids) rs images ++ attempt_trace stops j t attempt (p ∷ flat others) a.returns a.images) k.is
      ∙ ap (λ (ds : List (Deed Task Value)). ds ++ attempt_trace stops j t attempt (p ∷ flat others) k.returns g.images) (flat_trace attempt (Some own) kids rs images h.1 front)
      ∙ ap (λ (heard : List Return). forest_trace attempt kids images ++ (own_trace stops j t attempt p (heard_pointers p heard) g.images ++ attempt_trace stops j t attempt (flat others) ((attempt_with j t attempt p heard g.images).return ∷ k.returns) (attempt_with j t attempt p heard g.images).images)) (root_hears j t attempt own kids rs images k h.1 h.3 rest.0)
      ∙ ap (λ (ds : List (Deed Task Value)). forest_trace attempt kids images ++ (own_trace stops j t attempt p (heard_pointers p g.returns) g.images ++ ds))
      (flat_trace attempt u others (r.return ∷ k.returns) r.images h.2 (fresh_behind j t attempt u p kids others rs images k h rest.1))

  -- ---- what plans are made of

  own_made : (attempt : ℕ) (p : Pending) (pointers : List (Option Bp)) (images : Images) → M (deeds (plan_own t attempt p p.request.work pointers) images) (own_trace stops j t attempt p pointers images)
  own_made attempt p pointers images =
      each_made (means j t) (plan t) stops (task_trace stops j t) (down_made (means j t) (plan t) stops (plan_run j t) levels_max) (plan_own t attempt p p.request.work pointers) images

  attempt_made : (attempt : ℕ) (p : Pending) (kids : Forest) (images : Images) → M (deeds (plan_kids attempt kids) images) (forest_trace attempt kids images)
      → M (deed_of (means j t) (AttemptOf attempt p kids) images ∷ []) (forest_trace attempt kids images ++ own_trace stops j t attempt p (heard_pointers p (attempt_forest j t attempt kids images).returns) (attempt_forest j t attempt kids images).images)
  attempt_made attempt p kids images h =
      let g : Grown = attempt_forest j t attempt kids images in
      let own : TaskPlan _ = plan_own t attempt p p.request.work (heard_pointers p g.returns) in
      let ds : List (Deed Task Value) = forest_trace attempt kids images in
      let es : List (Deed Task Value) = own_trace stops j t attempt p (heard_pointers p g.returns) g.images in
      let calls : deeds (plan t (AttemptOf attempt p kids)) images ≡ deeds (plan_kids attempt kids) images ++ deeds own g.images =
      deeds_then (means j t) (plan_kids attempt kids) (plan_root t attempt p) images
      ∙ ap (λ (d : Done Kids). deeds (plan_kids attempt kids) images ++ deeds (plan_root t attempt p d.value) d.images) (kids_run j t attempt kids images)
      ∙ ap (λ (cs : List (Deed Task Value)). deeds (plan_kids attempt kids) images ++ cs)
      (deeds_last (means j t) own (λ o. AttemptedBy (one_of (as_kids g).value (judged_own t p g.returns (bare o)))) g.images) in
      by_plan (means j t) (plan t) stops (plan_run j t) (AttemptOf attempt p kids) images (ds ++ es)
      (subst (λ (cs : List (Deed Task Value)). M cs (ds ++ es)) (sym calls)
      (made-append (plan t) (deeds (plan_kids attempt kids) images) (deeds own g.images) ds es h (own_made attempt p (heard_pointers p g.returns) g.images)))

  kids_made : (attempt : ℕ) (f : Forest) (images : Images) → M (deeds (plan_kids attempt f) images) (forest_trace attempt f images)
  kids_made attempt NoTrees images = NoneMade
  kids_made attempt (TreeOf p kids others) images =
      let g : Grown = attempt_forest j t attempt kids images in
      let r : Rooted = attempt_root j t attempt p kids images in
      let one : One = record { return = r.return; ended = r.ended; again = r.again; left = r.left } in
      let call : Deed Task Value = deed_of (means j t) (AttemptOf attempt p kids) images in
      let own : List (Deed Task Value) = own_trace stops j t attempt p (heard_pointers p g.returns) g.images in
      let all : List (Deed Task Value) = forest_trace attempt others r.images in
      subst (λ (cs : List (Deed Task Value)). M (call ∷ cs) (forest_trace attempt kids images ++ (own ++ all))) (sym (deeds_last (means j t) (plan_kids attempt others) (λ o. add_kid one o) r.images))
      (subst (M (call ∷ deeds (plan_kids attempt others) r.images)) (append_assoc (forest_trace attempt kids images) own all)
      (made-append (plan t) (call ∷ []) (deeds (plan_kids attempt others) r.images) (forest_trace attempt kids images ++ own) all
      (attempt_made attempt p kids images (kids_made attempt kids images)) (kids_made attempt others r.images)))

  -- one attempt of a tree
  root_made : (attempt : ℕ) (p : Pending) (kids : Forest) (images : Images) → AreUnder None (TreeOf p kids NoTrees) → M (deed_of (means j t) (AttemptOf attempt p kids) images ∷ []) (attempt_trace stops j t attempt (flat kids ++ p ∷ []) [] images)
  root_made attempt p kids images h =
      let g : Grown = attempt_forest j t attempt kids images in
      let own : List (Deed Task Value) = own_trace stops j t attempt p (heard_pointers p g.returns) g.images in
      subst (M (deed_of (means j t) (AttemptOf attempt p kids) images ∷ []))
      (ap (λ (ds : List (Deed Task Value)). forest_trace attempt kids images ++ ds) (sym (append-nil own))
      ∙ sym (flat_trace attempt None (TreeOf p kids NoTrees) [] images h (nothing_handed (flat kids ++ p ∷ []))))
      (attempt_made attempt p kids images (kids_made attempt kids images))

  -- ---- all attempts

  none_trace : (more attempt : ℕ) (images : Images) → settle_trace more stops j t attempt [] images ≡ []
  unfolding attempt_each
  none_trace zero attempt images = refl
  none_trace (suc more) attempt images = refl

  left_made : (one : One) (r : Rooted) (kids : Forest) (xs : List Pending) (again : Pending → Forest → TaskPlan Settled) (trace : List Pending → Images → List (Deed Task Value))
      → ((images : Images) → trace [] images ≡ [])
      → ((q : Pending) (ks : Forest) (images : Images) → AreUnder None (TreeOf q ks NoTrees) → M (deeds (again q ks) images) (trace (flat ks ++ q ∷ []) images))
      → flat (root_left xs kids) ≡ r.again → AreUnder None (root_left xs kids) → M (deeds (plan_left one (root_left xs kids) again) r.images) (trace r.again r.images)
  left_made one r kids [] again trace none step is under =
      subst (M []) (sym (ap (λ (ps : List Pending). trace ps r.images) (sym is) ∙ none r.images)) NoneMade
  left_made one r kids (q ∷ qs) again trace none step is under =
      subst (λ (ps : List Pending). M (deeds (plan_left one (root_left (q ∷ qs) kids) again) r.images) (trace ps r.images)) is
      (subst (λ (cs : List (Deed Task Value)). M cs (trace (flat kids ++ q ∷ []) r.images)) (sym (deeds_last (means j t) (again q kids) (λ later. add_settled one later) r.images))
      (step q kids r.images under))

  again_made : (now : Bool) (one : One) (returns : List Return) (r : Rooted) (again : Pending → Forest → TaskPlan Settled) (trace : List Pending → Images → List (Deed Task Value))
      → M (deeds (plan_left one one.left again) r.images) (trace r.again r.images) → M (deeds (plan_again now one again) r.images) (again_if now (alone returns r) trace)
  again_made true one returns r again trace h = h
  again_made false one returns r again trace h = NoneMade

  settle_made : (more attempt : ℕ) (p : Pending) (kids : Forest) (images : Images) → AreUnder None (TreeOf p kids NoTrees) → M (deeds (plan_settle more attempt p kids) images) (settle_trace more stops j t attempt (flat kids ++ p ∷ []) images)
  settle_made zero attempt p kids images h = root_made attempt p kids images h
  settle_made (suc more) attempt p kids images h =
      let r : Rooted = attempt_root j t attempt p kids images in
      let g : Grown = attempt_forest j t attempt kids images in
      let one : One = record { return = r.return; ended = r.ended; again = r.again; left = r.left } in
      let call : Deed Task Value = deed_of (means j t) (AttemptOf attempt p kids) images in
      let run = alone_attempted j t attempt p kids images h in
      let first : List (Deed Task Value) = attempt_trace stops j t attempt (flat kids ++ p ∷ []) [] images in
      let later : List Pending → Images → List (Deed Task Value) = settle_trace more stops j t (attempt + 1) in
      let next : TaskPlan Settled = plan_again (now_alone r.return.bits) one (plan_settle more (attempt + 1)) in
      subst (λ (a : Attempt). M (call ∷ deeds next r.images) (first ++ again_trace a later)) (sym run.1)
      (made-append (plan t) (call ∷ []) (deeds next r.images) first (again_trace (alone (r.return ∷ run.0) r) later) (root_made attempt p kids images h)
      (again_made (now_alone r.return.bits) one (r.return ∷ run.0) r (plan_settle more (attempt + 1)) later
      (left_made one r g.left (attempt_with j t attempt p g.returns g.images).again (plan_settle more (attempt + 1)) later (none_trace more (attempt + 1)) (λ q ks now under. settle_made more (attempt + 1) q ks now under)
      (root_flat j t attempt p kids images) (root_under j t attempt p kids images h))))

  -- ---- a round

  pub round_made : (f : Forest) (images : Images) → AreTrees f → M (deeds (plan_round f) images) (round_trace stops j t (trees_in f) images)
  round_made NoTrees images h = NoneMade
  round_made (TreeOf p kids others) images h =
      let e = settle_root reexecutions_max j t 0 p kids images in
      let tree : List Pending = flat kids ++ p ∷ [] in
      let call : Deed Task Value = deed_of (means j t) (Settle p kids) images in
      let first : List (Deed Task Value) = settle_trace reexecutions_max stops j t 0 tree images in
      let settles : M (call ∷ []) first =
      by_plan (means j t) (plan t) stops (plan_run j t) (Settle p kids) images first
      (subst (λ (cs : List (Deed Task Value)). M cs first) (sym (deeds_last (means j t) (plan_settle reexecutions_max 0 p kids) (λ x. SettledBy x) images)) (settle_made reexecutions_max 0 p kids images h.0)) in
      subst (λ (cs : List (Deed Task Value)). M (call ∷ cs) (first ++ round_trace stops j t (trees_in others) (settle j t tree images).images)) (sym (deeds_last (means j t) (plan_round others) (λ o. add_tree e.value o) e.images))
      (subst (λ (now : Images). M (call ∷ deeds (plan_round others) e.images) (first ++ round_trace stops j t (trees_in others) now)) (sym (ap (λ s. s.images) (tree_settles reexecutions_max j t 0 p kids images h.0)))
      (made-append (plan t) (call ∷ []) (deeds (plan_round others) e.images) first (round_trace stops j t (trees_in others) e.images) settles (round_made others e.images h.1)))

-- ---- no other list

module _ (j : List Choice) (t : Terms) where
  own_plan : (o : Task) → is_single o ≡ true → plan t o ≡ ask o
  own_plan (Leaf act) e = refl
  own_plan (Find a) e = refl
  own_plan (TakePlaces tree) e = refl
  own_plan _ e = absurd (cc)

  pub round_only : (f : Forest) (calls ds : List (Deed Task Value)) (value : Round) (before after : Images) → AreTrees f → Does (plan_round f) calls value → Made (plan t) calls ds
      → AllByRecursion (λ (d : Deed Task Value). is_single d.op ≡ true) ds → Happen (means j t) ds before after → ds ≡ round_trace is_single j t (trees_in f) before
  round_only f calls ds value before after trees does made single h =
      let own : calls ≡ deeds_of (means j t) (plan_round f) before = does_own (means j t) (plan_round f) calls value before after does (made_happen (means j t) (plan t) (plan_run j t) calls ds before after made h) in
      let leads = round_leads is_single j t (λ o e. e) (trees_in f) before in
      each_only (means j t) (plan t) is_single (plan_run j t) own_plan (plan_round f) before after _ (λ q mentioned. ground_only (means j t) (plan t) is_single (plan_run j t) own_plan q (task_ground t q))
      ds (round_trace is_single j t (trees_in f) before) (subst (λ (cs : List (Deed Task Value)). Made (plan t) cs ds) own made) (round_made is_single j t f before trees) single leads.stop h leads.happen
