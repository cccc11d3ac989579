-- What is in flight at a leaf writes at places of the round alone.
use Rattle.std.proofs.Common.{◌≡◌, ℕ, arith, List, [], ◌∷◌, ◌++◌, map, true, false, sym, ◌∙◌, Option, Some, None, IfSome, Contains, inl, inr, refl, subst}
use Rattle.std.specs.List.{AllByRecursion, flat_map}
use Rattle.std.proofs.lemmas.List.Elements.{Contains-append_left, Contains-append_right}
use Rattle.std.proofs.lemmas.List.Sorted.{IsPermutation-refl}
use Rattle.zio_types.specs.declared.place.Place.{Place}
use Rattle.zio_types.specs.Choices.{Choice, taken_by}
use Rattle.zio_script.specs.declared.script.Work.{Work as Order}
use Rattle.zio_script.specs.declared.script.Work.TheVariants.{Null, Read as WorkRead, Write, Free, Claim}
use Rattle.zio_cksum.specs.Frames.{spots_of}
use Rattle.zio_cksum.specs.Blocks.{leaves_of, spot_in}
use Rattle.zio_cksum.specs.Images.{Images, Setting, Spot}
use Rattle.zio_cksum.proofs.AllLemmas.{all_contains, all_weaker}
use Rattle.zio_gang.specs.declared.tree.Tree.{Tree}
use Rattle.zio_gang.specs.Attempts.{Pending, Terms}
use Rattle.zio_gang.specs.Trees.{sizes_of, tree_places}
use Rattle.zio_trace.specs.Conflicts.{is_single}
use Rattle.zio_trace.specs.Families.{Forest, NoTrees, TreeOf, flat}
use Rattle.zio_trace.specs.Footprints.{OfClaim, OfRequest, OfWork, OnCopies, Within}
use Rattle.zio_trace.specs.Leaves.{LeafOp, spot_of, stores}
use Rattle.zio_trace.specs.Rounds.{settles}
use Rattle.zio_trace.specs.Separate.{IsNoClaim, IsSoundBlock}
use Rattle.zio_trace.specs.SoundRounds.{IsOwnBlock, IsSoundRound, work_of}
use Rattle.zio_trace.specs.Stopped.{places_named, places_of_block, places_taken, spots_touched}
use Rattle.zio_trace.specs.Tasks.{Leaf, Task}
use Rattle.zio_trace.specs.Underway.{Comes, Flight, IsClear, State, Work, flying_now}
use Rattle.zio_trace.proofs.ChoiceLemmas.{Answers, IsChosen, answers_in_all, in_journal, is_chosen}
use Rattle.zio_trace.proofs.ClearTasks.{all_nth}
use Rattle.zio_trace.proofs.EntryLemmas.{entries_may_come}
use Rattle.zio_trace.proofs.MoreDone.{comes_at_all}
use Rattle.zio_trace.proofs.ListLemmas.{contains_first}
use Rattle.zio_trace.proofs.PairLemmas.{contains_flat, flat_contains}
use Rattle.zio_trace.proofs.SeparateLemmas.{Origin, request_touches}
use Rattle.zio_trace.proofs.SoundLemmas.{block_of}
use Rattle.zio_trace.proofs.SoundRoundLemmas.{first_tree, other_trees}
use Rattle.zio_trace.proofs.UnderwayDone.{own_within}
use Rattle.zio_frames.specs.Frames.{Flying, flight_at, flights_of, fresh_frame, fresh_stack}
use Rattle.zio_frames.specs.Running.{IsRunning}
use Rattle.zio_frames.specs.Slots.{Slot}
use Rattle.zio_frames.proofs.Moved.{Goes, in_flight}

-- a spot of some of the places is one of all of them
spots_among : (s : Setting) (ps qs : List Place) (spot : Spot) → AllByRecursion (Contains qs) ps → Contains (spots_of s ps) spot → Contains (spots_of s qs) spot
spots_among s ps qs spot among c =
    let on : Place → List Spot = λ p. map (spot_in p) (leaves_of s p) in
    let one : (p : Place) × Contains ps p × Contains (on p) spot = contains_flat on ps spot c in
    flat_contains on qs one.0 spot (all_contains (Contains qs) ps one.0 among one.1) one.2

module _ (t : Terms) (sizes : ℕ → ℕ) (f : Forest) (round : IsSoundRound t sizes f) (j : List Choice)
    (answers : Answers j (sizes_of t.setting.tops) t.used t.round) where
  abbrev Named : List Place
  Named = places_named f ++ places_taken j

  -- a write is at one of the places that the round may change
  abbrev WritesIn : Task → Type 0
  WritesIn (Leaf op) = stores op ≡ true → Contains (spots_touched t f j) (spot_of op)
  WritesIn _ = Unit {0}

  from_block : (p : Pending) (tree : Tree) (q : Place) → Contains (flat f) p → p.block ≡ Some tree → Contains (tree_places tree) q → Contains Named q
  from_block p tree q cp is c =
      Contains-append_left (places_named f) (places_taken j) q
      (flat_contains (λ (x : Pending). places_of_block x.block) (flat f) p q cp
      (subst (λ (b : Option Tree). Contains (places_of_block b) q) (sym is)
      (flat_contains tree_places (tree ∷ []) tree q (contains_first tree []) c)))

  from_entry : (round_no : ℕ) (c : Choice) (q : Place) → Contains j c → Contains (taken_by c) q → Contains Named q
  from_entry round_no c q there k = Contains-append_right (places_named f) (places_taken j) q (flat_contains taken_by j c q there k)

  all_themselves : (ps : List Place) → AllByRecursion (Contains ps) ps
  all_themselves [] = tt
  all_themselves (p ∷ ps) = (
    Contains-append_left (p ∷ []) ps p (0, omega arith, refl),
    all_weaker (Contains ps) (Contains (p ∷ ps)) ps (λ q c. Contains-append_right (p ∷ []) ps q c) (all_themselves ps),
  )

  from_origin : (p : Pending) → Contains (flat f) p → (places : List Place) → Origin j t p places → AllByRecursion (Contains Named) places
  from_origin p cp places (inl (tree, is, all)) =
      all_weaker (Contains (tree_places tree)) (Contains Named) places (λ q c. from_block p tree q cp is c) all
  from_origin p cp places (inr (a, now, by, chosen)) =
      let c : IsChosen j a places = is_chosen j a places chosen in
      subst (AllByRecursion (Contains Named)) c.taken
      (all_weaker (Contains (taken_by c.choice)) (Contains Named) (taken_by c.choice)
      (λ q k. from_entry a.key.round c.choice q (in_journal j a.key.round c.choice c.listed) k) (all_themselves (taken_by c.choice)))

  sound_if : (b : Option Tree) → IfSome b (λ (tree : Tree). IsOwnBlock (sizes_of t.setting.tops) t.used tree)
      → IfSome b (λ (tree : Tree). IsSoundBlock (sizes_of t.setting.tops) t.used tree)
  sound_if None h = tt
  sound_if (Some tree) h = h.sound

  -- a claim writes nothing
  claim_writes : (d : Task) → OfClaim t.setting d → WritesIn d
  claim_writes (Leaf op) h = λ e. absurd (let no : true ≡ false = sym e ∙ h.0 in cc)
  claim_writes _ h = tt

  no_claim_writes : (p : Pending) → Contains (flat f) p → IsNoClaim p.request.work → (d : Task) → OfRequest j t p d → WritesIn d
  no_claim_writes p c none (Leaf op) h =
      let touches = request_touches j t answers p
      (record { no_claim = none; block = sound_if p.block (block_of t sizes f round p c) }) (Leaf op) h in
      λ e. spots_among t.setting touches.places Named (spot_of op) (from_origin p c touches.places touches.origin) touches.among.listed
  no_claim_writes p c none _ h = tt

  work_writes : (p : Pending) → Contains (flat f) p → (work : Order) → p.request.work ≡ work → (d : Task)
      → OfWork (OnCopies t.setting) j t p work d → OfRequest j t p d → WritesIn d
  work_writes p c Null e d h k = absurd h
  work_writes p c (WorkRead name prio) e d h k = no_claim_writes p c (subst IsNoClaim (sym e) tt) d k
  work_writes p c (Write name sum copies prio body) e d h k = no_claim_writes p c (subst IsNoClaim (sym e) tt) d k
  work_writes p c (Free name) e d h k = no_claim_writes p c (subst IsNoClaim (sym e) tt) d k
  work_writes p c (Claim name pointer) e d h k = claim_writes d h

  tasks_write : (g : Forest) → ((q : Pending) → Contains (flat g) q → Contains (flat f) q)
      → AllByRecursion (λ (q : Task). (d : Task) → is_single d ≡ true → Within j t q d → WritesIn d) (settles g)
  tasks_write NoTrees inside = tt
  tasks_write (TreeOf p kids others) inside = (
    (λ d single may. work_writes may.0 (inside may.0 (first_tree p kids others may.0 may.1)) may.0.request.work refl d may.2 may.2),
    tasks_write others (λ q c. inside q (other_trees p kids others q c)),
  )

module _ (t : Terms) (sizes : ℕ → ℕ) (f : Forest) (before : Option Images) (trees : List Slot) (others : List Flying)
    (s : State) where
  pub writes_at : (at : List ℕ) (act : LeafOp) → IsSoundRound t sizes f
      → IsRunning t sizes f before trees (record { at = at; stack = fresh_stack (Leaf act) } ∷ others) s → stores act ≡ true
      → Contains (spots_touched t f s.entries) (spot_of act)
  writes_at at act sound r stored =
      let w : Work = work_of t sizes f in
      let rest : List Flight = flat_map (flights_of t) others in
      let X : Flight = flight_at t at (fresh_frame (Leaf act)) in
      let h : Goes t sizes f before (flying_now s (X ∷ rest)) =
      in_flight t sizes f before trees (record { at = at; stack = fresh_stack (Leaf act) } ∷ others) s (X ∷ rest) r
      (IsPermutation-refl (X ∷ rest)) in
      let comes : Comes w s.entries s.entries =
      entries_may_come (sizes_of t.setting.tops) t.used s.entries h.distinct h.lawful in
      let own : IsClear w s.deeds (X ∷ rest) s.entries = h.clear s.entries comes in
      let task = own.nested.whole.0 in
      let answers : Answers s.entries (sizes_of t.setting.tops) t.used t.round =
      answers_in_all s.entries (sizes_of t.setting.tops) t.used t.round (comes_at_all w s.entries s.entries comes).lawful in
      all_nth (λ (q : Task). (d : Task) → is_single d ≡ true → Within s.entries t q d → WritesIn t sizes f sound s.entries answers d) (settles f)
      task.0 task.2 (tasks_write t sizes f sound s.entries answers f (λ q c. c)) task.4 X.op.op refl
      (task.5 X.op (record { within = own_within w s.entries X.op.op refl; at = inl refl })).within stored
