-- An operation at a leaf is on a place that has sectors, and that ends with its top.
use Rattle.std.proofs.Common.{◌≡◌, ℕ, zero, suc, ◌<◌, ◌≤◌, List, [], ◌∷◌, map, slice_get, true, sym, Option, Some, None, IfSome, IsTrue, Contains, inl, refl, subst, arith}
use Rattle.std.specs.List.{AllByRecursion, flat_map}
use Rattle.std.proofs.lemmas.List.Sorted.{IsPermutation-refl}
use Rattle.zio_types.specs.declared.place.Place.{Place}
use Rattle.zio_types.specs.Choices.{Choice}
use Rattle.zio_types.specs.declared.place.Top.{Top}
use Rattle.zio_types.specs.Places.{end_of, is_below, is_inside, sector_size}
use Rattle.zio_script.specs.declared.script.Work.{Work as Order}
use Rattle.zio_script.specs.declared.script.Work.TheVariants.{Null, Read as WorkRead, Write, Free, Claim}
use Rattle.zio_cksum.specs.Blocks.{leaves_of, spot_in}
use Rattle.zio_cksum.specs.Frames.{spots_of}
use Rattle.zio_cksum.specs.Images.{Images, Setting, Spot}
use Rattle.zio_cksum.proofs.AllLemmas.{all_append, all_contains}
use Rattle.zio_gang.specs.declared.tree.Tree.{Tree}
use Rattle.zio_gang.specs.Attempts.{Pending, Terms}
use Rattle.zio_gang.specs.Trees.{size_of, sizes_of}
use Rattle.zio_trace.specs.Conflicts.{is_single}
use Rattle.zio_trace.specs.Families.{Forest, NoTrees, TreeOf, flat}
use Rattle.zio_trace.specs.Footprints.{OfClaim, OfRequest, OfWork, OnCopies, Within}
use Rattle.zio_trace.specs.Leaves.{IsAmong, LeafOp, spot_of}
use Rattle.zio_trace.specs.Rounds.{settles}
use Rattle.zio_trace.specs.Separate.{IsNoClaim, IsSoundBlock}
use Rattle.zio_trace.specs.SoundRounds.{IsOwnBlock, IsSoundRound, work_of}
use Rattle.zio_trace.specs.Tasks.{Leaf, Task}
use Rattle.zio_trace.specs.Underway.{Comes, Flight, IsClear, State, Work, flying_now}
use Rattle.zio_trace.proofs.ChoiceLemmas.{Answers, answers_in_all}
use Rattle.zio_trace.proofs.ClearTasks.{all_nth}
use Rattle.zio_trace.proofs.EntryLemmas.{entries_may_come}
use Rattle.zio_trace.proofs.MoreDone.{comes_at_all}
use Rattle.zio_trace.proofs.PlaceLemmas.{below_sectors}
use Rattle.zio_trace.proofs.SeparateLemmas.{request_touches}
use Rattle.zio_trace.proofs.SoundLemmas.{block_of}
use Rattle.zio_trace.proofs.SoundRoundLemmas.{first_tree, other_trees}
use Rattle.zio_trace.proofs.UnderwayDone.{own_within}
use Rattle.zio_frames.specs.Frames.{Flying, flight_at, flights_of, fresh_frame, fresh_stack}
use Rattle.zio_frames.specs.Running.{IsRunning}
use Rattle.zio_frames.specs.Slots.{Slot}
use Rattle.zio_frames.proofs.Moved.{Goes, in_flight}
use Rattle.zio_turns.specs.ShortTops.{EndsWithTops}

-- it has some bytes, and ends with the tops
abbrev pub HasSpan : List Top → Spot → Type 0
HasSpan tops spot = (0 < spot.span) × EndsWithTops tops spot

abbrev Spans : List Top → Task → Type 0
Spans tops (Leaf op) = HasSpan tops (spot_of op)
Spans tops _ = Unit {0}

-- a place ends with its top, and so with the longest
nth_most : (tops : List Top) (i most : ℕ) (p : Place) → AllByRecursion (λ (top : Top). top.sectors ≤ most) tops
    → is_below p (slice_get (sizes_of tops) i) ≡ true → end_of p ≤ most
nth_most [] i most p h is = absurd (cc)
nth_most (top ∷ tops) zero most p h is =
    let ends : end_of p ≤ top.sectors = (below_sectors p (Some (size_of top)) is).1 in omega (arith, ends, h.0)
nth_most (top ∷ tops) (suc i) most p h is = nth_most tops i most p h.1 is

place_ends : (tops : List Top) (p : Place) (leaf : ℕ) → IsTrue (is_inside (sizes_of tops) p) → EndsWithTops tops (spot_in p leaf)
place_ends tops p leaf inside = λ most h. let ends : end_of p ≤ most = nth_most tops p.top most p h inside in omega (arith, ends)

all_leaves : (tops : List Top) (p : Place) → IsTrue (is_inside (sizes_of tops) p) → 0 < p.sectors → (leaves : List ℕ)
    → AllByRecursion (HasSpan tops) (map (spot_in p) leaves)
all_leaves tops p inside some [] = tt
all_leaves tops p inside some (l ∷ ls) = ((omega arith, place_ends tops p l inside), all_leaves tops p inside some ls)

spots_span : (s : Setting) (ps : List Place) → AllByRecursion (λ (p : Place). IsTrue (is_inside (sizes_of s.tops) p)) ps
    → AllByRecursion (HasSpan s.tops) (spots_of s ps)
spots_span s [] inside = tt
spots_span s (p ∷ ps) inside =
    all_append (HasSpan s.tops) (map (spot_in p) (leaves_of s p)) (spots_of s ps)
    (all_leaves s.tops p inside.0 (below_sectors p (slice_get (sizes_of s.tops) p.top) inside.0).0 (leaves_of s p)) (spots_span s ps inside.1)

copies_span : (s : Setting) (ps : List Place) (len : ℕ) (op : LeafOp)
    → AllByRecursion (λ (p : Place). IsTrue (is_inside (sizes_of s.tops) p)) ps → IsAmong (spots_of s ps) len op
    → HasSpan s.tops (spot_of op)
copies_span s ps len op inside among =
    all_contains (HasSpan s.tops) (spots_of s ps) (spot_of op) (spots_span s ps inside) among.listed

module _ (t : Terms) (sizes : ℕ → ℕ) (f : Forest) (round : IsSoundRound t sizes f) (j : List Choice)
    (answers : Answers j (sizes_of t.setting.tops) t.used t.round) where
  sound_if : (b : Option Tree) → IfSome b (λ (tree : Tree). IsOwnBlock (sizes_of t.setting.tops) t.used tree)
      → IfSome b (λ (tree : Tree). IsSoundBlock (sizes_of t.setting.tops) t.used tree)
  sound_if None h = tt
  sound_if (Some tree) h = h.sound

  claim_spans : (d : Task) → OfClaim t.setting d → Spans t.setting.tops d
  claim_spans (Leaf op) h = copies_span t.setting h.1.0 sector_size op h.1.1 h.1.2
  claim_spans _ h = tt

  no_claim_spans : (p : Pending) → Contains (flat f) p → IsNoClaim p.request.work → (d : Task) → OfRequest j t p d → Spans t.setting.tops d
  no_claim_spans p c none (Leaf op) h =
      let touches = request_touches j t answers p
      (record { no_claim = none; block = sound_if p.block (block_of t sizes f round p c) }) (Leaf op) h in
      copies_span t.setting touches.places touches.len op touches.inside touches.among
  no_claim_spans p c none _ h = tt

  work_spans : (p : Pending) → Contains (flat f) p → (work : Order) → p.request.work ≡ work → (d : Task)
      → OfWork (OnCopies t.setting) j t p work d → OfRequest j t p d → Spans t.setting.tops d
  work_spans p c Null e d h k = absurd h
  work_spans p c (WorkRead name prio) e d h k = no_claim_spans p c (subst IsNoClaim (sym e) tt) d k
  work_spans p c (Write name sum copies prio body) e d h k = no_claim_spans p c (subst IsNoClaim (sym e) tt) d k
  work_spans p c (Free name) e d h k = no_claim_spans p c (subst IsNoClaim (sym e) tt) d k
  work_spans p c (Claim name pointer) e d h k = claim_spans d h

  abbrev Inside : Forest → Type 0
  Inside g = (q : Pending) → Contains (flat g) q → Contains (flat f) q

  tasks_span : (g : Forest) → Inside g
      → AllByRecursion (λ (q : Task). (d : Task) → is_single d ≡ true → Within j t q d → Spans t.setting.tops d) (settles g)
  tasks_span NoTrees inside = tt
  tasks_span (TreeOf p kids others) inside = (
    (λ d single may. work_spans may.0 (inside may.0 (first_tree p kids others may.0 may.1)) may.0.request.work refl d may.2 may.2),
    tasks_span others (λ q c. inside q (other_trees p kids others q c)),
  )

module _ (t : Terms) (sizes : ℕ → ℕ) (f : Forest) (before : Option Images) (trees : List Slot) (others : List Flying)
    (s : State) where
  pub spans_at : (at : List ℕ) (act : LeafOp) → IsSoundRound t sizes f
      → IsRunning t sizes f before trees (record { at = at; stack = fresh_stack (Leaf act) } ∷ others) s
      → HasSpan t.setting.tops (spot_of act)
  spans_at at act sound r =
      let w : Work = work_of t sizes f in
      let rest : List Flight = flat_map (flights_of t) others in
      let X : Flight = flight_at t at (fresh_frame (Leaf act)) in
      let h : Goes t sizes f before (flying_now s (X ∷ rest)) =
      in_flight t sizes f before trees (record { at = at; stack = fresh_stack (Leaf act) } ∷ others) s (X ∷ rest) r
      (IsPermutation-refl (X ∷ rest)) in
      let comes : Comes w s.entries s.entries =
      entries_may_come (sizes_of t.setting.tops) t.used s.entries h.distinct h.lawful in
      let own : IsClear w s.deeds (X ∷ rest) s.entries = h.clear s.entries comes in
      let task = own.nested.whole.0 in
      all_nth (λ (q : Task). (d : Task) → is_single d ≡ true → Within s.entries t q d → Spans t.setting.tops d) (settles f) task.0 task.2
      (tasks_span t sizes f sound s.entries
      (answers_in_all s.entries (sizes_of t.setting.tops) t.used t.round (comes_at_all w s.entries s.entries comes).lawful) f
      (λ q c. c)) task.4 X.op.op refl
      (task.5 X.op (record { within = own_within w s.entries X.op.op refl; at = inl refl })).within
