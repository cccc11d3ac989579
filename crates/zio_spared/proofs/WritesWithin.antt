-- Where the writes of a round lie that were done or are in flight.
use Rattle.std.proofs.Common.{◌≡◌, ℕ, List, [], ◌∷◌, ◌++◌, Bool, true, false, map, Option, Some, None, Contains, inl, refl, sym, subst}
use Rattle.std.proofs.lemmas.List.Elements.{Contains-append_left, Contains-append_right}
use Rattle.std.specs.List.{AllByRecursion, flat_map}
use Rattle.zio_types.specs.declared.place.Place.{Place}
use Rattle.zio_types.specs.Choices.{Ask, Choice, taken_by}
use Rattle.zio_script.specs.declared.script.Work.{Work as Order}
use Rattle.zio_script.specs.declared.script.Work.TheVariants.{Null, Read as WorkRead, Write, Free, Claim}
use Rattle.zio_cksum.specs.Blocks.{leaves_of, spot_in}
use Rattle.zio_cksum.specs.Frames.{spots_of}
use Rattle.zio_cksum.specs.Images.{Images, Setting, Spot}
use Rattle.zio_cksum.proofs.AllLemmas.{all_append, all_contained, all_contains, all_weaker}
use Rattle.zio_gang.specs.declared.tree.Tree.{Tree}
use Rattle.zio_gang.specs.Attempts.{Pending, Terms}
use Rattle.zio_gang.specs.Trees.{sizes_of, tree_places}
use Rattle.zio_trace.specs.Conflicts.{is_single}
use Rattle.zio_trace.specs.Families.{Forest, NoTrees, TreeOf, flat}
use Rattle.zio_trace.specs.Footprints.{OfBlock, OfClaim, OfPart, OfWork, OnCopies, Within}
use Rattle.zio_trace.specs.Labels.{Labelled}
use Rattle.zio_trace.specs.Leaves.{Fetch, Store}
use Rattle.zio_trace.specs.Programs.{Deed}
use Rattle.zio_trace.specs.Rounds.{settles}
use Rattle.zio_trace.specs.SoundRounds.{work_of}
use Rattle.zio_trace.specs.Stopped.{IsOfTasks, places_named, places_of_block, places_taken, spots_touched}
use Rattle.zio_trace.specs.Tasks.{Find, Leaf, TakePlaces, Task, Value}
use Rattle.zio_trace.specs.Underway.{Comes, Flight, IsUnderway, StandsInTask, State, Work}
use Rattle.zio_trace.proofs.ChoiceLemmas.{IsChosen, in_journal, is_chosen}
use Rattle.zio_trace.proofs.DoneWithin.{deeds_within}
use Rattle.zio_trace.proofs.EntryLemmas.{entries_may_come}
use Rattle.zio_trace.proofs.ListLemmas.{contains_first}
use Rattle.zio_trace.proofs.PairLemmas.{contains_flat, flat_contains, nth_contained}
use Rattle.zio_trace.proofs.SeparateLemmas.{copies_places}
use Rattle.zio_trace.proofs.SoundRoundLemmas.{first_tree, other_trees}
use Rattle.zio_trace.proofs.UnderwayDone.{own_within}
use Rattle.zio_spared.specs.Crashes.{spots_written, written_by}

-- ---- in flight

-- Each single operation in flight is one that some task may do.
flights_within : (w : Work) (before : Option Images) (s : State) (j : List Choice) → IsUnderway w before s → Comes w s.entries j
    → AllByRecursion (λ (x : Flight). is_single x.op.op ≡ true → IsOfTasks j w x.op.op) s.flights
flights_within w before s j under comes =
    all_weaker (StandsInTask j w) (λ (x : Flight). is_single x.op.op ≡ true → IsOfTasks j w x.op.op) s.flights
    (λ x h single. (h.2, nth_contained h.0 w.tasks h.2 h.4, (h.5 x.op (record { within = own_within w j x.op.op single; at = inl refl })).within))
    (under.clear j comes).nested.whole

-- ---- spots of more places

more_spots : (s : Setting) (ps qs : List Place) (spot : Spot) → AllByRecursion (Contains qs) ps → Contains (spots_of s ps) spot → Contains (spots_of s qs) spot
more_spots s ps qs spot among c =
    let on : Place → List Spot = λ p. map (spot_in p) (leaves_of s p) in
    let one : (p : Place) × Contains ps p × Contains (on p) spot = contains_flat on ps spot c in
    flat_contains on qs one.0 spot (all_contains (Contains qs) ps one.0 among one.1) one.2

block_places : (block : Option Tree) (tree : Tree) (p : Place) → block ≡ Some tree → Contains (tree_places tree) p → Contains (places_of_block block) p
block_places block tree p is c =
    subst (λ (b : Option Tree). Contains (places_of_block b) p) (sym is) (flat_contains tree_places (tree ∷ []) tree p (contains_first tree []) c)

-- ---- what requests write

module _ (t : Terms) (f : Forest) (entries : List Choice) where
  abbrev Touched : List Place
  Touched = places_named f ++ places_taken entries

  abbrev WritesThere : Task → Type 0
  WritesThere d = AllByRecursion (Contains (spots_touched t f entries)) (written_by d)

  named : (p : Pending) (tree : Tree) (q : Place) → Contains (flat f) p → p.block ≡ Some tree → Contains (tree_places tree) q → Contains Touched q
  named p tree q cp is c =
      Contains-append_left (places_named f) (places_taken entries) q (flat_contains (λ (x : Pending). places_of_block x.block) (flat f) p q cp (block_places p.block tree q is c))

  found : (a : Ask) (places : List Place) (c : IsChosen entries a places) → AllByRecursion (Contains Touched) places
  found a places c =
      subst (AllByRecursion (Contains Touched)) c.taken
      (all_weaker (Contains (taken_by c.choice)) (Contains Touched) (taken_by c.choice)
      (λ q k. Contains-append_right (places_named f) (places_taken entries) q (flat_contains taken_by entries c.choice q (in_journal entries a.key.round c.choice c.listed) k))
      (all_contained (taken_by c.choice)))

  block_writes : (p : Pending) (block : Option Tree) → Contains (flat f) p → p.block ≡ block → (d : Task) → OfBlock (OnCopies t.setting) block d → WritesThere d
  block_writes p None cp is d h = absurd h
  block_writes p (Some tree) cp is (Leaf (Fetch retry n u)) h = tt
  block_writes p (Some tree) cp is (Leaf (Store retry bytes u)) h = (
    more_spots t.setting h.0.places Touched u
        (all_weaker (Contains (tree_places tree)) (Contains Touched) h.0.places (λ q c. named p tree q cp is c)
        (copies_places (Contains (tree_places tree)) tree h.0 (all_contained (tree_places tree)) h.1)) h.2.listed,
    tt,
  )
  block_writes p (Some tree) cp is _ h = absurd h.2

  part_writes : (request attempt : ℕ) (path : List ℕ) (d : Task) → OfPart entries t request attempt path d → WritesThere d
  part_writes request attempt path (Find a) h = tt
  part_writes request attempt path (Leaf (Fetch retry n u)) h = tt
  part_writes request attempt path (Leaf (Store retry bytes u)) h =
      (more_spots t.setting h.1 Touched u (found h.0 h.1 (is_chosen entries h.0 h.1 h.3)) h.4.listed, tt)
  part_writes request attempt path _ h = absurd h

  claim_writes : (d : Task) → OfClaim t.setting d → WritesThere d
  claim_writes (Leaf (Fetch retry n u)) h = tt
  claim_writes (Leaf (Store retry bytes u)) h = absurd (let no : true ≡ false = h.0 in cc)
  claim_writes (TakePlaces tree) h = tt
  claim_writes _ h = absurd h

  work_writes : (p : Pending) (work : Order) → Contains (flat f) p → (d : Task) → OfWork (OnCopies t.setting) entries t p work d → WritesThere d
  work_writes p Null cp d h = absurd h
  work_writes p (WorkRead name prio) cp d h = block_writes p p.block cp refl d h
  work_writes p (Write name sum copies prio body) cp d h = part_writes p.request.number h.0 [] d h.1
  work_writes p (Free name) cp d h = block_writes p p.block cp refl d h
  work_writes p (Claim name pointer) cp d h = claim_writes d h

  tasks_write : (g : Forest) → ((q : Pending) → Contains (flat g) q → Contains (flat f) q) → AllByRecursion (λ (q : Task). (d : Task) → Within entries t q d → WritesThere d) (settles g)
  tasks_write NoTrees inside = tt
  tasks_write (TreeOf p kids others) inside = (
    (λ d may. work_writes may.0 may.0.request.work (inside may.0 (first_tree p kids others may.0 may.1)) d may.2),
    tasks_write others (λ q c. inside q (other_trees p kids others q c)),
  )

  of_tasks : (sizes : ℕ → ℕ) (d : Task) → IsOfTasks entries (work_of t sizes f) d → WritesThere d
  of_tasks sizes d k = all_contains (λ (q : Task). (d : Task) → Within entries t q d → WritesThere d) (settles f) k.0 (tasks_write f (λ q c. c)) k.1 d k.2

-- ---- all writes

pub all_written : {X : Type 0} (P : Spot → Type 0) (at : X → List Spot) (xs : List X) → AllByRecursion (λ (x : X). AllByRecursion P (at x)) xs → AllByRecursion P (flat_map at xs)
all_written P at [] h = tt
all_written P at (x ∷ xs) h = all_append P (at x) (flat_map at xs) h.0 (all_written P at xs h.1)

-- an operation that isn't single writes nothing
single_writes : (P : Spot → Type 0) (d : Task) (b : Bool) → is_single d ≡ b → (is_single d ≡ true → AllByRecursion P (written_by d)) → AllByRecursion P (written_by d)
single_writes P d true e h = h e
single_writes P d false e h = none d e
  where
    none : (q : Task) → is_single q ≡ false → AllByRecursion P (written_by q)
    none (Leaf op) f = absurd (cc)
    none _ f = tt

pub writes_within : (t : Terms) (sizes : ℕ → ℕ) (f : Forest) (before : Option Images) (s : State) → IsUnderway (work_of t sizes f) before s → AllByRecursion (Contains (spots_touched t f s.entries)) (spots_written s)
writes_within t sizes f before s under =
    let comes : Comes (work_of t sizes f) s.entries s.entries = entries_may_come (sizes_of t.setting.tops) t.used s.entries under.distinct under.lawful in
    let Touches : Spot → Type 0 = Contains (spots_touched t f s.entries) in
    all_append Touches (flat_map (λ (d : Deed (Labelled Task) Value). written_by d.op.op) s.deeds) (flat_map (λ (x : Flight). written_by x.op.op) s.flights)
    (all_written Touches (λ (d : Deed (Labelled Task) Value). written_by d.op.op) s.deeds
    (all_weaker (λ (d : Deed (Labelled Task) Value). IsOfTasks s.entries (work_of t sizes f) d.op.op) (λ (d : Deed (Labelled Task) Value). AllByRecursion Touches (written_by d.op.op)) s.deeds
    (λ d k. of_tasks t f s.entries sizes d.op.op k) (deeds_within (work_of t sizes f) before s s.entries under comes)))
    (all_written Touches (λ (x : Flight). written_by x.op.op) s.flights
    (all_weaker (λ (x : Flight). is_single x.op.op ≡ true → IsOfTasks s.entries (work_of t sizes f) x.op.op) (λ (x : Flight). AllByRecursion Touches (written_by x.op.op)) s.flights
    (λ x k. single_writes Touches x.op.op (is_single x.op.op) refl (λ single. of_tasks t f s.entries sizes x.op.op (k single)))
    (flights_within (work_of t sizes f) before s s.entries under comes)))
