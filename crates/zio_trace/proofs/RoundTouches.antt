-- Where a sound round writes, as far as it went, and what it asks.
use Rattle.std.proofs.Common.{◌≡◌, ℕ, ◌+◌, ◌≤◌, List, [], ◌∷◌, ◌++◌, length, map, true, false, Option, Some, None, Contains, refl, sym, ◌∙◌, subst, arith}
use Rattle.std.proofs.lemmas.List.Elements.{Contains-append_left, Contains-append_right}
use Rattle.std.specs.List.{AllByRecursion}
use Rattle.zio_types.specs.declared.place.Place.{Place}
use Rattle.zio_types.specs.Choices.{Ask, Choice, taken_by}
use Rattle.zio_script.specs.declared.script.Work.{Work as Order}
use Rattle.zio_script.specs.declared.script.Work.TheVariants.{Null, Read as WorkRead, Write, Free, Claim}
use Rattle.zio_cksum.specs.Blocks.{leaves_of, spot_in}
use Rattle.zio_cksum.specs.Frames.{SameOutside, spots_of}
use Rattle.zio_cksum.specs.Images.{Images, Setting, Spot, image_of}
use Rattle.zio_cksum.proofs.AllLemmas.{all_contained, all_contains, all_weaker}
use Rattle.zio_cksum.proofs.FrameLemmas.{same_itself, same_then, write_same}
use Rattle.zio_gang.specs.declared.tree.Tree.{Tree}
use Rattle.zio_gang.specs.Attempts.{Pending, Terms}
use Rattle.zio_gang.specs.Journals.{choices_in}
use Rattle.zio_gang.specs.Trees.{sizes_of, tree_places}
use Rattle.zio_trace.specs.BlockCopies.{copies_of}
use Rattle.zio_trace.specs.Conflicts.{TaskLies}
use Rattle.zio_trace.specs.Entries.{Pass, PassBy}
use Rattle.zio_trace.specs.Families.{Forest, NoTrees, TreeOf, flat}
use Rattle.zio_trace.specs.Footprints.{OfBlock, OfClaim, OfPart, OfWork, OnCopies, OnOneOf, Within}
use Rattle.zio_trace.specs.Labels.{Labelled}
use Rattle.zio_trace.specs.Leaves.{Fetch, HaveSizes, LeafOp, LiesOn, Store, on_leaf, spot_of, stores}
use Rattle.zio_trace.specs.Programs.{Deed}
use Rattle.zio_trace.specs.Rounds.{settles}
use Rattle.zio_trace.specs.SoundRounds.{work_of}
use Rattle.zio_trace.specs.Stopped.{IsOfTasks, places_named, places_of_block, places_taken, spots_touched}
use Rattle.zio_trace.specs.Tasks.{Find, Leaf, TakePlaces, Task, Value}
use Rattle.zio_trace.specs.Underway.{IsUnderway, State}
use Rattle.zio_trace.proofs.ChoiceLemmas.{IsChosen, in_journal, is_chosen}
use Rattle.zio_trace.proofs.DoneWithin.{AsksIn, deeds_within, entries_in_round}
use Rattle.zio_trace.proofs.EntryLemmas.{entries_may_come}
use Rattle.zio_trace.proofs.ListLemmas.{contains_first}
use Rattle.zio_trace.proofs.PairLemmas.{contains_flat, flat_contains}
use Rattle.zio_trace.proofs.SeparateLemmas.{copies_places}
use Rattle.zio_trace.proofs.SoundRoundLemmas.{first_tree, other_trees}

-- ---- images

-- a write is at one of these spots
abbrev pub WritesAt : List Spot → Task → Type 0
WritesAt spots (Leaf op) = stores op ≡ true → Contains spots (spot_of op)
WritesAt spots _ = Unit {0}

wider : (spot : Spot) (spots : List Spot) (old new : Images) → Contains spots spot → SameOutside (spot ∷ []) old new → SameOutside spots old new
wider spot spots old new c h = record {
  sizes = h.sizes;
  bytes = λ leaf at out. h.bytes leaf at
      (λ x. out (record { spot = x.spot; listed = all_contains (Contains spots) (spot ∷ []) x.spot (c, tt) x.listed; same_leaf = x.same_leaf; from = x.from; below = x.below }));
}

leaf_same : (s : Setting) (sizes : ℕ → ℕ) (spots : List Spot) (op : LeafOp) (images : Images) → HaveSizes sizes images → LiesOn sizes op → WritesAt spots (Leaf op) → SameOutside spots images (on_leaf s op images).images
leaf_same s sizes spots (Fetch retry len spot) images have lies at = same_itself spots images
leaf_same s sizes spots (Store retry bytes spot) images have lies at =
    let there : spot.at + spot.span ≤ sizes spot.leaf = lies.lies in
    let long : length (image_of images spot.leaf) ≡ sizes spot.leaf = have spot.leaf in
    wider spot spots images _ (at refl) (write_same (spot ∷ []) s retry bytes images spot (omega arith, tt) (contains_first spot []))

-- one deed leads to images that differ at these spots only
step_same : (t : Terms) (sizes : ℕ → ℕ) (spots : List Spot) (task : Task) (v : Value) (later : Images → Images → Type 0) (before after : Images) → HaveSizes sizes before → TaskLies sizes task → WritesAt spots task
    → PassBy t task v later before after → (mid : Images) × SameOutside spots before mid × later mid after
step_same t sizes spots (Leaf op) v later before after have lies at h = ((on_leaf t.setting op before).images, leaf_same t.setting sizes spots op before have lies at, h.1)
step_same t sizes spots (Find a) v later before after have lies at h = (before, same_itself spots before, h)
step_same t sizes spots (TakePlaces tree) v later before after have lies at h = (before, same_itself spots before, h.1)
step_same t sizes spots _ v later before after have lies at h = absurd lies

pass_same : (t : Terms) (sizes : ℕ → ℕ) (spots : List Spot) (ds : List (Deed (Labelled Task) Value)) (before after : Images) → HaveSizes sizes before → AllByRecursion (λ (d : Deed (Labelled Task) Value). TaskLies sizes d.op.op) ds
    → AllByRecursion (λ (d : Deed (Labelled Task) Value). WritesAt spots d.op.op) ds → Pass t ds before after → SameOutside spots before after
pass_same t sizes spots [] before after have lies at h = subst (SameOutside spots before) h (same_itself spots before)
pass_same t sizes spots (d ∷ ds) before after have lies at h =
    let one = step_same t sizes spots d.op.op d.answer (Pass t ds) before after have lies.0 at.0 h in
    same_then spots before one.0 after one.1 (pass_same t sizes spots ds one.0 after (λ leaf. one.1.sizes leaf ∙ have leaf) lies.1 at.1 one.2)

-- ---- spots of more places

more_spots : (s : Setting) (ps qs : List Place) (spot : Spot) → AllByRecursion (Contains qs) ps → Contains (spots_of s ps) spot → Contains (spots_of s qs) spot
more_spots s ps qs spot among c =
    let on : Place → List Spot = λ p. map (spot_in p) (leaves_of s p) in
    let one : (p : Place) × Contains ps p × Contains (on p) spot = contains_flat on ps spot c in
    flat_contains on qs one.0 spot (all_contains (Contains qs) ps one.0 among one.1) one.2

block_places : (block : Option Tree) (tree : Tree) (p : Place) → block ≡ Some tree → Contains (tree_places tree) p → Contains (places_of_block block) p
block_places block tree p is c =
    subst (λ (b : Option Tree). Contains (places_of_block b) p) (sym is) (flat_contains tree_places (tree ∷ []) tree p (contains_first tree []) c)

-- ---- what requests do

module _ (t : Terms) (sizes : ℕ → ℕ) (f : Forest) (entries : List Choice) where
  abbrev Named : List Place
  Named = places_named f ++ places_taken entries

  -- it writes at the round's places, and asks in this round
  abbrev pub Keeps : Task → Type 0
  Keeps d = WritesAt (spots_touched t f entries) d × AsksIn t.round d

  named : (p : Pending) (tree : Tree) (q : Place) → Contains (flat f) p → p.block ≡ Some tree → Contains (tree_places tree) q → Contains Named q
  named p tree q cp is c =
      Contains-append_left (places_named f) (places_taken entries) q (flat_contains (λ (x : Pending). places_of_block x.block) (flat f) p q cp (block_places p.block tree q is c))

  found : (a : Ask) (places : List Place) (c : IsChosen entries a places) → AllByRecursion (Contains Named) places
  found a places c =
      subst (AllByRecursion (Contains Named)) c.taken
      (all_weaker (Contains (taken_by c.choice)) (Contains Named) (taken_by c.choice)
      (λ q k. Contains-append_right (places_named f) (places_taken entries) q (flat_contains taken_by entries c.choice q (in_journal entries a.key.round c.choice c.listed) k))
      (all_contained (taken_by c.choice)))

  piece_keeps : (p : Pending) (tree : Tree) → Contains (flat f) p → p.block ≡ Some tree → (d : Task) → OnOneOf (OnCopies t.setting) (copies_of tree) d → Keeps d
  piece_keeps p tree cp is (Leaf op) h = (
    (λ e. more_spots t.setting h.0.places Named (spot_of op)
        (all_weaker (Contains (tree_places tree)) (Contains Named) h.0.places (λ q c. named p tree q cp is c)
        (copies_places (Contains (tree_places tree)) tree h.0 (all_contained (tree_places tree)) h.1)) h.2.listed),
    tt,
  )
  piece_keeps p tree cp is _ h = absurd h.2

  block_keeps : (p : Pending) (block : Option Tree) → Contains (flat f) p → p.block ≡ block → (d : Task) → OfBlock (OnCopies t.setting) block d → Keeps d
  block_keeps p None cp is d h = absurd h
  block_keeps p (Some tree) cp is d h = piece_keeps p tree cp is d h

  part_keeps : (request attempt : ℕ) (path : List ℕ) (d : Task) → OfPart entries t request attempt path d → Keeps d
  part_keeps request attempt path (Find a) h = (tt, h.now)
  part_keeps request attempt path (Leaf op) h =
      ((λ e. more_spots t.setting h.1 Named (spot_of op) (found h.0 h.1 (is_chosen entries h.0 h.1 h.3)) h.4.listed), tt)
  part_keeps request attempt path _ h = absurd h

  reads_only : (op : LeafOp) → stores op ≡ false → WritesAt (spots_touched t f entries) (Leaf op)
  reads_only op e k = absurd (let no : true ≡ false = sym k ∙ e in cc)

  claim_keeps : (d : Task) → OfClaim t.setting d → Keeps d
  claim_keeps (Leaf op) h = (reads_only op h.0, tt)
  claim_keeps (TakePlaces tree) h = (tt, tt)
  claim_keeps _ h = absurd h

  work_keeps : (p : Pending) (work : Order) → Contains (flat f) p → (d : Task) → OfWork (OnCopies t.setting) entries t p work d → Keeps d
  work_keeps p Null cp d h = absurd h
  work_keeps p (WorkRead name prio) cp d h = block_keeps p p.block cp refl d h
  work_keeps p (Write name sum copies prio body) cp d h = part_keeps p.request.number h.0 [] d h.1
  work_keeps p (Free name) cp d h = block_keeps p p.block cp refl d h
  work_keeps p (Claim name pointer) cp d h = claim_keeps d h

  tasks_keep : (g : Forest) → ((q : Pending) → Contains (flat g) q → Contains (flat f) q) → AllByRecursion (λ (q : Task). (d : Task) → Within entries t q d → Keeps d) (settles g)
  tasks_keep NoTrees inside = tt
  tasks_keep (TreeOf p kids others) inside = (
    (λ d may. work_keeps may.0 may.0.request.work (inside may.0 (first_tree p kids others may.0 may.1)) d may.2),
    tasks_keep others (λ q c. inside q (other_trees p kids others q c)),
  )

-- ---- a round that was stopped

module _ (t : Terms) (sizes : ℕ → ℕ) (f : Forest) (before : Option Images) (s : State) (under : IsUnderway (work_of t sizes f) before s) where
  deeds_keep : AllByRecursion (λ (d : Deed (Labelled Task) Value). Keeps t sizes f s.entries d.op.op) s.deeds
  deeds_keep =
      all_weaker (λ (d : Deed (Labelled Task) Value). IsOfTasks s.entries (work_of t sizes f) d.op.op) (λ (d : Deed (Labelled Task) Value). Keeps t sizes f s.entries d.op.op) s.deeds
      (λ d k. all_contains (λ (q : Task). (d : Task) → Within s.entries t q d → Keeps t sizes f s.entries d) (settles f) k.0 (tasks_keep t sizes f s.entries f (λ q c. c)) k.1 d.op.op k.2)
      (deeds_within (work_of t sizes f) before s s.entries under (entries_may_come (sizes_of t.setting.tops) t.used s.entries under.distinct under.lawful))

  -- All entries are of its round.
  pub entries_of_round : choices_in t.round s.entries ≡ s.entries
  entries_of_round =
      entries_in_round t.round s.deeds s.entries
      (all_weaker (λ (d : Deed (Labelled Task) Value). Keeps t sizes f s.entries d.op.op) (λ (d : Deed (Labelled Task) Value). AsksIn t.round d.op.op) s.deeds (λ d k. k.1) deeds_keep) under.recorded

-- It has changed its images only at places of blocks that its requests name, and at places that were found for it.
pub changed_within : (t : Terms) (sizes : ℕ → ℕ) (f : Forest) (before : Images) (s : State) → IsUnderway (work_of t sizes f) (Some before) s → HaveSizes sizes before → SameOutside (spots_touched t f s.entries) before s.images
changed_within t sizes f before s under have =
    pass_same t sizes (spots_touched t f s.entries) s.deeds before s.images have under.going.lies
    (all_weaker (λ (d : Deed (Labelled Task) Value). Keeps t sizes f s.entries d.op.op) (λ (d : Deed (Labelled Task) Value). WritesAt (spots_touched t f s.entries) d.op.op) s.deeds (λ d k. k.0) (deeds_keep t sizes f (Some before) s under)) under.pass
