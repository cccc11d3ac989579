-- Where a round may have changed the images: at places that aren't in use, and at those of blocks that its requests name.
use Rattle.std.proofs.Common.{◌≡◌, ℕ, List, [], ◌∷◌, ◌++◌, length, false, Option, Some, None, IfSome, IsTrue, refl, sym, ap, ◌∙◌, subst, inl, inr, ◌⊎◌}
use Rattle.std.specs.Prelude.{Contains, not}
use Rattle.std.specs.List.{AllByRecursion, flat_map}
use Rattle.std.proofs.lemmas.List.{append-nil}
use Rattle.zio_types.specs.declared.place.Place.{Place}
use Rattle.zio_types.specs.Places.{is_free, is_inside, meets}
use Rattle.zio_script.specs.declared.script.Failmode.{Failmode}
use Rattle.zio_cksum.specs.Images.{Images}
use Rattle.zio_cksum.proofs.AllLemmas.{all_append, all_contained, all_weaker}
use Rattle.zio_gang.specs.declared.tree.Tree.{Tree}
use Rattle.zio_gang.specs.Attempts.{Pending, Terms}
use Rattle.zio_gang.specs.Trees.{sizes_of, tree_places}
use Rattle.zio_trace.specs.Families.{Forest, flat}
use Rattle.zio_trace.specs.Rounds.{trees_in as trees_of}
use Rattle.zio_trace.specs.SoundRounds.{IsOwnBlock, IsSoundRound}
use Rattle.zio_trace.specs.Stopped.{places_named, places_of_block as block_places, places_taken}
use Rattle.zio_cksum.proofs.PlaceSets.{pass_all}
use Rattle.zio_course.specs.Runners.{DiffersInRound, Standing, joined_trees, named_places, places_of_block, terms_at}
use Rattle.zio_course.specs.Changes.{ChangedAt}
use Rattle.zio_course.proofs.LooseLemmas.{changed_loose}
use Rattle.zio_turns.specs.Stops.{IsStopped, IsTaken}
use Rattle.zio_graph.proofs.Sounds.{joined_flat}

-- ---- what the requests name

pub named_are : (trees : List (List Pending)) (f : Forest) → trees_of f ≡ trees → named_places trees ≡ places_named f
named_are trees f is =
    ap (λ (ps : List Pending). flat_map (λ (p : Pending). places_of_block p.block) ps) (ap joined_trees (sym is) ∙ joined_flat f)

block_inside : (P : Place → Type 0) (block : Option Tree) → IfSome block (λ (tree : Tree). AllByRecursion P (tree_places tree)) → AllByRecursion P (block_places block)
block_inside P None h = tt
block_inside P (Some tree) h = subst (AllByRecursion P) (sym (append-nil (tree_places tree))) h

pub named_inside : (t : Terms) (ps : List Pending) → AllByRecursion (λ (p : Pending). IfSome p.block (IsOwnBlock (sizes_of t.setting.tops) t.used)) ps
    → AllByRecursion (λ (q : Place). IsTrue (is_inside (sizes_of t.setting.tops) q)) (flat_map (λ (p : Pending). block_places p.block) ps)
named_inside t [] h = tt
named_inside t (p ∷ ps) h =
    all_append (λ (q : Place). IsTrue (is_inside (sizes_of t.setting.tops) q)) (block_places p.block) (flat_map (λ (x : Pending). block_places x.block) ps)
    (block_inside (λ (q : Place). IsTrue (is_inside (sizes_of t.setting.tops) q)) p.block (own p.block h.0)) (named_inside t ps h.1)
  where
    own : (b : Option Tree) → IfSome b (IsOwnBlock (sizes_of t.setting.tops) t.used)
        → IfSome b (λ (tree : Tree). AllByRecursion (λ (q : Place). IsTrue (is_inside (sizes_of t.setting.tops) q)) (tree_places tree))
    own None k = tt
    own (Some tree) k = k.sound.inside

-- ---- what was taken

pub free_of : (used : List Place) (p : Place) → ((q : Place) → Contains used q → meets p q ≡ false) → IsTrue (is_free used p)
free_of used p apart =
    pass_all (λ (q : Place). not (meets p q)) used
    (all_weaker (Contains used) (λ (q : Place). IsTrue (not (meets p q))) used (λ q there. ap not (apart q there)) (all_contained used))

-- ---- all together

pub stopped_loose : (s : Standing) (failmode : Failmode) (round point : ℕ) (sizes : ℕ → ℕ) (trees : List (List Pending)) (f : Forest) (before after : Images)
    → trees_of f ≡ trees → length after ≡ length before → IsSoundRound (terms_at s failmode round point) sizes f
    → IsStopped (terms_at s failmode round point) f before after → DiffersInRound s trees before after
stopped_loose s failmode round point sizes trees f before after is count sound h =
    let t : Terms = terms_at s failmode round point in
    let May : Place → Type 0 = λ p. Contains (named_places trees) p ⊎ IsTrue (is_free s.live p) in
    let named : AllByRecursion May (places_named f) =
    subst (AllByRecursion May) (named_are trees f is)
    (all_weaker (Contains (named_places trees)) May (named_places trees) (λ p there. inl there) (all_contained (named_places trees))) in
    let taken : AllByRecursion May (places_taken h.entries) =
    all_weaker (IsTaken t) May (places_taken h.entries) (λ p k. inr (free_of s.live p k.apart)) h.taken in
    let inside : AllByRecursion (λ (q : Place). IsTrue (is_inside (sizes_of s.tops) q)) (places_named f ++ places_taken h.entries) =
    all_append (λ (q : Place). IsTrue (is_inside (sizes_of s.tops) q)) (places_named f) (places_taken h.entries) (named_inside t (flat f) sound.blocks)
    (all_weaker (IsTaken t) (λ (q : Place). IsTrue (is_inside (sizes_of s.tops) q)) (places_taken h.entries) (λ p k. k.inside) h.taken) in
    let changed : ChangedAt t.setting (sizes_of s.tops) s.live (named_places trees) before after = record {
      places = places_named f ++ places_taken h.entries;
      inside = pass_all (is_inside (sizes_of s.tops)) (places_named f ++ places_taken h.entries) inside;
      may = all_append May (places_named f) (places_taken h.entries) named taken;
      same = h.same;
    } in
    changed_loose t.setting (sizes_of s.tops) s.live s.live (named_places trees) before after refl (λ p. ((λ c. c), (λ c. c))) count changed
