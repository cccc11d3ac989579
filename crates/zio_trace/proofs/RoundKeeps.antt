-- What is in use and named by no request stays as it was.
use Rattle.std.proofs.Common.{◌≡◌, ℕ, ◌+◌, ◌<◌, ◌≤◌, [], ◌∷◌, false, Option, Some, None, IfSome, IsTrue, Contains, ◌⊎◌, ⊎_elim, refl, sym, ◌∙◌, subst, arith, slice_get}
use Rattle.std.proofs.lemmas.List.Elements.{Contains-append_cases}
use Rattle.zio_types.specs.declared.place.Place.{Place}
use Rattle.zio_types.specs.Places.{is_inside, meets}
use Rattle.zio_cksum.specs.Blocks.{leaves_of, spot_in}
use Rattle.zio_cksum.specs.Frames.{IsCovered}
use Rattle.zio_cksum.specs.Images.{Images, Spot, image_of}
use Rattle.zio_cksum.proofs.AllLemmas.{all_contains}
use Rattle.zio_gang.specs.declared.tree.Tree.{Tree}
use Rattle.zio_gang.specs.Attempts.{Pending, Terms}
use Rattle.zio_gang.specs.Trees.{sizes_of, tree_places}
use Rattle.zio_trace.specs.Families.{Forest, flat}
use Rattle.zio_trace.specs.Leaves.{AreClear, HaveSizes}
use Rattle.zio_trace.specs.SoundRounds.{IsSoundRound, work_of}
use Rattle.zio_trace.specs.Stopped.{places_named, places_of_block, places_taken, spots_touched}
use Rattle.zio_trace.specs.Underway.{IsUnderway, State}
use Rattle.zio_trace.proofs.ChoiceLemmas.{IsPlaced, one_contained}
use Rattle.zio_trace.proofs.DoneWithin.{taken_placed}
use Rattle.zio_trace.proofs.PairLemmas.{contains_flat}
use Rattle.zio_trace.proofs.PlaceLemmas.{DontMeet, inside_dont}
use Rattle.zio_trace.proofs.RoundTouches.{changed_within}
use Rattle.zio_trace.proofs.SoundLemmas.{OwnBlock, block_of}
use Rattle.zio_trace.proofs.SpotLemmas.{IsCopy, dont_turned, is_copy, places_clear}

-- a spot that is clear of another has none of its bytes
not_in_both : (t u : Spot) (leaf at : ℕ) → AreClear t u → t.leaf ≡ leaf → t.at ≤ at → at < t.at + t.span → u.leaf ≡ leaf → u.at ≤ at → at < u.at + u.span → ⊥
not_in_both t u leaf at clear tl tf tb ul uf ub =
    ⊎_elim (λ (ne : t.leaf ≡ u.leaf → ⊥). ne (tl ∙ sym ul))
    (λ (far : (t.at + t.span ≤ u.at) ⊎ (u.at + u.span ≤ t.at)).
    ⊎_elim (λ (a : t.at + t.span ≤ u.at). absurd (omega arith)) (λ (a : u.at + u.span ≤ t.at). absurd (omega arith)) far)
    clear

module _ (t : Terms) (sizes : ℕ → ℕ) (f : Forest) (before : Images) (s : State) (round : IsSoundRound t sizes f) (have : HaveSizes sizes before) (under : IsUnderway (work_of t sizes f) (Some before) s) where
  abbrev Inside : Place → Type 0
  Inside p = IsTrue (is_inside (sizes_of t.setting.tops) p)

  block_inside : (block : Option Tree) (q : Place) → IfSome block (OwnBlock t sizes f round) → Contains (places_of_block block) q → Inside q
  block_inside None q own c = absurd (all_contains (λ (x : Place). ⊥) [] q tt c)
  block_inside (Some tree) q own c =
      let one : (x : Tree) × Contains (tree ∷ []) x × Contains (tree_places x) q = contains_flat tree_places (tree ∷ []) q c in
      all_contains Inside (tree_places tree) q own.sound.inside (subst (λ (x : Tree). Contains (tree_places x) q) (sym (one_contained tree one.0 one.1)) one.2)

  named_inside : (q : Place) → Contains (places_named f) q → Inside q
  named_inside q c =
      let one : (x : Pending) × Contains (flat f) x × Contains (places_of_block x.block) q = contains_flat (λ (x : Pending). places_of_block x.block) (flat f) q c in
      block_inside one.0.block q (block_of t sizes f round one.0 one.1) one.2

  pub stays_as_it_was : (p : Place) (leaf at : ℕ) → Contains t.used p → Inside p → ((q : Place) → Contains (places_named f) q → meets p q ≡ false) → Contains (leaves_of t.setting p) leaf
      → (spot_in p leaf).at ≤ at → at < (spot_in p leaf).at + (spot_in p leaf).span → slice_get (image_of s.images leaf) at ≡ slice_get (image_of before leaf) at
  stays_as_it_was p leaf at used inside none mirrored from below =
      (changed_within t sizes f before s under have).bytes leaf at (λ covered. untouched covered)
    where
      apart : (q : Place) → Contains (places_named f) q ⊎ Contains (places_taken s.entries) q → DontMeet p q
      apart q there =
          ⊎_elim
          (λ (c : Contains (places_named f) q). inside_dont t.setting p q inside (named_inside q c) (none q c))
          (λ (c : Contains (places_taken s.entries) q).
          let placed : IsPlaced (sizes_of t.setting.tops) t.used q = taken_placed (work_of t sizes f) (Some before) s q under c in
          dont_turned q p (inside_dont t.setting q p placed.1 inside (all_contains (λ (r : Place). meets q r ≡ false) t.used p placed.0 used)))
          there

      untouched : IsCovered (spots_touched t f s.entries) leaf at → ⊥
      untouched covered =
          let copy : IsCopy t.setting _ covered.spot = is_copy t.setting _ covered.spot covered.listed in
          let clear : AreClear (spot_in p leaf) covered.spot =
          subst (AreClear (spot_in p leaf)) copy.is
          (places_clear t.setting round.once p copy.place leaf copy.leaf mirrored copy.mirrored (apart copy.place (Contains-append_cases (places_named f) (places_taken s.entries) copy.place copy.listed))) in
          not_in_both (spot_in p leaf) covered.spot leaf at clear refl from below covered.same_leaf covered.from covered.below
