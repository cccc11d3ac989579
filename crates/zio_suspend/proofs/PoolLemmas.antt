-- The blocks that are bound, name by name and as a list.
use Rattle.std.proofs.Common.{◌≡◌, ℕ, List, [], ◌∷◌, map, bytes_eq, Bool, true, false, Option, Some, IfSome, IsTrue, Contains, refl, sym, ap, ◌∙◌, subst, inl, inr, ◌⊎◌}
use Rattle.std.proofs.lemmas.Slice.Eq.{bytes_eq-Decides}
use Rattle.std.specs.List.{AllByRecursion, IsDistinct}
use Rattle.std.specs.List.Sorted.{IsNonDecreasingBy}
use Rattle.std.specs.Prelude.{cond}
use Rattle.zio_types.specs.declared.place.Place.{Place}
use Rattle.zio_types.specs.Places.{are_apart, is_inside, meets}
use Rattle.zio_cksum.proofs.AllLemmas.{all_append, all_map, all_unmap, all_weaker}
use Rattle.zio_gang.specs.declared.bound.Bound.{Bound}
use Rattle.zio_gang.specs.declared.tree.Tree.{Tree}
use Rattle.zio_gang.specs.Trees.{sizes_of, tree_places}
use Rattle.zio_course.specs.Folds.{IsSteady, SeenFold}
use Rattle.zio_course.specs.Live.{IsLive}
use Rattle.zio_course.specs.Names.{byte_order, named_in, pairs_of}
use Rattle.zio_course.specs.Runners.{Standing}
use Rattle.zio_course.proofs.ApartLemmas.{apart_both}
use Rattle.zio_course.proofs.DoneLemmas.{one_contains}
use Rattle.zio_course.proofs.ItemLemmas.{one_either}
use Rattle.zio_course.proofs.SortLemmas.{IsOneOf}
use Rattle.zio_suspend.specs.Pools.{AreBlocks, places_of}

-- ---- each block is that of its name

behind_first : (c : Bound) (entries : List (List ℕ × Tree)) (bs : List Bound) → AllByRecursion (λ (b : Bound). bytes_eq c.name b.name ≡ false) bs
    → AllByRecursion (λ (b : Bound). named_in entries b.name ≡ Some b.tree) bs → AllByRecursion (λ (b : Bound). named_in ((c.name, c.tree) ∷ entries) b.name ≡ Some b.tree) bs
behind_first c entries [] other is = tt
behind_first c entries (b ∷ bs) other is =
    (ap (λ (same : Bool). cond same (Some c.tree) (named_in entries b.name)) other.0 ∙ is.0, behind_first c entries bs other.1 is.1)

each_named : (bs : List Bound) → IsDistinct bytes_eq (map (λ (b : Bound). b.name) bs) → AllByRecursion (λ (b : Bound). named_in (pairs_of bs) b.name ≡ Some b.tree) bs
unfolding IsDistinct
each_named [] once = tt
each_named (c ∷ bs) once = (
  ap (λ (same : Bool). cond same (Some c.tree) (named_in (pairs_of bs) c.name)) ((bytes_eq-Decides c.name c.name).1 refl),
  behind_first c (pairs_of bs) bs (all_unmap (λ (name : List ℕ). bytes_eq c.name name ≡ false) (λ (b : Bound). b.name) bs once.0) (each_named bs once.1),
)

-- names that differ from a first one
others : (c : Bound) (bs : List Bound) → IsDistinct bytes_eq (map (λ (b : Bound). b.name) (c ∷ bs)) → AllByRecursion (λ (b : Bound). bytes_eq c.name b.name ≡ false) bs
unfolding IsDistinct
others c bs once = all_unmap (λ (name : List ℕ). bytes_eq c.name name ≡ false) (λ (b : Bound). b.name) bs once.0

later : (c : Bound) (bs : List Bound) → IsDistinct bytes_eq (map (λ (b : Bound). b.name) (c ∷ bs)) → IsDistinct bytes_eq (map (λ (b : Bound). b.name) bs)
unfolding IsDistinct
later c bs once = once.1

-- ---- their places

module _ (live : List Place) (bound : List (List ℕ × Tree)) (is_live : IsLive live bound) where
  -- each block is bound to its name
  abbrev AreNamed : List Bound → Type 0
  AreNamed bs = AllByRecursion (λ (b : Bound). named_in bound b.name ≡ Some b.tree) bs

  all_live : (bs : List Bound) → AreNamed bs → AllByRecursion (Contains live) (places_of bs)
  all_live [] named = tt
  all_live (b ∷ bs) named =
      all_append (Contains live) (tree_places b.tree) (places_of bs)
      (subst (λ (o : Option Tree). IfSome o (λ tree. AllByRecursion (Contains live) (tree_places tree))) named.0 (is_live.there b.name)) (all_live bs named.1)

  none_met : (met : Bool) (n m : List ℕ) → bytes_eq n m ≡ false → (met ≡ true → n ≡ m) → met ≡ false
  none_met false n m differ same = refl
  none_met true n m differ same = absurd (let one : true ≡ false = sym ((bytes_eq-Decides n m).1 (same refl)) ∙ differ in cc)

  parted : (c : Bound) (bs : List Bound) → named_in bound c.name ≡ Some c.tree → AllByRecursion (λ (b : Bound). bytes_eq c.name b.name ≡ false) bs → AreNamed bs
      → (p q : Place) → IsOneOf p (tree_places c.tree) → IsOneOf q (places_of bs) → meets p q ≡ false
  parted c [] is other named p q here there = absurd there
  parted c (b ∷ bs) is other named p q here there = go (one_either q (tree_places b.tree) (places_of bs) there) (parted c bs is other.1 named.1 p q here)
    where
      go : IsOneOf q (tree_places b.tree) ⊎ IsOneOf q (places_of bs) → (IsOneOf q (places_of bs) → meets p q ≡ false) → meets p q ≡ false
      go (inl at) rest =
          none_met (meets p q) c.name b.name other.0
          (is_live.between c.name b.name c.tree b.tree p q is named.0 (one_contains p (tree_places c.tree) here) (one_contains q (tree_places b.tree) at))
      go (inr at) rest = rest at

  all_apart : (bs : List Bound) → IsDistinct bytes_eq (map (λ (b : Bound). b.name) bs) → AreNamed bs → are_apart (places_of bs) ≡ true
  all_apart [] once named = refl
  all_apart (c ∷ bs) once named =
      apart_both (tree_places c.tree) (places_of bs)
      (subst (λ (o : Option Tree). IfSome o (λ tree. are_apart (tree_places tree) ≡ true)) named.0 (is_live.own c.name))
      (all_apart bs (later c bs once) named.1) (parted c bs named.0 (others c bs once) named.1)

-- the blocks of a run between two rounds
pub blocks_of_steady : (fits : Tree → Type 0) (s : Standing) (rounds : ℕ) (f : SeenFold) (bs : List Bound) → IsSteady fits s rounds f
    → ((name : List ℕ) → named_in (pairs_of bs) name ≡ named_in f.bound name) → IsDistinct bytes_eq (map (λ (b : Bound). b.name) bs)
    → IsNonDecreasingBy (λ (e : List ℕ × Tree). byte_order e.0) (pairs_of bs) → AreBlocks fits (sizes_of s.tops) bs
blocks_of_steady fits s rounds f bs steady same once order =
    let named : AllByRecursion (λ (b : Bound). named_in f.bound b.name ≡ Some b.tree) bs =
    all_weaker (λ (b : Bound). named_in (pairs_of bs) b.name ≡ Some b.tree) (λ (b : Bound). named_in f.bound b.name ≡ Some b.tree) bs (λ b is. sym (same b.name) ∙ is) (each_named bs once) in
    record {
      once = once;
      order = order;
      fit = all_map fits (λ (b : Bound). b.tree) bs
          (all_weaker (λ (b : Bound). named_in f.bound b.name ≡ Some b.tree) (λ (b : Bound). fits b.tree) bs (λ b is. subst (λ (o : Option Tree). IfSome o fits) is (steady.fits_all b.name)) named);
      inside = all_weaker (Contains s.live) (λ (p : Place). IsTrue (is_inside (sizes_of s.tops) p)) (places_of bs) steady.inside (all_live s.live f.bound steady.live bs named);
      apart = all_apart s.live f.bound steady.live bs once named;
    }
