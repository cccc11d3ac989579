-- The blocks that a round's requests were given: no two places of one meet, and two are one or apart.
use Rattle.std.proofs.Common.{◌≡◌, ◌≢◌, ℕ, List, [], ◌∷◌, Bool, true, false, Option, Some, None, Contains}
use Rattle.std.proofs.Common.{refl, sym, ap, ◌∙◌, subst, inl, inr, ◌⊎◌}
use Rattle.std.specs.List.{AllByRecursion}
use Rattle.std.proofs.lemmas.Bool.{false_from_ne_true}
use Rattle.std.proofs.lemmas.Slice.Eq.{bytes_eq-Decides}
use Rattle.zio_types.specs.declared.place.Place.{Place}
use Rattle.zio_types.specs.Places.{are_apart, meets}
use Rattle.zio_script.specs.declared.script.Request.{Request}
use Rattle.zio_script.specs.Requests.{name_of, names_it, needs_block}
use Rattle.zio_cksum.proofs.AllLemmas.{all_weaker}
use Rattle.zio_gang.specs.declared.tree.Tree.{Tree}
use Rattle.zio_gang.specs.Attempts.{Pending}
use Rattle.zio_gang.specs.Rounds.{block_if, block_of}
use Rattle.zio_gang.specs.Trees.{tree_places}
use Rattle.zio_course.specs.Forests.{names_of}
use Rattle.zio_course.specs.Live.{IsLive}
use Rattle.zio_course.specs.Names.{named_in}
use Rattle.zio_course.specs.Runners.{AreOneOrApart, IsSamePending, NoneMeet, places_of_block}
use Rattle.zio_course.proofs.AdmittedLemmas.{not_both}
use Rattle.zio_course.proofs.DoneLemmas.{contains_one, one_contains}
use Rattle.zio_course.proofs.FreedLemmas.{HasBlock, block_apart}
use Rattle.zio_course.proofs.MadeLemmas.{block_tree}
use Rattle.zio_course.proofs.PlantLemmas.{named_of}
use Rattle.zio_course.proofs.SortLemmas.{IsOneOf, all_one, one_all}

-- no two places of the request's block meet
abbrev pub IsOwnApart : Pending → Type 0
IsOwnApart p = are_apart (places_of_block p.block) ≡ true

-- any two of the requests with different numbers
abbrev pub AreBetween : List Pending → Type 0
AreBetween ps = (p q : Pending) → Contains ps p → Contains ps q → p.request.number ≢ q.request.number → AreOneOrApart p q

none_meet : (ps : List Place) → NoneMeet ps []
none_meet [] = tt
none_meet (p ∷ ps) = (tt, none_meet ps)

-- a place of the block that a name has
record OfName (bound : List (List ℕ × Tree)) (name : Option (List ℕ)) (x : Place) : Type 0 where
  own : List ℕ
  tree : Tree
  name_is : name ≡ Some own
  is : named_in bound own ≡ Some tree
  there : Contains (tree_places tree) x

of_name : (bound : List (List ℕ × Tree)) (needs : Bool) (name : Option (List ℕ)) (x : Place)
    → IsOneOf x (places_of_block (block_if needs name (names_of bound))) → OfName bound name x
of_name bound true (Some own) x at =
    let block = block_tree (block_of (names_of bound) own) x at in
    record {
      own = own;
      tree = block.0;
      name_is = refl;
      is = named_of own bound ∙ block.1;
      there = one_contains x (tree_places block.0) block.2;
    }
of_name bound true None x at = absurd at
of_name bound false name x at = absurd at

module _ (live : List Place) (bound : List (List ℕ × Tree)) (known : IsLive live bound) where
  own_if : (needs : Bool) (name : Option (List ℕ)) → are_apart (places_of_block (block_if needs name (names_of bound))) ≡ true
  own_if true (Some name) =
      subst (λ (o : Option Tree). are_apart (places_of_block o) ≡ true) (named_of name bound)
      (block_apart live bound known (named_in bound name) (known.own name))
  own_if true None = refl
  own_if false name = refl

  -- no two places meet of a block that its name has
  pub named_own : (ps : List Pending) → AllByRecursion (HasBlock bound) ps → AllByRecursion IsOwnApart ps
  named_own ps blocks =
      all_weaker (HasBlock bound) IsOwnApart ps
      (λ p has. subst (λ (o : Option Tree). are_apart (places_of_block o) ≡ true) (sym has)
      (own_if (needs_block p.request.work) (name_of p.request.work))) blocks

  of_place : (p : Pending) (x : Place) → HasBlock bound p → IsOneOf x (places_of_block p.block) → OfName bound (name_of p.request.work) x
  of_place p x has at =
      of_name bound (needs_block p.request.work) (name_of p.request.work) x
      (subst (λ (o : Option Tree). IsOneOf x (places_of_block o)) has at)

  -- places of blocks of different names don't meet
  other_names : (p q : Pending) → HasBlock bound p → HasBlock bound q
      → names_it (name_of p.request.work) (name_of q.request.work) ≡ false
      → NoneMeet (places_of_block p.block) (places_of_block q.block)
  other_names p q has too differ =
      all_one (λ (x : Place). AllByRecursion (λ (y : Place). meets x y ≡ false) (places_of_block q.block)) (places_of_block p.block)
      (λ x at.
      all_one (λ (y : Place). meets x y ≡ false) (places_of_block q.block) (λ y here.
      false_from_ne_true (meets x y) (λ met.
      (let a = of_place p x has at in
      let b = of_place q y too here in
      let same : a.own ≡ b.own =
      known.between a.own b.own a.tree b.tree x y a.is b.is a.there b.there met in
      not_both (names_it (name_of p.request.work) (name_of q.request.work))
      (ap (λ (o : Option (List ℕ)). names_it o (name_of q.request.work)) a.name_is
      ∙ (ap (λ (o : Option (List ℕ)). names_it (Some a.own) o) b.name_is ∙ (bytes_eq-Decides a.own b.own).1 same)) differ))))

  -- two requests of one name have one block, or one of them has none
  one_name : (v w : Bool) (a b : Option (List ℕ)) (block other : Option Tree) → block ≡ block_if v a (names_of bound)
      → other ≡ block_if w b (names_of bound) → names_it a b ≡ true → (block ≡ other) ⊎ NoneMeet (places_of_block block) (places_of_block other)
  one_name true true (Some n) (Some m) block other is too same =
      inl (is ∙ (ap (block_of (names_of bound)) ((bytes_eq-Decides n m).0 same) ∙ sym too))
  one_name true true (Some n) None block other is too same = absurd (let no_name = same in cc)
  one_name true true None b block other is too same = absurd (let no_name = same in cc)
  one_name true false a b block other is too same =
      inr (subst (λ (o : Option Tree). NoneMeet (places_of_block block) (places_of_block o)) (sym too)
      (none_meet (places_of_block block)))
  one_name false w a b block other is too same =
      inr (subst (λ (o : Option Tree). NoneMeet (places_of_block o) (places_of_block other)) (sym is) tt)

  two_blocks : (p q : Pending) → HasBlock bound p → HasBlock bound q → AreOneOrApart p q
  two_blocks p q has too = go (names_it (name_of p.request.work) (name_of q.request.work)) refl
    where
      one : names_it (name_of p.request.work) (name_of q.request.work) ≡ true
          → (p.block ≡ q.block) ⊎ NoneMeet (places_of_block p.block) (places_of_block q.block) → AreOneOrApart p q
      one names (inl same) = inl (record { names = names; same = same })
      one names (inr apart) = inr apart

      go : (b : Bool) → names_it (name_of p.request.work) (name_of q.request.work) ≡ b → AreOneOrApart p q
      go true names =
          one names
          (one_name (needs_block p.request.work) (needs_block q.request.work) (name_of p.request.work) (name_of q.request.work)
          p.block q.block has too names)
      go false names = inr (other_names p q has too names)

  -- two requests that have the blocks of their names have one block or blocks apart
  pub named_between : (ps : List Pending) → AllByRecursion (HasBlock bound) ps → AreBetween ps
  named_between ps blocks p q at here differ =
      two_blocks p q (one_all (HasBlock bound) p ps blocks (contains_one p ps at))
      (one_all (HasBlock bound) q ps blocks (contains_one q ps here))

-- ---- what a round leaves

pub still_own : (old new : Pending) → IsSamePending old new → IsOwnApart old → IsOwnApart new
still_own old new same own = subst (λ (o : Option Tree). are_apart (places_of_block o) ≡ true) (sym same.block) own

pub still_between : (old new older newer : Pending) → IsSamePending old new → IsSamePending older newer → AreOneOrApart old older
    → AreOneOrApart new newer
still_between old new older newer same too (inl one) = inl (record {
  names = ap (λ (r : Request). names_it (name_of r.work) (name_of newer.request.work)) same.request
      ∙ (ap (λ (r : Request). names_it (name_of old.request.work) (name_of r.work)) too.request ∙ one.names);
  same = same.block ∙ (one.same ∙ sym too.block);
})
still_between old new older newer same too (inr apart) =
    inr (subst (λ (o : Option Tree). NoneMeet (places_of_block o) (places_of_block newer.block)) (sym same.block)
    (subst (λ (o : Option Tree). NoneMeet (places_of_block old.block) (places_of_block o)) (sym too.block) apart))
