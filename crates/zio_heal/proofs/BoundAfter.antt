-- The blocks that are bound after a round are safe, and have no place in common.
use Rattle.std.proofs.Common.{◌≡◌, ◌≢◌, ℕ, List, [], ◌∷◌, ◌++◌, filter, find, Bool, true, false, cond, not, option_map, is_some, Option, Some, Contains, ◌⊎◌, inl, inr, ⊎_elim, refl, sym, ap, ◌∙◌, subst}
use Rattle.std.proofs.lemmas.Slice.Eq.{bytes_eq-Decides}
use Rattle.std.specs.List.{AllByRecursion}
use Rattle.zio_types.specs.declared.error.Errno.{Errno}
use Rattle.zio_types.specs.declared.place.Place.{Place}
use Rattle.zio_types.specs.declared.request.Prio.{Prio}
use Rattle.zio_types.specs.Choices.{Choice}
use Rattle.zio_types.specs.Places.{meets}
use Rattle.zio_blkptr.specs.declared.pointer.SumKind.{SumKind}
use Rattle.zio_script.specs.declared.script.Body.{Body}
use Rattle.zio_script.specs.declared.script.Request.{Request}
use Rattle.zio_script.specs.declared.script.Work.{Work}
use Rattle.zio_script.specs.declared.script.Work.TheVariants.{Null, Read, Write, Free, Claim}
use Rattle.zio_cksum.specs.Images.{Images}
use Rattle.zio_cksum.proofs.AllLemmas.{all_contains, all_weaker}
use Rattle.zio_gang.specs.declared.tree.Tree.{Tree}
use Rattle.zio_gang.specs.Attempts.{Ended, Pending}
use Rattle.zio_gang.specs.Rounds.{Binding, Bound, NamesOnce, bind, bound_after, bound_by, bound_unless, is_bound, is_of, settle_each, unbind, used_places}
use Rattle.zio_gang.specs.Trees.{sizes_of, tree_places}
use Rattle.zio_gang.proofs.BoundLemmas.{NamesOnce-bind, NamesOnce-unbind}
use Rattle.zio_trace.specs.RunTraces.{RoundStart}
use Rattle.zio_trace.specs.Separate.{IsNoClaim, NoneMeet}
use Rattle.zio_trace.specs.SoundRounds.{IsOwnBlock}
use Rattle.zio_trace.specs.TreeOrders.{Pairs}
use Rattle.zio_trace.proofs.ChoiceLemmas.{contained_cases}
use Rattle.zio_trace.proofs.ListLemmas.{all_lists}
use Rattle.zio_trace.proofs.PairLemmas.{all_of, flat_contains}
use Rattle.zio_heal.specs.Contents.{EachPiece}
use Rattle.zio_heal.specs.Given.{Deeds}
use Rattle.zio_heal.specs.SafeBlocks.{AreSafe, BindingsApart, Contents, IsSafe, IsSafeBlock}
use Rattle.zio_heal.specs.SafeRounds.{EndsDiffer, IsSafeStart, deeds_in}
use Rattle.zio_heal.proofs.AfterContents.{IsTold, after, all_ends, all_told, others_same}
use Rattle.zio_heal.proofs.BoundBlocks.{answers, block_safe, block_stays, tells}
use Rattle.zio_heal.proofs.EndedBlocks.{at_start, made_free, made_own, made_places, made_safe, tree, tree_is}
use Rattle.zio_heal.proofs.KidsLemmas.{filtered}
use Rattle.zio_heal.proofs.PlacedLemmas.{dont_false}
use Rattle.zio_heal.proofs.PlacedPlaces.{IsFoundAt}
use Rattle.zio_heal.proofs.WrittenPieces.{asks_apart}

pairs_filter : (R : Binding → Binding → Type 0) (test : Binding → Bool) (bs : List Binding) → Pairs R bs → Pairs R (filter test bs)
pairs_filter R test [] h = tt
pairs_filter R test (b ∷ bs) h = by (test b) (pairs_filter R test bs h.1)
  where
    by : (t : Bool) → Pairs R (filter test bs) → Pairs R (cond t (b ∷ filter test bs) (filter test bs))
    by true k = (filtered (R b) test bs h.0, k)
    by false k = k

-- a binding's name is bound
there_if : (found : Bool) (b : Binding) (bound : Bound) (name : List ℕ) → (is_bound bound name ≡ true) ⊎ (found ≡ true) → is_some (option_map (λ (x : Binding). x.tree) (cond found (Some b) (find (is_of name) bound))) ≡ true
there_if true b bound name k = refl
there_if false b bound name (inl k) = k
there_if false b bound name (inr k) = absurd (cc)

bound_there : (bound : Bound) (b : Binding) → Contains bound b → is_bound bound b.name ≡ true
bound_there [] b lb = absurd (all_contains (λ (x : Binding). ⊥) [] b tt lb)
bound_there (k ∷ bound) b lb =
    there_if (is_of b.name k) k bound b.name
    (⊎_elim
    (λ (same : k ≡ b). inr (subst (λ (x : Binding). is_of b.name x ≡ true) (sym same) ((bytes_eq-Decides b.name b.name).1 refl)))
    (λ (later : Contains bound b). inl (bound_there bound b later))
    (contained_cases k bound b lb))

module _ (journal : List Choice) (sizes : ℕ → ℕ) (ds : Deeds) (contents : Contents) (children : ℕ → ℕ) (s : RoundStart) (h : IsSafeStart journal sizes ds contents children s) where
  abbrev now : Contents
  now = after journal sizes ds contents children s h

  abbrev last : Images
  last = (settle_each journal s.terms s.trees s.images).images

  abbrev Told : Ended → Type 0
  Told e = IsTold journal sizes ds contents children s h now e

  -- a binding whose block is safe after the round, wherever its places are in use
  record IsSafeNow (b : Binding) : Type 0 where
    pieces : EachPiece (IsSafe s.terms.setting last (ds ++ deeds_in journal s)) b.tree (now b.name)
    own : (used : List Place) → AllByRecursion (Contains used) (tree_places b.tree) → IsOwnBlock (sizes_of s.terms.setting.tops) used b.tree

  -- ---- blocks of ended writes

  -- the block that a write made
  record MadeBlock (e : Ended) (name : List ℕ) : Type 0 where
    block : Tree
    is : e.tree ≡ Some block
    safe : IsSafeNow (record { name = name; tree = block })
    free : NoneMeet (tree_places block) s.terms.used
    by : Pending
    number : by.request.number ≡ e.request.number
    places : AllByRecursion (IsFoundAt journal s.terms by []) (tree_places block)

  made : (e : Ended) (told : Told e) (name : List ℕ) (sum : SumKind) (copies : ℕ) (prio : Prio) (body : Body) → e.request.work ≡ Write name sum copies prio body → MadeBlock e name
  made e told name sum copies prio body work = record {
    block = tree journal sizes ds contents children s h e told.ends told.none name sum copies prio body work;
    is = tree_is journal sizes ds contents children s h e told.ends told.none name sum copies prio body work;
    safe = record {
      pieces =
          subst (λ (content : List ℕ). EachPiece (IsSafe s.terms.setting last (ds ++ deeds_in journal s)) (tree journal sizes ds contents children s h e told.ends told.none name sum copies prio body work) content)
          (sym (told.is name sum copies prio body work))
          (made_safe journal sizes ds contents children s h e told.ends told.none name sum copies prio body work);
      own = made_own journal sizes ds contents children s h e told.ends told.none name sum copies prio body work;
    };
    free = made_free journal sizes ds contents children s h e told.ends told.none name sum copies prio body work;
    by = told.ends.p;
    number = ap (λ (r : Request). r.number) (sym told.ends.request);
    places = made_places journal sizes ds contents children s h e told.ends told.none name sum copies prio body work;
  }

  -- places of two requests don't meet
  found_apart : (p q : Pending) (x y : Place) → p.request.number ≢ q.request.number → IsFoundAt journal s.terms p [] x → IsFoundAt journal s.terms q [] y → meets x y ≡ false
  found_apart p q x y ne f g =
      dont_false x y
      (asks_apart journal s.terms sizes h.pool (answers journal sizes ds contents children s h) f.there.ask g.there.ask f.places g.places f.there.now g.there.now
      (λ same. ne (sym f.there.request ∙ same.request ∙ g.there.request)) f.there.found g.there.found x y f.listed g.listed)

  two_made : (e f : Ended) (n m : List ℕ) (a : MadeBlock e n) (b : MadeBlock f m) → e.request.number ≢ f.request.number → NoneMeet (tree_places b.block) (tree_places a.block)
  two_made e f n m a b ne =
      all_weaker (IsFoundAt journal s.terms b.by []) (λ (x : Place). AllByRecursion (λ (y : Place). meets x y ≡ false) (tree_places a.block)) (tree_places b.block)
      (λ x k. all_weaker (IsFoundAt journal s.terms a.by []) (λ (y : Place). meets x y ≡ false) (tree_places a.block)
      (λ y j. found_apart b.by a.by x y (λ same. ne (sym a.number ∙ sym same ∙ b.number)) k j) a.places) b.places

  -- ---- request after request

  -- the blocks that are still to be bound have no place of these
  abbrev IsFresh : Bound → Ended → Type 0
  IsFresh bound e = (name : List ℕ) → (m : MadeBlock e name) → AllByRecursion (λ (b : Binding). NoneMeet (tree_places m.block) (tree_places b.tree)) bound

  record IsFold (bound : Bound) (es : List Ended) : Type 0 where
    safe : AllByRecursion IsSafeNow bound
    once : NamesOnce bound
    apart : Pairs BindingsApart bound
    fresh : AllByRecursion (IsFresh bound) es

  fold_free : (name : List ℕ) (bound : Bound) (es : List Ended) → IsFold bound es → IsFold (unbind name bound) es
  fold_free name bound es k = record {
    safe = filtered IsSafeNow (λ b. not (is_of name b)) bound k.safe;
    once = NamesOnce-unbind name bound k.once;
    apart = pairs_filter BindingsApart (λ b. not (is_of name b)) bound k.apart;
    fresh = all_weaker (IsFresh bound) (IsFresh (unbind name bound)) es (λ e f n m. filtered (λ (b : Binding). NoneMeet (tree_places m.block) (tree_places b.tree)) (λ b. not (is_of name b)) bound (f n m)) k.fresh;
  }

  fold_write : (e : Ended) (name : List ℕ) (m : MadeBlock e name) (bound : Bound) (es : List Ended) → AllByRecursion (EndsDiffer e) es → IsFold bound (e ∷ es) → IsFold (bind name m.block bound) es
  fold_write e name m bound es differ k =
      let free : IsFold (unbind name bound) es = fold_free name bound es (record { safe = k.safe; once = k.once; apart = k.apart; fresh = k.fresh.1 }) in
      record {
        safe = (m.safe, free.safe);
        once = NamesOnce-bind name m.block bound k.once;
        apart = (filtered (λ (b : Binding). NoneMeet (tree_places m.block) (tree_places b.tree)) (λ b. not (is_of name b)) bound (k.fresh.0 name m), free.apart);
        fresh = all_lists (IsFresh (unbind name bound)) (EndsDiffer e) (IsFresh (bind name m.block bound)) es (λ f old ne n j. (two_made e f name n m j ne, old n j)) free.fresh differ;
      }

  fold_work : (e : Ended) (told : Told e) (work : Work) (bound : Bound) (es : List Ended) → e.request.work ≡ work → AllByRecursion (EndsDiffer e) es → IsFold bound (e ∷ es) → IsFold (bound_by work e.tree bound) es
  fold_work e told Null bound es is differ k = record { safe = k.safe; once = k.once; apart = k.apart; fresh = k.fresh.1 }
  fold_work e told (Read name prio) bound es is differ k = record { safe = k.safe; once = k.once; apart = k.apart; fresh = k.fresh.1 }
  fold_work e told (Write name sum copies prio body) bound es is differ k =
      let m : MadeBlock e name = made e told name sum copies prio body is in
      subst (λ (o : Option Tree). IsFold (bound_by (Write name sum copies prio body) o bound) es) (sym m.is) (fold_write e name m bound es differ k)
  fold_work e told (Free name) bound es is differ k = fold_free name bound es (record { safe = k.safe; once = k.once; apart = k.apart; fresh = k.fresh.1 })
  fold_work e told (Claim name pointer) bound es is differ k =
      absurd (subst IsNoClaim (ap (λ (r : Request). r.work) (told.ends.from.request ∙ sym told.ends.request) ∙ is) (at_start journal sizes ds contents children s h e told.ends).claims)

  fold_all : (es : List Ended) (bound : Bound) → AllByRecursion Told es → Pairs EndsDiffer es → IsFold bound es → IsFold (bound_after es bound) []
  fold_all [] bound told distinct k = k
  fold_all (e ∷ es) bound told distinct k =
      let one : Told e = told.0 in
      fold_all es (bound_unless e.error e bound) told.1 distinct.1
      (subst (λ (x : Option Errno). IsFold (bound_unless x e bound) es) (sym one.none) (fold_work e one e.request.work bound es refl distinct.0 k))

  -- ---- what was bound before

  bound_safe : AllByRecursion IsSafeNow s.bound
  bound_safe =
      all_of IsSafeNow s.bound
      (λ b lb.
      let old = block_safe journal sizes ds contents children s h b lb in
      record {
        pieces =
            subst (λ (content : List ℕ). EachPiece (IsSafe s.terms.setting last (ds ++ deeds_in journal s)) b.tree content)
            (sym (others_same journal sizes ds contents children s h (settle_each journal s.terms s.trees s.images).ended (all_ends journal sizes ds contents children s h) b.name (bound_there s.bound b lb)))
            (block_stays journal sizes ds contents children s h b lb);
        own = λ used in_use. record { sound = record { in_use = in_use; inside = old.own.sound.inside; room = old.own.sound.room }; own = old.own.own };
      })

  new_free : (e : Ended) (name : List ℕ) (m : MadeBlock e name) → AllByRecursion (λ (b : Binding). NoneMeet (tree_places m.block) (tree_places b.tree)) s.bound
  new_free e name m =
      all_of (λ (b : Binding). NoneMeet (tree_places m.block) (tree_places b.tree)) s.bound
      (λ b lb. all_weaker (λ (x : Place). AllByRecursion (λ (y : Place). meets x y ≡ false) s.terms.used) (λ (x : Place). AllByRecursion (λ (y : Place). meets x y ≡ false) (tree_places b.tree)) (tree_places m.block)
      (λ x k. all_of (λ (y : Place). meets x y ≡ false) (tree_places b.tree)
      (λ y cy. all_contains (λ (z : Place). meets x z ≡ false) s.terms.used y k
      (subst (λ (used : List Place). Contains used y) (sym h.used) (flat_contains (λ (k : Binding). tree_places k.tree) s.bound b y lb cy)))) m.free)

  -- The blocks that are bound after the round.
  pub safe_after : AreSafe s.terms.setting last (ds ++ deeds_in journal s) now (bound_after (settle_each journal s.terms s.trees s.images).ended s.bound)
  safe_after =
      let ended : List Ended = (settle_each journal s.terms s.trees s.images).ended in
      let bound : Bound = bound_after ended s.bound in
      let k : IsFold bound [] =
      fold_all ended s.bound (all_told journal sizes ds contents children s h) (tells journal sizes ds contents children s h).distinct
      (record { safe = bound_safe; once = h.safe.once; apart = h.safe.apart; fresh = all_of (IsFresh s.bound) ended (λ e c name m. new_free e name m) }) in
      record {
        once = k.once;
        blocks = all_of (λ (b : Binding). IsSafeBlock s.terms.setting last (ds ++ deeds_in journal s) (used_places bound) b.tree (now b.name)) bound
            (λ b lb.
            let one : IsSafeNow b = all_contains IsSafeNow bound b k.safe lb in
            record {
              own = one.own (used_places bound) (all_of (Contains (used_places bound)) (tree_places b.tree) (λ y cy. flat_contains (λ (x : Binding). tree_places x.tree) bound b y lb cy));
              pieces = one.pieces;
            });
        apart = k.apart;
      }
