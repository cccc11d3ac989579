-- What a batch does to the plain store, name by name, and which replies it gives.
use Rattle.std.proofs.Common.{◌≡◌, ℕ, List, [], ◌∷◌, map, fold, if◌then◌else◌, bytes_eq, Bool, true, false, Option, Some, None, Contains, inl, inr, ⊎_elim, refl, sym, ap, ◌∙◌, subst}
use Rattle.std.proofs.lemmas.List.Sums.{fold-append}
use Rattle.std.proofs.lemmas.Slice.Eq.{bytes_eq-Decides}
use Rattle.std.specs.List.{AllByRecursion}
use Rattle.zio_types.specs.declared.error.Errno.{Errno}
use Rattle.zio_script.specs.declared.script.Request.{Request}
use Rattle.zio_script.specs.declared.script.Work.{Work}
use Rattle.zio_script.specs.declared.script.Work.TheVariants.{Null, Read, Write, Free, Claim}
use Rattle.zio_script.specs.Requests.{name_of, names_it}
use Rattle.zio_cksum.proofs.AllLemmas.{all_append, all_contained, all_contains, all_map, all_unmap, all_weaker}
use Rattle.zio_gang.specs.Attempts.{Ended}
use Rattle.zio_gang.specs.Rounds.{Admitted, admit_with, admitted, answered_with, trees_of}
use Rattle.zio_trace.specs.SoundRounds.{IsRead}
use Rattle.zio_trace.specs.TreeOrders.{Pairs}
use Rattle.zio_trace.proofs.ChoiceLemmas.{contained_cases}
use Rattle.zio_trace.proofs.PairLemmas.{all_of, flat_contains}
use Rattle.zio_heal.specs.PlainStore.{Content, Reply, Store, answer_of, changed_by, changed_unless, content_in, has_content, replies_of, reply_with, store_after}
use Rattle.zio_heal.specs.StoredPlainly.{HasReply}
use Rattle.zio_heal.proofs.BatchTrees.{HaveWorksApart}
use Rattle.zio_heal.proofs.TreeLists.{admitted_all, flat_trees}
use Rattle.zio_heal.proofs.ReadyAfter.{turned_names}

module _ (batch : List Request) where
  -- ---- one request

  -- what the name of a request's work has after it, by what it had before
  abbrev pub effect : Request → Work → Option Content → Option Content
  effect r Null old = old
  effect r (Read name prio) old = old
  effect r (Write name sum copies prio body) old = Some (content_in batch r body)
  effect r (Free name) old = None
  effect r (Claim name pointer) old = old

  -- the request leaves what the name has
  abbrev Quiet : List ℕ → Request → Type 0
  Quiet m r = (now : Store) → changed_by batch now r r.work m ≡ now m

  quiet_other : (m : List ℕ) (r : Request) (work : Work) → names_it (name_of work) (Some m) ≡ false → (now : Store) → changed_by batch now r work m ≡ now m
  quiet_other m r Null differs now = refl
  quiet_other m r (Read name prio) differs now = refl
  quiet_other m r (Write name sum copies prio body) differs now = ap (λ (b : Bool). if b then Some (content_in batch r body) else now m) differs
  quiet_other m r (Free name) differs now = ap (λ (b : Bool). if b then None else now m) differs
  quiet_other m r (Claim name pointer) differs now = refl

  quiet_read : (m : List ℕ) (r : Request) (work : Work) → IsRead work → (now : Store) → changed_by batch now r work m ≡ now m
  quiet_read m r Null reads now = refl
  quiet_read m r (Read name prio) reads now = refl
  quiet_read m r (Write name sum copies prio body) reads now = absurd reads
  quiet_read m r (Free name) reads now = absurd reads
  quiet_read m r (Claim name pointer) reads now = refl

  quiet_apart : (m : List ℕ) (x r : Request) → HaveWorksApart x r → name_of r.work ≡ Some m → Quiet m x
  quiet_apart m x r (inl differs) named now = quiet_other m x x.work (subst (λ (o : Option (List ℕ)). names_it (name_of x.work) o ≡ false) named differs) now
  quiet_apart m x r (inr reads) named now = quiet_read m x x.work reads.0 now

  turned_apart : (x y : Request) → HaveWorksApart x y → HaveWorksApart y x
  turned_apart x y (inl differs) = inl (turned_names (name_of x.work) (name_of y.work) differs)
  turned_apart x y (inr reads) = inr (reads.1, reads.0)

  same_bytes : (a b : List ℕ) → Some a ≡ Some b → bytes_eq a b ≡ true
  same_bytes a b e = (bytes_eq-Decides a b).1 (let same : a ≡ b = cc in same)

  own_change : (m : List ℕ) (r : Request) (work : Work) (now : Store) → name_of work ≡ Some m → changed_by batch now r work m ≡ effect r work (now m)
  own_change m r Null now named = absurd (let no : None ≡ Some m = named in cc)
  own_change m r (Read name prio) now named = refl
  own_change m r (Write name sum copies prio body) now named = ap (λ (b : Bool). if b then Some (content_in batch r body) else now m) (same_bytes name m named)
  own_change m r (Free name) now named = ap (λ (b : Bool). if b then None else now m) (same_bytes name m named)
  own_change m r (Claim name pointer) now named = refl

  -- ---- requests in turn

  abbrev after_all : Store → List Request → Store
  after_all now rs = fold (λ (s : Store) (r : Request). changed_by batch s r r.work) now rs

  unchanged : (m : List ℕ) (rs : List Request) (now : Store) → AllByRecursion (Quiet m) rs → after_all now rs m ≡ now m
  unchanged m [] now h = refl
  unchanged m (r ∷ rs) now h = unchanged m rs (changed_by batch now r r.work) h.1 ∙ h.0 now

  effect_in : (m : List ℕ) (rs : List Request) (r : Request) (now : Store) → Pairs HaveWorksApart rs → Contains rs r → name_of r.work ≡ Some m → after_all now rs m ≡ effect r r.work (now m)
  effect_in m [] r now h listed named = absurd (all_contains (λ (z : Request). ⊥) [] r tt listed)
  effect_in m (x ∷ xs) r now h listed named =
      ⊎_elim
      (λ (same : x ≡ r).
      let named_x : name_of x.work ≡ Some m = ap (λ (q : Request). name_of q.work) same ∙ named in
      unchanged m xs (changed_by batch now x x.work) (all_weaker (HaveWorksApart x) (Quiet m) xs (λ y apart. quiet_apart m y x (turned_apart x y apart) named_x) h.0)
      ∙ own_change m x x.work now named_x ∙ ap (λ (q : Request). effect q q.work (now m)) same)
      (λ (later : Contains xs r).
      effect_in m xs r (changed_by batch now x x.work) h.1 later named
      ∙ ap (effect r r.work) (quiet_apart m x r (all_contains (HaveWorksApart x) xs r h.0 later) named now))
      (contained_cases x xs r listed)

  -- ---- trees in turn

  module _ (store : Store) where
    -- what runs of these trees
    abbrev pub let_through : List (List Request) → List Request
    let_through trees = flat_trees (admitted [] (has_content store) trees).trees

    store_by : (e : Option Errno) (tree : List Request) (trees : List (List Request)) (others : Admitted) (now : Store)
        → ((s : Store) → fold (λ (s : Store) (t : List Request). changed_unless (answer_of store t) batch t s) s trees ≡ after_all s (flat_trees others.trees))
        → fold (λ (s : Store) (t : List Request). changed_unless (answer_of store t) batch t s) (changed_unless e batch tree now) trees ≡ after_all now (flat_trees (admit_with e tree others).trees)
    store_by (Some e) tree trees others now later = later now
    store_by None tree trees others now later =
        later (after_all now tree) ∙ sym (fold-append (λ (s : Store) (r : Request). changed_by batch s r r.work) now tree (flat_trees others.trees))

    store_is : (trees : List (List Request)) (now : Store) → fold (λ (s : Store) (t : List Request). changed_unless (answer_of store t) batch t s) now trees ≡ after_all now (let_through trees)
    store_is [] now = refl
    store_is (tree ∷ trees) now = store_by (answer_of store tree) tree trees (admitted [] (has_content store) trees) now (store_is trees)

    -- A name that a request names has what that request leaves, and others have what they had.
    pub store_named : (m : List ℕ) (r : Request) → Pairs HaveWorksApart (let_through (trees_of batch)) → Contains (let_through (trees_of batch)) r → name_of r.work ≡ Some m → store_after store batch m ≡ effect r r.work (store m)
    store_named m r apart listed named = ap (λ (s : Store). s m) (store_is (trees_of batch) store) ∙ effect_in m (let_through (trees_of batch)) r store apart listed named

    pub store_other : (m : List ℕ) → AllByRecursion (λ (r : Request). names_it (name_of r.work) (Some m) ≡ false) (let_through (trees_of batch)) → store_after store batch m ≡ store m
    store_other m none =
        ap (λ (s : Store). s m) (store_is (trees_of batch) store)
        ∙ unchanged m (let_through (trees_of batch)) store (all_weaker (λ (r : Request). names_it (name_of r.work) (Some m) ≡ false) (Quiet m) (let_through (trees_of batch)) (λ r differs. quiet_other m r r.work differs) none)

    -- ---- replies

    abbrev replies_in : List Request → List Reply
    replies_in tree = map (reply_with (answer_of store tree) batch store) tree

    mapped_contains : {X Y : Type 0} (f : X → Y) (xs : List X) → AllByRecursion (λ (x : X). Contains (map f xs) (f x)) xs
    mapped_contains f xs = all_unmap (Contains (map f xs)) f xs (all_contained (map f xs))

    -- the replies of a tree's requests
    tree_replies : (tree : List Request) → Contains (trees_of batch) tree → AllByRecursion (λ (r : Request). Contains (replies_of store batch) (reply_with (answer_of store tree) batch store r)) tree
    tree_replies tree listed =
        all_weaker (λ (r : Request). Contains (replies_in tree) (reply_with (answer_of store tree) batch store r)) (λ (r : Request). Contains (replies_of store batch) (reply_with (answer_of store tree) batch store r)) tree
        (λ r there. flat_contains replies_in (trees_of batch) tree (reply_with (answer_of store tree) batch store r) listed there)
        (mapped_contains (reply_with (answer_of store tree) batch store) tree)

    pub run_replies : AllByRecursion (AllByRecursion (λ (r : Request). Contains (replies_of store batch) (reply_with None batch store r))) (admitted [] (has_content store) (trees_of batch)).trees
    run_replies =
        admitted_all (Contains (trees_of batch)) (AllByRecursion (λ (r : Request). Contains (replies_of store batch) (reply_with None batch store r))) [] (has_content store) (trees_of batch)
        (λ tree none listed.
        subst (λ (e : Option Errno). AllByRecursion (λ (r : Request). Contains (replies_of store batch) (reply_with e batch store r)) tree) none (tree_replies tree listed))
        (all_contained (trees_of batch))

    answered_by : (E : Ended → Type 0) (e : Option Errno) (tree : List Request) (others : Admitted) → ((x : Errno) → e ≡ Some x → AllByRecursion (λ (r : Request). E (answered_with x r)) tree) → AllByRecursion E others.answered
        → AllByRecursion E (admit_with e tree others).answered
    answered_by E (Some x) tree others f rest = all_append E (map (answered_with x) tree) others.answered (all_map E (answered_with x) tree (f x refl)) rest
    answered_by E None tree others f rest = rest

    answered_all : (E : Ended → Type 0) (trees : List (List Request)) → AllByRecursion (λ (tree : List Request). (x : Errno) → answer_of store tree ≡ Some x → AllByRecursion (λ (r : Request). E (answered_with x r)) tree) trees
        → AllByRecursion E (admitted [] (has_content store) trees).answered
    answered_all E [] h = tt
    answered_all E (tree ∷ trees) h = answered_by E (answer_of store tree) tree (admitted [] (has_content store) trees) h.0 (answered_all E trees h.1)

    -- Whatever admission answers is answered so in the plain store.
    pub answered_alike : (E : Ended → Type 0) → ((x : Errno) (r : Request) → HasReply (replies_of store batch) (answered_with x r) → Contains batch r → E (answered_with x r))
        → AllByRecursion (AllByRecursion (Contains batch)) (trees_of batch) → AllByRecursion E (admitted [] (has_content store) (trees_of batch)).answered
    answered_alike E f members =
        answered_all E (trees_of batch)
        (all_of (λ (tree : List Request). (x : Errno) → answer_of store tree ≡ Some x → AllByRecursion (λ (r : Request). E (answered_with x r)) tree) (trees_of batch)
        (λ tree listed x is.
        all_of (λ (r : Request). E (answered_with x r)) tree
        (λ r cr.
        let there : Contains (replies_of store batch) (reply_with (answer_of store tree) batch store r) =
        all_contains (λ (q : Request). Contains (replies_of store batch) (reply_with (answer_of store tree) batch store q)) tree r (tree_replies tree listed) cr in
        f x r
        (record {
          reply = reply_with (Some x) batch store r;
          listed = subst (λ (e : Option Errno). Contains (replies_of store batch) (reply_with e batch store r)) is there;
          alike = record { number = refl; shown = refl };
        })
        (all_contains (Contains batch) tree r (all_contains (AllByRecursion (Contains batch)) (trees_of batch) tree members listed) cr))))
