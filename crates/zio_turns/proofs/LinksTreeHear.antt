-- The nodes under keys, where a tree hears of a child.
use Rattle.std.proofs.Common.{◌≡◌, ◌≢◌, ℕ, Some, ◌⊎◌, inl, inr, refl, sym, ap, ◌∙◌, subst}
use Rattle.zio_gang.specs.Attempts.{Terms}
use Rattle.zio_frames.specs.Frames.{Child, Flying, Seat}
use Rattle.zio_frames.specs.Slots.{Slot}
use Rattle.zio_frames.proofs.GetLemmas.{same_or_not}
use Rattle.zio_turns.specs.Engine.{ChildrenHeld}
use Rattle.zio_staged.specs.Entries.{Held, IsWith, OfNode, OfTree, heard_as, times_in}
use Rattle.zio_staged.specs.Parts.{Nodes}
use Rattle.zio_turns.proofs.Links.{Follows, Goes, Linked, MatchesIn, ShelfGoes, World, apart_still, children_go, goes_kept, goes_same, matches_still, shelf_same, some_is}
use Rattle.zio_turns.proofs.LinksHear.{ChildMoves, IsOwn, children_heard, keeps_heard, not_own}

pub record TreeHears {N : Type 0} (a b : World N) (key tree : ℕ) (q : Flying) (n : ℕ) (seat : Seat) (slot : Slot)
    (c : Child) : Type 0 where
  pub flies : a.tops tree ≡ Some q
  pub tops : IsWith a.tops tree (Some (heard_as q n seat slot c)) b.tops
  pub lives : (k : ℕ) → k ≢ key → b.lives k ≡ a.lives k
  pub shelf : (k : ℕ) → k ≢ key → b.shelf k ≡ a.shelf k
  pub queue : (k : ℕ) → k ≢ key → times_in k b.queue ≡ times_in k a.queue
  pub leaves : (k : ℕ) → k ≢ key → times_in k b.leaves ≡ times_in k a.leaves

module _ {N : Type 0} (nodes : Nodes N) (t : Terms) (a b : World N) (key tree : ℕ) (h : Held N) (q : Flying) (n : ℕ)
    (seat : Seat)
    (slot : Slot) (c : Child) where
  abbrev Move : Type 0
  Move = TreeHears {N = N} a b key tree q n seat slot c

  abbrev Fate : Type 0
  Fate = ChildMoves {N = N} nodes t a b key h (OfTree tree n) c

  number_own : Fate → (m : ℕ) → m ≢ n → IsOwn {N = N} h (OfTree tree m) → ⊥
  number_own f m d own = d (number_of (own ∙ f.parent_is))
    where
      number_of : OfTree tree m ≡ OfTree tree n → m ≡ n
      number_of e = cc

  key_own : Fate → (k i : ℕ) → IsOwn {N = N} h (OfNode k i) → ⊥
  key_own f k i own = clash (own ∙ f.parent_is)
    where
      clash : OfNode k i ≡ OfTree tree n → ⊥
      clash e = cc

  tree_own : Fate → (m : ℕ) → m ≢ tree → (i : ℕ) → IsOwn {N = N} h (OfTree m i) → ⊥
  tree_own f m d i own = d (tree_of (own ∙ f.parent_is))
    where
      tree_of : OfTree m i ≡ OfTree tree n → m ≡ tree
      tree_of e = cc

  trees_go : Move → Fate → (i : ℕ) → (i ≡ tree) ⊎ (i ≢ tree) → Goes (IsOwn {N = N} h) (OfTree i) (a.tops i) (b.tops i)
  trees_go m f i (inl e) =
      subst (λ (j : ℕ). Goes (IsOwn {N = N} h) (OfTree j) (a.tops j) (b.tops j)) (sym e)
      (goes_kept (IsOwn {N = N} h) (OfTree tree) (a.tops tree) (b.tops tree) q (heard_as q n seat slot c) m.flies m.tops.there
      (λ j ex. keeps_heard q n seat slot c j (λ same. ex (ap (OfTree tree) same ∙ sym f.parent_is))))
  trees_go m f i (inr d) = goes_same (IsOwn {N = N} h) (OfTree i) (a.tops i) (b.tops i) (m.tops.others i d)

  lives_go : Move → Fate → (k : ℕ) → (k ≡ key) ⊎ (k ≢ key) → Goes (IsOwn {N = N} h) (OfNode k) (a.lives k) (b.lives k)
  lives_go m f k (inl e) = subst (λ (i : ℕ). Goes (IsOwn {N = N} h) (OfNode i) (a.lives i) (b.lives i)) (sym e) f.lives
  lives_go m f k (inr d) = goes_same (IsOwn {N = N} h) (OfNode k) (a.lives k) (b.lives k) (m.lives k d)

  shelf_goes : Move → Fate → (k : ℕ) → (k ≡ key) ⊎ (k ≢ key) → ShelfGoes {N = N} (IsOwn {N = N} h) (a.shelf k) (b.shelf k)
  shelf_goes m f k (inl e) = subst (λ (i : ℕ). ShelfGoes {N = N} (IsOwn {N = N} h) (a.shelf i) (b.shelf i)) (sym e) f.shelf
  shelf_goes m f k (inr d) = shelf_same {N = N} (IsOwn {N = N} h) (a.shelf k) (b.shelf k) (m.shelf k d)

  follows : Move → Fate → Follows nodes t (IsOwn {N = N} h) a b
  follows m f = record {
    trees = λ i. trees_go m f i (same_or_not i tree);
    lives = λ k. lives_go m f k (same_or_not k key);
    shelf = λ k. shelf_goes m f k (same_or_not k key);
  }

  back : Move → Fate → (k : ℕ) (x : Held N) → b.shelf k ≡ Some x → (k ≡ key) ⊎ (k ≢ key)
      → (old : Held N) × (a.shelf k ≡ Some old) × (x.parent ≡ old.parent)
  back m f k x e (inl same) =
      let r = f.back x (ap b.shelf (sym same) ∙ e) in
      (r.0, ap a.shelf same ∙ r.1, r.2)
  back m f k x e (inr d) = (x, sym (m.shelf k d) ∙ e, refl)

  matched : Move → Fate → Linked nodes t a → (k : ℕ) → (k ≡ key) ⊎ (k ≢ key) → MatchesIn nodes t b k (b.lives k) (b.shelf k)
  matched m f l k (inl e) =
      subst (λ (i : ℕ). MatchesIn nodes t b i (b.lives i) (b.shelf i)) (sym e) (f.matches (follows m f))
  matched m f l k (inr d) =
      matches_still nodes t (IsOwn {N = N} h) a b (follows m f) l k (m.lives k d) (m.shelf k d)
      (λ x e. not_own nodes t a b key h l f.held k d x e) (key_own f k) (m.queue k d) (m.leaves k d)

  tree_held : Move → Fate → Linked nodes t a → (i : ℕ) (top : Flying) → b.tops i ≡ Some top → (i ≡ tree) ⊎ (i ≢ tree)
      → ChildrenHeld {N = N} b.shelf (OfTree i) top.stack.children
  tree_held m f l i top e (inl same) =
      let is : heard_as q n seat slot c ≡ top = some_is (heard_as q n seat slot c) top
      (sym m.tops.there ∙ ap b.tops (sym same) ∙ e) in
      subst (λ (j : ℕ). ChildrenHeld {N = N} b.shelf (OfTree j) top.stack.children) (sym same)
      (subst (λ (y : Flying). ChildrenHeld {N = N} b.shelf (OfTree tree) y.stack.children) is
      (children_heard nodes t a b key h (OfTree tree) q.stack.children n c (follows m f) (number_own f) f.there
      (l.trees tree q m.flies)))
  tree_held m f l i top e (inr d) =
      children_go nodes t (IsOwn {N = N} h) a b (follows m f) (OfTree i) (tree_own f i d) top.stack.children
      (l.trees i top (sym (m.tops.others i d) ∙ e))

  pub tree_hears : Move → Fate → Linked nodes t a → Linked nodes t b
  tree_hears m f l = record {
    each = λ k. matched m f l k (same_or_not k key);
    trees = λ i top e. tree_held m f l i top e (same_or_not i tree);
    apart = apart_still nodes t (IsOwn {N = N} h) a b (λ k x e. back m f k x e (same_or_not k key)) l;
  }
