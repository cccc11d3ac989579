-- The nodes under keys, where a node or a tree hears of a child.
use Rattle.std.proofs.Common.{◌≡◌, ◌≢◌, ℕ, List, slice_get, slice_set, Bool, false, Some, ◌⊎◌, inl, inr, refl, sym, ap, ◌∙◌, subst}
use Rattle.zio_counts.specs.Tallies.{Tally}
use Rattle.zio_gang.specs.Attempts.{Terms}
use Rattle.zio_frames.specs.Frames.{Child, Flying, Seat}
use Rattle.zio_frames.specs.Slots.{Slot}
use Rattle.zio_frames.proofs.GetLemmas.{get_exchanged, get_other, same_or_not}
use Rattle.zio_turns.specs.Engine.{ChildrenHeld, HasParent, IsHeldFor, Rests}
use Rattle.zio_staged.specs.Entries.{CountsAre, Held, OfNode, OfTree, Parent, heard_as, times_in, with_both}
use Rattle.zio_staged.specs.Parts.{Nodes}
use Rattle.zio_turns.proofs.Links.{Follows, Goes, HeldIn, Keeps, Linked, MatchesIn, ShelfGoes, World, apart_still, children_go, goes_kept, goes_same, held_goes, held_there, matches_held, matches_still, parent_goes, shelf_kept, shelf_same, some_is}
use Rattle.zio_turns.proofs.Seated.{keeps_with, place_set}

pub keeps_heard : (q : Flying) (n : ℕ) (seat : Seat) (slot : Slot) (c : Child) (m : ℕ) → m ≢ n
    → Keeps q (heard_as q n seat slot c) m
keeps_heard q n seat slot c m d =
    keeps_with q.at q.stack (heard_as q n seat slot c).stack m (λ i x e goes. place_set q.at q.stack seat slot x.seat)
    (λ x e goes. get_other q.stack.children n m c d ∙ e)

-- the child that is heard of
abbrev pub IsOwn : {N : Type 0} → Held N → Parent → Type 0
IsOwn {N} h p = p ≡ h.parent

-- what became of the child, under its key
pub record ChildMoves {N : Type 0} (nodes : Nodes N) (t : Terms) (a b : World N) (key : ℕ) (h : Held N) (parent : Parent)
    (c : Child) : Type 0 where
  pub held : a.shelf key ≡ Some h
  pub parent_is : h.parent ≡ parent
  pub lives : Goes (IsOwn {N = N} h) (OfNode key) (a.lives key) (b.lives key)
  pub shelf : ShelfGoes {N = N} (IsOwn {N = N} h) (a.shelf key) (b.shelf key)
  pub back : (g : Held N) → b.shelf key ≡ Some g → (old : Held N) × (a.shelf key ≡ Some old) × (g.parent ≡ old.parent)
  pub matches : Follows nodes t (IsOwn {N = N} h) a b → MatchesIn nodes t b key (b.lives key) (b.shelf key)
  pub there : c.ended ≡ false → IsHeldFor {N = N} b.shelf parent

module _ {N : Type 0} (nodes : Nodes N) (t : Terms) (a b : World N) (key : ℕ) (h : Held N) where
  -- its children are held, those that it heard of too
  pub children_heard : (parent : ℕ → Parent) (cs : List Child) (n : ℕ) (c : Child) → Follows nodes t (IsOwn {N = N} h) a b
      → ((m : ℕ) → m ≢ n → IsOwn {N = N} h (parent m) → ⊥) → (c.ended ≡ false → IsHeldFor {N = N} b.shelf (parent n))
      → ChildrenHeld {N = N} a.shelf parent cs → ChildrenHeld {N = N} b.shelf parent (slice_set cs n c)
  children_heard parent cs n c f own there was = λ m d e goes. by m d goes (get_exchanged cs n m c d e)
    where
      by : (m : ℕ) (d : Child) → d.ended ≡ false → ((m ≡ n) × (c ≡ d)) ⊎ ((m ≢ n) × (slice_get cs m ≡ Some d))
          → IsHeldFor {N = N} b.shelf (parent m)
      by m d goes (inl e) = subst (λ (i : ℕ). IsHeldFor {N = N} b.shelf (parent i)) (sym e.0)
          (there (ap (λ (x : Child). x.ended) e.1 ∙ goes))
      by m d goes (inr e) = held_goes nodes t (IsOwn {N = N} h) a b f (parent m) (own m e.0) (was m d e.1 goes)

  -- another one isn't that child
  pub not_own : (l : Linked nodes t a) → a.shelf key ≡ Some h → (k : ℕ) → k ≢ key → (g : Held N) → a.shelf k ≡ Some g
      → IsOwn {N = N} h g.parent → ⊥
  not_own l held k n g e own = n (l.apart k key g h e held own)

-- ---- a node hears

pub record NodeHears {N : Type 0} (a b : World N) (key above : ℕ) (q : Flying) (g : Held N) (n : ℕ) (seat : Seat) (slot : Slot)
    (c : Child)
    (node : N) (tally : Tally) : Type 0 where
  pub flies : a.lives above ≡ Some q
  pub held : a.shelf above ≡ Some g
  pub other : above ≢ key
  pub tops : (i : ℕ) → b.tops i ≡ a.tops i
  pub flies_now : b.lives above ≡ Some (heard_as q n seat slot c)
  pub held_now : b.shelf above ≡ Some (with_both {N = N} g node tally)
  pub lives : (k : ℕ) → k ≢ key → k ≢ above → b.lives k ≡ a.lives k
  pub shelf : (k : ℕ) → k ≢ key → k ≢ above → b.shelf k ≡ a.shelf k
  pub queue : (k : ℕ) → k ≢ key → k ≢ above → times_in k b.queue ≡ times_in k a.queue
  pub leaves : (k : ℕ) → k ≢ key → k ≢ above → times_in k b.leaves ≡ times_in k a.leaves

module _ {N : Type 0} (nodes : Nodes N) (t : Terms) (a b : World N) (key above : ℕ) (h : Held N) (q : Flying) (g : Held N)
    (n : ℕ) (seat : Seat)
    (slot : Slot) (c : Child) (node : N) (tally : Tally) where
  abbrev Move : Type 0
  Move = NodeHears {N = N} a b key above q g n seat slot c node tally

  abbrev Fate : Type 0
  Fate = ChildMoves {N = N} nodes t a b key h (OfNode above n) c

  abbrev Which : ℕ → Type 0
  Which k = (k ≡ key) ⊎ (k ≡ above) ⊎ ((k ≢ key) × (k ≢ above))

  which : (k : ℕ) → Which k
  which k = by (same_or_not k key) (same_or_not k above)
    where
      by : (k ≡ key) ⊎ (k ≢ key) → (k ≡ above) ⊎ (k ≢ above) → Which k
      by (inl e) r = inl e
      by (inr d) (inl e) = inr (inl e)
      by (inr d) (inr m) = inr (inr (d, m))

  number_own : Fate → (m : ℕ) → m ≢ n → IsOwn {N = N} h (OfNode above m) → ⊥
  number_own f m d own = d (number_of (own ∙ f.parent_is))
    where
      number_of : OfNode above m ≡ OfNode above n → m ≡ n
      number_of e = cc

  key_own : Fate → (k : ℕ) → k ≢ above → (i : ℕ) → IsOwn {N = N} h (OfNode k i) → ⊥
  key_own f k d i own = d (key_of (own ∙ f.parent_is))
    where
      key_of : OfNode k i ≡ OfNode above n → k ≡ above
      key_of e = cc

  tree_own : Fate → (m i : ℕ) → IsOwn {N = N} h (OfTree m i) → ⊥
  tree_own f m i own = clash (own ∙ f.parent_is)
    where
      clash : OfTree m i ≡ OfNode above n → ⊥
      clash e = cc

  lives_go : Move → Fate → (k : ℕ) → Which k → Goes (IsOwn {N = N} h) (OfNode k) (a.lives k) (b.lives k)
  lives_go m f k (inl e) = subst (λ (i : ℕ). Goes (IsOwn {N = N} h) (OfNode i) (a.lives i) (b.lives i)) (sym e) f.lives
  lives_go m f k (inr (inl e)) =
      subst (λ (i : ℕ). Goes (IsOwn {N = N} h) (OfNode i) (a.lives i) (b.lives i)) (sym e)
      (goes_kept (IsOwn {N = N} h) (OfNode above) (a.lives above) (b.lives above) q
      (heard_as q n seat slot c) m.flies m.flies_now
      (λ i ex. keeps_heard q n seat slot c i (λ same. ex (ap (OfNode above) same ∙ sym f.parent_is))))
  lives_go m f k (inr (inr d)) = goes_same (IsOwn {N = N} h) (OfNode k) (a.lives k) (b.lives k) (m.lives k d.0 d.1)

  shelf_goes : Move → Fate → (k : ℕ) → Which k → ShelfGoes {N = N} (IsOwn {N = N} h) (a.shelf k) (b.shelf k)
  shelf_goes m f k (inl e) = subst (λ (i : ℕ). ShelfGoes {N = N} (IsOwn {N = N} h) (a.shelf i) (b.shelf i)) (sym e) f.shelf
  shelf_goes m f k (inr (inl e)) =
      subst (λ (i : ℕ). ShelfGoes {N = N} (IsOwn {N = N} h) (a.shelf i) (b.shelf i)) (sym e)
      (shelf_kept {N = N} (IsOwn {N = N} h) (a.shelf above) (b.shelf above) g
      (with_both {N = N} g node tally) m.held m.held_now refl)
  shelf_goes m f k (inr (inr d)) = shelf_same {N = N} (IsOwn {N = N} h) (a.shelf k) (b.shelf k) (m.shelf k d.0 d.1)

  follows : Move → Fate → Follows nodes t (IsOwn {N = N} h) a b
  follows m f = record {
    trees = λ i. goes_same (IsOwn {N = N} h) (OfTree i) (a.tops i) (b.tops i) (m.tops i);
    lives = λ k. lives_go m f k (which k);
    shelf = λ k. shelf_goes m f k (which k);
  }

  back : Move → Fate → (k : ℕ) (x : Held N) → b.shelf k ≡ Some x → Which k
      → (old : Held N) × (a.shelf k ≡ Some old) × (x.parent ≡ old.parent)
  back m f k x e (inl same) =
      let r = f.back x (ap b.shelf (sym same) ∙ e) in
      (r.0, ap a.shelf same ∙ r.1, r.2)
  back m f k x e (inr (inl same)) =
      let is : with_both {N = N} g node tally ≡ x = some_is (with_both {N = N} g node tally) x
      (sym m.held_now ∙ ap b.shelf (sym same) ∙ e) in
      (g, ap a.shelf same ∙ m.held, ap (λ (o : Held N). o.parent) (sym is))
  back m f k x e (inr (inr d)) = (x, sym (m.shelf k d.0 d.1) ∙ e, refl)

  now_held : Move → Fate → Linked nodes t a → nodes.told node ≡ nodes.told g.node
      → nodes.Is t node (heard_as q n seat slot c).stack
      → CountsAre tally (slice_set q.stack.children n c)
      → Rests {N = N} nodes.due (times_in above b.queue) (times_in above b.leaves) (heard_as q n seat slot c).stack
      (with_both {N = N} g node tally)
      → HeldIn nodes t b above (heard_as q n seat slot c) (with_both {N = N} g node tally)
  now_held m f l told is counts rests =
      let was : HeldIn nodes t a above q g = held_there nodes t a above q g l m.flies m.held in
      record {
        is = is;
        parent = subst (λ (w : Bool). HasParent b.tops b.lives g.kind w q.at g.parent) (sym told)
            (parent_goes nodes t (IsOwn {N = N} h) a b (follows m f) g.kind (nodes.told g.node) q.at g.parent
            (not_own nodes t a b key h l f.held above m.other g m.held) was.parent);
        children = children_heard nodes t a b key h (OfNode above) q.stack.children n c (follows m f)
            (number_own f) f.there was.children;
        counts = counts;
        rests = rests;
      }

  matched : Move → Fate → Linked nodes t a → HeldIn nodes t b above (heard_as q n seat slot c) (with_both {N = N} g node tally)
      → (k : ℕ) → Which k → MatchesIn nodes t b k (b.lives k) (b.shelf k)
  matched m f l now k (inl e) =
      subst (λ (i : ℕ). MatchesIn nodes t b i (b.lives i) (b.shelf i)) (sym e) (f.matches (follows m f))
  matched m f l now k (inr (inl e)) =
      subst (λ (i : ℕ). MatchesIn nodes t b i (b.lives i) (b.shelf i)) (sym e)
      (matches_held nodes t b above (heard_as q n seat slot c) (with_both {N = N} g node tally) m.flies_now m.held_now now)
  matched m f l now k (inr (inr d)) =
      matches_still nodes t (IsOwn {N = N} h) a b (follows m f) l k (m.lives k d.0 d.1) (m.shelf k d.0 d.1)
      (λ x e. not_own nodes t a b key h l f.held k d.0 x e) (key_own f k d.1) (m.queue k d.0 d.1) (m.leaves k d.0 d.1)

  pub node_hears : Move → Fate → nodes.told node ≡ nodes.told g.node → nodes.Is t node (heard_as q n seat slot c).stack
      → CountsAre tally (slice_set q.stack.children n c)
      → Rests {N = N} nodes.due (times_in above b.queue) (times_in above b.leaves) (heard_as q n seat slot c).stack
      (with_both {N = N} g node tally)
      → Linked nodes t a → Linked nodes t b
  node_hears m f told is counts rests l =
      let now : HeldIn nodes t b above (heard_as q n seat slot c)
      (with_both {N = N} g node tally) = now_held m f l told is counts rests in
      record {
        each = λ k. matched m f l now k (which k);
        trees = λ i top e.
            children_go nodes t (IsOwn {N = N} h) a b (follows m f) (OfTree i) (tree_own f i) top.stack.children
            (l.trees i top (sym (m.tops i) ∙ e));
        apart = apart_still nodes t (IsOwn {N = N} h) a b (λ k x e. back m f k x e (which k)) l;
      }
