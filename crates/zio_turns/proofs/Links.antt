-- The nodes under keys, their parents and their children, where some of them moved.
use Rattle.std.proofs.Common.{◌≡◌, ℕ, List, Bool, Option, Some, None, refl, sym, ap, ◌∙◌, subst}
use Rattle.zio_types.specs.declared.request.ChildKind.{ChildKind}
use Rattle.zio_gang.specs.Attempts.{Terms}
use Rattle.zio_frames.specs.Frames.{Child, Flying}
use Rattle.zio_turns.specs.Engine.{AreLinked, ChildrenHeld, DoesFor, HasParent, IsHeld, IsHeldFor, Matches, Rests}
use Rattle.zio_staged.specs.Entries.{Held, OfNode, OfTree, Parent, Shelf, times_in}
use Rattle.zio_staged.specs.Parts.{Nodes}

-- what is in flight for the trees and under the keys, what is held under these, and what waits
pub record World (N : Type 0) : Type 0 where
  pub tops : ℕ → Option Flying
  pub lives : ℕ → Option Flying
  pub shelf : Shelf N
  pub queue : List ℕ
  pub leaves : List ℕ

pub some_is : {X : Type 0} (x y : X) → Some x ≡ Some y → x ≡ y
some_is x y e = cc

-- ---- parents

-- a child that did for the first does for the second
abbrev pub Keeps : Flying → Flying → ℕ → Type 0
Keeps x y n = (kind : ChildKind) (told : Bool) (at : List ℕ) → DoesFor kind told at x n → DoesFor kind told at y n

-- what is in flight where a child finds its parent, in case its parent isn't excepted
abbrev pub Goes : (Parent → Type 0) → (ℕ → Parent) → Option Flying → Option Flying → Type 0
Goes Ex parent a b = (m : ℕ) (x : Flying) → a ≡ Some x → (Ex (parent m) → ⊥) → (kind : ChildKind) (told : Bool) (at : List ℕ)
    → DoesFor kind told at x m → (y : Flying) × (b ≡ Some y) × DoesFor kind told at y m

pub goes_same : (Ex : Parent → Type 0) (parent : ℕ → Parent) (a b : Option Flying) → b ≡ a → Goes Ex parent a b
goes_same Ex parent a b e = λ m x is ex kind told at d. (x, e ∙ is, d)

pub goes_kept : (Ex : Parent → Type 0) (parent : ℕ → Parent) (a b : Option Flying) (x y : Flying) → a ≡ Some x → b ≡ Some y
    → ((m : ℕ) → (Ex (parent m) → ⊥) → Keeps x y m) → Goes Ex parent a b
goes_kept Ex parent a b x y e f k = λ m z is ex kind told at d.
    let same : z ≡ x = some_is z x (sym is ∙ e) in
    (y, f, k m ex kind told at (subst (λ (w : Flying). DoesFor kind told at w m) same d))

pub goes_new : (Ex : Parent → Type 0) (parent : ℕ → Parent) (a b : Option Flying) → a ≡ None → Goes Ex parent a b
goes_new Ex parent a b e = λ m x is ex kind told at d. absurd (clash x (sym e ∙ is))
  where
    clash : (x : Flying) → None ≡ Some x → ⊥
    clash x h = cc

pub goes_gone : (Ex : Parent → Type 0) (parent : ℕ → Parent) (a b : Option Flying) (x : Flying) → a ≡ Some x
    → ((m : ℕ) (kind : ChildKind) (told : Bool) (at : List ℕ) → DoesFor kind told at x m → ⊥) → Goes Ex parent a b
goes_gone Ex parent a b x e none = λ m z is ex kind told at d.
    let same : z ≡ x = some_is z x (sym is ∙ e) in
    absurd (none m kind told at (subst (λ (w : Flying). DoesFor kind told at w m) same d))

-- ---- what is held

-- what is held under a key has its parent there, in case that isn't excepted
abbrev pub ShelfGoes : {N : Type 0} → (Parent → Type 0) → Option (Held N) → Option (Held N) → Type 0
ShelfGoes {N = N} Ex a b = (h : Held N) → a ≡ Some h → (Ex h.parent → ⊥) → (g : Held N) × (b ≡ Some g) × (g.parent ≡ h.parent)

pub shelf_same : {N : Type 0} (Ex : Parent → Type 0) (a b : Option (Held N)) → b ≡ a → ShelfGoes {N = N} Ex a b
shelf_same Ex a b e = λ h is ex. (h, e ∙ is, refl)

pub shelf_new : {N : Type 0} (Ex : Parent → Type 0) (a b : Option (Held N)) → a ≡ None → ShelfGoes {N = N} Ex a b
shelf_new {N = N} Ex a b e = λ h is ex. absurd (clash h (sym e ∙ is))
  where
    clash : (h : Held N) → None ≡ Some h → ⊥
    clash h k = cc

pub shelf_kept : {N : Type 0} (Ex : Parent → Type 0) (a b : Option (Held N)) (h g : Held N) → a ≡ Some h → b ≡ Some g
    → g.parent ≡ h.parent → ShelfGoes {N = N} Ex a b
shelf_kept {N = N} Ex a b h g e f p = λ k is ex.
    let same : h ≡ k = some_is h k (sym e ∙ is) in
    (g, f, p ∙ ap (λ (x : Held N). x.parent) same)

pub shelf_gone : {N : Type 0} (Ex : Parent → Type 0) (a b : Option (Held N)) (h : Held N) → a ≡ Some h → Ex h.parent
    → ShelfGoes {N = N} Ex a b
shelf_gone {N = N} Ex a b h e out = λ k is ex. absurd (ex (subst (λ (x : Held N). Ex x.parent) (some_is h k (sym e ∙ is)) out))

module _ {N : Type 0} (nodes : Nodes N) (t : Terms) where
  abbrev pub Linked : World N → Type 0
  Linked w = AreLinked {N = N} nodes t w.tops w.lives w.shelf w.queue w.leaves

  abbrev pub HeldIn : World N → ℕ → Flying → Held N → Type 0
  HeldIn w key x h = IsHeld {N = N} nodes t w.tops w.lives w.shelf w.queue w.leaves key x h

  abbrev pub MatchesIn : World N → ℕ → Option Flying → Option (Held N) → Type 0
  MatchesIn w key x h = Matches {N = N} nodes t w.tops w.lives w.shelf w.queue w.leaves key x h

  -- ---- by key

  match_some : (w : World N) (key : ℕ) (x : Option Flying) (h : Option (Held N)) (y : Flying) (g : Held N) → x ≡ Some y
      → h ≡ Some g
      → HeldIn w key y g → MatchesIn w key x h
  match_some w key x h y g e f k =
      subst (λ (o : Option Flying). MatchesIn w key o h) (sym e)
      (subst (λ (o : Option (Held N)). MatchesIn w key (Some y) o) (sym f) k)

  match_none : (w : World N) (key : ℕ) (x : Option Flying) (h : Option (Held N)) → x ≡ None → h ≡ None
      → times_in key w.queue ≡ 0 → times_in key w.leaves ≡ 0 → MatchesIn w key x h
  match_none w key x h e f a b =
      subst (λ (o : Option Flying). MatchesIn w key o h) (sym e)
      (subst (λ (o : Option (Held N)). MatchesIn w key None o) (sym f) (a, b))

  pub matches_held : (w : World N) (key : ℕ) (y : Flying) (g : Held N) → w.lives key ≡ Some y → w.shelf key ≡ Some g
      → HeldIn w key y g → MatchesIn w key (w.lives key) (w.shelf key)
  matches_held w key y g e f k = match_some w key (w.lives key) (w.shelf key) y g e f k

  pub matches_free : (w : World N) (key : ℕ) → w.lives key ≡ None → w.shelf key ≡ None
      → times_in key w.queue ≡ 0 → times_in key w.leaves ≡ 0 → MatchesIn w key (w.lives key) (w.shelf key)
  matches_free w key e f a b = match_none w key (w.lives key) (w.shelf key) e f a b

  from_some : (w : World N) (key : ℕ) (x : Option Flying) (h : Option (Held N)) (y : Flying) (g : Held N) → x ≡ Some y
      → h ≡ Some g
      → MatchesIn w key x h → HeldIn w key y g
  from_some w key x h y g e f k =
      subst (λ (o : Option (Held N)). MatchesIn w key (Some y) o) f (subst (λ (o : Option Flying). MatchesIn w key o h) e k)

  -- what is in flight there and held there
  pub held_there : (w : World N) (key : ℕ) (y : Flying) (g : Held N) → Linked w → w.lives key ≡ Some y → w.shelf key ≡ Some g
      → HeldIn w key y g
  held_there w key y g l e f = from_some w key (w.lives key) (w.shelf key) y g e f (l.each key)

  from_shelf : (w : World N) (key : ℕ) (x : Option Flying) (g : Held N) → MatchesIn w key x (Some g)
      → (y : Flying) × (x ≡ Some y) × HeldIn w key y g
  from_shelf w key None g k = absurd k
  from_shelf w key (Some y) g k = (y, refl, k)

  pub in_flight_there : (w : World N) (key : ℕ) (g : Held N) → Linked w → w.shelf key ≡ Some g
      → (y : Flying) × (w.lives key ≡ Some y) × HeldIn w key y g
  in_flight_there w key g l e =
      from_shelf w key (w.lives key) g (subst (λ (o : Option (Held N)). MatchesIn w key (w.lives key) o) e (l.each key))

  from_lives : (w : World N) (key : ℕ) (y : Flying) (h : Option (Held N)) → MatchesIn w key (Some y) h
      → (g : Held N) × (h ≡ Some g) × HeldIn w key y g
  from_lives w key y None k = absurd k
  from_lives w key y (Some g) k = (g, refl, k)

  pub on_shelf_there : (w : World N) (key : ℕ) (y : Flying) → Linked w → w.lives key ≡ Some y
      → (g : Held N) × (w.shelf key ≡ Some g) × HeldIn w key y g
  on_shelf_there w key y l e =
      from_lives w key y (w.shelf key) (subst (λ (o : Option Flying). MatchesIn w key o (w.shelf key)) e (l.each key))

  from_free : (w : World N) (key : ℕ) (x : Option Flying) → MatchesIn w key x None
      → (x ≡ None) × (times_in key w.queue ≡ 0) × (times_in key w.leaves ≡ 0)
  from_free w key None k = (refl, k.0, k.1)
  from_free w key (Some y) k = absurd k

  pub free_there : (w : World N) (key : ℕ) → Linked w → w.shelf key ≡ None
      → (w.lives key ≡ None) × (times_in key w.queue ≡ 0) × (times_in key w.leaves ≡ 0)
  free_there w key l e =
      from_free w key (w.lives key) (subst (λ (o : Option (Held N)). MatchesIn w key (w.lives key) o) e (l.each key))

  -- ---- from one to the next

  module _ (Ex : Parent → Type 0) (a b : World N) where
    -- children that were held, and parents that were in flight, are still
    pub record Follows : Type 0 where
      pub trees : (n : ℕ) → Goes Ex (OfTree n) (a.tops n) (b.tops n)
      pub lives : (k : ℕ) → Goes Ex (OfNode k) (a.lives k) (b.lives k)
      pub shelf : (k : ℕ) → ShelfGoes {N = N} Ex (a.shelf k) (b.shelf k)

    pub parent_goes : Follows → (kind : ChildKind) (told : Bool) (at : List ℕ) (p : Parent) → (Ex p → ⊥)
        → HasParent a.tops a.lives kind told at p → HasParent b.tops b.lives kind told at p
    parent_goes f kind told at (OfTree n m) ex h =
        let k = f.trees n m h.above h.is ex kind told at h.for in
        record { above = k.0; is = k.1; for = k.2 }
    parent_goes f kind told at (OfNode n m) ex h =
        let k = f.lives n m h.above h.is ex kind told at h.for in
        record { above = k.0; is = k.1; for = k.2 }

    pub held_goes : Follows → (p : Parent) → (Ex p → ⊥) → IsHeldFor {N = N} a.shelf p → IsHeldFor {N = N} b.shelf p
    held_goes f p ex h =
        let k = f.shelf h.key h.held h.there (λ out. ex (subst Ex h.parent_is out)) in
        record { key = h.key; held = k.0; there = k.1; parent_is = k.2 ∙ h.parent_is }

    -- the children of one that didn't change
    pub children_go : Follows → (parent : ℕ → Parent) → ((n : ℕ) → Ex (parent n) → ⊥) → (cs : List Child)
        → ChildrenHeld {N = N} a.shelf parent cs → ChildrenHeld {N = N} b.shelf parent cs
    children_go f parent ex cs h = λ n c e g. held_goes f (parent n) (ex n) (h n c e g)

    held_goes_on : Follows → (k : ℕ) (x : Flying) (h : Held N) → (Ex h.parent → ⊥) → ((n : ℕ) → Ex (OfNode k n) → ⊥)
        → times_in k b.queue ≡ times_in k a.queue → times_in k b.leaves ≡ times_in k a.leaves → HeldIn a k x h → HeldIn b k x h
    held_goes_on f k x h ex none q e is = record {
      is = is.is;
      parent = parent_goes f h.kind (nodes.told h.node) x.at h.parent ex is.parent;
      children = children_go f (OfNode k) none x.stack.children is.children;
      counts = is.counts;
      rests = subst (λ (n : ℕ). Rests {N = N} nodes.due n (times_in k b.leaves) x.stack h) (sym q)
          (subst (λ (n : ℕ). Rests {N = N} nodes.due (times_in k a.queue) n x.stack h) (sym e) is.rests);
    }

    matched : Follows → (k : ℕ) (x : Option Flying) (h : Option (Held N))
        → ((g : Held N) → h ≡ Some g → Ex g.parent → ⊥) → ((n : ℕ) → Ex (OfNode k n) → ⊥)
        → times_in k b.queue ≡ times_in k a.queue → times_in k b.leaves ≡ times_in k a.leaves → MatchesIn a k x h
        → MatchesIn b k x h
    matched f k None None ex none q e m = (q ∙ m.0, e ∙ m.1)
    matched f k None (Some h) ex none q e m = m
    matched f k (Some x) None ex none q e m = m
    matched f k (Some x) (Some h) ex none q e m = held_goes_on f k x h (ex h refl) none q e m

    -- what didn't move itself
    pub matches_still : Follows → Linked a → (k : ℕ) → b.lives k ≡ a.lives k → b.shelf k ≡ a.shelf k
        → ((g : Held N) → a.shelf k ≡ Some g → Ex g.parent → ⊥) → ((n : ℕ) → Ex (OfNode k n) → ⊥)
        → times_in k b.queue ≡ times_in k a.queue → times_in k b.leaves ≡ times_in k a.leaves → MatchesIn b k (b.lives k)
        (b.shelf k)
    matches_still f l k p s ex none q e =
        subst (λ (o : Option Flying). MatchesIn b k o (b.shelf k)) (sym p)
        (subst (λ (o : Option (Held N)). MatchesIn b k (a.lives k) o) (sym s)
        (matched f k (a.lives k) (a.shelf k) ex none q e (l.each k)))

    -- no two have one parent and number still, where each has the parent that it had
    pub apart_still : ((k : ℕ) (g : Held N) → b.shelf k ≡ Some g → (h : Held N) × (a.shelf k ≡ Some h) × (g.parent ≡ h.parent))
        → Linked a → (k m : ℕ) (h g : Held N) → b.shelf k ≡ Some h → b.shelf m ≡ Some g → h.parent ≡ g.parent → k ≡ m
    apart_still back l k m h g e f p =
        let x = back k h e in
        let y = back m g f in
        l.apart k m x.0 y.0 x.1 y.1 (sym x.2 ∙ p ∙ y.2)
