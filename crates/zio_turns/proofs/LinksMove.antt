-- The nodes under keys, where one of them moved itself.
use Rattle.std.proofs.Common.{◌≡◌, ◌≢◌, ℕ, List, Bool, Some, ◌⊎◌, inl, inr, refl, sym, ap, ◌∙◌, subst}
use Rattle.zio_counts.specs.Tallies.{Tally}
use Rattle.zio_gang.specs.Attempts.{Terms}
use Rattle.zio_frames.specs.Frames.{Child, Flying, Stack}
use Rattle.zio_frames.proofs.GetLemmas.{same_or_not}
use Rattle.zio_turns.specs.Engine.{ChildrenHeld, HasParent, Rests}
use Rattle.zio_staged.specs.Entries.{CountsAre, Held, IsWith, OfNode, OfTree, Parent, times_in, with_both}
use Rattle.zio_staged.specs.Parts.{Nodes}
use Rattle.zio_turns.proofs.Links.{Follows, Goes, HeldIn, Keeps, Linked, MatchesIn, ShelfGoes, World, apart_still, children_go, goes_kept, goes_same, held_there, matches_held, matches_still, parent_goes, shelf_kept, shelf_same, some_is}

abbrev pub NoParent : Parent → Type 0
NoParent p = ⊥

-- only this changed
pub record OneMoves {N : Type 0} (a b : World N) (key : ℕ) (x : Flying) (st : Stack) (h : Held N) (node : N)
    (tally : Tally) : Type 0 where
  pub flies : a.lives key ≡ Some x
  pub held : a.shelf key ≡ Some h
  pub tops : (n : ℕ) → b.tops n ≡ a.tops n
  pub lives : IsWith a.lives key (Some (record { at = x.at; stack = st })) b.lives
  pub shelf : IsWith a.shelf key (Some (with_both {N = N} h node tally)) b.shelf
  pub queue : (k : ℕ) → k ≢ key → times_in k b.queue ≡ times_in k a.queue
  pub leaves : (k : ℕ) → k ≢ key → times_in k b.leaves ≡ times_in k a.leaves
  pub children : st.children ≡ x.stack.children
  pub keeps : (n : ℕ) → Keeps x (record { at = x.at; stack = st }) n

module _ {N : Type 0} (nodes : Nodes N) (t : Terms) (a b : World N) (key : ℕ) (x : Flying) (st : Stack) (h : Held N) (node : N)
    (tally : Tally) where
  lives_go : OneMoves {N = N} a b key x st h node tally → (k : ℕ) → (k ≡ key) ⊎ (k ≢ key) → Goes NoParent (OfNode k) (a.lives k)
      (b.lives k)
  lives_go m k (inl e) =
      subst (λ (n : ℕ). Goes NoParent (OfNode n) (a.lives n) (b.lives n)) (sym e)
      (goes_kept NoParent (OfNode key) (a.lives key) (b.lives key) x (record { at = x.at; stack = st }) m.flies m.lives.there
      (λ n ex. m.keeps n))
  lives_go m k (inr n) = goes_same NoParent (OfNode k) (a.lives k) (b.lives k) (m.lives.others k n)

  shelf_goes : OneMoves {N = N} a b key x st h node tally → (k : ℕ) → (k ≡ key) ⊎ (k ≢ key) → ShelfGoes {N = N} NoParent
      (a.shelf k) (b.shelf k)
  shelf_goes m k (inl e) =
      subst (λ (n : ℕ). ShelfGoes {N = N} NoParent (a.shelf n) (b.shelf n)) (sym e)
      (shelf_kept {N = N} NoParent (a.shelf key) (b.shelf key) h (with_both {N = N} h node tally) m.held m.shelf.there refl)
  shelf_goes m k (inr n) = shelf_same {N = N} NoParent (a.shelf k) (b.shelf k) (m.shelf.others k n)

  follows : OneMoves {N = N} a b key x st h node tally → Follows nodes t NoParent a b
  follows m = record {
    trees = λ n. goes_same NoParent (OfTree n) (a.tops n) (b.tops n) (m.tops n);
    lives = λ k. lives_go m k (same_or_not k key);
    shelf = λ k. shelf_goes m k (same_or_not k key);
  }

  back : OneMoves {N = N} a b key x st h node tally → (k : ℕ) (g : Held N) → b.shelf k ≡ Some g → (k ≡ key) ⊎ (k ≢ key)
      → (old : Held N) × (a.shelf k ≡ Some old) × (g.parent ≡ old.parent)
  back m k g e (inl same) =
      let f : b.shelf key ≡ Some g = ap b.shelf (sym same) ∙ e in
      let is : with_both {N = N} h node tally ≡ g = some_is (with_both {N = N} h node tally) g (sym m.shelf.there ∙ f) in
      (h, ap a.shelf same ∙ m.held, ap (λ (o : Held N). o.parent) (sym is))
  back m k g e (inr n) = (g, sym (m.shelf.others k n) ∙ e, refl)

  moved_held : OneMoves {N = N} a b key x st h node tally → nodes.told node ≡ nodes.told h.node → nodes.Is t node st
      → CountsAre tally st.children
      → Rests {N = N} nodes.due (times_in key b.queue) (times_in key b.leaves) st (with_both {N = N} h node tally)
      → HeldIn nodes t a key x h → HeldIn nodes t b key (record { at = x.at; stack = st }) (with_both {N = N} h node tally)
  moved_held m told is counts rests was = record {
    is = is;
    parent = subst (λ (w : Bool). HasParent b.tops b.lives h.kind w x.at h.parent) (sym told)
        (parent_goes nodes t NoParent a b (follows m) h.kind (nodes.told h.node) x.at h.parent (λ no. no) was.parent);
    children = subst (λ (cs : List Child). ChildrenHeld {N = N} b.shelf (OfNode key) cs) (sym m.children)
        (children_go nodes t NoParent a b (follows m) (OfNode key) (λ n no. no) x.stack.children was.children);
    counts = counts;
    rests = rests;
  }

  matched : OneMoves {N = N} a b key x st h node tally → Linked nodes t a
      → HeldIn nodes t b key (record { at = x.at; stack = st }) (with_both {N = N} h node tally)
      → (k : ℕ) → (k ≡ key) ⊎ (k ≢ key) → MatchesIn nodes t b k (b.lives k) (b.shelf k)
  matched m l now k (inl e) =
      subst (λ (n : ℕ). MatchesIn nodes t b n (b.lives n) (b.shelf n)) (sym e)
      (matches_held nodes t b key (record { at = x.at; stack = st })
      (with_both {N = N} h node tally) m.lives.there m.shelf.there now)
  matched m l now k (inr n) =
      matches_still nodes t NoParent a b (follows m) l k (m.lives.others k n) (m.shelf.others k n) (λ g e no. no) (λ i no. no)
      (m.queue k n) (m.leaves k n)

  -- it is so far now, and tells what it told
  pub one_moves : OneMoves {N = N} a b key x st h node tally → nodes.told node ≡ nodes.told h.node → nodes.Is t node st
      → CountsAre tally st.children
      → Rests {N = N} nodes.due (times_in key b.queue) (times_in key b.leaves) st (with_both {N = N} h node tally)
      → Linked nodes t a → Linked nodes t b
  one_moves m told is counts rests l =
      let was : HeldIn nodes t a key x h = held_there nodes t a key x h l m.flies m.held in
      let now : HeldIn nodes t b key (record { at = x.at; stack = st }) (with_both {N = N} h node tally)
      = moved_held m told is counts rests was in
      record {
        each = λ k. matched m l now k (same_or_not k key);
        trees = λ n top e.
            children_go nodes t NoParent a b (follows m) (OfTree n) (λ i no. no) top.stack.children
            (l.trees n top (sym (m.tops n) ∙ e));
        apart = apart_still nodes t NoParent a b (λ k g e. back m k g e (same_or_not k key)) l;
      }
