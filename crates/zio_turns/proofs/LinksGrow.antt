-- The nodes under keys, where a node does some of its part itself, and hands out an operation.
use Rattle.std.proofs.Common.{◌≡◌, ◌≢◌, ℕ, ◌<◌, List, length, Bool, false, Some, None, ◌⊎◌, inl, inr, refl, sym, ap, ◌∙◌, subst}
use Rattle.zio_types.specs.declared.request.Phase.TheVariants.{Ready}
use Rattle.zio_counts.specs.Tallies.{count_end, counted}
use Rattle.zio_gang.specs.Attempts.{Terms}
use Rattle.zio_trace.specs.Tasks.{Task}
use Rattle.zio_frames.specs.Frames.{Child, Flying, Stack, fresh_stack, kind_of_task, needs_none}
use Rattle.zio_frames.specs.Moves.{child_for, handed, next_seat}
use Rattle.zio_frames.proofs.GetLemmas.{same_or_not}
use Rattle.zio_turns.specs.Engine.{ChildrenHeld, HasParent, IsHeldFor, Queued}
use Rattle.zio_staged.specs.Entries.{AreWith, CountsAre, Held, OfNode, OfTree, OneMore, grown, handed_on, new_flying, new_held, times_in, with_stack}
use Rattle.zio_staged.specs.Parts.{Nodes}
use Rattle.zio_turns.proofs.Counts.{counts_raised, stall_raised}
use Rattle.zio_turns.proofs.Links.{Follows, Goes, HeldIn, Keeps, Linked, MatchesIn, ShelfGoes, World, children_go, free_there, goes_kept, goes_new, goes_same, held_there, matches_held, matches_still, parent_goes, shelf_kept, shelf_new, shelf_same, some_is}
use Rattle.zio_turns.proofs.LinksMove.{NoParent}
use Rattle.zio_turns.proofs.LinksNew.{apart_more, children_more, does_new, keeps_handed, new_matches, none_yet}
use Rattle.zio_turns.proofs.Queues.{more_other}

-- ---- a node

pub record NodeGrows {N : Type 0} (a b : World N) (key child : ℕ) (x : Flying) (mid : Stack) (op : Task) (h : Held N)
    (node c : N) : Type 0 where
  pub flies : a.lives key ≡ Some x
  pub held : a.shelf key ≡ Some h
  pub free : a.shelf child ≡ None
  pub other : child ≢ key
  pub children : mid.children ≡ x.stack.children
  pub keeps : (n : ℕ) → Keeps x (with_stack x mid) n
  pub tops : (n : ℕ) → b.tops n ≡ a.tops n
  pub lives : AreWith a.lives key (Some (handed_on (with_stack x mid) op)) child
      (Some (new_flying (with_stack x mid) op)) b.lives
  pub shelf : AreWith a.shelf key (Some (grown {N = N} h node op)) child
      (Some (new_held {N = N} c op (OfNode key (length mid.children)))) b.shelf
  pub queue : OneMore child a.queue b.queue
  pub leaves : b.leaves ≡ a.leaves

-- one of two, or neither
one_of : (k key child : ℕ) → (k ≡ key) ⊎ (k ≡ child) ⊎ ((k ≢ key) × (k ≢ child))
one_of k key child = by (same_or_not k key) (same_or_not k child)
  where
    by : (k ≡ key) ⊎ (k ≢ key) → (k ≡ child) ⊎ (k ≢ child) → (k ≡ key) ⊎ (k ≡ child) ⊎ ((k ≢ key) × (k ≢ child))
    by (inl e) r = inl e
    by (inr n) (inl e) = inr (inl e)
    by (inr n) (inr m) = inr (inr (n, m))

module _ {N : Type 0} (nodes : Nodes N) (t : Terms) (a b : World N) (key child : ℕ) (x : Flying) (mid : Stack) (op : Task)
    (h : Held N) (node c : N) where
  abbrev Move : Type 0
  Move = NodeGrows {N = N} a b key child x mid op h node c

  -- as far as it came itself
  abbrev here_now : Flying
  here_now = with_stack x mid

  lives_go : Move → Linked nodes t a → (k : ℕ) → (k ≡ key) ⊎ (k ≡ child) ⊎ ((k ≢ key) × (k ≢ child))
      → Goes NoParent (OfNode k) (a.lives k) (b.lives k)
  lives_go m l k (inl e) =
      subst (λ (n : ℕ). Goes NoParent (OfNode n) (a.lives n) (b.lives n)) (sym e)
      (goes_kept NoParent (OfNode key) (a.lives key) (b.lives key) x (handed_on here_now op) m.flies m.lives.there
      (λ n ex kind told at d. keeps_handed here_now op n kind told at (m.keeps n kind told at d)))
  lives_go m l k (inr (inl e)) =
      subst (λ (n : ℕ). Goes NoParent (OfNode n) (a.lives n) (b.lives n)) (sym e)
      (goes_new NoParent (OfNode child) (a.lives child) (b.lives child) (free_there nodes t a child l m.free).0)
  lives_go m l k (inr (inr n)) = goes_same NoParent (OfNode k) (a.lives k) (b.lives k) (m.lives.others k n.0 n.1)

  shelf_goes : Move → (k : ℕ) → (k ≡ key) ⊎ (k ≡ child) ⊎ ((k ≢ key) × (k ≢ child)) → ShelfGoes {N = N} NoParent (a.shelf k)
      (b.shelf k)
  shelf_goes m k (inl e) =
      subst (λ (n : ℕ). ShelfGoes {N = N} NoParent (a.shelf n) (b.shelf n)) (sym e)
      (shelf_kept {N = N} NoParent (a.shelf key) (b.shelf key) h (grown {N = N} h node op) m.held m.shelf.there refl)
  shelf_goes m k (inr (inl e)) =
      subst (λ (n : ℕ). ShelfGoes {N = N} NoParent (a.shelf n) (b.shelf n)) (sym e)
      (shelf_new {N = N} NoParent (a.shelf child) (b.shelf child) m.free)
  shelf_goes m k (inr (inr n)) = shelf_same {N = N} NoParent (a.shelf k) (b.shelf k) (m.shelf.others k n.0 n.1)

  follows : Move → Linked nodes t a → Follows nodes t NoParent a b
  follows m l = record {
    trees = λ n. goes_same NoParent (OfTree n) (a.tops n) (b.tops n) (m.tops n);
    lives = λ k. lives_go m l k (one_of k key child);
    shelf = λ k. shelf_goes m k (one_of k key child);
  }

  back : Move → (k : ℕ) (g : Held N) → b.shelf k ≡ Some g → (k ≡ key) ⊎ (k ≡ child) ⊎ ((k ≢ key) × (k ≢ child))
      → (k ≡ child) ⊎ ((old : Held N) × (a.shelf k ≡ Some old) × (g.parent ≡ old.parent))
  back m k g e (inl same) =
      let f : b.shelf key ≡ Some g = ap b.shelf (sym same) ∙ e in
      let is : grown {N = N} h node op ≡ g = some_is (grown {N = N} h node op) g (sym m.shelf.there ∙ f) in
      inr (h, ap a.shelf same ∙ m.held, ap (λ (o : Held N). o.parent) (sym is))
  back m k g e (inr (inl same)) = inl same
  back m k g e (inr (inr n)) = inr (g, sym (m.shelf.others k n.0 n.1) ∙ e, refl)

  new_there : Move → IsHeldFor {N = N} b.shelf (OfNode key (length mid.children))
  new_there m = record {
    key = child;
    held = new_held {N = N} c op
        (OfNode key (length mid.children));
    there = m.shelf.also;
    parent_is = refl;
  }

  grown_held : Move → Linked nodes t a → nodes.told node ≡ nodes.told h.node → nodes.Is t node (handed mid op)
      → counted (kind_of_task op) Ready h.tally < count_end → times_in key a.queue ≡ 1 → times_in key a.leaves ≡ 0
      → h.tally.stall ≡ None → nodes.due node
      → HeldIn nodes t a key x h → HeldIn nodes t b key (handed_on here_now op) (grown {N = N} h node op)
  grown_held m l told is room q e stall due was = record {
    is = is;
    parent = subst (λ (w : Bool). HasParent b.tops b.lives h.kind w x.at h.parent) (sym told)
        (parent_goes nodes t NoParent a b (follows m l) h.kind (nodes.told h.node) x.at h.parent (λ no. no) was.parent);
    children = children_more nodes t a b (OfNode key) mid.children (child_for (next_seat mid) op) (follows m l)
        (new_there m)
        (subst (λ (cs : List Child). ChildrenHeld {N = N} a.shelf (OfNode key) cs) (sym m.children) was.children);
    counts = counts_raised h.tally mid.children (next_seat mid) (kind_of_task op) room
        (subst (λ (cs : List Child). CountsAre h.tally cs) (sym m.children) was.counts);
    rests = Queued (more_other child key a.queue b.queue m.queue (λ s. m.other (sym s)) ∙ q)
        (ap (times_in key) m.leaves ∙ e) (stall_raised (kind_of_task op) h.tally ∙ stall) due;
  }

  child_held : Move → Linked nodes t a → nodes.Is t c (fresh_stack op)
      → (needs_none (kind_of_task op) ≡ false → nodes.told c ≡ false) → nodes.due c
      → HeldIn nodes t b child (new_flying here_now op) (new_held {N = N} c op (OfNode key (length mid.children)))
  child_held m l is told due =
      let f = free_there nodes t a child l m.free in
      new_matches nodes t a b child (new_flying here_now op).at op c (OfNode key (length mid.children)) is
      (record { above = handed_on here_now op; is = m.lives.there; for = does_new here_now op (nodes.told c) told }) due f.1 f.2 m.queue m.leaves

  matched : Move → Linked nodes t a → HeldIn nodes t b key (handed_on here_now op) (grown {N = N} h node op)
      → HeldIn nodes t b child (new_flying here_now op) (new_held {N = N} c op (OfNode key (length mid.children)))
      → (k : ℕ) → (k ≡ key) ⊎ (k ≡ child) ⊎ ((k ≢ key) × (k ≢ child)) → MatchesIn nodes t b k (b.lives k) (b.shelf k)
  matched m l here there k (inl e) =
      subst (λ (n : ℕ). MatchesIn nodes t b n (b.lives n) (b.shelf n)) (sym e)
      (matches_held nodes t b key (handed_on here_now op) (grown {N = N} h node op) m.lives.there m.shelf.there here)
  matched m l here there k (inr (inl e)) =
      subst (λ (n : ℕ). MatchesIn nodes t b n (b.lives n) (b.shelf n)) (sym e)
      (matches_held nodes t b child (new_flying here_now op)
      (new_held {N = N} c op (OfNode key (length mid.children))) m.lives.also m.shelf.also there)
  matched m l here there k (inr (inr n)) =
      matches_still nodes t NoParent a b (follows m l) l k (m.lives.others k n.0 n.1) (m.shelf.others k n.0 n.1) (λ g e no. no)
      (λ i no. no)
      (more_other child k a.queue b.queue m.queue n.1) (ap (times_in k) m.leaves)

  pub node_grows : Move → nodes.told node ≡ nodes.told h.node → nodes.Is t node (handed mid op)
      → counted (kind_of_task op) Ready h.tally < count_end → times_in key a.queue ≡ 1 → times_in key a.leaves ≡ 0
      → h.tally.stall ≡ None → nodes.due node
      → nodes.Is t c (fresh_stack op) → (needs_none (kind_of_task op) ≡ false → nodes.told c ≡ false) → nodes.due c
      → Linked nodes t a → Linked nodes t b
  node_grows m told is room q e stall due is_new told_new due_new l =
      let was : HeldIn nodes t a key x h = held_there nodes t a key x h l m.flies m.held in
      let here : HeldIn nodes t b key (handed_on here_now op) (grown {N = N} h node op) = grown_held m l told is room q e stall due was in
      let there : HeldIn nodes t b child (new_flying here_now op) (new_held {N = N} c op (OfNode key (length mid.children)))
      = child_held m l is_new told_new due_new in
      record {
        each = λ k. matched m l here there k (one_of k key child);
        trees = λ n top f.
            children_go nodes t NoParent a b (follows m l) (OfTree n) (λ i no. no) top.stack.children
            (l.trees n top (sym (m.tops n) ∙ f));
        apart = apart_more nodes t a b child (new_held {N = N} c op (OfNode key (length mid.children))) m.shelf.also
            (λ k g f. back m k g f (one_of k key child))
            (none_yet nodes t a b (OfNode key (length mid.children)) x l m.flies (ap (λ (cs : List Child). length cs) m.children)) l;
      }
