-- The nodes under keys, where a tree hands out an operation.
use Rattle.std.proofs.Common.{◌≡◌, ◌≢◌, ℕ, length, false, Some, None, ◌⊎◌, inl, inr, refl, sym, ap, ◌∙◌, subst}
use Rattle.zio_gang.specs.Attempts.{Terms}
use Rattle.zio_trace.specs.Tasks.{Task}
use Rattle.zio_frames.specs.Frames.{Flying, fresh_stack, kind_of_task, needs_none}
use Rattle.zio_frames.specs.Moves.{child_for, next_seat}
use Rattle.zio_frames.proofs.GetLemmas.{same_or_not}
use Rattle.zio_turns.specs.Engine.{ChildrenHeld, IsHeldFor}
use Rattle.zio_staged.specs.Entries.{Held, IsWith, OfNode, OfTree, OneMore, handed_on, new_flying, new_held, times_in}
use Rattle.zio_staged.specs.Parts.{Nodes}
use Rattle.zio_turns.proofs.Links.{Follows, Goes, HeldIn, Linked, MatchesIn, ShelfGoes, World, children_go, free_there, goes_kept, goes_new, goes_same, matches_held, matches_still, shelf_new, shelf_same, some_is}
use Rattle.zio_turns.proofs.LinksMove.{NoParent}
use Rattle.zio_turns.proofs.LinksNew.{apart_more, children_more, does_new, keeps_handed, new_matches, none_yet}
use Rattle.zio_turns.proofs.Queues.{more_other}

pub record TreeGrows {N : Type 0} (a b : World N) (tree child : ℕ) (x : Flying) (op : Task) (c : N) : Type 0 where
  pub flies : a.tops tree ≡ Some x
  pub free : a.shelf child ≡ None
  pub tops : IsWith a.tops tree (Some (handed_on x op)) b.tops
  pub lives : IsWith a.lives child (Some (new_flying x op)) b.lives
  pub shelf : IsWith a.shelf child (Some (new_held {N = N} c op (OfTree tree (length x.stack.children)))) b.shelf
  pub queue : OneMore child a.queue b.queue
  pub leaves : b.leaves ≡ a.leaves

module _ {N : Type 0} (nodes : Nodes N) (t : Terms) (a b : World N) (tree child : ℕ) (x : Flying) (op : Task) (c : N) where
  abbrev Move : Type 0
  Move = TreeGrows {N = N} a b tree child x op c

  trees_go : Move → (n : ℕ) → (n ≡ tree) ⊎ (n ≢ tree) → Goes NoParent (OfTree n) (a.tops n) (b.tops n)
  trees_go m n (inl e) =
      subst (λ (i : ℕ). Goes NoParent (OfTree i) (a.tops i) (b.tops i)) (sym e)
      (goes_kept NoParent (OfTree tree) (a.tops tree) (b.tops tree) x (handed_on x op) m.flies m.tops.there
      (λ i ex. keeps_handed x op i))
  trees_go m n (inr d) = goes_same NoParent (OfTree n) (a.tops n) (b.tops n) (m.tops.others n d)

  lives_go : Move → Linked nodes t a → (k : ℕ) → (k ≡ child) ⊎ (k ≢ child) → Goes NoParent (OfNode k) (a.lives k) (b.lives k)
  lives_go m l k (inl e) =
      subst (λ (n : ℕ). Goes NoParent (OfNode n) (a.lives n) (b.lives n)) (sym e)
      (goes_new NoParent (OfNode child) (a.lives child) (b.lives child) (free_there nodes t a child l m.free).0)
  lives_go m l k (inr n) = goes_same NoParent (OfNode k) (a.lives k) (b.lives k) (m.lives.others k n)

  shelf_goes : Move → (k : ℕ) → (k ≡ child) ⊎ (k ≢ child) → ShelfGoes {N = N} NoParent (a.shelf k) (b.shelf k)
  shelf_goes m k (inl e) =
      subst (λ (n : ℕ). ShelfGoes {N = N} NoParent (a.shelf n) (b.shelf n)) (sym e)
      (shelf_new {N = N} NoParent (a.shelf child) (b.shelf child) m.free)
  shelf_goes m k (inr n) = shelf_same {N = N} NoParent (a.shelf k) (b.shelf k) (m.shelf.others k n)

  follows : Move → Linked nodes t a → Follows nodes t NoParent a b
  follows m l = record {
    trees = λ n. trees_go m n (same_or_not n tree);
    lives = λ k. lives_go m l k (same_or_not k child);
    shelf = λ k. shelf_goes m k (same_or_not k child);
  }

  back : Move → (k : ℕ) (g : Held N) → b.shelf k ≡ Some g → (k ≡ child) ⊎ (k ≢ child)
      → (k ≡ child) ⊎ ((old : Held N) × (a.shelf k ≡ Some old) × (g.parent ≡ old.parent))
  back m k g e (inl same) = inl same
  back m k g e (inr n) = inr (g, sym (m.shelf.others k n) ∙ e, refl)

  new_there : Move → IsHeldFor {N = N} b.shelf (OfTree tree (length x.stack.children))
  new_there m = record {
    key = child;
    held = new_held {N = N} c op
        (OfTree tree (length x.stack.children));
    there = m.shelf.there;
    parent_is = refl;
  }

  child_held : Move → Linked nodes t a → nodes.Is t c (fresh_stack op)
      → (needs_none (kind_of_task op) ≡ false → nodes.told c ≡ false) → nodes.due c
      → HeldIn nodes t b child (new_flying x op) (new_held {N = N} c op (OfTree tree (length x.stack.children)))
  child_held m l is told due =
      let f = free_there nodes t a child l m.free in
      new_matches nodes t a b child (new_flying x op).at op c (OfTree tree (length x.stack.children)) is
      (record { above = handed_on x op; is = m.tops.there; for = does_new x op (nodes.told c) told }) due f.1 f.2 m.queue m.leaves

  matched : Move → Linked nodes t a
      → HeldIn nodes t b child (new_flying x op) (new_held {N = N} c op (OfTree tree (length x.stack.children)))
      → (k : ℕ) → (k ≡ child) ⊎ (k ≢ child) → MatchesIn nodes t b k (b.lives k) (b.shelf k)
  matched m l there k (inl e) =
      subst (λ (n : ℕ). MatchesIn nodes t b n (b.lives n) (b.shelf n)) (sym e)
      (matches_held nodes t b child (new_flying x op)
      (new_held {N = N} c op (OfTree tree (length x.stack.children))) m.lives.there m.shelf.there there)
  matched m l there k (inr n) =
      matches_still nodes t NoParent a b (follows m l) l k (m.lives.others k n) (m.shelf.others k n) (λ g e no. no) (λ i no. no)
      (more_other child k a.queue b.queue m.queue n) (ap (times_in k) m.leaves)

  tree_held : Move → Linked nodes t a → (n : ℕ) (top : Flying) → b.tops n ≡ Some top → (n ≡ tree) ⊎ (n ≢ tree)
      → ChildrenHeld {N = N} b.shelf (OfTree n) top.stack.children
  tree_held m l n top f (inl e) =
      let is : handed_on x op ≡ top = some_is (handed_on x op) top (sym m.tops.there ∙ ap b.tops (sym e) ∙ f) in
      subst (λ (i : ℕ). ChildrenHeld {N = N} b.shelf (OfTree i) top.stack.children) (sym e)
      (subst (λ (y : Flying). ChildrenHeld {N = N} b.shelf (OfTree tree) y.stack.children) is
      (children_more nodes t a b (OfTree tree) x.stack.children (child_for (next_seat x.stack) op) (follows m l) (new_there m)
      (l.trees tree x m.flies)))
  tree_held m l n top f (inr d) =
      children_go nodes t NoParent a b (follows m l) (OfTree n) (λ i no. no) top.stack.children
      (l.trees n top (sym (m.tops.others n d) ∙ f))

  pub tree_grows : Move → nodes.Is t c (fresh_stack op) → (needs_none (kind_of_task op) ≡ false → nodes.told c ≡ false)
      → nodes.due c → Linked nodes t a → Linked nodes t b
  tree_grows m is_new told_new due l =
      let there : HeldIn nodes t b child (new_flying x op) (new_held {N = N} c op (OfTree tree (length x.stack.children)))
      = child_held m l is_new told_new due in
      record {
        each = λ k. matched m l there k (same_or_not k child);
        trees = λ n top f. tree_held m l n top f (same_or_not n tree);
        apart = apart_more nodes t a b child (new_held {N = N} c op (OfTree tree (length x.stack.children))) m.shelf.there
            (λ k g f. back m k g f (same_or_not k child))
            (none_yet nodes t a b (OfTree tree (length x.stack.children)) x l m.flies refl) l;
      }
