-- The nodes under keys, where a node or a tree has one more child.
use Rattle.std.proofs.Common.{◌≡◌, ℕ, ◌+◌, List, [], ◌∷◌, ◌++◌, length, slice_get, Bool, false, Some, ◌⊎◌, inl, inr, refl, sym, ap, ◌∙◌, subst, arith}
use Rattle.zio_types.specs.declared.request.ChildKind.{ChildKind}
use Rattle.zio_types.specs.declared.request.ChildKind.TheVariants.{Vdev, Gang, Logical}
use Rattle.zio_types.specs.declared.request.Phase.TheVariants.{Ready, Done}
use Rattle.zio_types.specs.Machine.{fresh}
use Rattle.zio_counts.specs.Tallies.{tally_of}
use Rattle.zio_gang.specs.Attempts.{Terms}
use Rattle.zio_trace.specs.Tasks.{Task}
use Rattle.zio_frames.specs.Frames.{Child, Flying, fresh_stack, kind_of_task, needs_none, place_of}
use Rattle.zio_frames.specs.Moves.{child_for, handed, next_seat}
use Rattle.zio_frames.proofs.GetLemmas.{get_either, get_last, get_more, get_past}
use Rattle.zio_turns.specs.Engine.{ChildrenHeld, DoesFor, HasParent, IsHeldFor, Queued, counts_as_told, parent_in}
use Rattle.zio_staged.specs.Entries.{CountsAre, Held, OneMore, Parent, handed_on, new_held, number_in, times_in}
use Rattle.zio_staged.specs.Parts.{Nodes}
use Rattle.zio_turns.proofs.Links.{Follows, HeldIn, Keeps, Linked, World, children_go, in_flight_there, some_is}
use Rattle.zio_turns.proofs.LinksMove.{NoParent}
use Rattle.zio_turns.proofs.Queues.{more_there}
use Rattle.zio_turns.proofs.Seated.{keeps_with, place_asking, places_handed}

-- ---- the new child

counts_of_none : CountsAre (tally_of fresh) []
counts_of_none Vdev Ready = refl
counts_of_none Vdev Done = refl
counts_of_none Gang Ready = refl
counts_of_none Gang Done = refl
counts_of_none Logical Ready = refl
counts_of_none Logical Done = refl

told_first : (kind : ChildKind) (told : Bool) → (needs_none kind ≡ false → told ≡ false)
    → needs_none kind ≡ counts_as_told kind told
told_first Vdev told h = refl
told_first Gang told h = sym (h refl)
told_first Logical told h = sym (h refl)

-- it does the operation that was handed out
pub does_new : (x : Flying) (op : Task) (told : Bool) → (needs_none (kind_of_task op) ≡ false → told ≡ false)
    → DoesFor (kind_of_task op) told (place_of x (next_seat x.stack)) (handed_on x op) (length x.stack.children)
does_new x op told h = record {
  child = child_for (next_seat x.stack) op;
  is = get_last x.stack.children (child_for (next_seat x.stack) op);
  goes = refl;
  there = sym (place_asking x.at x.stack x.stack.inner op (next_seat x.stack));
  of_kind = refl;
  heard = told_first (kind_of_task op) told h;
}

pub keeps_handed : (x : Flying) (op : Task) (n : ℕ) → Keeps x (handed_on x op) n
keeps_handed x op n =
    keeps_with x.at x.stack (handed x.stack op) n (places_handed x.at x.stack op)
    (λ c e goes. get_more x.stack.children (child_for (next_seat x.stack) op) c n e)

module _ {N : Type 0} (nodes : Nodes N) (t : Terms) (a b : World N) where
  pub new_matches : (child : ℕ) (at : List ℕ) (op : Task) (c : N) (parent : Parent) → nodes.Is t c (fresh_stack op)
      → HasParent b.tops b.lives (kind_of_task op) (nodes.told c) at parent → nodes.due c
      → times_in child a.queue ≡ 0 → times_in child a.leaves ≡ 0 → OneMore child a.queue b.queue → b.leaves ≡ a.leaves
      → HeldIn nodes t b child (record { at = at; stack = fresh_stack op }) (new_held {N = N} c op parent)
  new_matches child at op c parent is has due q e more same =
      let two : times_in child b.queue ≡ times_in child a.queue + 1 = more_there child a.queue b.queue more in
      record {
        is = is;
        parent = has;
        children = λ n d f g. absurd (no_such n d f);
        counts = counts_of_none;
        rests = Queued (omega arith) (ap (times_in child) same ∙ e) refl due;
      }
    where
      no_such : (n : ℕ) (d : Child) → slice_get [] n ≡ Some d → ⊥
      no_such n d f = cc

  -- nobody is this child yet
  pub none_yet : (p : Parent) (x : Flying) → Linked nodes t a → parent_in a.tops a.lives p ≡ Some x
      → number_in p ≡ length x.stack.children
      → (k : ℕ) (h : Held N) → a.shelf k ≡ Some h → h.parent ≡ p → ⊥
  none_yet p x l e n k h f is =
      let there = in_flight_there nodes t a k h l f in
      by (subst (λ (q : Parent). HasParent a.tops a.lives h.kind (nodes.told h.node) there.0.at q) is there.2.parent)
    where
      by : {kind : ChildKind} {told : Bool} {at : List ℕ} → HasParent a.tops a.lives kind told at p → ⊥
      by has =
          let same : has.above ≡ x = some_is has.above x (sym has.is ∙ e) in
          let turned : slice_get x.stack.children (length x.stack.children) ≡ slice_get has.above.stack.children (number_in p) =
          λ i. slice_get (sym same i).stack.children (sym n i) in
          get_past x.stack.children has.for.child (turned ∙ has.for.is)

  -- no two have one parent and number
  pub apart_more : (child : ℕ) (new : Held N) → b.shelf child ≡ Some new
      → ((k : ℕ) (g : Held N) → b.shelf k ≡ Some g
      → (k ≡ child) ⊎ ((old : Held N) × (a.shelf k ≡ Some old) × (g.parent ≡ old.parent)))
      → ((k : ℕ) (h : Held N) → a.shelf k ≡ Some h → h.parent ≡ new.parent → ⊥)
      → Linked nodes t a → (k m : ℕ) (h g : Held N) → b.shelf k ≡ Some h → b.shelf m ≡ Some g → h.parent ≡ g.parent → k ≡ m
  apart_more child new is back none l k m h g e f p = by (back k h e) (back m g f)
    where
      it_is : (k : ℕ) (g : Held N) → b.shelf k ≡ Some g → k ≡ child → g.parent ≡ new.parent
      it_is k g e same = ap (λ (o : Held N). o.parent) (some_is g new (sym e ∙ ap b.shelf same ∙ is))

      by : (k ≡ child) ⊎ ((old : Held N) × (a.shelf k ≡ Some old) × (h.parent ≡ old.parent))
          → (m ≡ child) ⊎ ((old : Held N) × (a.shelf m ≡ Some old) × (g.parent ≡ old.parent)) → k ≡ m
      by (inl x) (inl y) = x ∙ sym y
      by (inl x) (inr y) = absurd (none m y.0 y.1 (sym y.2 ∙ sym p ∙ it_is k h e x))
      by (inr x) (inl y) = absurd (none k x.0 x.1 (sym x.2 ∙ p ∙ it_is m g f y))
      by (inr x) (inr y) = l.apart k m x.0 y.0 x.1 y.1 (sym x.2 ∙ p ∙ y.2)

  -- the children and the new one are held
  pub children_more : (parent : ℕ → Parent) (cs : List Child) (d : Child) → Follows nodes t NoParent a b
      → IsHeldFor {N = N} b.shelf (parent (length cs)) → ChildrenHeld {N = N} a.shelf parent cs
      → ChildrenHeld {N = N} b.shelf parent (cs ++ d ∷ [])
  children_more parent cs d f new was = λ n c e goes. by n c goes (get_either cs d c n e)
    where
      by : (n : ℕ) (c : Child) → c.ended ≡ false → (slice_get cs n ≡ Some c) ⊎ ((n ≡ length cs) × (d ≡ c))
          → IsHeldFor {N = N} b.shelf (parent n)
      by n c goes (inl e) = children_go nodes t NoParent a b f parent (λ i no. no) cs was n c e goes
      by n c goes (inr e) = subst (λ (m : ℕ). IsHeldFor {N = N} b.shelf (parent m)) (sym e.0) new
