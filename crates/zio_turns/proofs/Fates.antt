-- What became of a child under its key: it told its pointer, or it ended.
use Rattle.std.proofs.Common.{◌≡◌, ℕ, List, slice_get, Bool, true, false, Some, None, refl, sym, ap, ◌∙◌, subst}
use Rattle.zio_types.specs.declared.request.ChildKind.{ChildKind}
use Rattle.zio_types.specs.declared.request.ChildKind.TheVariants.{Vdev, Gang, Logical}
use Rattle.zio_gang.specs.Attempts.{Terms}
use Rattle.zio_trace.specs.Tasks.{Value}
use Rattle.zio_frames.specs.Frames.{Child, Flying, Stack, place_of}
use Rattle.zio_frames.specs.Moves.{IsEnded, child_ended, child_told}
use Rattle.zio_frames.specs.Seats.{IsSeated}
use Rattle.zio_frames.specs.Slots.{Slot}
use Rattle.zio_frames.proofs.GetLemmas.{get_set}
use Rattle.zio_turns.specs.Engine.{DoesFor, HasParent, Rests, Queued, AtLeaf, Stalls, counts_as_told, parent_in}
use Rattle.zio_staged.specs.Entries.{Held, OfNode, Parent, heard_as, number_in, times_in, with_node}
use Rattle.zio_staged.specs.Parts.{Nodes}
use Rattle.zio_turns.proofs.Links.{Follows, HeldIn, Linked, World, children_go, goes_gone, goes_same, held_there, matches_free, matches_held, shelf_gone, shelf_kept, some_is}
use Rattle.zio_turns.proofs.LinksHear.{ChildMoves, IsOwn}
use Rattle.zio_turns.proofs.Seated.{none_below, place_set}

rests_node : {N : Type 0} (due : N → Type 0) (q e : ℕ) (st : Stack) (h : Held N) (node : N) → due node → Rests {N = N} due q e st h
    → Rests {N = N} due q e st (with_node {N = N} h node)
rests_node due q e st h node now (Queued a b c d) = Queued a b c now
rests_node due q e st h node now (AtLeaf act a b c d) = AtLeaf act a b c d
rests_node due q e st h node now (Stalls count a b c d f) = Stalls count a b c d now

-- a child that counts as one that told whatever it did counts so now
told_now : (kind : ChildKind) → true ≡ counts_as_told kind true
told_now Vdev = refl
told_now Gang = refl
told_now Logical = refl

-- it does the operation still, and told
does_told : (at : List ℕ) (q : Flying) (n : ℕ) (c : Child) (slot : Slot) (kind : ChildKind)
    → slice_get q.stack.children n ≡ Some c
    → c.ended ≡ false → at ≡ place_of q c.seat → c.kind ≡ kind
    → DoesFor kind true at (heard_as q n c.seat slot (child_told c)) n
does_told at q n c slot kind is goes there same = record {
  child = child_told c;
  is = get_set q.stack.children n c (child_told c) is;
  goes = goes;
  there = there ∙ sym (place_set q.at q.stack c.seat slot c.seat);
  of_kind = same;
  heard = told_now kind;
}

module _ {N : Type 0} (nodes : Nodes N) (t : Terms) (a b : World N) (key : ℕ) (x : Flying) (h : Held N) (parent : Parent)
    (q : Flying) (c : Child)
    (slot : Slot) where
  pub record Tells (node : N) : Type 0 where
    pub flies : a.lives key ≡ Some x
    pub held : a.shelf key ≡ Some h
    pub parent_is : h.parent ≡ parent
    pub flies_now : b.lives key ≡ Some x
    pub held_now : b.shelf key ≡ Some (with_node {N = N} h node)
    pub queue : times_in key b.queue ≡ times_in key a.queue
    pub leaves : times_in key b.leaves ≡ times_in key a.leaves
    pub above : parent_in b.tops b.lives parent ≡ Some (heard_as q (number_in parent) c.seat slot (child_told c))
    pub other : (m : ℕ) → OfNode key m ≡ parent → ⊥
    pub is : slice_get q.stack.children (number_in parent) ≡ Some c
    pub goes : c.ended ≡ false
    pub there : x.at ≡ place_of q c.seat
    pub of_kind : c.kind ≡ h.kind

  pub told_fate : (node : N) → Tells node → nodes.told node ≡ true → nodes.Is t node x.stack → nodes.due node → Linked nodes t a
      → ChildMoves {N = N} nodes t a b key h parent (child_told c)
  told_fate node m told is_now due l = record {
    held = m.held;
    parent_is = m.parent_is;
    lives = goes_same (IsOwn {N = N} h) (OfNode key) (a.lives key) (b.lives key) (m.flies_now ∙ sym m.flies);
    shelf = shelf_kept {N = N} (IsOwn {N = N} h) (a.shelf key) (b.shelf key) h
        (with_node {N = N} h node) m.held m.held_now refl;
    back = λ g e.
        let same : with_node {N = N} h node ≡ g = some_is (with_node {N = N} h node) g (sym m.held_now ∙ e) in
        (h, m.held, ap (λ (o : Held N). o.parent) (sym same));
    matches = λ f. matches_held nodes t b key x (with_node {N = N} h node) m.flies_now m.held_now
        (held f (held_there nodes t a key x h l m.flies m.held));
    there = λ goes. record { key = key; held = with_node {N = N} h node; there = m.held_now; parent_is = m.parent_is };
  }
    where
      held : Follows nodes t (IsOwn {N = N} h) a b → HeldIn nodes t a key x h → HeldIn nodes t b key x
          (with_node {N = N} h node)
      held f was = record {
        is = is_now;
        parent = subst (λ (w : Bool). HasParent b.tops b.lives h.kind w x.at h.parent) (sym told)
            (subst (λ (p : Parent). HasParent b.tops b.lives h.kind true x.at p) (sym m.parent_is)
            (record {
              above = heard_as q (number_in parent) c.seat slot (child_told c);
              is = m.above;
              for = does_told x.at q (number_in parent) c slot h.kind m.is m.goes m.there m.of_kind;
            }));
        children = children_go nodes t (IsOwn {N = N} h) a b f (OfNode key)
            (λ i own. m.other i (own ∙ m.parent_is)) x.stack.children was.children;
        counts = was.counts;
        rests = rests_node {N = N} nodes.due (times_in key b.queue) (times_in key b.leaves) x.stack h node due
            (subst (λ (i : ℕ). Rests {N = N} nodes.due i (times_in key b.leaves) x.stack h) (sym m.queue)
            (subst (λ (i : ℕ). Rests {N = N} nodes.due (times_in key a.queue) i x.stack h) (sym m.leaves) was.rests));
      }

  pub record Ends : Type 0 where
    pub flies : a.lives key ≡ Some x
    pub held : a.shelf key ≡ Some h
    pub parent_is : h.parent ≡ parent
    pub flies_no_more : b.lives key ≡ None
    pub held_no_more : b.shelf key ≡ None
    pub queue : times_in key b.queue ≡ 0
    pub leaves : times_in key b.leaves ≡ 0

  pub ended_fate : (v : Value) → Ends → IsSeated x.stack → IsEnded t x.stack v
      → ChildMoves {N = N} nodes t a b key h parent (child_ended c)
  ended_fate v m seated ended = record {
    held = m.held;
    parent_is = m.parent_is;
    lives = goes_gone (IsOwn {N = N} h) (OfNode key) (a.lives key) (b.lives key) x m.flies
        (λ n kind told at d. none_below t x.stack v n d.child seated ended d.is d.goes);
    shelf = shelf_gone {N = N} (IsOwn {N = N} h) (a.shelf key) (b.shelf key) h m.held refl;
    back = λ g e. absurd (clash g (sym m.held_no_more ∙ e));
    matches = λ f. matches_free nodes t b key m.flies_no_more m.held_no_more m.queue m.leaves;
    there = λ goes. absurd (no goes);
  }
    where
      clash : (g : Held N) → None ≡ Some g → ⊥
      clash g e = cc

      no : true ≡ false → ⊥
      no e = cc
