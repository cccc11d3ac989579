-- A node of an engine ends, and its tree has its value; a tree ends.
use Rattle.std.proofs.Common.{◌≡◌, ◌≢◌, ℕ, ◌+◌, List, [], ◌∷◌, slice_get, slice_set, Option, Some, None, ◌⊎◌, inl, inr, refl, sym, ap, ◌∙◌, subst, arith}
use Rattle.std.proofs.lemmas.List.Sorted.{IsPermutation-cons, IsPermutation-trans}
use Rattle.zio_cksum.specs.Images.{Images}
use Rattle.zio_gang.specs.Attempts.{Terms}
use Rattle.zio_trace.specs.Families.{Forest}
use Rattle.zio_trace.specs.Tasks.{Value}
use Rattle.zio_trace.specs.Underway.{State}
use Rattle.zio_frames.specs.Frames.{Child, Flying}
use Rattle.zio_frames.specs.Moves.{IsEnded, child_ended, heard_of}
use Rattle.zio_frames.specs.Running.{FitsTold, Later}
use Rattle.zio_frames.specs.Seats.{IsSeated}
use Rattle.zio_frames.specs.Slots.{Heard, Slot}
use Rattle.zio_frames.proofs.GetLemmas.{same_or_not}
use Rattle.zio_frames.proofs.NodeMoves.{node_settles}
use Rattle.zio_turns.specs.Engine.{ChildrenHeld, IsKept, StillKept}
use Rattle.zio_staged.specs.Entries.{Held, IsWith, Live, OfNode, OfTree, OneMore, Shelf, flying_at, heard_as, live_of, times_in, top_at}
use Rattle.zio_staged.specs.Parts.{Nodes}
use Rattle.zio_turns.proofs.Fates.{ended_fate}
use Rattle.zio_turns.proofs.HearLemmas.{IsChild, child_is, does_here}
use Rattle.zio_turns.proofs.Kept.{all_flying, kept_now, later_as, one_forward, running_as, world}
use Rattle.zio_turns.proofs.Links.{Follows, Goes, HeldIn, Linked, World, goes_gone, goes_same, held_there, matches_still, shelf_same}
use Rattle.zio_turns.proofs.LinksHear.{ChildMoves}
use Rattle.zio_turns.proofs.LinksMove.{NoParent}
use Rattle.zio_turns.proofs.LinksTreeHear.{tree_hears}
use Rattle.zio_turns.proofs.Lives.{first_at, other_at}
use Rattle.zio_turns.proofs.MoveEnd.{arrives_on}
use Rattle.zio_turns.proofs.MoveGrow.{top_back, top_forward}
use Rattle.zio_turns.proofs.MoveOne.{less_one, queued_now}
use Rattle.zio_turns.proofs.Queues.{more_other, more_there}
use Rattle.zio_turns.proofs.Seated.{none_below}
use Rattle.zio_turns.proofs.Tops.{stand_at, stand_ended, stand_moved, with_top}

zero_more : (n : ℕ) → 0 + n ≡ n
zero_more n = omega arith

module _ {N : Type 0} (nodes : Nodes N) (t : Terms) (sizes : ℕ → ℕ) (f : Forest) (before : Option Images) (trees : List Slot)
    (tops : List (Option Flying))
    (shelf : Shelf N) (queue leaves : List ℕ) (s : State) where
  abbrev KeptOne : ℕ → Flying → List Live → Type 0
  KeptOne key x others = IsKept {N = N} nodes t sizes f before trees tops (live_of key x ∷ others) shelf queue leaves s

  pub tree_child : (key tree : ℕ) (x q : Flying) (others : List Live) (h : Held N) (n : ℕ) (c : Child) → KeptOne key x others
      → shelf key ≡ Some h → h.parent ≡ OfTree tree n → top_at tops tree ≡ Some q → slice_get q.stack.children n ≡ Some c
      → IsChild h.kind (nodes.told h.node) x.at q n c
  tree_child key tree x q others h n c k e parent eq there =
      let a : World N = world {N = N} tops (live_of key x ∷ others) shelf queue leaves in
      let was : HeldIn nodes t a key x h = held_there nodes t a key x h k.linked (first_at (live_of key x) others) e in
      child_is h.kind (nodes.told h.node) x.at q n c
      (does_here a.tops a.lives h.kind (nodes.told h.node) x.at h.parent (OfTree tree n) q was.parent parent eq) there

  pub tree_running : (key tree : ℕ) (x q : Flying) (others : List Live) → KeptOne key x others → top_at tops tree ≡ Some q
      → Later t sizes f before trees (x ∷ q ∷ all_flying (slice_set tops tree None) others) s.entries s.images
  tree_running key tree x q others k eq =
      let gone : List (Option Flying) = slice_set tops tree None in
      let lives : List Live = live_of key x ∷ others in
      running_as t sizes f before trees (all_flying tops lives) (x ∷ q ∷ all_flying gone others) s k.running
      (IsPermutation-trans (all_flying tops lives) (x ∷ all_flying tops others) (x ∷ q ∷ all_flying gone others)
      (one_forward tops (live_of key x) others)
      (IsPermutation-cons x (all_flying tops others) (q ∷ all_flying gone others)
      (top_forward {N = N} nodes t sizes f before trees tops shelf queue leaves s tree q others eq)))

  pub tree_fits : (key tree : ℕ) (x q : Flying) (others : List Live) (h : Held N) (n : ℕ) (c : Child) (v : Value)
      → KeptOne key x others
      → shelf key ≡ Some h → h.parent ≡ OfTree tree n → top_at tops tree ≡ Some q → slice_get q.stack.children n ≡ Some c
      → IsEnded t x.stack v → FitsTold q.stack c v
  tree_fits key tree x q others h n c v k e parent eq there ended =
      let child : IsChild h.kind (nodes.told h.node) x.at q n c = tree_child key tree x q others h n c k e parent eq there in
      (arrives_on {N = N} nodes t sizes f before trees tops shelf queue leaves s x q
      (all_flying (slice_set tops tree None) others) n c v
      (tree_running key tree x q others k eq) ended there child.goes child.there).0

  pub one_ends_tree : (key tree : ℕ) (x q : Flying) (others : List Live) (h : Held N) (n : ℕ) (c : Child) (v : Value)
      → KeptOne key x others
      → shelf key ≡ Some h → h.parent ≡ OfTree tree n → top_at tops tree ≡ Some q → (rest : List ℕ) → OneMore key rest queue
      → IsEnded t x.stack v → slice_get q.stack.children n ≡ Some c
      → (shelf_now : Shelf N) → IsWith shelf key None shelf_now
      → StillKept {N = N} nodes t sizes f before trees
      (slice_set tops tree (Some (record { at = q.at; stack = heard_of q.stack n c v }))) others shelf_now rest leaves s.entries
      s.images
  one_ends_tree key tree x q others h n c v k e parent eq rest off ended there shelf_now without =
      let lives : List Live = live_of key x ∷ others in
      let y : Flying = heard_as q n c.seat (Heard v) (child_ended c) in
      let now : List (Option Flying) = slice_set tops tree (Some y) in
      let gone : List (Option Flying) = slice_set tops tree None in
      let a : World N = world {N = N} tops lives shelf queue leaves in
      let b : World N = world {N = N} now others shelf_now rest leaves in
      let flies : flying_at lives key ≡ Some x = first_at (live_of key x) others in
      let waits = queued_now nodes t sizes f before trees tops key x others shelf queue leaves s h rest k e off in
      let child : IsChild h.kind (nodes.told h.node) x.at q n c = tree_child key tree x q others h n c k e parent eq there in
      let r : Later t sizes f before trees
      (x ∷ q ∷ all_flying gone others) s.entries s.images = tree_running key tree x q others k eq in
      let fate : ChildMoves {N = N} nodes t a b key h (OfTree tree n) (child_ended c) =
      ended_fate nodes t a b key x h (OfTree tree n) q c (Heard v) v
      (record {
        flies = flies;
        held = e;
        parent_is = parent;
        flies_no_more = k.differ.0;
        held_no_more = without.there;
        queue = less_one (times_in key queue) (times_in key rest) waits.0 (more_there key rest queue off);
        leaves = waits.1;
      }) r.running.seated.0 ended in
      kept_now t sizes f before trees nodes now others shelf_now rest leaves s.entries s.images
      (later_as t sizes f before trees (y ∷ all_flying gone others) (all_flying now others) s.entries s.images
      (arrives_on {N = N} nodes t sizes f before trees tops shelf queue leaves s x q
      (all_flying gone others) n c v r ended there child.goes child.there).1
      (top_back {N = N} nodes t sizes f before trees tops shelf queue leaves s tree q y others eq))
      (stand_moved 0 tops trees tree q y k.stand eq refl) k.differ.1
      (tree_hears nodes t a b key tree h q n c.seat (Heard v) (child_ended c)
      (record {
        flies = eq;
        tops = with_top tops tree q (Some y) eq;
        lives = λ i m. sym (other_at (live_of key x) others i m);
        shelf = without.others;
        queue = λ i m. sym (more_other key i rest queue off m);
        leaves = λ i m. refl;
      }) fate k.linked)

  -- ---- a tree ends

  pub tree_ends : (n : ℕ) (top : Flying) (lives : List Live) (v : Value)
      → IsKept {N = N} nodes t sizes f before trees tops lives shelf queue leaves s → top_at tops n ≡ Some top
      → IsEnded t top.stack v
      → StillKept {N = N} nodes t sizes f before (slice_set trees n (Heard v))
      (slice_set tops n None) lives shelf queue leaves s.entries s.images
  tree_ends n top lives v k e ended =
      let gone : List (Option Flying) = slice_set tops n None in
      let a : World N = world {N = N} tops lives shelf queue leaves in
      let b : World N = world {N = N} gone lives shelf queue leaves in
      let r : Later t sizes f before trees (top ∷ all_flying gone lives) s.entries s.images
      = running_as t sizes f before trees (all_flying tops lives) (top ∷ all_flying gone lives) s k.running
      (top_forward {N = N} nodes t sizes f before trees tops shelf queue leaves s n top lives e) in
      let done : Later t sizes f before (slice_set trees n (Heard v)) (all_flying gone lives) r.state.entries r.state.images
      = node_settles t sizes f before trees top (all_flying gone lives) r.state n v r.running ended
      (stand_at 0 tops trees n top k.stand e ∙ ap (λ i. i ∷ []) (zero_more n)) in
      let with_none : IsWith (top_at tops) n None (top_at gone) = with_top tops n top None e in
      let follows : Follows nodes t NoParent a b = record {
        trees = λ i. tree_goes gone with_none r.running.seated.0 i (same_or_not i n);
        lives = λ i. goes_same NoParent (OfNode i) (a.lives i) (b.lives i) refl;
        shelf = λ i. shelf_same {N = N} NoParent (a.shelf i) (b.shelf i) refl;
      } in
      kept_now t sizes f before (slice_set trees n (Heard v)) nodes gone lives shelf queue leaves s.entries s.images
      (record {
        state = done.state;
        running = done.running;
        entries_are = done.entries_are
            ∙ r.entries_are;
        images_are = done.images_are ∙ r.images_are;
      })
      (stand_ended 0 tops trees n top v k.stand e) k.differ
      (record {
        each = λ i. matches_still nodes t NoParent a b follows k.linked i refl refl (λ g m out. out) (λ m out. out) refl refl;
        trees = λ i x is. tree_held gone with_none i x is (same_or_not i n) k.linked;
        apart = k.linked.apart;
      })
    where
      tree_goes : (gone : List (Option Flying)) → IsWith (top_at tops) n None (top_at gone) → IsSeated top.stack → (i : ℕ)
          → (i ≡ n) ⊎ (i ≢ n)
          → Goes NoParent (OfTree i) (top_at tops i) (top_at gone i)
      tree_goes gone w seated i (inl same) =
          subst (λ (j : ℕ). Goes NoParent (OfTree j) (top_at tops j) (top_at gone j)) (sym same)
          (goes_gone NoParent (OfTree n) (top_at tops n) (top_at gone n) top e
          (λ m kind told at d. none_below t top.stack v m d.child seated ended d.is d.goes))
      tree_goes gone w seated i (inr d) = goes_same NoParent (OfTree i) (top_at tops i) (top_at gone i) (w.others i d)

      clash : (x : Flying) → None ≡ Some x → ⊥
      clash x m = cc

      tree_held : (gone : List (Option Flying)) → IsWith (top_at tops) n None (top_at gone) → (i : ℕ) (x : Flying)
          → top_at gone i ≡ Some x
          → (i ≡ n) ⊎ (i ≢ n) → Linked nodes t (world {N = N} tops lives shelf queue leaves) → ChildrenHeld {N = N} shelf
          (OfTree i) x.stack.children
      tree_held gone w i x is (inl same) l = absurd (clash x (sym w.there ∙ ap (top_at gone) (sym same) ∙ is))
      tree_held gone w i x is (inr d) l = l.trees i x (sym (w.others i d) ∙ is)
