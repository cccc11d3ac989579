-- A node of an engine tells which pointer its value will have.
use Rattle.std.proofs.Common.{◌≡◌, ◌≢◌, ℕ, List, ◌∷◌, slice_get, slice_set, Bool, true, false, Option, Some, None, refl, sym, ap, ◌∙◌, subst}
use Rattle.std.proofs.lemmas.List.Sorted.{IsPermutation-cons, IsPermutation-trans}
use Rattle.zio_blkptr.specs.declared.pointer.Bp.{Bp}
use Rattle.zio_types.specs.declared.error.Errno.{Errno}
use Rattle.zio_types.specs.declared.request.Bits.{Bits}
use Rattle.zio_types.specs.declared.request.ChildKind.{ChildKind}
use Rattle.zio_types.specs.declared.request.Phase.TheVariants.{Ready}
use Rattle.zio_counts.specs.Tallies.{counted, is_last, notified}
use Rattle.zio_cksum.specs.Images.{Images}
use Rattle.zio_gang.specs.Attempts.{Terms}
use Rattle.zio_trace.specs.Families.{Forest}
use Rattle.zio_trace.specs.Underway.{State}
use Rattle.zio_frames.specs.Frames.{Child, Flying, needs_none, place_of}
use Rattle.zio_frames.specs.Moves.{WillHave, child_told, heard_early}
use Rattle.zio_frames.specs.Running.{Later}
use Rattle.zio_frames.specs.Slots.{IsOut, Slot}
use Rattle.zio_frames.proofs.MoveChildren.{tell_node}
use Rattle.zio_turns.specs.Engine.{IsKept, StillKept, counts_as_told}
use Rattle.zio_staged.specs.Entries.{AreWith, CountsAre, Held, IsWith, KeysDiffer, Live, OfNode, OfTree, OneMoreIf, Shelf, flying_at, heard_as, live_of, owes, times_in, top_at, with_both, with_node}
use Rattle.zio_staged.specs.Parts.{Nodes}
use Rattle.zio_turns.proofs.Counts.{counted_owes, counts_told}
use Rattle.zio_turns.proofs.Fates.{told_fate}
use Rattle.zio_turns.proofs.HearLemmas.{IsChild, child_is, does_here, told_not}
use Rattle.zio_turns.proofs.Kept.{all_flying, kept_now, later_as, one_back, one_forward, running_as, two_back, two_forward, world}
use Rattle.zio_turns.proofs.Links.{HeldIn, World, held_there}
use Rattle.zio_turns.proofs.LinksHear.{ChildMoves, node_hears}
use Rattle.zio_turns.proofs.LinksTreeHear.{tree_hears}
use Rattle.zio_turns.proofs.Lives.{differ_second, first_at, other_at, second_at, second_other}
use Rattle.zio_turns.proofs.MoveGrow.{top_back, top_forward}
use Rattle.zio_turns.proofs.Queues.{more_if_other, more_if_there}
use Rattle.zio_turns.proofs.Tops.{stand_moved, top_set, with_top}
use Rattle.zio_turns.proofs.Waits.{rests_notified}

owes_now : (c : Child) → c.told ≡ false → c.ended ≡ false → owes Ready c ≡ true
owes_now c t e = by c.told c.ended t e
  where
    by : (told ended : Bool) → told ≡ false → ended ≡ false
        → owes Ready (record { seat = c.seat; kind = c.kind; told = told; ended = ended }) ≡ true
    by true ended t e = absurd (cc)
    by false true t e = absurd (cc)
    by false false t e = refl

module _ {N : Type 0} (nodes : Nodes N) (t : Terms) (sizes : ℕ → ℕ) (f : Forest) (before : Option Images) (trees : List Slot)
    (tops : List (Option Flying))
    (shelf : Shelf N) (queue leaves : List ℕ) (s : State) where
  tells_on : (x q : Flying) (rest : List Flying) (n : ℕ) (c : Child) (pointer : Option Bp)
      → Later t sizes f before trees (x ∷ q ∷ rest) s.entries s.images → WillHave t x.stack.outer pointer
      → slice_get q.stack.children n ≡ Some c → c.told ≡ false → c.ended ≡ false → x.at ≡ place_of q c.seat
      → Later t sizes f before trees (x ∷ heard_as q n c.seat (IsOut (Some pointer)) (child_told c) ∷ rest) s.entries s.images
  tells_on x q rest n c pointer r will there nothing goes is =
      let done : Later t sizes f before trees
      (x ∷ heard_as q n c.seat (IsOut (Some pointer)) (child_told c) ∷ rest) r.state.entries r.state.images =
      tell_node t sizes f before trees rest r.state x.at q.at x.stack.outer q.stack.outer x.stack.inner q.stack.inner
      x.stack.children
      q.stack.children n c pointer r.running will there nothing goes is in
      record {
        state = done.state;
        running = done.running;
        entries_are = done.entries_are
            ∙ r.entries_are;
        images_are = done.images_are ∙ r.images_are;
      }

  pub one_tells : (key above : ℕ) (x q : Flying) (others : List Live) (h g : Held N) (n : ℕ) (c : Child) (pointer : Option Bp)
      → IsKept {N = N} nodes t sizes f before trees tops (live_of key x ∷ live_of above q ∷ others) shelf queue leaves s
      → shelf key ≡ Some h → h.parent ≡ OfNode above n → shelf above ≡ Some g → needs_none h.kind ≡ false
      → nodes.told h.node ≡ false
      → WillHave t x.stack.outer pointer → slice_get q.stack.children n ≡ Some c
      → (node up : N) → nodes.Is t node x.stack → nodes.told node ≡ true → nodes.due node
      → nodes.Is t up (heard_early q.stack n c pointer) → nodes.told up ≡ nodes.told g.node → (nodes.due g.node → nodes.due up)
      → (error : Option Errno) (bits : Bits)
      → (shelf_now : Shelf N) → AreWith shelf key (Some (with_node {N = N} h node)) above
      (Some (with_both {N = N} g up (notified h.kind Ready error bits g.tally))) shelf_now
      → (queue_now : List ℕ) → OneMoreIf (is_last h.kind Ready g.tally) above queue queue_now
      → StillKept {N = N} nodes t sizes f before trees tops
      (live_of key x ∷ live_of above (record { at = q.at; stack = heard_early q.stack n c pointer }) ∷ others) shelf_now
      queue_now leaves s.entries s.images
  one_tells key above x q others h g n c pointer k e parent eg needs nothing will there node up is told due is_up told_up still error bits
      shelf_now with_two queue_now more =
      let lives : List Live = live_of key x ∷ live_of above q ∷ others in
      let y : Flying = heard_as q n c.seat (IsOut (Some pointer)) (child_told c) in
      let now : List Live = live_of key x ∷ live_of above y ∷ others in
      let a : World N = world {N = N} tops lives shelf queue leaves in
      let b : World N = world {N = N} tops now shelf_now queue_now leaves in
      let other : above ≢ key = second_other (live_of key x) (live_of above q) others k.differ in
      let key_other : key ≢ above = λ i. other (sym i) in
      let flies : flying_at lives key ≡ Some x = first_at (live_of key x) (live_of above q ∷ others) in
      let flies_up : flying_at lives above ≡ Some q = second_at (live_of key x) (live_of above q) others k.differ in
      let differ : KeysDiffer now = differ_second (live_of key x) above q y others k.differ in
      let up_now : flying_at now above ≡ Some y = second_at (live_of key x) (live_of above y) others differ in
      let was : HeldIn nodes t a key x h = held_there nodes t a key x h k.linked flies e in
      let was_up : HeldIn nodes t a above q g = held_there nodes t a above q g k.linked flies_up eg in
      let child : IsChild h.kind (nodes.told h.node) x.at q n c =
      child_is h.kind (nodes.told h.node) x.at q n c
      (does_here a.tops a.lives h.kind (nodes.told h.node) x.at h.parent (OfNode above n) q was.parent parent flies_up) there in
      let untold : c.told ≡ false = child.heard ∙ told_in nothing needs in
      let r : Later t sizes f before trees (x ∷ q ∷ all_flying tops others) s.entries s.images
      = running_as t sizes f before trees (all_flying tops lives) (x ∷ q ∷ all_flying tops others) s k.running
      (two_forward tops (live_of key x) (live_of above q) others) in
      let owed : counted h.kind Ready g.tally ≢ 0 =
      subst (λ (kind : ChildKind). counted kind Ready g.tally ≢ 0) child.of_kind
      (counted_owes g.tally q.stack.children n c Ready there (owes_now c untold child.goes) was_up.counts) in
      let counts : CountsAre (notified h.kind Ready error bits g.tally) (slice_set q.stack.children n (child_told c)) =
      subst (λ (kind : ChildKind). CountsAre (notified kind Ready error bits g.tally)
      (slice_set q.stack.children n (child_told c))) child.of_kind
      (counts_told g.tally q.stack.children n c error bits there untold child.goes was_up.counts) in
      let same_others : (i : ℕ) → i ≢ key → i ≢ above → flying_at now i ≡ flying_at lives i =
      λ i m j. other_at (live_of key x) (live_of above y ∷ others) i m ∙ other_at (live_of above y) others i j
      ∙ sym (other_at (live_of above q) others i j) ∙ sym (other_at (live_of key x) (live_of above q ∷ others) i m) in
      let fate : ChildMoves {N = N} nodes t a b key h (OfNode above n) (child_told c) =
      told_fate nodes t a b key x h (OfNode above n) q c (IsOut (Some pointer)) node
      (record {
        flies = flies;
        held = e;
        parent_is = parent;
        flies_now = first_at (live_of key x) (live_of above y ∷ others);
        held_now = with_two.there;
        queue = more_if_other (is_last h.kind Ready g.tally) above key queue queue_now more key_other;
        leaves = refl;
        above = up_now;
        other = λ m i. key_other (key_of m i);
        is = there;
        goes = child.goes;
        there = child.there;
        of_kind = child.of_kind;
      }) told is due k.linked in
      kept_now t sizes f before trees nodes tops now shelf_now queue_now leaves s.entries s.images
      (later_as t sizes f before trees (x ∷ y ∷ all_flying tops others) (all_flying tops now) s.entries s.images
      (tells_on x q (all_flying tops others) n c pointer r will there untold child.goes child.there)
      (two_back tops (live_of key x) (live_of above y) others))
      k.stand differ
      (node_hears nodes t a b key above h q g n c.seat (IsOut (Some pointer)) (child_told c) up
      (notified h.kind Ready error bits g.tally)
      (record {
        flies = flies_up;
        held = eg;
        other = other;
        tops = λ i. refl;
        flies_now = up_now;
        held_now = with_two.also;
        lives = same_others;
        shelf = with_two.others;
        queue = λ i m j. more_if_other (is_last h.kind Ready g.tally) above i queue queue_now more j;
        leaves = λ i m j. refl;
      }) fate told_up is_up counts
      (rests_notified {N = N} nodes.due (times_in above queue) (times_in above queue_now)
      (times_in above leaves) q.stack y.stack g up h.kind Ready error bits n c there
      owed (more_if_there (is_last h.kind Ready g.tally) above queue queue_now more) still was_up.rests)
      k.linked)
    where
      told_in : nodes.told h.node ≡ false → needs_none h.kind ≡ false → counts_as_told h.kind (nodes.told h.node) ≡ false
      told_in quiet none = ap (counts_as_told h.kind) quiet ∙ told_not h.kind none

      key_of : (m : ℕ) → OfNode key m ≡ OfNode above n → key ≡ above
      key_of m i = cc

  -- its parent counts it
  pub one_untold : (key above : ℕ) (x q : Flying) (others : List Live) (h g : Held N) (n : ℕ) (c : Child)
      → IsKept {N = N} nodes t sizes f before trees tops (live_of key x ∷ live_of above q ∷ others) shelf queue leaves s
      → shelf key ≡ Some h → h.parent ≡ OfNode above n → shelf above ≡ Some g → needs_none h.kind ≡ false
      → nodes.told h.node ≡ false
      → slice_get q.stack.children n ≡ Some c → counted h.kind Ready g.tally ≢ 0
  one_untold key above x q others h g n c k e parent eg needs nothing there =
      let lives : List Live = live_of key x ∷ live_of above q ∷ others in
      let a : World N = world {N = N} tops lives shelf queue leaves in
      let flies_up : flying_at lives above ≡ Some q = second_at (live_of key x) (live_of above q) others k.differ in
      let was : HeldIn nodes t a key x h = held_there nodes t a key x h k.linked
      (first_at (live_of key x) (live_of above q ∷ others)) e in
      let was_up : HeldIn nodes t a above q g = held_there nodes t a above q g k.linked flies_up eg in
      let child : IsChild h.kind (nodes.told h.node) x.at q n c =
      child_is h.kind (nodes.told h.node) x.at q n c
      (does_here a.tops a.lives h.kind (nodes.told h.node) x.at h.parent (OfNode above n) q was.parent parent flies_up) there in
      let untold : c.told ≡ false = child.heard ∙ ap (counts_as_told h.kind) nothing ∙ told_not h.kind needs in
      subst (λ (kind : ChildKind). counted kind Ready g.tally ≢ 0) child.of_kind
      (counted_owes g.tally q.stack.children n c Ready there (owes_now c untold child.goes) was_up.counts)

  pub one_tells_tree : (key tree : ℕ) (x q : Flying) (others : List Live) (h : Held N) (n : ℕ) (c : Child) (pointer : Option Bp)
      → IsKept {N = N} nodes t sizes f before trees tops (live_of key x ∷ others) shelf queue leaves s
      → shelf key ≡ Some h → h.parent ≡ OfTree tree n → top_at tops tree ≡ Some q → needs_none h.kind ≡ false
      → nodes.told h.node ≡ false
      → WillHave t x.stack.outer pointer → slice_get q.stack.children n ≡ Some c
      → (node : N) → nodes.Is t node x.stack → nodes.told node ≡ true → nodes.due node
      → (shelf_now : Shelf N) → IsWith shelf key (Some (with_node {N = N} h node)) shelf_now
      → StillKept {N = N} nodes t sizes f before trees
      (slice_set tops tree (Some (record { at = q.at; stack = heard_early q.stack n c pointer })))
      (live_of key x ∷ others) shelf_now queue leaves s.entries s.images
  one_tells_tree key tree x q others h n c pointer k e parent eq needs nothing will there node is told due shelf_now with_it =
      let lives : List Live = live_of key x ∷ others in
      let y : Flying = heard_as q n c.seat (IsOut (Some pointer)) (child_told c) in
      let now : List (Option Flying) = slice_set tops tree (Some y) in
      let gone : List (Option Flying) = slice_set tops tree None in
      let a : World N = world {N = N} tops lives shelf queue leaves in
      let b : World N = world {N = N} now lives shelf_now queue leaves in
      let flies : flying_at lives key ≡ Some x = first_at (live_of key x) others in
      let was : HeldIn nodes t a key x h = held_there nodes t a key x h k.linked flies e in
      let child : IsChild h.kind (nodes.told h.node) x.at q n c =
      child_is h.kind (nodes.told h.node) x.at q n c
      (does_here a.tops a.lives h.kind (nodes.told h.node) x.at h.parent (OfTree tree n) q was.parent parent eq) there in
      let untold : c.told ≡ false = child.heard ∙ told_in nothing needs in
      let r : Later t sizes f before trees (x ∷ q ∷ all_flying gone others) s.entries s.images
      = running_as t sizes f before trees (all_flying tops lives) (x ∷ q ∷ all_flying gone others) s k.running
      (IsPermutation-trans (all_flying tops lives) (x ∷ all_flying tops others) (x ∷ q ∷ all_flying gone others)
      (one_forward tops (live_of key x) others)
      (IsPermutation-cons x (all_flying tops others) (q ∷ all_flying gone others)
      (top_forward {N = N} nodes t sizes f before trees tops shelf queue leaves s tree q others eq))) in
      let fate : ChildMoves {N = N} nodes t a b key h (OfTree tree n) (child_told c) =
      told_fate nodes t a b key x h (OfTree tree n) q c (IsOut (Some pointer)) node
      (record {
        flies = flies;
        held = e;
        parent_is = parent;
        flies_now = flies;
        held_now = with_it.there;
        queue = refl;
        leaves = refl;
        above = top_set tops tree q (Some y) eq;
        other = λ m i. clash m i;
        is = there;
        goes = child.goes;
        there = child.there;
        of_kind = child.of_kind;
      }) told is due k.linked in
      kept_now t sizes f before trees nodes now lives shelf_now queue leaves s.entries s.images
      (later_as t sizes f before trees (x ∷ y ∷ all_flying gone others) (all_flying now lives) s.entries s.images
      (tells_on x q (all_flying gone others) n c pointer r will there untold child.goes child.there)
      (IsPermutation-trans (x ∷ y ∷ all_flying gone others) (x ∷ all_flying now others) (all_flying now lives)
      (IsPermutation-cons x (y ∷ all_flying gone others) (all_flying now others)
      (top_back {N = N} nodes t sizes f before trees tops shelf queue leaves s tree q y others eq))
      (one_back now (live_of key x) others)))
      (stand_moved 0 tops trees tree q y k.stand eq refl) k.differ
      (tree_hears nodes t a b key tree h q n c.seat (IsOut (Some pointer)) (child_told c)
      (record {
        flies = eq;
        tops = with_top tops tree q (Some y) eq;
        lives = λ i m. refl;
        shelf = with_it.others;
        queue = λ i m. refl;
        leaves = λ i m. refl;
      }) fate k.linked)
    where
      told_in : nodes.told h.node ≡ false → needs_none h.kind ≡ false → counts_as_told h.kind (nodes.told h.node) ≡ false
      told_in quiet none = ap (counts_as_told h.kind) quiet ∙ told_not h.kind none

      clash : (m : ℕ) → OfNode key m ≡ OfTree tree n → ⊥
      clash m i = cc
