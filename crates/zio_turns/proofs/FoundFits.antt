-- What an engine knows of a node before its parent hears of it.
use Rattle.std.proofs.Common.{◌≡◌, ℕ, ◌≤◌, List, ◌∷◌, ◌++◌, slice_get, slice_set, Bool, Option, Some, None, Contains, sym, ◌∙◌, subst}
use Rattle.zio_types.specs.Choices.{Choice}
use Rattle.zio_cksum.specs.Images.{Images}
use Rattle.zio_gang.specs.declared.tree.Tree.{Tree}
use Rattle.zio_gang.specs.Attempts.{Terms}
use Rattle.zio_gang.specs.Journals.{AreLawful}
use Rattle.zio_gang.specs.Trees.{sizes_of}
use Rattle.zio_trace.specs.Families.{Forest}
use Rattle.zio_trace.specs.Leaves.{LeafOp, LiesOn, spot_of}
use Rattle.zio_trace.specs.SoundRounds.{HasClaim, IsSoundRound}
use Rattle.zio_trace.specs.Tasks.{Leaf, Value}
use Rattle.zio_trace.specs.Underway.{State}
use Rattle.zio_frames.specs.Frames.{Child, Flying, Stack, fresh_stack}
use Rattle.zio_frames.specs.Moves.{Did, DoesAll, IsEnded, Took, choices_of}
use Rattle.zio_frames.specs.OfRound.{FitsWhichever, IsOfRound}
use Rattle.zio_frames.specs.Running.{IsRunning, Later}
use Rattle.zio_frames.specs.Seats.{IsSeated}
use Rattle.zio_frames.specs.Slots.{Slot}
use Rattle.zio_frames.proofs.HeardParts.{child_does, lies_at, value_of_node}
use Rattle.zio_turns.specs.Claims.{turn_of}
use Rattle.zio_turns.specs.Engine.{IsKept}
use Rattle.zio_staged.specs.Entries.{Held, Live, OfNode, OfTree, Shelf, live_of, top_at}
use Rattle.zio_turns.specs.Found.{DoesAsked}
use Rattle.zio_staged.specs.Parts.{Nodes}
use Rattle.zio_turns.proofs.DoesLemmas.{takes_all, turns_all}
use Rattle.zio_turns.proofs.HearLemmas.{IsChild}
use Rattle.zio_turns.proofs.Kept.{all_flying, one_forward, running_as}
use Rattle.zio_turns.proofs.MoveEnd.{two_child, two_running}
use Rattle.zio_turns.proofs.MoveEndTree.{tree_child, tree_running}
use Rattle.zio_turns.proofs.MoveGrow.{top_forward}
use Rattle.zio_turns.proofs.Spans.{HasSpan, spans_at}

module _ {N : Type 0} (nodes : Nodes N) (t : Terms) (sizes : ℕ → ℕ) (f : Forest) (before : Option Images) (trees : List Slot)
    (tops : List (Option Flying))
    (shelf : Shelf N) (queue leaves : List ℕ) (s : State) where
  abbrev KeptOf : List Live → Type 0
  KeptOf lives = IsKept {N = N} nodes t sizes f before trees tops lives shelf queue leaves s

  -- ---- its operation

  asked_by_child : (x q : Flying) (rest : List Flying) (h : Held N) (n : ℕ) (c : Child)
      → IsChild h.kind (nodes.told h.node) x.at q n c → Later t sizes f before trees (x ∷ q ∷ rest) s.entries s.images
      → DoesAsked {N = N} h x q c
  asked_by_child x q rest h n c child r =
      let does = child_does t sizes f before trees rest r.state x q n c r.running child.is child.goes child.there in
      record { asked = does.0; kind = sym child.of_kind ∙ does.1; child_kind = does.1 }

  pub one_asked : (key above : ℕ) (x q : Flying) (others : List Live) (h : Held N) (n : ℕ) (c : Child)
      → KeptOf (live_of key x ∷ live_of above q ∷ others) → shelf key ≡ Some h → h.parent ≡ OfNode above n
      → slice_get q.stack.children n ≡ Some c → DoesAsked {N = N} h x q c
  one_asked key above x q others h n c k e parent there =
      asked_by_child x q (all_flying tops others) h n c
      (two_child {N = N} nodes t sizes f before trees tops shelf queue leaves s key above x q others h n c k e parent there)
      (two_running {N = N} nodes t sizes f before trees tops shelf queue leaves s key above x q others k)

  pub tree_asked : (key tree : ℕ) (x q : Flying) (others : List Live) (h : Held N) (n : ℕ) (c : Child)
      → KeptOf (live_of key x ∷ others) → shelf key ≡ Some h → h.parent ≡ OfTree tree n → top_at tops tree ≡ Some q
      → slice_get q.stack.children n ≡ Some c → DoesAsked {N = N} h x q c
  tree_asked key tree x q others h n c k e parent eq there =
      asked_by_child x q (all_flying (slice_set tops tree None) others) h n c
      (tree_child {N = N} nodes t sizes f before trees tops shelf queue leaves s key tree x q others h n c k e parent eq there)
      (tree_running {N = N} nodes t sizes f before trees tops shelf queue leaves s key tree x q others k eq)

  -- ---- its value

  fits_first : (x : Flying) (rest : List Flying) (v : Value)
      → Later t sizes f before trees (x ∷ rest) s.entries s.images → IsEnded t x.stack v
      → FitsWhichever t s.entries x.stack.outer.op v
  fits_first x rest v r ended =
      subst (λ (cs : List Choice). FitsWhichever t cs x.stack.outer.op v) r.entries_are
      (value_of_node t sizes f before trees rest r.state x v r.running ended)

  first_running : (key : ℕ) (x : Flying) (others : List Live) → KeptOf (live_of key x ∷ others)
      → Later t sizes f before trees (x ∷ all_flying tops others) s.entries s.images
  first_running key x others k =
      running_as t sizes f before trees (all_flying tops (live_of key x ∷ others)) (x ∷ all_flying tops others) s k.running
      (one_forward tops (live_of key x) others)

  pub one_value : (key : ℕ) (x : Flying) (others : List Live) (v : Value) → KeptOf (live_of key x ∷ others)
      → IsEnded t x.stack v → FitsWhichever t s.entries x.stack.outer.op v
  one_value key x others v k ended = fits_first x (all_flying tops others) v (first_running key x others k) ended

  pub tree_value : (n : ℕ) (top : Flying) (lives : List Live) (v : Value) → KeptOf lives → top_at tops n ≡ Some top
      → IsEnded t top.stack v → FitsWhichever t s.entries top.stack.outer.op v
  tree_value n top lives v k e ended =
      let rest : List Flying = all_flying (slice_set tops n None) lives in
      fits_first top rest v
      (running_as t sizes f before trees (all_flying tops lives) (top ∷ rest) s k.running
      (top_forward {N = N} nodes t sizes f before trees tops shelf queue leaves s n top lives e)) ended

  -- what is in flight for a tree
  pub tree_seated : (n : ℕ) (top : Flying) (lives : List Live) → KeptOf lives → top_at tops n ≡ Some top → IsSeated top.stack
  tree_seated n top lives k e =
      let rest : List Flying = all_flying (slice_set tops n None) lives in
      let r : Later t sizes f before trees (top ∷ rest) s.entries s.images =
      running_as t sizes f before trees (all_flying tops lives) (top ∷ rest) s k.running
      (top_forward {N = N} nodes t sizes f before trees tops shelf queue leaves s n top lives e) in
      r.running.seated.0

  pub tree_of_round : (n : ℕ) (top : Flying) (lives : List Live) → KeptOf lives → top_at tops n ≡ Some top
      → (seen : List Choice) × IsOfRound t f seen top.stack
  tree_of_round n top lives k e =
      let rest : List Flying = all_flying (slice_set tops n None) lives in
      let r : Later t sizes f before trees (top ∷ rest) s.entries s.images =
      running_as t sizes f before trees (all_flying tops lives) (top ∷ rest) s k.running
      (top_forward {N = N} nodes t sizes f before trees tops shelf queue leaves s n top lives e) in
      (r.state.entries, r.running.of_round.0)

  -- ---- at its leaf

  pub one_lies : (key : ℕ) (x : Flying) (others : List Live) (act : LeafOp) → IsSoundRound t sizes f
      → KeptOf (live_of key x ∷ others) → x.stack ≡ fresh_stack (Leaf act) → LiesOn sizes act
  one_lies key x others act sound k is =
      let r = first_running key x others k in
      lies_at t sizes f before trees (all_flying tops others) r.state x.at act sound
      (subst (λ (st : Stack). IsRunning t sizes f before trees (record { at = x.at; stack = st } ∷ all_flying tops others) r.state)
      is r.running)

  pub one_spans : (key : ℕ) (x : Flying) (others : List Live) (act : LeafOp) → IsSoundRound t sizes f
      → KeptOf (live_of key x ∷ others) → x.stack ≡ fresh_stack (Leaf act) → HasSpan t.setting.tops (spot_of act)
  one_spans key x others act sound k is =
      let r = first_running key x others k in
      spans_at t sizes f before trees (all_flying tops others) r.state x.at act sound
      (subst (λ (st : Stack). IsRunning t sizes f before trees (record { at = x.at; stack = st } ∷ all_flying tops others) r.state)
      is r.running)

  -- ---- places that it takes

  pub one_takes : (key : ℕ) (x : Flying) (others : List Live) (dids : List Did) (st : Stack) (tree : Tree) (free : Bool)
      → IsSoundRound t sizes f → KeptOf (live_of key x ∷ others) → DoesAll t dids x.stack st
      → AreLawful (sizes_of t.setting.tops) t.used (s.entries ++ choices_of dids) → Contains dids (Took tree free) → HasClaim f
  one_takes key x others dids st tree free sound k does lawful there =
      let r = first_running key x others k in
      takes_all t sizes f before trees x.at (all_flying tops others) sound dids x.stack st r.state tree free r.running does
      (subst (λ (cs : List Choice). AreLawful (sizes_of t.setting.tops) t.used (cs ++ choices_of dids)) (sym r.entries_are) lawful)
      there

  pub one_turns : (key : ℕ) (x : Flying) (others : List Live) (dids : List Did) (st : Stack) (tree : Tree) (free : Bool)
      → IsSoundRound t sizes f → KeptOf (live_of key x ∷ others) → DoesAll t dids x.stack st
      → AreLawful (sizes_of t.setting.tops) t.used (s.entries ++ choices_of dids) → Contains dids (Took tree free)
      → (1 ≤ turn_of x.stack) × (turn_of st ≡ 0)
  one_turns key x others dids st tree free sound k does lawful there =
      let r = first_running key x others k in
      turns_all t sizes f before trees x.at (all_flying tops others) sound dids x.stack st r.state tree free r.running does
      (subst (λ (cs : List Choice). AreLawful (sizes_of t.setting.tops) t.used (cs ++ choices_of dids)) (sym r.entries_are) lawful)
      there
