-- A round begins; a node of an engine, or a tree, hands out an operation.
use Rattle.std.proofs.Common.{◌≡◌, ◌≢◌, ℕ, zero, suc, ◌<◌, List, [], ◌∷◌, ◌++◌, length, map, slice_get, slice_set, false, Option, Some, None, IfSome, IsPermutation, refl, sym, ap, ◌∙◌, subst, append-nil}
use Rattle.std.proofs.lemmas.List.Sorted.{IsPermutation-cons, IsPermutation-trans, IsPermutation-append_left}
use Rattle.std.specs.List.{AllByRecursion}
use Rattle.zio_types.specs.Choices.{Choice}
use Rattle.zio_types.specs.declared.request.Phase.TheVariants.{Ready}
use Rattle.zio_counts.specs.Tallies.{count_end, counted}
use Rattle.zio_cksum.specs.Images.{Images}
use Rattle.zio_gang.specs.Attempts.{Terms}
use Rattle.zio_gang.specs.Journals.{AreLawful}
use Rattle.zio_gang.specs.Trees.{sizes_of}
use Rattle.zio_trace.specs.Conflicts.{is_single}
use Rattle.zio_trace.specs.Families.{Forest}
use Rattle.zio_trace.specs.Rounds.{settles}
use Rattle.zio_trace.specs.SoundRounds.{IsSoundRound}
use Rattle.zio_trace.specs.Tasks.{Task}
use Rattle.zio_trace.specs.Underway.{State}
use Rattle.zio_frames.specs.Frames.{Child, Flying, Stack, asking, fresh_stack, kind_of_task, needs_none}
use Rattle.zio_frames.specs.Moves.{AsksNext, Did, DoesAll, choices_of, handed}
use Rattle.zio_frames.specs.Running.{Later, all_out, settling_from}
use Rattle.zio_frames.specs.Slots.{Slot}
use Rattle.zio_frames.proofs.MoveItself.{hand_node}
use Rattle.zio_frames.proofs.MoveTrees.{round_begins}
use Rattle.zio_turns.specs.Engine.{IsKept, IsRight, StillKept}
use Rattle.zio_staged.specs.Entries.{AreWith, Held, IsWith, Live, OfNode, OfTree, OneMore, Shelf, all_tops, flying_at, flying_of, grown, handed_on, live_of, new_flying, new_held, standing, top_at, with_stack}
use Rattle.zio_staged.specs.Parts.{Nodes}
use Rattle.zio_turns.proofs.DoesLemmas.{does_all, same_children}
use Rattle.zio_turns.proofs.Kept.{all_flying, kept_now, later_as, one_back, running_as, two_back, world}
use Rattle.zio_turns.proofs.Links.{Linked, World, free_there}
use Rattle.zio_turns.proofs.LinksBegin.{tree_grows}
use Rattle.zio_turns.proofs.LinksGrow.{node_grows}
use Rattle.zio_turns.proofs.Lives.{first_at, other_at, with_first_more, with_more}
use Rattle.zio_turns.proofs.MoveOne.{queued_now, running_first}
use Rattle.zio_turns.proofs.Seated.{keeps_with}
use Rattle.zio_turns.proofs.Tops.{stand_first, stand_moved, standing_all, standing_in, standing_out, with_top}

-- ---- the round begins

fresh_tops : (k : ℕ) (qs : List Task) (n : ℕ) (top : Flying) (m : ℕ) (c : Child)
    → top_at (all_tops (settling_from k qs)) n ≡ Some top
    → slice_get top.stack.children m ≡ Some c → ⊥
fresh_tops k [] n top m c e is = cc
fresh_tops k (q ∷ qs) zero top m c e is =
    let same : record { at = k ∷ []; stack = fresh_stack q } ≡ top = cc in
    let none : None ≡ Some c = ap (λ (x : Flying). slice_get x.stack.children m) same ∙ is in
    cc
fresh_tops k (q ∷ qs) (suc n) top m c e is = fresh_tops (suc k) qs n top m c e is

abbrev pub no_shelf : {N : Type 0} → Shelf N
no_shelf key = None

module _ {N : Type 0} (nodes : Nodes N) (t : Terms) (sizes : ℕ → ℕ) (f : Forest) (before : Option Images) where
  linked_first : Linked nodes t (world {N = N} (all_tops (settling_from 0 (settles f))) [] (no_shelf {N = N}) [] [])
  linked_first = record {
    each = λ key. (refl, refl);
    trees = λ n top e m c is goes. absurd (fresh_tops 0 (settles f) n top m c e is);
    apart = λ k m h g e d p. absurd (clash h e);
  }
    where
      clash : (h : Held N) → None ≡ Some h → ⊥
      clash h e = cc

  pub all_begins : (images : Images) → IsSoundRound t sizes f → IfSome before (λ (b : Images). b ≡ images)
      → StillKept {N = N} nodes t sizes f before (all_out (settles f)) (all_tops (settling_from 0 (settles f))) []
      (no_shelf {N = N}) [] [] [] images
  all_begins images sound is =
      let nodes_are : settling_from 0 (settles f) ≡ all_flying (all_tops (settling_from 0 (settles f))) [] =
      sym (append-nil (standing (all_tops (settling_from 0 (settles f)))) ∙ standing_all (settling_from 0 (settles f))) in
      kept_now t sizes f before (all_out (settles f)) nodes (all_tops (settling_from 0 (settles f))) []
      (no_shelf {N = N}) [] [] [] images
      (subst (λ (xs : List Flying). Later t sizes f before (all_out (settles f)) xs [] images) nodes_are
      (round_begins t sizes f before images sound is))
      (stand_first 0 (settles f)) tt linked_first

-- ---- one more

module _ {N : Type 0} (nodes : Nodes N) (t : Terms) (sizes : ℕ → ℕ) (f : Forest) (before : Option Images) (trees : List Slot)
    (tops : List (Option Flying))
    (shelf : Shelf N) (queue leaves : List ℕ) (s : State) where
  -- what is free has another key
  pub free_other : (key child : ℕ) (h : Held N) → shelf key ≡ Some h → shelf child ≡ None → child ≢ key
  free_other key child h e free same = clash (sym free ∙ ap shelf same ∙ e)
    where
      clash : None ≡ Some h → ⊥
      clash k = cc

  hands : (x : Flying) (rest : List Flying) (op : Task) (entries : List Choice) (images : Images) → IsSoundRound t sizes f
      → Later t sizes f before trees (x ∷ rest) entries images → is_single (asking x.stack).op ≡ false
      → AsksNext t (asking x.stack) op → Later t sizes f before trees
      (new_flying x op ∷ handed_on x op ∷ rest) entries images
  hands x rest op entries images sound r many asks =
      let done : Later t sizes f before trees (new_flying x op ∷ handed_on x op ∷ rest) r.state.entries r.state.images =
      hand_node t sizes f before trees rest r.state sound x.at x.stack.outer x.stack.inner x.stack.children op r.running many
      asks in
      record {
        state = done.state;
        running = done.running;
        entries_are = done.entries_are
            ∙ r.entries_are;
        images_are = done.images_are ∙ r.images_are;
      }

  -- under the number that the parent's next child has
  numbered : (key child : ℕ) (op : Task) (h : Held N) (node c : N) (shelf_now : Shelf N) (n m : ℕ) → n ≡ m
      → AreWith shelf key (Some (grown {N = N} h node op)) child (Some (new_held {N = N} c op (OfNode key n))) shelf_now
      → AreWith shelf key (Some (grown {N = N} h node op)) child (Some (new_held {N = N} c op (OfNode key m))) shelf_now
  numbered key child op h node c shelf_now n m e with_both =
      subst (λ (i : ℕ). AreWith shelf key (Some (grown {N = N} h node op)) child
      (Some (new_held {N = N} c op (OfNode key i))) shelf_now) e with_both

  -- it does several things itself, and what it asks next then is handed out
  pub one_grows : (key child : ℕ) (x : Flying) (others : List Live) (h : Held N) → IsSoundRound t sizes f
      → IsKept {N = N} nodes t sizes f before trees tops (live_of key x ∷ others) shelf queue leaves s → shelf key ≡ Some h
      → (rest : List ℕ) → OneMore key rest queue → (dids : List Did) (mid : Stack) → DoesAll t dids x.stack mid
      → AllByRecursion (IsRight t) dids → AreLawful (sizes_of t.setting.tops) t.used (s.entries ++ choices_of dids)
      → (op : Task) → is_single (asking mid).op ≡ false → AsksNext t (asking mid) op
      → counted (kind_of_task op) Ready h.tally < count_end → (node c : N) → nodes.Is t node (handed mid op)
      → nodes.told node ≡ nodes.told h.node → nodes.due node
      → nodes.Is t c (fresh_stack op) → (needs_none (kind_of_task op) ≡ false → nodes.told c ≡ false) → nodes.due c
      → shelf child ≡ None
      → (shelf_now : Shelf N) → AreWith shelf key (Some (grown {N = N} h node op)) child
      (Some (new_held {N = N} c op (OfNode key (length x.stack.children)))) shelf_now
      → (queue_now : List ℕ) → OneMore child queue queue_now
      → StillKept {N = N} nodes t sizes f before trees tops
      (live_of child (new_flying (with_stack x mid) op) ∷ live_of key (handed_on (with_stack x mid) op) ∷ others)
      shelf_now queue_now leaves (s.entries ++ choices_of dids) s.images
  one_grows key child x others h sound k e rest more dids mid does right lawful op many asks room node c is told due is_new told_new
      due_new free shelf_now with_both queue_now more_queue =
      let waits = queued_now nodes t sizes f before trees tops key x others shelf queue leaves s h rest k e more in
      let other : child ≢ key = free_other key child h e free in
      let r : Later t sizes f before trees (x ∷ all_flying tops others) s.entries s.images
      = running_first nodes t sizes f before trees tops key x others shelf queue leaves s h k in
      let entries : List Choice = s.entries ++ choices_of dids in
      let y : Flying = with_stack x mid in
      let done = does_all t sizes f before trees x.at (all_flying tops others) sound dids x.stack mid r.state r.running does right
      (subst (λ (cs : List Choice). AreLawful (sizes_of t.setting.tops) t.used (cs ++ choices_of dids))
      (sym r.entries_are) lawful) in
      let now : Later t sizes f before trees (y ∷ all_flying tops others) entries s.images =
      record {
        state = done.later.state;
        running = done.later.running;
        entries_are = done.later.entries_are ∙ ap (λ (cs : List Choice). cs ++ choices_of dids) r.entries_are;
        images_are = done.later.images_are ∙ r.images_are;
      } in
      let lives : List Live = live_of child (new_flying y op) ∷ live_of key (handed_on y op) ∷ others in
      let a : World N = world {N = N} tops (live_of key x ∷ others) shelf queue leaves in
      let none : flying_at (live_of key x ∷ others) child ≡ None = (free_there nodes t a child k.linked free).0 in
      kept_now t sizes f before trees nodes tops lives shelf_now queue_now leaves entries s.images
      (later_as t sizes f before trees (new_flying y op ∷ handed_on y op ∷ all_flying tops others)
      (all_flying tops lives) entries s.images
      (hands y (all_flying tops others) op entries s.images sound now many asks)
      (two_back tops (live_of child (new_flying y op)) (live_of key (handed_on y op)) others))
      k.stand (
        other_at (live_of key (handed_on y op)) others child other ∙ sym (other_at (live_of key x) others child other)
            ∙ none,
        k.differ,
      )
      (node_grows nodes t a (world {N = N} tops lives shelf_now queue_now leaves) key child x mid op h node c
      (record {
        flies = first_at (live_of key x) others;
        held = e;
        free = free;
        other = other;
        children = done.children;
        keeps = λ n. keeps_with x.at x.stack mid n done.places (λ d g goes. same_children x.stack mid n d done.children g);
        tops = λ n. refl;
        lives = with_first_more key child x (handed_on y op) (new_flying y op) others other;
        shelf = numbered key child op h node c shelf_now (length x.stack.children) (length mid.children)
            (sym (ap (λ (cs : List Child). length cs) done.children)) with_both;
        queue = more_queue;
        leaves = refl;
      }) told is room waits.0 waits.1 waits.2 due is_new told_new due_new k.linked)

  -- the tree's node first
  pub top_forward : (n : ℕ) (top : Flying) (lives : List Live) → top_at tops n ≡ Some top
      → IsPermutation (all_flying tops lives) (top ∷ all_flying (slice_set tops n None) lives)
  top_forward n top lives e =
      IsPermutation-append_left (map flying_of lives) (standing tops) (top ∷ standing (slice_set tops n None))
      (standing_out tops n top e)

  pub top_back : (n : ℕ) (top y : Flying) (lives : List Live) → top_at tops n ≡ Some top
      → IsPermutation (y ∷ all_flying (slice_set tops n None) lives) (all_flying (slice_set tops n (Some y)) lives)
  top_back n top y lives e =
      IsPermutation-append_left (map flying_of lives) (y ∷ standing (slice_set tops n None))
      (standing (slice_set tops n (Some y)))
      (standing_in tops n top y e)

  pub tree_begins : (n child : ℕ) (top : Flying) (lives : List Live) → IsSoundRound t sizes f
      → IsKept {N = N} nodes t sizes f before trees tops lives shelf queue leaves s → top_at tops n ≡ Some top
      → (op : Task) → is_single (asking top.stack).op ≡ false → AsksNext t (asking top.stack) op
      → (c : N) → nodes.Is t c (fresh_stack op) → (needs_none (kind_of_task op) ≡ false → nodes.told c ≡ false) → nodes.due c
      → shelf child ≡ None
      → (shelf_now : Shelf N) → IsWith shelf child
      (Some (new_held {N = N} c op (OfTree n (length top.stack.children)))) shelf_now
      → (queue_now : List ℕ) → OneMore child queue queue_now
      → StillKept {N = N} nodes t sizes f before trees (slice_set tops n (Some (handed_on top op)))
      (live_of child (new_flying top op) ∷ lives) shelf_now
      queue_now leaves s.entries s.images
  tree_begins n child top lives sound k e op many asks c is_new told_new due free shelf_now with_new queue_now more_queue =
      let now : List (Option Flying) = slice_set tops n (Some (handed_on top op)) in
      let gone : List (Option Flying) = slice_set tops n None in
      let a : World N = world {N = N} tops lives shelf queue leaves in
      let none : flying_at lives child ≡ None = (free_there nodes t a child k.linked free).0 in
      let r : Later t sizes f before trees (top ∷ all_flying gone lives) s.entries s.images
      = running_as t sizes f before trees (all_flying tops lives) (top ∷ all_flying gone lives) s k.running
      (top_forward n top lives e) in
      let back : IsPermutation (new_flying top op ∷ handed_on top op ∷ all_flying gone lives)
      (all_flying now (live_of child (new_flying top op) ∷ lives))
      = IsPermutation-trans (new_flying top op ∷ handed_on top op ∷ all_flying gone lives)
      (new_flying top op ∷ all_flying now lives)
      (all_flying now (live_of child (new_flying top op) ∷ lives))
      (IsPermutation-cons (new_flying top op) (handed_on top op ∷ all_flying gone lives) (all_flying now lives)
      (top_back n top (handed_on top op) lives e))
      (one_back now (live_of child (new_flying top op)) lives) in
      kept_now t sizes f before trees nodes now
      (live_of child (new_flying top op) ∷ lives) shelf_now queue_now leaves s.entries s.images
      (later_as t sizes f before trees (new_flying top op ∷ handed_on top op ∷ all_flying gone lives)
      (all_flying now (live_of child (new_flying top op) ∷ lives)) s.entries s.images
      (hands top (all_flying gone lives) op s.entries s.images sound r many asks) back)
      (stand_moved 0 tops trees n top (handed_on top op) k.stand e refl) (none, k.differ)
      (tree_grows nodes t a (world {N = N} now
      (live_of child (new_flying top op) ∷ lives) shelf_now queue_now leaves) n child top op c
      (record {
        flies = e;
        free = free;
        tops = with_top tops n top (Some (handed_on top op)) e;
        lives = with_more child (new_flying top op) lives;
        shelf = with_new;
        queue = more_queue;
        leaves = refl;
      }) is_new told_new due k.linked)
