-- What is kept of a round, with its queue in another order, with no node yet, and with one more.
use Rattle.std.proofs.Common.{◌≡◌, ℕ, zero, suc, ◌+◌, ◌*◌, ◌<◌, List, [], ◌∷◌, ◌++◌, length, length-append, remove, slice_index, slice_set, get_or, false, Option, Some, None, IfSome, refl, sym, ap, ◌∙◌, subst, arith}
use Rattle.zio_types.specs.declared.request.ChildKind.{ChildKind}
use Rattle.zio_types.specs.declared.request.ChildKind.TheVariants.{Logical}
use Rattle.zio_types.specs.Machine.{fresh}
use Rattle.zio_counts.specs.Tallies.{tally_of}
use Rattle.zio_types.specs.Choices.{Choice}
use Rattle.zio_cksum.specs.Images.{Images}
use Rattle.zio_gang.specs.Attempts.{Terms}
use Rattle.zio_trace.specs.Conflicts.{is_single}
use Rattle.zio_trace.specs.Families.{Forest}
use Rattle.zio_trace.specs.Rounds.{settles}
use Rattle.zio_trace.specs.SoundRounds.{IsSoundRound}
use Rattle.zio_trace.specs.Tasks.{Task}
use Rattle.zio_frames.specs.Frames.{Flying, asking, fresh_stack, kind_of_task}
use Rattle.zio_frames.specs.Moves.{AsksNext}
use Rattle.zio_frames.specs.OfRound.{IsOfRound}
use Rattle.zio_frames.specs.Running.{all_out, settling_from}
use Rattle.slab.specs.Slab.{Slab, Updates, get}
use Rattle.zio_turns.specs.Acts.{new_ties, with_ties}
use Rattle.zio_turns.specs.Engine.{Matches, Rests, StillKept}
use Rattle.zio_staged.specs.Entries.{Held, IsWith, Live, OfTree, Shelf, all_tops, flying_at, handed_on, live_of, new_flying, new_held, times_in, top_at}
use Rattle.zio_turns.specs.Ledgers.{IsOfTree, all_ended}
use Rattle.zio_staged.specs.Parts.{Nodes}
use Rattle.zio_turns.specs.Rests.{numbers_ended}
use Rattle.zio_turns.specs.Rounds.{Before, HandsOut, KeepsRound, SoFar, first_of, with_tree}
use Rattle.std.specs.List.{sum_by}
use Rattle.zio_turns.specs.Slabs.{AreAll, held_if, left_in, left_over, load, shelf_of}
use Rattle.zio_turns.specs.declared.entry.TiedNode.{TiedNode}
use Rattle.zio_turns.specs.declared.entry.Parent.TheVariants.{Tree}
use Rattle.zio_turns.specs.declared.entry.Ties.{Ties}
use Rattle.zio_turns.proofs.ClaimLedger.{claims_begin}
use Rattle.zio_turns.proofs.ClaimMoves.{tree_child, tree_hands}
use Rattle.zio_turns.proofs.ClaimTurns.{claim_alone}
use Rattle.zio_turns.proofs.FoundFits.{tree_of_round, tree_seated}
use Rattle.zio_turns.proofs.Kept.{world}
use Rattle.zio_turns.proofs.LeafOps.{theirs_with}
use Rattle.zio_turns.proofs.LedgerDids.{InnerStands, Stands}
use Rattle.zio_turns.proofs.LedgerHears.{handed_ended, handed_of_round, handed_op_rests, handed_rests}
use Rattle.zio_turns.proofs.LedgerMoves.{ledger_child, ledger_first, ledger_tree}
use Rattle.zio_turns.proofs.LedgerSlabs.{gave_new}
use Rattle.zio_turns.proofs.LedgerTrees.{handed_tree, top_slice}
use Rattle.zio_turns.proofs.Links.{free_there}
use Rattle.zio_turns.proofs.Lives.{with_more}
use Rattle.zio_turns.proofs.Loads.{left_new}
use Rattle.zio_turns.proofs.MoveGrow.{all_begins, tree_begins}
use Rattle.zio_turns.proofs.Queues.{queued_last}
use Rattle.zio_turns.proofs.RoundNodes.{still_as}
use Rattle.zio_turns.proofs.Shelves.{none_some, numbered_with, shelf_with}

-- one taken out stands in front
pub times_taken : (k : ℕ) (line : List ℕ) (n : ℕ) → n < length line
    → times_in k (slice_index line n ∷ remove line n) ≡ times_in k line
times_taken k [] n h = absurd (omega arith)
times_taken k (x ∷ line) zero h = refl
times_taken k (x ∷ line) (suc n) h = let e = times_taken k line n (omega arith) in omega arith

pub length_taken : (line : List ℕ) (n : ℕ) → n < length line → length (remove line n) + 1 ≡ length line
length_taken [] n h = absurd (omega arith)
length_taken (x ∷ line) zero h = omega arith
length_taken (x ∷ line) (suc n) h = let e = length_taken line n (omega arith) in omega arith

module _ {N : Type 0} (nodes : Nodes N) (t : Terms) where
  match_as : (tops lives : ℕ → Option Flying) (shelf : Shelf N) (queue queue_now leaves : List ℕ) (key : ℕ)
      → times_in key queue_now ≡ times_in key queue → (x : Option Flying) (h : Option (Held N))
      → Matches {N = N} nodes t tops lives shelf queue leaves key x h → Matches {N = N} nodes t tops lives shelf queue_now leaves key x h
  match_as tops lives shelf queue queue_now leaves key e None None p = (e ∙ p.0, p.1)
  match_as tops lives shelf queue queue_now leaves key e None (Some h) p = p
  match_as tops lives shelf queue queue_now leaves key e (Some x) None p = p
  match_as tops lives shelf queue queue_now leaves key e (Some x) (Some h) p = record {
    is = p.is;
    parent = p.parent;
    children = p.children;
    counts = p.counts;
    rests = subst (λ (n : ℕ). Rests {N = N} nodes.due n (times_in key leaves) x.stack h) (sym e) p.rests;
  }

  pub round_requeued : (sizes : ℕ → ℕ) (f : Forest) (before : Before) (s : SoFar) (slab : Slab (TiedNode N))
      (queue queue_now leaves : List ℕ) → ((k : ℕ) → times_in k queue_now ≡ times_in k queue)
      → KeepsRound {N = N} nodes t sizes f before s slab queue leaves → KeepsRound {N = N} nodes t sizes f before s slab queue_now leaves
  round_requeued sizes f before s slab queue queue_now leaves same k = record {
    lives = k.lives;
    still = record {
      state = k.still.state;
      kept = record {
        running = k.still.kept.running;
        stand = k.still.kept.stand;
        differ = k.still.kept.differ;
        linked = record {
          each = λ key. match_as (top_at s.tops) (flying_at k.lives) (shelf_of {N = N} slab) queue queue_now leaves key (same key)
              (flying_at k.lives key) (shelf_of {N = N} slab key) (k.still.kept.linked.each key);
          trees = k.still.kept.linked.trees;
          apart = k.still.kept.linked.apart;
        };
      };
      entries_are = k.still.entries_are;
      images_are = k.still.images_are;
    };
    numbered = k.numbered;
    theirs = k.theirs;
    ledger = k.ledger;
  }

  -- ---- the beginning

  pub round_first : (sizes : ℕ → ℕ) (f : Forest) (before : Before) (images : Images) (slab : Slab (TiedNode N)) (line : List ℕ)
      → IsSoundRound t sizes f → IfSome before (λ b. b ≡ images) → slab.slots ≡ [] → line ≡ [] → KeepsRound {N = N} nodes t sizes f before (first_of f images) slab line []
  round_first sizes f before images slab line sound is none empty =
      let bare : shelf_of {N = N} slab ≡ (λ (k : ℕ). None) = λ i k. held_if {N = N} (get_or (none i) k None) in
      record {
        lives = [];
        still = subst (λ (q : List ℕ). StillKept {N = N} nodes t sizes f before (all_out (settles f))
            (all_tops (settling_from 0 (settles f))) [] (shelf_of {N = N} slab) q [] [] images) (sym empty)
            (subst (λ (g : Shelf N). StillKept {N = N} nodes t sizes f before (all_out (settles f))
            (all_tops (settling_from 0 (settles f))) [] g [] [] [] images) (sym bare) (all_begins nodes t sizes f before images sound is));
        numbered = λ key e x there flies. absurd (none_flies key x flies);
        theirs = λ key x flies. absurd (none_flies key x flies);
        ledger = ledger_first nodes t f slab none sound.trees sound.numbers (claims_begin f (claim_alone t sizes f sound));
      }
    where
      none_flies : (key : ℕ) (x : Flying) → flying_at [] key ≡ Some x → ⊥
      none_flies key x h = cc

  -- a tree hands out its next operation
  pub round_root : (sizes : ℕ → ℕ) (f : Forest) (before : Before) (s : SoFar) (slab slab_now : Slab (TiedNode N)) (line leaves : List ℕ)
      (key tree child : ℕ) (node : N) → IsSoundRound t sizes f → KeepsRound {N = N} nodes t sizes f before s slab line leaves
      → get slab key ≡ None → Updates slab slab_now key (Some (with_ties {N = N} node (new_ties Logical (Tree tree child))))
      → (top : Flying) (op : Task) → top_at s.tops tree ≡ Some top → is_single (asking top.stack).op ≡ false
      → AsksNext t (asking top.stack) op → kind_of_task op ≡ Logical → nodes.Is t node (fresh_stack op) → nodes.told node ≡ false
      → nodes.gave node ≡ [] → nodes.due node → child ≡ length top.stack.children
      → KeepsRound {N = N} nodes t sizes f before (with_tree s tree (handed_on top op)) slab_now (line ++ key ∷ []) leaves
  round_root sizes f before s slab slab_now line leaves key tree child node sound k free put top op there many asks kind is told gave due
      number =
      let now : TiedNode N = with_ties {N = N} node (new_ties Logical (Tree tree child)) in
      let with_it = shelf_with slab slab_now key now put in
      let with_kind = subst (λ (c : ChildKind). IsWith (shelf_of {N = N} slab) key
      (Some (record { node = node; kind = c; parent = OfTree tree child; tally = tally_of fresh })) (shelf_of {N = N} slab_now))
      (sym kind) with_it in
      let with_new = subst (λ (n : ℕ). IsWith (shelf_of {N = N} slab) key (Some (new_held {N = N} node op (OfTree tree n)))
      (shelf_of {N = N} slab_now)) number with_kind in
      let lives : List Live = live_of key (new_flying top op) ∷ k.lives in
      let of_tree : IsOfTree top.stack = k.ledger.of_trees tree top (top_slice s.tops tree top there) in
      let stands : Stands top.stack = record {
        full = (tree_seated nodes t sizes f before s.trees s.tops (shelf_of {N = N} slab) line leaves k.still.state tree top
            k.lives k.still.kept there).outer.lengths;
        inner = subst (InnerStands top.stack) (sym of_tree.alone) tt;
      } in
      let of_round : (seen : List Choice) × IsOfRound t f seen top.stack =
      tree_of_round nodes t sizes f before s.trees s.tops (shelf_of {N = N} slab) line leaves k.still.state tree top k.lives
      k.still.kept there in
      record {
        lives = lives;
        still = still_as nodes t sizes f before s.trees (slice_set s.tops tree (Some (handed_on top op))) lives
            (shelf_of {N = N} slab_now) (line ++ key ∷ []) leaves k.still.state.entries s.entries k.still.state.images s.images
            (tree_begins nodes t sizes f before s.trees s.tops (shelf_of {N = N} slab) line leaves k.still.state tree key top k.lives
            sound k.still.kept there op many asks node is (λ needs. told) due (ap (held_if {N = N}) free) (shelf_of {N = N} slab_now)
            with_new (line ++ key ∷ []) (queued_last key line))
            k.still.entries_are k.still.images_are;
        numbered = numbered_with slab slab_now key now (flying_at k.lives) (flying_at lives) (new_flying top op) put
            (with_more key (new_flying top op) k.lives) refl k.numbered;
        theirs = theirs_with (flying_at k.lives) (flying_at lives) leaves s.ops key (Some (new_flying top op))
            (with_more key (new_flying top op) k.lives)
            (free_there nodes t (world {N = N} s.tops k.lives (shelf_of {N = N} slab) line leaves) key k.still.kept.linked
            (ap (held_if {N = N}) free)).2
            k.theirs;
        ledger = ledger_child nodes t f s.books s.entries (slice_set s.tops tree (Some (handed_on top op))) s.trees slab slab_now key top
            op k.lives
            (ledger_tree nodes t f s.books s.entries s.tops s.trees slab slab tree top (handed_on top op) k.lives k.ledger
            (top_slice s.tops tree top there) (handed_ended top.stack op) (handed_tree top.stack op kind) (λ w. refl)
            (λ ended. handed_rests top.stack op f ended stands)
            (tree_hands t f s.books.claimed s.tops k.lives tree top op (top_slice s.tops tree top there) of_tree stands.full
            k.ledger.claims))
            (λ w. gave_new nodes slab slab_now key w now free put gave)
            (handed_op_rests top.stack op t f of_round.0 (numbers_ended (all_ended s.books.done)) stands
            (k.ledger.rests.trees tree top (top_slice s.tops tree top there)) asks
            (handed_of_round top.stack op t f of_round.0 stands asks of_round.1))
            (tree_child t f s.books.claimed s.tops k.lives tree top op (top_slice s.tops tree top there) of_tree stands.full
            k.ledger.claims key asks);
      }

-- with one node more
pub load_more : {N : Type 0} (left : N → ℕ) (slab slab_now : Slab (TiedNode N)) (line line_now : List ℕ) (key : ℕ) (g : TiedNode N)
    → get slab key ≡ None → Updates slab slab_now key (Some g) → line_now ≡ line ++ key ∷ []
    → load {N = N} left slab_now line_now ≡ load {N = N} left slab line + 3 * left g.node + 1
load_more {N} left slab slab_now line line_now key g free put queued =
    let k : left_over {N = N} left slab_now ≡ left_over {N = N} left slab + left g.node = left_new left slab slab_now key g free put in
    let one : length line_now ≡ length (line ++ key ∷ []) = ap (λ (q : List ℕ). length q) queued in
    let two = length-append line (key ∷ []) in
    omega arith

pub no_load : {N : Type 0} (left : N → ℕ) (slab : Slab (TiedNode N)) (line : List ℕ) → slab.slots ≡ [] → line ≡ []
    → load {N = N} left slab line ≡ 0
no_load {N} left slab line none empty =
    let one : left_over {N = N} left slab ≡ 0 = ap (λ (xs : List (Option (TiedNode N))). sum_by (left_in {N = N} left) xs) none in
    let two : length line ≡ 0 = ap (λ (q : List ℕ). length q) empty in
    omega arith

pub none_held : {N : Type 0} (P : N → Type 0) (slab : Slab (TiedNode N)) → slab.slots ≡ [] → AreAll {N = N} P slab
none_held {N} P slab none = λ key e is.
    absurd (none_some e (sym (ap (λ (xs : List (Option (TiedNode N))). get_or xs key None) none) ∙ is))

pub root_handed : {N : Type 0} (nodes : Nodes N) (slab slab_now : Slab (TiedNode N)) (line line_now : List ℕ) (key tree child : ℕ)
    (node : N) (ties : Ties) → get slab key ≡ None → Updates slab slab_now key (Some (with_ties {N = N} node ties))
    → ties ≡ new_ties Logical (Tree tree child) → line_now ≡ line ++ key ∷ []
    → HandsOut {N = N} nodes slab line slab_now line_now tree child node
root_handed {N} nodes slab slab_now line line_now key tree child node ties free put are queued =
    λ t sizes f before s leaves top op sound k there many asks kind is told gave due number.
    subst (λ (q : List ℕ). KeepsRound {N = N} nodes t sizes f before (with_tree s tree (handed_on top op)) slab_now q leaves)
    (sym queued)
    (round_root nodes t sizes f before s slab slab_now line leaves key tree child node sound k free
    (subst (λ (x : Ties). Updates slab slab_now key (Some (with_ties {N = N} node x))) are put) top op there many asks kind is told
    gave due number)
