-- A round that an engine keeps, where a node hands out a child.
use Rattle.std.proofs.Common.{◌≡◌, ◌≢◌, ℕ, ◌+◌, ◌<◌, ◌≤◌, List, [], ◌∷◌, ◌++◌, length, length-append, Bool, true, false, cond, Some, None, refl, sym, ap, ◌∙◌, subst, arith, ◌⊎◌}
use Rattle.zio_types.specs.declared.request.ChildKind.{ChildKind}
use Rattle.zio_types.specs.declared.request.Phase.{Phase}
use Rattle.zio_types.specs.declared.request.Phase.TheVariants.{Done, Ready}
use Rattle.zio_types.specs.Choices.{Choice}
use Rattle.zio_types.specs.Machine.{fresh, same_kind}
use Rattle.zio_counts.specs.Tallies.{Tally, count_end, counted, raised, tally_of}
use Rattle.zio_places.specs.Tables.{total}
use Rattle.zio_gang.specs.Attempts.{Terms}
use Rattle.zio_gang.specs.Journals.{AreLawful}
use Rattle.zio_gang.specs.Trees.{sizes_of}
use Rattle.zio_trace.specs.Families.{Forest}
use Rattle.zio_trace.specs.Keys.{bit}
use Rattle.zio_trace.specs.SoundRounds.{IsSoundRound}
use Rattle.zio_frames.specs.Frames.{Child, Flying, kind_of_task}
use Rattle.zio_frames.specs.Moves.{child_for, choices_of, handed, next_seat}
use Rattle.zio_frames.specs.OfRound.{IsOfRound}
use Rattle.slab.specs.Slab.{Slab, Updates, get}
use Rattle.zio_exchange.specs.Outcomes.{held_by}
use Rattle.zio_exchange.specs.SpaceCalls.{SpaceCall, calls_back, calls_by}
use Rattle.zio_turns.specs.Acts.{HasGrown, new_ties, one_more, with_ties}
use Rattle.zio_staged.specs.Entries.{AreWith, CountsAre, Held, OfNode, OneMore, count_owing, flying_at, grown, handed_on, live_of, new_flying, new_held, owes, owing, with_both, with_stack}
use Rattle.zio_turns.specs.Desks.{backs_in, found_in}
use Rattle.zio_turns.specs.Engine.{StillKept}
use Rattle.zio_turns.specs.Ledgers.{IsLedger, all_ended, gave_over}
use Rattle.zio_staged.specs.Parts.{Nodes}
use Rattle.zio_turns.specs.Rests.{numbers_ended}
use Rattle.zio_turns.specs.Rounds.{AreRight, Before, KeepsRound, SoFar, choices_in, with_calls}
use Rattle.zio_turns.specs.Slabs.{held_if, held_of, shelf_of}
use Rattle.zio_staged.specs.Stages.{Grows}
use Rattle.zio_turns.specs.declared.entry.TiedNode.{TiedNode}
use Rattle.zio_turns.specs.declared.entry.Parent.TheVariants.{Node}
use Rattle.zio_turns.specs.Claims.{IsNoSettle}
use Rattle.zio_turns.proofs.Callings.{WereRight, were_right}
use Rattle.zio_turns.proofs.ClaimMoves.{claims_go_on, claims_grow, handed_fewer, handed_op, hands_turn}
use Rattle.zio_turns.proofs.ClaimTurns.{claim_alone}
use Rattle.zio_turns.proofs.DoesLemmas.{append_none}
use Rattle.zio_turns.proofs.Kept.{world}
use Rattle.zio_turns.proofs.LeafOps.{theirs_with}
use Rattle.zio_turns.proofs.LedgerDids.{HasDone, does_itself, does_ops}
use Rattle.zio_turns.proofs.LedgerHands.{hands_does, hands_handed}
use Rattle.zio_turns.proofs.LedgerHears.{handed_ended, handed_held, handed_op_rests, handed_rests}
use Rattle.zio_turns.proofs.LedgerMoves.{backs_did, booked, ledger_child, ledger_moves, backs_are}
use Rattle.zio_turns.proofs.LedgerSlabs.{gave_more, gave_new}
use Rattle.zio_turns.proofs.Links.{free_there}
use Rattle.zio_turns.proofs.Lives.{with_first, with_more}
use Rattle.zio_turns.proofs.MoveGrow.{one_grows}
use Rattle.zio_turns.proofs.MoveOne.{queued_now}
use Rattle.zio_turns.proofs.Queues.{queued_first, queued_last}
use Rattle.zio_turns.proofs.RoundNodes.{IsThere, does_children, still_as}
use Rattle.zio_turns.proofs.RoundParents.{second_of_round}
use Rattle.zio_turns.proofs.Shelves.{exchanged, none_some, numbered_with, shelf_two}
use Rattle.zio_turns.proofs.SizeMoves.{handed_sizes, measured, measured_all}
use Rattle.std.specs.List.{AllByRecursion}
use Rattle.std.specs.Prelude.{Contains}
use Rattle.zio_types.specs.declared.place.Place.{Place}

-- one that isn't ready hasn't ended
owes_less : (kind : ChildKind) (c : Child) → owing kind Ready c ≤ owing kind Done c
owes_less kind c = by (same_kind c.kind kind) c.told c.ended
  where
    by : (b told ended : Bool) → cond b (bit (cond told false (cond ended false true))) 0 ≤ cond b (bit (cond ended false true)) 0
    by false told ended = omega arith
    by true true ended = omega arith
    by true false true = omega arith
    by true false false = omega arith

ready_less : (kind : ChildKind) (cs : List Child) → count_owing kind Ready cs ≤ count_owing kind Done cs
ready_less kind [] = omega arith
ready_less kind (c ∷ cs) =
    let a : owing kind Ready c ≤ owing kind Done c = owes_less kind c in
    let b : count_owing kind Ready cs ≤ count_owing kind Done cs = ready_less kind cs in
    omega arith

-- no more are missing than there are
pub owing_few : (kind : ChildKind) (phase : Phase) (cs : List Child) → count_owing kind phase cs ≤ length cs
owing_few kind phase [] = omega arith
owing_few kind phase (c ∷ cs) =
    let a : owing kind phase c ≤ 1 = by (same_kind c.kind kind) (owes phase c) in
    let b : count_owing kind phase cs ≤ length cs = owing_few kind phase cs in
    omega arith
  where
    by : (b o : Bool) → cond b (bit o) 0 ≤ 1
    by true true = omega arith
    by true false = omega arith
    by false o = omega arith

counted_less : (kind : ChildKind) (x : Tally) (cs : List Child) (n : ℕ) → CountsAre x cs → counted kind Done x < n
    → counted kind Ready x < n
counted_less kind x cs n are h =
    let a : counted kind Ready x ≡ count_owing kind Ready cs = are kind Ready in
    let b : counted kind Done x ≡ count_owing kind Done cs = are kind Done in
    let c : count_owing kind Ready cs ≤ count_owing kind Done cs = ready_less kind cs in
    omega arith

-- the child comes behind the others, and its parent behind it
both_queued : (key child : ℕ) (line : List ℕ) → OneMore child (key ∷ line) ((line ++ child ∷ []) ++ key ∷ [])
both_queued key child line = record {
  times = λ k.
      let a = (queued_last child line).times k in
      let b = (queued_last key (line ++ child ∷ [])).times k in
      let c = (queued_first key line).times k in
      omega arith;
}

module _ {N : Type 0} (nodes : Nodes N) (t : Terms) (sizes : ℕ → ℕ) (f : Forest) (before : Before)
    (s : SoFar) (slab out slab_now : Slab (TiedNode N)) (line line_now leaves : List ℕ) (key : ℕ) (e : TiedNode N)
    (calls : List SpaceCall) (node child : N) (kind : ChildKind) where
  pub round_grows : IsSoundRound t sizes f → (r : IsThere {N = N} nodes t sizes f before s slab (key ∷ line) leaves key e)
      → AreRight t s.entries calls → Grows {N = N} nodes nodes.gave t e.node r.node.stack calls node child kind
      → nodes.due node → nodes.due child → Updates slab out key None
      → HasGrown {N = N} out line slab_now line_now key (with_ties {N = N} node e.ties) child kind
      → KeepsRound {N = N} nodes t sizes f before (with_calls s calls) slab_now line_now leaves
  round_grows sound r right g due due_child taken has =
      let by : calls ≡ calls_by g.dids ++ calls_back [] = g.calls_are ∙ sym (append_none (calls_by g.dids)) in
      let were : WereRight t s.entries calls g.dids = were_right t s.entries calls g.dids [] by right in
      let lawful = subst (λ (cs : List Choice). AreLawful (sizes_of t.setting.tops) t.used (cs ++ choices_of g.dids))
      (sym r.entries_are) were.lawful in
      let parent_now : TiedNode N = with_ties {N = N} node (one_more kind e.ties) in
      let child_now : TiedNode N = with_ties {N = N} child (new_ties kind (Node key e.ties.children)) in
      let put : Updates slab has.mid key (Some parent_now) = exchanged slab out has.mid key parent_now taken has.put in
      let other : has.at ≢ key = λ i. none_some parent_now (sym has.free ∙ ap (get has.mid) i ∙ put.changed) in
      let free : get slab has.at ≡ None = sym (put.others has.at other) ∙ has.free in
      let both = shelf_two slab has.mid slab_now key has.at (Some parent_now) child_now other put has.added in
      let h : Held N = held_of {N = N} e in
      let both_kind = subst (λ (k : ChildKind). AreWith (shelf_of {N = N} slab) key
      (Some (with_both {N = N} h node (raised k e.ties.counts))) has.at
      (Some (record { node = child; kind = k; parent = OfNode key e.ties.children; tally = tally_of fresh })) (shelf_of {N = N} slab_now))
      g.of_kind both in
      let both_now : AreWith (shelf_of {N = N} slab) key (Some (grown {N = N} h node g.op)) has.at
      (Some (new_held {N = N} child g.op (OfNode key (length r.node.stack.children)))) (shelf_of {N = N} slab_now) =
      subst (λ (n : ℕ). AreWith (shelf_of {N = N} slab) key (Some (grown {N = N} h node g.op)) has.at
      (Some (new_held {N = N} child g.op (OfNode key n))) (shelf_of {N = N} slab_now)) r.given both_kind in
      let room : counted (kind_of_task g.op) Ready e.ties.counts < count_end =
      counted_less (kind_of_task g.op) e.ties.counts r.node.stack.children count_end r.counts
      (subst (λ (k : ChildKind). counted k Done e.ties.counts < count_end) g.of_kind has.room) in
      let y : Flying = handed_on (with_stack r.node g.stack) g.op in
      let z : Flying = new_flying (with_stack r.node g.stack) g.op in
      let one_more_child : length (g.stack.children ++ child_for (next_seat g.stack) g.op ∷ []) ≡ length g.stack.children + 1 =
      length-append g.stack.children (child_for (next_seat g.stack) g.op ∷ []) in
      let numbers : e.ties.children + 1 ≡ length y.stack.children =
      ap (λ (n : ℕ). n + 1)
      (r.given ∙ ap (λ (cs : List Child). length cs) (sym (does_children t g.dids r.node.stack g.stack g.does)))
      ∙ sym one_more_child in
      let done : HasDone r.node.stack g.stack (calls_by g.dids) =
      does_itself t g.dids r.node.stack g.stack g.does g.opens r.seated r.ledger.hands.0 in
      let grown_by : IsLedger {N = N} nodes t f (booked s.books calls) (s.entries ++ choices_in calls) s.tops s.trees
      (live_of key y ∷ r.others) has.mid =
      ledger_moves nodes t f s.books s.entries s.tops s.trees slab has.mid calls key r.node y r.others r.ledger
      (handed_ended g.stack g.op ∙ done.ended)
      (λ w. handed_held g.stack g.op w done.stands ∙ done.held w ∙ ap (λ (n : ℕ). total w (held_by r.node.stack) + n)
      (sym (ap (λ (cs : List SpaceCall). total w (found_in cs)) g.calls_are)))
      (hands_handed g.stack g.op done.stands.full (hands_does t g.dids r.node.stack g.stack g.does g.opens r.ledger.hands.0))
      (handed_sizes t r.seen g.stack g.op (measured_all t r.seen g.dids r.node.stack g.stack g.does
      (measured t f r.seen r.node.stack r.seated r.of_round r.ledger.sizes.0)))
      (subst (AllByRecursion (λ (p : Place). Contains (held_by y.stack) p ⊎ Contains t.used p))
      (sym (ap backs_in (g.calls_are ∙ sym (append_none (calls_by g.dids))) ∙ backs_are g.dids [])) tt)
      (λ w. gave_more nodes slab has.mid key w e parent_now [] r.there put (g.gave_same ∙ sym (append_none (nodes.gave e.node)))
      ∙ ap (λ (n : ℕ). gave_over {N = N} nodes w slab + n)
      (sym (ap (λ (cs : List SpaceCall). total w (backs_in cs)) (g.calls_are ∙ sym (append_none (calls_by g.dids)))
      ∙ backs_did w g.dids [])))
      (λ ended k. handed_rests g.stack g.op f ended done.stands (done.rests f ended k))
      (claims_go_on nodes t sizes f before s slab (key ∷ line) leaves key e sound r calls g.dids [] g.stack by g.does lawful
      (handed g.stack g.op) (handed_fewer g.stack g.op) (handed_op g.stack g.op)) in
      let grows : StillKept {N = N} nodes t sizes f before s.trees s.tops (live_of has.at z ∷ live_of key y ∷ r.others)
      (shelf_of {N = N} slab_now) line_now leaves (r.state.entries ++ choices_of g.dids) r.state.images =
      one_grows nodes t sizes f before s.trees s.tops (shelf_of {N = N} slab) (key ∷ line) leaves r.state key has.at r.node
      r.others h sound r.kept r.held line (queued_first key line) g.dids g.stack g.does were.claims lawful g.op g.part g.asks
      room node child g.is g.told due g.child_is g.child_told due_child (ap (held_if {N = N}) free) (shelf_of {N = N} slab_now) both_now
      line_now (subst (λ (q : List ℕ). OneMore has.at (key ∷ line) q) (sym has.queued) (both_queued key has.at line)) in
      let of_round : (seen : List Choice) × IsOfRound t f seen y.stack =
      second_of_round nodes t sizes f before s slab_now line_now leaves key e (live_of has.at z) (live_of key y) r.others
      grows.state grows.kept in
      record {
        lives = live_of has.at z ∷ live_of key y ∷ r.others;
        still = still_as nodes t sizes f before s.trees s.tops (live_of has.at z ∷ live_of key y ∷ r.others)
            (shelf_of {N = N} slab_now) line_now leaves (r.state.entries ++ choices_of g.dids) (s.entries ++ choices_in calls)
            r.state.images s.images grows
            (ap (λ (cs : List Choice). cs ++ choices_of g.dids) r.entries_are
            ∙ ap (λ (cs : List Choice). s.entries ++ cs) (sym were.same))
            r.images_are;
        numbered = numbered_with has.mid slab_now has.at child_now (flying_at (live_of key y ∷ r.others))
            (flying_at (live_of has.at z ∷ live_of key y ∷ r.others)) z has.added (with_more has.at z (live_of key y ∷ r.others)) refl
            (numbered_with slab has.mid key parent_now (flying_at (live_of key r.node ∷ r.others))
            (flying_at (live_of key y ∷ r.others)) y put (with_first key r.node y r.others) numbers r.numbered);
        theirs = theirs_with (flying_at (live_of key y ∷ r.others)) (flying_at (live_of has.at z ∷ live_of key y ∷ r.others)) leaves
            s.ops has.at (Some z) (with_more has.at z (live_of key y ∷ r.others))
            (free_there nodes t (world {N = N} s.tops (live_of key r.node ∷ r.others) (shelf_of {N = N} slab) (key ∷ line) leaves)
            has.at r.kept.linked (ap (held_if {N = N}) free)).2
            (theirs_with (flying_at (live_of key r.node ∷ r.others)) (flying_at (live_of key y ∷ r.others)) leaves s.ops key (Some y)
            (with_first key r.node y r.others)
            (queued_now nodes t sizes f before s.trees s.tops key r.node r.others (shelf_of {N = N} slab) (key ∷ line) leaves r.state
            h line r.kept r.held (queued_first key line)).1
            r.theirs);
        ledger = ledger_child nodes t f (booked s.books calls) (s.entries ++ choices_in calls) s.tops s.trees has.mid slab_now has.at
            (with_stack r.node g.stack) g.op (live_of key y ∷ r.others) grown_by
            (λ w. gave_new nodes has.mid slab_now has.at w child_now has.free has.added g.child_gave)
            (handed_op_rests g.stack g.op t f of_round.0 (numbers_ended (all_ended s.books.done)) done.stands
            (done.rests f (numbers_ended (all_ended s.books.done)) r.ledger.rests.nodes.0) g.asks of_round.1.outer)
            (claims_grow nodes t sizes f before s slab (key ∷ line) leaves key e sound r calls g.dids [] g.stack by g.does lawful
            (live_of key y) (live_of has.at z) g.op refl (λ h.
            hands_turn t f of_round.0 g.stack g.op (claim_alone t sizes f sound h)
            (subst IsNoSettle (sym (does_ops t g.dids r.node.stack g.stack g.does)) (r.ledger.claims.once h).parts.0) done.stands
            of_round.1.outer g.asks)
            grown_by.claims);
      }
