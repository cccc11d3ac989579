-- A stage of the node whose turn it is, by its moves, in each round that is kept.
use Rattle.std.proofs.Common.{◌≡◌, ◌≢◌, ℕ, ◌+◌, ◌<◌, ◌≤◌, List, [], ◌∷◌, ◌++◌, length, length-append, arith, cond, Option, Some, None, is_some, refl, sym, ap, ◌∙◌, subst}
use Rattle.zio_types.specs.declared.place.Top.{Top}
use Rattle.zio_types.specs.declared.request.ChildKind.{ChildKind}
use Rattle.zio_types.specs.declared.request.Phase.{Phase}
use Rattle.zio_types.specs.declared.request.Phase.TheVariants.{Done}
use Rattle.zio_types.specs.Choices.{Ask}
use Rattle.zio_types.specs.Machine.{Count}
use Rattle.zio_blkptr.specs.declared.pointer.Bp.{Bp}
use Rattle.zio_counts.specs.Tallies.{counted, first_counted}
use Rattle.zio_gang.specs.Attempts.{Terms}
use Rattle.zio_trace.specs.Tasks.{Find}
use Rattle.zio_vqueue.specs.declared.op.Op.{Op}
use Rattle.zio_frames.specs.Frames.{Child, Stack}
use Rattle.zio_frames.specs.Moves.{child_for, handed, next_seat}
use Rattle.zio_exchange.specs.SpaceCalls.{SpaceCall}
use Rattle.zio_exchange.specs.declared.outcome.Outcome.{Outcome}
use Rattle.slab.specs.Slab.{Slab, Updates, get}
use Rattle.zio_turns.specs.Acts.{CanEnd, CanTell, HasEnded, HasGrown, HasTold, HasWaited, step_told, with_ties}
use Rattle.zio_staged.specs.Entries.{count_owing}
use Rattle.zio_staged.specs.Parts.{Nodes}
use Rattle.zio_turns.specs.Rounds.{IsTurn, KeepsRound, SoFar, StepsOn, TreeHears, TreeHearsEarly, with_calls, with_op}
use Rattle.zio_turns.specs.Slabs.{held_of, parent_of, shelf_of}
use Rattle.zio_staged.specs.Stages.{Ends, GoesOn, GoesToLeaf, Grows, IsNow, Tells, Waits}
use Rattle.zio_turns.specs.declared.entry.TiedNode.{TiedNode}
use Rattle.zio_turns.specs.declared.entry.Parent.{Parent as Above}
use Rattle.zio_turns.specs.declared.entry.Parent.TheVariants.{Node, Tree}
use Rattle.zio_turns.specs.declared.step.Step.{Step}
use Rattle.zio_turns.specs.declared.step.Step.TheVariants.{Goes, Leaf as ToLeaf, Rests}
use Rattle.zio_turns.proofs.Finds.{queued_held}
use Rattle.zio_turns.proofs.FoundFits.{one_lies, one_spans}
use Rattle.zio_turns.proofs.MoveOne.{queued_now}
use Rattle.zio_turns.proofs.Queues.{queued_first}
use Rattle.zio_turns.proofs.RoundEnds.{can_end, ends_as, more, round_ends, round_ends_tree}
use Rattle.zio_turns.proofs.RoundGrows.{owing_few, round_grows}
use Rattle.zio_turns.proofs.RoundMoves.{one_counted, round_goes_on, round_goes_to_leaf, round_waits, some_owing}
use Rattle.zio_turns.proofs.RoundNodes.{does_children, it_is_there}
use Rattle.zio_turns.proofs.RoundParents.{from_held}
use Rattle.zio_turns.proofs.RoundTells.{can_tell, round_tells, round_tells_tree}
use Rattle.zio_turns.proofs.Shelves.{exchanged}
use Rattle.zio_turns.proofs.LedgerOwns.{GivesOwn}

module _ {N : Type 0} (nodes : Nodes N) (tops : List Top) (slab : Slab (TiedNode N)) (line : List ℕ) (key : ℕ) where
  -- a key whose turn it is has a node
  pub turn_held : (over : List Top → N → Type 0) → IsTurn {N = N} nodes over tops slab line key
      → (e : TiedNode N) × (get slab key ≡ Some e)
  turn_held over turn =
      let some = turn.keeps in
      let held = queued_held nodes some.terms some.sizes some.forest some.before some.so_far.trees some.so_far.tops
      (shelf_of {N = N} slab) (key ∷ line) turn.leaves some.keeps.still.state key some.keeps.lives line some.keeps.still.kept
      (queued_first key line) in
      from_held {N = N} (get slab key) held.0 held.1

  -- which may run
  pub turn_due : (over : List Top → N → Type 0) → IsTurn {N = N} nodes over tops slab line key
      → (e : TiedNode N) → get slab key ≡ Some e → nodes.due e.node
  turn_due over turn e is =
      let some = turn.keeps in
      let r = it_is_there nodes some.terms some.sizes some.forest some.before some.so_far slab (key ∷ line) turn.leaves key e
      some.keeps is in
      (queued_now nodes some.terms some.sizes some.forest some.before some.so_far.trees some.so_far.tops key r.node r.others
      (shelf_of {N = N} slab) (key ∷ line) turn.leaves r.state (held_of {N = N} e) line r.kept r.held (queued_first key line)).3

module _ {N : Type 0} (nodes : Nodes N) (owns : GivesOwn {N = N} nodes) (over : List Top → N → Type 0) (tops : List Top)
    (slab out slab_now : Slab (TiedNode N)) (line line_now : List ℕ) (key : ℕ) (e : TiedNode N) (calls : List SpaceCall)
    (is : get slab key ≡ Some e) (taken : Updates slab out key None) where
  abbrev On : {S : Type 0} → Step S → Type 0
  On step = StepsOn {N = N} nodes tops calls slab line slab_now line_now key step

  pub steps_next : (node : N) → ((t : Terms) (st : Stack) → IsNow {N = N} nodes tops t e.node st
      → GoesOn {N = N} nodes nodes.gave t e.node st calls node) → nodes.due node
      → Updates out slab_now key (Some (with_ties {N = N} node e.ties)) → line_now ≡ line → On {S = Unit {0}} Goes
  steps_next node moves due put same = λ t sizes f before s leaves sound tops_are right k.
      let r = it_is_there nodes t sizes f before s slab (key ∷ line) leaves key e k is in
      subst (λ (q : List ℕ). KeepsRound {N = N} nodes t sizes f before (with_calls s calls) slab_now (key ∷ q) leaves)
      (sym same)
      (round_goes_on nodes t sizes f before s slab slab_now (key ∷ line) leaves key e owns sound r line (queued_first key line) calls
      right node (moves t r.node.stack (record { tops_are = tops_are; is = r.is; seated = r.seated })) due
      (exchanged slab out slab_now key (with_ties {N = N} node e.ties) taken put))

  pub steps_leaf : (node : N) (op : Op) (leaf : ℕ) (bytes : List ℕ) → ((t : Terms) (st : Stack)
      → IsNow {N = N} nodes tops t e.node st → GoesToLeaf {N = N} nodes nodes.gave t e.node st calls node op leaf bytes)
      → Updates out slab_now key (Some (with_ties {N = N} node e.ties)) → line_now ≡ line → On {S = Unit {0}} (ToLeaf op leaf bytes)
  steps_leaf node op leaf bytes moves put same = λ t sizes f before s leaves sound tops_are right k.
      let r = it_is_there nodes t sizes f before s slab (key ∷ line) leaves key e k is in
      let g = moves t r.node.stack (record { tops_are = tops_are; is = r.is; seated = r.seated }) in
      let span = one_spans nodes t sizes f before s.trees s.tops (shelf_of {N = N} slab) (key ∷ line) leaves r.state key r.node r.others
      g.act sound r.kept g.fresh in (
        g.act,
        g.is_op,
        record {
          lies = one_lies nodes t sizes f before s.trees s.tops (shelf_of {N = N} slab) (key ∷ line) leaves r.state key r.node r.others
              g.act sound r.kept g.fresh;
          spans = span.0;
          ends = span.1;
          keeps = λ leaves_now more.
              subst (λ (q : List ℕ). KeepsRound {N = N} nodes t sizes f before (with_op (with_calls s calls) key g.act)
              slab_now q leaves_now) (sym same)
              (round_goes_to_leaf nodes t sizes f before s slab slab_now (key ∷ line) leaves key e r line
              (queued_first key line) calls g.act g.fresh node g.stays
              (exchanged slab out slab_now key (with_ties {N = N} node e.ties) taken put) leaves_now more);
        },
      )

  pub steps_wait : (node : N) (kind : ChildKind) (phase : Phase) → ((t : Terms) (st : Stack)
      → IsNow {N = N} nodes tops t e.node st → Waits {N = N} nodes nodes.gave t e.node st calls node kind phase) → nodes.due node
      → HasWaited {N = N} out line slab_now line_now key (with_ties {N = N} node e.ties) kind phase → On {S = Unit {0}} Rests
  steps_wait node kind phase moves due has = λ t sizes f before s leaves sound tops_are right k.
      let r = it_is_there nodes t sizes f before s slab (key ∷ line) leaves key e k is in
      let g = moves t r.node.stack (record { tops_are = tops_are; is = r.is; seated = r.seated }) in
      let first : first_counted (kind ∷ []) phase e.ties.counts ≡ Some (record { kind = kind; phase = phase }) =
      one_counted kind phase e.ties.counts (some_owing kind phase e.ties.counts r.node.stack.children r.counts g.owing) in
      let same : line_now ≡ line =
      has.queued ∙ ap (λ (c : Option Count). cond (is_some c) line (line ++ key ∷ [])) first in
      subst (λ (q : List ℕ). KeepsRound {N = N} nodes t sizes f before (with_calls s calls) slab_now q leaves)
      (sym same)
      (round_waits nodes t sizes f before s slab slab_now (key ∷ line) leaves key e r line (queued_first key line) calls kind
      phase g.owing node g.stays due (exchanged slab out slab_now key _ taken has.put))

  -- the count for which it waits isn't 0
  pub steps_first : (node : N) (kind : ChildKind) (phase : Phase) → ((t : Terms) (st : Stack)
      → IsNow {N = N} nodes tops t e.node st → Waits {N = N} nodes nodes.gave t e.node st calls node kind phase)
      → IsTurn {N = N} nodes over tops slab line key
      → first_counted (kind ∷ []) phase e.ties.counts ≡ Some (record { kind = kind; phase = phase })
  steps_first node kind phase moves turn =
      let some = turn.keeps in
      let r = it_is_there nodes some.terms some.sizes some.forest some.before some.so_far slab (key ∷ line) turn.leaves key e
      some.keeps is in
      let g = moves some.terms r.node.stack (record { tops_are = some.tops_are; is = r.is; seated = r.seated }) in
      one_counted kind phase e.ties.counts (some_owing kind phase e.ties.counts r.node.stack.children r.counts g.owing)

  pub steps_grow : (node child : N) (kind : ChildKind) → ((t : Terms) (st : Stack)
      → IsNow {N = N} nodes tops t e.node st → Grows {N = N} nodes nodes.gave t e.node st calls node child kind)
      → nodes.due node → nodes.due child
      → HasGrown {N = N} out line slab_now line_now key (with_ties {N = N} node e.ties) child kind → On {S = Unit {0}} Rests
  steps_grow node child kind moves due due_child has = λ t sizes f before s leaves sound tops_are right k.
      let r = it_is_there nodes t sizes f before s slab (key ∷ line) leaves key e k is in
      round_grows nodes t sizes f before s slab out slab_now line line_now leaves key e calls node child kind sound r right
      (moves t r.node.stack (record { tops_are = tops_are; is = r.is; seated = r.seated })) due due_child taken has

  -- it has one child more than it handed out before, and no more of a kind are open than it has
  pub steps_children : (node child : N) (kind : ChildKind) (children : ℕ) → ((t : Terms) (st : Stack)
      → IsNow {N = N} nodes tops t e.node st → Grows {N = N} nodes nodes.gave t e.node st calls node child kind)
      → IsTurn {N = N} nodes over tops slab line key
      → ((t : Terms) (st : Stack) → nodes.Is t node st → children ≡ length st.children)
      → (children ≡ e.ties.children + 1) × (counted kind Done e.ties.counts < children)
  steps_children node child kind children moves turn many =
      let some = turn.keeps in
      let r = it_is_there nodes some.terms some.sizes some.forest some.before some.so_far slab (key ∷ line) turn.leaves key e
      some.keeps is in
      let g = moves some.terms r.node.stack (record { tops_are = some.tops_are; is = r.is; seated = r.seated }) in
      let now : children ≡ length (handed g.stack g.op).children = many some.terms (handed g.stack g.op) g.is in
      let more : length (g.stack.children ++ child_for (next_seat g.stack) g.op ∷ []) ≡ length g.stack.children + 1 =
      length-append g.stack.children (child_for (next_seat g.stack) g.op ∷ []) in
      let same : length g.stack.children ≡ length r.node.stack.children =
      ap (λ (cs : List Child). length cs) (does_children some.terms g.dids r.node.stack g.stack g.does) in
      let missing : counted kind Done e.ties.counts ≡ count_owing kind Done r.node.stack.children = r.counts kind Done in
      let few : count_owing kind Done r.node.stack.children ≤ length r.node.stack.children =
      owing_few kind Done r.node.stack.children in
      let given : e.ties.children ≡ length r.node.stack.children = r.given in
      (omega arith, omega arith)

  -- ---- it tells

  module _ (node : N) (pointer : Option Bp) (moves : (t : Terms) (st : Stack) → IsNow {N = N} nodes tops t e.node st
      → Tells {N = N} nodes nodes.gave t e.node st calls node pointer) (due : nodes.due node)
      (mid : Slab (TiedNode N)) (put : Updates out mid key (Some (with_ties {N = N} node e.ties))) where
    tells_by : (S : Type 0) (parent : Above) → e.ties.parent ≡ parent
        → HasTold {N = N} nodes over mid line slab_now line_now e.ties.kind parent pointer → On {S = S} (step_told parent)
    tells_by S (Tree tree n) above has = λ t sizes f before s leaves sound tops_are right k.
        let r = it_is_there nodes t sizes f before s slab (key ∷ line) leaves key e k is in
        let now : SoFar = with_calls s calls in
        let told : TreeHearsEarly {N = N} nodes t sizes f before now mid (key ∷ line) leaves tree =
        round_tells_tree nodes over t sizes f before s slab mid line leaves key e calls node pointer r
        (moves t r.node.stack (record { tops_are = tops_are; is = r.is; seated = r.seated })) due
        (exchanged slab out mid key (with_ties {N = N} node e.ties) taken put) tree n (ap parent_of above) in
        subst (λ (b : Slab (TiedNode N)). TreeHearsEarly {N = N} nodes t sizes f before now b (key ∷ line_now) leaves tree)
        (sym has.slab_same)
        (subst (λ (q : List ℕ). TreeHearsEarly {N = N} nodes t sizes f before now mid (key ∷ q) leaves tree) (sym has.line_same) told)
    tells_by S (Node upper n) above has = λ t sizes f before s leaves sound tops_are right k.
        let r = it_is_there nodes t sizes f before s slab (key ∷ line) leaves key e k is in
        round_tells nodes over t sizes f before s slab mid line leaves key e calls node pointer r
        (moves t r.node.stack (record { tops_are = tops_are; is = r.is; seated = r.seated })) due
        (exchanged slab out mid key (with_ties {N = N} node e.ties) taken put) upper n (ap parent_of above) slab_now
        line_now has

    pub steps_ready : {S : Type 0} (step : Step S) → HasTold {N = N} nodes over mid line slab_now line_now e.ties.kind e.ties.parent pointer
        → step ≡ step_told e.ties.parent → On step
    steps_ready {S} step has same = subst (On {S = S}) (sym same) (tells_by S e.ties.parent refl has)

    can_tell_by : (parent : Above) → e.ties.parent ≡ parent → (turn : IsTurn {N = N} nodes over tops slab line key)
        → CanTell {N = N} nodes mid e.ties.kind parent
    can_tell_by (Tree tree n) above turn = tt
    can_tell_by (Node upper n) above turn =
        let some = turn.keeps in
        let r = it_is_there nodes some.terms some.sizes some.forest some.before some.so_far slab (key ∷ line) turn.leaves key e
        some.keeps is in
        can_tell nodes over some.terms some.sizes some.forest some.before some.so_far slab mid line turn.leaves key e
        calls node pointer r (moves some.terms r.node.stack (record { tops_are = some.tops_are; is = r.is; seated = r.seated })) due
        (exchanged slab out mid key (with_ties {N = N} node e.ties) taken put) upper n (ap parent_of above)

    pub steps_can_tell : IsTurn {N = N} nodes over tops slab line key → CanTell {N = N} nodes mid e.ties.kind e.ties.parent
    steps_can_tell turn = can_tell_by e.ties.parent refl turn

  -- ---- it ends

  module _ {S : Type 0} (outcome : Outcome S) (moves : (t : Terms) (st : Stack) → IsNow {N = N} nodes tops t e.node st
      → Ends {N = N} nodes nodes.gave t e.node st calls outcome)
      (finds : (t : Terms) (st : Stack) (a : Ask) → nodes.Is t e.node st → st.outer.op ≢ Find a) where
    ends_by : (parent : Above) → e.ties.parent ≡ parent → (step : Step S)
        → HasEnded {N = N} nodes over tops out line slab_now line_now e.ties.kind parent outcome step → On step
    ends_by (Tree tree n) above step has = subst (On {S = S}) (sym has.1) (λ t sizes f before s leaves sound tops_are right k.
        let r = it_is_there nodes t sizes f before s slab (key ∷ line) leaves key e k is in
        let now : SoFar = with_calls s calls in
        let heard : TreeHears {N = N} nodes t sizes f before now out line leaves tree outcome =
        round_ends_tree nodes over t sizes f before s slab out (key ∷ line) leaves key e calls outcome r
        (moves t r.node.stack (record { tops_are = tops_are; is = r.is; seated = r.seated }))
        (λ a. finds t r.node.stack a r.is) taken sound line (queued_first key line) tree n (ap parent_of above) in
        subst (λ (b : Slab (TiedNode N)). TreeHears {N = N} nodes t sizes f before now b line_now leaves tree outcome)
        (sym has.0.slab_same)
        (subst (λ (q : List ℕ). TreeHears {N = N} nodes t sizes f before now out q leaves tree outcome) (sym has.0.line_same) heard))
    ends_by (Node upper n) above step has = subst (On {S = S}) (sym has.1.1) (λ t sizes f before s leaves sound tops_are right k.
        let r = it_is_there nodes t sizes f before s slab (key ∷ line) leaves key e k is in
        let ends = moves t r.node.stack (record { tops_are = tops_are; is = r.is; seated = r.seated }) in
        let into = more nodes over t sizes f before s slab out (key ∷ line) leaves key e calls outcome r ends
        (λ a. finds t r.node.stack a r.is) taken in
        record {
          op = r.node.stack.outer.op;
          outcome = outcome;
          value = ends.value;
          how = ends_as nodes over t sizes f before s slab out (key ∷ line) leaves key e calls outcome r ends
              (λ a. finds t r.node.stack a r.is) taken;
          handed = has.1.2;
          more = into.more;
          told = into.told;
          keeps = round_ends nodes over t sizes f before s slab out (key ∷ line) leaves key e calls outcome r ends
              (λ a. finds t r.node.stack a r.is) taken upper n (ap parent_of above) sound tops tops_are line (queued_first key line)
              slab_now line_now has.0;
        })

    pub steps_end : (step : Step S) → HasEnded {N = N} nodes over tops out line slab_now line_now e.ties.kind e.ties.parent outcome step
        → On step
    steps_end step has = ends_by e.ties.parent refl step has

    can_end_by : (parent : Above) → e.ties.parent ≡ parent → (turn : IsTurn {N = N} nodes over tops slab line key)
        → CanEnd {N = N} nodes over tops out e.ties.kind parent outcome
    can_end_by (Tree tree n) above turn = tt
    can_end_by (Node upper n) above turn =
        let some = turn.keeps in
        let r = it_is_there nodes some.terms some.sizes some.forest some.before some.so_far slab (key ∷ line) turn.leaves key e
        some.keeps is in
        can_end nodes over some.terms some.sizes some.forest some.before some.so_far slab out (key ∷ line) turn.leaves key e
        calls outcome r (moves some.terms r.node.stack (record { tops_are = some.tops_are; is = r.is; seated = r.seated }))
        (λ a. finds some.terms r.node.stack a r.is) taken upper n (ap parent_of above) tops some.tops_are turn.over_all

    pub steps_can_end : IsTurn {N = N} nodes over tops slab line key
        → CanEnd {N = N} nodes over tops out e.ties.kind e.ties.parent outcome
    steps_can_end turn = can_end_by e.ties.parent refl turn
