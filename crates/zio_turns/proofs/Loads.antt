-- What is left to run falls with each stage and each answer.
use Rattle.std.proofs.Common.{◌≡◌, ℕ, ◌+◌, ◌*◌, ◌<◌, ◌≤◌, List, [], ◌∷◌, ◌++◌, length, length-append, Bool, true, false, cond, Option, Some, None, is_some, sym, ap, ◌∙◌, subst, arith}
use Rattle.zio_types.specs.declared.error.Errno.{Errno}
use Rattle.zio_types.specs.declared.place.Top.{Top}
use Rattle.zio_types.specs.declared.request.Bits.{Bits}
use Rattle.zio_types.specs.declared.request.ChildKind.{ChildKind}
use Rattle.zio_types.specs.declared.request.Phase.{Phase}
use Rattle.zio_types.specs.declared.request.Phase.TheVariants.{Done, Ready}
use Rattle.zio_types.specs.Machine.{Count}
use Rattle.zio_blkptr.specs.declared.pointer.Bp.{Bp}
use Rattle.zio_counts.specs.Tallies.{first_counted, is_last, notified, stalled}
use Rattle.zio_exchange.specs.declared.outcome.Outcome.{Outcome}
use Rattle.slab.specs.Slab.{Slab, Updates, get}
use Rattle.zio_turns.specs.Acts.{HasEnded, HasGrown, HasHeard, HasTold, HasWaited, counting, load_of, new_ties, one_more, step_told, with_ties}
use Rattle.zio_staged.specs.Parts.{Nodes}
use Rattle.zio_turns.specs.Slabs.{left_in, left_over, load}
use Rattle.zio_staged.specs.Stages.{heard_max, told_cost}
use Rattle.zio_turns.specs.declared.entry.TiedNode.{TiedNode}
use Rattle.zio_turns.specs.declared.entry.Parent.{Parent as Above}
use Rattle.zio_turns.specs.declared.entry.Parent.TheVariants.{Node, Tree}
use Rattle.zio_turns.specs.declared.step.Step.{Step}
use Rattle.zio_turns.proofs.Shelves.{exchanged, left_with}

one_longer : (b : Bool) (line line_now : List ℕ) (key : ℕ) → line_now ≡ cond b (line ++ key ∷ []) line
    → length line_now ≤ length line + 1
one_longer b line line_now key e =
    subst (λ (q : List ℕ). length q ≤ length line + 1) (sym e) (by b line key)
  where
    by : (b : Bool) (line : List ℕ) (key : ℕ) → length (cond b (line ++ key ∷ []) line) ≤ length line + 1
    by true line key = let e = length-append line (key ∷ []) in omega arith
    by false line key = omega arith

module _ {N : Type 0} (left : N → ℕ) (slab slab_now : Slab (TiedNode N)) (key : ℕ) (e : TiedNode N) (is : get slab key ≡ Some e) where
  -- one exchanged
  pub left_put : (g : TiedNode N) → Updates slab slab_now key (Some g)
      → left_over {N = N} left slab_now + left e.node ≡ left_over {N = N} left slab + left g.node
  left_put g put =
      let k = left_with left slab slab_now key (Some g) put in
      let same : left_in {N = N} left (get slab key) ≡ left e.node = ap (left_in {N = N} left) is in
      omega arith

  -- one gone
  pub left_gone : Updates slab slab_now key None → left_over {N = N} left slab_now + left e.node ≡ left_over {N = N} left slab
  left_gone gone =
      let k = left_with left slab slab_now key None gone in
      let same : left_in {N = N} left (get slab key) ≡ left e.node = ap (left_in {N = N} left) is in
      omega arith

-- one new
pub left_new : {N : Type 0} (left : N → ℕ) (slab slab_now : Slab (TiedNode N)) (key : ℕ) (g : TiedNode N) → get slab key ≡ None
    → Updates slab slab_now key (Some g) → left_over {N = N} left slab_now ≡ left_over {N = N} left slab + left g.node
left_new {N} left slab slab_now key g free put =
    let k = left_with left slab slab_now key (Some g) put in
    let same : left_in {N = N} left (get slab key) ≡ 0 = ap (left_in {N = N} left) free in
    omega arith

module _ {N : Type 0} (left : N → ℕ) (slab out slab_now : Slab (TiedNode N)) (line line_now : List ℕ) (key : ℕ) (e : TiedNode N)
    (is : get slab key ≡ Some e) (taken : Updates slab out key None) where
  pub less_put : (node : N) (n : ℕ) → Updates out slab_now key (Some (with_ties {N = N} node e.ties)) → left node < left e.node
      → n ≤ 2 → load {N = N} left slab_now line + n < load {N = N} left slab line + 1
  less_put node n put less few =
      let k = left_put left slab slab_now key e is (with_ties {N = N} node e.ties)
      (exchanged slab out slab_now key (with_ties {N = N} node e.ties) taken put) in
      omega arith

  pub less_waited : (node : N) (kind : ChildKind) (phase : Phase)
      → HasWaited {N = N} out line slab_now line_now key (with_ties {N = N} node e.ties) kind phase → left node ≤ left e.node
      → first_counted (kind ∷ []) phase e.ties.counts ≡ Some (record { kind = kind; phase = phase })
      → load {N = N} left slab_now line_now + 0 < load {N = N} left slab line + 1
  less_waited node kind phase has less first =
      let same : length line_now ≡ length line =
      ap (λ (q : List ℕ). length q) (has.queued ∙ ap (λ (c : Option Count). cond (is_some c) line (line ++ key ∷ [])) first) in
      let now : TiedNode N =
      with_ties {N = N} node (counting e.ties (stalled (first_counted (kind ∷ []) phase e.ties.counts) e.ties.counts)) in
      let k = left_put left slab slab_now key e is now (exchanged slab out slab_now key now taken has.put) in
      omega arith

  pub less_grown : (node child : N) (kind : ChildKind)
      → HasGrown {N = N} out line slab_now line_now key (with_ties {N = N} node e.ties) child kind
      → left node + left child < left e.node → load {N = N} left slab_now line_now + 0 < load {N = N} left slab line + 1
  less_grown node child kind has less =
      let one : length line_now ≡ length ((line ++ has.at ∷ []) ++ key ∷ []) = ap (λ (q : List ℕ). length q) has.queued in
      let two = length-append (line ++ has.at ∷ []) (key ∷ []) in
      let three = length-append line (has.at ∷ []) in
      let now : TiedNode N = with_ties {N = N} node (one_more kind e.ties) in
      let k = left_put left slab has.mid key e is now (exchanged slab out has.mid key now taken has.put) in
      let l = left_new left has.mid slab_now has.at (with_ties {N = N} child (new_ties kind (Node key e.ties.children))) has.free
      has.added in
      omega arith

module _ {N : Type 0} (nodes : Nodes N) (over : List Top → N → Type 0) (slab mid slab_now : Slab (TiedNode N)) (line line_now : List ℕ)
    (key : ℕ) (e : TiedNode N) (is : get slab key ≡ Some e) where
  -- what a parent hears
  less_heard : (kind : ChildKind) (phase : Phase) (above : ℕ) (was : TiedNode N) (up : N) (error : Option Errno) (bits : Bits)
      → HasHeard {N = N} nodes mid line slab_now line_now kind phase error bits above was up
      → 3 * left_over {N = N} nodes.left slab_now + length line_now ≤ 3 * left_over {N = N} nodes.left mid + length line + 13
  less_heard kind phase above was up error bits has =
      let now : TiedNode N = with_ties {N = N} up (counting was.ties (notified kind phase error bits was.ties.counts)) in
      let k = left_put nodes.left mid slab_now above was has.there now has.put in
      let longer = one_longer (is_last kind phase was.ties.counts) line line_now above has.queued in
      let rises : nodes.left up ≤ nodes.left was.node + heard_max = has.left in
      omega arith

  pub less_told : {S : Type 0} (node : N) (parent : Above) (kind : ChildKind) (pointer : Option Bp) (step : Step S) → step ≡ step_told parent
      → Updates slab mid key (Some (with_ties {N = N} node e.ties))
      → HasTold {N = N} nodes over mid line slab_now line_now kind parent pointer → nodes.left node + told_cost ≤ nodes.left e.node
      → load {N = N} nodes.left slab_now line_now + load_of step < load {N = N} nodes.left slab line + 1
  less_told node (Tree tree n) kind pointer step same put has less =
      let k = left_put nodes.left slab mid key e is (with_ties {N = N} node e.ties) put in
      let one : left_over {N = N} nodes.left slab_now ≡ left_over {N = N} nodes.left mid =
      ap (left_over {N = N} nodes.left) has.slab_same in
      let two : length line_now ≡ length line = ap (λ (q : List ℕ). length q) has.line_same in
      let three : load_of step ≡ 1 = ap load_of same in
      omega arith
  less_told node (Node above n) kind pointer step same put has less =
      let k = left_put nodes.left slab mid key e is (with_ties {N = N} node e.ties) put in
      let h = less_heard kind Ready above has.was has.up has.error has.bits has.heard in
      let three : load_of step ≡ 1 = ap load_of same in
      omega arith

  pub less_ended : {S : Type 0} (tops : List Top) (parent : Above) (kind : ChildKind) (outcome : Outcome S) (step : Step S)
      → Updates slab mid key None → HasEnded {N = N} nodes over tops mid line slab_now line_now kind parent outcome step
      → told_cost ≤ nodes.left e.node
      → load {N = N} nodes.left slab_now line_now + load_of step < load {N = N} nodes.left slab line + 1
  less_ended tops (Tree tree n) kind outcome step gone has less =
      let k = left_gone nodes.left slab mid key e is gone in
      let one : left_over {N = N} nodes.left slab_now ≡ left_over {N = N} nodes.left mid =
      ap (left_over {N = N} nodes.left) has.0.slab_same in
      let two : length line_now ≡ length line = ap (λ (q : List ℕ). length q) has.0.line_same in
      let three : load_of step ≡ 0 = ap load_of has.1 in
      omega arith
  less_ended tops (Node above n) kind outcome step gone has less =
      let k = left_gone nodes.left slab mid key e is gone in
      let h = less_heard kind Done above has.0.was has.0.up has.0.error has.0.bits has.0.heard in
      let three : load_of step ≡ 0 = ap load_of has.1.1 in
      omega arith

-- an answer leaves less than a key at a leaf counts
pub less_answered : {N : Type 0} (left : N → ℕ) (slab slab_now : Slab (TiedNode N)) (line line_now : List ℕ) (key : ℕ) (e : TiedNode N)
    (node : N) → get slab key ≡ Some e → Updates slab slab_now key (Some (with_ties {N = N} node e.ties))
    → left node ≤ left e.node → line_now ≡ line ++ key ∷ []
    → load {N = N} left slab_now line_now < load {N = N} left slab line + 2
less_answered {N} left slab slab_now line line_now key e node is put less queued =
    let k = left_put left slab slab_now key e is (with_ties {N = N} node e.ties) put in
    let one : length line_now ≡ length (line ++ key ∷ []) = ap (λ (q : List ℕ). length q) queued in
    let two = length-append line (key ∷ []) in
    omega arith
