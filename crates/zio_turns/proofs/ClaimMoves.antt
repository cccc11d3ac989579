-- Places are claimed once, where a node goes on, a tree hands out its attempt, and where a tree hears of it.
use Rattle.std.proofs.Common.{◌≡◌, ℕ, ◌+◌, ◌≤◌, List, [], ◌∷◌, ◌++◌, length, slice_get, slice_set, Bool, true, false, Option, Some, None, ◌⊎◌, inl, inr, Contains, refl, sym, ap, ◌∙◌, subst, arith}
use Rattle.std.specs.List.{AllByRecursion}
use Rattle.std.proofs.lemmas.List.{append-nil}
use Rattle.zio_types.specs.declared.place.Place.{Place}
use Rattle.zio_types.specs.declared.request.ChildKind.TheVariants.{Logical}
use Rattle.zio_types.specs.Choices.{Choice}
use Rattle.zio_trace.proofs.ListLemmas.{contains_first, contains_later}
use Rattle.zio_cksum.proofs.AllLemmas.{all_append}
use Rattle.zio_gang.specs.declared.tree.Tree.{Tree}
use Rattle.zio_gang.specs.Attempts.{Pending, Terms}
use Rattle.zio_gang.specs.Journals.{AreLawful}
use Rattle.zio_gang.specs.Trees.{sizes_of}
use Rattle.zio_trace.specs.Families.{Forest, NoTrees, flat}
use Rattle.zio_trace.specs.Plans.{plan}
use Rattle.zio_trace.specs.Programs.{Ends}
use Rattle.zio_trace.specs.SoundRounds.{HasClaim, IsSoundRound}
use Rattle.zio_trace.specs.Tasks.{Attempt, ReadCopies, ReadHeads, ReadTree, Settle, Task, Value, WriteCopies, attempted}
use Rattle.zio_frames.specs.Answering.{NextAnswered}
use Rattle.zio_frames.specs.Frames.{Child, Flying, Frame, Inner, Stack, asking, asking_in, fresh_stack, kind_of_task, with_asked}
use Rattle.zio_frames.specs.Moves.{AsksNext, Chose, Closed, Did, DoesAll, IsEnded, Opened, Took, choices_of, handed, heard_early, heard_of, set_at, with_asking}
use Rattle.zio_frames.specs.OfRound.{IsFrameOf, IsTaskOf}
use Rattle.zio_frames.specs.Slots.{Heard, IsOut, Slot, left_behind_slots, told_in}
use Rattle.zio_blkptr.specs.declared.pointer.Bp.{Bp}
use Rattle.zio_exchange.specs.WithinParts.{IsDoneWithin}
use Rattle.zio_exchange.specs.SpaceCalls.{SpaceCall, calls_back, calls_by}
use Rattle.slab.specs.Slab.{Slab}
use Rattle.zio_turns.specs.Attempting.{IsSettle}
use Rattle.zio_turns.specs.Claims.{ClaimsOnce, IsNoSettle, LeavesNothing, none_asked, one_for, turn_left, turn_of, turn_of_tree}
use Rattle.zio_turns.specs.Desks.{claims_asked, claims_in}
use Rattle.zio_staged.specs.Entries.{Live, handed_on, live_of, new_flying}
use Rattle.zio_turns.specs.Ledgers.{IsOfTree}
use Rattle.zio_staged.specs.Parts.{Nodes}
use Rattle.zio_turns.specs.Rounds.{Before, SoFar}
use Rattle.zio_turns.specs.Slabs.{shelf_of}
use Rattle.zio_turns.specs.declared.entry.TiedNode.{TiedNode}
use Rattle.zio_turns.proofs.ClaimLedger.{first_change, one_more_turn, one_most, set_asked, set_quiet, set_turns, tree_change, turns_first}
use Rattle.zio_turns.proofs.ClaimTurns.{IsAlone, IsPlain, LeftNone, are_first, asks_no_try, claim_ends, handed_turn, hands_first, no_settle, none_under, plain_asks, plain_turn, root_claims, turn_does_all, turn_more}
use Rattle.zio_turns.proofs.FoundFits.{one_takes, one_turns}
use Rattle.zio_turns.proofs.LedgerDids.{InnerStands, Stands, does_ops}
use Rattle.zio_turns.proofs.RoundNodes.{IsThere}
use Rattle.zio_turns.proofs.Withins.{ends_left}

-- ---- what was claimed

back_claims : (gone : List Place) → claims_in (calls_back gone) ≡ []
back_claims [] = refl
back_claims (p ∷ gone) = back_claims gone

back_asks : (gone : List Place) → claims_asked (calls_back gone) ≡ 0
back_asks [] = refl
back_asks (p ∷ gone) = let rest = back_asks gone in omega arith

-- nothing was, or places were taken
claims_some : (dids : List Did) (gone : List Place) → (claims_in (calls_by dids ++ calls_back gone) ≡ [])
    ⊎ ((tree : Tree) × Contains dids (Took tree true))
claims_some [] gone = inl (back_claims gone)
claims_some (Opened op ∷ dids) gone = elim (claims_some dids gone) [
  | inl none ↦ inl none
  | inr some ↦ inr (some.0, contains_later (Opened op) dids (Took some.0 true) some.1)
]
claims_some (Closed v ∷ dids) gone = elim (claims_some dids gone) [
  | inl none ↦ inl none
  | inr some ↦ inr (some.0, contains_later (Closed v) dids (Took some.0 true) some.1)
]
claims_some (Chose c ∷ dids) gone = elim (claims_some dids gone) [
  | inl none ↦ inl none
  | inr some ↦ inr (some.0, contains_later (Chose c) dids (Took some.0 true) some.1)
]
claims_some (Took tree true ∷ dids) gone = inr (tree, contains_first (Took tree true) dids)
claims_some (Took tree false ∷ dids) gone = elim (claims_some dids gone) [
  | inl none ↦ inl none
  | inr some ↦ inr (some.0, contains_later (Took tree false) dids (Took some.0 true) some.1)
]

-- none were to be, or some were taken or weren't free
pub asks_some : (dids : List Did) (gone : List Place) → (claims_asked (calls_by dids ++ calls_back gone) ≡ 0)
    ⊎ ((tree : Tree) × (free : Bool) × Contains dids (Took tree free))
asks_some [] gone = inl (back_asks gone)
asks_some (Opened op ∷ dids) gone = elim (asks_some dids gone) [
  | inl none ↦ inl none
  | inr some ↦ inr (some.0, some.1, contains_later (Opened op) dids (Took some.0 some.1) some.2)
]
asks_some (Closed v ∷ dids) gone = elim (asks_some dids gone) [
  | inl none ↦ inl none
  | inr some ↦ inr (some.0, some.1, contains_later (Closed v) dids (Took some.0 some.1) some.2)
]
asks_some (Chose c ∷ dids) gone = elim (asks_some dids gone) [
  | inl none ↦ inl (omega (arith, none))
  | inr some ↦ inr (some.0, some.1, contains_later (Chose c) dids (Took some.0 some.1) some.2)
]
asks_some (Took tree free ∷ dids) gone = inr (tree, free, contains_first (Took tree free) dids)

-- ---- a node goes on

module _ {N : Type 0} (nodes : Nodes N) (t : Terms) (sizes : ℕ → ℕ) (f : Forest) (before : Before)
    (s : SoFar) (slab : Slab (TiedNode N)) (queue leaves : List ℕ) (key : ℕ) (e : TiedNode N) (sound : IsSoundRound t sizes f)
    (r : IsThere {N = N} nodes t sizes f before s slab queue leaves key e) (calls : List SpaceCall) (dids : List Did)
    (gone : List Place) (st : Stack) (are : calls ≡ calls_by dids ++ calls_back gone) (does : DoesAll t dids r.node.stack st)
    (lawful : AreLawful (sizes_of t.setting.tops) t.used (r.state.entries ++ choices_of dids)) where
  abbrev now : List Place
  now = s.books.claimed ++ claims_in calls

  record Claimed : Type 0 where
    pub alone : (now ≡ []) ⊎ HasClaim f
    pub less : turn_of st + one_for now ≤ turn_of r.node.stack + one_for s.books.claimed

  claimed : Claimed
  claimed = elim (claims_some dids gone) [
    | inl none ↦
        let same : now ≡ s.books.claimed =
        ap (λ (cs : List SpaceCall). s.books.claimed ++ claims_in cs) are
        ∙ (ap (λ (ps : List Place). s.books.claimed ++ ps) none ∙ append-nil s.books.claimed) in
        let count : one_for now ≡ one_for s.books.claimed = ap one_for same in
        let fewer = turn_does_all t dids r.node.stack st does in
        record {
          alone = subst (λ (ps : List Place). (ps ≡ []) ⊎ HasClaim f) (sym same) r.ledger.claims.alone;
          less = omega arith;
        }
    | inr some ↦
        let turns = one_turns nodes t sizes f before s.trees s.tops (shelf_of {N = N} slab) queue leaves r.state key r.node r.others
        dids st some.0 true sound r.kept does lawful some.1 in
        let most = one_most now in
        record {
          alone = inr (one_takes nodes t sizes f before s.trees s.tops (shelf_of {N = N} slab) queue leaves r.state key r.node
              r.others dids st some.0 true sound r.kept does lawful some.1);
          less = omega (arith, turns.0, turns.1);
        }
  ]

  pub claims_go_on : (y : Stack) → turn_of y ≤ turn_of st → y.outer.op ≡ st.outer.op
      → ClaimsOnce f now s.tops (live_of key (record { at = r.node.at; stack = y }) ∷ r.others)
  claims_go_on y fewer op =
      first_change f s.books.claimed s.tops (live_of key r.node) (live_of key (record { at = r.node.at; stack = y })) r.others now
      r.ledger.claims claimed.alone (λ h. let l = claimed.less in omega arith)
      (subst IsNoSettle (sym (op ∙ does_ops t dids r.node.stack st does)))

  -- and hands out a child
  pub claims_grow : (y z : Live) (op : Task) → z.stack ≡ fresh_stack op
      → (HasClaim f → (turn_of y.stack + turn_left op [] ≤ turn_of st) × IsNoSettle op)
      → ClaimsOnce f now s.tops (y ∷ r.others) → ClaimsOnce f now s.tops (z ∷ y ∷ r.others)
  claims_grow y z op fresh both c =
      let turn : turn_of z.stack ≡ turn_left op [] = ap turn_of fresh in
      one_more_turn f now s.tops z (y ∷ r.others) c (λ h.
      let few = (r.ledger.claims.once h).few in
      let less = claimed.less in
      let part = (both h).0 in
      let one = turns_first (live_of key r.node) r.others in
      let two = turns_first y r.others in
      omega arith)
      (λ h. subst (λ (x : Stack). IsNoSettle x.outer.op) (sym fresh) (both h).1)

-- ---- it hands out a child

within_plain : (op : Task) → IsDoneWithin op → IsPlain op
within_plain (ReadCopies repair test len places) h = (refl, refl)
within_plain (WriteCopies bytes places) h = (refl, refl)
within_plain (ReadHeads look levels path bp) h = (refl, refl)
within_plain (ReadTree tree) h = (refl, refl)
within_plain _ h = absurd h

fewer_asking : (st : Stack) (op : Task) (o : Option Inner) → turn_of (with_asking st o op) ≤ turn_of st
fewer_asking st op None = turn_more st.outer.op st.outer.asked op
fewer_asking st op (Some i) = omega arith

pub handed_fewer : (st : Stack) (op : Task) → turn_of (handed st op) ≤ turn_of st
handed_fewer st op = fewer_asking st op st.inner

op_asking : (st : Stack) (op : Task) (o : Option Inner) → (with_asking st o op).outer.op ≡ st.outer.op
op_asking st op None = refl
op_asking st op (Some i) = refl

pub handed_op : (st : Stack) (op : Task) → (handed st op).outer.op ≡ st.outer.op
handed_op st op = op_asking st op st.inner

module _ (t : Terms) (f : Forest) (entries : List Choice) (st : Stack) (op : Task) (alone : IsAlone f) (none : IsNoSettle st.outer.op)
    (stands : Stands st) where
  hands_by : (o : Option Inner) → InnerStands st o → IsFrameOf t f entries (with_asking st o op).outer
      → AsksNext t (asking_in st.outer o) op → (turn_of (with_asking st o op) + turn_left op [] ≤ turn_of st) × IsNoSettle op
  hands_by None inner of asks =
      let no_try = asks_no_try t f entries st.outer.op op st.outer.slots alone of.task none asks.next in (
        handed_turn t st.outer.op st.outer.asked st.outer.slots op
            (are_first st.outer.asked st.outer.slots op (IsOut None) (plan t st.outer.op) stands.full of.asked) stands.full asks.next no_try,
        no_settle op no_try,
      )
  hands_by (Some i) inner of asks =
      let plain : IsPlain op = plain_asks t i.frame.op op i.frame.slots (within_plain i.frame.op inner.2) asks.next in
      let zero = plain_turn op plain in
      (omega arith, no_settle op plain.1)

  pub hands_turn : IsFrameOf t f entries (handed st op).outer → AsksNext t (asking st) op
      → (turn_of (handed st op) + turn_left op [] ≤ turn_of st) × IsNoSettle op
  hands_turn of asks = hands_by st.inner stands.inner of asks

-- ---- a tree hands out its attempt

settle_of : (op : Task) → IsSettle op → (p : Pending) × (kids : Forest) × (op ≡ Settle p kids)
settle_of (Settle p kids) h = (p, kids, refl)
settle_of _ h = absurd h

none_long : {X : Type 0} (xs : List X) → length xs ≡ 0 → xs ≡ []
none_long [] e = refl
none_long (x ∷ xs) e = absurd (omega arith)

none_behind : (asked : List Task) (op : Task) → none_asked (asked ++ op ∷ []) ≡ 0
none_behind [] op = refl
none_behind (q ∷ asked) op = refl

module _ (t : Terms) (f : Forest) (claimed : List Place) (tops : List (Option Flying)) (lives : List Live) (tree : ℕ) (top : Flying)
    (op : Task) (there : slice_get tops tree ≡ Some (Some top)) (of : IsOfTree top.stack)
    (full : length top.stack.outer.asked ≡ length top.stack.outer.slots) (claims : ClaimsOnce f claimed tops lives) where
  handed_outer : (handed top.stack op).outer ≡ with_asked top.stack.outer op (IsOut None)
  handed_outer = ap (λ (o : Option Inner). (with_asking top.stack o op).outer) of.alone

  handed_none : turn_of_tree (Some (handed_on top op)) ≡ 0
  handed_none = ap (λ (o : Frame). none_asked o.asked) handed_outer ∙ none_behind top.stack.outer.asked op

  pub tree_hands : ClaimsOnce f claimed (slice_set tops tree (Some (handed_on top op))) lives
  tree_hands =
      let zero = handed_none in
      tree_change f claimed tops tree top (Some (handed_on top op)) lives claims there (omega arith) (λ h quiet b e.
      let is : handed_on top op ≡ b = cc in
      subst (λ (x : Flying). AllByRecursion LeavesNothing x.stack.outer.slots) is
      (subst (λ (o : Frame). AllByRecursion LeavesNothing o.slots) (sym handed_outer)
      (all_append LeavesNothing top.stack.outer.slots (IsOut None ∷ []) quiet (tt, tt))))

  -- its first
  first_attempt : HasClaim f → AsksNext t (asking top.stack) op
      → (top.stack.outer.asked ≡ []) × (p : Pending) × (kids : Forest) × (op ≡ Attempt 0 p kids)
  first_attempt h asks =
      let slots : List Slot = top.stack.outer.slots in
      let settle = settle_of top.stack.outer.op of.settles in
      let asks_outer : AsksNext t top.stack.outer op =
      subst (λ (o : Option Inner). AsksNext t (asking_in top.stack.outer o) op) of.alone asks in
      let first = hands_first t settle.0 settle.1 slots op ((claims.once h).quiet tree top there)
      (subst (λ (q : Task). NextAnswered (told_in slots) (left_behind_slots slots (plan t q)) op) settle.2 asks_outer.next) in
      (none_long top.stack.outer.asked (full ∙ ap (λ (xs : List Slot). length xs) first.0), settle.0, settle.1, first.1)

  pub tree_child : (key : ℕ) → AsksNext t (asking top.stack) op
      → ClaimsOnce f claimed (slice_set tops tree (Some (handed_on top op))) (live_of key (new_flying top op) ∷ lives)
  tree_child key asks =
      one_more_turn f claimed (slice_set tops tree (Some (handed_on top op))) (live_of key (new_flying top op)) lives tree_hands (λ h.
      let first = first_attempt h asks in
      let few = (claims.once h).few in
      let set = set_turns tops tree (Some top) (Some (handed_on top op)) there in
      let zero = handed_none in
      let was : turn_of_tree (Some top) ≡ 1 = ap none_asked first.0 in
      let turn : turn_left op [] ≡ 1 = ap (λ (q : Task). turn_left q []) first.3 in
      omega arith)
      (λ h. subst IsNoSettle (sym (first_attempt h asks).3) tt)

-- ---- a tree hears of it

module _ (f : Forest) (claimed : List Place) (tops : List (Option Flying)) (lives : List Live) (tree : ℕ) (top : Flying)
    (there : slice_get tops tree ≡ Some (Some top)) (claims : ClaimsOnce f claimed tops lives) (n : ℕ) (c : Child) where
  tree_at : (slot : Slot) (now : Flying) → now.stack.outer ≡ (set_at top.stack c.seat slot).outer
      → (HasClaim f → LeavesNothing slot) → ClaimsOnce f claimed (slice_set tops tree (Some now)) lives
  tree_at slot now is quiet_slot =
      let same : turn_of_tree (Some now) ≡ turn_of_tree (Some top) =
      ap (λ (o : Frame). none_asked o.asked) is ∙ ap none_asked (set_asked top.stack c.seat slot) in
      tree_change f claimed tops tree top (Some now) lives claims there (omega arith) (λ h quiet b e.
      let same_one : now ≡ b = cc in
      subst (λ (x : Flying). AllByRecursion LeavesNothing x.stack.outer.slots) same_one
      (subst (λ (o : Frame). AllByRecursion LeavesNothing o.slots) (sym is)
      (set_quiet top.stack c.seat slot (quiet_slot h) quiet)))

  pub tree_told : (pointer : Option Bp)
      → ClaimsOnce f claimed (slice_set tops tree (Some (record { at = top.at; stack = heard_early top.stack n c pointer }))) lives
  tree_told pointer =
      tree_at (IsOut (Some pointer)) (record { at = top.at; stack = heard_early top.stack n c pointer }) refl (λ h. tt)

  pub tree_heard : (v : Value) → (HasClaim f → (attempted v).left ≡ NoTrees)
      → ClaimsOnce f claimed (slice_set tops tree (Some (record { at = top.at; stack = heard_of top.stack n c v }))) lives
  tree_heard v quiet = tree_at (Heard v) (record { at = top.at; stack = heard_of top.stack n c v }) refl quiet

-- nothing is left of an attempt of the claim
left_by : (t : Terms) (f : Forest) (entries : List Choice) (st : Stack) (v : Value) (op : Task) → IsAlone f → IsTaskOf t f entries op
    → IsNoSettle op → kind_of_task op ≡ Logical → left_behind_slots st.outer.slots (plan t op) ≡ Ends v → (attempted v).left ≡ NoTrees
left_by t f entries st v (Attempt attempt p kids) alone of none kind left =
    ends_left LeftNone st.outer.slots (plan t (Attempt attempt p NoTrees)) v
    (claim_ends t attempt p (root_claims f alone p (flat kids) of.from))
    (ap (λ (k : Forest). left_behind_slots st.outer.slots (plan t (Attempt attempt p k))) (sym (none_under f alone p kids of)) ∙ left)
left_by t f entries st v (Settle p kids) alone of none kind left = absurd none
left_by t f entries st v _ alone of none kind left = absurd (cc)

pub claim_leaves : (t : Terms) (f : Forest) (entries : List Choice) (st : Stack) (v : Value) → IsAlone f
    → IsTaskOf t f entries st.outer.op → IsNoSettle st.outer.op → kind_of_task st.outer.op ≡ Logical → IsEnded t st v
    → (attempted v).left ≡ NoTrees
claim_leaves t f entries st v alone of none kind ends = left_by t f entries st v st.outer.op alone of none kind ends.value
