-- On which counts of its children a node stalls, and what follows where it needn't.
use Rattle.std.proofs.Common.{◌≡◌, ◌∙◌, ℕ, suc, ◌+◌, ◌-◌, ◌<◌, ◌≤◌, List, [], ◌∷◌, length, Bool, true, false, ◌&&◌, ◌||◌, not, cond, Option, Some, None, Result, Ok, Err, ltb, ◌⊎◌, inl, inr, lt-ltb, refl, sym, ap, subst, arith}
use Rattle.std.proofs.lemmas.Bool.{cases_lt}
use Rattle.std.specs.List.{list_any, position, position_or_len}
use Rattle.zio_types.specs.declared.place.Top.{Top}
use Rattle.zio_types.specs.declared.request.ChildKind.{ChildKind}
use Rattle.zio_types.specs.declared.request.ChildKind.TheVariants.{Gang, Logical, Vdev}
use Rattle.zio_types.specs.declared.request.Kind.{Kind}
use Rattle.zio_types.specs.declared.request.Kind.TheVariants.{Null as NullKind, Read as ReadKind, Write as WriteKind, Free as FreeKind, Claim as ClaimKind}
use Rattle.zio_types.specs.declared.request.Phase.{Phase}
use Rattle.zio_types.specs.declared.request.Phase.TheVariants.{Ready as IsReady, Done as IsDone}
use Rattle.zio_types.specs.Machine.{same_kind}
use Rattle.zio_masks.specs.declared.stage.Stage.{Stage}
use Rattle.zio_masks.specs.declared.stage.Stage.TheVariants.{Start, ReadBpInit, WriteBpInit, FreeBpInit, IssueAsync, WriteCompress, ChecksumGenerate, GangAssemble, GangIssue, DvaAllocate, DvaFree, DvaClaim, Ready, VdevIoStart, VdevIoDone, VdevIoAssess, ChecksumVerify, Done}
use Rattle.zio_script.specs.Requests.{kind_of}
use Rattle.zio_gang.specs.Attempts.{Terms}
use Rattle.zio_trace.specs.Keys.{bit}
use Rattle.zio_frames.specs.Frames.{Child, Stack}
use Rattle.zio_exchange.specs.SpaceCalls.{SpaceCall}
use Rattle.zio_stages.specs.NodeChildren.{is_awaited, is_owing}
use Rattle.zio_staged.specs.Entries.{count_owing, owing}
use Rattle.zio_nodes.specs.SealedMoves.{Move}
use Rattle.zio_staged.specs.declared.staged.Move.TheVariants.{End, Grow, Leaf as ToLeaf, Next, Ready as Tell, Wait}
use Rattle.std.specs.Prelude.{IfOk}
use Rattle.zio_nodes.specs.Nodes.{IsNode, MovesWith, moved}
use Rattle.zio_nodes.specs.declared.turn.Turn.{Turn}
use Rattle.zio_nodes.specs.StageMoves.{IsStageMove, stage_of, stalls_at}
use Rattle.zio_nodes.specs.Stalls.{LeavesGang, LeavesNone, MayRun, OweNone, children_of, hands_many, is_assembling, is_issuing, is_read}
use Rattle.zio_nodes.specs.declared.node.Node.{Node}
use Rattle.zio_nodes.specs.declared.node.Node.TheVariants.{Copies, Empty, Heads, Leaf, Part, Request, Tree}
use Rattle.zio_nodes.specs.declared.request_at.RequestAt.{RequestAt}
use Rattle.zio_nodes.proofs.BoundLemmas.{owed_counts}
use Rattle.zio_nodes.proofs.NodeLemmas.{no_calls}

-- ---- counts

-- one that owes nothing counts nothing
one_none : (s told ended : Bool) → s && not told ≡ false → cond s (bit (cond told false (cond ended false true))) 0 ≡ 0
one_none true true ended h = refl
one_none true false ended h = absurd (cc)
one_none false told ended h = refl

one_done : (s ended : Bool) → s && not ended ≡ false → cond s (bit (cond ended false true)) 0 ≡ 0
one_done true true h = refl
one_done true false h = absurd (cc)
one_done false ended h = refl

neither : (a b : Bool) → a || b ≡ false → (a ≡ false) × (b ≡ false)
neither true b h = absurd (cc)
neither false b h = (refl, h)

owes_none : (kind : ChildKind) (phase : Phase) (c : Child) → is_owing kind phase c ≡ false → owing kind phase c ≡ 0
owes_none kind IsReady c h = one_none (same_kind c.kind kind) c.told c.ended h
owes_none kind IsDone c h = one_done (same_kind c.kind kind) c.ended h

pub none_counts : (kind : ChildKind) (phase : Phase) (cs : List Child) → list_any (is_owing kind phase) cs ≡ false → count_owing kind phase cs ≡ 0
none_counts kind phase [] h = refl
none_counts kind phase (c ∷ cs) h =
    let both = neither (is_owing kind phase c) (list_any (is_owing kind phase) cs) h in
    let here : owing kind phase c ≡ 0 = owes_none kind phase c both.0 in
    let rest : count_owing kind phase cs ≡ 0 = none_counts kind phase cs both.1 in
    omega (arith, here, rest)

-- ---- from the first that owes on

bit_most : (s b : Bool) → cond s (bit b) 0 ≤ 1
bit_most true true = omega arith
bit_most true false = omega arith
bit_most false b = omega arith

one_most : (c : Child) → owing Gang IsDone c ≤ 1
one_most c = bit_most (same_kind c.kind Gang) (cond c.ended false true)

all_most : (cs : List Child) → count_owing Gang IsDone cs ≤ length cs
all_most [] = omega arith
all_most (c ∷ cs) = omega (arith, one_most c, all_most cs)

window_step : (b : Bool) (k n here rest : ℕ) → (b ≡ false → here ≡ 0) → here ≤ 1 → rest ≤ n → rest ≤ n - k → here + rest ≤ suc n - cond (not b) (1 + k) 0
window_step true k n here rest none one most h = omega (arith, one, most)
window_step false k n here rest none one most h = let nothing : here ≡ 0 = none refl in omega (arith, nothing, h)

window : (cs : List Child) → count_owing Gang IsDone cs ≤ length cs - position_or_len (is_owing Gang IsDone) cs
window [] = omega arith
window (c ∷ cs) =
    window_step (is_owing Gang IsDone c) (position_or_len (is_owing Gang IsDone) cs) (length cs) (owing Gang IsDone c) (count_owing Gang IsDone cs)
    (owes_none Gang IsDone c) (one_most c) (all_most cs) (window cs)

found_at : (at n first : ℕ) (b : Bool) → cond b (Some at) None ≡ Some first → at ≡ first
found_at at n first true e = cc
found_at at n first false e = absurd (cc)

not_found : (at n : ℕ) → cond (ltb at n) (Some at) None ≡ None → n ≤ at
not_found at n e = elim (cases_lt at n) [
  | inl l ↦ absurd (some_none (lt-ltb at n l))
  | inr l ↦ l
]
  where
    some_none : ltb at n ≡ true → ⊥
    some_none there = let is : cond (ltb at n) (Some at) None ≡ Some at = ap (λ (b : Bool). cond b (Some at) None) there in cc

-- behind the first there are no more than that
pub window_some : (cs : List Child) (first : ℕ) → Some first ≡ position (is_owing Gang IsDone) cs → count_owing Gang IsDone cs ≤ length cs - first
window_some cs first e =
    let at = position_or_len (is_owing Gang IsDone) cs in
    let is : at ≡ first = found_at at (length cs) first (ltb at (length cs)) (sym e) in
    omega (arith, window cs, is)

pub window_none : (cs : List Child) → None ≡ position (is_owing Gang IsDone) cs → count_owing Gang IsDone cs ≤ 0
window_none cs e = omega (arith, window cs, not_found (position_or_len (is_owing Gang IsDone) cs) (length cs) (sym e))

-- ---- what a stage stalls on

pub gang_alone : (stage : Stage) (kind : ChildKind) (phase : Phase) → (is_assembling stage ≡ true) ⊎ (is_issuing stage ≡ true)
    → stalls_at stage kind phase ≡ true → kind ≡ Gang
gang_alone GangAssemble Gang phase many h = refl
gang_alone GangAssemble Vdev phase many h = absurd (cc)
gang_alone GangAssemble Logical phase many h = absurd (cc)
gang_alone GangIssue Gang phase many h = refl
gang_alone GangIssue Vdev phase many h = absurd (cc)
gang_alone GangIssue Logical phase many h = absurd (cc)
gang_alone Start kind phase (inl e) h = absurd (cc)
gang_alone Start kind phase (inr e) h = absurd (cc)
gang_alone ReadBpInit kind phase (inl e) h = absurd (cc)
gang_alone ReadBpInit kind phase (inr e) h = absurd (cc)
gang_alone WriteBpInit kind phase (inl e) h = absurd (cc)
gang_alone WriteBpInit kind phase (inr e) h = absurd (cc)
gang_alone FreeBpInit kind phase (inl e) h = absurd (cc)
gang_alone FreeBpInit kind phase (inr e) h = absurd (cc)
gang_alone IssueAsync kind phase (inl e) h = absurd (cc)
gang_alone IssueAsync kind phase (inr e) h = absurd (cc)
gang_alone WriteCompress kind phase (inl e) h = absurd (cc)
gang_alone WriteCompress kind phase (inr e) h = absurd (cc)
gang_alone ChecksumGenerate kind phase (inl e) h = absurd (cc)
gang_alone ChecksumGenerate kind phase (inr e) h = absurd (cc)
gang_alone DvaAllocate kind phase (inl e) h = absurd (cc)
gang_alone DvaAllocate kind phase (inr e) h = absurd (cc)
gang_alone DvaFree kind phase (inl e) h = absurd (cc)
gang_alone DvaFree kind phase (inr e) h = absurd (cc)
gang_alone DvaClaim kind phase (inl e) h = absurd (cc)
gang_alone DvaClaim kind phase (inr e) h = absurd (cc)
gang_alone Ready kind phase (inl e) h = absurd (cc)
gang_alone Ready kind phase (inr e) h = absurd (cc)
gang_alone VdevIoStart kind phase (inl e) h = absurd (cc)
gang_alone VdevIoStart kind phase (inr e) h = absurd (cc)
gang_alone VdevIoDone kind phase (inl e) h = absurd (cc)
gang_alone VdevIoDone kind phase (inr e) h = absurd (cc)
gang_alone VdevIoAssess kind phase (inl e) h = absurd (cc)
gang_alone VdevIoAssess kind phase (inr e) h = absurd (cc)
gang_alone ChecksumVerify kind phase (inl e) h = absurd (cc)
gang_alone ChecksumVerify kind phase (inr e) h = absurd (cc)
gang_alone Done kind phase (inl e) h = absurd (cc)
gang_alone Done kind phase (inr e) h = absurd (cc)

first_true : (a b : Bool) → a && b ≡ true → a ≡ true
first_true true b h = refl
first_true false b h = h

-- a node that hands out many is at a gang stage
many_gang : (node : Node) → hands_many node ≡ true → (is_assembling (stage_of node) ≡ true) ⊎ (is_issuing (stage_of node) ≡ true)
many_gang (Leaf at) h = absurd (cc)
many_gang (Copies at) h = absurd (cc)
many_gang (Heads at) h = inl h
many_gang (Part at) h = absurd (cc)
many_gang (Tree at) h = absurd (cc)
many_gang (Request at) h = inr (first_true (is_issuing at.stage) (is_read (kind_of at.node.waiting.request.work)) h)
many_gang Empty h = absurd (cc)

issuing_is : (stage : Stage) → is_issuing stage ≡ true → stage ≡ GangIssue
issuing_is GangIssue e = refl
issuing_is stage e = absurd (cc)

read_is : (kind : Kind) → is_read kind ≡ true → kind ≡ ReadKind
read_is NullKind e = absurd (cc)
read_is ReadKind e = refl
read_is WriteKind e = absurd (cc)
read_is FreeKind e = absurd (cc)
read_is ClaimKind e = absurd (cc)

second_holds : (a b : Bool) → a && b ≡ true → b ≡ true
second_holds true b e = e
second_holds false b e = absurd (cc)

-- a request that hands out many is a read at GangIssue
pub hands_bodies : (at : RequestAt) → hands_many (Request at) ≡ true → (kind_of at.node.waiting.request.work ≡ ReadKind) × (at.stage ≡ GangIssue)
hands_bodies at many = (
  read_is (kind_of at.node.waiting.request.work) (second_holds (is_issuing at.stage) (is_read (kind_of at.node.waiting.request.work)) many),
  issuing_is at.stage (first_true (is_issuing at.stage) (is_read (kind_of at.node.waiting.request.work)) many),
)

not_many : (node : Node) (stage : Stage) → stage_of node ≡ stage → is_assembling stage ≡ false → is_issuing stage ≡ false → hands_many node ≡ false
not_many node stage at first second = by (hands_many node) refl
  where
    off : (is_assembling (stage_of node) ≡ true) ⊎ (is_issuing (stage_of node) ≡ true) → ⊥
    off (inl e) = let no : is_assembling (stage_of node) ≡ false = ap is_assembling at ∙ first in cc
    off (inr e) = let no : is_issuing (stage_of node) ≡ false = ap is_issuing at ∙ second in cc

    by : (b : Bool) → hands_many node ≡ b → hands_many node ≡ false
    by true e = absurd (off (many_gang node e))
    by false e = e

-- ---- it leaves its stage with nobody who owes it anything

leaves_stage : (node after : Node) → MayRun (stage_of node) (hands_many node) (children_of node) → (hands_many node ≡ true → LeavesGang (children_of node) (Next after))
    → OweNone (stage_of node) (children_of node)
leaves_stage node after may gang = by (hands_many node) refl
  where
    by : (b : Bool) → hands_many node ≡ b → OweNone (stage_of node) (children_of node)
    by false e = may.none e
    by true e = λ kind phase stalls.
        subst (λ (k : ChildKind). count_owing k phase (children_of node) ≡ 0) (sym (gang_alone (stage_of node) kind phase (many_gang node e) stalls)) (gang e phase)

leaves_by : (node : Node) (move : Move Node) → MayRun (stage_of node) (hands_many node) (children_of node) → IsStageMove node move
    → (hands_many node ≡ true → LeavesGang (children_of node) move) → LeavesNone node move
leaves_by node (Next after) may is gang = leaves_stage node after may gang
leaves_by node (Wait after kind phase) may is gang = tt
leaves_by node (Grow after child kind) may is gang = may.room
leaves_by node (ToLeaf after op leaf bytes) may is gang = tt
leaves_by node (Tell after pointer) may is gang = may.none (not_many node Ready is.0 refl refl)
leaves_by node (End outcome) may is gang = may.none (not_many node Done is refl refl)

pub leaves_ok : {E : Type 0} (node after : Node) (r : Result Turn E) → MayRun (stage_of node) (hands_many node) (children_of node)
    → IfOk r (λ turn. IsStageMove node (moved after turn)) → (hands_many node ≡ true → IfOk r (λ turn. LeavesGang (children_of node) (moved after turn)))
    → IfOk r (λ turn. LeavesNone node (moved after turn))
leaves_ok node after (Ok turn) may is gang = leaves_by node (moved after turn) may is gang
leaves_ok node after (Err e) may is gang = tt

-- ---- it waits before the stage does anything

none_awaited : (kind : ChildKind) (phase : Phase) → list_any (is_awaited kind phase) [] ≡ true → ⊥
none_awaited kind phase e = cc

pub owed_in : (kind : ChildKind) (phase : Phase) (family children : List Child) → family ≡ children → list_any (is_awaited kind phase) family ≡ true
    → 0 < count_owing kind phase children
owed_in kind phase family children same h = owed_counts kind phase children (ap (list_any (is_awaited kind phase)) (sym same) ∙ h)

-- its children by number are those of its part
pub children_are : (t : Terms) (node : Node) (st : Stack) → IsNode t node st → children_of node ≡ st.children
children_are t (Leaf at) st is = sym is.childless
children_are t (Copies at) st is = is.read.children
children_are t (Heads at) st is = is.children
children_are t (Part at) st is = is.at.children
children_are t (Tree at) st is = ap (λ (s : Stack). s.children) (sym is.fresh)
children_are t (Request at) st is = is.family
children_are t Empty st is = absurd is

-- what its fields say is owed is owed
owed_now : (t : Terms) (node : Node) (st : Stack) (kind : ChildKind) (phase : Phase) → IsNode t node st → list_any (is_awaited kind phase) (children_of node) ≡ true
    → 0 < count_owing kind phase st.children
owed_now t (Leaf at) st kind phase is h = absurd (none_awaited kind phase h)
owed_now t (Copies at) st kind phase is h = owed_in kind phase at.node.family st.children is.read.children h
owed_now t (Heads at) st kind phase is h = owed_in kind phase at.node.family st.children is.children h
owed_now t (Part at) st kind phase is h = owed_in kind phase at.node.family st.children is.at.children h
owed_now t (Tree at) st kind phase is h = absurd (none_awaited kind phase h)
owed_now t (Request at) st kind phase is h = owed_in kind phase at.node.family st.children is.family h
owed_now t Empty st kind phase is h = absurd is

pub waits_stalled : {S : Type 0} (made : S → List SpaceCall → S → Type 0) (tops : List Top) (a : S) (node : Node) (kind : ChildKind) (phase : Phase) → made a [] a
    → list_any (is_awaited kind phase) (children_of node) ≡ true → MovesWith made tops a a node (Wait node kind phase)
waits_stalled made tops a node kind phase none h = record {
  calls = [];
  were_made = none;
  fits = no_calls (stage_of node) node;
  moves = λ t st now. record {
    stays = record { is = now.is; told = refl; gave_same = refl; no_calls = refl };
    owing = owed_now t node st kind phase now.is h;
  };
}

-- ---- what a family says of it

pub nothing_owes : (stage : Stage) (many : Bool) → MayRun stage many []
nothing_owes stage many = record { none = λ no kind phase e. refl; room = λ e. omega arith }

pub in_gang : (kind : ChildKind) → list_any (same_kind kind) (Gang ∷ []) ≡ true → kind ≡ Gang
in_gang Vdev h = absurd (cc)
in_gang Gang h = refl
in_gang Logical h = absurd (cc)

pub both_phases : (kind : ChildKind) (cs : List Child) → count_owing kind IsReady cs ≡ 0 → count_owing kind IsDone cs ≡ 0 → (phase : Phase) → count_owing kind phase cs ≡ 0
both_phases kind cs ready done IsReady = ready
both_phases kind cs ready done IsDone = done

-- as of its stage and its family
pub stalled_so : (node : Node) (stage : Stage) (family : List Child) (kind : ChildKind) (phase : Phase) → stage ≡ stage_of node → family ≡ children_of node
    → (stalls_at stage kind phase ≡ true) × (list_any (is_awaited kind phase) family ≡ true)
    → (stalls_at (stage_of node) kind phase ≡ true) × (list_any (is_awaited kind phase) (children_of node) ≡ true)
stalled_so node stage family kind phase at are h =
    (ap (λ (s : Stage). stalls_at s kind phase) (sym at) ∙ h.0, ap (list_any (is_awaited kind phase)) (sym are) ∙ h.1)

some_same : {X : Type 0} (x y : X) → Some x ≡ Some y → x ≡ y
some_same x y e = cc

pub both_same : (kind k : ChildKind) (phase p : Phase) → ◌≡◌ {A = Option (ChildKind × Phase)} (Some (kind, phase)) (Some (k, p)) → (kind ≡ k) × (phase ≡ p)
both_same kind k phase p e =
    let is : ◌≡◌ {A = ChildKind × Phase} (kind, phase) (k, p) = some_same (kind, phase) (k, p) e in
    (ap (λ (x : ChildKind × Phase). x.0) is, ap (λ (x : ChildKind × Phase). x.1) is)

-- ---- what each stage waits for

told_kind : (kind : ChildKind) → list_any (same_kind kind) (Gang ∷ Logical ∷ []) ≡ true → stalls_at WriteCompress kind IsReady ≡ true
told_kind Vdev h = absurd (cc)
told_kind Gang h = refl
told_kind Logical h = refl

pub told_stalls : (stage : Stage) (kind : ChildKind) (phase : Phase) → stage ≡ WriteCompress → list_any (same_kind kind) (Gang ∷ Logical ∷ []) ≡ true
    → phase ≡ IsReady → stalls_at stage kind phase ≡ true
told_stalls stage kind phase at h is = ap (λ (s : Stage). stalls_at s kind phase) at ∙ ap (stalls_at WriteCompress kind) is ∙ told_kind kind h

ready_kind : (kind : ChildKind) → list_any (same_kind kind) (Gang ∷ []) ≡ true → stalls_at Ready kind IsReady ≡ true
ready_kind Vdev h = absurd (cc)
ready_kind Gang h = refl
ready_kind Logical h = absurd (cc)

pub ready_stalls : (stage : Stage) (kind : ChildKind) (phase : Phase) → stage ≡ Ready → list_any (same_kind kind) (Gang ∷ []) ≡ true → phase ≡ IsReady
    → stalls_at stage kind phase ≡ true
ready_stalls stage kind phase at h is = ap (λ (s : Stage). stalls_at s kind phase) at ∙ ap (stalls_at Ready kind) is ∙ ready_kind kind h

leaf_kind : (kind : ChildKind) → list_any (same_kind kind) (Vdev ∷ []) ≡ true → stalls_at VdevIoDone kind IsDone ≡ true
leaf_kind Vdev h = refl
leaf_kind Gang h = absurd (cc)
leaf_kind Logical h = absurd (cc)

pub leaf_stalls : (stage : Stage) (kind : ChildKind) (phase : Phase) → stage ≡ VdevIoDone → list_any (same_kind kind) (Vdev ∷ []) ≡ true → phase ≡ IsDone
    → stalls_at stage kind phase ≡ true
leaf_stalls stage kind phase at h is = ap (λ (s : Stage). stalls_at s kind phase) at ∙ ap (stalls_at VdevIoDone kind) is ∙ leaf_kind kind h

pub done_stalls : (stage : Stage) (kind : ChildKind) (phase : Phase) → stage ≡ Done → phase ≡ IsDone → stalls_at stage kind phase ≡ true
done_stalls stage kind phase at is = ap (λ (s : Stage). stalls_at s kind phase) at ∙ ap (stalls_at Done kind) is
