-- What a read, a free and a claim in an attempt hear of the children of their own work.
use Rattle.std.proofs.Common.{◌≡◌, ◌≢◌, ℕ, ◌≤◌, ◌⊎◌, List, [], length, slice_get, Option, Some, None, inl, inr, option_map, refl, sym, ap, subst, ◌∙◌}
use Rattle.std.specs.List.{AllByRecursion}
use Rattle.zio_types.specs.declared.place.Top.{Top}
use Rattle.zio_types.specs.declared.request.ChildKind.{ChildKind}
use Rattle.zio_types.specs.declared.request.ChildKind.TheVariants.{Gang, Logical, Vdev}
use Rattle.zio_types.specs.declared.request.Kind.{Kind}
use Rattle.zio_types.specs.declared.request.Kind.TheVariants.{Claim as ClaimKind, Free as FreeKind, Null as NullKind, Read as ReadKind, Write as WriteKind}
use Rattle.zio_types.specs.Choices.{Choice}
use Rattle.zio_masks.specs.declared.stage.Stage.{Stage}
use Rattle.zio_masks.specs.declared.stage.Stage.TheVariants.{Start}
use Rattle.zio_blkptr.specs.declared.pointer.Bp.{Bp}
use Rattle.zio_script.specs.Requests.{kind_of}
use Rattle.zio_gang.specs.declared.tree.Tree.{Tree}
use Rattle.zio_gang.specs.Attempts.{Terms}
use Rattle.zio_trace.specs.Footprints.{FitsTask}
use Rattle.zio_trace.specs.Leaves.{Answer}
use Rattle.zio_trace.specs.Tasks.{Leaf, ReadCopies, Task, Value, Walked as Walk, WalkedBy}
use Rattle.zio_frames.specs.Frames.{Child, Stack, kind_of_task}
use Rattle.zio_frames.specs.Seats.{HasSeat, SitsAt}
use Rattle.zio_frames.proofs.GetLemmas.{all_at}
use Rattle.zio_parts.specs.declared.parts.StoredPart.{StoredPart}
use Rattle.zio_parts.specs.declared.tree_read.Phase.TheVariants.{Out as WalkOut}
use Rattle.zio_exchange.specs.Outcomes.{ClaimsInside, IsAttempt, IsOutcome, IsReading, IsWalk}
use Rattle.zio_stages.specs.LeavesOut.{IsLeafTask}
use Rattle.zio_stages.specs.NodeIos.{IsAwaitedAt}
use Rattle.zio_stages.specs.OwnClaims.{LiesWalked}
use Rattle.zio_stages.specs.OwnReads.{IsBodyOn}
use Rattle.zio_stages.specs.RequestHearings.{HearsEarlyOf, IsUnderWay}
use Rattle.zio_stages.specs.RequestNodes.{IsOwnOver}
use Rattle.zio_stages.specs.RequestOwns.{IsBlockOn, IsOwnSeat}
use Rattle.zio_stages.specs.TreeWorks.{heads_task}
use Rattle.zio_stages.specs.declared.family.Layer.TheVariants.{Within}
use Rattle.zio_stages.specs.Sealed.{Outcome}
use Rattle.zio_exchange.specs.declared.outcome.Outcome.TheVariants.{Again, Finished, Found as HasFound, Stored as HasStored, Walked}
use Rattle.zio_stages.specs.declared.own_claim.ClaimStep.TheVariants.{Out as StepOut}
use Rattle.zio_stages.specs.declared.own_claim.OwnClaim.{OwnClaim}
use Rattle.zio_stages.specs.declared.own_free.FreeWalk.TheVariants.{Out as FreeOut}
use Rattle.zio_stages.specs.declared.own_free.OwnFree.{OwnFree}
use Rattle.zio_stages.specs.declared.own_read.OwnRead.{OwnRead}
use Rattle.zio_stages.specs.declared.request_node.Own.{Own}
use Rattle.zio_stages.specs.declared.request_node.Own.TheVariants.{Claim as ClaimOwn, Free as FreeOwn, Read as ReadOwn}
use Rattle.zio_stages.specs.declared.request_node.RequestNode.{RequestNode}
use Rattle.zio_stages.proofs.PartSeats.{part_leaf}
use Rattle.zio_stages.proofs.RequestHears.{if_there}
use Rattle.zio_stages.proofs.RequestMembers.{gang_attempt}
use Rattle.zio_staged.specs.Stages.{Hears, HearsSome}
use Rattle.zio_nodes.specs.Nodes.{nodes}
use Rattle.zio_nodes.specs.ReadBounds.{bodies_max}
use Rattle.zio_nodes.specs.RequestAts.{IsRequestAtOver, StandsAt}
use Rattle.zio_nodes.specs.RequestHears.{IsOwnOutcome}
use Rattle.zio_nodes.specs.declared.node.Node.{Node}
use Rattle.zio_nodes.specs.declared.node.Node.TheVariants.{Request}
use Rattle.zio_nodes.specs.declared.request_at.RequestAt.{RequestAt}
use Rattle.zio_nodes.proofs.BodyCounts.{walk_few}
use Rattle.zio_nodes.proofs.OwnSeats.{DoesBody, DoesClaim, DoesFree, DoesWalk, IsNone, ReadsAt, claims_at, frees_at, gang_no_leaf, own_claim, own_free, own_read, reading_none, reads_at, reads_body, reads_leaf, reads_no_part, reads_walk, walk_no_part, walk_no_reading, walks_alone}
use Rattle.zio_nodes.proofs.WriteHears.{own_no_attempt, walk_attempt, walk_leaf}

-- ---- of which kind it is

pub other_kind : (kind work : Kind) → (kind ≡ NullKind) ⊎ ((kind ≡ ReadKind) ⊎ ((kind ≡ FreeKind) ⊎ (kind ≡ ClaimKind))) → kind ≡ work → work ≢ WriteKind
other_kind kind work (inl e) same = λ w. let no : NullKind ≡ WriteKind = sym e ∙ same ∙ w in cc
other_kind kind work (inr (inl e)) same = λ w. let no : ReadKind ≡ WriteKind = sym e ∙ same ∙ w in cc
other_kind kind work (inr (inr (inl e))) same = λ w. let no : FreeKind ≡ WriteKind = sym e ∙ same ∙ w in cc
other_kind kind work (inr (inr (inr e))) same = λ w. let no : ClaimKind ≡ WriteKind = sym e ∙ same ∙ w in cc

-- ---- what a child ended with

-- where it sits
sits_there : (t : Terms) (tops : List Top) (at : RequestAt) (st : Stack) (n : ℕ) (c : Child) (op : Task) (outcome : Outcome) (v : Value)
    → Hears {N = Node} nodes tops t (Request at) st n c op outcome v → (told : Option (Option Bp)) × SitsAt st c op told
sits_there t tops at st n c op outcome v h =
    let sits = all_at (HasSeat st) st.children n c h.now.seated.each h.there h.goes in
    let both : Some sits.0 ≡ Some op = sym sits.2.asked ∙ h.asked in
    let same : sits.0 ≡ op = cc in
    (sits.1, subst (λ (q : Task). SitsAt st c q sits.1) same sits.2)

-- of which kind it is
pub kind_there : (family children : List Child) (n : ℕ) (c : Child) (kind : ChildKind) → family ≡ children → slice_get children n ≡ Some c
    → Some kind ≡ option_map (λ (x : Child). x.kind) (slice_get family n) → c.kind ≡ kind
kind_there family children n c kind same there is =
    let both : Some kind ≡ Some c.kind =
    is ∙ ap (λ (cs : List Child). option_map (λ (x : Child). x.kind) (slice_get cs n)) same ∙ ap (option_map (λ (x : Child). x.kind)) there in
    cc

none_of : (op : Task) → (IsAttempt op → ⊥) → IsNone op
none_of op never attempt p below is = never (subst IsAttempt (sym is) tt)

-- it is no attempt
own_none : (tops : List Top) (at : RequestAt) (n : ℕ) (outcome : Outcome) → IsOwnOutcome outcome → (k : HearsSome {N = Node} nodes tops (Request at) n outcome) → IsNone k.op
own_none tops at n outcome own k = none_of k.op (own_no_attempt k.terms k.op outcome k.value own k.hears.shows)

shows_as : (tops : List Top) (at : RequestAt) (n : ℕ) (outcome other : Outcome) → outcome ≡ other → (k : HearsSome {N = Node} nodes tops (Request at) n outcome)
    → IsOutcome k.terms k.op other k.value
shows_as tops at n outcome other is k = subst (λ (o : Outcome). IsOutcome k.terms k.op o k.value) is k.hears.shows

-- a walk ends with what it left
walk_ends : (t : Terms) (op : Task) (outcome : Outcome) (v : Value) → IsOwnOutcome outcome → IsOutcome t op outcome v → IsWalk op
    → ((walked : Walk) → outcome ≡ Walked walked → ⊥) → ⊥
walk_ends t op (Finished f) v own shows walk never = own
walk_ends t op (Again whole bits pointer) v own shows walk never = own
walk_ends t op (HasFound answer) v own shows walk never = walk_no_reading op walk shows.0
walk_ends t op (Walked walked) v own shows walk never = never walked refl
walk_ends t op (HasStored part) v own shows walk never = walk_no_part op walk shows.0

-- it stands behind Start
pub behind_start : (tops : List Top) (at : RequestAt) → IsRequestAtOver tops at → IsUnderWay at.node.own → at.stage ≡ Start → ⊥
behind_start tops at over under is =
    let h : StandsAt at.node.waiting.request.work tops Start at.is_due at.node =
    subst (λ (s : Stage). StandsAt at.node.waiting.request.work tops s at.is_due at.node) is over.stands.own in
    subst IsUnderWay h.0 under

-- ---- a read's child

pub read_asks : (tops : List Top) (at : RequestAt) (n : ℕ) (outcome : Outcome) (w : OwnRead) → at.node.own ≡ ReadOwn w
    → (k : HearsSome {N = Node} nodes tops (Request at) n outcome) → (IsLeafTask k.op → ⊥) → IsNone k.op → ReadsAt at.node w n k.op
read_asks tops at n outcome w is k leaf never =
    let s = sits_there k.terms tops at k.stack n k.child k.op outcome k.value k.hears in
    reads_at k.terms at.node k.stack w k.hears.now.is n k.child k.op s.0 is k.hears.there s.1 leaf never

-- none writes a part
pub read_no_part : (tops : List Top) (at : RequestAt) (n : ℕ) (outcome : Outcome) (part : StoredPart) → outcome ≡ HasStored part → kind_of at.node.waiting.request.work ≡ ReadKind
    → IsUnderWay at.node.own → (k : HearsSome {N = Node} nodes tops (Request at) n outcome) → IsOwnOutcome outcome → ⊥
read_no_part tops at n outcome part is kind under k mine =
    let own = own_read k.terms at.node k.stack k.hears.now.is kind under in
    let shows = shows_as tops at n outcome (HasStored part) is k in
    reads_no_part at.node own.0 n k.op (read_asks tops at n outcome own.0 own.1 k (part_leaf k.op shows.0) (own_none tops at n outcome mine k)) shows.0

-- the law that tells where the bodies of a walk lie
abbrev pub LieBodies : Type 0
LieBodies = (t : Terms) (tops : List Top) (journal : List Choice) (tree : Tree) (left : Walk) → IsBlockOn tops tree → FitsTask journal t (heads_task tree) (WalkedBy left)
    → AllByRecursion (IsBodyOn tops) left.bodies

-- the walk left this
pub record HearsWalk (tops : List Top) (at : RequestAt) (n : ℕ) (walked : Walk) : Type 0 where
  pub own : OwnRead
  pub is : at.node.own ≡ ReadOwn own
  pub seat : IsOwnSeat at.node n 0
  pub out : own.tree.read.phase ≡ WalkOut
  pub alone : own.body ≡ None
  pub on : AllByRecursion (IsBodyOn tops) walked.bodies
  pub few : walked.errors ≡ [] → length walked.bodies ≤ bodies_max

pub hears_walk : (tops : List Top) (at : RequestAt) (n : ℕ) (outcome : Outcome) (walked : Walk) → LieBodies → outcome ≡ Walked walked → kind_of at.node.waiting.request.work ≡ ReadKind
    → IsUnderWay at.node.own → IsRequestAtOver tops at → HearsSome {N = Node} nodes tops (Request at) n outcome → HearsWalk tops at n walked
hears_walk tops at n outcome walked law is kind under over k =
    let own = own_read k.terms at.node k.stack k.hears.now.is kind under in
    let w : OwnRead = own.0 in
    let shows = shows_as tops at n outcome (Walked walked) is k in
    let asks : ReadsAt at.node w n k.op = read_asks tops at n outcome w own.1 k (walk_leaf k.op shows.0) (walk_attempt k.op shows.0) in
    let walk : DoesWalk at.node w n k.op = reads_walk at.node w n k.op asks shows.0 in
    let mine : IsOwnOver tops (ReadOwn w) at.node.family = subst (λ (o : Own). IsOwnOver tops o at.node.family) own.1 over.over.own in
    let fits : FitsTask [] k.terms (heads_task walk.tree) (WalkedBy walked) =
    subst (λ (q : Task). FitsTask [] k.terms q (WalkedBy walked)) walk.is (subst (λ (v : Value). FitsTask [] k.terms k.op v) shows.1 (k.hears.fits [])) in
    let block : IsBlockOn tops walk.tree = if_there at.node.waiting.block (IsBlockOn tops) walk.tree over.over.waiting walk.block in
    record {
      own = w;
      is = own.1;
      seat = walk.seat;
      out = walk.out;
      alone = walks_alone tops w.tree w.body at.node.family walk.out mine.0;
      on = law k.terms tops [] walk.tree walked block fits;
      few = λ none. walk_few walk.tree.heads walk.tree.bp walked fits none;
    }

-- a body was read by a gang child
pub record HearsGang (at : RequestAt) (n : ℕ) : Type 0 where
  pub own : OwnRead
  pub is : at.node.own ≡ ReadOwn own
  pub body : DoesBody at.node own n

pub hears_gang : (tops : List Top) (at : RequestAt) (n : ℕ) (outcome : Outcome) (found : Answer) → outcome ≡ HasFound found → kind_of at.node.waiting.request.work ≡ ReadKind
    → IsUnderWay at.node.own → Some Gang ≡ option_map (λ (x : Child). x.kind) (slice_get at.node.family n) → HearsSome {N = Node} nodes tops (Request at) n outcome → HearsGang at n
hears_gang tops at n outcome found is kind under of k =
    let own = own_read k.terms at.node k.stack k.hears.now.is kind under in
    let shows = shows_as tops at n outcome (HasFound found) is k in
    let s = sits_there k.terms tops at k.stack n k.child k.op outcome k.value k.hears in
    let gang : kind_of_task k.op ≡ Gang = sym s.1.kind ∙ kind_there at.node.family k.stack.children n k.child Gang k.hears.now.is.family k.hears.there of in
    let asks : ReadsAt at.node own.0 n k.op = read_asks tops at n outcome own.0 own.1 k (gang_no_leaf k.op gang) (reading_none k.op shows.0) in
    record { own = own.0; is = own.1; body = reads_body at.node own.0 n k.op asks shows.0 }

-- a leaf answered
pub record HearsLeaf (at : RequestAt) (n : ℕ) : Type 0 where
  pub own : OwnRead
  pub is : at.node.own ≡ ReadOwn own
  pub awaited : IsAwaitedAt Within at.node.family n

pub hears_leaf : (tops : List Top) (at : RequestAt) (n : ℕ) (outcome : Outcome) (found : Answer) → outcome ≡ HasFound found → kind_of at.node.waiting.request.work ≡ ReadKind
    → IsUnderWay at.node.own → Some Vdev ≡ option_map (λ (x : Child). x.kind) (slice_get at.node.family n) → HearsSome {N = Node} nodes tops (Request at) n outcome → HearsLeaf at n
hears_leaf tops at n outcome found is kind under of k =
    let own = own_read k.terms at.node k.stack k.hears.now.is kind under in
    let shows = shows_as tops at n outcome (HasFound found) is k in
    let s = sits_there k.terms tops at k.stack n k.child k.op outcome k.value k.hears in
    let vdev : kind_of_task k.op ≡ Vdev = sym s.1.kind ∙ kind_there at.node.family k.stack.children n k.child Vdev k.hears.now.is.family k.hears.there of in
    record {
      own = own.0;
      is = own.1;
      awaited = reads_leaf k.terms at.node k.stack own.0 k.hears.now.is n k.child k.op s.0 own.1 k.hears.there k.hears.goes s.1 shows.0 vdev;
    }

reading_logical : (op : Task) → IsReading op → kind_of_task op ≡ Logical → ⊥
reading_logical (Leaf act) reads logical = cc
reading_logical (ReadCopies repair test len places) reads logical = cc
reading_logical op reads logical = reads

-- nothing is read by a logical child
pub hears_logical : (tops : List Top) (at : RequestAt) (n : ℕ) (outcome : Outcome) (found : Answer) → outcome ≡ HasFound found
    → Some Logical ≡ option_map (λ (x : Child). x.kind) (slice_get at.node.family n) → HearsSome {N = Node} nodes tops (Request at) n outcome → ⊥
hears_logical tops at n outcome found is of k =
    let shows = shows_as tops at n outcome (HasFound found) is k in
    let s = sits_there k.terms tops at k.stack n k.child k.op outcome k.value k.hears in
    reading_logical k.op shows.0 (sym s.1.kind ∙ kind_there at.node.family k.stack.children n k.child Logical k.hears.now.is.family k.hears.there of)

-- ---- a gang child told

gang_sits : (r : RequestNode) (n : ℕ) (k : HearsEarlyOf Gang r n) → (op : Task) × (told : Option (Option Bp)) × SitsAt k.stack k.child op told
gang_sits r n k = all_at (HasSeat k.stack) k.stack.children n k.child k.seated.each k.there k.goes

-- of a read it does one of its own work's operations
pub early_read : (r : RequestNode) (n : ℕ) (w : OwnRead) → r.own ≡ ReadOwn w → HearsEarlyOf Gang r n → (m : ℕ) × IsOwnSeat r n m
early_read r n w is k =
    let sits = gang_sits r n k in
    let gang : kind_of_task sits.0 ≡ Gang = sym sits.2.kind ∙ k.of_kind in
    let at = reads_at k.terms r k.stack w k.is n k.child sits.0 sits.1 is k.there sits.2 (gang_no_leaf sits.0 gang) (gang_attempt sits.0 gang) in
    (at.number, at.seat)

-- of a free and of a claim the walk
pub early_free : (r : RequestNode) (n : ℕ) (w : OwnFree) → r.own ≡ FreeOwn w → HearsEarlyOf Gang r n → (op : Task) × DoesFree r w n op
early_free r n w is k =
    let sits = gang_sits r n k in
    let gang : kind_of_task sits.0 ≡ Gang = sym sits.2.kind ∙ k.of_kind in
    (sits.0, frees_at k.terms r k.stack w k.is n k.child sits.0 sits.1 is k.there sits.2 (gang_attempt sits.0 gang))

pub early_claim : (r : RequestNode) (n : ℕ) (w : OwnClaim) → r.own ≡ ClaimOwn w → HearsEarlyOf Gang r n → (op : Task) × DoesClaim r w n op
early_claim r n w is k =
    let sits = gang_sits r n k in
    let gang : kind_of_task sits.0 ≡ Gang = sym sits.2.kind ∙ k.of_kind in
    (sits.0, claims_at k.terms r k.stack w k.is n k.child sits.0 sits.1 is k.there sits.2 (gang_attempt sits.0 gang))

-- ---- a free's child

pub record HearsFreed (at : RequestAt) (n : ℕ) : Type 0 where
  pub own : OwnFree
  pub is : at.node.own ≡ FreeOwn own
  pub seat : IsOwnSeat at.node n 0
  pub out : own.walk ≡ FreeOut

free_child : (tops : List Top) (at : RequestAt) (n : ℕ) (outcome : Outcome) (w : OwnFree) → at.node.own ≡ FreeOwn w → IsOwnOutcome outcome
    → (k : HearsSome {N = Node} nodes tops (Request at) n outcome) → DoesFree at.node w n k.op
free_child tops at n outcome w is mine k =
    let s = sits_there k.terms tops at k.stack n k.child k.op outcome k.value k.hears in
    frees_at k.terms at.node k.stack w k.hears.now.is n k.child k.op s.0 is k.hears.there s.1 (own_none tops at n outcome mine k)

pub hears_freed : (tops : List Top) (at : RequestAt) (n : ℕ) (outcome : Outcome) → IsOwnOutcome outcome → kind_of at.node.waiting.request.work ≡ FreeKind → IsUnderWay at.node.own
    → HearsSome {N = Node} nodes tops (Request at) n outcome → HearsFreed at n
hears_freed tops at n outcome mine kind under k =
    let own = own_free k.terms at.node k.stack k.hears.now.is kind under in
    let does = free_child tops at n outcome own.0 own.1 mine k in
    record { own = own.0; is = own.1; seat = does.seat; out = does.out }

-- its child does nothing else
pub freed_walks : (tops : List Top) (at : RequestAt) (n : ℕ) (outcome : Outcome) → IsOwnOutcome outcome → kind_of at.node.waiting.request.work ≡ FreeKind → IsUnderWay at.node.own
    → HearsSome {N = Node} nodes tops (Request at) n outcome → ((walked : Walk) → outcome ≡ Walked walked → ⊥) → ⊥
freed_walks tops at n outcome mine kind under k never =
    let own = own_free k.terms at.node k.stack k.hears.now.is kind under in
    let does = free_child tops at n outcome own.0 own.1 mine k in
    walk_ends k.terms k.op outcome k.value mine k.hears.shows (subst IsWalk (sym does.is) tt) never

-- ---- a claim's child

pub record HearsClaimed (tops : List Top) (at : RequestAt) (n : ℕ) (walked : Walk) : Type 0 where
  pub own : OwnClaim
  pub is : at.node.own ≡ ClaimOwn own
  pub seat : IsOwnSeat at.node n 0
  pub out : own.step ≡ StepOut
  pub tree : Tree
  pub block : own.block ≡ Some tree
  pub lies : LiesWalked tops tree.bp walked

claim_child : (tops : List Top) (at : RequestAt) (n : ℕ) (outcome : Outcome) (w : OwnClaim) → at.node.own ≡ ClaimOwn w → IsOwnOutcome outcome
    → (k : HearsSome {N = Node} nodes tops (Request at) n outcome) → DoesClaim at.node w n k.op
claim_child tops at n outcome w is mine k =
    let s = sits_there k.terms tops at k.stack n k.child k.op outcome k.value k.hears in
    claims_at k.terms at.node k.stack w k.hears.now.is n k.child k.op s.0 is k.hears.there s.1 (own_none tops at n outcome mine k)

pub hears_claimed : (tops : List Top) (at : RequestAt) (n : ℕ) (outcome : Outcome) (walked : Walk) → outcome ≡ Walked walked → IsOwnOutcome outcome
    → kind_of at.node.waiting.request.work ≡ ClaimKind → IsUnderWay at.node.own → HearsSome {N = Node} nodes tops (Request at) n outcome → HearsClaimed tops at n walked
hears_claimed tops at n outcome walked is mine kind under k =
    let own = own_claim k.terms at.node k.stack k.hears.now.is kind under in
    let does = claim_child tops at n outcome own.0 own.1 mine k in
    let shows = shows_as tops at n outcome (Walked walked) is k in
    let inside : LiesWalked k.terms.setting.tops does.tree.bp walked = subst (λ (q : Task). ClaimsInside k.terms q walked) does.is shows.2 in
    record {
      own = own.0;
      is = own.1;
      seat = does.seat;
      out = does.out;
      tree = does.tree;
      block = does.block;
      lies = subst (λ (ts : List Top). LiesWalked ts does.tree.bp walked) k.hears.now.tops_are inside;
    }

pub claimed_walks : (tops : List Top) (at : RequestAt) (n : ℕ) (outcome : Outcome) → IsOwnOutcome outcome → kind_of at.node.waiting.request.work ≡ ClaimKind → IsUnderWay at.node.own
    → HearsSome {N = Node} nodes tops (Request at) n outcome → ((walked : Walk) → outcome ≡ Walked walked → ⊥) → ⊥
claimed_walks tops at n outcome mine kind under k never =
    let own = own_claim k.terms at.node k.stack k.hears.now.is kind under in
    let does = claim_child tops at n outcome own.0 own.1 mine k in
    walk_ends k.terms k.op outcome k.value mine k.hears.shows (subst IsWalk (sym does.is) tt) never
