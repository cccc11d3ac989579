-- The write of a member as a node: what it hears of its members and of the leaves.
use Rattle.std.proofs.Common.{◌≡◌, ℕ, List, slice_get, ◌+◌, Bool, true, false, arith, Option, Some, None, refl, sym, ap, subst, ◌∙◌}
use Rattle.std.specs.Prelude.{IfSome}
use Rattle.zio_types.specs.declared.place.Top.{Top}
use Rattle.zio_masks.specs.declared.stage.Stage.{Stage}
use Rattle.zio_masks.specs.declared.stage.Stage.TheVariants.{ChecksumGenerate, Done, DvaAllocate, IssueAsync, Ready, Start, VdevIoAssess, VdevIoDone, VdevIoStart, WriteBpInit, WriteCompress}
use Rattle.zio_types.specs.declared.request.ChildKind.{ChildKind}
use Rattle.zio_types.specs.declared.request.ChildKind.TheVariants.{Gang, Vdev}
use Rattle.zio_blkptr.specs.declared.pointer.Bp.{Bp}
use Rattle.zio_gang.specs.Attempts.{Terms}
use Rattle.zio_trace.specs.Leaves.{Answer, error_of}
use Rattle.zio_trace.specs.Tasks.{Attempt, Leaf as OnLeaf, ReadHeads, Settle, Task, Value}
use Rattle.zio_frames.specs.Frames.{Child, Stack, kind_of_task, needs_none}
use Rattle.zio_frames.specs.Seats.{HasSeat, ShowsTold, SitsAt, asked_at, slot_at}
use Rattle.zio_frames.proofs.GetLemmas.{all_at}
use Rattle.zio_parts.specs.PartWrites.{is_ready}
use Rattle.zio_parts.specs.declared.parts.StoredPart.{StoredPart}
use Rattle.zio_exchange.specs.Outcomes.{IsAttempt, IsOutcome, IsWalk}
use Rattle.zio_stages.specs.LeavesOut.{IsLeafTask}
use Rattle.zio_stages.specs.NodeIos.{IsWriteDue}
use Rattle.zio_stages.specs.OwnParts.{HearsValue}
use Rattle.zio_stages.specs.PartNodes.{HearsEarlyAt, HearsValueAt, IsAnsweredBy, IsPartNode, IsStoredBy, no_front}
use Rattle.zio_stages.specs.PartOwns.{ForOther, ask_of}
use Rattle.zio_stages.specs.PartWorks.{IsIssued, IsMoreDue, IsNoLessFar}
use Rattle.zio_stages.specs.Sealed.{Outcome}
use Rattle.zio_exchange.specs.declared.outcome.Outcome.TheVariants.{Again, Finished, Found, Stored, Walked}
use Rattle.zio_stages.specs.declared.closing.Seal.{Seal}
use Rattle.zio_stages.specs.declared.part.PartOwn.{PartOwn}
use Rattle.zio_stages.specs.declared.part_work.PartWork.{PartWork}
use Rattle.zio_stages.specs.declared.write_io.WriteIo.{WriteIo}
use Rattle.zio_stages.proofs.PartOwed.{own_out}
use Rattle.zio_stages.proofs.PartSeats.{own_seat}
use Rattle.zio_staged.specs.Stages.{Hears, HearsEarly, HearsSome, HearsSomeEarly}
use Rattle.zio_nodes.specs.Nodes.{nodes}
use Rattle.zio_nodes.specs.PartAts.{PartStands}
use Rattle.zio_nodes.specs.declared.node.Node.{Node}
use Rattle.zio_nodes.specs.declared.node.Node.TheVariants.{Part}
use Rattle.zio_nodes.specs.declared.part_at.PartAt.{PartAt}

-- ---- what it hears

pub hears_early : (at : PartAt) (n : ℕ) → HearsSomeEarly {N = Node} nodes (Part at) n → HearsEarlyAt at.node n
hears_early at n h = record {
  terms = h.terms;
  stack = h.stack;
  child = h.child;
  is = h.hears.is;
  seated = h.hears.seated;
  there = h.hears.there;
  goes = h.hears.goes;
  untold = h.hears.untold;
}

hears_value : (t : Terms) (tops : List Top) (at : PartAt) (st : Stack) (n : ℕ) (c : Child) (op : Task) (outcome : Outcome) (v : Value)
    → Hears {N = Node} nodes tops t (Part at) st n c op outcome v → HearsValue t tops st n c op v
hears_value t tops at st n c op outcome v h = record {
  tops_are = h.now.tops_are;
  seated = h.now.seated;
  there = h.there;
  goes = h.goes;
  told = h.told;
  asked = h.asked;
  fits_told = h.fits_told;
  fits = h.fits;
}

hears_as : (IsHeard : Task → Value → Type 0) (tops : List Top) (at : PartAt) (n : ℕ) (outcome : Outcome) (h : HearsSome {N = Node} nodes tops (Part at) n outcome)
    → IsHeard h.op h.value → HearsValueAt IsHeard at.node n
hears_as IsHeard tops at n outcome h heard = record {
  terms = h.terms;
  tops = tops;
  stack = h.stack;
  child = h.child;
  op = h.op;
  value = h.value;
  is = h.hears.now.is;
  hears = hears_value h.terms tops at h.stack n h.child h.op outcome h.value h.hears;
  heard = heard;
}

pub hears_found : (tops : List Top) (at : PartAt) (n : ℕ) (outcome : Outcome) (found : Answer) → outcome ≡ Found found
    → HearsSome {N = Node} nodes tops (Part at) n outcome → HearsValueAt (IsAnsweredBy (error_of found)) at.node n
hears_found tops at n outcome found is h =
    let shows : IsOutcome {S = Seal} h.terms h.op (Found found) h.value = subst (λ (o : Outcome). IsOutcome {S = Seal} h.terms h.op o h.value) is h.hears.shows in
    hears_as (IsAnsweredBy (error_of found)) tops at n outcome h (shows.0, (found, shows.1, refl))

pub hears_stored : (tops : List Top) (at : PartAt) (n : ℕ) (outcome : Outcome) (stored : StoredPart) → outcome ≡ Stored stored
    → HearsSome {N = Node} nodes tops (Part at) n outcome → HearsValueAt (IsStoredBy stored) at.node n
hears_stored tops at n outcome stored is h =
    hears_as (IsStoredBy stored) tops at n outcome h (subst (λ (o : Outcome). IsOutcome h.terms h.op o h.value) is h.hears.shows)

-- it has no attempts and no walks
abbrev IsForeign : Task → Type 0
IsForeign op = (IsLeafTask op → ⊥) × (ask_of op ≡ ForOther)

attempt_foreign : (op : Task) → IsAttempt op → IsForeign op
attempt_foreign (Attempt attempt p kids) h = (λ l. l, refl)
attempt_foreign op h = absurd h

walk_foreign : (op : Task) → IsWalk op → IsForeign op
walk_foreign (ReadHeads look levels path bp) h = (λ l. l, refl)
walk_foreign op h = absurd h

none_foreign : (t : Terms) (at : PartAt) (st : Stack) (c : Child) (op : Task) (told : Option (Option Bp)) → IsPartNode t at.node st → SitsAt st c op told
    → IsForeign op → ⊥
none_foreign t at st c op told is sits foreign =
    let w : PartWork = at.node.work in
    let seat = own_seat t w at.node.family (no_front is.part) is.part st c op told is.at sits foreign.0 in
    let asked : slice_get st.outer.asked seat.0 ≡ Some op = ap (asked_at st) (sym seat.1) ∙ sits.asked in
    let slot = ap (slot_at st) (sym seat.1) ∙ sits.slot in
    (own_out t w at.node.family (no_front is.part) is.part st seat.0 seat.0 op told is.at (none_before seat.0) asked slot).known foreign.1
  where
    none_before : (m : ℕ) → m ≡ 0 + m
    none_before m = omega arith

no_foreign : (t : Terms) (tops : List Top) (at : PartAt) (st : Stack) (n : ℕ) (c : Child) (op : Task) (outcome : Outcome) (v : Value)
    → Hears {N = Node} nodes tops t (Part at) st n c op outcome v → IsForeign op → ⊥
no_foreign t tops at st n c op outcome v h foreign =
    let sits = all_at (HasSeat st) st.children n c h.now.seated.each h.there h.goes in
    let both : Some sits.0 ≡ Some op = sym sits.2.asked ∙ h.asked in
    let same : op ≡ sits.0 = cc in
    none_foreign t at st c sits.0 sits.1 h.now.is sits.2 (subst IsForeign same foreign)

-- a child that tells a pointer writes a member
gang_of : (op : Task) (kind : ChildKind) → kind ≡ kind_of_task op → (IsForeign op → ⊥) → (kind ≡ Vdev → ⊥) → kind ≡ Gang
gang_of (OnLeaf act) kind e known never = absurd (never e)
gang_of (Attempt attempt p kids) kind e known never = absurd (known (λ l. l, refl))
gang_of (Settle p kids) kind e known never = absurd (known (λ l. l, refl))
gang_of op kind e known never = e

vdev_tells : (kind : ChildKind) (told : Bool) (out : Option (Option Bp)) → ShowsTold (needs_none kind) told out → told ≡ false → kind ≡ Vdev → ⊥
vdev_tells kind told out shows untold e =
    subst (λ (b : Bool). ShowsTold true b out) untold (subst (λ (k : ChildKind). ShowsTold (needs_none k) told out) e shows)

pub member_tells : (t : Terms) (at : PartAt) (st : Stack) (n : ℕ) (c : Child) → HearsEarly {N = Node} nodes t (Part at) st n c → c.kind ≡ Gang
member_tells t at st n c h =
    let sits = all_at (HasSeat st) st.children n c h.seated.each h.there h.goes in
    gang_of sits.0 c.kind sits.2.kind (none_foreign t at st c sits.0 sits.1 h.is sits.2) (vdev_tells c.kind c.told sits.1 sits.2.shows h.untold)

abbrev pub IsHeardPart : Outcome → Type 0
IsHeardPart (Finished f) = ⊥
IsHeardPart (Again whole bits pointer) = ⊥
IsHeardPart (Found a) = Unit {0}
IsHeardPart (Walked walked) = ⊥
IsHeardPart (Stored part) = Unit {0}

heard_outcome : (t : Terms) (op : Task) (outcome : Outcome) (v : Value) → (IsForeign op → ⊥) → IsOutcome t op outcome v → IsHeardPart outcome
heard_outcome t op (Finished f) v never h = never (attempt_foreign op h.0)
heard_outcome t op (Again whole bits pointer) v never h = never (attempt_foreign op h.0)
heard_outcome t op (Found a) v never h = tt
heard_outcome t op (Walked walked) v never h = never (walk_foreign op h.0)
heard_outcome t op (Stored part) v never h = tt

pub hears_leaf_or_member : (tops : List Top) (at : PartAt) (n : ℕ) (outcome : Outcome) → HearsSome {N = Node} nodes tops (Part at) n outcome → IsHeardPart outcome
hears_leaf_or_member tops at n outcome h =
    heard_outcome h.terms h.op outcome h.value (no_foreign h.terms tops at h.stack n h.child h.op outcome h.value h.hears) h.hears.shows

-- what one that hears of a leaf may be at: not where none is out
pub leaf_stands : (tops : List Top) (stage : Stage) (due : Bool) (old new : PartWork) → PartStands tops stage due old → new.own ≡ old.own
    → ((ts : List Top) → IfSome old.io (IsWriteDue ts) → ⊥) → PartStands tops stage true new
leaf_stands tops stage due old new h own out = by stage h where
  idle : old.io ≡ None → ⊥
  idle none = out tops (subst (λ (io : Option WriteIo). IfSome io (IsWriteDue tops)) (sym none) tt)

  by : (s : Stage) → PartStands tops s due old → PartStands tops s true new
  by Start k = absurd (idle k.1)
  by WriteBpInit k = absurd (idle k.1)
  by IssueAsync k = absurd (idle k.1)
  by WriteCompress k = absurd (idle k.1)
  by ChecksumGenerate k = absurd (idle k.1)
  by DvaAllocate k = absurd (idle k.1)
  by Ready k = absurd (idle k.1)
  by VdevIoStart k = (refl, ap (λ (x : PartOwn). is_ready x.part) own ∙ k.1)
  by VdevIoDone k = (ap (λ (x : PartOwn). is_ready x.part) own ∙ k.0, subst (λ (x : PartOwn). IsIssued x.part) (sym own) k.1, λ no. absurd (cc))
  by VdevIoAssess k = absurd (out tops k.2)
  by Done k = absurd (idle k.0)
  by s k = absurd k

-- of a member it may hear at each stage
pub member_stands : (tops : List Top) (stage : Stage) (due : Bool) (old new : PartWork) → PartStands tops stage due old → IsNoLessFar old.own.part new.own.part
    → new.io ≡ old.io → PartStands tops stage due new
member_stands tops stage due old new h far io = by stage h where
  idle : old.io ≡ None → new.io ≡ None
  idle none = io ∙ none

  by : (s : Stage) → PartStands tops s due old → PartStands tops s due new
  by Start k = (k.0, idle k.1)
  by WriteBpInit k = (k.0, idle k.1)
  by IssueAsync k = (k.0, idle k.1)
  by WriteCompress k = (k.0, idle k.1)
  by ChecksumGenerate k = (k.0, idle k.1)
  by DvaAllocate k = (k.0, idle k.1)
  by Ready k = (k.0, idle k.1, far.placed k.2)
  by VdevIoStart k = (k.0, far.ready k.1)
  by VdevIoDone k = (far.ready k.0, far.issued k.1, λ no more. k.2 no (subst (IsMoreDue tops) io more))
  by VdevIoAssess k = (far.ready k.0, far.issued k.1, subst (λ (i : Option WriteIo). IfSome i (IsWriteDue tops)) (sym io) k.2)
  by Done k = (idle k.0, far.issued k.1)
  by s k = absurd k
