-- What a write in an attempt hears of its own work, and what a request of any kind hears only while its own work is under way.
use Rattle.std.proofs.Common.{◌≡◌, ℕ, ◌+◌, ◌-◌, ◌*◌, ◌≤◌, List, length, slice_get, Bool, true, false, inl, inr, option_map, Option, Some, refl, sym, ap, subst, ◌∙◌, arith}
use Rattle.zio_types.specs.declared.place.Top.{Top}
use Rattle.zio_types.specs.declared.error.Errno.{Errno}
use Rattle.zio_types.specs.declared.request.ChildKind.{ChildKind}
use Rattle.zio_types.specs.declared.request.ChildKind.TheVariants.{Vdev}
use Rattle.zio_types.specs.declared.request.Kind.TheVariants.{Claim as ClaimKind, Free as FreeKind, Null as NullKind, Read as ReadKind, Write as WriteKind}
use Rattle.zio_masks.specs.declared.stage.Stage.{Stage}
use Rattle.zio_masks.specs.declared.stage.Stage.TheVariants.{Start, WriteBpInit, IssueAsync, WriteCompress, ChecksumGenerate, DvaAllocate, Ready, VdevIoStart, VdevIoDone, VdevIoAssess, Done}
use Rattle.zio_script.specs.Requests.{kind_of}
use Rattle.zio_script.specs.declared.script.Work.{Work}
use Rattle.zio_script.specs.declared.script.Work.TheVariants.{Null, Read, Write, Free, Claim}
use Rattle.zio_gang.specs.Attempts.{Pending, Terms}
use Rattle.zio_trace.specs.Families.{Forest}
use Rattle.zio_trace.specs.Leaves.{Answer, error_of}
use Rattle.zio_trace.specs.Tasks.{Attempt, ReadHeads, Task, Value}
use Rattle.zio_children.specs.RequestKids.{KidsUnderWay}
use Rattle.zio_frames.specs.Frames.{Child, Stack, needs_none}
use Rattle.zio_frames.specs.Seats.{HasSeat, ShowsTold, asked_at, slot_at}
use Rattle.zio_frames.specs.Slots.{Slot}
use Rattle.zio_frames.proofs.GetLemmas.{all_at}
use Rattle.zio_parts.specs.declared.parts.StoredPart.{StoredPart}
use Rattle.zio_exchange.specs.Outcomes.{IsAttempt, IsOutcome, IsPart, IsReading, IsWalk}
use Rattle.zio_exchange.specs.Wholes.{joined}
use Rattle.zio_exchange.specs.declared.waiting.UnfinishedRequest.{UnfinishedRequest}
use Rattle.zio_stages.specs.LeavesOut.{IsLeafTask}
use Rattle.zio_stages.specs.PartNodes.{IsAnsweredBy, IsStoredBy}
use Rattle.zio_stages.specs.PartOwns.{ForOther, ask_of}
use Rattle.zio_stages.specs.PartWorks.{Front}
use Rattle.zio_stages.specs.RequestCounts.{AsksTheSame, IsMoreDueWrite}
use Rattle.zio_stages.specs.RequestHearings.{HearsValueOf, IsNoAttempt, IsUnderWay}
use Rattle.zio_stages.specs.RequestKinds.{is_stored}
use Rattle.zio_stages.specs.RequestNodes.{IsOwnOf, IsRequestNode}
use Rattle.zio_stages.specs.RequestStages.{with_own}
use Rattle.zio_stages.specs.RequestWrites.{IsWrite, KeepsStages}
use Rattle.zio_stages.specs.RequestStoreds.{IsStoredWith}
use Rattle.zio_stages.specs.StoredBlocks.{IsGoingBack}
use Rattle.zio_types.specs.declared.request.Bits.{Bits}
use Rattle.zio_blkptr.specs.declared.pointer.Bp.{Bp}
use Rattle.zio_exchange.specs.declared.outcome.FinishedRequest.{FinishedRequest}
use Rattle.zio_stages.specs.Sealed.{Outcome}
use Rattle.zio_exchange.specs.declared.outcome.Outcome.TheVariants.{Again, Finished, Found as HasFound, Stored as HasStored, Walked}
use Rattle.zio_stages.specs.declared.closing.Seal.{Seal}
use Rattle.zio_stages.specs.declared.own_write.OwnWrite.{OwnWrite}
use Rattle.zio_stages.specs.declared.request_node.Own.{Own}
use Rattle.zio_stages.specs.declared.request_node.Own.TheVariants.{Claim as ClaimOwn, Due, Found, Free as FreeOwn, Over, Read as ReadOwn, Stored, Write as WriteOwn}
use Rattle.zio_stages.specs.declared.request_node.RequestNode.{RequestNode}
use Rattle.zio_stages.proofs.PartOwed.{own_out}
use Rattle.zio_stages.proofs.PartSeats.{own_seat}
use Rattle.zio_stages.proofs.RequestMembers.{own_place}
use Rattle.zio_stages.proofs.RequestWriteLemmas.{front_in, part_at, write_in}
use Rattle.zio_staged.specs.Stages.{Hears, HearsSome, HearsSomeEarly, heard_max}
use Rattle.zio_nodes.specs.Bounds.{due_left, leaf_share, member_share, members_max, pass_left, write_asks_max}
use Rattle.zio_nodes.specs.Nodes.{nodes}
use Rattle.zio_nodes.specs.RequestAts.{AreOutBehind, RequestStands, StandsAt, StandsBy, WriteStands, gave_by}
use Rattle.zio_nodes.specs.RequestBounds.{left_by, own_at, own_left, request_left, request_share}
use Rattle.zio_nodes.specs.RequestHears.{IsOwnOutcome}
use Rattle.zio_nodes.specs.WriteBounds.{io_left, members_left, write_at}
use Rattle.zio_nodes.specs.declared.node.Node.{Node}
use Rattle.zio_nodes.specs.declared.node.Node.TheVariants.{Request}
use Rattle.zio_nodes.specs.declared.request_at.RequestAt.{RequestAt}
use Rattle.zio_nodes.proofs.AttemptHears.{hears_of}
use Rattle.zio_nodes.proofs.RequestBoundLemmas.{end_most}
use Rattle.zio_nodes.proofs.WriteLemmas.{none_gave, written_unstored}

-- ---- whose own work is under way

-- a write's own work is the write of its block
own_write_by : (t : Terms) (r : RequestNode) (st : Stack) (x : KidsUnderWay) (f : Front) (asked : List Task) (slots : List Slot) (own : Own)
    → kind_of r.waiting.request.work ≡ WriteKind → IsOwnOf t r x f own st asked slots → IsUnderWay own → IsWrite own
own_write_by t r st x f asked slots Due kind k u = absurd u
own_write_by t r st x f asked slots (WriteOwn w) kind k u = tt
own_write_by t r st x f asked slots (Stored b) kind k u = absurd u
own_write_by t r st x f asked slots (ReadOwn w) kind k u = let no : WriteKind ≡ ReadKind = sym kind ∙ ap kind_of k.work in absurd (cc)
own_write_by t r st x f asked slots (FreeOwn w) kind k u = let no : WriteKind ≡ FreeKind = sym kind ∙ ap kind_of k.work in absurd (cc)
own_write_by t r st x f asked slots (ClaimOwn w) kind k u = let no : WriteKind ≡ ClaimKind = sym kind ∙ ap kind_of k.work in absurd (cc)
own_write_by t r st x f asked slots (Found own) kind k u = absurd u
own_write_by t r st x f asked slots Over kind k u = absurd u

pub own_write : (t : Terms) (r : RequestNode) (st : Stack) → IsRequestNode t r st → kind_of r.waiting.request.work ≡ WriteKind → IsUnderWay r.own → IsWrite r.own
own_write t r st h kind u = own_write_by t r st r.kids.kids (front_in t r st h) h.own_asked h.own_slots r.own kind h.own u

-- a null has none
null_by : (t : Terms) (r : RequestNode) (st : Stack) (x : KidsUnderWay) (f : Front) (asked : List Task) (slots : List Slot) (own : Own)
    → kind_of r.waiting.request.work ≡ NullKind → IsOwnOf t r x f own st asked slots → IsUnderWay own → ⊥
null_by t r st x f asked slots Due kind k u = u
null_by t r st x f asked slots (WriteOwn w) kind k u = let no : NullKind ≡ WriteKind = sym kind ∙ ap kind_of k.block.work in absurd (cc)
null_by t r st x f asked slots (Stored b) kind k u = u
null_by t r st x f asked slots (ReadOwn w) kind k u = let no : NullKind ≡ ReadKind = sym kind ∙ ap kind_of k.work in absurd (cc)
null_by t r st x f asked slots (FreeOwn w) kind k u = let no : NullKind ≡ FreeKind = sym kind ∙ ap kind_of k.work in absurd (cc)
null_by t r st x f asked slots (ClaimOwn w) kind k u = let no : NullKind ≡ ClaimKind = sym kind ∙ ap kind_of k.work in absurd (cc)
null_by t r st x f asked slots (Found own) kind k u = u
null_by t r st x f asked slots Over kind k u = u

pub null_idle : (t : Terms) (r : RequestNode) (st : Stack) → IsRequestNode t r st → kind_of r.waiting.request.work ≡ NullKind → IsUnderWay r.own → ⊥
null_idle t r st h kind u = null_by t r st r.kids.kids (front_in t r st h) h.own_asked h.own_slots r.own kind h.own u

-- ---- what is heard

reading_no : (op : Task) → IsReading op → IsAttempt op → ⊥
reading_no (Attempt attempt p kids) r a = r
reading_no op r a = a

walk_no : (op : Task) → IsWalk op → IsAttempt op → ⊥
walk_no (Attempt attempt p kids) r a = r
walk_no op r a = a

part_no : (op : Task) → IsPart op → IsAttempt op → ⊥
part_no (Attempt attempt p kids) r a = r
part_no op r a = a

pub own_no_attempt : (t : Terms) (op : Task) (outcome : Outcome) (v : Value) → IsOwnOutcome outcome → IsOutcome t op outcome v → IsAttempt op → ⊥
own_no_attempt t op (Finished f) v own h a = own
own_no_attempt t op (Again whole bits pointer) v own h a = own
own_no_attempt t op (HasFound answer) v own h a = reading_no op h.0 a
own_no_attempt t op (Walked walked) v own h a = walk_no op h.0 a
own_no_attempt t op (HasStored part) v own h a = part_no op h.0 a

-- what no attempt ends with
pub hears_own : (tops : List Top) (at : RequestAt) (n : ℕ) (outcome : Outcome) → IsOwnOutcome outcome → HearsSome {N = Node} nodes tops (Request at) n outcome
    → HearsValueOf IsNoAttempt at.node n
hears_own tops at n outcome own k =
    hears_of IsNoAttempt k.terms tops at k.stack n k.child k.op outcome k.value k.hears (own_no_attempt k.terms k.op outcome k.value own k.hears.shows)

-- its leaf answered
pub hears_found : (tops : List Top) (at : RequestAt) (n : ℕ) (outcome : Outcome) (found : Answer) (error : Option Errno) → outcome ≡ HasFound found
    → error ≡ error_of found → HearsSome {N = Node} nodes tops (Request at) n outcome → HearsValueOf (IsAnsweredBy error) at.node n
hears_found tops at n outcome found error is same k =
    let shows : IsOutcome {S = Seal} k.terms k.op (HasFound found) k.value = subst (λ (o : Outcome). IsOutcome {S = Seal} k.terms k.op o k.value) is k.hears.shows in
    hears_of (IsAnsweredBy error) k.terms tops at k.stack n k.child k.op outcome k.value k.hears (shows.0, (found, shows.1, sym same))

-- its member's write came to this
pub hears_stored : (tops : List Top) (at : RequestAt) (n : ℕ) (outcome : Outcome) (stored : StoredPart) → outcome ≡ HasStored stored
    → HearsSome {N = Node} nodes tops (Request at) n outcome → HearsValueOf (IsStoredBy stored) at.node n
hears_stored tops at n outcome stored is k =
    hears_of (IsStoredBy stored) k.terms tops at k.stack n k.child k.op outcome k.value k.hears
    (subst (λ (o : Outcome). IsOutcome k.terms k.op o k.value) is k.hears.shows)

-- ---- a write walks over no headers

pub walk_leaf : (op : Task) → IsWalk op → IsLeafTask op → ⊥
walk_leaf (ReadHeads look levels path bp) h l = l
walk_leaf op h l = h

walk_other : (op : Task) → IsWalk op → ask_of op ≡ ForOther
walk_other (ReadHeads look levels path bp) h = refl
walk_other op h = absurd h

pub walk_attempt : (op : Task) → IsWalk op → (attempt : ℕ) (p : Pending) (below : Forest) → op ≡ Attempt attempt p below → ⊥
walk_attempt op walk attempt p below is = subst IsWalk is walk

written_by : (own : Own) → IsWrite own → (w : OwnWrite) × (own ≡ WriteOwn w)
written_by Due h = absurd h
written_by (WriteOwn w) h = (w, refl)
written_by (Stored b) h = absurd h
written_by (ReadOwn w) h = absurd h
written_by (FreeOwn w) h = absurd h
written_by (ClaimOwn w) h = absurd h
written_by (Found own) h = absurd h
written_by Over h = absurd h

no_walk : (t : Terms) (tops : List Top) (at : RequestAt) (st : Stack) (n : ℕ) (c : Child) (op : Task) (outcome : Outcome) (v : Value)
    → Hears {N = Node} nodes tops t (Request at) st n c op outcome v → IsWrite at.node.own → IsWalk op → ⊥
no_walk t tops at st n c op outcome v h write walk =
    let r : RequestNode = at.node in
    let is : IsRequestNode t r st = h.now.is in
    let by = written_by r.own write in
    let w : OwnWrite = by.0 in
    let own = write_in t r st w is by.1 in
    let f : Front = front_in t r st is in
    let part = part_at t r st w is own in
    let sits = all_at (HasSeat st) st.children n c h.now.seated.each h.there h.goes in
    let both : Some sits.0 ≡ Some op = sym sits.2.asked ∙ h.asked in
    let same : op ≡ sits.0 = cc in
    let walks : IsWalk sits.0 = subst IsWalk same walk in
    let seat = own_seat t w.work r.family f own.part st c sits.0 sits.1 part sits.2 (walk_leaf sits.0 walks) in
    let asked : slice_get st.outer.asked seat.0 ≡ Some sits.0 = ap (asked_at st) (sym seat.1) ∙ sits.2.asked in
    let place = own_place t r st seat.0 sits.0 is asked (walk_attempt sits.0 walks) in
    (own_out t w.work r.family f own.part st seat.0 place.0 sits.0 sits.1 part place.1 asked (ap (slot_at st) (sym seat.1) ∙ sits.2.slot)).known
    (walk_other sits.0 walks)

pub never_walked : (tops : List Top) (at : RequestAt) (n : ℕ) (outcome : Outcome) → HearsSome {N = Node} nodes tops (Request at) n outcome → IsWrite at.node.own
    → ((walk : _) → outcome ≡ Walked walk → ⊥)
never_walked tops at n outcome k write walk is =
    let shows = subst (λ (o : Outcome). IsOutcome k.terms k.op o k.value) is k.hears.shows in
    no_walk k.terms tops at k.stack n k.child k.op outcome k.value k.hears write shows.0

-- ---- no leaf tells

pub leaf_told : (at : RequestAt) (n : ℕ) (k : HearsSomeEarly {N = Node} nodes (Request at) n) → k.child.kind ≡ Vdev → ⊥
leaf_told at n k vdev =
    let h = k.hears in
    let sits = all_at (HasSeat k.stack) k.stack.children n k.child h.seated.each h.there h.goes in
    subst (λ (b : Bool). ShowsTold b false sits.1) (ap needs_none vdev) (subst (λ (b : Bool). ShowsTold (needs_none k.child.kind) b sits.1) h.untold sits.2.shows)

-- ---- how far it is then

not_due : (own : Own) → IsWrite own → own ≡ Due → ⊥
not_due own h is = subst IsWrite is h

not_stored : (own : Own) → IsWrite own → IsStoredWith IsGoingBack own → ⊥
not_stored Due h s = h
not_stored (WriteOwn w) h s = s
not_stored (Stored b) h s = h
not_stored (ReadOwn w) h s = h
not_stored (FreeOwn w) h s = h
not_stored (ClaimOwn w) h s = h
not_stored (Found own) h s = h
not_stored Over h s = h

-- the second is as far, and where an operation on a leaf is due then it may be
pub record IsAsFar (tops : List Top) (due to : Bool) (a b : Own) : Type 0 where
  pub write : IsWrite a
  pub keeps : KeepsStages a b
  pub still : due ≡ true → to ≡ true
  pub more : to ≡ false → IsMoreDueWrite tops b → (due ≡ false) × IsMoreDueWrite tops a

write_far : (tops : List Top) (stage : Stage) (due to : Bool) (r now : RequestNode) → IsAsFar tops due to r.own now.own
    → WriteStands tops stage due r → WriteStands tops stage to now
write_far tops WriteBpInit due to r now far h = absurd (not_due r.own far.write h)
write_far tops IssueAsync due to r now far h = absurd (not_due r.own far.write h)
write_far tops WriteCompress due to r now far h = absurd (not_due r.own far.write h)
write_far tops ChecksumGenerate due to r now far h = far.keeps.begun h
write_far tops DvaAllocate due to r now far h = far.keeps.begun h
write_far tops Ready due to r now far h = far.keeps.placed h
write_far tops VdevIoStart due to r now far h = (far.keeps.ready h.0, far.still h.1)
write_far tops VdevIoDone due to r now far h =
    (far.keeps.ready h.0, far.keeps.issued h.1, λ never more. h.2 (far.more never more).0 (far.more never more).1)
write_far tops VdevIoAssess due to r now far h = (far.keeps.ready h.0, far.keeps.issued h.1, far.keeps.due tops h.2)
write_far tops Done due to r now far (inl h) = inl (far.keeps.written h)
write_far tops Done due to r now far (inr h) = absurd (not_stored r.own far.write h.stored)
write_far tops stage due to r now far h = absurd h

kind_far : (work : Work) (tops : List Top) (stage : Stage) (due to : Bool) (r now : RequestNode) → kind_of work ≡ WriteKind → IsAsFar tops due to r.own now.own
    → StandsBy work tops stage due r → StandsBy work tops stage to now
kind_far Null tops stage due to r now kind far h = absurd (cc)
kind_far (Read name prio) tops stage due to r now kind far h = absurd (cc)
kind_far (Write name sum copies prio body) tops stage due to r now kind far h = write_far tops stage due to r now far h
kind_far (Free name) tops stage due to r now kind far h = absurd (cc)
kind_far (Claim name pointer) tops stage due to r now kind far h = absurd (cc)

at_far : (work : Work) (tops : List Top) (stage : Stage) (due to : Bool) (r now : RequestNode) → kind_of work ≡ WriteKind → IsAsFar tops due to r.own now.own
    → StandsAt work tops stage due r → StandsAt work tops stage to now
at_far work tops Start due to r now kind far h = absurd (not_due r.own far.write h.0)
at_far work tops stage due to r now kind far h = kind_far work tops stage due to r now kind far h

pub stands_far : (tops : List Top) (stage : Stage) (due to : Bool) (r now : RequestNode) → kind_of r.waiting.request.work ≡ WriteKind
    → now ≡ with_own r now.own now.family → IsAsFar tops due to r.own now.own → RequestStands tops stage due r → RequestStands tops stage to now
stands_far tops stage due to r now kind rest far h = record {
  out = subst (AreOutBehind stage) (sym (ap (λ (x : RequestNode). x.kids.kids) rest)) h.out;
  own = subst (λ (w : Work). StandsAt w tops stage to now) (sym (ap (λ (x : RequestNode). x.waiting.request.work) rest))
      (at_far r.waiting.request.work tops stage due to r now kind far h.own);
}

-- ---- how often it runs then

members_same : (a b : Own) → AsksTheSame a b → members_left b ≡ members_left a
members_same a b h = λ i. member_share (8 - length (h.path i)) * (members_max - h.many i)

io_same : (a b : Own) → AsksTheSame a b → io_left b ≡ io_left a
io_same a b h = λ i. leaf_share * (write_asks_max - h.asked i) + pass_left (h.second i)

pub due_few : (a b : Bool) → due_left b ≤ due_left a + 2
due_few true true = omega arith
due_few true false = omega arith
due_few false true = omega arith
due_few false false = omega arith

write_more : (stage : Stage) (due to : Bool) (a b : Own) → IsWrite a → AsksTheSame a b → write_at stage to b ≤ write_at stage due a + heard_max
write_more WriteBpInit due to a b write same = omega arith
write_more IssueAsync due to a b write same = omega arith
write_more WriteCompress due to a b write same = omega arith
write_more ChecksumGenerate due to a b write same = omega arith
write_more DvaAllocate due to a b write same = omega (arith, members_same a b same)
write_more Ready due to a b write same = omega arith
write_more VdevIoStart due to a b write same = omega (arith, io_same a b same, due_few due to)
write_more VdevIoDone due to a b write same = omega (arith, io_same a b same, due_few due to)
write_more VdevIoAssess due to a b write same = omega (arith, io_same a b same)
write_more Done due to a b write same = omega (arith, end_most (is_stored b))
write_more stage due to a b write same = omega arith

kind_more : (work : Work) (stage : Stage) (due to : Bool) (r now : RequestNode) → kind_of work ≡ WriteKind → IsWrite r.own → AsksTheSame r.own now.own
    → left_by work (record { node = now; stage = stage; is_due = to }) ≤ left_by work (record { node = r; stage = stage; is_due = due }) + heard_max
kind_more Null stage due to r now kind write same = absurd (cc)
kind_more (Read name prio) stage due to r now kind write same = absurd (cc)
kind_more (Write name sum copies prio body) stage due to r now kind write same = write_more stage due to r.own now.own write same
kind_more (Free name) stage due to r now kind write same = absurd (cc)
kind_more (Claim name pointer) stage due to r now kind write same = absurd (cc)

at_more : (work : Work) (stage : Stage) (due to : Bool) (r now : RequestNode) → kind_of work ≡ WriteKind → IsWrite r.own → AsksTheSame r.own now.own
    → own_at stage work (record { node = now; stage = stage; is_due = to }) ≤ own_at stage work (record { node = r; stage = stage; is_due = due }) + heard_max
at_more work Start due to r now kind write same = omega arith
at_more work stage due to r now kind write same = kind_more work stage due to r now kind write same

pub left_more : (stage : Stage) (due to : Bool) (r now : RequestNode) → kind_of r.waiting.request.work ≡ WriteKind → now ≡ with_own r now.own now.family
    → IsWrite r.own → AsksTheSame r.own now.own
    → request_left (record { node = now; stage = stage; is_due = to }) ≤ request_left (record { node = r; stage = stage; is_due = due }) + heard_max
left_more stage due to r now kind rest write same =
    let was : RequestAt = record { node = r; stage = stage; is_due = due } in
    let is : RequestAt = record { node = now; stage = stage; is_due = to } in
    let own : own_left is ≤ own_left was + heard_max =
    subst (λ (w : Work). own_at stage w is ≤ own_left was + heard_max) (sym (ap (λ (x : RequestNode). x.waiting.request.work) rest))
    (at_more r.waiting.request.work stage due to r now kind write same) in
    omega (arith, own, ap (λ (x : RequestNode). length (joined x.kids.due) * request_share) rest)

-- ---- what it gave back

pub write_kept : (r now : RequestNode) → kind_of r.waiting.request.work ≡ WriteKind → now ≡ with_own r now.own now.family → IsWrite r.own → IsWrite now.own
    → gave_by now.waiting.request.work now ≡ gave_by r.waiting.request.work r
write_kept r now kind rest old new =
    none_gave now (ap (λ (x : RequestNode). kind_of x.waiting.request.work) rest ∙ kind) (written_unstored (λ (w : OwnWrite). Unit {0}) now.own new)
    ∙ sym (none_gave r kind (written_unstored (λ (w : OwnWrite). Unit {0}) r.own old))

-- ---- of which kind the child is

pub child_kind : (at : RequestAt) (n : ℕ) (kind : ChildKind) (k : HearsSomeEarly {N = Node} nodes (Request at) n)
    → Some kind ≡ option_map (λ (c : Child). c.kind) (slice_get at.node.family n) → k.child.kind ≡ kind
child_kind at n kind k h =
    let there = ap (λ (cs : List Child). option_map (λ (c : Child). c.kind) (slice_get cs n)) k.hears.is.family
    ∙ ap (option_map (λ (c : Child). c.kind)) k.hears.there in
    let both : Some kind ≡ Some k.child.kind = h ∙ there in
    cc

pub own_outcome : (outcome : Outcome) → ((f : FinishedRequest) → outcome ≡ Finished f → ⊥)
    → ((whole : List UnfinishedRequest) (bits : Bits) (pointer : Option Bp) → outcome ≡ Again whole bits pointer → ⊥) → IsOwnOutcome outcome
own_outcome (Finished f) first again = absurd (first f refl)
own_outcome (Again whole bits pointer) first again = absurd (again whole bits pointer refl)
own_outcome (HasFound answer) first again = tt
own_outcome (Walked walked) first again = tt
own_outcome (HasStored part) first again = tt
