-- The read of copies as a node: its children, what it hears, and its end.
use Rattle.std.proofs.Common.{◌≡◌, ℕ, zero, suc, List, [], ◌∷◌, ◌++◌, slice_get, slice_set, Bool, true, false, Option, Some, None, inr, refl, sym, ap, subst, ◌∙◌}
use Rattle.std.specs.List.{AllByRecursion, flat_map}
use Rattle.std.specs.Prelude.{IsPermutation}
use Rattle.std.proofs.lemmas.List.Sorted.{IsPermutation-refl}
use Rattle.zio_types.specs.declared.place.Place.{Place}
use Rattle.zio_types.specs.declared.place.Top.{Top}
use Rattle.zio_types.specs.declared.request.ChildKind.TheVariants.{Vdev}
use Rattle.zio_gang.specs.Attempts.{Terms}
use Rattle.zio_trace.specs.Conflicts.{is_single}
use Rattle.zio_trace.specs.Leaves.{Answer, LeafOp}
use Rattle.zio_trace.specs.Tasks.{Attempt, Find, Got, Leaf as OnLeaf, ReadCopies, ReadHeads, ReadTree, Settle, TakePlaces, Task, Value, WriteCopies, WritePart}
use Rattle.zio_frames.specs.Frames.{Child, Frame, Inner, OfInner, OfOuter, Seat, Stack, asking, kind_of_task, needs_none}
use Rattle.zio_frames.specs.Moves.{IsEnded, handed, set_at, set_in_inner, with_asking}
use Rattle.zio_frames.specs.Seats.{HasSeat, IsSeated, ShowsTold, asked_at, slot_at}
use Rattle.zio_frames.specs.Slots.{Heard, IsOut, Slot}
use Rattle.zio_frames.proofs.GetLemmas.{all_at}
use Rattle.zio_exchange.specs.Outcomes.{IsOutcome, IsReading, places_by, places_in, places_with}
use Rattle.zio_stages.specs.CopiesNodes.{IsCopiesNode}
use Rattle.zio_stages.specs.LeavesOut.{HasAskedLeaves, IsLeafTask}
use Rattle.zio_stages.specs.NodeIos.{IsAsking, IsAwaitedAt, IsReadDue}
use Rattle.zio_stages.specs.declared.closing.Seal.{Seal}
use Rattle.zio_stages.specs.declared.family.Layer.TheVariants.{Own}
use Rattle.zio_stages.specs.Sealed.{Outcome}
use Rattle.zio_exchange.specs.declared.outcome.Outcome.TheVariants.{Again, Finished, Found, Stored, Walked}
use Rattle.zio_stages.specs.declared.read_io.ReadIo.{ReadIo}
use Rattle.zio_stages.proofs.CopiesNodeLemmas.{own_frame}
use Rattle.zio_stages.proofs.OutPlaces.{read_asks}
use Rattle.zio_staged.specs.Parts.{ended_in_slot}
use Rattle.zio_staged.specs.Stages.{Ends, GoesOn, Hears}
use Rattle.zio_masks.specs.Stages.{IsNext}
use Rattle.zio_masks.specs.declared.pipeline.TheConstants.{READ}
use Rattle.zio_masks.specs.declared.stage.Stage.{Stage}
use Rattle.zio_masks.specs.declared.stage.Stage.TheVariants.{ChecksumVerify, Done, ReadBpInit, Ready, Start, VdevIoAssess, VdevIoDone, VdevIoStart}
use Rattle.zio_nodes.specs.CopiesAts.{IsAnswerIn, IsCopiesAt, ReadStands}
use Rattle.zio_nodes.specs.Nodes.{gave_of, nodes}
use Rattle.zio_nodes.specs.StageMoves.{IsNextOf, takes_stage}
use Rattle.zio_nodes.specs.Told.{is_told}
use Rattle.zio_nodes.specs.declared.copies_at.CopiesAt.{CopiesAt}
use Rattle.zio_nodes.specs.declared.node.Node.{Node}
use Rattle.zio_nodes.specs.declared.node.Node.TheVariants.{Copies}
use Rattle.zio_nodes.proofs.StageLeads.{next_of}

-- ---- its children

own_seat : (inner : Option Inner) (outer : Frame) (children : List Child) (seat : Seat) (slot : Slot) → IsAsking Own inner
    → slot_at (record { outer = outer; inner = inner; children = children }) seat ≡ Some slot → (n : ℕ) × (seat ≡ OfOuter n)
own_seat None outer children (OfOuter n) slot h e = (n, refl)
own_seat None outer children (OfInner n) slot h e = absurd (cc)
own_seat (Some i) outer children seat slot h e = absurd h

is_leaf : (op : Task) → IsLeafTask op → (act : LeafOp) × (op ≡ OnLeaf act)
is_leaf (OnLeaf act) h = (act, refl)
is_leaf (Find a) h = absurd h
is_leaf (ReadCopies repair test len places) h = absurd h
is_leaf (WriteCopies bytes places) h = absurd h
is_leaf (WritePart attempt p sum copies levels path bytes) h = absurd h
is_leaf (ReadHeads look levels path bp) h = absurd h
is_leaf (ReadTree tree) h = absurd h
is_leaf (TakePlaces tree) h = absurd h
is_leaf (Attempt attempt p kids) h = absurd h
is_leaf (Settle p kids) h = absurd h

-- a child that does an operation on a leaf, of the node's own part
pub record IsLeafChild (st : Stack) (c : Child) : Type 0 where
  pub number : ℕ
  pub act : LeafOp
  pub told : Option (Option _)
  pub seat : c.seat ≡ OfOuter number
  pub asked : asked_at st c.seat ≡ Some (OnLeaf act)
  pub kind : c.kind ≡ Vdev
  pub shows : ShowsTold (needs_none c.kind) c.told told

pub asks_leaves : (t : Terms) (at : CopiesAt) (st : Stack) → IsCopiesAt t at st → HasAskedLeaves st.outer
asks_leaves t at st h =
    subst HasAskedLeaves (own_frame st.outer st.inner h.read.asks).1 (read_asks t at.node.io (asking st) h.read.part)

pub leaf_child : (t : Terms) (at : CopiesAt) (st : Stack) (k : ℕ) (c : Child) → IsCopiesAt t at st → IsSeated st → slice_get st.children k ≡ Some c
    → c.ended ≡ false → IsLeafChild st c
leaf_child t at st k c h seated there goes =
    let sits = all_at (HasSeat st) st.children k c seated.each there goes in
    let seat = own_seat st.inner st.outer st.children c.seat (IsOut sits.1) h.read.asks sits.2.slot in
    let asked : slice_get st.outer.asked seat.0 ≡ Some sits.0 = sym (ap (asked_at st) seat.1) ∙ sits.2.asked in
    let leaf = is_leaf sits.0 (all_at IsLeafTask st.outer.asked seat.0 sits.0 (asks_leaves t at st h).leaves asked) in
    record {
      number = seat.0;
      act = leaf.0;
      told = sits.1;
      seat = seat.1;
      asked = sits.2.asked ∙ ap (λ (op : Task). Some op) leaf.1;
      kind = sits.2.kind ∙ ap kind_of_task leaf.1;
      shows = sits.2.shows;
    }

pub awaited : (t : Terms) (at : CopiesAt) (st : Stack) (k : ℕ) (c : Child) → IsCopiesAt t at st → IsSeated st → slice_get st.children k ≡ Some c
    → c.ended ≡ false → IsAwaitedAt Own at.node.family k
awaited t at st k c h seated there goes =
    let child = leaf_child t at st k c h seated there goes in
    record {
      number = child.number;
      child = c;
      is = ap (λ (cs : List Child). slice_get cs k) h.read.children ∙ there;
      seat = child.seat;
      goes = goes;
    }

-- it counts as one that told
pub no_teller : (t : Terms) (at : CopiesAt) (st : Stack) (k : ℕ) (c : Child) → IsCopiesAt t at st → IsSeated st → slice_get st.children k ≡ Some c
    → c.ended ≡ false → c.told ≡ false → ⊥
no_teller t at st k c h seated there goes untold =
    let child = leaf_child t at st k c h seated there goes in
    subst (λ (b : Bool). ShowsTold b false child.told) (ap needs_none child.kind) (subst (λ (b : Bool). ShowsTold (needs_none c.kind) b child.told) untold child.shows)

-- ---- what it hears

outcome_on_leaf : (t : Terms) (act : LeafOp) (outcome : Outcome) (v : Value) → IsOutcome t (OnLeaf act) outcome v
    → (a : Answer) × (outcome ≡ Found a) × (v ≡ Got a)
outcome_on_leaf t act (Finished f) v h = absurd h.0
outcome_on_leaf t act (Again whole bits pointer) v h = absurd h.0
outcome_on_leaf t act (Found a) v h = (a, refl, h.1)
outcome_on_leaf t act (Walked walked) v h = absurd h.0
outcome_on_leaf t act (Stored part) v h = absurd h.0

-- its child ended with a leaf's answer
pub hears_answer : (t : Terms) (tops : List Top) (at : CopiesAt) (st : Stack) (k : ℕ) (c : Child) (op : Task) (outcome : Outcome) (v : Value)
    → Hears {N = Node} nodes tops t (Copies at) st k c op outcome v → (a : Answer) × (outcome ≡ Found a) × (v ≡ Got a)
hears_answer t tops at st k c op outcome v h =
    let child = leaf_child t at st k c h.now.is h.now.seated h.there h.goes in
    let is : Some op ≡ Some (OnLeaf child.act) = sym h.asked ∙ child.asked in
    let same : op ≡ OnLeaf child.act = cc in
    outcome_on_leaf t child.act outcome v (subst (λ (q : Task). IsOutcome t q outcome v) same h.shows)

all_push : {X : Type 0} (P : X → Type 0) (xs : List X) (y : X) → AllByRecursion P xs → P y → AllByRecursion P (xs ++ y ∷ [])
all_push P [] y h p = (p, tt)
all_push P (x ∷ xs) y h p = (h.0, all_push P xs y h.1 p)

all_set : {X : Type 0} (P : X → Type 0) (xs : List X) (n : ℕ) (y : X) → AllByRecursion P xs → P y → AllByRecursion P (slice_set xs n y)
all_set P [] n y h p = tt
all_set P (x ∷ xs) zero y h p = (p, h.1)
all_set P (x ∷ xs) (suc n) y h p = (h.0, all_set P xs n y h.1 p)

inner_keeps : (st : Stack) (inner : Option Inner) (n : ℕ) (slot : Slot) → AllByRecursion IsAnswerIn st.outer.slots
    → AllByRecursion IsAnswerIn (set_in_inner st inner n slot).outer.slots
inner_keeps st None n slot h = h
inner_keeps st (Some i) n slot h = h

pub answers_set : (st : Stack) (seat : Seat) (a : Answer) → AllByRecursion IsAnswerIn st.outer.slots
    → AllByRecursion IsAnswerIn (set_at st seat (Heard (Got a))).outer.slots
answers_set st (OfOuter n) a h = all_set IsAnswerIn st.outer.slots n (Heard (Got a)) h (a, refl)
answers_set st (OfInner n) a h = inner_keeps st st.inner n (Heard (Got a)) h

asking_keeps : (st : Stack) (inner : Option Inner) (op : Task) → AllByRecursion IsAnswerIn st.outer.slots
    → AllByRecursion IsAnswerIn (with_asking st inner op).outer.slots
asking_keeps st None op h = all_push IsAnswerIn st.outer.slots (IsOut None) h tt
asking_keeps st (Some i) op h = h

pub answers_handed : (st : Stack) (op : Task) → AllByRecursion IsAnswerIn st.outer.slots → AllByRecursion IsAnswerIn (handed st op).outer.slots
answers_handed st op h = asking_keeps st st.inner op h

-- ---- its end

none_ended_in : (slot : Slot) → IsAnswerIn slot → ended_in_slot slot ≡ []
none_ended_in (IsOut told) h = refl
none_ended_in (Heard v) h = ap (λ (u : Value). ended_in_slot (Heard u)) h.1

none_ended : (slots : List Slot) → AllByRecursion IsAnswerIn slots → flat_map ended_in_slot slots ≡ []
none_ended [] h = refl
none_ended (slot ∷ slots) h = ap (λ xs. xs ++ flat_map ended_in_slot slots) (none_ended_in slot h.0) ∙ none_ended slots h.1

leaf_holds_none : (op : Task) (slot : Slot) → IsLeafTask op → places_with op slot ≡ []
leaf_holds_none op (IsOut told) h = refl
leaf_holds_none op (Heard v) h = let leaf = is_leaf op h in ap (λ (q : Task). places_by q v) leaf.1

none_held : (asked : List Task) (slots : List Slot) → AllByRecursion IsLeafTask asked → places_in asked slots ≡ []
none_held [] slots h = refl
none_held (op ∷ asked) [] h = refl
none_held (op ∷ asked) (slot ∷ slots) h = ap (λ xs. xs ++ places_in asked slots) (leaf_holds_none op slot h.0) ∙ none_held asked slots h.1

pub reads_copies : (t : Terms) (at : CopiesAt) (st : Stack) (h : IsCopiesAt t at st)
    → st.outer.op ≡ ReadCopies at.node.io.read.repair at.node.io.check at.node.io.read.len at.node.io.read.places
reads_copies t at st h = ap (λ (x : Frame). x.op) (sym (own_frame st.outer st.inner h.read.asks).1) ∙ h.read.part.op

pub copies_end : (t : Terms) (at : CopiesAt) (st : Stack) (found : Answer) → IsCopiesAt t at st → at.stage ≡ Done → IsEnded t st (Got found)
    → Ends {N = Node} {S = Seal} nodes gave_of t (Copies at) st [] (Found found)
copies_end t at st found h done ended = record {
  value = Got found;
  gone = [];
  ended = [];
  ends = ended;
  told = λ no. ap is_told done;
  shows = (subst IsReading (sym (reads_copies t at st h)) tt, refl);
  requests = sym (ap (λ xs. xs ++ []) (none_ended st.outer.slots h.answers));
  requests_are = refl;
  calls_are = refl;
  places = let P : List Place → Type 0 = λ ps. IsPermutation (ps ++ []) [] in subst P (sym (none_held st.outer.asked st.outer.slots (asks_leaves t at st h).leaves)) (IsPermutation-refl []);
}

-- ---- its stages

-- it goes on as it is
pub copies_go : (t : Terms) (st : Stack) (at after : CopiesAt) → IsCopiesNode t after.node st → AllByRecursion IsAnswerIn st.outer.slots
    → is_told after.stage ≡ is_told at.stage → GoesOn {N = Node} nodes gave_of t (Copies at) st [] (Copies after)
copies_go t st at after read answers told = record {
  dids = [];
  gone = [];
  stack = st;
  does = refl;
  opens = tt;
  calls_are = refl;
  is = record { read = read; answers = answers };
  told = told;
  gave_more = refl;
}

-- its next stage is the next of a read
pub copies_lead : (at : CopiesAt) (stage next : Stage) → at.stage ≡ stage → IsNext READ stage next → IsNextOf (takes_stage (Copies at)) at.stage next
copies_lead at stage next stands h = next_of READ (takes_stage (Copies at)) at.stage stage next stands (λ s lt. refl) h

-- what one that hears may be at: not where its read is due
pub heard_stands : (tops : List Top) (stage : Stage) (due : Bool) (old new : ReadIo) → ReadStands tops stage due old → (IsReadDue tops old → ⊥)
    → ReadStands tops stage true new
heard_stands tops Start due old new h never = refl
heard_stands tops ReadBpInit due old new h never = refl
heard_stands tops Ready due old new h never = refl
heard_stands tops VdevIoStart due old new h never = refl
heard_stands tops VdevIoDone due old new h never = λ is. absurd (cc)
heard_stands tops VdevIoAssess due old new h never = absurd (never h)
heard_stands tops ChecksumVerify due old new h never = absurd (never (inr h))
heard_stands tops Done due old new h never = absurd (never (inr h))
heard_stands tops stage due old new h never = absurd h

-- what asks is the read
pub asks_as_read : (t : Terms) (at : CopiesAt) (st : Stack) → IsCopiesAt t at st → is_single (asking st).op ≡ false
asks_as_read t at st h = ap is_single h.read.part.op
