-- An operation on a leaf as a node: how far it is, and its end.
use Rattle.std.proofs.Common.{◌≡◌, ◌≤◌, ℕ, arith, true, false, List, [], ◌∷◌, ◌++◌, Bool, Option, Some, None, Ok, slice_get, take, refl, sym, ap, subst, ◌∙◌}
use Rattle.std.specs.List.{flat_map}
use Rattle.std.specs.Prelude.{IsPermutation}
use Rattle.std.proofs.lemmas.List.Sorted.{IsPermutation-refl}
use Rattle.zio_types.specs.declared.error.Errno.{Errno}
use Rattle.zio_types.specs.declared.place.Place.{Place}
use Rattle.zio_masks.specs.declared.stage.Stage.{Stage}
use Rattle.zio_masks.specs.declared.stage.Stage.TheVariants.{Done, VdevIoAssess, VdevIoDone, VdevIoStart}
use Rattle.zio_gang.specs.Attempts.{Terms}
use Rattle.zio_trace.specs.Leaves.{Answer, Fetch, LeafOp, Store}
use Rattle.zio_trace.specs.Plans.{plan}
use Rattle.zio_trace.specs.Programs.{Ends as EndsWith}
use Rattle.zio_trace.specs.Tasks.{Got, Leaf as OnLeaf, Task}
use Rattle.zio_frames.specs.Frames.{Child, Frame, Stack, fresh_frame, fresh_stack, left_of}
use Rattle.zio_frames.specs.Slots.{Heard, Slot, left_behind_slots, told_in}
use Rattle.zio_exchange.specs.Outcomes.{IsReading, places_in}
use Rattle.zio_stages.specs.LeafWorks.{IsAnswered, IsAnsweredAt, IsDoneBy, IsDue, IsDueAt, IsHeardAs, IsLeafWork, len_in, len_of, shown_by, shown_in}
use Rattle.zio_stages.specs.declared.closing.Seal.{Seal}
use Rattle.zio_stages.specs.declared.leaf.Act.{Act}
use Rattle.zio_stages.specs.declared.leaf.Act.TheVariants.{Read, Write}
use Rattle.zio_stages.specs.declared.leaf.LeafWork.{LeafWork}
use Rattle.zio_stages.specs.declared.leaf.Progress.{Progress as WorkStage}
use Rattle.zio_stages.specs.declared.leaf.Progress.TheVariants.{Answered, Due, Out}
use Rattle.zio_exchange.specs.declared.outcome.Outcome.TheVariants.{Found}
use Rattle.zio_staged.specs.Parts.{ended_in_slot}
use Rattle.zio_staged.specs.Stages.{Ends, ShowsAnswer}
use Rattle.zio_nodes.specs.Bounds.{leaf_left}
use Rattle.zio_nodes.specs.LeafAts.{IsAskedOrDue, IsLeafAt, LeafStands}
use Rattle.zio_nodes.specs.Nodes.{gave_of, nodes}
use Rattle.zio_nodes.specs.Told.{is_told}
use Rattle.zio_nodes.specs.declared.leaf_at.LeafAt.{LeafAt}
use Rattle.zio_nodes.specs.declared.node.Node.{Node}
use Rattle.zio_nodes.specs.declared.node.Node.TheVariants.{Leaf}

-- ---- nothing of it is heard

due_empty : (s : WorkStage) (bytes : List ℕ) (act : LeafOp) (x : Frame) → IsDueAt s → IsHeardAs s bytes act x → (x.asked ≡ []) × (x.slots ≡ [])
due_empty (Due held) bytes act x due h = (h.1, h.2)
due_empty Out bytes act x due h = absurd due
due_empty (Answered a) bytes act x due h = absurd due

fresh_at : (op : Task) (st : Stack) → st.inner ≡ None → st.children ≡ [] → st.outer.op ≡ op → st.outer.asked ≡ [] → st.outer.slots ≡ [] → st ≡ fresh_stack op
fresh_at op st alone childless is asked slots =
    λ i. record { outer = record { op = is i; asked = asked i; slots = slots i }; inner = alone i; children = childless i }

pub leaf_fresh : (t : Terms) (at : LeafAt) (st : Stack) (h : IsLeafAt t at st) → IsDue at.work → st ≡ fresh_stack (OnLeaf h.part.act)
leaf_fresh t at st h due =
    let empty = due_empty at.work.stage h.part.bytes h.part.act st.outer due h.part.heard in
    fresh_at (OnLeaf h.part.act) st h.alone h.childless h.part.op empty.0 empty.1

-- ---- it was answered

-- its part asked its one operation, and has the answer
pub record IsHeardOf (work : LeafWork) (act : LeafOp) (x : Frame) : Type 0 where
  pub answer : Answer
  pub asked : x.asked ≡ OnLeaf act ∷ []
  pub slots : x.slots ≡ Heard (Got answer) ∷ []

answered_from : (s : WorkStage) (work : LeafWork) (bytes : List ℕ) (act : LeafOp) (x : Frame) → IsAnsweredAt s → IsHeardAs s bytes act x → IsHeardOf work act x
answered_from (Due held) work bytes act x done h = absurd done
answered_from Out work bytes act x done h = absurd done
answered_from (Answered a) work bytes act x done h = record { answer = a; asked = h.0; slots = h.1 }

pub leaf_heard : (t : Terms) (at : LeafAt) (st : Stack) (h : IsLeafAt t at st) → IsAnswered at.work → IsHeardOf at.work h.part.act st.outer
leaf_heard t at st h done = answered_from at.work.stage at.work h.part.bytes h.part.act st.outer done h.part.heard

-- a node that has its leaf's answer isn't fresh
pub leaf_not_fresh : (t : Terms) (at : LeafAt) (act : LeafOp) → IsLeafAt t at (fresh_stack (OnLeaf act)) → IsAnswered at.work → ⊥
leaf_not_fresh t at act h done = let heard = leaf_heard t at (fresh_stack (OnLeaf act)) h done in let no : [] ≡ Heard (Got heard.answer) ∷ [] = heard.slots in cc

unanswered_stands : (stage : Stage) (is_out : Bool) (work : LeafWork) → LeafStands stage is_out work → (IsAnswered work → ⊥)
    → (stage ≡ VdevIoStart) × IsAskedOrDue is_out work
unanswered_stands VdevIoStart is_out work h none = (refl, h)
unanswered_stands VdevIoDone is_out work h none = absurd (none h)
unanswered_stands VdevIoAssess is_out work h none = absurd (none h)
unanswered_stands Done is_out work h none = absurd (none h)
unanswered_stands stage is_out work h none = absurd h

-- so one of which nothing is heard goes to its leaf, or its leaf has it
pub unheard_stands : (t : Terms) (at : LeafAt) (act : LeafOp) → IsLeafAt t at (fresh_stack (OnLeaf act))
    → (at.stage ≡ VdevIoStart) × IsAskedOrDue at.is_out at.work
unheard_stands t at act h = unanswered_stands at.stage at.is_out at.work h.stands (leaf_not_fresh t at act h)

left_heard : (t : Terms) (x : Frame) (act : LeafOp) (a : Answer) → x.op ≡ OnLeaf act → x.slots ≡ Heard (Got a) ∷ [] → left_of t x ≡ EndsWith (Got a)
left_heard t x act a op slots =
    ap (λ (s : List Slot). left_behind_slots s (plan t x.op)) slots ∙ ap (λ (q : Task). left_behind_slots (Heard (Got a) ∷ []) (plan t q)) op

none_held : (x : Frame) (act : LeafOp) (a : Answer) → x.asked ≡ OnLeaf act ∷ [] → x.slots ≡ Heard (Got a) ∷ [] → places_in x.asked x.slots ≡ []
none_held x act a asked slots = ap (λ (s : List Slot). places_in x.asked s) slots ∙ ap (λ (q : List Task). places_in q (Heard (Got a) ∷ [])) asked

pub leaf_ends : (t : Terms) (at : LeafAt) (st : Stack) (found : Answer) (h : IsLeafAt t at st) → at.stage ≡ Done → IsAnswered at.work
    → ((a : Answer) → st.outer.slots ≡ Heard (Got a) ∷ [] → found ≡ a) → Ends {N = Node} {S = Seal} nodes gave_of t (Leaf at) st [] (Found found)
leaf_ends t at st found h done answered same =
    let heard = leaf_heard t at st h answered in
    let is : found ≡ heard.answer = same heard.answer heard.slots in
    let slots : st.outer.slots ≡ Heard (Got found) ∷ [] = heard.slots ∙ ap (λ (a : Answer). Heard (Got a) ∷ []) (sym is) in
    record {
      value = Got found;
      gone = [];
      ended = [];
      ends = record { alone = h.alone; heard = ap told_in slots; value = left_heard t st.outer h.part.act found h.part.op slots };
      told = λ no. ap is_told done;
      shows = (subst IsReading (sym h.part.op) tt, refl);
      requests = sym (ap (λ (s : List Slot). flat_map ended_in_slot s ++ []) slots);
      requests_are = refl;
      calls_are = refl;
      places = let P : List Place → Type 0 = λ ps. IsPermutation (ps ++ []) [] in subst P (sym (none_held st.outer h.part.act found heard.asked slots)) (IsPermutation-refl []);
    }

-- ---- what its leaf answers

-- of a read the first bytes, as many as were asked for
pub shown_answer : (kind : Act) (act : LeafOp) (error : Option Errno) (bytes : List ℕ) (a : Answer) → IsDoneBy kind act → ShowsAnswer act error bytes a
    → a ≡ shown_in kind error (take (len_in kind) bytes)
shown_answer (Read len) (Fetch retry n spot) None bytes a done shows = shows ∙ ap (λ (m : ℕ). Ok (take m bytes)) done
shown_answer (Read len) (Fetch retry n spot) (Some e) bytes a done shows = shows
shown_answer (Read len) (Store retry stored spot) error bytes a done shows = absurd done
shown_answer Write (Fetch retry n spot) error bytes a done shows = absurd done
shown_answer Write (Store retry stored spot) None bytes a done shows = shows
shown_answer Write (Store retry stored spot) (Some e) bytes a done shows = shows

pub answer_shown : (t : Terms) (work : LeafWork) (act : LeafOp) (error : Option Errno) (bytes cut : List ℕ) (a : Answer) → IsLeafWork t work (fresh_frame (OnLeaf act))
    → ShowsAnswer act error bytes a → cut ≡ take (len_of work) bytes → a ≡ shown_by work error cut
answer_shown t work act error bytes cut a part shows is =
    let op : OnLeaf act ≡ OnLeaf part.act = part.op in
    let same : act ≡ part.act = cc in
    shown_answer work.act act error bytes a (subst (IsDoneBy work.act) (sym same) part.done) shows ∙ ap (shown_in work.act error) (sym is)

-- ---- it has no children

none_there : (n : ℕ) (c : Child) → slice_get [] n ≡ Some c → ⊥
none_there n c e = cc

pub no_child : (t : Terms) (at : LeafAt) (st : Stack) (n : ℕ) (c : Child) → IsLeafAt t at st → slice_get st.children n ≡ Some c → ⊥
no_child t at st n c h there = let P : List Child → Type 0 = λ cs. slice_get cs n ≡ Some c in none_there n c (subst P h.childless there)

-- ---- how often it runs

out_least : (is_out : Bool) → leaf_left VdevIoDone false ≤ leaf_left VdevIoStart is_out
out_least true = omega arith
out_least false = omega arith

-- its answer makes up for nothing, and costs nothing
pub answered_left : (stage next : Stage) (is_out : Bool) → stage ≡ VdevIoStart → next ≡ VdevIoDone → leaf_left next false ≤ leaf_left stage is_out
answered_left stage next is_out from to =
    omega (arith, ap (λ (s : Stage). leaf_left s false) to, ap (λ (s : Stage). leaf_left s is_out) from, out_least is_out)
