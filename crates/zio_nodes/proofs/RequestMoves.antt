-- A request's moves: it goes on, waits, hands out a child, tells its pointer, or ends.
use Rattle.std.proofs.Common.{◌≡◌, ℕ, List, [], ◌++◌, true, false, Option, Result, Ok, Err, refl, sym, ap, subst, ◌∙◌, append-nil}
use Rattle.std.specs.List.{flat_map}
use Rattle.std.specs.Prelude.{IsPermutation, OnErr}
use Rattle.zio_types.specs.declared.place.Place.{Place}
use Rattle.zio_types.specs.declared.place.Top.{Top}
use Rattle.zio_types.specs.declared.request.ChildKind.{ChildKind}
use Rattle.zio_types.specs.declared.request.Phase.{Phase}
use Rattle.zio_blkptr.specs.declared.pointer.Bp.{Bp}
use Rattle.zio_gang.specs.Attempts.{Terms}
use Rattle.zio_trace.specs.Tasks.{AttemptedBy, Task}
use Rattle.zio_frames.specs.Frames.{Stack, fresh_stack, kind_of_task, needs_none}
use Rattle.zio_frames.specs.Moves.{WillHave}
use Rattle.zio_children.specs.RequestKids.{kids_by}
use Rattle.zio_exchange.specs.Outcomes.{freed_by, held_by, made_by, stored_in}
use Rattle.zio_exchange.specs.SpaceCalls.{SpaceCall, calls_back, calls_by}
use Rattle.zio_stages.specs.ClosedRequests.{Closed}
use Rattle.zio_stages.specs.Closings.{outcome_of}
use Rattle.zio_stages.specs.OwnParts.{DoesThen, HandsTo, IsOwed}
use Rattle.zio_stages.specs.RequestNodes.{Closes, IsRequestNode}
use Rattle.zio_stages.specs.Sealed.{Outcome}
use Rattle.zio_stages.specs.declared.request_node.RequestNode.{RequestNode}
use Rattle.zio_staged.specs.Parts.{ended_in_slot}
use Rattle.zio_staged.specs.Stages.{Ends, GoesOn, Grows, Tells, Waits}
use Rattle.zio_nodes.specs.Nodes.{IsNode, StaysBare, StaysWith, gave_of, nodes, told_of}
use Rattle.zio_nodes.specs.Told.{is_told}
use Rattle.zio_nodes.specs.declared.node.Node.{Node}
use Rattle.zio_nodes.specs.declared.node.Node.TheVariants.{Request}
use Rattle.zio_nodes.specs.declared.request_at.RequestAt.{RequestAt}
use Rattle.zio_nodes.proofs.BoundLemmas.{owed_counts}
use Rattle.zio_nodes.proofs.RequestEndings.{ended_as, ended_before, ended_behind, ended_of, is_attempt, shows_outcome}
use Rattle.zio_nodes.proofs.NodeLemmas.{no_calls}

-- ---- it goes on

pub request_goes : (t : Terms) (st : Stack) (at after : RequestAt) → IsRequestNode t after.node st → is_told after.stage ≡ is_told at.stage
    → gave_of (Request after) ≡ gave_of (Request at) → GoesOn {N = Node} nodes gave_of t (Request at) st [] (Request after)
request_goes t st at after is told gave = record {
  dids = [];
  gone = [];
  stack = st;
  does = refl;
  opens = tt;
  calls_are = refl;
  is = is;
  told = told;
  gave_more = gave ∙ sym (append-nil (gave_of (Request at)));
}

-- with no room for a child it stays as it was
pub no_room : {T E : Type 0} (tops : List Top) (at : RequestAt) (r : Result T E) → OnErr r (StaysBare tops (Request at) (Request at))
no_room tops at (Ok x) = tt
no_room tops at (Err e) = λ t st now. request_goes t st at at now.is refl refl

pub no_room_with : {S T E : Type 0} (made : S → List SpaceCall → S → Type 0) (tops : List Top) (a : S) (at : RequestAt) (r : Result T E)
    → made a [] a → OnErr r (StaysWith made tops a a (Request at) (Request at))
no_room_with made tops a at (Ok x) none = tt
no_room_with made tops a at (Err e) none =
    record { calls = []; were_made = none; fits = no_calls at.stage (Request at); goes = λ t st now. request_goes t st at at now.is refl refl }

-- it did some of its part itself
pub request_does : (t : Terms) (st : Stack) (at after : RequestAt) (calls : List SpaceCall) → DoesThen t st calls (IsRequestNode t after.node)
    → is_told after.stage ≡ is_told at.stage → gave_of (Request after) ≡ gave_of (Request at) → GoesOn {N = Node} nodes gave_of t (Request at) st calls (Request after)
request_does t st at after calls h told gave = record {
  dids = h.dids;
  gone = [];
  stack = h.stack;
  does = h.does;
  opens = h.opens;
  calls_are = h.calls_are ∙ sym (append-nil (calls_by h.dids));
  is = h.after;
  told = told;
  gave_more = gave ∙ sym (append-nil (gave_of (Request at)));
}

-- ---- it waits

pub request_waits : (t : Terms) (st : Stack) (at after : RequestAt) (kind : ChildKind) (phase : Phase) → IsRequestNode t after.node st
    → is_told after.stage ≡ is_told at.stage → gave_of (Request after) ≡ gave_of (Request at) → IsOwed kind phase st
    → Waits {N = Node} nodes gave_of t (Request at) st [] (Request after) kind phase
request_waits t st at after kind phase is told gave owed = record {
  stays = record { is = is; told = told; gave_same = gave; no_calls = refl };
  owing = owed_counts kind phase st.children owed;
}

-- ---- it hands out a child

pub request_grows : (t : Terms) (st : Stack) (at after : RequestAt) (child : Node) (kind : ChildKind) (IsChild : Task → Type 0) (calls : List SpaceCall)
    → DoesThen t st calls (HandsTo t kind IsChild (IsRequestNode t after.node)) → ((op : Task) → IsChild op → IsNode t child (fresh_stack op))
    → (needs_none kind ≡ false → told_of child ≡ false) → gave_of child ≡ [] → is_told after.stage ≡ is_told at.stage → gave_of (Request after) ≡ gave_of (Request at)
    → Grows {N = Node} nodes gave_of t (Request at) st calls (Request after) child kind
request_grows t st at after child kind IsChild calls h fresh untold none told gave = record {
  dids = h.dids;
  stack = h.stack;
  does = h.does;
  opens = h.opens;
  calls_are = h.calls_are;
  op = h.after.op;
  part = h.after.part;
  asks = h.after.asks;
  is = h.after.after;
  told = told;
  gave_same = gave;
  child_is = fresh h.after.op h.after.child_is;
  child_told = λ needs. untold (ap needs_none (sym h.after.of_kind) ∙ needs);
  child_gave = none;
  of_kind = sym h.after.of_kind;
}

-- ---- it tells its pointer

attempts_tell : (t : Terms) (at : RequestAt) (st : Stack) → IsRequestNode t at.node st → needs_none (kind_of_task st.outer.op) ≡ false
attempts_tell t at st h = ap (λ (op : Task). needs_none (kind_of_task op)) h.op

pub request_tells : (t : Terms) (st : Stack) (at after : RequestAt) (pointer : Option Bp) → IsRequestNode t at.node st → IsRequestNode t after.node st
    → WillHave t st.outer pointer → is_told at.stage ≡ false → is_told after.stage ≡ true → gave_of (Request after) ≡ gave_of (Request at)
    → Tells {N = Node} nodes gave_of t (Request at) st [] (Request after) pointer
request_tells t st at after pointer was is will before told gave = record {
  will = will;
  needs = attempts_tell t at st was;
  before = before;
  is = is;
  told = told;
  gave_same = gave;
  no_calls = refl;
}

-- ---- it ends

pub request_ends : (t : Terms) (st : Stack) (at : RequestAt) (r : RequestNode) (closed : Closed) (label : ℕ) (gone : List Place) (h : IsRequestNode t r st)
    → Closes t r st h closed → is_told at.stage ≡ true → flat_map ended_in_slot h.own_slots ≡ []
    → IsPermutation (held_by st ++ freed_by st.outer.op (outcome_of label closed)) (gave_of (Request at) ++ gone ++ made_by (outcome_of label closed) ++ [])
    → Ends {N = Node} nodes gave_of t (Request at) st (calls_back gone) (outcome_of label closed)
request_ends t st at r closed label gone h x told none places = record {
  value = AttemptedBy x.one;
  gone = gone;
  ended = ended_of closed r;
  ends = x.value;
  told = λ no. told;
  shows = shows_outcome t st.outer.op label closed r (kids_by h.kid_slots).ended x.one (is_attempt t r st h) x.shows;
  requests = ended_behind closed r (kids_by h.kid_slots).ended x.one x.shows
      ∙ ap (λ es. es ++ ended_of closed r) (ended_before t r st h none);
  requests_are = ended_as label closed r (kids_by h.kid_slots).ended x.one x.shows;
  calls_are = refl;
  places = places;
}

-- ---- it gives places back

pub request_gives : (t : Terms) (st : Stack) (at after : RequestAt) (gone : List Place) → IsRequestNode t after.node st → is_told after.stage ≡ is_told at.stage
    → gave_of (Request after) ≡ gave_of (Request at) ++ gone → GoesOn {N = Node} nodes gave_of t (Request at) st (calls_back gone) (Request after)
request_gives t st at after gone is told gave = record {
  dids = [];
  gone = gone;
  stack = st;
  does = refl;
  opens = tt;
  calls_are = refl;
  is = is;
  told = told;
  gave_more = gave;
}

-- ---- what stands where another stood

-- from a request that told as much and gave as much back
pub goes_from : (t : Terms) (st : Stack) (at mid : RequestAt) (calls : List SpaceCall) (after : Node) → is_told mid.stage ≡ is_told at.stage
    → gave_of (Request mid) ≡ gave_of (Request at) → GoesOn {N = Node} nodes gave_of t (Request mid) st calls after → GoesOn {N = Node} nodes gave_of t (Request at) st calls after
goes_from t st at mid calls after told gave h = record {
  dids = h.dids;
  gone = h.gone;
  stack = h.stack;
  does = h.does;
  opens = h.opens;
  calls_are = h.calls_are;
  is = h.is;
  told = h.told ∙ told;
  gave_more = h.gave_more ∙ ap (λ (ps : List Place). ps ++ h.gone) gave;
}

pub ends_from : (t : Terms) (st : Stack) (at mid : RequestAt) (calls : List SpaceCall) (outcome : Outcome) → is_told mid.stage ≡ is_told at.stage
    → gave_of (Request mid) ≡ gave_of (Request at) → Ends {N = Node} nodes gave_of t (Request mid) st calls outcome → Ends {N = Node} nodes gave_of t (Request at) st calls outcome
ends_from t st at mid calls outcome told gave h = record {
  value = h.value;
  gone = h.gone;
  ended = h.ended;
  ends = h.ends;
  told = λ needs. sym told ∙ h.told needs;
  shows = h.shows;
  requests = h.requests;
  requests_are = h.requests_are;
  calls_are = h.calls_are;
  places = subst (λ (ps : List Place). IsPermutation (held_by st ++ freed_by st.outer.op outcome) (ps ++ h.gone ++ made_by outcome ++ stored_in h.value)) gave h.places;
}
