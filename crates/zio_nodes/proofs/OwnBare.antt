-- Moves of a request whose own work went on, without a call of the space.
use Rattle.std.proofs.Common.{◌≡◌, List, [], ◌++◌, Bool, true, false, None, refl, sym, ap, subst}
use Rattle.zio_types.specs.declared.place.Place.{Place}
use Rattle.zio_types.specs.declared.place.Top.{Top}
use Rattle.zio_types.specs.declared.request.ChildKind.{ChildKind}
use Rattle.zio_types.specs.declared.request.Phase.{Phase}
use Rattle.zio_masks.specs.declared.stage.Stage.{Stage}
use Rattle.zio_gang.specs.Attempts.{Terms}
use Rattle.zio_trace.specs.Tasks.{Task}
use Rattle.zio_frames.specs.Frames.{Stack, fresh_stack, needs_none}
use Rattle.zio_frames.specs.Moves.{WillHave}
use Rattle.zio_frames.specs.Seats.{IsSeated}
use Rattle.zio_exchange.specs.SpaceCalls.{SpaceCall, calls_back}
use Rattle.zio_stages.specs.OwnParts.{DoesThen, HandsTo, IsOwed}
use Rattle.zio_stages.specs.RequestNodes.{IsRequestNode}
use Rattle.zio_stages.specs.declared.request_node.RequestNode.{RequestNode}
use Rattle.zio_nodes.specs.SealedMoves.{Move}
use Rattle.zio_staged.specs.declared.staged.Move.TheVariants.{Grow, Next, Ready, Wait}
use Rattle.zio_nodes.specs.Nodes.{IsNode, MovesBare, MovesWith, StaysBare, StaysWith, gave_of, told_of}
use Rattle.zio_nodes.specs.RequestAts.{gave_by}
use Rattle.zio_nodes.specs.StageMoves.{CallsFit, stage_of}
use Rattle.zio_nodes.specs.Told.{is_told}
use Rattle.zio_nodes.specs.declared.node.Node.{Node}
use Rattle.zio_nodes.specs.declared.node.Node.TheVariants.{Request}
use Rattle.zio_nodes.specs.declared.request_at.RequestAt.{RequestAt}
use Rattle.zio_nodes.proofs.NodeLemmas.{no_calls}
use Rattle.zio_nodes.proofs.RequestMoves.{request_does, request_gives, request_goes, request_grows, request_tells, request_waits}

abbrev at_stage : RequestNode → Stage → Bool → RequestAt
at_stage now stage due = record { node = now; stage = stage; is_due = due }

abbrev gave_in : RequestNode → List Place
gave_in r = gave_by r.waiting.request.work r

-- it does some of its part itself, over these tops
abbrev pub Does : List Top → RequestNode → RequestNode → Type 0
Does tops r now = (t : Terms) (st : Stack) → t.setting.tops ≡ tops → IsRequestNode t r st → DoesThen t st [] (IsRequestNode t now)

-- ---- it goes on

pub next_bare : (tops : List Top) (at : RequestAt) (now : RequestNode) (stage : Stage) (due : Bool) → Does tops at.node now → is_told stage ≡ is_told at.stage → gave_in now ≡ gave_in at.node
    → MovesBare tops (Request at) (Next (Request (at_stage now stage due)))
next_bare tops at now stage due does told gave = λ t st n. request_does t st at (at_stage now stage due) [] (does t st n.tops_are n.is) told gave

-- as it is
pub still_bare : (tops : List Top) (at : RequestAt) (stage : Stage) (due : Bool) → is_told stage ≡ is_told at.stage → MovesBare tops (Request at) (Next (Request (at_stage at.node stage due)))
still_bare tops at stage due told = λ t st n. request_goes t st at (at_stage at.node stage due) n.is told refl

-- ---- memory was refused

pub refused_bare : (tops : List Top) (at : RequestAt) (now : RequestNode) (stage : Stage) (due : Bool) → now ≡ at.node → at.stage ≡ stage
    → StaysBare tops (Request at) (Request (at_stage now stage due))
refused_bare tops at now stage due same is = λ t st n.
    request_goes t st at (at_stage now stage due) (subst (λ (r : RequestNode). IsRequestNode t r st) (sym same) n.is) (ap is_told (sym is)) (ap gave_in same)

-- what it began stays
pub begun_bare : (tops : List Top) (at : RequestAt) (now : RequestNode) (stage : Stage) (due : Bool) → Does tops at.node now → at.stage ≡ stage → gave_in now ≡ gave_in at.node
    → StaysBare tops (Request at) (Request (at_stage now stage due))
begun_bare tops at now stage due does is gave = λ t st n. request_does t st at (at_stage now stage due) [] (does t st n.tops_are n.is) (ap is_told (sym is)) gave

-- ---- it waits

pub waits_bare : (tops : List Top) (at : RequestAt) (kind : ChildKind) (phase : Phase) → ((t : Terms) (st : Stack) → t.setting.tops ≡ tops → IsSeated st → IsRequestNode t at.node st → IsOwed kind phase st)
    → MovesBare tops (Request at) (Wait (Request at) kind phase)
waits_bare tops at kind phase owed = λ t st n. request_waits t st at at kind phase n.is refl refl (owed t st n.tops_are n.seated n.is)

-- ---- it hands out a child

pub grows_bare : (tops : List Top) (at : RequestAt) (now : RequestNode) (stage : Stage) (due : Bool) (child : Node) (kind : ChildKind) (IsChild : Terms → Task → Type 0)
    → ((t : Terms) (st : Stack) → t.setting.tops ≡ tops → IsRequestNode t at.node st → DoesThen t st [] (HandsTo t kind (IsChild t) (IsRequestNode t now)))
    → ((t : Terms) (op : Task) → IsChild t op → IsNode t child (fresh_stack op)) → (needs_none kind ≡ false → told_of child ≡ false) → gave_of child ≡ []
    → at.stage ≡ stage → gave_in now ≡ gave_in at.node → MovesBare tops (Request at) (Grow (Request (at_stage now stage due)) child kind)
grows_bare tops at now stage due child kind IsChild hands fresh untold none is gave = λ t st n.
    request_grows t st at (at_stage now stage due) child kind (IsChild t) [] (hands t st n.tops_are n.is) (fresh t) untold none (ap is_told (sym is)) gave

-- ---- it tells that it has no pointer

pub tells_bare : (tops : List Top) (at : RequestAt) (stage : Stage) (due : Bool) → ((t : Terms) (st : Stack) → IsRequestNode t at.node st → WillHave t st.outer None)
    → is_told at.stage ≡ false → is_told stage ≡ true → MovesBare tops (Request at) (Ready (Request (at_stage at.node stage due)) None)
tells_bare tops at stage due will before told = λ t st n. request_tells t st at (at_stage at.node stage due) None n.is n.is (will t st n.is) before told refl

-- ---- as a stage that may call the space

pub moves_with : {S : Type 0} (made : S → List SpaceCall → S → Type 0) (tops : List Top) (a : S) (node : Node) (move : Move Node) → made a [] a → MovesBare tops node move
    → MovesWith made tops a a node move
moves_with made tops a node move none h = record { calls = []; were_made = none; fits = no_calls (stage_of node) node; moves = h }

pub stays_with : {S : Type 0} (made : S → List SpaceCall → S → Type 0) (tops : List Top) (a : S) (node after : Node) → made a [] a → StaysBare tops node after
    → StaysWith made tops a a node after
stays_with made tops a node after none h = record { calls = []; were_made = none; fits = no_calls (stage_of node) node; goes = h }

-- ---- as it was

pub next_same : (tops : List Top) (at : RequestAt) (now : RequestNode) (stage : Stage) (due : Bool) → now ≡ at.node → is_told stage ≡ is_told at.stage
    → MovesBare tops (Request at) (Next (Request (at_stage now stage due)))
next_same tops at now stage due same told =
    subst (λ (r : RequestNode). MovesBare tops (Request at) (Next (Request (at_stage r stage due)))) (sym same) (still_bare tops at stage due told)

-- ---- places go back

pub gives_back : {S : Type 0} (made : S → List SpaceCall → S → Type 0) (tops : List Top) (a b : S) (at : RequestAt) (now : RequestNode) (stage : Stage) (due : Bool) (gone : List Place)
    → made a (calls_back gone) b → CallsFit at.stage (Request at) (calls_back gone) → ((t : Terms) (st : Stack) → IsRequestNode t at.node st → IsRequestNode t now st)
    → is_told stage ≡ is_told at.stage
    → gave_in now ≡ gave_in at.node ++ gone → MovesWith made tops a b (Request at) (Next (Request (at_stage now stage due)))
gives_back made tops a b at now stage due gone were fit same told gave =
    record { calls = calls_back gone; were_made = were; fits = fit; moves = λ t st n. request_gives t st at (at_stage now stage due) gone (same t st n.is) told gave }

pub gives_back_refused : {S : Type 0} (made : S → List SpaceCall → S → Type 0) (tops : List Top) (a b : S) (at : RequestAt) (now : RequestNode) (stage : Stage) (due : Bool) (gone : List Place)
    → made a (calls_back gone) b → CallsFit at.stage (Request at) (calls_back gone) → ((t : Terms) (st : Stack) → IsRequestNode t at.node st → IsRequestNode t now st)
    → at.stage ≡ stage
    → gave_in now ≡ gave_in at.node ++ gone → StaysWith made tops a b (Request at) (Request (at_stage now stage due))
gives_back_refused made tops a b at now stage due gone were fit same is gave =
    record { calls = calls_back gone; were_made = were; fits = fit; goes = λ t st n. request_gives t st at (at_stage now stage due) gone (same t st n.is) (ap is_told (sym is)) gave }

-- ---- it does some of its part itself with calls of the space

pub does_with : {S : Type 0} (made : S → List SpaceCall → S → Type 0) (tops : List Top) (a b : S) (at : RequestAt) (now : RequestNode) (stage : Stage) (due : Bool) (calls : List SpaceCall)
    → made a calls b → CallsFit at.stage (Request at) calls
    → ((t : Terms) (st : Stack) → t.setting.tops ≡ tops → IsRequestNode t at.node st → DoesThen t st calls (IsRequestNode t now)) → is_told stage ≡ is_told at.stage
    → gave_in now ≡ gave_in at.node → MovesWith made tops a b (Request at) (Next (Request (at_stage now stage due)))
does_with made tops a b at now stage due calls were fit does told gave =
    record { calls = calls; were_made = were; fits = fit; moves = λ t st n. request_does t st at (at_stage now stage due) calls (does t st n.tops_are n.is) told gave }

pub does_with_refused : {S : Type 0} (made : S → List SpaceCall → S → Type 0) (tops : List Top) (a b : S) (at : RequestAt) (now : RequestNode) (stage : Stage) (due : Bool) (calls : List SpaceCall)
    → made a calls b → CallsFit at.stage (Request at) calls
    → ((t : Terms) (st : Stack) → t.setting.tops ≡ tops → IsRequestNode t at.node st → DoesThen t st calls (IsRequestNode t now)) → at.stage ≡ stage
    → gave_in now ≡ gave_in at.node → StaysWith made tops a b (Request at) (Request (at_stage now stage due))
does_with_refused made tops a b at now stage due calls were fit does is gave =
    record { calls = calls; were_made = were; fits = fit; goes = λ t st n. request_does t st at (at_stage now stage due) calls (does t st n.tops_are n.is) (ap is_told (sym is)) gave }

-- ---- one after the other

pub does_more : (t : Terms) (st : Stack) (IsMid IsAfter : Stack → Type 0) → DoesThen t st [] IsMid → ((mid : Stack) → IsMid mid → IsAfter mid) → DoesThen t st [] IsAfter
does_more t st IsMid IsAfter h then =
    record { dids = h.dids; stack = h.stack; does = h.does; opens = h.opens; calls_are = h.calls_are; after = then h.stack h.after }
