-- What a request's own work came to took its place: what that one does from there, it does.
use Rattle.std.proofs.Common.{◌≡◌, ◌≤◌, List, [], ◌++◌, Result, Ok, Err, sym, ap, subst, ◌∙◌, arith}
use Rattle.std.specs.Prelude.{IfOk, OnErr}
use Rattle.zio_types.specs.declared.place.Place.{Place}
use Rattle.zio_types.specs.declared.place.Top.{Top}
use Rattle.zio_gang.specs.Attempts.{Terms}
use Rattle.zio_frames.specs.Frames.{Stack}
use Rattle.std.specs.Prelude.{IsPermutation}
use Rattle.zio_exchange.specs.Outcomes.{freed_by, held_by, made_by, stored_in}
use Rattle.zio_stages.specs.RequestNodes.{IsRequestNode}
use Rattle.zio_staged.specs.Stages.{GoesOn, IsMove, IsNow, Lessens, Stays}
use Rattle.zio_nodes.specs.SealedMoves.{Move}
use Rattle.zio_staged.specs.declared.staged.Move.TheVariants.{End, Grow, Leaf as ToLeaf, Next, Ready, Wait}
use Rattle.zio_nodes.specs.Nodes.{MovesBare, StaysBare, gave_of, last_moved, left_of, nodes}
use Rattle.zio_nodes.specs.Told.{is_told}
use Rattle.zio_nodes.specs.declared.node.Node.{Node}
use Rattle.zio_nodes.specs.declared.node.Node.TheVariants.{Request}
use Rattle.zio_nodes.specs.declared.request_at.RequestAt.{RequestAt}
use Rattle.zio_nodes.specs.declared.turn.Last.{Last}

-- ---- from the one that has what it came to

-- the other is so far too, told as much and gave as much back
pub record IsSame (a b : RequestAt) : Type 0 where
  pub is : (t : Terms) (st : Stack) → IsRequestNode t a.node st → IsRequestNode t b.node st
  pub told : is_told b.stage ≡ is_told a.stage
  pub gave : gave_of (Request b) ≡ gave_of (Request a)

now_same : (tops : List Top) (t : Terms) (st : Stack) (a b : RequestAt) → IsSame a b → IsNow {N = Node} nodes tops t (Request a) st → IsNow {N = Node} nodes tops t (Request b) st
now_same tops t st a b same n = record { tops_are = n.tops_are; is = same.is t st n.is; seated = n.seated }

goes_from : (t : Terms) (st : Stack) (a b : RequestAt) (after : Node) → IsSame a b → GoesOn {N = Node} nodes gave_of t (Request b) st [] after
    → GoesOn {N = Node} nodes gave_of t (Request a) st [] after
goes_from t st a b after same g = record {
  dids = g.dids;
  gone = g.gone;
  stack = g.stack;
  does = g.does;
  opens = g.opens;
  calls_are = g.calls_are;
  is = g.is;
  told = g.told ∙ same.told;
  gave_more = g.gave_more ∙ ap (λ ps. ps ++ g.gone) same.gave;
}

stays_as : (t : Terms) (st : Stack) (a b : RequestAt) (after : Node) → IsSame a b → Stays {N = Node} nodes gave_of t (Request b) st [] after
    → Stays {N = Node} nodes gave_of t (Request a) st [] after
stays_as t st a b after same g = record { is = g.is; told = g.told ∙ same.told; gave_same = g.gave_same ∙ same.gave; no_calls = g.no_calls }

move_from : (t : Terms) (st : Stack) (a b : RequestAt) (move : Move Node) → IsSame a b → IsMove {N = Node} nodes gave_of t (Request b) st [] move
    → IsMove {N = Node} nodes gave_of t (Request a) st [] move
move_from t st a b (Next after) same g = goes_from t st a b after same g
move_from t st a b (Wait after kind phase) same g = record { stays = stays_as t st a b after same g.stays; owing = g.owing }
move_from t st a b (Grow after child kind) same g = record {
  dids = g.dids;
  stack = g.stack;
  does = g.does;
  opens = g.opens;
  calls_are = g.calls_are;
  op = g.op;
  part = g.part;
  asks = g.asks;
  is = g.is;
  told = g.told ∙ same.told;
  gave_same = g.gave_same ∙ same.gave;
  child_is = g.child_is;
  child_told = g.child_told;
  child_gave = g.child_gave;
  of_kind = g.of_kind;
}
move_from t st a b (ToLeaf after op leaf bytes) same g = record { act = g.act; fresh = g.fresh; is_op = g.is_op; stays = stays_as t st a b after same g.stays }
move_from t st a b (Ready after pointer) same g = record {
  will = g.will;
  needs = g.needs;
  before = sym same.told ∙ g.before;
  is = g.is;
  told = g.told;
  gave_same = g.gave_same ∙ same.gave;
  no_calls = g.no_calls;
}
move_from t st a b (End outcome) same g = record {
  value = g.value;
  gone = g.gone;
  ended = g.ended;
  ends = g.ends;
  told = λ needs. sym same.told ∙ g.told needs;
  shows = g.shows;
  requests = g.requests;
  requests_are = g.requests_are;
  calls_are = g.calls_are;
  places = subst (λ (gave : List Place). IsPermutation (held_by st ++ freed_by st.outer.op outcome) (gave ++ g.gone ++ made_by outcome ++ stored_in g.value)) same.gave g.places;
}

pub moves_from : {E : Type 0} (tops : List Top) (a b : RequestAt) (after : Node) (r : Result Last E) → IsSame a b → IfOk r (λ last. MovesBare tops (Request b) (last_moved after last))
    → IfOk r (λ last. MovesBare tops (Request a) (last_moved after last))
moves_from tops a b after (Ok last) same h = λ t st n. move_from t st a b (last_moved after last) same (h t st (now_same tops t st a b same n))
moves_from tops a b after (Err e) same h = tt

pub stays_from : {E : Type 0} (tops : List Top) (a b : RequestAt) (after : Node) (r : Result Last E) → IsSame a b → OnErr r (StaysBare tops (Request b) after)
    → OnErr r (StaysBare tops (Request a) after)
stays_from tops a b after (Ok last) same h = tt
stays_from tops a b after (Err e) same h = λ t st n. goes_from t st a b after same (h t st (now_same tops t st a b same n))

-- ---- and no less often

less_from : (a b : Node) → left_of b ≤ left_of a → (move : Move Node) → Lessens left_of b move → Lessens left_of a move
less_from a b less (Next after) h = omega (arith, less, h)
less_from a b less (Wait after kind phase) h = omega (arith, less, h)
less_from a b less (Grow after child kind) h = omega (arith, less, h)
less_from a b less (ToLeaf after op leaf bytes) h = omega (arith, less, h)
less_from a b less (Ready after pointer) h = omega (arith, less, h)
less_from a b less (End outcome) h = omega (arith, less, h)

pub lessens_from : {E : Type 0} (a b after : Node) (r : Result Last E) → left_of b ≤ left_of a → IfOk r (λ last. Lessens left_of b (last_moved after last))
    → IfOk r (λ last. Lessens left_of a (last_moved after last))
lessens_from a b after (Ok last) less h = less_from a b less (last_moved after last) h
lessens_from a b after (Err e) less h = tt
