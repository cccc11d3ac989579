-- Stages of a node that ask nothing of the space.
use Rattle.std.proofs.Common.{◌≡◌, List, [], ◌∷◌, Result, Ok, Err, append-nil, refl, subst, sym}
use Rattle.std.specs.Prelude.{IfOk, OnErr}
use Rattle.zio_types.specs.declared.place.Place.{Place}
use Rattle.zio_types.specs.declared.place.Top.{Top}
use Rattle.zio_types.specs.declared.request.Kind.{Kind}
use Rattle.zio_types.specs.declared.request.Kind.TheVariants.{Null as NullKind, Read as ReadKind, Write as WriteKind, Free as FreeKind, Claim as ClaimKind}
use Rattle.zio_masks.specs.declared.stage.Stage.{Stage}
use Rattle.zio_masks.specs.declared.stage.Stage.TheVariants.{Start, ReadBpInit, WriteBpInit, FreeBpInit, IssueAsync, WriteCompress, ChecksumGenerate, GangAssemble, GangIssue, DvaAllocate, DvaFree, DvaClaim, Ready, VdevIoStart, VdevIoDone, VdevIoAssess, ChecksumVerify, Done}
use Rattle.zio_script.specs.Requests.{kind_of}
use Rattle.zio_exchange.specs.SpaceCalls.{AreReturns, SpaceCall, calls_back}
use Rattle.zio_nodes.specs.SealedMoves.{Move}
use Rattle.zio_nodes.specs.Nodes.{MovesBare, MovesWith, StaysBare, StaysWith, gave_of, last_moved, moved}
use Rattle.zio_nodes.specs.StageMoves.{CallsFit, GangFits, IssueFits, stage_of}
use Rattle.zio_nodes.specs.declared.node.Node.{Node}
use Rattle.zio_nodes.specs.declared.node.Node.TheVariants.{Copies, Empty, Heads, Leaf, Part, Request, Tree}
use Rattle.zio_nodes.specs.declared.turn.Last.{Last}
use Rattle.zio_nodes.specs.declared.turn.Turn.{Turn}

-- ---- which calls a stage makes

issue_none : (kind : Kind) → IssueFits kind []
issue_none NullKind = refl
issue_none ReadKind = refl
issue_none WriteKind = refl
issue_none FreeKind = tt
issue_none ClaimKind = tt

gang_none : (node : Node) → GangFits node []
gang_none (Leaf at) = refl
gang_none (Copies at) = refl
gang_none (Heads at) = refl
gang_none (Part at) = refl
gang_none (Tree at) = refl
gang_none (Request at) = issue_none (kind_of at.node.waiting.request.work)
gang_none Empty = refl

pub no_calls : (stage : Stage) (node : Node) → CallsFit stage node []
no_calls Start node = refl
no_calls ReadBpInit node = refl
no_calls WriteBpInit node = refl
no_calls FreeBpInit node = refl
no_calls IssueAsync node = refl
no_calls WriteCompress node = refl
no_calls ChecksumGenerate node = refl
no_calls GangAssemble node = refl
no_calls GangIssue node = gang_none node
no_calls DvaAllocate node = tt
no_calls DvaFree node = tt
no_calls DvaClaim node = tt
no_calls Ready node = refl
no_calls VdevIoStart node = refl
no_calls VdevIoDone node = refl
no_calls VdevIoAssess node = refl
no_calls ChecksumVerify node = refl
no_calls Done node = tt

pub all_returns : (places : List Place) → AreReturns (calls_back places)
all_returns [] = tt
all_returns (p ∷ ps) = (tt, all_returns ps)

-- ---- as a stage that may call the space, and makes no call

pub bare_move : {S : Type 0} (made : S → List SpaceCall → S → Type 0) (tops lent : List Top) (a : S) (node : Node) (move : Move Node) → lent ≡ tops → made a [] a
    → MovesBare lent node move → MovesWith made tops a a node move
bare_move made tops lent a node move same none h =
    record { calls = []; were_made = none; fits = no_calls (stage_of node) node; moves = subst (λ (ts : List Top). MovesBare ts node move) same h }

-- ---- in its place

moves_by : {S R E : Type 0} (seen : R → Move Node) (made : S → List SpaceCall → S → Type 0) (tops lent : List Top) (a : S) (node : Node) (r : Result R E) → lent ≡ tops → made a [] a
    → IfOk r (λ x. MovesBare lent node (seen x)) → IfOk r (λ x. MovesWith made tops a a node (seen x))
moves_by seen made tops lent a node (Ok x) same none h = bare_move made tops lent a node (seen x) same none h
moves_by seen made tops lent a node (Err e) same none h = tt

pub turn_moves : {S E : Type 0} (made : S → List SpaceCall → S → Type 0) (tops lent : List Top) (a : S) (node after : Node) (r : Result Turn E) → lent ≡ tops → made a [] a
    → IfOk r (λ turn. MovesBare lent node (moved after turn)) → IfOk r (λ turn. MovesWith made tops a a node (moved after turn))
turn_moves made tops lent a node after r same none h = moves_by (moved after) made tops lent a node r same none h

-- the same of its last stage
pub end_moves : {S E : Type 0} (made : S → List SpaceCall → S → Type 0) (tops lent : List Top) (a : S) (node after : Node) (r : Result Last E) → lent ≡ tops → made a [] a
    → IfOk r (λ last. MovesBare lent node (last_moved after last)) → IfOk r (λ last. MovesWith made tops a a node (last_moved after last))
end_moves made tops lent a node after r same none h = moves_by (last_moved after) made tops lent a node r same none h

pub turn_stays : {S R E : Type 0} (made : S → List SpaceCall → S → Type 0) (tops lent : List Top) (a : S) (node after : Node) (r : Result R E) → lent ≡ tops → made a [] a
    → OnErr r (StaysBare lent node after) → OnErr r (StaysWith made tops a a node after)
turn_stays made tops lent a node after (Ok turn) same none h = tt
turn_stays made tops lent a node after (Err e) same none h =
    record { calls = []; were_made = none; fits = no_calls (stage_of node) node; goes = subst (λ (ts : List Top). StaysBare ts node after) same h }

-- with no room for its end it stays as it was
pub stays_itself : {S T E : Type 0} (made : S → List SpaceCall → S → Type 0) (tops : List Top) (a : S) (node : Node) (r : Result T E)
    → made a [] a → OnErr r (StaysWith made tops a a node node)
stays_itself made tops a node (Ok x) none = tt
stays_itself made tops a node (Err e) none = record {
  calls = [];
  were_made = none;
  fits = no_calls (stage_of node) node;
  goes = λ t st now. record {
    dids = [];
    gone = [];
    stack = st;
    does = refl;
    opens = tt;
    calls_are = refl;
    is = now.is;
    told = refl;
    gave_more = sym (append-nil (gave_of node));
  };
}
