-- A node as an engine keeps it does what the node does.
use Rattle.std.proofs.Common.{◌≡◌, ◌∙◌, List, ap, subst, sym}
use Rattle.zio_types.specs.declared.place.Top.{Top}
use Rattle.zio_gang.specs.Attempts.{Terms}
use Rattle.zio_frames.specs.Frames.{Stack}
use Rattle.zio_exchange.specs.SpaceCalls.{SpaceCall}
use Rattle.zio_stages.specs.declared.closing.Seal.{Seal}
use Rattle.zio_staged.specs.Moves.{moved as moved_to}
use Rattle.zio_staged.specs.Stages.{EachIn, IsMove, IsNow}
use Rattle.zio_staged.specs.declared.staged.Turn.{Turn as Staged}
use Rattle.zio_nodes.specs.SealedMoves.{Move}
use Rattle.zio_nodes.specs.Nodes.{IsNodeOver, IsTreeOver, MovesWith, gave_of, moved, nodes}
use Rattle.zio_nodes.specs.declared.node.Node.{Node}
use Rattle.zio_nodes.specs.declared.turn.Turn.{Turn}

-- the move is the same
same_move : (seen new : Node) (turn came : Turn) (staged : Staged Node Seal) → seen ≡ new → turn ≡ came
    → ((n : Node) → moved_to n staged ≡ moved n turn) → moved new came ≡ moved_to seen staged
same_move seen new turn came staged is was says = (λ i. moved (sym is i) (sym was i)) ∙ sym (says seen)

pub moves_kept : {S : Type 0} (made : S → List SpaceCall → S → Type 0) (tops : List Top) (a b c : S) (x old seen new : Node) (turn came : Turn)
    (staged : Staged Node Seal) → x ≡ old → seen ≡ new → turn ≡ came → c ≡ b → ((n : Node) → moved_to n staged ≡ moved n turn)
    → MovesWith made tops a b old (moved new came)
    → (calls : List SpaceCall) × made a calls c
    × ((t : Terms) (st : Stack) → IsNow {N = Node} nodes tops t x st → IsMove {N = Node} nodes gave_of t x st calls (moved_to seen staged))
moves_kept {S} made tops a b c x old seen new turn came staged was is turned lent says h =
    let m1 : MovesWith made tops a c old (moved new came) = subst (λ (d : S). MovesWith made tops a d old (moved new came)) (sym lent) h in
    let m2 : MovesWith made tops a c x (moved new came) = subst (λ (n : Node). MovesWith made tops a c n (moved new came)) (sym was) m1 in
    let m : MovesWith made tops a c x (moved_to seen staged) =
    subst (λ (i : Move Node). MovesWith made tops a c x i) (same_move seen new turn came staged is turned says) m2 in
    (m.calls, m.were_made, m.moves)

pub each_kept : (tops : List Top) (seen new : Node) (turn came : Turn) (staged : Staged Node Seal) → seen ≡ new → turn ≡ came
    → ((n : Node) → moved_to n staged ≡ moved n turn) → EachIn (IsNodeOver tops) (IsTreeOver tops) (moved new came)
    → EachIn (IsNodeOver tops) (IsTreeOver tops) (moved_to seen staged)
each_kept tops seen new turn came staged is turned says h =
    subst (λ (i : Move Node). EachIn (IsNodeOver tops) (IsTreeOver tops) i) (same_move seen new turn came staged is turned says) h
