-- A write whose block is stored ends at once: what holds of the end holds from where the write stood before.
use Rattle.std.proofs.Common.{◌≡◌, ◌<◌, List, Result, Ok, Err, ap, sym, subst, ◌∙◌, arith}
use Rattle.std.specs.Prelude.{IfOk, OnErr}
use Rattle.zio_types.specs.declared.place.Top.{Top}
use Rattle.zio_masks.specs.declared.stage.Stage.{Stage}
use Rattle.zio_masks.specs.declared.stage.Stage.TheVariants.{Done}
use Rattle.zio_gang.specs.Attempts.{Terms}
use Rattle.zio_frames.specs.Frames.{Stack}
use Rattle.zio_exchange.specs.SpaceCalls.{SpaceCall}
use Rattle.zio_stages.specs.RequestNodes.{IsRequestNode}
use Rattle.zio_staged.specs.Stages.{IsNow, Lessens}
use Rattle.zio_nodes.specs.SealedMoves.{Move}
use Rattle.zio_staged.specs.declared.staged.Move.TheVariants.{End, Grow, Leaf as ToLeaf, Next, Ready, Wait}
use Rattle.zio_nodes.specs.Nodes.{MovesWith, StaysWith, gave_of, last_moved, left_of, nodes}
use Rattle.zio_nodes.specs.RequestBounds.{request_left}
use Rattle.zio_nodes.specs.StageMoves.{CallsFit, IsEndMove, IsLastMove}
use Rattle.zio_nodes.specs.Told.{is_told}
use Rattle.zio_nodes.specs.declared.node.Node.{Node}
use Rattle.zio_nodes.specs.declared.node.Node.TheVariants.{Request}
use Rattle.zio_nodes.specs.declared.request_at.RequestAt.{RequestAt}
use Rattle.zio_nodes.specs.declared.turn.Last.{Last}
use Rattle.zio_nodes.proofs.RequestMoves.{ends_from, goes_from}

-- the one is as far as the other
abbrev pub IsStill : List Top → RequestAt → RequestAt → Type 0
IsStill tops at mid = (t : Terms) (st : Stack) → IsNow {N = Node} nodes tops t (Request at) st → IsRequestNode t mid.node st

-- at the last stage the same calls are made
last_fit : (at mid : RequestAt) (calls : List SpaceCall) → at.stage ≡ Done → mid.stage ≡ at.stage → CallsFit mid.stage (Request mid) calls → CallsFit at.stage (Request at) calls
last_fit at mid calls done same h =
    subst (λ (s : Stage). CallsFit s (Request at) calls) (sym done) (subst (λ (s : Stage). CallsFit s (Request mid) calls) (same ∙ done) h)

end_behind : {S : Type 0} (made : S → List SpaceCall → S → Type 0) (tops : List Top) (a b : S) (at mid : RequestAt) (move : Move Node)
    → at.stage ≡ Done → mid.stage ≡ at.stage → gave_of (Request mid) ≡ gave_of (Request at) → IsStill tops at mid → IsEndMove move
    → MovesWith made tops a b (Request mid) move → MovesWith made tops a b (Request at) move
end_behind made tops a b at mid (End outcome) done same gave still ends h = record {
  calls = h.calls;
  were_made = h.were_made;
  fits = last_fit at mid h.calls done same h.fits;
  moves = λ t st now. ends_from t st at mid h.calls outcome (ap is_told same) gave (h.moves t st (record { tops_are = now.tops_are; is = still t st now; seated = now.seated }));
}
end_behind made tops a b at mid (Next after) done same gave still ends h = absurd ends
end_behind made tops a b at mid (Wait after kind phase) done same gave still ends h = absurd ends
end_behind made tops a b at mid (Grow after child kind) done same gave still ends h = absurd ends
end_behind made tops a b at mid (ToLeaf after op leaf bytes) done same gave still ends h = absurd ends
end_behind made tops a b at mid (Ready after pointer) done same gave still ends h = absurd ends

pub ends_behind : {S E : Type 0} (made : S → List SpaceCall → S → Type 0) (tops : List Top) (a b : S) (at mid : RequestAt) (after : Node) (r : Result Last E)
    → at.stage ≡ Done → mid.stage ≡ at.stage → gave_of (Request mid) ≡ gave_of (Request at) → IsStill tops at mid → IfOk r (λ last. IsEndMove (last_moved after last))
    → IfOk r (λ last. MovesWith made tops a b (Request mid) (last_moved after last)) → IfOk r (λ last. MovesWith made tops a b (Request at) (last_moved after last))
ends_behind made tops a b at mid after (Ok last) done same gave still ends h = end_behind made tops a b at mid (last_moved after last) done same gave still ends h
ends_behind made tops a b at mid after (Err e) done same gave still ends h = tt

pub stays_behind : {S E : Type 0} (made : S → List SpaceCall → S → Type 0) (tops : List Top) (a b : S) (at mid : RequestAt) (after : Node) (r : Result Last E)
    → at.stage ≡ Done → mid.stage ≡ at.stage → gave_of (Request mid) ≡ gave_of (Request at) → IsStill tops at mid
    → OnErr r (StaysWith made tops a b (Request mid) after) → OnErr r (StaysWith made tops a b (Request at) after)
stays_behind made tops a b at mid after (Ok last) done same gave still h = tt
stays_behind made tops a b at mid after (Err e) done same gave still h = record {
  calls = h.calls;
  were_made = h.were_made;
  fits = last_fit at mid h.calls done same h.fits;
  goes = λ t st now. goes_from t st at mid h.calls after (ap is_told same) gave (h.goes t st (record { tops_are = now.tops_are; is = still t st now; seated = now.seated }));
}

left_end : (at mid : RequestAt) (move : Move Node) → request_left mid < request_left at → IsEndMove move → Lessens left_of (Request mid) move → Lessens left_of (Request at) move
left_end at mid (End outcome) less ends h = omega (arith, less, h)
left_end at mid (Next after) less ends h = absurd ends
left_end at mid (Wait after kind phase) less ends h = absurd ends
left_end at mid (Grow after child kind) less ends h = absurd ends
left_end at mid (ToLeaf after op leaf bytes) less ends h = absurd ends
left_end at mid (Ready after pointer) less ends h = absurd ends

pub left_behind : {E : Type 0} (at mid : RequestAt) (after : Node) (r : Result Last E) → request_left mid < request_left at → IfOk r (λ last. IsEndMove (last_moved after last))
    → IfOk r (λ last. Lessens left_of (Request mid) (last_moved after last)) → IfOk r (λ last. Lessens left_of (Request at) (last_moved after last))
left_behind at mid after (Ok last) less ends h = left_end at mid (last_moved after last) less ends h
left_behind at mid after (Err e) less ends h = tt

end_last : (move : Move Node) → IsEndMove move → IsLastMove move
end_last (End outcome) ends = tt
end_last (Next after) ends = absurd ends
end_last (Wait after kind phase) ends = absurd ends
end_last (Grow after child kind) ends = absurd ends
end_last (ToLeaf after op leaf bytes) ends = absurd ends
end_last (Ready after pointer) ends = absurd ends

pub ends_last : {E : Type 0} (after : Node) (r : Result Last E) → IfOk r (λ last. IsEndMove (last_moved after last)) → IfOk r (λ last. IsLastMove (last_moved after last))
ends_last after (Ok last) ends = end_last (last_moved after last) ends
ends_last after (Err e) ends = tt
