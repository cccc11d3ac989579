use Rattle.std.proofs.Common.{ℕ, Bool, List, subst}
use Rattle.zio_trace.specs.Leaves.{Store}
use Rattle.zio_trace.specs.Tasks.{Leaf}
use Rattle.zio_frames.specs.Frames.{fresh_frame}
use Rattle.zio_parts.specs.Copies.{spot_at}
use Rattle.zio_stages.specs.LeafWorks.{IsLeafWork}
use Rattle.zio_stages.proofs.WriteIoLemmas.{child_again, child_stores, target_spanned}
use Rattle.zio_stages.proofs.WriteIoMoves.{write_asks_next}
use Rattle.zio_stages.proofs.write_io.WriteIo.next_leaf.Goals as goal

pub unreachable-requires : goal.unreachable-requires
unreachable-requires c = child_stores c.next.result (child_again c.args.tops.now c.args.self.now c.next.result c.requires.step c.next.ensures.shows) c.in_default.not-Store

pub write-requires : goal.write-requires
write-requires c = target_spanned c.args.tops.now c.args.self.now.write c.in-Store.target c.requires.over.places c.in-Store.ensures.shows

pub returns-clause-next : goal.returns-clause-next
returns-clause-next c = λ t x e h.
    let w = c.args.self.now in
    let bytes = c.args.bytes.now in
    let target = c.in-Store.target in
    let child = c.write.result in
    let fresh : IsLeafWork t child (fresh_frame (Leaf (Store w.write.retry bytes (spot_at target)))) =
    subst (λ (r : Bool). IsLeafWork t child (fresh_frame (Leaf (Store r bytes (spot_at target))))) c.retry.ensures
    (subst (λ (bs : List ℕ). IsLeafWork t child (fresh_frame (Leaf (Store c.retry.result bs (spot_at target))))) c.in_ok-bytes.ensures.same_bytes (c.write.ensures.fresh t)) in
    write_asks_next t bytes w x target child h (c.in-Store.ensures.shows t.setting bytes e) fresh c.write.ensures.queued
