use Rattle.std.proofs.Common.{◌≡◌, ℕ, Bool, List, subst, ◌∙◌}
use Rattle.zio_trace.specs.Leaves.{Fetch, Store}
use Rattle.zio_trace.specs.Tasks.{Leaf, good_by}
use Rattle.zio_frames.specs.Frames.{fresh_frame}
use Rattle.zio_parts.specs.Copies.{spot_at}
use Rattle.zio_stages.specs.LeafWorks.{IsLeafWork}
use Rattle.zio_stages.proofs.ReadIoEnds.{no_child}
use Rattle.zio_stages.proofs.ReadIoLemmas.{fetch_spanned, read_child_again, repair_spanned}
use Rattle.zio_stages.proofs.ReadIoMoves.{read_asks_next, repair_asks_next}
use Rattle.zio_stages.proofs.read_io.ReadIo.next_leaf.Goals as goal

pub unreachable-requires : goal.unreachable-requires
unreachable-requires c =
    no_child c.next.result (read_child_again c.args.tops.now c.args.self.now c.next.result c.requires.step c.next.ensures.shows) c.in-Wait.is

pub read-requires : goal.read-requires
read-requires c = fetch_spanned c.args.tops.now c.args.self.now.read c.in-Fetch.target c.requires.over.places c.in-Fetch.ensures.allows.1 c.in-Fetch.ensures.shows

pub write-requires : goal.write-requires
write-requires c = repair_spanned c.args.tops.now c.args.self.now.read c.in-Repair.target c.requires.over.places c.in-Repair.ensures.shows

pub returns-in-Fetch-clause-next : goal.returns-in-Fetch-clause-next
returns-in-Fetch-clause-next c = λ t x e h.
    let w = c.args.self.now in
    let target = c.in-Fetch.target in
    let child = c.read.result in
    let fresh : IsLeafWork t child (fresh_frame (Leaf (Fetch w.read.retry w.read.len (spot_at target)))) =
    subst (λ (r : Bool). IsLeafWork t child (fresh_frame (Leaf (Fetch r w.read.len (spot_at target))))) c.retry-retry.ensures
    (subst (λ (n : ℕ). IsLeafWork t child (fresh_frame (Leaf (Fetch c.retry-retry.result n (spot_at target))))) c.len-len.ensures (c.read.ensures.fresh t)) in
    read_asks_next t c.args.tops.now w x target child h c.in-Fetch.ensures.allows (c.in-Fetch.ensures.shows t.setting (good_by w.check) e) fresh c.read.ensures.queued

pub returns-in_ok-copy-in-Repair-clause-next : goal.returns-in_ok-copy-in-Repair-clause-next
returns-in_ok-copy-in-Repair-clause-next c = λ t x e h.
    let w = c.args.self.now in
    let target = c.in-Repair.target in
    let child = c.write.result in
    let shown = c.in-Repair.ensures.shows t.setting (good_by w.check) e in
    let bytes : List ℕ = shown.0 in
    let same : c.alone-bytes.result ≡ bytes = c.alone-bytes.ensures ∙ (c.in_ok-copy-in-Repair.ensures ∙ c.bytes.ensures bytes shown.1) in
    let fresh : IsLeafWork t child (fresh_frame (Leaf (Store w.read.retry bytes (spot_at target)))) =
    subst (λ (r : Bool). IsLeafWork t child (fresh_frame (Leaf (Store r bytes (spot_at target))))) c.retry-retry-in-Repair.ensures
    (subst (λ (bs : List ℕ). IsLeafWork t child (fresh_frame (Leaf (Store c.retry-retry-in-Repair.result bs (spot_at target))))) same (c.write.ensures.fresh t)) in
    repair_asks_next t w x target child bytes h shown.1 shown.2 fresh c.write.ensures.queued
