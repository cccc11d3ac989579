use Rattle.std.proofs.Common.{◌++◌, List, ℕ, ap, take, ◌∙◌, ◌≡◌}
use Rattle.std.specs.Int.{w64, to_le_bytes}
use Rattle.zio_script.specs.Bodies.{next_state}
use Rattle.zio_script.proofs.BodyLemmas.{sequence_more, sequence_start}
use Rattle.zio_script.proofs.body.sequence.Goals as goal

pub loop-left-init : goal.loop-left-init
loop-left-init c = rw c.new-bytes.ensures (sequence_start c.args.seed c.args.len)

pub loop-left-preserved : goal.loop-left-preserved
loop-left-preserved c =
    let word : c.to_le_bytes.result ≡ to_le_bytes w64 (next_state c.loop-left.state) = c.to_le_bytes.ensures ∙ ap (λ (n : ℕ). to_le_bytes w64 n) c.next_state-state.ensures in
    rw c.next_state-state.ensures
    (sequence_more c.args.seed c.args.len c.loop-left.state c.loop-left.left c.min-taken.result c.loop-left.bytes c.extend_from_slice.new.self
    c.loop-left.invariant c.min-taken.ensures
    (c.in_ok-extend_from_slice.ensures.ok ∙ ap (λ (xs : List ℕ). c.loop-left.bytes ++ take c.min-taken.result xs) word))
