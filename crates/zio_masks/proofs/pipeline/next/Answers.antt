use Rattle.std.proofs.Common.{ℕ, ◌+◌, ◌<◌, ◌/◌, ◌^◌, IsTrue, arith, subst, eqb-true, w32}
use Rattle.std.specs.Int.{bit_at, trailing_zeros}
use Rattle.zio_masks.proofs.MaskLemmas.{IsLowest, is_next, lowest_from}
use Rattle.zio_masks.specs.declared.pipeline.Pipeline.{Pipeline}
use Rattle.zio_masks.specs.declared.stage.Stage.TheVariants.{Done}
use Rattle.zio_masks.specs.Stages.{has}
use Rattle.zio_masks.proofs.pipeline.next.Goals as goal

-- the lowest bit of a pipeline behind a stage before `Done`
found : (mask : Pipeline) (number : ℕ) → mask.bits < 2 ^ 32 → number < 17 → IsTrue (has mask Done) →
    IsLowest mask.bits (number + 1) 17 (number + 1 + trailing_zeros w32 (mask.bits / 2 ^ (number + 1)))
found mask number range before ends =
    lowest_from mask.bits (number + 1) 17 range (omega (arith, before)) (eqb-true (bit_at mask.bits 17) 1 ends)

pub stage_at-requires : goal.stage_at-requires
stage_at-requires c =
    let low = found c.args.mask c.number-first.result (omega arith) (omega (arith, c.requires.before, c.number-first.ensures)) c.requires.ends in
    omega (arith, low.within)

pub returns : goal.returns
returns c =
    let low = found c.args.mask c.number-first.result (omega arith) (omega (arith, c.requires.before, c.number-first.ensures)) c.requires.ends in
    is_next c.args.mask c.args.stage c.stage_at.result 17 _
    (let P : ℕ → Type 0 = λ n. IsLowest c.args.mask.bits (n + 1) 17 (c.number-first.result + 1 + trailing_zeros w32 (c.args.mask.bits / 2 ^ (c.number-first.result + 1))) in
    subst P c.number-first.ensures low)
    c.stage_at.ensures
