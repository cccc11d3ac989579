use Rattle.std.proofs.Common.{◌<◌, ◌^◌, arith}
use Rattle.zio_stages.proofs.LabelLemmas.{below_power}
use Rattle.zio_stages.proofs.label.Label.pack.Goals as goal

-- src/label.rt:49:13
pub joined-part-requires-clause-low : goal.joined-part-requires-clause-low
joined-part-requires-clause-low c = let h : c.steps_number-steps.result < 4 ^ 8 = below_power _ 8 c.steps_number-steps.result c.steps_number-steps.ensures.below (omega (arith, c.self.invariant.fits)) in omega (arith, h)
