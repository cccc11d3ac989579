use Rattle.std.proofs.Common.{◌<◌, ◌^◌, arith}
use Rattle.zio_stages.proofs.LabelLemmas.{below_power}
use Rattle.zio_stages.proofs.label.+steps_number.Goals as goal

-- src/label.rt:98:30
pub overflow_mul-result : goal.overflow_mul-result
overflow_mul-result t c = let h : c.steps_number.result < 4 ^ 7 = below_power _ 7 c.steps_number.result c.steps_number.ensures.below (omega (arith, c.requires.few, c.in-len1-up.len_at_least)) in omega (arith, h)

-- src/label.rt:98:30
pub overflow_add-result : goal.overflow_add-result
overflow_add-result t c = let h : c.steps_number.result < 4 ^ 7 = below_power _ 7 c.steps_number.result c.steps_number.ensures.below (omega (arith, c.requires.few, c.in-len1-up.len_at_least)) in omega (arith, h)
