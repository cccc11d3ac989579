use Rattle.std.proofs.Common.{◌≤◌, ◌^◌, arith}
use Rattle.std.proofs.Math.Pow.{pow_mono}
use Rattle.std.proofs.lemmas.Nat.{pow_pos}
use Rattle.zio_places.proofs.word.ones.Goals as goal

pub low_ones-requires-2 : goal.low_ones-requires-2
low_ones-requires-2 c = omega arith

pub overflow_sub-result : goal.overflow_sub-result
overflow_sub-result c =
    let more : 2 ^ c.args.from ≤ 2 ^ c.args.to = pow_mono {i = c.args.from} {j = c.args.to} c.requires.order in omega (arith, pow_pos c.args.from)

pub returns : goal.returns
returns c =
    let more : 2 ^ c.args.from ≤ 2 ^ c.args.to = pow_mono {i = c.args.from} {j = c.args.to} c.requires.order in omega (arith, pow_pos c.args.from)
