use Rattle.std.proofs.Common.{rules}
use Rattle.zio_script.proofs.BuilderLemmas.{sees_rest}
use Rattle.zio_script.proofs.builder.+repeats_leaf.Goals as goal

pub returns-else-seen-at-clause-seen : goal.returns-else-seen-at-clause-seen
returns-else-seen-at-clause-seen t c = λ before sees once n low.
    sees_rest c.args.leaves.now c.args.seen.now c.repeats_leaf.new.seen before n c.in-len1-up.len_at_least c.requires (search rules) sees
    (λ first sees_first. c.repeats_leaf.ensures.seen first sees_first once n low)
