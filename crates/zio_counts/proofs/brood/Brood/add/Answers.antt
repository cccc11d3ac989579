use Rattle.std.proofs.Common.{◌≡◌, ◌++◌, ◌∷◌, [], length, arith}
use Rattle.zio_counts.specs.Broods.{new_child}
use Rattle.zio_counts.proofs.BroodLemmas.{firsts_pushed, pushed_as}
use Rattle.zio_counts.proofs.brood.Brood.add.Goals as goal

pub invariant_of-self-2 : goal.invariant_of-self-2
invariant_of-self-2 g c =
    let items = c.self.inside.children.items in
    let pushed : c.push.new.self.items ≡ items ++ new_child c.args.kind c.args.label ∷ [] =
    pushed_as items c.push.new.self.items c.new.result (new_child c.args.kind c.args.label) c.in_ok-push.ensures.items c.new.ensures in
    let all : c.len-number.result ≡ length items = omega arith in
    firsts_pushed c.args.kind c.args.label items c.push.new.self.items c.self.inside.firsts c.step.new.self c.len-number.result
    pushed c.self.invariant all c.step.ensures
