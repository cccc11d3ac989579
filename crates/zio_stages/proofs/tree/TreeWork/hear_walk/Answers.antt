use Rattle.zio_stages.specs.declared.tree.TreeWork.{TreeWork}
use Rattle.zio_stages.proofs.TreeLemmas.{out_walk, tree_walked}
use Rattle.zio_stages.proofs.tree.TreeWork.hear_walk.Goals as goal

pub returns-clause-heard : goal.returns-clause-heard
returns-clause-heard c = λ tree asked slots h.
    let old = c.args.self.now in
    let now : TreeWork = record { read = c.hear_walk.new.self } in
    tree_walked old now tree asked slots c.args.walked (out_walk old.read.phase c.requires.0 old.read.results c.requires.1)
    c.hear_walk.ensures.heard c.hear_walk.ensures.slots (c.hear_walk.ensures.left tree.heads) h
