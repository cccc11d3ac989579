use Rattle.std.proofs.Common.{◌≡◌, inl, inr, subst, sym, ◌∙◌}
use Rattle.zio_exchange.specs.declared.outcome.Outcome.TheVariants.{Finished, Found}
use Rattle.zio_staged.specs.Stages.{Hears, HearsSome}
use Rattle.zio_nodes.specs.Nodes.{IsNode, nodes}
use Rattle.zio_nodes.specs.declared.node.Node.{Node}
use Rattle.zio_nodes.proofs.CopiesLemmas.{hears_answer}
use Rattle.zio_nodes.proofs.HeadsLemmas.{IsHeardOutcome, hears_read_or_walk}
use Rattle.zio_nodes.proofs.LeafLemmas.{no_child}
use Rattle.zio_nodes.proofs.PartHearing.{IsHeardPart, hears_leaf_or_member}
use Rattle.zio_nodes.proofs.TreeAtLemmas.{no_tree_child}
use Rattle.zio_nodes.proofs.node.Node.arrive.Goals as goal

pub unreachable-requires : goal.unreachable-requires
unreachable-requires c =
    let k = c.requires.awaited in
    let P : Node → Type 0 = λ n. Hears {N = Node} nodes c.args.tops.now k.terms n k.stack c.args.child k.child k.op c.args.outcome k.value in
    elim c.in-Leaf.is [
      | inl at ↦
          let h = subst P at.1 k.hears in
          no_child k.terms at.0 k.stack c.args.child k.child h.now.is h.there
      | inr rest ↦ elim rest [
        | inl at ↦
            let h = subst P at.1 k.hears in
            no_tree_child k.terms at.0 k.stack c.args.child k.child h.now.is h.there
        | inr none ↦ subst (λ (n : Node). IsNode k.terms n k.stack) none k.hears.now.is
      ]
    ]

pub returns-in-Copies-clause-heard : goal.returns-in-Copies-clause-heard
returns-in-Copies-clause-heard c = λ t st d op v h.
    c.arrive.ensures.heard t st d op v (subst (λ (n : Node). Hears {N = Node} nodes c.args.tops.now t n st c.args.child d op c.args.outcome v) c.in-Copies.is h)

pub returns-in-Copies-clause-kept : goal.returns-in-Copies-clause-kept
returns-in-Copies-clause-kept c = λ f is.
    let k = subst (λ (n : Node). HearsSome {N = Node} nodes c.args.tops.now n c.args.child c.args.outcome) c.in-Copies.is c.requires.awaited in
    let a = hears_answer k.terms c.args.tops.now c.in-Copies.at k.stack c.args.child k.child k.op c.args.outcome k.value k.hears in
    let no : Finished f ≡ Found a.0 = sym is ∙ a.1 in
    absurd (cc)

pub returns-in-Ok-clause-kept : goal.returns-in-Ok-clause-kept
returns-in-Ok-clause-kept c = λ f is.
    let awaited = subst (λ (n : Node). HearsSome {N = Node} nodes c.args.tops.now n c.args.child c.args.outcome) c.in-Heads.is c.requires.awaited in
    absurd (subst IsHeardOutcome is (hears_read_or_walk c.args.tops.now c.in-Heads.at c.args.child c.args.outcome awaited))

pub returns-in-Part-clause-kept : goal.returns-in-Part-clause-kept
returns-in-Part-clause-kept c = λ f is.
    let awaited = subst (λ (n : Node). HearsSome {N = Node} nodes c.args.tops.now n c.args.child c.args.outcome) c.in-Part.is c.requires.awaited in
    absurd (subst IsHeardPart is (hears_leaf_or_member c.args.tops.now c.in-Part.at c.args.child c.args.outcome awaited))
