use Rattle.std.proofs.Common.{◌<◌, refl, subst, sym, inl, inr}
use Rattle.zio_staged.specs.declared.staged.Move.TheVariants.{Next}
use Rattle.zio_nodes.specs.Aheads.{FitsNode}
use Rattle.zio_nodes.specs.Nodes.{IsNodeOver, MovesBare, left_of}
use Rattle.zio_nodes.specs.StageMoves.{IsStageMove}
use Rattle.zio_nodes.specs.Stalls.{LeavesNone}
use Rattle.zio_nodes.specs.declared.node.Node.{Node}
use Rattle.zio_nodes.specs.declared.node.Node.TheVariants.{Leaf, Request}
use Rattle.zio_nodes.proofs.node.Node.go_on.Goals as goal

pub unreachable-requires : goal.unreachable-requires
unreachable-requires c =
    let P : Node → Type 0 = λ n. FitsNode n c.args.ahead in
    elim c.in-Copies.is [
      | inl at ↦ subst P at.1 c.requires.fits
      | inr rest ↦ elim rest [
        | inl at ↦ subst P at.1 c.requires.fits
        | inr rest ↦ elim rest [
          | inl at ↦ subst P at.1 c.requires.fits
          | inr rest ↦ elim rest [
            | inl at ↦ subst P at.1 c.requires.fits
            | inr none ↦ subst P none c.requires.fits
          ]
        ]
      ]
    ]

pub go_on-requires-clause-over : goal.go_on-requires-clause-over
go_on-requires-clause-over c =
    let over = c.requires.over in
    (over.0, subst (IsNodeOver over.0) c.in-Request.is over.1)

pub go_on-requires-clause-fits : goal.go_on-requires-clause-fits
go_on-requires-clause-fits c = subst (λ (n : Node). FitsNode n c.args.ahead) c.in-Request.is c.requires.fits

pub returns-in-Request-clause-moves : goal.returns-in-Request-clause-moves
returns-in-Request-clause-moves c = λ tops.
    subst (λ (n : Node). MovesBare tops n (Next (Request c.go_on.new.self))) (sym c.in-Request.is) (c.go_on.ensures.moves tops)

pub returns-in-Request-clause-over : goal.returns-in-Request-clause-over
returns-in-Request-clause-over c = λ tops h. c.go_on.ensures.over tops (subst (IsNodeOver tops) c.in-Request.is h)

pub returns-in-Request-clause-left : goal.returns-in-Request-clause-left
returns-in-Request-clause-left c = subst (λ (n : Node). left_of (Request c.go_on.new.self) < left_of n) (sym c.in-Request.is) c.go_on.ensures.left

pub returns-in-Request-clause-stages : goal.returns-in-Request-clause-stages
returns-in-Request-clause-stages c = subst (λ (n : Node). IsStageMove n (Next (Request c.go_on.new.self))) (sym c.in-Request.is) c.go_on.ensures.stages

pub returns-in-Request-clause-leaves : goal.returns-in-Request-clause-leaves
returns-in-Request-clause-leaves c = subst (λ (n : Node). LeavesNone n (Next (Request c.go_on.new.self))) (sym c.in-Request.is) c.go_on.ensures.leaves

pub returns-in-Leaf-clause-moves : goal.returns-in-Leaf-clause-moves
returns-in-Leaf-clause-moves c = λ tops.
    subst (λ (n : Node). MovesBare tops n (Next (Leaf c.go_on-in-Leaf.new.self))) (sym c.in-Leaf.is) (c.go_on-in-Leaf.ensures.moves tops)

pub returns-in-Leaf-clause-over : goal.returns-in-Leaf-clause-over
returns-in-Leaf-clause-over c = λ tops h. c.go_on-in-Leaf.ensures.over tops

pub returns-in-Leaf-clause-left : goal.returns-in-Leaf-clause-left
returns-in-Leaf-clause-left c =
    subst (λ (n : Node). left_of (Leaf c.go_on-in-Leaf.new.self) < left_of n) (sym c.in-Leaf.is) c.go_on-in-Leaf.ensures.left

pub returns-in-Leaf-clause-stages : goal.returns-in-Leaf-clause-stages
returns-in-Leaf-clause-stages c =
    subst (λ (n : Node). IsStageMove n (Next (Leaf c.go_on-in-Leaf.new.self))) (sym c.in-Leaf.is) c.go_on-in-Leaf.ensures.stages

pub returns-in-Leaf-clause-leaves : goal.returns-in-Leaf-clause-leaves
returns-in-Leaf-clause-leaves c = subst (λ (n : Node). LeavesNone n (Next (Leaf c.go_on-in-Leaf.new.self))) (sym c.in-Leaf.is) (λ kind phase stalls. refl)

pub go_on-requires-in-Leaf : goal.go_on-requires-in-Leaf
go_on-requires-in-Leaf c = record { fits = subst (λ (n : Node). FitsNode n c.args.ahead) c.in-Leaf.is c.requires.fits }
