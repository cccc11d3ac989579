use Rattle.std.proofs.Common.{◌∙◌, ap, length, sym}
use Rattle.zio_parts.specs.Parts.{PartWriting}
use Rattle.zio_stages.proofs.part_node.PartNode.new.Goals as goal

pub of-requires-clause-size : goal.of-requires-clause-size
of-requires-clause-size c = ap length (c.alone.ensures ∙ sym c.as_slice.ensures) ∙ sym (ap (λ (x : PartWriting). x.size) c.new-own.ensures.fresh)

pub of-requires-clause-body : goal.of-requires-clause-body
of-requires-clause-body c = ap (λ (x : PartWriting). x.placing) c.new-own.ensures.fresh

pub of-requires-clause-due : goal.of-requires-clause-due
of-requires-clause-due c = ap (λ (x : PartWriting). x.own) c.new-own.ensures.fresh

pub returns-clause-fresh : goal.returns-clause-fresh
returns-clause-fresh c = λ t o writing path bytes levels. c.of.ensures.fresh t o (c.new-own.ensures.is t o writing path (bytes ∙ sym c.as_slice.ensures) levels) (bytes ∙ sym c.alone.ensures)
