use Rattle.std.proofs.Common.{◌∙◌, ap, subst}
use Rattle.zio_parts.specs.Parts.{left_of_part, slots_of}
use Rattle.zio_parts.specs.PartWrites.{IsPartWriting, own_heard}
use Rattle.zio_parts.proofs.PartLemmas.{own_heard_left, own_heard_slots}
use Rattle.zio_parts.proofs.part_write.PartWrite.hear_written.Goals as goal

pub returns-clause-slots : goal.returns-clause-slots
returns-clause-slots c =
    ap (λ x. slots_of (own_heard x c.args.error)) c.self.view_is
    ∙ own_heard_slots c.args.self.now c.args.error (subst IsPartWriting c.self.view_is c.self.invariant.is) c.requires

pub returns-clause-left : goal.returns-clause-left
returns-clause-left c = λ s member bytes.
    ap (λ x. left_of_part s member bytes (own_heard x c.args.error)) c.self.view_is
    ∙ own_heard_left s member bytes c.args.self.now c.args.error (subst IsPartWriting c.self.view_is c.self.invariant.is) c.requires
