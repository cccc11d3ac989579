use Rattle.std.proofs.Common.{◌<◌, ◌∙◌, ap, arith, length-set}
use Rattle.zio_parts.specs.Answered.{out_count}
use Rattle.zio_parts.specs.CopyWrites.{Writing, left_of_write, writes_of}
use Rattle.zio_parts.proofs.WriteLemmas.{handed_left, handed_out, held_more, held_room}
use Rattle.zio_parts.proofs.copy_write.CopyWrite.hand_out.Goals as goal

pub bounds-self-inside-self-inside : goal.bounds-self-inside-self-inside
bounds-self-inside-self-inside c =
    let x = c.self.inside in
    held_room x.handed x.outs x.errors c.self.invariant.outs c.self.invariant.errors c.self.invariant.handed (rw (← c.self.view_is) at c.requires)

pub invariant_of-self : goal.invariant_of-self
invariant_of-self c =
    let x = c.self.inside in
    let room : x.handed < 12 = held_room x.handed x.outs x.errors c.self.invariant.outs c.self.invariant.errors c.self.invariant.handed (rw (← c.self.view_is) at c.requires) in
    record { handed = omega arith; outs = length-set x.outs x.handed _ ∙ c.self.invariant.outs; errors = c.self.invariant.errors }

pub returns-clause-handed : goal.returns-clause-handed
returns-clause-handed c =
    let x = c.self.inside in
    let room : x.handed < 12 = held_room x.handed x.outs x.errors c.self.invariant.outs c.self.invariant.errors c.self.invariant.handed (rw (← c.self.view_is) at c.requires) in
    rw (← c.self.view_is)
    (ap (λ as_. let w : Writing = record { places = x.places; retry = x.retry; answers = as_ } in w) (held_more x.handed x.outs x.errors c.self.invariant.outs c.self.invariant.errors room))

pub returns-clause-left : goal.returns-clause-left
returns-clause-left c = λ s bytes. ap (left_of_write s bytes) (returns-clause-handed c) ∙ handed_left s bytes c.args.self.now

pub returns-clause-out : goal.returns-clause-out
returns-clause-out c = ap (λ x. out_count (writes_of x)) (returns-clause-handed c) ∙ handed_out c.args.self.now
