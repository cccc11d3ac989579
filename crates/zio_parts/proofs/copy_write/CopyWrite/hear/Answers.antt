use Rattle.std.proofs.Common.{◌+◌, ◌<◌, ◌∙◌, ap, arith}
use Rattle.zio_parts.specs.Answered.{out_count}
use Rattle.zio_parts.specs.CopyWrites.{Writing, left_of_write, writes_of}
use Rattle.zio_parts.proofs.AnsweredLemmas.{within_get}
use Rattle.zio_parts.proofs.WriteLemmas.{heard_left, heard_out, held_set, length_held}
use Rattle.zio_parts.proofs.copy_write.CopyWrite.hear.Goals as goal

pub bounds-self-inside-n : goal.bounds-self-inside-n
bounds-self-inside-n c =
    let x = c.self.inside in
    let within = within_get _ c.args.n _ (rw (← c.self.view_is) at c.requires) in
    omega (arith, within, length_held x.handed x.outs x.errors c.self.invariant.outs c.self.invariant.errors c.self.invariant.handed)

pub bounds-self-inside-n-2 : goal.bounds-self-inside-n-2
bounds-self-inside-n-2 c =
    let x = c.self.inside in
    let within = within_get _ c.args.n _ (rw (← c.self.view_is) at c.requires) in
    omega (arith, within, length_held x.handed x.outs x.errors c.self.invariant.outs c.self.invariant.errors c.self.invariant.handed)

pub offset_bounds-self-inside-n : goal.offset_bounds-self-inside-n
offset_bounds-self-inside-n c =
    let below : c.args.n < 12 = bounds-self-inside-n c in
    omega arith

pub returns-clause-heard : goal.returns-clause-heard
returns-clause-heard c =
    let x = c.self.inside in
    rw (← c.self.view_is)
    (ap (λ as_. let w : Writing = record { places = x.places; retry = x.retry; answers = as_ } in w) (held_set x.handed x.outs x.errors c.args.n c.args.error))

pub returns-clause-left : goal.returns-clause-left
returns-clause-left c = λ s bytes answer is.
    ap (left_of_write s bytes) (returns-clause-heard c) ∙ heard_left s bytes c.args.self.now c.args.n c.args.error answer c.requires is

pub returns-clause-out : goal.returns-clause-out
returns-clause-out c = ap (λ x. out_count (writes_of x) + 1) (returns-clause-heard c) ∙ heard_out c.args.self.now c.args.n c.args.error c.requires
