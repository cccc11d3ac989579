use Rattle.std.proofs.Common.{◌≡◌, suc, ◌-◌, slice_get, Some, None, subst, arith}
use Rattle.zio_frames.specs.Slots.{IsOut}
use Rattle.zio_stages.specs.TreeWorks.{slots_with}
use Rattle.zio_stages.specs.declared.tree.TreeWork.{TreeWork}
use Rattle.zio_stages.proofs.TreeLemmas.{body_heard, out_body}
use Rattle.zio_stages.proofs.tree.TreeWork.hear_body.Goals as goal

pub returns-clause-heard : goal.returns-clause-heard
returns-clause-heard c = λ tree asked slots h.
    let old = c.args.self.now in
    let now : TreeWork = record { read = c.hear_body.new.self } in
    let number : c.args.n ≡ suc (c.args.n - 1) = omega arith in
    let out = subst (λ i. slice_get (slots_with c.requires.out.0 old.read) i ≡ Some (IsOut None)) number c.requires.out.1 in
    body_heard old now tree asked slots c.args.n (c.args.n - 1) c.args.found number (out_body old.read.phase c.requires.out.0 old.read.results (c.args.n - 1) out)
    c.hear_body.ensures.heard c.hear_body.ensures.slots h
