use Rattle.std.proofs.Common.{◌-◌, refl}
use Rattle.zio_stages.specs.declared.part.PartOwn.{PartOwn}
use Rattle.zio_stages.proofs.PartAsksLemmas.{MemberIs, member_is_out, untold_slot}
use Rattle.zio_stages.proofs.PartOwnMoves.{member_ended}
use Rattle.zio_stages.proofs.part.PartOwn.hear_member.Goals as goal

pub hear_member-requires-clause-out : goal.hear_member-requires-clause-out
hear_member-requires-clause-out c =
    let x = c.args.self.now.part in
    let is : MemberIs x c.args.stored.pointer c.args.n = member_is_out x.placing x c.args.stored.pointer c.args.n c.requires.member c.requires.out in
    is.out

pub hear_member-requires-clause-valid : goal.hear_member-requires-clause-valid
hear_member-requires-clause-valid c = λ out.
    let x = c.args.self.now.part in
    c.requires.valid (untold_slot x.placing x c.args.n c.requires.member out)

pub returns-clause-heard : goal.returns-clause-heard
returns-clause-heard c = λ t o asked slots h.
    let old = c.args.self.now in
    let s = c.args.stored in
    let now : PartOwn = record { part = c.hear_member.new.self } in
    let is : MemberIs old.part s.pointer c.args.n = member_is_out old.part.placing old.part s.pointer c.args.n c.requires.member c.requires.out in
    member_ended t old now o asked slots c.args.n (c.args.n - 2) s.error s.pointer s.heads h is.behind refl c.hear_member.ensures.heard c.hear_member.ensures.slots c.requires.kept
