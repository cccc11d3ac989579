use Rattle.std.proofs.Common.{◌-◌, None, refl, sym, subst}
use Rattle.zio_stages.specs.PartOwns.{IsOutAs}
use Rattle.zio_stages.specs.declared.part.PartOwn.{PartOwn}
use Rattle.zio_stages.proofs.PartAsksLemmas.{MemberIs, member_is_out, member_untold}
use Rattle.zio_stages.proofs.PartOwnMoves.{told}
use Rattle.zio_stages.proofs.part.PartOwn.hear_told.Goals as goal

pub tell-requires-clause-out : goal.tell-requires-clause-out
tell-requires-clause-out c =
    let x = c.args.self.now.part in
    member_untold x.placing x c.args.n c.requires.member c.requires.out

pub returns-clause-told : goal.returns-clause-told
returns-clause-told c = λ t o asked slots h.
    let old = c.args.self.now in
    let now : PartOwn = record { part = c.tell.new.self } in
    let is : MemberIs old.part None c.args.n = member_is_out old.part.placing old.part None c.args.n c.requires.member (subst (IsOutAs None) (sym c.requires.out) tt) in
    told t old now o asked slots c.args.n (c.args.n - 2) c.args.pointer h is.behind refl c.requires.out c.tell.ensures.told c.tell.ensures.slots
