use Rattle.std.proofs.Common.{◌≡◌, ◌+◌, ◌^◌, ◌*◌, ◌-◌, ◌≤◌, ◌++◌, ◌∷◌, [], ◌∙◌, sym, ap, subst, length, length-append, arith}
use Rattle.zio_parts.specs.Parts.{PartWriting, fresh_part, member_bytes}
use Rattle.zio_stages.specs.declared.part.PartOwn.{PartOwn}
use Rattle.zio_stages.proofs.PartOwnMoves.{member_handed}
use Rattle.zio_stages.proofs.part.PartOwn.hand_out_member.Goals as goal

pub returns-clause-handed : goal.returns-clause-handed
returns-clause-handed c = λ t o asked slots h same.
    let old = c.args.self.now in
    let n = c.args.n in
    let now : PartOwn = record { part = c.hand_out.new.self } in
    let child : PartOwn = record { part = c.member-part.result } in
    member_handed t old now child o asked slots n c.requires.next h c.hand_out.ensures.handed c.hand_out.ensures.slots
    (c.member-part.ensures.fresh ∙ ap (λ bytes. fresh_part old.part.write (old.part.path ++ n ∷ []) (member_bytes bytes n)) (sym same))
    (subst (λ bytes. length (member_bytes bytes n) ≤ 512 * 3 ^ (7 - length old.part.path)) (sym same) c.member-part.ensures.deep)

pub returns-clause-size : goal.returns-clause-size
returns-clause-size c = ap (λ (x : PartWriting). x.size) c.member-part.ensures.fresh

pub returns-clause-fresh : goal.returns-clause-fresh
returns-clause-fresh c = (ap (λ (x : PartWriting). x.placing) c.member-part.ensures.fresh, ap (λ (x : PartWriting). x.own) c.member-part.ensures.fresh)

pub returns-clause-begun : goal.returns-clause-begun
returns-clause-begun c = ap (λ (x : PartWriting). x.members) c.member-part.ensures.fresh

pub returns-clause-path : goal.returns-clause-path
returns-clause-path c = ap (λ (x : PartWriting). x.path) c.member-part.ensures.fresh

pub returns-clause-deep : goal.returns-clause-deep
returns-clause-deep c =
    let path = c.args.self.now.part.path in
    let longer : length c.member_path.result ≡ length path + 1 = ap length c.member_path.ensures ∙ length-append path (c.args.n ∷ []) in
    omega (arith, longer, c.steps_of-steps.ensures.many, c.steps_of-steps.ensures.most)
