use Rattle.std.proofs.lemmas.Result.{IfOk-from_err}
use Rattle.zio_gang.proofs.MemberLemmas.{members_named}
use Rattle.zio_gang.proofs.members.members_of.Goals as goal

pub returns-in_err-add_named-2 : goal.returns-in_err-add_named-2
returns-in_err-add_named-2 c = IfOk-from_err c.from_residual-in_err-add_named-2.result _ c.from_residual-in_err-add_named-2.ensures.0

pub returns-in_err-add_named-3 : goal.returns-in_err-add_named-3
returns-in_err-add_named-3 c = IfOk-from_err c.from_residual-in_err-add_named-3.result _ c.from_residual-in_err-add_named-3.ensures.0

pub returns : goal.returns
returns c =
    members_named c.args.bytes.now c.slot_at.result.now c.slot_at-2.result.now c.slot_at-3.result.now
    c.new-members.result c.add_named.new.members c.add_named-2.new.members c.add_named-3.new.members
    c.slot_at.ensures c.slot_at-2.ensures c.slot_at-3.ensures c.new-members.ensures c.in_ok-add_named.ensures c.in_ok-add_named-2.ensures c.in_ok-add_named-3.ensures
