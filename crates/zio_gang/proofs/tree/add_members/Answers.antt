use Rattle.std.proofs.lemmas.Result.{IfOk-from_err, on_ok_weaker}
use Rattle.zio_gang.proofs.PlaceLemmas.{members_added}
use Rattle.zio_gang.proofs.tree.add_members.Goals as goal

pub returns-in_err-add_member : goal.returns-in_err-add_member
returns-in_err-add_member c = IfOk-from_err c.from_residual.result _ c.from_residual.ensures.0

pub returns-in_err-add_member-2 : goal.returns-in_err-add_member-2
returns-in_err-add_member-2 c =
    IfOk-from_err c.from_residual-in_err-add_member-2.result _ c.from_residual-in_err-add_member-2.ensures.0

pub returns : goal.returns
returns c =
    on_ok_weaker c.add_member-3.result
    (
    members_added c.args.bytes.now c.slot_at.result.now c.slot_at-2.result.now c.slot_at-3.result.now
    c.args.places.now c.add_member.new.places c.add_member-2.new.places c.add_member-3.new.places
    c.slot_at.ensures c.slot_at-2.ensures c.slot_at-3.ensures c.in_ok-add_member.ensures c.in_ok-add_member-2.ensures
    )
    c.add_member-3.ensures
