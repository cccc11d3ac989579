use Rattle.std.proofs.Common.{◌≡◌, ◌+◌, refl, length, arith, sym, subst}
use Rattle.zio_stages.specs.TreeWorks.{body_task}
use Rattle.zio_stages.specs.declared.own_read.OwnRead.{OwnRead}
use Rattle.zio_stages.proofs.OwnGangLemmas.{hands_read}
use Rattle.zio_stages.proofs.OwnReadLemmas.{asked_before, reads_more}
use Rattle.zio_stages.specs.NodeIos.{NoneSits}
use Rattle.zio_stages.specs.declared.family.Layer.TheVariants.{Within}
use Rattle.zio_stages.proofs.PartMembers.{none_beside}
use Rattle.zio_stages.proofs.own_read.OwnRead.gang_issue.Goals as goal

pub take_back_body-requires : goal.take_back_body-requires
take_back_body-requires c = (c.args.self.now.tree.read, c.in_ok-hand_out_body.ensures.handed)

pub returns-in-Ok-clause-hands : goal.returns-in-Ok-clause-hands
returns-in-Ok-clause-hands c = λ t tops tree front_asked before st count goes h.
    let old = c.args.self.now in
    let body = c.args.body in
    let new : OwnRead = record { tree = c.hand_out_body.new.self; body = old.body } in
    let many : length h.begun ≡ body.n + 1 = asked_before old.tree tree h.asked h.begun body c.requires.next h.work in
    let full : length h.asked ≡ length h.begun = h.work.full in
    let number = c.number_of-number.ensures in
    hands_read t tops old new c.args.family.now c.add.new.self tree front_asked before st (body_task body.bp) (c.args.front + c.number_of-number.result) (λ op. op ≡ body_task body.bp)
    c.requires.alone c.requires.alone goes h (c.in_ok-hand_out_body.ensures.out tree h.asked h.begun h.work)
    (reads_more tree h.asked body.bp (omega (arith, full, many)) h.reads) refl refl (omega (arith, count, many, number)) c.in-Ok.ensures.ok

pub returns-in-Err-clause-err : goal.returns-in-Err-clause-err
returns-in-Err-clause-err c = λ i. record { tree = record { read = c.take_back_body.ensures c.args.self.now.tree.read c.in_ok-hand_out_body.ensures.handed i }; body = c.args.self.now.body }

pub returns-in-Ok-clause-sits : goal.returns-in-Ok-clause-sits
returns-in-Ok-clause-sits c = λ none. subst (NoneSits Within) (sym c.in-Ok.ensures.ok) (none_beside c.args.family.now (c.args.front + c.number_of-number.result) none)
