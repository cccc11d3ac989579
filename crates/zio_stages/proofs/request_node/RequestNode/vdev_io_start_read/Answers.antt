use Rattle.std.proofs.Common.{List, [], Result, Ok, Err, sym, subst}
use Rattle.std.specs.Prelude.{OnErr}
use Rattle.zio_frames.specs.Frames.{Child}
use Rattle.zio_stages.specs.OwnParts.{DoesThen}
use Rattle.zio_stages.specs.RequestNodes.{IsRequestNode}
use Rattle.zio_stages.specs.declared.own_read.OwnRead.{OwnRead}
use Rattle.zio_stages.specs.declared.request_node.Own.TheVariants.{Read}
use Rattle.zio_stages.proofs.RequestOwnMoves.{own_read, read_goes_on, read_in, reads_block}
use Rattle.zio_stages.proofs.RequestReadMoves.{does_own, starts_own}
use Rattle.zio_stages.proofs.RequestWriteLemmas.{with_own}
use Rattle.zio_stages.proofs.request_node.RequestNode.vdev_io_start_read.Goals as goal

on_any : {A E : Type 0} (res : Result A E) (P : Type 0) → P → OnErr res P
on_any (Ok a) P p = tt
on_any (Err e) P p = p

pub returns-in_err-begin_next-clause-err : goal.returns-in_err-begin_next-clause-err
returns-in_err-begin_next-clause-err c = on_any c.from_residual.result _ (λ t st tops h.
    let r = c.args.self.now in
    let w = c.in-Read.own in
    let own = read_in t r st w h c.in-Read.is in
    does_own t r st w c.begin_next.new.self r.family h own
    (c.begin_next.ensures.begins t r.family own.tree h.kid_asked h.kid_slots st (read_goes_on t c.args.tops.now r st own.tree h tops (reads_block t r st w h own)) (own_read t r st w h own)))

pub returns-in-Ok-clause-starts : goal.returns-in-Ok-clause-starts
returns-in-Ok-clause-starts c = λ t st tops h.
    let r = c.args.self.now in
    let w = c.in-Read.own in
    let own = read_in t r st w h c.in-Read.is in
    starts_own t c.args.tops.now r st w c.begin_next.new.self c.vdev_io_start.new.self c.vdev_io_start.new.family c.in-Ok.leaf h own tops
    (c.begin_next.ensures.begins t r.family own.tree h.kid_asked h.kid_slots st (read_goes_on t c.args.tops.now r st own.tree h tops (reads_block t r st w h own)) (own_read t r st w h own))
    (λ b goes is. c.in-Ok.ensures.starts t own.tree h.kid_asked h.kid_slots b goes is)

pub returns-in-Err-clause-err : goal.returns-in-Err-clause-err
returns-in-Err-clause-err c = λ t st tops h.
    let r = c.args.self.now in
    let w = c.in-Read.own in
    let own = read_in t r st w h c.in-Read.is in
    let begun = does_own t r st w c.begin_next.new.self r.family h own
    (c.begin_next.ensures.begins t r.family own.tree h.kid_asked h.kid_slots st (read_goes_on t c.args.tops.now r st own.tree h tops (reads_block t r st w h own)) (own_read t r st w h own)) in
    subst (λ (o : OwnRead). DoesThen t st [] (IsRequestNode t (with_own r (Read o) c.vdev_io_start.new.family))) (sym c.in-Err.ensures.err)
    (subst (λ (cs : List Child). DoesThen t st [] (IsRequestNode t (with_own r (Read c.begin_next.new.self) cs))) (sym c.in-Err.ensures.family_err) begun)
