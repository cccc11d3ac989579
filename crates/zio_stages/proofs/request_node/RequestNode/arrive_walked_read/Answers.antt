use Rattle.std.proofs.Common.{◌+◌, length, sym, subst}
use Rattle.std.specs.List.{AllByRecursion}
use Rattle.zio_trace.specs.Tasks.{WalkedBy}
use Rattle.zio_stages.specs.OwnReads.{IsBodyOn}
use Rattle.zio_stages.specs.RequestNodes.{IsOwnOver}
use Rattle.zio_stages.specs.RequestReads.{IsReadingWith, IsWalkAlone}
use Rattle.zio_stages.specs.declared.request_node.Own.{Own}
use Rattle.zio_stages.proofs.RequestHears.{child_within}
use Rattle.zio_stages.proofs.RequestOwnMoves.{own_read, read_in}
use Rattle.zio_stages.proofs.RequestReadMoves.{all_after, hears_own, over_alone, own_first}
use Rattle.zio_stages.proofs.request_node.RequestNode.arrive_walked_read.Goals as goal

pub arrive_walked-requires : goal.arrive_walked-requires
arrive_walked-requires c =
    let r = c.args.self.now in
    let out = subst (IsReadingWith IsWalkAlone) c.in-Read.is c.requires.out in
    record { child = child_within r.family c.args.child (length r.kids.kids.kids + 0) c.requires.seat; out = out.1; alone = out.0 }

pub returns-clause-heard : goal.returns-clause-heard
returns-clause-heard c = λ t st x there h.
    let r = c.args.self.now in
    let w = c.in-Read.own in
    let own = read_in t r st w h c.in-Read.is in
    hears_own t r st w c.arrive_walked.new.self c.arrive_walked.new.family c.args.child x (WalkedBy c.args.walked) h own
    (c.arrive_walked.ensures.heard t own.tree h.kid_asked h.kid_slots st x there (own_first t r st c.args.child x h own.all c.requires.seat there) (own_read t r st w h own))

pub returns-clause-over : goal.returns-clause-over
returns-clause-over c =
    let r = c.args.self.now in
    let tops = c.args.tops.now in
    over_alone tops c.in-Read.own c.arrive_walked.new.self r.family c.arrive_walked.new.family (subst (IsReadingWith IsWalkAlone) c.in-Read.is c.requires.out).0 c.arrive_walked.ensures.alone
    (λ on. subst (AllByRecursion (IsBodyOn tops)) (sym c.arrive_walked.ensures.bodies) (all_after tops c.in-Read.own.tree.read.bodies c.args.walked on c.requires.on)) c.arrive_walked.ensures.sits
    (subst (λ (o : Own). IsOwnOver tops o r.family) c.in-Read.is c.requires.over)
