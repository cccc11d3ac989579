use Rattle.std.proofs.Common.{◌≡◌, ◌<◌, List, length, true, refl, sym, subst, ◌∙◌}
use Rattle.std.specs.List.{AllByRecursion}
use Rattle.zio_types.specs.declared.place.Place.{Place}
use Rattle.zio_trace.specs.Tasks.{ReadCopies, Task}
use Rattle.zio_frames.specs.Frames.{fresh_stack}
use Rattle.zio_frames.proofs.GetLemmas.{all_at}
use Rattle.zio_stages.specs.CopiesNodes.{IsCopiesNode}
use Rattle.zio_stages.specs.OwnReads.{IsBodyOn}
use Rattle.zio_stages.specs.RequestNodes.{IsOwnOver}
use Rattle.zio_stages.specs.RequestReads.{IsAlone, IsBodyNext, IsReadWith, IsReadingWith}
use Rattle.zio_stages.specs.TreeWorks.{body_task}
use Rattle.zio_stages.specs.WriteIos.{AreIoPlaces}
use Rattle.zio_stages.specs.declared.request_node.Own.{Own}
use Rattle.zio_stages.proofs.RequestOwnMoves.{own_read, read_goes_on, read_in, reads_block}
use Rattle.zio_stages.proofs.RequestReadMoves.{count_front, hands_own, over_alone}
use Rattle.zio_stages.proofs.RequestReadLemmas.{reads_only}
use Rattle.zio_stages.proofs.request_node.RequestNode.gang_issue_read.Goals as goal

pub places_of-requires : goal.places_of-requires
places_of-requires c =
    let over = subst (λ (o : Own). IsOwnOver c.args.tops.now o c.args.self.now.family) c.in-Read.is c.requires.over in
    (all_at (IsBodyOn c.args.tops.now) c.in-Read.own.tree.read.bodies c.args.body.n c.args.body.bp over.1 (subst (IsReadingWith (IsBodyNext c.args.body)) c.in-Read.is c.requires.next).is).of_valid

pub new-requires-clause-places : goal.new-requires-clause-places
new-requires-clause-places c =
    let over = subst (λ (o : Own). IsOwnOver c.args.tops.now o c.args.self.now.family) c.in-Read.is c.requires.over in
    subst (AreIoPlaces c.args.tops.now) (sym c.in_ok-places.ensures.places)
    (all_at (IsBodyOn c.args.tops.now) c.in-Read.own.tree.read.bodies c.args.body.n c.args.body.bp over.1 (subst (IsReadingWith (IsBodyNext c.args.body)) c.in-Read.is c.requires.next).is).places

pub new-requires-clause-some : goal.new-requires-clause-some
new-requires-clause-some c =
    let over = subst (λ (o : Own). IsOwnOver c.args.tops.now o c.args.self.now.family) c.in-Read.is c.requires.over in
    subst (λ (ps : List Place). 0 < length ps) (sym c.in_ok-places.ensures.places)
    (all_at (IsBodyOn c.args.tops.now) c.in-Read.own.tree.read.bodies c.args.body.n c.args.body.bp over.1 (subst (IsReadingWith (IsBodyNext c.args.body)) c.in-Read.is c.requires.next).is).some

pub returns-clause-hands : goal.returns-clause-hands
returns-clause-hands c = λ t st tops h.
    let r = c.args.self.now in
    let w = c.in-Read.own in
    let body = c.args.body in
    let own = read_in t r st w h c.in-Read.is in
    let op : ReadCopies true c.body-check.result body.bp.size c.in_ok-places.places ≡ body_task body.bp =
    λ i. ReadCopies true (c.body-check.ensures i) body.bp.size (c.in_ok-places.ensures.places i) in
    hands_own t r st w c.gang_issue.new.self c.gang_issue.new.family (λ o. o ≡ body_task body.bp) (λ o. IsCopiesNode t c.new.result (fresh_stack o)) h own
    (λ o is. subst (λ (q : Task). IsCopiesNode t c.new.result (fresh_stack q)) (op ∙ sym is) (c.new.ensures.fresh t tops))
    (c.in_ok-gang_issue.ensures.hands t c.args.tops.now own.tree h.kid_asked h.kid_slots st (count_front t r st h own.all ∙ sym c.len-front.ensures.count)
    (read_goes_on t c.args.tops.now r st own.tree h tops (reads_block t r st w h own)) (own_read t r st w h own))

pub returns-clause-over : goal.returns-clause-over
returns-clause-over c =
    let r = c.args.self.now in
    let tops = c.args.tops.now in
    over_alone tops c.in-Read.own c.gang_issue.new.self r.family c.gang_issue.new.family (subst (IsReadWith IsAlone) c.in-Read.is c.requires.reads) c.in_ok-gang_issue.ensures.alone
    (subst (AllByRecursion (IsBodyOn tops)) (sym c.in_ok-gang_issue.ensures.bodies)) c.in_ok-gang_issue.ensures.sits (subst (λ (o : Own). IsOwnOver tops o r.family) c.in-Read.is c.requires.over)

pub unreachable-requires : goal.unreachable-requires
unreachable-requires c = reads_only _ c.args.self.now.own c.requires.next c.in_default.not-Read

pub gang_issue-requires : goal.gang_issue-requires
gang_issue-requires c =
    let next = (subst (IsReadingWith (IsBodyNext c.args.body)) c.in-Read.is c.requires.next) in
    record {
      next = next.shows;
      alone = subst (IsReadWith IsAlone) c.in-Read.is c.requires.reads;
      small = next.small;
      front = c.len-front.ensures.small;
    }
