use Rattle.std.proofs.Common.{◌≡◌, ◌∙◌, map, true, false, refl, sym, ap}
use Rattle.zio_types.specs.Errors.{worst_error, worst_of}
use Rattle.zio_types.specs.Bits.{has_bits}
use Rattle.zio_gang.specs.Attempts.{Child}
use Rattle.zio_children.specs.RequestKids.{KidsUnderWay, finished_in}
use Rattle.zio_stages.specs.ClosedRequests.{Again, Finished}
use Rattle.zio_stages.specs.Closings.{node_over}
use Rattle.zio_stages.specs.declared.request_node.RequestNode.{RequestNode}
use Rattle.zio_stages.proofs.ClosedLemmas.{keeps_again, keeps_finished}
use Rattle.zio_stages.proofs.RequestEnds.{closes_again, closes_finished}
use Rattle.zio_stages.proofs.closing.close.Goals as goal

pub returns-then-go_again-clause-closes : goal.returns-then-go_again-clause-closes
returns-then-go_again-clause-closes c = λ begun family round.
    let r : RequestNode = node_over c.args.waiting.now c.args.kids.now begun family round c.args.attempt c.args.failmode in
    let some : has_bits c.bits_over-bits.result ≡ true = sym c.go_again.ensures ∙ c.if-go_again.true in
    record {
      closed = Again c.bits_over-bits.result c.in_ok-whole.whole c.args.own.now;
      is = refl;
      own_is = refl;
      decides = keeps_again r c.args.own.now.error c.bits_over-bits.result c.bits_over-bits.ensures some;
      closes = λ t st h o. closes_again t r st h c.args.own.now c.in_ok-whole.whole c.bits_over-bits.result c.requires o c.bits_over-bits.ensures some
          (λ one e. c.in_ok-whole.ensures.tree r.attempt h.forest h.kid_asked h.kid_slots one h.kids e) c.in_ok-whole.ensures.number;
      list = c.in_ok-whole.ensures.list;
    }

pub returns-clause-closes : goal.returns-clause-closes
returns-clause-closes c = λ begun family round.
    let r : RequestNode = node_over c.args.waiting.now c.args.kids.now begun family round c.args.attempt c.args.failmode in
    let own = c.args.own.now in
    let none : has_bits c.bits_over-bits.result ≡ false = sym c.go_again.ensures ∙ c.if-go_again.false in
    let worst = c.worst-error.ensures
    ∙ ap (worst_error own.error) (c.worst.ensures ∙ ap (λ (k : KidsUnderWay). worst_of (map (λ (x : Child). x.error) (finished_in k))) c.kids.ensures) in
    record {
      closed = Finished r.waiting c.worst-error.result own;
      is = c.sealed.ensures;
      own_is = refl;
      decides = keeps_finished r own.error c.worst-error.result c.bits_over-bits.result c.bits_over-bits.ensures none worst;
      closes = λ t st h o. closes_finished t r st h own r.waiting c.bits_over-bits.result c.worst-error.result c.requires o refl
          c.bits_over-bits.ensures none worst;
      list = refl;
    }
