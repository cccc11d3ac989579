use Rattle.std.proofs.Common.{◌≡◌, ◌<◌, ◌≤◌, ◌∙◌, sym, ap, subst, length, arith}
use Rattle.zio_children.specs.RequestKids.{AreHanded, KidsUnderWay}
use Rattle.zio_children.proofs.KidFields.{fit_length, handed_most}
use Rattle.zio_children.proofs.KidPlans.{next_kid}
use Rattle.zio_children.proofs.kids.Kids.next.Goals as goal

pub returns-then-self-len : goal.returns-then-self-len
returns-then-self-len c =
    let x = c.self.inside in
    let y = c.args.self.now in
    let handed : AreHanded y.handed y.kids = subst (λ (z : KidsUnderWay). AreHanded z.handed z.kids) c.self.view_is c.self.invariant.are_handed in
    let same : x.handed ≡ y.handed = ap (λ (z : KidsUnderWay). z.handed) c.self.view_is in
    let count : c.len.result ≡ length y.kids = c.len.ensures ∙ x.kids.ok.0 ∙ ap (λ (z : KidsUnderWay). length z.kids) c.self.view_is in
    let less : x.handed < c.len.result = c.if-self-len.true in
    (same, omega arith, λ slots attempt forest p below f fit at. next_kid slots x.handed attempt forest p below f (fit_length y.handed y.kids slots handed fit ∙ sym same) at)

pub returns-else-self-len : goal.returns-else-self-len
returns-else-self-len c =
    let x = c.self.inside in
    let y = c.args.self.now in
    let handed : AreHanded y.handed y.kids = subst (λ (z : KidsUnderWay). AreHanded z.handed z.kids) c.self.view_is c.self.invariant.are_handed in
    let same : x.handed ≡ y.handed = ap (λ (z : KidsUnderWay). z.handed) c.self.view_is in
    let count : c.len.result ≡ length y.kids = c.len.ensures ∙ x.kids.ok.0 ∙ ap (λ (z : KidsUnderWay). length z.kids) c.self.view_is in
    let most : y.handed ≤ length y.kids = handed_most y.handed y.kids handed in
    let more = c.if-self-len.false in
    let all : y.handed ≡ length y.kids = omega (arith, more) in
    (all, λ slots fit. fit_length y.handed y.kids slots handed fit ∙ all)
