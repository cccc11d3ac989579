use Rattle.std.proofs.Common.{◌≡◌, ◌<◌, ◌∷◌, ◌++◌, [], ◌∙◌, List, length, sym, ap, subst}
use Rattle.zio_types.specs.declared.request.ChildKind.TheVariants.{Logical}
use Rattle.zio_children.specs.RequestKids.{KidsUnderWay}
use Rattle.zio_frames.specs.Frames.{Child, OfOuter}
use Rattle.zio_exchange.specs.declared.waiting.UnfinishedRequest.{UnfinishedRequest}
use Rattle.zio_stages.specs.KidLists.{HoldsBut}
use Rattle.zio_stages.specs.KidPointers.{HaveValidPointers}
use Rattle.zio_stages.specs.NodeChildren.{new_child, seat_of}
use Rattle.zio_stages.specs.RequestNodes.{HandsKid}
use Rattle.zio_stages.specs.declared.family.Seat.{Seat}
use Rattle.zio_stages.specs.declared.family.Seat.TheVariants.{Outer}
use Rattle.zio_stages.proofs.KidPointerLemmas.{valid_handed}
use Rattle.zio_stages.proofs.RequestNodeLemmas.{hands_kid, with_kids}
use Rattle.zio_stages.proofs.RequestOver.{SameWithin, own_same, same_added}
use Rattle.zio_stages.proofs.request_node.RequestNode.start.Goals as goal

pub returns-clause-child : goal.returns-clause-child
returns-clause-child c = λ number whole e t st seated h.
    let r = c.args.self.now in
    let same : c.in_ok-number.number ≡ number = cc in
    let tree : c.hand_out-whole.result ≡ whole = cc in
    let there : Outer c.in-Child.place ≡ Outer r.kids.kids.handed = ap (λ n. Outer n) c.in-Child.ensures.0 in
    let family : c.add.new.self ≡ r.family ++ new_child (OfOuter r.kids.kids.handed) Logical ∷ [] =
    c.in_ok-number.ensures.ok ∙ ap (λ (s : Seat). r.family ++ new_child (seat_of s) Logical ∷ []) there in
    let kept = ap (λ (k : KidsUnderWay). k.kept) c.hand_out-whole.ensures.kids in (
      sym same ∙ c.in_ok-number.ensures.number ∙ ap (λ (cs : List Child). length cs) h.family,
      subst (λ (ws : List UnfinishedRequest). HandsKid t (with_kids r c.hand_out-whole.new.self c.add.new.self) ws st) tree
          (hands_kid t r c.hand_out-whole.new.self c.add.new.self c.hand_out-whole.result st h
          (subst (λ n. n < length r.kids.kids.kids) c.in-Child.ensures.0 c.in-Child.ensures.1)
          (c.hand_out-whole.ensures.asks r.attempt h.forest h.kid_asked h.kid_slots h.kids) kept family),
    )

pub returns-clause-over : goal.returns-clause-over
returns-clause-over c = λ tops over.
    let r = c.args.self.now in
    let there : Outer c.in-Child.place ≡ Outer r.kids.kids.handed = ap (λ n. Outer n) c.in-Child.ensures.0 in
    let family : c.add.new.self ≡ r.family ++ new_child (OfOuter r.kids.kids.handed) Logical ∷ [] =
    c.in_ok-number.ensures.ok ∙ ap (λ (s : Seat). r.family ++ new_child (seat_of s) Logical ∷ []) there in
    own_same tops r.own r.family c.add.new.self
    (subst (SameWithin r.family) (sym family) (same_added r.family r.kids.kids.handed Logical)) over

pub returns-clause-valid : goal.returns-clause-valid
returns-clause-valid c = λ h.
    subst HaveValidPointers (sym c.hand_out-whole.ensures.kids) (valid_handed c.args.self.now.kids.kids h)

pub returns-clause-holds : goal.returns-clause-holds
returns-clause-holds c = λ number whole e.
    let tree : c.hand_out-whole.result ≡ whole = cc in
    subst (λ (ws : List UnfinishedRequest). HoldsBut ws c.args.self.now.kids c.hand_out-whole.new.self) tree c.hand_out-whole.ensures.holds

pub returns-clause-less : goal.returns-clause-less
returns-clause-less c = λ number whole e.
    subst (λ n. n < length c.args.self.now.kids.kids.kids) c.in-Child.ensures.0 c.in-Child.ensures.1
