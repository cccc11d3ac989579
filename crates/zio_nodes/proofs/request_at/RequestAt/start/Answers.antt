use Rattle.std.proofs.Common.{◌≡◌, ◌≤◌, ◌<◌, ◌*◌, ◌-◌, List, [], Ok, ap, arith, length, refl, subst, sym, true, ◌∙◌, inl}
use Rattle.zio_types.specs.declared.request.ChildKind.TheVariants.{Logical}
use Rattle.zio_masks.specs.declared.stage.Stage.{Stage}
use Rattle.zio_masks.specs.declared.stage.Stage.TheVariants.{Start as StartStage}
use Rattle.zio_trace.specs.Tasks.{Attempt, Task}
use Rattle.zio_frames.specs.Frames.{fresh_stack}
use Rattle.zio_exchange.specs.declared.waiting.UnfinishedRequest.{UnfinishedRequest}
use Rattle.zio_stages.specs.RequestKinds.{has_gang_stages}
use Rattle.zio_stages.specs.RequestNodes.{IsRequestNode}
use Rattle.zio_stages.specs.declared.request_node.RequestNode.{RequestNode}
use Rattle.zio_stages.specs.declared.request_node.Start.{Start}
use Rattle.zio_stages.specs.declared.request_node.Start.TheVariants.{AllOut, Child}
use Rattle.zio_nodes.specs.RequestAts.{IsRequestOver, is_kept}
use Rattle.zio_nodes.specs.RequestBounds.{own_at, own_left, own_max, request_share}
use Rattle.zio_nodes.specs.StageMoves.{grows_at}
use Rattle.zio_nodes.specs.Told.{is_told}
use Rattle.zio_nodes.specs.TreeAts.{IsTreeAt}
use Rattle.zio_nodes.specs.declared.node.Node.TheVariants.{Tree}
use Rattle.zio_nodes.specs.declared.request_at.RequestAt.{RequestAt}
use Rattle.zio_nodes.proofs.FirstStages.{first_kept, first_of, first_stage, has_done}
use Rattle.zio_nodes.proofs.KidMarks.{over_handed}
use Rattle.zio_nodes.proofs.RequestBoundLemmas.{first_less, same_due_less}
use Rattle.zio_nodes.proofs.RequestMoves.{no_room, request_goes, request_grows}
use Rattle.zio_nodes.proofs.RequestStill.{gave_still}
use Rattle.zio_nodes.proofs.StartLemmas.{first_stands, first_told, kid_grows, some_root, start_due, start_stays}
use Rattle.zio_nodes.proofs.TreeAtLemmas.{hands_less}
use Rattle.zio_nodes.proofs.StageLeads.{gang_of, mask_leads}
use Rattle.zio_nodes.proofs.StageAllows.{starts_not}
use Rattle.zio_nodes.proofs.request_at.RequestAt.start.Goals as goal

pub returns-in-Ok-Child-clause-moves : goal.returns-in-Ok-Child-clause-moves
returns-in-Ok-Child-clause-moves c = λ tops t st now.
    let r = c.args.self.now.node in
    let new = c.start.new.self in
    let ok : c.start.result ≡ Ok (Child c.in-Ok-Child.field-0-0 c.in-Ok-Child.whole) = c.in-Ok-Child.is ∙ ap (λ (s : Start). Ok s) c.in-Ok-Child.field-0-is in
    let hands = (c.start.ensures.child c.in-Ok-Child.field-0-0 c.in-Ok-Child.whole ok t st now.seated now.is).1 in
    let due = start_due c.requires.over.0 c.args.self.now.stage c.args.self.now.is_due r c.requires.stage c.requires.over.1.stands in
    let rest = c.start.ensures.rest in
    request_grows t st c.args.self.now _ (Tree c.new-child.result) Logical (λ (op : Task). IsTreeAt t c.new-child.result (fresh_stack op)) []
    (kid_grows t st r new c.new-child.result c.in-Ok-Child.whole now.is due hands
    (λ p forest tree. subst (λ n. IsTreeAt t c.new-child.result (fresh_stack (Attempt n p forest))) c.attempt.ensures
    (c.new-child.ensures.fresh t p forest (now.is.round ∙ sym (ap (λ (x : RequestNode). x.round) rest) ∙ sym c.round.ensures)
    (now.is.failmode ∙ sym (ap (λ (x : RequestNode). x.failmode) rest) ∙ sym c.failmode.ensures) tree)))
    (λ op is. is) (λ needs. refl) refl refl (gave_still r new rest)

pub returns-in-Ok-Child-clause-over : goal.returns-in-Ok-Child-clause-over
returns-in-Ok-Child-clause-over c = λ tops h.
    let r = c.args.self.now.node in
    let new = c.start.new.self in
    let ok : c.start.result ≡ Ok (Child c.in-Ok-Child.field-0-0 c.in-Ok-Child.whole) = c.in-Ok-Child.is ∙ ap (λ (s : Start). Ok s) c.in-Ok-Child.field-0-is in
    let rest = c.start.ensures.rest in
    let both = over_handed tops r new c.in-Ok-Child.whole rest h.over (c.start.ensures.over tops h.over.own)
    (c.start.ensures.handed c.in-Ok-Child.field-0-0 c.in-Ok-Child.whole ok) (c.start.ensures.holds c.in-Ok-Child.field-0-0 c.in-Ok-Child.whole ok)
    (c.start.ensures.less c.in-Ok-Child.field-0-0 c.in-Ok-Child.whole ok) (c.start.ensures.valid h.over.pointers) in
    let at = c.args.self.now in (
      record { over = both.0; stands = start_stays tops at.stage at.is_due r new c.requires.stage (ap (λ (x : RequestNode). x.own) rest) h.stands },
      c.new-child.ensures.over tops both.1,
    )

pub returns-in-Ok-Child-clause-left : goal.returns-in-Ok-Child-clause-left
returns-in-Ok-Child-clause-left c =
    let r = c.args.self.now.node in
    let new = c.start.new.self in
    let ok : c.start.result ≡ Ok (Child c.in-Ok-Child.field-0-0 c.in-Ok-Child.whole) = c.in-Ok-Child.is ∙ ap (λ (s : Start). Ok s) c.in-Ok-Child.field-0-is in
    let holds = c.start.ensures.holds c.in-Ok-Child.field-0-0 c.in-Ok-Child.whole ok in
    let after : RequestAt = record { node = new; stage = c.args.self.now.stage; is_due = c.args.self.now.is_due } in
    let some : 1 ≤ length c.in-Ok-Child.whole = some_root c.in-Ok-Child.whole c.root-root.result.now c.root-root.ensures.root in
    omega (
      arith,
      hands_less r.kids.due new.kids.due c.in-Ok-Child.whole own_max holds.due some,
      ap (λ (ws : List UnfinishedRequest). length ws * request_share - 1) c.new-child.ensures.whole,
      ap (λ (s : Stage). own_at s r.waiting.request.work c.args.self.now) c.requires.stage,
      ap (λ (s : Stage). own_at s new.waiting.request.work after) c.requires.stage,
    )

pub next-self-requires-clause-ends : goal.next-self-requires-clause-ends
next-self-requires-clause-ends c =
    let w = c.args.self.now.node.waiting in
    has_done w.request.work (has_gang_stages w.request.work w.block) c.mask-mask.result c.mask-mask.ensures

pub returns-in-Err-clause-refused : goal.returns-in-Err-clause-refused
returns-in-Err-clause-refused c = λ tops t st now.
    let r = c.args.self.now.node in
    let new = c.start.new.self in
    let same : new ≡ r = c.in-Err.ensures.err in
    request_goes t st c.args.self.now _ (subst (λ (x : RequestNode). IsRequestNode t x st) (sym same) now.is) refl (gave_still r new c.start.ensures.rest)

pub returns-in_err-room-clause-refused : goal.returns-in_err-room-clause-refused
returns-in_err-room-clause-refused c = λ tops. no_room tops c.args.self.now c.from_residual.result

pub returns-in-Ok-Child-clause-stages : goal.returns-in-Ok-Child-clause-stages
returns-in-Ok-Child-clause-stages c =
    let ok : c.start.result ≡ Ok (Child c.in-Ok-Child.field-0-0 c.in-Ok-Child.whole) = c.in-Ok-Child.is ∙ ap (λ (s : Start). Ok s) c.in-Ok-Child.field-0-is in (
      refl,
      ap (λ (s : Stage). grows_at s Logical) c.requires.stage,
      λ there. absurd (starts_not (sym there ∙ c.requires.stage)),
      λ there. c.start.ensures.less c.in-Ok-Child.field-0-0 c.in-Ok-Child.whole ok,
    )

pub returns-then-not-has_child_due-clause-moves : goal.returns-then-not-has_child_due-clause-moves
returns-then-not-has_child_due-clause-moves c = λ tops t st now.
    let r = c.args.self.now.node in
    let next = first_stage r.waiting.request.work r.waiting.block c.mask-mask.result c.next-self.result c.mask-mask.ensures c.next-self.ensures in
    request_goes t st c.args.self.now _ now.is (ap is_told next ∙ first_told r.waiting.request.work ∙ sym (ap is_told c.requires.stage)) refl

pub returns-then-not-has_child_due-clause-over : goal.returns-then-not-has_child_due-clause-over
returns-then-not-has_child_due-clause-over c = λ tops h.
    let r = c.args.self.now.node in
    let next = first_stage r.waiting.request.work r.waiting.block c.mask-mask.result c.next-self.result c.mask-mask.ensures c.next-self.ensures in
    let due = start_due tops c.args.self.now.stage c.args.self.now.is_due r c.requires.stage h.stands in
    record { over = h.over; stands = first_stands tops c.next-self.result r next due (c.has_child_due.ensures.none c.if-not-has_child_due.true) }

pub returns-then-not-has_child_due-clause-left : goal.returns-then-not-has_child_due-clause-left
returns-then-not-has_child_due-clause-left c =
    let r = c.args.self.now.node in
    let next = first_stage r.waiting.request.work r.waiting.block c.mask-mask.result c.next-self.result c.mask-mask.ensures c.next-self.ensures in
    let at : RequestAt = record { node = r; stage = c.next-self.result; is_due = true } in
    let less : own_left at < own_max = first_less at next in
    let was : own_left c.args.self.now ≡ own_max = ap (λ (s : Stage). own_at s r.waiting.request.work c.args.self.now) c.requires.stage in
    same_due_less r.kids.due r.kids.due (own_left at) (own_left c.args.self.now) refl (omega (arith, less, was))

pub returns-then-not-has_child_due-clause-stages : goal.returns-then-not-has_child_due-clause-stages
returns-then-not-has_child_due-clause-stages c =
    let at = c.args.self.now in
    let w = at.node.waiting in
    let next = first_stage w.request.work w.block c.mask-mask.result c.next-self.result c.mask-mask.ensures c.next-self.ensures in
    inl (mask_leads at c.mask-mask.result StartStage c.next-self.result c.requires.stage c.mask-mask.ensures (ap (is_kept (gang_of at)) next ∙ first_kept w.request.work w.block) c.next-self.ensures)

pub unreachable-requires : goal.unreachable-requires
unreachable-requires c =
    let r = c.args.self.now.node in
    let ok : c.start.result ≡ Ok AllOut = c.in-Ok-AllOut.is ∙ ap (λ (s : Start). Ok s) c.in-Ok-AllOut.field-0-is in
    let all : r.kids.kids.handed ≡ length r.kids.kids.kids =
    subst (λ (x : RequestNode). x.kids.kids.handed ≡ length x.kids.kids.kids) (c.start.ensures.same ok) (c.start.ensures.all_out ok) in
    omega (arith, all, c.has_child_due.ensures.due c.if-not-has_child_due.false)
