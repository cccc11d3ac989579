use Rattle.std.proofs.Common.{Some, ap, inr, length, refl, subst, sym, ◌∙◌}
use Rattle.std.specs.List.{AllByRecursion}
use Rattle.zio_gang.specs.Attempts.{no_bits}
use Rattle.zio_trace.specs.Tasks.{Task, Value}
use Rattle.zio_children.specs.RequestKids.{IsLeftBy, KidsUnderWay, state_set}
use Rattle.zio_children.specs.declared.kids.KidState.TheVariants.{Ended, Told}
use Rattle.zio_frames.specs.Moves.{heard_of}
use Rattle.zio_stages.specs.KidLists.{AreMarked}
use Rattle.zio_stages.specs.KidTrees.{trees_left}
use Rattle.zio_stages.specs.RequestNodes.{IsRequestNode}
use Rattle.zio_nodes.specs.TreeAts.{IsTreeOver}
use Rattle.zio_nodes.proofs.AttemptHears.{hears_finished, kid_out, kid_told}
use Rattle.zio_nodes.proofs.KidMarks.{count_set, marked_same, over_heard}
use Rattle.zio_nodes.proofs.RequestStill.{gave_still, left_still, stands_still, still_going}
use Rattle.zio_stages.specs.declared.request_node.RequestNode.{RequestNode}
use Rattle.zio_nodes.specs.StageMoves.{is_second_of}
use Rattle.zio_nodes.proofs.request_at.RequestAt.arrive_finished.Goals as goal

pub arrive_finished-requires : goal.arrive_finished-requires
arrive_finished-requires c =
    let k = c.requires.1 in
    let x = hears_finished k.terms c.requires.0 c.args.self.now k.stack c.args.child k.child k.op c.args.finished.now k.value
    (c.logical_children_are_attempts.ensures.told c.args.self.now.node c.args.child) k.hears in
    kid_out c.args.self.now.node c.args.child k.op c.pointer.result x.one.return.child.pointer (x.pointer ∙ sym c.pointer.ensures) x.told

pub returns-clause-heard : goal.returns-clause-heard
returns-clause-heard c = λ tops t st d op v h.
    let r = c.args.self.now.node in
    let x = hears_finished t tops c.args.self.now st c.args.child d op c.args.finished.now v (c.logical_children_are_attempts.ensures.told r c.args.child) h in
    subst (λ (u : Value). IsRequestNode t c.arrive_finished.new.self (heard_of st c.args.child d u)) (sym x.value)
    (c.arrive_finished.ensures.heard t st d x.told.root x.told.below x.one h.now.is h.there (h.asked ∙ ap (λ (q : Task). Some q) x.told.is)
    (subst (λ e. IsLeftBy x.one x.told.root.request.number no_bits e c.pointer.result) (sym c.error.ensures)
    (subst (IsLeftBy x.one x.told.root.request.number no_bits c.args.finished.now.error) (sym c.pointer.ensures) x.by)) x.left.again x.left.left)

pub returns-clause-gave : goal.returns-clause-gave
returns-clause-gave c = gave_still c.args.self.now.node c.arrive_finished.new.self c.arrive_finished.ensures.rest

pub returns-clause-over : goal.returns-clause-over
returns-clause-over c = λ tops h.
    let r = c.args.self.now.node in
    let now = c.arrive_finished.new.self in
    let k = c.requires.1 in
    let x = hears_finished k.terms c.requires.0 c.args.self.now k.stack c.args.child k.child k.op c.args.finished.now k.value
    (c.logical_children_are_attempts.ensures.told r c.args.child) k.hears in
    let place = x.told.place in
    let kids = c.arrive_finished.ensures.kids place x.told.seat in
    let holds = c.arrive_finished.ensures.holds in
    let out = kid_told r c.args.child k.op c.pointer.result x.one.return.child.pointer (x.pointer ∙ sym c.pointer.ensures) x.told in
    record {
      over = over_heard tops r now place (Told x.one.return.child.pointer) (Ended no_bits c.error.result c.pointer.result) c.arrive_finished.ensures.rest h.over
          (c.arrive_finished.ensures.over tops h.over.own) kids x.told.state (λ e. absurd (cc)) (λ e. absurd (cc))
          (subst (AllByRecursion (IsTreeOver tops)) (sym holds.due) h.over.due)
          (subst (λ again. AllByRecursion (IsTreeOver tops) (trees_left again)) (sym holds.again) h.over.again)
          (subst (λ again. AreMarked (state_set r.kids.kids.kids place (Ended no_bits c.error.result c.pointer.result)) again) (sym holds.again)
          (marked_same r.kids.kids.kids r.kids.again place (Told x.one.return.child.pointer) (Ended no_bits c.error.result c.pointer.result) x.told.state refl
          h.over.marked))
          (c.arrive_finished.ensures.valid (inr out) h.over.pointers);
      stands = stands_still tops c.args.self.now.stage c.args.self.now.is_due r now c.arrive_finished.ensures.rest (ap (λ (y : KidsUnderWay). y.handed) kids)
          (ap (λ (y : KidsUnderWay). length y.kids) kids ∙ count_set r.kids.kids.kids place (Ended no_bits c.error.result c.pointer.result))
          (still_going r.kids.kids.kids place (Told x.one.return.child.pointer) x.told.state refl) h.stands;
    }

pub returns-clause-left : goal.returns-clause-left
returns-clause-left c =
    left_still c.args.self.now.stage c.args.self.now.is_due c.args.self.now.node c.arrive_finished.new.self c.arrive_finished.ensures.rest
    c.arrive_finished.ensures.holds.due

pub returns-clause-pass : goal.returns-clause-pass
returns-clause-pass c = ap (λ (r : RequestNode). is_second_of r.own) c.arrive_finished.ensures.rest
