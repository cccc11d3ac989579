use Rattle.std.proofs.Common.{None, Some, ap, inr, length, refl, subst, sym, ◌∙◌}
use Rattle.std.specs.List.{AllByRecursion}
use Rattle.zio_trace.specs.Tasks.{Task, Value}
use Rattle.zio_children.specs.RequestKids.{KidsUnderWay, state_set}
use Rattle.zio_children.specs.declared.kids.KidState.TheVariants.{Ended, Told}
use Rattle.zio_frames.specs.Moves.{heard_of}
use Rattle.zio_stages.specs.KidLists.{AreMarked}
use Rattle.zio_stages.specs.KidTrees.{trees_left}
use Rattle.zio_stages.specs.RequestNodes.{IsRequestNode}
use Rattle.zio_nodes.specs.TreeAts.{IsTreeOver}
use Rattle.zio_nodes.proofs.AttemptHears.{hears_again, kid_out, kid_told, left_root}
use Rattle.zio_nodes.proofs.KidMarks.{all_left_set, count_set, marked_left, over_heard}
use Rattle.zio_nodes.proofs.RequestStill.{gave_still, left_still, stands_still, still_going}
use Rattle.zio_stages.specs.declared.request_node.RequestNode.{RequestNode}
use Rattle.zio_nodes.specs.StageMoves.{is_second_of}
use Rattle.zio_nodes.proofs.request_at.RequestAt.arrive_again.Goals as goal

pub arrive_again-requires-clause-out : goal.arrive_again-requires-clause-out
arrive_again-requires-clause-out c =
    let k = c.requires.1 in
    let x = hears_again k.terms c.requires.0 c.args.self.now k.stack c.args.child k.child k.op c.args.whole c.args.bits c.args.pointer k.value
    (c.logical_children_are_attempts.ensures.told c.args.self.now.node c.args.child) k.hears in
    kid_out c.args.self.now.node c.args.child k.op c.args.pointer x.one.return.child.pointer x.same x.told

pub arrive_again-requires-clause-bits : goal.arrive_again-requires-clause-bits
arrive_again-requires-clause-bits c =
    let k = c.requires.1 in
    let x = hears_again k.terms c.requires.0 c.args.self.now k.stack c.args.child k.child k.op c.args.whole c.args.bits c.args.pointer k.value
    (c.logical_children_are_attempts.ensures.told c.args.self.now.node c.args.child) k.hears in
    x.left.some

pub arrive_again-requires-clause-root : goal.arrive_again-requires-clause-root
arrive_again-requires-clause-root c = λ place seat.
    let k = c.requires.1 in
    let x = hears_again k.terms c.requires.0 c.args.self.now k.stack c.args.child k.child k.op c.args.whole c.args.bits c.args.pointer k.value
    (c.logical_children_are_attempts.ensures.told c.args.self.now.node c.args.child) k.hears in
    left_root c.args.self.now.node c.args.child k.op x.one c.args.whole c.args.bits c.args.pointer x.one.return.child.pointer x.told x.number x.left place seat

pub returns-clause-heard : goal.returns-clause-heard
returns-clause-heard c = λ tops t st d op v h.
    let r = c.args.self.now.node in
    let x = hears_again t tops c.args.self.now st c.args.child d op c.args.whole c.args.bits c.args.pointer v
    (c.logical_children_are_attempts.ensures.told r c.args.child) h in
    subst (λ (u : Value). IsRequestNode t c.arrive_again.new.self (heard_of st c.args.child d u)) (sym x.value)
    (c.arrive_again.ensures.heard t st d x.told.root x.told.below x.one h.now.is h.there (h.asked ∙ ap (λ (q : Task). Some q) x.told.is) x.by x.left.left)

pub returns-clause-gave : goal.returns-clause-gave
returns-clause-gave c = gave_still c.args.self.now.node c.arrive_again.new.self c.arrive_again.ensures.rest

pub returns-clause-over : goal.returns-clause-over
returns-clause-over c = λ tops inside h.
    let r = c.args.self.now.node in
    let now = c.arrive_again.new.self in
    let k = c.requires.1 in
    let x = hears_again k.terms c.requires.0 c.args.self.now k.stack c.args.child k.child k.op c.args.whole c.args.bits c.args.pointer k.value
    (c.logical_children_are_attempts.ensures.told r c.args.child) k.hears in
    let place = x.told.place in
    let kids = c.arrive_again.ensures.kids place x.told.seat in
    let left = c.arrive_again.ensures.left place x.told.seat in
    let out = kid_told r c.args.child k.op c.args.pointer x.one.return.child.pointer x.same x.told in
    record {
      over = over_heard tops r now place (Told x.one.return.child.pointer) (Ended c.args.bits None c.args.pointer) c.arrive_again.ensures.rest h.over
          (c.arrive_again.ensures.over tops h.over.own) kids x.told.state (λ e. absurd (cc)) (λ e. absurd (cc))
          (subst (AllByRecursion (IsTreeOver tops)) (sym c.arrive_again.ensures.due) h.over.due)
          (subst (λ again. AllByRecursion (IsTreeOver tops) (trees_left again)) (sym left)
          (all_left_set (IsTreeOver tops) r.kids.again place c.args.whole inside h.over.again))
          (subst (λ again. AreMarked (state_set r.kids.kids.kids place (Ended c.args.bits None c.args.pointer)) again) (sym left)
          (marked_left r.kids.kids.kids r.kids.again place (Ended c.args.bits None c.args.pointer) c.args.whole x.left.some h.over.marked))
          (c.arrive_again.ensures.valid (inr out) h.over.pointers);
      stands = stands_still tops c.args.self.now.stage c.args.self.now.is_due r now c.arrive_again.ensures.rest (ap (λ (y : KidsUnderWay). y.handed) kids)
          (ap (λ (y : KidsUnderWay). length y.kids) kids ∙ count_set r.kids.kids.kids place (Ended c.args.bits None c.args.pointer))
          (still_going r.kids.kids.kids place (Told x.one.return.child.pointer) x.told.state refl) h.stands;
    }

pub returns-clause-left : goal.returns-clause-left
returns-clause-left c =
    left_still c.args.self.now.stage c.args.self.now.is_due c.args.self.now.node c.arrive_again.new.self c.arrive_again.ensures.rest c.arrive_again.ensures.due

pub returns-clause-pass : goal.returns-clause-pass
returns-clause-pass c = ap (λ (r : RequestNode). is_second_of r.own) c.arrive_again.ensures.rest
