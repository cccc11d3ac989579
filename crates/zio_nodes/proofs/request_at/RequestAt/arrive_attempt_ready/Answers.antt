use Rattle.std.proofs.Common.{ap, length, refl, subst, sym, ◌∙◌}
use Rattle.std.specs.List.{AllByRecursion}
use Rattle.zio_children.specs.RequestKids.{KidsUnderWay, state_set}
use Rattle.zio_children.specs.declared.kids.KidState.TheVariants.{Out, Told}
use Rattle.zio_stages.specs.KidLists.{AreMarked}
use Rattle.zio_stages.specs.KidTrees.{trees_left}
use Rattle.zio_nodes.specs.TreeAts.{IsTreeOver}
use Rattle.zio_nodes.proofs.KidMarks.{count_set, marked_same, over_heard}
use Rattle.zio_nodes.proofs.RequestStill.{gave_still, left_still, stands_still, still_going}
use Rattle.zio_stages.specs.declared.request_node.RequestNode.{RequestNode}
use Rattle.zio_nodes.specs.StageMoves.{is_second_of}
use Rattle.zio_nodes.proofs.request_at.RequestAt.arrive_attempt_ready.Goals as goal

pub arrive_ready-requires : goal.arrive_ready-requires
arrive_ready-requires c = c.logical_children_are_attempts.ensures.early c.args.self.now.node c.args.child c.requires.logical

pub returns-clause-heard : goal.returns-clause-heard
returns-clause-heard c = λ t st d h. c.arrive_ready.ensures.told t st d h.is h.there

pub returns-clause-gave : goal.returns-clause-gave
returns-clause-gave c = gave_still c.args.self.now.node c.arrive_ready.new.self c.arrive_ready.ensures.rest

pub returns-clause-over : goal.returns-clause-over
returns-clause-over c = λ tops h.
    let r = c.args.self.now.node in
    let now = c.arrive_ready.new.self in
    let at = c.logical_children_are_attempts.ensures.early r c.args.child c.requires.logical in
    let kids = c.arrive_ready.ensures.kids at.place at.seat in
    let holds = c.arrive_ready.ensures.holds in
    record {
      over = over_heard tops r now at.place Out (Told c.args.pointer) c.arrive_ready.ensures.rest h.over (c.arrive_ready.ensures.over tops h.over.own) kids
          at.state
          (λ e. absurd (cc)) (λ e. absurd (cc)) (subst (AllByRecursion (IsTreeOver tops)) (sym holds.due) h.over.due)
          (subst (λ again. AllByRecursion (IsTreeOver tops) (trees_left again)) (sym holds.again) h.over.again)
          (subst (λ again. AreMarked (state_set r.kids.kids.kids at.place (Told c.args.pointer)) again) (sym holds.again)
          (marked_same r.kids.kids.kids r.kids.again at.place Out (Told c.args.pointer) at.state refl h.over.marked))
          (c.arrive_ready.ensures.valid c.requires.valid h.over.pointers);
      stands = stands_still tops c.args.self.now.stage c.args.self.now.is_due r now c.arrive_ready.ensures.rest (ap (λ (x : KidsUnderWay). x.handed) kids)
          (ap (λ (x : KidsUnderWay). length x.kids) kids ∙ count_set r.kids.kids.kids at.place (Told c.args.pointer))
          (still_going r.kids.kids.kids at.place Out at.state refl) h.stands;
    }

pub returns-clause-left : goal.returns-clause-left
returns-clause-left c =
    left_still c.args.self.now.stage c.args.self.now.is_due c.args.self.now.node c.arrive_ready.new.self c.arrive_ready.ensures.rest
    c.arrive_ready.ensures.holds.due

pub returns-clause-pass : goal.returns-clause-pass
returns-clause-pass c = ap (λ (r : RequestNode). is_second_of r.own) c.arrive_ready.ensures.rest
