use Rattle.std.proofs.Common.{inl, inr, refl, subst, true}
use Rattle.zio_stages.specs.RequestWrites.{IsWrite}
use Rattle.zio_nodes.specs.RequestHears.{IsOwnOutcome}
use Rattle.zio_nodes.proofs.KidMarks.{over_own}
use Rattle.zio_nodes.proofs.WriteHears.{hears_own, left_more, never_walked, own_write, stands_far, write_kept}
use Rattle.zio_nodes.proofs.PassLemmas.{write_in_pass}
use Rattle.zio_nodes.proofs.request_at.RequestAt.arrive_written.Goals as goal

pub arrive_stored-requires-clause-write : goal.arrive_stored-requires-clause-write
arrive_stored-requires-clause-write c =
    let r = c.args.self.now.node in
    let k = hears_own c.args.tops.now c.args.self.now c.args.child c.args.outcome c.requires.own c.requires.awaited in
    own_write k.terms r k.stack k.is c.requires.kind (c.other_children_show_own_work.ensures.value r c.args.child k)

pub arrive_leaf_write-requires-clause-write : goal.arrive_leaf_write-requires-clause-write
arrive_leaf_write-requires-clause-write c =
    let r = c.args.self.now.node in
    let k = hears_own c.args.tops.now c.args.self.now c.args.child c.args.outcome c.requires.own c.requires.awaited in
    own_write k.terms r k.stack k.is c.requires.kind (c.other_children_show_own_work.ensures.value r c.args.child k)

pub unreachable-requires : goal.unreachable-requires
unreachable-requires c =
    let r = c.args.self.now.node in
    let k = hears_own c.args.tops.now c.args.self.now c.args.child c.args.outcome c.requires.own c.requires.awaited in
    let write : IsWrite r.own = own_write k.terms r k.stack k.is c.requires.kind (c.other_children_show_own_work.ensures.value r c.args.child k) in
    elim c.in-Finished.is [
      | inl f ↦ subst IsOwnOutcome f.1 c.requires.own
      | inr rest ↦ elim rest [
        | inl a ↦ subst IsOwnOutcome a.3 c.requires.own
        | inr w ↦ never_walked c.args.tops.now c.args.self.now c.args.child c.args.outcome c.requires.awaited write w.0 w.1
      ]
    ]

pub returns-in-Stored-clause-gave : goal.returns-in-Stored-clause-gave
returns-in-Stored-clause-gave c =
    let r = c.args.self.now.node in
    let k = hears_own c.args.tops.now c.args.self.now c.args.child c.args.outcome c.requires.own c.requires.awaited in
    let write : IsWrite r.own = own_write k.terms r k.stack k.is c.requires.kind (c.other_children_show_own_work.ensures.value r c.args.child k) in
    write_kept r c.arrive_stored.new.self c.requires.kind c.arrive_stored.ensures.rest write c.arrive_stored.ensures.write

pub returns-in-Stored-clause-over_still : goal.returns-in-Stored-clause-over_still
returns-in-Stored-clause-over_still c =
    let r = c.args.self.now.node in
    let tops = c.args.tops.now in
    let now = c.arrive_stored.new.self in
    let k = hears_own tops c.args.self.now c.args.child c.args.outcome c.requires.own c.requires.awaited in
    let write : IsWrite r.own = own_write k.terms r k.stack k.is c.requires.kind (c.other_children_show_own_work.ensures.value r c.args.child k) in
    let h = c.requires.over in
    record {
      over = over_own tops r now now.family c.arrive_stored.ensures.rest h.over (c.arrive_stored.ensures.over tops h.over.own);
      stands = stands_far tops c.args.self.now.stage c.args.self.now.is_due c.args.self.now.is_due r now c.requires.kind c.arrive_stored.ensures.rest
          (record {
            write = write;
            keeps = c.arrive_stored.ensures.keeps;
            still = λ due. due;
            more = λ never more. (never, c.arrive_stored.ensures.more tops more);
          }) h.stands;
    }

pub returns-in-Stored-clause-left : goal.returns-in-Stored-clause-left
returns-in-Stored-clause-left c =
    let r = c.args.self.now.node in
    let k = hears_own c.args.tops.now c.args.self.now c.args.child c.args.outcome c.requires.own c.requires.awaited in
    let write : IsWrite r.own = own_write k.terms r k.stack k.is c.requires.kind (c.other_children_show_own_work.ensures.value r c.args.child k) in
    left_more c.args.self.now.stage c.args.self.now.is_due c.args.self.now.is_due r c.arrive_stored.new.self c.requires.kind c.arrive_stored.ensures.rest write
    c.arrive_stored.ensures.same

pub returns-in-Found-clause-gave : goal.returns-in-Found-clause-gave
returns-in-Found-clause-gave c =
    let r = c.args.self.now.node in
    let k = hears_own c.args.tops.now c.args.self.now c.args.child c.args.outcome c.requires.own c.requires.awaited in
    let write : IsWrite r.own = own_write k.terms r k.stack k.is c.requires.kind (c.other_children_show_own_work.ensures.value r c.args.child k) in
    write_kept r c.arrive_leaf_write.new.self c.requires.kind c.arrive_leaf_write.ensures.rest write c.arrive_leaf_write.ensures.write

pub returns-in-Found-clause-over_still : goal.returns-in-Found-clause-over_still
returns-in-Found-clause-over_still c =
    let r = c.args.self.now.node in
    let tops = c.args.tops.now in
    let now = c.arrive_leaf_write.new.self in
    let k = hears_own tops c.args.self.now c.args.child c.args.outcome c.requires.own c.requires.awaited in
    let write : IsWrite r.own = own_write k.terms r k.stack k.is c.requires.kind (c.other_children_show_own_work.ensures.value r c.args.child k) in
    let h = c.requires.over in
    record {
      over = over_own tops r now now.family c.arrive_leaf_write.ensures.rest h.over (c.arrive_leaf_write.ensures.over tops h.over.own);
      stands = stands_far tops c.args.self.now.stage c.args.self.now.is_due true r now c.requires.kind c.arrive_leaf_write.ensures.rest
          (record {
            write = write;
            keeps = c.arrive_leaf_write.ensures.keeps;
            still = λ due. refl;
            more = λ never more. absurd (cc);
          }) h.stands;
    }

pub returns-in-Found-clause-left : goal.returns-in-Found-clause-left
returns-in-Found-clause-left c =
    let r = c.args.self.now.node in
    let k = hears_own c.args.tops.now c.args.self.now c.args.child c.args.outcome c.requires.own c.requires.awaited in
    let write : IsWrite r.own = own_write k.terms r k.stack k.is c.requires.kind (c.other_children_show_own_work.ensures.value r c.args.child k) in
    left_more c.args.self.now.stage c.args.self.now.is_due true r c.arrive_leaf_write.new.self c.requires.kind c.arrive_leaf_write.ensures.rest write
    c.arrive_leaf_write.ensures.same

pub returns-in-Stored-clause-pass : goal.returns-in-Stored-clause-pass
returns-in-Stored-clause-pass c =
    let r = c.args.self.now.node in
    let k = hears_own c.args.tops.now c.args.self.now c.args.child c.args.outcome c.requires.own c.requires.awaited in
    let write : IsWrite r.own = own_write k.terms r k.stack k.is c.requires.kind (c.other_children_show_own_work.ensures.value r c.args.child k) in
    write_in_pass _ _ r.own c.arrive_stored.new.self.own write c.arrive_stored.ensures.write c.arrive_stored.ensures.same.second

pub returns-in-Found-clause-pass : goal.returns-in-Found-clause-pass
returns-in-Found-clause-pass c =
    let r = c.args.self.now.node in
    let k = hears_own c.args.tops.now c.args.self.now c.args.child c.args.outcome c.requires.own c.requires.awaited in
    let write : IsWrite r.own = own_write k.terms r k.stack k.is c.requires.kind (c.other_children_show_own_work.ensures.value r c.args.child k) in
    write_in_pass _ _ r.own c.arrive_leaf_write.new.self.own write c.arrive_leaf_write.ensures.write c.arrive_leaf_write.ensures.same.second
