use Rattle.zio_stages.specs.RequestWrites.{IsWrite}
use Rattle.zio_nodes.proofs.KidMarks.{over_own}
use Rattle.zio_nodes.proofs.WriteHears.{left_more, own_write, stands_far, write_kept}
use Rattle.zio_nodes.proofs.PassLemmas.{write_in_pass}
use Rattle.zio_nodes.proofs.request_at.RequestAt.arrive_member_ready.Goals as goal

pub arrive_member_ready-requires-clause-write : goal.arrive_member_ready-requires-clause-write
arrive_member_ready-requires-clause-write c =
    let k = c.requires.gang in
    own_write k.terms c.args.self.now.node k.stack k.is c.requires.kind (c.other_children_show_own_work.ensures.early c.args.self.now.node c.args.child k)

pub returns-clause-gave : goal.returns-clause-gave
returns-clause-gave c =
    let r = c.args.self.now.node in
    let k = c.requires.gang in
    let write : IsWrite r.own = own_write k.terms r k.stack k.is c.requires.kind (c.other_children_show_own_work.ensures.early r c.args.child k) in
    write_kept r c.arrive_member_ready.new.self c.requires.kind c.arrive_member_ready.ensures.rest write c.arrive_member_ready.ensures.write

pub returns-clause-over : goal.returns-clause-over
returns-clause-over c = λ tops h.
    let r = c.args.self.now.node in
    let now = c.arrive_member_ready.new.self in
    let k = c.requires.gang in
    let write : IsWrite r.own = own_write k.terms r k.stack k.is c.requires.kind (c.other_children_show_own_work.ensures.early r c.args.child k) in
    record {
      over = over_own tops r now now.family c.arrive_member_ready.ensures.rest h.over (c.arrive_member_ready.ensures.over tops h.over.own);
      stands = stands_far tops c.args.self.now.stage c.args.self.now.is_due c.args.self.now.is_due r now c.requires.kind c.arrive_member_ready.ensures.rest
          (record {
            write = write;
            keeps = c.arrive_member_ready.ensures.keeps;
            still = λ due. due;
            more = λ never more. (never, c.arrive_member_ready.ensures.more tops more);
          }) h.stands;
    }

pub returns-clause-left : goal.returns-clause-left
returns-clause-left c =
    let r = c.args.self.now.node in
    let k = c.requires.gang in
    let write : IsWrite r.own = own_write k.terms r k.stack k.is c.requires.kind (c.other_children_show_own_work.ensures.early r c.args.child k) in
    left_more c.args.self.now.stage c.args.self.now.is_due c.args.self.now.is_due r c.arrive_member_ready.new.self c.requires.kind
    c.arrive_member_ready.ensures.rest write c.arrive_member_ready.ensures.same

pub returns-clause-pass : goal.returns-clause-pass
returns-clause-pass c =
    let r = c.args.self.now.node in
    let k = c.requires.gang in
    let write : IsWrite r.own = own_write k.terms r k.stack k.is c.requires.kind (c.other_children_show_own_work.ensures.early r c.args.child k) in
    write_in_pass _ _ r.own c.arrive_member_ready.new.self.own write c.arrive_member_ready.ensures.write c.arrive_member_ready.ensures.same.second
