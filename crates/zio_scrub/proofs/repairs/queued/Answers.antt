use Rattle.std.proofs.Common.{◌≡◌, ◌<◌, ◌≤◌, ◌^◌, ℕ, sym, ap, ◌∙◌, subst, arith, refl, length, ◌+◌}
use Rattle.zio_vqueue.specs.declared.op.Op.{Op}
use Rattle.zio_groups.specs.LeafQueues.{waiting_with}
use Rattle.zio_scrub.specs.declared.repairs.Repair.{Repair}
use Rattle.zio_scrub.specs.Queues.{HaveAll, IsPut}
use Rattle.zio_scrub.specs.Repairs.{IsRepairOf, leaf_of, write_op}
use Rattle.zio_scrub.proofs.ListLemmas.{drop_end, head_of}
use Rattle.zio_scrub.proofs.RepairLemmas.{fits_at, op_fits, op_room, repair_put}
use Rattle.zio_scrub.proofs.WaitLemmas.{fresh_length, have_none}
use Rattle.zio_scrub.proofs.repairs.queued.Goals as goal

pub loop-repair-init : goal.loop-repair-init
loop-repair-init c = record {
  rest = c.into_iter-repair-iterator.ensures.into_iter_gives ∙ c.into_rest-repair-items.ensures;
  within = omega arith;
  have = have_none (IsRepairOf c.args.repairs) (leaf_of c.args.repairs) c.args.leaves c.in_ok-queues.queues.leaves.items c.in_ok-queues.ensures.none;
  order = c.in_ok-queues.ensures.order;
  count = fresh_length c.args.leaves c.in_ok-queues.queues.leaves.items c.in_ok-queues.ensures.none;
}

pub write_op-op-requires : goal.write_op-op-requires
write_op-op-requires c =
    let h = head_of c.args.repairs c.loop-repair.number c.in-Some.repair c.next.new.self (sym c.loop-repair.invariant.rest ∙ c.in-Some.ensures.steps) in
    let f = fits_at c.args.leaves c.args.repairs c.loop-repair.number c.in-Some.repair c.requires.fits h.at in
    subst (λ (r : Repair). r.spot.span < 2 ^ 32) (sym c.repair.view_is) f.queue.small

pub put-requires-clause-there : goal.put-requires-clause-there
put-requires-clause-there c =
    let h = head_of c.args.repairs c.loop-repair.number c.in-Some.repair c.next.new.self (sym c.loop-repair.invariant.rest ∙ c.in-Some.ensures.steps) in
    let f = fits_at c.args.leaves c.args.repairs c.loop-repair.number c.in-Some.repair c.requires.fits h.at in
    let low = f.queue.there in
    let n = c.loop-repair.invariant.count in
    subst (λ (r : Repair). r.spot.leaf < length c.loop-repair.queues.leaves.items) (sym c.repair.view_is) (omega arith)

pub put-requires-clause-fits : goal.put-requires-clause-fits
put-requires-clause-fits c =
    let h = head_of c.args.repairs c.loop-repair.number c.in-Some.repair c.next.new.self (sym c.loop-repair.invariant.rest ∙ c.in-Some.ensures.steps) in
    let f = fits_at c.args.leaves c.args.repairs c.loop-repair.number c.in-Some.repair c.requires.fits h.at in
    op_fits c.args.leaves c.loop-repair.number c.in-Some.repair c.write_op-op.result f
    (c.write_op-op.ensures ∙ ap (λ (r : Repair). write_op c.loop-repair.number r.spot) c.repair.view_is)

pub put-requires-clause-room : goal.put-requires-clause-room
put-requires-clause-room c =
    let h = head_of c.args.repairs c.loop-repair.number c.in-Some.repair c.next.new.self (sym c.loop-repair.invariant.rest ∙ c.in-Some.ensures.steps) in
    let f = fits_at c.args.leaves c.args.repairs c.loop-repair.number c.in-Some.repair c.requires.fits h.at in
    subst (λ (r : Repair). length r.bytes ≤ c.write_op-op.result.len) (sym c.repair.view_is)
    (op_room c.args.leaves c.loop-repair.number c.in-Some.repair c.write_op-op.result f
    (c.write_op-op.ensures ∙ ap (λ (r : Repair). write_op c.loop-repair.number r.spot) c.repair.view_is))

pub put-requires-clause-apart : goal.put-requires-clause-apart
put-requires-clause-apart c =
    let t : c.write_op-op.result.ticket ≡ c.loop-repair.number = ap (λ (o : Op). o.ticket) c.write_op-op.ensures in
    c.loop-repair.invariant.have.no_other _ c.write_op-op.result.ticket (omega arith)

pub loop-repair-preserved : goal.loop-repair-preserved
loop-repair-preserved c =
    let h = head_of c.args.repairs c.loop-repair.number c.in-Some.repair c.next.new.self (sym c.loop-repair.invariant.rest ∙ c.in-Some.ensures.steps) in
    let w = h.at.within in
    let v = c.repair.view_is in
    let is : c.write_op-op.result ≡ write_op c.loop-repair.number c.in-Some.repair.spot =
    c.write_op-op.ensures ∙ ap (λ (r : Repair). write_op c.loop-repair.number r.spot) v in
    let put : IsPut c.in-Some.repair.spot.leaf (waiting_with c.write_op-op.result c.in-Some.repair.bytes) c.loop-repair.queues.leaves.items
    c.put.new.self.leaves.items =
    subst (λ (r : Repair). IsPut r.spot.leaf (waiting_with c.write_op-op.result r.bytes) c.loop-repair.queues.leaves.items c.put.new.self.leaves.items) v
    c.in_ok-put.ensures.ok in
    record {
      rest = h.rest_is;
      within = omega arith;
      have = repair_put c.args.repairs c.loop-repair.number (c.loop-repair.number + 1) c.in-Some.repair c.write_op-op.result
          c.loop-repair.queues.leaves.items c.put.new.self.leaves.items h.at is put c.loop-repair.invariant.have refl;
      order = c.in_ok-put.ensures.order;
      count = put.count ∙ c.loop-repair.invariant.count;
    }

pub returns-clause-wait : goal.returns-clause-wait
returns-clause-wait c =
    let e = drop_end c.args.repairs c.loop-repair.number (sym c.in-None.ensures.steps.0 ∙ c.loop-repair.invariant.rest) c.loop-repair.invariant.within in
    subst (λ (n : ℕ). HaveAll (IsRepairOf c.args.repairs) (leaf_of c.args.repairs) n c.loop-repair.queues.leaves.items) e c.loop-repair.invariant.have
