use Rattle.std.proofs.Common.{◌≡◌, ◌<◌, ◌+◌, ◌∙◌, ℕ, length, sym, ap, subst, arith, refl}
use Rattle.zio_vqueue.specs.declared.op.Op.{Op}
use Rattle.zio_groups.specs.LeafQueues.{waiting_with}
use Rattle.zio_scrub.specs.declared.layout.CopyAt.{CopyAt}
use Rattle.zio_scrub.specs.Queues.{HaveAll, IsPut}
use Rattle.zio_scrub.specs.Reads.{IsAt, IsReadOf, leaf_at, read_op}
use Rattle.zio_scrub.proofs.ReadSteps.{fits_at, op_fits, read_put}
use Rattle.zio_scrub.proofs.WaitLemmas.{fresh_length, have_none}
use Rattle.zio_scrub.proofs.reads.queued.Goals as goal

pub loop-number-init : goal.loop-number-init
loop-number-init c = record {
  have = have_none (IsReadOf c.args.copies.now) (leaf_at c.args.copies.now) c.args.leaves c.in_ok-queues.queues.leaves.items c.in_ok-queues.ensures.none;
  order = c.in_ok-queues.ensures.order;
  count = fresh_length c.args.leaves c.in_ok-queues.queues.leaves.items c.in_ok-queues.ensures.none;
}

pub read_op-op-requires : goal.read_op-op-requires
read_op-op-requires c =
    let at : IsAt c.args.copies.now c.loop-number.number c.index-copies-number.result = record { within = c.loop-number-test.true; is = sym c.index-copies-number.is } in
    let f = fits_at c.args.leaves c.args.copies.now c.loop-number.number c.index-copies-number.result c.requires.fit at in
    f.small

pub put-requires-clause-there : goal.put-requires-clause-there
put-requires-clause-there c =
    let at : IsAt c.args.copies.now c.loop-number.number c.index-copies-number.result = record { within = c.loop-number-test.true; is = sym c.index-copies-number.is } in
    let f = fits_at c.args.leaves c.args.copies.now c.loop-number.number c.index-copies-number.result c.requires.fit at in
    let low = f.there in
    let n = c.loop-number.invariant.count in
    subst (λ (r : CopyAt). r.spot.leaf < length c.loop-number.queues.leaves.items) (sym c.copy.view_is) (omega arith)

pub put-requires-clause-fits : goal.put-requires-clause-fits
put-requires-clause-fits c =
    let at : IsAt c.args.copies.now c.loop-number.number c.index-copies-number.result = record { within = c.loop-number-test.true; is = sym c.index-copies-number.is } in
    let f = fits_at c.args.leaves c.args.copies.now c.loop-number.number c.index-copies-number.result c.requires.fit at in
    op_fits c.args.leaves c.loop-number.number c.index-copies-number.result c.read_op-op.result f
    c.read_op-op.ensures

pub put-requires-clause-apart : goal.put-requires-clause-apart
put-requires-clause-apart c =
    let t : c.read_op-op.result.ticket ≡ c.loop-number.number = ap (λ (o : Op). o.ticket) c.read_op-op.ensures in
    c.loop-number.invariant.have.no_other _ c.read_op-op.result.ticket (omega arith)

pub loop-number-preserved : goal.loop-number-preserved
loop-number-preserved c =
    let at : IsAt c.args.copies.now c.loop-number.number c.index-copies-number.result = record { within = c.loop-number-test.true; is = sym c.index-copies-number.is } in
    let v = c.copy.view_is in
    let is : c.read_op-op.result ≡ read_op c.loop-number.number c.index-copies-number.result.spot =
    c.read_op-op.ensures in
    let put : IsPut c.index-copies-number.result.spot.leaf (waiting_with c.read_op-op.result c.alone.result) c.loop-number.queues.leaves.items
    c.put.new.self.leaves.items =
    subst (λ (r : CopyAt). IsPut r.spot.leaf (waiting_with c.read_op-op.result c.alone.result) c.loop-number.queues.leaves.items c.put.new.self.leaves.items) v
    c.in_ok-put.ensures.ok in
    record {
      have = read_put c.args.copies.now c.loop-number.number (c.loop-number.number + 1) c.index-copies-number.result c.read_op-op.result c.alone.result
          c.loop-number.queues.leaves.items c.put.new.self.leaves.items at is put c.loop-number.invariant.have refl;
      order = c.in_ok-put.ensures.order;
      count = put.count ∙ c.loop-number.invariant.count;
    }

pub returns-clause-wait : goal.returns-clause-wait
returns-clause-wait c =
    let e : c.loop-number.number ≡ length c.args.copies.now = omega arith in
    subst (λ (n : ℕ). HaveAll (IsReadOf c.args.copies.now) (leaf_at c.args.copies.now) n c.loop-number.queues.leaves.items) e c.loop-number.invariant.have
