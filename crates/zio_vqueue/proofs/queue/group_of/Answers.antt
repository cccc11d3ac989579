use Rattle.std.proofs.Common.{◌∙◌, sym, ap, arith, List, ◌++◌, ◌∷◌, [], false, get_or, ◌-◌, refl}
use Rattle.zio_types.specs.declared.request.Prio.TheVariants.{SyncRead}
use Rattle.zio_vqueue.specs.declared.op.Op.{Op}
use Rattle.zio_vqueue.specs.declared.spots.Spot.{Spot}
use Rattle.zio_vqueue.proofs.MemberLemmas.{fit_at, span_of, span_rises, values_all, values_more}
use Rattle.zio_vqueue.proofs.queue.group_of.Goals as goal

abbrev none_such : Spot × Op
none_such = (
  record { shelf = 0; rank = 0; time = 0 },
  record {
    ticket = 0;
    write = false;
    at = 0;
    len = 0;
    prio = SyncRead;
    flags = record { canfail = false; retry = false; dont_aggregate = false; repair = false };
  },
)

pub end_of-end-requires : goal.end_of-end-requires
end_of-end-requires c = fit_at _ _ _ (omega (arith, c.requires.some)) c.requires.fit

pub overflow_sub-result : goal.overflow_sub-result
overflow_sub-result c = omega (arith, c.end_of-end.ensures, span_rises c.args.members.now none_such c.requires.some c.requires.run.0 c.requires.run.1)

pub loop-op-preserved : goal.loop-op-preserved
loop-op-preserved c =
    c.in_ok-push.ensures.ok ∙ ap (λ (os : List Op). os ++ (get_or c.args.members.now c.loop-op.op-index none_such).1 ∷ []) c.loop-op.invariant
    ∙ sym (values_more c.args.members.now c.loop-op.op-index none_such c.loop-op-test.true)

pub returns : goal.returns
returns c =
    let rises = span_rises c.args.members.now none_such c.requires.some c.requires.run.0 c.requires.run.1 in
    record {
      prio = refl;
      ops = c.loop-op.invariant ∙ values_all _ _ c.loop-op-test.false;
      span = span_of c.args.members.now none_such (record {
        prio = c.args.prio;
        at = ((get_or c.args.members.now 0 none_such).1).at;
        len = c.end_of-end.result - ((get_or c.args.members.now 0 none_such).1).at;
        ops = c.loop-op.ops;
      }) c.requires.some refl (omega (arith, c.end_of-end.ensures, rises));
      fits = omega (arith, c.end_of-end.ensures, rises);
    }
