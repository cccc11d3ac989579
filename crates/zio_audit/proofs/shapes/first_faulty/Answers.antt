use Rattle.std.proofs.Common.{◌||◌, ◌+◌, Bool, sym, subst, ◌∙◌, arith}
use Rattle.std.proofs.lemmas.Bool.{true≢false}
use Rattle.zio_audit.proofs.FaultyLemmas.{AreRead, fault_found, one_read}
use Rattle.zio_audit.proofs.shapes.first_faulty.Goals as goal

pub returns-then-not-branch : goal.returns-then-not-branch
returns-then-not-branch c =
    let l = c.loop-line in
    fault_found c.args.report.now l.number l.begun l.rest.now c.in-Some.behind.now c.in-Some.line.now l.invariant.read c.in-Some.ensures.line
    (λ may. true≢false (sym (c.in_ok-may_stand.ensures.1 (may.shaped, may.late)) ∙ c.if-not-branch.true))

pub loop-line-preserved : goal.loop-line-preserved
loop-line-preserved c =
    let l = c.loop-line in
    let both = c.in_ok-may_stand.ensures.0 c.if-not-branch.false in
    record {
      read = subst (λ (b : Bool). AreRead c.args.report.now (l.number + 1) (l.begun || b) c.in-Some.behind.now) (sym c.is_round.ensures)
          (one_read c.args.report.now l.number l.begun l.rest.now c.in-Some.behind.now c.in-Some.line.now l.invariant.read c.in-Some.ensures.line (record { shaped = both.0; late = both.1 }));
      few = let few = l.invariant.few in let shorter = c.in-Some.ensures.shorter in omega arith;
    }
