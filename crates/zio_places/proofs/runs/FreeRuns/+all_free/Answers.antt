use Rattle.std.proofs.Common.{◌≡◌, ◌+◌, ◌-◌, ◌*◌, ◌/◌, ◌<◌, length, replicate, ap, ◌∙◌, arith}
use Rattle.std.specs.Prelude.{true}
use Rattle.std.proofs.lemmas.List.{length-replicate, replicate-append-replicate}
use Rattle.zio_places.specs.declared.summary.Summary.{Summary}
use Rattle.zio_places.proofs.FlagLemmas.{front_run-le, back_run-le}
use Rattle.zio_places.proofs.ForkLemmas.{IsFork-from}
use Rattle.zio_places.proofs.runs.FreeRuns.+all_free.Goals as goal

pub join-summary-requires-clause-back : goal.join-summary-requires-clause-back
join-summary-requires-clause-back t c = omega (arith, ap (λ (s : Summary). s.back) c.summary.ensures, ap (λ (s : Summary). s.sectors) c.summary.ensures, back_run-le c.in_ok-left.left)

pub join-summary-requires-clause-front : goal.join-summary-requires-clause-front
join-summary-requires-clause-front t c = omega (arith, ap (λ (s : Summary). s.front) c.summary-2.ensures, ap (λ (s : Summary). s.sectors) c.summary-2.ensures, front_run-le c.in_ok-right.right)

pub invariant_of-result-2 : goal.invariant_of-result-2
invariant_of-result-2 t c =
    let left : length c.in_ok-left.left ≡ ((c.args.sectors - 1) / 64 + 1) / 2 * 64 = ap length c.in_ok-left.ensures ∙ length-replicate (((c.args.sectors - 1) / 64 + 1) / 2 * 64) true in
    let right : length c.in_ok-right.right ≡ c.args.sectors - ((c.args.sectors - 1) / 64 + 1) / 2 * 64 = ap length c.in_ok-right.ensures ∙ length-replicate (c.args.sectors - ((c.args.sectors - 1) / 64 + 1) / 2 * 64) true in
    let large : 64 < c.args.sectors = c.if-sectors-le-WORD_SECTORS.false in
    rw (c.in_ok-left-2.ensures.ok, c.in_ok-right-2.ensures.ok)
    (IsFork-from c.in_ok-left.left c.in_ok-right.right _ _ _ c.join-summary.ensures c.summary.ensures c.summary-2.ensures (omega (arith, left, large)) (omega (arith, right, large)) (omega (arith, left, right, large)))

pub returns : goal.returns
returns t c =
    let large : 64 < c.args.sectors = c.if-sectors-le-WORD_SECTORS.false in
    let whole : ((c.args.sectors - 1) / 64 + 1) / 2 * 64 + (c.args.sectors - ((c.args.sectors - 1) / 64 + 1) / 2 * 64) ≡ c.args.sectors = omega (arith, large) in
    rw (c.in_ok-left-2.ensures.ok, c.in_ok-right-2.ensures.ok, c.in_ok-left.ensures, c.in_ok-right.ensures)
    (replicate-append-replicate (((c.args.sectors - 1) / 64 + 1) / 2 * 64) (c.args.sectors - ((c.args.sectors - 1) / 64 + 1) / 2 * 64) true ∙ ap (λ n. replicate n true) whole)
