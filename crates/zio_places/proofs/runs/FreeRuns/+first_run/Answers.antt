use Rattle.std.proofs.Common.{◌≡◌, ◌≤◌, length, ap, arith, rules}
use Rattle.zio_places.specs.declared.summary.Summary.{Summary}
use Rattle.zio_places.specs.Flags.{summary_of, best_run, back_run, front_run}
use Rattle.zio_places.proofs.FlagLemmas.{front_run-le, back_run-le, best_run-le}
use Rattle.zio_places.proofs.ForkLemmas.{at_Fork, at_Leaf, IsFreeRun-over, IsFreeRun-right, best_run-right}
use Rattle.zio_places.proofs.runs.FreeRuns.+first_run.Goals as goal

pub overflow_cast-count : goal.overflow_cast-count
overflow_cast-count t c =
    let leaf = at_Leaf c.self.view_is c.self.invariant c.in-Leaf.is in
    let most : best_run c.args.self.now ≡ best_run c.in-Leaf.word = ap best_run leaf.is in
    let fits : c.args.count ≤ 64 = omega (arith, most, c.requires.room, best_run-le c.in-Leaf.word, leaf.kept.short) in
    omega arith

pub overflow_add-before : goal.overflow_add-before
overflow_add-before t c =
    let fork = at_Fork c.self.view_is c.self.invariant c.in-Fork.is in
    let left : c.summary-before.result ≡ summary_of c.in-Fork.left.value = cc in
    let right : c.summary.result ≡ summary_of c.in-Fork.right.value = cc in
    omega (arith, ap (λ (s : Summary). s.back) left, ap (λ (s : Summary). s.front) right, back_run-le c.in-Fork.left.value, front_run-le c.in-Fork.right.value, fork.kept.fits)

pub overflow_sub-result : goal.overflow_sub-result
overflow_sub-result t c =
    let left : c.summary-before.result ≡ summary_of c.in-Fork.left.value = cc in
    omega (arith, ap (λ (s : Summary). s.back) left, ap (λ (s : Summary). s.sectors) left, back_run-le c.in-Fork.left.value)

pub returns-then-count-before-2 : goal.returns-then-count-before-2
returns-then-count-before-2 t c =
    let fork = at_Fork c.self.view_is c.self.invariant c.in-Fork.is in
    let left : c.summary-before.result ≡ summary_of c.in-Fork.left.value = cc in
    let right : c.summary.result ≡ summary_of c.in-Fork.right.value = cc in
    let back : c.summary-before.result.back ≡ back_run c.in-Fork.left.value = ap (λ (s : Summary). s.back) left in
    let sectors : c.summary-before.result.sectors ≡ length c.in-Fork.left.value = ap (λ (s : Summary). s.sectors) left in
    let front : c.summary.result.front ≡ front_run c.in-Fork.right.value = ap (λ (s : Summary). s.front) right in
    let over = IsFreeRun-over c.in-Fork.left.value c.in-Fork.right.value c.args.count (omega (arith, back, front, c.if-count-before-2.true)) in
    rw (fork.is, sectors, back) over

pub first_run-requires-else-count-before-2 : goal.first_run-requires-else-count-before-2
first_run-requires-else-count-before-2 t c =
    let fork = at_Fork c.self.view_is c.self.invariant c.in-Fork.is in
    let left : c.summary-before.result ≡ summary_of c.in-Fork.left.value = cc in
    let right : c.summary.result ≡ summary_of c.in-Fork.right.value = cc in
    let back : c.summary-before.result.back ≡ back_run c.in-Fork.left.value = ap (λ (s : Summary). s.back) left in
    let best : c.summary-before.result.best ≡ best_run c.in-Fork.left.value = ap (λ (s : Summary). s.best) left in
    let front : c.summary.result.front ≡ front_run c.in-Fork.right.value = ap (λ (s : Summary). s.front) right in
    let whole = ap best_run fork.is in
    let here = best_run-right c.in-Fork.left.value c.in-Fork.right.value c.args.count (omega (arith, whole, c.requires.room)) (omega (arith, best, c.if-count-before.false)) (omega (arith, back, front, c.if-count-before-2.false)) in
    let there = ap best_run c.deref-else-count-before-2.ensures in
    (search rules, (c.requires.some, omega (arith, here, there)))

pub overflow_add-result : goal.overflow_add-result
overflow_add-result t c =
    let fork = at_Fork c.self.view_is c.self.invariant c.in-Fork.is in
    let left : c.summary-before.result ≡ summary_of c.in-Fork.left.value = cc in
    let sectors : c.summary-before.result.sectors ≡ length c.in-Fork.left.value = ap (λ (s : Summary). s.sectors) left in
    let there = ap length c.deref-else-count-before-2.ensures in
    omega (arith, sectors, there, c.first_run-else-count-before-2.ensures.all.fits, fork.kept.fits)

pub returns-else-count-before-2 : goal.returns-else-count-before-2
returns-else-count-before-2 t c =
    let fork = at_Fork c.self.view_is c.self.invariant c.in-Fork.is in
    let left : c.summary-before.result ≡ summary_of c.in-Fork.left.value = cc in
    let right : c.summary.result ≡ summary_of c.in-Fork.right.value = cc in
    let back : c.summary-before.result.back ≡ back_run c.in-Fork.left.value = ap (λ (s : Summary). s.back) left in
    let sectors : c.summary-before.result.sectors ≡ length c.in-Fork.left.value = ap (λ (s : Summary). s.sectors) left in
    let front : c.summary.result.front ≡ front_run c.in-Fork.right.value = ap (λ (s : Summary). s.front) right in
    let found = rw c.deref-else-count-before-2.ensures at c.first_run-else-count-before-2.ensures in
    rw (fork.is, sectors) (IsFreeRun-right c.in-Fork.left.value c.in-Fork.right.value _ c.args.count (omega (arith, back, front, c.if-count-before-2.false)) found)
