use Rattle.std.proofs.Common.{◌≡◌, ◌-◌, length, drop, sym, ap, ◌∙◌, arith}
use Rattle.std.proofs.lemmas.List.{length-drop}
use Rattle.zio_places.specs.declared.summary.Summary.{Summary}
use Rattle.zio_places.specs.Flags.{summary_of, front_run}
use Rattle.zio_places.proofs.FlagLemmas.{front_run-le}
use Rattle.zio_places.proofs.ForkLemmas.{at_Fork, front_run-left-whole, front_run-left-part, drop-append-right}
use Rattle.zio_places.proofs.runs.FreeRuns.+front_from.Goals as goal

pub overflow_add-at : goal.overflow_add-at
overflow_add-at t c =
    let fork = at_Fork c.self.view_is c.self.invariant c.in-Fork.is in
    let here : c.front_from-here.result ≡ front_run (drop c.args.at c.in-Fork.left.value) = cc in
    omega (arith, here, front_run-le (drop c.args.at c.in-Fork.left.value), length-drop c.args.at c.in-Fork.left.value, fork.kept.fits, fork.length, c.requires)

pub overflow_add-result : goal.overflow_add-result
overflow_add-result t c =
    let fork = at_Fork c.self.view_is c.self.invariant c.in-Fork.is in
    let here : c.front_from-here.result ≡ front_run (drop c.args.at c.in-Fork.left.value) = cc in
    let right : c.summary.result ≡ summary_of c.in-Fork.right.value = cc in
    omega (arith, here, ap (λ (s : Summary). s.front) right, front_run-le c.in-Fork.right.value, front_run-le (drop c.args.at c.in-Fork.left.value), length-drop c.args.at c.in-Fork.left.value, fork.kept.fits)

pub returns-then-at-here : goal.returns-then-at-here
returns-then-at-here t c =
    let fork = at_Fork c.self.view_is c.self.invariant c.in-Fork.is in
    let left : c.summary-middle.result ≡ summary_of c.in-Fork.left.value = cc in
    let sectors : c.summary-middle.result.sectors ≡ length c.in-Fork.left.value = ap (λ (s : Summary). s.sectors) left in
    let here : c.front_from-here.result ≡ front_run (drop c.args.at c.in-Fork.left.value) = cc in
    let right : c.summary.result ≡ summary_of c.in-Fork.right.value = cc in
    let front : c.summary.result.front ≡ front_run c.in-Fork.right.value = ap (λ (s : Summary). s.front) right in
    rw (fork.is, here, front) (front_run-left-whole c.in-Fork.left.value c.in-Fork.right.value c.args.at (omega (arith, sectors, c.if-at-middle.true)) (omega (arith, sectors, here, c.if-at-here.true)))

pub returns-else-at-here : goal.returns-else-at-here
returns-else-at-here t c =
    let fork = at_Fork c.self.view_is c.self.invariant c.in-Fork.is in
    let left : c.summary-middle.result ≡ summary_of c.in-Fork.left.value = cc in
    let sectors : c.summary-middle.result.sectors ≡ length c.in-Fork.left.value = ap (λ (s : Summary). s.sectors) left in
    let here : c.front_from-here.result ≡ front_run (drop c.args.at c.in-Fork.left.value) = cc in
    rw (fork.is, here) (front_run-left-part c.in-Fork.left.value c.in-Fork.right.value c.args.at (omega (arith, sectors, c.if-at-middle.true)) (λ e. c.if-at-here.false (omega (arith, e, here, sectors))))

pub returns-else-at-middle : goal.returns-else-at-middle
returns-else-at-middle t c =
    let fork = at_Fork c.self.view_is c.self.invariant c.in-Fork.is in
    let left : c.summary-middle.result ≡ summary_of c.in-Fork.left.value = cc in
    let sectors : c.summary-middle.result.sectors ≡ length c.in-Fork.left.value = ap (λ (s : Summary). s.sectors) left in
    let rest = drop-append-right c.in-Fork.left.value c.in-Fork.right.value c.args.at (omega (arith, sectors, c.if-at-middle.false)) in
    let there : c.front_from-else-at-middle.result ≡ front_run (drop (c.args.at - c.summary-middle.result.sectors) c.in-Fork.right.value) = cc in
    there ∙ ap (λ n. front_run (drop (c.args.at - n) c.in-Fork.right.value)) sectors ∙ ap front_run (sym rest) ∙ ap (λ fs. front_run (drop c.args.at fs)) (sym fork.is)
