use Rattle.std.proofs.Common.{◌≡◌, length, sym, ap, subst, ◌∙◌, arith}
use Rattle.std.proofs.Common.{Box}
use Rattle.std.specs.declared.alloc.Global.{Global}
use Rattle.zio_places.specs.declared.runs.FreeRuns.{FreeRuns}
use Rattle.zio_places.specs.declared.summary.Summary.{Summary}
use Rattle.zio_places.specs.Flags.{summary_of, IsRangeSet}
use Rattle.zio_places.proofs.FlagLemmas.{front_run-le, back_run-le}
use Rattle.zio_places.proofs.ForkLemmas.{at_Fork, at_Leaf, left_changes, right_changes, both_change, IsFork-changed}
use Rattle.zio_places.proofs.runs.FreeRuns.+set_flag.Goals as goal
use Rattle.zio_places.proofs.runs.FreeRuns.+set_flag.Goals.{in-Leaf, in-Fork, then-end-middle, else-end-middle+then-middle-at, else-end-middle+else-middle-at}

pub join-requires-clause-back : goal.join-requires-clause-back
join-requires-clause-back t c =
    omega (arith, ap (λ (s : Summary). s.back) c.summary-in-Fork.ensures, ap (λ (s : Summary). s.sectors) c.summary-in-Fork.ensures, back_run-le c.deref-in-Fork.result.now)

pub join-requires-clause-front : goal.join-requires-clause-front
join-requires-clause-front t c =
    omega (arith, ap (λ (s : Summary). s.front) c.summary-in-Fork-2.ensures, ap (λ (s : Summary). s.sectors) c.summary-in-Fork-2.ensures, front_run-le c.deref-in-Fork-2.result.now)

pub returns : goal.returns
returns t c =
    elim c.match-self.branch [
      | in-Leaf w ↦
          let leaf = at_Leaf c.self.view_is c.self.invariant w.in-Leaf.is in
          rw w.self-inside-is (subst (λ fs. IsRangeSet fs w.set_flag.new.self c.args.at c.args.count c.args.is_free) (sym leaf.is) w.set_flag.ensures)
      | in-Fork w ↦
          let fork = at_Fork c.self.view_is c.self.invariant w.in-Fork.is in
          let middle_sum : w.summary-middle.result ≡ summary_of w.in-Fork.left.value = w.summary-middle.ensures ∙ ap summary_of w.deref.ensures in
          let middle : w.summary-middle.result.sectors ≡ length w.in-Fork.left.value = ap (λ (s : Summary). s.sectors) middle_sum in
          rw w.self-inside-is (elim w.if-end-middle.branch [
            | then-end-middle v ↦ rw (v.left-is, v.right-is) (left_changes _ _ w.in-Fork.right.value _ _ _ _ _ fork.is v.deref_mut.ensures.value v.set_flag-then-end-middle.ensures (omega (arith, middle, v.if-end-middle.true))).whole
            | else-end-middle+then-middle-at v ↦ rw (v.left-is, v.right-is) (right_changes _ w.in-Fork.left.value _ _ _ c.args.at _ _ _ fork.is v.deref_mut-then-middle-at.ensures.value v.set_flag-then-middle-at.ensures (omega (arith, middle)) (omega (arith, middle, v.if-middle-at.true))).whole
            | else-end-middle+else-middle-at v ↦ rw (v.left-is, v.right-is) (both_change _ _ _ _ _ _ _ c.args.at c.args.count _ _ _ fork.is v.deref_mut-else-middle-at.ensures.value v.deref_mut-else-middle-at-2.ensures.value v.set_flag-else-middle-at.ensures v.set_flag-else-middle-at-2.ensures (omega (arith, middle)) (omega (arith, middle)) (omega (arith, middle, v.if-middle-at.false)) (omega (arith, middle, v.if-end-middle.false))).whole
          ])
    ]

pub invariant_of-self : goal.invariant_of-self
invariant_of-self t c =
    elim c.match-self.branch [
      | in-Leaf w ↦
          let leaf = at_Leaf c.self.view_is c.self.invariant w.in-Leaf.is in
          rw w.self-inside-is (record { summed = w.summary.ensures; short = omega (arith, w.set_flag.ensures.length, leaf.kept.short) })
      | in-Fork w ↦
          let fork = at_Fork c.self.view_is c.self.invariant w.in-Fork.is in
          let middle_sum : w.summary-middle.result ≡ summary_of w.in-Fork.left.value = w.summary-middle.ensures ∙ ap summary_of w.deref.ensures in
          let middle : w.summary-middle.result.sectors ≡ length w.in-Fork.left.value = ap (λ (s : Summary). s.sectors) middle_sum in
          let left_sum : w.summary-in-Fork.result ≡ summary_of w.if-end-middle.left.value = w.summary-in-Fork.ensures ∙ ap summary_of w.deref-in-Fork.ensures in
          let right_sum : w.summary-in-Fork-2.result ≡ summary_of w.if-end-middle.right.value = w.summary-in-Fork-2.ensures ∙ ap summary_of w.deref-in-Fork-2.ensures in
          rw w.self-inside-is (elim w.if-end-middle.branch [
            | then-end-middle v ↦ rw (v.left-is, v.right-is) (IsFork-changed _ _ _ _ _ _ _ _ _ _ _ _ (left_changes _ _ w.in-Fork.right.value _ _ _ _ _ fork.is v.deref_mut.ensures.value v.set_flag-then-end-middle.ensures (omega (arith, middle, v.if-end-middle.true))) fork.kept w.join.ensures (left_sum ∙ ap (λ (b : Box FreeRuns Global). summary_of b.value) v.left-is) (right_sum ∙ ap (λ (b : Box FreeRuns Global). summary_of b.value) v.right-is))
            | else-end-middle+then-middle-at v ↦ rw (v.left-is, v.right-is) (IsFork-changed _ _ _ _ _ _ _ _ _ _ _ _ (right_changes _ w.in-Fork.left.value _ _ _ c.args.at _ _ _ fork.is v.deref_mut-then-middle-at.ensures.value v.set_flag-then-middle-at.ensures (omega (arith, middle)) (omega (arith, middle, v.if-middle-at.true))) fork.kept w.join.ensures (left_sum ∙ ap (λ (b : Box FreeRuns Global). summary_of b.value) v.left-is) (right_sum ∙ ap (λ (b : Box FreeRuns Global). summary_of b.value) v.right-is))
            | else-end-middle+else-middle-at v ↦ rw (v.left-is, v.right-is) (IsFork-changed _ _ _ _ _ _ _ _ _ _ _ _ (both_change _ _ _ _ _ _ _ c.args.at c.args.count _ _ _ fork.is v.deref_mut-else-middle-at.ensures.value v.deref_mut-else-middle-at-2.ensures.value v.set_flag-else-middle-at.ensures v.set_flag-else-middle-at-2.ensures (omega (arith, middle)) (omega (arith, middle)) (omega (arith, middle, v.if-middle-at.false)) (omega (arith, middle, v.if-end-middle.false))) fork.kept w.join.ensures (left_sum ∙ ap (λ (b : Box FreeRuns Global). summary_of b.value) v.left-is) (right_sum ∙ ap (λ (b : Box FreeRuns Global). summary_of b.value) v.right-is))
          ])
    ]
