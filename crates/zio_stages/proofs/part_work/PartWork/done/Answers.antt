use Rattle.std.proofs.Common.{◌≡◌, ◌∙◌, ap, false, inl, inr, ◌⊎◌, sym, subst}
use Rattle.zio_types.specs.declared.request.ChildKind.{ChildKind}
use Rattle.zio_types.specs.declared.request.ChildKind.TheVariants.{Gang}
use Rattle.zio_types.specs.declared.request.Phase.TheVariants.{Done}
use Rattle.zio_parts.specs.Parts.{PartWriting}
use Rattle.zio_parts.specs.PartWrites.{IsLast, is_due, step_at, step_of}
use Rattle.zio_parts.specs.declared.parts.PartStep.{PartStep}
use Rattle.zio_parts.specs.declared.parts.PartStep.TheVariants.{Wait, End}
use Rattle.zio_parts.specs.declared.parts.Placing.TheVariants.{Nowhere}
use Rattle.zio_stages.specs.OwnParts.{IsOwed}
use Rattle.zio_stages.proofs.PartOwed.{owed_done}
use Rattle.zio_stages.proofs.PartPlacing.{last_none}
use Rattle.zio_stages.proofs.part_work.PartWork.done.Goals as goal

pub returns-in-Wait-clause-wait : goal.returns-in-Wait-clause-wait
returns-in-Wait-clause-wait c = λ kind is t f o family st seated h.
    let same : Gang ≡ kind = cc in (
      subst (λ (k : ChildKind). IsOwed k Done st) same
          (owed_done t c.args.self.now family f o st c.requires.0 seated h (c.next.ensures.waits c.in-Wait.is t o h.asked h.slots h.work.own)),
      sym same,
    )

-- neither is left over
no_step : (x : PartWriting) (step : PartStep) → (x.placing ≡ Nowhere) ⊎ (is_due x.own ≡ false) → step ≡ step_of x → (is_due x.own ≡ false → IsLast step) → (step ≡ Wait → ⊥) → (step ≡ End → ⊥) → ⊥
no_step x step (inl e) is written wait end = end (is ∙ ap (λ p. step_at p x) e)
no_step x step (inr e) is written wait end = last_none step (written e) wait end

pub unreachable-requires : goal.unreachable-requires
unreachable-requires c = no_step c.args.self.now.own.part c.next.result c.requires.1 c.next.ensures.shows.is c.next.ensures.written c.in_default.not-Wait c.in_default.not-End
