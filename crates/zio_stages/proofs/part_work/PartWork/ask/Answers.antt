use Rattle.std.proofs.Common.{◌≡◌, ◌∙◌, ◌<◌, ◌%◌, ap, refl, sym, subst, true, false}
use Rattle.zio_parts.specs.Parts.{is_head_due, pointer_over}
use Rattle.zio_parts.specs.PartWrites.{IsAsk, IsLast}
use Rattle.zio_parts.specs.declared.parts.PartStep.TheVariants.{AskBody, AskHead}
use Rattle.zio_blkptr.specs.Pointers.{valid}
use Rattle.std.specs.Prelude.{Bool, IsTrue}
use Rattle.zio_stages.proofs.FoundPlaces.{pointer_valid}
use Rattle.zio_stages.proofs.PartPlacing.{body_due, due_unless, head_due, none_left}
use Rattle.zio_stages.proofs.part_work.PartWork.ask.Goals as goal

pub returns-in-AskBody-clause-due : goal.returns-in-AskBody-clause-due
returns-in-AskBody-clause-due c = subst IsAsk (sym c.in-AskBody.is ∙ c.next.ensures.shows.is) tt

pub returns-in-AskBody-clause-own : goal.returns-in-AskBody-clause-own
returns-in-AskBody-clause-own c = due_unless c.args.self.now.own.part AskBody (λ d. subst IsLast c.in-AskBody.is (c.next.ensures.written d)) (λ l. l)

pub returns-in-AskBody-clause-valid : goal.returns-in-AskBody-clause-valid
returns-in-AskBody-clause-valid c = λ tops entry are units answer sized one three.
    let x = c.args.self.now.own.part in
    let body : is_head_due x.placing ≡ false = ap is_head_due (body_due x (sym c.in-AskBody.is ∙ c.next.ensures.shows.is)) in
    let b = c.body_ask.ensures in
    subst (λ (head : Bool). IsTrue (valid (pointer_over x head entry.places))) (sym body)
    (pointer_valid tops x false entry x.size are units answer (sized ∙ b.size) refl (subst (λ n. 0 < n) b.size b.some) (subst (λ n. n % 512 ≡ 0) b.size b.whole) b.most b.born one three)

pub returns-in-AskHead-clause-due : goal.returns-in-AskHead-clause-due
returns-in-AskHead-clause-due c = subst IsAsk (sym c.in-AskHead.is ∙ c.next.ensures.shows.is) tt

pub returns-in-AskHead-clause-own : goal.returns-in-AskHead-clause-own
returns-in-AskHead-clause-own c = due_unless c.args.self.now.own.part AskHead (λ d. subst IsLast c.in-AskHead.is (c.next.ensures.written d)) (λ l. l)

pub returns-in-AskHead-clause-valid : goal.returns-in-AskHead-clause-valid
returns-in-AskHead-clause-valid c = λ tops entry are units answer sized one three.
    let x = c.args.self.now.own.part in
    let head : is_head_due x.placing ≡ true = ap is_head_due (head_due x (sym c.in-AskHead.is ∙ c.next.ensures.shows.is)) in
    let b = c.head_ask.ensures in
    subst (λ (h : Bool). IsTrue (valid (pointer_over x h entry.places))) (sym head)
    (pointer_valid tops x true entry 512 are units answer (sized ∙ b.size) refl b.some b.whole b.most b.born one three)

pub returns-in_default-clause-none : goal.returns-in_default-clause-none
returns-in_default-clause-none c = λ none.
    let x = c.args.self.now.own.part in
    none_left x.placing x (λ e. c.in_default.not-AskBody (c.next.ensures.shows.is ∙ sym e)) (λ e. c.in_default.not-AskHead (c.next.ensures.shows.is ∙ sym e))
