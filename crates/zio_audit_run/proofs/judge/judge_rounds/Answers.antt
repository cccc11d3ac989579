use Rattle.std.proofs.Common.{sym, ◌∙◌, subst}
use Rattle.std.specs.Prelude.{IfOk}
use Rattle.zio_cksum.specs.Images.{Images}
use Rattle.zio_audit.specs.Seen.{IsJudgedAs}
use Rattle.zio_audit.specs.Verdicts.{Case}
use Rattle.zio_audit_run.proofs.JudgeLemmas.{parts_case, parts_may, parts_of}
use Rattle.zio_audit_run.proofs.judge.judge_rounds.Goals as goal

pub audit_rounds-requires : goal.audit_rounds-requires
audit_rounds-requires c =
    parts_may c.args.files.items c.in_ok-before.before.items c.as_slice.result.now c.as_slice-2.result.now
    (parts_of c.args.files.items c.split_off.new.self.items c.in_ok-before.before.items c.as_slice.result.now c.as_slice-2.result.now c.index.result.now c.index-2.result.now
    c.requires.some c.in_ok-before.ensures.items c.in_ok-before.ensures.tail (c.as_slice.ensures ∙ c.index.ensures) (c.as_slice-2.ensures ∙ c.index-2.ensures))
    c.requires.may

pub returns : goal.returns
returns c =
    let are =
    parts_of c.args.files.items c.split_off.new.self.items c.in_ok-before.before.items c.as_slice.result.now c.as_slice-2.result.now c.index.result.now c.index-2.result.now
    c.requires.some c.in_ok-before.ensures.items c.in_ok-before.ensures.tail (c.as_slice.ensures ∙ c.index.ensures) (c.as_slice-2.ensures ∙ c.index-2.ensures) in
    subst (λ (of : Images → Case). IfOk c.audit_rounds.result (λ judged. (after : Images) → IsJudgedAs (of after) judged))
    (λ i after. sym (parts_case c.args.files.items c.in_ok-before.before.items c.as_slice.result.now c.as_slice-2.result.now are after) i) c.audit_rounds.ensures
