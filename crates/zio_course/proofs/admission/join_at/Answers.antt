use Rattle.std.proofs.Common.{◌<◌, ◌≤◌, List, length, ap, ◌∙◌, arith}
use Rattle.std.proofs.Math.ListN.{set}
use Rattle.zio_course.specs.declared.admission.Rules.{Rules}
use Rattle.zio_course.specs.Admissions.{joined_rules}
use Rattle.zio_course.proofs.AdmissionLemmas.{joined_inside, joined_outside}
use Rattle.zio_course.proofs.admission.join_at.Goals as goal

pub returns-then-slot-len : goal.returns-then-slot-len
returns-then-slot-len c =
    let rules : List Rules = c.args.rules.now.items in
    let below : c.args.slot < length rules = omega (arith, c.len.ensures) in
    ap (λ (x : Rules). set rules c.args.slot x) (c.join.ensures ∙ ap (λ (x : Rules). joined_rules x c.args.more) c.index.ensures)
    ∙ joined_inside rules c.args.slot c.args.more c.index.result.now below

pub returns-else-slot-len : goal.returns-else-slot-len
returns-else-slot-len c =
    let rules : List Rules = c.args.rules.now.items in
    let above : length rules ≤ c.args.slot = omega (arith, c.len.ensures) in
    joined_outside rules c.args.slot c.args.more above
