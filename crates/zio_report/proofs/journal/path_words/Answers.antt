use Rattle.std.proofs.Common.{◌≡◌, take, append_assoc, refl, arith}
use Rattle.std.proofs.lemmas.List.{take_all}
use Rattle.zio_report.proofs.PathLemmas.{path_text-points}
use Rattle.zio_report.proofs.journal.path_words.Goals as goal

pub returns : goal.returns
returns c =
    let i = c.loop-step.step-index in
    let first = c.in-Some.first.now in
    let rest = c.in-Some.rest.now in
    let all : take i rest ≡ rest = take_all i rest (omega arith) in
    rw (c.loop-step.invariant, c.in_ok-write.ensures.bytes, all, path_text-points c.args.steps.now first rest c.in-Some.ensures.cases.0, append_assoc) refl
