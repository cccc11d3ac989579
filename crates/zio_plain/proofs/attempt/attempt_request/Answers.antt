use Rattle.std.proofs.Common.{◌≡◌, List, length, reverse, refl, ap, sym, subst, ◌∙◌, rules}
use Rattle.std.proofs.lemmas.List.{reverse-reverse}
use Rattle.zio_course.specs.declared.runner.Stop.TheVariants.{Memory}
use Rattle.zio_plain.specs.declared.judge.Judged.{Judged}
use Rattle.zio_plain.specs.declared.owns.OwnEnd.{OwnEnd}
use Rattle.zio_plain.specs.declared.waiting.Handed.{Handed}
use Rattle.zio_plain.specs.OwnEnds.{AreNamed, Named}
use Rattle.zio_plain.specs.Waits.{HasPointer}
use Rattle.zio_plain.proofs.StepLemmas.{IsRun, IsTop, memory_stop, ok_both, run_of, stack_top, step_again, step_ended}
use Rattle.zio_plain.proofs.NamedLemmas.{names_itself, naming}
use Rattle.zio_plain.proofs.FateLemmas.{HaveHanded, all_turned}
use Rattle.zio_plain.proofs.attempt.attempt_request.Goals as goal

pub do_own-requires-clause-pointers : goal.do_own-requires-clause-pointers
do_own-requires-clause-pointers g c =
    let kids : List Handed = c.in_ok-children.children.items in
    let count : length kids ≡ c.args.waiting.unfinished = sym (ap length c.as_slice.ensures.value) ∙ c.as_slice.ensures.len ∙ c.in_ok-children.ensures.count in
    let top : IsTop c.args.waiting.unfinished c.args.handed.now.items kids c.handed_last.new.handed.items =
    stack_top c.args.waiting.unfinished c.args.handed.now.items c.handed_last.new.handed.items kids c.in_ok-children.ensures.last count in
    subst HaveHanded (reverse-reverse kids ∙ sym c.as_slice.ensures.value)
    (all_turned (λ (h : Handed). HasPointer h.child) (reverse kids) (subst HaveHanded top.top c.requires.pointers))

pub returns-in_err-note_handed-clause-breaks : goal.returns-in_err-note_handed-clause-breaks
returns-in_err-note_handed-clause-breaks g c =
    let h = λ (named : Named) (at : AreNamed named c.args.waiting.request.work c.args.waiting.block).
    g.met.W.OwnWork.moves_breaks named c.args.works.now c.do_own.new.works c.do_own.new.works c.in_ok-end.field-0.taken Memory (c.in_ok-end.ensures.moves named at) (g.met.W.OwnWork.memory_breaks named c.do_own.new.works) in
    search rules

pub returns-in-Ends-clause-step : goal.returns-in-Ends-clause-step
returns-in-Ends-clause-step g c =
    ok_both c.end_request.result c.end_request.ensures.finished c.end_request.ensures.freed (λ finished freed named at.
    let m = g.W.OwnWork in
    let kids : List Handed = c.in_ok-children.children.items in
    let judged : Judged = c.in_ok-one.field-0 in
    let own : OwnEnd = c.in_ok-end.field-0.end in
    let count : length kids ≡ c.args.waiting.unfinished = sym (ap length c.as_slice.ensures.value) ∙ c.as_slice.ensures.len ∙ c.in_ok-children.ensures.count in
    let top : IsTop c.args.waiting.unfinished c.args.handed.now.items kids c.handed_last.new.handed.items =
    stack_top c.args.waiting.unfinished c.args.handed.now.items c.handed_last.new.handed.items kids c.in_ok-children.ensures.last count in
    let run : IsRun m.tells m.runs m.fresh m.given (m.moves named) c.args.failmode c.args.attempt c.args.waiting c.args.handed.now.items c.handed_last.new.handed.items c.note_handed.new.handed.items kids own c.in_ok-end.field-0.taken judged
    c.args.works.now c.do_own.new.works c.end_request.new.works =
    run_of m.tells m.runs m.fresh m.given (m.moves named) c.args.failmode c.args.attempt c.args.waiting c.args.handed.now.items c.handed_last.new.handed.items c.note_handed.new.handed.items kids own c.in_ok-end.field-0.taken judged
    c.args.works.now c.do_own.new.works c.end_request.new.works c.as_slice.result.now c.as_slice-2.result.now
    c.as_slice.ensures.value c.as_slice-2.ensures.value c.in_ok-children.ensures.last count
    (subst HaveHanded (reverse-reverse kids) (all_turned (λ (h : Handed). HasPointer h.child) (reverse kids) (subst HaveHanded top.top c.requires.pointers)))
    c.requires.sound.pointers c.in_ok-note_handed.ensures c.in_ok-end.ensures.end c.in_ok-one.ensures.judged c.in_ok-one.ensures.again c.in_ok-one.ensures.unused
    c.in_ok-end.ensures.told c.in_ok-end.ensures.asked c.end_request.ensures.images c.end_request.ensures.given in
    step_ended m.tells m.runs m.fresh m.given (m.moves named) c.args.failmode c.args.attempt c.args.waiting c.args.handed.now.items c.handed_last.new.handed.items c.note_handed.new.handed.items kids own c.in_ok-end.field-0.taken judged
    c.args.works.now c.do_own.new.works c.end_request.new.works c.args.again.now c.args.again.now c.args.ends.now.finished c.end_request.new.ends.finished c.args.ends.now.freed c.end_request.new.ends.freed
    c.in-Ends.finished judged.unused run c.in-Ends.is refl refl finished freed (c.in_ok-end.ensures.moves named at) (λ none. c.in_ok-end.ensures.made none named at) (c.end_request.ensures.moves named))

pub returns-in_err-note_again-in-Again-clause-breaks : goal.returns-in_err-note_again-in-Again-clause-breaks
returns-in_err-note_again-in-Again-clause-breaks g c =
    let h = λ (named : Named) (at : AreNamed named c.args.waiting.request.work c.args.waiting.block).
    g.met.W.OwnWork.moves_breaks named c.args.works.now c.give_back.new.self c.give_back.new.self _ Memory (c.give_back.ensures.moves named c.args.works.now (c.in_ok-end.ensures.moves named at)) (g.met.W.OwnWork.memory_breaks named c.give_back.new.self) in
    search rules

pub returns-clause-step : goal.returns-clause-step
returns-clause-step g c named at =
    let m = g.W.OwnWork in
    let kids : List Handed = c.in_ok-children.children.items in
    let judged : Judged = c.in_ok-one.field-0 in
    let own : OwnEnd = c.in_ok-end.field-0.end in
    let count : length kids ≡ c.args.waiting.unfinished = sym (ap length c.as_slice.ensures.value) ∙ c.as_slice.ensures.len ∙ c.in_ok-children.ensures.count in
    let top : IsTop c.args.waiting.unfinished c.args.handed.now.items kids c.handed_last.new.handed.items =
    stack_top c.args.waiting.unfinished c.args.handed.now.items c.handed_last.new.handed.items kids c.in_ok-children.ensures.last count in
    let run : IsRun m.tells m.runs m.fresh m.given (m.moves named) c.args.failmode c.args.attempt c.args.waiting c.args.handed.now.items c.handed_last.new.handed.items c.note_handed.new.handed.items kids own c.in_ok-end.field-0.taken judged
    c.args.works.now c.do_own.new.works c.give_back.new.self =
    run_of m.tells m.runs m.fresh m.given (m.moves named) c.args.failmode c.args.attempt c.args.waiting c.args.handed.now.items c.handed_last.new.handed.items c.note_handed.new.handed.items kids own c.in_ok-end.field-0.taken judged
    c.args.works.now c.do_own.new.works c.give_back.new.self c.as_slice.result.now c.as_slice-2.result.now
    c.as_slice.ensures.value c.as_slice-2.ensures.value c.in_ok-children.ensures.last count
    (subst HaveHanded (reverse-reverse kids) (all_turned (λ (h : Handed). HasPointer h.child) (reverse kids) (subst HaveHanded top.top c.requires.pointers)))
    c.requires.sound.pointers c.in_ok-note_handed.ensures c.in_ok-end.ensures.end c.in_ok-one.ensures.judged c.in_ok-one.ensures.again c.in_ok-one.ensures.unused
    c.in_ok-end.ensures.told c.in_ok-end.ensures.asked c.give_back.ensures.images c.give_back.ensures.given in
    step_again m.tells m.runs m.fresh m.given (m.moves named) c.args.failmode c.args.attempt c.args.waiting c.args.handed.now.items c.handed_last.new.handed.items c.note_handed.new.handed.items kids own c.in_ok-end.field-0.taken judged
    c.args.works.now c.do_own.new.works c.give_back.new.self c.args.again.now c.note_again.new.again c.args.ends.now.finished c.args.ends.now.finished c.args.ends.now.freed c.args.ends.now.freed
    c.in-Again.left run c.in-Again.is c.in_ok-note_again-in-Again.ensures refl refl (c.in_ok-end.ensures.moves named at) (c.give_back.ensures.moves named)

pub end_request-requires : goal.end_request-requires
end_request-requires g c =
    let named : Named = naming c.args.waiting.request.work c.args.waiting.block in
    record { taken = (named, (c.args.works.now, c.in_ok-end.ensures.moves named (names_itself c.args.waiting.request.work c.args.waiting.block))) }

pub returns-in_err-one-clause-breaks : goal.returns-in_err-one-clause-breaks
returns-in_err-one-clause-breaks g c =
    let h = λ (named : Named) (at : AreNamed named c.args.waiting.request.work c.args.waiting.block).
    g.met.W.OwnWork.moves_breaks named c.args.works.now c.do_own.new.works c.do_own.new.works c.in_ok-end.field-0.taken Memory (c.in_ok-end.ensures.moves named at) (g.met.W.OwnWork.memory_breaks named c.do_own.new.works) in
    search rules

pub returns-in-Ends-clause-breaks : goal.returns-in-Ends-clause-breaks
returns-in-Ends-clause-breaks g c =
    memory_stop c.end_request.result
    (λ stop. (named : Named) → AreNamed named c.args.waiting.request.work c.args.waiting.block → g.W.OwnWork.breaks named c.args.works.now c.end_request.new.works stop)
    c.end_request.ensures.err
    (λ named at.
    (let m = c.in_ok-end.ensures.moves named at in
    g.met.W.OwnWork.moves_breaks named c.args.works.now c.end_request.new.works c.end_request.new.works _ Memory
    (c.end_request.ensures.moves named c.args.works.now c.in_ok-end.field-0.taken m (λ none. m)) (g.met.W.OwnWork.memory_breaks named c.end_request.new.works)))

pub give_back-requires : goal.give_back-requires
give_back-requires g c =
    let named : Named = naming c.args.waiting.request.work c.args.waiting.block in
    (named, (c.args.works.now, c.in_ok-end.ensures.moves named (names_itself c.args.waiting.request.work c.args.waiting.block)))
