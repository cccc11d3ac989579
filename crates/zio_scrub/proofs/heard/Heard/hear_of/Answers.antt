use Rattle.std.proofs.Common.{◌+◌, ◌-◌, ℕ, get_or, sym, subst, refl, arith, take, drop}
use Rattle.zio_scrub.specs.declared.heard.Mark.TheVariants.{Good, Bad}
use Rattle.zio_scrub.specs.declared.heard.Source.{Source}
use Rattle.zio_scrub.specs.Reads.{IsAt, all_good, no_copy}
use Rattle.zio_scrub.proofs.HearLemmas.{at_default, every_slice, heard_bad, heard_good, outs_after, stored, true_bad, true_good}
use Rattle.zio_scrub.proofs.PickLemmas.{all_got}
use Rattle.zio_scrub.proofs.heard.Heard.hear_of.Goals as goal

pub good_bytes-requires-clause-valid : goal.good_bytes-requires-clause-valid
good_bytes-requires-clause-valid c = all_got _ c.args.layout.now.pieces c.args.piece c.args.numbered.now c.requires.piece.within c.requires.piece.is c.requires.sound.pieces

pub good_bytes-requires-clause-whole : goal.good_bytes-requires-clause-whole
good_bytes-requires-clause-whole c = λ none.
    let at = at_default c.args.layout.now.copies c.args.answer.ticket no_copy c.requires.hearable.there in
    let copy = get_or c.args.layout.now.copies c.args.answer.ticket no_copy in
    let e = c.requires.copy copy at in
    let room = c.requires.sound.room c.args.answer.ticket copy c.args.numbered.now at (subst (λ (k : ℕ). IsAt c.args.layout.now.pieces k c.args.numbered.now) (sym e) c.requires.piece) in
    let whole = c.requires.hearable.whole copy at none in
    omega (arith, room, whole)

pub returns-in-None-clause-heard : goal.returns-in-None-clause-heard
returns-in-None-clause-heard c =
    let at = at_default c.args.layout.now.copies c.args.answer.ticket no_copy c.requires.hearable.there in
    heard_bad c.args.layout.now c.args.self.now _ c.args.answer (get_or c.args.layout.now.copies c.args.answer.ticket no_copy) c.requires.sound c.requires.heard
    c.requires.hearable at refl refl

pub returns-in-None-clause-marks : goal.returns-in-None-clause-marks
returns-in-None-clause-marks c = λ ticket.
    outs_after c.args.self.now.marks.items c.args.answer.ticket Bad ticket (let a = c.requires.hearable.there in let b = c.requires.heard.marks in omega arith) refl

pub returns-in-None-clause-told : goal.returns-in-None-clause-told
returns-in-None-clause-told c = λ s images truth told.
    let at = at_default c.args.layout.now.copies c.args.answer.ticket no_copy c.requires.hearable.there in
    let copy = get_or c.args.layout.now.copies c.args.answer.ticket no_copy in
    let e = c.requires.copy copy at in
    true_bad s images c.args.layout.now c.args.self.now _ c.args.answer copy c.args.numbered.now c.requires.heard c.requires.hearable at
    (subst (λ (k : ℕ). IsAt c.args.layout.now.pieces k c.args.numbered.now) (sym e) c.requires.piece) refl refl c.in-None.ensures.good truth told

pub returns-in-Some-clause-marks : goal.returns-in-Some-clause-marks
returns-in-Some-clause-marks c = λ ticket.
    outs_after c.args.self.now.marks.items c.args.answer.ticket Good ticket (let a = c.requires.hearable.there in let b = c.requires.heard.marks in omega arith) refl

-- what the slice says of all marks
pub returns-in-Some-clause-heard : goal.returns-in-Some-clause-heard
returns-in-Some-clause-heard c =
    let h = c.args.self.now in
    let t = c.args.answer.ticket in
    let n = c.args.numbered.now in
    let at = at_default c.args.layout.now.copies t no_copy c.requires.hearable.there in
    let copy = get_or c.args.layout.now.copies t no_copy in
    let e = c.requires.copy copy at in
    let all = all_good (take (n.first + n.count - n.first) (drop n.first c.deref.result.now)) in
    let source : Source = record { copy = t; bytes = c.in-Some.bytes } in
    heard_good c.args.layout.now h _ c.args.answer copy n all source c.requires.sound c.requires.heard c.requires.hearable at
    (subst (λ (k : ℕ). IsAt c.args.layout.now.pieces k n) (sym e) c.requires.piece) refl
    (stored h.sources.items c.args.piece copy.piece all c.index_mut-in-Some-2.result.now c.keep.new.kept source (sym e)
    (let w = c.requires.piece.within in let b = c.requires.heard.sources in omega arith) c.index_mut-in-Some-2.ensures.value c.keep.ensures) refl c.in-Some.ensures.whole
    (λ yes i l. every_slice h.marks.items t n.first n.count c.deref.result.now c.deref.ensures.value
    (let w = c.requires.sound.within c.args.piece n c.requires.piece in let b = c.requires.heard.marks in omega arith) yes i l)

pub returns-in-Some-clause-told : goal.returns-in-Some-clause-told
returns-in-Some-clause-told c = λ s images truth told.
    let h = c.args.self.now in
    let t = c.args.answer.ticket in
    let n = c.args.numbered.now in
    let at = at_default c.args.layout.now.copies t no_copy c.requires.hearable.there in
    let copy = get_or c.args.layout.now.copies t no_copy in
    let e = c.requires.copy copy at in
    let all = all_good (take (n.first + n.count - n.first) (drop n.first c.deref.result.now)) in
    let source : Source = record { copy = t; bytes = c.in-Some.bytes } in
    true_good s images c.args.layout.now h _ c.args.answer copy n all source c.requires.heard c.requires.hearable at
    (subst (λ (k : ℕ). IsAt c.args.layout.now.pieces k n) (sym e) c.requires.piece) refl
    (stored h.sources.items c.args.piece copy.piece all c.index_mut-in-Some-2.result.now c.keep.new.kept source (sym e)
    (let w = c.requires.piece.within in let b = c.requires.heard.sources in omega arith) c.index_mut-in-Some-2.ensures.value c.keep.ensures) refl
    c.in-Some.ensures.good truth told
