use Rattle.std.proofs.Common.{◌≡◌, ◌<◌, ◌≤◌, ◌+◌, ◌++◌, [], ◌∙◌, ℕ, List, Option, length, get_or, sym, subst, ap, arith, refl}
use Rattle.std.specs.List.{AllByRecursion}
use Rattle.zio_scrub.specs.declared.heard.Mark.{Mark}
use Rattle.zio_scrub.specs.declared.heard.Source.{Source}
use Rattle.zio_scrub.specs.declared.layout.Numbered.{Numbered}
use Rattle.zio_scrub.specs.declared.repairs.Repair.{Repair}
use Rattle.zio_scrub.specs.Reads.{IsAt, IsFrom, no_numbered, settled_lost, settled_repairs, slice, source_at}
use Rattle.zio_scrub.proofs.GatherSteps.{few_next, from_next, room_next, source_is, told_last, told_next}
use Rattle.zio_scrub.proofs.HearLemmas.{at_default}
use Rattle.zio_scrub.proofs.ListLemmas.{drop_end, head_of}
use Rattle.zio_scrub.proofs.reads.gather.Goals as goal

none_yet : (repairs : List Repair) (n : ℕ) → repairs ≡ [] → length repairs ≤ n
none_yet repairs n e = let l = ap (λ (rs : List Repair). length rs) e in omega arith

pub loop-source-init : goal.loop-source-init
loop-source-init c = record {
  rest = c.into_iter-source-iterator.ensures.into_iter_gives ∙ c.into_rest-source-items.ensures ∙ c.from_vec.ensures;
  within = omega arith;
  copies = c.len.ensures;
  told = λ s images ps laid true_of. (c.new.ensures, refl);
  room = λ n at. omega arith;
  few = λ n at. none_yet c.new.result n.first c.new.ensures;
  most = none_yet c.new.result (length c.args.layout.now.copies) c.new.ensures;
  from = subst (λ (xs : List Repair). AllByRecursion (IsFrom c.args.layout.now) xs) (sym c.new.ensures) tt;
}

pub loop-source-preserved : goal.loop-source-preserved
loop-source-preserved c =
    let h = c.args.heard in
    let layout = c.args.layout.now in
    let p : ℕ = c.loop-source.number in
    let head = head_of h.sources.items p c.in-Some.source c.next.new.self (sym c.loop-source.invariant.rest ∙ c.in-Some.ensures.steps) in
    let low = head.at.within in
    let there : p < length c.as_slice.result.now =
    subst (λ (xs : List Numbered). p < length xs) (sym c.as_slice.ensures) (let q = c.requires.heard.heard.sources in omega arith) in
    let n : Numbered = get_or c.as_slice.result.now p no_numbered in
    let at : IsAt layout.pieces p n = subst (λ (xs : List Numbered). IsAt xs p n) c.as_slice.ensures (at_default c.as_slice.result.now p no_numbered there) in
    let src : c.in-Some.source ≡ source_at h p = sym (source_is h p c.in-Some.source head.at) in
    let old = c.loop-source.reading.repairs in
    let repairs =
    c.in_ok-settle_piece.ensures.repairs
    ∙ ap (λ (ms : List Mark). old ++ settled_repairs c.in-Some.source (slice ms n) (slice layout.copies n)) c.as_slice-in-loop-source.ensures.value
    ∙ ap (λ (o : Option Source). old ++ settled_repairs o (slice h.marks.items n) (slice layout.copies n)) src in
    let lost =
    c.in_ok-settle_piece.ensures.lost
    ∙ ap (λ (ms : List Mark). c.loop-source.reading.lost + settled_lost c.in-Some.source (slice ms n)) c.as_slice-in-loop-source.ensures.value
    ∙ ap (λ (o : Option Source). c.loop-source.reading.lost + settled_lost o (slice h.marks.items n)) src in
    let few : length c.settle_piece.new.reading.repairs ≤ n.first + n.count =
    few_next layout h p n old c.settle_piece.new.reading.repairs c.requires.sound c.requires.heard at repairs (c.loop-source.invariant.few n at) in
    record {
      rest = head.rest_is;
      within = omega arith;
      copies = c.in_ok-settle_piece.ensures.copies ∙ c.loop-source.invariant.copies;
      told = λ s images ps laid true_of.
          told_next s images ps layout h p n old c.settle_piece.new.reading.repairs c.loop-source.reading.lost c.settle_piece.new.reading.lost
          c.requires.sound c.requires.heard laid true_of at repairs lost (c.loop-source.invariant.told s images ps laid true_of);
      room = room_next layout h p n c.loop-source.reading.lost c.settle_piece.new.reading.lost c.requires.sound c.requires.heard at lost
          (c.loop-source.invariant.room n at);
      few = λ m next. let rise = c.requires.sound.rising p n m at next in let low = few in omega arith;
      most = let within = c.requires.sound.within p n at in let low = few in omega arith;
      from = from_next layout h p n old c.settle_piece.new.reading.repairs c.requires.sound c.requires.heard at repairs c.loop-source.invariant.from;
    }

pub returns-clause-told : goal.returns-clause-told
returns-clause-told c = λ s images ps laid true_of.
    let e = drop_end c.args.heard.sources.items c.loop-source.number (sym c.in-None.ensures.steps.0 ∙ c.loop-source.invariant.rest) c.loop-source.invariant.within in
    told_last s images ps c.args.layout.now c.args.heard c.loop-source.number c.loop-source.reading.repairs c.loop-source.reading.lost laid
    (e ∙ c.requires.heard.heard.sources) (c.loop-source.invariant.told s images ps laid true_of)
