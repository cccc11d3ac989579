use Rattle.std.proofs.Common.{◌≡◌, ◌<◌, length, ◌∙◌, ap, arith, sym, subst, slice_index_or, slice_set}
use Rattle.std.proofs.lemmas.List.{get_or_default, length-set}
use Rattle.std.proofs.lemmas.List.Elements.{All-get_or}
use Rattle.crossbeam_queue.specs.Passes.{view}
use Rattle.zio_tasks.specs.declared.hand.Pile.{Pile}
use Rattle.zio_tasks.specs.Rule.{pile}
use Rattle.zio_tasks.specs.Team.{IsPassOf, Lent, hands_at}
use Rattle.zio_tasks.proofs.Settling.{spared_all, spared_hands, spared_lent, turn, turn_rest, gathered, all_gathered}
use Rattle.zio_tasks.proofs.tasks.Tasks.gather.Goals as goal

pub lend-requires-clause-pass : goal.lend-requires-clause-pass
lend-requires-clause-pass g c =
    let passes = c.args.passes.now in
    let first = slice_index_or passes 0 c.index-passes-0.result in
    let is : first ≡ slice_index_or passes 0 first = get_or_default passes 0 c.index-passes-0.result first c.requires.passes.some in
    let own = spared_all c.args.self.now passes c.args.place first c.spare-all.new.pass c.requires.passes c.requires.place is c.spare-all.ensures.pass in
    subst (IsPassOf c.args.self.now) (sym (c.loop-pass.invariant.4 c.loop-pass.pass-index c.pass-item.result (omega arith)))
    (All-get_or (IsPassOf c.args.self.now) (slice_set passes 0 c.spare-all.new.pass) c.loop-pass.pass-index c.pass-item.result c.loop-pass-test.true own)

pub loop-pass-preserved : goal.loop-pass-preserved
loop-pass-preserved g c =
    let init : _ = slice_set c.args.passes.now 0 c.spare-all.new.pass in
    let k = c.loop-pass.pass-index in
    let team = c.loop-pass.passes in
    let item = c.pass-item.result in
    let there : k < length team = omega arith in
    let same : slice_index_or team k item ≡ slice_index_or init k item = c.loop-pass.invariant.4 k item (omega arith) in (
      c.lend.ensures.seat,
      ap (λ (y : Pile g.row.T.Denot). y.hands) c.lend.ensures.hands ∙ gathered c.args.place k 0 init team item (view c.loop-pass.all).hands c.loop-pass-test.true same c.loop-pass.invariant.1,
      (λ _. ap (λ (y : Pile g.row.T.Denot). y.passes) c.lend.ensures.hands),
      turn (λ j b a. Lent c.args.place b a) k init team item c.lend.new.pass there c.loop-pass.invariant.3 c.loop-pass.invariant.4 c.lend.ensures.pass,
      turn_rest (λ j b a. Lent c.args.place b a) k init team item c.lend.new.pass there c.loop-pass.invariant.3 c.loop-pass.invariant.4 c.lend.ensures.pass,
    )

pub returns-clause-hands : goal.returns-clause-hands
returns-clause-hands g c =
    let passes = c.args.passes.now in
    let first = slice_index_or passes 0 c.index-passes-0.result in
    let is : first ≡ slice_index_or passes 0 first = get_or_default passes 0 c.index-passes-0.result first c.requires.passes.some in
    let init : _ = slice_set passes 0 c.spare-all.new.pass in
    let some = c.requires.passes.some in
    let long = length-set passes 0 c.spare-all.new.pass in
    let hands = c.loop-pass.invariant.1 ∙ all_gathered c.args.place c.loop-pass.pass-index init (omega arith) ∙ spared_hands c.args.self.now passes c.args.place first c.spare-all.new.pass c.requires.passes c.requires.place is c.spare-all.ensures.pass in
    let n = c.loop-pass.invariant.2 (omega arith) in
    ap (λ l. pile l (view c.loop-pass.all).passes) hands ∙ ap (λ m. pile (hands_at c.args.place passes) m) n

pub returns-clause-passes : goal.returns-clause-passes
returns-clause-passes g c =
    let passes = c.args.passes.now in
    let first = slice_index_or passes 0 c.index-passes-0.result in
    let is : first ≡ slice_index_or passes 0 first = get_or_default passes 0 c.index-passes-0.result first c.requires.passes.some in
    let long = length-set passes 0 c.spare-all.new.pass in
    spared_lent c.args.self.now passes c.args.place first c.spare-all.new.pass c.requires.passes c.requires.place is c.spare-all.ensures.pass c.loop-pass.passes (λ j d h. c.loop-pass.invariant.3 j d (omega arith))
