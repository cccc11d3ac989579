use Rattle.std.proofs.Common.{◌≡◌, Some, ap, refl, subst, sym, ◌∙◌}
use Rattle.zio_masks.specs.declared.stage.Stage.TheVariants.{Done}
use Rattle.zio_exchange.specs.SpaceCalls.{calls_back}
use Rattle.zio_stages.specs.Labels.{closed_label}
use Rattle.zio_stages.specs.RequestNodes.{IsRequestNode}
use Rattle.zio_stages.specs.RequestStoreds.{found_by, is_well}
use Rattle.zio_stages.specs.Sealed.{Outcome}
use Rattle.zio_stages.specs.declared.request_node.OwnFound.{OwnFound}
use Rattle.zio_stages.specs.declared.request_node.RequestNode.{RequestNode}
use Rattle.zio_staged.specs.Stages.{Ends, OutcomeIn}
use Rattle.zio_nodes.specs.Nodes.{gave_of, nodes}
use Rattle.zio_nodes.specs.Told.{is_told}
use Rattle.zio_nodes.specs.TreeAts.{IsTreeOver}
use Rattle.zio_nodes.specs.declared.node.Node.{Node}
use Rattle.zio_nodes.specs.declared.node.Node.TheVariants.{Request}
use Rattle.zio_nodes.proofs.KidMarks.{over_own}
use Rattle.zio_nodes.proofs.LeftLemmas.{left_over}
use Rattle.zio_nodes.proofs.RequestMoves.{request_ends, request_gives}
use Rattle.zio_nodes.proofs.StoredLemmas.{HasGivenMore, closes_places, found_error, giving_back, more_gave, stored_ended}
use Rattle.zio_nodes.proofs.WriteLemmas.{same_gave, stands_in}
use Rattle.zio_masks.specs.declared.stage.Stage.{Stage}
use Rattle.zio_nodes.specs.StageMoves.{CallsFit}
use Rattle.zio_nodes.proofs.NodeLemmas.{all_returns}
use Rattle.zio_nodes.proofs.request_at.RequestAt.write_end.Goals as goal

pub give_block_back-requires : goal.give_block_back-requires
give_block_back-requires g c =
    let at = c.args.self.now in
    let k = giving_back at.node (stands_in (g.S.Services.tops c.args.services.now) at.stage Done at.is_due at.node c.requires.kind c.requires.stage tt c.requires.over.stands)
    c.requires.stored in
    record { stored = k.stored; ended = k.ended }

pub returns-in_default-clause-refused : goal.returns-in_default-clause-refused
returns-in_default-clause-refused g c =
    let at = c.args.self.now in
    let mid = c.give_block_back.new.self in
    let tops = g.S.Services.tops c.args.services.now in
    let k = giving_back at.node (stands_in tops at.stage Done at.is_due at.node c.requires.kind c.requires.stage tt c.requires.over.stands) c.requires.stored in
    let gives = c.give_block_back.ensures.gives in
    let more : HasGivenMore at.node mid gives.gone =
    record { rest = c.give_block_back.ensures.rest; was = k.stored; is = c.give_block_back.ensures.stored; found = c.give_block_back.ensures.own; are = gives.are } in
    record {
      calls = calls_back gives.gone;
      were_made = gives.calls;
      fits = subst (λ (s : Stage). CallsFit s (Request at) (calls_back gives.gone)) (sym c.requires.stage) (all_returns gives.gone);
      goes = λ t st now.
          request_gives t st at _ gives.gone (c.give_block_back.ensures.same t st now.is) refl (more_gave at.node mid gives.gone c.requires.kind more);
    }

pub returns-in-Ok-close_write-clause-moves : goal.returns-in-Ok-close_write-clause-moves
returns-in-Ok-close_write-clause-moves g c =
    let at = c.args.self.now in
    let mid = c.give_block_back.new.self in
    let tops = g.S.Services.tops c.args.services.now in
    let k = giving_back at.node (stands_in tops at.stage Done at.is_due at.node c.requires.kind c.requires.stage tt c.requires.over.stands) c.requires.stored in
    let gives = c.give_block_back.ensures.gives in
    let more : HasGivenMore at.node mid gives.gone =
    record { rest = c.give_block_back.ensures.rest; was = k.stored; is = c.give_block_back.ensures.stored; found = c.give_block_back.ensures.own; are = gives.are } in
    let end = c.in-Ok-close_write.ensures.ends in
    let by = end.2 in
    let label = closed_label mid.attempt by.closed in
    let found : found_by mid.own ≡ Some end.0 = end.1 in
    record {
      calls = calls_back gives.gone;
      were_made = gives.calls;
      fits = subst (λ (s : Stage). CallsFit s (Request at) (calls_back gives.gone)) (sym c.requires.stage) (all_returns gives.gone);
      moves = λ t st now.
          let h = c.give_block_back.ensures.same t st now.is in
          subst (λ (o : Outcome). Ends {N = Node} nodes gave_of t (Request at) st (calls_back gives.gone) o) (sym by.is)
          (request_ends t st at mid by.closed label gives.gone h (by.closes t st h) (ap is_told c.requires.stage)
          (stored_ended t mid st h c.give_block_back.ensures.stored)
          (closes_places t at.node mid st h label by.closed gives.gone c.requires.kind more k.none c.give_block_back.ensures.kept c.in-Ok.ensures.all
          (by.decides ∙ ap (is_well mid) (found_error mid.own end.0 c.give_block_back.ensures.stored found)) (ap (λ (own : OwnFound). Some own) by.own_is ∙ sym found)));
    }

pub returns-in-Ok-close_write-clause-over : goal.returns-in-Ok-close_write-clause-over
returns-in-Ok-close_write-clause-over g c =
    let at = c.args.self.now in
    let mid = c.give_block_back.new.self in
    let tops = g.S.Services.tops c.args.services.now in
    let over = c.requires.over.over in
    let by = c.in-Ok-close_write.ensures.ends.2 in
    let label = closed_label mid.attempt by.closed in
    subst (λ (o : Outcome). OutcomeIn (IsTreeOver tops) o) (sym by.is)
    (left_over tops mid by.closed label
    (over_own tops at.node mid at.node.family c.give_block_back.ensures.rest over (c.give_block_back.ensures.over tops over.own)) by.list)

pub returns-in-Err-clause-refused : goal.returns-in-Err-clause-refused
returns-in-Err-clause-refused g c =
    let at = c.args.self.now in
    let mid = c.give_block_back.new.self in
    let tops = g.S.Services.tops c.args.services.now in
    let k = giving_back at.node (stands_in tops at.stage Done at.is_due at.node c.requires.kind c.requires.stage tt c.requires.over.stands) c.requires.stored in
    let gives = c.give_block_back.ensures.gives in
    let more : HasGivenMore at.node mid gives.gone =
    record { rest = c.give_block_back.ensures.rest; was = k.stored; is = c.give_block_back.ensures.stored; found = c.give_block_back.ensures.own; are = gives.are } in
    let same = c.in-Err.ensures.same in
    record {
      calls = calls_back gives.gone;
      were_made = gives.calls;
      fits = subst (λ (s : Stage). CallsFit s (Request at) (calls_back gives.gone)) (sym c.requires.stage) (all_returns gives.gone);
      goes = λ t st now.
          request_gives t st at _ gives.gone (subst (λ (r : RequestNode). IsRequestNode t r st) (sym same) (c.give_block_back.ensures.same t st now.is))
          refl (same_gave mid c.close_write.new.self same ∙ more_gave at.node mid gives.gone c.requires.kind more);
    }
