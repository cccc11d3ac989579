use Rattle.std.proofs.Common.{◌≡◌, ap, arith, inr, length, refl, subst, sym, take, true, ◌∙◌}
use Rattle.std.specs.List.{list_all}
use Rattle.zio_children.specs.RequestKids.{is_ended}
use Rattle.zio_stages.specs.RequestStoreds.{made_by}
use Rattle.zio_masks.specs.declared.stage.Stage.TheVariants.{Done}
use Rattle.zio_script.specs.Requests.{kind_of}
use Rattle.zio_stages.specs.KidTrees.{KidsHeld}
use Rattle.zio_stages.specs.RequestNodes.{IsRequestNode}
use Rattle.zio_stages.specs.declared.request_node.RequestNode.{RequestNode}
use Rattle.zio_nodes.specs.WriteBounds.{end_left}
use Rattle.zio_nodes.specs.declared.node.Node.TheVariants.{Request}
use Rattle.zio_nodes.specs.declared.request_at.RequestAt.{RequestAt}
use Rattle.zio_nodes.proofs.KidMarks.{over_own}
use Rattle.zio_nodes.proofs.OwnBare.{moves_with, stays_with}
use Rattle.zio_nodes.proofs.RequestMoves.{request_goes, request_waits}
use Rattle.zio_nodes.proofs.StoredLemmas.{is_stored_with, still_written}
use Rattle.zio_nodes.proofs.WriteEnds.{ends_behind, ends_last, left_behind, stays_behind}
use Rattle.zio_nodes.proofs.WriteLemmas.{all_out, none_gave, same_gave, stands_in, stands_to, write_gave, write_less}
use Rattle.zio_nodes.proofs.request_at.RequestAt.write_done.Goals as goal

pub write_end-requires-clause-stored : goal.write_end-requires-clause-stored
write_end-requires-clause-stored g c = sym c.is_stored.ensures ∙ c.if-is_stored.true

pub returns-then-is_stored-clause-last : goal.returns-then-is_stored-clause-last
returns-then-is_stored-clause-last g c = ends_last (Request c.write_end.new.self) c.write_end.result c.write_end.ensures.ends

pub done_write-requires : goal.done_write-requires
done_write-requires g c =
    let at = c.args.self.now in
    still_written at.node
    (stands_in (g.S.Services.tops c.args.services.now) at.stage Done at.is_due at.node c.requires.kind c.requires.stage tt c.requires.over.stands)
    (sym c.is_stored.ensures ∙ c.if-is_stored.false)

pub returns-in-Wait-clause-moves : goal.returns-in-Wait-clause-moves
returns-in-Wait-clause-moves g c =
    let at = c.args.self.now in
    let tops = g.S.Services.tops c.args.services.now in
    let out = all_out tops at.stage Done at.is_due at.node c.requires.stage tt c.requires.over.stands in
    moves_with g.S.Services.made tops c.args.services.now (Request at) _ (g.met.S.Services.made_none c.args.services.now)
    (λ t st now. request_waits t st at at c.in-Wait.kind _ now.is refl refl (c.done_write.ensures.wait c.in-Wait.kind c.in-Wait.is t st now.seated now.is out))

pub end_write-requires : goal.end_write-requires
end_write-requires g c = (c.done_write.ensures.close c.in_default.is).0

pub returns-in-Err-clause-refused : goal.returns-in-Err-clause-refused
returns-in-Err-clause-refused g c =
    let at = c.args.self.now in
    let new = c.end_write.new.self in
    let same = c.in-Err.ensures.err in
    stays_with g.S.Services.made (g.S.Services.tops c.args.services.now) c.args.services.now (Request at) _ (g.met.S.Services.made_none c.args.services.now)
    (λ t st now. request_goes t st at _ (subst (λ (r : RequestNode). IsRequestNode t r st) (sym same) now.is) refl (same_gave at.node new same))

pub write_end-requires-in-Ok-clause-over : goal.write_end-requires-in-Ok-clause-over
write_end-requires-in-Ok-clause-over g c =
    let at = c.args.self.now in
    let tops = g.S.Services.tops c.args.services.now in
    let new = c.end_write.new.self in
    let rest = c.end_write.ensures.rest in
    let kind = ap (λ (r : RequestNode). kind_of r.waiting.request.work) rest ∙ c.requires.kind in
    let out = all_out tops at.stage Done at.is_due at.node c.requires.stage tt c.requires.over.stands in
    let same = sym (ap (λ (r : RequestNode). r.kids) rest) in
    record {
      over = over_own tops at.node new at.node.family rest c.requires.over.over (c.in-Ok.ensures.over tops c.requires.over.over.own);
      stands = stands_to tops at.stage Done at.is_due new kind c.requires.stage tt
          (subst (λ (k : KidsHeld). k.kids.handed ≡ length k.kids.kids) same out)
          (inr (record {
            stored = c.in-Ok.ensures.stored;
            ended = subst (λ (k : KidsHeld). list_all is_ended k.kids.kids ≡ true) same (c.done_write.ensures.close c.in_default.is).1;
            none = λ well. c.in-Ok.ensures.none;
          }));
    }

pub returns-in-Ok-clause-moves : goal.returns-in-Ok-clause-moves
returns-in-Ok-clause-moves g c =
    let at = c.args.self.now in
    let new = c.end_write.new.self in
    let mid : RequestAt = record { node = new; stage = at.stage; is_due = at.is_due } in
    let rest = c.end_write.ensures.rest in
    let kind = ap (λ (r : RequestNode). kind_of r.waiting.request.work) rest ∙ c.requires.kind in
    let unstored = sym c.is_stored.ensures ∙ c.if-is_stored.false in
    let gave = write_gave new kind ∙ ap (λ n. take n (made_by new.own)) c.in-Ok.ensures.none ∙ sym (none_gave at.node c.requires.kind unstored) in
    ends_behind g.S.Services.made (g.S.Services.tops c.args.services.now) c.args.services.now c.write_end-in-Ok.new.services at mid (Request c.write_end-in-Ok.new.self)
    c.write_end-in-Ok.result c.requires.stage refl gave
    (λ t st now. c.in-Ok.ensures.ends t st now.is) c.write_end-in-Ok.ensures.ends c.write_end-in-Ok.ensures.moves

pub returns-in-Ok-clause-refused : goal.returns-in-Ok-clause-refused
returns-in-Ok-clause-refused g c =
    let at = c.args.self.now in
    let new = c.end_write.new.self in
    let mid : RequestAt = record { node = new; stage = at.stage; is_due = at.is_due } in
    let rest = c.end_write.ensures.rest in
    let kind = ap (λ (r : RequestNode). kind_of r.waiting.request.work) rest ∙ c.requires.kind in
    let unstored = sym c.is_stored.ensures ∙ c.if-is_stored.false in
    let gave = write_gave new kind ∙ ap (λ n. take n (made_by new.own)) c.in-Ok.ensures.none ∙ sym (none_gave at.node c.requires.kind unstored) in
    stays_behind g.S.Services.made (g.S.Services.tops c.args.services.now) c.args.services.now c.write_end-in-Ok.new.services at mid (Request c.write_end-in-Ok.new.self)
    c.write_end-in-Ok.result c.requires.stage refl gave
    (λ t st now. c.in-Ok.ensures.ends t st now.is) c.write_end-in-Ok.ensures.refused

pub returns-in-Ok-clause-left : goal.returns-in-Ok-clause-left
returns-in-Ok-clause-left g c =
    let at = c.args.self.now in
    let new = c.end_write.new.self in
    let mid : RequestAt = record { node = new; stage = at.stage; is_due = at.is_due } in
    let rest = c.end_write.ensures.rest in
    let kind = ap (λ (r : RequestNode). kind_of r.waiting.request.work) rest ∙ c.requires.kind in
    let unstored = sym c.is_stored.ensures ∙ c.if-is_stored.false in
    left_behind at mid (Request c.write_end-in-Ok.new.self) c.write_end-in-Ok.result
    (write_less at mid Done Done c.requires.kind kind c.requires.stage c.requires.stage tt tt (ap (λ (r : RequestNode). r.kids.due) rest)
    (omega (arith, ap end_left (is_stored_with _ new.own c.in-Ok.ensures.stored), ap end_left unstored)))
    c.write_end-in-Ok.ensures.ends c.write_end-in-Ok.ensures.left

pub returns-in-Ok-clause-last : goal.returns-in-Ok-clause-last
returns-in-Ok-clause-last g c = ends_last (Request c.write_end-in-Ok.new.self) c.write_end-in-Ok.result c.write_end-in-Ok.ensures.ends

pub write_end-requires-in-Ok-clause-stored : goal.write_end-requires-in-Ok-clause-stored
write_end-requires-in-Ok-clause-stored g c = is_stored_with _ c.end_write.new.self.own c.in-Ok.ensures.stored
