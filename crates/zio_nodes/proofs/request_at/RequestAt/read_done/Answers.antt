use Rattle.std.proofs.Common.{refl, sym, ap, subst, ◌∙◌, arith}
use Rattle.std.specs.List.{list_all}
use Rattle.zio_masks.specs.declared.stage.Stage.{Stage}
use Rattle.zio_masks.specs.declared.stage.Stage.TheVariants.{Done}
use Rattle.zio_types.specs.declared.request.Phase.TheVariants.{Done as DonePhase}
use Rattle.zio_children.specs.RequestKids.{is_ended}
use Rattle.zio_stages.specs.RequestReads.{IsAlone}
use Rattle.zio_staged.specs.Stages.{told_cost}
use Rattle.zio_nodes.specs.OwnAts.{HasReadAll, IsReadAtStage}
use Rattle.zio_nodes.specs.declared.node.Node.TheVariants.{Request}
use Rattle.zio_nodes.specs.declared.request_at.RequestAt.{RequestAt}
use Rattle.zio_nodes.proofs.OwnBare.{refused_bare, waits_bare}
use Rattle.zio_nodes.proofs.OwnEnds.{IsSame, lessens_from, moves_from, stays_from}
use Rattle.zio_nodes.proofs.OwnLefts.{read_gave_same, read_less, read_own_left, own_pays, still_read}
use Rattle.zio_nodes.proofs.OwnOver.{read_no_write, read_over, read_stands, handed_at, is_read, not_start}
use Rattle.zio_nodes.proofs.ReadStages.{ended_less, ended_pays, found_stands, none_more_own, with_map}
use Rattle.zio_nodes.proofs.request_at.RequestAt.read_done.Goals as goal

pub returns-in-Wait-clause-moves : goal.returns-in-Wait-clause-moves
returns-in-Wait-clause-moves c = λ tops.
    let at = c.args.self.now in
    let behind = not_start at.stage Done c.requires.stage (λ e. cc) in
    waits_bare tops at c.in-Wait.kind DonePhase (λ t st same seated is. c.done_read.ensures.wait c.in-Wait.kind c.in-Wait.is t st seated is)

pub done_read-requires : goal.done_read-requires
done_read-requires c =
    let at = c.args.self.now in
    let work = is_read at.node.waiting.request.work c.requires.kind in
    let behind = not_start at.stage Done c.requires.stage (λ e. cc) in
    let now = read_stands c.requires.over.0 at Done work c.requires.over.1 c.requires.stage (λ e. cc) in
    record { alone = with_map HasReadAll IsAlone at.node.own (λ w h. h.1) now; handed = handed_at c.requires.over.0 at c.requires.over.1 behind }

pub unreachable-requires : goal.unreachable-requires
unreachable-requires c =
    let at = c.args.self.now in
    let work = is_read at.node.waiting.request.work c.requires.kind in
    let now = read_stands c.requires.over.0 at Done work c.requires.over.1 c.requires.stage (λ e. cc) in
    none_more_own at.node.own now (c.done_read.ensures.more c.in-More.is)

pub end_read-requires : goal.end_read-requires
end_read-requires c = (c.done_read.ensures.close c.in-Close.is).0

pub end_found-requires : goal.end_found-requires
end_found-requires c =
    let at = c.args.self.now in
    let r = at.node in
    let work = is_read r.waiting.request.work c.requires.kind in
    let behind = not_start at.stage Done c.requires.stage (λ e. cc) in
    let over = c.requires.over in
    let new = c.end_read.new.self in
    record {
      found = c.in-Ok.ensures.found;
      ended = ap (λ x. list_all is_ended x.kids.kids) c.end_read.ensures.kids ∙ (c.done_read.ensures.close c.in-Close.is).1;
      other = read_no_write new.waiting.request.work (still_read r new c.end_read.ensures.rest work);
      over = (
        over.0,
        read_over over.0 at new at.stage at.is_due work over.1 behind c.end_read.ensures.rest (c.end_read.ensures.over over.0 over.1.over.own)
            (subst (λ (s : Stage). IsReadAtStage over.0 s at.is_due new.own new.waiting.block) (sym c.requires.stage)
            (found_stands HasReadAll new.own c.in-Ok.ensures.found)),
      );
      stage = c.requires.stage;
    }

pub returns-in-Ok-clause-moves : goal.returns-in-Ok-clause-moves
returns-in-Ok-clause-moves c = λ tops.
    let at = c.args.self.now in
    let r = at.node in
    let work = is_read r.waiting.request.work c.requires.kind in
    let new = c.end_read.new.self in
    let b : RequestAt = record { node = new; stage = at.stage; is_due = at.is_due } in
    let same : IsSame at b = record {
      is = c.in-Ok.ensures.ends;
      told = refl;
      gave = read_gave_same r new work c.end_read.ensures.rest;
    } in
    moves_from tops at b (Request c.end_found.new.self) c.end_found.result same (c.end_found.ensures.moves tops)

pub returns-in-Ok-clause-over : goal.returns-in-Ok-clause-over
returns-in-Ok-clause-over c = λ tops h.
    let at = c.args.self.now in
    let r = at.node in
    let work = is_read r.waiting.request.work c.requires.kind in
    let behind = not_start at.stage Done c.requires.stage (λ e. cc) in
    let new = c.end_read.new.self in
    c.end_found.ensures.over tops (read_over tops at new at.stage at.is_due work h behind c.end_read.ensures.rest (c.end_read.ensures.over tops h.over.own)
    (subst (λ (s : Stage). IsReadAtStage tops s at.is_due new.own new.waiting.block) (sym c.requires.stage)
    (found_stands HasReadAll new.own c.in-Ok.ensures.found)))

pub returns-in-Ok-clause-left : goal.returns-in-Ok-clause-left
returns-in-Ok-clause-left c =
    let at = c.args.self.now in
    let r = at.node in
    let work = is_read r.waiting.request.work c.requires.kind in
    let behind = not_start at.stage Done c.requires.stage (λ e. cc) in
    let new = c.end_read.new.self in
    let b : RequestAt = record { node = new; stage = at.stage; is_due = at.is_due } in
    let less = read_less at new at.stage at.is_due 0 work behind behind c.end_read.ensures.rest (ended_less r.own new.own at.stage at.is_due c.in-Ok.ensures.found) in
    let pays = own_pays b told_cost _ (read_own_left b (still_read r new c.end_read.ensures.rest work) behind) (ended_pays new.own at.stage at.is_due c.requires.stage) in
    lessens_from (Request at) (Request b) (Request c.end_found.new.self) c.end_found.result (omega (arith, less)) (c.end_found.ensures.left pays)

pub returns-in-Ok-clause-refused : goal.returns-in-Ok-clause-refused
returns-in-Ok-clause-refused c = λ tops.
    let at = c.args.self.now in
    let r = at.node in
    let work = is_read r.waiting.request.work c.requires.kind in
    let new = c.end_read.new.self in
    let b : RequestAt = record { node = new; stage = at.stage; is_due = at.is_due } in
    let same : IsSame at b = record {
      is = c.in-Ok.ensures.ends;
      told = refl;
      gave = read_gave_same r new work c.end_read.ensures.rest;
    } in
    stays_from tops at b (Request c.end_found.new.self) c.end_found.result same (c.end_found.ensures.refused tops)

pub returns-in-Err-clause-refused : goal.returns-in-Err-clause-refused
returns-in-Err-clause-refused c = λ tops. refused_bare tops c.args.self.now c.end_read.new.self c.args.self.now.stage c.args.self.now.is_due c.in-Err.ensures.err refl
