use Rattle.std.proofs.Common.{refl, sym, ap, subst, ◌∙◌, arith}
use Rattle.std.specs.List.{list_all}
use Rattle.zio_masks.specs.declared.stage.Stage.{Stage}
use Rattle.zio_masks.specs.declared.stage.Stage.TheVariants.{Done}
use Rattle.zio_types.specs.declared.request.Phase.TheVariants.{Done as DonePhase}
use Rattle.zio_children.specs.RequestKids.{is_ended}
use Rattle.zio_stages.specs.RequestFrees.{HasFreed, HasKeptFailed}
use Rattle.zio_staged.specs.Stages.{told_cost}
use Rattle.zio_nodes.specs.OwnAts.{IsFreeAtStage}
use Rattle.zio_nodes.specs.declared.node.Node.TheVariants.{Request}
use Rattle.zio_nodes.specs.declared.request_at.RequestAt.{RequestAt}
use Rattle.zio_nodes.proofs.OwnBare.{waits_bare}
use Rattle.zio_nodes.proofs.OwnEnds.{IsSame, lessens_from, moves_from, stays_from}
use Rattle.zio_nodes.proofs.OwnLefts.{free_gave_same, free_less, free_own_left, own_pays, still_free}
use Rattle.zio_nodes.proofs.OwnOver.{free_no_write, free_over, free_stands, handed_at, is_free, not_start}
use Rattle.zio_nodes.proofs.FreeLemmas.{ended_less, ended_pays, ended_same, found_stands}
use Rattle.zio_nodes.proofs.request_at.RequestAt.free_done.Goals as goal

pub returns-in-Wait-clause-moves : goal.returns-in-Wait-clause-moves
returns-in-Wait-clause-moves c = λ tops.
    let at = c.args.self.now in
    let behind = not_start at.stage Done c.requires.stage (λ e. cc) in
    let handed = handed_at c.requires.over.0 at c.requires.over.1 behind in
    waits_bare tops at c.in-Wait.kind DonePhase (λ t st same seated is. c.done_null.ensures.wait c.in-Wait.kind c.in-Wait.is t st seated is handed)

pub end_free-requires : goal.end_free-requires
end_free-requires c =
    let at = c.args.self.now in
    let work = is_free at.node.waiting.request.work c.requires.kind in
    (free_stands c.requires.over.0 at Done work c.requires.over.1 c.requires.stage (λ e. cc)).0

pub end_found-requires : goal.end_found-requires
end_found-requires c =
    let at = c.args.self.now in
    let r = at.node in
    let work = is_free r.waiting.request.work c.requires.kind in
    let behind = not_start at.stage Done c.requires.stage (λ e. cc) in
    let over = c.requires.over in
    let new = c.end_free.new.self in
    record {
      found = c.end_free.ensures.found;
      ended = ap (λ x. list_all is_ended x.kids.kids) c.end_free.ensures.kids ∙ c.done_null.ensures.close c.in_default.is;
      other = free_no_write new.waiting.request.work (still_free r new c.end_free.ensures.rest work);
      over = (
        over.0,
        free_over over.0 at new at.stage at.is_due work over.1 behind c.end_free.ensures.rest (c.end_free.ensures.over over.0 over.1.over.own)
            (subst (λ (s : Stage). IsFreeAtStage s at.is_due new.own new.waiting.block) (sym c.requires.stage)
            (found_stands (HasFreed new.waiting.block) new.own c.end_free.ensures.found, found_stands HasKeptFailed new.own c.end_free.ensures.found)),
      );
      stage = c.requires.stage;
    }

pub returns-clause-moves : goal.returns-clause-moves
returns-clause-moves c = λ tops.
    let at = c.args.self.now in
    let r = at.node in
    let work = is_free r.waiting.request.work c.requires.kind in
    let new = c.end_free.new.self in
    let now = free_stands c.requires.over.0 at Done work c.requires.over.1 c.requires.stage (λ e. cc) in
    let b : RequestAt = record { node = new; stage = at.stage; is_due = at.is_due } in
    let same : IsSame at b = record {
      is = c.end_free.ensures.ends;
      told = refl;
      gave = free_gave_same r new work c.end_free.ensures.rest
          (ended_same r.own new.own r.waiting.block now.0 now.1 c.end_free.ensures.error c.end_free.ensures.found
          (λ f. ap (λ x. x.own) (c.end_free.ensures.still f)));
    } in
    moves_from tops at b (Request c.end_found.new.self) c.end_found.result same (c.end_found.ensures.moves tops)

pub returns-clause-over : goal.returns-clause-over
returns-clause-over c = λ tops h.
    let at = c.args.self.now in
    let r = at.node in
    let work = is_free r.waiting.request.work c.requires.kind in
    let behind = not_start at.stage Done c.requires.stage (λ e. cc) in
    let new = c.end_free.new.self in
    c.end_found.ensures.over tops (free_over tops at new at.stage at.is_due work h behind c.end_free.ensures.rest (c.end_free.ensures.over tops h.over.own)
    (subst (λ (s : Stage). IsFreeAtStage s at.is_due new.own new.waiting.block) (sym c.requires.stage)
    (found_stands (HasFreed new.waiting.block) new.own c.end_free.ensures.found, found_stands HasKeptFailed new.own c.end_free.ensures.found)))

pub returns-clause-left : goal.returns-clause-left
returns-clause-left c =
    let at = c.args.self.now in
    let r = at.node in
    let work = is_free r.waiting.request.work c.requires.kind in
    let behind = not_start at.stage Done c.requires.stage (λ e. cc) in
    let new = c.end_free.new.self in
    let b : RequestAt = record { node = new; stage = at.stage; is_due = at.is_due } in
    let less = free_less at new at.stage at.is_due 0 work behind behind c.end_free.ensures.rest (ended_less r.own new.own at.stage c.end_free.ensures.found) in
    let pays = own_pays b told_cost _ (free_own_left b (still_free r new c.end_free.ensures.rest work) behind) (ended_pays new.own at.stage c.requires.stage) in
    lessens_from (Request at) (Request b) (Request c.end_found.new.self) c.end_found.result (omega (arith, less)) (c.end_found.ensures.left pays)

pub returns-clause-refused : goal.returns-clause-refused
returns-clause-refused c = λ tops.
    let at = c.args.self.now in
    let r = at.node in
    let work = is_free r.waiting.request.work c.requires.kind in
    let new = c.end_free.new.self in
    let now = free_stands c.requires.over.0 at Done work c.requires.over.1 c.requires.stage (λ e. cc) in
    let b : RequestAt = record { node = new; stage = at.stage; is_due = at.is_due } in
    let same : IsSame at b = record {
      is = c.end_free.ensures.ends;
      told = refl;
      gave = free_gave_same r new work c.end_free.ensures.rest
          (ended_same r.own new.own r.waiting.block now.0 now.1 c.end_free.ensures.error c.end_free.ensures.found
          (λ f. ap (λ x. x.own) (c.end_free.ensures.still f)));
    } in
    stays_from tops at b (Request c.end_found.new.self) c.end_found.result same (c.end_found.ensures.refused tops)
