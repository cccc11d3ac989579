use Rattle.std.proofs.Common.{sym, subst, refl}
use Rattle.zio_stages.specs.RequestFrees.{freed_by}
use Rattle.zio_stages.specs.StoredBlocks.{block_places}
use Rattle.zio_stages.specs.OwnFrees.{IsOwnFree}
use Rattle.zio_stages.specs.declared.own_free.FreeWalk.{FreeWalk}
use Rattle.zio_stages.proofs.RequestFreeMoves.{free_in, free_node, frees_block, own_free}
use Rattle.zio_stages.proofs.GiveBackLemmas.{gives_none}
use Rattle.zio_stages.proofs.request_node.RequestNode.dva_free.Goals as goal

pub returns-clause-same : goal.returns-clause-same
returns-clause-same g c = λ t st h.
    let r = c.args.self.now in
    let w = c.in-Free.own in
    let own = free_in t r st w h c.in-Free.is in
    free_node t r st st c.dva_free.new.self r.family own.tree h (frees_block t r st w h own) refl
    (subst (λ (x : FreeWalk). IsOwnFree x r.family own.tree h.kid_asked h.kid_slots st) (sym c.dva_free.ensures.same) (own_free t r st w h own))

pub returns-in_default-clause-gives : goal.returns-in_default-clause-gives
returns-in_default-clause-gives g c =
    gives_none g.S.Services.made (block_places c.args.self.now.waiting.block) (freed_by c.args.self.now.own) c.args.services.now (g.met.S.Services.made_none c.args.services.now)
