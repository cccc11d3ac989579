use Rattle.std.proofs.Common.{◌≡◌, ◌≤◌, List, length, refl, sym, ap, subst, ◌∙◌, arith}
use Rattle.std.specs.Prelude.{IfSome, Option}
use Rattle.std.specs.List.{AllByRecursion}
use Rattle.zio_gang.specs.declared.tree.Head.{Head}
use Rattle.zio_gang.specs.declared.tree.Tree.{Tree}
use Rattle.zio_trace.specs.Tasks.{ByKept, ReadHeads, Task}
use Rattle.zio_frames.specs.Frames.{fresh_stack}
use Rattle.zio_stages.specs.HeadsNodes.{IsHeadOn, IsHeadsNode}
use Rattle.zio_stages.specs.RequestFrees.{IsFreeWith, IsFreeing, freed_by}
use Rattle.zio_stages.specs.RequestNodes.{IsOwnOver}
use Rattle.zio_stages.specs.RequestOwns.{IsBlockOn}
use Rattle.zio_stages.specs.StoredBlocks.{block_places}
use Rattle.zio_stages.specs.TreeWorks.{heads_task}
use Rattle.zio_stages.specs.declared.request_node.Own.{Own}
use Rattle.zio_stages.proofs.RequestFreeMoves.{free_goes_on, free_in, frees_block, hands_free, own_free}
use Rattle.zio_stages.proofs.RequestReadMoves.{count_front, same_block}
use Rattle.zio_stages.proofs.request_node.RequestNode.gang_assemble_free.Goals as goal

pub kept-requires-clause-depth : goal.kept-requires-clause-depth
kept-requires-clause-depth c = let e : length c.headers_name-name.result.path ≡ 0 = ap length c.headers_name-name.ensures in omega (arith, e)

pub kept-requires-clause-valid : goal.kept-requires-clause-valid
kept-requires-clause-valid c = (subst (λ (o : Option Tree). IfSome o (IsBlockOn c.requires.on.0)) c.in-Some.is c.requires.on.1).of_valid

pub returns-clause-hands : goal.returns-clause-hands
returns-clause-hands c = λ t st h.
    let r = c.args.self.now in
    let w = c.in-Free.own in
    let own = free_in t r st w h c.in-Free.is in
    let tree = c.in-Some.tree in
    let same : tree ≡ own.tree = same_block r.waiting.block tree own.tree c.in-Some.is own.block in
    let heads = c.in_ok-heads.ensures ∙ c.as_slice.ensures in
    let op : ReadHeads (ByKept c.in_ok-heads.heads) 8 c.headers_name-name.result.path tree.bp ≡ heads_task own.tree =
    (λ i. ReadHeads (ByKept (heads i)) 8 (c.headers_name-name.ensures i) tree.bp) ∙ ap heads_task same in
    hands_free t r st w c.gang_assemble.new.self c.gang_assemble.new.family (λ o. o ≡ heads_task own.tree) (λ o. IsHeadsNode t c.kept.result (fresh_stack o)) h own
    (λ o is. subst (λ (q : Task). IsHeadsNode t c.kept.result (fresh_stack q)) (op ∙ sym is) (c.kept.ensures.fresh t))
    (c.in_ok-gang_assemble.ensures.hands t t.setting.tops own.tree h.kid_asked h.kid_slots st (count_front t r st h own.all ∙ sym c.len-front.ensures.count)
    (free_goes_on t t.setting.tops r st own.tree h refl (frees_block t r st w h own)) (own_free t r st w h own))

pub returns-clause-child_over : goal.returns-clause-child_over
returns-clause-child_over c = λ tops on.
    let lies = subst (λ (o : Option Tree). IfSome o (IsBlockOn tops)) c.in-Some.is on in
    c.kept.ensures.over tops lies.lies (subst (λ (hs : List Head). AllByRecursion (IsHeadOn tops) hs) (sym (c.in_ok-heads.ensures ∙ c.as_slice.ensures)) lies.heads)

pub returns-clause-over : goal.returns-clause-over
returns-clause-over c = λ tops over. c.in_ok-gang_assemble.ensures.sits (subst (λ (o : Own). IsOwnOver tops o c.args.self.now.family) c.in-Free.is over)

pub returns-clause-frees : goal.returns-clause-frees
returns-clause-frees c =
    let r = c.args.self.now in
    subst (λ n. n ≤ length (block_places r.waiting.block)) (sym c.in_ok-gang_assemble.ensures.given) (subst (IsFreeWith (IsFreeing r.waiting.block)) c.in-Free.is c.requires.frees)

pub returns-clause-given : goal.returns-clause-given
returns-clause-given c = c.in_ok-gang_assemble.ensures.given ∙ ap freed_by (sym c.in-Free.is)
