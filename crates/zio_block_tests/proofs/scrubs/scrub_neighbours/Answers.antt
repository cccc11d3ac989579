use Rattle.std.proofs.Common.{◌∷◌, [], refl}
use Rattle.zio_gang.specs.declared.tree.Tree.{Tree}
use Rattle.zio_block_tests.specs.declared.scrubs.TheConstants.{NEXT_POINTER, POINTER}
use Rattle.zio_block_tests.proofs.MirrorBlocks.{can_scrub}
use Rattle.zio_block_tests.proofs.scrubs.scrub_neighbours.Goals as goal

pub scrub-requires-clause-can : goal.scrub-requires-clause-can
scrub-requires-clause-can c =
    let first : Tree = record { bp = POINTER; heads = [] } in
    let second : Tree = record { bp = NEXT_POINTER; heads = [] } in
    can_scrub c.args.setting.now _ (c.in_ok-first.first.tree ∷ c.in_ok-second.second.tree ∷ []) (first ∷ second ∷ [])
    (λ i. c.in_ok-first.ensures i ∷ c.in_ok-second.ensures i ∷ []) c.requires.tops c.requires.rows c.requires.sizes
    (refl, (refl, tt)) (refl, (refl, tt)) refl
