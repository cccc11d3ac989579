use Rattle.std.proofs.Common.{◌∷◌, [], ap, refl}
use Rattle.zio_gang.specs.declared.tree.Tree.{Tree}
use Rattle.zio_block_tests.specs.declared.scrubs.TheConstants.{POINTER}
use Rattle.zio_block_tests.proofs.MirrorBlocks.{can_scrub}
use Rattle.zio_block_tests.proofs.scrubs.scrub_block.Goals as goal

pub scrub-requires-clause-can : goal.scrub-requires-clause-can
scrub-requires-clause-can c =
    let tree : Tree = record { bp = POINTER; heads = [] } in
    can_scrub c.args.setting.now _ (c.in_ok-bound_block.field-0.tree ∷ []) (tree ∷ []) (ap (λ (t : Tree). t ∷ []) c.in_ok-bound_block.ensures)
    c.requires.tops c.requires.rows c.requires.sizes (refl, tt) (refl, tt) refl
