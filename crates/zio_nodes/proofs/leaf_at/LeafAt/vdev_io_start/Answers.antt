use Rattle.std.proofs.Common.{Bool, refl, subst, sym, true}
use Rattle.zio_masks.specs.declared.stage.Stage.{Stage}
use Rattle.zio_stages.specs.LeafWorks.{IsDue}
use Rattle.zio_nodes.specs.LeafAts.{IsAskedOrDue, LeafStands}
use Rattle.zio_nodes.proofs.LeafLemmas.{leaf_fresh}
use Rattle.zio_nodes.proofs.leaf_at.LeafAt.vdev_io_start.Goals as goal

pub returns-clause-moves : goal.returns-clause-moves
returns-clause-moves c = λ tops t st now.
    let at = c.args.self.now in
    let h = now.is in
    let asked = subst (λ (s : Stage). LeafStands s at.is_out at.work) c.requires.stage c.requires.stands in
    let due : IsDue at.work = subst (λ (b : Bool). IsAskedOrDue b at.work) c.requires.due asked in
    record {
      act = h.part.act;
      fresh = leaf_fresh t at st h due;
      is_op = c.hand_out-leaf.ensures.handed t st.outer h.part.act h.part h.part.op;
      stays = record {
        is = record {
          stands = subst (λ (s : Stage). LeafStands s true c.hand_out-leaf.new.self) (sym c.requires.stage) c.hand_out-leaf.ensures.out;
          alone = h.alone;
          childless = h.childless;
          part = c.hand_out-leaf.ensures.related t st.outer h.part;
        };
        told = refl;
        gave_same = refl;
        no_calls = refl;
      };
    }
