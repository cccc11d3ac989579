use Rattle.std.proofs.Common.{[], refl, subst, sym}
use Rattle.zio_parts.specs.Parts.{places_at}
use Rattle.zio_parts.specs.declared.parts.Placing.{Placing}
use Rattle.zio_stages.specs.NodeIos.{NoneSits}
use Rattle.zio_stages.specs.PartWorks.{IsIdle}
use Rattle.zio_stages.specs.WriteIos.{AreIoPlaces}
use Rattle.zio_stages.specs.declared.family.Layer.TheVariants.{Within}
use Rattle.zio_stages.proofs.PartPlacing.{no_places, none_within_yet}
use Rattle.zio_stages.proofs.part_node.PartNode.of.Goals as goal

pub returns-clause-fresh : goal.returns-clause-fresh
returns-clause-fresh c = λ t o own bytes. record {
  part = o;
  at = record {
    asked = [];
    slots = [];
    op = refl;
    work = record {
      behind = record { asked_are = refl; slots_are = refl; full = refl; parts = tt };
      own = own;
      bytes = λ d. bytes;
      within = (refl, subst IsIdle (sym c.requires.due) tt);
    };
    children = c.new.ensures;
  };
}

pub returns-clause-over : goal.returns-clause-over
returns-clause-over c = λ tops. record {
  places = subst (λ (p : Placing). AreIoPlaces tops (places_at p)) (sym c.requires.body) (no_places tops);
  bytes = λ d. c.requires.size;
  io = subst (NoneSits Within) (sym c.new.ensures) none_within_yet;
}
