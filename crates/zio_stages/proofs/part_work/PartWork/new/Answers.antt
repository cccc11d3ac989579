use Rattle.std.proofs.Common.{◌≡◌, ◌∙◌, [], ap, length, subst, sym}
use Rattle.zio_parts.specs.Parts.{PartWriting, places_at}
use Rattle.zio_parts.specs.declared.parts.OwnWrite.TheVariants.{Due}
use Rattle.zio_parts.specs.declared.parts.Placing.{Placing}
use Rattle.zio_parts.specs.declared.parts.Placing.TheVariants.{Body}
use Rattle.zio_stages.specs.PartWorks.{IsIdle}
use Rattle.zio_stages.specs.WriteIos.{AreIoPlaces}
use Rattle.zio_stages.proofs.PartPlacing.{no_places}
use Rattle.zio_stages.proofs.part_work.PartWork.new.Goals as goal

pub returns-clause-fresh : goal.returns-clause-fresh
returns-clause-fresh c = λ t o f family st writing path bytes levels op inner behind children.
    let due : c.new.result.part.own ≡ Due = ap (λ (x : PartWriting). x.own) c.new.ensures.fresh in
    record {
      asked = [];
      slots = [];
      op = op;
      work = record { behind = behind; own = c.new.ensures.is t o writing path (bytes ∙ sym c.as_slice.ensures) levels; bytes = λ d. bytes ∙ sym c.alone.ensures; within = (inner, subst IsIdle (sym due) tt) };
      children = children;
    }

pub returns-clause-over : goal.returns-clause-over
returns-clause-over c = λ tops family none.
    let body : c.new.result.part.placing ≡ Body = ap (λ (x : PartWriting). x.placing) c.new.ensures.fresh in
    record {
      places = subst (λ (p : Placing). AreIoPlaces tops (places_at p)) (sym body) (no_places tops);
      bytes = λ d. ap length (c.alone.ensures ∙ sym c.as_slice.ensures) ∙ sym (ap (λ (x : PartWriting). x.size) c.new.ensures.fresh);
      io = none;
    }
