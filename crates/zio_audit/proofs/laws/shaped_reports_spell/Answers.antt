use Rattle.zio_audit.proofs.ShapeLemmas.{shaped_spelled, spelled_shaped}
use Rattle.zio_audit.proofs.laws.shaped_reports_spell.Goals as goal

pub returns : goal.returns
returns c = record { spelled = shaped_spelled; shaped = spelled_shaped }
