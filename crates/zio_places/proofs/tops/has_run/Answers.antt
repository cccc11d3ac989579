use Rattle.std.proofs.lemmas.Bool.{false≢true}
use Rattle.zio_places.proofs.LawLemmas.{found-run, no_sectors-run}
use Rattle.zio_places.proofs.tops.has_run.Goals as goal

pub returns-then-sectors-eq0 : goal.returns-then-sectors-eq0
returns-then-sectors-eq0 c used count aligned = (
  (λ h. absurd (false≢true h)),
  (λ run. absurd (no_sectors-run used c.args.tops.now run.0 c.args.size c.if-sectors-eq0.true run.1)),
)

pub returns : goal.returns
returns c used count aligned =
    found-run used c.args.tops.now c.args.size c.find_any.result c.is_some.result c.is_some.ensures count aligned c.requires.even c.find_any.ensures
