use Rattle.std.proofs.Common.{arith}
use Rattle.std.proofs.lemmas.Bool.{false≢true}
use Rattle.zio_places.proofs.LawLemmas.{found-run_on, no_sectors-run, run-there}
use Rattle.zio_places.proofs.tops.has_run_on.Goals as goal
use Rattle.zio_places.proofs.tops.has_run_on.Goals.{then-sectors-eq0-via-then-sectors-eq0, then-sectors-eq0-via-else-sectors-eq0+then-top-tops}

pub returns-then-sectors-eq0 : goal.returns-then-sectors-eq0
returns-then-sectors-eq0 c used count aligned = (
  (λ h. absurd (false≢true h)),
  (λ run.
      elim c.then-sectors-eq0.branch [
        | then-sectors-eq0-via-then-sectors-eq0 w ↦ absurd (no_sectors-run used c.args.tops.now c.args.top c.args.size w.if-sectors-eq0.true run)
        | then-sectors-eq0-via-else-sectors-eq0+then-top-tops w ↦ absurd (omega (arith, run-there used c.args.tops.now c.args.top c.args.size run, w.if-top-tops.true))
      ]),
)

pub returns : goal.returns
returns c used count aligned =
    found-run_on used c.args.tops.now c.args.top c.args.size c.find_on.result c.is_some.result c.is_some.ensures count aligned c.requires c.find_on.ensures
