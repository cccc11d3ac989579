use Rattle.std.proofs.Common.{replicate, sym, ap, ◌∙◌}
use Rattle.std.specs.Prelude.{true, false}
use Rattle.zio_places.specs.Flags.{summary_of}
use Rattle.zio_places.proofs.FlagLemmas.{summary_of-ones}
use Rattle.zio_places.proofs.summary.Summary.of_run.Goals as goal

pub returns-then-is_free : goal.returns-then-is_free
returns-then-is_free c = sym (ap (λ b. summary_of (replicate c.args.sectors b)) c.if-is_free.true ∙ summary_of-ones c.args.sectors true)

pub returns-else-is_free : goal.returns-else-is_free
returns-else-is_free c = sym (ap (λ b. summary_of (replicate c.args.sectors b)) c.if-is_free.false ∙ summary_of-ones c.args.sectors false)
