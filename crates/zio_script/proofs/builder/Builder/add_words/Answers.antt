use Rattle.std.proofs.Common.{◌∙◌, sym, map}
use Rattle.std.proofs.lemmas.Result.{on_ok_weaker}
use Rattle.zio_script.specs.NewLines.{line_as}
use Rattle.zio_script.proofs.ReadLemmas.{adds_skipped, adds_words}
use Rattle.zio_script.proofs.builder.Builder.add_words.Goals as goal

pub returns-then-is_skipped-clause-added : goal.returns-then-is_skipped-clause-added
returns-then-is_skipped-clause-added c = adds_skipped c.args.self.now (map (λ w. w.now) c.args.words.now) (sym c.is_skipped.ensures ∙ c.if-is_skipped.true)

pub returns-in-Ok-clause-added : goal.returns-in-Ok-clause-added
returns-in-Ok-clause-added c =
    on_ok_weaker c.add_line.result
    (adds_words c.args.self.now c.add_line.new.self (map (λ w. w.now) c.args.words.now) (line_as c.in-Ok.line) (sym c.is_skipped.ensures ∙ c.if-is_skipped.false) c.in-Ok.ensures.line)
    c.add_line.ensures.added
