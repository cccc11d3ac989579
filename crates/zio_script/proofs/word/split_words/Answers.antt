use Rattle.std.proofs.Common.{◌∙◌, List, ℕ, ap, rules, tests}
use Rattle.std.specs.Prelude.{filter, not}
use Rattle.std.proofs.lemmas.Iterator.Consumers.{YieldsList-end}
use Rattle.std.proofs.lemmas.Iterator.Splits.{YieldsList-from_slice_split}
use Rattle.zio_script.specs.Words.{is_blank, is_empty}
use Rattle.zio_script.proofs.word.split_words.Goals as goal

pub returns : goal.returns
returns c =
    let all = YieldsList-end (YieldsList-from_slice_split _ is_blank c.args.line.now (search rules) (search rules) (search rules) (λ x r q k. search (rules, tests))) c.loop-part.yielded _ c.loop-part.yielded_by _ _ c.in-None.is c.next.ensures.steps in
    c.loop-part.invariant ∙ ap (filter (λ (part : List ℕ). not (is_empty part))) all.0
