use Rattle.std.proofs.Common.{◌≡◌, rules, Some}
use Rattle.std.proofs.lemmas.List.{take_rest}
use Rattle.zio_spelled.proofs.PartLemmas.{cut_at, whole_part}
use Rattle.zio_spelled.proofs.parts.Parts.next.Goals as goal

pub returns-in-Some-clause-part : goal.returns-in-Some-clause-part
returns-in-Some-clause-part c =
    let found = cut_at c.args.self.now.separator c.in_ok-text.text.now c.in-Some.end (search rules) (search rules) (search rules) in
    let there : c.args.self.now.rest ≡ Some c.in_ok-text.text = search rules in
    rw (there, found, take_rest)

pub returns-in-None-clause-part : goal.returns-in-None-clause-part
returns-in-None-clause-part c =
    let found = whole_part c.args.self.now.separator c.in_ok-text.text.now (search rules) in
    let there : c.args.self.now.rest ≡ Some c.in_ok-text.text = search rules in
    rw there found
