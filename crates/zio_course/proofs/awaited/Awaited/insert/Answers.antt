use Rattle.std.proofs.Common.{◌≡◌, ℕ, List, true, bytes_eq, cond, subst}
use Rattle.zio_course.proofs.NameLemmas.{among_with}
use Rattle.zio_course.specs.Names.{is_name_in}
use Rattle.zio_course.proofs.awaited.Awaited.insert.Goals as goal

pub returns-clause-ok : goal.returns-clause-ok
returns-clause-ok c other =
    let new : List (List ℕ) = c.insert.new.self.keys in
    subst (λ (names : List (List ℕ)). is_name_in new other ≡ cond (bytes_eq c.args.name other) true (is_name_in names other)) c.self.view_is
    (among_with c.args.name other c.self.inside.names.keys new (c.in_ok-insert.ensures.updates.0 other))
