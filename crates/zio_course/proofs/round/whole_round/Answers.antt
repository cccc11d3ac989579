use Rattle.std.proofs.Common.{◌≡◌, ◌+◌, ◌++◌, ap, refl, subst, ◌∙◌}
use Rattle.zio_types.specs.declared.journal.Journal.{Journal}
use Rattle.zio_course.specs.Runners.{SeenEnd, ended_seen}
use Rattle.zio_course.proofs.JournalLemmas.{one_round_more}
use Rattle.zio_course.proofs.round.whole_round.Goals as goal

pub returns-clause-whole : goal.returns-clause-whole
returns-clause-whole g c =
    let ran = c.in_ok-finished.ensures in
    let old : Journal = g.J.Records.seen c.args.journal.now in
    let gone : Journal = g.J.Records.seen c.let_go.new.self in
    let same : gone ≡ old = c.let_go.ensures in
    let end : SeenEnd = ended_seen g.R.Runner.pending g.R.Runner.told c.in_ok-finished.field-0 in (
      end,
      record {
        places = c.in_ok-enter.ensures.places ∙ ap (λ (j : Journal). j.places ++ end.entries) same;
        completions = c.in_ok-enter.ensures.completions
            ∙ (ap (λ cs. gone.completions ++ cs) c.in_ok-completions.ensures
            ∙ ap (λ (j : Journal). j.completions ++ (c.args.answered ++ end.completions)) same);
        rounds = c.in_ok-enter.ensures.rounds ∙ ap (λ (j : Journal). j.rounds + 1) same;
        finished_is = c.in_ok-finished-2.ensures;
        left_is = refl;
      },
      ran.end,
      ran.stands,
      λ before told. (let after = ran.round before told in (after.0, after.1, after.2)),
    )

pub returns-clause-chosen : goal.returns-clause-chosen
returns-clause-chosen g c =
    let entries = c.in_ok-finished.field-0.entries in
    let old : Journal = g.J.Records.seen c.args.journal.now in
    let new : Journal = g.J.Records.seen c.enter.new.self in
    let same : g.J.Records.seen c.let_go.new.self ≡ old = c.let_go.ensures in
    one_round_more g.R.Runner.chosen old.rounds new.rounds old.places entries new.places c.requires.chosen
    (subst (λ n. g.R.Runner.chosen n entries) c.requires.number c.in_ok-finished.ensures.chosen)
    (c.in_ok-enter.ensures.rounds ∙ ap (λ (j : Journal). j.rounds + 1) same) (c.in_ok-enter.ensures.places ∙ ap (λ (j : Journal). j.places ++ entries) same)
