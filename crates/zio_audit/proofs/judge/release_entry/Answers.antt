use Rattle.std.proofs.Common.{◌≡◌, ◌<◌, ◌≤◌, List, length, sym, ap, ◌∙◌, arith}
use Rattle.zio_types.specs.declared.place.Place.{Place}
use Rattle.zio_types.specs.Choices.{Choice, taken_by}
use Rattle.zio_places.specs.Ordered.{all_placed_in}
use Rattle.zio_audit.proofs.JudgeLemmas.{took_all, took_none}
use Rattle.zio_audit.proofs.judge.release_entry.Goals as goal

pub returns-then-places-entry-clause-freed : goal.returns-then-places-entry-clause-freed
returns-then-places-entry-clause-freed c = λ start live.
    let many : c.entry.inside.copies ≡ c.args.entry.now.asked.copies = ap (λ (e : Choice). e.asked.copies) c.entry.view_is in
    let same : length c.places_of-places.result.now ≡ length c.args.entry.now.places = ap length c.places_of-places.ensures in
    let enough : c.args.entry.now.asked.copies ≤ length c.args.entry.now.places = omega arith in
    let took : taken_by c.args.entry.now ≡ c.places_of-places.result.now = took_all c.args.entry.now enough ∙ sym c.places_of-places.ensures in
    c.release_all.ensures.freed start (live ∙ ap (λ (ps : List Place). all_placed_in ps start) took)

pub release_all-requires : goal.release_all-requires
release_all-requires c =
    let many : c.entry.inside.copies ≡ c.args.entry.now.asked.copies = ap (λ (e : Choice). e.asked.copies) c.entry.view_is in
    let same : length c.places_of-places.result.now ≡ length c.args.entry.now.places = ap length c.places_of-places.ensures in
    let enough : c.args.entry.now.asked.copies ≤ length c.args.entry.now.places = omega arith in
    let took : taken_by c.args.entry.now ≡ c.places_of-places.result.now = took_all c.args.entry.now enough ∙ sym c.places_of-places.ensures in
    (c.requires.0, c.requires.1 ∙ ap (λ (ps : List Place). all_placed_in ps c.requires.0) took)

pub returns-else-places-entry-clause-freed : goal.returns-else-places-entry-clause-freed
returns-else-places-entry-clause-freed c = λ start live.
    let many : c.entry.inside.copies ≡ c.args.entry.now.asked.copies = ap (λ (e : Choice). e.asked.copies) c.entry.view_is in
    let same : length c.places_of-places.result.now ≡ length c.args.entry.now.places = ap length c.places_of-places.ensures in
    let few : length c.args.entry.now.places < c.args.entry.now.asked.copies = omega arith in
    ap (λ (ps : List Place). record c.args.space.now { live = ps }) (live ∙ ap (λ (ps : List Place). all_placed_in ps start) (took_none c.args.entry.now few))
