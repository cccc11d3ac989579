use Rattle.std.proofs.Common.{◌≡◌, ◌<◌, length, ap, arith}
use Rattle.std.proofs.lemmas.Bool.{both_ways}
use Rattle.zio_types.specs.Choices.{Choice}
use Rattle.zio_places.specs.Spaces.{SpaceState}
use Rattle.zio_audit.proofs.JudgeLemmas.{refused_back, refused_lawful, room_unlawful}
use Rattle.zio_audit.proofs.judge.judge_entry.Goals as goal

pub returns-then-has_run-clause-lawful : goal.returns-then-has_run-clause-lawful
returns-then-has_run-clause-lawful c =
    let claimed = rw c.if-not-branch.false at c.in_ok-claim_copies.ensures.copies in
    let run = c.has_run.ensures.0 c.if-has_run.true in
    room_unlawful c.args.tops.now c.args.entry.now c.args.space.now c.claim_copies.new.space c.places_of-places.result.now c.entry.inside.size c.entry.inside.copies run.0
    c.requires.sizes c.places_of-places.ensures (ap (λ (e : Choice). e.asked.size) c.entry.view_is) (ap (λ (e : Choice). e.asked.copies) c.entry.view_is) (omega arith) claimed.1 run.1

pub returns-clause-lawful : goal.returns-clause-lawful
returns-clause-lawful c =
    let claimed = rw c.if-not-branch.false at c.in_ok-claim_copies.ensures.copies in
    let same : length c.places_of-places.result.now ≡ length c.args.entry.now.places = ap length c.places_of-places.ensures in
    let many : c.entry.inside.copies ≡ c.args.entry.now.asked.copies = ap (λ (e : Choice). e.asked.copies) c.entry.view_is in
    let few : length c.args.entry.now.places < c.args.entry.now.asked.copies = omega arith in (
      refused_lawful c.args.tops.now c.args.entry.now c.args.space.now c.claim_copies.new.space c.places_of-places.result.now c.entry.inside.size c.entry.inside.copies
          c.requires.sizes c.places_of-places.ensures (ap (λ (e : Choice). e.asked.size) c.entry.view_is) many (omega arith) claimed.0 claimed.1
          (λ top run. both_ways c.has_run.result c.if-has_run.false (c.has_run.ensures.1 (top, run))),
      refused_back c.args.entry.now c.args.space.now c.claim_copies.new.space c.release_all.new.space c.places_of-places.result.now c.places_of-places.ensures few claimed.1
          (c.release_all.ensures.freed c.args.space.now.live (ap (λ (s : SpaceState). s.live) claimed.1)),
    )
