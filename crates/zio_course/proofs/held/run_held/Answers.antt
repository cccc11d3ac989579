use Rattle.std.proofs.Common.{◌≡◌, ℕ, suc, ◌+◌, List, [], ◌∷◌, ◌++◌, length, map, Bor, false, refl, ap, subst, ◌∙◌, inl, inr, arith}
use Rattle.zio_script.specs.declared.script.Request.{Request}
use Rattle.zio_script.specs.Requests.{requests_of}
use Rattle.zio_gang.specs.Runs.{has_trees}
use Rattle.zio_course.specs.declared.fold.Batch.{Batch}
use Rattle.zio_course.specs.Folds.{SeenFold, batch_seen, batches_seen, fold_seen, has_items, requests_in_all}
use Rattle.zio_course.specs.Moves.{HeldRan, IsGoing, requests_held}
use Rattle.zio_course.specs.Runners.{Standing}
use Rattle.zio_course.proofs.MoveLemmas.{by_same, first_few, first_fits, first_two, going_batch, held_orderly, held_cut, held_more, held_none, held_over, nil_of, not_empty}
use Rattle.zio_course.proofs.RoundsLemmas.{len_map, trees_items}
use Rattle.zio_course.proofs.held.run_held.Goals as goal

pub loop-alloc-init : goal.loop-alloc-init
loop-alloc-init g c = record {
  going = λ later spare h. h;
  ran = held_none c.args.show.now c.args.failmode (g.R.Runner.standing c.args.runner.now) (fold_seen g.R.Runner.pending c.args.fold.now) (batches_seen c.args.held.now.items) (g.J.Records.seen c.args.journal.now) (g.R.Runner.tells c.args.runner.now) (g.O.Sink.holds c.args.out.now);
  less = omega arith;
  tops = refl;
  rows = refl;
  point = refl;
  faults = refl;
  quiet = refl;
  can = c.requires.can;
  chosen = c.requires.chosen;
  same = g.met.R.Runner.same_itself c.args.runner.now;
}

pub batch_round-requires-clause-steady : goal.batch_round-requires-clause-steady
batch_round-requires-clause-steady g c = (c.loop-alloc.invariant.going c.requires.going.0 c.requires.going.1 c.requires.going.2).steady

pub batch_round-requires-clause-rising : goal.batch_round-requires-clause-rising
batch_round-requires-clause-rising g c =
    let going : IsGoing g.R.Runner.fits (g.R.Runner.standing c.loop-alloc.runner) (g.J.Records.seen c.loop-alloc.journal).rounds (fold_seen g.R.Runner.pending c.loop-alloc.fold) (batches_seen (c.in-Some.batch ∷ c.pop_front.new.self.items)) c.requires.going.0 c.requires.going.1 =
    subst (λ (bs : List Batch). IsGoing g.R.Runner.fits (g.R.Runner.standing c.loop-alloc.runner) (g.J.Records.seen c.loop-alloc.journal).rounds (fold_seen g.R.Runner.pending c.loop-alloc.fold) (batches_seen bs) c.requires.going.0 c.requires.going.1) c.in-Some.ensures.items
    (c.loop-alloc.invariant.going c.requires.going.0 c.requires.going.1 c.requires.going.2) in
    let back : List Request = requests_in_all (requests_held (batches_seen c.pop_front.new.self.items) ++ c.requires.going.0) in
    first_two (map (λ (r : Bor Request). r.now) c.loop-alloc.fold.unfinished.items) (requests_of c.in-Some.batch.lines.now) back going.rising

pub batch_round-requires-clause-orderly : goal.batch_round-requires-clause-orderly
batch_round-requires-clause-orderly g c =
    (subst (λ (bs : List Batch). IsGoing g.R.Runner.fits (g.R.Runner.standing c.loop-alloc.runner) (g.J.Records.seen c.loop-alloc.journal).rounds (fold_seen g.R.Runner.pending c.loop-alloc.fold) (batches_seen bs) c.requires.going.0 c.requires.going.1) c.in-Some.ensures.items
    (c.loop-alloc.invariant.going c.requires.going.0 c.requires.going.1 c.requires.going.2)).orderly.0

pub batch_round-requires-clause-number : goal.batch_round-requires-clause-number
batch_round-requires-clause-number g c =
    (subst (λ (bs : List Batch). IsGoing g.R.Runner.fits (g.R.Runner.standing c.loop-alloc.runner) (g.J.Records.seen c.loop-alloc.journal).rounds (fold_seen g.R.Runner.pending c.loop-alloc.fold) (batches_seen bs) c.requires.going.0 c.requires.going.1) c.in-Some.ensures.items
    (c.loop-alloc.invariant.going c.requires.going.0 c.requires.going.1 c.requires.going.2)).numbers.0

pub batch_round-requires-clause-rounds : goal.batch_round-requires-clause-rounds
batch_round-requires-clause-rounds g c =
    let going : IsGoing g.R.Runner.fits (g.R.Runner.standing c.loop-alloc.runner) (g.J.Records.seen c.loop-alloc.journal).rounds (fold_seen g.R.Runner.pending c.loop-alloc.fold) (batches_seen (c.in-Some.batch ∷ c.pop_front.new.self.items)) c.requires.going.0 c.requires.going.1 =
    subst (λ (bs : List Batch). IsGoing g.R.Runner.fits (g.R.Runner.standing c.loop-alloc.runner) (g.J.Records.seen c.loop-alloc.journal).rounds (fold_seen g.R.Runner.pending c.loop-alloc.fold) (batches_seen bs) c.requires.going.0 c.requires.going.1) c.in-Some.ensures.items
    (c.loop-alloc.invariant.going c.requires.going.0 c.requires.going.1 c.requires.going.2) in
    first_fits (g.J.Records.seen c.loop-alloc.journal).rounds (length (batches_seen c.pop_front.new.self.items)) c.requires.going.1 going.rounds_fit

pub batch_round-requires-clause-few : goal.batch_round-requires-clause-few
batch_round-requires-clause-few g c =
    let going : IsGoing g.R.Runner.fits (g.R.Runner.standing c.loop-alloc.runner) (g.J.Records.seen c.loop-alloc.journal).rounds (fold_seen g.R.Runner.pending c.loop-alloc.fold) (batches_seen (c.in-Some.batch ∷ c.pop_front.new.self.items)) c.requires.going.0 c.requires.going.1 =
    subst (λ (bs : List Batch). IsGoing g.R.Runner.fits (g.R.Runner.standing c.loop-alloc.runner) (g.J.Records.seen c.loop-alloc.journal).rounds (fold_seen g.R.Runner.pending c.loop-alloc.fold) (batches_seen bs) c.requires.going.0 c.requires.going.1) c.in-Some.ensures.items
    (c.loop-alloc.invariant.going c.requires.going.0 c.requires.going.1 c.requires.going.2) in
    first_few (c.loop-alloc.fold.tally.good + c.loop-alloc.fold.tally.bad) (map (λ (r : Bor Request). r.now) c.loop-alloc.fold.unfinished.items) (requests_of c.in-Some.batch.lines.now)
    (requests_in_all (requests_held (batches_seen c.pop_front.new.self.items) ++ c.requires.going.0)) going.few

pub loop-alloc-preserved : goal.loop-alloc-preserved
loop-alloc-preserved g c =
    let i = c.loop-alloc.invariant in
    let b : Batch = c.in-Some.batch in
    let left : List Batch = c.pop_front.new.self.items in
    let f : SeenFold = fold_seen g.R.Runner.pending c.loop-alloc.fold in
    let s : Standing = g.R.Runner.standing c.loop-alloc.runner in
    let did = c.in_ok-batch_round.ensures in
    let none : has_trees f.suspended ≡ false = trees_items g.R.Runner.pending c.loop-alloc.fold.suspended ∙ ap has_items (c.is_empty.ensures.0 c.loop-alloc-test.true) in
    let few = did.few in
    let x = len_map (λ (r : Bor Request). r.now) c.loop-alloc.fold.unfinished.items in
    let y = len_map (λ (r : Bor Request). r.now) c.batch_round.new.fold.unfinished.items in
    let going : (later : List (List Request)) (spare : ℕ) → IsGoing g.R.Runner.fits (g.R.Runner.standing c.args.runner.now) (g.J.Records.seen c.args.journal.now).rounds (fold_seen g.R.Runner.pending c.args.fold.now) (batches_seen c.args.held.now.items) later spare
    → IsGoing g.R.Runner.fits s (g.J.Records.seen c.loop-alloc.journal).rounds f (batch_seen b ∷ batches_seen left) later spare = λ later spare h.
    subst (λ (bs : List Batch). IsGoing g.R.Runner.fits s (g.J.Records.seen c.loop-alloc.journal).rounds f (batches_seen bs) later spare) c.in-Some.ensures.items (i.going later spare h) in
    record {
      going = λ later spare h.
          going_batch g.R.Runner.fits s (g.R.Runner.standing c.batch_round.new.runner) (g.J.Records.seen c.loop-alloc.journal).rounds (g.J.Records.seen c.batch_round.new.journal).rounds f (fold_seen g.R.Runner.pending c.batch_round.new.fold) (batch_seen b) (batches_seen left) later spare did.waits.0
          (going later spare h) did.steady did.rows did.counted did.waits.1 (omega arith);
      ran = held_more c.args.show.now c.args.failmode (g.R.Runner.standing c.args.runner.now) s (g.R.Runner.standing c.batch_round.new.runner) (fold_seen g.R.Runner.pending c.args.fold.now) f (fold_seen g.R.Runner.pending c.batch_round.new.fold)
          (batches_seen c.args.held.now.items) (batches_seen left) (batch_seen b) (g.J.Records.seen c.args.journal.now) (g.J.Records.seen c.loop-alloc.journal) (g.J.Records.seen c.batch_round.new.journal) (g.R.Runner.tells c.args.runner.now) (g.R.Runner.tells c.loop-alloc.runner) (g.R.Runner.tells c.batch_round.new.runner)
          (g.O.Sink.holds c.args.out.now) (g.O.Sink.holds c.loop-alloc.out) (g.O.Sink.holds c.batch_round.new.out) i.rows
          (held_orderly g.R.Runner.fits (g.R.Runner.standing c.args.runner.now) s (g.J.Records.seen c.loop-alloc.journal).rounds f (batch_seen b) (batches_seen left) c.requires.going.0 c.requires.going.1 i.rows (going c.requires.going.0 c.requires.going.1 c.requires.going.2)) none
          (subst (λ (bs : List Batch). HeldRan c.args.show.now c.args.failmode (g.R.Runner.standing c.args.runner.now) s (fold_seen g.R.Runner.pending c.args.fold.now) f (batches_seen c.args.held.now.items) (batches_seen bs)
          (g.J.Records.seen c.args.journal.now) (g.J.Records.seen c.loop-alloc.journal) (g.R.Runner.tells c.args.runner.now) (g.R.Runner.tells c.loop-alloc.runner) (g.O.Sink.holds c.args.out.now) (g.O.Sink.holds c.loop-alloc.out)) c.in-Some.ensures.items i.ran) did.ran;
      less = let a = i.less in let e : length c.loop-alloc.held.items ≡ suc (length left) = ap length c.in-Some.ensures.items in omega arith;
      tops = did.tops ∙ i.tops;
      rows = did.rows ∙ i.rows;
      point = did.point ∙ i.point;
      faults = did.faults ∙ i.faults;
      quiet = did.quiet ∙ i.quiet;
      can = did.can;
      chosen = did.chosen;
      same = g.met.R.Runner.same_then c.args.runner.now c.loop-alloc.runner c.batch_round.new.runner i.same did.same;
    }

pub returns-in_err-batch_round-clause-cut : goal.returns-in_err-batch_round-clause-cut
returns-in_err-batch_round-clause-cut g c =
    let i = c.loop-alloc.invariant in
    let b : Batch = c.in-Some.batch in
    let left : List Batch = c.pop_front.new.self.items in
    let f : SeenFold = fold_seen g.R.Runner.pending c.loop-alloc.fold in
    let s : Standing = g.R.Runner.standing c.loop-alloc.runner in
    let none : has_trees f.suspended ≡ false = trees_items g.R.Runner.pending c.loop-alloc.fold.suspended ∙ ap has_items (c.is_empty.ensures.0 c.loop-alloc-test.true) in
    let going : IsGoing g.R.Runner.fits s (g.J.Records.seen c.loop-alloc.journal).rounds f (batch_seen b ∷ batches_seen left) c.requires.going.0 c.requires.going.1 =
    subst (λ (bs : List Batch). IsGoing g.R.Runner.fits s (g.J.Records.seen c.loop-alloc.journal).rounds f (batches_seen bs) c.requires.going.0 c.requires.going.1) c.in-Some.ensures.items (i.going c.requires.going.0 c.requires.going.1 c.requires.going.2) in
    by_same c.from_residual.result c.in_err-batch_round.field-0.0 _ c.from_residual.ensures.1
    (held_cut c.args.show.now c.args.failmode (g.R.Runner.standing c.args.runner.now) s (fold_seen g.R.Runner.pending c.args.fold.now) f
    (batches_seen c.args.held.now.items) (batches_seen left) (batch_seen b) (g.J.Records.seen c.args.journal.now) (g.J.Records.seen c.loop-alloc.journal) (g.J.Records.seen c.batch_round.new.journal) (g.R.Runner.tells c.args.runner.now) (g.R.Runner.tells c.loop-alloc.runner) (g.R.Runner.tells c.batch_round.new.runner)
    (g.O.Sink.holds c.args.out.now) (g.O.Sink.holds c.loop-alloc.out) (g.O.Sink.holds c.batch_round.new.out) c.in_err-batch_round.field-0.0 i.rows i.tops
    (held_orderly g.R.Runner.fits (g.R.Runner.standing c.args.runner.now) s (g.J.Records.seen c.loop-alloc.journal).rounds f (batch_seen b) (batches_seen left) c.requires.going.0 c.requires.going.1 i.rows going) none
    (subst (λ (bs : List Batch). HeldRan c.args.show.now c.args.failmode (g.R.Runner.standing c.args.runner.now) s (fold_seen g.R.Runner.pending c.args.fold.now) f (batches_seen c.args.held.now.items) (batches_seen bs)
    (g.J.Records.seen c.args.journal.now) (g.J.Records.seen c.loop-alloc.journal) (g.R.Runner.tells c.args.runner.now) (g.R.Runner.tells c.loop-alloc.runner) (g.O.Sink.holds c.args.out.now) (g.O.Sink.holds c.loop-alloc.out)) c.in-Some.ensures.items i.ran) c.in_err-batch_round.ensures.cut)

pub returns-after-loop-alloc-clause-ran : goal.returns-after-loop-alloc-clause-ran
returns-after-loop-alloc-clause-ran g c =
    held_over c.args.show.now c.args.failmode (g.R.Runner.standing c.args.runner.now) (g.R.Runner.standing c.loop-alloc.runner) (fold_seen g.R.Runner.pending c.args.fold.now) (fold_seen g.R.Runner.pending c.loop-alloc.fold)
    (batches_seen c.args.held.now.items) (batches_seen c.loop-alloc.held.items) (g.J.Records.seen c.args.journal.now) (g.J.Records.seen c.loop-alloc.journal) (g.R.Runner.tells c.args.runner.now) (g.R.Runner.tells c.loop-alloc.runner) (g.O.Sink.holds c.args.out.now) (g.O.Sink.holds c.loop-alloc.out)
    (inl (trees_items g.R.Runner.pending c.loop-alloc.fold.suspended ∙ not_empty c.is_empty.result c.loop-alloc.fold.suspended c.is_empty.ensures.1 c.loop-alloc-test.false)) c.loop-alloc.invariant.ran

pub returns-in_default-clause-ran : goal.returns-in_default-clause-ran
returns-in_default-clause-ran g c =
    let none : c.pop_front.new.self.items ≡ [] = nil_of c.pop_front.new.self.items (omega (arith, c.pop_front.new.self.ok.0, c.in_default.ensures.cases.1)) in
    held_over c.args.show.now c.args.failmode (g.R.Runner.standing c.args.runner.now) (g.R.Runner.standing c.loop-alloc.runner) (fold_seen g.R.Runner.pending c.args.fold.now) (fold_seen g.R.Runner.pending c.loop-alloc.fold)
    (batches_seen c.args.held.now.items) (batches_seen c.pop_front.new.self.items) (g.J.Records.seen c.args.journal.now) (g.J.Records.seen c.loop-alloc.journal) (g.R.Runner.tells c.args.runner.now) (g.R.Runner.tells c.loop-alloc.runner) (g.O.Sink.holds c.args.out.now) (g.O.Sink.holds c.loop-alloc.out)
    (inr (ap batches_seen none))
    (subst (λ (bs : List Batch). HeldRan c.args.show.now c.args.failmode (g.R.Runner.standing c.args.runner.now) (g.R.Runner.standing c.loop-alloc.runner) (fold_seen g.R.Runner.pending c.args.fold.now) (fold_seen g.R.Runner.pending c.loop-alloc.fold) (batches_seen c.args.held.now.items) (batches_seen bs)
    (g.J.Records.seen c.args.journal.now) (g.J.Records.seen c.loop-alloc.journal) (g.R.Runner.tells c.args.runner.now) (g.R.Runner.tells c.loop-alloc.runner) (g.O.Sink.holds c.args.out.now) (g.O.Sink.holds c.loop-alloc.out)) c.in_default.ensures.items c.loop-alloc.invariant.ran)

pub returns-in_default-clause-going : goal.returns-in_default-clause-going
returns-in_default-clause-going g c later spare h =
    subst (λ (bs : List Batch). IsGoing g.R.Runner.fits (g.R.Runner.standing c.loop-alloc.runner) (g.J.Records.seen c.loop-alloc.journal).rounds (fold_seen g.R.Runner.pending c.loop-alloc.fold) (batches_seen bs) later spare) c.in_default.ensures.items
    (c.loop-alloc.invariant.going later spare h)

pub returns-after-loop-alloc-clause-over : goal.returns-after-loop-alloc-clause-over
returns-after-loop-alloc-clause-over g c = inl (not_empty c.is_empty.result c.loop-alloc.fold.suspended c.is_empty.ensures.1 c.loop-alloc-test.false)

pub returns-in_default-clause-over : goal.returns-in_default-clause-over
returns-in_default-clause-over g c = inr (nil_of c.pop_front.new.self.items (omega (arith, c.pop_front.new.self.ok.0, c.in_default.ensures.cases.1)))
