use Rattle.std.proofs.Common.{◌≡◌, ℕ, suc, ◌+◌, List, [], ◌∷◌, ◌++◌, length, refl, sym, ap, subst, ◌∙◌, inl, inr, arith, append_assoc}
use Rattle.std.proofs.lemmas.List.{append-nil}
use Rattle.zio_types.specs.declared.journal.Journal.{Journal}
use Rattle.zio_script.specs.declared.script.Failmode.{Failmode}
use Rattle.zio_script.specs.declared.script.Item.{Item}
use Rattle.zio_script.specs.declared.script.Item.TheVariants.{Request as RequestLine, Go, Clear}
use Rattle.zio_script.specs.declared.script.Request.{Request}
use Rattle.zio_script.specs.Accepted.{IsOrderlyBatch, batches_from}
use Rattle.zio_script.specs.Requests.{requests_of}
use Rattle.zio_gang.specs.Runs.{Batch as DefinedBatch}
use Rattle.zio_report.specs.declared.report.Show.{Show}
use Rattle.zio_course.specs.Folds.{SeenFold, batches_seen, fold_seen}
use Rattle.zio_course.specs.Moves.{IsGoing, LinesRan, requests_held}
use Rattle.zio_course.specs.Runners.{Standing, rows_tell_apart}
use Rattle.zio_course.proofs.MoveLemmas.{by_same, going_less}
use Rattle.zio_course.proofs.PlantLemmas.{requests_both}
use Rattle.zio_course.proofs.ScriptLemmas.{all_after, all_behind, lines_cut, lines_line, lines_none, lines_over, lines_request}
use Rattle.zio_course.proofs.script.run_lines.Goals as goal

pub loop-fold-init : goal.loop-fold-init
loop-fold-init g c =
    let s : Standing = g.R.Runner.standing c.args.runner.now in
    let f : SeenFold = fold_seen g.R.Runner.pending c.args.fold.now in
    let none : [] ≡ batches_seen c.args.held.now.items = sym (ap batches_seen c.requires.none) in (
      [],
      record {
        whole = refl;
        going = subst (λ (bs : List DefinedBatch). IsGoing g.R.Runner.fits s (g.J.Records.seen c.args.journal.now).rounds f bs (batches_from [] c.args.items.now) (length c.args.items.now)) none c.requires.going;
        waits = λ runs. sym none;
        ran = subst (λ (bs : List DefinedBatch). LinesRan c.args.show.now c.args.failmode s s f f c.args.items.now c.args.items.now (record { held = bs; batch = []; batches = 0 }) (requests_held bs ++ batches_from [] c.args.items.now)
            (g.J.Records.seen c.args.journal.now) (g.J.Records.seen c.args.journal.now) (g.R.Runner.tells c.args.runner.now) (g.R.Runner.tells c.args.runner.now) (g.O.Sink.holds c.args.out.now) (g.O.Sink.holds c.args.out.now)) none
            (lines_none c.args.show.now c.args.failmode s f c.args.items.now (g.J.Records.seen c.args.journal.now) (g.R.Runner.tells c.args.runner.now) (g.O.Sink.holds c.args.out.now));
        point = c.requires.point;
        batches_fit = let a = c.requires.point in omega arith;
        tops = refl;
        rows = refl;
        faults = refl;
        quiet = refl;
        can = c.requires.can;
        chosen = c.requires.chosen;
        same = g.met.R.Runner.same_itself c.args.runner.now;
      },
    )

pub go_line-requires-clause-going : goal.go_line-requires-clause-going
go_line-requires-clause-going g c =
    let show : Show = c.args.show.now in
    let mode : Failmode = c.args.failmode in
    let front : List Item = c.loop-fold.invariant.0 in
    let i = c.loop-fold.invariant.1 in
    let more : List Item = c.in-Some.more.now in
    let s0 : Standing = g.R.Runner.standing c.args.runner.now in
    let s : Standing = g.R.Runner.standing c.loop-fold.runner in
    let f0 : SeenFold = fold_seen g.R.Runner.pending c.args.fold.now in
    let f : SeenFold = fold_seen g.R.Runner.pending c.loop-fold.fold in
    let held : List DefinedBatch = batches_seen c.loop-fold.held.items in
    let n : ℕ = c.loop-fold.batches in
    let old : Journal = (g.J.Records.seen c.args.journal.now) in
    let j : Journal = (g.J.Records.seen c.loop-fold.journal) in
    let one : suc (length more) ≡ length more + 1 = omega arith in
    let rest_is : c.loop-fold.rest.now ≡ Go ∷ more = c.in-Some.ensures.some ∙ ap (λ (x : Item). x ∷ more) c.in-Go.is in
    let going_all : IsGoing g.R.Runner.fits s j.rounds f held (batches_from (requests_of front) (Go ∷ more)) (length more + 1) =
    subst (λ (k : ℕ). IsGoing g.R.Runner.fits s j.rounds f held (batches_from (requests_of front) (Go ∷ more)) k) one
    (subst (λ (xs : List Item). IsGoing g.R.Runner.fits s j.rounds f held (batches_from (requests_of front) xs) (length xs)) rest_is i.going) in
    let ran_all : LinesRan show mode s0 s f0 f c.args.items.now (Go ∷ more) (record { held = held; batch = requests_of front; batches = n }) (requests_held held ++ batches_from (requests_of front) (Go ∷ more)) old j
    (g.R.Runner.tells c.args.runner.now) (g.R.Runner.tells c.loop-fold.runner) (g.O.Sink.holds c.args.out.now) (g.O.Sink.holds c.loop-fold.out) =
    subst (λ (xs : List Item). LinesRan show mode s0 s f0 f c.args.items.now xs (record { held = held; batch = requests_of front; batches = n }) (requests_held held ++ batches_from (requests_of front) xs) old j
    (g.R.Runner.tells c.args.runner.now) (g.R.Runner.tells c.loop-fold.runner) (g.O.Sink.holds c.args.out.now) (g.O.Sink.holds c.loop-fold.out)) rest_is i.ran in
    let own : List Request = requests_of c.front_of.result.now in
    let own_is : requests_of front ≡ own = ap requests_of (sym (c.front_of.ensures front i.whole)) in
    let going_own : IsGoing g.R.Runner.fits s j.rounds f held (own ∷ batches_from [] more) (length more + 1) =
    subst (λ (b : List Request). IsGoing g.R.Runner.fits s j.rounds f held (b ∷ batches_from [] more) (length more + 1)) own_is going_all in
    let ran_own : LinesRan show mode s0 s f0 f c.args.items.now (Go ∷ more) (record { held = held; batch = own; batches = n }) ((requests_held held ++ own ∷ []) ++ batches_from [] more) old j
    (g.R.Runner.tells c.args.runner.now) (g.R.Runner.tells c.loop-fold.runner) (g.O.Sink.holds c.args.out.now) (g.O.Sink.holds c.loop-fold.out) =
    subst (λ (bs : List (List Request)). LinesRan show mode s0 s f0 f c.args.items.now (Go ∷ more) (record { held = held; batch = own; batches = n }) bs old j
    (g.R.Runner.tells c.args.runner.now) (g.R.Runner.tells c.loop-fold.runner) (g.O.Sink.holds c.args.out.now) (g.O.Sink.holds c.loop-fold.out)) (sym (append_assoc (requests_held held) (own ∷ []) (batches_from [] more)))
    (subst (λ (b : List Request). LinesRan show mode s0 s f0 f c.args.items.now (Go ∷ more) (record { held = held; batch = b; batches = n }) (requests_held held ++ (b ∷ batches_from [] more)) old j
    (g.R.Runner.tells c.args.runner.now) (g.R.Runner.tells c.loop-fold.runner) (g.O.Sink.holds c.args.out.now) (g.O.Sink.holds c.loop-fold.out)) own_is ran_all) in
    let orderly = all_behind (IsOrderlyBatch (rows_tell_apart s.rows)) (requests_held held) own (batches_from [] more) going_own.orderly in
    (batches_from [] more, length more, going_own)

pub clear_line-requires-clause-going : goal.clear_line-requires-clause-going
clear_line-requires-clause-going g c =
    let front : List Item = c.loop-fold.invariant.0 in
    let i = c.loop-fold.invariant.1 in
    let more : List Item = c.in-Some.more.now in
    let s : Standing = g.R.Runner.standing c.loop-fold.runner in
    let f : SeenFold = fold_seen g.R.Runner.pending c.loop-fold.fold in
    let held : List DefinedBatch = batches_seen c.loop-fold.held.items in
    let j : Journal = (g.J.Records.seen c.loop-fold.journal) in
    let one : suc (length more) ≡ length more + 1 = omega arith in
    let rest_is : c.loop-fold.rest.now ≡ Clear ∷ more = c.in-Some.ensures.some ∙ ap (λ (x : Item). x ∷ more) c.in-Clear.is in
    let going_all : IsGoing g.R.Runner.fits s j.rounds f held (batches_from (requests_of front) (Clear ∷ more)) (length more + 1) =
    subst (λ (k : ℕ). IsGoing g.R.Runner.fits s j.rounds f held (batches_from (requests_of front) (Clear ∷ more)) k) one
    (subst (λ (xs : List Item). IsGoing g.R.Runner.fits s j.rounds f held (batches_from (requests_of front) xs) (length xs)) rest_is i.going) in
    (batches_from (requests_of front) more, length more, going_all)

pub returns-in_err-go_line-in-Go-clause-cut : goal.returns-in_err-go_line-in-Go-clause-cut
returns-in_err-go_line-in-Go-clause-cut g c =
    let show : Show = c.args.show.now in
    let mode : Failmode = c.args.failmode in
    let front : List Item = c.loop-fold.invariant.0 in
    let i = c.loop-fold.invariant.1 in
    let more : List Item = c.in-Some.more.now in
    let s0 : Standing = g.R.Runner.standing c.args.runner.now in
    let s : Standing = g.R.Runner.standing c.loop-fold.runner in
    let f0 : SeenFold = fold_seen g.R.Runner.pending c.args.fold.now in
    let f : SeenFold = fold_seen g.R.Runner.pending c.loop-fold.fold in
    let held : List DefinedBatch = batches_seen c.loop-fold.held.items in
    let n : ℕ = c.loop-fold.batches in
    let old : Journal = (g.J.Records.seen c.args.journal.now) in
    let j : Journal = (g.J.Records.seen c.loop-fold.journal) in
    let one : suc (length more) ≡ length more + 1 = omega arith in
    let rest_is : c.loop-fold.rest.now ≡ Go ∷ more = c.in-Some.ensures.some ∙ ap (λ (x : Item). x ∷ more) c.in-Go.is in
    let going_all : IsGoing g.R.Runner.fits s j.rounds f held (batches_from (requests_of front) (Go ∷ more)) (length more + 1) =
    subst (λ (k : ℕ). IsGoing g.R.Runner.fits s j.rounds f held (batches_from (requests_of front) (Go ∷ more)) k) one
    (subst (λ (xs : List Item). IsGoing g.R.Runner.fits s j.rounds f held (batches_from (requests_of front) xs) (length xs)) rest_is i.going) in
    let ran_all : LinesRan show mode s0 s f0 f c.args.items.now (Go ∷ more) (record { held = held; batch = requests_of front; batches = n }) (requests_held held ++ batches_from (requests_of front) (Go ∷ more)) old j
    (g.R.Runner.tells c.args.runner.now) (g.R.Runner.tells c.loop-fold.runner) (g.O.Sink.holds c.args.out.now) (g.O.Sink.holds c.loop-fold.out) =
    subst (λ (xs : List Item). LinesRan show mode s0 s f0 f c.args.items.now xs (record { held = held; batch = requests_of front; batches = n }) (requests_held held ++ batches_from (requests_of front) xs) old j
    (g.R.Runner.tells c.args.runner.now) (g.R.Runner.tells c.loop-fold.runner) (g.O.Sink.holds c.args.out.now) (g.O.Sink.holds c.loop-fold.out)) rest_is i.ran in
    let own : List Request = requests_of c.front_of.result.now in
    let own_is : requests_of front ≡ own = ap requests_of (sym (c.front_of.ensures front i.whole)) in
    let going_own : IsGoing g.R.Runner.fits s j.rounds f held (own ∷ batches_from [] more) (length more + 1) =
    subst (λ (b : List Request). IsGoing g.R.Runner.fits s j.rounds f held (b ∷ batches_from [] more) (length more + 1)) own_is going_all in
    let ran_own : LinesRan show mode s0 s f0 f c.args.items.now (Go ∷ more) (record { held = held; batch = own; batches = n }) ((requests_held held ++ own ∷ []) ++ batches_from [] more) old j
    (g.R.Runner.tells c.args.runner.now) (g.R.Runner.tells c.loop-fold.runner) (g.O.Sink.holds c.args.out.now) (g.O.Sink.holds c.loop-fold.out) =
    subst (λ (bs : List (List Request)). LinesRan show mode s0 s f0 f c.args.items.now (Go ∷ more) (record { held = held; batch = own; batches = n }) bs old j
    (g.R.Runner.tells c.args.runner.now) (g.R.Runner.tells c.loop-fold.runner) (g.O.Sink.holds c.args.out.now) (g.O.Sink.holds c.loop-fold.out)) (sym (append_assoc (requests_held held) (own ∷ []) (batches_from [] more)))
    (subst (λ (b : List Request). LinesRan show mode s0 s f0 f c.args.items.now (Go ∷ more) (record { held = held; batch = b; batches = n }) (requests_held held ++ (b ∷ batches_from [] more)) old j
    (g.R.Runner.tells c.args.runner.now) (g.R.Runner.tells c.loop-fold.runner) (g.O.Sink.holds c.args.out.now) (g.O.Sink.holds c.loop-fold.out)) own_is ran_all) in
    let orderly = all_behind (IsOrderlyBatch (rows_tell_apart s.rows)) (requests_held held) own (batches_from [] more) going_own.orderly in
    by_same c.from_residual.result c.in_err-go_line-in-Go.field-0.0 _ c.from_residual.ensures.1
    (lines_cut show mode s0 s f0 f c.args.items.now Go more (record { held = held; batch = own; batches = n }) (requests_held held ++ own ∷ []) (batches_from [] more) old j (g.J.Records.seen c.go_line.new.journal)
    (g.R.Runner.tells c.args.runner.now) (g.R.Runner.tells c.loop-fold.runner) (g.R.Runner.tells c.go_line.new.runner) (g.O.Sink.holds c.args.out.now) (g.O.Sink.holds c.loop-fold.out) (g.O.Sink.holds c.go_line.new.out)
    c.in_err-go_line-in-Go.field-0.0 c.loop-fold-test.true i.tops orderly ran_own (c.in_err-go_line-in-Go.ensures.cut n refl))

pub returns-in_err-clear_line-in-Clear-clause-cut : goal.returns-in_err-clear_line-in-Clear-clause-cut
returns-in_err-clear_line-in-Clear-clause-cut g c =
    let show : Show = c.args.show.now in
    let mode : Failmode = c.args.failmode in
    let front : List Item = c.loop-fold.invariant.0 in
    let i = c.loop-fold.invariant.1 in
    let more : List Item = c.in-Some.more.now in
    let s0 : Standing = g.R.Runner.standing c.args.runner.now in
    let s : Standing = g.R.Runner.standing c.loop-fold.runner in
    let f0 : SeenFold = fold_seen g.R.Runner.pending c.args.fold.now in
    let f : SeenFold = fold_seen g.R.Runner.pending c.loop-fold.fold in
    let held : List DefinedBatch = batches_seen c.loop-fold.held.items in
    let n : ℕ = c.loop-fold.batches in
    let old : Journal = (g.J.Records.seen c.args.journal.now) in
    let j : Journal = (g.J.Records.seen c.loop-fold.journal) in
    let one : suc (length more) ≡ length more + 1 = omega arith in
    let rest_is : c.loop-fold.rest.now ≡ Clear ∷ more = c.in-Some.ensures.some ∙ ap (λ (x : Item). x ∷ more) c.in-Clear.is in
    let going_all : IsGoing g.R.Runner.fits s j.rounds f held (batches_from (requests_of front) (Clear ∷ more)) (length more + 1) =
    subst (λ (k : ℕ). IsGoing g.R.Runner.fits s j.rounds f held (batches_from (requests_of front) (Clear ∷ more)) k) one
    (subst (λ (xs : List Item). IsGoing g.R.Runner.fits s j.rounds f held (batches_from (requests_of front) xs) (length xs)) rest_is i.going) in
    let ran_all : LinesRan show mode s0 s f0 f c.args.items.now (Clear ∷ more) (record { held = held; batch = requests_of front; batches = n }) (requests_held held ++ batches_from (requests_of front) (Clear ∷ more)) old j
    (g.R.Runner.tells c.args.runner.now) (g.R.Runner.tells c.loop-fold.runner) (g.O.Sink.holds c.args.out.now) (g.O.Sink.holds c.loop-fold.out) =
    subst (λ (xs : List Item). LinesRan show mode s0 s f0 f c.args.items.now xs (record { held = held; batch = requests_of front; batches = n }) (requests_held held ++ batches_from (requests_of front) xs) old j
    (g.R.Runner.tells c.args.runner.now) (g.R.Runner.tells c.loop-fold.runner) (g.O.Sink.holds c.args.out.now) (g.O.Sink.holds c.loop-fold.out)) rest_is i.ran in
    let orderly = all_after (IsOrderlyBatch (rows_tell_apart s.rows)) (requests_held held) (batches_from (requests_of front) more) going_all.orderly in
    by_same c.from_residual-in_err-clear_line-in-Clear.result c.in_err-clear_line-in-Clear.field-0.0 _ c.from_residual-in_err-clear_line-in-Clear.ensures.1
    (lines_cut show mode s0 s f0 f c.args.items.now Clear more (record { held = held; batch = requests_of front; batches = n }) (requests_held held) (batches_from (requests_of front) more) old j (g.J.Records.seen c.clear_line.new.journal)
    (g.R.Runner.tells c.args.runner.now) (g.R.Runner.tells c.loop-fold.runner) (g.R.Runner.tells c.clear_line.new.runner) (g.O.Sink.holds c.args.out.now) (g.O.Sink.holds c.loop-fold.out) (g.O.Sink.holds c.clear_line.new.out)
    c.in_err-clear_line-in-Clear.field-0.0 c.loop-fold-test.true i.tops orderly ran_all (c.in_err-clear_line-in-Clear.ensures.cut (requests_of front) n))

pub loop-fold-preserved-in_ok-go_line-in-Go : goal.loop-fold-preserved-in_ok-go_line-in-Go
loop-fold-preserved-in_ok-go_line-in-Go g c =
    let show : Show = c.args.show.now in
    let mode : Failmode = c.args.failmode in
    let front : List Item = c.loop-fold.invariant.0 in
    let i = c.loop-fold.invariant.1 in
    let more : List Item = c.in-Some.more.now in
    let s0 : Standing = g.R.Runner.standing c.args.runner.now in
    let s : Standing = g.R.Runner.standing c.loop-fold.runner in
    let f0 : SeenFold = fold_seen g.R.Runner.pending c.args.fold.now in
    let f : SeenFold = fold_seen g.R.Runner.pending c.loop-fold.fold in
    let held : List DefinedBatch = batches_seen c.loop-fold.held.items in
    let n : ℕ = c.loop-fold.batches in
    let old : Journal = (g.J.Records.seen c.args.journal.now) in
    let j : Journal = (g.J.Records.seen c.loop-fold.journal) in
    let one : suc (length more) ≡ length more + 1 = omega arith in
    let rest_is : c.loop-fold.rest.now ≡ Go ∷ more = c.in-Some.ensures.some ∙ ap (λ (x : Item). x ∷ more) c.in-Go.is in
    let going_all : IsGoing g.R.Runner.fits s j.rounds f held (batches_from (requests_of front) (Go ∷ more)) (length more + 1) =
    subst (λ (k : ℕ). IsGoing g.R.Runner.fits s j.rounds f held (batches_from (requests_of front) (Go ∷ more)) k) one
    (subst (λ (xs : List Item). IsGoing g.R.Runner.fits s j.rounds f held (batches_from (requests_of front) xs) (length xs)) rest_is i.going) in
    let ran_all : LinesRan show mode s0 s f0 f c.args.items.now (Go ∷ more) (record { held = held; batch = requests_of front; batches = n }) (requests_held held ++ batches_from (requests_of front) (Go ∷ more)) old j
    (g.R.Runner.tells c.args.runner.now) (g.R.Runner.tells c.loop-fold.runner) (g.O.Sink.holds c.args.out.now) (g.O.Sink.holds c.loop-fold.out) =
    subst (λ (xs : List Item). LinesRan show mode s0 s f0 f c.args.items.now xs (record { held = held; batch = requests_of front; batches = n }) (requests_held held ++ batches_from (requests_of front) xs) old j
    (g.R.Runner.tells c.args.runner.now) (g.R.Runner.tells c.loop-fold.runner) (g.O.Sink.holds c.args.out.now) (g.O.Sink.holds c.loop-fold.out)) rest_is i.ran in
    let own : List Request = requests_of c.front_of.result.now in
    let own_is : requests_of front ≡ own = ap requests_of (sym (c.front_of.ensures front i.whole)) in
    let going_own : IsGoing g.R.Runner.fits s j.rounds f held (own ∷ batches_from [] more) (length more + 1) =
    subst (λ (b : List Request). IsGoing g.R.Runner.fits s j.rounds f held (b ∷ batches_from [] more) (length more + 1)) own_is going_all in
    let ran_own : LinesRan show mode s0 s f0 f c.args.items.now (Go ∷ more) (record { held = held; batch = own; batches = n }) ((requests_held held ++ own ∷ []) ++ batches_from [] more) old j
    (g.R.Runner.tells c.args.runner.now) (g.R.Runner.tells c.loop-fold.runner) (g.O.Sink.holds c.args.out.now) (g.O.Sink.holds c.loop-fold.out) =
    subst (λ (bs : List (List Request)). LinesRan show mode s0 s f0 f c.args.items.now (Go ∷ more) (record { held = held; batch = own; batches = n }) bs old j
    (g.R.Runner.tells c.args.runner.now) (g.R.Runner.tells c.loop-fold.runner) (g.O.Sink.holds c.args.out.now) (g.O.Sink.holds c.loop-fold.out)) (sym (append_assoc (requests_held held) (own ∷ []) (batches_from [] more)))
    (subst (λ (b : List Request). LinesRan show mode s0 s f0 f c.args.items.now (Go ∷ more) (record { held = held; batch = b; batches = n }) (requests_held held ++ (b ∷ batches_from [] more)) old j
    (g.R.Runner.tells c.args.runner.now) (g.R.Runner.tells c.loop-fold.runner) (g.O.Sink.holds c.args.out.now) (g.O.Sink.holds c.loop-fold.out)) own_is ran_all) in
    let orderly = all_behind (IsOrderlyBatch (rows_tell_apart s.rows)) (requests_held held) own (batches_from [] more) going_own.orderly in
    let did = c.in_ok-go_line-in-Go.ensures in (
      [],
      record {
        whole = refl;
        going = did.going (batches_from [] more) (length more) going_own;
        waits = did.waits;
        ran = lines_line show mode s0 s (g.R.Runner.standing c.go_line.new.runner) f0 f (fold_seen g.R.Runner.pending c.go_line.new.fold) c.args.items.now Go more (record { held = held; batch = own; batches = n })
            (record { held = batches_seen c.go_line.new.held.items; batch = []; batches = n + 1 }) (requests_held held ++ own ∷ []) (requests_held (batches_seen c.go_line.new.held.items)) (batches_from [] more) old j (g.J.Records.seen c.go_line.new.journal)
            (g.R.Runner.tells c.args.runner.now) (g.R.Runner.tells c.loop-fold.runner) (g.R.Runner.tells c.go_line.new.runner) (g.O.Sink.holds c.args.out.now) (g.O.Sink.holds c.loop-fold.out) (g.O.Sink.holds c.go_line.new.out)
            c.loop-fold-test.true orderly ran_own (did.ran n refl);
        point = let a = i.point in let b : length c.loop-fold.rest.now ≡ suc (length more) = ap length rest_is in let d = did.point in omega arith;
        batches_fit = let a = i.batches_fit in let b : length c.loop-fold.rest.now ≡ suc (length more) = ap length rest_is in omega arith;
        tops = did.tops ∙ i.tops;
        rows = did.rows ∙ i.rows;
        faults = did.faults ∙ i.faults;
        quiet = did.quiet ∙ i.quiet;
        can = did.can;
        chosen = did.chosen;
        same = g.met.R.Runner.same_then c.args.runner.now c.loop-fold.runner c.go_line.new.runner i.same did.same;
      },
    )

pub loop-fold-preserved : goal.loop-fold-preserved
loop-fold-preserved g c =
    let show : Show = c.args.show.now in
    let mode : Failmode = c.args.failmode in
    let front : List Item = c.loop-fold.invariant.0 in
    let i = c.loop-fold.invariant.1 in
    let more : List Item = c.in-Some.more.now in
    let s0 : Standing = g.R.Runner.standing c.args.runner.now in
    let s : Standing = g.R.Runner.standing c.loop-fold.runner in
    let f0 : SeenFold = fold_seen g.R.Runner.pending c.args.fold.now in
    let f : SeenFold = fold_seen g.R.Runner.pending c.loop-fold.fold in
    let held : List DefinedBatch = batches_seen c.loop-fold.held.items in
    let n : ℕ = c.loop-fold.batches in
    let old : Journal = (g.J.Records.seen c.args.journal.now) in
    let j : Journal = (g.J.Records.seen c.loop-fold.journal) in
    let one : suc (length more) ≡ length more + 1 = omega arith in
    let rest_is : c.loop-fold.rest.now ≡ Clear ∷ more = c.in-Some.ensures.some ∙ ap (λ (x : Item). x ∷ more) c.in-Clear.is in
    let going_all : IsGoing g.R.Runner.fits s j.rounds f held (batches_from (requests_of front) (Clear ∷ more)) (length more + 1) =
    subst (λ (k : ℕ). IsGoing g.R.Runner.fits s j.rounds f held (batches_from (requests_of front) (Clear ∷ more)) k) one
    (subst (λ (xs : List Item). IsGoing g.R.Runner.fits s j.rounds f held (batches_from (requests_of front) xs) (length xs)) rest_is i.going) in
    let ran_all : LinesRan show mode s0 s f0 f c.args.items.now (Clear ∷ more) (record { held = held; batch = requests_of front; batches = n }) (requests_held held ++ batches_from (requests_of front) (Clear ∷ more)) old j
    (g.R.Runner.tells c.args.runner.now) (g.R.Runner.tells c.loop-fold.runner) (g.O.Sink.holds c.args.out.now) (g.O.Sink.holds c.loop-fold.out) =
    subst (λ (xs : List Item). LinesRan show mode s0 s f0 f c.args.items.now xs (record { held = held; batch = requests_of front; batches = n }) (requests_held held ++ batches_from (requests_of front) xs) old j
    (g.R.Runner.tells c.args.runner.now) (g.R.Runner.tells c.loop-fold.runner) (g.O.Sink.holds c.args.out.now) (g.O.Sink.holds c.loop-fold.out)) rest_is i.ran in
    let orderly = all_after (IsOrderlyBatch (rows_tell_apart s.rows)) (requests_held held) (batches_from (requests_of front) more) going_all.orderly in
    let did = c.in_ok-clear_line-in-Clear.ensures in
    let same_requests : requests_of front ≡ requests_of (front ++ Clear ∷ []) = sym (requests_both front (Clear ∷ []) ∙ append-nil (requests_of front)) in (
      front ++ Clear ∷ [],
      record {
        whole = i.whole ∙ (ap (λ (xs : List Item). front ++ xs) rest_is ∙ sym (append_assoc front (Clear ∷ []) more));
        going = subst (λ (b : List Request). IsGoing g.R.Runner.fits (g.R.Runner.standing c.clear_line.new.runner) (g.J.Records.seen c.clear_line.new.journal).rounds (fold_seen g.R.Runner.pending c.clear_line.new.fold) (batches_seen c.clear_line.new.held.items) (batches_from b more) (length more)) same_requests
            (did.going (batches_from (requests_of front) more) (length more) going_all);
        waits = did.waits;
        ran = subst (λ (b : List Request). LinesRan show mode s0 (g.R.Runner.standing c.clear_line.new.runner) f0 (fold_seen g.R.Runner.pending c.clear_line.new.fold) c.args.items.now more (record { held = batches_seen c.clear_line.new.held.items; batch = b; batches = n })
            (requests_held (batches_seen c.clear_line.new.held.items) ++ batches_from b more) old (g.J.Records.seen c.clear_line.new.journal) (g.R.Runner.tells c.args.runner.now) (g.R.Runner.tells c.clear_line.new.runner) (g.O.Sink.holds c.args.out.now) (g.O.Sink.holds c.clear_line.new.out)) same_requests
            (lines_line show mode s0 s (g.R.Runner.standing c.clear_line.new.runner) f0 f (fold_seen g.R.Runner.pending c.clear_line.new.fold) c.args.items.now Clear more (record { held = held; batch = requests_of front; batches = n })
            (record { held = batches_seen c.clear_line.new.held.items; batch = requests_of front; batches = n }) (requests_held held) (requests_held (batches_seen c.clear_line.new.held.items)) (batches_from (requests_of front) more) old j (g.J.Records.seen c.clear_line.new.journal)
            (g.R.Runner.tells c.args.runner.now) (g.R.Runner.tells c.loop-fold.runner) (g.R.Runner.tells c.clear_line.new.runner) (g.O.Sink.holds c.args.out.now) (g.O.Sink.holds c.loop-fold.out) (g.O.Sink.holds c.clear_line.new.out)
            c.loop-fold-test.true orderly ran_all (did.ran (requests_of front) n));
        point = let a = i.point in let b : length c.loop-fold.rest.now ≡ suc (length more) = ap length rest_is in let d = did.point in omega arith;
        batches_fit = let a = i.batches_fit in let b : length c.loop-fold.rest.now ≡ suc (length more) = ap length rest_is in omega arith;
        tops = did.tops ∙ i.tops;
        rows = did.rows ∙ i.rows;
        faults = did.faults ∙ i.faults;
        quiet = did.quiet ∙ i.quiet;
        can = did.can;
        chosen = did.chosen;
        same = g.met.R.Runner.same_then c.args.runner.now c.loop-fold.runner c.clear_line.new.runner i.same did.same;
      },
    )

pub loop-fold-preserved-in-Request : goal.loop-fold-preserved-in-Request
loop-fold-preserved-in-Request g c =
    let show : Show = c.args.show.now in
    let mode : Failmode = c.args.failmode in
    let front : List Item = c.loop-fold.invariant.0 in
    let i = c.loop-fold.invariant.1 in
    let more : List Item = c.in-Some.more.now in
    let s0 : Standing = g.R.Runner.standing c.args.runner.now in
    let s : Standing = g.R.Runner.standing c.loop-fold.runner in
    let f0 : SeenFold = fold_seen g.R.Runner.pending c.args.fold.now in
    let f : SeenFold = fold_seen g.R.Runner.pending c.loop-fold.fold in
    let held : List DefinedBatch = batches_seen c.loop-fold.held.items in
    let n : ℕ = c.loop-fold.batches in
    let old : Journal = (g.J.Records.seen c.args.journal.now) in
    let j : Journal = (g.J.Records.seen c.loop-fold.journal) in
    let one : suc (length more) ≡ length more + 1 = omega arith in
    let r : Request = c.in-Request.field-0 in
    let rest_is : c.loop-fold.rest.now ≡ RequestLine r ∷ more = c.in-Some.ensures.some ∙ ap (λ (x : Item). x ∷ more) c.in-Request.is in
    let going_all : IsGoing g.R.Runner.fits s j.rounds f held (batches_from (requests_of front) (RequestLine r ∷ more)) (length more + 1) =
    subst (λ (k : ℕ). IsGoing g.R.Runner.fits s j.rounds f held (batches_from (requests_of front) (RequestLine r ∷ more)) k) one
    (subst (λ (xs : List Item). IsGoing g.R.Runner.fits s j.rounds f held (batches_from (requests_of front) xs) (length xs)) rest_is i.going) in
    let ran_all : LinesRan show mode s0 s f0 f c.args.items.now (RequestLine r ∷ more) (record { held = held; batch = requests_of front; batches = n }) (requests_held held ++ batches_from (requests_of front) (RequestLine r ∷ more)) old j
    (g.R.Runner.tells c.args.runner.now) (g.R.Runner.tells c.loop-fold.runner) (g.O.Sink.holds c.args.out.now) (g.O.Sink.holds c.loop-fold.out) =
    subst (λ (xs : List Item). LinesRan show mode s0 s f0 f c.args.items.now xs (record { held = held; batch = requests_of front; batches = n }) (requests_held held ++ batches_from (requests_of front) xs) old j
    (g.R.Runner.tells c.args.runner.now) (g.R.Runner.tells c.loop-fold.runner) (g.O.Sink.holds c.args.out.now) (g.O.Sink.holds c.loop-fold.out)) rest_is i.ran in
    let same_requests : requests_of front ++ r ∷ [] ≡ requests_of (front ++ RequestLine r ∷ []) = sym (requests_both front (RequestLine r ∷ [])) in (
      front ++ RequestLine r ∷ [],
      record {
        whole = i.whole ∙ (ap (λ (xs : List Item). front ++ xs) rest_is ∙ sym (append_assoc front (RequestLine r ∷ []) more));
        going = subst (λ (b : List Request). IsGoing g.R.Runner.fits s j.rounds f held (batches_from b more) (length more)) same_requests
            (going_less g.R.Runner.fits s j.rounds f held (batches_from (requests_of front ++ r ∷ []) more) (length more) going_all);
        waits = i.waits;
        ran = subst (λ (b : List Request). LinesRan show mode s0 s f0 f c.args.items.now more (record { held = held; batch = b; batches = n }) (requests_held held ++ batches_from b more) old j
            (g.R.Runner.tells c.args.runner.now) (g.R.Runner.tells c.loop-fold.runner) (g.O.Sink.holds c.args.out.now) (g.O.Sink.holds c.loop-fold.out)) same_requests
            (lines_request show mode s0 s f0 f c.args.items.now r more held (requests_of front) n (requests_held held ++ batches_from (requests_of front ++ r ∷ []) more) old j
            (g.R.Runner.tells c.args.runner.now) (g.R.Runner.tells c.loop-fold.runner) (g.O.Sink.holds c.args.out.now) (g.O.Sink.holds c.loop-fold.out) c.loop-fold-test.true ran_all);
        point = let a = i.point in let b : length c.loop-fold.rest.now ≡ suc (length more) = ap length rest_is in omega arith;
        batches_fit = let a = i.batches_fit in let b : length c.loop-fold.rest.now ≡ suc (length more) = ap length rest_is in omega arith;
        tops = i.tops;
        rows = i.rows;
        faults = i.faults;
        quiet = i.quiet;
        can = i.can;
        chosen = i.chosen;
        same = i.same;
      },
    )

pub returns-after-loop-fold-clause-ran : goal.returns-after-loop-fold-clause-ran
returns-after-loop-fold-clause-ran g c =
    lines_over c.args.show.now c.args.failmode (g.R.Runner.standing c.args.runner.now) (g.R.Runner.standing c.loop-fold.runner) (fold_seen g.R.Runner.pending c.args.fold.now) (fold_seen g.R.Runner.pending c.loop-fold.fold) c.args.items.now c.loop-fold.rest.now
    (record { held = batches_seen c.loop-fold.held.items; batch = requests_of c.loop-fold.invariant.0; batches = c.loop-fold.batches })
    (requests_held (batches_seen c.loop-fold.held.items) ++ batches_from (requests_of c.loop-fold.invariant.0) c.loop-fold.rest.now) (g.J.Records.seen c.args.journal.now) (g.J.Records.seen c.loop-fold.journal) (g.R.Runner.tells c.args.runner.now) (g.R.Runner.tells c.loop-fold.runner)
    (g.O.Sink.holds c.args.out.now) (g.O.Sink.holds c.loop-fold.out) (inl c.loop-fold-test.false) c.loop-fold.invariant.1.ran

pub returns-in_default-clause-ran : goal.returns-in_default-clause-ran
returns-in_default-clause-ran g c =
    lines_over c.args.show.now c.args.failmode (g.R.Runner.standing c.args.runner.now) (g.R.Runner.standing c.loop-fold.runner) (fold_seen g.R.Runner.pending c.args.fold.now) (fold_seen g.R.Runner.pending c.loop-fold.fold) c.args.items.now c.loop-fold.rest.now
    (record { held = batches_seen c.loop-fold.held.items; batch = requests_of c.loop-fold.invariant.0; batches = c.loop-fold.batches })
    (requests_held (batches_seen c.loop-fold.held.items) ++ batches_from (requests_of c.loop-fold.invariant.0) c.loop-fold.rest.now) (g.J.Records.seen c.args.journal.now) (g.J.Records.seen c.loop-fold.journal) (g.R.Runner.tells c.args.runner.now) (g.R.Runner.tells c.loop-fold.runner)
    (g.O.Sink.holds c.args.out.now) (g.O.Sink.holds c.loop-fold.out) (inr (c.in_default.ensures.none refl)) c.loop-fold.invariant.1.ran

pub returns-after-loop-fold-clause-steady : goal.returns-after-loop-fold-clause-steady
returns-after-loop-fold-clause-steady g c = c.loop-fold.invariant.1.going.steady

pub returns-in_default-clause-steady : goal.returns-in_default-clause-steady
returns-in_default-clause-steady g c = c.loop-fold.invariant.1.going.steady
