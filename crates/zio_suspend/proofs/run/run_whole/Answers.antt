use Rattle.std.proofs.Common.{◌+◌, ◌<◌, ◌^◌, ◌++◌, [], ℕ, List, Err, length, refl, sym, ap, subst, ◌∙◌, inl, inr}
use Rattle.zio_outside.specs.Outside.{Appends, AppendsFront}
use Rattle.zio_types.specs.declared.journal.Journal.{Journal}
use Rattle.zio_script.specs.declared.script.Item.{Item}
use Rattle.zio_script.specs.declared.script.Script.{Script}
use Rattle.zio_script.specs.Accepted.{batches_from}
use Rattle.zio_script.specs.Requests.{requests_of}
use Rattle.zio_cksum.specs.Images.{Images}
use Rattle.zio_gang.specs.declared.bound.Bound.{Bound}
use Rattle.zio_gang.specs.Runs.{Batch as DefinedBatch}
use Rattle.zio_gang.specs.Trees.{sizes_of}
use Rattle.zio_report.specs.declared.report.RunFault.{RunFault}
use Rattle.zio_report.specs.declared.report.RunFault.TheVariants.{Sink, Memory}
use Rattle.zio_report.specs.declared.report.Show.{Show}
use Rattle.zio_report.specs.Reports.{RunSize, pool_text}
use Rattle.zio_course.specs.Course.{shown_of}
use Rattle.zio_course.specs.Folds.{SeenFold, batches_seen, fold_seen}
use Rattle.zio_course.specs.Moves.{IsGoing, LinesCut, LinesOver}
use Rattle.zio_course.specs.Names.{named_in, pairs_of}
use Rattle.zio_course.specs.Runners.{Standing, Stopping, stopping_of}
use Rattle.zio_course.specs.SoFar.{IsCutText}
use Rattle.zio_course.proofs.CutLemmas.{by_fault, not_written, part_written}
use Rattle.zio_suspend.specs.Ends.{last_text}
use Rattle.zio_suspend.specs.Pools.{AreBlocks}
use Rattle.zio_suspend.proofs.EndLemmas.{IsEndOf, ScriptCut, Starts, cut_between, cut_first, cut_last, end_of, pool_whole, same_fault}
use Rattle.zio_suspend.proofs.HealLemmas.{whole_is_plain}
use Rattle.zio_suspend.proofs.PoolLemmas.{blocks_of_steady}
use Rattle.zio_suspend.proofs.StartLemmas.{IsNew, fold_is_new, none_yet, nothing_is_new, nothing_yet, start_going, start_point}
use Rattle.zio_suspend.proofs.run.run_whole.Goals as goal

pub returns-in_err-begin-clause-cut : goal.returns-in_err-begin-clause-cut
returns-in_err-begin-clause-cut g c =
    let script : Script = c.args.script.now in
    let show : Show = c.args.show.now in
    let n : RunSize = record { tops = length script.tops; images = c.args.images; requests = length (requests_of script.items) } in
    let s : Standing = g.R.Runner.standing c.args.runner.now in
    let old : Journal = (g.J.Records.seen c.args.journal.now) in
    let tells : Images → Type 0 = g.R.Runner.tells c.args.runner.now in
    let holds : List ℕ → Type 0 = g.O.Sink.holds c.args.out.now in
    let q = c.requires.script in
    let f : SeenFold = nothing_yet in
    let new : IsNew f = nothing_is_new in
    let starts : Starts script s f old tells = record {
      up = c.accepted_scripts_are_orderly.ensures.rising q.0 script q.1;
      empty = c.requires.empty;
      rows = c.requires.rows;
      tops = c.requires.tops;
      live = c.requires.live;
      new = new;
    } in
    let new_holds : List ℕ → Type 0 = g.O.Sink.holds c.begin.new.out in
    let w : Stopping = stopping_of s (g.R.Runner.stops c.args.runner.now) in
    let e : RunFault = c.in_err-begin.field-0.0 in
    let pool : List ℕ = shown_of show (pool_text n.tops n.images) in
    same_fault c.from_residual.result e (λ (fault : RunFault). ScriptCut show n script s old tells tells w holds new_holds fault) c.from_residual.ensures.1
    (by_fault (Err e) (λ (fault : RunFault). ScriptCut show n script s old tells tells w holds new_holds fault)
    (λ is. absurd (c.in_err-begin.ensures.device is))
    (λ is. cut_first show n script s f old tells holds new_holds Sink tt c.requires.runs starts
    (part_written holds new_holds [] pool (subst (λ (m : ℕ). AppendsFront holds new_holds (shown_of show (pool_text m n.images))) c.len.ensures (c.in_err-begin.ensures.front is))))
    (λ is. cut_first show n script s f old tells holds new_holds Memory tt c.requires.runs starts
    (subst (λ out. IsCutText Memory holds (g.O.Sink.holds out) [] pool) (sym (c.in_err-begin.ensures.memory is)) (not_written holds [] pool (inl refl)))))

pub run_lines-requires-clause-going : goal.run_lines-requires-clause-going
run_lines-requires-clause-going g c =
    let script : Script = c.args.script.now in
    let show : Show = c.args.show.now in
    let n : RunSize = record { tops = length script.tops; images = c.args.images; requests = length (requests_of script.items) } in
    let s : Standing = g.R.Runner.standing c.args.runner.now in
    let old : Journal = (g.J.Records.seen c.args.journal.now) in
    let tells : Images → Type 0 = g.R.Runner.tells c.args.runner.now in
    let holds : List ℕ → Type 0 = g.O.Sink.holds c.args.out.now in
    let q = c.requires.script in
    let f : SeenFold = fold_seen g.R.Runner.pending c.new-fold.result in
    let k = c.new-fold.ensures in
    let new : IsNew f = fold_is_new g.R.Runner.pending c.new-fold.result k.bound k.suspended k.unfinished k.awaited k.point k.panicked k.tally in
    subst (λ (items : List Item). IsGoing g.R.Runner.fits s old.rounds f [] (batches_from [] items) (length items)) (sym c.as_slice.ensures)
    (start_going g.R.Runner.fits s old.rounds f q.0 script q.1 (c.accepted_scripts_are_orderly.ensures.rising q.0 script q.1) (c.accepted_scripts_are_orderly.ensures.batches q.0 script q.1)
    new c.requires.rows c.requires.live c.requires.runs c.requires.last c.requires.empty.rounds)

pub run_lines-requires-clause-point : goal.run_lines-requires-clause-point
run_lines-requires-clause-point g c =
    let q = c.requires.script in
    subst (λ (items : List Item). c.new-fold.result.point + length items < 2 ^ 32) (sym c.as_slice.ensures) (start_point c.new-fold.result.point q.0 c.args.script.now q.1 c.new-fold.ensures.point)

pub returns-in_err-run_lines-clause-cut : goal.returns-in_err-run_lines-clause-cut
returns-in_err-run_lines-clause-cut g c =
    let script : Script = c.args.script.now in
    let show : Show = c.args.show.now in
    let n : RunSize = record { tops = length script.tops; images = c.args.images; requests = length (requests_of script.items) } in
    let s : Standing = g.R.Runner.standing c.args.runner.now in
    let old : Journal = (g.J.Records.seen c.args.journal.now) in
    let tells : Images → Type 0 = g.R.Runner.tells c.args.runner.now in
    let holds : List ℕ → Type 0 = g.O.Sink.holds c.args.out.now in
    let q = c.requires.script in
    let f : SeenFold = fold_seen g.R.Runner.pending c.new-fold.result in
    let k = c.new-fold.ensures in
    let new : IsNew f = fold_is_new g.R.Runner.pending c.new-fold.result k.bound k.suspended k.unfinished k.awaited k.point k.panicked k.tally in
    let starts : Starts script s f old tells = record {
      up = c.accepted_scripts_are_orderly.ensures.rising q.0 script q.1;
      empty = c.requires.empty;
      rows = c.requires.rows;
      tops = c.requires.tops;
      live = c.requires.live;
      new = new;
    } in
    let mid : List ℕ → Type 0 = g.O.Sink.holds c.begin.new.out in
    let first : Appends holds mid (shown_of show (pool_text n.tops n.images)) = subst (λ (m : ℕ). Appends holds mid (shown_of show (pool_text m n.images))) c.len.ensures c.in_ok-begin.ensures.ok in
    let now : Standing = g.R.Runner.standing c.run_lines.new.runner in
    let after : Journal = (g.J.Records.seen c.run_lines.new.journal) in
    let new_tells : Images → Type 0 = g.R.Runner.tells c.run_lines.new.runner in
    let over : List ℕ → Type 0 = g.O.Sink.holds c.run_lines.new.out in
    let w : Stopping = stopping_of now (g.R.Runner.stops c.run_lines.new.runner) in
    let e : RunFault = c.in_err-run_lines.field-0.0 in
    same_fault c.from_residual-in_err-run_lines.result e (λ (fault : RunFault). ScriptCut show n script s after tells new_tells w holds over fault) c.from_residual-in_err-run_lines.ensures.1
    (cut_between show n script s f old after tells new_tells holds mid over e starts first
    (subst (λ (items : List Item). LinesCut show script.failmode s f items old after tells new_tells w mid over e) c.as_slice.ensures c.in_err-run_lines.ensures.cut))

pub returns-in-Err-clause-cut : goal.returns-in-Err-clause-cut
returns-in-Err-clause-cut g c =
    let script : Script = c.args.script.now in
    let show : Show = c.args.show.now in
    let n : RunSize = record { tops = length script.tops; images = c.args.images; requests = length (requests_of script.items) } in
    let s : Standing = g.R.Runner.standing c.args.runner.now in
    let old : Journal = (g.J.Records.seen c.args.journal.now) in
    let tells : Images → Type 0 = g.R.Runner.tells c.args.runner.now in
    let holds : List ℕ → Type 0 = g.O.Sink.holds c.args.out.now in
    let q = c.requires.script in
    let f : SeenFold = fold_seen g.R.Runner.pending c.new-fold.result in
    let k = c.new-fold.ensures in
    let new : IsNew f = fold_is_new g.R.Runner.pending c.new-fold.result k.bound k.suspended k.unfinished k.awaited k.point k.panicked k.tally in
    let starts : Starts script s f old tells = record {
      up = c.accepted_scripts_are_orderly.ensures.rising q.0 script q.1;
      empty = c.requires.empty;
      rows = c.requires.rows;
      tops = c.requires.tops;
      live = c.requires.live;
      new = new;
    } in
    let mid : List ℕ → Type 0 = g.O.Sink.holds c.begin.new.out in
    let first : Appends holds mid (shown_of show (pool_text n.tops n.images)) = subst (λ (m : ℕ). Appends holds mid (shown_of show (pool_text m n.images))) c.len.ensures c.in_ok-begin.ensures.ok in
    let now : Standing = g.R.Runner.standing c.run_lines.new.runner in
    let after : Journal = (g.J.Records.seen c.run_lines.new.journal) in
    let new_tells : Images → Type 0 = g.R.Runner.tells c.run_lines.new.runner in
    let over : List ℕ → Type 0 = g.O.Sink.holds c.run_lines.new.out in
    let h : SeenFold = fold_seen g.R.Runner.pending c.run_lines.new.fold in
    let held : List DefinedBatch = batches_seen c.run_lines.new.held.items in
    let end = c.ending_of-ending.result in
    let ran : LinesOver show script.failmode s now f h script.items held old after tells new_tells mid over =
    subst (λ (items : List Item). LinesOver show script.failmode s now f h items held old after tells new_tells mid over) c.as_slice.ensures c.in_ok-run_lines.ensures.ran in
    let ended : IsEndOf h held end = end_of g.R.Runner.pending c.run_lines.new.fold c.run_lines.new.held.items end c.ending_of-ending.ensures in
    let last : List ℕ = last_text show n.requests h.tally end in
    cut_last show n script s now f h held old after tells new_tells holds mid over over end Memory tt c.in_ok-run_lines.ensures.runs starts c.in_ok-run_lines.ensures.tops ended ran first
    (λ before text full at. inr at)
    (λ printed whole. not_written over printed last whole)

pub returns-in_err-finish-clause-cut : goal.returns-in_err-finish-clause-cut
returns-in_err-finish-clause-cut g c =
    let script : Script = c.args.script.now in
    let show : Show = c.args.show.now in
    let n : RunSize = record { tops = length script.tops; images = c.args.images; requests = length (requests_of script.items) } in
    let s : Standing = g.R.Runner.standing c.args.runner.now in
    let old : Journal = (g.J.Records.seen c.args.journal.now) in
    let tells : Images → Type 0 = g.R.Runner.tells c.args.runner.now in
    let holds : List ℕ → Type 0 = g.O.Sink.holds c.args.out.now in
    let q = c.requires.script in
    let f : SeenFold = fold_seen g.R.Runner.pending c.new-fold.result in
    let k = c.new-fold.ensures in
    let new : IsNew f = fold_is_new g.R.Runner.pending c.new-fold.result k.bound k.suspended k.unfinished k.awaited k.point k.panicked k.tally in
    let starts : Starts script s f old tells = record {
      up = c.accepted_scripts_are_orderly.ensures.rising q.0 script q.1;
      empty = c.requires.empty;
      rows = c.requires.rows;
      tops = c.requires.tops;
      live = c.requires.live;
      new = new;
    } in
    let mid : List ℕ → Type 0 = g.O.Sink.holds c.begin.new.out in
    let first : Appends holds mid (shown_of show (pool_text n.tops n.images)) = subst (λ (m : ℕ). Appends holds mid (shown_of show (pool_text m n.images))) c.len.ensures c.in_ok-begin.ensures.ok in
    let now : Standing = g.R.Runner.standing c.run_lines.new.runner in
    let after : Journal = (g.J.Records.seen c.run_lines.new.journal) in
    let new_tells : Images → Type 0 = g.R.Runner.tells c.run_lines.new.runner in
    let over : List ℕ → Type 0 = g.O.Sink.holds c.run_lines.new.out in
    let h : SeenFold = fold_seen g.R.Runner.pending c.run_lines.new.fold in
    let held : List DefinedBatch = batches_seen c.run_lines.new.held.items in
    let end = c.ending_of-ending.result in
    let new_holds : List ℕ → Type 0 = g.O.Sink.holds c.finish.new.out in
    let ran : LinesOver show script.failmode s now f h script.items held old after tells new_tells mid over =
    subst (λ (items : List Item). LinesOver show script.failmode s now f h items held old after tells new_tells mid over) c.as_slice.ensures c.in_ok-run_lines.ensures.ran in
    let ended : IsEndOf h held end = end_of g.R.Runner.pending c.run_lines.new.fold c.run_lines.new.held.items end c.ending_of-ending.ensures in
    let last : List ℕ = last_text show n.requests h.tally end in
    let w : Stopping = stopping_of now (g.R.Runner.stops c.run_lines.new.runner) in
    let e : RunFault = c.in_err-finish.field-0.0 in
    same_fault c.from_residual-in_err-finish.result e (λ (fault : RunFault). ScriptCut show n script s after tells new_tells w holds new_holds fault) c.from_residual-in_err-finish.ensures.1
    (by_fault (Err e) (λ (fault : RunFault). ScriptCut show n script s after tells new_tells w holds new_holds fault)
    (λ is. absurd (c.in_err-finish.ensures.device is))
    (λ is. cut_last show n script s now f h held old after tells new_tells holds mid over new_holds end Sink tt c.in_ok-run_lines.ensures.runs starts c.in_ok-run_lines.ensures.tops ended ran first
    (λ before text full at. inr at)
    (λ printed whole. part_written over new_holds printed last
    (subst (λ (items : List Item). AppendsFront over new_holds (last_text show (length (requests_of items)) h.tally end)) c.as_slice-2.ensures (c.in_err-finish.ensures.front is))))
    (λ is. cut_last show n script s now f h held old after tells new_tells holds mid over new_holds end Memory tt c.in_ok-run_lines.ensures.runs starts c.in_ok-run_lines.ensures.tops ended ran first
    (λ before text full at. inr at)
    (λ printed whole. subst (λ out. IsCutText Memory over (g.O.Sink.holds out) printed (printed ++ last)) (sym (c.in_err-finish.ensures.memory is)) (not_written over printed last whole))))

pub returns-clause-whole : goal.returns-clause-whole
returns-clause-whole g c =
    let script : Script = c.args.script.now in
    let show : Show = c.args.show.now in
    let n : RunSize = record { tops = length script.tops; images = c.args.images; requests = length (requests_of script.items) } in
    let s : Standing = g.R.Runner.standing c.args.runner.now in
    let old : Journal = (g.J.Records.seen c.args.journal.now) in
    let tells : Images → Type 0 = g.R.Runner.tells c.args.runner.now in
    let holds : List ℕ → Type 0 = g.O.Sink.holds c.args.out.now in
    let q = c.requires.script in
    let f : SeenFold = fold_seen g.R.Runner.pending c.new-fold.result in
    let k = c.new-fold.ensures in
    let new : IsNew f = fold_is_new g.R.Runner.pending c.new-fold.result k.bound k.suspended k.unfinished k.awaited k.point k.panicked k.tally in
    let starts : Starts script s f old tells = record {
      up = c.accepted_scripts_are_orderly.ensures.rising q.0 script q.1;
      empty = c.requires.empty;
      rows = c.requires.rows;
      tops = c.requires.tops;
      live = c.requires.live;
      new = new;
    } in
    let mid : List ℕ → Type 0 = g.O.Sink.holds c.begin.new.out in
    let first : Appends holds mid (shown_of show (pool_text n.tops n.images)) = subst (λ (m : ℕ). Appends holds mid (shown_of show (pool_text m n.images))) c.len.ensures c.in_ok-begin.ensures.ok in
    let now : Standing = g.R.Runner.standing c.run_lines.new.runner in
    let after : Journal = (g.J.Records.seen c.run_lines.new.journal) in
    let new_tells : Images → Type 0 = g.R.Runner.tells c.run_lines.new.runner in
    let over : List ℕ → Type 0 = g.O.Sink.holds c.run_lines.new.out in
    let h : SeenFold = fold_seen g.R.Runner.pending c.run_lines.new.fold in
    let held : List DefinedBatch = batches_seen c.run_lines.new.held.items in
    let end = c.ending_of-ending.result in
    let new_holds : List ℕ → Type 0 = g.O.Sink.holds c.finish.new.out in
    let ran : LinesOver show script.failmode s now f h script.items held old after tells new_tells mid over =
    subst (λ (items : List Item). LinesOver show script.failmode s now f h items held old after tells new_tells mid over) c.as_slice.ensures c.in_ok-run_lines.ensures.ran in
    let ended : IsEndOf h held end = end_of g.R.Runner.pending c.run_lines.new.fold c.run_lines.new.held.items end c.ending_of-ending.ensures in
    let last : List ℕ = last_text show n.requests h.tally end in
    pool_whole show n script s now f h held old after tells new_tells holds mid over new_holds end c.args.lists c.from_vec.result starts c.in_ok-run_lines.ensures.tops ended ran first
    (subst (λ (items : List Item). Appends over new_holds (last_text show (length (requests_of items)) h.tally end)) c.as_slice-2.ensures c.in_ok-finish.ensures.ok)
    (λ listed name. ap (λ (bs : List Bound). named_in (pairs_of bs) name) c.from_vec.ensures ∙ c.in-Ok.ensures.blocks listed name)

pub returns-clause-healed : goal.returns-clause-healed
returns-clause-healed g c before told healed fit small accepts =
    let script : Script = c.args.script.now in
    let q = c.requires.script in
    let journal : Journal = (g.J.Records.seen c.run_lines.new.journal) in
    let w = returns-clause-whole g c before told in
    whole_is_plain c.args.show.now (record { tops = length script.tops; images = c.args.images; requests = length (requests_of script.items) })
    script before journal w.0 w.1 c.ending_of-ending.result w.2
    (c.healed_scripts_store_plainly.ensures q.0 script before journal.places q.1) healed fit small accepts

pub run_lines-requires-clause-chosen : goal.run_lines-requires-clause-chosen
run_lines-requires-clause-chosen g c = none_yet g.R.Runner.chosen (g.J.Records.seen c.args.journal.now) c.requires.empty

pub returns-in_err-begin-clause-chosen : goal.returns-in_err-begin-clause-chosen
returns-in_err-begin-clause-chosen g c = none_yet g.R.Runner.chosen (g.J.Records.seen c.args.journal.now) c.requires.empty

pub returns-clause-blocks : goal.returns-clause-blocks
returns-clause-blocks g c listed =
    let f : SeenFold = fold_seen g.R.Runner.pending c.run_lines.new.fold in
    let now : Standing = g.R.Runner.standing c.run_lines.new.runner in
    subst (AreBlocks g.R.Runner.fits (sizes_of now.tops)) (sym c.from_vec.ensures)
    (blocks_of_steady g.R.Runner.fits now (g.J.Records.seen c.run_lines.new.journal).rounds f c.in-Ok.blocks.items c.in_ok-run_lines.ensures.steady
    (c.in-Ok.ensures.blocks listed) (c.in-Ok.ensures.once listed) (c.in-Ok.ensures.order listed))
