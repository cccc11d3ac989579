use Rattle.std.proofs.Common.{◌≡◌, List, map, Result, Err, refl, sym, ap, ◌∙◌, subst}
use Rattle.std.proofs.lemmas.Result.{err_from_is_err_and}
use Rattle.zio_cksum.specs.Images.{Setting}
use Rattle.zio_gang.specs.Attempts.{Pending}
use Rattle.zio_disks.specs.Disks.{AreSameDisks}
use Rattle.zio_disks.proofs.DiskLemmas.{same_itself}
use Rattle.zio_course.specs.declared.runner.RoundEnd.{RoundEnd}
use Rattle.zio_course.specs.declared.runner.Stop.TheVariants.{Device, Memory}
use Rattle.zio_course.specs.Runners.{AnyRose}
use Rattle.zio_stages.specs.Tops.{AreTops}
use Rattle.zio_exchange.specs.declared.outcome.FinishedRequest.{FinishedRequest}
use Rattle.zio_turns.specs.declared.desk.Desk.{Desk}
use Rattle.zio_turns.proofs.StopLemmas.{on_err}
use Rattle.zio_graph.specs.Graphs.{AreReadyGrounds, SeenGraph, standing_of}
use Rattle.zio_graph.specs.SteadyGrounds.{standing_on}
use Rattle.zio_graph.proofs.Grounds.{begun_ready}
use Rattle.zio_graph.proofs.OverTops.{trees_over}
use Rattle.zio_graph.proofs.Overs.{loose_itself}
use Rattle.zio_graph.proofs.Standings.{HasBegun, IsSeenEnd, as_trees, begun_runs, ends_seen, have_units, loose_seen, over_within, round_seen, spares_seen, stands_seen, stopped_seen, wrote_seen}
use Rattle.zio_graph.proofs.WroteRounds.{spares_same}
use Rattle.zio_turns.proofs.WroteLemmas.{wrote_same}
use Rattle.zio_graph.specs.Crashes.{MayWrite}
use Rattle.zio_graph.proofs.graph.Graph.round.Goals as goal

-- a call stops for what the call within it stopped for
same_stop : {T U E : Type 0} (r : Result T E) (s : Result U E) (x y stop : E) → r ≡ Err y → s ≡ Err x → x ≡ y → s ≡ Err stop → r ≡ Err stop
same_stop r s x y stop a b e f = cc

pub run_wholes-requires-clause-steady : goal.run_wholes-requires-clause-steady
run_wholes-requires-clause-steady g c =
    let m = g.D.Disk in
    let p : SeenGraph _ = c.args.self.now in
    let ready : AreReadyGrounds m.bytes c.note_point.new.grounds = begun_ready m.bytes c.args.job.point _ c.note_point.new.grounds
    (record {
      setting = c.note_point.ensures.setting;
      disks = c.note_point.ensures.disks;
      desk = c.note_point.ensures.desk;
      queues = c.note_point.ensures.queues;
    }) (c.self.invariant (ap (λ (q : SeenGraph _). q.stopped) c.self.view_is ∙ c.requires.runs)) in
    ready.steady

pub run_wholes-requires-clause-runs : goal.run_wholes-requires-clause-runs
run_wholes-requires-clause-runs g c =
    let m = g.D.Disk in
    let p : SeenGraph _ = c.args.self.now in
    let begins : HasBegun p c.args.job.point c.note_point.new.grounds = record {
      setting = c.note_point.ensures.setting ∙ ap
          (λ (q : SeenGraph _). record { tops = q.setting.tops; rows = q.setting.rows; point = c.args.job.point }) c.self.view_is;
      live = ap (λ (d : Desk). d.space.live) c.note_point.ensures.desk ∙ ap (λ (q : SeenGraph _). q.live) c.self.view_is;
      disks = ap (λ v. v.items) c.note_point.ensures.disks ∙ ap (λ (q : SeenGraph _). q.disks) c.self.view_is;
    } in
    begun_runs m.faults m.image p c.args.job.point c.note_point.new.grounds begins
    c.args.job.trees c.in_ok-wholes.wholes c.in_ok-wholes.ensures.same c.requires.trees

pub run_wholes-requires-clause-over : goal.run_wholes-requires-clause-over
run_wholes-requires-clause-over g c =
    let m = g.D.Disk in
    let p : SeenGraph _ = c.args.self.now in
    let ready : AreReadyGrounds m.bytes c.note_point.new.grounds = begun_ready m.bytes c.args.job.point _ c.note_point.new.grounds
    (record {
      setting = c.note_point.ensures.setting;
      disks = c.note_point.ensures.disks;
      desk = c.note_point.ensures.desk;
      queues = c.note_point.ensures.queues;
    }) (c.self.invariant (ap (λ (q : SeenGraph _). q.stopped) c.self.view_is ∙ c.requires.runs)) in
    let begins : HasBegun p c.args.job.point c.note_point.new.grounds = record {
      setting = c.note_point.ensures.setting ∙ ap
          (λ (q : SeenGraph _). record { tops = q.setting.tops; rows = q.setting.rows; point = c.args.job.point }) c.self.view_is;
      live = ap (λ (d : Desk). d.space.live) c.note_point.ensures.desk ∙ ap (λ (q : SeenGraph _). q.live) c.self.view_is;
      disks = ap (λ v. v.items) c.note_point.ensures.disks ∙ ap (λ (q : SeenGraph _). q.disks) c.self.view_is;
    } in
    trees_over (standing_on m.faults c.note_point.new.grounds) c.in_ok-wholes.wholes c.in_ok-wholes.ensures.each
    (begun_runs m.faults m.image p c.args.job.point c.note_point.new.grounds begins
    c.args.job.trees c.in_ok-wholes.wholes c.in_ok-wholes.ensures.same c.requires.trees)
    ready.tops (have_units c.note_point.new.grounds.setting.tops ready.steady.pointers) ready.steady.inside

pub trees_of-requires : goal.trees_of-requires
trees_of-requires g c =
    c.in_ok-finished.ensures.left (over_within c.note_point.new.grounds.setting.tops)

pub returns-clause-round : goal.returns-clause-round
returns-clause-round g c =
    let m = g.D.Disk in
    let p : SeenGraph _ = c.args.self.now in
    let begins : HasBegun p c.args.job.point c.note_point.new.grounds = record {
      setting = c.note_point.ensures.setting ∙ ap
          (λ (q : SeenGraph _). record { tops = q.setting.tops; rows = q.setting.rows; point = c.args.job.point }) c.self.view_is;
      live = ap (λ (d : Desk). d.space.live) c.note_point.ensures.desk ∙ ap (λ (q : SeenGraph _). q.live) c.self.view_is;
      disks = ap (λ v. v.items) c.note_point.ensures.disks ∙ ap (λ (q : SeenGraph _). q.disks) c.self.view_is;
    } in
    let e = c.in_ok-finished.field-0 in
    let end : RoundEnd (List Pending) FinishedRequest =
    record { finished = e.finished; left = c.in_ok-rests.rests; completions = e.completions; entries = e.entries } in
    let seen : IsSeenEnd e end = record { finished = refl; left = c.in_ok-rests.ensures; completions = refl; entries = refl } in
    round_seen m.faults m.image p c.args.job.point c.note_point.new.grounds begins
    c.args.job.trees c.in_ok-wholes.wholes c.in_ok-wholes.ensures.same e end seen
    c.args.job.failmode c.args.job.round c.run_wholes.new.grounds.disks.items c.in_ok-finished.ensures.round

pub returns-clause-end : goal.returns-clause-end
returns-clause-end g c =
    let m = g.D.Disk in
    let p : SeenGraph _ = c.args.self.now in
    let begins : HasBegun p c.args.job.point c.note_point.new.grounds = record {
      setting = c.note_point.ensures.setting ∙ ap
          (λ (q : SeenGraph _). record { tops = q.setting.tops; rows = q.setting.rows; point = c.args.job.point }) c.self.view_is;
      live = ap (λ (d : Desk). d.space.live) c.note_point.ensures.desk ∙ ap (λ (q : SeenGraph _). q.live) c.self.view_is;
      disks = ap (λ v. v.items) c.note_point.ensures.disks ∙ ap (λ (q : SeenGraph _). q.disks) c.self.view_is;
    } in
    let e = c.in_ok-finished.field-0 in
    let end : RoundEnd (List Pending) FinishedRequest =
    record { finished = e.finished; left = c.in_ok-rests.rests; completions = e.completions; entries = e.entries } in
    let seen : IsSeenEnd e end = record { finished = refl; left = c.in_ok-rests.ensures; completions = refl; entries = refl } in
    ends_seen m.faults m.image p c.args.job.point c.note_point.new.grounds begins
    c.args.job.trees c.in_ok-wholes.wholes c.in_ok-wholes.ensures.same e end seen
    c.args.job.round c.in_ok-finished.ensures.end

pub returns-clause-fits : goal.returns-clause-fits
returns-clause-fits g c = c.in_ok-finished.ensures.fits

pub returns-clause-stands : goal.returns-clause-stands
returns-clause-stands g c =
    let m = g.D.Disk in
    let p : SeenGraph _ = c.args.self.now in
    let begins : HasBegun p c.args.job.point c.note_point.new.grounds = record {
      setting = c.note_point.ensures.setting ∙ ap
          (λ (q : SeenGraph _). record { tops = q.setting.tops; rows = q.setting.rows; point = c.args.job.point }) c.self.view_is;
      live = ap (λ (d : Desk). d.space.live) c.note_point.ensures.desk ∙ ap (λ (q : SeenGraph _). q.live) c.self.view_is;
      disks = ap (λ v. v.items) c.note_point.ensures.disks ∙ ap (λ (q : SeenGraph _). q.disks) c.self.view_is;
    } in
    let e = c.in_ok-finished.field-0 in
    let end : RoundEnd (List Pending) FinishedRequest =
    record { finished = e.finished; left = c.in_ok-rests.rests; completions = e.completions; entries = e.entries } in
    let seen : IsSeenEnd e end = record { finished = refl; left = c.in_ok-rests.ensures; completions = refl; entries = refl } in
    stands_seen m.faults m.image p c.args.job.point c.note_point.new.grounds begins
    c.args.job.trees c.in_ok-wholes.wholes c.in_ok-wholes.ensures.same e end seen
    c.args.job.round c.run_wholes.new.grounds c.in_ok-finished.ensures.stands c.run_wholes.ensures.setting
    c.in_ok-finished.ensures.faults

pub returns-clause-same : goal.returns-clause-same
returns-clause-same g c =
    let m = g.D.Disk in
    let p : SeenGraph _ = c.args.self.now in
    let begins : HasBegun p c.args.job.point c.note_point.new.grounds = record {
      setting = c.note_point.ensures.setting ∙ ap
          (λ (q : SeenGraph _). record { tops = q.setting.tops; rows = q.setting.rows; point = c.args.job.point }) c.self.view_is;
      live = ap (λ (d : Desk). d.space.live) c.note_point.ensures.desk ∙ ap (λ (q : SeenGraph _). q.live) c.self.view_is;
      disks = ap (λ v. v.items) c.note_point.ensures.disks ∙ ap (λ (q : SeenGraph _). q.disks) c.self.view_is;
    } in
    subst
    (λ (ds : List _). AreSameDisks m.bytes m.faults m.faults_at_fetch m.home m.image m.sound ds c.run_wholes.new.grounds.disks.items)
    begins.disks c.run_wholes.ensures.same

pub invariant_of-self-2 : goal.invariant_of-self-2
invariant_of-self-2 g c =
    let m = g.D.Disk in
    let p : SeenGraph _ = c.args.self.now in
    let ready : AreReadyGrounds m.bytes c.note_point.new.grounds = begun_ready m.bytes c.args.job.point _ c.note_point.new.grounds
    (record {
      setting = c.note_point.ensures.setting;
      disks = c.note_point.ensures.disks;
      desk = c.note_point.ensures.desk;
      queues = c.note_point.ensures.queues;
    }) (c.self.invariant (ap (λ (q : SeenGraph _). q.stopped) c.self.view_is ∙ c.requires.runs)) in
    λ running. record {
      steady = c.in_ok-finished.ensures.steady;
      tops = subst AreTops (ap (λ (s : Setting). s.tops) (sym c.run_wholes.ensures.setting)) ready.tops;
    }

pub returns-in_err-wholes-clause-stopped : goal.returns-in_err-wholes-clause-stopped
returns-in_err-wholes-clause-stopped g c =
    let m = g.D.Disk in
    let p : SeenGraph _ = c.args.self.now in
    let begins : HasBegun p c.args.job.point c.note_point.new.grounds = record {
      setting = c.note_point.ensures.setting ∙ ap
          (λ (q : SeenGraph _). record { tops = q.setting.tops; rows = q.setting.rows; point = c.args.job.point }) c.self.view_is;
      live = ap (λ (d : Desk). d.space.live) c.note_point.ensures.desk ∙ ap (λ (q : SeenGraph _). q.live) c.self.view_is;
      disks = ap (λ v. v.items) c.note_point.ensures.disks ∙ ap (λ (q : SeenGraph _). q.disks) c.self.view_is;
    } in
    on_err c.from_residual.result
    (stopped_seen m.faults m.image p c.args.job.point c.note_point.new.grounds begins
    c.args.job.round c.note_point.new.grounds refl)

pub returns-in_err-wholes-clause-images : goal.returns-in_err-wholes-clause-images
returns-in_err-wholes-clause-images g c =
    let m = g.D.Disk in
    let p : SeenGraph _ = c.args.self.now in
    let begins : HasBegun p c.args.job.point c.note_point.new.grounds = record {
      setting = c.note_point.ensures.setting ∙ ap
          (λ (q : SeenGraph _). record { tops = q.setting.tops; rows = q.setting.rows; point = c.args.job.point }) c.self.view_is;
      live = ap (λ (d : Desk). d.space.live) c.note_point.ensures.desk ∙ ap (λ (q : SeenGraph _). q.live) c.self.view_is;
      disks = ap (λ v. v.items) c.note_point.ensures.disks ∙ ap (λ (q : SeenGraph _). q.disks) c.self.view_is;
    } in
    on_err c.from_residual.result
    (loose_itself m.image (standing_of m.faults p) (as_trees c.args.job.trees) p.disks c.note_point.new.grounds.disks.items
    begins.disks)

pub returns-in_err-wholes-clause-same : goal.returns-in_err-wholes-clause-same
returns-in_err-wholes-clause-same g c =
    let m = g.D.Disk in
    let p : SeenGraph _ = c.args.self.now in
    let begins : HasBegun p c.args.job.point c.note_point.new.grounds = record {
      setting = c.note_point.ensures.setting ∙ ap
          (λ (q : SeenGraph _). record { tops = q.setting.tops; rows = q.setting.rows; point = c.args.job.point }) c.self.view_is;
      live = ap (λ (d : Desk). d.space.live) c.note_point.ensures.desk ∙ ap (λ (q : SeenGraph _). q.live) c.self.view_is;
      disks = ap (λ v. v.items) c.note_point.ensures.disks ∙ ap (λ (q : SeenGraph _). q.disks) c.self.view_is;
    } in
    subst (AreSameDisks m.bytes m.faults m.faults_at_fetch m.home m.image m.sound p.disks) (sym begins.disks)
    (same_itself m.bytes m.faults m.faults_at_fetch m.home m.image m.sound p.disks)

pub returns-in_err-wholes-clause-device : goal.returns-in_err-wholes-clause-device
returns-in_err-wholes-clause-device g c =
    λ is.
    (let q = err_from_is_err_and c.from_residual.result c.from_residual.ensures.1 in
    let no : Memory ≡ Device = cc in absurd (cc))

pub returns-in_err-finished-clause-stopped : goal.returns-in_err-finished-clause-stopped
returns-in_err-finished-clause-stopped g c =
    let m = g.D.Disk in
    let p : SeenGraph _ = c.args.self.now in
    let begins : HasBegun p c.args.job.point c.note_point.new.grounds = record {
      setting = c.note_point.ensures.setting ∙ ap
          (λ (q : SeenGraph _). record { tops = q.setting.tops; rows = q.setting.rows; point = c.args.job.point }) c.self.view_is;
      live = ap (λ (d : Desk). d.space.live) c.note_point.ensures.desk ∙ ap (λ (q : SeenGraph _). q.live) c.self.view_is;
      disks = ap (λ v. v.items) c.note_point.ensures.disks ∙ ap (λ (q : SeenGraph _). q.disks) c.self.view_is;
    } in
    on_err c.from_residual-in_err-finished.result
    (stopped_seen m.faults m.image p c.args.job.point c.note_point.new.grounds begins
    c.args.job.round c.run_wholes.new.grounds c.run_wholes.ensures.setting)

pub returns-in_err-finished-clause-images : goal.returns-in_err-finished-clause-images
returns-in_err-finished-clause-images g c =
    let m = g.D.Disk in
    let p : SeenGraph _ = c.args.self.now in
    let begins : HasBegun p c.args.job.point c.note_point.new.grounds = record {
      setting = c.note_point.ensures.setting ∙ ap
          (λ (q : SeenGraph _). record { tops = q.setting.tops; rows = q.setting.rows; point = c.args.job.point }) c.self.view_is;
      live = ap (λ (d : Desk). d.space.live) c.note_point.ensures.desk ∙ ap (λ (q : SeenGraph _). q.live) c.self.view_is;
      disks = ap (λ v. v.items) c.note_point.ensures.disks ∙ ap (λ (q : SeenGraph _). q.disks) c.self.view_is;
    } in
    on_err c.from_residual-in_err-finished.result
    (loose_seen m.faults m.image p c.args.job.point c.note_point.new.grounds begins
    c.args.job.trees c.in_ok-wholes.wholes c.in_ok-wholes.ensures.same c.run_wholes.new.grounds.disks.items
    c.in_err-finished.ensures.images)

pub returns-in_err-finished-clause-same : goal.returns-in_err-finished-clause-same
returns-in_err-finished-clause-same g c =
    let m = g.D.Disk in
    let p : SeenGraph _ = c.args.self.now in
    let begins : HasBegun p c.args.job.point c.note_point.new.grounds = record {
      setting = c.note_point.ensures.setting ∙ ap
          (λ (q : SeenGraph _). record { tops = q.setting.tops; rows = q.setting.rows; point = c.args.job.point }) c.self.view_is;
      live = ap (λ (d : Desk). d.space.live) c.note_point.ensures.desk ∙ ap (λ (q : SeenGraph _). q.live) c.self.view_is;
      disks = ap (λ v. v.items) c.note_point.ensures.disks ∙ ap (λ (q : SeenGraph _). q.disks) c.self.view_is;
    } in
    subst
    (λ (ds : List _). AreSameDisks m.bytes m.faults m.faults_at_fetch m.home m.image m.sound ds c.run_wholes.new.grounds.disks.items)
    begins.disks c.run_wholes.ensures.same

pub returns-in_err-finished-clause-device : goal.returns-in_err-finished-clause-device
returns-in_err-finished-clause-device g c =
    let m = g.D.Disk in
    let p : SeenGraph _ = c.args.self.now in
    let begins : HasBegun p c.args.job.point c.note_point.new.grounds = record {
      setting = c.note_point.ensures.setting ∙ ap
          (λ (q : SeenGraph _). record { tops = q.setting.tops; rows = q.setting.rows; point = c.args.job.point }) c.self.view_is;
      live = ap (λ (d : Desk). d.space.live) c.note_point.ensures.desk ∙ ap (λ (q : SeenGraph _). q.live) c.self.view_is;
      disks = ap (λ v. v.items) c.note_point.ensures.disks ∙ ap (λ (q : SeenGraph _). q.disks) c.self.view_is;
    } in
    λ is.
    (let q = err_from_is_err_and c.from_residual-in_err-finished.result c.from_residual-in_err-finished.ensures.1 in
    subst (λ (ds : List _). AnyRose (map m.faults ds) (map m.faults c.run_wholes.new.grounds.disks.items)) begins.disks
    (c.run_wholes.ensures.device (same_stop _ _ q.0 _ _ c.in_err-finished.was q.1 q.2 is)))

pub returns-in_err-rests-clause-stopped : goal.returns-in_err-rests-clause-stopped
returns-in_err-rests-clause-stopped g c =
    let m = g.D.Disk in
    let p : SeenGraph _ = c.args.self.now in
    let begins : HasBegun p c.args.job.point c.note_point.new.grounds = record {
      setting = c.note_point.ensures.setting ∙ ap
          (λ (q : SeenGraph _). record { tops = q.setting.tops; rows = q.setting.rows; point = c.args.job.point }) c.self.view_is;
      live = ap (λ (d : Desk). d.space.live) c.note_point.ensures.desk ∙ ap (λ (q : SeenGraph _). q.live) c.self.view_is;
      disks = ap (λ v. v.items) c.note_point.ensures.disks ∙ ap (λ (q : SeenGraph _). q.disks) c.self.view_is;
    } in
    on_err c.from_residual-in_err-rests.result
    (stopped_seen m.faults m.image p c.args.job.point c.note_point.new.grounds begins
    c.args.job.round c.run_wholes.new.grounds c.run_wholes.ensures.setting)

pub returns-in_err-rests-clause-images : goal.returns-in_err-rests-clause-images
returns-in_err-rests-clause-images g c =
    let m = g.D.Disk in
    let p : SeenGraph _ = c.args.self.now in
    let begins : HasBegun p c.args.job.point c.note_point.new.grounds = record {
      setting = c.note_point.ensures.setting ∙ ap
          (λ (q : SeenGraph _). record { tops = q.setting.tops; rows = q.setting.rows; point = c.args.job.point }) c.self.view_is;
      live = ap (λ (d : Desk). d.space.live) c.note_point.ensures.desk ∙ ap (λ (q : SeenGraph _). q.live) c.self.view_is;
      disks = ap (λ v. v.items) c.note_point.ensures.disks ∙ ap (λ (q : SeenGraph _). q.disks) c.self.view_is;
    } in
    on_err c.from_residual-in_err-rests.result
    (loose_seen m.faults m.image p c.args.job.point c.note_point.new.grounds begins
    c.args.job.trees c.in_ok-wholes.wholes c.in_ok-wholes.ensures.same c.run_wholes.new.grounds.disks.items
    (λ before told. let r = c.in_ok-finished.ensures.round before told in (r.0, r.1, r.3)))

pub returns-in_err-rests-clause-same : goal.returns-in_err-rests-clause-same
returns-in_err-rests-clause-same g c =
    let m = g.D.Disk in
    let p : SeenGraph _ = c.args.self.now in
    let begins : HasBegun p c.args.job.point c.note_point.new.grounds = record {
      setting = c.note_point.ensures.setting ∙ ap
          (λ (q : SeenGraph _). record { tops = q.setting.tops; rows = q.setting.rows; point = c.args.job.point }) c.self.view_is;
      live = ap (λ (d : Desk). d.space.live) c.note_point.ensures.desk ∙ ap (λ (q : SeenGraph _). q.live) c.self.view_is;
      disks = ap (λ v. v.items) c.note_point.ensures.disks ∙ ap (λ (q : SeenGraph _). q.disks) c.self.view_is;
    } in
    subst
    (λ (ds : List _). AreSameDisks m.bytes m.faults m.faults_at_fetch m.home m.image m.sound ds c.run_wholes.new.grounds.disks.items)
    begins.disks c.run_wholes.ensures.same

pub returns-in_err-rests-clause-device : goal.returns-in_err-rests-clause-device
returns-in_err-rests-clause-device g c =
    λ is.
    (let q = err_from_is_err_and c.from_residual-in_err-rests.result c.from_residual-in_err-rests.ensures.1 in
    let no : Memory ≡ Device = cc in absurd (cc))

pub returns-in_err-wholes-clause-calm : goal.returns-in_err-wholes-clause-calm
returns-in_err-wholes-clause-calm g c =
    let m = g.D.Disk in
    let p : SeenGraph _ = c.args.self.now in
    let begins : HasBegun p c.args.job.point c.note_point.new.grounds = record {
      setting = c.note_point.ensures.setting ∙ ap
          (λ (q : SeenGraph _). record { tops = q.setting.tops; rows = q.setting.rows; point = c.args.job.point }) c.self.view_is;
      live = ap (λ (d : Desk). d.space.live) c.note_point.ensures.desk ∙ ap (λ (q : SeenGraph _). q.live) c.self.view_is;
      disks = ap (λ v. v.items) c.note_point.ensures.disks ∙ ap (λ (q : SeenGraph _). q.disks) c.self.view_is;
    } in
    λ is. ap (map m.faults) begins.disks

pub returns-in_err-finished-clause-calm : goal.returns-in_err-finished-clause-calm
returns-in_err-finished-clause-calm g c =
    let m = g.D.Disk in
    let p : SeenGraph _ = c.args.self.now in
    let begins : HasBegun p c.args.job.point c.note_point.new.grounds = record {
      setting = c.note_point.ensures.setting ∙ ap
          (λ (q : SeenGraph _). record { tops = q.setting.tops; rows = q.setting.rows; point = c.args.job.point }) c.self.view_is;
      live = ap (λ (d : Desk). d.space.live) c.note_point.ensures.desk ∙ ap (λ (q : SeenGraph _). q.live) c.self.view_is;
      disks = ap (λ v. v.items) c.note_point.ensures.disks ∙ ap (λ (q : SeenGraph _). q.disks) c.self.view_is;
    } in
    λ is.
    (let q = err_from_is_err_and c.from_residual-in_err-finished.result c.from_residual-in_err-finished.ensures.1 in
    c.run_wholes.ensures.calm (same_stop _ _ q.0 _ _ c.in_err-finished.was q.1 q.2 is) ∙ ap (map m.faults) begins.disks)

pub returns-in_err-rests-clause-calm : goal.returns-in_err-rests-clause-calm
returns-in_err-rests-clause-calm g c =
    let m = g.D.Disk in
    let p : SeenGraph _ = c.args.self.now in
    let begins : HasBegun p c.args.job.point c.note_point.new.grounds = record {
      setting = c.note_point.ensures.setting ∙ ap
          (λ (q : SeenGraph _). record { tops = q.setting.tops; rows = q.setting.rows; point = c.args.job.point }) c.self.view_is;
      live = ap (λ (d : Desk). d.space.live) c.note_point.ensures.desk ∙ ap (λ (q : SeenGraph _). q.live) c.self.view_is;
      disks = ap (λ v. v.items) c.note_point.ensures.disks ∙ ap (λ (q : SeenGraph _). q.disks) c.self.view_is;
    } in
    λ is. c.in_ok-finished.ensures.faults ∙ ap (map m.faults) begins.disks

pub returns-in_err-wholes-clause-wrote : goal.returns-in_err-wholes-clause-wrote
returns-in_err-wholes-clause-wrote g c =
    let m = g.D.Disk in
    let p : SeenGraph _ = c.args.self.now in
    let begins : HasBegun p c.args.job.point c.note_point.new.grounds = record {
      setting = c.note_point.ensures.setting ∙ ap
          (λ (q : SeenGraph _). record { tops = q.setting.tops; rows = q.setting.rows; point = c.args.job.point }) c.self.view_is;
      live = ap (λ (d : Desk). d.space.live) c.note_point.ensures.desk ∙ ap (λ (q : SeenGraph _). q.live) c.self.view_is;
      disks = ap (λ v. v.items) c.note_point.ensures.disks ∙ ap (λ (q : SeenGraph _). q.disks) c.self.view_is;
    } in
    wrote_same m.went (MayWrite (standing_of m.faults p) (as_trees c.args.job.trees)) p.disks c.note_point.new.grounds.disks.items
    begins.disks

pub returns-in_err-wholes-clause-spares : goal.returns-in_err-wholes-clause-spares
returns-in_err-wholes-clause-spares g c =
    let m = g.D.Disk in
    let p : SeenGraph _ = c.args.self.now in
    let begins : HasBegun p c.args.job.point c.note_point.new.grounds = record {
      setting = c.note_point.ensures.setting ∙ ap
          (λ (q : SeenGraph _). record { tops = q.setting.tops; rows = q.setting.rows; point = c.args.job.point }) c.self.view_is;
      live = ap (λ (d : Desk). d.space.live) c.note_point.ensures.desk ∙ ap (λ (q : SeenGraph _). q.live) c.self.view_is;
      disks = ap (λ v. v.items) c.note_point.ensures.disks ∙ ap (λ (q : SeenGraph _). q.disks) c.self.view_is;
    } in
    spares_same m.image m.went (standing_of m.faults p) (as_trees c.args.job.trees) p.disks c.note_point.new.grounds.disks.items
    begins.disks

pub returns-in_err-finished-clause-wrote : goal.returns-in_err-finished-clause-wrote
returns-in_err-finished-clause-wrote g c =
    let m = g.D.Disk in
    let p : SeenGraph _ = c.args.self.now in
    let begins : HasBegun p c.args.job.point c.note_point.new.grounds = record {
      setting = c.note_point.ensures.setting ∙ ap
          (λ (q : SeenGraph _). record { tops = q.setting.tops; rows = q.setting.rows; point = c.args.job.point }) c.self.view_is;
      live = ap (λ (d : Desk). d.space.live) c.note_point.ensures.desk ∙ ap (λ (q : SeenGraph _). q.live) c.self.view_is;
      disks = ap (λ v. v.items) c.note_point.ensures.disks ∙ ap (λ (q : SeenGraph _). q.disks) c.self.view_is;
    } in
    wrote_seen m.faults m.image p c.args.job.point c.note_point.new.grounds begins c.args.job.trees c.in_ok-wholes.wholes
    c.in_ok-wholes.ensures.same m.went c.run_wholes.new.grounds.disks.items c.run_wholes.ensures.wrote

pub returns-in_err-finished-clause-spares : goal.returns-in_err-finished-clause-spares
returns-in_err-finished-clause-spares g c =
    let m = g.D.Disk in
    let p : SeenGraph _ = c.args.self.now in
    let begins : HasBegun p c.args.job.point c.note_point.new.grounds = record {
      setting = c.note_point.ensures.setting ∙ ap
          (λ (q : SeenGraph _). record { tops = q.setting.tops; rows = q.setting.rows; point = c.args.job.point }) c.self.view_is;
      live = ap (λ (d : Desk). d.space.live) c.note_point.ensures.desk ∙ ap (λ (q : SeenGraph _). q.live) c.self.view_is;
      disks = ap (λ v. v.items) c.note_point.ensures.disks ∙ ap (λ (q : SeenGraph _). q.disks) c.self.view_is;
    } in
    spares_seen m.faults m.image p c.args.job.point c.note_point.new.grounds begins c.args.job.trees c.in_ok-wholes.wholes
    c.in_ok-wholes.ensures.same m.went c.run_wholes.new.grounds.disks.items c.run_wholes.ensures.spares

pub returns-in_err-rests-clause-wrote : goal.returns-in_err-rests-clause-wrote
returns-in_err-rests-clause-wrote g c =
    let m = g.D.Disk in
    let p : SeenGraph _ = c.args.self.now in
    let begins : HasBegun p c.args.job.point c.note_point.new.grounds = record {
      setting = c.note_point.ensures.setting ∙ ap
          (λ (q : SeenGraph _). record { tops = q.setting.tops; rows = q.setting.rows; point = c.args.job.point }) c.self.view_is;
      live = ap (λ (d : Desk). d.space.live) c.note_point.ensures.desk ∙ ap (λ (q : SeenGraph _). q.live) c.self.view_is;
      disks = ap (λ v. v.items) c.note_point.ensures.disks ∙ ap (λ (q : SeenGraph _). q.disks) c.self.view_is;
    } in
    wrote_seen m.faults m.image p c.args.job.point c.note_point.new.grounds begins c.args.job.trees c.in_ok-wholes.wholes
    c.in_ok-wholes.ensures.same m.went c.run_wholes.new.grounds.disks.items c.run_wholes.ensures.wrote

pub returns-in_err-rests-clause-spares : goal.returns-in_err-rests-clause-spares
returns-in_err-rests-clause-spares g c =
    let m = g.D.Disk in
    let p : SeenGraph _ = c.args.self.now in
    let begins : HasBegun p c.args.job.point c.note_point.new.grounds = record {
      setting = c.note_point.ensures.setting ∙ ap
          (λ (q : SeenGraph _). record { tops = q.setting.tops; rows = q.setting.rows; point = c.args.job.point }) c.self.view_is;
      live = ap (λ (d : Desk). d.space.live) c.note_point.ensures.desk ∙ ap (λ (q : SeenGraph _). q.live) c.self.view_is;
      disks = ap (λ v. v.items) c.note_point.ensures.disks ∙ ap (λ (q : SeenGraph _). q.disks) c.self.view_is;
    } in
    spares_seen m.faults m.image p c.args.job.point c.note_point.new.grounds begins c.args.job.trees c.in_ok-wholes.wholes
    c.in_ok-wholes.ensures.same m.went c.run_wholes.new.grounds.disks.items c.run_wholes.ensures.spares

pub returns-clause-wrote : goal.returns-clause-wrote
returns-clause-wrote g c =
    let m = g.D.Disk in
    let p : SeenGraph _ = c.args.self.now in
    let begins : HasBegun p c.args.job.point c.note_point.new.grounds = record {
      setting = c.note_point.ensures.setting ∙ ap
          (λ (q : SeenGraph _). record { tops = q.setting.tops; rows = q.setting.rows; point = c.args.job.point }) c.self.view_is;
      live = ap (λ (d : Desk). d.space.live) c.note_point.ensures.desk ∙ ap (λ (q : SeenGraph _). q.live) c.self.view_is;
      disks = ap (λ v. v.items) c.note_point.ensures.disks ∙ ap (λ (q : SeenGraph _). q.disks) c.self.view_is;
    } in
    wrote_seen m.faults m.image p c.args.job.point c.note_point.new.grounds begins c.args.job.trees c.in_ok-wholes.wholes
    c.in_ok-wholes.ensures.same m.went c.run_wholes.new.grounds.disks.items c.run_wholes.ensures.wrote

pub returns-clause-spares : goal.returns-clause-spares
returns-clause-spares g c =
    let m = g.D.Disk in
    let p : SeenGraph _ = c.args.self.now in
    let begins : HasBegun p c.args.job.point c.note_point.new.grounds = record {
      setting = c.note_point.ensures.setting ∙ ap
          (λ (q : SeenGraph _). record { tops = q.setting.tops; rows = q.setting.rows; point = c.args.job.point }) c.self.view_is;
      live = ap (λ (d : Desk). d.space.live) c.note_point.ensures.desk ∙ ap (λ (q : SeenGraph _). q.live) c.self.view_is;
      disks = ap (λ v. v.items) c.note_point.ensures.disks ∙ ap (λ (q : SeenGraph _). q.disks) c.self.view_is;
    } in
    spares_seen m.faults m.image p c.args.job.point c.note_point.new.grounds begins c.args.job.trees c.in_ok-wholes.wholes
    c.in_ok-wholes.ensures.same m.went c.run_wholes.new.grounds.disks.items c.run_wholes.ensures.spares
