use Rattle.std.proofs.Common.{◌≡◌, List, false, map, true, refl, sym, ap, subst, ◌∙◌}
use Rattle.std.proofs.lemmas.Bool.{both_ways}
use Rattle.std.proofs.lemmas.List.{map-id}
use Rattle.std.proofs.lemmas.Result.{err_from_is_err_and}
use Rattle.std.specs.List.{AllByRecursion}
use Rattle.std.specs.Prelude.{Contains, IsTrue}
use Rattle.zio_types.specs.Choices.{Choice}
use Rattle.zio_types.specs.Places.{are_apart}
use Rattle.zio_blkptr.specs.Pointers.{valid}
use Rattle.zio_gang.specs.Attempts.{Pending}
use Rattle.zio_gang.specs.Journals.{HaveDistinctKeys, asks_of}
use Rattle.zio_gang.specs.declared.tree.Tree.{Tree}
use Rattle.zio_disks.specs.Disks.{AreSameDisks, Tell}
use Rattle.zio_disks.specs.Whole.{IsWholeTree}
use Rattle.zio_disks.proofs.DiskLemmas.{same_itself}
use Rattle.zio_blocks.specs.Choosers.{AreLeft}
use Rattle.zio_course.specs.declared.runner.RequestEnd.{RequestEnd}
use Rattle.zio_course.specs.declared.runner.Stop.TheVariants.{Device, Memory}
use Rattle.zio_course.specs.Runners.{AreRunnable, IsRoundEnd, SeenEnd, made_trees, terms_at}
use Rattle.zio_plain.proofs.PlainFreed.{places_in}
use Rattle.zio_plain.specs.Entries.{AreEntriesFor, AreTermsFrom, HaveRunOn}
use Rattle.zio_plain.specs.Plains.{SeenPlain, standing_of}
use Rattle.zio_plain.specs.GroundLaws.{memory_no_device}
use Rattle.zio_plain.specs.Grounds.{seen}
use Rattle.zio_plain.proofs.PlainBegun.{HasBegun, SteadyPlain, all_can, begun}
use Rattle.zio_plain.proofs.PlainDone.{freed_apart, freed_in_use, freed_valid, round_ends}
use Rattle.zio_plain.proofs.PlainRound.{begun_breaks, broke_from, differs_by, gave_distinct, gave_lawful, gave_rounds, has_run, on_err, ran_on, round_is, runnable, stands_after, steady_after, stopped_after, terms_from}
use Rattle.zio_plain.proofs.PlainTold.{seen_end, seen_itself}
use Rattle.zio_plain.proofs.plain.PlainRunner.round.Goals as goal

pub run_trees-requires-clause-once : goal.run_trees-requires-clause-once
run_trees-requires-clause-once g c =
    let m = g.D.Disk in
    let k = g.C.Chooser in
    let p : SeenPlain _ _ = c.args.self.now in
    let runs : AreRunnable (standing_of m.faults k.live p) c.args.job.trees = runnable (standing_of m.faults k.live p) c.args.job.trees c.requires.trees in
    runs.once

pub run_trees-requires-clause-claim : goal.run_trees-requires-clause-claim
run_trees-requires-clause-claim g c =
    let m = g.D.Disk in
    let k = g.C.Chooser in
    let p : SeenPlain _ _ = c.args.self.now in
    let runs : AreRunnable (standing_of m.faults k.live p) c.args.job.trees = runnable (standing_of m.faults k.live p) c.args.job.trees c.requires.trees in
    runs.claim

pub run_trees-requires-clause-roots : goal.run_trees-requires-clause-roots
run_trees-requires-clause-roots g c =
    let m = g.D.Disk in
    let k = g.C.Chooser in
    let p : SeenPlain _ _ = c.args.self.now in
    let runs : AreRunnable (standing_of m.faults k.live p) c.args.job.trees = runnable (standing_of m.faults k.live p) c.args.job.trees c.requires.trees in
    runs.under

pub run_trees-requires-clause-can : goal.run_trees-requires-clause-can
run_trees-requires-clause-can g c =
    let m = g.D.Disk in
    let k = g.C.Chooser in
    let p : SeenPlain _ _ = c.args.self.now in
    let steady : SteadyPlain m.bytes m.faults m.faults_at_fetch m.home m.image m.sound k.lawful k.sizes k.used k.live k.given p = subst (SteadyPlain m.bytes m.faults m.faults_at_fetch m.home m.image m.sound k.lawful k.sizes k.used k.live k.given) c.self.view_is (c.self.invariant (ap (λ (q : SeenPlain _ _). q.stopped) c.self.view_is ∙ c.requires.runs)) in
    let begins : HasBegun m.bytes m.faults m.faults_at_fetch m.home m.image m.sound k.lawful k.sizes k.used k.live k.given p c.args.job.round c.args.job.point c.begin_round.new.ground = record {
      setting = c.begin_round.ensures.setting ∙ ap (λ (q : SeenPlain _ _). record { tops = q.setting.tops; rows = q.setting.rows; point = c.args.job.point }) c.self.view_is;
      round = c.begin_round.ensures.round;
      disks = ap (λ v. v.items) c.begin_round.ensures.disks ∙ ap (λ (q : SeenPlain _ _). q.disks) c.self.view_is;
      tops_are = c.in_ok-begin_round.ensures.sizes ∙ ap (λ (q : SeenPlain _ _). k.sizes q.chooser) c.self.view_is;
      used_are = c.in_ok-begin_round.ensures.used ∙ ap (λ (q : SeenPlain _ _). k.used q.chooser) c.self.view_is;
      live_are = c.in_ok-begin_round.ensures.live ∙ ap (λ (q : SeenPlain _ _). k.live q.chooser) c.self.view_is;
      given_are = c.in_ok-begin_round.ensures.given ∙ ap (λ (q : SeenPlain _ _). k.given q.chooser) c.self.view_is;
    } in
    let runs : AreRunnable (standing_of m.faults k.live p) c.args.job.trees = runnable (standing_of m.faults k.live p) c.args.job.trees c.requires.trees in
    all_can m.bytes m.faults m.faults_at_fetch m.home m.image m.sound k.lawful k.sizes k.used k.live k.given p c.args.job.round c.args.job.point c.begin_round.new.ground c.args.job.trees steady begins runs.live

pub end_round-requires-clause-valid : goal.end_round-requires-clause-valid
end_round-requires-clause-valid g c =
    let m = g.D.Disk in
    let k = g.C.Chooser in
    let p : SeenPlain _ _ = c.args.self.now in
    let steady : SteadyPlain m.bytes m.faults m.faults_at_fetch m.home m.image m.sound k.lawful k.sizes k.used k.live k.given p = subst (SteadyPlain m.bytes m.faults m.faults_at_fetch m.home m.image m.sound k.lawful k.sizes k.used k.live k.given) c.self.view_is (c.self.invariant (ap (λ (q : SeenPlain _ _). q.stopped) c.self.view_is ∙ c.requires.runs)) in
    let begins : HasBegun m.bytes m.faults m.faults_at_fetch m.home m.image m.sound k.lawful k.sizes k.used k.live k.given p c.args.job.round c.args.job.point c.begin_round.new.ground = record {
      setting = c.begin_round.ensures.setting ∙ ap (λ (q : SeenPlain _ _). record { tops = q.setting.tops; rows = q.setting.rows; point = c.args.job.point }) c.self.view_is;
      round = c.begin_round.ensures.round;
      disks = ap (λ v. v.items) c.begin_round.ensures.disks ∙ ap (λ (q : SeenPlain _ _). q.disks) c.self.view_is;
      tops_are = c.in_ok-begin_round.ensures.sizes ∙ ap (λ (q : SeenPlain _ _). k.sizes q.chooser) c.self.view_is;
      used_are = c.in_ok-begin_round.ensures.used ∙ ap (λ (q : SeenPlain _ _). k.used q.chooser) c.self.view_is;
      live_are = c.in_ok-begin_round.ensures.live ∙ ap (λ (q : SeenPlain _ _). k.live q.chooser) c.self.view_is;
      given_are = c.in_ok-begin_round.ensures.given ∙ ap (λ (q : SeenPlain _ _). k.given q.chooser) c.self.view_is;
    } in
    let runs : AreRunnable (standing_of m.faults k.live p) c.args.job.trees = runnable (standing_of m.faults k.live p) c.args.job.trees c.requires.trees in
    let r = c.in_ok-finished.ensures.run in
    let e = c.in_ok-finished.field-0 in
    let h = has_run m.bytes m.faults m.faults_at_fetch m.home m.image m.sound k.lawful k.sizes k.used k.live k.given g.met.C.Chooser.lawful_none p c.args.job.round c.args.job.point c.args.job.trees e.left e.finished e.completions e.freed c.args.job.failmode c.begin_round.new.ground c.run_trees.new.works _ _ _ _ steady begins runs r in
    subst (AllByRecursion (λ (tree : Tree). IsTrue (valid tree.bp))) (sym c.as_slice.ensures) (freed_valid m.bytes m.faults m.faults_at_fetch m.home m.image m.sound k.lawful k.sizes k.used k.live k.given p c.args.job.round c.args.job.point c.args.job.trees r.each_run e.finished e.freed (seen k.sizes k.used k.live k.given c.run_trees.new.works) h)

pub end_round-requires-clause-live : goal.end_round-requires-clause-live
end_round-requires-clause-live g c =
    let m = g.D.Disk in
    let k = g.C.Chooser in
    let p : SeenPlain _ _ = c.args.self.now in
    let steady : SteadyPlain m.bytes m.faults m.faults_at_fetch m.home m.image m.sound k.lawful k.sizes k.used k.live k.given p = subst (SteadyPlain m.bytes m.faults m.faults_at_fetch m.home m.image m.sound k.lawful k.sizes k.used k.live k.given) c.self.view_is (c.self.invariant (ap (λ (q : SeenPlain _ _). q.stopped) c.self.view_is ∙ c.requires.runs)) in
    let begins : HasBegun m.bytes m.faults m.faults_at_fetch m.home m.image m.sound k.lawful k.sizes k.used k.live k.given p c.args.job.round c.args.job.point c.begin_round.new.ground = record {
      setting = c.begin_round.ensures.setting ∙ ap (λ (q : SeenPlain _ _). record { tops = q.setting.tops; rows = q.setting.rows; point = c.args.job.point }) c.self.view_is;
      round = c.begin_round.ensures.round;
      disks = ap (λ v. v.items) c.begin_round.ensures.disks ∙ ap (λ (q : SeenPlain _ _). q.disks) c.self.view_is;
      tops_are = c.in_ok-begin_round.ensures.sizes ∙ ap (λ (q : SeenPlain _ _). k.sizes q.chooser) c.self.view_is;
      used_are = c.in_ok-begin_round.ensures.used ∙ ap (λ (q : SeenPlain _ _). k.used q.chooser) c.self.view_is;
      live_are = c.in_ok-begin_round.ensures.live ∙ ap (λ (q : SeenPlain _ _). k.live q.chooser) c.self.view_is;
      given_are = c.in_ok-begin_round.ensures.given ∙ ap (λ (q : SeenPlain _ _). k.given q.chooser) c.self.view_is;
    } in
    let runs : AreRunnable (standing_of m.faults k.live p) c.args.job.trees = runnable (standing_of m.faults k.live p) c.args.job.trees c.requires.trees in
    let r = c.in_ok-finished.ensures.run in
    let e = c.in_ok-finished.field-0 in
    let h = has_run m.bytes m.faults m.faults_at_fetch m.home m.image m.sound k.lawful k.sizes k.used k.live k.given g.met.C.Chooser.lawful_none p c.args.job.round c.args.job.point c.args.job.trees e.left e.finished e.completions e.freed c.args.job.failmode c.begin_round.new.ground c.run_trees.new.works _ _ _ _ steady begins runs r in
    subst (λ (ts : List Tree). AllByRecursion (Contains (k.live c.run_trees.new.works.chooser)) (places_in ts)) (sym c.as_slice.ensures) (freed_in_use m.bytes m.faults m.faults_at_fetch m.home m.image m.sound k.lawful k.sizes k.used k.live k.given p c.args.job.round c.args.job.point c.args.job.trees r.each_run e.finished e.freed (seen k.sizes k.used k.live k.given c.run_trees.new.works) h)

pub end_round-requires-clause-apart : goal.end_round-requires-clause-apart
end_round-requires-clause-apart g c =
    let m = g.D.Disk in
    let k = g.C.Chooser in
    let p : SeenPlain _ _ = c.args.self.now in
    let steady : SteadyPlain m.bytes m.faults m.faults_at_fetch m.home m.image m.sound k.lawful k.sizes k.used k.live k.given p = subst (SteadyPlain m.bytes m.faults m.faults_at_fetch m.home m.image m.sound k.lawful k.sizes k.used k.live k.given) c.self.view_is (c.self.invariant (ap (λ (q : SeenPlain _ _). q.stopped) c.self.view_is ∙ c.requires.runs)) in
    let begins : HasBegun m.bytes m.faults m.faults_at_fetch m.home m.image m.sound k.lawful k.sizes k.used k.live k.given p c.args.job.round c.args.job.point c.begin_round.new.ground = record {
      setting = c.begin_round.ensures.setting ∙ ap (λ (q : SeenPlain _ _). record { tops = q.setting.tops; rows = q.setting.rows; point = c.args.job.point }) c.self.view_is;
      round = c.begin_round.ensures.round;
      disks = ap (λ v. v.items) c.begin_round.ensures.disks ∙ ap (λ (q : SeenPlain _ _). q.disks) c.self.view_is;
      tops_are = c.in_ok-begin_round.ensures.sizes ∙ ap (λ (q : SeenPlain _ _). k.sizes q.chooser) c.self.view_is;
      used_are = c.in_ok-begin_round.ensures.used ∙ ap (λ (q : SeenPlain _ _). k.used q.chooser) c.self.view_is;
      live_are = c.in_ok-begin_round.ensures.live ∙ ap (λ (q : SeenPlain _ _). k.live q.chooser) c.self.view_is;
      given_are = c.in_ok-begin_round.ensures.given ∙ ap (λ (q : SeenPlain _ _). k.given q.chooser) c.self.view_is;
    } in
    let runs : AreRunnable (standing_of m.faults k.live p) c.args.job.trees = runnable (standing_of m.faults k.live p) c.args.job.trees c.requires.trees in
    let r = c.in_ok-finished.ensures.run in
    let e = c.in_ok-finished.field-0 in
    let h = has_run m.bytes m.faults m.faults_at_fetch m.home m.image m.sound k.lawful k.sizes k.used k.live k.given g.met.C.Chooser.lawful_none p c.args.job.round c.args.job.point c.args.job.trees e.left e.finished e.completions e.freed c.args.job.failmode c.begin_round.new.ground c.run_trees.new.works _ _ _ _ steady begins runs r in
    subst (λ (ts : List Tree). are_apart (places_in ts) ≡ true) (sym c.as_slice.ensures) (freed_apart m.bytes m.faults m.faults_at_fetch m.home m.image m.sound k.lawful k.sizes k.used k.live k.given p c.args.job.round c.args.job.point c.args.job.trees r.each_run e.finished e.freed (seen k.sizes k.used k.live k.given c.run_trees.new.works) h)

pub returns-clause-round : goal.returns-clause-round
returns-clause-round g c =
    let m = g.D.Disk in
    let k = g.C.Chooser in
    let p : SeenPlain _ _ = c.args.self.now in
    let steady : SteadyPlain m.bytes m.faults m.faults_at_fetch m.home m.image m.sound k.lawful k.sizes k.used k.live k.given p = subst (SteadyPlain m.bytes m.faults m.faults_at_fetch m.home m.image m.sound k.lawful k.sizes k.used k.live k.given) c.self.view_is (c.self.invariant (ap (λ (q : SeenPlain _ _). q.stopped) c.self.view_is ∙ c.requires.runs)) in
    let begins : HasBegun m.bytes m.faults m.faults_at_fetch m.home m.image m.sound k.lawful k.sizes k.used k.live k.given p c.args.job.round c.args.job.point c.begin_round.new.ground = record {
      setting = c.begin_round.ensures.setting ∙ ap (λ (q : SeenPlain _ _). record { tops = q.setting.tops; rows = q.setting.rows; point = c.args.job.point }) c.self.view_is;
      round = c.begin_round.ensures.round;
      disks = ap (λ v. v.items) c.begin_round.ensures.disks ∙ ap (λ (q : SeenPlain _ _). q.disks) c.self.view_is;
      tops_are = c.in_ok-begin_round.ensures.sizes ∙ ap (λ (q : SeenPlain _ _). k.sizes q.chooser) c.self.view_is;
      used_are = c.in_ok-begin_round.ensures.used ∙ ap (λ (q : SeenPlain _ _). k.used q.chooser) c.self.view_is;
      live_are = c.in_ok-begin_round.ensures.live ∙ ap (λ (q : SeenPlain _ _). k.live q.chooser) c.self.view_is;
      given_are = c.in_ok-begin_round.ensures.given ∙ ap (λ (q : SeenPlain _ _). k.given q.chooser) c.self.view_is;
    } in
    let runs : AreRunnable (standing_of m.faults k.live p) c.args.job.trees = runnable (standing_of m.faults k.live p) c.args.job.trees c.requires.trees in
    let r = c.in_ok-finished.ensures.run in
    let e = c.in_ok-finished.field-0 in
    let h = has_run m.bytes m.faults m.faults_at_fetch m.home m.image m.sound k.lawful k.sizes k.used k.live k.given g.met.C.Chooser.lawful_none p c.args.job.round c.args.job.point c.args.job.trees e.left e.finished e.completions e.freed c.args.job.failmode c.begin_round.new.ground c.run_trees.new.works _ _ _ _ steady begins runs r in
    let end : SeenEnd = record { finished = e.finished; left = e.left; completions = e.completions; entries = c.in_ok-entries.entries } in
    let opened = subst (λ (q : SeenPlain _ _). g.S.RoundEntries.begun c.args.job.round (k.sizes q.chooser) (k.used q.chooser)) c.self.view_is c.in_ok-begin_round.ensures.begun in
    let works = c.run_trees.new.works in
    let gave : c.in_ok-given.given ≡ k.given works.chooser = c.in_ok-given.ensures.entries in
    let lawful : k.lawful (k.sizes p.chooser) (k.used p.chooser) c.in_ok-given.given =
    subst (k.lawful (k.sizes p.chooser) (k.used p.chooser)) (sym gave) (gave_lawful m.bytes m.faults m.faults_at_fetch m.home m.image m.sound k.lawful k.sizes k.used k.live k.given p c.args.job.round c.args.job.point c.args.job.trees r.each_run e.finished e.freed works h) in
    let fit : AreEntriesFor (k.sizes p.chooser) (k.used p.chooser) (k.given works.chooser) c.in_ok-entries.entries =
    subst (λ (gs : List Choice). AreEntriesFor (k.sizes p.chooser) (k.used p.chooser) gs c.in_ok-entries.entries) gave (c.in_ok-entries.ensures.entries (k.sizes p.chooser) (k.used p.chooser) opened lawful) in
    λ before told.
    round_is m.bytes m.faults m.faults_at_fetch m.home m.image m.sound k.lawful k.sizes k.used k.live k.given p c.args.job.round c.args.job.point c.args.job.trees e.left e.finished e.completions e.freed c.args.job.failmode c.begin_round.new.ground works begins r h before told end g.met.D.Disk.one_image refl refl fit

pub returns-clause-end : goal.returns-clause-end
returns-clause-end g c =
    let m = g.D.Disk in
    let k = g.C.Chooser in
    let p : SeenPlain _ _ = c.args.self.now in
    let steady : SteadyPlain m.bytes m.faults m.faults_at_fetch m.home m.image m.sound k.lawful k.sizes k.used k.live k.given p = subst (SteadyPlain m.bytes m.faults m.faults_at_fetch m.home m.image m.sound k.lawful k.sizes k.used k.live k.given) c.self.view_is (c.self.invariant (ap (λ (q : SeenPlain _ _). q.stopped) c.self.view_is ∙ c.requires.runs)) in
    let begins : HasBegun m.bytes m.faults m.faults_at_fetch m.home m.image m.sound k.lawful k.sizes k.used k.live k.given p c.args.job.round c.args.job.point c.begin_round.new.ground = record {
      setting = c.begin_round.ensures.setting ∙ ap (λ (q : SeenPlain _ _). record { tops = q.setting.tops; rows = q.setting.rows; point = c.args.job.point }) c.self.view_is;
      round = c.begin_round.ensures.round;
      disks = ap (λ v. v.items) c.begin_round.ensures.disks ∙ ap (λ (q : SeenPlain _ _). q.disks) c.self.view_is;
      tops_are = c.in_ok-begin_round.ensures.sizes ∙ ap (λ (q : SeenPlain _ _). k.sizes q.chooser) c.self.view_is;
      used_are = c.in_ok-begin_round.ensures.used ∙ ap (λ (q : SeenPlain _ _). k.used q.chooser) c.self.view_is;
      live_are = c.in_ok-begin_round.ensures.live ∙ ap (λ (q : SeenPlain _ _). k.live q.chooser) c.self.view_is;
      given_are = c.in_ok-begin_round.ensures.given ∙ ap (λ (q : SeenPlain _ _). k.given q.chooser) c.self.view_is;
    } in
    let runs : AreRunnable (standing_of m.faults k.live p) c.args.job.trees = runnable (standing_of m.faults k.live p) c.args.job.trees c.requires.trees in
    let r = c.in_ok-finished.ensures.run in
    let e = c.in_ok-finished.field-0 in
    let h = has_run m.bytes m.faults m.faults_at_fetch m.home m.image m.sound k.lawful k.sizes k.used k.live k.given g.met.C.Chooser.lawful_none p c.args.job.round c.args.job.point c.args.job.trees e.left e.finished e.completions e.freed c.args.job.failmode c.begin_round.new.ground c.run_trees.new.works _ _ _ _ steady begins runs r in
    let end : SeenEnd = record { finished = e.finished; left = e.left; completions = e.completions; entries = c.in_ok-entries.entries } in
    let opened = subst (λ (q : SeenPlain _ _). g.S.RoundEntries.begun c.args.job.round (k.sizes q.chooser) (k.used q.chooser)) c.self.view_is c.in_ok-begin_round.ensures.begun in
    let works = c.run_trees.new.works in
    let gave : c.in_ok-given.given ≡ k.given works.chooser = c.in_ok-given.ensures.entries in
    let lawful : k.lawful (k.sizes p.chooser) (k.used p.chooser) c.in_ok-given.given =
    subst (k.lawful (k.sizes p.chooser) (k.used p.chooser)) (sym gave) (gave_lawful m.bytes m.faults m.faults_at_fetch m.home m.image m.sound k.lawful k.sizes k.used k.live k.given p c.args.job.round c.args.job.point c.args.job.trees r.each_run e.finished e.freed works h) in
    let fit : AreEntriesFor (k.sizes p.chooser) (k.used p.chooser) (k.given works.chooser) c.in_ok-entries.entries =
    subst (λ (gs : List Choice). AreEntriesFor (k.sizes p.chooser) (k.used p.chooser) gs c.in_ok-entries.entries) gave (c.in_ok-entries.ensures.entries (k.sizes p.chooser) (k.used p.chooser) opened lawful) in
    subst (λ (ts : List (List Pending)). IsRoundEnd (standing_of m.faults k.live p) c.args.job.round ts (seen_end end)) (sym (map-id c.args.job.trees))
    (subst (IsRoundEnd (standing_of m.faults k.live p) c.args.job.round c.args.job.trees) (sym (seen_itself end)) (round_ends m.bytes m.faults m.faults_at_fetch m.home m.image m.sound k.lawful k.sizes k.used k.live k.given p c.args.job.round c.args.job.point c.args.job.trees r.each_run e.finished e.freed (seen k.sizes k.used k.live k.given c.run_trees.new.works) h end c.in_ok-finished.ensures.ends refl fit.choices.asked))

pub returns-clause-fits : goal.returns-clause-fits
returns-clause-fits g c =
    let end = c.in_ok-finished.field-0 in
    subst (λ (fs : List RequestEnd). AllByRecursion IsWholeTree (made_trees fs)) (sym (map-id end.finished)) c.in_ok-finished.ensures.fits

pub returns-clause-stands : goal.returns-clause-stands
returns-clause-stands g c =
    let m = g.D.Disk in
    let k = g.C.Chooser in
    let p : SeenPlain _ _ = c.args.self.now in
    let steady : SteadyPlain m.bytes m.faults m.faults_at_fetch m.home m.image m.sound k.lawful k.sizes k.used k.live k.given p = subst (SteadyPlain m.bytes m.faults m.faults_at_fetch m.home m.image m.sound k.lawful k.sizes k.used k.live k.given) c.self.view_is (c.self.invariant (ap (λ (q : SeenPlain _ _). q.stopped) c.self.view_is ∙ c.requires.runs)) in
    let begins : HasBegun m.bytes m.faults m.faults_at_fetch m.home m.image m.sound k.lawful k.sizes k.used k.live k.given p c.args.job.round c.args.job.point c.begin_round.new.ground = record {
      setting = c.begin_round.ensures.setting ∙ ap (λ (q : SeenPlain _ _). record { tops = q.setting.tops; rows = q.setting.rows; point = c.args.job.point }) c.self.view_is;
      round = c.begin_round.ensures.round;
      disks = ap (λ v. v.items) c.begin_round.ensures.disks ∙ ap (λ (q : SeenPlain _ _). q.disks) c.self.view_is;
      tops_are = c.in_ok-begin_round.ensures.sizes ∙ ap (λ (q : SeenPlain _ _). k.sizes q.chooser) c.self.view_is;
      used_are = c.in_ok-begin_round.ensures.used ∙ ap (λ (q : SeenPlain _ _). k.used q.chooser) c.self.view_is;
      live_are = c.in_ok-begin_round.ensures.live ∙ ap (λ (q : SeenPlain _ _). k.live q.chooser) c.self.view_is;
      given_are = c.in_ok-begin_round.ensures.given ∙ ap (λ (q : SeenPlain _ _). k.given q.chooser) c.self.view_is;
    } in
    let runs : AreRunnable (standing_of m.faults k.live p) c.args.job.trees = runnable (standing_of m.faults k.live p) c.args.job.trees c.requires.trees in
    let r = c.in_ok-finished.ensures.run in
    let e = c.in_ok-finished.field-0 in
    let h = has_run m.bytes m.faults m.faults_at_fetch m.home m.image m.sound k.lawful k.sizes k.used k.live k.given g.met.C.Chooser.lawful_none p c.args.job.round c.args.job.point c.args.job.trees e.left e.finished e.completions e.freed c.args.job.failmode c.begin_round.new.ground c.run_trees.new.works _ _ _ _ steady begins runs r in
    let end : SeenEnd = record { finished = e.finished; left = e.left; completions = e.completions; entries = c.in_ok-entries.entries } in
    stands_after m.bytes m.faults m.faults_at_fetch m.home m.image m.sound k.lawful k.sizes k.used k.live k.given p (record { setting = c.run_trees.new.works.setting; disks = c.run_trees.new.works.disks.items; chooser = c.end_round.new.chooser; last = c.args.job.round; stopped = false; strange = c.entries_of.new.strange }) c.args.job.round c.args.job.point c.args.job.trees r.each_run e.freed end c.run_trees.new.works h refl refl refl refl
    (subst (λ (ts : List Tree). AreLeft (k.live c.run_trees.new.works.chooser) (places_in ts) (k.live c.end_round.new.chooser)) c.as_slice.ensures c.in_ok-given.ensures.live)

pub returns-clause-same : goal.returns-clause-same
returns-clause-same g c =
    let m = g.D.Disk in
    let k = g.C.Chooser in
    let p : SeenPlain _ _ = c.args.self.now in
    let steady : SteadyPlain m.bytes m.faults m.faults_at_fetch m.home m.image m.sound k.lawful k.sizes k.used k.live k.given p = subst (SteadyPlain m.bytes m.faults m.faults_at_fetch m.home m.image m.sound k.lawful k.sizes k.used k.live k.given) c.self.view_is (c.self.invariant (ap (λ (q : SeenPlain _ _). q.stopped) c.self.view_is ∙ c.requires.runs)) in
    let begins : HasBegun m.bytes m.faults m.faults_at_fetch m.home m.image m.sound k.lawful k.sizes k.used k.live k.given p c.args.job.round c.args.job.point c.begin_round.new.ground = record {
      setting = c.begin_round.ensures.setting ∙ ap (λ (q : SeenPlain _ _). record { tops = q.setting.tops; rows = q.setting.rows; point = c.args.job.point }) c.self.view_is;
      round = c.begin_round.ensures.round;
      disks = ap (λ v. v.items) c.begin_round.ensures.disks ∙ ap (λ (q : SeenPlain _ _). q.disks) c.self.view_is;
      tops_are = c.in_ok-begin_round.ensures.sizes ∙ ap (λ (q : SeenPlain _ _). k.sizes q.chooser) c.self.view_is;
      used_are = c.in_ok-begin_round.ensures.used ∙ ap (λ (q : SeenPlain _ _). k.used q.chooser) c.self.view_is;
      live_are = c.in_ok-begin_round.ensures.live ∙ ap (λ (q : SeenPlain _ _). k.live q.chooser) c.self.view_is;
      given_are = c.in_ok-begin_round.ensures.given ∙ ap (λ (q : SeenPlain _ _). k.given q.chooser) c.self.view_is;
    } in
    let runs : AreRunnable (standing_of m.faults k.live p) c.args.job.trees = runnable (standing_of m.faults k.live p) c.args.job.trees c.requires.trees in
    let r = c.in_ok-finished.ensures.run in
    let e = c.in_ok-finished.field-0 in
    let h = has_run m.bytes m.faults m.faults_at_fetch m.home m.image m.sound k.lawful k.sizes k.used k.live k.given g.met.C.Chooser.lawful_none p c.args.job.round c.args.job.point c.args.job.trees e.left e.finished e.completions e.freed c.args.job.failmode c.begin_round.new.ground c.run_trees.new.works _ _ _ _ steady begins runs r in
    h.moved.disks

pub invariant_of-self-2 : goal.invariant_of-self-2
invariant_of-self-2 g c =
    let m = g.D.Disk in
    let k = g.C.Chooser in
    let p : SeenPlain _ _ = c.args.self.now in
    let steady : SteadyPlain m.bytes m.faults m.faults_at_fetch m.home m.image m.sound k.lawful k.sizes k.used k.live k.given p = subst (SteadyPlain m.bytes m.faults m.faults_at_fetch m.home m.image m.sound k.lawful k.sizes k.used k.live k.given) c.self.view_is (c.self.invariant (ap (λ (q : SeenPlain _ _). q.stopped) c.self.view_is ∙ c.requires.runs)) in
    let begins : HasBegun m.bytes m.faults m.faults_at_fetch m.home m.image m.sound k.lawful k.sizes k.used k.live k.given p c.args.job.round c.args.job.point c.begin_round.new.ground = record {
      setting = c.begin_round.ensures.setting ∙ ap (λ (q : SeenPlain _ _). record { tops = q.setting.tops; rows = q.setting.rows; point = c.args.job.point }) c.self.view_is;
      round = c.begin_round.ensures.round;
      disks = ap (λ v. v.items) c.begin_round.ensures.disks ∙ ap (λ (q : SeenPlain _ _). q.disks) c.self.view_is;
      tops_are = c.in_ok-begin_round.ensures.sizes ∙ ap (λ (q : SeenPlain _ _). k.sizes q.chooser) c.self.view_is;
      used_are = c.in_ok-begin_round.ensures.used ∙ ap (λ (q : SeenPlain _ _). k.used q.chooser) c.self.view_is;
      live_are = c.in_ok-begin_round.ensures.live ∙ ap (λ (q : SeenPlain _ _). k.live q.chooser) c.self.view_is;
      given_are = c.in_ok-begin_round.ensures.given ∙ ap (λ (q : SeenPlain _ _). k.given q.chooser) c.self.view_is;
    } in
    let runs : AreRunnable (standing_of m.faults k.live p) c.args.job.trees = runnable (standing_of m.faults k.live p) c.args.job.trees c.requires.trees in
    let r = c.in_ok-finished.ensures.run in
    let e = c.in_ok-finished.field-0 in
    let h = has_run m.bytes m.faults m.faults_at_fetch m.home m.image m.sound k.lawful k.sizes k.used k.live k.given g.met.C.Chooser.lawful_none p c.args.job.round c.args.job.point c.args.job.trees e.left e.finished e.completions e.freed c.args.job.failmode c.begin_round.new.ground c.run_trees.new.works _ _ _ _ steady begins runs r in
    λ running. steady_after m.bytes m.faults m.faults_at_fetch m.home m.image m.sound k.lawful k.sizes k.used k.live k.given p c.args.job.round c.args.job.point c.args.job.trees r.each_run e.finished e.freed c.run_trees.new.works c.end_round.new.chooser h c.in_ok-given.ensures.sizes c.in_ok-given.ensures.held c.in_ok-given.ensures.used c.in_ok-given.ensures.given

pub returns-in_err-finished-clause-stopped : goal.returns-in_err-finished-clause-stopped
returns-in_err-finished-clause-stopped g c =
    let m = g.D.Disk in
    let k = g.C.Chooser in
    let p : SeenPlain _ _ = c.args.self.now in
    let steady : SteadyPlain m.bytes m.faults m.faults_at_fetch m.home m.image m.sound k.lawful k.sizes k.used k.live k.given p = subst (SteadyPlain m.bytes m.faults m.faults_at_fetch m.home m.image m.sound k.lawful k.sizes k.used k.live k.given) c.self.view_is (c.self.invariant (ap (λ (q : SeenPlain _ _). q.stopped) c.self.view_is ∙ c.requires.runs)) in
    let begins : HasBegun m.bytes m.faults m.faults_at_fetch m.home m.image m.sound k.lawful k.sizes k.used k.live k.given p c.args.job.round c.args.job.point c.begin_round.new.ground = record {
      setting = c.begin_round.ensures.setting ∙ ap (λ (q : SeenPlain _ _). record { tops = q.setting.tops; rows = q.setting.rows; point = c.args.job.point }) c.self.view_is;
      round = c.begin_round.ensures.round;
      disks = ap (λ v. v.items) c.begin_round.ensures.disks ∙ ap (λ (q : SeenPlain _ _). q.disks) c.self.view_is;
      tops_are = c.in_ok-begin_round.ensures.sizes ∙ ap (λ (q : SeenPlain _ _). k.sizes q.chooser) c.self.view_is;
      used_are = c.in_ok-begin_round.ensures.used ∙ ap (λ (q : SeenPlain _ _). k.used q.chooser) c.self.view_is;
      live_are = c.in_ok-begin_round.ensures.live ∙ ap (λ (q : SeenPlain _ _). k.live q.chooser) c.self.view_is;
      given_are = c.in_ok-begin_round.ensures.given ∙ ap (λ (q : SeenPlain _ _). k.given q.chooser) c.self.view_is;
    } in
    let b = broke_from m.bytes m.faults m.faults_at_fetch m.home m.image m.sound k.lawful k.sizes k.used k.live k.given p c.args.job.round c.args.job.point c.args.job.trees c.begin_round.new.ground (seen k.sizes k.used k.live k.given c.run_trees.new.works) _ begins c.in_err-finished.ensures.breaks in
    on_err c.from_residual-in_err-finished.result (stopped_after m.bytes m.faults m.faults_at_fetch m.home m.image m.sound k.lawful k.sizes k.used k.live k.given p (record { setting = c.run_trees.new.works.setting; disks = c.run_trees.new.works.disks.items; chooser = c.run_trees.new.works.chooser; last = c.args.job.round; stopped = true; strange = c.begin_round.new.strange }) c.args.job.round c.args.job.point c.run_trees.new.works.setting b.setting refl refl refl)

pub returns-in_err-finished-clause-images : goal.returns-in_err-finished-clause-images
returns-in_err-finished-clause-images g c =
    let m = g.D.Disk in
    let k = g.C.Chooser in
    let p : SeenPlain _ _ = c.args.self.now in
    let steady : SteadyPlain m.bytes m.faults m.faults_at_fetch m.home m.image m.sound k.lawful k.sizes k.used k.live k.given p = subst (SteadyPlain m.bytes m.faults m.faults_at_fetch m.home m.image m.sound k.lawful k.sizes k.used k.live k.given) c.self.view_is (c.self.invariant (ap (λ (q : SeenPlain _ _). q.stopped) c.self.view_is ∙ c.requires.runs)) in
    let begins : HasBegun m.bytes m.faults m.faults_at_fetch m.home m.image m.sound k.lawful k.sizes k.used k.live k.given p c.args.job.round c.args.job.point c.begin_round.new.ground = record {
      setting = c.begin_round.ensures.setting ∙ ap (λ (q : SeenPlain _ _). record { tops = q.setting.tops; rows = q.setting.rows; point = c.args.job.point }) c.self.view_is;
      round = c.begin_round.ensures.round;
      disks = ap (λ v. v.items) c.begin_round.ensures.disks ∙ ap (λ (q : SeenPlain _ _). q.disks) c.self.view_is;
      tops_are = c.in_ok-begin_round.ensures.sizes ∙ ap (λ (q : SeenPlain _ _). k.sizes q.chooser) c.self.view_is;
      used_are = c.in_ok-begin_round.ensures.used ∙ ap (λ (q : SeenPlain _ _). k.used q.chooser) c.self.view_is;
      live_are = c.in_ok-begin_round.ensures.live ∙ ap (λ (q : SeenPlain _ _). k.live q.chooser) c.self.view_is;
      given_are = c.in_ok-begin_round.ensures.given ∙ ap (λ (q : SeenPlain _ _). k.given q.chooser) c.self.view_is;
    } in
    let b = broke_from m.bytes m.faults m.faults_at_fetch m.home m.image m.sound k.lawful k.sizes k.used k.live k.given p c.args.job.round c.args.job.point c.args.job.trees c.begin_round.new.ground (seen k.sizes k.used k.live k.given c.run_trees.new.works) _ begins c.in_err-finished.ensures.breaks in
    on_err c.from_residual-in_err-finished.result (differs_by m.bytes m.faults m.faults_at_fetch m.home m.image m.sound k.lawful k.sizes k.used k.live k.given p c.args.job.round c.args.job.point c.args.job.trees (seen k.sizes k.used k.live k.given c.run_trees.new.works) steady b.disks.sizes b.outside)

pub returns-in_err-finished-clause-same : goal.returns-in_err-finished-clause-same
returns-in_err-finished-clause-same g c =
    let m = g.D.Disk in
    let k = g.C.Chooser in
    let p : SeenPlain _ _ = c.args.self.now in
    let steady : SteadyPlain m.bytes m.faults m.faults_at_fetch m.home m.image m.sound k.lawful k.sizes k.used k.live k.given p = subst (SteadyPlain m.bytes m.faults m.faults_at_fetch m.home m.image m.sound k.lawful k.sizes k.used k.live k.given) c.self.view_is (c.self.invariant (ap (λ (q : SeenPlain _ _). q.stopped) c.self.view_is ∙ c.requires.runs)) in
    let begins : HasBegun m.bytes m.faults m.faults_at_fetch m.home m.image m.sound k.lawful k.sizes k.used k.live k.given p c.args.job.round c.args.job.point c.begin_round.new.ground = record {
      setting = c.begin_round.ensures.setting ∙ ap (λ (q : SeenPlain _ _). record { tops = q.setting.tops; rows = q.setting.rows; point = c.args.job.point }) c.self.view_is;
      round = c.begin_round.ensures.round;
      disks = ap (λ v. v.items) c.begin_round.ensures.disks ∙ ap (λ (q : SeenPlain _ _). q.disks) c.self.view_is;
      tops_are = c.in_ok-begin_round.ensures.sizes ∙ ap (λ (q : SeenPlain _ _). k.sizes q.chooser) c.self.view_is;
      used_are = c.in_ok-begin_round.ensures.used ∙ ap (λ (q : SeenPlain _ _). k.used q.chooser) c.self.view_is;
      live_are = c.in_ok-begin_round.ensures.live ∙ ap (λ (q : SeenPlain _ _). k.live q.chooser) c.self.view_is;
      given_are = c.in_ok-begin_round.ensures.given ∙ ap (λ (q : SeenPlain _ _). k.given q.chooser) c.self.view_is;
    } in
    let b = broke_from m.bytes m.faults m.faults_at_fetch m.home m.image m.sound k.lawful k.sizes k.used k.live k.given p c.args.job.round c.args.job.point c.args.job.trees c.begin_round.new.ground (seen k.sizes k.used k.live k.given c.run_trees.new.works) _ begins c.in_err-finished.ensures.breaks in
    b.disks

pub returns-in_err-given-clause-stopped : goal.returns-in_err-given-clause-stopped
returns-in_err-given-clause-stopped g c =
    let m = g.D.Disk in
    let k = g.C.Chooser in
    let p : SeenPlain _ _ = c.args.self.now in
    let steady : SteadyPlain m.bytes m.faults m.faults_at_fetch m.home m.image m.sound k.lawful k.sizes k.used k.live k.given p = subst (SteadyPlain m.bytes m.faults m.faults_at_fetch m.home m.image m.sound k.lawful k.sizes k.used k.live k.given) c.self.view_is (c.self.invariant (ap (λ (q : SeenPlain _ _). q.stopped) c.self.view_is ∙ c.requires.runs)) in
    let begins : HasBegun m.bytes m.faults m.faults_at_fetch m.home m.image m.sound k.lawful k.sizes k.used k.live k.given p c.args.job.round c.args.job.point c.begin_round.new.ground = record {
      setting = c.begin_round.ensures.setting ∙ ap (λ (q : SeenPlain _ _). record { tops = q.setting.tops; rows = q.setting.rows; point = c.args.job.point }) c.self.view_is;
      round = c.begin_round.ensures.round;
      disks = ap (λ v. v.items) c.begin_round.ensures.disks ∙ ap (λ (q : SeenPlain _ _). q.disks) c.self.view_is;
      tops_are = c.in_ok-begin_round.ensures.sizes ∙ ap (λ (q : SeenPlain _ _). k.sizes q.chooser) c.self.view_is;
      used_are = c.in_ok-begin_round.ensures.used ∙ ap (λ (q : SeenPlain _ _). k.used q.chooser) c.self.view_is;
      live_are = c.in_ok-begin_round.ensures.live ∙ ap (λ (q : SeenPlain _ _). k.live q.chooser) c.self.view_is;
      given_are = c.in_ok-begin_round.ensures.given ∙ ap (λ (q : SeenPlain _ _). k.given q.chooser) c.self.view_is;
    } in
    let runs : AreRunnable (standing_of m.faults k.live p) c.args.job.trees = runnable (standing_of m.faults k.live p) c.args.job.trees c.requires.trees in
    let r = c.in_ok-finished.ensures.run in
    let e = c.in_ok-finished.field-0 in
    let h = has_run m.bytes m.faults m.faults_at_fetch m.home m.image m.sound k.lawful k.sizes k.used k.live k.given g.met.C.Chooser.lawful_none p c.args.job.round c.args.job.point c.args.job.trees e.left e.finished e.completions e.freed c.args.job.failmode c.begin_round.new.ground c.run_trees.new.works _ _ _ _ steady begins runs r in
    on_err c.from_residual-in_err-given.result (stopped_after m.bytes m.faults m.faults_at_fetch m.home m.image m.sound k.lawful k.sizes k.used k.live k.given p (record { setting = c.run_trees.new.works.setting; disks = c.run_trees.new.works.disks.items; chooser = c.end_round.new.chooser; last = c.args.job.round; stopped = true; strange = c.begin_round.new.strange }) c.args.job.round c.args.job.point c.run_trees.new.works.setting h.moved.setting refl refl refl)

pub returns-in_err-given-clause-images : goal.returns-in_err-given-clause-images
returns-in_err-given-clause-images g c =
    let m = g.D.Disk in
    let k = g.C.Chooser in
    let p : SeenPlain _ _ = c.args.self.now in
    let steady : SteadyPlain m.bytes m.faults m.faults_at_fetch m.home m.image m.sound k.lawful k.sizes k.used k.live k.given p = subst (SteadyPlain m.bytes m.faults m.faults_at_fetch m.home m.image m.sound k.lawful k.sizes k.used k.live k.given) c.self.view_is (c.self.invariant (ap (λ (q : SeenPlain _ _). q.stopped) c.self.view_is ∙ c.requires.runs)) in
    let begins : HasBegun m.bytes m.faults m.faults_at_fetch m.home m.image m.sound k.lawful k.sizes k.used k.live k.given p c.args.job.round c.args.job.point c.begin_round.new.ground = record {
      setting = c.begin_round.ensures.setting ∙ ap (λ (q : SeenPlain _ _). record { tops = q.setting.tops; rows = q.setting.rows; point = c.args.job.point }) c.self.view_is;
      round = c.begin_round.ensures.round;
      disks = ap (λ v. v.items) c.begin_round.ensures.disks ∙ ap (λ (q : SeenPlain _ _). q.disks) c.self.view_is;
      tops_are = c.in_ok-begin_round.ensures.sizes ∙ ap (λ (q : SeenPlain _ _). k.sizes q.chooser) c.self.view_is;
      used_are = c.in_ok-begin_round.ensures.used ∙ ap (λ (q : SeenPlain _ _). k.used q.chooser) c.self.view_is;
      live_are = c.in_ok-begin_round.ensures.live ∙ ap (λ (q : SeenPlain _ _). k.live q.chooser) c.self.view_is;
      given_are = c.in_ok-begin_round.ensures.given ∙ ap (λ (q : SeenPlain _ _). k.given q.chooser) c.self.view_is;
    } in
    let runs : AreRunnable (standing_of m.faults k.live p) c.args.job.trees = runnable (standing_of m.faults k.live p) c.args.job.trees c.requires.trees in
    let r = c.in_ok-finished.ensures.run in
    let e = c.in_ok-finished.field-0 in
    let h = has_run m.bytes m.faults m.faults_at_fetch m.home m.image m.sound k.lawful k.sizes k.used k.live k.given g.met.C.Chooser.lawful_none p c.args.job.round c.args.job.point c.args.job.trees e.left e.finished e.completions e.freed c.args.job.failmode c.begin_round.new.ground c.run_trees.new.works _ _ _ _ steady begins runs r in
    on_err c.from_residual-in_err-given.result (differs_by m.bytes m.faults m.faults_at_fetch m.home m.image m.sound k.lawful k.sizes k.used k.live k.given p c.args.job.round c.args.job.point c.args.job.trees (seen k.sizes k.used k.live k.given c.run_trees.new.works) steady h.moved.disks.sizes h.moved.outside)

pub returns-in_err-given-clause-same : goal.returns-in_err-given-clause-same
returns-in_err-given-clause-same g c =
    let m = g.D.Disk in
    let k = g.C.Chooser in
    let p : SeenPlain _ _ = c.args.self.now in
    let steady : SteadyPlain m.bytes m.faults m.faults_at_fetch m.home m.image m.sound k.lawful k.sizes k.used k.live k.given p = subst (SteadyPlain m.bytes m.faults m.faults_at_fetch m.home m.image m.sound k.lawful k.sizes k.used k.live k.given) c.self.view_is (c.self.invariant (ap (λ (q : SeenPlain _ _). q.stopped) c.self.view_is ∙ c.requires.runs)) in
    let begins : HasBegun m.bytes m.faults m.faults_at_fetch m.home m.image m.sound k.lawful k.sizes k.used k.live k.given p c.args.job.round c.args.job.point c.begin_round.new.ground = record {
      setting = c.begin_round.ensures.setting ∙ ap (λ (q : SeenPlain _ _). record { tops = q.setting.tops; rows = q.setting.rows; point = c.args.job.point }) c.self.view_is;
      round = c.begin_round.ensures.round;
      disks = ap (λ v. v.items) c.begin_round.ensures.disks ∙ ap (λ (q : SeenPlain _ _). q.disks) c.self.view_is;
      tops_are = c.in_ok-begin_round.ensures.sizes ∙ ap (λ (q : SeenPlain _ _). k.sizes q.chooser) c.self.view_is;
      used_are = c.in_ok-begin_round.ensures.used ∙ ap (λ (q : SeenPlain _ _). k.used q.chooser) c.self.view_is;
      live_are = c.in_ok-begin_round.ensures.live ∙ ap (λ (q : SeenPlain _ _). k.live q.chooser) c.self.view_is;
      given_are = c.in_ok-begin_round.ensures.given ∙ ap (λ (q : SeenPlain _ _). k.given q.chooser) c.self.view_is;
    } in
    let runs : AreRunnable (standing_of m.faults k.live p) c.args.job.trees = runnable (standing_of m.faults k.live p) c.args.job.trees c.requires.trees in
    let r = c.in_ok-finished.ensures.run in
    let e = c.in_ok-finished.field-0 in
    let h = has_run m.bytes m.faults m.faults_at_fetch m.home m.image m.sound k.lawful k.sizes k.used k.live k.given g.met.C.Chooser.lawful_none p c.args.job.round c.args.job.point c.args.job.trees e.left e.finished e.completions e.freed c.args.job.failmode c.begin_round.new.ground c.run_trees.new.works _ _ _ _ steady begins runs r in
    h.moved.disks

pub returns-in_err-finished-clause-device : goal.returns-in_err-finished-clause-device
returns-in_err-finished-clause-device g c =
    let m = g.D.Disk in
    let k = g.C.Chooser in
    let p : SeenPlain _ _ = c.args.self.now in
    let steady : SteadyPlain m.bytes m.faults m.faults_at_fetch m.home m.image m.sound k.lawful k.sizes k.used k.live k.given p = subst (SteadyPlain m.bytes m.faults m.faults_at_fetch m.home m.image m.sound k.lawful k.sizes k.used k.live k.given) c.self.view_is (c.self.invariant (ap (λ (q : SeenPlain _ _). q.stopped) c.self.view_is ∙ c.requires.runs)) in
    let begins : HasBegun m.bytes m.faults m.faults_at_fetch m.home m.image m.sound k.lawful k.sizes k.used k.live k.given p c.args.job.round c.args.job.point c.begin_round.new.ground = record {
      setting = c.begin_round.ensures.setting ∙ ap (λ (q : SeenPlain _ _). record { tops = q.setting.tops; rows = q.setting.rows; point = c.args.job.point }) c.self.view_is;
      round = c.begin_round.ensures.round;
      disks = ap (λ v. v.items) c.begin_round.ensures.disks ∙ ap (λ (q : SeenPlain _ _). q.disks) c.self.view_is;
      tops_are = c.in_ok-begin_round.ensures.sizes ∙ ap (λ (q : SeenPlain _ _). k.sizes q.chooser) c.self.view_is;
      used_are = c.in_ok-begin_round.ensures.used ∙ ap (λ (q : SeenPlain _ _). k.used q.chooser) c.self.view_is;
      live_are = c.in_ok-begin_round.ensures.live ∙ ap (λ (q : SeenPlain _ _). k.live q.chooser) c.self.view_is;
      given_are = c.in_ok-begin_round.ensures.given ∙ ap (λ (q : SeenPlain _ _). k.given q.chooser) c.self.view_is;
    } in
    let b = broke_from m.bytes m.faults m.faults_at_fetch m.home m.image m.sound k.lawful k.sizes k.used k.live k.given p c.args.job.round c.args.job.point c.args.job.trees c.begin_round.new.ground (seen k.sizes k.used k.live k.given c.run_trees.new.works) _ begins c.in_err-finished.ensures.breaks in
    λ is.
    (let q = err_from_is_err_and c.from_residual-in_err-finished.result c.from_residual-in_err-finished.ensures.1 in
    b.rose (cc))

pub returns-in_err-given-clause-device : goal.returns-in_err-given-clause-device
returns-in_err-given-clause-device g c =
    let m = g.D.Disk in
    let k = g.C.Chooser in
    let p : SeenPlain _ _ = c.args.self.now in
    λ is.
    (let q = err_from_is_err_and c.from_residual-in_err-given.result c.from_residual-in_err-given.ensures.1 in
    let no : Memory ≡ Device = cc in absurd (cc))

pub returns-in_err-finished-clause-calm : goal.returns-in_err-finished-clause-calm
returns-in_err-finished-clause-calm g c =
    let m = g.D.Disk in
    let k = g.C.Chooser in
    let p : SeenPlain _ _ = c.args.self.now in
    let steady : SteadyPlain m.bytes m.faults m.faults_at_fetch m.home m.image m.sound k.lawful k.sizes k.used k.live k.given p = subst (SteadyPlain m.bytes m.faults m.faults_at_fetch m.home m.image m.sound k.lawful k.sizes k.used k.live k.given) c.self.view_is (c.self.invariant (ap (λ (q : SeenPlain _ _). q.stopped) c.self.view_is ∙ c.requires.runs)) in
    let begins : HasBegun m.bytes m.faults m.faults_at_fetch m.home m.image m.sound k.lawful k.sizes k.used k.live k.given p c.args.job.round c.args.job.point c.begin_round.new.ground = record {
      setting = c.begin_round.ensures.setting ∙ ap (λ (q : SeenPlain _ _). record { tops = q.setting.tops; rows = q.setting.rows; point = c.args.job.point }) c.self.view_is;
      round = c.begin_round.ensures.round;
      disks = ap (λ v. v.items) c.begin_round.ensures.disks ∙ ap (λ (q : SeenPlain _ _). q.disks) c.self.view_is;
      tops_are = c.in_ok-begin_round.ensures.sizes ∙ ap (λ (q : SeenPlain _ _). k.sizes q.chooser) c.self.view_is;
      used_are = c.in_ok-begin_round.ensures.used ∙ ap (λ (q : SeenPlain _ _). k.used q.chooser) c.self.view_is;
      live_are = c.in_ok-begin_round.ensures.live ∙ ap (λ (q : SeenPlain _ _). k.live q.chooser) c.self.view_is;
      given_are = c.in_ok-begin_round.ensures.given ∙ ap (λ (q : SeenPlain _ _). k.given q.chooser) c.self.view_is;
    } in
    let b = broke_from m.bytes m.faults m.faults_at_fetch m.home m.image m.sound k.lawful k.sizes k.used k.live k.given p c.args.job.round c.args.job.point c.args.job.trees c.begin_round.new.ground (seen k.sizes k.used k.live k.given c.run_trees.new.works) _ begins c.in_err-finished.ensures.breaks in
    λ is.
    (let q = err_from_is_err_and c.from_residual-in_err-finished.result c.from_residual-in_err-finished.ensures.1 in
    b.calm (λ e. memory_no_device (let f = q.1 in let r = q.2 in cc)))

pub returns-in_err-given-clause-calm : goal.returns-in_err-given-clause-calm
returns-in_err-given-clause-calm g c =
    let m = g.D.Disk in
    let k = g.C.Chooser in
    let p : SeenPlain _ _ = c.args.self.now in
    let steady : SteadyPlain m.bytes m.faults m.faults_at_fetch m.home m.image m.sound k.lawful k.sizes k.used k.live k.given p = subst (SteadyPlain m.bytes m.faults m.faults_at_fetch m.home m.image m.sound k.lawful k.sizes k.used k.live k.given) c.self.view_is (c.self.invariant (ap (λ (q : SeenPlain _ _). q.stopped) c.self.view_is ∙ c.requires.runs)) in
    let begins : HasBegun m.bytes m.faults m.faults_at_fetch m.home m.image m.sound k.lawful k.sizes k.used k.live k.given p c.args.job.round c.args.job.point c.begin_round.new.ground = record {
      setting = c.begin_round.ensures.setting ∙ ap (λ (q : SeenPlain _ _). record { tops = q.setting.tops; rows = q.setting.rows; point = c.args.job.point }) c.self.view_is;
      round = c.begin_round.ensures.round;
      disks = ap (λ v. v.items) c.begin_round.ensures.disks ∙ ap (λ (q : SeenPlain _ _). q.disks) c.self.view_is;
      tops_are = c.in_ok-begin_round.ensures.sizes ∙ ap (λ (q : SeenPlain _ _). k.sizes q.chooser) c.self.view_is;
      used_are = c.in_ok-begin_round.ensures.used ∙ ap (λ (q : SeenPlain _ _). k.used q.chooser) c.self.view_is;
      live_are = c.in_ok-begin_round.ensures.live ∙ ap (λ (q : SeenPlain _ _). k.live q.chooser) c.self.view_is;
      given_are = c.in_ok-begin_round.ensures.given ∙ ap (λ (q : SeenPlain _ _). k.given q.chooser) c.self.view_is;
    } in
    let runs : AreRunnable (standing_of m.faults k.live p) c.args.job.trees = runnable (standing_of m.faults k.live p) c.args.job.trees c.requires.trees in
    let r = c.in_ok-finished.ensures.run in
    let e = c.in_ok-finished.field-0 in
    let h = has_run m.bytes m.faults m.faults_at_fetch m.home m.image m.sound k.lawful k.sizes k.used k.live k.given g.met.C.Chooser.lawful_none p c.args.job.round c.args.job.point c.args.job.trees e.left e.finished e.completions e.freed c.args.job.failmode c.begin_round.new.ground c.run_trees.new.works _ _ _ _ steady begins runs r in
    λ is. h.moved.steady

pub entries_of-requires-clause-distinct : goal.entries_of-requires-clause-distinct
entries_of-requires-clause-distinct g c =
    let m = g.D.Disk in
    let k = g.C.Chooser in
    let p : SeenPlain _ _ = c.args.self.now in
    let steady : SteadyPlain m.bytes m.faults m.faults_at_fetch m.home m.image m.sound k.lawful k.sizes k.used k.live k.given p = subst (SteadyPlain m.bytes m.faults m.faults_at_fetch m.home m.image m.sound k.lawful k.sizes k.used k.live k.given) c.self.view_is (c.self.invariant (ap (λ (q : SeenPlain _ _). q.stopped) c.self.view_is ∙ c.requires.runs)) in
    let begins : HasBegun m.bytes m.faults m.faults_at_fetch m.home m.image m.sound k.lawful k.sizes k.used k.live k.given p c.args.job.round c.args.job.point c.begin_round.new.ground = record {
      setting = c.begin_round.ensures.setting ∙ ap (λ (q : SeenPlain _ _). record { tops = q.setting.tops; rows = q.setting.rows; point = c.args.job.point }) c.self.view_is;
      round = c.begin_round.ensures.round;
      disks = ap (λ v. v.items) c.begin_round.ensures.disks ∙ ap (λ (q : SeenPlain _ _). q.disks) c.self.view_is;
      tops_are = c.in_ok-begin_round.ensures.sizes ∙ ap (λ (q : SeenPlain _ _). k.sizes q.chooser) c.self.view_is;
      used_are = c.in_ok-begin_round.ensures.used ∙ ap (λ (q : SeenPlain _ _). k.used q.chooser) c.self.view_is;
      live_are = c.in_ok-begin_round.ensures.live ∙ ap (λ (q : SeenPlain _ _). k.live q.chooser) c.self.view_is;
      given_are = c.in_ok-begin_round.ensures.given ∙ ap (λ (q : SeenPlain _ _). k.given q.chooser) c.self.view_is;
    } in
    let runs : AreRunnable (standing_of m.faults k.live p) c.args.job.trees = runnable (standing_of m.faults k.live p) c.args.job.trees c.requires.trees in
    let r = c.in_ok-finished.ensures.run in
    let e = c.in_ok-finished.field-0 in
    let h = has_run m.bytes m.faults m.faults_at_fetch m.home m.image m.sound k.lawful k.sizes k.used k.live k.given g.met.C.Chooser.lawful_none p c.args.job.round c.args.job.point c.args.job.trees e.left e.finished e.completions e.freed c.args.job.failmode c.begin_round.new.ground c.run_trees.new.works _ _ _ _ steady begins runs r in
    subst (λ (gs : List Choice). HaveDistinctKeys (asks_of gs)) (sym c.in_ok-given.ensures.entries)
    (gave_distinct m.bytes m.faults m.faults_at_fetch m.home m.image m.sound k.lawful k.sizes k.used k.live k.given p c.args.job.round c.args.job.point c.args.job.trees e.left e.finished e.completions e.freed c.args.job.failmode c.begin_round.new.ground c.run_trees.new.works _ _ _ _ steady begins r)

pub entries_of-requires-clause-rounds : goal.entries_of-requires-clause-rounds
entries_of-requires-clause-rounds g c =
    let m = g.D.Disk in
    let k = g.C.Chooser in
    let p : SeenPlain _ _ = c.args.self.now in
    let steady : SteadyPlain m.bytes m.faults m.faults_at_fetch m.home m.image m.sound k.lawful k.sizes k.used k.live k.given p = subst (SteadyPlain m.bytes m.faults m.faults_at_fetch m.home m.image m.sound k.lawful k.sizes k.used k.live k.given) c.self.view_is (c.self.invariant (ap (λ (q : SeenPlain _ _). q.stopped) c.self.view_is ∙ c.requires.runs)) in
    let begins : HasBegun m.bytes m.faults m.faults_at_fetch m.home m.image m.sound k.lawful k.sizes k.used k.live k.given p c.args.job.round c.args.job.point c.begin_round.new.ground = record {
      setting = c.begin_round.ensures.setting ∙ ap (λ (q : SeenPlain _ _). record { tops = q.setting.tops; rows = q.setting.rows; point = c.args.job.point }) c.self.view_is;
      round = c.begin_round.ensures.round;
      disks = ap (λ v. v.items) c.begin_round.ensures.disks ∙ ap (λ (q : SeenPlain _ _). q.disks) c.self.view_is;
      tops_are = c.in_ok-begin_round.ensures.sizes ∙ ap (λ (q : SeenPlain _ _). k.sizes q.chooser) c.self.view_is;
      used_are = c.in_ok-begin_round.ensures.used ∙ ap (λ (q : SeenPlain _ _). k.used q.chooser) c.self.view_is;
      live_are = c.in_ok-begin_round.ensures.live ∙ ap (λ (q : SeenPlain _ _). k.live q.chooser) c.self.view_is;
      given_are = c.in_ok-begin_round.ensures.given ∙ ap (λ (q : SeenPlain _ _). k.given q.chooser) c.self.view_is;
    } in
    let runs : AreRunnable (standing_of m.faults k.live p) c.args.job.trees = runnable (standing_of m.faults k.live p) c.args.job.trees c.requires.trees in
    let r = c.in_ok-finished.ensures.run in
    let e = c.in_ok-finished.field-0 in
    let h = has_run m.bytes m.faults m.faults_at_fetch m.home m.image m.sound k.lawful k.sizes k.used k.live k.given g.met.C.Chooser.lawful_none p c.args.job.round c.args.job.point c.args.job.trees e.left e.finished e.completions e.freed c.args.job.failmode c.begin_round.new.ground c.run_trees.new.works _ _ _ _ steady begins runs r in
    subst (AllByRecursion (λ (x : Choice). x.asked.key.round ≡ c.args.job.round)) (sym c.in_ok-given.ensures.entries)
    (gave_rounds m.bytes m.faults m.faults_at_fetch m.home m.image m.sound k.lawful k.sizes k.used k.live k.given p c.args.job.round c.args.job.point c.args.job.trees r.each_run e.finished e.freed c.run_trees.new.works h)

-- ---- where what was recorded is strange, or memory for it is refused

pub returns-in_err-begin_round-clause-stopped : goal.returns-in_err-begin_round-clause-stopped
returns-in_err-begin_round-clause-stopped g c =
    let m = g.D.Disk in
    let k = g.C.Chooser in
    let p : SeenPlain _ _ = c.args.self.now in
    let ground = c.begin_round.new.ground in
    on_err c.from_residual.result (stopped_after m.bytes m.faults m.faults_at_fetch m.home m.image m.sound k.lawful k.sizes k.used k.live k.given p (record { setting = ground.setting; disks = ground.disks.items; chooser = ground.chooser; last = c.args.job.round; stopped = true; strange = c.begin_round.new.strange }) c.args.job.round c.args.job.point ground.setting
    (c.begin_round.ensures.setting ∙ ap (λ (q : SeenPlain _ _). record { tops = q.setting.tops; rows = q.setting.rows; point = c.args.job.point }) c.self.view_is) refl refl refl)

pub returns-in_err-begin_round-clause-device : goal.returns-in_err-begin_round-clause-device
returns-in_err-begin_round-clause-device g c =
    λ is.
    (let q = err_from_is_err_and c.from_residual.result c.from_residual.ensures.1 in
    let memory = c.in_err-begin_round.ensures.memory in
    let given = c.in_err-begin_round.is in
    let f = q.1 in
    let r = q.2 in
    let no : Memory ≡ Device = cc in absurd (memory_no_device no))

pub returns-in_err-begin_round-clause-calm : goal.returns-in_err-begin_round-clause-calm
returns-in_err-begin_round-clause-calm g c =
    λ is. ap (map g.D.Disk.faults) (ap (λ v. v.items) c.begin_round.ensures.disks ∙ ap (λ (q : SeenPlain _ _). q.disks) c.self.view_is)

pub returns-in_err-begin_round-clause-stops : goal.returns-in_err-begin_round-clause-stops
returns-in_err-begin_round-clause-stops g c =
    let m = g.D.Disk in
    let k = g.C.Chooser in
    let p : SeenPlain _ _ = c.args.self.now in
    let steady : SteadyPlain m.bytes m.faults m.faults_at_fetch m.home m.image m.sound k.lawful k.sizes k.used k.live k.given p = subst (SteadyPlain m.bytes m.faults m.faults_at_fetch m.home m.image m.sound k.lawful k.sizes k.used k.live k.given) c.self.view_is (c.self.invariant (ap (λ (q : SeenPlain _ _). q.stopped) c.self.view_is ∙ c.requires.runs)) in
    let terms = terms_from m.bytes m.faults m.faults_at_fetch m.home m.image m.sound k.lawful k.sizes k.used k.live k.given p c.args.job.failmode c.args.job.round c.args.job.point steady in
    λ is before told strange. c.in_err-begin_round.ensures.strange strange _
    (subst (λ (q : SeenPlain _ _). AreTermsFrom c.args.job.round (k.sizes q.chooser) (k.used q.chooser) (terms_at (standing_of m.faults k.live p) c.args.job.failmode c.args.job.round c.args.job.point)) (sym c.self.view_is) terms) _ before

pub returns-in_err-begin_round-clause-images : goal.returns-in_err-begin_round-clause-images
returns-in_err-begin_round-clause-images g c =
    let m = g.D.Disk in
    let k = g.C.Chooser in
    let p : SeenPlain _ _ = c.args.self.now in
    let steady : SteadyPlain m.bytes m.faults m.faults_at_fetch m.home m.image m.sound k.lawful k.sizes k.used k.live k.given p = subst (SteadyPlain m.bytes m.faults m.faults_at_fetch m.home m.image m.sound k.lawful k.sizes k.used k.live k.given) c.self.view_is (c.self.invariant (ap (λ (q : SeenPlain _ _). q.stopped) c.self.view_is ∙ c.requires.runs)) in
    let disks : c.begin_round.new.ground.disks.items ≡ p.disks = ap (λ v. v.items) c.begin_round.ensures.disks ∙ ap (λ (q : SeenPlain _ _). q.disks) c.self.view_is in
    let b = begun_breaks m.bytes m.faults m.faults_at_fetch m.home m.image m.sound k.lawful k.sizes k.used k.live k.given p c.args.job.round c.args.job.point c.args.job.trees steady in
    on_err c.from_residual.result (λ before told.
    (let x = differs_by m.bytes m.faults m.faults_at_fetch m.home m.image m.sound k.lawful k.sizes k.used k.live k.given p c.args.job.round c.args.job.point c.args.job.trees (begun m.bytes m.faults m.faults_at_fetch m.home m.image m.sound k.lawful k.sizes k.used k.live k.given p c.args.job.round c.args.job.point) steady refl b.outside before told in
    (x.0, subst (λ ds. Tell m.image ds x.0) (sym disks) x.1, x.2)))

pub returns-in_err-begin_round-clause-same : goal.returns-in_err-begin_round-clause-same
returns-in_err-begin_round-clause-same g c =
    let m = g.D.Disk in
    let p : SeenPlain _ _ = c.args.self.now in
    let disks : c.begin_round.new.ground.disks.items ≡ p.disks = ap (λ v. v.items) c.begin_round.ensures.disks ∙ ap (λ (q : SeenPlain _ _). q.disks) c.self.view_is in
    subst (AreSameDisks m.bytes m.faults m.faults_at_fetch m.home m.image m.sound p.disks) (sym disks) (same_itself m.bytes m.faults m.faults_at_fetch m.home m.image m.sound p.disks)

pub returns-in_err-finished-clause-stops : goal.returns-in_err-finished-clause-stops
returns-in_err-finished-clause-stops g c = λ is before told strange. absurd (both_ways c.begin_round.new.strange c.in_ok-begin_round.ensures.usual strange)

pub returns-in_err-given-clause-stops : goal.returns-in_err-given-clause-stops
returns-in_err-given-clause-stops g c = λ is before told strange. absurd (both_ways c.begin_round.new.strange c.in_ok-begin_round.ensures.usual strange)

pub returns-in_err-entries-clause-stopped : goal.returns-in_err-entries-clause-stopped
returns-in_err-entries-clause-stopped g c =
    let m = g.D.Disk in
    let k = g.C.Chooser in
    let p : SeenPlain _ _ = c.args.self.now in
    let steady : SteadyPlain m.bytes m.faults m.faults_at_fetch m.home m.image m.sound k.lawful k.sizes k.used k.live k.given p = subst (SteadyPlain m.bytes m.faults m.faults_at_fetch m.home m.image m.sound k.lawful k.sizes k.used k.live k.given) c.self.view_is (c.self.invariant (ap (λ (q : SeenPlain _ _). q.stopped) c.self.view_is ∙ c.requires.runs)) in
    let begins : HasBegun m.bytes m.faults m.faults_at_fetch m.home m.image m.sound k.lawful k.sizes k.used k.live k.given p c.args.job.round c.args.job.point c.begin_round.new.ground = record {
      setting = c.begin_round.ensures.setting ∙ ap (λ (q : SeenPlain _ _). record { tops = q.setting.tops; rows = q.setting.rows; point = c.args.job.point }) c.self.view_is;
      round = c.begin_round.ensures.round;
      disks = ap (λ v. v.items) c.begin_round.ensures.disks ∙ ap (λ (q : SeenPlain _ _). q.disks) c.self.view_is;
      tops_are = c.in_ok-begin_round.ensures.sizes ∙ ap (λ (q : SeenPlain _ _). k.sizes q.chooser) c.self.view_is;
      used_are = c.in_ok-begin_round.ensures.used ∙ ap (λ (q : SeenPlain _ _). k.used q.chooser) c.self.view_is;
      live_are = c.in_ok-begin_round.ensures.live ∙ ap (λ (q : SeenPlain _ _). k.live q.chooser) c.self.view_is;
      given_are = c.in_ok-begin_round.ensures.given ∙ ap (λ (q : SeenPlain _ _). k.given q.chooser) c.self.view_is;
    } in
    let runs : AreRunnable (standing_of m.faults k.live p) c.args.job.trees = runnable (standing_of m.faults k.live p) c.args.job.trees c.requires.trees in
    let r = c.in_ok-finished.ensures.run in
    let e = c.in_ok-finished.field-0 in
    let h = has_run m.bytes m.faults m.faults_at_fetch m.home m.image m.sound k.lawful k.sizes k.used k.live k.given g.met.C.Chooser.lawful_none p c.args.job.round c.args.job.point c.args.job.trees e.left e.finished e.completions e.freed c.args.job.failmode c.begin_round.new.ground c.run_trees.new.works _ _ _ _ steady begins runs r in
    on_err c.from_residual-in_err-entries.result (stopped_after m.bytes m.faults m.faults_at_fetch m.home m.image m.sound k.lawful k.sizes k.used k.live k.given p (record { setting = c.run_trees.new.works.setting; disks = c.run_trees.new.works.disks.items; chooser = c.end_round.new.chooser; last = c.args.job.round; stopped = true; strange = c.entries_of.new.strange }) c.args.job.round c.args.job.point c.run_trees.new.works.setting h.moved.setting refl refl refl)

pub returns-in_err-entries-clause-images : goal.returns-in_err-entries-clause-images
returns-in_err-entries-clause-images g c =
    let m = g.D.Disk in
    let k = g.C.Chooser in
    let p : SeenPlain _ _ = c.args.self.now in
    let steady : SteadyPlain m.bytes m.faults m.faults_at_fetch m.home m.image m.sound k.lawful k.sizes k.used k.live k.given p = subst (SteadyPlain m.bytes m.faults m.faults_at_fetch m.home m.image m.sound k.lawful k.sizes k.used k.live k.given) c.self.view_is (c.self.invariant (ap (λ (q : SeenPlain _ _). q.stopped) c.self.view_is ∙ c.requires.runs)) in
    let begins : HasBegun m.bytes m.faults m.faults_at_fetch m.home m.image m.sound k.lawful k.sizes k.used k.live k.given p c.args.job.round c.args.job.point c.begin_round.new.ground = record {
      setting = c.begin_round.ensures.setting ∙ ap (λ (q : SeenPlain _ _). record { tops = q.setting.tops; rows = q.setting.rows; point = c.args.job.point }) c.self.view_is;
      round = c.begin_round.ensures.round;
      disks = ap (λ v. v.items) c.begin_round.ensures.disks ∙ ap (λ (q : SeenPlain _ _). q.disks) c.self.view_is;
      tops_are = c.in_ok-begin_round.ensures.sizes ∙ ap (λ (q : SeenPlain _ _). k.sizes q.chooser) c.self.view_is;
      used_are = c.in_ok-begin_round.ensures.used ∙ ap (λ (q : SeenPlain _ _). k.used q.chooser) c.self.view_is;
      live_are = c.in_ok-begin_round.ensures.live ∙ ap (λ (q : SeenPlain _ _). k.live q.chooser) c.self.view_is;
      given_are = c.in_ok-begin_round.ensures.given ∙ ap (λ (q : SeenPlain _ _). k.given q.chooser) c.self.view_is;
    } in
    let runs : AreRunnable (standing_of m.faults k.live p) c.args.job.trees = runnable (standing_of m.faults k.live p) c.args.job.trees c.requires.trees in
    let r = c.in_ok-finished.ensures.run in
    let e = c.in_ok-finished.field-0 in
    let h = has_run m.bytes m.faults m.faults_at_fetch m.home m.image m.sound k.lawful k.sizes k.used k.live k.given g.met.C.Chooser.lawful_none p c.args.job.round c.args.job.point c.args.job.trees e.left e.finished e.completions e.freed c.args.job.failmode c.begin_round.new.ground c.run_trees.new.works _ _ _ _ steady begins runs r in
    on_err c.from_residual-in_err-entries.result (differs_by m.bytes m.faults m.faults_at_fetch m.home m.image m.sound k.lawful k.sizes k.used k.live k.given p c.args.job.round c.args.job.point c.args.job.trees (seen k.sizes k.used k.live k.given c.run_trees.new.works) steady h.moved.disks.sizes h.moved.outside)

pub returns-in_err-entries-clause-same : goal.returns-in_err-entries-clause-same
returns-in_err-entries-clause-same g c =
    let m = g.D.Disk in
    let k = g.C.Chooser in
    let p : SeenPlain _ _ = c.args.self.now in
    let steady : SteadyPlain m.bytes m.faults m.faults_at_fetch m.home m.image m.sound k.lawful k.sizes k.used k.live k.given p = subst (SteadyPlain m.bytes m.faults m.faults_at_fetch m.home m.image m.sound k.lawful k.sizes k.used k.live k.given) c.self.view_is (c.self.invariant (ap (λ (q : SeenPlain _ _). q.stopped) c.self.view_is ∙ c.requires.runs)) in
    let begins : HasBegun m.bytes m.faults m.faults_at_fetch m.home m.image m.sound k.lawful k.sizes k.used k.live k.given p c.args.job.round c.args.job.point c.begin_round.new.ground = record {
      setting = c.begin_round.ensures.setting ∙ ap (λ (q : SeenPlain _ _). record { tops = q.setting.tops; rows = q.setting.rows; point = c.args.job.point }) c.self.view_is;
      round = c.begin_round.ensures.round;
      disks = ap (λ v. v.items) c.begin_round.ensures.disks ∙ ap (λ (q : SeenPlain _ _). q.disks) c.self.view_is;
      tops_are = c.in_ok-begin_round.ensures.sizes ∙ ap (λ (q : SeenPlain _ _). k.sizes q.chooser) c.self.view_is;
      used_are = c.in_ok-begin_round.ensures.used ∙ ap (λ (q : SeenPlain _ _). k.used q.chooser) c.self.view_is;
      live_are = c.in_ok-begin_round.ensures.live ∙ ap (λ (q : SeenPlain _ _). k.live q.chooser) c.self.view_is;
      given_are = c.in_ok-begin_round.ensures.given ∙ ap (λ (q : SeenPlain _ _). k.given q.chooser) c.self.view_is;
    } in
    let runs : AreRunnable (standing_of m.faults k.live p) c.args.job.trees = runnable (standing_of m.faults k.live p) c.args.job.trees c.requires.trees in
    let r = c.in_ok-finished.ensures.run in
    let e = c.in_ok-finished.field-0 in
    let h = has_run m.bytes m.faults m.faults_at_fetch m.home m.image m.sound k.lawful k.sizes k.used k.live k.given g.met.C.Chooser.lawful_none p c.args.job.round c.args.job.point c.args.job.trees e.left e.finished e.completions e.freed c.args.job.failmode c.begin_round.new.ground c.run_trees.new.works _ _ _ _ steady begins runs r in
    h.moved.disks

pub returns-in_err-entries-clause-device : goal.returns-in_err-entries-clause-device
returns-in_err-entries-clause-device g c =
    λ is.
    (let q = err_from_is_err_and c.from_residual-in_err-entries.result c.from_residual-in_err-entries.ensures.1 in
    let memory = c.in_err-entries.ensures.memory in
    let given = c.in_err-entries.is in
    let f = q.1 in
    let r = q.2 in
    let no : Memory ≡ Device = cc in absurd (memory_no_device no))

pub returns-in_err-entries-clause-calm : goal.returns-in_err-entries-clause-calm
returns-in_err-entries-clause-calm g c =
    let m = g.D.Disk in
    let k = g.C.Chooser in
    let p : SeenPlain _ _ = c.args.self.now in
    let steady : SteadyPlain m.bytes m.faults m.faults_at_fetch m.home m.image m.sound k.lawful k.sizes k.used k.live k.given p = subst (SteadyPlain m.bytes m.faults m.faults_at_fetch m.home m.image m.sound k.lawful k.sizes k.used k.live k.given) c.self.view_is (c.self.invariant (ap (λ (q : SeenPlain _ _). q.stopped) c.self.view_is ∙ c.requires.runs)) in
    let begins : HasBegun m.bytes m.faults m.faults_at_fetch m.home m.image m.sound k.lawful k.sizes k.used k.live k.given p c.args.job.round c.args.job.point c.begin_round.new.ground = record {
      setting = c.begin_round.ensures.setting ∙ ap (λ (q : SeenPlain _ _). record { tops = q.setting.tops; rows = q.setting.rows; point = c.args.job.point }) c.self.view_is;
      round = c.begin_round.ensures.round;
      disks = ap (λ v. v.items) c.begin_round.ensures.disks ∙ ap (λ (q : SeenPlain _ _). q.disks) c.self.view_is;
      tops_are = c.in_ok-begin_round.ensures.sizes ∙ ap (λ (q : SeenPlain _ _). k.sizes q.chooser) c.self.view_is;
      used_are = c.in_ok-begin_round.ensures.used ∙ ap (λ (q : SeenPlain _ _). k.used q.chooser) c.self.view_is;
      live_are = c.in_ok-begin_round.ensures.live ∙ ap (λ (q : SeenPlain _ _). k.live q.chooser) c.self.view_is;
      given_are = c.in_ok-begin_round.ensures.given ∙ ap (λ (q : SeenPlain _ _). k.given q.chooser) c.self.view_is;
    } in
    let runs : AreRunnable (standing_of m.faults k.live p) c.args.job.trees = runnable (standing_of m.faults k.live p) c.args.job.trees c.requires.trees in
    let r = c.in_ok-finished.ensures.run in
    let e = c.in_ok-finished.field-0 in
    let h = has_run m.bytes m.faults m.faults_at_fetch m.home m.image m.sound k.lawful k.sizes k.used k.live k.given g.met.C.Chooser.lawful_none p c.args.job.round c.args.job.point c.args.job.trees e.left e.finished e.completions e.freed c.args.job.failmode c.begin_round.new.ground c.run_trees.new.works _ _ _ _ steady begins runs r in
    λ is. h.moved.steady

pub returns-in_err-entries-clause-stops : goal.returns-in_err-entries-clause-stops
returns-in_err-entries-clause-stops g c =
    let m = g.D.Disk in
    let k = g.C.Chooser in
    let p : SeenPlain _ _ = c.args.self.now in
    let steady : SteadyPlain m.bytes m.faults m.faults_at_fetch m.home m.image m.sound k.lawful k.sizes k.used k.live k.given p = subst (SteadyPlain m.bytes m.faults m.faults_at_fetch m.home m.image m.sound k.lawful k.sizes k.used k.live k.given) c.self.view_is (c.self.invariant (ap (λ (q : SeenPlain _ _). q.stopped) c.self.view_is ∙ c.requires.runs)) in
    let begins : HasBegun m.bytes m.faults m.faults_at_fetch m.home m.image m.sound k.lawful k.sizes k.used k.live k.given p c.args.job.round c.args.job.point c.begin_round.new.ground = record {
      setting = c.begin_round.ensures.setting ∙ ap (λ (q : SeenPlain _ _). record { tops = q.setting.tops; rows = q.setting.rows; point = c.args.job.point }) c.self.view_is;
      round = c.begin_round.ensures.round;
      disks = ap (λ v. v.items) c.begin_round.ensures.disks ∙ ap (λ (q : SeenPlain _ _). q.disks) c.self.view_is;
      tops_are = c.in_ok-begin_round.ensures.sizes ∙ ap (λ (q : SeenPlain _ _). k.sizes q.chooser) c.self.view_is;
      used_are = c.in_ok-begin_round.ensures.used ∙ ap (λ (q : SeenPlain _ _). k.used q.chooser) c.self.view_is;
      live_are = c.in_ok-begin_round.ensures.live ∙ ap (λ (q : SeenPlain _ _). k.live q.chooser) c.self.view_is;
      given_are = c.in_ok-begin_round.ensures.given ∙ ap (λ (q : SeenPlain _ _). k.given q.chooser) c.self.view_is;
    } in
    let runs : AreRunnable (standing_of m.faults k.live p) c.args.job.trees = runnable (standing_of m.faults k.live p) c.args.job.trees c.requires.trees in
    let r = c.in_ok-finished.ensures.run in
    let e = c.in_ok-finished.field-0 in
    let h = has_run m.bytes m.faults m.faults_at_fetch m.home m.image m.sound k.lawful k.sizes k.used k.live k.given g.met.C.Chooser.lawful_none p c.args.job.round c.args.job.point c.args.job.trees e.left e.finished e.completions e.freed c.args.job.failmode c.begin_round.new.ground c.run_trees.new.works _ _ _ _ steady begins runs r in
    let opened = subst (λ (q : SeenPlain _ _). g.S.RoundEntries.begun c.args.job.round (k.sizes q.chooser) (k.used q.chooser)) c.self.view_is c.in_ok-begin_round.ensures.begun in
    let works = c.run_trees.new.works in
    let gave : c.in_ok-given.given ≡ k.given works.chooser = c.in_ok-given.ensures.entries in
    let lawful : k.lawful (k.sizes p.chooser) (k.used p.chooser) c.in_ok-given.given =
    subst (k.lawful (k.sizes p.chooser) (k.used p.chooser)) (sym gave) (gave_lawful m.bytes m.faults m.faults_at_fetch m.home m.image m.sound k.lawful k.sizes k.used k.live k.given p c.args.job.round c.args.job.point c.args.job.trees r.each_run e.finished e.freed works h) in
    let terms = terms_from m.bytes m.faults m.faults_at_fetch m.home m.image m.sound k.lawful k.sizes k.used k.live k.given p c.args.job.failmode c.args.job.round c.args.job.point steady in
    λ is before told strange. c.in_err-entries.ensures.strange strange (k.sizes p.chooser) (k.used p.chooser) opened lawful _ terms _ before
    (subst (λ (gs : List Choice). HaveRunOn gs (terms_at (standing_of m.faults k.live p) c.args.job.failmode c.args.job.round c.args.job.point) (map (λ (tree : List Pending). tree) c.args.job.trees) before) (sym gave)
    (ran_on m.bytes m.faults m.faults_at_fetch m.home m.image m.sound k.lawful k.sizes k.used k.live k.given p c.args.job.round c.args.job.point c.args.job.trees e.left e.finished e.completions e.freed c.args.job.failmode c.begin_round.new.ground works begins r h before told))
