-- What a runner's run of a script is over the disks that it was made of.
use Rattle.std.proofs.Common.{◌≡◌, ℕ, List, [], ◌∷◌, Result, Ok, Err, inl, inr, length, map, Bool, refl, sym, ap, ◌∙◌, subst}
use Rattle.std.specs.Prelude.{IfErr, IfOk, IsErrOf, OnOk}
use Rattle.zio_types.specs.declared.journal.Journal.{Journal}
use Rattle.zio_types.specs.declared.place.Top.{Top}
use Rattle.zio_outside.specs.Outside.{AnyRose, Appends, Rose}
use Rattle.zio_script.specs.declared.script.Script.{Script}
use Rattle.zio_script.specs.Requests.{requests_of}
use Rattle.zio_cksum.specs.Images.{Images}
use Rattle.zio_gang.specs.Attempts.{Pending, Terms}
use Rattle.zio_gang.specs.declared.ending.Ending.{Ending}
use Rattle.zio_gang.specs.Runs.{Event, rounds_of}
use Rattle.zio_disks.proofs.DiskLemmas.{tell_length}
use Rattle.zio_disks.specs.Disks.{Tell}
use Rattle.zio_report.specs.declared.report.RunFault.{RunFault}
use Rattle.zio_report.specs.declared.report.RunFault.TheVariants.{Device, Sink, Memory}
use Rattle.zio_report.specs.declared.report.Show.{Show}
use Rattle.zio_report.specs.Meanings.{IsWholeRun, course_of, tops_of}
use Rattle.zio_report.specs.Reports.{RunSize}
use Rattle.zio_course.specs.declared.runner.Stop.{Stop}
use Rattle.zio_course.specs.declared.runner.Stop.TheVariants.{Device as DeviceStops, Memory as NoMemory}
use Rattle.zio_course.specs.Runners.{IsCutRound, Stopping}
use Rattle.zio_course.specs.SoFar.{AreCutImages, IsBroken, IsCut, IsCutText, IsFullText, images_after}
use Rattle.zio_suspend.specs.declared.run.PoolEnd.{PoolEnd}
use Rattle.zio_suspend.specs.Pools.{AreBoundIn}
use Rattle.zio_command.specs.Grounds.{HasRunOver, IsCauseOver, WasCutOver}
use Rattle.zio_command.specs.Seen.{SinkSeen, stopping_plainly}

-- images that are told have the sizes of their disks
pub told_sizes : {D : Type 0} (bytes : D → ℕ) (image : D → List ℕ → Type 0) → ((disk : D) (content : List ℕ) → image disk content → length content ≡ bytes disk)
    → (disks : List D) (images : Images) → Tell image disks images → map (length {A = ℕ}) images ≡ map bytes disks
told_sizes bytes image sized [] [] told = refl
told_sizes bytes image sized [] (content ∷ images) told = absurd told
told_sizes bytes image sized (disk ∷ disks) [] told = absurd told
told_sizes bytes image sized (disk ∷ disks) (content ∷ images) told =
    let first : length content ≡ bytes disk = sized disk content told.0 in
    let rest : map (length {A = ℕ}) images ≡ map bytes disks = told_sizes bytes image sized disks images told.1 in
    cc

-- how many tops, images and requests a run has
abbrev pub size_with : Script → ℕ → RunSize
size_with script images = record { tops = length script.tops; images = images; requests = length (requests_of script.items) }

pub rounds_whole : {D : Type 0} (faults : D → ℕ) (image : D → List ℕ → Type 0) (show : Show) (script : Script) (old new : List D) (old_sink new_sink : SinkSeen) (journal : Journal) (images : ℕ)
    (ended : Result Ending RunFault) → length old ≡ images
    → IfOk ended (λ end. (before : Images) → Tell image old before → (after : Images) × (printed : List ℕ)
    × IsWholeRun show (size_with script images) script before journal after printed end × Tell image new after × Appends old_sink.holds new_sink.holds printed)
    → OnOk ended (map faults new ≡ map faults old) → OnOk ended (new_sink.faults ≡ old_sink.faults)
    → IfOk ended (λ ending. HasRunOver faults image show script ending old new old_sink new_sink journal)
rounds_whole faults image show script old new old_sink new_sink journal images (Ok ending) count told steady quiet = record {
  disks_steady = steady;
  sink_steady = quiet;
  told = λ before tells.
      (let w = told before tells in
      let n : length before ≡ images = tell_length image old before tells ∙ count in
      record {
        after = w.0;
        printed = w.1;
        whole = subst (λ (k : ℕ). IsWholeRun show (size_with script k) script before journal w.0 w.1 ending) (sym n) w.2;
        stored = w.3;
        written = w.4;
      });
}
rounds_whole faults image show script old new old_sink new_sink journal images (Err fault) count told steady quiet = tt

cause_over : {D : Type 0} (faults : D → ℕ) (old new : List D) (old_sink new_sink : SinkSeen) (fault : RunFault)
    → (fault ≡ Device → AnyRose (map faults old) (map faults new)) → (fault ≡ Sink → Rose old_sink.faults new_sink.faults)
    → IsCauseOver fault (map faults old) (map faults new) old_sink new_sink
cause_over faults old new old_sink new_sink Device device sink = device refl
cause_over faults old new old_sink new_sink Sink device sink = sink refl
cause_over faults old new old_sink new_sink Memory device sink = tt

ap_err : (a b : RunFault) → a ≡ b → IsErrOf {T = Ending} {E = RunFault} (Err a) b
ap_err a b e = ap (λ (x : RunFault). Err x) e

pub rounds_cut : {D : Type 0} (faults : D → ℕ) (image : D → List ℕ → Type 0) (show : Show) (script : Script) (tops : List Top) (stopped : Bool) (old new : List D) (old_sink new_sink : SinkSeen) (journal : Journal) (images : ℕ)
    (ended : Result Ending RunFault) → length old ≡ images → ((before : Images) → Tell image old before → tops ≡ tops_of script before)
    → IfErr ended (λ fault. (before : Images) → Tell image old before → (after : Images) × (text : List ℕ) × (full : List ℕ)
    × IsCut show (size_with script images) script before tops (stopping_plainly stopped) fault journal after text × IsFullText fault show (size_with script images) script before journal text full
    × Tell image new after × IsCutText fault old_sink.holds new_sink.holds [] full)
    → (IsErrOf ended Device → AnyRose (map faults old) (map faults new)) → (IsErrOf ended Sink → Rose old_sink.faults new_sink.faults)
    → IfErr ended (λ fault. WasCutOver faults image show script fault old new old_sink new_sink journal)
rounds_cut faults image show script tops stopped old new old_sink new_sink journal images (Ok ending) count known told device sink = tt
rounds_cut faults image show script tops stopped old new old_sink new_sink journal images (Err fault) count known told device sink = record {
  cause = cause_over faults old new old_sink new_sink fault (λ e. device (ap_err fault Device e)) (λ e. sink (ap_err fault Sink e));
  told = λ before tells.
      (let w = told before tells in
      let n : length before ≡ images = tell_length image old before tells ∙ count in
      let cut : IsCut show (size_with script images) script before (tops_of script before) (stopping_plainly stopped) fault journal w.0 w.1 =
      subst (λ (ts : List Top). IsCut show (size_with script images) script before ts (stopping_plainly stopped) fault journal w.0 w.1) (known before tells) w.3 in
      record {
        after = w.0;
        so_far = w.1;
        full = w.2;
        stopped = stopped;
        cut = subst (λ (k : ℕ). IsCut show (size_with script k) script before (tops_of script before) (stopping_plainly stopped) fault journal w.0 w.1) (sym n) cut;
        due = subst (λ (k : ℕ). IsFullText fault show (size_with script k) script before journal w.1 w.2) (sym n) w.4;
        stored = w.5;
        written = w.6;
      });
}

-- ---- a runner whose stops mean more

round_plainly : (stop : Stop) (w : Stopping) (t : Terms) (trees : List (List Pending)) (before after : Images)
    → IsCutRound stop w t trees before after → IsCutRound stop (stopping_plainly w.stopped) t trees before after
round_plainly DeviceStops w t trees before after cut = cut
round_plainly NoMemory w t trees before after (inl was) = inl (was.0, tt)
round_plainly NoMemory w t trees before after (inr whole) = inr whole

broken_plainly : (script : Script) (before : Images) (tops : List Top) (w : Stopping) (stop : Stop) (journal : Journal) (events : List Event) (after : Images)
    → IsBroken script before tops w stop journal events after → IsBroken script before tops (stopping_plainly w.stopped) stop journal events after
broken_plainly script before tops w stop journal events after broken = record {
  terms = broken.terms;
  trees = broken.trees;
  goes_on = broken.goes_on;
  cut = round_plainly stop w broken.terms broken.trees (images_after before (rounds_of events)) after broken.cut;
  loose = broken.loose;
}

images_plainly : (fault : RunFault) (script : Script) (before : Images) (tops : List Top) (w : Stopping) (journal : Journal) (events : List Event) (after : Images)
    → AreCutImages fault script before tops w journal events after → AreCutImages fault script before tops (stopping_plainly w.stopped) journal events after
images_plainly Device script before tops w journal events after broken = broken_plainly script before tops w DeviceStops journal events after broken
images_plainly Sink script before tops w journal events after between = between
images_plainly Memory script before tops w journal events after (inl between) = inl between
images_plainly Memory script before tops w journal events after (inr broken) = inr (broken_plainly script before tops w NoMemory journal events after broken)

-- what its stop means may be left out
pub cut_plainly : (show : Show) (n : RunSize) (script : Script) (before : Images) (tops : List Top) (w : Stopping) (fault : RunFault) (journal : Journal) (after : Images) (text : List ℕ)
    → IsCut show n script before tops w fault journal after text → IsCut show n script before tops (stopping_plainly w.stopped) fault journal after text
cut_plainly show n script before tops w fault journal after text cut = record {
  events = cut.events;
  rest = cut.rest;
  begins = cut.begins;
  entered = cut.entered;
  images = images_plainly fault script before tops w journal cut.events after cut.images;
}

-- ---- the same of a run that gives the blocks that are bound

pub pool_whole : {D : Type 0} (faults : D → ℕ) (image : D → List ℕ → Type 0) (show : Show) (script : Script) (old new : List D) (old_sink new_sink : SinkSeen) (journal : Journal) (images : ℕ)
    (ended : Result PoolEnd RunFault) → length old ≡ images
    → IfOk ended (λ end. (before : Images) → Tell image old before → (after : Images) × (printed : List ℕ)
    × IsWholeRun show (size_with script images) script before journal after printed end.ending
    × AreBoundIn (course_of script before journal).state end.point end.bound × Tell image new after × Appends old_sink.holds new_sink.holds printed)
    → OnOk ended (map faults new ≡ map faults old) → OnOk ended (new_sink.faults ≡ old_sink.faults)
    → IfOk ended (λ end. HasRunOver faults image show script end.ending old new old_sink new_sink journal)
pool_whole faults image show script old new old_sink new_sink journal images (Ok end) count told steady quiet =
    rounds_whole faults image show script old new old_sink new_sink journal images (Ok end.ending) count
    (λ before tells. let w = told before tells in (w.0, w.1, w.2, w.4, w.5)) steady quiet
pool_whole faults image show script old new old_sink new_sink journal images (Err fault) count told steady quiet = tt

err_same : (a b : RunFault) → IsErrOf {T = Ending} {E = RunFault} (Err a) b → IsErrOf {T = PoolEnd} {E = RunFault} (Err a) b
err_same a b e = let same : a ≡ b = cc in ap (λ (x : RunFault). Err x) same

pub pool_cut : {D : Type 0} (faults : D → ℕ) (image : D → List ℕ → Type 0) (show : Show) (script : Script) (tops : List Top) (stopped : Bool) (old new : List D) (old_sink new_sink : SinkSeen) (journal : Journal) (images : ℕ)
    (ended : Result PoolEnd RunFault) → length old ≡ images → ((before : Images) → Tell image old before → tops ≡ tops_of script before)
    → IfErr ended (λ fault. (before : Images) → Tell image old before → (after : Images) × (text : List ℕ) × (full : List ℕ)
    × IsCut show (size_with script images) script before tops (stopping_plainly stopped) fault journal after text × IsFullText fault show (size_with script images) script before journal text full
    × Tell image new after × IsCutText fault old_sink.holds new_sink.holds [] full)
    → (IsErrOf ended Device → AnyRose (map faults old) (map faults new)) → (IsErrOf ended Sink → Rose old_sink.faults new_sink.faults)
    → IfErr ended (λ fault. WasCutOver faults image show script fault old new old_sink new_sink journal)
pool_cut faults image show script tops stopped old new old_sink new_sink journal images (Ok end) count known told device sink = tt
pool_cut faults image show script tops stopped old new old_sink new_sink journal images (Err fault) count known told device sink =
    rounds_cut faults image show script tops stopped old new old_sink new_sink journal images (Err fault) count known told
    (λ e. device (err_same fault Device e)) (λ e. sink (err_same fault Sink e))
