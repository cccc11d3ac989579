-- Disks that were fetched from their shelf, were used, and came home.
use Rattle.std.proofs.Common.{◌≡◌, ◌<◌, ℕ, List, [], ◌∷◌, Bool, true, false, inl, inr, length, map, refl, sym, ap, ◌∙◌, subst, arith}
use Rattle.std.proofs.lemmas.List.{length-map}
use Rattle.std.specs.List.{AllByRecursion}
use Rattle.zio_types.specs.declared.journal.Journal.{Journal}
use Rattle.zio_outside.specs.Outside.{AnyRose, Raised, Rose, StaysHome, count_max}
use Rattle.zio_script.specs.declared.script.Script.{Script}
use Rattle.zio_cksum.specs.Images.{Images}
use Rattle.zio_gang.specs.declared.ending.Ending.{Ending}
use Rattle.zio_disks.specs.Disks.{AreSameDisks, KeepHomes, StaySound, StillTell, Tell}
use Rattle.zio_report.specs.declared.report.RunFault.{RunFault}
use Rattle.zio_report.specs.declared.report.RunFault.TheVariants.{Device, Sink, Memory}
use Rattle.zio_report.specs.declared.report.Show.{Show}
use Rattle.zio_report.specs.Meanings.{IsMeaning, IsWholeRun, run_size_of}
use Rattle.zio_report.specs.Reports.{end_code}
use Rattle.zio_command.specs.declared.mode.RunMode.{RunMode}
use Rattle.zio_command.specs.declared.outcome.RunOutcome.{RunOutcome}
use Rattle.zio_command.specs.declared.outcome.RunOutcome.TheVariants.{Ended, Unfit, Cut}
use Rattle.zio_command.specs.Causes.{AreFit, AreMeasured, AreUntouched}
use Rattle.zio_command.specs.Codes.{CameOut, CutHeadline, CutIf, IsCauseOf}
use Rattle.zio_command.specs.Grounds.{CameOutIf, HasRunOver, HasScrubbedOver, IsCauseOver, IsUnbegun, WasCutOver, WasStoppedOver}
use Rattle.zio_command.specs.Headline.{Headline, HeadlineIf, ScrubHeadline, TellEach}
use Rattle.zio_command.specs.Outcomes.{HasLawfulSize, counted_times}
use Rattle.zio_command.specs.Scrubbed.{IsStoppedScrub}
use Rattle.zio_command.specs.Seen.{ShelfSeen, SinkSeen}
use Rattle.zio_command.specs.Shelves.{AreAt, AreFetched, AreFresh, AreOut, ComeHome, KeepOthers}
use Rattle.zio_command.specs.Tops.{HaveImages, IsFirstMissing, leaves_of}
use Rattle.zio_command.specs.Words.{AreNames}
use Rattle.zio_command.proofs.CountLemmas.{raised_rose}
use Rattle.zio_command.proofs.ShelfLemmas.{AreOut-fetched, KeepOthers-after_trips, StaysHome-after_trips, StaysHome-refl, TellEach-kept}

-- ---- what disks tell

pub tell_each_one : (image : List ℕ → List ℕ → Type 0) → ((name a b : List ℕ) → image name a → image name b → a ≡ b) → (names : List (List ℕ)) (xs ys : Images)
    → TellEach image names xs → TellEach image names ys → xs ≡ ys
tell_each_one image one [] [] [] a b = refl
tell_each_one image one [] [] (y ∷ ys) a b = absurd b
tell_each_one image one [] (x ∷ xs) ys a b = absurd a
tell_each_one image one (name ∷ names) [] ys a b = absurd a
tell_each_one image one (name ∷ names) (x ∷ xs) [] a b = absurd b
tell_each_one image one (name ∷ names) (x ∷ xs) (y ∷ ys) a b =
    let first : x ≡ y = one name x y a.0 b.0 in
    let rest : xs ≡ ys = tell_each_one image one names xs ys a.1 b.1 in
    cc

pub told_length : (image : List ℕ → List ℕ → Type 0) (names : List (List ℕ)) (images : Images) → TellEach image names images → length images ≡ length names
told_length image [] [] told = refl
told_length image [] (bytes ∷ images) told = absurd told
told_length image (name ∷ names) [] told = absurd told
told_length image (name ∷ names) (bytes ∷ images) told = let rest = told_length image names images told.1 in omega (arith, rest)

at_kept : {D : Type 0} (home : D → List ℕ → Type 0) (old new : List D) (names : List (List ℕ)) → KeepHomes home old new → AreAt home old names → AreAt home new names
at_kept home [] [] [] keep at = tt
at_kept home [] [] (name ∷ names) keep at = absurd at
at_kept home [] (new ∷ news) names keep at = absurd keep
at_kept home (old ∷ olds) [] names keep at = absurd keep
at_kept home (old ∷ olds) (new ∷ news) [] keep at = absurd at
at_kept home (old ∷ olds) (new ∷ news) (name ∷ names) keep at = ((keep.0 name).0 at.0, at_kept home olds news names keep.1 at.1)

still_told : {D : Type 0} (image : D → List ℕ → Type 0) (old new : List D) (images : Images) → StillTell image old new → Tell image old images
    → (after : Images) × Tell image new after
still_told image [] [] images still told = ([], tt)
still_told image [] (new ∷ news) images still told = absurd still
still_told image (old ∷ olds) [] images still told = absurd still
still_told image (old ∷ olds) (new ∷ news) [] still told = absurd told
still_told image (old ∷ olds) (new ∷ news) (bytes ∷ images) still told =
    let first = still.0 bytes told.0 in
    let rest = still_told image olds news images still.1 told.1 in
    (first.0 ∷ rest.0, (first.1, rest.1))

pub used_length : {D : Type 0} (bytes : D → ℕ) (disks used : List D) → map bytes used ≡ map bytes disks → length used ≡ length disks
used_length bytes disks used same = sym (length-map used bytes) ∙ (ap length same ∙ length-map disks bytes)

-- disks that were sound are sound, and their counts are as before
pub stay_sound : {D : Type 0} (sound : D → Type 0) (faults : D → ℕ) (old new : List D) → StaySound sound faults old new → AllByRecursion sound old
    → AllByRecursion sound new × (map faults new ≡ map faults old)
stay_sound sound faults [] [] stay all = (tt, refl)
stay_sound sound faults [] (new ∷ news) stay all = absurd stay
stay_sound sound faults (old ∷ olds) [] stay all = absurd stay
stay_sound sound faults (old ∷ olds) (new ∷ news) stay all =
    let first = stay.0 all.0 in
    let rest = stay_sound sound faults olds news stay.1 all.1 in
    let here : faults new ≡ faults old = first.1 in
    let there : map faults news ≡ map faults olds = rest.1 in
    ((first.0, rest.0), cc)

-- nothing moved
pub KeepOthers-stays : (names : List (List ℕ)) (old new : List ℕ → List ℕ → Type 0) (old_out new_out : List ℕ → Type 0)
    → StaysHome old new old_out new_out → KeepOthers names old new old_out new_out
KeepOthers-stays names old new old_out new_out stays = record {
  images = λ other bytes none. stays.images other bytes;
  out = stays.out;
  still = λ before told. (before, TellEach-kept old new names (λ other bytes there h. (stays.images other bytes).1 h) before told);
}

pub KeepOthers-itself : (names : List (List ℕ)) (image : List ℕ → List ℕ → Type 0) (out : List ℕ → Type 0) → KeepOthers names image image out out
KeepOthers-itself names image out = KeepOthers-stays names image image out out (StaysHome-refl image out)

-- ---- a trip

-- the disks of these names were fetched, used and given back
pub record Trip {D : Type 0} (bytes faults faults_at_fetch : D → ℕ) (home image : D → List ℕ → Type 0) (sound : D → Type 0) (names : List (List ℕ)) (disks used : List D) (old mid new : ShelfSeen) : Type 0 where
  pub apart : AreNames names
  pub at_home : old.tells → AllByRecursion (λ name. ¬ old.out name) names
  pub one_old : (name a b : List ℕ) → old.image name a → old.image name b → a ≡ b
  pub one_new : (name a b : List ℕ) → new.image name a → new.image name b → a ≡ b
  pub all : length disks ≡ length names
  pub fresh : AreFresh bytes faults faults_at_fetch disks
  pub told : old.tells → AreFetched home image names disks old.image mid.image old.out mid.out
  pub lawful : (images : Images) → old.tells → TellEach old.image names images → AllByRecursion HasLawfulSize (map length images)
  pub fetches : mid.fetches ≡ counted_times (length names) old.fetches
  pub last : HasLawfulSize mid.last_size
  pub steady : mid.faults ≡ old.faults
  pub disks_steady : mid.disk_faults ≡ old.disk_faults
  pub still : old.tells → mid.tells
  pub same : AreSameDisks bytes faults faults_at_fetch home image sound disks used
  pub back : mid.tells → (known : List (List ℕ)) (images : Images) → AreOut home image mid.out known images used
      → ComeHome known images mid.image new.image mid.out new.out
  pub back_fetches : new.fetches ≡ mid.fetches
  pub back_last : new.last_size ≡ mid.last_size
  pub back_faults : new.faults ≡ mid.faults
  pub rose : AllByRecursion (λ n. n < count_max) (map faults_at_fetch used) → AnyRose (map faults_at_fetch used) (map faults used)
      → Raised mid.disk_faults new.disk_faults
  pub unrisen : map faults_at_fetch used ≡ map faults used → new.disk_faults ≡ mid.disk_faults

pub trip_measured : {D : Type 0} {bytes faults faults_at_fetch : D → ℕ} {home image : D → List ℕ → Type 0} {sound : D → Type 0} {names : List (List ℕ)} {disks used : List D} {old mid new : ShelfSeen}
    → Trip bytes faults faults_at_fetch home image sound names disks used old mid new → AreMeasured names old new
trip_measured t = record {
  steady = t.back_faults ∙ t.steady;
  fetches = t.back_fetches ∙ t.fetches;
  last = subst HasLawfulSize (sym t.back_last) t.last;
  lawful = t.lawful;
}

-- the disks tell what the shelf told
pub trip_told : {D : Type 0} {bytes faults faults_at_fetch : D → ℕ} {home image : D → List ℕ → Type 0} {sound : D → Type 0} {names : List (List ℕ)} {disks used : List D} {old mid new : ShelfSeen}
    → Trip bytes faults faults_at_fetch home image sound names disks used old mid new → (images : Images) → old.tells → TellEach old.image names images → Tell image disks images
trip_told {image = image} {names = names} {disks = disks} {old = old} t images tells each =
    let f = t.told tells in
    subst (λ (is : Images). Tell image disks is) (tell_each_one old.image t.one_old names f.images images f.before each) f.told

-- the disks come home with the images that they tell
pub trip_back : {D : Type 0} {bytes faults faults_at_fetch : D → ℕ} {home image : D → List ℕ → Type 0} {sound : D → Type 0} {names : List (List ℕ)} {disks used : List D} {old mid new : ShelfSeen}
    → Trip bytes faults faults_at_fetch home image sound names disks used old mid new → old.tells → (after : Images) → Tell image used after
    → ComeHome names after mid.image new.image mid.out new.out
trip_back {home = home} {image = image} {names = names} {disks = disks} {used = used} {old = old} {mid = mid} t tells after told =
    let f = t.told tells in
    let were = AreOut-fetched home image names disks old.image mid.image old.out mid.out t.apart f in
    t.back (t.still tells) names after (record {
      apart = t.apart;
      homes = at_kept home disks used names t.same.homes f.homes;
      told = told;
      out_now = were.out_now;
    })

-- the shelf may take them back
pub trip_out : {D : Type 0} (bytes faults faults_at_fetch : D → ℕ) (home image : D → List ℕ → Type 0) (sound : D → Type 0) (names : List (List ℕ)) (disks used : List D)
    (old mid : List ℕ → List ℕ → Type 0) (old_out mid_out : List ℕ → Type 0) → AreNames names → AreFetched home image names disks old mid old_out mid_out
    → AreSameDisks bytes faults faults_at_fetch home image sound disks used → (images : Images) × AreOut home image mid_out names images used
trip_out bytes faults faults_at_fetch home image sound names disks used old mid old_out mid_out apart f same =
    let were = AreOut-fetched home image names disks old mid old_out mid_out apart f in
    let after = still_told image disks used f.images same.told f.told in (
      after.0,
      record {
        apart = apart;
        homes = at_kept home disks used names same.homes f.homes;
        told = after.1;
        out_now = were.out_now;
      },
    )

pub trip_keeps : {D : Type 0} {bytes faults faults_at_fetch : D → ℕ} {home image : D → List ℕ → Type 0} {sound : D → Type 0} {names : List (List ℕ)} {disks used : List D} {old mid new : ShelfSeen}
    → Trip bytes faults faults_at_fetch home image sound names disks used old mid new → old.tells → KeepOthers names old.image new.image old.out new.out
trip_keeps {image = image} {names = names} {disks = disks} {used = used} {old = old} {mid = mid} {new = new} t tells =
    let f = t.told tells in
    let after = still_told image disks used f.images t.same.told f.told in
    KeepOthers-after_trips names after.0 old.image mid.image new.image old.out mid.out new.out f.gone (trip_back t tells after.0 after.1) (t.at_home tells)

pub trip_steady : {D : Type 0} {bytes faults faults_at_fetch : D → ℕ} {home image : D → List ℕ → Type 0} {sound : D → Type 0} {names : List (List ℕ)} {disks used : List D} {old mid new : ShelfSeen}
    → Trip bytes faults faults_at_fetch home image sound names disks used old mid new → map faults used ≡ map faults disks → new.disk_faults ≡ old.disk_faults
trip_steady t e = t.unrisen (t.same.at_fetch ∙ (t.fresh.unfailed ∙ sym e)) ∙ t.disks_steady

-- disks that weren't used are as before
pub trip_untouched : {D : Type 0} {bytes faults faults_at_fetch : D → ℕ} {home image : D → List ℕ → Type 0} {sound : D → Type 0} {names : List (List ℕ)} {disks used : List D} {old mid new : ShelfSeen}
    → Trip bytes faults faults_at_fetch home image sound names disks used old mid new → used ≡ disks → AreUntouched old new
trip_untouched {faults = faults} {image = image} {names = names} {disks = disks} {used = used} {old = old} {mid = mid} {new = new} t e = record {
  disk_faults = trip_steady t (ap (λ ds. map faults ds) e);
  home = λ tells.
      (let f = t.told tells in
      StaysHome-after_trips names f.images old.image mid.image new.image old.out mid.out new.out f.gone
      (trip_back t tells f.images (subst (λ ds. Tell image ds f.images) (sym e) f.told)) f.before t.one_old t.one_new (t.at_home tells));
}

pub trip_rose : {D : Type 0} {bytes faults faults_at_fetch : D → ℕ} {home image : D → List ℕ → Type 0} {sound : D → Type 0} {names : List (List ℕ)} {disks used : List D} {old mid new : ShelfSeen}
    → Trip bytes faults faults_at_fetch home image sound names disks used old mid new → AnyRose (map faults disks) (map faults used) → Rose old.disk_faults new.disk_faults
trip_rose {faults = faults} {faults_at_fetch = faults_at_fetch} {disks = disks} {used = used} {old = old} {mid = mid} {new = new} t r =
    let fetched : map faults_at_fetch used ≡ map faults disks = t.same.at_fetch ∙ t.fresh.unfailed in
    let below : AllByRecursion (λ n. n < count_max) (map faults_at_fetch used) = subst (λ (ns : List ℕ). AllByRecursion (λ n. n < count_max) ns) (sym fetched) t.fresh.below in
    let any : AnyRose (map faults_at_fetch used) (map faults used) = subst (λ (ns : List ℕ). AnyRose ns (map faults used)) (sym fetched) r in
    subst (λ (n : ℕ). Rose n new.disk_faults) t.disks_steady (raised_rose mid.disk_faults new.disk_faults (t.rose below any))

-- ---- how a run came out

-- a whole run is the meaning of its script
pub whole_meaning : (show : Show) (script : Script) (before : Images) (journal : Journal) (after : Images) (printed : List ℕ) (ending : Ending)
    → IsWholeRun show (run_size_of script before) script before journal after printed ending → IsMeaning show script before journal after printed (end_code ending)
whole_meaning show script before journal after printed ending w = record { end = ending; run = w; code_is = refl }

cause_of : {D : Type 0} {bytes faults faults_at_fetch : D → ℕ} {home image : D → List ℕ → Type 0} {sound : D → Type 0} {names : List (List ℕ)} {disks used : List D} {old mid new : ShelfSeen}
    → (old_sink new_sink : SinkSeen) → Trip bytes faults faults_at_fetch home image sound names disks used old mid new
    → (fault : RunFault) → IsCauseOver fault (map faults disks) (map faults used) old_sink new_sink → IsCauseOf fault old_sink new_sink old new
cause_of old_sink new_sink t Device cause = trip_rose t cause
cause_of old_sink new_sink t Sink cause = cause
cause_of old_sink new_sink t Memory cause = tt

-- the disks fit the script, where each of its leaves has one of them
trip_fit : {D : Type 0} {bytes faults faults_at_fetch : D → ℕ} {home image : D → List ℕ → Type 0} {sound : D → Type 0} {names : List (List ℕ)} {disks used : List D} {old mid new : ShelfSeen}
    → (script : Script) → Trip bytes faults faults_at_fetch home image sound names disks used old mid new → HaveImages (length disks) (leaves_of script.tops) → AreFit script names old new
trip_fit script t have = record { measured = trip_measured t; leaves = subst (λ (n : ℕ). HaveImages n (leaves_of script.tops)) t.all have }

unfit_out : {D : Type 0} {bytes faults faults_at_fetch : D → ℕ} {home image : D → List ℕ → Type 0} {sound : D → Type 0} {names : List (List ℕ)} {disks used : List D} {old mid new : ShelfSeen}
    → (mode : RunMode) (script : Script) (old_sink new_sink : SinkSeen) (old_journal journal : Journal)
    → Trip bytes faults faults_at_fetch home image sound names disks used old mid new
    → (leaf : ℕ) → IsFirstMissing (length disks) (leaves_of script.tops) leaf × (used ≡ disks) × (journal ≡ old_journal)
    → CameOut mode script names old_sink new_sink old new old_journal journal (Unfit leaf)
unfit_out mode script old_sink new_sink old_journal journal t leaf over = (
  inr (inr (record {
    measured = trip_measured t;
    first = subst (λ (n : ℕ). IsFirstMissing n (leaves_of script.tops) leaf) t.all over.0;
  })),
  trip_untouched t over.1,
  over.2,
)

unbegun_out : {D : Type 0} {bytes faults faults_at_fetch : D → ℕ} {home image : D → List ℕ → Type 0} {sound : D → Type 0} {names : List (List ℕ)} {disks used : List D} {old mid new : ShelfSeen}
    → (mode : RunMode) (script : Script) (old_sink new_sink : SinkSeen) (old_journal journal : Journal)
    → Trip bytes faults faults_at_fetch home image sound names disks used old mid new
    → (fault : RunFault) → IsUnbegun fault disks used old_sink new_sink old_journal journal
    → CameOut mode script names old_sink new_sink old new old_journal journal (Cut fault)
unbegun_out mode script old_sink new_sink old_journal journal t fault over =
    inr (over.0, record { nothing = over.2; untouched = trip_untouched t over.1; unentered = over.3 })

-- the headline of a run, and of one with a scrub behind it
ran_out : {D : Type 0} {bytes faults faults_at_fetch : D → ℕ} {home image : D → List ℕ → Type 0} {sound : D → Type 0} {names : List (List ℕ)} {disks used : List D} {old mid new : ShelfSeen}
    → (show : Show) (script : Script) (ending : Ending) (old_sink new_sink : SinkSeen) (journal : Journal)
    → Trip bytes faults faults_at_fetch home image sound names disks used old mid new
    → HasRunOver faults image show script ending disks used old_sink new_sink journal
    → (images : Images) → old.tells → TellEach old.image names images
    → Headline show script names images journal new.image old_sink.holds new_sink.holds (end_code ending)
ran_out show script ending old_sink new_sink journal t ran images tells each =
    let w = ran.told images (trip_told t images tells each) in
    record {
      after = w.after;
      printed = w.printed;
      meaning = whole_meaning show script images journal w.after w.printed ending w.whole;
      stored = (trip_back t tells w.after w.stored).told;
      written = w.written;
    }

scrubbed_out : {D : Type 0} {bytes faults faults_at_fetch : D → ℕ} {home image : D → List ℕ → Type 0} {sound : D → Type 0} {names : List (List ℕ)} {disks used : List D} {old mid new : ShelfSeen}
    → (show : Show) (script : Script) (ending : Ending) (old_sink new_sink : SinkSeen) (journal : Journal)
    → Trip bytes faults faults_at_fetch home image sound names disks used old mid new
    → HasScrubbedOver faults image show script ending disks used old_sink new_sink journal
    → (images : Images) → old.tells → TellEach old.image names images
    → ScrubHeadline show script names images journal new.image old_sink.holds new_sink.holds (end_code ending)
scrubbed_out show script ending old_sink new_sink journal t ran images tells each =
    let w = ran.told images (trip_told t images tells each) in
    record {
      end = ending;
      run = record {
        ran = w.ran;
        report = w.report;
        after = w.after;
        line = w.line;
        whole = w.whole;
        behind = w.behind;
        stores = (trip_back t tells w.after w.stores).told;
        written = w.written;
      };
      code_is = refl;
    }

-- the same of a run that was cut short, and of a scrub
cut_out : {D : Type 0} {bytes faults faults_at_fetch : D → ℕ} {home image : D → List ℕ → Type 0} {sound : D → Type 0} {names : List (List ℕ)} {disks used : List D} {old mid new : ShelfSeen}
    → (show : Show) (script : Script) (fault : RunFault) (old_sink new_sink : SinkSeen) (journal : Journal)
    → Trip bytes faults faults_at_fetch home image sound names disks used old mid new
    → WasCutOver faults image show script fault disks used old_sink new_sink journal
    → (images : Images) → old.tells → TellEach old.image names images
    → CutHeadline show script names fault images journal new.image old_sink.holds new_sink.holds
cut_out show script fault old_sink new_sink journal t cut images tells each =
    let w = cut.told images (trip_told t images tells each) in
    record {
      after = w.after;
      so_far = w.so_far;
      full = w.full;
      stopped = w.stopped;
      cut = w.cut;
      due = w.due;
      stored = (trip_back t tells w.after w.stored).told;
      written = w.written;
    }

stopped_out : {D : Type 0} {bytes faults faults_at_fetch : D → ℕ} {home image : D → List ℕ → Type 0} {sound : D → Type 0} {names : List (List ℕ)} {disks used : List D} {old mid new : ShelfSeen}
    → (show : Show) (script : Script) (fault : RunFault) (old_sink new_sink : SinkSeen) (journal : Journal)
    → Trip bytes faults faults_at_fetch home image sound names disks used old mid new
    → WasStoppedOver faults image show script fault disks used old_sink new_sink journal
    → (images : Images) → old.tells → TellEach old.image names images
    → IsStoppedScrub (TellEach new.image names) show script fault old_sink.holds new_sink.holds journal images
stopped_out show script fault old_sink new_sink journal t cut images tells each =
    let w = cut.told images (trip_told t images tells each) in
    record {
      ending = w.ending;
      ran = w.ran;
      report = w.report;
      after = w.after;
      blocks = w.blocks;
      whole = w.whole;
      no_panic = w.no_panic;
      bound = w.bound;
      images = w.images;
      stores = (trip_back t tells w.after w.stores).told;
      written = w.written;
    }

-- what a run over the disks came out as is what it comes out as over their shelf
pub came_out : {D : Type 0} {bytes faults faults_at_fetch : D → ℕ} {home image : D → List ℕ → Type 0} {sound : D → Type 0} {names : List (List ℕ)} {disks used : List D} {old mid new : ShelfSeen}
    → (mode : RunMode) (script : Script) (old_sink new_sink : SinkSeen) (old_journal journal : Journal)
    → Trip bytes faults faults_at_fetch home image sound names disks used old mid new
    → (outcome : RunOutcome) (scrubs : Bool) → mode.scrubs ≡ scrubs
    → CameOutIf scrubs faults image mode.show script disks used old_sink new_sink old_journal journal outcome
    → CameOut mode script names old_sink new_sink old new old_journal journal outcome
came_out {names = names} {new = new} mode script old_sink new_sink old_journal journal t (Ended ending) false is over =
    record {
      fit = trip_fit script t over.0;
      sink_steady = over.1.sink_steady;
      disks_steady = trip_steady t over.1.disks_steady;
      headline = λ images tells each.
          subst (λ (b : Bool). HeadlineIf b mode.show script names images journal new.image old_sink.holds new_sink.holds (end_code ending)) (sym is)
          (ran_out mode.show script ending old_sink new_sink journal t over.1 images tells each);
    }
came_out {names = names} {new = new} mode script old_sink new_sink old_journal journal t (Ended ending) true is over =
    record {
      fit = trip_fit script t over.0;
      sink_steady = over.1.sink_steady;
      disks_steady = trip_steady t over.1.disks_steady;
      headline = λ images tells each.
          subst (λ (b : Bool). HeadlineIf b mode.show script names images journal new.image old_sink.holds new_sink.holds (end_code ending)) (sym is)
          (scrubbed_out mode.show script ending old_sink new_sink journal t over.1 images tells each);
    }
came_out mode script old_sink new_sink old_journal journal t (Unfit leaf) false is over = unfit_out mode script old_sink new_sink old_journal journal t leaf over
came_out mode script old_sink new_sink old_journal journal t (Unfit leaf) true is over = unfit_out mode script old_sink new_sink old_journal journal t leaf over
came_out {names = names} {new = new} mode script old_sink new_sink old_journal journal t (Cut fault) false is (inl over) =
    inl (record {
      fit = trip_fit script t over.0;
      cause = cause_of old_sink new_sink t fault over.1.cause;
      headline = λ images tells each.
          subst (λ (b : Bool). CutIf b mode.show script names fault images journal new.image old_sink.holds new_sink.holds) (sym is)
          (cut_out mode.show script fault old_sink new_sink journal t over.1 images tells each);
    })
came_out {names = names} {new = new} mode script old_sink new_sink old_journal journal t (Cut fault) true is (inl (have, inl cut)) =
    inl (record {
      fit = trip_fit script t have;
      cause = cause_of old_sink new_sink t fault cut.cause;
      headline = λ images tells each.
          subst (λ (b : Bool). CutIf b mode.show script names fault images journal new.image old_sink.holds new_sink.holds) (sym is)
          (inl (cut_out mode.show script fault old_sink new_sink journal t cut images tells each));
    })
came_out {names = names} {new = new} mode script old_sink new_sink old_journal journal t (Cut fault) true is (inl (have, inr cut)) =
    inl (record {
      fit = trip_fit script t have;
      cause = cause_of old_sink new_sink t fault cut.cause;
      headline = λ images tells each.
          subst (λ (b : Bool). CutIf b mode.show script names fault images journal new.image old_sink.holds new_sink.holds) (sym is)
          (inr (stopped_out mode.show script fault old_sink new_sink journal t cut images tells each));
    })
came_out mode script old_sink new_sink old_journal journal t (Cut fault) false is (inr over) = unbegun_out mode script old_sink new_sink old_journal journal t fault over
came_out mode script old_sink new_sink old_journal journal t (Cut fault) true is (inr over) = unbegun_out mode script old_sink new_sink old_journal journal t fault over
