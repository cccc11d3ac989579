-- Files that were fetched from their shelf, were read, and came home.
use Rattle.std.proofs.Common.{◌≡◌, ◌<◌, ℕ, Option, Result, Ok, Err, List, [], ◌∷◌, length, map, inr, refl, sym, ◌∙◌, subst}
use Rattle.std.proofs.lemmas.List.{length-map}
use Rattle.std.specs.List.{AllByRecursion}
use Rattle.std.specs.Prelude.{IfOk, IfSome, OnOk}
use Rattle.zio_outside.specs.Outside.{AnyRose, Raised, Rose, StaysHome, count_max}
use Rattle.zio_cksum.specs.Images.{Images}
use Rattle.zio_disks.specs.Disks.{AreSameDisks, KeepHomes, Tell}
use Rattle.zio_audit.specs.declared.seen.Seen.{Seen}
use Rattle.zio_audit.specs.Audits.{MayBeAudited}
use Rattle.zio_audit.specs.Seen.{IsSeenIn, verdict_of}
use Rattle.zio_audit.specs.Verdicts.{Case, IsVerdict}
use Rattle.zio_command.specs.Headline.{TellEach}
use Rattle.zio_command.specs.Outcomes.{counted_times}
use Rattle.zio_command.specs.Seen.{ShelfSeen}
use Rattle.zio_command.specs.Shelves.{AreAt, AreFetched, AreOut, ComeHome}
use Rattle.zio_command.specs.Words.{AreNames}
use Rattle.zio_command.proofs.CountLemmas.{raised_rose}
use Rattle.zio_command.proofs.ShelfLemmas.{AreOut-fetched, StaysHome-after_trips}
use Rattle.zio_command.proofs.TripLemmas.{tell_each_one}
use Rattle.zio_audit_run.specs.declared.files.AuditFault.{AuditFault}
use Rattle.zio_audit_run.specs.declared.files.AuditFault.TheVariants.{File, Device, Memory}
use Rattle.zio_audit_run.specs.Causes.{AreMeasured, WereRead}
use Rattle.zio_audit_run.specs.Codes.{CameOut}
use Rattle.zio_audit_run.specs.Files.{AreFit, IsUnfit, files_in, last_or}
use Rattle.zio_audit_run.specs.Reads.{AreBytesOf, AreUnfailed, TellStill}

-- ---- what disks tell

homes_kept : {D : Type 0} (home : D → List ℕ → Type 0) (old new : List D) (names : List (List ℕ)) → KeepHomes home old new → AreAt home old names → AreAt home new names
homes_kept home [] [] [] keep at = tt
homes_kept home [] [] (name ∷ names) keep at = absurd at
homes_kept home [] (new ∷ news) names keep at = absurd keep
homes_kept home (old ∷ olds) [] names keep at = absurd keep
homes_kept home (old ∷ olds) (new ∷ news) [] keep at = absurd at
homes_kept home (old ∷ olds) (new ∷ news) (name ∷ names) keep at = ((keep.0 name).0 at.0, homes_kept home olds news names keep.1 at.1)

told_sizes : {D : Type 0} (bytes : D → ℕ) (image : D → List ℕ → Type 0) → ((disk : D) (content : List ℕ) → image disk content → length content ≡ bytes disk)
    → (disks : List D) (images : Images) → Tell image disks images → map bytes disks ≡ map (length {A = ℕ}) images
told_sizes bytes image has_size [] [] told = refl
told_sizes bytes image has_size [] (content ∷ images) told = absurd told
told_sizes bytes image has_size (disk ∷ disks) [] told = absurd told
told_sizes bytes image has_size (disk ∷ disks) (content ∷ images) told =
    let first : length content ≡ bytes disk = has_size disk content told.0 in
    let rest : map bytes disks ≡ map (length {A = ℕ}) images = told_sizes bytes image has_size disks images told.1 in
    cc

-- the shelf may take back what it handed out, once it was read
pub files_out : {D : Type 0} (bytes faults faults_at_fetch : D → ℕ) (home image : D → List ℕ → Type 0) (sound : D → Type 0) (names : List (List ℕ)) (disks read : List D)
    (old mid : List ℕ → List ℕ → Type 0) (old_out mid_out : List ℕ → Type 0) → AreNames names → (fetched : AreFetched home image names disks old mid old_out mid_out)
    → AreSameDisks bytes faults faults_at_fetch home image sound disks read → TellStill image disks read → AreOut home image mid_out names fetched.images read
files_out bytes faults faults_at_fetch home image sound names disks read old mid old_out mid_out apart fetched same still =
    let were = AreOut-fetched home image names disks old mid old_out mid_out apart fetched in
    record {
      apart = apart;
      homes = homes_kept home disks read names same.homes fetched.homes;
      told = still fetched.images fetched.told;
      out_now = were.out_now;
    }

-- ---- a trip

-- the files of these names were fetched, read and given back
pub record Trip {D : Type 0} (bytes faults faults_at_fetch : D → ℕ) (home image : D → List ℕ → Type 0) (sound : D → Type 0) (names : List (List ℕ)) (disks read : List D) (old mid new : ShelfSeen) : Type 0 where
  pub apart : AreNames names
  pub at_home : old.tells → AllByRecursion (λ name. ¬ old.out name) names
  pub one_old : (name a b : List ℕ) → old.image name a → old.image name b → a ≡ b
  pub one_new : (name a b : List ℕ) → new.image name a → new.image name b → a ≡ b
  pub has_size : (disk : D) (content : List ℕ) → image disk content → length content ≡ bytes disk
  pub all : length disks ≡ length names
  pub unfailed : AreUnfailed faults faults_at_fetch disks
  pub told : old.tells → AreFetched home image names disks old.image mid.image old.out mid.out
  pub fetches : mid.fetches ≡ counted_times (length names) old.fetches
  pub last : mid.last_size ≡ last_or old.last_size (map bytes disks)
  pub steady : mid.faults ≡ old.faults
  pub disks_steady : mid.disk_faults ≡ old.disk_faults
  pub mid_tells : old.tells → mid.tells
  pub same : AreSameDisks bytes faults faults_at_fetch home image sound disks read
  pub still : TellStill image disks read
  pub back : mid.tells → (known : List (List ℕ)) (images : Images) → AreOut home image mid.out known images read
      → ComeHome known images mid.image new.image mid.out new.out
  pub back_fetches : new.fetches ≡ mid.fetches
  pub back_last : new.last_size ≡ mid.last_size
  pub back_faults : new.faults ≡ mid.faults
  pub rose : AllByRecursion (λ n. n < count_max) (map faults_at_fetch read) → AnyRose (map faults_at_fetch read) (map faults read)
      → Raised mid.disk_faults new.disk_faults
  pub unrisen : map faults_at_fetch read ≡ map faults read → new.disk_faults ≡ mid.disk_faults

-- nothing left the shelf
pub trip_stays : {D : Type 0} {bytes faults faults_at_fetch : D → ℕ} {home image : D → List ℕ → Type 0} {sound : D → Type 0} {names : List (List ℕ)} {disks read : List D} {old mid new : ShelfSeen}
    → Trip bytes faults faults_at_fetch home image sound names disks read old mid new → old.tells → StaysHome old.image new.image old.out new.out
trip_stays {bytes = bytes} {faults = faults} {faults_at_fetch = faults_at_fetch} {home = home} {image = image} {sound = sound} {names = names} {disks = disks} {read = read} {old = old} {mid = mid} {new = new} t tells =
    let f = t.told tells in
    let back = t.back (t.mid_tells tells) names f.images
    (files_out bytes faults faults_at_fetch home image sound names disks read old.image mid.image old.out mid.out t.apart f t.same t.still) in
    StaysHome-after_trips names f.images old.image mid.image new.image old.out mid.out new.out f.gone back f.before t.one_old t.one_new (t.at_home tells)

-- the disks tell what the shelf told
pub trip_told : {D : Type 0} {bytes faults faults_at_fetch : D → ℕ} {home image : D → List ℕ → Type 0} {sound : D → Type 0} {names : List (List ℕ)} {disks read : List D} {old mid new : ShelfSeen}
    → Trip bytes faults faults_at_fetch home image sound names disks read old mid new → (files : Images) → old.tells → TellEach old.image names files → Tell image disks files
trip_told {image = image} {names = names} {disks = disks} {old = old} t files tells each =
    let f = t.told tells in
    subst (λ (is : Images). Tell image disks is) (tell_each_one old.image t.one_old names f.images files f.before each) f.told

pub trip_measured : {D : Type 0} {bytes faults faults_at_fetch : D → ℕ} {home image : D → List ℕ → Type 0} {sound : D → Type 0} {names : List (List ℕ)} {disks read : List D} {old mid new : ShelfSeen}
    → Trip bytes faults faults_at_fetch home image sound names disks read old mid new → AreMeasured names (map bytes disks) old new
trip_measured {bytes = bytes} {image = image} {disks = disks} t = record {
  steady = t.back_faults ∙ t.steady;
  fetches = t.back_fetches ∙ t.fetches;
  all = length-map disks bytes ∙ t.all;
  last = t.back_last ∙ t.last;
  told = λ files tells each. told_sizes bytes image t.has_size disks files (trip_told t files tells each);
}

-- no disk failed
pub trip_steady : {D : Type 0} {bytes faults faults_at_fetch : D → ℕ} {home image : D → List ℕ → Type 0} {sound : D → Type 0} {names : List (List ℕ)} {disks read : List D} {old mid new : ShelfSeen}
    → Trip bytes faults faults_at_fetch home image sound names disks read old mid new → map faults read ≡ map faults disks → new.disk_faults ≡ old.disk_faults
trip_steady t e = t.unrisen (t.same.at_fetch ∙ (t.unfailed.unfailed ∙ sym e)) ∙ t.disks_steady

-- a disk failed
pub trip_rose : {D : Type 0} {bytes faults faults_at_fetch : D → ℕ} {home image : D → List ℕ → Type 0} {sound : D → Type 0} {names : List (List ℕ)} {disks read : List D} {old mid new : ShelfSeen}
    → Trip bytes faults faults_at_fetch home image sound names disks read old mid new → AnyRose (map faults disks) (map faults read) → Rose old.disk_faults new.disk_faults
trip_rose {faults = faults} {faults_at_fetch = faults_at_fetch} {disks = disks} {read = read} {old = old} {mid = mid} {new = new} t r =
    let fetched : map faults_at_fetch read ≡ map faults disks = t.same.at_fetch ∙ t.unfailed.unfailed in
    let below : AllByRecursion (λ n. n < count_max) (map faults_at_fetch read) = subst (λ (ns : List ℕ). AllByRecursion (λ n. n < count_max) ns) (sym fetched) t.unfailed.below in
    let any : AnyRose (map faults_at_fetch read) (map faults read) = subst (λ (ns : List ℕ). AnyRose ns (map faults read)) (sym fetched) r in
    subst (λ (n : ℕ). Rose n new.disk_faults) t.disks_steady (raised_rose mid.disk_faults new.disk_faults (t.rose below any))

-- bytes of all of them were read
pub trip_read : {D : Type 0} {bytes faults faults_at_fetch : D → ℕ} {home image : D → List ℕ → Type 0} {sound : D → Type 0} {names : List (List ℕ)} {disks read : List D} {old mid new : ShelfSeen}
    → Trip bytes faults faults_at_fetch home image sound names disks read old mid new → (files : Images) → AreBytesOf bytes image disks files → AreFit (map bytes disks)
    → map faults read ≡ map faults disks → WereRead names files old new
trip_read {names = names} {old = old} {new = new} t files are fit calm = record {
  measured = subst (λ (ns : List ℕ). AreMeasured names ns old new) (sym are.sizes) (trip_measured t);
  fit = subst AreFit (sym are.sizes) fit;
  steady = trip_steady t calm;
  told = λ tells. (let f = t.told tells in subst (λ (fs : Images). TellEach old.image names fs) (sym (are.told f.images f.told)) f.before);
}

-- how the audit of files that were fetched, and are back, came out
pub trip_came : {D : Type 0} {bytes faults faults_at_fetch : D → ℕ} {home image : D → List ℕ → Type 0} {sound : D → Type 0} {names : List (List ℕ)} {disks read : List D} {old mid new : ShelfSeen}
    → Trip bytes faults faults_at_fetch home image sound names disks read old mid new → (answer : Result (Option Seen) AuditFault)
    → IfOk answer (λ seen. (c : Case) × AreBytesOf bytes image disks (files_in c) × MayBeAudited c × IsVerdict c (verdict_of seen) × IfSome seen (IsSeenIn c))
    → OnOk answer (AreFit (map bytes disks))
    → ((k : ℕ) → answer ≡ Err (File k) → IsUnfit (map bytes disks) k)
    → (answer ≡ Err Device → AreFit (map bytes disks) × AnyRose (map faults disks) (map faults read))
    → ((answer ≡ Err Device → ⊥) → map faults read ≡ map faults disks)
    → CameOut names old new answer
trip_came t (Ok seen) it fit unfit stopped calm = record {
  judged = record { read = it.0; files = trip_read t (files_in it.0) it.1 fit (calm (λ e. cc)); may = it.2; is = it.3 };
  place = it.4;
}
trip_came {bytes = bytes} {disks = disks} t (Err (File k)) it fit unfit stopped calm = inr (record { sizes = map bytes disks; measured = trip_measured t; unfit = unfit k refl })
trip_came {bytes = bytes} {disks = disks} t (Err Device) it fit unfit stopped calm =
    record { sizes = map bytes disks; measured = trip_measured t; fit = (stopped refl).0; rose = trip_rose t (stopped refl).1 }
trip_came t (Err Memory) it fit unfit stopped calm = tt
