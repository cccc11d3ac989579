use Rattle.std.proofs.Common.{◌≡◌, ◌<◌, ◌++◌, ℕ, length, map, string_bytes, take, drop, sym, ap, ◌∙◌, subst}
use Rattle.std.proofs.lemmas.List.{length-map}
use Rattle.std.specs.List.{AllByRecursion}
use Rattle.zio_cksum.proofs.AllLemmas.{all_true}
use Rattle.zio_outside.specs.Outside.{AnyRose, Raised, count_max}
use Rattle.zio_command.specs.Outcomes.{counted_times}
use Rattle.zio_command.specs.Seen.{ShelfSeen, shelf_by}
use Rattle.zio_command.specs.Shelves.{AreFetched, AreOut}
use Rattle.zio_command.proofs.TripLemmas.{stay_sound}
use Rattle.zio_audit_run.specs.Files.{last_or}
use Rattle.zio_audit_run.specs.Reads.{AreUnfailed}
use Rattle.zio_audit_run.specs.Words.{IsCount}
use Rattle.zio_audit_run.proofs.ReadLemmas.{front_all}
use Rattle.zio_audit_run.proofs.TripLemmas.{Trip, files_out, trip_came, trip_stays, trip_steady}
use Rattle.zio_audit_run.proofs.files.audit_named.Given as given
use Rattle.zio_audit_run.proofs.files.audit_named.Goals as goal

pub judge_fit-seen-requires : goal.judge_fit-seen-requires
judge_fit-seen-requires g c =
    let names = map string_bytes c.args.words.now in
    let many : length c.deref_mut.result.now ≡ length names =
    ap length c.deref_mut.ensures.value ∙ (c.in-Ok.ensures.all ∙ sym (length-map c.args.words.now string_bytes)) in
    subst IsCount (sym many) c.requires.names.count

pub give_back_images-requires : goal.give_back_images-requires
give_back_images-requires g c = record {
  home = λ still.
      (
      let tells = c.in-Ok.ensures.tells.1 still in
      let disks = c.in-Ok.disks.items in
      let lent = c.deref_mut.result.now in
      let read = c.judge_fit-seen.new.disks in
      let home = g.H.Disk.Disk.home in
      let image = g.H.Disk.Disk.image in
      let names = map string_bytes c.args.words.now in
      let old = g.H.Shelf.image c.args.shelf.now in
      let mid = g.H.Shelf.image c.fetch_all.new.shelf in
      let old_out = g.H.Shelf.out c.args.shelf.now in
      let mid_out = g.H.Shelf.out c.fetch_all.new.shelf in
      let fetched : AreFetched home image names lent old mid old_out mid_out =
      subst (λ ds. AreFetched home image names ds old mid old_out mid_out) (sym c.deref_mut.ensures.value) (c.in-Ok.ensures.told tells) in
      let are = files_out g.H.Disk.Disk.bytes g.H.Disk.Disk.faults g.H.Disk.Disk.faults_at_fetch home image g.H.Disk.Disk.sound names lent read old mid old_out mid_out
      c.requires.names.names fetched c.judge_fit-seen.ensures.same c.judge_fit-seen.ensures.still in
      let many : length read ≡ c.in-Ok.disks.len =
      c.judge_fit-seen.auto.disks ∙ (ap length c.deref_mut.ensures.value ∙ sym c.in-Ok.disks.ok.0) in
      let whole : take c.in-Ok.disks.len (read ++ drop (length read) disks) ≡ read = front_all c.in-Ok.disks.len read (drop (length read) disks) many in
      (names, fetched.images, subst (λ ds. AreOut home image mid_out names fetched.images ds) (sym whole) are));
}

-- a shelf as it is seen
abbrev seen : (g : given.Over) → g.row.H.Denot → ShelfSeen
seen g shelf = shelf_by g.H.Shelf.tells g.H.Shelf.image g.H.Shelf.out g.H.Shelf.faults g.H.Shelf.disk_faults g.H.Shelf.fetches g.H.Shelf.returns g.H.Shelf.last_size shelf

-- the files were fetched, read and given back
trip_of : (g : given.Over) (c : goal.After-give_back_images g) →
    Trip g.H.Disk.Disk.bytes g.H.Disk.Disk.faults g.H.Disk.Disk.faults_at_fetch g.H.Disk.Disk.home g.H.Disk.Disk.image g.H.Disk.Disk.sound
    (map string_bytes c.args.words.now) c.deref_mut.result.now c.judge_fit-seen.new.disks (seen g c.args.shelf.now) (seen g c.fetch_all.new.shelf) (seen g c.give_back_images.new.shelf)
trip_of g c =
    let words = c.args.words.now in
    let names = map string_bytes words in
    let disks = c.in-Ok.disks.items in
    let read = c.judge_fit-seen.new.disks in
    let is : disks ≡ c.deref_mut.result.now = sym c.deref_mut.ensures.value in
    let count : length names ≡ length words = length-map words string_bytes in
    let faults = g.H.Disk.Disk.faults in
    let at_fetch = g.H.Disk.Disk.faults_at_fetch in
    let home = g.H.Disk.Disk.home in
    let image = g.H.Disk.Disk.image in
    let old = g.H.Shelf.image c.args.shelf.now in
    let mid = g.H.Shelf.image c.fetch_all.new.shelf in
    let old_out = g.H.Shelf.out c.args.shelf.now in
    let mid_out = g.H.Shelf.out c.fetch_all.new.shelf in
    let many : length read ≡ c.in-Ok.disks.len =
    c.judge_fit-seen.auto.disks ∙ (ap length c.deref_mut.ensures.value ∙ sym c.in-Ok.disks.ok.0) in
    let whole : take c.in-Ok.disks.len (read ++ drop (length read) disks) ≡ read = front_all c.in-Ok.disks.len read (drop (length read) disks) many in
    let before = g.H.Shelf.fetches c.args.shelf.now in
    let back = c.give_back_images.ensures in
    let mid_faults = g.H.Shelf.disk_faults c.fetch_all.new.shelf in
    let new_faults = g.H.Shelf.disk_faults c.give_back_images.new.shelf in
    record {
      apart = c.requires.names.names;
      at_home = λ tells. all_true (λ name. ¬ g.H.Shelf.out c.args.shelf.now name) names (c.requires.home tells);
      one_old = g.met.H.Shelf.one_image c.args.shelf.now;
      one_new = g.met.H.Shelf.one_image c.give_back_images.new.shelf;
      has_size = g.met.H.Disk.Disk.has_size;
      all = ap length c.deref_mut.ensures.value ∙ (c.in-Ok.ensures.all ∙ sym count);
      unfailed = subst (λ ds. AreUnfailed faults at_fetch ds) is c.in-Ok.ensures.unfailed;
      told = λ tells. subst (λ ds. AreFetched home image names ds old mid old_out mid_out) is (c.in-Ok.ensures.told tells);
      fetches = c.in-Ok.ensures.fetches.0 ∙ ap (λ (n : ℕ). counted_times n before) (sym count);
      last = c.in-Ok.ensures.last ∙ ap (λ ds. last_or (g.H.Shelf.last_size c.args.shelf.now) (map g.H.Disk.Disk.bytes ds)) is;
      steady = c.in-Ok.ensures.steady;
      disks_steady = c.in-Ok.ensures.disk_faults;
      mid_tells = c.in-Ok.ensures.tells.0;
      same = c.judge_fit-seen.ensures.same;
      still = c.judge_fit-seen.ensures.still;
      back = λ tells known images are. back.home tells known images (subst (λ ds. AreOut home image mid_out known images ds) (sym whole) are);
      back_fetches = back.fetches;
      back_last = back.size;
      back_faults = back.faults;
      rose =
          subst (λ ds. AllByRecursion (λ n. n < count_max) (map at_fetch ds) → AnyRose (map at_fetch ds) (map faults ds) → Raised mid_faults new_faults) whole back.rose;
      unrisen = subst (λ ds. map at_fetch ds ≡ map faults ds → new_faults ≡ mid_faults) whole back.same;
    }

pub returns-in-Ok-clause-came : goal.returns-in-Ok-clause-came
returns-in-Ok-clause-came g c =
    let said = c.judge_fit-seen.ensures in
    trip_came (trip_of g c) c.judge_fit-seen.result said.seen said.fit said.unfit said.stopped said.calm

pub returns-in-Ok-clause-calm : goal.returns-in-Ok-clause-calm
returns-in-Ok-clause-calm g c not = trip_steady (trip_of g c) (c.judge_fit-seen.ensures.calm not)

pub returns-in-Ok-clause-home : goal.returns-in-Ok-clause-home
returns-in-Ok-clause-home g c tells = trip_stays (trip_of g c) tells

pub returns-in-Ok-clause-sound : goal.returns-in-Ok-clause-sound
returns-in-Ok-clause-sound g c all =
    let disks = c.in-Ok.disks.items in
    let read = c.judge_fit-seen.new.disks in
    let sound = g.H.Disk.Disk.sound in
    let many : length read ≡ c.in-Ok.disks.len =
    c.judge_fit-seen.auto.disks ∙ (ap length c.deref_mut.ensures.value ∙ sym c.in-Ok.disks.ok.0) in
    let whole : take c.in-Ok.disks.len (read ++ drop (length read) disks) ≡ read = front_all c.in-Ok.disks.len read (drop (length read) disks) many in
    let s = c.in-Ok.ensures.sound all in
    let stay = stay_sound sound g.H.Disk.Disk.faults c.deref_mut.result.now read c.judge_fit-seen.ensures.same.stay
    (subst (λ ds. AllByRecursion sound ds) (sym c.deref_mut.ensures.value) s.2) in (
      c.give_back_images.ensures.faults ∙ s.0,
      trip_steady (trip_of g c) stay.1,
      λ name h. c.give_back_images.ensures.sound (subst (λ ds. AllByRecursion sound ds) (sym whole) stay.0) name (s.1 name h),
    )
