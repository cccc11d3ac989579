use Rattle.std.proofs.Common.{◌≡◌, Err, ℕ, inl, inr, length, refl, ap, ◌∙◌}
use Rattle.zio_cksum.proofs.AllLemmas.{all_true}
use Rattle.zio_command.specs.declared.shelf.ImagesFault.{ImagesFault}
use Rattle.zio_command.specs.Outcomes.{counted_times}
use Rattle.zio_command.specs.Seen.{shelf_by, sink_by}
use Rattle.zio_command.proofs.TripLemmas.{KeepOthers-stays, Trip, came_out, stay_sound, trip_keeps, trip_out, trip_steady, used_length}
use Rattle.zio_command.proofs.run.run_on_shelf.Goals as goal

pub give_back_images-requires : goal.give_back_images-requires
give_back_images-requires g c =
    let d = c.run_in_mode-outcome in
    record {
      home = λ still.
          (let out = trip_out g.H.Disk.Disk.bytes g.H.Disk.Disk.faults g.H.Disk.Disk.faults_at_fetch g.H.Disk.Disk.home g.H.Disk.Disk.image g.H.Disk.Disk.sound c.args.names.now
          c.in-Ok.disks.items d.result.1.items (g.H.Shelf.image c.args.shelf.now) (g.H.Shelf.image c.fetch_images.new.shelf)
          (g.H.Shelf.out c.args.shelf.now) (g.H.Shelf.out c.fetch_images.new.shelf) c.requires.names.names (c.in-Ok.ensures.told (c.in-Ok.ensures.tells.1 still)) d.ensures.same in
          (c.args.names.now, out.0, out.1));
    }

pub returns-in-Ok-clause-outcome : goal.returns-in-Ok-clause-outcome
returns-in-Ok-clause-outcome g c =
    let saw = shelf_by g.H.Shelf.tells g.H.Shelf.image g.H.Shelf.out g.H.Shelf.faults g.H.Shelf.disk_faults g.H.Shelf.fetches g.H.Shelf.returns g.H.Shelf.last_size in
    let d = c.run_in_mode-outcome in
    let back = c.give_back_images.ensures in
    let trip : Trip g.H.Disk.Disk.bytes g.H.Disk.Disk.faults g.H.Disk.Disk.faults_at_fetch g.H.Disk.Disk.home g.H.Disk.Disk.image g.H.Disk.Disk.sound c.args.names.now
    c.in-Ok.disks.items d.result.1.items (saw c.args.shelf.now) (saw c.fetch_images.new.shelf) (saw c.give_back_images.new.shelf) = record {
      apart = c.requires.names.names;
      at_home = λ tells. all_true (λ name. ¬ g.H.Shelf.out c.args.shelf.now name) c.args.names.now (c.requires.home tells);
      one_old = g.met.H.Shelf.one_image c.args.shelf.now;
      one_new = g.met.H.Shelf.one_image c.give_back_images.new.shelf;
      all = c.in-Ok.ensures.all;
      fresh = c.in-Ok.ensures.fresh;
      told = c.in-Ok.ensures.told;
      lawful = c.in-Ok.ensures.lawful_told;
      fetches = c.in-Ok.ensures.fetches.0;
      last = c.in-Ok.ensures.size;
      steady = c.in-Ok.ensures.steady;
      disks_steady = c.in-Ok.ensures.disk_faults;
      still = c.in-Ok.ensures.tells.0;
      same = d.ensures.same;
      back = back.home;
      back_fetches = back.fetches;
      back_last = back.size;
      back_faults = back.faults;
      rose = back.rose;
      unrisen = back.same;
    } in
    let sink = sink_by g.O.Sink.holds g.O.Sink.faults in
    came_out c.args.mode.now c.args.script.now (sink c.args.out.now) (sink d.new.out) c.args.journal.now d.new.journal trip d.result.0 c.args.mode.now.scrubs refl d.ensures.outcome

pub returns-in-Ok-clause-home : goal.returns-in-Ok-clause-home
returns-in-Ok-clause-home g c tells =
    let saw = shelf_by g.H.Shelf.tells g.H.Shelf.image g.H.Shelf.out g.H.Shelf.faults g.H.Shelf.disk_faults g.H.Shelf.fetches g.H.Shelf.returns g.H.Shelf.last_size in
    let d = c.run_in_mode-outcome in
    let back = c.give_back_images.ensures in
    let trip : Trip g.H.Disk.Disk.bytes g.H.Disk.Disk.faults g.H.Disk.Disk.faults_at_fetch g.H.Disk.Disk.home g.H.Disk.Disk.image g.H.Disk.Disk.sound c.args.names.now
    c.in-Ok.disks.items d.result.1.items (saw c.args.shelf.now) (saw c.fetch_images.new.shelf) (saw c.give_back_images.new.shelf) = record {
      apart = c.requires.names.names;
      at_home = λ tells. all_true (λ name. ¬ g.H.Shelf.out c.args.shelf.now name) c.args.names.now (c.requires.home tells);
      one_old = g.met.H.Shelf.one_image c.args.shelf.now;
      one_new = g.met.H.Shelf.one_image c.give_back_images.new.shelf;
      all = c.in-Ok.ensures.all;
      fresh = c.in-Ok.ensures.fresh;
      told = c.in-Ok.ensures.told;
      lawful = c.in-Ok.ensures.lawful_told;
      fetches = c.in-Ok.ensures.fetches.0;
      last = c.in-Ok.ensures.size;
      steady = c.in-Ok.ensures.steady;
      disks_steady = c.in-Ok.ensures.disk_faults;
      still = c.in-Ok.ensures.tells.0;
      same = d.ensures.same;
      back = back.home;
      back_fetches = back.fetches;
      back_last = back.size;
      back_faults = back.faults;
      rose = back.rose;
      unrisen = back.same;
    } in
    trip_keeps trip tells

pub returns-in-Ok-clause-left : goal.returns-in-Ok-clause-left
returns-in-Ok-clause-left g c plain ending is tells =
    let d = c.run_in_mode-outcome in
    let still = c.in-Ok.ensures.tells.0 tells in
    let out = trip_out g.H.Disk.Disk.bytes g.H.Disk.Disk.faults g.H.Disk.Disk.faults_at_fetch g.H.Disk.Disk.home g.H.Disk.Disk.image g.H.Disk.Disk.sound c.args.names.now
    c.in-Ok.disks.items d.result.1.items (g.H.Shelf.image c.args.shelf.now) (g.H.Shelf.image c.fetch_images.new.shelf)
    (g.H.Shelf.out c.args.shelf.now) (g.H.Shelf.out c.fetch_images.new.shelf) c.requires.names.names (c.in-Ok.ensures.told tells) d.ensures.same in
    record {
      disks = d.result.1.items;
      images = out.0;
      left = d.ensures.left plain ending is;
      told = out.1.told;
      stored = (c.give_back_images.ensures.home still c.args.names.now out.0 out.1).told;
      kept = (c.give_back_images.ensures.stable_home still c.args.names.now out.0 out.1).each;
    }

pub returns-in-Ok-clause-sound : goal.returns-in-Ok-clause-sound
returns-in-Ok-clause-sound g c all =
    let saw = shelf_by g.H.Shelf.tells g.H.Shelf.image g.H.Shelf.out g.H.Shelf.faults g.H.Shelf.disk_faults g.H.Shelf.fetches g.H.Shelf.returns g.H.Shelf.last_size in
    let d = c.run_in_mode-outcome in
    let back = c.give_back_images.ensures in
    let trip : Trip g.H.Disk.Disk.bytes g.H.Disk.Disk.faults g.H.Disk.Disk.faults_at_fetch g.H.Disk.Disk.home g.H.Disk.Disk.image g.H.Disk.Disk.sound c.args.names.now
    c.in-Ok.disks.items d.result.1.items (saw c.args.shelf.now) (saw c.fetch_images.new.shelf) (saw c.give_back_images.new.shelf) = record {
      apart = c.requires.names.names;
      at_home = λ tells. all_true (λ name. ¬ g.H.Shelf.out c.args.shelf.now name) c.args.names.now (c.requires.home tells);
      one_old = g.met.H.Shelf.one_image c.args.shelf.now;
      one_new = g.met.H.Shelf.one_image c.give_back_images.new.shelf;
      all = c.in-Ok.ensures.all;
      fresh = c.in-Ok.ensures.fresh;
      told = c.in-Ok.ensures.told;
      lawful = c.in-Ok.ensures.lawful_told;
      fetches = c.in-Ok.ensures.fetches.0;
      last = c.in-Ok.ensures.size;
      steady = c.in-Ok.ensures.steady;
      disks_steady = c.in-Ok.ensures.disk_faults;
      still = c.in-Ok.ensures.tells.0;
      same = d.ensures.same;
      back = back.home;
      back_fetches = back.fetches;
      back_last = back.size;
      back_faults = back.faults;
      rose = back.rose;
      unrisen = back.same;
    } in
    let s = c.in-Ok.ensures.sound all in
    let stay = stay_sound g.H.Disk.Disk.sound g.H.Disk.Disk.faults c.in-Ok.disks.items d.result.1.items d.ensures.same.stay (c.in-Ok.ensures.sound_disks all) in
    (back.faults ∙ s.0, trip_steady trip stay.1, λ name h. back.sound stay.0 name (s.2 name h))

pub returns-in-Ok-clause-back : goal.returns-in-Ok-clause-back
returns-in-Ok-clause-back g c =
    let d = c.run_in_mode-outcome in
    let back = c.give_back_images.ensures in
    let len : length d.result.1.items ≡ length c.args.names.now =
    used_length g.H.Disk.Disk.bytes c.in-Ok.disks.items d.result.1.items d.ensures.same.sizes ∙ c.in-Ok.ensures.all in
    record {
      times = length c.args.names.now;
      fetched = back.fetches ∙ c.in-Ok.ensures.fetches.0;
      returned = back.returns ∙ (ap (λ (n : ℕ). counted_times n (g.H.Shelf.returns c.fetch_images.new.shelf)) len
          ∙ ap (λ (n : ℕ). counted_times (length c.args.names.now) n) c.in-Ok.ensures.fetches.1);
    }

pub returns-in-Err-Failed-clause-outcome : goal.returns-in-Err-Failed-clause-outcome
returns-in-Err-Failed-clause-outcome g c =
    let leaf = c.in-Err-Failed.leaf in
    let is = ap (λ (f : ImagesFault). Err f) c.in-Err-Failed.field-0-is in
    let failed = c.in-Err-Failed.ensures.failed leaf is in
    rw c.in-Err-Failed.leaf-is (
      inl (record { there = failed.1; rose = failed.0; fetches = failed.2; before = c.in-Err-Failed.ensures.failed_told leaf is }),
      record { disk_faults = c.in-Err-Failed.ensures.disk_faults; home = c.in-Err-Failed.ensures.stays },
      refl,
    )

pub returns-in-Err-Size-clause-outcome : goal.returns-in-Err-Size-clause-outcome
returns-in-Err-Size-clause-outcome g c =
    let leaf = c.in-Err-Size.leaf in
    let is = ap (λ (f : ImagesFault). Err f) c.in-Err-Size.field-0-is in
    let unlawful = c.in-Err-Size.ensures.unlawful leaf is in
    rw c.in-Err-Size.leaf-is (
      inr (inl (record {
        there = unlawful.1;
        steady = unlawful.0;
        fetches = unlawful.2;
        size = unlawful.3;
        first = c.in-Err-Size.ensures.unlawful_told leaf is;
      })),
      record { disk_faults = c.in-Err-Size.ensures.disk_faults; home = c.in-Err-Size.ensures.stays },
      refl,
    )

pub returns-in-Err-Memory-clause-outcome : goal.returns-in-Err-Memory-clause-outcome
returns-in-Err-Memory-clause-outcome g c =
    inr (
      refl,
      record {
        nothing = λ x. (λ h. h, λ h. h);
        untouched = record { disk_faults = c.in-Err-Memory.ensures.disk_faults; home = c.in-Err-Memory.ensures.stays };
        unentered = refl;
      },
    )

pub returns-in-Err-Failed-clause-home : goal.returns-in-Err-Failed-clause-home
returns-in-Err-Failed-clause-home g c tells =
    KeepOthers-stays c.args.names.now (g.H.Shelf.image c.args.shelf.now) (g.H.Shelf.image c.fetch_images.new.shelf)
    (g.H.Shelf.out c.args.shelf.now) (g.H.Shelf.out c.fetch_images.new.shelf) (c.in-Err-Failed.ensures.stays tells)

pub returns-in-Err-Size-clause-home : goal.returns-in-Err-Size-clause-home
returns-in-Err-Size-clause-home g c tells =
    KeepOthers-stays c.args.names.now (g.H.Shelf.image c.args.shelf.now) (g.H.Shelf.image c.fetch_images.new.shelf)
    (g.H.Shelf.out c.args.shelf.now) (g.H.Shelf.out c.fetch_images.new.shelf) (c.in-Err-Size.ensures.stays tells)

pub returns-in-Err-Memory-clause-home : goal.returns-in-Err-Memory-clause-home
returns-in-Err-Memory-clause-home g c tells =
    KeepOthers-stays c.args.names.now (g.H.Shelf.image c.args.shelf.now) (g.H.Shelf.image c.fetch_images.new.shelf)
    (g.H.Shelf.out c.args.shelf.now) (g.H.Shelf.out c.fetch_images.new.shelf) (c.in-Err-Memory.ensures.stays tells)

pub returns-in-Err-Failed-clause-sound : goal.returns-in-Err-Failed-clause-sound
returns-in-Err-Failed-clause-sound g c all = let s = c.in-Err-Failed.ensures.sound all in (s.0, c.in-Err-Failed.ensures.disk_faults, s.2)

pub returns-in-Err-Size-clause-sound : goal.returns-in-Err-Size-clause-sound
returns-in-Err-Size-clause-sound g c all = let s = c.in-Err-Size.ensures.sound all in (s.0, c.in-Err-Size.ensures.disk_faults, s.2)

pub returns-in-Err-Memory-clause-sound : goal.returns-in-Err-Memory-clause-sound
returns-in-Err-Memory-clause-sound g c all = let s = c.in-Err-Memory.ensures.sound all in (s.0, c.in-Err-Memory.ensures.disk_faults, s.2)
