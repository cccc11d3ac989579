use Rattle.std.proofs.Common.{List, ℕ, ap, sym, ◌∙◌, refl, subst, Some}
use Rattle.zio_outside.specs.MemoryShelf.{shelf_slot}
use Rattle.zio_outside.proofs.SlotLemmas.{at_home-some}
use Rattle.zio_outside.proofs.ShelfLemmas.{GoesOut-from_change, KeptGoesOut-from_change, KeptStays-equal, StaysHome-equal, kept_handed, same_slots, sound_at_home}
use Rattle.zio_outside.proofs.mem_shelf.MemShelfShelf.fetch.Goals as goal

pub returns-in-Some-take_disk-clause-disk : goal.returns-in-Some-take_disk-clause-disk
returns-in-Some-take_disk-clause-disk g c =
    let was = c.in-Some-take_disk.disk in
    let out = c.go_out.new.self in
    let bytes = g.D.ShelfDisk.content was in
    let found = at_home-some _ was c.in-Some-take_disk.ensures.was in (
      bytes,
      (was, found, (g.met.D.ShelfDisk.tells_image was bytes).1 refl),
      (g.met.D.ShelfDisk.tells_image out bytes).1 (sym c.go_out.ensures.content),
      (g.met.D.ShelfDisk.tells_home out c.args.name.now).1 (c.go_out.ensures.home ∙ ap Some c.in-Some.ensures),
    )

pub returns-in-Some-take_disk-clause-out : goal.returns-in-Some-take_disk-clause-out
returns-in-Some-take_disk-clause-out g c =
    GoesOut-from_change g.D.Disk.image _ _ _ c.in-Some-take_disk.disk (at_home-some _ _ c.in-Some-take_disk.ensures.was) (c.in-Some-take_disk.ensures.some refl)

pub returns-in-Some-take_disk-clause-stable : goal.returns-in-Some-take_disk-clause-stable
returns-in-Some-take_disk-clause-stable g c =
    let was = c.in-Some-take_disk.disk in
    kept_handed g.D.Disk.keeps (shelf_slot c.args.self.now) c.args.name.now was c.go_out.new.self (at_home-some _ was c.in-Some-take_disk.ensures.was) c.go_out.ensures.stable

pub returns-in-Some-take_disk-clause-stable_out : goal.returns-in-Some-take_disk-clause-stable_out
returns-in-Some-take_disk-clause-stable_out g c =
    KeptGoesOut-from_change g.D.Disk.keeps _ _ _ (c.in-Some-take_disk.ensures.some refl)

pub returns-in-Some-take_disk-clause-handed : goal.returns-in-Some-take_disk-clause-handed
returns-in-Some-take_disk-clause-handed g c =
    let was = c.in-Some-take_disk.disk in (
      was,
      at_home-some _ was c.in-Some-take_disk.ensures.was,
      subst (λ (name : List ℕ). g.D.ShelfDisk.handed_out was c.go_out.new.self name) c.in-Some.ensures c.go_out.ensures.handed,
    )

pub returns-in-None-clause-home : goal.returns-in-None-clause-home
returns-in-None-clause-home g c = StaysHome-equal g.D.Disk.image _ _ (same_slots _ _ c.in-None.ensures.none)

pub returns-in-None-clause-stable_home : goal.returns-in-None-clause-stable_home
returns-in-None-clause-stable_home g c = KeptStays-equal g.D.Disk.keeps _ _ (same_slots _ _ c.in-None.ensures.none)

pub returns-in-None-clause-sound : goal.returns-in-None-clause-sound
returns-in-None-clause-sound g c sound =
    absurd (sound_at_home g.D.Disk.sound _ c.in-None.ensures.was c.requires sound.kept)
