use Rattle.std.proofs.Common.{◌≡◌, List, ℕ, sym, ◌∙◌, subst, Some, None}
use Rattle.zio_outside.specs.MemoryShelf.{slot_of}
use Rattle.zio_outside.specs.declared.calls.Calls.{Calls}
use Rattle.zio_outside.specs.Memory.{IsSteady}
use Rattle.zio_outside.proofs.ShelfLemmas.{ComesHome-from_change, IsSoundUnder-after_change, KeptComesHome-from_change, change_after, only_name, same_calls, same_disk_faults, same_vec}
use Rattle.zio_outside.proofs.mem_shelf.MemShelfShelf.give_back.Goals as goal

pub returns-clause-change : goal.returns-clause-change
returns-clause-change g c name home =
    change_after _ _ _ name _ (same_vec _ _ c.count_faults_of.ensures.slots) (c.put_home.ensures.change name home)

pub returns-clause-home : goal.returns-clause-home
returns-clause-home g c name bytes home told =
    let change = change_after _ _ _ name _ (same_vec _ _ c.count_faults_of.ensures.slots) (c.put_home.ensures.change name home) in
    let there = (g.met.D.ShelfDisk.tells_home c.args.disk c.requires.0).0 c.requires.1 in
    let named = (g.met.D.ShelfDisk.tells_home c.args.disk name).0 home in
    let same : c.requires.0 ≡ name = only_name (g.D.ShelfDisk.home_name c.args.disk) c.requires.0 name there named in
    let was : slot_of c.args.self.now.slots.items name ≡ Some None =
    subst (λ (n : List ℕ). slot_of c.args.self.now.slots.items n ≡ Some None) same c.requires.2 in
    ComesHome-from_change g.D.Disk.image _ _ name bytes c.args.disk told (λ x other. g.met.D.Disk.one_image c.args.disk x bytes other told) change was

pub returns-clause-stable_home : goal.returns-clause-stable_home
returns-clause-stable_home g c name home =
    let change = change_after _ _ _ name _ (same_vec _ _ c.count_faults_of.ensures.slots) (c.put_home.ensures.change name home) in
    KeptComesHome-from_change g.D.Disk.keeps _ _ name c.args.disk change

pub returns-clause-sound : goal.returns-clause-sound
returns-clause-sound g c sound name was =
    let home = c.requires.0 in
    let change = change_after _ _ _ home _ (same_vec _ _ c.count_faults_of.ensures.slots) (c.put_home.ensures.change home c.requires.1) in
    let kept = c.count_faults_of.ensures.kept (g.met.D.ShelfDisk.sound_unfailed c.args.disk sound) in
    let calls : c.put_home.new.self.calls ≡ c.args.self.now.calls =
    same_calls _ _ c.put_home.ensures.same ∙ c.count_faults_of.ensures.calls in
    record {
      steady = subst (λ (k : Calls). IsSteady k.fails k.faults) (sym calls) was.steady;
      disks = same_disk_faults _ _ c.put_home.ensures.same ∙ (kept ∙ was.disks);
      kept = IsSoundUnder-after_change g.D.Disk.sound _ _ home name _ change sound was.kept;
    }
