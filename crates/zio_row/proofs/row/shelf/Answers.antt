use Rattle.std.proofs.Common.{◌≡◌, ◌≢◌, ℕ, List, Option, Some, None, sym, ap, ◌∙◌}
use Rattle.std.specs.Prelude.{codes}
use Rattle.zio_outside.specs.MemoryShelf.{ChangesOnly}
use Rattle.zio_outside.specs.declared.mem_disk.MemDisk.{MemDisk}
use Rattle.zio_row.proofs.row.shelf.Goals as goal

-- the slots of a shelf on which one disk was put
record OnlyOne (slots : List ℕ → Option (Option MemDisk)) (disk : MemDisk) : Type 0 where
  home : slots (codes "a") ≡ Some (Some disk)
  others : (other : List ℕ) → other ≢ codes "a" → slots other ≡ None

only_one : (old new : List ℕ → Option (Option MemDisk)) (name : List ℕ) (disk : MemDisk) → name ≡ codes "a" → ((other : List ℕ) → old other ≡ None)
    → ChangesOnly old new name (Some disk) → OnlyOne new disk
only_one old new name disk is none change = record {
  home = ap new (sym is) ∙ change.changed;
  others = λ other apart. change.others other (λ e. apart (e ∙ is)) ∙ none other;
}

pub returns-in-Ok : goal.returns-in-Ok
returns-in-Ok c =
    let name : c.from_string-name.result ≡ codes "a" = c.from_string-name.ensures ∙ c.in_ok-from_str.ensures.ok in
    let only = only_one _ _ c.from_string-name.result c.new-3.result name c.new-shelf.ensures.slots c.in-Ok.ensures.ok in
    record {
      disk = c.new-3.result;
      home = only.home;
      others = only.others;
      stored = c.new-3.ensures.image ∙ c.in_ok-image.ensures;
      disk_steady = c.new-3.ensures.fails ∙ c.new-2.ensures;
      disk_faultless = c.new-3.ensures.faults;
      steady = c.in-Ok.ensures.fails ∙ (c.new-shelf.ensures.fails ∙ c.new.ensures);
      faultless = c.in-Ok.ensures.faults ∙ c.new-shelf.ensures.faults;
      disks_faultless = c.in-Ok.ensures.disk_faults ∙ c.new-shelf.ensures.disk_faults;
    }
