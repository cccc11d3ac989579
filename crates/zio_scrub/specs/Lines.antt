-- The line of a scrub, and how one ends that writes it.
use Rattle.std.specs.Prelude.{List, ◌++◌, ℕ, length, codes, decimal, Result, Ok, Err}
use Rattle.zio_disks.specs.declared.setting.Stop.{Stop}
use Rattle.zio_disks.specs.declared.setting.Stop.TheVariants.{Device as DiskFailed, Memory as NoMemory}
use Rattle.zio_gang.specs.declared.tree.Tree.{Tree}
use Rattle.zio_report.specs.declared.report.RunFault.{RunFault}
use Rattle.zio_report.specs.declared.report.RunFault.TheVariants.{Device, Sink, Memory}
use Rattle.zio_report.specs.Lines.{as_line}
use Rattle.zio_scrub.specs.declared.ending.ScrubEnd.{ScrubEnd}
use Rattle.zio_scrub.specs.Scrubs.{Scrubbed}

-- what a scrub came to
abbrev pub line_of : ScrubEnd → List ℕ
line_of end =
    as_line (codes "scrub blocks " ++ decimal end.blocks ++ codes " copies " ++ decimal end.copies ++ codes " repaired " ++ decimal end.repaired
    ++ codes " failed " ++ decimal end.failed ++ codes " lost " ++ decimal end.lost)

-- the line of the blocks of these trees, by the definition's numbers
abbrev pub scrub_line : List Tree → Scrubbed → List ℕ
scrub_line trees scrubbed = line_of (record {
  blocks = length trees;
  copies = scrubbed.copies;
  repaired = scrubbed.repaired;
  failed = scrubbed.failed;
  lost = scrubbed.lost;
})

-- the fault of a scrub that was stopped
abbrev pub fault_of : Stop → RunFault
fault_of DiskFailed = Device
fault_of NoMemory = Memory

-- how it ended for the disks, which a failing sink doesn't touch
abbrev pub on_disks : Result (Unit {0}) RunFault → Result (Unit {0}) Stop
on_disks (Ok x) = Ok x
on_disks (Err Device) = Err DiskFailed
on_disks (Err Sink) = Ok tt
on_disks (Err Memory) = Err NoMemory
