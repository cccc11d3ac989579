use Rattle.std.proofs.Common.{◌≡◌, ◌++◌, string_bytes, take}
use Rattle.std.specs.List.{flat_map}
use Rattle.zio_report.specs.Lines.{choice_text}
use Rattle.zio_report.proofs.journal.journal_lines.Given as goal

abbrev pub invariant-loop-entry : goal.invariant-loop-entry
invariant-loop-entry l =
    string_bytes l.out ≡ string_bytes l.initial.out ++ flat_map choice_text (take l.entry-index l.entries)
