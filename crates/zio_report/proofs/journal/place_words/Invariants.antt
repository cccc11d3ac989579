use Rattle.std.proofs.Common.{◌≡◌, ◌++◌, string_bytes, take}
use Rattle.std.specs.List.{flat_map}
use Rattle.zio_report.specs.Lines.{place_text}
use Rattle.zio_report.proofs.journal.place_words.Given as goal

abbrev pub invariant-loop-place : goal.invariant-loop-place
invariant-loop-place l =
    string_bytes l.out ≡ string_bytes l.initial.out ++ flat_map place_text (take l.place-index l.places)
