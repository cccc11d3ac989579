use Rattle.std.proofs.Common.{◌≡◌, ◌++◌, string_bytes, take, decimal}
use Rattle.std.specs.List.{flat_map}
use Rattle.zio_types.specs.declared.journal.Completion.{Completion}
use Rattle.zio_report.specs.Lines.{spaced}
use Rattle.zio_report.proofs.journal.order_line.Given as goal

abbrev pub invariant-loop-completion : goal.invariant-loop-completion
invariant-loop-completion l =
    string_bytes l.out
    ≡ string_bytes l.initial.out ++ flat_map (λ (d : Completion). spaced (decimal d.request)) (take l.completion-index l.completions)
