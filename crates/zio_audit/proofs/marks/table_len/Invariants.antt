use Rattle.std.proofs.Common.{take, ◌<◌}
use Rattle.std.specs.List.{All}
use Rattle.zio_types.specs.declared.journal.Completion.{Completion}
use Rattle.zio_audit.proofs.marks.table_len.Given as goal

abbrev pub invariant-loop-completion : goal.invariant-loop-completion
invariant-loop-completion l = All (λ (c : Completion). c.request < l.len) (take l.completion-index l.due)
