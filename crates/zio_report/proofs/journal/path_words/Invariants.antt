use Rattle.std.proofs.Common.{◌≡◌, ◌++◌, ◌∷◌, string_bytes, take, decimal}
use Rattle.std.specs.List.{flat_map}
use Rattle.zio_report.proofs.journal.path_words.Given as goal

-- each further step has a point before it
abbrev pub invariant-loop-step : goal.invariant-loop-step
invariant-loop-step l = string_bytes l.out ≡ string_bytes l.initial.out ++ flat_map (λ step. 46 ∷ decimal step) (take l.step-index l.rest)
