-- The text of a path, step by step.
use Rattle.std.proofs.Common.{◌≡◌, ℕ, List, [], ◌∷◌, ◌++◌, decimal, codes, ap, sym, ◌∙◌, append_assoc}
use Rattle.std.proofs.lemmas.List.{append-nil}
use Rattle.std.specs.List.{flat_map}
use Rattle.zio_report.specs.Lines.{joined_steps, path_text}

-- a point before each step but the first
joined_steps-points : (first : ℕ) (rest : List ℕ) → joined_steps (first ∷ rest) ≡ decimal first ++ flat_map (λ step. 46 ∷ decimal step) rest
joined_steps-points first [] = sym (append-nil (decimal first))
joined_steps-points first (next ∷ rest) =
    append_assoc (decimal first) (codes ".") (joined_steps (next ∷ rest))
    ∙ ap (λ text. decimal first ++ 46 ∷ text) (joined_steps-points next rest)

pub path_text-points : (steps : List ℕ) (first : ℕ) (rest : List ℕ) → steps ≡ first ∷ rest
    → path_text steps ≡ decimal first ++ flat_map (λ step. 46 ∷ decimal step) rest
path_text-points steps first rest e = ap path_text e ∙ joined_steps-points first rest
