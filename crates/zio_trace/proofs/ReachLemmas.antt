-- What a task in its place may do.
use Rattle.std.proofs.Common.{◌≡◌, ℕ, List, [], ◌∷◌, ◌++◌, ◌⊎◌, inl, inr, refl, ◌∙◌, append_assoc}
use Rattle.zio_types.specs.Choices.{Choice}
use Rattle.zio_gang.specs.Attempts.{Terms}
use Rattle.zio_trace.specs.Engines.{MayDo}
use Rattle.zio_trace.specs.Footprints.{Within}
use Rattle.zio_trace.specs.Labels.{IsIn, Labelled}
use Rattle.zio_trace.specs.Tasks.{Task}

-- a single operation does itself
pub own_reach : (j : List Choice) (t : Terms) (x : Labelled Task) → Within j t x.op x.op → MayDo j t x x
own_reach j t x own = record { within = own; at = inl refl }

at_below : (at : List ℕ) (n : ℕ) (op : Task) (d : Labelled Task)
    → (d ≡ record { at = at ++ n ∷ []; op = op }) ⊎ ((m : ℕ) × (below : List ℕ) × IsIn (at ++ n ∷ []) m below d.at)
    → (m : ℕ) × (below : List ℕ) × IsIn at m below d.at
at_below at n op d (inl e) = (n, [], (λ i. (e i).at))
at_below at n op d (inr h) = (n, h.0 ∷ h.1, h.2 ∙ append_assoc at (n ∷ []) (h.0 ∷ h.1))

-- what a part does, the whole does
pub reach_below : (j : List Choice) (t : Terms) (x : Labelled Task) (n : ℕ) (op : Task) → ((b : Task) → Within j t op b → Within j t x.op b)
    → (d : Labelled Task) → MayDo j t (record { at = x.at ++ n ∷ []; op = op }) d → MayDo j t x d
reach_below j t x n op stays d h = record { within = stays d.op h.within; at = inr (at_below x.at n op d h.at) }
