-- Histories, and what is counted in them.
pub use Rattle.zio_types.specs.Totals.{total}
use Rattle.zio_book.specs.declared.view.WithHistory.{WithHistory}
use Rattle.std.specs.Prelude.{◌≡◌, ℕ, ◌+◌, Option, Some, None, cond, eqb, ltb, List, [], ◌∷◌, ◌++◌, All}

-- the notes, one by one, lead from the state s to the state t
abbrev pub Leads : {H N : Type 0} → (H → N → H → Type 0) → H → List N → H → Type 0
Leads gives s [] t = s ≡ t
Leads {H} gives s (n ∷ ns) t = (u : H) × gives s n u × Leads gives u ns t

-- how often an act has the number k
abbrev pub times : {A : Type 0} → ℕ → List (ℕ × A) → ℕ
times k acts = total (λ a. cond (eqb k a.0) 1 0) acts

-- 1 for a number below n
abbrev pub once_below : ℕ → ℕ → ℕ
once_below k n = cond (ltb k n) 1 0

-- the log has the note at the end of what stood before it
abbrev pub Follows : {N : Type 0} → List N → List N → N → Type 0
Follows {N} log before note = (rest : List N) × (log ≡ before ++ note ∷ rest)

-- the slot holds this value
abbrev pub SlotHas : {H N : Type 0} → Option (WithHistory H N) → H → Type 0
SlotHas None h = ⊥
SlotHas (Some kept) h = h ≡ kept.held

-- each claim is a note of the log with what stood before it
abbrev pub AllFollow : {N : Type 0} → List N → List (List N × N) → Type 0
AllFollow {N} log claims = All (λ (c : List N × N). Follows log c.0 c.1) claims
