-- The rule of a book, over its table. Word 0 counts the tickets that were drawn, word 1 those that were served, and word 2 is the length of the history. The one slot has the held value with its history.
use Rattle.std.specs.Prelude.{◌≡◌, ℕ, ◌+◌, ◌%◌, ◌^◌, ◌<◌, ◌≤◌, ◌⊎◌, List, [], ◌∷◌, ◌++◌, length, All, Option, Some, slice_get}
use mathlib.Core.Option.{some, none}
use mathlib.Core.Option.{Option as Home}
use lib.ListN.{get_elem?}
use Rattle.atomic_table.specs.Table.{State, Me, Step, rest}
use Rattle.zio_book.specs.declared.view.View.{View}
use Rattle.zio_book.specs.declared.view.WithHistory.{WithHistory}
use Rattle.zio_book.specs.declared.view.Birth.{Birth}
use Rattle.zio_book.specs.History.{Leads, total, times, once_below, Follows}

-- the first item alone
abbrev pub first_of : {A : Type 0} → List A → List A
first_of [] = []
first_of (x ∷ xs) = x ∷ []

module _ {H N : Type 0} where
  -- a seat that has no ticket and is so many passes, with these acts and claims
  abbrev pub idle : ℕ → List (ℕ × N) → List (List N × N) → Option H → View H N
  idle passes acts claims first = record { passes = passes; busy = 0; inside = 0; ticket = 0; log = []; acts = acts; claims = claims; first = first }

  -- a seat with a ticket, and one with the held value and the history log
  abbrev pub waiting : View H N → ℕ → View H N
  waiting v t = record { passes = v.passes; busy = 1; inside = 0; ticket = t; log = []; acts = v.acts; claims = v.claims; first = v.first }

  abbrev pub inside : View H N → List N → View H N
  inside v log = record { passes = v.passes; busy = 1; inside = 1; ticket = v.ticket; log = log; acts = v.acts; claims = v.claims; first = v.first }

  -- the seat after its act, of which the note is the last of the log
  abbrev pub acted : View H N → N → View H N
  acted v n = record { passes = v.passes; busy = v.busy; inside = v.inside; ticket = v.ticket; log = v.log ++ n ∷ []; acts = v.acts ++ (length v.log, n) ∷ []; claims = (v.log, n) ∷ v.claims; first = v.first }

  -- what one seat knows, where these tickets were drawn and served and this is the history
  pub record Knows (first : H) (log : List N) (served drawn : ℕ) (v : View H N) : Type 0 where
    pub passes : v.busy ≤ v.passes
    pub mine : v.passes ≡ 0 → v.acts ≡ []
    pub in_turn : 0 < v.busy → (served ≤ v.ticket) × (v.ticket < drawn)
    pub within : 0 < v.inside → (0 < v.busy) × (v.ticket ≡ served) × (v.log ≡ log)
    pub acts : All (λ (a : ℕ × N). slice_get log a.0 ≡ Some a.1) v.acts
    pub claims : All (λ (c : List N × N). Follows log c.0 c.1) v.claims
    pub first_is : (h : H) → v.first ≡ Some h → h ≡ first

  -- the held value is at home, with the history
  pub record IsFree (gives : H → N → H → Type 0) (first : H) (log : List N) (homes : List (Home (Option (WithHistory H N)))) (views : List (View H N)) : Type 0 where
    pub kept : WithHistory H N
    pub home : homes ≡ some (Some kept) ∷ []
    pub notes : kept.notes.items ≡ log
    pub leads : Leads gives first log kept.held
    pub nobody : (port : ℕ) (v : View H N) → get_elem? views port ≡ some v → v.inside ≡ 0

  -- it is with a seat
  pub record IsTaken (homes : List (Home (Option (WithHistory H N)))) (views : List (View H N)) : Type 0 where
    pub home : homes ≡ none ∷ []
    pub port : ℕ
    pub view : View H N
    pub at : get_elem? views port ≡ some view
    pub has : view.inside ≡ 1

  pub record Booked (gives : H → N → H → Type 0) (about : Birth H) (s : State (Option (WithHistory H N)) (View H N)) : Type 0 where
    pub log : List N
    pub drawn : ℕ
    pub served : ℕ
    pub words : s.words ≡ drawn % 2 ^ 64 ∷ served % 2 ^ 64 ∷ length log ∷ []
    pub few : about.passes < 2 ^ 64
    pub order : served + total (λ (v : View H N). v.busy) s.views ≡ drawn
    pub passes : total (λ (v : View H N). v.passes) s.views ≡ about.passes
    pub each : (port : ℕ) (v : View H N) → get_elem? s.views port ≡ some v → Knows about.first.value log served drawn v
    pub apart : (i j : ℕ) (v w : View H N) → get_elem? s.views i ≡ some v → get_elem? s.views j ≡ some w → 0 < v.busy → 0 < w.busy → v.ticket ≡ w.ticket → i ≡ j
    pub once : (k : ℕ) → total (λ (v : View H N). times k v.acts) s.views ≡ once_below k (length log)
    pub door : IsFree gives about.first.value log s.homes s.views ⊎ IsTaken s.homes s.views

  -- what a draw tells: a ticket, whose word was found
  abbrev pub Draws : Step (Option (WithHistory H N)) → Me (Option (WithHistory H N)) (View H N) → ℕ → Me (Option (WithHistory H N)) (View H N) → Type 0
  Draws st m r m' = (t : ℕ) × (m' ≡ (waiting m.0 t, m.1)) × (r ≡ t % 2 ^ 64)

  -- what a look tells: it is this seat's turn, and the held value is with it, or nothing changed
  abbrev pub Enters : (H → N → H → Type 0) → Me (Option (WithHistory H N)) (View H N) → Me (Option (WithHistory H N)) (View H N) → Type 0
  Enters gives m m' = (kept : WithHistory H N) × (m' ≡ (inside m.0 kept.notes.items, (0, Some kept) ∷ m.1)) × ((h : H) → m.0.first ≡ Some h → Leads gives h kept.notes.items kept.held)

  abbrev pub Looks : (H → N → H → Type 0) → Step (Option (WithHistory H N)) → Me (Option (WithHistory H N)) (View H N) → ℕ → Me (Option (WithHistory H N)) (View H N) → Type 0
  Looks gives st m r m' = (r ≡ m.0.ticket % 2 ^ 64 → Enters gives m m') × (¬ (r ≡ m.0.ticket % 2 ^ 64) → m' ≡ m)

  -- what a count tells: the number is the length of the history, which is above each number that the seat knows
  abbrev pub Counts : Step (Option (WithHistory H N)) → Me (Option (WithHistory H N)) (View H N) → ℕ → Me (Option (WithHistory H N)) (View H N) → Type 0
  Counts st m r m' =
      (kept : WithHistory H N) × (n : N) × (m.1 ≡ (0, Some kept) ∷ []) × (kept.notes.items ≡ m.0.log ++ n ∷ []) × (m' ≡ (acted m.0 n, m.1)) × (r ≡ length m.0.log)
      × All (λ (a : ℕ × N). a.0 < r) m.0.acts × All (λ (c : List N × N). length c.0 < r) m.0.claims

  -- what serving the next tells: the seat has no ticket any more, and the value is at home
  abbrev pub Serves : Step (Option (WithHistory H N)) → Me (Option (WithHistory H N)) (View H N) → ℕ → Me (Option (WithHistory H N)) (View H N) → Type 0
  Serves st m r m' = m' ≡ (idle m.0.passes m.0.acts m.0.claims m.0.first, rest m.1)
