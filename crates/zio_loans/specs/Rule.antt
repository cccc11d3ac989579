-- The rule of loans, over their table. It has one word, which never changes, and no slot: what is lent is known in the seats' views alone.
use Rattle.std.specs.Prelude.{◌≡◌, ◌≢◌, ℕ, ◌≤◌, ◌==◌, true, false, if◌then◌else◌, List, [], ◌∷◌, ◌++◌, length, All, Option, Some, None, take, drop, slice_set, sum_by, count_by}
use mathlib.Core.Option.{some}
use lib.ListN.{get_elem?}
use Rattle.atomic_table.specs.Table.{State, Me, Step}
use Rattle.zio_loans.specs.declared.view.View.{View}
use Rattle.zio_loans.specs.Out.{IsOut}

module _ {T : Type 0} where
  -- who lends, with all that was lent so far and nothing in hand
  abbrev pub lender : List (Option T) → View T
  lender out = record { lends = true; out = out; hands = [] }

  -- the same with one loan in hand, before it goes out or as it comes back
  abbrev pub lending : List (Option T) → ℕ → T → View T
  lending out n x = record { lends = true; out = out; hands = (n, x) ∷ [] }

  -- who has these loans
  abbrev pub holder : List (ℕ × T) → View T
  holder hands = record { lends = false; out = []; hands = hands }

  -- what came into the hands last, alone, and the view without it
  abbrev pub first_hand : View T → View T
  first_hand v = holder (take 1 v.hands)

  abbrev pub without_first : View T → View T
  without_first v = record { lends = v.lends; out = v.out; hands = drop 1 v.hands }

  -- the view with another's hands before its own
  abbrev pub with_hands : View T → View T → View T
  with_hands v w = record { lends = v.lends; out = v.out; hands = w.hands ++ v.hands }

  -- 1 for a view that lends
  abbrev pub lends_in : View T → ℕ
  lends_in v = if v.lends then 1 else 0

  -- how often a number is in a view's hands
  abbrev pub times_in : ℕ → View T → ℕ
  times_in n v = count_by (λ (h : ℕ × T). n == h.0) v.hands

  -- a view knows what is out where it lends, and what it has in hand is out
  abbrev pub Knows : List (Option T) → View T → Type 0
  Knows out v = (v.lends ≡ true → v.out ≡ out) × All (λ (h : ℕ × T). IsOut out h.0 h.1) v.hands

  -- One list has all that is out, which each view knows. At most one lends, and no number is twice in all hands
  pub record Loaned (views : List (View T)) : Type 0 where
    pub out : List (Option T)
    pub each : (port : ℕ) (v : View T) → get_elem? views port ≡ some v → Knows out v
    pub alone : sum_by lends_in views ≤ 1
    pub once : (n : ℕ) → sum_by (times_in n) views ≤ 1

  abbrev pub Lent : State T (View T) → Type 0
  Lent s = Loaned s.views

  -- what lending tells: the value that the step says is out, under the next number, and in hand
  abbrev pub Lends : Step T → Me T (View T) → ℕ → Me T (View T) → Type 0
  Lends st m r m' = (x : T) → st.said ≡ some x → m' ≡ (lending (m.0.out ++ Some x ∷ []) (length m.0.out) x, m.1)

  -- what settling tells: the one in hand was out, and now it is struck out
  abbrev pub Settles : Step T → Me T (View T) → ℕ → Me T (View T) → Type 0
  Settles st m r m' = (n : ℕ) (x : T) → m.0.hands ≡ (n, x) ∷ [] → IsOut m.0.out n x × (m' ≡ (lender (slice_set m.0.out n None), m.1))

  -- what comparing tells: the two in hand have different numbers, and nothing changed
  abbrev pub Compares : Step T → Me T (View T) → ℕ → Me T (View T) → Type 0
  Compares st m r m' = (m' ≡ (m.0, m.1)) × ((n k : ℕ) (x y : T) → m.0.hands ≡ (k, y) ∷ (n, x) ∷ [] → n ≢ k)
