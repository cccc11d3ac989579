-- A change of a place, and of each node above it in turn.
use Rattle.std.proofs.Common.{◌≡◌, ◌⊎◌, inl, inr, ℕ, ◌+◌, ◌*◌, ◌/◌, ◌<◌, ◌≤◌, ◌∙◌, List, length, drop, slice_index, slice_set, refl, ap, sym, arith, length-set}
use Rattle.std.proofs.lemmas.Bool.{cases_eq, cases_lt}
use Rattle.std.proofs.lemmas.List.{get_or-set_other, get_or-set_same, get_or-drop, drop-set-add, drop-set-lt}
use Rattle.zio_turns.specs.LineSums.{AreSums, places_of}

-- all sums hold but at this node, which wants `more` or has to lose `less`; the place below has its new value
pub record Climbing (more less value : ℕ) (old now : List ℕ) (place node : ℕ) : Type 0 where
  pub same_length : length now ≡ length old
  pub inside : node < length old
  pub above : (i : ℕ) → i ≤ node → slice_index now i ≡ slice_index old i
  pub others : (i : ℕ) → 0 < i → i < length old / 2 → (i ≡ node → ⊥)
      → slice_index now i ≡ slice_index now (2 * i) + slice_index now (2 * i + 1)
  pub due : 0 < node → node < length old / 2
      → slice_index now node + more ≡ slice_index now (2 * node) + slice_index now (2 * node + 1) + less
  pub begun : length old / 2 ≤ node → (node ≡ length old / 2 + place) × (now ≡ old)
  pub placed : node < length old / 2 → drop (length old / 2) now ≡ slice_set (places_of old) place value

-- a node gets the value that its own change asks for
pub climb_step : {more less value : ℕ} {old now : List ℕ} {place node next : ℕ} → AreSums old
    → Climbing more less value old now place node → 0 < node
    → next + less ≡ slice_index now node + more → (length old / 2 ≤ node → next ≡ value)
    → Climbing more less value old (slice_set now node next) place (node / 2)
climb_step {more = more} {less = less} {value = value} {old = old} {now = now} {place = place} {node = node} {next = next} s c p e v =
    record {
      same_length = length-set now node next ∙ c.same_length;
      inside = omega (arith, c.inside);
      above = λ i q. other i (λ n. omega arith) ∙ c.above i (omega arith);
      others = λ i q l n. sums i q l n (cases_eq i node);
      due = λ q l. owed (node / 2) refl q (cases_eq node (2 * (node / 2)));
      begun = λ q. absurd (omega (arith, c.inside, s.halves));
      placed = λ q. places (cases_lt node (length old / 2));
    }
  where
    here : slice_index (slice_set now node next) node ≡ next
    here = get_or-set_same now node next 0 (omega (arith, c.same_length, c.inside))

    other : (i : ℕ) → (i ≡ node → ⊥) → slice_index (slice_set now node next) i ≡ slice_index now i
    other i n = get_or-set_other now node i next 0 n

    sums : (i : ℕ) → 0 < i → i < length old / 2 → (i ≡ node / 2 → ⊥) → (i ≡ node) ⊎ (i ≡ node → ⊥)
        → slice_index (slice_set now node next) i ≡ slice_index (slice_set now node next) (2 * i) + slice_index (slice_set now node next) (2 * i + 1)
    sums i q l n (inl same) =
        let at : slice_index (slice_set now node next) i ≡ next = ap (slice_index (slice_set now node next)) same ∙ here in
        let low : 2 * i ≡ 2 * node = omega arith in
        let due : slice_index now node + more ≡ slice_index now (2 * node) + slice_index now (2 * node + 1) + less =
        c.due p (omega arith) in
        omega (
          arith,
          at,
          e,
          due,
          other (2 * i) (λ m. omega arith),
          other (2 * i + 1) (λ m. omega arith),
          ap (slice_index now) low,
          ap (λ j. slice_index now (j + 1)) low,
        )
    sums i q l n (inr differs) =
        omega (
          arith,
          other i differs,
          other (2 * i) (λ m. n (omega arith)),
          other (2 * i + 1) (λ m. n (omega arith)),
          c.others i q l differs,
        )

    odd_is : (i j : ℕ) → j ≡ i / 2 → (i ≡ 2 * j → ⊥) → i ≡ 2 * j + 1
    odd_is i j e n = omega arith

    owed : (j : ℕ) → j ≡ node / 2 → 0 < j → (node ≡ 2 * j) ⊎ (node ≡ 2 * j → ⊥)
        → slice_index (slice_set now node next) j + more ≡ slice_index (slice_set now node next) (2 * j) + slice_index (slice_set now node next) (2 * j + 1) + less
    owed j is q (inl even) =
        let left : slice_index (slice_set now node next) (2 * j) ≡ next =
        ap (slice_index (slice_set now node next)) (sym even) ∙ here in
        let was : slice_index now (2 * j) ≡ slice_index now node = ap (slice_index now) (sym even) in
        omega (
          arith,
          e,
          left,
          was,
          other j (λ m. omega arith),
          other (2 * j + 1) (λ m. omega arith),
          c.others j q (omega (arith, c.inside, s.halves)) (λ m. omega arith),
        )
    owed j is q (inr odd) =
        let is_odd : node ≡ 2 * j + 1 = odd_is node j is odd in
        let right : slice_index (slice_set now node next) (2 * j + 1) ≡ next =
        ap (slice_index (slice_set now node next)) (sym is_odd) ∙ here in
        let was : slice_index now (2 * j + 1) ≡ slice_index now node = ap (slice_index now) (sym is_odd) in
        omega (
          arith,
          e,
          right,
          was,
          other j (λ m. omega arith),
          other (2 * j) (λ m. omega arith),
          c.others j q (omega (arith, c.inside, s.halves)) (λ m. omega arith),
        )

    leaf_set : (half node next : ℕ) → node ≡ half + place → now ≡ old → next ≡ value
        → drop half (slice_set now node next) ≡ slice_set (drop half old) place value
    leaf_set half node next n o v = rw (n, o, v) (drop-set-add half old place value)

    places : (node < length old / 2) ⊎ (length old / 2 ≤ node)
        → drop (length old / 2) (slice_set now node next) ≡ slice_set (places_of old) place value
    places (inl inner) = drop-set-lt (length old / 2) now node next inner ∙ c.placed inner
    places (inr leaf) =
        let b = c.begun leaf in
        leaf_set (length old / 2) node next b.0 b.1 (v leaf)

-- the place itself comes first
pub at_place : {more less value : ℕ} {old now : List ℕ} {place node : ℕ} → Climbing more less value old now place node
    → length old / 2 ≤ node → slice_index now node ≡ slice_index (places_of old) place
at_place {old = old} {place = place} {node = node} c leaf =
    c.above node (omega arith) ∙ (ap (slice_index old) (c.begun leaf).0 ∙ sym (get_or-drop (length old / 2) old place 0))

pub some_to_lose : {value : ℕ} {old now : List ℕ} {place node : ℕ} → Climbing 0 1 value old now place node → 0 < node
    → 0 < slice_index (places_of old) place → (node < length old / 2) ⊎ (length old / 2 ≤ node) → 0 < slice_index now node
some_to_lose c p some (inl inner) = omega (arith, c.due p inner)
some_to_lose c p some (inr leaf) = omega (arith, at_place c leaf)
