-- Which keys wait no more once a group was issued.
use Rattle.std.proofs.Common.{◌≡◌, ℕ, ◌+◌, ◌<◌, ◌≤◌, List, [], ◌∷◌, Bool, true, false, not, cond, filter, inl, inr, refl, sym, ap, subst, ◌∙◌, arith, Contains}
use Rattle.std.specs.Prelude.{◌==◌}
use Rattle.std.specs.List.{AllByRecursion}
use Rattle.std.proofs.lemmas.Bool.{cases_eq}
use Rattle.zio_vqueue.specs.Queues.{AreApart}
use Rattle.zio_groups.specs.declared.waiting.QueuedOp.{QueuedOp}
use Rattle.zio_groups.specs.LeafQueues.{ops_of, waiting_without}
use Rattle.zio_cksum.proofs.AllLemmas.{all_contained, all_contains, all_filter, all_weaker}
use Rattle.zio_trace.specs.Keys.{bit}
use Rattle.zio_trace.specs.Labels.{same_number}
use Rattle.zio_trace.proofs.LabelLemmas.{number_is, number_itself}
use Rattle.zio_turns.specs.AtLeaves.{key_of, keys_in}
use Rattle.zio_staged.specs.Entries.{times_in}
use Rattle.zio_turns.proofs.KeyTimes.{no_ticket, not_queued, test_is}

-- ---- those without a ticket

abbrev pub others_than : ℕ → List QueuedOp → List QueuedOp
others_than ticket ws = filter (λ (w : QueuedOp). not (w.op.ticket == ticket)) ws

-- a is the test of the ticket, b of the key, and c of the key at the first
others_step : (a b c : Bool) (n m : ℕ) → (a ≡ true → c ≡ b) → (a ≡ false → b ≡ true → c ≡ false) → n ≡ cond b 0 m
    → cond (not a) (bit c + n) n ≡ cond b 0 (bit c + m)
others_step true true c n m f g h = h
others_step true false c n m f g h = omega (arith, h, ap bit (f refl))
others_step false true c n m f g h = omega (arith, h, ap bit (g refl refl))
others_step false false c n m f g h = omega (arith, h)

times_if : (key : ℕ) (w : QueuedOp) (ws : List QueuedOp) (a : Bool)
    → times_in key (keys_in (cond a (w ∷ ws) ws)) ≡ cond a (bit (same_number (key_of w) key) + times_in key (keys_in ws))
    (times_in key (keys_in ws))
times_if key w ws true = refl
times_if key w ws false = refl

-- a key with that ticket stands there no more, another as often
pub times_others : (key ticket : ℕ) (ws : List QueuedOp)
    → times_in key (keys_in (others_than ticket ws)) ≡ cond (same_number ticket key) 0 (times_in key (keys_in ws))
times_others key ticket [] = by (same_number ticket key)
  where
    by : (b : Bool) → ◌≡◌ {A = ℕ} 0 (cond b 0 0)
    by true = refl
    by false = refl
times_others key ticket (w ∷ ws) =
    let test : (w.op.ticket == ticket) ≡ same_number w.op.ticket ticket = test_is w.op.ticket ticket in
    times_if key w (others_than ticket ws) (not (w.op.ticket == ticket))
    ∙ others_step (w.op.ticket == ticket) (same_number ticket key) (same_number (key_of w) key)
    (times_in key (keys_in (others_than ticket ws)))
    (times_in key (keys_in ws))
    (λ e. ap (λ (n : ℕ). same_number n key) (number_is w.op.ticket ticket (sym test ∙ e)))
    (λ e f. sym (ap (same_number w.op.ticket) (number_is ticket key f)) ∙ (sym test ∙ e))
    (times_others key ticket ws)

-- ---- those without the tickets of some

cond_most : (b : Bool) (m : ℕ) → cond b 0 m ≤ m
cond_most true m = omega arith
cond_most false m = omega arith

pub without_most : (key : ℕ) (ms ws : List QueuedOp) → times_in key (keys_in (waiting_without (ops_of ms) ws)) ≤ times_in key
    (keys_in ws)
without_most key [] ws = omega arith
without_most key (m ∷ ms) ws =
    omega (
      arith,
      without_most key ms (others_than (key_of m) ws),
      times_others key (key_of m) ws,
      cond_most (same_number (key_of m) key) (times_in key (keys_in ws)),
    )

none_of : (b : Bool) (n m k : ℕ) → bit b + n ≡ 0 → k ≡ cond b 0 m → (n ≡ 0) × (k ≡ m)
none_of true n m k h e = absurd (omega arith)
none_of false n m k h e = (omega arith, e)

without_none : (key : ℕ) (ms ws : List QueuedOp) → times_in key (keys_in ms) ≡ 0
    → times_in key (keys_in (waiting_without (ops_of ms) ws)) ≡ times_in key (keys_in ws)
without_none key [] ws h = refl
without_none key (m ∷ ms) ws h =
    let both = none_of (same_number (key_of m) key) (times_in key (keys_in ms)) (times_in key (keys_in ws))
    (times_in key (keys_in (others_than (key_of m) ws)))
    h (times_others key (key_of m) ws) in
    without_none key ms (others_than (key_of m) ws) both.0 ∙ both.1

some_of : (b : Bool) (n m k after : ℕ) → 0 < bit b + n → k ≡ cond b 0 m → after ≤ k → (0 < n → after ≡ 0) → after ≡ 0
some_of true n m k after h e most f = omega arith
some_of false n m k after h e most f = f (omega arith)

without_some : (key : ℕ) (ms ws : List QueuedOp) → 0 < times_in key (keys_in ms) → times_in key
    (keys_in (waiting_without (ops_of ms) ws)) ≡ 0
without_some key [] ws h = absurd (omega arith)
without_some key (m ∷ ms) ws h =
    some_of (same_number (key_of m) key) (times_in key (keys_in ms)) (times_in key (keys_in ws))
    (times_in key (keys_in (others_than (key_of m) ws)))
    (times_in key (keys_in (waiting_without (ops_of ms) (others_than (key_of m) ws)))) h (times_others key (key_of m) ws)
    (without_most key ms (others_than (key_of m) ws)) (without_some key ms (others_than (key_of m) ws))

-- ---- keys that stand once

once_by : (b : Bool) (n : ℕ) → (b ≡ true → n ≡ 0) → n ≤ 1 → bit b + n ≤ 1
once_by true n f h = omega (arith, f refl)
once_by false n f h = omega arith

pub apart_once : (key : ℕ) (ws : List QueuedOp) → AreApart (ops_of ws) → times_in key (keys_in ws) ≤ 1
apart_once key [] h = omega arith
apart_once key (w ∷ ws) h =
    once_by (same_number (key_of w) key) (times_in key (keys_in ws))
    (λ e. subst (λ (k : ℕ). times_in k (keys_in ws) ≡ 0) (number_is (key_of w) key e) (no_ticket (key_of w) ws h.0))
    (apart_once key ws h.1)

pub once_apart : (ws : List QueuedOp) → ((key : ℕ) → times_in key (keys_in ws) ≤ 1) → AreApart (ops_of ws)
once_apart [] h = tt
once_apart (w ∷ ws) h =
    let one : bit (same_number (key_of w) (key_of w)) ≡ 1 = ap bit (number_itself (key_of w)) in
    let none : times_in (key_of w) (keys_in ws) ≡ 0 = omega (arith, one, h (key_of w)) in
    (not_queued (key_of w) ws none, once_apart ws (λ key. omega (arith, h key)))

all_counted : (ws : List QueuedOp) → AllByRecursion (λ (v : QueuedOp). 0 < times_in (key_of v) (keys_in ws)) ws
all_counted [] = tt
all_counted (w ∷ ws) = (
  omega (arith, ap bit (number_itself (key_of w))),
  all_weaker (λ (v : QueuedOp). 0 < times_in (key_of v) (keys_in ws))
      (λ (v : QueuedOp). 0 < times_in (key_of v) (keys_in (w ∷ ws))) ws
      (λ v h. omega arith) (all_counted ws),
)

some_by : (b : Bool) (n k : ℕ) → 0 < bit b + n → (b ≡ true → 0 < k) → (0 < n → 0 < k) → 0 < k
some_by true n k h f g = f refl
some_by false n k h f g = g (omega arith)

-- the keys of some that wait there stand there
counted_among : (key : ℕ) (ms ws : List QueuedOp) → AllByRecursion (Contains ws) ms → 0 < times_in key (keys_in ms)
    → 0 < times_in key (keys_in ws)
counted_among key [] ws h some = absurd (omega arith)
counted_among key (m ∷ ms) ws h some =
    some_by (same_number (key_of m) key) (times_in key (keys_in ms)) (times_in key (keys_in ws)) some
    (λ e. subst (λ (k : ℕ). 0 < times_in k (keys_in ws)) (number_is (key_of m) key e)
    (all_contains (λ (v : QueuedOp). 0 < times_in (key_of v) (keys_in ws)) ws m (all_counted ws) h.0))
    (counted_among key ms ws h.1)

split_by : (n m k : ℕ) → m ≤ 1 → n ≤ 1 → (m ≡ 0 → k ≡ n) → (0 < m → k ≡ 0) → (0 < m → 0 < n) → n ≡ m + k
split_by n m k a b f g h = elim (cases_eq m 0) [
  | inl none ↦ omega (arith, none, f none)
  | inr some ↦
      let there : 0 < m = omega (arith, some) in
      omega (arith, g there, h there)
]

pub keys_leave : (key : ℕ) (ms ws : List QueuedOp) → AreApart (ops_of ms) → times_in key (keys_in ws) ≤ 1 → AllByRecursion
    (Contains ws) ms
    → times_in key (keys_in ws) ≡ times_in key (keys_in ms) + times_in key (keys_in (waiting_without (ops_of ms) ws))
keys_leave key ms ws apart once among =
    split_by (times_in key (keys_in ws)) (times_in key (keys_in ms)) (times_in key (keys_in (waiting_without (ops_of ms) ws)))
    (apart_once key ms apart) once (without_none key ms ws) (without_some key ms ws) (counted_among key ms ws among)

-- ---- what waits still

all_without : (P : QueuedOp → Type 0) (ms ws : List QueuedOp) → AllByRecursion P ws → AllByRecursion P
    (waiting_without (ops_of ms) ws)
all_without P [] ws h = h
all_without P (m ∷ ms) ws h =
    all_without P ms (others_than (key_of m) ws)
    (all_filter P (λ (w : QueuedOp). not (w.op.ticket == key_of m)) ws
    (all_weaker P (λ (w : QueuedOp). not (w.op.ticket == key_of m) ≡ true → P w) ws (λ w p e. p) h))

pub still_among : (ms ws : List QueuedOp) → AllByRecursion (Contains ws) (waiting_without (ops_of ms) ws)
still_among ms ws = all_without (Contains ws) ms ws (all_contained ws)
