-- How often a key stands among those that wait at the leaves.
use Rattle.std.proofs.Common.{◌≡◌, ◌≢◌, ℕ, zero, suc, ◌+◌, ◌<◌, ◌≤◌, List, [], ◌∷◌, ◌++◌, length, Bool, true, false, ◌||◌, inl, inr, refl, sym, ap, subst, ◌∙◌, arith}
use Rattle.std.specs.Prelude.{◌==◌, replicate, slice_index_or, slice_set}
use Rattle.std.proofs.lemmas.Bool.{cases_eq, eq-eqb, eqb-true, false≢true}
use Rattle.std.proofs.lemmas.List.{get_or-set_other, get_or-set_same}
use Rattle.zio_vqueue.specs.Queues.{is_queued}
use Rattle.zio_groups.specs.declared.waiting.QueuedOp.{QueuedOp}
use Rattle.zio_groups.specs.LeafQueues.{Waits, ops_of}
use Rattle.zio_trace.specs.Keys.{bit}
use Rattle.zio_trace.specs.Labels.{same_number}
use Rattle.zio_trace.proofs.LabelLemmas.{number_is, number_itself}
use Rattle.zio_turns.specs.AtLeaves.{AreInOrder, IsIdle, IsPut, key_of, keys_at, keys_in, keys_of, no_waits, waiting_at}
use Rattle.zio_staged.specs.Entries.{times_in}
use Rattle.zio_turns.proofs.Queues.{number_other}

pub times_append : (key : ℕ) (xs ys : List ℕ) → times_in key (xs ++ ys) ≡ times_in key xs + times_in key ys
times_append key [] ys = omega arith
times_append key (x ∷ xs) ys = omega (arith, times_append key xs ys)

-- one leaf's queue changes
pub times_set : (key : ℕ) (leaves : List Waits) (leaf : ℕ) (now : Waits) → leaf < length leaves
    → times_in key (keys_at (slice_set leaves leaf now)) + times_in key (keys_in (waiting_at leaves leaf)) ≡ times_in key
    (keys_at leaves) + times_in key (keys_of now)
times_set key [] leaf now h = absurd (omega arith)
times_set key (q ∷ qs) zero now h =
    omega (arith, times_append key (keys_of now) (keys_at qs), times_append key (keys_of q) (keys_at qs))
times_set key (q ∷ qs) (suc leaf) now h =
    let rest = times_set key qs leaf now (omega arith) in
    omega (
      arith,
      rest,
      times_append key (keys_of q) (keys_at (slice_set qs leaf now)),
      times_append key (keys_of q)
          (keys_at qs),
    )

-- no more at one leaf than at all
pub times_one : (key : ℕ) (leaves : List Waits) (leaf : ℕ) → times_in key (keys_in (waiting_at leaves leaf)) ≤ times_in key
    (keys_at leaves)
times_one key [] leaf = omega arith
times_one key (q ∷ qs) zero = omega (arith, times_append key (keys_of q) (keys_at qs))
times_one key (q ∷ qs) (suc leaf) = omega (arith, times_one key qs leaf, times_append key (keys_of q) (keys_at qs))

pub here_set : (leaves : List Waits) (leaf : ℕ) (now : Waits) → leaf < length leaves → waiting_at
    (slice_set leaves leaf now) leaf ≡ now.waiting
here_set leaves leaf now h = ap (λ (q : Waits). q.waiting) (get_or-set_same leaves leaf now no_waits h)

pub others_set : (leaves : List Waits) (leaf other : ℕ) (now : Waits) → other ≢ leaf → waiting_at
    (slice_set leaves leaf now) other ≡ waiting_at leaves other
others_set leaves leaf other now h = ap (λ (q : Waits). q.waiting) (get_or-set_other leaves leaf other now no_waits h)

-- ---- tickets

-- both tests of numbers say the same
pub test_is : (m n : ℕ) → (m == n) ≡ same_number m n
test_is m n = by (m == n) refl
  where
    by : (b : Bool) → (m == n) ≡ b → b ≡ same_number m n
    by true e = sym (ap (same_number m) (sym (eqb-true m n e)) ∙ number_itself m)
    by false e = sym (number_other m n (λ i. false≢true (sym e ∙ eq-eqb m n i)))

queued_step : (a b : Bool) → a ≡ b → (r : Bool) (n : ℕ) → (n ≡ 0 → r ≡ false) → bit b + n ≡ 0 → (a || r) ≡ false
queued_step true true e r n h z = absurd (omega arith)
queued_step true false e r n h z = absurd (false≢true (sym e))
queued_step false true e r n h z = absurd (omega arith)
queued_step false false e r n h z = h (omega arith)

-- a key that stands nowhere is no ticket
pub not_queued : (key : ℕ) (ws : List QueuedOp) → times_in key (keys_in ws) ≡ 0 → is_queued key (ops_of ws) ≡ false
not_queued key [] h = refl
not_queued key (w ∷ ws) h =
    queued_step (w.op.ticket == key) (same_number w.op.ticket key) (test_is w.op.ticket key) (is_queued key (ops_of ws))
    (times_in key (keys_in ws))
    (not_queued key ws) h

none_step : (a b : Bool) → a ≡ b → (r : Bool) (n : ℕ) → (r ≡ false → n ≡ 0) → (a || r) ≡ false → bit b + n ≡ 0
none_step true b e r n h z = absurd (false≢true (sym z))
none_step false true e r n h z = absurd (false≢true e)
none_step false false e r n h z = omega (arith, h z)

pub no_ticket : (key : ℕ) (ws : List QueuedOp) → is_queued key (ops_of ws) ≡ false → times_in key (keys_in ws) ≡ 0
no_ticket key [] h = refl
no_ticket key (w ∷ ws) h =
    none_step (w.op.ticket == key) (same_number w.op.ticket key) (test_is w.op.ticket key) (is_queued key (ops_of ws))
    (times_in key (keys_in ws))
    (no_ticket key ws) h

-- ---- one that is put

pub put_done : (leaves : List Waits) (leaf : ℕ) (now : Waits) (w : QueuedOp) → leaf < length leaves
    → now.waiting ≡ waiting_at leaves leaf ++ w ∷ []
    → length (slice_set leaves leaf now) ≡ length leaves → IsPut leaf w leaves (slice_set leaves leaf now)
put_done leaves leaf now w h is count = record {
  here = here_set leaves leaf now h ∙ is;
  others = λ other n. others_set leaves leaf other now n;
  count = count;
  keys = record {
    times = λ key.
        let set : times_in key (keys_at (slice_set leaves leaf now)) + times_in key
        (keys_in (waiting_at leaves leaf)) ≡ times_in key (keys_at leaves) + times_in key (keys_of now) =
        times_set key leaves leaf now h in
        let more : times_in key (keys_of now) ≡ bit (same_number (key_of w) key) + times_in key
        (keys_in (waiting_at leaves leaf)) =
        ap (λ (ws : List QueuedOp). times_in key (keys_in ws)) is ∙ pushed key (waiting_at leaves leaf) w in
        omega (arith, set, more);
  };
}
  where
    pushed : (key : ℕ) (ws : List QueuedOp) (w : QueuedOp) → times_in key (keys_in (ws ++ w ∷ [])) ≡ bit
        (same_number (key_of w) key) + times_in key (keys_in ws)
    pushed key [] w = refl
    pushed key (v ∷ vs) w = omega (arith, pushed key vs w)

-- ---- queues in which nothing waits

pub none_wait : (n : ℕ) → keys_at (replicate n no_waits) ≡ []
none_wait zero = refl
none_wait (suc n) = none_wait n

pub all_idle : (n leaf : ℕ) → IsIdle (slice_index_or (replicate n no_waits) leaf no_waits)
all_idle zero leaf = refl
all_idle (suc n) zero = refl
all_idle (suc n) (suc leaf) = all_idle n leaf

pub fresh_order : (n : ℕ) → AreInOrder (replicate n no_waits)
fresh_order n = record {
  idle = all_idle n;
  once = λ key. omega (arith, ap (times_in key) (none_wait n));
}

-- ---- in order still

idle_set : (leaves : List Waits) (leaf : ℕ) (now : Waits) → leaf < length leaves → now.active ≡
    (slice_index_or leaves leaf no_waits).active
    → ((other : ℕ) → IsIdle (slice_index_or leaves other no_waits)) → (other : ℕ) → IsIdle
    (slice_index_or (slice_set leaves leaf now) other no_waits)
idle_set leaves leaf now there same idle other = elim (cases_eq other leaf) [
  | inl is ↦
      subst (λ (l : ℕ). IsIdle (slice_index_or (slice_set leaves leaf now) l no_waits)) (sym is)
      (ap (λ (q : Waits). q.active) (get_or-set_same leaves leaf now no_waits there) ∙ (same ∙ idle leaf))
  | inr apart ↦ ap (λ (q : Waits). q.active) (get_or-set_other leaves leaf other now no_waits apart) ∙ idle other
]

once_more : (key k n m : ℕ) → n ≡ bit (same_number key k) + m → (key ≡ k → m ≡ 0) → m ≤ 1 → n ≤ 1
once_more key k n m e f most = by (same_number key k) refl
  where
    by : (b : Bool) → same_number key k ≡ b → n ≤ 1
    by true is = omega (arith, e, ap bit is, f (number_is key k is))
    by false is = omega (arith, e, ap bit is)

pub order_put : (leaves : List Waits) (leaf : ℕ) (now : Waits) (w : QueuedOp) → leaf < length leaves → now.active ≡
    (slice_index_or leaves leaf no_waits).active
    → times_in (key_of w) (keys_at leaves) ≡ 0 → IsPut leaf w leaves (slice_set leaves leaf now) → AreInOrder leaves
    → AreInOrder (slice_set leaves leaf now)
order_put leaves leaf now w there same none put h = record {
  idle = idle_set leaves leaf now there same h.idle;
  once = λ key. once_more (key_of w) key (times_in key (keys_at (slice_set leaves leaf now))) (times_in key (keys_at leaves))
      (put.keys.times key)
      (λ e. subst (λ (k : ℕ). times_in k (keys_at leaves) ≡ 0) e none) (h.once key);
}

-- those that wait are fewer
pub order_fewer : (leaves : List Waits) (leaf : ℕ) (now : Waits) → leaf < length leaves → now.active ≡
    (slice_index_or leaves leaf no_waits).active
    → ((key : ℕ) → times_in key (keys_at (slice_set leaves leaf now)) ≤ times_in key (keys_at leaves)) → AreInOrder leaves
    → AreInOrder (slice_set leaves leaf now)
order_fewer leaves leaf now there same fewer h = record {
  idle = idle_set leaves leaf now there same h.idle;
  once = λ key. omega (arith, fewer key, h.once key);
}
