-- How often a key stands in a queue.
use Rattle.std.proofs.Common.{◌≡◌, ◌≢◌, ℕ, ◌+◌, List, [], ◌∷◌, ◌++◌, Bool, true, false, refl, sym, ap, arith}
use Rattle.zio_trace.specs.Keys.{bit}
use Rattle.zio_trace.specs.Labels.{same_number}
use Rattle.zio_trace.proofs.LabelLemmas.{number_is, number_itself}
use Rattle.zio_staged.specs.Entries.{OneMore, OneMoreIf, times_in}

pub number_other : (m n : ℕ) → m ≢ n → same_number m n ≡ false
number_other m n h = by (same_number m n) refl
  where
    by : (b : Bool) → same_number m n ≡ b → b ≡ false
    by true e = absurd (h (number_is m n e))
    by false e = refl

pub more_there : (key : ℕ) (a b : List ℕ) → OneMore key a b → times_in key b ≡ times_in key a + 1
more_there key a b h =
    let e : bit (same_number key key) ≡ 1 = ap bit (number_itself key) in
    let k : times_in key b ≡ bit (same_number key key) + times_in key a = h.times key in
    omega arith

pub more_other : (key k : ℕ) (a b : List ℕ) → OneMore key a b → k ≢ key → times_in k b ≡ times_in k a
more_other key k a b h n =
    let e : bit (same_number key k) ≡ 0 = ap bit (number_other key k (λ i. n (sym i))) in
    let f : times_in k b ≡ bit (same_number key k) + times_in k a = h.times k in
    omega arith

pub more_if_there : (test : Bool) (key : ℕ) (a b : List ℕ) → OneMoreIf test key a b → times_in key b ≡ times_in key a + bit test
more_if_there true key a b h = more_there key a b h
more_if_there false key a b h =
    let e : times_in key b ≡ times_in key a = ap (times_in key) h in
    omega arith

pub more_if_other : (test : Bool) (key k : ℕ) (a b : List ℕ) → OneMoreIf test key a b → k ≢ key → times_in k b ≡ times_in k a
more_if_other true key k a b h n = more_other key k a b h n
more_if_other false key k a b h n = ap (times_in k) h

-- at the front, and at the end
pub queued_first : (key : ℕ) (queue : List ℕ) → OneMore key queue (key ∷ queue)
queued_first key queue = record { times = λ k. refl }

times_last : (k key : ℕ) (queue : List ℕ) → times_in k (queue ++ key ∷ []) ≡ bit (same_number key k) + times_in k queue
times_last k key [] = refl
times_last k key (x ∷ queue) = let e = times_last k key queue in omega arith

pub queued_last : (key : ℕ) (queue : List ℕ) → OneMore key queue (queue ++ key ∷ [])
queued_last key queue = record { times = λ k. times_last k key queue }

pub queued_both : (key : ℕ) (a b : List ℕ) → OneMore key a b → (k : ℕ) → times_in k a + bit (same_number key k) ≡ times_in k b
queued_both key a b h k = let e = h.times k in omega arith
