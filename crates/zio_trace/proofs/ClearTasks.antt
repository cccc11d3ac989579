-- A task is handed out behind all that were, and is clear of them.
use Rattle.std.proofs.Common.{◌≡◌, ℕ, suc, ◌+◌, ◌<◌, ◌≤◌, zero, List, [], ◌∷◌, Some, Contains, inl, inr, refl, sym, ap, ◌∙◌, subst, arith}
use Rattle.std.specs.List.{AllByRecursion}
use Rattle.zio_types.specs.Choices.{Choice}
use Rattle.zio_cksum.proofs.AllLemmas.{all_contains, all_weaker}
use Rattle.zio_trace.specs.Clearings.{AreClear, Away, Free, FreeOf, Holds, Reach, Seat}
use Rattle.zio_trace.specs.Engines.{reach_in}
use Rattle.zio_trace.specs.Labels.{Below, Earlier, Labelled, labelled}
use Rattle.zio_trace.specs.Oracles.{Oracle}
use Rattle.zio_trace.specs.Programs.{Deed}
use Rattle.zio_trace.specs.Tasks.{Task, Value}
use Rattle.zio_trace.specs.Underway.{AreFree, IsFreeOf, WasHandedOut, Work, calls_in, plan_each}
use Rattle.zio_trace.specs.Views.{nth}
use Rattle.zio_trace.proofs.ClearLemmas.{no_longer, pairs_cons}
use Rattle.zio_trace.proofs.LabelLemmas.{below_itself}
use Rattle.zio_trace.proofs.LeftLemmas.{calls_then, none_out}
use Rattle.zio_trace.proofs.NestLemmas.{next_not_in, not_handed}

-- ---- what was handed out stands before

before_next : (next n : ℕ) (xs : List ℕ) → suc n ≤ next → Below (next ∷ []) (n ∷ xs) → ⊥
before_next next n xs l (inl h) = omega arith
before_next next n xs l (inr h) = omega (arith, h.0)

not_behind : (next : ℕ) (x : List ℕ) → WasHandedOut next x → Below (next ∷ []) x → ⊥
not_behind next x h k = before_next next h.0 h.1 h.3 (subst (Below (next ∷ [])) h.2 k)

module _ {Op Ans : Type 0} (r : Reach Op) where
  pub clear_task : (ds : List (Deed (Labelled Op) Ans)) (next : ℕ) (op : Op) (seats : List (Seat Op)) → AreClear r ds seats
      → AllByRecursion (λ (e : Deed (Labelled Op) Ans). WasHandedOut next e.op.at) ds → AllByRecursion (λ (q : Seat Op). WasHandedOut next q.op.at) seats
      → AllByRecursion (λ (q : Seat Op). Free r q.op (record { at = next ∷ []; op = op })) seats
      → AreClear r ds (record { op = record { at = next ∷ []; op = op }; next = 0 } ∷ seats)
  clear_task ds next op seats h done flown free =
      let c : Seat Op = record { op = record { at = next ∷ []; op = op }; next = 0 } in
      let Handed : Seat Op → Type 0 = λ q. WasHandedOut next q.op.at in
      record {
        clear = (all_weaker (λ (e : Deed (Labelled Op) Ans). WasHandedOut next e.op.at) (λ (e : Deed (Labelled Op) Ans). Earlier c.op e.op → Away r c.op e.op) ds (λ e k l. absurd (not_behind next e.op.at k l)) done, h.clear);
        done = (all_weaker (λ (e : Deed (Labelled Op) Ans). WasHandedOut next e.op.at) (λ (e : Deed (Labelled Op) Ans). Holds c e.op.at) ds (λ e k n below i. absurd (not_handed next e.op.at (n ∷ below) k i)) done, h.done);
        free = pairs_cons (FreeOf r) c seats
            (λ k. absurd (below_itself (next ∷ []) k))
            (all_weaker Handed (FreeOf r c) seats (λ q k l. absurd (not_behind next q.op.at k l)) flown)
            (all_weaker (λ (q : Seat Op). Free r q.op c.op) (λ (q : Seat Op). FreeOf r q c) seats (λ q k l. k) free)
            h.free;
        flying = pairs_cons (λ (s q : Seat Op). Holds s q.op.at) c seats
            (λ n below i. absurd (no_longer (next ∷ []) n below i))
            (all_weaker Handed (λ (q : Seat Op). Holds c q.op.at) seats (λ q k n below i. absurd (not_handed next q.op.at (n ∷ below) k i)) flown)
            (all_weaker Handed (λ (q : Seat Op). Holds q (next ∷ [])) seats (λ q k n below i. absurd (next_not_in next n q.op.at below k i)) flown)
            h.flying;
        differ = (all_weaker Handed (λ (q : Seat Op). next ∷ [] ≡ q.op.at → ⊥) seats (λ q k e. not_handed next q.op.at [] k (sym e)) flown, h.differ);
      }

-- ---- tasks that are free of one another

free_of_one : (j : List Choice) (w : Work) (a : ℕ) (q : Task) (k : ℕ) (rs : List Task) (i b : ℕ) (r : Task) → IsFreeOf j w a q k rs → nth i rs ≡ Some r → b ≡ k + i
    → Free (reach_in j w.terms w.shared) (record { at = a ∷ []; op = q }) (record { at = b ∷ []; op = r })
free_of_one j w a q k [] i b r h e is = absurd (none_out i r e)
free_of_one j w a q k (s ∷ rs) zero b r h e is =
    let same : s ≡ r = cc in
    let at : k ≡ b = omega (arith, is) in
    subst (λ (x : Labelled Task). Free (reach_in j w.terms w.shared) (record { at = a ∷ []; op = q }) x) (λ i. record { at = at i ∷ []; op = same i }) h.0
free_of_one j w a q k (s ∷ rs) (suc i) b r h e is = free_of_one j w a q (suc k) rs i b r h.1 e (omega (arith, is))

free_from : (j : List Choice) (w : Work) (k : ℕ) (qs : List Task) (i m a b : ℕ) (q r : Task) → AreFree j w k qs → nth i qs ≡ Some q → nth m qs ≡ Some r → i < m → a ≡ k + i → b ≡ k + m
    → Free (reach_in j w.terms w.shared) (record { at = a ∷ []; op = q }) (record { at = b ∷ []; op = r })
free_from j w k [] i m a b q r h e f l is at = absurd (none_out i q e)
free_from j w k (s ∷ qs) zero zero a b q r h e f l is at = absurd (omega (arith, l))
free_from j w k (s ∷ qs) zero (suc m) a b q r h e f l is at =
    let same : s ≡ q = cc in
    let here : k ≡ a = omega (arith, is) in
    subst (λ (x : Labelled Task). Free (reach_in j w.terms w.shared) x (record { at = b ∷ []; op = r })) (λ i. record { at = here i ∷ []; op = same i })
    (free_of_one j w k s (suc k) qs m b r h.0 f (omega (arith, at)))
free_from j w k (s ∷ qs) (suc i) zero a b q r h e f l is at = absurd (omega (arith, l))
free_from j w k (s ∷ qs) (suc i) (suc m) a b q r h e f l is at =
    free_from j w (suc k) qs i m a b q r h.1 e f (omega (arith, l)) (omega (arith, is)) (omega (arith, at))

pub free_at : (j : List Choice) (w : Work) (m n : ℕ) (q r : Task) → AreFree j w 0 w.tasks → nth m w.tasks ≡ Some q → nth n w.tasks ≡ Some r → m < n
    → Free (reach_in j w.terms w.shared) (record { at = m ∷ []; op = q }) (record { at = n ∷ []; op = r })
free_at j w m n q r h e f l = free_from j w 0 w.tasks m n m n q r h e f l (omega arith) (omega arith)

pub all_nth : {X : Type 0} (P : X → Type 0) (xs : List X) (n : ℕ) (x : X) → AllByRecursion P xs → nth n xs ≡ Some x → P x
all_nth P [] n x h e = absurd (none_out n x e)
all_nth P (y ∷ ys) zero x h e = let same : y ≡ x = cc in subst P same h.0
all_nth P (y ∷ ys) (suc n) x h e = all_nth P ys n x h.1 e

-- ---- the tasks are asked in their order

abbrev IsTaskAt : ℕ → List Task → Labelled Task → Type 0
IsTaskAt k qs y = (i : ℕ) × (y.at ≡ (k + i) ∷ []) × (nth i qs ≡ Some y.op)

task_calls : (o : Oracle (Labelled Task) Value) (k : ℕ) (qs : List Task) → AllByRecursion (IsTaskAt k qs) (calls_in o (labelled [] k (plan_each qs)))
task_calls o k [] = tt
task_calls o k (q ∷ qs) =
    let v : Value = o.answer (record { at = k ∷ []; op = q }) in
    let here : k ≡ k + 0 = omega arith in (
      (0, ap (λ (n : ℕ). n ∷ []) here, refl),
      subst (AllByRecursion (IsTaskAt k (q ∷ qs))) (sym (calls_then o [] (suc k) (plan_each qs) (λ (vs : List Value). v ∷ vs)))
          (all_weaker (IsTaskAt (suc k) qs) (IsTaskAt k (q ∷ qs)) (calls_in o (labelled [] (suc k) (plan_each qs)))
          (λ y h. let next : suc k + h.0 ≡ k + suc h.0 = omega arith in (suc h.0, h.1 ∙ ap (λ (n : ℕ). n ∷ []) next, h.2))
          (task_calls o (suc k) qs)),
    )

-- so the one at this place is this
pub task_called : (o : Oracle (Labelled Task) Value) (qs : List Task) (n : ℕ) (op : Task) → Contains (calls_in o (labelled [] 0 (plan_each qs))) (record { at = n ∷ []; op = op }) → nth n qs ≡ Some op
task_called o qs n op c =
    let h : IsTaskAt 0 qs (record { at = n ∷ []; op = op }) = all_contains (IsTaskAt 0 qs) (calls_in o (labelled [] 0 (plan_each qs))) (record { at = n ∷ []; op = op }) (task_calls o 0 qs) c in
    let same : n ≡ 0 + h.0 = head_of n (0 + h.0) h.1 in
    let at : h.0 ≡ n = omega (arith, same) in
    subst (λ (i : ℕ). nth i qs ≡ Some op) at h.2
  where
    head_of : (m n : ℕ) → m ∷ [] ≡ n ∷ [] → m ≡ n
    head_of m n e = cc
