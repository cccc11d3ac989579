-- Programs with answers put in: the next operation, one that goes out, and one that is answered.
use Rattle.std.proofs.Common.{◌≡◌, ℕ, zero, suc, ◌+◌, ◌<◌, ◌≤◌, List, [], ◌∷◌, ◌++◌, length, map, set, take, slice_get, Option, Some, None, refl, ap, ◌∙◌, arith}
use Rattle.zio_types.specs.declared.error.Errno.{Errno}
use Rattle.zio_trace.specs.Calls.{answered_at}
use Rattle.zio_trace.specs.CopyPrograms.{Program}
use Rattle.zio_trace.specs.Leaves.{LeafOp, Answer, answer_of, error_of}
use Rattle.zio_trace.specs.Programs.{Ends, Asks, ◌>>=◌}
use Rattle.zio_parts.specs.Answered.{AsksBehind, filled, out_before, out_count}

-- ---- one more goes out

-- nothing is answered by that
pub filled_more : {A : Type 0} (answers : List (Option Answer)) (p : Program A) → filled (answers ++ None ∷ []) p ≡ filled answers p
filled_more [] (Ends a) = refl
filled_more [] (Asks op more) = refl
filled_more (a ∷ answers) (Ends b) = refl
filled_more (Some v ∷ answers) (Asks op more) = filled_more answers (more v)
filled_more (None ∷ answers) (Asks op more) = λ i. Asks op (λ v. filled_more answers (more v) i)

pub out_more : (answers : List (Option Answer)) → out_count (answers ++ None ∷ []) ≡ out_count answers + 1
out_more [] = refl
out_more (Some v ∷ answers) = out_more answers
out_more (None ∷ answers) = let e : out_count (answers ++ None ∷ []) ≡ out_count answers + 1 = out_more answers in omega arith

-- ---- the next operation

-- the program asks these first, whatever the answers
abbrev pub AsksFirst : {A : Type 0} → List LeafOp → Program A → Type 0
AsksFirst [] p = Unit {0}
AsksFirst (op ∷ ops) (Ends a) = ⊥
AsksFirst {A} (op ∷ ops) (Asks x more) = (x ≡ op) × ((v : Answer) → AsksFirst ops (more v))

-- the next that is asked stands behind those that are out
pub next_behind : {A : Type 0} (ops : List LeafOp) (answers : List (Option Answer)) (op : LeafOp) (p : Program A) → AsksFirst ops p → slice_get ops (length answers) ≡ Some op
    → AsksBehind (out_count answers) (filled answers p) op
next_behind [] answers op p h e = absurd (cc)
next_behind (q ∷ ops) [] op (Ends a) h e = absurd h
next_behind (q ∷ ops) [] op (Asks x more) h e = let is : q ≡ op = cc in h.0 ∙ is
next_behind (q ∷ ops) (a ∷ answers) op (Ends b) h e = absurd h
next_behind (q ∷ ops) (Some v ∷ answers) op (Asks x more) h e = next_behind ops answers op (more v) (h.1 v) e
next_behind (q ∷ ops) (None ∷ answers) op (Asks x more) h e = λ v _. next_behind ops answers op (more v) (h.1 v) e

-- ---- one is answered

pub filled_answered : {A : Type 0} (k : ℕ) (v : Answer) (answers : List (Option Answer)) (p : Program A) → slice_get answers k ≡ Some None
    → answered_at (out_before k answers) v (filled answers p) ≡ filled (set answers k (Some v)) p
filled_answered k v [] p e = absurd (cc)
filled_answered zero v (b ∷ answers) (Ends c) e = refl
filled_answered (suc k) v (b ∷ answers) (Ends c) e = refl
filled_answered zero v (Some b ∷ answers) (Asks op more) e = absurd (cc)
filled_answered zero v (None ∷ answers) (Asks op more) e = refl
filled_answered (suc k) v (Some b ∷ answers) (Asks op more) e = filled_answered k v answers (more b) e
filled_answered (suc k) v (None ∷ answers) (Asks op more) e = λ i. Asks op (λ w. filled_answered k v answers (more w) e i)

pub out_less : (k : ℕ) (v : Answer) (answers : List (Option Answer)) → slice_get answers k ≡ Some None → out_count (set answers k (Some v)) + 1 ≡ out_count answers
out_less k v [] e = absurd (cc)
out_less zero v (Some b ∷ answers) e = absurd (cc)
out_less zero v (None ∷ answers) e = omega arith
out_less (suc k) v (Some b ∷ answers) e = out_less k v answers e
out_less (suc k) v (None ∷ answers) e = let h : out_count (set answers k (Some v)) + 1 ≡ out_count answers = out_less k v answers e in omega arith

-- the program goes on by as much of its answers as this keeps
abbrev pub ReadsBy : {A : Type 0} → (Answer → Answer) → Program A → Type 0
ReadsBy f (Ends a) = Unit {0}
ReadsBy f (Asks op more) = ((v : Answer) → more v ≡ more (f v)) × ((v : Answer) → ReadsBy f (more v))

pub reads_on : {A B : Type 0} (f : Answer → Answer) (p : Program A) (k : A → Program B) → ReadsBy f p → ((a : A) → ReadsBy f (k a)) → ReadsBy f (p >>= k)
reads_on f (Ends a) k h ks = ks a
reads_on f (Asks op more) k h ks = (λ v. ap (λ p. p >>= k) (h.0 v), λ v. reads_on f (more v) k (h.1 v) ks)

pub filled_by : {A : Type 0} (f : Answer → Answer) (k : ℕ) (v : Answer) (answers : List (Option Answer)) (p : Program A) → ReadsBy f p
    → filled (set answers k (Some v)) p ≡ filled (set answers k (Some (f v))) p
filled_by f k v [] p h = refl
filled_by f zero v (b ∷ answers) (Ends a) h = refl
filled_by f (suc k) v (b ∷ answers) (Ends a) h = refl
filled_by f zero v (b ∷ answers) (Asks op more) h = ap (filled answers) (h.0 v)
filled_by f (suc k) v (Some b ∷ answers) (Asks op more) h = filled_by f k v answers (more b) (h.1 b)
filled_by f (suc k) v (None ∷ answers) (Asks op more) h = λ i. Asks op (λ w. filled_by f k v answers (more w) (h.1 w) i)

-- ---- ends

pub bind_ends : {A : Type 0} (p : Program A) → (p >>= λ a. Ends a) ≡ p
bind_ends (Ends a) = refl
bind_ends (Asks op more) = λ i. Asks op (λ v. bind_ends (more v) i)

pub error_back : (e : Option Errno) → error_of (answer_of e) ≡ e
error_back None = refl
error_back (Some e) = refl

-- ---- lists

pub get_map : {X Y : Type 0} (f : X → Y) (xs : List X) (n : ℕ) (x : X) → slice_get xs n ≡ Some x → slice_get (map f xs) n ≡ Some (f x)
get_map f [] n x e = absurd (cc)
get_map f (y ∷ xs) zero x e = let is : y ≡ x = cc in ap (λ z. Some (f z)) is
get_map f (y ∷ xs) (suc n) x e = get_map f xs n x e

pub within_get : {X : Type 0} (xs : List X) (n : ℕ) (x : X) → slice_get xs n ≡ Some x → n < length xs
within_get [] n x e = absurd (cc)
within_get (y ∷ xs) zero x e = omega arith
within_get (y ∷ xs) (suc n) x e = let h : n < length xs = within_get xs n x e in omega arith

pub past_get : {X : Type 0} (xs : List X) (n : ℕ) → slice_get xs n ≡ None → length xs ≤ n
past_get [] n e = omega arith
past_get (y ∷ xs) zero e = absurd (cc)
past_get (y ∷ xs) (suc n) e = let h : length xs ≤ n = past_get xs n e in omega arith

pub take_set_in : {X : Type 0} (n : ℕ) (xs : List X) (i : ℕ) (y : X) → take n (set xs i y) ≡ set (take n xs) i y
take_set_in zero [] i y = refl
take_set_in zero (x ∷ xs) i y = refl
take_set_in (suc n) [] i y = refl
take_set_in (suc n) (x ∷ xs) zero y = refl
take_set_in (suc n) (x ∷ xs) (suc i) y = ap (λ ys. x ∷ ys) (take_set_in n xs i y)
