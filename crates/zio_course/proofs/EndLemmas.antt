-- What finished in a round is of some of the requests that ran.
use Rattle.std.proofs.Common.{◌≡◌, ℕ, ◌+◌, ◌<◌, ◌≤◌, List, [], ◌∷◌, ◌++◌, map, count_by, Bool, true, false, ◌||◌, cond, Option, Some, None, eqb, eqb-true, eq-eqb, refl, sym, ap, ◌∙◌, inl, inr, arith}
use Rattle.std.proofs.lemmas.Bool.{false_from_ne_true}
use Rattle.std.proofs.lemmas.List.Recursion.{is_count_by}
use Rattle.std.specs.List.{AllByRecursion}
use Rattle.zio_script.specs.declared.script.Request.{Request}
use Rattle.zio_script.specs.Accepted.{AreRising}
use Rattle.zio_gang.specs.Attempts.{Pending}
use Rattle.zio_gang.specs.Rounds.{Bound, pending, pending_trees, put_before, trees_of, with_request, with_requests}
use Rattle.zio_course.specs.declared.runner.RequestEnd.{RequestEnd}
use Rattle.zio_course.specs.Admissions.{has_number}
use Rattle.zio_course.specs.Runners.{AreRisingFrom, is_numbered, joined_trees, numbers_of, requests_in}
use Rattle.zio_course.specs.Told.{AreFinishedOf}
use Rattle.zio_course.proofs.ForestLemmas.{all_put, all_then}

-- ---- numbers

-- how often a number stands there
abbrev pub times : ℕ → List ℕ → ℕ
times n [] = 0
times n (m ∷ ms) = cond (eqb m n) (1 + times n ms) (times n ms)

pub times_is : (n : ℕ) (ns : List ℕ) → times n ns ≡ count_by (is_numbered n) ns
times_is n ns = is_count_by (times n) (is_numbered n) refl (λ m ms. refl) ns

some_if : (b : Bool) (k : ℕ) → b ≡ true → 1 ≤ cond b (1 + k) k
some_if true k e = omega arith
some_if false k e = absurd (let f = e in cc)

more_if : (b : Bool) (k : ℕ) → 1 ≤ k → 1 ≤ cond b (1 + k) k
more_if true k h = omega arith
more_if false k h = h

pub own_times : (ns : List ℕ) → AllByRecursion (λ n. 1 ≤ times n ns) ns
own_times [] = tt
own_times (m ∷ ms) = (
  some_if (eqb m m) (times m ms) (eq-eqb m m refl),
  all_then (λ n. 1 ≤ times n ms) (λ n. 1 ≤ times n (m ∷ ms)) ms (λ n h. more_if (eqb m n) (times n ms) h) (own_times ms),
)

none_if : (b : Bool) (k : ℕ) → b ≡ false → k ≡ 0 → cond b (1 + k) k ≡ 0
none_if true k e h = absurd (let f = e in cc)
none_if false k e h = h

no_times : (n : ℕ) (ps : List Pending) → AllByRecursion (λ (p : Pending). eqb p.request.number n ≡ false) ps
    → times n (numbers_of (map (λ (p : Pending). p.request) ps)) ≡ 0
no_times n [] h = refl
no_times n (p ∷ ps) h = none_if (eqb p.request.number n) (times n (numbers_of (map (λ (p : Pending). p.request) ps))) h.0 (no_times n ps h.1)

-- ---- what holds of a batch's requests holds of its trees'

all_puts : (P : Request → Type 0) (p : ℕ) (r : Request) (trees : List (List Request)) → P r → AllByRecursion (λ tree. AllByRecursion P tree) trees
    → AllByRecursion (λ tree. AllByRecursion P tree) (map (put_before p r) trees)
all_puts P p r [] pr h = tt
all_puts P p r (t ∷ ts) pr h = (all_put P p r t pr h.0, all_puts P p r ts pr h.1)

all_pushed : (P : Request → Type 0) (r : Request) (trees : List (List Request)) → P r → AllByRecursion (λ tree. AllByRecursion P tree) trees
    → AllByRecursion (λ tree. AllByRecursion P tree) (trees ++ (r ∷ []) ∷ [])
all_pushed P r [] pr h = ((pr, tt), tt)
all_pushed P r (t ∷ ts) pr h = (h.0, all_pushed P r ts pr h.1)

all_with : (P : Request → Type 0) (under : Option ℕ) (r : Request) (trees : List (List Request)) → P r → AllByRecursion (λ tree. AllByRecursion P tree) trees
    → AllByRecursion (λ tree. AllByRecursion P tree) (with_request under r trees)
all_with P None r trees pr h = all_pushed P r trees pr h
all_with P (Some p) r trees pr h = all_puts P p r trees pr h

all_requests : (P : Request → Type 0) (rs : List Request) (trees : List (List Request)) → AllByRecursion P rs → AllByRecursion (λ tree. AllByRecursion P tree) trees
    → AllByRecursion (λ tree. AllByRecursion P tree) (with_requests rs trees)
all_requests P [] trees h ht = ht
all_requests P (r ∷ rs) trees h ht = all_requests P rs (with_request r.under r trees) h.1 (all_with P r.under r trees h.0 ht)

pub all_in_trees : (P : Request → Type 0) (rs : List Request) → AllByRecursion P rs → AllByRecursion (λ tree. AllByRecursion P tree) (trees_of rs)
all_in_trees P rs h = all_requests P rs [] h tt

all_front_pending : (P : Request → Type 0) (bound : Bound) (birth : ℕ) (tree : List Request) (others : List Pending) → AllByRecursion P tree
    → AllByRecursion (λ (p : Pending). P p.request) others → AllByRecursion (λ (p : Pending). P p.request) (map (pending bound birth) tree ++ others)
all_front_pending P bound birth [] others h ho = ho
all_front_pending P bound birth (r ∷ rs) others h ho = (h.0, all_front_pending P bound birth rs others h.1 ho)

all_pending : (P : Request → Type 0) (bound : Bound) (birth : ℕ) (trees : List (List Request)) → AllByRecursion (λ tree. AllByRecursion P tree) trees
    → AllByRecursion (λ (p : Pending). P p.request) (joined_trees (pending_trees bound birth trees))
all_pending P bound birth [] h = tt
all_pending P bound birth (t ∷ ts) h =
    all_front_pending P bound birth t (joined_trees (pending_trees bound birth ts)) h.0 (all_pending P bound birth ts h.1)

-- ---- numbers that a batch lacks

lacks : (n : ℕ) (rs : List Request) → has_number n rs ≡ false → AllByRecursion (λ (q : Request). eqb q.number n ≡ false) rs
lacks n [] h = tt
lacks n (r ∷ rs) h = let both = parts (eqb r.number n) (has_number n rs) h in (both.0, lacks n rs both.1)
  where
    parts : (a b : Bool) → (a || b) ≡ false → (a ≡ false) × (b ≡ false)
    parts true b e = absurd (let f = e in cc)
    parts false b e = (refl, e)

-- a number that no request has doesn't stand in the trees
lacking : (n : ℕ) (bound : Bound) (birth : ℕ) (rs : List Request) → has_number n rs ≡ false
    → count_by (is_numbered n) (numbers_of (requests_in (pending_trees bound birth (trees_of rs)))) ≡ 0
lacking n bound birth rs h =
    sym (times_is n (numbers_of (requests_in (pending_trees bound birth (trees_of rs)))))
    ∙ no_times n (joined_trees (pending_trees bound birth (trees_of rs)))
    (all_pending (λ (q : Request). eqb q.number n ≡ false) bound birth (trees_of rs) (all_in_trees (λ (q : Request). eqb q.number n ≡ false) rs (lacks n rs h)))

pub true_if : (b : Bool) → (b ≡ false → ⊥) → b ≡ true
true_if true h = refl
true_if false h = absurd (h refl)

-- ---- in their order

above_found_if : (b : Bool) (n m : ℕ) (r : Request) (rs : List Request) → eqb r.number m ≡ b → (b || has_number m rs) ≡ true → n < r.number
    → (has_number m rs ≡ true → n < m) → n < m
above_found_if true n m r rs e has low later = let same : r.number ≡ m = eqb-true r.number m e in omega arith
above_found_if false n m r rs e has low later = later has

above_found : (n m : ℕ) (rs : List Request) → AllByRecursion (λ (q : Request). n < q.number) rs → has_number m rs ≡ true → n < m
above_found n m [] h has = absurd (let f = has in cc)
above_found n m (r ∷ rs) h has = above_found_if (eqb r.number m) n m r rs refl has h.0 (λ later. above_found n m rs h.1 later)

-- a number above the first request's stands among the others
behind : (r : Request) (rs : List Request) (m : ℕ) → r.number < m → has_number m (r ∷ rs) ≡ true → has_number m rs ≡ true
behind r rs m h has =
    let other : eqb r.number m ≡ false = false_from_ne_true (eqb r.number m) (λ e. let same : r.number ≡ m = eqb-true r.number m e in omega arith) in
    sym (ap (λ (b : Bool). b || has_number m rs) other) ∙ has

all_behind : (r : Request) (rs : List Request) (least : ℕ) (fs : List RequestEnd) → r.number < least
    → AreRisingFrom least (map (λ (f : RequestEnd). f.request) fs) → AllByRecursion (λ (f : RequestEnd). has_number f.request (r ∷ rs) ≡ true) fs
    → AllByRecursion (λ (f : RequestEnd). has_number f.request rs ≡ true) fs
all_behind r rs least [] low rising h = tt
all_behind r rs least (f ∷ fs) low rising h = (
  behind r rs f.request (omega (arith, rising.0)) h.0,
  all_behind r rs (f.request + 1) fs (omega (arith, rising.0)) rising.1 h.1,
)

of_some_if : (b : Bool) (r : Request) (rs : List Request) (least : ℕ) (f : RequestEnd) (fs : List RequestEnd) → eqb r.number f.request ≡ b
    → AllByRecursion (λ (q : Request). r.number < q.number) rs
    → AreRisingFrom least (map (λ (f : RequestEnd). f.request) (f ∷ fs)) → AllByRecursion (λ (f : RequestEnd). has_number f.request (r ∷ rs) ≡ true) (f ∷ fs)
    → ((l : ℕ) (gs : List RequestEnd) → AreRisingFrom l (map (λ (f : RequestEnd). f.request) gs) → AllByRecursion (λ (f : RequestEnd). has_number f.request rs ≡ true) gs → AreFinishedOf rs gs)
    → AreFinishedOf (r ∷ rs) (f ∷ fs)
of_some_if true r rs least f fs e above rising h later =
    let same : r.number ≡ f.request = eqb-true r.number f.request e in
    inl (sym same, later (f.request + 1) fs rising.1 (all_behind r rs (f.request + 1) fs (omega arith) rising.1 h.1))
of_some_if false r rs least f fs e above rising h later =
    let here : has_number f.request rs ≡ true = sym (ap (λ (b : Bool). b || has_number f.request rs) e) ∙ h.0 in
    let low : r.number < f.request = above_found r.number f.request rs above here in
    inr (later least (f ∷ fs) rising (here, all_behind r rs (f.request + 1) fs (omega arith) rising.1 h.1))

none_finish : (rs : List Request) → AreFinishedOf rs []
none_finish [] = tt
none_finish (r ∷ rs) = tt

pub of_some : (rs : List Request) (least : ℕ) (fs : List RequestEnd) → AreRising rs → AreRisingFrom least (map (λ (f : RequestEnd). f.request) fs)
    → AllByRecursion (λ (f : RequestEnd). has_number f.request rs ≡ true) fs → AreFinishedOf rs fs
of_some rs least [] rising low h = none_finish rs
of_some [] least (f ∷ fs) rising low h = absurd (let no = h.0 in cc)
of_some (r ∷ rs) least (f ∷ fs) rising low h =
    of_some_if (eqb r.number f.request) r rs least f fs refl rising.0 low h (λ l gs up has. of_some rs l gs rising.1 up has)

-- where each request finished or is left, what finished is of some requests of the batch, in their order
pub finished_of_batch : (bound : Bound) (birth : ℕ) (rs : List Request) (finished : List RequestEnd) (left : List ℕ) → AreRising rs
    → AreRisingFrom 0 (map (λ (f : RequestEnd). f.request) finished)
    → ((n : ℕ) → count_by (is_numbered n) (numbers_of (requests_in (pending_trees bound birth (trees_of rs))))
    ≡ count_by (is_numbered n) (map (λ (f : RequestEnd). f.request) finished) + count_by (is_numbered n) left)
    → AreFinishedOf rs finished
finished_of_batch bound birth rs finished left rising up each =
    of_some rs 0 finished rising up
    (numbered finished (λ n some. true_if (has_number n rs) (λ none.
    (let absent = lacking n bound birth rs none in
    let count = times_is n (map (λ (f : RequestEnd). f.request) finished) in
    let split = each n in omega arith))) (own_times (map (λ (f : RequestEnd). f.request) finished)))
  where
    numbered : (fs : List RequestEnd) → ((n : ℕ) → 1 ≤ times n (map (λ (f : RequestEnd). f.request) finished) → has_number n rs ≡ true)
        → AllByRecursion (λ n. 1 ≤ times n (map (λ (f : RequestEnd). f.request) finished)) (map (λ (f : RequestEnd). f.request) fs)
        → AllByRecursion (λ (f : RequestEnd). has_number f.request rs ≡ true) fs
    numbered [] has h = tt
    numbered (f ∷ fs) has h = (has f.request h.0, numbered fs has h.1)
