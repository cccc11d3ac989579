-- A round's end: from what its trees left and which requests finished, in whatever order, to what a runner says of it.
use Rattle.std.proofs.Common.{◌≡◌, ℕ, ◌+◌, ◌≤◌, List, [], ◌∷◌, map, cond, true, ◌==◌, eq-eqb, refl, sym, ap, ◌∙◌, subst, inl, inr, arith}
use Rattle.std.specs.Prelude.{Contains, IsPermutation}
use Rattle.std.specs.List.{AllByRecursion}
use Rattle.std.specs.List.Sorted.{IsNonDecreasingBy}
use Rattle.std.proofs.lemmas.List.Sorted.{IsPermutation-map, IsPermutation-sym, IsPermutation-trans}
use Rattle.std.proofs.lemmas.List.Sums.{sum_by-cons}
use Rattle.zio_script.specs.declared.script.Request.{Request}
use Rattle.zio_script.specs.Requests.{makes_block}
use Rattle.zio_gang.specs.Attempts.{Ended, Pending}
use Rattle.zio_gang.specs.Journals.{CompleteOnce}
use Rattle.zio_trace.specs.Rounds.{Round}
use Rattle.zio_course.specs.declared.runner.RequestEnd.{RequestEnd}
use Rattle.zio_course.specs.Runners.{AreRisingFrom, AreRunnable, MakesTree, Standing, completion_for, finished_by_number, finished_of, is_numbered, joined_trees, numbers_of, requests_in}
use Rattle.zio_course.proofs.DoneLemmas.{contains_one}
use Rattle.zio_course.proofs.SortLemmas.{IsOneOf, IsRisingBy}
use Rattle.zio_course.proofs.NumberCounts.{complete_once, counted, ends_numbers, requests_counted}
use Rattle.zio_course.proofs.NumberSorts.{all_moved, all_there, counted_moved, merged_is, numbers_rise, rising_by}
use Rattle.zio_sound.specs.Leaving.{LeavesTrees, MakesOwn, requests_ended}
use Rattle.zio_graph.specs.RoundEnds.{IsByNumber, TellsRound, completions_of}

abbrev number : RequestEnd → ℕ
number f = f.request

-- ---- one request a number

numbered_more : {X : Type 0} (of : X → ℕ) (n : ℕ) (x : X) (xs : List X)
    → counted n (map of (x ∷ xs)) ≡ cond {A = ℕ} (of x == n) 1 0 + counted n (map of xs)
numbered_more of n x xs = sum_by-cons (λ m. cond {A = ℕ} (is_numbered n m) 1 0) (of x) (map of xs)

counted_there : {X : Type 0} (of : X → ℕ) (x : X) (xs : List X) → IsOneOf x xs → 1 ≤ counted (of x) (map of xs)
counted_there of x [] h = absurd h
counted_there of x (y ∷ ys) (inl e) =
    let all = numbered_more of (of x) y ys in
    let one : cond {A = ℕ} (of y == of x) 1 0 ≡ 1 = ap (λ b. cond {A = ℕ} b 1 0) (eq-eqb (of y) (of x) (ap of e)) in omega arith
counted_there of x (y ∷ ys) (inr h) = let all = numbered_more of (of x) y ys in let rest = counted_there of x ys h in omega arith

-- where no number stands twice, two items of the same number are one
pub one_numbered : {X : Type 0} (of : X → ℕ) (x y : X) (zs : List X) → ((n : ℕ) → counted n (map of zs) ≤ 1) → IsOneOf x zs → IsOneOf y zs
    → of x ≡ of y → x ≡ y
one_numbered of x y [] once h k same = absurd h
one_numbered of x y (z ∷ zs) once (inl e) (inl g) same = sym e ∙ g
one_numbered of x y (z ∷ zs) once (inl e) (inr k) same =
    let all = numbered_more of (of y) z zs in
    let one : cond {A = ℕ} (of z == of y) 1 0 ≡ 1 = ap (λ b. cond {A = ℕ} b 1 0) (eq-eqb (of z) (of y) (ap of e ∙ same)) in
    let there = counted_there of y zs k in let most = once (of y) in absurd (omega arith)
one_numbered of x y (z ∷ zs) once (inr h) (inl g) same =
    let all = numbered_more of (of x) z zs in
    let one : cond {A = ℕ} (of z == of x) 1 0 ≡ 1 = ap (λ b. cond {A = ℕ} b 1 0) (eq-eqb (of z) (of x) (ap of g ∙ sym same)) in
    let there = counted_there of x zs h in let most = once (of x) in absurd (omega arith)
one_numbered of x y (z ∷ zs) once (inr h) (inr k) same =
    one_numbered of x y zs (λ n. (let all = numbered_more of n z zs in let most = once n in omega arith)) h k same

ended_numbers : (es : List Ended) → ends_numbers (map finished_of es) ≡ numbers_of (requests_ended es)
ended_numbers [] = refl
ended_numbers (e ∷ es) = ap (λ (ns : List ℕ). e.request.number ∷ ns) (ended_numbers es)

-- ---- the end of a round

module _ (s : Standing) (round : ℕ) (trees : List (List Pending)) (r : Round) (ended : List Ended) (fs : List RequestEnd)
    (runs : AreRunnable s trees) (leaves : LeavesTrees trees r) (moved : IsPermutation ended r.ended)
    (sorted : IsPermutation (map finished_of ended) fs) (order : IsNonDecreasingBy number fs) where
  from_round : IsPermutation (map finished_of r.ended) fs
  from_round =
      IsPermutation-trans (map finished_of r.ended) (map finished_of ended) fs
      (IsPermutation-sym (map finished_of ended) (map finished_of r.ended) (IsPermutation-map finished_of ended r.ended moved)) sorted

  counts : (n : ℕ) → counted n (ends_numbers fs) ≡ counted n (numbers_of (requests_ended r.ended))
  counts n = counted_moved n (map finished_of r.ended) fs from_round ∙ ap (counted n) (ended_numbers r.ended)

  trees_once : (n : ℕ) → counted n (numbers_of (requests_in trees)) ≤ 1
  trees_once n = subst (λ m. m ≤ 1) (sym (requests_counted n (requests_in trees))) (runs.once n)

  ends_once : (n : ℕ) → counted n (ends_numbers fs) ≤ 1
  ends_once n = let a = counts n in let b = leaves.each n in let c = trees_once n in omega arith

  rising : IsRisingBy number fs
  rising = rising_by fs order ends_once

  pub finished_is : fs ≡ finished_by_number r.ended
  finished_is = merged_is (map finished_of r.ended) fs from_round rising

  pub each_ends : (n : ℕ) → counted n (numbers_of (requests_in trees)) ≡ counted n (ends_numbers fs) + counted n (numbers_of (requests_in r.left))
  each_ends n = let a = counts n in let b = leaves.each n in omega arith

  pub numbers_rise_up : AreRisingFrom 0 (ends_numbers fs)
  numbers_rise_up = numbers_rise fs rising

  -- a block is made by a write or a claim alone
  makes_one : (e : Ended) → MakesOwn e → Contains (requests_in trees) e.request → MakesTree trees (finished_of e)
  makes_one e makes from = λ some. (makes.well some, by_number (makes.makes some) (joined_trees trees) (λ q there. there))
    where
      by_number : makes_block e.request.work ≡ true → (ps : List Pending) → ((q : Request) → IsOneOf q (map (λ (p : Pending). p.request) ps) → IsOneOf q (requests_in trees))
          → AllByRecursion (λ (p : Pending). p.request.number ≡ e.request.number → makes_block p.request.work ≡ true) ps
      by_number made [] within = tt
      by_number made (p ∷ ps) within = (
        (λ same. subst (λ (q : Request). makes_block q.work ≡ true)
            (one_numbered (λ (q : Request). q.number) e.request p.request (requests_in trees) trees_once (contains_one e.request (requests_in trees) from) (within p.request (inl refl)) (sym same))
            made),
        by_number made ps (λ q there. within q (inr there)),
      )

  makes_all : (es : List Ended) → AllByRecursion MakesOwn es → AllByRecursion (λ (e : Ended). Contains (requests_in trees) e.request) es
      → AllByRecursion (MakesTree trees) (map finished_of es)
  makes_all [] makes from = tt
  makes_all (e ∷ es) makes from = (makes_one e makes.0 from.0, makes_all es makes.1 from.1)

  pub makers_right : AllByRecursion (MakesTree trees) fs
  makers_right = all_moved (MakesTree trees) (map finished_of r.ended) fs from_round (makes_all r.ended leaves.makers leaves.from)

  -- ---- completions, in the order in which the requests finished

  pub completed : AllByRecursion (λ c. Contains (map (completion_for round) fs) c) (completions_of round ended)
  completed = all_there (completion_for round) (map finished_of ended) fs sorted

  pub all_completed : AllByRecursion (λ c. Contains (completions_of round ended) c) (map (completion_for round) fs)
  all_completed = all_there (completion_for round) fs (map finished_of ended) (IsPermutation-sym (map finished_of ended) fs sorted)

  pub once_completed : CompleteOnce (completions_of round ended)
  once_completed =
      complete_once round (map finished_of ended)
      (λ n. (let a = counted_moved n (map finished_of ended) fs sorted in let b = ends_once n in omega arith))

pub tells_round : (s : Standing) (round : ℕ) (trees : List (List Pending)) (r : Round) (ended : List Ended) (fs : List RequestEnd) → AreRunnable s trees
    → LeavesTrees trees r → IsPermutation ended r.ended → IsByNumber ended fs → TellsRound round trees r ended fs
tells_round s round trees r ended fs runs leaves moved sorted = record {
  finished_is = finished_is s round trees r ended fs runs leaves moved sorted.same sorted.order;
  each = each_ends s round trees r ended fs runs leaves moved sorted.same sorted.order;
  rising = numbers_rise_up s round trees r ended fs runs leaves moved sorted.same sorted.order;
  makers = makers_right s round trees r ended fs runs leaves moved sorted.same sorted.order;
  completed = completed s round trees r ended fs runs leaves moved sorted.same sorted.order;
  all_completed = all_completed s round trees r ended fs runs leaves moved sorted.same sorted.order;
  once = once_completed s round trees r ended fs runs leaves moved sorted.same sorted.order;
}
