-- How often a number stands among requests that finished, and that each completes once.
use Rattle.std.proofs.Common.{◌≡◌, ℕ, ◌+◌, ◌≤◌, List, [], ◌∷◌, ◌++◌, map, cond, count_by, Bool, true, false, ◌==◌, eq-eqb, eqb, eqb-true, refl, sym, ap, ◌∙◌, arith}
use Rattle.std.specs.List.{AllByRecursion}
use Rattle.std.proofs.lemmas.List.Sums.{sum_by-append, sum_by-cons}
use Rattle.zio_types.specs.declared.journal.Completion.{Completion}
use Rattle.zio_script.specs.declared.script.Request.{Request}
use Rattle.zio_gang.specs.Journals.{CompleteOnce}
use Rattle.zio_course.specs.declared.runner.RequestEnd.{RequestEnd}
use Rattle.zio_course.specs.Runners.{completion_for, is_numbered, numbers_of}

abbrev pub counted : ℕ → List ℕ → ℕ
counted n xs = count_by (is_numbered n) xs

abbrev one_if : Bool → ℕ
one_if b = cond {A = ℕ} b 1 0

abbrev pub ends_numbers : List RequestEnd → List ℕ
ends_numbers fs = map (λ (f : RequestEnd). f.request) fs

pub counted_cons : (n x : ℕ) (xs : List ℕ) → counted n (x ∷ xs) ≡ one_if (x == n) + counted n xs
counted_cons n x xs = sum_by-cons (λ m. one_if (is_numbered n m)) x xs

pub counted_append : (n : ℕ) (xs ys : List ℕ) → counted n (xs ++ ys) ≡ counted n xs + counted n ys
counted_append n xs ys = sum_by-append (λ m. one_if (is_numbered n m)) xs ys

pub requests_counted : (n : ℕ) (rs : List Request) → counted n (numbers_of rs) ≡ count_by (λ (r : Request). r.number == n) rs
requests_counted n [] = refl
requests_counted n (r ∷ rs) =
    counted_cons n r.number (numbers_of rs) ∙ ap (λ m. one_if (r.number == n) + m) (requests_counted n rs)
    ∙ sym (sum_by-cons (λ (q : Request). one_if (q.number == n)) r rs)

-- ---- completions

none_other : (n : ℕ) (round : ℕ) (fs : List RequestEnd) (c : Completion) → c.request ≡ n → counted n (ends_numbers fs) ≤ 0 → AllByRecursion (λ (other : Completion). (c.request == other.request) ≡ false) (map (completion_for round) fs)
none_other n round [] c is h = tt
none_other n round (f ∷ fs) c is h =
    let all = counted_cons n f.request (ends_numbers fs) in (
      not_true (eqb c.request f.request) (λ e.
          let same : f.request ≡ n = sym (eqb-true c.request f.request e) ∙ is in
          let one : one_if (f.request == n) ≡ 1 = ap one_if (eq-eqb f.request n same) in omega arith),
      none_other n round fs c is (omega arith),
    )
  where
    not_true : (b : Bool) → (b ≡ true → ⊥) → b ≡ false
    not_true true k = absurd (k refl)
    not_true false k = refl

pub complete_once : (round : ℕ) (fs : List RequestEnd) → ((n : ℕ) → counted n (ends_numbers fs) ≤ 1) → CompleteOnce (map (completion_for round) fs)
complete_once round [] h = tt
complete_once round (f ∷ fs) h = (
  none_other f.request round fs (completion_for round f) refl
      (let all = counted_cons f.request f.request (ends_numbers fs) in
      let one : one_if (f.request == f.request) ≡ 1 = ap one_if (eq-eqb f.request f.request refl) in
      let most = h f.request in omega arith),
  complete_once round fs (λ n. (let all = counted_cons n f.request (ends_numbers fs) in let most = h n in omega arith)),
)
