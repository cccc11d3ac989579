-- How often a number stands in what trees become: each request finishes or is left.
use Rattle.std.proofs.Common.{◌≡◌, ℕ, ◌+◌, ◌≤◌, List, [], ◌∷◌, ◌++◌, map, cond, count_by, Bool, true, false, ◌==◌, eq-eqb, eqb, eqb-true, refl, sym, ap, ◌∙◌, arith}
use Rattle.std.specs.Prelude.{Some, None, IfSome, option_to_list}
use Rattle.std.specs.List.{AllByRecursion}
use Rattle.std.proofs.lemmas.List.{map-append}
use Rattle.std.proofs.lemmas.List.Sums.{sum_by-append, sum_by-cons}
use Rattle.zio_types.specs.declared.journal.Completion.{Completion}
use Rattle.zio_cksum.proofs.AllLemmas.{all_append}
use Rattle.zio_script.specs.declared.script.Request.{Request}
use Rattle.zio_disks.specs.Whole.{IsWholeTree}
use Rattle.zio_gang.specs.Attempts.{Pending}
use Rattle.zio_gang.specs.Journals.{CompleteOnce}
use Rattle.zio_gang.specs.Rounds.{add_left}
use Rattle.zio_course.specs.declared.runner.RequestEnd.{RequestEnd}
use Rattle.zio_course.specs.Runners.{completion_for, is_numbered, made_trees, numbers_of, requests_in as requests_of}
use Rattle.zio_course.proofs.NumberCounts.{counted, counted_append, counted_cons, ends_numbers, requests_counted}
use Rattle.zio_plain.specs.declared.judge.Fate.{Fate}
use Rattle.zio_plain.specs.declared.judge.Fate.TheVariants.{Ends, Again}
use Rattle.zio_plain.specs.declared.waiting.Waiting.{Waiting}
use Rattle.zio_plain.specs.Judgments.{again_of, ends_of}
use Rattle.zio_plain.specs.Passes.{AreChained, Fated, IsFated, IsFateOf, all_ends, ends_in, left_in, waitings_in}
use Rattle.zio_plain.specs.Posts.{requests_in}
use Rattle.zio_plain.specs.Settlings.{IsTreeRun, TreeRun, ends_run, trees_in, trees_left}
use Rattle.zio_plain.specs.Waits.{pendings}
use Rattle.zio_plain.proofs.SettlingLemmas.{requests_one}

abbrev one_if : Bool → ℕ
one_if b = cond {A = ℕ} b 1 0

abbrev pub waits_numbers : List Waiting → List ℕ
waits_numbers ws = numbers_of (requests_in ws)

-- ---- each request finishes or is left

pass_counted : (n : ℕ) (fs : List Fated) → AllByRecursion IsFated fs → counted n (waits_numbers (waitings_in fs)) ≡ counted n (ends_numbers (ends_in fs)) + counted n (waits_numbers (left_in fs))
pass_counted n [] each = refl
pass_counted n (f ∷ fs) each =
    counted_cons n f.waiting.request.number (waits_numbers (waitings_in fs)) ∙ ap (λ m. one_if (f.waiting.request.number == n) + m) (pass_counted n fs each.1)
    ∙ one f.fate each.0.is
  where
    one : (fate : Fate) → IsFateOf f.waiting each.0.kids fate → one_if (f.waiting.request.number == n) + (counted n (ends_numbers (ends_in fs)) + counted n (waits_numbers (left_in fs)))
        ≡ counted n (ends_numbers (ends_of fate ++ ends_in fs)) + counted n (waits_numbers (again_of fate ++ left_in fs))
    one (Ends e) is =
        let a = counted_cons n e.request (ends_numbers (ends_in fs)) in
        let b : one_if (e.request == n) ≡ one_if (f.waiting.request.number == n) = ap (λ m. one_if (m == n)) is.request in omega arith
    one (Again v) is =
        let a = counted_cons n v.request.number (waits_numbers (left_in fs)) in
        let b : one_if (v.request.number == n) ≡ one_if (f.waiting.request.number == n) = ap (λ (r : Request). one_if (r.number == n)) is.request in omega arith

chain_counted : (n : ℕ) (tree : List Waiting) (passes : List (List Fated)) (left : List Waiting) → AreChained tree passes left
    → counted n (waits_numbers tree) ≡ counted n (ends_numbers (all_ends passes)) + counted n (waits_numbers left)
chain_counted n tree [] left h =
    let e : counted n (waits_numbers tree) ≡ counted n (waits_numbers left) = ap (λ ws. counted n (waits_numbers ws)) (sym h) in omega arith
chain_counted n tree (fs ∷ passes) left h =
    let a = pass_counted n fs h.0.each in
    let b = chain_counted n (left_in fs) passes left h.1 in
    let c = counted_append n (ends_numbers (ends_in fs)) (ends_numbers (all_ends passes)) in
    let d : counted n (ends_numbers (ends_in fs ++ all_ends passes)) ≡ counted n (ends_numbers (ends_in fs) ++ ends_numbers (all_ends passes)) =
    ap (counted n) (map-append (λ (f : RequestEnd). f.request) (ends_in fs) (all_ends passes)) in
    ap (λ ws. counted n (waits_numbers ws)) h.0.whole ∙ (omega arith)

numbers_append : (xs ys : List Request) → numbers_of (xs ++ ys) ≡ numbers_of xs ++ numbers_of ys
numbers_append xs ys = map-append (λ (r : Request). r.number) xs ys

pub left_requests : (ws : List Waiting) (trees : List (List Pending)) → requests_of (add_left (pendings ws) trees) ≡ requests_in ws ++ requests_of trees
left_requests [] trees = refl
left_requests (w ∷ ws) trees = requests_one (w ∷ ws) trees

pub runs_counted : (n : ℕ) (runs : List TreeRun) → AllByRecursion IsTreeRun runs
    → counted n (numbers_of (requests_of (trees_in runs))) ≡ counted n (ends_numbers (ends_run runs)) + counted n (numbers_of (requests_of (trees_left runs)))
runs_counted n [] each = refl
runs_counted n (r ∷ runs) each =
    let a = chain_counted n r.tree r.passes r.left each.0.chained in
    let b = runs_counted n runs each.1 in
    let c = counted_append n (waits_numbers r.tree) (numbers_of (requests_of (trees_in runs))) in
    let d = counted_append n (waits_numbers r.left) (numbers_of (requests_of (trees_left runs))) in
    let e = counted_append n (ends_numbers (all_ends r.passes)) (ends_numbers (ends_run runs)) in
    let f : counted n (numbers_of (requests_of (trees_in (r ∷ runs)))) ≡ counted n (waits_numbers r.tree ++ numbers_of (requests_of (trees_in runs))) =
    ap (λ rs. counted n (numbers_of rs)) (requests_one r.tree (trees_in runs)) ∙ ap (counted n) (numbers_append (requests_in r.tree) (requests_of (trees_in runs))) in
    let g : counted n (numbers_of (requests_of (trees_left (r ∷ runs)))) ≡ counted n (waits_numbers r.left ++ numbers_of (requests_of (trees_left runs))) =
    ap (λ rs. counted n (numbers_of rs)) (left_requests r.left (trees_left runs)) ∙ ap (counted n) (numbers_append (requests_in r.left) (requests_of (trees_left runs))) in
    let h : counted n (ends_numbers (ends_run (r ∷ runs))) ≡ counted n (ends_numbers (all_ends r.passes) ++ ends_numbers (ends_run runs)) =
    ap (counted n) (map-append (λ (x : RequestEnd). x.request) (all_ends r.passes) (ends_run runs)) in
    omega arith

-- ---- what holds of each that finished

pub runs_ends : (P : RequestEnd → Type 0) → ((w : Waiting) (kids : List _) (f : RequestEnd) → IsFateOf w kids (Ends f) → P f) → (runs : List TreeRun) → AllByRecursion IsTreeRun runs → AllByRecursion P (ends_run runs)
runs_ends P ok [] each = tt
runs_ends P ok (r ∷ runs) each = all_append P (all_ends r.passes) (ends_run runs) (chain r.tree r.passes each.0.chained) (runs_ends P ok runs each.1)
  where
    pass : (fs : List Fated) → AllByRecursion IsFated fs → AllByRecursion P (ends_in fs)
    pass [] h = tt
    pass (f ∷ fs) h = one f.fate h.0.is (pass fs h.1)
      where
        one : (fate : Fate) → IsFateOf f.waiting h.0.kids fate → AllByRecursion P (ends_in fs) → AllByRecursion P (ends_of fate ++ ends_in fs)
        one (Ends e) is rest = (ok f.waiting h.0.kids e is, rest)
        one (Again v) is rest = rest

    chain : (tree : List Waiting) (passes : List (List Fated)) → AreChained tree passes r.left → AllByRecursion P (all_ends passes)
    chain tree [] h = tt
    chain tree (fs ∷ passes) h = all_append P (ends_in fs) (all_ends passes) (pass fs h.0.each) (chain (left_in fs) passes h.1)

pub ends_whole : (fs : List RequestEnd) → AllByRecursion (λ (f : RequestEnd). IfSome f.tree IsWholeTree) fs → AllByRecursion IsWholeTree (made_trees fs)
ends_whole [] h = tt
ends_whole (f ∷ fs) h = all_append IsWholeTree (option_to_list f.tree) (made_trees fs) (listed f.tree h.0) (ends_whole fs h.1)
  where
    listed : (t : _) → IfSome t IsWholeTree → AllByRecursion IsWholeTree (option_to_list t)
    listed None k = tt
    listed (Some t) k = (k, tt)

-- ---- of a round

-- all that finished, from an empty list on
pub ends_are : (finished none : List RequestEnd) (runs : List TreeRun) → none ≡ [] → finished ≡ none ++ ends_run runs → finished ≡ ends_run runs
ends_are finished none runs e h = h ∙ ap (λ fs. fs ++ ends_run runs) e

pub run_counted : (n : ℕ) (trees : List (List Pending)) (runs : List TreeRun) (finished : List RequestEnd) → AllByRecursion IsTreeRun runs → trees ≡ trees_in runs → finished ≡ ends_run runs
    → counted n (numbers_of (requests_of trees)) ≡ counted n (ends_numbers finished) + counted n (numbers_of (requests_of (trees_left runs)))
run_counted n trees runs finished each whole is =
    ap (λ ts. counted n (numbers_of (requests_of ts))) whole ∙ runs_counted n runs each
    ∙ ap (λ fs. counted n (ends_numbers fs) + counted n (numbers_of (requests_of (trees_left runs)))) (sym is)

pub run_once : (trees : List (List Pending)) (runs : List TreeRun) (finished : List RequestEnd) → AllByRecursion IsTreeRun runs → trees ≡ trees_in runs → finished ≡ ends_run runs
    → ((n : ℕ) → count_by (λ (r : Request). r.number == n) (requests_of trees) ≤ 1) → (n : ℕ) → counted n (ends_numbers finished) ≤ 1
run_once trees runs finished each whole is once n =
    let a = run_counted n trees runs finished each whole is in
    let b = requests_counted n (requests_of trees) in
    let most : count_by (λ (r : Request). r.number == n) (requests_of trees) ≤ 1 = once n in omega arith
