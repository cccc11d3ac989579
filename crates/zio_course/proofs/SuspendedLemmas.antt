-- The requests of suspended trees as lines of a script.
use Rattle.std.proofs.Common.{◌≡◌, ℕ, suc, ◌+◌, ◌<◌, ◌≤◌, length, get_or, arith, List, [], ◌∷◌, map, count_by, drop, true, false, Bool, ◌||◌, cond, eqb, refl, sym, ap, subst, ◌∙◌}
use Rattle.std.proofs.Math.ListN.{get_or-map}
use Rattle.std.proofs.Math.Seq.{drop-cons}
use Rattle.std.proofs.lemmas.List.{drop_all}
use Rattle.zio_script.specs.declared.script.Item.{Item}
use Rattle.zio_script.specs.declared.script.Item.TheVariants.{Request as RequestLine}
use Rattle.zio_script.specs.declared.script.Request.{Request}
use Rattle.zio_script.specs.Requests.{requests_of}
use Rattle.zio_script.specs.Accepted.{AreRising}
use Rattle.std.specs.List.{AllByRecursion}
use Rattle.zio_gang.specs.Attempts.{Pending}
use Rattle.zio_gang.specs.declared.tree.Tree.{Tree}
use Rattle.zio_report.specs.declared.report.ReportLine.{ReportLine}
use Rattle.zio_course.specs.declared.runner.RequestEnd.{RequestEnd}
use Rattle.zio_course.specs.Admissions.{has_number}
use Rattle.zio_course.specs.Answered.{answered_in}
use Rattle.zio_course.specs.Runners.{AreRisingFrom, is_numbered, numbers_of, requests_in}
use Rattle.zio_course.specs.Steps.{AreUnfinished}
use Rattle.zio_course.specs.Told.{AreFinishedOf, no_error}
use Rattle.zio_course.proofs.EndLemmas.{of_some, own_times, times, times_is, true_if}
use Rattle.zio_course.proofs.ToldLemmas.{IsTelling, kept_of, telling_start}

abbrev pub as_lines : List Request → List Item
as_lines requests = map RequestLine requests

pub requests_as_lines : (rs : List Request) → requests_of (as_lines rs) ≡ rs
requests_as_lines [] = refl
requests_as_lines (r ∷ rs) = ap (λ (qs : List Request). r ∷ qs) (requests_as_lines rs)

-- none of them is answered
pub all_kept : (rs : List Request) → kept_of no_error rs ≡ rs
all_kept [] = refl
all_kept (r ∷ rs) = ap (λ (qs : List Request). r ∷ qs) (all_kept rs)

-- the requests before the first of them is told of
pub telling_first : (finished : List RequestEnd) (rs : List Request) (old : List (List ℕ × Tree)) (lines : List ReportLine) → AreRising rs → AreFinishedOf rs finished → lines ≡ []
    → IsTelling no_error finished rs old (as_lines rs) finished lines old []
telling_first finished rs old lines rising left none =
    subst (λ (qs : List Request). IsTelling no_error finished qs old (as_lines rs) finished lines old []) (requests_as_lines rs)
    (telling_start no_error finished (as_lines rs) old lines (subst AreRising (sym (requests_as_lines rs)) rising)
    (subst (λ (qs : List Request). AreFinishedOf (kept_of no_error qs) finished) (sym (requests_as_lines rs))
    (subst (λ (qs : List Request). AreFinishedOf qs finished) (sym (all_kept rs)) left)) none)

len_map : {X Y : Type 0} (f : X → Y) (xs : List X) → length (map f xs) ≡ length xs
len_map f [] = refl
len_map f (x ∷ xs) = ap (λ (n : ℕ). suc n) (len_map f xs)

-- what is left of a list that is mapped, at one of its items
pub drop_first : {X Y : Type 0} (f : X → Y) (xs : List X) (i : ℕ) (x : X) → i < length xs → x ≡ get_or xs i x → drop i (map f xs) ≡ f x ∷ drop (i + 1) (map f xs)
drop_first f xs i x h is =
    let inside : i < length (map f xs) = subst (λ (n : ℕ). i < n) (sym (len_map f xs)) h in
    drop-cons (map f xs) i (f x) inside
    ∙ (ap (λ (y : _). y ∷ drop (suc i) (map f xs)) (get_or-map f xs i x ∙ sym (ap f is))
    ∙ ap (λ (n : ℕ). f x ∷ drop n (map f xs)) (let e : suc i ≡ i + 1 = omega arith in e))

-- at its end nothing is left
pub drop_last : {X Y : Type 0} (f : X → Y) (xs : List X) (i : ℕ) → length xs ≤ i → drop i (map f xs) ≡ []
drop_last f xs i h = drop_all i (map f xs) (subst (λ (n : ℕ). n ≤ i) (sym (len_map f xs)) h)

-- ---- what finished of them

lacking_none : (n : ℕ) (rs : List Request) → has_number n rs ≡ false → times n (numbers_of rs) ≡ 0
lacking_none n [] h = refl
lacking_none n (r ∷ rs) h = go (eqb r.number n) refl (lacking_none n rs) h
  where
    go : (b : Bool) → eqb r.number n ≡ b → (has_number n rs ≡ false → times n (numbers_of rs) ≡ 0) → (b || has_number n rs) ≡ false
        → cond (eqb r.number n) (1 + times n (numbers_of rs)) (times n (numbers_of rs)) ≡ 0
    go true e later k = absurd (let no_one = k in cc)
    go false e later k = ap (λ (b : Bool). cond b (1 + times n (numbers_of rs)) (times n (numbers_of rs))) e ∙ later k

-- what finished of the suspended trees is of some of their requests, in their order
pub finished_of_suspended : (suspended left : List (List Pending)) (rs : List Request) (finished : List RequestEnd) → AreUnfinished suspended rs
    → AreRisingFrom 0 (map (λ (f : RequestEnd). f.request) finished)
    → ((n : ℕ) → count_by (is_numbered n) (numbers_of (requests_in suspended))
    ≡ count_by (is_numbered n) (map (λ (f : RequestEnd). f.request) finished) + count_by (is_numbered n) (numbers_of (requests_in left)))
    → AreFinishedOf rs finished
finished_of_suspended suspended left rs finished h up each =
    of_some rs 0 finished h.rising up (numbered finished (λ n some. true_if (has_number n rs) (λ none.
    (let absent : times n (numbers_of rs) ≡ 0 = lacking_none n rs none in
    let own = times_is n (numbers_of rs) in
    let count = times_is n (map (λ (f : RequestEnd). f.request) finished) in
    let whole = h.each n in
    let split = each n in omega arith))) (own_times (map (λ (f : RequestEnd). f.request) finished)))
  where
    numbered : (fs : List RequestEnd) → ((n : ℕ) → 1 ≤ times n (map (λ (f : RequestEnd). f.request) finished) → has_number n rs ≡ true)
        → AllByRecursion (λ n. 1 ≤ times n (map (λ (f : RequestEnd). f.request) finished)) (map (λ (f : RequestEnd). f.request) fs)
        → AllByRecursion (λ (f : RequestEnd). has_number f.request rs ≡ true) fs
    numbered [] has k = tt
    numbered (f ∷ fs) has k = (has f.request k.0, numbered fs has k.1)

-- nothing is answered before the round of a clear
pub none_answered : (round : ℕ) (rs : List Request) → answered_in no_error round rs ≡ []
none_answered round [] = refl
none_answered round (r ∷ rs) = none_answered round rs
