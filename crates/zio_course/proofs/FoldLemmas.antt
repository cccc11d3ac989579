-- What became of a round's requests, one by one.
use Rattle.std.proofs.Common.{◌≡◌, ℕ, suc, arith, ◌+◌, ◌<◌, List, ◌∷◌, ◌++◌, drop, length, get_or, Bool, true, false, ◌||◌, Some, refl, sym, ap, ◌∙◌}
use Rattle.std.proofs.Math.Seq.{drop-cons}
use Rattle.std.proofs.lemmas.List.Folds.{list_any-append}
use Rattle.zio_script.specs.declared.script.Request.{Request}
use Rattle.zio_script.specs.Requests.{name_of, names_it}
use Rattle.zio_report.specs.declared.report.ReportLine.{ReportLine}
use Rattle.zio_course.specs.Folds.{is_named_by, waiting_by, waiting_of}

pub own_first : {X : Type 0} (xs : List X) (i : ℕ) (x : X) → i < length xs → x ≡ get_or xs i x → drop i xs ≡ x ∷ drop (i + 1) xs
own_first xs i x h is =
    drop-cons xs i x h
    ∙ (ap (λ (y : _). y ∷ drop (suc i) xs) (sym is)
    ∙ ap (λ (n : ℕ). x ∷ drop n xs) (let e : suc i ≡ i + 1 = omega arith in e))

pub waits_next : (rs : List Request) (ls : List ReportLine) (i : ℕ) (r : Request) (l : ReportLine) → drop i rs ≡ r ∷ drop (i + 1) rs → drop i ls ≡ l ∷ drop (i + 1) ls
    → waiting_of (drop i rs) (drop i ls) ≡ waiting_by l.result r ++ waiting_of (drop (i + 1) rs) (drop (i + 1) ls)
waits_next rs ls i r l first this =
    ap (λ (xs : List Request). waiting_of xs (drop i ls)) first ∙ ap (λ (ys : List ReportLine). waiting_of (r ∷ drop (i + 1) rs) ys) this

pub named_both : (xs ys : List Request) (name : List ℕ) → is_named_by (xs ++ ys) name ≡ (is_named_by xs name || is_named_by ys name)
named_both xs ys name = list_any-append (λ (r : Request). names_it (Some name) (name_of r.work)) xs ys

pub or_three : (a b c : Bool) → ((a || b) || c) ≡ (a || (b || c))
or_three true b c = refl
or_three false b c = refl
