-- What some writes came to, counted.
use Rattle.std.proofs.Common.{◌≡◌, ℕ, ◌+◌, ◌<◌, List, [], ◌∷◌, ◌++◌, length, get_or, take, Option, ap, ◌∙◌, arith}
use Rattle.zio_types.specs.declared.error.Errno.{Errno}
use Rattle.zio_groups.specs.declared.waiting.Answered.{Answered}
use Rattle.zio_groups.proofs.IssueLemmas.{taken_more}
use Rattle.zio_scrub.specs.Repairs.{errors_of}
use Rattle.zio_scrub.specs.Scrubs.{total}

total_more : (f : Option Errno → ℕ) (xs : List Answered) (x : Answered)
    → total f (errors_of (xs ++ x ∷ [])) ≡ total f (errors_of xs) + f x.error
total_more f [] x = omega arith
total_more f (y ∷ ys) x = omega (arith, total_more f ys x)

-- one more of them
pub counted_more : (f : Option Errno → ℕ) (xs : List Answered) (i : ℕ) (x : Answered) → i < length xs → x ≡ get_or xs i x
    → total f (errors_of (take (i + 1) xs)) ≡ total f (errors_of (take i xs)) + f x.error
counted_more f xs i x l e = ap (λ (ys : List Answered). total f (errors_of ys)) (taken_more xs i x l e) ∙ total_more f (take i xs) x
