-- What a loop over what was handed on adds with each item.
use Rattle.std.proofs.Common.{◌≡◌, ℕ, ◌+◌, ◌<◌, List, [], ◌∷◌, ◌++◌, map, reverse, take, get_or, length, sym, ap, ◌∙◌}
use Rattle.std.proofs.lemmas.List.{take_more, reverse-append, map-append}
use Rattle.zio_types.specs.declared.error.Errno.{Errno}
use Rattle.std.specs.Prelude.{Option, None}
use Rattle.zio_plain.specs.declared.waiting.Kept.{Kept}
use Rattle.zio_types.specs.Errors.{worst_error, worst_of}
use Rattle.zio_types.proofs.ErrorLemmas.{worst_error_assoc, worst_error_comm}

-- one item more
pub next_taken : {X : Type 0} (xs : List X) (i : ℕ) (x : X) → i < length xs → x ≡ get_or xs i x → take (i + 1) xs ≡ take i xs ++ x ∷ []
next_taken xs i x h is = take_more xs i x h ∙ ap (λ y. take i xs ++ y ∷ []) (sym is)

-- the last one comes first
pub next_reversed : {X : Type 0} (xs : List X) (i : ℕ) (x : X) → i < length xs → x ≡ get_or xs i x → reverse (take (i + 1) xs) ≡ x ∷ reverse (take i xs)
next_reversed xs i x h is = ap reverse (next_taken xs i x h is) ∙ reverse-append (take i xs) (x ∷ [])

pub worst_of-append : (es : List (Option Errno)) (e : Option Errno) → worst_of (es ++ e ∷ []) ≡ worst_error (worst_of es) e
worst_of-append [] e = worst_error_comm e None
worst_of-append (f ∷ es) e = ap (worst_error f) (worst_of-append es e) ∙ worst_error_assoc f (worst_of es) e

-- the worst error with each child
pub worst_step : (children : List Kept) (i : ℕ) (d : Kept) (error after : Option Errno) → i < length children
    → error ≡ worst_of (map (λ (k : Kept). k.error) (take i children)) → after ≡ worst_error error (get_or children i d).error
    → after ≡ worst_of (map (λ (k : Kept). k.error) (take (i + 1) children))
worst_step children i d error after h before one =
    one ∙ ap (λ e. worst_error e (get_or children i d).error) before
    ∙ sym (worst_of-append (map (λ (k : Kept). k.error) (take i children)) (get_or children i d).error)
    ∙ ap worst_of (sym (map-append (λ (k : Kept). k.error) (take i children) (get_or children i d ∷ [])))
    ∙ ap (λ ks. worst_of (map (λ (k : Kept). k.error) ks)) (sym (take_more children i d h))
