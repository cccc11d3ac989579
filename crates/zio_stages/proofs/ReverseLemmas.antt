-- Lists turned round.
use Rattle.std.proofs.Common.{◌≡◌, List, [], ◌∷◌, ◌++◌, reverse, refl, sym, ap, ◌∙◌, subst}
use Rattle.std.specs.List.{AllByRecursion}
use Rattle.std.proofs.lemmas.List.{reverse-append}
use Rattle.zio_cksum.proofs.AllLemmas.{all_append}

pub reverse_first : {X : Type 0} (x : X) (xs : List X) → reverse (x ∷ xs) ≡ reverse xs ++ x ∷ []
reverse_first x xs = reverse-append (x ∷ []) xs

pub reverse_last : {X : Type 0} (x : X) (xs : List X) → reverse (xs ++ x ∷ []) ≡ x ∷ reverse xs
reverse_last x xs = reverse-append xs (x ∷ [])

pub reverse_twice : {X : Type 0} (xs : List X) → reverse (reverse xs) ≡ xs
reverse_twice [] = refl
reverse_twice (x ∷ xs) = ap reverse (reverse_first x xs) ∙ reverse_last x (reverse xs) ∙ ap (λ ys. x ∷ ys) (reverse_twice xs)

pub all_reversed : {X : Type 0} (P : X → Type 0) (xs : List X) → AllByRecursion P xs → AllByRecursion P (reverse xs)
all_reversed P [] h = tt
all_reversed {X} P (x ∷ xs) h =
    subst (AllByRecursion P) (sym (reverse_first x xs)) (all_append P (reverse xs) (x ∷ []) (all_reversed P xs h.1) (h.0, tt))
