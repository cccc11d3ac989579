-- Lists of lines and what they tell, one more at a time.
use Rattle.std.proofs.Common.{ℕ, List, [], ◌∷◌, ◌++◌, ◌+◌, ◌<◌, length, map, take, get_or, subst, sym, ◌∙◌, ap}
use Rattle.std.specs.List.{AllZip}
use Rattle.std.proofs.lemmas.List.{map-append, take_more}

pub zip_more : {A B : Type 0} (R : A → B → Type 0) (xs : List A) (ys : List B) (x : A) (y : B) → AllZip R xs ys → R x y → AllZip R (xs ++ x ∷ []) (ys ++ y ∷ [])
zip_more R [] [] x y all here = (here, tt)
zip_more R [] (b ∷ ys) x y all here = absurd all
zip_more R (a ∷ xs) [] x y all here = absurd all
zip_more R (a ∷ xs) (b ∷ ys) x y all here = (all.0, zip_more R xs ys x y all.1 here)

-- the same for the items' values up to a place
pub zip_taken : {X A B : Type 0} (R : A → B → Type 0) (f : X → A) (xs : List X) (i : ℕ) (d : X) (ys : List B) (y : B) → i < length xs → AllZip R (map f (take i xs)) ys → R (f (get_or xs i d)) y → AllZip R (map f (take (i + 1) xs)) (ys ++ y ∷ [])
zip_taken {A = A} {B = B} R f xs i d ys y below all here =
    let one = ap (map f) (take_more xs i d below) ∙ map-append f (take i xs) (get_or xs i d ∷ []) in
    subst (λ (vs : List A). AllZip R vs (ys ++ y ∷ [])) (sym one) (zip_more R (map f (take i xs)) ys (f (get_or xs i d)) y all here)
