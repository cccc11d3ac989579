-- Items of a list by their numbers.
use Rattle.std.proofs.Common.{◌≡◌, ℕ, zero, suc, ◌+◌, ◌≤◌, List, [], ◌∷◌, length, drop, refl, sym, ap, ◌∙◌, arith}
use Rattle.zio_scrub.specs.Reads.{IsAt}

pub record IsHead {X : Type 0} (xs : List X) (n : ℕ) (x : X) (rest : List X) : Type 0 where
  pub at : IsAt xs n x
  pub rest_is : rest ≡ drop (n + 1) xs

-- the first of what is left
pub head_of : {X : Type 0} (xs : List X) (n : ℕ) (x : X) (rest : List X) → drop n xs ≡ x ∷ rest → IsHead xs n x rest
head_of [] zero x rest e = absurd (let no : ⊥ = cc in no)
head_of [] (suc n) x rest e = absurd (let no : ⊥ = cc in no)
head_of (y ∷ ys) zero x rest e =
    let first : y ≡ x = cc in
    let others : ys ≡ rest = cc in
    record { at = record { within = omega arith; is = first }; rest_is = sym others }
head_of (y ∷ ys) (suc n) x rest e =
    let h = head_of ys n x rest e in
    let w = h.at.within in
    let e : suc n + 1 ≡ suc (n + 1) = omega arith in
    record { at = record { within = omega arith; is = h.at.is }; rest_is = h.rest_is ∙ sym (ap (λ (k : ℕ). drop k (y ∷ ys)) e) }

pub drop_end : {X : Type 0} (xs : List X) (n : ℕ) → [] ≡ drop n xs → n ≤ length xs → n ≡ length xs
drop_end [] zero e l = refl
drop_end [] (suc n) e l = absurd (omega arith)
drop_end (y ∷ ys) zero e l = absurd (let no : ⊥ = cc in no)
drop_end (y ∷ ys) (suc n) e l = let h = drop_end ys n e (omega arith) in omega arith
