-- Lists of what is wanted, place by place.
use Rattle.std.proofs.Common.{◌≡◌, ◌<◌, ◌∙◌, ap, refl, arith, ℕ, suc, zero, length, List, [], ◌∷◌, slice_index_or}
use Rattle.zio_turns.specs.declared.helper.Wanted.{Wanted}
use Rattle.zio_turns.specs.Helping.{keys_wanted}

module _ {A : Type 0} where
  -- each place has the key that it had
  pub keys_stay : (xs ys : List (Wanted A)) → length ys ≡ length xs →
      ((i : ℕ) (d : Wanted A) → i < length xs → (slice_index_or ys i d).key ≡ (slice_index_or xs i d).key) →
      keys_wanted ys ≡ keys_wanted xs
  keys_stay [] [] len each = refl
  keys_stay [] (y ∷ ys) len each = absurd (omega (arith, len))
  keys_stay (x ∷ xs) [] len each = absurd (omega (arith, len))
  keys_stay (x ∷ xs) (y ∷ ys) len each =
      let rest = keys_stay xs ys (omega (arith, len)) (λ i d below. each (suc i) d (omega (arith, below))) in
      ap (λ k. k ∷ keys_wanted ys) (each zero x (omega arith)) ∙ ap (λ ks. x.key ∷ ks) rest
