-- Sums over lists, what stands beside a number, and what holds of each item.
use Rattle.std.proofs.Common.{◌≡◌, ◌≢◌, ℕ, cond, eqb, true, false, eq-eqb, ne_eqb, List, [], ◌∷◌, ◌++◌, refl, ap, All}
use Rattle.std.proofs.lemmas.List.Elements.{All-nil, All-cons, All-head, All-tail}
pub use Rattle.zio_types.proofs.ListLemmas.{total_append, all_map}
use Rattle.zio_tasks.specs.Hands.{of, taken}

module _ {A : Type 0} where
  joined : (b : _) (a : A) (xs ys zs : List A) → zs ≡ xs ++ ys → cond b (a ∷ zs) zs ≡ cond b (a ∷ xs) xs ++ ys
  joined true a xs ys zs e = ap (λ l. a ∷ l) e
  joined false a xs ys zs e = e

  pub of_append : (k : ℕ) (xs ys : List (ℕ × A)) → of k (xs ++ ys) ≡ of k xs ++ of k ys
  of_append k [] ys = refl
  of_append k (x ∷ xs) ys = joined (eqb k x.0) x.1 (of k xs) (of k ys) (of k (xs ++ ys)) (of_append k xs ys)

  pub of_own : (k : ℕ) (a : A) → of k ((k, a) ∷ []) ≡ a ∷ []
  of_own k a = rw (eq-eqb k k refl) refl

  pub of_other : (k j : ℕ) (a : A) → k ≢ j → of k ((j, a) ∷ []) ≡ []
  of_other k j a ne = rw (ne_eqb k j ne) refl

  pub taken_append : (xs ys : List (ℕ × A)) → taken (xs ++ ys) ≡ taken xs ++ taken ys
  taken_append [] ys = refl
  taken_append (x ∷ xs) ys = ap (λ l. x.1 ∷ l) (taken_append xs ys)

  pub all_left : (P : A → Type 0) (xs ys : List A) → All P (xs ++ ys) → All P xs
  all_left P [] ys a = All-nil P
  all_left P (x ∷ xs) ys a = All-cons P x xs (All-head P x (xs ++ ys) a) (all_left P xs ys (All-tail P x (xs ++ ys) a))

  pub all_right : (P : A → Type 0) (xs ys : List A) → All P (xs ++ ys) → All P ys
  all_right P [] ys a = a
  all_right P (x ∷ xs) ys a = all_right P xs ys (All-tail P x (xs ++ ys) a)

  -- two facts of each
  pub all_both : (P Q : A → Type 0) (xs : List A) → All P xs → All Q xs → All (λ x. P x × Q x) xs
  all_both P Q [] a b = All-nil (λ x. P x × Q x)
  all_both P Q (x ∷ xs) a b = All-cons (λ x. P x × Q x) x xs (All-head P x xs a, All-head Q x xs b) (all_both P Q xs (All-tail P x xs a) (All-tail Q x xs b))
