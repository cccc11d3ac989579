-- A pass that is alone put and took all that there is.
use Rattle.std.proofs.Common.{◌≡◌, ℕ, zero, suc, ◌≤◌, Bool, true, false, cond, eqb, eq-eqb, List, [], ◌∷◌, ◌++◌, length, refl, sym, ap, ◌∙◌, arith, Contains}
use Rattle.std.proofs.lemmas.List.Elements.{All-contains}
use Rattle.zio_tasks.specs.declared.hand.Hand.{Hand}
use Rattle.zio_tasks.specs.Hands.{of, taken, Fits, Stands, WasHolding, WasOldest}
use Rattle.zio_tasks.proofs.Lists.{taken_append}

module _ {A : Type 0} where
  first_zero : (n : ℕ) (a : A) (xs : List (ℕ × A)) → ((k : ℕ) → 1 ≤ k → of k ((n, a) ∷ xs) ≡ []) → n ≡ 0
  first_zero zero a xs none = refl
  first_zero (suc n) a xs none =
      let h : a ∷ of (suc n) xs ≡ [] = sym (ap (λ (b : Bool). cond b (a ∷ of (suc n) xs) (of (suc n) xs)) (eq-eqb (suc n) (suc n) refl)) ∙ none (suc n) (omega arith) in cc

  none_left : (b : Bool) (a : A) (xs : List A) → cond b (a ∷ xs) xs ≡ [] → xs ≡ []
  none_left true a xs e = cc
  none_left false a xs e = e

  -- where nothing stands beside another number, all stands beside 0
  all_own : (xs : List (ℕ × A)) → ((k : ℕ) → 1 ≤ k → of k xs ≡ []) → of 0 xs ≡ taken xs
  all_own [] none = refl
  all_own (x ∷ xs) none =
      ap (λ (b : Bool). cond b (x.1 ∷ of 0 xs) (of 0 xs)) (eq-eqb 0 x.0 (sym (first_zero x.0 x.1 xs none)))
      ∙ ap (λ l. x.1 ∷ l) (all_own xs (λ k far. none_left (eqb k x.0) x.1 (of k xs) (none k far)))

  pub length_of_taken : (rest : List (ℕ × A)) → length (taken rest) ≡ length rest
  length_of_taken [] = refl
  length_of_taken (r ∷ rs) = let more = length_of_taken rs in omega arith

module _ {T : Type 0} where
  alone : (hands : List (Hand T)) (log : List (ℕ × (ℕ × T))) (rest : List (ℕ × T)) (h : Hand T) → Stands 1 hands log rest → Contains hands h → h.puts ≡ taken h.takes ++ taken rest
  alone hands log rest h s in_ =
      let own : Fits 1 log rest h = All-contains (Fits 1 log rest) hands h s.each in_ in
      let known = own.known in
      let zero' : h.number ≡ 0 = omega arith in
      let takes_ : h.takes ≡ taken log = own.takes ∙ ap (λ k. of k log) zero' ∙ all_own log (λ k far. (s.strangers k far).1) in
      own.puts ∙ ap (λ k. of k (taken log ++ rest)) zero' ∙ all_own (taken log ++ rest) (λ k far. (s.strangers k far).0) ∙ taken_append (taken log) rest
      ∙ ap (λ l. taken l ++ taken rest) (sym takes_)

  pub holds_its_own : (n : ℕ) (h : Hand T) → WasHolding n 1 h → (rest : List T) × (h.puts ≡ taken h.takes ++ rest) × (length rest ≡ n)
  holds_its_own n h w = (taken w.2, alone w.0 w.1 w.2 h w.3 w.4, length_of_taken w.2 ∙ w.5)

  pub takes_its_oldest : (by : ℕ) (x : T) (h : Hand T) → WasOldest by x 1 h → (rest : List T) × (h.puts ≡ taken h.takes ++ x ∷ rest)
  takes_its_oldest by x h w = (taken w.2, alone w.0 w.1 ((by, x) ∷ w.2) h w.3 w.4)
