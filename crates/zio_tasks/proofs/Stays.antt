-- A put and a take keep the order in which the hands of all passes stand.
use Rattle.std.proofs.Common.{◌≡◌, ◌≢◌, ℕ, ◌≤◌, eq-eqb, List, [], ◌∷◌, ◌++◌, refl, sym, ap, ◌∙◌, append_assoc, arith, All, subst}
use Rattle.std.proofs.lemmas.List.{append-nil}
use Rattle.std.proofs.lemmas.List.Elements.{All-nil, All-cons, All-head, All-tail, All-append}
use Rattle.zio_tasks.specs.declared.hand.Hand.{Hand}
use Rattle.zio_tasks.specs.Hands.{total, of, taken, is_number, put_weight, take_weight, Fits, Stands}
use Rattle.zio_tasks.specs.Rule.{after_put, after_take}
use Rattle.zio_tasks.proofs.Lists.{total_append, of_append, of_own, of_other, taken_append, all_left, all_right, all_map, all_both}

module _ {T : Type 0} where
  one_at_most : (k : ℕ) (h : Hand T) (hs : List (Hand T)) → (h.number ≡ k) → is_number k h ≡ 1
  one_at_most k h hs e = rw (eq-eqb k h.number (sym e)) refl

  -- where no hand has the number, each has another
  pub nobody : (k : ℕ) (hs : List (Hand T)) → total (is_number k) hs ≡ 0 → All (λ (h : Hand T). h.number ≢ k) hs
  nobody k [] none = All-nil (λ (h : Hand T). h.number ≢ k)
  nobody k (h ∷ hs) none = All-cons (λ (g : Hand T). g.number ≢ k) h hs
      (λ e. let one = one_at_most k h hs e in absurd (omega arith))
      (nobody k hs (omega arith))

  others : (pre more : List (Hand T)) (h : Hand T) → ((k : ℕ) → total (is_number k) (pre ++ h ∷ more) ≤ 1)
      → All (λ (g : Hand T). g.number ≢ h.number) pre × All (λ (g : Hand T). g.number ≢ h.number) more
  others pre more h once =
      let sum = total_append (is_number h.number) pre (h ∷ more) in
      let most = once h.number in
      let one = one_at_most h.number h more refl in (
        nobody h.number pre (omega arith),
        nobody h.number more (omega arith),
      )

  around : (P Q : Hand T → Type 0) (pre more : List (Hand T)) (h h' : Hand T) → All P (pre ++ h ∷ more)
      → All (λ (g : Hand T). g.number ≢ h.number) pre × All (λ (g : Hand T). g.number ≢ h.number) more
      → ((g : Hand T) → g.number ≢ h.number → P g → Q g) → (P h → Q h') → All Q (pre ++ h' ∷ more)
  around P Q pre more h h' all apart f own =
      let N : Hand T → Type 0 = λ g. g.number ≢ h.number in
      let right = all_right P pre (h ∷ more) all in
      All-append Q pre (h' ∷ more)
      (all_map (λ g. P g × N g) Q pre (all_both P N pre (all_left P pre (h ∷ more) all) apart.0) (λ g b. f g b.1 b.0))
      (All-cons Q h' more (own (All-head P h more right)) (all_map (λ g. P g × N g) Q more (all_both P N more (All-tail P h more right) apart.1) (λ g b. f g b.1 b.0)))

  pub put_stands : (passes : ℕ) (pre more : List (Hand T)) (h : Hand T) (x : T) (log : List (ℕ × (ℕ × T))) (rest : List (ℕ × T))
      → Stands passes (pre ++ h ∷ more) log rest → Stands passes (pre ++ after_put x h ∷ more) log (rest ++ (h.number, x) ∷ [])
  put_stands passes pre more h x log rest s =
      let own : Fits passes log rest h = All-head (Fits passes log rest) h more (all_right (Fits passes log rest) pre (h ∷ more) s.each) in
      let order : taken log ++ (rest ++ (h.number, x) ∷ []) ≡ (taken log ++ rest) ++ (h.number, x) ∷ [] = sym (append_assoc (taken log) rest ((h.number, x) ∷ [])) in
      let at : (k : ℕ) → of k (taken log ++ (rest ++ (h.number, x) ∷ [])) ≡ of k (taken log ++ rest) ++ of k ((h.number, x) ∷ []) =
      λ k. ap (of k) order ∙ of_append k (taken log ++ rest) ((h.number, x) ∷ []) in
      let same : (k : ℕ) → k ≢ h.number → of k (taken log ++ (rest ++ (h.number, x) ∷ [])) ≡ of k (taken log ++ rest) =
      λ k ne. at k ∙ ap (λ l. of k (taken log ++ rest) ++ l) (of_other k h.number x ne) ∙ append-nil (of k (taken log ++ rest)) in
      record {
        counted = total_append (λ (g : Hand T). 1) pre (after_put x h ∷ more) ∙ sym (total_append (λ (g : Hand T). 1) pre (h ∷ more)) ∙ s.counted;
        once = λ k. subst (λ n. n ≤ 1) (total_append (is_number k) pre (h ∷ more) ∙ sym (total_append (is_number k) pre (after_put x h ∷ more))) (s.once k);
        each = around (Fits passes log rest) (Fits passes log (rest ++ (h.number, x) ∷ [])) pre more h (after_put x h) s.each (others pre more h s.once)
            (λ g ne f. record { known = f.known; puts = f.puts ∙ sym (same g.number ne); takes = f.takes })
            (λ f. record { known = f.known; puts = ap (λ l. l ++ x ∷ []) f.puts ∙ sym (at h.number ∙ ap (λ l. of h.number (taken log ++ rest) ++ l) (of_own h.number x)); takes = f.takes });
        strangers = λ k far. (same k (λ e. let known = own.known in absurd (omega arith)) ∙ (s.strangers k far).0, (s.strangers k far).1);
        weighed = λ w.
            let before = s.weighed w in
            let a = total_append (put_weight w) pre (h ∷ more) in
            let b = total_append (put_weight w) pre (after_put x h ∷ more) in
            let c = total_append (take_weight w) pre (h ∷ more) in
            let d = total_append (take_weight w) pre (after_put x h ∷ more) in
            let e = total_append w h.puts (x ∷ []) in
            let t = ap (total w) (taken_append rest ((h.number, x) ∷ [])) ∙ total_append w (taken rest) (x ∷ []) in
            omega arith;
      }

  pub take_stands : (passes : ℕ) (pre more : List (Hand T)) (h : Hand T) (k : ℕ) (x : T) (log : List (ℕ × (ℕ × T))) (rest : List (ℕ × T))
      → Stands passes (pre ++ h ∷ more) log ((k, x) ∷ rest) → Stands passes (pre ++ after_take k x h ∷ more) (log ++ (h.number, (k, x)) ∷ []) rest
  take_stands passes pre more h k x log rest s =
      let P : Hand T → Type 0 = Fits passes log ((k, x) ∷ rest) in
      let log' : List (ℕ × (ℕ × T)) = log ++ (h.number, (k, x)) ∷ [] in
      let own : P h = All-head P h more (all_right P pre (h ∷ more) s.each) in
      let order : taken log' ++ rest ≡ taken log ++ (k, x) ∷ rest =
      ap (λ l. l ++ rest) (taken_append log ((h.number, (k, x)) ∷ [])) ∙ append_assoc (taken log) ((k, x) ∷ []) rest in
      let at : (n : ℕ) → of n log' ≡ of n log ++ of n ((h.number, (k, x)) ∷ []) = λ n. of_append n log ((h.number, (k, x)) ∷ []) in
      let same : (n : ℕ) → n ≢ h.number → of n log' ≡ of n log = λ n ne. at n ∙ ap (λ l. of n log ++ l) (of_other n h.number (k, x) ne) ∙ append-nil (of n log) in
      record {
        counted = total_append (λ (g : Hand T). 1) pre (after_take k x h ∷ more) ∙ sym (total_append (λ (g : Hand T). 1) pre (h ∷ more)) ∙ s.counted;
        once = λ n. subst (λ m. m ≤ 1) (total_append (is_number n) pre (h ∷ more) ∙ sym (total_append (is_number n) pre (after_take k x h ∷ more))) (s.once n);
        each = around P (Fits passes log' rest) pre more h (after_take k x h) s.each (others pre more h s.once)
            (λ g ne f. record { known = f.known; puts = f.puts ∙ sym (ap (of g.number) order); takes = f.takes ∙ sym (same g.number ne) })
            (λ f. record { known = f.known; puts = f.puts ∙ sym (ap (of h.number) order); takes = ap (λ l. l ++ (k, x) ∷ []) f.takes ∙ sym (at h.number ∙ ap (λ l. of h.number log ++ l) (of_own h.number (k, x))) });
        strangers = λ n far. (ap (of n) order ∙ (s.strangers n far).0, same n (λ e. let known = own.known in absurd (omega arith)) ∙ (s.strangers n far).1);
        weighed = λ w.
            let before = s.weighed w in
            let a = total_append (put_weight w) pre (h ∷ more) in
            let b = total_append (put_weight w) pre (after_take k x h ∷ more) in
            let c = total_append (take_weight w) pre (h ∷ more) in
            let d = total_append (take_weight w) pre (after_take k x h ∷ more) in
            let e = ap (total w) (taken_append h.takes ((k, x) ∷ [])) ∙ total_append w (taken h.takes) (x ∷ []) in
            omega arith;
      }
