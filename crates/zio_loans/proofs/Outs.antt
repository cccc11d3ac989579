-- What is out, as values are lent and come back.
use Rattle.std.proofs.Common.{◌≡◌, ◌≢◌, ℕ, suc, ◌+◌, ◌<◌, ◌≤◌, ◌⊎◌, ◌↔◌, ⊎_elim, cond, List, [], ◌∷◌, ◌++◌, length, get_or, set, refl, sym, ap, ◌∙◌, inl, inr, subst, arith, length-append, length-set, lt_of_not-le, Option, Some, None, is_some, sum_by}
use Rattle.std.proofs.lemmas.List.{get_or_past, get_or_push, get_or_append_left, get_or-set_same, get_or-set_other}
use Rattle.std.proofs.lemmas.List.Sums.{sum_by-cons, sum_by_push, sum_by-set}
use native.Mathlib.Decide.{ℕ_discrete, dec_le}
use Rattle.zio_loans.specs.Out.{ComesBack, IsOut, NothingOut, count_out}

module _ {T : Type 0} where
  some_is : (x y : T) → ◌≡◌ {A = Option T} (Some x) (Some y) → x ≡ y
  some_is x y e = cc

  none_is : (x : T) → ◌≡◌ {A = Option T} None (Some x) → ⊥
  none_is x e = cc

  pub one_value : (out : List (Option T)) (n : ℕ) (x y : T) → IsOut out n x → IsOut out n y → x ≡ y
  one_value out n x y a b = some_is x y (sym a ∙ b)

  below_by : (out : List (Option T)) (n : ℕ) (x : T) → IsOut out n x → Dec (length out ≤ n) → n < length out
  below_by out n x at (yes le) = absurd (none_is x (sym (get_or_past out n None le) ∙ at))
  below_by out n x at (no not) = lt_of_not-le not

  -- what is out has a number that was given out
  pub below : (out : List (Option T)) (n : ℕ) (x : T) → IsOut out n x → n < length out
  below out n x at = below_by out n x at (dec_le (length out) n)

  pub fresh : (out : List (Option T)) (n : ℕ) (x : T) → IsOut out n x → n ≢ length out
  fresh out n x at = let b = below out n x at in λ e. omega arith

  -- ---- lending

  pub stays : (out : List (Option T)) (x : T) (n : ℕ) (y : T) → IsOut out n y → IsOut (out ++ Some x ∷ []) n y
  stays out x n y at = get_or_append_left out (Some x ∷ []) None n (below out n y at) ∙ at

  pub entered : (out : List (Option T)) (x : T) → IsOut (out ++ Some x ∷ []) (length out) x
  entered out x = get_or_push out (Some x) None (length out) refl

  lent_by_place : (out : List (Option T)) (x : T) (n : ℕ) (y : T) → IsOut (out ++ Some x ∷ []) n y → Dec (length out ≤ n) → Dec (n ≡ length out) → IsOut out n y ⊎ ((n ≡ length out) × (x ≡ y))
  lent_by_place out x n y at (no not) here = inl (sym (get_or_append_left out (Some x ∷ []) None n (lt_of_not-le not)) ∙ at)
  lent_by_place out x n y at (yes le) (yes e) = inr (e, some_is x y (sym (get_or_push out (Some x) None n (sym e)) ∙ at))
  lent_by_place out x n y at (yes le) (no other) = let b = below (out ++ Some x ∷ []) n y at in let long = length-append out (Some x ∷ []) in absurd (other (omega arith))

  pub lent : (out : List (Option T)) (x : T) (n : ℕ) (y : T) → IsOut (out ++ Some x ∷ []) n y ↔ (IsOut out n y ⊎ ((n ≡ length out) × (x ≡ y)))
  lent out x n y = (
    (λ at. lent_by_place out x n y at (dec_le (length out) n) (ℕ_discrete n (length out))),
    (λ c. ⊎_elim (λ (at : IsOut out n y). stays out x n y at)
        (λ (t : (n ≡ length out) × (x ≡ y)). subst (λ (i : ℕ). IsOut (out ++ Some x ∷ []) i y) (sym t.0) (subst (λ (z : T). IsOut (out ++ Some x ∷ []) (length out) z) t.1 (entered out x))) c),
  )

  -- ---- what comes back

  -- where nothing stands any more
  pub gone : (out : List (Option T)) (n : ℕ) (y : T) → IsOut (set out n None) n y → ⊥
  gone out n y at =
      let b = below (set out n None) n y at in
      let long = length-set out n None in
      none_is y (sym (get_or-set_same out n None None (omega arith)) ∙ at)

  pub elsewhere : (out : List (Option T)) (n k : ℕ) (y : T) → k ≢ n → IsOut out k y → IsOut (set out n None) k y
  elsewhere out n k y other at = get_or-set_other out n k None None other ∙ at

  pub back : (old new : List (Option T)) (n : ℕ) (x : T) → ComesBack old n x new → (k : ℕ) (y : T) → IsOut new k y ↔ (IsOut old k y × (k ≢ n))
  back old new n x b k y = (
    (λ at.
        let now : IsOut (set old n None) k y = subst (λ (l : List (Option T)). IsOut l k y) b.struck at in
        let other : k ≢ n = λ e. gone old n y (subst (λ (i : ℕ). IsOut (set old n None) i y) e now) in
        (sym (get_or-set_other old n k None None other) ∙ now, other)),
    (λ t. subst (λ (l : List (Option T)). IsOut l k y) (sym b.struck) (elsewhere old n k y t.1 t.0)),
  )

  -- ---- how many

  abbrev one_if_out : Option T → ℕ
  one_if_out o = cond (is_some o) 1 0

  pub count_lent : (out : List (Option T)) (x : T) → count_out (out ++ Some x ∷ []) ≡ count_out out + 1
  count_lent out x = sum_by_push one_if_out out (Some x)

  pub count_struck : (out : List (Option T)) (n : ℕ) (x : T) → IsOut out n x → count_out out ≡ count_out (set out n None) + 1
  count_struck out n x at =
      let s : sum_by one_if_out (set out n None) + one_if_out (get_or out n None) ≡ sum_by one_if_out out + 0 = sum_by-set one_if_out out n None None (below out n x at) in
      let one : one_if_out (get_or out n None) ≡ 1 = ap one_if_out at in
      omega arith

  pub none_counted : (out : List (Option T)) → count_out out ≡ 0 → NothingOut out
  none_counted out e n x at = let s = count_struck out n x at in omega arith

  pub nothing_counts : (out : List (Option T)) → NothingOut out → count_out out ≡ 0
  nothing_counts [] nothing = refl
  nothing_counts (Some x ∷ out) nothing = absurd (nothing 0 x refl)
  nothing_counts (None ∷ out) nothing =
      let more : sum_by one_if_out out ≡ 0 = nothing_counts out (λ n x at. nothing (suc n) x at) in
      let s : sum_by one_if_out (None ∷ out) ≡ 0 + sum_by one_if_out out = sum_by-cons one_if_out None out in
      omega arith
