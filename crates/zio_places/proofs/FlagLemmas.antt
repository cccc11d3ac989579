-- Runs of free flags in lists that are joined.
use Rattle.std.proofs.Common.{◌≡◌, ℕ, ◌+◌, ◌-◌, ◌<◌, ◌≤◌, ◌≢◌, suc, zero, max, List, [], ◌∷◌, ◌++◌, length, reverse, take, drop, replicate, refl, sym, ap, subst, ◌∙◌, arith, length-append, zero-add}
use Rattle.std.specs.Prelude.{Bool, true, false, ◌==◌}
use Rattle.std.proofs.Common.{inl, inr}
use Rattle.std.proofs.lemmas.Bool.{eq-eqb, ne_eqb, cases_eq, false≢true, cases_lt}
use Rattle.std.proofs.lemmas.List.{ext_get_or, length-replicate, get_or-replicate, length-reverse, reverse-append, get_or-reverse, get_or_append_left, get_or-append_right, get_or_past, append-nil, take_more, length-take-le, get_or-take, get_or-drop, length-drop}
use Rattle.zio_places.specs.declared.summary.Summary.{Summary}
use Rattle.zio_places.specs.Flags.{flag_at, front_run, back_run, best_run, summary_of, extended, joined, AreAll, IsFreeRun}

pub extended_on : (a b m : ℕ) → a ≡ b → extended (a == b) a m ≡ a + m
extended_on a b m e = rw (eq-eqb a b e) refl

pub extended_off : (a b m : ℕ) → a ≢ b → extended (a == b) a m ≡ a
extended_off a b m e = rw (ne_eqb a b e) refl

pub front_run-le : (xs : List Bool) → front_run xs ≤ length xs
front_run-le [] = omega arith
front_run-le (false ∷ xs) = omega arith
front_run-le (true ∷ xs) = omega (arith, front_run-le xs)

pub back_run-le : (xs : List Bool) → back_run xs ≤ length xs
back_run-le xs = omega (arith, front_run-le (reverse xs), length-reverse xs)

-- what is counted at the front is free
pub front_run-free : (xs : List Bool) (k : ℕ) → k < front_run xs → flag_at xs k ≡ true
front_run-free [] k h = absurd (omega arith)
front_run-free (false ∷ xs) k h = absurd (omega arith)
front_run-free (true ∷ xs) zero h = refl
front_run-free (true ∷ xs) (suc k) h = front_run-free xs k (omega arith)

-- and no more is
pub front_run-most : (xs : List Bool) (n : ℕ) → ((k : ℕ) → k < n → flag_at xs k ≡ true) → n ≤ front_run xs
front_run-most xs zero h = omega arith
front_run-most [] (suc n) h = absurd (false≢true (h 0 (omega arith)))
front_run-most (false ∷ xs) (suc n) h = absurd (false≢true (h 0 (omega arith)))
front_run-most (true ∷ xs) (suc n) h =
    let rest : n ≤ front_run xs = front_run-most xs n (λ k l. h (suc k) (omega arith)) in omega arith

-- and what follows isn't
front_run-stop : (xs : List Bool) → front_run xs < length xs → flag_at xs (front_run xs) ≡ false
front_run-stop [] h = absurd (omega arith)
front_run-stop (false ∷ xs) h = refl
front_run-stop (true ∷ xs) h =
    let next : front_run (true ∷ xs) ≡ suc (front_run xs) = omega arith in
    ap (flag_at (true ∷ xs)) next ∙ front_run-stop xs (omega arith)

pub front_run-append : (xs ys : List Bool) → front_run (xs ++ ys) ≡ extended (front_run xs == length xs) (front_run xs) (front_run ys)
front_run-append [] ys = sym (zero-add (front_run ys))
front_run-append (false ∷ xs) ys = sym (extended_off 0 (suc (length xs)) (front_run ys) (λ e. omega arith))
front_run-append (true ∷ xs) ys =
    let ih : front_run (xs ++ ys) ≡ extended (front_run xs == length xs) (front_run xs) (front_run ys) = front_run-append xs ys in
    elim (cases_eq (front_run xs) (length xs)) [
      | inl e ↦
          let whole = extended_on (front_run xs) (length xs) (front_run ys) e in
          let more = extended_on (front_run xs + 1) (suc (length xs)) (front_run ys) (omega arith) in
          omega (arith, ih, whole, more)
      | inr n ↦
          let part = extended_off (front_run xs) (length xs) (front_run ys) n in
          let less = extended_off (front_run xs + 1) (suc (length xs)) (front_run ys) (λ e. n (omega arith)) in
          omega (arith, ih, part, less)
    ]

pub back_run-append : (xs ys : List Bool) → back_run (xs ++ ys) ≡ extended (back_run ys == length ys) (back_run ys) (back_run xs)
back_run-append xs ys =
    rw (reverse-append xs ys) (subst (λ n. front_run (reverse ys ++ reverse xs) ≡ extended (front_run (reverse ys) == n) (front_run (reverse ys)) (front_run (reverse xs))) (length-reverse ys) (front_run-append (reverse ys) (reverse xs)))

-- what is counted at the back is free
pub back_run-free : (xs : List Bool) (k : ℕ) → k < length xs → length xs ≤ back_run xs + k → flag_at xs k ≡ true
back_run-free xs k h l =
    let there : flag_at (reverse xs) (length xs - 1 - k) ≡ true = front_run-free (reverse xs) (length xs - 1 - k) (omega arith) in
    let same : flag_at (reverse xs) (length xs - 1 - k) ≡ flag_at xs (length xs - 1 - (length xs - 1 - k)) = get_or-reverse xs (length xs - 1 - k) false (omega arith) in
    let back : length xs - 1 - (length xs - 1 - k) ≡ k = omega arith in
    ap (flag_at xs) (sym back) ∙ sym same ∙ there

-- and what stands before it isn't
pub back_run-stop : (xs : List Bool) (k : ℕ) → k + 1 + back_run xs ≡ length xs → flag_at xs k ≡ false
back_run-stop xs k e =
    let inside : back_run xs < length xs = omega arith in
    let there : flag_at (reverse xs) (back_run xs) ≡ false = front_run-stop (reverse xs) (omega (arith, inside, length-reverse xs)) in
    let same : flag_at (reverse xs) (back_run xs) ≡ flag_at xs (length xs - 1 - back_run xs) = get_or-reverse xs (back_run xs) false inside in
    let here : length xs - 1 - back_run xs ≡ k = omega arith in
    ap (flag_at xs) (sym here) ∙ sym same ∙ there

-- one list is free throughout, seen from either end
pub back_run-whole : (xs : List Bool) → front_run xs ≡ length xs → back_run xs ≡ length xs
back_run-whole xs e =
    let most : length xs ≤ back_run xs = front_run-most (reverse xs) (length xs) (λ k l. get_or-reverse xs k false l ∙ front_run-free xs (length xs - 1 - k) (omega arith)) in
    omega (arith, most, back_run-le xs)

pub front_run-whole : (xs : List Bool) → back_run xs ≡ length xs → front_run xs ≡ length xs
front_run-whole xs e =
    let most : length xs ≤ front_run xs = front_run-most xs (length xs) (λ k l. back_run-free xs k l (omega arith)) in
    omega (arith, most, front_run-le xs)

pub front_run-le-best_run : (xs : List Bool) → front_run xs ≤ best_run xs
front_run-le-best_run [] = omega arith
front_run-le-best_run (x ∷ xs) = omega arith

back_one : (b : Bool) (xs : List Bool) → back_run (b ∷ xs) ≡ extended (back_run xs == length xs) (back_run xs) (front_run (b ∷ []))
back_one b xs = back_run-append (b ∷ []) xs

pub best_run-append : (xs ys : List Bool) → best_run (xs ++ ys) ≡ max (max (best_run xs) (best_run ys)) (back_run xs + front_run ys)
best_run-append [] ys = omega (arith, front_run-le-best_run ys)
best_run-append (false ∷ xs) ys =
    let ih : best_run (xs ++ ys) ≡ max (max (best_run xs) (best_run ys)) (back_run xs + front_run ys) = best_run-append xs ys in
    let one : back_run (false ∷ xs) ≡ extended (back_run xs == length xs) (back_run xs) 0 = back_one false xs in
    let same : back_run (false ∷ xs) ≡ back_run xs =
    elim (cases_eq (back_run xs) (length xs)) [
      | inl e ↦ omega (arith, one, extended_on (back_run xs) (length xs) 0 e)
      | inr n ↦ omega (arith, one, extended_off (back_run xs) (length xs) 0 n)
    ] in
    omega (arith, ih, same)
best_run-append (true ∷ xs) ys =
    let ih : best_run (xs ++ ys) ≡ max (max (best_run xs) (best_run ys)) (back_run xs + front_run ys) = best_run-append xs ys in
    let one : back_run (true ∷ xs) ≡ extended (back_run xs == length xs) (back_run xs) 1 = back_one true xs in
    let front : front_run (xs ++ ys) ≡ extended (front_run xs == length xs) (front_run xs) (front_run ys) = front_run-append xs ys in
    elim (cases_eq (front_run xs) (length xs)) [
      | inl e ↦
          let whole : back_run xs ≡ length xs = back_run-whole xs e in
          let back = extended_on (back_run xs) (length xs) 1 whole in
          let more = extended_on (front_run xs) (length xs) (front_run ys) e in
          omega (arith, ih, one, front, back, more, front_run-le-best_run xs)
      | inr n ↦
          let less : back_run xs ≢ length xs = λ e. n (front_run-whole xs e) in
          let back = extended_off (back_run xs) (length xs) 1 less in
          let part = extended_off (front_run xs) (length xs) (front_run ys) n in
          omega (arith, ih, one, front, back, part, front_run-le-best_run xs)
    ]

pub summary_of-append : (xs ys : List Bool) → summary_of (xs ++ ys) ≡ joined (summary_of xs) (summary_of ys)
summary_of-append xs ys =
    let sectors : length (xs ++ ys) ≡ length xs + length ys = length-append xs ys in
    let front = front_run-append xs ys in
    let back = back_run-append xs ys in
    let best = best_run-append xs ys in
    cc

-- a run is no longer than the best one
pub best_run-most : (xs : List Bool) (at n : ℕ) → ((k : ℕ) → at ≤ k → k < at + n → flag_at xs k ≡ true) → n ≤ best_run xs
best_run-most xs at zero h = omega arith
best_run-most [] at (suc n) h = absurd (false≢true (sym (get_or_past [] at false (omega arith)) ∙ h at (omega arith) (omega arith)))
best_run-most (x ∷ xs) zero (suc n) h =
    let most : suc n ≤ front_run (x ∷ xs) = front_run-most (x ∷ xs) (suc n) (λ k l. h k (omega arith) (omega arith)) in
    omega (arith, most)
best_run-most (x ∷ xs) (suc at) (suc n) h =
    let tail : suc n ≤ best_run xs = best_run-most xs at (suc n) (λ k a l. h (suc k) (omega arith) (omega arith)) in
    omega (arith, tail)

pub back_run-le-best_run : (xs : List Bool) → back_run xs ≤ best_run xs
back_run-le-best_run xs =
    let last = best_run-append xs [] in
    let same : best_run (xs ++ []) ≡ best_run xs = ap best_run (append-nil xs) in
    omega (arith, last, same)

-- one more free sector
pub runs_more_free : (xs : List Bool) (i : ℕ) → i < length xs → flag_at xs i ≡ true →
    (back_run (take (i + 1) xs) ≡ back_run (take i xs) + 1) × (best_run (take (i + 1) xs) ≡ max (best_run (take i xs)) (back_run (take i xs) + 1))
runs_more_free xs i h e =
    let more : take (i + 1) xs ≡ take i xs ++ true ∷ [] = take_more xs i false h ∙ ap (λ b. take i xs ++ b ∷ []) e in
    let back : back_run (take i xs ++ true ∷ []) ≡ back_run (take i xs) + 1 = ap front_run (reverse-append (take i xs) (true ∷ [])) in
    let best : best_run (take i xs ++ true ∷ []) ≡ max (max (best_run (take i xs)) 1) (back_run (take i xs) + 1) = best_run-append (take i xs) (true ∷ []) in
    (ap back_run more ∙ back, ap best_run more ∙ best ∙ omega arith)

-- one more used one
pub runs_more_used : (xs : List Bool) (i : ℕ) → i < length xs → flag_at xs i ≡ false →
    (back_run (take (i + 1) xs) ≡ 0) × (best_run (take (i + 1) xs) ≡ best_run (take i xs))
runs_more_used xs i h e =
    let more : take (i + 1) xs ≡ take i xs ++ false ∷ [] = take_more xs i false h ∙ ap (λ b. take i xs ++ b ∷ []) e in
    let back : back_run (take i xs ++ false ∷ []) ≡ 0 = ap front_run (reverse-append (take i xs) (false ∷ [])) in
    let best : best_run (take i xs ++ false ∷ []) ≡ max (max (best_run (take i xs)) 0) (back_run (take i xs) + 0) = best_run-append (take i xs) (false ∷ []) in
    (ap back_run more ∙ back, ap best_run more ∙ best ∙ omega (arith, back_run-le-best_run (take i xs)))

-- the run that ends with a sector, where it has come to this length
run_ends : (xs : List Bool) (i count : ℕ) → i < length xs → flag_at xs i ≡ true → back_run (take i xs) + 1 ≡ count → AreAll xs (i + 1 - count) count true
run_ends xs i count h e n =
    let taken : length (take i xs) ≡ i = length-take-le i xs (omega arith) in
    let short : back_run (take i xs) ≤ i = omega (arith, back_run-le (take i xs)) in
    record {
      fits = omega arith;
      each = λ k a l.
          elim (cases_eq k i) [
            | inl same ↦ ap (flag_at xs) same ∙ e
            | inr other ↦
                let before : k < i = omega arith in
                sym (get_or-take i xs k false before) ∙ back_run-free (take i xs) k (omega arith) (omega arith)
          ];
    }

-- it begins where the list does or behind a used one
pub free_run_ends : (xs : List Bool) (i count : ℕ) → i < length xs → flag_at xs i ≡ true → back_run (take i xs) + 1 ≡ count → IsFreeRun xs (i + 1 - count) count
free_run_ends xs i count h e n =
    let taken : length (take i xs) ≡ i = length-take-le i xs (omega arith) in
    let short : back_run (take i xs) ≤ i = omega (arith, back_run-le (take i xs)) in
    record {
      all = run_ends xs i count h e n;
      start = λ k first.
          let before : k < i = omega arith in
          sym (get_or-take i xs k false before) ∙ back_run-stop (take i xs) k (omega arith);
    }

pub front_run-is : (xs : List Bool) (at end : ℕ) → at ≤ end → end ≤ length xs →
    ((k : ℕ) → at ≤ k → k < end → flag_at xs k ≡ true) → (end < length xs → flag_at xs end ≡ false) → end - at ≡ front_run (drop at xs)
front_run-is xs at end a l free stop =
    let long : length (drop at xs) ≡ length xs - at = length-drop at xs in
    let least : end - at ≤ front_run (drop at xs) = front_run-most (drop at xs) (end - at) (λ k h. get_or-drop at xs k false ∙ free (at + k) (omega arith) (omega arith)) in
    elim (cases_lt (end - at) (front_run (drop at xs))) [
      | inl more ↦
          let here : at + (end - at) ≡ end = omega arith in
          let free_there : flag_at xs end ≡ true = ap (flag_at xs) (sym here) ∙ sym (get_or-drop at xs (end - at) false) ∙ front_run-free (drop at xs) (end - at) more in
          let inside : end < length xs = omega (arith, front_run-le (drop at xs)) in
          absurd (false≢true (sym (stop inside) ∙ free_there))
      | inr most ↦ omega arith
    ]

pub best_run-le : (xs : List Bool) → best_run xs ≤ length xs
best_run-le [] = omega arith
best_run-le (x ∷ xs) = omega (arith, front_run-le (x ∷ xs), best_run-le xs)

-- so many are free from a sector on exactly where the run there is as long
pub AreAll-from_front_run : (xs : List Bool) (at n : ℕ) → at + n ≤ length xs → n ≤ front_run (drop at xs) → AreAll xs at n true
AreAll-from_front_run xs at n fits h = record {
  fits = fits;
  each = λ k a b.
      let split : at + (k - at) ≡ k = omega arith in
      ap (flag_at xs) (sym split) ∙ sym (get_or-drop at xs (k - at) false) ∙ front_run-free (drop at xs) (k - at) (omega arith);
}

pub front_run-from_AreAll : (xs : List Bool) (at n : ℕ) → AreAll xs at n true → n ≤ front_run (drop at xs)
front_run-from_AreAll xs at n h = front_run-most (drop at xs) n (λ k l. get_or-drop at xs k false ∙ h.each (at + k) (omega arith) (omega arith))

-- ---- so many of one flag
front_run-free_ones : (n : ℕ) → front_run (replicate n true) ≡ n
front_run-free_ones zero = refl
front_run-free_ones (suc n) = omega (arith, front_run-free_ones n)

front_run-used_ones : (n : ℕ) → front_run (replicate n false) ≡ 0
front_run-used_ones zero = refl
front_run-used_ones (suc n) = refl

reverse-ones : (n : ℕ) (flag : Bool) → reverse (replicate n flag) ≡ replicate n flag
reverse-ones n flag =
    ext_get_or false (reverse (replicate n flag)) (replicate n flag) (length-reverse (replicate n flag))
    (λ k h.
    let long : length (replicate n flag) ≡ n = length-replicate n flag in
    let turned : length (reverse (replicate n flag)) ≡ n = length-reverse (replicate n flag) ∙ long in
    get_or-reverse (replicate n flag) k false (omega (arith, h, long, turned))
    ∙ get_or-replicate n (length (replicate n flag) - 1 - k) flag false (omega (arith, h, long, turned))
    ∙ sym (get_or-replicate n k flag false (omega (arith, h, turned))))

best_run-free_ones : (n : ℕ) → best_run (replicate n true) ≡ n
best_run-free_ones zero = refl
best_run-free_ones (suc n) = omega (arith, front_run-free_ones n, best_run-free_ones n)

best_run-used_ones : (n : ℕ) → best_run (replicate n false) ≡ 0
best_run-used_ones zero = refl
best_run-used_ones (suc n) = omega (arith, best_run-used_ones n)

-- how many of them are free
abbrev pub free_ones : Bool → ℕ → ℕ
free_ones true n = n
free_ones false n = 0

pub summary_of-ones : (n : ℕ) (flag : Bool) → summary_of (replicate n flag) ≡ record { sectors = n; front = free_ones flag n; back = free_ones flag n; best = free_ones flag n }
summary_of-ones n true =
    let sectors : length (replicate n true) ≡ n = length-replicate n true in
    let front : front_run (replicate n true) ≡ n = front_run-free_ones n in
    let back : back_run (replicate n true) ≡ n = ap front_run (reverse-ones n true) ∙ front in
    let best : best_run (replicate n true) ≡ n = best_run-free_ones n in
    cc
summary_of-ones n false =
    let sectors : length (replicate n false) ≡ n = length-replicate n false in
    let front : front_run (replicate n false) ≡ 0 = front_run-used_ones n in
    let back : back_run (replicate n false) ≡ 0 = ap front_run (reverse-ones n false) ∙ front in
    let best : best_run (replicate n false) ≡ 0 = best_run-used_ones n in
    cc

-- so many more of one flag
pub take-ones : (xs : List Bool) (at n : ℕ) (flag : Bool) → AreAll xs at n flag → take (at + n) xs ≡ take at xs ++ replicate n flag
take-ones xs at n flag h =
    let long : length (take at xs) ≡ at = length-take-le at xs (omega (arith, h.fits)) in
    let whole : length (take (at + n) xs) ≡ at + n = length-take-le (at + n) xs h.fits in
    ext_get_or false (take (at + n) xs) (take at xs ++ replicate n flag)
    (whole ∙ sym (length-append (take at xs) (replicate n flag) ∙ ap (λ m. m + length (replicate n flag)) long ∙ ap (λ m. at + m) (length-replicate n flag)))
    (λ k l.
    let within : k < at + n = omega (arith, l, whole) in
    get_or-take (at + n) xs k false within
    ∙ elim (cases_lt k at) [
      | inl before ↦ sym (get_or_append_left (take at xs) (replicate n flag) false k (omega (arith, long, before)) ∙ get_or-take at xs k false before)
      | inr from ↦ h.each k from within ∙ sym (get_or-append_right (take at xs) (replicate n flag) at k false long from ∙ get_or-replicate n (k - at) flag false (omega arith))
    ])

-- no run of a summary is longer than its range
pub summary_back-le : (s : Summary) (xs : List Bool) → s ≡ summary_of xs → s.back ≤ s.sectors
summary_back-le s xs e = omega (arith, ap (λ (t : Summary). t.back) e, ap (λ (t : Summary). t.sectors) e, back_run-le xs)

pub summary_front-le : (s : Summary) (xs : List Bool) → s ≡ summary_of xs → s.front ≤ s.sectors
summary_front-le s xs e = omega (arith, ap (λ (t : Summary). t.front) e, ap (λ (t : Summary). t.sectors) e, front_run-le xs)

-- the summary of so many more of one flag
pub summary_more : (xs : List Bool) (at n : ℕ) (flag : Bool) (s a b : Summary) → AreAll xs at n flag → s ≡ joined a b → a ≡ summary_of (take at xs) → b ≡ summary_of (replicate n flag) → s ≡ summary_of (take (at + n) xs)
summary_more xs at n flag s a b run e ea eb =
    e ∙ ap (λ x. joined x b) ea ∙ ap (joined (summary_of (take at xs))) eb ∙ sym (summary_of-append (take at xs) (replicate n flag)) ∙ ap summary_of (sym (take-ones xs at n flag run))
