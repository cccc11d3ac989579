-- Each step keeps the rule of loans.
use Rattle.std.proofs.Common.{◌≡◌, ◌≢◌, ℕ, ◌+◌, ◌<◌, ◌≤◌, Bool, true, false, cond, eqb, List, [], ◌∷◌, ◌++◌, length, set, take, drop, refl, sym, ap, ◌∙◌, subst, arith, eq-eqb, ne_eqb, All, Option, Some, None, sum_by}
use Rattle.std.proofs.lemmas.List.Elements.{All-nil, All-cons, All-head, All-tail, All-append, All-weaker, All-take, All-drop}
use Rattle.std.proofs.lemmas.List.Sums.{sum_by-cons, sum_by-append, sum_by_push, sum_by-take-drop}
use native.Mathlib.Decide.{ℕ_discrete}
use mathlib.Core.Option.{some, some-ne-none}
use lib.ListN.{get_elem?}
use Rattle.atomic_table.proofs.Lists.{set_else}
use Rattle.zio_loans.specs.declared.view.View.{View}
use Rattle.zio_loans.specs.Out.{IsOut}
use Rattle.zio_loans.specs.Rule.{Knows, Loaned, first_hand, holder, lender, lending, lends_in, times_in, with_hands, without_first}
use Rattle.zio_loans.proofs.Outs.{below, elsewhere, entered, stays}
use Rattle.zio_loans.proofs.Sums.{each_push, each_set, sum_none, sum_one, sum_set, sum_two}

pub false_is : false ≡ true → ⊥
false_is e = cc

module _ {T : Type 0} where
  abbrev Outs : List (Option T) → ℕ × T → Type 0
  Outs out h = IsOut out h.0 h.1

  abbrev of_number : ℕ → ℕ × T → ℕ
  of_number n h = cond (eqb n h.0) 1 0

  counted_yes : (n : ℕ) (h : ℕ × T) → n ≡ h.0 → of_number n h ≡ 1
  counted_yes n h e = ap (λ (b : Bool). cond b 1 0) (eq-eqb n h.0 e)

  counted_no : (n : ℕ) (h : ℕ × T) → n ≢ h.0 → of_number n h ≡ 0
  counted_no n h ne = ap (λ (b : Bool). cond b 1 0) (ne_eqb n h.0 ne)

  -- a number that was never given out is in no hand
  hands_none : (out : List (Option T)) (hands : List (ℕ × T)) (n : ℕ) → All (Outs out) hands → length out ≤ n → sum_by (of_number n) hands ≡ 0
  hands_none out [] n all le = refl
  hands_none out (h ∷ hs) n all le =
      let here : h.0 < length out = below out h.0 h.1 (All-head (Outs out) h hs all) in
      let ne : n ≢ h.0 = λ e. omega arith in
      let one : of_number n h ≡ 0 = counted_no n h ne in
      let more : sum_by (of_number n) hs ≡ 0 = hands_none out hs n (All-tail (Outs out) h hs all) le in
      let s : sum_by (of_number n) (h ∷ hs) ≡ of_number n h + sum_by (of_number n) hs = sum_by-cons (of_number n) h hs in
      omega arith

  -- hands without a number are not touched where that is struck out
  hands_else : (out : List (Option T)) (hands : List (ℕ × T)) (n : ℕ) → All (Outs out) hands → sum_by (of_number n) hands ≡ 0 → All (Outs (set out n None)) hands
  hands_else out [] n all none = All-nil (Outs (set out n None))
  hands_else out (h ∷ hs) n all none =
      let s : sum_by (of_number n) (h ∷ hs) ≡ of_number n h + sum_by (of_number n) hs = sum_by-cons (of_number n) h hs in
      let one : of_number n h ≡ 0 = omega arith in
      let more : sum_by (of_number n) hs ≡ 0 = omega arith in
      let other : h.0 ≢ n = λ e. let is = counted_yes n h (sym e) in omega arith in
      All-cons (Outs (set out n None)) h hs (elsewhere out n h.0 h.1 other (All-head (Outs out) h hs all)) (hands_else out hs n (All-tail (Outs out) h hs all) more)

  -- who lends is the only one
  only : (views : List (View T)) (k : Loaned views) (i j : ℕ) (v u : View T) → get_elem? views i ≡ some v → get_elem? views j ≡ some u → j ≢ i → v.lends ≡ true → u.lends ≡ true → ⊥
  only views k i j v u at there other l m =
      let two : lends_in v + lends_in u ≤ sum_by lends_in views = sum_two lends_in (holder []) views i j v u refl at there other in
      let a : lends_in v ≡ 1 = ap (λ (b : Bool). cond b 1 0) l in
      let b : lends_in u ≡ 1 = ap (λ (c : Bool). cond c 1 0) m in
      let few : sum_by lends_in views ≤ 1 = k.alone in
      omega arith

  -- ---- the beginning

  pub begins : Loaned (lender {T = T} [] ∷ [])
  begins = record {
    out = [];
    each = each_push (Knows []) [] (lender []) (λ j u at. absurd (some-ne-none u (sym at))) ((λ l. refl), All-nil (Outs []));
    alone = omega arith;
    once = λ n. omega arith;
  }

  -- ---- lending

  module _ (views : List (View T)) (k : Loaned views) (id : ℕ) (out : List (Option T)) (x : T) (at : get_elem? views id ≡ some (lender out)) where
    known : out ≡ k.out
    known = (k.each id (lender out) at).0 refl

    others_stay : (j : ℕ) (u : View T) → j ≢ id → get_elem? views j ≡ some u → Knows (out ++ Some x ∷ []) u
    others_stay j u other there = (
      (λ m. absurd (only views k id j (lender out) u at there other refl m)),
      All-weaker (Outs out) (Outs (out ++ Some x ∷ [])) (λ h there. stays out x h.0 h.1 there) u.hands (subst (λ (l : List (Option T)). All (Outs l) u.hands) (sym known) (k.each j u there).1),
    )

    lend_once : (n : ℕ) → Dec (n ≡ length out) → sum_by (times_in n) (set views id (lending (out ++ Some x ∷ []) (length out) x)) ≤ 1
    lend_once n (yes e) =
        let s = sum_set (times_in n) views id (lender out) (lending (out ++ Some x ∷ []) (length out) x) at in
        let one : of_number n (length out, x) ≡ 1 = counted_yes n (length out, x) e in
        let none : sum_by (times_in n) views ≡ 0 = sum_none (times_in n) views (λ j u there. hands_none out u.hands n (subst (λ (l : List (Option T)). All (Outs l) u.hands) (sym known) (k.each j u there).1) (omega arith)) in
        omega arith
    lend_once n (no ne) =
        let s = sum_set (times_in n) views id (lender out) (lending (out ++ Some x ∷ []) (length out) x) at in
        let one : of_number n (length out, x) ≡ 0 = counted_no n (length out, x) ne in
        let few : sum_by (times_in n) views ≤ 1 = k.once n in
        omega arith

    pub lend_keeps : Loaned (set views id (lending (out ++ Some x ∷ []) (length out) x))
    lend_keeps = record {
      out = out ++ Some x ∷ [];
      each = each_set (Knows (out ++ Some x ∷ [])) views id (lending (out ++ Some x ∷ []) (length out) x)
          ((λ l. refl), All-cons (Outs (out ++ Some x ∷ [])) (length out, x) [] (entered out x) (All-nil (Outs (out ++ Some x ∷ [])))) others_stay;
      alone = let s = sum_set lends_in views id (lender out) (lending (out ++ Some x ∷ []) (length out) x) at in let few : sum_by lends_in views ≤ 1 = k.alone in omega arith;
      once = λ n. lend_once n (ℕ_discrete n (length out));
    }

  -- ---- a hand is cut off

  module _ (views : List (View T)) (k : Loaned views) (id : ℕ) (v : View T) (at : get_elem? views id ≡ some v) where
    pub cut_keeps : Loaned (set views id (without_first v) ++ first_hand v ∷ [])
    cut_keeps = record {
      out = k.out;
      each = each_push (Knows k.out) (set views id (without_first v)) (first_hand v)
          (each_set (Knows k.out) views id (without_first v) ((k.each id v at).0, All-drop (Outs k.out) 1 v.hands (k.each id v at).1) (λ j u other there. k.each j u there))
          ((λ l. absurd (false_is l)), All-take (Outs k.out) 1 v.hands (k.each id v at).1);
      alone =
          let s = sum_set lends_in views id v (without_first v) at in
          let p = sum_by_push lends_in (set views id (without_first v)) (first_hand v) in
          let few : sum_by lends_in views ≤ 1 = k.alone in omega arith;
      once = λ n.
          let s = sum_set (times_in n) views id v (without_first v) at in
          let p = sum_by_push (times_in n) (set views id (without_first v)) (first_hand v) in
          let h : sum_by (of_number n) (take 1 v.hands) + sum_by (of_number n) (drop 1 v.hands) ≡ sum_by (of_number n) v.hands = sum_by-take-drop (of_number n) v.hands 1 in
          let few : sum_by (times_in n) views ≤ 1 = k.once n in omega arith;
    }

    -- ---- another's hands are taken in

    pub join_keeps : (other : ℕ) (w : View T) → other ≢ id → get_elem? (set views id (with_hands v w)) other ≡ some w → Loaned (set (set views id (with_hands v w)) other (holder []))
    join_keeps other w ne there =
        let his : Knows k.out w = k.each other w (sym (set_else views id other (with_hands v w) ne) ∙ there) in
        record {
          out = k.out;
          each = each_set (Knows k.out) (set views id (with_hands v w)) other (holder []) ((λ l. absurd (false_is l)), All-nil (Outs k.out))
              (λ j u o t. each_set (Knows k.out) views id (with_hands v w) ((k.each id v at).0, All-append (Outs k.out) w.hands v.hands his.1 (k.each id v at).1) (λ i z p q. k.each i z q) j u t);
          alone =
              let s = sum_set lends_in views id v (with_hands v w) at in
              let p = sum_set lends_in (set views id (with_hands v w)) other w (holder []) there in
              let few : sum_by lends_in views ≤ 1 = k.alone in omega arith;
          once = λ n.
              let s = sum_set (times_in n) views id v (with_hands v w) at in
              let p = sum_set (times_in n) (set views id (with_hands v w)) other w (holder []) there in
              let h : sum_by (of_number n) (w.hands ++ v.hands) ≡ sum_by (of_number n) w.hands + sum_by (of_number n) v.hands = sum_by-append (of_number n) w.hands v.hands in
              let few : sum_by (times_in n) views ≤ 1 = k.once n in omega arith;
        }

  -- ---- a loan is settled

  module _ (views : List (View T)) (k : Loaned views) (id : ℕ) (out : List (Option T)) (n : ℕ) (x : T) (at : get_elem? views id ≡ some (lending out n x)) where
    settling : out ≡ k.out
    settling = (k.each id (lending out n x) at).0 refl

    pub was_out : IsOut out n x
    was_out = subst (λ (l : List (Option T)). IsOut l n x) (sym settling) (All-head (Outs k.out) (n, x) [] (k.each id (lending out n x) at).1)

    others_keep : (j : ℕ) (u : View T) → j ≢ id → get_elem? views j ≡ some u → Knows (set out n None) u
    others_keep j u other there =
        let two = sum_two (times_in n) (holder []) views id j (lending out n x) u refl at there other in
        let one : of_number n (n, x) ≡ 1 = counted_yes n (n, x) refl in
        let few : sum_by (times_in n) views ≤ 1 = k.once n in
        let none : sum_by (of_number n) u.hands ≡ 0 = omega arith in (
          (λ m. absurd (only views k id j (lending out n x) u at there other refl m)),
          hands_else out u.hands n (subst (λ (l : List (Option T)). All (Outs l) u.hands) (sym settling) (k.each j u there).1) none,
        )

    pub settle_keeps : Loaned (set views id (lender (set out n None)))
    settle_keeps = record {
      out = set out n None;
      each = each_set (Knows (set out n None)) views id (lender (set out n None)) ((λ l. refl), All-nil (Outs (set out n None))) others_keep;
      alone = let s = sum_set lends_in views id (lending out n x) (lender (set out n None)) at in let few : sum_by lends_in views ≤ 1 = k.alone in omega arith;
      once = λ m. let s = sum_set (times_in m) views id (lending out n x) (lender (set out n None)) at in let few : sum_by (times_in m) views ≤ 1 = k.once m in omega arith;
    }

  -- ---- two loans are compared

  pub apart : (views : List (View T)) (k : Loaned views) (id : ℕ) (n m : ℕ) (x y : T) → get_elem? views id ≡ some (holder ((m, y) ∷ (n, x) ∷ [])) → n ≢ m
  apart views k id n m x y at e =
      let le = sum_one (times_in n) views id (holder ((m, y) ∷ (n, x) ∷ [])) at in
      let few : sum_by (times_in n) views ≤ 1 = k.once n in
      let a : of_number n (m, y) ≡ 1 = counted_yes n (m, y) e in
      let b : of_number n (n, x) ≡ 1 = counted_yes n (n, x) refl in
      omega arith
