-- The steps of one seat, as its functions make them.
use Rattle.std.proofs.Common.{◌≡◌, ℕ, List, [], ◌∷◌, ◌++◌, length, set, refl, sym, ap, ◌∙◌, subst, ◌==◌, Option, Some, None}
use mathlib.Core.Option.{some, none, some-injective}
use prog.Atomic.{either}
use lib.ListN.{get_elem?}
use Rattle.atomic_table.specs.Table.{Me, Allows, Joins, Splits, keeps, opening, step}
use Rattle.atomic_table.proofs.Lists.{set_again}
use Rattle.zio_loans.specs.declared.view.View.{View}
use Rattle.zio_loans.specs.Out.{ComesBack, IsOut}
use Rattle.zio_loans.specs.Rule.{Compares, Lends, Lent, Loaned, Settles, first_hand, holder, lender, lending, with_hands, without_first}
use Rattle.zio_loans.proofs.Keeps.{apart, begins, cut_keeps, join_keeps, lend_keeps, settle_keeps, was_out}

pub one_view : {A : Type 0} (l : List A) (v w : A) → l ≡ v ∷ [] → l ≡ w ∷ [] → v ≡ w
one_view l v w e f = let g : v ∷ [] ≡ w ∷ [] = sym e ∙ f in cc

module _ {T : Type 0} where
  one_hand : (n m : ℕ) (x y : T) → ◌≡◌ {A = List (ℕ × T)} ((n, x) ∷ []) ((m, y) ∷ []) → (n ≡ m) × (x ≡ y)
  one_hand n m x y e = let p : (n, x) ≡ (m, y) = cc in (ap (λ (q : ℕ × T). q.0) p, ap (λ (q : ℕ × T). q.1) p)

  two_hands : (n k m l : ℕ) (x y z u : T) → ◌≡◌ {A = List (ℕ × T)} ((k, y) ∷ (n, x) ∷ []) ((l, u) ∷ (m, z) ∷ []) → (n ≡ m) × (k ≡ l)
  two_hands n k m l x y z u e = let p : (n, x) ≡ (m, z) = cc in let q : (k, y) ≡ (l, u) = cc in (ap (λ (r : ℕ × T). r.0) p, ap (λ (r : ℕ × T). r.0) q)

  pub starts : Lent {T = T} (opening (0 ∷ []) [] (lender []))
  starts = begins

  pub lends : (slots id : ℕ) (me : Me T (View T)) (x : T) → me ≡ (lender me.0.out, []) → Allows Lent slots id me 0 (λ n. either (n == 0) 0 n) (Lends (step slots 0 0 0 (some x)) me)
  lends slots id me x is s k homes at small =
      let v : me.0 ≡ lender me.0.out = ap (λ (m : Me T (View T)). m.0) is in (
        lending (me.0.out ++ Some x ∷ []) (length me.0.out) x,
        keeps,
        tt,
        lend_keeps s.views k id me.0.out x (at ∙ ap some v),
        λ y e. ap (λ (z : T). (lending (me.0.out ++ Some z ∷ []) (length me.0.out) z, me.1)) (some-injective x y e),
      )

  pub cuts : (id : ℕ) (v : View T) → Splits Lent id v (without_first v) (first_hand v)
  cuts id v s k at = cut_keeps s.views k id v at

  pub joins : (id other : ℕ) (v w : View T) → Joins Lent id v other w (with_hands v w) (holder [])
  joins id other v w s k at ne there = join_keeps s.views k id v at other w ne there

  pub settles : (slots id : ℕ) (me : Me T (View T)) (n : ℕ) (x : T) → me ≡ (lending me.0.out n x, []) → Allows Lent slots id me 0 (λ m. m) (Settles (step slots 0 0 0 none) me)
  settles slots id me n x is s k homes at small =
      let v : me.0 ≡ lending me.0.out n x = ap (λ (m : Me T (View T)). m.0) is in
      let there : get_elem? s.views id ≡ some (lending me.0.out n x) = at ∙ ap some v in (
        lender (set me.0.out n None),
        keeps,
        tt,
        settle_keeps s.views k id me.0.out n x there,
        λ m y h.
            let same = one_hand n m x y (sym (ap (λ (u : View T). u.hands) v) ∙ h) in (
              subst (λ (i : ℕ). IsOut me.0.out i y) same.0 (subst (λ (z : T). IsOut me.0.out n z) same.1 (was_out s.views k id me.0.out n x there)),
              ap (λ (i : ℕ). (lender (set me.0.out i None), me.1)) same.0,
            ),
      )

  pub compares : (slots id : ℕ) (me : Me T (View T)) (n k : ℕ) (x y : T) → me.0 ≡ holder ((k, y) ∷ (n, x) ∷ []) → Allows Lent slots id me 0 (λ m. m) (Compares (step slots 0 0 0 none) me)
  compares slots id me n k x y is s kept homes at small = (
    me.0,
    keeps,
    tt,
    subst Loaned (sym (set_again s.views id me.0 at)) kept,
    (
      refl,
      λ m l z u h.
          let same = two_hands n k m l x y z u (sym (ap (λ (v : View T). v.hands) is) ∙ h) in
          λ e. apart s.views kept id n k x y (at ∙ ap some is) (same.0 ∙ e ∙ sym same.1),
    ),
  )

  -- ---- what a seat is after its steps

  pub lender_is : (me : Me T (View T)) (out : List (Option T)) → me ≡ (lender out, []) → (me ≡ (lender me.0.out, [])) × (me.0.out ≡ out)
  lender_is me out e =
      let o : me.0.out ≡ out = ap (λ (m : Me T (View T)). m.0.out) e in
      (e ∙ ap (λ (l : List (Option T)). (lender l, [])) (sym o), o)

  -- a lender that took a loan in has it in hand
  pub taken_in : (old new : Me T (View T)) (n : ℕ) (x : T) → old ≡ (lender old.0.out, []) → new ≡ (with_hands old.0 (holder ((n, x) ∷ [])), old.1)
      → (new ≡ (lending new.0.out n x, [])) × (new.0.out ≡ old.0.out)
  taken_in old new n x is e =
      let full : new ≡ (lending old.0.out n x, []) = e ∙ ap (λ (m : Me T (View T)). (with_hands m.0 (holder ((n, x) ∷ [])), m.1)) is in
      let o : new.0.out ≡ old.0.out = ap (λ (m : Me T (View T)). m.0.out) full in
      (full ∙ ap (λ (l : List (Option T)). (lending l n x, [])) (sym o), o)

  pub back_again : (mid new : Me T (View T)) (n : ℕ) (x : T) → mid ≡ (lending mid.0.out n x, []) → new ≡ (lender (set mid.0.out n None), mid.1) → new ≡ (lender new.0.out, [])
  back_again mid new n x is e =
      let free : mid.1 ≡ [] = ap (λ (m : Me T (View T)). m.1) is in
      (lender_is new (set mid.0.out n None) (e ∙ ap (λ (l : List (ℕ × T)). (lender (set mid.0.out n None), l)) free)).0

  pub came_back : (old mid new : Me T (View T)) (n : ℕ) (x : T) → mid ≡ (lending mid.0.out n x, []) → mid.0.out ≡ old.0.out → IsOut mid.0.out n x → new ≡ (lender (set mid.0.out n None), mid.1)
      → ComesBack old.0.out n x new.0.out
  came_back old mid new n x is o was e = record {
    was_out = subst (λ (l : List (Option T)). IsOut l n x) o was;
    struck = ap (λ (m : Me T (View T)). m.0.out) e ∙ ap (λ (l : List (Option T)). set l n None) o;
  }

  -- a lender that let its new loan go
  pub let_go : (mid new : Me T (View T)) (out : List (Option T)) (n : ℕ) (x : T) → mid ≡ (lending out n x, []) → new ≡ (without_first mid.0, mid.1) → new ≡ (lender out, [])
  let_go mid new out n x is e = e ∙ ap (λ (m : Me T (View T)). (without_first m.0, m.1)) is

  -- a loan's seat that took another loan in, and gave it up again
  pub both_in : (old mid : Me T (View T)) (n k : ℕ) (x y : T) → old.0 ≡ holder ((n, x) ∷ []) → mid ≡ (with_hands old.0 (holder ((k, y) ∷ [])), old.1) → mid.0 ≡ holder ((k, y) ∷ (n, x) ∷ [])
  both_in old mid n k x y is e = ap (λ (m : Me T (View T)). m.0) e ∙ ap (λ (v : View T). with_hands v (holder ((k, y) ∷ []))) is

  pub first_left : (mid new : Me T (View T)) (n k : ℕ) (x y : T) → mid.0 ≡ holder ((k, y) ∷ (n, x) ∷ []) → new ≡ (without_first mid.0, mid.1) → new.0 ≡ holder ((n, x) ∷ [])
  first_left mid new n k x y is e = ap (λ (m : Me T (View T)). m.0) e ∙ ap without_first is
