-- An engine's slab, where one of its keys changes.
use Rattle.std.proofs.Common.{◌≡◌, ◌≢◌, ℕ, zero, suc, ◌+◌, List, [], ◌∷◌, length, get_or, Option, Some, None, ◌⊎◌, inl, inr, refl, sym, ap, ◌∙◌, subst, arith}
use Rattle.std.specs.List.{sum_by}
use Rattle.std.proofs.lemmas.List.Sums.{sum_by-cons}
use Rattle.slab.specs.Slab.{Slab, Updates, get}
use Rattle.zio_frames.specs.Frames.{Flying}
use Rattle.zio_frames.proofs.GetLemmas.{same_or_not}
use Rattle.zio_staged.specs.Entries.{AreWith, IsWith}
use Rattle.zio_turns.specs.Slabs.{AreAll, AreNumbered, held_if, held_of, left_in, left_over, shelf_of}
use Rattle.zio_turns.specs.declared.entry.TiedNode.{TiedNode}
use Rattle.zio_turns.proofs.Links.{some_is}

pub none_some : {X : Type 0} (x : X) → None ≡ Some x → ⊥
none_some x e = cc

suc_other : (k n : ℕ) → k ≢ n → suc k ≢ suc n
suc_other k n h e = h (omega arith)

-- sums over what stands at each place, where a place behind the last counts nothing
module _ {A : Type 0} (w : Option A → ℕ) (none : w None ≡ 0) where
  pub sum_none : (xs : List (Option A)) → ((k : ℕ) → get_or xs k None ≡ None) → sum_by w xs ≡ 0
  sum_none [] h = refl
  sum_none (x ∷ xs) h =
      let e : w x ≡ w None = ap w (h 0) in
      let all : sum_by w (x ∷ xs) ≡ w x + sum_by w xs = sum_by-cons w x xs in
      let later : sum_by w xs ≡ 0 = sum_none xs (λ k. h (suc k)) in
      omega arith

  sum_same : (xs ys : List (Option A)) → ((k : ℕ) → get_or ys k None ≡ get_or xs k None) → sum_by w ys ≡ sum_by w xs
  sum_same xs [] h = sym (sum_none xs (λ k. sym (h k)))
  sum_same [] (y ∷ ys) h = sum_none (y ∷ ys) h
  sum_same (x ∷ xs) (y ∷ ys) h =
      let e : w y ≡ w x = ap w (h 0) in
      let one : sum_by w (x ∷ xs) ≡ w x + sum_by w xs = sum_by-cons w x xs in
      let two : sum_by w (y ∷ ys) ≡ w y + sum_by w ys = sum_by-cons w y ys in
      let later : sum_by w ys ≡ sum_by w xs = sum_same xs ys (λ k. h (suc k)) in
      omega arith

  pub sum_with : (xs ys : List (Option A)) (n : ℕ) → ((k : ℕ) → k ≢ n → get_or ys k None ≡ get_or xs k None)
      → sum_by w ys + w (get_or xs n None) ≡ sum_by w xs + w (get_or ys n None)
  sum_with [] [] n h = refl
  sum_with (x ∷ xs) [] zero h =
      let one : sum_by w (x ∷ xs) ≡ w x + sum_by w xs = sum_by-cons w x xs in
      let later : sum_by w xs ≡ 0 = sum_none xs (λ k. sym (h (suc k) (λ e. absurd (omega arith)))) in
      omega arith
  sum_with (x ∷ xs) [] (suc n) h =
      let e : w x ≡ w None = ap w (sym (h 0 (λ i. absurd (omega arith)))) in
      let one : sum_by w (x ∷ xs) ≡ w x + sum_by w xs = sum_by-cons w x xs in
      let later : sum_by w [] + w (get_or xs n None) ≡ sum_by w xs + w None
      = sum_with xs [] n (λ k m. h (suc k) (suc_other k n m)) in
      omega arith
  sum_with [] (y ∷ ys) zero h =
      let two : sum_by w (y ∷ ys) ≡ w y + sum_by w ys = sum_by-cons w y ys in
      let later : sum_by w ys ≡ 0 = sum_none ys (λ k. h (suc k) (λ e. absurd (omega arith))) in
      omega arith
  sum_with [] (y ∷ ys) (suc n) h =
      let e : w y ≡ w None = ap w (h 0 (λ i. absurd (omega arith))) in
      let two : sum_by w (y ∷ ys) ≡ w y + sum_by w ys = sum_by-cons w y ys in
      let later : sum_by w ys + w None ≡ sum_by w [] + w (get_or ys n None)
      = sum_with [] ys n (λ k m. h (suc k) (suc_other k n m)) in
      omega arith
  sum_with (x ∷ xs) (y ∷ ys) zero h =
      let one : sum_by w (x ∷ xs) ≡ w x + sum_by w xs = sum_by-cons w x xs in
      let two : sum_by w (y ∷ ys) ≡ w y + sum_by w ys = sum_by-cons w y ys in
      let later : sum_by w ys ≡ sum_by w xs = sum_same xs ys (λ k. h (suc k) (λ e. absurd (omega arith))) in
      omega arith
  sum_with (x ∷ xs) (y ∷ ys) (suc n) h =
      let e : w y ≡ w x = ap w (h 0 (λ i. absurd (omega arith))) in
      let one : sum_by w (x ∷ xs) ≡ w x + sum_by w xs = sum_by-cons w x xs in
      let two : sum_by w (y ∷ ys) ≡ w y + sum_by w ys = sum_by-cons w y ys in
      let later : sum_by w ys + w (get_or xs n None) ≡ sum_by w xs + w (get_or ys n None)
      = sum_with xs ys n (λ k m. h (suc k) (suc_other k n m)) in
      omega arith

module _ {N : Type 0} where
  -- ---- one change after another

  -- taken out and put back it is exchanged
  pub exchanged : (a b c : Slab (TiedNode N)) (key : ℕ) (e : TiedNode N) → Updates a b key None → Updates b c key (Some e)
      → Updates a c key (Some e)
  exchanged a b c key e u v = record { changed = v.changed; others = λ k n. v.others k n ∙ u.others k n }

  -- ---- the shelf

  pub shelf_with : (a b : Slab (TiedNode N)) (key : ℕ) (e : TiedNode N) → Updates a b key (Some e)
      → IsWith (shelf_of {N = N} a) key (Some (held_of {N = N} e)) (shelf_of {N = N} b)
  shelf_with a b key e u = record { there = ap (held_if {N = N}) u.changed; others = λ k n. ap (held_if {N = N}) (u.others k n) }

  pub shelf_without : (a b : Slab (TiedNode N)) (key : ℕ) → Updates a b key None
      → IsWith (shelf_of {N = N} a) key None (shelf_of {N = N} b)
  shelf_without a b key u = record { there = ap (held_if {N = N}) u.changed; others = λ k n. ap (held_if {N = N}) (u.others k n) }

  pub shelf_two : (a b c : Slab (TiedNode N)) (key other : ℕ) (o : Option (TiedNode N)) (g : TiedNode N) → other ≢ key
      → Updates a b key o → Updates b c other (Some g)
      → AreWith (shelf_of {N = N} a) key (held_if {N = N} o) other (Some (held_of {N = N} g)) (shelf_of {N = N} c)
  shelf_two a b c key other o g n u v = record {
    there = ap (held_if {N = N}) (v.others key (λ e. n (sym e)) ∙ u.changed);
    also = ap (held_if {N = N}) v.changed;
    others = λ k m i. ap (held_if {N = N}) (v.others k i ∙ u.others k m);
  }

  -- ---- what holds of each

  pub all_with : (P : N → Type 0) (a b : Slab (TiedNode N)) (key : ℕ) (e : TiedNode N) → Updates a b key (Some e) → P e.node
      → AreAll {N = N} P a → AreAll {N = N} P b
  all_with P a b key e u p h = λ k g is. by k g is (same_or_not k key)
    where
      by : (k : ℕ) (g : TiedNode N) → get b k ≡ Some g → (k ≡ key) ⊎ (k ≢ key) → P g.node
      by k g is (inl i) = subst (λ (x : TiedNode N). P x.node) (some_is e g (sym u.changed ∙ sym (ap (get b) i) ∙ is)) p
      by k g is (inr n) = h k g (sym (u.others k n) ∙ is)

  pub all_without : (P : N → Type 0) (a b : Slab (TiedNode N)) (key : ℕ) → Updates a b key None
      → AreAll {N = N} P a → AreAll {N = N} P b
  all_without P a b key u h = λ k g is. by k g is (same_or_not k key)
    where
      by : (k : ℕ) (g : TiedNode N) → get b k ≡ Some g → (k ≡ key) ⊎ (k ≢ key) → P g.node
      by k g is (inl i) = absurd (none_some g (sym u.changed ∙ sym (ap (get b) i) ∙ is))
      by k g is (inr n) = h k g (sym (u.others k n) ∙ is)

  pub numbered_with : (a b : Slab (TiedNode N)) (key : ℕ) (e : TiedNode N) (lives now : ℕ → Option Flying) (x : Flying)
      → Updates a b key (Some e) → IsWith lives key (Some x) now → e.ties.children ≡ length x.stack.children
      → AreNumbered {N = N} a lives → AreNumbered {N = N} b now
  numbered_with a b key e lives now x u w same h = λ k g y is flies. by k g y is flies (same_or_not k key)
    where
      by : (k : ℕ) (g : TiedNode N) (y : Flying) → get b k ≡ Some g → now k ≡ Some y → (k ≡ key) ⊎ (k ≢ key)
          → g.ties.children ≡ length y.stack.children
      by k g y is flies (inl i) =
          let one : e ≡ g = some_is e g (sym u.changed ∙ sym (ap (get b) i) ∙ is) in
          let two : x ≡ y = some_is x y (sym w.there ∙ sym (ap now i) ∙ flies) in
          sym (ap (λ (z : TiedNode N). z.ties.children) one) ∙ same ∙ ap (λ (z : Flying). length z.stack.children) two
      by k g y is flies (inr n) = h k g y (sym (u.others k n) ∙ is) (sym (w.others k n) ∙ flies)

  pub numbered_without : (a b : Slab (TiedNode N)) (key : ℕ) (lives now : ℕ → Option Flying) → Updates a b key None
      → IsWith lives key None now → AreNumbered {N = N} a lives → AreNumbered {N = N} b now
  numbered_without a b key lives now u w h = λ k g y is flies. by k g y is flies (same_or_not k key)
    where
      by : (k : ℕ) (g : TiedNode N) (y : Flying) → get b k ≡ Some g → now k ≡ Some y → (k ≡ key) ⊎ (k ≢ key)
          → g.ties.children ≡ length y.stack.children
      by k g y is flies (inl i) = absurd (none_some g (sym u.changed ∙ sym (ap (get b) i) ∙ is))
      by k g y is flies (inr n) = h k g y (sym (u.others k n) ∙ is) (sym (w.others k n) ∙ flies)

  -- ---- how often they run

  pub left_with : (left : N → ℕ) (a b : Slab (TiedNode N)) (key : ℕ) (o : Option (TiedNode N)) → Updates a b key o
      → left_over {N = N} left b + left_in {N = N} left (get a key) ≡ left_over {N = N} left a + left_in {N = N} left o
  left_with left a b key o u =
      let e : left_in {N = N} left (get b key) ≡ left_in {N = N} left o = ap (left_in {N = N} left) u.changed in
      let k : left_over {N = N} left b + left_in {N = N} left (get a key)
      ≡ left_over {N = N} left a + left_in {N = N} left (get b key)
      = sum_with (left_in {N = N} left) refl a.slots b.slots key (λ i n. u.others i n) in
      omega arith
