-- What is in flight under keys, by the list of nodes.
use Rattle.std.proofs.Common.{◌≡◌, ◌≢◌, ℕ, List, [], ◌∷◌, Bool, cond, Some, None, ◌⊎◌, inl, inr, IsPermutation, refl, sym, ap, ◌∙◌, subst}
use Rattle.std.proofs.lemmas.List.Sorted.{IsPermutation-refl, IsPermutation-trans, IsPermutation-cons}
use Rattle.zio_trace.proofs.LabelLemmas.{number_itself}
use Rattle.zio_frames.specs.Frames.{Flying}
use Rattle.zio_frames.proofs.GetLemmas.{same_or_not}
use Rattle.zio_frames.proofs.PermLemmas.{swap_two}
use Rattle.zio_staged.specs.Entries.{AreWith, IsWith, KeysDiffer, Live, flying_at, flying_of, live_of}
use Rattle.zio_turns.proofs.Queues.{number_other}

pub first_at : (x : Live) (xs : List Live) → flying_at (x ∷ xs) x.key ≡ Some (flying_of x)
first_at x xs = ap (λ (b : Bool). cond b (Some (flying_of x)) (flying_at xs x.key)) (number_itself x.key)

pub other_at : (x : Live) (xs : List Live) (k : ℕ) → k ≢ x.key → flying_at (x ∷ xs) k ≡ flying_at xs k
other_at x xs k n =
    ap (λ (b : Bool). cond b (Some (flying_of x)) (flying_at xs k)) (number_other x.key k (λ e. n (sym e)))

-- the first has another key than the second
pub second_other : (x y : Live) (xs : List Live) → KeysDiffer (x ∷ y ∷ xs) → y.key ≢ x.key
second_other x y xs d e = clash (flying_of y) (sym d.0 ∙ ap (flying_at (y ∷ xs)) (sym e) ∙ first_at y xs)
  where
    clash : (z : Flying) → None ≡ Some z → ⊥
    clash z h = cc

pub second_at : (x y : Live) (xs : List Live) → KeysDiffer (x ∷ y ∷ xs) → flying_at (x ∷ y ∷ xs) y.key ≡ Some (flying_of y)
second_at x y xs d = other_at x (y ∷ xs) y.key (second_other x y xs d) ∙ first_at y xs

-- ---- the first is exchanged, goes, or comes

pub with_first : (key : ℕ) (x y : Flying) (xs : List Live)
    → IsWith (flying_at (live_of key x ∷ xs)) key (Some y) (flying_at (live_of key y ∷ xs))
with_first key x y xs = record {
  there = first_at (live_of key y) xs;
  others = λ k n. other_at (live_of key y) xs k n ∙ sym (other_at (live_of key x) xs k n);
}

pub with_more : (key : ℕ) (y : Flying) (xs : List Live) → IsWith (flying_at xs) key (Some y) (flying_at (live_of key y ∷ xs))
with_more key y xs = record {
  there = first_at (live_of key y) xs;
  others = λ k n. other_at (live_of key y) xs k n;
}

pub with_first_more : (key child : ℕ) (x y z : Flying) (xs : List Live) → child ≢ key
    → AreWith (flying_at (live_of key x ∷ xs)) key (Some y) child (Some z) (flying_at (live_of child z ∷ live_of key y ∷ xs))
with_first_more key child x y z xs n = record {
  there = other_at (live_of child z) (live_of key y ∷ xs) key (λ e. n (sym e)) ∙ first_at (live_of key y) xs;
  also = first_at (live_of child z) (live_of key y ∷ xs);
  others = λ k m i.
      other_at (live_of child z) (live_of key y ∷ xs) k i
      ∙ other_at (live_of key y) xs k m ∙ sym (other_at (live_of key x) xs k m);
}

-- the keys differ still
pub differ_first : (key : ℕ) (x y : Flying) (xs : List Live) → KeysDiffer (live_of key x ∷ xs) → KeysDiffer (live_of key y ∷ xs)
differ_first key x y xs d = d

pub differ_second : (x : Live) (key : ℕ) (y z : Flying) (xs : List Live) → KeysDiffer (x ∷ live_of key y ∷ xs)
    → KeysDiffer (x ∷ live_of key z ∷ xs)
differ_second x key y z xs d =
    let n : x.key ≢ key = λ e. second_other x (live_of key y) xs d (sym e) in
    (other_at (live_of key z) xs x.key n ∙ sym (other_at (live_of key y) xs x.key n) ∙ d.0, d.1)

-- ---- one comes to the front

pub record Fronted (lives : List Live) (key : ℕ) (p : Flying) : Type 0 where
  pub others : List Live
  pub order : IsPermutation lives (live_of key p ∷ others)
  pub same : (k : ℕ) → flying_at (live_of key p ∷ others) k ≡ flying_at lives k
  pub differ : KeysDiffer (live_of key p ∷ others)

swapped : (x y : Live) (xs ys : List Live) (k : ℕ) → y.key ≢ x.key → flying_at (y ∷ ys) k ≡ flying_at xs k
    → flying_at (y ∷ x ∷ ys) k ≡ flying_at (x ∷ xs) k
swapped x y xs ys k n e = by (same_or_not k y.key) (same_or_not k x.key)
  where
    by : (k ≡ y.key) ⊎ (k ≢ y.key) → (k ≡ x.key) ⊎ (k ≢ x.key) → flying_at (y ∷ x ∷ ys) k ≡ flying_at (x ∷ xs) k
    by (inl i) (inl j) = absurd (n (sym i ∙ j))
    by (inl i) (inr j) =
        ap (flying_at (y ∷ x ∷ ys)) i ∙ first_at y (x ∷ ys)
        ∙ sym (ap (flying_at (y ∷ ys)) i ∙ first_at y ys) ∙ e ∙ sym (other_at x xs k j)
    by (inr i) (inl j) =
        other_at y (x ∷ ys) k i ∙ ap (flying_at (x ∷ ys)) j ∙ first_at x ys ∙ sym (ap (flying_at (x ∷ xs)) j ∙ first_at x xs)
    by (inr i) (inr j) =
        other_at y (x ∷ ys) k i ∙ other_at x ys k j ∙ sym (other_at y ys k i) ∙ e ∙ sym (other_at x xs k j)

front_behind : (x : Live) (xs : List Live) (key : ℕ) (p : Flying) → x.key ≢ key → KeysDiffer (x ∷ xs) → Fronted xs key p
    → Fronted (x ∷ xs) key p
front_behind x xs key p n d f =
    let y : Live = live_of key p in
    record {
      others = x ∷ f.others;
      order = IsPermutation-trans (x ∷ xs) (x ∷ y ∷ f.others) (y ∷ x ∷ f.others)
          (IsPermutation-cons x xs (y ∷ f.others) f.order) (swap_two x y f.others);
      same = λ k. swapped x y xs f.others k (λ e. n (sym e)) (f.same k);
      differ = (
        other_at x f.others key (λ e. n (sym e)) ∙ f.differ.0,
        (sym (other_at y f.others x.key n) ∙ f.same x.key ∙ d.0, f.differ.1),
      );
    }

pub to_front : (lives : List Live) (key : ℕ) (p : Flying) → KeysDiffer lives → flying_at lives key ≡ Some p
    → Fronted lives key p
to_front [] key p d e = absurd (cc)
to_front (x ∷ xs) key p d e = by (same_or_not x.key key) (λ g. to_front xs key p d.1 g)
  where
    by : (x.key ≡ key) ⊎ (x.key ≢ key) → (flying_at xs key ≡ Some p → Fronted xs key p) → Fronted (x ∷ xs) key p
    by (inl i) later =
        let found : Some (flying_of x) ≡ Some p = sym (first_at x xs) ∙ ap (flying_at (x ∷ xs)) i ∙ e in
        let is : flying_of x ≡ p = cc in
        let same : x ≡ live_of key p = λ j. record { key = i j; at = (is j).at; stack = (is j).stack } in
        subst (λ (y : Live). Fronted (x ∷ xs) y.key (flying_of y)) same (record {
          others = xs;
          order = IsPermutation-refl (x ∷ xs);
          same = λ k. refl;
          differ = d;
        })
    by (inr n) later = front_behind x xs key p n d (later (sym (other_at x xs key (λ i. n (sym i))) ∙ e))
