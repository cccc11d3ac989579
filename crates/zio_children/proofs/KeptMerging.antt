-- New children, by number, among those that were kept.
use Rattle.std.proofs.Common.{◌≡◌, ℕ, ◌+◌, ◌<◌, ◌≤◌, List, [], ◌∷◌, ◌++◌, reverse, drop, drop-cons, get_or, length, append_assoc, add-one, true, false, nat_le, refl, sym, ap, ◌∙◌, subst, arith}
use Rattle.std.specs.List.{AllByRecursion}
use Rattle.std.proofs.lemmas.List.{reverse-append}
use Rattle.zio_gang.specs.ByNumber.{insert_if, insert_by, merge_by}
use Rattle.zio_children.specs.RequestKids.{RiseFrom}
use Rattle.zio_children.specs.declared.kept.KeptChild.{KeptChild}
use Rattle.zio_children.specs.KeptChildren.{IsPast, IsSplitAt, merged, numbers_in}

abbrev number : KeptChild → ℕ
number k = k.number

abbrev AreBelow : ℕ → List KeptChild → Type 0
AreBelow n ks = AllByRecursion (λ (k : KeptChild). k.number < n) ks

true_if : (m n : ℕ) → m ≤ n → nat_le m n ≡ true
true_if m n h = search (arith, h)

false_if : (m n : ℕ) → n < m → nat_le m n ≡ false
false_if m n h = search (arith, h)

-- a child goes behind all of lower numbers
insert_behind : (x : KeptChild) (front rest : List KeptChild) → AreBelow x.number front → insert_by number x (front ++ rest) ≡ front ++ insert_by number x rest
insert_behind x [] rest h = refl
insert_behind x (k ∷ front) rest h =
    ap (λ b. insert_if b x k (front ++ rest) (insert_by number x (front ++ rest))) (false_if x.number k.number h.0)
    ∙ ap (λ ks. k ∷ ks) (insert_behind x front rest h.1)

insert_before : (x : KeptChild) (rest : List KeptChild) → IsPast x.number rest → insert_by number x rest ≡ x ∷ rest
insert_before x [] h = refl
insert_before x (k ∷ rest) h = ap (λ b. insert_if b x k rest (insert_by number x rest)) (true_if x.number k.number h)

below_more : (m n : ℕ) (ks : List KeptChild) → m ≤ n → AreBelow m ks → AreBelow n ks
below_more m n [] le h = h
below_more m n (k ∷ ks) le h = (omega (arith, h.0), below_more m n ks le h.1)

-- the numbers of some children are above this one
abbrev AreAbove : ℕ → List KeptChild → Type 0
AreAbove n ks = AllByRecursion (λ (k : KeptChild). n ≤ k.number) ks

merge_behind : (n : ℕ) (new front rest : List KeptChild) → AreAbove n new → AreBelow n front → merge_by number new (front ++ rest) ≡ front ++ merge_by number new rest
merge_behind n [] front rest h low = refl
merge_behind n (x ∷ new) front rest h low =
    ap (insert_by number x) (merge_behind n new front rest h.1 low)
    ∙ insert_behind x front (merge_by number new rest) (below_more n x.number front h.0 low)

merge_last : (new : List KeptChild) (x : KeptChild) (kept : List KeptChild) → merge_by number (new ++ x ∷ []) kept ≡ merge_by number new (insert_by number x kept)
merge_last [] x kept = refl
merge_last (y ∷ new) x kept = ap (insert_by number y) (merge_last new x kept)

above_append : (n : ℕ) (xs : List KeptChild) (x : KeptChild) → AreAbove n xs → n ≤ x.number → AreAbove n (xs ++ x ∷ [])
above_append n [] x h k = (k, h)
above_append n (y ∷ xs) x h k = (h.0, above_append n xs x h.1 k)

above_reverse : (n : ℕ) (xs : List KeptChild) → AreAbove n xs → AreAbove n (reverse xs)
above_reverse n [] h = h
above_reverse n (x ∷ xs) h = subst (AreAbove n) (sym (reverse-append (x ∷ []) xs)) (above_append n (reverse xs) x (above_reverse n xs h.1) h.0)

above_rising : (n : ℕ) (xs : List KeptChild) → RiseFrom n (numbers_in xs) → AreAbove n xs
above_rising n [] h = h
above_rising n (x ∷ xs) h = (h.0, all_more xs (above_rising (x.number + 1) xs h.1))
  where
    all_more : (ys : List KeptChild) → AreAbove (x.number + 1) ys → AreAbove n ys
    all_more [] k = k
    all_more (y ∷ ys) k = (omega (arith, k.0, h.0), all_more ys k.1)

below_append : (n : ℕ) (xs : List KeptChild) (x : KeptChild) → AreBelow n xs → x.number < n → AreBelow n (xs ++ x ∷ [])
below_append n [] x h k = (k, h)
below_append n (y ∷ xs) x h k = (h.0, below_append n xs x h.1 k)

-- the lowest new child goes behind the kept ones of lower numbers, and all others behind it
pub merge_first : (least : ℕ) (x : KeptChild) (new kept front rest : List KeptChild) → RiseFrom least (numbers_in (x ∷ new)) → IsSplitAt x.number kept front rest
    → merged (reverse (x ∷ new)) kept ≡ (front ++ x ∷ []) ++ merged (reverse new) rest
merge_first least x new kept front rest rising split =
    let above : AreAbove (x.number + 1) (reverse new) = above_reverse (x.number + 1) new (above_rising (x.number + 1) new rising.1) in
    let low : AreBelow (x.number + 1) (front ++ x ∷ []) = below_append (x.number + 1) front x (below_more x.number (x.number + 1) front (omega arith) split.low) (omega arith) in
    let placed : insert_by number x kept ≡ (front ++ x ∷ []) ++ rest =
    ap (insert_by number x) split.joined ∙ insert_behind x front rest split.low ∙ ap (λ ks. front ++ ks) (insert_before x rest split.stop) ∙ moved front rest in
    ap (λ ks. merge_by number ks kept) (reverse-append (x ∷ []) new)
    ∙ merge_last (reverse new) x kept
    ∙ ap (merge_by number (reverse new)) placed
    ∙ merge_behind (x.number + 1) (reverse new) (front ++ x ∷ []) rest above low
  where
    moved : (ks ls : List KeptChild) → ks ++ x ∷ ls ≡ (ks ++ x ∷ []) ++ ls
    moved [] ls = refl
    moved (k ∷ ks) ls = ap (λ ms. k ∷ ms) (moved ks ls)

-- what merging keeps with each new child
pub merge_step : (new kept all behind rest next after : List KeptChild) (i : ℕ) (d : KeptChild) → i < length new
    → (merged (reverse new) kept ≡ all ++ merged (reverse (drop i new)) rest) × ((least : ℕ) × RiseFrom least (numbers_in (drop i new)))
    → (front : List KeptChild) × (behind ≡ all ++ front) × IsSplitAt (get_or new i d).number rest front next
    → after ≡ behind ++ get_or new i d ∷ []
    → (merged (reverse new) kept ≡ after ++ merged (reverse (drop (i + 1) new)) next) × ((least : ℕ) × RiseFrom least (numbers_in (drop (i + 1) new)))
merge_step new kept all behind rest next after i d h before split pushed =
    let x : KeptChild = get_or new i d in
    let more : drop i new ≡ x ∷ drop (i + 1) new = drop-cons new i d h ∙ ap (λ n. x ∷ drop n new) (sym (add-one i)) in
    let rising : RiseFrom before.1.0 (numbers_in (x ∷ drop (i + 1) new)) = subst (λ ks. RiseFrom before.1.0 (numbers_in ks)) more before.1.1 in
    let s : IsSplitAt x.number rest split.0 next = split.2 in
    let one : merged (reverse (x ∷ drop (i + 1) new)) rest ≡ (split.0 ++ x ∷ []) ++ merged (reverse (drop (i + 1) new)) next = merge_first before.1.0 x (drop (i + 1) new) rest split.0 next rising s in
    let e : all ++ (split.0 ++ x ∷ []) ≡ after =
    sym (append_assoc all split.0 (x ∷ [])) ∙ ap (λ ks. ks ++ x ∷ []) (sym split.1) ∙ sym pushed in (
      before.0 ∙ ap (λ ks. all ++ merged (reverse ks) rest) more ∙ ap (λ ks. all ++ ks) one
          ∙ sym (append_assoc all (split.0 ++ x ∷ []) (merged (reverse (drop (i + 1) new)) next))
          ∙ ap (λ ks. ks ++ merged (reverse (drop (i + 1) new)) next) e,
      (x.number + 1, rising.1),
    )
