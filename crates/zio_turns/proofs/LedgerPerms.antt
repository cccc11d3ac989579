-- Lists of lists in another order, for the books of a round.
use Rattle.std.proofs.Common.{◌≡◌, ℕ, zero, suc, List, [], ◌∷◌, ◌++◌, slice_get, slice_set, Some, refl, sym, ap, ◌∙◌, subst, append_assoc}
use Rattle.std.specs.Prelude.{IsPermutation}
use Rattle.std.specs.List.{flat_map}
use Rattle.std.proofs.lemmas.List.Sorted.{IsPermutation-append_comm, IsPermutation-append_left, IsPermutation-append_right, IsPermutation-refl, IsPermutation-sym, IsPermutation-trans}
use Rattle.zio_gang.specs.Attempts.{Ended}
use Rattle.zio_frames.proofs.PermLemmas.{flat_permuted, swap_fronts}
use Rattle.zio_staged.specs.Entries.{Live}
use Rattle.zio_turns.specs.Ledgers.{ended_with}
use Rattle.zio_staged.specs.Parts.{ended_in}
use Rattle.zio_turns.proofs.Links.{some_is}

-- two lists that are the same stand in any order
pub same_moved : {X : Type 0} (xs ys : List X) → xs ≡ ys → IsPermutation xs ys
same_moved {X} xs ys e = subst (λ (zs : List X). IsPermutation xs zs) e (IsPermutation-refl xs)

module _ {X Y : Type 0} (g : X → List Y) where
  -- one is exchanged for one that has the same
  pub set_same : (xs : List X) (n : ℕ) (x y : X) → slice_get xs n ≡ Some x → g y ≡ g x
      → flat_map g (slice_set xs n y) ≡ flat_map g xs
  set_same [] n x y h e = refl
  set_same (z ∷ xs) zero x y h e = ap (λ (ys : List Y). ys ++ flat_map g xs) (e ∙ ap g (sym (some_is z x h)))
  set_same (z ∷ xs) (suc n) x y h e = ap (λ (ys : List Y). g z ++ ys) (set_same xs n x y h e)

  -- for one that has more
  pub set_more : (xs : List X) (n : ℕ) (x y : X) (more : List Y) → slice_get xs n ≡ Some x → IsPermutation (g y) (more ++ g x)
      → IsPermutation (flat_map g (slice_set xs n y)) (more ++ flat_map g xs)
  set_more [] n x y more h p = absurd (cc)
  set_more (z ∷ xs) zero x y more h p =
      let rest : List Y = flat_map g xs in
      let own : IsPermutation (g y) (more ++ g z) = subst (λ (w : X). IsPermutation (g y) (more ++ g w)) (sym (some_is z x h)) p in
      subst (λ (ys : List Y). IsPermutation (g y ++ rest) ys) (append_assoc more (g z) rest)
      (IsPermutation-append_left rest (g y) (more ++ g z) own)
  set_more (z ∷ xs) (suc n) x y more h p =
      let rest : List Y = flat_map g xs in
      IsPermutation-trans (g z ++ flat_map g (slice_set xs n y)) (g z ++ (more ++ rest)) (more ++ (g z ++ rest))
      (IsPermutation-append_right (g z) (flat_map g (slice_set xs n y)) (more ++ rest) (set_more xs n x y more h p))
      (swap_fronts (g z) more rest)

  -- what one had stands beside what is left, where it is exchanged for one that has nothing
  pub set_less : (xs : List X) (n : ℕ) (x y : X) → slice_get xs n ≡ Some x → g y ≡ []
      → IsPermutation (g x ++ flat_map g (slice_set xs n y)) (flat_map g xs)
  set_less [] n x y h none = absurd (cc)
  set_less (z ∷ xs) zero x y h none =
      same_moved (g x ++ (g y ++ flat_map g xs)) (g z ++ flat_map g xs)
      (ap (λ (ys : List Y). g x ++ (ys ++ flat_map g xs)) none ∙ ap (λ (w : X). g w ++ flat_map g xs) (sym (some_is z x h)))
  set_less (z ∷ xs) (suc n) x y h none =
      let now : List Y = flat_map g (slice_set xs n y) in
      IsPermutation-trans (g x ++ (g z ++ now)) (g z ++ (g x ++ now)) (g z ++ flat_map g xs) (swap_fronts (g x) (g z) now)
      (IsPermutation-append_right (g z) (g x ++ now) (flat_map g xs) (set_less xs n x y h none))

-- ---- what nodes heard of, beside what trees did

pub with_same : (lives : List Live) (heard now : List Ended) → IsPermutation heard now
    → IsPermutation (ended_with heard lives) (ended_with now lives)
with_same [] heard now p = p
with_same (x ∷ lives) heard now p =
    IsPermutation-append_right (ended_in x.stack) (ended_with heard lives) (ended_with now lives) (with_same lives heard now p)

pub with_heard : (lives : List Live) (heard now more : List Ended) → IsPermutation now (more ++ heard)
    → IsPermutation (ended_with now lives) (more ++ ended_with heard lives)
with_heard [] heard now more p = p
with_heard (x ∷ lives) heard now more p =
    let own : List Ended = ended_in x.stack in
    IsPermutation-trans (own ++ ended_with now lives) (own ++ (more ++ ended_with heard lives))
    (more ++ (own ++ ended_with heard lives))
    (IsPermutation-append_right own (ended_with now lives) (more ++ ended_with heard lives) (with_heard lives heard now more p))
    (swap_fronts own more (ended_with heard lives))

abbrev of_live : Live → List Ended
of_live x = ended_in x.stack

with_flat : (heard : List Ended) (lives : List Live) → ended_with heard lives ≡ flat_map of_live lives ++ heard
with_flat heard [] = refl
with_flat heard (x ∷ lives) =
    ap (λ (es : List Ended). ended_in x.stack ++ es) (with_flat heard lives)
    ∙ sym (append_assoc (ended_in x.stack) (flat_map of_live lives) heard)

pub with_order : (heard : List Ended) (lives now : List Live) → IsPermutation lives now
    → IsPermutation (ended_with heard lives) (ended_with heard now)
with_order heard lives now p =
    subst (λ (es : List Ended). IsPermutation es (ended_with heard now)) (sym (with_flat heard lives))
    (subst (λ (es : List Ended). IsPermutation (flat_map of_live lives ++ heard) es) (sym (with_flat heard now))
    (IsPermutation-append_left heard (flat_map of_live lives) (flat_map of_live now) (flat_permuted of_live lives now p)))

-- ---- one request more

-- What a node heard of and the request that it is, with what its parent heard of, stand for both; the rest stays.
pub books_more : (done own more up up_now rest : List Ended) → IsPermutation done (own ++ (up ++ rest))
    → IsPermutation up_now ((own ++ more) ++ up) → IsPermutation (done ++ more) (up_now ++ rest)
books_more done own more up up_now rest p q =
    let all : List Ended = own ++ (up ++ rest) in
    let one : IsPermutation (done ++ more) (all ++ more) = IsPermutation-append_left more done all p in
    let two : IsPermutation (all ++ more) (more ++ all) = IsPermutation-append_comm all more in
    let three : IsPermutation (more ++ all) (own ++ (more ++ (up ++ rest))) = swap_fronts more own (up ++ rest) in
    let same : own ++ (more ++ (up ++ rest)) ≡ ((own ++ more) ++ up) ++ rest =
    sym (append_assoc own more (up ++ rest)) ∙ sym (append_assoc (own ++ more) up rest) in
    let four : IsPermutation (((own ++ more) ++ up) ++ rest) (up_now ++ rest) =
    IsPermutation-append_left rest ((own ++ more) ++ up) up_now (IsPermutation-sym up_now ((own ++ more) ++ up) q) in
    IsPermutation-trans (done ++ more) (all ++ more) (up_now ++ rest) one
    (IsPermutation-trans (all ++ more) (more ++ all) (up_now ++ rest) two
    (IsPermutation-trans (more ++ all) (own ++ (more ++ (up ++ rest))) (up_now ++ rest) three
    (subst (λ (es : List Ended). IsPermutation es (up_now ++ rest)) (sym same) four)))
