-- What a pointer says of the header or the body that is read for it.
use Rattle.std.proofs.Common.{◌≡◌, ℕ, zero, suc, ◌%◌, ◌^◌, ◌<◌, ◌≤◌, List, [], ◌∷◌, length, get_or, take, Bool, true, false, Some, slice_get, IsTrue, refl, sym, ap, ◌∙◌, arith}
use Rattle.std.proofs.lemmas.Bool.{and_parts}
use Rattle.std.specs.List.{list_all}
use Rattle.zio_types.specs.Choices.{no_place}
use Rattle.zio_blkptr.specs.declared.pointer.Bp.{Bp}
use Rattle.zio_blkptr.specs.Pointers.{is_present, valid}
use Rattle.zio_blkptr.proofs.PointerLemmas.{IsInRange-from, valid_parts}
use Rattle.zio_cksum.specs.Blocks.{good_claimed, good_claimed_at}
use Rattle.zio_cksum.specs.Headers.{is_header}

first_item : {X : Type 0} (n : ℕ) (xs : List X) (d : X) → 1 ≤ n → length xs ≡ 3 → slice_get (take n xs) 0 ≡ Some (get_or xs 0 d)
first_item zero xs d some three = absurd (omega arith)
first_item (suc n) [] d some three = absurd (omega arith)
first_item (suc n) (x ∷ xs) d some three = refl

first_all : {X : Type 0} (test : X → Bool) (n : ℕ) (xs : List X) (d : X) → 1 ≤ n → length xs ≡ 3 → IsTrue (list_all test (take n xs)) → IsTrue (test (get_or xs 0 d))
first_all test zero xs d some three h = absurd (omega arith)
first_all test (suc n) [] d some three h = absurd (omega arith)
first_all test (suc n) (x ∷ xs) d some three h = (and_parts (test x) (list_all test (take n xs)) h).0

-- a size of whole sectors, up to the largest block's
pub record IsBlockSize (size : ℕ) : Type 0 where
  pub some : 0 < size
  pub whole : size % 512 ≡ 0
  pub most : size ≤ 1048576

pub block_size : (bp : Bp) → IsTrue (valid bp) → IsBlockSize bp.size
block_size bp ok = let size = (valid_parts bp ok).size in record { some = omega (arith, size.low); whole = size.whole; most = size.high }

pub first_sector : (bp : Bp) → length bp.places ≡ 3 → IsTrue (valid bp) → (get_or bp.places 0 no_place).sector < 2 ^ 48
first_sector bp three ok =
    let parts = valid_parts bp ok in
    (IsInRange-from bp (get_or bp.places 0 no_place) parts.size (first_all (is_present bp) bp.count bp.places no_place parts.low three parts.present)).sector

pub claimed_at_first : (bp : Bp) (bytes : List ℕ) → length bp.places ≡ 3 → IsTrue (valid bp) → good_claimed bp bytes ≡ is_header (get_or bp.places 0 no_place) bp.birth bp.size bytes
claimed_at_first bp bytes three ok =
    let parts = valid_parts bp ok in
    ap (λ o. good_claimed_at o bp bytes) (first_item bp.count bp.places no_place parts.low three)

-- a test that fails
pub fails : (t : Bool) → (IsTrue t → ⊥) → false ≡ t
fails true f = absurd (f refl)
fails false f = refl

pub taken_whole : (n : ℕ) (xs ys : List ℕ) → length xs ≡ n → ys ≡ take n xs → ys ≡ xs
taken_whole n xs ys e is = is ∙ ap (λ k. take k xs) (sym e) ∙ all xs
  where
    all : (xs : List ℕ) → take (length xs) xs ≡ xs
    all [] = refl
    all (x ∷ xs) = ap (λ r. x ∷ r) (all xs)
