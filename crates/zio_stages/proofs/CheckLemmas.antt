-- What a pointer says of the body or the header that is read for it, however many bytes were read.
use Rattle.std.proofs.Common.{◌≡◌, ◌≢◌, ℕ, zero, suc, ◌%◌, ◌^◌, ◌<◌, ◌≤◌, List, [], ◌∷◌, ◌++◌, length, map, replicate, get_or, take, drop, Bool, true, false, Option, Some, None, slice_get, bytes_eq, IsTrue, refl, sym, ap, subst, ◌∙◌, arith, length-append}
use Rattle.std.proofs.lemmas.Bool.{and_parts}
use Rattle.std.proofs.lemmas.Slice.Eq.{bytes_eq-Decides}
use Rattle.std.specs.List.{list_all, flat_map, cons_option}
use Rattle.zio_types.specs.declared.place.Place.{Place}
use Rattle.zio_types.specs.Choices.{no_place}
use Rattle.zio_types.specs.Filled.{filled_to}
use Rattle.zio_blkptr.specs.declared.pointer.Bp.{Bp}
use Rattle.zio_blkptr.specs.declared.pointer.SumKind.{SumKind}
use Rattle.zio_blkptr.specs.Pointers.{fields, is_present, pointer_of, spelling, valid, word}
use Rattle.zio_blkptr.proofs.PointerLemmas.{IsInRange-from, fields-pointer, valid_parts}
use Rattle.zio_cksum.specs.Blocks.{good_claimed, good_claimed_at}
use Rattle.zio_cksum.specs.Headers.{gang_sum_of, header_front, header_magic, header_of, is_header, member_bytes, members_max, members_of, split_sizes}
use Rattle.zio_cksum.specs.Sums.{sha256_words}

-- ---- the first place and the size of a pointer

first_item : {X : Type 0} (n : ℕ) (xs : List X) (d : X) → 1 ≤ n → length xs ≡ 3 → slice_get (take n xs) 0 ≡ Some (get_or xs 0 d)
first_item zero xs d some three = absurd (omega arith)
first_item (suc n) [] d some three = absurd (omega arith)
first_item (suc n) (x ∷ xs) d some three = refl

first_all : {X : Type 0} (test : X → Bool) (n : ℕ) (xs : List X) (d : X) → 1 ≤ n → length xs ≡ 3 → IsTrue (list_all test (take n xs)) → IsTrue (test (get_or xs 0 d))
first_all test zero xs d some three h = absurd (omega arith)
first_all test (suc n) [] d some three h = absurd (omega arith)
first_all test (suc n) (x ∷ xs) d some three h = (and_parts (test x) (list_all test (take n xs)) h).0

-- a size of whole sectors, up to the largest block's
pub record IsBlockSize (size : ℕ) : Type 0 where
  pub some : 0 < size
  pub whole : size % 512 ≡ 0
  pub most : size ≤ 1048576

pub block_size : (bp : Bp) → IsTrue (valid bp) → IsBlockSize bp.size
block_size bp ok = let size = (valid_parts bp ok).size in record { some = omega (arith, size.low); whole = size.whole; most = size.high }

pub first_sector : (bp : Bp) → length bp.places ≡ 3 → IsTrue (valid bp) → (get_or bp.places 0 no_place).sector < 2 ^ 48
first_sector bp three ok =
    let parts = valid_parts bp ok in
    (IsInRange-from bp (get_or bp.places 0 no_place) parts.size (first_all (is_present bp) bp.count bp.places no_place parts.low three parts.present)).sector

pub claimed_at_first : (bp : Bp) (bytes : List ℕ) → length bp.places ≡ 3 → IsTrue (valid bp) → good_claimed bp bytes ≡ is_header (get_or bp.places 0 no_place) bp.birth bp.size bytes
claimed_at_first bp bytes three ok =
    let parts = valid_parts bp ok in
    ap (λ o. good_claimed_at o bp bytes) (first_item bp.count bp.places no_place parts.low three)

-- ---- a header has 512 bytes

-- a pointer's spelling has 128 bytes, whatever the fields
spelled_long : (count : ℕ) (p q r : Place) (gang : Bool) (size : ℕ) (sum : SumKind) (birth a b c d : ℕ)
    → length (spelling (record { count = count; places = p ∷ q ∷ r ∷ []; gang = gang; size = size; sum = sum; birth = birth; words = a ∷ b ∷ c ∷ d ∷ [] })) ≡ 128
spelled_long zero p q r gang size sum birth a b c d = refl
spelled_long (suc zero) p q r gang size sum birth a b c d = refl
spelled_long (suc (suc zero)) p q r gang size sum birth a b c d = refl
spelled_long (suc (suc (suc zero))) p q r gang size sum birth a b c d = refl
spelled_long (suc (suc (suc (suc n)))) p q r gang size sum birth a b c d = refl

slot_long : (bytes : List ℕ) (o : Option Bp) → pointer_of bytes ≡ o → length (member_bytes o) ≡ 128
slot_long bytes None e = refl
slot_long bytes (Some bp) e =
    let P : Bp → Type 0 = λ b. length (spelling b) ≡ 128 in
    subst P (fields-pointer bytes bp e)
    (spelled_long (fields bytes).count _ _ _ (fields bytes).gang (fields bytes).size (fields bytes).sum (fields bytes).birth _ _ _ _)

sum_long : (bytes : List ℕ) → length (flat_map word (sha256_words bytes)) ≡ 32
unfolding sha256_words
sum_long bytes = refl

three_long : (x y z : Option Bp) (place : Place) (birth : ℕ) → length (member_bytes x) ≡ 128 → length (member_bytes y) ≡ 128 → length (member_bytes z) ≡ 128
    → length (header_of (x ∷ y ∷ z ∷ []) place birth) ≡ 512
three_long x y z place birth at_x at_y at_z =
    let ms : List (Option Bp) = x ∷ y ∷ z ∷ [] in
    let front : List ℕ = flat_map member_bytes ms in
    let third : length (member_bytes z ++ []) ≡ 128 = omega (arith, length-append (member_bytes z) []) in
    let second : length (member_bytes y ++ (member_bytes z ++ [])) ≡ 256 = omega (arith, length-append (member_bytes y) (member_bytes z ++ [])) in
    let members : length front ≡ 384 = omega (arith, length-append (member_bytes x) (member_bytes y ++ (member_bytes z ++ []))) in
    let filled : length (front ++ replicate 88 0) ≡ 472 = omega (arith, length-append front (replicate 88 0)) in
    let told : length (header_front ms) ≡ 480 = omega (arith, length-append (front ++ replicate 88 0) (word header_magic)) in
    let sum : length (flat_map word (gang_sum_of (header_front ms) place birth)) ≡ 32 = sum_long _ in
    omega (arith, length-append (header_front ms) (flat_map word (gang_sum_of (header_front ms) place birth)))

-- those of three that are there
abbrev kept : Option Bp → Option Bp → Option Bp → List Bp
kept x y z = cons_option x (cons_option y (cons_option z []))

kept_long : (x y z : Option Bp) (place : Place) (birth : ℕ) → length (member_bytes x) ≡ 128 → length (member_bytes y) ≡ 128 → length (member_bytes z) ≡ 128
    → length (header_of (filled_to None members_max (map Some (kept x y z))) place birth) ≡ 512
kept_long None None None place birth at_x at_y at_z = three_long None None None place birth refl refl refl
kept_long None None (Some c) place birth at_x at_y at_z = three_long (Some c) None None place birth at_z refl refl
kept_long None (Some b) None place birth at_x at_y at_z = three_long (Some b) None None place birth at_y refl refl
kept_long None (Some b) (Some c) place birth at_x at_y at_z = three_long (Some b) (Some c) None place birth at_y at_z refl
kept_long (Some a) None None place birth at_x at_y at_z = three_long (Some a) None None place birth at_x refl refl
kept_long (Some a) None (Some c) place birth at_x at_y at_z = three_long (Some a) (Some c) None place birth at_x at_z refl
kept_long (Some a) (Some b) None place birth at_x at_y at_z = three_long (Some a) (Some b) None place birth at_x at_y refl
kept_long (Some a) (Some b) (Some c) place birth at_x at_y at_z = three_long (Some a) (Some b) (Some c) place birth at_x at_y at_z

pub header_long : (bytes : List ℕ) (place : Place) (birth : ℕ) → length (header_of (filled_to None members_max (map Some (members_of bytes))) place birth) ≡ 512
header_long bytes place birth =
    let first : List ℕ = take 128 bytes in
    let second : List ℕ = take 128 (drop 128 bytes) in
    let third : List ℕ = take 128 (drop 256 bytes) in
    kept_long (pointer_of first) (pointer_of second) (pointer_of third) place birth (slot_long first _ refl) (slot_long second _ refl) (slot_long third _ refl)

not_true : (t : Bool) → (IsTrue t → ⊥) → t ≡ false
not_true true f = absurd (f refl)
not_true false f = refl

-- bytes of another number aren't a header
pub other_long : (place : Place) (birth size : ℕ) (bytes : List ℕ) → length bytes ≢ 512 → is_header place birth size bytes ≡ false
other_long place birth size bytes other =
    let header : List ℕ = header_of (filled_to None members_max (map Some (members_of bytes))) place birth in
    let sizes : Bool = bytes_eq (map (λ (m : Bp). m.size) (members_of bytes)) (split_sizes size) in
    not_true (is_header place birth size bytes)
    (λ h. other (sym (ap length ((bytes_eq-Decides header bytes).0 (and_parts (bytes_eq header bytes) sizes h).0)) ∙ header_long bytes place birth))

-- a test that fails
pub fails : (t : Bool) → (IsTrue t → ⊥) → false ≡ t
fails t f = sym (not_true t f)

pub taken_whole : (n : ℕ) (xs ys : List ℕ) → length xs ≡ n → ys ≡ take n xs → ys ≡ xs
taken_whole n xs ys e is = is ∙ ap (λ k. take k xs) (sym e) ∙ all xs
  where
    all : (xs : List ℕ) → take (length xs) xs ≡ xs
    all [] = refl
    all (x ∷ xs) = ap (λ r. x ∷ r) (all xs)
