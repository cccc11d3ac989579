-- Bytes have no fault exactly where they are the header of some members.
use Rattle.std.proofs.Common.{◌≡◌, ℕ, zero, suc, ◌+◌, ◌<◌, ◌≤◌, List, [], ◌∷◌, ◌++◌, length, map, filter, take, drop, replicate, Bool, true, false, not, cond, ◌&&◌, ◌||◌, IsTrue, Option, Some, None, is_none, bytes_eq, nat_lt, refl, ap, sym, ◌∙◌, subst, arith, append_assoc, length-append, length-take, length-drop, ltb-false}
use Rattle.std.proofs.Math.Seq.{take-add}
use Rattle.std.proofs.lemmas.Bool.{false≢true, and_parts, and_from, or_parts, not-false, not_from_true}
use Rattle.std.proofs.Math.Bool.{or-false}
use Rattle.std.proofs.lemmas.List.{append-nil, length-map, take-append-drop}
use Rattle.std.proofs.lemmas.Slice.Eq.{bytes_eq-Decides}
use Rattle.std.specs.List.{flat_map, cons_option, AllByRecursion}
use Rattle.zio_types.specs.declared.place.Place.{Place}
use Rattle.zio_types.specs.Filled.{filled_to}
use Rattle.zio_blkptr.specs.declared.pointer.Bp.{Bp}
use Rattle.zio_blkptr.specs.Pointers.{word, spelling, pointer_of, valid, FitsTypes}
use Rattle.zio_blkptr.proofs.PointerLemmas.{pointer_of-spelling, spelling-pointer, length-spelling}
use Rattle.zio_cksum.specs.Headers.{Heads, header_magic, header_front, header_of, gang_sum_of, members_max, member_bytes, members_of, is_header, first_size, second_size, third_size, split_sizes, offset_of}
use Rattle.zio_cksum.specs.Sums.{sha256_words}
use Rattle.zio_cksum.proofs.HeaderLemmas.{named_law, take-front, drop-front}
use Rattle.zio_cksum.proofs.SplitLemmas.{few_law}
use Rattle.zio_gang.specs.declared.header.Header.{Header}
use Rattle.zio_gang.specs.declared.header.HeaderFault.{HeaderFault}
use Rattle.zio_gang.specs.declared.header.HeaderFault.TheVariants.{Magic, Sum, Filler, Member, Sizes}
use Rattle.zio_gang.specs.HeaderFaults.{Holds, Names, are_scattered, present, slot_at, is_vacant, is_garbled, are_no_members, has_magic_fault, has_sum_fault, has_filler_fault, has_member_fault, has_sizes_fault, first_header_fault}

-- ---- the parts of bytes

-- a part behind a front of n bytes
part-behind : (n k : ℕ) (front part rest : List ℕ) → length front ≡ n → length part ≡ k
    → take k (drop n (front ++ (part ++ rest))) ≡ part
part-behind n k front part rest at_front at_part =
    ap (take k) (drop-front n front (part ++ rest) at_front) ∙ take-front k part rest at_part

-- ---- tests

same_from_not : (xs ys : List ℕ) → not (bytes_eq xs ys) ≡ false → xs ≡ ys
same_from_not xs ys e = (bytes_eq-Decides xs ys).0 (not-false (bytes_eq xs ys) e)

not_from_same : (xs ys : List ℕ) → xs ≡ ys → not (bytes_eq xs ys) ≡ false
not_from_same xs ys e = not_from_true (bytes_eq xs ys) ((bytes_eq-Decides xs ys).1 e)

-- the first of five faults
abbrev pub first_of_five : Bool → Bool → Bool → Bool → Bool → Option HeaderFault
first_of_five a b c d e =
    cond a (Some Magic) (cond b (Some Sum) (cond c (Some Filler) (cond d (Some Member) (cond e (Some Sizes) None))))

-- there is none where each test fails
pub record AllFail (a b c d e : Bool) : Type 0 where
  pub magic : a ≡ false
  pub sum : b ≡ false
  pub filler : c ≡ false
  pub member : d ≡ false
  pub sizes : e ≡ false

pub all_fail : (a b c d e : Bool) → first_of_five a b c d e ≡ None → AllFail a b c d e
all_fail true b c d e h = cc
all_fail false true c d e h = cc
all_fail false false true d e h = cc
all_fail false false false true e h = cc
all_fail false false false false true h = cc
all_fail false false false false false h =
    record { magic = refl; sum = refl; filler = refl; member = refl; sizes = refl }

none_from_fails : (a b c d e : Bool) → AllFail a b c d e → first_of_five a b c d e ≡ None
none_from_fails a b c d e h = λ j. first_of_five (h.magic j) (h.sum j) (h.filler j) (h.member j) (h.sizes j)

-- ---- what a slot holds

-- The slot holds this pointer, or nothing.
record IsHeld (slot : List ℕ) (o : Option Bp) : Type 0 where
  pub spelled : member_bytes o ≡ slot
  pub read : pointer_of slot ≡ o

-- a vacant slot holds nothing
vacant_holds : (slot : List ℕ) → is_vacant slot ≡ true → IsHeld slot None
vacant_holds slot e =
    let zeros : slot ≡ replicate 128 0 = (bytes_eq-Decides slot (replicate 128 0)).0 e in
    record { spelled = sym zeros; read = ap pointer_of zeros }

read_holds : (slot : List ℕ) (o : Option Bp) → pointer_of slot ≡ o → is_none o ≡ false → (m : Bp) × IsHeld slot (Some m)
read_holds slot None e h = absurd (false≢true (sym h))
read_holds slot (Some m) e h = (m, record { spelled = (spelling-pointer slot m e).1; read = e })

is_read : (v n : Bool) → v ≡ false → (not v && n) ≡ false → n ≡ false
is_read true n e h = absurd (false≢true (sym e))
is_read false n e h = h

-- any other that isn't garbled holds a pointer
present_holds : (slot : List ℕ) → is_vacant slot ≡ false → is_garbled slot ≡ false → (m : Bp) × IsHeld slot (Some m)
present_holds slot e h =
    read_holds slot (pointer_of slot) refl (is_read (is_vacant slot) (is_none (pointer_of slot)) e h)

-- The three slots hold members from the front.
data HoldMembers (first second third : List ℕ) : Type 0 where
  one : (a : Bp) → IsHeld first (Some a) → IsHeld second None → IsHeld third None → HoldMembers first second third
  two : (a b : Bp) → IsHeld first (Some a) → IsHeld second (Some b) → IsHeld third None → HoldMembers first second third
  three : (a b c : Bp) → IsHeld first (Some a) → IsHeld second (Some b) → IsHeld third (Some c) → HoldMembers first second third

hold_members : (p q r : List ℕ) (v w : Bool) → is_vacant q ≡ v → is_vacant r ≡ w → is_vacant p ≡ false → (v && not w) ≡ false
    → is_garbled p ≡ false → is_garbled q ≡ false → is_garbled r ≡ false → HoldMembers p q r
hold_members p q r true true at_q at_r at_p h x y z =
    let a = present_holds p at_p x in
    one a.0 a.1 (vacant_holds q at_q) (vacant_holds r at_r)
hold_members p q r true false at_q at_r at_p h x y z = absurd (false≢true (sym h))
hold_members p q r false true at_q at_r at_p h x y z =
    let a = present_holds p at_p x in
    let b = present_holds q at_q y in
    two a.0 b.0 a.1 b.1 (vacant_holds r at_r)
hold_members p q r false false at_q at_r at_p h x y z =
    let a = present_holds p at_p x in
    let b = present_holds q at_q y in
    let c = present_holds r at_r z in
    three a.0 b.0 c.0 a.1 b.1 c.1

-- so do slots that aren't faulty
no_fault_holds : (p q r : List ℕ) → are_no_members p q r ≡ false → HoldMembers p q r
no_fault_holds p q r h =
    let fourth = or_parts (is_vacant p || (is_vacant q && not (is_vacant r)) || is_garbled p || is_garbled q) (is_garbled r) h in
    let third = or_parts (is_vacant p || (is_vacant q && not (is_vacant r)) || is_garbled p) (is_garbled q) fourth.0 in
    let second = or_parts (is_vacant p || (is_vacant q && not (is_vacant r))) (is_garbled p) third.0 in
    let first = or_parts (is_vacant p) (is_vacant q && not (is_vacant r)) second.0 in
    hold_members p q r (is_vacant q) (is_vacant r) refl refl first.0 first.1 second.1 third.1 fourth.1

-- ---- bytes without a fault are a header

-- five parts on end
front_parts : (a b c d e : ℕ) (xs : List ℕ)
    → (take a xs ++ (take b (drop a xs) ++ (take c (drop (a + b) xs) ++ []))) ++ take d (drop (a + b + c) xs) ++ take e (drop (a + b + c + d) xs)
    ≡ take (a + b + c + d + e) xs
front_parts a b c d e xs =
    let regroup : take a xs ++ (take b (drop a xs) ++ (take c (drop (a + b) xs) ++ [])) ≡ (take a xs ++ take b (drop a xs)) ++ take c (drop (a + b) xs) = simp (append_assoc, append-nil) in
    ap (λ t. t ++ take d (drop (a + b + c) xs) ++ take e (drop (a + b + c + d) xs))
    (
    regroup
    ∙ ap (λ t. t ++ take c (drop (a + b) xs)) (sym (take-add a b xs))
    ∙ sym (take-add (a + b) c xs)
    )
    ∙ ap (λ t. t ++ take e (drop (a + b + c + d) xs)) (sym (take-add (a + b + c) d xs))
    ∙ sym (take-add (a + b + c + d) e xs)

-- the sum reads no more than the front
pub gang_sum_of-front : (place : Place) (birth : ℕ) (xs ys : List ℕ) → take 480 xs ≡ take 480 ys → gang_sum_of xs place birth ≡ gang_sum_of ys place birth
gang_sum_of-front place birth xs ys e =
    ap (λ h. sha256_words (h ++ word place.top ++ word (offset_of place) ++ word birth ++ word 0)) e

-- What the slots hold, the filler, the magic and the sum make the bytes a header.
record IsSpelled (place : Place) (birth : ℕ) (bytes : List ℕ) (x y z : Option Bp) : Type 0 where
  pub first : IsHeld (slot_at bytes 0) x
  pub second : IsHeld (slot_at bytes 1) y
  pub third : IsHeld (slot_at bytes 2) z
  pub filler : take 88 (drop 384 bytes) ≡ replicate 88 0
  pub magic : take 8 (drop 472 bytes) ≡ word header_magic
  pub sum : drop 480 bytes ≡ flat_map word (gang_sum_of bytes place birth)

header_front-spelled : (place : Place) (birth : ℕ) (bytes : List ℕ) (x y z : Option Bp) → IsSpelled place birth bytes x y z → header_front (x ∷ y ∷ z ∷ []) ≡ take 480 bytes
header_front-spelled place birth bytes x y z h =
    (λ j. (h.first.spelled j ++ (h.second.spelled j ++ (h.third.spelled j ++ []))) ++ sym h.filler j ++ sym h.magic j)
    ∙ front_parts 128 128 128 88 8 bytes

header_of-spelled : (place : Place) (birth : ℕ) (bytes : List ℕ) (x y z : Option Bp) → 480 ≤ length bytes → IsSpelled place birth bytes x y z → header_of (x ∷ y ∷ z ∷ []) place birth ≡ bytes
header_of-spelled place birth bytes x y z long h =
    let front = header_front (x ∷ y ∷ z ∷ []) in
    let e : front ≡ take 480 bytes = header_front-spelled place birth bytes x y z h in
    let full : length (take 480 bytes) ≡ 480 = omega (arith, length-take 480 bytes) in
    let twice : take 480 (take 480 bytes) ≡ take 480 bytes = ap (take 480) (sym (append-nil (take 480 bytes))) ∙ take-front 480 (take 480 bytes) [] full in
    let sums : gang_sum_of front place birth ≡ gang_sum_of bytes place birth = gang_sum_of-front place birth front bytes (ap (take 480) e ∙ twice) in
    (λ j. e j ++ flat_map word (sums j))
    ∙ ap (λ s. take 480 bytes ++ s) (sym h.sum)
    ∙ take-append-drop 480 bytes

-- the two tests of a header, on the members that it names
abbrev both_tests : Place → ℕ → ℕ → List ℕ → List Bp → Bool
both_tests place birth size bytes members =
    bytes_eq (header_of (filled_to None members_max (map Some members)) place birth) bytes
    && bytes_eq (map (λ m. m.size) members) (split_sizes size)

both_pass : (place : Place) (birth size : ℕ) (bytes : List ℕ) (ms : List Bp) → members_of bytes ≡ ms
    → header_of (filled_to None members_max (map Some ms)) place birth ≡ bytes
    → map (λ m. m.size) (members_of bytes) ≡ split_sizes size → IsTrue (is_header place birth size bytes)
both_pass place birth size bytes ms read spelled sizes =
    let header = header_of (filled_to None members_max (map Some ms)) place birth in
    let said = map (λ (m : Bp). m.size) ms in
    ap (both_tests place birth size bytes) read
    ∙ and_from (bytes_eq header bytes) (bytes_eq said (split_sizes size))
    ((bytes_eq-Decides header bytes).1 spelled)
    ((bytes_eq-Decides said (split_sizes size)).1 (sym (ap (map (λ (m : Bp). m.size)) read) ∙ sizes))

-- what the slots hold is what the bytes name
members_are_held : (bytes : List ℕ) (x y z : Option Bp) → IsHeld (slot_at bytes 0) x → IsHeld (slot_at bytes 1) y → IsHeld (slot_at bytes 2) z → members_of bytes ≡ present x y z
members_are_held bytes x y z at_x at_y at_z = λ j. present (at_x.read j) (at_y.read j) (at_z.read j)

pub header_from_no_fault : (place : Place) (birth size : ℕ) (bytes : List ℕ) → 480 ≤ length bytes
    → first_header_fault place birth size bytes ≡ None → IsTrue (is_header place birth size bytes)
unfolding has_magic_fault has_sum_fault has_filler_fault has_member_fault has_sizes_fault
header_from_no_fault place birth size bytes long h =
    let f = all_fail (has_magic_fault bytes) (has_sum_fault place birth bytes) (has_filler_fault bytes) (has_member_fault bytes) (has_sizes_fault size bytes) h in
    let magic : take 8 (drop 472 bytes) ≡ word header_magic = same_from_not _ _ f.magic in
    let sum : drop 480 bytes ≡ flat_map word (gang_sum_of bytes place birth) = same_from_not _ _ f.sum in
    let filler : take 88 (drop 384 bytes) ≡ replicate 88 0 = same_from_not _ _ f.filler in
    let sizes : map (λ m. m.size) (members_of bytes) ≡ split_sizes size = same_from_not _ _ f.sizes in
    elim (no_fault_holds (slot_at bytes 0) (slot_at bytes 1) (slot_at bytes 2) f.member) [
      | one a x y z ↦ both_pass place birth size bytes (a ∷ []) (members_are_held bytes (Some a) None None x y z)
          (header_of-spelled place birth bytes (Some a) None None long (record { first = x; second = y; third = z; filler = filler; magic = magic; sum = sum })) sizes
      | two a b x y z ↦ both_pass place birth size bytes (a ∷ b ∷ []) (members_are_held bytes (Some a) (Some b) None x y z)
          (header_of-spelled place birth bytes (Some a) (Some b) None long (record { first = x; second = y; third = z; filler = filler; magic = magic; sum = sum })) sizes
      | three a b c x y z ↦ both_pass place birth size bytes (a ∷ b ∷ c ∷ []) (members_are_held bytes (Some a) (Some b) (Some c) x y z)
          (header_of-spelled place birth bytes (Some a) (Some b) (Some c) long (record { first = x; second = y; third = z; filler = filler; magic = magic; sum = sum })) sizes
    ]

-- ---- a header has no fault

-- a header's parts on end are these
record Parts (bytes first second third filler magic sum : List ℕ) : Type 0 where
  pub first_is : slot_at bytes 0 ≡ first
  pub second_is : slot_at bytes 1 ≡ second
  pub third_is : slot_at bytes 2 ≡ third
  pub filler_is : take 88 (drop 384 bytes) ≡ filler
  pub magic_is : take 8 (drop 472 bytes) ≡ magic
  pub sum_is : drop 480 bytes ≡ sum
  pub front_is : take 480 bytes ≡ (first ++ (second ++ (third ++ []))) ++ filler ++ magic
  pub front_long : length ((first ++ (second ++ (third ++ []))) ++ filler ++ magic) ≡ 480

parts_of : (p q r f m s : List ℕ) → length p ≡ 128 → length q ≡ 128 → length r ≡ 128 → length f ≡ 88 → length m ≡ 8
    → Parts (((p ++ (q ++ (r ++ []))) ++ f ++ m) ++ s) p q r f m s
parts_of p q r f m s at_p at_q at_r at_f at_m =
    let bytes = ((p ++ (q ++ (r ++ []))) ++ f ++ m) ++ s in
    let to_p : bytes ≡ p ++ (q ++ (r ++ (f ++ (m ++ s)))) = simp append_assoc in
    let to_r : bytes ≡ (p ++ q) ++ (r ++ (f ++ (m ++ s))) = simp append_assoc in
    let to_f : bytes ≡ (p ++ (q ++ r)) ++ (f ++ (m ++ s)) = simp append_assoc in
    let to_m : bytes ≡ (p ++ (q ++ (r ++ f))) ++ (m ++ s) = simp append_assoc in
    let pq : length (p ++ q) ≡ 256 = omega (arith, length-append p q) in
    let pqr : length (p ++ (q ++ r)) ≡ 384 = omega (arith, length-append p (q ++ r), length-append q r) in
    let pqrf : length (p ++ (q ++ (r ++ f))) ≡ 472 = omega (arith, length-append p (q ++ (r ++ f)), length-append q (r ++ f), length-append r f) in
    let long : length ((p ++ (q ++ (r ++ []))) ++ f ++ m) ≡ 480 =
    omega (arith, length-append ((p ++ (q ++ (r ++ []))) ++ f) m, length-append (p ++ (q ++ (r ++ []))) f, length-append p (q ++ (r ++ [])), length-append q (r ++ []), ap length (append-nil r)) in
    record {
      first_is = ap (take 128) to_p ∙ take-front 128 p (q ++ (r ++ (f ++ (m ++ s)))) at_p;
      second_is = ap (λ t. take 128 (drop 128 t)) to_p ∙ part-behind 128 128 p q (r ++ (f ++ (m ++ s))) at_p at_q;
      third_is = ap (λ t. take 128 (drop 256 t)) to_r ∙ part-behind 256 128 (p ++ q) r (f ++ (m ++ s)) pq at_r;
      filler_is = ap (λ t. take 88 (drop 384 t)) to_f ∙ part-behind 384 88 (p ++ (q ++ r)) f (m ++ s) pqr at_f;
      magic_is = ap (λ t. take 8 (drop 472 t)) to_m ∙ part-behind 472 8 (p ++ (q ++ (r ++ f))) m s pqrf at_m;
      sum_is = drop-front 480 ((p ++ (q ++ (r ++ []))) ++ f ++ m) s long;
      front_is = take-front 480 ((p ++ (q ++ (r ++ []))) ++ f ++ m) s long;
      front_long = long;
    }

-- The bytes of this member, or of none, are 128, and pass the tests of a slot.
record IsNamed (o : Option Bp) : Type 0 where
  pub long : length (member_bytes o) ≡ 128
  pub vacant : is_vacant (member_bytes o) ≡ is_none o
  pub sound : is_garbled (member_bytes o) ≡ false

none_named : IsNamed None
none_named = record { long = refl; vacant = refl; sound = refl }

and_false : (x y : Bool) → y ≡ false → (x && y) ≡ false
and_false true y e = e
and_false false y e = refl

-- bytes that spell a pointer aren't vacant
not_vacant : (v : Bool) (slot : List ℕ) (m : Bp) → is_vacant slot ≡ v → pointer_of slot ≡ Some m → v ≡ false
not_vacant false slot m at_v e = refl
not_vacant true slot m at_v e = let none : pointer_of slot ≡ None = (vacant_holds slot at_v).read in cc

some_named : (m : Bp) → length (spelling m) ≡ 128 → pointer_of (spelling m) ≡ Some m → IsNamed (Some m)
some_named m long back = record {
  long = long;
  vacant = not_vacant (is_vacant (spelling m)) (spelling m) m refl back;
  sound = and_false (not (is_vacant (spelling m))) (is_none (pointer_of (spelling m))) (ap is_none back);
}

-- the test of three slots, by whether each holds nothing
abbrev scattered_test : Bool → Bool → Bool → Bool
scattered_test x y z = x || (y && not z) || false || false || false

slots_pass : (p q r : List ℕ) (x y z : Option Bp) → p ≡ member_bytes x → q ≡ member_bytes y → r ≡ member_bytes z
    → IsNamed x → IsNamed y → IsNamed z → scattered_test (is_none x) (is_none y) (is_none z) ≡ false → are_no_members p q r ≡ false
slots_pass p q r x y z at_p at_q at_r at_x at_y at_z h =
    (λ j. are_no_members (at_p j) (at_q j) (at_r j))
    ∙ (λ j. at_x.vacant j || (at_y.vacant j && not (at_z.vacant j)) || at_x.sound j || at_y.sound j || at_z.sound j)
    ∙ h

-- the header of members from the front has no fault
header_passes : (place : Place) (birth size : ℕ) (bytes : List ℕ) (x y z : Option Bp) → IsNamed x → IsNamed y → IsNamed z
    → scattered_test (is_none x) (is_none y) (is_none z) ≡ false
    → header_of (x ∷ y ∷ z ∷ []) place birth ≡ bytes
    → map (λ m. m.size) (members_of bytes) ≡ split_sizes size
    → first_header_fault place birth size bytes ≡ None
unfolding has_magic_fault has_sum_fault has_filler_fault has_member_fault has_sizes_fault
header_passes place birth size bytes x y z at_x at_y at_z front spelled sizes =
    let first = member_bytes x in
    let second = member_bytes y in
    let third = member_bytes z in
    let whole = header_front (x ∷ y ∷ z ∷ []) in
    let sum = flat_map word (gang_sum_of whole place birth) in
    let magic = word header_magic in
    let parts : Parts bytes first second third (replicate 88 0) magic sum =
    subst (λ t. Parts t first second third (replicate 88 0) magic sum) spelled
    (parts_of first second third (replicate 88 0) magic sum at_x.long at_y.long at_z.long refl refl) in
    let again : take 480 whole ≡ whole = ap (take 480) (sym (append-nil whole)) ∙ take-front 480 whole [] parts.front_long in
    let sums : gang_sum_of whole place birth ≡ gang_sum_of bytes place birth = gang_sum_of-front place birth whole bytes (again ∙ sym parts.front_is) in
    none_from_fails (has_magic_fault bytes) (has_sum_fault place birth bytes) (has_filler_fault bytes) (has_member_fault bytes) (has_sizes_fault size bytes)
    (record {
      magic = not_from_same (take 8 (drop 472 bytes)) magic parts.magic_is;
      sum = not_from_same (drop 480 bytes) (flat_map word (gang_sum_of bytes place birth)) (parts.sum_is ∙ ap (flat_map word) sums);
      filler = not_from_same (take 88 (drop 384 bytes)) (replicate 88 0) parts.filler_is;
      member = slots_pass (slot_at bytes 0) (slot_at bytes 1) (slot_at bytes 2) x y z parts.first_is parts.second_is parts.third_is at_x at_y at_z front;
      sizes = not_from_same (map (λ m. m.size) (members_of bytes)) (split_sizes size) sizes;
    })

-- ---- how many members there are

some_kept : (t : Bool) (x : ℕ) (xs : List ℕ) → (t ≡ false → 0 < length xs) → 0 < length (cond t (x ∷ xs) xs)
some_kept true x xs h = omega arith
some_kept false x xs h = h refl

-- a block of some bytes has a member
split_some : (size : ℕ) → 0 < size → 0 < length (split_sizes size)
split_some size h =
    some_kept (nat_lt 0 (first_size size)) (first_size size) (filter (λ n. nat_lt 0 n) (second_size size ∷ third_size size ∷ []))
    (λ a. some_kept (nat_lt 0 (second_size size)) (second_size size) (filter (λ n. nat_lt 0 n) (third_size size ∷ []))
    (λ b. some_kept (nat_lt 0 (third_size size)) (third_size size) []
    (λ c. absurd (omega (arith, ltb-false 0 (first_size size) a, ltb-false 0 (second_size size) b, ltb-false 0 (third_size size) c)))))

-- one to three members from the front, each of which is named by its bytes
members_pass : (place : Place) (birth size : ℕ) (bytes : List ℕ) (ms : List Bp) → 0 < length ms → length ms ≤ 3
    → AllByRecursion (λ m. IsNamed (Some m)) ms
    → header_of (filled_to None members_max (map Some ms)) place birth ≡ bytes
    → map (λ m. m.size) (members_of bytes) ≡ split_sizes size
    → first_header_fault place birth size bytes ≡ None
members_pass place birth size bytes [] some few named spelled sizes = absurd (omega arith)
members_pass place birth size bytes (a ∷ []) some few named spelled sizes =
    header_passes place birth size bytes (Some a) None None named.0 none_named none_named refl spelled sizes
members_pass place birth size bytes (a ∷ b ∷ []) some few named spelled sizes =
    header_passes place birth size bytes (Some a) (Some b) None named.0 named.1.0 none_named refl spelled sizes
members_pass place birth size bytes (a ∷ b ∷ c ∷ []) some few named spelled sizes =
    header_passes place birth size bytes (Some a) (Some b) (Some c) named.0 named.1.0 named.1.1.0 refl spelled sizes
members_pass place birth size bytes (a ∷ b ∷ c ∷ d ∷ ms) some few named spelled sizes = absurd (omega (arith, few))

-- ---- the law's clauses

count_is : (size : ℕ) (ms : List Bp) → map (λ m. m.size) ms ≡ split_sizes size → length ms ≡ length (split_sizes size)
count_is size ms e = sym (length-map ms (λ m. m.size)) ∙ ap length e

-- a slot of 128 bytes that spells a pointer names it
slot_named : (slot : List ℕ) (m : Bp) → length slot ≡ 128 → pointer_of slot ≡ Some m → IsNamed (Some m)
slot_named slot m long e =
    let again : spelling m ≡ slot = (spelling-pointer slot m e).1 in
    some_named m (ap length again ∙ long) (ap pointer_of again ∙ e)

all_cons : (o : Option Bp) (ms : List Bp) → ((m : Bp) → o ≡ Some m → IsNamed (Some m)) → AllByRecursion (λ m. IsNamed (Some m)) ms
    → AllByRecursion (λ m. IsNamed (Some m)) (cons_option o ms)
all_cons None ms f h = h
all_cons (Some m) ms f h = (f m refl, h)

slot_long : (bytes : List ℕ) (n : ℕ) → n + 128 ≤ length bytes → length (take 128 (drop n bytes)) ≡ 128
slot_long bytes n h = omega (arith, length-take 128 (drop n bytes), length-drop n bytes)

-- so does each of the three
all_named : (bytes : List ℕ) → 384 ≤ length bytes → AllByRecursion (λ m. IsNamed (Some m)) (members_of bytes)
all_named bytes long =
    all_cons (pointer_of (slot_at bytes 0)) _ (λ m. slot_named (slot_at bytes 0) m (slot_long bytes 0 (omega arith)))
    (all_cons (pointer_of (slot_at bytes 1)) _ (λ m. slot_named (slot_at bytes 1) m (slot_long bytes 128 (omega arith)))
    (all_cons (pointer_of (slot_at bytes 2)) _ (λ m. slot_named (slot_at bytes 2) m (slot_long bytes 256 (omega arith))) tt))

pub no_fault_from_header : (place : Place) (birth size : ℕ) (bytes : List ℕ) → 0 < size → 384 ≤ length bytes
    → IsTrue (is_header place birth size bytes) → first_header_fault place birth size bytes ≡ None
no_fault_from_header place birth size bytes some long h =
    let ms = members_of bytes in
    let header = header_of (filled_to None members_max (map Some ms)) place birth in
    let said = map (λ (m : Bp). m.size) ms in
    let parts = and_parts (bytes_eq header bytes) (bytes_eq said (split_sizes size)) h in
    let sizes : said ≡ split_sizes size = (bytes_eq-Decides said (split_sizes size)).0 parts.1 in
    members_pass place birth size bytes ms
    (omega (arith, count_is size ms sizes, split_some size some))
    (omega (arith, count_is size ms sizes, few_law size))
    (all_named bytes long)
    ((bytes_eq-Decides header bytes).0 parts.0)
    sizes

all_typed : (ms : List Bp) → AllByRecursion FitsTypes ms → AllByRecursion (λ m. IsTrue (valid m)) ms → AllByRecursion (λ m. IsNamed (Some m)) ms
all_typed [] types ok = tt
all_typed (m ∷ ms) types ok =
    (some_named m (length-spelling m types.0 ok.0) (pointer_of-spelling m types.0 ok.0), all_typed ms types.1 ok.1)

pub no_fault_from_members : (bytes : List ℕ) (place : Place) (birth size : ℕ) (members : List Bp) → 0 < size
    → Heads bytes place birth size members
    → (first_header_fault place birth size bytes ≡ None) × (members_of bytes ≡ members)
no_fault_from_members bytes place birth size members some h =
    let named : members_of bytes ≡ members = named_law bytes place birth size members h in (
      members_pass place birth size bytes members
          (omega (arith, count_is size members h.sizes, split_some size some))
          (omega (arith, count_is size members h.sizes, few_law size))
          (all_typed members h.types h.valid)
          (sym h.spelled)
          (ap (map (λ (m : Bp). m.size)) named ∙ h.sizes),
      named,
    )

-- ---- reading a header

-- the test of the members, by what the slots hold
scattered_is : (bytes : List ℕ) (x y z : Option Bp) → Holds (slot_at bytes 0) x → Holds (slot_at bytes 1) y → Holds (slot_at bytes 2) z
    → has_member_fault bytes ≡ are_scattered x y z
unfolding has_member_fault
scattered_is bytes x y z at_x at_y at_z =
    (λ j. at_x.vacant j || (at_y.vacant j && not (at_z.vacant j)) || at_x.sound j || at_y.sound j || at_z.sound j)
    ∙ or-false (are_scattered x y z || false || false) ∙ or-false (are_scattered x y z || false) ∙ or-false (are_scattered x y z)

members_are_present : (bytes : List ℕ) (x y z : Option Bp) → Holds (slot_at bytes 0) x → Holds (slot_at bytes 1) y → Holds (slot_at bytes 2) z
    → members_of bytes ≡ present x y z
members_are_present bytes x y z at_x at_y at_z = λ j. present (at_x.read j) (at_y.read j) (at_z.read j)

pub present_are_members : (bytes : List ℕ) (x y z : Option Bp) (header : Header)
    → Holds (slot_at bytes 0) x → Holds (slot_at bytes 1) y → Holds (slot_at bytes 2) z
    → (are_scattered x y z ≡ false) × Names header (present x y z)
    → (has_member_fault bytes ≡ false) × Names header (members_of bytes)
present_are_members bytes x y z header at_x at_y at_z h = (
  scattered_is bytes x y z at_x at_y at_z ∙ h.0,
  subst (Names header) (sym (members_are_present bytes x y z at_x at_y at_z)) h.1,
)

pub scattered_fault : (bytes : List ℕ) (x y z : Option Bp) → Holds (slot_at bytes 0) x → Holds (slot_at bytes 1) y → Holds (slot_at bytes 2) z
    → IsTrue (are_scattered x y z) → has_member_fault bytes ≡ true
scattered_fault bytes x y z at_x at_y at_z h = scattered_is bytes x y z at_x at_y at_z ∙ h

or_true : (x : Bool) → (x || true) ≡ true
or_true true = refl
or_true false = refl

-- one garbled slot is enough
pub garbled_fault : (bytes : List ℕ) (i : ℕ) → i < 3 → is_garbled (slot_at bytes i) ≡ true → has_member_fault bytes ≡ true
unfolding has_member_fault
garbled_fault bytes zero h e =
    let a = is_vacant (slot_at bytes 0) || (is_vacant (slot_at bytes 1) && not (is_vacant (slot_at bytes 2))) in
    (λ j. a || e j || is_garbled (slot_at bytes 1) || is_garbled (slot_at bytes 2))
    ∙ (λ j. or_true a j || is_garbled (slot_at bytes 1) || is_garbled (slot_at bytes 2))
garbled_fault bytes (suc zero) h e =
    let a = is_vacant (slot_at bytes 0) || (is_vacant (slot_at bytes 1) && not (is_vacant (slot_at bytes 2))) || is_garbled (slot_at bytes 0) in
    (λ j. a || e j || is_garbled (slot_at bytes 2)) ∙ (λ j. or_true a j || is_garbled (slot_at bytes 2))
garbled_fault bytes (suc (suc zero)) h e =
    let a = is_vacant (slot_at bytes 0) || (is_vacant (slot_at bytes 1) && not (is_vacant (slot_at bytes 2))) || is_garbled (slot_at bytes 0) || is_garbled (slot_at bytes 1) in
    (λ j. a || e j) ∙ or_true a
garbled_fault bytes (suc (suc (suc i))) h e = absurd (omega arith)

-- what a slot holds
pub vacant_slot : (slot : List ℕ) → is_vacant slot ≡ true → Holds slot None
vacant_slot slot e = record {
  vacant = e;
  sound = ap (λ v. not v && is_none (pointer_of slot)) e;
  read = (vacant_holds slot e).read;
}

pub present_slot : (slot : List ℕ) (m : Bp) → is_vacant slot ≡ false → pointer_of slot ≡ Some m → Holds slot (Some m)
present_slot slot m e read = record {
  vacant = e;
  sound = (λ j. not (e j) && is_none (read j));
  read = read;
}

pub garbled_slot : (slot : List ℕ) → is_vacant slot ≡ false → pointer_of slot ≡ None → is_garbled slot ≡ true
garbled_slot slot e read = λ j. not (e j) && is_none (read j)

-- the sizes that a header names
pub sizes_fault_is : (size : ℕ) (bytes : List ℕ) (header : Header) → Names header (members_of bytes)
    → has_sizes_fault size bytes ≡ not (bytes_eq (map (λ m. m.size) (take header.n header.members)) (split_sizes size))
unfolding has_sizes_fault
sizes_fault_is size bytes header h = ap (λ ms. not (bytes_eq (map (λ (m : Bp). m.size) ms) (split_sizes size))) (sym h.front)

-- where nothing else is wrong the sizes decide
pub sizes_decide : (place : Place) (birth size : ℕ) (bytes : List ℕ) (t : Bool) → has_magic_fault bytes ≡ false
    → has_sum_fault place birth bytes ≡ false → has_filler_fault bytes ≡ false → has_member_fault bytes ≡ false
    → has_sizes_fault size bytes ≡ t → first_header_fault place birth size bytes ≡ cond t (Some Sizes) None
sizes_decide place birth size bytes t a b c d e = λ j. first_of_five (a j) (b j) (c j) (d j) (e j)

-- bytes that have a fault are no header
pub refused : (place : Place) (birth size : ℕ) (bytes : List ℕ) (fault : HeaderFault) → 0 < size → length bytes ≡ 512
    → first_header_fault place birth size bytes ≡ Some fault
    → (false ≡ true → IsTrue (is_header place birth size bytes)) × (IsTrue (is_header place birth size bytes) → false ≡ true)
refused place birth size bytes fault some long e = (
  λ no. absurd (false≢true no),
  λ h. let none : first_header_fault place birth size bytes ≡ None = no_fault_from_header place birth size bytes some (omega arith) h in cc,
)

-- the sum's bytes are the last 32
pub last_bytes : (bytes : List ℕ) → length bytes ≡ 512 → take 32 (drop 480 bytes) ≡ drop 480 bytes
last_bytes bytes h =
    ap (take 32) (sym (append-nil (drop 480 bytes))) ∙ take-front 32 (drop 480 bytes) [] (omega (arith, length-drop 480 bytes))
