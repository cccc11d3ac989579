-- A header names its members: what its three slots hold, and which pointers they spell.
use Rattle.std.proofs.Common.{◌≡◌, ℕ, ◌^◌, ◌<◌, ◌≤◌, List, [], ◌∷◌, ◌++◌, length, map, take, drop, replicate, get_or, Bool, ◌&&◌, IsTrue, Option, Some, None, bytes_eq, refl, ap, sym, ◌∙◌, subst, arith, append_assoc, length-append}
use Rattle.std.proofs.Math.Seq.{take-append_seam, drop-append_seam}
use Rattle.std.proofs.lemmas.Bool.{and_parts, and_from}
use Rattle.std.proofs.lemmas.List.{length-map}
use Rattle.std.proofs.lemmas.Slice.Eq.{bytes_eq-Decides}
use Rattle.std.specs.List.{flat_map, filter_map, cons_option, AllByRecursion}
use Rattle.zio_types.specs.declared.place.Place.{Place}
use Rattle.zio_types.specs.Filled.{filled_to}
use Rattle.zio_blkptr.specs.declared.pointer.Bp.{Bp}
use Rattle.zio_blkptr.specs.Pointers.{word, pointer_of, valid, FitsTypes}
use Rattle.zio_blkptr.proofs.Words.{slice_small}
use Rattle.zio_blkptr.proofs.PointerLemmas.{pointer_of-spelling, spelling-pointer, FitsTypes-pointer, length-spelling}
use Rattle.zio_cksum.specs.Headers.{Heads, header_magic, header_front, header_of, gang_sum_of, members_max, member_bytes, members_of, is_header, slots, split_sizes}
use Rattle.zio_cksum.proofs.SplitLemmas.{few_law}

-- ---- the slots of bytes

-- the first n bytes are the part in front that has as many
pub take-front : (n : ℕ) (xs ys : List ℕ) → length xs ≡ n → take n (xs ++ ys) ≡ xs
take-front n xs ys e = subst (λ k. take k (xs ++ ys) ≡ xs) e (take-append_seam xs ys)

pub drop-front : (n : ℕ) (xs ys : List ℕ) → length xs ≡ n → drop n (xs ++ ys) ≡ ys
drop-front n xs ys e = subst (λ k. drop k (xs ++ ys) ≡ ys) e (drop-append_seam xs ys)

-- three parts of 128 bytes are the three slots
slots_are : (xs ys zs rest : List ℕ) → length xs ≡ 128 → length ys ≡ 128 → length zs ≡ 128
    → slots (xs ++ (ys ++ (zs ++ rest))) ≡ xs ∷ ys ∷ zs ∷ []
slots_are xs ys zs rest at_x at_y at_z =
    let bytes = xs ++ (ys ++ (zs ++ rest)) in
    let one : drop 128 bytes ≡ ys ++ (zs ++ rest) = drop-front 128 xs (ys ++ (zs ++ rest)) at_x in
    let both : length (xs ++ ys) ≡ 256 = omega (arith, length-append xs ys) in
    let two : drop 256 bytes ≡ zs ++ rest = ap (drop 256) (sym (append_assoc xs ys (zs ++ rest))) ∙ drop-front 256 (xs ++ ys) (zs ++ rest) both in
    let first : take 128 bytes ≡ xs = take-front 128 xs (ys ++ (zs ++ rest)) at_x in
    let second : take 128 (drop 128 bytes) ≡ ys = ap (take 128) one ∙ take-front 128 ys (zs ++ rest) at_y in
    let third : take 128 (drop 256 bytes) ≡ zs = ap (take 128) two ∙ take-front 128 zs rest at_z in
    λ j. first j ∷ second j ∷ third j ∷ []

-- ---- what a slot names

-- The bytes of this member are 128, and name it.
pub record IsNamed (o : Option Bp) : Type 0 where
  pub long : length (member_bytes o) ≡ 128
  pub back : pointer_of (member_bytes o) ≡ o

pub none_named : IsNamed None
none_named = record { long = refl; back = refl }

pub some_named : (m : Bp) → FitsTypes m → IsTrue (valid m) → IsNamed (Some m)
some_named m types ok = record { long = length-spelling m types ok; back = pointer_of-spelling m types ok }

-- those of three that are there
abbrev pub kept : Option Bp → Option Bp → Option Bp → List Bp
kept x y z = cons_option x (cons_option y (cons_option z []))

-- bytes that begin with those of three members name them
members_are : (x y z : Option Bp) (rest : List ℕ) → IsNamed x → IsNamed y → IsNamed z
    → members_of (member_bytes x ++ (member_bytes y ++ (member_bytes z ++ rest))) ≡ kept x y z
members_are x y z rest at_x at_y at_z =
    ap (filter_map pointer_of) (slots_are (member_bytes x) (member_bytes y) (member_bytes z) rest at_x.long at_y.long at_z.long)
    ∙ (λ j. kept (at_x.back j) (at_y.back j) (at_z.back j))

-- a header's front and what stands behind, part by part
header_parts : (xs ys zs filler magic sum : List ℕ)
    → ((xs ++ (ys ++ (zs ++ []))) ++ filler ++ magic) ++ sum ≡ xs ++ (ys ++ (zs ++ (filler ++ (magic ++ sum))))
header_parts xs ys zs filler magic sum = simp append_assoc

-- a header of three members names them
pub header_names : (x y z : Option Bp) (place : Place) (birth : ℕ) → IsNamed x → IsNamed y → IsNamed z
    → members_of (header_of (x ∷ y ∷ z ∷ []) place birth) ≡ kept x y z
header_names x y z place birth at_x at_y at_z =
    let front = x ∷ y ∷ z ∷ [] in
    let sum = flat_map word (gang_sum_of (header_front front) place birth) in
    ap members_of (header_parts (member_bytes x) (member_bytes y) (member_bytes z) (replicate 88 0) (word header_magic) sum)
    ∙ members_are x y z (replicate 88 0 ++ (word header_magic ++ sum)) at_x at_y at_z

-- at most three members from the front are those that their header names
names : (members : List Bp) (place : Place) (birth : ℕ) → length members ≤ 3
    → AllByRecursion FitsTypes members → AllByRecursion (λ m. IsTrue (valid m)) members
    → members_of (header_of (filled_to None members_max (map Some members)) place birth) ≡ members
names [] place birth few types ok = header_names None None None place birth none_named none_named none_named
names (a ∷ []) place birth few types ok =
    header_names (Some a) None None place birth (some_named a types.0 ok.0) none_named none_named
names (a ∷ b ∷ []) place birth few types ok =
    header_names (Some a) (Some b) None place birth (some_named a types.0 ok.0) (some_named b types.1.0 ok.1.0) none_named
names (a ∷ b ∷ c ∷ []) place birth few types ok =
    header_names (Some a) (Some b) (Some c) place birth (some_named a types.0 ok.0) (some_named b types.1.0 ok.1.0) (some_named c types.1.1.0 ok.1.1.0)
names (a ∷ b ∷ c ∷ d ∷ members) place birth few types ok = absurd (omega (arith, few))

-- ---- the law's clauses

few_members : (size : ℕ) (members : List Bp) → map (λ m. m.size) members ≡ split_sizes size → length members ≤ 3
few_members size members e = omega (arith, length-map members (λ m. m.size), ap length e, few_law size)

pub named_law : (bytes : List ℕ) (place : Place) (birth size : ℕ) (members : List Bp)
    → Heads bytes place birth size members → members_of bytes ≡ members
named_law bytes place birth size members h =
    ap members_of h.spelled ∙ names members place birth (few_members size members h.sizes) h.types h.valid

-- the two tests of a header, on the members that it is said to have
abbrev both_tests : Place → ℕ → ℕ → List ℕ → List Bp → Bool
both_tests place birth size bytes members =
    bytes_eq (header_of (filled_to None members_max (map Some members)) place birth) bytes
    && bytes_eq (map (λ m. m.size) members) (split_sizes size)

pub accepted_law : (bytes : List ℕ) (place : Place) (birth size : ℕ) (members : List Bp)
    → Heads bytes place birth size members → IsTrue (is_header place birth size bytes)
accepted_law bytes place birth size members h =
    let header = header_of (filled_to None members_max (map Some members)) place birth in
    let sizes = map (λ (m : Bp). m.size) members in
    let passed : IsTrue (both_tests place birth size bytes members) =
    and_from (bytes_eq header bytes) (bytes_eq sizes (split_sizes size))
    ((bytes_eq-Decides header bytes).1 (sym h.spelled)) ((bytes_eq-Decides sizes (split_sizes size)).1 h.sizes) in
    ap (both_tests place birth size bytes) (named_law bytes place birth size members h) ∙ passed

-- what holds of each pointer that an option has holds of those that are kept
all_cons : (P : Bp → Type 0) (o : Option Bp) (ms : List Bp) → ((m : Bp) → o ≡ Some m → P m) → AllByRecursion P ms → AllByRecursion P (cons_option o ms)
all_cons P None ms f h = h
all_cons P (Some m) ms f h = (f m refl, h)

-- all that bytes name has what each of the three slots' pointers has
all_named : (P : Bp → Type 0) (bytes : List ℕ) → ((n : ℕ) (m : Bp) → pointer_of (take 128 (drop n bytes)) ≡ Some m → P m)
    → AllByRecursion P (members_of bytes)
all_named P bytes f =
    all_cons P (pointer_of (take 128 bytes)) _ (f 0)
    (all_cons P (pointer_of (take 128 (drop 128 bytes))) _ (f 128)
    (all_cons P (pointer_of (take 128 (drop 256 bytes))) _ (f 256) tt))

pub some_members_law : (bytes : List ℕ) (place : Place) (birth size : ℕ)
    → ((i : ℕ) → get_or bytes i 0 < 2 ^ 8) → IsTrue (is_header place birth size bytes)
    → Heads bytes place birth size (members_of bytes)
some_members_law bytes place birth size small h =
    let members = members_of bytes in
    let header = header_of (filled_to None members_max (map Some members)) place birth in
    let sizes = map (λ (m : Bp). m.size) members in
    let parts = and_parts (bytes_eq header bytes) (bytes_eq sizes (split_sizes size)) h in
    record {
      spelled = sym ((bytes_eq-Decides header bytes).0 parts.0);
      types = all_named FitsTypes bytes (λ n m e. FitsTypes-pointer (take 128 (drop n bytes)) m (slice_small 128 n bytes small) e);
      valid = all_named (λ m. IsTrue (valid m)) bytes (λ n m e. (spelling-pointer (take 128 (drop n bytes)) m e).0);
      sizes = (bytes_eq-Decides sizes (split_sizes size)).0 parts.1;
    }
