-- A name's number is that of its bytes, and names with the same number are the same name.
use Rattle.std.proofs.Common.{◌≡◌, ◌≤◌, ◌+◌, ◌*◌, ◌-◌, ℕ, zero, suc, List, [], ◌∷◌, ◌++◌, length, take, drop, replicate, slice_index, refl, sym, ap, ◌∙◌, Bool, true, false, ◌&&◌, ◌||◌, ◌==◌, nat_le, arith}
use Rattle.std.proofs.lemmas.Bool.{and_parts, eqb-true, leb-true}
use Rattle.std.proofs.lemmas.Bool.Decides.{nat_tests, same_from_decides}
use Rattle.std.proofs.lemmas.List.{drop-replicate}
use Rattle.std.proofs.lemmas.Slice.Eq.{bytes_eq-Decides}
use Rattle.std.proofs.Math.Seq.{take-append_seam}
use Rattle.std.specs.Int.{from_le_bytes, w128}
use Rattle.std.specs.List.{list_all}
use Rattle.std.specs.Ordering.{is_eq, nat_cmp}
use Rattle.std.specs.Prelude.{bytes_eq}
use Rattle.zio_script.specs.declared.name.TheConstants.{NAME_LEN_MAX}
use Rattle.zio_script.specs.Keys.{name_key}
use Rattle.zio_script.specs.Words.{is_name, is_name_char}
use Rattle.zio_types.specs.Filled.{IsFilled, length-filled}

-- ---- the number of a name's bytes

-- the bytes from place i on, the lowest first
abbrev key_from : ℕ → ℕ → List ℕ → ℕ
key_from i zero bytes = 0
key_from i (suc n) bytes = slice_index bytes i + 256 * key_from (suc i) n bytes

key_from-cons : (i n c : ℕ) (cs : List ℕ) → key_from (suc i) n (c ∷ cs) ≡ key_from i n cs
key_from-cons i zero c cs = refl
key_from-cons i (suc n) c cs = ap (λ (r : ℕ). slice_index cs i + 256 * r) (key_from-cons (suc i) n c cs)

key_from-start : (cs : List ℕ) → key_from 0 (length cs) cs ≡ name_key cs
key_from-start [] = refl
key_from-start (c ∷ cs) =
    let moved = key_from-cons 0 (length cs) c cs in
    let rest = key_from-start cs in
    omega (arith, moved, rest)

-- zeros behind the bytes change nothing
key-zeros : (n : ℕ) → name_key (replicate n 0) ≡ 0
key-zeros zero = refl
key-zeros (suc n) = let rest = key-zeros n in omega (arith, rest)

key-zeros_behind : (cs : List ℕ) (n : ℕ) → name_key (cs ++ replicate n 0) ≡ name_key cs
key-zeros_behind [] n = key-zeros n
key-zeros_behind (c ∷ cs) n = ap (λ (r : ℕ). r * 256 + c) (key-zeros_behind cs n)

pub key_of_filled : (used : ℕ) (bytes : List ℕ) → IsFilled 0 16 used bytes → from_le_bytes w128 bytes ≡ name_key (take used bytes)
key_of_filled used bytes filled =
    let places : from_le_bytes w128 bytes ≡ key_from 0 16 bytes = omega arith in
    places ∙ ap (λ (n : ℕ). key_from 0 n bytes) (sym (length-filled 0 16 used bytes filled)) ∙ key_from-start bytes
    ∙ ap name_key filled.rest ∙ key-zeros_behind (take used bytes) (16 - length (take used bytes))

-- ---- a name

-- a word in front of zeros
pub filled_word : (word copied : List ℕ) → copied ≡ word → length word ≤ 16 → IsFilled 0 16 (length word) (copied ++ drop (length word) (replicate 16 0))
filled_word word copied same fits = record {
  fits = fits;
  rest = rw (same, take-append_seam word (drop (length word) (replicate 16 0))) (ap (λ (zeros : List ℕ). word ++ zeros) (drop-replicate (length word) 16 0));
}

-- the word is all that is taken of them
pub filled_name : (word copied behind : List ℕ) → copied ≡ word → is_name word ≡ true → is_name (take (length word) (copied ++ behind)) ≡ true
filled_name word copied behind same named = rw (same, take-append_seam word behind) named

-- ---- two names

char_by : (c : ℕ) (letter digit line : Bool) → (nat_le 97 c && nat_le c 122) ≡ letter → (nat_le 48 c && nat_le c 57) ≡ digit → (c == 95) ≡ line
    → (letter || digit || line) ≡ true → (48 ≤ c) × (c ≤ 122)
char_by c true digit line letters digits lines is =
    let parts = and_parts (nat_le 97 c) (nat_le c 122) letters in
    let low : 97 ≤ c = leb-true 97 c parts.0 in
    (omega arith, leb-true c 122 parts.1)
char_by c false true line letters digits lines is =
    let parts = and_parts (nat_le 48 c) (nat_le c 57) digits in
    let high : c ≤ 57 = leb-true c 57 parts.1 in
    (leb-true 48 c parts.0, omega arith)
char_by c false false true letters digits lines is = let same : c ≡ 95 = eqb-true c 95 lines in (omega arith, omega arith)
char_by c false false false letters digits lines is = let no : ⊥ = cc in absurd no

char_within : (c : ℕ) → is_name_char c ≡ true → (48 ≤ c) × (c ≤ 122)
char_within c is = char_by c (nat_le 97 c && nat_le c 122) (nat_le 48 c && nat_le c 57) (c == 95) refl refl refl is

pub same_name : (xs ys : List ℕ) → list_all is_name_char xs ≡ true → list_all is_name_char ys ≡ true → name_key xs ≡ name_key ys → xs ≡ ys
same_name [] [] _ _ same = refl
same_name [] (y ∷ ys) _ all same =
    let within = char_within y (and_parts (is_name_char y) (list_all is_name_char ys) all).0 in
    let low : 48 ≤ y = within.0 in
    absurd (omega arith)
same_name (x ∷ xs) [] all _ same =
    let within = char_within x (and_parts (is_name_char x) (list_all is_name_char xs) all).0 in
    let low : 48 ≤ x = within.0 in
    absurd (omega arith)
same_name (x ∷ xs) (y ∷ ys) all others same =
    let first = and_parts (is_name_char x) (list_all is_name_char xs) all in
    let second = and_parts (is_name_char y) (list_all is_name_char ys) others in
    let here = char_within x first.0 in
    let there = char_within y second.0 in
    let x_high : x ≤ 122 = here.1 in
    let y_high : y ≤ 122 = there.1 in
    let heads : x ≡ y = omega arith in
    let tails : name_key xs ≡ name_key ys = omega arith in
    let rest : xs ≡ ys = same_name xs ys first.1 second.1 tails in
    cc

-- ---- keys

at_key : (a b : ℕ) → is_eq (nat_cmp a b) ≡ true → a ≡ b
at_key a b is = grind (arith, nat_tests)

key_at : (a b : ℕ) → a ≡ b → is_eq (nat_cmp a b) ≡ true
key_at a b is = grind (arith, nat_tests)

-- two names are the same by their keys as by their bytes
chars_of : (name : List ℕ) → is_name name ≡ true → list_all is_name_char name ≡ true
chars_of name is = (and_parts (nat_le 1 (length name) && nat_le (length name) NAME_LEN_MAX) (list_all is_name_char name) is).1

pub same_key : (name other : List ℕ) → is_name name ≡ true → is_name other ≡ true → is_eq (nat_cmp (name_key name) (name_key other)) ≡ bytes_eq name other
same_key name other is there =
    same_from_decides (is_eq (nat_cmp (name_key name) (name_key other))) (bytes_eq name other)
    (λ at. same_name name other (chars_of name is) (chars_of other there) (at_key (name_key name) (name_key other) at), λ same. key_at (name_key name) (name_key other) (ap name_key same))
    (bytes_eq-Decides name other)
