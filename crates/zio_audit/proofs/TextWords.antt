-- The words of a report's lines: no newline stands in them, and a number is none of the words that begin other lines.
use Rattle.std.proofs.Common.{◌≡◌, ◌<◌, ◌≤◌, ◌+◌, ◌/◌, ◌%◌, ◌==◌, ◌++◌, ℕ, zero, suc, List, [], ◌∷◌, get_or, length, refl, sym, ◌∙◌, Bool, true, false, not, cond, nat_lt, arith, lt-ltb, Option, Some, None}
use Rattle.std.specs.Prelude.{codes, decimal, slice_index}
use Rattle.std.specs.Fmt.{digit_glyph, digits, digits_onto}
use Rattle.std.specs.List.{AllByRecursion, list_all}
use Rattle.std.proofs.lemmas.Bool.{and_parts}
use Rattle.hex.specs.Hex.{encode_lower, encode_with, lower_digits}
use Rattle.zio_types.specs.declared.error.Errno.{Errno}
use Rattle.zio_types.specs.declared.error.Errno.TheVariants.{Nxio, Cksum, Io, Nospc, Inval, Exist, Noent}
use Rattle.zio_types.specs.declared.request.Kind.{Kind}
use Rattle.zio_types.specs.declared.request.Kind.TheVariants.{Null, Read, Write, Free as FreeKind, Claim}
use Rattle.zio_script.specs.Words.{Word}
use Rattle.zio_cksum.specs.Sums.{fletcher4}
use Rattle.zio_report.specs.declared.report.LineResult.{LineResult}
use Rattle.zio_report.specs.declared.report.LineResult.TheVariants.{Suspended, Failed, Done, Sized, Bytes}
use Rattle.zio_report.specs.Lines.{batch_text, errno_text, hexadecimal, kind_text, name_text, result_text, spaced, sums_text, when}
use Rattle.zio_spelled.proofs.PartLemmas.{Dark, Free, free_append, free_of_dark}

-- ---- digits

-- what holds of both holds of the one that is chosen
either : {X : Type 0} (P : X → Type 0) (b : Bool) (xs ys : List X) → AllByRecursion P xs → AllByRecursion P ys → AllByRecursion P (cond b xs ys)
either P true xs ys h k = h
either P false xs ys h k = k

-- what holds of each digit holds of all that are written
module _ (P : ℕ → Type 0) (base : ℕ) (glyph : (n : ℕ) → P (digit_glyph false (n % base))) where
  -- digits that are put before others
  onto_all : (k n : ℕ) (acc : List ℕ) → AllByRecursion P acc → AllByRecursion P (digits_onto k base false n acc)
  onto_all zero n acc h = h
  onto_all (suc k) n acc h =
      either P (n / base == 0) (digit_glyph false (n % base) ∷ acc) (digits_onto k base false (n / base) (digit_glyph false (n % base) ∷ acc)) (glyph n, h)
      (onto_all k (n / base) (digit_glyph false (n % base) ∷ acc) (glyph n, h))

  pub digits_all : (n : ℕ) → AllByRecursion P (digits base false n)
  unfolding digits
  digits_all n = onto_all 64 n [] tt

-- a decimal digit
abbrev pub IsFigure : ℕ → Type 0
IsFigure c = (48 ≤ c) × (c ≤ 57)

-- a digit, by whether it is below ten
figure_by : (below : Bool) (n : ℕ) → nat_lt (n % 10) 10 ≡ below → n % 10 < 10 → IsFigure (cond below (48 + n % 10) (87 + n % 10))
figure_by true n is small = (omega arith, omega arith)
figure_by false n is small = absurd (true_false (sym (lt-ltb (n % 10) 10 small) ∙ is))
  where
    true_false : true ≡ false → ⊥
    true_false same = cc

-- each decimal digit
figure : (n : ℕ) → IsFigure (digit_glyph false (n % 10))
figure n =
    let small : n % 10 < 10 = omega arith in
    figure_by (nat_lt (n % 10) 10) n refl small

-- a number has decimal digits
pub figures : (n : ℕ) → AllByRecursion IsFigure (decimal n)
figures n = digits_all IsFigure 10 figure n

-- a digit of either kind is above the blank
above_by : (below : Bool) (d : ℕ) → 32 < cond below (48 + d) (87 + d)
above_by true d = omega arith
above_by false d = omega arith

-- no blank stands in a number in hexadecimal
pub sixteens : (n : ℕ) → Dark (hexadecimal n)
sixteens n = digits_all (λ c. 32 < c) 16 (λ m. above_by (nat_lt (m % 16) 10) (m % 16)) n

-- digits are above the blank
figure_dark : (ds : List ℕ) → AllByRecursion IsFigure ds → Dark ds
figure_dark [] all = tt
figure_dark (c ∷ cs) all =
    let low : 48 ≤ c = all.0.0 in
    (omega arith, figure_dark cs all.1)

-- nor in a decimal one
pub decimal_dark : (n : ℕ) → Dark (decimal n)
decimal_dark n = figure_dark (decimal n) (figures n)

-- ---- no newline

-- no newline stands in the text
abbrev pub IsOneLine : List ℕ → Type 0
IsOneLine text = Free 10 text

-- where no blank stands no newline does
pub free_dark : (text : List ℕ) → Dark text → IsOneLine text
free_dark text dark = free_of_dark 10 (omega arith) text dark

-- no newline stands in a number
pub free_decimal : (n : ℕ) → IsOneLine (decimal n)
free_decimal n = free_dark (decimal n) (decimal_dark n)

-- what is not so isn't
none_equal : (b : Bool) → not b ≡ true → b ≡ false
none_equal true is = cc
none_equal false is = refl

-- nor in a text whose bytes are tested
pub free_codes : (text : List ℕ) → list_all (λ c. not (c == 10)) text ≡ true → IsOneLine text
free_codes [] all = tt
free_codes (c ∷ cs) all =
    let parts = and_parts (not (c == 10)) (list_all (λ d. not (d == 10)) cs) all in
    (none_equal (c == 10) parts.0, free_codes cs parts.1)

-- nor in two such texts together
pub free_both : (a b : List ℕ) → IsOneLine a → IsOneLine b → IsOneLine (a ++ b)
free_both a b free other = free_append 10 a b free other

-- no byte of the table is a newline
free_at : (table : List ℕ) (i : ℕ) → IsOneLine table → (get_or table i 0 == 10) ≡ false
free_at [] i free = refl
free_at (c ∷ cs) zero free = free.0
free_at (c ∷ cs) (suc i) free = free_at cs i free.1

-- nor in bytes in hexadecimal
free_encoded : (table bytes : List ℕ) → IsOneLine table → IsOneLine (encode_with table bytes)
unfolding encode_with
free_encoded table [] free = tt
free_encoded table (b ∷ bytes) free = (free_at table (b / 16) free, (free_at table (b % 16) free, free_encoded table bytes free))

-- neither blanks nor newlines stand in the name, if there is one
abbrev pub HasWordName : Option Word → Type 0
HasWordName None = Unit {0}
HasWordName (Some name) = Dark name

-- nor in a text that may be left out
pub free_when : (b : Bool) (text : List ℕ) → IsOneLine text → IsOneLine (when b text)
free_when true text free = free
free_when false text free = tt

-- ---- the words of a line

-- nor in the word of a kind
pub free_kind : (kind : Kind) → IsOneLine (kind_text kind)
free_kind Null = free_codes (codes "null") refl
free_kind Read = free_codes (codes "read") refl
free_kind Write = free_codes (codes "write") refl
free_kind FreeKind = free_codes (codes "free") refl
free_kind Claim = free_codes (codes "claim") refl

-- nor in the name of an error
free_errno : (e : Errno) → IsOneLine (errno_text e)
free_errno Nxio = free_codes (codes "ENXIO") refl
free_errno Cksum = free_codes (codes "ECKSUM") refl
free_errno Io = free_codes (codes "EIO") refl
free_errno Nospc = free_codes (codes "ENOSPC") refl
free_errno Inval = free_codes (codes "EINVAL") refl
free_errno Exist = free_codes (codes "EEXIST") refl
free_errno Noent = free_codes (codes "ENOENT") refl

-- nor in one in hexadecimal
free_sum : (n : ℕ) → IsOneLine (hexadecimal n)
free_sum n = free_dark (hexadecimal n) (sixteens n)

-- nor in two texts with a colon between them
free_colon : (a b : List ℕ) → IsOneLine a → IsOneLine b → IsOneLine (a ++ codes ":" ++ b)
free_colon a b free other = free_both (a ++ codes ":") b (free_both a (codes ":") free (free_codes (codes ":") refl)) other

-- nor in the sums of a read
free_sums : (sums : List ℕ) → IsOneLine (sums_text sums)
free_sums sums =
    let a = hexadecimal (slice_index sums 0) in
    let b = hexadecimal (slice_index sums 1) in
    let c = hexadecimal (slice_index sums 2) in
    let d = hexadecimal (slice_index sums 3) in
    free_colon (a ++ codes ":" ++ b ++ codes ":" ++ c) d
    (free_colon (a ++ codes ":" ++ b) c (free_colon a b (free_sum (slice_index sums 0)) (free_sum (slice_index sums 1))) (free_sum (slice_index sums 2)))
    (free_sum (slice_index sums 3))

-- nor in a result
pub free_result : (bytes : Bool) (result : LineResult) → IsOneLine (result_text bytes result)
free_result bytes Suspended = free_codes (codes "suspended") refl
free_result bytes (Failed e) = free_errno e
free_result bytes Done = free_codes (codes "ok") refl
free_result bytes (Sized size) = free_both (codes "ok ") (decimal size) (free_codes (codes "ok ") refl) (free_decimal size)
free_result bytes (Bytes data_read) =
    let ok = codes "ok " ++ decimal (length data_read) in
    let sums = spaced (sums_text (fletcher4 data_read)) in
    free_both (ok ++ sums) (when bytes (codes " data " ++ encode_lower data_read))
    (free_both ok sums (free_both (codes "ok ") (decimal (length data_read)) (free_codes (codes "ok ") refl) (free_decimal (length data_read)))
    (refl, free_sums (fletcher4 data_read)))
    (free_when bytes (codes " data " ++ encode_lower data_read)
    (free_both (codes " data ") (encode_lower data_read) (free_codes (codes " data ") refl) (free_encoded lower_digits data_read (free_codes lower_digits refl))))

-- nor in a name that is a word
pub free_name : (name : Option Word) → HasWordName name → IsOneLine (name_text name)
free_name None dark = tt
free_name (Some name) dark = (refl, free_dark name dark)

-- nor in the batch of a round
pub free_batch : (batch : Option ℕ) → IsOneLine (batch_text batch)
free_batch None = free_codes (codes "clear") refl
free_batch (Some batch) = free_both (codes "batch ") (decimal batch) (free_codes (codes "batch ") refl) (free_decimal batch)
