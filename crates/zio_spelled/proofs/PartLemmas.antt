-- A text and its parts: where it is cut, and that the parts make the text.
use Rattle.std.proofs.Common.{◌≡◌, ◌≢◌, ◌<◌, ◌≤◌, ◌+◌, ◌==◌, ◌∷◌, ◌++◌, [], ℕ, List, Bool, true, false, length, get_or, take, drop, refl, sym, ap, ◌∙◌, arith, ltb-true}
use Rattle.std.specs.Prelude.{nat_lt}
use Rattle.std.specs.List.{slice_split, position_or_len, before_first, after_first, flat_map, join_with_byte, list_all, AllByRecursion}
use Rattle.std.proofs.lemmas.Bool.{and_parts, eq-eqb, ne_eqb}
use Rattle.std.proofs.lemmas.List.Splits.{slice_split_none, slice_split_first, slice_split_at, length-slice_split, join_with_byte-slice_split}
use Rattle.std.proofs.lemmas.List.Sums.{position_or_len_is}
use Rattle.std.proofs.lemmas.List.{append-nil}
use Rattle.std.proofs.lemmas.List.Elements.{All-from_get_or, All-from_recursion}
use Rattle.zio_script.specs.Words.{lines_of, without_empty_end}

abbrev pub parts_at : ℕ → List ℕ → List (List ℕ)
parts_at separator text = slice_split (λ c. c == separator) text

-- the first part ends before the first separator
pub cut_at : (separator : ℕ) (text : List ℕ) (end : ℕ) → end < length text → get_or text end 0 ≡ separator → ((k : ℕ) → k < end → get_or text k 0 ≢ separator)
    → parts_at separator text ≡ take end text ∷ parts_at separator (drop (end + 1) text)
cut_at separator text end inside here before =
    let ends : ℕ → Bool = λ c. c == separator in
    let place : position_or_len ends text ≡ end =
    position_or_len_is ends text end 0 (omega arith) (λ k below. ne_eqb (get_or text k 0) separator (before k below)) (λ _. eq-eqb (get_or text end 0) separator here) in
    let parts : slice_split ends text ≡ before_first ends text ∷ slice_split ends (after_first ends text) =
    slice_split_first ends text 0 (omega arith) in
    parts ∙ ap (λ (n : ℕ). take n text ∷ slice_split ends (drop (n + 1) text)) place

-- a text without a separator is one part
pub whole_part : (separator : ℕ) (text : List ℕ) → ((k : ℕ) → k < length text → get_or text k 0 ≢ separator) → parts_at separator text ≡ text ∷ []
whole_part separator text none =
    slice_split_none (λ c. c == separator) text (All-from_get_or (λ c. (c == separator) ≡ false) text 0 (λ k below. ne_eqb (get_or text k 0) separator (none k below)))

-- texts with the same parts are one
pub same_parts : (separator : ℕ) (a b : List ℕ) → parts_at separator a ≡ parts_at separator b → a ≡ b
same_parts separator a b same =
    sym (join_with_byte-slice_split separator a) ∙ ap (join_with_byte separator) same ∙ join_with_byte-slice_split separator b

-- ---- parts that make a text

-- the separator doesn't occur in the text
abbrev pub Free : ℕ → List ℕ → Type 0
Free separator text = AllByRecursion (λ c. (c == separator) ≡ false) text

-- each part behind a separator
abbrev pub joined : ℕ → List (List ℕ) → List ℕ
joined separator parts = flat_map (λ (part : List ℕ). separator ∷ part) parts

pub free_append : (separator : ℕ) (a b : List ℕ) → Free separator a → Free separator b → Free separator (a ++ b)
free_append separator [] b free other = other
free_append separator (x ∷ xs) b free other = (free.0, free_append separator xs b free.1 other)

-- parts without the separator, joined by it, are the text's parts
pub split_joined : (separator : ℕ) (part : List ℕ) (parts : List (List ℕ)) → Free separator part → AllByRecursion (Free separator) parts
    → parts_at separator (part ++ joined separator parts) ≡ part ∷ parts
split_joined separator part [] free others =
    ap (parts_at separator) (append-nil part) ∙ slice_split_none (λ c. c == separator) part (All-from_recursion (λ c. (c == separator) ≡ false) part free)
split_joined separator part (next ∷ parts) free others =
    slice_split_at (λ c. c == separator) part separator (next ++ joined separator parts) (All-from_recursion (λ c. (c == separator) ≡ false) part free) (eq-eqb separator separator refl)
    ∙ ap (λ (rest : List (List ℕ)). part ∷ rest) (split_joined separator next parts others.0 others.1)

-- each text has a part
pub some_parts : (separator : ℕ) (text : List ℕ) → 0 < length (parts_at separator text)
some_parts separator text = omega (arith, length-slice_split (λ c. c == separator) text)

-- ---- texts without blanks and newlines

-- each byte is above the blank
abbrev pub Dark : List ℕ → Type 0
Dark text = AllByRecursion (λ c. 32 < c) text

pub dark_append : (a b : List ℕ) → Dark a → Dark b → Dark (a ++ b)
dark_append [] b dark other = other
dark_append (x ∷ xs) b dark other = (dark.0, dark_append xs b dark.1 other)

pub dark_from : (text : List ℕ) → list_all (λ c. nat_lt 32 c) text ≡ true → Dark text
dark_from [] all = tt
dark_from (x ∷ xs) all =
    let parts = and_parts (nat_lt 32 x) (list_all (λ c. nat_lt 32 c) xs) all in
    (ltb-true 32 x parts.0, dark_from xs parts.1)

-- neither the blank nor what is below it stands there
pub free_of_dark : (separator : ℕ) → separator ≤ 32 → (text : List ℕ) → Dark text → Free separator text
free_of_dark separator low [] dark = tt
free_of_dark separator low (x ∷ xs) dark =
    let above : 32 < x = dark.0 in
    (ne_eqb x separator (λ same. omega arith), free_of_dark separator low xs dark.1)

pub free_all : (separator : ℕ) → separator ≤ 32 → (texts : List (List ℕ)) → AllByRecursion Dark texts → AllByRecursion (Free separator) texts
free_all separator low [] dark = tt
free_all separator low (text ∷ texts) dark = (free_of_dark separator low text dark.0, free_all separator low texts dark.1)

-- no newline stands in such words behind blanks
pub free_joined : (texts : List (List ℕ)) → AllByRecursion Dark texts → Free 10 (joined 32 texts)
free_joined [] dark = tt
free_joined (text ∷ texts) dark = (refl, free_append 10 text (joined 32 texts) (free_of_dark 10 (omega arith) text dark.0) (free_joined texts dark.1))

-- ---- lines

more_lines : (line : List ℕ) (lines : List (List ℕ)) → 0 < length lines → without_empty_end (line ∷ lines) ≡ line ∷ without_empty_end lines
more_lines line [] some = absurd (omega arith)
more_lines [] (next ∷ lines) some = refl
more_lines (c ∷ cs) (next ∷ lines) some = refl

-- the first line ends at the first newline
pub line_then : (line rest : List ℕ) → Free 10 line → lines_of (line ++ 10 ∷ rest) ≡ line ∷ lines_of rest
line_then line rest free =
    ap without_empty_end (slice_split_at (λ c. c == 10) line 10 rest (All-from_recursion (λ c. (c == 10) ≡ false) line free) refl)
    ∙ more_lines line (slice_split (λ c. c == 10) rest) (some_parts 10 rest)
