-- Words with a blank between them and a newline behind them, and how they are read.
use Rattle.std.proofs.Common.{◌≡◌, ◌<◌, ℕ, List, [], ◌∷◌, ◌++◌, length, filter, refl, ap, ◌∙◌, Bool, true, false, not, ◌&&◌, ◌==◌, nat_lt, arith}
use Rattle.std.specs.List.{AllByRecursion, list_all, slice_split}
use Rattle.std.proofs.lemmas.Bool.{and_parts, ltb-true, ne_eqb}
use Rattle.std.proofs.lemmas.List.{append-nil, append_assoc}
use Rattle.std.proofs.lemmas.List.Elements.{All-append, All-cons, All-nil, All-weaker}
use Rattle.std.proofs.lemmas.List.Splits.{length-slice_split, slice_split_at, slice_split_none}
use Rattle.std.proofs.lemmas.List.Sums.{AllPass-from_list_all}
use Rattle.std.specs.Prelude.{All}
use Rattle.zio_script.specs.Words.{Word, is_blank, is_empty, lines_of, without_empty_end, words_of}

-- a byte above the blank, which parts neither words nor lines
abbrev pub is_dark : ℕ → Bool
is_dark c = nat_lt 32 c

-- some bytes, none of which parts words or lines
abbrev pub is_solid : Word → Bool
is_solid word = not (is_empty word) && list_all is_dark word

abbrev pub AreSolid : List Word → Type 0
AreSolid words = AllByRecursion (λ word. is_solid word ≡ true) words

-- each word behind a blank
abbrev pub behind : List Word → List ℕ
behind [] = []
behind (word ∷ words) = 32 ∷ word ++ behind words

-- a line of words, with its newline
abbrev pub line_text : Word → List Word → List ℕ
line_text word words = (word ++ behind words) ++ 10 ∷ []

-- ---- words

dark : (word : Word) → is_solid word ≡ true → All (λ c. is_dark c ≡ true) word
dark word solid = AllPass-from_list_all is_dark word (and_parts (not (is_empty word)) (list_all is_dark word) solid).1

no_blank_by : (c : ℕ) → 32 < c → is_blank c ≡ false
no_blank_by c above = rw (ne_eqb c 32 (λ e. omega arith), ne_eqb c 9 (λ e. omega arith), ne_eqb c 13 (λ e. omega arith)) refl

no_blank : (c : ℕ) → is_dark c ≡ true → is_blank c ≡ false
no_blank c above = no_blank_by c (ltb-true 32 c above)

no_blanks : (word : Word) → is_solid word ≡ true → All (λ c. is_blank c ≡ false) word
no_blanks word solid = All-weaker (λ c. is_dark c ≡ true) (λ c. is_blank c ≡ false) no_blank word (dark word solid)

split_words : (word : Word) (words : List Word) → AreSolid (word ∷ words) → slice_split is_blank (word ++ behind words) ≡ word ∷ words
split_words word [] solid =
    ap (slice_split is_blank) (append-nil word) ∙ slice_split_none is_blank word (no_blanks word solid.0)
split_words word (next ∷ words) solid =
    slice_split_at is_blank word 32 (next ++ behind words) (no_blanks word solid.0) refl
    ∙ ap (λ (parts : List Word). word ∷ parts) (split_words next words solid.1)

not_empty : (word : Word) → is_solid word ≡ true → not (is_empty word) ≡ true
not_empty word solid = (and_parts (not (is_empty word)) (list_all is_dark word) solid).0

all_kept : (words : List Word) → AreSolid words → filter (λ part. not (is_empty part)) words ≡ words
all_kept [] solid = refl
all_kept (word ∷ words) solid = rw (not_empty word solid.0, all_kept words solid.1) refl

pub words_there : (word : Word) (words : List Word) → AreSolid (word ∷ words) → words_of (word ++ behind words) ≡ word ∷ words
words_there word words solid =
    ap (λ (parts : List Word). filter (λ part. not (is_empty part)) parts) (split_words word words solid) ∙ all_kept (word ∷ words) solid

-- ---- lines

abbrev ends_line : ℕ → Bool
ends_line c = c == 10

no_end : (c : ℕ) → is_dark c ≡ true → ends_line c ≡ false
no_end c above = let low : 32 < c = ltb-true 32 c above in ne_eqb c 10 (λ e. omega arith)

no_ends : (word : Word) → is_solid word ≡ true → All (λ c. ends_line c ≡ false) word
no_ends word solid = All-weaker (λ c. is_dark c ≡ true) (λ c. ends_line c ≡ false) no_end word (dark word solid)

no_ends_behind : (words : List Word) → AreSolid words → All (λ c. ends_line c ≡ false) (behind words)
no_ends_behind [] solid = All-nil (λ c. ends_line c ≡ false)
no_ends_behind (word ∷ words) solid =
    All-cons (λ c. ends_line c ≡ false) 32 (word ++ behind words) refl
    (All-append (λ c. ends_line c ≡ false) word (behind words) (no_ends word solid.0) (no_ends_behind words solid.1))

more_lines : (line : Word) (lines : List Word) → 0 < length lines → without_empty_end (line ∷ lines) ≡ line ∷ without_empty_end lines
more_lines line [] some = absurd (omega arith)
more_lines [] (next ∷ lines) some = refl
more_lines (c ∷ cs) (next ∷ lines) some = refl

-- a line of words and its newline are the first line of a text
pub line_there : (word : Word) (words : List Word) (rest : List ℕ) → AreSolid (word ∷ words)
    → lines_of (line_text word words ++ rest) ≡ (word ++ behind words) ∷ lines_of rest
line_there word words rest solid =
    let line = word ++ behind words in
    let cut : slice_split ends_line ((line ++ 10 ∷ []) ++ rest) ≡ line ∷ slice_split ends_line rest =
    ap (slice_split ends_line) (append_assoc line (10 ∷ []) rest)
    ∙ slice_split_at ends_line line 10 rest
    (All-append (λ c. ends_line c ≡ false) word (behind words) (no_ends word solid.0) (no_ends_behind words solid.1)) refl in
    ap without_empty_end cut ∙ more_lines line (slice_split ends_line rest) (omega (arith, length-slice_split ends_line rest))
