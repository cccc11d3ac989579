-- An accepted script has few items: its text is short, and each line adds one at most.
use Rattle.std.proofs.Common.{◌≡◌, ℕ, ◌+◌, ◌≤◌, List, [], ◌∷◌, ◌++◌, length, count_by, Bool, true, false, ◌==◌, cond, Option, Some, None, Result, Ok, Err, refl, subst, arith, length-append}
use Rattle.std.specs.Prelude.{nat_le}
use Rattle.std.specs.List.{slice_split}
use Rattle.std.proofs.lemmas.Bool.{leb-true}
use Rattle.std.proofs.lemmas.List.Recursion.{is_count_by}
use Rattle.std.proofs.lemmas.List.Splits.{length-slice_split}
use Rattle.zio_script.specs.declared.read.TheConstants.{SCRIPT_LEN_MAX}
use Rattle.zio_script.specs.declared.script.Item.{Item}
use Rattle.zio_script.specs.declared.script.Script.{Script}
use Rattle.zio_script.specs.declared.script.ScriptFault.{ScriptFault}
use Rattle.zio_script.specs.declared.why.Why.{Why}
use Rattle.zio_script.specs.Grammar.{IsScriptOf, after_line, after_shape, after_words, ended, read_lines, read_on, read_short, script_with, unless_skipped, unless_why}
use Rattle.zio_script.specs.Lines.{ScriptLine, FailmodeLine, LeavesLine, FaultLine, RequestLine, GoLine, ClearLine, Shape, line_of, shape_of}
use Rattle.zio_script.specs.Whys.{Before, least_why, nothing_before, whys_at_end, whys_of}
use Rattle.zio_script.specs.Words.{Word, is_skipped, lines_of, without_empty_end, words_of}

-- ---- lines of a text

abbrev counts : (ℕ → Bool) → List ℕ → ℕ
counts p [] = 0
counts p (x ∷ xs) = cond (p x) (1 + counts p xs) (counts p xs)

fewer : (b : Bool) (n m : ℕ) → n ≤ m → cond b (1 + n) n ≤ m + 1
fewer true n m h = omega arith
fewer false n m h = omega arith

counts_few : (p : ℕ → Bool) (xs : List ℕ) → counts p xs ≤ length xs
counts_few p [] = omega arith
counts_few p (x ∷ xs) = let step : cond (p x) (1 + counts p xs) (counts p xs) ≤ length xs + 1 = fewer (p x) (counts p xs) (length xs) (counts_few p xs) in omega arith

ends_fewer : (lines : List Word) → length (without_empty_end lines) ≤ length lines
ends_fewer [] = omega arith
ends_fewer ([] ∷ []) = omega arith
ends_fewer ([] ∷ line ∷ lines) = let rest : length (without_empty_end (line ∷ lines)) ≤ length (line ∷ lines) = ends_fewer (line ∷ lines) in omega arith
ends_fewer ((c ∷ cs) ∷ lines) = let rest : length (without_empty_end lines) ≤ length lines = ends_fewer lines in omega arith

few_lines : (text : List ℕ) → length (lines_of text) ≤ length text + 1
few_lines text =
    let p : ℕ → Bool = λ c. c == 10 in
    let split : length (slice_split p text) ≡ count_by p text + 1 = length-slice_split p text in
    let count : counts p text ≡ count_by p text = is_count_by (counts p) p refl (λ x xs. refl) text in
    let few : counts p text ≤ length text = counts_few p text in
    let ends : length (without_empty_end (slice_split p text)) ≤ length (slice_split p text) = ends_fewer (slice_split p text) in
    omega arith

-- ---- items of a script

abbrev items_in : Before → ℕ
items_in before = length before.script.items

-- what is read goes on with one item more at most
abbrev AddsOne : Before → Result Before Why → Type 0
AddsOne before r = (next : Before) → r ≡ Ok next → items_in next ≤ items_in before + 1

pushed : (items : List Item) (item : Item) → length (items ++ item ∷ []) ≤ length items + 1
pushed items item = omega (arith, length-append items (item ∷ []))

line_adds : (before : Before) (line : ScriptLine) → items_in (script_with before.script line) ≤ items_in before + 1
line_adds before (FailmodeLine mode) = omega arith
line_adds before (LeavesLine leaves sector) = omega arith
line_adds before (FaultLine row) = omega arith
line_adds before (RequestLine asked) = pushed before.script.items _
line_adds before GoLine = pushed before.script.items _
line_adds before ClearLine = pushed before.script.items _

abbrev read_as : Before → Result Before Why
read_as before = Ok before

same_before : (a b : Before) (n : ℕ) → read_as a ≡ Ok b → items_in a ≤ n → items_in b ≤ n
same_before a b n e h = let same : a ≡ b = cc in subst (λ (x : Before). items_in x ≤ n) same h

why_adds : (why : Option Why) (before : Before) (line : ScriptLine) → AddsOne before (unless_why why (script_with before.script line))
why_adds None before line next e = same_before (script_with before.script line) next (items_in before + 1) e (line_adds before line)
why_adds (Some why) before line next e = absurd (let no_error = e in cc)

after_line_adds : (before : Before) (line : Option ScriptLine) → AddsOne before (after_line before line)
after_line_adds before None next e = absurd (let no_error = e in cc)
after_line_adds before (Some line) next e = why_adds (least_why (whys_of before line)) before line next e

after_shape_adds : (before : Before) (shape : Option Shape) → AddsOne before (after_shape before shape)
after_shape_adds before None next e = absurd (let no_error = e in cc)
after_shape_adds before (Some shape) next e = after_line_adds before (line_of shape) next e

skipped_adds : (skipped : Bool) (before : Before) (after : Result Before Why) → AddsOne before after → AddsOne before (unless_skipped skipped before after)
skipped_adds true before after h next e = same_before before next (items_in before + 1) e (omega arith)
skipped_adds false before after h next e = h next e

words_add : (before : Before) (words : List Word) → AddsOne before (after_words before words)
words_add before words =
    skipped_adds (is_skipped words) before (after_shape before (shape_of words)) (after_shape_adds before (shape_of words))

end_items : (n : ℕ) (why : Option Why) (given script : Script) → ended n why given ≡ Ok script → length script.items ≤ length given.items
end_items n None given script e = let same : given ≡ script = cc in subst (λ (x : Script). length x.items ≤ length given.items) same (omega arith)
end_items n (Some why) given script e = absurd (let no_error = e in cc)

next_items : (n : ℕ) (before : Before) (after : Result Before Why) (rest : Before → Result Script ScriptFault) (script : Script) (more : ℕ) → AddsOne before after
    → ((next : Before) → rest next ≡ Ok script → length script.items ≤ items_in next + more)
    → read_on n after rest ≡ Ok script → length script.items ≤ items_in before + (more + 1)
next_items n before (Err why) rest script more adds later e = absurd (let no_error = e in cc)
next_items n before (Ok next) rest script more adds later e =
    let here : items_in next ≤ items_in before + 1 = adds next refl in
    let there : length script.items ≤ items_in next + more = later next e in omega arith

read_items : (n : ℕ) (lines : List Word) (before : Before) (script : Script) → read_lines n lines before ≡ Ok script
    → length script.items ≤ items_in before + length lines
unfolding read_lines
read_items n [] before script e =
    let low : length script.items ≤ items_in before = end_items n (least_why (whys_at_end before.script)) before.script script e in omega arith
read_items n (line ∷ lines) before script e =
    let most : length script.items ≤ items_in before + (length lines + 1) =
    next_items n before (after_words before (words_of line)) (read_lines (n + 1) lines) script (length lines) (words_add before (words_of line))
    (λ next. λ is. read_items (n + 1) lines next script is) e in omega arith

short_items : (short : Bool) (text : List ℕ) (script : Script) → nat_le (length text) SCRIPT_LEN_MAX ≡ short → read_short short text ≡ Ok script
    → length script.items ≤ SCRIPT_LEN_MAX + 1
short_items false text script short e = absurd (let no_error = e in cc)
short_items true text script short e =
    let low : length text ≤ SCRIPT_LEN_MAX = leb-true (length text) SCRIPT_LEN_MAX short in
    let lines : length (lines_of text) ≤ length text + 1 = few_lines text in
    let items : length script.items ≤ 0 + length (lines_of text) = read_items 1 (lines_of text) nothing_before script e in omega arith

-- An accepted script has no more items than its text has bytes, and one.
pub few_items : (text : List ℕ) (script : Script) → IsScriptOf text script → length script.items ≤ SCRIPT_LEN_MAX + 1
few_items text script is = short_items (nat_le (length text) SCRIPT_LEN_MAX) text script refl is
