-- The lines of a text one after another, and its end.
use Rattle.std.proofs.Common.{◌≡◌, ◌≤◌, ◌<◌, ◌+◌, ℕ, List, [], ◌∷◌, length, refl, ap, ◌∙◌, subst, true, false, Result, arith}
use Rattle.std.proofs.lemmas.Bool.{le-leb, lt-leb}
use Rattle.zio_script.specs.declared.builder.Builder.{Builder}
use Rattle.zio_script.specs.declared.refusal.Refusal.{Refusal}
use Rattle.zio_script.specs.declared.refusal.Refusal.TheVariants.{Faulty, Memory}
use Rattle.zio_script.specs.declared.refusal.LineFault.{LineFault}
use Rattle.zio_script.specs.declared.refusal.LineFault.TheVariants.{NoShape, NoNumber, Memory as WantsMemory}
use Rattle.zio_script.specs.declared.read.TheConstants.{SCRIPT_LEN_MAX}
use Rattle.zio_script.specs.declared.script.Failmode.TheVariants.{Wait}
use Rattle.zio_script.specs.declared.script.Script.{Script}
use Rattle.zio_script.specs.declared.script.ScriptError.{ScriptError}
use Rattle.zio_script.specs.declared.script.ScriptError.TheVariants.{Fault, Memory as NoMemory}
use Rattle.zio_script.specs.declared.why.Why.{Why}
use Rattle.zio_script.specs.declared.why.Why.TheVariants.{Limit}
use Rattle.zio_script.specs.Builders.{AddsLine, AddsWords, IsEnd, IsEndWhy, IsKept, IsLineWhy, IsReadTo, IsReason, IsWordsWhy, before_of, error_at, refusal_of, script_of}
use Rattle.zio_script.specs.Grammar.{IsScriptOf, after_words, ended, read_lines, read_on, reading, script_with, unless_why}
use Rattle.zio_script.specs.Lines.{ScriptLine}
use Rattle.zio_script.specs.NewLines.{IsLineIn, IsNoLine}
use Rattle.zio_script.specs.Whys.{Before, least_why, nothing_before, whys_at_end, whys_of}
use Rattle.zio_script.specs.Words.{Word, is_skipped, lines_of, words_of}

-- ---- the words of a line

pub adds_skipped : (b : Builder) (words : List Word) → is_skipped words ≡ true → AddsWords b words b
adds_skipped b words skipped = rw skipped refl

after_line_of : (before : Before) (words : List Word) (line : ScriptLine) → is_skipped words ≡ false → IsLineIn words line
    → after_words before words ≡ unless_why (least_why (whys_of before line)) (script_with before.script line)
after_line_of before words line told is = rw (told, is.shape_is, is.line_is) refl

pub adds_words : (old new : Builder) (words : List Word) (line : ScriptLine) → is_skipped words ≡ false → IsLineIn words line → AddsLine old line new
    → AddsWords old words new
adds_words old new words line told is adds = after_line_of (before_of old) words line told is ∙ rw (adds.none, adds.next) refl

pub why_of_line : (b : Builder) (words : List Word) (line : ScriptLine) (refusal : Refusal) → is_skipped words ≡ false → IsLineIn words line
    → IsLineWhy b line refusal → IsWordsWhy b words refusal
why_of_line b words line (Faulty why) told is applies = after_line_of (before_of b) words line told is ∙ rw applies refl
why_of_line b words line Memory told is applies = tt

pub why_of_words : (b : Builder) (words : List Word) (fault : LineFault) → is_skipped words ≡ false → IsNoLine words fault
    → IsWordsWhy b words (refusal_of fault)
why_of_words b words NoShape told is = rw (told, is) refl
why_of_words b words NoNumber told is = rw (told, is.shape_is, is.wrong) refl
why_of_words b words WantsMemory told is = tt

-- ---- the definition, a line at a time

first_read : (line : ℕ) (first : Word) (lines : List Word) (before : Before)
    → read_lines line (first ∷ lines) before ≡ read_on line (after_words before (words_of first)) (read_lines (line + 1) lines)
unfolding read_lines
first_read line first lines before = refl

end_read : (line : ℕ) (before : Before) → read_lines line [] before ≡ ended line (least_why (whys_at_end before.script)) before.script
unfolding read_lines
end_read line before = refl

-- a text that isn't too long is read from its first line
read_from_start : (text : List ℕ) → length text ≤ SCRIPT_LEN_MAX → reading text ≡ read_lines 1 (lines_of text) nothing_before
read_from_start text short = rw (le-leb (length text) SCRIPT_LEN_MAX short) refl

pub too_long : (text : List ℕ) → SCRIPT_LEN_MAX < length text → IsReason text (error_at 0 (Faulty Limit))
too_long text long = rw (lt-leb (length text) SCRIPT_LEN_MAX long) refl

-- ---- the lines so far

pub read_start : (text : List ℕ) (b : Builder) → IsKept b → b.begun ≡ false → script_of b ≡ record { failmode = Wait; tops = []; faults = []; items = [] }
    → IsReadTo text 1 text b
read_start text b kept begun script = record {
  kept = kept;
  same = ap (λ (before : Before). read_lines 1 (lines_of text) before) (rw (begun, script) refl);
  near = omega arith;
}

pub read_more : (text rest behind : List ℕ) (first : Word) (words : List Word) (line : ℕ) (b next : Builder) → IsReadTo text line rest b
    → lines_of rest ≡ first ∷ lines_of behind → length behind < length rest → words ≡ words_of first → IsKept next → AddsWords b words next
    → IsReadTo text (line + 1) behind next
read_more text rest behind first words line b next is lines shorter split kept adds =
    let near : line + length rest ≤ 1 + length text = is.near in
    record {
      kept = kept;
      same = is.same ∙ (ap (λ (ls : List Word). read_lines line ls (before_of b)) lines
          ∙ (first_read line first (lines_of behind) (before_of b)
          ∙ ap (λ (r : Result Before Why). read_on line r (read_lines (line + 1) (lines_of behind))) (subst (λ (ws : List Word). AddsWords b ws next) split adds)));
      near = omega arith;
    }

pub read_fault : (text rest behind : List ℕ) (first : Word) (words : List Word) (line : ℕ) (b : Builder) (refusal : Refusal) → length text ≤ SCRIPT_LEN_MAX
    → IsReadTo text line rest b → lines_of rest ≡ first ∷ lines_of behind → words ≡ words_of first → IsWordsWhy b words refusal
    → IsReason text (error_at line refusal)
read_fault text rest behind first words line b (Faulty reason) short is lines split why =
    read_from_start text short ∙ (is.same ∙ (ap (λ (ls : List Word). read_lines line ls (before_of b)) lines
    ∙ (first_read line first (lines_of behind) (before_of b)
    ∙ ap (λ (r : Result Before Why). read_on line r (read_lines (line + 1) (lines_of behind))) (subst (λ (ws : List Word). IsWordsWhy b ws (Faulty reason)) split why))))
read_fault text rest behind first words line b Memory short is lines split why = tt

no_lines : (rest : List ℕ) → rest ≡ [] → lines_of rest ≡ []
no_lines rest none = rw none refl

at_end : (text rest : List ℕ) (line : ℕ) (b : Builder) → length text ≤ SCRIPT_LEN_MAX → IsReadTo text line rest b → rest ≡ []
    → reading text ≡ ended line (least_why (whys_at_end (script_of b))) (script_of b)
at_end text rest line b short is none =
    read_from_start text short ∙ (is.same ∙ (ap (λ (ls : List Word). read_lines line ls (before_of b)) (no_lines rest none)
    ∙ end_read line (before_of b)))

pub read_script_end : (text rest : List ℕ) (line : ℕ) (b : Builder) (script : Script) → length text ≤ SCRIPT_LEN_MAX → IsReadTo text line rest b → rest ≡ []
    → IsEnd b line script → IsScriptOf text script
read_script_end text rest line b script short is none ends = at_end text rest line b short is none ∙ ends

pub read_fault_end : (text rest : List ℕ) (line : ℕ) (b : Builder) (error : ScriptError) → length text ≤ SCRIPT_LEN_MAX → IsReadTo text line rest b → rest ≡ []
    → IsEndWhy b line error → IsReason text error
read_fault_end text rest line b (Fault fault) short is none why = at_end text rest line b short is none ∙ why
read_fault_end text rest line b NoMemory short is none why = tt
