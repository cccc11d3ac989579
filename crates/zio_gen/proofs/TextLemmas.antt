-- Texts that make one script so far of another, line by line, and the end of a text.
use Rattle.std.proofs.Common.{◌≡◌, ◌≤◌, ◌+◌, ℕ, List, [], ◌∷◌, ◌++◌, length, refl, sym, ap, ◌∙◌, arith, None, Result, Ok}
use Rattle.std.proofs.lemmas.Bool.{le-leb}
use Rattle.std.proofs.lemmas.List.{append-nil, append_assoc}
use Rattle.zio_script.specs.declared.read.TheConstants.{SCRIPT_LEN_MAX}
use Rattle.zio_script.specs.declared.why.Why.{Why}
use Rattle.zio_script.specs.Grammar.{IsScriptOf, after_words, read_lines, read_on, reading}
use Rattle.zio_script.specs.Whys.{Before, least_why, nothing_before, whys_at_end}
use Rattle.zio_script.specs.Words.{Word, lines_of, words_of}
use Rattle.zio_gen.proofs.WordLemmas.{AreSolid, behind, line_text, line_there, words_there}

-- the lines of the text have no fault after these, and make that, whatever follows
pub record Reads (text : List ℕ) (before after : Before) : Type 0 where
  pub lines : ℕ
  pub same : (line : ℕ) (rest : List ℕ) → read_lines line (lines_of (text ++ rest)) before ≡ read_lines (line + lines) (lines_of rest) after

pub reads_none : (before : Before) → Reads [] before before
reads_none before = record {
  lines = 0;
  same = λ line rest.
      let same : line ≡ line + 0 = omega arith in
      ap (λ (n : ℕ). read_lines n (lines_of rest) before) same;
}

pub reads_then : (text more : List ℕ) (a b c : Before) → Reads text a b → Reads more b c → Reads (text ++ more) a c
reads_then text more a b c first next = record {
  lines = first.lines + next.lines;
  same = λ line rest.
      let together : (line + first.lines) + next.lines ≡ line + (first.lines + next.lines) = omega arith in
      ap (λ (bytes : List ℕ). read_lines line (lines_of bytes) a) (append_assoc text more rest)
      ∙ (first.same line (more ++ rest)
      ∙ (next.same (line + first.lines) rest
      ∙ ap (λ (n : ℕ). read_lines n (lines_of rest) c) together));
}

first_read : (line : ℕ) (first : Word) (lines : List Word) (before : Before)
    → read_lines line (first ∷ lines) before ≡ read_on line (after_words before (words_of first)) (read_lines (line + 1) lines)
unfolding read_lines
first_read line first lines before = refl

pub reads_line : (word : Word) (words : List Word) (before after : Before) → AreSolid (word ∷ words)
    → after_words before (word ∷ words) ≡ Ok after → Reads (line_text word words) before after
reads_line word words before after solid makes = record {
  lines = 1;
  same = λ line rest.
      ap (λ (lines : List Word). read_lines line lines before) (line_there word words rest solid)
      ∙ (first_read line (word ++ behind words) (lines_of rest) before
      ∙ ap (λ (r : Result Before Why). read_on line r (read_lines (line + 1) (lines_of rest)))
      (ap (after_words before) (words_there word words solid) ∙ makes));
}

-- ---- what holds behind a text

-- the text has no fault, and leaves what this says
pub record Goes (text : List ℕ) (before : Before) (P : Before → Type 0) : Type 0 where
  pub after : Before
  pub reads : Reads text before after
  pub stands : P after

pub goes_then : (text more : List ℕ) (before : Before) (P Q : Before → Type 0) → Goes text before P
    → ((middle : Before) → P middle → Goes more middle Q) → Goes (text ++ more) before Q
goes_then text more before P Q first next =
    let rest = next first.after first.stands in
    record {
      after = rest.after;
      reads = reads_then text more before first.after rest.after first.reads rest.reads;
      stands = rest.stands;
    }

pub goes_as : (text : List ℕ) (before : Before) (P Q : Before → Type 0) → ((after : Before) → P after → Q after) → Goes text before P → Goes text before Q
goes_as text before P Q weaker goes = record { after = goes.after; reads = goes.reads; stands = weaker goes.after goes.stands }

-- ---- the end

end_read : (line : ℕ) (before : Before) → least_why (whys_at_end before.script) ≡ None → read_lines line [] before ≡ Ok before.script
unfolding read_lines
end_read line before none = rw none refl

pub whole_text : (text : List ℕ) (after : Before) → length text ≤ SCRIPT_LEN_MAX → Reads text nothing_before after
    → least_why (whys_at_end after.script) ≡ None → IsScriptOf text after.script
whole_text text after short reads none =
    let start : reading text ≡ read_lines 1 (lines_of text) nothing_before = rw (le-leb (length text) SCRIPT_LEN_MAX short) refl in
    start
    ∙ (ap (λ (bytes : List ℕ). read_lines 1 (lines_of bytes) nothing_before) (sym (append-nil text))
    ∙ (reads.same 1 [] ∙ end_read (1 + reads.lines) after none))
