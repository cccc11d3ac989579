-- The first line of a report's journal that isn't of its shape, or stands before every round.
use Rattle.std.proofs.Common.{◌≡◌, ◌+◌, ℕ, zero, suc, List, [], ◌∷◌, ◌++◌, length, take, drop, cond, Bool, true, false, ◌||◌, refl, sym, ap, subst, ◌∙◌, arith, append_assoc, length-append}
use Rattle.std.specs.Prelude.{codes}
use Rattle.std.specs.List.{AllByRecursion, list_any, onto_first, slice_split}
use Rattle.std.proofs.lemmas.Bool.{or_parts, true≢false}
use Rattle.std.proofs.lemmas.List.{append-nil, take-append-drop}
use Rattle.std.proofs.lemmas.Slice.Eq.{bytes_eq-Decides}
use Rattle.zio_cksum.proofs.AllLemmas.{all_append}
use Rattle.zio_disks.proofs.WriteLemmas.{all_right}
use Rattle.zio_script.specs.Words.{Word, is_word, lines_of}
use Rattle.zio_spelled.specs.Spelled.{first_of, first_word, is_journal, is_round}
use Rattle.zio_audit.specs.Seen.{AreShapedLines, IsFirstFaulty}
use Rattle.zio_audit.specs.Verdicts.{AreShaped, IsShaped}

-- ---- the lines before the first round

-- a line of the journal stands before the first round
abbrev early : List Word → Bool
early lines = list_any is_journal (first_of (slice_split is_round lines))

-- a round's head is no line of the journal
round_first : (line : Word) → is_round line ≡ true → is_journal line ≡ false
round_first line round =
    let word : codes "round" ≡ first_word line = (bytes_eq-Decides (codes "round") (first_word line)).0 round in
    ap (λ (w : Word). is_word (codes "take") w || is_word (codes "order") w) (sym word)

early_by : (t : Bool) (line : Word) (parts : List (List Word)) → list_any is_journal (first_of (cond t ([] ∷ parts) (onto_first line parts))) ≡ cond t false (is_journal line || list_any is_journal (first_of parts))
early_by true line parts = refl
early_by false line [] = refl
early_by false line (part ∷ parts) = refl

-- it is the first line, or stands among those behind it, where the first is no head
early_cons : (line : Word) (lines : List Word) → early (line ∷ lines) ≡ cond (is_round line) false (is_journal line || early lines)
early_cons line lines = early_by (is_round line) line (slice_split is_round lines)

-- one more line
early_snoc : (lines : List Word) (line : Word) → early (lines ++ line ∷ []) ≡ (early lines || cond (list_any is_round lines) false (is_journal line))
early_snoc [] line = early_cons line [] ∙ by (is_round line) (is_journal line) (round_first line)
  where
    by : (t j : Bool) → (t ≡ true → j ≡ false) → cond t false (j || false) ≡ j
    by true j none = sym (none refl)
    by false true none = refl
    by false false none = refl
early_snoc (first ∷ lines) line =
    early_cons first (lines ++ line ∷ []) ∙ ap (λ (b : Bool). cond (is_round first) false (is_journal first || b)) (early_snoc lines line)
    ∙ by (is_round first) (is_journal first) (early lines) (list_any is_round lines) (is_journal line)
    ∙ ap (λ (b : Bool). b || cond (is_round first || list_any is_round lines) false (is_journal line)) (sym (early_cons first lines))
  where
    by : (t j e r l : Bool) → cond t false (j || (e || cond r false l)) ≡ (cond t false (j || e) || cond (t || r) false l)
    by true j e r l = refl
    by false true e r l = refl
    by false false e r l = refl

-- ---- one line more

pub record MayStand (begun : Bool) (line : Word) : Type 0 where
  pub shaped : IsShaped line
  pub late : begun ≡ false → is_journal line ≡ false

last_early : (begun : Bool) (line : Word) → (begun ≡ false → is_journal line ≡ false) → cond begun false (is_journal line) ≡ false
last_early true line late = refl
last_early false line late = late refl

early_last : (begun : Bool) (line : Word) → cond begun false (is_journal line) ≡ false → begun ≡ false → is_journal line ≡ false
early_last true line none is = absurd (true≢false is)
early_last false line none is = none

either_false : (a b : Bool) → a ≡ false → b ≡ false → (a || b) ≡ false
either_false true b h k = absurd (true≢false h)
either_false false b h k = k

pub one_stands : (lines : List Word) (line : Word) (begun : Bool) → begun ≡ list_any is_round lines → AreShapedLines lines → MayStand begun line → AreShapedLines (lines ++ line ∷ [])
one_stands lines line begun is shaped may = record {
  before = early_snoc lines line
      ∙ either_false (early lines) (cond (list_any is_round lines) false (is_journal line)) shaped.before
      (subst (λ (b : Bool). cond b false (is_journal line) ≡ false) is (last_early begun line may.late));
  each = all_append IsShaped lines (line ∷ []) shaped.each (may.shaped, tt);
}

pub one_falls : (lines : List Word) (line : Word) (begun : Bool) → begun ≡ list_any is_round lines → ¬ MayStand begun line → ¬ AreShapedLines (lines ++ line ∷ [])
one_falls lines line begun is not shaped =
    let both = or_parts (early lines) (cond (list_any is_round lines) false (is_journal line)) (sym (early_snoc lines line) ∙ shaped.before) in
    not (record {
      shaped = (all_right IsShaped lines (line ∷ []) shaped.each).0;
      late = early_last begun line (subst (λ (b : Bool). cond b false (is_journal line) ≡ false) (sym is) both.1);
    })

-- ---- so many lines of a report

-- so many lines were read, which are shaped
pub record AreRead (report : List ℕ) (number : ℕ) (begun : Bool) (rest : List ℕ) : Type 0 where
  pub front : List Word
  pub long : length front ≡ number
  pub lines_are : lines_of report ≡ front ++ lines_of rest
  pub begun_is : begun ≡ list_any is_round front
  pub shaped : AreShapedLines front

pub none_read : (report : List ℕ) → AreRead report 0 false report
none_read report = record { front = []; long = refl; lines_are = refl; begun_is = refl; shaped = record { before = refl; each = tt } }

any_snoc : (lines : List Word) (line : Word) → (list_any is_round lines || is_round line) ≡ list_any is_round (lines ++ line ∷ [])
any_snoc [] line = by (is_round line)
  where
    by : (t : Bool) → t ≡ (t || false)
    by true = refl
    by false = refl
any_snoc (first ∷ lines) line = by (is_round first) (list_any is_round lines) (is_round line) ∙ ap (λ (b : Bool). is_round first || b) (any_snoc lines line)
  where
    by : (a b c : Bool) → ((a || b) || c) ≡ (a || (b || c))
    by true b c = refl
    by false b c = refl

one_behind : (report : List ℕ) (front : List Word) (line : Word) (rest behind : List ℕ) → lines_of report ≡ front ++ lines_of rest → lines_of rest ≡ line ∷ lines_of behind
    → lines_of report ≡ (front ++ line ∷ []) ++ lines_of behind
one_behind report front line rest behind is next = is ∙ ap (λ (ls : List Word). front ++ ls) next ∙ sym (append_assoc front (line ∷ []) (lines_of behind))

pub one_read : (report : List ℕ) (number : ℕ) (begun : Bool) (rest behind : List ℕ) (line : Word) → AreRead report number begun rest → lines_of rest ≡ line ∷ lines_of behind → MayStand begun line
    → AreRead report (number + 1) (begun || is_round line) behind
one_read report number begun rest behind line read next may = record {
  front = read.front ++ line ∷ [];
  long = length-append read.front (line ∷ []) ∙ ap (λ (n : ℕ). n + 1) read.long;
  lines_are = one_behind report read.front line rest behind read.lines_are next;
  begun_is = ap (λ (b : Bool). b || is_round line) read.begun_is ∙ any_snoc read.front line;
  shaped = one_stands read.front line begun read.begun_is read.shaped may;
}

front_taken : (front behind : List Word) (n : ℕ) → length front ≡ n → take n (front ++ behind) ≡ front
front_taken [] behind zero is = refl
front_taken [] behind (suc n) is = absurd (omega arith)
front_taken (line ∷ front) behind zero is = absurd (omega arith)
front_taken (line ∷ front) behind (suc n) is = ap (λ (ls : List Word). line ∷ ls) (front_taken front behind n (omega arith))

pub fault_found : (report : List ℕ) (number : ℕ) (begun : Bool) (rest behind : List ℕ) (line : Word) → AreRead report number begun rest → lines_of rest ≡ line ∷ lines_of behind → ¬ MayStand begun line
    → IsFirstFaulty report (number + 1)
fault_found report number begun rest behind line read next not =
    let with : lines_of report ≡ (read.front ++ line ∷ []) ++ lines_of behind = one_behind report read.front line rest behind read.lines_are next in
    let long : length (read.front ++ line ∷ []) ≡ number + 1 = length-append read.front (line ∷ []) ∙ ap (λ (n : ℕ). n + 1) read.long in
    let all : length (lines_of report) ≡ length (read.front ++ line ∷ []) + length (lines_of behind) = ap length with ∙ length-append (read.front ++ line ∷ []) (lines_of behind) in
    record {
      above = number;
      number_is = refl;
      there = omega arith;
      right = subst AreShapedLines (sym (ap (take number) read.lines_are ∙ front_taken read.front (lines_of rest) number read.long)) read.shaped;
      wrong = λ shaped.
          one_falls read.front line begun read.begun_is not
          (subst AreShapedLines (ap (take (number + 1)) with ∙ front_taken (read.front ++ line ∷ []) (lines_of behind) (number + 1) long) shaped);
    }

pub all_shaped : (report : List ℕ) (number : ℕ) (begun : Bool) (rest : List ℕ) → AreRead report number begun rest → rest ≡ [] → AreShaped report
all_shaped report number begun rest read end =
    let is : lines_of report ≡ read.front = read.lines_are ∙ ap (λ (text : List ℕ). read.front ++ lines_of text) end ∙ append-nil read.front in
    let shaped : AreShapedLines (lines_of report) = subst AreShapedLines (sym is) read.shaped in
    record { before = shaped.before; each = shaped.each }

-- ---- a faulty line

early_front : (xs ys : List Word) → early (xs ++ ys) ≡ false → early xs ≡ false
early_front [] ys h = refl
early_front (x ∷ xs) ys h = early_cons x xs ∙ by (is_round x) (is_journal x) (early (xs ++ ys)) (early xs) (early_front xs ys) (sym (early_cons x (xs ++ ys)) ∙ h)
  where
    by : (t j e f : Bool) → (e ≡ false → f ≡ false) → cond t false (j || e) ≡ false → cond t false (j || f) ≡ false
    by true j e f later h = refl
    by false true e f later h = absurd (true≢false h)
    by false false e f later h = later h

each_front : (xs ys : List Word) → AllByRecursion IsShaped (xs ++ ys) → AllByRecursion IsShaped xs
each_front [] ys h = tt
each_front (x ∷ xs) ys h = (h.0, each_front xs ys h.1)

pub faulty_unshaped : (report : List ℕ) (number : ℕ) → IsFirstFaulty report number → ¬ AreShaped report
faulty_unshaped report number first shaped =
    let front : List Word = take number (lines_of report) in
    let behind : List Word = drop number (lines_of report) in
    let is : front ++ behind ≡ lines_of report = take-append-drop number (lines_of report) in
    first.wrong (record {
      before = early_front front behind (ap early is ∙ shaped.before);
      each = each_front front behind (subst (AllByRecursion IsShaped) (sym is) shaped.each);
    })
