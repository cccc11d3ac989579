-- Texts of journals put in among the lines of a report: how a comparison goes on behind a line.
use Rattle.std.proofs.Common.{◌≡◌, ◌≢◌, ◌∷◌, ◌++◌, [], ℕ, List, true, false, cond, Option, None, Some, filter, refl, sym, ap, subst, ◌∙◌, append_assoc}
use Rattle.std.specs.Prelude.{◌↔◌, MatchOption, codes, not, option_map}
use Rattle.std.specs.Fmt.{digits}
use Rattle.std.proofs.lemmas.Bool.{cond-false, cond-true}
use Rattle.std.proofs.lemmas.List.{append_cancel_left}
use Rattle.zio_script.specs.Words.{Word, lines_of}
use Rattle.zio_report.specs.Lines.{as_line, head_text}
use Rattle.zio_spelled.specs.Rounds.{others_of}
use Rattle.zio_spelled.specs.Spelled.{first_of, is_journal, is_round}
use Rattle.zio_audit.specs.Putting.{IsText, is_close, no_head, plain_lines, put_in}

-- ---- comparing

pub same_text : (o : Option (List ℕ)) (a b : List ℕ) → a ≡ b → IsText o a ↔ IsText o b
same_text o a b same = (subst (IsText o) same, subst (IsText o) (sym same))

pub then_text : (o p q : Option (List ℕ)) (a b c : List ℕ) → (IsText o a ↔ IsText p b) → (IsText p b ↔ IsText q c) → IsText o a ↔ IsText q c
then_text o p q a b c h k = (λ x. k.0 (h.0 x), λ z. h.1 (k.1 z))

-- the text begins what isn't compared
passed_some : (rest text behind more : List ℕ) → rest ≡ text ++ behind → (rest ≡ text ++ more) ↔ (behind ≡ more)
passed_some rest text behind more is = (
  (λ h. append_cancel_left text behind more (sym is ∙ h)),
  (λ h. is ∙ ap (λ ns. text ++ ns) h),
)

-- what is left behind the text, if it stands there
pub passed_by : {T : Type 0} (now : T → List ℕ) (o : Option (List ℕ)) (rest text : List ℕ) (r : Option T) → o ≡ Some rest
    → MatchOption r ((behind : List ℕ) → rest ≢ text ++ behind) (λ x. rest ≡ text ++ now x)
    → (more : List ℕ) → IsText o (text ++ more) ↔ IsText (option_map now r) more
passed_by now o rest text None is h more = (λ k. h more (subst (λ p. IsText p (text ++ more)) is k), λ k. absurd k)
passed_by now o rest text (Some x) is h more =
    let both = passed_some rest text (now x) more h in
    (λ k. both.0 (subst (λ p. IsText p (text ++ more)) is k), λ k. subst (λ p. IsText p (text ++ more)) (sym is) (both.1 k))

-- ---- lines

pub line_more : (line more : List ℕ) → as_line line ++ more ≡ line ++ (10 ∷ more)
line_more line more = append_assoc line (10 ∷ []) more

pub put_round : (later : List (List ℕ)) (held : List ℕ) (line : Word) (lines : List Word) → is_round line ≡ true
    → put_in later held (line ∷ lines) ≡ held ++ (as_line line ++ put_in (others_of later) (first_of later) lines)
put_round later held line lines is =
    cond-true (is_round line) (held ++ (as_line line ++ put_in (others_of later) (first_of later) lines))
    (cond (is_close line) (held ++ (as_line line ++ put_in later [] lines)) (as_line line ++ put_in later held lines)) is

pub put_close : (later : List (List ℕ)) (held : List ℕ) (line : Word) (lines : List Word) → is_round line ≡ false → is_close line ≡ true
    → put_in later held (line ∷ lines) ≡ held ++ (as_line line ++ put_in later [] lines)
put_close later held line lines other is =
    cond-false (is_round line) (held ++ (as_line line ++ put_in (others_of later) (first_of later) lines))
    (cond (is_close line) (held ++ (as_line line ++ put_in later [] lines)) (as_line line ++ put_in later held lines)) other
    ∙ cond-true (is_close line) (held ++ (as_line line ++ put_in later [] lines)) (as_line line ++ put_in later held lines) is

pub put_plain : (later : List (List ℕ)) (held : List ℕ) (line : Word) (lines : List Word) → is_round line ≡ false → is_close line ≡ false
    → put_in later held (line ∷ lines) ≡ as_line line ++ put_in later held lines
put_plain later held line lines other neither =
    cond-false (is_round line) (held ++ (as_line line ++ put_in (others_of later) (first_of later) lines))
    (cond (is_close line) (held ++ (as_line line ++ put_in later [] lines)) (as_line line ++ put_in later held lines)) other
    ∙ cond-false (is_close line) (held ++ (as_line line ++ put_in later [] lines)) (as_line line ++ put_in later held lines) neither

-- a line of the journal is passed over
pub journal_line : (line : Word) (text behind : List ℕ) → lines_of text ≡ line ∷ lines_of behind → is_journal line ≡ true → plain_lines text ≡ plain_lines behind
journal_line line text behind next is =
    ap (filter (λ (l : Word). not (is_journal l))) next
    ∙ cond-false (not (is_journal line)) (line ∷ plain_lines behind) (plain_lines behind) (ap not is)

-- another isn't
pub plain_line : (line : Word) (text behind : List ℕ) → lines_of text ≡ line ∷ lines_of behind → is_journal line ≡ false → plain_lines text ≡ line ∷ plain_lines behind
plain_line line text behind next other =
    ap (filter (λ (l : Word). not (is_journal l))) next
    ∙ cond-true (not (is_journal line)) (line ∷ plain_lines behind) (plain_lines behind) (ap not other)

-- ---- the head of a round alone

pub head_is : head_text no_head ≡ codes "round 0 clear point 0\n"
unfolding digits
head_is = refl

-- the same text behind the same head
pub same_behind : (round a b : List ℕ) → round ≡ head_text no_head ++ a → round ≡ head_text no_head ++ b → b ≡ a
same_behind round a b one other = append_cancel_left (head_text no_head) b a (sym other ∙ one)
