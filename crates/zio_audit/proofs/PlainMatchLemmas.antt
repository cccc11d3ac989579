-- A plain text compared run by run: what is left of it behind a run, and what a matcher tells after one more piece.
use Rattle.std.proofs.Common.{◌≡◌, ◌≢◌, ◌∷◌, ◌++◌, [], ℕ, List, Bool, true, false, Option, None, Some, is_some, length, take, refl, sym, ap, subst, ◌∙◌, append_assoc}
use Rattle.std.specs.Prelude.{◌↔◌, MatchOption, not, option_map}
use Rattle.std.proofs.lemmas.Bool.{both_ways}
use Rattle.std.proofs.lemmas.List.{append-nil, append_cancel_left, take_at}
use Rattle.zio_script.specs.Words.{is_empty}
use Rattle.zio_report.specs.Lines.{as_line}
use Rattle.zio_audit.specs.declared.plain_matcher.PlainMatcher.{PlainMatcher}
use Rattle.zio_audit.specs.PlainMatching.{HoldsCompared, IsLeftOf, compared, left_of}
use Rattle.zio_audit.proofs.PutLemmas.{line_more}

-- ---- lists of bytes

-- the first of them, and what follows it
first_byte : List ℕ → ℕ
first_byte [] = 0
first_byte (c ∷ cs) = c

behind_first : List ℕ → List ℕ
behind_first [] = []
behind_first (c ∷ cs) = cs

-- a list with a byte isn't empty
some_byte : (c : ℕ) (cs : List ℕ) → c ∷ cs ≡ [] → ⊥
some_byte c cs same = both_ways false refl (ap is_empty same)

-- nor is one with a line
some_line : (line more : List ℕ) → as_line line ++ more ≡ [] → ⊥
some_line [] more same = some_byte 10 more same
some_line (c ∷ line) more same = some_byte c (as_line line ++ more) same

-- two fronts of one list, neither of which begins the other
neither_begins : (line piece behind more : List ℕ) → ((rest : List ℕ) → piece ≢ line ++ rest) → ((rest : List ℕ) → line ≢ piece ++ rest) → line ++ behind ≢ piece ++ more
unfolding first_byte behind_first
neither_begins [] piece behind more one other same = one piece refl
neither_begins (c ∷ line) [] behind more one other same = other (c ∷ line) refl
neither_begins (c ∷ line) (d ∷ piece) behind more one other same =
    let first : c ≡ d = ap first_byte same in
    neither_begins line piece behind more (λ rest is. one rest (λ i. sym first i ∷ is i)) (λ rest is. other rest (λ i. first i ∷ is i)) (ap behind_first same)

-- ---- behind a run

-- nothing stands at the end
pub at_end : (text piece : List ℕ) → text ≡ [] → piece ≢ [] → (more : List ℕ) → text ≢ piece ++ more
at_end text [] end some more same = some refl
at_end text (c ∷ piece) end some more same = some_byte c (piece ++ more) (sym same ∙ end)

-- the piece is no run of the line, nor begins by it
pub off_line : (text line behind piece : List ℕ) → text ≡ as_line line ++ behind → ((rest : List ℕ) → piece ≢ line ++ rest) → ((rest : List ℕ) → line ≢ piece ++ rest)
    → (more : List ℕ) → text ≢ piece ++ more
off_line text line behind piece next one other more same =
    neither_begins line piece (10 ∷ behind) more one other (sym (next ∙ line_more line behind) ∙ same)

-- the piece is a run of the line
pub in_line : (text line behind piece rest : List ℕ) → text ≡ as_line line ++ behind → line ≡ piece ++ rest
    → (more : List ℕ) → (text ≡ piece ++ more) ↔ (as_line rest ++ behind ≡ more)
in_line text line behind piece rest next is more =
    let parts : text ≡ piece ++ (as_line rest ++ behind) =
    next ∙ line_more line behind ∙ ap (λ ns. ns ++ (10 ∷ behind)) is ∙ append_assoc piece rest (10 ∷ behind) ∙ ap (λ ns. piece ++ ns) (sym (line_more rest behind)) in
    (λ same. append_cancel_left piece (as_line rest ++ behind) more (sym parts ∙ same), λ same. parts ∙ ap (λ ns. piece ++ ns) same)

-- the piece begins by the line
pub past_line : (text line behind piece rest : List ℕ) → text ≡ as_line line ++ behind → piece ≡ line ++ rest
    → (more : List ℕ) → (text ≡ piece ++ more) ↔ ((10 ∷ behind) ≡ rest ++ more)
past_line text line behind piece rest next is more =
    let left : text ≡ line ++ (10 ∷ behind) = next ∙ line_more line behind in
    let came : piece ++ more ≡ line ++ (rest ++ more) = ap (λ ns. ns ++ more) is ∙ append_assoc line rest more in
    (λ same. append_cancel_left line (10 ∷ behind) (rest ++ more) (sym left ∙ same ∙ came), λ same. left ∙ ap (λ ns. line ++ ns) same ∙ sym came)

-- what goes on behind the rest of the piece goes on behind the piece
pub passed_on : {A : Type 0} (r : Option A) (left now : A → List ℕ) (text piece behind rest : List ℕ)
    → ((more : List ℕ) → (text ≡ piece ++ more) ↔ (behind ≡ rest ++ more))
    → MatchOption r ((more : List ℕ) → behind ≢ rest ++ more) (λ p. (more : List ℕ) → (behind ≡ rest ++ more) ↔ (left p ≡ now p ++ more))
    → MatchOption r ((more : List ℕ) → text ≢ piece ++ more) (λ p. (more : List ℕ) → (text ≡ piece ++ more) ↔ (left p ≡ now p ++ more))
passed_on None left now text piece behind rest same none = λ more is. none more ((same more).0 is)
passed_on (Some p) left now text piece behind rest same some = λ more. (λ is. (some more).0 ((same more).0 is), λ is. (same more).1 ((some more).1 is))

-- ---- what is left behind one more piece

-- something else came, and nothing mends that
pub others_came : (text held piece : List ℕ) → IsLeftOf text None held → IsLeftOf text None (held ++ piece)
others_came text held piece other front = other (piece ++ front.0, front.1 ∙ append_assoc held piece front.0)

-- the piece came, or something else did
pub piece_came : {A : Type 0} (r : Option A) (left : A → List ℕ) (text held piece rest : List ℕ) → text ≡ held ++ rest
    → MatchOption r ((more : List ℕ) → rest ≢ piece ++ more) (λ x. rest ≡ piece ++ left x) → IsLeftOf text (option_map left r) (held ++ piece)
piece_came None left text held piece rest came none = λ front.
    none front.0 (append_cancel_left held rest (piece ++ front.0) (sym came ∙ front.1 ∙ append_assoc held piece front.0))
piece_came (Some x) left text held piece rest came some = came ∙ ap (λ ns. held ++ ns) some ∙ sym (append_assoc held piece (left x))

-- all of it came
whole_came : {A : Type 0} (r : Option A) (line behind : A → List ℕ) (t : Bool) (text held rest : List ℕ) → is_some r ≡ not t → text ≡ held ++ rest
    → MatchOption r (rest ≡ []) (λ p. rest ≡ as_line (line p) ++ behind p) → (t ≡ true) ↔ (held ≡ text)
whole_came None line behind true text held rest is came end = (λ _. sym (came ∙ ap (λ ns. held ++ ns) end ∙ append-nil held), λ _. refl)
whole_came None line behind false text held rest is came end = absurd (both_ways false refl is)
whole_came (Some p) line behind true text held rest is came more = absurd (both_ways true is refl)
whole_came (Some p) line behind false text held rest is came more = (
  (λ t. absurd (both_ways false refl t)),
  (λ same. absurd (some_line (line p) (behind p) (append_cancel_left held (as_line (line p) ++ behind p) [] (ap (λ ns. held ++ ns) (sym more) ∙ sym came ∙ sym same ∙ sym (append-nil held))))),
)

-- ---- what a matcher holds

-- one more piece is behind what came
pub compared_more : (text came piece : List ℕ) → compared text came ++ piece ≡ compared text (came ++ piece)
compared_more text came piece = ap (λ ns. length text ∷ ns) (append_assoc text came piece)

-- its text and what came are found there again
same_text : (text came other more : List ℕ) → compared text came ≡ compared other more → text ≡ other
unfolding first_byte behind_first
same_text text came other more same =
    let long : length text ≡ length other = ap first_byte same in
    let whole : text ++ came ≡ other ++ more = ap behind_first same in
    sym (take_at text came (length text) refl) ∙ ap (take (length text)) whole ∙ take_at other more (length text) (sym long)

same_came : (text came other more : List ℕ) → compared text came ≡ compared other more → came ≡ more
unfolding behind_first
same_came text came other more same =
    let whole : text ++ came ≡ other ++ more = ap behind_first same in
    append_cancel_left other came more (ap (λ ns. ns ++ came) (sym (same_text text came other more same)) ∙ whole)

-- a matcher tells of the one text that it holds
pub whole_compared : {A : Type 0} (r : Option A) (line behind : A → List ℕ) (t : Bool) (m : PlainMatcher) (rest text came : List ℕ)
    → is_some r ≡ not t → left_of m ≡ Some rest → HoldsCompared m (compared text came)
    → MatchOption r (rest ≡ []) (λ p. rest ≡ as_line (line p) ++ behind p) → (t ≡ true) ↔ (came ≡ text)
whole_compared r line behind t m rest text came is left holds end =
    let text_is : text ≡ holds.text = same_text text came holds.text holds.came holds.held_is in
    let came_is : came ≡ holds.came = same_came text came holds.text holds.came holds.held_is in
    let parts : holds.text ≡ holds.came ++ rest = subst (λ o. IsLeftOf holds.text o holds.came) left holds.left in
    let both = whole_came r line behind t holds.text holds.came rest is parts end in
    (λ yes. came_is ∙ both.0 yes ∙ sym text_is, λ same. both.1 (sym came_is ∙ same ∙ text_is))

-- where other bytes came it isn't the text
pub other_compared : (m : PlainMatcher) (text came : List ℕ) → left_of m ≡ None → HoldsCompared m (compared text came) → came ≡ text → ⊥
other_compared m text came left holds same =
    let text_is : text ≡ holds.text = same_text text came holds.text holds.came holds.held_is in
    let came_is : came ≡ holds.came = same_came text came holds.text holds.came holds.held_is in
    let other : IsLeftOf holds.text None holds.came = subst (λ o. IsLeftOf holds.text o holds.came) left holds.left in
    other ([], sym text_is ∙ sym same ∙ came_is ∙ sym (append-nil holds.came))
