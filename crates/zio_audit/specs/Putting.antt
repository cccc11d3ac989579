-- Where the lines of a journal stand in a report. docs/FORMATS.md, "Report".
use Rattle.std.specs.Prelude.{◌≡◌, ℕ, List, [], ◌∷◌, ◌++◌, map, filter, cond, Bool, ◌||◌, not, Option, Some, None, option_map, codes}
use Rattle.zio_script.specs.Words.{Word, is_word, lines_of}
use Rattle.zio_report.specs.declared.report.RoundHead.{RoundHead}
use Rattle.zio_report.specs.Lines.{as_line, journal_text}
use Rattle.zio_spelled.specs.declared.rounds.RoundJournal.{RoundJournal}
use Rattle.zio_spelled.specs.Rounds.{others_of}
use Rattle.zio_spelled.specs.Spelled.{first_of, first_word, is_journal, is_round}
use Rattle.zio_audit.specs.declared.putting.PutIn.{PutIn}
use Rattle.zio_audit.specs.Marks.{named}

-- the line of a held batch, or the last
abbrev pub is_close : Word → Bool
is_close line = is_word (codes "held") (first_word line) || is_word (codes "end") (first_word line)

-- the lines that are none of the journal
abbrev pub plain_lines : List ℕ → List Word
plain_lines report = filter (λ line. not (is_journal line)) (lines_of report)

-- The text of these lines with the texts of journals put in: what is held stands before the next line that is the head of
-- a round or of a held batch, or the last; behind the head of a round the next text is held.
abbrev pub put_in : List (List ℕ) → List ℕ → List Word → List ℕ
put_in later held [] = held
put_in later held (line ∷ lines) =
    cond (is_round line) (held ++ (as_line line ++ put_in (others_of later) (first_of later) lines))
    (cond (is_close line) (held ++ (as_line line ++ put_in later [] lines)) (as_line line ++ put_in later held lines))

-- the text of a round's journal
abbrev pub text_of : RoundJournal → List ℕ
text_of j = journal_text j.entries (map (named 0) j.order)

-- A report has the lines of its journals where a run prints them, and as it does: behind the lines of the round's requests,
-- its entries before its completions.
abbrev pub IsPutIn : List RoundJournal → List ℕ → Type 0
IsPutIn journals report = report ≡ put_in (map text_of journals) [] (plain_lines report)

-- ---- comparing

-- what isn't compared yet is this text; none where a difference was met
abbrev pub IsText : Option (List ℕ) → List ℕ → Type 0
IsText None text = ⊥
IsText (Some rest) text = rest ≡ text

-- what isn't compared yet
abbrev pub rest_of : PutIn → Option (List ℕ)
rest_of p = option_map (λ t. t.now) p.rest

-- it is the text of the lines that weren't read yet, with these texts put in
abbrev pub Fits : PutIn → List (List ℕ) → List ℕ → Type 0
Fits p later held = IsText (rest_of p) (put_in later held (plain_lines p.lines.now))

-- ---- printing

-- the head that stands before the journal of a round that is printed for it alone
abbrev pub no_head : RoundHead
no_head = record { round = 0; batch = None; point = 0 }
