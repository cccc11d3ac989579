-- What the reader finds in one line by its words, of any form: the reader's own words, and nothing that has to be believed.
use Rattle.std.specs.Prelude.{◌≡◌, ◌≤◌, List, [], ◌∷◌, ◌++◌, length, map, true, Option, option_map, codes}
use Rattle.zio_script.specs.declared.fixed.BodyForm.{BodyForm}
use Rattle.zio_script.specs.declared.fixed.BodyForm.TheVariants.{Data, Fill, Seq}
use Rattle.zio_script.specs.declared.fixed.FirstWord.{FirstWord}
use Rattle.zio_script.specs.declared.fixed.FirstWord.TheVariants.{Failmode as FailmodeWord, Top as TopWord, Fault as FaultWord, Go as GoWord, Clear as ClearWord}
use Rattle.zio_script.specs.declared.shape.BodyShape.{BodyShape as FoundContent}
use Rattle.zio_script.specs.declared.shape.BodyShape.TheVariants.{Hex as HexWords, Fill as FillWords, Seq as SeqWords}
use Rattle.zio_script.specs.declared.shape.LineShape.{LineShape}
use Rattle.zio_script.specs.declared.shape.LineShape.TheVariants.{Failmode, Top, Fault, Request, Go, Clear}
use Rattle.zio_script.specs.declared.shape.TopShape.{TopShape as FoundTop}
use Rattle.zio_script.specs.declared.shape.RowShape.{RowShape as FoundRow}
use Rattle.zio_script.specs.declared.shape.RequestShape.{RequestShape as FoundRequest}
use Rattle.zio_script.specs.declared.shape.WorkShape.{WorkShape as FoundWork}
use Rattle.zio_script.specs.declared.shape.WorkShape.TheVariants.{Null, Read, Write, Free, Claim}
use Rattle.zio_script.specs.declared.shapes.BodyFound.{BodyFound as FoundBody}
use Rattle.zio_script.specs.declared.shape.Tail.{Tail as FoundTail}
use Rattle.zio_script.specs.Lines.{Shape, FailmodeShape, TopShape, FaultShape, RequestShape, GoShape, ClearShape, BodyShape, HexShape, FillShape, SeqShape, TopWords, RowShape, WorkShape, NullShape, ReadShape, WriteShape, FreeShape, ClaimShape, BodyFound, Tail, hex_body, fill_body, seq_body, failmode_shape, top_shape, fault_shape, go_shape, clear_shape}
use Rattle.zio_script.specs.Words.{Entry, Word, is_word}

-- the words of a top
abbrev pub top_as : FoundTop → TopWords
top_as top = record { leaves = map (λ w. w.now) top.leaves.now; sector = option_map (λ w. w.now) top.sector }

-- the words of a row of the fault table
abbrev pub row_as : FoundRow → RowShape
row_as row = record {
  leaf = row.leaf.now;
  on = row.on;
  at = row.at.now;
  len = row.len.now;
  from = row.from.now;
  until = row.until.now;
  kind = row.kind;
  first = row.first;
}

-- what stands behind a request
abbrev pub tail_as : FoundTail → Tail
tail_as tail = record { under = option_map (λ w. w.now) tail.under; flag = tail.flag }

-- the shape of a body
abbrev pub body_shape_as : FoundContent → BodyShape
body_shape_as (HexWords hex) = HexShape hex.now
body_shape_as (FillWords byte len) = FillShape byte.now len.now
body_shape_as (SeqWords seed len) = SeqShape seed.now len.now

-- a body, and the words behind it
abbrev pub body_as : FoundBody → BodyFound
body_as found = record { body = body_shape_as found.body; rest = map (λ w. w.now) found.rest.now }

-- what a request is to do
abbrev pub work_as : FoundWork → WorkShape
work_as Null = NullShape
work_as (Read name prio) = ReadShape name.now prio
work_as (Write name sum copies prio body) = WriteShape name.now sum copies.now prio (body_shape_as body)
work_as (Free name) = FreeShape name.now
work_as (Claim name hex) = ClaimShape name.now hex.now

-- a request
abbrev pub request_as : FoundRequest → Shape
request_as asked = RequestShape asked.number.now (work_as asked.work) (tail_as asked.tail)

-- a line
abbrev pub shape_as : LineShape → Shape
shape_as (Failmode mode) = FailmodeShape mode
shape_as (Top top) = TopShape (top_as top)
shape_as (Fault row) = FaultShape (row_as row)
shape_as (Request asked) = request_as asked
shape_as Go = GoShape
shape_as Clear = ClearShape

-- ---- by fixed words

-- what the first word of a line stands for, unless it is a request
abbrev pub line_words : List (Entry FirstWord)
line_words =
    record { word = codes "failmode"; value = FailmodeWord }
    ∷ record { word = codes "top"; value = TopWord }
    ∷ record { word = codes "fault"; value = FaultWord }
    ∷ record { word = codes "go"; value = GoWord }
    ∷ record { word = codes "clear"; value = ClearWord } ∷ []

-- what the first word of a body stands for
abbrev pub body_form_words : List (Entry BodyForm)
body_form_words =
    record { word = codes "data"; value = Data }
    ∷ record { word = codes "fill"; value = Fill }
    ∷ record { word = codes "seq"; value = Seq } ∷ []

-- the shape by the first word and those behind it
abbrev pub first_shape : FirstWord → List Word → Option Shape
first_shape FailmodeWord = failmode_shape
first_shape TopWord = top_shape
first_shape FaultWord = fault_shape
first_shape GoWord = go_shape
first_shape ClearWord = clear_shape

-- a body of this form at the front of these words
abbrev pub content_found : BodyForm → List Word → Option BodyFound
content_found Data = hex_body
content_found Fill = fill_body
content_found Seq = seq_body

-- ---- the end of a top

-- the words are leaves, at least one, then `sector`, and then this word
pub record HasSector (words leaves : List Word) (sector : Word) : Type 0 where
  pub word : Word
  pub words_are : words ≡ leaves ++ word ∷ sector ∷ []
  pub some : 1 ≤ length leaves
  pub is_word : is_word (codes "sector") word ≡ true

-- the words don't end so
abbrev pub HasNoSector : List Word → Type 0
HasNoSector words = (leaves : List Word) (sector : Word) → ¬ HasSector words leaves sector
