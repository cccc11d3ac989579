-- What the reader makes of a line of any form, once its words are read: the reader's own words, and nothing that has to be
-- believed.
use Rattle.std.specs.Prelude.{◌≡◌, ℕ, List, ◌++◌, Bool, Option, Some, None}
use Rattle.zio_faults.specs.declared.table.Row.{Row}
use Rattle.zio_script.specs.declared.refusal.LineFault.{LineFault}
use Rattle.zio_script.specs.declared.refusal.LineFault.TheVariants.{NoShape, NoNumber, Memory}
use Rattle.zio_script.specs.declared.lines.ScriptLine.{ScriptLine as NewLine}
use Rattle.zio_script.specs.declared.lines.ScriptLine.TheVariants.{Failmode, Top, Fault, Request, Go, Clear}
use Rattle.zio_script.specs.declared.lines.NewTop.{NewTop}
use Rattle.zio_script.specs.declared.lines.NewRow.{NewRow}
use Rattle.zio_script.specs.declared.lines.NewRequest.{NewRequest as FoundRequest}
use Rattle.zio_script.specs.declared.lines.NewWork.{NewWork}
use Rattle.zio_script.specs.declared.lines.NewWork.TheVariants.{Null as NewNull, Read as NewRead, Write as NewWrite, Free as NewFree, Claim as NewClaim}
use Rattle.zio_script.specs.declared.lines.NewBody.{NewBody}
use Rattle.zio_script.specs.declared.lines.NewBody.TheVariants.{Hex as NewHex, Fill as NewFill, Seq as NewSeq}
use Rattle.zio_script.specs.declared.shape.BodyShape.{BodyShape as BodyWords}
use Rattle.zio_script.specs.declared.shape.RequestShape.{RequestShape as RequestWords}
use Rattle.zio_script.specs.declared.shape.RowShape.{RowShape as RowWords}
use Rattle.zio_script.specs.declared.shape.TopShape.{TopShape as TopFound}
use Rattle.zio_script.specs.declared.shape.WorkShape.{WorkShape as WorkWords}
use Rattle.zio_script.specs.declared.script.Body.{Body}
use Rattle.zio_script.specs.declared.script.Body.TheVariants.{Hex, Fill, Seq}
use Rattle.zio_script.specs.declared.script.Request.{Request as MadeRequest}
use Rattle.zio_script.specs.declared.script.Work.{Work}
use Rattle.zio_script.specs.declared.script.Work.TheVariants.{Null, Read, Write, Free, Claim}
use Rattle.zio_script.specs.Lines.{ScriptLine, FailmodeLine, LeavesLine, FaultLine, RequestLine, GoLine, ClearLine, NewRequest, Shape, body_of_shape, line_of, new_request_of, numbers, row_of as row_of_words, shape_of, top_of as top_of_words, work_of as work_of_words}
use Rattle.zio_script.specs.Shapes.{body_shape_as, row_as as row_words, tail_as, top_as as top_words_as, work_as as work_words}
use Rattle.zio_script.specs.Words.{Word}

-- ---- what was read

-- the bytes of a write
abbrev pub body_as : NewBody → Body
body_as (NewHex bytes) = Hex bytes
body_as (NewFill byte len) = Fill byte len
body_as (NewSeq seed len) = Seq seed len

-- what a request is to do
abbrev pub work_as : NewWork → Work
work_as NewNull = Null
work_as (NewRead name prio) = Read name.now prio
work_as (NewWrite name sum copies prio body) = Write name.now sum copies prio (body_as body)
work_as (NewFree name) = Free name.now
work_as (NewClaim name pointer) = Claim name.now pointer

-- a request
abbrev pub request_as : FoundRequest → NewRequest
request_as asked = record { number = asked.number; work = work_as asked.work; under = asked.under; flag = asked.flag }

-- a row of the fault table
abbrev pub row_as : NewRow → Row
row_as row = record {
  leaf = row.leaf;
  on = row.on;
  at = row.at;
  len = row.len;
  from = row.from;
  until = row.until;
  kind = row.kind;
  first = row.first;
}

-- a top
abbrev pub top_as : NewTop → ScriptLine
top_as top = LeavesLine top.leaves top.sector

-- a line
abbrev pub line_as : NewLine → ScriptLine
line_as (Failmode mode) = FailmodeLine mode
line_as (Top top) = top_as top
line_as (Fault row) = FaultLine (row_as row)
line_as (Request asked) = RequestLine (request_as asked)
line_as Go = GoLine
line_as Clear = ClearLine

-- ---- what its words say

-- of the words of a top
abbrev pub top_of : TopFound → Option ScriptLine
top_of top = top_of_words (top_words_as top)

-- of the words of a row
abbrev pub row_of : RowWords → Option Row
row_of row = row_of_words (row_words row)

-- of the words of a body
abbrev pub body_of : BodyWords → Option Body
body_of body = body_of_shape (body_shape_as body)

-- of the words of what a request is to do
abbrev pub work_of : WorkWords → Option Work
work_of work = work_of_words (work_words work)

-- of the words of a request
abbrev pub request_of : RequestWords → Option NewRequest
request_of asked = new_request_of asked.number.now (work_words asked.work) (tail_as asked.tail)

-- the words are numbers, and these stand behind the old ones now
pub record GivesNumbers (words : List Word) (old new : List ℕ) : Type 0 where
  pub more : List ℕ
  pub are : numbers words ≡ Some more
  pub new_is : new ≡ old ++ more

-- why the words spell nothing; memory may always be wanting
abbrev pub IsWrong : {X : Type 0} → Option X → LineFault → Type 0
IsWrong spelled NoShape = ⊥
IsWrong spelled NoNumber = spelled ≡ None
IsWrong spelled Memory = Unit {0}

-- ---- lines

-- the words are this line
pub record IsLineIn (words : List Word) (line : ScriptLine) : Type 0 where
  pub shape : Shape
  pub shape_is : shape_of words ≡ Some shape
  pub line_is : line_of shape ≡ Some line

-- a word of the line's shape isn't what it stands for
pub record LacksNumber (words : List Word) : Type 0 where
  pub shape : Shape
  pub shape_is : shape_of words ≡ Some shape
  pub wrong : line_of shape ≡ None

-- why the words are no line; memory may always be wanting
abbrev pub IsNoLine : List Word → LineFault → Type 0
IsNoLine words NoShape = shape_of words ≡ None
IsNoLine words NoNumber = LacksNumber words
IsNoLine words Memory = Unit {0}

-- ---- the request that a line makes

abbrev pub request_made : NewRequest → Bool → MadeRequest
request_made asked canfail = record { number = asked.number; work = asked.work; under = asked.under; canfail = canfail }
