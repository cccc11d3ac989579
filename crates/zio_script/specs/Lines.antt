-- The shapes of a script's lines, by their words alone, and the lines that they are once each number and each
-- hexadecimal word is read: docs/FORMATS.md, "Shapes of lines".
use Rattle.std.specs.Prelude.{ℕ, List, [], ◌∷◌, length, Bool, true, false, cond, ◌&&◌, nat_le, Option, Some, None, option_map, codes}
use Rattle.std.specs.Bool.{then_some}
use Rattle.std.specs.Option.{option_or}
use Rattle.zio_types.specs.declared.request.Kind.{Kind}
use Rattle.zio_types.specs.declared.request.Kind.TheVariants.{Null as NullKind, Read as ReadKind, Write as WriteKind, Free as FreeKind, Claim as ClaimKind}
use Rattle.zio_types.specs.declared.request.Prio.{Prio}
use Rattle.zio_blkptr.specs.declared.pointer.SumKind.{SumKind}
use Rattle.zio_faults.specs.declared.table.FaultKind.{FaultKind}
use Rattle.zio_faults.specs.declared.table.On.{On}
use Rattle.zio_faults.specs.declared.table.Row.{Row}
use Rattle.zio_types.specs.declared.place.TheConstants.{TOP_LEAVES_MAX}
use Rattle.zio_script.specs.declared.script.Body.{Body}
use Rattle.zio_script.specs.declared.script.Body.TheVariants.{Hex, Fill, Seq}
use Rattle.zio_script.specs.declared.script.Failmode.{Failmode}
use Rattle.zio_script.specs.declared.script.Work.{Work}
use Rattle.zio_script.specs.declared.script.Work.TheVariants.{Null, Read, Write, Free, Claim}
use Rattle.zio_types.specs.Places.{sector_size}
use Rattle.zio_script.specs.Words.{Word, Entry, value_in, is_word, number, bytes_of, byte_of, failmode_words, operation_words, fault_words, kind_words, sum_words, read_classes, write_classes, flag_words}

-- the next step, if there is a value
infixl 10 ◌>>=◌
abbrev pub ◌>>=◌ : {X Y : Type 0} → Option X → (X → Option Y) → Option Y
None >>= f = None
Some x >>= f = f x

-- ---- shapes

-- `data HEX`, `fill HH LEN` and `seq SEED LEN`
pub data BodyShape : Type 0 where
  HexShape : Word → BodyShape
  FillShape : Word → Word → BodyShape
  SeqShape : Word → Word → BodyShape

-- what a request's line says behind N and before `under`
pub data WorkShape : Type 0 where
  NullShape : WorkShape
  ReadShape : Word → Prio → WorkShape
  WriteShape : Word → SumKind → Word → Prio → BodyShape → WorkShape
  FreeShape : Word → WorkShape
  ClaimShape : Word → Word → WorkShape

-- `[under P] [must|canfail]`
pub record Tail : Type 0 where
  pub under : Option Word
  pub flag : Option Bool

-- LEAF, `read|write|any`, AT, LEN, FROM, UNTIL, `eio|gone|flip` and `[first]`
pub record RowShape : Type 0 where
  pub leaf : Word
  pub on : On
  pub at : Word
  pub len : Word
  pub from : Word
  pub until : Word
  pub kind : FaultKind
  pub first : Bool

-- `LEAF [LEAF [LEAF [LEAF]]] [sector S]`
pub record TopWords : Type 0 where
  pub leaves : List Word
  pub sector : Option Word

-- what a line is by its words: each word in capitals is any word
pub data Shape : Type 0 where
  FailmodeShape : Failmode → Shape
  TopShape : TopWords → Shape
  FaultShape : RowShape → Shape
  RequestShape : Word → WorkShape → Tail → Shape
  GoShape : Shape
  ClearShape : Shape

-- ---- shapes of requests

-- `must` or `canfail`, behind what `under` says
abbrev pub flag_tail : Option Word → Word → Option Tail
flag_tail under word = option_map (λ flag. record { under = under; flag = Some flag }) (value_in flag_words word)

-- a tail whose first word is `under`
abbrev pub under_tail : Bool → Option Tail → Option Tail
under_tail true tail = tail
under_tail false tail = None

-- `[under P] [must|canfail]`
abbrev pub tail_of : List Word → Option Tail
tail_of [] = Some (record { under = None; flag = None })
tail_of (flag ∷ []) = flag_tail None flag
tail_of (word ∷ p ∷ []) = under_tail (is_word (codes "under") word) (Some (record { under = Some p; flag = None }))
tail_of (word ∷ p ∷ flag ∷ []) = under_tail (is_word (codes "under") word) (flag_tail (Some p) flag)
tail_of (word ∷ p ∷ flag ∷ next ∷ words) = None

-- a body's shape, and the words behind it
pub record BodyFound : Type 0 where
  pub body : BodyShape
  pub rest : List Word

-- HEX
abbrev pub hex_body : List Word → Option BodyFound
hex_body [] = None
hex_body (hex ∷ rest) = Some (record { body = HexShape hex; rest = rest })

-- HH LEN
abbrev pub fill_body : List Word → Option BodyFound
fill_body (hh ∷ len ∷ rest) = Some (record { body = FillShape hh len; rest = rest })
fill_body _ = None

-- SEED LEN
abbrev pub seq_body : List Word → Option BodyFound
seq_body (seed ∷ len ∷ rest) = Some (record { body = SeqShape seed len; rest = rest })
seq_body _ = None

-- the forms of a body by their first words
abbrev pub body_words : List (Entry (List Word → Option BodyFound))
body_words =
    record { word = codes "data"; value = hex_body }
    ∷ record { word = codes "fill"; value = fill_body }
    ∷ record { word = codes "seq"; value = seq_body } ∷ []

-- BODY at the front of these words
abbrev pub body_found : List Word → Option BodyFound
body_found [] = None
body_found (word ∷ words) = value_in body_words word >>= λ form. form words

-- The shape of a request from N, its kind, and the words behind: none, `NAME CLASS`, `NAME SUM COPIES CLASS BODY`, `NAME`
-- or `NAME HEX`, and all but a claim may have a tail.
abbrev pub kind_shape : Word → Kind → List Word → Option Shape
kind_shape n NullKind words = do
  tail ← tail_of words
  Some (RequestShape n NullShape tail)
kind_shape n ReadKind (name ∷ class ∷ words) = do
  prio ← value_in read_classes class
  tail ← tail_of words
  Some (RequestShape n (ReadShape name prio) tail)
kind_shape n WriteKind (name ∷ sum ∷ copies ∷ class ∷ words) = do
  kind ← value_in sum_words sum
  prio ← value_in write_classes class
  found ← body_found words
  tail ← tail_of found.rest
  Some (RequestShape n (WriteShape name kind copies prio found.body) tail)
kind_shape n FreeKind (name ∷ words) = do
  tail ← tail_of words
  Some (RequestShape n (FreeShape name) tail)
kind_shape n ClaimKind (name ∷ hex ∷ []) =
    Some (RequestShape n (ClaimShape name hex) (record { under = None; flag = None }))
kind_shape n _ _ = None

-- N and the word of a kind stand in front
abbrev pub request_shape : List Word → Option Shape
request_shape (n ∷ word ∷ words) = value_in kind_words word >>= λ kind. kind_shape n kind words
request_shape _ = None

-- ---- shapes of the other lines, from the words behind the first

-- `wait|continue|panic`
abbrev pub failmode_shape : List Word → Option Shape
failmode_shape (mode ∷ []) = option_map FailmodeShape (value_in failmode_words mode)
failmode_shape _ = None

-- `sector S`, and nothing more
abbrev pub sector_end : List Word → Option Word
sector_end (word ∷ s ∷ []) = then_some (is_word (codes "sector") word) s
sector_end _ = None

-- a leaf before `sector S`, or before these others
abbrev pub with_leaf : Word → Option Word → TopWords → TopWords
with_leaf leaf (Some s) others = record { leaves = leaf ∷ []; sector = Some s }
with_leaf leaf None others = record { leaves = leaf ∷ others.leaves; sector = others.sector }

-- the words of a `top`: where `sector` stands before the last of them, behind a leaf, it is no leaf
abbrev pub top_words : List Word → TopWords
top_words [] = record { leaves = []; sector = None }
top_words (leaf ∷ words) = with_leaf leaf (sector_end words) (top_words words)

-- there are one to four leaves
abbrev pub has_leaves : TopWords → Bool
has_leaves top = nat_le 1 (length top.leaves) && nat_le (length top.leaves) TOP_LEAVES_MAX

-- `LEAF [LEAF [LEAF [LEAF]]] [sector S]`
abbrev pub top_shape : List Word → Option Shape
top_shape words = then_some (has_leaves (top_words words)) (TopShape (top_words words))

-- `[first]`
abbrev pub first_of_end : List Word → Option Bool
first_of_end [] = Some false
first_of_end (word ∷ []) = cond (is_word (codes "first") word) (Some true) None
first_of_end (word ∷ next ∷ words) = None

-- `LEAF read|write|any AT LEN FROM UNTIL eio|gone|flip [first]`
abbrev pub fault_shape : List Word → Option Shape
fault_shape (leaf ∷ operation ∷ at ∷ len ∷ from ∷ until ∷ fault ∷ end) = do
  on ← value_in operation_words operation
  kind ← value_in fault_words fault
  first ← first_of_end end
  Some (FaultShape (record {
    leaf = leaf;
    on = on;
    at = at;
    len = len;
    from = from;
    until = until;
    kind = kind;
    first = first;
  }))
fault_shape _ = None

-- nothing more
abbrev pub go_shape : List Word → Option Shape
go_shape [] = Some GoShape
go_shape (word ∷ words) = None

-- nothing more
abbrev pub clear_shape : List Word → Option Shape
clear_shape [] = Some ClearShape
clear_shape (word ∷ words) = None

-- the forms of a line by their first words
abbrev pub first_words : List (Entry (List Word → Option Shape))
first_words =
    record { word = codes "failmode"; value = failmode_shape }
    ∷ record { word = codes "top"; value = top_shape }
    ∷ record { word = codes "fault"; value = fault_shape }
    ∷ record { word = codes "go"; value = go_shape }
    ∷ record { word = codes "clear"; value = clear_shape } ∷ []

-- the shape by the first word
abbrev pub named_shape : List Word → Option Shape
named_shape [] = None
named_shape (word ∷ words) = value_in first_words word >>= λ form. form words

-- The shape of a line, if it has one. Where a line has two shapes the other is a request whose N is no number, and a word
-- of the first isn't one either.
abbrev pub shape_of : List Word → Option Shape
shape_of words = option_or (named_shape words) (request_shape words)

-- ---- numbers and hexadecimal words

-- what a request's line says, once its words are read
pub record NewRequest : Type 0 where
  pub number : ℕ
  pub work : Work
  pub under : Option ℕ
  pub flag : Option Bool

-- a line whose numbers and hexadecimal words are read; of a top its leaves and S
pub data ScriptLine : Type 0 where
  FailmodeLine : Failmode → ScriptLine
  LeavesLine : List ℕ → ℕ → ScriptLine
  FaultLine : Row → ScriptLine
  RequestLine : NewRequest → ScriptLine
  GoLine : ScriptLine
  ClearLine : ScriptLine

-- all words are numbers
abbrev pub numbers : List Word → Option (List ℕ)
numbers [] = Some []
numbers (word ∷ words) = do
  n ← number word
  ns ← numbers words
  Some (n ∷ ns)

-- S is a number; without it a top has sectors of 512 bytes
abbrev pub sector_number : Option Word → Option ℕ
sector_number None = Some sector_size
sector_number (Some s) = number s

-- each LEAF is a number, and so is S
abbrev pub top_of : TopWords → Option ScriptLine
top_of top = do
  leaves ← numbers top.leaves
  sector ← sector_number top.sector
  Some (LeavesLine leaves sector)

-- LEAF, AT, LEN, FROM and UNTIL are numbers
abbrev pub row_of : RowShape → Option Row
row_of shape = do
  leaf ← number shape.leaf
  at ← number shape.at
  len ← number shape.len
  from ← number shape.from
  until ← number shape.until
  Some (record {
    leaf = leaf;
    on = shape.on;
    at = at;
    len = len;
    from = from;
    until = until;
    kind = shape.kind;
    first = shape.first;
  })

-- HEX is bytes, HH is a byte, LEN and SEED are numbers
abbrev pub body_of_shape : BodyShape → Option Body
body_of_shape (HexShape hex) = option_map Hex (bytes_of hex)
body_of_shape (FillShape hh len) = do
  byte ← byte_of hh
  n ← number len
  Some (Fill byte n)
body_of_shape (SeqShape seed len) = do
  state ← number seed
  n ← number len
  Some (Seq state n)

-- COPIES is a number, and a claim's HEX is bytes
abbrev pub work_of : WorkShape → Option Work
work_of NullShape = Some Null
work_of (ReadShape name prio) = Some (Read name prio)
work_of (WriteShape name sum copies prio body) = do
  n ← number copies
  content ← body_of_shape body
  Some (Write name sum n prio content)
work_of (FreeShape name) = Some (Free name)
work_of (ClaimShape name hex) = option_map (λ pointer. Claim name pointer) (bytes_of hex)

-- P is a number, where there is one
abbrev pub parent_number : Option Word → Option (Option ℕ)
parent_number None = Some None
parent_number (Some p) = option_map (λ n. Some n) (number p)

-- N is a number, and so are the others
abbrev pub new_request_of : Word → WorkShape → Tail → Option NewRequest
new_request_of n shape tail = do
  own ← number n
  work ← work_of shape
  under ← parent_number tail.under
  Some (record { number = own; work = work; under = under; flag = tail.flag })

-- The line that a shape is, if each word in a number's place is a number, each HEX has digits alone and in pairs, and each
-- HH is two digits.
abbrev pub line_of : Shape → Option ScriptLine
line_of (FailmodeShape mode) = Some (FailmodeLine mode)
line_of (TopShape top) = top_of top
line_of (FaultShape shape) = option_map FaultLine (row_of shape)
line_of (RequestShape n shape tail) = option_map RequestLine (new_request_of n shape tail)
line_of GoShape = Some GoLine
line_of ClearShape = Some ClearLine
