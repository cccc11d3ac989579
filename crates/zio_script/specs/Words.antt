-- The lines of a text, the words of a line, and what words spell: docs/FORMATS.md, "Script" and "Words of a line".
use Rattle.std.specs.Prelude.{ℕ, ◌^◌, List, [], ◌∷◌, length, filter, Bool, true, false, cond, not, ◌&&◌, ◌||◌, ◌==◌, nat_lt, nat_le, Option, Some, None, option_and_then, bytes_eq, codes}
use Rattle.std.specs.Bool.{then_some}
use Rattle.std.specs.Char.{is_digit}
use Rattle.std.specs.List.{list_all, slice_split}
use Rattle.std.specs.Result.{result_ok}
use Rattle.std.specs.Str.Parse.{digits_value}
use Rattle.hex.specs.Hex.{decode_of}
use Rattle.zio_types.specs.declared.request.Prio.{Prio}
use Rattle.zio_types.specs.declared.request.Prio.TheVariants.{SyncRead, SyncWrite, AsyncRead, AsyncWrite, Scrub}
use Rattle.zio_types.specs.declared.request.Kind.{Kind}
use Rattle.zio_types.specs.declared.request.Kind.TheVariants.{Null, Read, Write, Free, Claim}
use Rattle.zio_blkptr.specs.declared.pointer.SumKind.{SumKind}
use Rattle.zio_blkptr.specs.declared.pointer.SumKind.TheVariants.{Off, Fletcher4, Sha256}
use Rattle.zio_faults.specs.declared.table.FaultKind.{FaultKind}
use Rattle.zio_faults.specs.declared.table.FaultKind.TheVariants.{Eio, Gone, Flip}
use Rattle.zio_faults.specs.declared.table.On.{On}
use Rattle.zio_faults.specs.declared.table.On.TheVariants.{Read as OnRead, Write as OnWrite, Any}
use Rattle.zio_script.specs.declared.name.TheConstants.{NAME_LEN_MAX}
use Rattle.zio_script.specs.declared.script.Failmode.{Failmode}
use Rattle.zio_script.specs.declared.script.Failmode.TheVariants.{Wait, Continue, Panic}

-- a line or a word, by its bytes
abbrev pub Word : Type 0
Word = List ℕ

-- a list without elements
abbrev pub is_empty : {X : Type 0} → List X → Bool
is_empty [] = true
is_empty (x ∷ xs) = false

-- ---- lines and words

-- nothing after the last newline is no line
abbrev pub without_empty_end : List Word → List Word
without_empty_end [] = []
without_empty_end ([] ∷ []) = []
without_empty_end (line ∷ lines) = line ∷ without_empty_end lines

-- a newline ends each line, and the last may be without one
abbrev pub lines_of : List ℕ → List Word
lines_of text = without_empty_end (slice_split (λ c. c == 10) text)

-- a blank, a tab or a carriage return
abbrev pub is_blank : ℕ → Bool
is_blank c = c == 32 || c == 9 || c == 13

-- any number of them parts the words
abbrev pub words_of : List ℕ → List Word
words_of line = filter (λ part. not (is_empty part)) (slice_split is_blank line)

-- the word begins with `#`
abbrev pub is_comment : Word → Bool
is_comment [] = false
is_comment (c ∷ cs) = c == 35

-- a line without words, or whose first word begins with `#`
abbrev pub is_skipped : List Word → Bool
is_skipped [] = true
is_skipped (word ∷ words) = is_comment word

-- ---- numbers

-- a zero with more behind it
abbrev pub has_leading_zero : Word → Bool
has_leading_zero [] = false
has_leading_zero (c ∷ cs) = c == 48 && not (is_empty cs)

-- decimal digits, without a leading zero
abbrev pub is_numeral : Word → Bool
is_numeral word = not (is_empty word) && list_all (λ c. is_digit c 10) word && not (has_leading_zero word)

-- the number that a word spells, which is below 2 ^ 64
abbrev pub number : Word → Option ℕ
number word = then_some (is_numeral word && nat_lt (digits_value 10 word) (2 ^ 64)) (digits_value 10 word)

-- ---- hexadecimal digits

-- the bytes that a word spells, two digits of either case each
abbrev pub bytes_of : Word → Option (List ℕ)
bytes_of word = result_ok (decode_of word)

-- the only byte of a list
abbrev pub single : List ℕ → Option ℕ
single [] = None
single (byte ∷ []) = Some byte
single (byte ∷ next ∷ bytes) = None

-- the byte that exactly two digits spell
abbrev pub byte_of : Word → Option ℕ
byte_of word = option_and_then single (bytes_of word)

-- ---- names

-- a to z, 0 to 9 or `_`
abbrev pub is_name_char : ℕ → Bool
is_name_char c = nat_le 97 c && nat_le c 122 || nat_le 48 c && nat_le c 57 || c == 95

-- 1 to 16 of these
abbrev pub is_name : Word → Bool
is_name word = nat_le 1 (length word) && nat_le (length word) NAME_LEN_MAX && list_all is_name_char word

-- ---- fixed words

-- the two words are equal
abbrev pub is_word : Word → Word → Bool
is_word = bytes_eq

-- a fixed word, and what it stands for
pub record Entry (X : Type 0) : Type 0 where
  pub word : Word
  pub value : X

-- what the word stands for, if it is one of these
abbrev pub value_in : {X : Type 0} → List (Entry X) → Word → Option X
value_in [] word = None
value_in (entry ∷ entries) word = cond (is_word entry.word word) (Some entry.value) (value_in entries word)

-- the words of `failmode`
abbrev pub failmode_words : List (Entry Failmode)
failmode_words =
    record { word = codes "wait"; value = Wait }
    ∷ record { word = codes "continue"; value = Continue }
    ∷ record { word = codes "panic"; value = Panic } ∷ []

-- which operations a `fault` is for
abbrev pub operation_words : List (Entry On)
operation_words =
    record { word = codes "read"; value = OnRead }
    ∷ record { word = codes "write"; value = OnWrite }
    ∷ record { word = codes "any"; value = Any } ∷ []

-- what a `fault` does
abbrev pub fault_words : List (Entry FaultKind)
fault_words =
    record { word = codes "eio"; value = Eio }
    ∷ record { word = codes "gone"; value = Gone }
    ∷ record { word = codes "flip"; value = Flip } ∷ []

-- the kinds of requests
abbrev pub kind_words : List (Entry Kind)
kind_words =
    record { word = codes "null"; value = Null }
    ∷ record { word = codes "read"; value = Read }
    ∷ record { word = codes "write"; value = Write }
    ∷ record { word = codes "free"; value = Free }
    ∷ record { word = codes "claim"; value = Claim } ∷ []

-- the checksums of a write
abbrev pub sum_words : List (Entry SumKind)
sum_words =
    record { word = codes "off"; value = Off }
    ∷ record { word = codes "fletcher4"; value = Fletcher4 }
    ∷ record { word = codes "sha256"; value = Sha256 } ∷ []

-- the classes of a read
abbrev pub read_classes : List (Entry Prio)
read_classes =
    record { word = codes "sync"; value = SyncRead }
    ∷ record { word = codes "async"; value = AsyncRead }
    ∷ record { word = codes "scrub"; value = Scrub } ∷ []

-- the classes of a write
abbrev pub write_classes : List (Entry Prio)
write_classes =
    record { word = codes "sync"; value = SyncWrite }
    ∷ record { word = codes "async"; value = AsyncWrite } ∷ []

-- whether the request may fail
abbrev pub flag_words : List (Entry Bool)
flag_words =
    record { word = codes "must"; value = false }
    ∷ record { word = codes "canfail"; value = true } ∷ []
