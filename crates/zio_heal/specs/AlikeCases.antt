-- Contents and replies that are alike, and such that aren't.
use Rattle.std.specs.Prelude.{List, [], ◌∷◌, ◌++◌, codes, replicate, Some, None}
use Rattle.zio_types.specs.declared.error.Errno.{Errno}
use Rattle.zio_types.specs.declared.error.Errno.TheVariants.{Io, Noent}
use Rattle.zio_gang.specs.Attempts.{Ended}
use Rattle.zio_script.specs.declared.script.Body.TheVariants.{Hex}
use Rattle.zio_script.specs.declared.script.Request.{Request}
use Rattle.zio_trace.specs.RoundExamples.{block_of_x}
use Rattle.zio_heal.specs.Alike.{IsAlikeTo, IsAnsweredAlike}
use Rattle.zio_heal.specs.PlainStore.{Content, content_in}
use Rattle.zio_heal.specs.StoreCases.{asked, asked_under, failed, gave, letters, reads, writes}

-- ---- contents

-- a write with one write child, and what it stores beside a pointer of sevens
abbrev pub parent_batch : List Request
parent_batch =
    asked 1 (writes (codes "p") (Hex (codes "pp"))) ∷ asked_under 1 2 (writes (codes "c") (Hex (codes "cc"))) ∷ []

abbrev pub parent_content : Content
parent_content = content_in parent_batch (asked 1 (writes (codes "p") (Hex (codes "pp")))) (Hex (codes "pp"))

abbrev pub child_content : Content
child_content = content_in parent_batch (asked_under 1 2 (writes (codes "c") (Hex (codes "cc")))) (Hex (codes "cc"))

-- the children's pointers tell places, which aren't compared
abbrev pub PointersMayDiffer : Type 0
PointersMayDiffer = IsAlikeTo parent_content (replicate 128 7 ++ codes "pp" ++ replicate 382 0)

-- the bytes behind them are, from the first on
abbrev pub NoByteMore : Type 0
NoByteMore = IsAlikeTo parent_content (replicate 129 7 ++ codes "p" ++ replicate 382 0) → ⊥

-- as they would not be with 128 bytes more
abbrev pub NextPointerCounts : Type 0
NextPointerCounts = IsAlikeTo parent_content (replicate 256 7 ++ replicate 256 0) → ⊥

-- without children every byte is compared
abbrev pub EveryByteCounts : Type 0
EveryByteCounts = IsAlikeTo child_content (7 ∷ codes "c" ++ replicate 510 0) → ⊥

abbrev pub EqualIsAlike : Type 0
EqualIsAlike = IsAlikeTo child_content (letters (codes "cc"))

-- zeros behind the end count too
abbrev pub LengthCounts : Type 0
LengthCounts = IsAlikeTo child_content (letters (codes "cc") ++ replicate 512 0) → ⊥

-- ---- replies

-- a write that made a block of 512 bytes, a read that got two letters, and a read that failed
abbrev pub write_ended : Ended
write_ended = record {
  request = asked 1 (writes (codes "x") (Hex (codes "ab")));
  error = None;
  bytes = [];
  tree = Some block_of_x;
}

abbrev pub read_ended : Ended
read_ended = record { request = asked 2 (reads (codes "x")); error = None; bytes = letters (codes "ab"); tree = None }

abbrev pub read_failed : Errno → Ended
read_failed e = record { request = asked 2 (reads (codes "x")); error = Some e; bytes = []; tree = None }

abbrev pub SizeOfAWrite : Type 0
SizeOfAWrite = IsAnsweredAlike (gave 1 0 (letters (codes "ab"))) write_ended

abbrev pub OtherSize : Type 0
OtherSize = IsAnsweredAlike (gave 1 0 (replicate 1024 0)) write_ended → ⊥

abbrev pub BytesOfARead : Type 0
BytesOfARead = IsAnsweredAlike (gave 2 0 (letters (codes "ab"))) read_ended

abbrev pub OtherBytes : Type 0
OtherBytes = IsAnsweredAlike (gave 2 0 (letters (codes "ac"))) read_ended → ⊥

abbrev pub SameError : Type 0
SameError = IsAnsweredAlike (failed 2 Noent) (read_failed Noent)

abbrev pub OtherError : Type 0
OtherError = IsAnsweredAlike (failed 2 Noent) (read_failed Io) → ⊥

abbrev pub ErrorForBytes : Type 0
ErrorForBytes = IsAnsweredAlike (gave 2 0 (letters (codes "ab"))) (read_failed Io) → ⊥

abbrev pub BytesForError : Type 0
BytesForError = IsAnsweredAlike (failed 2 Noent) read_ended → ⊥

abbrev pub OtherNumber : Type 0
OtherNumber = IsAnsweredAlike (gave 3 0 (letters (codes "ab"))) read_ended → ⊥
