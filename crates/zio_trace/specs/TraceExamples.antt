-- Two small runs on one leaf, without a checksum, and their traces: a block is written and then read, and a write fails
-- and is tried again.
use Rattle.std.specs.Prelude.{ℕ, List, [], ◌∷◌, codes, replicate, true, false, Some, None, Ok, Err}
use Rattle.zio_types.specs.declared.error.Errno.TheVariants.{Io}
use Rattle.zio_types.specs.declared.journal.Role.TheVariants.{Body}
use Rattle.zio_types.specs.declared.place.Place.{Place}
use Rattle.zio_types.specs.declared.request.Prio.TheVariants.{SyncRead, SyncWrite}
use Rattle.zio_types.specs.Choices.{Ask, Choice, no_place}
use Rattle.zio_blkptr.specs.declared.pointer.Bp.{Bp}
use Rattle.zio_blkptr.specs.declared.pointer.SumKind.TheVariants.{Off}
use Rattle.zio_faults.specs.declared.table.FaultKind.TheVariants.{Eio}
use Rattle.zio_faults.specs.declared.table.On.TheVariants.{Write as OnWrite}
use Rattle.zio_faults.specs.declared.table.Row.{Row}
use Rattle.zio_script.specs.declared.script.Body.TheVariants.{Fill}
use Rattle.zio_script.specs.declared.script.Failmode.TheVariants.{Wait}
use Rattle.zio_script.specs.declared.script.Item.TheVariants.{Request as RequestLine, Go}
use Rattle.zio_script.specs.declared.script.Script.{Script}
use Rattle.zio_script.specs.declared.script.Work.{Work}
use Rattle.zio_script.specs.declared.script.Work.TheVariants.{Read, Write}
use Rattle.zio_script.specs.declared.script.Item.{Item}
use Rattle.zio_cksum.specs.Images.{Images, Spot}
use Rattle.zio_cksum.specs.Sums.{sum_of}
use Rattle.zio_trace.specs.Leaves.{Fetch, Store}
use Rattle.zio_trace.specs.RoundTraces.{Trace}
use Rattle.zio_trace.specs.Tasks.{BodyOf, Find, Found, Got, Leaf, ReadCopies, WriteCopies, Wrote}

abbrev pub asks_for : ℕ → Work → Item
asks_for number work = RequestLine (record { number = number; work = work; under = None; canfail = false })

abbrev pub written_and_read : Script
written_and_read = record {
  failmode = Wait;
  tops = record { leaves = 0 ∷ []; unit = 1 } ∷ [];
  faults = [];
  items =
      asks_for 1 (Write (codes "x") Off 1 SyncWrite (Fill 65 512)) ∷ Go ∷ asks_for 2 (Read (codes "x") SyncRead) ∷ Go ∷ [];
}

-- a leaf of two sectors
abbrev pub two_sectors : Images
two_sectors = replicate 1024 0 ∷ []

-- the write finds the second
abbrev pub ask_of_x : Ask
ask_of_x = record {
  key = record { request = 1; round = 1; attempt = 0; path = []; role = Body };
  size = 512;
  copies = 1;
}

abbrev pub place_of_x : Place
place_of_x = record { top = 0; sector = 1; sectors = 1 }

abbrev pub finds_x : List Choice
finds_x = record { asked = ask_of_x; places = place_of_x ∷ [] } ∷ []

abbrev pub copy_of_x : Spot
copy_of_x = record { leaf = 0; at = 512; span = 512 }

-- the first round asks for a place and writes there, and the second reads it
abbrev pub trace_of_x : List Trace
trace_of_x =
    (record { op = Find ask_of_x; answer = Found (Some (place_of_x ∷ [])) }
    ∷ record { op = Leaf (Store false (replicate 512 65) copy_of_x); answer = Got (Ok []) } ∷ [])
    ∷ (record { op = Leaf (Fetch false 512 copy_of_x); answer = Got (Ok (replicate 512 65)) } ∷ [])
    ∷ []

-- the same at the reads and writes of pieces: the read has the test of the block and the bytes that were taken
abbrev pub pointer_of_x : Bp
pointer_of_x = record {
  count = 1;
  places = place_of_x ∷ no_place ∷ no_place ∷ [];
  gang = false;
  size = 512;
  sum = Off;
  birth = 1;
  words = sum_of Off [];
}

abbrev pub pieces_of_x : List Trace
pieces_of_x =
    (record { op = Find ask_of_x; answer = Found (Some (place_of_x ∷ [])) }
    ∷ record { op = WriteCopies (replicate 512 65) (place_of_x ∷ []); answer = Wrote None } ∷ [])
    ∷ (record { op = ReadCopies true (BodyOf pointer_of_x) 512 (place_of_x ∷ []); answer = Got (Ok (replicate 512 65)) } ∷ [])
    ∷ []

-- ---- a write that fails

-- the second sector takes no writes
abbrev pub bad_sector : Row
bad_sector = record { leaf = 0; on = OnWrite; at = 512; len = 512; from = 0; until = 9; kind = Eio; first = false }

abbrev pub written_again : Script
written_again = record {
  failmode = Wait;
  tops = record { leaves = 0 ∷ []; unit = 1 } ∷ [];
  faults = bad_sector ∷ [];
  items = asks_for 1 (Write (codes "x") Off 1 SyncWrite (Fill 65 512)) ∷ Go ∷ [];
}

-- the first attempt finds the second sector, the next one the first
abbrev pub next_ask : Ask
next_ask = record ask_of_x { key = record ask_of_x.key { attempt = 1 } }

abbrev pub next_place : Place
next_place = record { top = 0; sector = 0; sectors = 1 }

abbrev pub finds_again : List Choice
finds_again =
    record { asked = ask_of_x; places = place_of_x ∷ [] } ∷ record { asked = next_ask; places = next_place ∷ [] } ∷ []

-- the write fails in both passes of the first attempt, and is done in the second attempt
abbrev pub trace_of_both : List Trace
trace_of_both =
    (record { op = Find ask_of_x; answer = Found (Some (place_of_x ∷ [])) }
    ∷ record { op = Leaf (Store false (replicate 512 65) copy_of_x); answer = Got (Err Io) }
    ∷ record { op = Leaf (Store true (replicate 512 65) copy_of_x); answer = Got (Err Io) }
    ∷ record { op = Find next_ask; answer = Found (Some (next_place ∷ [])) }
    ∷ record { op = Leaf (Store false (replicate 512 65) (record { leaf = 0; at = 0; span = 512 })); answer = Got (Ok []) } ∷ [])
    ∷ []
