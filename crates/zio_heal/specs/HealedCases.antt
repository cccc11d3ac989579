-- Scripts that heal, and scripts that nearly do.
use Rattle.std.specs.Prelude.{ℕ, List, [], ◌∷◌, ◌++◌, codes, replicate, true, false, None}
use Rattle.zio_types.specs.declared.request.Prio.TheVariants.{SyncRead, SyncWrite}
use Rattle.zio_blkptr.specs.declared.pointer.SumKind.{SumKind}
use Rattle.zio_blkptr.specs.declared.pointer.SumKind.TheVariants.{Off, Fletcher4, Sha256}
use Rattle.zio_faults.specs.declared.table.FaultKind.{FaultKind}
use Rattle.zio_faults.specs.declared.table.FaultKind.TheVariants.{Eio, Gone, Flip}
use Rattle.zio_faults.specs.declared.table.On.{On}
use Rattle.zio_faults.specs.declared.table.On.TheVariants.{Read as OnRead, Write as OnWrite, Any as OnAny}
use Rattle.zio_faults.specs.declared.table.Row.{Row}
use Rattle.zio_script.specs.declared.script.Body.TheVariants.{Fill}
use Rattle.zio_script.specs.declared.script.Failmode.TheVariants.{Wait, Continue, Panic}
use Rattle.zio_script.specs.declared.script.Item.{Item}
use Rattle.zio_script.specs.declared.script.Item.TheVariants.{Request as RequestLine, Go, Clear}
use Rattle.zio_script.specs.declared.script.Script.{Script}
use Rattle.zio_script.specs.declared.script.Work.TheVariants.{Read, Write, Claim}
use Rattle.zio_trace.specs.TraceExamples.{asks_for}
use Rattle.zio_heal.specs.Healed.{IsHealed}

-- a write of x with this sum
abbrev pub writes_x : SumKind → Item
writes_x sum = asks_for 1 (Write (codes "x") sum 1 SyncWrite (Fill 65 512))

abbrev pub reads_x : Item
reads_x = asks_for 2 (Read (codes "x") SyncRead)

-- a row over a sector of leaf 0, which is met up to this resume point
abbrev pub faulty : On → FaultKind → ℕ → Row
faulty on kind until = record {
  leaf = 0;
  on = on;
  at = 0;
  len = 512;
  from = 0;
  until = until;
  kind = kind;
  first = false;
}

abbrev pub over_one_leaf : List Row → List Item → Script
over_one_leaf rows items = record {
  failmode = Wait;
  tops = record { leaves = 0 ∷ []; unit = 1 } ∷ [];
  faults = rows;
  items = items;
}

-- a write that a fault keeps from its leaf, a read of its block, and a clear
abbrev pub items_of : SumKind → List Item
items_of sum = writes_x sum ∷ Go ∷ reads_x ∷ Go ∷ Clear ∷ []

abbrev pub with_row : Row → Script
with_row row = over_one_leaf (row ∷ []) (items_of Sha256)

-- ---- scripts that heal

abbrev pub WriteHeals : Type 0
WriteHeals = IsHealed (with_row (faulty OnWrite Eio 1))

-- reads may get turned bytes for a while, and any operation may miss its device
abbrev pub ReadsMayBeTurned : Type 0
ReadsMayBeTurned = IsHealed (over_one_leaf (faulty OnRead Flip 1 ∷ faulty OnAny Gone 1 ∷ []) (items_of Fletcher4))

abbrev pub TwoClearsHeal : Type 0
TwoClearsHeal = IsHealed (over_one_leaf (faulty OnWrite Eio 2 ∷ []) (items_of Sha256 ++ Clear ∷ []))

-- where nothing is faulty no clear is needed
abbrev pub NoRowsHeal : Type 0
NoRowsHeal = IsHealed (over_one_leaf [] (writes_x Sha256 ∷ Go ∷ []))

-- ---- scripts that don't

-- bytes that are turned as they are stored stay so
abbrev pub TurnedWritesStay : Type 0
TurnedWritesStay = IsHealed (with_row (faulty OnWrite Flip 1)) → ⊥

abbrev pub TurnedByAnyStay : Type 0
TurnedByAnyStay = IsHealed (with_row (faulty OnAny Flip 1)) → ⊥

abbrev pub OneClearTooFew : Type 0
OneClearTooFew = IsHealed (with_row (faulty OnWrite Eio 2)) → ⊥

-- a batch behind the last clear may be suspended
abbrev pub ClearIsNotLast : Type 0
ClearIsNotLast =
    IsHealed (over_one_leaf (faulty OnWrite Eio 1 ∷ []) (writes_x Sha256 ∷ Go ∷ Clear ∷ reads_x ∷ Go ∷ [])) → ⊥

abbrev pub NoClearAtAll : Type 0
NoClearAtAll = IsHealed (over_one_leaf (faulty OnWrite Eio 0 ∷ []) (writes_x Sha256 ∷ Go ∷ [])) → ⊥

abbrev pub ClaimsMayFail : Type 0
ClaimsMayFail = IsHealed (over_one_leaf [] (asks_for 1 (Claim (codes "x") (replicate 128 0)) ∷ Go ∷ [])) → ⊥

-- a read that may fail, as a read that stands alone does without a flag
abbrev pub read_that_may_fail : Item
read_that_may_fail =
    RequestLine (record { number = 1; work = Read (codes "x") SyncRead; under = None; canfail = true })

abbrev pub ReadMayFail : Type 0
ReadMayFail = IsHealed (over_one_leaf [] (read_that_may_fail ∷ Go ∷ [])) → ⊥

abbrev pub NoSumNoDamage : Type 0
NoSumNoDamage = IsHealed (over_one_leaf [] (items_of Off)) → ⊥

abbrev pub OthersGoOn : Type 0
OthersGoOn = IsHealed (record (with_row (faulty OnWrite Eio 1)) { failmode = Continue }) → ⊥

abbrev pub PanicsEnd : Type 0
PanicsEnd = IsHealed (record (with_row (faulty OnWrite Eio 1)) { failmode = Panic }) → ⊥
