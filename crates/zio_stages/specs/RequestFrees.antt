-- A free in an attempt: which stage it may be in.
use Rattle.std.specs.Prelude.{◌≡◌, ℕ, ◌≤◌, length, Option, Some, None}
use Rattle.zio_types.specs.declared.error.Errno.{Errno}
use Rattle.zio_script.specs.declared.script.Work.{Work}
use Rattle.zio_script.specs.declared.script.Work.TheVariants.{Null as NullWork, Read as ReadWork, Write as WriteWork, Free as FreeWork, Claim as ClaimWork}
use Rattle.zio_gang.specs.declared.tree.Tree.{Tree}
use Rattle.zio_stages.specs.StoredBlocks.{block_places}
use Rattle.zio_stages.specs.declared.own_free.FreeWalk.{FreeWalk}
use Rattle.zio_stages.specs.declared.own_free.FreeWalk.TheVariants.{Due as WalkDue, Out as WalkOut, Ended as WalkEnded}
use Rattle.zio_stages.specs.declared.own_free.OwnFree.{OwnFree}
use Rattle.zio_stages.specs.declared.request_node.Own.{Own}
use Rattle.zio_stages.specs.declared.request_node.Own.TheVariants.{Claim, Due, Found, Free, Over, Read, Stored, Write}

abbrev pub IsFreeWork : Work → Type 0
IsFreeWork NullWork = ⊥
IsFreeWork (ReadWork name prio) = ⊥
IsFreeWork (WriteWork name sum copies prio body) = ⊥
IsFreeWork (FreeWork name) = Unit {0}
IsFreeWork (ClaimWork name pointer) = ⊥

-- its block is freed, and this holds of that; or it came to its end
abbrev pub IsFreeWith : (OwnFree → Type 0) → Own → Type 0
IsFreeWith P Due = ⊥
IsFreeWith P (Write w) = ⊥
IsFreeWith P (Stored b) = ⊥
IsFreeWith P (Read w) = ⊥
IsFreeWith P (Free w) = P w
IsFreeWith P (Claim w) = ⊥
IsFreeWith P (Found own) = Unit {0}
IsFreeWith P Over = ⊥

-- its block is freed, and this holds of that
abbrev pub IsFreeingWith : (OwnFree → Type 0) → Own → Type 0
IsFreeingWith P Due = ⊥
IsFreeingWith P (Write w) = ⊥
IsFreeingWith P (Stored b) = ⊥
IsFreeingWith P (Read w) = ⊥
IsFreeingWith P (Free w) = P w
IsFreeingWith P (Claim w) = ⊥
IsFreeingWith P (Found own) = ⊥
IsFreeingWith P Over = ⊥

-- its walk is as far as before; whatever else its own work is stays as it is
abbrev pub FreesOn : Own → Own → Type 0
FreesOn (Free v) (Free w) = w.walk ≡ v.walk
FreesOn (Free v) _ = ⊥
FreesOn own now = now ≡ own

-- how many places of its block went back
abbrev pub freed_by : Own → ℕ
freed_by Due = 0
freed_by (Write w) = 0
freed_by (Stored b) = 0
freed_by (Read w) = 0
freed_by (Free w) = w.given
freed_by (Claim w) = 0
freed_by (Found own) = 0
freed_by Over = 0

-- no more of them than it has
abbrev pub IsFreeing : Option Tree → OwnFree → Type 0
IsFreeing block w = w.given ≤ length (block_places block)

-- the walk over its headers is no longer due
abbrev pub HasBegun : FreeWalk → Type 0
HasBegun WalkDue = ⊥
HasBegun WalkOut = Unit {0}
HasBegun (WalkEnded e) = Unit {0}

-- it ended
abbrev pub HasWalked : OwnFree → Type 0
HasWalked w = (e : Option Errno) × (w.walk ≡ WalkEnded e)

-- where one failed none of them did
abbrev pub HasKeptFailed : OwnFree → Type 0
HasKeptFailed w = (e : Errno) → w.walk ≡ WalkEnded (Some e) → w.given ≡ 0

-- where no header failed all its places went back
abbrev pub HasFreed : Option Tree → OwnFree → Type 0
HasFreed block w = (e : Option Errno) × (w.walk ≡ WalkEnded e) × (e ≡ None → w.given ≡ length (block_places block))
