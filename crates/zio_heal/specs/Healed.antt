-- Which scripts heal: no request may fail, what is written is stored as told or not at all, and after the last clear no
-- fault row is met any more.
use Rattle.std.specs.Prelude.{◌≡◌, ◌⊎◌, ℕ, List, [], ◌∷◌, count_by, Bool, true, false, not, ◌&&◌, nat_le}
use Rattle.std.specs.List.{AllByRecursion, list_all}
use Rattle.zio_blkptr.specs.declared.pointer.SumKind.{SumKind}
use Rattle.zio_blkptr.specs.declared.pointer.SumKind.TheVariants.{Off, Fletcher4, Sha256}
use Rattle.zio_faults.specs.declared.table.Row.{Row}
use Rattle.zio_faults.specs.Hits.{is_for}
use Rattle.zio_script.specs.declared.script.Failmode.TheVariants.{Wait}
use Rattle.zio_script.specs.declared.script.Item.{Item}
use Rattle.zio_script.specs.declared.script.Request.{Request}
use Rattle.zio_script.specs.declared.script.Script.{Script}
use Rattle.zio_script.specs.declared.script.Work.{Work}
use Rattle.zio_script.specs.declared.script.Work.TheVariants.{Null, Read, Write, Free, Claim}
use Rattle.zio_script.specs.Requests.{kind_of, requests_of}
use Rattle.zio_script.specs.Whys.{is_claim, is_clear, is_flip}

-- ---- requests

-- a sum of this kind tells some damage
abbrev pub tells_damage : SumKind → Bool
tells_damage Off = false
tells_damage Fletcher4 = true
tells_damage Sha256 = true

-- what the work writes, if anything, has a sum
abbrev pub is_summed : Work → Bool
is_summed Null = true
is_summed (Read name prio) = true
is_summed (Write name sum copies prio body) = tells_damage sum
is_summed (Free name) = true
is_summed (Claim name pointer) = true

-- a request that may not fail and is no claim, and whose write has a sum
pub record IsHealedRequest (r : Request) : Type 0 where
  pub must : r.canfail ≡ false
  pub no_claim : is_claim (kind_of r.work) ≡ false
  pub summed : is_summed r.work ≡ true

-- ---- fault rows

-- a write that meets the row stores bytes that are turned
abbrev pub turns_stored : Row → Bool
turns_stored row = is_flip row.kind && is_for row.on true

-- the row turns nothing that is stored, and isn't met any more after so many clears
abbrev pub heals_after : ℕ → Row → Bool
heals_after clears row = not (turns_stored row) && nat_le row.until clears

-- ---- scripts

-- the last line is a clear
abbrev pub ends_with_clear : List Item → Bool
ends_with_clear [] = false
ends_with_clear (item ∷ []) = is_clear item
ends_with_clear (item ∷ next ∷ items) = ends_with_clear (next ∷ items)

-- A script that waits for what can't go on, whose requests are healed, and whose fault rows are past at its last line,
-- which is a clear.
-- Rule: healing faults.
pub record IsHealed (script : Script) : Type 0 where
  pub waits : script.failmode ≡ Wait
  pub requests : AllByRecursion IsHealedRequest (requests_of script.items)
  pub rows : list_all (heals_after (count_by is_clear script.items)) script.faults ≡ true
  pub last : (script.faults ≡ []) ⊎ (ends_with_clear script.items ≡ true)
