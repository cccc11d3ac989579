-- Own work behind other operations, of which one is so far now: the work is as far as before.
use Rattle.std.proofs.Common.{ℕ, ◌<◌, List, length, set, Option, refl, sym, length-set}
use Rattle.zio_blkptr.specs.declared.pointer.Bp.{Bp}
use Rattle.zio_gang.specs.declared.tree.Tree.{Tree}
use Rattle.zio_gang.specs.Attempts.{Terms}
use Rattle.zio_trace.specs.Tasks.{Task}
use Rattle.zio_frames.specs.Frames.{Child, OfOuter, Stack}
use Rattle.zio_frames.specs.Moves.{set_at, with_children}
use Rattle.zio_frames.specs.Slots.{Slot}
use Rattle.zio_stages.specs.OwnClaims.{IsOwnClaim}
use Rattle.zio_stages.specs.OwnFrees.{IsOwnFree}
use Rattle.zio_stages.specs.OwnReads.{IsOwnRead}
use Rattle.zio_stages.specs.PartsOut.{ArePartsOut}
use Rattle.zio_stages.specs.declared.own_claim.OwnClaim.{OwnClaim}
use Rattle.zio_stages.specs.declared.own_free.FreeWalk.{FreeWalk}
use Rattle.zio_stages.specs.declared.own_read.OwnRead.{OwnRead}
use Rattle.zio_stages.proofs.BehindLemmas.{behind_front}
use Rattle.zio_stages.proofs.RequestOwnLemmas.{body_still}

-- the node, where the operation there is so far now
abbrev now_at : Stack → ℕ → Slot → List Child → Stack
now_at st place slot more = with_children (set_at st (OfOuter place) slot) more

pub read_front : (t : Terms) (w : OwnRead) (family more : List Child) (tree : Tree) (front_asked : List Task) (front : List Slot) (st : Stack) (place : ℕ) (slot : Slot) → place < length front
    → ArePartsOut front_asked (set front place slot) → IsOwnRead t w family tree front_asked front st → IsOwnRead t w more tree front_asked (set front place slot) (now_at st place slot more)
read_front t w family more tree front_asked front st place slot less parts h = record {
  asked = h.asked;
  slots = h.slots;
  begun = h.begun;
  children = refl;
  behind = behind_front front_asked front h.asked h.slots st (now_at st place slot more) place slot less h.behind refl parts;
  work = h.work;
  told = h.told;
  reads = h.reads;
  body = body_still t w.body (length front) (length (set front place slot)) st (now_at st place slot more) (sym (length-set front place slot)) refl h.body;
}

pub free_front : (w : FreeWalk) (family more : List Child) (tree : Tree) (front_asked : List Task) (front : List Slot) (st : Stack) (place : ℕ) (slot : Slot) → place < length front
    → ArePartsOut front_asked (set front place slot) → IsOwnFree w family tree front_asked front st → IsOwnFree w more tree front_asked (set front place slot) (now_at st place slot more)
free_front w family more tree front_asked front st place slot less parts h = record {
  asked = h.asked;
  slots = h.slots;
  children = refl;
  behind = behind_front front_asked front h.asked h.slots st (now_at st place slot more) place slot less h.behind refl parts;
  walk = h.walk;
  alone = h.alone;
}

pub claim_front : (w : OwnClaim) (family more : List Child) (pointer : Option Bp) (front_asked : List Task) (front : List Slot) (st : Stack) (place : ℕ) (slot : Slot) → place < length front
    → ArePartsOut front_asked (set front place slot) → IsOwnClaim w family pointer front_asked front st → IsOwnClaim w more pointer front_asked (set front place slot) (now_at st place slot more)
claim_front w family more pointer front_asked front st place slot less parts h = record {
  asked = h.asked;
  slots = h.slots;
  children = refl;
  behind = behind_front front_asked front h.asked h.slots st (now_at st place slot more) place slot less h.behind refl parts;
  claim = h.claim;
  alone = h.alone;
}
