-- An operation that is handed to its leaf fits the leaf's queue, and waits there for what it is.
use Rattle.std.proofs.Common.{◌≡◌, ℕ, ◌+◌, ◌*◌, ◌≤◌, ◌^◌, List, [], ◌∷◌, Option, Some, None, Ok, Err, take, Bool, true, false, cond, refl, ap, arith}
use Rattle.std.proofs.lemmas.Bool.{false≢true}
use Rattle.zio_cksum.specs.Images.{Spot}
use Rattle.zio_vqueue.specs.declared.op.Op.{Op}
use Rattle.zio_vqueue.specs.Queues.{FitsDevice, end_of}
use Rattle.std.specs.List.{AllByRecursion}
use Rattle.zio_types.specs.declared.error.Errno.{Errno}
use Rattle.zio_types.specs.declared.place.Top.{Top}
use Rattle.zio_types.specs.Places.{sector_size}
use Rattle.zio_groups.specs.declared.waiting.QueuedOp.{QueuedOp}
use Rattle.zio_trace.specs.Leaves.{Answer, Fetch, LeafOp, LiesOn, Store, answer_of, spot_of}
use Rattle.zio_exchange.specs.LeafOps.{IsOpAt, IsOpFor}
use Rattle.zio_staged.specs.Stages.{ShowsAnswer}
use Rattle.zio_turns.specs.ShortTops.{AreShort, EndsWithTops}
use Rattle.zio_turns.specs.AtLeaves.{WaitForAll, WaitsFor, keyed, put_as}

ends_at : (sizes : ℕ → ℕ) (write retry : Bool) (spot : Spot) (op : Op) (leaf : ℕ) → IsOpAt write retry spot op leaf
    → spot.at + spot.span ≤ sizes spot.leaf → end_of op ≤ sizes leaf
ends_at sizes write retry spot op leaf h lies = omega (arith, h.at, h.len, lies, ap sizes h.on)

pub ends_on : (sizes : ℕ → ℕ) (act : LeafOp) (op : Op) (leaf : ℕ) (bytes : List ℕ) → IsOpFor act op leaf bytes
    → LiesOn sizes act
    → end_of op ≤ sizes leaf
ends_on sizes (Fetch retry len spot) op leaf bytes h l = ends_at sizes false retry spot op leaf h.0 l.lies
ends_on sizes (Store retry stored spot) op leaf bytes h l = ends_at sizes true retry spot op leaf h.0 l.lies

fits_at : (write retry : Bool) (spot : Spot) (op : Op) (leaf : ℕ) → IsOpAt write retry spot op leaf
    → spot.at + spot.span ≤ 2 ^ 39 * sector_size → FitsDevice op
fits_at write retry spot op leaf h ends = omega (arith, h.at, h.len, ends)

pub fits_queue : (tops : List Top) (act : LeafOp) (op : Op) (leaf : ℕ) (bytes : List ℕ) → IsOpFor act op leaf bytes
    → EndsWithTops tops (spot_of act) → AreShort tops → FitsDevice op
fits_queue tops (Fetch retry len spot) op leaf bytes h ends short = fits_at false retry spot op leaf h.0 (ends (2 ^ 39) short)
fits_queue tops (Store retry stored spot) op leaf bytes h ends short = fits_at true retry spot op leaf h.0 (ends (2 ^ 39) short)

under_key : (write retry : Bool) (spot : Spot) (op : Op) (leaf key : ℕ) → IsOpAt write retry spot op leaf
    → IsOpAt write retry spot (keyed 0 (keyed key op)) leaf
under_key write retry spot op leaf key h =
    record { ticket = refl; direction = h.direction; on = h.on; at = h.at; len = h.len; pass = h.pass; alone = h.alone }

written_as : (b : Bool) (n m : ℕ) (bytes stored : List ℕ) → b ≡ true → n ≡ m → bytes ≡ stored → cond b
    (take n bytes) [] ≡ take m stored
written_as true n m bytes stored w e f = λ i. take (e i) (f i)
written_as false n m bytes stored w e f = absurd (false≢true w)

pub waits_under : (sizes : ℕ → ℕ) (act : LeafOp) (op : Op) (leaf key : ℕ) (bytes : List ℕ) → IsOpFor act op leaf bytes
    → LiesOn sizes act
    → WaitsFor leaf act (put_as key op bytes)
waits_under sizes (Fetch retry len spot) op leaf key bytes h l = (under_key false retry spot op leaf key h.0, l.room)
waits_under sizes (Store retry stored spot) op leaf key bytes h l =
    (under_key true retry spot op leaf key h.0, written_as op.write op.len spot.span bytes stored h.0.direction h.0.len h.1)

-- an answer shows something, whatever it is
pub shows_some : (act : LeafOp) (error : Option Errno) (bytes : List ℕ) → (a : Answer) × ShowsAnswer act error bytes a
shows_some (Fetch retry len spot) None bytes = (Ok (take len bytes), refl)
shows_some (Fetch retry len spot) (Some e) bytes = (Err e, refl)
shows_some (Store retry stored spot) error bytes = (answer_of error, refl)

-- members that wait for operations wait for a list of them
pub acts_of : (leaf : ℕ) (ws : List QueuedOp) → AllByRecursion (λ (w : QueuedOp). (act : LeafOp) × WaitsFor leaf act w) ws
    → (acts : List LeafOp) × WaitForAll leaf acts ws
acts_of leaf [] h = ([], tt)
acts_of leaf (w ∷ ws) h = let rest = acts_of leaf ws h.1 in (h.0.0 ∷ rest.0, (h.0.1, rest.1))
