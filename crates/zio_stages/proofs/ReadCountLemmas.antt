-- How much of a block's read was asked: what its next step shows of that.
use Rattle.std.proofs.Common.{◌≡◌, ◌<◌, ◌≤◌, ◌⊎◌, List, [], ◌∷◌, length, map, Bool, true, false, Option, inl, inr, refl, sym, subst, arith}
use Rattle.std.proofs.lemmas.List.{length-map}
use Rattle.zio_blkptr.specs.declared.pointer.Bp.{Bp}
use Rattle.zio_blkptr.specs.Pointers.{places_of}
use Rattle.zio_trace.specs.Leaves.{Answer}
use Rattle.zio_trace.specs.Plans.{Bodies, plan_after, plan_bodies}
use Rattle.zio_trace.specs.Programs.{Ends}
use Rattle.zio_trace.specs.Tasks.{BodyOf, Got, ReadCopies, Task}
use Rattle.zio_frames.proofs.SlotLemmas.{AsksTasks, asks_then}
use Rattle.zio_parts.specs.TreeReads.{Reading, ShowsRead, body_slot, bytes_or, found_of}
use Rattle.zio_parts.specs.declared.tree_read.Phase.{Phase}
use Rattle.zio_parts.specs.declared.tree_read.Phase.TheVariants.{Unread, Out, Failed, Found}
use Rattle.zio_parts.specs.declared.tree_read.TreeStep.{TreeStep}
use Rattle.zio_parts.specs.declared.tree_read.TreeStep.TheVariants.{Walk, Body, Wait, End}
use Rattle.zio_stages.specs.ReadCounts.{AreHandedOut, HasBegun, HasOneBody, IsUnread}
use Rattle.zio_stages.specs.declared.own_read.OwnRead.{OwnRead}
use Rattle.zio_stages.proofs.HeadsInside.{asked_by_end}

abbrev reading : Bp → Phase → List Bp → List (Option Answer) → Reading
reading bp phase bodies results = record { bp = bp; phase = phase; bodies = bodies; results = results }

-- ---- it begins

-- of a plain block the walk was made at once
pub one_body : (b gang : Bool) (old new : OwnRead) → (b ≡ true → (gang ≡ false) × (old.tree.read.results ≡ [] → HasOneBody new)) → (b ≡ false → gang ≡ true) → gang ≡ false
    → IsUnread old → HasOneBody new
one_body true gang old new one asks plain h = (one refl).1 h.none
one_body false gang old new one asks plain h = absurd (let is : gang ≡ true = asks refl in cc)

-- and of a gang none was
pub none_walked : (b gang : Bool) (old new : OwnRead) → (b ≡ true → (gang ≡ false) × (old.tree.read.results ≡ [] → HasOneBody new)) → (b ≡ false → new ≡ old) → gang ≡ true
    → IsUnread old → IsUnread new
none_walked true gang old new one still is h = absurd (let plain : gang ≡ false = (one refl).0 in cc)
none_walked false gang old new one still is h = subst IsUnread (sym (still refl)) h

-- ---- its next step

-- where that isn't the walk it isn't due
begun_in : (bp : Bp) (phase : Phase) (bodies : List Bp) (results : List (Option Answer)) (step : TreeStep) → ShowsRead (reading bp phase bodies results) step → (step ≡ Walk → ⊥) → HasBegun phase
begun_in bp Unread bodies results Walk h never = never refl
begun_in bp Unread bodies results (Body b) h never = absurd (let no : Unread ≡ Found = h.0 in cc)
begun_in bp Unread bodies results Wait h never = absurd (let no : 0 < 0 = h.0 in omega arith)
begun_in bp Unread bodies results End h never = absurd (let no = h.1 [] in cc)
begun_in bp Out bodies results step h never = tt
begun_in bp (Failed e) bodies results step h never = tt
begun_in bp Found bodies results step h never = tt

pub begun_by : (x : Reading) (step : TreeStep) → ShowsRead x step → (step ≡ Walk → ⊥) → HasBegun x.phase
begun_by x step h never = begun_in x.bp x.phase x.bodies x.results step h never

abbrev body_read : Bp → Task
body_read bp = ReadCopies true (BodyOf bp) bp.size (places_of bp)

bodies_ask : (bps : List Bp) → AsksTasks (map body_read bps) (plan_bodies bps)
bodies_ask [] = tt
bodies_ask (bp ∷ bps) = (refl, λ v. asks_then (map body_read bps) (plan_bodies bps) _ (bodies_ask bps))

-- where it ended each body was handed out
ended_in : (bp : Bp) (phase : Phase) (bodies : List Bp) (results : List (Option Answer)) → ShowsRead (reading bp phase bodies results) End → AreHandedOut phase bodies results
ended_in bp Unread bodies results h = absurd (let no = h.1 [] in cc)
ended_in bp Out bodies results h = absurd (let no = h.0 in cc)
ended_in bp (Failed e) bodies results h = tt
ended_in bp Found bodies results h =
    let asks : AsksTasks (map body_read bodies) (plan_after [] bodies) =
    asks_then (map body_read bodies) (plan_bodies bodies) (λ (b : Bodies). Ends (Got (bytes_or b))) (bodies_ask bodies) in
    let l : length (map body_read bodies) ≤ length (map body_slot results) =
    asked_by_end (map body_read bodies) (map body_slot results) (plan_after [] bodies) (Got (found_of (reading bp Found bodies results))) asks (h.1 []) in
    omega (arith, length-map bodies body_read, length-map results body_slot)

pub ended_all : (x : Reading) → ShowsRead x End → AreHandedOut x.phase x.bodies x.results
ended_all x h = ended_in x.bp x.phase x.bodies x.results h

-- where nothing is to be handed out each body was, if the walk isn't due
unread_only : (phase : Phase) (bodies : List Bp) (results : List (Option Answer)) → phase ≡ Unread → HasBegun phase → AreHandedOut phase bodies results
unread_only phase bodies results is h = absurd (subst HasBegun is h)

pub handed_by : (x : Reading) (step : TreeStep) → ShowsRead x step → (step ≡ Walk) ⊎ (step ≡ End) → HasBegun x.phase → AreHandedOut x.phase x.bodies x.results
handed_by x step h which begun = elim which [
  | inl is ↦ unread_only x.phase x.bodies x.results (subst (ShowsRead x) is h).0 begun
  | inr is ↦ ended_all x (subst (ShowsRead x) is h)
]
