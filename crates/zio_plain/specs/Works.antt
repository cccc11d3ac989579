-- What the own work of a request did to disks and a chooser of places.
use Rattle.std.specs.Prelude.{◌≡◌, ℕ, List, Option, true}
use Rattle.zio_types.specs.declared.place.Place.{Place}
use Rattle.zio_types.specs.Places.{SamePlaces}
use Rattle.zio_blkptr.specs.declared.pointer.Bp.{Bp}
use Rattle.zio_script.specs.Requests.{kind_of}
use Rattle.zio_script.specs.Whys.{is_claim}
use Rattle.zio_cksum.specs.Images.{Images}
use Rattle.zio_gang.specs.Attempts.{Terms, own_work}
use Rattle.zio_disks.specs.Disks.{Tell}
use Rattle.zio_disks.specs.declared.setting.Stop.{Stop as DiskStop}
use Rattle.zio_disks.specs.declared.setting.Stop.TheVariants.{Device as DiskDevice, Memory as DiskMemory}
use Rattle.zio_blocks.specs.Choosers.{EntryLaw}
use Rattle.zio_course.specs.declared.runner.Stop.{Stop}
use Rattle.zio_course.specs.declared.runner.Stop.TheVariants.{Device, Memory}
use Rattle.zio_course.specs.Runners.{places_of_block}
use Rattle.zio_plain.specs.declared.owns.OwnEnd.{OwnEnd}
use Rattle.zio_plain.specs.declared.waiting.Waiting.{Waiting}
use Rattle.zio_plain.specs.Grounds.{Breaks, Moves, SeenGround}
use Rattle.zio_plain.specs.OwnEnds.{AreAsked, AreNamed, IsFor, IsOwnEnd, Named, TellsOwn}
use Rattle.zio_plain.specs.Waits.{pending_of}

-- the same reason, as the runner of rounds has it
abbrev pub stop_of : DiskStop → Stop
stop_of DiskDevice = Device
stop_of DiskMemory = Memory

-- The own work of a request was done, whose children handed on these pointers: it is that of the definition, asked for
-- itself alone, and moved the ground to where the places of its block came to stay.
pub record DoesOwn {D : Type 0} (bytes faults faults_at_fetch : D → ℕ) (home image : D → List ℕ → Type 0) (sound : D → Type 0) (Lawful : EntryLaw) (w : Waiting) (attempt : ℕ) (pointers : List (Option Bp)) (old new : SeenGround D) (end : OwnEnd) (taken : List Place) : Type 0 where
  pub told : (t : Terms) → t.setting ≡ old.setting → t.round ≡ old.round → (is_claim (kind_of w.request.work) ≡ true → SamePlaces old.used t.used)
      → (images : Images) → Tell image old.disks images → TellsOwn (λ (g : SeenGround D). Tell image g.disks) (λ (g : SeenGround D). g.given)
      (λ journal. own_work journal t attempt (pending_of w) w.request.work pointers images) end old new
  pub is_end : IsOwnEnd w end
  pub asked : AreAsked (IsFor w.request.number attempt) old.given new.given
  pub taken_are : taken ≡ places_of_block end.tree
  pub moved : (named : Named) → AreNamed named w.request.work w.block → Moves bytes faults faults_at_fetch home image sound Lawful named old new (places_of_block end.tree)

-- it was stopped
abbrev pub BreaksOwn : {D : Type 0} → (D → ℕ) → (D → ℕ) → (D → ℕ) → (D → List ℕ → Type 0) → (D → List ℕ → Type 0) → (D → Type 0) → Waiting → SeenGround D → SeenGround D → Type 0 → Type 0
BreaksOwn bytes faults faults_at_fetch home image sound w old new device =
    (named : Named) → AreNamed named w.request.work w.block → Breaks bytes faults faults_at_fetch home image sound named old new device
