-- What own work stands on in a round (a setting, the round's number, disks and a chooser of places), and what its calls
-- change of that.
use Rattle.std.specs.Prelude.{◌≡◌, ◌⊎◌, ℕ, List, [], ◌++◌, map, false, true, IsTrue, Contains, Option, IfSome}
use Rattle.std.specs.List.{AllByRecursion, list_all}
use Rattle.zio_types.specs.declared.place.Place.{Place}
use Rattle.zio_types.specs.declared.place.TopSize.{TopSize}
use Rattle.zio_types.specs.Choices.{Choice}
use Rattle.zio_types.specs.Places.{SamePlaces, are_open, is_free, is_inside}
use Rattle.zio_cksum.specs.Frames.{SameOutside, spots_of}
use Rattle.zio_cksum.specs.Images.{Images, Setting}
use Rattle.zio_gang.specs.declared.tree.Tree.{Tree}
use Rattle.zio_gang.specs.Trees.{sizes_of}
use Rattle.zio_disks.specs.Disks.{AnyRose, AreSameDisks, Tell}
use Rattle.zio_disks.specs.Trees.{BearsTops, IsPlacedTree}
use Rattle.zio_blocks.specs.Blocks.{HavePointers}
use Rattle.zio_blocks.specs.Choosers.{AreHeld, EntryLaw, taken_by_all}
use Rattle.zio_course.specs.Changes.{ChangedAt}
use Rattle.zio_plain.specs.declared.ground.Ground.{Ground}
use Rattle.zio_plain.specs.OwnEnds.{Named}

-- what is seen of it
pub record SeenGround (D : Type 0) : Type 0 where
  pub setting : Setting
  pub round : ℕ
  pub disks : List D
  pub sizes : List TopSize
  pub used : List Place
  pub live : List Place
  pub given : List Choice

-- the ground as it is seen, by what is seen of a chooser
abbrev pub seen : {D C : Type 0} → (C → List TopSize) → (C → List Place) → (C → List Place) → (C → List Choice) → Ground D C → SeenGround D
seen sizes used live given g = record {
  setting = g.setting;
  round = g.round;
  disks = g.disks.items;
  sizes = sizes g.chooser;
  used = used g.chooser;
  live = live g.chooser;
  given = given g.chooser;
}

-- Own work may be done: the disks bear the tops, whose places stand in pointers; the chooser has these tops and holds its
-- places; and the block, if there is one, lies on the tops.
pub record CanRun {D : Type 0} (bytes : D → ℕ) (g : SeenGround D) (block : Option Tree) : Type 0 where
  pub bears : BearsTops g.setting (map bytes g.disks)
  pub tops : HavePointers g.setting.tops
  pub sizes : g.sizes ≡ sizes_of g.setting.tops
  pub held : AreHeld g.sizes g.used g.live
  pub placed : IfSome block (IsPlacedTree (sizes_of g.setting.tops))

-- for images that they told, the disks tell images that changed only so
abbrev pub TellChanged : {D : Type 0} → (D → List ℕ → Type 0) → List Place → SeenGround D → SeenGround D → Type 0
TellChanged image named old new = (before : Images) → Tell image old.disks before
    → (after : Images) × Tell image new.disks after × ChangedAt old.setting old.sizes old.used named before after

-- What calls did between two rounds' ends, where these places came to stay: entries behind those that were given, each of
-- the round, which meet what the chooser's entries do beside the places in use, and what was taken is in use; those that
-- came to stay were free, lie inside their tops, and are live beside the old ones. No disk failed. Claims ask for nothing, and nothing else claims.
pub record HasMoved {D : Type 0} (bytes faults faults_at_fetch : D → ℕ) (home image : D → List ℕ → Type 0) (sound : D → Type 0) (Lawful : EntryLaw) (named : Named) (old new : SeenGround D) (stay : List Place) : Type 0 where
  pub setting : new.setting ≡ old.setting
  pub round : new.round ≡ old.round
  pub sizes : new.sizes ≡ old.sizes
  pub disks : AreSameDisks bytes faults faults_at_fetch home image sound old.disks new.disks
  pub steady : map faults new.disks ≡ map faults old.disks
  pub outside : TellChanged image named.places old new
  pub more : List Choice
  pub claimed : List Place
  pub given : new.given ≡ old.given ++ more
  pub rounds : AllByRecursion (λ (c : Choice). c.asked.key.round ≡ old.round) more
  pub used : SamePlaces new.used (claimed ++ (taken_by_all more ++ old.used))
  pub lawful : Lawful old.sizes old.used more
  pub unclaimed : named.claims ≡ false → claimed ≡ []
  pub unasked : named.claims ≡ true → more ≡ []
  pub live : SamePlaces new.live (stay ++ old.live)
  pub held : AreHeld new.sizes new.used new.live
  pub were_open : are_open old.used stay ≡ true
  pub inside : IsTrue (list_all (is_inside old.sizes) stay)

-- nothing at all was done, or that, from where the chooser held its places
pub data Moves {D : Type 0} (bytes faults faults_at_fetch : D → ℕ) (home image : D → List ℕ → Type 0) (sound : D → Type 0) (Lawful : EntryLaw) (named : Named) (old new : SeenGround D) (stay : List Place) : Type 0 where
  Itself : new ≡ old → stay ≡ [] → Moves bytes faults faults_at_fetch home image sound Lawful named old new stay
  Moved : AreHeld old.sizes old.used old.live → HasMoved bytes faults faults_at_fetch home image sound Lawful named old new stay
      → Moves bytes faults faults_at_fetch home image sound Lawful named old new stay

-- What calls did up to a stop: the disks are the same, one of them failed exactly where a disk is why, and images changed
-- only so.
pub record Breaks {D : Type 0} (bytes faults faults_at_fetch : D → ℕ) (home image : D → List ℕ → Type 0) (sound : D → Type 0) (named : Named) (old new : SeenGround D) (device : Type 0) : Type 0 where
  pub setting : new.setting ≡ old.setting
  pub sizes : new.sizes ≡ old.sizes
  pub disks : AreSameDisks bytes faults faults_at_fetch home image sound old.disks new.disks
  pub rose : device → AnyRose (map faults old.disks) (map faults new.disks)
  pub calm : (device → ⊥) → map faults new.disks ≡ map faults old.disks
  pub outside : TellChanged image named.places old new
