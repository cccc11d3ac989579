-- A round and the flush behind it, where the round was whole, was stopped, or the flush failed.
use Rattle.std.proofs.Common.{◌≡◌, ◌≢◌, ℕ, List, [], ◌∷◌, map, cond, Bool, true, false, refl, sym, ap, ◌∙◌, subst, Contains, ◌↔◌, ◌⊎◌}
use Rattle.std.specs.Prelude.{◌≤◌}
use Rattle.zio_types.specs.declared.place.Place.{Place}
use Rattle.zio_outside.specs.Crash.{AfterWrites, IsCrash}
use Rattle.zio_outside.specs.declared.written.Written.{Written}
use Rattle.zio_script.specs.declared.script.Failmode.{Failmode}
use Rattle.zio_cksum.specs.Images.{Images, Setting}
use Rattle.zio_gang.specs.Attempts.{Pending}
use Rattle.zio_disks.specs.Disks.{Tell}
use Rattle.zio_course.specs.Runners.{AnyRose, DiffersInRound, IsRound, SeenEnd, Standing, StandsAfter, StoppedAfter, freed_places, made_places, terms_at}
use Rattle.zio_turns.specs.Wrote.{Wrote}
use Rattle.zio_graph.specs.Crashes.{MayWrite, SparesAll, setting_of}
use Rattle.zio_graph.specs.Graphs.{SeenGraph, standing_of}
use Rattle.zio_graph.specs.Stable.{AreStable, AreSynced, KeepImages}
use Rattle.zio_flush.specs.Flushed.{IsFlushed, seen_flushing}
use Rattle.zio_flush.specs.Survival.{LeavesOutside, Survive}
use Rattle.zio_flush.proofs.SurvivalLemmas.{leaves_outside, still_good}

-- ---- images

pub images_told : {D : Type 0} (image : D → List ℕ → Type 0) (old new : List D) (images : Images) → KeepImages {D = D} image old new
    → Tell {D = D} image old images → Tell {D = D} image new images
images_told image [] [] images keep told = told
images_told image [] (n ∷ ns) images keep told = absurd keep
images_told image (o ∷ os) [] images keep told = absurd keep
images_told image (o ∷ os) (n ∷ ns) [] keep told = absurd told
images_told image (o ∷ os) (n ∷ ns) (i ∷ is) keep told = ((keep.0 i).0 told.0, images_told image os ns is keep.1 told.1)

pub images_back : {D : Type 0} (image : D → List ℕ → Type 0) (old new : List D) (images : Images) → KeepImages {D = D} image old new
    → Tell {D = D} image new images → Tell {D = D} image old images
images_back image [] [] images keep told = told
images_back image [] (n ∷ ns) images keep told = absurd keep
images_back image (o ∷ os) [] images keep told = absurd keep
images_back image (o ∷ os) (n ∷ ns) [] keep told = absurd told
images_back image (o ∷ os) (n ∷ ns) (i ∷ is) keep told = ((keep.0 i).1 told.0, images_back image os ns is keep.1 told.1)

-- ---- what is seen

no_failure : (failed stopped : Bool) → cond failed true stopped ≡ false → failed ≡ false
no_failure true stopped h = h
no_failure false stopped h = refl

module _ {D : Type 0} (g p : SeenGraph D) (failed : Bool) (seen : seen_flushing {D = D} g failed ≡ p) (runs : p.stopped ≡ false) where
  pub not_failed : failed ≡ false
  not_failed = no_failure failed g.stopped (ap (λ (q : SeenGraph D). q.stopped) seen ∙ runs)

  -- it is seen as its engine
  pub as_graph : g ≡ p
  as_graph = sym (ap (seen_flushing {D = D} g) not_failed) ∙ seen

-- the disks alone changed
abbrev pub with_disks : {D : Type 0} → SeenGraph D → List D → SeenGraph D
with_disks g disks =
    record { setting = g.setting; disks = disks; live = g.live; last = g.last; stopped = g.stopped }

module _ {D : Type 0} (faults : D → ℕ) (old mid new : SeenGraph D) (round : ℕ) (trees : List (List Pending)) (end : SeenEnd) where
  module _ (h : StandsAfter (standing_of {D = D} faults old) (standing_of {D = D} faults mid) round trees end)
      (rest : new ≡ with_disks {D = D} mid new.disks) where
    setting_same : new.setting ≡ mid.setting
    setting_same = ap (λ (q : SeenGraph D). q.setting) rest

    pub stands_flushed : (failed : Bool) → failed ≡ false → map faults new.disks ≡ map faults mid.disks
        → StandsAfter (standing_of {D = D} faults old) (standing_of {D = D} faults (seen_flushing {D = D} new failed)) round trees end
    stands_flushed failed none steady = record {
      tops = ap (λ (u : Setting). u.tops) setting_same ∙ h.tops;
      rows = ap (λ (u : Setting). u.rows) setting_same ∙ h.rows;
      last = ap (λ (q : SeenGraph D). q.last) rest ∙ h.last;
      stopped = ap (λ (b : Bool). cond b true new.stopped) none ∙ ap (λ (q : SeenGraph D). q.stopped) rest ∙ h.stopped;
      faults = steady ∙ h.faults;
      live = subst (λ (live : List Place). (p : Place) → Contains live p
          ↔ ((Contains old.live p × ¬ Contains (freed_places trees end.finished) p) ⊎ Contains (made_places end.finished) p))
          (sym (ap (λ (q : SeenGraph D). q.live) rest)) h.live;
    }

    -- the flush failed
    pub stopped_flushed : StoppedAfter (standing_of {D = D} faults old) (standing_of {D = D} faults (seen_flushing {D = D} new true)) round
    stopped_flushed = record {
      tops = ap (λ (u : Setting). u.tops) setting_same ∙ h.tops;
      rows = ap (λ (u : Setting). u.rows) setting_same ∙ h.rows;
      last = ap (λ (q : SeenGraph D). q.last) rest ∙ h.last;
      stopped = refl;
    }

    pub rose_flushed : AnyRose (map faults mid.disks) (map faults new.disks) → AnyRose (map faults old.disks) (map faults new.disks)
    rose_flushed rose = subst (λ (counts : List ℕ). AnyRose counts (map faults new.disks)) h.faults rose

-- the round was stopped
pub stopped_before : {D : Type 0} (faults : D → ℕ) (old mid : SeenGraph D) (round : ℕ) (failed : Bool)
    → StoppedAfter (standing_of {D = D} faults old) (standing_of {D = D} faults mid) round
    → StoppedAfter (standing_of {D = D} faults old) (standing_of {D = D} faults (seen_flushing {D = D} mid failed)) round
stopped_before faults old mid round failed h = record {
  tops = h.tops;
  rows = h.rows;
  last = h.last;
  stopped = both failed mid.stopped h.stopped;
}
  where
    both : (failed stopped : Bool) → stopped ≡ true → cond failed true stopped ≡ true
    both true stopped is = refl
    both false stopped is = is

-- ---- what the round came to

module _ {D : Type 0} (faults : D → ℕ) (image : D → List ℕ → Type 0) (failmode : Failmode) (round point : ℕ) (trees : List (List Pending))
    (end : SeenEnd) where
  abbrev pub RunsAs : SeenGraph D → List D → Type 0
  RunsAs s new = (before : Images) → Tell {D = D} image s.disks before → (after : Images) × Tell {D = D} image new after
      × IsRound (terms_at (standing_of {D = D} faults s) failmode round point) trees before after end
      × DiffersInRound (standing_of {D = D} faults s) trees before after

  pub round_flushed : (g p : SeenGraph D) (mid new : List D) → g ≡ p → KeepImages {D = D} image mid new → RunsAs g mid → RunsAs p new
  round_flushed g p mid new same keep h = λ before told.
      let r = subst (λ (q : SeenGraph D). RunsAs q mid) same h before told in
      (r.0, images_told {D = D} image mid new r.0 keep r.1, r.2, r.3)

  -- and is forgotten
  pub round_lost : (g p : SeenGraph D) (mid new : List D) → g ≡ p → KeepImages {D = D} image mid new → RunsAs g mid
      → (before : Images) → Tell {D = D} image p.disks before → (after : Images) × Tell {D = D} image new after
      × DiffersInRound (standing_of {D = D} faults p) trees before after
  round_lost g p mid new same keep h = λ before told. let r = round_flushed g p mid new same keep h before told in (r.0, r.1, r.3)

-- ---- what the type carries

pub flushed_stopped : {D : Type 0} (image : D → List ℕ → Type 0) (keeps : D → List ℕ → List Written → Type 0) (g : SeenGraph D)
    → g.stopped ≡ true → IsFlushed {D = D} image keeps g
flushed_stopped image keeps g is = λ last running. absurd (let no : true ≡ false = sym is ∙ running in cc)

pub flushed_stable : {D : Type 0} (image : D → List ℕ → Type 0) (keeps : D → List ℕ → List Written → Type 0) (old : List D) (g : SeenGraph D)
    → KeepImages {D = D} image old g.disks
    → ((images : Images) → Tell {D = D} image old images → AreStable {D = D} keeps g.disks images) → IsFlushed {D = D} image keeps g
flushed_stable {D} image keeps old g keep stable = λ last running images told.
    stable images (images_back {D = D} image old g.disks images keep told)

-- ---- what a crash leaves

module _ {D : Type 0} (image : D → List ℕ → Type 0) (keeps : D → List ℕ → List Written → Type 0) (moment : D → ℕ)
    (left_since : D → ℕ → List ℕ → Type 0) (went : List Written → D → D → Type 0) (itself : (disk : D) → went [] disk disk)
    (means : (asked ranges : List Written) (stable : List ℕ) (old new : D) → went asked old new → keeps old stable ranges
    → AfterWrites {D = D} keeps moment left_since stable ranges asked old new)
    (kept_image : (disk : D) (content stable : List ℕ) (ranges : List Written) → image disk content → keeps disk stable ranges
    → IsCrash stable ranges content)
    (s : Standing) (trees : List (List Pending)) (old mid new : List D)
    (synced : AreSynced {D = D} went moment left_since image mid new) where
  pub crash_leaves : Wrote {D = D} went (MayWrite s trees) old mid → LeavesOutside {D = D} keeps moment left_since (MayWrite s trees) old new
  crash_leaves wrote = leaves_outside image keeps moment left_since went itself means kept_image (MayWrite s trees) old mid new wrote synced

  pub blocks_survive : SparesAll {D = D} image went s trees old mid → Survive {D = D} image keeps moment left_since s trees old new
  blocks_survive spares = λ before after told stable may flips tree c used piece good.
      still_good image keeps moment left_since went itself means kept_image (setting_of s) before after c old mid new
      (spares before told flips tree c used piece good) synced stable may
