-- Where one disk of several was made stable, or tried.
use Rattle.std.proofs.Common.{◌≡◌, ℕ, ◌≤◌, List, [], ◌∷◌, map, ap, inl, arith}
use Rattle.zio_outside.specs.declared.written.Written.{Written}
use Rattle.zio_outside.specs.Outside.{Keeps}
use Rattle.zio_disks.specs.Disks.{AreSameDisks}
use Rattle.zio_disks.proofs.DiskLemmas.{same_itself}
use Rattle.zio_graph.specs.Stable.{AreSynced, IsSynced, KeepImages}

images_itself : {D : Type 0} (image : D → List ℕ → Type 0) (disks : List D) → KeepImages image disks disks
images_itself image [] = tt
images_itself image (disk ∷ disks) = ((λ x. ((λ h. h), (λ h. h))), images_itself image disks)

-- the first disk was called, and the others weren't
pub first_keeps : {D : Type 0} (image : D → List ℕ → Type 0) (old new : D) (rest : List D) → Keeps (image old) (image new) → KeepImages image (old ∷ rest) (new ∷ rest)
first_keeps image old new rest h = (h, images_itself image rest)

pub first_same : {D : Type 0} (bytes faults faults_at_fetch : D → ℕ) (home image : D → List ℕ → Type 0) (sound : D → Type 0) (old new : D) (rest : List D)
    → bytes new ≡ bytes old → faults_at_fetch new ≡ faults_at_fetch old → Keeps (home old) (home new) → Keeps (image old) (image new) → (sound old → sound new × (faults new ≡ faults old))
    → AreSameDisks bytes faults faults_at_fetch home image sound (old ∷ rest) (new ∷ rest)
first_same bytes faults faults_at_fetch home image sound old new rest size fetched homes images sounds =
    let still = same_itself bytes faults faults_at_fetch home image sound rest in
    record {
      sizes = ap (λ (n : ℕ). n ∷ map bytes rest) size;
      at_fetch = ap (λ (n : ℕ). n ∷ map faults_at_fetch rest) fetched;
      homes = (homes, still.homes);
      told = ((λ content is. (content, (images content).0 is)), still.told);
      stay = (sounds, still.stay);
    }

module _ {D : Type 0} (went : List Written → D → D → Type 0) (moment : D → ℕ) (left_since : D → ℕ → List ℕ → Type 0)
    (image : D → List ℕ → Type 0) where
  pub synced_itself : (disk : D) → IsSynced {D = D} went moment left_since image disk disk
  synced_itself disk = record {
    later = omega arith;
    crash = λ asked earlier content w left. inl left;
    earlier = λ t content left. left;
  }

  pub all_synced : (disks : List D) → AreSynced {D = D} went moment left_since image disks disks
  all_synced [] = tt
  all_synced (disk ∷ disks) = (synced_itself disk, all_synced disks)

  pub first_synced : (old new : D) (rest : List D) → IsSynced {D = D} went moment left_since image old new
      → AreSynced {D = D} went moment left_since image (old ∷ rest) (new ∷ rest)
  first_synced old new rest h = (h, all_synced rest)
