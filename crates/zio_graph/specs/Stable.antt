-- Disks whose images are stable.
use Rattle.std.specs.Prelude.{ℕ, ◌≤◌, List, [], ◌∷◌, ◌⊎◌}
use Rattle.zio_outside.specs.Outside.{Keeps}
use Rattle.zio_outside.specs.declared.written.Written.{Written}
use Rattle.zio_cksum.specs.Images.{Images}

-- each disk keeps its image, and no range was written since
abbrev pub AreStable : {D : Type 0} → (D → List ℕ → List Written → Type 0) → List D → Images → Type 0
AreStable keeps [] [] = Unit {0}
AreStable keeps [] (bytes ∷ images) = ⊥
AreStable keeps (disk ∷ disks) [] = ⊥
AreStable keeps (disk ∷ disks) (bytes ∷ images) = keeps disk bytes [] × AreStable keeps disks images

-- each disk tells the images that it told
abbrev pub KeepImages : {D : Type 0} → (D → List ℕ → Type 0) → List D → List D → Type 0
KeepImages image [] [] = Unit {0}
KeepImages image [] (disk ∷ disks) = ⊥
KeepImages image (disk ∷ disks) [] = ⊥
KeepImages image (old ∷ olds) (new ∷ news) = Keeps (image old) (image new) × KeepImages image olds news

-- A disk was made stable, or tried to: a crash since some earlier state, after which these ranges alone were written, leaves what
-- one before might have left, or the image.
pub record IsSynced {D : Type 0} (went : List Written → D → D → Type 0) (moment : D → ℕ) (left_since : D → ℕ → List ℕ → Type 0)
    (image : D → List ℕ → Type 0) (old new : D) : Type 0 where
  pub later : moment old ≤ moment new
  pub crash : (asked : List Written) (earlier : D) (content : List ℕ) → went asked earlier old →
      left_since new (moment earlier) content → left_since old (moment earlier) content ⊎ image old content
  pub earlier : (t : ℕ) (content : List ℕ) → left_since old t content → left_since new t content

-- so was each disk
abbrev pub AreSynced : {D : Type 0} → (List Written → D → D → Type 0) → (D → ℕ) → (D → ℕ → List ℕ → Type 0) → (D → List ℕ → Type 0)
    → List D → List D → Type 0
AreSynced went moment left_since image [] [] = Unit {0}
AreSynced went moment left_since image [] (disk ∷ disks) = ⊥
AreSynced went moment left_since image (disk ∷ disks) [] = ⊥
AreSynced went moment left_since image (old ∷ olds) (new ∷ news) =
    IsSynced went moment left_since image old new × AreSynced went moment left_since image olds news
