-- What a crash at any moment leaves of disks, and of the blocks on them.
use Rattle.std.specs.Prelude.{ℕ, List, [], ◌∷◌, ◌++◌, take, slice_index_or, Contains}
use Rattle.std.specs.List.{AllByRecursion}
use Rattle.zio_outside.specs.Crash.{IsCrash}
use Rattle.zio_outside.specs.declared.written.Written.{Written}
use Rattle.zio_cksum.specs.Images.{Images}
use Rattle.zio_gang.specs.declared.tree.Tree.{Tree}
use Rattle.zio_gang.specs.Attempts.{Pending}
use Rattle.zio_disks.specs.Disks.{Tell}
use Rattle.zio_trace.specs.BlockCopies.{Copies, copies_of}
use Rattle.zio_spared.specs.Spared.{HasGood, NoFlips}
use Rattle.zio_course.specs.Runners.{Standing}
use Rattle.zio_turns.specs.Wrote.{LiesAmong}
use Rattle.zio_graph.specs.Crashes.{IsInUse, setting_of}
use Rattle.zio_graph.specs.Stable.{AreStable}

-- A disk that kept this stable image and these ranges: ranges of such bytes were written since, in this order, and a crash at a
-- moment since leaves an image that equals the stable one outside the ranges that there were and those written by then.
pub record IsLeftOutside {D : Type 0} (moment : D → ℕ) (left_since : D → ℕ → List ℕ → Type 0) (Is : ℕ → ℕ → Type 0) (leaf : ℕ)
    (stable : List ℕ) (ranges : List Written) (old new : D) : Type 0 where
  pub written : List Written
  pub among : AllByRecursion (LiesAmong Is leaf) written
  pub since : (image : List ℕ) → left_since new (moment old) image → (n : ℕ) × IsCrash stable (ranges ++ take n written) image

-- so is each disk, where it tells what it keeps
abbrev pub LeavesOutside : {D : Type 0} → (D → List ℕ → List Written → Type 0) → (D → ℕ) → (D → ℕ → List ℕ → Type 0) → (ℕ → ℕ → Type 0)
    → List D → List D → Type 0
LeavesOutside {D = D} keeps moment left_since Is old new = (leaf : ℕ) (other : D) (stable : List ℕ) (ranges : List Written) →
    keeps (slice_index_or old leaf other) stable ranges →
    IsLeftOutside {D = D} moment left_since Is leaf stable ranges (slice_index_or old leaf other) (slice_index_or new leaf other)

-- a crash since the first state may have left each disk's image so
abbrev pub MayLeave : {D : Type 0} → (D → ℕ) → (D → ℕ → List ℕ → Type 0) → List D → List D → Images → Type 0
MayLeave moment left_since [] [] [] = Unit {0}
MayLeave moment left_since (old ∷ olds) (new ∷ news) (bytes ∷ images) =
    left_since new (moment old) bytes × MayLeave moment left_since olds news images
MayLeave moment left_since _ _ _ = ⊥

-- Where the disks were stable and no row turns bytes: each piece of a block in use that had a good copy in the images has one in what
-- a crash since may have left.
abbrev pub Survive : {D : Type 0} → (D → List ℕ → Type 0) → (D → List ℕ → List Written → Type 0) → (D → ℕ) → (D → ℕ → List ℕ → Type 0)
    → Standing → List (List Pending) → List D → List D → Type 0
Survive {D = D} image keeps moment left_since s trees old new = (before after : Images) → Tell {D = D} image old before →
    AreStable {D = D} keeps old before → MayLeave {D = D} moment left_since old new after → NoFlips s.rows → (tree : Tree) (c : Copies) →
    IsInUse s trees tree → Contains (copies_of tree) c → HasGood (setting_of s) before c → HasGood (setting_of s) after c
