-- What a crash leaves where a round wrote and then the disks were made stable.
use Rattle.std.proofs.Common.{◌≡◌, ℕ, zero, suc, ◌+◌, ◌<◌, ◌≤◌, List, [], ◌∷◌, ◌++◌, length, take, slice_index_or, get_or, Contains, IsTrue, ◌⊎◌, inl, inr, ⊎_elim, refl, sym, ap, ◌∙◌, subst, arith}
use Rattle.std.specs.List.{AllByRecursion}
use Rattle.zio_outside.specs.Crash.{AfterWrites, IsCrash, IsPart, IsWritten}
use Rattle.zio_outside.specs.declared.written.Written.{Written}
use Rattle.zio_cksum.specs.Images.{Images, Setting, Spot, bytes_at, image_of}
use Rattle.zio_cksum.proofs.AllLemmas.{all_take}
use Rattle.zio_trace.specs.BlockCopies.{Copies}
use Rattle.zio_trace.specs.Tasks.{good_by}
use Rattle.zio_spared.specs.Spared.{HasGood}
use Rattle.zio_spared.proofs.KeptBytes.{same_front}
use Rattle.zio_turns.specs.Wrote.{LiesAmong, Wrote, WroteOn}
use Rattle.zio_graph.specs.Crashes.{IsOutside, Spares}
use Rattle.zio_graph.specs.Stable.{AreStable, AreSynced, IsSynced}
use Rattle.zio_graph.proofs.StableLemmas.{synced_itself}
use Rattle.zio_flush.specs.Survival.{IsLeftOutside, LeavesOutside, MayLeave}

-- ---- ranges

part_all : (P : Written → Type 0) (part whole : List Written) → IsPart part whole → AllByRecursion P whole → AllByRecursion P part
part_all P [] whole h all = tt
part_all P (x ∷ part) [] h all = absurd h
part_all P (x ∷ part) (y ∷ whole) h all =
    ⊎_elim
    (λ (same : (x ≡ y) × IsPart part whole). (subst P (sym same.0) all.0, part_all P part whole same.1 all.1))
    (λ (later : IsPart (x ∷ part) whole). part_all P (x ∷ part) whole later all.1)
    h

-- a byte of one of the ranges is such a byte
written_is : (Is : ℕ → ℕ → Type 0) (leaf : ℕ) (ws : List Written) (place : ℕ) → AllByRecursion (LiesAmong Is leaf) ws
    → IsWritten ws place → Is leaf place
written_is Is leaf [] place all h = absurd h
written_is Is leaf (w ∷ ws) place all h =
    ⊎_elim (λ (here : (w.at ≤ place) × (place < w.at + w.len)). all.0 place here.0 here.1) (λ (there : IsWritten ws place). written_is Is leaf ws place all.1 there) h

take_all : (ws : List Written) → take (length ws) ws ≡ ws
take_all [] = refl
take_all (w ∷ ws) = ap (λ (xs : List Written). w ∷ xs) (take_all ws)

module _ {D : Type 0} (image : D → List ℕ → Type 0) (keeps : D → List ℕ → List Written → Type 0) (moment : D → ℕ)
    (left_since : D → ℕ → List ℕ → Type 0) (went : List Written → D → D → Type 0) where
  -- ---- disks by their numbers

  synced_at : (old new : List D) (leaf : ℕ) (other : D) → AreSynced {D = D} went moment left_since image old new
      → IsSynced {D = D} went moment left_since image (slice_index_or old leaf other) (slice_index_or new leaf other)
  synced_at [] [] leaf other h = synced_itself went moment left_since image other
  synced_at [] (n ∷ ns) leaf other h = absurd h
  synced_at (o ∷ os) [] leaf other h = absurd h
  synced_at (o ∷ os) (n ∷ ns) zero other h = h.0
  synced_at (o ∷ os) (n ∷ ns) (suc leaf) other h = synced_at os ns leaf other h.1

  -- a disk of this number that was stable, and of which a crash may have left this
  record LeftThere (old new : List D) (before after : Images) (leaf : ℕ) : Type 0 where
    other : D
    kept : keeps (slice_index_or old leaf other) (image_of before leaf) []
    left : left_since (slice_index_or new leaf other) (moment (slice_index_or old leaf other)) (image_of after leaf)

  left_there : (old new : List D) (before after : Images) (leaf : ℕ) → AreStable {D = D} keeps old before
      → MayLeave {D = D} moment left_since old new after
      → LeftThere old new before after leaf ⊎ (image_of after leaf ≡ image_of before leaf)
  left_there [] [] [] [] leaf stable may = inr refl
  left_there [] [] [] (a ∷ later) leaf stable may = absurd may
  left_there [] [] (b ∷ bs) after leaf stable may = absurd stable
  left_there [] (n ∷ ns) before after leaf stable may = absurd may
  left_there (o ∷ os) new [] after leaf stable may = absurd stable
  left_there (o ∷ os) [] (b ∷ bs) after leaf stable may = absurd may
  left_there (o ∷ os) (n ∷ ns) (b ∷ bs) [] leaf stable may = absurd may
  left_there (o ∷ os) (n ∷ ns) (b ∷ bs) (a ∷ later) zero stable may = inl (record { other = o; kept = stable.0; left = may.0 })
  left_there (o ∷ os) (n ∷ ns) (b ∷ bs) (a ∷ later) (suc leaf) stable may =
      ⊎_elim
      (λ (h : LeftThere os ns bs later leaf). inl (record { other = h.other; kept = h.kept; left = h.left }))
      (λ (h : image_of later leaf ≡ image_of bs leaf). inr h)
      (left_there os ns bs later leaf stable.1 may.1)

  -- ---- one disk

  module _ (itself : (disk : D) → went [] disk disk)
      (means : (asked ranges : List Written) (stable : List ℕ) (old new : D) → went asked old new → keeps old stable ranges
      → AfterWrites {D = D} keeps moment left_since stable ranges asked old new)
      (kept_image : (disk : D) (content stable : List ℕ) (ranges : List Written) → image disk content → keeps disk stable ranges
      → IsCrash stable ranges content) where
    leaf_leaves : (Is : ℕ → ℕ → Type 0) (leaf : ℕ) (old mid new : D) (stable : List ℕ) (ranges : List Written)
        → WroteOn {D = D} went Is leaf old mid → IsSynced {D = D} went moment left_since image mid new → keeps old stable ranges
        → IsLeftOutside {D = D} moment left_since Is leaf stable ranges old new
    leaf_leaves Is leaf old mid new stable ranges wrote synced kept =
        let one = wrote old [] (itself old) in
        let after : AfterWrites {D = D} keeps moment left_since stable ranges one.0 old mid = means one.0 ranges stable old mid one.1 kept in
        record {
          written = after.written;
          among = part_all (LiesAmong Is leaf) after.written one.0 after.part one.2;
          since = λ content left. ⊎_elim
              (λ (h : left_since mid (moment old) content). after.since content h)
              (λ (h : image mid content). (
                length after.written,
                subst (λ (ws : List Written). IsCrash stable (ranges ++ ws) content) (sym (take_all after.written))
                    (kept_image mid content stable (ranges ++ after.written) h after.kept),
              ))
              (synced.crash one.0 old content one.1 left);
        }

    pub leaves_outside : (Is : ℕ → ℕ → Type 0) (old mid new : List D) → Wrote {D = D} went Is old mid
        → AreSynced {D = D} went moment left_since image mid new → LeavesOutside {D = D} keeps moment left_since Is old new
    leaves_outside Is old mid new wrote synced = λ leaf other stable ranges kept.
        leaf_leaves Is leaf (slice_index_or old leaf other) (slice_index_or mid leaf other) (slice_index_or new leaf other) stable ranges
        (wrote leaf other) (synced_at mid new leaf other synced) kept

    -- ---- a copy of which nothing was written

    module _ (s : Setting) (before after : Images) (c : Copies) (old mid new : List D) (spares : Spares {D = D} went s before c old mid)
        (synced : AreSynced {D = D} went moment left_since image mid new) where
      unwritten_crash : (written : List Written) (n : ℕ) (stable content : List ℕ)
          → AllByRecursion (LiesAmong (IsOutside spares.spot c.len) spares.spot.leaf) written → IsCrash stable (take n written) content
          → (i : ℕ) → i < c.len → get_or content (spares.spot.at + i) 0 ≡ get_or stable (spares.spot.at + i) 0
      unwritten_crash written n stable content among crash i low =
          crash.outside (spares.spot.at + i)
          (λ w. written_is (IsOutside spares.spot c.len) spares.spot.leaf (take n written) (spares.spot.at + i)
          (all_take (LiesAmong (IsOutside spares.spot c.len) spares.spot.leaf) n written among) w refl (omega arith) (omega arith))

      same_there : LeftThere old new before after spares.spot.leaf → bytes_at after spares.spot c.len ≡ bytes_at before spares.spot c.len
      same_there h =
          let leaf : ℕ = spares.spot.leaf in
          let left : IsLeftOutside {D = D} moment left_since (IsOutside spares.spot c.len) leaf (image_of before leaf) []
          (slice_index_or old leaf h.other) (slice_index_or new leaf h.other) =
          leaves_outside (IsOutside spares.spot c.len) old mid new spares.unwritten synced leaf h.other (image_of before leaf) [] h.kept in
          let crash = left.since (image_of after leaf) h.left in
          same_front before after spares.spot c.len crash.1.size
          (unwritten_crash left.written crash.0 (image_of before leaf) (image_of after leaf) left.among crash.1)

      pub still_good : AreStable {D = D} keeps old before → MayLeave {D = D} moment left_since old new after → HasGood s after c
      still_good stable may = record {
        spot = spares.spot;
        listed = spares.listed;
        good =
            subst (λ (b : List ℕ). IsTrue (good_by c.test b))
            (sym (⊎_elim same_there
            (λ (h : image_of after spares.spot.leaf ≡ image_of before spares.spot.leaf).
            same_front before after spares.spot c.len (ap (λ (b : List ℕ). length b) h)
            (λ i low. ap (λ (b : List ℕ). get_or b (spares.spot.at + i) 0) h))
            (left_there old new before after spares.spot.leaf stable may)))
            spares.good;
      }
