-- What is asked for copies that are read or written, and for a part that is written.
use Rattle.std.proofs.Common.{◌≡◌, ℕ, zero, suc, ◌+◌, ◌<◌, List, [], ◌∷◌, ◌++◌, Bool, true, false, nat_le, length, Option, Some, None, ◌⊎◌, inl, inr, ⊎_elim, refl, sym, subst, arith}
use Rattle.std.specs.List.{AllByRecursion}
use Rattle.zio_types.specs.declared.place.Place.{Place}
use Rattle.zio_types.specs.Choices.{Ask, Choice}
use Rattle.zio_types.specs.Places.{sector_size}
use Rattle.zio_blkptr.specs.declared.pointer.SumKind.{SumKind}
use Rattle.zio_cksum.specs.Frames.{spots_of}
use Rattle.zio_cksum.specs.Headers.{split_sizes}
use Rattle.zio_cksum.proofs.AllLemmas.{all_weaker}
use Rattle.zio_gang.specs.Attempts.{Pending, Terms, writing_of}
use Rattle.zio_gang.specs.Trees.{sizes_of}
use Rattle.zio_gang.specs.Writes.{Writing, body_ask, chosen, cut, head_ask}
use Rattle.zio_trace.specs.BlockCopies.{Copies}
use Rattle.zio_trace.specs.CopyPrograms.{block_reading, piece_writing}
use Rattle.zio_trace.specs.Families.{Forest}
use Rattle.zio_trace.specs.Plans.{Kin, TaskPlan, by_leaves, header_over, plan, plan_body, plan_gang, plan_gang_unless, plan_members, plan_part, plan_write}
use Rattle.zio_trace.specs.Programs.{Ends, ask}
use Rattle.zio_trace.specs.SoundRounds.{IsSoundRound}
use Rattle.zio_trace.specs.Tasks.{Find, ReadCopies, StoredAs, Task, Test, Value, WriteCopies, WritePart, found, good_by, nowhere}
use Rattle.zio_trace.proofs.ChoiceLemmas.{Answers, answers_in_all}
use Rattle.zio_trace.proofs.FreeParts.{member_first, members, pass_repairs, writes}
use Rattle.zio_frames.specs.OfRound.{AreChosen, IsPieceOf, IsWriteOf, MayStill}
use Rattle.zio_frames.proofs.RoundLeaves.{AreMendedApart, AreStoredApart, leaves_walk, read_walk, write_walk}
use Rattle.zio_frames.proofs.RoundWalks.{Goes, IsFreeBeside, Walks, goes_then, walks_then}

-- the whole journal is lawful
pub answers : (t : Terms) (entries journal : List Choice) → MayStill t entries journal
    → Answers journal (sizes_of t.setting.tops) t.used t.round
answers t entries journal still = answers_in_all journal (sizes_of t.setting.tops) t.used t.round still.lawful

-- the places that each journal that may come has for the ask
abbrev pub HaveChosen : Terms → List Choice → Ask → Option (List Place) → Type 0
HaveChosen t entries a places = (journal : List Choice) → MayStill t entries journal → places ≡ chosen journal a

-- what may be out while a request's write goes on
pub record IsBesideWrite (t : Terms) (f : Forest) (entries : List Choice) (p : Pending) (q : Task) : Type 0 where
  pub asks : (a : Ask) → IsFreeBeside t f entries q (Find a)
  pub parts : (attempt : ℕ) (sum : SumKind) (copies levels : ℕ) (path bytes : List ℕ)
      → IsFreeBeside t f entries q (WritePart attempt p sum copies levels path bytes)
  pub copies : (bytes : List ℕ) (a : Ask) (places : List Place) → a.key.round ≡ t.round → a.key.request ≡ p.request.number
      → HaveChosen t entries a (Some places)
      → IsFreeBeside t f entries q (WriteCopies bytes places)

module _ (t : Terms) (sizes : ℕ → ℕ) (f : Forest) (entries : List Choice) (round : IsSoundRound t sizes f) where
  -- ---- copies

  stored_apart : (places : List Place) → AreChosen t entries places → AreStoredApart t f entries (spots_of t.setting places)
  stored_apart places c n m u v retry bytes others eu ev ne =
      λ beside journal still at i k differ.
      writes t sizes f journal at i k round (answers t entries journal still) n m c.by places u v retry retry bytes others c.now
      (c.is journal still) eu ev ne

  pub write_copies_go : (bytes : List ℕ) (places : List Place) → AreChosen t entries places
      → Goes t f entries [] (plan t (WriteCopies bytes places))
  write_copies_go bytes places c =
      goes_then t f entries [] (by_leaves (piece_writing t.setting bytes places)) _
      (leaves_walk t f entries (λ os e. Unit {0}) [] (piece_writing t.setting bytes places)
      (write_walk t f entries t.setting bytes places (stored_apart places c)))
      (λ os e. tt)

  mended_apart : (repair : Bool) (c : Copies) → IsPieceOf f repair c → repair ≡ true
      → AreMendedApart t f entries t.setting c.places
  mended_apart false c piece is = absurd (cc)
  mended_apart true c piece is =
      λ front rest p tried split n m u v retry bytes others eu ev ne beside journal still at i k differ.
      pass_repairs t sizes f journal at i k round n m tried piece.0 c front rest p u v retry retry bytes others piece.1 piece.2 split eu ev ne

  pub read_copies_go : (repair : Bool) (test : Test) (len : ℕ) (places : List Place)
      → IsPieceOf f repair (record { test = test; len = len; places = places })
      → Goes t f entries [] (plan t (ReadCopies repair test len places))
  read_copies_go repair test len places piece =
      let c : Copies = record { test = test; len = len; places = places } in
      let program = block_reading t.setting repair (good_by test) len places in
      goes_then t f entries [] (by_leaves program) _
      (leaves_walk t f entries (λ os e. Unit {0}) [] program (read_walk t f entries t.setting repair (good_by test) len places
      (mended_apart repair c piece)))
      (λ os e. tt)

  -- ---- a part that is written

  module _ (attempt : ℕ) (p : Pending) (sum : SumKind) (copies : ℕ) (of : IsWriteOf f p) where
    abbrev wr : Writing
    wr = writing_of t attempt p sum copies

    abbrev Beside : Task → Type 0
    Beside q = IsBesideWrite t f entries p q

    -- with these below it, which are free of the header where they are members
    module _ (below : List ℕ → List ℕ → TaskPlan Value) (path : List ℕ) (Member : Task → Type 0)
        (members_go : (parts : List (List ℕ)) (outs : List Task) → AllByRecursion Beside outs
        → Walks t f entries (λ os (k : Kin). AllByRecursion (λ (q : Task). Beside q ⊎ Member q) os) outs (plan_members below path 0 parts))
        (header_free : (q : Task) → Member q → (header : List ℕ) (places : List Place) → HaveChosen t entries (head_ask wr path)
        (Some places) → IsFreeBeside t f entries q (WriteCopies header places)) where
      chosen_is : (a : Ask) (places : List Place) → a.key.round ≡ t.round → HaveChosen t entries a (Some places)
          → AreChosen t entries places
      chosen_is a places now h = record { by = a; now = now; is = λ journal still. sym (h journal still) }

      gang_go : (places : Option (List Place)) (bytes : List ℕ) (outs : List Task)
          → HaveChosen t entries (head_ask wr path) places → AllByRecursion Beside outs
          → Goes t f entries outs (plan_gang places wr below path bytes)
      gang_go None bytes outs h beside = tt
      gang_go (Some places) bytes outs h beside =
          walks_then t f entries (λ os (k : Kin). AllByRecursion (λ (q : Task). Beside q ⊎ Member q) os) (λ os v. Unit {0}) outs
          (plan_members below path 0 (cut (split_sizes (length bytes)) bytes)) _
          (members_go (cut (split_sizes (length bytes)) bytes) outs beside)
          (λ os k all. (
            chosen_is (head_ask wr path) places refl h,
            all_weaker (λ (q : Task). Beside q ⊎ Member q) (λ (q : Task). IsFreeBeside t f entries q
                (WriteCopies (header_over wr places k) places)) os
                (λ q either. ⊎_elim (λ (b : Beside q). b.copies (header_over wr places k) (head_ask wr path) places refl refl h)
                (λ (m : Member q). header_free q m (header_over wr places k) places h) either) all,
            λ v fits. tt,
            λ beside b told. tt,
          ))

      gang_unless_go : (small : Bool) (bytes : List ℕ) (outs : List Task) → AllByRecursion Beside outs
          → Goes t f entries outs (plan_gang_unless small wr below path bytes)
      gang_unless_go true bytes outs beside = tt
      gang_unless_go false bytes outs beside = (
        tt,
        all_weaker Beside (λ (q : Task). IsFreeBeside t f entries q (Find (head_ask wr path))) outs
            (λ q b. b.asks (head_ask wr path)) beside,
        λ v fits. gang_go (found v) bytes outs fits.fits beside,
        λ other b told. absurd b,
      )

      body_go : (places : Option (List Place)) (bytes : List ℕ) (outs : List Task)
          → HaveChosen t entries (body_ask wr path bytes) places → AllByRecursion Beside outs
          → Goes t f entries outs (plan_body places wr below path bytes)
      body_go (Some places) bytes outs h beside = (
        chosen_is (body_ask wr path bytes) places refl h,
        all_weaker Beside (λ (q : Task). IsFreeBeside t f entries q (WriteCopies bytes places)) outs
            (λ q b. b.copies bytes (body_ask wr path bytes) places refl refl h) beside,
        λ v fits. tt,
        λ other b told. tt,
      )
      body_go None bytes outs h beside = gang_unless_go (nat_le (length bytes) sector_size) bytes outs beside

      part_go : (bytes : List ℕ) (outs : List Task) → AllByRecursion Beside outs
          → Goes t f entries outs (plan_part wr below path bytes)
      part_go bytes outs beside = (
        tt,
        all_weaker Beside (λ (q : Task). IsFreeBeside t f entries q (Find (body_ask wr path bytes))) outs
            (λ q b. b.asks (body_ask wr path bytes)) beside,
        λ v fits. body_go (found v) bytes outs fits.fits beside,
        λ other b told. absurd b,
      )

    -- one of the first members
    abbrev IsMemberBelow : ℕ → List ℕ → ℕ → Task → Type 0
    IsMemberBelow levels path n q = (m : ℕ) × (m < n) × (part : List ℕ) × (q ≡ WritePart attempt p sum copies levels (path ++ m ∷ []) part)

    abbrev IsMember : ℕ → List ℕ → Task → Type 0
    IsMember levels path q = (m : ℕ) × (part : List ℕ) × (q ≡ WritePart attempt p sum copies levels (path ++ m ∷ []) part)

    member_free : (levels : ℕ) (path : List ℕ) (n : ℕ) (part : List ℕ) (q : Task) → IsMemberBelow levels path n q
        → IsFreeBeside t f entries q (WritePart attempt p sum copies levels (path ++ n ∷ []) part)
    member_free levels path n part q m =
        subst (λ (x : Task). IsFreeBeside t f entries x (WritePart attempt p sum copies levels (path ++ n ∷ []) part)) (sym m.3)
        (λ beside journal still at i k differ. members t sizes f journal at i k round
        (answers t entries journal still) attempt m.0 n p sum copies levels path m.2 part differ
        (λ same. absurd (let less : m.0 < n = m.1 in omega arith)))

    no_members : (path : List ℕ) (n : ℕ) (parts : List (List ℕ)) (outs : List Task) → AllByRecursion Beside outs
        → Walks t f entries (λ os (k : Kin). AllByRecursion (λ (q : Task). Beside q ⊎ ⊥) os) outs
        (plan_members (λ below part. Ends (StoredAs nowhere)) path n parts)
    no_members path n [] outs h = all_weaker Beside (λ (q : Task). Beside q ⊎ ⊥) outs (λ q b. inl b) h
    no_members path n (part ∷ parts) outs h =
        walks_then t f entries (λ os (k : Kin). AllByRecursion (λ (q : Task). Beside q ⊎ ⊥) os)
        (λ os (k : Kin). AllByRecursion (λ (q : Task). Beside q ⊎ ⊥) os) outs _ _
        (no_members path (n + 1) parts outs h) (λ os k all. all)

    members_walk : (levels : ℕ) (path : List ℕ) (n : ℕ) (parts : List (List ℕ)) (outs : List Task)
        → AllByRecursion (λ (q : Task). Beside q ⊎ IsMemberBelow levels path n q) outs
        → Walks t f entries (λ os (k : Kin). AllByRecursion (λ (q : Task). Beside q ⊎ IsMember levels path q) os) outs
        (plan_members (λ below part. ask (WritePart attempt p sum copies levels below part)) path n parts)
    members_walk levels path n [] outs h =
        all_weaker (λ (q : Task). Beside q ⊎ IsMemberBelow levels path n q) (λ (q : Task). Beside q ⊎ IsMember levels path q) outs
        (λ q either. ⊎_elim (λ (b : Beside q). inl b) (λ (m : IsMemberBelow levels path n q). inr (m.0, m.2, m.3)) either) h
    members_walk levels path n (part ∷ parts) outs h =
        let op : Task = WritePart attempt p sum copies levels (path ++ n ∷ []) part in
        let Now : Task → Type 0 = λ q. Beside q ⊎ IsMemberBelow levels path n q in
        let Then : Task → Type 0 = λ q. Beside q ⊎ IsMemberBelow levels path (n + 1) q in
        let End : List Task → Kin → Type 0 = λ os k. AllByRecursion (λ (q : Task). Beside q ⊎ IsMember levels path q) os in
        let more : AllByRecursion Then outs = all_weaker Now Then outs
        (λ q either. ⊎_elim (λ (b : Beside q). inl b) (λ (m : IsMemberBelow levels path n q). inr
        (m.0, (let less : m.0 < n = m.1 in omega arith), m.2, m.3)) either) h in (
          of,
          all_weaker Now (λ (q : Task). IsFreeBeside t f entries q op) outs
              (λ q either. ⊎_elim (λ (b : Beside q). b.parts attempt sum copies levels (path ++ n ∷ []) part)
              (λ (m : IsMemberBelow levels path n q). member_free levels path n part q m) either) h,
          λ v fits. walks_then t f entries End End outs _ _ (members_walk levels path (n + 1) parts outs more) (λ os k all. all),
          λ other b told. walks_then t f entries End End (op ∷ outs) _ _
              (members_walk levels path (n + 1) parts (op ∷ outs) (inr (n, omega arith, part, refl), more)) (λ os k all. all),
        )

    header_behind : (levels : ℕ) (path : List ℕ) (q : Task) → IsMember levels path q → (header : List ℕ) (places : List Place)
        → HaveChosen t entries (head_ask wr path) (Some places)
        → IsFreeBeside t f entries q (WriteCopies header places)
    header_behind levels path q m header places h =
        subst (λ (x : Task). IsFreeBeside t f entries x (WriteCopies header places)) (sym m.2)
        (λ beside journal still at i k differ. member_first t sizes f journal at i k round
        (answers t entries journal still) attempt m.0 p sum copies levels path m.1 header (head_ask wr path) places
        differ refl refl (sym (h journal still)))

    pub write_go : (levels : ℕ) (path bytes : List ℕ) (outs : List Task) → AllByRecursion Beside outs
        → Goes t f entries outs (plan_write t attempt p sum copies levels path bytes)
    write_go zero path bytes outs beside =
        part_go (λ below part. Ends (StoredAs nowhere)) path (λ q. ⊥) (λ parts os all. no_members path 0 parts os all)
        (λ q none header places h. absurd none) bytes outs beside
    write_go (suc levels) path bytes outs beside =
        part_go (λ below part. ask (WritePart attempt p sum copies levels below part)) path (IsMember levels path)
        (λ parts os all. members_walk levels path 0 parts os (all_weaker Beside
        (λ (q : Task). Beside q ⊎ IsMemberBelow levels path 0 q) os (λ q b. inl b) all))
        (header_behind levels path) bytes outs beside
