-- A piece stays safe through deeds that lie elsewhere or read it truly.
use Rattle.std.proofs.Common.{◌≡◌, ℕ, List, [], ◌∷◌, ◌++◌, length, map, Bool, true, if◌then◌else◌, Option, Some, None, Ok, Err, IfOk, IsTrue, Contains, ◌⊎◌, inl, inr, ⊎_elim, refl, sym, ap, ◌∙◌, subst, append_assoc, append-nil}
use Rattle.std.proofs.lemmas.Slice.Eq.{bytes_eq-Decides}
use Rattle.std.specs.List.{AllByRecursion}
use Rattle.zio_types.specs.declared.place.Place.{Place}
use Rattle.zio_types.specs.Choices.{Choice}
use Rattle.zio_cksum.specs.Blocks.{good_kept}
use Rattle.zio_cksum.specs.Frames.{HaveRoom, spots_of}
use Rattle.zio_cksum.specs.Images.{Images, Setting, Spot}
use Rattle.zio_gang.specs.Attempts.{Terms}
use Rattle.zio_trace.specs.BlockCopies.{Copies, reading_of}
use Rattle.zio_trace.specs.Leaves.{Answer, HaveSizes}
use Rattle.zio_trace.specs.Programs.{Deed, Happen}
use Rattle.zio_trace.specs.RoundTraces.{Trace}
use Rattle.zio_trace.specs.RunTraces.{InRound, in_round}
use Rattle.zio_trace.specs.Tasks.{BodyOf, ClaimedBy, Find, KeptAs, ReadCopies, Task, Test, Value, WriteCopies, good_by, got, means}
use Rattle.zio_trace.proofs.SpotLemmas.{AllInside, IsCopy, NoneTouch, is_copy}
use Rattle.zio_heal.specs.Contents.{IsGood, IsHeld}
use Rattle.zio_heal.specs.Copies.{StoresAsGiven}
use Rattle.zio_heal.specs.Given.{AreTrueReads, Deeds, IsTrueOf, IsTrueRead, given_by, given_in}
use Rattle.zio_heal.specs.Pools.{IsPool}
use Rattle.zio_heal.specs.SafeBlocks.{IsSafe}
use Rattle.zio_heal.specs.Spared.{IsTrueHere, SparesBy}
use Rattle.zio_heal.proofs.HeldLemmas.{copies_apart, elsewhere, given_behind, have_room, lie_on, other_places}
use Rattle.zio_heal.proofs.ReadTraces.{IsOwnTest}
use Rattle.zio_heal.proofs.SparedLemmas.{spared_law}
use Rattle.zio_heal.proofs.WrittenPieces.{AreUsable}

-- ---- which deeds pass

-- a good read of these very copies
pub record IsReadHere (c : Copies) (o : Task) (v : Value) : Type 0 where
  pub op : o ≡ reading_of c
  pub own : IsOwnTest c.test
  pub good : IfOk (got v) (λ (bytes : List ℕ). IsTrue (good_by c.test bytes))

-- the operation touches other copies, or it reads these
abbrev pub Passes : Setting → Copies → Task → Value → Type 0
Passes s c (ReadCopies repair test len places) v = AllInside s places × (NoneTouch c.places places ⊎ IsReadHere c (ReadCopies repair test len places) v)
Passes s c (WriteCopies bytes places) v = AllInside s places × NoneTouch c.places places
Passes s c (Find ask) v = Unit {0}
Passes s c _ v = ⊥

abbrev pub AllPass : Setting → Copies → Trace → Type 0
AllPass s c ds = AllByRecursion (λ (d : Deed Task Value). Passes s c d.op d.answer) ds

-- ---- a read of these copies

kept_is : (kept : Option (List ℕ)) (bytes : List ℕ) → good_kept kept bytes ≡ true → kept ≡ Some bytes
kept_is None bytes h = let no : ⊥ = cc in absurd no
kept_is (Some k) bytes h = ap Some ((bytes_eq-Decides k bytes).0 h)

same_some : (a b : List ℕ) → Some a ≡ Some b → a ≡ b
same_some a b e = cc

-- gives the bytes that were given, or that are kept
true_gives : (test : Test) (given : Option (List ℕ)) (bytes : List ℕ) (a : Answer) → IsOwnTest test → good_by test bytes ≡ true → given ≡ Some bytes → IfOk a (λ (b : List ℕ). IsTrue (good_by test b)) → IsTrueOf test given a → IfOk a (λ (b : List ℕ). b ≡ bytes)
true_gives test given bytes (Err e) own good is h k = tt
true_gives (BodyOf bp) given bytes (Ok b) own good is h k = same_some b bytes (sym k ∙ is)
true_gives (KeptAs kept) given bytes (Ok b) own good is h k = same_some b bytes (sym (kept_is kept b h) ∙ kept_is kept bytes good)
true_gives (ClaimedBy bp) given bytes (Ok b) own good is h k = absurd own

module _ (journal : List Choice) (t : Terms) (sizes : ℕ → ℕ) (pool : IsPool sizes t.setting.tops) (c : Copies) (bytes : List ℕ) (usable : AreUsable t.setting c.len c.places) where
  abbrev spots : List Spot
  spots = spots_of t.setting c.places

  read_here : (before : Deeds) (repair : Bool) (test : Test) (len : ℕ) (places : List Place) (v : Value) → IsGood c bytes → given_in before c.places ≡ Some bytes → IsReadHere c (ReadCopies repair test len places) v
      → IsTrueOf test (given_in before places) (got v) → IsTrueHere spots (spots_of t.setting places) bytes v
  read_here before repair test len places v good given here true_ =
      let op : ReadCopies repair test len places ≡ ReadCopies true c.test c.len c.places = here.op in
      let same : places ≡ c.places = cc in
      let tests : test ≡ c.test = cc in
      record {
        same = ap (spots_of t.setting) same;
        gives =
            true_gives c.test (given_in before c.places) bytes (got v) here.own good.good given here.good
            (subst (λ (x : Test). IsTrueOf x (given_in before c.places) (got v)) tests (subst (λ (ps : List Place). IsTrueOf test (given_in before ps) (got v)) same true_));
      }

  -- an operation that passes spares the copies
  spares : (before : Deeds) (o : Task) (v : Value) → IsGood c bytes → given_in before c.places ≡ Some bytes → Passes t.setting c o v → IsTrueRead before o v → SparesBy sizes t.setting spots bytes o v
  spares before (ReadCopies repair test len places) v good given pass true_ = (
    lie_on t.setting sizes pool places pass.0,
    ⊎_elim
        (λ (none : NoneTouch c.places places). inr (elsewhere t.setting sizes pool c.places places none))
        (λ (here : IsReadHere c (ReadCopies repair test len places) v). inl (read_here before repair test len places v good given here true_))
        pass.1,
  )
  spares before (WriteCopies given_bytes places) v good given pass true_ = (lie_on t.setting sizes pool places pass.0, elsewhere t.setting sizes pool c.places places pass.1)
  spares before (Find ask) v good given pass true_ = tt
  spares before _ v good given pass true_ = absurd pass

  -- and gives nothing for their places
  still_given : (p : Place) → Contains c.places p → (o : Task) (v : Value) (before : Option (List ℕ)) → Passes t.setting c o v → given_by o c.places before ≡ before
  still_given p listed (WriteCopies given_bytes places) v before pass = ap (λ (b : Bool). if b then Some given_bytes else before) (other_places t.setting c.places places p listed usable.inside pass.1)
  still_given p listed (ReadCopies repair test len places) v before pass = refl
  still_given p listed (Find ask) v before pass = refl
  still_given p listed _ v before pass = absurd pass

  -- what stays
  pub record IsStill (ds : Deeds) (images : Images) : Type 0 where
    pub sizes_are : HaveSizes sizes images
    pub safe : IsSafe t.setting images ds c bytes

  one_still : StoresAsGiven t.setting → (d : Deed Task Value) (before : Deeds) (old : Images) → Passes t.setting c d.op d.answer → IsTrueRead before d.op d.answer → (means journal t d.op old).value ≡ d.answer → IsStill before old
      → IsStill (before ++ in_round t d ∷ []) (means journal t d.op old).images
  one_still stores d before old pass true_ is h =
      let held : IsHeld t.setting old c bytes = h.safe.held in
      let from : IsCopy t.setting c.places held.copy.spot = is_copy t.setting c.places held.copy.spot held.copy.listed in
      let room : HaveRoom (length bytes) spots = subst (λ (n : ℕ). HaveRoom n spots) (sym held.is_good.size) (have_room t.setting sizes pool c.len c.places usable) in
      let both = spared_law journal t sizes spots bytes (d ∷ []) old (means journal t d.op old).images stores h.sizes_are room (copies_apart t.setting sizes pool c.len c.places usable)
      (spares before d.op d.answer held.is_good h.safe.given pass true_, tt) (is, refl) held.copy in
      record {
        sizes_are = both.0;
        safe = record {
          held = record { is_good = held.is_good; copy = both.1 };
          given = given_behind before (in_round t d ∷ []) c.places ∙ still_given from.place from.listed d.op d.answer (given_in before c.places) pass ∙ h.safe.given;
        };
      }

  -- A piece stays safe through deeds that pass it, where the reads among them are true.
  pub all_still : StoresAsGiven t.setting → (ds : Trace) (before : Deeds) (old new : Images) → AllPass t.setting c ds → AreTrueReads before (map (in_round t) ds) → Happen (means journal t) ds old new → IsStill before old → IsStill (before ++ map (in_round t) ds) new
  all_still stores [] before old new pass true_ happen h =
      subst (λ (xs : Deeds). IsStill xs new) (sym (append-nil before)) (subst (IsStill before) happen h)
  all_still stores (d ∷ ds) before old new pass true_ happen h =
      let x : Deed InRound Value = in_round t d in
      subst (λ (xs : Deeds). IsStill xs new) (append_assoc before (x ∷ []) (map (in_round t) ds))
      (all_still stores ds (before ++ x ∷ []) (means journal t d.op old).images new pass.1 true_.1 happen.1
      (one_still stores d before old pass.0 true_.0 happen.0 h))
