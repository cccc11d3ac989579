-- A copy lasts through operations that spare it.
use Rattle.std.proofs.Common.{◌≡◌, ℕ, ◌+◌, ◌≤◌, List, [], ◌∷◌, length, Bool, None, Result, IfOk, ⊎_elim, sym, ap, ◌∙◌, subst, arith}
use Rattle.std.specs.List.{AllByRecursion}
use Rattle.zio_types.specs.declared.error.Errno.{Errno}
use Rattle.zio_types.specs.declared.place.Place.{Place}
use Rattle.zio_types.specs.Choices.{Choice}
use Rattle.zio_cksum.specs.Blocks.{read_block, write_piece}
use Rattle.zio_cksum.specs.Frames.{FitSpots, HaveRoom, SameOutside, spots_of}
use Rattle.zio_cksum.specs.Images.{Images, Setting, Spot, Written, image_of}
use Rattle.zio_cksum.proofs.AllLemmas.{all_weaker}
use Rattle.zio_cksum.proofs.ReadLemmas.{reads_law}
use Rattle.zio_cksum.proofs.WriteLemmas.{writes_law}
use Rattle.zio_gang.specs.Attempts.{Terms}
use Rattle.zio_trace.specs.Leaves.{HaveSizes}
use Rattle.zio_trace.specs.Programs.{Deed, Happen}
use Rattle.zio_trace.specs.Readers.{CopiesApart}
use Rattle.zio_trace.specs.RoundTraces.{Trace}
use Rattle.zio_trace.specs.Tasks.{Attempt, Find, Got, Leaf, ReadCopies, ReadHeads, ReadTree, Settle, TakePlaces, Task, Test, Value, WriteCopies, WritePart, Wrote, good_by, got, means, wrote}
use Rattle.zio_trace.proofs.ListLemmas.{contains_first}
use Rattle.zio_heal.specs.Copies.{AreElsewhere, HasCopy, StoresAsGiven}
use Rattle.zio_heal.specs.Spared.{IsTrueHere, LieOn, SparesBy}
use Rattle.zio_heal.proofs.CopyLemmas.{reads_keep, writes_keep}
use Rattle.zio_heal.proofs.RepairLemmas.{same_law}
use Rattle.zio_heal.proofs.WrittenLemmas.{any_law, made_law}

-- leaves of these sizes have a copy
pub record StillThere (sizes : ℕ → ℕ) (spots : List Spot) (bytes : List ℕ) (images : Images) : Type 0 where
  pub sizes_are : HaveSizes sizes images
  pub copy : HasCopy spots bytes images

-- what a copy needs of its spots
pub record IsKept (s : Setting) (spots : List Spot) (bytes : List ℕ) : Type 0 where
  pub given : StoresAsGiven s
  pub room : HaveRoom (length bytes) spots
  pub apart : CopiesApart spots

fits : (sizes : ℕ → ℕ) (spots : List Spot) (images : Images) → LieOn sizes spots → HaveSizes sizes images → FitSpots spots images
fits sizes spots images lie have =
    all_weaker (λ (t : Spot). t.at + t.span ≤ sizes t.leaf) (λ (t : Spot). t.at + t.span ≤ length (image_of images t.leaf)) spots
    (λ t on. let is : length (image_of images t.leaf) ≡ sizes t.leaf = have t.leaf in omega arith) lie

sized : (sizes : ℕ → ℕ) (spots : List Spot) (old new : Images) → SameOutside spots old new → HaveSizes sizes old → HaveSizes sizes new
sized sizes spots old new same have leaf = same.sizes leaf ∙ have leaf

read_spares : (s : Setting) (sizes : ℕ → ℕ) (spots : List Spot) (bytes : List ℕ) (repair : Bool) (test : Test) (len : ℕ) (places : List Place) (value : Value) (images : Images) → IsKept s spots bytes → Got (read_block s repair (good_by test) images len places).found ≡ value → SparesBy sizes s spots bytes (ReadCopies repair test len places) value → StillThere sizes spots bytes images → StillThere sizes spots bytes (read_block s repair (good_by test) images len places).images
read_spares s sizes spots bytes repair test len places value images k is spares h =
    let fit : FitSpots (spots_of s places) images = fits sizes (spots_of s places) images spares.0 h.sizes_are in
    let now : Images = (read_block s repair (good_by test) images len places).images in
    record {
      sizes_are = sized sizes (spots_of s places) images now (reads_law s repair (good_by test) images len places fit) h.sizes_are;
      copy =
          ⊎_elim
          (λ (here : IsTrueHere spots (spots_of s places) bytes value).
          let found : Result (List ℕ) Errno = (read_block s repair (good_by test) images len places).found in
          let gives : IfOk found (λ (b : List ℕ). b ≡ bytes) =
          subst (λ (v : Value). IfOk (got v) (λ (b : List ℕ). b ≡ bytes)) (sym is) here.gives in
          subst (λ (at : List Spot). HasCopy at bytes now) here.same
          (same_law s repair (good_by test) len places bytes images k.given fit
          (subst (λ (at : List Spot). HaveRoom (length bytes) at) (sym here.same) k.room)
          (subst CopiesApart (sym here.same) k.apart) gives
          (subst (λ (at : List Spot). HasCopy at bytes images) (sym here.same) h.copy)))
          (λ (clear : AreElsewhere spots (spots_of s places)).
          reads_keep s repair (good_by test) len places spots bytes images fit k.room clear h.copy)
          spares.1;
    }

write_spares : (s : Setting) (sizes : ℕ → ℕ) (spots : List Spot) (bytes given : List ℕ) (places : List Place) (value : Value) (images : Images) → IsKept s spots bytes → SparesBy sizes s spots bytes (WriteCopies given places) value → StillThere sizes spots bytes images → StillThere sizes spots bytes (write_piece s given places images).images
write_spares s sizes spots bytes given places value images k spares h =
    let fit : FitSpots (spots_of s places) images = fits sizes (spots_of s places) images spares.0 h.sizes_are in
    record {
      sizes_are = sized sizes (spots_of s places) images (write_piece s given places images).images (writes_law s given places images fit) h.sizes_are;
      copy = writes_keep s given places spots bytes images fit k.room spares.1 h.copy;
    }

-- one operation that spares a copy
one_spares : (journal : List Choice) (t : Terms) (sizes : ℕ → ℕ) (spots : List Spot) (bytes : List ℕ) (o : Task) (value : Value) (images : Images) → IsKept t.setting spots bytes → (means journal t o images).value ≡ value → SparesBy sizes t.setting spots bytes o value → StillThere sizes spots bytes images → StillThere sizes spots bytes (means journal t o images).images
one_spares journal t sizes spots bytes (ReadCopies repair test len places) value images k is spares h =
    read_spares t.setting sizes spots bytes repair test len places value images k is spares h
one_spares journal t sizes spots bytes (WriteCopies given places) value images k is spares h =
    write_spares t.setting sizes spots bytes given places value images k spares h
one_spares journal t sizes spots bytes (Find ask) value images k is spares h = h
one_spares journal t sizes spots bytes (TakePlaces tree) value images k is spares h = h
one_spares journal t sizes spots bytes (Leaf act) value images k is spares h = absurd spares
one_spares journal t sizes spots bytes (WritePart attempt p sum copies levels path given) value images k is spares h = absurd spares
one_spares journal t sizes spots bytes (ReadHeads look levels path bp) value images k is spares h = absurd spares
one_spares journal t sizes spots bytes (ReadTree tree) value images k is spares h = absurd spares
one_spares journal t sizes spots bytes (Attempt attempt p kids) value images k is spares h = absurd spares
one_spares journal t sizes spots bytes (Settle p kids) value images k is spares h = absurd spares

all_spare : (journal : List Choice) (t : Terms) (sizes : ℕ → ℕ) (spots : List Spot) (bytes : List ℕ) (ds : Trace) (before after : Images) → IsKept t.setting spots bytes → AllByRecursion (λ (d : Deed Task Value). SparesBy sizes t.setting spots bytes d.op d.answer) ds → Happen (means journal t) ds before after → StillThere sizes spots bytes before → StillThere sizes spots bytes after
all_spare journal t sizes spots bytes [] before after k spares happen h = subst (StillThere sizes spots bytes) happen h
all_spare journal t sizes spots bytes (d ∷ ds) before after k spares happen h =
    all_spare journal t sizes spots bytes ds (means journal t d.op before).images after k spares.1 happen.1
    (one_spares journal t sizes spots bytes d.op d.answer before k happen.0 spares.0 h)

pub spared_law : (journal : List Choice) (t : Terms) (sizes : ℕ → ℕ) (spots : List Spot) (bytes : List ℕ) (ds : Trace) (before after : Images) → StoresAsGiven t.setting → HaveSizes sizes before → HaveRoom (length bytes) spots → CopiesApart spots → AllByRecursion (λ (d : Deed Task Value). SparesBy sizes t.setting spots bytes d.op d.answer) ds → Happen (means journal t) ds before after → HasCopy spots bytes before → HaveSizes sizes after × HasCopy spots bytes after
spared_law journal t sizes spots bytes ds before after given have room apart spares happen copy =
    let there : StillThere sizes spots bytes after =
    all_spare journal t sizes spots bytes ds before after (record { given = given; room = room; apart = apart }) spares happen
    (record { sizes_are = have; copy = copy }) in
    (there.sizes_are, there.copy)

-- ---- from its write on

-- a copy that a write left, where later operations spare it
pub written_law : (journal : List Choice) (t : Terms) (sizes : ℕ → ℕ) (bytes : List ℕ) (p : Place) (ps : List Place) (rest : Trace) (before after : Images) → StoresAsGiven t.setting → HaveSizes sizes before → LieOn sizes (spots_of t.setting (p ∷ ps)) → HaveRoom (length bytes) (spots_of t.setting (p ∷ ps)) → CopiesApart (spots_of t.setting (p ∷ ps)) → Happen (means journal t) (record { op = WriteCopies bytes (p ∷ ps); answer = Wrote None } ∷ rest) before after → AllByRecursion (λ (d : Deed Task Value). SparesBy sizes t.setting (spots_of t.setting (p ∷ ps)) bytes d.op d.answer) rest → HasCopy (spots_of t.setting (p ∷ ps)) bytes after
written_law journal t sizes bytes p ps rest before after given have lie room apart happen spares =
    let s : Setting = t.setting in
    let places : List Place = p ∷ ps in
    let fit : FitSpots (spots_of s places) before = fits sizes (spots_of s places) before lie have in
    let w : Written = write_piece s bytes places before in
    let was : Wrote w.error ≡ Wrote None = happen.0 in
    let none : w.error ≡ None = ap wrote was in
    let made = made_law s bytes places before given fit room apart none in
    let copy : HasCopy (spots_of s places) bytes w.images = any_law s bytes places p w.images (contains_first p ps) made.0 in
    (spared_law journal t sizes (spots_of s places) bytes rest w.images after given
    (sized sizes (spots_of s places) before w.images (writes_law s bytes places before fit) have) room apart spares happen.1 copy).1
