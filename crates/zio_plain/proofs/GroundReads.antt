-- The own work of reads, frees and claims.
use Rattle.std.proofs.Common.{◌≡◌, ℕ, List, [], ◌∷◌, length, Bool, refl, sym, ap, ◌∙◌, subst}
use Rattle.std.specs.Prelude.{true, false, ◌&&◌, Contains, IsTrue, Option, Some, None, Result, Ok, Err, IfErr, IfOk, IfSome, OnErr}
use Rattle.std.specs.List.{AllByRecursion, list_all}
use Rattle.std.proofs.lemmas.Bool.{false≢true}
use Rattle.std.proofs.lemmas.List.{append-nil}
use Rattle.zio_types.specs.declared.error.Errno.{Errno}
use Rattle.zio_types.specs.declared.place.Place.{Place}
use Rattle.zio_types.specs.declared.place.TopSize.{TopSize}
use Rattle.zio_types.specs.declared.request.Prio.{Prio}
use Rattle.zio_types.specs.Choices.{Choice}
use Rattle.zio_types.specs.Places.{SamePlaces, are_apart, are_open, is_free, is_inside}
use Rattle.zio_blkptr.specs.declared.pointer.Bp.{Bp}
use Rattle.zio_blkptr.specs.Pointers.{pointer_of}
use Rattle.zio_blkptr.proofs.PointerLemmas.{valid_parts}
use Rattle.zio_script.specs.declared.script.Work.{Work}
use Rattle.zio_script.specs.declared.script.Work.TheVariants.{Claim, Free, Read}
use Rattle.zio_script.specs.Requests.{kind_of, makes_block}
use Rattle.zio_script.specs.Whys.{is_claim}
use Rattle.zio_cksum.specs.Frames.{spots_of}
use Rattle.zio_cksum.specs.Images.{Images, Setting}
use Rattle.zio_gang.specs.declared.tree.Tree.{Tree}
use Rattle.zio_gang.specs.Attempts.{Own, Terms, free_of, only_error, own_claim, own_claimed, own_found, own_free, own_read, own_work, read_of}
use Rattle.zio_gang.specs.Journals.{asks_of}
use Rattle.zio_gang.specs.Trees.{Walk, claim_pointer, claim_tree, claim_visit, claimed_found, claimed_if, free_tree, read_tree, sizes_of, tree_places, walk_tree}
use Rattle.zio_outside.specs.declared.written.Written.{Written}
use Rattle.zio_disks.specs.Disks.{Handles, Tell}
use Rattle.zio_disks.specs.Trees.{IsPlacedTree}
use Rattle.zio_disks.specs.Whole.{IsWholeTree}
use Rattle.zio_blocks.specs.Choosers.{AreHeld, EntryLaw, HoldsOfNone}
use Rattle.zio_blocks.specs.Claims.{AreTaken}
use Rattle.zio_cksum.proofs.PlaceSets.{SamePlaces-back, free_same}
use Rattle.zio_course.specs.declared.runner.Stop.{Stop}
use Rattle.zio_course.specs.declared.runner.Stop.TheVariants.{Device, Memory}
use Rattle.zio_course.specs.Runners.{places_of_block, read_size}
use Rattle.zio_plain.specs.declared.works.OwnDone.{OwnDone}
use Rattle.zio_plain.specs.declared.owns.OwnEnd.{OwnEnd}
use Rattle.zio_plain.specs.declared.waiting.Waiting.{Waiting}
use Rattle.zio_plain.specs.Grounds.{CanRun, Moves, SeenGround}
use Rattle.zio_plain.specs.Grounds.Moves.{Moved}
use Rattle.zio_plain.specs.OwnEnds.{AreNamed, IsOwn, Named}
use Rattle.zio_plain.specs.Posts.{IsSound}
use Rattle.zio_plain.specs.Waits.{pending_of}
use Rattle.zio_plain.specs.Works.{BreaksOwn, DoesOwn}
use Rattle.zio_plain.proofs.GroundOwn.{changed_at, error_end, error_is_end, error_is_own, found_end, found_is_end, found_is_own, quiet_does}
use Rattle.zio_plain.proofs.GroundTaken.{one_block, tree_inside}

-- ---- the block of a request

pub tree_within : (w : Waiting) (tree : Tree) → w.block ≡ Some tree → (named : Named) → AreNamed named w.request.work w.block → AllByRecursion (Contains named.places) (tree_places tree)
tree_within w tree is named fits = subst (AllByRecursion (Contains named.places)) (ap places_of_block is ∙ one_block tree) fits.within

module _ {D : Type 0} {bytes : D → ℕ} where
  pub can_from : {block : Option Tree} (old : SeenGround D) (disks : List D) → disks ≡ old.disks → CanRun bytes old block → CanRun bytes (record old { disks = disks }) block
  can_from {block} old disks e can = subst (λ ds. CanRun bytes (record old { disks = ds }) block) (sym e) can

  tree_placed : {old : SeenGround D} {block : Option Tree} (tree : Tree) → CanRun bytes old block → block ≡ Some tree → IsPlacedTree (sizes_of old.setting.tops) tree
  tree_placed {old} tree can is = subst (λ (o : Option Tree). IfSome o (IsPlacedTree (sizes_of old.setting.tops))) is can.placed

  pub tree_lies : {old : SeenGround D} {block : Option Tree} (tree : Tree) → CanRun bytes old block → block ≡ Some tree → IsTrue (list_all (is_inside old.sizes) (tree_places tree))
  tree_lies {old} {block} tree can is =
      subst (λ z. IsTrue (list_all (is_inside z) (tree_places tree))) (sym can.sizes) (tree_inside (sizes_of old.setting.tops) tree (tree_placed {old = old} {block = block} tree can is))

-- ---- a claim beside the same places

bool_same : (a b : Bool) → (a ≡ true → b ≡ true) → (b ≡ true → a ≡ true) → a ≡ b
bool_same true b h k = sym (h refl)
bool_same false true h k = k refl
bool_same false false h k = refl

open_same : (xs ys places : List Place) → SamePlaces xs ys → are_open xs places ≡ are_open ys places
open_same xs ys places same = λ i.
    list_all (λ p. bool_same (is_free xs p) (is_free ys p) (free_same xs ys p same) (free_same ys xs p (SamePlaces-back xs ys same)) i) places && are_apart places

found_same : (errors : List (Option Errno)) (xs ys : List Place) (tree : Tree) → SamePlaces xs ys → claimed_found xs errors tree ≡ claimed_found ys errors tree
found_same [] xs ys tree same = ap (λ (t : Bool). claimed_if t tree) (open_same xs ys (tree_places tree) same)
found_same (e ∷ errors) xs ys tree same = refl

pointer_same : (o : Option Bp) (s : Setting) (xs ys : List Place) (images : Images) → SamePlaces xs ys → claim_pointer s xs o images ≡ claim_pointer s ys o images
pointer_same None s xs ys images same = refl
pointer_same (Some bp) s xs ys images same =
    let w : Walk = walk_tree (claim_visit s) bp images in
    λ i. record { tree = found_same w.errors xs ys (record { bp = bp; heads = w.heads }) same i; images = w.images }

claim_same : (s : Setting) (xs ys : List Place) (bytes : List ℕ) (images : Images) → SamePlaces xs ys → claim_tree s xs bytes images ≡ claim_tree s ys bytes images
unfolding claim_tree
claim_same s xs ys bytes images same = pointer_same (pointer_of bytes) s xs ys images same

-- ---- what is meant

read_meant : (j : List Choice) (t : Terms) (s : Setting) (attempt : ℕ) (w : Waiting) (tree : Tree) (name : List ℕ) (prio : Prio) (pointers : List (Option Bp)) (images : Images) → w.request.work ≡ Read name prio
    → w.block ≡ Some tree → t.setting ≡ s → own_work j t attempt (pending_of w) w.request.work pointers images ≡ own_read (read_tree s tree images)
read_meant j t s attempt w tree name prio pointers images work block setting =
    ap (λ (k : Work). own_work j t attempt (pending_of w) k pointers images) work ∙ ap (λ (o : Option Tree). read_of t o images) block ∙ ap (λ z. own_read (read_tree z tree images)) setting

free_meant : (j : List Choice) (t : Terms) (s : Setting) (attempt : ℕ) (w : Waiting) (tree : Tree) (name : List ℕ) (pointers : List (Option Bp)) (images : Images) → w.request.work ≡ Free name
    → w.block ≡ Some tree → t.setting ≡ s → own_work j t attempt (pending_of w) w.request.work pointers images ≡ own_free (free_tree s tree images)
free_meant j t s attempt w tree name pointers images work block setting =
    ap (λ (k : Work). own_work j t attempt (pending_of w) k pointers images) work ∙ ap (λ (o : Option Tree). free_of t o images) block ∙ ap (λ z. own_free (free_tree z tree images)) setting

claim_meant : (j : List Choice) (t : Terms) (s : Setting) (used : List Place) (attempt : ℕ) (w : Waiting) (name pointer : List ℕ) (pointers : List (Option Bp)) (images : Images) → w.request.work ≡ Claim name pointer
    → t.setting ≡ s → (is_claim (kind_of w.request.work) ≡ true → SamePlaces used t.used) → own_work j t attempt (pending_of w) w.request.work pointers images ≡ own_claim (claim_tree s used pointer images)
claim_meant j t s used attempt w name pointer pointers images work setting fresh =
    ap (λ (k : Work). own_work j t attempt (pending_of w) k pointers images) work ∙ ap (λ z. own_claim (claim_tree z t.used pointer images)) setting
    ∙ ap own_claim (claim_same s t.used used pointer images (SamePlaces-back used t.used (fresh (ap (λ (k : Work). is_claim (kind_of k)) work))))

-- ---- what was done

abbrev IsMemory : Result OwnDone Stop → Type 0
IsMemory (Ok done) = ⊥
IsMemory (Err Memory) = Unit {0}
IsMemory (Err Device) = ⊥

no_device : (stop : Stop) → (let r : Result OwnDone Stop = Err stop in r ≡ Err Memory) → stop ≡ Device → ⊥
no_device stop is e = subst IsMemory (ap (λ (s : Stop). Err s) e) (subst IsMemory (sym is) tt)

module _ {D : Type 0} {bytes faults faults_at_fetch : D → ℕ} {home image : D → List ℕ → Type 0} {sound : D → Type 0} where
  -- the same end and places by other names
  pub does_as : {Lawful : EntryLaw} {w : Waiting} {attempt : ℕ} {pointers : List (Option Bp)} {old new : SeenGround D} {end other : OwnEnd} {taken places : List Place} → other ≡ end → places ≡ taken
      → DoesOwn bytes faults faults_at_fetch home image sound Lawful w attempt pointers old new end taken → DoesOwn bytes faults faults_at_fetch home image sound Lawful w attempt pointers old new other places
  does_as {Lawful} {w} {attempt} {pointers} {old} {new} {end} {other} {taken} {places} e f h =
      subst (λ x. DoesOwn bytes faults faults_at_fetch home image sound Lawful w attempt pointers old new x places) (sym e)
      (subst (λ ps. DoesOwn bytes faults faults_at_fetch home image sound Lawful w attempt pointers old new end ps) (sym f) h)

  -- from and to the same disks by other names
  pub starts : {Lawful : EntryLaw} {w : Waiting} {attempt : ℕ} {pointers : List (Option Bp)} {end : OwnEnd} {taken : List Place} (old new : SeenGround D) (disks left : List D) → disks ≡ old.disks → new.disks ≡ left
      → DoesOwn bytes faults faults_at_fetch home image sound Lawful w attempt pointers (record old { disks = disks }) (record new { disks = left }) end taken
      → DoesOwn bytes faults faults_at_fetch home image sound Lawful w attempt pointers old new end taken
  starts {Lawful} {w} {attempt} {pointers} {end} {taken} old new disks left e f h =
      subst (λ ds. DoesOwn bytes faults faults_at_fetch home image sound Lawful w attempt pointers (record old { disks = ds }) new end taken) e
      (subst (λ ds. DoesOwn bytes faults faults_at_fetch home image sound Lawful w attempt pointers (record old { disks = disks }) (record new { disks = ds }) end taken) (sym f) h)

  pub starts_breaks : {device : Type 0} (w : Waiting) (old new : SeenGround D) (disks left : List D) → disks ≡ old.disks → new.disks ≡ left
      → BreaksOwn bytes faults faults_at_fetch home image sound w (record old { disks = disks }) (record new { disks = left }) device → BreaksOwn bytes faults faults_at_fetch home image sound w old new device
  starts_breaks {device} w old new disks left e f h =
      subst (λ ds. BreaksOwn bytes faults faults_at_fetch home image sound w (record old { disks = ds }) new device) e
      (subst (λ ds. BreaksOwn bytes faults faults_at_fetch home image sound w (record old { disks = disks }) (record new { disks = ds }) device) (sym f) h)

  -- where memory may be wanted for the list of its places
  pub ended_does : {Lawful : EntryLaw} {w : Waiting} {old new : SeenGround D} {end : OwnEnd} {taken : List Place} (r : Result OwnDone Stop) → IfOk r (λ (done : OwnDone). done.end ≡ end) → IfOk r (λ (done : OwnDone). done.taken ≡ taken)
      → ((attempt : ℕ) (pointers : List (Option Bp)) → DoesOwn bytes faults faults_at_fetch home image sound Lawful w attempt pointers old new end taken)
      → IfOk r (λ (done : OwnDone). (attempt : ℕ) (pointers : List (Option Bp)) → DoesOwn bytes faults faults_at_fetch home image sound Lawful w attempt pointers old new done.end done.taken)
  ended_does {Lawful} (Ok done) e f h = λ attempt pointers. does_as e f (h attempt pointers)
  ended_does {Lawful} (Err stop) e f h = tt

  pub memory_breaks_own : (w : Waiting) (old new : SeenGround D) (r : Result OwnDone Stop) → OnErr r (r ≡ Err Memory)
      → ((device : Type 0) → (device → ⊥) → BreaksOwn bytes faults faults_at_fetch home image sound w old new device)
      → IfErr r (λ stop. BreaksOwn bytes faults faults_at_fetch home image sound w old new (stop ≡ Device))
  memory_breaks_own w old new (Ok done) memory h = tt
  memory_breaks_own w old new (Err stop) memory h = h (stop ≡ Device) (no_device stop memory)

  pub read_does : {Lawful : EntryLaw} {went : List Written → D → D → Type 0} → HoldsOfNone Lawful → (w : Waiting) (attempt : ℕ) (pointers : List (Option Bp)) (old : SeenGround D) (disks : List D) (tree : Tree) (found : Result (List ℕ) Errno) (name : List ℕ) (prio : Prio)
      → w.request.work ≡ Read name prio → w.block ≡ Some tree → CanRun bytes old w.block → IsSound IsWholeTree w
      → ((images : Images) → Tell image old.disks images → (found ≡ (read_tree old.setting tree images).found) × Tell image disks (read_tree old.setting tree images).images)
      → (IsWholeTree tree → IfOk found (λ bs. length bs ≡ tree.bp.size))
      → Handles {A = Result (List ℕ) Errno} bytes faults faults_at_fetch home image sound went (spots_of old.setting (tree_places tree)) (Ok found) old.disks disks
      → DoesOwn bytes faults faults_at_fetch home image sound Lawful w attempt pointers old (record old { disks = disks }) (found_end found) []
  read_does {Lawful} empty w attempt pointers old disks tree found name prio work block can sound_w told size h =
      quiet_does {answer = found} empty (tree_places tree) w attempt pointers old disks (found_end found) (tree_within w tree block) (tree_lies {old = old} {block = w.block} tree can block) can.held h
      (found_is_end w tree found
      (ap (λ (k : Work). read_size k w.block) work ∙ ap (read_size (Read name prio)) block)
      ((valid_parts tree.bp (tree_placed {old = old} {block = w.block} tree can block).0.ok).size.whole)
      (size (subst (λ (o : Option Tree). IfSome o IsWholeTree) block sound_w.fit)))
      (none_found found)
      (λ t ts fresh images tell. (
        (read_tree old.setting tree images).images,
        (told images tell).1,
        λ j. found_is_own (own_work j t attempt (pending_of w) w.request.work pointers images) found old.given (read_tree old.setting tree images).images
            (read_meant j t old.setting attempt w tree name prio pointers images work block ts ∙ ap (λ f. own_found f (read_tree old.setting tree images).images) (sym (told images tell).0)),
      ))
    where
      none_found : (f : Result (List ℕ) Errno) → (found_end f).tree ≡ None
      none_found (Ok bs) = refl
      none_found (Err e) = refl

  pub free_does : {Lawful : EntryLaw} {went : List Written → D → D → Type 0} → HoldsOfNone Lawful → (w : Waiting) (attempt : ℕ) (pointers : List (Option Bp)) (old : SeenGround D) (disks : List D) (tree : Tree) (error : Option Errno) (name : List ℕ)
      → w.request.work ≡ Free name → w.block ≡ Some tree → CanRun bytes old w.block
      → ((images : Images) → Tell image old.disks images → (error ≡ (free_tree old.setting tree images).error) × Tell image disks (free_tree old.setting tree images).images)
      → Handles {A = Option Errno} bytes faults faults_at_fetch home image sound went (spots_of old.setting (tree_places tree)) (Ok error) old.disks disks
      → DoesOwn bytes faults faults_at_fetch home image sound Lawful w attempt pointers old (record old { disks = disks }) (error_end error) []
  free_does {Lawful} empty w attempt pointers old disks tree error name work block can told h =
      quiet_does {answer = error} empty (tree_places tree) w attempt pointers old disks (error_end error) (tree_within w tree block) (tree_lies {old = old} {block = w.block} tree can block) can.held h
      (error_is_end w error (λ e. ap (λ (k : Work). read_size k w.block) work)) refl
      (λ t ts fresh images tell. (
        (free_tree old.setting tree images).images,
        (told images tell).1,
        λ j. error_is_own (own_work j t attempt (pending_of w) w.request.work pointers images) error old.given (free_tree old.setting tree images).images
            (free_meant j t old.setting attempt w tree name pointers images work block ts ∙ ap (λ f. only_error f (free_tree old.setting tree images).images) (sym (told images tell).0)),
      ))

  -- a claim that is refused, where the chooser stayed as it was
  pub refused_does : {Lawful : EntryLaw} {went : List Written → D → D → Type 0} → HoldsOfNone Lawful → (w : Waiting) (attempt : ℕ) (pointers : List (Option Bp)) (old : SeenGround D) (disks : List D) (sizes : List TopSize) (used live : List Place) (given : List Choice) (error : Errno) (name pointer : List ℕ)
      → w.request.work ≡ Claim name pointer → CanRun bytes old w.block
      → ((images : Images) → Tell image old.disks images → (Err error ≡ (claim_tree old.setting old.used pointer images).tree) × Tell image disks (claim_tree old.setting old.used pointer images).images)
      → Handles {A = Result Tree Errno} bytes faults faults_at_fetch home image sound went [] (Ok (Err error)) old.disks disks
      → sizes ≡ old.sizes → used ≡ old.used → live ≡ old.live → given ≡ old.given
      → DoesOwn bytes faults faults_at_fetch home image sound Lawful w attempt pointers old (record old { disks = disks; sizes = sizes; used = used; live = live; given = given }) (error_end (Some error)) []
  refused_does {Lawful} empty w attempt pointers old disks sizes used live given error name pointer work can told h at_z at_u at_l at_g =
      subst (λ (new : SeenGround D). DoesOwn bytes faults faults_at_fetch home image sound Lawful w attempt pointers old new (error_end (Some error)) [])
      (λ i. record old { disks = disks; sizes = sym at_z i; used = sym at_u i; live = sym at_l i; given = sym at_g i })
      (quiet_does empty [] w attempt pointers old disks (error_end (Some error)) (λ named fits. tt) refl can.held h
      (error_is_end w (Some error) (λ e. ap (λ (k : Work). read_size k w.block) work)) refl
      (λ t ts fresh images tell. (
        (claim_tree old.setting old.used pointer images).images,
        (told images tell).1,
        λ j. error_is_own (own_work j t attempt (pending_of w) w.request.work pointers images) (Some error) old.given (claim_tree old.setting old.used pointer images).images
            (claim_meant j t old.setting old.used attempt w name pointer pointers images work ts fresh
            ∙ ap (λ (f : Result Tree Errno). own_claimed f (claim_tree old.setting old.used pointer images).images) (sym (told images tell).0)),
      )))

  claim_moved : {Lawful : EntryLaw} {went : List Written → D → D → Type 0} → HoldsOfNone Lawful → (w : Waiting) (old : SeenGround D) (disks : List D) (sizes : List TopSize) (used live : List Place) (given : List Choice) (tree : Tree) (named : Named) → is_claim (kind_of w.request.work) ≡ true
      → AreNamed named w.request.work w.block → IsPlacedTree old.sizes tree → AreHeld old.sizes old.used old.live
      → Handles {A = Result Tree Errno} bytes faults faults_at_fetch home image sound went [] (Ok (Ok tree)) old.disks disks
      → AreTaken (tree_places tree) old.used old.live used live → AreHeld sizes used live → sizes ≡ old.sizes → given ≡ old.given
      → Moves bytes faults faults_at_fetch home image sound Lawful named old (record old { disks = disks; sizes = sizes; used = used; live = live; given = given }) (tree_places tree)
  claim_moved {Lawful} empty w old disks sizes used live given tree named claims fits placed held h taken holds at_z at_g = Moved held (record {
    setting = refl;
    round = refl;
    sizes = at_z;
    disks = h.same;
    steady = h.steady;
    outside = changed_at image old (record old { disks = disks; sizes = sizes; used = used; live = live; given = given }) named.places [] refl tt h.outside;
    more = [];
    claimed = tree_places tree;
    given = at_g ∙ sym (append-nil old.given);
    rounds = tt;
    used = taken.used;
    lawful = empty old.sizes old.used;
    unclaimed = λ none. absurd (false≢true (sym none ∙ sym fits.claim ∙ claims));
    unasked = λ all. refl;
    live = taken.live;
    held = holds;
    were_open = taken.were_open;
    inside = tree_inside old.sizes tree placed;
  })

  pub claim_does : {Lawful : EntryLaw} {went : List Written → D → D → Type 0} → HoldsOfNone Lawful → (w : Waiting) (attempt : ℕ) (pointers : List (Option Bp)) (old : SeenGround D) (disks : List D) (sizes : List TopSize) (used live : List Place) (given : List Choice) (tree : Tree) (name pointer : List ℕ)
      → w.request.work ≡ Claim name pointer → CanRun bytes old w.block
      → ((images : Images) → Tell image old.disks images → (Ok tree ≡ (claim_tree old.setting old.used pointer images).tree) × Tell image disks (claim_tree old.setting old.used pointer images).images)
      → Handles {A = Result Tree Errno} bytes faults faults_at_fetch home image sound went [] (Ok (Ok tree)) old.disks disks
      → AreTaken (tree_places tree) old.used old.live used live → (AreHeld old.sizes old.used old.live → AreHeld sizes used live)
      → IsWholeTree tree → IsPlacedTree (sizes_of old.setting.tops) tree → sizes ≡ old.sizes → given ≡ old.given
      → DoesOwn bytes faults faults_at_fetch home image sound Lawful w attempt pointers old (record old { disks = disks; sizes = sizes; used = used; live = live; given = given })
      (record { error = None; bytes = []; tree = Some tree; pointer = None }) (tree_places tree)
  claim_does {Lawful} empty w attempt pointers old disks sizes used live given tree name pointer work can told h taken holds whole placed at_z at_g =
      let new : SeenGround D = record old { disks = disks; sizes = sizes; used = used; live = live; given = given } in
      let claims : is_claim (kind_of w.request.work) ≡ true = ap (λ (k : Work). is_claim (kind_of k)) work in
      record {
        told = λ t ts tr fresh images tell. record {
          after = (claim_tree old.setting old.used pointer images).images;
          told = (told images tell).1;
          meant = λ j answers. subst
              (λ (o : Own). IsOwn o (record { error = None; bytes = []; tree = Some tree; pointer = None }) old.given given (claim_tree old.setting old.used pointer images).images)
              (sym (claim_meant j t old.setting old.used attempt w name pointer pointers images work ts fresh
              ∙ ap (λ (f : Result Tree Errno). own_claimed f (claim_tree old.setting old.used pointer images).images) (sym (told images tell).0)))
              (record { is = refl; asks = ap asks_of at_g ∙ sym (append-nil (asks_of old.given)) });
        };
        is_end = record {
          pointer = tt;
          whole = λ e. whole;
          makes = λ some. ap makes_block work;
          sectors = refl;
          size = λ e. subst (AllByRecursion (λ n. 0 ≡ n)) (sym (ap (λ (k : Work). read_size k w.block) work)) tt;
        };
        asked = record { more = []; is = at_g ∙ sym (append-nil old.given); of = tt; distinct = tt };
        taken_are = sym (one_block tree);
        moved = λ named fits. subst (λ ps. Moves bytes faults faults_at_fetch home image sound Lawful named old new ps) (sym (one_block tree))
            (claim_moved empty w old disks sizes used live given tree named claims fits (subst (λ z. IsPlacedTree z tree) (sym can.sizes) placed) can.held h taken (holds can.held) at_z at_g);
      }
