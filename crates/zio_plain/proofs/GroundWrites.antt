-- The own work of writes.
use Rattle.std.proofs.Common.{◌≡◌, ℕ, ◌<◌, List, [], ◌++◌, ◌⊎◌, inr, refl, sym, ap, ◌∙◌, subst, lit<}
use Rattle.std.specs.Prelude.{true, false, find, Contains, IsPermutation, IsTrue, Option, Some, None, option_map, Result, Ok, Err, IfErr, IfOk, IfSome}
use Rattle.std.specs.Result.{IsErrAnd}
use Rattle.std.specs.List.{AllByRecursion}
use Rattle.std.proofs.lemmas.Bool.{false≢true}
use Rattle.std.proofs.lemmas.List.{map-append}
use Rattle.std.proofs.lemmas.List.Sorted.{Contains-permutation}
use Rattle.zio_types.specs.declared.error.Errno.{Errno}
use Rattle.zio_types.specs.declared.error.Errno.TheVariants.{Nospc}
use Rattle.zio_types.specs.declared.place.Place.{Place}
use Rattle.zio_types.specs.declared.place.TopSize.{TopSize}
use Rattle.zio_types.specs.declared.request.Prio.{Prio}
use Rattle.zio_types.specs.Choices.{Choice, same_ask}
use Rattle.zio_types.specs.Errors.{rank}
use Rattle.zio_types.specs.Places.{SamePlaces, are_open, is_free}
use Rattle.zio_blkptr.specs.declared.pointer.Bp.{Bp}
use Rattle.zio_blkptr.specs.declared.pointer.SumKind.{SumKind}
use Rattle.zio_blkptr.specs.Pointers.{valid}
use Rattle.zio_script.specs.declared.script.Body.{Body}
use Rattle.zio_script.specs.declared.script.Work.{Work}
use Rattle.zio_script.specs.declared.script.Work.TheVariants.{Write}
use Rattle.zio_script.specs.Bodies.{body_of}
use Rattle.zio_script.specs.Requests.{kind_of, makes_block}
use Rattle.zio_script.specs.Whys.{is_claim}
use Rattle.zio_cksum.specs.Frames.{spots_of}
use Rattle.zio_cksum.specs.Images.{Images, Setting}
use Rattle.zio_cksum.proofs.AllLemmas.{all_weaker}
use Rattle.zio_gang.specs.declared.tree.Tree.{Tree}
use Rattle.zio_gang.specs.Attempts.{Own, Terms, own_work, own_write, placed_tree, writing_of}
use Rattle.zio_gang.specs.Journals.{HaveDistinctKeys, asks_of}
use Rattle.zio_gang.specs.Trees.{sizes_of, tree_places}
use Rattle.zio_gang.specs.Writes.{Placed, content_of, place_block}
use Rattle.zio_gang.specs.Writes.{Writing as Parts}
use Rattle.zio_outside.specs.declared.written.Written.{Written}
use Rattle.zio_disks.specs.Disks.{Handles, Tell}
use Rattle.zio_disks.specs.Trees.{IsPlacedTree}
use Rattle.zio_disks.specs.Whole.{IsWholeTree}
use Rattle.zio_disks.proofs.WriteLemmas.{all_right}
use Rattle.zio_blocks.specs.declared.place.PlacedBlock.{PlacedBlock}
use Rattle.zio_blocks.specs.declared.place.Writing.{Writing}
use Rattle.zio_blocks.specs.Blocks.{AnswersBy, AsksFor, IsOf, Places, terms_of}
use Rattle.zio_blocks.specs.Choosers.{AreHeld, EntryLaw, GivesEntries, GivesOpen, IsFoundEntry, given_since, taken_by_all}
use Rattle.zio_blocks.proofs.OpenLemmas.{found_open}
use Rattle.zio_cksum.proofs.PlaceSets.{SamePlaces-append, SamePlaces-back, SamePlaces-moved, SamePlaces-then}
use Rattle.zio_course.specs.declared.runner.Stop.{Stop}
use Rattle.zio_course.specs.declared.runner.Stop.TheVariants.{Device, Memory}
use Rattle.zio_course.specs.Runners.{places_of_block, read_size}
use Rattle.zio_plain.specs.GroundLaws.{breaks_itself, memory_no_device}
use Rattle.zio_plain.specs.declared.works.OwnDone.{OwnDone}
use Rattle.zio_plain.specs.declared.owns.OwnEnd.{OwnEnd}
use Rattle.zio_plain.specs.declared.waiting.Waiting.{Waiting}
use Rattle.zio_plain.specs.Grounds.{Moves, SeenGround}
use Rattle.zio_plain.specs.Grounds.Moves.{Moved}
use Rattle.zio_plain.specs.OwnEnds.{AreNamed, IsOwn, IsOwnEnd, Named}
use Rattle.zio_plain.specs.Waits.{pending_of}
use Rattle.zio_plain.specs.Works.{BreaksOwn, DoesOwn}
use Rattle.zio_plain.proofs.GroundOwn.{changed_at}
use Rattle.zio_plain.proofs.GroundReads.{does_as}
use Rattle.zio_plain.proofs.GroundTaken.{block_moved, inside_among, taken_free, taken_inside}

-- ---- the end of a write

-- the block that was placed, with its pointer
abbrev pub placed_end : PlacedBlock → OwnEnd
placed_end placed = record { error = placed.error; bytes = []; tree = placed.tree; pointer = option_map (λ (tree : Tree). tree.bp) placed.tree }

pointer_valid : (sizes : List TopSize) (tree : Option Tree) → IfSome tree (IsPlacedTree sizes) → IfSome (option_map (λ (t : Tree). t.bp) tree) (λ bp. IsTrue (valid bp))
pointer_valid sizes None h = tt
pointer_valid sizes (Some tree) h = h.0.ok

placed_is_end : (w : Waiting) (placed : PlacedBlock) (sizes : List TopSize) (name : List ℕ) (sum : SumKind) (copies : ℕ) (prio : Prio) (body : Body) → w.request.work ≡ Write name sum copies prio body
    → IfSome placed.tree (IsPlacedTree sizes) → (rank placed.error < rank (Some Nospc) → IfSome placed.tree IsWholeTree) → IsOwnEnd w (placed_end placed)
placed_is_end w placed sizes name sum copies prio body work lies whole = record {
  pointer = pointer_valid sizes placed.tree lies;
  whole = λ none. whole (subst (λ (e : Option Errno). rank e < rank (Some Nospc)) (sym none) (lit< tt));
  makes = λ some. ap makes_block work;
  sectors = refl;
  size = λ e. subst (AllByRecursion (λ n. 0 ≡ n)) (sym (ap (λ (k : Work). read_size k w.block) work)) tt;
}

-- ---- what is meant

pointer_back : (o : Option Bp) (p : Placed) → option_map (λ (t : Tree). t.bp) (placed_tree o p) ≡ o
pointer_back None p = refl
pointer_back (Some bp) p = refl

-- the journal answers the ask of the entry by that entry
abbrev AnswersOne : List Choice → Choice → Type 0
AnswersOne journal e = find (λ (c : Choice). same_ask c.asked e.asked) journal ≡ Some e

-- the write is one of the request's, in this attempt
pub record IsWriteOf (w : Waiting) (setting : Setting) (round attempt : ℕ) (sum : SumKind) (copies : ℕ) (writing : Writing) : Type 0 where
  pub request : writing.request ≡ w.request.number
  pub round_is : writing.round ≡ round
  pub attempt_is : writing.attempt ≡ attempt
  pub sum_is : writing.sum ≡ sum
  pub copies_are : writing.copies ≡ copies
  pub birth : writing.birth ≡ w.birth

same_parts : (w : Waiting) (t : Terms) (setting : Setting) (round attempt : ℕ) (sum : SumKind) (copies : ℕ) (writing : Writing) → IsWriteOf w setting round attempt sum copies writing → t.setting ≡ setting → t.round ≡ round
    → writing_of t attempt (pending_of w) sum copies ≡ terms_of setting writing
same_parts w t setting round attempt sum copies writing is ts tr = λ i. record {
  setting = ts i;
  request = sym is.request i;
  round = (tr ∙ sym is.round_is) i;
  attempt = sym is.attempt_is i;
  sum = sym is.sum_is i;
  copies = sym is.copies_are i;
  birth = sym is.birth i;
}

write_meant : (j : List Choice) (t : Terms) (setting : Setting) (round attempt : ℕ) (w : Waiting) (writing : Writing) (name : List ℕ) (sum : SumKind) (copies : ℕ) (prio : Prio) (body : Body) (pointers : List (Option Bp)) (content : List ℕ) (images : Images)
    → w.request.work ≡ Write name sum copies prio body → IsWriteOf w setting round attempt sum copies writing → t.setting ≡ setting → t.round ≡ round → content ≡ content_of pointers (body_of body)
    → own_work j t attempt (pending_of w) w.request.work pointers images ≡ own_write (place_block j (terms_of setting writing) content images)
write_meant j t setting round attempt w writing name sum copies prio body pointers content images work is ts tr stored =
    ap (λ (k : Work). own_work j t attempt (pending_of w) k pointers images) work
    ∙ ap (λ (p : Parts). own_write (place_block j p (content_of pointers (body_of body)) images)) (same_parts w t setting round attempt sum copies writing is ts tr)
    ∙ ap (λ bs. own_write (place_block j (terms_of setting writing) bs images)) (sym stored)

placed_is_own : (own : Own) (p : Placed) (placed : PlacedBlock) (old new more : List Choice) (after : Images) → own ≡ own_write p → new ≡ old ++ more
    → placed.error ≡ p.error → placed.tree ≡ placed_tree p.pointer p → asks_of more ≡ p.asks → after ≡ p.images → IsOwn own (placed_end placed) old new after
placed_is_own own p placed old new more after e behind error tree asks images =
    subst (λ o. IsOwn o (placed_end placed) old new after) (sym e)
    (record {
      is = λ i. record {
        error = sym error i;
        bytes = [];
        tree = sym tree i;
        pointer = (sym (ap (option_map (λ (t : Tree). t.bp)) tree ∙ pointer_back p.pointer p)) i;
        asks = p.asks;
        images = sym images i;
      };
      asks = ap asks_of behind ∙ map-append (λ (c : Choice). c.asked) old more ∙ ap (λ es. asks_of old ++ es) asks;
    })

-- ---- what was done

pub free_may : (used named places : List Place) → AllByRecursion (λ (p : Place). IsTrue (is_free used p)) places → AllByRecursion (λ (p : Place). Contains named p ⊎ IsTrue (is_free used p)) places
free_may used named places free = all_weaker (λ (p : Place). IsTrue (is_free used p)) (λ (p : Place). Contains named p ⊎ IsTrue (is_free used p)) places (λ p f. inr f) free

module _ {D : Type 0} {bytes faults faults_at_fetch : D → ℕ} {home image : D → List ℕ → Type 0} {sound : D → Type 0} where
  write_moved : {Lawful : EntryLaw} {went : List Written → D → D → Type 0} (w : Waiting) (old : SeenGround D) (disks : List D) (sizes : List TopSize) (used live : List Place) (given more : List Choice) (stay : List Place) (writing : Writing) (placed : PlacedBlock) (named : Named)
      → is_claim (kind_of w.request.work) ≡ false → AreNamed named w.request.work w.block → AreHeld old.sizes old.used old.live → AreHeld sizes used live
      → Handles {A = PlacedBlock} bytes faults faults_at_fetch home image sound went (spots_of old.setting (taken_by_all more)) (Ok placed) old.disks disks
      → given ≡ old.given ++ more → Lawful old.sizes old.used more → AllByRecursion (IsFoundEntry old.sizes) more → are_open old.used (taken_by_all more) ≡ true → AllByRecursion (IsOf writing) more → writing.round ≡ old.round
      → SamePlaces used (taken_by_all more ++ old.used) → SamePlaces live (taken_by_all more ++ old.live) → IsPermutation stay (taken_by_all more) → sizes ≡ old.sizes
      → Moves bytes faults faults_at_fetch home image sound Lawful named old (record old { disks = disks; sizes = sizes; used = used; live = live; given = given }) stay
  write_moved {Lawful} w old disks sizes used live given more stay writing placed named claims fits held holds h behind lawful found opened own round at_u at_l moved at_z = Moved held (record {
    setting = refl;
    round = refl;
    sizes = at_z;
    disks = h.same;
    steady = h.steady;
    outside = changed_at image old (record old { disks = disks; sizes = sizes; used = used; live = live; given = given }) named.places (taken_by_all more) (taken_inside old.sizes more found)
        (free_may old.used named.places (taken_by_all more) (taken_free old.used more opened)) h.outside;
    more = more;
    claimed = [];
    given = behind;
    rounds = all_weaker (IsOf writing) (λ (c : Choice). c.asked.key.round ≡ old.round) more (λ c of. of.round ∙ round) own;
    used = at_u;
    lawful = lawful;
    unclaimed = λ none. refl;
    unasked = λ all. absurd (false≢true (sym claims ∙ fits.claim ∙ all));
    live = SamePlaces-then live (taken_by_all more ++ old.live) (stay ++ old.live) at_l
        (SamePlaces-append (taken_by_all more) stay old.live (SamePlaces-back stay (taken_by_all more) (SamePlaces-moved stay (taken_by_all more) moved)));
    held = holds;
    were_open = found_open old.sizes old.used more stay found opened moved;
    inside = inside_among old.sizes (taken_by_all more) stay (λ p there. Contains-permutation stay (taken_by_all more) p moved there) (taken_inside old.sizes more found);
  })

  pub write_does : {Lawful : EntryLaw} {went : List Written → D → D → Type 0} → GivesEntries Lawful → GivesOpen Lawful → (w : Waiting) (attempt : ℕ) (pointers : List (Option Bp)) (old : SeenGround D) (disks : List D) (sizes : List TopSize) (used live : List Place) (given : List Choice) (writing : Writing) (placed : PlacedBlock)
      (content name : List ℕ) (sum : SumKind) (copies : ℕ) (prio : Prio) (body : Body)
      → w.request.work ≡ Write name sum copies prio body → IsWriteOf w old.setting old.round attempt sum copies writing → content ≡ content_of pointers (body_of body)
      → AreHeld old.sizes old.used old.live → (AreHeld old.sizes old.used old.live → AreHeld sizes used live) → sizes ≡ old.sizes
      → ((images : Images) → Tell image old.disks images → Places image (terms_of old.setting writing) content images placed (given_since old.given given) disks)
      → AsksFor Lawful old.sizes writing old.used old.live old.given used live given → HaveDistinctKeys (asks_of (given_since old.given given))
      → IfSome placed.tree (λ (tree : Tree). IsPermutation (tree_places tree) (taken_by_all (given_since old.given given)))
      → (placed.tree ≡ None → taken_by_all (given_since old.given given) ≡ [])
      → IfSome placed.tree (IsPlacedTree (sizes_of old.setting.tops)) → (rank placed.error < rank (Some Nospc) → IfSome placed.tree IsWholeTree)
      → Handles {A = PlacedBlock} bytes faults faults_at_fetch home image sound went (spots_of old.setting (taken_by_all (given_since old.given given))) (Ok placed) old.disks disks
      → DoesOwn bytes faults faults_at_fetch home image sound Lawful w attempt pointers old (record old { disks = disks; sizes = sizes; used = used; live = live; given = given }) (placed_end placed) (places_of_block placed.tree)
  write_does {Lawful} finds opens w attempt pointers old disks sizes used live given writing placed content name sum copies prio body work is stored held holds at_z told asks keys places nowhere lies whole h =
      let more : List Choice = given_since old.given given in
      record {
        told = λ t ts tr fresh images tell.
            (let one = told images tell in record {
              after = one.after;
              told = one.told;
              meant = λ j answers.
                  (let meant = one.meant j (all_right (AnswersOne j) old.given more (subst (AnswersBy j) asks.behind answers)) in
                  placed_is_own (own_work j t attempt (pending_of w) w.request.work pointers images) (place_block j (terms_of old.setting writing) content images) placed old.given given more one.after
                  (write_meant j t old.setting old.round attempt w writing name sum copies prio body pointers content images work is ts tr stored)
                  asks.behind meant.error meant.tree meant.asks meant.after_is);
            });
        is_end = placed_is_end w placed (sizes_of old.setting.tops) name sum copies prio body work lies whole;
        asked = record {
          more = more;
          is = asks.behind;
          of = all_weaker (IsOf writing) (λ (c : Choice). (c.asked.key.request ≡ w.request.number) × (c.asked.key.attempt ≡ attempt)) more
              (λ c of. (of.request ∙ is.request, of.attempt ∙ is.attempt_is)) asks.own;
          distinct = keys;
        };
        taken_are = refl;
        moved = λ named fits.
            write_moved w old disks sizes used live given more (places_of_block placed.tree) writing placed named (ap (λ (k : Work). is_claim (kind_of k)) work) fits held (holds held) h asks.behind asks.lawful
            (finds old.sizes old.used more asks.lawful) (opens old.sizes old.used more asks.lawful) asks.own
            is.round_is asks.used asks.live (block_moved placed.tree (taken_by_all more) places nowhere) at_z;
      }

  pub written_does : {Lawful : EntryLaw} {w : Waiting} {attempt : ℕ} {pointers : List (Option Bp)} {old new : SeenGround D} {end : OwnEnd} {taken : List Place} (r : Result OwnDone Stop) → IfOk r (λ (done : OwnDone). done.end ≡ end)
      → IfOk r (λ (done : OwnDone). done.taken ≡ taken) → DoesOwn bytes faults faults_at_fetch home image sound Lawful w attempt pointers old new end taken
      → IfOk r (λ (done : OwnDone). DoesOwn bytes faults faults_at_fetch home image sound Lawful w attempt pointers old new done.end done.taken)
  written_does {Lawful} (Ok done) e f h = does_as e f h
  written_does {Lawful} (Err stop) e f h = tt

-- where its content wasn't made for want of memory
pub content_breaks : {D : Type 0} (bytes faults faults_at_fetch : D → ℕ) (home image : D → List ℕ → Type 0) (sound : D → Type 0) (w : Waiting) (old : SeenGround D) (r : Result OwnDone Stop)
    → IsErrAnd r (λ stop. stop ≡ Memory) → IfErr r (λ stop. BreaksOwn bytes faults faults_at_fetch home image sound w old old (stop ≡ Device))
content_breaks bytes faults faults_at_fetch home image sound w old (Ok done) memory = tt
content_breaks bytes faults faults_at_fetch home image sound w old (Err stop) memory = λ named fits. breaks_itself old (λ e. memory_no_device (sym memory ∙ e))
