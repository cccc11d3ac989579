-- What the own work of each kind of request did.
use Rattle.std.proofs.Common.{◌≡◌, ℕ, ◌%◌, List, [], ◌∷◌, map, length, ◌⊎◌, inl, refl, sym, ap, ◌∙◌, subst}
use Rattle.std.specs.Prelude.{true, Contains, IsTrue, Option, Some, None, Result, Ok, Err, IfOk}
use Rattle.std.specs.List.{AllByRecursion, list_all}
use Rattle.std.proofs.lemmas.Bool.{false≢true}
use Rattle.std.proofs.lemmas.List.{append-nil}
use Rattle.zio_types.specs.declared.error.Errno.{Errno}
use Rattle.zio_types.specs.declared.place.Place.{Place}
use Rattle.zio_types.specs.Choices.{Choice}
use Rattle.zio_types.specs.Places.{SamePlaces, is_free, is_inside}
use Rattle.zio_blkptr.specs.declared.pointer.Bp.{Bp}
use Rattle.zio_script.specs.Requests.{kind_of}
use Rattle.zio_script.specs.Whys.{is_claim}
use Rattle.zio_cksum.specs.Frames.{spots_of}
use Rattle.zio_cksum.specs.Images.{Images}
use Rattle.zio_cksum.proofs.AllLemmas.{all_weaker}
use Rattle.zio_gang.specs.declared.tree.Tree.{Tree}
use Rattle.zio_gang.specs.Attempts.{Own, Terms, only_error, own_found, own_work}
use Rattle.zio_gang.specs.Journals.{asks_of}
use Rattle.zio_outside.specs.declared.written.Written.{Written}
use Rattle.zio_disks.specs.Disks.{AnyRose, AreSameDisks, Handles, Tell, TellOutside}
use Rattle.zio_disks.specs.declared.setting.Stop.{Stop as DiskStop}
use Rattle.zio_disks.specs.declared.setting.Stop.TheVariants.{Device as DiskDevice, Memory as DiskMemory}
use Rattle.zio_blocks.specs.Choosers.{AreHeld, EntryLaw, HoldsOfNone}
use Rattle.zio_course.specs.declared.runner.Stop.{Stop}
use Rattle.zio_course.specs.declared.runner.Stop.TheVariants.{Device}
use Rattle.zio_course.specs.Runners.{places_of_block, read_size}
use Rattle.zio_plain.specs.declared.owns.OwnEnd.{OwnEnd}
use Rattle.zio_plain.specs.declared.waiting.Waiting.{Waiting}
use Rattle.zio_plain.specs.Grounds.{Moves, SeenGround, TellChanged}
use Rattle.zio_plain.specs.Grounds.Moves.{Moved}
use Rattle.zio_plain.specs.GroundLaws.{memory_no_device}
use Rattle.zio_plain.specs.OwnEnds.{AreNamed, IsOwn, IsOwnEnd, Named}
use Rattle.zio_plain.specs.Waits.{pending_of}
use Rattle.zio_plain.specs.Works.{BreaksOwn, DoesOwn, stop_of}
use Rattle.zio_plain.proofs.GroundTaken.{same_places}

-- ---- ends

-- an error or none, and nothing else
abbrev pub error_end : Option Errno → OwnEnd
error_end error = record { error = error; bytes = []; tree = None; pointer = None }

-- bytes or an error
abbrev pub found_end : Result (List ℕ) Errno → OwnEnd
found_end (Ok bytes) = record { error = None; bytes = bytes; tree = None; pointer = None }
found_end (Err e) = error_end (Some e)

pub error_is_end : (w : Waiting) (error : Option Errno) → (error ≡ None → read_size w.request.work w.block ≡ []) → IsOwnEnd w (error_end error)
error_is_end w error none = record {
  pointer = tt;
  whole = λ e. tt;
  makes = λ some. absurd (false≢true some);
  sectors = refl;
  size = λ e. subst (AllByRecursion (λ n. 0 ≡ n)) (sym (none e)) tt;
}

pub found_is_end : (w : Waiting) (tree : Tree) (found : Result (List ℕ) Errno) → read_size w.request.work w.block ≡ tree.bp.size ∷ [] → tree.bp.size % 512 ≡ 0 → IfOk found (λ bytes. length bytes ≡ tree.bp.size)
    → IsOwnEnd w (found_end found)
found_is_end w tree (Ok bytes) sizes whole len = record {
  pointer = tt;
  whole = λ e. tt;
  makes = λ some. absurd (false≢true some);
  sectors = ap (λ n. n % 512) len ∙ whole;
  size = λ e. subst (AllByRecursion (λ n. length bytes ≡ n)) (sym sizes) (len, tt);
}
found_is_end w tree (Err e) sizes whole len = error_is_end w (Some e) (λ none. absurd (cc))

-- ---- what is meant

pub error_is_own : (own : Own) (error : Option Errno) (given : List Choice) (after : Images) → own ≡ only_error error after → IsOwn own (error_end error) given given after
error_is_own own error given after e =
    subst (λ o. IsOwn o (error_end error) given given after) (sym e) (record { is = refl; asks = sym (append-nil (asks_of given)) })

pub found_is_own : (own : Own) (found : Result (List ℕ) Errno) (given : List Choice) (after : Images) → own ≡ own_found found after → IsOwn own (found_end found) given given after
found_is_own own (Err x) given after e = error_is_own own (Some x) given after e
found_is_own own (Ok bytes) given after e =
    subst (λ o. IsOwn o (found_end (Ok bytes)) given given after) (sym e) (record { is = refl; asks = sym (append-nil (asks_of given)) })

-- ---- stops

stop_device : (stop : DiskStop) → stop_of stop ≡ Device → stop ≡ DiskDevice
stop_device DiskDevice e = refl
stop_device DiskMemory e = absurd (memory_no_device e)

-- ---- images that changed at some places

pub changed_at : {D : Type 0} (image : D → List ℕ → Type 0) (old new : SeenGround D) (named places : List Place) → IsTrue (list_all (is_inside old.sizes) places)
    → AllByRecursion (λ (p : Place). Contains named p ⊎ IsTrue (is_free old.used p)) places → TellOutside image (spots_of old.setting places) old.disks new.disks → TellChanged image named old new
changed_at image old new named places inside may outside before told =
    let o = outside before told in
    (o.0, o.1, record { places = places; inside = inside; may = may; same = o.2 })

pub named_may : (used named places : List Place) → AllByRecursion (Contains named) places → AllByRecursion (λ (p : Place). Contains named p ⊎ IsTrue (is_free used p)) places
named_may used named places within = all_weaker (Contains named) (λ (p : Place). Contains named p ⊎ IsTrue (is_free used p)) places (λ p there. inl there) within

-- ---- own work that takes no place

module _ {D : Type 0} {bytes faults faults_at_fetch : D → ℕ} {home image : D → List ℕ → Type 0} {sound : D → Type 0} where
  quiet_moved : {Lawful : EntryLaw} {went : List Written → D → D → Type 0} {A : Type 0} {answer : A} {named : Named} → HoldsOfNone Lawful → (places : List Place) {old : SeenGround D} {disks : List D} → AllByRecursion (Contains named.places) places → IsTrue (list_all (is_inside old.sizes) places)
      → AreHeld old.sizes old.used old.live → Handles {A = A} bytes faults faults_at_fetch home image sound went (spots_of old.setting places) (Ok answer) old.disks disks
      → Moves bytes faults faults_at_fetch home image sound Lawful named old (record old { disks = disks }) []
  quiet_moved {Lawful} {went} {A} {answer} {named} none places {old} {disks} within inside held h = Moved held (record {
    setting = refl;
    round = refl;
    sizes = refl;
    disks = h.same;
    steady = h.steady;
    outside = changed_at image old (record old { disks = disks }) named.places places inside (named_may old.used named.places places within) h.outside;
    more = [];
    claimed = [];
    given = sym (append-nil old.given);
    rounds = tt;
    used = same_places old.used;
    lawful = none old.sizes old.used;
    unclaimed = λ e. refl;
    unasked = λ e. refl;
    live = same_places old.live;
    held = held;
    were_open = refl;
    inside = refl;
  })

  -- it is told by these images, and gives an end without a block
  pub quiet_does : {Lawful : EntryLaw} {went : List Written → D → D → Type 0} {A : Type 0} {answer : A} → HoldsOfNone Lawful → (places : List Place) (w : Waiting) (attempt : ℕ) (pointers : List (Option Bp)) (old : SeenGround D) (disks : List D) (end : OwnEnd)
      → ((named : Named) → AreNamed named w.request.work w.block → AllByRecursion (Contains named.places) places) → IsTrue (list_all (is_inside old.sizes) places)
      → AreHeld old.sizes old.used old.live → Handles {A = A} bytes faults faults_at_fetch home image sound went (spots_of old.setting places) (Ok answer) old.disks disks
      → IsOwnEnd w end → end.tree ≡ None
      → ((t : Terms) → t.setting ≡ old.setting → (is_claim (kind_of w.request.work) ≡ true → SamePlaces old.used t.used) → (images : Images) → Tell image old.disks images
      → (after : Images) × Tell image disks after × ((journal : List Choice) → IsOwn (own_work journal t attempt (pending_of w) w.request.work pointers images) end old.given old.given after))
      → DoesOwn bytes faults faults_at_fetch home image sound Lawful w attempt pointers old (record old { disks = disks }) end []
  quiet_does {Lawful} {went} {A} {answer} empty places w attempt pointers old disks end within inside held h is_end none told = record {
    told = λ t ts tr fresh images tell.
        (let one = told t ts fresh images tell in record { after = one.0; told = one.1; meant = λ journal answers. one.2 journal });
    is_end = is_end;
    asked = record { more = []; is = sym (append-nil old.given); of = tt; distinct = tt };
    taken_are = sym (ap places_of_block none);
    moved = λ named fits.
        subst (λ (o : Option Tree). Moves bytes faults faults_at_fetch home image sound Lawful named old (record old { disks = disks }) (places_of_block o)) (sym none)
        (quiet_moved empty places (within named fits) inside held h);
  }

  -- ---- stops

  -- it was stopped with what changed at some places, which are named or weren't in use
  pub breaks_at : (places : List Place) (w : Waiting) (old new : SeenGround D) (device : Type 0) → new.setting ≡ old.setting → new.sizes ≡ old.sizes
      → IsTrue (list_all (is_inside old.sizes) places) → ((named : Named) → AreNamed named w.request.work w.block → AllByRecursion (λ (p : Place). Contains named.places p ⊎ IsTrue (is_free old.used p)) places)
      → AreSameDisks bytes faults faults_at_fetch home image sound old.disks new.disks → (device → AnyRose (map faults old.disks) (map faults new.disks))
      → ((device → ⊥) → map faults new.disks ≡ map faults old.disks) → TellOutside image (spots_of old.setting places) old.disks new.disks
      → BreaksOwn bytes faults faults_at_fetch home image sound w old new device
  breaks_at places w old new device at_s at_z inside may same rose calm outside named fits = record {
    setting = at_s;
    sizes = at_z;
    disks = same;
    rose = rose;
    calm = calm;
    outside = changed_at image old new named.places places inside (may named fits) outside;
  }

  -- by a disk or for want of memory
  pub stopped_rose : {went : List Written → D → D → Type 0} {A : Type 0} {spots : List _} {a b : List D} (stop : DiskStop) (answer : Stop) → answer ≡ stop_of stop
      → Handles {A = A} bytes faults faults_at_fetch home image sound went spots (Err stop) a b → answer ≡ Device → AnyRose (map faults a) (map faults b)
  stopped_rose stop answer is h e = h.device (ap (λ s. Err s) (stop_device stop (sym is ∙ e)))

  pub stopped_calm : {went : List Written → D → D → Type 0} {A : Type 0} {spots : List _} {a b : List D} (stop : DiskStop) (answer : Stop) → answer ≡ stop_of stop
      → Handles {A = A} bytes faults faults_at_fetch home image sound went spots (Err stop) a b → (answer ≡ Device → ⊥) → map faults b ≡ map faults a
  stopped_calm DiskDevice answer is h other = absurd (other is)
  stopped_calm DiskMemory answer is h other = h.calm (λ e. cc)
