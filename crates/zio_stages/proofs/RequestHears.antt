-- A request in an attempt hears of its children.
use Rattle.std.proofs.Common.{◌≡◌, ℕ, zero, suc, ◌<◌, List, [], ◌∷◌, ◌++◌, length, set, slice_get, Option, Some, None, refl, sym, ap, ◌∙◌, subst, arith, length-set}
use Rattle.std.specs.Prelude.{IfSome, option_map}
use Rattle.zio_blkptr.specs.declared.pointer.Bp.{Bp}
use Rattle.zio_gang.specs.Attempts.{Pending, Terms}
use Rattle.zio_trace.specs.Families.{Forest}
use Rattle.zio_trace.specs.Tasks.{Attempt, Task}
use Rattle.zio_children.specs.RequestKids.{IsOutWith, KidsUnderWay, numbers_of, pointers_of, state_at}
use Rattle.zio_children.proofs.KidFields.{out_at}
use Rattle.zio_children.proofs.KidPlans.{numbers_length}
use Rattle.zio_frames.specs.Frames.{Child, Inner, OfOuter, Seat, Stack}
use Rattle.zio_frames.specs.Moves.{set_at, with_children}
use Rattle.zio_frames.specs.Seats.{asked_at}
use Rattle.zio_frames.specs.Slots.{Slot}
use Rattle.zio_frames.proofs.SlotMoves.{IsOutAt}
use Rattle.zio_parts.specs.Parts.{PartWriting}
use Rattle.zio_exchange.specs.Waits.{pending_of}
use Rattle.zio_stages.specs.declared.write_io.WriteIo.{WriteIo}
use Rattle.zio_stages.specs.KidTrees.{IsKids, KidsHeld}
use Rattle.zio_stages.specs.OwnParts.{IsBehind}
use Rattle.zio_stages.specs.WrittenBlocks.{HaveAllTold, IsBlockOf}
use Rattle.zio_stages.specs.PartWorks.{Front, IsPartWithin}
use Rattle.zio_stages.specs.RequestNodes.{IsOwnOf, IsRequestNode, IsSeatOf, front_by, own_got}
use Rattle.zio_stages.specs.declared.request_node.Own.{Own}
use Rattle.zio_stages.specs.declared.request_node.Own.TheVariants.{Claim, Due, Found, Free, Over, Read, Stored, Write}
use Rattle.zio_stages.specs.declared.request_node.RequestNode.{RequestNode}
use Rattle.zio_stages.proofs.RequestNodeLemmas.{with_kids}
use Rattle.zio_stages.proofs.RequestOwnLemmas.{StayOut, claim_still, found_still, free_still, read_still}
use Rattle.zio_stages.proofs.KidAsking.{kids_full, kids_out}
use Rattle.zio_stages.proofs.RequestSits.{IsAttemptAt, asked_there}

pub set_front : {X : Type 0} (xs ys : List X) (n : ℕ) (x : X) → n < length xs → set (xs ++ ys) n x ≡ set xs n x ++ ys
set_front [] ys n x l = absurd (omega arith)
set_front (y ∷ xs) ys zero x l = refl
set_front (y ∷ xs) ys (suc n) x l = ap (λ zs. y ∷ zs) (set_front xs ys n x (omega arith))

out_less : (n : ℕ) (slots : List Slot) → IsOutAt n slots → n < length slots
out_less n [] h = absurd h
out_less zero (s ∷ slots) h = omega arith
out_less (suc n) (s ∷ slots) h = let l : n < length slots = out_less n slots h in omega arith

pub kid_less : (t : Terms) (r : RequestNode) (st : Stack) (place : ℕ) (pointer : Option Bp) (h : IsRequestNode t r st)
    → IsOutWith pointer (state_at r.kids.kids.kids place) → place < length h.kid_slots
kid_less t r st place pointer h out = out_less place h.kid_slots (out_at pointer r.kids.kids.kids place h.kid_slots out h.kids.fits)

-- its place is that of the child's seat
pub seat_is : (family children : List Child) (child place : ℕ) (c : Child) → family ≡ children → IsSeatOf family child place
    → slice_get children child ≡ Some c → c.seat ≡ OfOuter place
seat_is family children child place c same seat there =
    let e : Some c.seat ≡ Some (OfOuter place) =
    sym (ap (option_map (λ (x : Child). x.seat)) (ap (λ (cs : List Child). slice_get cs child) same ∙ there)) ∙ seat in
    cc

pub one_place : (family : List Child) (child m n : ℕ) → IsSeatOf family child m → IsSeatOf family child n → m ≡ n
one_place family child m n a b =
    let e : Some (OfOuter m) ≡ Some (OfOuter n) = sym a ∙ b in cc

seat_within : (family : List Child) (child place : ℕ) → IsSeatOf family child place → child < length family
seat_within [] child place e = absurd (cc)
seat_within (c ∷ cs) zero place e = omega arith
seat_within (c ∷ cs) (suc child) place e = let l : child < length cs = seat_within cs child place e in omega arith

pub child_within : (family : List Child) (child place : ℕ) → IsSeatOf family child place → child < length family
child_within = seat_within

pub if_there : {X : Type 0} (o : Option X) (P : X → Type 0) (x : X) → IfSome o P → o ≡ Some x → P x
if_there None P x h e = absurd (cc)
if_there (Some y) P x h e = let is : y ≡ x = cc in subst P is h

-- what is asked of it has the child's number
pub number_there : (t : Terms) (r : RequestNode) (st : Stack) (place : ℕ) (c : Child) (p : Pending) (below : Forest) (h : IsRequestNode t r st)
    → place < length h.kid_slots → c.seat ≡ OfOuter place → asked_at st c.seat ≡ Some (Attempt r.attempt p below)
    → slice_get (numbers_of r.kids.kids.kids) place ≡ Some p.request.number
number_there t r st place c p below h l seat asked =
    let a : IsAttemptAt r.attempt h.forest place (Attempt r.attempt p below) =
    asked_there t r st place (Attempt r.attempt p below) h l (ap (asked_at st) (sym seat) ∙ asked) in
    let same : p ≡ a.root = let both : Attempt r.attempt p below ≡ Attempt r.attempt a.root a.below = a.is in cc in
    ap (λ (ns : List ℕ). slice_get ns place) (sym h.kids.roots) ∙ a.number ∙ ap (λ (q : Pending). Some q.request.number) (sym same)

-- ---- its own work goes on beside them

-- the children told what they told before
abbrev pub TellTheSame : KidsUnderWay → KidsUnderWay → Type 0
TellTheSame x y = HaveAllTold x → HaveAllTold y × (pointers_of y ≡ pointers_of x)

within_still : (t : Terms) (bytes : List ℕ) (w : PartWriting) (m n : ℕ) (io : Option WriteIo) (i j : Option Inner) → m ≡ n → j ≡ i
    → IsPartWithin t bytes w m io i → IsPartWithin t bytes w n io j
within_still t bytes w m n io i j e f h =
    subst (λ k. IsPartWithin t bytes w k io j) e (subst (λ (k : Option Inner). IsPartWithin t bytes w m io k) (sym f) h)

own_still : (t : Terms) (r s : RequestNode) (x y : KidsUnderWay) (f g : Front) (own : Own) (a b : Stack) (asked : List Task) (slots : List Slot)
    → IsOwnOf t r x f own a asked slots → s.attempt ≡ r.attempt → pending_of s.waiting ≡ pending_of r.waiting → TellTheSame x y → StayOut x y
    → length g.slots ≡ length f.slots → IsBehind g.asked g.slots asked slots b → b.inner ≡ a.inner → IsOwnOf t s y g own b asked slots
own_still t r s x y f g Due a b asked slots h n p same out l behind e = (h.0, h.1, e ∙ h.2)
own_still t r s x y f g (Write w) a b asked slots h n p same out l behind e =
    let k = same h.told in
    record {
      told = k.0;
      part = h.part;
      block = subst (λ m. IsBlockOf m (pending_of s.waiting) (pointers_of y) h.part) (sym n)
          (subst (λ q. IsBlockOf r.attempt q (pointers_of y) h.part) (sym p) (subst (λ ps. IsBlockOf r.attempt (pending_of r.waiting) ps h.part) (sym k.1) h.block));
      is = record {
        behind = behind;
        own = h.is.own;
        bytes = h.is.bytes;
        within = within_still t w.work.bytes w.work.own.part (length f.slots) (length g.slots) w.work.io a.inner b.inner (sym l) e h.is.within;
      };
    }
own_still t r s x y f g (Stored v) a b asked slots h n p same out l behind e =
    let k = same h.told in
    record {
      told = k.0;
      alone = e ∙ h.alone;
      part = h.part;
      block = subst (λ m. IsBlockOf m (pending_of s.waiting) (pointers_of y) h.part) (sym n)
          (subst (λ q. IsBlockOf r.attempt q (pointers_of y) h.part) (sym p) (subst (λ ps. IsBlockOf r.attempt (pending_of r.waiting) ps h.part) (sym k.1) h.block));
      was = h.was;
      is = h.is;
      heard = h.heard;
      left = h.left;
      value = h.value;
      came_to = h.came_to;
      places = h.places;
    }
own_still t r s x y f g (Read w) a b asked slots h n p same out l behind e =
    read_still t w f g (pending_of r.waiting) (pending_of s.waiting) x y a b asked slots h p out l behind e
own_still t r s x y f g (Free w) a b asked slots h n p same out l behind e =
    free_still w f g (pending_of r.waiting) (pending_of s.waiting) x y a b asked slots h p out behind e
own_still t r s x y f g (Claim w) a b asked slots h n p same out l behind e =
    claim_still w f g (pending_of r.waiting) (pending_of s.waiting) x y a b asked slots h p out behind e
own_still t r s x y f g (Found v) a b asked slots h n p same out l behind e =
    found_still t (own_got v) r.attempt s.attempt (pending_of r.waiting) (pending_of s.waiting) x y a b asked slots h n p out e
own_still t r s x y f g Over a b asked slots h n p same out l behind e = record { told = (same h.told).0; alone = e ∙ h.alone; heard = h.heard }

-- as many were handed out, and there are as many
stay_out : (x y : KidsHeld) (attempt : ℕ) (forest : Forest) (asked : List Task) (slots : List Slot) (place : ℕ) (slot : Slot) → IsKids x attempt forest asked slots
    → IsKids y attempt forest asked (set slots place slot) → StayOut x.kids y.kids
stay_out x y attempt forest asked slots place slot h k = λ all.
    let as_many : length slots ≡ x.kids.handed = h.all in
    let still : length (set slots place slot) ≡ y.kids.handed = k.all in
    let numbers : length (numbers_of x.kids.kids) ≡ length (numbers_of y.kids.kids) = ap length (sym h.roots ∙ k.roots) in
    omega (arith, all, as_many, still, length-set slots place slot, numbers, numbers_length x.kids.kids, numbers_length y.kids.kids)

-- the operation of the child there is so far now
pub hears_kid : (t : Terms) (r : RequestNode) (kids : KidsHeld) (family : List Child) (st : Stack) (place : ℕ) (seat : Seat) (slot : Slot) (h : IsRequestNode t r st)
    → place < length h.kid_slots → seat ≡ OfOuter place → IsKids kids r.attempt h.forest h.kid_asked (set h.kid_slots place slot)
    → kids.kids.kept ≡ r.kids.kids.kept → TellTheSame r.kids.kids kids.kids
    → IsRequestNode t (with_kids r kids family) (with_children (set_at st seat slot) family)
hears_kid t r kids family st place seat slot h l at is kept same =
    let slots : set st.outer.slots place slot ≡ set h.kid_slots place slot ++ h.own_slots =
    ap (λ (xs : List Slot). set xs place slot) h.slots ∙ set_front h.kid_slots h.own_slots place slot l in
    subst (λ (s : Seat). IsRequestNode t (with_kids r kids family) (with_children (set_at st s slot) family)) (sym at) (record {
      forest = h.forest;
      kid_asked = h.kid_asked;
      kid_slots = set h.kid_slots place slot;
      own_asked = h.own_asked;
      own_slots = h.own_slots;
      op = h.op;
      asked = h.asked;
      slots = slots;
      kids = is;
      kept = kept ∙ h.kept;
      own = own_still t r (with_kids r kids family) r.kids.kids kids.kids (front_by r h.forest h.kid_asked h.kid_slots)
          (front_by r h.forest h.kid_asked (set h.kid_slots place slot)) r.own st (with_children (set_at st (OfOuter place) slot) family) h.own_asked h.own_slots
          h.own refl refl same (stay_out r.kids kids r.attempt h.forest h.kid_asked h.kid_slots place slot h.kids is) (length-set h.kid_slots place slot)
          (record {
            asked_are = h.asked;
            slots_are = slots;
            full = kids_full kids r.attempt h.forest h.kid_asked (set h.kid_slots place slot) is;
            parts = kids_out kids r.attempt h.forest h.kid_asked (set h.kid_slots place slot) is;
          }) refl;
      family = refl;
      round = h.round;
      failmode = h.failmode;
    })

-- the child, and what is known of it, is so far now
pub heard_kid : (t : Terms) (r : RequestNode) (kids : KidsHeld) (family : List Child) (st : Stack) (child place : ℕ) (c : Child) (mark : Child → Child) (slot : Slot) (h : IsRequestNode t r st)
    → place < length h.kid_slots → IsSeatOf r.family child place → slice_get st.children child ≡ Some c
    → IsKids kids r.attempt h.forest h.kid_asked (set h.kid_slots place slot) → kids.kids.kept ≡ r.kids.kids.kept
    → TellTheSame r.kids.kids kids.kids → IfSome (slice_get r.family child) (λ (x : Child). family ≡ set r.family child (mark x))
    → IsRequestNode t (with_kids r kids family) (with_children (set_at st c.seat slot) (set st.children child (mark c)))
heard_kid t r kids family st child place c mark slot h l seat there is kept same marked =
    let mine : slice_get r.family child ≡ Some c = ap (λ (cs : List Child). slice_get cs child) h.family ∙ there in
    let now : family ≡ set st.children child (mark c) =
    if_there (slice_get r.family child) (λ (x : Child). family ≡ set r.family child (mark x)) c marked mine
    ∙ ap (λ (cs : List Child). set cs child (mark c)) h.family in
    subst (λ (cs : List Child). IsRequestNode t (with_kids r kids family) (with_children (set_at st c.seat slot) cs)) now
    (hears_kid t r kids family st place c.seat slot h l (seat_is r.family st.children child place c h.family seat there) is kept same)
