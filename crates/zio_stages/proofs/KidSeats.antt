-- Which children of a request are attempts of its children's trees, and what each of them told.
use Rattle.std.proofs.Common.{◌≡◌, ℕ, zero, suc, ◌-◌, ◌<◌, ◌≤◌, List, [], ◌∷◌, length, slice_get, Bool, true, false, nat_lt, Option, Some, None, refl, sym, ap, subst, ◌∙◌, arith, ltb-true, ltb-false}
use Rattle.std.specs.Prelude.{option_map}
use Rattle.zio_types.specs.declared.request.ChildKind.TheVariants.{Gang, Logical}
use Rattle.zio_blkptr.specs.declared.pointer.Bp.{Bp}
use Rattle.zio_gang.specs.Attempts.{Pending, Terms}
use Rattle.zio_trace.specs.Families.{Forest}
use Rattle.zio_trace.specs.Tasks.{Attempt, AttemptedBy, Leaf, One, Task}
use Rattle.zio_trace.specs.Underway.{early}
use Rattle.zio_children.specs.RequestKids.{FitKids, FitsState, state_at}
use Rattle.zio_children.specs.declared.kids.Kid.{Kid}
use Rattle.zio_children.specs.declared.kids.KidState.{KidState}
use Rattle.zio_children.specs.declared.kids.KidState.TheVariants.{Due, Out, Told, Ended}
use Rattle.zio_frames.specs.Frames.{Child, Inner, OfInner, OfOuter, Seat as SeatOf, Stack, kind_of_task, needs_none}
use Rattle.zio_frames.specs.Running.{FitsSlot}
use Rattle.zio_frames.specs.Seats.{HasSeat, ShowsTold, SitsAt, asked_at, asked_in_inner, slot_at}
use Rattle.zio_frames.specs.Slots.{AllHeard, Heard, IsOut, Slot}
use Rattle.zio_frames.proofs.GetLemmas.{all_at}
use Rattle.zio_exchange.specs.Outcomes.{IsAttempt}
use Rattle.zio_stages.specs.LeavesOut.{IsLeafTask}
use Rattle.zio_blkptr.specs.Pointers.{pointer_of}
use Rattle.zio_stages.specs.OwnReads.{IsBodyIn}
use Rattle.zio_stages.specs.PartWorks.{IsPartWithin}
use Rattle.zio_stages.specs.declared.own_read.BodyIo.{BodyIo}
use Rattle.zio_stages.specs.RequestHearings.{HearsEarlyOf, HearsValueOf, IsAttemptedBy, IsKidTold, IsNoAttempt, IsUnderWay}
use Rattle.zio_stages.specs.RequestNodes.{IsKidAt, IsOwnOf, IsRequestNode, IsSeatOf}
use Rattle.zio_stages.specs.declared.request_node.Own.{Own}
use Rattle.zio_stages.specs.declared.request_node.Own.TheVariants.{Claim, Due as OwnDue, Found, Free, Over, Read, Stored, Write}
use Rattle.zio_stages.specs.declared.request_node.RequestNode.{RequestNode}
use Rattle.zio_stages.specs.declared.write_io.WriteIo.{WriteIo}
use Rattle.zio_stages.proofs.KidAsking.{kids_full}
use Rattle.zio_stages.proofs.OutPlaces.{get_behind, read_asks, write_asks}
use Rattle.zio_stages.proofs.OwnKinds.{claims_gang, frees_gang, reads_gang}
use Rattle.zio_stages.proofs.PartOwed.{gang_kind, own_out}
use Rattle.zio_stages.proofs.PartSeats.{not_told}
use Rattle.zio_stages.proofs.RequestMembers.{gang_attempt, own_place}
use Rattle.zio_stages.proofs.RequestSits.{IsAttemptAt, asked_there, get_front}
use Rattle.zio_stages.proofs.RequestWriteLemmas.{front_in, part_at, write_in}

-- ---- what of its own work is out

out_some : (slots : List Slot) (n : ℕ) (told : Option (Option Bp)) → AllHeard slots → slice_get slots n ≡ Some (IsOut told) → ⊥
out_some [] n told h e = cc
out_some (Heard v ∷ slots) zero told h e = cc
out_some (Heard v ∷ slots) (suc n) told h e = out_some slots n told h e
out_some (IsOut out ∷ slots) n told h e = cc

own_in : (t : Terms) (r : RequestNode) (st : Stack) (own : Own) (h : IsRequestNode t r st) → r.own ≡ own
    → IsOwnOf t r r.kids.kids (front_in t r st h) own st h.own_asked h.own_slots
own_in t r st own h is = subst (λ (o : Own). IsOwnOf t r r.kids.kids (front_in t r st h) o st h.own_asked h.own_slots) is h.own

-- one of its own operations is out
record IsOwnAt (asked : List Task) (slots : List Slot) (n : ℕ) (op : Task) (told : Option (Option Bp)) : Type 0 where
  pub asked_is : slice_get asked n ≡ Some op
  pub slot_is : slice_get slots n ≡ Some (IsOut told)

-- behind the children's
own_there : (t : Terms) (r : RequestNode) (st : Stack) (m : ℕ) (op : Task) (told : Option (Option Bp)) (h : IsRequestNode t r st)
    → length h.kid_asked ≡ length h.kid_slots
    → length h.kid_slots ≤ m → slice_get st.outer.asked m ≡ Some op → slice_get st.outer.slots m ≡ Some (IsOut told)
    → IsOwnAt h.own_asked h.own_slots (m - length h.kid_slots) op told
own_there t r st m op told h full l asked slot = record {
  asked_is =
      sym (get_behind h.kid_asked h.own_asked m (m - length h.kid_slots) (omega (arith, full, l)))
      ∙ ap (λ (xs : List Task). slice_get xs m) (sym h.asked) ∙ asked;
  slot_is =
      sym (get_behind h.kid_slots h.own_slots m (m - length h.kid_slots) (omega (arith, l)))
      ∙ ap (λ (xs : List Slot). slice_get xs m) (sym h.slots) ∙ slot;
}

asked_none : (inner : Option Inner) (m : ℕ) (op : Task) → inner ≡ None → asked_in_inner inner m ≡ Some op → ⊥
asked_none inner m op none e =
    let both : None ≡ Some op = ap (λ (i : Option Inner). asked_in_inner i m) (sym none) ∙ e in cc

-- ---- where some of its own work is out, it is under way

outer_under : (t : Terms) (r : RequestNode) (st : Stack) (own : Own) (n : ℕ) (op : Task) (told : Option (Option Bp))
    (h : IsRequestNode t r st) → r.own ≡ own → IsOwnAt h.own_asked h.own_slots n op told → IsUnderWay own
outer_under t r st OwnDue n op told h is at =
    let own = own_in t r st _ h is in
    let none : slice_get h.own_slots n ≡ None = ap (λ (xs : List Slot). slice_get xs n) own.1 in
    let both : None ≡ Some (IsOut told) = sym none ∙ at.slot_is in
    cc
outer_under t r st (Write w) n op told h is at = tt
outer_under t r st (Stored b) n op told h is at = out_some h.own_slots n told (own_in t r st _ h is).heard at.slot_is
outer_under t r st (Read w) n op told h is at = tt
outer_under t r st (Free w) n op told h is at = tt
outer_under t r st (Claim w) n op told h is at = tt
outer_under t r st (Found b) n op told h is at = out_some h.own_slots n told (own_in t r st _ h is).heard at.slot_is
outer_under t r st Over n op told h is at = out_some h.own_slots n told (own_in t r st _ h is).heard at.slot_is

inner_under : (t : Terms) (r : RequestNode) (st : Stack) (own : Own) (m : ℕ) (op : Task) (h : IsRequestNode t r st) → r.own ≡ own
    → asked_in_inner st.inner m ≡ Some op → IsUnderWay own
inner_under t r st OwnDue m op h is asked = asked_none st.inner m op (own_in t r st _ h is).2 asked
inner_under t r st (Write w) m op h is asked = tt
inner_under t r st (Stored b) m op h is asked = asked_none st.inner m op (own_in t r st _ h is).alone asked
inner_under t r st (Read w) m op h is asked = tt
inner_under t r st (Free w) m op h is asked = tt
inner_under t r st (Claim w) m op h is asked = tt
inner_under t r st (Found b) m op h is asked = asked_none st.inner m op (own_in t r st _ h is).alone asked
inner_under t r st Over m op h is asked = asked_none st.inner m op (own_in t r st _ h is).alone asked

under_way : (t : Terms) (r : RequestNode) (st : Stack) (c : Child) (op : Task) (told : Option (Option Bp))
    → IsRequestNode t r st → SitsAt st c op told → ((attempt : ℕ) (p : Pending) (below : Forest) → op ≡ Attempt attempt p below → ⊥) → IsUnderWay r.own
under_way t r st c op told h sits never = by c.seat refl where
  full : length h.kid_asked ≡ length h.kid_slots
  full = kids_full r.kids r.attempt h.forest h.kid_asked h.kid_slots h.kids

  by : (seat : SeatOf) → c.seat ≡ seat → IsUnderWay r.own
  by (OfOuter m) e =
      let asked : slice_get st.outer.asked m ≡ Some op = ap (asked_at st) (sym e) ∙ sits.asked in
      let slot : slice_get st.outer.slots m ≡ Some (IsOut told) = ap (slot_at st) (sym e) ∙ sits.slot in
      let place = own_place t r st m op h asked never in
      let l : length h.kid_slots ≤ m = omega (arith, place.1) in
      outer_under t r st r.own (m - length h.kid_slots) op told h refl (own_there t r st m op told h full l asked slot)
  by (OfInner m) e = inner_under t r st r.own m op h refl (ap (asked_at st) (sym e) ∙ sits.asked)

-- a gang child that hasn't told shows it
pub early_under : (r : RequestNode) (n : ℕ) → HearsEarlyOf Gang r n → IsUnderWay r.own
early_under r n h =
    let sits = all_at (HasSeat h.stack) h.stack.children n h.child h.seated.each h.there h.goes in
    under_way h.terms r h.stack h.child sits.0 sits.1 h.is sits.2 (gang_attempt sits.0 (sym sits.2.kind ∙ h.of_kind))

no_attempt : (op : Task) → (IsAttempt op → ⊥)
    → (attempt : ℕ) (p : Pending) (below : Forest) → op ≡ Attempt attempt p below → ⊥
no_attempt op never attempt p below is = never (subst IsAttempt (sym is) tt)

-- and so does a child that ended and was no attempt
pub value_under : (r : RequestNode) (n : ℕ) → HearsValueOf IsNoAttempt r n → IsUnderWay r.own
value_under r n x =
    let h = x.hears in
    let sits = all_at (HasSeat x.stack) x.stack.children n x.child h.seated.each h.there h.goes in
    let both : Some sits.0 ≡ Some x.op = sym sits.2.asked ∙ h.asked in
    let same : sits.0 ≡ x.op = cc in
    under_way x.terms r x.stack x.child sits.0 sits.1 x.is sits.2 (no_attempt sits.0 (λ a. x.heard (subst IsAttempt same a)))

-- ---- none of it is an attempt

leaf_logical : (op : Task) → IsLeafTask op → kind_of_task op ≡ Logical → ⊥
leaf_logical (Leaf act) h e = cc
leaf_logical _ h e = h

outer_logical : (t : Terms) (r : RequestNode) (st : Stack) (own : Own) (m : ℕ) (op : Task)
    (told : Option (Option Bp)) (h : IsRequestNode t r st)
    → r.own ≡ own
    → IsOwnAt h.own_asked h.own_slots (m - length h.kid_slots) op told → length h.kid_slots ≤ m
    → slice_get st.outer.asked m ≡ Some op → slice_get st.outer.slots m ≡ Some (IsOut told) → kind_of_task op ≡ Logical → ⊥
outer_logical t r st OwnDue m op told h is at l asked slot logical = outer_under t r st OwnDue _ op told h is at
outer_logical t r st (Write w) m op told h is at l asked slot logical =
    let own = write_in t r st w h is in
    let out =
    own_out t w.work r.family (front_in t r st h) own.part st m (m - length h.kid_slots) op told
    (part_at t r st w h own) (omega (arith, l)) asked slot in
    let both : Logical ≡ Gang = sym logical ∙ gang_kind op out.part out.known in
    cc
outer_logical t r st (Read w) m op told h is at l asked slot logical =
    let own = own_in t r st _ h is in
    let there : slice_get own.is.asked (m - length h.kid_slots) ≡ Some op =
    ap (λ (xs : List Task). slice_get xs (m - length h.kid_slots)) own.asked_are ∙ at.asked_is in
    let gang : kind_of_task op ≡ Gang = reads_gang own.tree own.is.asked (m - length h.kid_slots) op own.is.reads there in
    let both : Logical ≡ Gang = sym logical ∙ gang in
    cc
outer_logical t r st (Free w) m op told h is at l asked slot logical =
    let own = own_in t r st _ h is in
    let there : slice_get own.is.asked (m - length h.kid_slots) ≡ Some op =
    ap (λ (xs : List Task). slice_get xs (m - length h.kid_slots)) own.asked_are ∙ at.asked_is in
    let gang : kind_of_task op ≡ Gang =
    frees_gang own.tree w.walk own.is.asked own.is.slots (m - length h.kid_slots) op own.is.walk there in
    let both : Logical ≡ Gang = sym logical ∙ gang in
    cc
outer_logical t r st (Claim w) m op told h is at l asked slot logical =
    let own = own_in t r st _ h is in
    let there : slice_get own.is.asked (m - length h.kid_slots) ≡ Some op =
    ap (λ (xs : List Task). slice_get xs (m - length h.kid_slots)) own.asked_are ∙ at.asked_is in
    let gang : kind_of_task op ≡ Gang =
    claims_gang (pointer_of own.bytes) w.block w.step own.is.asked own.is.slots (m - length h.kid_slots) op own.is.claim there in
    let both : Logical ≡ Gang = sym logical ∙ gang in
    cc
outer_logical t r st (Found b) m op told h is at l asked slot logical =
    let own = own_in t r st _ h is in
    out_some h.own_slots (m - length h.kid_slots) told own.heard at.slot_is
outer_logical t r st (Stored b) m op told h is at l asked slot logical = outer_under t r st (Stored b) _ op told h is at
outer_logical t r st Over m op told h is at l asked slot logical = outer_under t r st Over _ op told h is at

inner_logical : (t : Terms) (r : RequestNode) (st : Stack) (own : Own) (m : ℕ) (op : Task) (h : IsRequestNode t r st)
    → r.own ≡ own
    → asked_in_inner st.inner m ≡ Some op → kind_of_task op ≡ Logical → ⊥
inner_logical t r st OwnDue m op h is asked logical = inner_under t r st OwnDue m op h is asked
inner_logical t r st (Write w) m op h is asked logical = by w.work.io (write_in t r st w h is).is.within where
  by : (io : Option WriteIo) → IsPartWithin t w.work.bytes w.work.own.part (length h.kid_slots) io st.inner → ⊥
  by None k = asked_none st.inner m op k.0 asked
  by (Some io) k =
      let there : slice_get k.inside.frame.asked m ≡ Some op = sym (ap (λ (i : Option Inner). asked_in_inner i m) k.is) ∙ asked in
      let leaf =
      all_at IsLeafTask k.inside.frame.asked m op (write_asks t w.work.bytes io k.inside.frame k.writes).leaves there in
      leaf_logical op leaf logical
inner_logical t r st (Read w) m op h is asked logical = by w.body (own_in t r st _ h is).is.body where
  by : (body : Option BodyIo) → IsBodyIn t body (length h.kid_slots) st → ⊥
  by None k = asked_none st.inner m op k asked
  by (Some b) k =
      let there : slice_get k.inner.frame.asked m ≡ Some op = sym (ap (λ (i : Option Inner). asked_in_inner i m) k.is) ∙ asked in
      let leaf = all_at IsLeafTask k.inner.frame.asked m op (read_asks t b.io k.inner.frame k.part).leaves there in
      leaf_logical op leaf logical
inner_logical t r st (Free w) m op h is asked logical =
    let own = own_in t r st _ h is in
    asked_none st.inner m op own.is.alone asked
inner_logical t r st (Claim w) m op h is asked logical =
    let own = own_in t r st _ h is in
    asked_none st.inner m op own.is.alone asked
inner_logical t r st (Found b) m op h is asked logical =
    let own = own_in t r st _ h is in
    asked_none st.inner m op own.alone asked
inner_logical t r st (Stored b) m op h is asked logical = inner_under t r st (Stored b) m op h is asked
inner_logical t r st Over m op h is asked logical = inner_under t r st Over m op h is asked

-- ---- where an attempt sits

-- it is that of the tree at this place
record SitsAmongKids (r : RequestNode) (kid_slots : List Slot) (forest : Forest) (c : Child) (op : Task)
    (told : Option (Option Bp)) : Type 0 where
  pub place : ℕ
  pub seat : c.seat ≡ OfOuter place
  pub attempt : IsAttemptAt r.attempt forest place op
  pub slot : slice_get kid_slots place ≡ Some (IsOut told)

sits_among : (t : Terms) (r : RequestNode) (st : Stack) (c : Child) (op : Task)
    (told : Option (Option Bp)) (h : IsRequestNode t r st)
    → SitsAt st c op told → kind_of_task op ≡ Logical
    → SitsAmongKids r h.kid_slots h.forest c op told
sits_among t r st c op told h sits logical = by c.seat refl where
  full : length h.kid_asked ≡ length h.kid_slots
  full = kids_full r.kids r.attempt h.forest h.kid_asked h.kid_slots h.kids

  here : (m : ℕ) (b : Bool) → nat_lt m (length h.kid_slots) ≡ b → c.seat ≡ OfOuter m
      → SitsAmongKids r h.kid_slots h.forest c op told
  here m true e seat =
      let l : m < length h.kid_slots = ltb-true m (length h.kid_slots) e in
      let asked : slice_get st.outer.asked m ≡ Some op = ap (asked_at st) (sym seat) ∙ sits.asked in
      let slot : slice_get st.outer.slots m ≡ Some (IsOut told) = ap (slot_at st) (sym seat) ∙ sits.slot in
      record {
        place = m;
        seat = seat;
        attempt = asked_there t r st m op h l asked;
        slot = sym (get_front h.kid_slots h.own_slots m l) ∙ ap (λ (xs : List Slot). slice_get xs m) (sym h.slots) ∙ slot;
      }
  here m false e seat =
      let l : length h.kid_slots ≤ m = ltb-false m (length h.kid_slots) e in
      let asked : slice_get st.outer.asked m ≡ Some op = ap (asked_at st) (sym seat) ∙ sits.asked in
      let slot : slice_get st.outer.slots m ≡ Some (IsOut told) = ap (slot_at st) (sym seat) ∙ sits.slot in
      absurd (outer_logical t r st r.own m op told h refl (own_there t r st m op told h full l asked slot) l asked slot logical)

  by : (seat : SeatOf) → c.seat ≡ seat → SitsAmongKids r h.kid_slots h.forest c op told
  by (OfOuter m) e = here m (nat_lt m (length h.kid_slots)) refl e
  by (OfInner m) e = absurd (inner_logical t r st r.own m op h refl (ap (asked_at st) (sym e) ∙ sits.asked) logical)

seat_of_it : (family children : List Child) (n place : ℕ) (c : Child) → family ≡ children → slice_get children n ≡ Some c
    → c.seat ≡ OfOuter place → IsSeatOf family n place
seat_of_it family children n place c same there seat =
    ap (λ (cs : List Child). option_map (λ (x : Child). x.seat) (slice_get cs n)) same
    ∙ ap (option_map (λ (x : Child). x.seat)) there ∙ ap (λ s. Some s) seat

-- ---- how far it is

out_then : (number : ℕ) (state : KidState) → FitsState number state (IsOut None) → state ≡ Out
out_then number Due f = absurd f
out_then number Out f = refl
out_then number (Told pointer) f = absurd (cc)
out_then number (Ended bits error pointer) f = let e : IsOut None ≡ Heard (AttemptedBy f.0) = f.1 in absurd (cc)

told_then : (number : ℕ) (state : KidState) (pointer : Option Bp) → FitsState number state (IsOut (Some pointer))
    → state ≡ Told pointer
told_then number Due pointer f = absurd f
told_then number Out pointer f = absurd (cc)
told_then number (Told p) pointer f = let same : p ≡ pointer = cc in ap (λ q. Told q) same
told_then number (Ended bits error p) pointer f = let e : IsOut (Some pointer) ≡ Heard (AttemptedBy f.0) = f.1 in absurd (cc)

-- what a slot says of the child at its place
state_by : (kids : List Kid) (slots : List Slot) (n : ℕ) (slot : Slot) (now : KidState) → FitKids kids slots
    → slice_get slots n ≡ Some slot
    → ((number : ℕ) (state : KidState) → FitsState number state slot → state ≡ now) → state_at kids n ≡ Some now
state_by [] [] n slot now f e then = absurd (cc)
state_by [] (s ∷ slots) n slot now f e then = absurd f
state_by (k ∷ kids) [] n slot now f e then = absurd (cc)
state_by (k ∷ kids) (s ∷ slots) zero slot now f e then =
    let same : s ≡ slot = cc in ap (λ x. Some x) (then k.number k.state (subst (FitsState k.number k.state) same f.0))
state_by (k ∷ kids) (s ∷ slots) (suc n) slot now f e then = state_by kids slots n slot now f.1 e then

-- a logical child that hasn't told is out
pub kid_early : (r : RequestNode) (n : ℕ) → HearsEarlyOf Logical r n → IsKidAt (λ (state : Option KidState). state ≡ Some Out) r n
kid_early r n h =
    let sits = all_at (HasSeat h.stack) h.stack.children n h.child h.seated.each h.there h.goes in
    let logical : kind_of_task sits.0 ≡ Logical = sym sits.2.kind ∙ h.of_kind in
    let k = sits_among h.terms r h.stack h.child sits.0 sits.1 h.is sits.2 logical in
    let none : sits.1 ≡ None =
    not_told (needs_none h.child.kind) h.child.told sits.1 (ap needs_none h.of_kind) h.untold sits.2.shows in
    record {
      place = k.place;
      seat = seat_of_it r.family h.stack.children n k.place h.child h.is.family h.there k.seat;
      state = state_by r.kids.kids.kids h.is.kid_slots k.place (IsOut None) Out h.is.kids.fits
          (k.slot ∙ ap (λ o. Some (IsOut o)) none) out_then;
    }

attempt_logical : (op : Task) → IsAttempt op → kind_of_task op ≡ Logical
attempt_logical (Attempt attempt p kids) h = refl
attempt_logical _ h = absurd h

-- what it told is in its slot
some_told : (told : Option (Option Bp)) (b ended : Bool) → b ≡ false → ended ≡ true → ShowsTold b ended told
    → (pointer : Option Bp) × (told ≡ Some pointer)
some_told None true ended e g h = absurd (cc)
some_told None false true e g h = absurd h
some_told None false false e g h = absurd (cc)
some_told (Some pointer) b ended e g h = (pointer, refl)

-- one that ended was the attempt of a tree, and told the pointer that its value has
pub kid_told : (r : RequestNode) (n : ℕ) (one : One) (x : HearsValueOf (IsAttemptedBy one) r n)
    → IsKidTold r n x.op one.return.child.pointer
kid_told r n one x =
    let h = x.hears in
    let sits = all_at (HasSeat x.stack) x.stack.children n x.child h.seated.each h.there h.goes in
    let both : Some sits.0 ≡ Some x.op = sym sits.2.asked ∙ h.asked in
    let same : sits.0 ≡ x.op = cc in
    let logical : kind_of_task sits.0 ≡ Logical = ap kind_of_task same ∙ attempt_logical x.op x.heard.0 in
    let k = sits_among x.terms r x.stack x.child sits.0 sits.1 x.is sits.2 logical in
    let some =
    some_told sits.1 (needs_none x.child.kind) x.child.told (ap needs_none (sits.2.kind ∙ logical)) h.told sits.2.shows in
    let slot : slot_at x.stack x.child.seat ≡ Some (IsOut (Some some.0)) = sits.2.slot ∙ ap (λ o. Some (IsOut o)) some.1 in
    let pointer : early x.value ≡ some.0 = subst (λ (s : Option Slot). FitsSlot s x.value) slot h.fits_told in
    let is : one.return.child.pointer ≡ some.0 = ap early (sym x.heard.1) ∙ pointer in
    record {
      place = k.place;
      root = k.attempt.root;
      below = k.attempt.below;
      is = sym same ∙ k.attempt.is;
      seat = seat_of_it r.family x.stack.children n k.place x.child x.is.family h.there k.seat;
      number = ap (λ (ns : List ℕ). slice_get ns k.place) (sym x.is.kids.roots) ∙ k.attempt.number;
      state =
          state_by r.kids.kids.kids x.is.kid_slots k.place (IsOut (Some some.0)) (Told one.return.child.pointer) x.is.kids.fits
          (k.slot ∙ ap (λ o. Some (IsOut o)) some.1)
          (λ number state fits. told_then number state some.0 fits ∙ ap (λ p. Told p) (sym is));
    }
