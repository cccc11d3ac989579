-- Where the children of a request sit, and which of them are missing.
use Rattle.std.proofs.Common.{◌≡◌, ℕ, zero, suc, ◌<◌, List, [], ◌∷◌, ◌++◌, length, take, slice_get, Bool, true, false, ◌&&◌, ◌||◌, not, Option, Some, None, ◌⊎◌, inl, inr, refl, sym, ap, ◌∙◌, subst, arith}
use Rattle.std.specs.List.{list_all, list_any}
use Rattle.zio_types.specs.declared.request.ChildKind.{ChildKind}
use Rattle.zio_types.specs.declared.request.ChildKind.TheVariants.{Logical}
use Rattle.zio_types.specs.declared.request.Phase.TheVariants.{Ready, Done}
use Rattle.zio_types.specs.Machine.{same_kind}
use Rattle.zio_blkptr.specs.declared.pointer.Bp.{Bp}
use Rattle.zio_gang.specs.Attempts.{Pending, Terms}
use Rattle.zio_trace.specs.Families.{Forest, NoTrees, TreeOf}
use Rattle.zio_trace.specs.Tasks.{Attempt, Task}
use Rattle.zio_children.specs.RequestKids.{FitKids, FitsState, KidsUnderWay, has_ended, has_told, is_ended, is_told, root_numbers}
use Rattle.zio_children.specs.declared.kids.Kid.{Kid}
use Rattle.zio_children.specs.declared.kids.KidState.{KidState}
use Rattle.zio_children.specs.declared.kids.KidState.TheVariants.{Due, Out, Told, Ended}
use Rattle.zio_frames.specs.Frames.{Child, Inner, OfOuter, Seat, Stack, kind_of_task, needs_none}
use Rattle.zio_frames.specs.Seats.{HasSeat, IsInnerSeat, IsSatAt, IsSeated, ShowsTold, SitsAt, asked_at, slot_at}
use Rattle.zio_frames.specs.Slots.{IsOut, Slot}
use Rattle.zio_frames.proofs.GetLemmas.{all_at}
use Rattle.zio_stages.specs.KidTrees.{attempts_of}
use Rattle.zio_stages.specs.NodeChildren.{is_awaited, is_owing}
use Rattle.zio_stages.specs.OwnParts.{IsOwed}
use Rattle.zio_stages.specs.OwnReads.{IsBodyIn}
use Rattle.zio_stages.specs.PartWorks.{Front, IsPartWithin}
use Rattle.zio_stages.specs.RequestNodes.{IsOwnOf, IsRequestNode, front_by}
use Rattle.zio_stages.specs.declared.request_node.Own.{Own}
use Rattle.zio_stages.specs.declared.request_node.Own.TheVariants.{Claim, Due as OwnDue, Found, Free, Over, Read, Stored, Write}
use Rattle.zio_stages.specs.declared.own_read.BodyIo.{BodyIo}
use Rattle.zio_stages.specs.declared.write_io.WriteIo.{WriteIo}
use Rattle.zio_stages.specs.declared.request_node.RequestNode.{RequestNode}
use Rattle.zio_stages.proofs.KidAsking.{kids_full}

pub get_front : {X : Type 0} (xs ys : List X) (n : ℕ) → n < length xs → slice_get (xs ++ ys) n ≡ slice_get xs n
get_front [] ys n l = absurd (omega arith)
get_front (x ∷ xs) ys zero l = refl
get_front (x ∷ xs) ys (suc n) l = get_front xs ys n (omega arith)

pub get_within : {X : Type 0} (xs : List X) (n : ℕ) (x : X) → slice_get xs n ≡ Some x → n < length xs
get_within [] n x e = absurd (cc)
get_within (y ∷ xs) zero x e = omega arith
get_within (y ∷ xs) (suc n) x e = let l : n < length xs = get_within xs n x e in omega arith

-- ---- what a child does

-- the operation there is an attempt of the tree there
pub record IsAttemptAt (attempt : ℕ) (forest : Forest) (n : ℕ) (op : Task) : Type 0 where
  pub root : Pending
  pub below : Forest
  pub is : op ≡ Attempt attempt root below
  pub number : slice_get (root_numbers forest) n ≡ Some root.request.number

attempt_at : (attempt n : ℕ) (forest : Forest) (m : ℕ) (op : Task) → slice_get (take m (attempts_of attempt forest)) n ≡ Some op
    → IsAttemptAt attempt forest n op
attempt_at attempt n forest zero op e = absurd (cc)
attempt_at attempt n NoTrees (suc m) op e = absurd (cc)
attempt_at attempt zero (TreeOf p below others) (suc m) op e =
    let is : Attempt attempt p below ≡ op = cc in record { root = p; below = below; is = sym is; number = refl }
attempt_at attempt (suc n) (TreeOf p below others) (suc m) op e =
    let h : IsAttemptAt attempt others n op = attempt_at attempt n others m op e in
    record { root = h.root; below = h.below; is = h.is; number = h.number }

-- what the request's children were asked, by place
pub asked_there : (t : Terms) (r : RequestNode) (st : Stack) (n : ℕ) (op : Task) (h : IsRequestNode t r st) → n < length h.kid_slots
    → slice_get st.outer.asked n ≡ Some op → IsAttemptAt r.attempt h.forest n op
asked_there t r st n op h l e =
    let full : length h.kid_asked ≡ length h.kid_slots = kids_full r.kids r.attempt h.forest h.kid_asked h.kid_slots h.kids in
    let here : slice_get h.kid_asked n ≡ Some op =
    sym (get_front h.kid_asked h.own_asked n (omega (arith, full, l))) ∙ ap (λ (xs : List Task). slice_get xs n) (sym h.asked) ∙ e in
    attempt_at r.attempt n h.forest r.kids.kids.handed op (ap (λ (xs : List Task). slice_get xs n) (sym h.kids.ops) ∙ here)

pub slot_there : (t : Terms) (r : RequestNode) (st : Stack) (n : ℕ) (slot : Slot) (h : IsRequestNode t r st)
    → slice_get h.kid_slots n ≡ Some slot → slice_get st.outer.slots n ≡ Some slot
slot_there t r st n slot h e =
    ap (λ (xs : List Slot). slice_get xs n) h.slots ∙ get_front h.kid_slots h.own_slots n (get_within h.kid_slots n slot e) ∙ e

-- ---- where it sits

-- a logical child does it
pub record SitsLogical (st : Stack) (told : Option (Option Bp)) : Type 0 where
  pub number : ℕ
  pub child : Child
  pub there : slice_get st.children number ≡ Some child
  pub goes : child.ended ≡ false
  pub kind : child.kind ≡ Logical
  pub shows : ShowsTold (needs_none child.kind) child.told told

not_within : (inner : Option Inner) (seat : Seat) → inner ≡ None → IsInnerSeat inner seat → ⊥
not_within inner seat e h = subst (λ (i : Option Inner). IsInnerSeat i seat) e h

sits : (t : Terms) (r : RequestNode) (st : Stack) (n : ℕ) (told : Option (Option Bp)) (h : IsRequestNode t r st) → IsSeated st
    → slice_get h.kid_slots n ≡ Some (IsOut told) → IsSatAt st (OfOuter n) → SitsLogical st told
sits t r st n told h seated e sat = by (all_at (HasSeat st) st.children sat.number sat.child seated.each sat.is sat.goes)
  where
    by : (op : Task) × (out : Option (Option Bp)) × SitsAt st sat.child op out → SitsLogical st told
    by (op, out, s) =
        let slot : slice_get st.outer.slots n ≡ Some (IsOut out) = ap (slot_at st) (sym sat.there) ∙ s.slot in
        let mine : slice_get st.outer.slots n ≡ Some (IsOut told) = slot_there t r st n (IsOut told) h e in
        let same : out ≡ told = let both : Some (IsOut out) ≡ Some (IsOut told) = sym slot ∙ mine in cc in
        let asked : slice_get st.outer.asked n ≡ Some op = ap (asked_at st) (sym sat.there) ∙ s.asked in
        let attempt = asked_there t r st n op h (get_within h.kid_slots n (IsOut told) e) asked in
        record {
          number = sat.number;
          child = sat.child;
          there = sat.is;
          goes = sat.goes;
          kind = s.kind ∙ ap kind_of_task attempt.is;
          shows = subst (λ (o : Option (Option Bp)). ShowsTold (needs_none sat.child.kind) sat.child.told o) same s.shows;
        }

pub kid_sits : (t : Terms) (r : RequestNode) (st : Stack) (n : ℕ) (told : Option (Option Bp)) (h : IsRequestNode t r st) → IsSeated st
    → (IsInnerSeat st.inner (OfOuter n) → ⊥) → slice_get h.kid_slots n ≡ Some (IsOut told) → SitsLogical st told
kid_sits t r st n told h seated beside e = by (seated.all (OfOuter n) told (slot_there t r st n (IsOut told) h e))
  where
    by : IsInnerSeat st.inner (OfOuter n) ⊎ IsSatAt st (OfOuter n) → SitsLogical st told
    by (inl i) = absurd (beside i)
    by (inr s) = sits t r st n told h seated e s

-- ---- who is missing

any_at : {X : Type 0} (p : X → Bool) (xs : List X) (n : ℕ) (x : X) → slice_get xs n ≡ Some x → p x ≡ true → list_any p xs ≡ true
any_at p [] n x e h = absurd (cc)
any_at p (y ∷ xs) zero x e h =
    let is : y ≡ x = cc in ap (λ (b : Bool). b || list_any p xs) (ap p is ∙ h)
any_at p (y ∷ xs) (suc n) x e h = ap (λ (b : Bool). p y || b) (any_at p xs n x e h) ∙ or_true (p y)
  where
    or_true : (b : Bool) → b || true ≡ true
    or_true true = refl
    or_true false = refl

not_told : (child : Child) → child.kind ≡ Logical → ShowsTold (needs_none child.kind) child.told None → child.told ≡ false
not_told child kind shows = by child.told (subst (λ (k : ChildKind). ShowsTold (needs_none k) child.told None) kind shows)
  where
    by : (b : Bool) → ShowsTold false b None → b ≡ false
    by true h = absurd h
    by false h = refl

pub owing_ready : (st : Stack) → SitsLogical st None → IsOwed Logical Ready st
owing_ready st s =
    any_at (is_awaited Logical Ready) st.children s.number s.child s.there
    ((λ i. (same_kind (s.kind i) Logical && not (not_told s.child s.kind s.shows i)) && not (s.goes i)))

owing_done : (st : Stack) (told : Option (Option Bp)) → SitsLogical st told → list_any (is_owing Logical Done) st.children ≡ true
owing_done st told s =
    any_at (is_owing Logical Done) st.children s.number s.child s.there (λ i. same_kind (s.kind i) Logical && not (s.goes i))

-- the slot of a child that hasn't told, or hasn't ended
pub record IsOutThere (slots : List Slot) (told : Option (Option Bp)) : Type 0 where
  pub place : ℕ
  pub slot : slice_get slots place ≡ Some (IsOut told)

more_there : (slot : Slot) (slots : List Slot) (told : Option (Option Bp)) → IsOutThere slots told → IsOutThere (slot ∷ slots) told
more_there slot slots told h = record { place = suc h.place; slot = h.slot }

untold_state : (number : ℕ) (state : KidState) (slot : Slot) (slots : List Slot) → FitsState number state slot → has_told state ≡ false
    → IsOutThere (slot ∷ slots) None
untold_state number Due slot slots f e = absurd f
untold_state number Out slot slots f e = record { place = zero; slot = ap (λ (s : Slot). Some s) f }
untold_state number (Told pointer) slot slots f e = absurd (cc)
untold_state number (Ended bits error pointer) slot slots f e = absurd (cc)

pub untold_slot : (kids : List Kid) (slots : List Slot) → FitKids kids slots → length slots ≡ length kids → list_all is_told kids ≡ false
    → IsOutThere slots None
untold_slot [] slots f l e = absurd (cc)
untold_slot (k ∷ kids) [] f l e = absurd (omega (arith, l))
untold_slot (k ∷ kids) (s ∷ slots) f l e =
    by (has_told k.state) refl e (λ rest. untold_slot kids slots f.1 (omega (arith, l)) rest)
  where
    by : (b : Bool) → has_told k.state ≡ b → b && list_all is_told kids ≡ false
        → (list_all is_told kids ≡ false → IsOutThere slots None) → IsOutThere (s ∷ slots) None
    by true same rest below = more_there s slots None (below rest)
    by false same rest below = untold_state k.number k.state s slots f.0 same

pub record IsOutSomewhere (slots : List Slot) : Type 0 where
  pub told : Option (Option Bp)
  pub is : IsOutThere slots told

going_state : (number : ℕ) (state : KidState) (slot : Slot) (slots : List Slot) → FitsState number state slot → has_ended state ≡ false
    → IsOutSomewhere (slot ∷ slots)
going_state number Due slot slots f e = absurd f
going_state number Out slot slots f e = record { told = None; is = record { place = zero; slot = ap (λ (s : Slot). Some s) f } }
going_state number (Told pointer) slot slots f e = record { told = Some pointer; is = record { place = zero; slot = ap (λ (s : Slot). Some s) f } }
going_state number (Ended bits error pointer) slot slots f e = absurd (cc)

pub going_slot : (kids : List Kid) (slots : List Slot) → FitKids kids slots → length slots ≡ length kids → list_all is_ended kids ≡ false
    → IsOutSomewhere slots
going_slot [] slots f l e = absurd (cc)
going_slot (k ∷ kids) [] f l e = absurd (omega (arith, l))
going_slot (k ∷ kids) (s ∷ slots) f l e =
    by (has_ended k.state) refl e (λ rest. going_slot kids slots f.1 (omega (arith, l)) rest)
  where
    more : IsOutSomewhere slots → IsOutSomewhere (s ∷ slots)
    more h = record { told = h.told; is = more_there s slots h.told h.is }

    by : (b : Bool) → has_ended k.state ≡ b → b && list_all is_ended kids ≡ false
        → (list_all is_ended kids ≡ false → IsOutSomewhere slots) → IsOutSomewhere (s ∷ slots)
    by true same rest below = more (below rest)
    by false same rest below = going_state k.number k.state s slots f.0 same

-- a child hasn't told its pointer
pub waits_ready : (t : Terms) (r : RequestNode) (st : Stack) (h : IsRequestNode t r st) → IsSeated st → st.inner ≡ None
    → r.kids.kids.handed ≡ length r.kids.kids.kids → list_all is_told r.kids.kids.kids ≡ false
    → IsOwed Logical Ready st
waits_ready t r st h seated alone all not_all =
    let out : IsOutThere h.kid_slots None = untold_slot r.kids.kids.kids h.kid_slots h.kids.fits (h.kids.all ∙ all) not_all in
    owing_ready st (kid_sits t r st out.place None h seated (not_within st.inner (OfOuter out.place) alone) out.slot)

-- a part within is none of its children's
pub inner_apart : (t : Terms) (r : RequestNode) (x : KidsUnderWay) (f : Front) (own : Own) (st : Stack) (asked : List Task) (slots : List Slot) (n : ℕ)
    → IsOwnOf t r x f own st asked slots → n < length f.slots → IsInnerSeat st.inner (OfOuter n) → ⊥
inner_apart t r x f OwnDue st asked slots n h l i = not_within st.inner (OfOuter n) h.2 i
inner_apart t r x f (Write w) st asked slots n h l i = behind w.work.io h.is.within
  where
    behind : (io : Option WriteIo) → IsPartWithin t w.work.bytes w.work.own.part (length f.slots) io st.inner → ⊥
    behind None none = not_within st.inner (OfOuter n) none.0 i
    behind (Some io) k =
        let seat : OfOuter n ≡ OfOuter k.inside.number = subst (λ (o : Option Inner). IsInnerSeat o (OfOuter n)) k.is i in
        let at : n ≡ k.inside.number = cc in
        omega (arith, k.at)
inner_apart t r x f (Stored b) st asked slots n h l i = not_within st.inner (OfOuter n) h.alone i
inner_apart t r x f (Read w) st asked slots n h l i = behind w.body h.is.body
  where
    behind : (o : Option BodyIo) → IsBodyIn t o (length f.slots) st → ⊥
    behind None none = not_within st.inner (OfOuter n) none i
    behind (Some b) k =
        let seat : OfOuter n ≡ OfOuter k.inner.number = subst (λ (o : Option Inner). IsInnerSeat o (OfOuter n)) k.is i in
        let at : n ≡ k.inner.number = cc in
        omega (arith, k.number)
inner_apart t r x f (Free w) st asked slots n h l i = not_within st.inner (OfOuter n) h.is.alone i
inner_apart t r x f (Claim w) st asked slots n h l i = not_within st.inner (OfOuter n) h.is.alone i
inner_apart t r x f (Found v) st asked slots n h l i = not_within st.inner (OfOuter n) h.alone i
inner_apart t r x f Over st asked slots n h l i = not_within st.inner (OfOuter n) h.alone i

-- a child's attempt hasn't ended
pub waits_done : (t : Terms) (r : RequestNode) (st : Stack) (h : IsRequestNode t r st) → IsSeated st
    → r.kids.kids.handed ≡ length r.kids.kids.kids → list_all is_ended r.kids.kids.kids ≡ false
    → list_any (is_owing Logical Done) st.children ≡ true
waits_done t r st h seated all not_all =
    let out : IsOutSomewhere h.kid_slots = going_slot r.kids.kids.kids h.kid_slots h.kids.fits (h.kids.all ∙ all) not_all in
    owing_done st out.told (kid_sits t r st out.is.place out.told h seated
    (inner_apart t r r.kids.kids (front_by r h.forest h.kid_asked h.kid_slots) r.own st h.own_asked h.own_slots out.is.place h.own
    (get_within h.kid_slots out.is.place (IsOut out.told) out.is.slot)) out.is.slot)
