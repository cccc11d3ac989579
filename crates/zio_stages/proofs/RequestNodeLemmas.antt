-- A request in an attempt as a node: it begins, and hands out its children.
use Rattle.std.proofs.Common.{◌≡◌, ◌<◌, List, [], ◌∷◌, ◌++◌, length, None, refl, sym, ap, ◌∙◌, subst, arith, append-nil}
use Rattle.zio_types.specs.declared.request.ChildKind.TheVariants.{Logical}
use Rattle.zio_gang.specs.Attempts.{Pending, Terms}
use Rattle.zio_trace.specs.Families.{Forest}
use Rattle.zio_trace.specs.Tasks.{Attempt, Task}
use Rattle.zio_children.specs.RequestKids.{KidsUnderWay}
use Rattle.zio_frames.specs.Frames.{Child, Frame, OfOuter, Stack, fresh_stack}
use Rattle.zio_frames.specs.Moves.{AsksNext, handed}
use Rattle.zio_frames.specs.Slots.{IsOut, Slot}
use Rattle.zio_stages.specs.KidTrees.{HandsOut, IsKids, KidsHeld}
use Rattle.zio_stages.specs.NodeChildren.{new_child}
use Rattle.zio_stages.specs.PartWorks.{Front}
use Rattle.zio_stages.specs.RequestNodes.{HandsKid, IsOwnOf, IsRequestNode, front_by}
pub use Rattle.zio_stages.specs.RequestStages.{with_kids}
use Rattle.zio_exchange.specs.Waits.{pending_of}
use Rattle.zio_exchange.specs.declared.waiting.UnfinishedRequest.{UnfinishedRequest}
use Rattle.zio_stages.specs.declared.request_node.Own.{Own}
use Rattle.zio_stages.specs.declared.request_node.Own.TheVariants.{Claim, Due, Found, Free, Over, Read, Stored, Write}
use Rattle.zio_stages.specs.declared.request_node.RequestNode.{RequestNode}
use Rattle.zio_stages.proofs.KidAsking.{asks_kid}

-- ---- it begins

pub fresh_request : (t : Terms) (r : RequestNode) (p : Pending) (forest : Forest) → (pending_of r.waiting ≡ p) × IsKids r.kids r.attempt forest [] []
    → r.kids.kids.kept ≡ r.waiting.kept → r.own ≡ Due → r.family ≡ [] → t.round ≡ r.round → t.failmode ≡ r.failmode
    → IsRequestNode t r (fresh_stack (Attempt r.attempt p forest))
fresh_request t r p forest is kept due none round failmode = record {
  forest = forest;
  kid_asked = [];
  kid_slots = [];
  own_asked = [];
  own_slots = [];
  op = ap (λ (q : Pending). Attempt r.attempt q forest) (sym is.0);
  asked = refl;
  slots = refl;
  kids = is.1;
  kept = kept;
  own = subst (λ (o : Own). IsOwnOf t r r.kids.kids (front_by r forest [] []) o (fresh_stack (Attempt r.attempt p forest)) [] []) (sym due) (refl, refl, refl);
  family = none;
  round = round;
  failmode = failmode;
}

-- ---- it hands out a child

-- nothing within
abbrev flat : Frame → List Child → Stack
flat outer children = record { outer = outer; inner = None; children = children }

flat_is : (st : Stack) → st.inner ≡ None → flat st.outer st.children ≡ st
flat_is st e = λ i. record { outer = st.outer; inner = sym e i; children = st.children }

-- before all its children are out nothing of its own work is asked
pub own_idle : (t : Terms) (r : RequestNode) (x : KidsUnderWay) (f : Front) (own : Own) (st : Stack) (asked : List Task) (slots : List Slot)
    → IsOwnOf t r x f own st asked slots → (x.handed ≡ length x.kids → ⊥) → (asked ≡ []) × (slots ≡ []) × (st.inner ≡ None)
own_idle t r x f Due st asked slots h not = h
own_idle t r x f (Write w) st asked slots h not = absurd (not h.told.all)
own_idle t r x f (Stored b) st asked slots h not = absurd (not h.told.all)
own_idle t r x f (Read w) st asked slots h not = absurd (not h.all)
own_idle t r x f (Free w) st asked slots h not = absurd (not h.all)
own_idle t r x f (Claim w) st asked slots h not = absurd (not h.all)
own_idle t r x f (Found own) st asked slots h not = absurd (not h.all)
own_idle t r x f Over st asked slots h not = absurd (not h.told.all)

-- and it is still due
own_due : (t : Terms) (r s : RequestNode) (x y : KidsUnderWay) (f g : Front) (own : Own) (a b : Stack) (asked : List Task) (slots : List Slot)
    → IsOwnOf t r x f own a asked slots → (x.handed ≡ length x.kids → ⊥) → b.inner ≡ a.inner → IsOwnOf t s y g own b [] []
own_due t r s x y f g Due a b asked slots h not e = (refl, refl, e ∙ h.2)
own_due t r s x y f g (Write w) a b asked slots h not e = absurd (not h.told.all)
own_due t r s x y f g (Stored v) a b asked slots h not e = absurd (not h.told.all)
own_due t r s x y f g (Read w) a b asked slots h not e = absurd (not h.all)
own_due t r s x y f g (Free w) a b asked slots h not e = absurd (not h.all)
own_due t r s x y f g (Claim w) a b asked slots h not e = absurd (not h.all)
own_due t r s x y f g (Found v) a b asked slots h not e = absurd (not h.all)
own_due t r s x y f g Over a b asked slots h not e = absurd (not h.told.all)

not_all : (x : KidsUnderWay) → x.handed < length x.kids → x.handed ≡ length x.kids → ⊥
not_all x less all = omega (arith, less, all)

hands_flat : (t : Terms) (r : RequestNode) (kids : KidsHeld) (family : List Child) (ws : List UnfinishedRequest) (o : Frame) (cs : List Child) (h : IsRequestNode t r (flat o cs))
    → r.kids.kids.handed < length r.kids.kids.kids → HandsOut ws r.kids kids r.attempt h.forest h.kid_asked h.kid_slots → kids.kids.kept ≡ r.kids.kids.kept
    → family ≡ r.family ++ new_child (OfOuter r.kids.kids.handed) Logical ∷ []
    → HandsKid t (with_kids r kids family) ws (flat o cs)
hands_flat t r kids family ws o cs h less out kept more =
    let not = not_all r.kids.kids less in
    let own = own_idle t r r.kids.kids (front_by r h.forest h.kid_asked h.kid_slots) r.own (flat o cs) h.own_asked h.own_slots h.own not in
    let op : Task = Attempt r.attempt out.root out.below in
    let asked : o.asked ≡ h.kid_asked = h.asked ∙ ap (λ (xs : List Task). h.kid_asked ++ xs) own.0 ∙ append-nil h.kid_asked in
    let slots : o.slots ≡ h.kid_slots = h.slots ∙ ap (λ (xs : List Slot). h.kid_slots ++ xs) own.1 ∙ append-nil h.kid_slots in
    let frame : record { op = Attempt r.attempt (pending_of r.waiting) h.forest; asked = h.kid_asked; slots = h.kid_slots } ≡ o =
    λ i. record { op = sym h.op i; asked = sym asked i; slots = sym slots i } in
    let count : length o.slots ≡ r.kids.kids.handed = ap length slots ∙ h.kids.all in
    record {
      root = out.root;
      below = out.below;
      tree = out.tree;
      asks = subst (λ (x : Frame). AsksNext t x op) frame (asks_kid t (pending_of r.waiting) ws r.kids kids r.attempt h.forest h.kid_asked h.kid_slots out h.kids);
      after = record {
        forest = h.forest;
        kid_asked = h.kid_asked ++ op ∷ [];
        kid_slots = h.kid_slots ++ IsOut None ∷ [];
        own_asked = [];
        own_slots = [];
        op = h.op;
        asked = ap (λ (xs : List Task). xs ++ op ∷ []) asked ∙ sym (append-nil (h.kid_asked ++ op ∷ []));
        slots = ap (λ (xs : List Slot). xs ++ IsOut None ∷ []) slots ∙ sym (append-nil (h.kid_slots ++ IsOut None ∷ []));
        kids = out.after;
        kept = kept ∙ h.kept;
        own = own_due t r (with_kids r kids family) r.kids.kids kids.kids (front_by r h.forest h.kid_asked h.kid_slots)
            (front_by r h.forest (h.kid_asked ++ op ∷ []) (h.kid_slots ++ IsOut None ∷ [])) r.own (flat o cs) (handed (flat o cs) op) h.own_asked h.own_slots h.own not refl;
        family = more ∙ ap (λ (xs : List Child). xs ++ new_child (OfOuter r.kids.kids.handed) Logical ∷ []) h.family
            ∙ ap (λ n. cs ++ new_child (OfOuter n) Logical ∷ []) (sym count);
        round = h.round;
        failmode = h.failmode;
      };
    }

pub hands_kid : (t : Terms) (r : RequestNode) (kids : KidsHeld) (family : List Child) (ws : List UnfinishedRequest) (st : Stack) (h : IsRequestNode t r st)
    → r.kids.kids.handed < length r.kids.kids.kids → HandsOut ws r.kids kids r.attempt h.forest h.kid_asked h.kid_slots → kids.kids.kept ≡ r.kids.kids.kept
    → family ≡ r.family ++ new_child (OfOuter r.kids.kids.handed) Logical ∷ []
    → HandsKid t (with_kids r kids family) ws st
hands_kid t r kids family ws st h less out kept more =
    let own = own_idle t r r.kids.kids (front_by r h.forest h.kid_asked h.kid_slots) r.own st h.own_asked h.own_slots h.own (not_all r.kids.kids less) in
    let same : flat st.outer st.children ≡ st = flat_is st own.2 in
    subst (λ (s : Stack). HandsKid t (with_kids r kids family) ws s) same (hands_flat t r kids family ws st.outer st.children (record {
      forest = h.forest;
      kid_asked = h.kid_asked;
      kid_slots = h.kid_slots;
      own_asked = h.own_asked;
      own_slots = h.own_slots;
      op = h.op;
      asked = h.asked;
      slots = h.slots;
      kids = h.kids;
      kept = h.kept;
      own = subst (λ (s : Stack). IsOwnOf t r r.kids.kids (front_by r h.forest h.kid_asked h.kid_slots) r.own s h.own_asked h.own_slots) (sym same) h.own;
      family = h.family;
      round = h.round;
      failmode = h.failmode;
    }) less out kept more)
