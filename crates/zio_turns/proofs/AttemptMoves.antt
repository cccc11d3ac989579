-- A tree of a round from one attempt to the next, and to its end.
use Rattle.std.proofs.Common.{◌≡◌, ◌≢◌, ℕ, zero, suc, ◌+◌, List, [], ◌∷◌, ◌++◌, length, length-append, slice_get, slice_set, Bool, true, false, Option, Some, None, ◌⊎◌, inl, inr, refl, sym, ap, ◌∙◌, subst}
use Rattle.std.proofs.Common.{append_assoc}
use Rattle.std.specs.List.{flat_map}
use Rattle.std.proofs.lemmas.Bool.{false≢true}
use Rattle.std.proofs.lemmas.List.{append-nil}
use Rattle.std.proofs.lemmas.List.Concat.{flat_map-append}
use Rattle.std.proofs.lemmas.List.{length-set}
use Rattle.zio_blkptr.specs.declared.pointer.Bp.{Bp}
use Rattle.zio_gang.specs.Attempts.{Ended, Pending, Terms, now_alone}
use Rattle.zio_trace.specs.Families.{Forest, TreeOf}
use Rattle.zio_trace.specs.Plans.{TaskPlan, add_settled, plan, plan_again, plan_left, plan_settle}
use Rattle.zio_trace.specs.Programs.{Asks, Ends, Program, ◌>>=◌}
use Rattle.zio_trace.specs.Tasks.{Attempt, AttemptedBy, One, Settle, SettledBy, Task, Value}
use Rattle.zio_frames.specs.Answering.{NextAnswered}
use Rattle.zio_frames.specs.Frames.{Child, Frame, OfOuter, Seat, Stack, asking, fresh_stack, left_of, with_slot}
use Rattle.zio_frames.specs.Moves.{AsksNext, GoesBesideAll, IsEnded, child_ended, child_for, child_told, handed, heard_early, heard_of, set_at, with_children}
use Rattle.zio_frames.specs.Seats.{asked_at}
use Rattle.zio_frames.specs.Slots.{AllHeard, Heard, IsOut, Slot, left_behind_slots, told_in}
use Rattle.zio_frames.proofs.GetLemmas.{get_either, get_exchanged, get_last, get_set}
use Rattle.zio_turns.specs.Attempting.{Course, IsAttempting, IsBetween, again_with, attempt_of, course_of, rest_from, rest_of, settled_behind, settled_with}
use Rattle.zio_staged.specs.Parts.{ended_by, ended_in, ended_in_slot}
use Rattle.zio_turns.proofs.Links.{some_is}

-- ---- programs

-- one program behind another, each of which ends at once
ends_then : {Op Ans A B C : Type 0} (p : Program Op Ans A) (f : A → B) (g : B → C) (h : A → C) → ((a : A) → g (f a) ≡ h a)
    → (p >>= λ a. Ends (f a)) >>= (λ b. Ends (g b)) ≡ p >>= λ a. Ends (h a)
ends_then (Ends a) f g h same = ap (λ c. Ends c) (same a)
ends_then (Asks op more) f g h same = λ i. Asks op (λ v. ends_then (more v) f g h same i)

behind_end : {Op A : Type 0} (slots : List Slot) (a : A) → ◌≡◌ {A = Program Op Value A} (left_behind_slots slots (Ends a)) (Ends a)
behind_end [] a = refl
behind_end (x ∷ slots) a = refl

-- what is left behind those that are heard
behind_heard : {Op A : Type 0} (xs ys : List Slot) (p : Program Op Value A) → AllHeard xs
    → left_behind_slots (xs ++ ys) p ≡ left_behind_slots ys (left_behind_slots xs p)
behind_heard [] ys p h = refl
behind_heard (Heard v ∷ xs) ys (Ends a) h = sym (behind_end ys a)
behind_heard (Heard v ∷ xs) ys (Asks op more) h = behind_heard xs ys (more v) h
behind_heard (IsOut told ∷ xs) ys p h = absurd (cc)

all_heard_last : (xs : List Slot) (v : Value) → AllHeard xs → AllHeard (xs ++ Heard v ∷ [])
all_heard_last [] v h = refl
all_heard_last (Heard w ∷ xs) v h = all_heard_last xs v h
all_heard_last (IsOut told ∷ xs) v h = absurd (cc)

set_last : {X : Type 0} (xs : List X) (x y : X) → slice_set (xs ++ x ∷ []) (length xs) y ≡ xs ++ y ∷ []
set_last [] x y = refl
set_last (z ∷ xs) x y = ap (λ (ys : List _). z ∷ ys) (set_last xs x y)

-- ---- the plan of settling a tree

asks_first : (more attempt : ℕ) (p : Pending) (kids : Forest) (ended : List Ended)
    → NextAnswered [] (rest_from more attempt p kids ended) (Attempt attempt p kids)
asks_first zero attempt p kids ended = refl
asks_first (suc more) attempt p kids ended = refl

pub settled_now : (c : Course) (one : One) → now_alone one.return.bits ≡ false
    → left_behind_slots (Heard (AttemptedBy one) ∷ []) (rest_of c) ≡ Ends (settled_with c one)
settled_now c one alone = by c.more
  where
    by : (more : ℕ) → left_behind_slots (Heard (AttemptedBy one) ∷ []) (rest_from more c.attempt c.request c.kids c.ended)
        ≡ Ends (settled_with c one)
    by zero = refl
    by (suc more) =
        ap (λ (b : Bool). plan_again b one (plan_settle more (c.attempt + 1)) >>= λ x. Ends (settled_behind c.ended x)) alone

pub settled_last : (c : Course) (one : One) → c.more ≡ 0
    → left_behind_slots (Heard (AttemptedBy one) ∷ []) (rest_of c) ≡ Ends (settled_with c one)
settled_last c one last =
    ap (λ (more : ℕ). left_behind_slots (Heard (AttemptedBy one) ∷ []) (rest_from more c.attempt c.request c.kids c.ended)) last

pub goes_again : (c : Course) (one : One) (more : ℕ) (p : Pending) (kids others : Forest) → c.more ≡ suc more
    → now_alone one.return.bits ≡ true → one.left ≡ TreeOf p kids others
    → left_behind_slots (Heard (AttemptedBy one) ∷ []) (rest_of c) ≡ rest_of (again_with c one more p kids)
goes_again c one more p kids others some now left =
    ap (λ (n : ℕ). left_behind_slots (Heard (AttemptedBy one) ∷ []) (rest_from n c.attempt c.request c.kids c.ended)) some
    ∙ (ap (λ (b : Bool). plan_again b one (plan_settle more (c.attempt + 1)) >>= λ x. Ends (settled_behind c.ended x)) now
    ∙ (ap (λ (g : Forest). plan_left one g (plan_settle more (c.attempt + 1)) >>= λ x. Ends (settled_behind c.ended x)) left
    ∙ ends_then (plan_settle more (c.attempt + 1) p kids) (add_settled one) (settled_behind c.ended)
    (settled_behind (c.ended ++ one.ended))
    (λ later. ap (λ (es : List Ended). SettledBy (record { ended = es; again = later.again; left = later.left }))
    (sym (append_assoc c.ended one.ended later.ended)))))

-- ---- a node that does nothing within

abbrev node_of : Frame → List Child → Stack
node_of o cs = record { outer = o; inner = None; children = cs }

alone_is : (st : Stack) → st.inner ≡ None → st ≡ node_of st.outer st.children
alone_is st h = λ i. record { outer = st.outer; inner = h i; children = st.children }

beside_heard : (op : Task) (asked : List Task) (slots : List Slot) → AllHeard slots → GoesBesideAll op asked slots
beside_heard op [] slots h = tt
beside_heard op (q ∷ asked) [] h = tt
beside_heard op (q ∷ asked) (Heard v ∷ slots) h = beside_heard op asked slots h
beside_heard op (q ∷ asked) (IsOut told ∷ slots) h = absurd (cc)

asks_at : (t : Terms) (c : Course) (o : Frame) → AllHeard o.slots → left_of t o ≡ rest_of c → AsksNext t o (attempt_of c)
asks_at t c o heard rest = record {
  next = subst (λ (outs : List _). NextAnswered outs (left_of t o) (attempt_of c)) (sym heard)
      (subst (λ (p : TaskPlan Value). NextAnswered [] p (attempt_of c)) (sym rest)
      (asks_first c.more c.attempt c.request c.kids c.ended));
  beside = beside_heard (attempt_of c) o.asked o.slots heard;
}

-- ---- the moves

module _ (t : Terms) where
  pub course_begins : (p : Pending) (kids : Forest) → IsBetween t (course_of p kids) (fresh_stack (Settle p kids))
  course_begins p kids = record {
    settles = tt;
    alone = refl;
    heard = refl;
    full = refl;
    rest = refl;
    number = refl;
    none = λ n child is goes. absurd (cc);
    ended_are = refl;
  }

  module _ (c : Course) (st : Stack) where
    -- the attempt comes next
    pub course_asks : IsBetween t c st → AsksNext t (asking st) (attempt_of c)
    course_asks h =
        subst (λ (x : Stack). AsksNext t (asking x) (attempt_of c)) (sym (alone_is st h.alone))
        (asks_at t c st.outer h.heard h.rest)

    handed_at : (o : Frame) (cs : List Child) → IsBetween t c (node_of o cs) → IsAttempting t c (handed (node_of o cs) (attempt_of c))
    handed_at o cs h = record {
      settles = h.settles;
      alone = refl;
      before = o.slots;
      told = None;
      slots = refl;
      heard = h.heard;
      full = length-append o.asked (attempt_of c ∷ []) ∙ ap (λ (n : ℕ). n + 1) h.full ∙ sym (length-append o.slots (IsOut None ∷ []));
      asked = ap (slice_get (o.asked ++ attempt_of c ∷ [])) (sym h.full) ∙ get_last o.asked (attempt_of c);
      rest = h.rest;
      number = length-append cs (child_for (OfOuter (length o.slots)) (attempt_of c) ∷ []) ∙ ap (λ (n : ℕ). n + 1) h.number;
      child = child_for (OfOuter (length o.slots)) (attempt_of c);
      there = ap (slice_get (cs ++ child_for (OfOuter (length o.slots)) (attempt_of c) ∷ [])) (sym h.number)
          ∙ get_last cs (child_for (OfOuter (length o.slots)) (attempt_of c));
      going = refl;
      one = λ n child is goes. last n child goes (get_either cs (child_for (OfOuter (length o.slots)) (attempt_of c)) child n is);
      ended_are = h.ended_are;
    }
      where
        last : (n : ℕ) (child : Child) → child.ended ≡ false
            → (slice_get cs n ≡ Some child) ⊎ ((n ≡ length cs) × (child_for (OfOuter (length o.slots)) (attempt_of c) ≡ child))
            → (n ≡ c.attempt) × (child.seat ≡ OfOuter (length o.slots))
        last n child goes (inl e) = absurd (h.none n child e goes)
        last n child goes (inr e) = (e.0 ∙ h.number, ap (λ (x : Child). x.seat) (sym e.1))

    pub course_handed : IsBetween t c st → IsAttempting t c (handed st (attempt_of c))
    course_handed h =
        subst (λ (x : Stack). IsAttempting t c (handed x (attempt_of c))) (sym (alone_is st h.alone))
        (handed_at st.outer st.children (subst (IsBetween t c) (alone_is st h.alone) h))

    -- ---- it hears

    module _ (h : IsAttempting t c st) (n : ℕ) (child : Child) (is : slice_get st.children n ≡ Some child)
        (goes : child.ended ≡ false) where
      now_slots : (slot : Slot) → slice_set st.outer.slots (length h.before) slot ≡ h.before ++ slot ∷ []
      now_slots slot =
          ap (λ (xs : List Slot). slice_set xs (length h.before) slot) h.slots ∙ set_last h.before (IsOut h.told) slot

      now_full : (slot : Slot) → length st.outer.asked ≡ length (slice_set st.outer.slots (length h.before) slot)
      now_full slot = h.full ∙ sym (length-set st.outer.slots (length h.before) slot)

      told_at : (pointer : Option Bp) → IsAttempting t c
          (with_children (set_at st (OfOuter (length h.before)) (IsOut (Some pointer))) (slice_set st.children n (child_told child)))
      told_at pointer = record {
        settles = h.settles;
        alone = h.alone;
        before = h.before;
        told = Some pointer;
        slots = now_slots (IsOut (Some pointer));
        heard = h.heard;
        full = now_full (IsOut (Some pointer));
        asked = h.asked;
        rest = h.rest;
        number = length-set st.children n (child_told child) ∙ h.number;
        child = child_told child;
        there = ap (slice_get (slice_set st.children n (child_told child))) (sym (h.one n child is goes).0)
            ∙ get_set st.children n child (child_told child) is;
        going = goes;
        one = λ k x there going. still k x going (get_exchanged st.children n k (child_told child) x there);
        ended_are = h.ended_are;
      }
        where
          still : (k : ℕ) (x : Child) → x.ended ≡ false
              → ((k ≡ n) × (child_told child ≡ x)) ⊎ ((k ≢ n) × (slice_get st.children k ≡ Some x))
              → (k ≡ c.attempt) × (x.seat ≡ OfOuter (length h.before))
          still k x going (inl e) =
              let own = h.one n child is goes in (e.0 ∙ own.0, ap (λ (y : Child). y.seat) (sym e.1) ∙ own.1)
          still k x going (inr e) = h.one k x e.1 going

      pub course_told : (pointer : Option Bp) → IsAttempting t c (heard_early st n child pointer)
      course_told pointer =
          subst (λ (seat : Seat). IsAttempting t c
          (with_children (set_at st seat (IsOut (Some pointer))) (slice_set st.children n (child_told child))))
          (sym (h.one n child is goes).1) (told_at pointer)

      -- what is left behind the attempt's value
      left_then : (v : Value) → left_of t (with_slot st.outer (length h.before) (Heard v))
          ≡ left_behind_slots (Heard v ∷ []) (rest_of c)
      left_then v =
          ap (λ (xs : List Slot). left_behind_slots xs (plan t st.outer.op)) (now_slots (Heard v))
          ∙ (behind_heard h.before (Heard v ∷ []) (plan t st.outer.op) h.heard ∙ ap (left_behind_slots (Heard v ∷ [])) h.rest)

      heard_now : (v : Value) → AllHeard (slice_set st.outer.slots (length h.before) (Heard v))
      heard_now v = ap told_in (now_slots (Heard v)) ∙ all_heard_last h.before v h.heard

      abbrev After : Value → Seat → Stack
      After v seat = with_children (set_at st seat (Heard v)) (slice_set st.children n (child_ended child))

      ended_at : (v u : Value) → left_behind_slots (Heard v ∷ []) (rest_of c) ≡ Ends u
          → IsEnded t (After v (OfOuter (length h.before))) u
      ended_at v u left = record { alone = h.alone; heard = heard_now v; value = left_then v ∙ left }

      pub course_ends : (v u : Value) → left_behind_slots (Heard v ∷ []) (rest_of c) ≡ Ends u → IsEnded t (heard_of st n child v) u
      course_ends v u left =
          subst (λ (seat : Seat). IsEnded t (After v seat) u) (sym (h.one n child is goes).1) (ended_at v u left)

      -- the requests that it heard of are those before and the attempt's
      ended_at_last : (v : Value)
          → flat_map ended_in_slot (slice_set st.outer.slots (length h.before) (Heard v)) ≡ c.ended ++ ended_by v
      ended_at_last v =
          ap (flat_map ended_in_slot) (now_slots (Heard v))
          ∙ (flat_map-append ended_in_slot h.before (Heard v ∷ [])
          ∙ (ap (λ (es : List Ended). es ++ (ended_by v ++ [])) h.ended_are ∙ ap (λ (es : List Ended). c.ended ++ es) (append-nil (ended_by v))))

      pub course_ended : (v : Value) → ended_in (heard_of st n child v) ≡ c.ended ++ ended_by v
      course_ended v =
          subst (λ (seat : Seat). ended_in (After v seat) ≡ c.ended ++ ended_by v) (sym (h.one n child is goes).1) (ended_at_last v)

      between_at : (v : Value) (d : Course) → left_behind_slots (Heard v ∷ []) (rest_of c) ≡ rest_of d → d.attempt ≡ c.attempt + 1
          → d.ended ≡ c.ended ++ ended_by v → IsBetween t d (After v (OfOuter (length h.before)))
      between_at v d left next ended = record {
        settles = h.settles;
        alone = h.alone;
        heard = heard_now v;
        full = now_full (Heard v);
        rest = left_then v ∙ left;
        number = length-set st.children n (child_ended child) ∙ (h.number ∙ sym next);
        none = λ k x there going. no_other k x going (get_exchanged st.children n k (child_ended child) x there);
        ended_are = ended_at_last v ∙ sym ended;
      }
        where
          no_other : (k : ℕ) (x : Child) → x.ended ≡ false
              → ((k ≡ n) × (child_ended child ≡ x)) ⊎ ((k ≢ n) × (slice_get st.children k ≡ Some x)) → ⊥
          no_other k x going (inl e) = false≢true (sym going ∙ ap (λ (y : Child). y.ended) (sym e.1))
          no_other k x going (inr e) = e.0 ((h.one k x e.1 going).0 ∙ sym (h.one n child is goes).0)

      pub course_goes_again : (v : Value) (d : Course) → left_behind_slots (Heard v ∷ []) (rest_of c) ≡ rest_of d
          → d.attempt ≡ c.attempt + 1 → d.ended ≡ c.ended ++ ended_by v → IsBetween t d (heard_of st n child v)
      course_goes_again v d left next ended =
          subst (λ (seat : Seat). IsBetween t d (After v seat)) (sym (h.one n child is goes).1) (between_at v d left next ended)

      -- its operation is the attempt
      pub course_asked : (op : Task) → asked_at st child.seat ≡ Some op → op ≡ attempt_of c
      course_asked op e =
          some_is op (attempt_of c)
          (sym e ∙ ap (asked_at st) (h.one n child is goes).1 ∙ h.asked)
