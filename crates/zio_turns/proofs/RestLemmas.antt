-- What a plan asks and how it ends, where whatever stands under a request is left under it, or finished.
use Rattle.std.proofs.Common.{◌≡◌, ℕ, zero, suc, ◌+◌, List, [], ◌∷◌, ◌++◌, length, length-append, slice_get, slice_set, Bool, true, false, Option, Some, None, inl, inr, refl, sym, ap, ◌∙◌, subst, arith}
use Rattle.std.specs.Prelude.{Contains, map}
use Rattle.std.proofs.lemmas.Bool.{false≢true}
use Rattle.std.proofs.lemmas.List.Elements.{Contains-append_cases, Contains-append_left, Contains-append_right}
use Rattle.zio_types.specs.declared.request.Bits.{Bits}
use Rattle.zio_types.specs.Choices.{Choice}
use Rattle.zio_blkptr.specs.declared.pointer.Bp.{Bp}
use Rattle.zio_script.specs.Requests.{kind_of}
use Rattle.zio_gang.specs.Attempts.{Child, Ended, Own, Pending, Terms, all_bits, bits_of, children_of, closed_if, finished_of, has_bits, insert_children, judged_own, now_alone, reexecutions_max}
use Rattle.zio_trace.specs.Families.{Forest, NoTrees, TreeOf, before}
use Rattle.zio_trace.specs.Plans.{Kids, TaskPlan, add_kid, bare as bare_own, one_of, plan, plan_again, plan_kids, plan_left, plan_own, plan_root, plan_settle}
use Rattle.zio_trace.specs.Programs.{Asks, Ends, ◌>>=◌}
use Rattle.zio_trace.specs.Tasks.{Attempt, AttemptedBy, Find, Leaf, One, ReadCopies, ReadHeads, ReadTree, Settle, Settled, SettledBy, TakePlaces, Task, Value, WriteCopies, WritePart, attempted}
use Rattle.zio_trace.specs.Traces.{AsksOnly}
use Rattle.zio_trace.proofs.ChoiceLemmas.{contained_cases}
use Rattle.zio_trace.proofs.ListLemmas.{contains_first, contains_later}
use Rattle.zio_children.specs.RequestKids.{root_numbers}
use Rattle.zio_frames.specs.Frames.{Frame, Stack, with_asked}
use Rattle.zio_frames.specs.Moves.{IsEnded}
use Rattle.zio_frames.specs.OfRound.{AreAsked, IsFrameOf}
use Rattle.zio_frames.specs.Slots.{Heard, IsOut, Slot, left_behind_slots}
use Rattle.zio_frames.proofs.GetLemmas.{get_last}
use Rattle.zio_frames.proofs.RoundWalks.{stand_in}
use Rattle.zio_staged.specs.Parts.{ended_by}
use Rattle.zio_turns.specs.Rests.{ChildrenAmong, HasLeftRests, HasRests, HasRestsIn, HaveRests, LeavesRests, SlotRests, SlotsRest, numbers_ended}
use Rattle.zio_turns.proofs.ClaimsLast.{stands_early, stands_kind}
use Rattle.zio_turns.proofs.Links.{some_is}
use Rattle.zio_turns.proofs.PlansOnly.{NoTry, own_no_try, task_no_try}
use Rattle.zio_turns.proofs.Withins.{IsQuiet, asks_no_end, same_end}

-- ---- with more that finished

-- the second has each that the first has
abbrev pub IsAmong : List ℕ → List ℕ → Type 0
IsAmong a b = (n : ℕ) → Contains a n → Contains b n

pub among_behind : (front a b : List ℕ) → IsAmong a b → IsAmong (front ++ a) (front ++ b)
among_behind front a b more n c = elim (Contains-append_cases front a n c) [
  | inl here ↦ Contains-append_left front b n here
  | inr there ↦ Contains-append_right front b n (more n there)
]

module _ (f : Forest) (a b : List ℕ) (more : IsAmong a b) where
  pub rests_more : (g : Forest) → HaveRests f a g → HaveRests f b g
  rests_more NoTrees h = tt
  rests_more (TreeOf p kids others) h = (
    λ q here under. among_behind (root_numbers kids) a b more q.request.number (h.0 q here under),
    rests_more kids h.1,
    rests_more others h.2,
  )

  pub rests_in_more : (op : Task) → HasRestsIn f a op → HasRestsIn f b op
  rests_in_more (Attempt attempt p kids) h = rests_more (TreeOf p kids NoTrees) h
  rests_in_more (Settle p kids) h = rests_more (TreeOf p kids NoTrees) h
  rests_in_more _ h = tt

  pub left_more : (n : ℕ) (one : One) → HasLeftRests f a n one → HasLeftRests f b n one
  left_more n one h = record {
    rests = rests_more one.left h.rests;
    itself = among_behind (root_numbers one.left) a b more n h.itself;
    none = h.none;
  }

  slot_more : (op : Task) (slot : Slot) → SlotRests f a op slot → SlotRests f b op slot
  slot_more op (IsOut told) h = tt
  slot_more (Attempt attempt p kids) (Heard v) h = left_more p.request.number (attempted v) h
  slot_more _ (Heard v) h = tt

  slots_more : (asked : List Task) (slots : List Slot) → SlotsRest f a asked slots → SlotsRest f b asked slots
  slots_more [] slots h = tt
  slots_more (op ∷ asked) [] h = tt
  slots_more (op ∷ asked) (slot ∷ slots) h = (slot_more op slot h.0, slots_more asked slots h.1)

  pub has_more : (st : Stack) → HasRests f a st → HasRests f b st
  has_more st h =
      record { own = rests_in_more st.outer.op h.own; heard = slots_more st.outer.asked st.outer.slots h.heard }

-- ---- slots

module _ (f : Forest) (ended : List ℕ) where
  pub quiet_rests : (op : Task) (v : Value) → IsQuiet op → LeavesRests f ended op v
  quiet_rests (Attempt attempt p kids) v h = absurd h
  quiet_rests _ v h = tt

  pub slots_asked : (asked : List Task) (slots : List Slot) (op : Task) (slot : Slot) → length asked ≡ length slots
      → SlotsRest f ended asked slots → SlotRests f ended op slot → SlotsRest f ended (asked ++ op ∷ []) (slots ++ slot ∷ [])
  slots_asked [] [] op slot full h new = (new, tt)
  slots_asked [] (x ∷ slots) op slot full h new = absurd (omega (arith, full))
  slots_asked (q ∷ asked) [] op slot full h new = absurd (omega (arith, full))
  slots_asked (q ∷ asked) (x ∷ slots) op slot full h new = (h.0, slots_asked asked slots op slot (omega (arith, full)) h.1 new)

  pub slots_set : (asked : List Task) (slots : List Slot) (n : ℕ) (op : Task) (slot : Slot) → slice_get asked n ≡ Some op
      → SlotsRest f ended asked slots → SlotRests f ended op slot → SlotsRest f ended asked (slice_set slots n slot)
  slots_set [] slots n op slot e h new = tt
  slots_set (q ∷ asked) [] n op slot e h new = tt
  slots_set (q ∷ asked) (x ∷ slots) zero op slot e h new =
      (subst (λ (y : Task). SlotRests f ended y slot) (sym (some_is q op e)) new, h.1)
  slots_set (q ∷ asked) (x ∷ slots) (suc n) op slot e h new = (h.0, slots_set asked slots n op slot e h.1 new)

  -- one that is out still is
  pub slots_out : (asked : List Task) (slots : List Slot) (n : ℕ) (told : Option (Option Bp)) → SlotsRest f ended asked slots
      → SlotsRest f ended asked (slice_set slots n (IsOut told))
  slots_out [] slots n told h = tt
  slots_out (q ∷ asked) [] n told h = tt
  slots_out (q ∷ asked) (x ∷ slots) zero told h = (tt, h.1)
  slots_out (q ∷ asked) (x ∷ slots) (suc n) told h = (h.0, slots_out asked slots n told h.1)

  pub slots_quiet : (asked : List Task) (slots : List Slot) (n : ℕ) (op : Task) (v : Value) → slice_get asked n ≡ Some op
      → IsQuiet op → SlotsRest f ended asked slots → SlotsRest f ended asked (slice_set slots n (Heard v))
  slots_quiet asked slots n op v e quiet h = slots_set asked slots n op (Heard v) e h (quiet_rests op v quiet)

  -- ---- what a plan asks

  -- what an attempt left, if it is one
  abbrev LeftOver : Task → Value → Type 0
  LeftOver (Attempt attempt p kids) v = HaveRests f ended (attempted v).left
  LeftOver _ v = Unit {0}

  left_over : (op : Task) (v : Value) → LeavesRests f ended op v → LeftOver op v
  left_over (Attempt attempt p kids) v h = h.rests
  left_over _ v h = tt

  stands_over : (op : Task) (told : Option (Option Bp)) → LeftOver op (stand_in op told)
  stands_over (Attempt attempt p kids) told = tt
  stands_over _ told = tt

  -- whatever is answered so, it asks such operations
  abbrev AsksSuch : {A : Type 0} → TaskPlan A → Type 0
  AsksSuch (Ends a) = Unit {0}
  AsksSuch (Asks op more) = HasRestsIn f ended op × ((v : Value) → LeftOver op v → AsksSuch (more v))

  such_then : {A B : Type 0} (p : TaskPlan A) (next : A → TaskPlan B) → AsksSuch p → ((a : A) → AsksSuch (next a))
      → AsksSuch (p >>= next)
  such_then (Ends a) next h k = k a
  such_then (Asks op more) next h k = (h.0, λ v left. such_then (more v) next (h.1 v left) k)

  no_try_rests : (op : Task) → NoTry op → HasRestsIn f ended op
  no_try_rests (Attempt attempt p kids) h = absurd (false≢true (sym h))
  no_try_rests (Settle p kids) h = absurd (false≢true (sym h))
  no_try_rests _ h = tt

  such_only : {A : Type 0} (p : TaskPlan A) → AsksOnly NoTry p → AsksSuch p
  such_only (Ends a) h = tt
  such_only (Asks op more) h = (no_try_rests op h.0, λ v left. such_only (more v) (h.1 v))

  such_kids : (attempt : ℕ) (g : Forest) → HaveRests f ended g → AsksSuch (plan_kids attempt g)
  such_kids attempt NoTrees h = tt
  such_kids attempt (TreeOf p kids others) h =
      ((h.0, h.1, tt), λ v left. such_then (plan_kids attempt others) _ (such_kids attempt others h.2) (λ o. tt))

  such_left : (one : One) (left : Forest) (again : Pending → Forest → TaskPlan Settled) → HaveRests f ended left
      → ((p : Pending) (kids : Forest) → HaveRests f ended (TreeOf p kids NoTrees) → AsksSuch (again p kids))
      → AsksSuch (plan_left one left again)
  such_left one NoTrees again h k = tt
  such_left one (TreeOf p kids others) again h k = such_then (again p kids) _ (k p kids (h.0, h.1, tt)) (λ later. tt)

  such_again : (now : Bool) (one : One) (again : Pending → Forest → TaskPlan Settled) → HaveRests f ended one.left
      → ((p : Pending) (kids : Forest) → HaveRests f ended (TreeOf p kids NoTrees) → AsksSuch (again p kids))
      → AsksSuch (plan_again now one again)
  such_again true one again h k = such_left one one.left again h k
  such_again false one again h k = tt

  such_settle : (more attempt : ℕ) (p : Pending) (kids : Forest) → HaveRests f ended (TreeOf p kids NoTrees)
      → AsksSuch (plan_settle more attempt p kids)
  such_settle zero attempt p kids h = (h, λ v left. tt)
  such_settle (suc more) attempt p kids h = (
    h,
    λ v left. such_again (now_alone (attempted v).return.bits) (attempted v) (plan_settle more (attempt + 1)) left
        (λ q under rests. such_settle more (attempt + 1) q under rests),
  )

  such_attempt : (t : Terms) (attempt : ℕ) (p : Pending) (kids : Forest) → HaveRests f ended (TreeOf p kids NoTrees)
      → AsksSuch (plan t (Attempt attempt p kids))
  such_attempt t attempt p kids h =
      such_then (plan_kids attempt kids) _ (such_kids attempt kids h.1) (λ k.
      such_then (plan_own t attempt p p.request.work _) _
      (such_only (plan_own t attempt p p.request.work _) (own_no_try t attempt p p.request.work _)) (λ own. tt))

  such_plan : (t : Terms) (op : Task) → HasRestsIn f ended op → AsksSuch (plan t op)
  such_plan t (Attempt attempt p kids) h = such_attempt t attempt p kids h
  such_plan t (Settle p kids) h =
      such_then (plan_settle reexecutions_max 0 p kids) (λ x. Ends (SettledBy x)) (such_settle reexecutions_max 0 p kids h)
      (λ x. tt)
  such_plan t (Leaf act) h = such_only (plan t (Leaf act)) (task_no_try t (Leaf act) refl)
  such_plan t (Find a) h = such_only (plan t (Find a)) (task_no_try t (Find a) refl)
  such_plan t (TakePlaces tree) h = such_only (plan t (TakePlaces tree)) (task_no_try t (TakePlaces tree) refl)
  such_plan t (ReadCopies repair test len places) h =
      such_only (plan t (ReadCopies repair test len places)) (task_no_try t (ReadCopies repair test len places) refl)
  such_plan t (WriteCopies bytes places) h =
      such_only (plan t (WriteCopies bytes places)) (task_no_try t (WriteCopies bytes places) refl)
  such_plan t (WritePart attempt p sum copies levels path bytes) h =
      such_only (plan t (WritePart attempt p sum copies levels path bytes))
      (task_no_try t (WritePart attempt p sum copies levels path bytes) refl)
  such_plan t (ReadHeads look levels path bp) h =
      such_only (plan t (ReadHeads look levels path bp)) (task_no_try t (ReadHeads look levels path bp) refl)
  such_plan t (ReadTree tree) h = such_only (plan t (ReadTree tree)) (task_no_try t (ReadTree tree) refl)

  asked_such : {A : Type 0} (asked : List Task) (slots : List Slot) (p : TaskPlan A) → AsksSuch p → AreAsked asked slots p
      → SlotsRest f ended asked slots → length asked ≡ length slots → (n : ℕ) (op : Task) → slice_get asked n ≡ Some op
      → HasRestsIn f ended op
  asked_such [] slots p h are rests full n op e = absurd (cc)
  asked_such (q ∷ asked) [] p h are rests full n op e = absurd (omega (arith, full))
  asked_such (q ∷ asked) (x ∷ slots) (Ends a) h are rests full n op e = absurd are
  asked_such (q ∷ asked) (Heard v ∷ slots) (Asks next more) h are rests full zero op e =
      subst (HasRestsIn f ended) (sym are.0 ∙ some_is q op e) h.0
  asked_such (q ∷ asked) (Heard v ∷ slots) (Asks next more) h are rests full (suc n) op e =
      asked_such asked slots (more v)
      (h.1 v (subst (λ (y : Task). LeftOver y v) are.0 (left_over q v rests.0))) are.1 rests.1 (omega (arith, full)) n op e
  asked_such (q ∷ asked) (IsOut told ∷ slots) (Asks next more) h are rests full zero op e =
      subst (HasRestsIn f ended) (sym are.0 ∙ some_is q op e) h.0
  asked_such (q ∷ asked) (IsOut told ∷ slots) (Asks next more) h are rests full (suc n) op e =
      asked_such asked slots (more (stand_in next told)) (h.1 (stand_in next told) (stands_over next told))
      (are.1 (stand_in next told) (stands_kind next told) (stands_early next told)) rests.1 (omega (arith, full)) n op e

  -- the operation that was asked last
  pub last_rests : (t : Terms) (entries : List Choice) (o : Frame) (op : Task) → HasRestsIn f ended o.op
      → SlotsRest f ended o.asked o.slots → length o.asked ≡ length o.slots → IsFrameOf t f entries (with_asked o op (IsOut None))
      → HasRestsIn f ended op
  last_rests t entries o op own heard full of_round =
      asked_such (o.asked ++ op ∷ []) (o.slots ++ IsOut None ∷ []) (plan t o.op) (such_plan t o.op own) of_round.asked
      (slots_asked o.asked o.slots op (IsOut None) full heard tt)
      (let a = length-append o.asked (op ∷ []) in let b = length-append o.slots (IsOut None ∷ []) in omega arith)
      (length o.asked) op (get_last o.asked op)

  -- ---- how a plan ends

  -- whatever is answered so, this holds of its end
  abbrev EndsSuch : {A : Type 0} → (A → Type 0) → TaskPlan A → Type 0
  EndsSuch P (Ends a) = P a
  EndsSuch P (Asks op more) = (v : Value) → LeavesRests f ended op v → EndsSuch P (more v)

  ends_then : {A B : Type 0} (P : A → Type 0) (Q : B → Type 0) (p : TaskPlan A) (next : A → TaskPlan B) → EndsSuch P p
      → ((a : A) → P a → EndsSuch Q (next a)) → EndsSuch Q (p >>= next)
  ends_then P Q (Ends a) next h k = k a h
  ends_then P Q (Asks op more) next h k = λ v left. ends_then P Q (more v) next (h v left) k

  ends_any : {A B : Type 0} (Q : B → Type 0) (p : TaskPlan A) (next : A → TaskPlan B) → ((a : A) → EndsSuch Q (next a))
      → EndsSuch Q (p >>= next)
  ends_any Q (Ends a) next k = k a
  ends_any Q (Asks op more) next k = λ v left. ends_any Q (more v) next k

  ended_such : {A : Type 0} (P : A → Type 0) (asked : List Task) (slots : List Slot) (p : TaskPlan A) (a : A) → EndsSuch P p
      → AreAsked asked slots p → SlotsRest f ended asked slots → length asked ≡ length slots
      → left_behind_slots slots p ≡ Ends a → P a
  ended_such P [] [] (Ends b) a h are rests full e = subst P (same_end b a e) h
  ended_such P [] [] (Asks op more) a h are rests full e = absurd (asks_no_end op more a e)
  ended_such P [] (x ∷ slots) p a h are rests full e = absurd (omega (arith, full))
  ended_such P (q ∷ asked) [] p a h are rests full e = absurd (omega (arith, full))
  ended_such P (q ∷ asked) (x ∷ slots) (Ends b) a h are rests full e = absurd are
  ended_such P (q ∷ asked) (Heard v ∷ slots) (Asks op more) a h are rests full e =
      ended_such P asked slots (more v) a (h v (subst (λ (y : Task). LeavesRests f ended y v) are.0 rests.0)) are.1 rests.1
      (omega (arith, full)) e
  ended_such P (q ∷ asked) (IsOut told ∷ slots) (Asks op more) a h are rests full e =
      absurd (asks_no_end op (λ v. left_behind_slots slots (more v)) a e)

  -- the trees under a request were attempted
  record KidsLeft (g : Forest) (k : Kids) : Type 0 where
    rests : HaveRests f ended k.left
    roots : IsAmong (root_numbers g) (root_numbers k.left ++ ended)
    none : k.again ≡ [] → k.left ≡ NoTrees

  roots_before : (g h : Forest) → root_numbers (before g h) ≡ root_numbers g ++ root_numbers h
  roots_before NoTrees h = refl
  roots_before (TreeOf p kids others) h = ap (λ (ns : List ℕ). p.request.number ∷ ns) (roots_before others h)

  rests_before : (g h : Forest) → HaveRests f ended g → HaveRests f ended h → HaveRests f ended (before g h)
  rests_before NoTrees h a b = b
  rests_before (TreeOf p kids others) h a b = (a.0, a.1, rests_before others h a.2 b)

  -- with more roots
  in_left : (a b : List ℕ) (n : ℕ) → Contains (a ++ ended) n → Contains ((a ++ b) ++ ended) n
  in_left a b n c = elim (Contains-append_cases a ended n c) [
    | inl here ↦ Contains-append_left (a ++ b) ended n (Contains-append_left a b n here)
    | inr there ↦ Contains-append_right (a ++ b) ended n there
  ]

  in_right : (a b : List ℕ) (n : ℕ) → Contains (b ++ ended) n → Contains ((a ++ b) ++ ended) n
  in_right a b n c = elim (Contains-append_cases b ended n c) [
    | inl here ↦ Contains-append_left (a ++ b) ended n (Contains-append_right a b n here)
    | inr there ↦ Contains-append_right (a ++ b) ended n there
  ]

  front_none : {X : Type 0} (xs ys : List X) → xs ++ ys ≡ [] → xs ≡ []
  front_none [] ys e = refl
  front_none (x ∷ xs) ys e = absurd (cc)

  back_none : {X : Type 0} (xs ys : List X) → xs ++ ys ≡ [] → ys ≡ []
  back_none [] ys e = e
  back_none (x ∷ xs) ys e = absurd (cc)

  add_left : (p : Pending) (kids others : Forest) (one : One) (o : Kids) → HasLeftRests f ended p.request.number one
      → KidsLeft others o → KidsLeft (TreeOf p kids others) (add_kid one o)
  add_left p kids others one o h k = record {
    rests = rests_before one.left o.left h.rests k.rests;
    roots = λ n c.
        let there : Contains ((root_numbers one.left ++ root_numbers o.left) ++ ended) n =
        elim (contained_cases p.request.number (root_numbers others) n c) [
          | inl e ↦ in_left (root_numbers one.left) (root_numbers o.left) n
              (subst (λ (m : ℕ). Contains (root_numbers one.left ++ ended) m) e h.itself)
          | inr later ↦ in_right (root_numbers one.left) (root_numbers o.left) n (k.roots n later)
        ] in
        subst (λ (ns : List ℕ). Contains (ns ++ ended) n) (sym (roots_before one.left o.left)) there;
    none = λ e.
        ap (λ (g : Forest). before g o.left) (h.none (front_none one.again o.again e)) ∙ k.none (back_none one.again o.again e);
  }

  ends_kids : (attempt : ℕ) (g : Forest) → EndsSuch (KidsLeft g) (plan_kids attempt g)
  ends_kids attempt NoTrees =
      record { rests = tt; roots = λ n c. Contains-append_left [] ended n c; none = λ e. refl }
  ends_kids attempt (TreeOf p kids others) = λ v left.
      ends_then (KidsLeft others) (KidsLeft (TreeOf p kids others)) (plan_kids attempt others) _ (ends_kids attempt others)
      (λ o k. add_left p kids others (attempted v) o left k)

  -- What an attempt left: its request is left or finished in it; and where none goes again, the roots under it finished before.
  pub record AttemptLeft (p : Pending) (kids : Forest) (v : Value) : Type 0 where
    pub one : One
    pub is : v ≡ AttemptedBy one
    pub rests : HaveRests f ended one.left
    pub itself : Contains (root_numbers one.left ++ numbers_ended one.ended) p.request.number
    pub none : one.again ≡ [] → one.left ≡ NoTrees
    pub below : one.again ≡ [] → IsAmong (root_numbers kids) ended

  numbers_last : (front : List Ended) (e : Ended) → Contains (numbers_ended (front ++ e ∷ [])) e.request.number
  numbers_last [] e = contains_first e.request.number []
  numbers_last (x ∷ front) e =
      contains_later x.request.number (numbers_ended (front ++ e ∷ [])) e.request.number (numbers_last front e)

  closed_left : (b : Bool) (p : Pending) (kids : Forest) (k : Kids) (own : Own) (bits : Bits) (kept : List Child)
      → ChildrenAmong f p.request.number (root_numbers kids ++ ended) → KidsLeft kids k
      → AttemptLeft p kids (AttemptedBy (one_of k (closed_if b p own bits kept)))
  closed_left true p kids k own bits kept under h = record {
    one = one_of k (closed_if true p own bits kept);
    is = refl;
    rests = (
      λ q here is. elim (Contains-append_cases (root_numbers kids) ended q.request.number (under q here is)) [
        | inl root ↦ h.roots q.request.number root
        | inr gone ↦ Contains-append_right (root_numbers k.left) ended q.request.number gone
      ],
      h.rests,
      tt,
    );
    itself = contains_first p.request.number _;
    none = λ e. absurd (let no : record p { kept = kept } ∷ [] ≡ [] = back_none k.again (record p { kept = kept } ∷ []) e in cc);
    below = λ e. absurd (let no : record p { kept = kept } ∷ [] ≡ [] = back_none k.again (record p { kept = kept } ∷ []) e in cc);
  }
  closed_left false p kids k own bits kept under h = record {
    one = one_of k (closed_if false p own bits kept);
    is = refl;
    rests = tt;
    itself = numbers_last k.ended _;
    none = λ e. refl;
    below = λ e n root.
        subst (λ (g : Forest). Contains (root_numbers g ++ ended) n) (h.none (front_none k.again [] e)) (h.roots n root);
  }

  ends_attempt : (t : Terms) (attempt : ℕ) (p : Pending) (kids : Forest)
      → ChildrenAmong f p.request.number (root_numbers kids ++ ended)
      → EndsSuch (AttemptLeft p kids) (plan t (Attempt attempt p kids))
  ends_attempt t attempt p kids under =
      ends_then (KidsLeft kids) (AttemptLeft p kids) (plan_kids attempt kids) (λ k. plan_root t attempt p k)
      (ends_kids attempt kids) (λ k h. ends_any (AttemptLeft p kids)
      (plan_own t attempt p p.request.work (map (λ (c : Child). c.pointer) (insert_children (children_of k.returns) p.kept)))
      (λ own. Ends (AttemptedBy (one_of k (judged_own t p k.returns (bare_own own))))) (λ own.
      let bits : Bits = all_bits (kind_of p.request.work) own.error p.request.canfail t.failmode (bits_of k.returns) in
      closed_left (has_bits bits) p kids k (bare_own own) bits (insert_children (children_of (finished_of k.returns)) p.kept)
      under h))

-- ---- a node that ends

-- What it leaves, over what finished before and what finished in it; and where it is an attempt and none goes again, the requests
-- under its own finished before.
pub record EndLeaves (t : Terms) (f : Forest) (st : Stack) (v : Value) : Type 0 where
  pub left : (ended now : List ℕ) → HasRests f ended st → IsAmong ended now → IsAmong (numbers_ended (ended_by v)) now
      → LeavesRests f now st.outer.op v
  pub under : (ended : List ℕ) (attempt : ℕ) (p : Pending) (kids : Forest) (one : One) → HasRests f ended st
      → st.outer.op ≡ Attempt attempt p kids → IsEnded t st (AttemptedBy one) → one.again ≡ []
      → ChildrenAmong f p.request.number ended

module _ (t : Terms) (f : Forest) (st : Stack) (v : Value) (are : AreAsked st.outer.asked st.outer.slots (plan t st.outer.op))
    (full : length st.outer.asked ≡ length st.outer.slots) where
  attempt_left : (ended : List ℕ) (attempt : ℕ) (p : Pending) (kids : Forest) (w : Value) → HasRests f ended st
      → st.outer.op ≡ Attempt attempt p kids → IsEnded t st w → AttemptLeft f ended p kids w
  attempt_left ended attempt p kids w h does ends =
      let own : HaveRests f ended (TreeOf p kids NoTrees) = subst (HasRestsIn f ended) does h.own in
      ended_such f ended (AttemptLeft f ended p kids) st.outer.asked st.outer.slots (plan t (Attempt attempt p kids)) w
      (ends_attempt f ended t attempt p kids own.0)
      (subst (λ (op : Task). AreAsked st.outer.asked st.outer.slots (plan t op)) does are) h.heard full
      (subst (λ (op : Task). left_behind_slots st.outer.slots (plan t op) ≡ Ends w) does ends.value)

  leaves_by : (ended now : List ℕ) (op : Task) → st.outer.op ≡ op → IsEnded t st v → HasRests f ended st → IsAmong ended now
      → IsAmong (numbers_ended (ended_by v)) now → LeavesRests f now op v
  leaves_by ended now (Attempt attempt p kids) does ends h more own =
      let l : AttemptLeft f ended p kids v = attempt_left ended attempt p kids v h does ends in
      subst (λ (w : Value). HasLeftRests f now p.request.number (attempted w)) (sym l.is) (record {
        rests = rests_more f ended now more l.one.left l.rests;
        itself = among_behind (root_numbers l.one.left) (numbers_ended l.one.ended) now
            (subst (λ (w : Value). IsAmong (numbers_ended (ended_by w)) now) l.is own) p.request.number l.itself;
        none = l.none;
      })
  leaves_by ended now _ does ends h more own = tt

  same_one : (one other : One) → AttemptedBy one ≡ AttemptedBy other → one ≡ other
  same_one one other e = cc

  pub end_leaves : IsEnded t st v → EndLeaves t f st v
  end_leaves ends = record {
    left = λ ended now h more own. leaves_by ended now st.outer.op refl ends h more own;
    under = λ ended attempt p kids one h does over again q here is.
        let own : HaveRests f ended (TreeOf p kids NoTrees) = subst (HasRestsIn f ended) does h.own in
        let l : AttemptLeft f ended p kids (AttemptedBy one) = attempt_left ended attempt p kids (AttemptedBy one) h does over in
        let same : one ≡ l.one = same_one one l.one l.is in
        elim (Contains-append_cases (root_numbers kids) ended q.request.number (own.0 q here is)) [
          | inl root ↦ l.below (subst (λ (x : One). x.again ≡ []) same again) q.request.number root
          | inr gone ↦ gone
        ];
  }
