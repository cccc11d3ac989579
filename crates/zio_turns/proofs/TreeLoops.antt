-- All trees of a round, from one hearing to the next, and at its end.
use Rattle.std.proofs.Common.{◌≡◌, ◌≢◌, ℕ, zero, suc, ◌+◌, ◌<◌, ◌≤◌, List, [], ◌∷◌, ◌++◌, length, map, slice_get, slice_set, false, Option, Some, None, ◌⊎◌, inl, inr, refl, sym, ap, ◌∙◌, subst, arith}
use Rattle.std.proofs.Common.{append_assoc}
use Rattle.std.specs.List.{AllByRecursion, sum_by}
use Rattle.std.proofs.lemmas.List.Sums.{sum_by-cons}
use Rattle.std.proofs.lemmas.List.{append-nil}
use Rattle.zio_types.specs.declared.place.Top.{Top}
use Rattle.zio_types.specs.Choices.{Choice}
use Rattle.zio_cksum.proofs.AllLemmas.{all_append}
use Rattle.zio_script.specs.declared.script.Failmode.{Failmode}
use Rattle.zio_gang.specs.Attempts.{Terms, reexecutions_max}
use Rattle.zio_trace.specs.Families.{Forest}
use Rattle.zio_trace.specs.Tasks.{AttemptedBy, One, Task, Value}
use Rattle.zio_frames.specs.Frames.{Child, Flying, Stack}
use Rattle.zio_frames.specs.Moves.{heard_early, heard_of}
use Rattle.zio_frames.specs.Seats.{asked_at}
use Rattle.zio_frames.specs.Slots.{Heard, Slot, left_behind_slots}
use Rattle.zio_frames.proofs.GetLemmas.{get_other, get_set, same_or_not}
use Rattle.zio_exchange.specs.Outcomes.{IsOutcome}
use Rattle.zio_exchange.specs.declared.waiting.UnfinishedRequest.{UnfinishedRequest}
use Rattle.zio_exchange.specs.declared.outcome.FinishedRequest.{FinishedRequest}
use Rattle.zio_exchange.specs.declared.outcome.Outcome.{Outcome}
use Rattle.zio_exchange.specs.declared.outcome.Outcome.TheVariants.{Again, Finished as HasFinished, Found, Stored, Walked}
use Rattle.slab.specs.Slab.{Slab}
use Rattle.zio_turns.specs.Attempting.{Course, IsAttempting, attempt_of, rest_of, settled_with}
use Rattle.zio_turns.specs.AtLeaves.{keys_at}
use Rattle.zio_turns.specs.Engine.{IsKept}
use Rattle.zio_staged.specs.Entries.{Live, flying_at, handed_on, standing, top_at}
use Rattle.zio_turns.specs.Ledgers.{Ending, IsLedger}
use Rattle.zio_staged.specs.Parts.{Nodes, ended_by}
use Rattle.zio_turns.specs.Rounds.{Before, EndsAs, SoFar, finished_in, with_done, with_tree}
use Rattle.zio_turns.specs.Slabs.{AreAll, shelf_of}
use Rattle.zio_turns.specs.UnderTrees.{AfterHearing, AreInStates, AreSettledWith, HasHeardOf, HasRun, IsInState, IsLeftOf, IsOfAttempt, IsOver, IsSettledWith, RunsSome, RunsToEnd, RunsTrees, StateIn, TreeGoesOn, attempts_left, with_value}
use Rattle.zio_turns.specs.UnderTurns.{AreTold, EndsFinished, GoesOnSome, HasEndedFor, IsTelling, RunsToTree, Telling, with_telling}
use Rattle.zio_turns.specs.declared.entry.TiedNode.{TiedNode}
use Rattle.zio_turns.specs.declared.grounds.Grounds.{Grounds}
use Rattle.zio_turns.specs.declared.hearing.Hearing.{Hearing}
use Rattle.zio_turns.specs.declared.trees.TreeEnd.{TreeEnd}
use Rattle.zio_turns.specs.declared.trees.TreeState.{TreeState}
use Rattle.zio_turns.specs.declared.trees.TreeState.TheVariants.{Settled, UnderWay}
use Rattle.zio_turns.proofs.AttemptMoves.{course_asked, course_ended, course_ends, course_goes_again, course_told}
use Rattle.zio_turns.proofs.Kept.{world}
use Rattle.zio_turns.proofs.Links.{in_flight_there, some_is}
use Rattle.zio_turns.proofs.Progress.{none_left}
use Rattle.zio_turns.proofs.Tops.{stand_slot, top_other, top_set}
use Rattle.zio_turns.proofs.TurnMoves.{ends_finished, told_append}

-- what is suspended of one more tree is so
pub all_in : (Q : List UnfinishedRequest → Type 0) (states : List TreeState) (n : ℕ) (x : TreeState) → StateIn Q x
    → AllByRecursion (StateIn Q) states → AllByRecursion (StateIn Q) (slice_set states n x)
all_in Q [] n x is all = tt
all_in Q (y ∷ ys) zero x is all = (is, all.1)
all_in Q (y ∷ ys) (suc n) x is all = (all.0, all_in Q ys n x is all.1)

-- with the value of the nth child
abbrev heard_top : Flying → ℕ → Child → Value → Flying
heard_top top n child v = record { at = top.at; stack = heard_of top.stack n child v }

-- ---- what is told early changes no state

under_told : (t : Terms) (top : Flying) (n : ℕ) (x : Telling) (o : Option TreeState) → slice_get top.stack.children x.number ≡ Some x.child
    → x.child.ended ≡ false → IsInState t (Some top) o
    → IsInState t (Some (record { at = top.at; stack = heard_early top.stack x.number x.child x.pointer })) o
under_told t top n x (Some (UnderWay attempt)) is goes h =
    (h.0, course_told t h.0 top.stack h.1 x.number x.child is goes x.pointer, h.2, h.3)
under_told t top n x (Some (Settled end)) is goes h = absurd h
under_told t top n x None is goes h = absurd h

state_told : (t : Terms) (x : Telling) (tops : List (Option Flying)) (states : List TreeState) → IsTelling x tops
    → AreInStates t tops states → AreInStates t (with_telling x tops) states
state_told t x tops states h all = λ n. by n (same_or_not n x.tree)
  where
    now : Option Flying
    now = Some (record { at = x.top.at; stack = heard_early x.top.stack x.number x.child x.pointer })

    by : (n : ℕ) → (n ≡ x.tree) ⊎ (n ≢ x.tree) → IsInState t (top_at (with_telling x tops) n) (slice_get states n)
    by n (inl i) =
        subst (λ (m : ℕ). IsInState t (top_at (with_telling x tops) m) (slice_get states m)) (sym i)
        (subst (λ (o : Option Flying). IsInState t o (slice_get states x.tree)) (sym (top_set tops x.tree x.top now h.there))
        (under_told t x.top x.tree x (slice_get states x.tree) h.is h.goes
        (subst (λ (o : Option Flying). IsInState t o (slice_get states x.tree)) h.there (all x.tree))))
    by n (inr m) =
        subst (λ (o : Option Flying). IsInState t o (slice_get states n)) (sym (top_other tops x.tree n now m)) (all n)

pub states_told : (t : Terms) (xs : List Telling) (tops now : List (Option Flying)) (states : List TreeState) → AreTold xs tops now
    → AreInStates t tops states → AreInStates t now states
states_told t [] tops now states h all = subst (λ (ts : List (Option Flying)). AreInStates t ts states) (sym h) all
states_told t (x ∷ xs) tops now states h all =
    states_told t xs (with_telling x tops) now states h.1 (state_told t x tops states h.0 all)

-- ---- the tree that hears

-- its attempt is under way
pub record IsUnder (t : Terms) (top : Flying) (states : List TreeState) (tree : ℕ) : Type 0 where
  pub course : Course
  pub out : IsAttempting t course top.stack
  pub few : course.more + course.attempt ≡ reexecutions_max
  pub state : slice_get states tree ≡ Some (UnderWay course.attempt)

under_by : (t : Terms) (top : Flying) (states : List TreeState) (tree : ℕ) (o : Option TreeState) → slice_get states tree ≡ o
    → IsInState t (Some top) o → IsUnder t top states tree
under_by t top states tree (Some (UnderWay attempt)) e h = record {
  course = h.0;
  out = h.1;
  few = h.3;
  state = e ∙ ap (λ (n : ℕ). Some (UnderWay n)) (sym h.2);
}
under_by t top states tree (Some (Settled end)) e h = absurd h
under_by t top states tree None e h = absurd h

pub under_there : (t : Terms) (top : Flying) (tops : List (Option Flying)) (states : List TreeState) (tree : ℕ)
    → AreInStates t tops states → top_at tops tree ≡ Some top → IsUnder t top states tree
under_there t top tops states tree all there =
    under_by t top states tree (slice_get states tree) refl
    (subst (λ (o : Option Flying). IsInState t o (slice_get states tree)) there (all tree))

of_attempt : {S : Type 0} (t : Terms) (c : Course) (outcome : Outcome S) (v : Value) → IsOutcome t (attempt_of c) outcome v
    → IsOfAttempt outcome × ((one : One) × (v ≡ AttemptedBy one))
of_attempt t c (HasFinished f) v h = (tt, (h.1.0, h.1.1))
of_attempt t c (Again whole bits pointer) v h = (tt, (h.1.0, h.1.1))
of_attempt t c (Found answer) v h = absurd h.0
of_attempt t c (Walked walked) v h = absurd h.0
of_attempt t c (Stored part) v h = absurd h.0

-- it heard of its attempt
pub record Hears {S : Type 0} (t : Terms) (c : Course) (outcome : Outcome S) (st : Stack) : Type 0 where
  pub of : IsOfAttempt outcome
  pub one : One
  pub heard : HasHeardOf t c outcome one st

pub tree_heard : {S : Type 0} (t : Terms) (c : Course) (top : Flying) (n : ℕ) (child : Child) (op : Task) (outcome : Outcome S) (v : Value)
    → IsAttempting t c top.stack → slice_get top.stack.children n ≡ Some child → child.ended ≡ false
    → asked_at top.stack child.seat ≡ Some op → EndsAs t op outcome v → Hears t c outcome (heard_of top.stack n child v)
tree_heard t c top n child op outcome v out is goes asked how =
    let same : op ≡ attempt_of c = course_asked t c top.stack out n child is goes op asked in
    let shows : IsOutcome t (attempt_of c) outcome v = subst (λ (q : Task). IsOutcome t q outcome v) same how.shows in
    let kind = of_attempt t c outcome v shows in
    let value : v ≡ AttemptedBy kind.1.0 = kind.1.1 in
    record {
      of = kind.0;
      one = kind.1.0;
      heard = record {
        shows = subst (IsOutcome t (attempt_of c) outcome) value shows;
        ends = λ u left. course_ends t c top.stack out n child is goes v u
            (ap (λ (w : Value). left_behind_slots (Heard w ∷ []) (rest_of c)) value ∙ left);
        goes = λ d left next ended. course_goes_again t c top.stack out n child is goes v d
            (ap (λ (w : Value). left_behind_slots (Heard w ∷ []) (rest_of c)) value ∙ left) next
            (ended ∙ ap (λ (w : Value). c.ended ++ ended_by w) (sym value));
        ended_are = course_ended t c top.stack out n child is goes v ∙ ap (λ (w : Value). c.ended ++ ended_by w) value;
      };
    }

-- a root that finished
root_finished : {S : Type 0} (t : Terms) (op : Task) (outcome : Outcome S) (v : Value) → EndsAs t op outcome v
    → AllByRecursion (EndsFinished t) (finished_in outcome)
root_finished t op (HasFinished f) v how = (ends_finished t op f v how, tt)
root_finished t op _ v how = tt

-- ---- one tree's state changes

pub states_set : (t : Terms) (tops : List (Option Flying)) (states : List TreeState) (tree : ℕ) (x y : Flying) (z : Option Flying)
    (was state : TreeState) → AreInStates t tops states → top_at tops tree ≡ Some x → slice_get states tree ≡ Some was
    → IsInState t z (Some state) → AreInStates t (slice_set (slice_set tops tree (Some y)) tree z) (slice_set states tree state)
states_set t tops states tree x y z was state all there old now = λ n. by n (same_or_not n tree)
  where
    here : IsInState t (top_at (slice_set (slice_set tops tree (Some y)) tree z) tree) (slice_get (slice_set states tree state) tree)
    here =
        subst (λ (o : Option Flying). IsInState t o (slice_get (slice_set states tree state) tree))
        (sym (top_set (slice_set tops tree (Some y)) tree y z (top_set tops tree x (Some y) there)))
        (subst (IsInState t z) (sym (get_set states tree was state old)) now)

    by : (n : ℕ) → (n ≡ tree) ⊎ (n ≢ tree)
        → IsInState t (top_at (slice_set (slice_set tops tree (Some y)) tree z) n) (slice_get (slice_set states tree state) n)
    by n (inl i) =
        subst (λ (m : ℕ). IsInState t (top_at (slice_set (slice_set tops tree (Some y)) tree z) m)
        (slice_get (slice_set states tree state) m)) (sym i) here
    by n (inr m) =
        subst (λ (o : Option Flying). IsInState t o (slice_get (slice_set states tree state) n))
        (sym (top_other (slice_set tops tree (Some y)) tree n z m ∙ top_other tops tree n (Some y) m))
        (subst (IsInState t (top_at tops n)) (sym (get_other states tree n state m)) (all n))

-- ---- what settled trees have

still_settled : (trees now : List Slot) (states : List TreeState) → now ≡ trees → AreSettledWith trees states
    → AreSettledWith now states
still_settled trees now states same all = subst (λ (xs : List Slot). AreSettledWith xs states) (sym same) all

ends_again : (trees : List Slot) (states : List TreeState) (tree attempt : ℕ) (was : TreeState) → slice_get states tree ≡ Some was
    → AreSettledWith trees states → AreSettledWith trees (slice_set states tree (UnderWay attempt))
ends_again trees states tree attempt was old all = λ n end is. by n end is (same_or_not n tree)
  where
    by : (n : ℕ) (end : TreeEnd) → slice_get (slice_set states tree (UnderWay attempt)) n ≡ Some (Settled end)
        → (n ≡ tree) ⊎ (n ≢ tree) → IsSettledWith trees n end
    by n end is (inl i) =
        let set : slice_get (slice_set states tree (UnderWay attempt)) tree ≡ Some (UnderWay attempt) =
        get_set states tree was (UnderWay attempt) old in
        let here : slice_get (slice_set states tree (UnderWay attempt)) tree ≡ Some (Settled end) =
        ap (λ (m : ℕ). slice_get (slice_set states tree (UnderWay attempt)) m) (sym i) ∙ is in
        absurd (cc)
    by n end is (inr m) = all n end (sym (get_other states tree n (UnderWay attempt) m) ∙ is)

same_end : (a b : TreeEnd) → Some (Settled a) ≡ Some (Settled b) → a ≡ b
same_end a b e = cc

ends_settled : (trees : List Slot) (states : List TreeState) (tree : ℕ) (slot : Slot) (was : TreeState) (c : Course) (one : One)
    (end : TreeEnd) → slice_get trees tree ≡ Some slot → slice_get states tree ≡ Some was → IsLeftOf end one
    → AreSettledWith trees states
    → AreSettledWith (slice_set trees tree (Heard (settled_with c one))) (slice_set states tree (Settled end))
ends_settled trees states tree slot was c one end there old left all = λ n other is. by n other is (same_or_not n tree)
  where
    now : List Slot
    now = slice_set trees tree (Heard (settled_with c one))

    here : IsSettledWith now tree end
    here = record {
      course = c;
      one = one;
      value = get_set trees tree slot (Heard (settled_with c one)) there;
      left = left;
    }

    by : (n : ℕ) (other : TreeEnd) → slice_get (slice_set states tree (Settled end)) n ≡ Some (Settled other)
        → (n ≡ tree) ⊎ (n ≢ tree) → IsSettledWith now n other
    by n other is (inl i) =
        let set : slice_get (slice_set states tree (Settled end)) tree ≡ Some (Settled end) =
        get_set states tree was (Settled end) old in
        let same : slice_get (slice_set states tree (Settled end)) tree ≡ Some (Settled other) =
        ap (λ (m : ℕ). slice_get (slice_set states tree (Settled end)) m) (sym i) ∙ is in
        let ends : end ≡ other = same_end end other (sym set ∙ same) in
        subst (λ (m : ℕ). IsSettledWith now m other) (sym i) (subst (IsSettledWith now tree) ends here)
    by n other is (inr m) =
        let h = all n other (sym (get_other states tree n (Settled end) m) ∙ is) in
        record {
          course = h.course;
          one = h.one;
          value = get_other trees tree n (Heard (settled_with c one)) m ∙ h.value;
          left = h.left;
        }

pub sum_set : {A : Type 0} (w : A → ℕ) (xs : List A) (n : ℕ) (x y : A) → slice_get xs n ≡ Some x
    → sum_by w (slice_set xs n y) + w x ≡ sum_by w xs + w y
sum_set w [] n x y h = absurd (cc)
sum_set w (z ∷ xs) zero x y h =
    let same : w z ≡ w x = ap w (some_is z x h) in
    let one : sum_by w (y ∷ xs) ≡ w y + sum_by w xs = sum_by-cons w y xs in
    let two : sum_by w (z ∷ xs) ≡ w z + sum_by w xs = sum_by-cons w z xs in
    omega arith
sum_set w (z ∷ xs) (suc n) x y h =
    let rest : sum_by w (slice_set xs n y) + w x ≡ sum_by w xs + w y = sum_set w xs n x y h in
    let one : sum_by w (z ∷ slice_set xs n y) ≡ w z + sum_by w (slice_set xs n y) = sum_by-cons w z (slice_set xs n y) in
    let two : sum_by w (z ∷ xs) ≡ w z + sum_by w xs = sum_by-cons w z xs in
    omega arith

pub fewer_left : (states : List TreeState) (tree attempt : ℕ) (state : TreeState)
    → slice_get states tree ≡ Some (UnderWay attempt) → attempts_left state < attempts_left (UnderWay attempt)
    → sum_by attempts_left (slice_set states tree state) < sum_by attempts_left states
fewer_left states tree attempt state h less =
    let all = sum_set attempts_left states tree (UnderWay attempt) state h in
    omega (arith, all, less)

same_attempt : (a b : ℕ) → Some (UnderWay a) ≡ Some (UnderWay b) → a ≡ b
same_attempt a b e = cc

pub state_there : (states seen : List TreeState) (tree attempt : ℕ) → seen ≡ states → slice_get seen tree ≡ Some (UnderWay attempt)
    → slice_get states tree ≡ Some (UnderWay attempt)
state_there states seen tree attempt same h = ap (λ (xs : List TreeState). slice_get xs tree) (sym same) ∙ h

pub few_attempts : (states seen : List TreeState) (tree a b : ℕ) → seen ≡ states → slice_get states tree ≡ Some (UnderWay a)
    → slice_get seen tree ≡ Some (UnderWay b) → a ≤ 3 → b ≤ 3
few_attempts states seen tree a b same h k few =
    let e : a ≡ b = same_attempt a b (sym h ∙ state_there states seen tree b same k) in
    omega (arith, few, e)

pub within_trees : (states : List TreeState) (tree : ℕ) (x : TreeState) → slice_get states tree ≡ Some x → tree < length states
within_trees [] tree x h = absurd (cc)
within_trees (s ∷ states) zero x h = omega arith
within_trees (s ∷ states) (suc tree) x h = let rest = within_trees states tree x h in omega arith

pub fewer_again : (states : List TreeState) (tree attempt : ℕ) → slice_get states tree ≡ Some (UnderWay attempt) → attempt ≤ 3
    → sum_by attempts_left (slice_set states tree (UnderWay (attempt + 1))) < sum_by attempts_left states
fewer_again states tree attempt h few = fewer_left states tree attempt (UnderWay (attempt + 1)) h (omega arith)

pub fewer_settled : (states : List TreeState) (tree attempt : ℕ) (end : TreeEnd) → slice_get states tree ≡ Some (UnderWay attempt)
    → attempt ≤ 3 → sum_by attempts_left (slice_set states tree (Settled end)) < sum_by attempts_left states
fewer_settled states tree attempt end h few = fewer_left states tree attempt (Settled end) h (omega arith)

-- ---- nothing stands

pub standing_none : (tops : List (Option Flying)) → ((n : ℕ) (x : Flying) → top_at tops n ≡ Some x → ⊥) → standing tops ≡ []
standing_none [] h = refl
standing_none (None ∷ tops) h = standing_none tops (λ n x e. h (suc n) x e)
standing_none (Some x ∷ tops) h = absurd (h 0 x refl)

nothing_flies : (key : ℕ) (x : Flying) → flying_at [] key ≡ Some x → ⊥
nothing_flies key x e = cc

module _ {N D : Type 0} (nodes : Nodes N) (over : List Top → N → Type 0) (bytes faults : D → ℕ) (image : D → List ℕ → Type 0)
    (first : Slab (TiedNode N)) (first_line : List ℕ) (lent : Grounds D) (round : ℕ) (failmode : Failmode) (begun : List TreeState)
    (ended : List FinishedRequest) where
  abbrev Runs : Terms → (ℕ → ℕ) → Forest → Before → SoFar → Slab (TiedNode N) → List ℕ → Grounds D → List TreeState → Type 0
  Runs t sizes f before s slab line g states =
      RunsTrees {N = N} {D = D} nodes bytes image t sizes f before s slab line g round failmode states

  abbrev Ran : Terms → (ℕ → ℕ) → Forest → Before → SoFar → Slab (TiedNode N) → List ℕ → Grounds D → List TreeState → List FinishedRequest
      → Type 0
  Ran t sizes f before s slab line g states now =
      HasRun {N = N} {D = D} nodes bytes image t sizes f before s slab line g round failmode states ended now

  pub record IsRunningTrees (slab : Slab (TiedNode N)) (line : List ℕ) (g : Grounds D) (states : List TreeState)
      (now : List FinishedRequest) : Type 0 where
    pub gone : (t : Terms) (sizes : ℕ → ℕ) (f : Forest) (before : Before) (s : SoFar)
        → Runs t sizes f before s first first_line lent begun → Ran t sizes f before s slab line g states now
    pub over_all : AreAll {N = N} (over g.desk.tops) slab
    pub steady : map faults g.disks.items ≡ map faults lent.disks.items
    pub tops_same : g.desk.tops ≡ lent.desk.tops
    pub setting_same : g.setting ≡ lent.setting

  pub trees_begin : AreAll {N = N} (over lent.desk.tops) first → IsRunningTrees first first_line lent begun ended
  trees_begin all = record {
    gone = λ t sizes f before s runs. record {
      now = s;
      runs = runs;
      more = [];
      entries_are = sym (append-nil s.entries);
      others = [];
      ended_are = sym (append-nil ended);
      are = tt;
      done = [];
      done_are = sym (append-nil s.books.done);
      done_told = tt;
    };
    over_all = all;
    steady = refl;
    tops_same = refl;
    setting_same = refl;
  }

  module _ (slab slab_mid slab_now : Slab (TiedNode N)) (line line_mid line_now : List ℕ) (g g_now : Grounds D) (states : List TreeState)
      (now later : List FinishedRequest) (h : IsRunningTrees slab line g states now) where
    pub trees_some : RunsSome {N = N} {D = D} nodes bytes image first first_line lent round failmode begun
        → GoesOnSome {N = N} {D = D} nodes bytes image slab line g
    trees_some some =
        let r = h.gone some.terms some.sizes some.forest some.before some.so_far some.runs in
        record {
          terms = some.terms;
          sizes = some.sizes;
          forest = some.forest;
          before = some.before;
          so_far = r.now;
          sound = r.runs.sound;
          going = r.runs.going;
        }

    -- ---- a tree hears

    module _ {S : Type 0} (heard : Hearing S) (to_tree : RunsToTree {N = N} {D = D} nodes bytes image slab line g now slab_mid line_mid g_now later
        (Some heard)) where
      -- in one round
      pub record HearsNow (t : Terms) (sizes : ℕ → ℕ) (f : Forest) (before : Before) (mid : SoFar) : Type 0 where
        pub finished : List FinishedRequest
        pub finished_are : later ≡ now ++ finished
        pub finished_so : AllByRecursion (EndsFinished t) finished
        pub ended_for : HasEndedFor {N = N} {D = D} nodes bytes image t sizes f before mid finished slab_mid line_mid g_now heard.tree
            heard.outcome
        pub each : AreInStates t ended_for.now.tops states
        pub ends : AreSettledWith ended_for.now.trees states
        pub under : IsUnder t ended_for.top states heard.tree
        pub hears : Hears t under.course heard.outcome (heard_of ended_for.top.stack ended_for.number ended_for.child ended_for.value)

      pub hears_now : (t : Terms) (sizes : ℕ → ℕ) (f : Forest) (before : Before) (mid : SoFar) → Runs t sizes f before mid slab line g states
          → HearsNow t sizes f before mid
      hears_now t sizes f before mid runs =
          let a = to_tree t sizes f before mid runs.sound runs.going in
          let e = a.3 in
          let each : AreInStates t e.now.tops states = states_told t e.gone.tellings mid.tops e.now.tops states e.gone.told runs.each in
          let under : IsUnder t e.top states heard.tree = under_there t e.top e.now.tops states heard.tree each e.there in
          record {
            finished = a.0;
            finished_are = a.1;
            finished_so = a.2;
            ended_for = e;
            each = each;
            ends = still_settled mid.trees e.now.trees states e.gone.trees_are runs.ends;
            under = under;
            hears = tree_heard t under.course e.top e.number e.child e.op heard.outcome e.value under.out e.is e.goes e.asked e.how;
          }

      hears_some : RunsSome {N = N} {D = D} nodes bytes image first first_line lent round failmode begun
          → (t : Terms) × (sizes : ℕ → ℕ) × (f : Forest) × (before : Before) × (mid : SoFar) × HearsNow t sizes f before mid
      hears_some some =
          let r = h.gone some.terms some.sizes some.forest some.before some.so_far some.runs in
          (some.terms, some.sizes, some.forest, some.before, r.now, hears_now some.terms some.sizes some.forest some.before r.now r.runs)

      pub tree_under : RunsSome {N = N} {D = D} nodes bytes image first first_line lent round failmode begun
          → (attempt : ℕ) × (slice_get states heard.tree ≡ Some (UnderWay attempt)) × (attempt ≤ 3) × IsOfAttempt heard.outcome
      tree_under some =
          let n = (hears_some some).5 in
          (n.under.course.attempt, n.under.state, omega (arith, n.under.few), n.hears.of)

      module _ (attempt : ℕ) (state : slice_get states heard.tree ≡ Some (UnderWay attempt)) (pushed : List FinishedRequest)
          (is_pushed : pushed ≡ later ++ finished_in heard.outcome) where
        -- what the tree's hearing leaves of a round
        after_hearing : (end : Option TreeEnd)
            → TreeGoesOn {N = N} nodes slab_mid line_mid slab_now line_now round failmode heard.tree attempt heard.outcome end
            → (t : Terms) (sizes : ℕ → ℕ) (f : Forest) (before : Before) (mid : SoFar) → Runs t sizes f before mid slab line g states
            → (n : HearsNow t sizes f before mid)
            → AfterHearing {N = N} nodes t sizes f before
            (with_done (with_tree n.ended_for.now heard.tree
            (heard_top n.ended_for.top n.ended_for.number n.ended_for.child n.ended_for.value)) n.ended_for.more)
            slab_now line_now (keys_at g_now.queues.leaves.items) heard.tree
            (heard_top n.ended_for.top n.ended_for.number n.ended_for.child n.ended_for.value) n.under.course n.hears.one end
        after_hearing end goes_on t sizes f before mid runs n =
            let e = n.ended_for in
            let y : Flying = heard_top e.top e.number e.child e.value in
            goes_on t sizes f before (with_done (with_tree e.now heard.tree y) e.more) (keys_at g_now.queues.leaves.items) y n.under.course n.hears.one
            runs.sound runs.round_is runs.failmode_is e.going.keeps (top_set e.now.tops heard.tree e.top (Some y) e.there)
            (same_attempt n.under.course.attempt attempt (sym n.under.state ∙ state)) n.under.few n.hears.heard

        ran_to : (t : Terms) (sizes : ℕ → ℕ) (f : Forest) (before : Before) (s : SoFar)
            → (r : Ran t sizes f before s slab line g states now) → (n : HearsNow t sizes f before r.now) → (last : SoFar)
            → last.entries ≡ n.ended_for.now.entries → last.books.done ≡ n.ended_for.now.books.done ++ n.ended_for.more
            → (states_now : List TreeState) → Runs t sizes f before last slab_now line_now g_now states_now
            → Ran t sizes f before s slab_now line_now g_now states_now pushed
        ran_to t sizes f before s r n last same same_done states_now runs_now =
            let e = n.ended_for in
            let new : List FinishedRequest = n.finished ++ finished_in heard.outcome in
            let enrolled : last.books.done ≡ (r.now.books.done ++ e.gone.done) ++ e.more =
            same_done ∙ ap (λ (xs : List Ending). xs ++ e.more) e.gone.done_are in
            record {
              now = last;
              runs = runs_now;
              more = r.more ++ n.ended_for.gone.more;
              entries_are = same ∙ (n.ended_for.gone.entries_are ∙ (ap (λ (es : List Choice). es ++ n.ended_for.gone.more) r.entries_are
                  ∙ append_assoc s.entries r.more n.ended_for.gone.more));
              others = r.others ++ new;
              ended_are = is_pushed ∙ (ap (λ (xs : List FinishedRequest). xs ++ finished_in heard.outcome) n.finished_are
                  ∙ (append_assoc now n.finished (finished_in heard.outcome)
                  ∙ (ap (λ (xs : List FinishedRequest). xs ++ new) r.ended_are ∙ append_assoc ended r.others new)));
              are = all_append (EndsFinished t) r.others new r.are
                  (all_append (EndsFinished t) n.finished (finished_in heard.outcome) n.finished_so
                  (root_finished t e.op heard.outcome e.value e.how));
              done = r.done ++ (e.gone.done ++ e.more);
              done_are = enrolled ∙ (append_assoc r.now.books.done e.gone.done e.more
                  ∙ (ap (λ (xs : List Ending). xs ++ (e.gone.done ++ e.more)) r.done_are
                  ∙ append_assoc s.books.done r.done (e.gone.done ++ e.more)));
              done_told = told_append r.others new r.done (e.gone.done ++ e.more) r.done_told
                  (told_append n.finished (finished_in heard.outcome) e.gone.done e.more e.gone.done_told e.told);
            }

        pub trees_again : TreeGoesOn {N = N} nodes slab_mid line_mid slab_now line_now round failmode heard.tree attempt heard.outcome None
            → AreAll {N = N} (over g_now.desk.tops) slab_now → map faults g_now.disks.items ≡ map faults g.disks.items
            → g_now.desk.tops ≡ g.desk.tops → g_now.setting ≡ g.setting
            → IsRunningTrees slab_now line_now g_now (slice_set states heard.tree (UnderWay (attempt + 1))) pushed
        trees_again goes_on all steady tops setting = record {
          gone = λ t sizes f before s runs.
              let r = h.gone t sizes f before s runs in
              let n = hears_now t sizes f before r.now r.runs in
              let again = after_hearing None goes_on t sizes f before r.now r.runs n in
              let e = n.ended_for in
              let y : Flying = heard_top e.top e.number e.child e.value in
              let z : Flying = handed_on y (attempt_of again.next) in
              let last : SoFar = with_tree (with_done (with_tree e.now heard.tree y) e.more) heard.tree z in
              let number : again.next.attempt ≡ attempt + 1 =
              again.number ∙ ap (λ (k : ℕ). k + 1) (same_attempt n.under.course.attempt attempt (sym n.under.state ∙ state)) in
              ran_to t sizes f before s r n last refl refl (slice_set states heard.tree (UnderWay (attempt + 1))) (record {
                sound = r.runs.sound;
                round_is = r.runs.round_is;
                failmode_is = r.runs.failmode_is;
                going = record { keeps = again.begins.keeps; lent = e.going.lent };
                each = states_set t e.now.tops states heard.tree e.top y (Some z) (UnderWay attempt) (UnderWay (attempt + 1)) n.each
                    e.there state (again.next, again.begins.out, number, again.few);
                ends = ends_again e.now.trees states heard.tree (attempt + 1) (UnderWay attempt) state n.ends;
              });
          over_all = all;
          steady = steady ∙ h.steady;
          tops_same = tops ∙ h.tops_same;
          setting_same = setting ∙ h.setting_same;
        }

        pub trees_settle : (end : TreeEnd)
            → TreeGoesOn {N = N} nodes slab_mid line_mid slab_now line_now round failmode heard.tree attempt heard.outcome (Some end)
            → AreAll {N = N} (over g_now.desk.tops) slab_now → map faults g_now.disks.items ≡ map faults g.disks.items
            → g_now.desk.tops ≡ g.desk.tops → g_now.setting ≡ g.setting
            → IsRunningTrees slab_now line_now g_now (slice_set states heard.tree (Settled end)) pushed
        trees_settle end goes_on all steady tops setting = record {
          gone = λ t sizes f before s runs.
              let r = h.gone t sizes f before s runs in
              let n = hears_now t sizes f before r.now r.runs in
              let done = after_hearing (Some end) goes_on t sizes f before r.now r.runs n in
              let e = n.ended_for in
              let y : Flying = heard_top e.top e.number e.child e.value in
              let slot = stand_slot 0 (slice_set e.now.tops heard.tree (Some y)) e.now.trees heard.tree y e.going.keeps.still.kept.stand
              (top_set e.now.tops heard.tree e.top (Some y) e.there) in
              let last : SoFar = with_value (with_done (with_tree e.now heard.tree y) e.more) heard.tree (settled_with n.under.course n.hears.one) in
              ran_to t sizes f before s r n last refl refl (slice_set states heard.tree (Settled end)) (record {
                sound = r.runs.sound;
                round_is = r.runs.round_is;
                failmode_is = r.runs.failmode_is;
                going = record { keeps = done.keeps; lent = e.going.lent };
                each = states_set t e.now.tops states heard.tree e.top y None (UnderWay attempt) (Settled end) n.each e.there state tt;
                ends = ends_settled e.now.trees states heard.tree slot.0 (UnderWay attempt) n.under.course n.hears.one end slot.1 state
                    done.left n.ends;
              });
          over_all = all;
          steady = steady ∙ h.steady;
          tops_same = tops ∙ h.tops_same;
          setting_same = setting ∙ h.setting_same;
        }

    -- ---- the end

    over_now : (t : Terms) (sizes : ℕ → ℕ) (f : Forest) (before : Before) (s : SoFar) → Runs t sizes f before s slab_mid line_mid g_now states
        → line_mid ≡ [] → keys_at g_now.queues.leaves.items ≡ [] → IsOver {N = N} nodes t sizes f before s slab_mid
    over_now t sizes f before s runs no_keys none_waits =
        let k = runs.going.keeps in
        let none : k.lives ≡ [] =
        none_left nodes t sizes f before s.trees s.tops (shelf_of {N = N} slab_mid) k.still.state k.lives line_mid
        (keys_at g_now.queues.leaves.items) k.still.kept no_keys none_waits in
        let bare : IsKept {N = N} nodes t sizes f before s.trees s.tops [] (shelf_of {N = N} slab_mid) [] [] k.still.state =
        subst (λ (ks : List ℕ). IsKept {N = N} nodes t sizes f before s.trees s.tops [] (shelf_of {N = N} slab_mid) [] ks k.still.state)
        none_waits
        (subst (λ (q : List ℕ). IsKept {N = N} nodes t sizes f before s.trees s.tops [] (shelf_of {N = N} slab_mid) q
        (keys_at g_now.queues.leaves.items) k.still.state) no_keys
        (subst (λ (lives : List Live). IsKept {N = N} nodes t sizes f before s.trees s.tops lives (shelf_of {N = N} slab_mid) line_mid
        (keys_at g_now.queues.leaves.items) k.still.state) none k.still.kept)) in
        record {
          state = k.still.state;
          kept = bare;
          standing_none = standing_none s.tops (λ n x there.
              let under = under_there t x s.tops states n runs.each there in
              let held = bare.linked.trees n x there under.course.attempt under.out.child under.out.there under.out.going in
              let flies = in_flight_there nodes t (world {N = N} s.tops [] (shelf_of {N = N} slab_mid) [] []) held.key held.held
              bare.linked held.there in
              nothing_flies held.key flies.0 flies.1);
          entries_are = k.still.entries_are;
          images_are = k.still.images_are;
          ledger = subst (λ (lives : List Live). IsLedger {N = N} nodes t f s.books s.entries s.tops s.trees lives slab_mid) none k.ledger;
        }

    pub trees_end : RunsToTree {N = N} {D = D} {S = Unit {0}} nodes bytes image slab line g now slab_mid line_mid g_now later None
        → line_mid ≡ [] → keys_at g_now.queues.leaves.items ≡ []
        → RunsToEnd {N = N} {D = D} nodes bytes image first first_line lent begun ended slab_mid line_mid g_now states later round failmode
    trees_end to_tree no_keys none_waits = λ t sizes f before s runs.
        let r = h.gone t sizes f before s runs in
        let a = to_tree t sizes f before r.now r.runs.sound r.runs.going in
        let last : SoFar = a.3.now in
        let runs_now : Runs t sizes f before last slab_mid line_mid g_now states = record {
          sound = r.runs.sound;
          round_is = r.runs.round_is;
          failmode_is = r.runs.failmode_is;
          going = a.3.going;
          each = states_told t a.3.gone.tellings r.now.tops last.tops states a.3.gone.told r.runs.each;
          ends = still_settled r.now.trees last.trees states a.3.gone.trees_are r.runs.ends;
        } in (
          record {
            now = last;
            runs = runs_now;
            more = r.more ++ a.3.gone.more;
            entries_are = a.3.gone.entries_are ∙ (ap (λ (es : List Choice). es ++ a.3.gone.more) r.entries_are
                ∙ append_assoc s.entries r.more a.3.gone.more);
            others = r.others ++ a.0;
            ended_are = a.1 ∙ (ap (λ (xs : List FinishedRequest). xs ++ a.0) r.ended_are ∙ append_assoc ended r.others a.0);
            are = all_append (EndsFinished t) r.others a.0 r.are a.2;
            done = r.done ++ a.3.gone.done;
            done_are = a.3.gone.done_are ∙ (ap (λ (xs : List Ending). xs ++ a.3.gone.done) r.done_are
                ∙ append_assoc s.books.done r.done a.3.gone.done);
            done_told = told_append r.others a.0 r.done a.3.gone.done r.done_told a.3.gone.done_told;
          },
          over_now t sizes f before last runs_now no_keys none_waits,
        )
