-- Whatever finished is behind its children, in the books of a round.
use Rattle.std.proofs.Common.{◌≡◌, ◌≢◌, ℕ, zero, suc, ◌≤◌, List, [], ◌∷◌, ◌++◌, slice_get, slice_set, Bool, true, false, Option, Some, None, ◌⊎◌, inl, inr, refl, sym, ap, ◌∙◌, subst, arith, append_assoc}
use Rattle.std.specs.Prelude.{Contains, IsPermutation}
use Rattle.std.specs.List.{AllByRecursion}
use Rattle.std.proofs.lemmas.List.{append-nil}
use Rattle.std.proofs.lemmas.List.Elements.{Contains-append_cases, Contains-append_left, Contains-append_right}
use Rattle.zio_cksum.proofs.AllLemmas.{all_contains, all_weaker}
use Rattle.zio_gang.specs.Attempts.{Ended, Pending, Terms}
use Rattle.zio_trace.specs.Families.{AreUnder, Forest, NoTrees, TreeOf, flat}
use Rattle.zio_trace.specs.Keys.{NumbersOnce, bit, count_in}
use Rattle.zio_trace.specs.Labels.{same_number}
use Rattle.zio_trace.specs.Rounds.{AreTrees, settles}
use Rattle.zio_trace.specs.Tasks.{Attempt, AttemptedBy, Settle, Task, Value}
use Rattle.zio_trace.proofs.AnyOrder.{all_permuted}
use Rattle.zio_trace.proofs.ChoiceLemmas.{contained_cases}
use Rattle.zio_trace.proofs.LabelLemmas.{number_itself}
use Rattle.zio_trace.proofs.ListLemmas.{contains_first, contains_later}
use Rattle.zio_children.specs.RequestKids.{root_numbers}
use Rattle.zio_frames.specs.Frames.{Flying, Stack, fresh_stack}
use Rattle.zio_frames.specs.Moves.{IsEnded}
use Rattle.zio_frames.specs.Running.{settling_from}
use Rattle.zio_frames.proofs.GetLemmas.{get_exchanged}
use Rattle.zio_staged.specs.Entries.{Live, all_tops, live_of, new_flying}
use Rattle.zio_turns.specs.Ledgers.{AreBehindChildren, Ending, IsEnding, KeepsChildren, all_ended}
use Rattle.zio_staged.specs.Parts.{ended_by}
use Rattle.zio_turns.specs.Rests.{ChildrenAmong, HasRests, HasRestsIn, HaveRests, LeavesRests, numbers_ended}
use Rattle.zio_turns.proofs.Links.{some_is}
use Rattle.zio_turns.proofs.RestLemmas.{EndLeaves, IsAmong, has_more}

-- ---- lists

pub ended_both : (done more : List Ending) → all_ended (done ++ more) ≡ all_ended done ++ all_ended more
ended_both [] more = refl
ended_both (x ∷ done) more = ap (λ (es : List Ended). x.ended ∷ es) (ended_both done more)

numbers_both : (es fs : List Ended) → numbers_ended (es ++ fs) ≡ numbers_ended es ++ numbers_ended fs
numbers_both [] fs = refl
numbers_both (e ∷ es) fs = ap (λ (ns : List ℕ). e.request.number ∷ ns) (numbers_both es fs)

number_in : (es : List Ended) (e : Ended) → Contains es e → Contains (numbers_ended es) e.request.number
number_in [] e c = absurd (all_contains (λ (x : Ended). ⊥) [] e tt c)
number_in (x ∷ es) e c = elim (contained_cases x es e c) [
  | inl same ↦ subst (λ (y : Ended). Contains (numbers_ended (x ∷ es)) y.request.number) same
      (contains_first x.request.number (numbers_ended es))
  | inr later ↦ contains_later x.request.number (numbers_ended es) e.request.number (number_in es e later)
]

pub numbers_among : (es fs : List Ended) → AllByRecursion (Contains fs) es → IsAmong (numbers_ended es) (numbers_ended fs)
numbers_among [] fs h n c = absurd (all_contains (λ (m : ℕ). ⊥) [] n tt c)
numbers_among (e ∷ es) fs h n c = elim (contained_cases e.request.number (numbers_ended es) n c) [
  | inl same ↦ subst (Contains (numbers_ended fs)) same (number_in fs e h.0)
  | inr later ↦ numbers_among es fs h.1 n later
]

-- of what is in flight for the trees, where one is so far now
pub tops_set : (P : Flying → Type 0) (tops : List (Option Flying)) (n : ℕ) (now : Option Flying)
    → ((k : ℕ) (top : Flying) → slice_get tops k ≡ Some (Some top) → P top) → ((top : Flying) → now ≡ Some top → P top)
    → (k : ℕ) (top : Flying) → slice_get (slice_set tops n now) k ≡ Some (Some top) → P top
tops_set P tops n now all own k top e = by (get_exchanged tops n k now (Some top) e)
  where
    by : ((k ≡ n) × (now ≡ Some top)) ⊎ ((k ≢ n) × (slice_get tops k ≡ Some (Some top))) → P top
    by (inl is) = own top is.1
    by (inr other) = all k top other.1

-- ---- moves

module _ (f : Forest) (done : List Ending) where
  abbrev numbers : List ℕ
  numbers = numbers_ended (all_ended done)

  pub children_order : (tops : List (Option Flying)) (lives now : List Live) → IsPermutation lives now
      → KeepsChildren f done tops lives → KeepsChildren f done tops now
  children_order tops lives now p k = record {
    children = k.children;
    nodes = all_permuted (λ (x : Live). HasRests f numbers x.stack) lives now p k.nodes;
    trees = k.trees;
  }

  -- the first is so far now
  pub children_first : (tops : List (Option Flying)) (x y : Live) (others : List Live)
      → ((ended : List ℕ) → HasRests f ended x.stack → HasRests f ended y.stack) → KeepsChildren f done tops (x ∷ others)
      → KeepsChildren f done tops (y ∷ others)
  children_first tops x y others go k =
      record { children = k.children; nodes = (go numbers k.nodes.0, k.nodes.1); trees = k.trees }

  -- the second is
  pub children_second : (tops : List (Option Flying)) (x y z : Live) (others : List Live)
      → ((ended : List ℕ) → HasRests f ended y.stack → HasRests f ended z.stack) → KeepsChildren f done tops (x ∷ y ∷ others)
      → KeepsChildren f done tops (x ∷ z ∷ others)
  children_second tops x y z others go k =
      record { children = k.children; nodes = (k.nodes.0, (go numbers k.nodes.1.0, k.nodes.1.1)); trees = k.trees }

  -- one more, of which nothing is done
  pub children_new : (tops : List (Option Flying)) (key : ℕ) (x : Flying) (op : Task) (lives : List Live)
      → HasRestsIn f numbers op → KeepsChildren f done tops lives
      → KeepsChildren f done tops (live_of key (new_flying x op) ∷ lives)
  children_new tops key x op lives own k =
      record { children = k.children; nodes = (record { own = own; heard = tt }, k.nodes); trees = k.trees }

  -- what is in flight for a tree is so far now, or nothing is
  pub children_top : (tops : List (Option Flying)) (n : ℕ) (a b : Flying) (lives : List Live) → slice_get tops n ≡ Some (Some a)
      → ((ended : List ℕ) → HasRests f ended a.stack → HasRests f ended b.stack) → KeepsChildren f done tops lives
      → KeepsChildren f done (slice_set tops n (Some b)) lives
  children_top tops n a b lives there go k = record {
    children = k.children;
    nodes = k.nodes;
    trees = tops_set (λ (x : Flying). HasRests f numbers x.stack) tops n (Some b) k.trees
        (λ top is. subst (λ (x : Flying). HasRests f numbers x.stack) (some_is b top is) (go numbers (k.trees n a there)));
  }

  pub children_no_top : (tops : List (Option Flying)) (n : ℕ) (lives : List Live) → KeepsChildren f done tops lives
      → KeepsChildren f done (slice_set tops n None) lives
  children_no_top tops n lives k = record {
    children = k.children;
    nodes = k.nodes;
    trees = tops_set (λ (x : Flying). HasRests f numbers x.stack) tops n None k.trees (λ top is. absurd (cc));
  }

-- ---- a node ends

children_both : (f : Forest) (front : List ℕ) (done more : List Ending) → AreBehindChildren f front done
    → AreBehindChildren f (front ++ numbers_ended (all_ended done)) more → AreBehindChildren f front (done ++ more)
children_both f front [] more h k = subst (λ (ns : List ℕ). AreBehindChildren f ns more) (append-nil front) k
children_both f front (x ∷ done) more h k = (
  h.0,
  children_both f (front ++ x.ended.request.number ∷ []) done more h.1
      (subst (λ (ns : List ℕ). AreBehindChildren f ns more)
      (sym (append_assoc front (x.ended.request.number ∷ []) (numbers_ended (all_ended done)))) k),
)

children_more : (f : Forest) (front : List ℕ) (more : List Ending)
    → AllByRecursion (λ (x : Ending). ChildrenAmong f x.ended.request.number front) more → AreBehindChildren f front more
children_more f front [] h = tt
children_more f front (x ∷ more) h = (
  h.0,
  children_more f (front ++ x.ended.request.number ∷ []) more
      (all_weaker (λ (y : Ending). ChildrenAmong f y.ended.request.number front)
      (λ (y : Ending). ChildrenAmong f y.ended.request.number (front ++ x.ended.request.number ∷ [])) more
      (λ y k q here under. Contains-append_left front (x.ended.request.number ∷ []) q.request.number (k q here under)) h.1),
)

module _ (t : Terms) (f : Forest) (done more : List Ending) (st : Stack) (v : Value) (leaves : EndLeaves t f st v)
    (by : AllByRecursion (λ (x : Ending). (h : IsEnding t f x) × (h.stack ≡ st)) more)
    (own : IsAmong (numbers_ended (ended_by v)) (numbers_ended (all_ended (done ++ more)))) where
  abbrev before : List ℕ
  before = numbers_ended (all_ended done)

  abbrev now : List ℕ
  now = numbers_ended (all_ended (done ++ more))

  still_there : IsAmong before now
  still_there n c =
      subst (λ (es : List Ended). Contains (numbers_ended es) n) (sym (ended_both done more))
      (subst (λ (ns : List ℕ). Contains ns n) (sym (numbers_both (all_ended done) (all_ended more)))
      (Contains-append_left before (numbers_ended (all_ended more)) n c))

  -- the requests under it finished before
  under_it : (x : Ending) → HasRests f before st → (h : IsEnding t f x) × (h.stack ≡ st)
      → ChildrenAmong f x.ended.request.number before
  under_it x has (h, same) =
      subst (λ (n : ℕ). ChildrenAmong f n before) (sym h.number)
      (leaves.under before h.attempt x.request h.kids h.one has
      (subst (λ (s : Stack). s.outer.op ≡ Attempt h.attempt x.request h.kids) same h.does)
      (subst (λ (s : Stack). IsEnded t s (AttemptedBy h.one)) same h.ends) h.none_again)

  children_now : HasRests f before st → AreBehindChildren f [] done → AreBehindChildren f [] (done ++ more)
  children_now has k =
      children_both f [] done more k (children_more f before more
      (all_weaker (λ (x : Ending). (h : IsEnding t f x) × (h.stack ≡ st))
      (λ (x : Ending). ChildrenAmong f x.ended.request.number before) more (λ x h. under_it x has h) by))

  -- and its parent, which comes second, heard of it
  pub children_end : (tops : List (Option Flying)) (x q y : Live) (others : List Live) → x.stack ≡ st
      → ((ended : List ℕ) → LeavesRests f ended st.outer.op v → HasRests f ended q.stack → HasRests f ended y.stack)
      → KeepsChildren f done tops (x ∷ q ∷ others) → KeepsChildren f (done ++ more) tops (y ∷ others)
  children_end tops x q y others is hears k =
      let has : HasRests f before st = subst (HasRests f before) is k.nodes.0 in
      record {
        children = children_now has k.children;
        nodes = (
          hears now (leaves.left before now has still_there own) (has_more f before now still_there q.stack k.nodes.1.0),
          all_weaker (λ (z : Live). HasRests f before z.stack) (λ (z : Live). HasRests f now z.stack) others
              (λ z h. has_more f before now still_there z.stack h) k.nodes.1.1,
        );
        trees = λ n top e. has_more f before now still_there top.stack (k.trees n top e);
      }

  -- and the tree did
  pub children_root_end : (tops : List (Option Flying)) (n : ℕ) (x : Live) (q y : Flying) (others : List Live) → x.stack ≡ st
      → slice_get tops n ≡ Some (Some q)
      → ((ended : List ℕ) → LeavesRests f ended st.outer.op v → HasRests f ended q.stack → HasRests f ended y.stack)
      → KeepsChildren f done tops (x ∷ others) → KeepsChildren f (done ++ more) (slice_set tops n (Some y)) others
  children_root_end tops n x q y others is there hears k =
      let has : HasRests f before st = subst (HasRests f before) is k.nodes.0 in
      let heard : HasRests f now y.stack =
      hears now (leaves.left before now has still_there own) (has_more f before now still_there q.stack (k.trees n q there)) in
      record {
        children = children_now has k.children;
        nodes = all_weaker (λ (z : Live). HasRests f before z.stack) (λ (z : Live). HasRests f now z.stack) others
            (λ z h. has_more f before now still_there z.stack h) k.nodes.1;
        trees = tops_set (λ (z : Flying). HasRests f now z.stack) tops n (Some y)
            (λ m top e. has_more f before now still_there top.stack (k.trees m top e))
            (λ top e. subst (λ (z : Flying). HasRests f now z.stack) (some_is y top e) heard);
      }

-- ---- the beginning

-- the roots under the request of this number
abbrev roots_if : Bool → List ℕ → List ℕ
roots_if true roots = roots
roots_if false roots = []

abbrev roots_under : ℕ → Forest → List ℕ
roots_under n NoTrees = []
roots_under n (TreeOf p kids others) =
    roots_if (same_number p.request.number n) (root_numbers kids) ++ (roots_under n kids ++ roots_under n others)

roots_there : (m n : ℕ) (roots : List ℕ) → m ≡ n → roots_if (same_number m n) roots ≡ roots
roots_there m n roots e =
    ap (λ (b : Bool). roots_if b roots) (subst (λ (k : ℕ). same_number m k ≡ true) e (number_itself m))

no_roots : (b : Bool) (roots : List ℕ) → bit b ≡ 0 → roots_if b roots ≡ []
no_roots true roots e = absurd (omega (arith, e))
no_roots false roots e = refl

none_under : (n : ℕ) (g : Forest) → count_in n g ≡ 0 → roots_under n g ≡ []
none_under n NoTrees e = refl
none_under n (TreeOf p kids others) e =
    let here : bit (same_number p.request.number n) ≡ 0 = omega (arith, e) in
    let a : count_in n kids ≡ 0 = omega (arith, e) in
    let b : count_in n others ≡ 0 = omega (arith, e) in
    ap (λ (ns : List ℕ). ns ++ (roots_under n kids ++ roots_under n others))
    (no_roots (same_number p.request.number n) (root_numbers kids) here)
    ∙ (ap (λ (ns : List ℕ). ns ++ roots_under n others) (none_under n kids a) ∙ none_under n others b)

same_some : (m n : ℕ) → Some m ≡ Some n → m ≡ n
same_some m n e = cc

-- a root of the first, or a request under another in these trees
abbrev IsRootOr : Option ℕ → ℕ → ℕ → Forest → Type 0
IsRootOr under n m g = ((under ≡ Some n) × Contains (root_numbers g) m) ⊎ Contains (roots_under n g) m

module _ (n : ℕ) (p : Pending) (kids others : Forest) (m : ℕ) where
  abbrev own_roots : List ℕ
  own_roots = roots_if (same_number p.request.number n) (root_numbers kids)

  in_kids : IsRootOr (Some p.request.number) n m kids → Contains (roots_under n (TreeOf p kids others)) m
  in_kids (inl h) =
      Contains-append_left own_roots (roots_under n kids ++ roots_under n others) m
      (subst (λ (ns : List ℕ). Contains ns m)
      (sym (roots_there p.request.number n (root_numbers kids) (same_some p.request.number n h.0))) h.1)
  in_kids (inr h) =
      Contains-append_right own_roots (roots_under n kids ++ roots_under n others) m
      (Contains-append_left (roots_under n kids) (roots_under n others) m h)

  in_others : Contains (roots_under n others) m → Contains (roots_under n (TreeOf p kids others)) m
  in_others h =
      Contains-append_right own_roots (roots_under n kids ++ roots_under n others) m
      (Contains-append_right (roots_under n kids) (roots_under n others) m h)

  later_in : (u : Option ℕ) → IsRootOr u n m others → IsRootOr u n m (TreeOf p kids others)
  later_in u (inl h) = inl (h.0, contains_later p.request.number (root_numbers others) m h.1)
  later_in u (inr h) = inr (in_others h)

-- a request that stands under another is a root under it
under_parent : (u : Option ℕ) (n : ℕ) (q : Pending) (g : Forest) → AreUnder u g → Contains (flat g) q → q.request.under ≡ Some n
    → IsRootOr u n q.request.number g
under_parent u n q NoTrees under c is = absurd (all_contains (λ (x : Pending). ⊥) [] q tt c)
under_parent u n q (TreeOf p kids others) under c is =
    elim (Contains-append_cases (flat kids) (p ∷ flat others) q c) [
      | inl below ↦ inr (in_kids n p kids others q.request.number
          (under_parent (Some p.request.number) n q kids under.1 below is))
      | inr there ↦ elim (contained_cases p (flat others) q there) [
        | inl same ↦ inl (
          sym under.0 ∙ (ap (λ (x : Pending). x.request.under) same ∙ is),
          subst (λ (x : Pending). Contains (root_numbers (TreeOf p kids others)) x.request.number) same
              (contains_first p.request.number (root_numbers others)),
        )
        | inr later ↦ later_in n p kids others q.request.number u (under_parent u n q others under.2 later is)
      ]
    ]

no_some : (n : ℕ) → None ≡ Some n → ⊥
no_some n e = cc

trees_parent : (n : ℕ) (q : Pending) (g : Forest) → AreTrees g → Contains (flat g) q → q.request.under ≡ Some n
    → Contains (roots_under n g) q.request.number
trees_parent n q NoTrees trees c is = absurd (all_contains (λ (x : Pending). ⊥) [] q tt c)
trees_parent n q (TreeOf p kids others) trees c is =
    elim (Contains-append_cases (flat kids) (p ∷ flat others) q c) [
      | inl below ↦ in_kids n p kids others q.request.number
          (under_parent (Some p.request.number) n q kids trees.0.1 below is)
      | inr there ↦ elim (contained_cases p (flat others) q there) [
        | inl same ↦ absurd (no_some n (sym trees.0.0 ∙ (ap (λ (x : Pending). x.request.under) same ∙ is)))
        | inr later ↦ in_others n p kids others q.request.number (trees_parent n q others trees.1 later is)
      ]
    ]

module _ (f : Forest) where
  -- of each request of these trees the requests under it are the roots under it
  abbrev HaveOwn : Forest → Type 0
  HaveOwn g = (n : ℕ) → 1 ≤ count_in n g → ChildrenAmong f n (roots_under n g)

  own_rests : (g : Forest) → NumbersOnce g → HaveOwn g → HaveRests f [] g
  own_rests NoTrees once h = tt
  own_rests (TreeOf p kids others) once h = (here, own_rests kids once_kids own_kids, own_rests others once_others own_others)
    where
      once_kids : NumbersOnce kids
      once_kids n = let o = once n in omega arith

      once_others : NumbersOnce others
      once_others n = let o = once n in omega arith

      here : ChildrenAmong f p.request.number (root_numbers kids ++ [])
      here q there is =
          let one : bit (same_number p.request.number p.request.number) ≡ 1 = ap bit (number_itself p.request.number) in
          let o = once p.request.number in
          let none_kids : roots_under p.request.number kids ≡ [] = none_under p.request.number kids (omega arith) in
          let none_others : roots_under p.request.number others ≡ [] = none_under p.request.number others (omega arith) in
          let same : roots_under p.request.number (TreeOf p kids others) ≡ root_numbers kids ++ [] =
          ap (λ (ns : List ℕ). ns ++ (roots_under p.request.number kids ++ roots_under p.request.number others))
          (roots_there p.request.number p.request.number (root_numbers kids) refl)
          ∙ ap (λ (ns : List ℕ). root_numbers kids ++ ns)
          (ap (λ (ns : List ℕ). ns ++ roots_under p.request.number others) none_kids ∙ none_others) in
          subst (λ (ns : List ℕ). Contains ns q.request.number) same (h p.request.number (omega arith) q there is)

      own_kids : HaveOwn kids
      own_kids n some q there is =
          let o = once n in
          let none_here : roots_if (same_number p.request.number n) (root_numbers kids) ≡ [] =
          no_roots (same_number p.request.number n) (root_numbers kids) (omega arith) in
          let none_others : roots_under n others ≡ [] = none_under n others (omega arith) in
          let same : roots_under n (TreeOf p kids others) ≡ roots_under n kids =
          ap (λ (ns : List ℕ). ns ++ (roots_under n kids ++ roots_under n others)) none_here
          ∙ (ap (λ (ns : List ℕ). roots_under n kids ++ ns) none_others ∙ append-nil (roots_under n kids)) in
          subst (λ (ns : List ℕ). Contains ns q.request.number) same (h n (omega arith) q there is)

      own_others : HaveOwn others
      own_others n some q there is =
          let o = once n in
          let none_here : roots_if (same_number p.request.number n) (root_numbers kids) ≡ [] =
          no_roots (same_number p.request.number n) (root_numbers kids) (omega arith) in
          let none_kids : roots_under n kids ≡ [] = none_under n kids (omega arith) in
          let same : roots_under n (TreeOf p kids others) ≡ roots_under n others =
          ap (λ (ns : List ℕ). ns ++ (roots_under n kids ++ roots_under n others)) none_here
          ∙ ap (λ (ns : List ℕ). ns ++ roots_under n others) none_kids in
          subst (λ (ns : List ℕ). Contains ns q.request.number) same (h n (omega arith) q there is)

  all_rests : AreTrees f → NumbersOnce f → HaveRests f [] f
  all_rests trees once = own_rests f once (λ n some q there is. trees_parent n q f trees there is)

  fresh_rests : (k : ℕ) (g : Forest) → HaveRests f [] g → (n : ℕ) (top : Flying)
      → slice_get (all_tops (settling_from k (settles g))) n ≡ Some (Some top) → HasRests f [] top.stack
  fresh_rests k NoTrees h n top e = absurd (cc)
  fresh_rests k (TreeOf p kids others) h zero top e =
      subst (λ (x : Flying). HasRests f [] x.stack)
      (some_is (record { at = k ∷ []; stack = fresh_stack (Settle p kids) }) top (some_is _ _ e))
      (record { own = (h.0, h.1, tt); heard = tt })
  fresh_rests k (TreeOf p kids others) h (suc n) top e = fresh_rests (suc k) others h.2 n top e

  pub children_begin : AreTrees f → NumbersOnce f → KeepsChildren f [] (all_tops (settling_from 0 (settles f))) []
  children_begin trees once = record { children = tt; nodes = tt; trees = fresh_rests 0 f (all_rests trees once) }
