-- Trees of requests that stand under their parents: what is left of them stands so too, and where no number stands twice they
-- are families.
use Rattle.std.proofs.Common.{◌≡◌, ◌≢◌, ℕ, suc, zero, ◌+◌, ◌≤◌, List, [], ◌∷◌, ◌++◌, Bool, true, false, Option, Some, None, refl, sym, ap, ◌∙◌, subst, arith}
use Rattle.std.specs.List.{AllByRecursion}
use Rattle.zio_gang.specs.Attempts.{Attempted, Pending, Terms, bits_of, judged_own, now_alone, reexecutions_max}
use Rattle.zio_trace.specs.Families.{AreUnder, Forest, NoTrees, NotIn, TreeOf, before, flat, root_left}
use Rattle.zio_trace.specs.Keys.{NumbersOnce, bit, count_in}
use Rattle.zio_trace.specs.Labels.{same_number}
use Rattle.zio_trace.specs.Plans.{Kids, add_kid, add_settled, bare, one_of, settled_one}
use Rattle.zio_trace.specs.Rounds.{AreTrees}
use Rattle.zio_trace.specs.Tasks.{One, Settled, Value, settled as settled_in}
use Rattle.zio_trace.proofs.LabelLemmas.{number_itself}
use Rattle.zio_course.specs.Runners.{IsSamePending}
use Rattle.zio_sound.specs.Leaving.{AreAttempted, AreSettled, IsAttempted, IsSettled, SettlesOn}
use Rattle.zio_sound.specs.Linked.{AreLinked, LeaveLinked}
use Rattle.zio_sound.proofs.Leaving.{Judged, judged_so}
use Rattle.zio_sound.proofs.Leaving.Judged.{Ends, Stays}

-- ---- what is left

linked_before : (u : Option ℕ) (f g : Forest) → AreLinked u f → AreLinked u g → AreLinked u (before f g)
linked_before u NoTrees g h k = k
linked_before u (TreeOf p kids others) g h k = (h.0, h.1, linked_before u others g h.2 k)

-- a root that goes again keeps the trees under it
linked_root : (u : Option ℕ) (p : Pending) (again : List Pending) (left : Forest) (children : _) (a : Attempted) → a.again ≡ again
    → p.request.under ≡ u → AreLinked (Some p.request.number) left → Judged p children a → AreLinked u (root_left again left)
linked_root u p [] left children a e under h judged = tt
linked_root u p (q ∷ qs) left children a e under h (Ends x ended again request makes quiet none) =
    let no : q ∷ qs ≡ [] = sym e ∙ again in absurd (cc)
linked_root u p (q ∷ qs) left children a e under h (Stays r ended again same bits) =
    let both : q ∷ qs ≡ r ∷ [] = sym e ∙ again in
    let root : q ≡ r = cc in
    let is : q.request ≡ p.request = ap (λ (x : Pending). x.request) root ∙ same.request in
    (ap (λ x. x.under) is ∙ under, subst (λ (n : ℕ). AreLinked (Some n) left) (sym (ap (λ x. x.number) is)) h, tt)

linked_one : (t : Terms) (u : Option ℕ) (p : Pending) (KidsAre : Kids → Type 0) (one : One) → p.request.under ≡ u
    → ((k : Kids) → KidsAre k → AreLinked (Some p.request.number) k.left) → IsAttempted t p KidsAre one → AreLinked u one.left
linked_one t u p KidsAre one under kids h =
    let a : Attempted = judged_own t p h.kids.returns (bare h.own) in
    subst (λ (x : One). AreLinked u x.left) (sym h.is)
    (linked_root u p a.again h.kids.left (bits_of h.kids.returns) a refl under (kids h.kids h.are) (judged_so t p h.kids.returns h.own h.makes))

linked_kids : (t : Terms) (u : Option ℕ) (f : Forest) (k : Kids) → AreLinked u f → AreAttempted t f k → AreLinked u k.left
linked_kids t u NoTrees k h is = subst (λ (x : Kids). AreLinked u x.left) (sym is) tt
linked_kids t u (TreeOf p kids others) k h (one, o, attempted, rest, is) =
    subst (λ (x : Kids). AreLinked u x.left) (sym is)
    (linked_before u one.left o.left
    (linked_one t u p (AreAttempted t kids) one h.0 (λ x are. linked_kids t (Some p.request.number) kids x h.1 are) attempted)
    (linked_kids t u others o h.2 rest))

linked_on : (u : Option ℕ) (one : One) (b : Bool) (left : Forest) (Again : Pending → Forest → Settled → Type 0) (s : Settled) → AreLinked u one.left
    → left ≡ one.left → ((q : Pending) (below : Forest) (later : Settled) → AreLinked u (TreeOf q below NoTrees) → Again q below later → AreLinked u later.left)
    → SettlesOn b one left Again s → AreLinked u s.left
linked_on u one false left Again s h e again is = subst (λ (x : Settled). AreLinked u x.left) (sym is) h
linked_on u one true NoTrees Again s h e again is = subst (λ (x : Settled). AreLinked u x.left) (sym is) h
linked_on u one true (TreeOf q below others) Again s h e again (later, k, is) =
    let all : AreLinked u (TreeOf q below others) = subst (AreLinked u) (sym e) h in
    subst (λ (x : Settled). AreLinked u x.left) (sym is) (again q below later (all.0, all.1, tt) k)

linked_settled : (more : ℕ) (t : Terms) (u : Option ℕ) (p : Pending) (kids : Forest) (s : Settled) → AreLinked u (TreeOf p kids NoTrees)
    → IsSettled more t p kids s → AreLinked u s.left
linked_settled zero t u p kids s h (one, attempted, is) =
    subst (λ (x : Settled). AreLinked u x.left) (sym is)
    (linked_one t u p (AreAttempted t kids) one h.0 (λ x are. linked_kids t (Some p.request.number) kids x h.1 are) attempted)
linked_settled (suc more) t u p kids s h (one, attempted, on) =
    linked_on u one (now_alone one.return.bits) one.left (IsSettled more t) s
    (linked_one t u p (AreAttempted t kids) one h.0 (λ x are. linked_kids t (Some p.request.number) kids x h.1 are) attempted) refl
    (λ q below later linked. linked_settled more t u q below later linked) on

pub round_linked : (t : Terms) (u : Option ℕ) (f : Forest) (values : List Value) → AreLinked u f → AreSettled t f values → LeaveLinked u values
round_linked t u NoTrees values h is = subst (LeaveLinked u) (sym is) tt
round_linked t u (TreeOf p kids others) [] h is = absurd is
round_linked t u (TreeOf p kids others) (v ∷ vs) h ((s, is, settled), rest) = (
  subst (λ (x : Value). AreLinked u (settled_in x).left) (sym is) (linked_settled reexecutions_max t u p kids s (h.0, h.1, tt) settled),
  round_linked t u others vs h.2 rest,
)

-- ---- families

-- no tree stands under one of these
abbrev NoneBelow : Option ℕ → Forest → Type 0
NoneBelow u f = (n : ℕ) → u ≡ Some n → count_in n f ≡ 0

not_in : (n : ℕ) (f : Forest) → count_in n f ≡ 0 → NotIn n (flat f)
not_in n NoTrees e = tt
not_in n (TreeOf p kids others) e = joined (flat kids) (not_in n kids (omega arith)) (here, not_in n others (omega arith))
  where
    here : p.request.number ≢ n
    here same =
        let itself = ap bit (subst (λ (m : ℕ). same_number p.request.number m ≡ true) same (number_itself p.request.number)) in absurd (omega arith)

    joined : (ps : List Pending) → NotIn n ps → NotIn n (p ∷ flat others) → NotIn n (ps ++ p ∷ flat others)
    joined [] h k = k
    joined (q ∷ qs) h k = (h.0, joined qs h.1 k)

abbrev IsApart : Option ℕ → Pending → Forest → Pending → Type 0
IsApart u p kids q = (u ≢ Some q.request.number) × (p.request.number ≢ q.request.number) × NotIn q.request.number (flat kids)

-- whatever stands in some trees stands nowhere else
each_apart : (u : Option ℕ) (p : Pending) (kids all : Forest) (f : Forest) → ((n : ℕ) → bit (same_number p.request.number n) + (count_in n kids + count_in n all) ≤ 1)
    → NoneBelow u all → ((n : ℕ) → count_in n f ≤ count_in n all) → AllByRecursion (IsApart u p kids) (flat f)
each_apart u p kids all NoTrees once none within = tt
each_apart u p kids all (TreeOf q below others) once none within =
    joined (flat below) (each_apart u p kids all below once none (λ n. (let w = within n in omega arith)))
    (here, each_apart u p kids all others once none (λ n. (let w = within n in omega arith)))
  where
    n : ℕ
    n = q.request.number

    some : 1 ≤ count_in q.request.number all
    some = let itself = ap bit (number_itself q.request.number) in let w = within q.request.number in omega arith

    here : IsApart u p kids q
    here = (
      λ under. (let e = none q.request.number under in let s = some in absurd (omega arith)),
      λ same. (let s = some in let o = once q.request.number in
          let itself = ap bit (subst (λ (m : ℕ). same_number p.request.number m ≡ true) same (number_itself p.request.number)) in absurd (omega arith)),
      not_in q.request.number kids (let s = some in let o = once q.request.number in omega arith),
    )

    joined : (ps : List Pending) → AllByRecursion (IsApart u p kids) ps → AllByRecursion (IsApart u p kids) (q ∷ flat others)
        → AllByRecursion (IsApart u p kids) (ps ++ q ∷ flat others)
    joined [] h k = k
    joined (x ∷ xs) h k = (h.0, joined xs h.1 k)

some_is : (m n : ℕ) → Some m ≡ Some n → m ≡ n
some_is m n e = cc

linked_under : (u : Option ℕ) (f : Forest) → AreLinked u f → ((n : ℕ) → count_in n f ≤ 1) → NoneBelow u f → AreUnder u f
linked_under u NoTrees h once none = tt
linked_under u (TreeOf p kids others) h once none = (
  h.0,
  linked_under (Some p.request.number) kids h.1 (λ n. (let o = once n in omega arith))
      (λ n e. subst (λ m. count_in m kids ≡ 0) (some_is p.request.number n e) in_kids),
  linked_under u others h.2 (λ n. (let o = once n in omega arith)) (λ n e. (let z = none n e in omega arith)),
  not_in p.request.number kids in_kids,
  each_apart u p kids others others once (λ n e. (let z = none n e in omega arith)) (λ n. omega arith),
)
  where
    in_kids : count_in p.request.number kids ≡ 0
    in_kids = let itself = ap bit (number_itself p.request.number) in let o = once p.request.number in omega arith

-- each tree for itself
pub linked_families : (f : Forest) → AreLinked None f → NumbersOnce f → AreTrees f
linked_families NoTrees h once = tt
linked_families (TreeOf p kids others) h once = (
  linked_under None (TreeOf p kids NoTrees) (h.0, h.1, tt) (λ n. (let o = once n in omega arith)) (λ n e. absurd (cc)),
  linked_families others h.2 (λ n. (let o = once n in omega arith)),
)
