-- No request that finished stands under one that finished before it.
use Rattle.std.proofs.Common.{◌≡◌, ◌≢◌, ℕ, List, [], ◌∷◌, ◌++◌, map, drop, Bool, true, false, ◌||◌, ◌&&◌, ◌==◌, Some, None, ◌⊎◌, inl, inr, eqb, eqb-true, refl, sym, ap, ◌∙◌, subst}
use Rattle.std.specs.Prelude.{option_to_list}
use Rattle.std.specs.List.{AllByRecursion, list_any}
use Rattle.std.proofs.lemmas.List.{append-nil, map-append}
use Rattle.std.proofs.lemmas.Grind.{flat_map-append}
use Rattle.zio_cksum.proofs.AllLemmas.{all_append, all_weaker}
use Rattle.zio_script.specs.declared.script.Request.{Request}
use Rattle.zio_script.specs.Requests.{is_under, is_under_number}
use Rattle.zio_disks.specs.Whole.{IsWholeTree}
use Rattle.zio_gang.specs.Attempts.{Pending}
use Rattle.zio_gang.specs.Journals.{CompleteAfterChildren, is_child}
use Rattle.zio_course.specs.declared.runner.RequestEnd.{RequestEnd}
use Rattle.zio_course.specs.Runners.{completion_for, requests_in as requests_of, root_of, roots_of}
use Rattle.zio_course.proofs.SortLemmas.{IsOneOf, all_one}
use Rattle.zio_plain.specs.declared.judge.Fate.{Fate}
use Rattle.zio_plain.specs.declared.judge.Fate.TheVariants.{Ends, Again}
use Rattle.zio_plain.specs.declared.waiting.Waiting.{Waiting}
use Rattle.zio_plain.specs.Judgments.{again_of, ends_of}
use Rattle.zio_plain.specs.Passes.{AreChained, AreNumberedApart, Fated, IsFated, IsFateOf, IsPassOf, LastIsAgain, all_ends, ends_in, is_again, left_in, waitings_in}
use Rattle.zio_plain.specs.Posts.{AreBehindChildren, IsOneTree, met_after, requests_in}
use Rattle.zio_plain.specs.Settlings.{IsTreeRun, TreeRun, ends_run, requests_run, trees_in}
use Rattle.zio_plain.specs.Waits.{pending_of, pendings}
use Rattle.zio_plain.proofs.OwnerLemmas.{IsOwned, WasOne, chain_owned, left_was, one_number, pass_owned, runs_owned}
use Rattle.zio_plain.proofs.PostLemmas.{root_is}
use Rattle.zio_plain.proofs.ReturnLemmas.{HasParent, parents_come}
use Rattle.zio_plain.proofs.SettleLemmas.{left_apart}
use Rattle.zio_plain.proofs.SettlingLemmas.{requests_runs}

-- ---- parents come later

abbrev HasLater : List Waiting → Waiting → Type 0
HasLater ws w = (w.request.under ≡ None) ⊎ HasParent ws w

-- each request is the root, or its parent stands behind it
abbrev AreUnderLater : List Waiting → Type 0
AreUnderLater [] = Unit {0}
AreUnderLater (w ∷ ws) = HasLater ws w × AreUnderLater ws

under_later : (met : List Waiting) (root : Waiting) (ws : List Waiting) → root.request.under ≡ None → AreBehindChildren met ws → met_after met ws ≡ root ∷ [] → AreUnderLater ws
under_later met root [] none h alone = tt
under_later met root (w ∷ []) none h alone =
    let same : w ≡ root = cc in (inl (ap (λ (x : Waiting). x.request.under) same ∙ none), tt)
under_later met root (w ∷ u ∷ us) none h alone =
    (inr (parents_come (w ∷ drop w.unfinished met) root u us h.1 alone).0, under_later (w ∷ drop w.unfinished met) root (u ∷ us) none h.1 alone)

not_true : (b : Bool) → (b ≡ true → ⊥) → b ≡ false
not_true true h = absurd (h refl)
not_true false h = refl

-- a request under none of a number
not_under : (n : ℕ) (v : Waiting) (ws : List Waiting) → AllByRecursion (λ (q : Waiting). q.request.number ≢ n) ws → HasLater ws v → is_under v.request n ≡ false
not_under n v ws apart (inl none) = ap (λ u. is_under_number u n) none
not_under n v [] apart (inr h) = absurd h
not_under n v (w ∷ ws) apart (inr (inl e)) = ap (λ u. is_under_number u n) e ∙ not_true (eqb w.request.number n) (λ k. apart.0 (eqb-true w.request.number n k))
not_under n v (w ∷ ws) apart (inr (inr h)) = not_under n v ws apart.1 (inr h)

later_apart : (n : ℕ) (ws : List Waiting) → AllByRecursion (λ (q : Waiting). q.request.number ≢ n) ws → AreUnderLater ws → AllByRecursion (λ (v : Waiting). is_under v.request n ≡ false) ws
later_apart n [] apart h = tt
later_apart n (w ∷ ws) apart h = (not_under n w ws apart.1 h.0, later_apart n ws apart.1 h.1)

-- ---- ends in order

-- the request that finished there doesn't stand under the one that finished here
pub record IsUpFrom (all : List Waiting) (e f : RequestEnd) : Type 0 where
  pub owner : Waiting
  pub at : IsOneOf owner all
  pub number : f.request ≡ owner.request.number
  pub free : is_under owner.request e.request ≡ false

abbrev AreUp : List Waiting → List RequestEnd → Type 0
AreUp all [] = Unit {0}
AreUp all (e ∷ es) = AllByRecursion (IsUpFrom all e) es × AreUp all es

all_at : {X : Type 0} (P : X → Type 0) (x : X) (xs : List X) → AllByRecursion P xs → IsOneOf x xs → P x
all_at P x [] h at = absurd at
all_at P x (y ∷ ys) h (inl same) = subst P same h.0
all_at P x (y ∷ ys) h (inr at) = all_at P x ys h.1 at

-- the requests are among all, up to what they keep
pub record IsSeenIn (all : List Waiting) (v : Waiting) : Type 0 where
  pub seen : Waiting
  pub at : IsOneOf seen all
  pub request : v.request ≡ seen.request

abbrev AreSeenIn : List Waiting → List Waiting → Type 0
AreSeenIn all ws = AllByRecursion (IsSeenIn all) ws

up_all : (all ws : List Waiting) (e : RequestEnd) (es : List RequestEnd) → AreSeenIn all ws → AllByRecursion (IsOwned ws) es → AllByRecursion (λ (v : Waiting). is_under v.request e.request ≡ false) ws → AllByRecursion (IsUpFrom all e) es
up_all all ws e es seen owned free =
    all_weaker (IsOwned ws) (IsUpFrom all e) es
    (λ f k.
    let s : IsSeenIn all k.owner = all_at (IsSeenIn all) k.owner ws seen k.at in record {
      owner = s.seen;
      at = s.at;
      number = k.end.number ∙ ap (λ (r : Request). r.number) s.request;
      free = ap (λ (r : Request). is_under r e.request) (sym s.request) ∙ all_at (λ (v : Waiting). is_under v.request e.request ≡ false) k.owner ws free k.at;
    }) owned

up_both : (all : List Waiting) (es fs : List RequestEnd) → AreUp all es → AreUp all fs → AllByRecursion (λ e. AllByRecursion (IsUpFrom all e) fs) es → AreUp all (es ++ fs)
up_both all [] fs h k cross = k
up_both all (e ∷ es) fs h k cross = (all_append (IsUpFrom all e) es fs h.0 cross.0, up_both all es fs h.1 k cross.1)

pass_up : (all : List Waiting) (fs : List Fated) → AllByRecursion IsFated fs → AreSeenIn all (waitings_in fs) → AreNumberedApart (waitings_in fs) → AreUnderLater (waitings_in fs) → AreUp all (ends_in fs)
pass_up all [] each seen apart later = tt
pass_up all (f ∷ fs) each seen apart later = one f.fate each.0.is (pass_up all fs each.1 seen.1 apart.1 later.1)
  where
    one : (fate : Fate) → IsFateOf f.waiting each.0.kids fate → AreUp all (ends_in fs) → AreUp all (ends_of fate ++ ends_in fs)
    one (Ends e) is rest = (
      up_all all (waitings_in fs) e (ends_in fs) seen.1 (pass_owned fs each.1)
          (subst (λ n. AllByRecursion (λ (v : Waiting). is_under v.request n ≡ false) (waitings_in fs)) (sym is.request) (later_apart f.waiting.request.number (waitings_in fs) apart.0 later.1)),
      rest,
    )
    one (Again v) is rest = rest

-- ---- a pass after another

-- no request that is left has the number of one that finished
apart_left : (n : ℕ) (fs : List Fated) → AllByRecursion IsFated fs → AllByRecursion (λ (q : Waiting). q.request.number ≢ n) (waitings_in fs) → AllByRecursion (λ (q : Waiting). q.request.number ≢ n) (left_in fs)
apart_left n [] each h = tt
apart_left n (f ∷ fs) each h = one f.fate each.0.is (apart_left n fs each.1 h.1)
  where
    one : (fate : Fate) → IsFateOf f.waiting each.0.kids fate → AllByRecursion (λ (q : Waiting). q.request.number ≢ n) (left_in fs) → AllByRecursion (λ (q : Waiting). q.request.number ≢ n) (again_of fate ++ left_in fs)
    one (Ends e) is rest = rest
    one (Again v) is rest = (λ same. h.0 (ap (λ (r : Request). r.number) (sym is.request) ∙ same), rest)

more_apart : (n : ℕ) (v : Waiting) (left ws : List Waiting) (es : List RequestEnd) → v.request.number ≡ n → AllByRecursion (λ (q : Waiting). q.request.number ≢ n) ws → AllByRecursion (IsOwned ws) es
    → AllByRecursion (λ (e : RequestEnd). AllByRecursion (λ (q : Waiting). q.request.number ≢ e.request) left) es → AllByRecursion (λ (e : RequestEnd). AllByRecursion (λ (q : Waiting). q.request.number ≢ e.request) (v ∷ left)) es
more_apart n v left ws [] is apart owned h = tt
more_apart n v left ws (e ∷ es) is apart owned h = (
  ((λ same. all_at (λ (q : Waiting). q.request.number ≢ n) owned.0.owner ws apart owned.0.at (sym owned.0.end.number ∙ sym same ∙ is)), h.0),
  more_apart n v left ws es is apart owned.1 h.1,
)

ends_apart : (fs : List Fated) → AllByRecursion IsFated fs → AreNumberedApart (waitings_in fs) → AllByRecursion (λ (e : RequestEnd). AllByRecursion (λ (q : Waiting). q.request.number ≢ e.request) (left_in fs)) (ends_in fs)
ends_apart [] each apart = tt
ends_apart (f ∷ fs) each apart = one f.fate each.0.is (ends_apart fs each.1 apart.1)
  where
    one : (fate : Fate) → IsFateOf f.waiting each.0.kids fate → AllByRecursion (λ (e : RequestEnd). AllByRecursion (λ (q : Waiting). q.request.number ≢ e.request) (left_in fs)) (ends_in fs)
        → AllByRecursion (λ (e : RequestEnd). AllByRecursion (λ (q : Waiting). q.request.number ≢ e.request) (again_of fate ++ left_in fs)) (ends_of fate ++ ends_in fs)
    one (Ends e) is rest = (subst (λ n. AllByRecursion (λ (q : Waiting). q.request.number ≢ n) (left_in fs)) (sym is.request) (apart_left f.waiting.request.number fs each.1 apart.0), rest)
    one (Again v) is rest =
        more_apart f.waiting.request.number v (left_in fs) (waitings_in fs) (ends_in fs) (ap (λ (r : Request). r.number) is.request) apart.0 (pass_owned fs each.1) rest

root_last : (ps : List Pending) (p : Pending) → root_of (ps ++ p ∷ []) ≡ Some p
root_last [] p = refl
root_last (q ∷ []) p = refl
root_last (q ∷ r ∷ ps) p = root_last (r ∷ ps) p

same_root : (tree : List Waiting) (one : IsOneTree IsWholeTree tree) (p : Pending) → root_of (pendings tree) ≡ Some p → one.root.request ≡ p.request
same_root tree one p is =
    let both : Some (pending_of one.root) ≡ Some p = sym (root_is IsWholeTree tree one) ∙ is in
    let same : pending_of one.root ≡ p = cc in ap (λ (q : Pending). q.request) same

-- what is left has the root of the tree
root_stays : (tree : List Waiting) (fs : List Fated) → IsPassOf tree fs → (one : IsOneTree IsWholeTree tree) → one.root.request.under ≡ None → (rest : IsOneTree IsWholeTree (left_in fs)) → rest.root.request.under ≡ None
root_stays tree fs h one none rest = elim h.root [
  | inl no_left ↦ (let empty : [] ≡ rest.root ∷ [] = ap (met_after []) (sym no_left) ∙ rest.alone in absurd (cc))
  | inr last ↦ by_last last last.last.fate refl
]
  where
    by_last : (l : LastIsAgain fs) (fate : Fate) → l.last.fate ≡ fate → rest.root.request.under ≡ None
    by_last l (Ends e) is = let no : false ≡ true = sym (ap is_again is) ∙ l.is in absurd (cc)
    by_last l (Again v) is =
        let known : IsFated l.last = (last_fated l.front l.last (subst (AllByRecursion IsFated) l.split h.each)) in
        let again = subst (IsFateOf l.last.waiting known.kids) is known.is in
        let left_is : left_in fs ≡ left_in l.front ++ v ∷ [] =
        ap left_in l.split ∙ flat_map-append (λ (f : Fated). again_of f.fate) l.front (l.last ∷ []) ∙ ap (λ ws. left_in l.front ++ ws) (append-nil (again_of l.last.fate) ∙ ap again_of is) in
        let left_root : root_of (pendings (left_in fs)) ≡ Some (pending_of v) =
        ap (λ ws. root_of (pendings ws)) left_is ∙ ap root_of (map-append pending_of (left_in l.front) (v ∷ [])) ∙ root_last (pendings (left_in l.front)) (pending_of v) in
        let tree_is : tree ≡ waitings_in l.front ++ l.last.waiting ∷ [] = h.whole ∙ ap waitings_in l.split ∙ map-append (λ (f : Fated). f.waiting) l.front (l.last ∷ []) in
        let tree_root : root_of (pendings tree) ≡ Some (pending_of l.last.waiting) =
        ap (λ ws. root_of (pendings ws)) tree_is ∙ ap root_of (map-append pending_of (waitings_in l.front) (l.last.waiting ∷ [])) ∙ root_last (pendings (waitings_in l.front)) (pending_of l.last.waiting) in
        ap (λ (r : Request). r.under) (same_root (left_in fs) rest (pending_of v) left_root ∙ again.request ∙ sym (same_root tree one (pending_of l.last.waiting) tree_root)) ∙ none
      where
        last_fated : (front : List Fated) (last : Fated) → AllByRecursion IsFated (front ++ last ∷ []) → IsFated last
        last_fated [] last k = k.0
        last_fated (f ∷ front) last k = last_fated front last k.1

left_seen : (all : List Waiting) (fs : List Fated) → AllByRecursion IsFated fs → AreSeenIn all (waitings_in fs) → AreSeenIn all (left_in fs)
left_seen all fs each seen =
    all_one (IsSeenIn all) (left_in fs) (λ v at.
    let w : WasOne (waitings_in fs) v = left_was fs v each at in
    let s : IsSeenIn all w.before = all_at (IsSeenIn all) w.before (waitings_in fs) seen w.at in
    record { seen = s.seen; at = s.at; request = w.request ∙ s.request })

none_up : (all : List Waiting) (es : List RequestEnd) → AllByRecursion (IsOwned []) es → AreUp all es
none_up all [] h = tt
none_up all (e ∷ es) h = absurd h.0.at

none_cross : (all : List Waiting) (es fs : List RequestEnd) → AllByRecursion (IsOwned []) fs → AllByRecursion (λ e. AllByRecursion (IsUpFrom all e) fs) es
none_cross all es [] h = each es
  where
    each : (xs : List RequestEnd) → AllByRecursion (λ e. AllByRecursion (IsUpFrom all e) []) xs
    each [] = tt
    each (x ∷ xs) = (tt, each xs)
none_cross all es (f ∷ fs) h = absurd h.0.at

chain_up : (all tree : List Waiting) (passes : List (List Fated)) (left : List Waiting) → AreChained tree passes left → (one : IsOneTree IsWholeTree tree) → one.root.request.under ≡ None → AreNumberedApart tree → AreSeenIn all tree
    → AreUp all (all_ends passes)
chain_up all tree [] left h one none apart seen = tt
chain_up all tree (fs ∷ passes) left h one none apart seen =
    let whole : tree ≡ waitings_in fs = h.0.whole in
    let apart_here : AreNumberedApart (waitings_in fs) = subst AreNumberedApart whole apart in
    let seen_here : AreSeenIn all (waitings_in fs) = subst (AreSeenIn all) whole seen in
    let first : AreUp all (ends_in fs) = pass_up all fs h.0.each seen_here apart_here (subst AreUnderLater whole (under_later [] one.root tree none one.ordered one.alone)) in
    let owned : AllByRecursion (IsOwned (left_in fs)) (all_ends passes) = chain_owned (left_in fs) passes left h.1 in
    elim h.0.rest [
      | inl no_left ↦
          (let empty : AllByRecursion (IsOwned []) (all_ends passes) = subst (λ ws. AllByRecursion (IsOwned ws) (all_ends passes)) no_left owned in
          up_both all (ends_in fs) (all_ends passes) first (none_up all (all_ends passes) empty) (none_cross all (ends_in fs) (all_ends passes) empty))
      | inr rest ↦
          (let none_left : rest.root.request.under ≡ None = root_stays tree fs h.0 one none rest in
          let seen_left : AreSeenIn all (left_in fs) = left_seen all fs h.0.each seen_here in
          let later : AreUnderLater (left_in fs) = under_later [] rest.root (left_in fs) none_left rest.ordered rest.alone in
          up_both all (ends_in fs) (all_ends passes) first
          (chain_up all (left_in fs) passes left h.1 rest none_left (left_apart fs h.0.each apart_here) seen_left)
          (all_weaker (λ (e : RequestEnd). AllByRecursion (λ (q : Waiting). q.request.number ≢ e.request) (left_in fs)) (λ e. AllByRecursion (IsUpFrom all e) (all_ends passes)) (ends_in fs)
          (λ e k. up_all all (left_in fs) e (all_ends passes) seen_left owned (later_apart e.request (left_in fs) k later)) (ends_apart fs h.0.each apart_here)))
    ]

-- ---- trees after one another

all_front : {X : Type 0} (P : X → Type 0) (xs ys : List X) → AllByRecursion P (xs ++ ys) → AllByRecursion P xs
all_front P [] ys h = tt
all_front P (x ∷ xs) ys h = (h.0, all_front P xs ys h.1)

all_back : {X : Type 0} (P : X → Type 0) (xs ys : List X) → AllByRecursion P (xs ++ ys) → AllByRecursion P ys
all_back P [] ys h = h
all_back P (x ∷ xs) ys h = all_back P xs ys h.1

-- the roots of these trees stand under none
abbrev AreRootless : List TreeRun → Type 0
AreRootless [] = Unit {0}
AreRootless (r ∷ runs) = ((one : IsOneTree IsWholeTree r.tree) → one.root.request.under ≡ None) × AreRootless runs

roots_none : (runs : List TreeRun) → AllByRecursion IsTreeRun runs → AllByRecursion (λ (q : Request). q.under ≡ None) (roots_of (trees_in runs)) → AreRootless runs
roots_none [] each h = tt
roots_none (r ∷ runs) each h =
    let is : roots_of (trees_in (r ∷ runs)) ≡ each.0.one.root.request ∷ roots_of (trees_in runs) =
    ap (λ o. map (λ (p : Pending). p.request) (option_to_list o) ++ roots_of (trees_in runs)) (root_is IsWholeTree r.tree each.0.one) in
    let k : AllByRecursion (λ (q : Request). q.under ≡ None) (each.0.one.root.request ∷ roots_of (trees_in runs)) = subst (AllByRecursion (λ (q : Request). q.under ≡ None)) is h in (
      λ one. ap (λ (q : Request). q.under) (same_root r.tree one (pending_of each.0.one.root) (root_is IsWholeTree r.tree each.0.one)) ∙ k.0,
      roots_none runs each.1 k.1,
    )

runs_free : (n : ℕ) (runs : List TreeRun) → AllByRecursion IsTreeRun runs → AreRootless runs → AllByRecursion (λ (q : Waiting). q.request.number ≢ n) (requests_run runs) → AllByRecursion (λ (v : Waiting). is_under v.request n ≡ false) (requests_run runs)
runs_free n [] each roots apart = tt
runs_free n (r ∷ runs) each roots apart =
    let one = each.0.one in
    all_append (λ (v : Waiting). is_under v.request n ≡ false) r.tree (requests_run runs)
    (later_apart n r.tree (all_front (λ (q : Waiting). q.request.number ≢ n) r.tree (requests_run runs) apart) (under_later [] one.root r.tree (roots.0 one) one.ordered one.alone))
    (runs_free n runs each.1 roots.1 (all_back (λ (q : Waiting). q.request.number ≢ n) r.tree (requests_run runs) apart))

apart_behind : (xs ys : List Waiting) → AreNumberedApart (xs ++ ys) → AllByRecursion (λ (w : Waiting). AllByRecursion (λ (q : Waiting). q.request.number ≢ w.request.number) ys) xs
apart_behind [] ys h = tt
apart_behind (x ∷ xs) ys h = (all_back (λ (q : Waiting). q.request.number ≢ x.request.number) xs ys h.0, apart_behind xs ys h.1)

apart_back : (xs ys : List Waiting) → AreNumberedApart (xs ++ ys) → AreNumberedApart ys
apart_back [] ys h = h
apart_back (x ∷ xs) ys h = apart_back xs ys h.1

runs_up : (all : List Waiting) (runs : List TreeRun) → AllByRecursion IsTreeRun runs → AreRootless runs → AreNumberedApart (requests_run runs) → AreSeenIn all (requests_run runs) → AreUp all (ends_run runs)
runs_up all [] each roots apart seen = tt
runs_up all (r ∷ runs) each roots apart seen =
    let one = each.0.one in
    let seen_back : AreSeenIn all (requests_run runs) = all_back (IsSeenIn all) r.tree (requests_run runs) seen in
    up_both all (all_ends r.passes) (ends_run runs)
    (chain_up all r.tree r.passes r.left each.0.chained one (roots.0 one) each.0.apart (all_front (IsSeenIn all) r.tree (requests_run runs) seen))
    (runs_up all runs each.1 roots.1 (apart_back r.tree (requests_run runs) apart) seen_back)
    (all_weaker (IsOwned r.tree) (λ e. AllByRecursion (IsUpFrom all e) (ends_run runs)) (all_ends r.passes)
    (λ e k. up_all all (requests_run runs) e (ends_run runs) seen_back (runs_owned runs each.1)
    (runs_free e.request runs each.1 roots.1 (subst (λ n. AllByRecursion (λ (q : Waiting). q.request.number ≢ n) (requests_run runs)) (sym k.end.number)
    (all_at (λ (w : Waiting). AllByRecursion (λ (q : Waiting). q.request.number ≢ w.request.number) (requests_run runs)) k.owner r.tree (apart_behind r.tree (requests_run runs) apart) k.at))))
    (chain_owned r.tree r.passes r.left each.0.chained))

-- ---- completions

and_false : (a b : Bool) → (a ≡ true → b ≡ false) → (a && b) ≡ false
and_false true b h = h refl
and_false false b h = refl

or_false : (a b : Bool) → a ≡ false → b ≡ false → (a || b) ≡ false
or_false true b e f = absurd (cc)
or_false false b e f = f

no_child : (all ws : List Waiting) (e f : RequestEnd) → AreNumberedApart all → IsUpFrom all e f → ((v : Waiting) → IsOneOf v ws → IsOneOf v all)
    → list_any (λ (r : Request). (r.number == f.request) && is_under r e.request) (requests_in ws) ≡ false
no_child all [] e f apart h among = refl
no_child all (w ∷ ws) e f apart h among =
    or_false (eqb w.request.number f.request && is_under w.request e.request) (list_any (λ (r : Request). (r.number == f.request) && is_under r e.request) (requests_in ws))
    (and_false (eqb w.request.number f.request) (is_under w.request e.request)
    (λ k. subst (λ (v : Waiting). is_under v.request e.request ≡ false) (sym (one_number h.owner w all apart h.at (among w (inl refl)) (eqb-true w.request.number f.request k ∙ h.number))) h.free))
    (no_child all ws e f apart h (λ v at. among v (inr at)))

up_complete : (round : ℕ) (all : List Waiting) (es : List RequestEnd) → AreNumberedApart all → AreUp all es → CompleteAfterChildren (requests_in all) (map (completion_for round) es)
up_complete round all [] apart h = tt
up_complete round all (e ∷ es) apart h = (listed es h.0, up_complete round all es apart h.1)
  where
    listed : (fs : List RequestEnd) → AllByRecursion (IsUpFrom all e) fs → AllByRecursion (λ other. is_child (requests_in all) (completion_for round e) other ≡ false) (map (completion_for round) fs)
    listed [] k = tt
    listed (f ∷ fs) k = (no_child all all e f apart k.0 (λ v at. at), listed fs k.1)

all_seen : (ws : List Waiting) → AreSeenIn ws ws
all_seen ws = all_one (IsSeenIn ws) ws (λ v at. record { seen = v; at = at; request = refl })

-- of a round
pub runs_complete : (round : ℕ) (trees : List (List Pending)) (runs : List TreeRun) → trees ≡ trees_in runs → AllByRecursion IsTreeRun runs → AllByRecursion (λ (q : Request). q.under ≡ None) (roots_of trees)
    → AreNumberedApart (requests_run runs) → CompleteAfterChildren (requests_of trees) (map (completion_for round) (ends_run runs))
runs_complete round trees runs whole each roots apart =
    subst (λ rs. CompleteAfterChildren rs (map (completion_for round) (ends_run runs))) (sym (ap requests_of whole ∙ requests_runs runs))
    (up_complete round (requests_run runs) (ends_run runs) apart
    (runs_up (requests_run runs) runs each (roots_none runs each (subst (λ ts. AllByRecursion (λ (q : Request). q.under ≡ None) (roots_of ts)) whole roots)) apart (all_seen (requests_run runs))))
