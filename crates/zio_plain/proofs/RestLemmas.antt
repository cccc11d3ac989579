-- What is left of trees: rests of them, with no claim among them.
use Rattle.std.proofs.Common.{◌≡◌, suc, ◌+◌, ◌≤◌, List, [], ◌∷◌, ◌++◌, length, Bool, true, false, ◌||◌, ◌⊎◌, inl, inr, refl, sym, ap, ◌∙◌, subst, arith, length-append}
use Rattle.std.specs.List.{AllByRecursion}
use Rattle.zio_script.specs.declared.script.Request.{Request}
use Rattle.zio_script.specs.Requests.{kind_of}
use Rattle.zio_script.specs.Whys.{is_claim}
use Rattle.zio_disks.specs.Whole.{IsWholeTree}
use Rattle.zio_gang.specs.Attempts.{Pending}
use Rattle.zio_gang.specs.Rounds.{add_left}
use Rattle.zio_course.specs.Runners.{AreRestsOf, IsFrontOf, IsRestOf, IsSamePending, has_claim, requests_in as requests_of}
use Rattle.zio_plain.specs.declared.judge.Fate.{Fate}
use Rattle.zio_plain.specs.declared.judge.Fate.TheVariants.{Ends, Again}
use Rattle.zio_plain.specs.declared.waiting.Waiting.{Waiting}
use Rattle.zio_plain.specs.Judgments.{again_of}
use Rattle.zio_plain.specs.Passes.{AreChained, Fated, IsFated, IsFateOf, IsPassOf, is_again, left_in, waitings_in}
use Rattle.zio_plain.specs.Posts.{IsOneTree, requests_in}
use Rattle.zio_plain.specs.Settlings.{IsTreeRun, TreeRun, trees_in, trees_left}
use Rattle.zio_plain.specs.Waits.{pending_of, pendings}
use Rattle.zio_plain.proofs.SettleLemmas.{claims_of, no_claim_left}
use Rattle.zio_plain.proofs.SettlingLemmas.{requests_one}
use Rattle.zio_plain.proofs.CountLemmas.{left_requests}

-- ---- rests

rest_some : (tree : List Pending) → IsRestOf tree [] → ⊥
rest_some [] h = h
rest_some (p ∷ []) h = h
rest_some (p ∷ r ∷ ps) (inl h) = h
rest_some (p ∷ r ∷ ps) (inr h) = rest_some (r ∷ ps) h

rest_skip : (p : Pending) (tree left : List Pending) → IsRestOf tree left → IsRestOf (p ∷ tree) left
rest_skip p [] left h = absurd h
rest_skip p (r ∷ ps) left h = inr h

rest_keep : (p q : Pending) (tree left : List Pending) → IsSamePending p q → IsRestOf tree left → IsRestOf (p ∷ tree) (q ∷ left)
rest_keep p q [] left same h = absurd h
rest_keep p q (r ∷ ps) left same h = inl (same, h)

same_then : (p q r : Pending) → IsSamePending p q → IsSamePending q r → IsSamePending p r
same_then p q r h k = record { request = k.request ∙ h.request; birth = k.birth ∙ h.birth; block = k.block ∙ h.block }

rest_last : (p q : Pending) (left : List Pending) → IsSamePending p q → IsFrontOf q left (λ qs. qs ≡ []) → IsFrontOf p left (λ qs. qs ≡ [])
rest_last p q [] same h = h
rest_last p q (x ∷ xs) same h = (same_then p q x same h.0, h.1)

rest_then : (a b c : List Pending) → IsRestOf a b → IsRestOf b c → IsRestOf a c
rest_then [] b c h k = absurd h
rest_then (p ∷ []) [] c h k = absurd h
rest_then (p ∷ []) (q ∷ []) c h k = rest_last p q c h.0 k
rest_then (p ∷ []) (q ∷ x ∷ xs) c h k = let no : x ∷ xs ≡ [] = h.1 in absurd (cc)
rest_then (p ∷ r ∷ ps) b c (inr h) k = inr (rest_then (r ∷ ps) b c h k)
rest_then (p ∷ r ∷ ps) [] c (inl h) k = absurd h
rest_then (p ∷ r ∷ ps) (q ∷ []) c (inl h) k = absurd (rest_some (r ∷ ps) h.1)
rest_then (p ∷ r ∷ ps) (q ∷ s ∷ ss) [] (inl h) (inl k) = absurd k
rest_then (p ∷ r ∷ ps) (q ∷ s ∷ ss) (x ∷ xs) (inl h) (inl k) = inl (same_then p q x h.0 k.0, rest_then (r ∷ ps) (s ∷ ss) xs h.1 k.1)
rest_then (p ∷ r ∷ ps) (q ∷ s ∷ ss) c (inl h) (inr k) = inr (rest_then (r ∷ ps) (s ∷ ss) c h.1 k)

rest_itself : (p : Pending) (ps : List Pending) → IsRestOf (p ∷ ps) (p ∷ ps)
rest_itself p [] = (record { request = refl; birth = refl; block = refl }, refl)
rest_itself p (r ∷ ps) = inl (record { request = refl; birth = refl; block = refl }, rest_itself r ps)

same_again : (w v : Waiting) (kids : List _) → IsFateOf w kids (Again v) → IsSamePending (pending_of w) (pending_of v)
same_again w v kids is = record { request = is.request; birth = is.birth; block = is.block }

-- of a pass whose last request goes again
pass_rest : (front : List Fated) (last : Fated) → AllByRecursion IsFated (front ++ last ∷ []) → is_again last.fate ≡ true
    → IsRestOf (pendings (waitings_in (front ++ last ∷ []))) (pendings (left_in (front ++ last ∷ [])))
pass_rest [] last each e = one last.fate e each.0.is
  where
    one : (fate : Fate) → is_again fate ≡ true → IsFateOf last.waiting each.0.kids fate → IsRestOf (pending_of last.waiting ∷ []) (pendings (again_of fate ++ []))
    one (Ends f) again is = absurd (cc)
    one (Again v) again is = (same_again last.waiting v each.0.kids is, refl)
pass_rest (f ∷ front) last each e = one f.fate each.0.is (pass_rest front last each.1 e)
  where
    one : (fate : Fate) → IsFateOf f.waiting each.0.kids fate → IsRestOf (pendings (waitings_in (front ++ last ∷ []))) (pendings (left_in (front ++ last ∷ [])))
        → IsRestOf (pending_of f.waiting ∷ pendings (waitings_in (front ++ last ∷ []))) (pendings (again_of fate ++ left_in (front ++ last ∷ [])))
    one (Ends x) is rest = rest_skip (pending_of f.waiting) (pendings (waitings_in (front ++ last ∷ []))) (pendings (left_in (front ++ last ∷ []))) rest
    one (Again v) is rest = rest_keep (pending_of f.waiting) (pending_of v) (pendings (waitings_in (front ++ last ∷ []))) (pendings (left_in (front ++ last ∷ []))) (same_again f.waiting v each.0.kids is) rest

one_pass : (tree : List Waiting) (fs : List Fated) → IsPassOf tree fs → (left_in fs ≡ []) ⊎ IsRestOf (pendings tree) (pendings (left_in fs))
one_pass tree fs h = elim h.root [
  | inl none ↦ inl none
  | inr last ↦
      inr (subst (λ gs. IsRestOf (pendings tree) (pendings (left_in gs))) (sym last.split)
      (subst (λ ws. IsRestOf (pendings ws) (pendings (left_in (last.front ++ last.last ∷ [])))) (sym (h.whole ∙ ap waitings_in last.split))
      (pass_rest last.front last.last (subst (AllByRecursion IsFated) last.split h.each) last.is)))
]

chain_none : (tree : List Waiting) (passes : List (List Fated)) (left : List Waiting) → tree ≡ [] → AreChained tree passes left → left ≡ []
chain_none tree [] left none h = h ∙ none
chain_none tree (fs ∷ passes) left none h = chain_none (left_in fs) passes left (no_left fs (sym h.0.whole ∙ none)) h.1
  where
    no_left : (gs : List Fated) → waitings_in gs ≡ [] → left_in gs ≡ []
    no_left [] e = refl
    no_left (g ∷ gs) e = absurd (cc)

pub chain_rest : (tree : List Waiting) (passes : List (List Fated)) (left : List Waiting) → AreChained tree passes left → (left ≡ []) ⊎ IsRestOf (pendings tree) (pendings left)
chain_rest [] [] left h = inl h
chain_rest (w ∷ ws) [] left h = inr (subst (λ vs. IsRestOf (pendings (w ∷ ws)) (pendings vs)) (sym h) (rest_itself (pending_of w) (pendings ws)))
chain_rest tree (fs ∷ passes) left h = elim (one_pass tree fs h.0) [
  | inl none ↦ inl (chain_none (left_in fs) passes left none h.1)
  | inr first ↦ elim (chain_rest (left_in fs) passes left h.1) [
    | inl none ↦ inl none
    | inr second ↦ inr (rest_then (pendings tree) (pendings (left_in fs)) (pendings left) first second)
  ]
]

rests_skip : (tree : List Pending) (trees left : List (List Pending)) → AreRestsOf trees left → AreRestsOf (tree ∷ trees) left
rests_skip tree trees [] h = tt
rests_skip tree trees (l ∷ left) h = inr h

rests_more : (tree : List Pending) (ws : List Waiting) (trees left : List (List Pending)) → (ws ≡ []) ⊎ IsRestOf tree (pendings ws) → AreRestsOf trees left → AreRestsOf (tree ∷ trees) (add_left (pendings ws) left)
rests_more tree [] trees left h k = rests_skip tree trees left k
rests_more tree (w ∷ ws) trees left (inl none) k = absurd (cc)
rests_more tree (w ∷ ws) trees left (inr h) k = inl (h, k)

pub runs_rests : (runs : List TreeRun) → AllByRecursion IsTreeRun runs → AreRestsOf (trees_in runs) (trees_left runs)
runs_rests [] each = tt
runs_rests (r ∷ runs) each = rests_more (pendings r.tree) r.left (trees_in runs) (trees_left runs) (chain_rest r.tree r.passes r.left each.0.chained) (runs_rests runs each.1)

-- ---- claims

not_true : (b : Bool) → (b ≡ true → ⊥) → b ≡ false
not_true true h = absurd (h refl)
not_true false h = refl

claims_append : (xs ys : List Request) → has_claim xs ≡ false → has_claim ys ≡ false → has_claim (xs ++ ys) ≡ false
claims_append [] ys e f = f
claims_append (x ∷ xs) ys e f = one (is_claim (kind_of x.work)) e (λ k. claims_append xs ys k f)
  where
    one : (b : Bool) → (b || has_claim xs) ≡ false → (has_claim xs ≡ false → has_claim (xs ++ ys) ≡ false) → (b || has_claim (xs ++ ys)) ≡ false
    one true g later = absurd (cc)
    one false g later = later g

claims_front : (xs ys : List Request) → has_claim xs ≡ true → has_claim (xs ++ ys) ≡ true
claims_front [] ys e = absurd (cc)
claims_front (x ∷ xs) ys e = one (is_claim (kind_of x.work)) e (λ k. claims_front xs ys k)
  where
    one : (b : Bool) → (b || has_claim xs) ≡ true → (has_claim xs ≡ true → has_claim (xs ++ ys) ≡ true) → (b || has_claim (xs ++ ys)) ≡ true
    one true g later = refl
    one false g later = later g

claims_back : (xs ys : List Request) → has_claim ys ≡ true → has_claim (xs ++ ys) ≡ true
claims_back [] ys e = e
claims_back (x ∷ xs) ys e = one (is_claim (kind_of x.work)) (claims_back xs ys e)
  where
    one : (b : Bool) → has_claim (xs ++ ys) ≡ true → (b || has_claim (xs ++ ys)) ≡ true
    one true g = refl
    one false g = g

chain_claims : (tree : List Waiting) (passes : List (List Fated)) (left : List Waiting) → has_claim (requests_in tree) ≡ false → AreChained tree passes left → has_claim (requests_in left) ≡ false
chain_claims tree [] left none h = ap (λ ws. has_claim (requests_in ws)) h ∙ none
chain_claims tree (fs ∷ passes) left none h =
    chain_claims (left_in fs) passes left
    (not_true (has_claim (requests_in (left_in fs))) (λ e. (let no : true ≡ false = sym (claims_of fs h.0.each e) ∙ ap (λ ws. has_claim (requests_in ws)) (sym h.0.whole) ∙ none in cc))) h.1

run_claims : (r : TreeRun) → IsTreeRun r → (has_claim (requests_in r.tree) ≡ true → length r.tree ≡ 1) → (passes : List (List Fated)) → 1 ≤ length passes → AreChained r.tree passes r.left → has_claim (requests_in r.left) ≡ false
run_claims r is alone [] some h = absurd (omega arith)
run_claims r is alone (fs ∷ passes) some h = chain_claims (left_in fs) passes r.left (no_claim_left r.tree fs h.0.whole h.0.each is.one alone) h.1

length_requests : (ws : List Waiting) → length (requests_in ws) ≡ length ws
length_requests [] = refl
length_requests (w ∷ ws) = ap suc (length_requests ws)

some_waits : (ws : List Waiting) → IsOneTree IsWholeTree ws → 1 ≤ length ws
some_waits [] one = let e : [] ≡ one.root ∷ [] = one.alone in absurd (cc)
some_waits (w ∷ ws) one = omega arith

no_requests : (rs : List Request) → length rs ≡ 0 → has_claim rs ≡ false
no_requests [] e = refl
no_requests (r ∷ rs) e = absurd (omega arith)

pub runs_claims : (runs : List TreeRun) → AllByRecursion IsTreeRun runs → (has_claim (requests_of (trees_in runs)) ≡ true → length (requests_of (trees_in runs)) ≡ 1) → has_claim (requests_of (trees_left runs)) ≡ false
runs_claims [] each alone = refl
runs_claims (r ∷ runs) each alone =
    let all : requests_of (trees_in (r ∷ runs)) ≡ requests_in r.tree ++ requests_of (trees_in runs) = requests_one r.tree (trees_in runs) in
    let sizes : length (requests_of (trees_in (r ∷ runs))) ≡ length r.tree + length (requests_of (trees_in runs)) =
    ap length all ∙ length-append (requests_in r.tree) (requests_of (trees_in runs)) ∙ ap (λ n. n + length (requests_of (trees_in runs))) (length_requests r.tree) in
    let some = some_waits r.tree each.0.one in
    let mine : has_claim (requests_in r.left) ≡ false =
    run_claims r each.0 (λ e. (let one : length (requests_of (trees_in (r ∷ runs))) ≡ 1 = alone (ap has_claim all ∙ claims_front (requests_in r.tree) (requests_of (trees_in runs)) e) in omega arith)) r.passes each.0.some each.0.chained in
    let others : has_claim (requests_of (trees_left runs)) ≡ false =
    runs_claims runs each.1 (λ e.
    let one : length (requests_of (trees_in (r ∷ runs))) ≡ 1 = alone (ap has_claim all ∙ claims_back (requests_in r.tree) (requests_of (trees_in runs)) e) in
    let none : length (requests_of (trees_in runs)) ≡ 0 = omega arith in
    let no : true ≡ false = sym e ∙ no_requests (requests_of (trees_in runs)) none in absurd (cc)) in
    ap has_claim (left_requests r.left (trees_left runs)) ∙ claims_append (requests_in r.left) (requests_of (trees_left runs)) mine others
