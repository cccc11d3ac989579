-- What was handed on last is what the children of the next request handed to it.
use Rattle.std.proofs.Common.{◌≡◌, ◌≢◌, ℕ, zero, suc, cond, List, [], ◌∷◌, ◌++◌, ◌⊎◌, inl, inr, map, filter, take, drop, reverse, Bool, true, false, Some, eqb, eqb-true, eq-eqb, refl, sym, ap, ◌∙◌, subst}
use Rattle.std.specs.List.{AllByRecursion}
use Rattle.std.proofs.lemmas.List.{append-nil, take-append-drop, map-append, reverse-append}
use Rattle.std.proofs.lemmas.List.Elements.{filter-append}
use Rattle.zio_cksum.proofs.AllLemmas.{all_append, all_weaker}
use Rattle.zio_script.specs.declared.script.Request.{Request}
use Rattle.zio_script.specs.Requests.{is_under_number}
use Rattle.zio_gang.specs.Attempts.{Return, returned_to}
use Rattle.zio_plain.specs.declared.waiting.Handed.{Handed}
use Rattle.zio_plain.specs.declared.waiting.Waiting.{Waiting}
use Rattle.zio_plain.specs.Posts.{AreBehindChildren, AreHandedBy, IsOver, children_in, met_after, requests_in}
use Rattle.zio_plain.specs.Waits.{pending_of, return_of}

-- one of the requests is the parent
abbrev pub HasParent : List Waiting → Waiting → Type 0
HasParent [] m = ⊥
HasParent (w ∷ ws) m = (m.request.under ≡ Some w.request.number) ⊎ HasParent ws m

abbrev IsUnder : ℕ → Waiting → Type 0
IsUnder n m = m.request.under ≡ Some n

unders_back : (n : ℕ) (ms : List Waiting) → AllByRecursion (λ (r : Request). r.under ≡ Some n) (requests_in ms) → AllByRecursion (IsUnder n) ms
unders_back n [] h = tt
unders_back n (m ∷ ms) h = (h.0, unders_back n ms h.1)

all_turned : {X : Type 0} (P : X → Type 0) (xs : List X) → AllByRecursion P (reverse xs) → AllByRecursion P xs
all_turned P [] h = tt
all_turned P (x ∷ xs) h =
    let k : AllByRecursion P (reverse xs ++ x ∷ []) = subst (AllByRecursion P) (reverse-append (x ∷ []) xs) h in
    (last (reverse xs) k, all_turned P xs (front (reverse xs) k))
  where
    last : (ys : List _) → AllByRecursion P (ys ++ x ∷ []) → P x
    last [] k = k.0
    last (y ∷ ys) k = last ys k.1

    front : (ys : List _) → AllByRecursion P (ys ++ x ∷ []) → AllByRecursion P ys
    front [] k = tt
    front (y ∷ ys) k = (k.0, front ys k.1)

under_over : (w : Waiting) (met : List Waiting) → IsOver w met → AllByRecursion (IsUnder w.request.number) (take w.unfinished met)
under_over w met h = all_turned (IsUnder w.request.number) (take w.unfinished met) (unders_back w.request.number (children_in w met) h.under)

-- where one tree is left at the end, the parent of each request that was met comes
pub parents_come : (met : List Waiting) (root v : Waiting) (vs : List Waiting) → AreBehindChildren met (v ∷ vs) → met_after met (v ∷ vs) ≡ root ∷ [] → AllByRecursion (HasParent (v ∷ vs)) met
parents_come met root v [] h alone =
    let none : drop v.unfinished met ≡ [] = cc in
    subst (AllByRecursion (HasParent (v ∷ []))) (take-append-drop v.unfinished met)
    (all_append (HasParent (v ∷ [])) (take v.unfinished met) (drop v.unfinished met)
    (all_weaker (IsUnder v.request.number) (HasParent (v ∷ [])) (take v.unfinished met) (λ m u. inl u) (under_over v met h.0))
    (subst (AllByRecursion (HasParent (v ∷ []))) (sym none) tt))
parents_come met root v (u ∷ us) h alone =
    let later : AllByRecursion (HasParent (u ∷ us)) (v ∷ drop v.unfinished met) = parents_come (v ∷ drop v.unfinished met) root u us h.1 alone in
    subst (AllByRecursion (HasParent (v ∷ u ∷ us))) (take-append-drop v.unfinished met)
    (all_append (HasParent (v ∷ u ∷ us)) (take v.unfinished met) (drop v.unfinished met)
    (all_weaker (IsUnder v.request.number) (HasParent (v ∷ u ∷ us)) (take v.unfinished met) (λ m k. inl k) (under_over v met h.0))
    (all_weaker (HasParent (u ∷ us)) (HasParent (v ∷ u ∷ us)) (drop v.unfinished met) (λ m k. inr k) later.1))

false_if : (b : Bool) → (b ≡ true → ⊥) → b ≡ false
false_if true h = absurd (h refl)
false_if false h = refl

-- a request under another isn't under this one
not_under : (n : ℕ) (ws : List Waiting) (m : Waiting) → AllByRecursion (λ (w : Waiting). w.request.number ≢ n) ws → HasParent ws m → is_under_number m.request.under n ≡ false
not_under n [] m apart h = absurd h
not_under n (w ∷ ws) m apart h = elim h [
  | inl u ↦ ap (λ p. is_under_number p n) u ∙ false_if (eqb w.request.number n) (λ e. apart.0 (eqb-true w.request.number n e))
  | inr k ↦ not_under n ws m apart.1 k
]

abbrev returned_under : ℕ → List Return → List Return
returned_under n rs = filter (λ (r : Return). is_under_number r.under n) rs

keep_if : (b : Bool) (r : Return) (rs ss : List Return) → b ≡ true → rs ≡ ss → cond b (r ∷ rs) rs ≡ r ∷ ss
keep_if true r rs ss b e = ap (λ qs. r ∷ qs) e
keep_if false r rs ss b e = absurd (cc)

drop_if : (b : Bool) (r : Return) (rs : List Return) → b ≡ false → rs ≡ [] → cond b (r ∷ rs) rs ≡ []
drop_if true r rs b e = absurd (cc)
drop_if false r rs b e = e

front_kept : (n : ℕ) (hs : List Handed) (ms : List Waiting) → AreHandedBy hs ms → AllByRecursion (IsUnder n) ms → returned_under n (map return_of hs) ≡ map return_of hs
front_kept n [] [] h u = refl
front_kept n [] (m ∷ ms) h u = absurd h
front_kept n (x ∷ hs) [] h u = absurd h
front_kept n (x ∷ hs) (m ∷ ms) h u =
    keep_if (is_under_number x.under n) (return_of x) (returned_under n (map return_of hs)) (map return_of hs)
    (ap (λ p. is_under_number p n) (h.0 ∙ u.0) ∙ eq-eqb n n refl) (front_kept n hs ms h.1 u.1)

back_none : (n : ℕ) (hs : List Handed) (ms : List Waiting) → AreHandedBy hs ms → AllByRecursion (λ (m : Waiting). is_under_number m.request.under n ≡ false) ms → returned_under n (map return_of hs) ≡ []
back_none n [] [] h u = refl
back_none n [] (m ∷ ms) h u = absurd h
back_none n (x ∷ hs) [] h u = absurd h
back_none n (x ∷ hs) (m ∷ ms) h u =
    drop_if (is_under_number x.under n) (return_of x) (returned_under n (map return_of hs))
    (ap (λ p. is_under_number p n) h.0 ∙ u.0) (back_none n hs ms h.1 u.1)

pub handed_front : (n : ℕ) (hs : List Handed) (ms : List Waiting) → AreHandedBy hs ms → AreHandedBy (take n hs) (take n ms)
handed_front zero hs ms h = tt
handed_front (suc n) [] [] h = tt
handed_front (suc n) [] (m ∷ ms) h = absurd h
handed_front (suc n) (x ∷ hs) [] h = absurd h
handed_front (suc n) (x ∷ hs) (m ∷ ms) h = (h.0, handed_front n hs ms h.1)

pub handed_back : (n : ℕ) (hs : List Handed) (ms : List Waiting) → AreHandedBy hs ms → AreHandedBy (drop n hs) (drop n ms)
handed_back zero hs ms h = h
handed_back (suc n) [] [] h = tt
handed_back (suc n) [] (m ∷ ms) h = absurd h
handed_back (suc n) (x ∷ hs) [] h = absurd h
handed_back (suc n) (x ∷ hs) (m ∷ ms) h = handed_back n hs ms h.1

others_under : (met : List Waiting) (root w : Waiting) (ws : List Waiting) → AreBehindChildren met (w ∷ ws) → met_after met (w ∷ ws) ≡ root ∷ []
    → AllByRecursion (λ (q : Waiting). q.request.number ≢ w.request.number) ws
    → AllByRecursion (λ (m : Waiting). is_under_number m.request.under w.request.number ≡ false) (drop w.unfinished met)
others_under met root w [] h alone apart =
    let none : drop w.unfinished met ≡ [] = cc in
    subst (AllByRecursion (λ (m : Waiting). is_under_number m.request.under w.request.number ≡ false)) (sym none) tt
others_under met root w (u ∷ us) h alone apart =
    all_weaker (HasParent (u ∷ us)) (λ (m : Waiting). is_under_number m.request.under w.request.number ≡ false) (drop w.unfinished met)
    (λ m k. not_under w.request.number (u ∷ us) m apart k) ((parents_come (w ∷ drop w.unfinished met) root u us h.1 alone).1)

-- what a request's children handed to it was handed on last
pub returned_last : (met : List Waiting) (root w : Waiting) (ws : List Waiting) (hs : List Handed) → AreBehindChildren met (w ∷ ws) → met_after met (w ∷ ws) ≡ root ∷ []
    → AllByRecursion (λ (q : Waiting). q.request.number ≢ w.request.number) ws → AreHandedBy hs met
    → returned_to (pending_of w) (map return_of hs) ≡ map return_of (take w.unfinished hs)
returned_last met root w ws hs h alone apart handed =
    let n : ℕ = w.request.number in
    let k : ℕ = w.unfinished in
    let front : returned_under n (map return_of (take k hs)) ≡ map return_of (take k hs) =
    front_kept n (take k hs) (take k met) (handed_front k hs met handed) (under_over w met h.0) in
    let back : returned_under n (map return_of (drop k hs)) ≡ [] =
    back_none n (drop k hs) (drop k met) (handed_back k hs met handed) (others_under met root w ws h alone apart) in
    ap (λ qs. returned_under n (map return_of qs)) (sym (take-append-drop k hs))
    ∙ ap (returned_under n) (map-append return_of (take k hs) (drop k hs))
    ∙ filter-append (λ (r : Return). is_under_number r.under n) (map return_of (take k hs)) (map return_of (drop k hs))
    ∙ ap (λ rs. rs ++ returned_under n (map return_of (drop k hs))) front
    ∙ ap (λ rs. map return_of (take k hs) ++ rs) back
    ∙ append-nil (map return_of (take k hs))
