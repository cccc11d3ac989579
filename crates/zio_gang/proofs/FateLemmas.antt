-- No request is lost in a run and none is added: what it had of each kind at the start it has at the end.
use Rattle.std.proofs.Common.{◌≡◌, ℕ, zero, suc, ◌+◌, ◌<◌, ◌≤◌, List, [], ◌∷◌, ◌++◌, map, Bool, true, false, ◌||◌, ◌==◌, cond, find, fold, Option, Some, None, ◌⊎◌, inl, inr, ⊎_elim, refl, sym, ap, subst, ◌∙◌, arith, zero-add, append_assoc, eqb-true, eq-eqb}
use Rattle.std.specs.List.{AllByRecursion, flat_map, list_any}
use Rattle.std.proofs.lemmas.List.{append-nil}
use Rattle.zio_types.specs.declared.error.Errno.{Errno}
use Rattle.zio_types.specs.declared.request.Bits.{Bits}
use Rattle.zio_types.specs.declared.request.Kind.{Kind}
use Rattle.zio_types.specs.Choices.{Choice}
use Rattle.zio_cksum.specs.Images.{Images}
use Rattle.zio_script.specs.declared.script.Item.{Item}
use Rattle.zio_script.specs.declared.script.Item.TheVariants.{Request as RequestLine, Go, Clear}
use Rattle.zio_script.specs.declared.script.Request.{Request}
use Rattle.zio_script.specs.Accepted.{AreBehindParents, AreRising, HasParentIn}
use Rattle.zio_script.specs.Requests.{kind_of}
use Rattle.zio_gang.specs.Attempts.{Attempt, Attempted, Child, Ended, Own, Pending, Return, Settled, Terms, attempt_each, attempt_one, closed_if, settle, settle_from, settled_by, settled_if}
use Rattle.zio_gang.specs.Rounds.{Admitted, Bound, Ran, add_left, admission, admit_with, admitted, answered_with, pending, pending_trees, put_before, put_if, settle_each, trees_of, with_request, with_requests}

-- ---- sums over lists

-- what is counted of all items
abbrev pub tally : {X : Type 0} → (X → ℕ) → List X → ℕ
tally f [] = 0
tally f (x ∷ xs) = f x + tally f xs

pub tally-append : {X : Type 0} (f : X → ℕ) (xs ys : List X) → tally f (xs ++ ys) ≡ tally f xs + tally f ys
tally-append f [] ys = omega arith
tally-append f (x ∷ xs) ys = omega (arith, tally-append f xs ys)

pub sum_flat : {X Y : Type 0} (f : Y → ℕ) (g : X → List Y) (xs : List X) → tally f (flat_map g xs) ≡ tally (λ x. tally f (g x)) xs
sum_flat f g [] = refl
sum_flat f g (x ∷ xs) = (tally-append f (g x) (flat_map g xs) ∙ ap (λ n. tally f (g x) + n) (sum_flat f g xs))

pub sum_map : {X Y : Type 0} (f : Y → ℕ) (g : X → Y) (xs : List X) → tally f (map g xs) ≡ tally (λ x. f (g x)) xs
sum_map f g [] = refl
sum_map f g (x ∷ xs) = ap (λ n. f (g x) + n) (sum_map f g xs)

-- ---- an attempt

-- by weight: what is counted of requests that ended, and of requests that haven't finished
abbrev pub of_ended : (Request → ℕ) → List Ended → ℕ
of_ended f es = tally (λ (e : Ended). f e.request) es

abbrev pub of_pending : (Request → ℕ) → List Pending → ℕ
of_pending f ps = tally (λ (p : Pending). f p.request) ps

abbrev pub of_trees : (Request → ℕ) → List (List Pending) → ℕ
of_trees f trees = tally (of_pending f) trees

one_sum : (f : Request → ℕ) (again : Bool) (p : Pending) (own : Own) (bits : Bits) (kept : List Child)
    → of_ended f (closed_if again p own bits kept).ended + of_pending f (closed_if again p own bits kept).again ≡ f p.request
one_sum f true p own bits kept = omega arith
one_sum f false p own bits kept = omega arith

each_sum : (f : Request → ℕ) (j : List Choice) (t : Terms) (attempt : ℕ) (tree : List Pending) (returns : List Return) (images : Images)
    → of_ended f (attempt_each j t attempt tree returns images).ended + of_pending f (attempt_each j t attempt tree returns images).again ≡ of_pending f tree
unfolding attempt_each
each_sum f j t attempt [] returns images = refl
each_sum f j t attempt (p ∷ tree) returns images =
    let one : Attempted = attempt_one j t attempt p returns images in
    let rest : Attempt = attempt_each j t attempt tree (one.return ∷ returns) one.images in
    let here : of_ended f one.ended + of_pending f one.again ≡ f p.request = one_sum f _ p _ _ _ in
    let there : of_ended f rest.ended + of_pending f rest.again ≡ of_pending f tree = each_sum f j t attempt tree (one.return ∷ returns) one.images in
    omega (arith, here, there, tally-append (λ (e : Ended). f e.request) one.ended rest.ended, tally-append (λ (q : Pending). f q.request) one.again rest.again)

settled_sum : (f : Request → ℕ) (now : Bool) (a : Attempt) (again : List Pending → Images → Settled)
    → of_ended f (again a.again a.images).ended + of_pending f (again a.again a.images).left ≡ of_pending f a.again
    → of_ended f (settled_if now a again).ended + of_pending f (settled_if now a again).left ≡ of_ended f a.ended + of_pending f a.again
settled_sum f true a again h =
    omega (arith, h, tally-append (λ (e : Ended). f e.request) a.ended (again a.again a.images).ended)
settled_sum f false a again h = refl

settle_sum : (f : Request → ℕ) (more : ℕ) (j : List Choice) (t : Terms) (attempt : ℕ) (tree : List Pending) (images : Images)
    → of_ended f (settle_from more j t attempt tree images).ended + of_pending f (settle_from more j t attempt tree images).left ≡ of_pending f tree
unfolding settle_from
settle_sum f zero j t attempt tree images = each_sum f j t attempt tree [] images
settle_sum f (suc more) j t attempt tree images =
    let a : Attempt = attempt_each j t attempt tree [] images in
    settled_sum f _ a (settle_from more j t (attempt + 1)) (settle_sum f more j t (attempt + 1) a.again a.images)
    ∙ each_sum f j t attempt tree [] images

left_sum : (f : Request → ℕ) (left : List Pending) (trees : List (List Pending)) → of_trees f (add_left left trees) ≡ of_pending f left + of_trees f trees
left_sum f [] trees = omega arith
left_sum f (p ∷ ps) trees = refl

pub trees_sum : (f : Request → ℕ) (j : List Choice) (t : Terms) (trees : List (List Pending)) (images : Images)
    → of_ended f (settle_each j t trees images).ended + of_trees f (settle_each j t trees images).left ≡ of_trees f trees
unfolding settle_each
trees_sum f j t [] images = refl
trees_sum f j t (tree ∷ trees) images =
    let s : Settled = settle j t tree images in
    let rest : Ran = settle_each j t trees s.images in
    omega (
      arith,
      settle_sum f 3 j t 0 tree images,
      trees_sum f j t trees s.images,
      left_sum f s.left rest.left,
      tally-append (λ (e : Ended). f e.request) s.ended rest.ended,
    )

-- ---- admission

answered_sum : (f : Request → ℕ) (e : Errno) (tree : List Request) → of_ended f (map (answered_with e) tree) ≡ tally f tree
answered_sum f e tree = sum_map (λ (x : Ended). f x.request) (answered_with e) tree

admit_sum : (f : Request → ℕ) (answer : Option Errno) (tree : List Request) (others : Admitted)
    → of_ended f (admit_with answer tree others).answered + tally (tally f) (admit_with answer tree others).trees
    ≡ tally f tree + (of_ended f others.answered + tally (tally f) others.trees)
admit_sum f (Some e) tree others =
    omega (arith, answered_sum f e tree, tally-append (λ (x : Ended). f x.request) (map (answered_with e) tree) others.answered)
admit_sum f None tree others = omega arith

pub admitted_sum : (f : Request → ℕ) (suspended : List (List Pending)) (bound : List ℕ → Bool) (trees : List (List Request))
    → of_ended f (admitted suspended bound trees).answered + tally (tally f) (admitted suspended bound trees).trees ≡ tally (tally f) trees
admitted_sum f suspended bound [] = refl
admitted_sum f suspended bound (tree ∷ trees) =
    let rest : Admitted = admitted suspended bound trees in
    omega (arith, admit_sum f (admission suspended bound tree) tree rest, admitted_sum f suspended bound trees)

pub pending_sum : (f : Request → ℕ) (bound : Bound) (birth : ℕ) (trees : List (List Request)) → of_trees f (pending_trees bound birth trees) ≡ tally (tally f) trees
pending_sum f bound birth [] = refl
pending_sum f bound birth (tree ∷ trees) =
    omega (arith, sum_map (λ (p : Pending). f p.request) (pending bound birth) tree, pending_sum f bound birth trees)

-- ---- the trees of a batch

-- how many of the requests have the number
abbrev numbered : ℕ → List Request → ℕ
numbered n tree = tally (λ (r : Request). cond (r.number == n) 1 0) tree

abbrev has_number : ℕ → List Request → Bool
has_number n tree = list_any (λ (r : Request). r.number == n) tree

number_step : (same : Bool) (n : ℕ) (tree : List Request) → ((has_number n tree ≡ true) × (1 ≤ numbered n tree)) ⊎ ((has_number n tree ≡ false) × (numbered n tree ≡ 0))
    → ((same || has_number n tree ≡ true) × (1 ≤ cond same 1 0 + numbered n tree)) ⊎ ((same || has_number n tree ≡ false) × (cond same 1 0 + numbered n tree ≡ 0))
number_step true n tree h = inl (refl, omega arith)
number_step false n tree h = ⊎_elim (λ yes. inl (yes.0, omega (arith, yes.1))) (λ no. inr (no.0, omega (arith, no.1))) h

-- one has the number, or none has
number_cases : (n : ℕ) (tree : List Request) → ((has_number n tree ≡ true) × (1 ≤ numbered n tree)) ⊎ ((has_number n tree ≡ false) × (numbered n tree ≡ 0))
number_cases n [] = inr (refl, refl)
number_cases n (r ∷ tree) = number_step (r.number == n) n tree (number_cases n tree)

put_step : (f : Request → ℕ) (same has : Bool) (r q : Request) (qs placed : List Request) → tally f placed ≡ tally f qs + cond has (f r) 0
    → tally f (put_if same r q qs placed) ≡ (f q + tally f qs) + cond (same || has) (f r) 0
put_step f true has r q qs placed h = omega arith
put_step f false has r q qs placed h = omega (arith, h)

put_sum : (f : Request → ℕ) (n : ℕ) (r : Request) (tree : List Request) → tally f (put_before n r tree) ≡ tally f tree + cond (has_number n tree) (f r) 0
put_sum f n r [] = refl
put_sum f n r (q ∷ qs) = put_step f (q.number == n) (has_number n qs) r q qs (put_before n r qs) (put_sum f n r qs)

-- what the trees get of which one gets x
abbrev gets : ℕ → ℕ → List (List Request) → ℕ
gets x n trees = tally (λ t. cond (has_number n t) x 0) trees

gets_not : (x n : ℕ) (t : List Request) (trees : List (List Request)) → has_number n t ≡ false → gets x n (t ∷ trees) ≡ gets x n trees
gets_not x n t trees e = ap (λ (b : Bool). cond b x 0 + gets x n trees) e ∙ zero-add (gets x n trees)

gets_it : (x n : ℕ) (t : List Request) (trees : List (List Request)) → has_number n t ≡ true → gets x n trees ≡ 0 → gets x n (t ∷ trees) ≡ x
gets_it x n t trees e none = ap (λ (b : Bool). cond b x 0 + gets x n trees) e ∙ omega (arith, none)

-- the one tree that has the number gets the request
none_gets : (x n : ℕ) (trees : List (List Request)) → tally (numbered n) trees ≡ 0 → tally (λ t. cond (has_number n t) x 0) trees ≡ 0
none_gets x n [] h = refl
none_gets x n (t ∷ trees) h =
    ⊎_elim (λ yes. absurd (omega (arith, yes.1, h)))
    (λ no. gets_not x n t trees no.0 ∙ none_gets x n trees (omega (arith, no.1, h)))
    (number_cases n t)

one_gets : (x n : ℕ) (trees : List (List Request)) → tally (numbered n) trees ≡ 1 → tally (λ t. cond (has_number n t) x 0) trees ≡ x
one_gets x n [] h = absurd (omega (arith, h))
one_gets x n (t ∷ trees) h =
    ⊎_elim
    (λ yes. gets_it x n t trees yes.0 (none_gets x n trees (omega (arith, yes.1, h))))
    (λ no. gets_not x n t trees no.0 ∙ one_gets x n trees (omega (arith, no.1, h)))
    (number_cases n t)

puts_sum : (f : Request → ℕ) (n : ℕ) (r : Request) (trees : List (List Request))
    → tally (tally f) (map (put_before n r) trees) ≡ tally (tally f) trees + tally (λ t. cond (has_number n t) (f r) 0) trees
puts_sum f n r [] = refl
puts_sum f n r (t ∷ trees) = omega (arith, put_sum f n r t, puts_sum f n r trees)

pub rising_front : (xs ys : List Request) → AreRising (xs ++ ys) → AreRising xs
rising_front [] ys h = tt
rising_front (x ∷ xs) ys h = (all_front_of (λ (q : Request). x.number < q.number) xs ys h.0, rising_front xs ys h.1)
  where
    all_front_of : (P : Request → Type 0) (us vs : List Request) → AllByRecursion P (us ++ vs) → AllByRecursion P us
    all_front_of P [] vs all = tt
    all_front_of P (u ∷ us) vs all = (all.0, all_front_of P us vs all.1)

pub rising_back : (xs ys : List Request) → AreRising (xs ++ ys) → AreRising ys
rising_back [] ys h = h
rising_back (x ∷ xs) ys h = rising_back xs ys h.1

above_step : (b : Bool) (n : ℕ) (q : Request) (xs : List Request) → (q.number == n) ≡ b → n < q.number → numbered n xs ≡ 0 → cond b 1 0 + numbered n xs ≡ 0
above_step true n q xs e above none = absurd (let same : q.number ≡ n = eqb-true q.number n e in omega arith)
above_step false n q xs e above none = omega (arith, none)

above_none : (n : ℕ) (xs : List Request) → AllByRecursion (λ (q : Request). n < q.number) xs → numbered n xs ≡ 0
above_none n [] h = refl
above_none n (q ∷ xs) h = above_step (q.number == n) n q xs refl h.0 (above_none n xs h.1)

once_step : (b : Bool) (n : ℕ) (x : Request) (xs : List Request) → (x.number == n) ≡ b → AllByRecursion (λ (q : Request). x.number < q.number) xs → numbered n xs ≤ 1
    → cond b 1 0 + numbered n xs ≤ 1
once_step true n x xs e above most =
    let same : x.number ≡ n = eqb-true x.number n e in
    let none : numbered n xs ≡ 0 = above_none n xs (subst (λ (k : ℕ). AllByRecursion (λ (q : Request). k < q.number) xs) same above) in
    omega (arith, none)
once_step false n x xs e above most = omega (arith, most)

-- of rising numbers none stands twice
rising_once : (n : ℕ) (xs : List Request) → AreRising xs → numbered n xs ≤ 1
rising_once n [] h = omega arith
rising_once n (x ∷ xs) h = once_step (x.number == n) n x xs refl h.0 (rising_once n xs h.1)

found_step : (b : Bool) (n : ℕ) (x : Request) (xs : List Request) (p : Request) → cond b (Some x) (find (λ (r : Request). r.number == n) xs) ≡ Some p
    → (find (λ (r : Request). r.number == n) xs ≡ Some p → 1 ≤ numbered n xs) → 1 ≤ cond b 1 0 + numbered n xs
found_step true n x xs p e later = omega arith
found_step false n x xs p e later = let more : 1 ≤ numbered n xs = later e in omega arith

found_number : (n : ℕ) (xs : List Request) (p : Request) → find (λ (r : Request). r.number == n) xs ≡ Some p → 1 ≤ numbered n xs
found_number n [] p e = absurd (let f = e in cc)
found_number n (x ∷ xs) p e = found_step (x.number == n) n x xs p e (found_number n xs p)

-- the trees hold these requests
abbrev Hold : List (List Request) → List Request → Type 0
Hold trees requests = (f : Request → ℕ) → tally (tally f) trees ≡ tally f requests

request_held : (under : Option ℕ) (r : Request) (before : List Request) (trees : List (List Request)) → Hold trees before
    → HasParentIn before (kind_of r.work) under → AreRising before → Hold (with_request under r trees) (before ++ r ∷ [])
request_held None r before trees h parent rising f =
    omega (arith, h f, tally-append (tally f) trees ((r ∷ []) ∷ []), tally-append f before (r ∷ []))
request_held (Some n) r before trees h parent rising f =
    let some : 1 ≤ numbered n before = found_number n before parent.parent parent.found in
    let once : numbered n before ≤ 1 = rising_once n before rising in
    let one : tally (numbered n) trees ≡ 1 = omega (arith, h (λ (q : Request). cond (q.number == n) 1 0)) in
    omega (arith, h f, puts_sum f n r trees, one_gets (f r) n trees one, tally-append f before (r ∷ []))

requests_held : (requests before : List Request) (trees : List (List Request)) → Hold trees before → AreBehindParents before requests → AreRising (before ++ requests)
    → Hold (with_requests requests trees) (before ++ requests)
requests_held [] before trees h parents rising = subst (Hold trees) (sym (append-nil before)) h
requests_held (r ∷ requests) before trees h parents rising =
    let next : Hold (with_request r.under r trees) (before ++ r ∷ []) = request_held r.under r before trees h parents.0 (rising_front before (r ∷ requests) rising) in
    subst (Hold (with_requests requests (with_request r.under r trees))) (append_assoc before (r ∷ []) requests)
    (requests_held requests (before ++ r ∷ []) (with_request r.under r trees) next parents.1
    (subst AreRising (sym (append_assoc before (r ∷ []) requests)) rising))

-- each request of a batch stands in one of its trees, once
pub batch_held : (batch : List Request) → AreBehindParents [] batch → AreRising batch → (f : Request → ℕ) → tally (tally f) (trees_of batch) ≡ tally f batch
batch_held batch parents rising = requests_held batch [] [] (λ f. refl) parents rising
