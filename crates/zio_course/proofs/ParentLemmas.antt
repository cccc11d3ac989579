-- A request that goes again has its parent go again.
use Rattle.std.proofs.Common.{◌≡◌, ℕ, zero, suc, ◌+◌, List, [], ◌∷◌, ◌++◌, map, filter, Bool, true, false, ◌||◌, ◌&&◌, ◌==◌, cond, Option, Some, None, eqb, eqb-true, eq-eqb, refl, sym, ap, ◌∙◌, subst}
use Rattle.std.specs.List.{AllByRecursion, list_any}
use Rattle.zio_types.specs.declared.error.Errno.{Errno}
use Rattle.zio_types.specs.declared.request.Bits.{Bits}
use Rattle.zio_types.specs.declared.request.Kind.{Kind}
use Rattle.zio_types.specs.Choices.{Choice}
use Rattle.zio_script.specs.declared.script.Failmode.{Failmode}
use Rattle.zio_script.specs.declared.script.Request.{Request}
use Rattle.zio_script.specs.Requests.{is_under_number, kind_of}
use Rattle.zio_cksum.specs.Images.{Images}
use Rattle.zio_gang.specs.Attempts.{Attempt, Attempted, Child, Own, Pending, Return, Settled, Terms, all_bits, attempt_each, attempt_one, bits_of, children_of, closed_if, finished_of, has_bits, insert_children, joined_bits, kind_bits, may_fail, own_work, returned_to, settle, settle_from, settled_if, suspend_unless}
use Rattle.zio_gang.specs.Rounds.{Bound, add_left, pending, pending_trees, put_before, put_if, settle_each, trees_of, with_request, with_requests}
use Rattle.zio_course.specs.Parents.{AreParented, has_numbered}

-- ---- bits

or_true : (b : Bool) → (b || true) ≡ true
or_true true = refl
or_true false = refl

joined_right : (a b : Bits) → has_bits b ≡ true → has_bits (joined_bits a b) ≡ true
joined_right a b h = go a.now a.suspend b.now b.suspend h
  where
    go : (an as1 bn bs : Bool) → (bn || bs) ≡ true → ((an || bn) || (as1 || bs)) ≡ true
    go true as1 bn bs e = refl
    go false true true bs e = refl
    go false true false bs e = refl
    go false false bn bs e = e

joined_left : (a b : Bits) → has_bits a ≡ true → has_bits (joined_bits a b) ≡ true
joined_left a b h = go a.now a.suspend b.now b.suspend h
  where
    go : (an as1 bn bs : Bool) → (an || as1) ≡ true → ((an || bn) || (as1 || bs)) ≡ true
    go true as1 bn bs e = refl
    go false true true bs e = refl
    go false true false bs e = refl
    go false false bn bs e = absurd (let no_bit = e in cc)

suspend_keeps : (may : Bool) (bits : Bits) → has_bits bits ≡ true → has_bits (suspend_unless may bits) ≡ true
suspend_keeps true bits h = h
suspend_keeps false bits h = or_true bits.now

all_keeps : (kind : Kind) (error : Option Errno) (canfail : Bool) (mode : Failmode) (children : Bits) → has_bits children ≡ true → has_bits (all_bits kind error canfail mode children) ≡ true
all_keeps kind None canfail mode children h = h
all_keeps kind (Some e) canfail mode children h =
    let bits : Bits = joined_bits (kind_bits kind e canfail mode) children in
    suspend_keeps (may_fail kind canfail || has_bits bits) bits (joined_right (kind_bits kind e canfail mode) children h)

-- ---- what was handed on

-- one that goes again stands under the number
abbrev Calls : ℕ → List Return → Bool
Calls n returns = list_any (λ (r : Return). is_under_number r.under n && has_bits r.bits) returns

calls_bits : (n : ℕ) (returns : List Return) → Calls n returns ≡ true → has_bits (bits_of (filter (λ (r : Return). is_under_number r.under n) returns)) ≡ true
calls_bits n [] h = absurd (let nobody = h in cc)
calls_bits n (r ∷ rs) h = go (is_under_number r.under n) refl (has_bits r.bits) refl h (calls_bits n rs)
  where
    go : (a : Bool) → is_under_number r.under n ≡ a → (b : Bool) → has_bits r.bits ≡ b → ((a && b) || Calls n rs) ≡ true
        → (Calls n rs ≡ true → has_bits (bits_of (filter (λ (x : Return). is_under_number x.under n) rs)) ≡ true)
        → has_bits (bits_of (cond a (r ∷ filter (λ (x : Return). is_under_number x.under n) rs) (filter (λ (x : Return). is_under_number x.under n) rs))) ≡ true
    go true ea true eb k later = joined_left r.bits (bits_of (filter (λ (x : Return). is_under_number x.under n) rs)) eb
    go true ea false eb k later = joined_right r.bits (bits_of (filter (λ (x : Return). is_under_number x.under n) rs)) (later k)
    go false ea b eb k later = later k

-- what goes again of one request, by whether it does
abbrev AgainIf : Bool → Pending → List Pending → Type 0
AgainIf true p again = (q : Pending) × (q.request ≡ p.request) × (again ≡ q ∷ [])
AgainIf false p again = again ≡ []

closed_again : (b : Bool) (p : Pending) (own : Own) (bits : Bits) (kept : List Child) → AgainIf b p (closed_if b p own bits kept).again
closed_again true p own bits kept = (record p { kept = kept }, refl, refl)
closed_again false p own bits kept = refl

closed_return : (b : Bool) (p : Pending) (own : Own) (bits : Bits) (kept : List Child) → has_bits bits ≡ b
    → ((closed_if b p own bits kept).return.under ≡ p.request.under) × (has_bits (closed_if b p own bits kept).return.bits ≡ b)
closed_return true p own bits kept e = (refl, e)
closed_return false p own bits kept e = (refl, refl)

-- whether a request goes again in an attempt
module _ (j : List Choice) (t : Terms) (attempt : ℕ) where
  own_of : Pending → List Return → Images → Own
  own_of p returns images = own_work j t attempt p p.request.work (map (λ (c : Child). c.pointer) (insert_children (children_of (returned_to p returns)) p.kept)) images

  goes : Pending → List Return → Images → Bool
  goes p returns images = has_bits (all_bits (kind_of p.request.work) (own_of p returns images).error p.request.canfail t.failmode (bits_of (returned_to p returns)))

  one_again : (p : Pending) (returns : List Return) (images : Images) → AgainIf (goes p returns images) p (attempt_one j t attempt p returns images).again
  unfolding goes own_of
  one_again p returns images = closed_again _ p _ _ _

  one_return : (p : Pending) (returns : List Return) (images : Images) → ((attempt_one j t attempt p returns images).return.under ≡ p.request.under)
      × (has_bits (attempt_one j t attempt p returns images).return.bits ≡ goes p returns images)
  unfolding goes own_of
  one_return p returns images =
      closed_return (goes p returns images) p (own_of p returns images)
      (all_bits (kind_of p.request.work) (own_of p returns images).error p.request.canfail t.failmode (bits_of (returned_to p returns)))
      (insert_children (children_of (finished_of (returned_to p returns))) p.kept) refl

  -- one that is called goes again
  called_goes : (p : Pending) (returns : List Return) (images : Images) → Calls p.request.number returns ≡ true → goes p returns images ≡ true
  unfolding goes own_of
  called_goes p returns images h = all_keeps (kind_of p.request.work) _ p.request.canfail t.failmode (bits_of (returned_to p returns)) (calls_bits p.request.number returns h)

  numbered_left : (n : ℕ) (xs ys : List Pending) → has_numbered n xs ≡ true → has_numbered n (xs ++ ys) ≡ true
  numbered_left n [] ys h = absurd (let nobody = h in cc)
  numbered_left n (x ∷ xs) ys h = go (eqb x.request.number n) h (numbered_left n xs ys)
    where
      go : (b : Bool) → (b || has_numbered n xs) ≡ true → (has_numbered n xs ≡ true → has_numbered n (xs ++ ys) ≡ true) → (b || has_numbered n (xs ++ ys)) ≡ true
      go true e later = refl
      go false e later = later e

  numbered_right : (n : ℕ) (xs ys : List Pending) → has_numbered n ys ≡ true → has_numbered n (xs ++ ys) ≡ true
  numbered_right n [] ys h = h
  numbered_right n (x ∷ xs) ys h = ap (λ (b : Bool). (eqb x.request.number n) || b) (numbered_right n xs ys h) ∙ or_true (eqb x.request.number n)

  again_number : (b : Bool) (p : Pending) (again : List Pending) (n : ℕ) → AgainIf b p again → b ≡ true → eqb p.request.number n ≡ true → has_numbered n again ≡ true
  again_number true p again n h is same =
      subst (λ (xs : List Pending). has_numbered n xs ≡ true) (sym h.2) (ap (λ (b : Bool). b || false) (ap (λ (r : Request). eqb r.number n) h.1 ∙ same))
  again_number false p again n h is same = absurd (let differ = is in cc)

  -- a request that is called stays called for, and goes again when it comes
  called_again : (n : ℕ) (ps : List Pending) (returns : List Return) (images : Images) → Calls n returns ≡ true → has_numbered n ps ≡ true
      → has_numbered n (attempt_each j t attempt ps returns images).again ≡ true
  unfolding attempt_each
  called_again n [] returns images calls h = absurd (let nobody = h in cc)
  called_again n (p ∷ ps) returns images calls h =
      let one : Attempted = attempt_one j t attempt p returns images in
      let rest : Attempt = attempt_each j t attempt ps (one.return ∷ returns) one.images in
      let more : Calls n (one.return ∷ returns) ≡ true = ap (λ (b : Bool). (is_under_number one.return.under n && has_bits one.return.bits) || b) calls ∙ or_true (is_under_number one.return.under n && has_bits one.return.bits) in
      go (eqb p.request.number n) refl h (λ k. numbered_right n one.again rest.again (called_again n ps (one.return ∷ returns) one.images more k))
    where
      go : (b : Bool) → eqb p.request.number n ≡ b → (b || has_numbered n ps) ≡ true
          → (has_numbered n ps ≡ true → has_numbered n ((attempt_one j t attempt p returns images).again
          ++ (attempt_each j t attempt ps ((attempt_one j t attempt p returns images).return ∷ returns) (attempt_one j t attempt p returns images).images).again) ≡ true)
          → has_numbered n ((attempt_one j t attempt p returns images).again
          ++ (attempt_each j t attempt ps ((attempt_one j t attempt p returns images).return ∷ returns) (attempt_one j t attempt p returns images).images).again) ≡ true
      go true e k later =
          numbered_left n (attempt_one j t attempt p returns images).again _
          (again_number (goes p returns images) p (attempt_one j t attempt p returns images).again n (one_again p returns images)
          (called_goes p returns images (subst (λ (m : ℕ). Calls m returns ≡ true) (sym (eqb-true p.request.number n e)) calls)) e)
      go false e k later = later k

  parented_if : (b : Bool) (p : Pending) (again rest : List Pending) → AgainIf b p again → ((n : ℕ) → b ≡ true → p.request.under ≡ Some n → has_numbered n rest ≡ true)
      → AreParented rest → AreParented (again ++ rest)
  parented_if true p again rest h parent later =
      subst (λ (xs : List Pending). AreParented (xs ++ rest)) (sym h.2)
      ((λ n under. parent n refl (ap (λ (r : Request). r.under) (sym h.1) ∙ under)), later)
  parented_if false p again rest h parent later = subst (λ (xs : List Pending). AreParented (xs ++ rest)) (sym h) later

  each_parented : (ps : List Pending) (returns : List Return) (images : Images) → AreParented ps → AreParented (attempt_each j t attempt ps returns images).again
  unfolding attempt_each
  each_parented [] returns images h = tt
  each_parented (p ∷ ps) returns images h =
      let one : Attempted = attempt_one j t attempt p returns images in
      parented_if (goes p returns images) p one.again (attempt_each j t attempt ps (one.return ∷ returns) one.images).again (one_again p returns images)
      (λ n again under. called_again n ps (one.return ∷ returns) one.images (calls_first n again under) (h.0 n under))
      (each_parented ps (one.return ∷ returns) one.images h.1)
    where
      calls_first : (n : ℕ) → goes p returns images ≡ true → p.request.under ≡ Some n → Calls n ((attempt_one j t attempt p returns images).return ∷ returns) ≡ true
      calls_first n again under =
          let r = one_return p returns images in
          ap (λ (b : Bool). (b && has_bits (attempt_one j t attempt p returns images).return.bits) || Calls n returns)
          (ap (λ (u : Option ℕ). is_under_number u n) (r.0 ∙ under) ∙ eq-eqb n n refl)
          ∙ ap (λ (b : Bool). b || Calls n returns) (r.1 ∙ again)

-- ---- a round

settled_parented : (now : Bool) (a : Attempt) (again : List Pending → Images → Settled) → AreParented a.again → (AreParented a.again → AreParented (again a.again a.images).left)
    → AreParented (settled_if now a again).left
settled_parented true a again h later = later h
settled_parented false a again h later = h

settle_parented : (more : ℕ) (j : List Choice) (t : Terms) (attempt : ℕ) (tree : List Pending) (images : Images) → AreParented tree → AreParented (settle_from more j t attempt tree images).left
unfolding settle_from
settle_parented zero j t attempt tree images h = each_parented j t attempt tree [] images h
settle_parented (suc more) j t attempt tree images h =
    settled_parented _ (attempt_each j t attempt tree [] images) (settle_from more j t (attempt + 1)) (each_parented j t attempt tree [] images h)
    (λ k. settle_parented more j t (attempt + 1) _ _ k)

left_parented : (left : List Pending) (trees : List (List Pending)) → AreParented left → AllByRecursion AreParented trees → AllByRecursion AreParented (add_left left trees)
left_parented [] trees h k = k
left_parented (p ∷ ps) trees h k = (h, k)

-- A request that a round leaves has its parent left.
pub ran_parented : (j : List Choice) (t : Terms) (trees : List (List Pending)) (images : Images) → AllByRecursion AreParented trees → AllByRecursion AreParented (settle_each j t trees images).left
unfolding settle_each
ran_parented j t [] images h = tt
ran_parented j t (tree ∷ trees) images h =
    left_parented (settle j t tree images).left (settle_each j t trees (settle j t tree images).images).left
    (settle_parented 3 j t 0 tree images h.0) (ran_parented j t trees (settle j t tree images).images h.1)

-- ---- the trees of a batch

abbrev has_request : ℕ → List Request → Bool
has_request n rs = list_any (λ (r : Request). r.number == n) rs

abbrev ParentsBehind : List Request → Type 0
ParentsBehind [] = Unit {0}
ParentsBehind (r ∷ rs) = ((n : ℕ) → r.under ≡ Some n → has_request n rs ≡ true) × ParentsBehind rs

keeps_if : (here : Bool) (parent n : ℕ) (r q : Request) (qs : List Request) → ((eqb q.number n) || has_request n qs) ≡ true
    → (has_request n qs ≡ true → has_request n (put_before parent r qs) ≡ true) → has_request n (put_if here r q qs (put_before parent r qs)) ≡ true
keeps_if true parent n r q qs k later = ap (λ (b : Bool). (eqb r.number n) || b) k ∙ or_true (eqb r.number n)
keeps_if false parent n r q qs k later = go (eqb q.number n) k
  where
    go : (b : Bool) → (b || has_request n qs) ≡ true → (b || has_request n (put_before parent r qs)) ≡ true
    go true e = refl
    go false e = later e

put_keeps : (parent n : ℕ) (r : Request) (rs : List Request) → has_request n rs ≡ true → has_request n (put_before parent r rs) ≡ true
put_keeps parent n r [] h = absurd (let nobody = h in cc)
put_keeps parent n r (q ∷ qs) h = keeps_if (eqb q.number parent) parent n r q qs h (put_keeps parent n r qs)

some_number : (a b : ℕ) → Some a ≡ Some b → a ≡ b
some_number a b e = cc

behind_if : (here : Bool) (parent : ℕ) (r q : Request) (qs : List Request) → eqb q.number parent ≡ here → r.under ≡ Some parent → ParentsBehind (q ∷ qs)
    → ParentsBehind (put_before parent r qs) → ParentsBehind (put_if here r q qs (put_before parent r qs))
behind_if true parent r q qs is under h later =
    ((λ n u. ap (λ (b : Bool). b || has_request n qs) (ap (eqb q.number) (sym (some_number parent n (sym under ∙ u))) ∙ is)), h)
behind_if false parent r q qs is under h later = ((λ n u. put_keeps parent n r qs (h.0 n u)), later)

put_behind : (parent : ℕ) (r : Request) (rs : List Request) → r.under ≡ Some parent → ParentsBehind rs → ParentsBehind (put_before parent r rs)
put_behind parent r [] under h = tt
put_behind parent r (q ∷ qs) under h = behind_if (eqb q.number parent) parent r q qs refl under h (put_behind parent r qs under h.1)

puts_behind : (parent : ℕ) (r : Request) (trees : List (List Request)) → r.under ≡ Some parent → AllByRecursion ParentsBehind trees → AllByRecursion ParentsBehind (map (put_before parent r) trees)
puts_behind parent r [] under h = tt
puts_behind parent r (tree ∷ trees) under h = (put_behind parent r tree under h.0, puts_behind parent r trees under h.1)

root_behind : (r : Request) (trees : List (List Request)) → r.under ≡ None → AllByRecursion ParentsBehind trees → AllByRecursion ParentsBehind (trees ++ (r ∷ []) ∷ [])
root_behind r [] under h = (((λ n u. absurd (let differ = sym under ∙ u in cc)), tt), tt)
root_behind r (tree ∷ trees) under h = (h.0, root_behind r trees under h.1)

with_behind : (under : Option ℕ) (r : Request) (trees : List (List Request)) → r.under ≡ under → AllByRecursion ParentsBehind trees → AllByRecursion ParentsBehind (with_request under r trees)
with_behind None r trees is h = root_behind r trees is h
with_behind (Some parent) r trees is h = puts_behind parent r trees is h

all_behind : (rs : List Request) (trees : List (List Request)) → AllByRecursion ParentsBehind trees → AllByRecursion ParentsBehind (with_requests rs trees)
all_behind [] trees h = h
all_behind (r ∷ rs) trees h = all_behind rs (with_request r.under r trees) (with_behind r.under r trees refl h)

pending_numbered : (n : ℕ) (names : Bound) (birth : ℕ) (rs : List Request) → has_numbered n (map (pending names birth) rs) ≡ has_request n rs
pending_numbered n names birth [] = refl
pending_numbered n names birth (r ∷ rs) = ap (λ (b : Bool). (eqb r.number n) || b) (pending_numbered n names birth rs)

tree_parented : (names : Bound) (birth : ℕ) (rs : List Request) → ParentsBehind rs → AreParented (map (pending names birth) rs)
tree_parented names birth [] h = tt
tree_parented names birth (r ∷ rs) h = ((λ n u. pending_numbered n names birth rs ∙ h.0 n u), tree_parented names birth rs h.1)

trees_parented : (names : Bound) (birth : ℕ) (trees : List (List Request)) → AllByRecursion ParentsBehind trees → AllByRecursion AreParented (pending_trees names birth trees)
trees_parented names birth [] h = tt
trees_parented names birth (tree ∷ trees) h = (tree_parented names birth tree h.0, trees_parented names birth trees h.1)

-- In the trees of a batch each request comes before its parent.
pub batch_parented : (names : Bound) (birth : ℕ) (requests : List Request) → AllByRecursion AreParented (pending_trees names birth (trees_of requests))
batch_parented names birth requests = trees_parented names birth (trees_of requests) (all_behind requests [] tt)
