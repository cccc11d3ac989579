-- What may not fail goes again with an error of its own, so it ends without one.
use Rattle.std.proofs.Common.{◌≡◌, ℕ, zero, suc, ◌+◌, List, [], ◌∷◌, map, filter, Bool, true, false, ◌||◌, not, nat_le, Option, Some, None, refl, sym, ap, ◌∙◌}
use Rattle.std.specs.List.{AllByRecursion}
use Rattle.zio_types.specs.declared.error.Errno.{Errno}
use Rattle.zio_types.specs.declared.request.Bits.{Bits}
use Rattle.zio_types.specs.declared.request.Kind.{Kind}
use Rattle.zio_types.specs.declared.request.Kind.TheVariants.{Null, Read, Write, Free, Claim}
use Rattle.zio_types.specs.Choices.{Choice}
use Rattle.zio_types.specs.Errors.{worst_error, worst_of}
use Rattle.zio_script.specs.declared.script.Failmode.{Failmode}
use Rattle.zio_script.specs.declared.script.Request.{Request}
use Rattle.zio_script.specs.Requests.{is_under_number, kind_of}
use Rattle.zio_script.specs.Whys.{is_claim}
use Rattle.zio_cksum.specs.Images.{Images}
use Rattle.zio_cksum.proofs.AllLemmas.{all_append, all_filter, all_map, all_weaker}
use Rattle.zio_gang.specs.Attempts.{Attempt, Attempted, Child, Ended, Own, Pending, Return, Settled, Terms, all_bits, attempt_each, attempt_one, attempt_tree, bits_of, children_of, closed_if, finished_of, has_bits, insert_children, joined_bits, judged_own, kind_bits, may_fail, now_alone, own_work, reexecutions_max, returned_to, root_bits, settle, settle_from, settled_if, suspend_unless}
use Rattle.zio_gang.specs.ByNumber.{insert_by, insert_if}
use Rattle.zio_gang.specs.Rounds.{Bound, Ran, add_left, pending, pending_trees, settle_each}
use Rattle.zio_heal.specs.Discipline.{AreUnfailing, EndWithoutError, IsUnfailing, MayNotFail}
use Rattle.zio_heal.specs.Healed.{IsHealedRequest}

-- ---- bits

-- what has no bits may fail, or had bits before
unless_quiet : (fine : Bool) (bits : Bits) → has_bits (suspend_unless fine bits) ≡ false → (fine ≡ true) × (has_bits bits ≡ false)
unless_quiet true bits h = (refl, h)
unless_quiet false bits h = absurd (or_true bits.now h)
  where
    or_true : (a : Bool) → (a || true) ≡ false → ⊥
    or_true true h = cc
    or_true false h = cc

-- without bits there is no error of its own
own_none : (kind : Kind) (error : Option Errno) (canfail : Bool) (mode : Failmode) (children : Bits) → may_fail kind canfail ≡ false → has_bits (all_bits kind error canfail mode children) ≡ false → error ≡ None
own_none kind None canfail mode children may h = refl
own_none kind (Some e) canfail mode children may h =
    let bits : Bits = joined_bits (kind_bits kind e canfail mode) children in
    let parts = unless_quiet (may_fail kind canfail || has_bits bits) bits h in
    let no : (may_fail kind canfail || has_bits bits) ≡ false = ap (λ (x : Bool). x || has_bits bits) may ∙ parts.1 in
    absurd (let is : true ≡ false = sym parts.0 ∙ no in cc)

-- ---- children

-- a child without error
abbrev NoError : Child → Type 0
NoError c = c.error ≡ None

inserted_if : (P : Child → Type 0) (b : Bool) (x y : Child) (ys inserted : List Child) → P x → AllByRecursion P (y ∷ ys) → AllByRecursion P inserted → AllByRecursion P (insert_if b x y ys inserted)
inserted_if P true x y ys inserted h hs rest = (h, hs)
inserted_if P false x y ys inserted h hs rest = (hs.0, rest)

all_inserted : (P : Child → Type 0) (x : Child) (ys : List Child) → P x → AllByRecursion P ys → AllByRecursion P (insert_by (λ (c : Child). c.number) x ys)
all_inserted P x [] h hs = (h, tt)
all_inserted P x (y ∷ ys) h hs =
    inserted_if P (nat_le x.number y.number) x y ys (insert_by (λ (c : Child). c.number) x ys) h hs (all_inserted P x ys h hs.1)

pub all_merged : (P : Child → Type 0) (xs ys : List Child) → AllByRecursion P xs → AllByRecursion P ys → AllByRecursion P (insert_children xs ys)
all_merged P [] ys hx hy = hy
all_merged P (x ∷ xs) ys hx hy = all_inserted P x (insert_children xs ys) hx.0 (all_merged P xs ys hx.1 hy)

-- children without error have no worst error
worst_none : (cs : List Child) → AllByRecursion NoError cs → worst_of (map (λ (c : Child). c.error) cs) ≡ None
worst_none [] h = refl
worst_none (c ∷ cs) h =
    ap (λ (e : Option Errno). worst_error e (worst_of (map (λ (x : Child). x.error) cs))) h.0
    ∙ ap (worst_error None) (worst_none cs h.1)

-- ---- one request

-- what was handed on has no error
abbrev NoErrors : List Return → Type 0
NoErrors returns = AllByRecursion (λ (r : Return). NoError r.child) returns

-- a request that was attempted hands on no error, and ends without one or goes again as it should
record IsFine (one : Attempted) : Type 0 where
  pub handed : NoError one.return.child
  pub ended : EndWithoutError one.ended
  pub again : AllByRecursion IsUnfailing one.again

closed_fine : (b : Bool) (p : Pending) (own : Own) (bits : Bits) (kept : List Child) → MayNotFail p.request → (b ≡ false → own.error ≡ None) → AllByRecursion NoError kept → IsFine (closed_if b p own bits kept)
closed_fine true p own bits kept must none fine = record {
  handed = refl;
  ended = tt;
  again = (record { must = must; kept = fine }, tt);
}
closed_fine false p own bits kept must none fine =
    let e : worst_error own.error (worst_of (map (λ (c : Child). c.error) kept)) ≡ None =
    ap (λ (x : Option Errno). worst_error x (worst_of (map (λ (c : Child). c.error) kept))) (none refl)
    ∙ ap (worst_error None) (worst_none kept fine) in
    record { handed = e; ended = (e, tt); again = tt }

filtered : {X : Type 0} (P : X → Type 0) (test : X → Bool) (xs : List X) → AllByRecursion P xs → AllByRecursion P (filter test xs)
filtered P test xs h = all_filter P test xs (all_weaker P (λ x. test x ≡ true → P x) xs (λ x one is. one) h)

judged_fine : (t : Terms) (p : Pending) (returns : List Return) (own : Own) → IsUnfailing p → NoErrors returns → IsFine (judged_own t p returns own)
judged_fine t p returns own h none =
    let bits : Bits = all_bits (kind_of p.request.work) own.error p.request.canfail t.failmode (bits_of returns) in
    let done : NoErrors (finished_of returns) = filtered (λ (r : Return). NoError r.child) (λ (r : Return). not (has_bits r.bits)) returns none in
    let new : AllByRecursion NoError (children_of (finished_of returns)) = all_map NoError (λ (r : Return). r.child) (finished_of returns) done in
    closed_fine (has_bits bits) p own bits (insert_children (children_of (finished_of returns)) p.kept) h.must
    (own_none (kind_of p.request.work) own.error p.request.canfail t.failmode (bits_of returns) h.must)
    (all_merged NoError (children_of (finished_of returns)) p.kept new h.kept)

one_fine : (j : List Choice) (t : Terms) (attempt : ℕ) (p : Pending) (returns : List Return) (images : Images) → IsUnfailing p → NoErrors returns → IsFine (attempt_one j t attempt p returns images)
one_fine j t attempt p returns images h none =
    let own_returns : List Return = returned_to p returns in
    judged_fine t p own_returns
    (own_work j t attempt p p.request.work (map (λ (c : Child). c.pointer) (insert_children (children_of own_returns) p.kept)) images) h
    (filtered (λ (r : Return). NoError r.child) (λ (r : Return). is_under_number r.under p.request.number) returns none)

-- ---- attempts, and all attempts of a round

-- what ended has no error, and what is left may not fail either
pub record LeavesFine (done : List Ended) (rest : List Pending) : Type 0 where
  pub ended : EndWithoutError done
  pub left : AllByRecursion IsUnfailing rest

each_fine : (j : List Choice) (t : Terms) (attempt : ℕ) (ps : List Pending) (returns : List Return) (images : Images) → AllByRecursion IsUnfailing ps → NoErrors returns → LeavesFine (attempt_each j t attempt ps returns images).ended (attempt_each j t attempt ps returns images).again
unfolding attempt_each
each_fine j t attempt [] returns images h none = record { ended = tt; left = tt }
each_fine j t attempt (p ∷ ps) returns images h none =
    let one : Attempted = attempt_one j t attempt p returns images in
    let fine : IsFine one = one_fine j t attempt p returns images h.0 none in
    let a : Attempt = attempt_each j t attempt ps (one.return ∷ returns) one.images in
    let rest : LeavesFine a.ended a.again = each_fine j t attempt ps (one.return ∷ returns) one.images h.1 (fine.handed, none) in
    record {
      ended = all_append (λ (e : Ended). e.error ≡ None) one.ended a.ended fine.ended rest.ended;
      left = all_append IsUnfailing one.again a.again fine.again rest.left;
    }

pub tree_fine : (j : List Choice) (t : Terms) (attempt : ℕ) (tree : List Pending) (images : Images) → AllByRecursion IsUnfailing tree → LeavesFine (attempt_tree j t attempt tree images).ended (attempt_tree j t attempt tree images).again
tree_fine j t attempt tree images h = each_fine j t attempt tree [] images h tt

if_fine : (b : Bool) (a : Attempt) (again : List Pending → Images → Settled) → LeavesFine a.ended a.again → ((images : Images) → LeavesFine (again a.again images).ended (again a.again images).left) → LeavesFine (settled_if b a again).ended (settled_if b a again).left
if_fine true a again fine more =
    let later : LeavesFine (again a.again a.images).ended (again a.again a.images).left = more a.images in
    record { ended = all_append (λ (e : Ended). e.error ≡ None) a.ended (again a.again a.images).ended fine.ended later.ended; left = later.left }
if_fine false a again fine more = fine

settled_fine : (n : ℕ) (j : List Choice) (t : Terms) (attempt : ℕ) (tree : List Pending) (images : Images) → AllByRecursion IsUnfailing tree → LeavesFine (settle_from n j t attempt tree images).ended (settle_from n j t attempt tree images).left
unfolding settle_from
settled_fine zero j t attempt tree images h = tree_fine j t attempt tree images h
settled_fine (suc n) j t attempt tree images h =
    let a : Attempt = attempt_tree j t attempt tree images in
    let fine : LeavesFine a.ended a.again = tree_fine j t attempt tree images h in
    if_fine (now_alone (root_bits a.returns)) a (settle_from n j t (attempt + 1)) fine
    (λ now. settled_fine n j t (attempt + 1) a.again now fine.left)

-- ---- rounds

add_fine : (left : List Pending) (trees : List (List Pending)) → AllByRecursion IsUnfailing left → AreUnfailing trees → AreUnfailing (add_left left trees)
add_fine [] trees h hs = hs
add_fine (p ∷ ps) trees h hs = (h, hs)

pub round_fine : (j : List Choice) (t : Terms) (trees : List (List Pending)) (images : Images) → AreUnfailing trees → EndWithoutError (settle_each j t trees images).ended × AreUnfailing (settle_each j t trees images).left
unfolding settle_each
round_fine j t [] images h = (tt, tt)
round_fine j t (tree ∷ trees) images h =
    let s : Settled = settle j t tree images in
    let fine : LeavesFine s.ended s.left = settled_fine reexecutions_max j t 0 tree images h.0 in
    let ran : Ran = settle_each j t trees s.images in
    let rest = round_fine j t trees s.images h.1 in
    (all_append (λ (e : Ended). e.error ≡ None) s.ended ran.ended fine.ended rest.0, add_fine s.left ran.left fine.left rest.1)

-- requests of a batch have no children that finished
pub begin_fine : (bound : Bound) (birth : ℕ) (trees : List (List Request)) → AllByRecursion (AllByRecursion MayNotFail) trees → AreUnfailing (pending_trees bound birth trees)
begin_fine bound birth trees h =
    all_map (AllByRecursion IsUnfailing) (map (pending bound birth)) trees
    (all_weaker (AllByRecursion MayNotFail) (λ (tree : List Request). AllByRecursion IsUnfailing (map (pending bound birth) tree)) trees
    (λ tree one. all_map IsUnfailing (pending bound birth) tree
    (all_weaker MayNotFail (λ (r : Request). IsUnfailing (pending bound birth r)) tree (λ r must. record { must = must; kept = tt }) one)) h)

-- ---- healed requests

must_of : (kind : Kind) (canfail : Bool) → canfail ≡ false → is_claim kind ≡ false → may_fail kind canfail ≡ false
must_of Null canfail must h = must
must_of Read canfail must h = must
must_of Write canfail must h = must
must_of Free canfail must h = must
must_of Claim canfail must h = absurd (cc)

pub healed_must : (r : Request) → IsHealedRequest r → MayNotFail r
healed_must r h = must_of (kind_of r.work) r.canfail h.must h.no_claim
