-- The plans of requests and trees stay within the own work of their requests.
use Rattle.std.proofs.Common.{◌≡◌, ℕ, zero, suc, ◌+◌, List, [], ◌∷◌, ◌++◌, map, Bool, true, false, Option, Some, None, Contains, ⊎_elim, refl, sym, ap, ◌∙◌, subst, append_assoc}
use Rattle.std.proofs.lemmas.List.Elements.{Contains-append_left, Contains-append_right, Contains-append_cases}
use Rattle.zio_types.specs.declared.error.Errno.{Errno}
use Rattle.zio_types.specs.declared.request.Bits.{Bits}
use Rattle.zio_types.specs.Choices.{Choice}
use Rattle.zio_types.specs.Paths.{path_steps_max}
use Rattle.zio_blkptr.specs.declared.pointer.Bp.{Bp}
use Rattle.zio_blkptr.specs.Pointers.{pointer_of}
use Rattle.zio_script.specs.declared.script.Work.{Work}
use Rattle.zio_script.specs.declared.script.Work.TheVariants.{Null, Read as WorkRead, Write, Free, Claim}
use Rattle.zio_script.specs.Bodies.{body_of}
use Rattle.zio_cksum.proofs.AllLemmas.{all_append, all_weaker, all_contains}
use Rattle.zio_gang.specs.declared.tree.Tree.{Tree}
use Rattle.zio_gang.specs.Attempts.{Terms, Pending, Child, Own, Attempted, closed_if, children_of, insert_children, judged_own, now_alone, reexecutions_max}
use Rattle.zio_gang.specs.Writes.{content_of}
use Rattle.zio_trace.specs.BlockCopies.{Copies, Groups, copies_of, groups_of}
use Rattle.zio_trace.specs.Families.{Forest, NoTrees, TreeOf, flat, before, root_left}
use Rattle.zio_trace.specs.Footprints.{Stays, FitsTask, Within, WithinBy, OnCopies, OfWork, OfTreeBy, OfBlock, OfClaim, AreFrom, ReadsHeader, OfPart}
use Rattle.zio_trace.specs.Plans.{TaskPlan, Kids, plan_own, plan_read, plan_free, plan_claim, plan_taken, plan_tree, plan_write, plan_kids, plan_root, plan_left, plan_again, plan_settle, bare, plan}
use Rattle.zio_trace.specs.Tasks.{Task, Leaf, Find, TakePlaces, ReadCopies, WriteCopies, WritePart, ReadHeads, ReadTree, Attempt, Settle, ByKept, ByClaim, OwnGot, One, Settled, Value, attempted, walked}
use Rattle.zio_trace.proofs.FootprintLemmas.{stays-then}
use Rattle.zio_trace.proofs.ListLemmas.{all_front, all_rest, contains_first, contains_later}
use Rattle.zio_trace.proofs.TaskFootprints.{read_alone_stays, read_copies_stay, write_copies_stay, write_part_stays, kept_heads_stay, claimed_heads_stay, tree_stays, on_more, stays_wider}

-- ---- where requests come from

-- each of a list is from that list
from_itself : (ps : List Pending) → AreFrom ps ps
from_itself ps = each ps ps (λ p c. c)
  where
    each : (all qs : List Pending) → ((p : Pending) → Contains qs p → Contains all p) → AreFrom all qs
    each all [] f = tt
    each all (q ∷ qs) f = ((q, f q (contains_first q qs), refl, refl), each all qs (λ p c. f p (contains_later q qs p c)))

from_more : (ps rs qs : List Pending) → ((p : Pending) → Contains ps p → Contains rs p) → AreFrom ps qs → AreFrom rs qs
from_more ps rs qs f h =
    all_weaker (λ (q : Pending). (p : Pending) × Contains ps p × (p.request ≡ q.request) × (p.block ≡ q.block)) (λ (q : Pending). (p : Pending) × Contains rs p × (p.request ≡ q.request) × (p.block ≡ q.block)) qs
    (λ q k. (k.0, f k.0 k.1, k.2, k.3)) h

-- what is from requests that are from these
pub from_from : (ps qs rs : List Pending) → AreFrom ps qs → AreFrom qs rs → AreFrom ps rs
from_from ps qs rs h k =
    all_weaker (λ (r : Pending). (q : Pending) × Contains qs q × (q.request ≡ r.request) × (q.block ≡ r.block)) _ rs
    (λ r m.
    let one : (p : Pending) × Contains ps p × (p.request ≡ m.0.request) × (p.block ≡ m.0.block) =
    all_contains (λ (q : Pending). (p : Pending) × Contains ps p × (p.request ≡ q.request) × (p.block ≡ q.block)) qs m.0 h m.1 in
    (one.0, one.1, one.2 ∙ m.2, one.3 ∙ m.3)) k

-- the own work of one request is that of another with its request and block
work_same : (R : Copies → Task → Type 0) (j : List Choice) (t : Terms) (p q : Pending) (work : Work) (d : Task) → p.request ≡ q.request → p.block ≡ q.block → OfWork R j t q work d → OfWork R j t p work d
work_same R j t p q Null d e f h = h
work_same R j t p q (WorkRead name prio) d e f h = subst (λ (b : Option Tree). OfBlock R b d) (sym f) h
work_same R j t p q (Write name sum copies prio body) d e f h = (h.0, subst (λ (n : ℕ). OfPart j t n h.0 [] d) (sym (ap (λ r. r.number) e)) h.1)
work_same R j t p q (Free name) d e f h = subst (λ (b : Option Tree). OfBlock R b d) (sym f) h
work_same R j t p q (Claim name pointer) d e f h = h

pub request_same : (R : Copies → Task → Type 0) (j : List Choice) (t : Terms) (p q : Pending) (d : Task) → p.request ≡ q.request → p.block ≡ q.block → OfWork R j t q q.request.work d → OfWork R j t p p.request.work d
request_same R j t p q d e f h = work_same R j t p q p.request.work d e f (subst (λ (w : Work). OfWork R j t q w d) (sym (ap (λ r. r.work) e)) h)

-- what requests from these may do, these may do
pub tree_from : (R : Copies → Task → Type 0) (j : List Choice) (t : Terms) (ps qs : List Pending) (d : Task) → AreFrom ps qs → OfTreeBy R j t qs d → OfTreeBy R j t ps d
tree_from R j t ps qs d from h =
    let one : (p : Pending) × Contains ps p × (p.request ≡ h.0.request) × (p.block ≡ h.0.block) =
    all_contains (λ (q : Pending). (p : Pending) × Contains ps p × (p.request ≡ q.request) × (p.block ≡ q.block)) qs h.0 from h.1 in
    (one.0, one.1, request_same R j t one.0 h.0 d one.2 one.3 h.2)

pub tree_more : (R : Copies → Task → Type 0) (j : List Choice) (t : Terms) (ps qs : List Pending) (d : Task) → ((p : Pending) → Contains qs p → Contains ps p) → OfTreeBy R j t qs d → OfTreeBy R j t ps d
tree_more R j t ps qs d f h = (h.0, f h.0 h.1, h.2)

-- no read of copies with repairs
abbrev pub NoReading : Task → Type 0
NoReading (ReadCopies true test len places) = ⊥
NoReading _ = Unit {0}

-- ---- a request's own work

module _ (R : Copies → Task → Type 0) (j : List Choice) (t : Terms) where
  abbrev StaysAt : {A : Type 0} → (Task → Type 0) → TaskPlan A → Type 0
  StaysAt P x = Stays (FitsTask j t) (λ (q : Task). (d : Task) → WithinBy R j t q d → P d) (λ a. Unit {0}) x

  read_stays_at : (block : Option Tree) → StaysAt (OfBlock R block) (plan_read block)
  read_stays_at None = tt
  read_stays_at (Some tree) = stays-then (FitsTask j t) _ (λ v. Unit {0}) _ (plan_tree tree) _ (tree_stays R j t tree) (λ v k. tt)

  free_stays_at : (block : Option Tree) → StaysAt (OfBlock R block) (plan_free block)
  free_stays_at None = tt
  free_stays_at (Some tree) =
      let groups : Groups = groups_of tree in
      ((λ d may. on_more R groups.heads (copies_of tree) (λ x c. Contains-append_left groups.heads groups.bodies x c) d may), λ v fits. tt)

  taken_stays : (errors : List (Option Errno)) (tree : Tree) → StaysAt (OfClaim t.setting) (plan_taken errors tree)
  taken_stays [] tree = ((λ d may. subst (OfClaim t.setting) may tt), λ v fits. tt)
  taken_stays (e ∷ errors) tree = tt

  reads_claim : (d : Task) → ReadsHeader t.setting d → OfClaim t.setting d
  reads_claim (Leaf op) h = h
  reads_claim _ h = absurd h

  claim_stays : (pointer : Option Bp) → StaysAt (OfClaim t.setting) (plan_claim pointer)
  claim_stays None = tt
  claim_stays (Some bp) = ((λ d may. reads_claim d may), λ v fits. taken_stays (walked v).errors (record { bp = bp; heads = (walked v).heads }))

  own_stays : (attempt : ℕ) (p : Pending) (work : Work) (pointers : List (Option Bp)) → StaysAt (OfWork R j t p work) (plan_own t attempt p work pointers)
  own_stays attempt p Null pointers = tt
  own_stays attempt p (WorkRead name prio) pointers = read_stays_at p.block
  own_stays attempt p (Write name sum copies prio body) pointers =
      let content : List ℕ = content_of pointers (body_of body) in
      stays-then (FitsTask j t) (λ (q : Task). (d : Task) → WithinBy R j t q d → OfWork R j t p (Write name sum copies prio body) d) (λ v. Unit {0}) (λ o. Unit {0})
      (plan_write t attempt p sum copies path_steps_max [] content) _
      (stays_wider j t (λ (q : Task). (d : Task) → WithinBy R j t q d → OfPart j t p.request.number attempt [] d) _ (λ v. Unit {0}) _ (plan_write t attempt p sum copies path_steps_max [] content)
      (λ q f d may. (attempt, f d may)) (λ v k. k)
      (write_part_stays R j t attempt p sum copies path_steps_max [] content))
      (λ v k. tt)
  own_stays attempt p (Free name) pointers = free_stays_at p.block
  own_stays attempt p (Claim name pointer) pointers = claim_stays (pointer_of pointer)

  -- ---- an attempt

  closed_from : (again : Bool) (p : Pending) (own : Own) (bits : Bits) (kept : List Child) → AreFrom (p ∷ []) (closed_if again p own bits kept).again
  closed_from true p own bits kept = ((p, contains_first p [], refl, refl), tt)
  closed_from false p own bits kept = tt

  flat_before : (f g : Forest) → flat (before f g) ≡ flat f ++ flat g
  flat_before NoTrees g = refl
  flat_before (TreeOf p kids others) g =
      ap (λ (xs : List Pending). flat kids ++ p ∷ xs) (flat_before others g) ∙ sym (append_assoc (flat kids) (p ∷ flat others) (flat g))

  from_before : (ps : List Pending) (f g : Forest) → AreFrom ps (flat f) → AreFrom ps (flat g) → AreFrom ps (flat (before f g))
  from_before ps f g h k = subst (AreFrom ps) (sym (flat_before f g)) (all_append _ (flat f) (flat g) h k)

  root_from : (ps again : List Pending) (kids : Forest) → AreFrom ps again → AreFrom ps (flat kids) → AreFrom ps (flat (root_left again kids))
  root_from ps [] kids h k = tt
  root_from ps (q ∷ qs) kids h k = all_append _ (flat kids) (q ∷ []) k (h.0, tt)

  -- a request and the trees under it
  abbrev TreeOnly : {A : Type 0} → List Pending → (A → Forest) → TaskPlan A → Type 0
  TreeOnly {A} ps left x = Stays (FitsTask j t) (λ (q : Task). (d : Task) → WithinBy R j t q d → OfTreeBy R j t ps d) (λ (a : A). AreFrom ps (flat (left a))) x

  kids_stay : (attempt : ℕ) (kids : Forest) → TreeOnly (flat kids) (λ (k : Kids). k.left) (plan_kids attempt kids)
  kids_stay attempt NoTrees = tt
  kids_stay attempt (TreeOf p kids others) =
      let all : List Pending = flat kids ++ p ∷ flat others in
      let mine : (q : Pending) → Contains (p ∷ flat kids) q → Contains all q = λ q c. among_first p (flat kids) (flat others) q c in
      let theirs : (q : Pending) → Contains (flat others) q → Contains all q = λ q c. Contains-append_right (flat kids) (p ∷ flat others) q (contains_later p (flat others) q c) in (
        (λ d may. tree_more R j t all (p ∷ flat kids) d mine may),
        λ v fits. stays-then (FitsTask j t) (λ (q : Task). (d : Task) → WithinBy R j t q d → OfTreeBy R j t all d) (λ (o : Kids). AreFrom (flat others) (flat o.left)) _ (plan_kids attempt others) _
            (stays_wider j t (λ (q : Task). (d : Task) → WithinBy R j t q d → OfTreeBy R j t (flat others) d) _ (λ (o : Kids). AreFrom (flat others) (flat o.left)) _ (plan_kids attempt others)
            (λ q f d may. tree_more R j t all (flat others) d theirs (f d may)) (λ o k. k)
            (kids_stay attempt others))
            (λ o k. from_before all (attempted v).left o.left
            (from_more (p ∷ flat kids) all (flat (attempted v).left) mine fits)
            (from_more (flat others) all (flat o.left) theirs k)),
      )
    where
      among_first : (p : Pending) (kids others : List Pending) (q : Pending) → Contains (p ∷ kids) q → Contains (kids ++ p ∷ others) q
      among_first p kids others q c =
          ⊎_elim
          (λ (one : Contains (p ∷ []) q). Contains-append_right kids (p ∷ others) q (Contains-append_left (p ∷ []) others q one))
          (λ (rest : Contains kids q). Contains-append_left kids (p ∷ others) q rest)
          (Contains-append_cases (p ∷ []) kids q c)

  root_stays : (attempt : ℕ) (p : Pending) (kids : Forest) (k : Kids) → AreFrom (flat kids) (flat k.left) → TreeOnly (p ∷ flat kids) (λ v. (attempted v).left) (plan_root t attempt p k)
  root_stays attempt p kids k from =
      let pointers : List (Option Bp) = map (λ (c : Child). c.pointer) (insert_children (children_of k.returns) p.kept) in
      let all : List Pending = p ∷ flat kids in
      stays-then (FitsTask j t) (λ (q : Task). (d : Task) → WithinBy R j t q d → OfTreeBy R j t all d) (λ (o : OwnGot). Unit {0}) _ (plan_own t attempt p p.request.work pointers) _
      (stays_wider j t (λ (q : Task). (d : Task) → WithinBy R j t q d → OfWork R j t p p.request.work d) _ (λ (o : OwnGot). Unit {0}) _ (plan_own t attempt p p.request.work pointers)
      (λ q f d may. (p, contains_first p (flat kids), f d may)) (λ o u. u)
      (own_stays attempt p p.request.work pointers))
      (λ own u.
      let one : Attempted = judged_own t p k.returns (bare own) in
      root_from all one.again k.left
      (from_more (p ∷ []) all one.again (λ q c. Contains-append_left (p ∷ []) (flat kids) q c) (closed_from _ p (bare own) _ _))
      (from_more (flat kids) all (flat k.left) (λ q c. contains_later p (flat kids) q c) from))

  attempt_stays : (attempt : ℕ) (p : Pending) (kids : Forest) → TreeOnly (p ∷ flat kids) (λ v. (attempted v).left) (plan t (Attempt attempt p kids))
  attempt_stays attempt p kids =
      let all : List Pending = p ∷ flat kids in
      stays-then (FitsTask j t) (λ (q : Task). (d : Task) → WithinBy R j t q d → OfTreeBy R j t all d) (λ (k : Kids). AreFrom (flat kids) (flat k.left)) _ (plan_kids attempt kids) _
      (stays_wider j t (λ (q : Task). (d : Task) → WithinBy R j t q d → OfTreeBy R j t (flat kids) d) _ (λ (k : Kids). AreFrom (flat kids) (flat k.left)) _ (plan_kids attempt kids)
      (λ q f d may. tree_more R j t all (flat kids) d (λ q c. contains_later p (flat kids) q c) (f d may)) (λ k h. h)
      (kids_stay attempt kids))
      (λ k h. root_stays attempt p kids k h)

  -- ---- all attempts

  abbrev SettleOnly : List Pending → TaskPlan Settled → Type 0
  SettleOnly ps x = Stays (FitsTask j t) (λ (q : Task). (d : Task) → WithinBy R j t q d → OfTreeBy R j t ps d) (λ (s : Settled). Unit {0}) x

  -- what goes again is from the tree
  from_tree : (ps : List Pending) (q : Pending) (kids others : Forest) → AreFrom ps (flat (TreeOf q kids others)) → AreFrom ps (q ∷ flat kids)
  from_tree ps q kids others h =
      let rest : AreFrom ps (q ∷ flat others) = all_rest _ (flat kids) (q ∷ flat others) h in
      (rest.0, all_front _ (flat kids) (q ∷ flat others) h)

  left_stays : (ps : List Pending) (one : One) (left : Forest) (again : Pending → Forest → TaskPlan Settled) → AreFrom ps (flat left)
      → ((q : Pending) (ks : Forest) → SettleOnly (q ∷ flat ks) (again q ks)) → SettleOnly ps (plan_left one left again)
  left_stays ps one NoTrees again from h = tt
  left_stays ps one (TreeOf q kids others) again from h =
      stays-then (FitsTask j t) (λ (o : Task). (d : Task) → WithinBy R j t o d → OfTreeBy R j t ps d) (λ (s : Settled). Unit {0}) _ (again q kids) _
      (stays_wider j t (λ (o : Task). (d : Task) → WithinBy R j t o d → OfTreeBy R j t (q ∷ flat kids) d) _ (λ (s : Settled). Unit {0}) _ (again q kids)
      (λ o f d may. tree_from R j t ps (q ∷ flat kids) d (from_tree ps q kids others from) (f d may)) (λ s u. u)
      (h q kids))
      (λ later u. tt)

  again_stays : (ps : List Pending) (now : Bool) (one : One) (again : Pending → Forest → TaskPlan Settled) → AreFrom ps (flat one.left)
      → ((q : Pending) (ks : Forest) → SettleOnly (q ∷ flat ks) (again q ks)) → SettleOnly ps (plan_again now one again)
  again_stays ps true one again from h = left_stays ps one one.left again from h
  again_stays ps false one again from h = tt

  settle_stays : (more attempt : ℕ) (p : Pending) (kids : Forest) → SettleOnly (p ∷ flat kids) (plan_settle more attempt p kids)
  settle_stays zero attempt p kids = ((λ d may. may), λ v fits. tt)
  settle_stays (suc more) attempt p kids = (
    (λ d may. may),
    λ v fits. again_stays (p ∷ flat kids) (now_alone (attempted v).return.bits) (attempted v) (plan_settle more (attempt + 1)) fits (settle_stays more (attempt + 1)),
  )

  -- ---- all tasks

  pub tasks_stay_by : (o : Task) → NoReading o → Stays (FitsTask j t) (λ (q : Task). (d : Task) → WithinBy R j t q d → WithinBy R j t o d) (λ (v : Value). FitsTask j t o v) (plan t o)
  tasks_stay_by (Leaf a) n = ((λ d may. may), λ v fits. tt)
  tasks_stay_by (Find a) n = ((λ d may. may), λ v fits. fits)
  tasks_stay_by (TakePlaces x) n = ((λ d may. may), λ v fits. tt)
  tasks_stay_by (ReadCopies true test len places) n = absurd n
  tasks_stay_by (ReadCopies false test len places) n = read_alone_stays R j t test len places
  tasks_stay_by (WriteCopies bytes places) n = write_copies_stay R j t bytes places
  tasks_stay_by (WritePart attempt p sum copies levels path bytes) n = write_part_stays R j t attempt p sum copies levels path bytes
  tasks_stay_by (ReadHeads (ByKept heads) levels path bp) n = kept_heads_stay R j t heads levels path bp
  tasks_stay_by (ReadHeads ByClaim levels path bp) n = claimed_heads_stay R j t levels path bp
  tasks_stay_by (ReadTree tree) n = tree_stays R j t tree
  tasks_stay_by (Attempt attempt p kids) n = attempt_stays attempt p kids
  tasks_stay_by (Settle p kids) n =
      stays-then (FitsTask j t) (λ (q : Task). (d : Task) → WithinBy R j t q d → OfTreeBy R j t (p ∷ flat kids) d) (λ (s : Settled). Unit {0}) _ (plan_settle reexecutions_max 0 p kids) _
      (settle_stays reexecutions_max 0 p kids) (λ s u. tt)

-- Each task stays within what it may do, in single operations.
pub tasks_stay : (j : List Choice) (t : Terms) (o : Task) → Stays (FitsTask j t) (λ (q : Task). (d : Task) → Within j t q d → Within j t o d) (λ (v : Value). FitsTask j t o v) (plan t o)
tasks_stay j t (ReadCopies true test len places) = read_copies_stay j t test len places
tasks_stay j t o = tasks_stay_by (OnCopies t.setting) j t o tt
