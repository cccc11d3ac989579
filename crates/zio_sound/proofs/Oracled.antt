-- What an oracle gives for trees of requests is what attempts leave.
use Rattle.std.proofs.Common.{◌≡◌, ℕ, zero, suc, ◌+◌, List, [], ◌∷◌, ◌++◌, map, Bool, true, false, Option, Some, None, is_some, Ok, Err, refl, sym, ap, ◌∙◌, subst}
use Rattle.std.proofs.lemmas.Bool.{false≢true}
use Rattle.zio_types.specs.Choices.{Choice}
use Rattle.zio_blkptr.specs.declared.pointer.Bp.{Bp}
use Rattle.zio_script.specs.declared.script.Work.{Work}
use Rattle.zio_script.specs.declared.script.Work.TheVariants.{Null, Read, Write, Free, Claim}
use Rattle.zio_gang.specs.declared.tree.Tree.{Tree}
use Rattle.zio_gang.specs.Attempts.{Child, Pending, Terms, children_of, insert_children, judged_own, now_alone, reexecutions_max}
use Rattle.zio_trace.specs.Families.{Forest, NoTrees, TreeOf}
use Rattle.zio_trace.specs.Labels.{Labelled, labelled, ways_at}
use Rattle.zio_trace.specs.Leaves.{Answer}
use Rattle.zio_trace.specs.Oracles.{IsOracle, Oracle, heard}
use Rattle.zio_trace.specs.Plans.{Kids, TaskPlan, add_kid, add_settled, bare, one_of, own_read_by, plan, plan_again, plan_free, plan_kids, plan_left, plan_own, plan_read, plan_root, plan_settle, plan_tree}
use Rattle.zio_trace.specs.Programs.{Asks, Ends, ◌>>=◌}
use Rattle.zio_trace.specs.RoundRules.{task_ways}
use Rattle.zio_trace.specs.Rounds.{settles}
use Rattle.zio_trace.specs.Tasks.{Attempt, AttemptedBy, One, OwnGot, Settle, Settled, SettledBy, Task, Value, attempted, got}
use Rattle.zio_trace.specs.Underway.{AreAnswered, plan_each}
use Rattle.zio_sound.specs.Leaving.{AreAttempted, AreSettled, IsAttempted, IsSettled, OwnMakes, SettlesOn}

-- ---- what is heard of a program behind another

abbrev pub at_place : List ℕ → ℕ → Task → Labelled Task
at_place at n op = record { at = at ++ n ∷ []; op = op }

pub then_at : {A B : Type 0} (o : Oracle (Labelled Task) Value) (at : List ℕ) (n : ℕ) (p : TaskPlan A) (next : A → TaskPlan B)
    → (m : ℕ) × (heard o (labelled at n (p >>= next)) ≡ heard o (labelled at m (next (heard o (labelled at n p)))))
then_at o at n (Ends a) next = (n, refl)
then_at o at n (Asks op more) next = then_at o at (suc n) (more (o.answer (at_place at n op))) next

pub map_at : {A B : Type 0} (o : Oracle (Labelled Task) Value) (at : List ℕ) (n : ℕ) (p : TaskPlan A) (g : A → B)
    → heard o (labelled at n (p >>= λ a. Ends (g a))) ≡ g (heard o (labelled at n p))
map_at o at n p g = (then_at o at n p (λ a. Ends (g a))).1

-- ---- own work

read_none : (a : Answer) → (own_read_by a).tree ≡ None
read_none (Ok bytes) = refl
read_none (Err e) = refl

none_made : (work : Work) (own : OwnGot) → own.tree ≡ None → OwnMakes work own
none_made work own e some = absurd (false≢true (sym (ap (λ (x : Option Tree). is_some x) e) ∙ some))

read_makes : (o : Oracle (Labelled Task) Value) (at : List ℕ) (n : ℕ) (work : Work) (block : Option Tree) → OwnMakes work (heard o (labelled at n (plan_read block)))
read_makes o at n work None = none_made work (heard o (labelled at n (plan_read None))) refl
read_makes o at n work (Some tree) =
    let e = map_at o at n (plan_tree tree) (λ (v : Value). own_read_by (got v)) in
    none_made work (heard o (labelled at n (plan_read (Some tree)))) (ap (λ (x : OwnGot). x.tree) e ∙ read_none (got (heard o (labelled at n (plan_tree tree)))))

free_makes : (o : Oracle (Labelled Task) Value) (at : List ℕ) (n : ℕ) (work : Work) (block : Option Tree) → OwnMakes work (heard o (labelled at n (plan_free block)))
free_makes o at n work None = none_made work (heard o (labelled at n (plan_free None))) refl
free_makes o at n work (Some tree) = none_made work (heard o (labelled at n (plan_free (Some tree)))) refl

own_makes : (o : Oracle (Labelled Task) Value) (at : List ℕ) (n : ℕ) (t : Terms) (attempt : ℕ) (p : Pending) (work : Work) (pointers : List (Option Bp))
    → OwnMakes work (heard o (labelled at n (plan_own t attempt p work pointers)))
own_makes o at n t attempt p Null pointers = none_made Null (heard o (labelled at n (plan_own t attempt p Null pointers))) refl
own_makes o at n t attempt p (Read name prio) pointers = read_makes o at n (Read name prio) p.block
own_makes o at n t attempt p (Write name sum copies prio body) pointers = λ some. refl
own_makes o at n t attempt p (Free name) pointers = free_makes o at n (Free name) p.block
own_makes o at n t attempt p (Claim name pointer) pointers = λ some. refl

-- ---- attempts

abbrev root_pointers : Pending → Kids → List (Option Bp)
root_pointers p k = map (λ (c : Child). c.pointer) (insert_children (children_of k.returns) p.kept)

root_at : (o : Oracle (Labelled Task) Value) (at : List ℕ) (n : ℕ) (t : Terms) (attempt : ℕ) (p : Pending) (k : Kids) (KidsAre : Kids → Type 0) → KidsAre k
    → IsAttempted t p KidsAre (attempted (heard o (labelled at n (plan_root t attempt p k))))
root_at o at n t attempt p k KidsAre are =
    let work = plan_own t attempt p p.request.work (root_pointers p k) in
    let own : OwnGot = heard o (labelled at n work) in
    let e = map_at o at n work (λ (x : OwnGot). AttemptedBy (one_of k (judged_own t p k.returns (bare x)))) in
    record { kids = k; own = own; are = are; makes = own_makes o at n t attempt p p.request.work (root_pointers p k); is = ap attempted e }

kids_at : (journal : List Choice) (t : Terms) (o : Oracle (Labelled Task) Value) → IsOracle (ways_at (task_ways journal t)) o → (f : Forest) (attempt : ℕ) (at : List ℕ) (n : ℕ)
    → AreAttempted t f (heard o (labelled at n (plan_kids attempt f)))
kids_at journal t o h NoTrees attempt at n = refl
kids_at journal t o h (TreeOf p kids others) attempt at n =
    let x = at_place at n (Attempt attempt p kids) in
    let is : o.answer x ≡ heard o (labelled x.at 0 (plan t (Attempt attempt p kids))) = h.answer x refl in
    let behind = then_at o x.at 0 (plan_kids attempt kids) (plan_root t attempt p) in
    let one : IsAttempted t p (AreAttempted t kids) (attempted (o.answer x)) =
    subst (λ (v : Value). IsAttempted t p (AreAttempted t kids) (attempted v)) (sym (is ∙ behind.1))
    (root_at o x.at behind.0 t attempt p (heard o (labelled x.at 0 (plan_kids attempt kids))) (AreAttempted t kids) (kids_at journal t o h kids attempt x.at 0)) in
    let rest = kids_at journal t o h others attempt at (suc n) in (
      attempted (o.answer x),
      heard o (labelled at (suc n) (plan_kids attempt others)),
      one,
      rest,
      map_at o at (suc n) (plan_kids attempt others) (λ (k : Kids). add_kid (attempted (o.answer x)) k),
    )

pub attempt_at : (journal : List Choice) (t : Terms) (o : Oracle (Labelled Task) Value) → IsOracle (ways_at (task_ways journal t)) o → (p : Pending) (kids : Forest) (attempt : ℕ) (at : List ℕ)
    → IsAttempted t p (AreAttempted t kids) (attempted (o.answer (record { at = at; op = Attempt attempt p kids })))
attempt_at journal t o h p kids attempt at =
    let x : Labelled Task = record { at = at; op = Attempt attempt p kids } in
    let is : o.answer x ≡ heard o (labelled at 0 (plan t (Attempt attempt p kids))) = h.answer x refl in
    let behind = then_at o at 0 (plan_kids attempt kids) (plan_root t attempt p) in
    subst (λ (v : Value). IsAttempted t p (AreAttempted t kids) (attempted v)) (sym (is ∙ behind.1))
    (root_at o at behind.0 t attempt p (heard o (labelled at 0 (plan_kids attempt kids))) (AreAttempted t kids) (kids_at journal t o h kids attempt at 0))

-- ---- all attempts

again_at : (o : Oracle (Labelled Task) Value) (at : List ℕ) (n : ℕ) (b : Bool) (one : One) (left : Forest) (again : Pending → Forest → TaskPlan Settled)
    (Again : Pending → Forest → Settled → Type 0) → ((q : Pending) (below : Forest) → Again q below (heard o (labelled at n (again q below)))) → left ≡ one.left
    → SettlesOn b one left Again (heard o (labelled at n (plan_again b one again)))
again_at o at n false one left again Again h e = refl
again_at o at n true one NoTrees again Again h e =
    ap (λ (f : Forest). heard o (labelled at n (plan_left one f again))) (sym e)
again_at o at n true one (TreeOf q below others) again Again h e = (
  heard o (labelled at n (again q below)),
  h q below,
  ap (λ (f : Forest). heard o (labelled at n (plan_left one f again))) (sym e)
      ∙ map_at o at n (again q below) (λ (later : Settled). add_settled one later),
)

settle_at : (journal : List Choice) (t : Terms) (o : Oracle (Labelled Task) Value) → IsOracle (ways_at (task_ways journal t)) o → (more attempt : ℕ) (p : Pending) (kids : Forest)
    (at : List ℕ) (n : ℕ) → IsSettled more t p kids (heard o (labelled at n (plan_settle more attempt p kids)))
settle_at journal t o h zero attempt p kids at n =
    let x = at_place at n (Attempt attempt p kids) in
    (attempted (o.answer x), attempt_at journal t o h p kids attempt x.at, refl)
settle_at journal t o h (suc more) attempt p kids at n =
    let x = at_place at n (Attempt attempt p kids) in
    let one = attempted (o.answer x) in (
      one,
      attempt_at journal t o h p kids attempt x.at,
      again_at o at (suc n) (now_alone one.return.bits) one one.left (plan_settle more (attempt + 1)) (IsSettled more t)
          (λ q below. settle_at journal t o h more (attempt + 1) q below at (suc n)) refl,
    )

each_at : (journal : List Choice) (t : Terms) (o : Oracle (Labelled Task) Value) → IsOracle (ways_at (task_ways journal t)) o → (f : Forest) (at : List ℕ) (n : ℕ)
    → AreSettled t f (heard o (labelled at n (plan_each (settles f))))
each_at journal t o h NoTrees at n = refl
each_at journal t o h (TreeOf p kids others) at n =
    let x = at_place at n (Settle p kids) in
    let is : o.answer x ≡ heard o (labelled x.at 0 (plan t (Settle p kids))) = h.answer x refl in
    let settled : Settled = heard o (labelled x.at 0 (plan_settle reexecutions_max 0 p kids)) in
    let value : o.answer x ≡ SettledBy settled = is ∙ map_at o x.at 0 (plan_settle reexecutions_max 0 p kids) (λ (s : Settled). SettledBy s) in
    let tree = settle_at journal t o h reexecutions_max 0 p kids x.at 0 in
    let rest = each_at journal t o h others at (suc n) in
    subst (λ (vs : List Value). AreSettled t (TreeOf p kids others) vs)
    (sym (map_at o at (suc n) (plan_each (settles others)) (λ (vs : List Value). o.answer x ∷ vs)))
    ((settled, value, tree), rest)

pub answered_settled : (journal : List Choice) (t : Terms) (f : Forest) (ds : _) (values : List Value) → AreAnswered (task_ways journal t) (settles f) ds values → AreSettled t f values
answered_settled journal t f ds values h = subst (λ (vs : List Value). AreSettled t f vs) h.values_are (each_at journal t h.oracle h.is f [] 0)
