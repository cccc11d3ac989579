-- What is left of a round's trees, by how each is settled.
use Rattle.std.proofs.Common.{◌≡◌, ℕ, zero, suc, List, [], ◌∷◌, ◌++◌, length, map, slice_get, Option, Some, None, refl, sym, ap, ◌∙◌, subst, arith}
use Rattle.std.specs.List.{AllByRecursion}
use Rattle.zio_cksum.proofs.AllLemmas.{all_append}
use Rattle.zio_gang.specs.Attempts.{Pending, Terms}
use Rattle.zio_gang.specs.Rounds.{add_left}
use Rattle.zio_trace.specs.Families.{Forest, NoTrees, TreeOf}
use Rattle.zio_trace.specs.Tasks.{One, Value, settled}
use Rattle.zio_trace.specs.Together.{round_of}
use Rattle.zio_frames.specs.Frames.{Flying}
use Rattle.zio_frames.specs.Running.{all_heard}
use Rattle.zio_frames.specs.Slots.{Heard}
use Rattle.zio_sound.specs.Leaving.{AreSettled}
use Rattle.zio_sound.specs.Linked.{AreLinked, LeaveLinked}
use Rattle.zio_exchange.specs.Waits.{pendings}
use Rattle.zio_exchange.specs.Wholes.{AreTrees, IsForestOf, root_number, trees_in}
use Rattle.zio_exchange.specs.declared.waiting.UnfinishedRequest.{UnfinishedRequest}
use Rattle.zio_exchange.proofs.ForestLemmas.{forest_flat}
use Rattle.zio_exchange.proofs.WholeLemmas.{trees_count}
use Rattle.zio_turns.specs.Attempting.{Course, settled_with}
use Rattle.zio_staged.specs.Entries.{standing, top_at}
use Rattle.zio_turns.specs.UnderTrees.{AreInStates, AreSettledWith, IsInState, IsLeftOf, StateIn}
use Rattle.zio_turns.specs.declared.trees.TreeEnd.{TreeEnd}
use Rattle.zio_turns.specs.declared.trees.TreeEnd.TheVariants.{Finished as RootFinished, Suspended}
use Rattle.zio_turns.specs.declared.trees.TreeState.{TreeState}
use Rattle.zio_turns.specs.declared.trees.TreeState.TheVariants.{Settled, UnderWay}
use Rattle.zio_graph.specs.Ends.{left_at, left_in}

-- ---- each tree is settled

abbrev pub AllSettled : List TreeState → Type 0
AllSettled states = (n attempt : ℕ) → slice_get states n ≡ Some (UnderWay attempt) → ⊥

none_stands : (tops : List (Option Flying)) (n : ℕ) → standing tops ≡ [] → top_at tops n ≡ None
none_stands [] n e = refl
none_stands (None ∷ tops) zero e = refl
none_stands (None ∷ tops) (suc n) e = none_stands tops n e
none_stands (Some x ∷ tops) n e = absurd (cc)

pub all_settled : (t : Terms) (tops : List (Option Flying)) (states : List TreeState) → standing tops ≡ []
    → AreInStates t tops states
    → AllSettled states
all_settled t tops states none each = λ n attempt under.
    subst (λ (o : Option TreeState). IsInState t None o) under
    (subst (λ (o : Option Flying). IsInState t o (slice_get states n)) (none_stands tops n none) (each n))

-- ---- how many there are

values_count : (t : Terms) (f : Forest) (values : List Value) → AreSettled t f values → length values ≡ trees_in f
values_count t NoTrees values h = ap (λ (vs : List Value). length vs) h
values_count t (TreeOf p kids others) [] h = absurd h
values_count t (TreeOf p kids others) (v ∷ vs) h = ap suc (values_count t others vs h.1)

pub as_many : (t : Terms) (f : Forest) (wholes : List (List UnfinishedRequest)) (values : List Value) → AreTrees wholes f
    → AreSettled t f values
    → length values ≡ length wholes
as_many t f wholes values trees settled_so = values_count t f values settled_so ∙ sym (trees_count wholes f trees)

-- ---- one tree

same_heard : (v u : Value) → Some (Heard v) ≡ Some (Heard u) → v ≡ u
same_heard v u e = cc

add_some : (ws : List UnfinishedRequest) (n : ℕ) (others : List (List Pending)) → root_number ws ≡ Some n
    → add_left (pendings ws) others ≡ pendings ws ∷ others
add_some [] n others e = absurd (cc)
add_some (w ∷ ws) n others e = refl

left_one : (v : Value) (c : Course) (one : One) (end : TreeEnd) (others : List (List Pending)) → v ≡ settled_with c one
    → IsLeftOf end one
    → map pendings (left_at end) ++ others ≡ add_left (settled v).again others
left_one v c one RootFinished others is (f, left) =
    sym (ap (λ (u : Value). add_left (settled u).again others) is ∙ ap (λ (ps : List Pending). add_left ps others) left.again)
left_one v c one (Suspended whole) others is (bits, pointer, left) =
    let list : pendings whole ≡ one.again = forest_flat whole one.left left.left.tree ∙ sym left.left.list in
    sym (ap (λ (u : Value). add_left (settled u).again others) is
    ∙ (ap (λ (ps : List Pending). add_left ps others) (sym list) ∙ add_some whole left.number others left.root))

-- ---- all trees

behind : (v : Value) (vs : List Value) (x : TreeState) (states : List TreeState)
    → AreSettledWith (all_heard (v ∷ vs)) (x ∷ states)
    → AreSettledWith (all_heard vs) states
behind v vs x states ends = λ n end is. (let h = ends (suc n) end is in record {
  course = h.course;
  one = h.one;
  value = h.value;
  left = h.left;
})

pub left_is : (values : List Value) (states : List TreeState) → length states ≡ length values → AllSettled states
    → AreSettledWith (all_heard values) states → map pendings (left_in states) ≡ (round_of values).left
left_is [] [] count all ends = refl
left_is [] (x ∷ states) count all ends = absurd (omega arith)
left_is (v ∷ vs) [] count all ends = absurd (omega arith)
left_is (v ∷ vs) (UnderWay attempt ∷ states) count all ends = absurd (all 0 attempt refl)
left_is (v ∷ vs) (Settled end ∷ states) count all ends =
    let h = ends 0 end refl in
    let rest : map pendings (left_in states) ≡ (round_of vs).left =
    left_is vs states (omega arith) (λ n attempt is. all (suc n) attempt is) (behind v vs (Settled end) states ends) in
    first end ∙ (ap (λ (ls : List (List Pending)). map pendings (left_at end) ++ ls) rest
    ∙ left_one v h.course h.one end (round_of vs).left (same_heard v (settled_with h.course h.one) h.value) h.left)
  where
    first : (e : TreeEnd) → map pendings (left_at e ++ left_in states) ≡ map pendings (left_at e) ++ map pendings (left_in states)
    first RootFinished = refl
    first (Suspended whole) = refl

-- ---- what holds of what is left

-- it is trees that stand so
abbrev pub IsLinkedForest : List UnfinishedRequest → Type 0
IsLinkedForest ws = (f : Forest) × IsForestOf ws f × AreLinked None f

linked_one : (v : Value) (c : Course) (one : One) (end : TreeEnd) → v ≡ settled_with c one → IsLeftOf end one
    → AreLinked None (settled v).left
    → AllByRecursion IsLinkedForest (left_at end)
linked_one v c one RootFinished is left linked = tt
linked_one v c one (Suspended whole) is (bits, pointer, left) linked =
    ((one.left, left.left.tree, subst (λ (u : Value). AreLinked None (settled u).left) is linked), tt)

pub left_linked : (values : List Value) (states : List TreeState) → length states ≡ length values → AllSettled states
    → AreSettledWith (all_heard values) states → LeaveLinked None values → AllByRecursion IsLinkedForest (left_in states)
left_linked [] [] count all ends linked = tt
left_linked [] (x ∷ states) count all ends linked = absurd (omega arith)
left_linked (v ∷ vs) [] count all ends linked = absurd (omega arith)
left_linked (v ∷ vs) (UnderWay attempt ∷ states) count all ends linked = absurd (all 0 attempt refl)
left_linked (v ∷ vs) (Settled end ∷ states) count all ends linked =
    let h = ends 0 end refl in
    all_append IsLinkedForest (left_at end) (left_in states)
    (linked_one v h.course h.one end (same_heard v (settled_with h.course h.one) h.value) h.left linked.0)
    (left_linked vs states (omega arith) (λ n attempt is. all (suc n) attempt is)
    (behind v vs (Settled end) states ends) linked.1)

-- what holds of each that is suspended
pub left_within : (Q : List UnfinishedRequest → Type 0) (states : List TreeState) → AllByRecursion (StateIn Q) states
    → AllByRecursion Q (left_in states)
left_within Q [] h = tt
left_within Q (UnderWay attempt ∷ states) h = left_within Q states h.1
left_within Q (Settled RootFinished ∷ states) h = left_within Q states h.1
left_within Q (Settled (Suspended whole) ∷ states) h = (h.0, left_within Q states h.1)
