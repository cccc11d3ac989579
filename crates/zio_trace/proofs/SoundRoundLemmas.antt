-- A sound round is sound work.
use Rattle.std.proofs.Common.{◌≡◌, ℕ, suc, ◌+◌, ◌<◌, ◌≤◌, List, [], ◌∷◌, true, Contains, ⊎_elim, refl, sym, ap, ◌∙◌, subst, arith}
use Rattle.std.proofs.lemmas.List.Elements.{Contains-append_left, Contains-append_right, Contains-append_cases}
use Rattle.std.specs.List.{AllByRecursion}
use Rattle.zio_types.specs.Choices.{Choice}
use Rattle.zio_cksum.proofs.AllLemmas.{all_contains}
use Rattle.zio_gang.specs.Attempts.{Pending, Terms}
use Rattle.zio_gang.specs.Trees.{sizes_of}
use Rattle.zio_trace.specs.Conflicts.{TaskLies, is_single}
use Rattle.zio_trace.specs.Families.{Forest, NoTrees, TreeOf, flat}
use Rattle.zio_trace.specs.Footprints.{AreFrom, Within}
use Rattle.zio_trace.specs.Keys.{FitsLeft, NumbersOnce, bit, count_in}
use Rattle.zio_trace.specs.Labels.{same_number}
use Rattle.zio_trace.specs.Rounds.{settles}
use Rattle.zio_trace.specs.SoundRounds.{DifferentNumbers, IsSoundRound, shared_in, work_of}
use Rattle.zio_trace.specs.Tasks.{Attempt, Settle, Task, Value, attempted}
use Rattle.zio_trace.specs.Underway.{AreFree, IsFreeOf, IsSound, plan_each}
use Rattle.zio_trace.proofs.ChoiceLemmas.{Answers, answers_in_all, contained_cases}
use Rattle.zio_trace.proofs.FreeLemmas.{parts_free}
use Rattle.zio_trace.proofs.KeyLemmas.{settles_capped}
use Rattle.zio_trace.proofs.LabelLemmas.{number_itself}
use Rattle.zio_trace.proofs.ListLemmas.{contains_first, contains_later}
use Rattle.zio_trace.proofs.OnceKeys.{capped_once}
use Rattle.zio_trace.proofs.PairLemmas.{all_of}
use Rattle.zio_trace.proofs.SoundLemmas.{request_lies, trees_together}

-- ---- numbers

none_in : {X : Type 0} (x : X) → Contains [] x → ⊥
none_in x c = all_contains (λ (y : _). ⊥) [] x tt c

pub counted : (g : Forest) (x : Pending) → Contains (flat g) x → 1 ≤ count_in x.request.number g
counted NoTrees x c = absurd (none_in x c)
counted (TreeOf p kids others) x c =
    ⊎_elim
    (λ (k : Contains (flat kids) x). let some : 1 ≤ count_in x.request.number kids = counted kids x k in omega arith)
    (λ (rest : Contains (p ∷ flat others) x).
    ⊎_elim
    (λ (e : p ≡ x).
    let one : bit (same_number p.request.number x.request.number) ≡ 1 = ap (λ (y : Pending). bit (same_number y.request.number x.request.number)) e ∙ ap bit (number_itself x.request.number) in
    omega arith)
    (λ (k : Contains (flat others) x). let some : 1 ≤ count_in x.request.number others = counted others x k in omega arith)
    (contained_cases p (flat others) x rest))
    (Contains-append_cases (flat kids) (p ∷ flat others) x c)

pub tree_counted : (p : Pending) (kids : Forest) (x : Pending) → Contains (p ∷ flat kids) x → 1 ≤ bit (same_number p.request.number x.request.number) + count_in x.request.number kids
tree_counted p kids x c =
    ⊎_elim
    (λ (e : p ≡ x).
    let one : bit (same_number p.request.number x.request.number) ≡ 1 = ap (λ (y : Pending). bit (same_number y.request.number x.request.number)) e ∙ ap bit (number_itself x.request.number) in
    omega arith)
    (λ (k : Contains (flat kids) x). let some : 1 ≤ count_in x.request.number kids = counted kids x k in omega arith)
    (contained_cases p (flat kids) x c)

-- the first tree and those behind it have different numbers
pub first_differs : (p : Pending) (kids others : Forest) → NumbersOnce (TreeOf p kids others) → DifferentNumbers (p ∷ flat kids) (flat others)
first_differs p kids others once x y cx cy e =
    let a : 1 ≤ bit (same_number p.request.number x.request.number) + count_in x.request.number kids = tree_counted p kids x cx in
    let b : 1 ≤ count_in x.request.number others = subst (λ (n : ℕ). 1 ≤ count_in n others) (sym e) (counted others y cy) in
    let all : bit (same_number p.request.number x.request.number) + (count_in x.request.number kids + count_in x.request.number others) ≤ 1 = once x.request.number in
    absurd (omega arith)

pub others_once : (p : Pending) (kids others : Forest) → NumbersOnce (TreeOf p kids others) → NumbersOnce others
others_once p kids others once n =
    let all : bit (same_number p.request.number n) + (count_in n kids + count_in n others) ≤ 1 = once n in omega arith

pub tree_once : (p : Pending) (kids others : Forest) → NumbersOnce (TreeOf p kids others) → NumbersOnce (TreeOf p kids NoTrees)
tree_once p kids others once n =
    let all : bit (same_number p.request.number n) + (count_in n kids + count_in n others) ≤ 1 = once n in omega arith

pub kids_once : (p : Pending) (kids others : Forest) → NumbersOnce (TreeOf p kids others) → NumbersOnce kids
kids_once p kids others once n =
    let all : bit (same_number p.request.number n) + (count_in n kids + count_in n others) ≤ 1 = once n in omega arith

-- what an attempt leaves
pub left_once : (attempt : ℕ) (p : Pending) (kids : Forest) (v : Value) → FitsLeft (Attempt attempt p kids) v → NumbersOnce (TreeOf p kids NoTrees) → NumbersOnce (attempted v).left
left_once attempt p kids v fits once n =
    let all : bit (same_number p.request.number n) + (count_in n kids + 0) ≤ 1 = once n in
    let left : count_in n (attempted v).left ≤ bit (same_number p.request.number n) + count_in n kids = fits n in
    omega arith

-- ---- requests of a forest

pub from_contained : (ps qs : List Pending) → ((q : Pending) → Contains qs q → Contains ps q) → AreFrom ps qs
from_contained ps qs f = all_of _ qs (λ q c. (q, f q c, refl, refl))

pub first_tree : (p : Pending) (kids others : Forest) (q : Pending) → Contains (p ∷ flat kids) q → Contains (flat (TreeOf p kids others)) q
first_tree p kids others q c =
    ⊎_elim
    (λ (e : p ≡ q). subst (Contains (flat (TreeOf p kids others))) e (Contains-append_right (flat kids) (p ∷ flat others) p (contains_first p (flat others))))
    (λ (k : Contains (flat kids) q). Contains-append_left (flat kids) (p ∷ flat others) q k)
    (contained_cases p (flat kids) q c)

pub other_trees : (p : Pending) (kids others : Forest) (q : Pending) → Contains (flat others) q → Contains (flat (TreeOf p kids others)) q
other_trees p kids others q c = Contains-append_right (flat kids) (p ∷ flat others) q (contains_later p (flat others) q c)

-- ---- all trees

module _ (t : Terms) (sizes : ℕ → ℕ) (f : Forest) (round : IsSoundRound t sizes f) (j : List Choice) (answers : Answers j (sizes_of t.setting.tops) t.used t.round) where
  abbrev Inside : Forest → Type 0
  Inside g = (q : Pending) → Contains (flat g) q → Contains (flat f) q

  free_of : (p : Pending) (kids : Forest) → ((q : Pending) → Contains (p ∷ flat kids) q → Contains (flat f) q) → (g : Forest) (n m : ℕ) → n < m → Inside g → DifferentNumbers (p ∷ flat kids) (flat g) → IsFreeOf j (work_of t sizes f) n (Settle p kids) m (settles g)
  free_of p kids here NoTrees n m less inside ne = tt
  free_of p kids here (TreeOf q ks others) n m less inside ne = (
    parts_free j t (shared_in t f) [] n m (Settle p kids) (Settle q ks) (λ (e : n ≡ m). absurd (omega arith)) refl refl
        (λ d e md me. trees_together t sizes f round j answers (q ∷ flat ks) (p ∷ flat kids) d e
        (from_contained (flat f) (q ∷ flat ks) (λ x c. inside x (first_tree q ks others x c))) (from_contained (flat f) (p ∷ flat kids) here)
        (λ x y cx cy same. ne y x cy (first_tree q ks others x cx) (sym same)) md me),
    free_of p kids here others n (suc m) (omega arith) (λ x c. inside x (other_trees q ks others x c)) (λ x y cx cy. ne x y cx (other_trees q ks others y cy)),
  )

  pub all_free : (g : Forest) (n : ℕ) → NumbersOnce g → Inside g → AreFree j (work_of t sizes f) n (settles g)
  all_free NoTrees n once inside = tt
  all_free (TreeOf p kids others) n once inside = (
    free_of p kids (λ q c. inside q (first_tree p kids others q c)) others n (suc n) (omega arith) (λ q c. inside q (other_trees p kids others q c)) (first_differs p kids others once),
    all_free others (suc n) (others_once p kids others once) (λ q c. inside q (other_trees p kids others q c)),
  )

  pub all_lie : (g : Forest) → Inside g → AllByRecursion (λ (q : Task). (d : Task) → is_single d ≡ true → Within j t q d → TaskLies sizes d) (settles g)
  all_lie NoTrees inside = tt
  all_lie (TreeOf p kids others) inside = (
    (λ d single may. request_lies t sizes f round j answers may.0 (inside may.0 (first_tree p kids others may.0 may.1)) d may.2),
    all_lie others (λ q c. inside q (other_trees p kids others q c)),
  )

pub round_sound : (t : Terms) (sizes : ℕ → ℕ) (f : Forest) → IsSoundRound t sizes f → IsSound (work_of t sizes f)
round_sound t sizes f round = record {
  free = λ j comes. all_free t sizes f round j (answers_in_all j (sizes_of t.setting.tops) t.used t.round comes.lawful) f 0 round.numbers (λ q c. c);
  lies = λ j comes. all_lie t sizes f round j (answers_in_all j (sizes_of t.setting.tops) t.used t.round comes.lawful) f (λ q c. c);
  once = λ k o is. capped_once t f round.numbers k (plan_each (settles f)) (settles_capped k f) o is;
}
