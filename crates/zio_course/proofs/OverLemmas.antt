-- What is known of the trees of a batch when its round is over.
use Rattle.std.proofs.Common.{◌≡◌, ℕ, List, [], ◌∷◌, ◌++◌, map, Bool, true, false, Option, None, refl, Contains}
use Rattle.std.specs.List.{AllByRecursion}
use Rattle.zio_types.specs.declared.error.Errno.{Errno}
use Rattle.zio_script.specs.declared.script.Item.{Item}
use Rattle.zio_script.specs.declared.script.Request.{Request}
use Rattle.zio_script.specs.Accepted.{AreRising, IsOrderlyBatch}
use Rattle.zio_script.specs.Requests.{makes_block, name_of, needs_block, requests_of}
use Rattle.zio_cksum.proofs.AllLemmas.{all_contained}
use Rattle.zio_gang.specs.declared.tree.Tree.{Tree}
use Rattle.zio_gang.specs.Attempts.{Pending}
use Rattle.zio_gang.specs.Rounds.{Bound, block_if, passes, pending, pending_trees, trees_of}
use Rattle.zio_gang.specs.Runs.{has_trees}
use Rattle.zio_course.specs.declared.admission.Rules.{Rules}
use Rattle.zio_course.specs.Admissions.{IsAdmission, error_in}
use Rattle.zio_course.specs.Admitted.{AreAwaited}
use Rattle.zio_course.specs.Forests.{names_of, running}
use Rattle.zio_course.specs.Live.{IsRoundOver}
use Rattle.zio_course.specs.Names.{is_some_name}
use Rattle.zio_course.specs.Runners.{joined_trees}
use Rattle.zio_course.proofs.EndLemmas.{all_in_trees}
use Rattle.zio_course.proofs.ReadyLemmas.{IsFitUnless, all_fit}
use Rattle.zio_course.proofs.RunnableLemmas.{kept_none}

-- what holds of each request of a batch holds of its trees
pending_all : (P : Pending → Type 0) (names : Bound) (birth : ℕ) (trees : List (List Request)) → AllByRecursion (λ tree. AllByRecursion (λ (r : Request). P (pending names birth r)) tree) trees
    → AllByRecursion P (joined_trees (pending_trees names birth trees))
pending_all P names birth [] h = tt
pending_all P names birth (tree ∷ trees) h = tree_all tree h.0 (pending_all P names birth trees h.1)
  where
    tree_all : (rs : List Request) → AllByRecursion (λ (r : Request). P (pending names birth r)) rs → AllByRecursion P (joined_trees (pending_trees names birth trees))
        → AllByRecursion P (map (pending names birth) rs ++ joined_trees (pending_trees names birth trees))
    tree_all [] k rest = rest
    tree_all (r ∷ rs) k rest = (k.0, tree_all rs k.1 rest)

pub batch_over : (apart : Bool) (suspended : List (List Pending)) (awaited : List ℕ → Bool) (bound : List (List ℕ × Tree)) (number : ℕ) (items : List Item) (slots : List (ℕ × ℕ)) (rules : List Rules)
    → AreRising (requests_of items) → IsOrderlyBatch apart (requests_of items) → AreAwaited suspended awaited
    → IsAdmission (has_trees suspended) awaited (is_some_name bound) (trees_of (requests_of items)) slots rules
    → IsRoundOver apart bound (error_in slots rules) (requests_of items) (pending_trees (names_of bound) number (trees_of (running slots rules items)))
batch_over apart suspended awaited bound number items slots rules rising orderly waits admission_is =
    let requests : List Request = requests_of items in
    let error : ℕ → Option Errno = error_in slots rules in
    let test : List ℕ → Bool = is_some_name bound in
    let trees : List (List Request) = trees_of (running slots rules items) in
    let fit = all_fit suspended awaited test items slots rules rising orderly.parents waits admission_is in
    let in_trees : (P : Request → Type 0) → AllByRecursion (λ (r : Request). error r.number ≡ None → P r) requests → AllByRecursion (λ tree. AllByRecursion P tree) trees = λ P h.
    all_in_trees P (running slots rules items) (kept_none P error requests h) in
    record {
      rising = rising;
      names = orderly.names;
      inside = pending_all (λ (p : Pending). Contains requests p.request) (names_of bound) number trees
          (in_trees (Contains requests) (weaken (Contains requests) requests (all_contained requests)));
      free = pending_all (λ (p : Pending). error p.request.number ≡ None) (names_of bound) number trees
          (in_trees (λ (r : Request). error r.number ≡ None) (itself requests));
      blocks = pending_all (λ (p : Pending). p.block ≡ block_if (needs_block p.request.work) (name_of p.request.work) (names_of bound)) (names_of bound) number trees
          (in_trees (λ (r : Request). block_if (needs_block r.work) (name_of r.work) (names_of bound) ≡ block_if (needs_block r.work) (name_of r.work) (names_of bound)) (same_block requests));
      lacks = pending_all (λ (p : Pending). makes_block p.request.work ≡ true → passes test (name_of p.request.work) ≡ false) (names_of bound) number trees
          (in_trees (λ (r : Request). makes_block r.work ≡ true → passes test (name_of r.work) ≡ false) (lacking requests fit));
    }
  where
    weaken : (P : Request → Type 0) (rs : List Request) → AllByRecursion P rs → AllByRecursion (λ (r : Request). error_in slots rules r.number ≡ None → P r) rs
    weaken P [] h = tt
    weaken P (r ∷ rs) h = (λ none. h.0, weaken P rs h.1)

    itself : (rs : List Request) → AllByRecursion (λ (r : Request). error_in slots rules r.number ≡ None → error_in slots rules r.number ≡ None) rs
    itself [] = tt
    itself (r ∷ rs) = (λ none. none, itself rs)

    same_block : (rs : List Request) → AllByRecursion (λ (r : Request). error_in slots rules r.number ≡ None
        → block_if (needs_block r.work) (name_of r.work) (names_of bound) ≡ block_if (needs_block r.work) (name_of r.work) (names_of bound)) rs
    same_block [] = tt
    same_block (r ∷ rs) = (λ none. refl, same_block rs)

    lacking : (rs : List Request) → AllByRecursion (IsFitUnless (error_in slots rules) (is_some_name bound)) rs
        → AllByRecursion (λ (r : Request). error_in slots rules r.number ≡ None → makes_block r.work ≡ true → passes (is_some_name bound) (name_of r.work) ≡ false) rs
    lacking [] h = tt
    lacking (r ∷ rs) h = (λ none. (h.0 none).1, lacking rs h.1)
