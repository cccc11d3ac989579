-- The completions of a round, in the order in which its requests finished, each behind its children.
use Rattle.std.proofs.Common.{◌≡◌, ℕ, List, [], ◌∷◌, ◌++◌, true, false, ◌==◌, eqb-true, Option, Some, None, refl, sym, ap, ◌∙◌, subst}
use Rattle.std.specs.Prelude.{Contains, ◌&&◌}
use Rattle.std.specs.List.{AllByRecursion}
use Rattle.std.proofs.lemmas.Bool.{and_parts, false≢true}
use Rattle.zio_types.specs.declared.journal.Completion.{Completion}
use Rattle.zio_script.specs.declared.script.Request.{Request}
use Rattle.zio_script.specs.Requests.{is_under, is_under_number}
use Rattle.zio_cksum.proofs.AllLemmas.{all_append, all_contains, all_weaker}
use Rattle.zio_gang.specs.Attempts.{Pending}
use Rattle.zio_gang.specs.Journals.{CompleteAfterChildren, CompleteOnce, is_child}
use Rattle.zio_trace.specs.Families.{Forest, flat}
use Rattle.zio_trace.specs.Rounds.{trees_in}
use Rattle.zio_course.specs.Runners.{completion_for, finished_of, joined_trees, requests_in}
use Rattle.zio_course.proofs.SortLemmas.{IsOneOf}
use Rattle.zio_course.proofs.ItemLemmas.{image_of, none_passes, one_found}
use Rattle.zio_turns.specs.Ledgers.{AreBehindChildren, Ending, all_ended}
use Rattle.zio_turns.specs.Rests.{ChildrenAmong}
use Rattle.zio_graph.specs.RoundEnds.{completions_of}
use Rattle.zio_graph.proofs.Sounds.{joined_flat}

under_is : (under : Option ℕ) (n : ℕ) → is_under_number under n ≡ true → under ≡ Some n
under_is None n e = absurd (false≢true e)
under_is (Some m) n e = ap (λ (k : ℕ). Some k) (eqb-true m n e)

module _ (round : ℕ) (trees : List (List Pending)) (f : Forest) (are : trees_in f ≡ trees) where
  abbrev completions : List Ending → List Completion
  completions done = completions_of round (all_ended done)

  -- the number is none of these completions'
  abbrev IsNone : List Completion → ℕ → Type 0
  IsNone cs n = AllByRecursion (λ (c : Completion). (n == c.request) ≡ false) cs

  -- what completes behind one and has no number of those in front is no child of it
  no_child : (front : List ℕ) (x : Ending) (c other : Completion) → c.request ≡ x.ended.request.number
      → ChildrenAmong f x.ended.request.number front → ((n : ℕ) → Contains front n → (n == other.request) ≡ false)
      → is_child (requests_in trees) c other ≡ false
  no_child front x c other same among none =
      none_passes (λ (r : Request). (r.number == other.request) && is_under r c.request) (requests_in trees) (λ r at passes.
      let both = and_parts (r.number == other.request) (is_under r c.request) passes in
      let own = image_of (λ (q : Pending). q.request) (joined_trees trees) r at in
      let there : IsOneOf own.of (flat f) = subst (IsOneOf own.of) (ap joined_trees (sym are) ∙ joined_flat f) own.at in
      let under : own.of.request.under ≡ Some x.ended.request.number =
      ap (λ (q : Request). q.under) own.is ∙ (under_is r.under c.request both.1 ∙ ap (λ (n : ℕ). Some n) same) in
      let front_has : Contains front own.of.request.number = among own.of (one_found own.of (flat f) there) under in
      let differs : (r.number == other.request) ≡ false =
      ap (λ (q : Request). q.number == other.request) (sym own.is) ∙ none own.of.request.number front_has in
      false≢true (sym differs ∙ both.0))

  no_children : (front : List ℕ) (x : Ending) (c : Completion) (cs : List Completion) → c.request ≡ x.ended.request.number
      → ChildrenAmong f x.ended.request.number front → ((n : ℕ) → Contains front n → IsNone cs n)
      → AllByRecursion (λ (other : Completion). is_child (requests_in trees) c other ≡ false) cs
  no_children front x c [] same among none = tt
  no_children front x c (other ∷ cs) same among none = (
    no_child front x c other same among (λ n at. (none n at).0),
    no_children front x c cs same among (λ n at. (none n at).1),
  )

  after_children : (front : List ℕ) (done : List Ending) → AllByRecursion (IsNone (completions done)) front
      → CompleteOnce (completions done) → AreBehindChildren f front done
      → CompleteAfterChildren (requests_in trees) (completions done)
  after_children front [] none once behind = tt
  after_children front (x ∷ done) none once behind =
      let later : AllByRecursion (IsNone (completions done)) front =
      all_weaker (IsNone (completions (x ∷ done))) (IsNone (completions done)) front (λ n h. h.1) none in (
        no_children front x (completion_for round (finished_of x.ended)) (completions done) refl behind.0
            (λ n at. all_contains (IsNone (completions done)) front n later at),
        after_children (front ++ x.ended.request.number ∷ []) done
            (all_append (IsNone (completions done)) front (x.ended.request.number ∷ []) later (once.0, tt)) once.1 behind.1,
      )

pub completed_after_children : (round : ℕ) (trees : List (List Pending)) (f : Forest) (done : List Ending) → trees_in f ≡ trees
    → CompleteOnce (completions_of round (all_ended done)) → AreBehindChildren f [] done
    → CompleteAfterChildren (requests_in trees) (completions_of round (all_ended done))
completed_after_children round trees f done are once behind = after_children round trees f are [] done tt once behind
