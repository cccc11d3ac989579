-- The books of a round: each request that finished, and what became of each place.
use Rattle.std.specs.Prelude.{◌≡◌, ℕ, ◌+◌, ◌≤◌, List, [], ◌∷◌, ◌++◌, map, slice_get, Option, Some, None, Contains, IsPermutation, is_none, option_to_list}
use Rattle.std.specs.List.{AllByRecursion, flat_map, sum_by}
use Rattle.zio_types.specs.declared.place.Place.{Place}
use Rattle.zio_types.specs.Choices.{Choice}
use Rattle.zio_places.specs.Ordered.{is_same_place}
use Rattle.zio_places.specs.Tables.{one_if, total}
use Rattle.zio_gang.specs.Attempts.{Ended, Pending, Terms}
use Rattle.zio_gang.specs.Trees.{tree_places}
use Rattle.zio_trace.specs.Families.{Forest, NoTrees}
use Rattle.zio_types.specs.declared.request.ChildKind.TheVariants.{Logical}
use Rattle.zio_trace.specs.Tasks.{Attempt, AttemptedBy, One, Task, settled}
use Rattle.zio_frames.specs.Frames.{Flying, Stack, kind_of_task}
use Rattle.zio_frames.specs.Moves.{IsEnded}
use Rattle.zio_frames.specs.OfRound.{IsTreeOf}
use Rattle.zio_frames.specs.Slots.{Heard, IsOut, Slot}
use Rattle.zio_exchange.specs.Outcomes.{IsEndedAs, freed_if, freed_of, held_by}
use Rattle.zio_exchange.specs.declared.outcome.FinishedRequest.{FinishedRequest}
use Rattle.slab.specs.Slab.{Slab}
use Rattle.zio_turns.specs.Attempting.{IsSettle}
use Rattle.zio_turns.specs.Claims.{ClaimsOnce}
use Rattle.zio_turns.specs.Desks.{taken_by_all}
use Rattle.zio_staged.specs.Entries.{Live}
use Rattle.zio_staged.specs.Parts.{Nodes, ended_in}
use Rattle.zio_turns.specs.Rests.{ChildrenAmong, HasRests, numbers_ended}
use Rattle.zio_turns.specs.Sizes.{FitsBodies, HasSizes}
use Rattle.zio_turns.specs.Slabs.{left_over}
use Rattle.zio_staged.specs.Stages.{AreHandedOut}
use Rattle.zio_turns.specs.declared.entry.TiedNode.{TiedNode}

-- ---- the books

-- a request that finished: as it was attempted, what the definitions tell of it, and those that finished below it in that attempt
pub record Ending : Type 0 where
  pub request : Pending
  pub ended : Ended
  pub below : List Ended

-- the requests that finished, in the order in which they did, and the places that were claimed and given back
pub record Books : Type 0 where
  pub done : List Ending
  pub claimed : List Place
  pub back : List Place

abbrev pub no_books : Books
no_books = record { done = []; claimed = []; back = [] }

-- ---- the requests

abbrev pub all_ended : List Ending → List Ended
all_ended done = map (λ (x : Ending). x.ended) done

-- Its node did this attempt of it, in the round, and ended with this value: nothing of its tree is left, and it is the last that
-- finished there.
pub record IsEnding (t : Terms) (f : Forest) (x : Ending) : Type 0 where
  pub attempt : ℕ
  pub kids : Forest
  pub one : One
  pub stack : Stack
  pub from : IsTreeOf f x.request kids
  pub does : stack.outer.op ≡ Attempt attempt x.request kids
  pub ends : IsEnded t stack (AttemptedBy one)
  pub none_again : one.again ≡ []
  pub none_left : one.left ≡ NoTrees
  pub ended_are : one.ended ≡ x.below ++ x.ended ∷ []
  pub number : x.ended.request.number ≡ x.request.request.number

-- each finished behind those below it
abbrev pub AreBehind : List Ended → List Ending → Type 0
AreBehind front [] = Unit {0}
AreBehind front (x ∷ xs) = AllByRecursion (Contains front) x.below × AreBehind (front ++ x.ended ∷ []) xs

-- each finished behind all requests of the round that stand under it
abbrev pub AreBehindChildren : Forest → List ℕ → List Ending → Type 0
AreBehindChildren f front [] = Unit {0}
AreBehindChildren f front (x ∷ xs) =
    ChildrenAmong f x.ended.request.number front × AreBehindChildren f (front ++ x.ended.request.number ∷ []) xs

-- these are told of them, one by one
abbrev pub AreToldAs : List FinishedRequest → List Ending → Type 0
AreToldAs [] [] = Unit {0}
AreToldAs [] (x ∷ xs) = ⊥
AreToldAs (f ∷ fs) [] = ⊥
AreToldAs (f ∷ fs) (x ∷ xs) = IsEndedAs f x.ended × AreToldAs fs xs

abbrev pub ended_of_top : Option Flying → List Ended
ended_of_top None = []
ended_of_top (Some x) = ended_in x.stack

abbrev pub ended_of_tree : Slot → List Ended
ended_of_tree (Heard v) = (settled v).ended
ended_of_tree (IsOut told) = []

-- those that the trees heard of
abbrev pub ended_of_trees : List (Option Flying) → List Slot → List Ended
ended_of_trees tops trees = flat_map ended_of_top tops ++ flat_map ended_of_tree trees

-- and those that nodes heard of
abbrev pub ended_with : List Ended → List Live → List Ended
ended_with heard [] = heard
ended_with heard (x ∷ lives) = ended_in x.stack ++ ended_with heard lives

-- ---- the places

-- those of the block that it freed
abbrev pub freed_for : Ending → List Place
freed_for x = freed_if (is_none x.ended.error) (freed_of x.request.request.work x.request.block)

abbrev pub freed_in : List Ending → List Place
freed_in done = flat_map freed_for done

-- those of the block that it made
abbrev pub made_for : Ending → List Place
made_for x = flat_map tree_places (option_to_list x.ended.tree)

abbrev pub made_in : List Ending → List Place
made_in done = flat_map made_for done

-- those that were found for blocks, or claimed
abbrev pub found_so_far : List Choice → List Place → List Place
found_so_far entries claimed = claimed ++ taken_by_all entries

-- by weights: what the nodes in flight hold, and what they gave back
abbrev pub held_over : (Place → ℕ) → List Live → ℕ
held_over w lives = sum_by (λ (x : Live). total w (held_by x.stack)) lives

abbrev pub gave_over : {N : Type 0} → Nodes N → (Place → ℕ) → Slab (TiedNode N) → ℕ
gave_over {N = N} nodes w slab = left_over {N = N} (λ n. total w (nodes.gave n)) slab

-- no place stands twice
abbrev pub AreOnce : List Place → Type 0
AreOnce places = (p : Place) → total (λ q. one_if (is_same_place p q)) places ≤ 1

-- ---- all of it

-- it settles a tree, does nothing within, and asks for attempts alone
pub record IsOfTree (st : Stack) : Type 0 where
  pub settles : IsSettle st.outer.op
  pub alone : st.inner ≡ None
  pub attempts : (n : ℕ) (op : Task) → slice_get st.outer.asked n ≡ Some op → kind_of_task op ≡ Logical

-- Whatever finished is behind its children; and whatever stands under a request that a node or a tree attempts is left under it,
-- or finished.
pub record KeepsChildren (f : Forest) (done : List Ending) (tops : List (Option Flying)) (lives : List Live) : Type 0 where
  pub children : AreBehindChildren f [] done
  pub nodes : AllByRecursion (λ (x : Live). HasRests f (numbers_ended (all_ended done)) x.stack) lives
  pub trees : (n : ℕ) (top : Flying) → slice_get tops n ≡ Some (Some top) → HasRests f (numbers_ended (all_ended done)) top.stack

-- The requests that finished are those that somebody heard of. Each place is found or freed or given back as often as it is held,
-- was given back or is in a block that was made; and what is held or made was found. What was given back was found, or in use at the
-- round's start. Each node hands out the requests and the parts that it asks; what it heard has the sizes that were asked for, and
-- each read that finished that of its block's bodies. Places are claimed in the round of a claim alone, and once.
pub record IsLedger {N : Type 0} (nodes : Nodes N) (t : Terms) (f : Forest) (books : Books) (entries : List Choice)
    (tops : List (Option Flying)) (trees : List Slot) (lives : List Live) (slab : Slab (TiedNode N)) : Type 0 where
  pub requests : IsPermutation (all_ended books.done) (ended_with (ended_of_trees tops trees) lives)
  pub each : AllByRecursion (IsEnding t f) books.done
  pub behind : AreBehind [] books.done
  pub places : (w : Place → ℕ) →
      total w (found_so_far entries books.claimed) + total w (freed_in books.done) + gave_over {N = N} nodes w slab
      ≡ held_over w lives + total w books.back + total w (made_in books.done)
  pub made : (w : Place → ℕ) → total w (made_in books.done) + held_over w lives ≤ total w (found_so_far entries books.claimed)
  pub backs : AllByRecursion (Contains (t.used ++ found_so_far entries books.claimed)) books.back
  pub hands : AllByRecursion (λ (x : Live). AreHandedOut x.stack) lives
  pub of_trees : (n : ℕ) (top : Flying) → slice_get tops n ≡ Some (Some top) → IsOfTree top.stack
  pub rests : KeepsChildren f books.done tops lives
  pub sizes : AllByRecursion (λ (x : Live). HasSizes x.stack) lives
  pub sized : AllByRecursion (λ (x : Ending). FitsBodies x.request x.ended) books.done
  pub claims : ClaimsOnce f books.claimed tops lives
