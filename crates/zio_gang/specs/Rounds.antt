-- One round: the names that are bound, the trees of a batch, which of them are answered by admission, and what running
-- the others leaves.
use Rattle.std.specs.Prelude.{◌≡◌, ℕ, List, [], ◌∷◌, ◌++◌, map, filter, find, Bool, true, false, ◌&&◌, ◌||◌, not, Option, Some, None, option_map, is_some, ◌==◌, bytes_eq}
use Rattle.std.specs.List.{AllByRecursion, flat_map, list_any}
use Rattle.zio_types.specs.declared.error.Errno.{Errno}
use Rattle.zio_types.specs.declared.error.Errno.TheVariants.{Io, Noent, Exist}
use Rattle.zio_types.specs.declared.place.Place.{Place}
use Rattle.zio_types.specs.Choices.{Ask, Choice}
use Rattle.zio_script.specs.declared.script.Request.{Request}
use Rattle.zio_script.specs.declared.script.Work.{Work}
use Rattle.zio_script.specs.declared.script.Work.TheVariants.{Null, Read, Write, Free, Claim}
use Rattle.zio_script.specs.Requests.{name_of, names_it, needs_block, makes_block, changes_pool}
use Rattle.zio_cksum.specs.Images.{Images}
use Rattle.zio_gang.specs.declared.bound.Bound.{Bound as NamedBlock}
use Rattle.zio_gang.specs.declared.tree.Tree.{Tree}
use Rattle.zio_gang.specs.Attempts.{Terms, Pending, Ended, Settled, settle}
use Rattle.zio_gang.specs.Trees.{tree_places}

-- ---- bound names

-- a block that has a name
abbrev pub Binding : Type 0
Binding = NamedBlock

-- the bound names
abbrev pub Bound : Type 0
Bound = List Binding

-- the binding is of this name
abbrev pub is_of : List ℕ → Binding → Bool
is_of name b = bytes_eq b.name name

-- the block of a name
abbrev pub block_of : Bound → List ℕ → Option Tree
block_of bound name = option_map (λ (b : Binding). b.tree) (find (is_of name) bound)

-- the name has a block
abbrev pub is_bound : Bound → List ℕ → Bool
is_bound bound name = is_some (block_of bound name)

-- the bindings without this name's
abbrev pub unbind : List ℕ → Bound → Bound
unbind name bound = filter (λ b. not (is_of name b)) bound

-- the bindings with this name's block
abbrev pub bind : List ℕ → Tree → Bound → Bound
bind name tree bound = record { name = name; tree = tree } ∷ unbind name bound

-- no name stands twice
abbrev pub NamesOnce : Bound → Type 0
NamesOnce [] = Unit {0}
NamesOnce (b ∷ bound) = AllByRecursion (λ other. is_of b.name other ≡ false) bound × NamesOnce bound

-- the places of all bound blocks
-- Rule: places given back, deferred free.
abbrev pub used_places : Bound → List Place
used_places bound = flat_map (λ (b : Binding). tree_places b.tree) bound

-- a name bound to the block that a request made, if it made one
abbrev pub bind_made : List ℕ → Option Tree → Bound → Bound
bind_made name None bound = bound
bind_made name (Some tree) bound = bind name tree bound

-- what a request without error does to the bindings
abbrev pub bound_by : Work → Option Tree → Bound → Bound
bound_by Null tree bound = bound
bound_by (Read name prio) tree bound = bound
bound_by (Write name sum copies prio body) tree bound = bind_made name tree bound
bound_by (Free name) tree bound = unbind name bound
bound_by (Claim name pointer) tree bound = bind_made name tree bound

-- the same; with an error nothing
abbrev pub bound_unless : Option Errno → Ended → Bound → Bound
bound_unless None e bound = bound_by e.request.work e.tree bound
bound_unless (Some error) e bound = bound

-- a write or a claim without error binds its name, a free without error unbinds it
-- Rule: binding.
abbrev pub bound_after : List Ended → Bound → Bound
bound_after [] bound = bound
bound_after (e ∷ es) bound = bound_after es (bound_unless e.error e bound)

-- ---- the trees of a batch

-- a request before its parent, or further on
abbrev pub put_if : Bool → Request → Request → List Request → List Request → List Request
put_if true r q qs placed = r ∷ q ∷ qs
put_if false r q qs placed = q ∷ placed

-- a request right before its parent, whose last child it is so far
abbrev pub put_before : ℕ → Request → List Request → List Request
put_before parent r [] = []
put_before parent r (q ∷ qs) = put_if (q.number == parent) r q qs (put_before parent r qs)

-- the trees with one request more: a root is a tree of its own, last
abbrev pub with_request : Option ℕ → Request → List (List Request) → List (List Request)
with_request None r trees = trees ++ (r ∷ []) ∷ []
with_request (Some parent) r trees = map (put_before parent r) trees

-- the trees with these requests put into them, one after another
abbrev pub with_requests : List Request → List (List Request) → List (List Request)
with_requests [] trees = trees
with_requests (r ∷ rs) trees = with_requests rs (with_request r.under r trees)

-- the trees of a batch by the numbers of their roots, each in the order of attempts
abbrev pub trees_of : List Request → List (List Request)
trees_of batch = with_requests batch []

-- ---- admission

-- an unfinished request of a suspended tree names the block that the request names
abbrev pub is_awaited : List (List Pending) → Request → Bool
is_awaited suspended r =
    list_any (λ tree. list_any (λ (p : Pending). names_it (name_of r.work) (name_of p.request.work)) tree) suspended

-- a name is there, and passes the test
abbrev pub passes : (List ℕ → Bool) → Option (List ℕ) → Bool
passes test None = false
passes test (Some name) = test name

-- the request names a block that is bound
abbrev pub has_bound : (List ℕ → Bool) → Request → Bool
has_bound bound r = passes bound (name_of r.work)

-- beside suspended trees nulls go on, and reads of other blocks
abbrev pub is_blocked : List (List Pending) → List Request → Bool
is_blocked [] tree = false
is_blocked (s ∷ ss) tree = list_any (λ (r : Request). changes_pool r.work || is_awaited (s ∷ ss) r) tree

-- a read or a free names a block that isn't bound
abbrev pub lacks_block : (List ℕ → Bool) → List Request → Bool
lacks_block bound tree = list_any (λ (r : Request). needs_block r.work && not (has_bound bound r)) tree

-- a write or a claim names a block that is bound
abbrev pub takes_bound : (List ℕ → Bool) → List Request → Bool
takes_bound bound tree = list_any (λ (r : Request). makes_block r.work && has_bound bound r) tree

-- the error of the first of the three rules that applies
abbrev pub first_rule : Bool → Bool → Bool → Option Errno
first_rule true lacks takes = Some Io
first_rule false true takes = Some Noent
first_rule false false true = Some Exist
first_rule false false false = None

-- the error with which a whole tree is answered before it runs, by the first rule that applies, or none; the test tells
-- which names are bound
-- Rule: admission.
abbrev pub admission : List (List Pending) → (List ℕ → Bool) → List Request → Option Errno
admission suspended bound tree = first_rule (is_blocked suspended tree) (lacks_block bound tree) (takes_bound bound tree)

-- a request that finishes without being run
abbrev pub answered_with : Errno → Request → Ended
answered_with e r = record { request = r; error = Some e; bytes = []; tree = None }

-- a batch after admission: the requests of the trees that were answered, and the trees that run
pub record Admitted : Type 0 where
  pub answered : List Ended
  pub trees : List (List Request)

-- a tree that is answered or runs, in front of the trees behind it
abbrev pub admit_with : Option Errno → List Request → Admitted → Admitted
admit_with (Some e) tree others = record { answered = map (answered_with e) tree ++ others.answered; trees = others.trees }
admit_with None tree others = record { answered = others.answered; trees = tree ∷ others.trees }

-- each tree of a batch in turn: answered by admission, or run
-- Rule: admission.
abbrev pub admitted : List (List Pending) → (List ℕ → Bool) → List (List Request) → Admitted
admitted suspended bound [] = record { answered = []; trees = [] }
admitted suspended bound (tree ∷ trees) =
    admit_with (admission suspended bound tree) tree (admitted suspended bound trees)

-- ---- what runs

-- the block that a request needs and names
abbrev pub block_if : Bool → Option (List ℕ) → Bound → Option Tree
block_if true (Some name) bound = block_of bound name
block_if true None bound = None
block_if false name bound = None

-- a request as it enters its first round
-- Rule: numbering.
abbrev pub pending : Bound → ℕ → Request → Pending
pending bound birth r = record {
  request = r;
  birth = birth;
  block = block_if (needs_block r.work) (name_of r.work) bound;
  kept = [];
}

-- the trees of a batch as they enter their first round
abbrev pub pending_trees : Bound → ℕ → List (List Request) → List (List Pending)
pending_trees bound birth trees = map (map (pending bound birth)) trees

-- what running some trees leaves: the suspended ones, what finished, what was asked for, and the images
pub record Ran : Type 0 where
  pub left : List (List Pending)
  pub ended : List Ended
  pub asks : List Ask
  pub images : Images

-- a tree's remaining requests, nothing where it finished
abbrev pub add_left : List Pending → List (List Pending) → List (List Pending)
add_left [] trees = trees
add_left (p ∷ ps) trees = (p ∷ ps) ∷ trees

-- a tree that was settled, in front of the trees behind it
abbrev pub add_settled : Settled → Ran → Ran
add_settled s others = record {
  left = add_left s.left others.left;
  ended = s.ended ++ others.ended;
  asks = s.asks ++ others.asks;
  images = others.images;
}

-- a tree, and those behind it over the images that it left
abbrev pub then_trees : Settled → (Images → Ran) → Ran
then_trees s others = add_settled s (others s.images)

-- Each tree is settled over the images that the one before it left. In a batch a block is named once, or by reads alone
-- in a script without rows that are `first` or `flip`, and places of different blocks don't meet: so the order of the
-- trees changes nothing.
-- Rule: order within an attempt.
unfoldable pub settle_each : List Choice → Terms → List (List Pending) → Images → Ran
settle_each journal t [] images = record { left = []; ended = []; asks = []; images = images }
settle_each journal t (tree ∷ trees) images = then_trees (settle journal t tree images) (settle_each journal t trees)
