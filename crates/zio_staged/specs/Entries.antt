-- The nodes that an engine holds, each under a key, and what it knows of each beside the node itself.
use Rattle.std.specs.Prelude.{◌≡◌, ◌≢◌, ℕ, zero, suc, ◌+◌, List, [], ◌∷◌, map, slice_set, Bool, true, false, Option, Some, None, cond}
use Rattle.zio_types.specs.declared.request.ChildKind.{ChildKind}
use Rattle.zio_types.specs.declared.request.Phase.{Phase}
use Rattle.zio_types.specs.declared.request.Phase.TheVariants.{Ready, Done}
use Rattle.zio_types.specs.Machine.{fresh, same_kind}
use Rattle.zio_counts.specs.Tallies.{Tally, counted, raised, tally_of}
use Rattle.zio_trace.specs.Keys.{bit}
use Rattle.zio_trace.specs.Labels.{same_number}
use Rattle.zio_trace.specs.Tasks.{Task}
use Rattle.zio_frames.specs.Frames.{Child, Flying, Seat, Stack, fresh_stack, kind_of_task, place_of}
use Rattle.zio_frames.specs.Moves.{handed, next_seat, set_at, with_children}
use Rattle.zio_frames.specs.Slots.{Slot}

-- who hears of a node: the tree of the round with this number, or the node under this key; and which of its children it is
pub data Parent : Type 0 where
  OfTree : (tree child : ℕ) → Parent
  OfNode : (key child : ℕ) → Parent

abbrev pub number_in : Parent → ℕ
number_in (OfTree n child) = child
number_in (OfNode key child) = child

-- a node with its kind as a child, its parent, and the counts of its children
pub record Held (N : Type 0) : Type 0 where
  pub node : N
  pub kind : ChildKind
  pub parent : Parent
  pub tally : Tally

abbrev pub with_node : {N : Type 0} → Held N → N → Held N
with_node h node = record { node = node; kind = h.kind; parent = h.parent; tally = h.tally }

abbrev pub with_both : {N : Type 0} → Held N → N → Tally → Held N
with_both h node tally = record { node = node; kind = h.kind; parent = h.parent; tally = tally }

-- the nodes by key
abbrev pub Shelf : Type 0 → Type 0
Shelf N = ℕ → Option (Held N)

-- where a node is in the work
pub record Live : Type 0 where
  pub key : ℕ
  pub at : List ℕ
  pub stack : Stack

abbrev pub flying_of : Live → Flying
flying_of x = record { at = x.at; stack = x.stack }

abbrev pub live_of : ℕ → Flying → Live
live_of key x = record { key = key; at = x.at; stack = x.stack }

-- the node is so far now
abbrev pub with_stack : Flying → Stack → Flying
with_stack x st = record { at = x.at; stack = st }

-- what is in flight under a key, and for a tree
abbrev pub flying_at : List Live → ℕ → Option Flying
flying_at [] key = None
flying_at (x ∷ xs) key = cond (same_number x.key key) (Some (flying_of x)) (flying_at xs key)

abbrev pub top_at : List (Option Flying) → ℕ → Option Flying
top_at [] n = None
top_at (x ∷ xs) zero = x
top_at (x ∷ xs) (suc n) = top_at xs n

-- those of trees that haven't ended
abbrev pub standing : List (Option Flying) → List Flying
standing [] = []
standing (None ∷ xs) = standing xs
standing (Some x ∷ xs) = x ∷ standing xs

-- no two have one key
abbrev pub KeysDiffer : List Live → Type 0
KeysDiffer [] = Unit {0}
KeysDiffer (x ∷ xs) = (flying_at xs x.key ≡ None) × KeysDiffer xs

-- the round's trees, all under way
abbrev pub all_tops : List Flying → List (Option Flying)
all_tops xs = map (λ (x : Flying). Some x) xs

-- ---- what changes

-- under this key it is this now, and under each other as before
pub record IsWith {X : Type 0} (before : ℕ → Option X) (key : ℕ) (now : Option X) (after : ℕ → Option X) : Type 0 where
  pub there : after key ≡ now
  pub others : (k : ℕ) → k ≢ key → after k ≡ before k

-- under two keys
pub record AreWith {X : Type 0} (before : ℕ → Option X) (key : ℕ) (now : Option X) (other : ℕ) (then : Option X)
    (after : ℕ → Option X) : Type 0 where
  pub there : after key ≡ now
  pub also : after other ≡ then
  pub others : (k : ℕ) → k ≢ key → k ≢ other → after k ≡ before k

abbrev pub times_in : ℕ → List ℕ → ℕ
times_in key [] = 0
times_in key (k ∷ ks) = bit (same_number k key) + times_in key ks

-- the key stands in it once more, wherever
pub record OneMore (key : ℕ) (before after : List ℕ) : Type 0 where
  pub times : (k : ℕ) → times_in k after ≡ bit (same_number key k) + times_in k before

abbrev pub OneMoreIf : Bool → ℕ → List ℕ → List ℕ → Type 0
OneMoreIf true key before after = OneMore key before after
OneMoreIf false key before after = after ≡ before

-- the node with one more operation handed out, and the child that does it
abbrev pub handed_on : Flying → Task → Flying
handed_on x op = record { at = x.at; stack = handed x.stack op }

abbrev pub new_flying : Flying → Task → Flying
new_flying x op = record { at = place_of x (next_seat x.stack); stack = fresh_stack op }

abbrev pub new_held : {N : Type 0} → N → Task → Parent → Held N
new_held c op parent = record { node = c; kind = kind_of_task op; parent = parent; tally = tally_of fresh }

abbrev pub grown : {N : Type 0} → Held N → N → Task → Held N
grown {N = N} h node op = with_both {N = N} h node (raised (kind_of_task op) h.tally)

-- its nth child, which sits there, is so far now
abbrev pub heard_as : Flying → ℕ → Seat → Slot → Child → Flying
heard_as q n seat slot c = record {
  at = q.at;
  stack = with_children (set_at q.stack seat slot)
      (slice_set q.stack.children n c);
}

-- ---- counts

-- the child isn't ready; one that ended counts as ready
abbrev pub owes : Phase → Child → Bool
owes Ready c = cond c.told false (cond c.ended false true)
owes Done c = cond c.ended false true

-- one that owes its readiness or its end
abbrev pub owing : ChildKind → Phase → Child → ℕ
owing kind phase c = cond (same_kind c.kind kind) (bit (owes phase c)) 0

abbrev pub count_owing : ChildKind → Phase → List Child → ℕ
count_owing kind phase [] = 0
count_owing kind phase (c ∷ cs) = owing kind phase c + count_owing kind phase cs

-- the counts are those of the children
abbrev pub CountsAre : Tally → List Child → Type 0
CountsAre tally children = (kind : ChildKind) (phase : Phase) → counted kind phase tally ≡ count_owing kind phase children
