-- What a helper reckons of nodes whose turn it isn't yet, and what is done with it.
use Rattle.std.specs.Prelude.{◌≡◌, ℕ, List, map, Option, Some, None, IfSome}
use Rattle.std.specs.List.{AllByRecursion}
use Rattle.zio_gang.specs.Attempts.{Terms}
use Rattle.zio_trace.specs.Families.{Forest}
use Rattle.zio_trace.specs.SoundRounds.{IsSoundRound}
use Rattle.slab.specs.Slab.{Slab, get}
use Rattle.zio_staged.specs.Entries.{times_in}
use Rattle.zio_staged.specs.Parts.{Nodes}
use Rattle.zio_turns.specs.Rounds.{Before, KeepsRound, SoFar}
use Rattle.zio_turns.specs.declared.entry.TiedNode.{TiedNode}
use Rattle.zio_turns.specs.declared.helper.Wanted.{Wanted}

-- ---- one node

abbrev pub node_in : {N : Type 0} → Option (TiedNode N) → Option N
node_in None = None
node_in (Some e) = Some e.node

-- the node under the key, if there is one
abbrev pub node_at : {N : Type 0} → Slab (TiedNode N) → ℕ → Option N
node_at {N = N} slab key = node_in {N = N} (get slab key)

-- this was reckoned of the node there
abbrev pub FitsAt : {N A : Type 0} → (N → A → Type 0) → Slab (TiedNode N) → ℕ → A → Type 0
FitsAt {N = N} fits slab key a = IfSome (node_at {N = N} slab key) (λ node. fits node a)

-- ---- what is wanted

abbrev pub keys_wanted : {A : Type 0} → List (Wanted A) → List ℕ
keys_wanted {A = A} ws = map (λ (w : Wanted A). w.key) ws

-- nothing is reckoned yet
abbrev pub AreBlank : {A : Type 0} → List (Wanted A) → Type 0
AreBlank {A = A} ws = AllByRecursion (λ (w : Wanted A). w.ahead ≡ None) ws

-- what was reckoned is of the nodes under the keys
abbrev pub AreReckoned : {N A : Type 0} → (N → A → Type 0) → Slab (TiedNode N) → List (Wanted A) → Type 0
AreReckoned {N = N} {A = A} fits slab ws =
    AllByRecursion (λ (w : Wanted A). IfSome w.ahead (FitsAt {N = N} {A = A} fits slab w.key)) ws

-- ---- what is kept

-- each key is queued as often
abbrev pub AreReordered : List ℕ → List ℕ → Type 0
AreReordered line line_now = (k : ℕ) → times_in k line_now ≡ times_in k line

-- each sound round that is kept with this queue is as far with that one
abbrev pub StaysKept : {N : Type 0} → Nodes N → Slab (TiedNode N) → List ℕ → Slab (TiedNode N) → List ℕ → Type 0
StaysKept {N = N} nodes slab line slab_now line_now =
    (t : Terms) (sizes : ℕ → ℕ) (f : Forest) (before : Before) (s : SoFar) (leaves : List ℕ) → IsSoundRound t sizes f →
    KeepsRound {N = N} nodes t sizes f before s slab line leaves → KeepsRound {N = N} nodes t sizes f before s slab_now line_now leaves
