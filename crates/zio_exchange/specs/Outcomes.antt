-- What a node ends with: which value of its operation that is, and which requests and places are in it.
use Rattle.std.specs.Prelude.{◌≡◌, ℕ, List, [], ◌∷◌, ◌++◌, Bool, true, false, Option, Some, None, IsTrue, is_none, option_to_list}
use Rattle.std.specs.List.{flat_map}
use Rattle.zio_types.specs.declared.place.Place.{Place}
use Rattle.zio_types.specs.declared.request.Bits.{Bits}
use Rattle.zio_blkptr.specs.declared.pointer.Bp.{Bp}
use Rattle.zio_blkptr.specs.Pointers.{FitsTypes, valid}
use Rattle.zio_script.specs.declared.script.Work.{Work}
use Rattle.zio_script.specs.declared.script.Work.TheVariants.{Null, Read, Write, Free, Claim}
use Rattle.zio_gang.specs.declared.tree.Head.{Head}
use Rattle.zio_gang.specs.declared.tree.Tree.{Tree}
use Rattle.zio_gang.specs.Attempts.{Ended, Terms, has_bits, no_bits}
use Rattle.zio_gang.specs.Trees.{sizes_of, tree_places}
use Rattle.zio_trace.specs.Families.{NoTrees}
use Rattle.zio_trace.specs.Plans.{own_stored}
use Rattle.zio_trace.specs.Tasks.{Attempt, AttemptedBy, ByClaim, Find, Found as FoundPlaces, Got, Leaf, One, ReadCopies, ReadHeads, Stored as Left, StoredAs, TakePlaces, Taken, Task, Value, Walked as Walk, WalkedBy, WritePart}
use Rattle.zio_frames.specs.Frames.{Stack}
use Rattle.zio_frames.specs.Slots.{Heard, IsOut, Slot}
use Rattle.zio_parts.specs.declared.parts.StoredPart.{StoredPart}
use Rattle.zio_children.specs.RequestKids.{IsLeftBy}
use Rattle.zio_exchange.specs.SpaceCalls.{LieOnTops}
use Rattle.zio_exchange.specs.Wholes.{IsLeft, root_number}
use Rattle.zio_exchange.specs.declared.outcome.FinishedRequest.{FinishedRequest}
use Rattle.zio_exchange.specs.declared.outcome.Outcome.{Outcome}
use Rattle.zio_exchange.specs.declared.outcome.Outcome.TheVariants.{Again, Finished as HasFinished, Found, Stored, Walked}
use Rattle.zio_exchange.specs.declared.waiting.UnfinishedRequest.{UnfinishedRequest}

-- ---- which value it is

-- a request finished, and nothing of its tree is left
pub record IsFinishedAs (f : FinishedRequest) (one : One) : Type 0 where
  pub by : IsLeftBy one f.request no_bits f.error f.pointer
  pub again : one.again ≡ []
  pub left : one.left ≡ NoTrees

-- it goes again, and this is left of its tree
pub record IsLeftAs (whole : List UnfinishedRequest) (bits : Bits) (pointer : Option Bp) (one : One) : Type 0 where
  pub number : ℕ
  pub root : root_number whole ≡ Some number
  pub by : IsLeftBy one number bits None pointer
  pub some : has_bits bits ≡ true
  pub left : IsLeft whole one

-- where the walk over a claim's headers met no error, all places of the block that it found lie on the tops
abbrev pub ClaimsInside : Terms → Task → Walk → Type 0
ClaimsInside t (ReadHeads ByClaim levels path bp) w = w.errors ≡ [] →
    LieOnTops (sizes_of t.setting.tops) (tree_places (record { bp = bp; heads = w.heads }))
ClaimsInside t _ w = Unit {0}

abbrev pub stored_as : StoredPart → Left
stored_as x = record { error = x.error; pointer = x.pointer; heads = x.heads }

-- the pointer of a part that was written is one that a header can name, and where there is none there are no headers
abbrev pub IsKept : Option Bp → List Head → Type 0
IsKept None heads = heads ≡ []
IsKept (Some bp) heads = FitsTypes bp × IsTrue (valid bp)

-- which operations end with each
abbrev pub IsAttempt : Task → Type 0
IsAttempt (Attempt attempt p kids) = Unit {0}
IsAttempt _ = ⊥

abbrev pub IsReading : Task → Type 0
IsReading (Leaf act) = Unit {0}
IsReading (ReadCopies repair test len places) = Unit {0}
IsReading _ = ⊥

abbrev pub IsWalk : Task → Type 0
IsWalk (ReadHeads look levels path bp) = Unit {0}
IsWalk _ = ⊥

abbrev pub IsPart : Task → Type 0
IsPart (WritePart attempt p sum copies levels path bytes) = Unit {0}
IsPart _ = ⊥

-- it is this value of this operation
abbrev pub IsOutcome : {S : Type 0} → Terms → Task → Outcome S → Value → Type 0
IsOutcome t op (HasFinished f) v = IsAttempt op × ((one : One) × (v ≡ AttemptedBy one) × IsFinishedAs f one)
IsOutcome t op (Again whole bits pointer) v = IsAttempt op × ((one : One) × (v ≡ AttemptedBy one) × IsLeftAs whole bits pointer one)
IsOutcome t op (Found answer) v = IsReading op × (v ≡ Got answer)
IsOutcome t op (Walked walked) v = IsWalk op × (v ≡ WalkedBy walked) × ClaimsInside t op walked
IsOutcome t op (Stored part) v = IsPart op × (v ≡ StoredAs (stored_as part)) × IsKept part.pointer part.heads

-- ---- the requests in it

-- the definitions tell the same of the request that finished
pub record IsEndedAs (f : FinishedRequest) (e : Ended) : Type 0 where
  pub number : e.request.number ≡ f.request
  pub error : e.error ≡ f.error
  pub bytes : e.bytes ≡ f.bytes
  pub tree : e.tree ≡ f.block

-- of the request itself, if it finished
abbrev pub AreEndedAs : {S : Type 0} → Outcome S → List Ended → Type 0
AreEndedAs (HasFinished f) es = (e : Ended) × (es ≡ e ∷ []) × IsEndedAs f e
AreEndedAs (Again whole bits pointer) es = es ≡ []
AreEndedAs (Found answer) es = es ≡ []
AreEndedAs (Walked walked) es = es ≡ []
AreEndedAs (Stored part) es = es ≡ []

-- ---- the places that it holds

-- those of a part that was written
abbrev pub stored_places : Left → List Place
stored_places x = flat_map tree_places (option_to_list (own_stored x).tree)

abbrev pub found_in : Value → List Place
found_in (FoundPlaces (Some places)) = places
found_in _ = []

abbrev pub stored_in : Value → List Place
stored_in (StoredAs x) = stored_places x
stored_in _ = []

abbrev pub taken_in : Tree → Value → List Place
taken_in tree (Taken true) = tree_places tree
taken_in tree _ = []

-- the places that came with an operation's answer
abbrev pub places_by : Task → Value → List Place
places_by (Find a) v = found_in v
places_by (WritePart attempt p sum copies levels path bytes) v = stored_in v
places_by (TakePlaces tree) v = taken_in tree v
places_by _ v = []

abbrev pub places_with : Task → Slot → List Place
places_with op (Heard v) = places_by op v
places_with op (IsOut told) = []

abbrev pub places_in : List Task → List Slot → List Place
places_in [] slots = []
places_in (op ∷ asked) [] = []
places_in (op ∷ asked) (slot ∷ slots) = places_with op slot ++ places_in asked slots

-- those that a node's part came to so far
abbrev pub held_by : Stack → List Place
held_by st = places_in st.outer.asked st.outer.slots

-- it heard of no attempt
abbrev pub IsNoAttemptIn : Slot → Type 0
IsNoAttemptIn (Heard (AttemptedBy one)) = ⊥
IsNoAttemptIn (Heard v) = Unit {0}
IsNoAttemptIn (IsOut told) = Unit {0}

-- those of the block that the request made
abbrev pub made_by : {S : Type 0} → Outcome S → List Place
made_by (HasFinished f) = flat_map tree_places (option_to_list f.block)
made_by (Again whole bits pointer) = []
made_by (Found answer) = []
made_by (Walked walked) = []
made_by (Stored part) = []

-- those of the block that the request freed
abbrev pub freed_of : Work → Option Tree → List Place
freed_of Null block = []
freed_of (Read name prio) block = []
freed_of (Write name sum copies prio body) block = []
freed_of (Free name) block = flat_map tree_places (option_to_list block)
freed_of (Claim name pointer) block = []

abbrev pub freed_if : Bool → List Place → List Place
freed_if true places = places
freed_if false places = []

abbrev pub freed_with : Task → FinishedRequest → List Place
freed_with (Attempt attempt p kids) f = freed_if (is_none f.error) (freed_of p.request.work p.block)
freed_with _ f = []

abbrev pub freed_by : {S : Type 0} → Task → Outcome S → List Place
freed_by op (HasFinished f) = freed_with op f
freed_by op (Again whole bits pointer) = []
freed_by op (Found answer) = []
freed_by op (Walked walked) = []
freed_by op (Stored part) = []
