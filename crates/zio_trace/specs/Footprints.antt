-- Which single operations a task may do, whatever answers come: a read or a free of a block on the places of its pieces,
-- a write on the places that the journal has for its keys, and a claim reads alone.
use Rattle.std.specs.Prelude.{◌≡◌, ℕ, List, [], ◌∷◌, ◌++◌, map, Bool, true, false, Option, Some, None, IfOk, IsTrue, Contains}
use Rattle.std.specs.List.{AllByRecursion}
use Rattle.zio_types.specs.declared.place.Place.{Place}
use Rattle.zio_types.specs.Choices.{Ask, Choice}
use Rattle.zio_types.specs.Places.{is_inside, sector_size}
use Rattle.zio_blkptr.specs.declared.pointer.Bp.{Bp}
use Rattle.zio_script.specs.declared.script.Work.{Work}
use Rattle.zio_script.specs.declared.script.Work.TheVariants.{Null, Read as WorkRead, Write, Free, Claim}
use Rattle.zio_cksum.specs.Frames.{spots_of}
use Rattle.zio_cksum.specs.Images.{Setting, Spot}
use Rattle.zio_gang.specs.declared.tree.Tree.{Tree}
use Rattle.zio_gang.specs.Attempts.{Terms, Pending}
use Rattle.zio_gang.specs.Trees.{sizes_of}
use Rattle.zio_gang.specs.Writes.{chosen}
use Rattle.zio_trace.specs.BlockCopies.{Copies, body_copies, copies_from, copies_of, reading_of}
use Rattle.zio_trace.specs.Families.{flat}
use Rattle.zio_trace.specs.Leaves.{stores, IsAmong}
use Rattle.zio_trace.specs.Programs.{Program, Ends, Asks}
use Rattle.zio_trace.specs.Tasks.{Task, Leaf, Find, ReadCopies, WriteCopies, WritePart, ReadHeads, ReadTree, TakePlaces, Attempt, Settle, Look, ByKept, ByClaim, Value, Walked, good_by, got, found, walked, attempted}

-- Whatever fitting answers it gets, each operation that the program asks is one of these, and what it ends with is so.
abbrev pub Stays : {Op Ans A : Type 0} → (Op → Ans → Type 0) → (Op → Type 0) → (A → Type 0) → Program Op Ans A → Type 0
Stays Fits P Q (Ends a) = Q a
Stays {Op} {Ans} Fits P Q (Asks op more) = P op × ((answer : Ans) → Fits op answer → Stays Fits P Q (more answer))

-- an operation on one of these spots, which asks for at most so many bytes
abbrev pub OnSpots : List Spot → ℕ → Task → Type 0
OnSpots spots len (Leaf op) = IsAmong spots len op
OnSpots spots len _ = ⊥

-- an operation on the copies of a piece
abbrev pub OnCopies : Setting → Copies → Task → Type 0
OnCopies s c d = OnSpots (spots_of s c.places) c.len d

-- the read of the copies with repairs, taken as one operation
abbrev pub IsReading : Copies → Task → Type 0
IsReading c d = reading_of c ≡ d

-- a read
abbrev pub ReadsAlone : Task → Type 0
ReadsAlone (Leaf op) = stores op ≡ false
ReadsAlone _ = ⊥

-- a read on the copies of a header, whose places were found inside their tops before
abbrev pub ReadsHeader : Setting → Task → Type 0
ReadsHeader s (Leaf op) =
    (stores op ≡ false)
    × ((places : List Place) × AllByRecursion (λ (p : Place). IsTrue (is_inside (sizes_of s.tops) p)) places × IsAmong (spots_of s places) sector_size op)
ReadsHeader s _ = ⊥

-- an ask of this part of a request's write in this round, or of a part below it
pub record IsOfPart (round request attempt : ℕ) (path : List ℕ) (a : Ask) : Type 0 where
  pub now : a.key.round ≡ round
  pub by : a.key.request ≡ request
  pub during : a.key.attempt ≡ attempt
  pub below : List ℕ
  pub at : a.key.path ≡ path ++ below

-- the part's asks, and operations on the places that the journal has for them
abbrev pub OfPart : List Choice → Terms → ℕ → ℕ → List ℕ → Task → Type 0
OfPart journal t request attempt path (Find a) = IsOfPart t.round request attempt path a
OfPart journal t request attempt path (Leaf op) =
    (a : Ask) × (places : List Place) × IsOfPart t.round request attempt path a
    × (chosen journal a ≡ Some places) × IsAmong (spots_of t.setting places) 0 op
OfPart journal t request attempt path _ = ⊥

-- ---- by what the reads of copies with repairs do

-- of one of these pieces
abbrev pub OnOneOf : (Copies → Task → Type 0) → List Copies → Task → Type 0
OnOneOf Reads cs d = (c : Copies) × Contains cs c × Reads c d

abbrev pub OfBlock : (Copies → Task → Type 0) → Option Tree → Task → Type 0
OfBlock Reads None d = ⊥
OfBlock Reads (Some tree) d = OnOneOf Reads (copies_of tree) d

-- a claim reads headers, and then takes places
abbrev pub OfClaim : Setting → Task → Type 0
OfClaim s (TakePlaces tree) = Unit {0}
OfClaim s d = ReadsHeader s d

abbrev pub OfWork : (Copies → Task → Type 0) → List Choice → Terms → Pending → Work → Task → Type 0
OfWork Reads journal t p Null d = ⊥
OfWork Reads journal t p (WorkRead name prio) d = OfBlock Reads p.block d
OfWork Reads journal t p (Write name sum copies prio body) d = (attempt : ℕ) × OfPart journal t p.request.number attempt [] d
OfWork Reads journal t p (Free name) d = OfBlock Reads p.block d
OfWork Reads journal t p (Claim name pointer) d = OfClaim t.setting d

-- the own work of one of these requests
abbrev pub OfTreeBy : (Copies → Task → Type 0) → List Choice → Terms → List Pending → Task → Type 0
OfTreeBy Reads journal t ps d = (p : Pending) × Contains ps p × OfWork Reads journal t p p.request.work d

abbrev pub OfHeads : (Copies → Task → Type 0) → Setting → Look → ℕ → List ℕ → Bp → Task → Type 0
OfHeads Reads s (ByKept heads) levels path bp d = OnOneOf Reads (copies_from levels heads path bp).heads d
OfHeads Reads s ByClaim levels path bp d = ReadsHeader s d

abbrev pub ReadsBy : (Copies → Task → Type 0) → Setting → Bool → Copies → Task → Type 0
ReadsBy Reads s true c d = Reads c d
ReadsBy Reads s false c d = OnCopies s c d × ReadsAlone d

abbrev pub WithinBy : (Copies → Task → Type 0) → List Choice → Terms → Task → Task → Type 0
WithinBy Reads journal t (Leaf op) d = Leaf op ≡ d
WithinBy Reads journal t (Find a) d = Find a ≡ d
WithinBy Reads journal t (TakePlaces tree) d = TakePlaces tree ≡ d
WithinBy Reads journal t (ReadCopies repair test len places) d = ReadsBy Reads t.setting repair (record { test = test; len = len; places = places }) d
WithinBy Reads journal t (WriteCopies bytes places) d = OnSpots (spots_of t.setting places) 0 d
WithinBy Reads journal t (WritePart attempt p sum copies levels path bytes) d = OfPart journal t p.request.number attempt path d
WithinBy Reads journal t (ReadHeads look levels path bp) d = OfHeads Reads t.setting look levels path bp d
WithinBy Reads journal t (ReadTree tree) d = OnOneOf Reads (copies_of tree) d
WithinBy Reads journal t (Attempt attempt p kids) d = OfTreeBy Reads journal t (p ∷ flat kids) d
WithinBy Reads journal t (Settle p kids) d = OfTreeBy Reads journal t (p ∷ flat kids) d

-- ---- single operations

-- the own work of a request
abbrev pub OfRequest : List Choice → Terms → Pending → Task → Type 0
OfRequest journal t p d = OfWork (OnCopies t.setting) journal t p p.request.work d

abbrev pub OfTree : List Choice → Terms → List Pending → Task → Type 0
OfTree journal t ps d = OfTreeBy (OnCopies t.setting) journal t ps d

-- what a task may do
abbrev pub Within : List Choice → Terms → Task → Task → Type 0
Within journal t o d = WithinBy (OnCopies t.setting) journal t o d

-- the same where a read of copies with repairs is one operation
abbrev pub WithinWhole : List Choice → Terms → Task → Task → Type 0
WithinWhole journal t o d = WithinBy IsReading journal t o d

-- ---- answers

-- each is one of these requests, with its block
abbrev pub AreFrom : List Pending → List Pending → Type 0
AreFrom ps qs = AllByRecursion (λ (q : Pending). (p : Pending) × Contains ps p × (p.request ≡ q.request) × (p.block ≡ q.block)) qs

-- the bodies that a walk came to are of these, and all of them where nothing failed
abbrev pub FindsBodies : List Copies → Walked → Type 0
FindsBodies bodies w =
    AllByRecursion (λ (b : Bp). Contains bodies (body_copies b)) w.bodies × (w.errors ≡ [] → map body_copies w.bodies ≡ bodies)

abbrev pub FitsHeads : Look → ℕ → List ℕ → Bp → Walked → Type 0
FitsHeads (ByKept heads) levels path bp w = FindsBodies (copies_from levels heads path bp).bodies w
FitsHeads ByClaim levels path bp w = Unit {0}

-- an answer that a task can have under the journal
abbrev pub FitsTask : List Choice → Terms → Task → Value → Type 0
FitsTask journal t (Find a) v = found v ≡ chosen journal a
FitsTask journal t (ReadCopies repair test len places) v = IfOk (got v) (λ bytes. IsTrue (good_by test bytes))
FitsTask journal t (ReadHeads look levels path bp) v = FitsHeads look levels path bp (walked v)
FitsTask journal t (Attempt attempt p kids) v = AreFrom (p ∷ flat kids) (flat (attempted v).left)
FitsTask journal t _ v = Unit {0}
