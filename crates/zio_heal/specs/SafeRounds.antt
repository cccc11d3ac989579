-- What a round keeps: it begins with bound blocks that are safe and requests that may run over them, and it ends so.
use Rattle.std.specs.Prelude.{◌≡◌, ◌≢◌, ℕ, ◌+◌, List, [], ◌∷◌, ◌++◌, length, map, replicate, count_by, Bool, true, false, Option, Some, None, IsSome, ◌⊎◌}
use Rattle.std.specs.List.{AllByRecursion, flat_map}
use Rattle.zio_types.specs.Choices.{Choice}
use Rattle.zio_blkptr.specs.declared.pointer.Bp.{Bp}
use Rattle.zio_script.specs.declared.limits.TheConstants.{POINTER_SIZE}
use Rattle.zio_script.specs.declared.script.Body.{Body}
use Rattle.zio_script.specs.declared.script.Work.{Work}
use Rattle.zio_script.specs.declared.script.Work.TheVariants.{Null, Read, Write, Free, Claim}
use Rattle.zio_script.specs.Bodies.{body_of}
use Rattle.zio_script.specs.Requests.{is_under_number, name_of, names_it}
use Rattle.zio_cksum.specs.Headers.{member_bytes}
use Rattle.zio_gang.specs.declared.tree.Tree.{Tree}
use Rattle.zio_gang.specs.Attempts.{Child, Ended, Pending}
use Rattle.zio_gang.specs.Journals.{AreChoicesOf, choices_in}
use Rattle.zio_gang.specs.Rounds.{Bound, block_of, bound_after, is_bound, settle_each, used_places}
use Rattle.zio_gang.specs.Trees.{sizes_of}
use Rattle.zio_gang.specs.Writes.{content_of}
use Rattle.zio_trace.specs.Leaves.{HaveSizes}
use Rattle.zio_trace.specs.RoundTraces.{is_single_or_piece}
use Rattle.zio_trace.specs.RunTraces.{RoundStart, in_round, round_from, trace_from}
use Rattle.zio_trace.specs.Separate.{IsNoClaim}
use Rattle.zio_trace.specs.SoundRounds.{IsRead}
use Rattle.zio_trace.specs.TreeOrders.{Pairs}
use Rattle.zio_heal.specs.Copies.{IsPastFaults, StoresAsGiven}
use Rattle.zio_heal.specs.Discipline.{IsUnfailing}
use Rattle.zio_heal.specs.Given.{AreTrueReads, Deeds}
use Rattle.zio_heal.specs.Pools.{IsBlockSize, IsPool, IsWriting, NoSmallRefused}
use Rattle.zio_heal.specs.SafeBlocks.{AreSafe, Contents}

-- ---- requests before a round

-- the request has the block of its name
pub record HasNamed (bound : Bound) (name : List ℕ) (block : Option Tree) : Type 0 where
  pub there : IsSome block
  pub is : block ≡ block_of bound name

-- a read or a free has the block of its name, and others have none; the name of a write isn't bound
abbrev pub NamesWell : Bound → Work → Option Tree → Type 0
NamesWell bound Null block = block ≡ None
NamesWell bound (Read name prio) block = HasNamed bound name block
NamesWell bound (Write name sum copies prio body) block = (block ≡ None) × (is_bound bound name ≡ false)
NamesWell bound (Free name) block = HasNamed bound name block
NamesWell bound (Claim name pointer) block = ⊥

-- a write with so many children makes a block that a pool can hold
abbrev pub FitsWrite : Pending → ℕ → Work → Type 0
FitsWrite p children (Write name sum copies prio body) =
    IsWriting p copies × IsBlockSize (length (content_of (replicate children None) (body_of body)))
FitsWrite p children _ = Unit {0}

-- the child's pointer takes as many bytes in its parent's content as zeros for none
abbrev pub HasSlot : Option Bp → Type 0
HasSlot pointer = length (member_bytes pointer) ≡ POINTER_SIZE

-- A request that may run in a round over these bound names, of which each request has so many children.
pub record IsReady (bound : Bound) (children : ℕ → ℕ) (p : Pending) : Type 0 where
  pub unfailing : IsUnfailing p
  pub claims : IsNoClaim p.request.work
  pub named : NamesWell bound p.request.work p.block
  pub fits : FitsWrite p (children p.request.number) p.request.work
  pub kept : AllByRecursion (λ (c : Child). HasSlot c.pointer) p.kept

-- a child of the request
abbrev pub is_child_of : Pending → Pending → Bool
is_child_of p q = is_under_number q.request.under p.request.number

-- Behind these requests each has all its children in front, but for those that finished.
abbrev pub HaveChildren : (ℕ → ℕ) → List Pending → List Pending → Type 0
HaveChildren children front [] = Unit {0}
HaveChildren children front (p ∷ ps) =
    (count_by (is_child_of p) front + length p.kept ≡ children p.request.number) × HaveChildren children (front ++ p ∷ []) ps

-- all requests of some trees
abbrev pub requests_in : List (List Pending) → List Pending
requests_in trees = flat_map (λ (tree : List Pending). tree) trees

-- two requests of different names, or two reads
abbrev pub NamesApart : Pending → Pending → Type 0
NamesApart p q =
    (names_it (name_of p.request.work) (name_of q.request.work) ≡ false) ⊎ (IsRead p.request.work × IsRead q.request.work)

abbrev pub NumbersDiffer : Pending → Pending → Type 0
NumbersDiffer p q = p.request.number ≢ q.request.number

abbrev pub EndsDiffer : Ended → Ended → Type 0
EndsDiffer e f = e.request.number ≢ f.request.number

-- Trees of requests that may run, each behind its children, with numbers and names of their own.
pub record AreReady (bound : Bound) (children : ℕ → ℕ) (trees : List (List Pending)) : Type 0 where
  pub each : AllByRecursion (IsReady bound children) (requests_in trees)
  pub kids : AllByRecursion (HaveChildren children []) trees
  pub numbers : Pairs NumbersDiffer (requests_in trees)
  pub names : Pairs NamesApart (requests_in trees)

-- ---- a round's start

-- The round's deeds, as a run has them.
abbrev pub deeds_in : List Choice → RoundStart → Deeds
deeds_in journal s = map (in_round s.terms) (trace_from is_single_or_piece journal s)

-- A round behind these deeds, over bound blocks that are safe, with requests that may run, a lawful journal, and reads that
-- accept what was given.
pub record IsSafeStart (journal : List Choice) (sizes : ℕ → ℕ) (ds : Deeds) (contents : Contents) (children : ℕ → ℕ) (s : RoundStart) : Type 0 where
  pub pool : IsPool sizes s.terms.setting.tops
  pub sizes_are : HaveSizes sizes s.images
  pub stores : StoresAsGiven s.terms.setting
  pub used : s.terms.used ≡ used_places s.bound
  pub safe : AreSafe s.terms.setting s.images ds contents s.bound
  pub ready : AreReady s.bound children s.trees
  pub lawful : AreChoicesOf (sizes_of s.terms.setting.tops) s.terms.used (round_from journal s).asks (choices_in s.terms.round journal)
  pub accepts : AreTrueReads ds (deeds_in journal s)

-- ---- and its end

-- the name has what its write stores: the pointers of its children, and its own data
pub record WroteContent (contents : Contents) (children : ℕ) (name : List ℕ) (body : Body) : Type 0 where
  pub pointers : List (Option Bp)
  pub many : length pointers ≡ children
  pub slots : AllByRecursion HasSlot pointers
  pub is : contents name ≡ content_of pointers (body_of body)

-- the write made a block of so many bytes as the content of its name
pub record MadeBlock (contents : Contents) (children : ℕ) (name : List ℕ) (body : Body) (made : Option Tree) : Type 0 where
  pub tree : Tree
  pub is : made ≡ Some tree
  pub size : tree.bp.size ≡ length (contents name)
  pub content : WroteContent contents children name body

-- what a request that ended was answered: a read has the content of its name, a write made a block of it
abbrev pub EndsAs : Contents → (ℕ → ℕ) → Ended → Work → Type 0
EndsAs contents children e Null = Unit {0}
EndsAs contents children e (Read name prio) = e.bytes ≡ contents name
EndsAs contents children e (Write name sum copies prio body) =
    MadeBlock contents (children e.request.number) name body e.tree
EndsAs contents children e (Free name) = Unit {0}
EndsAs contents children e (Claim name pointer) = ⊥

-- a request that ended without error, answered as its work says
pub record EndsWell (contents : Contents) (children : ℕ → ℕ) (e : Ended) : Type 0 where
  pub none : e.error ≡ None
  pub answered : EndsAs contents children e e.request.work

-- The round leaves bound blocks that are safe, with contents that differ from those before only in names that had none,
-- and requests that may run again; what ended was answered well. Where no row is met any more and no sector was refused,
-- nothing is left.
-- Rule: healing faults.
pub record IsSafeEnd (journal : List Choice) (sizes : ℕ → ℕ) (ds : Deeds) (contents : Contents) (children : ℕ → ℕ) (s : RoundStart) : Type 0 where
  pub after : Contents
  pub sizes_are : HaveSizes sizes (settle_each journal s.terms s.trees s.images).images
  pub safe : AreSafe s.terms.setting (settle_each journal s.terms s.trees s.images).images (ds ++ deeds_in journal s) after
      (bound_after (settle_each journal s.terms s.trees s.images).ended s.bound)
  pub others : (name : List ℕ) → is_bound s.bound name ≡ true → after name ≡ contents name
  pub ended : AllByRecursion (EndsWell after children) (settle_each journal s.terms s.trees s.images).ended
  pub ready : AreReady (bound_after (settle_each journal s.terms s.trees s.images).ended s.bound) children
      (settle_each journal s.terms s.trees s.images).left
  pub clean : IsPastFaults s.terms.setting → NoSmallRefused journal →
      (settle_each journal s.terms s.trees s.images).left ≡ []
