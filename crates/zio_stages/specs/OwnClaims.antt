-- A claim's own work behind other operations of its node's part: the walk over the block's headers, and then its places are taken.
use Rattle.std.specs.Prelude.{◌≡◌, List, [], ◌∷◌, true, false, Option, Some, None, Result, Ok, Err, IfSome, IsTrue}
use Rattle.zio_types.specs.declared.error.Errno.{Errno}
use Rattle.zio_types.specs.declared.place.Place.{Place}
use Rattle.zio_types.specs.declared.place.Top.{Top}
use Rattle.zio_blkptr.specs.declared.pointer.Bp.{Bp}
use Rattle.zio_blkptr.specs.Pointers.{valid}
use Rattle.zio_gang.specs.declared.tree.Tree.{Tree}
use Rattle.zio_gang.specs.Trees.{header_levels_max, sizes_of, tree_places}
use Rattle.zio_trace.specs.Plans.{only, own_taken, plan_taken}
use Rattle.zio_trace.specs.Tasks.{ByClaim, OwnGot, ReadHeads, TakePlaces, Taken, Task, Walked, WalkedBy}
use Rattle.zio_frames.specs.Frames.{Child, Stack}
use Rattle.zio_frames.specs.Slots.{Heard, IsOut, Slot}
use Rattle.zio_parts.specs.TreeReads.{claiming}
use Rattle.zio_exchange.specs.SpaceCalls.{LieOnTops}
use Rattle.zio_stages.specs.OwnParts.{IsBehind}
use Rattle.zio_stages.specs.StoredBlocks.{block_places}
use Rattle.zio_stages.specs.declared.own_claim.ClaimStep.{ClaimStep}
use Rattle.zio_stages.specs.declared.own_claim.ClaimStep.TheVariants.{Due, Failed, Found, Out, Refused, Taken as TakenStep}
use Rattle.zio_stages.specs.declared.own_claim.OwnClaim.{OwnClaim}

-- the walk over a claim's headers
abbrev pub claim_task : Bp → Task
claim_task bp = ReadHeads ByClaim header_levels_max [] bp

-- what a walk left is this block, or the worst of its errors
abbrev pub ComesTo : Bp → Walked → Result Tree Errno → Type 0
ComesTo bp walked found = plan_taken walked.errors (record { bp = bp; heads = walked.heads }) ≡ claiming found

-- the walk was heard, and came to this; then these were asked
pub record HasWalked (bp : Bp) (found : Result Tree Errno) (more_asked : List Task) (more : List Slot) (asked : List Task) (slots : List Slot) : Type 0 where
  pub walked : Walked
  pub comes : ComesTo bp walked found
  pub asked_are : asked ≡ claim_task bp ∷ more_asked
  pub slots_are : slots ≡ Heard (WalkedBy walked) ∷ more

-- it is so far
abbrev pub IsClaimStep : Bp → Tree → ClaimStep → List Task → List Slot → Type 0
IsClaimStep bp tree Due asked slots = (asked ≡ []) × (slots ≡ [])
IsClaimStep bp tree Out asked slots = (told : Option (Option Bp)) × (asked ≡ claim_task bp ∷ []) × (slots ≡ IsOut told ∷ [])
IsClaimStep bp tree (Failed e) asked slots = HasWalked bp (Err e) [] [] asked slots
IsClaimStep bp tree Found asked slots = HasWalked bp (Ok tree) [] [] asked slots
IsClaimStep bp tree TakenStep asked slots = HasWalked bp (Ok tree) (TakePlaces tree ∷ []) (Heard (Taken true) ∷ []) asked slots
IsClaimStep bp tree Refused asked slots = HasWalked bp (Ok tree) (TakePlaces tree ∷ []) (Heard (Taken false) ∷ []) asked slots

-- bytes that spell no pointer ask nothing
abbrev pub IsClaimOf : Option Bp → Option Tree → ClaimStep → List Task → List Slot → Type 0
IsClaimOf None None step asked slots = (asked ≡ []) × (slots ≡ [])
IsClaimOf None (Some tree) step asked slots = ⊥
IsClaimOf (Some bp) None step asked slots = ⊥
IsClaimOf (Some bp) (Some tree) step asked slots = (tree.bp ≡ bp) × IsClaimStep bp tree step asked slots

-- Behind the operations in front its node's part asked these of the claim of this pointer, and they are so far.
pub record IsOwnClaim (w : OwnClaim) (family : List Child) (pointer : Option Bp) (front_asked : List Task) (front : List Slot) (st : Stack) : Type 0 where
  pub asked : List Task
  pub slots : List Slot
  pub children : family ≡ st.children
  pub behind : IsBehind front_asked front asked slots st
  pub claim : IsClaimOf pointer w.block w.step asked slots
  pub alone : st.inner ≡ None

-- ---- what its fields owe

-- the places of a block that is to be taken lie on the tops
abbrev pub LiesFound : List Top → Tree → ClaimStep → Type 0
LiesFound tops tree Found = LieOnTops (sizes_of tops) (tree_places tree)
LiesFound tops tree _ = Unit {0}

-- where a walk from the pointer met no error, those of the block that it found do
abbrev pub LiesWalked : List Top → Bp → Walked → Type 0
LiesWalked tops bp w = w.errors ≡ [] → LieOnTops (sizes_of tops) (tree_places (record { bp = bp; heads = w.heads }))

abbrev pub IsClaimOver : List Top → OwnClaim → Type 0
IsClaimOver tops w = IfSome w.block (λ tree. IsTrue (valid tree.bp) × LiesFound tops tree w.step)

-- ---- its end

-- bytes that spell this pointer, or none, are those of this block
abbrev pub IsBlockOf : Option Bp → Option Tree → Type 0
IsBlockOf None None = Unit {0}
IsBlockOf None (Some tree) = ⊥
IsBlockOf (Some bp) None = ⊥
IsBlockOf (Some bp) (Some tree) = (tree.bp ≡ bp) × IsTrue (valid tree.bp)

-- it came to an end
abbrev pub HasClaimEnded : Option Tree → ClaimStep → Type 0
HasClaimEnded None step = Unit {0}
HasClaimEnded (Some tree) Due = ⊥
HasClaimEnded (Some tree) Out = ⊥
HasClaimEnded (Some tree) Found = ⊥
HasClaimEnded (Some tree) _ = Unit {0}

-- the places of its block, where they were taken
abbrev pub taken_by : Option Tree → ClaimStep → List Place
taken_by None step = []
taken_by (Some tree) TakenStep = block_places (Some tree)
taken_by (Some tree) _ = []

abbrev pub own_claimed : Result Tree Errno → OwnGot
own_claimed (Ok tree) = own_taken true tree
own_claimed (Err e) = only (Some e)
