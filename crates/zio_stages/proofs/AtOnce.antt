-- Walks that ask nothing: what they come to.
use Rattle.std.proofs.Common.{◌≡◌, ℕ, List, [], true, false, Bool, Option, Some, None, refl, sym, ap, ◌∙◌}
use Rattle.std.specs.Prelude.{IfSome}
use Rattle.zio_blkptr.specs.declared.pointer.Bp.{Bp}
use Rattle.zio_gang.specs.Trees.{header_levels_max}
use Rattle.zio_trace.specs.Plans.{plan_pointer}
use Rattle.zio_trace.specs.Programs.{Ends}
use Rattle.zio_trace.specs.Tasks.{ByKept, Walked, WalkedBy}
use Rattle.zio_parts.specs.HeadWalks.{Walking, body_of, following, fresh_walk, left_of_walk}

pub if_some_then : {X : Type 0} (o : Option X) (P Q : X → Type 0) → ((x : X) → P x → Q x) → IfSome o P → IfSome o Q
if_some_then None P Q f h = tt
if_some_then (Some x) P Q f h = f x h

body_by : (gang : Bool) (path : List ℕ) (bp : Bp) (walked : Walked)
    → plan_pointer None gang bp (following (ByKept []) header_levels_max path bp) ≡ Ends (WalkedBy walked) → (walked ≡ body_of bp) × (gang ≡ false)
body_by false path bp walked e = let same : WalkedBy (body_of bp) ≡ WalkedBy walked = cc in (cc, refl)
body_by true path bp walked e = absurd (cc)

-- where the walk over a block's headers asks nothing it comes to its body
pub body_alone : (bp : Bp) (walk : Walking) (walked : Walked) (path : List ℕ) → walk ≡ fresh_walk false header_levels_max path bp None
    → left_of_walk [] walk ≡ Ends (WalkedBy walked) → (walked ≡ body_of bp) × (bp.gang ≡ false)
body_alone bp walk walked path is ends = body_by bp.gang path bp walked (ap (left_of_walk []) (sym is) ∙ ends)
