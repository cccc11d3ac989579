-- A free's own work behind other operations: its walk at once, and its end.
use Rattle.std.proofs.Common.{◌≡◌, ℕ, List, [], ◌∷◌, ◌++◌, length, set, Option, Some, None, refl, sym, ap, subst, ◌∙◌}
use Rattle.zio_types.specs.declared.error.Errno.{Errno}
use Rattle.zio_types.specs.declared.place.Top.{Top}
use Rattle.zio_types.specs.Errors.{worst_of}
use Rattle.zio_types.specs.declared.request.ChildKind.TheVariants.{Gang}
use Rattle.zio_blkptr.specs.declared.pointer.Bp.{Bp}
use Rattle.zio_gang.specs.declared.tree.Tree.{Tree}
use Rattle.zio_gang.specs.Attempts.{Terms}
use Rattle.zio_trace.specs.Plans.{only, plan, plan_free}
use Rattle.zio_trace.specs.Programs.{Ends}
use Rattle.zio_trace.specs.Tasks.{Task, Walked, WalkedBy}
use Rattle.zio_frames.specs.Frames.{Child, OfOuter, Stack}
use Rattle.zio_frames.specs.Moves.{child_ended, child_told, heard_early, heard_of}
use Rattle.zio_frames.specs.Slots.{AllHeard, Heard, IsOut, Slot, left_behind_slots, told_in}
use Rattle.zio_stages.specs.NodeChildren.{new_child}
use Rattle.zio_stages.specs.OwnFrees.{IsFreeWalk, IsOwnFree}
use Rattle.zio_stages.specs.OwnParts.{DoesThen, GoesOnAs, HandsTo, IsBehind}
use Rattle.zio_stages.specs.TreeWorks.{heads_task}
use Rattle.zio_stages.specs.declared.own_free.FreeWalk.{FreeWalk}
use Rattle.zio_stages.specs.declared.own_free.FreeWalk.TheVariants.{Due, Ended, Out}
use Rattle.zio_stages.proofs.BehindLemmas.{first_at_once, heard_inner}
use Rattle.zio_stages.proofs.FirstLemmas.{hands_first, hears_first, tells_first, told_inner}

pub free_walks : (t : Terms) (tops : List Top) (old new : FreeWalk) (family : List Child) (tree : Tree) (front_asked : List Task) (front : List Slot) (st : Stack) (walked : Walked)
    → old ≡ Due → new ≡ Ended (worst_of walked.errors) → plan t (heads_task tree) ≡ Ends (WalkedBy walked)
    → GoesOnAs t tops (plan_free (Some tree)) front st → IsOwnFree old family tree front_asked front st
    → DoesThen t st [] (IsOwnFree new family tree front_asked front)
free_walks t tops old new family tree front_asked front st walked due ended ends goes h =
    let none : (h.asked ≡ []) × (h.slots ≡ []) = subst (λ (w : FreeWalk). IsFreeWalk tree w h.asked h.slots) due h.walk in
    let behind : IsBehind front_asked front [] [] st =
    subst (λ (xs : List Task). IsBehind front_asked front xs [] st) none.0 (subst (λ (ys : List Slot). IsBehind front_asked front h.asked ys st) none.1 h.behind) in
    first_at_once t tops (plan_free (Some tree)) front_asked front st (heads_task tree) (WalkedBy walked) (IsOwnFree new family tree front_asked front) goes behind h.alone refl tt refl ends
    (λ b is alone children. record {
      asked = heads_task tree ∷ [];
      slots = Heard (WalkedBy walked) ∷ [];
      children = h.children ∙ sym children;
      behind = is;
      walk = subst (λ (w : FreeWalk). IsFreeWalk tree w (heads_task tree ∷ []) (Heard (WalkedBy walked) ∷ [])) (sym ended) (walked, refl, refl, refl);
      alone = alone;
    })

pub free_ends : (w : FreeWalk) (family : List Child) (tree : Tree) (front_asked : List Task) (front : List Slot) (st : Stack) (error : Option Errno) → w ≡ Ended error
    → (h : IsOwnFree w family tree front_asked front st) → AllHeard h.slots × (left_behind_slots h.slots (plan_free (Some tree)) ≡ Ends (only error))
free_ends w family tree front_asked front st error ended h =
    let is : IsFreeWalk tree (Ended error) h.asked h.slots = subst (λ (x : FreeWalk). IsFreeWalk tree x h.asked h.slots) ended h.walk in (
      ap told_in is.2,
      ap (λ (xs : List Slot). left_behind_slots xs (plan_free (Some tree))) is.2 ∙ ap (λ (e : Option Errno). Ends (only e)) (sym is.3),
    )

-- ---- a gang's walk

pub free_hands : (t : Terms) (tops : List Top) (family more : List Child) (tree : Tree) (front_asked : List Task) (front : List Slot) (st : Stack) (n : ℕ) → length front ≡ n
    → more ≡ family ++ new_child (OfOuter n) Gang ∷ [] → GoesOnAs t tops (plan_free (Some tree)) front st → IsOwnFree Due family tree front_asked front st
    → HandsTo t Gang (λ op. op ≡ heads_task tree) (IsOwnFree Out more tree front_asked front) st
free_hands t tops family more tree front_asked front st n count grown goes h =
    let behind : IsBehind front_asked front [] [] st =
    subst (λ (xs : List Task). IsBehind front_asked front xs [] st) h.walk.0 (subst (λ (ys : List Slot). IsBehind front_asked front h.asked ys st) h.walk.1 h.behind) in
    hands_first t tops (plan_free (Some tree)) front_asked front st (heads_task tree) n family more (IsOwnFree Out more tree front_asked front) goes behind h.alone refl refl count h.children grown
    (λ b is alone children. record {
      asked = heads_task tree ∷ [];
      slots = IsOut None ∷ [];
      children = children;
      behind = is;
      walk = (None, refl, refl);
      alone = alone;
    })

pub free_tells : (family more : List Child) (tree : Tree) (front_asked : List Task) (front : List Slot) (st : Stack) (k : ℕ) (c : Child) (pointer : Option Bp) → c.seat ≡ OfOuter (length front)
    → more ≡ set family k (child_told c) → IsOwnFree Out family tree front_asked front st → IsOwnFree Out more tree front_asked front (heard_early st k c pointer)
free_tells family more tree front_asked front st k c pointer seat told h = record {
  asked = h.asked;
  slots = IsOut (Some pointer) ∷ [];
  children = told ∙ ap (λ (cs : List Child). set cs k (child_told c)) h.children;
  behind = tells_first front_asked front h.asked h.walk.0 st k c pointer seat (subst (λ (ys : List Slot). IsBehind front_asked front h.asked ys st) h.walk.2 h.behind);
  walk = (Some pointer, h.walk.1, refl);
  alone = told_inner st k (length front) c pointer seat ∙ h.alone;
}

pub free_hears : (family more : List Child) (tree : Tree) (front_asked : List Task) (front : List Slot) (st : Stack) (k : ℕ) (c : Child) (walked : Walked) (error : Option Errno) → c.seat ≡ OfOuter (length front)
    → more ≡ set family k (child_ended c) → error ≡ worst_of walked.errors → IsOwnFree Out family tree front_asked front st
    → IsOwnFree (Ended error) more tree front_asked front (heard_of st k c (WalkedBy walked))
free_hears family more tree front_asked front st k c walked error seat ended worst h = record {
  asked = h.asked;
  slots = Heard (WalkedBy walked) ∷ [];
  children = ended ∙ ap (λ (cs : List Child). set cs k (child_ended c)) h.children;
  behind = hears_first front_asked front h.asked h.walk.0 st k c (WalkedBy walked) seat (subst (λ (ys : List Slot). IsBehind front_asked front h.asked ys st) h.walk.2 h.behind);
  walk = (walked, h.walk.1, refl, worst);
  alone = heard_inner st k (length front) c (WalkedBy walked) seat ∙ h.alone;
}
