-- A request that is no write has no pointer.
use Rattle.std.proofs.Common.{◌≡◌, ℕ, List, [], ◌∷◌, Bool, true, false, Option, Some, None, Ok, Err, refl, sym, subst, ◌∙◌}
use Rattle.zio_types.specs.declared.error.Errno.{Errno}
use Rattle.zio_blkptr.specs.declared.pointer.Bp.{Bp}
use Rattle.zio_blkptr.specs.Pointers.{pointer_of}
use Rattle.zio_script.specs.declared.script.Work.{Work}
use Rattle.zio_script.specs.declared.script.Work.TheVariants.{Null, Read, Write, Free, Claim}
use Rattle.zio_gang.specs.declared.tree.Tree.{Tree}
use Rattle.zio_gang.specs.Attempts.{Pending, Terms, judged_own}
use Rattle.zio_trace.specs.Families.{Forest}
use Rattle.zio_trace.specs.Leaves.{Answer}
use Rattle.zio_trace.specs.Plans.{bare, one_of, own_read_by, own_taken, plan, plan_claim, plan_free, plan_kids, plan_own, plan_read, plan_root, plan_taken, plan_tree}
use Rattle.zio_trace.specs.Tasks.{Attempt, AttemptedBy, OwnGot, Task, Value, got, taken}
use Rattle.zio_trace.specs.Underway.{early}
use Rattle.zio_frames.specs.Frames.{Frame}
use Rattle.zio_frames.specs.Moves.{WillHave}
use Rattle.zio_frames.specs.Slots.{left_behind_slots, told_in}
use Rattle.zio_stages.specs.OwnParts.{IsNoWrite}
use Rattle.zio_stages.proofs.EndsWhatever.{EndsSo, so_answered, so_behind, so_then, so_turned}
use Rattle.zio_stages.proofs.OwnAsks.{closed_pointer}

abbrev HasNone : OwnGot → Type 0
HasNone own = own.pointer ≡ None

read_none : (a : Answer) → HasNone (own_read_by a)
read_none (Ok bytes) = refl
read_none (Err e) = refl

taken_none : (b : Bool) (tree : Tree) → HasNone (own_taken b tree)
taken_none true tree = refl
taken_none false tree = refl

reads_none : (block : Option Tree) → EndsSo HasNone (plan_read block)
reads_none None = refl
reads_none (Some tree) = so_then HasNone (plan_tree tree) _ (λ v. read_none (got v))

frees_none : (block : Option Tree) → EndsSo HasNone (plan_free block)
frees_none None = refl
frees_none (Some tree) = λ v. refl

takes_none : (es : List (Option Errno)) (tree : Tree) → EndsSo HasNone (plan_taken es tree)
takes_none [] tree = λ v. taken_none (taken v) tree
takes_none (e ∷ es) tree = refl

claims_none : (pointer : Option Bp) → EndsSo HasNone (plan_claim pointer)
claims_none None = refl
claims_none (Some bp) = λ v. takes_none _ _

own_has_none : (t : Terms) (attempt : ℕ) (p : Pending) (w : Work) (pointers : List (Option Bp)) → IsNoWrite w → EndsSo HasNone (plan_own t attempt p w pointers)
own_has_none t attempt p Null pointers h = refl
own_has_none t attempt p (Read name prio) pointers h = reads_none p.block
own_has_none t attempt p (Write name sum copies prio body) pointers h = absurd h
own_has_none t attempt p (Free name) pointers h = frees_none p.block
own_has_none t attempt p (Claim name pointer) pointers h = claims_none (pointer_of pointer)

pub has_none : (t : Terms) (x : Frame) (attempt : ℕ) (p : Pending) (forest : Forest) → x.op ≡ Attempt attempt p forest → IsNoWrite p.request.work → WillHave t x None
has_none t x attempt p forest is other =
    let P : Value → Type 0 = λ v. early v ≡ None in
    so_answered P (told_in x.slots) (left_behind_slots x.slots (plan t x.op))
    (so_behind P x.slots (plan t x.op)
    (subst (λ (op : Task). EndsSo P (plan t op)) (sym is)
    (so_then P (plan_kids attempt forest) (plan_root t attempt p) (λ k.
    so_turned HasNone P (plan_own t attempt p p.request.work _) (λ own. AttemptedBy (one_of k (judged_own t p k.returns (bare own))))
    (λ own e. closed_pointer t p k own ∙ e) (own_has_none t attempt p p.request.work _ other)))))
