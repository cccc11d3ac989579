-- A request's own work behind its children's attempts: what it asks, the attempt asks, and its pointer is the attempt's.
use Rattle.std.proofs.Common.{◌≡◌, ℕ, List, ◌++◌, length, map, Option, sym, ap, ◌∙◌, subst}
use Rattle.zio_types.specs.declared.request.Bits.{Bits}
use Rattle.zio_blkptr.specs.declared.pointer.Bp.{Bp}
use Rattle.zio_script.specs.declared.script.Work.{Work}
use Rattle.zio_script.specs.declared.script.Work.TheVariants.{Null, Read, Write, Free, Claim}
use Rattle.zio_script.specs.Requests.{kind_of}
use Rattle.zio_gang.specs.Attempts.{Child, Pending, Terms, all_bits, bits_of, children_of, finished_of, has_bits, insert_children, judged_own}
use Rattle.zio_trace.specs.Families.{Forest}
use Rattle.zio_trace.specs.Plans.{Kids, TaskPlan, bare, one_of, plan_kids, plan_own, plan_root}
use Rattle.zio_trace.specs.Programs.{Ends, ◌>>=◌}
use Rattle.zio_trace.specs.Tasks.{Attempt, AttemptedBy, OwnGot, Task, Value}
use Rattle.zio_trace.specs.Underway.{early}
use Rattle.zio_children.specs.RequestKids.{AreToldBy, child_of, pointers_of, returns_in, root_numbers}
use Rattle.zio_children.proofs.KidPlans.{numbers_length}
use Rattle.zio_children.proofs.KidReturns.{same_pointers}
use Rattle.zio_frames.specs.Answering.{EndsAnswered, NextAnswered}
use Rattle.zio_frames.specs.Slots.{Slot, left_behind_slots, told_in}
use Rattle.zio_stages.specs.KidTrees.{IsKids, KidsHeld}
use Rattle.zio_stages.specs.OwnParts.{AllowsOwn, Follows, Foretells, MayBegin}
use Rattle.zio_stages.proofs.EndsWhatever.{pointer_closed}
use Rattle.zio_stages.proofs.KidsBefore.{HoldsBehind, behind_told, behind_whatever}
use Rattle.zio_stages.proofs.Within.{ends_first, left_turned, next_within}

-- ---- behind all children

-- what its own work is over what the children hand on
abbrev own_over : Terms → ℕ → Pending → Work → Kids → TaskPlan OwnGot
own_over t attempt p w k = plan_own t attempt p w (map (λ (c : Child). c.pointer) (insert_children (children_of k.returns) p.kept))

count_all : (attempt : ℕ) (p : Pending) (x : KidsHeld) (forest : Forest) (asked : List Task) (slots : List Slot) → AllowsOwn attempt p x forest asked slots
    → length slots ≡ length (root_numbers forest)
count_all attempt p x forest asked slots h = h.kids.all ∙ h.all ∙ sym (ap length h.kids.roots ∙ numbers_length x.kids.kids)

-- the pointers that it takes are those that its children told
told_pointers : (p : Pending) (x : KidsHeld) (k : Kids) → p.kept ≡ map child_of x.kids.kept → AreToldBy x.kids k.returns
    → map (λ (c : Child). c.pointer) (insert_children (children_of k.returns) p.kept) ≡ pointers_of x.kids
told_pointers p x k kept told =
    ap (λ (ks : List Child). map (λ (c : Child). c.pointer) (insert_children (children_of k.returns) ks)) kept
    ∙ same_pointers (children_of k.returns) (children_of (returns_in x.kids)) (map child_of x.kids.kept) told

-- What holds of its own work over the pointers that are known holds of it over what the children hand on: of a write once
-- they told, of other work whatever they hand on.
behind_all : (S : TaskPlan OwnGot → Type 0) (Q : List (Option (Option Bp)) → TaskPlan Value → Type 0) (t : Terms) (attempt : ℕ) (p : Pending) (w : Work) (x : KidsHeld) (forest : Forest)
    (asked : List Task) (front own : List Slot) (f : Kids → TaskPlan Value)
    → HoldsBehind Q → IsKids x attempt forest asked front → length front ≡ length (root_numbers forest) → p.kept ≡ map child_of x.kids.kept → MayBegin w x.kids
    → S (plan_own t attempt p w (pointers_of x.kids)) → ((k : Kids) → S (own_over t attempt p w k) → Q (told_in own) (left_behind_slots own (f k)))
    → Q (told_in (front ++ own)) (left_behind_slots (front ++ own) (plan_kids attempt forest >>= f))
behind_all S Q t attempt p Null x forest asked front own f behind kids all kept on s then = behind_whatever Q behind attempt forest front own f all (λ k. then k s)
behind_all S Q t attempt p (Read name prio) x forest asked front own f behind kids all kept on s then = behind_whatever Q behind attempt forest front own f all (λ k. then k s)
behind_all S Q t attempt p (Free name) x forest asked front own f behind kids all kept on s then = behind_whatever Q behind attempt forest front own f all (λ k. then k s)
behind_all S Q t attempt p (Claim name pointer) x forest asked front own f behind kids all kept on s then = behind_whatever Q behind attempt forest front own f all (λ k. then k s)
behind_all S Q t attempt p (Write name sum copies prio body) x forest asked front own f behind kids all kept on s then =
    behind_told Q behind attempt forest x.kids.kids front own f kids.fits kids.roots on (λ k told. then k
    (subst (λ (ps : List (Option Bp)). S (plan_own t attempt p (Write name sum copies prio body) ps)) (sym (told_pointers p x k kept told)) s))

-- ---- what it asks

pub follows : (t : Terms) (attempt : ℕ) (p : Pending) (x : KidsHeld) (forest : Forest) (asked : List Task) (slots : List Slot) → AllowsOwn attempt p x forest asked slots
    → Follows t (Attempt attempt p forest) slots (plan_own t attempt p p.request.work (pointers_of x.kids))
follows t attempt p x forest asked front h = λ own op asks.
    behind_all (λ q. NextAnswered (told_in own) (left_behind_slots own q) op) (λ outs q. NextAnswered outs q op) t attempt p p.request.work x forest asked front own (plan_root t attempt p)
    (λ told outs next more go. go) h.kids (count_all attempt p x forest asked front h) h.kept h.told asks
    (λ k s. next_within own (own_over t attempt p p.request.work k) (λ got. Ends (AttemptedBy (one_of k (judged_own t p k.returns (bare got))))) op s)

-- ---- its pointer

pub closed_pointer : (t : Terms) (p : Pending) (k : Kids) (own : OwnGot) → early (AttemptedBy (one_of k (judged_own t p k.returns (bare own)))) ≡ own.pointer
closed_pointer t p k own =
    let bits : Bits = all_bits (kind_of p.request.work) own.error p.request.canfail t.failmode (bits_of k.returns) in
    pointer_closed (has_bits bits) p (bare own) bits (insert_children (children_of (finished_of k.returns)) p.kept)

pub foretells : (t : Terms) (attempt : ℕ) (p : Pending) (x : KidsHeld) (forest : Forest) (asked : List Task) (slots : List Slot) → AllowsOwn attempt p x forest asked slots
    → Foretells t (Attempt attempt p forest) slots (λ (own : OwnGot). own.pointer) (plan_own t attempt p p.request.work (pointers_of x.kids))
foretells t attempt p x forest asked front h = λ own pointer ends.
    behind_all (λ q. EndsAnswered (λ (got : OwnGot). got.pointer ≡ pointer) (told_in own) (left_behind_slots own q)) (λ outs q. EndsAnswered (λ (v : Value). early v ≡ pointer) outs q)
    t attempt p p.request.work x forest asked front own (plan_root t attempt p)
    (λ told outs next more go. go) h.kids (count_all attempt p x forest asked front h) h.kept h.told ends
    (λ k s. subst (EndsAnswered (λ (v : Value). early v ≡ pointer) (told_in own)) (sym (left_turned own (own_over t attempt p p.request.work k) (λ got. AttemptedBy (one_of k (judged_own t p k.returns (bare got))))))
    (ends_first (λ (got : OwnGot). got.pointer ≡ pointer) (λ (v : Value). early v ≡ pointer) (told_in own) (left_behind_slots own (own_over t attempt p p.request.work k))
    (λ got. AttemptedBy (one_of k (judged_own t p k.returns (bare got)))) (λ got e. closed_pointer t p k got ∙ e) s))
