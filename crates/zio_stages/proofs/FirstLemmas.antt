-- The first operation of a node's own work behind others, where it is a gang child's: it is handed out, tells and is heard.
use Rattle.std.proofs.Common.{◌≡◌, ℕ, ◌+◌, List, [], ◌∷◌, ◌++◌, length, Option, Some, None, refl, sym, ap, ◌∙◌, arith}
use Rattle.zio_types.specs.declared.place.Top.{Top}
use Rattle.zio_types.specs.declared.request.ChildKind.TheVariants.{Gang}
use Rattle.zio_blkptr.specs.declared.pointer.Bp.{Bp}
use Rattle.zio_gang.specs.Attempts.{Terms}
use Rattle.zio_trace.specs.Plans.{TaskPlan}
use Rattle.zio_trace.specs.Tasks.{Task, Value}
use Rattle.zio_frames.specs.Answering.{NextAnswered}
use Rattle.zio_frames.specs.Frames.{Child, OfOuter, Seat, Stack, kind_of_task}
use Rattle.zio_frames.specs.Moves.{AsksNext, handed, heard_early, heard_of, set_at}
use Rattle.zio_frames.specs.Slots.{Heard, IsOut, Slot}
use Rattle.zio_stages.specs.NodeChildren.{new_child}
use Rattle.zio_stages.specs.OwnParts.{GoesOnAs, HandsTo, IsBehind}
use Rattle.zio_stages.proofs.BehindLemmas.{asks_behind, behind_more, behind_set, handed_children, handed_inner, handed_outer, hands_to, heard_outer, next_number}
use Rattle.zio_stages.proofs.OwnGangLemmas.{child_is}

pub hands_first : {A : Type 0} (t : Terms) (tops : List Top) (own : TaskPlan A) (front_asked : List Task) (front : List Slot) (st : Stack) (op : Task) (n : ℕ) (family more : List Child) (IsAfter : Stack → Type 0)
    → GoesOnAs t tops own front st → IsBehind front_asked front [] [] st → st.inner ≡ None → NextAnswered [] own op → kind_of_task op ≡ Gang → length front ≡ n
    → family ≡ st.children → more ≡ family ++ new_child (OfOuter n) Gang ∷ []
    → ((b : Stack) → IsBehind front_asked front (op ∷ []) (IsOut None ∷ []) b → b.inner ≡ None → more ≡ b.children → IsAfter b)
    → HandsTo t Gang (λ q. q ≡ op) IsAfter st
hands_first t tops own front_asked front st op n family more IsAfter goes behind alone next kind count same grown after =
    let asks : AsksNext t st.outer op = asks_behind t front_asked front [] [] st own op behind tt goes.follows next in
    let last : length st.outer.slots ≡ length front + 0 = next_number front_asked front [] [] st behind in
    let at : n ≡ length st.outer.slots = omega (arith, count, last) in
    let children : more ≡ (handed st op).children =
    grown ∙ ap (λ (cs : List Child). cs ++ new_child (OfOuter n) Gang ∷ []) same
    ∙ ap (λ (k : ℕ). st.children ++ new_child (OfOuter k) Gang ∷ []) at
    ∙ ap (λ (c : Child). st.children ++ c ∷ []) (child_is (OfOuter (length st.outer.slots)) op kind)
    ∙ sym (handed_children st op alone) in
    hands_to t st op Gang (λ q. q ≡ op) IsAfter alone goes.part asks kind refl
    (after (handed st op) (behind_more front_asked front [] [] st (handed st op) op (IsOut None) behind (handed_outer st op alone)) (handed_inner st op alone) children)

at_first : (front : List Slot) (c : Child) → c.seat ≡ OfOuter (length front) → c.seat ≡ OfOuter (length front + 0)
at_first front c seat = seat ∙ ap (λ (n : ℕ). OfOuter n) (let e : length front ≡ length front + 0 = omega arith in e)

pub hears_first : (front_asked : List Task) (front : List Slot) (asked : List Task) (told : Option (Option Bp)) (st : Stack) (k : ℕ) (c : Child) (v : Value)
    → c.seat ≡ OfOuter (length front) → IsBehind front_asked front asked (IsOut told ∷ []) st → IsBehind front_asked front asked (Heard v ∷ []) (heard_of st k c v)
hears_first front_asked front asked told st k c v seat h =
    behind_set front_asked front asked (IsOut told ∷ []) st (heard_of st k c v) 0 (Heard v) h (heard_outer st k (length front + 0) c v (at_first front c seat))

pub tells_first : (front_asked : List Task) (front : List Slot) (asked : List Task) (told : Option (Option Bp)) (st : Stack) (k : ℕ) (c : Child) (pointer : Option Bp)
    → c.seat ≡ OfOuter (length front) → IsBehind front_asked front asked (IsOut told ∷ []) st → IsBehind front_asked front asked (IsOut (Some pointer) ∷ []) (heard_early st k c pointer)
tells_first front_asked front asked told st k c pointer seat h =
    behind_set front_asked front asked (IsOut told ∷ []) st (heard_early st k c pointer) 0 (IsOut (Some pointer)) h
    (ap (λ (s : Seat). (set_at st s (IsOut (Some pointer))).outer) (at_first front c seat))

pub told_inner : (st : Stack) (k n : ℕ) (c : Child) (pointer : Option Bp) → c.seat ≡ OfOuter n → (heard_early st k c pointer).inner ≡ st.inner
told_inner st k n c pointer e = ap (λ (s : Seat). (set_at st s (IsOut (Some pointer))).inner) e
