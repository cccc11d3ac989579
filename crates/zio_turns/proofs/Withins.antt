-- What a node does within its own part asks for no request and no part, and has none in its value.
use Rattle.std.proofs.Common.{◌≡◌, ℕ, zero, suc, ◌+◌, List, [], ◌∷◌, slice_get, Bool, true, false, Option, Some, None, Ok, Err, refl, sym, ◌∙◌, subst}
use Rattle.zio_types.specs.declared.error.Errno.{Errno}
use Rattle.zio_types.specs.declared.error.Errno.TheVariants.{Io}
use Rattle.zio_blkptr.specs.declared.pointer.Bp.{Bp}
use Rattle.zio_cksum.specs.Headers.{members_of}
use Rattle.zio_gang.specs.Attempts.{Terms}
use Rattle.zio_trace.specs.Calls.{FitsEarly}
use Rattle.zio_trace.specs.CopyPrograms.{block_reading, piece_writing}
use Rattle.zio_trace.specs.Leaves.{Answer, LeafOp}
use Rattle.zio_trace.specs.Plans.{TaskPlan, by_leaves, head_task, join_walked, plan, plan_after, plan_below, plan_bodies, plan_found, plan_pointer, under_head}
use Rattle.zio_trace.specs.Programs.{Asks, Ends, Program, ◌>>=◌, ask}
use Rattle.zio_trace.specs.Tasks.{Attempt, ByClaim, ByKept, Find, Got, Leaf, Look, ReadCopies, ReadHeads, ReadTree, Settle, StoredAs, TakePlaces, Task, Value, WalkedBy, WriteCopies, WritePart, Wrote, got, good_by, visit_of, walked}
use Rattle.zio_trace.specs.Underway.{early}
use Rattle.zio_frames.specs.Answering.{IsAnswerTo, NextAnswered}
use Rattle.zio_frames.specs.Frames.{Frame, left_of}
use Rattle.zio_frames.specs.Moves.{AsksNext}
use Rattle.zio_frames.specs.OfRound.{AreAsked}
use Rattle.zio_frames.specs.Slots.{Heard, IsOut, Slot, left_behind_slots, told_in}
use Rattle.zio_frames.proofs.KnownLemmas.{AlwaysEnds, ends_then}
use Rattle.zio_exchange.specs.Outcomes.{places_by}
use Rattle.zio_exchange.specs.WithinParts.{IsDoneWithin}
use Rattle.zio_staged.specs.Parts.{ended_by}
use Rattle.zio_turns.proofs.Links.{some_is}

-- ---- which they are

-- what isn't handed out
abbrev pub IsQuiet : Task → Type 0
IsQuiet (Attempt attempt p kids) = ⊥
IsQuiet (Settle p kids) = ⊥
IsQuiet (WritePart attempt p sum copies levels path bytes) = ⊥
IsQuiet _ = Unit {0}

pub within_quiet : (op : Task) → IsDoneWithin op → IsQuiet op
within_quiet (Attempt attempt p kids) h = h
within_quiet (Settle p kids) h = h
within_quiet (WritePart attempt p sum copies levels path bytes) h = h
within_quiet _ h = tt

pub within_places : (op : Task) (v : Value) → IsDoneWithin op → places_by op v ≡ []
within_places (ReadCopies repair test len places) v h = refl
within_places (WriteCopies bytes places) v h = refl
within_places (ReadHeads look levels path bp) v h = refl
within_places (ReadTree tree) v h = refl
within_places (Leaf act) v h = absurd h
within_places (Find a) v h = absurd h
within_places (WritePart attempt p sum copies levels path bytes) v h = absurd h
within_places (TakePlaces tree) v h = absurd h
within_places (Attempt attempt p kids) v h = absurd h
within_places (Settle p kids) v h = absurd h

-- ---- what it asks

abbrev OnlyAsks : {A : Type 0} → TaskPlan A → Type 0
OnlyAsks (Ends a) = Unit {0}
OnlyAsks (Asks op more) = IsQuiet op × ((v : Value) → OnlyAsks (more v))

asks_then : {A B : Type 0} (p : TaskPlan A) (k : A → TaskPlan B) → OnlyAsks p → ((a : A) → OnlyAsks (k a)) → OnlyAsks (p >>= k)
asks_then (Ends a) k h then = then a
asks_then (Asks op more) k h then = (h.0, λ v. asks_then (more v) k (h.1 v) then)

asks_leaves : {A : Type 0} (p : Program LeafOp Answer A) → OnlyAsks (by_leaves p)
asks_leaves (Ends a) = tt
asks_leaves (Asks act more) = (tt, λ v. asks_leaves (more (got v)))

asks_below : (look : Look) (levels : ℕ) (path : List ℕ) (members : List Bp) (n : ℕ)
    → OnlyAsks (plan_below (ReadHeads look levels) path n members)
asks_below look levels path [] n = tt
asks_below look levels path (m ∷ ms) n = (
  tt,
  λ v. asks_then (plan_below (ReadHeads look levels) path (n + 1) ms) (λ others. Ends (join_walked (walked v) others))
      (asks_below look levels path ms (n + 1)) (λ others. tt),
)

asks_found : (look : Look) (levels : ℕ) (path : List ℕ) (a : Answer) → OnlyAsks (plan_found (ReadHeads look levels) path a)
asks_found look levels path (Err e) = tt
asks_found look levels path (Ok bytes) =
    asks_then (plan_below (ReadHeads look levels) path 0 (members_of bytes)) (λ w. Ends (WalkedBy (under_head path bytes w)))
    (asks_below look levels path (members_of bytes) 0) (λ w. tt)

asks_pointer : (e : Option Errno) (gang : Bool) (bp : Bp) (follow : TaskPlan Value) → OnlyAsks follow
    → OnlyAsks (plan_pointer e gang bp follow)
asks_pointer (Some e) gang bp follow h = tt
asks_pointer None false bp follow h = tt
asks_pointer None true bp follow h = h

quiet_head : (look : Look) (path : List ℕ) (bp : Bp) → IsQuiet (head_task look path bp)
quiet_head (ByKept heads) path bp = tt
quiet_head ByClaim path bp = tt

asks_bodies : (bodies : List Bp) → OnlyAsks (plan_bodies bodies)
asks_bodies [] = tt
asks_bodies (bp ∷ bps) = (tt, λ v. asks_then (plan_bodies bps) _ (asks_bodies bps) (λ others. tt))

asks_after : (errors : List (Option Errno)) (bodies : List Bp) → OnlyAsks (plan_after errors bodies)
asks_after [] bodies = asks_then (plan_bodies bodies) _ (asks_bodies bodies) (λ b. tt)
asks_after (e ∷ errors) bodies = tt

asks_quietly : (t : Terms) (op : Task) → IsQuiet op → OnlyAsks (plan t op)
asks_quietly t (ReadCopies repair test len places) h =
    asks_then (by_leaves (block_reading t.setting repair (good_by test) len places)) (λ a. Ends (Got a))
    (asks_leaves (block_reading t.setting repair (good_by test) len places)) (λ a. tt)
asks_quietly t (WriteCopies bytes places) h =
    asks_then (by_leaves (piece_writing t.setting bytes places)) (λ e. Ends (Wrote e))
    (asks_leaves (piece_writing t.setting bytes places)) (λ e. tt)
asks_quietly t (ReadHeads look zero path bp) h =
    asks_pointer ((visit_of t.setting look).judge bp) bp.gang bp _ tt
asks_quietly t (ReadHeads look (suc levels) path bp) h =
    asks_pointer ((visit_of t.setting look).judge bp) bp.gang bp
    (ask (head_task look path bp) >>= λ v. plan_found (ReadHeads look levels) path (got v))
    (quiet_head look path bp, λ v. asks_found look levels path (got v))
asks_quietly t (ReadTree tree) h = (tt, λ v. asks_after (walked v).errors (walked v).bodies)
asks_quietly t (Leaf act) h = (tt, λ v. tt)
asks_quietly t (Find a) h = (tt, λ v. tt)
asks_quietly t (TakePlaces tree) h = (tt, λ v. tt)
asks_quietly t (WritePart attempt p sum copies levels path bytes) h = absurd h
asks_quietly t (Attempt attempt p kids) h = absurd h
asks_quietly t (Settle p kids) h = absurd h

-- an operation that told this may be answered so
some_value : (told : Option (Option Bp)) → (v : Value) × FitsEarly early told v
some_value None = (Got (Err Io), tt)
some_value (Some pointer) = (StoredAs (record { error = None; pointer = pointer; heads = [] }), refl)

answers_quiet : (op : Task) (v : Value) → IsQuiet op → IsAnswerTo op v
answers_quiet (WritePart attempt p sum copies levels path bytes) v h = absurd h
answers_quiet (Attempt attempt p kids) v h = absurd h
answers_quiet _ v h = tt

all_quiet : {A : Type 0} (asked : List Task) (slots : List Slot) (p : TaskPlan A) → OnlyAsks p → AreAsked asked slots p
    → (n : ℕ) (op : Task) (slot : Slot) → slice_get asked n ≡ Some op → slice_get slots n ≡ Some slot → IsQuiet op
all_quiet [] slots p h are n op slot e s = absurd (cc)
all_quiet (q ∷ asked) [] p h are n op slot e s = absurd (cc)
all_quiet (q ∷ asked) (x ∷ slots) (Ends a) h are n op slot e s = absurd are
all_quiet (q ∷ asked) (Heard v ∷ slots) (Asks next more) h are zero op slot e s =
    subst IsQuiet (sym are.0 ∙ some_is q op e) h.0
all_quiet (q ∷ asked) (Heard v ∷ slots) (Asks next more) h are (suc n) op slot e s =
    all_quiet asked slots (more v) (h.1 v) are.1 n op slot e s
all_quiet (q ∷ asked) (IsOut told ∷ slots) (Asks next more) h are zero op slot e s =
    subst IsQuiet (sym are.0 ∙ some_is q op e) h.0
all_quiet (q ∷ asked) (IsOut told ∷ slots) (Asks next more) h are (suc n) op slot e s =
    let some = some_value told in
    all_quiet asked slots (more some.0) (h.1 some.0) (are.1 some.0 (answers_quiet next some.0 h.0) some.1) n op slot e s

-- an operation that a part within asked
pub asked_within : (t : Terms) (part : Task) (asked : List Task) (slots : List Slot) → IsDoneWithin part
    → AreAsked asked slots (plan t part) → (n : ℕ) (op : Task) (slot : Slot) → slice_get asked n ≡ Some op
    → slice_get slots n ≡ Some slot → IsQuiet op
asked_within t part asked slots h are n op slot e s = all_quiet asked slots (plan t part) (asks_quietly t part (within_quiet part h)) are n op slot e s

only_left : {A : Type 0} (slots : List Slot) (p : TaskPlan A) → OnlyAsks p → OnlyAsks (left_behind_slots slots p)
only_left [] p h = h
only_left (x ∷ slots) (Ends a) h = tt
only_left (Heard v ∷ slots) (Asks op more) h = only_left slots (more v) (h.1 v)
only_left (IsOut told ∷ slots) (Asks op more) h = (h.0, λ v. only_left slots (more v) (h.1 v))

next_only : {A : Type 0} (outs : List (Option (Option Bp))) (p : TaskPlan A) (op : Task) → OnlyAsks p → NextAnswered outs p op → IsQuiet op
next_only outs (Ends a) op h next = absurd next
next_only [] (Asks q more) op h next = subst IsQuiet next h.0
next_only (told ∷ outs) (Asks q more) op h next =
    let some = some_value told in
    next_only outs (more some.0) op (h.1 some.0) (next some.0 (answers_quiet q some.0 h.0) some.1)

-- the operation that comes next
pub asks_quiet : (t : Terms) (x : Frame) (op : Task) → IsQuiet x.op → AsksNext t x op → IsQuiet op
asks_quiet t x op quiet asks =
    next_only (told_in x.slots) (left_of t x) op (only_left x.slots (plan t x.op) (asks_quietly t x.op quiet)) asks.next

-- ---- its value

abbrev NoEnded : Value → Type 0
NoEnded v = ended_by v ≡ []

ends_pointer : (e : Option Errno) (gang : Bool) (bp : Bp) (follow : TaskPlan Value) → AlwaysEnds NoEnded follow
    → AlwaysEnds NoEnded (plan_pointer e gang bp follow)
ends_pointer (Some e) gang bp follow h = refl
ends_pointer None false bp follow h = refl
ends_pointer None true bp follow h = h

ends_found : (look : Look) (levels : ℕ) (path : List ℕ) (a : Answer)
    → AlwaysEnds NoEnded (plan_found (ReadHeads look levels) path a)
ends_found look levels path (Err e) = refl
ends_found look levels path (Ok bytes) =
    ends_then NoEnded (plan_below (ReadHeads look levels) path 0 (members_of bytes))
    (λ w. Ends (WalkedBy (under_head path bytes w))) (λ w. refl)

ends_after : (errors : List (Option Errno)) (bodies : List Bp) → AlwaysEnds NoEnded (plan_after errors bodies)
ends_after [] bodies = ends_then NoEnded (plan_bodies bodies) _ (λ b. refl)
ends_after (e ∷ errors) bodies = refl

ends_quietly : (t : Terms) (op : Task) → IsDoneWithin op → AlwaysEnds NoEnded (plan t op)
ends_quietly t (ReadCopies repair test len places) h =
    ends_then NoEnded (by_leaves (block_reading t.setting repair (good_by test) len places)) (λ a. Ends (Got a)) (λ a. refl)
ends_quietly t (WriteCopies bytes places) h =
    ends_then NoEnded (by_leaves (piece_writing t.setting bytes places)) (λ e. Ends (Wrote e)) (λ e. refl)
ends_quietly t (ReadHeads look zero path bp) h =
    ends_pointer ((visit_of t.setting look).judge bp) bp.gang bp _ refl
ends_quietly t (ReadHeads look (suc levels) path bp) h =
    ends_pointer ((visit_of t.setting look).judge bp) bp.gang bp
    (ask (head_task look path bp) >>= λ v. plan_found (ReadHeads look levels) path (got v))
    (λ v. ends_found look levels path (got v))
ends_quietly t (ReadTree tree) h = λ v. ends_after (walked v).errors (walked v).bodies
ends_quietly t (Leaf act) h = absurd h
ends_quietly t (Find a) h = absurd h
ends_quietly t (WritePart attempt p sum copies levels path bytes) h = absurd h
ends_quietly t (TakePlaces tree) h = absurd h
ends_quietly t (Attempt attempt p kids) h = absurd h
ends_quietly t (Settle p kids) h = absurd h

pub asks_no_end : {A : Type 0} (op : Task) (more : Value → TaskPlan A) (a : A) → ◌≡◌ {A = TaskPlan A} (Asks op more) (Ends a) → ⊥
asks_no_end op more a e = cc

pub same_end : {A : Type 0} (a b : A) → ◌≡◌ {A = TaskPlan A} (Ends a) (Ends b) → a ≡ b
same_end a b e = cc

-- what holds of each end of a plan holds of what is left of it
pub ends_left : {A : Type 0} (P : A → Type 0) (slots : List Slot) (p : TaskPlan A) (a : A) → AlwaysEnds P p
    → left_behind_slots slots p ≡ Ends a → P a
ends_left P [] (Ends b) a h e = subst P (same_end b a e) h
ends_left P [] (Asks op more) a h e = absurd (asks_no_end op more a e)
ends_left P (x ∷ slots) (Ends b) a h e = subst P (same_end b a e) h
ends_left P (Heard v ∷ slots) (Asks op more) a h e = ends_left P slots (more v) a (h v) e
ends_left P (IsOut told ∷ slots) (Asks op more) a h e = absurd (asks_no_end op (λ v. left_behind_slots slots (more v)) a e)

pub value_within : (t : Terms) (op : Task) (slots : List Slot) (v : Value) → IsDoneWithin op
    → left_behind_slots slots (plan t op) ≡ Ends v → ended_by v ≡ []
value_within t op slots v h e = ends_left NoEnded slots (plan t op) v (ends_quietly t op h) e
