-- What is answered to a part that is written and to an attempt is of its own kind, and so what is known of a node.
use Rattle.std.proofs.Common.{◌≡◌, nat_le, ℕ, zero, suc, List, [], ◌∷◌, ◌++◌, map, length, Bool, true, false, Option, Some, None, refl, sym, ◌∙◌, subst}
use Rattle.std.proofs.lemmas.List.{length-map}
use Rattle.zio_types.specs.declared.place.Place.{Place}
use Rattle.zio_blkptr.specs.declared.pointer.Bp.{Bp}
use Rattle.zio_blkptr.specs.declared.pointer.SumKind.{SumKind}
use Rattle.zio_types.specs.Places.{sector_size}
use Rattle.zio_types.specs.declared.request.Bits.{Bits}
use Rattle.zio_gang.specs.Attempts.{Child, Own, Pending, Return, Terms, all_bits, bits_of, children_of, closed_if, finished_of, has_bits, insert_children, judged_own, writing_of}
use Rattle.zio_script.specs.Requests.{kind_of}
use Rattle.zio_cksum.specs.Headers.{split_sizes}
use Rattle.zio_gang.specs.Writes.{Writing, cut}
use Rattle.zio_trace.specs.Entries.{any_ways}
use Rattle.zio_trace.specs.Families.{Forest}
use Rattle.zio_trace.specs.Going.{nth_asked}
use Rattle.zio_trace.specs.Labels.{Labelled, labelled, ways_at}
use Rattle.zio_trace.specs.Oracles.{IsOracle, Oracle, heard}
use Rattle.zio_trace.specs.Plans.{Kids, TaskPlan, bare as bare_own, gang_stored, header_over, one_of, plan, plan_body, plan_gang, plan_gang_unless, plan_kids, plan_members, plan_own, plan_part, plan_root, plan_write}
use Rattle.zio_trace.specs.Programs.{Asks, Ends, Program, ◌>>=◌, ask}
use Rattle.zio_trace.specs.Tasks.{Attempt, AttemptedBy, One, Stored, StoredAs, Task, Value, WriteCopies, WritePart, found, nowhere, wrote}
use Rattle.zio_trace.specs.Underway.{Call, IsLeft, early, told_of}
use Rattle.zio_trace.specs.Views.{ToldTrue, bare}
use Rattle.zio_frames.specs.Answering.{EndsAnswered, IsAnswerTo, NextAnswered}

-- ---- how plans end

-- whatever is answered, this holds of its end
abbrev pub AlwaysEnds : {A : Type 0} → (A → Type 0) → TaskPlan A → Type 0
AlwaysEnds P (Ends a) = P a
AlwaysEnds P (Asks op more) = (v : Value) → AlwaysEnds P (more v)

pub ends_then : {A B : Type 0} (P : B → Type 0) (p : TaskPlan A) (k : A → TaskPlan B) → ((a : A) → AlwaysEnds P (k a))
    → AlwaysEnds P (p >>= k)
ends_then P (Ends a) k h = h a
ends_then P (Asks op more) k h = λ v. ends_then P (more v) k h

pub ends_heard : {A : Type 0} (P : A → Type 0) (o : Oracle (Labelled Task) Value) (at : List ℕ) (n : ℕ) (p : TaskPlan A)
    → AlwaysEnds P p → P (heard o (labelled at n p))
ends_heard P o at n (Ends a) h = h
ends_heard P o at n (Asks op more) h =
    ends_heard P o at (suc n) (more (o.answer (record { at = at ++ n ∷ []; op = op })))
    (h (o.answer (record { at = at ++ n ∷ []; op = op })))

-- ---- a part that is written

abbrev pub IsStored : Value → Type 0
IsStored v = (x : Stored) × (v ≡ StoredAs x)

gang_stores : (found : Option (List Place)) (w : Writing) (below : List ℕ → List ℕ → TaskPlan Value) (path bytes : List ℕ)
    → AlwaysEnds IsStored (plan_gang found w below path bytes)
gang_stores None w below path bytes = (nowhere, refl)
gang_stores (Some places) w below path bytes =
    ends_then IsStored (plan_members below path 0 (cut (split_sizes (length bytes)) bytes))
    (λ m. ask (WriteCopies (header_over w places m) places) >>= λ v. Ends
    (StoredAs (gang_stored w path bytes places m (wrote v))))
    (λ m v. (gang_stored w path bytes places m (wrote v), refl))

unless_stores : (small : Bool) (w : Writing) (below : List ℕ → List ℕ → TaskPlan Value) (path bytes : List ℕ)
    → AlwaysEnds IsStored (plan_gang_unless small w below path bytes)
unless_stores true w below path bytes = (nowhere, refl)
unless_stores false w below path bytes = λ v. gang_stores (found v) w below path bytes

body_stores : (found : Option (List Place)) (w : Writing) (below : List ℕ → List ℕ → TaskPlan Value) (path bytes : List ℕ)
    → AlwaysEnds IsStored (plan_body found w below path bytes)
body_stores (Some places) w below path bytes = λ v. (_, refl)
body_stores None w below path bytes = unless_stores (nat_le (length bytes) sector_size) w below path bytes

part_stores : (w : Writing) (below : List ℕ → List ℕ → TaskPlan Value) (path bytes : List ℕ)
    → AlwaysEnds IsStored (plan_part w below path bytes)
part_stores w below path bytes = λ v. body_stores (found v) w below path bytes

pub write_stores : (t : Terms) (attempt : ℕ) (p : Pending) (sum : SumKind) (copies levels : ℕ) (path bytes : List ℕ)
    → AlwaysEnds IsStored (plan_write t attempt p sum copies levels path bytes)
write_stores t attempt p sum copies zero path bytes =
    part_stores (writing_of t attempt p sum copies) (λ below part. Ends (StoredAs nowhere)) path bytes
write_stores t attempt p sum copies (suc levels) path bytes =
    part_stores (writing_of t attempt p sum copies)
    (λ below part. ask (WritePart attempt p sum copies levels below part)) path bytes

-- ---- an attempt

-- what it left of its request has that number
abbrev pub IsAttempted : ℕ → Value → Type 0
IsAttempted number v = (one : One) × (v ≡ AttemptedBy one) × (one.return.child.number ≡ number)

closed_number : (b : Bool) (p : Pending) (own : Own) (bits : Bits) (kept : List Child)
    → (closed_if b p own bits kept).return.child.number ≡ p.request.number
closed_number true p own bits kept = refl
closed_number false p own bits kept = refl

judged_number : (t : Terms) (p : Pending) (returns : List Return) (own : Own)
    → (judged_own t p returns own).return.child.number ≡ p.request.number
judged_number t p returns own =
    let bits : Bits = all_bits (kind_of p.request.work) own.error p.request.canfail t.failmode (bits_of returns) in
    closed_number (has_bits bits) p own bits (insert_children (children_of (finished_of returns)) p.kept)

root_attempts : (t : Terms) (attempt : ℕ) (p : Pending) (k : Kids)
    → AlwaysEnds (IsAttempted p.request.number) (plan_root t attempt p k)
root_attempts t attempt p k =
    ends_then (IsAttempted p.request.number)
    (plan_own t attempt p p.request.work (map (λ (c : Child). c.pointer) (insert_children (children_of k.returns) p.kept)))
    (λ own. Ends (AttemptedBy (one_of k (judged_own t p k.returns (bare_own own)))))
    (λ own. (one_of k (judged_own t p k.returns (bare_own own)), refl, judged_number t p k.returns (bare_own own)))

pub attempt_attempts : (t : Terms) (attempt : ℕ) (p : Pending) (kids : Forest)
    → AlwaysEnds (IsAttempted p.request.number) (plan t (Attempt attempt p kids))
attempt_attempts t attempt p kids =
    ends_then (IsAttempted p.request.number) (plan_kids attempt kids) (λ k. plan_root t attempt p k)
    (λ k. root_attempts t attempt p k)

-- ---- what an oracle answers

abbrev pub AnswersInKind : Oracle (Labelled Task) Value → Type 0
AnswersInKind o = (x : Labelled Task) → IsAnswerTo x.op (o.answer x)

in_kind : (t : Terms) (o : Oracle (Labelled Task) Value) → IsOracle (ways_at (any_ways t)) o → (at : List ℕ) (op : Task)
    → IsAnswerTo op (o.answer (record { at = at; op = op }))
in_kind t o is at (WritePart attempt p sum copies levels path bytes) =
    let op : Task = WritePart attempt p sum copies levels path bytes in
    subst IsStored (sym (is.answer (record { at = at; op = op }) refl))
    (ends_heard IsStored o at 0 (plan t op) (write_stores t attempt p sum copies levels path bytes))
in_kind t o is at (Attempt attempt p kids) =
    let op : Task = Attempt attempt p kids in
    subst (IsAttempted p.request.number) (sym (is.answer (record { at = at; op = op }) refl))
    (ends_heard (IsAttempted p.request.number) o at 0 (plan t op) (attempt_attempts t attempt p kids))
in_kind t o is at _ = tt

pub answers_in_kind : (t : Terms) (o : Oracle (Labelled Task) Value) → IsOracle (ways_at (any_ways t)) o → AnswersInKind o
answers_in_kind t o is x = in_kind t o is x.at x.op

-- ---- what is known of a node

pub next_answered : {A : Type 0} (o : Oracle (Labelled Task) Value) (outs : List (Option (Option Bp)))
    (p : Program (Labelled Task) Value A) (op : Task) → AnswersInKind o
    → NextAnswered outs (bare p) op → ToldTrue early o outs p
    → (y : Labelled Task) × (nth_asked o (length outs) p ≡ Some y) × (y.op ≡ op)
next_answered o [] (Ends a) op kind h told = absurd h
next_answered o (r ∷ outs) (Ends a) op kind h told = absurd h
next_answered o [] (Asks x more) op kind h told = (x, refl, h)
next_answered o (r ∷ outs) (Asks x more) op kind h told =
    next_answered o outs (more (o.answer x)) op kind (h (o.answer x) (kind x) told.0) told.1

pub asked_answered : {A : Type 0} (o : Oracle (Labelled Task) Value) (at : List ℕ)
    (whole rest : Program (Labelled Task) Value A) (outs : List Call) (next : ℕ) (op : Task) → AnswersInKind o
    → IsLeft o at whole rest outs next → NextAnswered (told_of outs) (bare rest) op
    → (y : Labelled Task) × (nth_asked o (length outs) rest ≡ Some y) × (y.op ≡ op)
asked_answered o at whole rest outs next op kind left asks =
    let found = next_answered o (told_of outs) rest op kind asks left.told in
    let count : length (told_of outs) ≡ length outs = length-map outs (λ (c : Call). c.told) in
    (found.0, (λ i. nth_asked o (sym count i) rest) ∙ found.1, found.2)

-- and what holds of its end
pub ends_answered : {A : Type 0} (P : A → Type 0) (o : Oracle (Labelled Task) Value) (outs : List (Option (Option Bp)))
    (p : Program (Labelled Task) Value A) → AnswersInKind o
    → EndsAnswered P outs (bare p) → ToldTrue early o outs p → P (heard o p)
ends_answered P o [] (Ends a) kind h told = h
ends_answered P o (r ∷ outs) (Ends a) kind h told = h
ends_answered P o [] (Asks x more) kind h told = ends_answered P o [] (more (o.answer x)) kind (h (o.answer x) (kind x)) tt
ends_answered P o (r ∷ outs) (Asks x more) kind h told =
    ends_answered P o outs (more (o.answer x)) kind (h (o.answer x) (kind x) told.0) told.1
