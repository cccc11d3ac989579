-- What a write without error is made of has none either, down to the pieces.
use Rattle.std.proofs.Common.{◌≡◌, ℕ, zero, suc, ◌+◌, List, [], ◌∷◌, ◌++◌, length, Bool, true, false, nat_le, Option, Some, None, IsSome, refl, sym, ap, ◌∙◌, subst}
use Rattle.zio_types.specs.declared.place.Place.{Place}
use Rattle.zio_types.specs.Choices.{Choice}
use Rattle.zio_types.specs.Errors.{worst_error, worst_of}
use Rattle.zio_types.specs.Places.{sector_size}
use Rattle.zio_blkptr.specs.declared.pointer.SumKind.{SumKind}
use Rattle.zio_cksum.specs.Headers.{split_sizes}
use Rattle.zio_cksum.specs.Images.{Images}
use Rattle.zio_cksum.proofs.AllLemmas.{all_append}
use Rattle.zio_gang.specs.Attempts.{Pending, Terms, writing_of}
use Rattle.zio_gang.specs.Writes.{Placed, Writing, body_ask, body_with, chosen, cut, gang_unless, gang_with, head_ask, place_part, without_place}
use Rattle.zio_trace.specs.CopyPrograms.{piece_writing}
use Rattle.zio_trace.specs.Leaves.{Answer, LeafOp}
use Rattle.zio_trace.specs.Plans.{Kin, TaskPlan, add_kin, by_leaves, gang_stored, header_over, plan, plan_body, plan_gang, plan_gang_unless, plan_members, plan_part}
use Rattle.zio_trace.specs.Programs.{Asks, ByParts, Deed, Does, Ends, Itself, Made, NoneMade, Program, ◌>>=◌, ask}
use Rattle.zio_trace.specs.RoundTraces.{Trace, levels_max, task_trace}
use Rattle.zio_trace.specs.Tasks.{Attempt, Find, Leaf, ReadCopies, ReadHeads, ReadTree, Settle, StoredAs, TakePlaces, Task, Value, WriteCopies, WritePart, Wrote, found, got, means, nowhere, stored, wrote}
use Rattle.zio_trace.proofs.DownLemmas.{down_made}
use Rattle.zio_trace.proofs.RequestLemmas.{plan_run}
use Rattle.zio_heal.specs.Whole.{AreWhole, IsWhole}
use Rattle.zio_heal.proofs.WrittenLemmas.{both_none}

-- ---- parts of a program

-- a program that has ended, and its value
abbrev ended : {A : Type 0} → A → TaskPlan A
ended a = Ends a

abbrev value_of : {A : Type 0} → A → TaskPlan A → A
value_of other (Ends a) = a
value_of other (Asks op more) = other

same_end : {A : Type 0} (a b : A) → ended a ≡ ended b → a ≡ b
same_end a b h = ap (value_of a) h

-- a program that goes on asks first
not_yet : {A : Type 0} (op : Task) (more : Value → TaskPlan A) (a : A) → Asks op more ≡ Ends a → ⊥
not_yet op more a h = cc

-- deeds of one program and then of another
record Parts {A B : Type 0} (p : TaskPlan A) (next : A → TaskPlan B) (calls : Trace) (b : B) : Type 0 where
  pub front : Trace
  pub rest : Trace
  pub value : A
  pub joined : calls ≡ front ++ rest
  pub first : Does p front value
  pub then : Does (next value) rest b

parts_of : {A B : Type 0} (p : TaskPlan A) (next : A → TaskPlan B) (calls : Trace) (b : B) → Does (p >>= next) calls b → Parts p next calls b
parts_of (Ends a) next calls b h = record { front = []; rest = calls; value = a; joined = refl; first = refl; then = h }
parts_of (Asks op more) next [] b h = absurd (not_yet op (λ answer. more answer >>= next) b h)
parts_of (Asks op more) next (d ∷ ds) b h =
    let inner : Parts (more d.answer) next ds b = parts_of (more d.answer) next ds b h.1 in
    record {
      front = d ∷ inner.front;
      rest = inner.rest;
      value = inner.value;
      joined = ap (λ (xs : Trace). d ∷ xs) inner.joined;
      first = (h.0, inner.first);
      then = inner.then;
    }

-- a deed of this operation
whole_of : (d : Deed Task Value) (op : Task) → d.op ≡ op → IsWhole op d.answer → IsWhole d.op d.answer
whole_of d op is h = subst (λ (o : Task). IsWhole o d.answer) (sym is) h

-- what has ended does nothing more
none_more : {A : Type 0} (a b : A) (calls : Trace) → Does (ended a) calls b → AreWhole calls
none_more a b [] h = tt
none_more a b (d ∷ ds) h = absurd h

-- ---- pieces

leaves_whole : {A B : Type 0} (p : Program LeafOp Answer A) (f : A → B) (calls : Trace) (b : B) → Does (by_leaves p >>= λ a. Ends (f a)) calls b → AreWhole calls
leaves_whole (Ends a) f calls b h = none_more (f a) b calls h
leaves_whole (Asks act more) f [] b h = tt
leaves_whole (Asks act more) f (d ∷ ds) b h =
    (whole_of d (Leaf act) h.0 tt, leaves_whole (more (got d.answer)) f ds b h.1)

-- ---- parts of a block

-- where the write of a part below has no error, its calls have none
abbrev BelowWhole : (List ℕ → List ℕ → TaskPlan Value) → Type 0
BelowWhole below = (path part : List ℕ) (calls : Trace) (v : Value) → Does (below path part) calls v → (stored v).error ≡ None → AreWhole calls

members_whole : (below : List ℕ → List ℕ → TaskPlan Value) → BelowWhole below → (path : List ℕ) (n : ℕ) (parts : List (List ℕ)) (calls : Trace) (m : Kin) → Does (plan_members below path n parts) calls m → worst_of m.errors ≡ None → AreWhole calls
members_whole below fine path n [] calls m h none = none_more _ m calls h
members_whole below fine path n (part ∷ parts) calls m h none =
    let at : List ℕ = path ++ n ∷ [] in
    let one : Parts (below at part) (λ v. plan_members below path (n + 1) parts >>= λ others. Ends (add_kin (stored v) others)) calls m =
    parts_of (below at part) (λ v. plan_members below path (n + 1) parts >>= λ others. Ends (add_kin (stored v) others)) calls m h in
    let more : Parts (plan_members below path (n + 1) parts) (λ others. Ends (add_kin (stored one.value) others)) one.rest m =
    parts_of (plan_members below path (n + 1) parts) (λ others. Ends (add_kin (stored one.value) others)) one.rest m one.then in
    joined one.front one.rest more.front more.rest one.value more.value one.joined more.joined
    (λ ok. fine at part one.front one.value one.first ok)
    (λ ok. members_whole below fine path (n + 1) parts more.front more.value more.first ok) more.then
  where
    joined : (front rest inner last : Trace) (v : Value) (others : Kin) → calls ≡ front ++ rest → rest ≡ inner ++ last
        → ((stored v).error ≡ None → AreWhole front) → (worst_of others.errors ≡ None → AreWhole inner) → Does (Ends (add_kin (stored v) others)) last m → AreWhole calls
    joined front rest inner (d ∷ ds) v others e f one more then = absurd then
    joined front rest inner [] v others e f one more then =
        let is : add_kin (stored v) others ≡ m = same_end (add_kin (stored v) others) m then in
        let all : worst_error (stored v).error (worst_of others.errors) ≡ None = ap (λ (k : Kin). worst_of k.errors) is ∙ none in
        let both = both_none (stored v).error (worst_of others.errors) all in
        let tail : AreWhole rest = subst AreWhole (sym f) (all_append (λ (d : Deed Task Value). IsWhole d.op d.answer) inner [] (more both.1) tt) in
        subst AreWhole (sym e) (all_append (λ (d : Deed Task Value). IsWhole d.op d.answer) front rest (one both.0) tail)

gang_whole : (places : Option (List Place)) (w : Writing) (below : List ℕ → List ℕ → TaskPlan Value) → BelowWhole below → (path bytes : List ℕ) (calls : Trace) (v : Value) → Does (plan_gang places w below path bytes) calls v → (stored v).error ≡ None → AreWhole calls
gang_whole None w below fine path bytes calls v h none = none_more (StoredAs nowhere) v calls h
gang_whole (Some places) w below fine path bytes calls v h none =
    let parts : List (List ℕ) = cut (split_sizes (length bytes)) bytes in
    let one : Parts (plan_members below path 0 parts) (λ m. ask (WriteCopies (header_over w places m) places) >>= λ a. Ends (StoredAs (gang_stored w path bytes places m (wrote a)))) calls v =
    parts_of (plan_members below path 0 parts) (λ m. ask (WriteCopies (header_over w places m) places) >>= λ a. Ends (StoredAs (gang_stored w path bytes places m (wrote a)))) calls v h in
    headed one.front one.rest one.value one.joined (λ ok. members_whole below fine path 0 parts one.front one.value one.first ok) one.then
  where
    headed : (front rest : Trace) (m : Kin) → calls ≡ front ++ rest → (worst_of m.errors ≡ None → AreWhole front)
        → Does (ask (WriteCopies (header_over w places m) places) >>= λ a. Ends (StoredAs (gang_stored w path bytes places m (wrote a)))) rest v → AreWhole calls
    headed front [] m e one then = absurd (not_yet (WriteCopies (header_over w places m) places) _ v then)
    headed front (d ∷ x ∷ xs) m e one then = absurd then.1
    headed front (d ∷ []) m e one then =
        let is : StoredAs (gang_stored w path bytes places m (wrote d.answer)) ≡ v = same_end (StoredAs (gang_stored w path bytes places m (wrote d.answer))) v then.1 in
        let all : worst_error (worst_of m.errors) (wrote d.answer) ≡ None = ap (λ (x : Value). (stored x).error) is ∙ none in
        let both = both_none (worst_of m.errors) (wrote d.answer) all in
        subst AreWhole (sym e)
        (all_append (λ (x : Deed Task Value). IsWhole x.op x.answer) front (d ∷ []) (one both.0)
        (whole_of d (WriteCopies (header_over w places m) places) then.0 both.1, tt))

unless_whole : (small : Bool) (w : Writing) (below : List ℕ → List ℕ → TaskPlan Value) → BelowWhole below → (path bytes : List ℕ) (calls : Trace) (v : Value) → Does (plan_gang_unless small w below path bytes) calls v → (stored v).error ≡ None → AreWhole calls
unless_whole true w below fine path bytes calls v h none = none_more (StoredAs nowhere) v calls h
unless_whole false w below fine path bytes [] v h none = tt
unless_whole false w below fine path bytes (d ∷ ds) v h none =
    (whole_of d (Find (head_ask w path)) h.0 tt, gang_whole (found d.answer) w below fine path bytes ds v h.1 none)

body_whole : (places : Option (List Place)) (w : Writing) (below : List ℕ → List ℕ → TaskPlan Value) → BelowWhole below → (path bytes : List ℕ) (calls : Trace) (v : Value) → Does (plan_body places w below path bytes) calls v → (stored v).error ≡ None → AreWhole calls
body_whole None w below fine path bytes calls v h none = unless_whole (nat_le (length bytes) sector_size) w below fine path bytes calls v h none
body_whole (Some places) w below fine path bytes [] v h none = tt
body_whole (Some places) w below fine path bytes (d ∷ x ∷ xs) v h none = absurd h.1
body_whole (Some places) w below fine path bytes (d ∷ []) v h none =
    let error : wrote d.answer ≡ None = ap (λ (p : TaskPlan Value). (stored (value_of v p)).error) h.1 ∙ none in
    (whole_of d (WriteCopies bytes places) h.0 error, tt)

part_whole : (w : Writing) (below : List ℕ → List ℕ → TaskPlan Value) → BelowWhole below → (path bytes : List ℕ) (calls : Trace) (v : Value) → Does (plan_part w below path bytes) calls v → (stored v).error ≡ None → AreWhole calls
part_whole w below fine path bytes [] v h none = tt
part_whole w below fine path bytes (d ∷ ds) v h none =
    (whole_of d (Find (body_ask w path bytes)) h.0 tt, body_whole (found d.answer) w below fine path bytes ds v h.1 none)

-- ---- tasks

-- the calls of a task without error have none
task_whole : (t : Terms) (o : Task) (calls : Trace) (v : Value) → Does (plan t o) calls v → IsWhole o v → AreWhole calls
task_whole t (Leaf act) [] v h whole = tt
task_whole t (Leaf act) (d ∷ []) v h whole = (whole_of d (Leaf act) h.0 tt, tt)
task_whole t (Leaf act) (d ∷ x ∷ xs) v h whole = absurd h.1
task_whole t (Find a) [] v h whole = tt
task_whole t (Find a) (d ∷ []) v h whole = (whole_of d (Find a) h.0 tt, tt)
task_whole t (Find a) (d ∷ x ∷ xs) v h whole = absurd h.1
task_whole t (WriteCopies bytes places) calls v h whole = leaves_whole (piece_writing t.setting bytes places) (λ e. Wrote e) calls v h
task_whole t (WritePart attempt p sum copies zero path bytes) calls v h whole =
    part_whole (writing_of t attempt p sum copies) (λ below part. Ends (StoredAs nowhere)) (λ below part ds x does none. none_more (StoredAs nowhere) x ds does) path bytes calls v h whole
task_whole t (WritePart attempt p sum copies (suc levels) path bytes) calls v h whole =
    part_whole (writing_of t attempt p sum copies) (λ below part. ask (WritePart attempt p sum copies levels below part)) one path bytes calls v h whole
  where
    one : BelowWhole (λ below part. ask (WritePart attempt p sum copies levels below part))
    one below part [] x does none = tt
    one below part (d ∷ y ∷ ys) x does none = absurd does.1
    one below part (d ∷ []) x does none =
        let error : (stored d.answer).error ≡ None = ap (λ (q : TaskPlan Value). (stored (value_of x q)).error) does.1 ∙ none in
        (whole_of d (WritePart attempt p sum copies levels below part) does.0 error, tt)
task_whole t (ReadCopies repair test len places) calls v h whole = absurd whole
task_whole t (ReadHeads look levels path bp) calls v h whole = absurd whole
task_whole t (ReadTree tree) calls v h whole = absurd whole
task_whole t (TakePlaces tree) calls v h whole = absurd whole
task_whole t (Attempt attempt p kids) calls v h whole = absurd whole
task_whole t (Settle p kids) calls v h whole = absurd whole

-- ---- the law

pub made_whole : (t : Terms) (calls ds : Trace) → Made (plan t) calls ds → AreWhole calls → AreWhole ds
made_whole t calls ds NoneMade h = tt
made_whole t calls ds (Itself {cs = cs} {ds = es} m) h = (h.0, made_whole t cs es m h.1)
made_whole t calls ds (ByParts {c = c} {cs = cs} {calls = inner} {ds = es} {es = fs} does m ms) h =
    all_append (λ (d : Deed Task Value). IsWhole d.op d.answer) es fs
    (made_whole t inner es m (task_whole t c.op inner c.answer does h.0)) (made_whole t cs fs ms h.1)

pub trace_whole : (stops : Task → Bool) (journal : List Choice) (t : Terms) (attempt : ℕ) (p : Pending) (sum : SumKind) (copies levels : ℕ) (path bytes : List ℕ) (images : Images) → (place_part levels journal (writing_of t attempt p sum copies) path bytes images).error ≡ None → AreWhole (task_trace stops journal t (WritePart attempt p sum copies levels path bytes) images)
trace_whole stops journal t attempt p sum copies levels path bytes images none =
    made_whole t _ (task_trace stops journal t (WritePart attempt p sum copies levels path bytes) images)
    (down_made (means journal t) (plan t) stops (plan_run journal t) levels_max (WritePart attempt p sum copies levels path bytes) images) (none, tt)

-- ---- pointers

if_gang : (places : Option (List Place)) (w : Writing) (place : List ℕ → List ℕ → Images → Placed) (path bytes : List ℕ) (images : Images) → (gang_with places w place path bytes images).error ≡ None → IsSome (gang_with places w place path bytes images).pointer
if_gang None w place path bytes images none = absurd (cc)
if_gang (Some places) w place path bytes images none = refl

if_small : (small : Bool) (journal : List Choice) (w : Writing) (place : List ℕ → List ℕ → Images → Placed) (path bytes : List ℕ) (images : Images) → (gang_unless small journal w place path bytes images).error ≡ None → IsSome (gang_unless small journal w place path bytes images).pointer
if_small true journal w place path bytes images none = absurd (cc)
if_small false journal w place path bytes images none = if_gang (chosen journal (head_ask w path)) w place path bytes images none

if_placed : (places : Option (List Place)) (journal : List Choice) (w : Writing) (place : List ℕ → List ℕ → Images → Placed) (path bytes : List ℕ) (images : Images) → (body_with places journal w place path bytes images).error ≡ None → IsSome (body_with places journal w place path bytes images).pointer
if_placed (Some places) journal w place path bytes images none = refl
if_placed None journal w place path bytes images none = if_small (nat_le (length bytes) sector_size) journal w place path bytes images none

pub pointer_law : (levels : ℕ) (journal : List Choice) (w : Writing) (path bytes : List ℕ) (images : Images) → (place_part levels journal w path bytes images).error ≡ None → IsSome (place_part levels journal w path bytes images).pointer
unfolding place_part
pointer_law zero journal w path bytes images none =
    if_placed (chosen journal (body_ask w path bytes)) journal w (λ below part now. without_place [] now) path bytes images none
pointer_law (suc levels) journal w path bytes images none =
    if_placed (chosen journal (body_ask w path bytes)) journal w (place_part levels journal w) path bytes images none
