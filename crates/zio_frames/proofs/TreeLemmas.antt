-- The round's own program: what it asks first, and what is left of it where its trees are out or have their values.
use Rattle.std.proofs.Common.{◌≡◌, ℕ, zero, suc, ◌+◌, List, [], ◌∷◌, ◌++◌, length, slice_get, Option, Some, None, refl, sym, ap, ◌∙◌, arith}
use Rattle.std.specs.List.{AllByRecursion, flat_map}
use Rattle.std.proofs.lemmas.List.{map-append}
use Rattle.zio_blkptr.specs.declared.pointer.Bp.{Bp}
use Rattle.zio_cksum.proofs.AllLemmas.{all_append}
use Rattle.zio_gang.specs.Attempts.{Terms}
use Rattle.zio_trace.specs.Going.{nth_asked}
use Rattle.zio_trace.specs.Labels.{Labelled, labelled}
use Rattle.zio_trace.specs.Oracles.{Oracle}
use Rattle.zio_trace.specs.Plans.{TaskPlan}
use Rattle.zio_trace.specs.Programs.{Asks, Ends, Program, ◌>>=◌}
use Rattle.zio_trace.specs.Tasks.{Task, Value}
use Rattle.zio_trace.specs.Underway.{Call, Flight, plan_each}
use Rattle.zio_trace.specs.Views.{nth}
use Rattle.zio_frames.specs.Frames.{Flying, Frame, Inner, flight_at, flights_of, fresh_stack, inner_flights, outs_from}
use Rattle.zio_frames.specs.Running.{all_heard, all_out, settling_from}
use Rattle.zio_frames.specs.Seats.{IsSeated}
use Rattle.zio_frames.specs.Slots.{Heard, IsOut, Slot, left_behind_slots}
use Rattle.zio_frames.proofs.OutLemmas.{out_of}
use Rattle.zio_frames.proofs.SeatLemmas.{seated_begins}

shift : (n k : ℕ) → suc n + k ≡ n + suc k
shift n k = omega arith

-- ---- what the program asks

asked_then : {A B : Type 0} (o : Oracle (Labelled Task) Value) (at : List ℕ) (n k : ℕ) (p : TaskPlan A) (g : A → B)
    → nth_asked o k (labelled at n (p >>= λ a. Ends (g a))) ≡ nth_asked o k (labelled at n p)
asked_then o at n k (Ends a) g = refl
asked_then o at n zero (Asks op more) g = refl
asked_then o at n (suc k) (Asks op more) g =
    asked_then o at (suc n) k (more (o.answer (record { at = at ++ n ∷ []; op = op }))) g

-- behind the first of its tasks the next
pub each_asked : (o : Oracle (Labelled Task) Value) (at : List ℕ) (n : ℕ) (done : List Task) (q : Task) (rest : List Task)
    → (y : Labelled Task) × (nth_asked o (length done) (labelled at n (plan_each (done ++ q ∷ rest))) ≡ Some y) × (y.op ≡ q)
each_asked o at n [] q rest = (record { at = at ++ n ∷ []; op = q }, refl, refl)
each_asked o at n (d ∷ done) q rest =
    let v : Value = o.answer (record { at = at ++ n ∷ []; op = d }) in
    let k = each_asked o at (suc n) done q rest in
    (k.0, asked_then o at (suc n) (length done) (plan_each (done ++ q ∷ rest)) (λ (vs : List Value). v ∷ vs) ∙ k.1, k.2)

-- nothing is answered where all are out
pub none_answered : {A : Type 0} (tasks : List Task) (p : Program (Labelled Task) Value A)
    → left_behind_slots (all_out tasks) p ≡ p
none_answered [] p = refl
none_answered (q ∷ tasks) (Ends a) = refl
none_answered (q ∷ tasks) (Asks x more) = λ i. Asks x (λ v. none_answered tasks (more v) i)

-- all is answered where each has its value
heard_then : {A B : Type 0} (at : List ℕ) (n : ℕ) (slots : List Slot) (p : TaskPlan A) (g : A → B) (a : A)
    → left_behind_slots slots (labelled at n p) ≡ Ends a
    → left_behind_slots slots (labelled at n (p >>= λ x. Ends (g x))) ≡ Ends (g a)
heard_then at n [] (Ends b) g a e = let is : b ≡ a = cc in ap (λ x. Ends (g x)) is
heard_then at n [] (Asks op more) g a e = absurd (cc)
heard_then at n (x ∷ slots) (Ends b) g a e = let is : b ≡ a = cc in ap (λ y. Ends (g y)) is
heard_then at n (Heard v ∷ slots) (Asks op more) g a e = heard_then at (suc n) slots (more v) g a e
heard_then at n (IsOut told ∷ slots) (Asks op more) g a e = absurd (cc)

pub each_heard : (at : List ℕ) (n : ℕ) (tasks : List Task) (values : List Value) → length (all_heard values) ≡ length tasks
    → left_behind_slots (all_heard values) (labelled at n (plan_each tasks)) ≡ Ends values
each_heard at n [] [] e = refl
each_heard at n [] (v ∷ values) e = absurd (omega arith)
each_heard at n (q ∷ tasks) [] e = absurd (omega arith)
each_heard at n (q ∷ tasks) (v ∷ values) e =
    heard_then at (suc n) (all_heard values) (plan_each tasks) (λ (vs : List Value). v ∷ vs) values
    (each_heard at (suc n) tasks values (omega arith))

-- ---- those that are out

-- which of those asked it is
pub out_from : (at : List ℕ) (n k : ℕ) (asked : List Task) (slots : List Slot) (c : Call)
    → nth k (outs_from at n asked slots) ≡ Some c
    → (m : ℕ) × (op : Task) × (told : Option (Option Bp)) × (slice_get asked m ≡ Some op)
    × (slice_get slots m ≡ Some (IsOut told)) × (c ≡ out_of at (n + m) op told)
out_from at n k [] slots c e = absurd (cc)
out_from at n k (q ∷ asked) [] c e = absurd (cc)
out_from at n k (q ∷ asked) (Heard v ∷ slots) c e =
    let h = out_from at (suc n) k asked slots c e in
    (suc h.0, h.1, h.2, h.3, h.4, h.5 ∙ ap (λ i. out_of at i h.1 h.2) (shift n h.0))
out_from at n zero (q ∷ asked) (IsOut told ∷ slots) c e =
    let is : out_of at n q told ≡ c = cc in
    let here : n ≡ n + 0 = omega arith in
    (0, q, told, refl, refl, sym is ∙ ap (λ i. out_of at i q told) here)
out_from at n (suc k) (q ∷ asked) (IsOut told ∷ slots) c e =
    let h = out_from at (suc n) k asked slots c e in
    (suc h.0, h.1, h.2, h.3, h.4, h.5 ∙ ap (λ i. out_of at i h.1 h.2) (shift n h.0))

-- the operations of one in flight are in its place
abbrev pub CallsBelow : Flight → Type 0
CallsBelow x = (k : ℕ) (c : Call) → nth k x.outs ≡ Some c → (m : ℕ) × (c.op.at ≡ x.op.at ++ m ∷ [])

frame_below : (t : Terms) (at : List ℕ) (x : Frame) → CallsBelow (flight_at t at x)
frame_below t at x = λ k c e.
    let h = out_from at 0 k x.asked x.slots c e in
    (0 + h.0, ap (λ (d : Call). d.op.at) h.5)

inner_below : (t : Terms) (at : List ℕ) (inner : Option Inner) → AllByRecursion CallsBelow (inner_flights t at inner)
inner_below t at None = tt
inner_below t at (Some i) = (frame_below t (at ++ i.number ∷ []) i.frame, tt)

pub flights_below : (t : Terms) (nodes : List Flying) → AllByRecursion CallsBelow (flat_map (flights_of t) nodes)
flights_below t [] = tt
flights_below t (x ∷ nodes) = (
  frame_below t x.at x.stack.outer,
  all_append CallsBelow (inner_flights t x.at x.stack.inner) (flat_map (flights_of t) nodes) (inner_below t x.at x.stack.inner)
      (flights_below t nodes),
)

-- ---- the round's first nodes

pub settling_more : (n : ℕ) (done : List Task) (q : Task)
    → settling_from n
    (done ++ q ∷ []) ≡ settling_from n done ++ record { at = (n + length done) ∷ []; stack = fresh_stack q } ∷ []
settling_more n [] q =
    let here : n ≡ n + 0 = omega arith in
    ap (λ k. record { at = k ∷ []; stack = fresh_stack q } ∷ []) here
settling_more n (d ∷ done) q =
    let x : Flying = record { at = n ∷ []; stack = fresh_stack d } in
    ap (λ (xs : List Flying). x ∷ xs)
    (settling_more (suc n) done q
    ∙ ap (λ k. settling_from (suc n) done ++ record { at = k ∷ []; stack = fresh_stack q } ∷ []) (shift n (length done)))

pub all_out_more : (done : List Task) (q : Task) → all_out (done ++ q ∷ []) ≡ all_out done ++ IsOut None ∷ []
all_out_more done q = map-append (λ (x : Task). IsOut None) done (q ∷ [])

pub out_length : (tasks : List Task) → length tasks ≡ length (all_out tasks)
out_length [] = refl
out_length (q ∷ tasks) = ap suc (out_length tasks)

pub outs_length : (n : ℕ) (tasks : List Task) → length (outs_from [] n tasks (all_out tasks)) ≡ length tasks
outs_length n [] = refl
outs_length n (q ∷ tasks) = ap suc (outs_length (suc n) tasks)

pub seated_settling : (n : ℕ) (tasks : List Task) → AllByRecursion (λ (x : Flying). IsSeated x.stack) (settling_from n tasks)
seated_settling n [] = tt
seated_settling n (q ∷ tasks) = (seated_begins q, seated_settling (suc n) tasks)
