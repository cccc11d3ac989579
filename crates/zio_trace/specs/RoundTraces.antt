-- The trace of a round: what its trees come to in the definitions' order, each operation with its answer. It stops at
-- single operations, or above them where a test says so.
use Rattle.std.specs.Prelude.{◌≡◌, ℕ, zero, suc, ◌+◌, List, [], ◌∷◌, ◌++◌, map, Bool, true, false, Option}
use Rattle.std.specs.List.{AllByRecursion}
use Rattle.zio_types.specs.Choices.{Ask, Choice}
use Rattle.zio_blkptr.specs.declared.pointer.Bp.{Bp}
use Rattle.zio_cksum.specs.Images.{Images}
use Rattle.zio_gang.specs.Attempts.{Attempt, Attempted, Child, Pending, Return, Terms, attempt_one, attempt_tree, children_of, insert_children, now_alone, reexecutions_max, returned_to, root_bits, settle}
use Rattle.zio_trace.specs.Conflicts.{is_single}
use Rattle.zio_trace.specs.Plans.{plan, plan_own}
use Rattle.zio_trace.specs.Programs.{Asks, Deed, Ends, Happen, Meaning, Program, asks_of}
use Rattle.zio_trace.specs.Tasks.{ReadCopies, Task, Value, WriteCopies, means}

-- ---- of an operation

-- what the operations of a program come to in turn, each over the images that the one before left
abbrev pub trace_each : {Op Ans A : Type 0} → (Op → Images → List (Deed Op Ans)) → Meaning Op Ans → Program Op Ans A → Images → List (Deed Op Ans)
trace_each below means (Ends a) images = []
trace_each below means (Asks op more) images =
    below op images ++ trace_each below means (more (means op images).value) (means op images).images

-- the operation itself, or what stands below it
abbrev pub itself_if : {Op Ans : Type 0} → Bool → Deed Op Ans → (Images → List (Deed Op Ans)) → Images → List (Deed Op Ans)
itself_if true d below images = d ∷ []
itself_if false d below images = below images

-- the operation over these images, with its answer
abbrev pub deed_of : {Op Ans : Type 0} → Meaning Op Ans → Op → Images → Deed Op Ans
deed_of means op images = record { op = op; answer = (means op images).value }

-- what an operation comes to by its plan, by the plans of that, and so on, so many levels down
abbrev pub trace_down : {Op Ans : Type 0} → ℕ → (Op → Bool) → Meaning Op Ans → (Op → Program Op Ans Ans) → Op → Images → List (Deed Op Ans)
trace_down zero stops means plan op images = deed_of means op images ∷ []
trace_down (suc levels) stops means plan op images =
    itself_if (stops op) (deed_of means op images) (trace_each (trace_down levels stops means plan) means (plan op)) images

-- A block has eight levels of headers at most, and below the last stand the copies.
abbrev pub levels_max : ℕ
levels_max = 9

-- tasks with their answers, in turn
abbrev pub Trace : Type 0
Trace = List (Deed Task Value)

abbrev pub task_trace : (Task → Bool) → List Choice → Terms → Task → Images → Trace
task_trace stops journal t = trace_down levels_max stops (means journal t) (plan t)

-- single operations, and the read or the write of a piece's copies as one: a read has the test of a copy and the bytes
-- of the one that was taken, a write the bytes that it gives
abbrev pub is_single_or_piece : Task → Bool
is_single_or_piece (ReadCopies repair test len places) = true
is_single_or_piece (WriteCopies bytes places) = true
is_single_or_piece o = is_single o

-- ---- of trees

-- a request's own work, with its children's pointers
abbrev pub own_trace : (Task → Bool) → List Choice → Terms → ℕ → Pending → List (Option Bp) → Images → Trace
own_trace stops journal t attempt p pointers =
    trace_each (task_trace stops journal t) (means journal t) (plan_own t attempt p p.request.work pointers)

-- all children, those that go again too, give their pointers
abbrev pub pointers_after : Pending → List Return → List (Option Bp)
pointers_after p returns =
    map (λ (c : Child). c.pointer) (insert_children (children_of (returned_to p returns)) p.kept)

-- a request's trace, and then those behind it with what it handed on
abbrev pub then_trace : Trace → List Return → Attempted → (List Return → Images → Trace) → Trace
then_trace ds returns one others = ds ++ others (one.return ∷ returns) one.images

-- an attempt of these requests in turn
abbrev pub attempt_trace : (Task → Bool) → List Choice → Terms → ℕ → List Pending → List Return → Images → Trace
attempt_trace stops journal t attempt [] returns images = []
attempt_trace stops journal t attempt (p ∷ ps) returns images =
    then_trace (own_trace stops journal t attempt p (pointers_after p returns) images) returns
    (attempt_one journal t attempt p returns images) (attempt_trace stops journal t attempt ps)

abbrev pub again_if : Bool → Attempt → (List Pending → Images → Trace) → Trace
again_if true a again = again a.again a.images
again_if false a again = []

-- the next attempt follows while the root's bits are NOW alone
abbrev pub again_trace : Attempt → (List Pending → Images → Trace) → Trace
again_trace a again = again_if (now_alone (root_bits a.returns)) a again

-- a tree's attempts, so many more at most
abbrev pub settle_trace : ℕ → (Task → Bool) → List Choice → Terms → ℕ → List Pending → Images → Trace
settle_trace zero stops journal t attempt tree images = attempt_trace stops journal t attempt tree [] images
settle_trace (suc more) stops journal t attempt tree images =
    attempt_trace stops journal t attempt tree [] images
    ++ again_trace (attempt_tree journal t attempt tree images) (settle_trace more stops journal t (attempt + 1))

-- each tree over the images that the one before it left
abbrev pub round_trace : (Task → Bool) → List Choice → Terms → List (List Pending) → Images → Trace
round_trace stops journal t [] images = []
round_trace stops journal t (tree ∷ trees) images =
    settle_trace reexecutions_max stops journal t 0 tree images
    ++ round_trace stops journal t trees (settle journal t tree images).images

-- ---- what is said of a trace

-- The deeds happen one after another and lead from the images before to those after, it is at these operations that the
-- trace stops, and they ask for these places.
pub record LeadsBy (stops : Task → Bool) (journal : List Choice) (t : Terms) (ds : Trace) (before after : Images) (asks : List Ask) : Type 0 where
  pub happen : Happen (means journal t) ds before after
  pub stop : AllByRecursion (λ (d : Deed Task Value). stops d.op ≡ true) ds
  pub asked : asks_of (means journal t) ds before ≡ asks

-- the test is met by single operations
abbrev pub StopsAtSingles : (Task → Bool) → Type 0
StopsAtSingles stops = (o : Task) → is_single o ≡ true → stops o ≡ true
