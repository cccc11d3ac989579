-- The read of a block under way: which program of tasks is left of it, and what each call shows of that.
use Rattle.std.specs.Prelude.{◌≡◌, ℕ, ◌<◌, ◌⊎◌, List, [], ◌∷◌, length, map, true, Option, Some, None, Result, Ok, Err}
use Rattle.zio_types.specs.declared.error.Errno.{Errno}
use Rattle.zio_types.specs.declared.error.Errno.TheVariants.{Io}
use Rattle.zio_blkptr.specs.declared.pointer.Bp.{Bp}
use Rattle.zio_blkptr.specs.Pointers.{places_of}
use Rattle.zio_gang.specs.declared.tree.Head.{Head}
use Rattle.zio_gang.specs.declared.tree.Tree.{Tree}
use Rattle.zio_gang.specs.Trees.{header_levels_max, unless_errors}
use Rattle.zio_trace.specs.Leaves.{Answer}
use Rattle.zio_trace.specs.Plans.{Bodies, TaskPlan, add_got, only, own_taken, plan_after, plan_tree}
use Rattle.zio_trace.specs.Programs.{Ends, ◌>>=◌, ask}
use Rattle.zio_trace.specs.Tasks.{BodyOf, ByKept, Got, OwnGot, ReadCopies, ReadHeads, TakePlaces, Value, Walked, taken}
use Rattle.zio_frames.specs.Slots.{AllHeard, AsksBehindSlots, Heard, IsOut, Slot, left_behind_slots, told_in}
use Rattle.zio_parts.specs.declared.tree_read.Phase.{Phase}
use Rattle.zio_parts.specs.declared.tree_read.Phase.TheVariants.{Unread, Out, Failed, Found}
use Rattle.zio_parts.specs.declared.tree_read.TreeStep.{TreeStep}
use Rattle.zio_parts.specs.declared.tree_read.TreeStep.TheVariants.{Walk, Body, Wait, End}

-- The block's pointer, how far its walk is, the bodies that this came to, and of each body that was handed out what was
-- read; none, where it is out.
pub record Reading : Type 0 where
  pub bp : Bp
  pub phase : Phase
  pub bodies : List Bp
  pub results : List (Option Answer)

-- ---- what is left

-- the read of a body
abbrev pub body_slot : Option Answer → Slot
body_slot None = IsOut None
body_slot (Some found) = Heard (Got found)

-- the walk that is out, or the bodies
abbrev pub slots_in : Phase → List (Option Answer) → List Slot
slots_in Unread results = []
slots_in Out results = IsOut None ∷ []
slots_in (Failed e) results = []
slots_in Found results = map body_slot results

abbrev pub slots_of : Reading → List Slot
slots_of x = slots_in x.phase x.results

-- the plan from the walk on that isn't heard, or from behind it
abbrev pub reading_in : List Head → Bp → Phase → List Bp → TaskPlan Value
reading_in heads bp (Failed e) bodies = Ends (Got (Err e))
reading_in heads bp Found bodies = plan_after [] bodies
reading_in heads bp _ bodies = plan_tree (record { bp = bp; heads = heads })

abbrev pub reading_from : List Head → Reading → TaskPlan Value
reading_from heads x = reading_in heads x.bp x.phase x.bodies

-- The rest of the plan, where these are the headers that are kept. So many of its first operations are out as of the slots.
abbrev pub left_of_read : List Head → Reading → TaskPlan Value
left_of_read heads x = left_behind_slots (slots_of x) (reading_from heads x)

-- how many bodies are out together at most
abbrev pub bodies_out_max : ℕ
bodies_out_max = 3

-- ---- what was read

-- the errors and the bytes of those that were heard
abbrev pub bodies_in : List (Option Answer) → Bodies
bodies_in [] = record { errors = []; bytes = [] }
bodies_in (None ∷ results) = bodies_in results
bodies_in (Some found ∷ results) = add_got found (bodies_in results)

-- the bytes, or the worst of the errors
abbrev pub bytes_or : Bodies → Answer
bytes_or b = unless_errors b.errors b.bytes

abbrev pub found_in : Phase → List (Option Answer) → Answer
found_in (Failed e) results = Err e
found_in Found results = bytes_or (bodies_in results)
found_in _ results = Err Io

abbrev pub found_of : Reading → Answer
found_of x = found_in x.phase x.results

-- ---- calls

-- nothing of it is done
abbrev pub fresh_read : Bp → Reading
fresh_read bp = record { bp = bp; phase = Unread; bodies = []; results = [] }

abbrev pub with_phase : Reading → Phase → Reading
with_phase x phase = record { bp = x.bp; phase = phase; bodies = x.bodies; results = x.results }

abbrev pub with_results : Reading → List (Option Answer) → Reading
with_results x results = record { bp = x.bp; phase = x.phase; bodies = x.bodies; results = results }

-- the bodies that a walk came to, or the worst of its errors
abbrev pub bodies_or : Walked → Result (List Bp) Errno
bodies_or w = unless_errors w.errors w.bodies

abbrev pub walk_heard : Reading → Result (List Bp) Errno → Reading
walk_heard x (Ok bodies) = record { bp = x.bp; phase = Found; bodies = bodies; results = x.results }
walk_heard x (Err e) = with_phase x (Failed e)

-- What a step shows of the rest: the task that it asks next; that it waits for those that are out, all of those that it can
-- ask yet; or its end.
abbrev pub ShowsRead : Reading → TreeStep → Type 0
ShowsRead x Walk =
    (x.phase ≡ Unread) × ((heads : List Head) → AsksBehindSlots (slots_of x) (reading_from heads x) (ReadHeads (ByKept heads) header_levels_max [] x.bp))
ShowsRead x (Body b) =
    (x.phase ≡ Found) × (length x.results ≡ b.n) × (b.n < length x.bodies) × (length (told_in (slots_of x)) < bodies_out_max)
    × ((heads : List Head) → AsksBehindSlots (slots_of x) (reading_from heads x) (ReadCopies true (BodyOf b.bp) b.bp.size (places_of b.bp)))
ShowsRead x Wait =
    (0 < length (told_in (slots_of x)))
    × ((x.phase ≡ Out) ⊎ ((length (told_in (slots_of x)) ≡ bodies_out_max) ⊎ (length x.results ≡ length x.bodies)))
ShowsRead x End = AllHeard (slots_of x) × ((heads : List Head) → left_of_read heads x ≡ Ends (Got (found_of x)))

-- ---- a claim

-- a claim behind its walk: the tree whose places are to be taken, or its error
abbrev pub claiming : Result Tree Errno → TaskPlan OwnGot
claiming (Ok tree) = ask (TakePlaces tree) >>= λ v. Ends (own_taken (taken v) tree)
claiming (Err e) = Ends (only (Some e))
