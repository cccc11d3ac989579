-- What is kept of a part's frame: where it begins, asks one more, hears an answer or a pointer, and where an entry is made.
use Rattle.std.proofs.Common.{◌≡◌, ℕ, zero, suc, List, [], ◌∷◌, ◌++◌, length, slice_get, slice_set, Option, Some, None, sym, ◌∙◌, subst, arith, append_assoc, append-nil}
use Rattle.zio_types.specs.Choices.{Choice}
use Rattle.zio_blkptr.specs.declared.pointer.Bp.{Bp}
use Rattle.zio_gang.specs.Attempts.{Terms}
use Rattle.zio_gang.specs.Journals.{AreLawful, HaveDistinctKeys, asks_of}
use Rattle.zio_gang.specs.Trees.{sizes_of}
use Rattle.zio_trace.specs.Calls.{FitsEarly}
use Rattle.zio_trace.specs.Families.{Forest}
use Rattle.zio_trace.specs.Footprints.{FitsTask}
use Rattle.zio_trace.specs.Keys.{FitsLeft}
use Rattle.zio_trace.specs.Plans.{TaskPlan, plan}
use Rattle.zio_trace.specs.Programs.{Asks, Ends}
use Rattle.zio_trace.specs.Tasks.{Attempt, Find, Leaf, ReadCopies, ReadHeads, ReadTree, Settle, TakePlaces, Task, Value, WriteCopies, WritePart}
use Rattle.zio_trace.specs.Underway.{early}
use Rattle.zio_frames.specs.Answering.{IsAnswerTo, NextAnswered}
use Rattle.zio_frames.specs.Frames.{Frame, Inner, Stack, fresh_frame, with_asked, with_slot}
use Rattle.zio_frames.specs.Moves.{AsksNext}
use Rattle.zio_frames.specs.OfRound.{AreAsked, FitsWhichever, IsFrameOf, IsInnerOf, IsOfRound, IsTaskOf, MayAnswer, MayStill, SlotFits, SlotsFit}
use Rattle.zio_frames.specs.Slots.{Heard, IsOut, Slot, left_behind_slots, told_in}

-- ---- it begins, and asks one more

pub fresh_of_round : (t : Terms) (f : Forest) (entries : List Choice) (op : Task) → IsTaskOf t f entries op
    → IsFrameOf t f entries (fresh_frame op)
fresh_of_round t f entries op h = record { task = h; slots = tt; asked = tt }

fits_more : (t : Terms) (entries : List Choice) (asked : List Task) (slots : List Slot) (op : Task) (slot : Slot)
    → length asked ≡ length slots
    → SlotsFit t entries asked slots → SlotFits t entries op slot → SlotsFit t entries (asked ++ op ∷ []) (slots ++ slot ∷ [])
fits_more t entries [] [] op slot len h k = (k, tt)
fits_more t entries [] (s ∷ slots) op slot len h k = absurd (omega (arith, len))
fits_more t entries (q ∷ asked) [] op slot len h k = absurd (omega (arith, len))
fits_more t entries (q ∷ asked) (s ∷ slots) op slot len h k = (h.0, fits_more t entries asked slots op slot (omega (arith, len)) h.1 k)

asked_more : {A : Type 0} (asked : List Task) (slots : List Slot) (p : TaskPlan A) (op : Task) (slot : Slot)
    → length asked ≡ length slots
    → AreAsked asked slots p → NextAnswered (told_in slots) (left_behind_slots slots p) op
    → AreAsked (asked ++ op ∷ []) (slots ++ slot ∷ []) p
asked_more [] [] (Ends a) op slot len h next = absurd next
asked_more [] [] (Asks x more) op (Heard v) len h next = (sym next, tt)
asked_more [] [] (Asks x more) op (IsOut told) len h next = (sym next, λ v k e. tt)
asked_more [] (s ∷ slots) p op slot len h next = absurd (omega (arith, len))
asked_more (q ∷ asked) [] p op slot len h next = absurd (omega (arith, len))
asked_more (q ∷ asked) (s ∷ slots) (Ends a) op slot len h next = absurd h
asked_more (q ∷ asked) (Heard v ∷ slots) (Asks x more) op slot len h next =
    (h.0, asked_more asked slots (more v) op slot (omega (arith, len)) h.1 next)
asked_more (q ∷ asked) (IsOut told ∷ slots) (Asks x more) op slot len h next =
    (h.0, λ v k e. asked_more asked slots (more v) op slot (omega (arith, len)) (h.1 v k e) (next v k e))

-- one more is out, or done at once
pub asked_of_round : (t : Terms) (f : Forest) (entries : List Choice) (x : Frame) (op : Task) (slot : Slot)
    → IsFrameOf t f entries x
    → length x.asked ≡ length x.slots → AsksNext t x op → SlotFits t entries op slot
    → IsFrameOf t f entries (with_asked x op slot)
asked_of_round t f entries x op slot h len asks fit = record {
  task = h.task;
  slots = fits_more t entries x.asked x.slots op slot len h.slots fit;
  asked = asked_more x.asked x.slots (plan t x.op) op slot len h.asked asks.next;
}

-- ---- it hears

fits_set : (t : Terms) (entries : List Choice) (asked : List Task) (slots : List Slot) (n : ℕ) (q : Task) (slot : Slot)
    → slice_get asked n ≡ Some q
    → SlotsFit t entries asked slots → SlotFits t entries q slot → SlotsFit t entries asked (slice_set slots n slot)
fits_set t entries [] slots n q slot e h k = tt
fits_set t entries (x ∷ asked) [] n q slot e h k = tt
fits_set t entries (x ∷ asked) (s ∷ slots) zero q slot e h k =
    let is : x ≡ q = cc in (subst (λ (y : Task). SlotFits t entries y slot) (sym is) k, h.1)
fits_set t entries (x ∷ asked) (s ∷ slots) (suc n) q slot e h k = (h.0, fits_set t entries asked slots n q slot e h.1 k)

asked_heard : {A : Type 0} (asked : List Task) (slots : List Slot) (p : TaskPlan A) (n : ℕ) (q : Task) (told : Option (Option Bp))
    (v : Value)
    → slice_get asked n ≡ Some q → slice_get slots n ≡ Some (IsOut told) → IsAnswerTo q v → FitsEarly early told v
    → AreAsked asked slots p → AreAsked asked (slice_set slots n (Heard v)) p
asked_heard [] slots p n q told v ea es k e h = tt
asked_heard (x ∷ asked) [] p n q told v ea es k e h = tt
asked_heard (x ∷ asked) (s ∷ slots) (Ends a) n q told v ea es k e h = absurd h
asked_heard (x ∷ asked) (Heard w ∷ slots) (Asks y more) zero q told v ea es k e h = absurd (cc)
asked_heard (x ∷ asked) (IsOut out ∷ slots) (Asks y more) zero q told v ea es k e h =
    let is : q ≡ y = (let one : x ≡ q = cc in let two : x ≡ y = h.0 in sym one ∙ two) in
    let same : told ≡ out = cc in
    (h.0, h.1 v (subst (λ (z : Task). IsAnswerTo z v) is k) (subst (λ (z : Option (Option Bp)). FitsEarly early z v) same e))
asked_heard (x ∷ asked) (Heard w ∷ slots) (Asks y more) (suc n) q told v ea es k e h =
    (h.0, asked_heard asked slots (more w) n q told v ea es k e h.1)
asked_heard (x ∷ asked) (IsOut out ∷ slots) (Asks y more) (suc n) q told v ea es k e h =
    (h.0, λ w kind fits. asked_heard asked slots (more w) n q told v ea es k e (h.1 w kind fits))

-- the nth is answered, as it told
pub heard_of_round : (t : Terms) (f : Forest) (entries : List Choice) (x : Frame) (n : ℕ) (q : Task) (told : Option (Option Bp)) (v : Value)
    → IsFrameOf t f entries x → slice_get x.asked n ≡ Some q → slice_get x.slots n ≡ Some (IsOut told)
    → FitsWhichever t entries q v
    → FitsEarly early told v → IsFrameOf t f entries (with_slot x n (Heard v))
heard_of_round t f entries x n q told v h ea es fits e = record {
  task = h.task;
  slots = fits_set t entries x.asked x.slots n q (Heard v) ea h.slots fits;
  asked = asked_heard x.asked x.slots (plan t x.op) n q told v ea es fits.kind e h.asked;
}

slots_told : (t : Terms) (entries : List Choice) (asked : List Task) (slots : List Slot) (n : ℕ) (told : Option (Option Bp))
    → SlotsFit t entries asked slots → SlotsFit t entries asked (slice_set slots n (IsOut told))
slots_told t entries [] slots n told h = tt
slots_told t entries (x ∷ asked) [] n told h = tt
slots_told t entries (x ∷ asked) (s ∷ slots) zero told h = (tt, h.1)
slots_told t entries (x ∷ asked) (s ∷ slots) (suc n) told h = (h.0, slots_told t entries asked slots n told h.1)

asked_told : {A : Type 0} (asked : List Task) (slots : List Slot) (p : TaskPlan A) (n : ℕ) (pointer : Option Bp)
    → slice_get slots n ≡ Some (IsOut None)
    → AreAsked asked slots p → AreAsked asked (slice_set slots n (IsOut (Some pointer))) p
asked_told [] slots p n pointer es h = tt
asked_told (x ∷ asked) [] p n pointer es h = tt
asked_told (x ∷ asked) (s ∷ slots) (Ends a) n pointer es h = absurd h
asked_told (x ∷ asked) (Heard w ∷ slots) (Asks y more) zero pointer es h = absurd (cc)
asked_told (x ∷ asked) (IsOut out ∷ slots) (Asks y more) zero pointer es h =
    let none : None ≡ out = cc in
    (h.0, λ v kind fits. h.1 v kind (subst (λ (z : Option (Option Bp)). FitsEarly early z v) none tt))
asked_told (x ∷ asked) (Heard w ∷ slots) (Asks y more) (suc n) pointer es h = (h.0, asked_told asked slots (more w) n pointer es h.1)
asked_told (x ∷ asked) (IsOut out ∷ slots) (Asks y more) (suc n) pointer es h =
    (h.0, λ w kind fits. asked_told asked slots (more w) n pointer es (h.1 w kind fits))

-- the nth is out, and told nothing so far
pub told_of_round : (t : Terms) (f : Forest) (entries : List Choice) (x : Frame) (n : ℕ) (pointer : Option Bp)
    → IsFrameOf t f entries x
    → slice_get x.slots n ≡ Some (IsOut None) → IsFrameOf t f entries (with_slot x n (IsOut (Some pointer)))
told_of_round t f entries x n pointer h es = record {
  task = h.task;
  slots = slots_told t entries x.asked x.slots n (Some pointer) h.slots;
  asked = asked_told x.asked x.slots (plan t x.op) n pointer es h.asked;
}

-- ---- values

-- the entries so far are a journal that may come
still_now : (t : Terms) (entries : List Choice) → AreLawful (sizes_of t.setting.tops) t.used entries
    → HaveDistinctKeys (asks_of entries) → MayStill t entries entries
still_now t entries lawful distinct =
    record { later = []; is = sym (append-nil {A = Choice} entries); distinct = distinct; lawful = lawful }

-- a value that fits under each journal that may come
pub fits_of_any : (t : Terms) (entries : List Choice) (op : Task) (v : Value) → AreLawful (sizes_of t.setting.tops) t.used entries
    → HaveDistinctKeys (asks_of entries)
    → ((journal : List Choice) → MayStill t entries journal → FitsTask journal t op v) → FitsLeft op v → IsAnswerTo op v
    → FitsWhichever t entries op v
fits_of_any t entries (Find a) v lawful distinct h left kind = record { fits = h; left = left; kind = kind }
fits_of_any t entries (Leaf act) v lawful distinct h left kind = record { fits = λ journal may. tt; left = left; kind = kind }
fits_of_any t entries (TakePlaces tree) v lawful distinct h left kind = record { fits = λ journal may. tt; left = left; kind = kind }
fits_of_any t entries (WriteCopies bytes places) v lawful distinct h left kind =
    record { fits = λ journal may. tt; left = left; kind = kind }
fits_of_any t entries (WritePart attempt p sum copies levels path bytes) v lawful distinct h left kind =
    record { fits = λ journal may. tt; left = left; kind = kind }
fits_of_any t entries (ReadTree tree) v lawful distinct h left kind = record { fits = λ journal may. tt; left = left; kind = kind }
fits_of_any t entries (Settle p kids) v lawful distinct h left kind = record { fits = λ journal may. tt; left = left; kind = kind }
fits_of_any t entries (ReadCopies repair test len places) v lawful distinct h left kind =
    record { fits = λ journal may. h entries (still_now t entries lawful distinct); left = left; kind = kind }
fits_of_any t entries (ReadHeads look levels path bp) v lawful distinct h left kind =
    record { fits = λ journal may. h entries (still_now t entries lawful distinct); left = left; kind = kind }
fits_of_any t entries (Attempt attempt p kids) v lawful distinct h left kind =
    record { fits = λ journal may. h entries (still_now t entries lawful distinct); left = left; kind = kind }

-- ---- an entry is made

still_before : (t : Terms) (entries : List Choice) (c : Choice) (journal : List Choice) → MayStill t (entries ++ c ∷ []) journal
    → MayStill t entries journal
still_before t entries c journal h =
    record { later = c ∷ h.later; is = h.is ∙ append_assoc entries (c ∷ []) h.later; distinct = h.distinct; lawful = h.lawful }

task_more : (t : Terms) (f : Forest) (entries : List Choice) (c : Choice) (op : Task) → IsTaskOf t f entries op
    → IsTaskOf t f (entries ++ c ∷ []) op
task_more t f entries c (WriteCopies bytes places) h =
    record { by = h.by; now = h.now; is = λ journal still. h.is journal (still_before t entries c journal still) }
task_more t f entries c (Leaf act) h = h
task_more t f entries c (Find a) h = h
task_more t f entries c (TakePlaces tree) h = h
task_more t f entries c (ReadCopies repair test len places) h = h
task_more t f entries c (WritePart attempt p sum copies levels path bytes) h = h
task_more t f entries c (ReadHeads look levels path bp) h = h
task_more t f entries c (ReadTree tree) h = h
task_more t f entries c (Attempt attempt p kids) h = h
task_more t f entries c (Settle p kids) h = h

answer_more : (t : Terms) (entries : List Choice) (c : Choice) (op : Task) (journal : List Choice)
    → MayAnswer t (entries ++ c ∷ []) op journal → MayAnswer t entries op journal
answer_more t entries c (Find a) journal h = still_before t entries c journal h
answer_more t entries c _ journal h = tt

pub fits_still : (t : Terms) (entries : List Choice) (c : Choice) (op : Task) (v : Value) → FitsWhichever t entries op v
    → FitsWhichever t (entries ++ c ∷ []) op v
fits_still t entries c op v h =
    record { fits = λ journal may. h.fits journal (answer_more t entries c op journal may); left = h.left; kind = h.kind }

slots_more : (t : Terms) (entries : List Choice) (c : Choice) (asked : List Task) (slots : List Slot)
    → SlotsFit t entries asked slots → SlotsFit t (entries ++ c ∷ []) asked slots
slots_more t entries c [] slots h = tt
slots_more t entries c (q ∷ asked) [] h = tt
slots_more t entries c (q ∷ asked) (Heard v ∷ slots) h = (fits_still t entries c q v h.0, slots_more t entries c asked slots h.1)
slots_more t entries c (q ∷ asked) (IsOut told ∷ slots) h = (tt, slots_more t entries c asked slots h.1)

frame_more : (t : Terms) (f : Forest) (entries : List Choice) (c : Choice) (x : Frame) → IsFrameOf t f entries x
    → IsFrameOf t f (entries ++ c ∷ []) x
frame_more t f entries c x h =
    record { task = task_more t f entries c x.op h.task; slots = slots_more t entries c x.asked x.slots h.slots; asked = h.asked }

inner_more : (t : Terms) (f : Forest) (entries : List Choice) (c : Choice) (inner : Option Inner) → IsInnerOf t f entries inner
    → IsInnerOf t f (entries ++ c ∷ []) inner
inner_more t f entries c None h = tt
inner_more t f entries c (Some i) h = frame_more t f entries c i.frame h

pub more_entries : (t : Terms) (f : Forest) (entries : List Choice) (c : Choice) (st : Stack) → IsOfRound t f entries st
    → IsOfRound t f (entries ++ c ∷ []) st
more_entries t f entries c st h =
    record { outer = frame_more t f entries c st.outer h.outer; inner = inner_more t f entries c st.inner h.inner }
