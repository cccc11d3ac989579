-- What each step of the latch tells the seat that makes it.
use Rattle.std.specs.Prelude.{◌≡◌, ◌≢◌, ℕ, ◌-◌, ◌*◌, List, [], ◌∷◌, ◌++◌, map, length, take, Bool, true, false, not, Some}
use mathlib.Core.Option.{some}
use lib.ListN.{get_elem?}
use Rattle.zio_types.specs.declared.request.ChildKind.{ChildKind}
use Rattle.zio_types.specs.declared.request.ChildKind.TheVariants.{Vdev}
use Rattle.zio_types.specs.declared.request.Phase.{Phase}
use Rattle.zio_types.specs.declared.request.Phase.TheVariants.{Ready}
use Rattle.zio_types.specs.Machine.{Child, Machine, count_of, is_vdev, lacks}
use Rattle.zio_latch.specs.declared.view.Event.{Event}
use Rattle.zio_latch.specs.declared.view.Event.TheVariants.{Added, Waited}
use Rattle.zio_latch.specs.History.{ChildStep, OwnerStep, count_at, last_wait, state_of}
use Rattle.zio_latch.specs.declared.view.Right.{Right}
use Rattle.zio_latch.specs.declared.view.View.{View}
use Rattle.zio_latch.specs.declared.view.OwnerStage.{OwnerStage}
use Rattle.zio_latch.specs.declared.view.OwnerStage.TheVariants.{Awake, Waking}
use Rattle.zio_latch.specs.declared.view.Kid.{Kid}
use Rattle.zio_latch.specs.Kids.{all_paid, freed, new_kid, owes_value}
use Rattle.zio_latch.specs.Latch.{turn_if}

-- the view at another stage
abbrev pub at_stage : OwnerStage → View → View
at_stage stage v = record v { post = record { kids = v.post.kids; free = v.post.free; stage = stage } }

abbrev pub with_busy : Right → Bool → Bool → Right
with_busy right busy ready = record { number = right.number; kind = right.kind; label = right.label; place = right.place; ready = ready; busy = busy }

-- all but the last
abbrev pub front : List ℕ → List ℕ
front xs = take (length xs - 1) xs

-- a new child's right, before a seat of its own has it
abbrev pub new_right : ℕ → ChildKind → ℕ → ℕ → Right
new_right number kind label place = record { number = number; kind = kind; label = label; place = place; ready = is_vdev kind; busy = false }

-- the view after a child was added
abbrev pub born : ChildKind → ℕ → ℕ → View → View
born kind label place v = record {
  owns = true;
  post = record { kids = v.post.kids ++ new_kid kind label place ∷ []; free = front v.post.free; stage = Awake };
  minds = true;
  right = new_right (length v.post.kids) kind label place;
  seen = v.seen;
  also = v.also;
}

-- the view without the child's right, and that right alone
abbrev pub without_right : View → View
without_right v = record v { minds = false }

abbrev pub without_post : View → View
without_post v = record v { owns = false }

-- what was seen alone
abbrev pub only_seen : View → View
only_seen v = record v { owns = false; minds = false }

-- a second history beside that of a seat
abbrev pub beside : View → View → View
beside v w = record v { also = w.seen }

-- that history alone
abbrev pub only_also : View → View
only_also v = record { owns = false; post = v.post; minds = false; right = v.right; seen = v.also; also = v.also }

-- the owner is in none of its calls
abbrev pub IsAwake : View → Type 0
IsAwake v = (v.owns ≡ true) × (v.minds ≡ false) × (v.post.stage ≡ Awake)

-- the view of an owner that has parked: it owns no more
abbrev pub gone : View → View
gone v = record { owns = false; post = v.post; minds = false; right = v.right; seen = v.seen; also = v.also }

-- a state of the request machine whose children are these, and who has given what was handed out
pub record Shows (kids : List Kid) (m : Machine) : Type 0 where
  pub kinds : map (λ child. child.kind) m.children ≡ map (λ kid. kid.kind) kids
  pub paid : (phase : Phase) (n : ℕ) (kid : Kid) (child : Child) → get_elem? kids n ≡ some kid → get_elem? m.children n ≡ some child
      → owes_value phase kid ≡ false → lacks phase child ≡ false
  pub vdevs : count_of Vdev Ready m.children ≡ 0

-- the view after the history became this
abbrev pub knowing : List Event → View → View
knowing later v = record v { seen = later }

-- a child was added
abbrev pub Born : ChildKind → ℕ → ℕ → View → View → Type 0
Born kind label place v w = (w ≡ knowing w.seen (born kind label place v)) × OwnerStep (Added kind) v.seen w.seen

-- the owner's mark, where the word is twice the count: it waits where the count isn't 0
abbrev pub Marked : ChildKind → Phase → View → ℕ → View → Type 0
Marked kind phase v found w =
    OwnerStep (Waited kind phase v.post.kids) v.seen w.seen × Shows v.post.kids (state_of w.seen) × (found ≡ 2 * count_at kind phase w.seen)
    × (found ≡ 0 → w ≡ knowing w.seen (at_stage (Waking kind phase) v)) × (found ≢ 0 → w ≡ knowing w.seen (gone v))

-- the phase of the value that a child gives next
abbrev pub turn_of : View → Phase
turn_of v = turn_if v.right.ready

-- the child writes its value
abbrev pub busied : View → View
busied v = record { owns = v.owns; post = v.post; minds = v.minds; right = with_busy v.right true v.right.ready; seen = v.seen; also = v.also }

-- the view of a child that has given its value; it has a done value to give yet where that was the ready value
abbrev pub given : View → View
given v = record { owns = false; post = v.post; minds = not v.right.ready; right = with_busy v.right false true; seen = v.seen; also = v.also }

-- a child's value came. With the wake its seat owns
abbrev pub Lowered : View → ℕ → View → Type 0
Lowered v found w =
    (found ≡ 3 → ChildStep (turn_of v) v.right.kind v.right.number v.seen w.seen true × (w.owns ≡ true) × (w.minds ≡ not v.right.ready)
    × (w.right ≡ with_busy v.right false true) × (w.post.stage ≡ Waking v.right.kind (turn_of v)) × Shows w.post.kids (state_of w.seen)
    × (last_wait w.seen ≡ Some (record { kind = v.right.kind; phase = turn_of v; kids = w.post.kids })))
    × (found ≢ 3 → ChildStep (turn_of v) v.right.kind v.right.number v.seen w.seen false × (w ≡ knowing w.seen (given v)))

-- the owner is awake again, and the values of the kind and phase are handed out
abbrev pub settled : ChildKind → Phase → View → View
settled kind phase v = record v { post = record { kids = all_paid kind phase v.post.kids; free = v.post.free ++ freed kind phase v.post.kids; stage = Awake } }
