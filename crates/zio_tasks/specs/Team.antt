-- What a contract sees of the queues and of the passes.
use Rattle.std.specs.Prelude.{◌≡◌, ℕ, ◌<◌, List, [], ◌∷◌, ◌++◌, map, length, All, slice_index_or, slice_set, replicate, Option}
use Rattle.crossbeam_queue.specs.declared.array_queue.Doing.{Doing}
use Rattle.crossbeam_queue.specs.declared.array_queue.Slotted.{Slotted}
use Rattle.crossbeam_queue.specs.Passes.{Pass, view, IsPassOf as IsSeatOf, ruled_capacity}
use Rattle.zio_tasks.specs.declared.hand.Hand.{Hand}
use Rattle.zio_tasks.specs.declared.hand.Pile.{Pile}
use Rattle.zio_tasks.specs.declared.tasks.TaskPass.{TaskPass}
use Rattle.zio_tasks.specs.declared.tasks.Tasks.{Tasks}
use Rattle.zio_tasks.specs.declared.queue.QueueId.{QueueId}
use Rattle.zio_tasks.specs.Hands.{hand, Stands, AllTaken}
use Rattle.zio_tasks.specs.Rule.{pile, after_take}
use Rattle.zio_tasks.specs.Queues.{place_of}

module _ {T : Type 0} where
  abbrev pub no_hand : Hand T
  no_hand = hand 0 [] []

  abbrev pub first_hand : List (Hand T) → Hand T
  first_hand [] = no_hand
  first_hand (h ∷ hs) = h

  -- a pass's hands, by the number of the queue
  abbrev pub hands_of : TaskPass T → List (Hand T)
  hands_of p = map (λ (s : Pass T (Pile T)). first_hand (view s).hands) p.parts.items

  -- what the pass put into this queue and took out of it
  abbrev pub hand_at : ℕ → TaskPass T → Hand T
  hand_at i p = slice_index_or (hands_of p) i no_hand

  abbrev pub hand_of : TaskPass T → QueueId → Hand T
  hand_of p at = hand_at (place_of at) p

  -- the hands after a change of one
  abbrev pub with_hand : TaskPass T → QueueId → Hand T → List (Hand T)
  with_hand p at h = slice_set (hands_of p) (place_of at) h

  -- the queue's token of the pass of this number, which has the pass's hand alone
  pub record IsPartOf {Q A : Type 0} (room passes number : ℕ) (queue : Slotted (Option T) (Doing T (Pile T)) Q A) (part : Pass T (Pile T)) : Type 0 where
    pub sized : ruled_capacity queue ≡ room
    pub seat : IsSeatOf queue part
    pub own : (h : Hand T) × (view part ≡ pile (h ∷ []) passes) × (h.number ≡ number)

  -- The pass is one of these queues' passes
  pub record IsPassOf (tasks : Tasks T) (pass : TaskPass T) : Type 0 where
    pub queues : length tasks.queues.items ≡ 10
    pub parts : length pass.parts.items ≡ 10
    pub each : (i : ℕ) (queue : _) (part : Pass T (Pile T)) → i < 10 → IsPartOf tasks.room tasks.passes pass.number (slice_index_or tasks.queues.items i queue) (slice_index_or pass.parts.items i part)

  -- a queue's token for the pass of this number, which put and took nothing
  pub record IsNewPart {Q A : Type 0} (room passes number : ℕ) (queue : Slotted (Option T) (Doing T (Pile T)) Q A) (part : Pass T (Pile T)) : Type 0 where
    pub sized : ruled_capacity queue ≡ room
    pub seat : IsSeatOf queue part
    pub fresh : view part ≡ pile (hand number [] [] ∷ []) passes

  -- the pass of this number at the first queues, where it put and took nothing
  pub record IsRecruit (room passes count number : ℕ) {Q A : Type 0} (queues : List (Slotted (Option T) (Doing T (Pile T)) Q A)) (pass : TaskPass T) : Type 0 where
    pub numbered : pass.number ≡ number
    pub parts : length pass.parts.items ≡ count
    pub each : (i : ℕ) (queue : Slotted (Option T) (Doing T (Pile T)) Q A) (part : Pass T (Pile T)) → i < count → IsNewPart room passes number (slice_index_or queues i queue) (slice_index_or pass.parts.items i part)

  -- a pass of these queues and of this number, which put and took nothing
  pub record IsNew (tasks : Tasks T) (number : ℕ) (pass : TaskPass T) : Type 0 where
    pub own : IsPassOf tasks pass
    pub numbered : pass.number ≡ number
    pub idle : hands_of pass ≡ replicate 10 (hand number [] [])

  -- the pass has one more token, of this queue
  pub record Joins {Q A : Type 0} (passes number : ℕ) (queue : Slotted (Option T) (Doing T (Pile T)) Q A) (before after : TaskPass T) : Type 0 where
    pub part : Pass T (Pile T)
    pub same : after.number ≡ before.number
    pub parts : after.parts.items ≡ before.parts.items ++ part ∷ []
    pub seat : IsSeatOf queue part
    pub fresh : view part ≡ pile (hand number [] [] ∷ []) passes

  abbrev pub number_of : TaskPass T → ℕ
  number_of p = p.number

  -- what each of these passes put into this queue and took out of it
  abbrev pub hands_at : ℕ → List (TaskPass T) → List (Hand T)
  hands_at i passes = map (hand_at i) passes

  -- the hands of each pass
  abbrev pub team_hands : List (TaskPass T) → List (List (Hand T))
  team_hands passes = map hands_of passes

  -- after a take of x, which the pass `by` put, for the first pass
  abbrev pub first_takes : ℕ → ℕ → T → List (List (Hand T)) → List (List (Hand T))
  first_takes i by x [] = []
  first_takes i by x (hs ∷ more) = slice_set hs i (after_take by x (slice_index_or hs i no_hand)) ∷ more

  -- these are all passes of these queues
  pub record AreAll (tasks : Tasks T) (passes : List (TaskPass T)) : Type 0 where
    pub some : 0 < length passes
    pub counted : length passes ≡ tasks.passes
    pub own : All (IsPassOf tasks) passes

  -- nothing changed, and the queue is empty: all that was put there was taken
  abbrev pub IsSettled : ℕ → ℕ → List (TaskPass T) → List (TaskPass T) → Type 0
  IsSettled n i before after = (team_hands after ≡ team_hands before) × AllTaken n (hands_at i before)

  -- x, which the pass `by` put, was the oldest task that was not taken, and the first pass took it
  abbrev pub TakesOldest : ℕ → ℕ → T → List (TaskPass T) → List (TaskPass T) → Type 0
  TakesOldest n i x before after = (by : ℕ) × (log : List (ℕ × (ℕ × T))) × (rest : List (ℕ × T)) × Stands n (hands_at i before) log ((by, x) ∷ rest) × (team_hands after ≡ first_takes i by x (team_hands before))

  -- the token steps on this queue
  abbrev pub IsSeatAt : Tasks T → ℕ → Pass T (Pile T) → Type 0
  IsSeatAt tasks i s = (queue : _) → IsSeatOf (slice_index_or tasks.queues.items i queue) s

  -- the pass's token of this queue is lent
  abbrev pub Lent : ℕ → TaskPass T → TaskPass T → Type 0
  Lent i before after = (after.number ≡ before.number) × (s : Pass T (Pile T)) × (after.parts.items ≡ slice_set before.parts.items i s)

  -- the pass has a token of this queue again, with this hand
  abbrev pub Given : Tasks T → ℕ → Hand T → TaskPass T → TaskPass T → Type 0
  Given tasks i h before after = (after.number ≡ before.number) × (s : Pass T (Pile T)) × (after.parts.items ≡ slice_set before.parts.items i s) × IsSeatAt tasks i s × (view s ≡ pile (h ∷ []) tasks.passes)
