-- The moves of nodes, whatever is known of the node by equations.
use Rattle.std.proofs.Common.{◌≡◌, ℕ, List, [], ◌∷◌, ◌++◌, slice_get, slice_set, Bool, false, Option, Some, None, sym, ap, ◌∙◌, subst}
use Rattle.zio_types.specs.Choices.{Choice}
use Rattle.zio_types.specs.Places.{are_open}
use Rattle.zio_cksum.specs.Images.{Images}
use Rattle.zio_gang.specs.declared.tree.Tree.{Tree}
use Rattle.zio_gang.specs.Attempts.{Terms}
use Rattle.zio_gang.specs.Journals.{AreLawful}
use Rattle.zio_gang.specs.Trees.{sizes_of, tree_places}
use Rattle.zio_trace.specs.Families.{Forest}
use Rattle.zio_trace.specs.SoundRounds.{IsSoundRound}
use Rattle.zio_trace.specs.Tasks.{TakePlaces, Taken, Task, Value}
use Rattle.zio_trace.specs.Underway.{State}
use Rattle.zio_frames.specs.Frames.{Child, Flying, Inner, Stack, place_of}
use Rattle.zio_frames.specs.Moves.{Chose, Closed, Does, IsEnded, Opened, Took, done_at_once, heard_of}
use Rattle.zio_frames.specs.Running.{FitsTold, IsRunning, Later}
use Rattle.zio_frames.specs.Slots.{Heard, Slot}
use Rattle.zio_frames.proofs.MoveChildren.{arrive_node, close_node}
use Rattle.zio_frames.proofs.MoveItself.{choose_node, flying, open_node, take_node}
use Rattle.zio_frames.proofs.MoveTrees.{settle_node}

module _ (t : Terms) (sizes : ℕ → ℕ) (f : Forest) (before : Option Images) (trees : List Slot) where
  -- with this part within
  pub with_inner : (x : Flying) (inner : Option Inner) (others : List Flying) (s : State) → x.stack.inner ≡ inner
      → IsRunning t sizes f before trees (x ∷ others) s
      → IsRunning t sizes f before trees (flying x.at x.stack.outer inner x.stack.children ∷ others) s
  with_inner x inner others s e r =
      let same : x ≡ flying x.at x.stack.outer inner x.stack.children =
      λ i. record { at = x.at; stack = record { outer = x.stack.outer; inner = e i; children = x.stack.children } } in
      subst (λ (y : Flying). IsRunning t sizes f before trees (y ∷ others) s) same r

  later_as : (at : List ℕ) (a b : Stack) (others : List Flying) (entries : List Choice) (images : Images) → b ≡ a
      → Later t sizes f before trees (record { at = at; stack = a } ∷ others) entries images
      → Later t sizes f before trees (record { at = at; stack = b } ∷ others) entries images
  later_as at a b others entries images e h =
      subst (λ (st : Stack). Later t sizes f before trees (record { at = at; stack = st } ∷ others) entries images) (sym e) h

  pub node_opens : (x : Flying) (others : List Flying) (s : State) (op : Task) (st : Stack) → IsSoundRound t sizes f
      → IsRunning t sizes f before trees (x ∷ others) s → Does t (Opened op) x.stack st
      → Later t sizes f before trees (record { at = x.at; stack = st } ∷ others) s.entries s.images
  node_opens x others s op st sound r does =
      later_as x.at _ st others s.entries s.images does.3
      (open_node t sizes f before trees others s sound x.at x.stack.outer x.stack.children op
      (with_inner x None others s does.0 r) does.1 does.2)

  pub node_closes : (x : Flying) (others : List Flying) (s : State) (v : Value) (st : Stack)
      → IsRunning t sizes f before trees (x ∷ others) s → Does t (Closed v) x.stack st
      → Later t sizes f before trees (record { at = x.at; stack = st } ∷ others) s.entries s.images
  node_closes x others s v st r does =
      later_as x.at _ st others s.entries s.images does.4
      (close_node t sizes f before trees others s x.at x.stack.outer does.0 x.stack.children v
      (with_inner x (Some does.0) others s does.1 r) does.2 does.3)

  pub node_chooses : (x : Flying) (others : List Flying) (s : State) (c : Choice) (st : Stack) → IsSoundRound t sizes f
      → IsRunning t sizes f before trees (x ∷ others) s → Does t (Chose c) x.stack st
      → AreLawful (sizes_of t.setting.tops) t.used (s.entries ++ c ∷ [])
      → Later t sizes f before trees (record { at = x.at; stack = st } ∷ others) (s.entries ++ c ∷ []) s.images
  node_chooses x others s c st sound r does lawful =
      later_as x.at _ st others (s.entries ++ c ∷ []) s.images does.2
      (choose_node t sizes f before trees others s sound x.at x.stack.outer x.stack.children c
      (with_inner x None others s does.0 r) does.1 lawful)

  pub node_takes : (x : Flying) (others : List Flying) (s : State) (tree : Tree) (free : Bool) (st : Stack)
      → IsSoundRound t sizes f → IsRunning t sizes f before trees (x ∷ others) s → Does t (Took tree free) x.stack st
      → free ≡ are_open t.used (tree_places tree)
      → Later t sizes f before trees (record { at = x.at; stack = st } ∷ others) s.entries s.images
  node_takes x others s tree free st sound r does is =
      later_as x.at _ st others s.entries s.images
      (does.2 ∙ ap (λ (b : Bool). done_at_once x.stack (TakePlaces tree) (Taken b)) is)
      (take_node t sizes f before trees others s sound x.at x.stack.outer x.stack.children tree
      (with_inner x None others s does.0 r) does.1)

  pub node_arrives : (x q : Flying) (others : List Flying) (s : State) (n : ℕ) (c : Child) (v : Value)
      → IsRunning t sizes f before trees (x ∷ q ∷ others) s → IsEnded t x.stack v
      → slice_get q.stack.children n ≡ Some c → c.ended ≡ false → x.at ≡ place_of q c.seat
      → FitsTold q.stack c v
      × Later t sizes f before trees (record { at = q.at; stack = heard_of q.stack n c v } ∷ others) s.entries s.images
  node_arrives x q others s n c v r ended there goes is =
      arrive_node t sizes f before trees others s x.at q.at x.stack.outer q.stack.outer q.stack.inner x.stack.children q.stack.children n c v
      (with_inner x None (q ∷ others) s ended.alone r) ended.value there goes is

  pub node_settles : (x : Flying) (others : List Flying) (s : State) (n : ℕ) (v : Value)
      → IsRunning t sizes f before trees (x ∷ others) s → IsEnded t x.stack v → x.at ≡ n ∷ []
      → Later t sizes f before (slice_set trees n (Heard v)) others s.entries s.images
  node_settles x others s n v r ended is =
      settle_node t sizes f before trees others s x.at x.stack.outer x.stack.children n v
      (with_inner x None others s ended.alone r) ended.value is
