-- A turn and its stages: what stands before each of them.
use Rattle.std.proofs.Common.{◌≡◌, ℕ, ◌+◌, ◌<◌, ◌≤◌, List, [], ◌∷◌, ◌++◌, length, length-append, map, Some, None, refl, sym, ap, ◌∙◌, subst, arith}
use Rattle.std.specs.Prelude.{slice_index_or}
use Rattle.zio_types.specs.declared.place.Top.{Top}
use Rattle.zio_gang.specs.Attempts.{Terms}
use Rattle.zio_trace.specs.Families.{Forest}
use Rattle.zio_trace.specs.SoundRounds.{IsSoundRound}
use Rattle.zio_vqueue.specs.declared.op.Op.{Op}
use Rattle.zio_vqueue.specs.Queues.{FitsDevice, end_of}
use Rattle.zio_exchange.specs.SpaceCalls.{SpaceCall}
use Rattle.zio_exchange.specs.declared.outcome.FinishedRequest.{FinishedRequest}
use Rattle.zio_exchange.specs.declared.outcome.Outcome.{Outcome}
use Rattle.slab.specs.Slab.{Slab}
use Rattle.zio_turns.specs.Acts.{load_of}
use Rattle.zio_turns.specs.AtLeaves.{IsPut, keys_at, put_as}
use Rattle.zio_turns.specs.Desks.{AreMade, GivesLast}
use Rattle.zio_staged.specs.Entries.{times_in}
use Rattle.zio_turns.specs.Grounds.{AreReady}
use Rattle.zio_staged.specs.Parts.{Nodes}
use Rattle.zio_turns.specs.Rounds.{AsksRightly, Before, IsTurn, SoFar, StepsOn}
use Rattle.zio_turns.specs.Slabs.{AreAll, left_over, load}
use Rattle.zio_turns.specs.UnderTurns.{AreSameGrounds, GoesOnSome, HasTurned, IsGoingOn, TurnsOn, work_left}
use Rattle.zio_turns.specs.declared.desk.Desk.{Desk}
use Rattle.zio_turns.specs.declared.entry.TiedNode.{TiedNode}
use Rattle.zio_turns.specs.declared.grounds.Grounds.{Grounds}
use Rattle.zio_turns.specs.declared.step.Step.{Step}
use Rattle.zio_turns.specs.declared.step.Step.TheVariants.{Ended, Goes, Leaf as ToLeaf, Rests, Root, Told}
use Rattle.zio_turns.specs.declared.turn.Turned.TheVariants.{Nothing, Ended as HasEnded, Root as ToRoot}
use Rattle.zio_turns.proofs.Helps.{last_queued, stays_requeued}
use Rattle.zio_turns.proofs.KeyLengths.{length_more}
use Rattle.zio_turns.proofs.TurnMoves.{TakesIt, gone_nowhere, leaf_takes, none_waits, turn_ends, turn_finishes, turn_goes, turn_leaves, turn_rests, turn_roots, turn_told}

module _ {N D : Type 0} (nodes : Nodes N) (over : List Top → N → Type 0) (bytes : D → ℕ) (image : D → List ℕ → Type 0)
    (first : Slab (TiedNode N)) (first_line : List ℕ) (lent : Grounds D) (key : ℕ) where
  -- each sound round that went on when the turn began goes on, with the key in front
  pub record IsTurning (slab : Slab (TiedNode N)) (line : List ℕ) (g : Grounds D) : Type 0 where
    pub gone : (t : Terms) (sizes : ℕ → ℕ) (f : Forest) (before : Before) (s : SoFar) → IsSoundRound t sizes f
        → IsGoingOn {N = N} {D = D} nodes bytes image t sizes f before s first (key ∷ first_line) lent
        → HasTurned {N = N} {D = D} nodes bytes image t sizes f before s [] slab (key ∷ line) g
    pub over_all : AreAll {N = N} (over g.desk.tops) slab
    pub same : AreSameGrounds {D = D} lent g
    pub leaves_same : g.queues.leaves.items ≡ lent.queues.leaves.items
    pub less : load {N = N} nodes.left slab line ≤ load {N = N} nodes.left first first_line

  pub turning_begins : AreAll {N = N} (over lent.desk.tops) first → IsTurning first first_line lent
  turning_begins all = record {
    gone = λ t sizes f before s sound h. record { now = s; gone = gone_nowhere s; going = h };
    over_all = all;
    same = record { setting_same = refl; disks_same = refl; tops_same = refl };
    leaves_same = refl;
    less = omega arith;
  }

  module _ (slab : Slab (TiedNode N)) (line : List ℕ) (g : Grounds D) (h : IsTurning slab line g)
      (some : GoesOnSome {N = N} {D = D} nodes bytes image first (key ∷ first_line) lent) where
    abbrev so_far : HasTurned {N = N} {D = D} nodes bytes image some.terms some.sizes some.forest some.before some.so_far [] slab
        (key ∷ line) g
    so_far = h.gone some.terms some.sizes some.forest some.before some.so_far some.sound some.going

    pub turning_can : IsTurn {N = N} nodes over g.desk.tops slab line key
    turning_can = record {
      leaves = keys_at g.queues.leaves.items;
      keeps = record {
        terms = some.terms;
        sizes = some.sizes;
        forest = some.forest;
        before = some.before;
        so_far = so_far.now;
        sound = some.sound;
        tops_are = sym so_far.going.lent.desk.desk.tops_are;
        keeps = so_far.going.keeps;
      };
      over_all = h.over_all;
    }

    pub turning_same : (slab_now : Slab (TiedNode N)) (line_now : List ℕ) → slab_now ≡ slab → line_now ≡ line
        → IsTurning slab_now line_now g
    turning_same slab_now line_now same queue =
        subst (λ (x : Slab (TiedNode N)). IsTurning x line_now g) (sym same)
        (subst (λ (q : List ℕ). IsTurning slab q g) (sym queue) h)

    -- it is queued again
    pub turning_queues : (slab_now : Slab (TiedNode N)) (line_now : List ℕ) → slab_now ≡ slab → line_now ≡ line ++ key ∷ []
        → TurnsOn {N = N} {D = D} {S = Unit {0}} nodes bytes image first first_line lent slab_now line_now g key Nothing
    turning_queues slab_now line_now same queued = λ t sizes f before s sound k.
        let gone = h.gone t sizes f before s sound k in
        record {
          now = gone.now;
          gone = gone.gone;
          going = record {
            keeps = stays_requeued nodes slab slab_now (key ∷ line) line_now same (last_queued line key line_now queued) t sizes f before
                gone.now (keys_at g.queues.leaves.items) sound gone.going.keeps;
            lent = gone.going.lent;
          };
        }

    module _ (slab_now : Slab (TiedNode N)) (line_now : List ℕ) (d : Desk) (calls : List SpaceCall)
        (served : AreMade calls g.desk.space d.space) (asks : AsksRightly {N = N} nodes g.desk.tops calls slab line key)
        (last : GivesLast calls) (tops_same : d.tops ≡ g.desk.tops) where
      abbrev On : {S : Type 0} → Step S → Type 0
      On step = StepsOn {N = N} nodes g.desk.tops calls slab line slab_now line_now key step

      abbrev With : Grounds D
      With = record g { desk = d }

      same_now : AreSameGrounds {D = D} lent With
      same_now = record {
        setting_same = h.same.setting_same;
        disks_same = h.same.disks_same;
        tops_same = tops_same ∙ h.same.tops_same;
      }

      over_now : AreAll {N = N} (over g.desk.tops) slab_now → AreAll {N = N} (over d.tops) slab_now
      over_now all = subst (λ (tops : List Top). AreAll {N = N} (over tops) slab_now) (sym tops_same) all

      pub turning_goes : On {S = Unit {0}} Goes → AreAll {N = N} (over g.desk.tops) slab_now
          → load {N = N} nodes.left slab_now line_now + 1 < load {N = N} nodes.left slab line + 1 → IsTurning slab_now line_now With
      turning_goes steps all less = record {
        gone = λ t sizes f before s sound k. turn_goes nodes bytes image t sizes f before s slab slab_now line line_now key g d calls
            sound (h.gone t sizes f before s sound k) served asks last tops_same steps;
        over_all = over_now all;
        same = same_now;
        leaves_same = h.leaves_same;
        less = omega (arith, less, h.less);
      }

      -- with the key queued again there is no more left than before the turn
      pub turning_queued_less : (slab_then : Slab (TiedNode N)) (line_then : List ℕ)
          → load {N = N} nodes.left slab_now line_now + 1 < load {N = N} nodes.left slab line + 1 → slab_then ≡ slab_now
          → line_then ≡ line_now ++ key ∷ []
          → work_left {N = N} {D = D} nodes.left slab_then line_then With < work_left {N = N} {D = D} nodes.left first first_line lent + 1
      turning_queued_less slab_then line_then less same queued =
          let keys : length (keys_at g.queues.leaves.items) ≡ length (keys_at lent.queues.leaves.items) =
          ap (λ (ls : List _). length (keys_at ls)) h.leaves_same in
          let e : left_over {N = N} nodes.left slab_then ≡ left_over {N = N} nodes.left slab_now = ap (left_over {N = N} nodes.left) same in
          let one : length line_then ≡ length (line_now ++ key ∷ []) = ap (λ (q : List ℕ). length q) queued in
          let two = length-append line_now (key ∷ []) in
          omega (arith, less, h.less, keys, e, one, two)

      pub turning_told : (tree : ℕ) → On {S = Unit {0}} (Told tree) → AreAll {N = N} (over g.desk.tops) slab_now
          → load {N = N} nodes.left slab_now line_now + 1 < load {N = N} nodes.left slab line + 1 → IsTurning slab_now line_now With
      turning_told tree steps all less = record {
        gone = λ t sizes f before s sound k. turn_told nodes bytes image t sizes f before s slab slab_now line line_now key g d calls
            sound (h.gone t sizes f before s sound k) served asks last tops_same tree steps;
        over_all = over_now all;
        same = same_now;
        leaves_same = h.leaves_same;
        less = omega (arith, less, h.less);
      }

      pub turning_rests : On {S = Unit {0}} Rests
          → TurnsOn {N = N} {D = D} {S = Unit {0}} nodes bytes image first first_line lent slab_now line_now With key Nothing
      turning_rests steps = λ t sizes f before s sound k.
          turn_rests nodes bytes image t sizes f before s slab slab_now line line_now key g d calls sound
          (h.gone t sizes f before s sound k) served asks last tops_same steps

      pub turning_ends : {S : Type 0} → On {S = S} (Ended None)
          → TurnsOn {N = N} {D = D} {S = Unit {0}} nodes bytes image first first_line lent slab_now line_now With key Nothing
      turning_ends steps = λ t sizes f before s sound k.
          turn_ends nodes bytes image t sizes f before s slab slab_now line line_now key g d calls sound
          (h.gone t sizes f before s sound k) served asks last tops_same None steps

      pub turning_finishes : {S : Type 0} (finished : FinishedRequest) → On {S = S} (Ended (Some finished))
          → TurnsOn {N = N} {D = D} {S = Unit {0}} nodes bytes image first first_line lent slab_now line_now With key (HasEnded finished)
      turning_finishes finished steps = λ t sizes f before s sound k. (
        turn_finishes nodes bytes image t sizes f before s slab slab_now line line_now key g d calls sound
            (h.gone t sizes f before s sound k) served asks last tops_same finished steps,
        turn_ends nodes bytes image t sizes f before s slab slab_now line line_now key g d calls sound
            (h.gone t sizes f before s sound k) served asks last tops_same (Some finished) steps,
      )

      pub turning_roots : {S : Type 0} (tree : ℕ) (outcome : Outcome S) → On (Root tree outcome)
          → TurnsOn {N = N} {D = D} nodes bytes image first first_line lent slab_now line_now With key (ToRoot tree outcome)
      turning_roots tree outcome steps = λ t sizes f before s sound k.
          turn_roots nodes bytes image t sizes f before s slab slab_now line line_now key g d calls sound
          (h.gone t sizes f before s sound k) served asks last tops_same tree outcome steps

      -- how much is left
      pub turning_less : {S : Type 0} (step : Step S) → load {N = N} nodes.left slab_now line_now + load_of step < load {N = N} nodes.left slab line + 1
          → work_left {N = N} {D = D} nodes.left slab_now line_now With < work_left {N = N} {D = D} nodes.left first first_line lent + 1
      turning_less step less =
          let keys : length (keys_at g.queues.leaves.items) ≡ length (keys_at lent.queues.leaves.items) =
          ap (λ (ls : List _). length (keys_at ls)) h.leaves_same in
          omega (arith, less, h.less, keys)

      -- ---- its operation goes to a leaf

      module _ (op : Op) (leaf : ℕ) (stored : List ℕ) (steps : On {S = Unit {0}} (ToLeaf op leaf stored)) where
        pub turning_takes : (leaf < length g.queues.leaves.items) × FitsDevice op
            × (end_of op ≤ slice_index_or (map bytes g.disks.items) leaf 0)
            × (times_in key (keys_at g.queues.leaves.items) ≡ 0)
        turning_takes =
            let takes : TakesIt {N = N} {D = D} nodes bytes image some.terms some.sizes some.forest some.before some.so_far slab slab_now
            line line_now key g d calls some.sound so_far served asks last tops_same op leaf =
            leaf_takes nodes bytes image some.terms some.sizes some.forest some.before some.so_far slab slab_now line line_now key g d
            calls some.sound so_far served asks last tops_same op leaf stored steps in (
              takes.there,
              takes.fits,
              takes.ends,
              none_waits nodes bytes image some.terms some.sizes some.forest some.before some.so_far slab slab_now line line_now key g d
                  calls some.sound so_far served asks last tops_same,
            )

        module _ (now : Grounds D) (put : IsPut leaf (put_as key op stored) g.queues.leaves.items now.queues.leaves.items)
            (ready : AreReady g.setting.rows (map bytes g.disks.items) g.queues.leaves.items
            → AreReady now.setting.rows (map bytes now.disks.items) now.queues.leaves.items)
            (setting : now.setting ≡ g.setting) (disks : now.disks.items ≡ g.disks.items) (desk : now.desk ≡ d) where
          pub turning_leaves : TurnsOn {N = N} {D = D} {S = Unit {0}} nodes bytes image first first_line lent slab_now line_now now key Nothing
          turning_leaves = λ t sizes f before s sound k.
              turn_leaves nodes bytes image t sizes f before s slab slab_now line line_now key g d calls sound
              (h.gone t sizes f before s sound k) served asks last tops_same op leaf stored steps now put ready setting disks desk

          pub turning_leaves_less : load {N = N} nodes.left slab_now line_now + 2 < load {N = N} nodes.left slab line + 1
              → work_left {N = N} {D = D} nodes.left slab_now line_now now
              < work_left {N = N} {D = D} nodes.left first first_line lent + 1
          turning_leaves_less less =
              let keys : length (keys_at g.queues.leaves.items) ≡ length (keys_at lent.queues.leaves.items) =
              ap (λ (ls : List _). length (keys_at ls)) h.leaves_same in
              let more = length_more key (keys_at g.queues.leaves.items) (keys_at now.queues.leaves.items) put.keys in
              omega (arith, less, h.less, keys, more)

          pub turning_leaves_same : AreSameGrounds {D = D} lent now
          turning_leaves_same = record {
            setting_same = setting ∙ h.same.setting_same;
            disks_same = disks ∙ h.same.disks_same;
            tops_same = ap (λ (x : Desk). x.tops) desk ∙ (tops_same ∙ h.same.tops_same);
          }
