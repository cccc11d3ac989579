-- Turns and groups until a tree hears, in each round that goes on.
use Rattle.std.proofs.Common.{◌≡◌, ℕ, List, [], ◌∷◌, ◌++◌, map, Some, None, refl, sym, ap, ◌∙◌, subst}
use Rattle.std.proofs.Common.{append_assoc}
use Rattle.std.specs.List.{AllByRecursion}
use Rattle.std.proofs.lemmas.List.{append-nil}
use Rattle.zio_types.specs.declared.place.Top.{Top}
use Rattle.zio_cksum.proofs.AllLemmas.{all_append}
use Rattle.zio_gang.specs.Attempts.{Terms}
use Rattle.zio_trace.specs.Families.{Forest}
use Rattle.zio_trace.specs.SoundRounds.{IsSoundRound}
use Rattle.zio_exchange.specs.declared.outcome.FinishedRequest.{FinishedRequest}
use Rattle.zio_exchange.specs.declared.outcome.Outcome.{Outcome}
use Rattle.slab.specs.Slab.{Slab}
use Rattle.zio_staged.specs.Parts.{Nodes}
use Rattle.zio_turns.specs.Rounds.{Before, SoFar}
use Rattle.zio_turns.specs.Slabs.{AreAll}
use Rattle.zio_turns.specs.UnderTurns.{EndsFinished, GoesOnSome, HasEndedFor, HasTurned, IsGoingOn, RunsOn, RunsToTree}
use Rattle.zio_turns.specs.declared.entry.TiedNode.{TiedNode}
use Rattle.zio_turns.specs.declared.grounds.Grounds.{Grounds}
use Rattle.zio_turns.specs.declared.turn.Turned.TheVariants.{Nothing, Ended as HasEnded, Root}
use Rattle.zio_turns.proofs.DriveMoves.{then_ended, then_turned}
use Rattle.zio_turns.proofs.TurnMoves.{gone_nowhere}

finished_one : (t : Terms) (first xs more now : List FinishedRequest) (x : FinishedRequest) → xs ≡ first ++ more
    → AllByRecursion (EndsFinished t) more → now ≡ xs ++ x ∷ [] → EndsFinished t x
    → (now ≡ first ++ (more ++ x ∷ [])) × AllByRecursion (EndsFinished t) (more ++ x ∷ [])
finished_one t first xs more now x are each is ends = (
  is ∙ ap (λ (ys : List FinishedRequest). ys ++ x ∷ []) are ∙ append_assoc first more (x ∷ []),
  all_append (EndsFinished t) more (x ∷ []) each (ends, tt),
)

module _ {N D : Type 0} (nodes : Nodes N) (over : List Top → N → Type 0) (bytes faults : D → ℕ) (image : D → List ℕ → Type 0)
    (first : Slab (TiedNode N)) (first_line : List ℕ) (lent : Grounds D) (ended : List FinishedRequest) where
  pub record IsHearing (slab : Slab (TiedNode N)) (line : List ℕ) (g : Grounds D) (now : List FinishedRequest) : Type 0 where
    pub gone : (t : Terms) (sizes : ℕ → ℕ) (f : Forest) (before : Before) (s : SoFar) → IsSoundRound t sizes f
        → IsGoingOn {N = N} {D = D} nodes bytes image t sizes f before s first first_line lent
        → (more : List FinishedRequest) × (now ≡ ended ++ more) × AllByRecursion (EndsFinished t) more
        × HasTurned {N = N} {D = D} nodes bytes image t sizes f before s more slab line g
    pub over_all : AreAll {N = N} (over g.desk.tops) slab
    pub tops_same : g.desk.tops ≡ lent.desk.tops
    pub setting_same : g.setting ≡ lent.setting
    pub steady : map faults g.disks.items ≡ map faults lent.disks.items

  pub hearing_begins : AreAll {N = N} (over lent.desk.tops) first → IsHearing first first_line lent ended
  hearing_begins all = record {
    gone = λ t sizes f before s sound h. ([], sym (append-nil ended), tt, record { now = s; gone = gone_nowhere s; going = h });
    over_all = all;
    tops_same = refl;
    setting_same = refl;
    steady = refl;
  }

  module _ (slab slab_now : Slab (TiedNode N)) (line line_now : List ℕ) (g g_now : Grounds D) (now : List FinishedRequest)
      (h : IsHearing slab line g now) where
    pub hearing_some : GoesOnSome {N = N} {D = D} nodes bytes image first first_line lent
        → GoesOnSome {N = N} {D = D} nodes bytes image slab line g
    hearing_some some =
        let so_far = (h.gone some.terms some.sizes some.forest some.before some.so_far some.sound some.going).3 in
        record {
          terms = some.terms;
          sizes = some.sizes;
          forest = some.forest;
          before = some.before;
          so_far = so_far.now;
          sound = some.sound;
          going = so_far.going;
        }

    pub hearing_nothing : RunsOn {N = N} {D = D} {S = Unit {0}} nodes bytes image slab line g slab_now line_now g_now Nothing
        → RunsToTree {N = N} {D = D} {S = Unit {0}} nodes bytes image first first_line lent ended slab_now line_now g_now now None
    hearing_nothing runs = λ t sizes f before s sound k.
        let so_far = h.gone t sizes f before s sound k in (
          so_far.0,
          so_far.1,
          so_far.2,
          subst (λ (xs : List FinishedRequest). HasTurned {N = N} {D = D} nodes bytes image t sizes f before s xs slab_now line_now g_now)
              (append-nil so_far.0)
              (then_turned nodes bytes faults image first first_line lent t sizes f before s so_far.3.now so_far.0 [] slab_now line_now g_now
              so_far.3.gone (runs t sizes f before so_far.3.now sound so_far.3.going)),
        )

    pub hearing_root : {S : Type 0} (tree : ℕ) (outcome : Outcome S)
        → RunsOn {N = N} {D = D} nodes bytes image slab line g slab_now line_now g_now (Root tree outcome)
        → RunsToTree {N = N} {D = D} nodes bytes image first first_line lent ended slab_now line_now g_now now
        (Some (record { tree = tree; outcome = outcome }))
    hearing_root tree outcome runs = λ t sizes f before s sound k.
        let so_far = h.gone t sizes f before s sound k in (
          so_far.0,
          so_far.1,
          so_far.2,
          subst (λ (xs : List FinishedRequest). HasEndedFor {N = N} {D = D} nodes bytes image t sizes f before s xs slab_now line_now g_now tree outcome)
              (append-nil so_far.0)
              (then_ended nodes bytes faults image first first_line lent t sizes f before s so_far.3.now so_far.0 [] slab_now line_now g_now
              tree outcome so_far.3.gone (runs t sizes f before so_far.3.now sound so_far.3.going)),
        )

    pub hearing_goes : (x : FinishedRequest) (later : List FinishedRequest)
        → RunsOn {N = N} {D = D} {S = Unit {0}} nodes bytes image slab line g slab_now line_now g_now (HasEnded x) → later ≡ now ++ x ∷ []
        → AreAll {N = N} (over g_now.desk.tops) slab_now → g_now.desk.tops ≡ g.desk.tops → g_now.setting ≡ g.setting
        → map faults g_now.disks.items ≡ map faults g.disks.items → IsHearing slab_now line_now g_now later
    hearing_goes x later runs is all tops setting steady = record {
      gone = λ t sizes f before s sound k.
          let so_far = h.gone t sizes f before s sound k in
          let after = runs t sizes f before so_far.3.now sound so_far.3.going in
          let one = finished_one t ended now so_far.0 later x so_far.1 so_far.2 is after.0 in (
            so_far.0 ++ x ∷ [],
            one.0,
            one.1,
            then_turned nodes bytes faults image first first_line lent t sizes f before s so_far.3.now so_far.0 (x ∷ []) slab_now line_now
                g_now so_far.3.gone after.1,
          );
      over_all = all;
      tops_same = tops ∙ h.tops_same;
      setting_same = setting ∙ h.setting_same;
      steady = steady ∙ h.steady;
    }
