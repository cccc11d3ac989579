-- A walk along a part's plan: what it asks is of the round, and free of what may be out.
use Rattle.std.proofs.Common.{◌≡◌, ◌≢◌, ℕ, suc, ◌+◌, List, [], ◌∷◌, length, Option, Some, None, refl, sym, subst, arith}
use Rattle.std.specs.List.{AllByRecursion}
use Rattle.zio_types.specs.declared.error.Errno.TheVariants.{Io}
use Rattle.zio_types.specs.Choices.{Choice}
use Rattle.zio_blkptr.specs.declared.pointer.Bp.{Bp}
use Rattle.zio_gang.specs.Attempts.{Terms, no_bits}
use Rattle.zio_trace.specs.Calls.{FitsEarly}
use Rattle.zio_trace.specs.Clearings.{Free}
use Rattle.zio_trace.specs.Engines.{reach_in}
use Rattle.zio_trace.specs.Families.{Forest, NoTrees}
use Rattle.zio_trace.specs.Plans.{TaskPlan}
use Rattle.zio_trace.specs.Programs.{Asks, Ends, ◌>>=◌}
use Rattle.zio_trace.specs.SoundRounds.{AreFreeParts, shared_in}
use Rattle.zio_trace.specs.Tasks.{Attempt, AttemptedBy, ByClaim, ByKept, Find, Leaf, ReadCopies, ReadHeads, ReadTree, Settle, StoredAs, TakePlaces, Task, Value, WriteCopies, WritePart}
use Rattle.zio_trace.specs.Underway.{Call, early, part_of}
use Rattle.zio_frames.specs.Answering.{IsAnswerTo, NextAnswered}
use Rattle.zio_frames.specs.Frames.{outs_from}
use Rattle.zio_frames.specs.Moves.{GoesBeside, GoesBesideAll}
use Rattle.zio_frames.specs.OfRound.{AreAsked, FitsWhichever, IsTaskOf, MayStill, SlotsFit}
use Rattle.zio_frames.specs.Slots.{Heard, IsOut, Slot, left_behind_slots, told_in}

-- ---- an answer for what is out

abbrev pub pointer_in : Option (Option Bp) → Option Bp
pointer_in None = None
pointer_in (Some pointer) = pointer

-- a value of the task's kind that has the pointer, and behind which a plan asks as little as it can
abbrev pub stand_in : Task → Option (Option Bp) → Value
stand_in (Attempt attempt p kids) told = AttemptedBy (record {
  return = record { under = None; bits = no_bits; child = record { number = p.request.number; error = None; pointer = pointer_in told } };
  ended = [];
  again = [];
  left = NoTrees;
})
stand_in _ told = StoredAs (record { error = Some Io; pointer = pointer_in told; heads = [] })

stands_early : (op : Task) (told : Option (Option Bp)) → FitsEarly early told (stand_in op told)
stands_early op None = tt
stands_early (Attempt attempt p kids) (Some pointer) = refl
stands_early _ (Some pointer) = refl

stands_kind : (op : Task) (told : Option (Option Bp)) → IsAnswerTo op (stand_in op told)
stands_kind (Attempt attempt p kids) told = (_, refl, refl)
stands_kind (WritePart attempt p sum copies levels path bytes) told = (_, refl)
stands_kind _ told = tt

-- what may have something beside it has one that fits
stands_fit : (t : Terms) (entries : List Choice) (op beside : Task) → GoesBeside op beside → (told : Option (Option Bp))
    → FitsWhichever t entries op (stand_in op told)
stands_fit t entries (Leaf act) beside b told = record { fits = λ journal may. tt; left = tt; kind = tt }
stands_fit t entries (Find a) beside b told = absurd b
stands_fit t entries (TakePlaces tree) beside b told = absurd b
stands_fit t entries (ReadCopies repair test len places) beside b told = record { fits = λ journal may. tt; left = tt; kind = tt }
stands_fit t entries (WriteCopies bytes places) beside b told = record { fits = λ journal may. tt; left = tt; kind = tt }
stands_fit t entries (WritePart attempt p sum copies levels path bytes) beside b told =
    record { fits = λ journal may. tt; left = tt; kind = (_, refl) }
stands_fit t entries (ReadHeads (ByKept heads) levels path bp) beside b told =
    record { fits = λ journal may. (tt, λ e. absurd (cc)); left = tt; kind = tt }
stands_fit t entries (ReadHeads ByClaim levels path bp) beside b told = record { fits = λ journal may. tt; left = tt; kind = tt }
stands_fit t entries (ReadTree tree) beside b told = record { fits = λ journal may. tt; left = tt; kind = tt }
stands_fit t entries (Attempt attempt p kids) beside b told =
    record { fits = λ journal may. tt; left = λ n. omega arith; kind = (_, refl, refl) }
stands_fit t entries (Settle p kids) beside b told = record { fits = λ journal may. tt; left = tt; kind = tt }

-- ---- walks

module _ (t : Terms) (f : Forest) (entries : List Choice) where
  -- the second may be asked while the first is out, under each journal that may come
  abbrev pub IsFreeBeside : Task → Task → Type 0
  IsFreeBeside q op =
      GoesBeside q op → (journal : List Choice) → MayStill t entries journal → (at : List ℕ) (i k : ℕ) → i ≢ k
      → AreFreeParts journal t f at i q k op

  abbrev pub AreFreeBeside : List Task → Task → Type 0
  AreFreeBeside outs op = AllByRecursion (λ (q : Task). IsFreeBeside q op) outs

  -- Whatever fitting answers come, what is asked is of the round, and free of what may be out by then; so it ends.
  abbrev pub Walks : {A : Type 0} → (List Task → A → Type 0) → List Task → TaskPlan A → Type 0
  Walks Q outs (Ends a) = Q outs a
  Walks Q outs (Asks op more) =
      IsTaskOf t f entries op × AreFreeBeside outs op
      × ((v : Value) → FitsWhichever t entries op v → Walks Q outs (more v))
      × ((beside : Task) → GoesBeside op beside → (told : Option (Option Bp)) → Walks Q (op ∷ outs) (more (stand_in op told)))

  pub walks_then : {A B : Type 0} (Q : List Task → A → Type 0) (R : List Task → B → Type 0) (outs : List Task) (p : TaskPlan A)
      (next : A → TaskPlan B)
      → Walks Q outs p
      → ((outs : List Task) (a : A) → Q outs a → Walks R outs (next a)) → Walks R outs (p >>= next)
  walks_then Q R outs (Ends a) next h k = k outs a h
  walks_then Q R outs (Asks op more) next h k = (
    h.0,
    h.1,
    λ v fits. walks_then Q R outs (more v) next (h.2 v fits) k,
    λ beside b told. walks_then Q R (op ∷ outs) (more (stand_in op told)) next (h.3 beside b told) k,
  )

  abbrev pub Goes : {A : Type 0} → List Task → TaskPlan A → Type 0
  Goes outs p = Walks (λ os a. Unit {0}) outs p

  pub goes_then : {A B : Type 0} (outs : List Task) (p : TaskPlan A) (next : A → TaskPlan B) → Goes outs p
      → ((os : List Task) (a : A) → Goes os (next a)) → Goes outs (p >>= next)
  goes_then outs p next h k = walks_then (λ os a. Unit {0}) (λ os b. Unit {0}) outs p next h (λ os a any. k os a)

  -- the operation may be asked beside all that are out
  abbrev pub IsFreeOfOuts : List Task → List Slot → Task → Type 0
  IsFreeOfOuts asked slots op =
      (journal : List Choice) → MayStill t entries journal → (at : List ℕ) (n k : ℕ) → k ≡ n + length slots
      → AllByRecursion (λ (c : Call). Free (reach_in journal t (shared_in t f)) c.op (part_of at k op)) (outs_from at n asked slots)

  pub walk : {A : Type 0} (Q : List Task → A → Type 0) (outs asked : List Task) (slots : List Slot) (p : TaskPlan A) (op : Task)
      → Walks Q outs p
      → SlotsFit t entries asked slots → AreAsked asked slots p → length asked ≡ length slots → GoesBesideAll op asked slots
      → NextAnswered (told_in slots) (left_behind_slots slots p) op
      → IsTaskOf t f entries op × AreFreeBeside outs op × IsFreeOfOuts asked slots op
  walk Q outs [] [] (Ends a) op h fit are len b next = absurd next
  walk Q outs [] [] (Asks q more) op h fit are len b next =
      (subst (IsTaskOf t f entries) next h.0, subst (AreFreeBeside outs) next h.1, λ journal still at n k e. tt)
  walk Q outs [] (slot ∷ slots) p op h fit are len b next = absurd (omega (arith, len))
  walk Q outs (q ∷ asked) [] p op h fit are len b next = absurd (omega (arith, len))
  walk Q outs (q ∷ asked) (slot ∷ slots) (Ends a) op h fit are len b next = absurd are
  walk Q outs (q ∷ asked) (Heard v ∷ slots) (Asks x more) op h fit are len b next =
      let fits : FitsWhichever t entries x v = subst (λ (y : Task). FitsWhichever t entries y v) are.0 fit.0 in
      let r = walk Q outs asked slots (more v) op (h.2 v fits) fit.1 are.1 (omega (arith, len)) b next in
      (r.0, r.1, λ journal still at n k e. r.2 journal still at (suc n) k (omega (arith, e)))
  walk Q outs (q ∷ asked) (IsOut told ∷ slots) (Asks x more) op h fit are len b next =
      let beside : GoesBeside x op = subst (λ (y : Task). GoesBeside y op) are.0 b.0 in
      let v : Value = stand_in x told in
      let r = walk Q (x ∷ outs) asked slots (more v) op (h.3 op beside told) fit.1
      (are.1 v (stands_kind x told) (stands_early x told)) (omega (arith, len)) b.1
      (next v (stands_kind x told) (stands_early x told)) in (
        r.0,
        r.1.1,
        λ journal still at n k e. (
          subst (λ (y : Task). AreFreeParts journal t f at n y k op) (sym are.0)
              (r.1.0 beside journal still at n k (λ same. absurd (omega (arith, e, same)))),
          r.2 journal still at (suc n) k (omega (arith, e)),
        ),
      )
