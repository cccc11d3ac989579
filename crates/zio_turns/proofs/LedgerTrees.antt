-- What is in flight for a tree does nothing within, and asks for attempts alone.
use Rattle.std.proofs.Common.{◌≡◌, ℕ, zero, suc, List, [], ◌∷◌, slice_get, Option, Some, None, inl, inr, refl, sym, ap, ◌∙◌, subst}
use Rattle.zio_types.specs.declared.request.ChildKind.TheVariants.{Logical}
use Rattle.zio_blkptr.specs.declared.pointer.Bp.{Bp}
use Rattle.zio_trace.specs.Tasks.{Attempt, Find, Leaf, ReadCopies, ReadHeads, ReadTree, Settle, TakePlaces, Task, Value, WriteCopies, WritePart}
use Rattle.zio_frames.specs.Frames.{Child, Flying, Inner, OfInner, OfOuter, Seat, Stack, kind_of_task}
use Rattle.zio_frames.specs.Moves.{handed, heard_early, heard_of, set_at, set_in_inner, with_asking}
use Rattle.zio_frames.specs.Slots.{Heard, IsOut, Slot}
use Rattle.zio_frames.specs.Seats.{asked_at, asked_in_inner}
use Rattle.zio_frames.proofs.GetLemmas.{get_either}
use Rattle.zio_exchange.specs.Outcomes.{places_by}
use Rattle.zio_turns.specs.Engine.{TreesStand}
use Rattle.zio_staged.specs.Entries.{top_at}
use Rattle.zio_turns.specs.Ledgers.{IsOfTree}
use Rattle.zio_staged.specs.Parts.{ended_by}

pub top_slice : (tops : List (Option Flying)) (n : ℕ) (x : Flying) → top_at tops n ≡ Some x → slice_get tops n ≡ Some (Some x)
top_slice [] n x e = absurd (cc)
top_slice (y ∷ tops) zero x e = ap (λ (o : Option Flying). Some o) e
top_slice (y ∷ tops) (suc n) x e = top_slice tops n x e

-- it is out
pub stand_out : (k : ℕ) (tops : List (Option Flying)) (trees : List Slot) (n : ℕ) (x : Flying) → TreesStand k tops trees
    → top_at tops n ≡ Some x → (told : Option (Option Bp)) × (slice_get trees n ≡ Some (IsOut told))
stand_out k [] trees n x h e = absurd (cc)
stand_out k (o ∷ tops) [] n x h e = absurd (none_stand k o tops h)
  where
    none_stand : (k : ℕ) (o : Option Flying) (tops : List (Option Flying)) → TreesStand k (o ∷ tops) [] → ⊥
    none_stand k None tops h = h
    none_stand k (Some y) tops h = h
stand_out k (Some y ∷ tops) (IsOut told ∷ trees) zero x h e = (told, refl)
stand_out k (Some y ∷ tops) (Heard v ∷ trees) zero x h e = absurd h
stand_out k (None ∷ tops) (IsOut told ∷ trees) zero x h e = absurd h
stand_out k (None ∷ tops) (Heard v ∷ trees) zero x h e = absurd (cc)
stand_out k (Some y ∷ tops) (IsOut told ∷ trees) (suc n) x h e = stand_out (suc k) tops trees n x h.1 e
stand_out k (Some y ∷ tops) (Heard v ∷ trees) (suc n) x h e = absurd h
stand_out k (None ∷ tops) (IsOut told ∷ trees) (suc n) x h e = absurd h
stand_out k (None ∷ tops) (Heard v ∷ trees) (suc n) x h e = stand_out (suc k) tops trees n x h e

-- ---- one operation is so far now

set_of_tree : (st : Stack) (seat : Seat) (slot : Slot) → IsOfTree st → IsOfTree (set_at st seat slot)
set_of_tree st (OfOuter n) slot h = record { settles = h.settles; alone = h.alone; attempts = h.attempts }
set_of_tree st (OfInner n) slot h = by st.inner h.alone
  where
    by : (o : Option Inner) → o ≡ None → IsOfTree (set_in_inner st o n slot)
    by None e = h
    by (Some i) e = absurd (cc)

pub told_tree : (st : Stack) (n : ℕ) (c : Child) (pointer : Option Bp) → IsOfTree st → IsOfTree (heard_early st n c pointer)
told_tree st n c pointer h =
    let s = set_of_tree st c.seat (IsOut (Some pointer)) h in
    record { settles = s.settles; alone = s.alone; attempts = s.attempts }

pub heard_tree : (st : Stack) (n : ℕ) (c : Child) (v : Value) → IsOfTree st → IsOfTree (heard_of st n c v)
heard_tree st n c v h =
    let s = set_of_tree st c.seat (Heard v) h in record { settles = s.settles; alone = s.alone; attempts = s.attempts }

-- ---- one more is out

pub handed_tree : (st : Stack) (op : Task) → kind_of_task op ≡ Logical → IsOfTree st → IsOfTree (handed st op)
handed_tree st op kind h = by st.inner h.alone
  where
    by : (o : Option Inner) → o ≡ None → IsOfTree (record {
      outer = (with_asking st o op).outer;
      inner = (with_asking st o op).inner;
      children = (handed st op).children;
    })
    by None e = record {
      settles = h.settles;
      alone = refl;
      attempts = λ n q is. elim (get_either st.outer.asked op q n is) [
        | inl old ↦ h.attempts n q old
        | inr new ↦ subst (λ (x : Task). kind_of_task x ≡ Logical) new.1 kind
      ];
    }
    by (Some i) e = absurd (cc)

-- ---- what its children do

logical_places : (op : Task) (v : Value) → kind_of_task op ≡ Logical → places_by op v ≡ []
logical_places (Attempt attempt p kids) v e = refl
logical_places (Settle p kids) v e = refl
logical_places (Leaf act) v e = absurd (cc)
logical_places (Find a) v e = absurd (cc)
logical_places (ReadCopies repair test len places) v e = absurd (cc)
logical_places (WriteCopies bytes places) v e = absurd (cc)
logical_places (WritePart attempt p sum copies levels path bytes) v e = absurd (cc)
logical_places (ReadHeads look levels path bp) v e = absurd (cc)
logical_places (ReadTree tree) v e = absurd (cc)
logical_places (TakePlaces tree) v e = absurd (cc)

pub asked_logical : (st : Stack) (seat : Seat) (op : Task) → IsOfTree st → asked_at st seat ≡ Some op → kind_of_task op ≡ Logical
asked_logical st (OfOuter n) op h e = h.attempts n op e
asked_logical st (OfInner n) op h e = by st.inner h.alone e
  where
    by : (o : Option Inner) → o ≡ None → asked_in_inner o n ≡ Some op → kind_of_task op ≡ Logical
    by None none e = absurd (cc)
    by (Some i) none e = absurd (cc)

-- its value has no places
pub tree_places_none : (st : Stack) (seat : Seat) (op : Task) (v : Value) → IsOfTree st → asked_at st seat ≡ Some op → places_by op v ≡ []
tree_places_none st seat op v h e = logical_places op v (asked_logical st seat op h e)

-- and nothing is asked within
pub none_within : (st : Stack) (op : Task) (v : Value) (c : Child) → IsOfTree st → asked_at st c.seat ≡ Some op → (m : ℕ)
    → c.seat ≡ OfInner m → (ended_by v ≡ []) × (places_by op v ≡ [])
none_within st op v c h e m seat = absurd (by st.inner h.alone (ap (asked_at st) (sym seat) ∙ e))
  where
    by : (o : Option Inner) → o ≡ None → asked_in_inner o m ≡ Some op → ⊥
    by None none e = cc
    by (Some i) none e = cc
