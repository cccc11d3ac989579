-- Places are claimed once in a round, whatever its nodes and trees do.
use Rattle.std.proofs.Common.{◌≡◌, ℕ, zero, suc, ◌+◌, ◌≤◌, List, [], ◌∷◌, slice_get, slice_set, Option, Some, None, ◌⊎◌, inl, inr, refl, sym, ap, subst, arith}
use Rattle.std.specs.Prelude.{IsPermutation}
use Rattle.std.specs.List.{AllByRecursion}
use Rattle.std.proofs.lemmas.List.Sorted.{sum_by-IsPermutation}
use Rattle.std.proofs.lemmas.List.Sums.{sum_by-cons}
use Rattle.zio_types.specs.declared.place.Place.{Place}
use Rattle.zio_trace.specs.Families.{Forest, NoTrees, TreeOf}
use Rattle.zio_trace.specs.Rounds.{settles}
use Rattle.zio_trace.specs.SoundRounds.{HasClaim}
use Rattle.zio_trace.specs.Tasks.{Task}
use Rattle.zio_trace.proofs.AnyOrder.{all_permuted}
use Rattle.zio_frames.specs.Frames.{Flying, Frame, Inner, OfInner, OfOuter, Seat, Stack, fresh_stack}
use Rattle.zio_frames.specs.Moves.{set_at, set_in_inner}
use Rattle.zio_frames.specs.Running.{settling_from}
use Rattle.zio_frames.specs.Slots.{Slot}
use Rattle.zio_turns.specs.Claims.{ClaimsOnce, IsNoSettle, LeavesNothing, one_for, turn_left, turn_of, turn_of_live, turn_of_tree, turns_in, turns_of_trees}
use Rattle.zio_staged.specs.Entries.{Live, all_tops}
use Rattle.zio_turns.proofs.ClaimTurns.{IsAlone}

pub turns_first : (x : Live) (lives : List Live) → turns_in (x ∷ lives) ≡ turn_of x.stack + turns_in lives
turns_first x lives = sum_by-cons turn_of_live x lives

pub one_most : (places : List Place) → one_for places ≤ 1
one_most [] = omega arith
one_most (p ∷ places) = omega arith

pub none_for : (places : List Place) → one_for places ≡ 0 → places ≡ []
none_for [] e = refl
none_for (p ∷ places) e = absurd (omega arith)

pub set_turns : (tops : List (Option Flying)) (n : ℕ) (a b : Option Flying) → slice_get tops n ≡ Some a
    → turns_of_trees (slice_set tops n b) + turn_of_tree a ≡ turns_of_trees tops + turn_of_tree b
set_turns [] n a b e = absurd (cc)
set_turns (x ∷ tops) zero a b e =
    let is : x ≡ a = cc in let same : turn_of_tree x ≡ turn_of_tree a = ap turn_of_tree is in omega arith
set_turns (x ∷ tops) (suc n) a b e = let h = set_turns tops n a b e in omega arith

get_set : {X : Type 0} (xs : List X) (n k : ℕ) (x y : X) → slice_get (slice_set xs n x) k ≡ Some y
    → (slice_get xs k ≡ Some y) ⊎ (x ≡ y)
get_set [] n k x y e = inl e
get_set (z ∷ xs) zero zero x y e = inr (cc)
get_set (z ∷ xs) zero (suc k) x y e = inl e
get_set (z ∷ xs) (suc n) zero x y e = inl e
get_set (z ∷ xs) (suc n) (suc k) x y e = get_set xs n k x y e

abbrev IsPart : Live → Type 0
IsPart x = IsNoSettle x.stack.outer.op

module _ (f : Forest) (claimed : List Place) (tops : List (Option Flying)) where
  abbrev Was : List Live → Type 0
  Was lives = ClaimsOnce f claimed tops lives

  -- nodes change, and places are claimed
  pub lives_change : (lives now : List Live) (claimed_now : List Place) → Was lives → (claimed_now ≡ []) ⊎ HasClaim f
      → (HasClaim f → turns_in now + one_for claimed_now ≤ turns_in lives + one_for claimed)
      → (HasClaim f → AllByRecursion IsPart lives → AllByRecursion IsPart now) → ClaimsOnce f claimed_now tops now
  lives_change lives now claimed_now c alone less parts = record {
    alone = alone;
    once = λ h.
        let o = c.once h in
        record { few = omega (arith, o.few, less h); parts = parts h o.parts; quiet = o.quiet };
  }

  -- nothing but their order changes
  pub lives_order : (lives now : List Live) → IsPermutation lives now → Was lives → Was now
  lives_order lives now p c =
      let same : turns_in now ≡ turns_in lives = sum_by-IsPermutation turn_of_live lives now p in
      lives_change lives now claimed c c.alone (λ h. omega (arith, same)) (λ h parts. all_permuted IsPart lives now p parts)

  -- the first goes on
  pub first_change : (x y : Live) (others : List Live) (claimed_now : List Place) → Was (x ∷ others)
      → (claimed_now ≡ []) ⊎ HasClaim f
      → (HasClaim f → turn_of y.stack + one_for claimed_now ≤ turn_of x.stack + one_for claimed)
      → (IsPart x → IsPart y) → ClaimsOnce f claimed_now tops (y ∷ others)
  first_change x y others claimed_now c alone less part =
      lives_change (x ∷ others) (y ∷ others) claimed_now c alone
      (λ h. omega (arith, less h, turns_first x others, turns_first y others)) (λ h parts. (part parts.0, parts.1))

  -- the second does the same still
  pub second_same : (x q y : Live) (others : List Live) → Was (x ∷ q ∷ others) → turn_of y.stack ≡ turn_of q.stack
      → y.stack.outer.op ≡ q.stack.outer.op → Was (x ∷ y ∷ others)
  second_same x q y others c same op =
      lives_change (x ∷ q ∷ others) (x ∷ y ∷ others) claimed c c.alone (λ h. omega (
        arith,
        same,
        turns_first x (q ∷ others),
        turns_first x (y ∷ others),
        turns_first q others,
        turns_first y others,
      )) (λ h parts. (parts.0, (subst IsNoSettle (sym op) parts.1.0, parts.1.1)))

  -- the first ended
  pub first_ends : (x : Live) (others : List Live) → Was (x ∷ others) → Was others
  first_ends x others c =
      lives_change (x ∷ others) others claimed c c.alone (λ h. omega (arith, turns_first x others)) (λ h parts. parts.1)

  -- one node more
  pub one_more_turn : (x : Live) (lives : List Live) → Was lives
      → (HasClaim f → turn_of x.stack + turns_in lives + turns_of_trees tops + one_for claimed ≤ 1) → (HasClaim f → IsPart x)
      → Was (x ∷ lives)
  one_more_turn x lives c room part = record {
    alone = c.alone;
    once = λ h.
        let o = c.once h in
        record { few = omega (arith, room h, turns_first x lives); parts = (part h, o.parts); quiet = o.quiet };
  }

  -- a tree is so far now, or has its value
  pub tree_change : (n : ℕ) (a : Flying) (now : Option Flying) (lives : List Live) → Was lives → slice_get tops n ≡ Some (Some a)
      → turn_of_tree now ≤ turn_of_tree (Some a)
      → (HasClaim f → AllByRecursion LeavesNothing a.stack.outer.slots → (b : Flying) → now ≡ Some b
      → AllByRecursion LeavesNothing b.stack.outer.slots)
      → ClaimsOnce f claimed (slice_set tops n now) lives
  tree_change n a now lives c there less quiet = record {
    alone = c.alone;
    once = λ h.
        let o = c.once h in
        record {
          few = omega (arith, o.few, less, set_turns tops n (Some a) now there);
          parts = o.parts;
          quiet = λ k top e. elim (get_set tops n k now (Some top) e) [
            | inl old ↦ o.quiet k top old
            | inr new ↦ quiet h (o.quiet n a there) top new
          ];
        };
  }

-- ---- one operation is so far now

same_outer : (st : Stack) (o : Option Inner) (n : ℕ) (slot : Slot) → (set_in_inner st o n slot).outer ≡ st.outer
same_outer st None n slot = refl
same_outer st (Some i) n slot = refl

pub set_op : (st : Stack) (seat : Seat) (slot : Slot) → (set_at st seat slot).outer.op ≡ st.outer.op
set_op st (OfOuter n) slot = refl
set_op st (OfInner n) slot = ap (λ (o : Frame). o.op) (same_outer st st.inner n slot)

pub set_asked : (st : Stack) (seat : Seat) (slot : Slot) → (set_at st seat slot).outer.asked ≡ st.outer.asked
set_asked st (OfOuter n) slot = refl
set_asked st (OfInner n) slot = ap (λ (o : Frame). o.asked) (same_outer st st.inner n slot)

pub set_turn : (st : Stack) (seat : Seat) (slot : Slot) → turn_of (set_at st seat slot) ≡ turn_of st
set_turn st (OfOuter n) slot = refl
set_turn st (OfInner n) slot = ap (λ (o : Frame). turn_left o.op o.asked) (same_outer st st.inner n slot)

all_set : {X : Type 0} (P : X → Type 0) (xs : List X) (n : ℕ) (x : X) → AllByRecursion P xs → P x → AllByRecursion P (slice_set xs n x)
all_set P [] n x h own = tt
all_set P (y ∷ xs) zero x h own = (own, h.1)
all_set P (y ∷ xs) (suc n) x h own = (h.0, all_set P xs n x h.1 own)

pub set_quiet : (st : Stack) (seat : Seat) (slot : Slot) → LeavesNothing slot → AllByRecursion LeavesNothing st.outer.slots
    → AllByRecursion LeavesNothing (set_at st seat slot).outer.slots
set_quiet st (OfOuter n) slot own h = all_set LeavesNothing st.outer.slots n slot h own
set_quiet st (OfInner n) slot own h =
    subst (λ (o : Frame). AllByRecursion LeavesNothing o.slots) (sym (same_outer st st.inner n slot)) h

-- ---- the beginning

one_first : (root : _) → turns_of_trees (all_tops (settling_from 0 (settles (TreeOf root NoTrees NoTrees)))) ≤ 1
one_first root = omega arith

first_quiet : (k : ℕ) (tasks : List Task) (n : ℕ) (top : Flying) → slice_get (all_tops (settling_from k tasks)) n ≡ Some (Some top)
    → AllByRecursion LeavesNothing top.stack.outer.slots
first_quiet k [] n top e = absurd (cc)
first_quiet k (q ∷ tasks) zero top e =
    let is : record { at = k ∷ []; stack = fresh_stack q } ≡ top = cc in
    subst (λ (x : Flying). AllByRecursion LeavesNothing x.stack.outer.slots) is tt
first_quiet k (q ∷ tasks) (suc n) top e = first_quiet (suc k) tasks n top e

pub claims_begin : (f : Forest) → (HasClaim f → IsAlone f) → ClaimsOnce f [] (all_tops (settling_from 0 (settles f))) []
claims_begin f alone = record {
  alone = inl refl;
  once = λ h.
      let one = alone h in
      let few : turns_of_trees (all_tops (settling_from 0 (settles f))) ≤ 1 =
      subst (λ (g : Forest). turns_of_trees (all_tops (settling_from 0 (settles g))) ≤ 1) (sym one.is) (one_first one.root) in
      record { few = omega (arith, few); parts = tt; quiet = λ n top e. first_quiet 0 (settles f) n top e };
}
