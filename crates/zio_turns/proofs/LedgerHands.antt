-- A node hands out each request and each part that it asks, from move to move.
use Rattle.std.proofs.Common.{◌≡◌, ◌≢◌, ℕ, List, [], ◌∷◌, ◌++◌, length, slice_get, slice_set, Option, Some, None, ◌⊎◌, inl, inr, refl, sym, ap, ◌∙◌, subst}
use Rattle.std.specs.List.{AllByRecursion}
use Rattle.zio_blkptr.specs.declared.pointer.Bp.{Bp}
use Rattle.zio_gang.specs.Attempts.{Terms}
use Rattle.zio_trace.specs.Entries.{answer_to}
use Rattle.zio_trace.specs.Leaves.{LeafOp}
use Rattle.zio_trace.specs.Tasks.{Attempt, Find, Leaf, Settle, TakePlaces, Taken, Task, Value, WritePart}
use Rattle.zio_frames.specs.Frames.{Child, Inner, OfInner, OfOuter, Seat, Stack, fresh_frame, fresh_stack, with_asked, with_slot}
use Rattle.zio_frames.specs.Moves.{Chose, Closed, Did, Does, DoesAll, Opened, Took, child_ended, child_for, child_told, done_at_once, handed, heard_early, heard_of, seat_in, set_at, set_in_inner, with_asking, with_children, with_frames}
use Rattle.zio_frames.specs.Slots.{Heard, IsOut, Slot}
use Rattle.zio_frames.proofs.GetLemmas.{get_either, get_last, get_more, get_other, get_set, same_or_not}
use Rattle.zio_exchange.specs.WithinParts.{IsDoneWithin, OpensWithin}
use Rattle.zio_staged.specs.Stages.{AreHandedOut, IsChildsSeat, IsHandedOut}
use Rattle.zio_turns.proofs.Links.{some_is}

-- what is done within is nothing that is handed out
not_handed : (op : Task) → IsDoneWithin op → IsHandedOut op → ⊥
not_handed (Attempt attempt p kids) within out = within
not_handed (Settle p kids) within out = within
not_handed (WritePart attempt p sum copies levels path bytes) within out = within
not_handed _ within out = out

-- ---- it does something itself

-- it asks one more that isn't handed out, and does this within
asks_more : (a : Stack) (op : Task) (slot : Slot) (inner : Option Inner) → (IsHandedOut op → ⊥)
    → ((i : Inner) → inner ≡ Some i → IsDoneWithin i.frame.op) → AreHandedOut a
    → AreHandedOut (with_frames a (with_asked a.outer op slot) inner)
asks_more a op slot inner not within h = record {
  by_child = λ big n q is out. by big n q out (get_either a.outer.asked op q n is);
  within = within;
}
  where
    by : IsHandedOut a.outer.op → (n : ℕ) (q : Task) → IsHandedOut q
        → (slice_get a.outer.asked n ≡ Some q) ⊎ ((n ≡ length a.outer.asked) × (op ≡ q)) → IsChildsSeat a.children n
    by big n q out (inl old) = h.by_child big n q old out
    by big n q out (inr new) = absurd (not (subst IsHandedOut (sym new.1) out))

none_in : (i : Inner) → ◌≡◌ {A = Option Inner} None (Some i) → IsDoneWithin i.frame.op
none_in i e = absurd (cc)

one_in : (x : Inner) → IsDoneWithin x.frame.op → (i : Inner) → Some x ≡ Some i → IsDoneWithin i.frame.op
one_in x within i e = subst (λ (y : Inner). IsDoneWithin y.frame.op) (some_is x i e) within

hands_one : (t : Terms) (did : Did) (a b : Stack) → Does t did a b → OpensWithin did → AreHandedOut a → AreHandedOut b
hands_one t (Opened op) a b h within k =
    subst AreHandedOut (sym h.3)
    (asks_more a op (IsOut None) (Some (record { number = length a.outer.slots; frame = fresh_frame op })) (not_handed op within)
    (one_in (record { number = length a.outer.slots; frame = fresh_frame op }) within) k)
hands_one t (Closed v) a b h within k = subst AreHandedOut (sym h.4) (record { by_child = k.by_child; within = none_in })
hands_one t (Chose c) a b h within k =
    subst AreHandedOut (sym h.2) (asks_more a (Find c.asked) (Heard (answer_to c)) None (λ out. out) none_in k)
hands_one t (Took tree free) a b h within k =
    subst AreHandedOut (sym h.2) (asks_more a (TakePlaces tree) (Heard (Taken free)) None (λ out. out) none_in k)

pub hands_does : (t : Terms) (dids : List Did) (a b : Stack) → DoesAll t dids a b → AllByRecursion OpensWithin dids
    → AreHandedOut a → AreHandedOut b
hands_does t [] a b h within k = subst AreHandedOut (sym h) k
hands_does t (did ∷ dids) a b h within k = hands_does t dids h.0 b h.2 within.1 (hands_one t did a h.0 h.1 within.0 k)

-- ---- nothing is done of it, or its leaf answered

pub hands_fresh : (op : Task) → AreHandedOut (fresh_stack op)
hands_fresh op = record { by_child = λ big n q is out. absurd (cc); within = none_in }

pub hands_leaf : (act : LeafOp) (v : Value) → AreHandedOut (done_at_once (fresh_stack (Leaf act)) (Leaf act) v)
hands_leaf act v = asks_more (fresh_stack (Leaf act)) (Leaf act) (Heard v) None (λ out. out) none_in (hands_fresh (Leaf act))

-- ---- one more child

seat_kept : (children : List Child) (c : Child) (n : ℕ) → IsChildsSeat children n → IsChildsSeat (children ++ c ∷ []) n
seat_kept children c n h = (h.0, h.1, get_more children c h.1 h.0 h.2, h.3)

pub hands_handed : (st : Stack) (op : Task) → length st.outer.asked ≡ length st.outer.slots → AreHandedOut st
    → AreHandedOut (handed st op)
hands_handed st op full h = by st.inner refl
  where
    new : Child
    new = child_for (OfOuter (length st.outer.slots)) op

    sits : (n : ℕ) (q : Task) → IsHandedOut st.outer.op → IsHandedOut q
        → (slice_get st.outer.asked n ≡ Some q) ⊎ ((n ≡ length st.outer.asked) × (op ≡ q))
        → IsChildsSeat (st.children ++ new ∷ []) n
    sits n q big out (inl old) = seat_kept st.children new n (h.by_child big n q old out)
    sits n q big out (inr last) =
        (length st.children, new, get_last st.children new, ap (λ (m : ℕ). OfOuter m) (sym full ∙ sym last.0))

    by : (o : Option Inner) → st.inner ≡ o → AreHandedOut (record {
      outer = (with_asking st o op).outer;
      inner = (with_asking st o op).inner;
      children = st.children ++ child_for (seat_in st.outer o) op ∷ [];
    })
    by None e = record {
      by_child = λ big n q is out. sits n q big out (get_either st.outer.asked op q n is);
      within = none_in;
    }
    by (Some i) e = record {
      by_child = λ big n q is out.
          seat_kept st.children (child_for (OfInner (length i.frame.slots)) op) n (h.by_child big n q is out);
      within = one_in (record { number = i.number; frame = with_asked i.frame op (IsOut None) }) (h.within i e);
    }

-- ---- it hears of a child

-- one child is so far now, and sits where it sat
seat_set : (children : List Child) (n : ℕ) (c now : Child) (m : ℕ) → slice_get children n ≡ Some c → now.seat ≡ c.seat
    → IsChildsSeat children m → IsChildsSeat (slice_set children n now) m
seat_set children n c now m is same h = by (same_or_not h.0 n)
  where
    by : (h.0 ≡ n) ⊎ (h.0 ≢ n) → IsChildsSeat (slice_set children n now) m
    by (inl e) =
        let there : c ≡ h.1 = some_is c h.1 (sym is ∙ (ap (slice_get children) (sym e) ∙ h.2)) in
        (n, now, get_set children n c now is, same ∙ (ap (λ (x : Child). x.seat) there ∙ h.3))
    by (inr other) = (h.0, h.1, get_other children n h.0 now other ∙ h.2, h.3)

hands_set : (st : Stack) (n : ℕ) (c now : Child) (slot : Slot) → slice_get st.children n ≡ Some c → now.seat ≡ c.seat
    → AreHandedOut st → AreHandedOut (with_children (set_at st c.seat slot) (slice_set st.children n now))
hands_set st n c now slot is same h = by c.seat
  where
    inside : (m : ℕ) (o : Option Inner) → st.inner ≡ o
        → AreHandedOut (with_children (set_in_inner st o m slot) (slice_set st.children n now))
    inside m None e = record {
      by_child = λ big k q there out. seat_set st.children n c now k is same (h.by_child big k q there out);
      within = h.within;
    }
    inside m (Some i) e = record {
      by_child = λ big k q there out. seat_set st.children n c now k is same (h.by_child big k q there out);
      within = one_in (record { number = i.number; frame = with_slot i.frame m slot }) (h.within i e);
    }

    by : (seat : Seat) → AreHandedOut (with_children (set_at st seat slot) (slice_set st.children n now))
    by (OfOuter m) = record {
      by_child = λ big k q there out. seat_set st.children n c now k is same (h.by_child big k q there out);
      within = h.within;
    }
    by (OfInner m) = inside m st.inner refl

pub hands_told : (st : Stack) (n : ℕ) (c : Child) (pointer : Option Bp) → slice_get st.children n ≡ Some c → AreHandedOut st
    → AreHandedOut (heard_early st n c pointer)
hands_told st n c pointer is h = hands_set st n c (child_told c) (IsOut (Some pointer)) is refl h

pub hands_heard : (st : Stack) (n : ℕ) (c : Child) (v : Value) → slice_get st.children n ≡ Some c → AreHandedOut st
    → AreHandedOut (heard_of st n c v)
hands_heard st n c v is h = hands_set st n c (child_ended c) (Heard v) is refl h
