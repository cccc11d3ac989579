-- What a request's node ends with: its value, the requests that finished below it, and the places that its attempt came to.
use Rattle.std.proofs.Common.{◌≡◌, ℕ, zero, suc, List, [], ◌∷◌, ◌++◌, length, take, refl, sym, ap, subst, ◌∙◌, append_assoc, append-nil, arith}
use Rattle.std.specs.List.{AllByRecursion, flat_map}
use Rattle.std.proofs.lemmas.Grind.{flat_map-append}
use Rattle.zio_gang.specs.Attempts.{Ended, Terms, tree_unless}
use Rattle.zio_trace.specs.Families.{Forest, NoTrees, TreeOf}
use Rattle.zio_trace.specs.Tasks.{Attempt, AttemptedBy, Find, Leaf, One, ReadCopies, ReadHeads, ReadTree, Settle, TakePlaces, Task, Value, WriteCopies, WritePart, attempted}
use Rattle.zio_children.specs.RequestKids.{FitKids, FitsState, kids_by}
use Rattle.zio_children.specs.declared.kids.Kid.{Kid}
use Rattle.zio_children.specs.declared.kids.KidState.{KidState}
use Rattle.zio_children.specs.declared.kids.KidState.TheVariants.{Due, Out, Told, Ended as KidEnded}
use Rattle.zio_frames.specs.Frames.{Stack}
use Rattle.zio_frames.specs.Slots.{Heard, IsOut, Slot}
use Rattle.zio_exchange.specs.Outcomes.{AreEndedAs, IsAttempt, IsOutcome, held_by, places_in, places_with}
use Rattle.zio_exchange.specs.declared.waiting.UnfinishedRequest.{UnfinishedRequest}
use Rattle.zio_stages.specs.ClosedRequests.{Again, Closed, Finished}
use Rattle.zio_stages.specs.Closings.{outcome_of}
use Rattle.zio_stages.specs.KidTrees.{attempts_of}
use Rattle.zio_stages.specs.RequestNodes.{IsClosedAs, IsRequestNode}
use Rattle.zio_stages.specs.declared.request_node.RequestNode.{RequestNode}
use Rattle.zio_staged.specs.Parts.{ended_by, ended_in, ended_in_slot}

-- ---- its value

pub shows_outcome : (t : Terms) (op : Task) (label : ℕ) (closed : Closed) (r : RequestNode) (before : List Ended) (one : One) → IsAttempt op
    → IsClosedAs closed r before one → IsOutcome t op (outcome_of label closed) (AttemptedBy one)
shows_outcome t op label (Finished waiting error own) r before one at h =
    let same : r.waiting.request.number ≡ waiting.request.number = ap (λ (w : UnfinishedRequest). w.request.number) (sym h.0) in (
      at,
      (
        one,
        refl,
        record {
          by = record { same_bits = h.1.bits; same_child = h.1.child ∙ ap (λ n. record { number = n; error = error; pointer = own.pointer }) same };
          again = h.1.again;
          left = h.1.left;
        },
      ),
    )
shows_outcome t op label (Again bits whole own) r before one at h = (
  at,
  (
    one,
    refl,
    record {
      number = r.waiting.request.number;
      root = h.number;
      by = record { same_bits = h.same; same_child = h.child };
      some = h.some;
      left = h.left;
    },
  ),
)

-- ---- the requests in it

-- the request itself, if it finished
abbrev pub ended_of : Closed → RequestNode → List Ended
ended_of (Finished waiting error own) r = record { request = r.waiting.request; error = error; bytes = own.bytes; tree = tree_unless error own.tree } ∷ []
ended_of (Again bits whole own) r = []

pub ended_behind : (closed : Closed) (r : RequestNode) (before : List Ended) (one : One) → IsClosedAs closed r before one → one.ended ≡ before ++ ended_of closed r
ended_behind (Finished waiting error own) r before one h = h.1.ended
ended_behind (Again bits whole own) r before one h = h.ended ∙ sym (append-nil before)

pub ended_as : (label : ℕ) (closed : Closed) (r : RequestNode) (before : List Ended) (one : One) → IsClosedAs closed r before one
    → AreEndedAs (outcome_of label closed) (ended_of closed r)
ended_as label (Finished waiting error own) r before one h = (
  record { request = r.waiting.request; error = error; bytes = own.bytes; tree = tree_unless error own.tree },
  refl,
  record { number = ap (λ (w : UnfinishedRequest). w.request.number) (sym h.0); error = refl; bytes = refl; tree = refl },
)
ended_as label (Again bits whole own) r before one h = refl

heard_kid : (k : Kid) (v : Value) → FitsState k.number k.state (Heard v) → (one : One) × (v ≡ AttemptedBy one)
heard_kid k v h = by_state k.state h
  where
    by_state : (s : KidState) → FitsState k.number s (Heard v) → (one : One) × (v ≡ AttemptedBy one)
    by_state Due h = absurd h
    by_state Out h = absurd (cc)
    by_state (Told pointer) h = absurd (cc)
    by_state (KidEnded bits error pointer) h = let is : Heard v ≡ Heard (AttemptedBy h.0) = h.1 in (h.0, cc)

-- what the children's attempts left, in their order
pub kids_ended : (kids : List Kid) (slots : List Slot) → FitKids kids slots → (kids_by slots).ended ≡ flat_map ended_in_slot slots
kids_ended [] [] h = refl
kids_ended [] (slot ∷ slots) h = absurd h
kids_ended (k ∷ kids) [] h = refl
kids_ended (k ∷ kids) (IsOut told ∷ slots) h = kids_ended kids slots h.1
kids_ended (k ∷ kids) (Heard v ∷ slots) h =
    let is = heard_kid k v h.0 in
    ap (λ (u : Value). (attempted u).ended ++ (kids_by slots).ended) is.1 ∙ ap (λ es. is.0.ended ++ es) (kids_ended kids slots h.1)
    ∙ ap (λ (u : Value). ended_by u ++ flat_map ended_in_slot slots) (sym is.1)

-- where its own work's operations have none of them
pub ended_before : (t : Terms) (r : RequestNode) (st : Stack) (h : IsRequestNode t r st) → flat_map ended_in_slot h.own_slots ≡ []
    → (kids_by h.kid_slots).ended ≡ ended_in st
ended_before t r st h none =
    kids_ended r.kids.kids.kids h.kid_slots h.kids.fits
    ∙ sym (append-nil (flat_map ended_in_slot h.kid_slots))
    ∙ ap (λ es. flat_map ended_in_slot h.kid_slots ++ es) (sym none)
    ∙ sym (flat_map-append ended_in_slot h.kid_slots h.own_slots)
    ∙ ap (flat_map ended_in_slot) (sym h.slots)

-- ---- the places

attempt_holds_none : (op : Task) (slot : Slot) → IsAttempt op → places_with op slot ≡ []
attempt_holds_none (Attempt attempt p kids) (IsOut told) h = refl
attempt_holds_none (Attempt attempt p kids) (Heard v) h = refl
attempt_holds_none (Find a) slot h = absurd h
attempt_holds_none (Leaf act) slot h = absurd h
attempt_holds_none (ReadCopies repair test len places) slot h = absurd h
attempt_holds_none (WriteCopies bytes places) slot h = absurd h
attempt_holds_none (WritePart attempt p sum copies levels path bytes) slot h = absurd h
attempt_holds_none (ReadHeads look levels path bp) slot h = absurd h
attempt_holds_none (ReadTree tree) slot h = absurd h
attempt_holds_none (TakePlaces tree) slot h = absurd h
attempt_holds_none (Settle p kids) slot h = absurd h

pub attempts_hold_none : (asked : List Task) (slots : List Slot) → AllByRecursion IsAttempt asked → places_in asked slots ≡ []
attempts_hold_none [] slots h = refl
attempts_hold_none (op ∷ asked) [] h = refl
attempts_hold_none (op ∷ asked) (slot ∷ slots) h =
    ap (λ ps. ps ++ places_in asked slots) (attempt_holds_none op slot h.0) ∙ attempts_hold_none asked slots h.1

are_attempts : (attempt : ℕ) (forest : Forest) (n : ℕ) → AllByRecursion IsAttempt (take n (attempts_of attempt forest))
are_attempts attempt NoTrees zero = tt
are_attempts attempt NoTrees (suc n) = tt
are_attempts attempt (TreeOf p below others) zero = tt
are_attempts attempt (TreeOf p below others) (suc n) = (tt, are_attempts attempt others n)

pub places_behind : (xs ys : List Task) (ss ts : List Slot) → length xs ≡ length ss → places_in (xs ++ ys) (ss ++ ts) ≡ places_in xs ss ++ places_in ys ts
places_behind [] ys [] ts e = refl
places_behind [] ys (s ∷ ss) ts e = absurd (omega (arith, e))
places_behind (x ∷ xs) ys [] ts e = absurd (omega (arith, e))
places_behind (x ∷ xs) ys (s ∷ ss) ts e =
    ap (λ ps. places_with x s ++ ps) (places_behind xs ys ss ts (omega (arith, e))) ∙ sym (append_assoc (places_with x s) (places_in xs ss) (places_in ys ts))

-- those of its own work
pub held_by_own : (t : Terms) (r : RequestNode) (st : Stack) (h : IsRequestNode t r st) → length h.kid_asked ≡ length h.kid_slots
    → held_by st ≡ places_in h.own_asked h.own_slots
held_by_own t r st h full =
    (λ i. places_in (h.asked i) (h.slots i))
    ∙ places_behind h.kid_asked h.own_asked h.kid_slots h.own_slots full
    ∙ ap (λ ps. ps ++ places_in h.own_asked h.own_slots)
    (attempts_hold_none h.kid_asked h.kid_slots (subst (AllByRecursion IsAttempt) (sym h.kids.ops) (are_attempts r.attempt h.forest r.kids.kids.handed)))

-- of an attempt
pub is_attempt : (t : Terms) (r : RequestNode) (st : Stack) → IsRequestNode t r st → IsAttempt st.outer.op
is_attempt t r st h = subst IsAttempt (sym h.op) tt
