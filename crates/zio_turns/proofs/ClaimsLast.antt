-- A node that asks for places for a block claims none, and one that claims does nothing behind it.
use Rattle.std.proofs.Common.{◌≡◌, ℕ, ◌+◌, ◌≤◌, List, [], ◌∷◌, ◌++◌, Bool, true, Option, Some, None, inl, inr, ◌⊎◌, refl, sym, ap, subst, ◌∙◌, arith}
use Rattle.std.proofs.lemmas.Bool.{false≢true}
use Rattle.zio_types.specs.declared.place.Place.{Place}
use Rattle.zio_types.specs.Choices.{Choice}
use Rattle.zio_blkptr.specs.declared.pointer.Bp.{Bp}
use Rattle.zio_gang.specs.declared.tree.Tree.{Tree}
use Rattle.zio_gang.specs.Attempts.{Terms}
use Rattle.zio_trace.specs.Calls.{FitsEarly}
use Rattle.zio_trace.specs.Plans.{TaskPlan, plan}
use Rattle.zio_trace.specs.Programs.{Asks, Ends}
use Rattle.zio_trace.specs.Tasks.{Attempt, Find, TakePlaces, Taken, Task, Value, WritePart}
use Rattle.zio_trace.specs.Traces.{AsksOnly}
use Rattle.zio_trace.specs.Underway.{early}
use Rattle.zio_frames.specs.Answering.{IsAnswerTo, NextAnswered}
use Rattle.zio_frames.specs.Frames.{Frame, Inner, Stack, with_asked}
use Rattle.zio_frames.specs.Moves.{AsksNext, Chose, Closed, Did, Does, DoesAll, Opened, Took}
use Rattle.zio_frames.specs.Slots.{Heard, IsOut, Slot, left_behind_slots, told_in}
use Rattle.zio_frames.proofs.RoundWalks.{stand_in}
use Rattle.zio_exchange.specs.SpaceCalls.{SpaceCall, calls_back, calls_by}
use Rattle.zio_turns.specs.Desks.{choices_by, choices_in, claim_asked, claims_asked}
use Rattle.zio_turns.proofs.PlansOnly.{IsOver, NoFind, NoTake, TakesLast, TakesNone, takes, task_kinds}

pub stands_early : (op : Task) (told : Option (Option Bp)) → FitsEarly early told (stand_in op told)
stands_early op None = tt
stands_early (Attempt attempt p kids) (Some pointer) = refl
stands_early _ (Some pointer) = refl

pub stands_kind : (op : Task) (told : Option (Option Bp)) → IsAnswerTo op (stand_in op told)
stands_kind (Attempt attempt p kids) told = (_, refl, refl)
stands_kind (WritePart attempt p sum copies levels path bytes) told = (_, refl)
stands_kind _ told = tt

-- what is asked behind some is one of those that the plan asks
pub asked_of : {A : Type 0} (P : Task → Type 0) (slots : List Slot) (p : TaskPlan A) (op : Task) → AsksOnly P p
    → NextAnswered (told_in slots) (left_behind_slots slots p) op → P op
asked_of P [] (Ends a) op h next = absurd next
asked_of P [] (Asks q more) op h next = subst P next h.0
asked_of P (slot ∷ slots) (Ends a) op h next = absurd next
asked_of P (Heard v ∷ slots) (Asks q more) op h next = asked_of P slots (more v) op (h.1 v) next
asked_of P (IsOut told ∷ slots) (Asks q more) op h next =
    let v = stand_in q told in
    asked_of P slots (more v) op (h.1 v) (next v (stands_kind q told) (stands_early q told))

over_none : {A : Type 0} (p : TaskPlan A) (op : Task) → IsOver p → NextAnswered [] p op → ⊥
over_none (Ends a) op h next = next
over_none (Asks q more) op h next = h

-- behind taken places nothing is asked
last_taken : {A : Type 0} (slots : List Slot) (p : TaskPlan A) (op later : Task) (v : Value) → TakesLast p
    → NextAnswered (told_in slots) (left_behind_slots slots p) op → takes op ≡ true
    → NextAnswered (told_in (slots ++ Heard v ∷ [])) (left_behind_slots (slots ++ Heard v ∷ []) p) later → ⊥
last_taken [] (Ends a) op later v h next e then = next
last_taken [] (Asks q more) op later v h next e then = over_none (more v) later
    (h.0 (subst (λ (x : Task). takes x ≡ true) (sym next) e) v) then
last_taken (slot ∷ slots) (Ends a) op later v h next e then = next
last_taken (Heard w ∷ slots) (Asks q more) op later v h next e then = last_taken slots (more w) op later v (h.1 w) next e then
last_taken (IsOut told ∷ slots) (Asks q more) op later v h next e then =
    let w = stand_in q told in
    last_taken slots (more w) op later v (h.1 w) (next w (stands_kind q told) (stands_early q told)) e
    (then w (stands_kind q told) (stands_early q told))

-- ---- one thing after another

same_task : (t : Terms) (did : Did) (a b : Stack) → Does t did a b → b.outer.op ≡ a.outer.op
same_task t (Opened op) a b h = ap (λ (s : Stack). s.outer.op) h.3
same_task t (Closed v) a b h = ap (λ (s : Stack). s.outer.op) h.4
same_task t (Chose c) a b h = ap (λ (s : Stack). s.outer.op) h.2
same_task t (Took tree free) a b h = ap (λ (s : Stack). s.outer.op) h.2

kept_task : (t : Terms) (did : Did) (a b : Stack) → Does t did a b → TakesNone (plan t a.outer.op) → TakesNone
    (plan t b.outer.op)
kept_task t did a b h none = subst (λ (op : Task). TakesNone (plan t op)) (sym (same_task t did a b h)) none

found_task : (t : Terms) (did : Did) (a b : Stack) → Does t did a b → AsksOnly NoFind (plan t a.outer.op) → AsksOnly NoFind
    (plan t b.outer.op)
found_task t did a b h none = subst (λ (op : Task). AsksOnly NoFind (plan t op)) (sym (same_task t did a b h)) none

last_task : (t : Terms) (did : Did) (a b : Stack) → Does t did a b → TakesLast (plan t a.outer.op) → TakesLast
    (plan t b.outer.op)
last_task t did a b h last = subst (λ (op : Task). TakesLast (plan t op)) (sym (same_task t did a b h)) last

no_claims : (t : Terms) (dids : List Did) (a b : Stack) → TakesNone (plan t a.outer.op) → DoesAll t dids a b → claims_asked
    (calls_by dids) ≡ 0
no_claims t [] a b none h = refl
no_claims t (Took tree free ∷ dids) a b none h =
    absurd (false≢true (sym (asked_of NoTake a.outer.slots (plan t a.outer.op) (TakePlaces tree) none h.1.1.next)))
no_claims t (Opened op ∷ dids) a b none h = no_claims t dids h.0 b (kept_task t (Opened op) a h.0 h.1 none) h.2
no_claims t (Closed v ∷ dids) a b none h = no_claims t dids h.0 b (kept_task t (Closed v) a h.0 h.1 none) h.2
no_claims t (Chose c ∷ dids) a b none h = omega (arith, no_claims t dids h.0 b (kept_task t (Chose c) a h.0 h.1 none) h.2)

pub no_choices : (t : Terms) (dids : List Did) (a b : Stack) → AsksOnly NoFind (plan t a.outer.op) → DoesAll t dids a b
    → choices_in (calls_by dids) ≡ []
no_choices t [] a b none h = refl
no_choices t (Chose c ∷ dids) a b none h =
    absurd (false≢true (sym (asked_of NoFind a.outer.slots (plan t a.outer.op) (Find c.asked) none h.1.1.next)))
no_choices t (Opened op ∷ dids) a b none h = no_choices t dids h.0 b (found_task t (Opened op) a h.0 h.1 none) h.2
no_choices t (Closed v ∷ dids) a b none h = no_choices t dids h.0 b (found_task t (Closed v) a h.0 h.1 none) h.2
no_choices t (Took tree free ∷ dids) a b none h = no_choices t dids h.0 b (found_task t (Took tree free) a h.0 h.1 none) h.2

no_inner : (i : Inner) (x : Option Inner) → x ≡ None → x ≡ Some i → ⊥
no_inner i x e f = let both : None ≡ Some i = sym e ∙ f in absurd (cc)

then : (t : Terms) (tree : Tree) (free : Bool) (a mid : Stack) (op : Task) → TakesLast (plan t a.outer.op) → Does t
    (Took tree free) a mid
    → AsksNext t mid.outer op → ⊥
then t tree free a mid op last h next =
    let outer : mid.outer ≡ with_asked a.outer (TakePlaces tree) (Heard (Taken free)) = ap (λ (s : Stack). s.outer) h.2 in
    let asks : AsksNext t (with_asked a.outer (TakePlaces tree) (Heard (Taken free))) op = subst
    (λ (x : Frame). AsksNext t x op) outer next in
    last_taken a.outer.slots (plan t a.outer.op) (TakePlaces tree) op (Taken free) last h.1.next refl asks.next

-- nothing is done behind taken places
none_later : (t : Terms) (tree : Tree) (free : Bool) (dids : List Did) (a mid b : Stack) → TakesLast (plan t a.outer.op)
    → Does t (Took tree free) a mid → DoesAll t dids mid b → dids ≡ []
none_later t tree free [] a mid b last h all = refl
none_later t tree free (Opened op ∷ dids) a mid b last h all = absurd (then t tree free a mid op last h all.1.2)
none_later t tree free (Chose c ∷ dids) a mid b last h all = absurd (then t tree free a mid (Find c.asked) last h all.1.1)
none_later t tree free (Took other again ∷ dids) a mid b last h all = absurd
    (then t tree free a mid (TakePlaces other) last h all.1.1)
none_later t tree free (Closed v ∷ dids) a mid b last h all =
    absurd (no_inner all.1.0 mid.inner (ap (λ (s : Stack). s.inner) h.2) all.1.1)

few_claims : (t : Terms) (dids : List Did) (a b : Stack) → TakesLast (plan t a.outer.op) → DoesAll t dids a b → claims_asked
    (calls_by dids) ≤ 1
few_claims t [] a b last h = omega arith
few_claims t (Took tree free ∷ dids) a b last h =
    let none : dids ≡ [] = none_later t tree free dids a h.0 b last h.1 h.2 in
    let rest : claims_asked (calls_by dids) ≡ 0 = ap (λ (ds : List Did). claims_asked (calls_by ds)) none in
    omega (arith, rest)
few_claims t (Opened op ∷ dids) a b last h = few_claims t dids h.0 b (last_task t (Opened op) a h.0 h.1 last) h.2
few_claims t (Closed v ∷ dids) a b last h = few_claims t dids h.0 b (last_task t (Closed v) a h.0 h.1 last) h.2
few_claims t (Chose c ∷ dids) a b last h = omega (arith, few_claims t dids h.0 b (last_task t (Chose c) a h.0 h.1 last) h.2)

-- ---- with the places that it gave back

pub choices_back : (calls : List SpaceCall) (gone : List Place) → choices_in (calls ++ calls_back gone) ≡ choices_in calls
choices_back [] [] = refl
choices_back [] (p ∷ gone) = choices_back [] gone
choices_back (call ∷ calls) gone = ap (λ (cs : List Choice). choices_by call ++ cs) (choices_back calls gone)

pub claims_back : (calls : List SpaceCall) (gone : List Place) → claims_asked (calls ++ calls_back gone) ≡ claims_asked calls
claims_back [] [] = refl
claims_back [] (p ∷ gone) = omega (arith, claims_back [] gone)
claims_back (call ∷ calls) gone = ap (λ (n : ℕ). claim_asked call + n) (claims_back calls gone)

-- It claims none; or it chooses none, and claims once at most.
pub claims_or_choices : (t : Terms) (dids : List Did) (gone : List Place) (a b : Stack) → DoesAll t dids a b
    → (claims_asked (calls_by dids ++ calls_back gone) ≡ 0)
    ⊎ ((choices_in (calls_by dids ++ calls_back gone) ≡ []) × (claims_asked (calls_by dids ++ calls_back gone) ≤ 1))
claims_or_choices t dids gone a b h = elim (task_kinds t a.outer.op) [
  | inl none ↦ inl (claims_back (calls_by dids) gone ∙ no_claims t dids a b none h)
  | inr some ↦ inr (
    choices_back (calls_by dids) gone ∙ no_choices t dids a b some.no_find h,
    let few : claims_asked (calls_by dids) ≤ 1 = few_claims t dids a b some.last h in omega
        (arith, few, claims_back (calls_by dids) gone),
  )
]
