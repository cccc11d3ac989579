-- Operations some of which told their pointers since: what is asked behind them, and how they go on.
use Rattle.std.proofs.Common.{◌≡◌, ℕ, zero, suc, List, [], ◌∷◌, ◌++◌, length, set, slice_get, Option, Some, None, refl, sym, ap, subst, ◌∙◌}
use Rattle.zio_blkptr.specs.declared.pointer.Bp.{Bp}
use Rattle.zio_gang.specs.Attempts.{Terms}
use Rattle.zio_trace.specs.Calls.{FitsEarly}
use Rattle.zio_trace.specs.Plans.{TaskPlan}
use Rattle.zio_trace.specs.Programs.{Ends, Asks}
use Rattle.zio_trace.specs.Tasks.{Task, Value}
use Rattle.zio_trace.specs.Underway.{early}
use Rattle.zio_frames.specs.Answering.{NextAnswered}
use Rattle.zio_frames.specs.Frames.{Stack}
use Rattle.zio_frames.specs.Moves.{AsksNext}
use Rattle.zio_frames.specs.Slots.{AllHeard, Heard, IsOut, Slot, left_behind_slots, told_in}
use Rattle.zio_stages.specs.OwnParts.{Follows, IsBehind, ToldSince}
use Rattle.zio_stages.specs.PartsOut.{ArePartsOut}
use Rattle.zio_stages.proofs.BehindLemmas.{asks_behind}

-- ---- as many, and the same ones

pub since_length : (xs ys : List Slot) → ToldSince xs ys → length xs ≡ length ys
since_length [] [] h = refl
since_length [] (y ∷ ys) h = absurd h
since_length (x ∷ xs) [] h = absurd h
since_length (Heard v ∷ xs) (Heard w ∷ ys) h = ap suc (since_length xs ys h.1)
since_length (Heard v ∷ xs) (IsOut told ∷ ys) h = absurd h
since_length (IsOut out ∷ xs) (Heard w ∷ ys) h = absurd h
since_length (IsOut None ∷ xs) (IsOut told ∷ ys) h = ap suc (since_length xs ys h)
since_length (IsOut (Some pointer) ∷ xs) (IsOut told ∷ ys) h = ap suc (since_length xs ys h.1)

pub since_left : {A : Type 0} (xs ys : List Slot) (p : TaskPlan A) → ToldSince xs ys → left_behind_slots ys p ≡ left_behind_slots xs p
since_left [] [] p h = refl
since_left [] (y ∷ ys) p h = absurd h
since_left (x ∷ xs) [] p h = absurd h
since_left (Heard v ∷ xs) (Heard w ∷ ys) (Ends a) h = refl
since_left (Heard v ∷ xs) (Heard w ∷ ys) (Asks op more) h = since_left xs ys (more w) h.1 ∙ ap (λ u. left_behind_slots xs (more u)) (sym h.0)
since_left (Heard v ∷ xs) (IsOut told ∷ ys) p h = absurd h
since_left (IsOut out ∷ xs) (Heard w ∷ ys) p h = absurd h
since_left (IsOut None ∷ xs) (IsOut told ∷ ys) (Ends a) h = refl
since_left (IsOut None ∷ xs) (IsOut told ∷ ys) (Asks op more) h = λ i. Asks op (λ v. since_left xs ys (more v) h i)
since_left (IsOut (Some pointer) ∷ xs) (IsOut told ∷ ys) (Ends a) h = refl
since_left (IsOut (Some pointer) ∷ xs) (IsOut told ∷ ys) (Asks op more) h = λ i. Asks op (λ v. since_left xs ys (more v) h.1 i)

pub since_parts : (asked : List Task) (xs ys : List Slot) → ToldSince xs ys → ArePartsOut asked xs → ArePartsOut asked ys
since_parts [] xs ys h p = tt
since_parts (q ∷ asked) [] [] h p = tt
since_parts (q ∷ asked) [] (y ∷ ys) h p = absurd h
since_parts (q ∷ asked) (x ∷ xs) [] h p = absurd h
since_parts (q ∷ asked) (Heard v ∷ xs) (Heard w ∷ ys) h p = since_parts asked xs ys h.1 p
since_parts (q ∷ asked) (Heard v ∷ xs) (IsOut told ∷ ys) h p = absurd h
since_parts (q ∷ asked) (IsOut out ∷ xs) (Heard w ∷ ys) h p = absurd h
since_parts (q ∷ asked) (IsOut None ∷ xs) (IsOut told ∷ ys) h p = (p.0, since_parts asked xs ys h p.1)
since_parts (q ∷ asked) (IsOut (Some pointer) ∷ xs) (IsOut told ∷ ys) h p = (p.0, since_parts asked xs ys h.1 p.1)

pub since_all_heard : (xs ys : List Slot) → ToldSince xs ys → AllHeard xs → AllHeard ys
since_all_heard [] [] h none = refl
since_all_heard [] (y ∷ ys) h none = absurd h
since_all_heard (x ∷ xs) [] h none = absurd h
since_all_heard (Heard v ∷ xs) (Heard w ∷ ys) h none = since_all_heard xs ys h.1 none
since_all_heard (Heard v ∷ xs) (IsOut told ∷ ys) h none = absurd h
since_all_heard (IsOut out ∷ xs) ys h none = absurd (cc)

-- ---- what is asked behind them

-- what one more told is known then too
pub next_since : {A : Type 0} (xs ys : List Slot) (p : TaskPlan A) (op : Task) → ToldSince xs ys → NextAnswered (told_in xs) p op → NextAnswered (told_in ys) p op
next_since [] [] p op h n = n
next_since [] (y ∷ ys) p op h n = absurd h
next_since (x ∷ xs) [] p op h n = absurd h
next_since (Heard v ∷ xs) (Heard w ∷ ys) p op h n = next_since xs ys p op h.1 n
next_since (Heard v ∷ xs) (IsOut told ∷ ys) p op h n = absurd h
next_since (IsOut out ∷ xs) (Heard w ∷ ys) p op h n = absurd h
next_since (IsOut None ∷ xs) (IsOut told ∷ ys) (Ends a) op h n = n
next_since (IsOut None ∷ xs) (IsOut told ∷ ys) (Asks x more) op h n = λ v kind fits. next_since xs ys (more v) op h (n v kind tt)
next_since (IsOut (Some pointer) ∷ xs) (IsOut told ∷ ys) (Ends a) op h n = n
next_since (IsOut (Some pointer) ∷ xs) (IsOut told ∷ ys) (Asks x more) op h n =
    λ v kind fits. next_since xs ys (more v) op h.1 (n v kind (subst (λ (o : Option (Option Bp)). FitsEarly early o v) h.0 fits))

pub asks_since : {A : Type 0} (t : Terms) (front_asked : List Task) (front : List Slot) (asked : List Task) (begun slots : List Slot) (st : Stack) (own : TaskPlan A) (op : Task)
    → IsBehind front_asked front asked slots st → ToldSince begun slots → ArePartsOut asked begun → Follows t st.outer.op front own
    → NextAnswered (told_in begun) (left_behind_slots begun own) op → AsksNext t st.outer op
asks_since {A} t front_asked front asked begun slots st own op h since parts follows next =
    asks_behind t front_asked front asked slots st own op h (since_parts asked begun slots since parts) follows
    (subst (λ (p : TaskPlan A). NextAnswered (told_in slots) p op) (sym (since_left begun slots own since)) (next_since begun slots (left_behind_slots begun own) op since next))

-- ---- how they go on

pub since_heard : (xs ys : List Slot) (v : Value) → ToldSince xs ys → ToldSince (xs ++ Heard v ∷ []) (ys ++ Heard v ∷ [])
since_heard [] [] v h = (refl, tt)
since_heard [] (y ∷ ys) v h = absurd h
since_heard (x ∷ xs) [] v h = absurd h
since_heard (Heard u ∷ xs) (Heard w ∷ ys) v h = (h.0, since_heard xs ys v h.1)
since_heard (Heard u ∷ xs) (IsOut told ∷ ys) v h = absurd h
since_heard (IsOut out ∷ xs) (Heard w ∷ ys) v h = absurd h
since_heard (IsOut None ∷ xs) (IsOut told ∷ ys) v h = since_heard xs ys v h
since_heard (IsOut (Some pointer) ∷ xs) (IsOut told ∷ ys) v h = (h.0, since_heard xs ys v h.1)

pub since_out : (xs ys : List Slot) → ToldSince xs ys → ToldSince (xs ++ IsOut None ∷ []) (ys ++ IsOut None ∷ [])
since_out [] [] h = tt
since_out [] (y ∷ ys) h = absurd h
since_out (x ∷ xs) [] h = absurd h
since_out (Heard u ∷ xs) (Heard w ∷ ys) h = (h.0, since_out xs ys h.1)
since_out (Heard u ∷ xs) (IsOut told ∷ ys) h = absurd h
since_out (IsOut out ∷ xs) (Heard w ∷ ys) h = absurd h
since_out (IsOut None ∷ xs) (IsOut told ∷ ys) h = since_out xs ys h
since_out (IsOut (Some pointer) ∷ xs) (IsOut told ∷ ys) h = (h.0, since_out xs ys h.1)

pub since_set : (xs ys : List Slot) (n : ℕ) (v : Value) → ToldSince xs ys → ToldSince (set xs n (Heard v)) (set ys n (Heard v))
since_set [] [] n v h = tt
since_set [] (y ∷ ys) n v h = absurd h
since_set (x ∷ xs) [] n v h = absurd h
since_set (Heard u ∷ xs) (Heard w ∷ ys) zero v h = (refl, h.1)
since_set (Heard u ∷ xs) (Heard w ∷ ys) (suc n) v h = (h.0, since_set xs ys n v h.1)
since_set (Heard u ∷ xs) (IsOut told ∷ ys) n v h = absurd h
since_set (IsOut out ∷ xs) (Heard w ∷ ys) n v h = absurd h
since_set (IsOut None ∷ xs) (IsOut told ∷ ys) zero v h = (refl, h)
since_set (IsOut None ∷ xs) (IsOut told ∷ ys) (suc n) v h = since_set xs ys n v h
since_set (IsOut (Some pointer) ∷ xs) (IsOut told ∷ ys) zero v h = (refl, h.1)
since_set (IsOut (Some pointer) ∷ xs) (IsOut told ∷ ys) (suc n) v h = (h.0, since_set xs ys n v h.1)

-- the nth is out, and nothing was told of it
abbrev pub IsOutNone : ℕ → List Slot → Type 0
IsOutNone n [] = ⊥
IsOutNone zero (Heard v ∷ xs) = ⊥
IsOutNone zero (IsOut None ∷ xs) = Unit {0}
IsOutNone zero (IsOut (Some pointer) ∷ xs) = ⊥
IsOutNone (suc n) (x ∷ xs) = IsOutNone n xs

-- it tells
pub since_told : (xs ys : List Slot) (n : ℕ) (pointer : Option Bp) → IsOutNone n xs → ToldSince xs ys → ToldSince xs (set ys n (IsOut (Some pointer)))
since_told [] ys n pointer at h = absurd at
since_told (x ∷ xs) [] n pointer at h = absurd h
since_told (Heard u ∷ xs) (Heard w ∷ ys) zero pointer at h = absurd at
since_told (Heard u ∷ xs) (Heard w ∷ ys) (suc n) pointer at h = (h.0, since_told xs ys n pointer at h.1)
since_told (Heard u ∷ xs) (IsOut told ∷ ys) n pointer at h = absurd h
since_told (IsOut out ∷ xs) (Heard w ∷ ys) n pointer at h = absurd h
since_told (IsOut None ∷ xs) (IsOut told ∷ ys) zero pointer at h = h
since_told (IsOut None ∷ xs) (IsOut told ∷ ys) (suc n) pointer at h = since_told xs ys n pointer at h
since_told (IsOut (Some other) ∷ xs) (IsOut told ∷ ys) zero pointer at h = absurd at
since_told (IsOut (Some other) ∷ xs) (IsOut told ∷ ys) (suc n) pointer at h = (h.0, since_told xs ys n pointer at h.1)

-- as many are out
pub since_count : (xs ys : List Slot) → ToldSince xs ys → length (told_in xs) ≡ length (told_in ys)
since_count [] [] h = refl
since_count [] (y ∷ ys) h = absurd h
since_count (x ∷ xs) [] h = absurd h
since_count (Heard v ∷ xs) (Heard w ∷ ys) h = since_count xs ys h.1
since_count (Heard v ∷ xs) (IsOut told ∷ ys) h = absurd h
since_count (IsOut out ∷ xs) (Heard w ∷ ys) h = absurd h
since_count (IsOut None ∷ xs) (IsOut told ∷ ys) h = ap suc (since_count xs ys h)
since_count (IsOut (Some pointer) ∷ xs) (IsOut told ∷ ys) h = ap suc (since_count xs ys h.1)

-- what told nothing yet hadn't before
pub none_since : (xs ys : List Slot) (n : ℕ) → ToldSince xs ys → slice_get ys n ≡ Some (IsOut None) → IsOutNone n xs
none_since [] [] n h e = absurd (cc)
none_since [] (y ∷ ys) n h e = absurd h
none_since (x ∷ xs) [] n h e = absurd h
none_since (Heard v ∷ xs) (Heard w ∷ ys) zero h e = absurd (cc)
none_since (Heard v ∷ xs) (Heard w ∷ ys) (suc n) h e = none_since xs ys n h.1 e
none_since (Heard v ∷ xs) (IsOut told ∷ ys) n h e = absurd h
none_since (IsOut out ∷ xs) (Heard w ∷ ys) n h e = absurd h
none_since (IsOut None ∷ xs) (IsOut told ∷ ys) zero h e = tt
none_since (IsOut None ∷ xs) (IsOut told ∷ ys) (suc n) h e = none_since xs ys n h e
none_since (IsOut (Some pointer) ∷ xs) (IsOut told ∷ ys) zero h e =
    let is : told ≡ None = cc in
    let no : None ≡ Some pointer = sym is ∙ h.0 in
    absurd (cc)
none_since (IsOut (Some pointer) ∷ xs) (IsOut told ∷ ys) (suc n) h e = none_since xs ys n h.1 e
