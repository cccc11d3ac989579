-- Of operations that were asked, those that are out: one more, one that told, and one that was answered.
use Rattle.std.proofs.Common.{◌≡◌, ℕ, zero, suc, ◌+◌, List, [], ◌∷◌, ◌++◌, length, slice_get, slice_set, Option, Some, None, refl, ap, ◌∙◌, arith}
use Rattle.zio_blkptr.specs.declared.pointer.Bp.{Bp}
use Rattle.zio_trace.specs.Tasks.{Task, Value}
use Rattle.zio_trace.specs.Underway.{Call, call_of, part_of, told_of}
use Rattle.zio_trace.specs.Views.{nth, telling, without}
use Rattle.zio_frames.specs.Frames.{outs_from}
use Rattle.zio_frames.specs.Slots.{Heard, IsOut, Slot, outs_before, told_in}
use Rattle.zio_frames.proofs.SlotMoves.{IsOutAt}

shift : (n k : ℕ) → suc n + k ≡ n + suc k
shift n k = omega arith

-- it is the operation of that number
abbrev pub out_of : List ℕ → ℕ → Task → Option (Option Bp) → Call
out_of at n op told = record { number = n; op = part_of at n op; told = told }

shorter : {X Y : Type 0} (x : X) (xs : List X) (y : Y) (ys : List Y) → length (x ∷ xs) ≡ length (y ∷ ys) → length xs ≡ length ys
shorter x xs y ys e = omega arith

out_here : (at : List ℕ) (n : ℕ) (q op : Task) (out told : Option (Option Bp)) → Some q ≡ Some op
    → Some (IsOut out) ≡ Some (IsOut told) → Some (out_of at n q out) ≡ Some (out_of at (n + 0) op told)
out_here at n q op out told e f =
    let a : q ≡ op = cc in
    let b : out ≡ told = cc in
    let c : n ≡ n + 0 = omega arith in
    λ i. Some (out_of at (c i) (a i) (b i))

-- ---- one more

pub outs_more : (at : List ℕ) (n : ℕ) (asked : List Task) (slots : List Slot) (op : Task) → length asked ≡ length slots
    → outs_from at n (asked ++ op ∷ []) (slots ++ IsOut None ∷ []) ≡ outs_from at n asked slots ++ call_of at
    (n + length slots) op ∷ []
outs_more at n [] [] op e =
    let c : n ≡ n + 0 = omega arith in
    ap (λ m. call_of at m op ∷ []) c
outs_more at n [] (x ∷ slots) op e = absurd (omega arith)
outs_more at n (q ∷ asked) [] op e = absurd (omega arith)
outs_more at n (q ∷ asked) (Heard v ∷ slots) op e =
    outs_more at (suc n) asked slots op (shorter q asked (Heard v) slots e)
    ∙ ap (λ m. outs_from at (suc n) asked slots ++ call_of at m op ∷ []) (shift n (length slots))
outs_more at n (q ∷ asked) (IsOut told ∷ slots) op e =
    ap (λ (cs : List Call). out_of at n q told ∷ cs)
    (outs_more at (suc n) asked slots op (shorter q asked (IsOut told) slots e)
    ∙ ap (λ m. outs_from at (suc n) asked slots ++ call_of at m op ∷ []) (shift n (length slots)))

-- ---- the kth

pub out_at : (n : ℕ) (slots : List Slot) (told : Option (Option Bp)) → slice_get slots n ≡ Some (IsOut told) → IsOutAt n slots
out_at n [] told e = absurd (cc)
out_at zero (IsOut out ∷ slots) told e = tt
out_at zero (Heard v ∷ slots) told e = absurd (cc)
out_at (suc n) (x ∷ slots) told e = out_at n slots told e

-- the kth, where it has no answer, is one of those that are out
pub out_there : (at : List ℕ) (n k : ℕ) (asked : List Task) (slots : List Slot) (op : Task) (told : Option (Option Bp))
    → slice_get asked k ≡ Some op → slice_get slots k ≡ Some (IsOut told)
    → nth (outs_before k slots) (outs_from at n asked slots) ≡ Some (out_of at (n + k) op told)
out_there at n k [] slots op told a e = absurd (cc)
out_there at n k (q ∷ asked) [] op told a e = absurd (cc)
out_there at n zero (q ∷ asked) (Heard v ∷ slots) op told a e = absurd (cc)
out_there at n zero (q ∷ asked) (IsOut out ∷ slots) op told a e = out_here at n q op out told a e
out_there at n (suc k) (q ∷ asked) (Heard v ∷ slots) op told a e =
    out_there at (suc n) k asked slots op told a e ∙ ap (λ m. Some (out_of at m op told)) (shift n k)
out_there at n (suc k) (q ∷ asked) (IsOut out ∷ slots) op told a e =
    out_there at (suc n) k asked slots op told a e ∙ ap (λ m. Some (out_of at m op told)) (shift n k)

-- and isn't once it is answered
pub out_gone : (at : List ℕ) (n k : ℕ) (asked : List Task) (slots : List Slot) (v : Value) → IsOutAt k slots
    → without (outs_before k slots) (outs_from at n asked slots) ≡ outs_from at n asked (slice_set slots k (Heard v))
out_gone at n k [] slots v h = refl
out_gone at n k (q ∷ asked) [] v h = absurd h
out_gone at n zero (q ∷ asked) (Heard w ∷ slots) v h = absurd h
out_gone at n zero (q ∷ asked) (IsOut out ∷ slots) v h = refl
out_gone at n (suc k) (q ∷ asked) (Heard w ∷ slots) v h = out_gone at (suc n) k asked slots v h
out_gone at n (suc k) (q ∷ asked) (IsOut out ∷ slots) v h =
    ap (λ (cs : List Call). out_of at n q out ∷ cs) (out_gone at (suc n) k asked slots v h)

-- and tells what it told
pub out_told : (at : List ℕ) (n k : ℕ) (asked : List Task) (slots : List Slot) (pointer : Option Bp) → IsOutAt k slots
    → telling (outs_before k slots) pointer (outs_from at n asked slots) ≡ outs_from at n asked
    (slice_set slots k (IsOut (Some pointer)))
out_told at n k [] slots p h = refl
out_told at n k (q ∷ asked) [] p h = absurd h
out_told at n zero (q ∷ asked) (Heard w ∷ slots) p h = absurd h
out_told at n zero (q ∷ asked) (IsOut out ∷ slots) p h = refl
out_told at n (suc k) (q ∷ asked) (Heard w ∷ slots) p h = out_told at (suc n) k asked slots p h
out_told at n (suc k) (q ∷ asked) (IsOut out ∷ slots) p h =
    ap (λ (cs : List Call). out_of at n q out ∷ cs) (out_told at (suc n) k asked slots p h)

-- ---- all that are out

pub told_outs : (at : List ℕ) (n : ℕ) (asked : List Task) (slots : List Slot) → length asked ≡ length slots
    → told_of (outs_from at n asked slots) ≡ told_in slots
told_outs at n [] [] e = refl
told_outs at n [] (x ∷ slots) e = absurd (omega arith)
told_outs at n (q ∷ asked) [] e = refl
told_outs at n (q ∷ asked) (Heard v ∷ slots) e = told_outs at (suc n) asked slots (shorter q asked (Heard v) slots e)
told_outs at n (q ∷ asked) (IsOut told ∷ slots) e =
    ap (λ (ts : List _). told ∷ ts) (told_outs at (suc n) asked slots (shorter q asked (IsOut told) slots e))

-- none is out where all have answers
pub heard_there : (n : ℕ) (slots : List Slot) (told : Option (Option Bp)) → told_in slots ≡ []
    → slice_get slots n ≡ Some (IsOut told) → ⊥
heard_there n [] told h e = cc
heard_there zero (Heard v ∷ slots) told h e = cc
heard_there zero (IsOut out ∷ slots) told h e = cc
heard_there (suc n) (Heard v ∷ slots) told h e = heard_there n slots told h e
heard_there (suc n) (IsOut out ∷ slots) told h e = cc
