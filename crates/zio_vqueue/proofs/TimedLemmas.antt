-- Operations that are put at times from 0 on, one after another.
use Rattle.std.proofs.Common.{◌≡◌, ℕ, ◌+◌, List, [], ◌∷◌, ◌++◌, false, ◌||◌, ◌==◌, refl, sym, ap, ◌∙◌, arith, All, subst, length, append_assoc, append-nil}
use Rattle.std.proofs.lemmas.List.Elements.{All-head, All-tail}
use Rattle.std.specs.Map.{values_of}
use Rattle.zio_vqueue.specs.declared.op.Op.{Op}
use Rattle.zio_vqueue.specs.declared.spots.Spot.{Spot}
use Rattle.zio_vqueue.specs.Queues.{AreApart, FitsDevice, is_queued}
use Rattle.zio_vqueue.specs.Spots.{AreBefore, IsIndexed, timed_of}
use Rattle.zio_vqueue.proofs.ByTimeLemmas.{indexed_none}
use Rattle.zio_vqueue.proofs.GatherLemmas.{values-append}
use Rattle.zio_vqueue.proofs.IndexLemmas.{before_next, equal_flip, neither}

-- the first of the operations stand at their spots, and these are left
pub record AreTimed (ops : List Op) (es : List (ℕ × Op)) (fs : List (Spot × Op)) (next : ℕ) (left : List Op) : Type 0 where
  pub whole : values_of es ++ left ≡ ops
  pub count : next + length left ≡ length ops
  pub indexed : IsIndexed es fs
  pub before : AreBefore next es

pub timed_none : (ops left : List Op) (fs : List (Spot × Op)) → fs ≡ [] → left ≡ ops → AreTimed ops (timed_of fs) fs 0 left
timed_none ops left fs none all = subst (λ (gs : List (Spot × Op)). AreTimed ops (timed_of gs) gs 0 left) (sym none) (record {
  whole = all;
  count = omega (arith, ap (λ (l : List Op). length l) all);
  indexed = indexed_none;
  before = tt;
})

-- an operation behind others has a ticket of its own
alone_behind : (ticket : ℕ) (xs : List Op) (o : Op) (left : List Op) → is_queued ticket (xs ++ o ∷ left) ≡ false → (o.ticket == ticket) ≡ false
alone_behind ticket [] o left e = (neither _ _ e).0
alone_behind ticket (x ∷ xs) o left e = alone_behind ticket xs o left (neither _ _ e).1

pub apart_behind : (xs : List Op) (o : Op) (left : List Op) → AreApart (xs ++ o ∷ left) → is_queued o.ticket xs ≡ false
apart_behind [] o left h = refl
apart_behind (x ∷ xs) o left h =
    ap (λ b. b || is_queued o.ticket xs) (equal_flip x.ticket o.ticket ∙ alone_behind x.ticket xs o left h.0) ∙ apart_behind xs o left h.1

fits_behind : (xs : List Op) (o : Op) (left : List Op) → All FitsDevice (xs ++ o ∷ left) → FitsDevice o
fits_behind [] o left h = All-head FitsDevice o left h
fits_behind (x ∷ xs) o left h = fits_behind xs o left (All-tail FitsDevice x (xs ++ o ∷ left) h)

-- the next of them may be put
pub next_apart : (ops : List Op) (es : List (ℕ × Op)) (fs : List (Spot × Op)) (next : ℕ) (o : Op) (left rest : List Op) → AreTimed ops es fs next left
    → left ≡ o ∷ rest → AreApart ops → is_queued o.ticket (values_of es) ≡ false
next_apart ops es fs next o left rest h is apart =
    apart_behind (values_of es) o rest (subst AreApart (sym (ap (λ l. values_of es ++ l) (sym is) ∙ h.whole)) apart)

pub next_fits : (ops : List Op) (es : List (ℕ × Op)) (fs : List (Spot × Op)) (next : ℕ) (o : Op) (left rest : List Op) → AreTimed ops es fs next left
    → left ≡ o ∷ rest → All FitsDevice ops → FitsDevice o
next_fits ops es fs next o left rest h is fit =
    fits_behind (values_of es) o rest (subst (All FitsDevice) (sym (ap (λ l. values_of es ++ l) (sym is) ∙ h.whole)) fit)

-- it is put
pub timed_step : (ops : List Op) (es now : List (ℕ × Op)) (fs spots : List (Spot × Op)) (next : ℕ) (o : Op) (left rest : List Op)
    → AreTimed ops es fs next left → left ≡ o ∷ rest → now ≡ es ++ (next, o) ∷ [] → IsIndexed now spots → AreTimed ops now spots (next + 1) rest
timed_step ops es now fs spots next o left rest h is put indexed = record {
  whole = ap (λ (l : List (ℕ × Op)). values_of l ++ rest) put ∙ ap (λ l. l ++ rest) (values-append es ((next, o) ∷ []))
      ∙ append_assoc (values_of es) (o ∷ []) rest ∙ ap (λ l. values_of es ++ l) (sym is) ∙ h.whole;
  count = omega (arith, h.count, ap (λ (l : List Op). length l) is);
  indexed = indexed;
  before = subst (AreBefore (next + 1)) (sym put) (before_next next o es h.before);
}

pub timed_whole : (ops : List Op) (es : List (ℕ × Op)) (fs : List (Spot × Op)) (next : ℕ) (left : List Op) → AreTimed ops es fs next left → left ≡ [] → values_of es ≡ ops
timed_whole ops es fs next left h none = sym (append-nil (values_of es)) ∙ ap (λ l. values_of es ++ l) (sym none) ∙ h.whole
