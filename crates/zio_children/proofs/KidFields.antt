-- The children of a request: what their fields show, and what stays true with each call.
use Rattle.std.proofs.Common.{◌≡◌, ◌≢◌, ℕ, zero, suc, ◌+◌, ◌<◌, ◌≤◌, List, [], ◌∷◌, ◌++◌, length, set, get_or, slice_get, cond, nat_eq, Bool, true, false, ◌&&◌, Option, Some, None, refl, sym, ap, subst, ◌∙◌, arith, add-one}
use Rattle.std.specs.List.{AllByRecursion, list_all}
use Rattle.zio_blkptr.specs.declared.pointer.Bp.{Bp}
use Rattle.zio_children.specs.RequestKids.{AreHanded, FitKids, FitsState, IsDue, IsOutWith, KidsFields, RiseFrom, due_kids, has_ended, has_told, how_many, is_ended, is_told, numbers_of, state_at, state_set}
use Rattle.zio_frames.specs.Slots.{IsOut, Slot}
use Rattle.zio_children.specs.declared.kids.Kid.{Kid}
use Rattle.zio_children.specs.declared.kids.KidState.{KidState}
use Rattle.zio_children.specs.declared.kids.KidState.TheVariants.{Due, Out, Told, Ended}
use Rattle.zio_frames.proofs.SlotMoves.{IsOutAt}

-- ---- states

pub state_within : (kids : List Kid) (n : ℕ) (old : KidState) → state_at kids n ≡ Some old → n < length kids
state_within [] n old e = absurd (cc)
state_within (k ∷ kids) zero old e = omega arith
state_within (k ∷ kids) (suc n) old e = let h : n < length kids = state_within kids n old e in omega arith

-- the nth as it is written
pub state_written : (kids : List Kid) (n : ℕ) (d : Kid) (state : KidState) → n < length kids → set kids n (record { number = (get_or kids n d).number; state = state }) ≡ state_set kids n state
state_written [] n d state h = absurd (omega arith)
state_written (k ∷ kids) zero d state h = refl
state_written (k ∷ kids) (suc n) d state h = ap (λ ks. k ∷ ks) (state_written kids n d state (omega arith))

pub numbers_set : (kids : List Kid) (n : ℕ) (state : KidState) → numbers_of (state_set kids n state) ≡ numbers_of kids
numbers_set [] n state = refl
numbers_set (k ∷ kids) zero state = refl
numbers_set (k ∷ kids) (suc n) state = ap (λ ns. k.number ∷ ns) (numbers_set kids n state)

-- with an outside pointer, the one that is out is out
out_is : (pointer : Option Bp) (o : Option KidState) → IsOutWith pointer o → (old : KidState) × (o ≡ Some old) × (old ≢ Due) × (has_ended old ≡ false)
out_is pointer None h = absurd h
out_is pointer (Some Due) h = absurd h
out_is pointer (Some Out) h = (Out, refl, λ e. cc, refl)
out_is pointer (Some (Told told)) h = (Told told, refl, λ e. cc, refl)
out_is pointer (Some (Ended bits error other)) h = absurd h

pub out_state : (pointer : Option Bp) (kids : List Kid) (n : ℕ) → IsOutWith pointer (state_at kids n) → (old : KidState) × (state_at kids n ≡ Some old) × (old ≢ Due) × (has_ended old ≡ false)
out_state pointer kids n h = out_is pointer (state_at kids n) h

-- ---- who was handed out

due_at : (kids : List Kid) (n : ℕ) (old : KidState) → AllByRecursion IsDue kids → state_at kids n ≡ Some old → old ≡ Due
due_at [] n old d e = absurd (cc)
due_at (k ∷ kids) zero old d e = let is : k.state ≡ old = cc in sym is ∙ d.0
due_at (k ∷ kids) (suc n) old d e = due_at kids n old d.1 e

pub handed_more : (h : ℕ) (kids : List Kid) → AreHanded h kids → h < length kids → AreHanded (suc h) (state_set kids h Out)
handed_more zero [] a l = absurd (omega arith)
handed_more zero (k ∷ kids) a l = (λ e. cc, a.1)
handed_more (suc h) [] a l = absurd a
handed_more (suc h) (k ∷ kids) a l = (a.0, handed_more h kids a.1 (omega arith))

pub handed_set : (h : ℕ) (kids : List Kid) (n : ℕ) (old new : KidState) → AreHanded h kids → state_at kids n ≡ Some old → old ≢ Due → new ≢ Due → AreHanded h (state_set kids n new)
handed_set zero kids n old new a e o w = absurd (o (due_at kids n old a e))
handed_set (suc h) [] n old new a e o w = absurd a
handed_set (suc h) (k ∷ kids) zero old new a e o w = (w, a.1)
handed_set (suc h) (k ∷ kids) (suc n) old new a e o w = (a.0, handed_set h kids n old new a.1 e o w)

due_at_next : (h : ℕ) (kids : List Kid) → AreHanded h kids → h < length kids → state_at kids h ≡ Some Due
due_at_next zero [] a l = absurd (omega arith)
due_at_next zero (k ∷ kids) a l = ap (λ s. Some s) a.0
due_at_next (suc h) [] a l = absurd a
due_at_next (suc h) (k ∷ kids) a l = due_at_next h kids a.1 (omega arith)

pub handed_most : (h : ℕ) (kids : List Kid) → AreHanded h kids → h ≤ length kids
handed_most zero kids a = omega arith
handed_most (suc h) [] a = absurd a
handed_most (suc h) (k ∷ kids) a = let l : h ≤ length kids = handed_most h kids a.1 in omega arith

-- ---- the operations for them

pub fit_length : (h : ℕ) (kids : List Kid) (slots : List Slot) → AreHanded h kids → FitKids kids slots → length slots ≡ h
fit_length zero [] [] a f = refl
fit_length zero [] (s ∷ slots) a f = absurd f
fit_length zero (k ∷ kids) [] a f = refl
fit_length zero (k ∷ kids) (s ∷ slots) a f = absurd (subst (λ state. FitsState k.number state s) a.0 f.0)
fit_length (suc h) [] slots a f = absurd a
fit_length (suc h) (k ∷ kids) [] a f = absurd (a.0 f.0)
fit_length (suc h) (k ∷ kids) (s ∷ slots) a f = ap suc (fit_length h kids slots a.1 f.1)

pub fit_fresh : (numbers : List ℕ) → FitKids (due_kids numbers) []
fit_fresh [] = tt
fit_fresh (n ∷ numbers) = (refl, fit_fresh numbers)

pub fit_handed : (h : ℕ) (kids : List Kid) (slots : List Slot) → AreHanded h kids → h < length kids → FitKids kids slots → FitKids (state_set kids h Out) (slots ++ IsOut None ∷ [])
fit_handed zero [] slots a l f = absurd (omega arith)
fit_handed zero (k ∷ kids) [] a l f = (refl, f.1)
fit_handed zero (k ∷ kids) (s ∷ slots) a l f = absurd (subst (λ state. FitsState k.number state s) a.0 f.0)
fit_handed (suc h) [] slots a l f = absurd a
fit_handed (suc h) (k ∷ kids) [] a l f = absurd (a.0 f.0)
fit_handed (suc h) (k ∷ kids) (s ∷ slots) a l f = (f.0, fit_handed h kids slots a.1 (omega arith) f.1)

none_at : (kids : List Kid) (n : ℕ) (old : KidState) → FitKids kids [] → state_at kids n ≡ Some old → old ≡ Due
none_at [] n old f e = absurd (cc)
none_at (k ∷ kids) zero old f e = let is : k.state ≡ old = cc in sym is ∙ f.0
none_at (k ∷ kids) (suc n) old f e = none_at kids n old f.1 e

pub fit_set : (kids : List Kid) (n : ℕ) (slots : List Slot) (old new : KidState) (slot : Slot) → state_at kids n ≡ Some old → old ≢ Due
    → ((number : ℕ) → slice_get (numbers_of kids) n ≡ Some number → FitsState number new slot) → FitKids kids slots → FitKids (state_set kids n new) (set slots n slot)
fit_set [] n slots old new slot e o g f = absurd (cc)
fit_set (k ∷ kids) n [] old new slot e o g f = absurd (o (none_at (k ∷ kids) n old f e))
fit_set (k ∷ kids) zero (s ∷ slots) old new slot e o g f = (g k.number refl, f.1)
fit_set (k ∷ kids) (suc n) (s ∷ slots) old new slot e o g f = (f.0, fit_set kids n slots old new slot e o g f.1)

out_slot : (pointer : Option Bp) (number : ℕ) (state : KidState) (slot : Slot) (slots : List Slot) → IsOutWith pointer (Some state) → FitsState number state slot → IsOutAt zero (slot ∷ slots)
out_slot pointer number Due slot slots h f = absurd h
out_slot pointer number Out slot slots h f = subst (λ s. IsOutAt zero (s ∷ slots)) (sym f) tt
out_slot pointer number (Told told) slot slots h f = subst (λ s. IsOutAt zero (s ∷ slots)) (sym f) tt
out_slot pointer number (Ended bits error other) slot slots h f = absurd h

pub out_at : (pointer : Option Bp) (kids : List Kid) (n : ℕ) (slots : List Slot) → IsOutWith pointer (state_at kids n) → FitKids kids slots → IsOutAt n slots
out_at pointer [] n slots h f = absurd h
out_at pointer (k ∷ kids) zero [] h f = absurd (subst (λ state. IsOutWith pointer (Some state)) f.0 h)
out_at pointer (k ∷ kids) zero (s ∷ slots) h f = out_slot pointer k.number k.state s slots h f.0
out_at pointer (k ∷ kids) (suc n) [] h f = absurd (out_at pointer kids n [] h f.1)
out_at pointer (k ∷ kids) (suc n) (s ∷ slots) h f = out_at pointer kids n slots h f.1

-- ---- counts

ones : (a b : Bool) (c : ℕ) → (cond a 1 0 + c) + cond b 1 0 ≡ (cond b 1 0 + c) + cond a 1 0
ones a b c = omega arith

pub count_set : (p : KidState → Bool) (kids : List Kid) (n : ℕ) (old new : KidState) → state_at kids n ≡ Some old
    → how_many p (state_set kids n new) + cond (p old) 1 0 ≡ how_many p kids + cond (p new) 1 0
count_set p [] n old new e = absurd (cc)
count_set p (k ∷ kids) zero old new e =
    let is : k.state ≡ old = cc in
    ones (p new) (p old) (how_many p kids) ∙ ap (λ s. (cond (p s) 1 0 + how_many p kids) + cond (p new) 1 0) (sym is)
count_set p (k ∷ kids) (suc n) old new e =
    let h : how_many p (state_set kids n new) + cond (p old) 1 0 ≡ how_many p kids + cond (p new) 1 0 = count_set p kids n old new e in
    omega arith

none_due : (p : KidState → Bool) (numbers : List ℕ) → p Due ≡ false → how_many p (due_kids numbers) ≡ 0
none_due p [] e = refl
none_due p (n ∷ numbers) e =
    let h : how_many p (due_kids numbers) ≡ 0 = none_due p numbers e in
    let one : cond (p Due) 1 0 + how_many p (due_kids numbers) ≡ 0 + how_many p (due_kids numbers) = ap (λ b. cond b 1 0 + how_many p (due_kids numbers)) e in
    omega arith

all_due : (numbers : List ℕ) → AllByRecursion IsDue (due_kids numbers)
all_due [] = tt
all_due (n ∷ numbers) = (refl, all_due numbers)

due_numbers : (numbers : List ℕ) → numbers_of (due_kids numbers) ≡ numbers
due_numbers [] = refl
due_numbers (n ∷ numbers) = ap (λ ns. n ∷ ns) (due_numbers numbers)

pub fresh_fields : (numbers : List ℕ) → RiseFrom 0 numbers → KidsFields (due_kids numbers) 0 0 0
fresh_fields numbers r = record {
  are_handed = all_due numbers;
  count_told = sym (none_due has_told numbers refl);
  count_ended = sym (none_due has_ended numbers refl);
  rising = subst (RiseFrom 0) (sym (due_numbers numbers)) r;
}

pub handed_fields : (kids : List Kid) (h told ended : ℕ) → KidsFields kids h told ended → h < length kids → KidsFields (state_set kids h Out) (h + 1) told ended
handed_fields kids h told ended is l =
    let due = due_at_next h kids is.are_handed l in
    let t : how_many has_told (state_set kids h Out) + 0 ≡ how_many has_told kids + 0 = count_set has_told kids h Due Out due in
    let e : how_many has_ended (state_set kids h Out) + 0 ≡ how_many has_ended kids + 0 = count_set has_ended kids h Due Out due in
    record {
      are_handed = subst (λ n. AreHanded n (state_set kids h Out)) (sym (add-one h)) (handed_more h kids is.are_handed l);
      count_told = omega (arith, is.count_told);
      count_ended = omega (arith, is.count_ended);
      rising = subst (RiseFrom 0) (sym (numbers_set kids h Out)) is.rising;
    }

pub told_fields : (kids : List Kid) (h told ended n : ℕ) (pointer : Option Bp) → KidsFields kids h told ended → state_at kids n ≡ Some Out → KidsFields (state_set kids n (Told pointer)) h (told + 1) ended
told_fields kids h told ended n pointer is out =
    let t : how_many has_told (state_set kids n (Told pointer)) + 0 ≡ how_many has_told kids + 1 = count_set has_told kids n Out (Told pointer) out in
    let e : how_many has_ended (state_set kids n (Told pointer)) + 0 ≡ how_many has_ended kids + 0 = count_set has_ended kids n Out (Told pointer) out in
    record {
      are_handed = handed_set h kids n Out (Told pointer) is.are_handed out (λ q. cc) (λ q. cc);
      count_told = omega (arith, is.count_told);
      count_ended = omega (arith, is.count_ended);
      rising = subst (RiseFrom 0) (sym (numbers_set kids n (Told pointer))) is.rising;
    }

-- what a child adds to those that told
pub told_sum : (b : Bool) (x y : ℕ) → x + cond b 1 0 ≡ y + 1 → x ≡ y + cond b 0 1
told_sum true x y e = omega arith
told_sum false x y e = omega arith

pub ended_fields : (kids : List Kid) (h told ended n : ℕ) (pointer : Option Bp) (old new : KidState) → KidsFields kids h told ended → state_at kids n ≡ Some old → old ≢ Due → new ≢ Due
    → has_ended old ≡ false → has_told new ≡ true → has_ended new ≡ true → KidsFields (state_set kids n new) h (told + cond (has_told old) 0 1) (ended + 1)
ended_fields kids h told ended n pointer old new is at o w before t e =
    let ts : how_many has_told (state_set kids n new) + cond (has_told old) 1 0 ≡ how_many has_told kids + 1 =
    count_set has_told kids n old new at ∙ ap (λ b. how_many has_told kids + cond b 1 0) t in
    let es : how_many has_ended (state_set kids n new) + 0 ≡ how_many has_ended kids + 1 =
    ap (λ b. how_many has_ended (state_set kids n new) + cond b 1 0) (sym before) ∙ count_set has_ended kids n old new at ∙ ap (λ b. how_many has_ended kids + cond b 1 0) e in
    record {
      are_handed = handed_set h kids n old new is.are_handed at o w;
      count_told = ap (λ k. k + cond (has_told old) 0 1) is.count_told ∙ sym (told_sum (has_told old) (how_many has_told (state_set kids n new)) (how_many has_told kids) ts);
      count_ended = omega (arith, is.count_ended);
      rising = subst (RiseFrom 0) (sym (numbers_set kids n new)) is.rising;
    }

-- ---- all of them

counted_if : (b : Bool) (c l : ℕ) (all : Bool) → c ≤ l → nat_eq c l ≡ all → nat_eq (cond b 1 0 + c) (suc l) ≡ (b && all)
counted_if true c l all m e = one_more c l ∙ e
  where
    one_more : (c l : ℕ) → nat_eq (1 + c) (suc l) ≡ nat_eq c l
    one_more c l = search arith
counted_if false c l all m e = search (arith, m)

many_most : (p : KidState → Bool) (kids : List Kid) → how_many p kids ≤ length kids
many_most p [] = omega arith
many_most p (k ∷ kids) = let h : how_many p kids ≤ length kids = many_most p kids in one_most (p k.state) (how_many p kids) (length kids) h
  where
    one_most : (b : Bool) (c l : ℕ) → c ≤ l → cond b 1 0 + c ≤ suc l
    one_most true c l m = omega arith
    one_most false c l m = omega arith

all_counted : (p : KidState → Bool) (kids : List Kid) → nat_eq (how_many p kids) (length kids) ≡ list_all (λ (k : Kid). p k.state) kids
all_counted p [] = refl
all_counted p (k ∷ kids) = counted_if (p k.state) (how_many p kids) (length kids) (list_all (λ (x : Kid). p x.state) kids) (many_most p kids) (all_counted p kids)

pub all_told : (kids : List Kid) (h told ended count : ℕ) → KidsFields kids h told ended → count ≡ length kids → nat_eq told count ≡ list_all is_told kids
all_told kids h told ended count is c = (λ i. nat_eq (is.count_told i) (c i)) ∙ all_counted has_told kids

pub all_ended : (kids : List Kid) (h told ended count : ℕ) → KidsFields kids h told ended → count ≡ length kids → nat_eq ended count ≡ list_all is_ended kids
all_ended kids h told ended count is c = (λ i. nat_eq (is.count_ended i) (c i)) ∙ all_counted has_ended kids

-- ---- as it is read and written

pub written : (kids : List Kid) (n : ℕ) (k d : Kid) (state : KidState) → k ≡ get_or kids n d → n < length kids → set kids n (record { number = k.number; state = state }) ≡ state_set kids n state
written kids n k d state e h = ap (λ (x : Kid). set kids n (record { number = x.number; state = state })) e ∙ state_written kids n d state h

state_read : (kids : List Kid) (n : ℕ) (d : Kid) (old : KidState) → state_at kids n ≡ Some old → (get_or kids n d).state ≡ old
state_read [] n d old e = absurd (cc)
state_read (k ∷ kids) zero d old e = cc
state_read (k ∷ kids) (suc n) d old e = state_read kids n d old e

pub untold_is : (kids : List Kid) (n : ℕ) (k d : Kid) (old : KidState) (more : ℕ) → more ≡ cond (has_told k.state) 0 1 → k ≡ get_or kids n d → state_at kids n ≡ Some old → more ≡ cond (has_told old) 0 1
untold_is kids n k d old more m e at = m ∙ ap (λ (x : Kid). cond (has_told x.state) 0 1) e ∙ ap (λ s. cond (has_told s) 0 1) (state_read kids n d old at)

pub heard_here : (kids : List Kid) (n m o : ℕ) → slice_get (numbers_of kids) n ≡ Some m → slice_get (numbers_of kids) n ≡ Some o → m ≡ o
heard_here kids n m o a b = let same : Some m ≡ Some o = sym a ∙ b in cc

-- ---- how many

length_state : (kids : List Kid) (n : ℕ) (state : KidState) → length (state_set kids n state) ≡ length kids
length_state [] n state = refl
length_state (k ∷ kids) zero state = refl
length_state (k ∷ kids) (suc n) state = ap suc (length_state kids n state)

-- not all told, or ended, where one hasn't
less_if : (a : Bool) (c d l : ℕ) → a ≡ false → c + cond a 1 0 ≡ d + 1 → c ≤ l → d < l
less_if true c d l e h m = absurd (cc)
less_if false c d l e h m = omega arith

many_less : (p : KidState → Bool) (kids : List Kid) (n : ℕ) (old new : KidState) → state_at kids n ≡ Some old → p old ≡ false → p new ≡ true → how_many p kids < length kids
many_less p kids n old new at o w =
    let most : how_many p (state_set kids n new) ≤ length (state_set kids n new) = many_most p (state_set kids n new) in
    let same : length (state_set kids n new) ≡ length kids = length_state kids n new in
    less_if (p old) (how_many p (state_set kids n new)) (how_many p kids) (length kids) o
    (count_set p kids n old new at ∙ ap (λ b. how_many p kids + cond b 1 0) w) (omega arith)

pub told_less : (kids : List Kid) (h told ended n : ℕ) → KidsFields kids h told ended → state_at kids n ≡ Some Out → told < length kids
told_less kids h told ended n is at =
    let less : how_many has_told kids < length kids = many_less has_told kids n Out (Told None) at refl refl in omega (arith, is.count_told)

pub ended_less : (kids : List Kid) (h told ended n : ℕ) (old : KidState) → KidsFields kids h told ended → state_at kids n ≡ Some old → has_ended old ≡ false → ended < length kids
ended_less kids h told ended n old is at o =
    let less : how_many has_ended kids < length kids = many_less has_ended kids n old (Ended (record { now = false; suspend = false }) None None) at o refl in omega (arith, is.count_ended)

-- one more told, if it hadn't
pub told_most : (kids : List Kid) (h told ended n more : ℕ) (old : KidState) → KidsFields kids h told ended → state_at kids n ≡ Some old → more ≡ cond (has_told old) 0 1 → told + more ≤ length kids
told_most kids h told ended n more old is at m = by_told (has_told old) refl
  where
    by_told : (b : Bool) → has_told old ≡ b → told + more ≤ length kids
    by_told true e =
        let none : more ≡ 0 = m ∙ ap (λ a. cond a 0 1) e in
        let most : how_many has_told kids ≤ length kids = many_most has_told kids in omega (arith, is.count_told)
    by_told false e =
        let one : more ≡ 1 = m ∙ ap (λ a. cond a 0 1) e in
        let less : how_many has_told kids < length kids = many_less has_told kids n old (Told None) at e refl in omega (arith, is.count_told)
