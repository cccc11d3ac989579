-- The members of a part that is written, as an array whose front is used, and what stays true where one tells or ends.
use Rattle.std.proofs.Common.{◌≡◌, ℕ, zero, suc, ◌+◌, ◌-◌, ◌<◌, List, [], ◌∷◌, ◌++◌, length, map, set, take, slice_get, replicate, true, Option, Some, None, IfSome, IsTrue, refl, sym, ap, subst, ◌∙◌, arith, append_assoc, append-nil, length-append, length-set}
use Rattle.std.specs.List.{AllByRecursion, flat_map, list_all}
use Rattle.std.proofs.Math.Seq.{take-append_seam}
use Rattle.std.proofs.lemmas.Bool.{and_from, and_parts}
use Rattle.std.proofs.lemmas.List.{length-map, map-append}
use Rattle.zio_types.specs.declared.place.Place.{Place}
use Rattle.zio_types.specs.Filled.{IsFilled, filled_to, length-take-filled}
use Rattle.zio_blkptr.specs.declared.pointer.Bp.{Bp}
use Rattle.zio_blkptr.specs.Pointers.{valid}
use Rattle.zio_parts.specs.Parts.{PartWriting, IsOutWith, heads_in, is_told, pointer_in}
use Rattle.zio_parts.specs.PartWrites.{IsGang, IsPartWriting, IsPlacedWell, IsSpelled, with_members}
use Rattle.zio_parts.specs.declared.members.Member.{Member}
use Rattle.zio_parts.specs.declared.members.Member.TheVariants.{Out as MemberOut, Told, Ended as MemberEnded}
use Rattle.zio_parts.specs.declared.parts.Placing.{Placing}
use Rattle.zio_parts.specs.declared.parts.Placing.TheVariants.{Body, Head as HeadDue, Whole, Gang, Nowhere}
use Rattle.zio_parts.proofs.AnsweredLemmas.{take_set_in}
use Rattle.zio_parts.proofs.PartLemmas.{out_none}

-- ---- arrays

set_front : {X : Type 0} (xs ys : List X) (n : ℕ) (x : X) → n < length xs → set (xs ++ ys) n x ≡ set xs n x ++ ys
set_front [] ys n x h = absurd (omega arith)
set_front (z ∷ xs) ys zero x h = refl
set_front (z ∷ xs) ys (suc n) x h = ap (λ zs. z ∷ zs) (set_front xs ys n x (omega arith))

pub filled_set : {X : Type 0} (f : X) (len used : ℕ) (items : List X) (n : ℕ) (x : X) → IsFilled f len used items → n < used → IsFilled f len used (set items n x)
filled_set f len used items n x h less =
    let taken : length (take used items) ≡ used = length-take-filled f len used items h in
    let front : take used (set items n x) ≡ set (take used items) n x = take_set_in used items n x in
    let same : length (take used (set items n x)) ≡ length (take used items) = ap length front ∙ length-set (take used items) n x in
    record {
      fits = h.fits;
      rest = ap (λ xs. set xs n x) h.rest
          ∙ set_front (take used items) (replicate (len - length (take used items)) f) n x (omega arith)
          ∙ ap (λ xs. xs ++ replicate (len - length (take used items)) f) (sym front)
          ∙ ap (λ k. take used (set items n x) ++ replicate (len - k) f) (sym same);
    }

-- one more of the array is used
pub record IsMore {X : Type 0} (f : X) (len used : ℕ) (items : List X) : Type 0 where
  pub filled : IsFilled f len (used + 1) items
  pub front : take (used + 1) items ≡ take used items ++ f ∷ []

some_left : {X : Type 0} (f : X) (n k : ℕ) → n ≡ suc k → replicate n f ≡ f ∷ replicate k f
some_left f n k e = ap (λ m. replicate m f) e

pub filled_next : {X : Type 0} (f : X) (len used : ℕ) (items : List X) → IsFilled f len used items → used < len → IsMore f len used items
filled_next {X} f len used items h less =
    let xs : List X = take used items in
    let taken : length xs ≡ used = length-take-filled f len used items h in
    let longer : length (xs ++ f ∷ []) ≡ used + 1 = omega (arith, length-append xs (f ∷ [])) in
    let all : items ≡ (xs ++ f ∷ []) ++ replicate (len - length xs - 1) f =
    h.rest ∙ ap (λ ys. xs ++ ys) (some_left f (len - length xs) (len - length xs - 1) (omega arith)) ∙ sym (append_assoc xs (f ∷ []) (replicate (len - length xs - 1) f)) in
    let front : take (used + 1) items ≡ xs ++ f ∷ [] =
    ap (λ n. take n items) (sym longer) ∙ ap (take (length (xs ++ f ∷ []))) all ∙ take-append_seam (xs ++ f ∷ []) (replicate (len - length xs - 1) f) in
    let count : len - length xs - 1 ≡ len - length (take (used + 1) items) = let k : length (take (used + 1) items) ≡ used + 1 = ap length front ∙ longer in omega arith in
    record {
      filled = record {
        fits = omega arith;
        rest = all ∙ ap (λ ys. ys ++ replicate (len - length xs - 1) f) (sym front) ∙ ap (λ k. take (used + 1) items ++ replicate k f) count;
      };
      front = front;
    }

-- what is behind the used ones adds nothing
nothing_more : (n : ℕ) → flat_map heads_in (replicate n MemberOut) ≡ []
nothing_more zero = refl
nothing_more (suc n) = nothing_more n

-- ---- what stays true

all_set : {X : Type 0} (P : X → Type 0) (xs : List X) (n : ℕ) (x : X) → AllByRecursion P xs → P x → AllByRecursion P (set xs n x)
all_set P [] n x h p = tt
all_set P (y ∷ xs) zero x h p = (p, h.1)
all_set P (y ∷ xs) (suc n) x h p = (h.0, all_set P xs n x h.1 p)

told_set : (ms : List Member) (n : ℕ) (m : Member) → is_told m ≡ true → list_all is_told ms ≡ true → list_all is_told (set ms n m) ≡ true
told_set [] n m t h = h
told_set (x ∷ ms) zero m t h = and_from (is_told m) (list_all is_told ms) t (and_parts (is_told x) (list_all is_told ms) h).1
told_set (x ∷ ms) (suc n) m t h =
    let parts = and_parts (is_told x) (list_all is_told ms) h in
    and_from (is_told x) (list_all is_told (set ms n m)) parts.0 (told_set ms n m t parts.1)

gang_set : (x : PartWriting) (places : List Place) (n : ℕ) (m : Member) → is_told m ≡ true → IsGang x places → IsGang (with_members x (set x.members n m)) places
gang_set x places n m t is = record {
  large = is.large;
  spelled = is.spelled;
  few = let k : length (set x.members n m) ≡ length x.members = length-set x.members n m in let f = is.few in omega arith;
  headed = λ e. (length-set x.members n m ∙ (is.headed e).0, told_set x.members n m t (is.headed e).1);
}

placed_set : (p : Placing) (x : PartWriting) (n : ℕ) (pointer : Option Bp) (m : Member) → IsOutWith pointer (slice_get x.members n) → is_told m ≡ true → IsPlacedWell p x → IsPlacedWell p (with_members x (set x.members n m))
placed_set Body x n pointer m out t is = absurd (out_none x.members n pointer is.members out)
placed_set HeadDue x n pointer m out t is = absurd (out_none x.members n pointer is.1.members out)
placed_set (Whole places) x n pointer m out t is = absurd (out_none x.members n pointer is.0 out)
placed_set (Gang places) x n pointer m out t is = gang_set x places n m t is
placed_set Nowhere x n pointer m out t is = absurd (out_none x.members n pointer is.members out)

-- one that was out told, or ended
pub member_is : (x : PartWriting) (n : ℕ) (pointer : Option Bp) (m : Member) → IsPartWriting x → IsOutWith pointer (slice_get x.members n) → is_told m ≡ true → IsSpelled m → IsPartWriting (with_members x (set x.members n m))
member_is x n pointer m is out t spelled = record {
  some = is.some;
  whole = is.whole;
  most = is.most;
  deep = is.deep;
  one = is.one;
  three = is.three;
  born = is.born;
  placed = placed_set x.placing x n pointer m out t is.placed;
  spelled = all_set IsSpelled x.members n m is.spelled spelled;
}

-- the pointer that a member has which was out: it told it, or it is this one
pub spelled_there : (ms : List Member) (n : ℕ) (pointer : Option Bp) → AllByRecursion IsSpelled ms → IsOutWith pointer (slice_get ms n)
    → (slice_get ms n ≡ Some MemberOut → IfSome pointer (λ bp. IsTrue (valid bp))) → IfSome pointer (λ bp. IsTrue (valid bp))
spelled_there [] n pointer h out new = absurd out
spelled_there (MemberOut ∷ ms) zero pointer h out new = new refl
spelled_there (Told told ∷ ms) zero pointer h out new = subst (λ (p : Option Bp). IfSome p (λ bp. IsTrue (valid bp))) out h.0
spelled_there (MemberEnded error old heads ∷ ms) zero pointer h out new = absurd out
spelled_there (m ∷ ms) (suc n) pointer h out new = spelled_there ms n pointer h.1 out new

-- ---- all three of the array

all_append : {X : Type 0} (P : X → Type 0) (xs ys : List X) → AllByRecursion P xs → AllByRecursion P ys → AllByRecursion P (xs ++ ys)
all_append P [] ys h k = k
all_append P (x ∷ xs) ys h k = (h.0, all_append P xs ys h.1 k)

spelled_out : (n : ℕ) → AllByRecursion IsSpelled (replicate n MemberOut)
spelled_out zero = tt
spelled_out (suc n) = (tt, spelled_out n)

spelled_map : (ms : List Member) → AllByRecursion IsSpelled ms → AllByRecursion (λ (m : Option Bp). IfSome m (λ bp. IsTrue (valid bp))) (map pointer_in ms)
spelled_map [] h = tt
spelled_map (m ∷ ms) h = (h.0, spelled_map ms h.1)

-- the pointers of all three are spelled
pub spelled_pointers : (used : ℕ) (members : List Member) → IsFilled MemberOut 3 used members → AllByRecursion IsSpelled (take used members) → AllByRecursion (λ (m : Option Bp). IfSome m (λ bp. IsTrue (valid bp))) (map pointer_in members)
spelled_pointers used members filled spelled =
    spelled_map members (subst (AllByRecursion IsSpelled) (sym filled.rest)
    (all_append IsSpelled (take used members) (replicate (3 - length (take used members)) MemberOut) spelled (spelled_out (3 - length (take used members)))))

pointers_out : (n : ℕ) → map pointer_in (replicate n MemberOut) ≡ replicate n None
pointers_out zero = refl
pointers_out (suc n) = ap (λ ps. None ∷ ps) (pointers_out n)

pub filled_pointers : (used : ℕ) (members : List Member) → IsFilled MemberOut 3 used members → map pointer_in members ≡ filled_to None 3 (map pointer_in (take used members))
filled_pointers used members filled =
    let ms : List Member = take used members in
    ap (map pointer_in) filled.rest
    ∙ map-append pointer_in ms (replicate (3 - length ms) MemberOut)
    ∙ ap (λ ps. map pointer_in ms ++ ps) (pointers_out (3 - length ms))
    ∙ ap (λ n. map pointer_in ms ++ replicate (3 - n) None) (sym (length-map ms pointer_in))

flat_append : (xs ys : List Member) → flat_map heads_in (xs ++ ys) ≡ flat_map heads_in xs ++ flat_map heads_in ys
flat_append [] ys = refl
flat_append (x ∷ xs) ys = ap (λ hs. heads_in x ++ hs) (flat_append xs ys) ∙ sym (append_assoc (heads_in x) (flat_map heads_in xs) (flat_map heads_in ys))

pub filled_heads : (used : ℕ) (members : List Member) → IsFilled MemberOut 3 used members → flat_map heads_in members ≡ flat_map heads_in (take used members)
filled_heads used members filled =
    let ms : List Member = take used members in
    ap (flat_map heads_in) filled.rest
    ∙ flat_append ms (replicate (3 - length ms) MemberOut)
    ∙ ap (λ hs. flat_map heads_in ms ++ hs) (nothing_more (3 - length ms))
    ∙ append-nil (flat_map heads_in ms)
