-- What the fields of a read under way show.
use Rattle.std.proofs.Common.{◌≡◌, ℕ, ◌+◌, ◌<◌, ◌≤◌, List, [], ◌∷◌, ◌++◌, length, set, get_or, take, slice_get, Bool, true, false, Option, Some, None, refl, sym, ap, ◌∙◌, arith, length-take}
use Rattle.std.specs.Option.{IsSome, is_some}
use Rattle.std.proofs.lemmas.List.{take_more, take_more_set}
use Rattle.zio_types.specs.declared.error.Errno.{Errno}
use Rattle.zio_types.specs.declared.place.Place.{Place}
use Rattle.zio_types.specs.declared.place.Top.{Top}
use Rattle.zio_mirror.specs.Plans.{Tries, children, place_of}
use Rattle.zio_parts.specs.CopyReads.{Reading, fresh_read, handed_with, order_at, repairs_from}
use Rattle.zio_parts.proofs.AnsweredLemmas.{take_set_in, within_get}
use Rattle.zio_parts.proofs.ReadLemmas.{leaf_failed, place_failed}

-- ---- a choice

pub there : {X : Type 0} (o : Option X) → is_some o ≡ true → (x : X) × (o ≡ Some x)
there None e = absurd (cc)
there (Some x) e = (x, refl)

pub nothing : {X : Type 0} (o : Option X) → is_some o ≡ false → o ≡ None
nothing None e = refl
nothing (Some x) e = absurd (cc)

pub quiet : (b : Bool) (P : Type 0) (m n : ℕ) → (b ≡ true → P × (m < n)) → n ≤ m → b ≡ false
quiet false P m n h l = refl
quiet true P m n h l = let both = h refl in let lt : m < n = both.1 in absurd (omega arith)

-- ---- repairs that were handed out

abbrev pub with_mends : Reading → List Bool → Reading
with_mends x mends = record {
  places = x.places;
  len = x.len;
  repair = x.repair;
  retry = x.retry;
  copies = x.copies;
  leaves = x.leaves;
  is_out = x.is_out;
  good = x.good;
  mends = mends;
}

pub mends_more : (x : Reading) (bytes : List ℕ) (h : ℕ) (mends : List Bool) → h < length mends →
    with_mends x (take (h + 1) (set mends h true)) ≡ handed_with (Some bytes) (with_mends x (take h mends))
mends_more x bytes h mends l = ap (with_mends x) (take_more_set mends h true l)

pub mends_set : (x : Reading) (h n : ℕ) (mends : List Bool) → with_mends x (take h (set mends n false)) ≡ with_mends x (set (take h mends) n false)
mends_set x h n mends = ap (with_mends x) (take_set_in h mends n false)

pub mends_room : (h : ℕ) (mends : List Bool) → length mends ≡ 12 → h ≤ 12 → length (take h mends) < 12 → h < length mends
mends_room h mends e l room = omega (arith, length-take h mends)

pub mends_of_good : (o : Option (List ℕ)) (h n : ℕ) (mends : List Bool) → (o ≡ None → h ≡ 0) → slice_get (take h mends) n ≡ Some true → (bytes : List ℕ) × (o ≡ Some bytes)
mends_of_good (Some bytes) h n mends e is = (bytes, refl)
mends_of_good None h n mends e is =
    let l : n < length (take h mends) = within_get (take h mends) n true is in
    let z : h ≡ 0 = e refl in
    absurd (omega (arith, length-take h mends))

pub repairs_held : (tops : List Top) (places places' : List Place) (answers : List (Option Errno)) (tried : ℕ) (leaves : Tries) (failures : ℕ) (failed : List ℕ) (h : ℕ) (mends : List Bool) →
    places' ≡ places → tried ≡ length answers → failures ≡ length leaves.answers → take failures failed ≡ take failures leaves.order → length mends ≡ 12 → h ≤ 12 →
    slice_get (repairs_from tops places (length answers) (take (length leaves.answers) leaves.order)) (length (take h mends)) ≡ slice_get (repairs_from tops places' tried (take failures failed)) h
repairs_held tops places places' answers tried leaves failures failed h mends ps t f same e l =
    let held : length (take h mends) ≡ h = omega (arith, length-take h mends) in
    ap (λ n. slice_get (repairs_from tops places (length answers) (take (length leaves.answers) leaves.order)) n) held
    ∙ ap (λ n. slice_get (repairs_from tops places (length answers) (take n leaves.order)) h) (sym f)
    ∙ ap (λ fs. slice_get (repairs_from tops places (length answers) fs) h) (sym same)
    ∙ ap (λ n. slice_get (repairs_from tops places n (take failures failed)) h) (sym t)
    ∙ ap (λ qs. slice_get (repairs_from tops qs tried (take failures failed)) h) (sym ps)

-- ---- plans

pub tries_are : (plan : Tries) (order : List ℕ) (answers : List (Option Errno)) → plan.order ≡ order → plan.answers ≡ answers →
    plan ≡ record { order = order; answers = answers }
tries_are plan order answers o a = λ i. record { order = o i; answers = a i }

abbrev with_plans : Reading → Tries → Tries → Reading
with_plans x copies leaves = record {
  places = x.places;
  len = x.len;
  repair = x.repair;
  retry = x.retry;
  copies = copies;
  leaves = leaves;
  is_out = false;
  good = x.good;
  mends = x.mends;
}

pub leaf_is : (x : Reading) (e : Errno) (leaves : Tries) → leaves.order ≡ x.leaves.order → leaves.answers ≡ x.leaves.answers ++ Some e ∷ [] →
    with_plans x x.copies leaves ≡ leaf_failed x e
leaf_is x e leaves o a = ap (with_plans x x.copies) (tries_are leaves x.leaves.order (x.leaves.answers ++ Some e ∷ []) o a)

pub place_is : (x : Reading) (worst : Errno) (copies leaves : Tries) → copies.order ≡ x.copies.order → copies.answers ≡ x.copies.answers ++ Some worst ∷ [] → leaves.answers ≡ [] →
    with_plans x copies leaves ≡ place_failed x worst leaves.order
place_is x worst copies leaves o a none =
    ap (λ c. with_plans x c leaves) (tries_are copies x.copies.order (x.copies.answers ++ Some worst ∷ []) o a)
    ∙ ap (with_plans x (record { order = x.copies.order; answers = x.copies.answers ++ Some worst ∷ [] })) (tries_are leaves leaves.order [] refl none)

abbrev started : List Place → ℕ → Bool → Tries → Tries → Reading
started places len repair copies leaves = record {
  places = places;
  len = len;
  repair = repair;
  retry = false;
  copies = copies;
  leaves = leaves;
  is_out = false;
  good = None;
  mends = [];
}

pub fresh_is : (tops : List Top) (places : List Place) (len : ℕ) (repair : Bool) (copies leaves : Tries) → copies.order ≡ children (length places) → copies.answers ≡ [] →
    leaves.order ≡ order_at tops (place_of places 0) → leaves.answers ≡ [] → started places len repair copies leaves ≡ fresh_read tops places len repair
fresh_is tops places len repair copies leaves co ca lo la =
    ap (λ c. started places len repair c leaves) (tries_are copies (children (length places)) [] co ca)
    ∙ ap (started places len repair (record { order = children (length places); answers = [] })) (tries_are leaves (order_at tops (place_of places 0)) [] lo la)

-- ---- the leaves that failed

pub failed_more : (f : ℕ) (failed order : List ℕ) (child : ℕ) → length failed ≡ 4 → f < length order → length order ≤ 4 → take f failed ≡ take f order → child ≡ get_or order f 0 →
    take (f + 1) (set failed f child) ≡ take (f + 1) order
failed_more f failed order child len l most same is =
    take_more_set failed f child (omega arith)
    ∙ ap (λ xs. xs ++ child ∷ []) same
    ∙ ap (λ c. take f order ++ c ∷ []) is
    ∙ sym (take_more order f 0 l)

-- ---- a good copy

pub no_some : {X : Type 0} (o : Option X) → o ≡ None → IsSome o → ⊥
no_some None e h = absurd (cc)
no_some (Some x) e h = absurd (cc)

abbrev pub good_with : Reading → List ℕ → List Bool → Reading
good_with x bytes mends = record {
  places = x.places;
  len = x.len;
  repair = x.repair;
  retry = x.retry;
  copies = x.copies;
  leaves = x.leaves;
  is_out = false;
  good = Some bytes;
  mends = mends;
}
