-- The order of spots.
use Rattle.std.proofs.Common.{◌≡◌, ℕ, Bool, true, false, ◌&&◌, refl, sym, ap, ◌∙◌, arith, ◌==◌}
use Rattle.std.specs.Cmp.{IsTotalOrder}
use Rattle.std.specs.BTreeMap.{is_at}
use Rattle.std.specs.Ordering.{nat_cmp, ordering_then, is_eq}
use Rattle.std.specs.declared.cmp.Ordering.{Ordering}
use Rattle.std.specs.declared.cmp.Ordering.TheVariants.{Less, Equal, Greater}
use Rattle.std.proofs.lemmas.Cmp.{nat_cmp_total, on_total, then_total}
use Rattle.std.proofs.lemmas.Map.Lookups.{CmpEqualImpliesEq, exact_unsigned}
use Rattle.zio_vqueue.specs.declared.spots.Spot.{Spot}
use Rattle.zio_vqueue.specs.Spots.{is_spot, spot_cmp}

pub spot_total : IsTotalOrder spot_cmp
spot_total = then_total (on_total (λ (s : Spot). s.shelf) nat_cmp_total) (then_total (on_total (λ (s : Spot). s.rank) nat_cmp_total) (on_total (λ (s : Spot). s.time) nat_cmp_total))

is_eq-then : (x y : Ordering) → is_eq (ordering_then x y) ≡ is_eq x && is_eq y
is_eq-then Less y = refl
is_eq-then Equal y = refl
is_eq-then Greater y = refl

is_eq-nat_cmp : (a b : ℕ) → is_eq (nat_cmp a b) ≡ (a == b)
is_eq-nat_cmp a b = grind arith

pub is_at-spot : (a b : Spot) → is_at (spot_cmp a) b ≡ is_spot a b
is_at-spot a b =
    is_eq-then (nat_cmp a.shelf b.shelf) (ordering_then (nat_cmp a.rank b.rank) (nat_cmp a.time b.time))
    ∙ rw (is_eq-then (nat_cmp a.rank b.rank) (nat_cmp a.time b.time), is_eq-nat_cmp a.shelf b.shelf, is_eq-nat_cmp a.rank b.rank, is_eq-nat_cmp a.time b.time) refl

both : (x y : Bool) → x && y ≡ true → (x ≡ true) × (y ≡ true)
both true y e = (refl, e)
both false y e = grind arith

Equal_is : (x : Ordering) → is_eq x ≡ true → x ≡ Equal
Equal_is Less e = grind arith
Equal_is Equal e = refl
Equal_is Greater e = grind arith

pub spot_exact : CmpEqualImpliesEq spot_cmp
spot_exact x y e =
    let s : is_eq (nat_cmp x.shelf y.shelf) && (is_eq (ordering_then (nat_cmp x.rank y.rank) (nat_cmp x.time y.time))) ≡ true =
    sym (is_eq-then (nat_cmp x.shelf y.shelf) (ordering_then (nat_cmp x.rank y.rank) (nat_cmp x.time y.time))) ∙ ap is_eq e in
    let t = both _ _ s in
    let u = both _ _ (sym (is_eq-then (nat_cmp x.rank y.rank) (nat_cmp x.time y.time)) ∙ t.1) in
    let shelf : x.shelf ≡ y.shelf = exact_unsigned _ _ (Equal_is _ t.0) in
    let rank : x.rank ≡ y.rank = exact_unsigned _ _ (Equal_is _ u.0) in
    let time : x.time ≡ y.time = exact_unsigned _ _ (Equal_is _ u.1) in
    λ i. record { shelf = shelf i; rank = rank i; time = time i }
