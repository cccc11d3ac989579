-- What giving places back leaves of what calls did before.
use Rattle.std.proofs.Common.{◌≡◌, ℕ, ◌<◌, List, [], ◌++◌, max, min, inl, inr, refl, sym, ap, ◌∙◌, subst, arith}
use Rattle.std.specs.Prelude.{true, not, ◌==◌, nat_le, nat_lt, Contains, IsTrue, Option, Some, None, slice_get}
use Rattle.std.specs.List.{AllByRecursion, list_all}
use Rattle.std.proofs.lemmas.Bool.{and_from, and_parts, eq-eqb, false≢true, lt-ltb, ltb-true}
use Rattle.std.proofs.lemmas.List.Elements.{Contains-append_cases, Contains-append_left, Contains-append_right}
use Rattle.zio_types.specs.declared.place.Place.{Place}
use Rattle.zio_types.specs.declared.place.TopSize.{TopSize}
use Rattle.zio_types.specs.Choices.{Choice}
use Rattle.zio_types.specs.Places.{SamePlaces, are_apart, are_open, end_of, is_below, is_free, is_inside, meets}
use Rattle.zio_cksum.proofs.AllLemmas.{all_contained, all_contains, all_weaker}
use Rattle.zio_blocks.specs.Choosers.{AreHeld, AreLeft, EntryLaw, taken_by_all}
use Rattle.zio_cksum.proofs.PlaceSets.{SamePlaces-then, all_pass}
use Rattle.zio_plain.specs.Grounds.{Moves, SeenGround}
use Rattle.zio_plain.specs.Grounds.Moves.{Itself, Moved}
use Rattle.zio_plain.specs.OwnEnds.{Named}

-- ---- a place that has sectors isn't free beside itself

has_some : (p : Place) (o : Option TopSize) → IsTrue (is_below p o) → 0 < p.sectors
has_some p None h = absurd (false≢true h)
has_some p (Some top) h = ltb-true 0 p.sectors (and_parts (nat_lt 0 p.sectors) (nat_le (end_of p) top.sectors) h).0

meets_itself : (p : Place) → 0 < p.sectors → meets p p ≡ true
meets_itself p h =
    and_from (p.top == p.top) (nat_lt (max p.sector p.sector) (min (end_of p) (end_of p))) (eq-eqb p.top p.top refl)
    (lt-ltb (max p.sector p.sector) (min (end_of p) (end_of p)) (omega (arith, h)))

-- so what was free isn't among the places in use
not_among : (sizes : List TopSize) (used : List Place) (p : Place) → IsTrue (is_inside sizes p) → IsTrue (is_free used p) → Contains used p → ⊥
not_among sizes used p inside free there =
    let apart : not (meets p p) ≡ true = all_contains (λ (q : Place). IsTrue (not (meets p q))) used p (all_pass (λ q. not (meets p q)) used free) there in
    false≢true (ap not (sym (meets_itself p (has_some p (slice_get sizes p.top) inside))) ∙ apart)

-- ---- what is live then

live_left : (sizes : List TopSize) (used old taken now new : List Place) → ((p : Place) → Contains old p → Contains used p) → are_open used taken ≡ true → IsTrue (list_all (is_inside sizes) taken)
    → SamePlaces now (taken ++ old) → AreLeft now taken new → SamePlaces new old
live_left sizes used old taken now new among were_open inside live left p =
    let free : AllByRecursion (λ (q : Place). IsTrue (is_free used q)) taken = all_pass (is_free used) taken (and_parts (list_all (is_free used) taken) (are_apart taken) were_open).0 in
    let fresh : Contains taken p → Contains old p → ⊥ =
    λ here there. not_among sizes used p (all_contains (λ q. IsTrue (is_inside sizes q)) taken p (all_pass (is_inside sizes) taken inside) here)
    (all_contains (λ q. IsTrue (is_free used q)) taken p free here) (among p there) in (
      (λ there. let parts = (left p).0 there in elim (Contains-append_cases taken old p ((live p).0 parts.0)) [ inl gone ↦ absurd (parts.1 gone) | inr kept ↦ kept ]),
      (λ kept. (left p).1 ((live p).1 (Contains-append_right taken old p kept), λ gone. fresh gone kept)),
    )

-- ---- moves

module _ {D : Type 0} {bytes faults faults_at_fetch : D → ℕ} {home image : D → List ℕ → Type 0} {sound : D → Type 0} {named : Named} where
  pub taken_live : {Lawful : EntryLaw} {a b : SeenGround D} {taken : List Place} → Moves bytes faults faults_at_fetch home image sound Lawful named a b taken → AllByRecursion (Contains b.live) taken
  taken_live {Lawful} {a} {b} {taken} (Itself same none) = subst (AllByRecursion (Contains b.live)) (sym none) tt
  taken_live {Lawful} {a} {b} {taken} (Moved held h) =
      all_weaker (Contains taken) (Contains b.live) taken (λ p there. (h.live p).1 (Contains-append_left taken a.live p there)) (all_contained taken)

  pub taken_apart : {Lawful : EntryLaw} {a b : SeenGround D} {taken : List Place} → Moves bytes faults faults_at_fetch home image sound Lawful named a b taken → are_apart taken ≡ true
  taken_apart {Lawful} (Itself same none) = ap are_apart none
  taken_apart {Lawful} {a} {b} {taken} (Moved held h) = (and_parts (list_all (is_free a.used) taken) (are_apart taken) h.were_open).1

  pub gave_none : {Lawful : EntryLaw} {a b : SeenGround D} {taken : List Place} → taken ≡ [] → Moves bytes faults faults_at_fetch home image sound Lawful named a b taken → Moves bytes faults faults_at_fetch home image sound Lawful named a b []
  gave_none {Lawful} {a} {b} none h = subst (λ ps. Moves bytes faults faults_at_fetch home image sound Lawful named a b ps) none h

  pub gave_back : {Lawful : EntryLaw} {a b : SeenGround D} {taken : List Place} (sizes : List TopSize) (used live : List Place) (given : List Choice) → (taken ≡ [] → ⊥)
      → AreLeft b.live taken live → SamePlaces used b.used → (AreHeld b.sizes b.used b.live → AreHeld sizes used live) → given ≡ b.given → sizes ≡ b.sizes
      → Moves bytes faults faults_at_fetch home image sound Lawful named a b taken → Moves bytes faults faults_at_fetch home image sound Lawful named a (record b { sizes = sizes; used = used; live = live; given = given }) []
  gave_back {Lawful} sizes used live given some left same_used holds at_g at_z (Itself same none) = absurd (some none)
  gave_back {Lawful} {a} {b} {taken} sizes used live given some left same_used holds at_g at_z (Moved held h) = Moved held (record {
    setting = h.setting;
    round = h.round;
    sizes = at_z ∙ h.sizes;
    disks = h.disks;
    steady = h.steady;
    outside = h.outside;
    more = h.more;
    claimed = h.claimed;
    given = at_g ∙ h.given;
    rounds = h.rounds;
    used = SamePlaces-then used b.used (h.claimed ++ (taken_by_all h.more ++ a.used)) same_used h.used;
    lawful = h.lawful;
    unclaimed = h.unclaimed;
    unasked = h.unasked;
    live = live_left a.sizes a.used a.live taken b.live live held.among h.were_open h.inside h.live left;
    held = holds h.held;
    were_open = refl;
    inside = refl;
  })
