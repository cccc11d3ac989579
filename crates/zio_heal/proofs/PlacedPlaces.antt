-- The places of a part that was placed: each was found for the request, and no two of them touch.
use Rattle.std.proofs.Common.{◌≡◌, ℕ, ◌+◌, ◌≤◌, List, [], ◌∷◌, ◌++◌, IsTrue, Contains, ⊎_elim, sym, ap, ◌∙◌, subst, arith}
use Rattle.std.proofs.lemmas.Grind.{flat_map-append}
use Rattle.std.proofs.lemmas.List.Elements.{Contains-append_cases}
use Rattle.std.specs.List.{AllByRecursion, flat_map}
use Rattle.zio_types.specs.declared.place.Place.{Place}
use Rattle.zio_types.specs.Choices.{Choice}
use Rattle.zio_blkptr.specs.declared.pointer.Bp.{Bp}
use Rattle.zio_blkptr.specs.Pointers.{places_of, valid}
use Rattle.zio_cksum.specs.Headers.{members_of}
use Rattle.zio_cksum.proofs.AllLemmas.{all_append, all_contains, all_weaker}
use Rattle.zio_gang.specs.declared.tree.Head.{Head}
use Rattle.zio_gang.specs.Attempts.{Pending, Terms}
use Rattle.zio_gang.specs.Trees.{sizes_of}
use Rattle.zio_trace.specs.TreeOrders.{Pairs}
use Rattle.zio_trace.proofs.BlockPieces.{forks_differ}
use Rattle.zio_trace.proofs.ChoiceLemmas.{Answers}
use Rattle.zio_trace.proofs.ListLemmas.{all_front, all_rest}
use Rattle.zio_trace.proofs.PairLemmas.{all_of, pairs_across, pairs_append, pairs_front, pairs_rest}
use Rattle.zio_trace.proofs.PlaceLemmas.{DontMeet}
use Rattle.zio_trace.proofs.SpotLemmas.{NoneTouch, dont_turned}
use Rattle.zio_heal.specs.Pools.{IsPool}
use Rattle.zio_heal.proofs.WrittenPieces.{AtMember, IsAt, member_at, paths_apart}

-- ---- lists in another order

module _ {X : Type 0} (R : X → X → Type 0) (turned : (x y : X) → R x y → R y x) where
  -- the second parts behind both first ones
  pub pairs_mixed : (a b x y : List X) → Pairs R (a ++ b) → Pairs R (x ++ y) → ((p q : X) → Contains (a ++ b) p → Contains (x ++ y) q → R p q) → Pairs R (a ++ (x ++ (b ++ y)))
  pairs_mixed a b x y h k across =
      pairs_append R a (x ++ (b ++ y)) (pairs_front R a b h)
      (pairs_append R x (b ++ y) (pairs_front R x y k)
      (pairs_append R b y (pairs_rest R a b h) (pairs_rest R x y k) (λ p q cp cq. across p q (behind a b p cp) (behind x y q cq)))
      (λ p q cp cq.
      ⊎_elim
      (λ (cb : Contains b q). turned q p (across q p (behind a b q cb) (front x y p cp)))
      (λ (cy : Contains y q). pairs_across R x y p q k cp cy)
      (Contains-append_cases b y q cq)))
      (λ p q cp cq.
      ⊎_elim
      (λ (cx : Contains x q). across p q (front a b p cp) (front x y q cx))
      (λ (rest : Contains (b ++ y) q).
      ⊎_elim
      (λ (cb : Contains b q). pairs_across R a b p q h cp cb)
      (λ (cy : Contains y q). across p q (front a b p cp) (behind x y q cy))
      (Contains-append_cases b y q rest))
      (Contains-append_cases x (b ++ y) q cq))
    where
      front : (us vs : List X) (z : X) → Contains us z → Contains (us ++ vs) z
      front us vs z c = all_contains (Contains (us ++ vs)) us z (all_front (Contains (us ++ vs)) us vs (all_of (Contains (us ++ vs)) (us ++ vs) (λ w k. k))) c

      behind : (us vs : List X) (z : X) → Contains vs z → Contains (us ++ vs) z
      behind us vs z c = all_contains (Contains (us ++ vs)) vs z (all_rest (Contains (us ++ vs)) us vs (all_of (Contains (us ++ vs)) (us ++ vs) (λ w k. k))) c

all_mixed : {X : Type 0} (P : X → Type 0) (a b x y : List X) → AllByRecursion P (a ++ b) → AllByRecursion P (x ++ y) → AllByRecursion P (a ++ (x ++ (b ++ y)))
all_mixed P a b x y h k =
    all_append P a (x ++ (b ++ y)) (all_front P a b h)
    (all_append P x (b ++ y) (all_front P x y k) (all_append P b y (all_rest P a b h) (all_rest P x y k)))

-- ---- places of pointers

-- the pointers of all members that these headers name
abbrev pub pointers_in : List Head → List Bp
pointers_in heads = flat_map (λ (h : Head). members_of h.bytes) heads

-- Each place of these pointers is found so, no two of them touch, and each pointer is valid.
pub record AreOwn (Found : Place → Type 0) (bps : List Bp) : Type 0 where
  pub ok : AllByRecursion (λ (b : Bp). IsTrue (valid b)) bps
  pub found : AllByRecursion Found (flat_map places_of bps)
  pub own : Pairs DontMeet (flat_map places_of bps)

pub own_weaker : (P Q : Place → Type 0) → ((q : Place) → P q → Q q) → (bps : List Bp) → AreOwn P bps → AreOwn Q bps
own_weaker P Q f bps h = record { ok = h.ok; found = all_weaker P Q (flat_map places_of bps) f h.found; own = h.own }

-- one pointer in front of others
pub own_first : (P : Place → Type 0) (b : Bp) (bps : List Bp) → IsTrue (valid b) → AllByRecursion P (places_of b) → Pairs DontMeet (places_of b) → AreOwn P bps → ((p q : Place) → Contains (places_of b) p → Contains (flat_map places_of bps) q → DontMeet p q) → AreOwn P (b ∷ bps)
own_first P b bps ok found own more across = record {
  ok = (ok, more.ok);
  found = all_append P (places_of b) (flat_map places_of bps) found more.found;
  own = pairs_append DontMeet (places_of b) (flat_map places_of bps) own more.own across;
}

-- the second pointers behind both first ones
own_mixed : (P : Place → Type 0) (a b x y : List Bp) → AreOwn P (a ++ b) → AreOwn P (x ++ y) → ((p q : Place) → Contains (flat_map places_of (a ++ b)) p → Contains (flat_map places_of (x ++ y)) q → DontMeet p q) → AreOwn P (a ++ (x ++ (b ++ y)))
own_mixed P a b x y h k across =
    let f : List Bp → List Place = flat_map places_of in
    let ab : f (a ++ b) ≡ f a ++ f b = flat_map-append places_of a b in
    let xy : f (x ++ y) ≡ f x ++ f y = flat_map-append places_of x y in
    let all : f (a ++ (x ++ (b ++ y))) ≡ f a ++ (f x ++ (f b ++ f y)) =
    flat_map-append places_of a (x ++ (b ++ y))
    ∙ ap (λ (ps : List Place). f a ++ ps) (flat_map-append places_of x (b ++ y) ∙ ap (λ (ps : List Place). f x ++ ps) (flat_map-append places_of b y)) in
    record {
      ok = all_mixed (λ (m : Bp). IsTrue (valid m)) a b x y h.ok k.ok;
      found = subst (AllByRecursion P) (sym all) (all_mixed P (f a) (f b) (f x) (f y) (subst (AllByRecursion P) ab h.found) (subst (AllByRecursion P) xy k.found));
      own = subst (Pairs DontMeet) (sym all)
          (pairs_mixed DontMeet dont_turned (f a) (f b) (f x) (f y) (subst (Pairs DontMeet) ab h.own) (subst (Pairs DontMeet) xy k.own)
          (λ p q cp cq. across p q (subst (λ (ps : List Place). Contains ps p) (sym ab) cp) (subst (λ (ps : List Place). Contains ps q) (sym xy) cq)));
    }

-- ---- places of a request

module _ (journal : List Choice) (t : Terms) (p : Pending) where
  -- one of the places that were found for the request's part at this path, or for one below it
  pub record IsFoundAt (path : List ℕ) (q : Place) : Type 0 where
    pub places : List Place
    pub there : IsAt journal t p path places
    pub listed : Contains places q

  -- the same for a member from this number on
  pub record IsFoundFrom (path : List ℕ) (n : ℕ) (q : Place) : Type 0 where
    pub places : List Place
    pub there : AtMember journal t p path n places
    pub listed : Contains places q

  pub all_found : (path : List ℕ) (places : List Place) → IsAt journal t p path places → AllByRecursion (IsFoundAt path) places
  all_found path places a = all_of (IsFoundAt path) places (λ q c. record { places = places; there = a; listed = c })

  to_part : (path : List ℕ) (n : ℕ) (q : Place) → IsFoundFrom path n q → IsFoundAt path q
  to_part path n q h = record { places = h.places; there = member_at journal t p path n h.places h.there; listed = h.listed }

  to_member : (path : List ℕ) (n : ℕ) (q : Place) → IsFoundAt (path ++ n ∷ []) q → IsFoundFrom path n q
  to_member path n q h = record { places = h.places; there = record { number = n; from = omega arith; there = h.there }; listed = h.listed }

  to_earlier : (path : List ℕ) (n : ℕ) (q : Place) → IsFoundFrom path (n + 1) q → IsFoundFrom path n q
  to_earlier path n q h =
      let l : n + 1 ≤ h.there.number = h.there.from in
      record { places = h.places; there = record { number = h.there.number; from = omega arith; there = h.there.there }; listed = h.listed }

  module _ (sizes : ℕ → ℕ) (pool : IsPool sizes t.setting.tops) (answers : Answers journal (sizes_of t.setting.tops) t.used t.round) where
    -- a member in front of the others
    pub own_before : (path : List ℕ) (n : ℕ) (bp : Bp) (bps : List Bp) (hs ks : List Head) → AreOwn (IsFoundAt (path ++ n ∷ [])) (bp ∷ pointers_in hs) → AreOwn (IsFoundFrom path (n + 1)) (bps ++ pointers_in ks) → AreOwn (IsFoundFrom path n) ((bp ∷ bps) ++ pointers_in (hs ++ ks))
    own_before path n bp bps hs ks one more =
        let both : pointers_in (hs ++ ks) ≡ pointers_in hs ++ pointers_in ks = flat_map-append (λ (h : Head). members_of h.bytes) hs ks in
        subst (λ (ms : List Bp). AreOwn (IsFoundFrom path n) (bp ∷ (bps ++ ms))) (sym both)
        (own_mixed (IsFoundFrom path n) (bp ∷ []) (pointers_in hs) bps (pointers_in ks)
        (own_weaker (IsFoundAt (path ++ n ∷ [])) (IsFoundFrom path n) (to_member path n) (bp ∷ pointers_in hs) one)
        (own_weaker (IsFoundFrom path (n + 1)) (IsFoundFrom path n) (to_earlier path n) (bps ++ pointers_in ks) more)
        (λ a b ca cb.
        let f : IsFoundAt (path ++ n ∷ []) a = all_contains (IsFoundAt (path ++ n ∷ [])) (flat_map places_of (bp ∷ pointers_in hs)) a one.found ca in
        let g : IsFoundFrom path (n + 1) b = all_contains (IsFoundFrom path (n + 1)) (flat_map places_of (bps ++ pointers_in ks)) b more.found cb in
        let l : n + 1 ≤ g.there.number = g.there.from in
        paths_apart journal t sizes pool answers p p (path ++ n ∷ []) (path ++ g.there.number ∷ []) f.places g.places f.there g.there.there
        (λ below under e. forks_differ path below under n g.there.number (λ (same : n ≡ g.there.number). absurd (omega arith)) e) a b f.listed g.listed))

    -- a gang in front of its members
    pub own_gang : (path : List ℕ) (bp : Bp) (places : List Place) (bps : List Bp) → places_of bp ≡ places → IsAt journal t p path places → IsTrue (valid bp) → Pairs DontMeet places
        → ((qs : List Place) → AtMember journal t p path 0 qs → NoneTouch qs places) → AreOwn (IsFoundFrom path 0) bps → AreOwn (IsFoundAt path) (bp ∷ bps)
    own_gang path bp places bps is here ok own clear more =
        own_first (IsFoundAt path) bp bps ok (subst (AllByRecursion (IsFoundAt path)) (sym is) (all_found path places here)) (subst (Pairs DontMeet) (sym is) own)
        (own_weaker (IsFoundFrom path 0) (IsFoundAt path) (to_part path 0) bps more)
        (λ a b ca cb.
        let g : IsFoundFrom path 0 b = all_contains (IsFoundFrom path 0) (flat_map places_of bps) b more.found cb in
        dont_turned b a (clear g.places g.there b a g.listed (subst (λ (ps : List Place). Contains ps a) is ca)))
