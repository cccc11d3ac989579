-- Operations on copies at places that don't meet are apart, and they lie on their leaves.
use Rattle.std.proofs.Common.{◌≡◌, ◌≢◌, ℕ, ◌+◌, ◌*◌, ◌<◌, ◌≤◌, max, min, nat_lt, List, [], ◌∷◌, map, slice_get, Bool, true, false, ◌&&◌, ◌==◌, Option, Some, None, option_map, IfSome, IsTrue, ◌⊎◌, inl, inr, ⊎_elim, subst, eq-eqb, ltb-false, ltb-true, leb-true, nat_le, arith}
use Rattle.std.specs.List.{AllByRecursion, flat_map}
use Rattle.std.proofs.lemmas.Bool.{and_parts, cases_eq, cases_lt}
use Rattle.std.proofs.lemmas.Option.{slice_get-map}
use Rattle.zio_types.specs.declared.place.Place.{Place}
use Rattle.zio_types.specs.declared.place.Top.{Top}
use Rattle.zio_types.specs.declared.place.TopSize.{TopSize}
use Rattle.zio_types.specs.Places.{end_of, is_below, is_inside, meets, sector_size}
use Rattle.zio_cksum.specs.Blocks.{leaves_of, leaves_of_top, spot_in}
use Rattle.zio_cksum.specs.Frames.{spots_of}
use Rattle.zio_cksum.specs.Images.{Setting, Spot}
use Rattle.zio_cksum.proofs.AllLemmas.{all_append, all_contains, all_map, all_true, all_weaker}
use Rattle.zio_gang.specs.Trees.{size_of, sizes_of}
use Rattle.zio_trace.specs.Leaves.{AreApart, AreClear, IsAmong, LeafOp, LiesOn, asked_of, spot_of}
use Rattle.zio_trace.specs.Separate.{HaveRoomFor, LeavesHold, LeavesOnce, NoneMeet}

-- the places are on different tops, or the one ends before the other begins
abbrev pub DontMeet : Place → Place → Type 0
DontMeet p q = (p.top ≢ q.top) ⊎ ((end_of p ≤ q.sector) ⊎ (end_of q ≤ p.sector))

-- ---- places with sectors

-- a place that is inside has sectors
pub below_sectors : (p : Place) (top : Option TopSize) → is_below p top ≡ true → (0 < p.sectors) × IfSome top (λ (x : TopSize). end_of p ≤ x.sectors)
below_sectors p None h = absurd (cc)
below_sectors p (Some top) h =
    let parts = and_parts (nat_lt 0 p.sectors) (nat_le (end_of p) top.sectors) h in
    (ltb-true 0 p.sectors parts.0, leb-true (end_of p) top.sectors parts.1)

range_apart : (a b c d : ℕ) → nat_lt (max a c) (min (a + b) (c + d)) ≡ false → 0 < b → 0 < d → (a + b ≤ c) ⊎ (c + d ≤ a)
range_apart a b c d h pb pd =
    let far : min (a + b) (c + d) ≤ max a c = ltb-false (max a c) (min (a + b) (c + d)) h in
    ⊎_elim (λ (k : c < a + b). inr (omega arith)) (λ (k : a + b ≤ c). inl k) (cases_lt c (a + b))

and_false : (a b : Bool) → (a && b) ≡ false → a ≡ true → b ≡ false
and_false true b h e = h
and_false false b h e = absurd (cc)

dont_meet : (p q : Place) → meets p q ≡ false → 0 < p.sectors → 0 < q.sectors → DontMeet p q
dont_meet p q h np nq =
    ⊎_elim
    (λ (is : p.top ≡ q.top).
    inr (range_apart p.sector p.sectors q.sector q.sectors
    (and_false (p.top == q.top) (nat_lt (max p.sector q.sector) (min (end_of p) (end_of q))) h (eq-eqb p.top q.top is)) np nq))
    (λ (ne : p.top ≢ q.top). inl ne)
    (cases_eq p.top q.top)

-- places inside their tops that don't meet
pub inside_dont : (s : Setting) (p q : Place) → IsTrue (is_inside (sizes_of s.tops) p) → IsTrue (is_inside (sizes_of s.tops) q) → meets p q ≡ false → DontMeet p q
inside_dont s p q ip iq h =
    dont_meet p q h (below_sectors p (slice_get (sizes_of s.tops) p.top) ip).0 (below_sectors q (slice_get (sizes_of s.tops) q.top) iq).0

-- ---- spots

place_clear : (s : Setting) (p q : Place) → LeavesOnce s.tops → DontMeet p q → AllByRecursion (λ (t : Spot). AllByRecursion (λ (u : Spot). AreClear t u) (map (spot_in q) (leaves_of s q))) (map (spot_in p) (leaves_of s p))
place_clear s p q once h =
    all_map (λ (t : Spot). AllByRecursion (λ (u : Spot). AreClear t u) (map (spot_in q) (leaves_of s q))) (spot_in p) (leaves_of s p)
    (⊎_elim
    (λ (ne : p.top ≢ q.top).
    all_weaker (λ (l : ℕ). AllByRecursion (λ (k : ℕ). l ≢ k) (leaves_of s q)) _ (leaves_of s p)
    (λ l each. all_map (λ (u : Spot). AreClear (spot_in p l) u) (spot_in q) (leaves_of s q)
    (all_weaker (λ (k : ℕ). l ≢ k) _ (leaves_of s q) (λ k other. inl other) each))
    (once p.top q.top ne))
    (λ (range : (end_of p ≤ q.sector) ⊎ (end_of q ≤ p.sector)).
    all_true _ (leaves_of s p)
    (λ l. all_map (λ (u : Spot). AreClear (spot_in p l) u) (spot_in q) (leaves_of s q)
    (all_true _ (leaves_of s q)
    (λ k. inr (⊎_elim (λ (a : end_of p ≤ q.sector). inl (omega arith)) (λ (a : end_of q ≤ p.sector). inr (omega arith)) range)))))
    h)

all_flat : {X Y : Type 0} (P : Y → Type 0) (f : X → List Y) (xs : List X) → AllByRecursion (λ (x : X). AllByRecursion P (f x)) xs → AllByRecursion P (flat_map f xs)
all_flat P f [] h = tt
all_flat P f (x ∷ xs) h = all_append P (f x) (flat_map f xs) h.0 (all_flat P f xs h.1)

-- each spot of the one place is clear of all spots of the other places
place_clear_all : (s : Setting) (p : Place) (qs : List Place) → LeavesOnce s.tops → AllByRecursion (DontMeet p) qs → AllByRecursion (λ (t : Spot). AllByRecursion (λ (u : Spot). AreClear t u) (spots_of s qs)) (map (spot_in p) (leaves_of s p))
place_clear_all s p [] once h = all_true _ (map (spot_in p) (leaves_of s p)) (λ t. tt)
place_clear_all s p (q ∷ qs) once h =
    both (map (spot_in p) (leaves_of s p)) (place_clear s p q once h.0) (place_clear_all s p qs once h.1)
  where
    both : (ts : List Spot) → AllByRecursion (λ (t : Spot). AllByRecursion (λ (u : Spot). AreClear t u) (map (spot_in q) (leaves_of s q))) ts → AllByRecursion (λ (t : Spot). AllByRecursion (λ (u : Spot). AreClear t u) (spots_of s qs)) ts → AllByRecursion (λ (t : Spot). AllByRecursion (λ (u : Spot). AreClear t u) (spots_of s (q ∷ qs))) ts
    both [] a b = tt
    both (t ∷ ts) a b = (all_append (λ (u : Spot). AreClear t u) (map (spot_in q) (leaves_of s q)) (spots_of s qs) a.0 b.0, both ts a.1 b.1)

-- a place that is inside its top
abbrev pub IsInside : Setting → Place → Type 0
IsInside s p = IsTrue (is_inside (sizes_of s.tops) p)

all_dont : (p : Place) (s : Setting) (qs : List Place) → IsInside s p → AllByRecursion (IsInside s) qs → AllByRecursion (λ (q : Place). meets p q ≡ false) qs → AllByRecursion (DontMeet p) qs
all_dont p s [] ip iq h = tt
all_dont p s (q ∷ qs) ip iq h =
    (dont_meet p q h.0 (below_sectors p (slice_get (sizes_of s.tops) p.top) ip).0 (below_sectors q (slice_get (sizes_of s.tops) q.top) iq.0).0, all_dont p s qs ip iq.1 h.1)

-- Operations on two blocks' copies are apart, where their places are inside and don't meet.
pub blocks_apart : (s : Setting) (ps qs : List Place) (n m : ℕ) (a b : LeafOp) → LeavesOnce s.tops → AllByRecursion (λ (p : Place). IsTrue (is_inside (sizes_of s.tops) p)) ps → AllByRecursion (λ (q : Place). IsTrue (is_inside (sizes_of s.tops) q)) qs → NoneMeet ps qs → IsAmong (spots_of s ps) n a → IsAmong (spots_of s qs) m b → AreApart a b
blocks_apart s ps qs n m a b once ip iq none ha hb =
    let all : AllByRecursion (λ (t : Spot). AllByRecursion (λ (u : Spot). AreClear t u) (spots_of s qs)) (spots_of s ps) =
    all_flat _ (λ p. map (spot_in p) (leaves_of s p)) ps (each ps ip none) in
    inr (all_contains (λ (u : Spot). AreClear (spot_of a) u) (spots_of s qs) (spot_of b)
    (all_contains (λ (t : Spot). AllByRecursion (λ (u : Spot). AreClear t u) (spots_of s qs)) (spots_of s ps) (spot_of a) all ha.listed) hb.listed)
  where
    each : (rs : List Place) → AllByRecursion (IsInside s) rs → AllByRecursion (λ (p : Place). AllByRecursion (λ (q : Place). meets p q ≡ false) qs) rs → AllByRecursion (λ (p : Place). AllByRecursion (λ (t : Spot). AllByRecursion (λ (u : Spot). AreClear t u) (spots_of s qs)) (map (spot_in p) (leaves_of s p))) rs
    each [] i h = tt
    each (p ∷ rs) i h = (place_clear_all s p qs once (all_dont p s qs i.0 iq h.0), each rs i.1 h.1)

-- ---- on their leaves

-- a spot has room for so many bytes, and lies on its leaf
abbrev pub SpotLies : (ℕ → ℕ) → ℕ → Spot → Type 0
SpotLies sizes len t = (len ≤ t.span) × (t.at + t.span ≤ sizes t.leaf)

place_lies : (sizes : ℕ → ℕ) (len : ℕ) (p : Place) (top : Option Top) → is_below p (option_map size_of top) ≡ true → len ≤ p.sectors * sector_size
    → IfSome top (λ (x : Top). AllByRecursion (λ (l : ℕ). x.sectors * sector_size ≤ sizes l) x.leaves) → AllByRecursion (λ (l : ℕ). SpotLies sizes len (spot_in p l)) (leaves_of_top top)
place_lies sizes len p None inside room hold = tt
place_lies sizes len p (Some x) inside room hold =
    let end : end_of p ≤ x.sectors = (below_sectors p (Some (size_of x)) inside).1 in
    all_weaker (λ (l : ℕ). x.sectors * sector_size ≤ sizes l) (λ (l : ℕ). SpotLies sizes len (spot_in p l)) x.leaves (λ l k. (room, omega arith)) hold

pub spots_lie : (s : Setting) (sizes : ℕ → ℕ) (len : ℕ) (ps : List Place) → LeavesHold sizes s.tops → AllByRecursion (IsInside s) ps → HaveRoomFor len ps → AllByRecursion (SpotLies sizes len) (spots_of s ps)
spots_lie s sizes len ps hold ip room = all_flat (SpotLies sizes len) (λ p. map (spot_in p) (leaves_of s p)) ps (each ps ip room)
  where
    each : (rs : List Place) → AllByRecursion (IsInside s) rs → HaveRoomFor len rs → AllByRecursion (λ (p : Place). AllByRecursion (SpotLies sizes len) (map (spot_in p) (leaves_of s p))) rs
    each [] i r = tt
    each (p ∷ rs) i r = (
      all_map (SpotLies sizes len) (spot_in p) (leaves_of s p)
          (place_lies sizes len p (slice_get s.tops p.top) (subst (λ (o : Option TopSize). is_below p o ≡ true) (slice_get-map size_of s.tops p.top) i.0) r.0 (hold p.top)),
      each rs i.1 r.1,
    )

-- An operation on copies lies on its leaf, where the places are inside their tops, whose leaves hold them.
pub copies_lie : (s : Setting) (sizes : ℕ → ℕ) (len : ℕ) (ps : List Place) (a : LeafOp) → LeavesHold sizes s.tops → AllByRecursion (λ (p : Place). IsTrue (is_inside (sizes_of s.tops) p)) ps → HaveRoomFor len ps → IsAmong (spots_of s ps) len a → LiesOn sizes a
copies_lie s sizes len ps a hold ip room among =
    let lies : SpotLies sizes len (spot_of a) = all_contains (SpotLies sizes len) (spots_of s ps) (spot_of a) (spots_lie s sizes len ps hold ip room) among.listed in
    let most : asked_of a ≤ len = among.at_most in
    let fits : len ≤ (spot_of a).span = lies.0 in
    record { room = (omega arith); lies = lies.1 }
