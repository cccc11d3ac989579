-- The copies of a piece that are at risk while it is read: those in front of the copy that a read takes over the images
-- before. That copy is clear of them, and whoever reads writes to none but them.
use Rattle.std.proofs.Common.{◌≡◌, ◌≢◌, ℕ, zero, suc, ◌/◌, ◌%◌, List, [], ◌∷◌, ◌++◌, length, map, take, drop, Bool, true, false, Option, Some, None, IsTrue, Contains, inl, refl, sym, ap, subst}
use Rattle.std.proofs.lemmas.List.Elements.{Contains-append_left, Contains-append_right}
use Rattle.std.specs.List.{AllByRecursion}
use Rattle.zio_types.specs.declared.place.Place.{Place}
use Rattle.zio_cksum.specs.Blocks.{leaves_of, read_pass, rotated, spot_in, turn_size}
use Rattle.zio_cksum.specs.Frames.{spots_of}
use Rattle.zio_cksum.specs.Headers.{offset_of}
use Rattle.zio_cksum.specs.Images.{Images, Setting, Spot, bytes_at}
use Rattle.zio_cksum.proofs.AllLemmas.{all_append, all_contained, all_contains, all_drop, all_map, all_take, all_unmap, all_weaker}
use Rattle.zio_cksum.proofs.FrameLemmas.{AreAmong, places_among}
use Rattle.zio_trace.specs.CopyPrograms.{block_reading}
use Rattle.zio_trace.specs.Leaves.{Answer, AreClear}
use Rattle.zio_trace.specs.Separate.{LeavesOnce}
use Rattle.zio_trace.specs.SoundRounds.{LeavesDiffer}
use Rattle.zio_trace.specs.TreeOrders.{Pairs}
use Rattle.zio_trace.proofs.ChoiceLemmas.{one_contained}
use Rattle.zio_trace.proofs.ListLemmas.{all_rest, contains_first, contains_later}
use Rattle.zio_trace.proofs.PairLemmas.{all_of, pairs_across, pairs_append, pairs_front, pairs_rest}
use Rattle.zio_trace.proofs.PlaceLemmas.{DontMeet}
use Rattle.zio_trace.proofs.SpotLemmas.{NoneTouch, dont_turned, spots_clear}
use Rattle.zio_spared.specs.Spared.{NoFlips}
use Rattle.zio_spared.proofs.SparingReads.{Fails, IsLast, IsSafe, PlaceRisked, Spares, block_fails, block_takes_first, block_takes_last}
use Rattle.zio_spared.proofs.TakenCopies.{IsTaken, NoneRead, none_taken, order, read_is_good, taken}

cut_at : {X : Type 0} (n : ℕ) (xs : List X) → xs ≡ take n xs ++ drop n xs
cut_at zero xs = refl
cut_at (suc n) [] = refl
cut_at (suc n) (x ∷ xs) = ap (λ (ys : List _). x ∷ ys) (cut_at n xs)

rotated_differ : (n : ℕ) (xs : List ℕ) → Pairs (λ (l m : ℕ). l ≢ m) xs → Pairs (λ (l m : ℕ). l ≢ m) (rotated n xs)
rotated_differ n xs h =
    let both : Pairs (λ (l m : ℕ). l ≢ m) (take n xs ++ drop n xs) = subst (Pairs (λ (l m : ℕ). l ≢ m)) (cut_at n xs) h in
    pairs_append (λ (l m : ℕ). l ≢ m) (drop n xs) (take n xs) (pairs_rest (λ (l m : ℕ). l ≢ m) (take n xs) (drop n xs) both) (pairs_front (λ (l m : ℕ). l ≢ m) (take n xs) (drop n xs) both)
    (λ x y cx cy e. pairs_across (λ (l m : ℕ). l ≢ m) (take n xs) (drop n xs) y x both cy cx (sym e))

-- A copy that is good, the copies at risk, of which it is clear, and a reader that writes to no others.
pub record IsSparing (s : Setting) (places : List Place) (len : ℕ) (good : List ℕ → Bool) (before : Images) : Type 0 where
  pub risked : List Spot
  pub spot : Spot
  pub listed : Contains (spots_of s places) spot
  pub good_there : IsTrue (good (bytes_at before spot len))
  pub safe : IsSafe s (spots_of s places) len good before risked spot
  pub spares : Spares s (spots_of s places) len good before risked (λ (a : Answer). Unit {0}) (block_reading s true good len places)

module _ (s : Setting) (places : List Place) (len : ℕ) (good : List ℕ → Bool) (before : Images) (once : LeavesOnce s.tops) (twice : LeavesDiffer s.tops) (own : Pairs DontMeet places) where
  abbrev spots : List Spot
  spots = spots_of s places

  abbrev order_of : Place → List ℕ
  order_of p = order s len good before p

  in_order : (P : ℕ → Type 0) (p : Place) → AllByRecursion P (leaves_of s p) → AllByRecursion P (order_of p)
  in_order P p h =
      let n : ℕ = offset_of p / turn_size % length (leaves_of s p) in
      all_append P (drop n (leaves_of s p)) (take n (leaves_of s p)) (all_drop P n (leaves_of s p) h) (all_take P n (leaves_of s p) h)

  order_differs : (p : Place) → Pairs (λ (l m : ℕ). l ≢ m) (order_of p)
  order_differs p = rotated_differ (offset_of p / turn_size % length (leaves_of s p)) (leaves_of s p) (twice p.top)

  -- the copies of a place among some are among theirs
  spots_there : (ps : List Place) (p : Place) → Contains ps p → AllByRecursion (Contains (spots_of s ps)) (map (spot_in p) (leaves_of s p))
  spots_there ps p c = all_contains (AreAmong (spots_of s ps) s) ps p (places_among s ps) c

  copies_there : (ps : List Place) (p : Place) → Contains ps p → AllByRecursion (λ (l : ℕ). Contains (spots_of s ps) (spot_in p l)) (order_of p)
  copies_there ps p c = in_order (λ (l : ℕ). Contains (spots_of s ps) (spot_in p l)) p (all_unmap (Contains (spots_of s ps)) (spot_in p) (leaves_of s p) (spots_there ps p c))

  module _ (retry : Bool) (k : IsTaken s len good before retry places) where
    abbrev risks : List Spot
    risks = spots_of s k.front ++ map (spot_in k.place) k.there.first

    abbrev star : Spot
    star = spot_in k.place k.there.leaf

    abbrev Safe : Spot → Type 0
    Safe t = IsSafe s spots len good before risks t

    all_own : Pairs DontMeet (k.front ++ k.place ∷ k.rest)
    all_own = subst (Pairs DontMeet) k.split own

    in_places : (p : Place) → Contains (k.front ++ k.place ∷ k.rest) p → Contains places p
    in_places p c = subst (λ (ps : List Place). Contains ps p) (sym k.split) c

    place_there : Contains places k.place
    place_there = in_places k.place (Contains-append_right k.front (k.place ∷ k.rest) k.place (contains_first k.place k.rest))

    -- ---- clear of those at risk

    behind_front : NoneTouch (k.place ∷ k.rest) k.front
    behind_front p q cp cq = dont_turned q p (pairs_across DontMeet k.front (k.place ∷ k.rest) q p all_own cq cp)

    behind_place : NoneTouch k.rest (k.place ∷ [])
    behind_place p q cp cq =
        subst (DontMeet p) (one_contained k.place q cq)
        (dont_turned k.place p (all_contains (DontMeet k.place) k.rest p (pairs_rest DontMeet k.front (k.place ∷ k.rest) all_own).0 cp))

    safe_from : (t : Spot) → Contains (spots_of s (k.place ∷ k.rest)) t → AllByRecursion (AreClear t) (map (spot_in k.place) k.there.first) → Safe t
    safe_from t c h =
        all_append (AreClear t) (spots_of s k.front) (map (spot_in k.place) k.there.first)
        (all_of (AreClear t) (spots_of s k.front) (λ u cu. spots_clear s (k.place ∷ k.rest) k.front t u once behind_front c cu)) h

    first_there : AllByRecursion (λ (l : ℕ). Contains (spots_of s (k.place ∷ [])) (spot_in k.place l)) k.there.first
    first_there = all_first (subst (AllByRecursion (λ (l : ℕ). Contains (spots_of s (k.place ∷ [])) (spot_in k.place l))) k.there.split (copies_there (k.place ∷ []) k.place (contains_first k.place [])))
      where
        all_first : AllByRecursion (λ (l : ℕ). Contains (spots_of s (k.place ∷ [])) (spot_in k.place l)) (k.there.first ++ k.there.leaf ∷ k.there.later) → AllByRecursion (λ (l : ℕ). Contains (spots_of s (k.place ∷ [])) (spot_in k.place l)) k.there.first
        all_first h = all_of _ k.there.first (λ l c. all_contains _ (k.there.first ++ k.there.leaf ∷ k.there.later) l h (Contains-append_left k.there.first (k.there.leaf ∷ k.there.later) l c))

    -- the copies of the place from that one on
    safe_later : (l : ℕ) → Contains (k.there.leaf ∷ k.there.later) l → Safe (spot_in k.place l)
    safe_later l c =
        let split : Pairs (λ (a b : ℕ). a ≢ b) (k.there.first ++ k.there.leaf ∷ k.there.later) = subst (Pairs (λ (a b : ℕ). a ≢ b)) k.there.split (order_differs k.place) in
        let there : Contains (spots_of s (k.place ∷ k.rest)) (spot_in k.place l) =
        all_contains (λ (m : ℕ). Contains (spots_of s (k.place ∷ k.rest)) (spot_in k.place m)) (k.there.first ++ k.there.leaf ∷ k.there.later) l
        (subst (AllByRecursion (λ (m : ℕ). Contains (spots_of s (k.place ∷ k.rest)) (spot_in k.place m))) k.there.split (copies_there (k.place ∷ k.rest) k.place (contains_first k.place k.rest)))
        (Contains-append_right k.there.first (k.there.leaf ∷ k.there.later) l c) in
        safe_from (spot_in k.place l) there
        (all_map (AreClear (spot_in k.place l)) (spot_in k.place) k.there.first
        (all_of _ k.there.first (λ m cm. inl (λ e. pairs_across (λ (a b : ℕ). a ≢ b) k.there.first (k.there.leaf ∷ k.there.later) m l split cm c (sym e)))))

    star_safe : Safe star
    star_safe = safe_later k.there.leaf (contains_first k.there.leaf k.there.later)

    -- the copies of the places behind
    safe_rest : (p : Place) (l : ℕ) → Contains k.rest p → Contains (order_of p) l → Safe (spot_in p l)
    safe_rest p l cp cl =
        let here : Contains (spots_of s k.rest) (spot_in p l) = all_contains (λ (m : ℕ). Contains (spots_of s k.rest) (spot_in p m)) (order_of p) l (copies_there k.rest p cp) cl in
        safe_from (spot_in p l)
        (all_contains (λ (m : ℕ). Contains (spots_of s (k.place ∷ k.rest)) (spot_in p m)) (order_of p) l (copies_there (k.place ∷ k.rest) p (contains_later k.place k.rest p cp)) cl)
        (all_map (AreClear (spot_in p l)) (spot_in k.place) k.there.first
        (all_of _ k.there.first (λ m cm. spots_clear s k.rest (k.place ∷ []) (spot_in p l) (spot_in k.place m) once behind_place here
        (all_contains (λ (x : ℕ). Contains (spots_of s (k.place ∷ [])) (spot_in k.place x)) k.there.first m first_there cm))))

    -- ---- those at risk

    front_risked : AllByRecursion (PlaceRisked s spots len good before risks) k.front
    front_risked =
        all_of _ k.front
        (λ p c.
        let all : AllByRecursion (Contains risks) (map (spot_in p) (leaves_of s p)) =
        all_weaker (Contains (spots_of s k.front)) (Contains risks) (map (spot_in p) (leaves_of s p)) (λ t ct. Contains-append_left (spots_of s k.front) (map (spot_in k.place) k.there.first) t ct) (spots_there k.front p c) in (
          copies_there places p (in_places p (Contains-append_left k.front (k.place ∷ k.rest) p c)),
          in_order (λ (l : ℕ). Contains risks (spot_in p l)) p (all_unmap (Contains risks) (spot_in p) (leaves_of s p) all),
          all,
        ))

    abbrev last : IsLast s spots len good before risks k.place
    last = record {
      first = k.there.first;
      leaf = k.there.leaf;
      later = k.there.later;
      order_is = k.there.split;
      on_spots = copies_there places k.place place_there;
      risk =
          all_unmap (Contains risks) (spot_in k.place) k.there.first
          (all_weaker (Contains (map (spot_in k.place) k.there.first)) (Contains risks) (map (spot_in k.place) k.there.first) (λ t c. Contains-append_right (spots_of s k.front) (map (spot_in k.place) k.there.first) t c) (all_contained (map (spot_in k.place) k.there.first)));
      safe = star_safe;
    }

    star_listed : Contains spots star
    star_listed =
        all_contains (λ (l : ℕ). Contains spots (spot_in k.place l)) (k.there.first ++ k.there.leaf ∷ k.there.later) k.there.leaf
        (subst (AllByRecursion (λ (l : ℕ). Contains spots (spot_in k.place l))) k.there.split (copies_there places k.place place_there))
        (Contains-append_right k.there.first (k.there.leaf ∷ k.there.later) k.there.leaf (contains_first k.there.leaf k.there.later))

    abbrev Reads : List Place → Type 0
    Reads ps = Spares s spots len good before risks (λ (a : Answer). Unit {0}) (block_reading s true good len ps)

    sparing_by : NoFlips s.rows → Reads (k.front ++ k.place ∷ k.rest) → IsSparing s places len good before
    sparing_by flips h = record {
      risked = risks;
      spot = star;
      listed = star_listed;
      good_there = read_is_good s len good before retry star k.there.bytes flips k.there.takes;
      safe = star_safe;
      spares = subst Reads (sym k.split) h;
    }

    -- where the first pass failed
    later_fail : AllByRecursion (NoneRead s len good before false) places → Fails s spots len good before risks false k.place (k.there.leaf ∷ k.there.later)
    later_fail none =
        let here : NoneRead s len good before false k.place = all_contains (NoneRead s len good before false) places k.place none place_there in
        let rest = all_rest _ k.there.first (k.there.leaf ∷ k.there.later) (subst (AllByRecursion _) k.there.split here) in
        all_of _ (k.there.leaf ∷ k.there.later) (λ l c. (safe_later l c, all_contains _ (k.there.leaf ∷ k.there.later) l rest c))

    rest_fail : AllByRecursion (NoneRead s len good before false) places
        → AllByRecursion (λ (p : Place). AllByRecursion (λ (l : ℕ). Contains spots (spot_in p l)) (order_of p) × Fails s spots len good before risks false p (order_of p)) k.rest
    rest_fail none =
        all_of _ k.rest
        (λ p c.
        let there : Contains places p = in_places p (Contains-append_right k.front (k.place ∷ k.rest) p (contains_later k.place k.rest p c)) in (
          copies_there places p there,
          all_of _ (order_of p) (λ l cl. (safe_rest p l c cl, all_contains _ (order_of p) l (all_contains (NoneRead s len good before false) places p none there) cl)),
        ))

  -- ---- by what the passes find

  abbrev none_at_risk : List Spot
  none_at_risk = []

  fails_at_all : (retry : Bool) → AllByRecursion (NoneRead s len good before retry) places
      → AllByRecursion (λ (p : Place). AllByRecursion (λ (l : ℕ). Contains spots (spot_in p l)) (order_of p) × Fails s spots len good before none_at_risk retry p (order_of p)) places
  fails_at_all retry none =
      all_of _ places
      (λ p c. (copies_there places p c, all_of _ (order_of p) (λ l cl. (tt, all_contains _ (order_of p) l (all_contains (NoneRead s len good before retry) places p none c) cl))))

  module _ (flips : NoFlips s.rows) (spot : Spot) (listed : Contains spots spot) (good_there : IsTrue (good (bytes_at before spot len))) where
    by_last : (o : Option (List ℕ)) → (read_pass s true good before len places).found ≡ o → AllByRecursion (NoneRead s len good before false) places → IsSparing s places len good before
    by_last (Some b) e none =
        let k : IsTaken s len good before true places = taken s len good before true places b e in
        sparing_by true k flips
        (block_takes_last s spots len good before (risks true k) k.front k.rest k.place (last true k) k.there.bytes (front_risked true k) (later_fail true k none) (rest_fail true k none) k.there.takes)
    by_last None e none = record {
      risked = none_at_risk;
      spot = spot;
      listed = listed;
      good_there = good_there;
      safe = tt;
      spares = block_fails s spots len good before none_at_risk places (fails_at_all false none) (fails_at_all true (none_taken s len good before true places e));
    }

    by_first : (o : Option (List ℕ)) → (read_pass s false good before len places).found ≡ o → IsSparing s places len good before
    by_first (Some b) e =
        let k : IsTaken s len good before false places = taken s len good before false places b e in
        sparing_by false k flips
        (block_takes_first s spots len good before (risks false k) k.front k.rest k.place (last false k) k.there.bytes (front_risked false k) k.there.takes)
    by_first None e = by_last (read_pass s true good before len places).found refl (none_taken s len good before false places e)

    -- Where a copy is good, a good one is spared by whoever reads the piece.
    pub is_sparing : IsSparing s places len good before
    is_sparing = by_first (read_pass s false good before len places).found refl
