-- A pointer to places that a lawful journal found can be spelled.
use Rattle.std.proofs.Common.{◌≡◌, ℕ, zero, suc, ◌-◌, ◌*◌, ◌/◌, ◌%◌, ◌^◌, ◌<◌, ◌≤◌, List, [], ◌∷◌, ◌++◌, length, map, drop, find, filter, replicate, Bool, true, false, cond, ◌&&◌, ◌||◌, ◌==◌, nat_le, nat_lt, Option, Some, None, IsTrue, Contains, inl, inr, refl, ap, ◌∙◌, subst, eq-eqb, eqb-true, leb-true, le-leb, lt-ltb, arith}
use Rattle.std.specs.Prelude.{slice_get}
use Rattle.std.specs.List.{AllByRecursion, list_all}
use Rattle.std.proofs.Math.Seq.{take-append_seam, drop-append_seam}
use Rattle.std.proofs.lemmas.Bool.{and_from, and_parts, false≢true, ltb-false, ltb-true, or_cases}
use Rattle.zio_types.specs.declared.place.Place.{Place}
use Rattle.zio_types.specs.declared.place.Top.{Top}
use Rattle.zio_types.specs.declared.place.TopSize.{TopSize}
use Rattle.zio_types.specs.Choices.{Ask, Choice, no_place, same_ask}
use Rattle.zio_types.specs.Filled.{length-filled_to}
use Rattle.zio_types.specs.Places.{AreCopies, end_of, fits_on, fits_size, is_below, is_inside, is_lawful_top, is_unit, rounded_to, sector_size}
use Rattle.zio_blkptr.specs.declared.pointer.Bp.{Bp}
use Rattle.zio_blkptr.specs.declared.pointer.TheConstants.{SECTOR_END, TOP_END}
use Rattle.zio_blkptr.specs.Pointers.{FitsTypes, is_absent, is_block_size, is_present, is_rounding_of, places_of, sectors_stored, valid}
use Rattle.zio_blkptr.proofs.Roundings.{near_by_rounding}
use Rattle.zio_cksum.proofs.AllLemmas.{all_contains, all_weaker}
use Rattle.zio_gang.specs.Journals.{AreLawful, taken_by}
use Rattle.zio_gang.specs.Trees.{size_of, sizes_of}
use Rattle.zio_gang.specs.Writes.{Writing, chosen, places_chosen, places_unless, pointer_to}
use Rattle.zio_trace.specs.Separate.{HaveRoomFor}
use Rattle.zio_trace.proofs.ChoiceLemmas.{Answers, keys_same}
use Rattle.zio_trace.proofs.ListLemmas.{contains_first, contains_later}
use Rattle.zio_heal.specs.Pools.{IsBlockSize, IsPool}
use Rattle.zio_heal.proofs.SumLemmas.{sum_fit, sum_four}

-- ---- places that were found

-- the place fits the size, inside its top
abbrev pub Fits : List TopSize → ℕ → Place → Type 0
Fits tops size p = IsTrue (fits_size tops size p) × IsTrue (is_inside tops p)

-- places for all copies of an ask
pub record AreFound (tops : List TopSize) (size : ℕ) (places : List Place) : Type 0 where
  pub one : 1 ≤ length places
  pub three : length places ≤ 3
  pub each : AllByRecursion (Fits tops size) places

copies_fit : (tops : List TopSize) (used : List Place) (size : ℕ) (earlier ps : List Place) → AreCopies tops used size earlier ps → AllByRecursion (Fits tops size) ps
copies_fit tops used size earlier [] h = tt
copies_fit tops used size earlier (p ∷ ps) h = ((h.0.fits, h.0.inside), copies_fit tops used size (earlier ++ p ∷ []) ps h.1)

record IsFitting (tops : List TopSize) (c : Choice) : Type 0 where
  most : length c.places ≤ c.asked.copies
  each : AllByRecursion (Fits tops c.asked.size) c.places

all_fit : (tops : List TopSize) (used : List Place) (cs : List Choice) → AreLawful tops used cs → AllByRecursion (IsFitting tops) cs
all_fit tops used [] h = tt
all_fit tops used (c ∷ cs) h =
    (record { most = h.0.found; each = copies_fit tops used c.asked.size [] c.places h.0.copies }, all_fit tops (taken_by c ++ used) cs h.1)

-- ---- what a look-up finds

record IsFoundIn (test : Choice → Bool) (kept : Choice → Bool) (xs : List Choice) (c : Choice) : Type 0 where
  passes : test c ≡ true
  listed : Contains (filter kept xs) c

first_kept : (b : Bool) (x : Choice) (ys : List Choice) → b ≡ true → Contains (cond b (x ∷ ys) ys) x
first_kept true x ys e = contains_first x ys
first_kept false x ys e = absurd (cc)

later_kept : (b : Bool) (x c : Choice) (ys : List Choice) → Contains ys c → Contains (cond b (x ∷ ys) ys) c
later_kept true x c ys k = contains_later x ys c k
later_kept false x c ys k = k

find_step : (test kept : Choice → Bool) → ((c : Choice) → test c ≡ true → kept c ≡ true) → (b : Bool) (x c : Choice) (xs : List Choice) → test x ≡ b → cond b (Some x) (find test xs) ≡ Some c
    → (find test xs ≡ Some c → IsFoundIn test kept xs c) → IsFoundIn test kept (x ∷ xs) c
find_step test kept f true x c xs e is later =
    let one : x ≡ c = cc in
    subst (IsFoundIn test kept (x ∷ xs)) one (record { passes = e; listed = first_kept (kept x) x (filter kept xs) (f x e) })
find_step test kept f false x c xs e is later =
    let k : IsFoundIn test kept xs c = later is in record { passes = k.passes; listed = later_kept (kept x) x c (filter kept xs) k.listed }

find_in : (test kept : Choice → Bool) → ((c : Choice) → test c ≡ true → kept c ≡ true) → (xs : List Choice) (c : Choice) → find test xs ≡ Some c → IsFoundIn test kept xs c
find_in test kept f [] c is = absurd (cc)
find_in test kept f (x ∷ xs) c is = find_step test kept f (test x) x c xs refl is (find_in test kept f xs c)

unless_some : (refused : Bool) (c : Choice) (places : List Place) → places_unless refused c ≡ Some places → (refused ≡ false) × (c.places ≡ places)
unless_some true c places h = absurd (cc)
unless_some false c places h = (refl, cc)

pub found_for : (journal : List Choice) (tops : List TopSize) (used : List Place) (round : ℕ) → Answers journal tops used round → (ask : Ask) (places : List Place)
    → ask.key.round ≡ round → 1 ≤ ask.copies → ask.copies ≤ 3 → chosen journal ask ≡ Some places → AreFound tops ask.size places
found_for journal tops used round answers ask places now one three is = by (find test journal) refl is
  where
    test : Choice → Bool
    test = λ (c : Choice). same_ask c.asked ask

    by : (o : Option Choice) → find (λ (c : Choice). same_ask c.asked ask) journal ≡ o → places_chosen ask.copies o ≡ Some places → AreFound tops ask.size places
    by None e h = absurd (cc)
    by (Some c) e h =
        let there : IsFoundIn (λ (x : Choice). same_ask x.asked ask) (λ (x : Choice). x.asked.key.round == round) journal c =
        find_in (λ (x : Choice). same_ask x.asked ask) (λ (x : Choice). x.asked.key.round == round)
        (λ x same. eq-eqb x.asked.key.round round ((keys_same x ask same).0 ∙ now)) journal c e in
        let fits : IsFitting tops c = all_contains (IsFitting tops) answers.choices c (all_fit tops used answers.choices answers.lawful) (answers.found c there.listed) in
        let both = unless_some (nat_lt (length c.places) ask.copies) c places h in
        let copies : c.asked.copies ≡ ask.copies = (keys_same c ask there.passes).2 in
        let size : c.asked.size ≡ ask.size = eqb-true c.asked.size ask.size (and_parts _ _ (and_parts _ _ there.passes).0).1 in
        let enough : ask.copies ≤ length c.places = ltb-false (length c.places) ask.copies both.0 in
        let most : length c.places ≤ c.asked.copies = fits.most in
        subst (AreFound tops ask.size) both.1 (record {
          one = omega arith;
          three = omega arith;
          each = subst (λ (n : ℕ). AllByRecursion (Fits tops n) c.places) size fits.each;
        })

-- ---- a place in a pointer

or_left : (a b : Bool) → a ≡ true → a || b ≡ true
or_left true b e = refl
or_left false b e = absurd (false≢true e)

or_right : (a b : Bool) → b ≡ true → a || b ≡ true
or_right true b e = refl
or_right false b e = e

is_one : (sectors unit one n : ℕ) → (unit == one) ≡ true → sectors ≡ rounded_to unit n → (sectors == rounded_to one n) ≡ true
is_one sectors unit one n at is = eq-eqb sectors (rounded_to one n) (is ∙ ap (λ u. rounded_to u n) (eqb-true unit one at))

-- so many sectors by a lawful unit are a rounding
rounding_by : (unit n sectors : ℕ) → is_unit unit ≡ true → sectors ≡ rounded_to unit n → is_rounding_of sectors n ≡ true
rounding_by unit n sectors h is =
    let r1 = sectors == rounded_to 1 n in
    let r2 = sectors == rounded_to 2 n in
    let r4 = sectors == rounded_to 4 n in
    let r8 = sectors == rounded_to 8 n in
    elim (or_cases (((unit == 1) || (unit == 2)) || (unit == 4)) (unit == 8) h) [
      | inl less ↦
          elim (or_cases ((unit == 1) || (unit == 2)) (unit == 4) less) [
            | inl few ↦ elim (or_cases (unit == 1) (unit == 2) few) [
              | inl one ↦ or_left r1 (r2 || (r4 || (r8 || false))) (is_one sectors unit 1 n one is)
              | inr two ↦ or_right r1 (r2 || (r4 || (r8 || false))) (or_left r2 (r4 || (r8 || false)) (is_one sectors unit 2 n two is))
            ]
            | inr four ↦ or_right r1 (r2 || (r4 || (r8 || false))) (or_right r2 (r4 || (r8 || false)) (or_left r4 (r8 || false) (is_one sectors unit 4 n four is)))
          ]
      | inr eight ↦ or_right r1 (r2 || (r4 || (r8 || false))) (or_right r2 (r4 || (r8 || false)) (or_right r4 (r8 || false) (or_left r8 false (is_one sectors unit 8 n eight is))))
    ]

-- What a place that was found is: a rounding of what it holds, on one of the tops, below the end of what a pointer spells.
record IsThere (tops size : ℕ) (p : Place) (at : ℕ) : Type 0 where
  rounding : is_rounding_of p.sectors (size / sector_size) ≡ true
  top : at < tops
  sector : p.sector < SECTOR_END

there : (tops : List Top) (i size : ℕ) (p : Place) → AllByRecursion (λ (top : Top). IsTrue (is_lawful_top (size_of top))) tops → AllByRecursion (λ (top : Top). top.sectors ≤ SECTOR_END) tops
    → IsTrue (fits_on size p (slice_get (map size_of tops) i)) → IsTrue (is_below p (slice_get (map size_of tops) i)) → IsThere (length tops) size p i
there [] i size p lawful short fits below = absurd (false≢true fits)
there (top ∷ tops) zero size p lawful short fits below =
    let f = and_parts (p.sector % top.unit == 0) (p.sectors == rounded_to top.unit (size / sector_size)) fits in
    let b = and_parts (nat_lt 0 p.sectors) (nat_le (end_of p) top.sectors) below in
    let unit = and_parts (is_unit top.unit) (top.sectors % top.unit == 0) lawful.0 in
    let some : 0 < p.sectors = ltb-true 0 p.sectors b.0 in
    let end : end_of p ≤ top.sectors = leb-true (end_of p) top.sectors b.1 in
    let most : top.sectors ≤ SECTOR_END = short.0 in
    record {
      rounding = rounding_by top.unit (size / sector_size) p.sectors unit.0 (eqb-true p.sectors (rounded_to top.unit (size / sector_size)) f.1);
      top = omega arith;
      sector = omega arith;
    }
there (top ∷ tops) (suc i) size p lawful short fits below =
    let h = there tops i size p lawful.1 short.1 fits below in
    record { rounding = h.rounding; top = omega (arith, h.top); sector = h.sector }

-- ---- all places of a pointer

all_present : (sizes : ℕ → ℕ) (tops : List Top) (bp : Bp) (size : ℕ) (places : List Place) → IsPool sizes tops → sectors_stored bp ≡ size / sector_size → AllByRecursion (Fits (sizes_of tops) size) places → list_all (is_present bp) places ≡ true
all_present sizes tops bp size [] pool stored h = refl
all_present sizes tops bp size (p ∷ places) pool stored h =
    let t = there tops p.top size p pool.lawful pool.short h.0.0 h.0.1 in
    let few = pool.few in
    and_from (is_present bp p) (list_all (is_present bp) places)
    (and_from (is_rounding_of p.sectors (sectors_stored bp) && nat_lt p.top TOP_END) (nat_lt p.sector SECTOR_END)
    (and_from (is_rounding_of p.sectors (sectors_stored bp)) (nat_lt p.top TOP_END)
    (ap (is_rounding_of p.sectors) stored ∙ t.rounding) (lt-ltb p.top TOP_END (omega (arith, t.top, few))))
    (lt-ltb p.sector SECTOR_END t.sector))
    (all_present sizes tops bp size places pool stored h.1)

-- the places have room for what they were found for
pub room_for : (sizes : ℕ → ℕ) (tops : List Top) (size : ℕ) (places : List Place) → IsPool sizes tops → AreFound (sizes_of tops) size places → size % 512 ≡ 0 → HaveRoomFor size places
room_for sizes tops size places pool found whole =
    all_weaker (Fits (sizes_of tops) size) (λ (p : Place). size ≤ p.sectors * sector_size) places
    (λ p h.
    let t = there tops p.top size p pool.lawful pool.short h.0 h.1 in
    let near = near_by_rounding p.sectors (size / sector_size) t.rounding in
    let low : size / 512 ≤ p.sectors = near.low in
    omega arith)
    found.each

all_absent : (n : ℕ) → list_all is_absent (replicate n no_place) ≡ true
all_absent zero = refl
all_absent (suc n) = all_absent n

-- the places of a pointer that was made
pub places_of_pointer : (w : Writing) (places : List Place) (gang : Bool) (bytes : List ℕ) → places_of (pointer_to w places gang bytes) ≡ places
places_of_pointer w places gang bytes = take-append_seam places (replicate (3 - length places) no_place)

stored_is : (w : Writing) (places : List Place) (gang : Bool) (bytes : List ℕ) (size : ℕ) → cond gang 512 (length bytes) ≡ size → sectors_stored (pointer_to w places gang bytes) ≡ size / sector_size
stored_is w places true bytes size e = ap (λ n. n / sector_size) e
stored_is w places false bytes size e = ap (λ n. n / sector_size) e

-- a pointer that can be spelled
pub record IsSpelled (bp : Bp) : Type 0 where
  pub types : FitsTypes bp
  pub ok : IsTrue (valid bp)

pub spelled : (sizes : ℕ → ℕ) (tops : List Top) (w : Writing) (places : List Place) (gang : Bool) (bytes : List ℕ) (size : ℕ) → IsPool sizes tops → AreFound (sizes_of tops) size places → cond gang 512 (length bytes) ≡ size
    → IsBlockSize (length bytes) → 1 ≤ w.birth → w.birth < 2 ^ 64 → IsSpelled (pointer_to w places gang bytes)
spelled sizes tops w places gang bytes size pool found is block some born =
    let bp : Bp = pointer_to w places gang bytes in
    let low : 0 < length bytes = block.some in
    let at : places_of bp ≡ places = places_of_pointer w places gang bytes in
    let present : list_all (is_present bp) (places_of bp) ≡ true =
    ap (list_all (is_present bp)) at ∙ all_present sizes tops bp size places pool (stored_is w places gang bytes size is) found.each in
    let absent : list_all is_absent (drop bp.count bp.places) ≡ true =
    ap (list_all is_absent) (drop-append_seam places (replicate (3 - length places) no_place)) ∙ all_absent (3 - length places) in
    let whole : length bytes % 512 ≡ 0 = block.whole in
    let sized : is_block_size (length bytes) ≡ true =
    and_from ((length bytes % sector_size == 0) && nat_le sector_size (length bytes)) (nat_le (length bytes) 1048576)
    (and_from (length bytes % sector_size == 0) (nat_le sector_size (length bytes)) (eq-eqb (length bytes % 512) 0 whole) (le-leb 512 (length bytes) (omega arith)))
    (le-leb (length bytes) 1048576 block.most) in
    record {
      types = record {
        places = length-filled_to no_place 3 places found.three;
        birth = born;
        words = sum_four w.sum bytes;
        each_word = sum_fit w.sum bytes;
      };
      ok = and_from _ _ (and_from _ _ (and_from _ _ (and_from _ _ (and_from _ _ (le-leb 1 (length places) found.one) (le-leb (length places) 3 found.three)) present) absent) sized) (le-leb 1 w.birth some);
    }
