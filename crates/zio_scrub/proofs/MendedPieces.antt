-- Where no row holds, a scrub leaves all copies good of each piece that had a good one.
use Rattle.std.proofs.Common.{◌≡◌, ℕ, zero, suc, ◌+◌, ◌<◌, ◌≤◌, List, [], ◌∷◌, length, length-drop, map, take, drop, find, Bool, true, false, ◌&&◌, ◌==◌, not, cond, nat_lt, nat_le, Option, Some, None, option_map, Result, Ok, Err, IsOk, IsSome, Contains, ◌⊎◌, inl, inr, ⊎_elim, refl, sym, ap, subst, ◌∙◌, arith}
use Rattle.std.specs.List.{AllByRecursion, flat_map}
use Rattle.std.proofs.lemmas.Bool.{cases_lt}
use Rattle.std.proofs.lemmas.List.{length-take}
use Rattle.zio_types.specs.declared.error.Errno.{Errno}
use Rattle.zio_faults.specs.declared.table.Hit.{Hit}
use Rattle.zio_faults.specs.declared.table.Operation.{Operation}
use Rattle.zio_faults.specs.declared.table.Row.{Row}
use Rattle.zio_faults.specs.Hits.{common_end, common_start, hit_on, is_for, selects}
use Rattle.zio_cksum.specs.Blocks.{judged, judged_by}
use Rattle.zio_cksum.specs.Images.{Images, Setting, Spot, bytes_at, image_of, met, overwritten, padded_to, read_leaf, read_met, with_bytes, write_leaf, write_met}
use Rattle.zio_cksum.proofs.AllLemmas.{all_append, all_contained, all_contains}
use Rattle.zio_cksum.proofs.ByteLemmas.{image_of_same, length-padded_to}
use Rattle.zio_gang.specs.Pieces.{Piece}
use Rattle.zio_trace.specs.Leaves.{AreClear, Fetch, HaveSizes, LiesOn, Store}
use Rattle.zio_trace.specs.TreeOrders.{Pairs}
use Rattle.zio_trace.proofs.ByteLemmas.{front_padded, read_written}
use Rattle.zio_trace.proofs.LeafLemmas.{leaves_commute}
use Rattle.zio_trace.proofs.ListLemmas.{all_front, all_rest, contains_first, contains_later}
use Rattle.zio_trace.proofs.PairLemmas.{all_of, contains_flat, flat_contains, pairs_across, pairs_front, pairs_rest}
use Rattle.zio_trace.proofs.SpotLemmas.{clear_turned}
use Rattle.zio_scrub.specs.declared.repairs.Repair.{Repair}
use Rattle.zio_scrub.specs.Ends.{IsGoodCopy, IsMended, NoRowHolds}
use Rattle.zio_scrub.specs.Scrubs.{PieceLies, all_repairs, bad_among, bad_if, copies_of, copy_read, first_found, mend, repairs_of, repairs_with, scrub_pieces}
use Rattle.zio_scrub.proofs.MendLemmas.{as_store, lies_as_store, mend_elsewhere, mend_sizes, piece_same, repairs_in, scrub_is}

-- ---- no row is met

fourth_off : (a b c e f : Bool) → (a && b && c && false && e && f) ≡ false
fourth_off false b c e f = refl
fourth_off true false c e f = refl
fourth_off true true false e f = refl
fourth_off true true true e f = refl

fifth_off : (a b c d f : Bool) → (a && b && c && d && false && f) ≡ false
fifth_off false b c d f = refl
fifth_off true false c d f = refl
fifth_off true true false d f = refl
fifth_off true true true false f = refl
fifth_off true true true true f = refl

too_late : (from point : ℕ) → point < from → nat_le from point ≡ false
too_late from point h = search (arith, h)

over : (point until : ℕ) → until ≤ point → nat_lt point until ≡ false
over point until h = search (arith, h)

not_met : (o : Operation) (row : Row) → (o.point < row.from) ⊎ (row.until ≤ o.point) → selects row o ≡ false
not_met o row (inl early) =
    ap (λ (b : Bool). (row.leaf == o.leaf) && is_for row.on o.write && nat_lt (common_start row o) (common_end row o) && b && nat_lt o.point row.until && not (row.first && o.retry))
    (too_late row.from o.point early)
    ∙ fourth_off (row.leaf == o.leaf) (is_for row.on o.write) (nat_lt (common_start row o) (common_end row o)) (nat_lt o.point row.until) (not (row.first && o.retry))
not_met o row (inr late) =
    ap (λ (b : Bool). (row.leaf == o.leaf) && is_for row.on o.write && nat_lt (common_start row o) (common_end row o) && nat_le row.from o.point && b && not (row.first && o.retry))
    (over o.point row.until late)
    ∙ fifth_off (row.leaf == o.leaf) (is_for row.on o.write) (nat_lt (common_start row o) (common_end row o)) (nat_le row.from o.point) (not (row.first && o.retry))

none_found : (o : Operation) (rows : List Row) → AllByRecursion (λ (row : Row). (o.point < row.from) ⊎ (row.until ≤ o.point)) rows
    → find (λ (row : Row). selects row o) rows ≡ None
none_found o [] h = refl
none_found o (row ∷ rows) h =
    ap (λ (b : Bool). cond b (Some row) (find (λ (r : Row). selects r o) rows)) (not_met o row h.0) ∙ none_found o rows h.1

none_met : (s : Setting) (write : Bool) (u : Spot) → NoRowHolds s → met s false write u ≡ None
none_met s write u h =
    let o : Operation = record { leaf = u.leaf; write = write; at = u.at; len = u.span; point = s.point; retry = false } in
    ap (option_map (hit_on o)) (none_found o s.rows h)

read_there : (s : Setting) (images : Images) (len : ℕ) (u : Spot) → NoRowHolds s → read_leaf s false images len u ≡ Ok (bytes_at images u len)
read_there s images len u h = ap (λ (hit : Option Hit). read_met hit u.at (bytes_at images u len)) (none_met s false u h)

written_there : (s : Setting) (images : Images) (bytes : List ℕ) (u : Spot) → NoRowHolds s
    → (write_leaf s false bytes images u).images ≡ with_bytes images u (padded_to u.span bytes)
written_there s images bytes u h = ap (λ (hit : Option Hit). (write_met hit images u (padded_to u.span bytes)).images) (none_met s true u h)

-- ---- a copy that was written is read back

no_bytes : (bytes : List ℕ) → length bytes ≡ 0 → bytes ≡ []
no_bytes [] e = refl
no_bytes (b ∷ bytes) e = absurd (omega arith)

take_none : {X : Type 0} (n : ℕ) (xs : List X) → n ≡ 0 → take n xs ≡ []
take_none zero xs e = refl
take_none (suc n) xs e = absurd (omega arith)

read_back : (images : Images) (u : Spot) (bytes : List ℕ) → length bytes ≤ u.span → u.at + u.span ≤ length (image_of images u.leaf)
    → bytes_at (with_bytes images u (padded_to u.span bytes)) u (length bytes) ≡ bytes
read_back images u bytes room fits =
    let vs : List ℕ = padded_to u.span bytes in
    let image : List ℕ = image_of images u.leaf in
    let long : length vs ≡ u.span = length-padded_to u.span bytes in
    ⊎_elim
    (λ (there : u.leaf < length images).
    ap (λ (i : List ℕ). take (length bytes) (drop u.at i)) (image_of_same images u.leaf (overwritten image u.at vs) there)
    ∙ read_written image vs u.at (length bytes) (omega arith) (omega arith)
    ∙ front_padded u.span bytes room)
    (λ (past : length images ≤ u.leaf).
    let none : length image ≡ 0 = ap (λ (i : List ℕ). length i) (past_images images u.leaf past) in
    let nothing : length bytes ≡ 0 = omega arith in
    take_none (length bytes) (drop u.at (image_of (with_bytes images u vs) u.leaf)) nothing ∙ sym (no_bytes bytes nothing))
    (cases_lt u.leaf (length images))
  where
    past_images : (images : Images) (leaf : ℕ) → length images ≤ leaf → image_of images leaf ≡ []
    past_images [] leaf h = refl
    past_images (i ∷ images) zero h = absurd (omega arith)
    past_images (i ∷ images) (suc leaf) h = past_images images leaf (omega arith)

-- ---- what was found

judged_good : (good : List ℕ → Bool) (x bytes : List ℕ) → judged good (Ok x) ≡ Ok bytes → (good bytes ≡ true) × (x ≡ bytes)
judged_good good x bytes is = by (good x) refl is
  where
    by : (t : Bool) → good x ≡ t → judged_by t x ≡ Ok bytes → (good bytes ≡ true) × (x ≡ bytes)
    by true passed same = let eq : x ≡ bytes = cc in (subst (λ (b : List ℕ). good b ≡ true) eq passed, eq)
    by false passed same = absurd (let no : ⊥ = cc in no)

-- the first that was found is one of the reads
found_from : (read : Spot → Result (List ℕ) Errno) (us : List Spot) (bytes : List ℕ) → first_found (map read us) ≡ Some bytes
    → (u : Spot) × Contains us u × (read u ≡ Ok bytes)
found_from read [] bytes e = absurd (let no : ⊥ = cc in no)
found_from read (u ∷ us) bytes e = by (read u) refl e (found_from read us bytes)
  where
    by : (r : Result (List ℕ) Errno) → read u ≡ r → first_found (r ∷ map read us) ≡ Some bytes
        → (first_found (map read us) ≡ Some bytes → (v : Spot) × Contains us v × (read v ≡ Ok bytes))
        → (v : Spot) × Contains (u ∷ us) v × (read v ≡ Ok bytes)
    by (Ok b) is f rest = let all : read u ≡ Ok bytes = cc in (u, contains_first u us, all)
    by (Err x) is f rest = let k = rest f in (k.0, contains_later u us k.0 k.1, k.2)

some_of : (o : Option (List ℕ)) → IsSome o → (bytes : List ℕ) × (o ≡ Some bytes)
some_of None h = absurd (let no : ⊥ = cc in no)
some_of (Some bytes) h = (bytes, refl)

-- ---- one piece

module _ (s : Setting) (sizes : ℕ → ℕ) (quiet : NoRowHolds s) (p : Piece) where
  abbrev Lies : Spot → Type 0
  Lies u = LiesOn sizes (Fetch false p.size u)

  -- these bytes are good, and as many as the piece has
  record AreGiven (bytes : List ℕ) : Type 0 where
    good : p.good bytes ≡ true
    size : length bytes ≡ p.size

  there : (images : Images) (u : Spot) → HaveSizes sizes images → Lies u → u.at + u.span ≤ length (image_of images u.leaf)
  there images u have lies = let a = lies.lies in omega (arith, have u.leaf)

  given : (images : Images) (us : List Spot) (bytes : List ℕ) → HaveSizes sizes images → AllByRecursion Lies us
      → first_found (map (copy_read s images p) us) ≡ Some bytes → AreGiven bytes
  given images us bytes have lie e =
      let f = found_from (copy_read s images p) us bytes e in
      let lies : Lies f.0 = all_contains Lies us f.0 lie f.1 in
      let read : judged p.good (Ok (bytes_at images f.0 p.size)) ≡ Ok bytes =
      ap (judged p.good) (sym (read_there s images p.size f.0 quiet)) ∙ f.2 in
      let k = judged_good p.good (bytes_at images f.0 p.size) bytes read in
      let fits = there images f.0 have lies in
      let room = lies.room in
      record {
        good = k.0;
        size = sym (ap (λ (b : List ℕ). length b) k.1)
            ∙ simp (length-take, length-drop) (omega arith);
      }

  good_after : (images : Images) (u : Spot) (bytes : List ℕ) → HaveSizes sizes images → Lies u → AreGiven bytes
      → IsGoodCopy s (write_leaf s false bytes images u).images p u
  good_after images u bytes have lies is =
      let now : Images = (write_leaf s false bytes images u).images in
      let room = lies.room in
      let long = is.size in
      let back : bytes_at now u p.size ≡ bytes =
      ap (λ (i : Images). bytes_at i u p.size) (written_there s images bytes u quiet)
      ∙ ap (λ (n : ℕ). bytes_at (with_bytes images u (padded_to u.span bytes)) u n) (sym long)
      ∙ read_back images u bytes (omega arith) (there images u have lies) in
      let read : copy_read s now p u ≡ judged p.good (Ok bytes) = ap (judged p.good) (read_there s now p.size u quiet) ∙ ap (λ (b : List ℕ). judged_by (p.good b) b) back in
      subst (λ (r : Result (List ℕ) Errno). IsOk r) (sym read) (subst (λ (t : Bool). IsOk (judged_by t bytes)) (sym is.good) refl)

  -- the repairs of some copies with these bytes
  abbrev writes : List ℕ → List Spot → List Repair
  writes bytes us = map (λ (u : Spot). record { spot = u; bytes = bytes }) us

  clear_of : (bytes : List ℕ) (u : Spot) (us : List Spot) → AllByRecursion (AreClear u) us → AllByRecursion (λ (r : Repair). AreClear r.spot u) (writes bytes us)
  clear_of bytes u [] h = tt
  clear_of bytes u (v ∷ vs) h = (clear_turned u v h.0, clear_of bytes u vs h.1)

  lie_of : (bytes : List ℕ) (us : List Spot) → AllByRecursion Lies us → AllByRecursion (λ (r : Repair). LiesOn sizes (as_store r)) (writes bytes us)
  lie_of bytes [] h = tt
  lie_of bytes (u ∷ us) h = (record { room = omega arith; lies = h.0.lies }, lie_of bytes us h.1)

  bad_all : (P : Spot → Type 0) (read : Spot → Result (List ℕ) Errno) (us : List Spot) → AllByRecursion P us → AllByRecursion P (bad_among read us)
  bad_all P read [] h = tt
  bad_all P read (u ∷ us) h = by (read u) (bad_all P read us h.1)
    where
      by : (r : Result (List ℕ) Errno) → AllByRecursion P (bad_among read us) → AllByRecursion P (bad_if r u (bad_among read us))
      by (Ok b) k = k
      by (Err e) k = (h.0, k)

  -- a copy that the repairs of others leave alone
  still : (images : Images) (u : Spot) (bytes : List ℕ) (us : List Spot) → HaveSizes sizes images → Lies u → AllByRecursion Lies us → AllByRecursion (AreClear u) us
      → copy_read s (mend s (writes bytes us) images).images p u ≡ copy_read s images p u
  still images u bytes us have lies lie clear =
      ap (judged p.good) (mend_elsewhere s sizes (writes bytes us) images p.size u have lies (lie_of bytes us lie) (clear_of bytes u us clear))

  -- copies that are read as they were before all repairs
  copies_mended : (read : Spot → Result (List ℕ) Errno) (bytes : List ℕ) (us : List Spot) (images : Images) → AreGiven bytes → HaveSizes sizes images
      → AllByRecursion Lies us → Pairs AreClear us → AllByRecursion (λ (u : Spot). copy_read s images p u ≡ read u) us
      → AllByRecursion (IsGoodCopy s (mend s (writes bytes (bad_among read us)) images).images p) us
  copies_mended read bytes [] images is have lie clear same = tt
  copies_mended read bytes (u ∷ us) images is have lie clear same =
      by (read u) refl
      (copies_mended read bytes us images is have lie.1 clear.1 same.1)
      (λ sized others. copies_mended read bytes us (write_leaf s false bytes images u).images is sized lie.1 clear.1 others)
    where
      others : (vs : List Spot) → AllByRecursion Lies vs → AllByRecursion (AreClear u) vs → AllByRecursion (λ (v : Spot). copy_read s images p v ≡ read v) vs
          → AllByRecursion (λ (v : Spot). copy_read s (write_leaf s false bytes images u).images p v ≡ read v) vs
      others [] l c h = tt
      others (v ∷ vs) l c h = (
        still images v bytes (u ∷ []) have l.0 (lie.0, tt) (clear_turned u v c.0, tt) ∙ h.0,
        others vs l.1 c.1 h.1,
      )

      by : (r : Result (List ℕ) Errno) → read u ≡ r
          → AllByRecursion (IsGoodCopy s (mend s (writes bytes (bad_among read us)) images).images p) us
          → (HaveSizes sizes (write_leaf s false bytes images u).images → AllByRecursion (λ (v : Spot). copy_read s (write_leaf s false bytes images u).images p v ≡ read v) us
          → AllByRecursion (IsGoodCopy s (mend s (writes bytes (bad_among read us)) (write_leaf s false bytes images u).images).images p) us)
          → AllByRecursion (IsGoodCopy s (mend s (writes bytes (bad_if r u (bad_among read us))) images).images p) (u ∷ us)
      by (Ok b) e rest after =
          let kept = still images u bytes (bad_among read us) have lie.0 (bad_all Lies read us lie.1) (bad_all (AreClear u) read us clear.0) in
          let found : copy_read s (mend s (writes bytes (bad_among read us)) images).images p u ≡ Ok b = kept ∙ same.0 ∙ e in
          (subst (λ (x : Result (List ℕ) Errno). IsOk x) (sym found) refl, rest)
      by (Err x) e rest after =
          let now : Images = (write_leaf s false bytes images u).images in
          let sized : HaveSizes sizes now = (leaves_commute s sizes).sound (Store false bytes u) images have (record { room = omega arith; lies = lie.0.lies }) in
          let kept = still now u bytes (bad_among read us) sized lie.0 (bad_all Lies read us lie.1) (bad_all (AreClear u) read us clear.0) in (
            subst (λ (x : Result (List ℕ) Errno). IsOk x) (sym kept) (good_after images u bytes have lie.0 is),
            after sized (others us lie.1 clear.0 same.1),
          )

  itself : (images : Images) (us : List Spot) → AllByRecursion (λ (u : Spot). copy_read s images p u ≡ copy_read s images p u) us
  itself images [] = tt
  itself images (u ∷ us) = (refl, itself images us)

  -- the repairs of a piece that has a good copy make all its copies good
  pub piece_mended : (images : Images) → HaveSizes sizes images → AllByRecursion Lies (copies_of s p) → Pairs AreClear (copies_of s p)
      → IsMended s images (mend s (repairs_of s images p) images).images p
  piece_mended images have lie clear some =
      let us : List Spot = copies_of s p in
      let found = some_of (first_found (map (copy_read s images p) us)) some in
      subst (λ (o : Option (List ℕ)). AllByRecursion (IsGoodCopy s (mend s (repairs_with o (bad_among (copy_read s images p) us)) images).images p) us) (sym found.1)
      (copies_mended (copy_read s images p) found.0 us images (given images us found.0 have lie found.1) have lie clear (itself images us))

-- ---- all pieces

-- what is good stays so under repairs elsewhere
good_still : (s : Setting) (sizes : ℕ → ℕ) (rs : List Repair) (images : Images) (p : Piece) (us : List Spot) → HaveSizes sizes images
    → AllByRecursion (λ (u : Spot). LiesOn sizes (Fetch false p.size u)) us → AllByRecursion (λ (r : Repair). LiesOn sizes (as_store r)) rs
    → AllByRecursion (λ (u : Spot). AllByRecursion (λ (r : Repair). AreClear r.spot u) rs) us → AllByRecursion (IsGoodCopy s images p) us
    → AllByRecursion (IsGoodCopy s (mend s rs images).images p) us
good_still s sizes rs images p [] have lie all clear h = tt
good_still s sizes rs images p (u ∷ us) have lie all clear h = (
  subst (λ (r : Result (List ℕ) Errno). IsOk r) (sym (ap (judged p.good) (mend_elsewhere s sizes rs images p.size u have lie.0 all clear.0))) h.0,
  good_still s sizes rs images p us have lie.1 all clear.1 h.1,
)

-- what was good before repairs elsewhere is so after them
mended_before : (s : Setting) (sizes : ℕ → ℕ) (rs : List Repair) (images after : Images) (qs : List Piece) → HaveSizes sizes images
    → AllByRecursion (PieceLies sizes s) qs → AllByRecursion (λ (r : Repair). LiesOn sizes (as_store r)) rs
    → AllByRecursion (λ (u : Spot). AllByRecursion (λ (r : Repair). AreClear r.spot u) rs) (flat_map (copies_of s) qs)
    → AllByRecursion (IsMended s (mend s rs images).images after) qs → AllByRecursion (IsMended s images after) qs
mended_before s sizes rs images after [] have lies all clear h = tt
mended_before s sizes rs images after (q ∷ qs) have lies all clear h = (
  λ some. h.0 (subst (λ (reads : List (Result (List ℕ) Errno)). IsSome (first_found reads)) (sym same.0) some),
  mended_before s sizes rs images after qs have lies.1 all (all_rest P (copies_of s q) (flat_map (copies_of s) qs) clear) h.1,
)
  where
    P : Spot → Type 0
    P = λ (u : Spot). AllByRecursion (λ (r : Repair). AreClear r.spot u) rs

    same : (map (copy_read s (mend s rs images).images q) (copies_of s q) ≡ map (copy_read s images q) (copies_of s q))
        × (bad_among (copy_read s (mend s rs images).images q) (copies_of s q) ≡ bad_among (copy_read s images q) (copies_of s q))
    same = piece_same s sizes rs images q have lies.0 all (all_front P (copies_of s q) (flat_map (copies_of s) qs) clear)

-- A scrub leaves all copies good of each piece that had a good one.
pub all_mended : (s : Setting) (sizes : ℕ → ℕ) (ps : List Piece) (images : Images) → NoRowHolds s → HaveSizes sizes images
    → AllByRecursion (PieceLies sizes s) ps → Pairs AreClear (flat_map (copies_of s) ps)
    → AllByRecursion (IsMended s images (scrub_pieces s ps images).images) ps
all_mended s sizes [] images quiet have lies pairs = tt
all_mended s sizes (p ∷ ps) images quiet have lies pairs =
    let us : List Spot = copies_of s p in
    let vs : List Spot = flat_map (copies_of s) ps in
    let rs : List Repair = repairs_of s images p in
    let now : Images = (mend s rs images).images in
    let stores = lies_as_store sizes s images p lies.0 in
    let sized : HaveSizes sizes now = mend_sizes s sizes rs images have stores in
    let rest_pairs : Pairs AreClear vs = pairs_rest AreClear us vs pairs in
    let later : List Repair = all_repairs s now ps in
    let after : (scrub_pieces s ps now).images ≡ (mend s later now).images = (scrub_is s sizes now ps sized lies.1 rest_pairs).images_are in
    let behind : AllByRecursion (λ (u : Spot). AllByRecursion (λ (r : Repair). AreClear r.spot u) later) us =
    all_of _ us
    (λ u cu. all_of (λ (r : Repair). AreClear r.spot u) later
    (λ r cr. clear_turned u r.spot (pairs_across AreClear us vs u r.spot pairs cu (later_spot r cr)))) in
    let before : AllByRecursion (λ (u : Spot). AllByRecursion (λ (r : Repair). AreClear r.spot u) rs) vs =
    all_of _ vs
    (λ u cu. all_of (λ (r : Repair). AreClear r.spot u) rs
    (λ r cr. pairs_across AreClear us vs r.spot u pairs
    (all_contains (λ (x : Repair). Contains us x.spot) rs r (repairs_in (Contains us) s images p (all_contained us)) cr) cu)) in (
      λ some. subst (λ (i : Images). AllByRecursion (IsGoodCopy s i p) us) (sym after)
          (good_still s sizes later now p us sized lies.0 (later_lie ps now lies.1) behind
          (piece_mended s sizes quiet p images have lies.0 (pairs_front AreClear us vs pairs) some)),
      mended_before s sizes rs images (scrub_pieces s ps now).images ps have lies.1 stores before
          (all_mended s sizes ps now quiet sized lies.1 rest_pairs),
    )
  where
    later_spot : (r : Repair) → Contains (all_repairs s (mend s (repairs_of s images p) images).images ps) r → Contains (flat_map (copies_of s) ps) r.spot
    later_spot r c =
        let now : Images = (mend s (repairs_of s images p) images).images in
        let q = contains_flat (repairs_of s now) ps r c in
        flat_contains (copies_of s) ps q.0 r.spot q.1
        (all_contains (λ (x : Repair). Contains (copies_of s q.0) x.spot) (repairs_of s now q.0) r
        (repairs_in (Contains (copies_of s q.0)) s now q.0 (all_contained (copies_of s q.0))) q.2)

    later_lie : (qs : List Piece) (now : Images) → AllByRecursion (PieceLies sizes s) qs → AllByRecursion (λ (r : Repair). LiesOn sizes (as_store r)) (all_repairs s now qs)
    later_lie [] now h = tt
    later_lie (q ∷ qs) now h = all_append _ (repairs_of s now q) (all_repairs s now qs) (lies_as_store sizes s now q h.0) (later_lie qs now h.1)
