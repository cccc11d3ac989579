-- The pieces that several read: what is to be put on their copies, and that these writes may be made in any order.
use Rattle.std.proofs.Common.{◌≡◌, ℕ, ◌+◌, ◌≤◌, List, [], ◌∷◌, map, false, true, Contains, ◌⊎◌, inl, inr, ⊎_elim, refl, sym, subst, arith}
use Rattle.std.specs.List.{AllByRecursion}
use Rattle.zio_cksum.specs.Blocks.{Pass, found_or, judged, read_pass, repaired}
use Rattle.zio_cksum.specs.Frames.{spots_of}
use Rattle.zio_cksum.specs.Images.{Images, Setting, Spot, read_leaf}
use Rattle.zio_cksum.proofs.AllLemmas.{all_contained, all_contains, all_map, all_weaker}
use Rattle.zio_trace.specs.CopyPrograms.{Program, block_reading}
use Rattle.zio_trace.specs.Leaves.{Answer, AreClear, HaveSizes, LeafOp, LiesOn, Store}
use Rattle.zio_trace.specs.Passing.{Copies}
use Rattle.zio_trace.specs.Readers.{CopiesApart, CopiesLie, RowsArePlain}
use Rattle.zio_trace.specs.Tasks.{ReadCopies, Task, good_by}
use Rattle.zio_trace.specs.Together.{CopiesClear}
use Rattle.zio_trace.proofs.PieceFacts.{IsPiece, bytes_by, is_piece, mended_by}
use Rattle.zio_trace.proofs.PutLemmas.{AreAlike, after_all, done, same_puts}
use Rattle.zio_trace.proofs.ReaderImages.{put_twice}
use Rattle.zio_trace.proofs.ReaderSteps.{First, Idle, Now}

module _ (s : Setting) (before : Images) where
  abbrev pass_of : Copies → Pass
  pass_of c = read_pass s false (good_by c.test) before c.len c.places

  abbrev pub mended_of : Copies → List Spot
  mended_of c = mended_by (pass_of c).found (pass_of c).repairs

  abbrev pub bytes_of : Copies → List ℕ
  bytes_of c = bytes_by (pass_of c).found

  abbrev pub found_of : Copies → Answer
  found_of c = found_or (pass_of c).found (pass_of c).errors

  abbrev pub copies_of : Copies → List Spot
  copies_of c = spots_of s c.places

  abbrev pub reader_of : Copies → Program Answer
  reader_of c = block_reading s true (good_by c.test) c.len c.places

  -- the repairs of a piece
  abbrev pub puts_of : Copies → List LeafOp
  puts_of c = map (λ (u : Spot). Store false (bytes_of c) u) (mended_of c)

  abbrev pub puts_for : Task → List LeafOp
  puts_for (ReadCopies repair test len places) = puts_of (record { test = test; len = len; places = places })
  puts_for _ = []

  pub repaired_after : (bytes : List ℕ) (spots : List Spot) (images : Images) → repaired s false bytes spots images ≡ after_all s (map (λ (u : Spot). Store false bytes u) spots) images
  repaired_after bytes [] images = refl
  repaired_after bytes (u ∷ spots) images = repaired_after bytes spots _

  -- ---- where they are shared well

  module _ (sizes : ℕ → ℕ) (plain : RowsArePlain s.rows) (shared : List Copies) (copies : AllByRecursion (λ (c : Copies). CopiesApart (spots_of s c.places) × CopiesLie sizes c.len (spots_of s c.places)) shared)
      (clear : (c d : Copies) → Contains shared c → Contains shared d → (c ≡ d) ⊎ CopiesClear s c d) (have : HaveSizes sizes before) where
    abbrev pub IsPieceOf : Copies → Type 0
    IsPieceOf c = IsPiece s plain sizes (copies_of c) c.len (good_by c.test) before (mended_of c) (bytes_of c) (found_of c) (reader_of c)

    pub apart_in : (c : Copies) → Contains shared c → CopiesApart (copies_of c)
    apart_in c k = (all_contains (λ (d : Copies). CopiesApart (spots_of s d.places) × CopiesLie sizes d.len (spots_of s d.places)) shared c copies k).0

    pub lie_in : (c : Copies) → Contains shared c → CopiesLie sizes c.len (copies_of c)
    lie_in c k = (all_contains (λ (d : Copies). CopiesApart (spots_of s d.places) × CopiesLie sizes d.len (spots_of s d.places)) shared c copies k).1

    pub piece_of : (c : Copies) → Contains shared c → IsPieceOf c
    piece_of c k = is_piece s sizes (good_by c.test) c.len c.places before plain (apart_in c k) (lie_in c k) have

    abbrev pub FirstAt : Copies → Images → Type 0
    FirstAt c images = First s plain (copies_of c) c.len (good_by c.test) before (mended_of c) (bytes_of c) (found_of c) images

    abbrev pub NowAt : Copies → Images → Type 0
    NowAt c images = Now s plain (copies_of c) c.len (good_by c.test) before (mended_of c) (bytes_of c) (found_of c) images

    abbrev pub IdleAt : Copies → Images → Type 0
    IdleAt c images = Idle s plain (copies_of c) c.len (good_by c.test) before (mended_of c) (bytes_of c) (found_of c) images

    pub first_before : (c : Copies) → FirstAt c before
    first_before c = each (copies_of c)
      where
        each : (us : List Spot) → AllByRecursion (λ (u : Spot). judged (good_by c.test) (read_leaf s false before c.len u) ≡ judged (good_by c.test) (read_leaf s false before c.len u)) us
        each [] = tt
        each (u ∷ us) = (refl, each us)

    -- a repair of one of them
    pub record IsRepair (op : LeafOp) : Type 0 where
      pub piece : Copies
      pub listed : Contains shared piece
      pub spot : Spot
      pub is : op ≡ Store false (bytes_of piece) spot
      pub mends : Contains (mended_of piece) spot

    pub spot_listed : (op : LeafOp) (r : IsRepair op) → Contains (copies_of r.piece) r.spot
    spot_listed op r = all_contains (Contains (copies_of r.piece)) (mended_of r.piece) r.spot (piece_of r.piece r.listed).among r.mends

    pub store_lies : (c : Copies) (u : Spot) → Contains shared c → Contains (copies_of c) u → LiesOn sizes (Store false (bytes_of c) u)
    store_lies c u k l =
        let lies : (c.len ≤ u.span) × (u.at + u.span ≤ sizes u.leaf) = all_contains (λ (v : Spot). (c.len ≤ v.span) × (v.at + v.span ≤ sizes v.leaf)) (copies_of c) u (lie_in c k) l in
        record { room = (omega arith); lies = lies.1 }

    pub repair_lies : (op : LeafOp) → IsRepair op → LiesOn sizes op
    repair_lies op r = subst (LiesOn sizes) (sym r.is) (store_lies r.piece r.spot r.listed (spot_listed op r))

    pub repair_twice : (op : LeafOp) (images : Images) → IsRepair op → HaveSizes sizes images → done s sizes op (done s sizes op images) ≡ done s sizes op images
    repair_twice op images r sized =
        subst (λ (x : LeafOp). done s sizes x (done s sizes x images) ≡ done s sizes x images) (sym r.is)
        (put_twice s sizes plain (bytes_of r.piece) r.spot images (store_lies r.piece r.spot r.listed (spot_listed op r)).lies sized)

    stores_alike : (c d : Copies) (u v : Spot) → Contains shared c → Contains shared d → Contains (copies_of c) u → Contains (copies_of d) v → (c ≡ d) ⊎ CopiesClear s c d → AreAlike (Store false (bytes_of c) u) (Store false (bytes_of d) v)
    stores_alike c d u v kc kd lu lv (inl e) =
        ⊎_elim
        (λ (same : u ≡ v). inl (λ i. Store false (bytes_of (e i)) (same i)))
        (λ (away : AreClear u v). inr away)
        (apart_in d kd u v (subst (λ (x : Copies). Contains (copies_of x) u) e lu) lv)
    stores_alike c d u v kc kd lu lv (inr away) =
        inr (all_contains (AreClear u) (copies_of d) v (all_contains (λ (x : Spot). AllByRecursion (AreClear x) (spots_of s d.places)) (copies_of c) u away lu) lv)

    pub repairs_alike : (a b : LeafOp) → IsRepair a → IsRepair b → AreAlike a b
    repairs_alike a b ra rb =
        subst (λ (x : LeafOp). AreAlike x b) (sym ra.is)
        (subst (AreAlike (Store false (bytes_of ra.piece) ra.spot)) (sym rb.is)
        (stores_alike ra.piece rb.piece ra.spot rb.spot ra.listed rb.listed (spot_listed a ra) (spot_listed b rb) (clear ra.piece rb.piece ra.listed rb.listed)))

    pub puts_repair : (c : Copies) → Contains shared c → AllByRecursion IsRepair (puts_of c)
    puts_repair c k =
        all_map IsRepair (λ (u : Spot). Store false (bytes_of c) u) (mended_of c)
        (all_weaker (Contains (mended_of c)) (λ (u : Spot). IsRepair (Store false (bytes_of c) u)) (mended_of c)
        (λ u m. record { piece = c; listed = k; spot = u; is = refl; mends = m }) (all_contained (mended_of c)))

    -- the same repairs leave the same
    pub same_repairs : (xs ys : List LeafOp) (images : Images) → AllByRecursion IsRepair xs → AllByRecursion IsRepair ys → AllByRecursion (Contains ys) xs → AllByRecursion (Contains xs) ys → HaveSizes sizes images → after_all s xs images ≡ after_all s ys images
    same_repairs xs ys images ix iy xy yx sized = same_puts s sizes IsRepair repair_lies repairs_alike repair_twice xs ys images ix iy xy yx sized
