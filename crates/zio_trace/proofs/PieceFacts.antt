-- What is known of a piece that several read, from what its copies give at first.
use Rattle.std.proofs.Common.{◌≡◌, ℕ, ◌+◌, ◌≤◌, List, [], length, Bool, true, false, Option, Some, None, Result, Ok, IfOk, IsTrue, Contains, refl, ap, subst, arith}
use Rattle.std.specs.List.{AllByRecursion}
use Rattle.zio_types.specs.declared.error.Errno.{Errno}
use Rattle.zio_types.specs.declared.place.Place.{Place}
use Rattle.zio_cksum.specs.Blocks.{Pass, first_pass_with, found_or, read_block, read_pass}
use Rattle.zio_cksum.specs.Frames.{FitSpots, HaveRoom, spots_of}
use Rattle.zio_cksum.specs.Images.{Images, Setting, Spot, image_of}
use Rattle.zio_cksum.proofs.AllLemmas.{all_contained, all_contains, all_weaker}
use Rattle.zio_cksum.proofs.FrameLemmas.{places_among}
use Rattle.zio_cksum.proofs.ReadLemmas.{good_law, size_law}
use Rattle.zio_trace.specs.CopyPrograms.{Program, block_reading}
use Rattle.zio_trace.specs.Leaves.{Answer, HaveSizes}
use Rattle.zio_trace.specs.Readers.{CopiesApart, CopiesLie, RowsArePlain}
use Rattle.zio_trace.proofs.ReaderLemmas.{now_put}
use Rattle.zio_trace.proofs.ReaderPaths.{Follows, Keeps, block_follows_none, block_follows_some, fine_keeps, follows_keeps}
use Rattle.zio_trace.proofs.ReaderPrograms.{block_fine}
use Rattle.zio_trace.proofs.ReadersTogether.{pass_among}
use Rattle.zio_trace.proofs.ReaderSteps.{Now, put}

-- which copies are to be repaired, and with which bytes, by what was found
abbrev pub mended_by : Option (List ℕ) → List Spot → List Spot
mended_by (Some b) repairs = repairs
mended_by None repairs = []

abbrev pub bytes_by : Option (List ℕ) → List ℕ
bytes_by (Some b) = b
bytes_by None = []

-- A reader's program, for which these copies are to be repaired with these bytes, and which ends so.
pub record IsPiece (s : Setting) (plain : RowsArePlain s.rows) (sizes : ℕ → ℕ) (spots : List Spot) (len : ℕ) (good : List ℕ → Bool) (before : Images) (mended : List Spot) (bytes : List ℕ) (found : Answer) (p : Program Answer) : Type 0 where
  pub keeps : Keeps s spots len good before mended bytes found p
  pub follows : Follows s spots len good before mended bytes found p
  pub among : AllByRecursion (Contains spots) mended
  pub stays : (t : Spot) → Contains mended t → (images : Images) → HaveSizes sizes images → Now s plain spots len good before mended bytes found images
      → Now s plain spots len good before mended bytes found (put s plain spots len good before mended bytes found t images)

module _ (s : Setting) (sizes : ℕ → ℕ) (good : List ℕ → Bool) (len : ℕ) (places : List Place) (before : Images) (plain : RowsArePlain s.rows) (apart : CopiesApart (spots_of s places)) (lie : CopiesLie sizes len (spots_of s places)) (have : HaveSizes sizes before) where
  abbrev first : Pass
  first = read_pass s false good before len places

  abbrev IsPieceAs : Option (List ℕ) → Type 0
  IsPieceAs o = IsPiece s plain sizes (spots_of s places) len good before (mended_by o first.repairs) (bytes_by o) (found_or o first.errors) (block_reading s true good len places)

  piece_some : (b : List ℕ) → first.found ≡ Some b → IsPieceAs (Some b)
  piece_some b e =
      let spots : List Spot = spots_of s places in
      let alone : (read_block s true good before len places).found ≡ Ok b =
      ap (λ (o : Option (List ℕ)). (first_pass_with o s true before first (λ retry. read_pass s retry good before len places)).found) e in
      let fits : FitSpots spots before =
      all_weaker (λ (t : Spot). (len ≤ t.span) × (t.at + t.span ≤ sizes t.leaf)) (λ (t : Spot). t.at + t.span ≤ length (image_of before t.leaf)) spots (λ t h. let low : t.at + t.span ≤ sizes t.leaf = h.1 in omega (arith, have t.leaf)) lie in
      let rooms : HaveRoom len spots = all_weaker (λ (t : Spot). (len ≤ t.span) × (t.at + t.span ≤ sizes t.leaf)) (λ (t : Spot). len ≤ t.span) spots (λ t h. h.0) lie in
      let is_good : good b ≡ true = subst (λ (r : Result (List ℕ) Errno). IfOk r (λ x. IsTrue (good x))) alone (good_law s true good before len places) in
      let is_long : length b ≡ len = subst (λ (r : Result (List ℕ) Errno). IfOk r (λ x. length x ≡ len)) alone (size_law s true good before len places rooms fits) in
      let among : AllByRecursion (Contains spots) first.repairs = pass_among spots s good before len places (places_among s places) in
      record {
        keeps = fine_keeps s spots len good before first.repairs b (Ok b) refl (block_reading s true good len places) (block_fine s spots len good before first.repairs b places (places_among s places) e (all_contained first.repairs));
        follows = block_follows_some s spots len good before first.repairs b (Ok b) plain places (places_among s places) e refl refl;
        among = among;
        stays = λ t c images sized now. (now_put s sizes plain spots apart len lie good before first.repairs b is_good is_long among have t images c (record { sized = sized; each = now })).each;
      }

  piece_none : first.found ≡ None → IsPieceAs None
  piece_none e =
      let spots : List Spot = spots_of s places in
      let follows = block_follows_none s spots len good before [] [] (found_or None first.errors) plain places (places_among s places) e refl refl in
      record {
        keeps = follows_keeps s spots len good before [] [] (found_or None first.errors) refl (block_reading s true good len places) follows;
        follows = follows;
        among = tt;
        stays = λ t c images sized now. absurd (all_contains (λ (u : Spot). ⊥) [] t tt c);
      }

  piece_by : (o : Option (List ℕ)) → first.found ≡ o → IsPieceAs o
  piece_by (Some b) e = piece_some b e
  piece_by None e = piece_none e

  pub is_piece : IsPieceAs first.found
  is_piece = piece_by first.found refl
