-- A copy stays where bytes are changed elsewhere.
use Rattle.std.proofs.Common.{◌≡◌, ◌≢◌, ℕ, zero, suc, ◌+◌, ◌<◌, ◌≤◌, List, [], ◌∷◌, length, take, drop, slice_get, Bool, Some, None, ◌⊎◌, ⊎_elim, refl, sym, ap, ◌∙◌, arith}
use Rattle.std.specs.List.{AllByRecursion}
use Rattle.zio_types.specs.declared.place.Place.{Place}
use Rattle.zio_cksum.specs.Blocks.{read_block, write_piece}
use Rattle.zio_cksum.specs.Frames.{FitSpots, HaveRoom, IsCovered, SameOutside, spots_of}
use Rattle.zio_cksum.specs.Images.{Images, Setting, Spot, bytes_at, image_of}
use Rattle.zio_cksum.proofs.AllLemmas.{all_contains}
use Rattle.zio_cksum.proofs.ReadLemmas.{reads_law}
use Rattle.zio_cksum.proofs.WriteLemmas.{writes_law}
use Rattle.zio_trace.specs.Leaves.{AreClear}
use Rattle.zio_heal.specs.Copies.{AreElsewhere, HasCopy}

-- ---- ranges of bytes

-- lists that have the same items below n begin with the same n
same_fronts : (n : ℕ) (xs ys : List ℕ) → ((i : ℕ) → i < n → slice_get xs i ≡ slice_get ys i) → take n xs ≡ take n ys
same_fronts zero xs ys h = refl
same_fronts (suc n) [] [] h = refl
same_fronts (suc n) [] (y ∷ ys) h = let e : Some y ≡ None = sym (h zero (omega arith)) in absurd (cc)
same_fronts (suc n) (x ∷ xs) [] h = let e : Some x ≡ None = h zero (omega arith) in absurd (cc)
same_fronts (suc n) (x ∷ xs) (y ∷ ys) h =
    let e : Some x ≡ Some y = h zero (omega arith) in
    let same : x ≡ y = cc in
    ap (λ (z : ℕ). z ∷ take n xs) same ∙ ap (λ (zs : List ℕ). y ∷ zs) (same_fronts n xs ys (λ i lt. h (suc i) (omega arith)))

behind : List ℕ → List ℕ
behind [] = []
behind (x ∷ xs) = xs

drop_behind : (n : ℕ) (xs : List ℕ) → drop (suc n) xs ≡ drop n (behind xs)
unfolding behind
drop_behind zero [] = refl
drop_behind (suc n) [] = refl
drop_behind n (x ∷ xs) = refl

get_behind : (i : ℕ) (xs : List ℕ) → slice_get xs (suc i) ≡ slice_get (behind xs) i
unfolding behind
get_behind i [] = refl
get_behind i (x ∷ xs) = refl

-- the same for a range further on
same_ranges : (at n : ℕ) (xs ys : List ℕ) → ((i : ℕ) → at ≤ i → i < at + n → slice_get xs i ≡ slice_get ys i) → take n (drop at xs) ≡ take n (drop at ys)
same_ranges zero n xs ys h = same_fronts n xs ys (λ i lt. h i (omega arith) (omega arith))
same_ranges (suc at) n xs ys h =
    ap (take n) (drop_behind at xs)
    ∙ same_ranges at n (behind xs) (behind ys)
    (λ i low high. sym (get_behind i xs) ∙ h (suc i) (omega arith) (omega arith) ∙ get_behind i ys)
    ∙ sym (ap (take n) (drop_behind at ys))

-- ---- bytes elsewhere

uncovered : (others : List Spot) (t : Spot) (n i : ℕ) → AllByRecursion (AreClear t) others → n ≤ t.span → t.at ≤ i → i < t.at + n → IsCovered others t.leaf i → ⊥
uncovered others t n i clear room low high c =
    let u : Spot = c.spot in
    let leaf : u.leaf ≡ t.leaf = c.same_leaf in
    let from : u.at ≤ i = c.from in
    let below : i < u.at + u.span = c.below in
    ⊎_elim
    (λ (ne : t.leaf ≢ u.leaf). ne (sym leaf))
    (λ (far : (t.at + t.span ≤ u.at) ⊎ (u.at + u.span ≤ t.at)).
    ⊎_elim (λ (a : t.at + t.span ≤ u.at). absurd (omega arith)) (λ (a : u.at + u.span ≤ t.at). absurd (omega arith)) far)
    (all_contains (AreClear t) others u clear c.listed)

-- the front of a spot stays where no other spot meets it
pub kept_there : (others : List Spot) (old new : Images) (t : Spot) (n : ℕ) → SameOutside others old new → AllByRecursion (AreClear t) others → n ≤ t.span → bytes_at new t n ≡ bytes_at old t n
kept_there others old new t n same clear room =
    same_ranges t.at n (image_of new t.leaf) (image_of old t.leaf)
    (λ i low high. same.bytes t.leaf i (λ covered. uncovered others t n i clear room low high covered))

-- ---- the law

pub outside_law : (spots others : List Spot) (bytes : List ℕ) (old new : Images) → HaveRoom (length bytes) spots → AreElsewhere spots others → SameOutside others old new → HasCopy spots bytes old → HasCopy spots bytes new
outside_law spots others bytes old new room clear same copy = record {
  spot = copy.spot;
  listed = copy.listed;
  there =
      kept_there others old new copy.spot (length bytes) same
      (all_contains (λ (t : Spot). AllByRecursion (AreClear t) others) spots copy.spot clear copy.listed)
      (all_contains (λ (t : Spot). length bytes ≤ t.span) spots copy.spot room copy.listed)
      ∙ copy.there;
}

pub reads_keep : (s : Setting) (repair : Bool) (good : List ℕ → Bool) (len : ℕ) (places : List Place) (spots : List Spot) (bytes : List ℕ) (images : Images) → FitSpots (spots_of s places) images → HaveRoom (length bytes) spots → AreElsewhere spots (spots_of s places) → HasCopy spots bytes images → HasCopy spots bytes (read_block s repair good images len places).images
reads_keep s repair good len places spots bytes images fit room clear copy =
    outside_law spots (spots_of s places) bytes images (read_block s repair good images len places).images room clear
    (reads_law s repair good images len places fit) copy

pub writes_keep : (s : Setting) (given : List ℕ) (places : List Place) (spots : List Spot) (bytes : List ℕ) (images : Images) → FitSpots (spots_of s places) images → HaveRoom (length bytes) spots → AreElsewhere spots (spots_of s places) → HasCopy spots bytes images → HasCopy spots bytes (write_piece s given places images).images
writes_keep s given places spots bytes images fit room clear copy =
    outside_law spots (spots_of s places) bytes images (write_piece s given places images).images room clear
    (writes_law s given places images fit) copy
