-- The bytes of a spot stay where others are changed.
use Rattle.std.proofs.Common.{◌≡◌, ◌≢◌, ℕ, ◌+◌, ◌-◌, ◌<◌, ◌≤◌, min, List, length, take, drop, get_or, unwrap_or, Option, ◌⊎◌, ⊎_elim, sym, ap, ◌∙◌, length-take, length-drop, get_or-take, get_or-drop, arith}
use Rattle.std.proofs.lemmas.Grind.{same_number_lists}
use Rattle.std.proofs.lemmas.Option.{unwrap_or-slice_get}
use Rattle.std.specs.List.{AllByRecursion}
use Rattle.zio_cksum.specs.Frames.{IsCovered, SameOutside}
use Rattle.zio_cksum.specs.Images.{Images, Spot, bytes_at, image_of}
use Rattle.zio_cksum.proofs.AllLemmas.{all_contains}
use Rattle.zio_trace.specs.Leaves.{AreClear}

-- no byte is in two spots that are clear of one another
pub in_one : (t u : Spot) (at : ℕ) → AreClear t u → u.leaf ≡ t.leaf → t.at ≤ at → at < t.at + t.span → u.at ≤ at → at < u.at + u.span → ⊥
in_one t u at clear leaf from below other_from other_below =
    ⊎_elim
    (λ (ne : t.leaf ≢ u.leaf). ne (sym leaf))
    (λ (far : (t.at + t.span ≤ u.at) ⊎ (u.at + u.span ≤ t.at)).
    ⊎_elim (λ (a : t.at + t.span ≤ u.at). absurd (omega arith)) (λ (a : u.at + u.span ≤ t.at). absurd (omega arith)) far)
    clear

-- no other spot has a byte of the front of this one
uncovered : (others : List Spot) (t : Spot) (n i : ℕ) → AllByRecursion (AreClear t) others → n ≤ t.span → i < n → IsCovered others t.leaf (t.at + i) → ⊥
uncovered others t n i clear room low c =
    in_one t c.spot (t.at + i) (all_contains (AreClear t) others c.spot clear c.listed) c.same_leaf (omega arith) (omega arith) c.from c.below

byte_of : (at n i : ℕ) (xs : List ℕ) → i < n → get_or (take n (drop at xs)) i 0 ≡ get_or xs (at + i) 0
byte_of at n i xs h = rw (get_or-take, get_or-drop)

-- the bytes of a spot's front are the same where each is
pub same_front : (old new : Images) (t : Spot) (n : ℕ) → length (image_of new t.leaf) ≡ length (image_of old t.leaf)
    → ((i : ℕ) → i < n → get_or (image_of new t.leaf) (t.at + i) 0 ≡ get_or (image_of old t.leaf) (t.at + i) 0) → bytes_at new t n ≡ bytes_at old t n
same_front old new t n long same =
    let xs : List ℕ = image_of new t.leaf in
    let ys : List ℕ = image_of old t.leaf in
    same_number_lists (take n (drop t.at xs)) (take n (drop t.at ys))
    (simp (length-take, length-drop) (ap (λ (m : ℕ). min n (m - t.at)) long))
    (λ k lt.
    let short : k < n = omega (arith, simp length-take at lt) in
    byte_of t.at n k xs short ∙ same k short ∙ sym (byte_of t.at n k ys short))

pub kept_there : (others : List Spot) (old new : Images) (t : Spot) (n : ℕ) → SameOutside others old new → AllByRecursion (AreClear t) others → n ≤ t.span → bytes_at new t n ≡ bytes_at old t n
kept_there others old new t n same clear room =
    same_front old new t n (same.sizes t.leaf)
    (λ k short.
    sym (unwrap_or-slice_get (image_of new t.leaf) (t.at + k) 0)
    ∙ ap (λ (x : Option ℕ). unwrap_or x 0) (same.bytes t.leaf (t.at + k) (λ covered. uncovered others t n k clear room short covered))
    ∙ unwrap_or-slice_get (image_of old t.leaf) (t.at + k) 0)
