-- The sectors of tops by the sizes of their leaves, and the leaves that have images.
use Rattle.std.proofs.Common.{◌≡◌, ◌<◌, ◌≤◌, ℕ, zero, suc, ◌-◌, ◌*◌, ◌/◌, min, List, [], ◌∷◌, ◌++◌, Option, Some, None, get_or, length, take, drop, refl, sym, ap, ◌∙◌, subst, arith, append_assoc}
use Rattle.std.specs.List.{AllByRecursion}
use Rattle.std.specs.Prelude.{MatchOption, slice_index_or}
use Rattle.std.proofs.lemmas.List.{take_all}
use Rattle.zio_types.specs.Places.{sector_size}
use Rattle.zio_cksum.proofs.AllLemmas.{all_append, all_weaker}
use Rattle.zio_script.specs.declared.script.TopLine.{TopLine}
use Rattle.zio_command.specs.Tops.{HaveImages, IsFirstMissing, leaves_of}

pub all_at : {X : Type 0} (P : X → Type 0) (xs : List X) (k : ℕ) (x : X) → AllByRecursion P xs → k < length xs → x ≡ get_or xs k x → P x
all_at P [] k x a inside is = let l : k < 0 = inside in absurd (omega arith)
all_at P (y ∷ xs) zero x a inside is = subst P (sym is) a.0
all_at P (y ∷ xs) (suc k) x a inside is = all_at P xs k x a.1 (let l : suc k < suc (length xs) = inside in omega arith) is

pub all_index : (P : ℕ → Type 0) (xs : List ℕ) (k : ℕ) → AllByRecursion P xs → k < length xs → P (get_or xs k 0)
all_index P [] k all inside = let l : k < 0 = inside in absurd (omega arith)
all_index P (x ∷ xs) zero all inside = all.0
all_index P (x ∷ xs) (suc k) all inside = all_index P xs k all.1 (let l : suc k < suc (length xs) = inside in omega arith)

-- ---- leaves with images

pub all_front : {X : Type 0} (P : X → Type 0) (xs ys : List X) → AllByRecursion P (xs ++ ys) → AllByRecursion P xs × AllByRecursion P ys
all_front P [] ys h = (tt, h)
all_front P (x ∷ xs) ys h = let rest = all_front P xs ys h.1 in ((h.0, rest.0), rest.1)

pub HaveImages-lines : (images : ℕ) (lines : List TopLine) → HaveImages images (leaves_of lines)
    → AllByRecursion (λ (line : TopLine). HaveImages images line.leaves) lines
HaveImages-lines images [] have = tt
HaveImages-lines images (line ∷ lines) have =
    let parts = all_front (λ leaf. leaf < images) line.leaves (leaves_of lines) have in
    (parts.0, HaveImages-lines images lines parts.1)

-- the first without one may stand behind others
pub IsFirstMissing-behind : (images : ℕ) (leaves more : List ℕ) (leaf : ℕ) → HaveImages images leaves → IsFirstMissing images more leaf
    → IsFirstMissing images (leaves ++ more) leaf
IsFirstMissing-behind images leaves more leaf here first = record {
  front = leaves ++ first.front;
  behind = first.behind;
  leaves_are = ap (λ (xs : List ℕ). leaves ++ xs) first.leaves_are ∙ sym (simp append_assoc);
  named = all_append (λ n. n < images) leaves first.front here first.named;
  missing = first.missing;
}

-- numbers that aren't none are the first and the rest
pub numbers_split : (xs : List ℕ) → 1 ≤ length xs → xs ≡ slice_index_or xs 0 0 ∷ take (length xs - 1) (drop 1 xs)
numbers_split [] some = absurd (let l : 1 ≤ 0 = some in omega arith)
numbers_split (x ∷ xs) some = ap (λ (ys : List ℕ). x ∷ ys) (sym (take_all (suc (length xs) - 1) xs (omega arith)))

pub IsFirstMissing-first : (images leaf : ℕ) (rest : List ℕ) → images ≤ leaf → IsFirstMissing images (leaf ∷ rest) leaf
IsFirstMissing-first images leaf rest none = record { front = []; behind = rest; leaves_are = refl; named = tt; missing = none }

pub missing_behind : (images leaf : ℕ) (rest : List ℕ) (r : Option ℕ) → leaf < images → MatchOption r (HaveImages images rest) (IsFirstMissing images rest)
    → MatchOption r (HaveImages images (leaf ∷ rest)) (IsFirstMissing images (leaf ∷ rest))
missing_behind images leaf rest None here h = (here, h)
missing_behind images leaf rest (Some n) here h = IsFirstMissing-behind images (leaf ∷ []) rest n (here, tt) h

-- ---- sectors

-- the fewest sectors of some leaves and one more fit each of them
pub fits_more : (sizes : List ℕ) (leaf : ℕ) (rest : List ℕ) (here others least : ℕ) → here ≡ slice_index_or sizes leaf 0 / sector_size
    → least ≡ min here others → AllByRecursion (λ n. others * sector_size ≤ slice_index_or sizes n 0) rest
    → AllByRecursion (λ n. least * sector_size ≤ slice_index_or sizes n 0) (leaf ∷ rest)
fits_more sizes leaf rest here others least is least_is behind =
    let size = slice_index_or sizes leaf 0 in
    let below : least ≤ here = omega arith in
    let fewer : least ≤ others = omega arith in
    let whole : here * 512 ≤ size = omega arith in (
      (omega arith),
      all_weaker (λ n. others * sector_size ≤ slice_index_or sizes n 0) (λ n. least * sector_size ≤ slice_index_or sizes n 0) rest
          (λ n fits. omega arith) behind,
    )
