-- The bytes of a span and of its parts, and rows that none of the parts meets.
use Rattle.std.proofs.Common.{◌≡◌, ℕ, zero, suc, ◌+◌, ◌-◌, ◌<◌, ◌≤◌, List, [], ◌∷◌, ◌++◌, length, set, take, drop, map, Bool, true, false, ◌&&◌, not, ◌==◌, length-append, cond, find, Option, Some, None, option_map, Result, Ok, Err, ⊎_elim, refl, sym, ap, ◌∙◌, arith, nat_lt, nat_le}
use Rattle.std.proofs.lemmas.Bool.{ltb-true, cases_lt}
use Rattle.std.proofs.lemmas.Bool.Decides.{nat_tests}
use Rattle.std.proofs.lemmas.List.{drop-take, drop-drop, take-take, set-set}
use Rattle.std.proofs.lemmas.List.Edits.{sets, sets-eq}
use Rattle.std.proofs.Math.Seq.{length-sets, take-nil, drop-nil}
use Rattle.zio_types.specs.Bytes.{overwritten}
use Rattle.zio_types.specs.declared.error.Errno.{Errno}
use Rattle.zio_faults.specs.declared.table.Row.{Row}
use Rattle.zio_faults.specs.declared.table.Hit.{Hit}
use Rattle.zio_faults.specs.declared.table.FaultKind.{FaultKind}
use Rattle.zio_faults.specs.declared.table.FaultKind.TheVariants.{Eio, Gone, Flip}
use Rattle.zio_faults.specs.declared.table.Operation.{Operation}
use Rattle.zio_faults.specs.Hits.{common_end, common_start, first_hit, hit_on, inverted, is_for, selects}
use Rattle.zio_cksum.specs.Images.{Images, Setting, Spot, bytes_at, faulty_read, image_of, met, read_leaf, read_met}
use Rattle.zio_cksum.proofs.ByteLemmas.{image_of_same, images_past, length-overwritten}
use Rattle.zio_disks.specs.Disks.{found_with}
use Rattle.zio_groups.specs.declared.waiting.Answered.{Answered}
use Rattle.zio_groups.specs.Issued.{front_of, read_answered}

-- ---- a part of what was read

pub cut : (xs : List ℕ) (from whole at len : ℕ) → from ≤ at → at + len ≤ from + whole → take len (drop (at - from) (take whole (drop from xs))) ≡ take len (drop at xs)
cut xs from whole at len below inside =
    let d : ℕ = at - from in
    let m : ℕ = whole - d in
    let e : whole ≡ d + m = omega arith in
    let f : from + d ≡ at = omega arith in
    ap (λ (n : ℕ). take len (drop d (take n (drop from xs)))) e
    ∙ ap (take len) (drop-take d m (drop from xs))
    ∙ take-take len m (drop d (drop from xs)) (omega arith)
    ∙ ap (take len) (drop-drop d from xs)
    ∙ ap (λ (n : ℕ). take len (drop n xs)) f

-- ---- the first bytes of what was read

abbrev turned : (ℕ → ℕ) → ℕ → ℕ → ℕ → List ℕ → List ℕ
turned f d n m xs = (take d xs ++ map f (take n (drop d xs))) ++ drop m xs

turned-nil : (f : ℕ → ℕ) (d n m : ℕ) → turned f d n m [] ≡ []
turned-nil f d n m =
    ap (λ (zs : List ℕ). (take d [] ++ map f (take n (drop d []))) ++ zs) (drop-nil m)
    ∙ ap (λ (zs : List ℕ). (zs ++ map f (take n (drop d []))) ++ []) (take-nil d)
    ∙ ap (λ (zs : List ℕ). map f (take n zs) ++ []) (drop-nil d)
    ∙ ap (λ (zs : List ℕ). map f zs ++ []) (take-nil n)

turned-front : (f : ℕ → ℕ) (len d n m : ℕ) (xs : List ℕ) → m ≡ d + n → take len (turned f d n m xs) ≡ turned f d n m (take len xs)
turned-front f zero d n m xs e = sym (turned-nil f d n m)
turned-front f (suc len) d n m [] e = ap (take (suc len)) (turned-nil f d n m) ∙ sym (turned-nil f d n m)
turned-front f (suc len) zero zero zero (x ∷ xs) e = refl
turned-front f (suc len) zero zero (suc m) (x ∷ xs) e = absurd (omega arith)
turned-front f (suc len) zero (suc n) zero (x ∷ xs) e = absurd (omega arith)
turned-front f (suc len) zero (suc n) (suc m) (x ∷ xs) e = ap (λ (ys : List ℕ). f x ∷ ys) (turned-front f len zero n m xs (omega arith))
turned-front f (suc len) (suc d) n zero (x ∷ xs) e = absurd (omega arith)
turned-front f (suc len) (suc d) n (suc m) (x ∷ xs) e = ap (λ (ys : List ℕ). x ∷ ys) (turned-front f len d n m xs (omega arith))

abbrev as_ok : List ℕ → Result (List ℕ) Errno
as_ok bytes = Ok bytes

faulty_front : (kind : FaultKind) (hit : Hit) (at len : ℕ) (bytes : List ℕ) → faulty_read kind hit at (take len bytes) ≡ front_of len (faulty_read kind hit at bytes)
faulty_front Eio hit at len bytes = refl
faulty_front Gone hit at len bytes = refl
faulty_front Flip hit at len bytes =
    ap as_ok (sym (turned-front inverted len (hit.at - at) hit.len (hit.at - at + hit.len) bytes refl))

met_front : (hit : Option Hit) (at len : ℕ) (bytes : List ℕ) → read_met hit at (take len bytes) ≡ front_of len (read_met hit at bytes)
met_front None at len bytes = refl
met_front (Some hit) at len bytes = faulty_front hit.kind hit at len bytes

-- a read of fewer bytes of a place answers the first of those that a read of the whole place answers, or its error
pub read_front : (s : Setting) (retry : Bool) (images : Images) (len : ℕ) (spot : Spot) → len ≤ spot.span → read_leaf s retry images len spot ≡ front_of len (read_leaf s retry images spot.span spot)
read_front s retry images len spot h =
    let here : List ℕ = drop spot.at (image_of images spot.leaf) in
    ap (read_met (met s retry false spot) spot.at) (sym (take-take len spot.span here h))
    ∙ met_front (met s retry false spot) spot.at len (take spot.span here)

found_answer : (ticket len : ℕ) (r : Result (List ℕ) Errno) → found_with (read_answered ticket r).error (take len (read_answered ticket r).bytes) ≡ front_of len r
found_answer ticket len (Ok bytes) = refl
found_answer ticket len (Err e) = refl

-- so an answer that holds the whole range serves who wants its first bytes
pub found_front : (s : Setting) (retry : Bool) (images : Images) (ticket len : ℕ) (spot : Spot) (answer : Answered) → len ≤ spot.span → answer ≡ read_answered ticket (read_leaf s retry images spot.span spot)
    → found_with answer.error (take len answer.bytes) ≡ read_leaf s retry images len spot
found_front s retry images ticket len spot answer room is =
    ap (λ (a : Answered). found_with a.error (take len a.bytes)) is
    ∙ found_answer ticket len (read_leaf s retry images spot.span spot)
    ∙ sym (read_front s retry images len spot room)

-- ---- bytes that are written behind others

sets_behind : (xs vs ws : List ℕ) (i j : ℕ) → j ≡ i + length vs → sets (sets xs i vs) j ws ≡ sets xs i (vs ++ ws)
sets_behind xs [] ws i j e = let f : j ≡ i = omega arith in ap (λ (n : ℕ). sets xs n ws) f
sets_behind xs (v ∷ vs) ws i j e = sets_behind (set xs i v) vs ws (suc i) j (omega arith)

pub over_behind : (xs vs ws : List ℕ) (i j : ℕ) → j ≡ i + length vs → j + length ws ≤ length xs → overwritten (overwritten xs i vs) j ws ≡ overwritten xs i (vs ++ ws)
over_behind xs vs ws i j e h =
    let first : i + length vs ≤ length xs = omega arith in
    let kept : length (sets xs i vs) ≡ length xs = length-sets xs i vs in
    let both : i + length (vs ++ ws) ≤ length xs = omega (arith, length-append vs ws) in
    ap (λ (l : List ℕ). overwritten l j ws) (sym (sets-eq vs xs i first))
    ∙ sym (sets-eq ws (sets xs i vs) j (omega arith))
    ∙ sets_behind xs vs ws i j e
    ∙ sets-eq (vs ++ ws) xs i both

-- of one leaf
pub with_behind : (images : Images) (leaf : ℕ) (vs ws : List ℕ) (i j : ℕ) → j ≡ i + length vs → j + length ws ≤ length (image_of images leaf)
    → set (set images leaf (overwritten (image_of images leaf) i vs)) leaf (overwritten (image_of (set images leaf (overwritten (image_of images leaf) i vs)) leaf) j ws)
    ≡ set images leaf (overwritten (image_of images leaf) i (vs ++ ws))
with_behind images leaf vs ws i j e h = ⊎_elim there past (cases_lt leaf (length images))
  where
    first : List ℕ
    first = overwritten (image_of images leaf) i vs

    there : leaf < length images → set (set images leaf first) leaf (overwritten (image_of (set images leaf first) leaf) j ws) ≡ set images leaf (overwritten (image_of images leaf) i (vs ++ ws))
    there l =
        ap (λ (image : List ℕ). set (set images leaf first) leaf (overwritten image j ws)) (image_of_same images leaf first l)
        ∙ set-set images leaf first (overwritten first j ws)
        ∙ ap (set images leaf) (over_behind (image_of images leaf) vs ws i j e h)

    past : length images ≤ leaf → set (set images leaf first) leaf (overwritten (image_of (set images leaf first) leaf) j ws) ≡ set images leaf (overwritten (image_of images leaf) i (vs ++ ws))
    past l =
        let none : set images leaf first ≡ images = images_past images leaf first l in
        ap (λ (is : Images). set is leaf (overwritten (image_of is leaf) j ws)) none
        ∙ images_past images leaf (overwritten (image_of images leaf) j ws) l
        ∙ sym (images_past images leaf (overwritten (image_of images leaf) i (vs ++ ws)) l)

-- a leaf's image keeps its size
pub size_kept : (images : Images) (leaf : ℕ) (bytes : List ℕ) (i : ℕ) → i + length bytes ≤ length (image_of images leaf)
    → length (image_of (set images leaf (overwritten (image_of images leaf) i bytes)) leaf) ≡ length (image_of images leaf)
size_kept images leaf bytes i h =
    ⊎_elim
    (λ (l : leaf < length images). ap length (image_of_same images leaf (overwritten (image_of images leaf) i bytes) l) ∙ length-overwritten (image_of images leaf) i bytes h)
    (λ (l : length images ≤ leaf). ap (λ (is : Images). length (image_of is leaf)) (images_past images leaf (overwritten (image_of images leaf) i bytes) l))
    (cases_lt leaf (length images))

-- ---- rows that aren't met

none_step : (a b : Bool) (row : Row) (f g : Row → Hit) (x y : Option Row) → (a ≡ true → b ≡ true) → (option_map g y ≡ None → option_map f x ≡ None)
    → option_map g (cond b (Some row) y) ≡ None → option_map f (cond a (Some row) x) ≡ None
none_step true true row f g x y h k e = absurd (cc)
none_step true false row f g x y h k e = absurd (let t = h refl in cc)
none_step false true row f g x y h k e = absurd (cc)
none_step false false row f g x y h k e = k e

none_of : (p q : Row → Bool) (f g : Row → Hit) (rows : List Row) → ((row : Row) → p row ≡ true → q row ≡ true) → option_map g (find q rows) ≡ None → option_map f (find p rows) ≡ None
none_of p q f g [] h e = refl
none_of p q f g (row ∷ rows) h e = none_step (p row) (q row) row f g (find p rows) (find q rows) (h row) (none_of p q f g rows h) e

both : (a b : Bool) → a && b ≡ true → (a ≡ true) × (b ≡ true)
both true b e = (refl, e)
both false b e = absurd (let f = e in cc)

parts : (a b c d e : Bool) → a && b && c && d && e ≡ true → (a ≡ true) × (b ≡ true) × (c ≡ true) × (d ≡ true) × (e ≡ true)
parts a b c d e h =
    let one = both (a && b && c && d) e h in
    let two = both (a && b && c) d one.0 in
    let three = both (a && b) c two.0 in
    let four = both a b three.0 in
    (four.0, four.1, three.1, two.1, one.1)

selected : (row : Row) (o : Operation) → selects row o ≡ true → ((row.leaf == o.leaf && is_for row.on o.write) ≡ true) × (nat_lt (common_start row o) (common_end row o) ≡ true) × (nat_le row.from o.point ≡ true) × (nat_lt o.point row.until ≡ true) × (not (row.first && o.retry) ≡ true)
selected row o e = parts (row.leaf == o.leaf && is_for row.on o.write) (nat_lt (common_start row o) (common_end row o)) (nat_le row.from o.point) (nat_lt o.point row.until) (not (row.first && o.retry)) e

five : (a b c d e : Bool) → a ≡ true → b ≡ true → c ≡ true → d ≡ true → e ≡ true → a && b && c && d && e ≡ true
five a b c d e p q r s t = rw (p, q, r, s, t) refl

below : (a b : ℕ) → nat_lt a b ≡ true → a < b
below a b e = ltb-true a b e

is_below : (a b : ℕ) → a < b → nat_lt a b ≡ true
is_below a b h = grind (arith, nat_tests)

not_first : (a : Bool) → not (a && false) ≡ true
not_first true = refl
not_first false = refl

-- an operation within another's range meets no row that the other wouldn't meet in a first pass
selected_within : (row : Row) (o p : Operation) → o.leaf ≡ p.leaf → o.write ≡ p.write → o.point ≡ p.point → p.retry ≡ false → p.at ≤ o.at → o.at + o.len ≤ p.at + p.len
    → selects row o ≡ true → selects row p ≡ true
selected_within row o p leaf write point first low high e =
    let part = selected row o e in
    let meets : common_start row o < common_end row o = below (common_start row o) (common_end row o) part.1 in
    five (row.leaf == p.leaf && is_for row.on p.write) (nat_lt (common_start row p) (common_end row p)) (nat_le row.from p.point) (nat_lt p.point row.until) (not (row.first && p.retry))
    (ap (λ (n : ℕ). row.leaf == n && is_for row.on p.write) (sym leaf) ∙ ap (λ (b : Bool). row.leaf == o.leaf && is_for row.on b) (sym write) ∙ part.0)
    (is_below (common_start row p) (common_end row p) (omega arith))
    (ap (nat_le row.from) (sym point) ∙ part.2)
    (ap (λ (n : ℕ). nat_lt n row.until) (sym point) ∙ part.3)
    (ap (λ (b : Bool). not (row.first && b)) first ∙ not_first row.first)

pub none_within : (rows : List Row) (o p : Operation) → o.leaf ≡ p.leaf → o.write ≡ p.write → o.point ≡ p.point → p.retry ≡ false → p.at ≤ o.at → o.at + o.len ≤ p.at + p.len
    → first_hit rows p ≡ None → first_hit rows o ≡ None
none_within rows o p leaf write point first low high =
    none_of (λ row. selects row o) (λ row. selects row p) (hit_on o) (hit_on p) rows (λ row e. selected_within row o p leaf write point first low high e)

none_found : (rows : List Row) (f : Row → Hit) → option_map f (find (λ (row : Row). false) rows) ≡ None
none_found [] f = refl
none_found (row ∷ rows) f = none_found rows f

-- an operation without bytes meets none
pub none_without : (rows : List Row) (o : Operation) → o.len ≡ 0 → first_hit rows o ≡ None
none_without rows o e =
    none_of (λ (row : Row). selects row o) (λ (row : Row). false) (hit_on o) (hit_on o) rows (λ row k. absurd (empty row o e k)) (none_found rows (hit_on o))
  where
    empty : (row : Row) (o : Operation) → o.len ≡ 0 → selects row o ≡ true → ⊥
    empty row o e k =
        let meets : common_start row o < common_end row o = below (common_start row o) (common_end row o) (selected row o k).1 in
        omega arith

-- a read of no bytes meets no row and answers none
pub read_empty : (s : Setting) (retry : Bool) (images : Images) (spot : Spot) → spot.span ≡ 0 → read_leaf s retry images spot.span spot ≡ Ok []
read_empty s retry images spot e =
    ap (λ (hit : Option Hit). read_met hit spot.at (bytes_at images spot spot.span))
    (none_without s.rows (record { leaf = spot.leaf; write = false; at = spot.at; len = spot.span; point = s.point; retry = retry }) e)
    ∙ ap (λ (n : ℕ). as_ok (take n (drop spot.at (image_of images spot.leaf)))) e
