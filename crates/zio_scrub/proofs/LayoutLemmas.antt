-- The numbers of pieces and copies.
use Rattle.std.proofs.Common.{◌≡◌, ℕ, zero, suc, ◌+◌, ◌-◌, ◌<◌, ◌≤◌, List, [], ◌∷◌, ◌++◌, length, length-append, append_assoc, map, get_or, take, drop, ◌⊎◌, inl, inr, refl, sym, ap, subst, ◌∙◌, arith, IsTrue, ⊎_elim}
use Rattle.std.specs.List.{AllByRecursion}
use Rattle.std.proofs.lemmas.List.{length-map, append-nil}
use Rattle.zio_blkptr.specs.Pointers.{valid}
use Rattle.zio_cksum.specs.Images.{Setting, Spot}
use Rattle.zio_cksum.proofs.AllLemmas.{all_append, all_true}
use Rattle.zio_groups.proofs.IssueLemmas.{taken_more}
use Rattle.zio_scrub.specs.declared.layout.CopyAt.{CopyAt}
use Rattle.zio_scrub.specs.declared.layout.Layout.{Layout}
use Rattle.zio_scrub.specs.declared.layout.Numbered.{Numbered}
use Rattle.zio_scrub.specs.declared.pieces.Piece.{Piece}
use Rattle.zio_scrub.specs.Layouts.{HasPlace, IsCopyOn, IsLayoutOf, IsReadable, copies_from, numbered_from, spots_at}
use Rattle.zio_scrub.specs.Pieces.{seen}
use Rattle.zio_scrub.specs.Reads.{IsSound}

-- ---- one more piece

abbrev one : Piece → ℕ → ℕ → List Numbered
one p first count = record { piece = p; first = first; count = count } ∷ []

abbrev copy_in : ℕ → Spot → CopyAt
copy_in n spot = record { spot = spot; piece = n }

pub numbered_more : (s : Setting) (first n : ℕ) (ps : List Piece) (p : Piece)
    → numbered_from s first (ps ++ p ∷ []) ≡ numbered_from s first ps
    ++ record { piece = p; first = first + length (copies_from s n ps); count = length (spots_at s p) } ∷ []
numbered_more s first n [] p =
    let e : first ≡ first + 0 = omega arith in
    ap (λ (f : ℕ). one p f (length (spots_at s p))) e
numbered_more s first n (q ∷ ps) p =
    let rest = numbered_more s (first + length (spots_at s q)) (n + 1) ps p in
    let e : first + length (spots_at s q) + length (copies_from s (n + 1) ps) ≡ first + length (copies_from s n (q ∷ ps)) =
    omega (arith, length-append (map (copy_in n) (spots_at s q)) (copies_from s (n + 1) ps), length-map (spots_at s q) (copy_in n)) in
    ap (λ (xs : List Numbered). record { piece = q; first = first; count = length (spots_at s q) } ∷ xs) rest
    ∙ ap (λ (f : ℕ). one q first (length (spots_at s q)) ++ (numbered_from s (first + length (spots_at s q)) ps ++ one p f (length (spots_at s p)))) e

pub copies_more : (s : Setting) (n : ℕ) (ps : List Piece) (p : Piece)
    → copies_from s n (ps ++ p ∷ []) ≡ copies_from s n ps ++ map (copy_in (n + length ps)) (spots_at s p)
copies_more s n [] p =
    let e : n ≡ n + 0 = omega arith in
    append-nil (map (copy_in n) (spots_at s p)) ∙ ap (λ (k : ℕ). map (copy_in k) (spots_at s p)) e
copies_more s n (q ∷ ps) p =
    let e : n + 1 + length ps ≡ n + length (q ∷ ps) = omega arith in
    ap (λ (cs : List CopyAt). map (copy_in n) (spots_at s q) ++ cs) (copies_more s (n + 1) ps p
    ∙ ap (λ (k : ℕ). copies_from s (n + 1) ps ++ map (copy_in k) (spots_at s p)) e)
    ∙ sym (append_assoc (map (copy_in n) (spots_at s q)) (copies_from s (n + 1) ps) (map (copy_in (n + length (q ∷ ps))) (spots_at s p)))

pub numbered_length : (s : Setting) (first : ℕ) (ps : List Piece) → length (numbered_from s first ps) ≡ length ps
numbered_length s first [] = refl
numbered_length s first (p ∷ ps) = omega (arith, numbered_length s (first + length (spots_at s p)) ps)

-- the next piece, where some are laid out
pub laid_numbered : (s : Setting) (ps qs : List Piece) (p : Piece) (old new : List Numbered) (copies : List CopyAt) → qs ≡ ps ++ p ∷ []
    → old ≡ numbered_from s 0 ps → copies ≡ copies_from s 0 ps
    → new ≡ old ++ record { piece = p; first = length copies; count = length (spots_at s p) } ∷ [] → new ≡ numbered_from s 0 qs
laid_numbered s ps qs p old new copies more was cs now =
    now ∙ ap (λ (xs : List Numbered). xs ++ record { piece = p; first = length copies; count = length (spots_at s p) } ∷ []) was
    ∙ ap (λ (f : ℕ). numbered_from s 0 ps ++ one p f (length (spots_at s p)))
    (let e : length copies ≡ length (copies_from s 0 ps) = ap (λ (xs : List CopyAt). length xs) cs in
    let f : length copies ≡ 0 + length (copies_from s 0 ps) = omega arith in f)
    ∙ sym (numbered_more s 0 0 ps p)
    ∙ ap (numbered_from s 0) (sym more)

pub laid_copies : (s : Setting) (ps qs : List Piece) (p : Piece) (numbered : List Numbered) (old new : List CopyAt) → qs ≡ ps ++ p ∷ []
    → numbered ≡ numbered_from s 0 ps → old ≡ copies_from s 0 ps
    → new ≡ old ++ map (copy_in (length numbered)) (spots_at s p) → new ≡ copies_from s 0 qs
laid_copies s ps qs p numbered old new more ns was now =
    let e : length numbered ≡ length (numbered_from s 0 ps) = ap (λ (xs : List Numbered). length xs) ns in
    let f : length numbered ≡ 0 + length ps = omega (arith, numbered_length s 0 ps) in
    now ∙ ap (λ (xs : List CopyAt). xs ++ map (copy_in (length numbered)) (spots_at s p)) was
    ∙ ap (λ (k : ℕ). copies_from s 0 ps ++ map (copy_in k) (spots_at s p)) f
    ∙ sym (copies_more s 0 ps p)
    ∙ ap (copies_from s 0) (sym more)

-- ---- where a copy stands

-- it is one of the first piece's, or one behind them
pub record IsFirst (P : Spot → Type 0) (n : ℕ) (us : List Spot) (i : ℕ) (c : CopyAt) : Type 0 where
  pub below : i < length us
  pub piece : c.piece ≡ n
  pub has : P c.spot

pub record IsBehind (us : List Spot) (rest : List CopyAt) (i : ℕ) (c : CopyAt) : Type 0 where
  pub left : ℕ
  pub is : i ≡ length us + left
  pub below : left < length rest
  pub at : get_or rest left c ≡ c

split_at : (P : Spot → Type 0) (n : ℕ) (us : List Spot) (rest : List CopyAt) (i : ℕ) (c : CopyAt) → AllByRecursion P us
    → i < length (map (copy_in n) us ++ rest) → get_or (map (copy_in n) us ++ rest) i c ≡ c → IsFirst P n us i c ⊎ IsBehind us rest i c
split_at P n [] rest i c h l e = inr (record { left = i; is = omega arith; below = l; at = e })
split_at P n (u ∷ us) rest zero c h l e =
    inl (record { below = omega arith; piece = sym (ap (λ (x : CopyAt). x.piece) e); has = subst P (ap (λ (x : CopyAt). x.spot) e) h.0 })
split_at P n (u ∷ us) rest (suc i) c h l e =
    ⊎_elim
    (λ (f : IsFirst P n us i c). inl (record { below = let b = f.below in omega arith; piece = f.piece; has = f.has }))
    (λ (b : IsBehind us rest i c). inr (record { left = b.left; is = let k = b.is in omega arith; below = b.below; at = b.at }))
    (split_at P n us rest i c h.1 (omega arith) e)

-- a copy's piece
pub record IsOf (s : Setting) (n first : ℕ) (ps : List Piece) (i : ℕ) (c : CopyAt) (sizes : List ℕ) : Type 0 where
  pub below : c.piece < n + length ps
  pub from : n ≤ c.piece
  pub range : (k : ℕ) (m : Numbered) → c.piece ≡ n + k → get_or (numbered_from s first ps) k m ≡ m
      → (m.first ≤ first + i) × (first + i < m.first + m.count)
  pub on : (k : ℕ) (m : Numbered) → c.piece ≡ n + k → get_or (numbered_from s first ps) k m ≡ m → IsCopyOn sizes (seen m.piece).size c.spot

copy_of : (s : Setting) (sizes : List ℕ) (n first : ℕ) (ps : List Piece) (i : ℕ) (c : CopyAt) → AllByRecursion (IsReadable s sizes) ps
    → i < length (copies_from s n ps) → get_or (copies_from s n ps) i c ≡ c → IsOf s n first ps i c sizes
copy_of s sizes n first [] i c h l e = absurd (omega arith)
copy_of s sizes n first (p ∷ ps) i c h l e =
    ⊎_elim
    (λ (f : IsFirst (IsCopyOn sizes (seen p).size) n (spots_at s p) i c).
    let is = f.piece in
    let here = f.below in
    record {
      below = omega arith;
      from = omega arith;
      range = λ k m at got. head_range k m (omega arith) got here;
      on = λ k m at got. head_on k m (omega arith) got f.has;
    })
    (λ (b : IsBehind (spots_at s p) (copies_from s (n + 1) ps) i c).
    let rest = copy_of s sizes (n + 1) (first + length (spots_at s p)) ps b.left c h.1 b.below b.at in
    let low = rest.from in
    let high = rest.below in
    let is = b.is in
    record {
      below = omega arith;
      from = omega arith;
      range = λ k m at got. tail_range k m c.piece at low got b.left is (λ j e g. rest.range j m e g);
      on = λ k m at got. tail_on k m c.piece at low got (λ j e g. rest.on j m e g);
    })
    (split_at (IsCopyOn sizes (seen p).size) n (spots_at s p) (copies_from s (n + 1) ps) i c h.0.spots l e)
  where
    top : Numbered
    top = record { piece = p; first = first; count = length (spots_at s p) }

    head_range : (k : ℕ) (m : Numbered) → k ≡ 0 → get_or (numbered_from s first (p ∷ ps)) k m ≡ m → i < length (spots_at s p)
        → (m.first ≤ first + i) × (first + i < m.first + m.count)
    head_range zero m z got here = subst (λ (x : Numbered). (x.first ≤ first + i) × (first + i < x.first + x.count)) got (omega arith, omega arith)
    head_range (suc k) m z got here = absurd (omega arith)

    head_on : (k : ℕ) (m : Numbered) → k ≡ 0 → get_or (numbered_from s first (p ∷ ps)) k m ≡ m → IsCopyOn sizes (seen p).size c.spot
        → IsCopyOn sizes (seen m.piece).size c.spot
    head_on zero m z got has = subst (λ (x : Numbered). IsCopyOn sizes (seen x.piece).size c.spot) got has
    head_on (suc k) m z got has = absurd (omega arith)

    tail_range : (k : ℕ) (m : Numbered) (piece : ℕ) → piece ≡ n + k → n + 1 ≤ piece → get_or (numbered_from s first (p ∷ ps)) k m ≡ m
        → (left : ℕ) → i ≡ length (spots_at s p) + left
        → ((j : ℕ) → piece ≡ n + 1 + j → get_or (numbered_from s (first + length (spots_at s p)) ps) j m ≡ m
        → (m.first ≤ first + length (spots_at s p) + left) × (first + length (spots_at s p) + left < m.first + m.count))
        → (m.first ≤ first + i) × (first + i < m.first + m.count)
    tail_range zero m piece at low got left is rest = absurd (omega arith)
    tail_range (suc k) m piece at low got left is rest = let r = rest k (omega arith) got in (omega (arith, r.0), omega (arith, r.1))

    tail_on : (k : ℕ) (m : Numbered) (piece : ℕ) → piece ≡ n + k → n + 1 ≤ piece → get_or (numbered_from s first (p ∷ ps)) k m ≡ m
        → ((j : ℕ) → piece ≡ n + 1 + j → get_or (numbered_from s (first + length (spots_at s p)) ps) j m ≡ m
        → IsCopyOn sizes (seen m.piece).size c.spot) → IsCopyOn sizes (seen m.piece).size c.spot
    tail_on zero m piece at low got rest = absurd (omega arith)
    tail_on (suc k) m piece at low got rest = rest k (omega arith) got

-- a piece's copies
pub record HasCopies (s : Setting) (n first : ℕ) (ps : List Piece) (k : ℕ) (m : Numbered) : Type 0 where
  pub from : first ≤ m.first
  pub within : m.first + m.count ≤ first + length (copies_from s n ps)
  pub own : (i r : ℕ) (c : CopyAt) → i < m.count → m.first + i ≡ first + r → get_or (copies_from s n ps) r c ≡ c → c.piece ≡ n + k

piece_of : (s : Setting) (n first : ℕ) (ps : List Piece) (k : ℕ) (m : Numbered) → k < length ps
    → get_or (numbered_from s first ps) k m ≡ m → HasCopies s n first ps k m
piece_of s n first [] k m l got = absurd (omega arith)
piece_of s n first (p ∷ ps) zero m l got =
    let len = length-append (map (copy_in n) (spots_at s p)) (copies_from s (n + 1) ps) in
    let mapped = length-map (spots_at s p) (copy_in n) in
    subst (λ (x : Numbered). HasCopies s n first (p ∷ ps) 0 x) got
    (record {
      from = omega arith;
      within = omega arith;
      own = λ i r c low at e. first_own i r c low (omega arith) e;
    })
  where
    first_own : (i r : ℕ) (c : CopyAt) → i < length (spots_at s p) → i ≡ r → get_or (copies_from s n (p ∷ ps)) r c ≡ c → c.piece ≡ n + 0
    first_own i r c low at e =
        let inside : r < length (copies_from s n (p ∷ ps)) =
        omega (arith, length-append (map (copy_in n) (spots_at s p)) (copies_from s (n + 1) ps), length-map (spots_at s p) (copy_in n)) in
        ⊎_elim
        (λ (f : IsFirst (λ (u : Spot). Unit {0}) n (spots_at s p) r c). let q = f.piece in omega arith)
        (λ (b : IsBehind (spots_at s p) (copies_from s (n + 1) ps) r c). let q = b.is in absurd (omega arith))
        (split_at (λ (u : Spot). Unit {0}) n (spots_at s p) (copies_from s (n + 1) ps) r c (all_true (λ (u : Spot). Unit {0}) (spots_at s p) (λ u. tt)) inside e)
piece_of s n first (p ∷ ps) (suc k) m l got =
    let len = length-append (map (copy_in n) (spots_at s p)) (copies_from s (n + 1) ps) in
    let mapped = length-map (spots_at s p) (copy_in n) in
    let rest = piece_of s (n + 1) (first + length (spots_at s p)) ps k m (omega arith) got in
    let low = rest.from in
    let high = rest.within in
    record {
      from = omega arith;
      within = omega arith;
      own = λ i r c below at e. later_own i r c low high below at e rest.own;
    }
  where
    later_own : (i r : ℕ) (c : CopyAt) → first + length (spots_at s p) ≤ m.first
        → m.first + m.count ≤ first + length (spots_at s p) + length (copies_from s (n + 1) ps) → i < m.count → m.first + i ≡ first + r
        → get_or (copies_from s n (p ∷ ps)) r c ≡ c
        → ((i r : ℕ) (c : CopyAt) → i < m.count → m.first + i ≡ first + length (spots_at s p) + r → get_or (copies_from s (n + 1) ps) r c ≡ c
        → c.piece ≡ n + 1 + k) → c.piece ≡ n + suc k
    later_own i r c low high below at e own =
        let inside : r < length (copies_from s n (p ∷ ps)) =
        omega (arith, length-append (map (copy_in n) (spots_at s p)) (copies_from s (n + 1) ps), length-map (spots_at s p) (copy_in n)) in
        ⊎_elim
        (λ (f : IsFirst (λ (u : Spot). Unit {0}) n (spots_at s p) r c). let q = f.below in absurd (omega arith))
        (λ (b : IsBehind (spots_at s p) (copies_from s (n + 1) ps) r c).
        let q = b.is in
        let a = own i b.left c below (omega arith) b.at in
        omega arith)
        (split_at (λ (u : Spot). Unit {0}) n (spots_at s p) (copies_from s (n + 1) ps) r c (all_true (λ (u : Spot). Unit {0}) (spots_at s p) (λ u. tt)) inside e)

pieces_valid : (s : Setting) (sizes : List ℕ) (first : ℕ) (ps : List Piece) → AllByRecursion (IsReadable s sizes) ps
    → AllByRecursion (λ (n : Numbered). IsTrue (valid n.piece.pointer)) (numbered_from s first ps)
pieces_valid s sizes first [] h = tt
pieces_valid s sizes first (p ∷ ps) h = (h.0.ok, pieces_valid s sizes (first + length (spots_at s p)) ps h.1)

rising_pieces : (s : Setting) (first : ℕ) (ps : List Piece) (k : ℕ) (n m : Numbered) → k + 1 < length (numbered_from s first ps)
    → get_or (numbered_from s first ps) k n ≡ n → get_or (numbered_from s first ps) (k + 1) m ≡ m → n.first + n.count ≤ m.first
rising_pieces s first [] k n m l a b = absurd (omega arith)
rising_pieces s first (p ∷ []) k n m l a b = absurd (omega arith)
rising_pieces s first (p ∷ q ∷ ps) zero n m l a b =
    let e : 0 + 1 ≡ 1 = omega arith in
    let c : get_or (numbered_from s first (p ∷ q ∷ ps)) 1 m ≡ m = subst (λ (i : ℕ). get_or (numbered_from s first (p ∷ q ∷ ps)) i m ≡ m) e b in
    let x : first ≡ n.first = ap (λ (y : Numbered). y.first) a in
    let y : length (spots_at s p) ≡ n.count = ap (λ (y : Numbered). y.count) a in
    let z : first + length (spots_at s p) ≡ m.first = ap (λ (y : Numbered). y.first) c in
    omega arith
rising_pieces s first (p ∷ q ∷ ps) (suc k) n m l a b =
    let e : suc k + 1 ≡ suc (k + 1) = omega arith in
    rising_pieces s (first + length (spots_at s p)) (q ∷ ps) k n m (omega arith) a
    (subst (λ (i : ℕ). get_or (numbered_from s first (p ∷ q ∷ ps)) i m ≡ m) e b)

sound_lists : (s : Setting) (sizes : List ℕ) (ps : List Piece) → AllByRecursion (IsReadable s sizes) ps
    → IsSound (record { pieces = numbered_from s 0 ps; copies = copies_from s 0 ps })
sound_lists s sizes ps h =
    record {
      pieces = pieces_valid s sizes 0 ps h;
      piece = λ t c at. let o = copy_of s sizes 0 0 ps t c h at.within at.is in
          let b = o.below in omega (arith, numbered_length s 0 ps);
      range = λ t c n at it.
          let r = (copy_of s sizes 0 0 ps t c h at.within at.is).range c.piece n (omega arith) it.is in (omega (arith, r.0), omega (arith, r.1));
      room = λ t c n at it. ((copy_of s sizes 0 0 ps t c h at.within at.is).on c.piece n (omega arith) it.is).room;
      rising = λ p n m a b. rising_pieces s 0 ps p n m b.within a.is b.is;
      within = λ p n it.
          let w = (piece_of s 0 0 ps p n (let w = it.within in omega (arith, numbered_length s 0 ps)) it.is).within in omega (arith, w);
      own = λ p i n c it low at.
          let o = (piece_of s 0 0 ps p n (let w = it.within in omega (arith, numbered_length s 0 ps)) it.is).own i (n.first + i) c low
          (omega arith) at.is in omega (arith, o);
    }

pub layout_sound : (s : Setting) (sizes : List ℕ) (ps : List Piece) (layout : Layout) → AllByRecursion (IsReadable s sizes) ps
    → IsLayoutOf s ps layout → IsSound layout
layout_sound s sizes ps layout h is =
    let same : layout ≡ record { pieces = numbered_from s 0 ps; copies = copies_from s 0 ps } =
    (λ i. record { pieces = is.pieces_are i; copies = is.copies_are i }) in
    subst IsSound (sym same) (sound_lists s sizes ps h)

got_same : {X : Type 0} (xs : List X) (i : ℕ) (d : X) → i < length xs → get_or xs i d ≡ get_or xs i (get_or xs i d)
got_same [] i d l = absurd (omega arith)
got_same (x ∷ xs) zero d l = refl
got_same (x ∷ xs) (suc i) d l = got_same xs i d (omega arith)

pub next_numbered : (s : Setting) (ps : List Piece) (i : ℕ) (d : Piece) (old new : List Numbered) (copies : List CopyAt) → i < length ps
    → old ≡ numbered_from s 0 (take i ps) → copies ≡ copies_from s 0 (take i ps)
    → new ≡ old ++ record { piece = get_or ps i d; first = length copies; count = length (spots_at s (get_or ps i d)) } ∷ []
    → new ≡ numbered_from s 0 (take (i + 1) ps)
next_numbered s ps i d old new copies l a b e =
    laid_numbered s (take i ps) (take (i + 1) ps) (get_or ps i d) old new copies (taken_more ps i (get_or ps i d) l (got_same ps i d l)) a b e

pub next_copies : (s : Setting) (ps : List Piece) (i : ℕ) (d : Piece) (numbered : List Numbered) (old new : List CopyAt) → i < length ps
    → numbered ≡ numbered_from s 0 (take i ps) → old ≡ copies_from s 0 (take i ps)
    → new ≡ old ++ map (copy_in (length numbered)) (spots_at s (get_or ps i d))
    → new ≡ copies_from s 0 (take (i + 1) ps)
next_copies s ps i d numbered old new l a b e =
    laid_copies s (take i ps) (take (i + 1) ps) (get_or ps i d) numbered old new (taken_more ps i (get_or ps i d) l (got_same ps i d l)) a b e

pub next_some : (ps : List Piece) (i : ℕ) (d : Piece) → i < length ps → AllByRecursion HasPlace (take i ps) → HasPlace (get_or ps i d)
    → AllByRecursion HasPlace (take (i + 1) ps)
next_some ps i d l h k =
    subst (AllByRecursion HasPlace) (sym (taken_more ps i (get_or ps i d) l (got_same ps i d l))) (all_append HasPlace (take i ps) (get_or ps i d ∷ []) h (k, tt))

-- ---- the copies of one piece

drop_front : {X : Type 0} (xs ys : List X) (j : ℕ) → drop (length xs + j) (xs ++ ys) ≡ drop j ys
drop_front [] ys j = let e : 0 + j ≡ j = omega arith in ap (λ (k : ℕ). drop k ys) e
drop_front (x ∷ xs) ys j =
    let e : length (x ∷ xs) + j ≡ suc (length xs + j) = omega arith in
    ap (λ (k : ℕ). drop k (x ∷ (xs ++ ys))) e ∙ drop_front xs ys j

take_front : {X : Type 0} (xs ys : List X) → take (length xs) (xs ++ ys) ≡ xs
take_front [] ys = refl
take_front {X = X} (x ∷ xs) ys = ap (λ (zs : List X). x ∷ zs) (take_front xs ys)

pub slice_of : (s : Setting) (n first : ℕ) (ps : List Piece) (k : ℕ) (m : Numbered) (d : Piece) → k < length ps
    → get_or (numbered_from s first ps) k m ≡ m
    → take m.count (drop (m.first - first) (copies_from s n ps)) ≡ map (copy_in (n + k)) (spots_at s (get_or ps k d))
slice_of s n first [] k m d l e = absurd (omega arith)
slice_of s n first (p ∷ ps) zero m d l e =
    let x : m.first - first ≡ 0 = let y = ap (λ (y : Numbered). y.first) e in omega arith in
    let c : m.count ≡ length (map (copy_in n) (spots_at s p)) =
    sym (ap (λ (y : Numbered). y.count) e) ∙ sym (length-map (spots_at s p) (copy_in n)) in
    let z : n ≡ n + 0 = omega arith in
    ap (λ (f : ℕ). take m.count (drop f (copies_from s n (p ∷ ps)))) x
    ∙ ap (λ (f : ℕ). take f (copies_from s n (p ∷ ps))) c
    ∙ take_front (map (copy_in n) (spots_at s p)) (copies_from s (n + 1) ps)
    ∙ ap (λ (f : ℕ). map (copy_in f) (spots_at s p)) z
slice_of s n first (p ∷ ps) (suc k) m d l e =
    let from = (piece_of s (n + 1) (first + length (spots_at s p)) ps k m (omega arith) e).from in
    let x : m.first - first ≡ length (map (copy_in n) (spots_at s p)) + (m.first - (first + length (spots_at s p))) =
    omega (arith, length-map (spots_at s p) (copy_in n)) in
    let z : n + 1 + k ≡ n + suc k = omega arith in
    ap (λ (f : ℕ). take m.count (drop f (copies_from s n (p ∷ ps)))) x
    ∙ ap (take m.count) (drop_front (map (copy_in n) (spots_at s p)) (copies_from s (n + 1) ps) (m.first - (first + length (spots_at s p))))
    ∙ slice_of s (n + 1) (first + length (spots_at s p)) ps k m d (omega arith) e
    ∙ ap (λ (f : ℕ). map (copy_in f) (spots_at s (get_or ps k d))) z

pub piece_is : (s : Setting) (first : ℕ) (ps : List Piece) (k : ℕ) (m : Numbered) (d : Piece) → k < length ps
    → get_or (numbered_from s first ps) k m ≡ m → (m.piece ≡ get_or ps k d) × (m.count ≡ length (spots_at s (get_or ps k d)))
piece_is s first [] k m d l e = absurd (omega arith)
piece_is s first (p ∷ ps) zero m d l e = (sym (ap (λ (y : Numbered). y.piece) e), sym (ap (λ (y : Numbered). y.count) e))
piece_is s first (p ∷ ps) (suc k) m d l e = piece_is s (first + length (spots_at s p)) ps k m d (omega arith) e
