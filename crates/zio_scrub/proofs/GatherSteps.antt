-- The pieces one after another.
use Rattle.std.proofs.Common.{◌≡◌, ℕ, zero, suc, ◌+◌, ◌-◌, ◌<◌, ◌≤◌, List, [], ◌∷◌, ◌++◌, append_assoc, length, length-append, length-drop, map, get_or, take, drop, Option, Some, None, IfSome, Ok, refl, sym, ap, subst, ◌∙◌, arith, false, Contains}
use Rattle.std.specs.List.{AllByRecursion}
use Rattle.std.proofs.lemmas.List.{append-nil, get_or_read, length-map, length-take}
use Rattle.zio_cksum.specs.Images.{Images, Setting, Spot}
use Rattle.zio_cksum.proofs.AllLemmas.{all_append}
use Rattle.zio_groups.proofs.IssueLemmas.{contains_at, taken_more}
use Rattle.zio_scrub.specs.declared.heard.Heard.{Heard}
use Rattle.zio_scrub.specs.declared.heard.Mark.{Mark}
use Rattle.zio_scrub.specs.declared.heard.Mark.TheVariants.{Out, Good, Bad}
use Rattle.zio_scrub.specs.declared.heard.Source.{Source}
use Rattle.zio_scrub.specs.declared.layout.CopyAt.{CopyAt}
use Rattle.zio_scrub.specs.declared.layout.Layout.{Layout}
use Rattle.zio_scrub.specs.declared.layout.Numbered.{Numbered}
use Rattle.zio_scrub.specs.declared.pieces.Piece.{Piece}
use Rattle.zio_scrub.specs.declared.repairs.Repair.{Repair}
use Rattle.zio_scrub.specs.Layouts.{IsLayoutOf, copies_from, numbered_from, spots_at}
use Rattle.zio_scrub.specs.Pieces.{all_seen, seen}
use Rattle.zio_scrub.specs.Reads.{AreAllHeard, IsAt, IsKept, IsSound, IsTrueOf, Says, is_out, mark_at, no_copy, no_numbered, read_at, settled_lost, settled_repairs, slice, source_at, IsFrom, bad_marked, lost_if, marked_if}
use Rattle.zio_scrub.specs.Scrubs.{all_lost, all_repairs, copy_read, lost_of, repairs_of, repairs_with}
use Rattle.zio_scrub.proofs.GatherLemmas.{IsSettled, got_slice, read_got, said_from, settled_piece, spots_in}
use Rattle.zio_scrub.proofs.HearLemmas.{at_default}
use Rattle.zio_scrub.proofs.LayoutLemmas.{numbered_length, piece_is, slice_of}

abbrev copy_at : ℕ → Spot → CopyAt
copy_at p u = record { spot = u; piece = p }

got_map : (p : ℕ) (us : List Spot) (i : ℕ) (u : Spot) → i < length us → get_or us i u ≡ u → get_or (map (copy_at p) us) i (copy_at p u) ≡ copy_at p u
got_map p [] i u l e = absurd (omega arith)
got_map p (v ∷ us) zero u l e = ap (copy_at p) e
got_map p (v ∷ us) (suc i) u l e = got_map p us i u (omega arith) e

spots_back : (p : ℕ) (us : List Spot) → spots_in (map (copy_at p) us) ≡ us
spots_back p [] = refl
spots_back p (u ∷ us) = ap (λ (vs : List Spot). u ∷ vs) (spots_back p us)

slice_length : {X : Type 0} (xs : List X) (f n : ℕ) → f + n ≤ length xs → length (take (f + n - f) (drop f xs)) ≡ n
slice_length xs f n l = simp (length-take, length-drop) (omega arith)

-- a piece of the layout is settled as the definition says
pub piece_settled : (s : Setting) (images : Images) (ps : List Piece) (layout : Layout) (h : Heard) (p : ℕ) (n : Numbered) (d : Piece)
    → IsSound layout → AreAllHeard layout h → IsLayoutOf s ps layout → IsTrueOf s images layout h → IsAt layout.pieces p n
    → IsSettled (copy_read s images (seen (get_or ps p d))) (spots_at s (get_or ps p d))
    (settled_repairs (source_at h p) (slice h.marks.items n) (slice layout.copies n)) (settled_lost (source_at h p) (slice h.marks.items n))
piece_settled s images ps layout h p n d sound heard laid true_of at =
    let in_ps : p < length ps = let w = at.within in let e = ap (λ (xs : List Numbered). length xs) laid.pieces_are in omega (arith, numbered_length s 0 ps) in
    let got : get_or (numbered_from s 0 ps) p n ≡ n = subst (λ (xs : List Numbered). get_or xs p n ≡ n) laid.pieces_are at.is in
    let is = piece_is s 0 ps p n d in_ps got in
    let us : List Spot = spots_at s (get_or ps p d) in
    let piece_eq : n.piece ≡ get_or ps p d = is.0 in
    let count_eq : n.count ≡ length us = is.1 in
    let c1 : n.first + n.count - n.first ≡ n.count = omega arith in
    let within : n.first + n.count ≤ length layout.copies = sound.within p n at in
    let marks_len : length h.marks.items ≡ length layout.copies = heard.heard.marks in
    let zero_first : n.first - 0 ≡ n.first = omega arith in
    let zero_p : 0 + p ≡ p = omega arith in
    let cut : take (n.first + n.count - n.first) (drop n.first layout.copies) ≡ map (copy_at p) us =
    ap (λ (k : ℕ). take k (drop n.first layout.copies)) c1
    ∙ ap (λ (cs : List CopyAt). take n.count (drop n.first cs)) laid.copies_are
    ∙ ap (λ (k : ℕ). take n.count (drop k (copies_from s 0 ps))) (sym zero_first)
    ∙ slice_of s 0 0 ps p n d in_ps got
    ∙ ap (λ (k : ℕ). map (copy_at k) us) zero_p in
    let copy_of : (i : ℕ) (u : Spot) → i < length us → get_or us i u ≡ u → IsAt layout.copies (n.first + i) (copy_at p u) =
    λ i u l e. record {
      within = omega arith;
      is = sym (got_slice layout.copies n.first (n.first + n.count - n.first) i (copy_at p u) (omega arith))
          ∙ ap (λ (cs : List CopyAt). get_or cs i (copy_at p u)) cut ∙ got_map p us i u l e;
    } in
    let here : (i : ℕ) (u : Spot) → i < length us → get_or us i u ≡ u
    → Says (mark_at h (n.first + i)) (copy_read s images (seen (get_or ps p d)) u) × (is_out (mark_at h (n.first + i)) ≡ false) =
    λ i u l e. (
      subst (λ (x : Piece). Says (mark_at h (n.first + i)) (copy_read s images (seen x) u)) piece_eq (true_of.says (n.first + i) (copy_at p u) n (copy_of i u l e) at),
      heard.none_out (n.first + i) (omega arith),
    ) in
    let same : (i : ℕ) → i < n.count → mark_at h (n.first + i) ≡ get_or (slice h.marks.items n) i Out =
    λ i l. sym (got_slice h.marks.items n.first (n.first + n.count - n.first) i Out (omega arith)) in
    let ms_len : length (slice h.marks.items n) ≡ length us = slice_length h.marks.items n.first n.count (omega arith) ∙ count_eq in
    let said = said_from (copy_read s images (seen (get_or ps p d))) us (slice h.marks.items n) ms_len
    (λ i u l e. subst (λ (m : Mark). Says m (copy_read s images (seen (get_or ps p d)) u) × (is_out m ≡ false)) (same i (omega arith)) (here i u l e)) in
    settled_piece (copy_read s images (seen (get_or ps p d))) us (slice h.marks.items n) (slice layout.copies n) (mark_at h) n.first n.count (seen n.piece).size (source_at h p)
    said (ap (λ (cs : List CopyAt). spots_in cs) cut ∙ spots_back p us) (sym count_eq) same (heard.heard.kept p n at)
    (source_read (source_at h p) (heard.heard.kept p n at) (λ c. true_of.bytes p n c at) copy_of piece_eq count_eq)
  where
    source_read : (source : Option Source) → IsKept (mark_at h) n.first n.count (seen n.piece).size source
        → ((c : CopyAt) → IfSome source (λ src. IsAt layout.copies src.copy c → read_at s images n c ≡ Ok src.bytes))
        → ((i : ℕ) (u : Spot) → i < length (spots_at s (get_or ps p d)) → get_or (spots_at s (get_or ps p d)) i u ≡ u → IsAt layout.copies (n.first + i) (copy_at p u))
        → n.piece ≡ get_or ps p d → n.count ≡ length (spots_at s (get_or ps p d))
        → IfSome source (λ src. get_or (map (copy_read s images (seen (get_or ps p d))) (spots_at s (get_or ps p d))) (src.copy - n.first) (Ok src.bytes) ≡ Ok src.bytes)
    source_read None kept told copy_of piece_eq count_eq = tt
    source_read (Some src) kept told copy_of piece_eq count_eq =
        let from = kept.from in
        let below = kept.below in
        let j : ℕ = src.copy - n.first in
        let l : src.copy - n.first < length (spots_at s (get_or ps p d)) = omega arith in
        let u : Spot = get_or (spots_at s (get_or ps p d)) (src.copy - n.first) no_copy.spot in
        let e = (at_default (spots_at s (get_or ps p d)) (src.copy - n.first) no_copy.spot l).is in
        let q : n.first + (src.copy - n.first) ≡ src.copy = omega arith in
        let c = subst (λ (k : ℕ). IsAt layout.copies k (copy_at p u)) q (copy_of (src.copy - n.first) u l e) in
        read_got (copy_read s images (seen (get_or ps p d))) (spots_at s (get_or ps p d)) (src.copy - n.first) u (Ok src.bytes) l e
        ∙ subst (λ (x : Piece). copy_read s images (seen x) u ≡ Ok src.bytes) piece_eq (told (copy_at p u) c)

-- ---- one more piece

flat_end : (s : Setting) (images : Images) (xs : List Piece) (p : Piece)
    → all_repairs s images (all_seen (xs ++ p ∷ [])) ≡ all_repairs s images (all_seen xs) ++ repairs_of s images (seen p)
flat_end s images [] p = append-nil (repairs_of s images (seen p))
flat_end s images (x ∷ xs) p =
    ap (λ (rs : List Repair). repairs_of s images (seen x) ++ rs) (flat_end s images xs p)
    ∙ sym (append_assoc (repairs_of s images (seen x)) (all_repairs s images (all_seen xs)) (repairs_of s images (seen p)))

lost_end : (s : Setting) (images : Images) (xs : List Piece) (p : Piece)
    → all_lost s images (all_seen (xs ++ p ∷ [])) ≡ all_lost s images (all_seen xs) + lost_of s images (seen p)
lost_end s images [] p = omega arith
lost_end s images (x ∷ xs) p = omega (arith, lost_end s images xs p)

pub told_next : (s : Setting) (images : Images) (ps : List Piece) (layout : Layout) (h : Heard) (p : ℕ) (n : Numbered) (old new : List Repair) (lost lost_now : ℕ)
    → IsSound layout → AreAllHeard layout h → IsLayoutOf s ps layout → IsTrueOf s images layout h → IsAt layout.pieces p n
    → new ≡ old ++ settled_repairs (source_at h p) (slice h.marks.items n) (slice layout.copies n)
    → lost_now ≡ lost + settled_lost (source_at h p) (slice h.marks.items n)
    → (old ≡ all_repairs s images (all_seen (take p ps))) × (lost ≡ all_lost s images (all_seen (take p ps)))
    → (new ≡ all_repairs s images (all_seen (take (p + 1) ps))) × (lost_now ≡ all_lost s images (all_seen (take (p + 1) ps)))
told_next s images ps layout h p n old new lost lost_now sound heard laid true_of at repairs more h2 =
    let d : Piece = no_numbered.piece in
    let one = piece_settled s images ps layout h p n d sound heard laid true_of at in
    let in_ps : p < length ps = let w = at.within in let e = ap (λ (xs : List Numbered). length xs) laid.pieces_are in omega (arith, numbered_length s 0 ps) in
    let cut : take (p + 1) ps ≡ take p ps ++ get_or ps p d ∷ [] = taken_more ps p (get_or ps p d) in_ps (sym (at_default ps p d in_ps).is) in
    let le = ap (λ (xs : List Piece). all_lost s images (all_seen xs)) cut in (
      repairs ∙ (λ i. h2.0 i ++ one.repairs_are i) ∙ sym (ap (λ (xs : List Piece). all_repairs s images (all_seen xs)) cut ∙ flat_end s images (take p ps) (get_or ps p d)),
      omega (arith, more, h2.1, one.lost_is, le, lost_end s images (take p ps) (get_or ps p d)),
    )

lost_most : (source : Option Source) (ms : List Mark) → settled_lost source ms ≤ length ms
lost_most (Some src) ms = omega arith
lost_most None [] = omega arith
lost_most None (m ∷ ms) = by m
  where
    by : (x : Mark) → lost_if x (1 + length ms) ≤ length (m ∷ ms)
    by Out = omega arith
    by Good = omega arith
    by Bad = omega arith

pub room_next : (layout : Layout) (h : Heard) (p : ℕ) (n : Numbered) (lost lost_now : ℕ) → IsSound layout → AreAllHeard layout h → IsAt layout.pieces p n
    → lost_now ≡ lost + settled_lost (source_at h p) (slice h.marks.items n) → lost ≤ n.first
    → (m : Numbered) → IsAt layout.pieces (p + 1) m → lost_now ≤ m.first
room_next layout h p n lost lost_now sound heard at more low m next =
    let rise = sound.rising p n m at next in
    let within = sound.within p n at in
    let len = heard.heard.marks in
    omega (arith, lost_most (source_at h p) (slice h.marks.items n), slice_length h.marks.items n.first n.count (omega arith))

bad_most : (ms : List Mark) (cs : List CopyAt) → length (bad_marked ms cs) ≤ length ms
bad_most [] cs = omega arith
bad_most (m ∷ ms) [] = omega arith
bad_most (m ∷ ms) (c ∷ cs) = by m (bad_most ms cs)
  where
    by : (x : Mark) → length (bad_marked ms cs) ≤ length ms → length (marked_if x c.spot (bad_marked ms cs)) ≤ length (m ∷ ms)
    by Out h = omega arith
    by Good h = omega arith
    by Bad h = omega arith

settled_most : (source : Option Source) (ms : List Mark) (cs : List CopyAt) → length (settled_repairs source ms cs) ≤ length ms
settled_most None ms cs = omega arith
settled_most (Some src) ms cs =
    let written : Spot → Repair = λ u. record { spot = u; bytes = src.bytes } in
    let same : length (map written (bad_marked ms cs)) ≡ length (bad_marked ms cs) = length-map (bad_marked ms cs) written in
    let most = bad_most ms cs in
    omega arith

-- the repairs of the pieces so far are no more than their copies
pub few_next : (layout : Layout) (h : Heard) (p : ℕ) (n : Numbered) (old new : List Repair) → IsSound layout → AreAllHeard layout h → IsAt layout.pieces p n
    → new ≡ old ++ settled_repairs (source_at h p) (slice h.marks.items n) (slice layout.copies n) → length old ≤ n.first
    → length new ≤ n.first + n.count
few_next layout h p n old new sound heard at more low =
    let within = sound.within p n at in
    let len = heard.heard.marks in
    let e = ap (λ (rs : List Repair). length rs) more in
    omega (
      arith,
      e,
      length-append old (settled_repairs (source_at h p) (slice h.marks.items n) (slice layout.copies n)),
      settled_most (source_at h p) (slice h.marks.items n) (slice layout.copies n),
      slice_length h.marks.items n.first n.count (omega arith),
    )

from_marked : (layout : Layout) (bytes : List ℕ) (ms : List Mark) (cs : List CopyAt)
    → ((i : ℕ) (c : CopyAt) → i < length cs → get_or cs i c ≡ c → Contains layout.copies c × (length bytes ≤ c.spot.span))
    → AllByRecursion (IsFrom layout) (repairs_with (Some bytes) (bad_marked ms cs))
from_marked layout bytes [] cs h = tt
from_marked layout bytes (m ∷ ms) [] h = tt
from_marked layout bytes (m ∷ ms) (c ∷ cs) h =
    let rest = from_marked layout bytes ms cs (λ i d l e. h (suc i) d (omega arith) e) in
    let one = h 0 c (omega arith) refl in
    by m (record { copy = c; listed = one.0; spot_is = refl; room = one.1 }) rest
  where
    by : (x : Mark) → IsFrom layout (record { spot = c.spot; bytes = bytes }) → AllByRecursion (IsFrom layout) (repairs_with (Some bytes) (bad_marked ms cs))
        → AllByRecursion (IsFrom layout) (repairs_with (Some bytes) (marked_if x c.spot (bad_marked ms cs)))
    by Out one rest = rest
    by Good one rest = rest
    by Bad one rest = (one, rest)

from_settled : (layout : Layout) (h : Heard) (p : ℕ) (n : Numbered) (source : Option Source) → IsSound layout → AreAllHeard layout h → IsAt layout.pieces p n
    → IsKept (mark_at h) n.first n.count (seen n.piece).size source
    → AllByRecursion (IsFrom layout) (settled_repairs source (slice h.marks.items n) (slice layout.copies n))
from_settled layout h p n None sound heard at kept = tt
from_settled layout h p n (Some src) sound heard at kept =
    from_marked layout src.bytes (slice h.marks.items n) (slice layout.copies n)
    (λ i c l e.
    let within = sound.within p n at in
    let low : i < n.count = omega (arith, slice_length layout.copies n.first n.count within) in
    let got : get_or layout.copies (n.first + i) c ≡ c = sym (got_slice layout.copies n.first (n.first + n.count - n.first) i c (omega arith)) ∙ e in
    let is : IsAt layout.copies (n.first + i) c = record { within = omega arith; is = got } in
    let own = sound.own p i n c at low is in
    let room = sound.room (n.first + i) c n is (subst (λ (k : ℕ). IsAt layout.pieces k n) (sym own) at) in
    let whole = kept.whole in
    (contains_at layout.copies (n.first + i) c (omega arith) (sym got), omega arith))

pub from_next : (layout : Layout) (h : Heard) (p : ℕ) (n : Numbered) (old new : List Repair) → IsSound layout → AreAllHeard layout h → IsAt layout.pieces p n
    → new ≡ old ++ settled_repairs (source_at h p) (slice h.marks.items n) (slice layout.copies n) → AllByRecursion (IsFrom layout) old
    → AllByRecursion (IsFrom layout) new
from_next layout h p n old new sound heard at is all =
    subst (AllByRecursion (IsFrom layout)) (sym is)
    (all_append (IsFrom layout) old (settled_repairs (source_at h p) (slice h.marks.items n) (slice layout.copies n)) all
    (from_settled layout h p n (source_at h p) sound heard at (heard.heard.kept p n at)))

take_whole : {X : Type 0} (xs : List X) → take (length xs) xs ≡ xs
take_whole [] = refl
take_whole {X = X} (x ∷ xs) = ap (λ (ys : List X). x ∷ ys) (take_whole xs)

-- all pieces
pub told_last : (s : Setting) (images : Images) (ps : List Piece) (layout : Layout) (h : Heard) (k : ℕ) (repairs : List Repair) (lost : ℕ) → IsLayoutOf s ps layout
    → k ≡ length layout.pieces
    → (repairs ≡ all_repairs s images (all_seen (take k ps))) × (lost ≡ all_lost s images (all_seen (take k ps)))
    → (repairs ≡ all_repairs s images (all_seen ps)) × (lost ≡ all_lost s images (all_seen ps))
told_last s images ps layout h k repairs lost laid e told =
    let n : k ≡ length ps = e ∙ ap (λ (xs : List Numbered). length xs) laid.pieces_are ∙ numbered_length s 0 ps in
    let whole : take k ps ≡ ps = ap (λ (j : ℕ). take j ps) n ∙ take_whole ps in
    subst (λ (xs : List Piece). (repairs ≡ all_repairs s images (all_seen xs)) × (lost ≡ all_lost s images (all_seen xs))) whole told

pub source_is : (h : Heard) (p : ℕ) (source : Option Source) → IsAt h.sources.items p source → source_at h p ≡ source
source_is h p source at = sym (get_or_read h.sources.items p source at.within (sym at.is) None)
