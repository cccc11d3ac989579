-- Rows that turn no bytes and aren't for first passes alone: an operation meets the same row in both passes, and a read
-- that meets one fails whatever the bytes are.
use Rattle.std.proofs.Common.{◌≡◌, ℕ, List, [], ◌∷◌, Bool, true, false, cond, ◌&&◌, ◌==◌, not, nat_lt, nat_le, find, option_map, Option, Some, None, Ok, ◌⊎◌, inl, inr, refl, ap}
use Rattle.zio_types.specs.declared.place.Place.{Place}
use Rattle.zio_faults.specs.declared.table.FaultKind.{FaultKind}
use Rattle.zio_faults.specs.declared.table.FaultKind.TheVariants.{Eio, Gone, Flip}
use Rattle.zio_faults.specs.declared.table.Hit.{Hit}
use Rattle.zio_faults.specs.declared.table.Operation.{Operation}
use Rattle.zio_faults.specs.declared.table.Row.{Row}
use Rattle.zio_faults.specs.Hits.{common_end, common_start, hit_on, is_for, selects}
use Rattle.zio_cksum.specs.Blocks.{first_good, judged, leaves_of, read_order, read_pass, spot_in, then_places}
use Rattle.zio_cksum.specs.Headers.{offset_of}
use Rattle.zio_cksum.specs.Images.{Images, Setting, Spot, bytes_at, faulty_read, met, read_leaf, read_met}
use Rattle.zio_trace.specs.Readers.{RowsArePlain, TurnsNoBytes}

-- ---- both passes

abbrev pub operation : Setting → Bool → Bool → Spot → Operation
operation s retry write spot = record { leaf = spot.leaf; write = write; at = spot.at; len = spot.span; point = s.point; retry = retry }

first_off : (first retry : Bool) → first ≡ false → not (first && retry) ≡ not (first && false)
first_off true retry e = absurd (cc)
first_off false retry e = refl

select_same : (s : Setting) (write : Bool) (spot : Spot) (row : Row) → row.first ≡ false → selects row (operation s true write spot) ≡ selects row (operation s false write spot)
select_same s write spot row e =
    let o : Operation = operation s false write spot in
    ap (λ (b : Bool). (row.leaf == o.leaf) && is_for row.on o.write && nat_lt (common_start row o) (common_end row o) && nat_le row.from o.point && nat_lt o.point row.until && b) (first_off row.first true e)

hit_same : (s : Setting) (write : Bool) (spot : Spot) (row : Row) (x y : Option Row) (a b : Bool) → a ≡ b → option_map (hit_on (operation s true write spot)) x ≡ option_map (hit_on (operation s false write spot)) y
    → option_map (hit_on (operation s true write spot)) (cond a (Some row) x) ≡ option_map (hit_on (operation s false write spot)) (cond b (Some row) y)
hit_same s write spot row x y true true e h = refl
hit_same s write spot row x y true false e h = absurd (cc)
hit_same s write spot row x y false true e h = absurd (cc)
hit_same s write spot row x y false false e h = h

find_same : (s : Setting) (write : Bool) (spot : Spot) (rows : List Row) → RowsArePlain rows
    → option_map (hit_on (operation s true write spot)) (find (λ row. selects row (operation s true write spot)) rows) ≡ option_map (hit_on (operation s false write spot)) (find (λ row. selects row (operation s false write spot)) rows)
find_same s write spot [] plain = refl
find_same s write spot (row ∷ rows) plain =
    hit_same s write spot row (find (λ row. selects row (operation s true write spot)) rows) (find (λ row. selects row (operation s false write spot)) rows)
    (selects row (operation s true write spot)) (selects row (operation s false write spot)) (select_same s write spot row plain.0.0) (find_same s write spot rows plain.1)

pub met_same : (s : Setting) (write : Bool) (spot : Spot) → RowsArePlain s.rows → met s true write spot ≡ met s false write spot
met_same s write spot plain = find_same s write spot s.rows plain

pub read_same : (s : Setting) (images : Images) (len : ℕ) (spot : Spot) → RowsArePlain s.rows → read_leaf s true images len spot ≡ read_leaf s false images len spot
read_same s images len spot plain = ap (λ (h : Option Hit). read_met h spot.at (bytes_at images spot len)) (met_same s false spot plain)

pub pass_same : (s : Setting) (good : List ℕ → Bool) (images : Images) (len : ℕ) (places : List Place) → RowsArePlain s.rows → read_pass s true good images len places ≡ read_pass s false good images len places
pass_same s good images len [] plain = refl
pass_same s good images len (p ∷ ps) plain = λ i.
    then_places s p (first_good (λ leaf. judged good (read_same s images len (spot_in p leaf) plain i)) (read_order (offset_of p) (leaves_of s p))) (pass_same s good images len ps plain i)

-- ---- a row that is met

abbrev pub MetPlain : Option Hit → Type 0
MetPlain None = Unit {0}
MetPlain (Some hit) = TurnsNoBytes hit.kind

plain_if : (o : Operation) (row : Row) (x : Option Row) (b : Bool) → TurnsNoBytes row.kind → MetPlain (option_map (hit_on o) x) → MetPlain (option_map (hit_on o) (cond b (Some row) x))
plain_if o row x true h k = h
plain_if o row x false h k = k

found_plain : (o : Operation) (rows : List Row) → RowsArePlain rows → MetPlain (option_map (hit_on o) (find (λ row. selects row o) rows))
found_plain o [] plain = tt
found_plain o (row ∷ rows) plain = plain_if o row (find (λ row. selects row o) rows) (selects row o) plain.0.1 (found_plain o rows plain.1)

pub met_plain : (s : Setting) (retry write : Bool) (spot : Spot) → RowsArePlain s.rows → MetPlain (met s retry write spot)
met_plain s retry write spot plain = found_plain (operation s retry write spot) s.rows plain

faulty_plain : (kind : FaultKind) (hit : Hit) (at : ℕ) (a b : List ℕ) → TurnsNoBytes kind → faulty_read kind hit at a ≡ faulty_read kind hit at b
faulty_plain Eio hit at a b h = refl
faulty_plain Gone hit at a b h = refl
faulty_plain Flip hit at a b h = absurd h

-- a read gives the bytes, or what it gives doesn't depend on them
pub read_plain : (h : Option Hit) (at : ℕ) (a b : List ℕ) → MetPlain h → (read_met h at b ≡ Ok b) ⊎ (read_met h at b ≡ read_met h at a)
read_plain None at a b plain = inl refl
read_plain (Some hit) at a b plain = inr (faulty_plain hit.kind hit at b a plain)
