-- Rows that turn nothing that is stored, and rows that are past.
use Rattle.std.proofs.Common.{◌≡◌, ◌≤◌, ℕ, List, [], ◌∷◌, Bool, true, false, cond, ◌&&◌, ◌==◌, not, nat_lt, nat_le, find, option_map, Option, Some, None, Ok, ⊎_elim, refl, sym, ap, ◌∙◌, arith}
use Rattle.std.proofs.lemmas.Bool.{cases_Bool}
use Rattle.std.specs.List.{AllByRecursion}
use Rattle.zio_faults.specs.declared.table.Hit.{Hit}
use Rattle.zio_faults.specs.declared.table.Operation.{Operation}
use Rattle.zio_faults.specs.declared.table.Row.{Row}
use Rattle.zio_faults.specs.Hits.{common_end, common_start, hit_on, is_for, selects}
use Rattle.zio_script.specs.Whys.{is_flip}
use Rattle.zio_cksum.specs.Images.{Images, Setting, Spot, bytes_at, met, read_leaf, read_met}
use Rattle.zio_trace.proofs.ReaderFaults.{operation}
use Rattle.zio_heal.specs.Copies.{IsPastFaults, StoresAsGiven}
use Rattle.zio_heal.specs.Healed.{turns_stored}

-- ---- which rows are met

second_no : (a b : Bool) → (a && b) ≡ false → a ≡ true → b ≡ false
second_no true b h is = h
second_no false b h is = absurd (cc)

-- a row for the other kind of operation isn't met
not_for : (o : Operation) (row : Row) → is_for row.on o.write ≡ false → selects row o ≡ false
not_for o row e =
    ap (λ (b : Bool). (row.leaf == o.leaf) && b && nat_lt (common_start row o) (common_end row o) && nat_le row.from o.point && nat_lt o.point row.until && not (row.first && o.retry)) e
    ∙ second_off (row.leaf == o.leaf) (nat_lt (common_start row o) (common_end row o)) (nat_le row.from o.point) (nat_lt o.point row.until) (not (row.first && o.retry))
  where
    second_off : (a c d e f : Bool) → (a && false && c && d && e && f) ≡ false
    second_off true c d e f = refl
    second_off false c d e f = refl

-- nor one that is past
not_past : (o : Operation) (row : Row) → nat_lt o.point row.until ≡ false → selects row o ≡ false
not_past o row e =
    ap (λ (b : Bool). (row.leaf == o.leaf) && is_for row.on o.write && nat_lt (common_start row o) (common_end row o) && nat_le row.from o.point && b && not (row.first && o.retry)) e
    ∙ fifth_off (row.leaf == o.leaf) (is_for row.on o.write) (nat_lt (common_start row o) (common_end row o)) (nat_le row.from o.point) (not (row.first && o.retry))
  where
    fifth_off : (a b c d f : Bool) → (a && b && c && d && false && f) ≡ false
    fifth_off false b c d f = refl
    fifth_off true false c d f = refl
    fifth_off true true false d f = refl
    fifth_off true true true false f = refl
    fifth_off true true true true f = refl

-- ---- what is stored

-- a row that is met turns no bytes
abbrev pub TurnsNothing : Option Hit → Type 0
TurnsNothing None = Unit {0}
TurnsNothing (Some hit) = is_flip hit.kind ≡ false

nothing_if : (o : Operation) (row : Row) (x : Option Row) (b : Bool) → (b ≡ true → is_flip row.kind ≡ false) → TurnsNothing (option_map (hit_on o) x) → TurnsNothing (option_map (hit_on o) (cond b (Some row) x))
nothing_if o row x true h rest = h refl
nothing_if o row x false h rest = rest

-- a write meets no row that turns bytes
quiet_row : (s : Setting) (retry : Bool) (spot : Spot) (row : Row) → turns_stored row ≡ false → selects row (operation s retry true spot) ≡ true → is_flip row.kind ≡ false
quiet_row s retry spot row quiet selected =
    ⊎_elim
    (λ (is : is_flip row.kind ≡ true).
    let other : is_for row.on true ≡ false = second_no (is_flip row.kind) (is_for row.on true) quiet is in
    let no : selects row (operation s retry true spot) ≡ false = not_for (operation s retry true spot) row other in
    absurd (let both : true ≡ false = sym selected ∙ no in cc))
    (λ (no : is_flip row.kind ≡ false). no)
    (cases_Bool (is_flip row.kind))

found_quiet : (s : Setting) (retry : Bool) (spot : Spot) (rows : List Row) → AllByRecursion (λ (row : Row). turns_stored row ≡ false) rows → TurnsNothing (option_map (hit_on (operation s retry true spot)) (find (λ row. selects row (operation s retry true spot)) rows))
found_quiet s retry spot [] h = tt
found_quiet s retry spot (row ∷ rows) h =
    nothing_if (operation s retry true spot) row (find (λ row. selects row (operation s retry true spot)) rows) (selects row (operation s retry true spot))
    (quiet_row s retry spot row h.0) (found_quiet s retry spot rows h.1)

pub stores_quiet : (s : Setting) (retry : Bool) (spot : Spot) → StoresAsGiven s → TurnsNothing (met s retry true spot)
stores_quiet s retry spot h = found_quiet s retry spot s.rows h

-- ---- past faults

past_if : (point until : ℕ) → until ≤ point → nat_lt point until ≡ false
past_if point until h = search (arith, h)

none_found : (o : Operation) (rows : List Row) → AllByRecursion (λ (row : Row). row.until ≤ o.point) rows → find (λ row. selects row o) rows ≡ None
none_found o [] h = refl
none_found o (row ∷ rows) h =
    ap (λ (b : Bool). cond b (Some row) (find (λ row. selects row o) rows)) (not_past o row (past_if o.point row.until h.0))
    ∙ none_found o rows h.1

-- no operation meets a row
pub none_met : (s : Setting) (retry write : Bool) (spot : Spot) → IsPastFaults s → met s retry write spot ≡ None
none_met s retry write spot h = ap (option_map (hit_on (operation s retry write spot))) (none_found (operation s retry write spot) s.rows h)

-- a read gives what is there
pub read_there : (s : Setting) (retry : Bool) (images : Images) (len : ℕ) (spot : Spot) → IsPastFaults s → read_leaf s retry images len spot ≡ Ok (bytes_at images spot len)
read_there s retry images len spot h = ap (λ (hit : Option Hit). read_met hit spot.at (bytes_at images spot len)) (none_met s retry false spot h)
